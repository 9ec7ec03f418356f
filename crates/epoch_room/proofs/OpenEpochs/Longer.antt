-- What an image shows while a region is sealed.
use Rattle.std.proofs.Common.{◌≡◌, ◌⊎◌, ℕ, ◌+◌, ◌≤◌, true, false, not, IsTrue, List, [], ◌∷◌, ◌++◌, length, Some, Ok, ap, ◌∙◌, inl, inr, arith, append_assoc}
use Rattle.std.specs.List.{AllByRecursion}
use Rattle.std.proofs.lemmas.Bool.{not-true}
use Rattle.fine_model.specs.declared.Header.{Header}
use Rattle.fine_model.specs.declared.Part.{Part}
use Rattle.fine_model.specs.declared.Range.{Range}
use Rattle.fine_model.specs.declared.Row.{Row}
use Rattle.fine_model.specs.declared.Mark.TheVariants as mark
use Rattle.fine_model.specs.RowBytes.{FitsRow, greatest}
use Rattle.fine_model.specs.Merge.{is_ordered, encoded_len}
use Rattle.fine_model.specs.Regions.{Image, region_of, is_sealed, sealed_gate, header_of, header_bytes, body_bytes, partition_bytes, header_in, HasHeader, IsSealed}
use Rattle.fine_model.specs.Chain.{AreRowsOf, chain, chain_end, is_free}
use Rattle.fine_model.specs.ChainLaws.{ShowsAlike, IsLonger}
use Rattle.fine_model.proofs.Chain.Closed.{closed_law}
use Rattle.fine_model.proofs.Chain.Longer.{seal_law}
use Rattle.fine_model.proofs.Ordered.Order.{first_of_both}
use Rattle.log_partition.specs.Encoding.{FitsRange}
use Rattle.log_partition.proofs.Sealed.{good_header, sealed_again}
use Rattle.epoch_room.specs.Partition.{IsArranged}
use Rattle.epoch_room.proofs.OpenEpochs.Partitions.{alike, same_header}
use Rattle.epoch_room.proofs.OpenEpochs.Torn.{HasClosed, HasOpened}

abbrev pub range_of : ℕ → Range
range_of s = record { first = s + 1; last = s + 1 }

rows_kept : (region_len : ℕ) (old new : Image) → ((lead : ℕ) (range : Range) (rows : List Row) → IsSealed region_len old lead range rows → IsSealed region_len new lead range rows)
    → (parts : List Part) (rows : List Row) → AreRowsOf region_len old parts rows → AreRowsOf region_len new parts rows
unfolding AreRowsOf
rows_kept region_len old new kept [] rows is = is
rows_kept region_len old new kept (p ∷ parts) rows is = (is.0, is.1, is.2, kept p.region p.header.range is.0 is.3, rows_kept region_len old new kept parts is.1 is.4)

module _ (region_len region s : ℕ) (parts : List Part) (rows sorted : List Row) (bytes : List ℕ) (base : Image) (small : region_len ≤ 67108864) (is_chain : chain region_len base ≡ Ok parts)
    (free : is_free base region ≡ true) (end : s ≡ chain_end parts) (epoch : s + 1 ≤ greatest) (arranged : IsArranged rows sorted) (within : encoded_len sorted ≤ region_len)
    (spelled : bytes ≡ partition_bytes region_len (range_of s) sorted) where
  pub base_closed : is_sealed (region_of base region) ≡ false
  unfolding is_free
  base_closed = not-true (is_sealed (region_of base region)) (first_of_both (not (is_sealed (region_of base region))) _ free).0

  pub closed_alike : (image : Image) → HasClosed region base image → ShowsAlike region_len base image
  closed_alike image is = closed_law region_len region base image (record { differs = is.differs; free = free; closed = is.closed })

  epochs : FitsRange (range_of s)
  epochs = record { low = omega arith; order = omega arith; high = epoch }

  pub has_header : (image : Image) → HasOpened region bytes base image → HasHeader region_len image region (header_of (range_of s) rows)
  unfolding partition_bytes
  has_header image is =
      let h : List ℕ = header_bytes region_len (header_of (range_of s) sorted) in
      let words : region_of image region ≡ sealed_gate ∷ (h ++ (body_bytes sorted ++ is.rest)) =
      is.spelled ∙ ap (λ xs. (sealed_gate ∷ xs) ++ is.rest) spelled ∙ ap (λ xs. sealed_gate ∷ xs) (append_assoc h (body_bytes sorted) is.rest) in
      ap (header_in region_len (length image) region) words ∙ good_header region_len (range_of s) sorted (body_bytes sorted ++ is.rest) small epochs within (length image) region
      ∙ ap (λ (header : Header). Ok (Some header)) (same_header rows sorted arranged (range_of s))

  pub longer : (image : Image) → HasOpened region bytes base image → IsLonger region_len region base image parts (header_of (range_of s) rows)
  longer image is =
      seal_law region_len region base image parts (header_of (range_of s) rows)
      (record { differs = is.differs; free = (free, tt); is_chain = is_chain; has_header = has_header image is; next = ap (λ n. n + 1) end })

  pub own_rows : AllByRecursion (FitsRow mark.Two) rows → IsTrue (is_ordered sorted) → (image : Image) → HasOpened region bytes base image → IsSealed region_len image region (range_of s) sorted
  own_rows fit ordered image is =
      sealed_again region_len (range_of s) sorted image region is.rest small epochs ((alike rows sorted arranged).fit mark.Two fit) ordered within
      (is.spelled ∙ ap (λ xs. (sealed_gate ∷ xs) ++ is.rest) spelled)

  -- the live parts keep their rows
  pub live_kept : (image : Image) → HasClosed region base image ⊎ HasOpened region bytes base image → (live : List Row) → AreRowsOf region_len base parts live → AreRowsOf region_len image parts live
  live_kept image (inl is) live are = (closed_alike image is).rows parts live are
  live_kept image (inr is) live are = rows_kept region_len base image (longer image is).leads parts live are
