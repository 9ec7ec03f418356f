-- What an image shows while the part of gathered rows is sealed.
use Rattle.std.proofs.Common.{◌≡◌, ◌≢◌, ℕ, ◌≤◌, IsTrue, true, List, [], ◌∷◌, ◌++◌, length, Ok, refl, sym, ap, subst, ◌∙◌, append-nil, append_assoc}
use Rattle.std.specs.Prelude.{IsPermutation}
use Rattle.std.specs.List.{AllByRecursion}
use Rattle.fine_model.specs.declared.Part.{Part}
use Rattle.fine_model.specs.declared.Row.{Row}
use Rattle.fine_model.specs.declared.Mark.TheVariants as mark
use Rattle.fine_model.specs.Chain.{AreRowsOf, chain_end, is_free}
use Rattle.fine_model.specs.ChainLaws.{IsReplaced}
use Rattle.fine_model.specs.Headline.{ShowsSome}
use Rattle.fine_model.specs.History.{Commit, all_rows, upto}
use Rattle.fine_model.specs.Merge.{encoded_len, is_ordered}
use Rattle.fine_model.specs.Nodes.{Agrees}
use Rattle.fine_model.specs.Regions.{HasHeader, Image, IsSealed, body_bytes, header_bytes, header_in, header_of, is_sealed, partition_bytes, region_of, sealed_gate}
use Rattle.fine_model.specs.RowBytes.{FitsRow}
use Rattle.fine_model.proofs.Chain.Replaced.{replace_law}
use Rattle.log_partition.specs.Encoding.{FitsRange}
use Rattle.log_partition.proofs.Sealed.{good_header, sealed_again}
use Rattle.row_gathering.specs.Gathering.{AreGathered}
use Rattle.epoch_room.specs.Gathering.{gathered_part, range_over}
use Rattle.epoch_room.specs.Whole.{HoldsParts}
use Rattle.epoch_room.proofs.Merges.OpenedOver.{held_moved, same_parts}
use Rattle.epoch_room.proofs.OpenEpochs.Torn.{HasOpened}
use Rattle.epoch_room.proofs.Young.YoungParts.{end_young}
use Rattle.epoch_room.proofs.Young.YoungRows.{alike, are_joined, young_agrees}

-- the bytes of a part of rows in order, of the epochs of neighbours
pub record IsYoung (region_len : ℕ) (oldest : Part) (newer : List Part) (rows : List Row) (bytes : List ℕ) : Type 0 where
  pub several : newer ≢ []
  pub small : region_len ≤ 67108864
  pub epochs : FitsRange (range_over oldest newer)
  pub ordered : IsTrue (is_ordered rows)
  pub fit : AllByRecursion (FitsRow mark.Two) rows
  pub within : encoded_len rows ≤ region_len
  pub spelled : bytes ≡ partition_bytes region_len (range_over oldest newer) rows

module _ (region_len region : ℕ) (before : List Part) (oldest : Part) (newer retired : List Part) (rows : List Row) (bytes : List ℕ) (w : IsYoung region_len oldest newer rows bytes) (base : Image)
    (holds : HoldsParts region_len base (before ++ oldest ∷ newer) retired) (free : is_free base region ≡ true) (image : Image) (opened : HasOpened region bytes base image) where
  pub young_header : HasHeader region_len image region (header_of (range_over oldest newer) rows)
  unfolding partition_bytes
  young_header =
      let h : List ℕ = header_bytes region_len (header_of (range_over oldest newer) rows) in
      let words : region_of image region ≡ sealed_gate ∷ (h ++ (body_bytes rows ++ opened.rest)) =
      opened.spelled ∙ ap (λ xs. (sealed_gate ∷ xs) ++ opened.rest) w.spelled ∙ ap (λ xs. sealed_gate ∷ xs) (append_assoc h (body_bytes rows) opened.rest) in
      ap (header_in region_len (length image) region) words ∙ good_header region_len (range_over oldest newer) rows (body_bytes rows ++ opened.rest) w.small w.epochs w.within (length image) region

  pub young_over : IsReplaced region_len region base image before oldest newer [] (header_of (range_over oldest newer) rows)
  young_over =
      replace_law region_len region base image before oldest newer [] (header_of (range_over oldest newer) rows)
      (record {
        differs = opened.differs;
        free = (free, tt);
        is_chain = holds.is_chain ∙ ap (λ (ps : List Part). Ok (before ++ oldest ∷ ps)) (sym (append-nil newer));
        several = w.several;
        has_header = young_header;
        range = refl;
      })

  pub young_sealed : IsSealed region_len image region (range_over oldest newer) rows
  young_sealed = sealed_again region_len (range_over oldest newer) rows image region opened.rest w.small w.epochs w.fit w.ordered w.within (opened.spelled ∙ ap (λ xs. (sealed_gate ∷ xs) ++ opened.rest) w.spelled)

  pub young_held : (retired' : List Part) → IsPermutation (gathered_part region oldest newer rows ∷ ((before ++ oldest ∷ newer) ++ retired)) ((before ++ gathered_part region oldest newer rows ∷ []) ++ retired')
      → HoldsParts region_len image (before ++ gathered_part region oldest newer rows ∷ []) retired'
  young_held retired' moves =
      held_moved region_len base image (gathered_part region oldest newer rows) (before ++ oldest ∷ newer) retired (before ++ gathered_part region oldest newer rows ∷ []) retired' opened.differs (ap is_sealed opened.spelled) young_header
      young_over.headers young_over.is_chain holds moves

  module _ (gathered : AreGathered region_len base (oldest ∷ newer) rows) where
    pub young_rows : (first : List Row) → AreRowsOf region_len base before first → AreRowsOf region_len image (before ++ gathered_part region oldest newer rows ∷ []) (first ++ rows)
    unfolding AreRowsOf
    young_rows first are =
        subst (λ rs. AreRowsOf region_len image (before ++ gathered_part region oldest newer rows ∷ []) (first ++ rs)) (append-nil rows) (young_over.rows first [] rows are refl young_sealed)

    -- it shows the same epoch, and rows that agree with the same log
    pub young_shows : (first : List Row) (history : List Commit) (low high : ℕ) → ShowsSome region_len first history low high base → ShowsSome region_len first history low high image
    young_shows first history low high s =
        let parts : s.shows.parts ≡ before ++ oldest ∷ newer = same_parts s.shows.parts (before ++ oldest ∷ newer) (sym s.shows.is_chain ∙ holds.is_chain) in
        let are = are_joined region_len base before oldest newer rows gathered s.rows (subst (λ ps. AreRowsOf region_len base ps s.rows) parts s.shows.are_rows) in
        record {
          e = s.e;
          rows = are.first ++ rows;
          shows = record {
            parts = before ++ gathered_part region oldest newer rows ∷ [];
            is_chain = young_over.is_chain;
            ends = s.shows.ends ∙ ap chain_end parts ∙ end_young before oldest newer ∙ sym (end_young before (gathered_part region oldest newer rows) []);
            are_rows = young_rows are.first are.of_before;
          };
          from = s.from;
          to = s.to;
          agrees = young_agrees rows gathered.own gathered.same (alike region_len base before oldest newer rows gathered) w.ordered are.first (first ++ all_rows (upto history s.e)) (subst (λ rs. Agrees rs (first ++ all_rows (upto history s.e))) are.joined s.agrees);
        }
