-- What an image shows while rows are sealed that a room takes in.
use Rattle.std.proofs.Common.{◌≡◌, ◌⊎◌, ℕ, ◌+◌, ◌<◌, ◌≤◌, true, List, [], ◌∷◌, ◌++◌, length, sym, ap, subst, ◌∙◌, arith}
use Rattle.std.specs.List.{AllByRecursion, list_any}
use Rattle.std.specs.Prelude.{nat_eq}
use Rattle.fine_model.specs.declared.Part.{Part}
use Rattle.fine_model.specs.declared.Range.{Range}
use Rattle.fine_model.specs.declared.Row.{Row}
use Rattle.fine_model.specs.Chain.{AreRowsOf, Shows, is_free, regions_of}
use Rattle.fine_model.specs.ChainLaws.{IsLonger, ShowsAlike}
use Rattle.fine_model.specs.Headline.{ShowsSome}
use Rattle.fine_model.specs.Nodes.{Agrees}
use Rattle.fine_model.specs.Regions.{HasHeader, Image, IsSealed, header_bytes, header_in, region_of}
use Rattle.fine_model.proofs.Chain.Closed.{closed_law}
use Rattle.fine_model.proofs.Chain.Longer.{seal_law}
use Rattle.fine_model.proofs.Trees.NodeLaws.{Agrees-append}
use Rattle.fine_model.proofs.Ordered.Nothing.{all_at, each_there}
use Rattle.fine_model.proofs.Ordered.Order.{all_map}
use Rattle.log_disk.specs.Disk.{Disk, IsToldOf, SameOutside, Told, with_bytes}
use Rattle.log_disk.specs.Moments.{IsLeft}
use Rattle.log_disk.proofs.Writes.{same_outside_written}
use Rattle.log_partition.specs.Written.{IsGood}
use Rattle.log_partition.proofs.GoodHeaders.{written_header, written_partition}
use Rattle.partition_index.specs.Placing.{HasRoomFor}
use Rattle.partition_index.proofs.BodyPlaces.{start_small}
use Rattle.epoch_room.specs.Gate.{gate}
use Rattle.epoch_room.specs.RowWrites.{HasBodyOf}
use Rattle.epoch_room.specs.Value.{Kept}
use Rattle.epoch_room.specs.Whole.{HoldsParts}
use Rattle.epoch_room.proofs.Adopting.AdoptedParts.{CanAdopt, IsPartFor, part_below, part_beside, part_distinct}
use Rattle.epoch_room.proofs.OpenEpochs.BehindGates.{torn_alike, torn_holds}
use Rattle.epoch_room.proofs.OpenEpochs.Holding.{free_of, held_opened}
use Rattle.epoch_room.proofs.Merges.MergedHeaders.{header_long}
use Rattle.epoch_room.proofs.Merges.OpenedOver.{sealed_body}
use Rattle.epoch_room.proofs.Standing.{nothing_more}
use Rattle.epoch_room.proofs.OpenEpochs.Torn.{HasClosed, HasOpened, at_gate, sealed_bytes}

module _ (old entry : Disk) (kept : Kept) (range : Range) (rows : List Row) (k : ℕ) (c : CanAdopt old entry kept range rows k) (p : Part) (o : IsPartFor old kept.free range rows k p) (a : Told) (told : IsToldOf old a)
    (left : IsLeft (λ image. HoldsParts old.region_len image kept.parts kept.retired) a) where
  abbrev rs : List ℕ
  rs = regions_of p

  abbrev header : List ℕ
  header = header_bytes old.region_len p.header

  -- ---- an image with the body

  module _ (base : Image) (b : HasBodyOf p rows a.bytes base) where
    pub alike_base : ShowsAlike old.region_len a.bytes base
    alike_base = torn_alike old.region_len old.regions kept.parts kept.retired rs (part_beside old entry kept range rows k c p o) (part_below old entry kept range rows k c p o) a.bytes base told.regions (left a.bytes told.image) b.differs

    holds_base : HoldsParts old.region_len base kept.parts kept.retired
    holds_base = torn_holds old.region_len old.regions kept.parts kept.retired rs (part_beside old entry kept range rows k c p o) (part_below old entry kept range rows k c p o) a.bytes base told.regions (left a.bytes told.image) b.differs

    long_base : length base ≡ old.regions
    long_base = b.differs.as_many ∙ told.regions

    free_base : AllByRecursion (λ r. is_free base r ≡ true) rs
    free_base =
        all_map (λ r. list_any (nat_eq r) rs ≡ true) (λ r. is_free base r ≡ true)
        (λ r there.
        let low = all_at (λ q. q < old.regions) r rs (part_below old entry kept range rows k c p o) there in
        free_of old.region_len base kept.parts kept.retired r holds_base (omega (arith, low, long_base)) (part_beside old entry kept range rows k c p o r there)) rs (each_there rs)

    room_base : HasRoomFor old.region_len base p
    room_base = record {
      lies = o.lies;
      apart = part_distinct old entry kept range rows k c p o;
      long = all_map (λ r. r < old.regions) (λ r. (r < length base) × (length (region_of base r) ≡ old.region_len)) (λ r h. (omega (arith, h, long_base), b.differs.lengths r ∙ told.lengths r h)) rs (part_below old entry kept range rows k c p o);
    }

    there : p.region < length base
    there = let l = (part_below old entry kept range rows k c p o).0 in omega (arith, l, long_base)

    long : 1 + length (header_bytes old.region_len p.header) ≤ length (region_of base p.region)
    long =
        let l = header_long old.region_len p.header o.lies.listed in
        let s = start_small p.header.mark in
        let g = o.lies.large in
        let m = b.differs.lengths p.region ∙ told.lengths p.region (part_below old entry kept range rows k c p o).0 in
        omega (arith, l, s, g, m)

    pub gate_either : (image : Image) → SameOutside p.region 0 1 (with_bytes base p.region 1 (header_bytes old.region_len p.header)) image → HasClosed p.region base image ⊎ HasOpened p.region (header_bytes old.region_len p.header) base image
    gate_either image same = at_gate p.region header base there long image same

    pub opened_last : HasOpened p.region (header_bytes old.region_len p.header) base (with_bytes (with_bytes base p.region 1 (header_bytes old.region_len p.header)) p.region 0 gate)
    opened_last = sealed_bytes p.region header base there long

    pub last_same : SameOutside p.region 0 1 (with_bytes base p.region 1 (header_bytes old.region_len p.header)) (with_bytes (with_bytes base p.region 1 (header_bytes old.region_len p.header)) p.region 0 gate)
    last_same =
        let written = same_outside_written base p.region 1 header there long in
        same_outside_written (with_bytes base p.region 1 header) p.region 0 gate (omega (arith, written.regions, there)) (omega (arith, written.lengths p.region, long))

    closed_alike : (image : Image) → HasClosed p.region base image → ShowsAlike old.region_len base image
    closed_alike image is = closed_law old.region_len p.region base image (record { differs = is.differs; free = free_base.0; closed = is.closed })

    module _ (image : Image) (opened : HasOpened p.region (header_bytes old.region_len p.header) base image) where
      good_now : IsGood old.region_len (length image) p.region p.header
      good_now = subst (λ n. IsGood old.region_len n p.region p.header) (sym (opened.differs.as_many ∙ long_base)) o.good

      pub has_header : HasHeader old.region_len image p.region p.header
      has_header = ap (header_in old.region_len (length image) p.region) opened.spelled ∙ written_header old.region_len (length image) p.region p.header opened.rest good_now

      pub longer : IsLonger old.region_len p.region base image kept.parts p.header
      longer =
          seal_law old.region_len p.region base image kept.parts p.header
          (record {
            differs = opened.differs;
            free = free_base;
            is_chain = holds_base.is_chain;
            has_header = has_header;
            next = ap (λ (r : Range). r.first) o.of_range ∙ c.next ∙ ap (λ n. n + 1) c.whole.ends;
          })

      pub holds_more : HoldsParts old.region_len image (kept.parts ++ p ∷ []) kept.retired
      holds_more = held_opened old.region_len p.region header base image kept.parts kept.retired p.header holds_base opened longer has_header

      -- the body is that of the rows
      pub own_rows : SameOutside p.region 0 1 (with_bytes base p.region 1 (header_bytes old.region_len p.header)) image → IsSealed old.region_len image p.region p.header.range rows
      own_rows same =
          written_partition old.region_len image p.region p.header rows
          (record {
            good = good_now;
            front = (opened.rest, opened.spelled);
            of_rows = (o.counted.rows, o.counted.nodes, o.counted.area);
            rows_fit = o.fit;
            ordered = o.counted.ordered;
            spelled = (b.rest, sealed_body old.region_len base image p header room_base (header_long old.region_len p.header o.lies.listed) same ∙ b.body);
          })

      -- the rows of all parts
      pub all_live : IsSealed old.region_len image p.region p.header.range rows → (live : List Row) → AreRowsOf old.region_len a.bytes kept.parts live → AreRowsOf old.region_len image (kept.parts ++ p ∷ []) (live ++ rows)
      all_live own live are = longer.rows live rows (alike_base.rows kept.parts live are) own

      pub shows_both : IsSealed old.region_len image p.region p.header.range rows → (first : List Row) (low high : ℕ) → ShowsSome old.region_len first [] low high a.bytes
          → ShowsSome old.region_len (first ++ rows) [] range.last range.last image
      shows_both own first low high s = record {
        e = range.last;
        rows = s.rows ++ rows;
        shows = subst (λ e. Shows old.region_len image e (s.rows ++ rows)) (ap (λ (r : Range). r.last) o.of_range) (longer.shown s.e s.rows rows (alike_base.shown s.e s.rows s.shows) own);
        from = omega arith;
        to = omega arith;
        agrees = subst (Agrees (s.rows ++ rows)) (sym (nothing_more (first ++ rows) range.last)) (Agrees-append s.rows first rows (subst (Agrees s.rows) (nothing_more first s.e) s.agrees));
      }

    pub shows_still : (image : Image) → HasClosed p.region base image → (first : List Row) (low high : ℕ) → ShowsSome old.region_len first [] low high a.bytes → ShowsSome old.region_len first [] low high image
    shows_still image is first low high s =
        record { e = s.e; rows = s.rows; shows = (closed_alike image is).shown s.e s.rows (alike_base.shown s.e s.rows s.shows); from = s.from; to = s.to; agrees = s.agrees }
