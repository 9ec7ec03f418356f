-- What an image shows while the part of a merge is sealed.
use Rattle.std.proofs.Common.{◌≡◌, ◌≢◌, ℕ, ◌+◌, ◌-◌, ◌<◌, ◌≤◌, ◌==◌, ◌||◌, true, false, List, [], ◌∷◌, ◌++◌, length, take, drop, Some, Ok, Result, refl, sym, ap, subst, ◌∙◌, inl, inr, arith, append_assoc, eq-eqb, take-append-drop}
use Rattle.std.specs.Prelude.{Option, flat_map, IsPermutation}
use Rattle.std.specs.List.{AllByRecursion, list_any}
use Rattle.std.proofs.lemmas.Bool.{cases_eq}
use Rattle.std.proofs.lemmas.List.{drop-drop}
use Rattle.std.proofs.lemmas.List.Sorted.{list_any-IsPermutation}
use Rattle.std.proofs.lemmas.List.Sums.{sum_by-append}
use Rattle.fine_model.specs.declared.Damage.{Damage}
use Rattle.fine_model.specs.declared.Header.{Header}
use Rattle.fine_model.specs.declared.Job.{Job}
use Rattle.fine_model.specs.declared.Mark.{Mark}
use Rattle.fine_model.specs.declared.Mark.TheVariants as mark
use Rattle.fine_model.specs.declared.Part.{Part}
use Rattle.fine_model.specs.declared.Range.{Range}
use Rattle.fine_model.specs.declared.Row.{Row}
use Rattle.fine_model.specs.RowBytes.{FitsRow, row_len, rows_len}
use Rattle.fine_model.specs.Nodes.{Agrees}
use Rattle.fine_model.specs.History.{Commit, all_rows, upto}
use Rattle.fine_model.specs.Headline.{ShowsSome}
use Rattle.fine_model.specs.Jobs.{held_by}
use Rattle.fine_model.specs.Merge.{merged}
use Rattle.fine_model.specs.Regions.{Image, body_bytes, body_in, body_start, continuations, header_bytes, header_in, is_sealed, region_of, HasHeader, IsSealed}
use Rattle.fine_model.specs.Chain.{AreRowsOf, chain, chain_end, is_free, regions_of}
use Rattle.fine_model.specs.ChainLaws.{DiffersAt, IsReplaced, part_of}
use Rattle.fine_model.proofs.Merging.FitMerged.{merged_fits}
use Rattle.fine_model.proofs.Merging.MergedLen.{merged_len}
use Rattle.fine_model.proofs.Merging.MergedRuns.{merged_agrees}
use Rattle.fine_model.proofs.Ordered.Order.{all_map}
use Rattle.fine_model.proofs.Chain.Owning.{mark_fits}
use Rattle.fine_model.proofs.Chain.Replaced.{replace_law, rows_split}
use Rattle.fine_model.proofs.Ordered.Sets.{all_append}
use Rattle.log_disk.specs.Disk.{SameOutside, with_bytes}
use Rattle.log_partition.specs.Written.{IsGood}
use Rattle.log_partition.proofs.GoodHeaders.{written_header, written_partition}
use Rattle.partition_index.specs.Placing.{HasRoomFor}
use Rattle.partition_index.proofs.Placed.{front_stays, lead_apart}
use Rattle.epoch_room.specs.MergeSealing.{WritesMerged}
use Rattle.epoch_room.specs.Whole.{HoldsParts}
use Rattle.epoch_room.proofs.Merges.Retired.{all_moved}
use Rattle.epoch_room.proofs.OpenEpochs.Torn.{HasOpened}

-- ---- the body

-- any byte at the gate leaves the body
gate_body : (old new : Image) (p : Part) → SameOutside p.region 0 1 old new → AllByRecursion (λ r. r ≢ p.region) (continuations p.header) → 1 ≤ body_start p.header.mark → body_in new p.region p.header ≡ body_in old p.region p.header
unfolding body_in
gate_body old new p same apart some =
    let start = body_start p.header.mark in
    let cut : 1 + (start - 1) ≡ start = omega (arith, some) in
    let lead : drop start (region_of new p.region) ≡ drop start (region_of old p.region) =
    ap (λ k. drop k (region_of new p.region)) (sym cut) ∙ sym (drop-drop (start - 1) 1 (region_of new p.region)) ∙ ap (drop (start - 1)) same.after ∙ drop-drop (start - 1) 1 (region_of old p.region)
    ∙ ap (λ k. drop k (region_of old p.region)) cut in
    let rest = behind (continuations p.header) apart in
    λ i. lead i ++ rest i
  where
    behind : (rs : List ℕ) → AllByRecursion (λ r. r ≢ p.region) rs → flat_map (λ r. drop 1 (region_of new r)) rs ≡ flat_map (λ r. drop 1 (region_of old r)) rs
    behind [] all = refl
    behind (r ∷ rs) all = ap (λ bytes. drop 1 bytes ++ flat_map (λ q. drop 1 (region_of new q)) rs) (same.others r all.0) ∙ ap (λ bytes. drop 1 (region_of old r) ++ bytes) (behind rs all.1)

-- so do a header and any byte at the gate
pub sealed_body : (region_len : ℕ) (base image : Image) (p : Part) (bytes : List ℕ) → HasRoomFor region_len base p → 1 + length bytes ≡ body_start p.header.mark → SameOutside p.region 0 1 (with_bytes base p.region 1 bytes) image
    → body_in image p.region p.header ≡ body_in base p.region p.header
sealed_body region_len base image p bytes room long same =
    gate_body (with_bytes base p.region 1 bytes) image p same (lead_apart p room.apart) (omega (arith, long))
    ∙ front_stays region_len base p 1 bytes room (omega (arith, long))

-- ---- rows of parts

-- rows that parts have may stand in a partition of the second format, and of the third
both_fit : (region_len : ℕ) (image : Image) (parts : List Part) (rows : List Row) → AreRowsOf region_len image parts rows → AllByRecursion (FitsRow mark.Two) rows × AllByRecursion (FitsRow mark.Three) rows
unfolding AreRowsOf
both_fit region_len image [] rows none = (subst (AllByRecursion (FitsRow mark.Two)) (sym none) tt, subst (AllByRecursion (FitsRow mark.Three)) (sym none) tt)
both_fit region_len image (p ∷ parts) rows is =
    let m : Mark = is.3.header.mark in
    let rest = both_fit region_len image parts is.1 is.4 in (
      subst (AllByRecursion (FitsRow mark.Two)) (sym is.2) (all_append (FitsRow mark.Two) is.0 is.1 (all_map (FitsRow m) (FitsRow mark.Two) (λ row fits. (mark_fits m row fits).0) is.0 is.3.rows_fit) rest.0),
      subst (AllByRecursion (FitsRow mark.Three)) (sym is.2) (all_append (FitsRow mark.Three) is.0 is.1 (all_map (FitsRow m) (FitsRow mark.Three) (λ row fits. (mark_fits m row fits).1) is.0 is.3.rows_fit) rest.1),
    )

later_fit : (m : Mark) (rows : List Row) → m ≢ mark.One → AllByRecursion (FitsRow mark.Two) rows × AllByRecursion (FitsRow mark.Three) rows → AllByRecursion (FitsRow m) rows
later_fit mark.One rows later both = absurd (later refl)
later_fit mark.Two rows later both = both.0
later_fit mark.Three rows later both = both.1

pub leads_keep : (region_len : ℕ) (old new : Image) → ((lead : ℕ) (range : Range) (rows : List Row) → IsSealed region_len old lead range rows → IsSealed region_len new lead range rows)
    → (parts : List Part) (rows : List Row) → AreRowsOf region_len old parts rows → AreRowsOf region_len new parts rows
unfolding AreRowsOf
leads_keep region_len old new kept [] rows is = is
leads_keep region_len old new kept (p ∷ parts) rows is = (is.0, is.1, is.2, kept p.region p.header.range is.0 is.3, leads_keep region_len old new kept parts is.1 is.4)

pub same_parts : (a b : List Part) → ◌≡◌ {A = Result (List Part) Damage} (Ok a) (Ok b) → a ≡ b
same_parts a b e = cc

-- the rows of a chain with two neighbours in it
pub record AreMergeable (region_len : ℕ) (image : Image) (job : Job) (header : Header) (before : List Part) (older newer : Part) (after : List Part) (rows : List Row) : Type 0 where
  pub first : List Row
  pub o : List Row
  pub n : List Row
  pub last : List Row
  pub joined : rows ≡ first ++ ((o ++ n) ++ last)
  pub of_before : AreRowsOf region_len image before first
  pub of_older : AreRowsOf region_len image (older ∷ []) o
  pub of_newer : AreRowsOf region_len image (newer ∷ []) n
  pub of_after : AreRowsOf region_len image after last
  pub written : WritesMerged image job header o n

module _ (region_len : ℕ) (base : Image) (job : Job) (header : Header) (before : List Part) (older newer : Part) (after : List Part)
    (written : (o n : List Row) → AreRowsOf region_len base (older ∷ []) o → AreRowsOf region_len base (newer ∷ []) n → WritesMerged base job header o n) where
  pub mergeable : (rows : List Row) → AreRowsOf region_len base (before ++ older ∷ newer ∷ after) rows → AreMergeable region_len base job header before older newer after rows
  mergeable rows are =
      let a = rows_split region_len base before (older ∷ newer ∷ after) rows are in
      let b = rows_split region_len base (older ∷ []) (newer ∷ after) a.second a.of_back in
      let c = rows_split region_len base (newer ∷ []) after b.second b.of_back in
      record {
        first = a.first;
        o = b.first;
        n = c.first;
        last = c.second;
        joined = a.joined ∙ ap (λ rs. a.first ++ rs) (b.joined ∙ ap (λ rs. b.first ++ rs) c.joined ∙ sym (append_assoc b.first c.first c.second));
        of_before = a.of_front;
        of_older = b.of_front;
        of_newer = c.of_front;
        of_after = c.of_back;
        written = written b.first c.first b.of_front c.of_front;
      }

-- ---- the parts

-- a part more, whose gate is open, and a chain of some of the parts: the others are retired
pub held_moved : (region_len : ℕ) (base image : Image) (p : Part) (live retired parts' retired' : List Part) → DiffersAt p.region base image → is_sealed (region_of image p.region) ≡ true → HasHeader region_len image p.region p.header
    → ((lead : ℕ) (header : Header) → HasHeader region_len base lead header → HasHeader region_len image lead header) → chain region_len image ≡ Ok parts' → HoldsParts region_len base live retired
    → IsPermutation (p ∷ (live ++ retired)) (parts' ++ retired') → HoldsParts region_len image parts' retired'
held_moved region_len base image p live retired parts' retired' differs sealed has kept is_chain holds moves = record {
  is_chain = is_chain;
  leads = λ r h. lead r h ∙ list_any-IsPermutation (λ q. q.region == r) (p ∷ (live ++ retired)) (parts' ++ retired') moves;
  headers = all_moved (λ q. HasHeader region_len image q.region q.header) (p ∷ (live ++ retired)) (parts' ++ retired') moves
      (has, all_map (λ q. HasHeader region_len base q.region q.header) (λ q. HasHeader region_len image q.region q.header) (λ q h. kept q.region q.header h) (live ++ retired) holds.headers);
}
  where
    differ : (m n : ℕ) → m ≢ n → (n == m) ≡ false
    differ m n h = grind (arith, h)

    lead : (r : ℕ) → r < length image → is_sealed (region_of image r) ≡ ((p.region == r) || list_any (λ q. q.region == r) (live ++ retired))
    lead r h = elim (cases_eq r p.region) as (λ _. is_sealed (region_of image r) ≡ ((p.region == r) || list_any (λ q. q.region == r) (live ++ retired))) [
      | inl same ↦ ap (λ n. is_sealed (region_of image n)) same ∙ sealed ∙ sym (ap (λ b. b || list_any (λ q. q.region == r) (live ++ retired)) (eq-eqb p.region r (sym same)))
      | inr other ↦ ap is_sealed (differs.others r other) ∙ holds.leads r (omega (arith, h, differs.as_many)) ∙ sym (ap (λ b. b || list_any (λ q. q.region == r) (live ++ retired)) (differ r p.region other))
    ]

-- ---- an image in which the gate is open

module _ (region_len : ℕ) (base : Image) (job : Job) (header : Header) (has : job.header ≡ Some header) (before : List Part) (older newer : Part) (after retired : List Part)
    (good : IsGood region_len (length base) job.target header) (later : header.mark ≢ mark.One) (range : header.range ≡ record { first = older.header.range.first; last = newer.header.range.last })
    (holds : HoldsParts region_len base (before ++ older ∷ newer ∷ after) retired) (free : AllByRecursion (λ r. is_free base r ≡ true) (regions_of (part_of job.target header)))
    (image : Image) (opened : HasOpened job.target (header_bytes region_len header) base image) where
  good_now : IsGood region_len (length image) job.target header
  good_now = subst (λ n. IsGood region_len n job.target header) (sym opened.differs.as_many) good

  pub has_header : HasHeader region_len image job.target header
  has_header = ap (header_in region_len (length image) job.target) opened.spelled ∙ written_header region_len (length image) job.target header opened.rest good_now

  pub over : IsReplaced region_len job.target base image before older (newer ∷ []) after header
  over = replace_law region_len job.target base image before older (newer ∷ []) after header
      (record { differs = opened.differs; free = free; is_chain = holds.is_chain; several = λ e. absurd (let h : ◌≡◌ {A = List Part} (newer ∷ []) [] = e in cc); has_header = has_header; range = range })

  pub held_replaced : (parts' retired' : List Part) → parts' ≡ before ++ part_of job.target header ∷ after
      → IsPermutation (part_of job.target header ∷ ((before ++ older ∷ newer ∷ after) ++ retired)) (parts' ++ retired') → HoldsParts region_len image parts' retired'
  held_replaced parts' retired' is moves =
      held_moved region_len base image (part_of job.target header) (before ++ older ∷ newer ∷ after) retired parts' retired' opened.differs (ap is_sealed opened.spelled) has_header over.headers (over.is_chain ∙ ap (λ (ps : List Part). Ok ps) (sym is)) holds moves

  module _ (body : body_in image job.target header ≡ body_in base job.target header) (rows : List Row) (are : AreMergeable region_len base job header before older newer after rows) where
    fit : AllByRecursion (FitsRow header.mark) (merged are.o are.n)
    fit =
        let o = both_fit region_len base (older ∷ []) are.o are.of_older in
        let n = both_fit region_len base (newer ∷ []) are.n are.of_newer in
        merged_fits header.mark are.o are.n (all_append (FitsRow header.mark) are.o are.n (later_fit header.mark are.o later o) (later_fit header.mark are.n later n))

    held_is : take job.written (body_in base job.target header) ≡ body_bytes (merged are.o are.n)
    held_is = some_is (take job.written (body_in base job.target header)) (body_bytes (merged are.o are.n)) (ap (λ h. Some (held_by base job.target job.written h)) (sym has) ∙ are.written.written)
      where
        some_is : (x y : List ℕ) → ◌≡◌ {A = Option (List ℕ)} (Some x) (Some y) → x ≡ y
        some_is x y e = cc

    own : IsSealed region_len image job.target header.range (merged are.o are.n)
    own = written_partition region_len image job.target header (merged are.o are.n) (record {
      good = good_now;
      front = (opened.rest, opened.spelled);
      of_rows = (are.written.rows, are.written.nodes, are.written.area);
      rows_fit = fit;
      ordered = are.written.ordered;
      spelled = (
        drop job.written (body_in base job.target header),
        body ∙ sym (take-append-drop job.written (body_in base job.target header)) ∙ ap (λ bytes. bytes ++ drop job.written (body_in base job.target header)) held_is,
      );
    })

    pub now_rows : AreRowsOf region_len image (before ++ part_of job.target header ∷ after) (are.first ++ (merged are.o are.n ++ are.last))
    now_rows = over.rows are.first are.last (merged are.o are.n) are.of_before are.of_after own

    pub now_agrees : (log : List Row) → Agrees rows log → Agrees (are.first ++ (merged are.o are.n ++ are.last)) log
    now_agrees log agrees = merged_agrees are.first are.o are.n are.last log (both_fit region_len base before are.first are.of_before).0 (subst (λ rs. Agrees rs log) are.joined agrees)

    pub now_no_longer : rows_len (are.first ++ (merged are.o are.n ++ are.last)) ≤ rows_len rows
    now_no_longer =
        omega (
          arith,
          ap rows_len are.joined,
          sum_by-append row_len are.first ((are.o ++ are.n) ++ are.last),
          sum_by-append row_len (are.o ++ are.n) are.last,
          sum_by-append row_len are.o are.n,
          sum_by-append row_len are.first (merged are.o are.n ++ are.last),
          sum_by-append row_len (merged are.o are.n) are.last,
          (merged_len are.o are.n).rows,
        )

  module _ (body : body_in image job.target header ≡ body_in base job.target header)
      (written : (o n : List Row) → AreRowsOf region_len base (older ∷ []) o → AreRowsOf region_len base (newer ∷ []) n → WritesMerged base job header o n) where
    -- it shows the same epoch, and rows that agree with the same log
    pub shown_over : (first : List Row) (history : List Commit) (low high : ℕ) → ShowsSome region_len first history low high base → ShowsSome region_len first history low high image
    shown_over first history low high s =
        let parts : s.shows.parts ≡ before ++ older ∷ newer ∷ after = same_parts s.shows.parts (before ++ older ∷ newer ∷ after) (sym s.shows.is_chain ∙ holds.is_chain) in
        let are = mergeable region_len base job header before older newer after written s.rows (subst (λ ps. AreRowsOf region_len base ps s.rows) parts s.shows.are_rows) in
        record {
          e = s.e;
          rows = are.first ++ (merged are.o are.n ++ are.last);
          shows = record { parts = before ++ part_of job.target header ∷ after; is_chain = over.is_chain; ends = s.shows.ends ∙ ap chain_end parts ∙ sym over.same_end; are_rows = now_rows body s.rows are };
          from = s.from;
          to = s.to;
          agrees = now_agrees body s.rows are (first ++ all_rows (upto history s.e)) s.agrees;
        }
