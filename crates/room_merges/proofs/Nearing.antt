-- From the merge of one pair to that of the first neighbours that fit.
use Rattle.std.proofs.Common.{◌≡◌, ◌⊎◌, ℕ, zero, suc, ◌+◌, ◌<◌, ◌≤◌, Bool, true, false, cond, List, [], ◌∷◌, length, Some, None, Ok, Err, refl, sym, ap, subst, ◌∙◌, inl, inr, arith, true≢false}
use Rattle.std.specs.Prelude.{if◌then◌else◌, Contains, nat_le, Option, Result, option_map, slice_get}
use Rattle.std.proofs.lemmas.List.Elements.{Contains-append_right}
use Rattle.fine_model.specs.declared.FetchFault.{FetchFault}
use Rattle.fine_model.specs.declared.Part.{Part}
use Rattle.fine_model.specs.declared.law.RoomState.{RoomState}
use Rattle.fine_model.specs.Merge.{FitsFree}
use Rattle.partition_hold.specs.SourceLaws.{same_itself, same_on}
use Rattle.partition_hold.specs.Views.{SameView, ViewValue}
use Rattle.partition_merge.specs.declared.merger.Measure.{Measure}
use Rattle.partition_merge.specs.Mergers.{IsMeasureOf, at_front}
use Rattle.epoch_room.specs.MergeSteps.{fresh_job, if_enough, measured_len, neighbours_from, regions_for_job, regions_needed, taken_job, with_next}
use Rattle.epoch_room.specs.Value.{RoomValue}
use Rattle.epoch_room.specs.Whole.{FollowOn, IsWhole}
use Rattle.epoch_room.specs.declared.answers.RoomFault.TheVariants as room_fault
use Rattle.room_merges.specs.declared.fault.MergeFault.{MergeFault}
use Rattle.room_merges.specs.declared.fault.MergeFault.TheVariants as merge_fault
use Rattle.room_merges.specs.Near.{BlamedAny, BlamedAt, BlamedBetween, FirstBetween, FirstOf, InVain, LosesAny, LosesBetween, MergesAny, MergesAt, MergesBetween, NoneBefore, NoneBetween, OfNeighbours, StandIn, TriesAll, TriesBetween, TriesOr, epochs_end}
use Rattle.room_merges.specs.Pairs.{AreTried, IsRefused, LosesPart, MergesPair}
use Rattle.room_merges.specs.Work.{LosesFor, StaysOpen, same_job}
use Rattle.room_merges.proofs.Chained.{told_before}
use Rattle.room_merges.proofs.Pairing.{some_none, some_same}
use Rattle.room_merges.proofs.Working.{falls_then, looks_sound, looks_then, stays_itself, stays_then, view_back}

-- ---- the neighbours of a chain

below : (k n : ℕ) → nat_le k n ≡ false → n < k
below k n h = grind (arith, h)

pub stand_in : (from : ℕ) (parts : List Part) (two : Part × Part) → neighbours_from from parts ≡ Some two → StandIn parts two
unfolding neighbours_from
stand_in from [] two is = absurd (some_none two (sym is))
stand_in from (p ∷ parts) two is = by (nat_le from p.header.range.first) is (stand_in from parts two)
  where
    next : (parts : List Part) → with_next p parts ≡ Some two → StandIn (p ∷ parts) two
    next [] e = absurd (some_none two (sym e))
    next (q ∷ parts) e = let same : (p, q) ≡ two = some_same (p, q) two e in record { before = []; after = parts; neighbours = λ i. (same i).0 ∷ (same i).1 ∷ parts }

    by : (b : Bool) → cond b (with_next p parts) (neighbours_from from parts) ≡ Some two → (neighbours_from from parts ≡ Some two → StandIn parts two) → StandIn (p ∷ parts) two
    by true e rest = next parts e
    by false e rest = let more = rest e in record { before = p ∷ more.before; after = more.after; neighbours = ap (λ ps. p ∷ ps) more.neighbours }

here : (p : Part) (parts : List Part) → Contains (p ∷ parts) p
here p parts = (0, omega arith, refl)

later : (p q : Part) (parts : List Part) → Contains (p ∷ q ∷ parts) q
later p q parts = (1, omega arith, refl)

pub has_older : (parts : List Part) (two : Part × Part) → StandIn parts two → Contains parts two.0
has_older parts two s = subst (λ ps. Contains ps two.0) (sym s.neighbours) (Contains-append_right s.before (two.0 ∷ two.1 ∷ s.after) two.0 (here two.0 (two.1 ∷ s.after)))

pub has_newer : (parts : List Part) (two : Part × Part) → StandIn parts two → Contains parts two.1
has_newer parts two s = subst (λ ps. Contains ps two.1) (sym s.neighbours) (Contains-append_right s.before (two.0 ∷ two.1 ∷ s.after) two.1 (later two.0 two.1 s.after))

pub of_each : (P Q : Part → Part → Type 0) → ((p q : Part) → P p q → Q p q) → (parts : List Part) → OfNeighbours P parts → OfNeighbours Q parts
of_each P Q leads [] all = tt
of_each P Q leads (p ∷ []) all = tt
of_each P Q leads (p ∷ q ∷ parts) all = (leads p q all.0, of_each P Q leads (q ∷ parts) all.1)

pub of_at : (P : Part → Part → Type 0) (parts : List Part) (at : ℕ) (a b : Part) → OfNeighbours P parts → slice_get parts at ≡ Some a → slice_get parts (at + 1) ≡ Some b → P a b
of_at P [] at a b all is_a is_b = absurd (some_none a (sym is_a))
of_at P (p ∷ []) zero a b all is_a is_b = absurd (some_none b (sym is_b))
of_at P (p ∷ []) (suc at) a b all is_a is_b = absurd (some_none a (sym is_a))
of_at P (p ∷ q ∷ parts) zero a b all is_a is_b = subst (λ x. P x b) (some_same p a is_a) (subst (λ y. P p y) (some_same q b is_b) all.0)
of_at P (p ∷ q ∷ parts) (suc at) a b all is_a is_b =
    let next : suc at + 1 ≡ suc (at + 1) = omega arith in of_at P (q ∷ parts) at a b all.1 is_a (subst (λ n. slice_get (p ∷ q ∷ parts) n ≡ Some b) next is_b)

-- ---- those between two epochs

abbrev pub Between : ℕ → ℕ → (Part → Part → Type 0) → Part → Part → Type 0
Between from until P p q = from ≤ p.header.range.first → p.header.range.first < until → P p q

-- none begins in an empty range
empty_between : (from until : ℕ) (P : Part → Part → Type 0) (parts : List Part) → until ≤ from → OfNeighbours (Between from until P) parts
empty_between from until P [] less = tt
empty_between from until P (p ∷ []) less = tt
empty_between from until P (p ∷ q ∷ parts) less = (λ low high. absurd (omega (arith, less, low, high)), empty_between from until P (q ∷ parts) less)

-- nor before the first of them
high_between : (from until next : ℕ) (P : Part → Part → Type 0) (parts : List Part) → until ≤ next → FollowOn next parts → OfNeighbours (Between from until P) parts
high_between from until next P [] less follow = tt
high_between from until next P (p ∷ []) less follow = tt
high_between from until next P (p ∷ q ∷ parts) less follow =
    let first = follow.0 in
    let last = follow.1 in (
      λ low high. absurd (omega (arith, less, first, high)),
      high_between from until (p.header.range.last + 1) P (q ∷ parts) (omega (arith, less, last)) follow.3,
    )

-- the next ones that were tried are one more of them
more_between : (from at next : ℕ) (P : Part → Part → Type 0) (parts : List Part) (two : Part × Part) → FollowOn next parts → neighbours_from at parts ≡ Some two → P two.0 two.1
    → OfNeighbours (Between from at P) parts → OfNeighbours (Between from two.1.header.range.first P) parts
unfolding neighbours_from
more_between from at next P [] two follow found has none = tt
more_between from at next P (p ∷ []) two follow found has none = tt
more_between from at next P (p ∷ q ∷ parts) two follow found has none =
    by (nat_le at p.header.range.first) refl found (λ is. more_between from at (p.header.range.last + 1) P (q ∷ parts) two follow.3 is has none.1)
  where
    by : (b : Bool) → nat_le at p.header.range.first ≡ b → cond b (Some (p, q)) (neighbours_from at (q ∷ parts)) ≡ Some two
        → (neighbours_from at (q ∷ parts) ≡ Some two → OfNeighbours (Between from two.1.header.range.first P) (q ∷ parts)) → OfNeighbours (Between from two.1.header.range.first P) (p ∷ q ∷ parts)
    by true e is rest =
        let same : (p, q) ≡ two = some_same (p, q) two is in
        let first : q.header.range.first ≡ two.1.header.range.first = ap (λ (t : Part × Part). t.1.header.range.first) same in
        let behind = follow.3.0 in (
          λ low high. subst (λ (t : Part × Part). P t.0 t.1) (sym same) has,
          high_between from two.1.header.range.first (p.header.range.last + 1) P (q ∷ parts) (omega (arith, first, behind)) follow.3,
        )
    by false e is rest = (λ low high. none.0 low (below at p.header.range.first e), rest is)

-- where none are left to be tried, all of them are in
last_between : (from at until : ℕ) (P : Part → Part → Type 0) (parts : List Part) → neighbours_from at parts ≡ None → OfNeighbours (Between from at P) parts → OfNeighbours (Between from until P) parts
unfolding neighbours_from
last_between from at until P [] found none = tt
last_between from at until P (p ∷ []) found none = tt
last_between from at until P (p ∷ q ∷ parts) found none = by (nat_le at p.header.range.first) refl found (λ is. last_between from at until P (q ∷ parts) is none.1)
  where
    by : (b : Bool) → nat_le at p.header.range.first ≡ b → cond b (Some (p, q)) (neighbours_from at (q ∷ parts)) ≡ None
        → (neighbours_from at (q ∷ parts) ≡ None → OfNeighbours (Between from until P) (q ∷ parts)) → OfNeighbours (Between from until P) (p ∷ q ∷ parts)
    by true e is rest = absurd (some_none (p, q) is)
    by false e is rest = (λ low high. none.0 low (below at p.header.range.first e), rest is)

less_between : (from at until : ℕ) (P : Part → Part → Type 0) (parts : List Part) → until ≤ at → OfNeighbours (Between from at P) parts → OfNeighbours (Between from until P) parts
less_between from at until P parts less none = of_each (Between from at P) (Between from until P) (λ p q has low high. has low (omega (arith, high, less))) parts none

-- an epoch is before another, or not
either : (from n : ℕ) → (from ≤ n) ⊎ (n < from)
either from n = by (nat_le from n) refl
  where
    by : (b : Bool) → nat_le from n ≡ b → (from ≤ n) ⊎ (n < from)
    by true e = inl (grind (arith, e))
    by false e = inr (below from n e)

-- those from an epoch on, and those before it, are all
all_between : (from next : ℕ) (P : Part → Part → Type 0) (parts : List Part) → 1 ≤ next → FollowOn next parts
    → OfNeighbours (Between from epochs_end P) parts → OfNeighbours (Between 1 from P) parts → OfNeighbours P parts
all_between from next P [] some follow high low = tt
all_between from next P (p ∷ []) some follow high low = tt
all_between from next P (p ∷ q ∷ parts) some follow high low =
    let first = follow.0 in
    let last = follow.1 in
    let most = follow.2 in (
      by (either from p.header.range.first),
      all_between from (p.header.range.last + 1) P (q ∷ parts) (omega arith) follow.3 high.1 low.1,
    )
  where
    by : (from ≤ p.header.range.first) ⊎ (p.header.range.first < from) → P p q
    by (inl behind) = high.0 behind (let first = follow.0 in let last = follow.1 in let most = follow.2 in omega (arith, first, last, most))
    by (inr before) = low.0 (let first = follow.0 in omega (arith, first, some)) before

-- ---- trying

-- regions are taken for the same rows where as many are free
pub regions_same : (a b : RoomState) (measure : Measure) → b.region_len ≡ a.region_len → b.free ≡ a.free → regions_for_job b measure ≡ regions_for_job a measure
regions_same a b measure len free = λ i. if measure.ordered then if_enough (length (free i)) (regions_needed (len i) (measured_len measure)) else None

-- what was read through a view is the same through it as it was before
pub read_back : (view seen : ViewValue) (p q : Part) (measure : Measure) → SameView view seen → IsMeasureOf seen.eye.told (at_front p q seen.region_len) measure → IsMeasureOf view.eye.told (at_front p q view.region_len) measure
read_back view seen p q measure same read =
    subst (λ told. IsMeasureOf told (at_front p q view.region_len) measure) same.eye.told (subst (λ n. IsMeasureOf seen.eye.told (at_front p q n) measure) same.region_len read)

-- what is tried in vain in one room is so in another one where as much is free, and through the view as it was before
pub vain_on : (a b : RoomValue) (view seen : ViewValue) (p q : Part) → b.room.region_len ≡ a.room.region_len → b.room.free ≡ a.room.free → SameView view seen → InVain b seen p q → InVain a view p q
vain_on a b view seen p q len free same vain = record {
  passed = (vain.passed.0, read_back view seen p q vain.passed.0 same vain.passed.1, why vain.passed.2);
  unfit = λ x y x_told y_told fits.
      vain.unfit x y (told_before seen view p x (view_back view seen same) x_told) (told_before seen view q y (view_back view seen same) y_told)
      (subst (λ n. FitsFree n (length b.room.free) x y) (sym len) (subst (λ (f : List ℕ). FitsFree a.room.region_len (length f) x y) (sym free) fits));
}
  where
    why : IsRefused b.room seen p q vain.passed.0 → IsRefused a.room view p q vain.passed.0
    why (inl none) = inl (sym (regions_same a.room b.room vain.passed.0 len free) ∙ none)
    why (inr untold) = inr (λ x y x_told y_told. untold x y (told_before seen view p x (view_back view seen same) x_told) (told_before seen view q y (view_back view seen same) y_told))

-- so of what is tried between two epochs, and before one
module _ (a b : RoomValue) (view seen : ViewValue) (parts : b.room.parts ≡ a.room.parts) (len : b.room.region_len ≡ a.room.region_len) (free : b.room.free ≡ a.room.free) (same : SameView view seen) where
  pub all_on : OfNeighbours (InVain b seen) b.room.parts → OfNeighbours (InVain a view) a.room.parts
  all_on none = subst (OfNeighbours (InVain a view)) parts (of_each (InVain b seen) (InVain a view) (λ p q vain. vain_on a b view seen p q len free same vain) b.room.parts none)

  pub none_on : (from until : ℕ) → NoneBetween from until b seen → NoneBetween from until a view
  none_on from until none =
      subst (OfNeighbours (Between from until (InVain a view))) parts
      (of_each (Between from until (InVain b seen)) (Between from until (InVain a view)) (λ p q has low high. vain_on a b view seen p q len free same (has low high)) b.room.parts none)

  pub before_on : (from at : ℕ) → NoneBefore from at b seen → NoneBefore from at a view
  before_on from at (inl (low, none)) = inl (low, none_on from at none)
  before_on from at (inr (high, none, more)) = inr (high, none_on from epochs_end none, none_on 1 at more)

  -- and of a part that the disk failed to write
  pub loses_on : (at : ℕ) (c d : RoomValue) → c.room.lost ≡ d.room.lost → LosesPart at b d seen → LosesPart at a c view
  loses_on at c d lost loses =
      let two = loses.two in
      let taken = loses.taken in
      record {
        two = two;
        tried = record {
          first = subst (λ ps. neighbours_from at ps ≡ Some two) parts loses.tried.first;
          older = subst (λ ps. Contains ps two.0) same.parts loses.tried.older;
          newer = subst (λ ps. Contains ps two.1) same.parts loses.tried.newer;
        };
        measure = loses.measure;
        read = read_back view seen two.0 two.1 loses.measure same loses.read;
        job = loses.job;
        taken = record {
          regions = taken.regions;
          taken = sym (regions_same a.room b.room loses.measure len free) ∙ taken.taken;
          same = taken.same ∙ ap (λ f. same_job (taken_job (fresh_job two) loses.measure taken.regions f) loses.job.written) free;
        };
        lost = subst (λ l. LosesFor a.room.region_len (Some loses.job) l) (sym lost) (subst (λ n. LosesFor n (Some loses.job) d.room.lost) len loses.lost);
      }

open_then : (a b c : RoomValue) → StaysOpen None a.room.free a b → StaysOpen None b.room.free b c → StaysOpen None a.room.free a c
open_then a b c first second = stays_then None None a.room.free a.room.free a b c first (subst (λ f. StaysOpen None f b c) (ap (λ (r : RoomState). r.free) first.room) second)

-- so far none fits of those that were tried
pub record Trying (from at : ℕ) (old new : RoomValue) (view view' : ViewValue) : Type 0 where
  pub low : from ≤ at
  pub room : StaysOpen None old.room.free old new
  pub unmoved : SameView view view'
  pub steady : view'.eye.faults ≡ view.eye.faults
  pub none : NoneBetween from at old view

pub none_tried : (from : ℕ) (value : RoomValue) (view : ViewValue) → IsWhole value → value.room.job ≡ None → Trying from from value value view view
none_tried from value view whole none = record {
  low = omega arith;
  room = stays_itself value None whole none;
  unmoved = same_itself view;
  steady = refl;
  none = empty_between from from (InVain value view) value.room.parts (omega arith);
}

mapped_some : (found : Option (Part × Part)) (next : ℕ) → Some next ≡ option_map (λ (two : Part × Part). two.1.header.range.first) found → (two : Part × Part) × (found ≡ Some two) × (next ≡ two.1.header.range.first)
mapped_some None next is = absurd (some_none next is)
mapped_some (Some two) next is = (two, refl, some_same next two.1.header.range.first is)

mapped_none : (found : Option (Part × Part)) → None ≡ option_map (λ (two : Part × Part). two.1.header.range.first) found → found ≡ None
mapped_none None is = refl
mapped_none (Some two) is = absurd (some_none two.1.header.range.first (sym is))

-- the next two begin one behind the other
apart : (at next : ℕ) (parts : List Part) (two : Part × Part) → FollowOn next parts → neighbours_from at parts ≡ Some two → at < two.1.header.range.first
unfolding neighbours_from
apart at next [] two follow is = absurd (some_none two (sym is))
apart at next (p ∷ []) two follow is = absurd (by (nat_le at p.header.range.first) is)
  where
    by : (b : Bool) → cond b None None ≡ Some two → ⊥
    by true e = some_none two (sym e)
    by false e = some_none two (sym e)
apart at next (p ∷ q ∷ parts) two follow is = by (nat_le at p.header.range.first) refl is (λ is. apart at (p.header.range.last + 1) (q ∷ parts) two follow.3 is)
  where
    by : (b : Bool) → nat_le at p.header.range.first ≡ b → cond b (Some (p, q)) (neighbours_from at (q ∷ parts)) ≡ Some two → (neighbours_from at (q ∷ parts) ≡ Some two → at < two.1.header.range.first)
        → at < two.1.header.range.first
    by true e is rest =
        let first : q.header.range.first ≡ two.1.header.range.first = ap (λ (t : Part × Part). t.1.header.range.first) (some_same (p, q) two is) in
        let begins = follow.0 in
        let last = follow.1 in
        let behind = follow.3.0 in
        let low : at ≤ p.header.range.first = grind (arith, e) in
        omega (arith, first, begins, last, behind, low)
    by false e is rest = rest is

module _ (from at : ℕ) (old mid : RoomValue) (view seen : ViewValue) (whole : IsWhole old) (opened : old.room.is_shut ≡ false) (all : view.parts ≡ old.room.parts) (so_far : Trying from at old mid view seen) where
  same_parts : mid.room.parts ≡ old.room.parts
  same_parts = ap (λ (r : RoomState). r.parts) so_far.room.room

  same_free : mid.room.free ≡ old.room.free
  same_free = ap (λ (r : RoomState). r.free) so_far.room.room

  follow : FollowOn 1 mid.room.parts
  follow = subst (FollowOn 1) (sym same_parts) whole.in_chain.follow

  seen_all : seen.parts ≡ mid.room.parts
  seen_all = so_far.unmoved.parts ∙ all ∙ sym same_parts

  stays_on : (new : RoomValue) → StaysOpen None mid.room.free mid new → StaysOpen None old.room.free old new
  stays_on new stays = stays_then None None old.room.free old.room.free old mid new so_far.room (subst (λ f. StaysOpen None f mid new) same_free stays)

  -- the ones that are tried
  tried_here : (two : Part × Part) → neighbours_from at mid.room.parts ≡ Some two → AreTried at mid seen two
  tried_here two is =
      let stand = stand_in at mid.room.parts two is in
      record {
        first = is;
        older = subst (λ ps. Contains ps two.0) (sym seen_all) (has_older mid.room.parts two stand);
        newer = subst (λ ps. Contains ps two.1) (sym seen_all) (has_newer mid.room.parts two stand);
      }

  pub tried_less : (next : ℕ) → Some next ≡ option_map (λ (two : Part × Part). two.1.header.range.first) (neighbours_from at mid.room.parts) → at < next
  tried_less next is =
      let found = mapped_some (neighbours_from at mid.room.parts) next is in
      let less = apart at 1 mid.room.parts found.0 follow found.1 in
      let same = found.2 in
      omega (arith, less, same)

  pub more_tried : (new : RoomValue) (view' : ViewValue) (next : ℕ) → Some next ≡ option_map (λ (two : Part × Part). two.1.header.range.first) (neighbours_from at mid.room.parts)
      → MergesPair at mid new seen view' (Ok false) → Trying from next old new view view'
  more_tried new view' next is done =
      let found = mapped_some (neighbours_from at mid.room.parts) next is in
      let two = found.0 in
      let tried = tried_here two found.1 in
      let vain : InVain old view two.0 two.1 =
      vain_on old mid view seen two.0 two.1 so_far.room.keeps.becomes.region_len same_free so_far.unmoved (record { passed = done.room.read two tried; unfit = done.room.none two tried }) in
      record {
        low = (let low = so_far.low in let less = tried_less next is in omega (arith, low, less));
        room = stays_on new done.room.room.stays;
        unmoved = same_on view seen view' so_far.unmoved done.looks.same;
        steady = done.looks.counts.else_same (λ failed. cc) ∙ so_far.steady;
        none = subst (λ n. NoneBetween from n old view) (sym found.2)
            (more_between from at 1 (InVain old view) old.room.parts two whole.in_chain.follow (subst (λ ps. neighbours_from at ps ≡ Some two) same_parts found.1) vain so_far.none);
      }

  -- none are left
  pub none_left : (until : ℕ) → None ≡ option_map (λ (two : Part × Part). two.1.header.range.first) (neighbours_from at mid.room.parts) → TriesBetween from until old mid view seen (Ok false)
  none_left until is = record {
    room = (
      so_far.room,
      last_between from at until (InVain old view) old.room.parts (subst (λ ps. neighbours_from at ps ≡ None) same_parts (mapped_none (neighbours_from at mid.room.parts) is)) so_far.none,
    );
    looks = looks_sound view seen (Ok false) so_far.unmoved so_far.steady (λ failed. cc);
  }

  pub none_more : (until : ℕ) → until ≤ at → TriesBetween from until old mid view seen (Ok false)
  none_more until less = record {
    room = (so_far.room, less_between from at until (InVain old view) old.room.parts less so_far.none);
    looks = looks_sound view seen (Ok false) so_far.unmoved so_far.steady (λ failed. cc);
  }

  -- these were merged
  pub one_merged : (until : ℕ) (new : RoomValue) (view' : ViewValue) → at < until → MergesPair at mid new seen view' (Ok true) → TriesBetween from until old new view view' (Ok true)
  one_merged until new view' less done = record {
    room = (at, so_far.low, less, so_far.none, record { mid = mid; seen = seen; stays = so_far.room; same = so_far.unmoved; merges = done.room });
    looks = looks_then view seen view' (Ok true) so_far.unmoved so_far.steady done.looks;
  }

  -- something was refused
  pub try_refused : (until : ℕ) (new : RoomValue) (view' : ViewValue) (fault : MergeFault) → at < until → MergesPair at mid new seen view' (Err fault) → TriesBetween from until old new view view' (Err fault)
  try_refused until new view' (merge_fault.Fetch fault) less done = record {
    room = (
      stays_on new done.room.room.stays,
      record { two = done.room.two; stand = subst (λ ps. StandIn ps done.room.two) same_parts (stand_in at mid.room.parts done.room.two done.room.tried.first); blames = done.room.blames },
      (
        at,
        so_far.low,
        less,
        so_far.none,
        record { two = done.room.two; first = subst (λ ps. neighbours_from at ps ≡ Some done.room.two) same_parts done.room.tried.first; blames = done.room.blames },
      ),
    );
    looks = looks_then view seen view' (Err (merge_fault.Fetch fault)) so_far.unmoved so_far.steady done.looks;
  }
  try_refused until new view' (merge_fault.Room room_fault.NoMemory) less done = record {
    room = stays_on new done.room.stays;
    looks = looks_then view seen view' (Err (merge_fault.Room room_fault.NoMemory)) so_far.unmoved so_far.steady done.looks;
  }
  try_refused until new view' (merge_fault.Room room_fault.Disk) less done = record {
    room = (
      falls_then None None old.room.free new.room.free old mid new so_far.room done.room.1,
      (at, so_far.low, less, so_far.none, loses_on old mid view seen same_parts so_far.room.keeps.becomes.region_len same_free so_far.unmoved at new new refl done.room.2),
    );
    looks = looks_then view seen view' (Err (merge_fault.Room room_fault.Disk)) so_far.unmoved so_far.steady done.looks;
  }
  try_refused until new view' (merge_fault.Room (room_fault.Shut epoch)) less done = absurd (true≢false (sym done.room.0 ∙ ap (λ (r : RoomState). r.is_shut) so_far.room.room ∙ opened))

-- ---- those from an epoch on, and then those before

tries_refused : (S T N M L K : Type 0) (B C : FetchFault → Type 0) (old new : RoomValue) (view view' : ViewValue) (fault : MergeFault) → ((f : FetchFault) → B f → C f) → (L → K)
    → TriesOr S N B L old new view view' (Err fault) → TriesOr T M C K old new view view' (Err fault)
tries_refused S T N M L K B C old new view view' (merge_fault.Fetch fault) blames loses tries = (tries.0, tries.1, blames fault tries.2)
tries_refused S T N M L K B C old new view view' (merge_fault.Room room_fault.NoMemory) blames loses tries = tries
tries_refused S T N M L K B C old new view view' (merge_fault.Room room_fault.Disk) blames loses tries = (tries.0, loses tries.1)
tries_refused S T N M L K B C old new view view' (merge_fault.Room (room_fault.Shut epoch)) blames loses tries = tries

tries_then : (S T N M L K : Type 0) (B C : FetchFault → Type 0) (old mid new : RoomValue) (view seen view' : ViewValue) (result : Result Bool MergeFault) → StaysOpen None old.room.free old mid
    → (S → T) → (N → M) → ((f : FetchFault) → B f → C f) → (L → K) → TriesOr S N B L mid new seen view' result → TriesOr T M C K old new view view' result
tries_then S T N M L K B C old mid new view seen view' (Ok true) stays some none blames loses tries = some tries
tries_then S T N M L K B C old mid new view seen view' (Ok false) stays some none blames loses tries = (open_then old mid new stays tries.0, none tries.1)
tries_then S T N M L K B C old mid new view seen view' (Err (merge_fault.Fetch fault)) stays some none blames loses tries = (
  open_then old mid new stays tries.0,
  record { two = tries.1.two; stand = subst (λ ps. StandIn ps tries.1.two) (ap (λ (r : RoomState). r.parts) stays.room) tries.1.stand; blames = tries.1.blames },
  blames fault tries.2,
)
tries_then S T N M L K B C old mid new view seen view' (Err (merge_fault.Room room_fault.NoMemory)) stays some none blames loses tries = open_then old mid new stays tries
tries_then S T N M L K B C old mid new view seen view' (Err (merge_fault.Room room_fault.Disk)) stays some none blames loses tries =
    (falls_then None None old.room.free new.room.free old mid new stays tries.0, loses tries.1)
tries_then S T N M L K B C old mid new view seen view' (Err (merge_fault.Room (room_fault.Shut epoch))) stays some none blames loses tries = tries

at_then : (at : ℕ) (old mid new : RoomValue) (view seen : ViewValue) → StaysOpen None old.room.free old mid → SameView view seen → MergesAt at mid new seen → MergesAt at old new view
at_then at old mid new view seen stays same merges =
    record { mid = merges.mid; seen = merges.seen; stays = open_then old mid merges.mid stays merges.stays; same = same_on view seen merges.seen same merges.same; merges = merges.merges }

-- the first between an epoch and the end is the first of all
first_high : (from : ℕ) (old : RoomValue) (view : ViewValue) (P : ℕ → Type 0) → FirstBetween from epochs_end old view P → FirstOf from old view P
first_high from old view P (at, low, less, none, found) = (at, inl (low, none), found)

pub any_merged : (from : ℕ) (old new : RoomValue) (view view' : ViewValue) → TriesBetween from epochs_end old new view view' (Ok true) → TriesAll from old new view view' (Ok true)
any_merged from old new view view' tries = record { room = first_high from old view (λ at. MergesAt at old new view) tries.room; looks = tries.looks }

pub any_refused : (from : ℕ) (old new : RoomValue) (view view' : ViewValue) (fault : MergeFault) → TriesBetween from epochs_end old new view view' (Err fault) → TriesAll from old new view view' (Err fault)
any_refused from old new view view' fault tries = record {
  room = tries_refused (MergesBetween from epochs_end old new view) (MergesAny from old new view) (NoneBetween from epochs_end old view) (OfNeighbours (InVain old view) old.room.parts) (LosesBetween from epochs_end old new view)
      (LosesAny from old new view) (BlamedBetween from epochs_end old view view') (BlamedAny from old view view') old new view view' fault (λ f. first_high from old view (λ at. BlamedAt at old view' f))
      (first_high from old view (λ at. LosesPart at old new view)) tries.room;
  looks = tries.looks;
}

module _ (from : ℕ) (old mid : RoomValue) (view seen : ViewValue) (whole : IsWhole old) (first : TriesBetween from epochs_end old mid view seen (Ok false)) where
  parts_on : mid.room.parts ≡ old.room.parts
  parts_on = ap (λ (r : RoomState). r.parts) first.room.0.room

  len_on : mid.room.region_len ≡ old.room.region_len
  len_on = first.room.0.keeps.becomes.region_len

  free_on : mid.room.free ≡ old.room.free
  free_on = ap (λ (r : RoomState). r.free) first.room.0.room

  -- the first before an epoch is the first of all, where those from this epoch on are tried in vain
  first_low : (P Q : ℕ → Type 0) → ((at : ℕ) → P at → Q at) → FirstBetween 1 from mid seen P → FirstOf from old view Q
  first_low P Q leads (at, low, less, none, found) = (at, inr (less, first.room.1, none_on old mid view seen parts_on len_on free_on first.looks.same 1 at none), leads at found)

  pub any_more : (new : RoomValue) (view' : ViewValue) (result : Result Bool MergeFault) → TriesBetween 1 from mid new seen view' result → TriesAll from old new view view' result
  any_more new view' result second = record {
    room = tries_then (MergesBetween 1 from mid new seen) (MergesAny from old new view) (NoneBetween 1 from mid seen) (OfNeighbours (InVain old view) old.room.parts) (LosesBetween 1 from mid new seen) (LosesAny from old new view)
        (BlamedBetween 1 from mid seen view') (BlamedAny from old view view') old mid new view seen view' result first.room.0
        (first_low (λ at. MergesAt at mid new seen) (λ at. MergesAt at old new view) (λ at some. at_then at old mid new view seen first.room.0 first.looks.same some))
        (λ low. all_between from 1 (InVain old view) old.room.parts (omega arith) whole.in_chain.follow first.room.1 (none_on old mid view seen parts_on len_on free_on first.looks.same 1 from low))
        (λ f. first_low (λ at. BlamedAt at mid view' f) (λ at. BlamedAt at old view' f)
        (λ at blamed. record { two = blamed.two; first = subst (λ ps. neighbours_from at ps ≡ Some blamed.two) parts_on blamed.first; blames = blamed.blames }))
        (first_low (λ at. LosesPart at mid new seen) (λ at. LosesPart at old new view) (λ at loses. loses_on old mid view seen parts_on len_on free_on first.looks.same at new new refl loses))
        second.room;
    looks = looks_then view seen view' result first.looks.same (first.looks.counts.else_same (λ failed. cc)) second.looks;
  }
