-- What epochs were sealed for, as a pass goes on where all others are quiet.
use Rattle.std.proofs.Common.{◌≡◌, ◌⊎◌, inl, inr, ℕ, zero, suc, ◌+◌, ◌<◌, ◌≤◌, ◌==◌, List, [], ◌∷◌, ◌++◌, length, Option, Some, None, Ok, refl, sym, ap, subst, ◌∙◌, ⊎_elim, arith}
use Rattle.std.specs.Prelude.{count_by, slice_get}
use Rattle.std.specs.List.{cons_option, range_with_len}
use Rattle.std.proofs.lemmas.List.FromFn.{length-range_with_len}
use Rattle.std.proofs.lemmas.List.Sums.{count_by-le-length, length-filter}
use Rattle.std.proofs.lemmas.Option.{same_Some}
use Rattle.fine_model.specs.declared.Outcome.{Outcome}
use Rattle.fine_model.specs.declared.Outcome.TheVariants as outcome
use Rattle.fine_model.specs.declared.Row.{Row}
use Rattle.fine_model.specs.declared.RunFault.{RunFault}
use Rattle.fine_model.specs.declared.ScriptTxn.{ScriptTxn}
use Rattle.fine_model.specs.declared.Why.TheVariants as why
use Rattle.fine_model.specs.declared.law.RoomState.{RoomState}
use Rattle.fine_model.specs.Causes.{IsFirstFull, IsRefusedInNeed, used_in}
use Rattle.fine_model.specs.History.{Commit, all_rows}
use Rattle.fine_model.specs.Merge.{cost}
use Rattle.fine_model.specs.Pushed.{all_pushed}
use Rattle.fine_model.specs.RowBytes.{greatest, short_header}
use Rattle.fine_hall.specs.declared.law.Beginning.{Beginning}
use Rattle.fine_hall.specs.Laws.{CountsEpochs}
use Rattle.fine_hall.specs.Passes.{turns, seen, last_room}
use Rattle.fine_hall.proofs.Counting.{counts_stay}
use Rattle.hall_rooms.specs.Rooms.{RoomPass}
use Rattle.run_laws.specs.Needs.{AreSealedInNeed}
use Rattle.lane_laws.specs.Lanes.{GoesOn, HasFull, HasOutcomes, InNeed, LaneValue, NeedsSoFar, Owes, OwesNext, places_in, lane_at}
use Rattle.lane_laws.specs.Quiet.{QuietBut}
use Rattle.lane_laws.specs.Works.{placed_in, placed_of}
use Rattle.txn_tries.specs.Turns.{IsFullFor}
use Rattle.lane_runs.proofs.Quiet.{IsStill, own_length}

-- ---- the history and the open epoch are as they were

module _ (x : Beginning) (p p' : RoomPass) (same : seen p' ≡ seen p) (s : IsStill (last_room x p) (last_room x p')) where
  pub owes_same : (txn : ScriptTxn) (before : List Row) → Owes txn x p before → Owes txn x p' before
  owes_same txn before o = record {
    commits = o.commits;
    rows = o.rows;
    pushed = ap (λ h. all_pushed (before ++ all_rows h) txn.calls) same ∙ o.pushed;
    alone = o.alone;
    too_long = let e = ap (λ h. used_in (last_room x p').sealed h) same in let f = ap (λ n. used_in n (seen p)) s.sealed in let l = o.too_long in omega (arith, e, f, l);
  }

  pub need_same : (group : ℕ) (P Q : Type 0) → (P → Q) → InNeed group x p P → InNeed group x p' Q
  need_same group P Q f n = record {
    each = subst (AreSealedInNeed x.room.region_len group x.room.sealed) (sym same) n.each;
    used = s.used ∙ (n.used ∙ (ap (λ k. used_in (k + 1) (seen p)) (sym s.sealed) ∙ ap (used_in ((last_room x p').sealed + 1)) (sym same)));
    counts = subst (CountsEpochs x (last_room x p')) (sym same) (counts_stay x (last_room x p) (last_room x p') (seen p) n.counts s.sealed s.waiting);
    ends = λ none above. ⊎_elim
        (λ full. inl (let e = ap (λ h. count_by (λ c. c.epoch == (last_room x p').sealed) h) same in let k = ap (λ n. count_by (λ c. c.epoch == n) (seen p)) s.sealed in omega (arith, full, e, k)))
        (λ or. inr (⊎_elim (λ h. inl (f h)) (λ h. inr (let e = s.sealed in omega (arith, h, e))) or))
        (n.ends (sym s.waiting ∙ none) (subst (λ k. x.room.sealed < k) s.sealed above));
  }

  pub full_same : (calls : _) (before : List Row) → IsFullFor calls x p before → IsFullFor calls x p' before
  full_same calls before f = record {
    rows = f.rows;
    pushed = ap (λ h. all_pushed (before ++ all_rows h) calls) same ∙ f.pushed;
    alone = f.alone;
    none_waits = s.waiting ∙ f.none_waits;
    left = subst (λ n. n < greatest) (sym s.sealed) f.left;
  }

-- other reasons for the last seal, where the ones that were there give them
pub need_weaker : (group : ℕ) (x : Beginning) (p : RoomPass) (P Q : Type 0) → (P → Q) → InNeed group x p P → InNeed group x p Q
need_weaker group x p P Q f n = record {
  each = n.each;
  used = n.used;
  counts = n.counts;
  ends = λ none above. ⊎_elim (λ full. inl full) (λ or. inr (⊎_elim (λ h. inl (f h)) (λ h. inr h) or)) (n.ends none above);
}

-- ---- the next transaction

-- what the next transaction owes is what the lane owes, as long as it goes on and none was refused for a full log
pub owes_of_next : (script : List ScriptTxn) (group : ℕ) (x : Beginning) (p : RoomPass) (w : LaneValue) (before : List Row) (i : ℕ) (txn : ScriptTxn) → GoesOn w → (HasFull w → ⊥) → slice_get w.work.at (length w.work.done) ≡ Some i
    → slice_get script i ≡ Some txn → NeedsSoFar script group x p w before → InNeed group x p (Owes txn x p before)
owes_of_next script group x p w before i txn on none_full at is n =
    need_weaker group x p (OwesNext script x p w before ⊎ (GoesOn w → ⊥) ⊎ HasFull w) (Owes txn x p before)
    (λ or. ⊎_elim (λ o. owes o) (λ rest. ⊎_elim (λ ended. absurd (ended on)) (λ full. absurd (none_full full)) rest) or) n.so_far
  where
    owes : OwesNext script x p w before → Owes txn x p before
    owes o = subst (λ (t : ScriptTxn). Owes t x p before) (same_Some o.txn txn (sym o.is_next ∙ (ap (slice_get script) (same_Some o.i i (sym o.next_at ∙ at)) ∙ is))) o.owes

-- ---- how long the history is

pub placed_few : (os : List Outcome) → length (placed_of os) ≤ length os
placed_few [] = omega arith
placed_few (outcome.Committed place epoch entry ∷ os) = let h = placed_few os in omega (arith, h)
placed_few (outcome.Aborted ∷ os) = let h = placed_few os in omega (arith, h)
placed_few (outcome.Refused word ∷ os) = let h = placed_few os in omega (arith, h)
placed_few (outcome.NotRun ∷ os) = let h = placed_few os in omega (arith, h)

places_few : (script : List ScriptTxn) (lane : ℕ) → length (places_in script lane) ≤ length script
unfolding places_in
places_few script lane =
    let test = λ (i : ℕ). lane_at script i == lane in
    let a = length-filter test (range_with_len 0 (length script)) in
    let b = count_by-le-length test (range_with_len 0 (length script)) in
    let c = length-range_with_len 0 (length script) in
    omega (arith, a, b, c)

-- the places of a lane's history are far from their limit
pub seen_few : (x : Beginning) (first : List _) (script : List ScriptTxn) (p : RoomPass) (w : LaneValue) → length script ≤ 100000 → HasOutcomes x first script p w → QuietBut p.number x.room (turns p) → length (seen p) < greatest
seen_few x first script p w few h q =
    let a = own_length p.number x.room (turns p) q in
    let b = ap length h.done.places in
    let c = placed_few w.work.done in
    let d = h.done.count in
    let e = ap length h.at in
    let f = places_few script w.lane in
    omega (arith, a, b, c, d, e, f, few)
