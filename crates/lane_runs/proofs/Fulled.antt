-- A lane whose next transaction is refused for a full log, or comes after one that was.
use Rattle.std.proofs.Common.{◌≡◌, ◌≢◌, ◌⊎◌, inl, inr, ℕ, zero, suc, ◌+◌, ◌<◌, ◌≤◌, ◌==◌, List, [], ◌∷◌, ◌++◌, length, Option, Some, None, Result, Ok, refl, sym, ap, subst, ◌∙◌, ⊎_elim, arith, append-nil}
use Rattle.std.specs.Prelude.{Contains, count_by, filter, slice_get, take}
use Rattle.std.proofs.lemmas.List.Elements.{Contains-append_right}
use Rattle.std.proofs.lemmas.List.Sums.{length-filter}
use Rattle.std.proofs.lemmas.Option.{none-some, same_Some, slice_get_within}
use Rattle.fine_model.specs.declared.Call.{Call}
use Rattle.fine_model.specs.declared.Ending.TheVariants as ending
use Rattle.fine_model.specs.declared.Outcome.{Outcome}
use Rattle.fine_model.specs.declared.Outcome.TheVariants as outcome
use Rattle.fine_model.specs.declared.Row.{Row}
use Rattle.fine_model.specs.declared.ScriptTxn.{ScriptTxn}
use Rattle.fine_model.specs.declared.Why.{Why}
use Rattle.fine_model.specs.declared.Why.TheVariants as why
use Rattle.fine_model.specs.Causes.{HadNeedBefore, IsFirstFull, IsRefusedInNeed, used_in}
use Rattle.fine_model.specs.History.{Commit, all_rows, last_epoch}
use Rattle.fine_model.specs.Merge.{cost}
use Rattle.fine_model.specs.Outcomes.{EpochsFollow, HasRun, IsOutcomeOf}
use Rattle.fine_model.specs.RowBytes.{greatest, short_header}
use Rattle.fine_model.proofs.Histories.Epochs.{all_sealed}
use Rattle.fine_model.proofs.Histories.HistoryLaws.{last_epoch-from}
use Rattle.fine_places.specs.declared.model.Placed.{Placed}
use Rattle.fine_places.specs.History.{by_seat}
use Rattle.fine_hall.specs.declared.law.Beginning.{Beginning}
use Rattle.fine_hall.specs.declared.turn.Turn.{Turn}
use Rattle.fine_hall.specs.Laws.{AreTurns}
use Rattle.fine_hall.specs.Passes.{turns, own_turns, seen, mine, last_room}
use Rattle.hall_rooms.specs.Rooms.{RoomPass}
use Rattle.run_laws.proofs.Steps.{at_end, old_at}
use Rattle.lane_laws.specs.Lanes.{CauseAt, GoesOn, HasFull, InNeed, LaneRuns, LaneValue, NeedsSoFar, OfBegan, Owes, OwesNext}
use Rattle.lane_laws.specs.Quiet.{QuietBut}
use Rattle.txn_tries.specs.Turns.{IsFullFor}
use Rattle.lane_runs.specs.Lane.{with_outcome}
use Rattle.lane_runs.specs.Resting.{IsStuckBy}
use Rattle.lane_runs.specs.Steps.{IsNextOf, MetFull, StandsNext}
use Rattle.lane_runs.proofs.Few.{most_takes, open_then}
use Rattle.lane_runs.proofs.Going.{Goes, mine_then}
use Rattle.lane_runs.proofs.Needs.{need_weaker, owes_of_next}
use Rattle.lane_runs.proofs.Outcomes.{CausedNow, ComesTo, has_takes}

-- ---- it was refused in need

same_ok : {A B : Type 0} (a b : A) → ◌≡◌ {A = Result A B} (Ok a) (Ok b) → a ≡ b
same_ok a b e = cc

nothing_yet : (e : ℕ) (history : List Commit) → EpochsFollow e history → last_epoch e history ≤ e → history ≡ []
nothing_yet e [] f low = refl
nothing_yet e (c ∷ history) f low = let first = f.0 in let rest = last_epoch-from c.epoch history f.1 in absurd (omega (arith, first, rest, low))

-- what stands alone in a full log was kept from it by an epoch that was sealed in need
pub refused_in_need : (group : ℕ) (x : Beginning) (p : RoomPass) (txn : ScriptTxn) (before : List Row) → IsFullFor txn.calls x p before → InNeed group x p (Owes txn x p before) → IsRefusedInNeed x.room.region_len group x.room.sealed before (seen p) txn.calls
refused_in_need group x p txn before f n = (f.rows, f.pushed, f.alone, need (which x.room.sealed (last_room x p).sealed))
  where
    which : (a b : ℕ) → (a < b) ⊎ (b ≤ a)
    which a b = grind arith

    all : (last_room x p).sealed ≡ last_epoch x.room.sealed (seen p)
    all = all_sealed x.room.sealed (seen p) (last_room x p).sealed n.counts.sealed
        (sym f.none_waits ∙ (n.counts.waiting ∙ sym (length-filter (λ (c : Commit). c.epoch == (last_room x p).sealed + 1) (seen p))))

    by_end : (group ≤ count_by (λ c. c.epoch == (last_room x p).sealed) (seen p)) ⊎ Owes txn x p before ⊎ (greatest ≤ (last_room x p).sealed) → HadNeedBefore x.room.region_len group x.room.sealed (seen p) f.rows
    by_end (inl full) = inr (inl (subst (λ e. group ≤ count_by (λ (c : Commit). c.epoch == e) (seen p)) all full))
    by_end (inr (inl o)) =
        let same = same_ok o.rows f.rows (sym o.pushed ∙ f.pushed) in
        inr (inr (subst (λ e. x.room.region_len < short_header + used_in e (seen p) + cost f.rows) all (subst (λ rows. x.room.region_len < short_header + used_in (last_room x p).sealed (seen p) + cost rows) same o.too_long)))
    by_end (inr (inr none)) = let l = f.left in absurd (omega (arith, none, l))

    need : (x.room.sealed < (last_room x p).sealed) ⊎ ((last_room x p).sealed ≤ x.room.sealed) → HadNeedBefore x.room.region_len group x.room.sealed (seen p) f.rows
    need (inl above) = by_end (n.ends f.none_waits above)
    need (inr low) = inl (nothing_yet x.room.sealed (seen p) n.counts.follow (omega (arith, low, all)))

-- ---- the first one

pub same_why : (a b : Why) → outcome.Refused a ≡ outcome.Refused b → a ≡ b
same_why a b e = cc

-- a pass that did nothing
goes_none : (x : Beginning) (p : RoomPass) (word : Why) → own_turns p ≡ by_seat p.number (turns p) → AreTurns x (turns p) → Goes x p p (outcome.Refused word ∷ [])
goes_none x p word own lawful = record { number = refl; more = []; turns_more = sym (append-nil (turns p)); placed_is = refl; own = own; own_then = own; lawful = lawful; lawful_then = lawful }

-- a stuck log is the cause
pub caused_full : (x : Beginning) (first : List (Placed Turn)) (p p' : RoomPass) (calls : List Call) (word : Why) → why.Full ≡ word → length (seen p) ≤ length (seen p') → IsStuckBy x first → CausedNow x first p p' calls word
caused_full x first p p' calls word is low stuck = record {
  k = length (seen p');
  low = low;
  within = omega arith;
  holds = λ e rows began.
      subst (λ w. CauseAt x.room.region_len (rows ++ all_rows (take (length (seen p')) (seen p'))) (turns p' ++ first) calls w) is (let s = stuck e rows began in (s.0, Contains-append_right (turns p') first s.0 s.1, s.2));
}

module _ (x : Beginning) (first : List (Placed Turn)) (script : List ScriptTxn) (group : ℕ) (p : RoomPass) (w : LaneValue) (i : ℕ) (txn : ScriptTxn) (some : 1 ≤ group) (own : own_turns p ≡ by_seat p.number (turns p)) (lawful : AreTurns x (turns p))
    (next : IsNextOf script w i) (is : slice_get script i ≡ Some txn) (stuck : IsStuckBy x first) (commits : txn.ending ≡ ending.Commit) (full : QuietBut p.number x.room (turns p) → OfBegan x (IsFullFor txn.calls x p)) (r : LaneRuns x first script group p w) where
  g : Goes x p p (outcome.Refused why.Full ∷ [])
  g = goes_none x p why.Full own lawful

  comes : ComesTo x first script p p w (outcome.Refused why.Full)
  comes = record {
    i = i;
    txn = txn;
    next_at = next.next_at;
    is_next = is;
    of = (commits, tt);
    numbered = λ place c e. absurd cc;
    replied = λ place c e. absurd cc;
    caused = λ word e. caused_full x first p p txn.calls word (same_why why.Full word e) (omega arith) stuck;
    none_full = λ j place c at e. absurd cc;
  }

  first_full : (j k : ℕ) (other : ScriptTxn) (before : List Row) → IsRefusedInNeed x.room.region_len group x.room.sealed before (seen p) txn.calls → IsFirstFull (with_outcome w (outcome.Refused why.Full)).work.done j → slice_get w.work.at j ≡ Some k → slice_get script k ≡ Some other
      → IsRefusedInNeed x.room.region_len group x.room.sealed before (seen p) other.calls
  first_full j k other before refused f at there = ⊎_elim
      (λ old. absurd (next.none_full (j, old)))
      (λ last.
      let same : k ≡ i = same_Some k i (sym at ∙ (ap (slice_get w.work.at) last.0 ∙ next.next_at)) in
      let this : txn ≡ other = same_Some txn other (sym is ∙ (ap (slice_get script) (sym same) ∙ there)) in
      subst (λ (t : ScriptTxn). IsRefusedInNeed x.room.region_len group x.room.sealed before (seen p) t.calls) this refused)
      (old_at w.work.done (outcome.Refused why.Full) j (outcome.Refused why.Full) f.0)

  has_full : HasFull (with_outcome w (outcome.Refused why.Full))
  has_full = (length w.work.done, at_end w.work.done (outcome.Refused why.Full))

  -- the next transaction is refused for a log that was found stuck
  pub runs_full : LaneRuns x first script group p (with_outcome w (outcome.Refused why.Full))
  runs_full = record {
    has = has_takes x first script p p w (outcome.Refused why.Full) w.work.left g r.has comes;
    few = record {
      most = most_takes x group p p w (outcome.Refused why.Full) some g next.goes_on r.few;
      open_epoch = λ on. r.few.open_epoch next.goes_on;
    };
    needs = λ q e before began.
        let n = r.needs q e before began in
        record {
          so_far = need_weaker group x p (OwesNext script x p w before ⊎ (GoesOn w → ⊥) ⊎ HasFull w)
              (OwesNext script x p (with_outcome w (outcome.Refused why.Full)) before ⊎ (GoesOn (with_outcome w (outcome.Refused why.Full)) → ⊥) ⊎ HasFull (with_outcome w (outcome.Refused why.Full))) (λ or. inr (inr has_full)) n.so_far;
          full = λ j k other f at there. first_full j k other before (refused_in_need group x p txn before (full q e before began) (owes_of_next script group x p w before i txn next.goes_on next.none_full next.next_at is n)) f at there;
        };
  }
