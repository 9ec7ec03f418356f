-- A transaction with the seal of its group, and how its lane ends.
use Rattle.std.proofs.Common.{◌≡◌, ◌⊎◌, inl, inr, ℕ, ◌+◌, ◌-◌, ◌<◌, ◌≤◌, Bool, true, false, is_some, List, [], ◌∷◌, ◌++◌, length, refl, sym, ap, ◌∙◌, subst, Option, Some, None, Ok, Err, arith}
use Rattle.std.specs.Prelude.{slice_set}
use Rattle.std.specs.List.{AllByRecursion}
use Rattle.std.proofs.lemmas.List.{length-set}
use Rattle.fine_model.specs.declared.Outcome.{Outcome}
use Rattle.fine_model.specs.declared.Outcome.TheVariants as outcome
use Rattle.fine_model.specs.declared.RunFault.{RunFault}
use Rattle.fine_model.specs.declared.ScriptTxn.{ScriptTxn}
use Rattle.fine_model.specs.declared.Why.{Why}
use Rattle.fine_model.specs.declared.Why.TheVariants as why
use Rattle.fine_model.specs.Becomes.{Becomes}
use Rattle.fine_model.specs.History.{Commit, all_rows}
use Rattle.fine_model.specs.RowBytes.{greatest}
use Rattle.fine_model.proofs.Histories.Goings.{becomes_itself, becomes_on}
use Rattle.epoch_room.specs.Value.{RoomValue}
use Rattle.epoch_room.proofs.Counting.{sealed_most}
use Rattle.room_steps.specs.Laws.{TellsNow}
use Rattle.run_laws.specs.Lanes.{EndsLane, IsLane, fault_of, most_lanes}
use Rattle.run_laws.specs.Needs.{IsInNeed, IsSealed, RunsInNeed, Unsealed}
use Rattle.run_laws.specs.Runs.{AreFewOfLanes, IsReady, OfSound}
use Rattle.run_laws.specs.SoFar.{AreFewSoFar, AreTold, ComesNext, KeepsFlag}
use Rattle.run_laws.specs.Told.{TellsMore}
use Rattle.run_laws.specs.Turns.{RefusesBehind, commits_of}
use Rattle.run_laws.proofs.Caused.{stays_refused}
use Rattle.run_laws.proofs.Going.{few_end, few_less, few_more, few_wait}
use Rattle.run_laws.proofs.Tellings.{more_by_lane}
use Rattle.txn_runner.specs.Body.{Body, Goes, IsBetween, Stand, count_of}
use Rattle.txn_runner.specs.Steps.{BehindTxns, EndsBy, EndsGroup, HadNeedOf, IsTried, LeavesFault, LeavesWell, MarksFull, RunsTxn, SealsAll, SealsOn, Tries, WasInNeed}
use Rattle.txn_runner.proofs.Full.{flag_same}
use Rattle.txn_runner.proofs.Needs as needs
use Rattle.txn_runner.proofs.Steady.{few_none, same_history}

-- a lane has ended by a fault, of which it is told
tells_now : (ended after : List (Option RunFault)) (lane : ℕ) (fault : RunFault) → length ended ≡ most_lanes → IsLane lane → fault_of ended lane ≡ None → EndsLane ended after lane fault → after ≡ slice_set ended (lane - 1) (Some fault)
    → TellsNow ended after ended after fault
tells_now ended after lane fault long is_lane none ends set = record {
  adds = subst (λ more. TellsMore ended more fault) (sym set) (more_by_lane ended lane fault long is_lane none);
  lanes = ap length set ∙ length-set ended (lane - 1) (Some fault) ∙ long;
  counted = ends.counted;
  all = λ other there. there;
}

-- a transaction that was not run leaves the flag
flag_not_run : (before now : Bool) → now ≡ before → KeepsFlag before now outcome.NotRun
flag_not_run before now same = flag_same before now outcome.NotRun same (λ (e : outcome.NotRun ≡ outcome.Refused why.Full). let x = e in cc) refl

-- the body as a lane has ended
ended_with : (b : Body) (ended : List (Option RunFault)) (entry : RoomValue) (history : List Commit) → Goes entry b history → Goes entry (record b { ended = ended }) history
ended_with b ended entry history g = record { room = g.room; no_region = g.no_region; stuck = g.stuck; view = g.view }

module _ (group turn : ℕ) (some : 1 ≤ group) (txn : ScriptTxn) (is_lane : IsLane txn.lane) (old : Body) where
  -- ---- its lane had ended

  pub not_run : is_some (fault_of old.ended txn.lane) ≡ true → BehindTxns group turn old (λ entry done. RunsTxn group entry done txn outcome.NotRun old old)
  not_run is_ended entry done ready b at = record {
    between = same_history (IsBetween group entry old) (commits_of done) b;
    becomes = becomes_itself old.room.room;
    comes = inl (refl, record { is = tt; number = tt; runs = inl (refl, is_ended); replied = tt });
    in_need = λ n. same_history (RunsInNeed group txn.lane entry old.room old.full old.ended) (commits_of done) n;
    flag = flag_not_run old.full old.full refl;
    full_need = λ (e : outcome.NotRun ≡ outcome.Refused why.Full). absurd (let x = e in cc);
    refused = λ word (e : outcome.NotRun ≡ outcome.Refused word). absurd (let x = e in cc);
  }

  module _ (none : fault_of old.ended txn.lane ≡ None) (mid : Body) where
    -- ---- it was run

    module _ (next : Outcome) (tries : Tries group old mid txn turn (Ok next)) (new : Body) (entry : RoomValue) (done : List Outcome) (ready : IsReady entry) (b : IsBetween group entry old (commits_of done)) (at : turn ≡ length done + 1) where
      abbrev history : List Commit
      history = commits_of done

      abbrev more : List Commit
      more = commits_of (next ∷ [])

      well : LeavesWell group entry old mid history more
      well = (tries entry done ready b at).0

      tried : IsTried entry done txn next mid
      tried = (tries entry done ready b at).1

      marks : MarksFull group entry old mid history txn.calls next
      marks = (tries entry done ready b at).2

      -- the flag stays as the group is sealed
      flag_by : (now : Bool) → now ≡ mid.full → KeepsFlag old.full now next
      flag_by now same = subst (λ full. KeepsFlag old.full full next) (sym same) marks.flag

      full_need : next ≡ outcome.Refused why.Full → old.full ≡ false → RunsInNeed group txn.lane entry old.room old.full old.ended history → HadNeedOf group entry history txn.calls
      full_need is not n = marks.full_need is not (n.so_far, n.ends none)

      none_mid : fault_of mid.ended txn.lane ≡ None
      none_mid = ap (λ ended. fault_of ended txn.lane) well.leaves.ended ∙ none

      -- no epoch has more entries of a lane than a group
      most_by : (o : Outcome) → AllByRecursion (λ c. (c.epoch ≡ mid.room.room.sealed + 1) × (c.entry.lane ≡ txn.lane)) (commits_of (o ∷ [])) → AreFewOfLanes group (history ++ commits_of (o ∷ []))
      most_by (outcome.Committed place epoch e) all = few_more group mid.room.room.sealed mid.ended history (record { entry = e; epoch = epoch }) well.leaves.few (subst IsLane (sym all.0.1) is_lane)
          (ap (fault_of mid.ended) all.0.1 ∙ none_mid) all.0.0
      most_by outcome.Aborted all = same_history (AreFewOfLanes group) history well.leaves.few.most
      most_by (outcome.Refused word) all = same_history (AreFewOfLanes group) history well.leaves.few.most
      most_by outcome.NotRun all = same_history (AreFewOfLanes group) history well.leaves.few.most

      most : AreFewOfLanes group (history ++ more)
      most = most_by next tried.committed

      comes_mid : ComesNext done mid.ended txn next
      comes_mid = record { is = tried.is; number = tried.number; runs = inr (tried.ran, none_mid); replied = tried.replied }

      comes_old : ComesNext done old.ended txn next
      comes_old = record { is = tried.is; number = tried.number; runs = inr (tried.ran, none); replied = tried.replied }

      in_need_mid : RunsInNeed group txn.lane entry old.room old.full old.ended history → WasInNeed group entry mid (history ++ more)
      in_need_mid n = well.in_need (n.so_far, n.ends none)

      -- the group is not full
      waits : mid.room.room.waiting < group → RunsTxn group entry done txn next old mid
      waits few = record {
        between = record {
          going = record { goes = well.leaves.goes; few = few_wait group mid.room.room.sealed mid.ended (history ++ more) most (let w = well.leaves.goes.room.waiting in omega (arith, few, w)); told = well.told };
          stand = well.stand;
        };
        becomes = well.leaves.becomes;
        comes = inl (well.leaves.ended, comes_mid);
        in_need = λ n. let w = in_need_mid n in record { so_far = w.0; ends = λ goes. w.1 };
        flag = marks.flag;
        full_need = full_need;
        refused = tried.refused;
      }

      refused_new : Becomes mid.room.room new.room.room → new.room.room.sealed ≤ greatest → (word : Why) → next ≡ outcome.Refused word → OfSound entry (λ first e. RefusesBehind new.room.room (first ++ all_rows history) txn.calls word)
      refused_new becomes top word is first e began stands = stays_refused mid.room.room new.room.room (first ++ all_rows history) txn.calls word becomes top (tried.refused word is first e began stands)

      -- it was sealed
      sealed : group ≤ mid.room.room.waiting → SealsAll mid new (Ok tt) → RunsTxn group entry done txn next old new
      sealed full seals =
          let s = seals entry (history ++ more) ready well.leaves.goes well.told well.stand in
          record {
            between = record { going = record { goes = s.0.goes; few = few_none group entry new.room new.ended (history ++ more) some s.0.goes.room s.2.waiting most; told = s.1 }; stand = s.0.stand };
            becomes = becomes_on old.room.room mid.room.room new.room.room well.leaves.becomes s.0.becomes;
            comes = inl (s.0.ended ∙ well.leaves.ended, subst (λ ended. ComesNext done ended txn next) (sym s.0.ended) comes_mid);
            in_need = λ n. let w = in_need_mid n in record {
              so_far = needs.sealed_or_not group entry (history ++ more) mid new s.0 w.0 s.2.some (inr s.2);
              ends = λ goes. needs.group_ends group entry (history ++ more) mid new s.0 w.0 s.2.some well.leaves.goes.room full s.2;
            };
            flag = flag_by new.full s.0.full;
            full_need = full_need;
            refused = refused_new s.0.becomes (sealed_most new.room s.0.goes.room.whole);
          }

      -- or a fault ended the lane
      module _ (full : group ≤ mid.room.room.waiting) (last : Body) (fault : RunFault) (e : EndsBy mid last new txn.lane fault) where
        on : SealsOn entry mid last (history ++ more)
        on = (e.seals entry (history ++ more) ready well.leaves.goes well.told well.stand).0

        none_last : fault_of last.ended txn.lane ≡ None
        none_last = ap (λ ended. fault_of ended txn.lane) on.ended ∙ none_mid

        long : length last.ended ≡ most_lanes
        long = ap length on.ended ∙ well.told.lanes

        ends : EndsLane mid.ended new.ended txn.lane fault
        ends = subst (λ ended. EndsLane ended new.ended txn.lane fault) on.ended e.ends

        told_last : AreTold entry last.room (count_of last) new.ended new.ended
        told_last = (e.seals entry (history ++ more) ready well.leaves.goes well.told well.stand).1 new.ended new.ended (tells_now last.ended new.ended txn.lane fault long is_lane none_last e.ends e.set)

        few_by_end : (o : Outcome) → AllByRecursion (λ c. (c.epoch ≡ mid.room.room.sealed + 1) × (c.entry.lane ≡ txn.lane)) (commits_of (o ∷ [])) → AreFewSoFar group mid.room.room.sealed new.ended (history ++ commits_of (o ∷ []))
        few_by_end (outcome.Committed place epoch x) all = few_end group mid.room.room.sealed mid.ended new.ended history (record { entry = x; epoch = epoch }) fault well.leaves.few (subst IsLane (sym all.0.1) is_lane)
            (ap (fault_of mid.ended) all.0.1 ∙ none_mid) all.0.0 (subst (λ lane. EndsLane mid.ended new.ended lane fault) (sym all.0.1) ends)
        few_by_end outcome.Aborted all = same_history (AreFewSoFar group mid.room.room.sealed new.ended) history (few_less group mid.room.room.sealed mid.ended new.ended history txn.lane fault well.leaves.few ends)
        few_by_end (outcome.Refused word) all = same_history (AreFewSoFar group mid.room.room.sealed new.ended) history (few_less group mid.room.room.sealed mid.ended new.ended history txn.lane fault well.leaves.few ends)
        few_by_end outcome.NotRun all = same_history (AreFewSoFar group mid.room.room.sealed new.ended) history (few_less group mid.room.room.sealed mid.ended new.ended history txn.lane fault well.leaves.few ends)

        sealed_or_not : Unsealed mid.room.room last.room.room ⊎ IsSealed mid.room.room last.room.room
        sealed_or_not = (e.seals entry (history ++ more) ready well.leaves.goes well.told well.stand).2

        few_last : Unsealed mid.room.room last.room.room ⊎ IsSealed mid.room.room last.room.room → AreFewSoFar group last.room.room.sealed new.ended (history ++ more)
        few_last (inl same) = subst (λ n. AreFewSoFar group n new.ended (history ++ more)) (sym same.sealed) (few_by_end next tried.committed)
        few_last (inr s) = few_less group last.room.room.sealed last.ended new.ended (history ++ more) txn.lane fault (few_none group entry last.room last.ended (history ++ more) some on.goes.room s.waiting most) e.ends

        between_last : IsBetween group entry (record last { ended = new.ended }) (history ++ more)
        between_last = record {
          going = record { goes = ended_with last new.ended entry (history ++ more) on.goes; few = few_last sealed_or_not; told = told_last };
          stand = on.stand;
        }

        room_same : last.room ≡ new.room
        room_same = sym (ap (λ (x : Body). x.room) e.rest)

        becomes_new : Becomes mid.room.room new.room.room
        becomes_new = subst (λ (r : RoomValue). Becomes mid.room.room r.room) room_same on.becomes

        failed : RunsTxn group entry done txn next old new
        failed = record {
          between = subst (λ x. IsBetween group entry x (history ++ more)) (sym e.rest) between_last;
          becomes = becomes_on old.room.room mid.room.room new.room.room well.leaves.becomes becomes_new;
          comes = inr (fault, subst (λ ended. EndsLane ended new.ended txn.lane fault) well.leaves.ended ends, inl comes_old);
          in_need = λ n. record {
            so_far = subst (λ (x : Body). IsInNeed group entry x.room x.full (history ++ more)) (sym e.rest)
                (needs.sealed_or_not group entry (history ++ more) mid last on (in_need_mid n).0 (omega (arith, some, full)) sealed_or_not);
            ends = λ goes. absurd (let x : ◌≡◌ {A = Option RunFault} (Some fault) None = sym e.ends.ended ∙ goes in cc);
          };
          flag = flag_by new.full (ap (λ (x : Body). x.full) e.rest ∙ on.full);
          full_need = full_need;
          refused = refused_new becomes_new (subst (λ (r : RoomValue). r.room.sealed ≤ greatest) room_same (sealed_most last.room on.goes.room.whole));
        }

      by_group : EndsGroup group mid new txn.lane → RunsTxn group entry done txn next old new
      by_group (inl (same, few)) = subst (RunsTxn group entry done txn next old) (sym same) (waits few)
      by_group (inr (full, inl seals)) = sealed full seals
      by_group (inr (full, inr (last, fault, e))) = failed full last fault e

    pub ran : (next : Outcome) → Tries group old mid txn turn (Ok next) → (new : Body) → EndsGroup group mid new txn.lane → BehindTxns group turn old (λ entry done. RunsTxn group entry done txn next old new)
    ran next tries new ends entry done ready b at = by_group next tries new entry done ready b at ends

    -- ---- a fault ended its lane

    pub ended : (fault : RunFault) → Tries group old mid txn turn (Err fault) → (new : Body) → new ≡ record mid { ended = new.ended } → EndsLane mid.ended new.ended txn.lane fault
        → new.ended ≡ slice_set mid.ended (txn.lane - 1) (Some fault) → BehindTxns group turn old (λ entry done. RunsTxn group entry done txn outcome.NotRun old new)
    ended fault tries new rest ends set entry done ready b at = record {
      between = subst (λ x. IsBetween group entry x (commits_of done ++ [])) (sym rest) (record {
        going = record {
          goes = ended_with mid new.ended entry (commits_of done ++ []) left.leaves.goes;
          few = same_history (AreFewSoFar group mid.room.room.sealed new.ended) (commits_of done) (few_less group mid.room.room.sealed mid.ended new.ended (commits_of done) txn.lane fault left.leaves.few ends);
          told = left.told new.ended new.ended (tells_now mid.ended new.ended txn.lane fault (ap length left.leaves.ended ∙ b.going.told.lanes) is_lane none_mid ends set);
        };
        stand = same_history (Stand entry mid) (commits_of done) left.stand;
      });
      becomes = subst (λ (r : RoomValue). Becomes old.room.room r.room) (sym (ap (λ (x : Body). x.room) rest)) left.leaves.becomes;
      comes = inr (fault, subst (λ x. EndsLane x new.ended txn.lane fault) left.leaves.ended ends, inr (record { is = tt; number = tt; runs = inl (refl, ap is_some ends.ended); replied = tt }));
      in_need = λ n. same_history (RunsInNeed group txn.lane entry new.room new.full new.ended) (commits_of done) (record {
        so_far = subst (λ (x : Body). IsInNeed group entry x.room x.full (commits_of done)) (sym rest) (left.in_need (n.so_far, n.ends none));
        ends = λ goes. absurd (let x : ◌≡◌ {A = Option RunFault} (Some fault) None = sym ends.ended ∙ goes in cc);
      });
      flag = flag_not_run old.full new.full (ap (λ (x : Body). x.full) rest ∙ left.full);
      full_need = λ (e : outcome.NotRun ≡ outcome.Refused why.Full). absurd (let x = e in cc);
      refused = λ word (e : outcome.NotRun ≡ outcome.Refused word). absurd (let x = e in cc);
    }
      where
        left : LeavesFault group entry old mid (commits_of done) fault
        left = tries entry done ready b at

        none_mid : fault_of mid.ended txn.lane ≡ None
        none_mid = ap (λ x. fault_of x txn.lane) left.leaves.ended ∙ none
