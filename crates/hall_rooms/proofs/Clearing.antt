-- Rounds of posting, looking and erasing, until nothing is retired.
use Rattle.std.proofs.Common.{◌≡◌, ◌≢◌, ◌⊎◌, inl, inr, ⊎_elim, ℕ, suc, ◌<◌, Bool, true, false, cond, true≢false, List, [], ◌∷◌, ◌++◌, filter, Some, None, Result, Ok, Err, refl, sym, ap, ◌∙◌, subst, arith, append-nil}
use Rattle.std.specs.Prelude.{find, is_some, map, nat_le, not, nat_eq, option_to_list}
use Rattle.std.specs.List.{list_any}
use Rattle.std.proofs.lemmas.Bool.Decides.{leb_tells}
use Rattle.fine_model.specs.declared.Part.{Part}
use Rattle.fine_model.specs.declared.law.RoomState.{RoomState}
use Rattle.fine_model.specs.Jobs.{KeepsJob, job_regions}
use Rattle.partition_hold.specs.Views.{state_of}
use Rattle.epoch_room.specs.Erasing.{unheld}
use Rattle.epoch_room.specs.Steps.{retired_from}
use Rattle.epoch_room.specs.Value.{RoomValue, all_regions, regions_outside}
use Rattle.epoch_room.specs.Whole.{IsWhole}
use Rattle.epoch_room.specs.declared.answers.RoomFault.{RoomFault}
use Rattle.epoch_room.specs.declared.answers.RoomFault.TheVariants as room_fault
use Rattle.fine_hall.specs.declared.law.Beginning.{Beginning}
use Rattle.fine_hall.specs.Passes.{published}
use Rattle.fine_hall.specs.Halls.{IsAhead}
use Rattle.hall_rooms.specs.Rooms.{RoomPass}
use Rattle.hall_rooms.specs.Posting.{PostsAll, PostsFirst}
use Rattle.hall_rooms.specs.Steps.{IsCleanTurn, PublishesOr}
use Rattle.hall_rooms.specs.Turning.{ErasesFirst, ErasesThese, LosesFirst}
use Rattle.hall_rooms.specs.Merging.{StaysUnshut}
use Rattle.hall_rooms.specs.Making.{AllAhead, ClearsOr, EndsRound, ErasesAndLooks, IsCleared, LeavesChain, RoundOr, Stops, StopsErasing, StopsRound, WholeRound, WholeRounds}
use Rattle.hall_rooms.proofs.Erased.{job_kept, may_settle}
use Rattle.hall_rooms.proofs.Turned.{some_failed}

-- ---- what is retired

zero_below : (n : ℕ) → nat_le 0 n ≡ true
zero_below n = ⊎_elim (λ h. h.0) (λ h. let lt = h.1 in absurd (omega (arith, lt))) (leb_tells 0 n)

-- some part is led by a region from 0 on
some_lead : (p : Part) (l : List Part) → is_some (find (nat_le 0) (map (λ (q : Part). q.region) (p ∷ l))) ≡ true
some_lead p l = ap (λ b. is_some {T = ℕ} (cond b (Some p.region) (find (nat_le 0) (map (λ (q : Part). q.region) l)))) (zero_below p.region)

pub some_retired : (room : RoomState) → is_some (retired_from room 0) ≡ true → room.retired ≢ []
some_retired room some is = true≢false (sym some ∙ ap (λ ps. is_some (find (nat_le 0) (map (λ (q : Part). q.region) ps))) is)

pub not_retired : (room : RoomState) → is_some (retired_from room 0) ≡ false → room.retired ≡ []
not_retired room none = by room.retired refl
  where
    by : (l : List Part) → room.retired ≡ l → room.retired ≡ []
    by [] is = is
    by (p ∷ l) is = absurd (true≢false (sym (some_lead p l) ∙ (ap (λ ps. is_some (find (nat_le 0) (map (λ (q : Part). q.region) ps))) (sym is) ∙ none)))

-- ---- a room that is cleared

pub is_cleared : (room : RoomValue) → IsWhole room → room.room.is_shut ≡ false → room.room.waiting ≡ 0 → room.room.retired ≡ [] → room.room.job ≡ None → IsCleared room
is_cleared room whole not_shut none_waits none_retired no_job = record {
  whole = whole;
  not_shut = not_shut;
  none_waits = none_waits;
  none_retired = none_retired;
  no_job = no_job;
  all_free =
      whole.free
      ∙ (λ i. regions_outside (sym (ap (λ (r : RoomState). r.regions) whole.of_disk) i)
      (option_to_list ((whole.epoch.none none_waits).0 i)
      ++ (filter (λ r. not (list_any (nat_eq r) room.room.lost)) (job_regions (no_job i)) ++ (whole.lost not_shut i ++ all_regions (room.room.parts ++ none_retired i)))))
      ∙ ap (λ ps. regions_outside room.room.regions (all_regions ps)) (append-nil room.room.parts);
}

-- ---- what some rounds leave

chain_then : (a b c : RoomState) → LeavesChain a b → LeavesChain b c → LeavesChain a c
chain_then a b c s t = record { parts = t.parts ∙ s.parts; epochs = (t.epochs.0 ∙ s.epochs.0, t.epochs.1 ∙ s.epochs.1) }

chain_posted : (seats : ℕ) (old new : RoomState) → PostsAll old new seats → LeavesChain old new
chain_posted seats old new s = record { parts = ap (λ (r : RoomState). r.parts) s.same; epochs = (ap (λ (r : RoomState). r.sealed) s.same, ap (λ (r : RoomState). r.waiting) s.same) }

chain_first : (seats : ℕ) (old new : RoomState) → PostsFirst seats old new → LeavesChain old new
chain_first seats old new s = record { parts = ap (λ (r : RoomState). r.parts) s.same; epochs = (ap (λ (r : RoomState). r.sealed) s.same, ap (λ (r : RoomState). r.waiting) s.same) }

chain_erased : (leads : List ℕ) (old new : RoomState) → ErasesThese leads old new → LeavesChain old new
chain_erased leads old new s = record { parts = ap (λ (r : RoomState). r.parts) s.same; epochs = (ap (λ (r : RoomState). r.sealed) s.same, ap (λ (r : RoomState). r.waiting) s.same) }

chain_lost : (old new : RoomState) → LosesFirst old new → LeavesChain old new
chain_lost old new s = record { parts = ap (λ (r : RoomState). r.parts) s.same; epochs = (ap (λ (r : RoomState). r.sealed) s.same, ap (λ (r : RoomState). r.waiting) s.same) }

chain_round : (seats : ℕ) (old new : RoomValue) → WholeRound seats old new → LeavesChain old.room new.room
chain_round seats old new r = chain_then old.room r.shown new.room (chain_posted seats old.room r.shown r.posts) (chain_erased (unheld r.shown) r.shown new.room r.erases.erases)

chain_disk : (seats : ℕ) (old new : RoomState) → PostsFirst seats old new ⊎ StopsErasing seats old (λ shown. LosesFirst shown new) → LeavesChain old new
chain_disk seats old new (inl first) = chain_first seats old new first
chain_disk seats old new (inr stopped) = chain_then old stopped.0 new (chain_posted seats old stopped.0 stopped.1) (chain_lost stopped.0 new stopped.2)

chain_memory : (seats : ℕ) (old new : RoomState) → PostsFirst seats old new ⊎ StopsErasing seats old (λ shown. ErasesFirst shown new) → LeavesChain old new
chain_memory seats old new (inl first) = chain_first seats old new first
chain_memory seats old new (inr stopped) = chain_then old stopped.0 new (chain_posted seats old stopped.0 stopped.1) (chain_erased stopped.2.begun stopped.0 new stopped.2.erases)

-- what was done so far: nothing, or some rounds
pub record RoundsLeave (old new : RoomState) : Type 0 where
  pub unshut : StaysUnshut old new
  pub chain : LeavesChain old new

abbrev pub SoFar : RoomValue → RoomValue → Type 0
SoFar old new = (new ≡ old) ⊎ RoundsLeave old.room new.room

leave_more : (old mid new : RoomValue) → SoFar old mid → RoundsLeave mid.room new.room → RoundsLeave old.room new.room
leave_more old mid new so_far s = ⊎_elim
    (λ is. subst (λ (v : RoomValue). RoundsLeave v.room new.room) is s)
    (λ (was : RoundsLeave old.room mid.room). record { unshut = (was.unshut.0, s.unshut.1); chain = chain_then old.room mid.room new.room was.chain s.chain })
    so_far

-- the room was open before
was_open : (old mid : RoomValue) → SoFar old mid → mid.room.is_shut ≡ false → old.room.is_shut ≡ false
was_open old mid so_far is_open = ⊎_elim (λ is. sym (ap (λ (v : RoomValue). v.room.is_shut) is) ∙ is_open) (λ (was : RoundsLeave old.room mid.room). was.unshut.0) so_far

-- a room that was shut is as it was
shut_then : (seats : ℕ) (old mid new : RoomValue) → SoFar old mid → (epoch : ℕ) → StopsRound seats mid new (room_fault.Shut epoch) → Stops seats old new (room_fault.Shut epoch)
shut_then seats old mid new (inl is) epoch s = subst (λ v. Stops seats v new (room_fault.Shut epoch)) is s
shut_then seats old mid new (inr was) epoch s = absurd (true≢false (sym s.0 ∙ was.unshut.1))

stop_chain : (old mid new : RoomValue) → SoFar old mid → LeavesChain mid.room new.room → LeavesChain old.room new.room
stop_chain old mid new (inl is) c = subst (λ (v : RoomValue). LeavesChain v.room new.room) is c
stop_chain old mid new (inr was) c = chain_then old.room mid.room new.room was.chain c

-- behind some rounds one stopped
module _ (seats : ℕ) (old mid new : RoomValue) (so_far : SoFar old mid) (rounds : ℕ) (few : rounds < 3) (ended : WholeRounds seats rounds old mid) where
  pub stops_then : (fault : RoomFault) → StopsRound seats mid new fault → Stops seats old new fault
  stops_then room_fault.Disk s =
      (was_open old mid so_far s.0, s.1, record { rounds = rounds; few = few; before = mid; ended = ended; stops = s; chain = stop_chain old mid new so_far (chain_disk seats mid.room new.room s.2) })
  stops_then (room_fault.Shut epoch) s = shut_then seats old mid new so_far epoch s
  stops_then room_fault.NoMemory s = (s.0, record { rounds = rounds; few = few; before = mid; ended = ended; stops = s; chain = stop_chain old mid new so_far (chain_memory seats mid.room new.room s.1) })

-- ---- one round

module _ (x : Beginning) (old mid new : RoomValue) (others : List RoomPass) where
  -- posting came to no end
  pub post_stops : (p' : RoomPass) (fault : RoomFault) → PublishesOr x old new p' (Err fault) → RoundOr x old new p' others (Err fault)
  post_stops p' room_fault.Disk s = (s.0, (s.1, s.2, inl s.3))
  post_stops p' (room_fault.Shut epoch) s = (s.0, (s.1, s.2, s.3))
  post_stops p' room_fault.NoMemory s = (s.0, (s.2, inl s.3))

  module _ (p' : RoomPass) (opened : old.room.is_shut ≡ false) (posted : PostsAll old.room mid.room x.seats) (c : IsCleanTurn x mid p') (shown : published p' ≡ mid.room.sealed) where
    not_shut : mid.room.is_shut ≡ false
    not_shut = ap (λ (r : RoomState). r.is_shut) posted.same ∙ opened

    -- and erasing
    pub round_goes : IsAhead state_of x p' → AllAhead x others → (r : Result Bool RoomFault) → ErasesAndLooks mid new r → RoundOr x old new p' others r
    round_goes ahead all (Ok done) (erased, e, looks) = record {
      turn = record { note = c.note; turn = may_settle x mid new p' c (Ok erased) e; none_failed = let n = c.none_failed in let f = e.5 in omega (arith, n, f) };
      unshut = (opened, e.3);
      ahead = (ahead, all);
      round = record { shown = mid.room; posts = posted; erased = erased; erases = e.4 };
      publishes = shown ∙ sym e.1.0;
      looks = looks;
    }
    round_goes ahead all (Err room_fault.Disk) e = (record { note = c.note; turn = may_settle x mid new p' c (Err room_fault.Disk) e; some_failed = some_failed x p' mid new c.note c.turn e.4 }, (opened, e.3, inr (mid.room, posted, e.5)))
    round_goes ahead all (Err (room_fault.Shut epoch)) e = absurd (true≢false (sym e.0 ∙ not_shut))
    round_goes ahead all (Err room_fault.NoMemory) e =
        (record { note = c.note; turn = may_settle x mid new p' c (Err room_fault.NoMemory) e; none_failed = let n = c.none_failed in let f = e.3 in omega (arith, n, f) }, (e.2, inr (mid.room, posted, e.4)))

-- erasing keeps the merge that is out
pub looks_job : (old new : RoomValue) (r : Result Bool RoomFault) → ErasesAndLooks old new r → KeepsJob old.room new.room
looks_job old new (Ok done) (erased, e, looks) = job_kept old new (Ok erased) e
looks_job old new (Err fault) e = job_kept old new (Err fault) e

pub job_stays : (a b : RoomState) → KeepsJob a b → a.job ≡ None → b.job ≡ None
job_stays a b keeps none = keeps.job ∙ none

-- ---- until nothing is retired

module _ (x : Beginning) (old mid new : RoomValue) (so_far : SoFar old mid) (p' : RoomPass) (others : List RoomPass) where
  leave : (done : Bool) → EndsRound x mid new p' others done → RoundsLeave old.room new.room
  leave done r = leave_more old mid new so_far (record { unshut = r.unshut; chain = chain_round x.seats mid new r.round })

  pub cleared : (rounds : ℕ) → rounds < 3 → WholeRounds x.seats rounds old mid → EndsRound x mid new p' others true → old.room.waiting ≡ 0 → IsWhole new → new.room.job ≡ None → ClearsOr x old new p' others (Ok true)
  cleared rounds few ended r none_waits whole none =
      let l = leave true r in record {
        turn = r.turn;
        ahead = r.ahead;
        publishes = r.publishes;
        clears = record {
          rounds = rounds;
          few = few;
          before = mid;
          ended = ended;
          last = r.round;
          unshut = l.unshut;
          chain = l.chain;
          cleared = is_cleared new whole l.unshut.1 (l.chain.epochs.1 ∙ none_waits) (r.looks.0 refl) none;
        };
      }

  pub round_fails : (rounds : ℕ) → rounds < 3 → WholeRounds x.seats rounds old mid → (fault : RoomFault) → RoundOr x mid new p' others (Err fault) → ClearsOr x old new p' others (Err fault)
  round_fails rounds few ended fault r = (r.0, stops_then x.seats old mid new so_far rounds few ended fault r.1)

  pub round_more : EndsRound x mid new p' others false → SoFar old new
  round_more r = inr (leave false r)

  pub rounds_more : (rounds more : ℕ) → more ≡ suc rounds → WholeRounds x.seats rounds old mid → EndsRound x mid new p' others false → WholeRounds x.seats more old new
  rounds_more rounds more is ended r = subst (λ n. WholeRounds x.seats n old new) (sym is) (mid, ended, r.round, r.looks.1 refl)

-- the last round left something retired
module _ (x : Beginning) (old new : RoomValue) (p' : RoomPass) (others : List RoomPass) where
  -- what the last round left of the passes
  pub record AtRound : Type 0 where
    pub ahead : IsAhead state_of x p' × AllAhead x others
    pub publishes : published p' ≡ new.room.sealed
    pub leaves : RoundsLeave old.room new.room

  pub still_held : IsCleanTurn x new p' → WholeRounds x.seats 3 old new → AtRound → ClearsOr x old new p' others (Ok false)
  still_held turn ended a = record { turn = turn; ahead = a.ahead; publishes = a.publishes; clears = record { ended = ended; unshut = a.leaves.unshut; chain = a.leaves.chain } }

pub at_round : (x : Beginning) (old mid new : RoomValue) (p' : RoomPass) (others : List RoomPass) → SoFar old mid → EndsRound x mid new p' others false → AtRound x old new p' others
at_round x old mid new p' others so_far r = record { ahead = r.ahead; publishes = r.publishes; leaves = leave_more old mid new so_far (record { unshut = r.unshut; chain = chain_round x.seats mid new r.round }) }
