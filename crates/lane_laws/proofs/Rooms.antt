-- The room of a run of lanes, from its entry over all turns to the last seal.
use Rattle.std.proofs.Common.{◌≡◌, ◌⊎◌, inl, inr, ⊎_elim, ℕ, zero, suc, ◌+◌, ◌<◌, ◌≤◌, true, false, true≢false, List, [], ◌∷◌, refl, sym, ap, ◌∙◌, subst, arith}
use Rattle.std.specs.Prelude.{Contains, Option, sum_by}
use Rattle.std.proofs.lemmas.List.Elements.{Contains-append_left}
use mathlib.Core.Option.{some}
use lib.ListN.{get_elem?}
use Rattle.fine_model.specs.declared.Options.{Options}
use Rattle.fine_model.specs.declared.Ran.{Ran}
use Rattle.fine_model.specs.declared.RunFault.{RunFault}
use Rattle.fine_model.specs.declared.ScriptTxn.{ScriptTxn}
use Rattle.fine_model.specs.declared.law.RoomState.{RoomState}
use Rattle.fine_model.specs.Becomes.{Becomes}
use Rattle.fine_model.specs.Faults.{HasRisen, last_count}
use Rattle.fine_model.specs.RowBytes.{greatest}
use Rattle.fine_model.proofs.Histories.Goings.{becomes_on}
use Rattle.fine_places.specs.declared.model.Placed.{Placed}
use Rattle.fine_hall.specs.declared.law.Beginning.{Beginning}
use Rattle.fine_hall.specs.declared.turn.Turn.{Turn}
use Rattle.fine_hall.specs.Passes.{troubles, turns}
use Rattle.fine_hall.specs.Turns.{RoomsGoOn, room_after}
use Rattle.fine_hall.proofs.Since.{since_law}
use Rattle.partition_hold.specs.Views.{state_of}
use Rattle.epoch_room.specs.Meaning.{origin_of}
use Rattle.epoch_room.specs.Value.{RoomValue}
use Rattle.epoch_room.specs.Whole.{IsWhole}
use Rattle.epoch_room.proofs.Counting.{sealed_most}
use Rattle.hall_rooms.specs.Rooms.{RoomPass}
use Rattle.run_laws.specs.Runs.{LeavesBeside, OwnRose}
use Rattle.run_laws.proofs.NoEyes.{no_eyes}
use Rattle.lane_laws.specs.Joined.{LanesJoined, SomeSawShut}
use Rattle.lane_laws.specs.Lanes.{LaneValue}

-- ---- counts

pub risen_then : (a b c : ℕ) → HasRisen a b → b ≤ c → HasRisen a c
risen_then a b c risen le = grind (arith, risen, le)

pub risen_more : (a b : ℕ) → a < b → HasRisen a b
risen_more a b more = grind (arith, more)

pub risen_last : (a b : ℕ) → last_count ≤ b → HasRisen a b
risen_last a b last = grind (arith, last)

-- the room counts what its disk counts
pub faults_of : (v : RoomValue) → IsWhole v → v.room.faults ≡ v.disk.faults
faults_of v w = ap (λ (r : RoomState). r.faults) w.of_disk

pub own_of : (v : RoomValue) → IsWhole v → v.room.own_faults ≡ v.disk.own_faults
own_of v w = ap (λ (r : RoomState). r.own_faults) w.of_disk

-- ---- turns

abbrev IsBetween : RoomState → RoomState → Placed Turn → Type 0
IsBetween before after t = Becomes before t.item.room × Becomes t.item.room after

-- the room before some turns became the room of each turn, which became the room after them
pub between : (before : RoomState) (all : List (Placed Turn)) (t : Placed Turn) → RoomsGoOn before all → Contains all t → IsBetween before (room_after before all) t
between before [] t r (k, lt, is) = absurd (omega (arith, lt))
between before (u ∷ us) t r (zero, lt, is) = subst (IsBetween before (room_after u.item.room us)) is (r.0.becomes, since_law u.item.room [] us r.1)
between before (u ∷ us) t r (suc k, lt, is) =
    let later = between u.item.room us t r.1 (k, omega (arith, lt), is) in (becomes_on before u.item.room t.item.room r.0.becomes later.0, later.1)

module _ (x : Beginning) (script : List ScriptTxn) (options : Options) (old back new : RoomValue) (passes : List RoomPass) (workers : List LaneValue) (ended : List (Option RunFault)) (merger last : Option RunFault) (ran : Ran)
    (j : LanesJoined x script options old back new passes workers ended merger last ran) where
  -- ---- from the entry to the end

  begins : Becomes old.room x.room
  begins = j.opens.becomes

  -- over all turns, and as the views were taken back
  pub over_turns : Becomes x.room back.room
  over_turns = becomes_on x.room (room_after x.room j.closes.all) back.room (since_law x.room [] j.closes.all j.closes.lawful.rooms) j.closes.becomes

  pub to_back : Becomes old.room back.room
  to_back = becomes_on old.room x.room back.room begins over_turns

  pub becomes : Becomes old.room new.room
  becomes = becomes_on old.room back.room new.room to_back j.seals.becomes

  -- the room of each turn stands between the beginning and the end
  pub of_turn : (t : Placed Turn) → Contains j.closes.all t → Becomes x.room t.item.room × Becomes t.item.room new.room
  of_turn t there =
      let at = between x.room j.closes.all t j.closes.lawful.rooms there in
      (at.0, becomes_on t.item.room back.room new.room (becomes_on t.item.room (room_after x.room j.closes.all) back.room at.1 j.closes.becomes) j.seals.becomes)

  -- a turn that a pass saw is one of all
  pub saw_turn : (i : ℕ) (p : RoomPass) (t : Placed Turn) → get_elem? passes i ≡ some p → Contains (turns p) t → Contains j.closes.all t
  saw_turn i p t at there = let s = j.closes.saw i p at in subst (λ all. Contains all t) (sym s.1) (Contains-append_left (turns p) s.0 t there)

  -- ---- the room at the beginning

  pub same_sealed : x.room.sealed ≡ old.room.sealed
  same_sealed = ap (λ (r : RoomState). r.sealed) j.opens.room

  pub same_faults : x.room.faults ≡ old.room.faults
  same_faults = ap (λ (r : RoomState). r.faults) j.opens.room

  pub same_own : x.room.own_faults ≡ old.room.own_faults
  same_own = ap (λ (r : RoomState). r.own_faults) j.opens.room

  pub same_len : x.room.region_len ≡ old.room.region_len
  same_len = ap (λ (r : RoomState). r.region_len) j.opens.room

  -- ---- at the end

  pub sealed_few : new.room.sealed ≤ greatest
  sealed_few = sealed_most new j.seals.whole

  pub beside : LeavesBeside old new
  beside = record {
    regions = sym (ap (λ (r : RoomState). r.regions) j.seals.whole.of_disk) ∙ (becomes.regions ∙ ap (λ (r : RoomState). r.regions) j.ready.whole.of_disk);
    region_len = sym (ap (λ (r : RoomState). r.region_len) j.seals.whole.of_disk) ∙ (becomes.region_len ∙ ap (λ (r : RoomState). r.region_len) j.ready.whole.of_disk);
    no_eyes = no_eyes new j.seals.whole j.seals.board;
    board = j.seals.board;
    no_job = j.seals.no_job;
    origin = ap origin_of j.seals.entry ∙ (j.closes.log ∙ j.opens.log);
  }

  pub no_lower : (old.disk.faults ≤ new.disk.faults) × (old.disk.own_faults ≤ new.disk.own_faults)
  no_lower =
      let a = faults_of old j.ready.whole in
      let b = faults_of new j.seals.whole in
      let c = own_of old j.ready.whole in
      let d = own_of new j.seals.whole in
      let f = becomes.faults in
      let g = becomes.own_faults in (omega (arith, a, b, f), omega (arith, c, d, g))

  pub old_lower : old.disk.faults ≤ back.disk.faults
  old_lower = let a = faults_of old j.ready.whole in let b = faults_of back j.closes.whole in let f = to_back.faults in omega (arith, a, b, f)

  pub back_lower : back.disk.faults ≤ new.disk.faults
  back_lower = let a = faults_of back j.closes.whole in let b = faults_of new j.seals.whole in let f = j.seals.becomes.faults in omega (arith, a, b, f)

  -- both counts of the disk rose
  abbrev pub BothRose : Type 0
  BothRose = OwnRose old new × HasRisen old.disk.faults new.disk.faults

  rose : HasRisen old.room.own_faults new.room.own_faults × HasRisen old.room.faults new.room.faults → BothRose
  rose up = (
    subst (λ n. HasRisen n new.disk.own_faults) (own_of old j.ready.whole) (subst (HasRisen old.room.own_faults) (own_of new j.seals.whole) up.0),
    subst (λ n. HasRisen n new.disk.faults) (faults_of old j.ready.whole) (subst (HasRisen old.room.faults) (faults_of new j.seals.whole) up.1),
  )

  -- what shuts the room is a failure of the disk's own
  pub shut_rose : new.room.is_shut ≡ true → BothRose
  shut_rose is = ⊎_elim (λ was. absurd (true≢false (sym was ∙ j.ready.not_shut))) rose (becomes.shut_by is)

  pub is_open : ¬ OwnRose old new → new.room.is_shut ≡ false
  is_open not = by new.room.is_shut refl
    where
      by : (b : _) → new.room.is_shut ≡ b → new.room.is_shut ≡ false
      by true is = absurd (not (shut_rose is).0)
      by false is = is

  -- ---- what passes saw

  turn_shut : (t : Placed Turn) → Contains j.closes.all t → t.item.room.is_shut ≡ true → BothRose
  turn_shut t there is = let at = of_turn t there in ⊎_elim (λ was. absurd (true≢false (sym was ∙ j.opens.not_shut))) (λ up. rose (
    subst (λ n. HasRisen n new.room.own_faults) same_own (risen_then x.room.own_faults t.item.room.own_faults new.room.own_faults up.0 at.1.own_faults),
    subst (λ n. HasRisen n new.room.faults) same_faults (risen_then x.room.faults t.item.room.faults new.room.faults up.1 at.1.faults),
  )) (at.0.shut_by is)

  turn_last : (t : Placed Turn) → Contains j.closes.all t → last_count ≤ t.item.room.faults → last_count ≤ new.disk.faults
  turn_last t there le = let f = (of_turn t there).1.faults in let b = faults_of new j.seals.whole in omega (arith, f, b, le)

  -- Where some pass saw the room shut, or its count of faults at the last value, both counts of the disk rose, or the
  -- count of all faults stands at its last value.
  pub saw_shut : SomeSawShut passes → BothRose ⊎ (last_count ≤ new.disk.faults)
  saw_shut (i, p, at, (t, there, either)) =
      let of_all = saw_turn i p t at there in ⊎_elim (λ is. inl (turn_shut t of_all is)) (λ le. inr (turn_last t of_all le)) either

  pub saw_risen : SomeSawShut passes → HasRisen old.disk.faults new.disk.faults
  saw_risen some_shut = ⊎_elim (λ both. both.1) (λ le. risen_last old.disk.faults new.disk.faults le) (saw_shut some_shut)

  -- ---- what was met

  abbrev pub met : ℕ
  met = sum_by (troubles state_of x) passes

  -- the disk counted all that was met, or its count stands at its last value
  pub counted_low : (old.disk.faults + met ≤ new.disk.faults) ⊎ (last_count ≤ new.disk.faults)
  counted_low =
      let a = faults_of old j.ready.whole in
      let b = faults_of back j.closes.whole in
      let s = same_faults in
      let up = back_lower in
      ⊎_elim (λ le. inl (omega (arith, a, b, s, up, le))) (λ le. inr (omega (arith, b, up, le))) j.closes.low

  -- and no more, before the last seal
  pub counted_high : back.disk.faults ≤ old.disk.faults + met
  counted_high = let a = faults_of old j.ready.whole in let b = faults_of back j.closes.whole in let s = same_faults in let h = j.closes.high in omega (arith, a, b, s, h)
