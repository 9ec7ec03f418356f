-- A run as its threads were joined and all was done for its lanes.
use Rattle.std.proofs.Common.{◌≡◌, ◌⊎◌, ⊎_elim, ℕ, zero, suc, ◌+◌, ◌<◌, true, List, [], ◌∷◌, ◌++◌, length, map, Option, Some, None, refl, sym, ap, subst, ◌∙◌, arith}
use Rattle.std.specs.Prelude.{fold, slice_get}
use Rattle.std.proofs.lemmas.Option.{slice_get_within}
use mathlib.Core.Option.{some}
use lib.ListN.{get_elem?}
use Rattle.fine_model.specs.declared.Options.{Options}
use Rattle.fine_model.specs.declared.Ran.{Ran}
use Rattle.fine_model.specs.declared.RunFault.{RunFault}
use Rattle.fine_model.specs.declared.RunFault.TheVariants as run_fault
use Rattle.fine_model.specs.declared.ScriptTxn.{ScriptTxn}
use Rattle.fine_model.specs.Bounds.{FitsScript, FitsTxn}
use Rattle.node_cache.specs.Cache.{Cache}
use Rattle.partition_hold.specs.Views.{ViewValue}
use Rattle.epoch_room.specs.Value.{RoomValue}
use Rattle.fine_hall.specs.Halls.{HallOf}
use Rattle.fine_hall.specs.Passes.{mine, turns}
use Rattle.hall_rooms.specs.Closing.{ClosesHall}
use Rattle.hall_rooms.specs.Opening.{OpensHall}
use Rattle.hall_rooms.specs.Rooms.{RoomPass, beginning_of}
use Rattle.run_laws.specs.Lanes.{first_fault, sooner, with_last}
use Rattle.run_laws.specs.Runs.{IsReady}
use Rattle.lane_laws.specs.Joined.{AreWorkers, LaneDone, LanesJoined, SealsLeft}
use Rattle.lane_laws.specs.Lanes.{LaneValue}
use Rattle.lane_laws.specs.Quiet.{QuietOf}
use Rattle.lane_laws.specs.Works.{Gathers, Work}
use Rattle.lane_runs.proofs.Lists.{all_at}
use Rattle.lane_threads.specs.declared.worker.Part.{Part}
use Rattle.lane_threads.specs.Gathering.{AreOfScript}
use Rattle.lane_threads.specs.Means.{lanes_of}
use Rattle.lane_threads.specs.Resting.{AreAllDone}
use Rattle.lane_threads.proofs.AllPasses.{all_idle, are_all, at_end_or, before_last, last_there}
use Rattle.lane_threads.proofs.Mapped.{mapped, mapped_long, unmapped}
use Rattle.lane_threads.proofs.LanesOf.{lane_among, lane_used, lanes_apart}

-- ---- lists

mapped_twice : (l : List Part) → map (λ (p : Part). p.lane.work) l ≡ map (λ (w : LaneValue). w.work) (map (λ (p : Part). p.lane) l)
mapped_twice [] = refl
mapped_twice (x ∷ l) = ap (λ m. x.lane.work ∷ m) (mapped_twice l)

there : {A : Type 0} (l : List A) (k : ℕ) → k < length l → (a : A) × (get_elem? l k ≡ some a)
there [] k low = absurd (omega (arith, low))
there (x ∷ l) zero low = (x, refl)
there (x ∷ l) (suc k) low = there l k (omega (arith, low))

-- ---- faults

told_on : (a : Option RunFault) (l : List (Option RunFault)) (b : Option RunFault) → fold sooner a (l ++ b ∷ []) ≡ sooner (fold sooner a l) b
told_on a [] b = refl
told_on a (x ∷ l) b = told_on (sooner a x) l b

none_sooner : (a : Option RunFault) → sooner a None ≡ a
none_sooner None = refl
none_sooner (Some run_fault.Memory) = refl
none_sooner (Some run_fault.Disk) = refl
none_sooner (Some (run_fault.Damaged what)) = refl

pub same_told : (ended : List (Option RunFault)) (last : Option RunFault) → first_fault (with_last ended last) ≡ first_fault (with_last (ended ++ None ∷ []) last)
unfolding first_fault
same_told ended None = sym (told_on None ended None ∙ none_sooner (fold sooner None ended))
same_told ended (Some fault) =
    let none : fold sooner None (ended ++ None ∷ []) ≡ fold sooner None ended = told_on None ended None ∙ none_sooner (fold sooner None ended) in
    told_on None ended (Some fault) ∙ sym (told_on None (ended ++ None ∷ []) (Some fault) ∙ ap (λ a. sooner a (Some fault)) none)

module _ {Q : Type 0} (hall : HallOf RoomValue Cache ViewValue Q) (script : List ScriptTxn) (group : ℕ) (first : RoomPass) (others : List RoomPass) (parts : List Part) (ended : List (Option RunFault)) (done : AreAllDone hall script group first others parts ended) where
  lane_at : (k : ℕ) (p : Part) → slice_get parts k ≡ Some p → slice_get (lanes_of script) k ≡ Some p.lane.lane
  lane_at k p at = ap (λ (l : List ℕ). slice_get l k) (sym done.lanes) ∙ mapped (λ (q : Part). q.lane.lane) parts k p at

  lanes_differ : (j k : ℕ) (p q : Part) → slice_get parts j ≡ Some p → slice_get parts k ≡ Some q → p.lane.lane ≡ q.lane.lane → j ≡ k
  lanes_differ j k p q at_j at_k same = lanes_apart script j k q.lane.lane (lane_at j p at_j ∙ ap Some same) (lane_at k q at_k)

  with_pass : (k : ℕ) (part : Part) → slice_get parts k ≡ Some part → (p : RoomPass) × (get_elem? others k ≡ some p) × LaneDone (beginning_of hall) (turns first) script group p part.lane
  with_pass k part at =
      let low = slice_get_within parts k part at in
      let n = done.count in
      let p = there others k (omega (arith, low, n)) in
      (p.0, p.1, done.done k p.0 part p.1 at)

  pub of_script : AreOfScript script parts
  of_script = record {
    apart = lanes_differ;
    at = λ k p at. (with_pass k p at).2.runs.has.at;
    count = λ k p at. (with_pass k p at).2.runs.has.done.count;
  }

  workers : List LaneValue
  workers = map (λ (p : Part). p.lane) parts

  workers_are : FitsScript script → AreWorkers script (map (λ (p : Part). p.lane) parts)
  workers_are fits = record {
    every = λ i txn is.
        let t : FitsTxn txn = all_at FitsTxn script fits.txns i txn is in
        let k = lane_among script i txn is t.lane in
        let p = unmapped (λ (q : Part). q.lane.lane) parts k.0 txn.lane (ap (λ (l : List ℕ). slice_get l k.0) done.lanes ∙ k.1) in
        (k.0, p.0.lane, mapped (λ (q : Part). q.lane) parts k.0 p.0 p.1, p.2);
    once = λ i j v w at_v at_w same.
        let p = unmapped (λ (q : Part). q.lane) parts i v at_v in
        let q = unmapped (λ (r : Part). r.lane) parts j w at_w in
        lanes_differ i j p.0 q.0 p.1 q.1 (ap (λ (l : LaneValue). l.lane) p.2 ∙ (same ∙ sym (ap (λ (l : LaneValue). l.lane) q.2)));
    only = λ k w at.
        let p = unmapped (λ (q : Part). q.lane) parts k w at in
        lane_used script k w.lane (lane_at k p.0 p.1 ∙ ap Some (ap (λ (l : LaneValue). l.lane) p.2));
  }

  others_quiet : (i : ℕ) (p : RoomPass) → get_elem? (others ++ first ∷ []) i ≡ some p → (p.number ≡ 1) ⊎ (p.number ≡ length (map (λ (q : Part). q.lane) parts) + 2) → (mine p ≡ []) × QuietOf p.number (beginning_of hall).room (turns p)
  others_quiet = at_end_or others first (λ i p. (p.number ≡ 1) ⊎ (p.number ≡ length (map (λ (q : Part). q.lane) parts) + 2) → (mine p ≡ []) × QuietOf p.number (beginning_of hall).room (turns p))
      (λ i p at which.
      let n = done.others_are.numbers i p at in
      ⊎_elim
      (λ one. absurd (omega (arith, n, one)))
      (λ last.
      let m = mapped_long (λ (q : Part). q.lane) parts in
      let i_is : i ≡ length parts = omega (arith, n, last, m) in
      let c = done.last p (subst (λ k. get_elem? others k ≡ some p) i_is at) in
      (c.none_mine, c.quiet))
      which)
      (λ which. (done.first_is.none_mine, done.first_is.quiet))

  pub lanes_joined : (options : Options) → group ≡ options.group → FitsScript script → (old back new : RoomValue) → IsReady old → OpensHall old (length parts + 2) (beginning_of hall) → (last : Option RunFault) (ran : Ran)
      → ClosesHall (beginning_of hall) (others ++ first ∷ []) back → SealsLeft back new last → Gathers script (map (λ (p : Part). p.lane.work) parts) ran.outcomes → ran.fault ≡ first_fault (with_last ended last)
      → ran.durable ≡ new.room.sealed → (ran.unsealed ≡ true → last ≡ Some run_fault.Memory) → (last ≡ Some run_fault.Memory → ran.unsealed ≡ true)
      → LanesJoined (beginning_of hall) script options old back new (others ++ first ∷ []) (map (λ (p : Part). p.lane) parts) ended None last ran
  lanes_joined options of_group fits old back new ready opens last ran closes seals gathers fault durable unsealed unsealed_then = record {
    ready = ready;
    fits = fits;
    opens = subst (λ n. OpensHall old (n + 2) (beginning_of hall)) (sym (mapped_long (λ (p : Part). p.lane) parts)) opens;
    all = are_all hall first others done.first_is done.others_are (beginning_of hall).seats (let n = done.count in let s = opens.seats_are in omega (arith, n, s));
    own = λ i p at. (all_idle hall first others done.first_is done.others_are i p at).0.own;
    workers_are = workers_are fits;
    first = first;
    first_is = (length others, last_there others first, done.first_is.number);
    lanes = λ k w at.
        let part = unmapped (λ (p : Part). p.lane) parts k w at in
        let p = with_pass k part.0 part.1 in (
          k,
          p.0,
          before_last others first k p.0 p.1,
          done.others_are.numbers k p.0 p.1,
          subst (λ g. LaneDone (beginning_of hall) (turns first) script g p.0 w) of_group (subst (λ (v : LaneValue). LaneDone (beginning_of hall) (turns first) script group p.0 v) part.2 p.2),
        );
    others = others_quiet;
    closes = closes;
    are_ended = done.are_ended;
    joined = done.joined;
    seals = seals;
    outcomes = subst (λ (l : List Work). Gathers script l ran.outcomes) (mapped_twice parts) gathers;
    fault = fault ∙ same_told ended last;
    durable = durable;
    unsealed = (unsealed, unsealed_then);
  }
