-- What each call leaves at its exits, from what the calls in it said. A runner is opened before its parts are used: `inside` is what it holds.
use Rattle.std.proofs.Common.{◌≡◌, ℕ, zero, suc, ◌+◌, ◌≤◌, Bool, false, List, [], length, refl, sym, ap, ◌∙◌, subst, Option, Some, None, Ok, Err, arith}
use Rattle.std.specs.Prelude.{Result}
use Rattle.fine_model.specs.declared.Entry.{Entry}
use Rattle.fine_model.specs.declared.Options.{Options}
use Rattle.fine_model.specs.declared.Outcome.{Outcome}
use Rattle.fine_model.specs.declared.Outcome.TheVariants as outcome
use Rattle.fine_model.specs.declared.Row.{Row}
use Rattle.fine_model.specs.declared.RunFault.{RunFault}
use Rattle.fine_model.specs.declared.RunFault.TheVariants as run_fault
use Rattle.fine_model.specs.declared.ScriptTxn.{ScriptTxn}
use Rattle.fine_model.specs.Becomes.{Becomes}
use Rattle.txn_draft.specs.Drafts.{DraftValue, entry_of}
use Rattle.partition_hold.specs.Views.{ViewValue}
use Rattle.epoch_room.specs.Meaning.{StandsForMore}
use Rattle.epoch_room.specs.Steps.{appended}
use Rattle.epoch_room.specs.Value.{RoomValue}
use Rattle.epoch_room.specs.Whole.{IsWhole}
use Rattle.epoch_room.specs.declared.answers.Stamp.{Stamp}
use Rattle.room_shelf.specs.Shelves.{Rests, shelf}
use Rattle.open_txn.specs.Buckets.{BucketsValue}
use Rattle.open_txn.specs.Opened.{SettlesAll, UndoesAll}
use Rattle.room_steps.specs.Steps.{SealsWaiting, Tidies}
use Rattle.run_laws.specs.Lanes.{first_fault, with_last}
use Rattle.run_laws.specs.Runs.{IsReady, RunsLanes}
use Rattle.run_laws.specs.Turns.{commits_of}
use Rattle.txn_runner.specs.Body.{RunnerValue, RunsSoFar, body}
use Rattle.txn_runner.specs.Steps.{Appends, Closes, IsClosed, SealsAll, TakesBack, is_memory}
use Rattle.txn_runner.proofs.Looping as looping
use Rattle.txn_runner.proofs.Seals as seals

-- ---- the entries that wait

pub some_wait : (n waiting : ℕ) → n ≡ waiting → (n ≡ 0 → ⊥) → 1 ≤ waiting
some_wait zero waiting is some = absurd (some refl)
some_wait (suc n) waiting is some = omega (arith, is)

module _ (inside old : RunnerValue) (is : inside ≡ old) where
  -- a runner with another room and another view
  abbrev moved : RoomValue → Option ViewValue → RunnerValue
  moved room view = record { room = room; view = view; full = inside.full; ended = inside.ended }

  pub take_back : (before after : BucketsValue) (published : ℕ) → published ≡ inside.room.room.sealed → IsWhole inside.room → UndoesAll published before after → TakesBack (body old before) (body old after)
  take_back before after published is_sealed whole undoes = subst (λ v. TakesBack (body v before) (body v after)) is
      (record { buckets = subst (λ n. UndoesAll n before after) is_sealed undoes; rest = refl; whole = whole })

  pub append : (d : DraftValue) (rows : List Row) → rows ≡ d.rows → (before after : BucketsValue) (published : ℕ) → published ≡ inside.room.room.sealed → (stamp : Stamp) → stamp ≡ record { place = inside.room.room.places + 1; epoch = inside.room.room.sealed + 1 }
      → (room : RoomValue) → room ≡ appended inside.room rows → StandsForMore inside.room room rows → Becomes inside.room.room room.room → IsWhole room → (entry : Entry) → entry ≡ entry_of d → SettlesAll stamp.epoch published before after
      → Appends d (body old before) (body (moved room inside.view) after) (outcome.Committed stamp.place stamp.epoch entry)
  append d rows same before after published is_sealed stamp stamped room appends stands becomes whole entry is_entry settles =
      subst (λ v. Appends d (body v before) (body (moved room inside.view) after) (outcome.Committed stamp.place stamp.epoch entry)) is (record {
        is = ap (λ (s : Stamp). outcome.Committed s.place s.epoch entry) stamped ∙ ap (λ e. outcome.Committed (inside.room.room.places + 1) (inside.room.room.sealed + 1) e) is_entry;
        room = appends ∙ ap (appended inside.room) same;
        stands = subst (StandsForMore inside.room room) same stands;
        becomes = becomes;
        whole = whole;
        buckets = subst (λ n. SettlesAll n inside.room.room.sealed before after) (ap (λ (s : Stamp). s.epoch) stamped) (subst (λ n. SettlesAll stamp.epoch n before after) is_sealed settles);
        rest = refl;
      })

  -- ---- seals

  pub seals_then : (buckets : BucketsValue) (first : Result ℕ RunFault) (epoch : ℕ) → first ≡ Ok epoch → (mid : RoomValue) (mid_view : Option ViewValue) → SealsWaiting (shelf inside.room inside.view) (shelf mid mid_view) first
      → (result : Result (Unit {0}) RunFault) (room : RoomValue) (view : Option ViewValue) → Tidies (shelf mid mid_view) (shelf room view) result → SealsAll (body old buckets) (body (moved room view) buckets) result
  seals_then buckets first epoch ok mid mid_view s result room view d = subst (λ v. SealsAll (body v buckets) (body (moved room view) buckets) result) is
      (seals.is_sealed (body inside buckets) mid mid_view room view epoch result (subst (SealsWaiting (shelf inside.room inside.view) (shelf mid mid_view)) ok s) d)

  pub seals_not : 1 ≤ old.room.room.waiting → (buckets : BucketsValue) (first : Result ℕ RunFault) (fault : RunFault) → first ≡ Err fault → (room : RoomValue) (view : Option ViewValue) → SealsWaiting (shelf inside.room inside.view) (shelf room view) first
      → SealsAll (body old buckets) (body (moved room view) buckets) (Err fault)
  seals_not some buckets first fault err room view s = subst (λ v. SealsAll (body v buckets) (body (moved room view) buckets) (Err fault)) is
      (seals.not_sealed (body inside buckets) room view fault (subst (λ (v : RunnerValue). 1 ≤ v.room.room.waiting) (sym is) some) (subst (SealsWaiting (shelf inside.room inside.view) (shelf room view)) err s))

  -- ---- the end

  pub rests : (buckets : BucketsValue) (waiting : ℕ) → waiting ≡ inside.room.room.waiting → waiting ≡ 0 → (out : Option ViewValue) → out ≡ inside.view → (room : RoomValue) (view : Option ViewValue) → view ≡ None → IsWhole room → Rests inside.room out room
      → Closes (body old buckets) (body (moved room view) buckets) None
  rests buckets waiting counted none out taken room view empty whole r = subst (λ v. Closes (body v buckets) (body (moved room view) buckets) None) is
      (subst (λ x. Closes (body inside buckets) (body (moved room x) buckets) None) (sym empty)
      (seals.rests (body inside buckets) room (sym counted ∙ none) whole (subst (λ x. Rests inside.room x room) taken r)))

  pub closes : (buckets : BucketsValue) (first : Result ℕ RunFault) (epoch : ℕ) → first ≡ Ok epoch → (last : Option RunFault) → last ≡ None → (room : RoomValue) (view : Option ViewValue) → SealsWaiting (shelf inside.room inside.view) (shelf room view) first
      → Closes (body old buckets) (body (moved room view) buckets) last
  closes buckets first epoch ok last none room view s = subst (λ v. Closes (body v buckets) (body (moved room view) buckets) last) is
      (subst (Closes (body inside buckets) (body (moved room view) buckets)) (sym none) (seals.closes (body inside buckets) room epoch view (subst (SealsWaiting (shelf inside.room inside.view) (shelf room view)) ok s)))

  pub closes_not : 1 ≤ inside.room.room.waiting → (buckets : BucketsValue) (first : Result ℕ RunFault) (fault : RunFault) → first ≡ Err fault → (last : Option RunFault) → last ≡ Some fault → (room : RoomValue) (view : Option ViewValue) → SealsWaiting (shelf inside.room inside.view) (shelf room view) first
      → Closes (body old buckets) (body (moved room view) buckets) last
  closes_not waits buckets first fault err last some room view s = subst (λ v. Closes (body v buckets) (body (moved room view) buckets) last) is
      (subst (Closes (body inside buckets) (body (moved room view) buckets)) (sym some) (seals.not_closed (body inside buckets) room waits fault view (subst (SealsWaiting (shelf inside.room inside.view) (shelf room view)) err s)))

-- the end of the body, behind all transactions
closes_so_far : (old new : RunnerValue) (last : Option RunFault) → ((buckets : BucketsValue) → Closes (body old buckets) (body new buckets) last) → (script : List ScriptTxn) (options : Options) (entry : RoomValue) (buckets : BucketsValue) (outcomes : List Outcome)
    → IsReady entry → (s : RunsSoFar script options (length script) entry (body old buckets) outcomes) → IsClosed entry (body old buckets) (body new buckets) (commits_of s.done) last
closes_so_far old new last closes script options entry buckets outcomes ready s =
    closes buckets entry (commits_of s.done) ready (record { room = s.goes_on; no_region = s.no_region; stuck = s.stuck; view = s.view }) s.told

-- what a run gives behind the last transaction
pub finish : (old new inside : RunnerValue) → inside ≡ new → (last : Option RunFault) → ((buckets : BucketsValue) → Closes (body old buckets) (body new buckets) last) → (outcomes : List Outcome) (durable : ℕ) → durable ≡ inside.room.room.sealed
    → (fault : Option RunFault) → fault ≡ first_fault (with_last inside.ended last) → (unsealed : Bool) → unsealed ≡ is_memory last → (script : List ScriptTxn) (options : Options) (entry : RoomValue) (buckets : BucketsValue) → IsReady entry
    → RunsSoFar script options (length script) entry (body old buckets) outcomes → RunsLanes script options entry inside.room (record { outcomes = outcomes; durable = durable; fault = fault; unsealed = unsealed })
finish old new inside is last closes outcomes durable is_sealed fault told unsealed wanting script options entry buckets ready s =
    looping.finishes script options entry (body old buckets) outcomes s ready (body inside buckets) last (subst (λ v. IsClosed entry (body old buckets) (body v buckets) (commits_of s.done) last) (sym is) closed)
    (record { outcomes = outcomes; durable = durable; fault = fault; unsealed = unsealed })
    (ap (λ n. record { outcomes = outcomes; durable = n; fault = fault; unsealed = unsealed }) is_sealed
    ∙ ap (λ f. record { outcomes = outcomes; durable = inside.room.room.sealed; fault = f; unsealed = unsealed }) (told ∙ ap (λ ended. first_fault (with_last ended last)) (ap (λ (v : RunnerValue). v.ended) is ∙ closed.ended))
    ∙ ap (λ u. record { outcomes = outcomes; durable = inside.room.room.sealed; fault = first_fault (with_last (body old buckets).ended last); unsealed = u }) wanting)
  where
    closed : IsClosed entry (body old buckets) (body new buckets) (commits_of s.done) last
    closed = closes_so_far old new last closes script options entry buckets outcomes ready s

-- and where there was no memory to begin
pub not_begun : (room : RoomValue) → IsReady room → (outcomes : List Outcome) → outcomes ≡ [] → (durable : ℕ) → durable ≡ room.room.sealed → (script : List ScriptTxn) (options : Options)
    → RunsLanes script options room room (record { outcomes = outcomes; durable = durable; fault = Some run_fault.Memory; unsealed = false })
not_begun room ready outcomes none durable is_sealed script options = looping.not_begun script options room (record { outcomes = outcomes; durable = durable; fault = Some run_fault.Memory; unsealed = false }) ready
    (ap (λ os. record { outcomes = os; durable = durable; fault = Some run_fault.Memory; unsealed = false }) none ∙ ap (λ n. record { outcomes = []; durable = n; fault = Some run_fault.Memory; unsealed = false }) is_sealed)
