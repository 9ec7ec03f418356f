-- That few entries of each lane are few entries where a script has one lane.
use Rattle.std.proofs.Common.{◌≡◌, ℕ, zero, suc, ◌+◌, ◌==◌, ◌&&◌, true, List, [], ◌∷◌, Option, Some, None, cond, refl, ap, ◌∙◌, subst, arith}
use Rattle.std.specs.Prelude.{count_by, slice_get}
use Rattle.std.specs.List.{AllByRecursion, AllZip}
use Rattle.std.proofs.lemmas.List.Sums.{sum_by-cons}
use Rattle.fine_model.specs.declared.Outcome.{Outcome}
use Rattle.fine_model.specs.declared.Outcome.TheVariants as outcome
use Rattle.fine_model.specs.declared.ScriptTxn.{ScriptTxn}
use Rattle.fine_model.specs.History.{Commit}
use Rattle.fine_model.specs.Outcomes.{AreOutcomes, AtMostEach, IsCommittedAt, IsOneLane, IsOutcomeOf}
use Rattle.run_laws.specs.Runs.{AreFewOfLanes}

-- what is committed is of the lane of its transaction
lane_at : (script : List ScriptTxn) (outcomes : List Outcome) → AllZip IsOutcomeOf script outcomes → (lane : ℕ) → AllByRecursion (λ (txn : ScriptTxn). txn.lane ≡ lane) script
    → (i place : ℕ) (c : Commit) → IsCommittedAt outcomes i place c → c.entry.lane ≡ lane
lane_at [] [] each lane all i place c is = absurd (let e : ◌≡◌ {A = Option Outcome} None (Some (outcome.Committed place c.epoch c.entry)) = is in cc)
lane_at [] (o ∷ outcomes) each lane all i place c is = absurd each
lane_at (txn ∷ script) [] each lane all i place c is = absurd each
lane_at (txn ∷ script) (o ∷ outcomes) each lane all zero place c is =
    let same : o ≡ outcome.Committed place c.epoch c.entry = cc in (subst (IsOutcomeOf txn) same each.0).1 ∙ all.0
lane_at (txn ∷ script) (o ∷ outcomes) each lane all (suc i) place c is = lane_at script outcomes each.1 lane all.1 i place c is

same_is : (n m : ℕ) → n ≡ m → (n == m) ≡ true
same_is n m h = grind (arith, h)

-- all entries of an epoch are those of the one lane in it
counted : (lane e : ℕ) (history : List Commit) → ((k : ℕ) (c : Commit) → slice_get history k ≡ Some c → c.entry.lane ≡ lane)
    → count_by (λ c. (c.entry.lane == lane) && (c.epoch == e)) history ≡ count_by (λ c. c.epoch == e) history
counted lane e [] of_lane = refl
counted lane e (c ∷ history) of_lane =
    let here : ((c.entry.lane == lane) && (c.epoch == e)) ≡ (c.epoch == e) = ap (λ b. b && (c.epoch == e)) (same_is c.entry.lane lane (of_lane 0 c refl)) in
    let a = sum_by-cons (λ (d : Commit). cond ((d.entry.lane == lane) && (d.epoch == e)) 1 0) c history in
    let b = sum_by-cons (λ (d : Commit). cond (d.epoch == e) 1 0) c history in
    let same : cond ((c.entry.lane == lane) && (c.epoch == e)) 1 0 ≡ cond (c.epoch == e) 1 0 = ap {B = ℕ} (λ b. cond b 1 0) here in
    let left = counted lane e history (λ k d is. of_lane (suc k) d is) in
    omega (arith, a, b, same, left)

pub few_of_one : (script : List ScriptTxn) (outcomes : List Outcome) (e most : ℕ) (history : List Commit) → IsOneLane script → AreOutcomes script e outcomes history → AreFewOfLanes most history → AtMostEach most history
few_of_one script outcomes e most history one are few epoch =
    let same = counted one.0 epoch history (λ k c is. let at = are.history_of.only k c is in lane_at script outcomes are.one_each one.0 one.1 at.0 (k + 1) c at.1) in
    let most_of = few one.0 epoch in
    omega (arith, same, most_of)
