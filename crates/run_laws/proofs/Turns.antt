-- The outcomes of a run in the order of the script are those of its history.
use Rattle.std.proofs.Common.{◌≡◌, ℕ, zero, suc, ◌+◌, ◌<◌, List, [], ◌∷◌, refl, ap, ◌∙◌, subst, sym, Option, Some, None, arith}
use Rattle.std.specs.Prelude.{slice_get}
use Rattle.std.specs.List.{cons_option}
use Rattle.fine_model.specs.declared.Outcome.{Outcome}
use Rattle.fine_model.specs.declared.Outcome.TheVariants as outcome
use Rattle.fine_model.specs.History.{Commit}
use Rattle.fine_model.specs.Outcomes.{IsCommittedAt, IsHistoryOf}
use Rattle.run_laws.specs.Turns.{AreNumbered, InTurnLaw, commit_of, commits_of}

-- a committed outcome stands at its place among the commits, and its turn is its own
record Found (turn place i at : ℕ) (outcomes : List Outcome) (c : Commit) : Type 0 where
  behind : ℕ
  place_is : at ≡ place + suc behind
  stands : slice_get (commits_of outcomes) behind ≡ Some c
  turn_is : c.entry.turn ≡ turn + suc i

passed : (turn place i at : ℕ) (o : Outcome) (outcomes : List Outcome) (c : Commit) → commit_of o ≡ None → Found (turn + 1) place i at outcomes c → Found turn place (suc i) at (o ∷ outcomes) c
passed turn place i at o outcomes c none f = record {
  behind = f.behind;
  place_is = f.place_is;
  stands = ap (λ cs. slice_get cs f.behind) (ap (λ m. cons_option m (commits_of outcomes)) none) ∙ f.stands;
  turn_is = let t = f.turn_is in omega (arith, t);
}

found : (turn place : ℕ) (outcomes : List Outcome) → AreNumbered turn place outcomes → (i at : ℕ) (c : Commit) → IsCommittedAt outcomes i at c → Found turn place i at outcomes c
found turn place [] are i at c is = absurd (let e : ◌≡◌ {A = Option Outcome} None (Some (outcome.Committed at c.epoch c.entry)) = is in cc)
found turn place (outcome.Committed at' epoch entry ∷ outcomes) are zero at c is =
    let same_at : at' ≡ at = cc in let same_epoch : epoch ≡ c.epoch = cc in let same_entry : entry ≡ c.entry = cc in
    let number = are.0 in let own = are.1 in
    record {
      behind = 0;
      place_is = omega (arith, same_at, number);
      stands = λ i. Some (record { entry = same_entry i; epoch = same_epoch i });
      turn_is = ap (λ e. e.turn) (sym same_entry) ∙ omega (arith, own);
    }
found turn place (outcome.Committed at' epoch entry ∷ outcomes) are (suc i) at c is =
    let f = found (turn + 1) (place + 1) outcomes are.2 i at c is in
    record {
      behind = suc f.behind;
      place_is = let p = f.place_is in omega (arith, p);
      stands = f.stands;
      turn_is = let t = f.turn_is in omega (arith, t);
    }
found turn place (outcome.Aborted ∷ outcomes) are zero at c is = absurd (let e : ◌≡◌ {A = Option Outcome} (Some outcome.Aborted) (Some (outcome.Committed at c.epoch c.entry)) = is in cc)
found turn place (outcome.Aborted ∷ outcomes) are (suc i) at c is = passed turn place i at outcome.Aborted outcomes c refl (found (turn + 1) place outcomes are i at c is)
found turn place (outcome.Refused why ∷ outcomes) are zero at c is = absurd (let e : ◌≡◌ {A = Option Outcome} (Some (outcome.Refused why)) (Some (outcome.Committed at c.epoch c.entry)) = is in cc)
found turn place (outcome.Refused why ∷ outcomes) are (suc i) at c is = passed turn place i at (outcome.Refused why) outcomes c refl (found (turn + 1) place outcomes are i at c is)
found turn place (outcome.NotRun ∷ outcomes) are zero at c is = absurd (let e : ◌≡◌ {A = Option Outcome} (Some outcome.NotRun) (Some (outcome.Committed at c.epoch c.entry)) = is in cc)
found turn place (outcome.NotRun ∷ outcomes) are (suc i) at c is = passed turn place i at outcome.NotRun outcomes c refl (found (turn + 1) place outcomes are i at c is)

-- each commit is that of an outcome
record Owned (place k : ℕ) (outcomes : List Outcome) (c : Commit) : Type 0 where
  turn : ℕ
  is : IsCommittedAt outcomes turn (place + suc k) c

later_owned : (place k : ℕ) (o : Outcome) (outcomes : List Outcome) (c : Commit) → Owned place k outcomes c → Owned place k (o ∷ outcomes) c
later_owned place k o outcomes c w = record { turn = suc w.turn; is = w.is }

owned : (turn place : ℕ) (outcomes : List Outcome) → AreNumbered turn place outcomes → (k : ℕ) (c : Commit) → slice_get (commits_of outcomes) k ≡ Some c → Owned place k outcomes c
owned turn place [] are k c is = absurd (let e : ◌≡◌ {A = Option Commit} None (Some c) = is in cc)
owned turn place (outcome.Committed at epoch entry ∷ outcomes) are zero c is =
    let same : record { entry = entry; epoch = epoch } ≡ c = cc in
    let number : at ≡ place + 1 = are.0 in
    record { turn = 0; is = (λ i. Some (outcome.Committed (number i) epoch entry)) ∙ ap (λ c. Some (outcome.Committed (place + 1) c.epoch c.entry)) same }
owned turn place (outcome.Committed at epoch entry ∷ outcomes) are (suc k) c is =
    let w = owned (turn + 1) (place + 1) outcomes are.2 k c is in
    let e : (place + 1) + suc k ≡ place + suc (suc k) = omega arith in
    record { turn = suc w.turn; is = subst (λ p. IsCommittedAt outcomes w.turn p c) e w.is }
owned turn place (outcome.Aborted ∷ outcomes) are k c is = later_owned place k outcome.Aborted outcomes c (owned (turn + 1) place outcomes are k c is)
owned turn place (outcome.Refused why ∷ outcomes) are k c is = later_owned place k (outcome.Refused why) outcomes c (owned (turn + 1) place outcomes are k c is)
owned turn place (outcome.NotRun ∷ outcomes) are k c is = later_owned place k outcome.NotRun outcomes c (owned (turn + 1) place outcomes are k c is)

history_of : (outcomes : List Outcome) → AreNumbered 0 0 outcomes → IsHistoryOf outcomes (commits_of outcomes)
history_of outcomes are = record {
  each = λ i place c is.
      let f = found 0 0 outcomes are i (place + 1) c is in
      let p = f.place_is in let e : f.behind ≡ place = omega (arith, p) in
      (subst (λ n. slice_get (commits_of outcomes) n ≡ Some c) e f.stands, f.turn_is ∙ omega arith);
  no_place_zero = λ i c is. let f = found 0 0 outcomes are i 0 c is in let p = f.place_is in omega (arith, p);
  only = λ place c is.
      let w = owned 0 0 outcomes are place c is in
      let e : 0 + suc place ≡ place + 1 = omega arith in
      (w.turn, subst (λ p. IsCommittedAt outcomes w.turn p c) e w.is);
}

-- places rise with turns
rise : (turn place : ℕ) (outcomes : List Outcome) → AreNumbered turn place outcomes → (i j p q : ℕ) (a b : Commit) → i < j → IsCommittedAt outcomes i p a → IsCommittedAt outcomes j q b → p < q
rise turn place [] are i j p q a b before is_a is_b = absurd (let e : ◌≡◌ {A = Option Outcome} None (Some (outcome.Committed p a.epoch a.entry)) = is_a in cc)
rise turn place (o ∷ outcomes) are i zero p q a b before is_a is_b = absurd (omega (arith, before))
rise turn place (outcome.Committed at epoch entry ∷ outcomes) are zero (suc j) p q a b before is_a is_b =
    let same : at ≡ p = cc in let number = are.0 in
    let f = found (turn + 1) (place + 1) outcomes are.2 j q b is_b in let behind = f.place_is in omega (arith, same, number, behind)
rise turn place (outcome.Aborted ∷ outcomes) are zero (suc j) p q a b before is_a is_b = absurd (let e : ◌≡◌ {A = Option Outcome} (Some outcome.Aborted) (Some (outcome.Committed p a.epoch a.entry)) = is_a in cc)
rise turn place (outcome.Refused why ∷ outcomes) are zero (suc j) p q a b before is_a is_b =
    absurd (let e : ◌≡◌ {A = Option Outcome} (Some (outcome.Refused why)) (Some (outcome.Committed p a.epoch a.entry)) = is_a in cc)
rise turn place (outcome.NotRun ∷ outcomes) are zero (suc j) p q a b before is_a is_b = absurd (let e : ◌≡◌ {A = Option Outcome} (Some outcome.NotRun) (Some (outcome.Committed p a.epoch a.entry)) = is_a in cc)
rise turn place (outcome.Committed at epoch entry ∷ outcomes) are (suc i) (suc j) p q a b before is_a is_b = rise (turn + 1) (place + 1) outcomes are.2 i j p q a b (omega (arith, before)) is_a is_b
rise turn place (outcome.Aborted ∷ outcomes) are (suc i) (suc j) p q a b before is_a is_b = rise (turn + 1) place outcomes are i j p q a b (omega (arith, before)) is_a is_b
rise turn place (outcome.Refused why ∷ outcomes) are (suc i) (suc j) p q a b before is_a is_b = rise (turn + 1) place outcomes are i j p q a b (omega (arith, before)) is_a is_b
rise turn place (outcome.NotRun ∷ outcomes) are (suc i) (suc j) p q a b before is_a is_b = rise (turn + 1) place outcomes are i j p q a b (omega (arith, before)) is_a is_b

pub in_turn_law : InTurnLaw
in_turn_law script e outcomes each are last follow = record {
  one_each = each;
  history_of = history_of outcomes are;
  epochs = follow;
  lanes = λ i j p q a b order is_a is_b. rise 0 0 outcomes are i j p q a b order.0 is_a is_b;
  last_ones = last;
}
