-- Steps of the outcomes so far.
use Rattle.std.proofs.Common.{◌≡◌, ◌≢◌, ◌⊎◌, inl, inr, ⊎_elim, ℕ, zero, suc, ◌+◌, ◌≤◌, ◌==◌, Bool, true, false, is_some, List, [], ◌∷◌, ◌++◌, length, refl, sym, ap, ◌∙◌, subst, Option, Some, None, true≢false, le_refl, ◌-◌, arith}
use Rattle.std.specs.Prelude.{replicate, slice_get, slice_set, take}
use Rattle.std.proofs.lemmas.List.{take_all}
use Rattle.std.specs.List.{AllByRecursion, AllZip}
use Rattle.std.proofs.lemmas.Option.{slice_get_within}
use Rattle.fine_model.specs.declared.Outcome.{Outcome}
use Rattle.fine_model.specs.declared.Outcome.TheVariants as outcome
use Rattle.fine_model.specs.declared.RunFault.{RunFault}
use Rattle.fine_model.specs.declared.ScriptTxn.{ScriptTxn}
use Rattle.fine_model.specs.declared.Why.{Why}
use Rattle.fine_model.specs.History.{all_rows}
use Rattle.fine_model.specs.Outcomes.{IsOutcomeOf}
use Rattle.run_laws.specs.Lanes.{HaveEnded, fault_of}
use Rattle.run_laws.specs.Runs.{IsReplied}
use Rattle.run_laws.specs.SoFar.{LaneEndsLaw, NextLaw, RefusedNext, SetsLaw}
use Rattle.run_laws.specs.Turns.{AreNumbered, EndsLanes, RefusesBehind, commits_of}
use Rattle.run_laws.proofs.Caused.{stays_refused}

-- ---- lists with one item more

none_at : {A P : Type 0} (y : A) → ◌≡◌ {A = Option A} None (Some y) → P
none_at y e = absurd (let x = e in cc)

pub old_at : {A : Type 0} (xs : List A) (x : A) (i : ℕ) (y : A) → slice_get (xs ++ x ∷ []) i ≡ Some y → (slice_get xs i ≡ Some y) ⊎ ((i ≡ length xs) × (x ≡ y))
old_at [] x zero y is = inr (refl, let e : ◌≡◌ {A = Option _} (Some x) (Some y) = is in cc)
old_at [] x (suc i) y is = none_at y is
old_at (z ∷ xs) x zero y is = inl is
old_at (z ∷ xs) x (suc i) y is = ⊎_elim (λ h. inl h) (λ h. inr (ap (λ n. suc n) h.0, h.1)) (old_at xs x i y is)

pub kept : {A : Type 0} (xs : List A) (x : A) (i : ℕ) (y : A) → slice_get xs i ≡ Some y → slice_get (xs ++ x ∷ []) i ≡ Some y
kept [] x i y is = none_at y is
kept (z ∷ xs) x zero y is = is
kept (z ∷ xs) x (suc i) y is = kept xs x i y is

pub at_end : {A : Type 0} (xs : List A) (x : A) → slice_get (xs ++ x ∷ []) (length xs) ≡ Some x
at_end [] x = refl
at_end (z ∷ xs) x = at_end xs x

long : {A : Type 0} (xs : List A) (x : A) → length (xs ++ x ∷ []) ≡ length xs + 1
long [] x = omega arith
long (z ∷ xs) x = let h = long xs x in omega (arith, h)

pub take_next : {A : Type 0} (i : ℕ) (xs : List A) (x : A) → slice_get xs i ≡ Some x → take (suc i) xs ≡ take i xs ++ x ∷ []
take_next i [] x is = none_at x is
take_next zero (z ∷ xs) x is = let e : ◌≡◌ {A = Option _} (Some z) (Some x) = is in let same : z ≡ x = cc in ap (λ y. y ∷ []) same
take_next (suc i) (z ∷ xs) x is = ap (λ ys. z ∷ ys) (take_next i xs x is)

zip_push : (ts : List ScriptTxn) (os : List Outcome) (t : ScriptTxn) (o : Outcome) → AllZip IsOutcomeOf ts os → IsOutcomeOf t o → AllZip IsOutcomeOf (ts ++ t ∷ []) (os ++ o ∷ [])
zip_push [] [] t o all is = (is, tt)
zip_push [] (p ∷ os) t o all is = absurd all
zip_push (u ∷ ts) [] t o all is = absurd all
zip_push (u ∷ ts) (p ∷ os) t o all is = (all.0, zip_push ts os t o all.1 is)

number_push : (turn place : ℕ) (os : List Outcome) (o : Outcome) → AreNumbered turn place os → AreNumbered (turn + length os) (place + length (commits_of os)) (o ∷ []) → AreNumbered turn place (os ++ o ∷ [])
number_push turn place [] o are next = subst (λ (n : ℕ). AreNumbered n place (o ∷ [])) zero_turn (subst (λ n. AreNumbered (turn + 0) n (o ∷ [])) zero_place next)
  where
    zero_turn : turn + 0 ≡ turn
    zero_turn = omega arith

    zero_place : place + 0 ≡ place
    zero_place = omega arith
number_push turn place (outcome.Committed at epoch entry ∷ os) o are next = (are.0, are.1, number_push (turn + 1) (place + 1) os o are.2 (moved next))
  where
    moved : AreNumbered (turn + suc (length os)) (place + suc (length (commits_of os))) (o ∷ []) → AreNumbered ((turn + 1) + length os) ((place + 1) + length (commits_of os)) (o ∷ [])
    moved h =
        let a : turn + suc (length os) ≡ (turn + 1) + length os = omega arith in
        let b : place + suc (length (commits_of os)) ≡ (place + 1) + length (commits_of os) = omega arith in
        subst (λ n. AreNumbered n ((place + 1) + length (commits_of os)) (o ∷ [])) a (subst (λ n. AreNumbered (turn + suc (length os)) n (o ∷ [])) b h)
number_push turn place (outcome.Aborted ∷ os) o are next = number_push (turn + 1) place os o are (let a : turn + suc (length os) ≡ (turn + 1) + length os = omega arith in subst (λ n. AreNumbered n (place + length (commits_of os)) (o ∷ [])) a next)
number_push turn place (outcome.Refused w ∷ os) o are next = number_push (turn + 1) place os o are (let a : turn + suc (length os) ≡ (turn + 1) + length os = omega arith in subst (λ n. AreNumbered n (place + length (commits_of os)) (o ∷ [])) a next)
number_push turn place (outcome.NotRun ∷ os) o are next = number_push (turn + 1) place os o are (let a : turn + suc (length os) ≡ (turn + 1) + length os = omega arith in subst (λ n. AreNumbered n (place + length (commits_of os)) (o ∷ [])) a next)

replied_push : (os : List Outcome) (o : Outcome) → AllByRecursion IsReplied (commits_of os) → AllByRecursion IsReplied (commits_of (o ∷ [])) → AllByRecursion IsReplied (commits_of (os ++ o ∷ []))
replied_push [] o all here = here
replied_push (outcome.Committed at epoch entry ∷ os) o all here = (all.0, replied_push os o all.1 here)
replied_push (outcome.Aborted ∷ os) o all here = replied_push os o all here
replied_push (outcome.Refused w ∷ os) o all here = replied_push os o all here
replied_push (outcome.NotRun ∷ os) o all here = replied_push os o all here

-- ---- one outcome more

abbrev RunsOr : List (Option RunFault) → ScriptTxn → Outcome → Type 0
RunsOr ended t o = ((o ≡ outcome.NotRun) × (is_some (fault_of ended t.lane) ≡ true)) ⊎ ((o ≢ outcome.NotRun) × (fault_of ended t.lane ≡ None))

module _ (ts : List ScriptTxn) (done : List Outcome) (ended : List (Option RunFault)) (t : ScriptTxn) (o : Outcome) (same : length done ≡ length ts) (runs : RunsOr ended t o) (have : HaveEnded ts done ended) where
  ends_push : HaveEnded (ts ++ t ∷ []) (done ++ o ∷ []) ended
  ends_push i txn is_txn is = by (old_at ts t i txn is_txn) (old_at done o i outcome.NotRun is)
    where
      by : (slice_get ts i ≡ Some txn) ⊎ ((i ≡ length ts) × (t ≡ txn)) → (slice_get done i ≡ Some outcome.NotRun) ⊎ ((i ≡ length done) × (o ≡ outcome.NotRun)) → is_some (fault_of ended txn.lane) ≡ true
      by (inl a) (inl b) = have i txn a b
      by (inl a) (inr b) = let w = slice_get_within ts i txn a in let e = b.0 in absurd (omega (arith, w, e, same))
      by (inr a) (inl b) = let w = slice_get_within done i outcome.NotRun b in let e = a.0 in absurd (omega (arith, w, e, same))
      by (inr a) (inr b) = subst (λ (x : ScriptTxn). is_some (fault_of ended x.lane) ≡ true) a.1 (⊎_elim (λ h. h.1) (λ (h : (o ≢ outcome.NotRun) × (fault_of ended t.lane ≡ None)). absurd (h.0 b.1)) runs)

  last_push : EndsLanes ts done → EndsLanes (ts ++ t ∷ []) (done ++ o ∷ [])
  last_push last i j (before, a, b, is_a, is_b, lane) is = by (old_at ts t j b is_b) (old_at ts t i a is_a) (old_at done o i outcome.NotRun is)
    where
      by : (slice_get ts j ≡ Some b) ⊎ ((j ≡ length ts) × (t ≡ b)) → (slice_get ts i ≡ Some a) ⊎ ((i ≡ length ts) × (t ≡ a)) → (slice_get done i ≡ Some outcome.NotRun) ⊎ ((i ≡ length done) × (o ≡ outcome.NotRun))
          → slice_get (done ++ o ∷ []) j ≡ Some outcome.NotRun
      by (inl x) (inl y) (inl z) = kept done o j outcome.NotRun (last i j (before, a, b, y, x, lane) z)
      by (inl x) (inr y) z = let w = slice_get_within ts j b x in let e = y.0 in absurd (omega (arith, w, e, before))
      by (inl x) (inl y) (inr z) = let w = slice_get_within ts i a y in let e = z.0 in absurd (omega (arith, w, e, same))
      by (inr x) (inr y) z = let d = x.0 in let e = y.0 in absurd (omega (arith, d, e, before))
      by (inr x) (inl y) (inr z) = let w = slice_get_within ts i a y in let e = z.0 in absurd (omega (arith, w, e, same))
      by (inr x) (inl y) (inl z) =
          subst (λ n. slice_get (done ++ o ∷ []) n ≡ Some outcome.NotRun) (same ∙ sym x.0) (at_end done o ∙ ap Some
          (⊎_elim (λ h. h.0) (λ (h : (o ≢ outcome.NotRun) × (fault_of ended t.lane ≡ None)).
          absurd (true≢false (sym (have i a y z) ∙ ap is_some (ap (fault_of ended) (lane ∙ ap (λ (s : ScriptTxn). s.lane) (sym x.1)) ∙ h.1)))) runs))

taken : (i : ℕ) (script : List ScriptTxn) (t : ScriptTxn) → slice_get script i ≡ Some t → length (take i script) ≡ i
taken i [] t is = none_at t is
taken zero (s ∷ script) t is = refl
taken (suc i) (s ∷ script) t is = let h = taken i script t is in omega (arith, h)

pub next_law : NextLaw
next_law script i done ended t o s at adds = record {
  order = record {
    count = let a = long done o in let b = s.count in omega (arith, a, b);
    each = subst (λ ts. AllZip IsOutcomeOf ts (done ++ o ∷ [])) next (zip_push (take i script) done t o s.each adds.is);
    numbered = number_push 0 0 done o s.numbered numbered;
    last_ones = subst (λ ts. EndsLanes ts (done ++ o ∷ [])) next (last_push (take i script) done ended t o same adds.runs s.ends s.last_ones);
    replied = replied_push done o s.replied adds.replied;
  };
  ends = subst (λ ts. HaveEnded ts (done ++ o ∷ []) ended) next (ends_push (take i script) done ended t o same adds.runs s.ends);
}
  where
    next : take i script ++ t ∷ [] ≡ take (i + 1) script
    next = let e : suc i ≡ i + 1 = omega arith in sym (take_next i script t at) ∙ ap (λ n. take n script) e

    same : length done ≡ length (take i script)
    same = s.count ∙ sym (taken i script t at)

    numbered : AreNumbered (0 + length done) (0 + length (commits_of done)) (o ∷ [])
    numbered =
        let a : length done ≡ 0 + length done = omega arith in
        let b : length (commits_of done) ≡ 0 + length (commits_of done) = omega arith in
        subst (λ n. AreNumbered n (0 + length (commits_of done)) (o ∷ [])) a (subst (λ n. AreNumbered (length done) n (o ∷ [])) b adds.number)

-- ---- a lane ends

untaken : (i : ℕ) (script : List ScriptTxn) (j : ℕ) (t : ScriptTxn) → slice_get (take i script) j ≡ Some t → slice_get script j ≡ Some t
untaken zero script j t is = none_at t is
untaken (suc i) [] j t is = is
untaken (suc i) (s ∷ script) zero t is = is
untaken (suc i) (s ∷ script) (suc j) t is = untaken i script j t is

pub lane_ends_law : LaneEndsLaw
lane_ends_law script i done ended after lane fault low ends s = record { order = s.order; ends = λ j t is_t is. by j t is_t is (t.lane == lane) refl }
  where
    same : (n m : ℕ) → (n == m) ≡ true → n ≡ m
    same n m h = grind (arith, h)

    other : (n m : ℕ) → (n == m) ≡ false → n ≡ m → ⊥
    other n m h e = absurd (true≢false (sym (is_same n m e) ∙ h))
      where
        is_same : (n m : ℕ) → n ≡ m → (n == m) ≡ true
        is_same n m e = grind (arith, e)

    by : (j : ℕ) (t : ScriptTxn) → slice_get (take i script) j ≡ Some t → slice_get done j ≡ Some outcome.NotRun → (b : Bool) → (t.lane == lane) ≡ b → is_some (fault_of after t.lane) ≡ true
    by j t is_t is true here = ap is_some (ap (fault_of after) (same t.lane lane here) ∙ ends.ended)
    by j t is_t is false here = ap is_some (ends.others t.lane (low j t (untaken i script j t is_t)) (λ e. other t.lane lane here e)) ∙ s.ends j t is_t is

-- ---- the list of outcomes, and those that were refused

set_next : {A : Type 0} (xs : List A) (y : A) (ys : List A) (x : A) → slice_set (xs ++ y ∷ ys) (length xs) x ≡ (xs ++ x ∷ []) ++ ys
set_next [] y ys x = refl
set_next (z ∷ xs) y ys x = ap (λ zs. z ∷ zs) (set_next xs y ys x)

pub sets_law : SetsLaw
sets_law many done next low =
    let one : many - length done ≡ suc (many - (length done + 1)) = omega (arith, low) in
    ap (λ n. slice_set (done ++ replicate n outcome.NotRun) (length done) next) one ∙ set_next done outcome.NotRun (replicate (many - (length done + 1)) outcome.NotRun) next

front : {A : Type 0} (i : ℕ) (xs ys : List A) → i ≤ length xs → take i (xs ++ ys) ≡ take i xs
front zero xs ys low = refl
front (suc i) [] ys low = absurd (omega (arith, low))
front (suc i) (x ∷ xs) ys low = ap (λ zs. x ∷ zs) (front i xs ys (omega (arith, low)))

pub refused_next : RefusedNext
refused_next script done txn next old new first at becomes low here s = record { each = λ i t word is_t is. by i t word is_t (old_at done next i (outcome.Refused word) is) }
  where
    by : (i : ℕ) (t : ScriptTxn) (word : Why) → slice_get script i ≡ Some t → (slice_get done i ≡ Some (outcome.Refused word)) ⊎ ((i ≡ length done) × (next ≡ outcome.Refused word))
        → RefusesBehind new (first ++ all_rows (commits_of (take i (done ++ next ∷ [])))) t.calls word
    by i t word is_t (inl is) =
        let w = slice_get_within done i (outcome.Refused word) is in
        subst (λ os. RefusesBehind new (first ++ all_rows (commits_of os)) t.calls word) (sym (front i done (next ∷ []) (omega (arith, w))))
        (stays_refused old new (first ++ all_rows (commits_of (take i done))) t.calls word becomes low (s.each i t word is_t is))
    by i t word is_t (inr (e, is)) =
        let same : txn ≡ t = (let x : Some txn ≡ Some t = sym at ∙ ap (slice_get script) (sym e) ∙ is_t in cc) in
        let all : take i (done ++ next ∷ []) ≡ done = ap (λ n. take n (done ++ next ∷ [])) e ∙ front (length done) done (next ∷ []) (le_refl (length done)) ∙ take_all (length done) done (le_refl (length done)) in
        subst (λ os. RefusesBehind new (first ++ all_rows (commits_of os)) t.calls word) (sym all) (subst (λ (x : ScriptTxn). RefusesBehind new (first ++ all_rows (commits_of done)) x.calls word) same (here word is))
