-- How many entries of a history are of an epoch, and what their rows take.
use Rattle.std.proofs.Common.{◌≡◌, ◌⊎◌, inl, inr, ℕ, ◌+◌, ◌<◌, ◌≤◌, ◌==◌, Bool, true, false, cond, List, [], ◌∷◌, ◌++◌, Option, Some, None, refl, sym, ap, ◌∙◌, arith}
use Rattle.std.specs.Prelude.{All, count_by, find}
use Rattle.std.specs.Option.{option_or}
use Rattle.std.proofs.lemmas.List.Folds.{find-append}
use Rattle.std.proofs.lemmas.List.Elements.{All-head, All-tail}
use Rattle.std.proofs.lemmas.List.Sums.{sum_by-append, sum_by-cons, sum_by_push}
use Rattle.fine_model.specs.Causes.{used_in}
use Rattle.fine_model.specs.History.{Commit}
use Rattle.fine_model.specs.Merge.{cost}
use Rattle.fine_places.specs.declared.model.Placed.{Placed}
use Rattle.fine_places.specs.History.{by_seat}
use Rattle.fine_hall.specs.declared.turn.Turn.{Turn}
use Rattle.fine_hall.specs.Turns.{added, commits}
use Rattle.run_laws.specs.Needs.{HadNeed}

-- where none is of an epoch, its rows take no bytes
pub used_none : (e : ℕ) (history : List Commit) → count_by (λ c. c.epoch == e) history ≡ 0 → used_in e history ≡ 0
used_none e [] none = refl
used_none e (c ∷ history) none = by (c.epoch == e) refl (used_none e history)
  where
    counted : count_by (λ (d : Commit). d.epoch == e) (c ∷ history) ≡ cond (c.epoch == e) 1 0 + count_by (λ (d : Commit). d.epoch == e) history
    counted = sum_by-cons (λ (d : Commit). cond (d.epoch == e) 1 0) c history

    summed : used_in e (c ∷ history) ≡ cond (c.epoch == e) (cost c.entry.rows) 0 + used_in e history
    summed = sum_by-cons (λ (d : Commit). cond (d.epoch == e) (cost d.entry.rows) 0) c history

    by : (b : Bool) → (c.epoch == e) ≡ b → (count_by (λ (d : Commit). d.epoch == e) history ≡ 0 → used_in e history ≡ 0) → used_in e (c ∷ history) ≡ 0
    by true is rest = let one : ◌≡◌ {A = ℕ} (cond (c.epoch == e) 1 0) 1 = ap {B = ℕ} (λ b. cond b 1 0) is in let n = counted in absurd (omega (arith, none, n, one))
    by false is rest =
        let no : ◌≡◌ {A = ℕ} (cond (c.epoch == e) 1 0) 0 = ap {B = ℕ} (λ b. cond b 1 0) is in
        let nothing : ◌≡◌ {A = ℕ} (cond (c.epoch == e) (cost c.entry.rows) 0) 0 = ap {B = ℕ} (λ b. cond b (cost c.entry.rows) 0) is in
        let n = counted in
        let s = summed in
        let left : count_by (λ (d : Commit). d.epoch == e) history ≡ 0 = omega (arith, none, n, no) in
        let zero_left = rest left in
        omega (arith, s, nothing, zero_left)

-- where the first one is not found, none is there
pub none_found : (e : ℕ) (history : List Commit) → find (λ (c : Commit). c.epoch == e) history ≡ None → count_by (λ (c : Commit). c.epoch == e) history ≡ 0
none_found e [] none = refl
none_found e (c ∷ history) none = by (c.epoch == e) refl none (none_found e history)
  where
    counted : count_by (λ (d : Commit). d.epoch == e) (c ∷ history) ≡ cond (c.epoch == e) 1 0 + count_by (λ (d : Commit). d.epoch == e) history
    counted = sum_by-cons (λ (d : Commit). cond (d.epoch == e) 1 0) c history

    by : (b : Bool) → (c.epoch == e) ≡ b → cond b (Some c) (find (λ (d : Commit). d.epoch == e) history) ≡ None
        → (find (λ (d : Commit). d.epoch == e) history ≡ None → count_by (λ (d : Commit). d.epoch == e) history ≡ 0) → count_by (λ (d : Commit). d.epoch == e) (c ∷ history) ≡ 0
    by true is found rest = absurd (let x : ◌≡◌ {A = Option Commit} (Some c) None = found in cc)
    by false is found rest =
        let no : ◌≡◌ {A = ℕ} (cond (c.epoch == e) 1 0) 0 = ap {B = ℕ} (λ b. cond b 1 0) is in
        let n = counted in
        let left = rest found in
        omega (arith, n, no, left)

-- with a commit more, an epoch has no fewer entries, and its rows take no fewer bytes
more_entries : (e : ℕ) (history : List Commit) (c : Commit) → count_by (λ (d : Commit). d.epoch == e) history ≤ count_by (λ (d : Commit). d.epoch == e) (history ++ c ∷ [])
more_entries e history c = let s = sum_by_push (λ (d : Commit). cond (d.epoch == e) 1 0) history c in omega (arith, s)

more_bytes : (e : ℕ) (history : List Commit) (c : Commit) → used_in e history ≤ used_in e (history ++ c ∷ [])
more_bytes e history c = let s = sum_by_push (λ (d : Commit). cond (d.epoch == e) (cost d.entry.rows) 0) history c in omega (arith, s)

is_same : (n m : ℕ) → n ≡ m → (n == m) ≡ true
is_same n m h = grind (arith, h)

same_is : (n m : ℕ) → (n == m) ≡ true → n ≡ m
same_is n m h = grind (arith, h)

pub used_more : (e : ℕ) (history : List Commit) (c : Commit) → c.epoch ≡ e → used_in e (history ++ c ∷ []) ≡ used_in e history + cost c.entry.rows
used_more e history c is =
    sum_by_push (λ (d : Commit). cond (d.epoch == e) (cost d.entry.rows) 0) history c ∙ ap (λ b. used_in e history + cond b (cost c.entry.rows) 0) (is_same c.epoch e is)

-- an epoch that was sealed in need was so with a commit more
pub had_more : (region_len group e : ℕ) (history : List Commit) (next c : Commit) → HadNeed region_len group history e next → HadNeed region_len group (history ++ c ∷ []) e next
had_more region_len group e history next c (inl full) = inl (let m = more_entries e history c in omega (arith, full, m))
had_more region_len group e history next c (inr long) = inr (let m = more_bytes e history c in omega (arith, long, m))

-- the first entry of an epoch is one of before, or the last one, which is the first then
pub first_of : (e : ℕ) (history : List Commit) (c next : Commit) → find (λ (d : Commit). d.epoch == e) (history ++ c ∷ []) ≡ Some next
    → (find (λ (d : Commit). d.epoch == e) history ≡ Some next) ⊎ ((find (λ (d : Commit). d.epoch == e) history ≡ None) × (c.epoch ≡ e) × (c ≡ next))
first_of e history c next is = by (find (λ (d : Commit). d.epoch == e) history) refl (sym (find-append (λ (d : Commit). d.epoch == e) history (c ∷ [])) ∙ is)
  where
    last : (b : Bool) → (c.epoch == e) ≡ b → cond b (Some c) None ≡ Some next → (c.epoch ≡ e) × (c ≡ next)
    last true at found = (same_is c.epoch e at, (let x : ◌≡◌ {A = Option Commit} (Some c) (Some next) = found in cc))
    last false at found = absurd (let x : ◌≡◌ {A = Option Commit} None (Some next) = found in cc)

    by : (o : Option Commit) → find (λ (d : Commit). d.epoch == e) history ≡ o → option_or o (find (λ (d : Commit). d.epoch == e) (c ∷ [])) ≡ Some next
        → (find (λ (d : Commit). d.epoch == e) history ≡ Some next) ⊎ ((find (λ (d : Commit). d.epoch == e) history ≡ None) × (c.epoch ≡ e) × (c ≡ next))
    by (Some d) at found = inl (at ∙ found)
    by None at found = let l = last (c.epoch == e) refl found in inr (at, l.0, l.1)

-- a seat's own turns have no more entries of an epoch than all have
pub fewer_own : (seat e : ℕ) (l : List (Placed Turn)) → count_by (λ c. c.epoch == e) (commits (by_seat seat l)) ≤ count_by (λ c. c.epoch == e) (commits l)
unfolding commits
fewer_own seat e [] = omega arith
fewer_own seat e (t ∷ l) = by (t.seat == seat) (fewer_own seat e l)
  where
    by : (b : Bool) → count_by (λ c. c.epoch == e) (commits (by_seat seat l)) ≤ count_by (λ c. c.epoch == e) (commits l) → count_by (λ c. c.epoch == e) (commits (cond b (t ∷ by_seat seat l) (by_seat seat l))) ≤ count_by (λ c. c.epoch == e) (commits (t ∷ l))
    by true rest = let a = sum_by-append (λ (c : Commit). cond (c.epoch == e) 1 0) (added t.item.entry t.item.epoch) (commits (by_seat seat l)) in let b = sum_by-append (λ (c : Commit). cond (c.epoch == e) 1 0) (added t.item.entry t.item.epoch) (commits l) in omega (arith, a, b, rest)
    by false rest = let b = sum_by-append (λ (c : Commit). cond (c.epoch == e) 1 0) (added t.item.entry t.item.epoch) (commits l) in omega (arith, b, rest)

other_not : (n m e : ℕ) → n ≤ m → m < e → (n == e) ≡ false
other_not n m e low far = grind (arith, low, far)

-- where no epoch is above a number, none is a higher one
pub none_higher : (n e : ℕ) (history : List Commit) → All (λ c. c.epoch ≤ n) history → n < e → count_by (λ c. c.epoch == e) history ≡ 0
none_higher n e [] all far = refl
none_higher n e (c ∷ history) all far =
    let rest = none_higher n e history (All-tail (λ (d : Commit). d.epoch ≤ n) c history all) far in
    sum_by-cons (λ (d : Commit). cond (d.epoch == e) 1 0) c history ∙ ((λ i. cond (other_not c.epoch n e (All-head (λ (d : Commit). d.epoch ≤ n) c history all) far i) 1 0 + rest i))
