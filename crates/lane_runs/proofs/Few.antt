-- How many own commits an epoch has, as a pass goes on.
use Rattle.std.proofs.Common.{◌≡◌, ◌⊎◌, inl, inr, ℕ, ◌+◌, ◌-◌, ◌<◌, ◌≤◌, ◌==◌, cond, List, [], ◌∷◌, ◌++◌, map, Option, Some, None, refl, sym, ap, subst, ◌∙◌, ⊎_elim, arith, append-nil}
use Rattle.std.specs.Prelude.{All, count_by}
use Rattle.std.proofs.lemmas.List.Elements.{All-head, All-tail, All-weaker}
use Rattle.std.proofs.lemmas.List.Sums.{sum_by-cons}
use Rattle.fine_model.specs.declared.Outcome.{Outcome}
use Rattle.fine_model.specs.declared.Outcome.TheVariants as outcome
use Rattle.fine_model.specs.declared.law.RoomState.{RoomState}
use Rattle.fine_model.specs.History.{Commit}
use Rattle.fine_model.specs.Outcomes.{AtMostEach}
use Rattle.fine_hall.specs.declared.law.Beginning.{Beginning}
use Rattle.fine_hall.specs.Passes.{mine, last_room}
use Rattle.hall_rooms.specs.Rooms.{RoomPass}
use Rattle.lane_laws.specs.Lanes.{AreFewIn, GoesOn, LaneValue}
use Rattle.lane_laws.specs.Works.{placed_of}
use Rattle.lane_runs.proofs.Going.{Goes, mine_below, mine_then, more_above, sealed_least}

abbrev of_epoch : ℕ → List Commit → ℕ
of_epoch e history = count_by (λ c. c.epoch == e) history

one_if : (a e : ℕ) → a ≡ e → ◌≡◌ {A = ℕ} (cond (a == e) 1 0) 1
one_if a e h = grind (arith, h)

none_if : (a e : ℕ) → (a ≡ e → ⊥) → ◌≡◌ {A = ℕ} (cond (a == e) 1 0) 0
none_if a e h = grind (arith, h)

count_cons : (e : ℕ) (c : Commit) (history : List Commit) → of_epoch e (c ∷ history) ≡ cond (c.epoch == e) 1 0 + of_epoch e history
count_cons e c history = sum_by-cons (λ (c : Commit). cond (c.epoch == e) 1 0) c history

count_append : (e : ℕ) (a b : List Commit) → of_epoch e (a ++ b) ≡ of_epoch e a + of_epoch e b
count_append e [] b = omega arith
count_append e (c ∷ a) b = let t = count_append e a b in let l = count_cons e c a in let m = count_cons e c (a ++ b) in omega (arith, t, l, m)

-- none is of an epoch above all of them
pub none_above : (e : ℕ) (history : List Commit) → All (λ c. c.epoch < e) history → of_epoch e history ≡ 0
none_above e [] all = refl
none_above e (c ∷ history) all =
    let h = All-head (λ (c : Commit). c.epoch < e) c history all in
    let t = none_above e history (All-tail (λ (c : Commit). c.epoch < e) c history all) in
    let not : c.epoch ≡ e → ⊥ = λ same. omega (arith, h, same) in
    let n = none_if c.epoch e not in
    let l = count_cons e c history in
    omega (arith, t, n, l)

-- those of the open epoch are fewer than a group also once more is sealed
pub open_stays : (group sealed sealed' : ℕ) (history : List Commit) → 1 ≤ group → sealed ≤ sealed' → All (λ c. c.epoch ≤ sealed + 1) history → of_epoch (sealed + 1) history < group → of_epoch (sealed' + 1) history < group
open_stays group sealed sealed' history some up below few = ⊎_elim
    (λ same. subst (λ n. of_epoch (n + 1) history < group) same few)
    (λ higher. let none = none_above (sealed' + 1) history (All-weaker (λ c. c.epoch ≤ sealed + 1) (λ c. c.epoch < sealed' + 1) (λ c h. omega (arith, h, higher)) history below) in omega (arith, none, some))
    (which sealed sealed' up)
  where
    which : (a b : ℕ) → a ≤ b → (a ≡ b) ⊎ (a < b)
    which a b le = grind (arith, le)

-- one more of the open epoch or a later one
pub most_more : (group sealed e : ℕ) (history : List Commit) (c : Commit) → 1 ≤ group → All (λ d. d.epoch ≤ sealed + 1) history → of_epoch (sealed + 1) history < group → sealed < c.epoch → of_epoch e history ≤ group → of_epoch e (history ++ c ∷ []) ≤ group
most_more group sealed e history c some below few above most = by (which c.epoch e)
  where
    which : (a b : ℕ) → (a ≡ b) ⊎ (a ≡ b → ⊥)
    which a b = grind arith

    by : (c.epoch ≡ e) ⊎ (c.epoch ≡ e → ⊥) → of_epoch e (history ++ c ∷ []) ≤ group
    by (inl same) =
        let a = count_append e history (c ∷ []) in
        let l = count_cons e c [] in
        let n = one_if c.epoch e same in
        let up : sealed + 1 ≤ c.epoch = omega (arith, above) in
        let f = open_stays group sealed (c.epoch - 1) history some (omega (arith, above)) below few in
        let is : (c.epoch - 1) + 1 ≡ e = omega (arith, above, same) in
        let g = subst (λ n. of_epoch n history < group) is f in
        omega (arith, a, l, n, g)
    by (inr other) =
        let a = count_append e history (c ∷ []) in
        let l = count_cons e c [] in
        let n = none_if c.epoch e other in
        omega (arith, a, l, n, most)

most_one : (group sealed e : ℕ) (history : List Commit) (o : Outcome) → 1 ≤ group → All (λ d. d.epoch ≤ sealed + 1) history → of_epoch (sealed + 1) history < group → All (λ d. sealed < d.epoch) (map (λ (e : ℕ × Commit). e.1) (placed_of (o ∷ [])))
    → of_epoch e history ≤ group → of_epoch e (history ++ map (λ (e : ℕ × Commit). e.1) (placed_of (o ∷ []))) ≤ group
most_one group sealed e history (outcome.Committed place epoch entry) some below few above most =
    most_more group sealed e history (record { entry = entry; epoch = epoch }) some below few (All-head (λ (d : Commit). sealed < d.epoch) (record { entry = entry; epoch = epoch }) [] above) most
most_one group sealed e history outcome.Aborted some below few above most = subst (λ (l : List Commit). of_epoch e l ≤ group) (sym (append-nil history)) most
most_one group sealed e history (outcome.Refused word) some below few above most = subst (λ (l : List Commit). of_epoch e l ≤ group) (sym (append-nil history)) most
most_one group sealed e history outcome.NotRun some below few above most = subst (λ (l : List Commit). of_epoch e l ≤ group) (sym (append-nil history)) most

module _ (x : Beginning) (group : ℕ) (some : 1 ≤ group) (p p' : RoomPass) (os : List Outcome) (g : Goes x p p' os) where
  -- the own commits so far, and the epoch that is open now
  pub open_then : mine p' ≡ mine p → of_epoch ((last_room x p).sealed + 1) (mine p) < group → of_epoch ((last_room x p').sealed + 1) (mine p') < group
  open_then same few =
      subst (λ (l : List Commit). of_epoch ((last_room x p').sealed + 1) l < group) (sym same)
      (open_stays group (last_room x p).sealed (last_room x p').sealed (mine p) some (sealed_least x p p' os g) (mine_below x p p' os g) few)

-- nothing is committed
pub few_stays : (x : Beginning) (group : ℕ) (p p' : RoomPass) (w w' : LaneValue) → 1 ≤ group → Goes x p p' [] → (GoesOn w' → GoesOn w) → AreFewIn group x p w → AreFewIn group x p' w'
few_stays x group p p' w w' some g on few =
    let same = mine_then x p p' [] g ∙ append-nil (mine p) in
    record {
      most = subst (AtMostEach group) (sym same) few.most;
      open_epoch = λ goes. open_then x group some p p' [] g same (few.open_epoch (on goes));
    }

-- one outcome more
pub most_takes : (x : Beginning) (group : ℕ) (p p' : RoomPass) (w : LaneValue) (o : Outcome) → 1 ≤ group → Goes x p p' (o ∷ []) → GoesOn w → AreFewIn group x p w → AtMostEach group (mine p')
most_takes x group p p' w o some g on few e =
    subst (λ (l : List Commit). of_epoch e l ≤ group) (sym (mine_then x p p' (o ∷ []) g))
    (most_one group (last_room x p).sealed e (mine p) o some (mine_below x p p' (o ∷ []) g) (few.open_epoch on) (more_above x p p' (o ∷ []) g) (few.most e))
