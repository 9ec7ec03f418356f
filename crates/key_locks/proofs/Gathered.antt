-- How buckets are gathered, and that what is held stands for the longer history.
use Rattle.std.proofs.Common.{inl, inr, ◌≡◌, ◌≢◌, ℕ, ◌+◌, ◌<◌, ◌≤◌, Bool, true, false, List, ◌++◌, slice_get, slice_set, Option, Some, None, refl, sym, ap, ◌∙◌, subst, ⊎_elim, arith, append-nil}
use mathlib.Core.Option.{some}
use lib.ListN.{get_elem?}
use Rattle.fine_places.specs.History as places
use Rattle.atomic_table.proofs.Lists.{set_else}
use Rattle.fine_places.proofs.Lists.{decide}
use Rattle.fine_hall.specs.declared.law.Beginning.{Beginning}
use Rattle.fine_hall.specs.declared.pass.Pass.{Pass}
use Rattle.fine_model.specs.Nodes.{Content}
use Rattle.fine_model.specs.Buckets.{IsBucketFor}
use Rattle.fine_hall.specs.Passes.{known, seen, published, found_held, HasPlace}
use Rattle.fine_hall.specs.Halls.{Takes, FindsHeld}
use Rattle.fine_hall.proofs.Holding.{held_stands}
use Rattle.fine_hall.proofs.Seeing.{sees_itself, sees_on}
use Rattle.key_locks.specs.Locks.{HasLock, LacksLock, AreLocksOf, AllStand, Gathers, HasAllBelow, StayFrom, StopsAt, StandLaw}
use Rattle.key_locks.proofs.Held.{near, far, not_both, has_place, get_same, get_else, below_room, views_taken}
use Rattle.fine_hall.proofs.Staying.{views_none, views_more}

not_held : (held : List Bool) (k : ℕ) → get_elem? held k ≡ some false → get_elem? held k ≡ some true → ⊥
not_held held k off on = let e : some false ≡ some true = sym off ∙ on in cc

module _ {V B : Type 0} (bucket : B → ℕ) (cached : B → ℕ → Option (Content × ℕ)) (is_settled : B → Type 0) where
  -- ---- what is held stands for more

  pub stand_on : StandLaw V bucket cached is_settled
  stand_on x locks p p' are all sees j c low h = held_stands bucket cached is_settled x p p' j c (near j low) (has_place locks p j c low are h) sees (all j c low h)

  module _ (x : Beginning) where
    -- the content of a bucket that was just taken
    taken_there : (locks locks' : List (Option B)) (p' : Pass V) (j k : ℕ) (b c : B) → LacksLock locks k → locks' ≡ slice_set locks k (Some b) → j ≡ k → HasLock locks' j c → IsBucketFor bucket cached is_settled x.log k (published p') b (seen p')
        → IsBucketFor bucket cached is_settled x.log j (published p') c (seen p')
    taken_there locks locks' p' j k b c lacks is same h here =
        let there : HasLock locks' k b = ap (λ l. slice_get l k) is ∙ get_same locks k None (Some b) lacks in
        let both : Some (Some c) ≡ Some (Some b) = sym (subst (λ i. HasLock locks' i c) same h) ∙ there in
        let eq : c ≡ b = cc in
        subst (λ i. IsBucketFor bucket cached is_settled x.log i (published p') c (seen p')) (sym same) (subst (λ d. IsBucketFor bucket cached is_settled x.log k (published p') d (seen p')) (sym eq) here)

    pub stand_taken : (locks locks' : List (Option B)) (p p' : Pass V) (k : ℕ) (b : B) → LacksLock locks k → AreLocksOf locks p → locks' ≡ slice_set locks k (Some b) → Takes k p p' → IsBucketFor bucket cached is_settled x.log k (published p') b (seen p')
        → AllStand bucket cached is_settled x.log locks p → AllStand bucket cached is_settled x.log locks' p'
    stand_taken locks locks' p p' k b lacks are is t stands all j c low h = ⊎_elim
        (λ (same : j ≡ k). taken_there locks locks' p' j k b c lacks is same h stands)
        (λ (other : j ≢ k). stand_on x locks p p' are all t.sees j c low (sym (ap (λ l. slice_get l j) is ∙ get_else locks k j (Some b) other) ∙ h))
        (decide j k)

    -- ---- gathering

    pub gathers_none : (locks : List (Option B)) (p : Pass V) → Gathers bucket cached is_settled x.log locks locks p p
    gathers_none locks p = record { kept = λ k b h. h; stands = λ k b low h. inl h; sees = sees_itself p; room = refl; found = refl; views = views_none p }

    pub gathers_one : (locks locks' : List (Option B)) (p p' : Pass V) (k : ℕ) (b : B) → k < 256 → LacksLock locks k → locks' ≡ slice_set locks k (Some b) → Takes k p p' → IsBucketFor bucket cached is_settled x.log k (published p') b (seen p')
        → Gathers bucket cached is_settled x.log locks locks' p p'
    gathers_one locks locks' p p' k b low lacks is t here = record {
      kept = λ j c h. ⊎_elim (λ (same : j ≡ k). absurd (not_both locks k c lacks (subst (λ i. HasLock locks i c) same h))) (λ (other : j ≢ k). ap (λ l. slice_get l j) is ∙ (get_else locks k j (Some b) other ∙ h)) (decide j k);
      stands = λ j c near h. ⊎_elim
          (λ (same : j ≡ k). inr (taken_there locks locks' p' j k b c lacks is same h here))
          (λ (other : j ≢ k). inl (sym (ap (λ l. slice_get l j) is ∙ get_else locks k j (Some b) other) ∙ h))
          (decide j k);
      sees = t.sees;
      room = ap (λ l. get_elem? l places.room) t.held ∙ set_else (known p).held k places.room true (below_room k low);
      found = t.tried.1 ∙ (ap (λ l. found_held p ++ l) (t.tried.2 (near k low)) ∙ append-nil (found_held p));
      views = views_taken k p p' low t;
    }

    -- the pass still holds what it held
    still_holds : (locks locks' : List (Option B)) (p p' : Pass V) → Gathers bucket cached is_settled x.log locks locks' p p' → AreLocksOf locks p → AreLocksOf locks' p' → (k : ℕ) → k < 256 → HasPlace p k → HasPlace p' k
    still_holds locks locks' p p' g are are' k low holds = ⊎_elim
        (λ a. absurd (not_held (known p).held k a.1 holds))
        (λ a. has_place locks' p' k a.0.0 low are' (g.kept k a.0.0 a.0.1))
        (are k low)

    all_held : (locks locks' : List (Option B)) (p p' : Pass V) → Gathers bucket cached is_settled x.log locks locks' p p' → AreLocksOf locks p → AreLocksOf locks' p' → (k : ℕ) → k ≤ places.room → HasPlace p k → HasPlace p' k
    all_held locks locks' p p' g are are' k low holds = ⊎_elim
        (λ (same : k ≡ places.room). subst (HasPlace p') (sym same) (g.room ∙ subst (HasPlace p) same holds))
        (λ (other : k ≢ places.room). still_holds locks locks' p p' g are are' k (far k (grind (arith, low, other))) holds)
        (decide k places.room)

    pub gathers_more : (a b c : List (Option B)) (p q r : Pass V) → AreLocksOf a p → AreLocksOf b q → q.number ≡ p.number → Gathers bucket cached is_settled x.log a b p q → Gathers bucket cached is_settled x.log b c q r → Gathers bucket cached is_settled x.log a c p r
    gathers_more a b c p q r first mid number s t = record {
      kept = λ k d h. t.kept k d (s.kept k d h);
      stands = λ k d low h. ⊎_elim
          (λ there. ⊎_elim
          (λ before. inl before)
          (λ here. inr (held_stands bucket cached is_settled x q r k d (near k low) (has_place b q k d low mid there) t.sees here))
          (s.stands k d low there))
          (λ here. inr here)
          (t.stands k d low h);
      sees = sees_on p q r number (all_held a b p q s first mid) s.sees t.sees;
      room = t.room ∙ s.room;
      found = t.found ∙ s.found;
      views = views_more p q r s.views t.views;
    }

-- ---- all of them

module _ {V B : Type 0} (number : B → ℕ) (cached : B → ℕ → Option (Content × ℕ)) (is_settled : B → Type 0) (x : Beginning) where
  -- as far as they were taken
  pub record SoFar (upto : ℕ) (locks locks' : List (Option B)) (p p' : Pass V) : Type 0 where
    pub all : HasAllBelow upto locks'
    pub stay : StayFrom upto locks locks'
    pub gathers : Gathers number cached is_settled x.log locks locks' p p'

  pub one_more : (i : ℕ) (locks mid locks' : List (Option B)) (p q p' : Pass V) → AreLocksOf locks p → AreLocksOf mid q → q.number ≡ p.number → SoFar i locks mid p q → Gathers number cached is_settled x.log mid locks' q p' → ((b : B) × HasLock locks' i b)
      → ((k : ℕ) → k ≢ i → slice_get locks' k ≡ slice_get mid k) → SoFar (i + 1) locks locks' p p'
  one_more i locks mid locks' p q p' first now same_number s g there others = record {
    all = λ k low. ⊎_elim (λ (same : k ≡ i). (there.0, subst (λ j. HasLock locks' j there.0) (sym same) there.1)) (λ (other : k ≢ i). let h = s.all k (below k other low) in (h.0, others k other ∙ h.1)) (decide k i);
    stay = λ k h. others k (above k h) ∙ s.stay k (omega (arith, h));
    gathers = gathers_more number cached is_settled x locks mid locks' p q p' first now same_number s.gathers g;
  }
    where
      below : (k : ℕ) → k ≢ i → k < i + 1 → k < i
      below k other low = grind (arith, other, low)

      above : (k : ℕ) → i + 1 ≤ k → k ≢ i
      above k h same = omega (arith, h, same)

  pub stops : (i bucket owner : ℕ) (locks mid locks' : List (Option B)) (p q p' : Pass V) → i < 256 → q.number ≡ p.number → SoFar i locks mid p q → locks' ≡ mid → bucket ≡ i → LacksLock mid i → FindsHeld x i owner q p' → StopsAt number cached is_settled x bucket owner locks locks' p p'
  stops i bucket owner locks mid locks' p q p' low same_number s same is lacks finds = subst (λ b. StopsAt number cached is_settled x b owner locks locks' p p') (sym is) (subst (λ l. StopsAt number cached is_settled x i owner locks l p p') (sym same) (record {
    within = low;
    below = s.all;
    stay = s.stay;
    lacks = sym (s.stay i (omega arith)) ∙ lacks;
    between = q;
    same_number = same_number;
    gathers = s.gathers;
    finds = finds;
  }))
