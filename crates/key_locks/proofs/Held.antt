-- How the set and the pass go on together.
use Rattle.std.proofs.Common.{◌≡◌, ◌≢◌, ◌⊎◌, ℕ, ◌<◌, Bool, true, false, List, set, slice_get, slice_set, Option, Some, None, refl, sym, ap, ◌∙◌, subst, inl, inr, ⊎_elim, arith}
use lib.ListN.{get_elem?}
use Rattle.fine_places.specs.History as places
use Rattle.atomic_table.proofs.Lists.{set_else}
use Rattle.fine_places.proofs.Lists.{decide, set_at}
use Rattle.fine_boxes.specs.Lists.{get_set_here}
pub use Rattle.fine_boxes.specs.Lists.{get_set_else as get_else}
use Rattle.std.proofs.lemmas.Option.{slice_get_within}
use Rattle.fine_hall.specs.declared.law.Beginning.{Beginning}
use Rattle.fine_hall.specs.declared.pass.Pass.{Pass}
use Rattle.fine_model.specs.Nodes.{Content}
use Rattle.fine_hall.specs.Turns.{commits}
use Rattle.fine_model.specs.Buckets.{IsBucketFor}
use Rattle.fine_hall.specs.Passes.{known, seen, published, HasPlace, LacksPlace}
use Rattle.fine_hall.specs.Halls.{KeepsPlaces, KeepsViews, Takes, Gives}
use Rattle.fine_hall.proofs.Staying.{views_none}
use Rattle.key_locks.specs.Locks.{HasLock, LacksLock, AreLocksOf, AllStand, Releases, HoldLaw, HoldRoomLaw}

pub near : (k : ℕ) → k < 256 → k < places.room
unfolding places.room
near k lt = lt

pub far : (k : ℕ) → k < places.room → k < 256
unfolding places.room
far k lt = lt

pub below_room : (k : ℕ) → k < 256 → places.room ≢ k
unfolding places.room
below_room k lt e = omega arith

some_of : {A : Type 0} → A → Option A → A
some_of a None = a
some_of a (Some b) = b

is_some : {A : Type 0} → Option A → ℕ
is_some None = 0
is_some (Some a) = 1

pub not_both : {B : Type 0} (locks : List (Option B)) (k : ℕ) (b : B) → LacksLock locks k → HasLock locks k b → ⊥
unfolding some_of is_some
not_both locks k b l h = let e = ap (some_of None) (sym l ∙ h) in let n = ap is_some e in absurd (omega arith)

-- a place that is set has what was set there, and the others have what they had
pub get_same : {A : Type 0} (l : List A) (k : ℕ) (a b : A) → slice_get l k ≡ Some a → slice_get (slice_set l k b) k ≡ Some b
get_same l k a b e = get_set_here l k b (slice_get_within l k a e)

pub gone_there : {B : Type 0} (locks locks' : List (Option B)) (k : ℕ) (b : B) → locks' ≡ slice_set locks k None → HasLock locks k b → LacksLock locks' k
gone_there locks locks' k b e h = ap (λ l. slice_get l k) e ∙ get_same locks k (Some b) None h

-- ---- the views of the pass stay

module _ {V : Type 0} where
  -- a bucket was taken
  pub views_taken : (k : ℕ) (p p' : Pass V) → k < 256 → Takes k p p' → KeepsViews p p'
  views_taken k p p' low t = let turn = t.turn (near k low) in record { reads = λ i. record { notes = t.notes i; turn = turn.0 i }; front = t.front; backs = turn.1 }

-- ---- the set has what the pass holds

module _ {V B : Type 0} where
  pub lacks_place : (locks : List (Option B)) (p : Pass V) (k : ℕ) → k < 256 → AreLocksOf locks p → LacksLock locks k → LacksPlace p k
  lacks_place locks p k lt all l = ⊎_elim (λ x. x.1) (λ x. absurd (not_both locks k x.0.0 l x.0.1)) (all k lt)

  pub has_place : (locks : List (Option B)) (p : Pass V) (k : ℕ) (b : B) → k < 256 → AreLocksOf locks p → HasLock locks k b → HasPlace p k
  has_place locks p k b lt all h = ⊎_elim (λ x. absurd (not_both locks k b x.0 h)) (λ x. x.1) (all k lt)

  -- one bucket changes, in the set and at the pass
  changes : (locks locks' : List (Option B)) (p p' : Pass V) (k : ℕ) (o : Option B) (on : Bool) → locks' ≡ slice_set locks k o → (known p').held ≡ set (known p).held k on → AreLocksOf locks p
      → (k < 256 → (LacksLock locks' k × LacksPlace p' k) ⊎ (((b : B) × HasLock locks' k b) × HasPlace p' k)) → AreLocksOf locks' p'
  changes locks locks' p p' k o on e h all here j lt = ⊎_elim
      (λ (is : j ≡ k). subst (λ i. (LacksLock locks' i × LacksPlace p' i) ⊎ (((b : B) × HasLock locks' i b) × HasPlace p' i)) (sym is) (here (subst (λ i. i < 256) is lt)))
      (λ (ne : j ≢ k). let g = ap (λ l. slice_get l j) e ∙ get_else locks k j o ne in let q = ap (λ l. get_elem? l j) h ∙ set_else (known p).held k j on ne in
      ⊎_elim (λ x. inl (g ∙ x.0, q ∙ x.1)) (λ x. inr ((x.0.0, g ∙ x.0.1), q ∙ x.1)) (all j lt))
      (decide j k)

  pub one_taken : (locks locks' : List (Option B)) (p p' : Pass V) (k : ℕ) (b : B) → locks' ≡ slice_set locks k (Some b) → k < 256 → AreLocksOf locks p → LacksLock locks k → Takes k p p' → AreLocksOf locks' p'
  one_taken locks locks' p p' k b e lt all l t = changes locks locks' p p' k (Some b) true e t.held all
      (λ _. inr ((b, ap (λ l. slice_get l k) e ∙ get_same locks k None (Some b) l), ap (λ l. get_elem? l k) t.held ∙ set_at (known p).held k false true (lacks_place locks p k lt all l)))

  pub one_given : (locks locks' : List (Option B)) (p p' : Pass V) (k : ℕ) (b : B) → locks' ≡ slice_set locks k None → k < 256 → AreLocksOf locks p → HasLock locks k b → Gives k p p' → AreLocksOf locks' p'
  one_given locks locks' p p' k b e lt all l t = changes locks locks' p p' k None false e t.held all
      (λ _. inl (ap (λ l. slice_get l k) e ∙ get_same locks k (Some b) None l, ap (λ l. get_elem? l k) t.held ∙ set_at (known p).held k true false (has_place locks p k b lt all l)))

  pub held_alike : HoldLaw V B
  held_alike locks p p' all same j lt = let q = same j lt in ⊎_elim (λ x. inl (x.0, q ∙ x.1)) (λ x. inr (x.0, q ∙ x.1)) (all j lt)

  pub held_beside : HoldRoomLaw V B
  held_beside locks p p' taken all e = held_alike locks p p' all (λ k lt. ap (λ l. get_elem? l k) e ∙ set_else (known p).held places.room k taken (λ is. below_room k lt (sym is)))

  -- ---- giving back

  pub releases_one : (locks locks' : List (Option B)) (p p' : Pass V) (k : ℕ) (b : B) → k < 256 → locks' ≡ slice_set locks k None → HasLock locks k b → Gives k p p' → Releases locks locks' p p'
  releases_one locks locks' p p' k b lt e h g = record {
    fewer = λ j l. ⊎_elim (λ (is : j ≡ k). subst (LacksLock locks') (sym is) (gone_there locks locks' k b e h)) (λ (ne : j ≢ k). ap (λ m. slice_get m j) e ∙ (get_else locks k j None ne ∙ l)) (decide j k);
    room = ap (λ l. get_elem? l places.room) g.held ∙ set_else (known p).held k places.room false (below_room k lt);
    kept = record { same_turns = g.same_turns; same_own = g.same_own; same_published = g.same_published };
    found = g.found;
    views = g.views;
  }

  pub releases_none : (a : List (Option B)) (p : Pass V) → Releases a a p p
  releases_none a p = record { fewer = λ k l. l; room = refl; kept = record { same_turns = refl; same_own = refl; same_published = refl }; found = refl; views = views_none p }

-- ---- what stands

module _ {V B : Type 0} (bucket : B → ℕ) (cached : B → ℕ → Option (Content × ℕ)) (is_settled : B → Type 0) (x : Beginning) where
  -- a content stands where the pass knows the same history and number
  alike : (j : ℕ) (c : B) (p p' : Pass V) → published p' ≡ published p → seen p' ≡ seen p → IsBucketFor bucket cached is_settled x.log j (published p) c (seen p) → IsBucketFor bucket cached is_settled x.log j (published p') c (seen p')
  alike j c p p' number history s = subst (λ q. IsBucketFor bucket cached is_settled x.log j q c (seen p')) (sym number) (subst (IsBucketFor bucket cached is_settled x.log j (published p) c) (sym history) s)

  pub others_stand : (locks locks' : List (Option B)) (p p' : Pass V) (k : ℕ) (b : B) → locks' ≡ slice_set locks k None → HasLock locks k b → Gives k p p' → AllStand bucket cached is_settled x.log locks p → AllStand bucket cached is_settled x.log locks' p'
  others_stand locks locks' p p' k b e h g all j c lt has = ⊎_elim
      (λ (is : j ≡ k). absurd (not_both locks' k c (gone_there locks locks' k b e h) (subst (λ i. HasLock locks' i c) is has)))
      (λ (ne : j ≢ k). alike j c p p' g.same_published (ap commits g.same_turns) (all j c lt (sym (ap (λ l. slice_get l j) e ∙ get_else locks k j None ne) ∙ has)))
      (decide j k)

  pub stand_still : (locks : List (Option B)) (p p' : Pass V) → KeepsPlaces p p' → AllStand bucket cached is_settled x.log locks p → AllStand bucket cached is_settled x.log locks p'
  stand_still locks p p' s all j c low h = alike j c p p' s.same_published (ap commits s.same_turns) (all j c low h)
