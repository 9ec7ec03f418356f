-- What is found at a place.
use Rattle.std.proofs.Common.{◌≡◌, ℕ, ◌<◌, List, Option, Some, None, refl, sym, ap, ◌∙◌, subst, arith}
use Rattle.std.specs.declared.snapshot.Snapshot.{Snapshot}
use Rattle.fine_model.specs.declared.Entry.{Entry}
use Rattle.fine_model.specs.declared.Row.{Row}
use Rattle.fine_model.specs.declared.law.Origin.{Origin}
use Rattle.fine_model.specs.declared.law.RoomState.{RoomState}
use Rattle.fine_model.specs.declared.law.ViewState.{ViewState}
use Rattle.fine_model.specs.Buckets.{IsBucketFor}
use Rattle.fine_model.specs.History.{Commit}
use Rattle.fine_model.specs.Nodes.{Content}
use Rattle.fine_places.specs.declared.model.Placed.{Placed}
use Rattle.fine_places.specs.History as places
use Rattle.fine_places.specs.History.{touching}
use Rattle.fine_places.proofs.Lists.{some_same, whole}
use Rattle.fine_hall.specs.declared.turn.Turn.{Turn}
use Rattle.fine_hall.specs.declared.law.Beginning.{Beginning}
use Rattle.fine_hall.specs.declared.law.Load.{Load}
use Rattle.fine_hall.specs.declared.law.Load.TheVariants as load
use Rattle.fine_hall.specs.Turns.{commits, touches_bucket}
use Rattle.fine_hall.specs.Laws.{IsRoomFor, Stands, view_in}
use Rattle.fine_hall.proofs.Bucket.{for_all}

not_none : (s : ViewState) → None ≡ Some s → ⊥
not_none s e = grind arith

module _ {R B V : Type 0} (state : R → RoomState) (origin : R → Origin) (stands_for : R → List Row → ℕ → List Commit → Type 0) (bucket : B → ℕ) (cached : B → ℕ → Option (Content × ℕ)) (is_settled : B → Type 0) where
  abbrev pub Meant : Beginning → ℕ → ℕ → Load R B V → List (Placed Turn) → Type 0
  Meant = Stands state origin stands_for bucket cached is_settled

  -- what is found at a bucket's place is a bucket, and at the room's place the room
  pub not_room : (x : Beginning) (k p : ℕ) (l : Load R B V) (room : R) (entry : Option (Snapshot Entry)) (epoch : ℕ) (backs : List ℕ) (all : List (Placed Turn)) → k < places.room → l ≡ load.Room room entry epoch backs → ¬ Meant x k p l all
  not_room x k p l room entry epoch backs all near is s = let same : k ≡ places.room = (subst (λ y. Meant x k p y all) is s).0 in absurd (omega arith)

  pub not_bucket : (x : Beginning) (k p : ℕ) (l : Load R B V) (b : B) (all : List (Placed Turn)) → k ≡ places.room → l ≡ load.Bucket b → ¬ Meant x k p l all
  not_bucket x k p l b all at is s = let less : k < places.room = (subst (λ y. Meant x k p y all) is s).0 in absurd (omega arith)

  pub found_bucket : (x : Beginning) (k p : ℕ) (l : Load R B V) (b : B) (all : List (Placed Turn)) → k < places.room → l ≡ load.Bucket b → Meant x k p l (touching touches_bucket k all) → IsBucketFor bucket cached is_settled x.log k p b (commits all)
  found_bucket x k p l b all near is s = for_all bucket cached is_settled x k p b all near (subst (λ y. Meant x k p y (touching touches_bucket k all)) is s).1

  pub found_room : (x : Beginning) (k p : ℕ) (l : Load R B V) (room : R) (entry : Option (Snapshot Entry)) (epoch : ℕ) (backs : List ℕ) (all : List (Placed Turn)) → k ≡ places.room → l ≡ load.Room room entry epoch backs → Meant x k p l (touching touches_bucket k all)
      → IsRoomFor state origin stands_for x p room all
  found_room x k p l room entry epoch backs all at is s = (subst (λ y. Meant x k p y all) is (subst (Meant x k p l) (ap (λ j. touching touches_bucket j all) at ∙ whole touches_bucket all) s)).1

  pub is_bucket : (x : Beginning) (k p : ℕ) (l : Load R B V) (all : List (Placed Turn)) → k < places.room → Meant x k p l all → ((b : B) → ¬ (l ≡ load.Bucket b)) → ⊥
  is_bucket x k p (load.Room room entry epoch backs) all near s never = not_room x k p _ room entry epoch backs all near refl s
  is_bucket x k p (load.Bucket b) all near s never = never b refl
  is_bucket x k p (load.View v) all near s never = s

  pub is_room : (x : Beginning) (k p : ℕ) (l : Load R B V) (all : List (Placed Turn)) → k ≡ places.room → Meant x k p l all → ((room : R) (entry : Option (Snapshot Entry)) (epoch : ℕ) (backs : List ℕ) → ¬ (l ≡ load.Room room entry epoch backs)) → ⊥
  is_room x k p (load.Room room entry epoch backs) all at s never = never room entry epoch backs refl
  is_room x k p (load.Bucket b) all at s never = not_bucket x k p _ b all at refl s
  is_room x k p (load.View v) all at s never = s

-- ---- what a slot of views gives

module _ {R B V : Type 0} (view : V → ViewState) where
  pub is_view : (l : Load R B V) (s : ViewState) → view_in view l ≡ Some s → ((v : V) → ¬ (l ≡ load.View v)) → ⊥
  is_view (load.Room room entry epoch backs) s e never = absurd (not_none s e)
  is_view (load.Bucket b) s e never = absurd (not_none s e)
  is_view (load.View v) s e never = never v refl

  pub view_state : (l : Load R B V) (s : ViewState) (v : V) → view_in view l ≡ Some s → l ≡ load.View v → view v ≡ s
  view_state l s v e is = some_same (view v) s (sym (ap (view_in view) is) ∙ e)
