-- What lies in the slots of a new hall.
use Rattle.std.proofs.Common.{◌≡◌, ℕ, suc, ◌*◌, ◌<◌, List, [], ◌∷◌, ◌++◌, map, reverse, length, Option, Some, None, refl, sym, ap, ◌∙◌, arith, append_assoc, length-append}
use Rattle.std.proofs.lemmas.List.{reverse-append}
use Rattle.fine_places.proofs.Lists.{some_same}
use Rattle.fine_boxes.specs.Lists.{first_same, rest_same}
use Rattle.fine_hall.specs.declared.law.Load.{Load}
use Rattle.fine_hall.specs.declared.law.Load.TheVariants as load
use Rattle.fine_hall.specs.Opening.{IsRoomIn, bucket_slot, room_slot, laid_places, laid_views, laid}

is_some : {A : Type 0} → Option A → ℕ
is_some None = 0
is_some (Some a) = 1

pub no_slot : {A : Type 0} (a : A) → None ≡ Some a → ⊥
unfolding is_some
no_slot a e = let n = ap is_some e in absurd (omega arith)

pub not_empty : {A : Type 0} (x : A) (l : List A) → x ∷ l ≡ [] → ⊥
not_empty x l e = let n = ap length e in absurd (omega arith)

pub heads_same : {A : Type 0} (x y : A) (l m : List A) → x ∷ l ≡ y ∷ m → (x ≡ y) × (l ≡ m)
heads_same x y l m e = (first_same x y l m e, rest_same x y l m e)

-- the last item and those before it
pub last_same : {A : Type 0} (a b : List A) (x y : A) → a ++ x ∷ [] ≡ b ++ y ∷ [] → (a ≡ b) × (x ≡ y)
last_same [] [] x y e = (refl, (heads_same x y [] [] e).0)
last_same [] (b ∷ bs) x y e = absurd (let n = ap length e ∙ ap suc (length-append bs (y ∷ [])) in omega arith)
last_same (a ∷ aa) [] x y e = absurd (let n = ap length (sym e) ∙ ap suc (length-append aa (x ∷ [])) in omega arith)
last_same (a ∷ aa) (b ∷ bs) x y e = let h = heads_same a b (aa ++ x ∷ []) (bs ++ y ∷ []) e in let t = last_same aa bs x y h.1 in ((λ i. h.0 i ∷ t.0 i), t.1)

-- two lists in two parts of equal lengths are the same in each
pub parts_same : {A : Type 0} (a b l m : List A) → a ++ l ≡ b ++ m → length l ≡ length m → (a ≡ b) × (l ≡ m)
parts_same [] [] l m e len = (refl, e)
parts_same [] (b ∷ bs) l m e len = absurd (let n = ap length e ∙ ap suc (length-append bs m) in omega arith)
parts_same (a ∷ aa) [] l m e len = absurd (let n = ap length (sym e) ∙ ap suc (length-append aa l) in omega arith)
parts_same (a ∷ aa) (b ∷ bs) l m e len = let h = heads_same a b (aa ++ l) (bs ++ m) e in let t = parts_same aa bs l m h.1 len in ((λ i. h.0 i ∷ t.0 i), t.1)

pub last_mapped : {A C : Type 0} (f : A → C) (all : List A) (front : List C) (x : C) → map f all ≡ front ++ x ∷ [] → (left : List A) × (b : A) × (all ≡ left ++ b ∷ []) × (front ≡ map f left) × (x ≡ f b)
last_mapped f [] [] x e = absurd (not_empty x [] (sym e))
last_mapped f [] (c ∷ cs) x e = absurd (not_empty c (cs ++ x ∷ []) (sym e))
last_mapped f (a ∷ []) [] x e = ([], a, refl, refl, sym (first_same (f a) x [] [] e))
last_mapped f (a ∷ b ∷ aa) [] x e = absurd (not_empty (f b) (map f aa) (rest_same (f a) x (f b ∷ map f aa) [] e))
last_mapped f (a ∷ aa) (c ∷ cs) x e = let t = last_mapped f aa cs x (rest_same (f a) c (map f aa) (cs ++ x ∷ []) e) in (a ∷ t.0, t.1, ap (λ l. a ∷ l) t.2, (λ i. sym (first_same (f a) c (map f aa) (cs ++ x ∷ []) e) i ∷ t.3 i), t.4)

pub long_views : (R B : Type 0) {V : Type 0} (l : List V) → length (laid_views {R = R} {B = B} l) ≡ 3 * length l
long_views R B [] = refl
long_views R B (v ∷ l) = omega (arith, long_views R B l)

module _ {R B V : Type 0} where
  -- ---- what a slot holds

  load_room : R → Load R B V → R
  load_room r (load.Room room entry epoch backs) = room
  load_room r (load.Bucket b) = r
  load_room r (load.View v) = r

  load_bucket : B → Load R B V → B
  load_bucket b (load.Room room entry epoch backs) = b
  load_bucket b (load.Bucket c) = c
  load_bucket b (load.View v) = b

  load_view : V → Load R B V → V
  load_view v (load.Room room entry epoch backs) = v
  load_view v (load.Bucket b) = v
  load_view v (load.View w) = w

  pub same_room : (room room' : R) → room_slot {R = R} {B = B} {V = V} room ≡ room_slot room' → room ≡ room'
  unfolding load_room
  same_room room room' e = ap (load_room room) (some_same _ _ e)

  -- a slot has one room
  pub one_room : (room room' : R) (slot : Option (Load R B V)) → IsRoomIn room slot → IsRoomIn room' slot → room ≡ room'
  unfolding load_room
  one_room room room' slot i j = ap (load_room room) (some_same _ _ (sym i.3 ∙ j.3))

  pub same_bucket_in : (b c : B) → bucket_slot {R = R} {B = B} {V = V} b ≡ bucket_slot c → b ≡ c
  unfolding load_bucket
  same_bucket_in b c e = ap (load_bucket b) (some_same _ _ e)

  abbrev as_view : V → Load R B V
  as_view v = load.View v

  pub same_view : (v w : V) → as_view v ≡ as_view w → v ≡ w
  unfolding load_view
  same_view v w e = ap (load_view v) e

  -- ---- filling

  pub views_append : (a b : List V) → laid_views {R = R} {B = B} (a ++ b) ≡ laid_views a ++ laid_views b
  views_append [] b = refl
  views_append (v ∷ a) b = ap (λ l. None ∷ Some (load.View v) ∷ None ∷ l) (views_append a b)

  three : (slots : List (Option (Load R B V))) (v : V) → reverse (((slots ++ None ∷ []) ++ Some (load.View v) ∷ []) ++ None ∷ []) ≡ laid_views (v ∷ []) ++ reverse slots
  three slots v = reverse-append ((slots ++ None ∷ []) ++ Some (load.View v) ∷ []) (None ∷ [])
      ∙ ap (λ l. None ∷ l) (reverse-append (slots ++ None ∷ []) (Some (load.View v) ∷ []) ∙ ap (λ l. Some (load.View v) ∷ l) (reverse-append slots (None ∷ [])))

  pub fills_view : (before left : List V) (v : V) (a b c d all : List (Option (Load R B V))) → before ≡ left ++ v ∷ [] → b ≡ a ++ None ∷ [] → c ≡ b ++ Some (load.View v) ∷ [] → d ≡ c ++ None ∷ [] → laid_views before ++ reverse a ≡ all → laid_views left ++ reverse d ≡ all
  fills_view before left v a b c d all e p q r h =
      ap (λ l. laid_views left ++ reverse l) (r ∙ ap (λ l. l ++ None ∷ []) (q ∙ ap (λ l. l ++ Some (load.View v) ∷ []) p))
      ∙ (ap (λ l. laid_views left ++ l) (three a v) ∙ (sym (append_assoc (laid_views left) (laid_views (v ∷ [])) (reverse a)) ∙ (ap (λ l. l ++ reverse a) (sym (views_append left (v ∷ [])) ∙ ap laid_views (sym e)) ∙ h)))

  -- ---- emptying

  pub empties : (rest : List (Option (Load R B V))) (room : R) (left less : List B) (b : B) (buckets buckets' : List B) (all : List (Option (Load R B V))) → left ≡ less ++ b ∷ [] → buckets' ≡ buckets ++ b ∷ [] → all ≡ laid_places room (left ++ reverse buckets) → all ≡ laid_places room (less ++ reverse buckets')
  empties rest room left less b buckets buckets' all e e' h = h ∙ ap (laid_places room) (ap (λ l. l ++ reverse buckets) e ∙ (append_assoc less (b ∷ []) (reverse buckets) ∙ (ap (λ l. less ++ l) (sym (reverse-append buckets (b ∷ []))) ∙ ap (λ l. less ++ reverse l) (sym e'))))

  pub same_views : (a b : List V) → laid_views {R = R} {B = B} a ≡ laid_views b → a ≡ b
  same_views [] [] e = refl
  same_views [] (b ∷ bs) e = absurd (not_empty _ _ (sym e))
  same_views (a ∷ aa) [] e = absurd (not_empty _ _ e)
  same_views (a ∷ aa) (b ∷ bs) e = let h = heads_same _ _ _ _ (heads_same _ _ _ _ e).1 in let t = same_views aa bs (heads_same _ _ _ _ h.1).1 in λ i. same_view a b (some_same _ _ h.0) i ∷ t i

  same_all : (all all' : List B) → map (bucket_slot {R = R} {B = B} {V = V}) all ≡ map bucket_slot all' → all ≡ all'
  same_all [] [] e = refl
  same_all [] (b ∷ bs) e = absurd (not_empty _ _ (sym e))
  same_all (a ∷ aa) [] e = absurd (not_empty _ _ e)
  same_all (a ∷ aa) (b ∷ bs) e = let h = heads_same _ _ _ _ e in let t = same_all aa bs h.1 in λ i. same_bucket_in a b h.0 i ∷ t i

  -- what lies in the slots tells the room, the buckets and the middles
  pub laid_same : (room room' : R) (all all' : List B) (views views' : List V) → laid room all views ≡ laid room' all' views' → length views ≡ length views' → (room' ≡ room) × (all' ≡ all) × (views' ≡ views)
  laid_same room room' all all' views views' e len =
      let t = parts_same (laid_places room all) (laid_places room' all') (laid_views views) (laid_views views') e (long_views R B views ∙ (ap (λ n. 3 * n) len ∙ sym (long_views R B views'))) in
      let s = last_same (map bucket_slot all) (map bucket_slot all') (room_slot room) (room_slot room') t.0 in
      (sym (same_room room room' s.1), sym (same_all all all' s.0), sym (same_views views views' t.1))

  pub unfold_last : (front : List (Option (Load R B V))) (all : List V) (v : V) → front ++ laid_views (all ++ v ∷ []) ≡ (front ++ laid_views all) ++ laid_views (v ∷ [])
  unfold_last front all v = ap (λ l. front ++ l) (views_append all (v ∷ [])) ∙ sym (append_assoc front (laid_views all) (laid_views (v ∷ [])))

  pub empties_view : (front slots slots' whole : List (Option (Load R B V))) (left less : List V) (v r : V) (ms ms' : List V) → left ≡ less ++ v ∷ [] → slots ≡ front ++ laid_views left → slots ≡ slots' ++ laid_views (r ∷ []) → ms' ≡ ms ++ r ∷ []
      → whole ≡ front ++ laid_views (left ++ reverse ms) → (slots' ≡ front ++ laid_views less) × (whole ≡ front ++ laid_views (less ++ reverse ms'))
  empties_view front slots slots' whole left less v r ms ms' is there gone more all =
      let t = parts_same slots' (front ++ laid_views less) (laid_views (r ∷ [])) (laid_views (v ∷ [])) (sym gone ∙ (there ∙ (ap (λ l. front ++ laid_views l) is ∙ unfold_last front less v))) refl in
      let same : r ≡ v = same_view r v (some_same _ _ (heads_same _ _ _ _ (heads_same _ _ _ _ t.1).1).0) in
      (t.0, all ∙ ap (λ l. front ++ laid_views l) (ap (λ l. l ++ reverse ms) is ∙ (append_assoc less (v ∷ []) (reverse ms) ∙ (ap (λ w. less ++ w ∷ reverse ms) (sym same) ∙ (ap (λ l. less ++ l) (sym (reverse-append ms (r ∷ []))) ∙ ap (λ l. less ++ reverse l) (sym more))))))

pub last_of : {A : Type 0} (l : List A) → 0 < length l → (less : List A) × (a : A) × (l ≡ less ++ a ∷ [])
last_of [] some_there = absurd (omega arith)
last_of (a ∷ []) some_there = ([], a, refl)
last_of (a ∷ b ∷ l) some_there = let t = last_of (b ∷ l) (let more : 0 < suc (length l) = omega arith in more) in (a ∷ t.0, t.1, ap (λ m. a ∷ m) t.2)

pub none_of : {A : Type 0} (l : List A) → length l ≡ 0 → l ≡ []
none_of [] e = refl
none_of (a ∷ l) e = absurd (omega arith)
