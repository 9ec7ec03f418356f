-- What a new hall stands for, and that it meets the rule of the mailboxes.
use Rattle.std.proofs.Common.{◌≡◌, ◌⊎◌, ℕ, zero, suc, ◌+◌, ◌*◌, ◌<◌, ◌≤◌, List, [], ◌∷◌, ◌++◌, map, take, length, replicate, slice_index, slice_get, Option, Some, None, refl, sym, ap, ◌∙◌, subst, inl, inr, ⊎_elim, arith, length-append, le_refl, zero-le}
use Rattle.std.proofs.lemmas.List.{get_or-take, length-take-le}
use Rattle.atomic_table.specs.Seated.{TableId}
use Rattle.fine_places.specs.History.{most_seats}
use mathlib.Core.Option.{some, some-injective, some-ne-none}
use lib.ListN.{get_elem?, length-map}
use Rattle.atomic_table.proofs.Lists.{at_map, at_longer}
use Rattle.fine_model.specs.declared.Row.{Row}
use Rattle.fine_model.specs.declared.law.Origin.{Origin}
use Rattle.fine_model.specs.declared.law.RoomState.{RoomState}
use Rattle.fine_model.specs.declared.law.ViewState.{ViewState}
use Rattle.fine_model.specs.Buckets.{IsBucketFor}
use Rattle.fine_model.specs.History.{Commit}
use Rattle.fine_model.specs.Nodes.{Content}
use Rattle.fine_places.specs.History as places
use Rattle.fine_places.proofs.Lists.{decide, is_there}
use Rattle.fine_boxes.specs.Boxes.{slot, mailbox, published_word}
use Rattle.fine_boxes.specs.Ends.{Opens, OpensSeat}
use Rattle.fine_hall.specs.declared.law.Beginning.{Beginning}
use Rattle.fine_hall.specs.declared.law.Load.{Load}
use Rattle.fine_hall.specs.declared.law.Load.TheVariants as load
use Rattle.fine_hall.specs.Passes.{HasTable}
use Rattle.fine_hall.specs.Turns.{commits}
use Rattle.fine_hall.specs.Laws.{Stands, IsRoomFor, ShowsTurns, beginning, view_in, board_in, sealed_in, backs_in}
use Rattle.fine_hall.specs.Halls.{IsFreshHall, AreFreshBuckets, first_board}
use Rattle.fine_hall.specs.Opening.{bucket_slot, room_slot, laid_places, laid_views, laid}
use Rattle.fine_hall.proofs.Laying.{no_slot, long_views}

-- ---- lists by what stands at a place

twos : (n k : ℕ) → k < n → slice_index (replicate n 2) k ≡ 2
twos zero k lt = absurd (omega arith)
twos (suc n) zero lt = refl
twos (suc n) (suc k) lt = twos n k (omega arith)

at_behind : {A : Type 0} (a b : List A) (n q : ℕ) → length a ≡ n → get_elem? (a ++ b) (n + q) ≡ get_elem? b q
at_behind [] b n q e = ap (get_elem? b) (omega arith)
at_behind (x ∷ a) b zero q e = absurd (omega arith)
at_behind (x ∷ a) b (suc n) q e = ap (get_elem? (x ∷ (a ++ b))) (let s : suc n + q ≡ suc (n + q) = omega arith in s) ∙ at_behind a b n q (omega arith)

get_three : {A : Type 0} (l : List A) (a b c : A) (i j : ℕ) → get_elem? (a ∷ b ∷ c ∷ l) (3 * suc i + j) ≡ get_elem? l (3 * i + j)
get_three l a b c i j = ap (get_elem? (a ∷ b ∷ c ∷ l)) (let s : 3 * suc i + j ≡ suc (suc (suc (3 * i + j))) = omega arith in s)

slice_three : {A : Type 0} (l : List A) (a b c : A) (i j : ℕ) → slice_get (a ∷ b ∷ c ∷ l) (3 * suc i + j) ≡ slice_get l (3 * i + j)
slice_three l a b c i j = ap (slice_get (a ∷ b ∷ c ∷ l)) (let s : 3 * suc i + j ≡ suc (suc (suc (3 * i + j))) = omega arith in s)

pub board_at : (fs ms : List ViewState) (i : ℕ) (f m : ViewState) → get_elem? fs i ≡ some f → get_elem? ms i ≡ some m
    → (slice_get (first_board fs ms) (3 * i + 0) ≡ Some (Some f.eye)) × (slice_get (first_board fs ms) (3 * i + 1) ≡ Some (Some m.eye)) × (slice_get (first_board fs ms) (3 * i + 2) ≡ Some None)
board_at [] ms i f m e e' = absurd (some-ne-none f (sym e))
board_at (g ∷ fs) [] i f m e e' = absurd (some-ne-none m (sym e'))
board_at (g ∷ fs) (h ∷ ms) zero f m e e' = (ap (λ (v : ViewState). Some (Some v.eye)) (some-injective g f e), ap (λ (v : ViewState). Some (Some v.eye)) (some-injective h m e'), refl)
board_at (g ∷ fs) (h ∷ ms) (suc i) f m e e' = let t = board_at fs ms i f m e e' in
    (slice_three (first_board fs ms) _ _ _ i 0 ∙ t.0, slice_three (first_board fs ms) _ _ _ i 1 ∙ t.1, slice_three (first_board fs ms) _ _ _ i 2 ∙ t.2)

pub board_long : (fs ms : List ViewState) → length fs ≡ length ms → length (first_board fs ms) ≡ 3 * length fs
board_long [] ms e = refl
board_long (f ∷ fs) [] e = absurd (omega arith)
board_long (f ∷ fs) (m ∷ ms) e = let t = board_long fs ms (omega arith) in omega (arith, t)

module _ {R B V : Type 0} where
  pub views_at : (ms : List V) (i : ℕ) (m : V) → get_elem? ms i ≡ some m
      → (get_elem? (laid_views {R = R} {B = B} ms) (3 * i + 0) ≡ some None) × (get_elem? (laid_views {R = R} {B = B} ms) (3 * i + 1) ≡ some (Some (load.View m))) × (get_elem? (laid_views {R = R} {B = B} ms) (3 * i + 2) ≡ some None)
  views_at [] i m e = absurd (some-ne-none m (sym e))
  views_at (n ∷ ms) zero m e = (refl, ap (λ (v : V). some (Some (load.View v))) (some-injective n m e), refl)
  views_at (n ∷ ms) (suc i) m e = let t = views_at ms i m e in
      (get_three (laid_views ms) _ _ _ i 0 ∙ t.0, get_three (laid_views ms) _ _ _ i 1 ∙ t.1, get_three (laid_views ms) _ _ _ i 2 ∙ t.2)

  at_bucket : (room : R) (all : List B) (k : ℕ) → k < length all → (b : B) × (get_elem? all k ≡ some b) × (get_elem? (laid_places {V = V} room all) k ≡ some (bucket_slot b))
  at_bucket room [] k lt = absurd (omega arith)
  at_bucket room (b ∷ bs) zero lt = (b, refl, refl)
  at_bucket room (b ∷ bs) (suc k) lt = at_bucket room bs k (let less : k < length bs = omega arith in less)

  at_room : (room : R) (all : List B) → get_elem? (laid_places {V = V} room all) (length all) ≡ some (room_slot room)
  at_room room [] = refl
  at_room room (b ∷ bs) = at_room room bs

long_places : {R B : Type 0} (V : Type 0) (room : R) (all : List B) → length all ≡ 256 → length (laid_places {V = V} room all) ≡ 257
long_places V room all long = let n = length-append (map bucket_slot all) (room_slot {V = V} room ∷ []) ∙ ap (λ n. n + 1) (length-map all bucket_slot ∙ long) in omega (arith, n)

-- ---- what a hall is told once

pub same_beginning : {R V : Type 0} (state : R → RoomState) (origin : R → Origin) (view : V → ViewState) (n m : ℕ) (a b : R) (f g : List V) → n ≡ m → a ≡ b → f ≡ g → beginning n (origin a) (state a) view f ≡ beginning m (origin b) (state b) view g
same_beginning state origin view n m a b f g p q r = λ i. beginning (p i) (origin (q i)) (state (q i)) view (r i)

fresh_at : {R V : Type 0} (state : R → RoomState) (view : V → ViewState) (stands_for : R → List Row → ℕ → List Commit → Type 0) (x y : Beginning) (room : R) (fronts middles : List V) → x ≡ y → IsFreshHall state view stands_for y room fronts middles → IsFreshHall state view stands_for x room fronts middles
fresh_at state view stands_for x y room fronts middles is f = subst (λ (w : Beginning). IsFreshHall state view stands_for w room fronts middles) (sym is) f

words_at : (n : ℕ) (l : List ℕ) (k v : ℕ) → k < n → slice_index l k ≡ v → slice_index (take n l) k ≡ v
words_at n l k v lt e = get_or-take n l k 0 lt ∙ e

pub few_seats : (n : ℕ) → 1 ≤ n → n ≤ 18 → (0 < n) × (n ≤ most_seats)
unfolding most_seats
few_seats n low high = ((omega arith), high)

pub enough : (n : ℕ) (words : List ℕ) → length words ≡ 276 → n ≤ 18 → suc places.room ≤ length (take (258 + n) words)
unfolding places.room
enough n words long few = let e = length-take-le (258 + n) words (omega arith) in omega (arith, e)

pub all_free : (n : ℕ) (words : List ℕ) → ((k : ℕ) → k < 258 → slice_index words k ≡ 0) → (k : ℕ) → k ≤ places.room → slice_index (take (258 + n) words) k ≡ 0
unfolding places.room
all_free n words free k le = words_at (258 + n) words k 0 (omega arith) (free k (omega arith))

pub has_boxes : (n seats : ℕ) (z : TableId) (words : List ℕ) (count : ℕ) → n ≡ seats → n ≤ 18 → length words ≡ 276 → z.words ≡ length (take (258 + n) words) → z.slots ≡ count → count ≡ suc places.room + 3 * n → HasTable seats z
unfolding places.room
has_boxes n seats z words count same few long w s deep = let e = length-take-le (258 + n) words (omega arith) in (((omega (arith, same, w, e)), (omega (arith, same, s, deep))), (omega (arith, same, w, e)))

module _ {R B V : Type 0} (state : R → RoomState) (origin : R → Origin) (stands_for : R → List Row → ℕ → List Commit → Type 0) (bucket : B → ℕ) (cached : B → ℕ → Option (Content × ℕ)) (is_settled : B → Type 0) (view : V → ViewState)
    (room : R) (all : List B) (fronts middles : List V) (x : Beginning) (is : x ≡ beginning (length fronts) (origin room) (state room) view fronts) (buckets : AreFreshBuckets bucket cached is_settled all)
    (fresh : IsFreshHall state view stands_for x room fronts middles) (slots : List (Option (Load R B V))) (there : slots ≡ laid room all middles) where
  fresh_room : IsRoomFor state origin stands_for x 0 room []
  unfolding commits
  fresh_room = record {
    log = ap (λ (y : Beginning). y.log) (sym is);
    last = ap (λ (y : Beginning). y.room) (sym is);
    stands = fresh.stands;
    places = fresh.places;
    epochs = record { follow = tt; sealed = ap (λ (y : Beginning). y.room.sealed) (sym is); waiting = fresh.none_waits };
    sealed = zero-le;
  }

  fresh_bucket : (k : ℕ) (b : B) → bucket b ≡ k → is_settled b → ((n : ℕ) → cached b n ≡ None) → IsBucketFor bucket cached is_settled x.log k 0 b (commits [])
  unfolding commits
  fresh_bucket k b number settled none = record {
    number = number;
    settled = settled;
    nodes = λ n kept at. absurd (no_slot kept (sym (none n) ∙ at));
    absent = λ n _. tt;
  }

  lies : (k : ℕ) → k ≤ places.room → (thing : Load R B V) × (get_elem? slots k ≡ some (Some thing)) × Stands state origin stands_for bucket cached is_settled x k 0 thing []
  unfolding places.room
  lies k le = ⊎_elim
      (λ (near : k < 256). let at = at_bucket {V = V} room all k (let long = buckets.all in let less : k < length all = omega arith in less) in let e = buckets.empty k at.0 at.1 in
      (load.Bucket at.0, ap (λ l. get_elem? l k) there ∙ at_longer (laid_places room all) (laid_views middles) k _ at.2, ((let less : k < 256 = omega arith in less), fresh_bucket k at.0 e.0 e.1 e.2)))
      (λ (e : k ≡ 256). (load.Room room None 0 (replicate 18 2), ap (λ l. get_elem? l k) there ∙ at_longer (laid_places room all) (laid_views middles) k _ (ap (get_elem? (laid_places room all)) (e ∙ sym buckets.all) ∙ at_room room all), (e, fresh_room)))
      (split_at k le)
    where
      split_at : (k : ℕ) → k ≤ 256 → (k < 256) ⊎ (k ≡ 256)
      split_at k le = ⊎_elim (λ e. inr e) (λ ne. inl (omega arith)) (decide k 256)

  -- ---- the mailboxes

  module _ (words : List ℕ) (n : ℕ) (seats : n ≡ x.seats) (counted : length fronts ≡ n) (as_many : length middles ≡ n) (few : n ≤ 18) (wide : length words ≡ 258 + n) (zero_word : slice_index words 257 ≡ 0) (boxes : (i : ℕ) → i < n → slice_index words (258 + i) ≡ 2) where
    abbrev home : Load R B V
    home = load.Room room None 0 (replicate 18 2)

    at_slot : (i j : ℕ) → get_elem? slots (slot i j) ≡ get_elem? (laid_views {R = R} {B = B} middles) (3 * i + j)
    unfolding slot places.room
    at_slot i j = ap (λ l. get_elem? l (257 + (3 * i + j))) there ∙ at_behind (laid_places room all) (laid_views middles) 257 (3 * i + j) (long_places V room all buckets.all)

    x_fronts : x.fronts ≡ map view fronts
    x_fronts = ap (λ (y : Beginning). y.fronts) is

    sealed_is : x.room.sealed ≡ (state room).sealed
    sealed_is = ap (λ (y : Beginning). y.room.sealed) is

    opens_seat : (i : ℕ) → i < x.seats → OpensSeat (view_in view) (ShowsTurns x []) x.fronts (state room).board (state room).sealed (replicate 18 2) 0 words slots i
    unfolding mailbox places.room commits
    opens_seat i lt =
        let near : i < n = omega arith in
        let f = is_there fronts i (omega arith) in
        let m = is_there middles i (omega arith) in
        let ff = fresh.each_front i f.0 f.1 in
        let fm = fresh.each_middle i m.0 m.1 in
        let b = board_at (map view fronts) (map view middles) i (view f.0) (view m.0) (at_map view fronts i f.0 f.1) (at_map view middles i m.0 m.1) in
        let s = views_at {R = R} {B = B} middles i m.0 m.1 in record {
          word = boxes i near;
          front = view f.0;
          is_front = ap (λ l. get_elem? l i) x_fronts ∙ at_map view fronts i f.0 f.1;
          front_at = record { seat = ff.place.0; buffer = ff.place.1 };
          front_tells = ff.shows;
          front_upto = (zero-le, subst (λ k. (view f.0).upto ≤ k) (ff.upto ∙ sealed_is) (le_refl (view f.0).upto));
          thing = load.View m.0;
          there = at_slot i 1 ∙ s.1;
          middle = view m.0;
          is_middle = refl;
          middle_at = record { seat = fm.place.0; buffer = fm.place.1 };
          middle_tells = fm.shows;
          middle_upto = subst (λ k. (view m.0).upto ≤ k) (fm.upto ∙ sealed_is) (le_refl (view m.0).upto);
          clean = fm.clean;
          empty = (at_slot i 0 ∙ s.0, at_slot i 2 ∙ s.2);
          back = twos 18 i (omega arith);
          names_front = ap (λ l. slice_get l (3 * i + 0)) fresh.board ∙ b.0;
          names_middle = ap (λ l. slice_get l (3 * i + 1)) fresh.board ∙ b.1;
          names_back = ap (λ l. slice_get l (3 * i + 2)) fresh.board ∙ b.2;
        }

    opens_hall : Opens (λ (y : Beginning). y.seats) (λ (y : Beginning). y.fronts) (view_in view) (board_in state) (sealed_in state) backs_in ShowsTurns x 0 words slots
    unfolding published_word places.room
    opens_hall = record {
      wide = wide ∙ ap (λ k. 258 + k) seats;
      deep = ap length there ∙ (length-append (laid_places room all) (laid_views middles) ∙ (λ i. long_places V room all buckets.all i + (long_views R B middles ∙ ap (λ k. 3 * k) (as_many ∙ seats)) i));
      number = zero_word;
      count = ap length x_fronts ∙ (length-map fronts view ∙ (counted ∙ seats));
      home = home;
      at_room = ap (λ l. get_elem? l 256) there ∙ at_longer (laid_places room all) (laid_views middles) 256 _ (ap (get_elem? (laid_places room all)) (sym buckets.all) ∙ at_room room all);
      long = ((let k = few in let s = seats in omega arith), ap length fresh.board ∙ (board_long (map view fronts) (map view middles) (length-map fronts view ∙ (counted ∙ (sym as_many ∙ sym (length-map middles view)))) ∙ ap (λ k. 3 * k) (length-map fronts view ∙ (counted ∙ seats))));
      below = zero-le;
      each = opens_seat;
    }

-- ---- the table of a new hall

module _ {R B V : Type 0} (state : R → RoomState) (origin : R → Origin) (stands_for : R → List Row → ℕ → List Commit → Type 0) (bucket : B → ℕ) (cached : B → ℕ → Option (Content × ℕ)) (is_settled : B → Type 0) (view : V → ViewState)
    (room : R) (all : List B) (fronts middles : List V) (seats : (1 ≤ length fronts) × (length fronts ≤ 18) × (length middles ≡ length fronts)) (buckets : AreFreshBuckets bucket cached is_settled all)
    (fresh : IsFreshHall state view stands_for (beginning (length fronts) (origin room) (state room) view fronts) room fronts middles) (slots : List (Option (Load R B V))) (there : slots ≡ laid room all middles)
    (count : ℕ) (key : R) (keys : List V) (n : count ≡ length fronts) (same : key ≡ room) (listed : keys ≡ fronts) where
  abbrev start : Beginning
  start = beginning count (origin key) (state key) view keys

  start_is : start ≡ beginning (length fronts) (origin room) (state room) view fronts
  start_is = same_beginning state origin view count (length fronts) key room keys fronts n same listed

  fresh_start : IsFreshHall state view stands_for start room fronts middles
  fresh_start = fresh_at state view stands_for start _ room fronts middles start_is fresh

  pub start_lies : (k : ℕ) → k ≤ places.room → (thing : Load R B V) × (get_elem? slots k ≡ some (Some thing)) × Stands state origin stands_for bucket cached is_settled start k 0 thing []
  start_lies = lies state origin stands_for bucket cached is_settled view room all fronts middles start start_is buckets fresh_start slots there

  pub start_opens : (words : List ℕ) → length words ≡ 276 → ((k : ℕ) → k < 258 → slice_index words k ≡ 0) → ((i : ℕ) → i < 18 → slice_index words (258 + i) ≡ 2)
      → Opens (λ (y : Beginning). y.seats) (λ (y : Beginning). y.fronts) (view_in view) (board_in state) (sealed_in state) backs_in ShowsTurns start 0 (take (258 + count) words) slots
  start_opens words long free boxes =
      let few : count ≤ 18 = subst (λ m. m ≤ 18) (sym n) seats.1 in
      opens_hall state origin stands_for bucket cached is_settled view room all fronts middles start start_is buckets fresh_start slots there (take (258 + count) words) count refl (sym n) (seats.2 ∙ sym n) few
      (length-take-le (258 + count) words (omega (arith, few, long)))
      (words_at (258 + count) words 257 0 (omega arith) (free 257 (omega arith)))
      (λ i lt. words_at (258 + count) words (258 + i) 2 (omega (arith, lt)) (boxes i (omega (arith, lt, few))))
