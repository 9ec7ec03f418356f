-- A room to which a view comes back.
use Rattle.std.proofs.Common.{◌≡◌, ℕ, zero, suc, ◌+◌, ◌<◌, ◌≤◌, ◌==◌, Bool, true, false, cond, not, nat_eq, get_or, List, [], ◌∷◌, ◌++◌, length, map, Some, None, refl, sym, ap, subst, ◌∙◌, inl, arith, append_assoc, true≢false}
use Rattle.std.specs.Prelude.{Option, Any, Contains, IsPermutation, IsTrue, filter, option_map, slice_get, slice_set, sum_by}
use Rattle.std.specs.List.{AllByRecursion, swap}
use Rattle.std.proofs.lemmas.List.{length-set, map-append}
use Rattle.std.proofs.lemmas.List.Elements.{filter-append}
use Rattle.std.proofs.lemmas.List.Sums.{sum_by-cons}
use Rattle.std.proofs.lemmas.List.Sorted.{Contains-permutation, IsPermutation-append_comm, IsPermutation-append_left, IsPermutation-append_right, IsPermutation-keeps, IsPermutation-refl, IsPermutation-sym, IsPermutation-trans, sum_by-IsPermutation}
use Rattle.fine_model.specs.declared.law.OpenedEye.{OpenedEye}
use Rattle.fine_model.specs.Boards.{Buffer, buffer_at, posted, named, held_of}
use Rattle.fine_model.specs.Trees.{is_distinct}
use Rattle.fine_model.specs.Views.{SameSeen}
use Rattle.fine_model.proofs.Ordered.Sets.{all_filter}
use Rattle.fine_model.proofs.Ordered.Times.{times, times-append, times_distinct, distinct_times}
use Rattle.partition_hold.specs.Views.{ViewValue, opened}
use Rattle.log_disk.specs.Disk.{Closes, Disk, OpenEye, Told, IsSound}
use Rattle.log_disk.proofs.Sound.{sound_closes}
use Rattle.epoch_room.specs.Meaning.{Keeps}
use Rattle.epoch_room.specs.Value.{Kept, value_of}
use Rattle.epoch_room.specs.Whole.{AreOnBoard, IsWhole, NamesWhole}
use Rattle.epoch_room.proofs.Views.Seating.{SameBytes, boarded, boarded_keeps, boarded_whole, bytes_stay}

-- ---- what a filter leaves of two lists of the same elements

module _ {X : Type 0} (p : X → Bool) where
  filter-cons : (x : X) (xs : List X) → filter p (x ∷ xs) ≡ filter p (x ∷ []) ++ filter p xs
  filter-cons x xs = by (p x)
    where
      by : (b : Bool) → cond b (x ∷ filter p xs) (filter p xs) ≡ cond b (x ∷ []) [] ++ filter p xs
      by true = refl
      by false = refl

  flipped : (a b c : List X) → IsPermutation (a ++ (b ++ c)) (b ++ (a ++ c))
  flipped a b c =
      subst (λ l. IsPermutation l (b ++ (a ++ c))) (append_assoc a b c)
      (subst (IsPermutation ((a ++ b) ++ c)) (append_assoc b a c) (IsPermutation-append_left c (a ++ b) (b ++ a) (IsPermutation-append_comm a b)))

  -- another element stands at a place
  put_there : (xs : List X) (j : ℕ) (z d : X) → j < length xs → IsPermutation (filter p (get_or xs j d ∷ []) ++ filter p (slice_set xs j z)) (filter p (z ∷ []) ++ filter p xs)
  put_there [] j z d here = absurd (omega (arith, here))
  put_there (x ∷ xs) zero z d here =
      subst (λ l. IsPermutation (filter p (x ∷ []) ++ l) (filter p (z ∷ []) ++ filter p (x ∷ xs))) (sym (filter-cons z xs))
      (subst (λ l. IsPermutation (filter p (x ∷ []) ++ (filter p (z ∷ []) ++ filter p xs)) (filter p (z ∷ []) ++ l)) (sym (filter-cons x xs)) (flipped (filter p (x ∷ [])) (filter p (z ∷ [])) (filter p xs)))
  put_there (x ∷ xs) (suc j) z d here =
      let y = filter p (get_or xs j d ∷ []) in
      let w = filter p (x ∷ []) in
      let put = filter p (slice_set xs j z) in
      let all = filter p xs in
      subst (λ l. IsPermutation (y ++ l) (filter p (z ∷ []) ++ filter p (x ∷ xs))) (sym (filter-cons x (slice_set xs j z)))
      (subst (λ l. IsPermutation (y ++ (w ++ put)) (filter p (z ∷ []) ++ l)) (sym (filter-cons x xs))
      (IsPermutation-trans (y ++ (w ++ put)) (w ++ (y ++ put)) (filter p (z ∷ []) ++ (w ++ all)) (flipped y w put)
      (IsPermutation-trans (w ++ (y ++ put)) (w ++ (filter p (z ∷ []) ++ all)) (filter p (z ∷ []) ++ (w ++ all))
      (IsPermutation-append_right w (y ++ put) (filter p (z ∷ []) ++ all) (put_there xs j z d (omega (arith, here)))) (flipped w (filter p (z ∷ [])) all))))

  -- the first element and another change places
  first_switched : (x : X) (xs : List X) (j : ℕ) (d : X) → j < length xs → IsPermutation (filter p (x ∷ xs)) (filter p (get_or xs j d ∷ slice_set xs j x))
  first_switched x xs j d here =
      subst (λ l. IsPermutation l (filter p (get_or xs j d ∷ slice_set xs j x))) (sym (filter-cons x xs))
      (subst (IsPermutation (filter p (x ∷ []) ++ filter p xs)) (sym (filter-cons (get_or xs j d) (slice_set xs j x)))
      (IsPermutation-sym (filter p (get_or xs j d ∷ []) ++ filter p (slice_set xs j x)) (filter p (x ∷ []) ++ filter p xs) (put_there xs j x d here)))

  switched : (xs : List X) (i j : ℕ) (d : X) → i < length xs → j < length xs → IsPermutation (filter p xs) (filter p (slice_set (slice_set xs i (get_or xs j d)) j (get_or xs i d)))
  switched [] i j d low high = absurd (omega (arith, low))
  switched (x ∷ xs) zero zero d low high = IsPermutation-refl (filter p (x ∷ xs))
  switched (x ∷ xs) zero (suc j) d low high = first_switched x xs j d (omega (arith, high))
  switched (x ∷ xs) (suc i) zero d low high = first_switched x xs i d (omega (arith, low))
  switched (x ∷ xs) (suc i) (suc j) d low high =
      let new = slice_set (slice_set xs i (get_or xs j d)) j (get_or xs i d) in
      subst (λ l. IsPermutation l (filter p (x ∷ new))) (sym (filter-cons x xs))
      (subst (IsPermutation (filter p (x ∷ []) ++ filter p xs)) (sym (filter-cons x new))
      (IsPermutation-append_right (filter p (x ∷ [])) (filter p xs) (filter p new) (switched xs i j d (omega (arith, low)) (omega (arith, high)))))

  swapped : (xs : List X) (i j : ℕ) → i < length xs → j < length xs → IsPermutation (filter p xs) (filter p (swap xs i j))
  swapped [] i j low high = absurd (omega (arith, low))
  swapped (x ∷ xs) i j low high = switched (x ∷ xs) i j x low high

  pub filter_permuted : (xs ys : List X) → IsPermutation xs ys → IsPermutation (filter p xs) (filter p ys)
  filter_permuted xs ys permuted =
      IsPermutation-keeps xs (λ l. IsPermutation (filter p xs) (filter p l)) (IsPermutation-refl (filter p xs))
      (λ l i j low high so_far. IsPermutation-trans (filter p xs) (filter p l) (filter p (swap l i j)) so_far (swapped l i j low high)) ys permuted

pub mapped_filter : {A B : Type 0} (f : A → B) (q : A → Bool) (p : B → Bool) → ((a : A) → q a ≡ p (f a)) → (xs : List A) → map f (filter q xs) ≡ filter p (map f xs)
mapped_filter f q p same [] = refl
mapped_filter f q p same (x ∷ xs) = by (q x) (p (f x)) (same x) (mapped_filter f q p same xs)
  where
    by : (b c : Bool) → b ≡ c → map f (filter q xs) ≡ filter p (map f xs) → map f (cond b (x ∷ filter q xs) (filter q xs)) ≡ cond c (f x ∷ filter p (map f xs)) (filter p (map f xs))
    by true true e rest = ap (λ l. f x ∷ l) rest
    by false false e rest = rest
    by true false e rest = absurd (true≢false e)
    by false true e rest = absurd (true≢false (sym e))

-- ---- numbers

abbrev Held : Type 0
Held = ℕ × List ℕ

abbrev number_of : Held → ℕ
number_of h = h.0

abbrev is_other : ℕ → Held → Bool
is_other n h = not (h.0 == n)

-- how often a number stands among those of a list, by a sum
numbers_sum : (n : ℕ) (hs : List Held) → times n (map number_of hs) ≡ sum_by (λ h. cond {A = ℕ} (nat_eq n h.0) 1 0) hs
unfolding times
numbers_sum n [] = refl
numbers_sum n (h ∷ hs) = ap (λ k. cond {A = ℕ} (nat_eq n h.0) 1 0 + k) (numbers_sum n hs) ∙ sym (sum_by-cons (λ h. cond {A = ℕ} (nat_eq n h.0) 1 0) h hs)

numbers_permuted : (n : ℕ) (xs ys : List Held) → IsPermutation xs ys → times n (map number_of ys) ≡ times n (map number_of xs)
numbers_permuted n xs ys permuted = numbers_sum n ys ∙ sum_by-IsPermutation (λ h. cond {A = ℕ} (nat_eq n h.0) 1 0) xs ys permuted ∙ sym (numbers_sum n xs)

numbers_fewer : (n : ℕ) (p : Held → Bool) (hs : List Held) → times n (map number_of (filter p hs)) ≤ times n (map number_of hs)
unfolding times
numbers_fewer n p [] = omega arith
numbers_fewer n p (h ∷ hs) = by (p h) (numbers_fewer n p hs)
  where
    by : (b : Bool) → times n (map number_of (filter p hs)) ≤ times n (map number_of hs) → times n (map number_of (cond b (h ∷ filter p hs) (filter p hs))) ≤ times n (map number_of (h ∷ hs))
    by true rest = omega (arith, rest)
    by false rest = omega (arith, rest)

-- what has other numbers stays
others_stay : (n : ℕ) (hs : List Held) → times n (map number_of hs) ≡ 0 → filter (is_other n) hs ≡ hs
unfolding times
others_stay n [] none = refl
others_stay n (h ∷ hs) none = by (nat_eq n h.0) refl none (others_stay n hs)
  where
    turned : (a b : ℕ) → nat_eq a b ≡ false → not (b == a) ≡ true
    turned a b e = grind (arith, e)

    by : (b : Bool) → nat_eq n h.0 ≡ b → cond {A = ℕ} b 1 0 + times n (map number_of hs) ≡ 0 → (times n (map number_of hs) ≡ 0 → filter (is_other n) hs ≡ hs) → filter (is_other n) (h ∷ hs) ≡ h ∷ hs
    by true e none rest = absurd (omega (arith, none))
    by false e none rest = ap (λ b. cond b (h ∷ filter (is_other n) hs) (filter (is_other n) hs)) (turned n h.0 e) ∙ ap (λ l. h ∷ l) (rest (omega (arith, none)))

pub one_taken_out : (n : ℕ) (front back : List Held) (h : Held) → h.0 ≡ n → times n (map number_of (front ++ h ∷ back)) ≤ 1 → filter (is_other n) (front ++ h ∷ back) ≡ front ++ back
unfolding times
one_taken_out n front back h is once =
    let all : times n (map number_of (front ++ h ∷ back)) ≡ times n (map number_of front) + times n (h.0 ∷ map number_of back) = ap (times n) (map-append number_of front (h ∷ back)) ∙ times-append n (map number_of front) (h.0 ∷ map number_of back) in
    let own : cond {A = ℕ} (nat_eq n h.0) 1 0 ≡ 1 = ap (λ b. cond {A = ℕ} b 1 0) (ones n h.0 is) in
    filter-append (is_other n) front (h ∷ back)
    ∙ ap (λ l. l ++ filter (is_other n) (h ∷ back)) (others_stay n front (omega (arith, once, all, own)))
    ∙ ap (λ l. front ++ l) (ap (λ b. cond b (h ∷ filter (is_other n) back) (filter (is_other n) back)) (own_not n h.0 is) ∙ others_stay n back (omega (arith, once, all, own)))
  where
    ones : (a b : ℕ) → b ≡ a → nat_eq a b ≡ true
    ones a b e = grind (arith, e)

    own_not : (a b : ℕ) → b ≡ a → not (b == a) ≡ false
    own_not a b e = grind (arith, e)

-- ---- the board

-- the eyes before a buffer and behind it, where the buffer had one
pub record EmptiesAt (board : List Buffer) (at : ℕ) (x : OpenedEye) : Type 0 where
  pub front : List OpenedEye
  pub back : List OpenedEye
  pub was : posted board ≡ front ++ x ∷ back
  pub is : posted (slice_set board at None) ≡ front ++ back

pub empties_at : (board : List Buffer) (at : ℕ) (x : OpenedEye) → slice_get board at ≡ Some (Some x) → EmptiesAt board at x
empties_at [] at x is = absurd (let e : ◌≡◌ {A = Option Buffer} None (Some (Some x)) = is in cc)
empties_at (None ∷ board) zero x is = absurd (let e : ◌≡◌ {A = Option Buffer} (Some None) (Some (Some x)) = is in cc)
empties_at (None ∷ board) (suc at) x is = let s = empties_at board at x is in record { front = s.front; back = s.back; was = s.was; is = s.is }
empties_at (Some eye ∷ board) zero x is = record { front = []; back = posted board; was = (let e : ◌≡◌ {A = Option Buffer} (Some (Some eye)) (Some (Some x)) = is in let s : eye ≡ x = cc in ap (λ y. y ∷ posted board) s); is = refl }
empties_at (Some eye ∷ board) (suc at) x is = let s = empties_at board at x is in record { front = eye ∷ s.front; back = s.back; was = ap (λ es. eye ∷ es) s.was; is = ap (λ es. eye ∷ es) s.is }

eye_there : (eyes : List OpenEye) (x : Held) → Contains (map named (map (λ (eye : OpenEye). (eye.number, eye.regions)) eyes)) x → Any (λ (eye : OpenEye). eye.number ≡ x.0) eyes
eye_there [] x there = absurd (let low = there.1 in omega (arith, low))
eye_there (eye ∷ eyes) x (zero, low, is) = (0, eye, omega arith, refl, ap number_of is)
eye_there (eye ∷ eyes) x (suc k, low, is) = let more = eye_there eyes x (k, omega (arith, low), is) in (suc more.0, more.1, (let h = more.2 in omega (arith, h)), more.3, more.4)

module _ (old new entry : Disk) (kept : Kept) (whole : IsWhole (value_of old entry kept)) (view : ViewValue) (there : slice_get kept.board (buffer_at view.seat view.buffer) ≡ Some (Some (opened view.eye))) where
  abbrev eyes_of : Disk → List Held
  eyes_of disk = map (λ eye. (eye.number, eye.regions)) disk.eyes

  abbrev x : OpenedEye
  x = opened view.eye

  abbrev n : ℕ
  n = view.eye.number

  abbrev board : List Buffer
  board = slice_set kept.board (buffer_at view.seat view.buffer) None

  split : EmptiesAt kept.board (buffer_at view.seat view.buffer) x
  split = empties_at kept.board (buffer_at view.seat view.buffer) x there

  eyes_was : IsPermutation (map named (eyes_of old)) (map held_of split.front ++ held_of x ∷ map held_of split.back)
  eyes_was = subst (IsPermutation (map named (eyes_of old))) (ap (map held_of) split.was ∙ map-append held_of split.front (x ∷ split.back)) whole.board.eyes

  -- the eye of the view is open
  pub open_there : Any (λ (eye : OpenEye). eye.number ≡ view.eye.number) old.eyes
  open_there =
      eye_there old.eyes (held_of x)
      (Contains-permutation (map held_of split.front ++ held_of x ∷ map held_of split.back) (map named (eyes_of old)) (held_of x)
      (IsPermutation-sym (map named (eyes_of old)) (map held_of split.front ++ held_of x ∷ map held_of split.back) eyes_was) (in_middle (map held_of split.front) (map held_of split.back) (held_of x)))
    where
      in_middle : (front back : List Held) (h : Held) → Contains (front ++ h ∷ back) h
      in_middle [] back h = (0, omega arith, refl)
      in_middle (f ∷ front) back h = let more = in_middle front back h in (suc more.0, (let low = more.1 in omega (arith, low)), more.2)

  module _ (closes : Closes view.eye old new) where
    same : SameBytes old new
    same = bytes_stay old new closes.others.0 closes.others.1 closes.others.2 closes.told (closes.no_lower, let f = closes.others.3 in omega (arith, f))

    sound : IsSound new
    sound = sound_closes closes whole.sound

    new_eyes : eyes_of new ≡ filter (is_other n) (eyes_of old)
    new_eyes = ap (map (λ eye. (eye.number, eye.regions))) closes.listed ∙ mapped_filter (λ (eye : OpenEye). (eye.number, eye.regions)) (λ eye. not (eye.number == n)) (is_other n) (λ eye. refl) old.eyes

    new_named : map named (eyes_of new) ≡ filter (is_other n) (map named (eyes_of old))
    new_named = ap (map named) new_eyes ∙ mapped_filter named (is_other n) (is_other n) (λ h. refl) (eyes_of old)

    -- no number is on the board twice
    once_posted : times n (map number_of (map held_of split.front ++ held_of x ∷ map held_of split.back)) ≤ 1
    once_posted =
        let same_number : times n (map number_of (map held_of split.front ++ held_of x ∷ map held_of split.back)) ≡ times n (map number_of (map named (eyes_of old))) = numbers_permuted n (map named (eyes_of old)) (map held_of split.front ++ held_of x ∷ map held_of split.back) eyes_was in
        let own : times n (map number_of (map named (eyes_of old))) ≡ times n (map number_of (eyes_of old)) = ap (times n) (named_numbers (eyes_of old)) in
        let one = distinct_times (map number_of (eyes_of old)) whole.board.once n in
        omega (arith, same_number, own, one)
      where
        named_numbers : (hs : List Held) → map number_of (map named hs) ≡ map number_of hs
        named_numbers [] = refl
        named_numbers (h ∷ hs) = ap (λ ns. h.0 ∷ ns) (named_numbers hs)

    eyes_now : IsPermutation (map named (eyes_of new)) (map held_of (posted board))
    eyes_now =
        subst (λ hs. IsPermutation hs (map held_of (posted board))) (sym new_named)
        (subst (IsPermutation (filter (is_other n) (map named (eyes_of old))))
        (one_taken_out n (map held_of split.front) (map held_of split.back) (held_of x) refl once_posted ∙ sym (map-append held_of split.front split.back) ∙ ap (map held_of) (sym split.is))
        (filter_permuted (is_other n) (map named (eyes_of old)) (map held_of split.front ++ held_of x ∷ map held_of split.back) eyes_was))

    abbrev shows : OpenedEye → Type 0
    shows e = SameSeen e.regions (option_map (λ (t : Told). t.bytes) new.told) e.told

    on_board : AreOnBoard (value_of new entry (boarded kept board kept.is_shut)).room
    on_board = record {
      seats = let s = whole.board.seats in (s.0, s.1, s.2, length-set kept.board (buffer_at view.seat view.buffer) None ∙ s.3);
      eyes = eyes_now;
      once = subst (λ hs. IsTrue (is_distinct (map number_of hs))) (sym new_eyes)
          (times_distinct (map number_of (filter (is_other n) (eyes_of old))) (λ m. let few = numbers_fewer m (is_other n) (eyes_of old) in let one = distinct_times (map number_of (eyes_of old)) whole.board.once m in omega (arith, few, one)));
      given = subst (AllByRecursion (λ (h : Held). Contains new.given h.0)) (sym new_eyes)
          (subst (λ ns. AllByRecursion (λ (h : Held). Contains ns h.0) (filter (is_other n) (eyes_of old))) (sym closes.given) (all_filter (λ (h : Held). Contains old.given h.0) (is_other n) (eyes_of old) whole.board.given));
      of_parts = subst (AllByRecursion (NamesWhole (kept.parts ++ kept.retired))) (sym new_eyes) (all_filter (NamesWhole (kept.parts ++ kept.retired)) (is_other n) (eyes_of old) whole.board.of_parts);
      shows = subst (AllByRecursion shows) (sym split.is) (fewer split.front split.back (subst (AllByRecursion shows) split.was still));
    }
      where
        still : AllByRecursion shows (posted kept.board)
        still = subst (λ (t : Option Told). AllByRecursion (λ (e : OpenedEye). SameSeen e.regions (option_map (λ (x : Told). x.bytes) t) e.told) (posted kept.board)) (sym closes.told) whole.board.shows

        fewer : (front back : List OpenedEye) → AllByRecursion shows (front ++ x ∷ back) → AllByRecursion shows (front ++ back)
        fewer [] back all = all.1
        fewer (e ∷ front) back all = (all.0, fewer front back all.1)

    pub returned_whole : IsWhole (value_of new entry (boarded kept board kept.is_shut))
    returned_whole = boarded_whole old new entry kept whole same sound board kept.is_shut on_board (λ h. h) (λ h. inl h)

    pub returned_keeps : Keeps (value_of old entry kept) (value_of new entry (boarded kept board kept.is_shut))
    returned_keeps = boarded_keeps old new entry kept whole same sound board kept.is_shut on_board (λ h. h) (λ h. inl h)
