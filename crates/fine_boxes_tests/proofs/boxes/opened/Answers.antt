use Rattle.std.proofs.Common.{◌≡◌, ℕ, suc, zero, ◌<◌, ◌≤◌, List, [], ◌∷◌, ◌++◌, Option, Some, None, Result, Ok, Err, length, replicate, ap, refl, sym, ◌∙◌, arith, slice_index, subst}
use Rattle.std.proofs.lemmas.List.{length-replicate}
use lib.ListN.{get_elem?}
use mathlib.Core.Option.{some}
use Rattle.fine_places.specs.History.{room, most_seats}
use Rattle.atomic_table.proofs.Lists.{at_longer}
use Rattle.fine_places.proofs.Lists.{replicate_at, zeros}
use Rattle.fine_boxes.specs.Boxes.{mailbox, slot, published_word}
use Rattle.fine_boxes_tests.specs.Trial.{state_in, trial_view, trial_board, trial_backs}
use Rattle.fine_boxes.specs.Ends.{OpensSeat, Opens}
use Rattle.fine_boxes.proofs.Opening.{boxes_open}
use Rattle.fine_boxes_tests.proofs.boxes.opened.Goals as goal

abbrev some_words : List ℕ
some_words = replicate 258 0 ++ 2 ∷ []

abbrev some_things : List (Option (Result ℕ ℕ))
some_things = ((replicate 257 (Some (Err 2)) ++ None ∷ []) ++ Some (Ok 1) ∷ []) ++ None ∷ []

first_seat : OpensSeat trial_view (λ _. Unit {0}) (state_in 0 ∷ []) (trial_board (Err 2)) 5 (trial_backs (Err 2)) 0 some_words some_things 0
unfolding mailbox slot room
first_seat = record {
  word = refl;
  front = state_in 0;
  is_front = refl;
  front_at = record { seat = refl; buffer = refl };
  front_tells = tt;
  front_upto = (omega arith, omega arith);
  thing = Ok 1;
  there = refl;
  middle = state_in 1;
  is_middle = refl;
  middle_at = record { seat = refl; buffer = refl };
  middle_tells = tt;
  middle_upto = omega arith;
  clean = refl;
  empty = (refl, refl);
  back = refl;
  names_front = refl;
  names_middle = refl;
  names_back = refl;
}

words_long : length some_words ≡ 259
words_long = refl

things_long : length some_things ≡ 260
things_long = refl

index_left : (l m : List ℕ) (k : ℕ) → k < length l → slice_index (l ++ m) k ≡ slice_index l k
index_left [] m k lt = absurd (omega arith)
index_left (n ∷ l) m zero lt = refl
index_left (n ∷ l) m (suc k) lt = index_left l m k (omega arith)

free_word : (k : ℕ) → k ≤ room → slice_index some_words k ≡ 0
unfolding room
free_word k le = index_left (replicate 258 0) (2 ∷ []) k (let e = length-replicate {A = ℕ} 258 0 in omega arith) ∙ zeros 258 k

thing_at : (k : ℕ) → k ≤ room → get_elem? some_things k ≡ some (Some (Err 2))
unfolding room
thing_at k le = at_longer ((replicate 257 (Some (Err 2)) ++ None ∷ []) ++ Some (Ok 1) ∷ []) (None ∷ []) k (Some (Err 2))
    (at_longer (replicate 257 (Some (Err 2)) ++ None ∷ []) (Some (Ok 1) ∷ []) k (Some (Err 2)) (at_longer (replicate 257 (Some (Err 2))) (None ∷ []) k (Some (Err 2)) (replicate_at 257 k (Some (Err 2)) (omega arith))))

abbrev TrialOpens : List ℕ → List (Option (Result ℕ ℕ)) → Type 0
TrialOpens ws xs = Opens {X = Unit {0}} {N = Unit {0}} (λ _. 1) (λ _. state_in 0 ∷ []) trial_view trial_board (λ _. 5) trial_backs (λ _ _ _. Unit {0}) tt 0 ws xs

all_open : TrialOpens some_words some_things
unfolding room published_word
all_open = record {
  wide = refl;
  deep = refl;
  number = refl;
  count = refl;
  home = Err 2;
  at_room = refl;
  long = (omega arith, refl);
  below = omega arith;
  each = λ i lt. let e : 0 ≡ i = omega arith in subst (λ (j : ℕ). OpensSeat trial_view (λ _. Unit {0}) (state_in 0 ∷ []) (trial_board (Err 2)) 5 (trial_backs (Err 2)) 0 some_words some_things j) e first_seat;
}

opens_at : (ws : List ℕ) (xs : List (Option (Result ℕ ℕ))) → ws ≡ some_words → xs ≡ some_things → TrialOpens ws xs
opens_at ws xs e f = subst (λ (q : List ℕ × List (Option (Result ℕ ℕ))). TrialOpens q.0 q.1) (λ i. (sym e i, sym f i)) all_open

pub open-opened-requires-clause-counts : goal.open-opened-requires-clause-counts
unfolding room
open-opened-requires-clause-counts c =
    let w = ap length (c.as_slice.ensures.value ∙ c.in_ok-words.ensures) ∙ words_long in let t = ap length c.in_ok-things.ensures ∙ things_long in (omega arith, omega arith)

pub open-opened-requires-clause-seats : goal.open-opened-requires-clause-seats
unfolding most_seats
open-opened-requires-clause-seats c = (omega arith, omega arith)

pub open-opened-requires-clause-free : goal.open-opened-requires-clause-free
open-opened-requires-clause-free c = λ k le. ap (λ l. slice_index l k) (c.as_slice.ensures.value ∙ c.in_ok-words.ensures) ∙ free_word k le

pub open-opened-requires-clause-stands : goal.open-opened-requires-clause-stands
open-opened-requires-clause-stands c = λ k le. (Err 2, ap (λ l. get_elem? l k) c.in_ok-things.ensures ∙ thing_at k le, tt)

pub open-opened-requires-clause-beside : goal.open-opened-requires-clause-beside
open-opened-requires-clause-beside c = boxes_open (λ _. 1) (λ _. state_in 0 ∷ []) trial_view trial_board (λ _. 5) trial_backs (λ _ _ _. Unit {0}) (λ _ _. Unit {0}) (λ _. 0) tt 0 _ _ (opens_at _ _ (c.as_slice.ensures.value ∙ c.in_ok-words.ensures) c.in_ok-things.ensures) 1 0 refl

pub returns-in-Ok-clause-table : goal.returns-in-Ok-clause-table
unfolding room
returns-in-Ok-clause-table c = let o = c.in-Ok.ensures in let w = o.counts.0 ∙ ap length (c.as_slice.ensures.value ∙ c.in_ok-words.ensures) ∙ words_long in let t = o.counts.1 ∙ ap length c.in_ok-things.ensures ∙ things_long in
    (o.table.0, (omega arith, omega arith), o.table.1)
