-- The regions of parts, added to a set.
use Rattle.std.proofs.Common.{◌≡◌, ℕ, zero, suc, ◌+◌, ◌<◌, ◌||◌, List, [], ◌∷◌, ◌++◌, length, take, drop, get_or, sym, ap, subst, ◌∙◌, append_assoc, arith}
use Rattle.std.specs.Prelude.{nat_eq}
use Rattle.std.specs.List.{AllByRecursion, list_any}
use Rattle.std.proofs.lemmas.List.{take_more}
use Rattle.std.proofs.lemmas.List.Elements.{filter-append}
use Rattle.std.proofs.lemmas.List.Folds.{list_any-append}
use Rattle.fine_model.specs.declared.Part.{Part}
use Rattle.fine_model.specs.Boards.{set_of}
use Rattle.epoch_room.specs.Erasing.{led_by}
use Rattle.epoch_room.specs.Value.{all_regions}
use Rattle.epoch_room.proofs.RegionSets.Beside.{regions_together}
use Rattle.partition_hold.proofs.Bits.{among, same_regions}
use Rattle.partition_hold.proofs.Sets.{same_set}

-- a set of a set and of more
pub set_more : (xs ys : List ℕ) → set_of (set_of xs ++ ys) ≡ set_of (xs ++ ys)
set_more xs ys =
    same_regions (λ r. list_any (nat_eq r) (set_of xs ++ ys)) (λ r. list_any (nat_eq r) (xs ++ ys))
    (λ r small. list_any-append (nat_eq r) (set_of xs) ys ∙ ap (λ b. b || list_any (nat_eq r) ys) (among (λ n. list_any (nat_eq n) xs) r small) ∙ sym (list_any-append (nat_eq r) xs ys))

pub set_again : (xs : List ℕ) → set_of (set_of xs) ≡ set_of xs
set_again xs = same_set (λ r. list_any (nat_eq r) xs)

-- one after the other
pub set_both : (start a b now next : List ℕ) → now ≡ set_of (start ++ a) → next ≡ set_of (now ++ b) → next ≡ set_of (start ++ (a ++ b))
set_both start a b now next is then' = then' ∙ ap (λ xs. set_of (xs ++ b)) is ∙ set_more (start ++ a) b ∙ ap set_of (append_assoc start a b)

-- the parts that regions lead, with one part more
pub added_more : (leads : List ℕ) (parts : List Part) (i : ℕ) (d : Part) (start now next : List ℕ) → i < length parts → now ≡ set_of (start ++ all_regions (led_by leads (take i parts))) → next ≡ set_of (now ++ all_regions (led_by leads (get_or parts i d ∷ [])))
    → next ≡ set_of (start ++ all_regions (led_by leads (take (i + 1) parts)))
added_more leads parts i d start now next low is then' =
    set_both start (all_regions (led_by leads (take i parts))) (all_regions (led_by leads (get_or parts i d ∷ []))) now next is then'
    ∙ ap (λ rs. set_of (start ++ rs))
    (sym (regions_together (led_by leads (take i parts)) (led_by leads (get_or parts i d ∷ []))) ∙ ap all_regions (sym (filter-append (λ p. list_any (nat_eq p.region) leads) (take i parts) (get_or parts i d ∷ [])) ∙ ap (led_by leads) (sym (take_more parts i d low))))

pub drop_next : {A : Type 0} (P : A → Type 0) (xs : List A) (i : ℕ) → i < length xs → AllByRecursion P (drop i xs) → AllByRecursion P (drop (i + 1) xs)
drop_next P [] i here all = absurd (omega (arith, here))
drop_next P (x ∷ xs) zero here all = all.1
drop_next P (x ∷ xs) (suc i) here all = let e : suc (i + 1) ≡ suc i + 1 = omega arith in subst (λ k. AllByRecursion P (drop k (x ∷ xs))) e (drop_next P xs i (omega (arith, here)) all)
