-- Setting and unsetting at the place of a key.
use Rattle.std.proofs.Common.{◌≡◌, ℕ, suc, true, List, ◌∷◌, ◌++◌, take, drop, slice_get, slice_set, Some, refl, sym, ap, ◌∙◌, inr, take-append-drop}
use Rattle.std.proofs.lemmas.List.{set_split}
use Rattle.std.proofs.lemmas.Option.{slice_get_within}
use Rattle.fine_model.specs.Map.{Pair, is_below, set, unset}
use Rattle.plain_model.specs.Place.{Ascends, IsPlace}
use Rattle.fine_model.proofs.Ordered.Order.{AllAbove, set_new, set_again, unset_there, unset_absent, around, above_behind, above_from}

module _ (key : List ℕ) (pairs : List Pair) (i : ℕ) (up : Ascends pairs) (place : IsPlace key pairs i) where
  pub set_there : (old value : List ℕ) → slice_get pairs i ≡ Some (key, old) → slice_set pairs i (key, value) ≡ set pairs key value
  set_there old value is =
      set_split pairs i (key, value) (slice_get_within pairs i (key, old) is)
      ∙ sym (set_again key (take i pairs) (drop (suc i) pairs) place.below (above_behind key pairs i (key, old) up.keys is (inr refl)) old value)
      ∙ sym (ap (λ xs. set xs key value) (around pairs i (key, old) is))

  pub remove_there : (old : List ℕ) → slice_get pairs i ≡ Some (key, old) → take i pairs ++ drop (suc i) pairs ≡ unset pairs key
  remove_there old is =
      sym (unset_there key (take i pairs) (drop (suc i) pairs) place.below (above_behind key pairs i (key, old) up.keys is (inr refl)) old)
      ∙ sym (ap (λ xs. unset xs key) (around pairs i (key, old) is))

  -- from the place on all is above a key that does not stand there
  all_above : ((p : Pair) → slice_get pairs i ≡ Some p → is_below key p.0 ≡ true) → AllAbove key (drop i pairs)
  all_above above = above_from key pairs i up.keys above

  pub insert_absent : (value : List ℕ) → ((p : Pair) → slice_get pairs i ≡ Some p → is_below key p.0 ≡ true) → take i pairs ++ (key, value) ∷ drop i pairs ≡ set pairs key value
  insert_absent value above =
      sym (set_new key (take i pairs) (drop i pairs) place.below (all_above above) value) ∙ ap (λ xs. set xs key value) (take-append-drop i pairs)

  pub keep_absent : ((p : Pair) → slice_get pairs i ≡ Some p → is_below key p.0 ≡ true) → pairs ≡ unset pairs key
  keep_absent above =
      sym (take-append-drop i pairs) ∙ sym (unset_absent key (take i pairs) (drop i pairs) place.below (all_above above)) ∙ ap (λ xs. unset xs key) (take-append-drop i pairs)
