-- The places of a lane, as they are found one after another.
use Rattle.std.proofs.Common.{◌≡◌, ℕ, ◌+◌, ◌==◌, Bool, cond, true, false, List, [], ◌∷◌, ◌++◌, map, Some, refl, sym, ap, ◌∙◌, append-nil, arith, length}
use Rattle.std.specs.Prelude.{filter, option_map, slice_get, unwrap_or}
use Rattle.std.specs.List.{range_with_len}
use Rattle.std.proofs.lemmas.List.{map-id}
use Rattle.std.proofs.lemmas.List.FromFn.{filter_of_map_range_with_len_more}
use Rattle.fine_model.specs.declared.ScriptTxn.{ScriptTxn}
use Rattle.lane_laws.specs.Lanes.{lane_at, places_in}

-- those among the first n transactions
abbrev pub places_up_to : List ScriptTxn → ℕ → ℕ → List ℕ
places_up_to script lane n = filter (λ i. lane_at script i == lane) (range_with_len 0 n)

pub all_places : (script : List ScriptTxn) (lane : ℕ) → places_up_to script lane (length script) ≡ places_in script lane
unfolding places_in
all_places script lane = refl

one_more : (test : ℕ → Bool) (n : ℕ) → filter test (range_with_len 0 (n + 1)) ≡ filter test (range_with_len 0 n) ++ cond (test n) (n ∷ []) []
one_more test n =
    ap (filter test) (sym (map-id (range_with_len 0 (n + 1)))) ∙ (filter_of_map_range_with_len_more test (λ i. i) 0 n n (omega arith) ∙ ap (λ l. filter test l ++ cond (test n) (n ∷ []) []) (map-id (range_with_len 0 n)))

lane_is : (script : List ScriptTxn) (n : ℕ) (txn : ScriptTxn) → slice_get script n ≡ Some txn → lane_at script n ≡ txn.lane
lane_is script n txn is = ap (λ o. unwrap_or (option_map (λ (t : ScriptTxn). t.lane) o) 0) is

is_same : (a b : ℕ) → a ≡ b → (a == b) ≡ true
is_same a b e = grind (arith, e)

is_other : (a b : ℕ) → (a ≡ b → ⊥) → (a == b) ≡ false
is_other a b e = grind (arith, e)

pub place_more : (script : List ScriptTxn) (lane n : ℕ) (txn : ScriptTxn) → slice_get script n ≡ Some txn → txn.lane ≡ lane → places_up_to script lane (n + 1) ≡ places_up_to script lane n ++ n ∷ []
place_more script lane n txn is of =
    one_more (λ i. lane_at script i == lane) n ∙ ap (λ b. places_up_to script lane n ++ cond b (n ∷ []) []) (is_same (lane_at script n) lane (lane_is script n txn is ∙ of))

pub no_place_more : (script : List ScriptTxn) (lane n : ℕ) (txn : ScriptTxn) → slice_get script n ≡ Some txn → (txn.lane ≡ lane → ⊥) → places_up_to script lane (n + 1) ≡ places_up_to script lane n
no_place_more script lane n txn is not =
    one_more (λ i. lane_at script i == lane) n
    ∙ (ap (λ b. places_up_to script lane n ++ cond b (n ∷ []) []) (is_other (lane_at script n) lane (λ e. not (sym (lane_is script n txn is) ∙ e))) ∙ append-nil (places_up_to script lane n))
