-- The reply to a call of one key is that of the store on a map of this key alone.
use Rattle.std.proofs.Common.{◌≡◌, ℕ, true, false, true≢false, List, [], ◌∷◌, map, Option, Some, None, cond, option_map, refl, sym, ap, arith}
use Rattle.std.proofs.lemmas.Slice.Eq.{bytes_eq-Decides}
use Rattle.fine_model.specs.declared.Call.{Call}
use Rattle.fine_model.specs.declared.Call.TheVariants as call
use Rattle.fine_model.specs.Map.{Pair, get, is_ascending}
use Rattle.fine_model.specs.Pushed.{key_of}
use Rattle.fine_model.specs.Store.{IsReplyTo, add_answer, answer, number_at}
use Rattle.txn_draft.specs.Drafts.{is_scan}

-- the map of one key, or of none
abbrev lone : List ℕ → Option (List ℕ) → List Pair
lone key None = []
lone key (Some value) = (key, value) ∷ []

lone_ascends : (key : List ℕ) (value : Option (List ℕ)) → is_ascending (map (λ p. p.0) (lone key value)) ≡ true
lone_ascends key None = refl
lone_ascends key (Some value) = refl

get_lone : (key : List ℕ) (value : Option (List ℕ)) → get (lone key value) key ≡ value
unfolding get
get_lone key None = refl
get_lone key (Some value) = ap (λ same. option_map (λ (p : Pair). p.1) (cond same (Some (key, value)) None)) ((bytes_eq-Decides key key).1 refl)

number_alike : (m n : List Pair) (key : List ℕ) → get n key ≡ get m key → number_at n key ≡ number_at m key
unfolding number_at
number_alike m n key same = grind (arith, same)

pub key_reply : (pairs : List Pair) (c : Call) → is_scan c ≡ false → IsReplyTo c (answer pairs c).0
unfolding answer
key_reply pairs c no_scan = (lone (key_of c) (get pairs (key_of c)), lone_ascends (key_of c) (get pairs (key_of c)), by c no_scan)
  where
    alone : Call → List Pair
    alone c = lone (key_of c) (get pairs (key_of c))

    by : (c : Call) → is_scan c ≡ false → (answer pairs c).0 ≡ (answer (alone c) c).0
    by (call.Get key) none = rw (get_lone key (get pairs key)) refl
    by (call.Put key value) none = refl
    by (call.Del key) none = rw (get_lone key (get pairs key)) refl
    by (call.Add key by') none = ap (λ n. (add_answer key n by').0) (sym (number_alike pairs (lone key (get pairs key)) key (get_lone key (get pairs key))))
    by (call.Scan low high limit) none = absurd (true≢false none)
