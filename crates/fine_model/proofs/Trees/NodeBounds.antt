-- Rows within bounds leave nodes within bounds.
use Rattle.std.proofs.Common.{◌≡◌, ◌⊎◌, ℕ, suc, ◌+◌, ◌≤◌, ◌==◌, Bool, true, false, cond, ◌&&◌, not, List, [], ◌∷◌, ◌++◌, length, take, drop, Option, Some, None, ℤ, pos, negsuc, ◌+ℤ◌, FitsSigned, w64, refl, sym, ap, subst, ◌∙◌, inl, inr, true≢false, arith, leb, length-append}
use Rattle.std.specs.Prelude.{find, bytes_eq, option_map}
use Rattle.std.specs.List.{AllByRecursion, list_any}
use Rattle.std.proofs.lemmas.Bool.{leb-true, and_parts, not-true, or_parts}
use Rattle.std.proofs.lemmas.List.{length-take, length-drop, map-id}
use Rattle.std.proofs.lemmas.Fmt.{length_signed_le, decimal_nonempty}
use Rattle.std.proofs.lemmas.Slice.Eq.{bytes_eq-Decides}
use Rattle.fine_model.specs.Types.{NodeId, Rec, Row, Node, Mark}
use Rattle.fine_model.specs.Types.rec
use Rattle.fine_model.specs.Types.node
use Rattle.fine_model.specs.Map.{Pair, is_below, is_ascending, get, set, unset, pairs_below, pairs_above}
use Rattle.fine_model.specs.Nodes.{Content, base, leaf, linked, added, with_sum, keys_below, keys_above, changed, step_node, replay, is_node, rows_of, content}
use Rattle.fine_model.specs.NumberText.{number_of, number_text, is_i64}
use Rattle.fine_model.specs.RowBytes.{FitsKey, FitsValue, FitsPair, FitsChild, FitsRec, FitsRow}
use Rattle.fine_model.specs.BoundLaws.{FitsNode, NodeFits}
use Rattle.fine_model.proofs.Ordered.Order.{order_cases, is_below-self, is_below-asym}
use Rattle.fine_model.proofs.Ordered.Sets.{all_filter, all_append, all_pass}
use Rattle.fine_model.proofs.Trees.Small.{exclusive, length-filter_le, apart_pairs}
use Rattle.fine_model.proofs.Ordered.Lists.{all_take, all_drop}
use Rattle.fine_model.proofs.Ordered.InOrder.{AreUp, AreUp-from_ascending, ascending_from_up, AreUp-filter, AreUp-join, set_up, set_all}
use Rattle.fine_model.proofs.Trees.NodeLaws.{replay_keeps, step_keeps}

leaf_fits : (pairs : List Pair) → AllByRecursion FitsPair pairs → AreUp (λ p. p.0) pairs → FitsNode (leaf pairs)
leaf_fits pairs all up = by (leb (length pairs) 32) refl
  where
    by : (b : Bool) → leb (length pairs) 32 ≡ b → FitsNode (cond b (node.Leaf pairs) node.Broken)
    by true is = (leb-true (length pairs) 32 is, all, ascending_from_up (λ p. p.0) pairs up)
    by false is = tt

put_fits : (pairs : List Pair) (key value : List ℕ) → FitsRec (rec.LeafImage pairs) → FitsPair (key, value) → FitsNode (leaf (set pairs key value))
unfolding set
put_fits pairs key value fits one =
    leaf_fits (set pairs key value) (set_all (λ p. p.0) (key, value) pairs FitsPair one fits.1) (set_up (λ p. p.0) (key, value) pairs (AreUp-from_ascending (λ p. p.0) pairs fits.2))

remove_fits : (pairs : List Pair) (key : List ℕ) → FitsRec (rec.LeafImage pairs) → FitsRec (rec.LeafImage (unset pairs key))
unfolding unset
remove_fits pairs key fits =
    let up = AreUp-from_ascending (λ (p : Pair). p.0) pairs fits.2 in
    let low = pairs_below key pairs in
    let high = pairs_above key pairs in (
      omega (arith, fits.0, exclusive (λ (p : Pair). is_below p.0 key) (λ p. is_below key p.0) pairs (apart_pairs key), length-append low high),
      all_append FitsPair low high (all_filter FitsPair (λ p. is_below p.0 key) pairs fits.1) (all_filter FitsPair (λ p. is_below key p.0) pairs fits.1),
      ascending_from_up (λ p. p.0) (low ++ high) (AreUp-join (λ p. p.0) key low high (AreUp-filter (λ p. p.0) (λ p. is_below p.0 key) pairs up) (all_pass (λ p. is_below p.0 key) pairs)
          (AreUp-filter (λ p. p.0) (λ p. is_below key p.0) pairs up) (all_pass (λ p. is_below key p.0) pairs)),
    )

cut_fits : (pairs : List Pair) (key : List ℕ) → FitsRec (rec.LeafImage pairs) → FitsRec (rec.LeafImage (pairs_below key pairs))
cut_fits pairs key fits = (
  omega (arith, fits.0, length-filter_le (λ (p : Pair). is_below p.0 key) pairs),
  all_filter FitsPair (λ p. is_below p.0 key) pairs fits.1,
  ascending_from_up (λ p. p.0) (pairs_below key pairs) (AreUp-filter (λ p. p.0) (λ p. is_below p.0 key) pairs (AreUp-from_ascending (λ p. p.0) pairs fits.2)),
)

-- where a key is there, it is in neither part
there_shorter : (key : List ℕ) (pairs : List Pair) (p : Pair) → find (λ q. bytes_eq q.0 key) pairs ≡ Some p → suc (length (pairs_below key pairs) + length (pairs_above key pairs)) ≤ length pairs
there_shorter key [] p is = absurd cc
there_shorter key (q ∷ pairs) p is = by (bytes_eq q.0 key) refl (λ e. there_shorter key pairs p e) is
  where
    rest : (b d : Bool) → is_below q.0 key ≡ b → is_below key q.0 ≡ d → suc (length (pairs_below key pairs) + length (pairs_above key pairs)) ≤ length pairs
        → suc (length (cond b (q ∷ pairs_below key pairs) (pairs_below key pairs)) + length (cond d (q ∷ pairs_above key pairs) (pairs_above key pairs))) ≤ suc (length pairs)
    rest true true e f le = absurd (true≢false (sym f ∙ is_below-asym q.0 key e))
    rest true false e f le = omega arith
    rest false true e f le = omega arith
    rest false false e f le = omega arith

    here : (b d : Bool) → is_below q.0 key ≡ b → is_below key q.0 ≡ d → q.0 ≡ key
        → suc (length (cond b (q ∷ pairs_below key pairs) (pairs_below key pairs)) + length (cond d (q ∷ pairs_above key pairs) (pairs_above key pairs))) ≤ suc (length pairs)
    here true d e f same = absurd (true≢false (sym e ∙ ap (λ k. is_below k key) same ∙ is_below-self key))
    here false true e f same = absurd (true≢false (sym f ∙ ap (is_below key) same ∙ is_below-self key))
    here false false e f same = let le = exclusive (λ (p : Pair). is_below p.0 key) (λ p. is_below key p.0) pairs (apart_pairs key) in omega arith

    by : (b : Bool) → bytes_eq q.0 key ≡ b → (find (λ q. bytes_eq q.0 key) pairs ≡ Some p → suc (length (pairs_below key pairs) + length (pairs_above key pairs)) ≤ length pairs) → cond b (Some q) (find (λ q. bytes_eq q.0 key) pairs) ≡ Some p
        → suc (length (pairs_below key (q ∷ pairs)) + length (pairs_above key (q ∷ pairs))) ≤ suc (length pairs)
    by true e more is = here (is_below q.0 key) (is_below key q.0) refl refl ((bytes_eq-Decides q.0 key).0 e)
    by false e more is = rest (is_below q.0 key) (is_below key q.0) refl refl (more is)

-- a number of 64 bits
pub signed : (z : ℤ) → is_i64 z ≡ true → FitsSigned w64 z
signed (pos n) h = let le : n ≤ 9223372036854775807 = leb-true n 9223372036854775807 h in omega arith
signed (negsuc n) h = let le : n ≤ 9223372036854775807 = leb-true n 9223372036854775807 (and_parts (leb n 9223372036854775807) true h).0 in omega arith

-- the text of a number is within the bounds of a value
pub text_fits : (z : ℤ) → is_i64 z ≡ true → FitsValue (number_text z)
unfolding number_text
text_fits (pos n) is = let h = signed (pos n) is in let le = length_signed_le 19 (pos n) (omega (arith, h)) (omega (arith, h)) in let some = decimal_nonempty n (omega (arith, h)) in (omega arith, omega arith)
text_fits (negsuc n) is = let h = signed (negsuc n) is in let le = length_signed_le 19 (negsuc n) (omega (arith, h)) (omega (arith, h)) in (omega arith, omega arith)

sum_fits : (pairs : List Pair) (key : List ℕ) (sum : ℤ) (p : Pair) → FitsRec (rec.LeafImage pairs) → FitsKey key → find (λ q. bytes_eq q.0 key) pairs ≡ Some p → FitsNode (with_sum pairs key sum)
unfolding set
sum_fits pairs key sum p fits one there = by (is_i64 sum) refl
  where
    by : (b : Bool) → is_i64 sum ≡ b → FitsNode (cond b (node.Leaf (set pairs key (number_text sum))) node.Broken)
    by false is = tt
    by true is = (
      omega (arith, fits.0, there_shorter key pairs p there, length-append (pairs_below key pairs) ((key, number_text sum) ∷ pairs_above key pairs)),
      set_all (λ p. p.0) (key, number_text sum) pairs FitsPair (one, text_fits sum is) fits.1,
      ascending_from_up (λ p. p.0) (set pairs key (number_text sum)) (set_up (λ p. p.0) (key, number_text sum) pairs (AreUp-from_ascending (λ p. p.0) pairs fits.2)),
    )

add_fits : (pairs : List Pair) (key : List ℕ) (n : ℤ) → FitsRec (rec.LeafImage pairs) → FitsKey key → FitsNode (added pairs key n (get pairs key))
unfolding added get
add_fits pairs key n fits one = by (find (λ q. bytes_eq q.0 key) pairs) refl
  where
    onto : (p : Pair) (o : Option ℤ) → number_of p.1 ≡ o → find (λ q. bytes_eq q.0 key) pairs ≡ Some p → FitsNode (added pairs key n (Some p.1))
    onto p None e is = rw e tt
    onto p (Some m) e is = rw e (sum_fits pairs key (m +ℤ n) p fits one is)

    by : (o : Option Pair) → find (λ q. bytes_eq q.0 key) pairs ≡ o → FitsNode (added pairs key n (option_map (λ p. p.1) o))
    by None is = tt
    by (Some p) is = onto p (number_of p.1) refl is

-- ---- inner nodes

pub up_from : (seps : List (List ℕ)) → is_ascending seps ≡ true → AreUp (λ k. k) seps
up_from seps up = AreUp-from_ascending (λ k. k) seps (subst (λ (ks : List (List ℕ)). is_ascending ks ≡ true) (sym (map-id seps)) up)

pub ascending_keys : (seps : List (List ℕ)) → AreUp (λ k. k) seps → is_ascending seps ≡ true
ascending_keys seps up = subst (λ (ks : List (List ℕ)). is_ascending ks ≡ true) (map-id seps) (ascending_from_up (λ k. k) seps up)

cut_inner_fits : (seps : List (List ℕ)) (kids : List ℕ) (key : List ℕ) → FitsRec (rec.InnerImage seps kids) → FitsRec (rec.InnerImage (keys_below key seps) (take (length (keys_below key seps) + 1) kids))
cut_inner_fits seps kids key fits =
    let n = length (keys_below key seps) + 1 in
    let few = length-filter_le (λ (k : List ℕ). is_below k key) seps in (
      omega (arith, fits.0, few),
      omega (arith, fits.1, few, length-take n kids),
      all_take FitsChild n kids fits.2,
      all_filter FitsKey (λ k. is_below k key) seps fits.3,
      ascending_keys (keys_below key seps) (AreUp-filter (λ k. k) (λ k. is_below k key) seps (up_from seps fits.4)),
    )

-- each key that is not the given one is below it or above it
absent_parts : (key : List ℕ) (seps : List (List ℕ)) → list_any (bytes_eq key) seps ≡ false → length (keys_below key seps) + length (keys_above key seps) ≡ length seps
absent_parts key [] none = refl
absent_parts key (k ∷ seps) none =
    let apart = or_parts (bytes_eq key k) (list_any (bytes_eq key) seps) none in
    by (is_below k key) (is_below key k) refl refl (order_cases k key) apart.0 (absent_parts key seps apart.1)
  where
    by : (b d : Bool) → is_below k key ≡ b → is_below key k ≡ d → ((is_below k key ≡ true) × (is_below key k ≡ false)) ⊎ (k ≡ key) ⊎ ((is_below key k ≡ true) × (is_below k key ≡ false)) → bytes_eq key k ≡ false
        → length (keys_below key seps) + length (keys_above key seps) ≡ length seps
        → length (cond b (k ∷ keys_below key seps) (keys_below key seps)) + length (cond d (k ∷ keys_above key seps) (keys_above key seps)) ≡ suc (length seps)
    by true true e f order other all = absurd (true≢false (sym f ∙ is_below-asym k key e))
    by true false e f order other all = omega arith
    by false true e f order other all = omega arith
    by false false e f (inl a) other all = absurd (true≢false (sym a.0 ∙ e))
    by false false e f (inr (inl same)) other all = absurd (true≢false (sym ((bytes_eq-Decides key k).1 (sym same)) ∙ other))
    by false false e f (inr (inr b)) other all = absurd (true≢false (sym b.0 ∙ f))

link_fits : (seps : List (List ℕ)) (kids : List ℕ) (key : List ℕ) (child : ℕ) → FitsRec (rec.InnerImage seps kids) → FitsKey key → FitsChild child → FitsNode (linked seps kids key child)
link_fits seps kids key child fits one kid = by (not (list_any (bytes_eq key) seps) && leb (length seps + 1) 32) refl
  where
    by : (b : Bool) → (not (list_any (bytes_eq key) seps) && leb (length seps + 1) 32) ≡ b
        → FitsNode (cond b (node.Inner (keys_below key seps ++ key ∷ keys_above key seps) (take (length (keys_below key seps) + 1) kids ++ child ∷ drop (length (keys_below key seps) + 1) kids)) node.Broken)
    by false is = tt
    by true is =
        let tests = and_parts (not (list_any (bytes_eq key) seps)) (leb (length seps + 1) 32) is in
        let parts = absent_parts key seps (not-true (list_any (bytes_eq key) seps) tests.0) in
        let few : length seps + 1 ≤ 32 = leb-true (length seps + 1) 32 tests.1 in
        let m = length (keys_below key seps) + 1 in
        let long = length-append (keys_below key seps) (key ∷ keys_above key seps) in (
          omega (arith, few, parts, long),
          omega (arith, parts, long, fits.1, length-append (take m kids) (child ∷ drop m kids), length-take m kids, length-drop m kids),
          all_append FitsChild (take m kids) (child ∷ drop m kids) (all_take FitsChild m kids fits.2) (kid, all_drop FitsChild m kids fits.2),
          set_all (λ k. k) key seps FitsKey one fits.3,
          ascending_keys (keys_below key seps ++ key ∷ keys_above key seps) (set_up (λ k. k) key seps (up_from seps fits.4)),
        )

changed_fits : (n : Node) (r : Rec) → FitsNode n → FitsRec r → FitsNode (changed n r)
unfolding changed
changed_fits (node.Leaf pairs) (rec.Put key value) fits one = put_fits pairs key value fits one
changed_fits (node.Leaf pairs) (rec.Del key) fits one = remove_fits pairs key fits
changed_fits (node.Leaf pairs) (rec.CutLeaf key) fits one = cut_fits pairs key fits
changed_fits (node.Leaf pairs) (rec.Plus key by) fits one = add_fits pairs key by fits one.0
changed_fits (node.Inner seps kids) (rec.CutInner key) fits one = cut_inner_fits seps kids key fits
changed_fits (node.Inner seps kids) (rec.Link key child) fits one = link_fits seps kids key child fits one.0 one.1
changed_fits _ _ fits one = tt

pub step_fits : (old : Node × ℕ) (version : ℕ) (r : Rec) → FitsNode old.0 → FitsRec r → FitsNode (step_node old version r)
step_fits = step_keeps FitsNode FitsRec tt changed_fits (λ root next depth one. one) (λ pairs one. one) (λ seps kids one. one)

replay_fits : (rows : List Row) (old : Content) → AllByRecursion (λ row. FitsRec row.rec) rows → FitsNode old.0 → FitsNode (replay old rows).0
replay_fits = replay_keeps FitsNode FitsRec tt changed_fits (λ root next depth one. one) (λ pairs one. one) (λ seps kids one. one)

base_fits : (id : NodeId) → FitsNode (base id).0
base_fits id = by (id.number == 0)
  where
    by : (b : Bool) → FitsNode (cond {A = Content} b (node.Head 1 2 1, 0) (node.Leaf [], 0)).0
    by true = ((omega arith, omega arith), omega arith, omega arith, omega arith, omega arith)
    by false = (omega arith, tt, refl)

pub recs_fit : (mark : Mark) (rows : List Row) → AllByRecursion (FitsRow mark) rows → AllByRecursion (λ row. FitsRec row.rec) rows
recs_fit mark [] fits = tt
recs_fit mark (row ∷ rows) fits = (let f = fits.0 in f.rec, recs_fit mark rows fits.1)

pub node_fits_of : (rows : List Row) (id : NodeId) → AllByRecursion (λ row. FitsRec row.rec) rows → FitsNode (content rows id).0
unfolding content
node_fits_of rows id fits = replay_fits (rows_of id rows) (base id) (all_filter (λ row. FitsRec row.rec) (λ row. is_node id row.node) rows fits) (base_fits id)

pub node_fits : NodeFits
node_fits mark rows id fits = node_fits_of rows id (recs_fit mark rows fits)
