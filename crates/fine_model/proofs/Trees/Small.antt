-- Rows whose images are of the format's size leave no node with more than 32 pairs or separators.
use Rattle.std.proofs.Common.{◌≡◌, ℕ, ◌+◌, ◌≤◌, ◌==◌, nat_le, Bool, true, false, cond, not, ◌&&◌, IsTrue, List, [], ◌∷◌, ◌++◌, length, take, drop, refl, sym, ap, ◌∙◌, true≢false, arith, le-leb, leb-true, length-append, Some, None, ℤ, ◌+ℤ◌}
use Rattle.std.specs.Prelude.{filter, find, Option, bytes_eq, option_map}
use Rattle.std.specs.List.{AllByRecursion, list_any}
use Rattle.std.proofs.lemmas.Slice.Eq.{bytes_eq-Decides}
use Rattle.fine_model.specs.Types.{NodeId, Rec, Row, Node}
use Rattle.fine_model.specs.Types.rec
use Rattle.fine_model.specs.Types.node
use Rattle.fine_model.specs.Map.{Pair, is_below, pairs_below, pairs_above, get, set, unset}
use Rattle.fine_model.specs.NumberText.{number_text, number_of, is_i64}
use Rattle.fine_model.specs.Nodes.{Content, base, keys_below, keys_above, leaf, with_sum, added, changed, replay, rows_of, is_node, content}
use Rattle.fine_model.specs.Laws.{is_small, AreSmall}
use Rattle.fine_model.proofs.Ordered.Order.{is_below-asym, is_below-self}
use Rattle.fine_model.proofs.Ordered.Sets.{all_filter, all_append}
use Rattle.fine_model.proofs.Trees.NodeLaws.{replay_keeps}

-- two tests that no item passes both
pub exclusive : {A : Type 0} (p q : A → Bool) (xs : List A) → ((x : A) → p x ≡ true → q x ≡ false) → length (filter p xs) + length (filter q xs) ≤ length xs
exclusive p q [] apart = omega arith
exclusive p q (x ∷ xs) apart = by (p x) (q x) refl refl (exclusive p q xs apart)
  where
    by : (b c : Bool) → p x ≡ b → q x ≡ c → length (filter p xs) + length (filter q xs) ≤ length xs
        → length (cond b (x ∷ filter p xs) (filter p xs)) + length (cond c (x ∷ filter q xs) (filter q xs)) ≤ length (x ∷ xs)
    by true true e f rest = absurd (true≢false (sym f ∙ apart x e))
    by true false e f rest = omega (arith, rest)
    by false true e f rest = omega (arith, rest)
    by false false e f rest = omega (arith, rest)

pub length-filter_le : {A : Type 0} (p : A → Bool) (xs : List A) → length (filter p xs) ≤ length xs
length-filter_le p [] = omega arith
length-filter_le p (x ∷ xs) = by (p x) (length-filter_le p xs)
  where
    by : (b : Bool) → length (filter p xs) ≤ length xs → length (cond b (x ∷ filter p xs) (filter p xs)) ≤ length (x ∷ xs)
    by true rest = omega (arith, rest)
    by false rest = omega (arith, rest)

pub apart_pairs : (key : List ℕ) (p : Pair) → is_below p.0 key ≡ true → is_below key p.0 ≡ false
apart_pairs key p h = is_below-asym p.0 key h

-- a pair of the key is neither below it nor above it
room : (key : List ℕ) (pairs : List Pair) (x : Pair) → find (λ p. bytes_eq p.0 key) pairs ≡ Some x → length (pairs_below key pairs) + length (pairs_above key pairs) + 1 ≤ length pairs
room key [] x is = absurd (cc)
room key (p ∷ pairs) x is = by (bytes_eq p.0 key) refl is (room key pairs x)
  where
    by : (b : Bool) → bytes_eq p.0 key ≡ b → cond b (Some p) (find (λ p. bytes_eq p.0 key) pairs) ≡ Some x
        → (find (λ p. bytes_eq p.0 key) pairs ≡ Some x → length (pairs_below key pairs) + length (pairs_above key pairs) + 1 ≤ length pairs)
        → length (cond (is_below p.0 key) (p ∷ pairs_below key pairs) (pairs_below key pairs)) + length (cond (is_below key p.0) (p ∷ pairs_above key pairs) (pairs_above key pairs)) + 1 ≤ length (p ∷ pairs)
    by true same found rest =
        let e = (bytes_eq-Decides p.0 key).0 same in
        let below : is_below p.0 key ≡ false = ap (λ k. is_below k key) e ∙ is_below-self key in
        let above : is_below key p.0 ≡ false = ap (is_below key) e ∙ is_below-self key in
        let a = ap (λ b. length (cond b (p ∷ pairs_below key pairs) (pairs_below key pairs))) below in
        let b = ap (λ b. length (cond b (p ∷ pairs_above key pairs) (pairs_above key pairs))) above in
        let c = exclusive (λ q. is_below q.0 key) (λ q. is_below key q.0) pairs (apart_pairs key) in omega (arith, a, b, c)
    by false other found rest = of (is_below p.0 key) (is_below key p.0) refl refl (rest found)
      where
        of : (b c : Bool) → is_below p.0 key ≡ b → is_below key p.0 ≡ c → length (pairs_below key pairs) + length (pairs_above key pairs) + 1 ≤ length pairs
            → length (cond b (p ∷ pairs_below key pairs) (pairs_below key pairs)) + length (cond c (p ∷ pairs_above key pairs) (pairs_above key pairs)) + 1 ≤ length (p ∷ pairs)
        of true true e f h = absurd (true≢false (sym f ∙ apart_pairs key p e))
        of true false e f h = omega (arith, h)
        of false true e f h = omega (arith, h)
        of false false e f h = omega (arith, h)

-- a node of the format's size
abbrev pub is_small_node : Node → Bool
is_small_node (node.Leaf pairs) = nat_le (length pairs) 32
is_small_node (node.Inner seps kids) = nat_le (length seps) 32
is_small_node _ = true

small_leaf : (pairs : List Pair) → is_small_node (leaf pairs) ≡ true
small_leaf pairs = by (nat_le (length pairs) 32) refl
  where
    by : (b : Bool) → nat_le (length pairs) 32 ≡ b → is_small_node (cond b (node.Leaf pairs) node.Broken) ≡ true
    by true h = h
    by false h = refl

small_sum : (pairs : List Pair) (key : List ℕ) (x : Pair) (sum : ℤ) → find (λ p. bytes_eq p.0 key) pairs ≡ Some x → length pairs ≤ 32 → is_small_node (with_sum pairs key sum) ≡ true
unfolding set
small_sum pairs key x sum found h = by (is_i64 sum)
  where
    by : (b : Bool) → is_small_node (cond b (node.Leaf (set pairs key (number_text sum))) node.Broken) ≡ true
    by true = le-leb (length (pairs_below key pairs ++ (key, number_text sum) ∷ pairs_above key pairs)) 32
        (let a = length-append (pairs_below key pairs) ((key, number_text sum) ∷ pairs_above key pairs) in let r = room key pairs x found in omega (arith, a, r, h))
    by false = refl

small_added : (pairs : List Pair) (key : List ℕ) (by : ℤ) → length pairs ≤ 32 → is_small_node (added pairs key by (get pairs key)) ≡ true
unfolding added get
small_added pairs key n h = of (find (λ p. bytes_eq p.0 key) pairs) refl
  where
    of : (o : Option Pair) → find (λ p. bytes_eq p.0 key) pairs ≡ o → is_small_node (added pairs key n (option_map (λ p. p.1) o)) ≡ true
    of None is = refl
    of (Some x) is = onto (number_of x.1) refl
      where
        onto : (z : Option ℤ) → number_of x.1 ≡ z → is_small_node (added pairs key n (Some x.1)) ≡ true
        onto None e = rw e refl
        onto (Some z) e = rw e (small_sum pairs key x (z +ℤ n) is h)

small_changed : (n : Node) (change : Rec) → is_small_node n ≡ true → is_small_node (changed n change) ≡ true
unfolding changed unset
small_changed (node.Leaf pairs) (rec.Put key value) h = small_leaf (set pairs key value)
small_changed (node.Leaf pairs) (rec.Del key) h =
    le-leb (length (pairs_below key pairs ++ pairs_above key pairs)) 32
    (let a = length-append (pairs_below key pairs) (pairs_above key pairs) in let e = exclusive (λ q. is_below q.0 key) (λ q. is_below key q.0) pairs (apart_pairs key) in let l = leb-true (length pairs) 32 h in omega (arith, a, e, l))
small_changed (node.Leaf pairs) (rec.CutLeaf key) h =
    le-leb (length (pairs_below key pairs)) 32 (let e = length-filter_le (λ p. is_below p.0 key) pairs in let l = leb-true (length pairs) 32 h in omega (arith, e, l))
small_changed (node.Leaf pairs) (rec.Plus key by) h = small_added pairs key by (leb-true (length pairs) 32 h)
small_changed (node.Inner seps kids) (rec.CutInner key) h =
    le-leb (length (keys_below key seps)) 32 (let e = length-filter_le (λ k. is_below k key) seps in let l = leb-true (length seps) 32 h in omega (arith, e, l))
small_changed (node.Inner seps kids) (rec.Link key child) h = by (not (list_any (bytes_eq key) seps)) (nat_le (length seps + 1) 32) refl
  where
    by : (b c : Bool) → nat_le (length seps + 1) 32 ≡ c
        → is_small_node (cond (b && c) (node.Inner (keys_below key seps ++ key ∷ keys_above key seps) (take (length (keys_below key seps) + 1) kids ++ child ∷ drop (length (keys_below key seps) + 1) kids)) node.Broken) ≡ true
    by true true is =
        le-leb (length (keys_below key seps ++ key ∷ keys_above key seps)) 32
        (let a = length-append (keys_below key seps) (key ∷ keys_above key seps) in let e = exclusive (λ k. is_below k key) (λ k. is_below key k) seps (λ k. is_below-asym k key) in let l = leb-true (length seps + 1) 32 is in omega (arith, a, e, l))
    by true false is = refl
    by false c is = refl
small_changed _ _ h = refl

small_replay : (rows : List Row) (old : Content) → AllByRecursion (λ row. IsTrue (is_small row.rec)) rows → is_small_node old.0 ≡ true → is_small_node (replay old rows).0 ≡ true
small_replay = replay_keeps (λ n. is_small_node n ≡ true) (λ change. IsTrue (is_small change)) refl (λ n change small one. small_changed n change small) (λ root next depth one. refl) (λ pairs one. one) (λ seps kids one. one)

small_base : (id : NodeId) → is_small_node (base id).0 ≡ true
small_base id = by (id.number == 0)
  where
    by : (b : Bool) → is_small_node (cond {A = Content} b (node.Head 1 2 1, 0) (node.Leaf [], 0)).0 ≡ true
    by true = refl
    by false = refl

pub small_content : (rows : List Row) (id : NodeId) → AreSmall rows → is_small_node (content rows id).0 ≡ true
unfolding content
small_content rows id small = small_replay (rows_of id rows) (base id) (all_filter (λ row. IsTrue (is_small row.rec)) (λ row. is_node id row.node) rows small.each) (small_base id)

pub small-append : (rows new : List Row) → AreSmall rows → AllByRecursion (λ row. IsTrue (is_small row.rec)) new → AreSmall (rows ++ new)
small-append rows new small more = record { each = all_append (λ row. IsTrue (is_small row.rec)) rows new small.each more }
