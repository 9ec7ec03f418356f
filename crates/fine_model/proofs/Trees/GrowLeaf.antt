-- Setting a pair in a leaf, which is split where it is full.
use Rattle.std.proofs.Common.{◌≡◌, ◌≢◌, ◌⊎◌, inl, inr, ℕ, zero, suc, ◌+◌, ◌<◌, ◌≤◌, ◌==◌, nat_lt, Bool, true, false, cond, not, ◌&&◌, ◌||◌, IsTrue, List, [], ◌∷◌, ◌++◌, length, drop, refl, sym, ap, ◌∙◌, subst, true≢false, Some, None, arith, eq-eqb, leb, le-leb, length-append, is_some}
use Rattle.std.specs.Prelude.{Option}
use Rattle.std.specs.List.{AllByRecursion, list_all}
use Rattle.std.proofs.lemmas.Bool.{leb-true, not-true}
use Rattle.std.proofs.lemmas.Bool.Decides.{leb_tells}
use Rattle.fine_model.specs.Types.{Row}
use Rattle.fine_model.specs.Types.rec
use Rattle.fine_model.specs.Types.node
use Rattle.fine_model.specs.Map.{Pair, is_below, is_ascending, pairs_below, pairs_above, get, has, set}
use Rattle.fine_model.specs.Nodes.{Content, leaf, changed, step_node}
use Rattle.fine_model.specs.Trees.{Bounds, is_from, is_above, is_up_to, is_key_within, is_leaf, IsSubtree, bucket_of, nodes_of, pairs_of, pairs_under, reached}
use Rattle.fine_model.specs.Pushed.{Growth, row_of, key_at, split_leaf, grown_leaf, growth}
use Rattle.fine_model.specs.Laws.{is_small}
use Rattle.fine_model.proofs.Ordered.Order.{AllBelow, AllAbove, keys_of, order_cases, is_below-trans, is_below-asym, is_below-self, first_of_both, all_map, set_again, pairs_below-between}
use Rattle.fine_model.proofs.Ordered.Sets.{set-append_left, set-append_right, list_all-from, all_from_list_all}
use Rattle.fine_model.proofs.Ordered.Pairs.{Around, around_key, get_none}
use Rattle.fine_model.proofs.Trees.Joined.{round_other}
use Rattle.fine_model.proofs.Trees.Among.{leaf_pairs}
use Rattle.fine_model.proofs.Trees.LocalChange.{set_is_local}
use Rattle.fine_model.proofs.Trees.Bounded.{below_not}
use Rattle.fine_model.proofs.Trees.Small.{exclusive, apart_pairs}
use Rattle.fine_model.proofs.Ordered.Times.{times, times-same}
use Rattle.fine_model.proofs.Ordered.Zip.{all_left, all_right}
use Rattle.fine_model.proofs.Trees.Grown.{IsGrown, grown_more}
use Rattle.fine_model.proofs.Ordered.Parts.{Parted, parted, key_at-is, front_below, ascending_behind, back_above, all_both}
use Rattle.fine_model.proofs.Trees.PushNodes.{push_here, push_other, TwoChanged, last_left, last_right}
use Rattle.fine_model.proofs.Trees.Grows.{Grows}

-- one pair more at most
pub length-set_le : (pairs : List Pair) (key value : List ℕ) → length (set pairs key value) ≤ length pairs + 1
unfolding set
length-set_le pairs key value =
    let a = length-append (pairs_below key pairs) ((key, value) ∷ pairs_above key pairs) in
    let e = exclusive (λ q. is_below q.0 key) (λ q. is_below key q.0) pairs (apart_pairs key) in omega (arith, a, e)

-- and none where the key is there
pub length-set_there : (pairs : List Pair) (key value : List ℕ) → is_ascending (keys_of pairs) ≡ true → has pairs key ≡ true → length (set pairs key value) ≤ length pairs
length-set_there pairs key value up there = by (around_key key pairs up)
  where
    by : Around key pairs → length (set pairs key value) ≤ length pairs
    by a = of a.is
      where
        of : (pairs ≡ a.front ++ a.back) ⊎ ((old : List ℕ) × (pairs ≡ a.front ++ (key, old) ∷ a.back)) → length (set pairs key value) ≤ length pairs
        of (inl e) = absurd (true≢false (sym there ∙ ap (λ xs. is_some (get xs key)) e ∙ ap is_some (get_none key (a.front ++ a.back) (round_other key a.front a.back a.below a.above))))
        of (inr e) =
            let s : set pairs key value ≡ a.front ++ (key, value) ∷ a.back = ap (λ xs. set xs key value) e.1 ∙ set_again key a.front a.back a.below a.above e.0 value in
            let l = ap length s in let m = ap length e.1 in let c = length-append a.front ((key, value) ∷ a.back) in let d = length-append a.front ((key, e.0) ∷ a.back) in omega (arith, l, m, c, d)

-- a leaf that takes the pair
pub fits_leaf : (pairs : List Pair) → length pairs ≤ 32 → leaf pairs ≡ node.Leaf pairs
fits_leaf pairs h = ap (λ b. cond b (node.Leaf pairs) node.Broken) (le-leb (length pairs) 32 h)

-- a row at the next version
put_step : (c : Content) (pairs : List Pair) (key value : List ℕ) (n : ℕ) → n ≡ c.1 + 1 → c.0 ≡ node.Leaf pairs → length (set pairs key value) ≤ 32 → step_node c n (rec.Put key value) ≡ node.Leaf (set pairs key value)
unfolding changed
put_step c pairs key value n e is h =
    ap (λ b. cond b (changed c.0 (rec.Put key value)) node.Broken) (eq-eqb n (c.1 + 1) e) ∙ ap (λ m. changed m (rec.Put key value)) is ∙ fits_leaf (set pairs key value) h

cut_step : (c : Content) (pairs : List Pair) (sep : List ℕ) → c.0 ≡ node.Leaf pairs → step_node c (c.1 + 1) (rec.CutLeaf sep) ≡ node.Leaf (pairs_below sep pairs)
unfolding changed
cut_step c pairs sep is = ap (λ b. cond b (changed c.0 (rec.CutLeaf sep)) node.Broken) (eq-eqb (c.1 + 1) (c.1 + 1) refl) ∙ ap (λ m. changed m (rec.CutLeaf sep)) is

-- a key within bounds, part by part
pub within_parts : (bucket : ℕ) (bounds : Bounds) (key : List ℕ) → is_key_within bucket bounds key ≡ true → (is_from bounds.low key ≡ true) × (is_up_to bounds.high key ≡ true) × ((bucket_of key == bucket) ≡ true)
within_parts bucket bounds key h =
    let a = first_of_both (is_from bounds.low key) _ h in let b = first_of_both (is_up_to bounds.high key) _ a.1 in (a.0, b.0, b.1)

pub within_is : (bucket : ℕ) (bounds : Bounds) (key : List ℕ) → is_from bounds.low key ≡ true → is_up_to bounds.high key ≡ true → (bucket_of key == bucket) ≡ true → is_key_within bucket bounds key ≡ true
within_is bucket bounds key a b c = ap (λ x. x && (is_up_to bounds.high key && (bucket_of key == bucket))) a ∙ ap (λ x. x && (bucket_of key == bucket)) b ∙ c

pub low_before : (low a b : List ℕ) → is_below a low ≡ false → is_below a b ≡ true → is_below low b ≡ true
low_before low a b from below = by (order_cases low a)
  where
    by : ((is_below low a ≡ true) × (is_below a low ≡ false)) ⊎ (low ≡ a) ⊎ ((is_below a low ≡ true) × (is_below low a ≡ false)) → is_below low b ≡ true
    by (inl h) = is_below-trans low a b h.0 below
    by (inr (inl e)) = ap (λ k. is_below k b) e ∙ below
    by (inr (inr h)) = absurd (true≢false (sym h.0 ∙ from))

pub above_from : (low : Option (List ℕ)) (a b : List ℕ) → is_from low a ≡ true → is_below a b ≡ true → is_above low b ≡ true
above_from None a b h l = refl
above_from (Some low) a b h l = low_before low a b (not-true (is_below a low) h) l

abbrev AllWithin : ℕ → Bounds → List Pair → Type 0
AllWithin bucket bounds pairs = AllByRecursion (λ p. is_key_within bucket bounds p.0 ≡ true) pairs

leaf_of : (bucket : ℕ) (bounds : Bounds) (pairs : List Pair) → is_ascending (keys_of pairs) ≡ true → AllWithin bucket bounds pairs → is_leaf bucket bounds (node.Leaf pairs) ≡ true
leaf_of bucket bounds pairs up all =
    ap (λ b. b && list_all (λ p. is_key_within bucket bounds p.0) pairs) up ∙ list_all-from (λ p. is_key_within bucket bounds p.0) pairs all

ascending_front : (front back : List Pair) → is_ascending (keys_of (front ++ back)) ≡ true → is_ascending (keys_of front) ≡ true
ascending_front [] back up = refl
ascending_front (x ∷ []) back up = refl
ascending_front (x ∷ x' ∷ front) back up =
    let b = first_of_both (is_below x.0 x'.0) (is_ascending (keys_of (x' ∷ (front ++ back)))) up in ap (λ c. c && is_ascending (keys_of (x' ∷ front))) b.0 ∙ ascending_front (x' ∷ front) back b.1

grown_same : (lo : ℕ) (xs : List ℕ) → IsGrown lo lo xs xs
grown_same lo xs = record { ordered = omega arith; low = λ n h. omega arith; high = λ n h. omega arith; each = λ n. omega arith }

swapped : (n a b : ℕ) → times n (a ∷ b ∷ []) ≡ times n (b ∷ a ∷ [])
unfolding times
swapped n a b = omega arith

not_one : (n number : ℕ) → times n (number ∷ []) ≡ 0 → n ≢ number
not_one n number none e = let s = times-same number [] in let z : times number (number ∷ []) ≡ 0 = subst (λ k. times k (number ∷ []) ≡ 0) e none in absurd (omega (arith, s, z))

module _ (rows : List Row) (bucket : ℕ) (key value : List ℕ) (next : ℕ) (bounds : Bounds) (number : ℕ)
    (leafy : is_leaf bucket bounds (nodes_of rows bucket number).0 ≡ true) (within : is_key_within bucket bounds key ≡ true) (low : number < next)
    (small : length (pairs_of (nodes_of rows bucket number).0) ≤ 32) where
  abbrev old : ℕ → Content
  old = nodes_of rows bucket

  abbrev pairs : List Pair
  pairs = pairs_of (old number).0

  abbrev version : ℕ
  version = (old number).1

  is : (old number).0 ≡ node.Leaf pairs
  is = leaf_pairs bucket old key number bounds (old number).0 leafy

  good : is_leaf bucket bounds (node.Leaf pairs) ≡ true
  good = subst (λ n. is_leaf bucket bounds n ≡ true) is leafy

  up : is_ascending (keys_of pairs) ≡ true
  up = (first_of_both (is_ascending (keys_of pairs)) _ good).0

  all : AllWithin bucket bounds pairs
  all = all_from_list_all (λ p. is_key_within bucket bounds p.0) pairs (first_of_both (is_ascending (keys_of pairs)) _ good).1

  one_row : length (set pairs key value) ≤ 32 → Grows rows bucket key value next zero bounds number (record { rows = row_of bucket number (version + 1) (rec.Put key value) ∷ []; next = next; split = None })
  unfolding IsSubtree pairs_under reached
  one_row room = record {
    grown = record {
      outcome = record {
        subtree = subst (λ n. is_leaf bucket bounds n ≡ true) (sym changed_to) (let l = set_is_local bucket key value in l.keeps bounds pairs good within);
        pairs = ap pairs_of changed_to;
        numbers = grown_same next (number ∷ []);
      };
      others = λ n none where_. push_other bucket rows number (version + 1) (rec.Put key value) n (not_one n number none);
    };
    ordered = omega arith;
    of_bucket = (refl, tt);
    small = (refl, tt);
  }
    where
      changed_to : (nodes_of (rows ++ row_of bucket number (version + 1) (rec.Put key value) ∷ []) bucket number).0 ≡ node.Leaf (set pairs key value)
      changed_to = ap (λ c. c.0) (push_here bucket rows number (version + 1) (rec.Put key value)) ∙ put_step (old number) pairs key value (version + 1) refl is room

  module _ (full : 32 ≤ length pairs) where
    abbrev cut : Parted 16 pairs
    cut = parted 16 pairs (omega (arith, full))

    abbrev sep : List ℕ
    sep = cut.item.0

    abbrev right_pairs : List Pair
    right_pairs = cut.item ∷ cut.back

    up_both : is_ascending (keys_of (cut.front ++ right_pairs)) ≡ true
    up_both = subst (λ xs. is_ascending (keys_of xs) ≡ true) cut.is up

    left_low : AllBelow sep cut.front
    left_low = front_below cut.front cut.item cut.back up_both

    right_high : AllAbove sep cut.back
    right_high = back_above cut.front cut.item cut.back up_both

    all_cut : AllWithin bucket bounds (cut.front ++ right_pairs)
    all_cut = subst (AllWithin bucket bounds) cut.is all

    all_front : AllWithin bucket bounds cut.front
    all_front = all_left (λ p. is_key_within bucket bounds p.0 ≡ true) cut.front right_pairs all_cut

    all_back : AllWithin bucket bounds right_pairs
    all_back = all_right (λ p. is_key_within bucket bounds p.0 ≡ true) cut.front right_pairs all_cut

    left_bounds : Bounds
    left_bounds = record { low = bounds.low; high = Some sep }

    right_bounds : Bounds
    right_bounds = record { low = Some sep; high = bounds.high }

    up_front : is_ascending (keys_of cut.front) ≡ true
    up_front = ascending_front cut.front right_pairs up_both

    good_left : is_leaf bucket left_bounds (node.Leaf cut.front) ≡ true
    unfolding left_bounds
    good_left = leaf_of bucket left_bounds cut.front up_front
        (all_both (λ p. is_key_within bucket bounds p.0 ≡ true) (λ p. is_below p.0 sep ≡ true) (λ p. is_key_within bucket left_bounds p.0 ≡ true)
        (λ p h l. let w = within_parts bucket bounds p.0 h in within_is bucket left_bounds p.0 w.0 l w.2) cut.front all_front left_low)

    good_right : is_leaf bucket right_bounds (node.Leaf right_pairs) ≡ true
    unfolding right_bounds
    good_right = leaf_of bucket right_bounds right_pairs (ascending_behind cut.front cut.item cut.back up_both)
        (all_both (λ p. is_key_within bucket bounds p.0 ≡ true) (λ p. is_below p.0 sep ≡ false) (λ p. is_key_within bucket right_bounds p.0 ≡ true)
        (λ p h l. let w = within_parts bucket bounds p.0 h in within_is bucket right_bounds p.0 (ap not l) w.1 w.2) right_pairs all_back
        (is_below-self sep, all_map (λ p. is_below sep p.0 ≡ true) (λ p. is_below p.0 sep ≡ false) (λ p h. is_below-asym sep p.0 h) cut.back right_high))

    sep_above : is_above bounds.low sep ≡ true
    sep_above = by cut.front cut.many all_front left_low
      where
        by : (front : List Pair) → length front ≡ 16 → AllWithin bucket bounds front → AllBelow sep front → is_above bounds.low sep ≡ true
        by [] many in_bounds below = absurd (omega (arith, many))
        by (x ∷ xs) many in_bounds below = let w = within_parts bucket bounds x.0 in_bounds.0 in above_from bounds.low x.0 sep w.0 below.0

    sep_below : is_up_to bounds.high sep ≡ true
    sep_below = let w = within_parts bucket bounds sep all_back.0 in w.1

    apart : number ≢ next
    apart e = absurd (omega (arith, low, e))

    cut_is : step_node (old number) (version + 1) (rec.CutLeaf sep) ≡ node.Leaf cut.front
    cut_is =
        cut_step (old number) pairs sep is
        ∙ ap node.Leaf (ap (pairs_below sep) cut.is ∙ pairs_below-between sep cut.front cut.back left_low right_high (cut.item ∷ []) (is_below-self sep, tt))

    many_right : length right_pairs ≤ 16
    many_right = let a = ap length cut.is in let b = length-append cut.front right_pairs in let m = cut.many in omega (arith, a, b, m, small)

    numbers : IsGrown next (next + 1) (number ∷ []) (number ∷ next ∷ [])
    numbers = grown_more next next (number ∷ []) (number ∷ []) (number ∷ next ∷ []) (grown_same next (number ∷ [])) (λ n. swapped n number next)

    others_apart : (n : ℕ) → (n < next) ⊎ (next + 1 ≤ n) → n ≢ next
    others_apart n (inl h) e = absurd (omega (arith, h, e))
    others_apart n (inr h) e = absurd (omega (arith, h, e))

    small_rows : (last : Row) → is_small last.rec ≡ true → AllByRecursion (λ row. IsTrue (is_small row.rec)) (row_of bucket next 1 (rec.LeafImage (drop 16 pairs)) ∷ row_of bucket number (version + 1) (rec.CutLeaf sep) ∷ last ∷ [])
    small_rows last is_last = (le-leb (length (drop 16 pairs)) 32 (let d = ap length cut.dropped in omega (arith, d, many_right)), (refl, (is_last, tt)))

    -- the three rows of a split leave two leaves, which have the pairs with the new one
    abbrev image : Row
    image = row_of bucket next 1 (rec.LeafImage (drop 16 pairs))

    abbrev cut_row : Row
    cut_row = row_of bucket number (version + 1) (rec.CutLeaf sep)

    split_grows : (last : Row) → last.node.bucket ≡ bucket → is_small last.rec ≡ true → (left right : List Pair) → TwoChanged bucket old (nodes_of (rows ++ image ∷ cut_row ∷ last ∷ []) bucket) number next (node.Leaf left) (node.Leaf right)
        → is_leaf bucket left_bounds (node.Leaf left) ≡ true → is_leaf bucket right_bounds (node.Leaf right) ≡ true → left ++ right ≡ set pairs key value
        → Grows rows bucket key value next zero bounds number (record { rows = image ∷ cut_row ∷ last ∷ []; next = next + 1; split = Some (sep, next) })
    unfolding IsSubtree pairs_under reached left_bounds right_bounds
    split_grows last of_bucket is_last left right two left_good right_good whole = record {
      grown = record {
        outcome = record {
          left_tree = subst (λ n. is_leaf bucket left_bounds n ≡ true) (sym two.here) left_good;
          right_tree = subst (λ n. is_leaf bucket right_bounds n ≡ true) (sym two.there) right_good;
          above = sep_above;
          below = sep_below;
          pairs = ap (λ n. pairs_of n ++ pairs_of (nodes_of (rows ++ image ∷ cut_row ∷ last ∷ []) bucket next).0) two.here ∙ ap (λ n. left ++ pairs_of n) two.there ∙ whole;
          numbers = numbers;
        };
        others = λ n none where_. two.others n (not_one n number none) (others_apart n where_);
      };
      ordered = omega arith;
      of_bucket = (refl, (refl, (of_bucket, tt)));
      small = small_rows last is_last;
    }

    -- the pair goes to the left half
    split_left : is_below key sep ≡ true → Grows rows bucket key value next zero bounds number (record { rows = image ∷ cut_row ∷ row_of bucket number (version + 2) (rec.Put key value) ∷ []; next = next + 1; split = Some (sep, next) })
    unfolding left_bounds
    split_left below =
        split_grows (row_of bucket number (version + 2) (rec.Put key value)) refl refl (set cut.front key value) right_pairs
        (last_left bucket rows number next apart (rec.LeafImage (drop 16 pairs)) (rec.CutLeaf sep) (rec.Put key value) (node.Leaf right_pairs) (node.Leaf cut.front) (λ c. ap node.Leaf cut.dropped) cut_is
        (node.Leaf (set cut.front key value))
        (put_step (node.Leaf cut.front, version + 1) cut.front key value (version + 2) (omega arith) refl (let s = length-set_le cut.front key value in let m = cut.many in omega (arith, s, m))))
        (let l = set_is_local bucket key value in let w = within_parts bucket bounds key within in l.keeps left_bounds cut.front good_left (within_is bucket left_bounds key w.0 below w.2))
        good_right
        (sym (ap (λ xs. set xs key value) cut.is ∙ set-append_left cut.front right_pairs key value (below, all_map (λ p. is_below sep p.0 ≡ true) (λ p. is_below key p.0 ≡ true) (λ p h. is_below-trans key sep p.0 below h) cut.back right_high)))

    -- or to the right one
    split_right : is_below key sep ≡ false → Grows rows bucket key value next zero bounds number (record { rows = image ∷ cut_row ∷ row_of bucket next 2 (rec.Put key value) ∷ []; next = next + 1; split = Some (sep, next) })
    unfolding right_bounds
    split_right from =
        split_grows (row_of bucket next 2 (rec.Put key value)) refl refl cut.front (set right_pairs key value)
        (last_right bucket rows number next apart (rec.LeafImage (drop 16 pairs)) (rec.CutLeaf sep) (rec.Put key value) (node.Leaf right_pairs) (node.Leaf cut.front) (λ c. ap node.Leaf cut.dropped) cut_is
        (node.Leaf (set right_pairs key value))
        (put_step (node.Leaf right_pairs, 1) right_pairs key value 2 (omega arith) refl (let s = length-set_le right_pairs key value in omega (arith, s, many_right))))
        good_left
        (let l = set_is_local bucket key value in let w = within_parts bucket bounds key within in l.keeps right_bounds right_pairs good_right (within_is bucket right_bounds key (ap not from) w.1 w.2))
        (sym (ap (λ xs. set xs key value) cut.is ∙ set-append_right cut.front right_pairs key value (all_map (λ p. is_below p.0 sep ≡ true) (λ p. is_below p.0 key ≡ true) (λ p h. below_not p.0 sep key h from) cut.front left_low)))

    split_row : Grows rows bucket key value next zero bounds number (split_leaf bucket number version next (key, value) pairs (key_at pairs 16))
    unfolding split_leaf
    split_row = subst (λ s. Grows rows bucket key value next zero bounds number (split_leaf bucket number version next (key, value) pairs s)) (sym (key_at-is pairs 16 cut.item cut.at)) (by (is_below key sep) refl)
      where
        by : (b : Bool) → is_below key sep ≡ b → Grows rows bucket key value next zero bounds number (record {
          rows = row_of bucket next 1 (rec.LeafImage (drop 16 pairs)) ∷ row_of bucket number (version + 1) (rec.CutLeaf sep)
              ∷ (cond b (row_of bucket number (version + 2) (rec.Put key value)) (row_of bucket next 2 (rec.Put key value))) ∷ [];
          next = next + 1;
          split = Some (sep, next);
        })
        by true h = split_left h
        by false h = split_right h

  -- setting a pair in a leaf
  pub leaf_grows : Grows rows bucket key value next zero bounds number (growth zero bucket old next (key, value) number)
  unfolding growth grown_leaf
  leaf_grows = by (has pairs key) (nat_lt (length pairs) 32) refl refl
    where
      by : (b c : Bool) → has pairs key ≡ b → nat_lt (length pairs) 32 ≡ c
          → Grows rows bucket key value next zero bounds number (cond {A = Growth} (b || c) (record { rows = row_of bucket number (version + 1) (rec.Put key value) ∷ []; next = next; split = None }) (split_leaf bucket number version next (key, value) pairs (key_at pairs 16)))
      by true c e f = one_row (let l = length-set_there pairs key value up e in omega (arith, l, small))
      by false true e f = one_row (let l = length-set_le pairs key value in let s = leb-true (suc (length pairs)) 32 f in omega (arith, l, s))
      by false false e f = split_row (of (leb_tells (suc (length pairs)) 32))
        where
          of : ((leb (suc (length pairs)) 32 ≡ true) × (suc (length pairs) ≤ 32)) ⊎ ((leb (suc (length pairs)) 32 ≡ false) × (32 < suc (length pairs))) → 32 ≤ length pairs
          of (inl h) = absurd (true≢false (sym h.0 ∙ f))
          of (inr h) = let l = h.1 in omega (arith, l)
