-- Setting a pair below an inner node, which takes what its child was split from, and is split where it is full.
use Rattle.std.proofs.Common.{◌≡◌, ◌≢◌, ◌⊎◌, inl, inr, ℕ, suc, ◌+◌, ◌<◌, ◌≤◌, ◌==◌, nat_le, nat_lt, Bool, true, false, cond, not, ◌&&◌, IsTrue, List, [], ◌∷◌, ◌++◌, length, take, drop, slice_get, slice_index, get_or, refl, sym, ap, ◌∙◌, subst, true≢false, Some, None, arith, eq-eqb, leb, le-leb, length-append, append-nil, append_assoc, length-take}
use Rattle.std.specs.Prelude.{flat_map, filter, Option, unwrap_or}
use Rattle.std.specs.List.{AllByRecursion, list_all}
use Rattle.std.proofs.lemmas.Bool.{leb-true}
use Rattle.std.proofs.lemmas.Bool.Decides.{leb_tells}
use Rattle.std.proofs.lemmas.Grind.{flat_map-append}
use Rattle.std.proofs.lemmas.List.{take-append-drop, get_or_append_left, get_or-append-add}
use Rattle.std.proofs.lemmas.List.Elements.{filter-append}
use Rattle.fine_model.specs.Types.{Row, Node}
use Rattle.fine_model.specs.Types.rec
use Rattle.fine_model.specs.Types.node
use Rattle.fine_model.specs.Map.{is_below, is_ascending, set}
use Rattle.fine_model.specs.Nodes.{Content, keys_below, linked, changed, step_node}
use Rattle.fine_model.specs.Trees.{Bounds, AllBetween, is_above, is_up_to, is_key_within, are_separators, IsInner, IsSubtree, kids_of, bucket_of, nodes_of, pairs_under, reached}
use Rattle.fine_model.specs.Pushed.{Growth, row_of, split_inner, grown_inner, growth}
use Rattle.fine_model.specs.Laws.{is_small}
use Rattle.fine_model.proofs.Ordered.Order.{AllBelow, AllAbove, is_below-asym, is_below-self, first_of_both, all_map, filter_all, filter_none}
use Rattle.fine_model.proofs.Ordered.Sets.{set-append_left, set-append_right, list_all-from, all_from_list_all, all_append}
use Rattle.fine_model.proofs.Trees.Bounded.{AllUpTo, below_not, kids_up_to, subtree_up_to}
use Rattle.fine_model.proofs.Trees.Among.{none_up_to, tail_ascends, all_above_first, kids_behind}
use Rattle.fine_model.proofs.Trees.Small.{length-filter_le}
use Rattle.fine_model.proofs.Ordered.Times.{times, times-append, times-same, times-tail}
use Rattle.fine_model.proofs.Trees.Frame.{Stay, under_stays, SameKids, between_stays}
use Rattle.fine_model.proofs.Ordered.Zip.{first_or, Zip, zip, place, ascending_left, ascending_right, all_left, all_right, Cut, cut}
use Rattle.fine_model.proofs.Trees.Grown.{IsGrown, grown_between, grown_more, GrownWhole, GrownSplit, kids_whole, KidsSplit, kids_split}
use Rattle.fine_model.proofs.Ordered.Parts.{Parted, parted, keys_front, all_both}
use Rattle.fine_model.proofs.Trees.PushNodes.{push_here, push_other, TwoChanged, last_left, last_right}
use Rattle.fine_model.proofs.Trees.Grows.{GrownAs, GrowsIn, Grows}
use Rattle.fine_model.proofs.Trees.GrowLeaf.{within_parts, within_is}

pub grown_before : (lo hi : ℕ) (xs olds news : List ℕ) → IsGrown lo hi olds news → IsGrown lo hi (xs ++ olds) (xs ++ news)
grown_before lo hi xs olds news g =
    subst (λ ys. IsGrown lo hi (xs ++ olds) (xs ++ ys)) (append-nil news) (subst (λ ys. IsGrown lo hi (xs ++ ys) (xs ++ (news ++ []))) (append-nil olds) (grown_between lo hi xs olds news [] g))

moved : (n a x : ℕ) (xs xs' ys ys' : List ℕ) → xs' ≡ xs → ys' ≡ ys → times n ((a ∷ xs') ++ (x ∷ ys')) ≡ times n (x ∷ (a ∷ (xs ++ ys)))
unfolding times
moved n a x xs xs' ys ys' e f =
    let p = ap (times n) e in let q = ap (times n) f in
    let s = times-append n xs' (x ∷ ys') in let t = times-append n xs ys in omega (arith, p, q, s, t)

link_step : (c : Content) (seps : List (List ℕ)) (kids : List ℕ) (sep : List ℕ) (right n : ℕ) → n ≡ c.1 + 1 → c.0 ≡ node.Inner seps kids → step_node c n (rec.Link sep right) ≡ linked seps kids sep right
unfolding changed
link_step c seps kids sep right n e is =
    ap (λ b. cond b (changed c.0 (rec.Link sep right)) node.Broken) (eq-eqb n (c.1 + 1) e) ∙ ap (λ m. changed m (rec.Link sep right)) is

cut_step : (c : Content) (seps : List (List ℕ)) (kids : List ℕ) (middle : List ℕ) → c.0 ≡ node.Inner seps kids
    → step_node c (c.1 + 1) (rec.CutInner middle) ≡ node.Inner (keys_below middle seps) (take (length (keys_below middle seps) + 1) kids)
unfolding changed
cut_step c seps kids middle is =
    ap (λ b. cond b (changed c.0 (rec.CutInner middle)) node.Broken) (eq-eqb (c.1 + 1) (c.1 + 1) refl) ∙ ap (λ m. changed m (rec.CutInner middle)) is

pub between_many : (P : Bounds → ℕ → Type 0) (bounds : Bounds) (seps : List (List ℕ)) (kids : List ℕ) → AllBetween P bounds seps kids → length kids ≡ length seps + 1
unfolding AllBetween
between_many P bounds [] [] all = absurd all
between_many P bounds [] (k ∷ []) all = refl
between_many P bounds [] (k ∷ k' ∷ kids) all = absurd all
between_many P bounds (s ∷ seps) [] all = absurd all
between_many P bounds (s ∷ seps) (k ∷ kids) all = let r = between_many P _ seps kids all.1 in omega (arith, r)

-- the pairs of children below a separator
kids_under : (bucket : ℕ) (nodes : ℕ → Content) (height : ℕ) (bounds : Bounds) (high : List ℕ) (seps : List (List ℕ)) (kids : List ℕ) → bounds.high ≡ Some high → AllByRecursion (λ s. is_below s high ≡ true) seps
    → AllBetween (IsSubtree height bucket nodes) bounds seps kids → AllUpTo high (flat_map (pairs_under height nodes) kids)
kids_under bucket nodes height bounds high seps kids is below all =
    kids_up_to (IsSubtree height bucket nodes) (pairs_under height nodes) high (λ b t k. subtree_up_to height bucket nodes b t k) bounds seps kids is below all

-- numbers that are there once, and lie below next
pub record AreOnce (next : ℕ) (ns : List ℕ) : Type 0 where
  pub once : (n : ℕ) → times n ns ≤ 1
  pub below : (n : ℕ) → next ≤ n → times n ns ≡ 0

pub once_part : (next : ℕ) (xs ys : List ℕ) → ((n : ℕ) → times n xs ≤ times n ys) → AreOnce next ys → AreOnce next xs
once_part next xs ys part o = record {
  once = λ n. let a = part n in let b = o.once n in omega (arith, a, b);
  below = λ n h. let a = part n in let b = o.below n h in omega (arith, a, b);
}

module _ (rows : List Row) (bucket : ℕ) (key value : List ℕ) (next : ℕ) (of_bucket : (bucket_of key == bucket) ≡ true) where
  abbrev old : ℕ → Content
  old = nodes_of rows bucket

  -- what setting a pair pushes below the nodes of a height
  abbrev pub EachGrows : ℕ → Type 0
  EachGrows height = (bounds : Bounds) (number : ℕ) → IsSubtree height bucket old bounds number → is_key_within bucket bounds key ≡ true → AreOnce next (reached height old number)
      → Grows rows bucket key value next height bounds number (growth height bucket old next (key, value) number)

  module _ (height : ℕ) (each : EachGrows height) (bounds : Bounds) (number : ℕ) (seps : List (List ℕ)) (kids : List ℕ) (is : (old number).0 ≡ node.Inner seps kids)
      (good : are_separators bounds seps ≡ true) (all : AllBetween (IsSubtree height bucket old) bounds seps kids) (within : is_key_within bucket bounds key ≡ true)
      (few : length seps ≤ 32) (once : AreOnce next (number ∷ flat_map (reached height old) kids)) where
    abbrev f : ℕ → List ℕ
    f = reached height old

    abbrev pub child : ℕ
    child = slice_index kids (place height bucket old key seps)

    abbrev pub b : Growth
    b = growth height bucket old next (key, value) child

    abbrev pub mid : ℕ → Content
    mid = nodes_of (rows ++ b.rows) bucket

    abbrev version : ℕ
    version = (old number).1

    pub z : Zip height bucket old key bounds seps kids
    z = let w = within_parts bucket bounds key within in zip height bucket old key bounds seps kids good all w.0 w.1

    abbrev pub z_bounds : Bounds
    z_bounds = record { low = z.here; high = first_or z.s2 bounds.high }

    sums : (ks k1 k2 : List ℕ) (kid : ℕ) → ks ≡ k1 ++ kid ∷ k2 → (n : ℕ) → times n (flat_map f ks) ≡ times n (flat_map f k1) + (times n (f kid) + times n (flat_map f k2))
    sums ks k1 k2 kid e n =
        ap (λ xs. times n (flat_map f xs)) e ∙ ap (times n) (flat_map-append f k1 (kid ∷ k2))
        ∙ times-append n (flat_map f k1) (f kid ++ flat_map f k2) ∙ ap (λ t. times n (flat_map f k1) + t) (times-append n (f kid) (flat_map f k2))

    child_part : (n : ℕ) → times n (f child) ≤ times n (flat_map f kids)
    child_part n = let s = sums kids z.k1 z.k2 z.kid z.kids_are n in let e = ap (λ k. times n (f k)) z.goes in omega (arith, s, e)

    pub once_child : AreOnce next (f child)
    once_child = once_part next (f child) (number ∷ flat_map f kids) (λ n. let a = child_part n in let t = times-tail n number (flat_map f kids) in omega (arith, a, t)) once

    pub z_within : is_key_within bucket z_bounds key ≡ true
    z_within = within_is bucket z_bounds key z.from z.up_to of_bucket

    abbrev Below : Bounds → Type 0
    Below bounds' = Grows rows bucket key value next height bounds' child b

    below_in : (bounds' : Bounds) → IsSubtree height bucket old bounds' child → is_key_within bucket bounds' key ≡ true → Below bounds'
    below_in bounds' subtree in_bounds = each bounds' child subtree in_bounds once_child

    pub z_child : IsSubtree height bucket old z_bounds child
    z_child = subst (IsSubtree height bucket old z_bounds) (sym z.goes) z.child

    pub g : Below z_bounds
    g = below_in z_bounds z_child z_within

    number_out : times number (flat_map f kids) ≡ 0
    number_out = let o = once.once number in let s = times-same number (flat_map f kids) in omega (arith, o, s)

    pub number_low : number < next
    number_low = by (leb_tells next number)
      where
        by : ((leb next number ≡ true) × (next ≤ number)) ⊎ ((leb next number ≡ false) × (number < next)) → number < next
        by (inl h) = let o = once.below number h.1 in let s = times-same number (flat_map f kids) in absurd (omega (arith, o, s))
        by (inr h) = h.1

    is_low : (n : ℕ) → 1 ≤ times n (flat_map f kids) → n < next
    is_low n here = by (leb_tells next n)
      where
        by : ((leb next n ≡ true) × (next ≤ n)) ⊎ ((leb next n ≡ false) × (n < next)) → n < next
        by (inl h) = let o = once.below n h.1 in let t = times-tail n number (flat_map f kids) in absurd (omega (arith, o, t, here))
        by (inr h) = h.1

    not_number : (n : ℕ) → 1 ≤ times n (flat_map f kids) → n ≢ number
    not_number n here e = let o = number_out in let s = ap (λ k. times k (flat_map f kids)) e in absurd (omega (arith, here, o, s))

    pub mid_number : mid number ≡ old number
    mid_number = let c = child_part number in let o = number_out in let gr = g.grown in gr.others number (omega (arith, c, o)) (inl number_low)

    -- nodes of the other children stay
    abbrev Apart : List ℕ → Type 0
    Apart xs = (n : ℕ) → 1 ≤ times n xs → (1 ≤ times n (flat_map f kids)) × (times n (f child) ≡ 0)

    stays : (new : ℕ → Content) → ((n : ℕ) → n ≢ number → n < next → new n ≡ mid n) → (xs : List ℕ) → Apart xs → Stay bucket old new xs
    stays new agree xs apart n here =
        let a = apart n here in let gr = g.grown in
        agree n (not_number n a.0) (is_low n a.0) ∙ gr.others n a.1 (inl (is_low n a.0))

    total : (n : ℕ) → times n (flat_map f kids) ≤ 1
    total n = let o = once.once n in let t = times-tail n number (flat_map f kids) in omega (arith, o, t)

    module _ (ks : List ℕ) (part : (n : ℕ) → times n (flat_map f ks) ≤ times n (flat_map f kids)) (bb : Bounds) (ss : List (List ℕ)) (zz : Zip height bucket old key bb ss ks) (goes : child ≡ zz.kid) where
      apart_before : Apart (flat_map f zz.k1)
      apart_before n here =
          let s = sums ks zz.k1 zz.k2 zz.kid zz.kids_are n in let p = part n in let t = total n in let e = ap (λ k. times n (f k)) goes in
          (omega (arith, s, p, here), omega (arith, s, p, t, e, here))

      apart_behind : Apart (flat_map f zz.k2)
      apart_behind n here =
          let s = sums ks zz.k1 zz.k2 zz.kid zz.kids_are n in let p = part n in let t = total n in let e = ap (λ k. times n (f k)) goes in
          (omega (arith, s, p, here), omega (arith, s, p, t, e, here))

    -- what was split below stays while this node and a new one are written
    split_stays : (new : ℕ → Content) → ((n : ℕ) → n ≢ number → n ≢ b.next → new n ≡ mid n) → (bounds' : Bounds) (sep : List ℕ) (right : ℕ)
        → GrownSplit bucket old mid key value next b.next height bounds' child sep right → GrownSplit bucket old new key value next b.next height bounds' child sep right
    split_stays new agree bounds' sep right w =
        let l = under_stays bucket mid new height (record { low = bounds'.low; high = Some sep }) child w.left_tree (λ n here. stay n (let a = times-append n (reached height mid child) (reached height mid right) in omega (arith, a, here))) in
        let r = under_stays bucket mid new height (record { low = Some sep; high = bounds'.high }) right w.right_tree (λ n here. stay n (let a = times-append n (reached height mid child) (reached height mid right) in omega (arith, a, here))) in
        record {
          left_tree = l.subtree;
          right_tree = r.subtree;
          above = w.above;
          below = w.below;
          pairs = ap (λ xs. xs ++ pairs_under height new right) l.same_pairs ∙ ap (λ xs. pairs_under height mid child ++ xs) r.same_pairs ∙ w.pairs;
          numbers = subst (IsGrown next b.next (f child)) (sym (ap (λ xs. xs ++ reached height new right) l.same_reached ∙ ap (λ xs. reached height mid child ++ xs) r.same_reached)) w.numbers;
        }
      where
        stay : (n : ℕ) → 1 ≤ times n (reached height mid child ++ reached height mid right) → new n ≡ mid n
        stay n here = agree n
            (λ e. let gn = w.numbers in let l = gn.low number number_low in let c = child_part number in let o = number_out in
            let s = ap (λ k. times k (reached height mid child ++ reached height mid right)) e in absurd (omega (arith, here, l, c, o, s)))
            (λ e. let gn = w.numbers in let h = gn.high b.next (omega arith) in let o = once_child.below b.next gn.ordered in
            let s = ap (λ k. times k (reached height mid child ++ reached height mid right)) e in absurd (omega (arith, here, h, o, s)))

    -- this node with the pair set below it
    node_whole : (new : ℕ → Content) (hi : ℕ) (seps' : List (List ℕ)) (kids' : List ℕ) → (new number).0 ≡ node.Inner seps' kids' → are_separators bounds seps' ≡ true → AllBetween (IsSubtree height bucket new) bounds seps' kids'
        → flat_map (pairs_under height new) kids' ≡ set (flat_map (pairs_under height old) kids) key value → IsGrown next hi (flat_map f kids) (flat_map (reached height new) kids')
        → GrownWhole bucket old new key value next hi (suc height) bounds number
    unfolding IsSubtree pairs_under reached
    node_whole new hi seps' kids' e separators between pairs numbers = record {
      subtree = subst (IsInner (IsSubtree height bucket new) bounds) (sym e) (separators, between);
      pairs = ap (λ n. flat_map (pairs_under height new) (kids_of n)) e ∙ pairs ∙ sym (ap (λ n. set (flat_map (pairs_under height old) (kids_of n)) key value) is);
      numbers =
          subst (λ n. IsGrown next hi (number ∷ flat_map f (kids_of n)) (number ∷ flat_map (reached height new) (kids_of (new number).0))) (sym is)
          (subst (λ n. IsGrown next hi (number ∷ flat_map f kids) (number ∷ flat_map (reached height new) (kids_of n))) (sym e) (grown_before next hi (number ∷ []) (flat_map f kids) (flat_map (reached height new) kids') numbers));
    }

    outside : (n : ℕ) → times n (reached (suc height) old number) ≡ 0 → (n ≢ number) × (times n (f child) ≡ 0)
    unfolding reached
    outside n none =
        let e : times n (number ∷ flat_map f kids) ≡ 0 = subst (λ m. times n (number ∷ flat_map f (kids_of m)) ≡ 0) is none in (
          (λ same. let s = times-same number (flat_map f kids) in let h = ap (λ k. times k (number ∷ flat_map f kids)) same in absurd (omega (arith, e, s, h))),
          (let t = times-tail n number (flat_map f kids) in let c = child_part n in omega (arith, e, t, c)),
        )

    -- the child is alone
    whole_grows : GrownWhole bucket old mid key value next b.next height z_bounds child → Grows rows bucket key value next (suc height) bounds number (record { rows = b.rows; next = b.next; split = None })
    whole_grows w =
        let k = kids_whole bucket old mid key value next b.next height bounds seps kids good z
        (stays mid (λ n o l. refl) (flat_map f z.k1) (apart_before kids (λ n. omega arith) bounds seps z z.goes))
        (stays mid (λ n o l. refl) (flat_map f z.k2) (apart_behind kids (λ n. omega arith) bounds seps z z.goes))
        (subst (GrownWhole bucket old mid key value next b.next height z_bounds) z.goes w) in
        record {
          grown = record {
            outcome = node_whole mid b.next seps kids (ap (λ c. c.0) mid_number ∙ is) good k.between k.pairs k.numbers;
            others = λ n none where_. let o = outside n none in let gr = g.grown in gr.others n o.1 where_;
          };
          ordered = g.ordered;
          of_bucket = g.of_bucket;
          small = g.small;
        }

    -- this node has room for what the child was split from
    module _ (sep : List ℕ) (right : ℕ) where
      abbrev link : Row
      link = row_of bucket number (version + 1) (rec.Link sep right)

      linked_grows : nat_le (length seps + 1) 32 ≡ true → GrownSplit bucket old mid key value next b.next height z_bounds child sep right
          → Grows rows bucket key value next (suc height) bounds number (record { rows = b.rows ++ link ∷ []; next = b.next; split = None })
      linked_grows room w = record {
        grown = subst (λ rs. GrowsIn bucket old key value next (suc height) bounds number (nodes_of rs bucket) b.next None) (append_assoc rows b.rows (link ∷ [])) (record {
          outcome = node_whole new b.next (z.s1 ++ sep ∷ z.s2) (z.k1 ++ z.kid ∷ right ∷ z.k2) new_number k.separators k.between k.pairs k.numbers;
          others = λ n none where_. let o = outside n none in let gr = g.grown in new_other n o.0 ∙ gr.others n o.1 where_;
        });
        ordered = g.ordered;
        of_bucket = all_append (λ row. row.node.bucket ≡ bucket) b.rows (link ∷ []) g.of_bucket (refl, tt);
        small = all_append (λ row. IsTrue (is_small row.rec)) b.rows (link ∷ []) g.small (refl, tt);
      }
        where
          new : ℕ → Content
          new = nodes_of ((rows ++ b.rows) ++ link ∷ []) bucket

          new_other : (n : ℕ) → n ≢ number → new n ≡ mid n
          new_other n other = push_other bucket (rows ++ b.rows) number (version + 1) (rec.Link sep right) n other

          k : KidsSplit bucket old new key value next b.next height bounds seps kids good z
              (stays new (λ n o l. new_other n o) (flat_map f z.k1) (apart_before kids (λ n. omega arith) bounds seps z z.goes))
              (stays new (λ n o l. new_other n o) (flat_map f z.k2) (apart_behind kids (λ n. omega arith) bounds seps z z.goes)) sep right
          k = kids_split bucket old new key value next b.next height bounds seps kids good z
              (stays new (λ n o l. new_other n o) (flat_map f z.k1) (apart_before kids (λ n. omega arith) bounds seps z z.goes))
              (stays new (λ n o l. new_other n o) (flat_map f z.k2) (apart_behind kids (λ n. omega arith) bounds seps z z.goes)) sep right
              (subst (λ c. GrownSplit bucket old new key value next b.next height z_bounds c sep right) z.goes (split_stays new (λ n o p. new_other n o) z_bounds sep right w))

          new_number : (new number).0 ≡ node.Inner (z.s1 ++ sep ∷ z.s2) (z.k1 ++ z.kid ∷ right ∷ z.k2)
          new_number =
              ap (λ c. c.0) (push_here bucket (rows ++ b.rows) number (version + 1) (rec.Link sep right)) ∙ ap (λ c. step_node c (version + 1) (rec.Link sep right)) mid_number
              ∙ link_step (old number) seps kids sep right (version + 1) refl is ∙ k.links room

    -- This node is full, and is split round separator 16.
    module _ (full : 32 ≤ length seps) where
      abbrev p : Parted 16 seps
      p = parted 16 seps (omega (arith, full))

      abbrev middle : List ℕ
      middle = p.item

      kl : List ℕ
      kl = take 17 kids

      kr : List ℕ
      kr = drop 17 kids

      kids_cut : kids ≡ kl ++ kr
      unfolding kl kr
      kids_cut = sym (take-append-drop 17 kids)

      many_left : length kl ≡ 17
      unfolding kl
      many_left = let m = between_many (IsSubtree height bucket old) bounds seps kids all in let t = length-take 17 kids in omega (arith, m, t, full)

      few_right : length p.back + 1 ≤ 32
      few_right = let e = ap length p.is in let a = length-append p.front (middle ∷ p.back) in let m = p.many in omega (arith, e, a, m, few)

      halves : Cut (IsSubtree height bucket old) bounds p.front middle p.back kl kr
      halves = cut (IsSubtree height bucket old) bounds p.front middle p.back kl kr (let m = many_left in let n = p.many in omega (arith, m, n))
          (subst (λ ks. AllBetween (IsSubtree height bucket old) bounds (p.front ++ middle ∷ p.back) ks) kids_cut (subst (λ ss. AllBetween (IsSubtree height bucket old) bounds ss kids) p.is all))

      good_cut : are_separators bounds (p.front ++ middle ∷ p.back) ≡ true
      good_cut = subst (λ ss. are_separators bounds ss ≡ true) p.is good

      up_cut : is_ascending (p.front ++ middle ∷ p.back) ≡ true
      up_cut = (first_of_both (is_ascending (p.front ++ middle ∷ p.back)) _ good_cut).0

      up_behind : is_ascending (middle ∷ p.back) ≡ true
      up_behind = ascending_right p.front (middle ∷ p.back) up_cut

      each_cut : AllByRecursion (λ s. (is_above bounds.low s && is_up_to bounds.high s) ≡ true) (p.front ++ middle ∷ p.back)
      each_cut = all_from_list_all (λ s. is_above bounds.low s && is_up_to bounds.high s) (p.front ++ middle ∷ p.back) (first_of_both (is_ascending (p.front ++ middle ∷ p.back)) _ good_cut).1

      middle_within : (is_above bounds.low middle ≡ true) × (is_up_to bounds.high middle ≡ true)
      middle_within = let e = all_right (λ s. (is_above bounds.low s && is_up_to bounds.high s) ≡ true) p.front (middle ∷ p.back) each_cut in first_of_both (is_above bounds.low middle) _ e.0

      lows : AllByRecursion (λ s. is_below s middle ≡ true) p.front
      lows = keys_front p.front middle p.back up_cut

      highs : AllByRecursion (λ s. is_below middle s ≡ true) p.back
      highs = all_above_first middle p.back up_behind

      abbrev left_bounds : Bounds
      left_bounds = record { low = bounds.low; high = Some middle }

      abbrev right_bounds : Bounds
      right_bounds = record { low = Some middle; high = bounds.high }

      good_left : are_separators left_bounds p.front ≡ true
      good_left =
          ap (λ x. x && list_all (λ s. is_above bounds.low s && is_below s middle) p.front) (ascending_left p.front (middle ∷ p.back) up_cut)
          ∙ list_all-from (λ s. is_above bounds.low s && is_below s middle) p.front
          (all_both (λ s. (is_above bounds.low s && is_up_to bounds.high s) ≡ true) (λ s. is_below s middle ≡ true) (λ s. (is_above bounds.low s && is_below s middle) ≡ true)
          (λ s h l. ap (λ x. x && is_below s middle) (first_of_both (is_above bounds.low s) _ h).0 ∙ l) p.front
          (all_left (λ s. (is_above bounds.low s && is_up_to bounds.high s) ≡ true) p.front (middle ∷ p.back) each_cut) lows)

      good_right : are_separators right_bounds p.back ≡ true
      good_right =
          ap (λ x. x && list_all (λ s. is_below middle s && is_up_to bounds.high s) p.back) (tail_ascends middle p.back up_behind)
          ∙ list_all-from (λ s. is_below middle s && is_up_to bounds.high s) p.back
          (all_both (λ s. (is_above bounds.low s && is_up_to bounds.high s) ≡ true) (λ s. is_below middle s ≡ true) (λ s. (is_below middle s && is_up_to bounds.high s) ≡ true)
          (λ s h l. ap (λ x. x && is_up_to bounds.high s) l ∙ (first_of_both (is_above bounds.low s) _ h).1) p.back
          (let e = all_right (λ s. (is_above bounds.low s && is_up_to bounds.high s) ≡ true) p.front (middle ∷ p.back) each_cut in e.1) highs)

      -- the left half of the node, and the right one
      keys_left : keys_below middle seps ≡ p.front
      keys_left =
          ap (keys_below middle) p.is ∙ filter-append (λ k. is_below k middle) p.front (middle ∷ p.back)
          ∙ ap (λ xs. xs ++ keys_below middle (middle ∷ p.back)) (filter_all (λ k. is_below k middle) p.front lows)
          ∙ ap (λ xs. p.front ++ xs) (filter_none (λ k. is_below k middle) (middle ∷ p.back)
          (is_below-self middle, all_map (λ s. is_below middle s ≡ true) (λ s. is_below s middle ≡ false) (λ s h. is_below-asym middle s h) p.back highs))
          ∙ append-nil p.front

      left_is : step_node (old number) (version + 1) (rec.CutInner middle) ≡ node.Inner p.front kl
      unfolding kl
      left_is =
          cut_step (old number) seps kids middle is ∙ ap (λ ss. node.Inner ss (take (length ss + 1) kids)) keys_left
          ∙ ap (λ n. node.Inner p.front (take (n + 1) kids)) p.many

      right_is : (c : Content) → step_node c 1 (rec.InnerImage (drop 17 seps) (drop 17 kids)) ≡ node.Inner p.back kr
      unfolding kr
      right_is c = ap (λ ss. node.Inner ss (drop 17 kids)) p.dropped_more

      part_left : (n : ℕ) → times n (flat_map f kl) ≤ times n (flat_map f kids)
      part_left n = let e = ap (λ ks. times n (flat_map f ks)) kids_cut in let d = ap (times n) (flat_map-append f kl kr) in let a = times-append n (flat_map f kl) (flat_map f kr) in omega (arith, e, d, a)

      part_right : (n : ℕ) → times n (flat_map f kr) ≤ times n (flat_map f kids)
      part_right n = let e = ap (λ ks. times n (flat_map f ks)) kids_cut in let d = ap (times n) (flat_map-append f kl kr) in let a = times-append n (flat_map f kl) (flat_map f kr) in omega (arith, e, d, a)

      -- a child in the one half is apart from those in the other
      apart_halves : (n : ℕ) → times n (flat_map f kl) + times n (flat_map f kr) ≤ 1
      apart_halves n =
          let t = total n in let e = ap (λ ks. times n (flat_map f ks)) kids_cut in let d = ap (times n) (flat_map-append f kl kr) in let a = times-append n (flat_map f kl) (flat_map f kr) in omega (arith, t, e, d, a)

      not_new : number ≢ b.next
      not_new e = let l = number_low in let o = g.ordered in absurd (omega (arith, l, o, e))

      -- what this node has, in its halves
      pairs_cut : flat_map (pairs_under height old) kids ≡ flat_map (pairs_under height old) kl ++ flat_map (pairs_under height old) kr
      pairs_cut = ap (flat_map (pairs_under height old)) kids_cut ∙ flat_map-append (pairs_under height old) kl kr

      numbers_cut : number ∷ flat_map f kids ≡ number ∷ (flat_map f kl ++ flat_map f kr)
      numbers_cut = ap (λ xs. number ∷ xs) (ap (flat_map f) kids_cut ∙ flat_map-append f kl kr)

      node_split : (new : ℕ → Content) (sl sr : List (List ℕ)) (kl' kr' : List ℕ) → (new number).0 ≡ node.Inner sl kl' → (new b.next).0 ≡ node.Inner sr kr'
          → are_separators left_bounds sl ≡ true → AllBetween (IsSubtree height bucket new) left_bounds sl kl' → are_separators right_bounds sr ≡ true → AllBetween (IsSubtree height bucket new) right_bounds sr kr'
          → flat_map (pairs_under height new) kl' ++ flat_map (pairs_under height new) kr' ≡ set (flat_map (pairs_under height old) kids) key value
          → IsGrown next (b.next + 1) (number ∷ flat_map f kids) ((number ∷ flat_map (reached height new) kl') ++ (b.next ∷ flat_map (reached height new) kr'))
          → GrownSplit bucket old new key value next (b.next + 1) (suc height) bounds number middle b.next
      unfolding IsSubtree pairs_under reached
      node_split new sl sr kl' kr' e d good_l between_l good_r between_r pairs numbers = record {
        left_tree = subst (IsInner (IsSubtree height bucket new) left_bounds) (sym e) (good_l, between_l);
        right_tree = subst (IsInner (IsSubtree height bucket new) right_bounds) (sym d) (good_r, between_r);
        above = middle_within.0;
        below = middle_within.1;
        pairs =
            ap (λ n. flat_map (pairs_under height new) (kids_of n) ++ flat_map (pairs_under height new) (kids_of (new b.next).0)) e
            ∙ ap (λ n. flat_map (pairs_under height new) kl' ++ flat_map (pairs_under height new) (kids_of n)) d ∙ pairs
            ∙ sym (ap (λ n. set (flat_map (pairs_under height old) (kids_of n)) key value) is);
        numbers =
            subst (λ n. IsGrown next (b.next + 1) (number ∷ flat_map f (kids_of n)) ((number ∷ flat_map (reached height new) (kids_of (new number).0)) ++ (b.next ∷ flat_map (reached height new) (kids_of (new b.next).0)))) (sym is)
            (subst (λ n. IsGrown next (b.next + 1) (number ∷ flat_map f kids) ((number ∷ flat_map (reached height new) (kids_of n)) ++ (b.next ∷ flat_map (reached height new) (kids_of (new b.next).0)))) (sym e)
            (subst (λ n. IsGrown next (b.next + 1) (number ∷ flat_map f kids) ((number ∷ flat_map (reached height new) kl') ++ (b.next ∷ flat_map (reached height new) (kids_of n)))) (sym d) numbers));
      }

      abbrev split_rows : Row → List Row
      split_rows last = row_of bucket b.next 1 (rec.InnerImage (drop 17 seps) (drop 17 kids)) ∷ row_of bucket number (version + 1) (rec.CutInner middle) ∷ last ∷ []

      -- the rest is the same for each half
      split_grows : (last : Row) → last.node.bucket ≡ bucket → is_small last.rec ≡ true → (at_number at_right : Node)
          → TwoChanged bucket mid (nodes_of ((rows ++ b.rows) ++ split_rows last) bucket) number b.next at_number at_right
          → GrownSplit bucket old (nodes_of ((rows ++ b.rows) ++ split_rows last) bucket) key value next (b.next + 1) (suc height) bounds number middle b.next
          → Grows rows bucket key value next (suc height) bounds number (record { rows = b.rows ++ split_rows last; next = b.next + 1; split = Some (middle, b.next) })
      split_grows last last_bucket last_small at_number at_right two w = record {
        grown = subst (λ rs. GrowsIn bucket old key value next (suc height) bounds number (nodes_of rs bucket) (b.next + 1) (Some (middle, b.next))) (append_assoc rows b.rows (split_rows last)) (record {
          outcome = w;
          others = λ n none where_. let o = outside n none in let gr = g.grown in two.others n o.0 (not_right n where_) ∙ gr.others n o.1 (wider n where_);
        });
        ordered = let o = g.ordered in omega (arith, o);
        of_bucket = all_append (λ row. row.node.bucket ≡ bucket) b.rows (split_rows last) g.of_bucket (refl, (refl, (last_bucket, tt)));
        small = all_append (λ row. IsTrue (is_small row.rec)) b.rows (split_rows last) g.small
            (le-leb (length (drop 17 seps)) 32 (let d = ap length p.dropped_more in let r = few_right in omega (arith, d, r)), (refl, (last_small, tt)));
      }
        where
          not_right : (n : ℕ) → (n < next) ⊎ (b.next + 1 ≤ n) → n ≢ b.next
          not_right n (inl h) e = let o = g.ordered in absurd (omega (arith, h, e, o))
          not_right n (inr h) e = absurd (omega (arith, h, e))

          wider : (n : ℕ) → (n < next) ⊎ (b.next + 1 ≤ n) → (n < next) ⊎ (b.next ≤ n)
          wider n (inl h) = inl h
          wider n (inr h) = inr (omega (arith, h))

      module _ (sep : List ℕ) (right : ℕ) (outcome : (bounds' : Bounds) → IsSubtree height bucket old bounds' child → is_key_within bucket bounds' key ≡ true → GrownSplit bucket old mid key value next b.next height bounds' child sep right) where
        -- a node with two changed ones has the others of before
        agree : (new : ℕ → Content) (at_number at_right : Node) → TwoChanged bucket mid new number b.next at_number at_right → (n : ℕ) → n ≢ number → n < next → new n ≡ mid n
        agree new at_number at_right two n other low = two.others n other (λ e. let o = g.ordered in absurd (omega (arith, low, e, o)))

        -- the half that has not the child is apart from it
        apart_other : (half others : List ℕ) → ((n : ℕ) → times n half ≤ times n (flat_map f kids)) → ((n : ℕ) → times n half + times n others ≤ 1) → ((n : ℕ) → times n (f child) ≤ times n others) → Apart half
        apart_other half others part once there n here = let q = part n in let a = once n in let t = there n in (omega (arith, q, here), omega (arith, a, t, here))

        -- the key belongs in the left half
        module _ (low : is_below key middle ≡ true) where
          goes_left : child ≡ slice_index kl (place height bucket old key p.front)
          goes_left =
              ap (λ ss. slice_index kids (length (filter (λ s. not (is_below key s)) ss))) p.is
              ∙ ap (λ ss. slice_index kids (length ss)) (filter-append (λ s. not (is_below key s)) p.front (middle ∷ p.back)
              ∙ ap (λ ss. filter (λ s. not (is_below key s)) p.front ++ ss) (none_up_to key middle p.back up_behind low) ∙ append-nil (filter (λ s. not (is_below key s)) p.front))
              ∙ ap (λ ks. get_or ks (place height bucket old key p.front) 0) kids_cut
              ∙ get_or_append_left kl kr 0 (place height bucket old key p.front) (let l = length-filter_le (λ s. not (is_below key s)) p.front in let m = p.many in let k = many_left in omega (arith, l, m, k))

          zl : Zip height bucket old key left_bounds p.front kl
          zl = let w = within_parts bucket bounds key within in let h = halves in zip height bucket old key left_bounds p.front kl good_left h.left w.0 low

          to_left : child ≡ zl.kid
          to_left = goes_left ∙ zl.goes

          abbrev zl_bounds : Bounds
          zl_bounds = record { low = zl.here; high = first_or zl.s2 (Some middle) }

          wl : GrownSplit bucket old mid key value next b.next height zl_bounds child sep right
          wl = outcome zl_bounds (subst (IsSubtree height bucket old zl_bounds) (sym to_left) zl.child) (within_is bucket zl_bounds key zl.from zl.up_to of_bucket)

          sep_low : is_below sep middle ≡ true
          sep_low = (zl.highs sep wl.below).0

          abbrev last_l : Row
          last_l = row_of bucket number (version + 2) (rec.Link sep right)

          new_l : ℕ → Content
          new_l = nodes_of ((rows ++ b.rows) ++ split_rows last_l) bucket

          two_l : TwoChanged bucket mid (nodes_of ((rows ++ b.rows) ++ split_rows last_l) bucket) number b.next (linked p.front kl sep right) (node.Inner p.back kr)
          two_l =
              subst (λ v. TwoChanged bucket mid (nodes_of ((rows ++ b.rows) ++ row_of bucket b.next 1 (rec.InnerImage (drop 17 seps) (drop 17 kids)) ∷ row_of bucket number (v + 1) (rec.CutInner middle) ∷ row_of bucket number (v + 2) (rec.Link sep right) ∷ []) bucket)
              number b.next (linked p.front kl sep right) (node.Inner p.back kr)) (ap (λ c. c.1) mid_number)
              (last_left bucket (rows ++ b.rows) number b.next not_new (rec.InnerImage (drop 17 seps) (drop 17 kids)) (rec.CutInner middle) (rec.Link sep right) (node.Inner p.back kr) (node.Inner p.front kl) right_is
              (ap (λ c. step_node c (c.1 + 1) (rec.CutInner middle)) mid_number ∙ left_is) (linked p.front kl sep right)
              (link_step (node.Inner p.front kl, (mid number).1 + 1) p.front kl sep right ((mid number).1 + 2) (omega arith) refl))

          agree_l : (n : ℕ) → n ≢ number → n < next → new_l n ≡ mid n
          unfolding new_l
          agree_l = agree (nodes_of ((rows ++ b.rows) ++ split_rows last_l) bucket) (linked p.front kl sep right) (node.Inner p.back kr) two_l

          apart_right : Apart (flat_map f kr)
          apart_right = apart_other (flat_map f kr) (flat_map f kl) part_right (λ n. let a = apart_halves n in omega (arith, a))
              (λ n. let t = sums kl zl.k1 zl.k2 zl.kid zl.kids_are n in let e = ap (λ k. times n (f k)) to_left in omega (arith, t, e))

          stay1 : Stay bucket old new_l (flat_map f zl.k1)
          stay1 = stays new_l agree_l (flat_map f zl.k1) (apart_before kl part_left left_bounds p.front zl to_left)

          stay2 : Stay bucket old new_l (flat_map f zl.k2)
          stay2 = stays new_l agree_l (flat_map f zl.k2) (apart_behind kl part_left left_bounds p.front zl to_left)

          k_l : KidsSplit bucket old new_l key value next b.next height left_bounds p.front kl good_left zl stay1 stay2 sep right
          unfolding new_l
          k_l = kids_split bucket old new_l key value next b.next height left_bounds p.front kl good_left zl stay1 stay2 sep right
              (subst (λ c. GrownSplit bucket old new_l key value next b.next height zl_bounds c sep right) to_left (split_stays new_l (λ n o r. two_l.others n o r) zl_bounds sep right wl))

          same_r : SameKids bucket old new_l height right_bounds p.back kr
          same_r = let h = halves in between_stays bucket old new_l height right_bounds p.back kr h.right (stays new_l agree_l (flat_map f kr) apart_right)

          above_right : AllAbove key (flat_map (pairs_under height old) kr)
          above_right = let h = halves in
              all_map (λ q. is_below q.0 middle ≡ false) (λ q. is_below key q.0 ≡ true) (λ q from. below_not key middle q.0 low from) (flat_map (pairs_under height old) kr) (kids_behind bucket old height bounds middle p.back kr up_behind h.right)

          left_grows : Grows rows bucket key value next (suc height) bounds number (record { rows = b.rows ++ split_rows last_l; next = b.next + 1; split = Some (middle, b.next) })
          unfolding new_l
          left_grows = split_grows last_l refl refl (linked p.front kl sep right) (node.Inner p.back kr) two_l
              (node_split new_l (zl.s1 ++ sep ∷ zl.s2) p.back (zl.k1 ++ zl.kid ∷ right ∷ zl.k2) kr
              (two_l.here ∙ k_l.links (le-leb (length p.front + 1) 32 (let m = p.many in omega (arith, m)))) two_l.there k_l.separators k_l.between good_right same_r.between
              (ap (λ xs. xs ++ flat_map (pairs_under height new_l) kr) k_l.pairs ∙ ap (λ xs. set (flat_map (pairs_under height old) kl) key value ++ xs) same_r.same_pairs
              ∙ sym (ap (λ xs. set xs key value) pairs_cut ∙ set-append_left (flat_map (pairs_under height old) kl) (flat_map (pairs_under height old) kr) key value above_right))
              (grown_more next b.next (number ∷ flat_map f kids) (number ∷ (flat_map (reached height new_l) (zl.k1 ++ zl.kid ∷ right ∷ zl.k2) ++ flat_map f kr)) _
              (subst (λ xs. IsGrown next b.next xs (number ∷ (flat_map (reached height new_l) (zl.k1 ++ zl.kid ∷ right ∷ zl.k2) ++ flat_map f kr))) (sym numbers_cut)
              (grown_between next b.next (number ∷ []) (flat_map f kl) (flat_map (reached height new_l) (zl.k1 ++ zl.kid ∷ right ∷ zl.k2)) (flat_map f kr) k_l.numbers))
              (λ n. moved n number b.next (flat_map (reached height new_l) (zl.k1 ++ zl.kid ∷ right ∷ zl.k2)) (flat_map (reached height new_l) (zl.k1 ++ zl.kid ∷ right ∷ zl.k2)) (flat_map f kr) (flat_map (reached height new_l) kr) refl same_r.same_reached)))

        -- the key belongs in the right half
        module _ (high : is_below key middle ≡ false) where
          all_before : filter (λ s. not (is_below key s)) p.front ≡ p.front
          all_before = filter_all (λ s. not (is_below key s)) p.front
              (all_map (λ s. is_below s middle ≡ true) (λ s. not (is_below key s) ≡ true) (λ s l. ap not (is_below-asym s key (below_not s middle key l high))) p.front lows)

          goes_right : child ≡ slice_index kr (place height bucket old key p.back)
          goes_right =
              ap (λ ss. slice_index kids (length (filter (λ s. not (is_below key s)) ss))) p.is
              ∙ ap (λ ss. slice_index kids (length ss)) (filter-append (λ s. not (is_below key s)) p.front (middle ∷ p.back)
              ∙ ap (λ ss. ss ++ filter (λ s. not (is_below key s)) (middle ∷ p.back)) all_before
              ∙ ap (λ x. p.front ++ cond (not x) (middle ∷ filter (λ s. not (is_below key s)) p.back) (filter (λ s. not (is_below key s)) p.back)) high)
              ∙ ap (slice_index kids) (let a = length-append p.front (middle ∷ filter (λ s. not (is_below key s)) p.back) in let m = p.many in let k = many_left in
              let e : length (p.front ++ middle ∷ filter (λ s. not (is_below key s)) p.back) ≡ length kl + place height bucket old key p.back = omega (arith, a, m, k) in e)
              ∙ ap (λ ks. get_or ks (length kl + place height bucket old key p.back) 0) kids_cut
              ∙ get_or-append-add kl kr (place height bucket old key p.back) 0

          zr : Zip height bucket old key right_bounds p.back kr
          zr = let w = within_parts bucket bounds key within in let h = halves in zip height bucket old key right_bounds p.back kr good_right h.right (ap not high) w.1

          to_right : child ≡ zr.kid
          to_right = goes_right ∙ zr.goes

          abbrev zr_bounds : Bounds
          zr_bounds = record { low = zr.here; high = first_or zr.s2 bounds.high }

          wr : GrownSplit bucket old mid key value next b.next height zr_bounds child sep right
          wr = outcome zr_bounds (subst (IsSubtree height bucket old zr_bounds) (sym to_right) zr.child) (within_is bucket zr_bounds key zr.from zr.up_to of_bucket)

          sep_high : is_below sep middle ≡ false
          sep_high = is_below-asym middle sep (zr.lows sep wr.above).0

          abbrev last_r : Row
          last_r = row_of bucket b.next 2 (rec.Link sep right)

          new_r : ℕ → Content
          new_r = nodes_of ((rows ++ b.rows) ++ split_rows last_r) bucket

          two_r : TwoChanged bucket mid (nodes_of ((rows ++ b.rows) ++ split_rows last_r) bucket) number b.next (node.Inner p.front kl) (linked p.back kr sep right)
          two_r =
              subst (λ v. TwoChanged bucket mid (nodes_of ((rows ++ b.rows) ++ row_of bucket b.next 1 (rec.InnerImage (drop 17 seps) (drop 17 kids)) ∷ row_of bucket number (v + 1) (rec.CutInner middle) ∷ row_of bucket b.next 2 (rec.Link sep right) ∷ []) bucket)
              number b.next (node.Inner p.front kl) (linked p.back kr sep right)) (ap (λ c. c.1) mid_number)
              (last_right bucket (rows ++ b.rows) number b.next not_new (rec.InnerImage (drop 17 seps) (drop 17 kids)) (rec.CutInner middle) (rec.Link sep right) (node.Inner p.back kr) (node.Inner p.front kl) right_is
              (ap (λ c. step_node c (c.1 + 1) (rec.CutInner middle)) mid_number ∙ left_is) (linked p.back kr sep right)
              (link_step (node.Inner p.back kr, 1) p.back kr sep right 2 (omega arith) refl))

          agree_r : (n : ℕ) → n ≢ number → n < next → new_r n ≡ mid n
          unfolding new_r
          agree_r = agree (nodes_of ((rows ++ b.rows) ++ split_rows last_r) bucket) (node.Inner p.front kl) (linked p.back kr sep right) two_r

          apart_left : Apart (flat_map f kl)
          apart_left = apart_other (flat_map f kl) (flat_map f kr) part_left apart_halves
              (λ n. let t = sums kr zr.k1 zr.k2 zr.kid zr.kids_are n in let e = ap (λ k. times n (f k)) to_right in omega (arith, t, e))

          stay1' : Stay bucket old new_r (flat_map f zr.k1)
          stay1' = stays new_r agree_r (flat_map f zr.k1) (apart_before kr part_right right_bounds p.back zr to_right)

          stay2' : Stay bucket old new_r (flat_map f zr.k2)
          stay2' = stays new_r agree_r (flat_map f zr.k2) (apart_behind kr part_right right_bounds p.back zr to_right)

          k_r : KidsSplit bucket old new_r key value next b.next height right_bounds p.back kr good_right zr stay1' stay2' sep right
          unfolding new_r
          k_r = kids_split bucket old new_r key value next b.next height right_bounds p.back kr good_right zr stay1' stay2' sep right
              (subst (λ c. GrownSplit bucket old new_r key value next b.next height zr_bounds c sep right) to_right (split_stays new_r (λ n o r. two_r.others n o r) zr_bounds sep right wr))

          same_l : SameKids bucket old new_r height left_bounds p.front kl
          same_l = let h = halves in between_stays bucket old new_r height left_bounds p.front kl h.left (stays new_r agree_r (flat_map f kl) apart_left)

          below_left : AllBelow key (flat_map (pairs_under height old) kl)
          below_left = let h = halves in
              all_map (λ q. is_below q.0 middle ≡ true) (λ q. is_below q.0 key ≡ true) (λ q l. below_not q.0 middle key l high) (flat_map (pairs_under height old) kl)
              (kids_under bucket old height left_bounds middle p.front kl refl lows h.left)

          right_grows : Grows rows bucket key value next (suc height) bounds number (record { rows = b.rows ++ split_rows last_r; next = b.next + 1; split = Some (middle, b.next) })
          unfolding new_r
          right_grows = split_grows last_r refl refl (node.Inner p.front kl) (linked p.back kr sep right) two_r
              (node_split new_r p.front (zr.s1 ++ sep ∷ zr.s2) kl (zr.k1 ++ zr.kid ∷ right ∷ zr.k2)
              two_r.here (two_r.there ∙ k_r.links (le-leb (length p.back + 1) 32 few_right)) good_left same_l.between k_r.separators k_r.between
              (ap (λ xs. xs ++ flat_map (pairs_under height new_r) (zr.k1 ++ zr.kid ∷ right ∷ zr.k2)) same_l.same_pairs ∙ ap (λ xs. flat_map (pairs_under height old) kl ++ xs) k_r.pairs
              ∙ sym (ap (λ xs. set xs key value) pairs_cut ∙ set-append_right (flat_map (pairs_under height old) kl) (flat_map (pairs_under height old) kr) key value below_left))
              (grown_more next b.next (number ∷ flat_map f kids) (number ∷ (flat_map f kl ++ flat_map (reached height new_r) (zr.k1 ++ zr.kid ∷ right ∷ zr.k2))) _
              (subst (λ xs. IsGrown next b.next xs (number ∷ (flat_map f kl ++ flat_map (reached height new_r) (zr.k1 ++ zr.kid ∷ right ∷ zr.k2)))) (sym numbers_cut)
              (grown_before next b.next (number ∷ flat_map f kl) (flat_map f kr) (flat_map (reached height new_r) (zr.k1 ++ zr.kid ∷ right ∷ zr.k2)) k_r.numbers))
              (λ n. moved n number b.next (flat_map f kl) (flat_map (reached height new_r) kl) (flat_map (reached height new_r) (zr.k1 ++ zr.kid ∷ right ∷ zr.k2)) (flat_map (reached height new_r) (zr.k1 ++ zr.kid ∷ right ∷ zr.k2)) same_l.same_reached refl)))

        full_grows : Grows rows bucket key value next (suc height) bounds number (split_inner bucket number version seps kids (unwrap_or (slice_get seps 16) []) b.rows b.next sep right)
        unfolding split_inner
        full_grows =
            subst (λ m. Grows rows bucket key value next (suc height) bounds number (split_inner bucket number version seps kids m b.rows b.next sep right)) (sym (ap (λ o. unwrap_or o []) p.at))
            (by (is_below key middle) refl (is_below sep middle) refl)
          where
            by : (x : Bool) → is_below key middle ≡ x → (y : Bool) → is_below sep middle ≡ y
                → Grows rows bucket key value next (suc height) bounds number (record {
                  rows = b.rows ++ row_of bucket b.next 1 (rec.InnerImage (drop 17 seps) (drop 17 kids)) ∷ row_of bucket number (version + 1) (rec.CutInner middle)
                      ∷ (cond y (row_of bucket number (version + 2) (rec.Link sep right)) (row_of bucket b.next 2 (rec.Link sep right))) ∷ [];
                  next = b.next + 1;
                  split = Some (middle, b.next);
                })
            by true h true e = left_grows h
            by true h false e = absurd (true≢false (sym (sep_low h) ∙ e))
            by false h true e = absurd (true≢false (sym e ∙ sep_high h))
            by false h false e = right_grows h

    -- setting a pair below an inner node
    pub inner_grows : Grows rows bucket key value next (suc height) bounds number (grown_inner bucket number version (node.Inner seps kids) b.rows b.next b.split)
    unfolding grown_inner
    inner_grows = by b.split (λ bounds' subtree in_bounds. let d = below_in bounds' subtree in_bounds in let gr = d.grown in gr.outcome)
      where
        room : (sep : List ℕ) (right : ℕ) → ((bounds' : Bounds) → IsSubtree height bucket old bounds' child → is_key_within bucket bounds' key ≡ true → GrownSplit bucket old mid key value next b.next height bounds' child sep right)
            → (x : Bool) → nat_lt (length seps) 32 ≡ x
            → Grows rows bucket key value next (suc height) bounds number (cond {A = Growth} x (record { rows = b.rows ++ row_of bucket number (version + 1) (rec.Link sep right) ∷ []; next = b.next; split = None })
            (split_inner bucket number version seps kids (unwrap_or (slice_get seps 16) []) b.rows b.next sep right))
        room sep right outcome true h = linked_grows sep right (le-leb (length seps + 1) 32 (let l = leb-true (suc (length seps)) 32 h in omega (arith, l))) (outcome z_bounds z_child z_within)
        room sep right outcome false h = full_grows (of (leb_tells (suc (length seps)) 32)) sep right outcome
          where
            of : ((leb (suc (length seps)) 32 ≡ true) × (suc (length seps) ≤ 32)) ⊎ ((leb (suc (length seps)) 32 ≡ false) × (32 < suc (length seps))) → 32 ≤ length seps
            of (inl e) = absurd (true≢false (sym e.0 ∙ h))
            of (inr e) = let l = e.1 in omega (arith, l)

        by : (s : Option (List ℕ × ℕ)) → ((bounds' : Bounds) → IsSubtree height bucket old bounds' child → is_key_within bucket bounds' key ≡ true → GrownAs bucket old key value next height bounds' child mid b.next s)
            → Grows rows bucket key value next (suc height) bounds number (grown_inner bucket number version (node.Inner seps kids) b.rows b.next s)
        by None outcome = whole_grows (outcome z_bounds z_child z_within)
        by (Some split) outcome = room split.0 split.1 outcome (nat_lt (length seps) 32) refl
