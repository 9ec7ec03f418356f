-- The children of an inner node round the one in which a key belongs.
use Rattle.std.proofs.Common.{◌≡◌, ℕ, suc, ◌+◌, Bool, true, false, cond, not, ◌&&◌, List, [], ◌∷◌, ◌++◌, length, slice_index, refl, sym, ap, ◌∙◌, subst, Some, None, arith}
use Rattle.std.specs.Prelude.{flat_map, filter, Option}
use Rattle.std.specs.List.{AllByRecursion, list_all}
use Rattle.fine_model.specs.Map.{is_below, is_ascending}
use Rattle.fine_model.specs.Nodes.{Content}
use Rattle.fine_model.specs.Trees.{Bounds, AllBetween, is_from, is_above, is_up_to, are_separators, IsSubtree, pairs_under}
use Rattle.fine_model.proofs.Ordered.Order.{AllBelow, AllAbove, is_below-trans, first_of_both, all_map}
use Rattle.fine_model.proofs.Ordered.Sets.{all_from_list_all, list_all-from, all_append}
use Rattle.fine_model.proofs.Trees.Bounded.{below_not, subtree_up_to}
use Rattle.fine_model.proofs.Trees.Among.{none_up_to, tail_ascends, all_above_first, kids_behind}

-- the first separator, or else a bound
abbrev pub first_or : List (List ℕ) → Option (List ℕ) → Option (List ℕ)
first_or [] high = high
first_or (s ∷ ss) high = Some s

-- children before one, up to the bound at which that one begins
abbrev pub Before : (Bounds → ℕ → Type 0) → Option (List ℕ) → List (List ℕ) → List ℕ → Option (List ℕ) → Type 0
Before P low [] [] here = low ≡ here
Before P low [] (k ∷ ks) here = ⊥
Before P low (s ∷ ss) [] here = ⊥
Before P low (s ∷ ss) (k ∷ ks) here = P (record { low = low; high = Some s }) k × Before P (Some s) ss ks here

-- children behind one that ends at the first separator
abbrev pub Behind : (Bounds → ℕ → Type 0) → Option (List ℕ) → List (List ℕ) → List ℕ → Type 0
Behind P high [] [] = Unit {0}
Behind P high [] (k ∷ ks) = ⊥
Behind P high (s ∷ ss) ks = AllBetween P (record { low = Some s; high = high }) ss ks

pub with_behind : (P : Bounds → ℕ → Type 0) (low high : Option (List ℕ)) (ss : List (List ℕ)) (ks : List ℕ) (k : ℕ) → P (record { low = low; high = first_or ss high }) k → Behind P high ss ks
    → AllBetween P (record { low = low; high = high }) ss (k ∷ ks)
unfolding AllBetween
with_behind P low high [] [] k child behind = child
with_behind P low high [] (k' ∷ ks) k child behind = absurd behind
with_behind P low high (s ∷ ss) ks k child behind = (child, behind)

pub with_before : (P : Bounds → ℕ → Type 0) (low high here : Option (List ℕ)) (s1 : List (List ℕ)) (k1 : List ℕ) (s2 : List (List ℕ)) (k2 : List ℕ) → Before P low s1 k1 here
    → AllBetween P (record { low = here; high = high }) s2 k2 → AllBetween P (record { low = low; high = high }) (s1 ++ s2) (k1 ++ k2)
unfolding AllBetween
with_before P low high here [] [] s2 k2 before all = subst (λ l. AllBetween P (record { low = l; high = high }) s2 k2) (sym before) all
with_before P low high here [] (k ∷ k1) s2 k2 before all = absurd before
with_before P low high here (s ∷ s1) [] s2 k2 before all = absurd before
with_before P low high here (s ∷ s1) (k ∷ k1) s2 k2 before all = (before.0, with_before P (Some s) high here s1 k1 s2 k2 before.1 all)

above_below : (low : Option (List ℕ)) (s x : List ℕ) → is_above low s ≡ true → is_below s x ≡ true → is_above low x ≡ true
above_below None s x a b = refl
above_below (Some low) s x a b = is_below-trans low s x a b

up_to_above : (high : Option (List ℕ)) (s x : List ℕ) → is_up_to high s ≡ true → is_below x s ≡ true → is_up_to high x ≡ true
up_to_above None s x a b = refl
up_to_above (Some high) s x a b = is_below-trans x s high b a

module _ (height bucket : ℕ) (nodes : ℕ → Content) (key : List ℕ) where
  abbrev pub place : List (List ℕ) → ℕ
  place seps = length (filter (λ s. not (is_below key s)) seps)

  pub record Zip (bounds : Bounds) (seps : List (List ℕ)) (kids : List ℕ) : Type 0 where
    pub s1 : List (List ℕ)
    pub s2 : List (List ℕ)
    pub k1 : List ℕ
    pub kid : ℕ
    pub k2 : List ℕ
    pub here : Option (List ℕ)
    pub seps_are : seps ≡ s1 ++ s2
    pub kids_are : kids ≡ k1 ++ kid ∷ k2
    pub before : Before (IsSubtree height bucket nodes) bounds.low s1 k1 here
    pub child : IsSubtree height bucket nodes (record { low = here; high = first_or s2 bounds.high }) kid
    pub behind : Behind (IsSubtree height bucket nodes) bounds.high s2 k2
    pub goes : slice_index kids (place seps) ≡ kid
    pub as_many : length k1 ≡ length s1
    -- the key lies within the child's bounds
    pub from : is_from here key ≡ true
    pub up_to : is_up_to (first_or s2 bounds.high) key ≡ true
    -- what is strictly within them lies behind the separators before, and before those behind
    pub lows : (x : List ℕ) → is_above here x ≡ true → (is_above bounds.low x ≡ true) × AllByRecursion (λ s. is_below s x ≡ true) s1
    pub highs : (x : List ℕ) → is_up_to (first_or s2 bounds.high) x ≡ true → (is_up_to bounds.high x ≡ true) × AllByRecursion (λ s. is_below x s ≡ true) s2
    pub pairs_below : AllBelow key (flat_map (pairs_under height nodes) k1)
    pub pairs_above : AllAbove key (flat_map (pairs_under height nodes) k2)

  zip_of : (bounds : Bounds) (seps : List (List ℕ)) (kids : List ℕ) → is_ascending seps ≡ true → AllByRecursion (λ s. is_above bounds.low s ≡ true) seps → AllByRecursion (λ s. is_up_to bounds.high s ≡ true) seps
      → AllBetween (IsSubtree height bucket nodes) bounds seps kids → is_from bounds.low key ≡ true → is_up_to bounds.high key ≡ true → Zip bounds seps kids
  unfolding AllBetween
  zip_of bounds [] [] up above below all from up_to = absurd all
  zip_of bounds [] (kid ∷ []) up above below all from up_to = record {
    s1 = [];
    s2 = [];
    k1 = [];
    kid = kid;
    k2 = [];
    here = bounds.low;
    seps_are = refl;
    kids_are = refl;
    before = refl;
    child = all;
    behind = tt;
    goes = refl;
    as_many = refl;
    from = from;
    up_to = up_to;
    lows = λ x h. (h, tt);
    highs = λ x h. (h, tt);
    pairs_below = tt;
    pairs_above = tt;
  }
  zip_of bounds [] (kid ∷ kid' ∷ kids) up above below all from up_to = absurd all
  zip_of bounds (sep ∷ seps) [] up above below all from up_to = absurd all
  zip_of bounds (sep ∷ seps) (kid ∷ kids) up above below all from up_to =
      by (is_below key sep) refl (λ high. zip_of (record { low = Some sep; high = bounds.high }) seps kids (tail_ascends sep seps up) (all_above_first sep seps up) below.1 all.1 (ap not high) up_to)
    where
      by : (b : Bool) → is_below key sep ≡ b → (is_below key sep ≡ false → Zip (record { low = Some sep; high = bounds.high }) seps kids) → Zip bounds (sep ∷ seps) (kid ∷ kids)
      by true low rest = record {
        s1 = [];
        s2 = sep ∷ seps;
        k1 = [];
        kid = kid;
        k2 = kids;
        here = bounds.low;
        seps_are = refl;
        kids_are = refl;
        before = refl;
        child = all.0;
        behind = all.1;
        goes = ap (λ ss. slice_index (kid ∷ kids) (length ss)) (none_up_to key sep seps up low);
        as_many = refl;
        from = from;
        up_to = low;
        lows = λ x h. (h, tt);
        highs = λ x h. (up_to_above bounds.high sep x below.0 h, (h, all_map (λ s. is_below sep s ≡ true) (λ s. is_below x s ≡ true) (λ s more. is_below-trans x sep s h more) seps (all_above_first sep seps up)));
        pairs_below = tt;
        pairs_above = all_map (λ p. is_below p.0 sep ≡ false) (λ p. is_below key p.0 ≡ true) (λ p h. below_not key sep p.0 low h) (flat_map (pairs_under height nodes) kids) (kids_behind bucket nodes height bounds sep seps kids up all.1);
      }
      by false high rest =
          let r = rest high in
          record {
            s1 = sep ∷ r.s1;
            s2 = r.s2;
            k1 = kid ∷ r.k1;
            kid = r.kid;
            k2 = r.k2;
            here = r.here;
            seps_are = ap (λ ss. sep ∷ ss) r.seps_are;
            kids_are = ap (λ ks. kid ∷ ks) r.kids_are;
            before = (all.0, r.before);
            child = r.child;
            behind = r.behind;
            goes = ap (λ b. slice_index (kid ∷ kids) (length (cond (not b) (sep ∷ filter (λ s. not (is_below key s)) seps) (filter (λ s. not (is_below key s)) seps)))) high ∙ r.goes;
            as_many = ap suc r.as_many;
            from = r.from;
            up_to = r.up_to;
            lows = λ x h. let l = r.lows x h in (above_below bounds.low sep x above.0 l.0, (l.0, l.1));
            highs = r.highs;
            pairs_below = all_append (λ p. is_below p.0 key ≡ true) (pairs_under height nodes kid) (flat_map (pairs_under height nodes) r.k1)
                (all_map (λ p. is_below p.0 sep ≡ true) (λ p. is_below p.0 key ≡ true) (λ p h. below_not p.0 sep key h high) (pairs_under height nodes kid)
                (subtree_up_to height bucket nodes (record { low = bounds.low; high = Some sep }) sep kid refl all.0)) r.pairs_below;
            pairs_above = r.pairs_above;
          }

  pub zip : (bounds : Bounds) (seps : List (List ℕ)) (kids : List ℕ) → are_separators bounds seps ≡ true → AllBetween (IsSubtree height bucket nodes) bounds seps kids
      → is_from bounds.low key ≡ true → is_up_to bounds.high key ≡ true → Zip bounds seps kids
  zip bounds seps kids good all from up_to =
      let g = first_of_both (is_ascending seps) _ good in
      let each = all_from_list_all (λ sep. is_above bounds.low sep && is_up_to bounds.high sep) seps g.1 in
      zip_of bounds seps kids g.0
      (all_map (λ sep. (is_above bounds.low sep && is_up_to bounds.high sep) ≡ true) (λ sep. is_above bounds.low sep ≡ true) (λ sep h. (first_of_both (is_above bounds.low sep) _ h).0) seps each)
      (all_map (λ sep. (is_above bounds.low sep && is_up_to bounds.high sep) ≡ true) (λ sep. is_up_to bounds.high sep ≡ true) (λ sep h. (first_of_both (is_above bounds.low sep) _ h).1) seps each)
      all from up_to

-- separators round one more
pub all_left : {A : Type 0} (P : A → Type 0) (xs ys : List A) → AllByRecursion P (xs ++ ys) → AllByRecursion P xs
all_left P [] ys all = tt
all_left P (x ∷ xs) ys all = (all.0, all_left P xs ys all.1)

pub all_right : {A : Type 0} (P : A → Type 0) (xs ys : List A) → AllByRecursion P (xs ++ ys) → AllByRecursion P ys
all_right P [] ys all = all
all_right P (x ∷ xs) ys all = all_right P xs ys all.1

pub ascending_left : (xs ys : List (List ℕ)) → is_ascending (xs ++ ys) ≡ true → is_ascending xs ≡ true
ascending_left [] ys up = refl
ascending_left (x ∷ []) ys up = refl
ascending_left (x ∷ x' ∷ xs) ys up =
    let b = first_of_both (is_below x x') (is_ascending (x' ∷ (xs ++ ys))) up in ap (λ c. c && is_ascending (x' ∷ xs)) b.0 ∙ ascending_left (x' ∷ xs) ys b.1

pub ascending_right : (xs ys : List (List ℕ)) → is_ascending (xs ++ ys) ≡ true → is_ascending ys ≡ true
ascending_right [] ys up = up
ascending_right (x ∷ xs) ys up = ascending_right xs ys (tail_ascends x (xs ++ ys) up)

keys_cons : (key : List ℕ) (keys : List (List ℕ)) → AllByRecursion (λ k. is_below key k ≡ true) keys → is_ascending keys ≡ true → is_ascending (key ∷ keys) ≡ true
keys_cons key [] above up = refl
keys_cons key (k ∷ keys) above up = ap (λ b. b && is_ascending (k ∷ keys)) above.0 ∙ up

keys_around : (front back : List (List ℕ)) (key : List ℕ) → is_ascending front ≡ true → AllByRecursion (λ k. is_below k key ≡ true) front → is_ascending back ≡ true → AllByRecursion (λ k. is_below key k ≡ true) back
    → is_ascending (front ++ key ∷ back) ≡ true
keys_around [] back key up below up' above = keys_cons key back above up'
keys_around (q ∷ []) back key up below up' above = ap (λ b. b && is_ascending (key ∷ back)) below.0 ∙ keys_cons key back above up'
keys_around (q ∷ r ∷ front) back key up below up' above =
    ap (λ b. b && is_ascending ((r ∷ front) ++ key ∷ back)) (first_of_both (is_below q r) (is_ascending (r ∷ front)) up).0
    ∙ keys_around (r ∷ front) back key (first_of_both (is_below q r) (is_ascending (r ∷ front)) up).1 below.1 up' above

-- one more separator, strictly within the child's bounds
pub good_with : (bounds : Bounds) (s1 s2 : List (List ℕ)) (sep : List ℕ) → are_separators bounds (s1 ++ s2) ≡ true → is_above bounds.low sep ≡ true → is_up_to bounds.high sep ≡ true
    → AllByRecursion (λ s. is_below s sep ≡ true) s1 → AllByRecursion (λ s. is_below sep s ≡ true) s2 → are_separators bounds (s1 ++ sep ∷ s2) ≡ true
good_with bounds s1 s2 sep good above below lows highs =
    let g = first_of_both (is_ascending (s1 ++ s2)) _ good in
    let each = all_from_list_all (λ s. is_above bounds.low s && is_up_to bounds.high s) (s1 ++ s2) g.1 in
    ap (λ b. b && list_all (λ s. is_above bounds.low s && is_up_to bounds.high s) (s1 ++ sep ∷ s2)) (keys_around s1 s2 sep (ascending_left s1 s2 g.0) lows (ascending_right s1 s2 g.0) highs)
    ∙ list_all-from (λ s. is_above bounds.low s && is_up_to bounds.high s) (s1 ++ sep ∷ s2)
    (all_append (λ s. (is_above bounds.low s && is_up_to bounds.high s) ≡ true) s1 (sep ∷ s2) (all_left (λ s. (is_above bounds.low s && is_up_to bounds.high s) ≡ true) s1 s2 each)
    (ap (λ b. b && is_up_to bounds.high sep) above ∙ below, all_right (λ s. (is_above bounds.low s && is_up_to bounds.high s) ≡ true) s1 s2 each))

-- separators and children cut at a separator
pub record Cut (P : Bounds → ℕ → Type 0) (bounds : Bounds) (l : List (List ℕ)) (middle : List ℕ) (r : List (List ℕ)) (kl kr : List ℕ) : Type 0 where
  pub left : AllBetween P (record { low = bounds.low; high = Some middle }) l kl
  pub right : AllBetween P (record { low = Some middle; high = bounds.high }) r kr

pub cut : (P : Bounds → ℕ → Type 0) (bounds : Bounds) (l : List (List ℕ)) (middle : List ℕ) (r : List (List ℕ)) (kl kr : List ℕ) → length kl ≡ length l + 1
    → AllBetween P bounds (l ++ middle ∷ r) (kl ++ kr) → Cut P bounds l middle r kl kr
unfolding AllBetween
cut P bounds [] middle r [] kr many all = absurd (omega (arith, many))
cut P bounds [] middle r (k ∷ []) kr many all = record { left = all.0; right = all.1 }
cut P bounds [] middle r (k ∷ k' ∷ kl) kr many all = absurd (omega (arith, many))
cut P bounds (s ∷ l) middle r [] kr many all = absurd (omega (arith, many))
cut P bounds (s ∷ l) middle r (k ∷ kl) kr many all =
    let c = cut P (record { low = Some s; high = bounds.high }) l middle r kl kr (omega (arith, many)) all.1 in record { left = (all.0, c.left); right = c.right }
