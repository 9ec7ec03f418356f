-- What a scan of a subtree and of the children of a node answers, step by step.
use Rattle.std.proofs.Common.{◌≡◌, ◌≢◌, ℕ, zero, suc, ◌+◌, ◌-◌, ◌<◌, ◌≤◌, ◌==◌, nat_lt, Bool, true, false, cond, ◌&&◌, not, List, [], ◌∷◌, ◌++◌, length, take, drop, slice_get, get_or, Option, None, Result, Ok, Err, refl, sym, ap, subst, ◌∙◌, arith, ne_eqb, ltb-true}
use Rattle.std.proofs.Math.Seq.{take-length}
use Rattle.std.specs.Prelude.{IfOk}
use Rattle.fine_model.specs.declared.FetchFault.{FetchFault}
use Rattle.fine_model.specs.declared.Row.{Row}
use Rattle.fine_model.specs.Map.{Pair, is_below, between}
use Rattle.fine_model.specs.Nodes.{Content}
use Rattle.fine_model.specs.Paths.{meets, seps_of, is_inner, scan_kids, scan_from}
use Rattle.fine_model.specs.Trees.{Bounds, is_leaf, kids_of, pairs_of}
use Rattle.node_cache.specs.Cache.{Cache}
use Rattle.btree_nodes.specs.declared.descent.Sep.{Sep}
use Rattle.btree_nodes.specs.declared.descent.Step.{Step}
use Rattle.btree_nodes.specs.declared.fault.TreeFault.{TreeFault}
use Rattle.btree_nodes.specs.declared.fault.TreeFault.TheVariants.{Source, Unfit, BucketFull, Number, NoMemory}
use Rattle.node_cache.specs.Given.{Finds, given, IsCached, IsLoaded}
use Rattle.btree_nodes.specs.Descent.{bounds_by, high_of, AreKept}
use Rattle.btree_nodes.specs.Scans.{rest_bounds, IsTaken, IsChildAt, IsScanned, IsUnfitUnder, ScansFrom, AreScanned, ScansKids}
use Rattle.btree_nodes.specs.Trees.{kids_met, pairs_met}
use Rattle.btree_nodes.proofs.Loads.{loaded_given, loaded_kept}
use Rattle.btree_nodes.proofs.Ways.{bound_stays, kept_stays}
use Rattle.btree_nodes.proofs.ScanSteps.{inner_is, IsCut, cut, first, goes, stops, met_from, met_first, met_on}
use Rattle.btree_nodes.proofs.SameScans.{GoesAlike, same_from}
use Rattle.btree_nodes.proofs.Sound.{cached_of_whole}
use Rattle.btree_nodes.proofs.Steps.{all_at}
use Rattle.btree_nodes.proofs.Takes.{taken_on, taken_none, taken_full, full, between-append, between_none, take_nothing}

-- ---- leaves

-- a pair of the range is taken, and one beside it is not
pub taken_first : (low high : List ℕ) (wanted left : ℕ) (old new : List Pair) (p : Pair) (pairs : List Pair) → 0 < wanted → (not (is_below p.0 low) && is_below p.0 high) ≡ true
    → IsTaken (wanted - 1) left (old ++ p ∷ []) new (between low high pairs) → IsTaken wanted left old new (between low high (p ∷ pairs))
unfolding between
taken_first low high zero left old new p pairs some within taken = absurd (omega (arith, some))
taken_first low high (suc n) left old new p pairs some within taken =
    let e : suc n - 1 ≡ n = omega arith in
    let one : IsTaken (suc n) n old (old ++ p ∷ []) (p ∷ []) = record { is = ap (λ (xs : List Pair). old ++ p ∷ xs) (sym (take_nothing n)); rest = sym e } in
    subst (λ xs. IsTaken (suc n) left old new xs) (sym (ap (λ b. cond b (p ∷ between low high pairs) (between low high pairs)) within))
    (taken_on (suc n) n left old (old ++ p ∷ []) new (p ∷ []) (between low high pairs) one (subst (λ k. IsTaken k left (old ++ p ∷ []) new (between low high pairs)) e taken))

pub taken_if : {E : Type 0} (low high : List ℕ) (wanted : ℕ) (old mid new : List Pair) (p q : Pair) (pairs : List Pair) → 1 ≤ length pairs → p ≡ get_or pairs 0 p → q ≡ p → mid ≡ old ++ q ∷ [] → wanted ≢ 0 → (not (is_below p.0 low) && is_below p.0 high) ≡ true → (r : Result ℕ E)
    → IfOk r (λ left. IsTaken (wanted - 1) left mid new (between low high (take (length pairs - 1) (drop 1 pairs)))) → IfOk r (λ left. IsTaken wanted left old new (between low high pairs))
taken_if low high wanted old mid new p q [] many is copy put some within r h = absurd (omega (arith, many))
taken_if low high wanted old mid new p q (x ∷ xs) many is copy put some within (Ok left) h =
    taken_first low high wanted left old new x xs (omega (arith, some)) ((λ i. not (is_below (sym is i).0 low) && is_below (sym is i).0 high) ∙ within)
    (subst (λ ys. IsTaken (wanted - 1) left (old ++ x ∷ []) new (between low high ys)) (ap (λ k. take k xs) (let e : length (x ∷ xs) - 1 ≡ length xs = omega arith in e) ∙ take-length xs)
    (subst (λ ys. IsTaken (wanted - 1) left ys new (between low high (take (length (x ∷ xs) - 1) xs))) (put ∙ ap (λ (y : Pair). old ++ y ∷ []) (copy ∙ is)) h))
taken_if low high wanted old mid new p q (x ∷ xs) many is copy put some within (Err e) h = tt

module _ (b : Cache) (next : ℕ) (low high : List ℕ) (bounds : Bounds) (number wanted : ℕ) where
  pub leaf_unfit : is_leaf b.bucket bounds (given b number).0 ≡ false → IsCached b number → IsUnfitUnder b 0 next low high bounds number wanted (record { bucket = b.bucket; number = number })
  unfolding scan_from
  leaf_unfit leaf here = record { of_bucket = refl; first = ap (λ t. cond t (Ok (wanted - length (between low high (pairs_of (given b number).0)))) (Err number)) leaf; there = here }

  pub leaf_scanned : (left : ℕ) (old new : List Pair) → is_leaf b.bucket bounds (given b number).0 ≡ true → IsTaken wanted left old new (between low high (pairs_of (given b number).0)) → IsScanned b 0 next low high bounds number wanted left old new
  unfolding scan_from pairs_met
  leaf_scanned left old new leaf taken = record { fit = ap (λ t. cond t (Ok (wanted - length (between low high (pairs_of (given b number).0)))) (Err number)) leaf ∙ ap (λ n. Ok n) (sym taken.rest); taken = taken }

  pub inner_unfit : (height : ℕ) → 0 < height → is_inner bounds next (given b number).0 ≡ false → IsCached b number → IsUnfitUnder b height next low high bounds number wanted (record { bucket = b.bucket; number = number })
  unfolding scan_from
  inner_unfit zero above inner here = absurd (omega arith)
  inner_unfit (suc height) above inner here = record {
    of_bucket = refl;
    first = ap (λ t. cond t (scan_kids (scan_from height b.bucket (given b) next low high) low high bounds (seps_of (given b number).0) (kids_of (given b number).0) wanted) (Err number)) inner;
    there = here;
  }

-- a scan of a leaf is one of a subtree of height 0
pub leaf_answer : (b : Cache) (height next : ℕ) (low high : List ℕ) (bounds : Bounds) (number wanted : ℕ) (old new : List Pair) (G : FetchFault → Type 0) → height ≡ 0 → (r : Result ℕ TreeFault)
    → ScansFrom b 0 next low high bounds number wanted old new (λ _. ⊥) r → ScansFrom b height next low high bounds number wanted old new G r
leaf_answer b height next low high bounds number wanted old new G ground r h = subst (λ k. ScansFrom b k next low high bounds number wanted old new G r) (sym ground) (by r h)
  where
    by : (r : Result ℕ TreeFault) → ScansFrom b 0 next low high bounds number wanted old new (λ _. ⊥) r → ScansFrom b 0 next low high bounds number wanted old new G r
    by (Ok left) h = h
    by (Err (Source f)) h = absurd h
    by (Err (Unfit id)) h = h
    by (Err (BucketFull m d)) h = h
    by (Err (Number id)) h = h
    by (Err NoMemory) h = h

-- a scan of all children is one of their node
pub kids_answer : (b : Cache) (height next : ℕ) (low high : List ℕ) (at : Step) (wanted : ℕ) (old new : List Pair) (F G : FetchFault → Type 0) → ((f : FetchFault) → F f → G f) → 0 < height
    → is_inner (bounds_by (given b) at.low at.high) next (given b at.number).0 ≡ true → (r : Result ℕ TreeFault)
    → ScansKids b (height - 1) next low high at 0 wanted old new F r → ScansFrom b height next low high (bounds_by (given b) at.low at.high) at.number wanted old new G r
unfolding scan_from pairs_met
kids_answer b zero next low high at wanted old new F G on above inner r h = absurd (omega arith)
kids_answer b (suc height) next low high at wanted old new F G on above inner r h =
    by r (subst (λ k. ScansKids b k next low high at 0 wanted old new F r) (let e : suc height - 1 ≡ height = omega arith in e) h)
  where
    under : scan_from (suc height) b.bucket (given b) next low high (bounds_by (given b) at.low at.high) at.number wanted
        ≡ scan_kids (scan_from height b.bucket (given b) next low high) low high (bounds_by (given b) at.low at.high) (seps_of (given b at.number).0) (kids_of (given b at.number).0) wanted
    under = ap (λ t. cond t (scan_kids (scan_from height b.bucket (given b) next low high) low high (bounds_by (given b) at.low at.high) (seps_of (given b at.number).0) (kids_of (given b at.number).0) wanted) (Err at.number)) inner

    met : (left : ℕ) → IsTaken wanted left old new (between low high (kids_met (pairs_met height (given b) low high) low high (bounds_by (given b) at.low at.high) (seps_of (given b at.number).0) (kids_of (given b at.number).0)))
        → IsTaken wanted left old new (between low high (pairs_met (suc height) (given b) low high (bounds_by (given b) at.low at.high) at.number))
    met left h = h

    by : (r : Result ℕ TreeFault) → ScansKids b height next low high at 0 wanted old new F r → ScansFrom b (suc height) next low high (bounds_by (given b) at.low at.high) at.number wanted old new G r
    by (Ok left) h = record { fit = under ∙ h.fit; taken = met left h.taken }
    by (Err (Source f)) h = on f h
    by (Err (Unfit id)) h = record { of_bucket = h.of_bucket; first = under ∙ h.first; there = h.there }
    by (Err (BucketFull m d)) h = h
    by (Err (Number id)) h = h
    by (Err NoMemory) h = h

-- ---- children

-- a cached node that is fit, and a child of it
pub record IsChildOf (b : Cache) (next : ℕ) (at : Step) (place : ℕ) (child : Step) : Type 0 where
  pub there : IsCached b at.number
  pub low : AreKept b at.low
  pub high : AreKept b at.high
  pub inner : is_inner (bounds_by (given b) at.low at.high) next (given b at.number).0 ≡ true
  pub is : IsChildAt (given b) at place child
  pub child_low : AreKept b child.low
  pub child_high : AreKept b child.high

pub child_of : (b : Cache) (next : ℕ) (at : Step) (place : ℕ) (child : Step) → IsCached b at.number → AreKept b at.low → AreKept b at.high → is_inner (bounds_by (given b) at.low at.high) next (given b at.number).0 ≡ true
    → IsChildAt (given b) at place child → AreKept b child.low × AreKept b child.high → IsChildOf b next at place child
child_of b next at place child there low high inner is kept = record { there = there; low = low; high = high; inner = inner; is = is; child_low = kept.0; child_high = kept.1 }

pub child_small : (nodes : ℕ → Content) (bounds : Bounds) (next : ℕ) (at : Step) (place : ℕ) (child : Step) → is_inner bounds next (nodes at.number).0 ≡ true → IsChildAt nodes at place child → child.number < next
child_small nodes bounds next at place child inner is =
    ltb-true child.number next (all_at (λ kid. nat_lt kid next) (kids_of (nodes at.number).0) place child.number (inner_is bounds next (nodes at.number).0 inner).below is.number)

-- a child as it stands once more nodes are loaded, and whether it holds keys of a range
pub record StillMeets (b d : Cache) (next : ℕ) (low high : List ℕ) (at : Step) (place : ℕ) (child : Step) (answer : Bool) : Type 0 where
  pub of : IsChildOf d next at place child
  pub bounds : bounds_by (given d) child.low child.high ≡ bounds_by (given b) child.low child.high
  pub holds : meets low high (bounds_by (given d) child.low child.high) ≡ answer

module _ (tells : List Row → Type 0) (finds : Finds) (upper : ℕ) (b d : Cache) (loaded : IsLoaded tells finds upper b d) where
  pub bounds_stay : (low high : Option Sep) → AreKept b low → AreKept b high → bounds_by (given d) low high ≡ bounds_by (given b) low high
  bounds_stay low high kept kept' = λ i. record { low = bound_stays tells finds upper b d loaded low kept i; high = bound_stays tells finds upper b d loaded high kept' i }

  pub inner_stays : (next : ℕ) (at : Step) → IsCached b at.number → AreKept b at.low → AreKept b at.high → is_inner (bounds_by (given b) at.low at.high) next (given b at.number).0 ≡ true
      → is_inner (bounds_by (given d) at.low at.high) next (given d at.number).0 ≡ true
  inner_stays next at there low high inner = (λ i. is_inner (bounds_stay at.low at.high low high i) next (loaded_given tells finds upper b d loaded at.number there i).0) ∙ inner

  pub child_stays : (next : ℕ) (at : Step) (place : ℕ) (child : Step) → IsChildOf b next at place child → IsChildOf d next at place child
  child_stays next at place child of =
      let same = loaded_given tells finds upper b d loaded at.number of.there in
      record {
        there = loaded_kept tells finds upper b d loaded at.number of.there;
        low = kept_stays tells finds upper b d loaded at.low of.low;
        high = kept_stays tells finds upper b d loaded at.high of.high;
        inner = inner_stays next at of.there of.low of.high of.inner;
        is = record {
          number = ap (λ (n : Content). slice_get (kids_of n.0) place) same ∙ of.is.number;
          low = of.is.low;
          high = of.is.high ∙ ap (λ (n : Content). high_of at.number place (length (seps_of n.0)) at.high) (sym same);
        };
        child_low = kept_stays tells finds upper b d loaded child.low of.child_low;
        child_high = kept_stays tells finds upper b d loaded child.high of.child_high;
      }

  pub child_bounds : (next : ℕ) (at : Step) (place : ℕ) (child : Step) → IsChildOf b next at place child → bounds_by (given d) child.low child.high ≡ bounds_by (given b) child.low child.high
  child_bounds next at place child of = bounds_stay child.low child.high of.child_low of.child_high

  pub still_meets : (next : ℕ) (low high : List ℕ) (at : Step) (place : ℕ) (child : Step) (answer : Bool) → IsChildOf b next at place child → meets low high (bounds_by (given b) child.low child.high) ≡ answer
      → StillMeets b d next low high at place child answer
  still_meets next low high at place child answer of is =
      let same = child_bounds next at place child of in
      record { of = child_stays next at place child of; bounds = same; holds = ap (meets low high) same ∙ is }

  -- what was scanned stays scanned once more nodes are loaded
  pub scanned_stays : (height next : ℕ) (low high : List ℕ) (bounds : Bounds) (number wanted left : ℕ) (old new : List Pair) → IsScanned b height next low high bounds number wanted left old new → IsScanned d height next low high bounds number wanted left old new
  scanned_stays height next low high bounds number wanted left old new h =
      by (scan_from height b.bucket (given d) next low high bounds number wanted) refl
      (same_from (given d) (given b) (λ n. Unit {0}) (λ n whole. tt) (λ n any whole. loaded_given tells finds upper b d loaded n (cached_of_whole b n whole)) b.bucket next low high height bounds number wanted left h.fit)
    where
      by : (r : Result ℕ ℕ) → scan_from height b.bucket (given d) next low high bounds number wanted ≡ r
          → GoesAlike (λ n. Unit {0}) r wanted left (between low high (pairs_met height (given d) low high bounds number)) (between low high (pairs_met height (given b) low high bounds number)) → IsScanned d height next low high bounds number wanted left old new
      by (Ok l) e alike = record {
        fit = ap (λ k. scan_from height k (given d) next low high bounds number wanted) loaded.bucket ∙ e ∙ ap (λ n. Ok n) alike.0;
        taken = record { is = h.taken.is ∙ ap (λ xs. old ++ xs) (sym alike.1.same); rest = alike.1.rest };
      }
      by (Err n) e alike = absurd (alike tt)

-- a node that is reached and found fit is so still behind its children
pub inner_behind : (tells tells' : List Row → Type 0) (finds finds' : Finds) (upper upper' : ℕ) (a b d : Cache) → IsLoaded tells finds upper a b → IsLoaded tells' finds' upper' b d → (next : ℕ) (at : Step) → AreKept a at.low → AreKept a at.high → IsCached b at.number
    → is_inner (bounds_by (given b) at.low at.high) next (given b at.number).0 ≡ true → is_inner (bounds_by (given d) at.low at.high) next (given d at.number).0 ≡ true
inner_behind tells tells' finds finds' upper upper' a b d reached loaded next at low high there inner =
    inner_stays tells' finds' upper' b d loaded next at there (kept_stays tells finds upper a b reached at.low low) (kept_stays tells finds upper a b reached at.high high) inner

module _ (d : Cache) (height next : ℕ) (low high : List ℕ) (at : Step) (place : ℕ) (child : Step) (of : IsChildOf d next at place child) where
  abbrev bounds : Bounds
  bounds = bounds_by (given d) child.low child.high

  abbrev below : Bounds → ℕ → ℕ → Result ℕ ℕ
  below = scan_from height d.bucket (given d) next low high

  abbrev pairs : Bounds → ℕ → List Pair
  pairs = pairs_met height (given d) low high

  pub cut_off : IsCut (given d) at place child
  cut_off = cut (given d) at next place child (inner_is (bounds_by (given d) at.low at.high) next (given d at.number).0 of.inner) of.is

  met : between low high (met_from pairs low high (given d) at place child place)
      ≡ between low high (met_first pairs low high (given d) at place child bounds) ++ between low high (met_from pairs low high (given d) at place child (suc place))
  met = ap (between low high) (met_on pairs low high (given d) at place child cut_off) ∙ between-append low high (met_first pairs low high (given d) at place child bounds) (met_from pairs low high (given d) at place child (suc place))

  after : place + 1 ≡ suc place
  after = omega arith

  -- a child with no keys of the range is passed over
  pub passed_over : (wanted : ℕ) (old new : List Pair) (F : FetchFault → Type 0) → meets low high bounds ≡ false → (r : Result ℕ TreeFault)
      → ScansKids d height next low high at (place + 1) wanted old new F r → ScansKids d height next low high at place wanted old new F r
  passed_over wanted old new F none r h = by r (subst (λ k. ScansKids d height next low high at k wanted old new F r) after h)
    where
      on : first below low high bounds child.number wanted ≡ Ok wanted
      on = ap (λ t. cond (t && not (wanted == 0)) (below bounds child.number wanted) (Ok wanted)) none

      by : (r : Result ℕ TreeFault) → ScansKids d height next low high at (suc place) wanted old new F r → ScansKids d height next low high at place wanted old new F r
      by (Ok left) h = record {
        fit = goes below low high (given d) at place child cut_off wanted wanted on ∙ h.fit;
        taken = subst (λ xs. IsTaken wanted left old new xs)
            (sym (met ∙ ap (λ t. between low high (cond t (pairs bounds child.number) []) ++ between low high (met_from pairs low high (given d) at place child (suc place))) none
            ∙ ap (λ xs. xs ++ between low high (met_from pairs low high (given d) at place child (suc place))) (between_none low high))) h.taken;
      }
      by (Err (Source f)) h = h
      by (Err (Unfit id)) h = record { of_bucket = h.of_bucket; first = goes below low high (given d) at place child cut_off wanted wanted on ∙ h.first; there = h.there }
      by (Err (BucketFull m d)) h = h
      by (Err (Number id)) h = h
      by (Err NoMemory) h = h

  module _ (wanted : ℕ) (some : meets low high bounds ≡ true) (more : wanted ≢ 0) where
    into : first below low high bounds child.number wanted ≡ below bounds child.number wanted
    into = (λ i. cond (some i && not (ne_eqb wanted 0 more i)) (below bounds child.number wanted) (Ok wanted))

    -- a child is scanned, and then those behind it
    pub scanned_on : (left : ℕ) (old mid new : List Pair) (F G : FetchFault → Type 0) → ((f : FetchFault) → F f → G f) → IsScanned d height next low high bounds child.number wanted left old mid → (r : Result ℕ TreeFault)
        → ScansKids d height next low high at (place + 1) left mid new F r → ScansKids d height next low high at place wanted old new G r
    scanned_on left old mid new F G to one r h = by r (subst (λ k. ScansKids d height next low high at k left mid new F r) after h)
      where
        on : first below low high bounds child.number wanted ≡ Ok left
        on = into ∙ one.fit

        by : (r : Result ℕ TreeFault) → ScansKids d height next low high at (suc place) left mid new F r → ScansKids d height next low high at place wanted old new G r
        by (Ok l) h = record {
          fit = goes below low high (given d) at place child cut_off wanted left on ∙ h.fit;
          taken = subst (λ xs. IsTaken wanted l old new xs)
              (sym (met ∙ ap (λ t. between low high (cond t (pairs bounds child.number) []) ++ between low high (met_from pairs low high (given d) at place child (suc place))) some))
              (taken_on wanted left l old mid new (between low high (pairs bounds child.number)) (between low high (met_from pairs low high (given d) at place child (suc place))) one.taken h.taken);
        }
        by (Err (Source f)) h = to f h
        by (Err (Unfit id)) h = record { of_bucket = h.of_bucket; first = goes below low high (given d) at place child cut_off wanted left on ∙ h.first; there = h.there }
        by (Err (BucketFull m d)) h = h
        by (Err (Number id)) h = h
        by (Err NoMemory) h = h

    -- a fault below a child is one of its node
    pub fault_below : (old new : List Pair) (F : FetchFault → Type 0) (e : TreeFault) → ScansFrom d height next low high bounds child.number wanted old new F (Err e) → ScansKids d height next low high at place wanted old new F (Err e)
    fault_below old new F (Source f) h = h
    fault_below old new F (Unfit id) h = record { of_bucket = h.of_bucket; first = stops below low high (given d) at place child cut_off wanted id.number (into ∙ h.first); there = h.there }
    fault_below old new F (BucketFull m d) h = h
    fault_below old new F (Number id) h = h
    fault_below old new F NoMemory h = h

-- no child stands at a place behind all
pub past_all : (xs : List ℕ) (i : ℕ) → slice_get xs i ≡ None → drop i xs ≡ []
past_all [] zero e = refl
past_all [] (suc i) e = refl
past_all (x ∷ xs) zero e = cc
past_all (x ∷ xs) (suc i) e = past_all xs i e

module _ (b : Cache) (height next : ℕ) (low high : List ℕ) (at : Step) (place wanted : ℕ) (old : List Pair) where
  pub none_wanted : wanted ≡ 0 → AreScanned b height next low high at place wanted 0 old old
  none_wanted none = subst (λ w. AreScanned b height next low high at place w 0 old old) (sym none) (record {
    fit = full (scan_from height b.bucket (given b) next low high) low high (rest_bounds (given b) at place) (drop place (seps_of (given b at.number).0)) (drop place (kids_of (given b at.number).0));
    taken = taken_full old (between low high (kids_met (pairs_met height (given b) low high) low high (rest_bounds (given b) at place) (drop place (seps_of (given b at.number).0)) (drop place (kids_of (given b at.number).0))));
  })

  pub none_behind : slice_get (kids_of (given b at.number).0) place ≡ None → AreScanned b height next low high at place wanted wanted old old
  none_behind none = record {
    fit = ap (λ ks. scan_kids (scan_from height b.bucket (given b) next low high) low high (rest_bounds (given b) at place) (drop place (seps_of (given b at.number).0)) ks wanted) empty;
    taken = subst (λ ks. IsTaken wanted wanted old old (between low high (kids_met (pairs_met height (given b) low high) low high (rest_bounds (given b) at place) (drop place (seps_of (given b at.number).0)) ks))) (sym empty)
        (subst (λ xs. IsTaken wanted wanted old old xs) (sym (between_none low high)) (taken_none wanted old));
  }
    where
      empty : drop place (kids_of (given b at.number).0) ≡ []
      empty = past_all (kids_of (given b at.number).0) place none
