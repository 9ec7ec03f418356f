-- How all passes are gathered at the end of a hall, and the slots emptied.
use Rattle.std.proofs.Common.{◌≡◌, ◌≢◌, ◌⊎◌, ℕ, zero, suc, ◌+◌, ◌-◌, ◌<◌, ◌≤◌, Bool, true, false, get_or, set, min, true≢false, get_or-set_other, List, [], ◌∷◌, ◌++◌, reverse, length, Option, refl, sym, ap, ◌∙◌, subst, inl, inr, ⊎_elim, arith, append_assoc, append-nil, length-append, le_refl, le_trans}
use Rattle.std.specs.Prelude.{max}
use Rattle.std.proofs.Math.Nat.{le-max_left, le-max_right}
use Rattle.std.specs.List.{AllByRecursion}
use Rattle.std.proofs.lemmas.List.{reverse-append}
use Rattle.std.proofs.lemmas.List.Elements.{filter_map-append}
use Rattle.std.proofs.lemmas.Grind.{flat_map-append}
use mathlib.Core.Option.{some, some-ne-none, some-injective}
use lib.ListN.{get_elem?}
use Rattle.atomic_table.specs.Seated.{TableId}
use Rattle.atomic_table.proofs.Lists.{at_last, at_longer}
use Rattle.fine_model.specs.declared.law.ViewState.{ViewState}
use Rattle.fine_places.specs.declared.model.Placed.{Placed}
use Rattle.fine_places.specs.declared.model.Known.{Known}
use Rattle.fine_places.specs.History as places
use Rattle.fine_places.specs.History.{StartsWith}
use Rattle.fine_places.specs.Places.{Holds, joined}
use Rattle.fine_places.specs.Telling as telling
use Rattle.fine_places.proofs.Lists.{decide, all_append, all_map}
use Rattle.fine_boxes.specs.declared.model.Reads.{Reads}
use Rattle.fine_boxes.specs.Boxes.{both}
use Rattle.fine_hall.specs.declared.turn.Turn.{Turn}
use Rattle.fine_hall.specs.declared.law.Beginning.{Beginning}
use Rattle.fine_hall.specs.declared.law.Load.{Load}
use Rattle.fine_hall.specs.declared.pass.Pass.{Pass}
use Rattle.fine_hall.specs.Passes.{PassView, known, reads, turns, HasPlace, HoldsNothing, IsPass}
use Rattle.fine_hall.specs.Ending.{fronts_of, Gathers, IsTakenTo, view_in_slot, view_found, views_from}
use Rattle.fine_hall.proofs.Passing.{known_is, reads_is}

-- ---- what a pass held

beyond : (l : List Bool) (k : ℕ) (b : Bool) → length l ≤ k → get_elem? l k ≡ some b → ⊥
beyond [] k b le e = some-ne-none b (sym e)
beyond (x ∷ xs) zero b le e = absurd (omega arith)
beyond (x ∷ xs) (suc k) b le e = beyond xs k b (let less : length xs ≤ k = omega arith in less) e

-- nothing is held, as the pass says
pub holds_none : {V : Type 0} (view : V → ViewState) (z : TableId) (x : Beginning) (p : Pass V) (v : PassView) → IsPass view z x p → p.badge.views ≡ v ∷ [] → HoldsNothing p → telling.HoldsNothing v
holds_none view z x p v ok e free k h = let had : HasPlace p k = subst (λ (u : Known Beginning Turn). Holds u k) (sym (known_is p v e)) h in
    go (≤_or_< k places.room) had
  where
    go : (k ≤ places.room) ⊎ (places.room < k) → ¬ HasPlace p k
    go (inl le) had = true≢false (some-injective _ _ (sym had ∙ free k le))
    go (inr lt) had = beyond (known p).held k true (let wide = ok.wide in omega arith) had

    ≤_or_< : (a b : ℕ) → (a ≤ b) ⊎ (b < a)
    ≤_or_< a b = ⊎_elim (λ (e : min a b ≡ a). inl (omega arith)) (λ (e : min a b ≢ a). inr (omega arith)) (decide (min a b) a)

-- ---- the passes, one after another

pub all_left : {A : Type 0} (P : A → Type 0) (l m : List A) → AllByRecursion P (l ++ m) → AllByRecursion P l × AllByRecursion P m
all_left P [] m a = (tt, a)
all_left P (x ∷ l) m a = let t = all_left P l m a.1 in ((a.0, t.0), t.1)

module _ {V : Type 0} where
  pub last_pass : (before left : List (Pass V)) (p : Pass V) → before ≡ left ++ p ∷ [] → get_elem? before (length left) ≡ some p
  last_pass before left p e = ap (λ (l : List (Pass V)). get_elem? l (length left)) e ∙ at_last left p (length left) refl

  pub rest_passes : (before left : List (Pass V)) (p : Pass V) (i : ℕ) (q : Pass V) → before ≡ left ++ p ∷ [] → get_elem? left i ≡ some q → get_elem? before i ≡ some q
  rest_passes before left p i q e at = ap (λ (l : List (Pass V)). get_elem? l i) e ∙ at_longer left (p ∷ []) i q at

  saw_turns : (all : List (Placed Turn)) (p : Pass V) (v : PassView) → p.badge.views ≡ v ∷ [] → StartsWith all v.places.seen → StartsWith all (turns p)
  saw_turns all p v e s = subst (λ (u : Known Beginning Turn). StartsWith all u.seen) (sym (known_is p v e)) s

  pub gathers_one : (p : Pass V) (v : PassView) → p.badge.views ≡ v ∷ [] → Gathers (p ∷ []) v
  gathers_one p v e = record {
    shares = ap (λ (u : Known Beginning Turn). u.shares) (sym (known_is p v e)) ∙ sym (append-nil (known p).shares);
    notes = ap (λ (y : Reads Turn). y.notes) (sym (reads_is p v e)) ∙ sym (append-nil (reads p).notes);
    saw = λ all s f. (saw_turns all p v e s, tt);
    no_earlier = (subst (λ (u : Known Beginning Turn). u.published ≤ v.places.published) (sym (known_is p v e)) (le_refl v.places.published), tt);
  }

  pub gathers_more : (done : List (Pass V)) (p : Pass V) (v w u : PassView) → p.badge.views ≡ w ∷ [] → u ≡ record { places = joined v.places w.places; beside = both v.beside w.beside } → Gathers done v → Gathers (done ++ p ∷ []) u
  gathers_more done p v w u e is g = let one = gathers_one p w e in record {
    shares = ap (λ (y : PassView). y.places.shares) is ∙ ((λ i. g.shares i ++ one.shares i) ∙ sym (flat_map-append (λ (q : Pass V). (known q).shares) done (p ∷ [])));
    notes = ap (λ (y : PassView). y.beside.notes) is ∙ ((λ i. g.notes i ++ one.notes i) ∙ sym (flat_map-append (λ (q : Pass V). (reads q).notes) done (p ∷ [])));
    saw = λ all s f. let fs = subst (λ (y : PassView). AllByRecursion (StartsWith all) y.places.fronts) is f in
        all_append (λ q. StartsWith all (turns q)) done (p ∷ []) (g.saw all fs.0 (all_left (StartsWith all) v.places.fronts w.places.fronts fs.1.1).0) (saw_turns all p w e fs.1.0, tt);
    no_earlier = subst (λ (n : ℕ). AllByRecursion (λ (q : Pass V). (known q).published ≤ n) (done ++ p ∷ [])) (sym (ap (λ (y : PassView). y.places.published) is))
        (all_append (λ q. (known q).published ≤ max v.places.published w.places.published) done (p ∷ [])
        (all_map (λ (q : Pass V) le. le_trans le (le-max_left v.places.published w.places.published)) done g.no_earlier)
        (le_trans one.no_earlier.0 (le-max_right v.places.published w.places.published), tt));
  }

  pub fronts_more : (before now next : List V) (done : List (Pass V)) (p : Pass V) → now ≡ before ++ fronts_of done → next ≡ now ++ fronts_of (p ∷ []) → next ≡ before ++ fronts_of (done ++ p ∷ [])
  fronts_more before now next done p e f = f ∙ (ap (λ l. l ++ fronts_of (p ∷ [])) e ∙ (append_assoc before (fronts_of done) (fronts_of (p ∷ [])) ∙ ap (λ l. before ++ l) (sym (filter_map-append (λ (q : Pass V). q.front) done (p ∷ [])))))

  pub passes_more : (all now left done : List (Pass V)) (p : Pass V) → now ≡ left ++ p ∷ [] → all ≡ now ++ reverse done → all ≡ left ++ reverse (done ++ p ∷ [])
  passes_more all now left done p e a = a ∙ (ap (λ l. l ++ reverse done) e ∙ (append_assoc left (p ∷ []) (reverse done) ∙ ap (λ l. left ++ l) (sym (reverse-append done (p ∷ [])))))

-- ---- emptying the slots, one after another

set_gone : (filled : List Bool) (k : ℕ) → get_or (set filled k false) k false ≡ false
set_gone [] k = refl
set_gone (b ∷ bs) zero = refl
set_gone (b ∷ bs) (suc k) = set_gone bs k

pub one_taken : (filled : List Bool) (count k : ℕ) → IsTakenTo filled count k → IsTakenTo (set filled k false) count (k + 1)
one_taken filled count k t = record {
  left = λ j le lt. get_or-set_other filled k j false false (apart j le) ∙ t.left j (let low : k ≤ j = omega arith in low) lt;
  gone = λ j lt. ⊎_elim
      (λ (e : j ≡ k). subst (λ i. get_or (set filled k false) i false ≡ false) (sym e) (set_gone filled k))
      (λ (ne : j ≢ k). get_or-set_other filled k j false false ne ∙ t.gone j (omega arith))
      (decide j k);
}
  where
    apart : (j : ℕ) → k + 1 ≤ j → j ≢ k
    apart j le e = omega arith

module _ {R B V : Type 0} where
  pub views_next : (slots : List (Option (Load R B V))) (from k : ℕ) (s : Option (Load R B V)) → from ≤ k → get_elem? slots k ≡ some s → views_from slots from (k + 1 - from) ≡ views_from slots from (k - from) ++ view_in_slot s
  views_next slots from k s le e =
      let n : k + 1 - from ≡ suc (k - from) = omega arith in
      let m : from + (k - from) ≡ k = omega arith in
      ap (views_from slots from) n ∙ ap (λ o. views_from slots from (k - from) ++ view_found o) (ap (get_elem? slots) m ∙ e)

  views_longer : (slots : List (Option (Load R B V))) (from m d : ℕ) → length (views_from slots from m) ≤ length (views_from slots from (m + d))
  views_longer slots from m zero = let n : m + 0 ≡ m = omega arith in let b = ap (λ j. length (views_from slots from j)) n in omega arith
  views_longer slots from m (suc d) =
      let a = views_longer slots from m d in
      let n : m + suc d ≡ suc (m + d) = omega arith in
      let b = ap (λ j. length (views_from slots from j)) n in
      let c = length-append (views_from slots from (m + d)) (view_found (get_elem? slots (from + (m + d)))) in omega arith

  pub views_grow : (slots : List (Option (Load R B V))) (from m n : ℕ) → m ≤ n → length (views_from slots from m) ≤ length (views_from slots from n)
  views_grow slots from m n le = let e : m + (n - m) ≡ n = omega arith in subst (λ j. length (views_from slots from m) ≤ length (views_from slots from j)) e (views_longer slots from m (n - m))

  -- one more view fits where all of them do
  pub views_fit : (slots : List (Option (Load R B V))) (from k to : ℕ) (s : Option (Load R B V)) → from ≤ k → k < to → get_elem? slots k ≡ some s → length (views_from slots from (k - from)) + length (view_in_slot s) ≤ length (views_from slots from (to - from))
  views_fit slots from k to s le lt e =
      let a = ap length (views_next slots from k s le e) ∙ length-append (views_from slots from (k - from)) (view_in_slot s) in
      let b = views_grow slots from (k + 1 - from) (to - from) (omega arith) in omega arith

pub taken_as : (filled filled' : List Bool) (count count' k : ℕ) → filled' ≡ filled → count' ≡ count → IsTakenTo filled count k → IsTakenTo filled' count' k
taken_as filled filled' count count' k f c t = record {
  left = λ j le lt. ap (λ l. get_or l j false) f ∙ t.left j le (subst (λ n. j < n) c lt);
  gone = λ j lt. ap (λ l. get_or l j false) f ∙ t.gone j lt;
}
