-- What is known once one seat has the numbers of all.
use Rattle.std.proofs.Common.{◌≡◌, ◌≢◌, ◌⊎◌, ℕ, ◌<◌, ◌≤◌, List, [], ◌∷◌, All, slice_index, Bool, Option, Some, sym, refl, ap, ◌∙◌, subst, inl, inr, ⊎_elim, le_refl}
use Rattle.std.specs.List.{AllByRecursion}
use mathlib.Core.Option.{some, some-injective}
use lib.ListN.{get_elem?}
use Rattle.atomic_table.specs.Table.{Final, Seen}
use Rattle.fine_places.specs.declared.model.Placed.{Placed}
use Rattle.fine_places.specs.declared.model.Share.{Share}
use Rattle.fine_places.specs.declared.model.View.{View}
use Rattle.fine_places.specs.History.{room, touching, by_seat, StartsWith, Owned}
use Rattle.fine_places.specs.Places.{Holds, PlaceState, Away, Rules}
use Rattle.fine_places.specs.Telling.{HoldsNothing, Ended}
use Rattle.fine_places.proofs.Lists.{decide}

-- no shares, or one that has a number
shares_cases : {N : Type 0} (ps : List (Share N)) → (ps ≡ []) ⊎ ((n : ℕ) × Owned ps n)
shares_cases [] = inl refl
shares_cases (p ∷ ps) = inr (p.seat, (p.mine, inl (refl, refl)))

pub ends : {T X N Y : Type 0} (stands : X → ℕ → ℕ → T → List (Placed N) → Type 0) (legal : X → List (Placed N) → Type 0) (seats : X → ℕ) (touches : ℕ → N → Bool) (also : X → ℕ → List (Placed N) → PlaceState T X N Y → Type 0) (x : X)
    (id : ℕ) (v : View X N Y) (ws : List ℕ) (slots : List (Option T)) → HoldsNothing v → ((n : ℕ) → 0 < n → n ≤ seats x → Owned v.places.shares n)
    → Final (Seen (Rules stands legal seats touches also x) id v) ws slots → Ended stands legal seats touches also x id v slots
ends {T} {X} {N} {Y} stands legal seats touches also x id v ws slots empty all last =
    let s = last.0 in let r = last.1.0 in let at = last.1.1 in let k = r.places in let f = k.each_view id v at in
    let others : (i : ℕ) (u : View X N Y) → i ≢ id → get_elem? s.views i ≡ some u → u.places.shares ≡ [] = λ i u ne e. ⊎_elim (λ none. none)
    (λ o. let m = (k.each_view i u e).mine o.0 o.1.0 o.1.1 in absurd (ne (k.apart i id o.0 u v e at o.1 (all o.0 m.1 m.2))))
    (shares_cases u.places.shares) in
    let whole : v.places.seen ≡ r.log = let o = k.longest in ⊎_elim
    (λ (e : o.0 ≡ id). subst (λ (u : View X N Y). u.places.seen ≡ r.log) (some-injective _ _ (sym o.2 ∙ ap (get_elem? s.views) e ∙ at)) o.3)
    (λ (ne : o.0 ≢ id). absurd (subst (λ ps. Owned ps o.4.0) (others o.0 o.1 ne o.2) o.4.1).1)
    (decide o.0 id) in
    let held_by_none : (j : ℕ) → Away s.views j → ⊥ = λ j a. let g = k.each_view a.who a.view a.there in let o = (g.holds j a.holds).owner in let m = g.mine (slice_index s.words j) o.0 o.1 in
    let is : a.who ≡ id = k.apart a.who id (slice_index s.words j) a.view v a.there at o (all (slice_index s.words j) m.1 m.2) in
    empty j (subst (λ (u : View X N Y). Holds u.places j) (some-injective _ _ (sym a.there ∙ ap (get_elem? s.views) is ∙ at)) a.holds) in record {
      published = r.published;
      no_earlier = f.published;
      lawful = subst (legal x) (sym whole) k.is_legal;
      authors = subst (All (λ e. (0 < e.seat) × (e.seat ≤ seats x))) (sym whole) k.authors;
      mine = λ n ms o. (f.mine n ms o).0 ∙ ap (by_seat n) (sym whole);
      each = λ j le. ⊎_elim
          (λ a. (a.thing, last.4 j (Some a.thing) a.there, subst (λ l. stands x j r.published a.thing (touching touches j l)) (sym whole) a.stood))
          (λ a. absurd (held_by_none j a))
          (k.each_place j le);
      fronts = subst (λ l. AllByRecursion (StartsWith l) v.places.fronts) (sym whole) f.fronts;
      state = s;
      room_home = ⊎_elim (λ a. a.word) (λ a. absurd (held_by_none room a)) (k.each_place room (le_refl room));
      kept = subst (λ l. also x r.published l s) (sym whole) r.beside;
      there = at;
      others = others;
      homes = last.4;
    }
