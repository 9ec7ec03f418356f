-- A step behind the places, which may see the history and raise the published number, keeps the rule of the places.
use Rattle.std.proofs.Common.{◌≡◌, ℕ, suc, ◌<◌, ◌≤◌, List, [], ◌∷◌, length, slice_index, set, Bool, Option, sym, ap, ◌∙◌, subst, refl, ⊎_elim, arith, append-nil, length-set, get_or-set_other}
use Rattle.std.specs.List.{AllByRecursion}
use mathlib.Core.Option.{none, some}
use lib.ListN.{get_elem?}
use Rattle.atomic_table.specs.Table.{Me, Act, keeps, takes, gives, chain, homes_after, carried_after, Allows}
use Rattle.atomic_table.proofs.Lists.{set_else}
use Rattle.fine_places.specs.declared.model.Placed.{Placed}
use Rattle.fine_places.specs.declared.model.Known.{Known}
use Rattle.fine_places.specs.declared.model.View.{View}
use Rattle.fine_places.specs.History.{room, touching, StartsWith, Owns, Owned}
use Rattle.fine_places.specs.Places.{Homes, PlaceState, Fits, Rules}
use Rattle.fine_places.specs.Telling.{Sees}
use Rattle.fine_places.specs.Beside.{GoesBeside, IsBehind, TakesBehind, AllowsBeside}
use Rattle.fine_places.proofs.Keeping.{around, elsewhere}

module _ {T : Type 0} where
  behind_after : (c : List (ℕ × Option T)) (a : Act (Option T)) → IsBehind c → TakesBehind a → IsBehind (carried_after c a)
  behind_after c keeps b t = b
  behind_after c (takes k y) b t = (t, b)
  behind_after [] gives b t = tt
  behind_after (z ∷ c) gives b t = b.1
  behind_after c (chain a d) b t = behind_after (carried_after c a) d (behind_after c a b t.0) t.1

  -- an act behind the places leaves their slots as they are
  homes_stay : (j : ℕ) → j ≤ room → (hs : Homes T) (c : List (ℕ × Option T)) (a : Act (Option T)) → IsBehind c → TakesBehind a → get_elem? (homes_after hs c a) j ≡ get_elem? hs j
  homes_stay j le hs c keeps b t = refl
  homes_stay j le hs c (takes k y) b t = set_else hs k j none (λ e. omega arith)
  homes_stay j le hs [] gives b t = refl
  homes_stay j le hs (z ∷ c) gives b t = set_else hs z.0 j (some z.1) (λ e. let far = b.0 in omega arith)
  homes_stay j le hs c (chain a d) b t = homes_stay j le (homes_after hs c a) (carried_after c a) d (behind_after c a b t.0) t.1 ∙ homes_stay j le hs c a b t.0

  as_many : (hs : Homes T) (c : List (ℕ × Option T)) (a : Act (Option T)) → length (homes_after hs c a) ≡ length hs
  as_many hs c keeps = refl
  as_many hs c (takes k y) = length-set hs k none
  as_many hs [] gives = refl
  as_many hs (z ∷ c) gives = length-set hs z.0 (some z.1)
  as_many hs c (chain a d) = as_many (homes_after hs c a) (carried_after c a) d ∙ as_many hs c a

-- what a seat knows stays so
fits_beside : {T X N : Type 0} (touches : ℕ → N → Bool) (seats : X → ℕ) (x : X) (p q : ℕ) (log : List (Placed N)) (words ws : List ℕ) (homes hs : Homes T) (v w : Known X N)
    → ((j : ℕ) → j ≤ room → slice_index ws j ≡ slice_index words j) → ((j : ℕ) → j ≤ room → get_elem? hs j ≡ get_elem? homes j)
    → Fits touches (seats x) x p log words homes v → GoesBeside p q log v w → Fits touches (seats x) x q log ws hs w
fits_beside touches seats x p q log words ws homes hs v w same_words same_homes f g = record {
  about = λ z e. f.about z (sym g.about ∙ e);
  seen = ⊎_elim (λ e. subst (StartsWith log) (sym e) f.seen) (λ e. subst (StartsWith log) (sym e) ([], sym (append-nil log))) g.seen;
  mine = λ m ms o. f.mine m ms (subst (λ ps. Owns ps m ms) g.shares o);
  fronts = subst (AllByRecursion (StartsWith log)) (sym g.fronts) f.fronts;
  holds = λ j hold. let h = f.holds j (sym (ap (λ l. get_elem? l j) g.held) ∙ hold) in record {
    within = h.within;
    same = ⊎_elim (λ e. ap (touching touches j) e ∙ h.same) (λ e. ap (touching touches j) e) g.seen;
    owner = subst (λ ps. Owned ps (slice_index ws j)) (sym g.shares) (subst (Owned v.shares) (sym (same_words j h.within)) h.owner);
    emptied = λ no. same_homes j h.within ∙ h.emptied (λ e. no (g.moving ∙ e));
  };
  published = g.published.0;
  holder = λ hold. g.published.2 (sym (ap (λ l. get_elem? l room) g.held) ∙ hold);
}

module _ {T X N Y : Type 0} (stands : X → ℕ → ℕ → T → List (Placed N) → Type 0) (legal : X → List (Placed N) → Type 0) (seats : X → ℕ) (touches : ℕ → N → Bool)
    (grows : (y : X) (k a b : ℕ) (thing : T) (log : List (Placed N)) → k < room → a ≤ b → stands y k a thing log → stands y k b thing log)
    (also : X → ℕ → List (Placed N) → PlaceState T X N Y → Type 0) (x : X) where
  pub beside_allows : (slots id : ℕ) (me : Me (Option T) (View X N Y)) (i : ℕ) (f : ℕ → ℕ) (then : ℕ → Me (Option T) (View X N Y) → Type 0) → room < i → IsBehind me.1
      → AllowsBeside legal touches also x slots id me i f then → Allows (Rules stands legal seats touches also x) slots id me i f then
  beside_allows slots id me i f then far behind step s r deep at small =
      let v : View X N Y = me.0 in
      let fit = r.places.each_view id v at in
      let sees : Sees legal touches x r.published v.places r.log = record { lawful = r.places.is_legal; longer = fit.seen; mine = λ n ms o. (fit.mine n ms o).0; holds = λ j h. (fit.holds j h).same; holder = fit.holder } in
      let g = step r.published r.log s r.beside (around stands legal seats touches x s r.published r.log r.places) deep at small fit.about sees in
      let q : ℕ = g.0 in
      let w : View X N Y = g.1 in
      let a : Act (Option T) = g.2 in
      let goes = g.3 in
      let ws : List ℕ = set s.words i (f (slice_index s.words i)) in
      let hs : Homes T = homes_after s.homes me.1 a in
      let words : (j : ℕ) → j ≤ room → slice_index ws j ≡ slice_index s.words j = λ j le. get_or-set_other s.words i j (f (slice_index s.words i)) 0 (λ e. omega arith) in
      let homes : (j : ℕ) → j ≤ room → get_elem? hs j ≡ get_elem? s.homes j = λ j le. homes_stay j le s.homes me.1 a behind g.4 in (
        w,
        a,
        g.5,
        record {
          log = r.log;
          published = q;
          places = elsewhere stands legal seats touches x grows s r.published q r.log r.places id v w at ws hs
              (subst (λ l. suc room ≤ l) (sym (length-set s.words i (f (slice_index s.words i)))) r.places.wide) (subst (λ l. suc room ≤ l) (sym (as_many s.homes me.1 a)) r.places.deep)
              words homes goes.rise goes.raised (fits_beside touches seats x r.published q r.log s.words ws s.homes hs v.places w.places words homes fit goes) goes.shares
              (λ e. ⊎_elim (λ same. same ∙ e) (λ now. now) goes.seen) (λ j hold. ap (λ l. get_elem? l j) goes.held ∙ hold);
          beside = g.6;
        },
        g.7,
      )
