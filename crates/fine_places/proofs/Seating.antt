-- How a table opens, and how seats are split in two and joined.
use Rattle.std.proofs.Common.{◌≡◌, ◌≢◌, ◌⊎◌, ℕ, zero, suc, ◌<◌, ◌≤◌, List, [], ◌∷◌, ◌++◌, map, length, slice_index, set, Bool, Option, Some, sym, refl, ap, ◌∙◌, subst, inl, inr, ⊎_elim, arith, le_refl}
use Rattle.std.proofs.lemmas.List.Elements.{All-nil}
use Rattle.std.proofs.Math.Nat.{max-le}
use mathlib.Core.Option.{some, some-injective, some-ne-none}
use lib.ListN.{get_elem?, length-map}
use Rattle.atomic_table.specs.Table.{Splits, Joins, opening}
use Rattle.atomic_table.proofs.Lists.{at_set, set_else, at_longer}
use Rattle.fine_places.specs.declared.model.Placed.{Placed}
use Rattle.fine_places.specs.declared.model.View.{View}
use Rattle.fine_places.specs.History.{room, most_seats, StartsWith, Owns, Owned}
use Rattle.fine_places.specs.Places.{share, shares_of, opening_seat, spent, without_first, only_first, tail_of, head_of, joined, Holds, PlaceState, Fits, Keeps, Rules}
use Rattle.fine_places.specs.Telling.{HoldsNothing}
use Rattle.fine_places.specs.Beside as beside
use Rattle.fine_places.proofs.Keeping.{around, reseated}
use Rattle.fine_places.proofs.Lists.{decide, set_at, snoc_at, none_held, owned_first, owns_each, owns_append, owns_left, owns_right, longer_starts, longer_whole, all_append}

module _ {T X N Y : Type 0} (stands : X → ℕ → ℕ → T → List (Placed N) → Type 0) (legal : X → List (Placed N) → Type 0) (seats : X → ℕ) (touches : ℕ → N → Bool) (x : X) where
  -- a table opens with all places at home and one seat, which has all numbers
  pub opens : (ws : List ℕ) (slots : List (Option T)) (p : ℕ) (y : Y) → suc room ≤ length ws → suc room ≤ length slots → (0 < seats x) × (seats x ≤ most_seats) → legal x []
      → ((k : ℕ) → k ≤ room → slice_index ws k ≡ 0)
      → ((k : ℕ) → k ≤ room → (thing : T) × (get_elem? slots k ≡ some (Some thing)) × stands x k p thing [])
      → Keeps stands legal seats touches x p [] (opening ws slots (record { places = opening_seat (seats x) p x; beside = y }))
  opens ws slots p y wide long few lawful zero_words each = let v : View X N Y = record { places = opening_seat (seats x) p x; beside = y } in record {
    wide = wide;
    deep = subst (λ l. suc room ≤ l) (sym (length-map slots some)) long;
    few = few;
    is_legal = lawful;
    authors = All-nil _;
    each_view = λ i u e. subst (λ (u : View X N Y). Fits touches (seats x) x p [] ws (map some slots) u.places) (only v i u e) (record {
      about = λ z q. grind arith;
      seen = ([], refl);
      mine = λ n ms o. owned_first (seats x) n ms o;
      fronts = tt;
      holds = λ k h. absurd (none_held (suc room) k h);
      published = le_refl p;
      holder = λ h. refl;
    });
    each_number = λ n pos le. (0, v, refl, ([], owns_each N (seats x) n pos le));
    apart = λ i j n a b e e' o o'. at_zero v i a e ∙ sym (at_zero v j b e');
    longest = (0, v, refl, refl, (seats x, ([], owns_each N (seats x) (seats x) few.0 (le_refl (seats x)))));
    each_place = λ k le. let t = each k le in inl (record { word = zero_words k le; thing = t.0; there = mapped slots k (Some t.0) t.1; stood = t.2 });
  }
    where
      only : (v : View X N Y) (i : ℕ) (u : View X N Y) → get_elem? (v ∷ []) i ≡ some u → v ≡ u
      only v zero u e = some-injective _ _ e
      only v (suc i) u e = absurd (some-ne-none u (sym e))

      at_zero : (v : View X N Y) (i : ℕ) (u : View X N Y) → get_elem? (v ∷ []) i ≡ some u → i ≡ 0
      at_zero v zero u e = refl
      at_zero v (suc i) u e = absurd (some-ne-none u (sym e))

      mapped : (l : List (Option T)) (i : ℕ) (a : Option T) → get_elem? l i ≡ some a → get_elem? (map some l) i ≡ some (some a)
      mapped [] i a e = absurd (some-ne-none a (sym e))
      mapped (b ∷ l) zero a e = ap some e
      mapped (b ∷ l) (suc i) a e = mapped l i a e

  -- a seat that holds nothing keeps all its numbers but the greatest, which goes to a new seat
  pub cut_keeps : (s : PlaceState T X N Y) (p : ℕ) (log : List (Placed N)) (r : Keeps stands legal seats touches x p log s) (id n : ℕ) (v : View X N Y) (y z : Y) → get_elem? s.views id ≡ some v
      → v.places.shares ≡ shares_of (suc (suc n)) → HoldsNothing v
      → Keeps stands legal seats touches x p log record { words = s.words; homes = s.homes; views = set s.views id (record { places = without_first v.places; beside = y }) ++ record { places = only_first v.places; beside = z } ∷ [] }
  cut_keeps s p log r id n v y z at shares empty =
      let l : View X N Y = record { places = without_first v.places; beside = y } in
      let q : View X N Y = record { places = only_first v.places; beside = z } in
      let vs : List (View X N Y) = set s.views id l in
      let f = r.each_view id v at in
      let l_shares : l.places.shares ≡ shares_of (suc n) = ap tail_of shares in
      let q_shares : q.places.shares ≡ share (suc (suc n)) [] ∷ [] = ap head_of shares in
      let l_owns : (m : ℕ) (ms : List (Placed N)) → Owns l.places.shares m ms → Owns v.places.shares m ms = λ m ms o. subst (λ ps. Owns ps m ms) (sym shares) (inr (subst (λ ps. Owns ps m ms) l_shares o)) in
      let q_owns : (m : ℕ) (ms : List (Placed N)) → Owns q.places.shares m ms → (m ≡ suc (suc n)) × Owns v.places.shares m ms = λ m ms o. ⊎_elim (λ a. (sym a.0, subst (λ ps. Owns ps m ms) (sym shares) (inl a))) (λ a. absurd a) (subst (λ ps. Owns ps m ms) q_shares o) in
      let l_fits : Fits touches (seats x) x p log s.words s.homes l.places = record { about = f.about; seen = f.seen; mine = λ m ms o. f.mine m ms (l_owns m ms o); fronts = f.fronts; holds = λ k h. absurd (empty k h); published = f.published; holder = f.holder } in
      let q_fits : Fits touches (seats x) x p log s.words s.homes q.places = record { about = f.about; seen = f.seen; mine = λ m ms o. f.mine m ms (q_owns m ms o).1; fronts = f.fronts; holds = λ k h. absurd (none_held (suc room) k h); published = f.published; holder = λ h. absurd (none_held (suc room) room h) } in
      let low : (i m : ℕ) (a : View X N Y) → get_elem? vs i ≡ some a → Owned a.places.shares m → ¬ (m ≡ suc (suc n)) = λ i m a e o is. ⊎_elim
      (λ t. let o' = subst (λ (u : View X N Y). Owned u.places.shares m) (sym t.1) o in let h = (owned_first (suc n) m o'.0 (subst (λ ps. Owns ps m o'.0) l_shares o'.1)).2 in absurd (omega arith))
      (λ t. t.0 (r.apart i id m a v t.1 at o ([], subst (λ ps. Owns ps m []) (sym shares) (inl (sym is, refl)))))
      (at_set s.views id i l a e) in
      let both_old : (i j m : ℕ) (a b : View X N Y) → get_elem? vs i ≡ some a → get_elem? vs j ≡ some b → Owned a.places.shares m → Owned b.places.shares m → i ≡ j = λ i j m a b e e' o o'. ⊎_elim
      (λ t. ⊎_elim (λ u. t.0 ∙ sym u.0) (λ u. t.0 ∙ r.apart id j m v b at u.1 (let w = subst (λ (u : View X N Y). Owned u.places.shares m) (sym t.1) o in (w.0, l_owns m w.0 w.1)) o') (at_set s.views id j l b e'))
      (λ t. ⊎_elim (λ u. r.apart i id m a v t.1 at o (let w = subst (λ (u : View X N Y). Owned u.places.shares m) (sym u.1) o' in (w.0, l_owns m w.0 w.1)) ∙ sym u.0) (λ u. r.apart i j m a b t.1 u.1 o o') (at_set s.views id j l b e'))
      (at_set s.views id i l a e) in
      let q_number : (m : ℕ) (a : View X N Y) → q ≡ a → Owned a.places.shares m → m ≡ suc (suc n) = λ m a is o. let w = subst (λ (u : View X N Y). Owned u.places.shares m) (sym is) o in (q_owns m w.0 w.1).0 in
      let l_at : get_elem? (vs ++ q ∷ []) id ≡ some l = at_longer vs (q ∷ []) id l (set_at s.views id v l at) in
      let else_at : (i : ℕ) (u : View X N Y) → i ≢ id → get_elem? s.views i ≡ some u → get_elem? (vs ++ q ∷ []) i ≡ some u = λ i u ne e. at_longer vs (q ∷ []) i u (set_else s.views id i l ne ∙ e) in
      reseated stands legal seats touches x s p log r (vs ++ q ∷ [])
      (λ i u e. ⊎_elim
      (λ t. ⊎_elim (λ a. subst (λ (u : View X N Y). Fits touches (seats x) x p log s.words s.homes u.places) a.1 l_fits) (λ a. r.each_view i u a.1) (at_set s.views id i l u t))
      (λ t. subst (λ (u : View X N Y). Fits touches (seats x) x p log s.words s.homes u.places) t.1 q_fits)
      (snoc_at vs q u i e))
      (λ m pos le. let o = r.each_number m pos le in ⊎_elim
      (λ (e : o.0 ≡ id). let is : o.1 ≡ v = some-injective _ _ (sym o.2 ∙ ap (get_elem? s.views) e ∙ at) in
      let own = subst (λ ps. Owned ps m) shares (subst (λ (u : View X N Y). Owned u.places.shares m) is o.3) in ⊎_elim
      (λ t. (length vs, q, last_at vs q, ([], subst (λ ps. Owns ps m []) (sym q_shares) (inl (t.0, refl)))))
      (λ t. (id, l, l_at, (own.0, subst (λ ps. Owns ps m own.0) (sym l_shares) t)))
      own.1)
      (λ (e : o.0 ≢ id). (o.0, o.1, else_at o.0 o.1 e o.2, o.3))
      (decide o.0 id))
      (λ i j m a b e e' o o'. ⊎_elim
      (λ t. ⊎_elim (λ u. both_old i j m a b t u o o') (λ u. absurd (low i m a t o (q_number m b u.1 o'))) (snoc_at vs q b j e'))
      (λ t. ⊎_elim (λ u. absurd (low j m b u o' (q_number m a t.1 o))) (λ u. t.0 ∙ sym u.0) (snoc_at vs q b j e'))
      (snoc_at vs q a i e))
      (let o = r.longest in ⊎_elim
      (λ (e : o.0 ≡ id). let is : o.1 ≡ v = some-injective _ _ (sym o.2 ∙ ap (get_elem? s.views) e ∙ at) in (id, l, l_at, subst (λ (u : View X N Y). u.places.seen ≡ log) is o.3, (suc n, ([], subst (λ ps. Owns ps (suc n) []) (sym l_shares) (inl (refl, refl))))))
      (λ (e : o.0 ≢ id). (o.0, o.1, else_at o.0 o.1 e o.2, o.3, o.4))
      (decide o.0 id))
      (λ k a. ⊎_elim
      (λ (e : a.who ≡ id). absurd (empty k (subst (λ (u : View X N Y). Holds u.places k) (some-injective _ _ (sym a.there ∙ ap (get_elem? s.views) e ∙ at)) a.holds)))
      (λ (ne : a.who ≢ id). record { who = a.who; view = a.view; there = else_at a.who a.view ne a.there; holds = a.holds })
      (decide a.who id))
    where
      last_at : (l : List (View X N Y)) (a : View X N Y) → get_elem? (l ++ a ∷ []) (length l) ≡ some a
      last_at [] a = refl
      last_at (b ∷ l) a = last_at l a

  -- a seat takes over what another knows, and both hold nothing
  pub glue_keeps : (s : PlaceState T X N Y) (p : ℕ) (log : List (Placed N)) (r : Keeps stands legal seats touches x p log s) (id : ℕ) (v : View X N Y) (other : ℕ) (w : View X N Y) (y z : Y)
      → get_elem? s.views id ≡ some v → get_elem? s.views other ≡ some w → other ≢ id → HoldsNothing v → HoldsNothing w
      → Keeps stands legal seats touches x p log record { words = s.words; homes = s.homes; views = set (set s.views id (record { places = joined v.places w.places; beside = y })) other (record { places = spent; beside = z }) }
  glue_keeps s p log r id v other w y z at at' apart v_empty w_empty =
      let b : View X N Y = record { places = joined v.places w.places; beside = y } in
      let t : View X N Y = record { places = spent; beside = z } in
      let vs : List (View X N Y) = set s.views id b in
      let us : List (View X N Y) = set vs other t in
      let f = r.each_view id v at in
      let g = r.each_view other w at' in
      let b_fits : Fits touches (seats x) x p log s.words s.homes b.places = record {
        about = f.about;
        seen = longer_starts log v.places.seen w.places.seen f.seen g.seen;
        mine = λ n ms o. ⊎_elim (λ a. f.mine n ms a) (λ a. g.mine n ms a) (owns_append v.places.shares w.places.shares n ms o);
        fronts = (f.seen, (g.seen, all_append (StartsWith log) v.places.fronts w.places.fronts f.fronts g.fronts));
        holds = λ k h. absurd (v_empty k h);
        published = max-le f.published g.published;
        holder = λ h. absurd (v_empty room h);
      } in
      let t_fits : Fits touches (seats x) x p log s.words s.homes t.places = record {
        about = λ a q. grind arith;
        seen = (log, refl);
        mine = λ n ms o. absurd o;
        fronts = tt;
        holds = λ k h. absurd (some-ne-none _ (sym h));
        published = omega arith;
        holder = λ h. absurd (some-ne-none _ (sym h));
      } in
      -- who owns a number of the joined view, owned it
      let from : (m : ℕ) → Owned b.places.shares m → Owned v.places.shares m ⊎ Owned w.places.shares m = λ m o. ⊎_elim (λ a. inl (o.0, a)) (λ a. inr (o.0, a)) (owns_append v.places.shares w.places.shares m o.0 o.1) in
      let one : (j m : ℕ) (u : View X N Y) → j ≢ id → j ≢ other → get_elem? s.views j ≡ some u → Owned b.places.shares m → ¬ Owned u.places.shares m = λ j m u ne ne' e o o'. ⊎_elim
      (λ a. ne (r.apart j id m u v e at o' a)) (λ a. ne' (r.apart j other m u w e at' o' a)) (from m o) in
      let kind : (i : ℕ) (u : View X N Y) → get_elem? us i ≡ some u → (t ≡ u) ⊎ (((i ≡ id) × (b ≡ u)) ⊎ ((i ≢ id) × (i ≢ other) × (get_elem? s.views i ≡ some u))) = λ i u e. ⊎_elim
      (λ a. inl a.1) (λ a. inr (⊎_elim (λ c. inl c) (λ c. inr (c.0, a.0, c.1)) (at_set s.views id i b u a.1))) (at_set vs other i t u e) in
      let b_at : get_elem? us id ≡ some b = set_else vs other id t (λ q. apart (sym q)) ∙ set_at s.views id v b at in
      let else_at : (i : ℕ) (u : View X N Y) → i ≢ id → i ≢ other → get_elem? s.views i ≡ some u → get_elem? us i ≡ some u = λ i u ne ne' e. set_else vs other i t ne' ∙ (set_else s.views id i b ne ∙ e) in
      reseated stands legal seats touches x s p log r us
      (λ i u e. ⊎_elim (λ a. subst (λ (u : View X N Y). Fits touches (seats x) x p log s.words s.homes u.places) a t_fits)
      (λ a. ⊎_elim (λ c. subst (λ (u : View X N Y). Fits touches (seats x) x p log s.words s.homes u.places) c.1 b_fits) (λ c. r.each_view i u c.2) a) (kind i u e))
      (λ m pos le. let o = r.each_number m pos le in ⊎_elim
      (λ (e : o.0 ≡ id). let is : o.1 ≡ v = some-injective _ _ (sym o.2 ∙ ap (get_elem? s.views) e ∙ at) in let own = subst (λ (u : View X N Y). Owned u.places.shares m) is o.3 in
      (id, b, b_at, (own.0, owns_left v.places.shares w.places.shares m own.0 own.1)))
      (λ (ne : o.0 ≢ id). ⊎_elim
      (λ (e : o.0 ≡ other). let is : o.1 ≡ w = some-injective _ _ (sym o.2 ∙ ap (get_elem? s.views) e ∙ at') in let own = subst (λ (u : View X N Y). Owned u.places.shares m) is o.3 in
      (id, b, b_at, (own.0, owns_right v.places.shares w.places.shares m own.0 own.1)))
      (λ (ne' : o.0 ≢ other). (o.0, o.1, else_at o.0 o.1 ne ne' o.2, o.3))
      (decide o.0 other))
      (decide o.0 id))
      (λ i j m a c e e' o o'. ⊎_elim (λ q. absurd (subst (λ (u : View X N Y). Owned u.places.shares m) (sym q) o).1)
      (λ q. ⊎_elim (λ q'. absurd (subst (λ (u : View X N Y). Owned u.places.shares m) (sym q') o').1)
      (λ q'. ⊎_elim
      (λ d. ⊎_elim (λ d'. d.0 ∙ sym d'.0) (λ d'. absurd (one j m c d'.0 d'.1 d'.2 (subst (λ (u : View X N Y). Owned u.places.shares m) (sym d.1) o) o')) q')
      (λ d. ⊎_elim (λ d'. absurd (one i m a d.0 d.1 d.2 (subst (λ (u : View X N Y). Owned u.places.shares m) (sym d'.1) o') o)) (λ d'. r.apart i j m a c d.2 d'.2 o o') q')
      q)
      (kind j c e'))
      (kind i a e))
      (let o = r.longest in let whole = λ (q : (v.places.seen ≡ log) ⊎ (w.places.seen ≡ log)). longer_whole log v.places.seen w.places.seen f.seen g.seen q in ⊎_elim
      (λ (e : o.0 ≡ id). let is : o.1 ≡ v = some-injective _ _ (sym o.2 ∙ ap (get_elem? s.views) e ∙ at) in (
        id,
        b,
        b_at,
        whole (inl (subst (λ (u : View X N Y). u.places.seen ≡ log) is o.3)),
        let own = subst (λ (u : View X N Y). Owned u.places.shares o.4.0) is o.4.1 in (o.4.0, (own.0, owns_left v.places.shares w.places.shares o.4.0 own.0 own.1)),
      ))
      (λ (ne : o.0 ≢ id). ⊎_elim
      (λ (e : o.0 ≡ other). let is : o.1 ≡ w = some-injective _ _ (sym o.2 ∙ ap (get_elem? s.views) e ∙ at') in (
        id,
        b,
        b_at,
        whole (inr (subst (λ (u : View X N Y). u.places.seen ≡ log) is o.3)),
        let own = subst (λ (u : View X N Y). Owned u.places.shares o.4.0) is o.4.1 in (o.4.0, (own.0, owns_right v.places.shares w.places.shares o.4.0 own.0 own.1)),
      ))
      (λ (ne' : o.0 ≢ other). (o.0, o.1, else_at o.0 o.1 ne ne' o.2, o.3, o.4))
      (decide o.0 other))
      (decide o.0 id))
      (λ k a. ⊎_elim
      (λ (e : a.who ≡ other). absurd (w_empty k (subst (λ (u : View X N Y). Holds u.places k) (some-injective _ _ (sym a.there ∙ ap (get_elem? s.views) e ∙ at')) a.holds)))
      (λ (ne : a.who ≢ other). ⊎_elim
      (λ (e : a.who ≡ id). absurd (v_empty k (subst (λ (u : View X N Y). Holds u.places k) (some-injective _ _ (sym a.there ∙ ap (get_elem? s.views) e ∙ at)) a.holds)))
      (λ (ne' : a.who ≢ id). record { who = a.who; view = a.view; there = else_at a.who a.view ne' ne a.there; holds = a.holds })
      (decide a.who id))
      (decide a.who other))

-- ---- under the rule of the table

module _ {T X N Y : Type 0} (stands : X → ℕ → ℕ → T → List (Placed N) → Type 0) (legal : X → List (Placed N) → Type 0) (seats : X → ℕ) (touches : ℕ → N → Bool) (keeps : X → ℕ → List (Placed N) → PlaceState T X N Y → Type 0) (x : X) where
  pub splits : (left right : Y → Y) → beside.Splits keeps left right → (id n : ℕ) (v : View X N Y) → v.places.shares ≡ shares_of (suc (suc n)) → HoldsNothing v
      → Splits (Rules stands legal seats touches keeps x) id v (record { places = without_first v.places; beside = left v.beside }) (record { places = only_first v.places; beside = right v.beside })
  splits left right law id n v shares empty s r at = record {
    log = r.log;
    published = r.published;
    places = cut_keeps stands legal seats touches x s r.published r.log r.places id n v (left v.beside) (right v.beside) at shares empty;
    beside = law x r.published r.log s r.beside (around stands legal seats touches x s r.published r.log r.places) id n v at empty shares;
  }

  pub joins : (both : Y → Y → Y) (end : Y) → beside.Joins keeps both end → (id : ℕ) (v : View X N Y) (other : ℕ) (w : View X N Y) → HoldsNothing v → HoldsNothing w
      → Joins (Rules stands legal seats touches keeps x) id v other w (record { places = joined v.places w.places; beside = both v.beside w.beside }) (record { places = spent; beside = end })
  joins both end law id v other w v_empty w_empty s r at apart there =
      let at' : get_elem? s.views other ≡ some w = sym (set_else s.views id other (record { places = joined v.places w.places; beside = both v.beside w.beside }) apart) ∙ there in record {
        log = r.log;
        published = r.published;
        places = glue_keeps stands legal seats touches x s r.published r.log r.places id v other w (both v.beside w.beside) end at at' apart v_empty w_empty;
        beside = law x r.published r.log s r.beside (around stands legal seats touches x s r.published r.log r.places) id v other w at at' apart v_empty w_empty;
      }
