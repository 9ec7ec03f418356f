-- A place is given back, with or without an item that joins the history.
use Rattle.std.proofs.Common.{◌≡◌, ◌≢◌, ℕ, ◌<◌, ◌≤◌, List, [], ◌∷◌, ◌++◌, length, slice_index, set, Bool, true, false, Option, Some, None, ◌==◌, ◌||◌, sym, refl, ap, ◌∙◌, subst, inl, inr, ⊎_elim, arith, le_refl, get_or-set_other, get_or-set_same, append-nil, append_assoc, ne_eqb, eq-eqb, true≢false}
use Rattle.std.proofs.lemmas.List.Elements.{All-append, All-cons, All-nil}
use mathlib.Core.Option.{none, some, some-injective}
use lib.ListN.{get_elem?}
use Rattle.atomic_table.specs.Table.{Me, step, rest, gives, Allows}
use Rattle.atomic_table.proofs.Lists.{set_else, set_here}
use Rattle.fine_places.specs.declared.model.Placed.{Placed}
use Rattle.fine_places.specs.declared.model.Share.{Share}
use Rattle.fine_places.specs.declared.model.Known.{Known}
use Rattle.fine_places.specs.declared.model.View.{View}
use Rattle.fine_places.specs.History.{room, touches_place, touching, by_seat, StartsWith, Owns, Owned}
use Rattle.fine_places.specs.Places.{share, placed, grown, giving, moving, Holds, PlaceState, Fits, Keeps, Rules}
use Rattle.fine_places.specs.Telling.{at_room, MayAdd, MayGive, GivesIt, given_back, gave, moves}
use Rattle.fine_places.specs.Beside.{changed, Stays, Gives}
use Rattle.fine_places.proofs.Lists.{decide, bool_cases, set_at, some_inj, some_same, same_head, at_room_elim, filter_last, filter_more, all_map}
use Rattle.fine_places.proofs.Keeping.{grown_none, around, one_holder, moved}

module _ {T X N Y : Type 0} (stands : X → ℕ → ℕ → T → List (Placed N) → Type 0) (legal : X → List (Placed N) → Type 0) (seats : X → ℕ) (touches : ℕ → N → Bool)
    (grows : (y : X) (k a b : ℕ) (thing : T) (log : List (Placed N)) → k < room → a ≤ b → stands y k a thing log → stands y k b thing log) (x : X) where
  -- without an item
  pub give_keeps : (s : PlaceState T X N Y) (p : ℕ) (log : List (Placed N)) (r : Keeps stands legal seats touches x p log s) (id k : ℕ) (v : View X N Y) (thing : T) (y : Y) → get_elem? s.views id ≡ some v
      → k ≤ room → v.places.moving ≡ Some k → Holds v.places k → stands x k p thing (touching touches k v.places.seen)
      → Keeps stands legal seats touches x p log (changed s k 0 (some (Some thing)) id (record { places = giving v.places k None; beside = y }))
  give_keeps s p log r id k v thing y at le out held stood =
      let w : View X N Y = record { places = giving v.places k None; beside = y } in
      let f = r.each_view id v at in
      let here : k < length s.homes = let deep = r.deep in omega arith in
      let lt : k < length s.words = let wide = r.wide in omega arith in
      let gone : (i : ℕ) → i ≡ k → ¬ Holds w.places i = λ i e hold. true≢false (some-injective _ _ (sym hold ∙ ap (get_elem? w.places.held) e ∙ set_at v.places.held k true false held)) in
      let mine : Fits touches (seats x) x p log (set s.words k 0) (set s.homes k (some (Some thing))) w.places = record {
        about = f.about;
        seen = f.seen;
        mine = f.mine;
        fronts = f.fronts;
        holds = λ i hold. ⊎_elim
            (λ (e : i ≡ k). absurd (gone i e hold))
            (λ (ne : i ≢ k). let g = f.holds i (sym (set_else v.places.held k i false ne) ∙ hold) in record {
              within = g.within;
              same = g.same;
              owner = subst (Owned v.places.shares) (sym (get_or-set_other s.words k i 0 0 ne)) g.owner;
              emptied = λ no. set_else s.homes k i (some (Some thing)) ne ∙ g.emptied (λ t. ne (some_inj i k (sym t ∙ out)));
            })
            (decide i k);
        published = f.published;
        holder = λ hold. ⊎_elim (λ (e : room ≡ k). absurd (gone room e hold)) (λ (ne : room ≢ k). f.holder (sym (set_else v.places.held k room false ne) ∙ hold)) (decide room k);
      } in
      moved stands legal seats touches x grows s p p log log r id v w at k 0 (some (Some thing)) (grown_none r.is_legal r.authors (le_refl p) (inl refl))
      (λ j u ne at' h. ne (one_holder stands legal seats touches x s p log r j id k u v at' at h held)) mine (λ m o. o) (λ m o. o) (λ j ne h. set_else v.places.held k j false ne ∙ h)
      (inr (refl, λ e. e))
      (inl (record { word = get_or-set_same s.words k 0 0 lt; thing = thing; there = set_here s.homes k (some (Some thing)) here; stood = subst (stands x k p thing) (f.holds k held).same stood }))

  -- with an item, by the seat that holds the room and saw the whole history
  pub add_keeps : (s : PlaceState T X N Y) (p : ℕ) (v : View X N Y) (r : Keeps stands legal seats touches x p v.places.seen s) (id : ℕ) (thing : T) (n : N) (y : Y) → get_elem? s.views id ≡ some v
      → v.places.moving ≡ Some room → MayAdd legal touches x v.places n
      → stands x room p thing (touching touches room (v.places.seen ++ placed v.places.shares n ∷ []))
      → Keeps stands legal seats touches x p (v.places.seen ++ placed v.places.shares n ∷ []) (changed s room 0 (some (Some thing)) id (record { places = giving v.places room (Some n); beside = y }))
  add_keeps s p v r id thing n y at out may stood =
      let w : View X N Y = record { places = giving v.places room (Some n); beside = y } in
      let e : Placed N = placed v.places.shares n in
      let log : List (Placed N) = v.places.seen in
      let now : List (Placed N) = log ++ e ∷ [] in
      let held = may.room_held in
      let f = r.each_view id v at in
      let here : room < length s.homes = let deep = r.deep in omega arith in
      let lt : room < length s.words = let wide = r.wide in omega arith in
      let ms : List (Placed N) = may.before in
      let seat : may.seat ≡ e.seat = sym (ap (first_of (share may.seat [])) may.alone) in
      let own : Owns v.places.shares may.seat ms = subst (λ ps. Owns ps may.seat ms) (sym may.alone) (inl (refl, refl)) in
      let g = f.mine may.seat ms own in
      let wrote : Placed N → Type 0 = λ a. (0 < a.seat) × (a.seat ≤ seats x) in
      let shares : w.places.shares ≡ share may.seat (ms ++ e ∷ []) ∷ [] = ap (grown e) may.alone in
      let gone : (i : ℕ) → i ≡ room → ¬ Holds w.places i = λ i is hold. true≢false (some-injective _ _ (sym hold ∙ ap (get_elem? w.places.held) is ∙ set_at v.places.held room true false held)) in
      let more : (l : List (Placed N)) → StartsWith log l → StartsWith now l = λ l a. (a.0 ++ e ∷ [], ap (λ (t : List (Placed N)). t ++ e ∷ []) a.1 ∙ append_assoc l a.0 (e ∷ [])) in
      let own_item : e.seat == may.seat ≡ true = eq-eqb e.seat may.seat (sym seat) in
      let mine : Fits touches (seats x) x p now (set s.words room 0) (set s.homes room (some (Some thing))) w.places = record {
        about = f.about;
        seen = ([], sym (append-nil now));
        mine = λ m l o. ⊎_elim
            (λ t. (sym t.1 ∙ ap (λ (a : List (Placed N)). a ++ e ∷ []) g.0 ∙ sym (filter_more (λ a. a.seat == may.seat) log e own_item) ∙ ap (λ m. by_seat m now) t.0, subst (λ m. 0 < m) t.0 g.1, subst (λ m. m ≤ seats x) t.0 g.2))
            (λ t. absurd t)
            (subst (λ ps. Owns ps m l) shares o);
        fronts = all_map more v.places.fronts f.fronts;
        holds = λ i hold. ⊎_elim
            (λ (is : i ≡ room). absurd (gone i is hold))
            (λ (ne : i ≢ room). let h = f.holds i (sym (set_else v.places.held room i false ne) ∙ hold) in record {
              within = h.within;
              same = refl;
              owner = subst (λ ps. Owned ps (slice_index (set s.words room 0) i)) (sym shares) (let o = subst (λ ps. Owned ps (slice_index s.words i)) may.alone h.owner in
                  (ms ++ e ∷ [], ⊎_elim (λ t. inl (t.0 ∙ sym (get_or-set_other s.words room i 0 0 ne), refl)) (λ t. absurd t) o.1));
              emptied = λ no. set_else s.homes room i (some (Some thing)) ne ∙ h.emptied (λ t. ne (some_inj i room (sym t ∙ out)));
            })
            (decide i room);
        published = f.published;
        holder = λ _. f.holder held;
      } in
      moved stands legal seats touches x grows s p p log now r id v w at room 0 (some (Some thing))
      (record {
        lawful = may.lawful;
        wrote = All-append wrote log (e ∷ []) r.authors (All-cons wrote e [] (subst (λ m. (0 < m) × (m ≤ seats x)) seat (g.1, g.2)) (All-nil wrote));
        rise = le_refl p;
        raised = inl refl;
        more = more;
        same = λ j near no ne. filter_last (touches_place touches j) log e (⊎_elim (λ on. absurd (no (may.buckets_held j (omega arith) (in_bucket j ne on)))) (λ off. off) (bool_cases (touches_place touches j e)));
        by = λ m no. filter_last (λ a. a.seat == m) log e (ne_eqb e.seat m (λ is. no (ms, subst (λ a. Owns v.places.shares a ms) (seat ∙ is) own)));
      })
      (λ j u ne at' h. ne (one_holder stands legal seats touches x s p log r j id room u v at' at h held)) mine
      (λ m o. (ms, subst (λ ps. Owns ps m ms) (sym may.alone) (⊎_elim (λ t. inl (t.0, refl)) (λ t. absurd t) (subst (λ ps. Owns ps m o.0) shares o.1))))
      (λ m o. (ms ++ e ∷ [], subst (λ ps. Owns ps m (ms ++ e ∷ [])) (sym shares) (⊎_elim (λ t. inl (t.0, refl)) (λ t. absurd t) (subst (λ ps. Owns ps m o.0) may.alone o.1))))
      (λ j ne h. set_else v.places.held room j false ne ∙ h)
      (inl (refl, (may.seat, (ms ++ e ∷ [], subst (λ ps. Owns ps may.seat (ms ++ e ∷ [])) (sym shares) (inl (refl, refl))))))
      (inl (record { word = get_or-set_same s.words room 0 0 lt; thing = thing; there = set_here s.homes room (some (Some thing)) here; stood = stood }))
    where
      first_of : Share N → List (Share N) → ℕ
      first_of a [] = 0
      first_of a (b ∷ bs) = b.seat

      or_right : (a b : Bool) → a ≡ false → (a || b) ≡ true → b ≡ true
      or_right false b e on = on
      or_right true b e on = absurd (true≢false e)

      in_bucket : (j : ℕ) → j ≢ room → touches_place touches j (placed v.places.shares n) ≡ true → touches j n ≡ true
      in_bucket j ne on = or_right (j == room) (touches j n) (ne_eqb j room ne) on

again : {X N : Type 0} (v : Known X N) (o : Option ℕ) (k : ℕ) (n : Option N) → giving (moving v o) k n ≡ giving v k n
again v o k None = refl
again v o k (Some n) = refl

-- ---- under the rule of the table

module _ {T X N Y : Type 0} (stands : X → ℕ → ℕ → T → List (Placed N) → Type 0) (legal : X → List (Placed N) → Type 0) (seats : X → ℕ) (touches : ℕ → N → Bool)
    (grows : (y : X) (k a b : ℕ) (thing : T) (log : List (Placed N)) → k < room → a ≤ b → stands y k a thing log → stands y k b thing log)
    (also : X → ℕ → List (Placed N) → PlaceState T X N Y → Type 0) (stays : Stays also)
    (given : Y → T → Y) (owes : X → ℕ → List (Placed N) → Option N → Y → T → Type 0) (law : Gives also given owes) (x : X) where
  -- the room is given back, with an item or none
  give_room : (s : PlaceState T X N Y) (p : ℕ) (v : View X N Y) (r : Keeps stands legal seats touches x p v.places.seen s) → also x p v.places.seen s → (id : ℕ) (thing : T) (item : Option N) → get_elem? s.views id ≡ some v
      → v.places.moving ≡ Some room → Holds v.places room → MayGive legal touches x v.places item
      → stands x room p thing (touching touches room (giving v.places room item).seen)
      → owes x p v.places.seen item v.beside thing
      → Rules stands legal seats touches also x (changed s room 0 (some (Some thing)) id (record { places = giving v.places room item; beside = given v.beside thing }))
  give_room s p v r b id thing None at out held may stood owed = record {
    log = v.places.seen;
    published = p;
    places = give_keeps stands legal seats touches grows x s p v.places.seen r id room v thing (given v.beside thing) at (le_refl room) out held stood;
    beside = law x p v.places.seen s b (around stands legal seats touches x s p v.places.seen r) id v thing None at held refl owed;
  }
  give_room s p v r b id thing (Some n) at out held may stood owed = record {
    log = v.places.seen ++ placed v.places.shares n ∷ [];
    published = p;
    places = add_keeps stands legal seats touches grows x s p v r id thing n (given v.beside thing) at out may stood;
    beside = law x p v.places.seen s b (around stands legal seats touches x s p v.places.seen r) id v thing (Some n) at held refl owed;
  }

  -- a bucket is given back
  give_bucket : (s : PlaceState T X N Y) (r : Rules stands legal seats touches also x s) (id k : ℕ) (v : View X N Y) (thing : T) → get_elem? s.views id ≡ some v
      → k < room → v.places.moving ≡ Some k → Holds v.places k → stands x k v.places.published thing (touching touches k v.places.seen)
      → Rules stands legal seats touches also x (changed s k 0 (some (Some thing)) id (record { places = giving v.places k None; beside = v.beside }))
  give_bucket s r id k v thing at lt out held stood = let f = r.places.each_view id v at in record {
    log = r.log;
    published = r.published;
    places = give_keeps stands legal seats touches grows x s r.published r.log r.places id k v thing v.beside at (omega arith) out held
        (grows x k v.places.published r.published thing (touching touches k v.places.seen) lt f.published stood);
    beside = stays x r.published r.log s r.beside (around stands legal seats touches x s r.published r.log r.places) k 0 (some (Some thing)) id v (giving v.places k None)
        (record { there = at; where_it_is = inl lt; same_room = set_else v.places.held k room false (λ e. omega arith); about = refl; shares = refl; seen = ([], sym (append-nil v.places.seen)); published = le_refl v.places.published })
        f.published f.seen;
  }

  module _ (adds : Y → T → Option N) where
    gives_place : (slots id : ℕ) (v : View X N Y) (k : ℕ) (y : T) (c : List (ℕ × Option T)) → k ≤ room → v.places.moving ≡ Some k → Holds v.places k
        → GivesIt stands legal touches adds owes x k v y
        → Allows (Rules stands legal seats touches also x) slots id (v, (k, Some y) ∷ c) k (λ _. 0) (λ _. gave adds given (step slots k 0 0 none) (v, (k, Some y) ∷ c) 0)
    gives_place slots id v k y c le out held may s r deep at small =
        let f = r.places.each_view id v at in
        let item : Option N = adds v.beside y in
        let Goal : ℕ → Y → Type 0 = λ j z. Rules stands legal seats touches also x (changed s j 0 (some (Some y)) id (record { places = giving v.places j item; beside = z })) in (
          given_back adds given v k y,
          gives,
          tt,
          at_room_elim k (given v.beside y) v.beside (Goal k)
              (λ (e : k ≡ room).
              let hold : Holds v.places room = subst (Holds v.places) e held in
              let now = (around stands legal seats touches x s r.published r.log r.places).holder id v at hold in
              subst (λ j. Goal j (given v.beside y)) (sym e)
              (give_room s r.published v (subst (λ l. Keeps stands legal seats touches x r.published l s) (sym now.0) r.places) (subst (λ l. also x r.published l s) (sym now.0) r.beside) id y item at (out ∙ ap Some e) hold may.item
              (subst (λ n. stands x room n y (touching touches room (giving v.places room item).seen)) now.1 (subst (λ j. stands x j v.places.published y (touching touches j (giving v.places j item).seen)) e may.stood))
              (subst (λ n. owes x n v.places.seen item v.beside y) now.1 (may.owed e))))
              (λ (ne : k ≢ room).
              let none : item ≡ None = may.bucket ne in
              subst (λ (n : Option N). Rules stands legal seats touches also x (changed s k 0 (some (Some y)) id (record { places = giving v.places k n; beside = v.beside }))) (sym none)
              (give_bucket s r id k v y at (omega arith) out held (subst (λ (n : Option N). stands x k v.places.published y (touching touches k (giving v.places k n).seen)) none may.stood))),
          (λ z is. let same : y ≡ z = some_same y z (same_head _ k _ _ _ _ refl is) in (ap (given_back adds given v k) same, refl)),
        )

    may_again : (v : View X N Y) (o : Option ℕ) (k : ℕ) (y : T) → GivesIt stands legal touches adds owes x k v y → GivesIt stands legal touches adds owes x k (moves v o) y
    may_again v o k y may = record {
      bucket = may.bucket;
      item = item_again (adds v.beside y) may.item;
      stood = subst (λ (w : Known X N). stands x k v.places.published y (touching touches k w.seen)) (sym (again v.places o k (adds v.beside y))) may.stood;
      owed = may.owed;
    }
      where
        item_again : (n : Option N) → MayGive legal touches x v.places n → MayGive legal touches x (moves v o).places n
        item_again None m = tt
        item_again (Some n) m = record { lawful = m.lawful; room_held = m.room_held; buckets_held = m.buckets_held; seat = m.seat; before = m.before; alone = m.alone }

    pub gives_back : (slots id : ℕ) (v : View X N Y) (k : ℕ) (m : Me (Option T) (View X N Y)) (y : T) (c : List (ℕ × Option T)) → m ≡ (moves v (Some k), (k, Some y) ∷ c) → k ≤ room → Holds v.places k
        → GivesIt stands legal touches adds owes x k v y
        → Allows (Rules stands legal seats touches also x) slots id m k (λ _. 0) (λ _. gave adds given (step slots k 0 0 none) m 0)
    gives_back slots id v k m y c is le held may = subst (λ (m : Me (Option T) (View X N Y)). Allows (Rules stands legal seats touches also x) slots id m k (λ _. 0) (λ _. gave adds given (step slots k 0 0 none) m 0)) (sym is)
        (gives_place slots id (moves v (Some k)) k y c le refl held (may_again v (Some k) k y may))

pub gave_back : {T X N Y : Type 0} (adds : Y → T → Option N) (given : Y → T → Y) (slots : ℕ) (v : View X N Y) (k : ℕ) (m m' : Me (Option T) (View X N Y)) (y : T) (c : List (ℕ × Option T))
    → m ≡ (moves v (Some k), (k, Some y) ∷ c) → c ≡ [] → gave adds given (step slots k 0 0 none) m 0 m' → m' ≡ (given_back adds given v k y, [])
gave_back {T} {X} {N} {Y} adds given slots v k m m' y c is empty told = let e = ap (λ (m : Me (Option T) (View X N Y)). m.1) is in let p = told y (e ∙ ap (λ l. (k, Some y) ∷ rest l) (sym e)) in
    let same : given_back adds given (moves v (Some k)) k y ≡ given_back adds given v k y = λ i. record { places = again v.places (Some k) k (adds v.beside y) i; beside = at_room k (given v.beside y) v.beside } in
    λ i. ((p.0 ∙ (ap (λ (m : Me (Option T) (View X N Y)). given_back adds given m.0 k y) is ∙ same)) i, (p.1 ∙ (ap rest e ∙ empty)) i)
