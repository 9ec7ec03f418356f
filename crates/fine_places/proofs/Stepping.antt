-- A place is taken, and its slot is moved in and out of the seat's hand.
use Rattle.std.proofs.Common.{◌≡◌, ◌≢◌, ℕ, ◌<◌, ◌≤◌, eqb, List, [], ◌∷◌, length, slice_index, set, Bool, true, false, Option, Some, None, sym, refl, ap, ◌∙◌, subst, inl, inr, ⊎_elim, arith, le_refl, get_or-set_other, get_or-set_same, append-nil, true≢false}
use Rattle.std.proofs.lemmas.List.{set-get_or}
use mathlib.Core.Option as maybe
use mathlib.Core.Option.{none, some, some-injective}
use lib.ListN.{get_elem?}
use prog.Atomic.{either}
use Rattle.atomic_table.specs.Table.{Me, Act, step, keeps, takes, gives, Valid, stepped, carried_after, Allows}
use Rattle.atomic_table.proofs.Lists.{set_else, set_here, set_again, exchanged}
use Rattle.fine_places.specs.declared.model.Placed.{Placed}
use Rattle.fine_places.specs.declared.model.Known.{Known}
use Rattle.fine_places.specs.declared.model.View.{View}
use Rattle.fine_places.specs.History.{room, Owned}
use Rattle.fine_places.specs.Places.{Holds, Emptied, PlaceState, Fits, Home, Away, Keeps, Rules, taking, finding, moving}
use Rattle.fine_places.specs.Telling.{at_room, Finds, took, settled, fetched, moves}
use Rattle.fine_places.specs.Beside.{changed, Stays, Takes}
use Rattle.fine_places.proofs.Lists.{decide, is_there, set_at, not_some, some_inj, at_room_elim}
use Rattle.fine_places.proofs.Keeping.{grown_none, around, one_holder, nobody, moved, elsewhere}

module _ {T X N Y : Type 0} (stands : X → ℕ → ℕ → T → List (Placed N) → Type 0) (legal : X → List (Placed N) → Type 0) (seats : X → ℕ) (touches : ℕ → N → Bool)
    (grows : (y : X) (k a b : ℕ) (thing : T) (log : List (Placed N)) → k < room → a ≤ b → stands y k a thing log → stands y k b thing log) (x : X) where
  -- a place at home is taken, and its slot is in hand
  pub take_keeps : (s : PlaceState T X N Y) (p : ℕ) (log : List (Placed N)) (r : Keeps stands legal seats touches x p log s) (id k number : ℕ) (v : View X N Y) (y : Y) → get_elem? s.views id ≡ some v
      → k ≤ room → v.places.moving ≡ None → Owned v.places.shares number → get_elem? v.places.held k ≡ some false → slice_index s.words k ≡ 0
      → Keeps stands legal seats touches x p log (changed s k number none id (record { places = taking v.places k log p; beside = y }))
  take_keeps s p log r id k number v y at le idle own vacant free =
      let w : View X N Y = record { places = taking v.places k log p; beside = y } in
      let f = r.each_view id v at in
      let lt : k < length s.words = let wide = r.wide in omega arith in
      let mine : Fits touches (seats x) x p log (set s.words k number) (set s.homes k none) w.places = record {
        about = f.about;
        seen = ([], sym (append-nil log));
        mine = f.mine;
        fronts = f.fronts;
        holds = λ i hold. ⊎_elim
            (λ (e : i ≡ k). record {
              within = subst (λ j. j ≤ room) (sym e) le;
              same = refl;
              owner = subst (Owned v.places.shares) (sym (ap (slice_index (set s.words k number)) e ∙ get_or-set_same s.words k number 0 lt)) own;
              emptied = λ no. absurd (no (ap Some (sym e)));
            })
            (λ (ne : i ≢ k). let g = f.holds i (sym (set_else v.places.held k i true ne) ∙ hold) in record {
              within = g.within;
              same = refl;
              owner = subst (Owned v.places.shares) (sym (get_or-set_other s.words k i number 0 ne)) g.owner;
              emptied = λ no. set_else s.homes k i none ne ∙ g.emptied (not_some v.places.moving i idle);
            })
            (decide i k);
        published = le_refl p;
        holder = λ _. refl;
      } in
      moved stands legal seats touches x grows s p p log log r id v w at k number none (grown_none r.is_legal r.authors (le_refl p) (inl refl))
      (λ j u _ at' h. nobody stands legal seats touches x s p log r k j u free at' h) mine (λ m o. o) (λ m o. o)
      (λ j ne h. set_else v.places.held k j true ne ∙ h) (inl (refl, (number, own))) (inr (record { who = id; view = w; there = set_at s.views id v w at; holds = set_at v.places.held k false true vacant }))

  -- The empty slot of a held place comes into hand, or goes home: what the seat has in hand then says which.
  slot_moved : (s : PlaceState T X N Y) (p : ℕ) (log : List (Placed N)) (r : Keeps stands legal seats touches x p log s) (id k : ℕ) (v : View X N Y) → get_elem? s.views id ≡ some v → Holds v.places k
      → (h : maybe.Option (Option T)) (m : Option ℕ) → ((i : ℕ) → Holds v.places i → m ≢ Some i → Emptied (set s.homes k h) i)
      → Keeps stands legal seats touches x p log (changed s k (slice_index s.words k) h id (moves v m))
  slot_moved s p log r id k v at held h m emptied =
      let w : View X N Y = moves v m in
      let found : ℕ = slice_index s.words k in
      let f = r.each_view id v at in
      let mine : Fits touches (seats x) x p log (set s.words k found) (set s.homes k h) w.places = record {
        about = f.about;
        seen = f.seen;
        mine = f.mine;
        fronts = f.fronts;
        holds = λ i hold. let g = f.holds i hold in record {
          within = g.within;
          same = g.same;
          owner = subst (λ (ws : List ℕ). Owned v.places.shares (slice_index ws i)) (sym (set-get_or s.words k 0)) g.owner;
          emptied = emptied i hold;
        };
        published = f.published;
        holder = f.holder;
      } in
      moved stands legal seats touches x grows s p p log log r id v w at k found h (grown_none r.is_legal r.authors (le_refl p) (inl refl))
      (λ j u ne at' hold. ne (one_holder stands legal seats touches x s p log r j id k u v at' at hold held)) mine (λ m o. o) (λ m o. o) (λ j ne hold. hold)
      (inr (refl, λ e. e)) (inr (record { who = id; view = w; there = set_at s.views id v w at; holds = held }))

  -- the empty slot of a held place goes home
  pub settle_keeps : (s : PlaceState T X N Y) (p : ℕ) (log : List (Placed N)) (r : Keeps stands legal seats touches x p log s) (id k : ℕ) (v : View X N Y) → get_elem? s.views id ≡ some v
      → k ≤ room → v.places.moving ≡ Some k → Holds v.places k
      → Keeps stands legal seats touches x p log (changed s k (slice_index s.words k) (some None) id (moves v None))
  settle_keeps s p log r id k v at le out held = slot_moved s p log r id k v at held (some None) None (λ i hold no. ⊎_elim
      (λ (e : i ≡ k). ap (get_elem? (set s.homes k (some None))) e ∙ set_here s.homes k (some None) (let deep = r.deep in omega arith))
      (λ (ne : i ≢ k). set_else s.homes k i (some None) ne ∙ ((r.each_view id v at).holds i hold).emptied (λ q. ne (some_inj i k (sym q ∙ out))))
      (decide i k))

  -- the empty slot of a held place comes into hand
  pub fetch_keeps : (s : PlaceState T X N Y) (p : ℕ) (log : List (Placed N)) (r : Keeps stands legal seats touches x p log s) (id k : ℕ) (v : View X N Y) → get_elem? s.views id ≡ some v
      → k ≤ room → v.places.moving ≡ None → Holds v.places k
      → Keeps stands legal seats touches x p log (changed s k (slice_index s.words k) none id (moves v (Some k)))
  fetch_keeps s p log r id k v at le out held = slot_moved s p log r id k v at held none (Some k)
      (λ i hold no. set_else s.homes k i none (λ e. no (ap Some (sym e))) ∙ ((r.each_view id v at).holds i hold).emptied (not_some v.places.moving i out))

-- ---- under the rule of the table

module _ {T X N Y : Type 0} (stands : X → ℕ → ℕ → T → List (Placed N) → Type 0) (legal : X → List (Placed N) → Type 0) (seats : X → ℕ) (touches : ℕ → N → Bool)
    (grows : (y : X) (k a b : ℕ) (thing : T) (log : List (Placed N)) → k < room → a ≤ b → stands y k a thing log → stands y k b thing log)
    (also : X → ℕ → List (Placed N) → PlaceState T X N Y → Type 0) (stays : Stays also) (x : X) where
  -- a seat moves the slot of a place that it holds
  moves_beside : (s : PlaceState T X N Y) (r : Rules stands legal seats touches also x s) (id k : ℕ) (v : View X N Y) (o : Option ℕ) (h : maybe.Option (Option T)) → get_elem? s.views id ≡ some v → k ≤ room → Holds v.places k
      → also x r.published r.log (changed s k (slice_index s.words k) h id (moves v o))
  moves_beside s r id k v o h at le held = let f = r.places.each_view id v at in
      stays x r.published r.log s r.beside (around stands legal seats touches x s r.published r.log r.places) k (slice_index s.words k) h id v (moving v.places o)
      (record {
        there = at;
        where_it_is = ⊎_elim
            (λ (e : k ≡ room). let hold : Holds v.places room = subst (Holds v.places) e held in
            inr (e, (λ z. nobody stands legal seats touches x s r.published r.log r.places room id v z at hold), ap (slice_index s.words) e))
            (λ (ne : k ≢ room). inl (omega arith))
            (decide k room);
        same_room = refl;
        about = refl;
        shares = refl;
        seen = ([], sym (append-nil v.places.seen));
        published = le_refl v.places.published;
      })
      f.published f.seen

  pub settles : (slots id : ℕ) (v : View X N Y) (k : ℕ) (c : List (ℕ × Option T)) → k ≤ room → v.places.moving ≡ Some k → Holds v.places k
      → Allows (Rules stands legal seats touches also x) slots id (v, (k, None) ∷ c) k (λ n. n) (settled (step slots k 0 0 none) (v, (k, None) ∷ c))
  settles slots id v k c le out held s r deep at small = (
    moves v None,
    gives,
    tt,
    record {
      log = r.log;
      published = r.published;
      places = settle_keeps stands legal seats touches grows x s r.published r.log r.places id k v at le out held;
      beside = moves_beside s r id k v None (some None) at le held;
    },
    (refl, refl),
  )

  pub fetches : (slots id : ℕ) (me : Me (Option T) (View X N Y)) (k : ℕ) → k ≤ room → me.0.places.moving ≡ None → Holds me.0.places k
      → Allows (Rules stands legal seats touches also x) slots id me k (λ n. n) (fetched (step slots k 0 0 none) me)
  fetches slots id me k le out held s r deep at small = (
    moves me.0 (Some k),
    takes k None,
    ((r.places.each_view id me.0 at).holds k held).emptied (not_some me.0.places.moving k out),
    record {
      log = r.log;
      published = r.published;
      places = fetch_keeps stands legal seats touches grows x s r.published r.log r.places id k me.0 at le out held;
      beside = moves_beside s r id k me.0 (Some k) none at le held;
    },
    (refl, refl),
  )

  -- a seat finds a place held, and nothing changes but that it knows it
  finds_held : (s : PlaceState T X N Y) (r : Rules stands legal seats touches also x s) (id k : ℕ) (v : View X N Y) → get_elem? s.views id ≡ some v → k ≤ room → slice_index s.words k ≢ 0
      → Rules stands legal seats touches also x record { words = set s.words k (slice_index s.words k); homes = s.homes; views = set s.views id (record { places = finding v.places k (slice_index s.words k); beside = v.beside }) }
  finds_held s r id k v at le busy =
      let found : ℕ = slice_index s.words k in
      let w : Known X N = finding v.places k found in
      let f = r.places.each_view id v at in
      let h = is_there s.homes k (let deep = r.places.deep in omega arith) in
      record {
        log = r.log;
        published = r.published;
        places = subst (λ (ws : List ℕ). Keeps stands legal seats touches x r.published r.log record { words = ws; homes = s.homes; views = set s.views id (record { places = w; beside = v.beside }) }) (sym (set-get_or s.words k 0))
            (elsewhere stands legal seats touches x grows s r.published r.published r.log r.places id v (record { places = w; beside = v.beside }) at s.words s.homes r.places.wide r.places.deep (λ j _. refl) (λ j _. refl) (le_refl r.published) (inl refl)
            (record { about = f.about; seen = f.seen; mine = f.mine; fronts = f.fronts; holds = λ i hold. let g = f.holds i hold in record { within = g.within; same = g.same; owner = g.owner; emptied = g.emptied }; published = f.published; holder = f.holder })
            refl (λ e. e) (λ _ h. h));
        beside = subst (λ (hs : List (maybe.Option (Option T))). also x r.published r.log record { words = set s.words k found; homes = hs; views = set s.views id (record { places = w; beside = v.beside }) }) (set_again s.homes k h.0 h.1)
            (stays x r.published r.log s r.beside (around stands legal seats touches x s r.published r.log r.places) k found h.0 id v w
            (record {
              there = at;
              where_it_is = ⊎_elim (λ (e : k ≡ room). inr (e, (λ z. busy (ap (slice_index s.words) e ∙ z)), ap (slice_index s.words) e)) (λ (ne : k ≢ room). inl (omega arith)) (decide k room);
              same_room = refl;
              about = refl;
              shares = refl;
              seen = ([], sym (append-nil v.places.seen));
              published = le_refl v.places.published;
            })
            f.published f.seen);
      }

  pub takes_place : (taken : Y → T → Y) (learns : X → Y → T → Type 0) → Takes also taken learns
      → (slots id : ℕ) (me : Me (Option T) (View X N Y)) (k number : ℕ) → k ≤ room → me.0.places.moving ≡ None → Owned me.0.places.shares number → get_elem? me.0.places.held k ≡ some false
      → Allows (Rules stands legal seats touches also x) slots id me k (λ n. either (eqb n 0) number n) (took stands legal seats touches taken learns (step slots k 0 number none) me)
  takes_place taken learns law slots id me k number le idle own vacant s r deep at small =
      let v : View X N Y = me.0 in
      let found : ℕ = slice_index s.words k in
      let f = r.places.each_view id v at in
      let not_held : ¬ Holds v.places k = λ h. true≢false (some-injective _ _ (sym h ∙ vacant)) in
      let pos : 0 < number = (f.mine number own.0 own.1).1 in
      exchanged found 0 number
      (λ new. (w : View X N Y) × (a : Act (Option T)) × Valid s.homes me.1 a × Rules stands legal seats touches also x (stepped s k new id me.1 w a) × took stands legal seats touches taken learns (step slots k 0 number none) me found (w, carried_after me.1 a))
      (λ hit.
      let home : Home stands touches x r.published r.log s.words s.homes k = ⊎_elim (λ a. a) (λ a. absurd (nobody stands legal seats touches x s r.published r.log r.places k a.who a.view hit a.there a.holds)) (r.places.each_place k le) in
      let y : T = home.thing in
      let w : View X N Y = record { places = taking v.places k r.log r.published; beside = at_room k (taken v.beside y) v.beside } in
      let at_law = λ (e : k ≡ room). law x r.published r.log s r.beside (around stands legal seats touches x s r.published r.log r.places) number id v y at own pos (ap (get_elem? v.places.held) (sym e) ∙ vacant) (ap (slice_index s.words) (sym e) ∙ hit) (ap (get_elem? s.homes) (sym e) ∙ home.there) in (
        w,
        takes k (Some y),
        home.there,
        record {
          log = r.log;
          published = r.published;
          places = take_keeps stands legal seats touches grows x s r.published r.log r.places id k number v (at_room k (taken v.beside y) v.beside) at le idle own vacant hit;
          beside = at_room_elim k (taken v.beside y) v.beside (λ z. also x r.published r.log (changed s k number none id (record { places = taking v.places k r.log r.published; beside = z })))
              (λ (e : k ≡ room). subst (λ j. also x r.published r.log (changed s j number none id (record { places = taking v.places j r.log r.published; beside = taken v.beside y }))) (sym e) (at_law e).0)
              (λ (ne : k ≢ room). stays x r.published r.log s r.beside (around stands legal seats touches x s r.published r.log r.places) k number none id v (taking v.places k r.log r.published)
              (record {
                there = at;
                where_it_is = inl (omega arith);
                same_room = set_else v.places.held k room true (λ e. ne (sym e));
                about = refl;
                shares = refl;
                seen = f.seen;
                published = f.published;
              })
              (le_refl r.published) ([], sym (append-nil r.log)));
        },
        (
          λ _. record {
            thing = y;
            log = r.log;
            published = r.published;
            no_earlier = f.published;
            hand = refl;
            view = refl;
            found = λ z e. let is : x ≡ z = sym (f.about z e) in subst (λ z. Finds stands legal touches learns z k r.published y v r.log) is (record {
              stood = home.stood;
              sees = record { lawful = r.places.is_legal; longer = f.seen; mine = λ m ms o. (f.mine m ms o).0; holds = λ j h. (f.holds j h).same; holder = f.holder };
              learnt = λ e. (at_law e).1;
            });
          },
          λ no. absurd (no hit),
        ),
      ))
      (λ miss.
      let away : Away s.views k = ⊎_elim (λ a. absurd (miss a.word)) (λ a. a) (r.places.each_place k le) in
      let g = r.places.each_view away.who away.view away.there in
      let o = (g.holds k away.holds).owner in
      let m = g.mine found o.0 o.1 in (
        record { places = finding v.places k found; beside = v.beside },
        keeps,
        tt,
        finds_held s r id k v at le miss,
        (
          λ hit. absurd (miss hit),
          λ _. (
            record {
              places = refl;
              beside = refl;
              somebody = m.1;
              another = λ q. let same : away.who ≡ id = r.places.apart away.who id found away.view v away.there at o q in not_held (subst (λ (u : View X N Y). Holds u.places k) (some-injective _ _ (sym away.there ∙ ap (get_elem? s.views) same ∙ at)) away.holds);
              few = let few = r.places.few.1 in let le = m.2 in omega arith;
              seat = λ z e. subst (λ z. found ≤ seats z) (sym (f.about z e)) m.2;
            },
            refl,
          ),
        ),
      ))

  -- the same after a place was taken, and its thing moved out
  pub settles_taken : (slots id : ℕ) (v : View X N Y) (y : Y) (k p : ℕ) (log : List (Placed N)) (c : List (ℕ × Option T)) (m : Me (Option T) (View X N Y)) → m ≡ (record { places = taking v.places k log p; beside = y }, (k, None) ∷ c) → k ≤ room → get_elem? v.places.held k ≡ some false
      → Allows (Rules stands legal seats touches also x) slots id m k (λ n. n) (settled (step slots k 0 0 none) m)
  settles_taken slots id v y k p log c m is le vacant = subst (λ (m : Me (Option T) (View X N Y)). Allows (Rules stands legal seats touches also x) slots id m k (λ n. n) (settled (step slots k 0 0 none) m)) (sym is)
      (settles slots id (record { places = taking v.places k log p; beside = y }) k c le refl (set_at v.places.held k false true vacant))
