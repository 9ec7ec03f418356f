-- What stays of the rule of the places when one word, one slot and one seat's view change.
use Rattle.std.proofs.Common.{◌≡◌, ◌≢◌, ◌⊎◌, ℕ, suc, ◌<◌, ◌≤◌, List, All, length, slice_index, set, Bool, Option, sym, refl, ap, ◌∙◌, subst, inl, inr, ⊎_elim, arith, length-set, get_or-set_other}
use mathlib.Core.Option as maybe
use mathlib.Core.Option.{some, some-injective}
use lib.ListN.{get_elem?}
use Rattle.atomic_table.proofs.Lists.{at_set, set_else}
use Rattle.fine_places.specs.declared.model.Placed.{Placed}
use Rattle.fine_places.specs.declared.model.View.{View}
use Rattle.fine_places.specs.History.{room, touching, by_seat, StartsWith, Owned}
use Rattle.fine_places.specs.Places.{Holds, Homes, PlaceState, Fits, Home, Away, Keeps}
use Rattle.fine_places.specs.Beside.{changed, Around}
use Rattle.fine_places.proofs.Lists.{decide, set_at, all_map, whole}

-- The history grows by what a seat adds, or stays, and the published number may rise where the seat holds the room. Nothing is new at places that it does
-- not hold, but for one, nor of the seats whose numbers it does not have.
pub record Grown {X N Y : Type 0} (legal : X → List (Placed N) → Type 0) (seats : X → ℕ) (touches : ℕ → N → Bool) (x : X) (k p q : ℕ) (log now : List (Placed N)) (v : View X N Y) : Type 0 where
  pub lawful : legal x now
  pub wrote : All (λ e. (0 < e.seat) × (e.seat ≤ seats x)) now
  pub rise : p ≤ q
  pub raised : (q ≡ p) ⊎ Holds v.places room
  pub more : (l : List (Placed N)) → StartsWith log l → StartsWith now l
  pub same : (j : ℕ) → j ≤ room → ¬ Holds v.places j → j ≢ k → touching touches j now ≡ touching touches j log
  pub by : (m : ℕ) → ¬ Owned v.places.shares m → by_seat m now ≡ by_seat m log

pub grown_none : {X N Y : Type 0} {legal : X → List (Placed N) → Type 0} {seats : X → ℕ} {touches : ℕ → N → Bool} {x : X} {k p q : ℕ} {log : List (Placed N)} {v : View X N Y}
    → legal x log → All (λ e. (0 < e.seat) × (e.seat ≤ seats x)) log → p ≤ q → (q ≡ p) ⊎ Holds v.places room → Grown legal seats touches x k p q log log v
grown_none lawful wrote rise raised = record { lawful = lawful; wrote = wrote; rise = rise; raised = raised; more = λ l a. a; same = λ j _ _ _. refl; by = λ m _. refl }

module _ {T X N Y : Type 0} (stands : X → ℕ → ℕ → T → List (Placed N) → Type 0) (legal : X → List (Placed N) → Type 0) (seats : X → ℕ) (touches : ℕ → N → Bool) (x : X) where
  -- a place has one holder
  pub one_holder : (s : PlaceState T X N Y) (p : ℕ) (log : List (Placed N)) → Keeps stands legal seats touches x p log s → (i j k : ℕ) (v u : View X N Y)
      → get_elem? s.views i ≡ some v → get_elem? s.views j ≡ some u → Holds v.places k → Holds u.places k → i ≡ j
  one_holder s p log r i j k v u at at' h h' = r.apart i j (slice_index s.words k) v u at at' ((r.each_view i v at).holds k h).owner ((r.each_view j u at').holds k h').owner

  -- the word of a place that is held is not 0
  pub word_held : (s : PlaceState T X N Y) (p : ℕ) (log : List (Placed N)) → Keeps stands legal seats touches x p log s → (i k : ℕ) (v : View X N Y)
      → get_elem? s.views i ≡ some v → Holds v.places k → 0 < slice_index s.words k
  word_held s p log r i k v at h = let f = r.each_view i v at in let o = (f.holds k h).owner in (f.mine (slice_index s.words k) o.0 o.1).1

  -- a word that is 0 is that of a place at home
  pub nobody : (s : PlaceState T X N Y) (p : ℕ) (log : List (Placed N)) → Keeps stands legal seats touches x p log s → (k j : ℕ) (u : View X N Y) → slice_index s.words k ≡ 0 → get_elem? s.views j ≡ some u → ¬ Holds u.places k
  nobody s p log r k j u z at h = let pos = word_held s p log r j k u at h in absurd (omega arith)

  -- what the places say of all seats
  pub around : (s : PlaceState T X N Y) (p : ℕ) (log : List (Placed N)) → Keeps stands legal seats touches x p log s → Around p log s
  around s p log r = record {
    wide = r.wide;
    deep = r.deep;
    seen = λ i v at. (r.each_view i v at).seen;
    published = λ i v at. (r.each_view i v at).published;
    one_holder = one_holder s p log r;
    apart = r.apart;
    holder = λ i v at h. let f = r.each_view i v at in (sym (whole touches v.places.seen) ∙ (f.holds room h).same ∙ whole touches log, f.holder h);
    busy = word_held s p log r;
  }

  -- The word and the slot of the place k change, and the view of the seat id, which becomes w. The history may grow by what the
  -- seat adds, and the published number may rise where the seat holds the room. All other places keep word and slot.
  pub others_stay : (grows : (y : X) (k a b : ℕ) (thing : T) (log : List (Placed N)) → k < room → a ≤ b → stands y k a thing log → stands y k b thing log)
      → (s : PlaceState T X N Y) (p q : ℕ) (log now : List (Placed N)) (r : Keeps stands legal seats touches x p log s) → (id : ℕ) (v w : View X N Y) → get_elem? s.views id ≡ some v
      → (k : ℕ) (ws : List ℕ) (hs : Homes T) → suc room ≤ length ws → suc room ≤ length hs
      → ((j : ℕ) → j ≤ room → j ≢ k → slice_index ws j ≡ slice_index s.words j)
      → ((j : ℕ) → j ≤ room → j ≢ k → get_elem? hs j ≡ get_elem? s.homes j)
      → Grown legal seats touches x k p q log now v
      → ((j : ℕ) (u : View X N Y) → j ≢ id → get_elem? s.views j ≡ some u → ¬ Holds u.places k)
      → Fits touches (seats x) x q now ws hs w.places
      → ((m : ℕ) → Owned w.places.shares m → Owned v.places.shares m)
      → ((m : ℕ) → Owned v.places.shares m → Owned w.places.shares m)
      → ((j : ℕ) → j ≢ k → Holds v.places j → Holds w.places j)
      → ((w.places.seen ≡ now) × ((m : ℕ) × Owned w.places.shares m)) ⊎ ((now ≡ log) × (v.places.seen ≡ log → w.places.seen ≡ now))
      → (k ≤ room → Home stands touches x q now ws hs k ⊎ Away (set s.views id w) k)
      → Keeps stands legal seats touches x q now record { words = ws; homes = hs; views = set s.views id w }
  others_stay grows s p q log now r id v w at k ws hs wide deep word_else home_else grown free own less gain keep long here =
      let vs : List (View X N Y) = set s.views id w in
      let there : get_elem? vs id ≡ some w = set_at s.views id v w at in
      let other : (j : ℕ) (u : View X N Y) → j ≢ id → get_elem? s.views j ≡ some u → Fits touches (seats x) x q now ws hs u.places = λ j u apart at'. let f = r.each_view j u at' in record {
        about = f.about;
        seen = grown.more u.places.seen f.seen;
        mine = λ m ms o. let g = f.mine m ms o in (g.0 ∙ sym (grown.by m (λ t. apart (sym (r.apart id j m v u at at' t (ms, o))))), g.1, g.2);
        fronts = all_map grown.more u.places.fronts f.fronts;
        holds = λ i hold. let g = f.holds i hold in let ne : i ≢ k = λ e. free j u apart at' (subst (Holds u.places) e hold) in record {
          within = g.within;
          same = g.same ∙ sym (grown.same i g.within (λ t. apart (sym (one_holder s p log r id j i v u at at' t hold))) ne);
          owner = subst (Owned u.places.shares) (sym (word_else i g.within ne)) g.owner;
          emptied = λ no. home_else i g.within ne ∙ g.emptied no;
        };
        published = let le = f.published in let rise = grown.rise in omega arith;
        holder = λ hold. ⊎_elim (λ (e : q ≡ p). f.holder hold ∙ sym e) (λ t. absurd (apart (sym (one_holder s p log r id j room v u at at' t hold)))) grown.raised;
      } in
      let place : (j : ℕ) → j ≤ room → j ≢ k → Home stands touches x p log s.words s.homes j ⊎ Away s.views j → Home stands touches x q now ws hs j ⊎ Away vs j = λ j near ne.
      ⊎_elim
      (λ a. let not_held : ¬ Holds v.places j = nobody s p log r j id v a.word at in
      let stood : stands x j p a.thing (touching touches j now) = subst (stands x j p a.thing) (sym (grown.same j near not_held ne)) a.stood in
      inl (record {
        word = word_else j near ne ∙ a.word;
        thing = a.thing;
        there = home_else j near ne ∙ a.there;
        stood = ⊎_elim
            (λ (e : q ≡ p). subst (λ i. stands x j i a.thing (touching touches j now)) (sym e) stood)
            (λ t. let far : j ≢ room = λ e. not_held (subst (Holds v.places) (sym e) t) in grows x j p q a.thing (touching touches j now) (omega arith) grown.rise stood)
            grown.raised;
      }))
      (λ a. inr (⊎_elim
      (λ (e : a.who ≡ id). let is : a.view ≡ v = some-injective _ _ (sym a.there ∙ ap (get_elem? s.views) e ∙ at) in record { who = id; view = w; there = there; holds = keep j ne (subst (λ (u : View X N Y). Holds u.places j) is a.holds) })
      (λ (e : a.who ≢ id). record { who = a.who; view = a.view; there = set_else s.views id a.who w e ∙ a.there; holds = a.holds })
      (decide a.who id))) in
      record {
        wide = wide;
        deep = deep;
        few = r.few;
        is_legal = grown.lawful;
        authors = grown.wrote;
        each_view = λ j u e. ⊎_elim (λ t. subst (λ (u : View X N Y). Fits touches (seats x) x q now ws hs u.places) t.1 own) (λ t. other j u t.0 t.1) (at_set s.views id j w u e);
        each_number = λ m pos le. let o = r.each_number m pos le in ⊎_elim
            (λ (e : o.0 ≡ id). let is : o.1 ≡ v = some-injective _ _ (sym o.2 ∙ ap (get_elem? s.views) e ∙ at) in (id, w, there, gain m (subst (λ (u : View X N Y). Owned u.places.shares m) is o.3)))
            (λ (e : o.0 ≢ id). (o.0, o.1, set_else s.views id o.0 w e ∙ o.2, o.3))
            (decide o.0 id);
        apart = λ i j m a b e e' o o'. ⊎_elim
            (λ t. ⊎_elim (λ u. t.0 ∙ sym u.0) (λ u. t.0 ∙ r.apart id j m v b at u.1 (less m (subst (λ (u : View X N Y). Owned u.places.shares m) (sym t.1) o)) o') (at_set s.views id j w b e'))
            (λ t. ⊎_elim (λ u. r.apart i id m a v t.1 at o (less m (subst (λ (u : View X N Y). Owned u.places.shares m) (sym u.1) o')) ∙ sym u.0) (λ u. r.apart i j m a b t.1 u.1 o o') (at_set s.views id j w b e'))
            (at_set s.views id i w a e);
        longest = ⊎_elim
            (λ t. (id, w, there, t.0, t.1))
            (λ t. let o = r.longest in ⊎_elim
            (λ (e : o.0 ≡ id). let is : o.1 ≡ v = some-injective _ _ (sym o.2 ∙ ap (get_elem? s.views) e ∙ at) in (id, w, there, t.1 (subst (λ (u : View X N Y). u.places.seen ≡ log) is o.3), (o.4.0, gain o.4.0 (subst (λ (u : View X N Y). Owned u.places.shares o.4.0) is o.4.1))))
            (λ (e : o.0 ≢ id). (o.0, o.1, set_else s.views id o.0 w e ∙ o.2, o.3 ∙ sym t.0, o.4))
            (decide o.0 id))
            long;
        each_place = λ j le. ⊎_elim (λ (e : j ≡ k). subst (λ i. Home stands touches x q now ws hs i ⊎ Away vs i) (sym e) (here (subst (λ i. i ≤ room) e le))) (λ (ne : j ≢ k). place j le ne (r.each_place j le)) (decide j k);
      }

  -- the same, by what becomes of the word and of the slot
  pub moved : (grows : (y : X) (k a b : ℕ) (thing : T) (log : List (Placed N)) → k < room → a ≤ b → stands y k a thing log → stands y k b thing log)
      → (s : PlaceState T X N Y) (p q : ℕ) (log now : List (Placed N)) (r : Keeps stands legal seats touches x p log s) → (id : ℕ) (v w : View X N Y) → get_elem? s.views id ≡ some v
      → (k n : ℕ) (h : maybe.Option (Option T))
      → Grown legal seats touches x k p q log now v
      → ((j : ℕ) (u : View X N Y) → j ≢ id → get_elem? s.views j ≡ some u → ¬ Holds u.places k)
      → Fits touches (seats x) x q now (set s.words k n) (set s.homes k h) w.places
      → ((m : ℕ) → Owned w.places.shares m → Owned v.places.shares m)
      → ((m : ℕ) → Owned v.places.shares m → Owned w.places.shares m)
      → ((j : ℕ) → j ≢ k → Holds v.places j → Holds w.places j)
      → ((w.places.seen ≡ now) × ((m : ℕ) × Owned w.places.shares m)) ⊎ ((now ≡ log) × (v.places.seen ≡ log → w.places.seen ≡ now))
      → Home stands touches x q now (set s.words k n) (set s.homes k h) k ⊎ Away (set s.views id w) k
      → Keeps stands legal seats touches x q now (changed s k n h id w)
  moved grows s p q log now r id v w at k n h grown free own less gain keep long here =
      others_stay grows s p q log now r id v w at k (set s.words k n) (set s.homes k h) (subst (λ l. suc room ≤ l) (sym (length-set s.words k n)) r.wide) (subst (λ l. suc room ≤ l) (sym (length-set s.homes k h)) r.deep)
      (λ j _ ne. get_or-set_other s.words k j n 0 ne) (λ j _ ne. set_else s.homes k j h ne) grown free own less gain keep long (λ _. here)

  -- Words and slots behind the places change, and what one seat knows, but not what it holds or added.
  pub elsewhere : (grows : (y : X) (k a b : ℕ) (thing : T) (log : List (Placed N)) → k < room → a ≤ b → stands y k a thing log → stands y k b thing log)
      → (s : PlaceState T X N Y) (p q : ℕ) (log : List (Placed N)) (r : Keeps stands legal seats touches x p log s) → (id : ℕ) (v w : View X N Y) → get_elem? s.views id ≡ some v
      → (ws : List ℕ) (hs : Homes T) → suc room ≤ length ws → suc room ≤ length hs
      → ((j : ℕ) → j ≤ room → slice_index ws j ≡ slice_index s.words j) → ((j : ℕ) → j ≤ room → get_elem? hs j ≡ get_elem? s.homes j)
      → p ≤ q → (q ≡ p) ⊎ Holds v.places room
      → Fits touches (seats x) x q log ws hs w.places → w.places.shares ≡ v.places.shares → (v.places.seen ≡ log → w.places.seen ≡ log) → ((j : ℕ) → Holds v.places j → Holds w.places j)
      → Keeps stands legal seats touches x q log record { words = ws; homes = hs; views = set s.views id w }
  elsewhere grows s p q log r id v w at ws hs wide deep words homes rise raised own shares seen keep =
      others_stay grows s p q log log r id v w at (suc room) ws hs wide deep (λ j le _. words j le) (λ j le _. homes j le) (grown_none r.is_legal r.authors rise raised)
      (λ j u _ at' hold. let within = ((r.each_view j u at').holds (suc room) hold).within in absurd (omega arith)) own
      (λ m o. subst (λ ps. Owned ps m) shares o) (λ m o. subst (λ ps. Owned ps m) (sym shares) o) (λ j _ h. keep j h) (inr (refl, seen)) (λ le. absurd (omega arith))

  -- the views alone change
  pub reseated : (s : PlaceState T X N Y) (p : ℕ) (log : List (Placed N)) (r : Keeps stands legal seats touches x p log s) (vs : List (View X N Y))
      → ((i : ℕ) (v : View X N Y) → get_elem? vs i ≡ some v → Fits touches (seats x) x p log s.words s.homes v.places)
      → ((n : ℕ) → 0 < n → n ≤ seats x → (i : ℕ) × (v : View X N Y) × (get_elem? vs i ≡ some v) × Owned v.places.shares n)
      → ((i j n : ℕ) (v u : View X N Y) → get_elem? vs i ≡ some v → get_elem? vs j ≡ some u → Owned v.places.shares n → Owned u.places.shares n → i ≡ j)
      → ((i : ℕ) × (v : View X N Y) × (get_elem? vs i ≡ some v) × (v.places.seen ≡ log) × ((n : ℕ) × Owned v.places.shares n))
      → ((k : ℕ) → Away s.views k → Away vs k)
      → Keeps stands legal seats touches x p log record { words = s.words; homes = s.homes; views = vs }
  reseated s p log r vs fit each apart longest away = record {
    wide = r.wide;
    deep = r.deep;
    few = r.few;
    is_legal = r.is_legal;
    authors = r.authors;
    each_view = fit;
    each_number = each;
    apart = apart;
    longest = longest;
    each_place = λ k le. ⊎_elim (λ a. inl a) (λ a. inr (away k a)) (r.each_place k le);
  }
