-- The buckets of a call are taken, and the mailbox is looked at.
use Rattle.std.proofs.Common.{◌≡◌, ◌≢◌, ◌⊎◌, ⊎_elim, ℕ, zero, suc, ◌<◌, ◌≤◌, Bool, true, false, true≢false, List, [], ◌∷◌, ◌++◌, slice_get, slice_set, Option, Some, None, Result, Ok, Err, inl, inr, refl, sym, ap, ◌∙◌, subst, arith, append-nil}
use Rattle.std.specs.Prelude.{MatchBool, OnOk, OnErr, IfErr}
use mathlib.Core.Option.{some}
use lib.ListN.{get_elem?}
use Rattle.fine_places.proofs.Lists.{decide, some_same}
use Rattle.fine_model.proofs.Histories.Goings.{buckets_on}
use Rattle.fine_model.proofs.Trees.CallLaw.{bucket_below}
use Rattle.fine_places.specs.History as places
use Rattle.fine_model.specs.declared.Call.{Call}
use Rattle.fine_model.specs.Buckets.{IsBucketFor}
use Rattle.fine_model.specs.Pushed.{key_of}
use Rattle.fine_model.specs.Trees.{bucket_of}
use Rattle.node_cache.specs.Cache.{Cache, IsResting, kept_at}
use Rattle.txn_draft.specs.Drafts.{is_here, is_scan}
use Rattle.txn_draft.specs.Standing.{StandsFor}
use Rattle.txn_draft.proofs.Answered.{own_here}
use Rattle.partition_hold.specs.Views.{state_of}
use Rattle.fine_hall.specs.declared.law.Beginning.{Beginning}
use Rattle.fine_hall.specs.declared.pass.Conflict.{Conflict}
use Rattle.fine_hall.specs.Turns.{commits, in_bucket}
use Rattle.fine_hall.specs.Laws.{AreTurns}
use Rattle.fine_hall.specs.Passes.{known, turns, own_turns, seen, published, found_held, HasPlace, LacksPlace}
use Rattle.fine_hall.specs.Halls.{SeesMore, KeepsPlaces, Refreshes, FindsStale, FindsHeld, IsAhead}
use Rattle.fine_hall.proofs.Bucket.{same_bucket}
use Rattle.fine_hall.proofs.Seeing.{sees_on}
use Rattle.fine_hall.proofs.Troubles.{troubles_law}
use Rattle.key_locks.specs.Locks.{HasLock, LacksLock, AreLocksOf, HasAllBelow, StopsAt, Wants, TakesLock}
use Rattle.key_locks.proofs.Held.{far, get_same, get_else, has_place, held_alike, near, not_both}
use Rattle.key_locks.proofs.Gathered.{gathers_none, gathers_one}
use Rattle.txn_engine.specs.declared.txn.Txn.{Txn}
use Rattle.hall_rooms.specs.Rooms.{RoomPass, bucket_number}
use Rattle.hall_rooms.specs.Turning.{MeetsNone}
use Rattle.txn_engine.specs.Reads.{WereHeldOrTaken, WasThere}
use Rattle.txn_engine.specs.Turns.{GathersBuckets, LocksOr, StopsFor, TakesFor, TakesOr}
use Rattle.txn_engine.specs.Txns.{IsOpenOn, IsOpenTxn}
use Rattle.txn_engine.proofs.Answering.{here_is, scan_here}
use Rattle.txn_engine.proofs.Open.{one_content, open_gathered, open_seen}

-- ---- the buckets

module _ (x : Beginning) (c : Call) (locks locks' : List (Option Cache)) (p p' : RoomPass) where
  pub takes_all : is_scan c ≡ true → (r : Result (Unit {0}) Conflict) → (done : Unit {0}) → r ≡ Ok done → HasAllBelow 256 locks' → GathersBuckets x locks locks' p p' → LocksOr x c locks locks' p p' r
  takes_all scans r done is all g = subst (LocksOr x c locks locks' p p') (sym is) (record { gathers = g; all = λ k low on. all k low; others = λ k low off. absurd (true≢false (sym (scan_here k c scans) ∙ off)) })

  pub stops_all : is_scan c ≡ true → (r : Result (Unit {0}) Conflict) (conflict : Conflict) → r ≡ Err conflict → StopsAt bucket_number kept_at IsResting x conflict.bucket conflict.owner locks locks' p p' → LocksOr x c locks locks' p p' r
  stops_all scans r conflict is s = subst (LocksOr x c locks locks' p p') (sym is) (record {
    within = s.within;
    here = scan_here conflict.bucket c scans;
    lacks = s.lacks;
    between = s.between;
    same_number = s.same_number;
    gathers = s.gathers;
    finds = s.finds;
    before = record { one = λ plain. absurd (true≢false (sym scans ∙ plain)); below = λ _. s.below; above = s.stay };
  })

  -- by cases of the answer to a scan
  pub all_or : is_scan c ≡ true → (r : Result (Unit {0}) Conflict) → OnOk r (HasAllBelow 256 locks') → OnOk r (GathersBuckets x locks locks' p p') → IfErr r (λ conflict. StopsAt bucket_number kept_at IsResting x conflict.bucket conflict.owner locks locks' p p')
      → LocksOr x c locks locks' p p' r
  all_or scans (Ok done) all g stops = takes_all scans (Ok done) done refl all g
  all_or scans (Err conflict) all g stops = stops_all scans (Err conflict) conflict refl stops

  module _ (plain : is_scan c ≡ false) (low : bucket_of (key_of c) < 256) (are : AreLocksOf locks p) where
    abbrev k : ℕ
    k = bucket_of (key_of c)

    off_other : (j : ℕ) → is_here j c ≡ false → is_here k c ≡ true → j ≢ k
    off_other j off on is = true≢false (sym (subst (λ i. is_here i c ≡ true) (sym is) on) ∙ off)

    one_taken : LacksLock locks k → Wants bucket_number kept_at IsResting x.log k locks locks' p p' → TakesFor x c locks locks' p p'
    one_taken none wants = ⊎_elim
        (λ (held : ((b : Cache) × HasLock locks k b) × (locks' ≡ locks) × (p' ≡ p)). absurd (not_both locks k held.0.0 none held.0.1))
        (λ (t : TakesLock bucket_number kept_at IsResting x.log k locks locks' p p'). record {
          gathers = gathers_one bucket_number kept_at IsResting x locks locks' p p' k t.content low none t.locked t.takes t.stands;
          all = λ j near on. (t.content, subst (λ i. HasLock locks' i t.content) (here_is j c plain on) (ap (λ l. slice_get l k) t.locked ∙ get_same locks k None (Some t.content) none));
          others = λ j near off. ap (λ l. slice_get l j) t.locked ∙ get_else locks k j (Some t.content) (off_other j off (own_here c));
        })
        wants

    pub one_or : LacksLock locks k → (r : Result (Unit {0}) Conflict) → OnOk r (Wants bucket_number kept_at IsResting x.log k locks locks' p p') → IfErr r (λ conflict. (conflict.bucket ≡ k) × LacksLock locks k × FindsHeld x k conflict.owner p p') → OnErr r (locks' ≡ locks)
        → LocksOr x c locks locks' p p' r
    one_or none (Ok done) wants stops same = one_taken none wants
    one_or none (Err conflict) wants stops same = record {
      within = subst (λ n. n < 256) (sym stops.0) low;
      here = subst (λ n. is_here n c ≡ true) (sym stops.0) (own_here c);
      lacks = subst (LacksLock locks) (sym stops.0) none;
      between = p;
      same_number = refl;
      gathers = subst (λ l. GathersBuckets x locks l p p) (sym same) (gathers_none bucket_number kept_at IsResting x locks p);
      finds = subst (λ n. FindsHeld x n conflict.owner p p') (sym stops.0) stops.2;
      before = record { one = λ _. same; below = λ scans. absurd (true≢false (sym scans ∙ plain)); above = λ j le. ap (λ l. slice_get l j) same };
    }

-- ---- the pass

-- nothing of what a pass saw changed
pub sees_turns : (p p' : RoomPass) → turns p' ≡ turns p → own_turns p' ≡ own_turns p → published p' ≡ published p → SeesMore p p'
sees_turns p p' same own number = record {
  longer = ([], same ∙ sym (append-nil (turns p)), refl);
  same_own = own;
  kept = λ j low holds. sym (ap (λ l. in_bucket j (commits l)) same);
  whole = λ holds. same;
  no_earlier = omega (arith, number);
}

pub sees_same : (p p' : RoomPass) → KeepsPlaces p p' → SeesMore p p'
sees_same p p' k = sees_turns p p' k.same_turns k.same_own k.same_published

module _ (x : Beginning) (locks locks' : List (Option Cache)) (p p' : RoomPass) (are : AreLocksOf locks p) (are' : AreLocksOf locks' p') (kept : (k : ℕ) (b : Cache) → HasLock locks k b → HasLock locks' k b) where
  -- the pass holds what it held
  pub still_held : (k : ℕ) → k < 256 → HasPlace p k → HasPlace p' k
  still_held k low holds = ⊎_elim
      (λ (a : LacksLock locks k × LacksPlace p k). absurd (not_false (known p).held k a.1 holds))
      (λ (a : ((b : Cache) × HasLock locks k b) × HasPlace p k). has_place locks' p' k a.0.0 low are' (kept k a.0.0 a.0.1))
      (are k low)
    where
      not_false : (held : List Bool) (k : ℕ) → get_elem? held k ≡ some false → get_elem? held k ≡ some true → ⊥
      not_false held k off on = let e : some false ≡ some true = sym off ∙ on in cc

  pub all_held : get_elem? (known p').held places.room ≡ get_elem? (known p).held places.room → (k : ℕ) → k ≤ places.room → HasPlace p k → HasPlace p' k
  all_held room k low holds = ⊎_elim
      (λ (same : k ≡ places.room). subst (HasPlace p') (sym same) (room ∙ subst (HasPlace p) same holds))
      (λ (other : k ≢ places.room). still_held k (far k (grind (arith, low, other))) holds)
      (decide k places.room)

module _ (x : Beginning) (c : Call) (t t' : Txn) (p p₁ : RoomPass) (before : AreTurns x (turns p)) (after : AreTurns x (turns p₁)) (number : p₁.number ≡ p.number) (o : IsOpenTxn x t p) (same : t'.draft ≡ t.draft) (are : AreLocksOf t'.locks p₁) where
  with_same : (q : RoomPass) → IsOpenOn x.log (published q) (seen q) t.draft t'.locks → IsOpenOn x.log (published q) (seen q) t'.draft t'.locks
  with_same q = subst (λ d. IsOpenOn x.log (published q) (seen q) d t'.locks) (sym same)

  -- a conflict
  pub stopped : (conflict : Conflict) → StopsFor x c t.locks t'.locks p p₁ conflict → TakesOr x c t t' p p₁ (Err conflict)
  stopped conflict s =
      let q = s.between in
      let f = s.finds in
      let there : AreLocksOf t'.locks q = held_alike t'.locks p₁ q are (λ k low. ap (λ l. get_elem? l k) (sym f.places.same_held)) in
      let sees = sees_on p q p₁ s.same_number (all_held x t.locks t'.locks p q o.locks there s.gathers.kept s.gathers.room) s.gathers.sees (sees_same q p₁ f.places) in
      let stands : (k : ℕ) (b : Cache) → k < 256 → HasLock t'.locks k b → HasLock t.locks k b ⊎ IsBucketFor bucket_number kept_at IsResting x.log k (published p₁) b (seen p₁) = λ k b low h. ⊎_elim
      (λ (was : HasLock t.locks k b). inl was)
      (λ (new : IsBucketFor bucket_number kept_at IsResting x.log k (published q) b (seen q)). inr (subst (λ n. IsBucketFor bucket_number kept_at IsResting x.log k n b (seen p₁)) (sym f.places.same_published)
      (subst (IsBucketFor bucket_number kept_at IsResting x.log k (published q) b) (sym (ap commits f.places.same_turns)) new)))
      (s.gathers.stands k b low h) in
      let meets : MeetsNone x p p₁ = ((troubles_law state_of x).same q p₁ (number ∙ sym s.same_number)).stays f.places f.views ∙ ((troubles_law state_of x).same p q s.same_number).sees s.gathers.sees s.gathers.views in (
        record {
          open_now = record { locks = are; open_on = with_same p₁ (open_gathered x p p₁ sees before after t.draft t.locks o.locks t'.locks s.gathers.kept stands are o.open_on) };
          draft = same;
          sees = record {
            sees = sees;
            held = still_held x t.locks t'.locks p p₁ o.locks are s.gathers.kept;
            room = ap (λ l. get_elem? l places.room) f.places.same_held ∙ s.gathers.room;
            no_fewer = omega (arith, meets);
          };
          meets = meets;
        },
        s.here,
        s.lacks,
        record { tried = f.tried ∙ ap (λ l. l ++ record { place = conflict.bucket; owner = conflict.owner } ∷ []) s.gathers.found; another = (f.somebody, f.seat, λ e. f.another (e ∙ sym s.same_number)) },
        s.before,
      )

  -- the buckets were taken, and the mailbox was looked at
  pub taken_for : TakesFor x c t.locks t'.locks p p₁ → (p₂ : RoomPass) → AreTurns x (turns p₂) → p₂.number ≡ p₁.number → (b : Bool) → MatchBool b (Refreshes state_of x p₁ p₂) (FindsStale p₁ p₂) → IsAhead state_of x p₂
      → TakesOr x c t t' p p₂ (Ok tt)
  taken_for k p₂ last next b looks ahead =
      let g = k.gathers in
      let look = looked b looks in
      let now : AreLocksOf t'.locks p₂ = held_alike t'.locks p₁ p₂ are (λ j low. ap (λ l. get_elem? l j) look.1) in
      let one = open_gathered x p p₁ g.sees before after t.draft t.locks o.locks t'.locks g.kept g.stands are o.open_on in
      let sees = sees_on p p₁ p₂ number (all_held x t.locks t'.locks p p₁ o.locks are g.kept g.room) g.sees look.0 in
      let meets : MeetsNone x p p₂ = ((troubles_law state_of x).same p₁ p₂ next).looks b looks ∙ ((troubles_law state_of x).same p p₁ number).sees g.sees g.views in (
        record {
          open_now = record { locks = now; open_on = with_same p₂ (open_seen x p₁ p₂ look.0 after last t.draft t'.locks are one) };
          draft = same;
          sees = record {
            sees = sees;
            held = still_held x t.locks t'.locks p p₂ o.locks now g.kept;
            room = ap (λ l. get_elem? l places.room) look.1 ∙ g.room;
            no_fewer = omega (arith, meets);
          };
          meets = meets;
        },
        record { all = k.all; others = k.others; found = look.2 ∙ g.found },
        ahead,
      )
    where
      looked : (b : Bool) → MatchBool b (Refreshes state_of x p₁ p₂) (FindsStale p₁ p₂) → SeesMore p₁ p₂ × ((known p₂).held ≡ (known p₁).held) × (found_held p₂ ≡ found_held p₁)
      looked true r = (r.sees, r.same_held, r.found)
      looked false r = (r.sees, r.same_held, r.found)

-- each bucket of a set was held, or was taken and stands for all that the pass saw
there_from : (x : Beginning) (t : Txn) (locks' : List (Option Cache)) (p p' : RoomPass) → IsOpenTxn x t p → ((k : ℕ) (b : Cache) → HasLock t.locks k b → HasLock locks' k b)
    → ((k : ℕ) (b : Cache) → k < 256 → HasLock locks' k b → HasLock t.locks k b ⊎ StandsFor x.log k (published p') b (seen p')) → WereHeldOrTaken x t locks' p'
there_from x t locks' p p' o kept stands k b low h = by (o.locks k low)
  where
    by : (LacksLock t.locks k × LacksPlace p k) ⊎ (((a : Cache) × HasLock t.locks k a) × HasPlace p k) → WasThere x t p' k b
    by (inl none) = ⊎_elim (λ (was : HasLock t.locks k b). inl was) (λ (new : StandsFor x.log k (published p') b (seen p')). inr (none.0, new)) (stands k b low h)
    by (inr had) = inl (subst (HasLock t.locks k) (one_content locks' k had.0.0 b (kept k had.0.0 had.0.1) h) had.0.1)

-- behind the mailbox
pub there_for : (x : Beginning) (c : Call) (t : Txn) (locks' : List (Option Cache)) (p p₁ p₂ : RoomPass) → IsOpenTxn x t p → AreLocksOf locks' p₁ → TakesFor x c t.locks locks' p p₁ → (b : Bool) → MatchBool b (Refreshes state_of x p₁ p₂) (FindsStale p₁ p₂)
    → WereHeldOrTaken x t locks' p₂
there_for x c t locks' p p₁ p₂ o are takes b looks = there_from x t locks' p p₂ o takes.gathers.kept (λ k y low h. on k y low h (takes.gathers.stands k y low h))
  where
    sees : (b : Bool) → MatchBool b (Refreshes state_of x p₁ p₂) (FindsStale p₁ p₂) → SeesMore p₁ p₂
    sees true r = r.sees
    sees false r = r.sees

    on : (k : ℕ) (y : Cache) → k < 256 → HasLock locks' k y → HasLock t.locks k y ⊎ IsBucketFor bucket_number kept_at IsResting x.log k (published p₁) y (seen p₁) → HasLock t.locks k y ⊎ StandsFor x.log k (published p₂) y (seen p₂)
    on k y low h (inl was) = inl was
    on k y low h (inr new) = let more = sees b looks in
        inr (buckets_on bucket_number kept_at IsResting x.log k (published p₁) (published p₂) y (seen p₂) more.no_earlier
        (same_bucket bucket_number kept_at IsResting x k (published p₁) y (seen p₁) (seen p₂) (more.kept k (near k low) (has_place locks' p₁ k y low are h)) new))

-- and where a conflict came
pub there_stopped : (x : Beginning) (c : Call) (t : Txn) (locks' : List (Option Cache)) (p p₁ : RoomPass) (conflict : Conflict) → IsOpenTxn x t p → StopsFor x c t.locks locks' p p₁ conflict → WereHeldOrTaken x t locks' p₁
there_stopped x c t locks' p p₁ conflict o s = there_from x t locks' p p₁ o s.gathers.kept (λ k y low h. on k y (s.gathers.stands k y low h))
  where
    on : (k : ℕ) (y : Cache) → HasLock t.locks k y ⊎ IsBucketFor bucket_number kept_at IsResting x.log k (published s.between) y (seen s.between) → HasLock t.locks k y ⊎ StandsFor x.log k (published p₁) y (seen p₁)
    on k y (inl was) = inl was
    on k y (inr new) = let f = s.finds in inr (subst (λ n. IsBucketFor bucket_number kept_at IsResting x.log k n y (seen p₁)) (sym f.places.same_published)
        (subst (IsBucketFor bucket_number kept_at IsResting x.log k (published s.between) y) (sym (ap commits f.places.same_turns)) new))

-- ---- a set that was looked into

pub set_same : (l : List (Option Cache)) (k : ℕ) (o : Option Cache) → slice_get l k ≡ Some o → slice_set l k o ≡ l
set_same [] k o e = refl
set_same (x ∷ xs) zero o e = let is : x ≡ o = some_same x o e in ap (λ y. y ∷ xs) (sym is)
set_same (x ∷ xs) (suc k) o e = ap (λ l. x ∷ l) (set_same xs k o e)

-- the key of a call, as it was read
pub one_by : (x : Beginning) (c : Call) (locks mid locks' : List (Option Cache)) (p p' : RoomPass) (key : List ℕ) → mid ≡ locks → key ≡ key_of c → is_scan c ≡ false → AreLocksOf locks p → LacksLock locks (bucket_of key) → (r : Result (Unit {0}) Conflict)
    → OnOk r (Wants bucket_number kept_at IsResting x.log (bucket_of key) mid locks' p p') → IfErr r (λ conflict. (conflict.bucket ≡ bucket_of key) × LacksLock mid (bucket_of key) × FindsHeld x (bucket_of key) conflict.owner p p') → OnErr r (locks' ≡ mid)
    → LocksOr x c locks locks' p p' r
one_by x c locks mid locks' p p' key same is plain are none r wants stops left =
    let all = subst (λ m. OnOk r (Wants bucket_number kept_at IsResting x.log (bucket_of key) m locks' p p') × IfErr r (λ conflict. (conflict.bucket ≡ bucket_of key) × LacksLock m (bucket_of key) × FindsHeld x (bucket_of key) conflict.owner p p') × OnErr r (locks' ≡ m)) same (wants, stops, left) in
    let keyed = subst (λ y. LacksLock locks (bucket_of y) × OnOk r (Wants bucket_number kept_at IsResting x.log (bucket_of y) locks locks' p p') × IfErr r (λ conflict. (conflict.bucket ≡ bucket_of y) × LacksLock locks (bucket_of y) × FindsHeld x (bucket_of y) conflict.owner p p')) is (none, all.0, all.1) in
    one_or x c locks locks' p p' plain (bucket_below (key_of c)) are keyed.0 r keyed.1 keyed.2 all.2
