-- A call, from its buckets to its answer.
use Rattle.std.proofs.Common.{◌≡◌, ◌≢◌, ◌⊎◌, Bool, ⊎_elim, ℕ, ◌+◌, ◌<◌, ◌≤◌, true, false, nat_le, List, ◌∷◌, [], ◌++◌, Result, Ok, Err, inl, inr, refl, sym, ap, ◌∙◌, subst, arith}
use Rattle.std.specs.Prelude.{IfErr}
use Rattle.std.proofs.lemmas.Bool.Decides.{leb_tells}
use mathlib.Core.Option.{some}
use lib.ListN.{get_elem?}
use Rattle.atomic_table.specs.Seated.{TableId}
use Rattle.fine_places.specs.History as places
use Rattle.fine_model.specs.declared.Call.{Call}
use Rattle.fine_model.specs.declared.FetchFault.{FetchFault}
use Rattle.fine_model.specs.declared.FetchFault.TheVariants as fetch_fault
use Rattle.fine_model.specs.declared.Row.{Row}
use Rattle.fine_model.specs.declared.Why.TheVariants as why
use Rattle.fine_model.specs.declared.law.ViewState.{ViewState}
use Rattle.fine_model.specs.Buckets.{Began}
use Rattle.fine_model.specs.Faults.{HasRisen, last_count}
use Rattle.fine_model.specs.Views.{counting}
use Rattle.fine_model.specs.Boards.{set_of}
use Rattle.fine_model.specs.declared.Why.{Why}
use Rattle.fine_model.specs.History.{all_rows}
use Rattle.fine_model.specs.Pushed.{all_pushed}
use Rattle.node_cache.specs.Given.{OnCleanFault}
use Rattle.fine_places.proofs.Lists.{decide}
use Rattle.key_locks.proofs.Held.{far}
use Rattle.node_cache.specs.Cache.{Cache}
use Rattle.btree_nodes.specs.declared.fault.TreeFault.{TreeFault}
use Rattle.btree_nodes.specs.declared.fault.TreeFault.TheVariants.{Source, Unfit, BucketFull, Number, NoMemory}
use Rattle.btree_nodes.specs.Calls.{OnCleanAnswer}
use Rattle.txn_draft.specs.Answers.{FailsBy}
use Rattle.txn_draft.specs.Drafts.{DraftValue, IsLost}
use Rattle.txn_draft.specs.Standing.{StandsFor}
use Rattle.partition_hold.specs.Sources.{Fails, IsClean}
use Rattle.partition_hold.specs.Views.{state_of}
use Rattle.fine_hall.specs.declared.law.Beginning.{Beginning}
use Rattle.fine_hall.specs.Turns.{commits}
use Rattle.fine_hall.specs.Laws.{AreTurns, IsViewFor}
use Rattle.fine_hall.specs.Passes.{known, turns, seen, published, front_of, troubles, view_of, HasPlace, LacksPlace, IsPass}
use Rattle.fine_hall.specs.Halls.{IsAhead, UsedFront}
use Rattle.fine_hall.specs.EngineLaws.{StaysUsed}
use Rattle.fine_hall.proofs.Fronts.{front_goes_on, used_stays}
use Rattle.fine_hall.proofs.Seeing.{sees_on}
use Rattle.fine_hall.proofs.Troubles.{troubles_law}
use Rattle.key_locks.specs.Locks.{HasLock, LacksLock, AreLocksOf}
use Rattle.txn_engine.specs.declared.txn.Txn.{Txn}
use Rattle.txn_engine.specs.declared.txn.TxnFault.TheVariants as fault
use Rattle.txn_engine.specs.Faults.{after_fault, fault_of}
use Rattle.hall_rooms.specs.Rooms.{RoomPass}
use Rattle.hall_rooms.specs.Turning.{MeetsNone}
use Rattle.txn_engine.specs.Steps.{IsRefusedFor, IsShown, ReadsOr}
use Rattle.txn_engine.specs.Reads.{WereHeldOrTaken, ReadsBuckets, Traces, WasThere}
use Rattle.txn_engine.specs.Turns.{ReadsFront, StaysOpen}
use Rattle.txn_engine.specs.Txns.{CallsOr, IsOpenOn, IsOpenTxn, IsOver, KeepsCall, MeetsRead, Refuses, SaysFull, SeesCall, TakesBuckets, WantsMemory}
use Rattle.txn_engine.proofs.Failing.{after_same}
use Rattle.txn_engine.proofs.Reading.{does_as}

-- ---- the front

module _ (c : Call) (t t' : Txn) (p p' : RoomPass) (r : Result (Unit {0}) TreeFault) (f : ReadsFront c t t' p p' r) where
  before_is : front_of state_of p ≡ state_of f.before
  before_is = ap (view_of state_of) f.is_before

  after_is : front_of state_of p' ≡ state_of f.after
  after_is = ap (λ (q : RoomPass). view_of state_of q.front) f.is

  only_counts : state_of f.after ≡ counting (state_of f.before) (state_of f.after).faults
  only_counts = λ i. record {
    seat = f.later.same.place.0 i;
    buffer = f.later.same.place.1 i;
    upto = f.later.same.upto i;
    parts = f.later.same.parts i;
    region_len = f.later.same.region_len i;
    eye = record { number = f.later.same.eye.number i; regions = set_of (f.later.same.eye.regions i); told = f.later.same.eye.told i };
    faults = f.after.eye.faults;
  }

  -- the front is the one that it was, but for its counts
  pub same_front : f.after ≡ record f.before { eye = record f.before.eye { faults = f.after.eye.faults; taken = f.after.eye.taken } }
  same_front = λ i. record {
    eye = record {
      number = f.later.same.eye.number i;
      regions = f.later.same.eye.regions i;
      region_len = f.later.same.eye.region_len i;
      told = f.later.same.eye.told i;
      faults = f.after.eye.faults;
      taken = f.after.eye.taken;
    };
    parts = f.later.same.parts i;
    upto = f.later.same.upto i;
    seat = f.later.same.place.0 i;
    buffer = f.later.same.place.1 i;
    region_len = f.later.same.region_len i;
  }

  pub uses_front : UsedFront state_of p p'
  uses_front = record {
    after = f.after;
    is = f.is;
    same = only_counts ∙ ap (λ v. counting v (state_of f.after).faults) (sym before_is);
    no_lower = subst (λ (v : ViewState). v.faults ≤ (state_of f.after).faults) (sym before_is) f.later.no_lower;
  }

  faults_before : (front_of state_of p).faults ≡ f.before.eye.faults
  faults_before = ap (λ (v : ViewState). v.faults) before_is

  faults_after : (front_of state_of p').faults ≡ f.after.eye.faults
  faults_after = ap (λ (v : ViewState). v.faults) after_is

  module _ (x : Beginning) where
    -- what the pass met rose by what the front's count rose
    pub met : troubles state_of x p' + f.before.eye.faults ≡ troubles state_of x p + f.after.eye.faults
    met = let m = (troubles_law state_of x).front p p' uses_front in let b = faults_before in let a = faults_after in omega (arith, m, b, a)

    pub met_none : IsClean f.before f.after → MeetsNone x p p'
    met_none clean = let m = met in omega (arith, m, clean)

    pub met_more : troubles state_of x p ≤ troubles state_of x p'
    met_more = let m = met in let l = f.later.no_lower in omega (arith, m, l)

    pub met_read : HasRisen f.before.eye.faults f.after.eye.faults → MeetsRead x p p'
    met_read risen = ⊎_elim
        (λ (low : (nat_le f.after.eye.faults f.before.eye.faults ≡ true) × (f.after.eye.faults ≤ f.before.eye.faults)). inr (let a = faults_after in let l = low.1 in omega (arith, a, l, risen)))
        (λ (high : (nat_le f.after.eye.faults f.before.eye.faults ≡ false) × (f.before.eye.faults < f.after.eye.faults)). inl (let m = met in let l = high.1 in omega (arith, m, l)))
        (leb_tells f.after.eye.faults f.before.eye.faults)

    -- a front that is ahead shows the history
    pub is_shown : AreTurns x (turns p) → IsAhead state_of x p → IsShown x.log (published p) (seen p) f.before
    is_shown lawful ahead = let a = subst (λ v. IsViewFor x (seen p) v × (published p ≤ v.upto)) before_is (ahead.shows, ahead.reaches) in record {
      reaches = a.1;
      legal = lawful.legal;
      tells = λ e first began. a.0.tells e first began;
    }

-- ---- the whole call

module _ (z : TableId) (x : Beginning) (c : Call) (t t₂ t₃ : Txn) (p p₂ p₃ : RoomPass) (is_pass : IsPass state_of z x p₂) (number : p₂.number ≡ p.number) (stays : StaysOpen x t t₂ p p₂) (takes : TakesBuckets c t t₂ p p₂) (ahead : IsAhead state_of x p₂)
    (r : Result (Unit {0}) TreeFault) (f : ReadsFront c t₂ t₃ p₂ p₃ r) where
  used : UsedFront state_of p₂ p₃
  used = uses_front c t₂ t₃ p₂ p₃ r f

  pub still_pass : IsPass state_of z x p₃
  still_pass = front_goes_on state_of z x p₂ p₃ is_pass used

  stayed : StaysUsed state_of x p₂ p₃
  stayed = used_stays state_of x p₂ p₃ used

  pub same_number : p₃.number ≡ p.number
  same_number = stayed.same_number ∙ number

  shown : IsShown x.log (published p₂) (seen p₂) f.before
  shown = is_shown c t₂ t₃ p₂ p₃ r f x is_pass.lawful ahead

  both : IsOpenOn x.log (published p₂) (seen p₂) t₃.draft t₃.locks × ReadsOr x.log (seen p₂) c t₂.draft t₃.draft r
  both = f.reads.open_on x.log (published p₂) (seen p₂) shown stays.open_now.open_on

  locks_now : AreLocksOf t₃.locks p₃
  locks_now k low = by (stays.open_now.locks k low)
    where
      place : (P : List Bool → Type 0) → P (known p₂).held → P (known p₃).held
      place P = subst (λ q. P q.held) (sym stayed.same_known)

      by : (LacksLock t₂.locks k × LacksPlace p₂ k) ⊎ (((b : Cache) × HasLock t₂.locks k b) × HasPlace p₂ k) → (LacksLock t₃.locks k × LacksPlace p₃ k) ⊎ (((b : Cache) × HasLock t₃.locks k b) × HasPlace p₃ k)
      by (inl a) = inl (f.reads.same.lacks k low a.0, place (λ held. get_elem? held k ≡ some false) a.1)
      by (inr a) = inr (f.reads.same.has k a.0.0 low a.0.1, place (λ held. get_elem? held k ≡ some true) a.1)

  pub open_after : IsOpenTxn x t₃ p₃
  open_after = record { locks = locks_now; open_on = subst (λ q. IsOpenOn x.log q.published (commits q.seen) t₃.draft t₃.locks) (sym stayed.same_known) both.0 }

  pub ahead_after : IsAhead state_of x p₃
  ahead_after = stayed.ahead ahead

  pub sees_after : SeesCall x p p₃
  sees_after = record {
    sees = sees_on p p₂ p₃ number all_held stays.sees.sees stayed.sees;
    held = λ k low has. subst (λ q. get_elem? q.held k ≡ some true) (sym stayed.same_known) (stays.sees.held k low has);
    room = ap (λ q. get_elem? q.held places.room) stayed.same_known ∙ stays.sees.room;
    no_fewer = let a = stays.sees.no_fewer in let b = met_more c t₂ t₃ p₂ p₃ r f x in omega (arith, a, b);
  }
    where
      all_held : (k : ℕ) → k ≤ places.room → HasPlace p k → HasPlace p₂ k
      all_held k low has = ⊎_elim
          (λ (same : k ≡ places.room). subst (HasPlace p₂) (sym same) (stays.sees.room ∙ subst (HasPlace p) same has))
          (λ (other : k ≢ places.room). stays.sees.held k (far k (grind (arith, low, other))) has)
          (decide k places.room)

  takes_after : TakesBuckets c t t₃ p p₃
  takes_after = record {
    all = λ k low on. let b = takes.all k low on in f.reads.same.has k b.0 low b.1;
    others = λ k low off. f.reads.others k low off ∙ takes.others k low off;
    found = ap (λ q. q.found) stayed.same_known ∙ takes.found;
  }

  meets_after : IsClean f.before f.after → MeetsNone x p p₃
  meets_after clean = met_none c t₂ t₃ p₂ p₃ r f x clean ∙ stays.meets

  reads_after : HasRisen f.before.eye.faults f.after.eye.faults → MeetsRead x p p₃
  reads_after risen = ⊎_elim (λ (more : troubles state_of x p₂ < troubles state_of x p₃). inl (let s = stays.meets in omega (arith, more, s))) (λ (last : last_count ≤ (front_of state_of p₃).faults). inr last) (met_read c t₂ t₃ p₂ p₃ r f x risen)

  same_draft : t₃.draft ≡ t₂.draft → t₃.draft ≡ t.draft
  same_draft same = same ∙ stays.draft

  refuses_after : (cause : Why) (P : List Row → Type 0) → IsRefusedFor x.log (seen p₂) t₂.draft c cause P → Refuses x t c p₃ cause P
  refuses_after cause P h =
      subst (λ q. (e : ℕ) (first : List Row) → Began x.log e first → (all_pushed (first ++ all_rows (commits q.seen)) (t.draft.calls ++ c ∷ []) ≡ Err cause) × P ((first ++ all_rows (commits q.seen)) ++ t.draft.rows)) (sym stayed.same_known)
      (subst (λ d. IsRefusedFor x.log (seen p₂) d c cause P) stays.draft h)

  pub answer_ok : (done : Unit {0}) → r ≡ Ok done → CallsOr x c t t₃ p p₃ (Ok tt)
  answer_ok done is =
      let reads : KeepsCall c t₂.draft t₃.draft = subst (ReadsOr x.log (seen p₂) c t₂.draft t₃.draft) is both.1 in
      let clean : IsClean f.before f.after = subst (λ y. OnCleanAnswer y (IsClean f.before f.after)) is f.clean in
      (subst (λ d. KeepsCall c d t₃.draft) stays.draft reads, takes_after, meets_after clean)

  -- the draft is given up where memory ran out
  lost_after : (t₂.draft.lane ≡ t₃.draft.lane) × (t₂.draft.turn ≡ t₃.draft.turn) → WantsMemory c t (after_fault fault.NoMemory t₃) p p₃
  lost_after same = record {
    lost = (refl, sym same.0 ∙ ap (λ (d : DraftValue). d.lane) stays.draft, sym same.1 ∙ ap (λ (d : DraftValue). d.turn) stays.draft);
    takes = λ _. let now = takes_after in record { all = now.all; others = now.others; found = now.found };
  }

  pub answer_err : (fault : TreeFault) → r ≡ Err fault → CallsOr x c t (after_fault (fault_of fault) t₃) p p₃ (Err (fault_of fault))
  answer_err fault is = by fault is (subst (ReadsOr x.log (seen p₂) c t₂.draft t₃.draft) is both.1) (subst (λ y. OnCleanAnswer y (IsClean f.before f.after)) is f.clean) (subst (λ y. IfErr y (FailsBy (λ failed. Fails f.before failed f.after))) is f.fails)
    where
      like : t₃.draft ≡ t₂.draft → (t₂.draft.lane ≡ t₃.draft.lane) × (t₂.draft.turn ≡ t₃.draft.turn)
      like same = (ap (λ (d : DraftValue). d.lane) (sym same), ap (λ (d : DraftValue). d.turn) (sym same))

      source : (failed : FetchFault) → t₃.draft ≡ t₂.draft → OnCleanFault failed (IsClean f.before f.after) → Fails f.before failed f.after → CallsOr x c t (after_fault (fault_of (Source failed)) t₃) p p₃ (Err (fault_of (Source failed)))
      source fetch_fault.Failed same clean fails = (same_draft same, takes_after, reads_after fails)
      source (fetch_fault.BadRow region at) same clean fails =
          ((same_draft same, meets_after clean), takes_after, (λ e first began. let told = shown.tells e first began in fails.0 told.0 told.1), record { front = f.after; is = ap (λ q. q.front) f.is; fails = subst (λ v. Fails v (fetch_fault.BadRow region at) v) (sym (same_front c t₂ t₃ p₂ p₃ r f)) fails })
      source (fetch_fault.BadIndex region at) same clean fails =
          ((same_draft same, meets_after clean), takes_after, (λ e first began. let told = shown.tells e first began in fails.0 told.0 told.1), record { front = f.after; is = ap (λ q. q.front) f.is; fails = subst (λ v. Fails v (fetch_fault.BadIndex region at) v) (sym (same_front c t₂ t₃ p₂ p₃ r f)) fails })
      source fetch_fault.NoMemory same clean fails = lost_after (like same)

      by : (fault : TreeFault) → r ≡ Err fault → ReadsOr x.log (seen p₂) c t₂.draft t₃.draft (Err fault) → OnCleanAnswer {A = Unit {0}} (Err fault) (IsClean f.before f.after) → FailsBy (λ failed. Fails f.before failed f.after) fault
          → CallsOr x c t (after_fault (fault_of fault) t₃) p p₃ (Err (fault_of fault))
      by (Source failed) is same clean fails = source failed same clean fails
      by (Unfit id) is h clean fails = ((same_draft h.0, meets_after clean), takes_after, h.1, f.reads.unfit id is)
      by (BucketFull next depth) is h clean fails = ((same_draft h.0, meets_after clean), takes_after, refuses_after why.Bucket (SaysFull c next depth) h.1)
      by (Number id) is h clean fails = ((same_draft h.0, meets_after clean), takes_after, refuses_after why.Number (IsOver c id) h.1)
      by NoMemory is h clean fails = lost_after (⊎_elim (λ (lost : IsLost t₂.draft t₃.draft). (sym lost.1, sym lost.2)) like h)

  -- ---- the buckets

  module _ (there : WereHeldOrTaken x t t₂.locks p₂) where
    was_there : (k : ℕ) (b : Cache) → k < 256 → HasLock t₂.locks k b → WasThere x t p₃ k b
    was_there k b low h = subst (λ q. HasLock t.locks k b ⊎ (LacksLock t.locks k × StandsFor x.log k q.published b (commits q.seen))) (sym stayed.same_known) (there k b low h)

    pub reads_ok : (done : Unit {0}) → r ≡ Ok done → ReadsBuckets x c t t₃ p₃ (Ok tt)
    reads_ok done is = let g : Traces f.before t₂.locks t₃.locks t.draft t₃.draft c (Ok tt) = subst (λ d. Traces f.before t₂.locks t₃.locks d t₃.draft c (Ok tt)) stays.draft (subst (Traces f.before t₂.locks t₃.locks t₂.draft t₃.draft c) is f.traces) in record {
      front = f.before;
      now = f.after;
      later = f.later;
      is_now = ap (λ q. q.front) f.is;
      trees = Ok tt;
      answer = refl;
      each = λ k b' low on h. let b = g.each k b' low on h in (b.0, was_there k b.0 low b.1, b.2);
      finds = g.finds;
    }

    pub reads_err : (fault : TreeFault) → r ≡ Err fault → ReadsBuckets x c t (after_fault (fault_of fault) t₃) p₃ (Err (fault_of fault))
    reads_err fault is =
        let g : Traces f.before t₂.locks t₃.locks t.draft t₃.draft c (Err fault) = subst (λ d. Traces f.before t₂.locks t₃.locks d t₃.draft c (Err fault)) stays.draft (subst (Traces f.before t₂.locks t₃.locks t₂.draft t₃.draft c) is f.traces) in
        let same = after_same (fault_of fault) t₃ in record {
          front = f.before;
          now = f.after;
          later = f.later;
          is_now = ap (λ q. q.front) f.is;
          trees = Err fault;
          answer = refl;
          each = λ k b' low on h. let b = g.each k b' low on (subst (λ l. HasLock l k b') same.0 h) in
              (b.0, was_there k b.0 low b.1, does_as f.before t.draft t₃.draft (after_fault (fault_of fault) t₃).draft c fault same.1 b.0 b' b.2);
          finds = tt;
        }
