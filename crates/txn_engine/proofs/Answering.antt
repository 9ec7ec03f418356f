-- A call that was answered through a view, on buckets that are open on a history.
use Rattle.std.proofs.Common.{◌≡◌, ◌≢◌, ◌⊎◌, ⊎_elim, ℕ, ◌<◌, ◌≤◌, ◌||◌, Bool, true, false, true≢false, List, [], ◌∷◌, ◌++◌, slice_get, slice_set, Option, Some, Result, Ok, Err, inl, inr, refl, sym, ap, ◌∙◌, subst, le_trans, eqb-true}
use Rattle.std.specs.Prelude.{OnOk, IfErr}
use Rattle.std.specs.List.{AllByRecursion, list_any}
use Rattle.fine_places.proofs.Lists.{decide}
use Rattle.fine_model.specs.declared.Call.{Call}
use Rattle.fine_model.specs.declared.Call.TheVariants as call
use Rattle.fine_model.specs.declared.NodeId.{NodeId}
use Rattle.fine_model.specs.declared.Row.{Row}
use Rattle.fine_model.specs.declared.Why.TheVariants as why
use Rattle.fine_model.specs.declared.law.Origin.{Origin}
use Rattle.fine_model.specs.Buckets.{Began}
use Rattle.fine_model.specs.History.{Commit, all_rows}
use Rattle.fine_model.specs.Pushed.{key_of}
use Rattle.fine_model.specs.Trees.{bucket_of}
use Rattle.fine_model.proofs.Ordered.Order.{all_map}
use Rattle.fine_model.proofs.Trees.PushedCalls.{pushed_stops}
use Rattle.node_cache.specs.Cache.{Cache}
use Rattle.btree_nodes.specs.declared.fault.TreeFault.{TreeFault}
use Rattle.btree_nodes.specs.declared.fault.TreeFault.TheVariants.{Source, Unfit, BucketFull, Number, NoMemory}
use Rattle.btree_nodes.specs.Calls.{IsFirstUnfit}
use Rattle.btree_nodes.specs.Faults.{OnFault}
use Rattle.btree_nodes.specs.Trees.{Holds, Restores, Serves}
use Rattle.fine_model.specs.Map.{Pair}
use Rattle.txn_draft.specs.Answers.{AnswersSoundly, LeavesDraft}
use Rattle.txn_draft.specs.Scans.{KeepsFound}
use Rattle.txn_draft.specs.Drafts.{DraftValue, FitsDraft, IsAnswered, IsLost, Keeps, is_here, is_scan}
use Rattle.txn_draft.specs.Laws.{AreElsewhere}
use Rattle.txn_draft.specs.Uses.{IsUsed, Undoes, UsedAfter}
use Rattle.open_txn.specs.Traces.{Looks}
use Rattle.txn_draft.proofs.Answered.{own_here}
use Rattle.txn_draft.proofs.Lasting.{serves_law}
use Rattle.txn_draft.proofs.Lawful.{others_law, used_law}
use Rattle.partition_hold.specs.Sources.{tells_rows}
use Rattle.partition_hold.specs.Views.{ViewValue}
use Rattle.key_locks.specs.Locks.{HasLock, LacksLock}
use Rattle.key_locks.proofs.Held.{get_same, get_else, not_both}
use Rattle.txn_engine.specs.Steps.{AnswersIn, AreServed, HasNotBegun, IsRead, IsShown, ReadsIn, ReadsOr, SameBuckets, ScansIn, UnfitBy}
use Rattle.txn_engine.specs.Reads.{DoesIn, Traces}
use Rattle.txn_engine.specs.Txns.{AreNumbered, HasAll, HasBuckets, IsAnsweredOn, IsHeld, IsOpenOn, IsUnfitIn, KeepsCall}
use Rattle.txn_engine.proofs.Open.{one_content}
use Rattle.txn_engine.proofs.Reading.{plain_does, plain_finds}

-- a call that is no scan is in the bucket of its key alone
pub here_is : (j : ℕ) (c : Call) → is_scan c ≡ false → is_here j c ≡ true → bucket_of (key_of c) ≡ j
here_is j (call.Get key) plain on = eqb-true (bucket_of key) j on
here_is j (call.Put key value) plain on = eqb-true (bucket_of key) j on
here_is j (call.Del key) plain on = eqb-true (bucket_of key) j on
here_is j (call.Add key by) plain on = eqb-true (bucket_of key) j on
here_is j (call.Scan low high limit) plain on = absurd (true≢false plain)

pub scan_here : (j : ℕ) (c : Call) → is_scan c ≡ true → is_here j c ≡ true
scan_here j (call.Get key) scans = absurd (true≢false (sym scans))
scan_here j (call.Put key value) scans = absurd (true≢false (sym scans))
scan_here j (call.Del key) scans = absurd (true≢false (sym scans))
scan_here j (call.Add key by) scans = absurd (true≢false (sym scans))
scan_here j (call.Scan low high limit) scans = refl

pub either : (b : Bool) → (b ≡ true) ⊎ (b ≡ false)
either true = inl refl
either false = inr refl

none_more : (j : ℕ) (cs : List Call) (c : Call) → list_any (is_here j) cs ≡ false → is_here j c ≡ false → list_any (is_here j) (cs ++ c ∷ []) ≡ false
none_more j [] c none off = ap (λ b. b || false) off
none_more j (a ∷ cs) c none off = by (is_here j a) none (none_more j cs c)
  where
    by : (t : Bool) → t || list_any (is_here j) cs ≡ false → (list_any (is_here j) cs ≡ false → is_here j c ≡ false → list_any (is_here j) (cs ++ c ∷ []) ≡ false) → t || list_any (is_here j) (cs ++ c ∷ []) ≡ false
    by true e rest = absurd (true≢false e)
    by false e rest = rest e off

-- a bucket is held on, where the draft or what it caches is another
held_as : (log : Origin) (number : ℕ) (history : List Commit) (d d' : DraftValue) (k : ℕ) (b b' : Cache) (h : IsHeld log number history d k b) → Undoes h.low h.taken b' → ((e : ℕ) (first : List Row) → Began log e first → Restores b' (first ++ all_rows history))
    → (d'.failed ≡ false → IsUsed h.low h.taken b' d'.rows) → (d'.failed ≡ false → (e : ℕ) (first : List Row) → Began log e first → Holds b' (first ++ all_rows history) d'.rows) → IsHeld log number history d' k b'
held_as log number history d d' k b b' h undoes restores used holds = record { taken = h.taken; low = h.low; reached = h.reached; stood = h.stood; undoes = undoes; restores = restores; used = used; holds = holds }

-- and so it is where it is used for the draft's rows
used_on : (log : Origin) (number : ℕ) (history : List Commit) (d d' : DraftValue) (k : ℕ) (b b' : Cache) (h : IsHeld log number history d k b) → IsUsed h.low h.taken b' d'.rows
    → ((e : ℕ) (first : List Row) → Began log e first → Holds b' (first ++ all_rows history) d'.rows) → IsHeld log number history d' k b'
used_on log number history d d' k b b' h used holds = held_as log number history d d' k b b' h used.undoes (λ e first began. (holds e first began).restores) (λ _. used) (λ _. holds)

-- what a bucket holds, where only the draft is another, with the same rows
with_draft : (log : Origin) (number : ℕ) (history : List Commit) (d d' : DraftValue) (k : ℕ) (b : Cache) → d'.rows ≡ d.rows → (d'.failed ≡ false → d.failed ≡ false) → IsHeld log number history d k b → IsHeld log number history d' k b
with_draft log number history d d' k b rows ok h = held_as log number history d d' k b b h h.undoes h.restores
    (λ now. subst (IsUsed h.low h.taken b) (sym rows) (h.used (ok now)))
    (λ now e first began. subst (Holds b (first ++ all_rows history)) (sym rows) (h.holds (ok now) e first began))

-- a draft that is lost holds what undoing restores
pub lost_held : (log : Origin) (number : ℕ) (history : List Commit) (d d' : DraftValue) (k : ℕ) (b b' : Cache) → IsLost d d' → (h : IsHeld log number history d k b) → Undoes h.low h.taken b' → ((e : ℕ) (first : List Row) → Began log e first → Restores b' (first ++ all_rows history))
    → IsHeld log number history d' k b'
lost_held log number history d d' k b b' lost h undoes restores =
    held_as log number history d d' k b b' h undoes restores (λ ok. absurd (true≢false (sym lost.0 ∙ ok))) (λ ok. absurd (true≢false (sym lost.0 ∙ ok)))

-- a view that shows the history serves a bucket that is held
serves_held : (log : Origin) (number : ℕ) (history : List Commit) (v : ViewValue) (d : DraftValue) (k : ℕ) (b : Cache) → IsShown log number history v → d.failed ≡ false → IsHeld log number history d k b → (e : ℕ) (first : List Row) → Began log e first
    → Serves (tells_rows v) b (first ++ all_rows history)
serves_held log number history v d k b shown ok h e first began =
    let told = shown.tells e first began in
    serves_law (λ (s : Unit {0}). tells_rows v) tt log k h.low v.upto e h.taken b d.rows first told.0 history began (shown.legal e first began) h.stood (h.used ok) (le_trans h.reached shown.reaches) told.1 told.2

-- ---- a call that is no scan

-- the first node on the way of its key
looks_key : (c : Call) (b : Cache) (id : NodeId) → is_scan c ≡ false → bucket_of (key_of c) ≡ b.bucket → IsFirstUnfit b (key_of c) id → Looks c b id
looks_key (call.Get key) b id plain here first = (here, first)
looks_key (call.Put key value) b id plain here first = (here, first)
looks_key (call.Del key) b id plain here first = (here, first)
looks_key (call.Add key by) b id plain here first = (here, first)
looks_key (call.Scan low high limit) b id plain here first = absurd (true≢false plain)

module _ (v : ViewValue) (k : ℕ) (low : k < 256) (locks locks' : List (Option Cache)) (d d' : DraftValue) (c : Call) (ok : d.failed ≡ false) (of_key : k ≡ bucket_of (key_of c)) (numbers : AreNumbered locks) (one : is_scan c ≡ false)
    (old new : Cache) (there : HasLock locks k old) (locks_are : locks' ≡ slice_set locks k (Some new)) where
  now_there : HasLock locks' k new
  now_there = ap (λ l. slice_get l k) locks_are ∙ get_same locks k (Some old) (Some new) there

  other : (j : ℕ) → j ≢ k → slice_get locks' j ≡ slice_get locks j
  other j ne = ap (λ l. slice_get l j) locks_are ∙ get_else locks k j (Some new) ne

  same_buckets : SameBuckets locks locks'
  same_buckets = record {
    lacks = λ j less none. ⊎_elim (λ (is : j ≡ k). absurd (not_both locks k old (subst (LacksLock locks) is none) there)) (λ (ne : j ≢ k). other j ne ∙ none) (decide j k);
    has = λ j b less h. ⊎_elim (λ (is : j ≡ k). (new, subst (λ i. HasLock locks' i new) (sym is) now_there)) (λ (ne : j ≢ k). (b, other j ne ∙ h)) (decide j k);
  }

  lacked : (j : ℕ) → LacksLock locks' j → LacksLock locks j × (j ≢ k)
  lacked j none = ⊎_elim
      (λ (is : j ≡ k). absurd (not_both locks' k new (subst (LacksLock locks') is none) now_there))
      (λ (ne : j ≢ k). (sym (other j ne) ∙ none, ne))
      (decide j k)

  off_other : (j : ℕ) → j ≢ k → is_here j c ≡ false
  off_other j ne = ⊎_elim (λ (on : is_here j c ≡ true). absurd (ne (sym (of_key ∙ here_is j c one on)))) (λ (off : is_here j c ≡ false). off) (either (is_here j c))

  -- the node that is named as unfit
  unfit_here : (r : Result (Unit {0}) TreeFault) → new.bucket ≡ old.bucket → UnfitBy (IsFirstUnfit new (key_of c)) r → UnfitBy (IsUnfitIn locks' c) r
  unfit_here r same first id is = record {
    bucket = k;
    content = new;
    within = low;
    held = now_there;
    first = looks_key c new id one (sym of_key ∙ sym (same ∙ numbers k old low there)) (first id is);
  }

  others_stay : (j : ℕ) → j < 256 → is_here j c ≡ false → slice_get locks' j ≡ slice_get locks j
  others_stay j less off = other j (λ is. true≢false (sym (subst (λ i. is_here i c ≡ true) (sym (is ∙ of_key)) (own_here c)) ∙ off))

  -- rows of the call's bucket are in no other
  elsewhere : (own : List Row) → AllByRecursion (λ row. row.node.bucket ≡ bucket_of (key_of c)) own → (j : ℕ) (y : Cache) → j < 256 → j ≢ k → HasLock locks j y → AreElsewhere y own
  elsewhere own here j y less ne h = all_map (λ row. row.node.bucket ≡ bucket_of (key_of c)) (λ row. row.node.bucket ≢ y.bucket) (λ row at same. absurd (ne (sym (numbers j y less h) ∙ (sym same ∙ (at ∙ sym of_key))))) own here

  module _ (log : Origin) (number : ℕ) (history : List Commit) (shown : IsShown log number history v) (o : IsOpenOn log number history d locks) where
    abbrev was : IsHeld log number history d k old
    was = o.held k old low there

    answers_before : IsAnsweredOn log history d locks
    answers_before = o.answers ok

    serves : (e : ℕ) (first : List Row) → Began log e first → Serves (tells_rows v) old (first ++ all_rows history)
    serves = serves_held log number history v d k old shown ok was

    open_with : (d₁ : DraftValue) → IsHeld log number history d₁ k new → ((j : ℕ) (y : Cache) → j < 256 → j ≢ k → HasLock locks j y → IsHeld log number history d₁ j y) → (d₁.failed ≡ false → IsAnsweredOn log history d₁ locks')
        → IsOpenOn log number history d₁ locks'
    open_with d₁ here rest answers = record {
      held = λ j y less h. ⊎_elim
          (λ (is : j ≡ k). subst (λ i. IsHeld log number history d₁ i y) (sym is) (subst (IsHeld log number history d₁ k) (one_content locks' k new y now_there (subst (λ i. HasLock locks' i y) is h)) here))
          (λ (ne : j ≢ k). rest j y less ne (sym (other j ne) ∙ h))
          (decide j k);
      answers = answers;
    }

    -- the draft is as it was
    open_same : IsUsed was.low was.taken new d.rows → ((e : ℕ) (first : List Row) → Began log e first → Holds new (first ++ all_rows history) d.rows) → IsOpenOn log number history d locks'
    open_same used holds = open_with d
        (used_on log number history d d k old new was used holds)
        (λ j y less ne h. o.held j y less h)
        (λ _. record { fits = answers_before.fits; here = λ j less none. answers_before.here j less (lacked j none).0; answered = answers_before.answered })

    open_lost : IsLost d d' → Undoes was.low was.taken new → ((e : ℕ) (first : List Row) → Began log e first → Restores new (first ++ all_rows history)) → IsOpenOn log number history d' locks'
    open_lost lost undoes restores = open_with d' (lost_held log number history d d' k old new lost was undoes restores)
        (λ j y less ne h. let w = o.held j y less h in lost_held log number history d d' j y y lost w w.undoes w.restores)
        (λ now. absurd (true≢false (sym lost.0 ∙ now)))

    open_kept : (keeps : Keeps c d d') → (FitsDraft d → FitsDraft d') → IsUsed was.low was.taken new d'.rows → ((e : ℕ) (first : List Row) → Began log e first → IsAnswered (first ++ all_rows history) d' × Holds new (first ++ all_rows history) d'.rows)
        → IsOpenOn log number history d' locks'
    open_kept keeps fits used sound =
        let longer : d'.rows ≡ d.rows ++ keeps.own = ap (λ x. x.rows) keeps.is in
        open_with d'
        (used_on log number history d d' k old new was used (λ e first began. (sound e first began).1))
        (λ j y less ne h. let w = o.held j y less h in let away = elsewhere keeps.own keeps.fits.here j y less ne h in held_as log number history d d' j y y w w.undoes w.restores
        (λ _. subst (IsUsed w.low w.taken y) (sym longer) (used_law w.low w.taken y d.rows keeps.own (w.used ok) away))
        (λ _ e first began. subst (Holds y (first ++ all_rows history)) (sym longer) (others_law y (first ++ all_rows history) d.rows keeps.own (w.holds ok e first began) away)))
        (λ _. record {
          fits = fits answers_before.fits;
          here = λ j less none. let l = lacked j none in subst (λ cs. list_any (is_here j) cs ≡ false) (sym (ap (λ x. x.calls) keeps.is)) (none_more j d.calls c (answers_before.here j less l.0) (off_other j l.1));
          answered = λ e first began. (sound e first began).0;
        })

    kept_call : Keeps c d d' → KeepsCall c d d'
    kept_call keeps = record { one = λ _. keeps; scan = λ scans. absurd (true≢false (sym scans ∙ one)) }

  module _ (log : Origin) (number : ℕ) (history : List Commit) (shown : IsShown log number history v) (o : IsOpenOn log number history d locks) where
    abbrev h : IsHeld log number history d k old
    h = o.held k old low there

    sound_of : (r : Result (Unit {0}) TreeFault) → ((rows : List Row) → Serves (tells_rows v) old rows → IsAnswered rows d → Holds old rows d.rows → AnswersSoundly rows c d d' new r) → (e : ℕ) (first : List Row) → Began log e first
        → AnswersSoundly (first ++ all_rows history) c d d' new r
    sound_of r sound e first began = sound (first ++ all_rows history) (serves log number history shown o e first began) ((o.answers ok).answered e first began) (h.holds ok e first began)

    abbrev Now : Result (Unit {0}) TreeFault → Type 0
    Now r = IsOpenOn log number history d' locks' × ReadsOr log history c d d' r

    le : h.low ≤ v.upto
    le = le_trans h.reached shown.reaches

    left_as : d' ≡ d → IsOpenOn log number history d locks' → IsOpenOn log number history d' locks'
    left_as same = subst (λ x. IsOpenOn log number history x locks') (sym same)

    used_as : d' ≡ d → IsUsed h.low h.taken new d'.rows → IsUsed h.low h.taken new d.rows
    used_as same = subst (λ x. IsUsed h.low h.taken new x.rows) same

    pub answer_now : (r : Result (Unit {0}) TreeFault) → OnOk r (Keeps c d d') → IfErr r (LeavesDraft d d') → OnOk r (FitsDraft d → FitsDraft d') → ((least : ℕ) (taken : Cache) → IsUsed least taken old d.rows → least ≤ v.upto → UsedAfter least taken new d'.rows r)
        → ((rows : List Row) → Serves (tells_rows v) old rows → IsAnswered rows d → Holds old rows d.rows → AnswersSoundly rows c d d' new r) → Now r
    answer_now (Ok done) keeps left fits used sound =
        (open_kept log number history shown o keeps fits (used h.low h.taken (h.used ok) le) (sound_of (Ok done) sound), kept_call log number history shown o keeps)
    answer_now (Err (Source fault)) keeps left fits used sound =
        (left_as left (open_same log number history shown o (used_as left (used h.low h.taken (h.used ok) le)) (sound_of (Err (Source fault)) sound)), left)
    answer_now (Err (Unfit id)) keeps left fits used sound =
        let none : HasNotBegun log = sound_of (Err (Unfit id)) sound in
        (left_as left (open_same log number history shown o (used_as left (used h.low h.taken (h.used ok) le)) (λ e first began. absurd (none e first began))), (left, none))
    answer_now (Err (BucketFull next depth)) keeps left fits used sound =
        let s = sound_of (Err (BucketFull next depth)) sound in (
          left_as left (open_same log number history shown o (used_as left (used h.low h.taken (h.used ok) le)) (λ e first began. (s e first began).2)),
          (left, λ e first began. (pushed_stops (first ++ all_rows history) d.rows d.calls [] c why.Bucket ((o.answers ok).answered e first began).is_pushed (s e first began).0, (s e first began).1)),
        )
    answer_now (Err (Number id)) keeps left fits used sound =
        let s = sound_of (Err (Number id)) sound in (
          left_as left (open_same log number history shown o (used_as left (used h.low h.taken (h.used ok) le)) (λ e first began. (s e first began).2)),
          (left, λ e first began. (pushed_stops (first ++ all_rows history) d.rows d.calls [] c why.Number ((o.answers ok).answered e first began).is_pushed (s e first began).0, (s e first began).1)),
        )
    answer_now (Err NoMemory) keeps left fits used sound =
        (open_lost log number history shown o left (used h.low h.taken (h.used ok) le) (sound_of (Err NoMemory) sound), inl left)

pub answered_in : (v : ViewValue) (k : ℕ) → k < 256 → (locks locks' : List (Option Cache)) (d d' : DraftValue) (c : Call) (r : Result (Unit {0}) TreeFault) → d.failed ≡ false → k ≡ bucket_of (key_of c) → AreNumbered locks → is_scan c ≡ false
    → AnswersIn v k locks locks' d d' c r → ReadsIn v locks locks' d d' c r
answered_in v k low locks locks' d d' c r ok of_key numbers one a = record {
  same = same_buckets v k low locks locks' d d' c ok of_key numbers one a.old a.new a.there a.locks_are;
  others = others_stay v k low locks locks' d d' c ok of_key numbers one a.old a.new a.there a.locks_are;
  unfit = unfit_here v k low locks locks' d d' c ok of_key numbers one a.old a.new a.there a.locks_are r a.number a.unfit;
  open_on = λ log number history shown o. answer_now v k low locks locks' d d' c ok of_key numbers one a.old a.new a.there a.locks_are log number history shown o r a.kept a.left a.fits a.used a.sound;
}

-- what it did in its buckets
pub traced_in : (v : ViewValue) (k : ℕ) → k < 256 → (locks locks' : List (Option Cache)) (d d' : DraftValue) (c : Call) (r : Result (Unit {0}) TreeFault) → d.failed ≡ false → k ≡ bucket_of (key_of c) → AreNumbered locks → is_scan c ≡ false
    → AnswersIn v k locks locks' d d' c r → Traces v locks locks' d d' c r
traced_in v k low locks locks' d d' c r ok of_key numbers one a = record {
  each = λ j b' less on h.
      let is : j ≡ k = sym (of_key ∙ here_is j c one on) in
      let same : a.new ≡ b' = one_content locks' k a.new b' (now_there v k low locks locks' d d' c ok of_key numbers one a.old a.new a.there a.locks_are) (subst (λ i. HasLock locks' i b') is h) in
      (a.old, subst (λ i. HasLock locks i a.old) (sym is) a.there, subst (DoesIn v d d' c r a.old) same (plain_does v d d' c r a.old a.new one a.change));
  finds = plain_finds locks' d d' c r one;
}

-- ---- a scan

module _ (v v' : ViewValue) (locks locks' : List (Option Cache)) (d d' : DraftValue) (c : Call) (ok : d.failed ≡ false) (all : HasAll locks) (scans : is_scan c ≡ true)
    (read : (k : ℕ) (b : Cache) → k < 256 → HasLock locks k b → (b' : Cache) × HasLock locks' k b' × IsRead v v' b b') where
  scan_buckets : SameBuckets locks locks'
  scan_buckets = record {
    lacks = λ j less none. absurd (not_both locks j (all j less).0 none (all j less).1);
    has = λ j b less h. let now = read j b less h in (now.0, now.1);
  }

  module _ (log : Origin) (number : ℕ) (history : List Commit) (shown : IsShown log number history v) (o : IsOpenOn log number history d locks) where
    served : (e : ℕ) (first : List Row) → Began log e first → AreServed v (first ++ all_rows history) d.rows locks
    served e first began = record {
      serves = λ j b less h. serves_held log number history v d j b shown ok (o.held j b less h) e first began;
      holds = λ j b less h. (o.held j b less h).holds ok e first began;
      sound = ((o.answers ok).answered e first began).leaves.has_map.sound;
    }

    -- a bucket that was read holds what it held
    read_held : (j : ℕ) (b y : Cache) → j < 256 → HasLock locks j b → IsRead v v' b y → IsHeld log number history d j y
    read_held j b y less there is =
        let w = o.held j b less there in
        let used = is.used w.low w.taken d.rows (w.used ok) (le_trans w.reached shown.reaches) in
        let holds : (e : ℕ) (first : List Row) → Began log e first → Holds y (first ++ all_rows history) d.rows = λ e first began. let s = served e first began in is.holds (first ++ all_rows history) d.rows (s.serves j b less there) (s.holds j b less there) s.sound in
        used_on log number history d d j b y w used holds

    now_held : (j : ℕ) (y : Cache) → j < 256 → HasLock locks' j y → IsHeld log number history d j y
    now_held j y less h =
        let b = all j less in
        let now = read j b.0 less b.1 in
        read_held j b.0 y less b.1 (subst (IsRead v v' b.0) (one_content locks' j now.0 y now.1 h) now.2)

    none_lacked : (j : ℕ) → j < 256 → LacksLock locks' j → ⊥
    none_lacked j less none = let b = all j less in let now = read j b.0 less b.1 in not_both locks' j now.0 none now.1

    scan_same : d' ≡ d → IsOpenOn log number history d' locks'
    scan_same same = subst (λ x. IsOpenOn log number history x locks') (sym same) (record {
      held = now_held;
      answers = λ ok. let a = o.answers ok in record { fits = a.fits; here = λ j less none. absurd (none_lacked j less none); answered = a.answered };
    })

    scan_lost : IsLost d d' → IsOpenOn log number history d' locks'
    scan_lost lost = record {
      held = λ j y less h. let w = now_held j y less h in lost_held log number history d d' j y y lost w w.undoes w.restores;
      answers = λ now. absurd (true≢false (sym lost.0 ∙ now));
    }

    scan_kept : (pairs : List Pair) → KeepsFound c pairs d d' → (FitsDraft d → FitsDraft d') → ((rows : List Row) → AreServed v rows d.rows locks → IsAnswered rows d → IsAnswered rows d') → IsOpenOn log number history d' locks'
    scan_kept pairs keeps fits answered = record {
      held = λ j y less h. with_draft log number history d d' j y (ap (λ x. x.rows) keeps.is) (λ _. ok) (now_held j y less h);
      answers = λ _. let a = o.answers ok in record {
        fits = fits a.fits;
        here = λ j less none. absurd (none_lacked j less none);
        answered = λ e first began. answered (first ++ all_rows history) (served e first began) (a.answered e first began);
      };
    }

    abbrev Cause : TreeFault → Type 0
    Cause fault = (rows log : List Row) → AreServed v rows log locks → OnFault fault (λ _. Unit {0}) (λ _. ⊥) (Unit {0})

    abbrev Left : TreeFault → Type 0
    Left fault = (d' ≡ d) ⊎ ((fault ≡ NoMemory) × IsLost d d')

    left_same : (fault : TreeFault) → (fault ≡ NoMemory → ⊥) → Left fault → d' ≡ d
    left_same fault other left = ⊎_elim (λ (same : d' ≡ d). same) (λ (lost : (fault ≡ NoMemory) × IsLost d d'). absurd (other lost.0)) left

    scan_now : (r : Result (Unit {0}) TreeFault) → OnOk r ((pairs : List Pair) × KeepsFound c pairs d d') → OnOk r (FitsDraft d → FitsDraft d') → OnOk r ((rows : List Row) → AreServed v rows d.rows locks → IsAnswered rows d → IsAnswered rows d')
        → IfErr r Left → IfErr r Cause → IsOpenOn log number history d' locks' × ReadsOr log history c d d' r
    scan_now (Ok done) kept fits answered left cause = (scan_kept kept.0 kept.1 fits answered, record { one = λ plain. absurd (true≢false (sym scans ∙ plain)); scan = λ _. kept })
    scan_now (Err (Source fault)) kept fits answered left cause = let same = left_same (Source fault) (λ e. cc) left in (scan_same same, same)
    scan_now (Err (Unfit id)) kept fits answered left cause = let same = left_same (Unfit id) (λ e. cc) left in (scan_same same, (same, λ e first began. cause (first ++ all_rows history) d.rows (served e first began)))
    scan_now (Err (BucketFull next depth)) kept fits answered left cause =
        let same = left_same (BucketFull next depth) (λ e. cc) left in (scan_same same, (same, λ e first began. absurd (cause (first ++ all_rows history) d.rows (served e first began))))
    scan_now (Err (Number id)) kept fits answered left cause =
        let same = left_same (Number id) (λ e. cc) left in (scan_same same, (same, λ e first began. absurd (cause (first ++ all_rows history) d.rows (served e first began))))
    scan_now (Err NoMemory) kept fits answered left cause =
        ⊎_elim (λ (same : d' ≡ d). (scan_same same, inr same)) (λ (lost : (◌≡◌ {A = TreeFault} NoMemory NoMemory) × IsLost d d'). (scan_lost lost.1, inl lost.1)) left

pub scanned_in : (v v' : ViewValue) (locks locks' : List (Option Cache)) (d d' : DraftValue) (c : Call) (r : Result (Unit {0}) TreeFault) → d.failed ≡ false → HasAll locks → is_scan c ≡ true → ScansIn v v' locks locks' d d' c r → ReadsIn v locks locks' d d' c r
scanned_in v v' locks locks' d d' c r ok all scans s = record {
  same = scan_buckets v v' locks locks' d d' c ok all scans s.read;
  others = λ j less off. absurd (true≢false (sym (scan_here j c scans) ∙ off));
  unfit = s.unfit;
  open_on = λ log number history shown o. scan_now v v' locks locks' d d' c ok all scans s.read log number history shown o r s.kept s.fits s.answered s.left s.cause;
}

-- ---- which calls are scans

pub plain_call : (c : Call) → ((low high : List ℕ) (limit : ℕ) → c ≡ call.Scan low high limit → ⊥) → is_scan c ≡ false
plain_call (call.Get key) other = refl
plain_call (call.Put key value) other = refl
plain_call (call.Del key) other = refl
plain_call (call.Add key by) other = refl
plain_call (call.Scan low high limit) other = absurd (other low high limit refl)

-- the bucket of a call's key is one of its buckets
pub key_bucket : (k : ℕ) (c : Call) (locks : List (Option Cache)) → k ≡ bucket_of (key_of c) → k < 256 → HasBuckets c locks → AreNumbered locks → (b : Cache) × HasLock locks k b × (b.bucket ≡ k)
key_bucket k c locks is low all numbers = let b = all k low (subst (λ j. is_here j c ≡ true) (sym is) (own_here c)) in (b.0, b.1, numbers k b.0 low b.1)

-- a scan is in all buckets
pub all_buckets : (c : Call) (locks : List (Option Cache)) → is_scan c ≡ true → HasBuckets c locks → AreNumbered locks → HasAll locks
all_buckets c locks scans all numbers k low = let b = all k low (scan_here k c scans) in (b.0, b.1, numbers k b.0 low b.1)
