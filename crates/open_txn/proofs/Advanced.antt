-- Calls behind calls, over all buckets.
use Rattle.txn_draft.proofs.Answered.{own_here}
use Rattle.std.proofs.Common.{◌≡◌, ◌≢◌, ⊎_elim, ℕ, ◌≤◌, true, false, true≢false, List, [], ◌∷◌, ◌++◌, slice_get, slice_set, Some, Result, Ok, Err, refl, sym, ap, ◌∙◌, subst, append_assoc, append-nil, ◌||◌, inl, inr, Bool}
use Rattle.std.specs.Prelude.{OnOk, IfErr}
use Rattle.std.specs.List.{AllByRecursion, list_any}
use Rattle.std.proofs.lemmas.List.{length-set}
use Rattle.fine_model.specs.declared.Call.{Call}
use Rattle.fine_model.specs.declared.FetchFault.{FetchFault}
use Rattle.fine_model.specs.declared.FetchFault.TheVariants as fetch_fault
use Rattle.fine_model.specs.declared.Row.{Row}
use Rattle.fine_model.specs.declared.Why.TheVariants as why
use Rattle.fine_model.specs.Pushed.{all_pushed, key_of}
use Rattle.fine_model.specs.Store.{IsReplyTo, answer}
use Rattle.fine_model.specs.Trees.{bucket_of}
use Rattle.fine_model.proofs.Ordered.Order.{all_map}
use Rattle.fine_model.proofs.Trees.PushedCalls.{pushed_stops}
use Rattle.node_cache.specs.Cache.{Cache}
use Rattle.node_cache.specs.Given.{Finds, OnCleanFault}
use Rattle.btree_nodes.specs.declared.fault.TreeFault.{TreeFault}
use Rattle.btree_nodes.specs.declared.fault.TreeFault.TheVariants.{Source, Unfit, BucketFull, Number, NoMemory}
use Rattle.btree_nodes.specs.Calls.{IsChange, OnCleanAnswer}
use Rattle.btree_nodes.specs.Trees.{Holds, Restores, Serves, pairs_in}
use Rattle.txn_draft.specs.Answers.{AnswersSoundly, FailsBy, KeepsBy, LeavesDraft}
use Rattle.txn_draft.specs.Drafts.{DraftValue, FitsDraft, IsAnswered, Keeps, is_here, is_scan}
use Rattle.txn_draft.specs.Laws.{AreElsewhere}
use Rattle.txn_draft.specs.Uses.{IsUsed, OnKept, Undoes, UsedAfter}
use Rattle.txn_draft.proofs.Lawful.{others_law, used_law}
use Rattle.txn_draft.proofs.Undoing.{restored, undone}
use Rattle.open_txn.specs.Buckets.{AreBuckets, BucketsValue}
use Rattle.open_txn.specs.Opened.{HasCause, KeepsUntouched, UndoAll, UseAll, TouchesOf}
use Rattle.open_txn.specs.Steps.{AddsReplies, Advances, Refuses}
use Rattle.open_txn.proofs.KeyReplies.{key_reply}
use Rattle.open_txn.proofs.Places.{each_of_set, item_of_set, zip_append}

-- ---- what is told of the source

pub clean_from : {A : Type 0} (P Q : Type 0) (r : Result A TreeFault) → (P → Q) → OnCleanAnswer r P → OnCleanAnswer r Q
clean_from P Q (Ok a) so h = so h
clean_from P Q (Err (Source fault)) so h = by fault h
  where
    by : (f : FetchFault) → OnCleanFault f P → OnCleanFault f Q
    by fetch_fault.Failed h = tt
    by fetch_fault.NoMemory h = tt
    by (fetch_fault.BadRow region at) h = so h
    by (fetch_fault.BadIndex region at) h = so h
clean_from P Q (Err (Unfit id)) so h = so h
clean_from P Q (Err (BucketFull next depth)) so h = so h
clean_from P Q (Err (Number id)) so h = so h
clean_from P Q (Err NoMemory) so h = so h

pub fails_from : (F G : FetchFault → Type 0) (fault : TreeFault) → ((failed : FetchFault) → F failed → G failed) → FailsBy F fault → FailsBy G fault
fails_from F G (Source fault) so h = so fault h
fails_from F G (Unfit id) so h = tt
fails_from F G (BucketFull next depth) so h = tt
fails_from F G (Number id) so h = tt
fails_from F G NoMemory so h = tt

pub ok_of : {A : Type 0} (P : Type 0) (r : Result A TreeFault) → ((a : A) → r ≡ Ok a → P) → OnOk r P
ok_of P (Ok a) by = by a refl
ok_of P (Err fault) by = tt

pub err_of : {A : Type 0} (P : TreeFault → Type 0) (r : Result A TreeFault) → ((fault : TreeFault) → r ≡ Err fault → P fault) → IfErr r P
err_of P (Ok a) by = tt
err_of P (Err fault) by = by fault refl

-- a draft keeps its lane and its number
pub place_of : (d d' : DraftValue) (c : Call) (r : Result (Unit {0}) TreeFault) → OnOk r (Keeps c d d') → IfErr r (LeavesDraft d d') → (d'.lane ≡ d.lane) × (d'.turn ≡ d.turn)
place_of d d' c (Ok done) keeps left = (ap (λ x. x.lane) keeps.is, ap (λ x. x.turn) keeps.is)
place_of d d' c (Err (Source f)) keeps left = (ap (λ x. x.lane) left, ap (λ x. x.turn) left)
place_of d d' c (Err (Unfit id)) keeps left = (ap (λ x. x.lane) left, ap (λ x. x.turn) left)
place_of d d' c (Err (BucketFull next depth)) keeps left = (ap (λ x. x.lane) left, ap (λ x. x.turn) left)
place_of d d' c (Err (Number id)) keeps left = (ap (λ x. x.lane) left, ap (λ x. x.turn) left)
place_of d d' c (Err NoMemory) keeps left = (left.1, left.2)

-- ---- which buckets are touched

any_left : {A : Type 0} (p : A → Bool) (xs ys : List A) → list_any p xs ≡ true → list_any p (xs ++ ys) ≡ true
any_left p [] ys is = absurd (true≢false (sym is))
any_left p (x ∷ xs) ys is = by (p x) is (any_left p xs ys)
  where
    by : (t : Bool) → t || list_any p xs ≡ true → (list_any p xs ≡ true → list_any p (xs ++ ys) ≡ true) → t || list_any p (xs ++ ys) ≡ true
    by true is rest = refl
    by false is rest = rest is

any_right : {A : Type 0} (p : A → Bool) (xs ys : List A) → list_any p ys ≡ true → list_any p (xs ++ ys) ≡ true
any_right p [] ys is = is
any_right p (x ∷ xs) ys is = by (p x) (any_right p xs ys is)
  where
    by : (t : Bool) → list_any p (xs ++ ys) ≡ true → t || list_any p (xs ++ ys) ≡ true
    by true rest = refl
    by false rest = rest

touches_on : (cs ds : List Call) (a b c : BucketsValue) → TouchesOf cs a b → TouchesOf ds b c → TouchesOf (cs ++ ds) a c
touches_on cs ds a b c one two k on =
    ⊎_elim (λ (was : slice_get b.touched k ≡ Some true). ⊎_elim (λ (first : slice_get a.touched k ≡ Some true). inl first) (λ (here : list_any (is_here k) cs ≡ true). inr (any_left (is_here k) cs ds here)) (one k was))
    (λ (here : list_any (is_here k) ds ≡ true). inr (any_right (is_here k) cs ds here)) (two k on)

touches_one : (k : ℕ) (v v' : BucketsValue) (c : Call) (more : List Call) → v'.touched ≡ slice_set v.touched k true → k ≡ bucket_of (key_of c) → TouchesOf (c ∷ more) v v'
touches_one k v v' c more flags of_key j on =
    ⊎_elim (λ (h : (j ≡ k) × (true ≡ true)). inr (ap (λ t. t || list_any (is_here j) more) (subst (λ (n : ℕ). is_here n c ≡ true) (sym (h.0 ∙ of_key)) (own_here c))))
    (λ (h : (j ≢ k) × (slice_get v.touched j ≡ Some true)). inl h.1) (item_of_set v.touched k j true true (ap (λ l. slice_get l j) (sym flags) ∙ on))

-- ---- one step behind another

module _ (tells mid : List Row → Type 0) (upper upper' : ℕ) (same : upper' ≡ upper) (a b : BucketsValue) (d d' : DraftValue) (cs : List Call) (one : Advances tells mid upper a b d d' cs) where
  pub advances_on : (tells' : List Row → Type 0) (c : BucketsValue) (d'' : DraftValue) (ds all : List Call) → cs ++ ds ≡ all → Advances mid tells' upper' b c d' d'' ds → Advances tells tells' upper a c d d'' all
  advances_on tells' c d'' ds all whole two = subst (Advances tells tells' upper a c d d'') whole (record {
    not_failed = two.not_failed;
    behind = two.behind ∙ ap (λ l. l ++ ds) one.behind ∙ append_assoc d.calls cs ds;
    replied = record {
      replies = one.replied.replies ++ two.replied.replies;
      behind = two.replied.behind ∙ ap (λ l. l ++ two.replied.replies) one.replied.behind ∙ append_assoc d.replies one.replied.replies two.replied.replies;
      each = zip_append IsReplyTo cs one.replied.replies ds two.replied.replies one.replied.each two.replied.each;
    };
    fits = λ fits. two.fits (one.fits fits);
    uses = λ low taken used most. two.uses low taken (one.uses low taken used most) (subst (λ (n : ℕ). low ≤ n) (sym same) most);
    served = λ rows served. two.served rows (one.served rows served);
    touches = touches_on cs ds a b c one.touches two.touches;
  })

  pub refused_on : (c : BucketsValue) (ds all : List Call) (fault : TreeFault) → cs ++ ds ≡ all → Refuses mid upper' b c d' ds fault → Refuses tells upper a c d all fault
  refused_on c ds all fault whole two = subst (λ (calls : List Call). Refuses tells upper a c d calls fault) whole (record {
    undoes = λ low taken used most. two.undoes low taken (one.uses low taken used most) (subst (λ (n : ℕ). low ≤ n) (sym same) most);
    restores = λ rows served. two.restores rows (one.served rows served);
    cause = λ rows served. subst (λ (l : List Call). HasCause rows l fault) (ap (λ l. l ++ ds) one.behind ∙ append_assoc d.calls cs ds) (two.cause rows (one.served rows served));
    touches = touches_on cs ds a b c one.touches two.touches;
  })

-- nothing was answered yet
pub advances_none : (tells : List Row → Type 0) (upper : ℕ) (a : BucketsValue) (d : DraftValue) → d.failed ≡ false → Advances tells tells upper a a d d []
advances_none tells upper a d ok = record {
  not_failed = ok;
  behind = sym (append-nil d.calls);
  replied = record { replies = []; behind = sym (append-nil d.replies); each = tt };
  fits = λ fits. fits;
  uses = λ low taken used most. used;
  served = λ rows served. served;
  touches = λ k on. inl on;
}

-- ---- a call in one bucket

pub cause_of : (rows : List Row) (d d' : DraftValue) (c : Call) (more : List Call) (b : Cache) (fault : TreeFault) → all_pushed rows d.calls ≡ Ok d.rows → AnswersSoundly {A = Unit {0}} rows c d d' b (Err fault) → HasCause rows (d.calls ++ c ∷ more) fault
cause_of rows d d' c more b (Source fault) is h = tt
cause_of rows d d' c more b (Unfit id) is h = h
cause_of rows d d' c more b (BucketFull next depth) is h = pushed_stops rows d.rows d.calls more c why.Bucket is h.0
cause_of rows d d' c more b (Number id) is h = pushed_stops rows d.rows d.calls more c why.Number is h.0
cause_of rows d d' c more b NoMemory is h = tt

module _ (k : ℕ) (v v' : BucketsValue) (b b' : Cache) (there : slice_get v.buckets k ≡ Some b) (buckets : v'.buckets ≡ slice_set v.buckets k b') (flags : v'.touched ≡ slice_set v.touched k true) where
  -- what holds of the bucket that was changed, and of all others, holds of each
  pub each_now : (P : ℕ → Cache → Type 0) → P k b' → ((j : ℕ) (y : Cache) → j ≢ k → slice_get v.buckets j ≡ Some y → P j y) → (j : ℕ) (y : Cache) → slice_get v'.buckets j ≡ Some y → P j y
  each_now P here others = each_of_set P v.buckets v'.buckets k b' buckets here others

  -- a bucket that is untouched was so, and is another
  untouched : (taken : BucketsValue) → KeepsUntouched taken v → KeepsUntouched taken v'
  untouched taken was j t y is_t is_y flag =
      ⊎_elim (λ (h : (j ≡ k) × (false ≡ true)). absurd (true≢false (sym h.1)))
      (λ (h : (j ≢ k) × (slice_get v.touched j ≡ Some false)). ⊎_elim (λ (g : (j ≡ k) × (y ≡ b')). absurd (h.0 g.0)) (λ (g : (j ≢ k) × (slice_get v.buckets j ≡ Some y)). was j t y is_t g.1 h.1)
      (item_of_set v.buckets k j b' y (ap (λ l. slice_get l j) (sym buckets) ∙ is_y)))
      (item_of_set v.touched k j true false (ap (λ l. slice_get l j) (sym flags) ∙ flag))

  pub use_one : (low : ℕ) (taken : BucketsValue) (rows rows' : List Row) → UseAll low taken v rows → ((t : Cache) → IsUsed low t b rows → IsUsed low t b' rows')
      → ((j : ℕ) (t y : Cache) → j ≢ k → slice_get v.buckets j ≡ Some y → IsUsed low t y rows → IsUsed low t y rows') → UseAll low taken v' rows'
  use_one low taken rows rows' used here others = record {
    each = λ j t y is_t is_y. each_now (λ j y. (t : Cache) → slice_get taken.buckets j ≡ Some t → IsUsed low t y rows')
        (λ t is_t. here t (used.each k t b is_t there)) (λ j y ne is t is_t. others j t y ne is (used.each j t y is_t is)) j y is_y t is_t;
    untouched = untouched taken used.untouched;
  }

  pub undo_one : (low : ℕ) (taken : BucketsValue) (rows : List Row) → UseAll low taken v rows → ((t : Cache) → IsUsed low t b rows → Undoes low t b') → UndoAll low taken v'
  undo_one low taken rows used here = record {
    each = λ j t y is_t is_y. each_now (λ j y. (t : Cache) → slice_get taken.buckets j ≡ Some t → Undoes low t y)
        (λ t is_t. here t (used.each k t b is_t there)) (λ j y ne is t is_t. (used.each j t y is_t is).undoes) j y is_y t is_t;
    untouched = untouched taken used.untouched;
  }

-- one of the buckets was changed, and keeps its number
pub still_are : (k : ℕ) (v : BucketsValue) (b b' : Cache) → AreBuckets v → slice_get v.buckets k ≡ Some b → b'.bucket ≡ b.bucket → AreBuckets (record { buckets = slice_set v.buckets k b'; touched = slice_set v.touched k true })
still_are k v b b' whole there same = record {
  many = length-set v.buckets k b' ∙ whole.many;
  flags = length-set v.touched k true ∙ whole.flags;
  numbered = each_of_set (λ j y. y.bucket ≡ j) v.buckets (slice_set v.buckets k b') k b' refl (same ∙ whole.numbered k b there) (λ j y ne is. whole.numbered j y is);
}

-- a bucket is served as before by a source that tells the same
pub still_served : (tells tells' : List Row → Type 0) (b : Cache) (rows : List Row) → ((known : List Row) → tells known → tells' known) → Serves tells b rows → Serves tells' b rows
still_served tells tells' b rows later serves = record { known = serves.known; is_told = later serves.known serves.is_told; each = serves.each }

-- the reply to a call, by the pairs of the leaf that its key leads to
pub replied_by : (tells : List Row → Type 0) (finds : Finds) (upper : ℕ) (b b' : Cache) (d d' : DraftValue) (c : Call) (F : FetchFault → Type 0) (r : Result (Unit {0}) TreeFault) (done : Unit {0}) → is_scan c ≡ false → r ≡ Ok done
    → IsChange tells finds upper b b' d.rows d'.rows c (λ mid _. KeepsBy (pairs_in mid (key_of c)) c d d') F r → AddsReplies (c ∷ []) d.replies d'.replies
replied_by tells finds upper b b' d d' c F r done no_scan ok change =
    let was = subst (IsChange tells finds upper b b' d.rows d'.rows c (λ mid _. KeepsBy (pairs_in mid (key_of c)) c d d') F) ok change in
    record { replies = (answer (pairs_in was.mid (key_of c)) c).0 ∷ []; behind = ap (λ x. x.replies) was.outcome.0; each = (key_reply (pairs_in was.mid (key_of c)) c no_scan, tt) }

module _ (tells tells' : List Row → Type 0) (upper k : ℕ) (v v' : BucketsValue) (b b' : Cache) (d d' : DraftValue) (c : Call) (whole : AreBuckets v) (there : slice_get v.buckets k ≡ Some b)
    (buckets : v'.buckets ≡ slice_set v.buckets k b') (flags : v'.touched ≡ slice_set v.touched k true) (of_key : k ≡ bucket_of (key_of c)) (later : (rows : List Row) → tells rows → tells' rows) (r : Result (Unit {0}) TreeFault)
    (used : (low : ℕ) (taken : Cache) → IsUsed low taken b d.rows → low ≤ upper → UsedAfter low taken b' d'.rows r)
    (answers : (rows : List Row) → Serves tells b rows → IsAnswered rows d → Holds b rows d.rows → AnswersSoundly rows c d d' b' r) where
  -- the rows of the call are in no other bucket
  elsewhere : (own : List Row) → AllByRecursion (λ row. row.node.bucket ≡ bucket_of (key_of c)) own → (j : ℕ) (y : Cache) → j ≢ k → slice_get v.buckets j ≡ Some y → AreElsewhere y own
  elsewhere own here j y ne is = all_map (λ row. row.node.bucket ≡ bucket_of (key_of c)) (λ row. row.node.bucket ≢ y.bucket) (λ row at same. absurd (ne (sym (whole.numbered j y is) ∙ sym same ∙ at ∙ sym of_key))) own here

  pub answered_in : (done : Unit {0}) → r ≡ Ok done → d.failed ≡ false → Keeps c d d' → AddsReplies (c ∷ []) d.replies d'.replies → (FitsDraft d → FitsDraft d') → ((rows : List Row) → Serves tells b rows → OnKept r (Serves tells' b' rows))
      → Advances tells tells' upper v v' d d' (c ∷ [])
  answered_in done ok was keeps replied fits serves =
      let longer : d'.rows ≡ d.rows ++ keeps.own = ap (λ x. x.rows) keeps.is in
      let away = elsewhere keeps.own keeps.fits.here in
      record {
        not_failed = ap (λ x. x.failed) keeps.is ∙ was;
        behind = ap (λ x. x.calls) keeps.is;
        replied = replied;
        fits = fits;
        uses = λ low taken all most. use_one k v v' b b' there buckets flags low taken d.rows d'.rows all
            (λ t u. subst (λ (x : Result (Unit {0}) TreeFault). UsedAfter low t b' d'.rows x) ok (used low t u most))
            (λ j t y ne is u. subst (IsUsed low t y) (sym longer) (used_law low t y d.rows keeps.own u (away j y ne is)));
        served = λ rows all.
            let now : AnswersSoundly rows c d d' b' (Ok done) = subst (λ (x : Result (Unit {0}) TreeFault). AnswersSoundly rows c d d' b' x) ok (answers rows (all.serves k b there) all.answered (all.holds k b there)) in record {
              serves = each_now k v v' b b' there buckets flags (λ j y. Serves tells' y rows) (subst (λ (x : Result (Unit {0}) TreeFault). OnKept x (Serves tells' b' rows)) ok (serves rows (all.serves k b there)))
                  (λ j y ne is. still_served tells tells' y rows later (all.serves j y is));
              holds = each_now k v v' b b' there buckets flags (λ j y. Holds y rows d'.rows) now.1 (λ j y ne is. subst (Holds y rows) (sym longer) (others_law y rows d.rows keeps.own (all.holds j y is) (away j y ne is)));
              answered = now.0;
            };
        touches = touches_one k v v' c [] flags of_key;
      }

  pub refused_in : (fault : TreeFault) → r ≡ Err fault → (more : List Call) → Refuses tells upper v v' d (c ∷ more) fault
  refused_in fault err more = record {
    undoes = λ low taken all most. undo_one k v v' b b' there buckets flags low taken d.rows all (λ t u. undone low t b' d'.rows r (used low t u most));
    restores = λ rows all. each_now k v v' b b' there buckets flags (λ j y. Restores y rows) (restored rows c d d' b' r (answers rows (all.serves k b there) all.answered (all.holds k b there))) (λ j y ne is. (all.holds j y is).restores);
    cause = λ rows all. cause_of rows d d' c more b' fault all.answered.is_pushed
        (subst (λ (x : Result (Unit {0}) TreeFault). AnswersSoundly rows c d d' b' x) err (answers rows (all.serves k b there) all.answered (all.holds k b there)));
    touches = touches_one k v v' c more flags of_key;
  }

  pub advances_in : (finds : Finds) (F : FetchFault → Type 0) → is_scan c ≡ false → d.failed ≡ false → OnOk r (Keeps c d d') → IsChange tells finds upper b b' d.rows d'.rows c (λ mid _. KeepsBy (pairs_in mid (key_of c)) c d d') F r → OnOk r (FitsDraft d → FitsDraft d')
      → ((rows : List Row) → Serves tells b rows → OnKept r (Serves tells' b' rows)) → OnOk r (Advances tells tells' upper v v' d d' (c ∷ []))
  advances_in finds F no_scan was keeps change fits serves = ok_of (Advances tells tells' upper v v' d d' (c ∷ [])) r
      (λ done ok. answered_in done ok was (subst (λ (x : Result (Unit {0}) TreeFault). OnOk x (Keeps c d d')) ok keeps) (replied_by tells finds upper b b' d d' c F r done no_scan ok change)
      (subst (λ (x : Result (Unit {0}) TreeFault). OnOk x (FitsDraft d → FitsDraft d')) ok fits) serves)

  pub refuses_in : IfErr r (λ fault. (more : List Call) → Refuses tells upper v v' d (c ∷ more) fault)
  refuses_in = err_of (λ fault. (more : List Call) → Refuses tells upper v v' d (c ∷ more) fault) r refused_in
