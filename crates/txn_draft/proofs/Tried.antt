-- What a call that was tried says of the draft and of its bucket.
use Rattle.std.proofs.Common.{◌≡◌, ℕ, ◌≤◌, Bool, List, Result, Ok, Err, sym, ap, subst, ◌∙◌}
use Rattle.std.specs.Prelude.{OnOk, IfErr}
use Rattle.std.specs.Option.{option_to_list}
use Rattle.fine_model.specs.declared.Call.{Call}
use Rattle.fine_model.specs.declared.FetchFault.{FetchFault}
use Rattle.fine_model.specs.declared.Reply.{Reply}
use Rattle.fine_model.specs.declared.Row.{Row}
use Rattle.fine_model.specs.declared.Write.{Write}
use Rattle.fine_model.specs.Pushed.{key_of}
use Rattle.fine_model.specs.Store.{answer}
use Rattle.fine_model.specs.Trees.{bucket_of}
use Rattle.node_cache.specs.Cache.{Cache}
use Rattle.node_cache.specs.Given.{Finds}
use Rattle.btree_nodes.specs.declared.fault.TreeFault.{TreeFault}
use Rattle.btree_nodes.specs.declared.fault.TreeFault.TheVariants.{Source, Unfit, BucketFull, Number, NoMemory}
use Rattle.btree_nodes.specs.Trees.{Serves, Holds, FitsLog, pairs_in}
use Rattle.btree_nodes.specs.Calls.{IsChange}
use Rattle.txn_draft.specs.Answers.{AnswersSoundly, KeepsBy, LeavesDraft, FailsBy}
use Rattle.txn_draft.specs.Drafts.{DraftValue, IsAnswered, FitsDraft, Keeps, noted}
use Rattle.txn_draft.specs.Steps.{Made, IsMade, IsStep, IsTried, wants_memory}
use Rattle.txn_draft.specs.Uses.{IsUsed, UsedAfter, OnlyLoads, OnKept}
use Rattle.txn_draft.proofs.Answered.{answered_more, fits_more}
use Rattle.txn_draft.proofs.Stepped.{fault_change}
use Rattle.txn_draft.proofs.Used.{used_after, same_number, only_loads, served_after}

-- the log of a refused call is as it was, and so is the draft
same_draft : (d d' : DraftValue) → d' ≡ record d { rows = d'.rows } → d'.rows ≡ d.rows → d' ≡ d
same_draft d d' only rows = only ∙ ap (λ rs. record d { rows = rs }) rows

-- whether the draft is failed is set last
pub failed_is : (d d' : DraftValue) (f : Bool) (r : Result (Unit {0}) TreeFault) → d ≡ d' → f ≡ wants_memory r d.failed → record d { failed = f } ≡ record d' { failed = wants_memory r d'.failed }
failed_is d d' f r same is = ap {A = Bool} {B = DraftValue} (λ x. record d { failed = x }) is ∙ ap {A = DraftValue} {B = DraftValue} (λ x. record x { failed = wants_memory r x.failed }) same

module _ (tells : List Row → Type 0) (finds : Finds) (upper : ℕ) (b b' : Cache) (d d' : DraftValue) (c : Call) (F : FetchFault → Type 0) where
  abbrev pub step_of : Result Made TreeFault → Type 0
  step_of r = IsStep {A = Made} tells finds upper b b' d.rows d'.rows c (λ pairs. IsMade pairs c) F r

  -- the reply is that on the pairs of the key's leaf
  abbrev pub made_on : Cache → Made → Type 0
  made_on mid = IsMade (pairs_in mid (key_of c)) c

  -- a refused step
  pub tried_fault : (e : TreeFault) → d' ≡ record d { rows = d'.rows } → step_of (Err e) → IsTried tells finds upper b b' d d' c F (Err e)
  tried_fault (Source f) only s = (s, same_draft d d' only s.change.outcome.1.rows)
  tried_fault (Unfit id) only s = (s, same_draft d d' only s.change.outcome.1.rows)
  tried_fault (BucketFull m depth) only s = (s, same_draft d d' only s.change.outcome.3.rows)
  tried_fault (Number id) only s = (s, same_draft d d' only s.change.outcome.3.rows)
  tried_fault NoMemory only s = s

  -- a step that was done, and kept
  pub tried_ok : (done : Unit {0}) (made : Made) (log : List Row) → d' ≡ noted (record d { rows = log }) c made.0 (option_to_list made.1) → IsStep {A = Made} tells finds upper b b' d.rows log c (λ pairs. IsMade pairs c) F (Ok made) → IsTried tells finds upper b b' d d' c F (Ok done)
  tried_ok done made log same s =
      let rows : d'.rows ≡ log = ap (λ x. x.rows) same in (
        made,
        same ∙ ap (λ rs. noted (record d { rows = rs }) c made.0 (option_to_list made.1)) (sym rows),
        subst (λ rs. IsStep {A = Made} tells finds upper b b' d.rows rs c (λ pairs. IsMade pairs c) F (Ok made)) (sym rows) s,
      )

  module _ (d'' : DraftValue) (r : Result (Unit {0}) TreeFault) (failed : d'' ≡ record d' { failed = wants_memory r d'.failed }) (tried : IsTried tells finds upper b b' d d' c F r) where
    same_rows : d''.rows ≡ d'.rows
    same_rows = ap (λ x. x.rows) failed

    pub kept_of : b.bucket ≡ bucket_of (key_of c) → OnOk r (Keeps c d d'')
    kept_of of_key = by r failed tried
      where
        by : (r : Result (Unit {0}) TreeFault) → d'' ≡ record d' { failed = wants_memory r d'.failed } → IsTried tells finds upper b b' d d' c F r → OnOk r (Keeps c d d'')
        by (Ok done) e t = record {
          reply = t.0.0;
          wrote = option_to_list t.0.1;
          own = t.2.change.outcome.2.rows;
          is = e ∙ t.1 ∙ ap (λ rs. noted (record d { rows = rs }) c t.0.0 (option_to_list t.0.1)) t.2.change.outcome.2.behind;
          fits = subst (λ k. FitsLog k t.2.change.outcome.2.rows) (t.2.change.loaded.bucket ∙ of_key) t.2.change.outcome.2.fits;
        }
        by (Err fault) e t = tt

    pub left_of : (d'.lane ≡ d.lane) × (d'.turn ≡ d.turn) → IfErr r (LeavesDraft d d'')
    left_of place = by r failed tried
      where
        by : (r : Result (Unit {0}) TreeFault) → d'' ≡ record d' { failed = wants_memory r d'.failed } → IsTried tells finds upper b b' d d' c F r → IfErr r (LeavesDraft d d'')
        by (Ok done) e t = tt
        by (Err (Source f)) e t = e ∙ t.1
        by (Err (Unfit id)) e t = e ∙ t.1
        by (Err (BucketFull m depth)) e t = e ∙ t.1
        by (Err (Number id)) e t = e ∙ t.1
        by (Err NoMemory) e t = (ap (λ x. x.failed) e, ap (λ x. x.lane) e ∙ place.0, ap (λ x. x.turn) e ∙ place.1)

    -- on every disk: the tree's change, and the reply and the writes on the pairs of the key's leaf
    pub change_of : IsChange {A = Unit {0}} tells finds upper b b' d.rows d''.rows c (λ mid _. KeepsBy (pairs_in mid (key_of c)) c d d'') F r
    change_of = by r failed tried
      where
        keeps : Cache → Unit {0} → Type 0
        keeps mid _ = KeepsBy (pairs_in mid (key_of c)) c d d''

        rows_too : (r : Result (Unit {0}) TreeFault) → IsChange {A = Unit {0}} tells finds upper b b' d.rows d'.rows c keeps F r → IsChange {A = Unit {0}} tells finds upper b b' d.rows d''.rows c keeps F r
        rows_too r = subst (λ rs. IsChange {A = Unit {0}} tells finds upper b b' d.rows rs c keeps F r) (sym same_rows)

        fault : (e : TreeFault) → IsChange {A = Made} tells finds upper b b' d.rows d'.rows c made_on F (Err e) → IsChange {A = Unit {0}} tells finds upper b b' d.rows d''.rows c keeps F (Err e)
        fault e h = rows_too (Err e) (fault_change tells finds upper b b' d.rows d'.rows c F {A = Made} {B = Unit {0}} made_on keeps e h)

        by : (r : Result (Unit {0}) TreeFault) → d'' ≡ record d' { failed = wants_memory r d'.failed } → IsTried tells finds upper b b' d d' c F r → IsChange {A = Unit {0}} tells finds upper b b' d.rows d''.rows c keeps F r
        by (Ok done) e t =
            let h = t.2.change in
            rows_too (Ok done) (record {
              mid = h.mid;
              loaded = h.loaded;
              on_way = h.on_way;
              used = h.used;
              outcome = (
                e ∙ t.1 ∙ ap (λ (p : Reply × List Write). noted (record d { rows = d'.rows }) c p.0 p.1) h.outcome.0
                    ∙ ap (λ rs. noted (record d { rows = rs }) c (answer (pairs_in h.mid (key_of c)) c).0 (answer (pairs_in h.mid (key_of c)) c).1) (sym same_rows),
                h.outcome.1,
                h.outcome.2,
              );
            })
        by (Err (Source f)) e t = fault (Source f) t.0.change
        by (Err (Unfit id)) e t = fault (Unfit id) t.0.change
        by (Err (BucketFull m depth)) e t = fault (BucketFull m depth) t.0.change
        by (Err (Number id)) e t = fault (Number id) t.0.change
        by (Err NoMemory) e t = fault NoMemory t.change

    pub fits_of : b.bucket ≡ bucket_of (key_of c) → OnOk r (FitsDraft d → FitsDraft d'')
    fits_of of_key = by r failed tried
      where
        by : (r : Result (Unit {0}) TreeFault) → d'' ≡ record d' { failed = wants_memory r d'.failed } → IsTried tells finds upper b b' d d' c F r → OnOk r (FitsDraft d → FitsDraft d'')
        by (Ok done) e t = λ fits. fits_more t.2.change.outcome.2.rows d d'' c (ap (λ x. x.calls) e ∙ ap (λ x. x.calls) t.1) (ap (λ x. x.rows) e ∙ t.2.change.outcome.2.behind)
            (subst (λ k. FitsLog k t.2.change.outcome.2.rows) (t.2.change.loaded.bucket ∙ of_key) t.2.change.outcome.2.fits) fits
        by (Err fault) e t = tt

    step_change : (low : ℕ) (taken : Cache) → IsUsed low taken b d.rows → low ≤ upper → UsedAfter low taken b' d'.rows r
    step_change low taken u most = by r tried
      where
        by : (r : Result (Unit {0}) TreeFault) → IsTried tells finds upper b b' d d' c F r → UsedAfter low taken b' d'.rows r
        by (Ok done) t = used_after tells finds upper b b' d.rows d'.rows c made_on F low taken (Ok t.0) t.2.change u most
        by (Err (Source f)) t = used_after {A = Made} tells finds upper b b' d.rows d'.rows c made_on F low taken (Err (Source f)) t.0.change u most
        by (Err (Unfit id)) t = used_after {A = Made} tells finds upper b b' d.rows d'.rows c made_on F low taken (Err (Unfit id)) t.0.change u most
        by (Err (BucketFull m depth)) t = used_after {A = Made} tells finds upper b b' d.rows d'.rows c made_on F low taken (Err (BucketFull m depth)) t.0.change u most
        by (Err (Number id)) t = used_after {A = Made} tells finds upper b b' d.rows d'.rows c made_on F low taken (Err (Number id)) t.0.change u most
        by (Err NoMemory) t = used_after {A = Made} tells finds upper b b' d.rows d'.rows c made_on F low taken (Err NoMemory) t.change u most

    pub used_of : (low : ℕ) (taken : Cache) → IsUsed low taken b d.rows → low ≤ upper → UsedAfter low taken b' d''.rows r
    used_of low taken u most = subst (λ rs. UsedAfter low taken b' rs r) (sym same_rows) (step_change low taken u most)

    pub number_of : b'.bucket ≡ b.bucket
    number_of = by r tried
      where
        by : (r : Result (Unit {0}) TreeFault) → IsTried tells finds upper b b' d d' c F r → b'.bucket ≡ b.bucket
        by (Ok done) t = same_number tells finds upper b b' d.rows d'.rows c made_on F (Ok t.0) t.2.change
        by (Err (Source f)) t = same_number {A = Made} tells finds upper b b' d.rows d'.rows c made_on F (Err (Source f)) t.0.change
        by (Err (Unfit id)) t = same_number {A = Made} tells finds upper b b' d.rows d'.rows c made_on F (Err (Unfit id)) t.0.change
        by (Err (BucketFull m depth)) t = same_number {A = Made} tells finds upper b b' d.rows d'.rows c made_on F (Err (BucketFull m depth)) t.0.change
        by (Err (Number id)) t = same_number {A = Made} tells finds upper b b' d.rows d'.rows c made_on F (Err (Number id)) t.0.change
        by (Err NoMemory) t = same_number {A = Made} tells finds upper b b' d.rows d'.rows c made_on F (Err NoMemory) t.change

    pub loads_of : OnlyLoads tells finds upper b b' r
    loads_of = by r tried
      where
        by : (r : Result (Unit {0}) TreeFault) → IsTried tells finds upper b b' d d' c F r → OnlyLoads tells finds upper b b' r
        by (Ok done) t = tt
        by (Err (Source f)) t = only_loads {A = Made} tells finds upper b b' d.rows d'.rows c made_on F (Err (Source f)) t.0.change
        by (Err (Unfit id)) t = only_loads {A = Made} tells finds upper b b' d.rows d'.rows c made_on F (Err (Unfit id)) t.0.change
        by (Err (BucketFull m depth)) t = only_loads {A = Made} tells finds upper b b' d.rows d'.rows c made_on F (Err (BucketFull m depth)) t.0.change
        by (Err (Number id)) t = only_loads {A = Made} tells finds upper b b' d.rows d'.rows c made_on F (Err (Number id)) t.0.change
        by (Err NoMemory) t = tt

    pub serves_of : (tells' : List Row → Type 0) → ((known : List Row) → tells known → tells' known) → (rows : List Row) → Serves tells b rows → OnKept r (Serves tells' b' rows)
    serves_of tells' on rows serves = by r tried
      where
        by : (r : Result (Unit {0}) TreeFault) → IsTried tells finds upper b b' d d' c F r → OnKept r (Serves tells' b' rows)
        by (Ok done) t = served_after tells tells' on finds upper b b' d.rows d'.rows c made_on F rows (Ok t.0) t.2.change serves
        by (Err (Source f)) t = served_after {A = Made} tells tells' on finds upper b b' d.rows d'.rows c made_on F rows (Err (Source f)) t.0.change serves
        by (Err (Unfit id)) t = served_after {A = Made} tells tells' on finds upper b b' d.rows d'.rows c made_on F rows (Err (Unfit id)) t.0.change serves
        by (Err (BucketFull m depth)) t = served_after {A = Made} tells tells' on finds upper b b' d.rows d'.rows c made_on F rows (Err (BucketFull m depth)) t.0.change serves
        by (Err (Number id)) t = served_after {A = Made} tells tells' on finds upper b b' d.rows d'.rows c made_on F rows (Err (Number id)) t.0.change serves
        by (Err NoMemory) t = tt

    pub fails_of : IfErr r (FailsBy F)
    fails_of = by r tried
      where
        by : (r : Result (Unit {0}) TreeFault) → IsTried tells finds upper b b' d d' c F r → IfErr r (FailsBy F)
        by (Ok done) t = tt
        by (Err (Source f)) t = t.0.change.outcome.0
        by (Err (Unfit id)) t = tt
        by (Err (BucketFull m depth)) t = tt
        by (Err (Number id)) t = tt
        by (Err NoMemory) t = tt

    pub sound_of : (rows : List Row) → Serves tells b rows → IsAnswered rows d → Holds b rows d.rows → AnswersSoundly rows c d d'' b' r
    sound_of rows serves a holds = by r failed tried
      where
        by : (r : Result (Unit {0}) TreeFault) → d'' ≡ record d' { failed = wants_memory r d'.failed } → IsTried tells finds upper b b' d d' c F r → AnswersSoundly rows c d d'' b' r
        by (Ok done) e t =
            let s = t.2.sound rows serves holds a.leaves.has_map.sound in (
              subst (IsAnswered rows) (sym e) (answered_more rows s.1.own d d' c t.0 a t.1 s.1.behind s.1.is_pushed s.0),
              subst (Holds b' rows) (sym (ap (λ x. x.rows) e)) s.1.holds,
            )
        by (Err (Source f)) e t = (t.0.sound rows serves holds a.leaves.has_map.sound).holds
        by (Err (Unfit id)) e t = t.0.sound rows serves holds a.leaves.has_map.sound
        by (Err (BucketFull m depth)) e t = let s = t.0.sound rows serves holds a.leaves.has_map.sound in (s.0, s.1, s.2.holds)
        by (Err (Number id)) e t = let s = t.0.sound rows serves holds a.leaves.has_map.sound in (s.0, s.1, s.2.holds)
        by (Err NoMemory) e t = t.sound rows serves holds a.leaves.has_map.sound

-- the draft as its fields tell it
pub opened : (tells : List Row → Type 0) (finds : Finds) (upper : ℕ) (b b' : Cache) (d₀ d d' : DraftValue) (c : Call) (F : FetchFault → Type 0) (r : Result (Unit {0}) TreeFault) → d₀ ≡ d → IsTried tells finds upper b b' d₀ d' c F r → IsTried tells finds upper b b' d d' c F r
opened tells finds upper b b' d₀ d d' c F r same = subst (λ x. IsTried tells finds upper b b' x d' c F r) same
