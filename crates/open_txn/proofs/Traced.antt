-- What calls loaded and changed in each bucket, one behind another.
use Rattle.std.proofs.Common.{◌≡◌, ◌≢◌, ◌⊎◌, ℕ, ◌<◌, true, false, true≢false, List, [], ◌∷◌, ◌++◌, slice_get, slice_set, Some, Result, Ok, Err, refl, sym, ap, ◌∙◌, subst, append_assoc, append-nil, inl, inr, eq-eqb, ne_eqb}
use Rattle.std.specs.Prelude.{◌==◌, IfErr, OnOk}
use Rattle.std.specs.List.{AllByRecursion}
use Rattle.std.proofs.lemmas.List.Elements.{filter-append}
use Rattle.std.proofs.lemmas.Option.{same_Some}
use Rattle.fine_model.specs.declared.Call.{Call}
use Rattle.fine_model.specs.declared.Call.TheVariants as call
use Rattle.fine_model.specs.declared.FetchFault.{FetchFault}
use Rattle.fine_model.specs.declared.NodeId.{NodeId}
use Rattle.fine_model.specs.declared.Row.{Row}
use Rattle.fine_model.specs.Nodes.{Content}
use Rattle.fine_model.specs.Pushed.{key_of}
use Rattle.fine_model.specs.Trees.{bucket_of}
use Rattle.fine_model.specs.RowBytes.{buckets}
use Rattle.fine_model.proofs.Ordered.Order.{all_map, filter_all, filter_none}
use Rattle.node_cache.specs.Cache.{Cache}
use Rattle.node_cache.specs.Given.{Finds, IsLoaded}
use Rattle.btree_nodes.specs.declared.fault.TreeFault.{TreeFault}
use Rattle.btree_nodes.specs.declared.fault.TreeFault.TheVariants.{Source, Unfit, BucketFull, Number, NoMemory}
use Rattle.btree_nodes.specs.Calls.{IsChange, IsDone, Outcome}
use Rattle.btree_nodes.specs.Trees.{pairs_in}
use Rattle.btree_nodes.proofs.Loads.{loaded_before, same_or_not}
use Rattle.txn_draft.specs.Answers.{KeepsBy}
use Rattle.txn_draft.specs.Drafts.{DraftValue, is_scan}
use Rattle.open_txn.specs.Buckets.{AreBuckets, BucketsValue, EachPair}
use Rattle.open_txn.specs.Traces.{AddsDone, AllDone, Changes, DoAll, Does, IsCutOff, IsRefused, OnUnfit, Refused, Scans, StopsAt, rows_in}
use Rattle.open_txn.proofs.Advanced.{err_of, ok_of}
use Rattle.open_txn.proofs.Places.{get_else, get_same}

-- ---- a source some loads later

module _ (tells tells' : List Row → Type 0) (finds finds' : Finds) (upper upper' : ℕ) (on : (rows : List Row) → tells rows → tells' rows) (back : (id : NodeId) (found : Content) → finds' id found → finds id found)
    (same : upper' ≡ upper) where
  loads_before : (b c : Cache) → IsLoaded tells' finds' upper' b c → IsLoaded tells finds upper b c
  loads_before b c = loaded_before tells tells' finds finds' upper upper' b c on back same

  changes_before : (c : Call) (rows : List Row) (a b : Cache) → Changes tells' finds' upper' c rows a b → Changes tells finds upper c rows a b
  changes_before c rows a b h = record { mid = h.mid; loaded = loads_before a h.mid h.loaded; on_way = h.on_way; reached = h.reached; done = h.done }

  pub scans_before : (low high : List ℕ) (limit : ℕ) (a b : Cache) → Scans tells' finds' upper' low high limit a b → Scans tells finds upper low high limit a b
  scans_before low high limit a b h = record { loaded = loads_before a b h.loaded; on_walk = h.on_walk; here = h.here; fit = h.fit }

  pub cut_before : (low high : List ℕ) (limit : ℕ) (fault : TreeFault) (a b : Cache) → IsCutOff tells' finds' upper' low high limit fault a b → IsCutOff tells finds upper low high limit fault a b
  cut_before low high limit fault a b h = record { loaded = loads_before a b h.loaded; on_walk = h.on_walk; cause = h.cause }

  refuses_before : (c : Call) (fault : TreeFault) (a b : Cache) → IsRefused tells' finds' upper' c fault a b → IsRefused tells finds upper c fault a b
  refuses_before c fault a b h = record { mid = h.mid; loaded = loads_before a h.mid h.loaded; on_way = h.on_way; outcome = h.outcome }

  -- of the bucket of a key, and of all others
  here_before : {P Q N E : Type 0} → (P → Q) → (N × P) ⊎ E → (N × Q) ⊎ E
  here_before so (inl h) = inl (h.0, so h.1)
  here_before so (inr h) = inr h

  pub does_before : (c : Call) (rows : List Row) (a b : Cache) → Does tells' finds' upper' c rows a b → Does tells finds upper c rows a b
  does_before (call.Get key) rows a b h = here_before (changes_before (call.Get key) rows a b) h
  does_before (call.Put key value) rows a b h = here_before (changes_before (call.Put key value) rows a b) h
  does_before (call.Del key) rows a b h = here_before (changes_before (call.Del key) rows a b) h
  does_before (call.Add key by) rows a b h = here_before (changes_before (call.Add key by) rows a b) h
  does_before (call.Scan low high limit) rows a b h = (h.0, scans_before low high limit a b h.1)

  pub refused_before : (c : Call) (fault : TreeFault) (a b : Cache) → Refused tells' finds' upper' c fault a b → Refused tells finds upper c fault a b
  refused_before (call.Get key) fault a b h = here_before (refuses_before (call.Get key) fault a b) h
  refused_before (call.Put key value) fault a b h = here_before (refuses_before (call.Put key value) fault a b) h
  refused_before (call.Del key) fault a b h = here_before (refuses_before (call.Del key) fault a b) h
  refused_before (call.Add key by) fault a b h = here_before (refuses_before (call.Add key by) fault a b) h
  refused_before (call.Scan low high limit) fault a b h = cut_before low high limit fault a b h

  pub all_before : (cs : List Call) (rows : List Row) (a b : Cache) → DoAll tells' finds' upper' cs rows a b → DoAll tells finds upper cs rows a b
  all_before [] rows a b h = h
  all_before (c ∷ cs) rows a b (mid, own, more, is, one, others) = (mid, own, more, is, does_before c own a mid one, all_before cs more mid b others)

-- ---- calls behind calls, in one bucket

module _ (tells : List Row → Type 0) (finds : Finds) (upper : ℕ) where
  pub behind_law : (cs ds : List Call) (rows more : List Row) (a b c : Cache) → DoAll tells finds upper cs rows a b → DoAll tells finds upper ds more b c → DoAll tells finds upper (cs ++ ds) (rows ++ more) a c
  behind_law [] ds rows more a b c one two = subst (λ (x : Cache). DoAll tells finds upper ds (rows ++ more) x c) one.1 (subst (λ (l : List Row). DoAll tells finds upper ds (l ++ more) b c) (sym one.0) two)
  behind_law (x ∷ cs) ds rows more a b c (mid, own, rest, is, did, others) two =
      (mid, own, rest ++ more, ap (λ l. l ++ more) is ∙ append_assoc own rest more, did, behind_law cs ds rest more mid b c others two)

  pub one_call : (c : Call) (rows : List Row) (a b : Cache) → Does tells finds upper c rows a b → DoAll tells finds upper (c ∷ []) rows a b
  one_call c rows a b did = (b, rows, [], sym (append-nil rows), did, (refl, refl))

-- ---- buckets by their places

pub pairs_same : (P : ℕ → Cache → Cache → Type 0) (v : BucketsValue) → ((k : ℕ) (b : Cache) → slice_get v.buckets k ≡ Some b → P k b b) → EachPair P v v
pairs_same P v each k b is = (b, is, each k b is)

pub pairs_on : (P Q R : ℕ → Cache → Cache → Type 0) (u v w : BucketsValue) → ((k : ℕ) (a b c : Cache) → P k a b → Q k b c → R k a c) → EachPair P u v → EachPair Q v w → EachPair R u w
pairs_on P Q R u v w both one two k a is = let m = one k a is in let n = two k m.0 m.1 in (n.0, n.1, both k a m.0 n.0 m.2 n.2)

pub pairs_map : (P R : ℕ → Cache → Cache → Type 0) (u v : BucketsValue) → ((k : ℕ) (a b : Cache) → P k a b → R k a b) → EachPair P u v → EachPair R u v
pairs_map P R u v so one k a is = let m = one k a is in (m.0, m.1, so k a m.0 m.2)

pub pairs_set : (P : ℕ → Cache → Cache → Type 0) (v v' : BucketsValue) (k : ℕ) (b b' : Cache) → slice_get v.buckets k ≡ Some b → v'.buckets ≡ slice_set v.buckets k b' → P k b b'
    → ((j : ℕ) (y : Cache) → j ≢ k → slice_get v.buckets j ≡ Some y → P j y y) → EachPair P v v'
pairs_set P v v' k b b' there are here others j y is = by (same_or_not j k)
  where
    by : (j ≡ k) ⊎ (j ≢ k) → (x : Cache) × (slice_get v'.buckets j ≡ Some x) × P j y x
    by (inl e) = (
      b',
      ap (λ l. slice_get l j) are ∙ ap (slice_get (slice_set v.buckets k b')) e ∙ get_same v.buckets k b b' there,
      subst (λ (x : Cache). P j x b') (same_Some b y (sym there ∙ ap (slice_get v.buckets) (sym e) ∙ is)) (subst (λ (n : ℕ). P n b b') (sym e) here),
    )
    by (inr ne) = (y, ap (λ l. slice_get l j) are ∙ get_else v.buckets k j b' ne ∙ is, others j y ne is)

-- ---- rows of one bucket

pub rows_here : (k : ℕ) (rows : List Row) → AllByRecursion (λ row. row.node.bucket ≡ k) rows → rows_in k rows ≡ rows
rows_here k rows all = filter_all (λ row. row.node.bucket == k) rows (all_map (λ row. row.node.bucket ≡ k) (λ row. (row.node.bucket == k) ≡ true) (λ row. eq-eqb row.node.bucket k) rows all)

pub rows_there : (k j : ℕ) (rows : List Row) → j ≢ k → AllByRecursion (λ row. row.node.bucket ≡ k) rows → rows_in j rows ≡ []
rows_there k j rows ne all = filter_none (λ row. row.node.bucket == j) rows
    (all_map (λ row. row.node.bucket ≡ k) (λ row. (row.node.bucket == j) ≡ false) (λ row at. ne_eqb row.node.bucket j (λ e. ne (sym e ∙ at))) rows all)

rows_more : (k : ℕ) (rows more : List Row) → rows_in k rows ++ rows_in k more ≡ rows_in k (rows ++ more)
rows_more k rows more = sym (filter-append (λ row. row.node.bucket == k) rows more)

-- ---- calls behind calls, in all buckets

pub adds_none : (tells : List Row → Type 0) (finds : Finds) (upper : ℕ) (log : List Row) (v : BucketsValue) → AddsDone tells finds upper [] log log v v
adds_none tells finds upper log v = record { rows = []; behind = sym (append-nil log); each = pairs_same (λ k b b'. DoAll tells finds upper [] [] b b') v (λ k b is. (refl, refl)) }

module _ (tells tells' : List Row → Type 0) (finds finds' : Finds) (upper upper' : ℕ) (on : (rows : List Row) → tells rows → tells' rows) (back : (id : NodeId) (found : Content) → finds' id found → finds id found)
    (same : upper' ≡ upper) (cs ds all : List Call) (whole : cs ++ ds ≡ all) (log log' : List Row) (u v w : BucketsValue) (one : AddsDone tells finds upper cs log log' u v) where
  pub adds_on : (log'' : List Row) → AddsDone tells' finds' upper' ds log' log'' v w → AddsDone tells finds upper all log log'' u w
  adds_on log'' two = subst (λ (calls : List Call). AddsDone tells finds upper calls log log'' u w) whole (record {
    rows = one.rows ++ two.rows;
    behind = two.behind ∙ ap (λ l. l ++ two.rows) one.behind ∙ append_assoc log one.rows two.rows;
    each = pairs_on (λ k. DoAll tells finds upper cs (rows_in k one.rows)) (λ k. DoAll tells' finds' upper' ds (rows_in k two.rows)) (λ k. DoAll tells finds upper (cs ++ ds) (rows_in k (one.rows ++ two.rows))) u v w
        (λ k a b c first second. subst (λ (l : List Row). DoAll tells finds upper (cs ++ ds) l a c) (rows_more k one.rows two.rows)
        (behind_law tells finds upper cs ds (rows_in k one.rows) (rows_in k two.rows) a b c first (all_before tells tells' finds finds' upper upper' on back same ds (rows_in k two.rows) b c second))) one.each two.each;
  })

  pub stops_on : (fault : TreeFault) → StopsAt tells' finds' upper' ds fault v w → StopsAt tells finds upper all fault u w
  stops_on fault two = subst (λ (calls : List Call). StopsAt tells finds upper calls fault u w) whole (record {
    done = cs ++ two.done;
    refused = two.refused;
    rest = two.rest;
    order = ap (λ l. cs ++ l) two.order ∙ sym (append_assoc cs two.done (two.refused ∷ two.rest));
    rows = one.rows ++ two.rows;
    each = pairs_on (λ k. DoAll tells finds upper cs (rows_in k one.rows)) (λ k b c. (mid : Cache) × DoAll tells' finds' upper' two.done (rows_in k two.rows) b mid × Refused tells' finds' upper' two.refused fault mid c)
        (λ k a c. (mid : Cache) × DoAll tells finds upper (cs ++ two.done) (rows_in k (one.rows ++ two.rows)) a mid × Refused tells finds upper two.refused fault mid c) u v w
        (λ k a b c first second. (
          second.0,
          subst (λ (l : List Row). DoAll tells finds upper (cs ++ two.done) l a second.0) (rows_more k one.rows two.rows)
              (behind_law tells finds upper cs two.done (rows_in k one.rows) (rows_in k two.rows) a b second.0 first (all_before tells tells' finds finds' upper upper' on back same two.done (rows_in k two.rows) b second.0 second.1)),
          refused_before tells tells' finds finds' upper upper' on back same two.refused fault second.0 c second.2,
        )) one.each two.each;
    named = two.named;
  })

-- ---- a call in the bucket of its key

-- a call that is done, with its rows alone
pub done_alone : (mid new : Cache) (log log' : List Row) (c : Call) (h : IsDone mid new log log' c) → IsDone mid new [] h.rows c
done_alone mid new log log' c h = record { rows = h.rows; is_pushed = h.is_pushed; behind = refl; pushes = h.pushes; fits = h.fits }

pub refused_alone : {A : Type 0} (mid new : Cache) (log log' : List Row) (c : Call) (P : A → Type 0) (F : FetchFault → Type 0) (fault : TreeFault) → Outcome {A = A} mid new log log' c P F (Err fault)
    → Outcome {A = Unit {0}} mid new [] [] c (λ _. Unit {0}) (λ _. Unit {0}) (Err fault)
refused_alone mid new log log' c P F (Source f) h = (tt, record { nodes = h.1.nodes; rows = refl })
refused_alone mid new log log' c P F (Unfit id) h = (h.0, record { nodes = h.1.nodes; rows = refl })
refused_alone mid new log log' c P F (BucketFull next depth) h = (h.0, h.1, h.2, record { nodes = h.3.nodes; rows = refl })
refused_alone mid new log log' c P F (Number id) h = (h.0, h.1, h.2, record { nodes = h.3.nodes; rows = refl })
refused_alone mid new log log' c P F NoMemory h = h

module _ (tells : List Row → Type 0) (finds : Finds) (upper : ℕ) where
  does_here : (c : Call) (rows : List Row) (a b : Cache) → is_scan c ≡ false → bucket_of (key_of c) ≡ a.bucket → Changes tells finds upper c rows a b → Does tells finds upper c rows a b
  does_here (call.Get key) rows a b single at h = inl (at, h)
  does_here (call.Put key value) rows a b single at h = inl (at, h)
  does_here (call.Del key) rows a b single at h = inl (at, h)
  does_here (call.Add key by) rows a b single at h = inl (at, h)
  does_here (call.Scan low high limit) rows a b single at h = absurd (true≢false single)

  does_else : (c : Call) (rows : List Row) (a : Cache) → is_scan c ≡ false → bucket_of (key_of c) ≢ a.bucket → rows ≡ [] → Does tells finds upper c rows a a
  does_else (call.Get key) rows a single at none = inr (at, none, refl)
  does_else (call.Put key value) rows a single at none = inr (at, none, refl)
  does_else (call.Del key) rows a single at none = inr (at, none, refl)
  does_else (call.Add key by) rows a single at none = inr (at, none, refl)
  does_else (call.Scan low high limit) rows a single at none = absurd (true≢false single)

  refused_here : (c : Call) (fault : TreeFault) (a b : Cache) → is_scan c ≡ false → bucket_of (key_of c) ≡ a.bucket → IsRefused tells finds upper c fault a b → Refused tells finds upper c fault a b
  refused_here (call.Get key) fault a b single at h = inl (at, h)
  refused_here (call.Put key value) fault a b single at h = inl (at, h)
  refused_here (call.Del key) fault a b single at h = inl (at, h)
  refused_here (call.Add key by) fault a b single at h = inl (at, h)
  refused_here (call.Scan low high limit) fault a b single at h = absurd (true≢false single)

  refused_else : (c : Call) (fault : TreeFault) (a : Cache) → is_scan c ≡ false → bucket_of (key_of c) ≢ a.bucket → OnUnfit fault (λ id. id.bucket ≢ a.bucket) → Refused tells finds upper c fault a a
  refused_else (call.Get key) fault a single at away = inr (at, refl, away)
  refused_else (call.Put key value) fault a single at away = inr (at, refl, away)
  refused_else (call.Del key) fault a single at away = inr (at, refl, away)
  refused_else (call.Add key by) fault a single at away = inr (at, refl, away)
  refused_else (call.Scan low high limit) fault a single at away = absurd (true≢false single)

-- a node that such a call names is of this bucket
named_by : {A : Type 0} (mid new : Cache) (c : Call) (P : A → Type 0) (F : FetchFault → Type 0) (fault : TreeFault) (Q : ℕ → Type 0) → Q mid.bucket → Outcome {A = A} mid new [] [] c P F (Err fault) → OnUnfit fault (λ id. Q id.bucket)
named_by mid new c P F (Source f) Q of h = tt
named_by mid new c P F (Unfit id) Q of h = subst Q (sym h.0.of_bucket) of
named_by mid new c P F (BucketFull next depth) Q of h = tt
named_by mid new c P F (Number id) Q of h = tt
named_by mid new c P F NoMemory Q of h = tt

module _ (tells : List Row → Type 0) (finds : Finds) (upper k : ℕ) (v v' : BucketsValue) (b b' : Cache) (d d' : DraftValue) (c : Call) (whole : AreBuckets v) (there : slice_get v.buckets k ≡ Some b)
    (are : v'.buckets ≡ slice_set v.buckets k b') (of_key : k ≡ bucket_of (key_of c)) (small : k < buckets) (no_scan : is_scan c ≡ false) (F : FetchFault → Type 0) where
  number : b.bucket ≡ k
  number = whole.numbered k b there

  here : bucket_of (key_of c) ≡ b.bucket
  here = sym of_key ∙ sym number

  elsewhere : (j : ℕ) (y : Cache) → j ≢ k → slice_get v.buckets j ≡ Some y → bucket_of (key_of c) ≢ y.bucket
  elsewhere j y ne is e = ne (sym (whole.numbered j y is) ∙ sym e ∙ sym of_key)

  done_in : IsChange {A = Unit {0}} tells finds upper b b' d.rows d'.rows c (λ mid _. KeepsBy (pairs_in mid (key_of c)) c d d') F (Ok tt) → AddsDone tells finds upper (c ∷ []) d.rows d'.rows v v'
  done_in h =
      let done = h.outcome.2 in
      let own : AllByRecursion (λ row. row.node.bucket ≡ k) done.rows = subst (λ (n : ℕ). AllByRecursion (λ row. row.node.bucket ≡ n) done.rows) (h.loaded.bucket ∙ number) done.fits.here in
      record {
        rows = done.rows;
        behind = done.behind;
        each = pairs_set (λ j. DoAll tells finds upper (c ∷ []) (rows_in j done.rows)) v v' k b b' there are
            (one_call tells finds upper c (rows_in k done.rows) b b' (does_here tells finds upper c (rows_in k done.rows) b b' no_scan here
            (subst (λ (l : List Row). Changes tells finds upper c l b b') (sym (rows_here k done.rows own))
            (record { mid = h.mid; loaded = h.loaded; on_way = h.on_way; reached = h.outcome.1; done = done_alone h.mid b' d.rows d'.rows c done }))))
            (λ j y ne is. one_call tells finds upper c (rows_in j done.rows) y y (does_else tells finds upper c (rows_in j done.rows) y no_scan (elsewhere j y ne is) (rows_there k j done.rows ne own)));
      }

  stopped_in : (fault : TreeFault) (more : List Call) → IsChange {A = Unit {0}} tells finds upper b b' d.rows d'.rows c (λ mid _. KeepsBy (pairs_in mid (key_of c)) c d d') F (Err fault) → StopsAt tells finds upper (c ∷ more) fault v v'
  stopped_in fault more h =
      let outcome = refused_alone {A = Unit {0}} h.mid b' d.rows d'.rows c (λ _. KeepsBy (pairs_in h.mid (key_of c)) c d d') F fault h.outcome in
      record {
        done = [];
        refused = c;
        rest = more;
        order = refl;
        rows = [];
        each = pairs_set (λ j y z. (mid : Cache) × DoAll tells finds upper [] [] y mid × Refused tells finds upper c fault mid z) v v' k b b' there are
            (b, (refl, refl), refused_here tells finds upper c fault b b' no_scan here (record { mid = h.mid; loaded = h.loaded; on_way = h.on_way; outcome = outcome }))
            (λ j y ne is. (
              y,
              (refl, refl),
              refused_else tells finds upper c fault y no_scan (elsewhere j y ne is)
                  (named_by {A = Unit {0}} h.mid b' c (λ _. Unit {0}) (λ _. Unit {0}) fault (λ (n : ℕ). n ≢ y.bucket) (λ e. ne (sym (whole.numbered j y is) ∙ sym e ∙ h.loaded.bucket ∙ number)) outcome),
            ));
        named = named_by {A = Unit {0}} h.mid b' c (λ _. Unit {0}) (λ _. Unit {0}) fault (λ (n : ℕ). n < buckets) (subst (λ (n : ℕ). n < buckets) (sym (h.loaded.bucket ∙ number)) small) outcome;
      }

  -- by cases of the answer
  module _ (r : Result (Unit {0}) TreeFault) (change : IsChange tells finds upper b b' d.rows d'.rows c (λ mid _. KeepsBy (pairs_in mid (key_of c)) c d d') F r) where
    pub does_in : OnOk r (AddsDone tells finds upper (c ∷ []) d.rows d'.rows v v')
    does_in = ok_of (AddsDone tells finds upper (c ∷ []) d.rows d'.rows v v') r (λ done ok. done_in (subst (IsChange tells finds upper b b' d.rows d'.rows c (λ mid _. KeepsBy (pairs_in mid (key_of c)) c d d') F) ok change))

    pub stops_in : IfErr r (λ fault. (more : List Call) → StopsAt tells finds upper (c ∷ more) fault v v')
    stops_in = err_of (λ fault. (more : List Call) → StopsAt tells finds upper (c ∷ more) fault v v') r
        (λ fault err more. stopped_in fault more (subst (IsChange tells finds upper b b' d.rows d'.rows c (λ mid _. KeepsBy (pairs_in mid (key_of c)) c d d') F) err change))

-- ---- all calls of a blank draft

pub all_done : (tells : List Row → Type 0) (finds : Finds) (upper : ℕ) (calls : List Call) (log log' : List Row) (u v : BucketsValue) (r : Result (Unit {0}) TreeFault) → log ≡ [] → OnOk r (AddsDone tells finds upper calls log log' u v) → OnOk r (AllDone tells finds upper calls log' u v)
all_done tells finds upper calls log log' u v (Ok done) none h = subst (λ (l : List Row). AllDone tells finds upper calls l u v) (sym (h.behind ∙ ap (λ l. l ++ h.rows) none)) h.each
all_done tells finds upper calls log log' u v (Err fault) none h = tt
