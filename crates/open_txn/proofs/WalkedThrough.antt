-- What a scan loaded in each bucket.
use Rattle.std.proofs.Common.{◌≡◌, ◌≢◌, ⊎_elim, ℕ, ◌+◌, ◌<◌, ◌≤◌, List, [], ◌∷◌, slice_get, slice_set, Some, Result, Ok, Err, refl, sym, ap, ◌∙◌, subst, append-nil, arith}
use Rattle.std.specs.Prelude.{IfErr, OnOk}
use Rattle.std.proofs.lemmas.Bool.{cases_lt}
use Rattle.std.proofs.lemmas.Option.{slice_get_within}
use Rattle.fine_model.specs.declared.Call.{Call}
use Rattle.fine_model.specs.declared.Call.TheVariants as call
use Rattle.fine_model.specs.declared.FetchFault.{FetchFault}
use Rattle.fine_model.specs.declared.NodeId.{NodeId}
use Rattle.fine_model.specs.declared.Row.{Row}
use Rattle.fine_model.specs.Map.{Pair}
use Rattle.fine_model.specs.Nodes.{Content}
use Rattle.fine_model.specs.RowBytes.{buckets}
use Rattle.node_cache.specs.Cache.{Cache}
use Rattle.node_cache.specs.Given.{Finds, IsLoaded}
use Rattle.btree_nodes.specs.declared.fault.TreeFault.{TreeFault}
use Rattle.btree_nodes.specs.declared.fault.TreeFault.TheVariants.{Source, Unfit, BucketFull, Number, NoMemory}
use Rattle.btree_nodes.specs.Calls.{IsFirstUnfitBetween, Reads}
use Rattle.btree_nodes.specs.Faults.{OnFault}
use Rattle.btree_nodes.specs.Walks.{LoadsOnWalk}
use Rattle.btree_nodes.proofs.Loads.{among_none, same_or_not}
use Rattle.txn_draft.specs.Scans.{IsGathered}
use Rattle.txn_draft.proofs.Stepped.{loads_none}
use Rattle.open_txn.specs.Buckets.{AreBuckets, BucketsValue, EachPair}
use Rattle.open_txn.specs.Traces.{AddsDone, CutsOff, CutsOffAt, DoAll, IsCutOff, OnUnfit, Refused, Scans, ScansAll, ScansAt, ScansBelow, StopsAt}
use Rattle.open_txn.proofs.Advanced.{err_of, ok_of}
use Rattle.open_txn.proofs.Traced.{cut_before, one_call, pairs_map, pairs_on, pairs_same, pairs_set, scans_before}

fault_map : (fault : TreeFault) (F G : FetchFault → Type 0) (U V : NodeId → Type 0) (M : Type 0) → ((f : FetchFault) → F f → G f) → ((id : NodeId) → U id → V id) → OnFault fault F U M → OnFault fault G V M
fault_map (Source f) F G U V M so named h = so f h
fault_map (Unfit id) F G U V M so named h = named id h
fault_map (BucketFull next depth) F G U V M so named h = h
fault_map (Number id) F G U V M so named h = h
fault_map NoMemory F G U V M so named h = h

unfit_of : (fault : TreeFault) (F : FetchFault → Type 0) (U V : NodeId → Type 0) (M : Type 0) → ((id : NodeId) → U id → V id) → OnFault fault F U M → OnUnfit fault V
unfit_of (Source f) F U V M named h = tt
unfit_of (Unfit id) F U V M named h = named id h
unfit_of (BucketFull next depth) F U V M named h = tt
unfit_of (Number id) F U V M named h = tt
unfit_of NoMemory F U V M named h = tt

-- ---- in one bucket

module _ (tells : List Row → Type 0) (finds : Finds) (upper at : ℕ) (v v' : BucketsValue) (b b' : Cache) (whole : AreBuckets v) (there : slice_get v.buckets at ≡ Some b) (are : v'.buckets ≡ slice_set v.buckets at b')
    (low high : List ℕ) (limit : ℕ) (pairs pairs' : List Pair) (F : FetchFault → Type 0) (r : Result (Unit {0}) TreeFault) (loaded : IsLoaded tells finds upper b b') (on_walk : LoadsOnWalk b b' low high limit)
    (reads : Reads (λ (done : Unit {0}). IsGathered b' low high limit pairs pairs') F (IsFirstUnfitBetween b' low high limit) r) where
  scanned : (done : Unit {0}) → r ≡ Ok done → Scans tells finds upper low high limit b b'
  scanned done ok = let g : IsGathered b' low high limit pairs pairs' = subst (λ (x : Result (Unit {0}) TreeFault). Reads (λ (done : Unit {0}). IsGathered b' low high limit pairs pairs') F (IsFirstUnfitBetween b' low high limit) x) ok reads in
      record { loaded = loaded; on_walk = on_walk; here = g.found.here; fit = g.found.fit }

  small : (k : ℕ) (y : Cache) → slice_get v.buckets k ≡ Some y → k < buckets
  small k y is = subst (λ (n : ℕ). k < n) whole.many (slice_get_within v.buckets k y is)

  pub scans_at : OnOk r (ScansAt tells finds upper at low high limit v v')
  scans_at = ok_of (ScansAt tells finds upper at low high limit v v') r
      (λ done ok. pairs_set (λ k y z. (k < buckets) × (k ≡ at → Scans tells finds upper low high limit y z) × (k ≢ at → z ≡ y)) v v' at b b' there are
      (small at b there, λ e. scanned done ok, λ ne. absurd (ne refl)) (λ j y ne is. (small j y is, λ e. absurd (ne e), λ _. refl)))

  why : (fault : TreeFault) → r ≡ Err fault → OnFault fault F (IsFirstUnfitBetween b' low high limit) (Unit {0})
  why fault err = subst (λ (x : Result (Unit {0}) TreeFault). Reads (λ (done : Unit {0}). IsGathered b' low high limit pairs pairs') F (IsFirstUnfitBetween b' low high limit) x) err reads

  cut : (fault : TreeFault) → r ≡ Err fault → IsCutOff tells finds upper low high limit fault b b'
  cut fault err = record {
    loaded = loaded;
    on_walk = on_walk;
    cause = fault_map fault F (λ _. Unit {0}) (IsFirstUnfitBetween b' low high limit) (λ id. id.bucket ≡ b.bucket → IsFirstUnfitBetween b' low high limit id) (Unit {0}) (λ f h. tt) (λ id h e. h) (why fault err);
  }

  pub cuts_off_at : IfErr r (λ fault. CutsOffAt tells finds upper at low high limit fault v v')
  cuts_off_at = err_of (λ fault. CutsOffAt tells finds upper at low high limit fault v v') r (λ fault err. record {
    each = pairs_set (λ k y z. (k ≡ at → IsCutOff tells finds upper low high limit fault y z) × (k ≢ at → (y.bucket ≢ at) × (z ≡ y))) v v' at b b' there are
        (λ e. cut fault err, λ ne. absurd (ne refl)) (λ j y ne is. (λ e. absurd (ne e), λ _. (λ e. ne (sym (whole.numbered j y is) ∙ e), refl)));
    named = fault_map fault F (λ _. Unit {0}) (IsFirstUnfitBetween b' low high limit) (λ id. id.bucket ≡ at) (Unit {0}) (λ f h. tt) (λ id h. h.of_bucket ∙ loaded.bucket ∙ whole.numbered at b there) (why fault err);
  })

-- ---- one bucket behind another

pub below_none : (tells : List Row → Type 0) (finds : Finds) (upper : ℕ) (low high : List ℕ) (limit : ℕ) (v : BucketsValue) → ScansBelow tells finds upper 0 low high limit v v
below_none tells finds upper low high limit v =
    pairs_same (λ k b b'. (0 < 0 → k < buckets) × (k < 0 → Scans tells finds upper low high limit b b') × (0 ≤ k → b' ≡ b)) v (λ k b is. (λ l. absurd (omega (arith, l)), λ l. absurd (omega (arith, l)), λ _. refl))

pub below_all : (tells : List Row → Type 0) (finds : Finds) (upper at : ℕ) (low high : List ℕ) (limit : ℕ) (u v : BucketsValue) → at ≡ buckets → ScansBelow tells finds upper at low high limit u v → ScansAll tells finds upper low high limit u v
below_all tells finds upper at low high limit u v all below =
    pairs_map (λ k b b'. (0 < at → k < buckets) × (k < at → Scans tells finds upper low high limit b b') × (at ≤ k → b' ≡ b)) (λ k b b'. Scans tells finds upper low high limit b b') u v
    (λ k a b h. h.1 (let small = h.0 (omega (arith, all)) in omega (arith, small, all))) below

module _ (tells tells' : List Row → Type 0) (finds finds' : Finds) (upper upper' : ℕ) (on : (rows : List Row) → tells rows → tells' rows) (back : (id : NodeId) (found : Content) → finds' id found → finds id found)
    (same : upper' ≡ upper) (at : ℕ) (low high : List ℕ) (limit : ℕ) (u v w : BucketsValue) (below : ScansBelow tells finds upper at low high limit u v) where
  pub below_on : ScansAt tells' finds' upper' at low high limit v w → ScansBelow tells finds upper (at + 1) low high limit u w
  below_on one = pairs_on (λ k b b'. (0 < at → k < buckets) × (k < at → Scans tells finds upper low high limit b b') × (at ≤ k → b' ≡ b))
      (λ k b b'. (k < buckets) × (k ≡ at → Scans tells' finds' upper' low high limit b b') × (k ≢ at → b' ≡ b))
      (λ k b b'. (0 < at + 1 → k < buckets) × (k < at + 1 → Scans tells finds upper low high limit b b') × (at + 1 ≤ k → b' ≡ b)) u v w
      (λ k a b c p q. (
        λ _. q.0,
        λ l. ⊎_elim
            (λ (e : k ≡ at). subst (λ (x : Cache). Scans tells finds upper low high limit x c) (p.2 (omega (arith, e))) (scans_before tells tells' finds finds' upper upper' on back same low high limit b c (q.1 e)))
            (λ (ne : k ≢ at). subst (Scans tells finds upper low high limit a) (sym (q.2 ne)) (p.1 (omega (arith, l, ne)))) (same_or_not k at),
        λ l. q.2 (λ e. omega (arith, l, e)) ∙ p.2 (omega (arith, l)),
      )) below one

  pub cut_on : (fault : TreeFault) → at < buckets → CutsOffAt tells' finds' upper' at low high limit fault v w → CutsOff tells finds upper low high limit fault u w
  cut_on fault small one = record {
    each = pairs_on (λ k b b'. (0 < at → k < buckets) × (k < at → Scans tells finds upper low high limit b b') × (at ≤ k → b' ≡ b))
        (λ k b b'. (k ≡ at → IsCutOff tells' finds' upper' low high limit fault b b') × (k ≢ at → (b.bucket ≢ at) × (b' ≡ b))) (λ k b b'. IsCutOff tells finds upper low high limit fault b b') u v w
        (λ k a b c p q. ⊎_elim
        (λ (e : k ≡ at). subst (λ (x : Cache). IsCutOff tells finds upper low high limit fault x c) (p.2 (omega (arith, e))) (cut_before tells tells' finds finds' upper upper' on back same low high limit fault b c (q.0 e)))
        (λ (ne : k ≢ at). ⊎_elim
        (λ (l : k < at). subst (IsCutOff tells finds upper low high limit fault a) (sym (q.1 ne).1) (beside a b (p.1 l) (λ e. (q.1 ne).0 ((p.1 l).loaded.bucket ∙ e))))
        (λ (l : at ≤ k). subst (IsCutOff tells finds upper low high limit fault a) (sym ((q.1 ne).1 ∙ p.2 l)) (behind a (λ e. (q.1 ne).0 (ap (λ (x : Cache). x.bucket) (p.2 l) ∙ e))))
        (cases_lt k at)) (same_or_not k at)) below one.each;
    named = unfit_of fault (λ _. Unit {0}) (λ id. id.bucket ≡ at) (λ id. id.bucket < buckets) (Unit {0}) (λ id e. subst (λ (n : ℕ). n < buckets) (sym e) small) one.named;
  }
    where
      cause : (a b : Cache) → a.bucket ≢ at → OnFault fault (λ _. Unit {0}) (λ id. id.bucket ≡ a.bucket → IsFirstUnfitBetween b low high limit id) (Unit {0})
      cause a b ne = fault_map fault (λ _. Unit {0}) (λ _. Unit {0}) (λ id. id.bucket ≡ at) (λ id. id.bucket ≡ a.bucket → IsFirstUnfitBetween b low high limit id) (Unit {0}) (λ f h. tt) (λ id e here. absurd (ne (sym here ∙ e))) one.named

      beside : (a b : Cache) → Scans tells finds upper low high limit a b → a.bucket ≢ at → IsCutOff tells finds upper low high limit fault a b
      beside a b s ne = record { loaded = s.loaded; on_walk = s.on_walk; cause = cause a b ne }

      behind : (a : Cache) → a.bucket ≢ at → IsCutOff tells finds upper low high limit fault a a
      behind a ne = record { loaded = loads_none tells finds upper a; on_walk = among_none a a _ (λ n. refl); cause = cause a a ne }

-- ---- the whole scan

module _ (tells : List Row → Type 0) (finds : Finds) (upper : ℕ) (low high : List ℕ) (limit : ℕ) (u v : BucketsValue) where
  pub scan_done : (log log' : List Row) → log' ≡ log → ScansAll tells finds upper low high limit u v → AddsDone tells finds upper (call.Scan low high limit ∷ []) log log' u v
  scan_done log log' same all = record {
    rows = [];
    behind = same ∙ sym (append-nil log);
    each = pairs_map (λ k b b'. Scans tells finds upper low high limit b b') (λ k b b'. DoAll tells finds upper (call.Scan low high limit ∷ []) [] b b') u v
        (λ k a b h. one_call tells finds upper (call.Scan low high limit) [] a b (refl, h)) all;
  }

  scan_stops_by : (fault : TreeFault) (more : List Call) → EachPair (λ k b b'. IsCutOff tells finds upper low high limit fault b b') u v → OnUnfit fault (λ id. id.bucket < buckets) → StopsAt tells finds upper (call.Scan low high limit ∷ more) fault u v
  scan_stops_by fault more each named = record {
    done = [];
    refused = call.Scan low high limit;
    rest = more;
    order = refl;
    rows = [];
    each = pairs_map (λ k b b'. IsCutOff tells finds upper low high limit fault b b') (λ k b b'. (mid : Cache) × DoAll tells finds upper [] [] b mid × Refused tells finds upper (call.Scan low high limit) fault mid b') u v
        (λ k a b h. (a, (refl, refl), h)) each;
    named = named;
  }

  pub scan_stops : (fault : TreeFault) (more : List Call) → CutsOff tells finds upper low high limit fault u v → StopsAt tells finds upper (call.Scan low high limit ∷ more) fault u v
  scan_stops fault more c = scan_stops_by fault more c.each c.named

  -- behind all buckets memory ran out
  pub scan_stops_lost : (more : List Call) → ScansAll tells finds upper low high limit u v → StopsAt tells finds upper (call.Scan low high limit ∷ more) NoMemory u v
  scan_stops_lost more all = scan_stops_by NoMemory more
      (pairs_map (λ k b b'. Scans tells finds upper low high limit b b') (λ k b b'. IsCutOff tells finds upper low high limit NoMemory b b') u v (λ k a b s. record { loaded = s.loaded; on_walk = s.on_walk; cause = tt }) all) tt
