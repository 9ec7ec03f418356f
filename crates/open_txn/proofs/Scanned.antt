-- A scan from bucket to bucket.
use Rattle.std.proofs.Common.{◌≡◌, ℕ, ◌+◌, ◌<◌, ◌≤◌, true, false, List, [], ◌∷◌, ◌++◌, slice_get, slice_set, Some, Result, Ok, Err, sym, ap, ◌∙◌, subst, le_refl, inr, refl}
use Rattle.std.specs.Prelude.{IfErr, OnOk}
use Rattle.fine_model.specs.declared.Call.{Call}
use Rattle.fine_model.specs.declared.Call.TheVariants as call
use Rattle.fine_model.specs.declared.FetchFault.{FetchFault}
use Rattle.fine_model.specs.declared.NodeId.{NodeId}
use Rattle.fine_model.specs.declared.Reply.TheVariants as reply
use Rattle.fine_model.specs.declared.Row.{Row}
use Rattle.fine_model.specs.ScanLaws.{IsKept}
use Rattle.fine_model.specs.Trees.{IsSound}
use Rattle.fine_model.proofs.Ordered.KeptPairs.{kept_first}
use Rattle.node_cache.specs.Cache.{Cache}
use Rattle.btree_nodes.specs.declared.fault.TreeFault.{TreeFault}
use Rattle.btree_nodes.specs.declared.fault.TreeFault.TheVariants.{Source, Unfit, BucketFull, Number, NoMemory}
use Rattle.btree_nodes.specs.Calls.{Reads, SoundReading}
use Rattle.btree_nodes.specs.Faults.{OnFault}
use Rattle.btree_nodes.specs.Trees.{Holds, Serves}
use Rattle.txn_draft.specs.Drafts.{DraftValue, FitsDraft, IsAnswered}
use Rattle.txn_draft.specs.Scans.{IsGathered, KeepsFound, ScanValue}
use Rattle.txn_draft.specs.Uses.{IsUsed}
use Rattle.open_txn.specs.Buckets.{BucketsValue, HoldAll, ServeAll}
use Rattle.open_txn.specs.Opened.{HasCause, UseAll}
use Rattle.open_txn.specs.Steps.{Advances, AreFound, Gathers, Halts, Refuses}
use Rattle.open_txn.proofs.Advanced.{each_now, err_of, ok_of, still_served, use_one}
use Rattle.open_txn.proofs.PairsFound.{found_gathered, found_none, found_reply}

-- ---- why a bucket could not be gone through

-- Where no node is unfit, none is full and no number too large, the fault leaves what is held,
pub held_behind : (H : Type 0) (fault : TreeFault) → OnFault fault (λ _. H) (λ _. ⊥) H → H
held_behind H (Source f) h = h
held_behind H (Unfit id) h = absurd h
held_behind H (BucketFull next depth) h = absurd h
held_behind H (Number id) h = absurd h
held_behind H NoMemory h = h

-- and is of the source, or of memory.
pub caused_by : (H : Type 0) (fault : TreeFault) → OnFault fault (λ _. H) (λ _. ⊥) H → OnFault fault (λ _. Unit {0}) (λ _. ⊥) (Unit {0})
caused_by H (Source f) h = tt
caused_by H (Unfit id) h = h
caused_by H (BucketFull next depth) h = h
caused_by H (Number id) h = h
caused_by H NoMemory h = tt

-- ---- one bucket

module _ (tells tells' : List Row → Type 0) (upper k : ℕ) (v v' : BucketsValue) (b b' : Cache) (there : slice_get v.buckets k ≡ Some b) (buckets : v'.buckets ≡ slice_set v.buckets k b') (flags : v'.touched ≡ slice_set v.touched k true)
    (later : (rows : List Row) → tells rows → tells' rows) (low high : List ℕ) (limit : ℕ) (s s' : ScanValue) (r : Result (Unit {0}) TreeFault)
    (used : (least : ℕ) (taken : Cache) (rows : List Row) → IsUsed least taken b rows → least ≤ upper → IsUsed least taken b' rows) (serves : (rows : List Row) → Serves tells b rows → Serves tells' b' rows)
    (sound : (rows log : List Row) → Serves tells b rows → Holds b rows log → IsSound (rows ++ log)
    → SoundReading rows log b' (λ (done : Unit {0}). IsKept (rows ++ log) low high limit s.next s.pairs → IsKept (rows ++ log) low high limit s'.next s'.pairs) r) where
  uses : (least : ℕ) (taken : BucketsValue) (rows : List Row) → UseAll least taken v rows → least ≤ upper → UseAll least taken v' rows
  uses least taken rows all most = use_one k v v' b b' there buckets flags least taken rows rows all (λ t u. used least t rows u most) (λ j t y ne is u. u)

  others_hold : (rows log : List Row) → HoldAll rows log v → Holds b' rows log → HoldAll rows log v'
  others_hold rows log all here = each_now k v v' b b' there buckets flags (λ j y. Holds y rows log) here (λ j y ne is. all j y is)

  pub gathered_in : (done : Unit {0}) → r ≡ Ok done → b'.bucket ≡ s.next → s.next < 256 → s'.next ≡ s.next + 1 → IsGathered b' low high limit s.pairs s'.pairs → Gathers tells tells' upper v v' low high limit s s'
  gathered_in done ok here within next g = record {
    found = λ was. subst (λ (n : ℕ). AreFound low high n s'.pairs) (sym next) (found_gathered low high b' limit s.next s.pairs s'.pairs here within g was);
    uses = uses;
    serves = λ rows all. each_now k v v' b b' there buckets flags (λ j y. Serves tells' y rows) (serves rows (all k b there)) (λ j y ne is. still_served tells tells' y rows later (all j y is));
    holds = λ rows log served all fine. others_hold rows log all (now rows log served all fine).1;
    kept = λ rows log served all fine. (now rows log served all fine).0;
  }
    where
      now : (rows log : List Row) → ServeAll tells rows v → HoldAll rows log v → IsSound (rows ++ log)
          → (IsKept (rows ++ log) low high limit s.next s.pairs → IsKept (rows ++ log) low high limit s'.next s'.pairs) × Holds b' rows log
      now rows log served all fine = subst (λ (x : Result (Unit {0}) TreeFault). SoundReading rows log b' (λ (done : Unit {0}). IsKept (rows ++ log) low high limit s.next s.pairs → IsKept (rows ++ log) low high limit s'.next s'.pairs) x) ok
          (sound rows log (served k b there) (all k b there) fine)

  pub halted_in : (fault : TreeFault) → r ≡ Err fault → Halts tells upper v v' fault
  halted_in fault err = record {
    uses = uses;
    holds = λ rows log served all fine. others_hold rows log all (held_behind (Holds b' rows log) fault (now rows log served all fine));
    cause = λ rows log served all fine. caused_by (Holds b' rows log) fault (now rows log served all fine);
  }
    where
      now : (rows log : List Row) → ServeAll tells rows v → HoldAll rows log v → IsSound (rows ++ log) → OnFault fault (λ _. Holds b' rows log) (λ _. ⊥) (Holds b' rows log)
      now rows log served all fine = subst (λ (x : Result (Unit {0}) TreeFault). SoundReading rows log b' (λ (done : Unit {0}). IsKept (rows ++ log) low high limit s.next s.pairs → IsKept (rows ++ log) low high limit s'.next s'.pairs) x) err
          (sound rows log (served k b there) (all k b there) fine)

  pub gathers_in : (F : FetchFault → Type 0) (U : NodeId → Type 0) → b'.bucket ≡ s.next → s.next < 256 → OnOk r (s'.next ≡ s.next + 1) → Reads (λ (done : Unit {0}). IsGathered b' low high limit s.pairs s'.pairs) F U r
      → OnOk r (Gathers tells tells' upper v v' low high limit s s')
  gathers_in F U here within next reads = ok_of (Gathers tells tells' upper v v' low high limit s s') r
      (λ done ok. gathered_in done ok here within (subst (λ (x : Result (Unit {0}) TreeFault). OnOk x (s'.next ≡ s.next + 1)) ok next) (subst (λ (x : Result (Unit {0}) TreeFault). Reads (λ (done : Unit {0}). IsGathered b' low high limit s.pairs s'.pairs) F U x) ok reads))

  pub halts_in : IfErr r (Halts tells upper v v')
  halts_in = err_of (Halts tells upper v v') r halted_in

-- ---- one bucket behind another

pub gathers_none : (tells : List Row → Type 0) (upper : ℕ) (v : BucketsValue) (low high : List ℕ) (limit : ℕ) (s : ScanValue) → Gathers tells tells upper v v low high limit s s
gathers_none tells upper v low high limit s = record {
  found = λ was. was;
  uses = λ least taken rows all most. all;
  serves = λ rows all. all;
  holds = λ rows log served all fine. all;
  kept = λ rows log served all fine kept. kept;
}

module _ (tells mid : List Row → Type 0) (upper upper' : ℕ) (same : upper' ≡ upper) (a b : BucketsValue) (low high : List ℕ) (limit : ℕ) (s s' : ScanValue) (one : Gathers tells mid upper a b low high limit s s') where
  pub gathers_on : (tells' : List Row → Type 0) (c : BucketsValue) (s'' : ScanValue) → Gathers mid tells' upper' b c low high limit s' s'' → Gathers tells tells' upper a c low high limit s s''
  gathers_on tells' c s'' two = record {
    found = λ was. two.found (one.found was);
    uses = λ least taken rows all most. two.uses least taken rows (one.uses least taken rows all most) (subst (λ (n : ℕ). least ≤ n) (sym same) most);
    serves = λ rows all. two.serves rows (one.serves rows all);
    holds = λ rows log served all fine. two.holds rows log (one.serves rows served) (one.holds rows log served all fine) fine;
    kept = λ rows log served all fine kept. two.kept rows log (one.serves rows served) (one.holds rows log served all fine) fine (one.kept rows log served all fine kept);
  }

  pub halts_on : (c : BucketsValue) (fault : TreeFault) → Halts mid upper' b c fault → Halts tells upper a c fault
  halts_on c fault two = record {
    uses = λ least taken rows all most. two.uses least taken rows (one.uses least taken rows all most) (subst (λ (n : ℕ). least ≤ n) (sym same) most);
    holds = λ rows log served all fine. two.holds rows log (one.serves rows served) (one.holds rows log served all fine) fine;
    cause = λ rows log served all fine. two.cause rows log (one.serves rows served) (one.holds rows log served all fine) fine;
  }

-- ---- the whole scan

module _ (tells tells' : List Row → Type 0) (upper : ℕ) (v v' : BucketsValue) (d : DraftValue) (low high : List ℕ) (limit : ℕ) where
  pub scan_found : (d' : DraftValue) (s : ScanValue) → d.failed ≡ false → s.next ≡ 256 → Gathers tells tells' upper v v' low high limit (record { pairs = []; next = 0 }) s → KeepsFound (call.Scan low high limit) s.pairs d d'
      → (FitsDraft d → FitsDraft d') → d'.rows ≡ d.rows → ((rows : List Row) → IsAnswered rows d → IsKept (rows ++ d.rows) low high limit 256 s.pairs → IsAnswered rows d') → Advances tells tells' upper v v' d d' (call.Scan low high limit ∷ [])
  scan_found d' s was next g keeps fits rows_same answers = record {
    not_failed = ap (λ x. x.failed) keeps.is ∙ was;
    behind = ap (λ x. x.calls) keeps.is;
    replied = record {
      replies = reply.Found keeps.first ∷ [];
      behind = ap (λ x. x.replies) keeps.is;
      each = (found_reply low high limit 256 (le_refl 256) s.pairs keeps.first keeps.is_first (subst (λ (n : ℕ). AreFound low high n s.pairs) next (g.found (found_none low high))), tt);
    };
    fits = fits;
    uses = λ least taken all most. subst (UseAll least taken v') (sym rows_same) (g.uses least taken d.rows all most);
    served = λ rows all. record {
      serves = g.serves rows all.serves;
      holds = subst (λ log. HoldAll rows log v') (sym rows_same) (g.holds rows d.rows all.serves all.holds all.answered.leaves.has_map.sound);
      answered = answers rows all.answered (subst (λ (n : ℕ). IsKept (rows ++ d.rows) low high limit n s.pairs) next
          (g.kept rows d.rows all.serves all.holds all.answered.leaves.has_map.sound (kept_first (rows ++ d.rows) low high limit)));
    };
    touches = λ k on. inr refl;
  }

  -- a fault of one bucket refuses it
  pub scan_halted : (fault : TreeFault) (more : List Call) → Halts tells upper v v' fault → Refuses tells upper v v' d (call.Scan low high limit ∷ more) fault
  scan_halted fault more h = record {
    undoes = λ least taken all most. let u = h.uses least taken d.rows all most in record { each = λ k t b is_t is_b. (u.each k t b is_t is_b).undoes; untouched = u.untouched };
    restores = λ rows all k b is. (h.holds rows d.rows all.serves all.holds all.answered.leaves.has_map.sound k b is).restores;
    cause = λ rows all. cause_of rows fault (h.cause rows d.rows all.serves all.holds all.answered.leaves.has_map.sound);
    touches = λ k on. inr refl;
  }
    where
      cause_of : (rows : List Row) (f : TreeFault) → OnFault f (λ _. Unit {0}) (λ _. ⊥) (Unit {0}) → HasCause rows (d.calls ++ call.Scan low high limit ∷ more) f
      cause_of rows (Source f) h = tt
      cause_of rows (Unfit id) h = h
      cause_of rows (BucketFull next depth) h = absurd h
      cause_of rows (Number id) h = absurd h
      cause_of rows NoMemory h = tt

  -- and so does want of memory behind all of them
  pub scan_lost : (s : ScanValue) (more : List Call) → Gathers tells tells' upper v v' low high limit (record { pairs = []; next = 0 }) s → Refuses tells upper v v' d (call.Scan low high limit ∷ more) NoMemory
  scan_lost s more g = record {
    undoes = λ least taken all most. let u = g.uses least taken d.rows all most in record { each = λ k t b is_t is_b. (u.each k t b is_t is_b).undoes; untouched = u.untouched };
    restores = λ rows all k b is. (g.holds rows d.rows all.serves all.holds all.answered.leaves.has_map.sound k b is).restores;
    cause = λ rows all. tt;
    touches = λ k on. inr refl;
  }
