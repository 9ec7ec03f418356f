-- What a call loaded and changed in its buckets, from the draft below to the call.
use Rattle.std.proofs.Common.{◌≡◌, ◌≢◌, ⊎_elim, ℕ, ◌+◌, ◌<◌, ◌≤◌, true, false, true≢false, cond, nat_le, List, [], slice_get, Option, Result, Ok, Err, refl, sym, ap, ◌∙◌, subst, arith}
use Rattle.std.specs.Prelude.{OnOk}
use Rattle.std.proofs.lemmas.Bool.Decides.{leb_tells}
use Rattle.fine_model.specs.declared.Call.{Call}
use Rattle.fine_model.specs.declared.Call.TheVariants as call
use Rattle.fine_model.specs.declared.FetchFault.{FetchFault}
use Rattle.fine_model.specs.declared.NodeId.{NodeId}
use Rattle.fine_model.specs.declared.Row.{Row}
use Rattle.fine_model.specs.Map.{Pair}
use Rattle.fine_model.specs.Pushed.{key_of}
use Rattle.node_cache.specs.Cache.{Cache}
use Rattle.node_cache.specs.Given.{IsLoaded}
use Rattle.btree_nodes.specs.declared.fault.TreeFault.{TreeFault}
use Rattle.btree_nodes.specs.declared.fault.TreeFault.TheVariants.{Source, Unfit, BucketFull, Number, NoMemory}
use Rattle.btree_nodes.specs.Calls.{IsChange, Outcome, Reads}
use Rattle.btree_nodes.specs.Faults.{OnFault}
use Rattle.btree_nodes.specs.Trees.{pairs_in}
use Rattle.btree_nodes.proofs.Loads.{among_none, loaded_before}
use Rattle.txn_draft.specs.Answers.{KeepsBy}
use Rattle.txn_draft.specs.Drafts.{DraftValue, is_here, is_scan}
use Rattle.txn_draft.specs.Scans.{IsGathered, KeepsFound}
use Rattle.txn_draft.proofs.Stepped.{loads_none}
use Rattle.partition_hold.specs.SourceLaws.{finds_before, later_tells}
use Rattle.partition_hold.specs.Sources.{IsLater, finds_in, tells_rows}
use Rattle.partition_hold.specs.Views.{ViewValue}
use Rattle.key_locks.specs.Locks.{HasLock}
use Rattle.txn_engine.specs.Reads.{ChangesIn, DoesIn, EachWalks, AnswersScan, GathersBelow, OnlyWalks, Traces, WalksIn}
use Rattle.txn_engine.specs.Txns.{HasAll}
use Rattle.txn_engine.proofs.Ending.{less_or_at}
use Rattle.txn_engine.proofs.Open.{one_content}

-- ---- a view some loads later

-- what is loaded through a view later is loaded through it now
pub loads_through : (u v : ViewValue) (b b' : Cache) → IsLater u v → IsLoaded (tells_rows v) (finds_in v) v.upto b b' → IsLoaded (tells_rows u) (finds_in u) u.upto b b'
loads_through u v b b' l h = loaded_before (tells_rows u) (tells_rows v) (finds_in u) (finds_in v) u.upto v.upto b b' (λ rows told. later_tells u v rows l told) (λ id found f. finds_before u v id found l f) l.same.upto h

-- ---- a call that is no scan

-- what fails is not told of
unfailed : (mid new : Cache) (log log' more : List Row) (c : Call) (P Q : Unit {0} → Type 0) (F : FetchFault → Type 0) (r : Result (Unit {0}) TreeFault) → ((done : Unit {0}) → r ≡ Ok done → P done → Q done) → more ≡ log'
    → Outcome mid new log log' c P F r → Outcome mid new log more c Q (λ _. Unit {0}) r
unfailed mid new log log' more c P Q F (Ok done) so same (p, reached, is) = (so done refl p, reached, record { rows = is.rows; is_pushed = is.is_pushed; behind = same ∙ is.behind; pushes = is.pushes; fits = is.fits })
unfailed mid new log log' more c P Q F (Err (Source fault)) so same (p, left) = (tt, record { nodes = left.nodes; rows = same ∙ left.rows })
unfailed mid new log log' more c P Q F (Err (Unfit id)) so same (p, left) = (p, record { nodes = left.nodes; rows = same ∙ left.rows })
unfailed mid new log log' more c P Q F (Err (BucketFull next depth)) so same (p, head, reached, left) = (p, head, reached, record { nodes = left.nodes; rows = same ∙ left.rows })
unfailed mid new log log' more c P Q F (Err (Number id)) so same (p, over, reached, left) = (p, over, reached, record { nodes = left.nodes; rows = same ∙ left.rows })
unfailed mid new log log' more c P Q F (Err NoMemory) so same saves = saves

pub changes : (v : ViewValue) (d d' : DraftValue) (c : Call) (F : FetchFault → Type 0) (r : Result (Unit {0}) TreeFault) (b b' : Cache) → IsChange (tells_rows v) (finds_in v) v.upto b b' d.rows d'.rows c (λ mid _. KeepsBy (pairs_in mid (key_of c)) c d d') F r → ChangesIn v d d' c r b b'
changes v d d' c F r b b' h = record {
  mid = h.mid;
  loaded = h.loaded;
  on_way = h.on_way;
  used = h.used;
  outcome = unfailed h.mid b' d.rows d'.rows d'.rows c (λ _. KeepsBy (pairs_in h.mid (key_of c)) c d d') (λ _. KeepsBy (pairs_in h.mid (key_of c)) c d d') F r (λ done is k. k) refl h.outcome;
}

pub plain_does : (v : ViewValue) (d d' : DraftValue) (c : Call) (r : Result (Unit {0}) TreeFault) (b b' : Cache) → is_scan c ≡ false → ChangesIn v d d' c r b b' → DoesIn v d d' c r b b'
plain_does v d d' (call.Get key) r b b' plain h = h
plain_does v d d' (call.Put key value) r b b' plain h = h
plain_does v d d' (call.Del key) r b b' plain h = h
plain_does v d d' (call.Add key by) r b b' plain h = h
plain_does v d d' (call.Scan low high limit) r b b' plain h = absurd (true≢false plain)

pub plain_finds : (locks : List (Option Cache)) (d d' : DraftValue) (c : Call) (r : Result (Unit {0}) TreeFault) → is_scan c ≡ false → OnOk r (AnswersScan locks d d' c)
plain_finds locks d d' (call.Get key) (Ok done) plain = tt
plain_finds locks d d' (call.Put key value) (Ok done) plain = tt
plain_finds locks d d' (call.Del key) (Ok done) plain = tt
plain_finds locks d d' (call.Add key by) (Ok done) plain = tt
plain_finds locks d d' (call.Scan low high limit) (Ok done) plain = absurd (true≢false plain)
plain_finds locks d d' c (Err fault) plain = tt

-- ---- a call whose draft is then another, with the same rows

module _ (v : ViewValue) (d d₁ d₂ : DraftValue) (c : Call) (fault : TreeFault) (rows : d₂.rows ≡ d₁.rows) (b b' : Cache) where
  changes_as : ChangesIn v d d₁ c (Err fault) b b' → ChangesIn v d d₂ c (Err fault) b b'
  changes_as h = record {
    mid = h.mid;
    loaded = h.loaded;
    on_way = h.on_way;
    used = h.used;
    outcome = unfailed h.mid b' d.rows d₁.rows d₂.rows c (λ _. KeepsBy (pairs_in h.mid (key_of c)) c d d₁) (λ _. KeepsBy (pairs_in h.mid (key_of c)) c d d₂) (λ _. Unit {0}) (Err fault) (λ done is. absurd (not_ok fault done is)) rows h.outcome;
  }
    where
      not_ok : (fault : TreeFault) (done : Unit {0}) → (◌≡◌ {A = Result (Unit {0}) TreeFault} (Err fault) (Ok done)) → ⊥
      not_ok fault done is = cc

pub does_as : (v : ViewValue) (d d₁ d₂ : DraftValue) (c : Call) (fault : TreeFault) → d₂.rows ≡ d₁.rows → (b b' : Cache) → DoesIn v d d₁ c (Err fault) b b' → DoesIn v d d₂ c (Err fault) b b'
does_as v d d₁ d₂ (call.Get key) fault rows b b' h = changes_as v d d₁ d₂ (call.Get key) fault rows b b' h
does_as v d d₁ d₂ (call.Put key value) fault rows b b' h = changes_as v d d₁ d₂ (call.Put key value) fault rows b b' h
does_as v d d₁ d₂ (call.Del key) fault rows b b' h = changes_as v d d₁ d₂ (call.Del key) fault rows b b' h
does_as v d d₁ d₂ (call.Add key by) fault rows b b' h = changes_as v d d₁ d₂ (call.Add key by) fault rows b b' h
does_as v d d₁ d₂ (call.Scan low high limit) fault rows b b' h = h

-- ---- a scan, in one bucket

-- nothing was done
only_itself : (v : ViewValue) (low high : List ℕ) (limit : ℕ) (b : Cache) → OnlyWalks v low high limit b b
only_itself v low high limit b = (loads_none (tells_rows v) (finds_in v) v.upto b, among_none b b _ (λ n. refl))

only_through : (u v : ViewValue) (low high : List ℕ) (limit : ℕ) (b b' : Cache) → IsLater u v → OnlyWalks v low high limit b b' → OnlyWalks u low high limit b b'
only_through u v low high limit b b' l h = (loads_through u v b b' l h.0, h.1)

only_of : (v : ViewValue) (low high : List ℕ) (limit : ℕ) (b b' : Cache) → WalksIn v low high limit (Ok tt) b b' → OnlyWalks v low high limit b b'
only_of v low high limit b b' h = (h.loaded, h.on_walk)

-- a scan that was refused did nothing but loads
refused_walk : (v : ViewValue) (low high : List ℕ) (limit : ℕ) (b b' : Cache) (fault : TreeFault) → OnFault fault (λ _. Unit {0}) (λ _. Unit {0}) (Unit {0}) → OnlyWalks v low high limit b b' → WalksIn v low high limit (Err fault) b b'
refused_walk v low high limit b b' (Source f) why h = h
refused_walk v low high limit b b' (Unfit id) why h = h
refused_walk v low high limit b b' (BucketFull next depth) why h = why
refused_walk v low high limit b b' (Number id) why h = why
refused_walk v low high limit b b' NoMemory why h = h

pub fault_why : (b : Cache) (low high : List ℕ) (limit : ℕ) (pairs pairs' : List Pair) (F : FetchFault → Type 0) (U : NodeId → Type 0) (r : Result (Unit {0}) TreeFault) → Reads (λ (done : Unit {0}). IsGathered b low high limit pairs pairs') F U r
    → Reads (λ (done : Unit {0}). IsGathered b low high limit pairs pairs') (λ _. Unit {0}) (λ _. Unit {0}) r
fault_why b low high limit pairs pairs' F U (Ok done) h = h
fault_why b low high limit pairs pairs' F U (Err (Source f)) h = tt
fault_why b low high limit pairs pairs' F U (Err (Unfit id)) h = tt
fault_why b low high limit pairs pairs' F U (Err (BucketFull next depth)) h = h
fault_why b low high limit pairs pairs' F U (Err (Number id)) h = h
fault_why b low high limit pairs pairs' F U (Err NoMemory) h = tt

-- ---- a scan, from bucket to bucket

pub walks_none : (v : ViewValue) (locks : List (Option Cache)) (low high : List ℕ) (limit : ℕ) → EachWalks 0 v locks locks low high limit (Ok tt)
walks_none v locks low high limit = λ k b less h. absurd (omega (arith, less))

pub gathers_none : (locks : List (Option Cache)) (low high : List ℕ) (limit : ℕ) (pairs : List Pair) → GathersBelow 0 locks low high limit pairs pairs
gathers_none locks low high limit pairs = record { so_far = λ j. pairs; before = refl; all = refl; next = λ k b less h. absurd (omega (arith, less)) }

-- one bucket more
module _ (u v : ViewValue) (at : ℕ) (locks mid locks' : List (Option Cache)) (low high : List ℕ) (limit : ℕ) (later : IsLater u v) (old new : Cache) (there : HasLock mid at old) (now_there : HasLock locks' at new)
    (other : (k : ℕ) → k ≢ at → slice_get locks' k ≡ slice_get mid k) (above : (k : ℕ) → at ≤ k → slice_get mid k ≡ slice_get locks k) (only : OnlyWalks v low high limit old new) (before : EachWalks at u locks mid low high limit (Ok tt)) where
  same_old : (b : Cache) → HasLock locks at b → old ≡ b
  same_old b h = one_content mid at old b there (above at (omega arith) ∙ h)

  module _ (s s' : List Pair) (g : IsGathered new low high limit s s') where
    here : (b : Cache) → HasLock locks at b → (b' : Cache) × HasLock locks' at b' × WalksIn u low high limit (Ok tt) b b'
    here b h = (new, now_there, record { loaded = subst (λ y. IsLoaded (tells_rows u) (finds_in u) u.upto y new) (same_old b h) (loads_through u v old new later only.0); on_walk = (subst (λ y. OnlyWalks v low high limit y new) (same_old b h) only).1; here = g.found.here; fit = g.found.fit })

    pub walks_more : EachWalks (at + 1) u locks locks' low high limit (Ok tt)
    walks_more k b lt h = ⊎_elim
        (λ (less : k < at). let now = before k b less h in (now.0, other k (λ e. omega (arith, less, e)) ∙ now.1, now.2))
        (λ (is : k ≡ at). subst (λ j. (b' : Cache) × HasLock locks' j b' × WalksIn u low high limit (Ok tt) b b') (sym is) (here b (subst (λ j. HasLock locks j b) is h)))
        (less_or_at k at lt)

    module _ (s₀ : List Pair) (f : GathersBelow at mid low high limit s₀ s) where
      abbrev so_far : ℕ → List Pair
      so_far j = cond (nat_le j at) (f.so_far j) s'

      was : (j : ℕ) → j ≤ at → so_far j ≡ f.so_far j
      was j le = ⊎_elim
          (λ (yes : (nat_le j at ≡ true) × (j ≤ at)). ap (λ t. cond t (f.so_far j) s') yes.0)
          (λ (no : (nat_le j at ≡ false) × (at < j)). absurd (omega (arith, le, no.1)))
          (leb_tells j at)

      is_new : so_far (at + 1) ≡ s'
      is_new = ⊎_elim
          (λ (yes : (nat_le (at + 1) at ≡ true) × (at + 1 ≤ at)). absurd (omega (arith, yes.1)))
          (λ (no : (nat_le (at + 1) at ≡ false) × (at < at + 1)). ap (λ t. cond t (f.so_far (at + 1)) s') no.0)
          (leb_tells (at + 1) at)

      last : (b : Cache) → HasLock locks' at b → IsGathered b low high limit (so_far at) (so_far (at + 1))
      last b h = subst (IsGathered b low high limit (so_far at)) (sym is_new) (subst (λ ps. IsGathered b low high limit ps s') (sym (was at (omega arith) ∙ f.all)) (subst (λ y. IsGathered y low high limit s s') (one_content locks' at new b now_there h) g))

      pub gathers_more : GathersBelow (at + 1) locks' low high limit s₀ s'
      gathers_more = record {
        so_far = so_far;
        before = was 0 (omega arith) ∙ f.before;
        all = is_new;
        next = λ k b lt h. ⊎_elim
            (λ (less : k < at). subst (IsGathered b low high limit (so_far k)) (sym (was (k + 1) (omega (arith, less)))) (subst (λ ps. IsGathered b low high limit ps (f.so_far (k + 1))) (sym (was k (omega (arith, less))))
            (f.next k b less (sym (other k (λ e. omega (arith, less, e))) ∙ h))))
            (λ (is : k ≡ at). subst (λ j. IsGathered b low high limit (so_far j) (so_far (j + 1))) (sym is) (last b (subst (λ j. HasLock locks' j b) is h)))
            (less_or_at k at lt);
      }

  -- a fault came
  pub walks_halted : (fault : TreeFault) → OnFault fault (λ _. Unit {0}) (λ _. Unit {0}) (Unit {0}) → EachWalks 256 u locks locks' low high limit (Err fault)
  walks_halted fault why k b lt h = let w = done in (w.0, w.1, refused_walk u low high limit b w.0 fault why w.2)
    where
      done : (b' : Cache) × HasLock locks' k b' × OnlyWalks u low high limit b b'
      done = ⊎_elim
          (λ (behind : (nat_le (at + 1) k ≡ true) × (at + 1 ≤ k)). (b, other k (λ e. omega (arith, behind.1, e)) ∙ (above k (omega (arith, behind.1)) ∙ h), only_itself u low high limit b))
          (λ (least : (nat_le (at + 1) k ≡ false) × (k < at + 1)). ⊎_elim
          (λ (less : k < at). let now = before k b less h in (now.0, other k (λ e. omega (arith, less, e)) ∙ now.1, only_of u low high limit b now.0 now.2))
          (λ (is : k ≡ at). subst (λ j. (b' : Cache) × HasLock locks' j b' × OnlyWalks u low high limit b b') (sym is)
          (new, now_there, subst (λ y. OnlyWalks u low high limit y new) (same_old b (subst (λ j. HasLock locks j b) is h)) (only_through u v low high limit old new later only)))
          (less_or_at k at least.1))
          (leb_tells (at + 1) k)

-- ---- the whole scan

pub walks_lost : (v : ViewValue) (locks locks' : List (Option Cache)) (low high : List ℕ) (limit : ℕ) → EachWalks 256 v locks locks' low high limit (Ok tt) → EachWalks 256 v locks locks' low high limit (Err NoMemory)
walks_lost v locks locks' low high limit w k b less h = let now = w k b less h in (now.0, now.1, only_of v low high limit b now.0 now.2)

module _ (v : ViewValue) (locks locks' : List (Option Cache)) (d d' : DraftValue) (c : Call) (low high : List ℕ) (limit : ℕ) (scans : c ≡ call.Scan low high limit) (all : HasAll locks) where
  traced_each : (r : Result (Unit {0}) TreeFault) → EachWalks 256 v locks locks' low high limit r → (k : ℕ) (b' : Cache) → k < 256 → is_here k c ≡ true → HasLock locks' k b' → (b : Cache) × HasLock locks k b × DoesIn v d d' c r b b'
  traced_each r w k b' less on h =
      let b = all k less in
      let now = w k b.0 less b.1 in
      (b.0, b.1, subst (λ x. DoesIn v d d' x r b.0 b') (sym scans) (subst (WalksIn v low high limit r b.0) (one_content locks' k now.0 b' now.1 h) now.2))

  pub traced_found : (s : List Pair) → EachWalks 256 v locks locks' low high limit (Ok tt) → GathersBelow 256 locks' low high limit [] s → KeepsFound c s d d' → Traces v locks locks' d d' c (Ok tt)
  traced_found s w g keeps = record { each = traced_each (Ok tt) w; finds = subst (AnswersScan locks' d d') (sym scans) (s, g, subst (λ x. KeepsFound x s d d') scans keeps) }

  pub traced_halted : (fault : TreeFault) → EachWalks 256 v locks locks' low high limit (Err fault) → Traces v locks locks' d d' c (Err fault)
  traced_halted fault w = record { each = traced_each (Err fault) w; finds = tt }
