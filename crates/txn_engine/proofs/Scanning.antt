-- A scan from bucket to bucket, through a view.
use Rattle.std.proofs.Common.{◌≡◌, ◌≢◌, ⊎_elim, ℕ, ◌+◌, ◌<◌, ◌≤◌, true, false, nat_le, List, [], ◌++◌, slice_get, Option, Some, Result, Ok, Err, inl, refl, sym, ap, ◌∙◌, subst, arith}
use Rattle.std.specs.Prelude.{OnOk, IfErr}
use Rattle.std.proofs.lemmas.Bool.Decides.{leb_tells}
use Rattle.fine_model.specs.declared.Call.{Call}
use Rattle.fine_model.specs.declared.Call.TheVariants as call
use Rattle.fine_model.specs.declared.NodeId.{NodeId}
use Rattle.fine_model.specs.declared.Row.{Row}
use Rattle.fine_model.specs.ScanLaws.{IsKept}
use Rattle.fine_model.proofs.Ordered.KeptPairs.{kept_first}
use Rattle.node_cache.specs.Cache.{Cache}
use Rattle.btree_nodes.specs.declared.fault.TreeFault.{TreeFault}
use Rattle.btree_nodes.specs.declared.fault.TreeFault.TheVariants.{Unfit}
use Rattle.btree_nodes.specs.Calls.{Reads}
use Rattle.btree_nodes.specs.Faults.{OnFault}
use Rattle.btree_nodes.specs.Trees.{Serves}
use Rattle.txn_draft.specs.Drafts.{DraftValue, FitsDraft, IsAnswered}
use Rattle.txn_draft.specs.Scans.{IsGathered, KeepsFound, ScanValue}
use Rattle.open_txn.proofs.Advanced.{still_served}
use Rattle.partition_hold.specs.SourceLaws.{later_tells}
use Rattle.partition_hold.specs.Sources.{IsLater, tells_rows}
use Rattle.partition_hold.specs.Views.{ViewValue}
use Rattle.key_locks.specs.Locks.{HasLock}
use Rattle.key_locks.proofs.Held.{get_same, get_else}
use Rattle.txn_engine.specs.Steps.{AreRead, AreServed, GathersIn, GathersMore, GathersOr, IsRead, ScansIn, UnfitBy}
use Rattle.txn_engine.specs.Reads.{EachWalks, GathersBelow}
use Rattle.txn_engine.specs.Txns.{HasAll, IsUnfitIn}
use Rattle.txn_engine.proofs.Open.{one_content}
use Rattle.txn_engine.proofs.Ending.{less_or_at}
use Rattle.txn_engine.proofs.Reading.{gathers_more, walks_halted, walks_more}

-- ---- one bucket behind another

-- a view tells later what it told
served_later : (v v' : ViewValue) (b : Cache) (rows : List Row) → IsLater v v' → Serves (tells_rows v) b rows → Serves (tells_rows v') b rows
served_later v v' b rows later s = still_served (tells_rows v) (tells_rows v') b rows (λ known. later_tells v v' known later) s

read_itself : (v v' : ViewValue) (b : Cache) → IsLater v v' → IsRead v v' b b
read_itself v v' b later = record { used = λ least taken rows u le. u; serves = λ rows s. served_later v v' b rows later s; holds = λ rows log served holds fine. holds }

read_later : (u v w : ViewValue) (b b' : Cache) → IsLater v w → IsRead u v b b' → IsRead u w b b'
read_later u v w b b' later r = record { used = r.used; serves = λ rows s. served_later v w b' rows later (r.serves rows s); holds = r.holds }

read_before : (u v w : ViewValue) (b b' : Cache) → IsLater u v → IsRead v w b b' → IsRead u w b b'
read_before u v w b b' later r = record {
  used = λ least taken rows used le. r.used least taken rows used (subst (λ n. least ≤ n) (sym later.same.upto) le);
  serves = λ rows s. r.serves rows (served_later u v b rows later s);
  holds = λ rows log served holds fine. r.holds rows log (served_later u v b rows later served) holds fine;
}

pub read_none : (v : ViewValue) (locks : List (Option Cache)) → AreRead 0 v v locks locks
read_none v locks = record { below = λ k b low h. absurd (omega arith); above = λ k le. refl }

-- all of them, where the others were not read
pub read_all : (n : ℕ) (v v' : ViewValue) (locks locks' : List (Option Cache)) → IsLater v v' → AreRead n v v' locks locks' → (k : ℕ) (b : Cache) → HasLock locks k b → (b' : Cache) × HasLock locks' k b' × IsRead v v' b b'
read_all n v v' locks locks' later r k b h = ⊎_elim
    (λ (high : (nat_le n k ≡ true) × (n ≤ k)). (b, r.above k high.1 ∙ h, read_itself v v' b later))
    (λ (low : (nat_le n k ≡ false) × (k < n)). r.below k b low.1 h)
    (leb_tells n k)

module _ (u v : ViewValue) (at : ℕ) (locks mid : List (Option Cache)) (later : IsLater u v) (so_far : AreRead at u v locks mid) (all : HasAll locks) where
  -- what was served and held still is
  pub served_on : (rows log : List Row) → AreServed u rows log locks → AreServed v rows log mid
  served_on rows log s = record {
    serves = λ k b low h. let w = was k b low h in w.2.serves rows (s.serves k w.0 low w.1);
    holds = λ k b low h. let w = was k b low h in w.2.holds rows log (s.serves k w.0 low w.1) (s.holds k w.0 low w.1) s.sound;
    sound = s.sound;
  }
    where
      was : (k : ℕ) (b : Cache) → k < 256 → HasLock mid k b → (a : Cache) × HasLock locks k a × IsRead u v a b
      was k b low h =
          let a = all k low in
          let now = read_all at u v locks mid later so_far k a.0 a.1 in
          (a.0, a.1, subst (IsRead u v a.0) (one_content mid k now.0 b now.1 h) now.2)

  pub has_here : at < 256 → (b : Cache) × HasLock mid at b × (b.bucket ≡ at)
  has_here low = let a = all at low in (a.0, so_far.above at (omega arith) ∙ a.1, a.2)

  module _ (w : ViewValue) (near : at < 256) (locks' : List (Option Cache)) (low high : List ℕ) (limit : ℕ) (s₀ s s' : ScanValue) (r : Result (Unit {0}) TreeFault) (next : IsLater v w) (one : GathersIn v w at mid locks' low high limit s s' r) where
    other : (k : ℕ) → k ≢ at → slice_get locks' k ≡ slice_get mid k
    other k ne = ap (λ l. slice_get l k) one.locks_are ∙ get_else mid at k (Some one.new) ne

    here : (b : Cache) → HasLock locks at b → (b' : Cache) × HasLock locks' at b' × IsRead u w b b'
    here b h =
        let same : one.old ≡ b = one_content mid at one.old b one.there (so_far.above at (omega arith) ∙ h) in (
          one.new,
          ap (λ l. slice_get l at) one.locks_are ∙ get_same mid at (Some one.old) (Some one.new) one.there,
          read_before u v w b one.new later (subst (λ x. IsRead v w x one.new) same one.read),
        )

    pub read_more : AreRead (at + 1) u w locks locks'
    read_more = record {
      below = λ k b lt h. ⊎_elim
          (λ (less : k < at). let now = so_far.below k b less h in (now.0, other k (λ e. omega (arith, less, e)) ∙ now.1, read_later u v w b now.0 next now.2))
          (λ (is : k ≡ at). subst (λ j. (b' : Cache) × HasLock locks' j b' × IsRead u w b b') (sym is) (here b (subst (λ j. HasLock locks j b) is h)))
          (less_or_at k at lt);
      above = λ k le. other k (λ e. omega (arith, le, e)) ∙ so_far.above k (omega (arith, le));
    }

    pub gathered_more : (done : Unit {0}) → r ≡ Ok done → GathersMore u locks low high limit s₀ s → GathersMore u locks low high limit s₀ s'
    gathered_more done is before rows log served kept = subst (λ x. OnOk x (GathersMore v mid low high limit s s')) is one.more rows log (served_on rows log served) (before rows log served kept)

    now_here : HasLock locks' at one.new
    now_here = ap (λ l. slice_get l at) one.locks_are ∙ get_same mid at (Some one.old) (Some one.new) one.there

    module _ (walks : EachWalks at u locks mid low high limit (Ok tt)) where
      abbrev Found : Result (Unit {0}) TreeFault → Type 0
      Found x = Reads (λ (done : Unit {0}). IsGathered one.new low high limit s.pairs s'.pairs) (λ _. Unit {0}) (λ _. Unit {0}) x

      pub gathered_walks : (done : Unit {0}) → r ≡ Ok done → EachWalks (at + 1) u locks locks' low high limit (Ok tt)
      gathered_walks done is = walks_more u v at locks mid locks' low high limit later one.old one.new one.there now_here other so_far.above one.walks walks s.pairs s'.pairs (subst Found is one.finds)

      pub gathered_finds : (done : Unit {0}) → r ≡ Ok done → GathersBelow at mid low high limit s₀.pairs s.pairs → GathersBelow (at + 1) locks' low high limit s₀.pairs s'.pairs
      gathered_finds done is f = gathers_more u v at locks mid locks' low high limit later one.old one.new one.there now_here other so_far.above one.walks walks s.pairs s'.pairs (subst Found is one.finds) s₀.pairs f

      pub gathered_halt : (fault : TreeFault) → r ≡ Err fault → EachWalks 256 u locks locks' low high limit (Err fault)
      gathered_halt fault is = walks_halted u v at locks mid locks' low high limit later one.old one.new one.there now_here other so_far.above one.walks walks fault (subst Found is one.finds)

    pub gathered_unfit : UnfitBy (IsUnfitIn locks' (call.Scan low high limit)) r
    gathered_unfit id is = record {
      bucket = at;
      content = one.new;
      within = near;
      held = ap (λ l. slice_get l at) one.locks_are ∙ get_same mid at (Some one.old) (Some one.new) one.there;
      first = one.unfit id is;
    }

    pub gathered_cause : (fault : TreeFault) → r ≡ Err fault → (rows log : List Row) → AreServed u rows log locks → OnFault fault (λ _. Unit {0}) (λ _. ⊥) (Unit {0})
    gathered_cause fault is rows log served = subst (λ x. IfErr x (λ fault. (rows log : List Row) → AreServed v rows log mid → OnFault fault (λ _. Unit {0}) (λ _. ⊥) (Unit {0}))) is one.cause rows log (served_on rows log served)

-- a set all of which was read
pub read_to_end : (n : ℕ) (v v' : ViewValue) (locks locks' : List (Option Cache)) → n ≤ 256 → IsLater v v' → AreRead n v v' locks locks' → AreRead 256 v v' locks locks'
read_to_end n v v' locks locks' le later r = record { below = λ k b low h. read_all n v v' locks locks' later r k b h; above = λ k high. r.above k (omega (arith, le, high)) }

-- ---- the whole scan

-- a call that went well names no node
pub ok_names_none : (id : NodeId) → (◌≡◌ {A = Result (Unit {0}) TreeFault} (Ok tt) (Err (Unfit id))) → ⊥
ok_names_none id is = cc

module _ (v v' : ViewValue) (locks locks' : List (Option Cache)) (d d' : DraftValue) (c : Call) (low high : List ℕ) (limit : ℕ) (s₀ s : ScanValue) where
  pub scan_found : s₀ ≡ record { pairs = []; next = 0 } → GathersOr v v' locks locks' low high limit s₀ s (Ok tt) → KeepsFound c s.pairs d d' → (FitsDraft d → FitsDraft d')
      → ((rows : List Row) → IsAnswered rows d → IsKept (rows ++ d.rows) low high limit 256 s.pairs → IsAnswered rows d') → ScansIn v v' locks locks' d d' c (Ok tt)
  scan_found first g keeps fits answers = record {
    read = λ k b near h. g.read.below k b near h;
    kept = (s.pairs, keeps);
    fits = fits;
    answered = λ rows served a. answers rows a (subst (λ n. IsKept (rows ++ d.rows) low high limit n s.pairs) g.next
        (g.more rows d.rows served (subst (λ (x : ScanValue). IsKept (rows ++ d.rows) low high limit x.next x.pairs) (sym first) (kept_first (rows ++ d.rows) low high limit))));
    left = tt;
    unfit = λ id is. absurd (ok_names_none id is);
    cause = tt;
  }

pub scan_halted : (v v' : ViewValue) (locks locks' : List (Option Cache)) (d : DraftValue) (c : Call) (low high : List ℕ) (limit : ℕ) (s₀ s : ScanValue) (fault : TreeFault) → c ≡ call.Scan low high limit → GathersOr v v' locks locks' low high limit s₀ s (Err fault) → ScansIn v v' locks locks' d d c (Err fault)
scan_halted v v' locks locks' d c low high limit s₀ s fault scans g = record {
  read = λ k b near h. g.read.below k b near h;
  kept = tt;
  fits = tt;
  answered = tt;
  left = inl refl;
  unfit = subst (λ x. UnfitBy (IsUnfitIn locks' x) (Err fault)) (sym scans) g.unfit;
  cause = g.cause;
}
