-- Each call that was answered has a reply that the store has to it on some map, whatever the log is.
use Rattle.std.proofs.Common.{◌≡◌, ℕ, zero, suc, ◌+◌, ◌<◌, ◌≤◌, Bool, true, false, true≢false, List, [], ◌∷◌, ◌++◌, Option, Some, Result, Ok, Err, refl, sym, ap, ◌∙◌, subst, arith, le_refl}
use Rattle.std.specs.Prelude.{OnOk}
use Rattle.std.specs.List.{AllZip}
use Rattle.fine_model.specs.declared.Call.{Call}
use Rattle.fine_model.specs.declared.Call.TheVariants as call
use Rattle.fine_model.specs.declared.Reply.{Reply}
use Rattle.fine_model.specs.declared.Reply.TheVariants as reply
use Rattle.fine_model.specs.Map.{Pair}
use Rattle.fine_model.specs.Pushed.{key_of}
use Rattle.fine_model.specs.Store.{IsReplyTo, answer}
use Rattle.fine_model.specs.Trees.{bucket_of}
use Rattle.fine_model.proofs.Trees.CallLaw.{bucket_below}
use Rattle.node_cache.specs.Cache.{Cache}
use Rattle.btree_nodes.specs.declared.fault.TreeFault.{TreeFault}
use Rattle.btree_nodes.specs.Trees.{pairs_in}
use Rattle.txn_draft.specs.Drafts.{DraftValue, is_here, is_scan}
use Rattle.txn_draft.proofs.Answered.{own_here}
use Rattle.partition_hold.specs.Views.{ViewValue}
use Rattle.fine_hall.specs.declared.law.Beginning.{Beginning}
use Rattle.key_locks.specs.Locks.{HasLock}
use Rattle.hall_rooms.specs.Rooms.{RoomPass}
use Rattle.txn_engine.specs.declared.txn.Txn.{Txn}
use Rattle.txn_engine.specs.declared.txn.TxnFault.{TxnFault}
use Rattle.txn_engine.specs.Reads.{AnswersScan, ChangesIn, DoesIn, GathersBelow, ReadsBuckets, WasThere, answer_of}
use Rattle.txn_engine.specs.Txns.{AreNumbered, HasBuckets}
use Rattle.txn_tries.specs.Answering.{AddsReplies}
use Rattle.txn_tries.specs.Found.{AreFound}
use Rattle.txn_tries.proofs.KeyReplies.{key_reply}
use Rattle.txn_tries.proofs.PairsFound.{found_gathered, found_none, found_reply}

-- ---- a call of a key

-- one reply more
replied_one : (d d' : DraftValue) (c : Call) (r : Reply) → d'.replies ≡ d.replies ++ r ∷ [] → IsReplyTo c r → AddsReplies (c ∷ []) d.replies d'.replies
replied_one d d' c r after is = record { replies = r ∷ []; after = after; each = (is, tt) }

changed : (v : ViewValue) (d d' : DraftValue) (c : Call) (done : Unit {0}) (b b' : Cache) → is_scan c ≡ false → ChangesIn v d d' c (Ok done) b b' → AddsReplies (c ∷ []) d.replies d'.replies
changed v d d' c done b b' no_scan h = replied_one d d' c (answer (pairs_in h.mid (key_of c)) c).0 (ap (λ x. x.replies) h.outcome.0) (key_reply (pairs_in h.mid (key_of c)) c no_scan)

-- what a call that is no scan did in its bucket
changes_of : (v : ViewValue) (d d' : DraftValue) (c : Call) (done : Unit {0}) (b b' : Cache) → is_scan c ≡ false → DoesIn v d d' c (Ok done) b b' → ChangesIn v d d' c (Ok done) b b'
changes_of v d d' (call.Get key) done b b' no_scan h = h
changes_of v d d' (call.Put key value) done b b' no_scan h = h
changes_of v d d' (call.Del key) done b b' no_scan h = h
changes_of v d d' (call.Add key by) done b b' no_scan h = h
changes_of v d d' (call.Scan low high limit) done b b' no_scan h = absurd (true≢false no_scan)

-- ---- a scan

module _ (locks : List (Option Cache)) (low high : List ℕ) (limit : ℕ) (pairs : List Pair) (g : GathersBelow 256 locks low high limit [] pairs) (all : (k : ℕ) → k < 256 → (b : Cache) × HasLock locks k b) (numbered : AreNumbered locks) where
  found_below : (k : ℕ) → k ≤ 256 → AreFound low high k (g.so_far k)
  found_below zero few = subst (AreFound low high 0) (sym g.before) (found_none low high)
  found_below (suc k) few =
      let near : k < 256 = omega (arith, few) in
      let b = all k near in
      subst (λ (n : ℕ). AreFound low high n (g.so_far n)) (plus k)
      (found_gathered low high b.0 limit k (g.so_far k) (g.so_far (k + 1)) (numbered k b.0 near b.1) near (g.next k b.0 near b.1) (found_below k (omega (arith, few))))
    where
      plus : (k : ℕ) → k + 1 ≡ suc k
      plus k = omega arith

  found_all : AreFound low high 256 pairs
  found_all = subst (AreFound low high 256) g.all (found_below 256 (le_refl 256))

scanned : (locks : List (Option Cache)) (d d' : DraftValue) (c : Call) → is_scan c ≡ true → HasBuckets c locks → AreNumbered locks → AnswersScan locks d d' c → AddsReplies (c ∷ []) d.replies d'.replies
scanned locks d d' (call.Get key) scan has numbered a = absurd (true≢false (sym scan))
scanned locks d d' (call.Put key value) scan has numbered a = absurd (true≢false (sym scan))
scanned locks d d' (call.Del key) scan has numbered a = absurd (true≢false (sym scan))
scanned locks d d' (call.Add key by) scan has numbered a = absurd (true≢false (sym scan))
scanned locks d d' (call.Scan low high limit) scan has numbered (pairs, g, keeps) =
    replied_one d d' (call.Scan low high limit) (reply.Found keeps.first) (ap (λ x. x.replies) keeps.is)
    (found_reply low high limit 256 (le_refl 256) pairs keeps.first keeps.is_first (found_all locks low high limit pairs g (λ k low. has k low refl) numbered))

-- ---- any call

module _ (x : Beginning) (c : Call) (t t' : Txn) (p' : RoomPass) (has : HasBuckets c t'.locks) (numbered : AreNumbered t'.locks) where
  pub replied : (done : Unit {0}) → ReadsBuckets x c t t' p' (Ok done) → AddsReplies (c ∷ []) t.draft.replies t'.draft.replies
  replied done r = by r.trees r.answer r.each r.finds
    where
      by : (trees : Result (Unit {0}) TreeFault) → ◌≡◌ {A = Result (Unit {0}) TxnFault} (Ok done) (answer_of trees)
          → ((k : ℕ) (b' : Cache) → k < 256 → is_here k c ≡ true → HasLock t'.locks k b' → (b : Cache) × WasThere x t p' k b × DoesIn r.front t.draft t'.draft c trees b b')
          → OnOk trees (AnswersScan t'.locks t.draft t'.draft c) → AddsReplies (c ∷ []) t.draft.replies t'.draft.replies
      by (Err fault) is each finds = absurd cc
      by (Ok all) is each finds = which (is_scan c) refl
        where
          which : (b : Bool) → is_scan c ≡ b → AddsReplies (c ∷ []) t.draft.replies t'.draft.replies
          which true scan = scanned t'.locks t.draft t'.draft c scan has numbered finds
          which false none =
              let low = bucket_below (key_of c) in
              let b = has (bucket_of (key_of c)) low (own_here c) in
              let h = each (bucket_of (key_of c)) b.0 low (own_here c) b.1 in
              changed r.front t.draft t'.draft c all h.0 b.0 none (changes_of r.front t.draft t'.draft c all h.0 b.0 none h.2)
