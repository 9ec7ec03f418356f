use Rattle.std.proofs.Common.{◌≡◌, ◌≢◌, ℕ, nat_eq, ◌<◌, ◌≤◌, Bool, true, false, nat_lt, List, [], ◌++◌, Option, Some, None, is_some, Result, Ok, Err, refl, sym, ap, subst, ◌∙◌, true≢false, append-nil, ltb-true}
use Rattle.std.specs.Prelude.{IfSome, unwrap_or}
use Rattle.std.specs.Map.{lookup}
use Rattle.std.proofs.lemmas.Bool.{ltb-false}
use Rattle.fine_model.specs.declared.Call.{Call}
use Rattle.fine_model.specs.declared.Call.TheVariants as call
use Rattle.fine_model.specs.declared.FetchFault.{FetchFault}
use Rattle.fine_model.specs.declared.Node.TheVariants as node
use Rattle.fine_model.specs.declared.Row.{Row}
use Rattle.fine_model.specs.Trees.{nodes_of, IsSound}
use Rattle.node_cache.specs.declared.cached.Cached.{Cached}
use Rattle.node_cache.specs.Cache.{Cache, cached, before, undone, evicted, IsResting}
use Rattle.node_cache.specs.Given.{Finds}
use Rattle.btree_nodes.specs.declared.fault.TreeFault.{TreeFault}
use Rattle.btree_nodes.specs.declared.fault.TreeFault.TheVariants.{Source, Unfit, BucketFull, Number, NoMemory}
use Rattle.btree_nodes.specs.Trees.{Serves, Restores, Holds}
use Rattle.btree_nodes.specs.Calls.{Outcome, IsChange, SoundOutcome}
use Rattle.btree_nodes.proofs.Rested.{holds_at_rest}
use Rattle.btree_nodes_tests.proofs.tests.again.set_again.Goals as goal

-- after each answer, what would be restored is what the rows leave
restored_then : {A : Type 0} (rows log log' : List Row) (new : Cache) (c : Call) (P : A → Type 0) (r : Result A TreeFault) → SoundOutcome rows log log' new c P r → Restores new rows
restored_then rows log log' new c P (Ok a) h = h.1.holds.restores
restored_then rows log log' new c P (Err (Source f)) h = h.holds.restores
restored_then rows log log' new c P (Err (Unfit id)) h = absurd h
restored_then rows log log' new c P (Err (BucketFull n d)) h = h.2.holds.restores
restored_then rows log log' new c P (Err (Number id)) h = h.2.holds.restores
restored_then rows log log' new c P (Err NoMemory) h = h

-- and it is what it was
before_stays : {A : Type 0} (mid new : Cache) (log log' : List Row) (c : Call) (P : A → Type 0) (F : FetchFault → Type 0) (r : Result A TreeFault) → Outcome mid new log log' c P F r → (n : ℕ) → before new n ≡ before mid n
before_stays mid new log log' c P F (Ok a) o n = o.2.pushes.saves.before n
before_stays mid new log log' c P F (Err (Source f)) o n = ap (λ b. before b n) o.1.nodes
before_stays mid new log log' c P F (Err (Unfit id)) o n = ap (λ b. before b n) o.1.nodes
before_stays mid new log log' c P F (Err (BucketFull m d)) o n = ap (λ b. before b n) o.3.nodes
before_stays mid new log log' c P F (Err (Number id)) o n = ap (λ b. before b n) o.3.nodes
before_stays mid new log log' c P F (Err NoMemory) o n = o.before n

bucket_stays : {A : Type 0} (mid new : Cache) (log log' : List Row) (c : Call) (P : A → Type 0) (F : FetchFault → Type 0) (r : Result A TreeFault) → Outcome mid new log log' c P F r → new.bucket ≡ mid.bucket
bucket_stays mid new log log' c P F (Ok a) o = o.2.pushes.saves.bucket
bucket_stays mid new log log' c P F (Err (Source f)) o = ap (λ b. b.bucket) o.1.nodes
bucket_stays mid new log log' c P F (Err (Unfit id)) o = ap (λ b. b.bucket) o.1.nodes
bucket_stays mid new log log' c P F (Err (BucketFull m d)) o = ap (λ b. b.bucket) o.3.nodes
bucket_stays mid new log log' c P F (Err (Number id)) o = ap (λ b. b.bucket) o.3.nodes
bucket_stays mid new log log' c P F (Err NoMemory) o = o.bucket

module _ (tells tells' : List Row → Type 0) (on : (rows : List Row) → tells rows → tells' rows) (finds : Finds) (upper published keep : ℕ) (rows : List Row) (old new gone back : Cache) (log log' : List Row) (c : Call) (P : Cache → Unit {0} → Type 0) (F : FetchFault → Type 0) (r : Result (Unit {0}) TreeFault)
    (resting : IsResting old) (serves : Serves tells old rows) (served : (n : ℕ) → IfSome (cached old n) (λ kept. kept.epoch ≤ published → nodes_of serves.known old.bucket n ≡ nodes_of rows old.bucket n))
    (change : IsChange tells finds upper old new log log' c P F r) (restores : Restores new rows)
    (undone_is : gone ≡ undone new) (restored : (n : ℕ) → cached gone n ≡ before new n) (evicted_is : back ≡ evicted published keep gone)
    (kept_back : (n : ℕ) → IfSome (cached gone n) (λ kept. published < kept.epoch → cached back n ≡ Some kept)) (same_back : (n : ℕ) → IfSome (cached back n) (λ kept. cached gone n ≡ Some kept)) where
  back_bucket : back.bucket ≡ new.bucket
  back_bucket = ap (λ b. b.bucket) evicted_is ∙ ap (λ b. b.bucket) undone_is

  new_bucket : new.bucket ≡ old.bucket
  new_bucket = bucket_stays change.mid new log log' c (P change.mid) F r change.outcome ∙ change.loaded.bucket

  back_rests : back.saved ≡ []
  back_rests = ap (λ b. b.saved) evicted_is ∙ ap (λ b. b.saved) undone_is

  holds_back : Holds back rows []
  holds_back = holds_at_rest rows back back_rests (λ n. each n (cached back n) (same_back n))
    where
      each : (n : ℕ) (o : Option Cached) → IfSome o (λ kept. cached gone n ≡ Some kept) → IfSome o (λ kept. (kept.node, kept.version) ≡ nodes_of rows back.bucket n)
      each n None h = tt
      each n (Some kept) h =
          subst (λ k. (kept.node, kept.version) ≡ nodes_of rows k n) (sym back_bucket)
          (subst (λ o. IfSome o (λ k. (k.node, k.version) ≡ nodes_of rows new.bucket n)) (sym (restored n) ∙ h) (restores.each n))

  -- a node that was cached at rest is so once all is taken back
  still_there : (n : ℕ) (kept : Cached) → cached old n ≡ Some kept → cached gone n ≡ Some kept
  still_there n kept is =
      restored n ∙ before_stays change.mid new log log' c (P change.mid) F r change.outcome n
      ∙ ap (λ s. unwrap_or (lookup (nat_eq n) s) (cached change.mid n)) (change.loaded.saved ∙ resting)
      ∙ change.loaded.stays n (ap is_some is) ∙ is

  serves_back : Serves tells' back rows
  serves_back = record {
    known = serves.known;
    is_told = on serves.known serves.is_told;
    each = λ n none fine. subst (λ k. nodes_of serves.known k n ≡ nodes_of rows k n) (sym (back_bucket ∙ new_bucket)) (of n none (subst (λ k. (nodes_of rows k n).0 ≢ node.Broken) (back_bucket ∙ new_bucket) fine) (cached old n) refl);
  }
    where
      low : (n : ℕ) (kept : Cached) → cached back n ≡ None → cached gone n ≡ Some kept → kept.epoch ≤ published
      low n kept none there = by (nat_lt published kept.epoch) refl
        where
          by : (t : Bool) → nat_lt published kept.epoch ≡ t → kept.epoch ≤ published
          by true e = absurd (true≢false (ap is_some (sym (subst (λ o. IfSome o (λ k. published < k.epoch → cached back n ≡ Some k)) there (kept_back n) (ltb-true published kept.epoch e)) ∙ none)))
          by false e = ltb-false published kept.epoch e

      of : (n : ℕ) → cached back n ≡ None → (nodes_of rows old.bucket n).0 ≢ node.Broken → (o : Option Cached) → cached old n ≡ o → nodes_of serves.known old.bucket n ≡ nodes_of rows old.bucket n
      of n none fine None is = serves.each n is fine
      of n none fine (Some kept) is = subst (λ o. IfSome o (λ k. k.epoch ≤ published → nodes_of serves.known old.bucket n ≡ nodes_of rows old.bucket n)) is (served n) (low n kept none (still_there n kept is))

pub insert-requires-2-clause-bucket : goal.insert-requires-2-clause-bucket
insert-requires-2-clause-bucket g c =
    let old = c.args.bucket.now in
    let change = c.insert.ensures.change in
    ap (λ b. b.bucket) c.evict.ensures.nodes ∙ ap (λ b. b.bucket) c.undo.ensures.nodes
    ∙ bucket_stays change.mid c.insert.new.bucket c.args.first.now c.insert.new.log (call.Put c.args.key.now c.args.value.now) _ _ c.insert.result change.outcome ∙ change.loaded.bucket ∙ c.requires.bucket

pub returns : goal.returns
returns g c = record {
  sound = λ rows serves served holds sound.
      let old = c.args.bucket.now in
      let new = c.insert.new.bucket in
      let call : Call = call.Put c.args.key.now c.args.value.now in
      let first = c.insert.ensures.sound rows serves (subst (Holds old rows) (sym c.requires.first) holds) (subst IsSound (sym (ap (λ l. rows ++ l) c.requires.first ∙ append-nil rows)) sound) in
      let restores = restored_then rows c.args.first.now c.insert.new.log new call (λ (u : Unit {0}). Unit {0}) c.insert.result first in
      let on = λ (known : List Row). g.met.S.NodeSource.later_tells _ _ known c.insert.ensures.later in
      let then_serves = serves_back _ _ on _ _ c.args.published c.args.keep rows old new c.undo.new.self c.evict.new.self c.args.first.now c.insert.new.log call _ _ c.insert.result c.requires.resting serves served c.insert.ensures.change restores
      c.undo.ensures.nodes c.undo.ensures.restored c.evict.ensures.nodes c.evict.ensures.kept c.evict.ensures.same in
      let then_holds = holds_back _ _ on _ _ c.args.published c.args.keep rows old new c.undo.new.self c.evict.new.self c.args.first.now c.insert.new.log call _ _ c.insert.result c.requires.resting serves served c.insert.ensures.change restores
      c.undo.ensures.nodes c.undo.ensures.restored c.evict.ensures.nodes c.evict.ensures.kept c.evict.ensures.same in
      subst (λ l. SoundOutcome rows l c.insert-2.new.log c.insert-2.new.bucket call (λ (u : Unit {0}). Unit {0}) c.insert-2.result) c.requires.second
      (c.insert-2.ensures.sound rows then_serves (subst (Holds c.evict.new.self rows) (sym c.requires.second) then_holds) (subst IsSound (sym (ap (λ l. rows ++ l) c.requires.second ∙ append-nil rows)) sound));
}
