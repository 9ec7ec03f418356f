-- Calls that change a tree, on sound rows.
use Rattle.std.proofs.Common.{◌≡◌, ℕ, Bool, if◌then◌else◌, List, ◌++◌, Option, None, is_some, Result, Ok, Err, sym, ap, subst, ◌∙◌}
use Rattle.fine_model.specs.declared.Call.{Call}
use Rattle.fine_model.specs.declared.Call.TheVariants as call
use Rattle.fine_model.specs.declared.FetchFault.{FetchFault}
use Rattle.fine_model.specs.declared.FetchFault.TheVariants as fetch_fault
use Rattle.fine_model.specs.declared.Rec.TheVariants as rec
use Rattle.fine_model.specs.declared.Row.{Row}
use Rattle.fine_model.specs.Map.{get, has}
use Rattle.fine_model.specs.Nodes.{Content}
use Rattle.fine_model.specs.Pushed.{Push, key_of, call_push, push_of, leaf_push, nothing_pushed, within_limits}
use Rattle.fine_model.specs.Trees.{bucket_of, IsSound, map_of}
use Rattle.node_cache.specs.Cache.{Cache}
use Rattle.btree_nodes.specs.declared.fault.TreeFault.{TreeFault}
use Rattle.btree_nodes.specs.declared.fault.TreeFault.TheVariants.{Source, Unfit, BucketFull, Number, NoMemory}
use Rattle.node_cache.specs.Given.{Finds, given, IsCached, IsLoaded}
use Rattle.btree_nodes.specs.Trees.{unfit_in, pairs_in, Serves, Holds, LoadsOnWay, HeadSays, first_over}
use Rattle.btree_nodes.specs.Calls.{Answers, IsFound, IsReached, IsAsBefore, Outcome, IsChange, OnCleanAnswer, Stays, SoundOutcome, SoundReading}
use Rattle.btree_nodes.proofs.Held.{restores_saved, holds_pushed}
use Rattle.btree_nodes.proofs.OnWays.{holds_on_way}
use Rattle.btree_nodes.proofs.Sound.{holds_agrees, head_same, sound_pairs, sound_value, sound_leaf_push, sound_fit}

module _ {A : Type 0} (rows log log' : List Row) (mid new : Cache) (c : Call) (P Q : A → Type 0) (F : FetchFault → Type 0) (sound : IsSound (rows ++ log)) (of_key : mid.bucket ≡ bucket_of (key_of c)) (holds : Holds mid rows log)
    (same : IsReached mid (key_of c) → push_of (rows ++ log) c ≡ call_push mid.bucket (given mid) c) (on : (a : A) → IsReached mid (key_of c) → P a → Q a) where
  stays : IsAsBefore mid new log log' → Stays rows log log' new
  stays before = record { same = before.rows; holds = subst (λ b. Holds b rows log) (sym before.nodes) holds }

  -- the outcome on what the bucket gives is that on sound rows, where the call pushes the same
  pub outcome_soundly : (r : Result A TreeFault) → Outcome mid new log log' c P F r → SoundOutcome rows log log' new c Q r
  outcome_soundly (Ok a) o = (
    on a o.1 o.0,
    record {
      own = o.2.rows;
      is_pushed = ap within_limits (same o.1) ∙ o.2.is_pushed;
      behind = o.2.behind;
      holds = subst (Holds new rows) (sym o.2.behind) (holds_pushed rows log o.2.rows mid new o.2.pushes holds);
    },
  )
  outcome_soundly (Err (Source f)) o = stays o.1
  outcome_soundly (Err (Unfit id)) o = sound_fit (rows ++ log) (key_of c) sound mid of_key (holds_agrees mid rows log (key_of c) of_key holds) id o.0
  outcome_soundly (Err (BucketFull m d)) o = (
    ap within_limits (same o.2) ∙ o.0,
    subst (λ (k : Content). HeadSays k.0 m d) (head_same (rows ++ log) (key_of c) sound mid of_key (holds_agrees mid rows log (key_of c) of_key holds) o.2.here) o.1,
    stays o.3,
  )
  outcome_soundly (Err (Number id)) o = (ap within_limits (same o.2) ∙ o.0, ap (λ (p : Push). first_over p.rows) (same o.2) ∙ o.1, stays o.3)
  outcome_soundly (Err NoMemory) o = restores_saved rows mid new o holds.restores

module _ (rows log : List Row) (mid : Cache) (key : List ℕ) (sound : IsSound (rows ++ log)) (of_key : mid.bucket ≡ bucket_of key) (holds : Holds mid rows log) where
  -- deleting pushes the same
  pub del_same : IsCached mid 0 → unfit_in mid key ≡ None → push_of (rows ++ log) (call.Del key) ≡ call_push mid.bucket (given mid) (call.Del key)
  unfolding push_of call_push
  del_same here fit =
      sym ((λ i. if has (sound_pairs (rows ++ log) key sound mid of_key (holds_agrees mid rows log key of_key holds) here fit i) key then sound_leaf_push (rows ++ log) key sound mid of_key (holds_agrees mid rows log key of_key holds) (rec.Del key) here fit i else nothing_pushed))
      ∙ ap (λ k. if has (pairs_in mid key) key then leaf_push k (given mid) key (rec.Del key) (given mid 0).0 else nothing_pushed) (sym of_key)

  pub has_same : IsCached mid 0 → unfit_in mid key ≡ None → has (pairs_in mid key) key ≡ has (map_of (rows ++ log)) key
  has_same here fit = ap is_some (sound_value (rows ++ log) key sound mid of_key (holds_agrees mid rows log key of_key holds) here fit)

-- ---- from the way on

-- the same answer at another type
pub clean_fault : (A B : Type 0) (e : TreeFault) (C : Type 0) → OnCleanAnswer {A = A} (Err e) C → OnCleanAnswer {A = B} (Err e) C
clean_fault A B (Source f) C h = h
clean_fault A B (Unfit id) C h = h
clean_fault A B (BucketFull m d) C h = h
clean_fault A B (Number id) C h = h
clean_fault A B NoMemory C h = h

pub clean_map : {A : Type 0} (r : Result A TreeFault) (C D : Type 0) → (C → D) → OnCleanAnswer r C → OnCleanAnswer r D
clean_map (Ok a) C D on h = on h
clean_map (Err (Source fetch_fault.Failed)) C D on h = h
clean_map (Err (Source fetch_fault.NoMemory)) C D on h = h
clean_map (Err (Source (fetch_fault.BadRow region at))) C D on h = on h
clean_map (Err (Source (fetch_fault.BadIndex region at))) C D on h = on h
clean_map (Err (Unfit id)) C D on h = on h
clean_map (Err (BucketFull m d)) C D on h = on h
clean_map (Err (Number id)) C D on h = on h
clean_map (Err NoMemory) C D on h = on h

-- a removal on sound rows
pub removed_soundly : (tells : List Row → Type 0) (finds : Finds) (upper : ℕ) (old new : Cache) (log log' : List Row) (key : List ℕ) (F : FetchFault → Type 0) (r : Result Bool TreeFault) → old.bucket ≡ bucket_of key
    → IsChange tells finds upper old new log log' (call.Del key) (λ mid there. there ≡ has (pairs_in mid key) key) F r
    → (rows : List Row) → Serves tells old rows → Holds old rows log → IsSound (rows ++ log) → SoundOutcome rows log log' new (call.Del key) (λ there. there ≡ has (map_of (rows ++ log)) key) r
removed_soundly tells finds upper old new log log' key F r of_key change rows serves holds sound =
    let of_key' = change.loaded.bucket ∙ of_key in
    let holds' = holds_on_way tells finds upper rows log old change.mid key of_key sound change.loaded change.on_way serves holds in
    outcome_soundly rows log log' change.mid new (call.Del key) (λ there. there ≡ has (pairs_in change.mid key) key) (λ there. there ≡ has (map_of (rows ++ log)) key) F sound of_key' holds'
    (λ reached. del_same rows log change.mid key sound of_key' holds' reached.here reached.fit)
    (λ there reached is. is ∙ has_same rows log change.mid key sound of_key' holds' reached.here reached.fit) r change.outcome

-- what is found of a key on sound rows
pub found_soundly : (tells : List Row → Type 0) (finds : Finds) (upper : ℕ) (old new : Cache) (key : List ℕ) (F : FetchFault → Type 0) (r : Result (Option (List ℕ)) TreeFault) → old.bucket ≡ bucket_of key → IsLoaded tells finds upper old new → LoadsOnWay old new key → Answers new key (IsFound new key) F r
    → (rows log : List Row) → Serves tells old rows → Holds old rows log → IsSound (rows ++ log) → SoundReading rows log new (λ value. value ≡ get (map_of (rows ++ log)) key) r
found_soundly tells finds upper old new key F r of_key loaded on_way answer rows log serves holds sound = by r answer
  where
    of_key' : new.bucket ≡ bucket_of key
    of_key' = loaded.bucket ∙ of_key

    then_holds : Holds new rows log
    then_holds = holds_on_way tells finds upper rows log old new key of_key sound loaded on_way serves holds

    by : (r : Result (Option (List ℕ)) TreeFault) → Answers new key (IsFound new key) F r → SoundReading rows log new (λ value. value ≡ get (map_of (rows ++ log)) key) r
    by (Ok value) h = (h.stands ∙ sound_value (rows ++ log) key sound new of_key' (holds_agrees new rows log key of_key' then_holds) h.here h.fit, then_holds)
    by (Err (Unfit id)) h = sound_fit (rows ++ log) key sound new of_key' (holds_agrees new rows log key of_key' then_holds) id h
    by (Err (Source f)) h = then_holds
    by (Err (BucketFull m d)) h = h
    by (Err (Number id)) h = h
    by (Err NoMemory) h = then_holds
