-- What a call of a tree gives, as a step.
use Rattle.std.proofs.Common.{◌≡◌, ℕ, Bool, true, false, List, [], ◌∷◌, ◌++◌, Option, Some, None, Result, Ok, Err, refl, sym, ap, subst, ◌∙◌, append-nil}
use Rattle.std.specs.Prelude.{IfSome, if◌then◌else◌}
use Rattle.std.specs.Option.{option_to_list}
use Rattle.fine_model.specs.declared.Call.{Call}
use Rattle.fine_model.specs.declared.Call.TheVariants as call
use Rattle.fine_model.specs.declared.FetchFault.{FetchFault}
use Rattle.fine_model.specs.declared.Row.{Row}
use Rattle.fine_model.specs.declared.Reply.{Reply}
use Rattle.fine_model.specs.declared.Reply.TheVariants as reply
use Rattle.fine_model.specs.declared.Write.{Write}
use Rattle.fine_model.specs.declared.Write.TheVariants as write
use Rattle.fine_model.specs.Map.{Pair, get, has}
use Rattle.fine_model.specs.Store.{answer, value_answer}
use Rattle.fine_model.specs.Pushed.{pushed, push_of, call_push, within_limits, key_of}
use Rattle.fine_model.specs.Trees.{map_of, IsSound}
use Rattle.node_cache.specs.declared.cached.Cached.{Cached}
use Rattle.node_cache.specs.Cache.{Cache}
use Rattle.node_cache.specs.Given.{Finds, IsFetched, IsLoaded}
use Rattle.btree_nodes.specs.declared.fault.TreeFault.{TreeFault}
use Rattle.btree_nodes.specs.declared.fault.TreeFault.TheVariants.{Source, Unfit, BucketFull, Number, NoMemory}
use Rattle.btree_nodes.specs.Trees.{Serves, Holds, LoadsOnWay, AreUsed, way_in, pairs_in}
use Rattle.btree_nodes.specs.Calls.{IsChange, IsDone, IsFound, SoundOutcome, SoundReading}
use Rattle.btree_nodes.proofs.LeafPush.{pushes_none}
use Rattle.txn_draft.specs.Steps.{Made, IsMade, IsStep}

-- nothing was loaded
pub loads_none : (tells : List Row → Type 0) (finds : Finds) (upper : ℕ) (b : Cache) → IsLoaded tells finds upper b b
loads_none tells finds upper b = record {
  bucket = refl;
  saved = refl;
  stays = λ n here. refl;
  fetched = λ n none. subst (λ (o : Option Cached). IfSome o (IsFetched tells finds upper b.bucket n)) (sym none) tt;
}

-- a call that pushes nothing is done
done_none : (b : Cache) (log : List Row) (key : List ℕ) → IsDone b b log log (call.Get key)
unfolding call_push within_limits
done_none b log key = record { rows = []; is_pushed = refl; behind = sym (append-nil log); pushes = pushes_none b; fits = record { fit = tt; here = tt } }

get_pushed : (rows : List Row) (key : List ℕ) → pushed rows (call.Get key) ≡ Ok []
unfolding push_of call_push within_limits
get_pushed rows key = refl

module _ (tells : List Row → Type 0) (finds : Finds) (upper : ℕ) (old new : Cache) (log log' : List Row) (c : Call) (F : FetchFault → Type 0) where
  -- the same fault at another type
  pub fault_change : {A B : Type 0} (P : Cache → A → Type 0) (Q : Cache → B → Type 0) (e : TreeFault) → IsChange {A = A} tells finds upper old new log log' c P F (Err e) → IsChange {A = B} tells finds upper old new log log' c Q F (Err e)
  fault_change P Q (Source f) h = record { mid = h.mid; loaded = h.loaded; on_way = h.on_way; used = tt; outcome = h.outcome }
  fault_change P Q (Unfit id) h = record { mid = h.mid; loaded = h.loaded; on_way = h.on_way; used = tt; outcome = h.outcome }
  fault_change P Q (BucketFull m d) h = record { mid = h.mid; loaded = h.loaded; on_way = h.on_way; used = h.used; outcome = h.outcome }
  fault_change P Q (Number id) h = record { mid = h.mid; loaded = h.loaded; on_way = h.on_way; used = h.used; outcome = h.outcome }
  fault_change P Q NoMemory h = record { mid = h.mid; loaded = h.loaded; on_way = h.on_way; used = tt; outcome = h.outcome }

  -- another value in its place
  pub done_step : {A B : Type 0} (R : List Pair → A → Type 0) (Q : List Pair → B → Type 0) (a : A) (b : B) → ((pairs : List Pair) → R pairs a → Q pairs b) → IsChange {A = A} tells finds upper old new log log' c (λ mid. R (pairs_in mid (key_of c))) F (Ok a)
      → ((rows : List Row) → Serves tells old rows → Holds old rows log → IsSound (rows ++ log) → SoundOutcome {A = A} rows log log' new c (R (map_of (rows ++ log))) (Ok a))
      → IsStep {A = B} tells finds upper old new log log' c Q F (Ok b)
  done_step R Q a b on h sound = record {
    change = record { mid = h.mid; loaded = h.loaded; on_way = h.on_way; used = h.used; outcome = (on (pairs_in h.mid (key_of c)) h.outcome.0, h.outcome.1, h.outcome.2) };
    sound = λ rows serves holds is. let s = sound rows serves holds is in (on (map_of (rows ++ log)) s.0, s.1);
  }

-- a key was looked up
module _ (tells : List Row → Type 0) (finds : Finds) (upper : ℕ) (old new : Cache) (log : List Row) (key : List ℕ) (F : FetchFault → Type 0) (loaded : IsLoaded tells finds upper old new) (on_way : LoadsOnWay old new key) where
  pub got_step : {B : Type 0} (Q : List Pair → B → Type 0) (value : Option (List ℕ)) (b : B) → ((pairs : List Pair) → value ≡ get pairs key → Q pairs b) → AreUsed old new (way_in new key) → IsFound new key value
      → ((rows log : List Row) → Serves tells old rows → Holds old rows log → IsSound (rows ++ log) → SoundReading rows log new (λ v. v ≡ get (map_of (rows ++ log)) key) (Ok value))
      → IsStep {A = B} tells finds upper old new log log (call.Get key) Q F (Ok b)
  got_step Q value b on used found sound = record {
    change = record { mid = new; loaded = loaded; on_way = on_way; used = used; outcome = (on (pairs_in new key) found.stands, record { here = found.here; fit = found.fit }, done_none new log key) };
    sound = λ rows serves holds is. let s = sound rows log serves holds is in (on (map_of (rows ++ log)) s.0, record { own = []; is_pushed = get_pushed (rows ++ log) key; behind = sym (append-nil log); holds = s.1 });
  }

-- ---- the replies and writes

pub made_get : (pairs : List Pair) (key : List ℕ) (value : Option (List ℕ)) (r : Reply) → r ≡ value_answer value → value ≡ get pairs key → IsMade pairs (call.Get key) (r, None)
unfolding answer
made_get pairs key value r is e = λ i. ((is ∙ ap value_answer e) i, [])

pub made_put : (pairs : List Pair) (key value : List ℕ) (w : Write) → w ≡ write.Set key value → IsMade pairs (call.Put key value) (reply.Stored, Some w)
unfolding answer
made_put pairs key value w is = λ i. (reply.Stored, is i ∷ [])

pub made_del : (pairs : List Pair) (key : List ℕ) (there : Bool) (w : Write) (made : Made) → w ≡ write.Unset key → made ≡ (if there then (reply.Removed, Some w) else (reply.Absent, None)) → there ≡ has pairs key → IsMade pairs (call.Del key) made
unfolding answer
made_del pairs key there w made is all e =
    ap (λ (p : Made). (p.0, option_to_list p.1)) all ∙ by there ∙ ap (λ t. if t then (reply.Removed, write.Unset key ∷ []) else (reply.Absent, [])) e
  where
    shown : Made → Reply × List Write
    shown p = (p.0, option_to_list p.1)

    by : (t : Bool) → shown (if t then (reply.Removed, Some w) else (reply.Absent, None)) ≡ (if t then (reply.Removed, write.Unset key ∷ []) else (reply.Absent, []))
    by true = λ i. (reply.Removed, is i ∷ [])
    by false = refl

-- a call that is spelled otherwise
pub same_step : {A : Type 0} (tells : List Row → Type 0) (finds : Finds) (upper : ℕ) (old new : Cache) (log log' : List Row) (c c' : Call) (Q : List Pair → A → Type 0) (F : FetchFault → Type 0) (r : Result A TreeFault) → c ≡ c' → IsStep tells finds upper old new log log' c Q F r → IsStep tells finds upper old new log log' c' Q F r
same_step tells finds upper old new log log' c c' Q F r same = subst (λ k. IsStep tells finds upper old new log log' k Q F r) same
