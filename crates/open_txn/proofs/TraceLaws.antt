-- What calls leave in a bucket, whatever they are.
use Rattle.std.proofs.Common.{◌≡◌, ◌≢◌, ◌⊎◌, ℕ, Bool, true, false, true≢false, List, [], ◌∷◌, ◌||◌, nat_eq, is_some, refl, sym, ap, ◌∙◌, subst, inl, inr, eqb-true}
use Rattle.std.specs.Map.{lookup}
use Rattle.std.specs.List.{AllByRecursion}
use Rattle.fine_model.specs.declared.Call.{Call}
use Rattle.fine_model.specs.declared.Call.TheVariants as call
use Rattle.fine_model.specs.declared.NodeId.{NodeId}
use Rattle.fine_model.specs.declared.Row.{Row}
use Rattle.fine_model.specs.Pushed.{key_of}
use Rattle.fine_model.specs.Trees.{bucket_of}
use Rattle.node_cache.specs.Cache.{Cache, IsResting, IsSaved, before, original}
use Rattle.node_cache.specs.Given.{Finds, IsCached, IsLoaded}
use Rattle.btree_nodes.specs.declared.fault.TreeFault.{TreeFault}
use Rattle.btree_nodes.specs.declared.fault.TreeFault.TheVariants.{Source, Unfit, BucketFull, Number, NoMemory}
use Rattle.btree_nodes.specs.Calls.{IsFirstUnfit, IsFirstUnfitBetween}
use Rattle.btree_nodes.specs.Changes.{Pushes, is_named}
use Rattle.btree_nodes.specs.Faults.{OnFault}
use Rattle.txn_draft.proofs.Stepped.{loads_none}
use Rattle.open_txn.specs.Traces.{Changes, DoAll, Does, IsRefused, Looks, OnUnfit, OnlyLoaded, Refused}

-- a fact of calls in a bucket, from one of calls of keys there and one of scans
module _ (tells : List Row → Type 0) (finds : Finds) (upper : ℕ) (P : Cache → Cache → Type 0) (same : (a : Cache) → P a a) (changed : (c : Call) (rows : List Row) (a b : Cache) → Changes tells finds upper c rows a b → P a b)
    (scanned : (a b : Cache) → IsLoaded tells finds upper a b → P a b) (on : (a b c : Cache) → P a b → P b c → P a c) where
  here : {N M E : Type 0} (c : Call) (rows : List Row) (a b : Cache) → (N × Changes tells finds upper c rows a b) ⊎ (M × E × (b ≡ a)) → P a b
  here c rows a b (inl h) = changed c rows a b h.1
  here c rows a b (inr h) = subst (P a) (sym h.2) (same a)

  one : (c : Call) (rows : List Row) (a b : Cache) → Does tells finds upper c rows a b → P a b
  one (call.Get key) rows a b h = here (call.Get key) rows a b h
  one (call.Put key value) rows a b h = here (call.Put key value) rows a b h
  one (call.Del key) rows a b h = here (call.Del key) rows a b h
  one (call.Add key by) rows a b h = here (call.Add key by) rows a b h
  one (call.Scan low high limit) rows a b h = scanned a b h.1.loaded

  pub all_calls : (calls : List Call) (rows : List Row) (a b : Cache) → DoAll tells finds upper calls rows a b → P a b
  all_calls [] rows a b h = subst (P a) (sym h.1) (same a)
  all_calls (c ∷ cs) rows a b (mid, own, more, is, did, others) = on a mid b (one c own a mid did) (all_calls cs more mid b others)

-- ---- a bucket's number

pub number_law : (tells : List Row → Type 0) (finds : Finds) (upper : ℕ) (calls : List Call) (rows : List Row) (old new : Cache) → DoAll tells finds upper calls rows old new → new.bucket ≡ old.bucket
number_law tells finds upper = all_calls tells finds upper (λ a b. b.bucket ≡ a.bucket) (λ a. refl) (λ c rows a b h. h.done.pushes.saves.bucket ∙ h.loaded.bucket) (λ a b loaded. loaded.bucket) (λ a b c first second. second ∙ first)

-- ---- what is saved is cached

abbrev pub KeepsSaved : Cache → Type 0
KeepsSaved b = (n : ℕ) → IsSaved b n → IsCached b n

pub rest_keeps : (b : Cache) → IsResting b → KeepsSaved b
rest_keeps b resting n saved = absurd (true≢false (sym saved ∙ ap (λ l. is_some (lookup (nat_eq n) l)) resting))

pub load_keeps : (tells : List Row → Type 0) (finds : Finds) (upper : ℕ) (a b : Cache) → IsLoaded tells finds upper a b → KeepsSaved a → KeepsSaved b
load_keeps tells finds upper a b loaded was n saved = ap is_some (loaded.stays n there) ∙ there
  where
    there : IsCached a n
    there = was n (ap (λ l. is_some (lookup (nat_eq n) l)) (sym loaded.saved) ∙ saved)

named_cached : (b : Cache) (n : ℕ) (rows : List Row) → AllByRecursion (λ row. IsSaved b row.node.number × IsCached b row.node.number) rows → is_named n rows ≡ true → IsCached b n
named_cached b n [] all named = absurd (true≢false (sym named))
named_cached b n (row ∷ rows) all named = by (nat_eq row.node.number n) refl named (named_cached b n rows all.1)
  where
    by : (t : Bool) → nat_eq row.node.number n ≡ t → t || is_named n rows ≡ true → (is_named n rows ≡ true → IsCached b n) → IsCached b n
    by true e is others = subst (IsCached b) (eqb-true row.node.number n e) all.0.1
    by false e is others = others is

pub push_keeps : (a b : Cache) (rows : List Row) → Pushes a b rows → KeepsSaved a → KeepsSaved b
push_keeps a b rows p was n saved = by (is_some (original a n)) refl (sym (p.saved n) ∙ saved)
  where
    by : (t : Bool) → is_some (original a n) ≡ t → t || is_named n rows ≡ true → IsCached b n
    by true e is = p.kept n (was n e)
    by false e is = named_cached b n rows p.named is

pub saved_law : (tells : List Row → Type 0) (finds : Finds) (upper : ℕ) (calls : List Call) (rows : List Row) (old new : Cache) → IsResting old → DoAll tells finds upper calls rows old new → (n : ℕ) → IsSaved new n → IsCached new n
saved_law tells finds upper calls rows old new resting all =
    all_calls tells finds upper (λ a b. KeepsSaved a → KeepsSaved b) (λ a was. was) (λ c own a b h was. push_keeps h.mid b h.done.rows h.done.pushes (load_keeps tells finds upper a h.mid h.loaded was))
    (λ a b loaded. load_keeps tells finds upper a b loaded) (λ a b c first second was. second (first was)) calls rows old new all (rest_keeps old resting)

-- ---- a refused call

module _ (tells : List Row → Type 0) (finds : Finds) (upper : ℕ) where
  -- of a key, in its bucket
  here_refused : (c : Call) (fault : TreeFault) (a b : Cache) → bucket_of (key_of c) ≡ a.bucket → ((x : Cache) (id : NodeId) → bucket_of (key_of c) ≡ x.bucket → IsFirstUnfit x (key_of c) id → Looks c x id) → IsRefused tells finds upper c fault a b → OnlyLoaded tells finds upper c fault a b
  here_refused c (Source f) a b here looks h = record { mid = h.mid; loaded = h.loaded; bucket = ap (λ (x : Cache). x.bucket) h.outcome.1.nodes; undoes = λ n. ap (λ (x : Cache). before x n) h.outcome.1.nodes; named = tt }
  here_refused c (Unfit id) a b here looks h = record { mid = h.mid; loaded = h.loaded; bucket = ap (λ (x : Cache). x.bucket) h.outcome.1.nodes; undoes = λ n. ap (λ (x : Cache). before x n) h.outcome.1.nodes; named = λ at. looks h.mid id (here ∙ sym h.loaded.bucket) h.outcome.0 }
  here_refused c (BucketFull next depth) a b here looks h = record { mid = h.mid; loaded = h.loaded; bucket = ap (λ (x : Cache). x.bucket) h.outcome.3.nodes; undoes = λ n. ap (λ (x : Cache). before x n) h.outcome.3.nodes; named = tt }
  here_refused c (Number id) a b here looks h = record { mid = h.mid; loaded = h.loaded; bucket = ap (λ (x : Cache). x.bucket) h.outcome.3.nodes; undoes = λ n. ap (λ (x : Cache). before x n) h.outcome.3.nodes; named = tt }
  here_refused c NoMemory a b here looks h = record { mid = h.mid; loaded = h.loaded; bucket = h.outcome.bucket; undoes = h.outcome.before; named = tt }

  unfit_map : (fault : TreeFault) (P Q : NodeId → Type 0) → ((id : NodeId) → P id → Q id) → OnUnfit fault P → OnUnfit fault Q
  unfit_map (Source f) P Q so h = tt
  unfit_map (Unfit id) P Q so h = so id h
  unfit_map (BucketFull next depth) P Q so h = tt
  unfit_map (Number id) P Q so h = tt
  unfit_map NoMemory P Q so h = tt

  -- and in another one
  key_refused : {M : Type 0} (c : Call) (fault : TreeFault) (a b : Cache) → ((x : Cache) (id : NodeId) → bucket_of (key_of c) ≡ x.bucket → IsFirstUnfit x (key_of c) id → Looks c x id)
      → ((bucket_of (key_of c) ≡ a.bucket) × IsRefused tells finds upper c fault a b) ⊎ (M × (b ≡ a) × OnUnfit fault (λ id. id.bucket ≢ a.bucket)) → OnlyLoaded tells finds upper c fault a b
  key_refused c fault a b looks (inl h) = here_refused c fault a b h.0 looks h.1
  key_refused c fault a b looks (inr h) = record {
    mid = a;
    loaded = loads_none tells finds upper a;
    bucket = ap (λ (x : Cache). x.bucket) h.1;
    undoes = λ n. ap (λ (x : Cache). before x n) h.1;
    named = unfit_map fault (λ id. id.bucket ≢ a.bucket) (λ id. id.bucket ≡ a.bucket → Looks c a id) (λ id ne at. absurd (ne at)) h.2;
  }

  scan_named : (low high : List ℕ) (limit : ℕ) (fault : TreeFault) (a b : Cache) → OnFault fault (λ _. Unit {0}) (λ id. id.bucket ≡ a.bucket → IsFirstUnfitBetween b low high limit id) (Unit {0})
      → OnUnfit fault (λ id. id.bucket ≡ a.bucket → IsFirstUnfitBetween b low high limit id)
  scan_named low high limit (Source f) a b h = tt
  scan_named low high limit (Unfit id) a b h = h
  scan_named low high limit (BucketFull next depth) a b h = tt
  scan_named low high limit (Number id) a b h = tt
  scan_named low high limit NoMemory a b h = tt

  pub refused_law : (c : Call) (fault : TreeFault) (old new : Cache) → Refused tells finds upper c fault old new → OnlyLoaded tells finds upper c fault old new
  refused_law (call.Get key) fault old new h = key_refused (call.Get key) fault old new (λ x id at u. (at, u)) h
  refused_law (call.Put key value) fault old new h = key_refused (call.Put key value) fault old new (λ x id at u. (at, u)) h
  refused_law (call.Del key) fault old new h = key_refused (call.Del key) fault old new (λ x id at u. (at, u)) h
  refused_law (call.Add key by) fault old new h = key_refused (call.Add key by) fault old new (λ x id at u. (at, u)) h
  refused_law (call.Scan low high limit) fault old new h = record { mid = new; loaded = h.loaded; bucket = refl; undoes = λ n. refl; named = scan_named low high limit fault old new h.cause }
