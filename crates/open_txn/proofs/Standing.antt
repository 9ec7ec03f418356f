-- What the buckets stand for before the first transaction, and at the end of each.
use Rattle.std.proofs.Common.{◌≡◌, ℕ, zero, suc, ◌<◌, ◌≤◌, Bool, true, false, List, [], ◌∷◌, ◌++◌, length, map, Option, Some, None, is_some, slice_get, nat_eq, refl, sym, ap, ◌∙◌, subst, arith, ◌⊎◌, inl, inr}
use Rattle.std.specs.Prelude.{IfSome, All, if◌then◌else◌, option_map, unwrap_or}
use Rattle.std.specs.List.{range_with_len}
use Rattle.std.specs.Map.{lookup}
use Rattle.std.proofs.lemmas.List.{length-map, length-replicate}
use Rattle.std.proofs.lemmas.List.FromFn.{get_or-map-range_with_len, length-range_with_len}
use Rattle.std.proofs.lemmas.Option.{get_or_from_slice_get, same_Some, slice_get_within}
use Rattle.fine_model.specs.declared.law.Origin.{Origin}
use Rattle.fine_model.specs.History.{Commit, all_rows}
use Rattle.node_cache.specs.declared.cached.Cached.{Cached}
use Rattle.node_cache.specs.Cache.{Cache, IsResting, after, before, cached}
use Rattle.node_cache.specs.Entries.{stamped}
use Rattle.btree_nodes.specs.Trees.{Holds}
use Rattle.txn_draft.specs.Standing.{IsLeft, StandsFor}
use Rattle.txn_draft.specs.Uses.{IsUsed}
use Rattle.txn_draft.proofs.Lasting.{new_law, settle_law, undo_law}
use Rattle.open_txn.specs.Buckets.{AreBuckets, BucketsValue, StandAll, new_bucket, none_touched}
use Rattle.open_txn.specs.Endings.{EndEach}
use Rattle.open_txn.specs.Opened.{EndsTouched, LeavesEach, SettlesAll, UndoesAll}

-- ---- new buckets

new_at : (k : ℕ) (b : Cache) → slice_get (map new_bucket (range_with_len 0 256)) k ≡ Some b → b ≡ new_bucket k
new_at k b is =
    let low : k < 256 = subst (λ (n : ℕ). k < n) (length-map (range_with_len 0 256) new_bucket ∙ length-range_with_len 0 256) (slice_get_within (map new_bucket (range_with_len 0 256)) k b is) in
    sym (get_or_from_slice_get (map new_bucket (range_with_len 0 256)) k b b is) ∙ get_or-map-range_with_len new_bucket 0 256 k k b low (omega arith)

module _ (v : BucketsValue) (buckets : v.buckets ≡ map new_bucket (range_with_len 0 256)) (flags : v.touched ≡ none_touched) where
  many : length v.buckets ≡ 256
  many = ap length buckets ∙ length-map (range_with_len 0 256) new_bucket ∙ length-range_with_len 0 256

  pub is_new : (k : ℕ) (b : Cache) → slice_get v.buckets k ≡ Some b → b ≡ new_bucket k
  is_new k b is = new_at k b (ap (λ l. slice_get l k) (sym buckets) ∙ is)

  pub new_are : AreBuckets v
  new_are = record { many = many; flags = ap length flags ∙ length-replicate 256 false; numbered = λ k b is. ap (λ x. x.bucket) (is_new k b is) }

  pub new_stand : (log : Origin) (published : ℕ) → StandAll log published v []
  new_stand log published = record { many = many; untouched = flags; each = λ k b is. subst (λ x. StandsFor log k published x []) (sym (is_new k b is)) (new_law log k published) }

-- ---- the end of a transaction

-- an item of one list has its like in another of its length
like : {A B : Type 0} (xs : List A) (ys : List B) (k : ℕ) (x : A) → slice_get xs k ≡ Some x → length xs ≡ length ys → (y : B) × (slice_get ys k ≡ Some y)
like [] ys k x is long = absurd cc
like (a ∷ xs) [] k x is long = absurd (omega (arith, long))
like (a ∷ xs) (b ∷ ys) zero x is long = (b, refl)
like (a ∷ xs) (b ∷ ys) (suc k) x is long = like xs ys k x is (omega (arith, long))

itself : (o : Option Cached) → IfSome o (λ kept. o ≡ Some kept)
itself None = tt
itself (Some kept) = refl

kept_itself : (e : ℕ) (o : Option Cached) → IfSome o (λ kept. e < kept.epoch → o ≡ Some kept)
kept_itself e None = tt
kept_itself e (Some kept) = λ late. refl

-- a bucket at rest is left as it is
still_left : (e : ℕ) (was : ℕ → Option Cached) (b : Cache) → IsResting b → ((n : ℕ) → was n ≡ cached b n) → IsLeft e was b b
still_left e was b resting same = record {
  bucket = refl;
  resting = resting;
  same = λ n. subst (λ (w : Option Cached). IfSome (cached b n) (λ kept. w ≡ Some kept)) (sym (same n)) (itself (cached b n));
  kept = λ n. subst (λ (w : Option Cached). IfSome w (λ kept. e < kept.epoch → cached b n ≡ Some kept)) (sym (same n)) (kept_itself e (cached b n));
}

after_rest : (b : Cache) (epoch : ℕ) → IsResting b → (n : ℕ) → after b epoch n ≡ cached b n
after_rest b epoch resting n = ap (λ saved. if is_some (lookup (nat_eq n) saved) then option_map (stamped epoch) (cached b n) else cached b n) resting

before_rest : (b : Cache) → IsResting b → (n : ℕ) → before b n ≡ cached b n
before_rest b resting n = ap (λ saved. unwrap_or (lookup (nat_eq n) saved) (cached b n)) resting

-- what a bucket at the end was before
record WasAt (f : Cache → Cache) (v : BucketsValue) (k : ℕ) (y : Cache) : Type 0 where
  b : Cache
  t : Bool
  is_b : slice_get v.buckets k ≡ Some b
  is_t : slice_get v.touched k ≡ Some t
  is_y : y ≡ (if t then f b else b)

module _ (f : Cache → Cache) (Left : Cache → Cache → Type 0) (v v' : BucketsValue) (whole : AreBuckets v) (ended : EndEach f Left v.touched v.buckets v'.buckets) (flags : v'.touched ≡ none_touched) where
  was_at : (k : ℕ) (y : Cache) → slice_get v'.buckets k ≡ Some y → WasAt f v k y
  was_at k y is =
      let b = like v'.buckets v.buckets k y is ended.many in
      let t = like v.buckets v.touched k b.0 b.1 (whole.many ∙ sym whole.flags) in record {
        b = b.0;
        t = t.0;
        is_b = b.1;
        is_t = t.1;
        is_y = same_Some y (if t.0 then f b.0 else b.0) (sym is ∙ ended.each k b.0 t.0 b.1 t.1);
      }

  many_now : length v'.buckets ≡ 256
  many_now = ended.many ∙ whole.many

  pub ended_touched : EndsTouched f v v'
  ended_touched = record { each = λ k b t is_b is_t. ended.each k b t is_b is_t; untouched = flags }

  pub ended_are : ((b : Cache) → (f b).bucket ≡ b.bucket) → AreBuckets v'
  ended_are number = record {
    many = many_now;
    flags = ap length flags ∙ length-replicate 256 false;
    numbered = λ k y is. let w = was_at k y is in ap (λ x. x.bucket) w.is_y ∙ same w.t w.b ∙ whole.numbered k w.b w.is_b;
  }
    where
      same : (t : Bool) (b : Cache) → (if t then f b else b).bucket ≡ b.bucket
      same true b = number b
      same false b = refl

  -- what is left of each bucket that was touched
  pub left_each : (e : ℕ) (was : Cache → ℕ → Option Cached) → ((b z : Cache) → Left b z → IsLeft e (was b) b z) → LeavesEach e was v v'
  left_each e was is_left k b is = let t = like v.buckets v.touched k b is (whole.many ∙ sym whole.flags) in by t.0 t.1
    where
      by : (t : Bool) → slice_get v.touched k ≡ Some t
          → (z : Cache) × (slice_get v'.buckets k ≡ Some z) × (((slice_get v.touched k ≡ Some true) × IsLeft e (was b) b z) ⊎ ((slice_get v.touched k ≡ Some false) × (z ≡ b)))
      by true flag = (f b, ended.each k b true is flag, inl (flag, is_left b (f b) (ended.left k b is flag)))
      by false flag = (b, ended.each k b false is flag, inr (flag, refl))

  -- what is left of a bucket, where one that is not touched rests
  left_of : (e : ℕ) (was : Cache → ℕ → Option Cached) (k : ℕ) (y : Cache) (w : WasAt f v k y) → ((b z : Cache) → Left b z → IsLeft e (was b) b z) → ((b : Cache) → IsResting b → (n : ℕ) → was b n ≡ cached b n)
      → (slice_get v.touched k ≡ Some false → IsResting w.b) → IsLeft e (was w.b) w.b y
  left_of e was k y w is_left at_rest resting = by w.t w.is_t w.is_y
    where
      by : (t : Bool) → slice_get v.touched k ≡ Some t → y ≡ (if t then f w.b else w.b) → IsLeft e (was w.b) w.b y
      by true flag is = subst (IsLeft e (was w.b) w.b) (sym is) (is_left w.b (f w.b) (ended.left k w.b w.is_b flag))
      by false flag is = subst (IsLeft e (was w.b) w.b) (sym is) (still_left e (was w.b) w.b (resting flag) (at_rest w.b (resting flag)))

  -- a bucket at the end stands for what follows from the one that it was
  all_stand : (log : Origin) (low published : ℕ) (history next : List Commit) (taken : BucketsValue) → StandAll log low taken history
      → ((k : ℕ) (y : Cache) (w : WasAt f v k y) (t : Cache) → slice_get taken.buckets k ≡ Some t → StandsFor log k low t history → StandsFor log k published y next) → StandAll log published v' next
  all_stand log low published history next taken stand each = record {
    many = many_now;
    untouched = flags;
    each = λ k y is_y. let w = was_at k y is_y in let t = like v.buckets taken.buckets k w.b w.is_b (whole.many ∙ sym stand.many) in each k y w t.0 t.1 (stand.each k t.0 t.1);
  }

  pub settle_stands : (epoch e : ℕ) → ((b z : Cache) → Left b z → IsLeft e (after b epoch) b z) → SettlesAll epoch e v v'
  settle_stands epoch e is_left log low published history taken d c o rows is_epoch epochs most less = all_stand log low published history (history ++ c ∷ []) taken o.stand (λ k y w t is_t stands.
      settle_law log k low published e t w.b y history c most less (subst (λ (n : ℕ). All (λ d. d.epoch ≤ n) history) (sym is_epoch) epochs) stands
      (subst (IsUsed low t w.b) (sym rows) (o.uses.each k t w.b is_t w.is_b)) (λ e' first began. subst (Holds w.b (first ++ all_rows history)) (sym rows) (o.holds e' first began k w.b w.is_b))
      (subst (λ (n : ℕ). IsLeft e (after w.b n) w.b y) (sym is_epoch)
      (left_of e (λ b. after b epoch) k y w is_left (λ b. after_rest b epoch) (λ flag. subst IsResting (sym (o.uses.untouched k t w.b is_t w.is_b flag)) stands.settled))))

  pub undo_stands : (e : ℕ) → ((b z : Cache) → Left b z → IsLeft e (before b) b z) → UndoesAll e v v'
  undo_stands e is_left log low published history taken o most less = all_stand log low published history history taken o.stand (λ k y w t is_t stands.
      undo_law log k low published e t w.b y history most less stands (o.undoes.each k t w.b is_t w.is_b) (λ e' first began. o.restores e' first began k w.b w.is_b)
      (left_of e before k y w is_left before_rest (λ flag. subst IsResting (sym (o.undoes.untouched k t w.b is_t w.is_b flag)) stands.settled)))
