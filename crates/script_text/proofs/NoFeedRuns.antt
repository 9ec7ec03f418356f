-- What a run of a script without line feeds printed, from a map without any.
use Rattle.std.proofs.Common.{◌≡◌, ◌≢◌, ◌⊎◌, ◌||◌, Bool, true, false, ℕ, zero, suc, ◌+◌, ◌-◌, ◌<◌, ◌≤◌, List, [], ◌∷◌, ◌++◌, length, take, map, get_or, slice_get, Option, Some, None, refl, sym, ap, ◌∙◌, subst, inl, inr, arith}
use Rattle.std.specs.Prelude.{flat_map}
use Rattle.std.specs.List.{AllByRecursion, AllZip, list_any, IsDistinct}
use Rattle.std.proofs.Math.Dec.{eqb}
use Rattle.std.proofs.Math.Seq.{take-suc}
use Rattle.std.proofs.lemmas.List.{length-map, take_all}
use Rattle.std.proofs.lemmas.Bool.{ne_eqb, eqb-true}
use Rattle.std.proofs.lemmas.Option.{slice_get_within, slice_get_cases}
use Rattle.std.proofs.lemmas.Map.Steps.{length-le_from_distinct_below}
use Rattle.std.proofs.lemmas.Slice.Zip.{AllZip-long}
use Rattle.fine_model.specs.declared.Row.{Row}
use Rattle.fine_model.specs.declared.ScriptTxn.{ScriptTxn}
use Rattle.fine_model.specs.declared.Outcome.{Outcome}
use Rattle.fine_model.specs.declared.Outcome.TheVariants as outcome
use Rattle.fine_model.specs.declared.Ran.{Ran}
use Rattle.fine_model.specs.RowBytes.{greatest}
use Rattle.fine_model.specs.Trees.{map_of}
use Rattle.fine_model.specs.History.{Commit, IsLegal, all_writes, map_at, last_epoch}
use Rattle.fine_model.specs.Outcomes.{IsOutcomeOf, AreOutcomes, EpochsGoOn, EpochsFollow}
use Rattle.fine_model.specs.Report.{all_outcomes}
use Rattle.fine_model.proofs.Histories.HistoryLaws.{last_epoch-from}
use Rattle.fine_model.proofs.Ordered.Lists.{all_at}
use Rattle.fine_model.proofs.Ordered.Sets.{all_append}
use Rattle.script_text.specs.Marks.{CallHasNoFeed, ReplyHasNoFeed, IsTold, IsPlainRun, RunTells, MapsStay}
use Rattle.script_text.proofs.NoFeedReplies.{MapHasNoFeed, WriteHasNoFeed, after_all, replies_all}
use Rattle.script_text.proofs.NoFeedScripts.{TxnHasNoFeed, script_all}
use Rattle.script_text.proofs.Telling.{text_tells}

-- ---- lists

all_from : {A : Type 0} (P : A → Type 0) (xs : List A) → ((i : ℕ) (x : A) → slice_get xs i ≡ Some x → P x) → AllByRecursion P xs
all_from P [] each = tt
all_from P (x ∷ xs) each = (each 0 x refl, all_from P xs (λ i y is. each (suc i) y is))

all_front : {A : Type 0} (P : A → Type 0) (xs ys : List A) → AllByRecursion P (xs ++ ys) → AllByRecursion P xs
all_front P [] ys all = tt
all_front P (x ∷ xs) ys all = (all.0, all_front P xs ys all.1)

all_flat : {A B : Type 0} (P : B → Type 0) (f : A → List B) (xs : List A) → AllByRecursion (λ x. AllByRecursion P (f x)) xs → AllByRecursion P (flat_map f xs)
all_flat P f [] all = tt
all_flat P f (x ∷ xs) all = all_append P (f x) (flat_map f xs) all.0 (all_flat P f xs all.1)

zipped_at : {A B : Type 0} (R : A → B → Type 0) (xs : List A) (ys : List B) (i : ℕ) (y : B) → AllZip R xs ys → slice_get ys i ≡ Some y → (x : A) × (slice_get xs i ≡ Some x) × R x y
zipped_at R [] [] i y all is = absurd cc
zipped_at R [] (z ∷ zs) i y all is = absurd all
zipped_at R (x ∷ xs) [] i y all is = absurd all
zipped_at R (x ∷ xs) (z ∷ zs) zero y all is = let e : z ≡ y = cc in (x, refl, subst (R x) e all.0)
zipped_at R (x ∷ xs) (z ∷ zs) (suc i) y all is = zipped_at R xs zs i y all.1 is

-- numbers of the items of a list, each below n and no two equal, are at most n
module _ {A : Type 0} (f : A → ℕ) where
  abbrev pub AtEach : List A → (ℕ → A → Type 0) → Type 0
  AtEach xs P = (i : ℕ) (x : A) → slice_get xs i ≡ Some x → P i x

  all_other : (x : A) (ys : List A) → AtEach ys (λ j y. f x ≢ f y) → AllByRecursion (λ m. eqb (f x) m ≡ false) (map f ys)
  all_other x [] each = tt
  all_other x (y ∷ ys) each = (ne_eqb (f x) (f y) (each 0 y refl), all_other x ys (λ j z is. each (suc j) z is))

  distinct : (xs : List A) → AtEach xs (λ i x. AtEach xs (λ j y. f x ≡ f y → i ≡ j)) → IsDistinct eqb (map f xs)
  unfolding IsDistinct
  distinct [] one = tt
  distinct (x ∷ xs) one = (
    all_other x xs (λ j y is e. omega (arith, one 0 x refl (suc j) y is e)),
    distinct xs (λ i y is j z there e. omega (arith, one (suc i) y is (suc j) z there e)),
  )

  all_within : (n : ℕ) (xs : List A) → AtEach xs (λ i x. f x < n) → (q : ℕ) → list_any (eqb q) (map f xs) ≡ true → q < n
  all_within n [] below q e = absurd cc
  all_within n (x ∷ xs) below q e = by (eqb q (f x)) refl e (all_within n xs (λ i y is. below (suc i) y is) q)
    where
      by : (t : Bool) → eqb q (f x) ≡ t → (t || list_any (eqb q) (map f xs)) ≡ true → (list_any (eqb q) (map f xs) ≡ true → q < n) → q < n
      by true is e rest = let same : q ≡ f x = eqb-true q (f x) is in omega (arith, below 0 x refl)
      by false is e rest = rest e

  at_most : (n : ℕ) (xs : List A) → AtEach xs (λ i x. f x < n) → AtEach xs (λ i x. AtEach xs (λ j y. f x ≡ f y → i ≡ j)) → length xs ≤ n
  at_most n xs below one = omega (arith, length-le_from_distinct_below (map f xs) n (distinct xs one) (all_within n xs below), length-map xs f)

-- ---- epochs

epoch_within : (e : ℕ) (history : List Commit) (k : ℕ) (c : Commit) → EpochsGoOn e history → slice_get history k ≡ Some c → c.epoch ≤ last_epoch e history
epoch_within e [] k c on is = absurd cc
epoch_within e (d ∷ ds) zero c on is = let same : d ≡ c = cc in omega (arith, ap (λ (x : Commit). x.epoch) same, last_epoch-from d.epoch ds on.1)
epoch_within e (d ∷ ds) (suc k) c on is = epoch_within d.epoch ds k c on.1 is

last_within : (e : ℕ) (history : List Commit) → EpochsGoOn e history → last_epoch e history ≤ e + length history
last_within e [] on = omega arith
last_within e (c ∷ cs) on =
    elim on.0 as (λ _. last_epoch c.epoch cs ≤ e + length (c ∷ cs)) [
      | inl same ↦ omega (arith, last_within c.epoch cs on.1, same)
      | inr more ↦ omega (arith, last_within c.epoch cs on.1, more)
    ]

epochs_go_on : (e : ℕ) (history : List Commit) → EpochsFollow e history → EpochsGoOn e history
epochs_go_on e [] follow = tt
epochs_go_on e (c ∷ cs) follow = (inr follow.0, follow.1)

-- ---- a run

module _ (script : List ScriptTxn) (outs : List Outcome) (rows : List Row) (e : ℕ) (history : List Commit)
    (few : length script ≤ 100000) (plain : AllByRecursion TxnHasNoFeed script) (map_plain : MapHasNoFeed (map_of rows))
    (are : AreOutcomes script e outs history) (legal : IsLegal rows history) (start : e ≤ greatest) where
  -- the place of a commit in the script
  place_of : (k : ℕ) (c : Commit) → slice_get history k ≡ Some c → (c.entry.turn - 1 < length outs) × (slice_get outs (c.entry.turn - 1) ≡ Some (outcome.Committed (k + 1) c.epoch c.entry))
  place_of k c is =
      let at_ = are.history_of.only k c is in
      let turn = (are.history_of.each at_.0 k c at_.1).1 in
      let same : at_.0 ≡ c.entry.turn - 1 = omega (arith, turn) in
      let there : slice_get outs (c.entry.turn - 1) ≡ Some (outcome.Committed (k + 1) c.epoch c.entry) = ap (slice_get outs) (sym same) ∙ at_.1 in
      (slice_get_within outs (c.entry.turn - 1) _ there, there)

  one_place : (i j : ℕ) (c d : Commit) → slice_get history i ≡ Some c → slice_get history j ≡ Some d → c.entry.turn - 1 ≡ d.entry.turn - 1 → i ≡ j
  one_place i j c d p q turn =
      let one = (place_of i c p).1 in
      let two = (place_of j d q).1 in
      let both : Some (outcome.Committed (i + 1) c.epoch c.entry) ≡ Some (outcome.Committed (j + 1) d.epoch d.entry) = sym one ∙ ap (slice_get outs) turn ∙ two in
      let places : i + 1 ≡ j + 1 = ap place_or_none both in
      omega (arith, places)
    where
      place_or_none : Option Outcome → ℕ
      place_or_none (Some (outcome.Committed place epoch entry)) = place
      place_or_none _ = 0

  few_commits : length history ≤ 100000
  few_commits =
      let at_most_outs = at_most (λ (c : Commit). c.entry.turn - 1) (length outs) history (λ i c is. (place_of i c is).0) (λ i c p j d q. one_place i j c d p q) in
      omega (arith, at_most_outs, AllZip-long IsOutcomeOf script outs are.one_each, few)

  calls_at : (k : ℕ) (c : Commit) → slice_get history k ≡ Some c → AllByRecursion CallHasNoFeed c.entry.calls
  calls_at k c is =
      let there = (place_of k c is).1 in
      let txn = zipped_at IsOutcomeOf script outs (c.entry.turn - 1) (outcome.Committed (k + 1) c.epoch c.entry) are.one_each there in
      subst (AllByRecursion CallHasNoFeed) (sym txn.2.2) (all_at TxnHasNoFeed (c.entry.turn - 1) script txn.0 plain txn.1)

  abbrev WritesHaveNoFeed : Commit → Type 0
  WritesHaveNoFeed c = AllByRecursion WriteHasNoFeed c.entry.writes

  -- the map before a commit, where all writes before it hold no line feed
  map_before : (k : ℕ) → AllByRecursion WritesHaveNoFeed (take k history) → MapHasNoFeed (map_at rows (take k history))
  map_before k writes = after_all (map_of rows) (all_writes (take k history)) map_plain (all_flat WriteHasNoFeed (λ (c : Commit). c.entry.writes) (take k history) writes)

  writes_before : (k : ℕ) → AllByRecursion WritesHaveNoFeed (take k history)
  writes_before zero = tt
  writes_before (suc k) = by (slice_get_cases history k).1 (writes_before k)
    where
      by : ((c : Commit) × (k < length history) × (slice_get history k ≡ Some c) × (get_or history k c ≡ c)) ⊎ ((length history ≤ k) × (slice_get history k ≡ None))
          → AllByRecursion WritesHaveNoFeed (take k history) → AllByRecursion WritesHaveNoFeed (take (suc k) history)
      by (inr past) writes = subst (AllByRecursion WritesHaveNoFeed) (take_all k history past.0 ∙ sym (take_all (suc k) history (omega (arith, past.0)))) writes
      by (inl at_) writes =
          let c : Commit = at_.0 in
          let next = legal.each k c at_.2 in
          let own : WritesHaveNoFeed c = subst (AllByRecursion WriteHasNoFeed) (sym next.writes) (replies_all (map_at rows (take k history)) c.entry.calls (map_before k writes) (calls_at k c at_.2)).1 in
          let more : take (suc k) history ≡ take k history ++ c ∷ [] = take-suc history k c at_.1 ∙ ap (λ d. take k history ++ d ∷ []) at_.3 in
          subst (AllByRecursion WritesHaveNoFeed) (sym more) (all_append WritesHaveNoFeed (take k history) (c ∷ []) writes (own, tt))

  map_stays : (k : ℕ) → MapHasNoFeed (map_at rows (take k history))
  map_stays k = map_before k (writes_before k)

  replies_at : (k : ℕ) (c : Commit) → slice_get history k ≡ Some c → AllByRecursion ReplyHasNoFeed c.entry.replies
  replies_at k c is =
      let next = legal.each k c is in
      subst (AllByRecursion ReplyHasNoFeed) (sym next.replies) (replies_all (map_at rows (take k history)) c.entry.calls (map_stays k) (calls_at k c is)).0

  told_at : (i : ℕ) (o : Outcome) → slice_get outs i ≡ Some o → IsTold o
  told_at i (outcome.Committed zero epoch entry) is = absurd (are.history_of.no_place_zero i (record { entry = entry; epoch = epoch }) is)
  told_at i (outcome.Committed (suc place) epoch entry) is =
      let c : Commit = record { entry = entry; epoch = epoch } in
      let next : suc place ≡ place + 1 = omega arith in
      let at_ = are.history_of.each i place c (is ∙ ap (λ n. Some (outcome.Committed n epoch entry)) next) in
      let within = slice_get_within history place c at_.0 in
      let on = epochs_go_on e history are.epochs in
      let bound = epoch_within e history place c on at_.0 in
      let last = last_within e history on in
      ((calls_at place c at_.0, replies_at place c at_.0), (omega (arith, within, few_commits), omega (arith, bound, last, few_commits, start)))
  told_at i outcome.Aborted is = (tt, tt)
  told_at i (outcome.Refused why) is = (tt, tt)
  told_at i outcome.NotRun is = (tt, tt)

  all_told : AllByRecursion IsTold outs
  all_told = all_from IsTold outs told_at

run_told : (script : List ScriptTxn) (ran : Ran) → IsPlainRun script ran → AllByRecursion IsTold ran.outcomes
run_told script ran run =
    let read = script_all run.bytes script run.spelled in
    all_front IsTold ran.outcomes _ (all_told script (all_outcomes script ran.outcomes) run.rows run.e run.history read.1 read.0 run.plain run.outcomes run.legal run.epoch)

pub maps_stay : MapsStay
maps_stay script ran run =
    let read = script_all run.bytes script run.spelled in
    map_stays script (all_outcomes script ran.outcomes) run.rows run.e run.history read.1 read.0 run.plain run.outcomes run.legal run.epoch

pub run_tells : RunTells
run_tells one other r s p q e = text_tells one other r s (run_told one r p) (run_told other s q) e
