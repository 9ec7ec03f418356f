-- That refused transactions have their causes, where transactions are run in turn.
use Rattle.std.proofs.Common.{◌≡◌, inl, inr, ℕ, zero, suc, ◌+◌, ◌<◌, ◌≤◌, ◌==◌, nat_le, true, false, cond, List, [], ◌∷◌, ◌++◌, length, refl, sym, ap, ◌∙◌, subst, Option, Some, None, Ok, Err, arith}
use Rattle.std.specs.Prelude.{count_by, slice_get, take}
use Rattle.std.proofs.lemmas.List.Sums.{sum_by-cons}
use Rattle.fine_model.specs.declared.Call.{Call}
use Rattle.fine_model.specs.declared.Outcome.{Outcome}
use Rattle.fine_model.specs.declared.Outcome.TheVariants as outcome
use Rattle.fine_model.specs.declared.Row.{Row}
use Rattle.fine_model.specs.declared.ScriptTxn.{ScriptTxn}
use Rattle.fine_model.specs.declared.Why.{Why}
use Rattle.fine_model.specs.declared.Why.TheVariants as why
use Rattle.fine_model.specs.declared.law.RoomState.{RoomState}
use Rattle.fine_model.specs.Causes.{AfterSome, HasCause}
use Rattle.fine_model.specs.History.{Commit, all_rows, upto}
use Rattle.fine_model.specs.Merge.{cost}
use Rattle.fine_model.specs.Outcomes.{EpochsFollow, IsCommittedAt}
use Rattle.fine_model.specs.Pushed.{all_pushed}
use Rattle.fine_model.specs.Regions.{Image}
use Rattle.fine_model.specs.Room.{HoldsLive, IsSealedUpTo}
use Rattle.fine_model.specs.RowBytes.{short_header}
use Rattle.fine_model.proofs.Histories.Epochs.{all_upto}
use Rattle.fine_model.proofs.Histories.Goings.{stuck_full}
use Rattle.run_laws.specs.Turns.{AreNumbered, CausesLaw, NoneBehindFull, RefusesBehind, StaysRefused, commits_of}

pub stays_refused : StaysRefused
stays_refused old new before calls why.Large becomes high (rows, pushed, long) = (rows, pushed, subst (λ n. n < short_header + cost rows) (sym becomes.region_len) long)
stays_refused old new before calls why.Bucket becomes high is = is
stays_refused old new before calls why.Number becomes high (inl is) = inl is
stays_refused old new before calls why.Number becomes high (inr is) = let low = becomes.sealed in inr (omega (arith, low, high, is))
stays_refused old new before calls why.Full becomes high is = (becomes.stuck is).stuck

-- ---- the commits of the first outcomes

-- they are the first commits
first_commits : (i : ℕ) (outcomes : List Outcome) → take (length (commits_of (take i outcomes))) (commits_of outcomes) ≡ commits_of (take i outcomes)
first_commits zero outcomes = refl
first_commits (suc i) [] = refl
first_commits (suc i) (outcome.Committed place epoch entry ∷ outcomes) = ap (λ (cs : List Commit). record { entry = entry; epoch = epoch } ∷ cs) (first_commits i outcomes)
first_commits (suc i) (outcome.Aborted ∷ outcomes) = first_commits i outcomes
first_commits (suc i) (outcome.Refused word ∷ outcomes) = first_commits i outcomes
first_commits (suc i) (outcome.NotRun ∷ outcomes) = first_commits i outcomes

within : (i : ℕ) (outcomes : List Outcome) → length (commits_of (take i outcomes)) ≤ length (commits_of outcomes)
within zero outcomes = omega arith
within (suc i) [] = omega arith
within (suc i) (outcome.Committed place epoch entry ∷ outcomes) = let h = within i outcomes in omega (arith, h)
within (suc i) (outcome.Aborted ∷ outcomes) = within i outcomes
within (suc i) (outcome.Refused word ∷ outcomes) = within i outcomes
within (suc i) (outcome.NotRun ∷ outcomes) = within i outcomes

-- an earlier place is among theirs
behind : (turn place : ℕ) (outcomes : List Outcome) → AreNumbered turn place outcomes → (i j at : ℕ) (c : Commit) → i < j → IsCommittedAt outcomes i at c → at ≤ place + length (commits_of (take j outcomes))
behind turn place [] are i j at c before is = absurd (let e : ◌≡◌ {A = Option Outcome} None (Some (outcome.Committed at c.epoch c.entry)) = is in cc)
behind turn place (o ∷ outcomes) are i zero at c before is = absurd (omega (arith, before))
behind turn place (outcome.Committed p epoch entry ∷ outcomes) are zero (suc j) at c before is = let same : p ≡ at = cc in let number = are.0 in omega (arith, same, number)
behind turn place (outcome.Aborted ∷ outcomes) are zero (suc j) at c before is = absurd (let e : ◌≡◌ {A = Option Outcome} (Some outcome.Aborted) (Some (outcome.Committed at c.epoch c.entry)) = is in cc)
behind turn place (outcome.Refused word ∷ outcomes) are zero (suc j) at c before is =
    absurd (let e : ◌≡◌ {A = Option Outcome} (Some (outcome.Refused word)) (Some (outcome.Committed at c.epoch c.entry)) = is in cc)
behind turn place (outcome.NotRun ∷ outcomes) are zero (suc j) at c before is = absurd (let e : ◌≡◌ {A = Option Outcome} (Some outcome.NotRun) (Some (outcome.Committed at c.epoch c.entry)) = is in cc)
behind turn place (outcome.Committed p epoch entry ∷ outcomes) are (suc i) (suc j) at c before is =
    let h = behind (turn + 1) (place + 1) outcomes are.2 i j at c (omega (arith, before)) is in omega (arith, h)
behind turn place (outcome.Aborted ∷ outcomes) are (suc i) (suc j) at c before is = behind (turn + 1) place outcomes are i j at c (omega (arith, before)) is
behind turn place (outcome.Refused word ∷ outcomes) are (suc i) (suc j) at c before is = behind (turn + 1) place outcomes are i j at c (omega (arith, before)) is
behind turn place (outcome.NotRun ∷ outcomes) are (suc i) (suc j) at c before is = behind (turn + 1) place outcomes are i j at c (omega (arith, before)) is

-- a place is above the number that was reached before
above : (turn place : ℕ) (outcomes : List Outcome) → AreNumbered turn place outcomes → (j at : ℕ) (c : Commit) → IsCommittedAt outcomes j at c → place < at
above turn place [] are j at c is = absurd (let e : ◌≡◌ {A = Option Outcome} None (Some (outcome.Committed at c.epoch c.entry)) = is in cc)
above turn place (outcome.Committed p epoch entry ∷ outcomes) are zero at c is = let same : p ≡ at = cc in let number = are.0 in omega (arith, same, number)
above turn place (outcome.Aborted ∷ outcomes) are zero at c is = absurd (let e : ◌≡◌ {A = Option Outcome} (Some outcome.Aborted) (Some (outcome.Committed at c.epoch c.entry)) = is in cc)
above turn place (outcome.Refused word ∷ outcomes) are zero at c is = absurd (let e : ◌≡◌ {A = Option Outcome} (Some (outcome.Refused word)) (Some (outcome.Committed at c.epoch c.entry)) = is in cc)
above turn place (outcome.NotRun ∷ outcomes) are zero at c is = absurd (let e : ◌≡◌ {A = Option Outcome} (Some outcome.NotRun) (Some (outcome.Committed at c.epoch c.entry)) = is in cc)
above turn place (outcome.Committed p epoch entry ∷ outcomes) are (suc j) at c is = let h = above (turn + 1) (place + 1) outcomes are.2 j at c is in omega (arith, h)
above turn place (outcome.Aborted ∷ outcomes) are (suc j) at c is = above (turn + 1) place outcomes are j at c is
above turn place (outcome.Refused word ∷ outcomes) are (suc j) at c is = above (turn + 1) place outcomes are j at c is
above turn place (outcome.NotRun ∷ outcomes) are (suc j) at c is = above (turn + 1) place outcomes are j at c is

-- a later place is above all of theirs
ahead : (turn place : ℕ) (outcomes : List Outcome) → AreNumbered turn place outcomes → (i j at : ℕ) (c : Commit) → i < j → IsCommittedAt outcomes j at c → place + length (commits_of (take i outcomes)) < at
ahead turn place outcomes are zero j at c before is = let h = above turn place outcomes are j at c is in omega (arith, h)
ahead turn place [] are (suc i) j at c before is = absurd (let e : ◌≡◌ {A = Option Outcome} None (Some (outcome.Committed at c.epoch c.entry)) = is in cc)
ahead turn place (o ∷ outcomes) are (suc i) zero at c before is = absurd (omega (arith, before))
ahead turn place (outcome.Committed p epoch entry ∷ outcomes) are (suc i) (suc j) at c before is =
    let h = ahead (turn + 1) (place + 1) outcomes are.2 i j at c (omega (arith, before)) is in omega (arith, h)
ahead turn place (outcome.Aborted ∷ outcomes) are (suc i) (suc j) at c before is = ahead (turn + 1) place outcomes are i j at c (omega (arith, before)) is
ahead turn place (outcome.Refused word ∷ outcomes) are (suc i) (suc j) at c before is = ahead (turn + 1) place outcomes are i j at c (omega (arith, before)) is
ahead turn place (outcome.NotRun ∷ outcomes) are (suc i) (suc j) at c before is = ahead (turn + 1) place outcomes are i j at c (omega (arith, before)) is

-- they are those whose turns are at most their number
low_turn : (n m : ℕ) → n ≤ m → nat_le n m ≡ true
low_turn n m h = grind (arith, h)

high_turn : (n m : ℕ) → m < n → nat_le n m ≡ false
high_turn n m h = grind (arith, h)

counted_in : (n : ℕ) (c : Commit) (cs : List Commit) → c.entry.turn ≤ n → count_by (λ (d : Commit). nat_le d.entry.turn n) (c ∷ cs) ≡ count_by (λ (d : Commit). nat_le d.entry.turn n) cs + 1
counted_in n c cs low =
    let s = sum_by-cons (λ (d : Commit). cond (nat_le d.entry.turn n) 1 0) c cs in
    let one : ◌≡◌ {A = ℕ} (cond (nat_le c.entry.turn n) 1 0) 1 = ap {B = ℕ} (λ b. cond b 1 0) (low_turn c.entry.turn n low) in
    omega (arith, s, one)

counted_out : (n : ℕ) (c : Commit) (cs : List Commit) → n < c.entry.turn → count_by (λ (d : Commit). nat_le d.entry.turn n) (c ∷ cs) ≡ count_by (λ (d : Commit). nat_le d.entry.turn n) cs
counted_out n c cs high =
    let s = sum_by-cons (λ (d : Commit). cond (nat_le d.entry.turn n) 1 0) c cs in
    let none : ◌≡◌ {A = ℕ} (cond (nat_le c.entry.turn n) 1 0) 0 = ap {B = ℕ} (λ b. cond b 1 0) (high_turn c.entry.turn n high) in
    omega (arith, s, none)

none_counted : (turn place : ℕ) (outcomes : List Outcome) → AreNumbered turn place outcomes → (n : ℕ) → n ≤ turn → count_by (λ (c : Commit). nat_le c.entry.turn n) (commits_of outcomes) ≡ 0
none_counted turn place [] are n low = refl
none_counted turn place (outcome.Committed at epoch entry ∷ outcomes) are n low =
    let own = are.1 in
    counted_out n (record { entry = entry; epoch = epoch }) (commits_of outcomes) (omega (arith, own, low)) ∙ none_counted (turn + 1) (place + 1) outcomes are.2 n (omega (arith, low))
none_counted turn place (outcome.Aborted ∷ outcomes) are n low = none_counted (turn + 1) place outcomes are n (omega (arith, low))
none_counted turn place (outcome.Refused word ∷ outcomes) are n low = none_counted (turn + 1) place outcomes are n (omega (arith, low))
none_counted turn place (outcome.NotRun ∷ outcomes) are n low = none_counted (turn + 1) place outcomes are n (omega (arith, low))

counted : (turn place : ℕ) (outcomes : List Outcome) → AreNumbered turn place outcomes → (i n : ℕ) → n ≡ turn + i → length (commits_of (take i outcomes)) ≡ count_by (λ (c : Commit). nat_le c.entry.turn n) (commits_of outcomes)
counted turn place outcomes are zero n is = sym (none_counted turn place outcomes are n (omega (arith, is)))
counted turn place [] are (suc i) n is = refl
counted turn place (outcome.Committed at epoch entry ∷ outcomes) are (suc i) n is =
    let own = are.1 in
    let here = counted_in n (record { entry = entry; epoch = epoch }) (commits_of outcomes) (omega (arith, own, is)) in
    let rest = counted (turn + 1) (place + 1) outcomes are.2 i n (omega (arith, is)) in
    omega (arith, here, rest)
counted turn place (outcome.Aborted ∷ outcomes) are (suc i) n is = counted (turn + 1) place outcomes are i n (omega (arith, is))
counted turn place (outcome.Refused word ∷ outcomes) are (suc i) n is = counted (turn + 1) place outcomes are i n (omega (arith, is))
counted turn place (outcome.NotRun ∷ outcomes) are (suc i) n is = counted (turn + 1) place outcomes are i n (omega (arith, is))

-- ---- causes

module _ (script : List ScriptTxn) (outcomes : List Outcome) (room : RoomState) (image : Image) (first : List Row) (e : ℕ) (are : AreNumbered 0 0 outcomes)
    (none : NoneBehindFull outcomes) (follow : EpochsFollow e (commits_of outcomes)) (up_to : IsSealedUpTo e (commits_of outcomes) room.sealed) (waiting : room.waiting ≡ count_by (λ c. c.epoch == room.sealed + 1) (commits_of outcomes))
    (told : room.image ≡ Some image) (live : HoldsLive room image (first ++ all_rows (upto (commits_of outcomes) room.sealed))) (i : ℕ) (calls : List Call) where
  abbrev before : List Commit
  before = commits_of (take i outcomes)

  after : (P : ℕ → Type 0) → P (length before) → AfterSome script outcomes (commits_of outcomes) i P
  after P holds = record {
    k = length before;
    within = within i outcomes;
    behind = λ j place c order is. let h = behind 0 0 outcomes are j i place c order.0 is in omega (arith, h);
    ahead = λ j place c order is. let h = ahead 0 0 outcomes are i j place c order.0 is in omega (arith, h);
    exact = λ one. counted 0 0 outcomes are i i (omega arith);
    holds = holds;
  }

  same : before ≡ take (length before) (commits_of outcomes)
  same = sym (first_commits i outcomes)

  caused : (word : Why) → slice_get outcomes i ≡ Some (outcome.Refused word) → RefusesBehind room (first ++ all_rows before) calls word → HasCause room.region_len first image script outcomes (commits_of outcomes) room.sealed i calls word
  caused why.Large at is = after _ (subst (λ h. (rows : List Row) × (all_pushed (first ++ all_rows h) calls ≡ Ok rows) × (room.region_len < short_header + cost rows)) same is)
  caused why.Bucket at is = after _ (subst (λ h. all_pushed (first ++ all_rows h) calls ≡ Err why.Bucket) same is)
  caused why.Number at (inl is) = inl (after _ (subst (λ h. all_pushed (first ++ all_rows h) calls ≡ Err why.Number) same is))
  caused why.Number at (inr is) = inr is
  caused why.Full at is = (
    stuck_full room image (first ++ all_rows (commits_of outcomes)) told is
        (subst (λ h. HoldsLive room image (first ++ all_rows h)) (all_upto e (commits_of outcomes) room.sealed follow up_to (sym is.none_waits ∙ waiting)) live),
    λ j place c order is_c. none i j place c order.0 at is_c,
  )

pub causes_law : CausesLaw
causes_law script outcomes room image first e are refused none follow up_to waiting told live = record {
  each = λ i txn word is_txn is_refused. caused script outcomes room image first e are none follow up_to waiting told live i txn.calls word is_refused (refused.each i txn word is_txn is_refused);
}
