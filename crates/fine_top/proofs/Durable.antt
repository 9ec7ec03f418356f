-- What of a run's history is durable, and what it leaves of its lanes.
use Rattle.std.proofs.Common.{◌≡◌, ◌⊎◌, inl, inr, ℕ, ◌+◌, ◌<◌, ◌≤◌, ◌==◌, leb, Bool, true, false, cond, ◌&&◌, ◌||◌, List, [], ◌∷◌, refl, sym, ap, ◌∙◌, subst, arith}
use Rattle.std.specs.Prelude.{count_by, nat_le, not, zip}
use Rattle.std.specs.List.{list_all, list_any, range_with_len}
use Rattle.std.proofs.lemmas.Bool.Decides.{leb_tells}
use Rattle.std.proofs.lemmas.List.Folds.{sum_by-zero}
use Rattle.std.proofs.lemmas.List.Sums.{sum_by-le-sum_by}
use Rattle.fine_model.specs.declared.Outcome.{Outcome}
use Rattle.fine_model.specs.declared.Outcome.TheVariants as outcome
use Rattle.fine_model.specs.declared.ScriptTxn.{ScriptTxn}
use Rattle.fine_model.specs.Commands.{are_durable}
use Rattle.fine_model.specs.History.{Commit, last_epoch}
use Rattle.fine_model.specs.Outcomes.{AllRun, EpochsFollow, EpochsGoOn, HasRun, has_run, lanes_not_run}
use Rattle.fine_model.specs.Room.{IsSealedUpTo}
use Rattle.fine_model.proofs.Histories.Epochs.{last_most}
use Rattle.fine_model.proofs.Histories.HistoryLaws.{last_epoch-from}

-- ---- all is durable where nothing waits

one_of : (epoch n : ℕ) → epoch ≤ n + 1 → (cond {A = ℕ} (epoch == n + 1) 1 0 == 0) ≡ nat_le epoch n
one_of epoch n most = by (leb_tells epoch n)
  where
    by : ((leb epoch n ≡ true) × (epoch ≤ n)) ⊎ ((leb epoch n ≡ false) × (n < epoch)) → (cond {A = ℕ} (epoch == n + 1) 1 0 == 0) ≡ nat_le epoch n
    by (inl (is, low)) = grind (arith, low, is)
    by (inr (is, high)) = grind (arith, high, most, is)

none_open : (e n : ℕ) (history : List Commit) → EpochsGoOn e history → last_epoch e history ≤ n + 1
    → list_all (λ (c : Commit). cond {A = ℕ} (c.epoch == n + 1) 1 0 == 0) history ≡ list_all (λ (c : Commit). nat_le c.epoch n) history
none_open e n [] on most = refl
none_open e n (c ∷ cs) on most =
    ap (λ b. b && list_all (λ (c : Commit). cond {A = ℕ} (c.epoch == n + 1) 1 0 == 0) cs) (one_of c.epoch n (omega (arith, last_epoch-from c.epoch cs on.1, most)))
    ∙ ap (λ b. nat_le c.epoch n && b) (none_open c.epoch n cs on.1 most)

follows_on : (e : ℕ) (history : List Commit) → EpochsFollow e history → EpochsGoOn e history
follows_on e [] follow = tt
follows_on e (c ∷ cs) follow = (inr follow.0, follow.1)

-- the entries that wait are those of the open epoch: there are none exactly where all epochs are sealed
pub all_durable : (e sealed waiting : ℕ) (history : List Commit) → EpochsFollow e history → IsSealedUpTo e history sealed → waiting ≡ count_by (λ (c : Commit). c.epoch == sealed + 1) history → (waiting == 0) ≡ are_durable history sealed
all_durable e sealed waiting history follow up_to is =
    ap (λ w. w == 0) is ∙ sum_by-zero (λ (c : Commit). cond {A = ℕ} (c.epoch == sealed + 1) 1 0) history ∙ none_open e sealed history (follows_on e history follow) (last_most e sealed history up_to)

-- ---- where all was run, no lane was cut short

has_run_of : (o : Outcome) → HasRun o → has_run o ≡ true
has_run_of (outcome.Committed place epoch entry) h = refl
has_run_of outcome.Aborted h = refl
has_run_of (outcome.Refused why) h = refl
has_run_of outcome.NotRun h = absurd h

abbrev is_cut : ℕ → ScriptTxn × Outcome → Bool
is_cut lane p = (p.0.lane == lane) && not (has_run p.1)

uncut : (lane : ℕ) (p : ScriptTxn × Outcome) → has_run p.1 ≡ true → is_cut lane p ≡ false
uncut lane p ran = ap (λ b. (p.0.lane == lane) && not b) ran ∙ never (p.0.lane == lane)
  where
    never : (b : Bool) → (b && false) ≡ false
    never true = refl
    never false = refl

none_cut : (lane : ℕ) (script : List ScriptTxn) (outcomes : List Outcome) → AllRun outcomes → list_any (is_cut lane) (zip script outcomes) ≡ false
none_cut lane [] outcomes all = refl
none_cut lane (txn ∷ script) [] all = refl
none_cut lane (txn ∷ script) (o ∷ outcomes) all =
    ap (λ b. b || list_any (is_cut lane) (zip script outcomes)) (uncut lane (txn, o) (has_run_of o all.0)) ∙ none_cut lane script outcomes all.1

pub no_lane_cut : (script : List ScriptTxn) (outcomes : List Outcome) → AllRun outcomes → lanes_not_run script outcomes ≤ 0
unfolding lanes_not_run
no_lane_cut script outcomes all =
    sum_by-le-sum_by (λ lane. cond {A = ℕ} (list_any (is_cut lane) (zip script outcomes)) 1 0) (λ lane. 0) (range_with_len 1 16)
    (λ lane. subst (λ b. cond {A = ℕ} b 1 0 ≤ 0) (sym (none_cut lane script outcomes all)) (omega arith))
