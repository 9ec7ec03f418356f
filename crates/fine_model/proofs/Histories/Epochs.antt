-- Epochs of histories: with a commit more, those that are sealed, and those that are open.
use Rattle.std.proofs.Common.{◌≡◌, ◌⊎◌, ne_eqb, ℕ, ◌+◌, ◌<◌, ◌≤◌, ◌==◌, Bool, true, false, cond, List, [], ◌∷◌, ◌++◌, length, refl, sym, ap, subst, ◌∙◌, inl, inr, arith, append_assoc, append-nil}
use Rattle.std.specs.Prelude.{All, filter, nat_le, count_by}
use Rattle.std.proofs.lemmas.Grind.{flat_map-append}
use Rattle.std.proofs.lemmas.List.Elements.{All-cons, All-head, All-nil, All-tail, All-weaker, filter-append}
use Rattle.std.proofs.lemmas.List.Sums.{take_while-cons, sum_by-cons, sum_by_push}
use Rattle.fine_model.specs.declared.Row.{Row}
use Rattle.fine_model.specs.History.{Commit, IsLegal, all_rows, upto, last_epoch}
use Rattle.fine_model.specs.Outcomes.{EpochsGoOn, EpochsFollow}
use Rattle.fine_model.specs.Room.{IsSealedUpTo}
use Rattle.fine_model.specs.Trees.{IsSound}
use Rattle.fine_model.specs.VersionLaws.{VersionsFollow}
use Rattle.fine_model.specs.Laws.{AllUpTo, FollowsOn, EpochsBelow, NoneWaits, SealsOn, SplitLaw}
use Rattle.fine_model.proofs.Histories.HistoryLaws.{last_epoch-from, upto-last}

above_not : (n e : ℕ) → e < n → nat_le n e ≡ false
above_not n e h = grind (arith, h)

other_not : (n e : ℕ) → n < e → (n == e) ≡ false
other_not n e h = grind (arith, h)

same_is : (n e : ℕ) → n ≡ e → (n == e) ≡ true
same_is n e h = grind (arith, h)

pub upto_push : (history : List Commit) (c : Commit) (e : ℕ) → e < c.epoch → upto (history ++ c ∷ []) e ≡ upto history e
unfolding upto
upto_push [] c e h = take_while-cons (λ d. nat_le d.epoch e) c [] ∙ ap (λ b. cond b (c ∷ []) []) (above_not c.epoch e h)
upto_push (d ∷ history) c e h =
    take_while-cons (λ d. nat_le d.epoch e) d (history ++ c ∷ []) ∙ ap (λ ds. cond (nat_le d.epoch e) (d ∷ ds) []) (upto_push history c e h) ∙ sym (take_while-cons (λ d. nat_le d.epoch e) d history)

pub last_push : (e : ℕ) (history : List Commit) (c : Commit) → last_epoch e (history ++ c ∷ []) ≡ c.epoch
last_push e [] c = refl
last_push e (d ∷ history) c = last_push d.epoch history c

pub go_on_push : (e : ℕ) (history : List Commit) (c : Commit) → EpochsGoOn e history → (c.epoch ≡ last_epoch e history) ⊎ (c.epoch ≡ last_epoch e history + 1) → EpochsGoOn e (history ++ c ∷ [])
go_on_push e [] c on next = (next, tt)
go_on_push e (d ∷ history) c on next = (on.0, go_on_push d.epoch history c on.1 next)

pub follow_push : (e sealed : ℕ) (history : List Commit) (c : Commit) → EpochsFollow e history → IsSealedUpTo e history sealed → c.epoch ≡ sealed + 1 → EpochsFollow e (history ++ c ∷ [])
follow_push e sealed [] c follow is h = (h ∙ ap (λ n. n + 1) is, tt)
follow_push e sealed (d ∷ history) c follow is h =
    (follow.0, go_on_push d.epoch history c follow.1 (elim is as (λ _. (c.epoch ≡ last_epoch d.epoch history) ⊎ (c.epoch ≡ last_epoch d.epoch history + 1)) [ inl s ↦ inr (h ∙ ap (λ n. n + 1) (sym s)) | inr s ↦ inl (h ∙ sym s) ]))

pub sealed_push : (e sealed : ℕ) (history : List Commit) (c : Commit) → c.epoch ≡ sealed + 1 → IsSealedUpTo e (history ++ c ∷ []) sealed
sealed_push e sealed [] c h = inr h
sealed_push e sealed (d ∷ history) c h = inr (last_push d.epoch history c ∙ h)

pub last_most : (e sealed : ℕ) (history : List Commit) → IsSealedUpTo e history sealed → last_epoch e history ≤ sealed + 1
last_most e sealed [] is = omega (arith, is)
last_most e sealed (d ∷ history) is = elim is as (λ _. last_epoch d.epoch history ≤ sealed + 1) [ inl s ↦ omega (arith, s) | inr s ↦ omega (arith, s) ]

pub sealed_least : (e sealed : ℕ) (history : List Commit) → IsSealedUpTo e history sealed → sealed ≤ last_epoch e history
sealed_least e sealed [] is = omega (arith, is)
sealed_least e sealed (d ∷ history) is = elim is as (λ _. sealed ≤ last_epoch d.epoch history) [ inl s ↦ omega (arith, s) | inr s ↦ omega (arith, s) ]

pub open_push : (history : List Commit) (c : Commit) (n : ℕ) → c.epoch ≡ n → filter (λ d. d.epoch == n) (history ++ c ∷ []) ≡ filter (λ d. d.epoch == n) history ++ c ∷ []
open_push history c n h = filter-append (λ d. d.epoch == n) history (c ∷ []) ∙ ap (λ b. filter (λ d. d.epoch == n) history ++ cond b (c ∷ []) []) (same_is c.epoch n h)

pub rows_push : (history : List Commit) (c : Commit) → all_rows (history ++ c ∷ []) ≡ all_rows history ++ c.entry.rows
rows_push history c = flat_map-append (λ (d : Commit). d.entry.rows) history (c ∷ []) ∙ ap (λ rows. all_rows history ++ rows) (append-nil c.entry.rows)

pub rows_together : (a b : List Commit) → all_rows (a ++ b) ≡ all_rows a ++ all_rows b
rows_together a b = flat_map-append (λ (d : Commit). d.entry.rows) a b

-- behind the last epoch there is nothing
pub none_beyond : (e n : ℕ) (history : List Commit) → EpochsGoOn e history → last_epoch e history ≤ n → filter (λ d. d.epoch == n + 1) history ≡ []
none_beyond e n [] on most = refl
none_beyond e n (c ∷ cs) on most =
    let here : c.epoch < n + 1 = omega (arith, last_epoch-from c.epoch cs on.1, most) in
    ap (λ b. cond b (c ∷ filter (λ d. d.epoch == n + 1) cs) (filter (λ d. d.epoch == n + 1) cs)) (other_not c.epoch (n + 1) here) ∙ none_beyond c.epoch n cs on.1 most

pub none_behind : (e n : ℕ) (history : List Commit) → EpochsFollow e history → last_epoch e history ≤ n → filter (λ d. d.epoch == n + 1) history ≡ []
none_behind e n [] follow most = refl
none_behind e n (c ∷ cs) follow most = none_beyond e n (c ∷ cs) (inr follow.0, follow.1) most

-- with an entry in the open epoch, that is the history's last
pub last_open : (e sealed : ℕ) (history : List Commit) → EpochsFollow e history → IsSealedUpTo e history sealed → 1 ≤ length (filter (λ d. d.epoch == sealed + 1) history) → last_epoch e history ≡ sealed + 1
last_open e sealed [] follow is some = absurd (omega (arith, some))
last_open e sealed (c ∷ cs) follow is some =
    elim is as (λ _. last_epoch c.epoch cs ≡ sealed + 1) [
      | inl s ↦ absurd (omega (arith, some, ap length (none_behind e sealed (c ∷ cs) follow (omega (arith, s)))))
      | inr s ↦ s
    ]

-- from the open epoch on, all are in it
pub all_open : (n : ℕ) (history : List Commit) → EpochsGoOn n history → last_epoch n history ≤ n → filter (λ d. d.epoch == n) history ≡ history
all_open n [] on most = refl
all_open n (c ∷ cs) on most =
    let least = last_epoch-from c.epoch cs on.1 in
    let here : c.epoch ≡ n = elim on.0 as (λ _. c.epoch ≡ n) [ inl s ↦ s | inr s ↦ absurd (omega (arith, s, least, most)) ] in
    ap (λ b. cond b (c ∷ filter (λ d. d.epoch == n) cs) (filter (λ d. d.epoch == n) cs)) (same_is c.epoch n here)
    ∙ ap (λ cs'. c ∷ cs') (all_open n cs (subst (λ m. EpochsGoOn m cs) here on.1) (subst (λ m. last_epoch m cs ≤ n) here most))

-- a history is what is sealed, and what is open
pub split_at : (e s : ℕ) (history : List Commit) → EpochsGoOn e history → last_epoch e history ≤ s + 1 → upto history s ++ filter (λ d. d.epoch == s + 1) history ≡ history
unfolding upto
split_at e s [] on most = refl
split_at e s (c ∷ cs) on most = by (nat_le c.epoch s) refl (split_at c.epoch s cs on.1 most)
  where
    least : c.epoch ≤ last_epoch c.epoch cs
    least = last_epoch-from c.epoch cs on.1

    by : (b : Bool) → nat_le c.epoch s ≡ b → upto cs s ++ filter (λ d. d.epoch == s + 1) cs ≡ cs → upto (c ∷ cs) s ++ filter (λ d. d.epoch == s + 1) (c ∷ cs) ≡ c ∷ cs
    by true h rest =
        let low : c.epoch < s + 1 = grind (arith, h) in
        ap (λ ds. ds ++ filter (λ d. d.epoch == s + 1) (c ∷ cs)) (take_while-cons (λ d. nat_le d.epoch s) c cs ∙ ap (λ b. cond b (c ∷ upto cs s) []) h)
        ∙ ap (λ b. c ∷ upto cs s ++ cond b (c ∷ filter (λ d. d.epoch == s + 1) cs) (filter (λ d. d.epoch == s + 1) cs)) (other_not c.epoch (s + 1) low) ∙ ap (λ ds. c ∷ ds) rest
    by false h rest =
        let high : s < c.epoch = grind (arith, h) in
        let here : c.epoch ≡ s + 1 = omega (arith, high, least, most) in
        ap (λ ds. ds ++ filter (λ d. d.epoch == s + 1) (c ∷ cs)) (take_while-cons (λ d. nat_le d.epoch s) c cs ∙ ap (λ b. cond b (c ∷ upto cs s) []) h)
        ∙ ap (λ b. cond b (c ∷ filter (λ d. d.epoch == s + 1) cs) (filter (λ d. d.epoch == s + 1) cs)) (same_is c.epoch (s + 1) here)
        ∙ ap (λ ds. c ∷ ds) (all_open (s + 1) cs (subst (λ m. EpochsGoOn m cs) here on.1) (subst (λ m. last_epoch m cs ≤ s + 1) here most))

pub split_history : (e s : ℕ) (history : List Commit) → EpochsFollow e history → last_epoch e history ≤ s + 1 → upto history s ++ filter (λ d. d.epoch == s + 1) history ≡ history
unfolding upto
split_history e s [] follow most = refl
split_history e s (c ∷ cs) follow most = split_at e s (c ∷ cs) (inr follow.0, follow.1) most

-- versions that follow, from a place on
pub follow_split : (before a b : List Row) → VersionsFollow before (a ++ b) → VersionsFollow (before ++ a) b
follow_split before [] b follow = subst (λ rows. VersionsFollow rows b) (sym (append-nil before)) follow
follow_split before (row ∷ a) b follow = subst (λ rows. VersionsFollow rows b) (append_assoc before (row ∷ []) a) (follow_split (before ++ row ∷ []) a b follow.1)

pub sealed_by : (e n : ℕ) (history : List Commit) → last_epoch e history ≡ n → IsSealedUpTo e history n
sealed_by e n [] is = sym is
sealed_by e n (c ∷ cs) is = inl is

-- ---- what waits

waits_more : (n : ℕ) (c : Commit) (cs : List Commit) → 1 ≤ length (filter (λ b. b.epoch == n) cs) → 1 ≤ length (filter (λ b. b.epoch == n) (c ∷ cs))
waits_more n c cs h = elim (c.epoch == n) as (λ v. 1 ≤ length (cond v (c ∷ filter (λ b. b.epoch == n) cs) (filter (λ b. b.epoch == n) cs))) [ true ↦ omega arith | false ↦ h ]

waits : (n : ℕ) (c : Commit) (cs : List Commit) → last_epoch c.epoch cs ≡ n → 1 ≤ length (filter (λ b. b.epoch == n) (c ∷ cs))
waits n c [] is = rw (same_is c.epoch n is) (omega arith)
waits n c (d ∷ cs) is = waits_more n c (d ∷ cs) (waits n d cs is)

-- ---- all epochs

-- the epochs of a history are at most its last one
pub goes_on : (e : ℕ) (history : List Commit) → EpochsGoOn e history → (e ≤ last_epoch e history) × All (λ b. b.epoch ≤ last_epoch e history) history
goes_on e [] go = (omega arith, All-nil (λ b. b.epoch ≤ e))
goes_on e (c ∷ history) go = by go.0 (goes_on c.epoch history go.1)
  where
    by : (c.epoch ≡ e) ⊎ (c.epoch ≡ e + 1) → (c.epoch ≤ last_epoch c.epoch history) × All (λ b. b.epoch ≤ last_epoch c.epoch history) history
        → (e ≤ last_epoch c.epoch history) × All (λ b. b.epoch ≤ last_epoch c.epoch history) (c ∷ history)
    by (inl same) rest = let l = rest.0 in (omega (arith, same, l), All-cons (λ b. b.epoch ≤ last_epoch c.epoch history) c history rest.0 rest.1)
    by (inr next) rest = let l = rest.0 in (omega (arith, next, l), All-cons (λ b. b.epoch ≤ last_epoch c.epoch history) c history rest.0 rest.1)

pub all_epochs : (e : ℕ) (history : List Commit) → EpochsFollow e history → All (λ b. b.epoch ≤ last_epoch e history) history
all_epochs e [] follow = All-nil (λ b. b.epoch ≤ e)
all_epochs e (c ∷ history) follow = let g = goes_on c.epoch history follow.1 in All-cons (λ b. b.epoch ≤ last_epoch c.epoch history) c history g.0 g.1

-- none is above the open one
pub epochs_below : (e : ℕ) (history : List Commit) (sealed : ℕ) → EpochsFollow e history → IsSealedUpTo e history sealed → All (λ b. b.epoch ≤ sealed + 1) history
epochs_below e history sealed follow up_to =
    let l = last_most e sealed history up_to in
    All-weaker (λ b. b.epoch ≤ last_epoch e history) (λ b. b.epoch ≤ sealed + 1) (λ b h. omega (arith, h, l)) history (all_epochs e history follow)

pub waiting_push : (history : List Commit) (c : Commit) (n : ℕ) → c.epoch ≡ n → count_by (λ (d : Commit). d.epoch == n) (history ++ c ∷ []) ≡ count_by (λ (d : Commit). d.epoch == n) history + 1
waiting_push history c n h = sum_by_push (λ (d : Commit). cond (d.epoch == n) 1 0) history c ∙ ap (λ b. count_by (λ (d : Commit). d.epoch == n) history + cond b 1 0) (same_is c.epoch n h)

-- where no entry waits, all of a history is sealed
pub all_sealed : (e : ℕ) (history : List Commit) (sealed : ℕ) → IsSealedUpTo e history sealed → 0 ≡ length (filter (λ c. c.epoch == sealed + 1) history) → sealed ≡ last_epoch e history
all_sealed e [] sealed is none = is
all_sealed e (c ∷ cs) sealed (inl is) none = sym is
all_sealed e (c ∷ cs) sealed (inr is) none = let w = waits (sealed + 1) c cs is in absurd (omega (arith, w, none))

-- ---- sealing, by how many commits wait

-- of no epoch above all there are commits
none_above : (n : ℕ) (history : List Commit) → All (λ c. c.epoch ≤ n) history → count_by (λ (c : Commit). c.epoch == n + 1) history ≡ 0
none_above n [] all = refl
none_above n (c ∷ history) all =
    let h = All-head (λ (c : Commit). c.epoch ≤ n) c history all in
    let s = sum_by-cons (λ (d : Commit). cond (d.epoch == n + 1) 1 0) c history in
    let e = ap {B = ℕ} (λ b. cond b 1 0) (ne_eqb c.epoch (n + 1) (λ is. omega (arith, h, is))) in
    let t = none_above n history (All-tail (λ (c : Commit). c.epoch ≤ n) c history all) in
    omega (arith, s, e, t)

-- and of the last epoch there is one
some_last : (n : ℕ) (c : Commit) (history : List Commit) → last_epoch c.epoch history ≡ n → 1 ≤ count_by (λ (d : Commit). d.epoch == n) (c ∷ history)
some_last n c [] is = let s = sum_by-cons (λ (d : Commit). cond (d.epoch == n) 1 0) c [] in let e = ap {B = ℕ} (λ b. cond b 1 0) (same_is c.epoch n is) in omega (arith, s, e)
some_last n c (d ∷ history) is = let s = sum_by-cons (λ (d : Commit). cond (d.epoch == n) 1 0) c (d ∷ history) in let t = some_last n d history is in omega (arith, s, t)

-- where none waits, all is sealed
pub all_upto : AllUpTo
all_upto e history sealed follow up_to none = upto-last e sealed history follow (last history up_to none)
  where
    last : (history : List Commit) → IsSealedUpTo e history sealed → 0 ≡ count_by (λ (c : Commit). c.epoch == sealed + 1) history → last_epoch e history ≤ sealed
    last [] is none = omega (arith, is)
    last (c ∷ history) (inl is) none = omega (arith, is)
    last (c ∷ history) (inr is) none = let some = some_last (sealed + 1) c history is in absurd (omega (arith, some, none))

-- the open epoch is sealed, in which some entry waits
pub seals : SealsOn
seals e [] sealed follow is some = absurd (omega (arith, some))
seals e (c ∷ history) sealed follow (inr is) some = inl is
seals e (c ∷ history) sealed follow (inl is) some =
    let none = none_above sealed (c ∷ history) (All-weaker (λ (b : Commit). b.epoch ≤ last_epoch e (c ∷ history)) (λ (b : Commit). b.epoch ≤ sealed) (λ b h. omega (arith, h, is)) (c ∷ history) (all_epochs e (c ∷ history) follow)) in
    absurd (omega (arith, some, none))

pub none_wait : NoneWaits
none_wait e history sealed follow up_to = sym (none_above (sealed + 1) history (epochs_below e history sealed follow up_to))

-- what stands as a history is legal
pub legal_of : (first : List Row) (history : List Commit) → (history ≡ []) ⊎ (IsSound first × IsLegal first history) → IsLegal first history
legal_of first history (inl none) = subst (IsLegal first) (sym none) (record { each = λ k c is. absurd cc })
legal_of first history (inr both) = both.1

-- what is sealed is not below the entry's epoch
pub sealed_from : (e sealed : ℕ) (history : List Commit) → EpochsFollow e history → IsSealedUpTo e history sealed → e ≤ sealed
sealed_from e sealed [] follow is = omega (arith, is)
sealed_from e sealed (c ∷ cs) follow is =
    let least = last_epoch-from c.epoch cs follow.1 in
    let here = follow.0 in
    elim is as (λ _. e ≤ sealed) [ inl s ↦ omega (arith, least, here, s) | inr s ↦ omega (arith, least, here, s) ]

-- ---- laws

pub follows_on : FollowsOn
follows_on e sealed history c follow is next = (follow_push e sealed history c follow is next, sealed_push e sealed history c next)

pub below_law : EpochsBelow
below_law = epochs_below

pub split_law : SplitLaw
split_law e sealed history follow is = split_history e sealed history follow (last_most e sealed history is)
