-- Turns, one after another.
use Rattle.std.proofs.Common.{◌≡◌, ◌⊎◌, ℕ, ◌+◌, ◌==◌, Bool, true, false, cond, List, [], ◌∷◌, ◌++◌, length, Option, Some, None, refl, sym, ap, ◌∙◌, inl, inr, ⊎_elim, arith, eq-eqb, true≢false, append-nil, length-append}
use Rattle.std.proofs.lemmas.List.Elements.{filter-append}
use Rattle.std.proofs.lemmas.Grind.{flat_map-append}
use Rattle.fine_model.specs.declared.Entry.{Entry}
use Rattle.fine_model.specs.declared.law.RoomState.{RoomState}
use Rattle.fine_model.specs.Jobs.{KeepsJob}
use Rattle.fine_model.proofs.Histories.Goings.{job_itself, job_on}
use Rattle.fine_places.specs.declared.model.Placed.{Placed}
use Rattle.fine_places.specs.History.{by_seat}
use Rattle.fine_hall.specs.declared.turn.Turn.{Turn}
use Rattle.fine_hall.specs.Turns.{added, commits, room_after, places_more, IsTurnFrom, RoomsGoOn}

pub after_last : (before : RoomState) (a : List (Placed Turn)) (t : Placed Turn) → room_after before (a ++ t ∷ []) ≡ t.item.room
after_last before [] t = refl
after_last before (u ∷ a) t = after_last u.item.room a t

pub rooms_more : (before : RoomState) (a : List (Placed Turn)) (t : Placed Turn) → RoomsGoOn before a → IsTurnFrom (room_after before a) t → RoomsGoOn before (a ++ t ∷ [])
rooms_more before [] t r from = (from, tt)
rooms_more before (u ∷ a) t r from = (r.0, rooms_more u.item.room a t r.1 from)

pub commits_one : (all : List (Placed Turn)) (t : Placed Turn) → commits (all ++ t ∷ []) ≡ commits all ++ added t.item.entry t.item.epoch
unfolding commits
commits_one all t = flat_map-append (λ (t : Placed Turn). added t.item.entry t.item.epoch) all (t ∷ []) ∙ ap (λ l. commits all ++ l) (append-nil (added t.item.entry t.item.epoch))

-- the number of places after a turn
pub places_after : (n : ℕ) (o : Option Entry) (epoch : ℕ) → places_more n o ≡ n + length (added o epoch)
places_after n None epoch = omega arith
places_after n (Some entry) epoch = refl

not_empty : (u : Placed Turn) (l : List (Placed Turn)) → u ∷ l ≡ [] → ⊥
not_empty u l e = let n = ap length e in absurd (omega arith)

bool_cases : (b : Bool) → (b ≡ true) ⊎ (b ≡ false)
bool_cases true = inl refl
bool_cases false = inr refl

pub nothing_more : {A : Type 0} (a b : List A) → a ≡ a ++ b → b ≡ []
nothing_more a [] e = refl
nothing_more a (x ∷ b) e = let n = ap length e ∙ length-append a (x ∷ b) in absurd (omega arith)

-- turns behind those that a seat saw are of others, where its own are the same
pub none_own : (seat : ℕ) (a more all own : List (Placed Turn)) → all ≡ a ++ more → own ≡ by_seat seat a → own ≡ by_seat seat all → by_seat seat more ≡ []
none_own seat a more all own is here there = nothing_more (by_seat seat a) (by_seat seat more) (sym here ∙ there ∙ (ap (by_seat seat) is ∙ filter-append (λ t. t.seat == seat) a more))

-- turns of others leave the job of seat 1
pub keeps_job : (before : RoomState) (a more : List (Placed Turn)) → RoomsGoOn before (a ++ more) → by_seat 1 more ≡ [] → KeepsJob (room_after before a) (room_after before (a ++ more))
keeps_job before [] [] r none = job_itself before
keeps_job before [] (u ∷ more) r none = ⊎_elim
    (λ is. absurd (not_empty u (by_seat 1 more) (ap (λ b. cond b (u ∷ by_seat 1 more) (by_seat 1 more)) (sym is) ∙ none)))
    (λ is. job_on before u.item.room (room_after u.item.room more) (r.0.job (λ e. absurd (true≢false (sym (eq-eqb u.seat 1 e) ∙ is)))) (keeps_job u.item.room [] more r.1 (ap (λ b. cond b (u ∷ by_seat 1 more) (by_seat 1 more)) (sym is) ∙ none)))
    (bool_cases (u.seat == 1))
keeps_job before (t ∷ a) more r none = keeps_job t.item.room a more r.1 none
