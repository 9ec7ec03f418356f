-- All was done for one part more.
use Rattle.std.proofs.Common.{◌≡◌, inl, inr, ⊎_elim, ℕ, zero, suc, ◌+◌, ◌<◌, ◌≤◌, List, [], ◌∷◌, ◌++◌, length, map, Some, refl, sym, ap, subst, ◌∙◌, arith, append-nil}
use Rattle.std.specs.Prelude.{slice_get, sum_by, take}
use Rattle.std.proofs.lemmas.List.Sums.{sum_by_more}
use Rattle.std.proofs.lemmas.Option.{same_Some}
use mathlib.Core.Option.{some, some-injective, some-ne-none}
use lib.ListN.{get_elem?}
use Rattle.fine_model.specs.declared.ScriptTxn.{ScriptTxn}
use Rattle.fine_places.specs.declared.model.Placed.{Placed}
use Rattle.fine_places.proofs.Elements.{read_at}
use Rattle.node_cache.specs.Cache.{Cache}
use Rattle.partition_hold.specs.Views.{ViewValue}
use Rattle.epoch_room.specs.Value.{RoomValue}
use Rattle.fine_hall.specs.declared.law.Beginning.{Beginning}
use Rattle.fine_hall.specs.declared.turn.Turn.{Turn}
use Rattle.fine_hall.specs.Halls.{HallOf}
use Rattle.fine_hall.specs.Passes.{turns}
use Rattle.fine_hall.specs.Turns.{commits}
use Rattle.hall_rooms.specs.Making.{Renews}
use Rattle.hall_rooms.specs.Rooms.{IsIdle, RoomPass, beginning_of}
use Rattle.lane_laws.specs.Lanes.{HasMet, LaneRuns, LaneValue, SawShut}
use Rattle.lane_laws.specs.Quiet.{OpenOf, QuietOf}
use Rattle.lane_laws.proofs.Quiet.{open_stays, quiet_stays}
use Rattle.lane_runs.proofs.Seeking.{shut_then}
use Rattle.lane_runs.proofs.Stays.{runs_stay}
use Rattle.lane_threads.specs.Resting.{IsCallers}

-- ---- lists

pub there : {A : Type 0} (l : List A) (k : ℕ) → k < length l → (a : A) × (get_elem? l k ≡ some a)
there [] k low = absurd (omega (arith, low))
there (x ∷ l) zero low = (x, refl)
there (x ∷ l) (suc k) low = there l k (omega (arith, low))

pub same_some : {A : Type 0} (l : List A) (k : ℕ) (a b : A) → get_elem? l k ≡ some a → get_elem? l k ≡ some b → a ≡ b
same_some l k a b is_a is_b = some-injective a b (sym is_a ∙ is_b)

pub as_slice : {A : Type 0} (l : List A) (k : ℕ) (a : A) → get_elem? l k ≡ some a → slice_get l k ≡ Some a
as_slice [] k a is = absurd (some-ne-none a (sym is))
as_slice (x ∷ l) zero a is = ap Some (some-injective x a is)
as_slice (x ∷ l) (suc k) a is = as_slice l k a is

pub same_mapped : {A B : Type 0} (f : A → B) (l l' : List A) → length l' ≡ length l → ((k : ℕ) (a b : A) → slice_get l k ≡ Some a → slice_get l' k ≡ Some b → f b ≡ f a) → map f l' ≡ map f l
same_mapped f [] [] long same = refl
same_mapped f [] (b ∷ l') long same = absurd (omega (arith, long))
same_mapped f (a ∷ l) [] long same = absurd (omega (arith, long))
same_mapped f (a ∷ l) (b ∷ l') long same = let first = same 0 a b refl refl in let rest = same_mapped f l l' (omega (arith, long)) (λ k x y at_x at_y. same (suc k) x y at_x at_y) in λ i. first i ∷ rest i

-- the first items are the same
pub same_front : {A : Type 0} (n : ℕ) (l l' : List A) → n ≤ length l → length l' ≡ length l → ((k : ℕ) → k < n → slice_get l' k ≡ slice_get l k) → take n l' ≡ take n l
same_front zero l l' low long same = refl
same_front (suc n) [] l' low long same = absurd (omega (arith, low))
same_front (suc n) (a ∷ l) [] low long same = absurd (omega (arith, long))
same_front (suc n) (a ∷ l) (b ∷ l') low long same =
    let first : b ≡ a = same_Some b a (same 0 (omega arith)) in
    let rest = same_front n l l' (omega (arith, low)) (omega (arith, long)) (λ k lt. same (suc k) (omega (arith, lt))) in
    λ i. first i ∷ rest i

-- the sum goes on by the next one
pub sum_next : (f : RoomPass → ℕ) (l : List RoomPass) (n : ℕ) (p : RoomPass) → get_elem? l n ≡ some p → sum_by f (take (n + 1) l) ≡ sum_by f (take n l) + f p
sum_next f l n p at = let r = read_at l n p p at in sum_by_more f l n p r.0 ∙ ap (λ (q : RoomPass). sum_by f (take n l) + f q) r.1

-- so many of what they are counted for
pub same_sum : (f : RoomPass → ℕ) (n : ℕ) (l l' : List RoomPass) → n ≤ length l → length l' ≡ length l → ((k : ℕ) (p q : RoomPass) → k < n → get_elem? l k ≡ some p → get_elem? l' k ≡ some q → f q ≡ f p) → sum_by f (take n l') ≡ sum_by f (take n l)
same_sum f zero l l' low long same = refl
same_sum f (suc n) l l' low long same =
    let rest = same_sum f n l l' (omega (arith, low)) long (λ k p q lt. same k p q (omega (arith, lt))) in
    let p = there l n (omega (arith, low)) in
    let q = there l' n (omega (arith, low, long)) in
    let one = same n p.0 q.0 (omega arith) p.1 q.1 in
    let sum : sum_by f (take (suc n) l) ≡ sum_by f (take n l) + f p.0 = ap (λ k. sum_by f (take k l)) (next n) ∙ sum_next f l n p.0 p.1 in
    let sum' : sum_by f (take (suc n) l') ≡ sum_by f (take n l') + f q.0 = ap (λ k. sum_by f (take k l')) (next n) ∙ sum_next f l' n q.0 q.1 in
    omega (arith, rest, one, sum, sum')
  where
    next : (n : ℕ) → suc n ≡ n + 1
    next n = omega arith

-- ---- a pass that looked at its mailbox

module _ (x : Beginning) (p p' : RoomPass) (r : Renews x p p') where
  pub opened_then : OpenOf p.number x.room (turns p) → OpenOf p'.number x.room (turns p')
  opened_then open_p = subst (λ n. OpenOf n x.room (turns p')) (sym r.number) (subst (λ (l : List (Placed Turn)). OpenOf p.number x.room l) (sym r.sees.longer.1) (open_stays p.number x.room (turns p) r.sees.longer.0 r.sees.longer.2 open_p))

  quiet_then : QuietOf p.number x.room (turns p) → QuietOf p'.number x.room (turns p')
  quiet_then quiet = subst (λ n. QuietOf n x.room (turns p')) (sym r.number) (subst (λ (l : List (Placed Turn)). QuietOf p.number x.room l) (sym r.sees.longer.1) (quiet_stays p.number x.room (turns p) r.sees.longer.0 r.sees.longer.2 quiet))

  pub shut_too : SawShut p → SawShut p'
  shut_too shut = shut_then p p' (r.sees.longer.0, r.sees.longer.1) shut

  pub callers_then : IsCallers x p → IsCallers x p'
  callers_then c = record {
    none_mine = ap commits r.sees.same_own ∙ c.none_mine;
    quiet = quiet_then c.quiet;
    opened = opened_then c.opened;
    clean = r.meets ∙ c.clean;
  }

  pub met_then : (w : LaneValue) → HasMet x p w → HasMet x p' w
  met_then w m = record {
    clean = ⊎_elim (λ c. inl (r.meets ∙ c)) (λ e. inr e) m.clean;
    opened = ⊎_elim (λ c. inl (opened_then c)) (λ e. inr e) m.opened;
    failed = λ e. ⊎_elim (λ some. inl (let s = r.meets in omega (arith, s, some))) (λ shut. inr (shut_too shut)) (m.failed e);
    unsound = m.unsound;
    one = m.one;
  }

  module _ {Q : Type 0} (hall : HallOf RoomValue Cache ViewValue Q) (is : x ≡ beginning_of hall) (idle : IsIdle hall p) (idle' : IsIdle hall p') (script : List ScriptTxn) (group : ℕ) (some_group : 1 ≤ group) where
    pub runs_then : (first more : List (Placed Turn)) (w : LaneValue) → LaneRuns (beginning_of hall) first script group p w → LaneRuns (beginning_of hall) (first ++ more) script group p' w
    runs_then first more w l = runs_stay (beginning_of hall) first more script group p p' w some_group r.number idle.0.own r.sees idle.0.lawful idle'.0.lawful l

-- looking changes nothing where nothing was looked at
pub renews_itself : (x : Beginning) (p : RoomPass) → Renews x p p
renews_itself x p = record {
  number = refl;
  marked = ([], refl);
  sees = record { longer = ([], sym (append-nil (turns p)), refl); same_own = refl; kept = λ j low holds. refl; whole = λ holds. refl; no_earlier = omega arith };
  same_held = refl;
  meets = refl;
}
