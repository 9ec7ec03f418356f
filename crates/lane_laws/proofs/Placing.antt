-- The commits of a seat with their places.
use Rattle.std.proofs.Common.{◌≡◌, ◌⊎◌, inl, inr, ℕ, zero, suc, ◌+◌, ◌<◌, ◌≤◌, ◌==◌, Bool, true, false, cond, List, [], ◌∷◌, ◌++◌, length, map, Option, Some, None, refl, sym, ap, subst, ◌∙◌, ⊎_elim, arith, length-append, append-nil}
use Rattle.std.specs.Prelude.{Contains, slice_get}
use Rattle.std.proofs.lemmas.Bool.Decides.{eqb_tells}
use Rattle.std.proofs.lemmas.List.Elements.{Contains-append_left, Contains-append_right}
use Rattle.std.proofs.lemmas.Option.{get_or_from_slice_get, none-some, same_Some, slice_get_within}
use Rattle.fine_model.specs.declared.Entry.{Entry}
use Rattle.fine_model.specs.History.{Commit}
use Rattle.fine_places.specs.declared.model.Placed.{Placed}
use Rattle.fine_places.specs.History.{by_seat}
use Rattle.fine_hall.specs.declared.turn.Turn.{Turn}
use Rattle.fine_hall.specs.Turns.{added, commits, committed}
use Rattle.lane_laws.specs.Placing.{PlacedAt, PlacedByOthers, PlacedCommits, PlacedOn, PlacedOnly, PlacedRise, PlacedStays, placed_by, placed_if}

not_empty : (u : Placed Turn) (l : List (Placed Turn)) → u ∷ l ≡ [] → ⊥
not_empty u l e = let n = ap length e in absurd (omega arith)

assoc : {A : Type 0} (a b c : List A) → (a ++ b) ++ c ≡ a ++ (b ++ c)
assoc [] b c = refl
assoc (x ∷ a) b c = ap (λ l. x ∷ l) (assoc a b c)

after_first : (before : ℕ) (t : Placed Turn) (turns : List (Placed Turn)) → (before + length (added t.item.entry t.item.epoch)) + length (commits turns) ≡ before + length (commits (t ∷ turns))
unfolding commits
after_first before t turns = let n = length-append (added t.item.entry t.item.epoch) (commits turns) in omega arith

at_none : (seat before : ℕ) (more : List (Placed Turn)) → placed_by seat before more ≡ placed_by seat (before + length (commits [])) more
unfolding commits
at_none seat before more = let e : before ≡ before + 0 = omega arith in ap (λ n. placed_by seat n more) e

pub placed_on : PlacedOn
placed_on seat before [] more = at_none seat before more
placed_on seat before (t ∷ turns) more =
    let here = added t.item.entry t.item.epoch in
    let own = placed_if (t.seat == seat) before here in
    ap (λ l. own ++ l) (placed_on seat (before + length here) turns more)
    ∙ (sym (assoc own (placed_by seat (before + length here) turns) (placed_by seat ((before + length here) + length (commits turns)) more))
    ∙ ap (λ n. (own ++ placed_by seat (before + length here) turns) ++ placed_by seat n more) (after_first before t turns))

pub placed_others : PlacedByOthers
placed_others seat before [] none = refl
placed_others seat before (u ∷ turns) none = ⊎_elim
    (λ is. absurd (not_empty u (by_seat seat turns) (ap (λ b. cond b (u ∷ by_seat seat turns) (by_seat seat turns)) (sym is.0) ∙ none)))
    (λ is.
    let here = added u.item.entry u.item.epoch in
    let rest = placed_others seat (before + length here) turns (ap (λ b. cond b (u ∷ by_seat seat turns) (by_seat seat turns)) (sym is.0) ∙ none) in
    ap (λ b. placed_if b before here ++ placed_by seat (before + length here) turns) is.0 ∙ rest)
    (eqb_tells u.seat seat)

pub placed_stays : PlacedStays
placed_stays seat turns more none =
    placed_on seat 0 turns more ∙ (ap (λ l. placed_by seat 0 turns ++ l) (placed_others seat (0 + length (commits turns)) more none) ∙ append-nil (placed_by seat 0 turns))

-- ---- members of lists

none_in : {A : Type 0} (x : A) → Contains [] x → ⊥
none_in x h = let lt = h.1 in omega (arith, lt)

pub first_or : {A : Type 0} (y x : A) (ys : List A) → Contains (y ∷ ys) x → (y ≡ x) ⊎ Contains ys x
first_or y x ys (zero, lt, is) = inl is
first_or y x ys (suc k, lt, is) = inr (k, omega (arith, lt), is)

pub contained : {A : Type 0} (xs : List A) (k : ℕ) (x : A) → slice_get xs k ≡ Some x → Contains xs x
contained xs k x is = (k, slice_get_within xs k x is, get_or_from_slice_get xs k x x is)

-- ---- each stands at its place

record Stands (n place : ℕ) (c : Commit) (history : List Commit) : Type 0 where
  before : ℕ
  place_is : place ≡ (n + before) + 1
  there : slice_get history before ≡ Some c

stand_turn : (own : Bool) (n epoch place : ℕ) (o : Option Entry) (c : Commit) (rest : List (ℕ × Commit)) (history : List Commit) → Contains (placed_if own n (added o epoch) ++ rest) (place, c)
    → (Contains rest (place, c) → Stands (n + length (added o epoch)) place c history) → Stands n place c (added o epoch ++ history)
stand_turn true n epoch place None c rest history at later = let s = later at in record { before = s.before; place_is = let p = s.place_is in omega (arith, p); there = s.there }
stand_turn false n epoch place None c rest history at later = let s = later at in record { before = s.before; place_is = let p = s.place_is in omega (arith, p); there = s.there }
stand_turn false n epoch place (Some e) c rest history at later = let s = later at in record { before = suc s.before; place_is = let p = s.place_is in omega (arith, p); there = s.there }
stand_turn true n epoch place (Some e) c rest history at later = ⊎_elim
    (λ same. let p = ap (λ (q : ℕ × Commit). q.0) same in record { before = 0; place_is = omega (arith, p); there = ap (λ (q : ℕ × Commit). Some q.1) same })
    (λ more. let s = later more in record { before = suc s.before; place_is = let p = s.place_is in omega (arith, p); there = s.there })
    (first_or (n + 1, committed e epoch) (place, c) rest at)

stand : (seat n place : ℕ) (c : Commit) (turns : List (Placed Turn)) → Contains (placed_by seat n turns) (place, c) → Stands n place c (commits turns)
unfolding commits
stand seat n place c [] at = absurd (none_in (place, c) at)
stand seat n place c (t ∷ turns) at =
    let here = added t.item.entry t.item.epoch in
    stand_turn (t.seat == seat) n t.item.epoch place t.item.entry c (placed_by seat (n + length here) turns) (commits turns) at (λ more. stand seat (n + length here) place c turns more)

pub placed_at : PlacedAt
placed_at seat place c turns at = let s = stand seat 0 place c turns at in (s.before, (let p = s.place_is in omega (arith, p)), s.there)

-- ---- each place is that of some seat's commit

record IsPlaced (n k : ℕ) (c : Commit) (turns : List (Placed Turn)) : Type 0 where
  t : Placed Turn
  within : Contains turns t
  at : Contains (placed_by t.seat n turns) ((n + k) + 1, c)

first_commit : (epoch k : ℕ) (o : Option Entry) (c : Commit) (history : List Commit) → slice_get (added o epoch ++ history) k ≡ Some c
    → ((e : Entry) × (o ≡ Some e) × (k ≡ 0) × (committed e epoch ≡ c)) ⊎ ((m : ℕ) × (length (added o epoch) + m ≡ k) × (slice_get history m ≡ Some c))
first_commit epoch k None c history is = inr (k, omega arith, is)
first_commit epoch zero (Some e) c history is = inl (e, refl, refl, same_Some (committed e epoch) c is)
first_commit epoch (suc k) (Some e) c history is = inr (k, omega arith, is)

is_placed : (n k : ℕ) (c : Commit) (turns : List (Placed Turn)) → slice_get (commits turns) k ≡ Some c → IsPlaced n k c turns
unfolding commits
is_placed n k c [] is = absurd (none-some c is)
is_placed n k c (u ∷ turns) is =
    let here = added u.item.entry u.item.epoch in
    let x : ℕ × Commit = ((n + k) + 1, c) in
    ⊎_elim
    (λ f.
    let of_turn : Contains (placed_if true n (added (Some f.0) u.item.epoch)) x =
    (let zero_is = f.2 in let place : n + 1 ≡ (n + k) + 1 = omega (arith, zero_is) in let commit = f.3 in (0, omega arith, λ i. (place i, commit i))) in
    record {
      t = u;
      within = (0, omega arith, refl);
      at = Contains-append_left (placed_if (u.seat == u.seat) n here) (placed_by u.seat (n + length here) turns) x
          (subst (λ b. Contains (placed_if b n here) x) (sym (is_itself u.seat)) (subst (λ (o : Option Entry). Contains (placed_if true n (added o u.item.epoch)) x) (sym f.1) of_turn));
    })
    (λ later.
    let p = is_placed (n + length here) later.0 c turns later.2 in
    let w = p.within in
    let len = later.1 in
    let place : ((n + length here) + later.0) + 1 ≡ (n + k) + 1 = omega (arith, len) in
    record {
      t = p.t;
      within = (suc w.0, (let lt = w.1 in omega (arith, lt)), w.2);
      at = subst (λ m. Contains (placed_by p.t.seat n (u ∷ turns)) (m, c)) place
          (Contains-append_right (placed_if (u.seat == p.t.seat) n here) (placed_by p.t.seat (n + length here) turns) (((n + length here) + later.0) + 1, c) p.at);
    })
    (first_commit u.item.epoch k u.item.entry c (commits turns) is)
  where
    is_itself : (m : ℕ) → (m == m) ≡ true
    is_itself m = grind arith

pub placed_only : PlacedOnly
placed_only place c turns is = let p = is_placed 0 place c turns is in let e : (0 + place) + 1 ≡ place + 1 = omega arith in (p.t, p.within, subst (λ m. Contains (placed_by p.t.seat 0 turns) (m, c)) e p.at)

-- ---- places rise

rise_turn : (own : Bool) (n epoch : ℕ) (o : Option Entry) (rest : List (ℕ × Commit)) (i j a b : ℕ) (c d : Commit) → i < j → slice_get (placed_if own n (added o epoch) ++ rest) i ≡ Some (a, c)
    → slice_get (placed_if own n (added o epoch) ++ rest) j ≡ Some (b, d) → ((k : ℕ) → slice_get rest k ≡ Some (b, d) → (n + length (added o epoch)) + 1 ≤ b)
    → ((k l : ℕ) → k < l → slice_get rest k ≡ Some (a, c) → slice_get rest l ≡ Some (b, d) → a < b) → a < b
rise_turn false n epoch o rest i j a b c d before is_a is_b low later = later i j before is_a is_b
rise_turn true n epoch None rest i j a b c d before is_a is_b low later = later i j before is_a is_b
rise_turn true n epoch (Some e) rest i zero a b c d before is_a is_b low later = absurd (omega (arith, before))
rise_turn true n epoch (Some e) rest zero (suc j) a b c d before is_a is_b low later =
    let same = ap (λ (q : ℕ × Commit). q.0) (same_Some {A = ℕ × Commit} (n + 1, committed e epoch) (a, c) is_a) in let above = low j is_b in omega (arith, same, above)
rise_turn true n epoch (Some e) rest (suc i) (suc j) a b c d before is_a is_b low later = later i j (omega (arith, before)) is_a is_b

rise : (seat n i j a b : ℕ) (c d : Commit) (turns : List (Placed Turn)) → i < j → slice_get (placed_by seat n turns) i ≡ Some (a, c) → slice_get (placed_by seat n turns) j ≡ Some (b, d) → a < b
rise seat n i j a b c d [] before is_a is_b = absurd (none-some {A = ℕ × Commit} (a, c) is_a)
rise seat n i j a b c d (t ∷ turns) before is_a is_b =
    let here = added t.item.entry t.item.epoch in
    let rest = placed_by seat (n + length here) turns in
    rise_turn (t.seat == seat) n t.item.epoch t.item.entry rest i j a b c d before is_a is_b
    (λ k at. let s = stand seat (n + length here) b d turns (contained {A = ℕ × Commit} rest k (b, d) at) in let p = s.place_is in omega (arith, p))
    (λ k l lt. rise seat (n + length here) k l a b c d turns lt)

pub placed_rise : PlacedRise
placed_rise seat i j a b c d turns = rise seat 0 i j a b c d turns

-- ---- without their places

without : (n : ℕ) (more : List Commit) (rest : List (ℕ × Commit)) → map (λ (e : ℕ × Commit). e.1) (map (λ (c : Commit). (n, c)) more ++ rest) ≡ more ++ map (λ (e : ℕ × Commit). e.1) rest
without n [] rest = refl
without n (c ∷ more) rest = ap (λ l. c ∷ l) (without n more rest)

without_turn : (own : Bool) (n : ℕ) (u : Placed Turn) (rest : List (ℕ × Commit)) (turns : List (Placed Turn)) → map (λ (e : ℕ × Commit). e.1) rest ≡ commits turns
    → map (λ (e : ℕ × Commit). e.1) (placed_if own n (added u.item.entry u.item.epoch) ++ rest) ≡ commits (cond own (u ∷ turns) turns)
unfolding commits
without_turn true n u rest turns same = without (n + 1) (added u.item.entry u.item.epoch) rest ∙ ap (λ l. added u.item.entry u.item.epoch ++ l) same
without_turn false n u rest turns same = same

pub placed_commits : PlacedCommits
unfolding commits
placed_commits seat before [] = refl
placed_commits seat before (u ∷ turns) =
    let more = before + length (added u.item.entry u.item.epoch) in without_turn (u.seat == seat) before u (placed_by seat more turns) (by_seat seat turns) (placed_commits seat more turns)
