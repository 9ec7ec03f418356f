-- What epochs were sealed for, step by step.
use Rattle.std.proofs.Common.{◌≡◌, ◌⊎◌, inl, inr, ⊎_elim, ℕ, ◌+◌, ◌<◌, ◌≤◌, ◌==◌, Bool, true, false, cond, List, [], ◌∷◌, ◌++◌, Option, Some, None, refl, sym, ap, subst, ◌∙◌, arith, true≢false}
use Rattle.std.specs.Prelude.{count_by, find}
use Rattle.std.specs.Option.{option_or}
use Rattle.std.proofs.lemmas.List.Folds.{find-append}
use Rattle.std.proofs.lemmas.List.Sums.{sum_by-cons, sum_by_push}
use Rattle.fine_model.specs.Causes.{used_in}
use Rattle.fine_model.specs.History.{Commit}
use Rattle.fine_model.specs.Merge.{cost}
use Rattle.epoch_room.specs.Steps.{appended}
use Rattle.epoch_room.specs.Value.{RoomValue}
use Rattle.run_laws.specs.Going.{NeedCommits, NeedEnds, NeedSealed, NeedStays, NeedStill}
use Rattle.run_laws.specs.Needs.{AreSealedInNeed, HadNeed}

-- ---- counting

-- where none is of an epoch, its rows take no bytes
used_none : (e : ℕ) (history : List Commit) → count_by (λ c. c.epoch == e) history ≡ 0 → used_in e history ≡ 0
used_none e [] none = refl
used_none e (c ∷ history) none = by (c.epoch == e) refl (used_none e history)
  where
    counted : count_by (λ (d : Commit). d.epoch == e) (c ∷ history) ≡ cond (c.epoch == e) 1 0 + count_by (λ (d : Commit). d.epoch == e) history
    counted = sum_by-cons (λ (d : Commit). cond (d.epoch == e) 1 0) c history

    summed : used_in e (c ∷ history) ≡ cond (c.epoch == e) (cost c.entry.rows) 0 + used_in e history
    summed = sum_by-cons (λ (d : Commit). cond (d.epoch == e) (cost d.entry.rows) 0) c history

    by : (b : Bool) → (c.epoch == e) ≡ b → (count_by (λ (d : Commit). d.epoch == e) history ≡ 0 → used_in e history ≡ 0) → used_in e (c ∷ history) ≡ 0
    by true is rest = let one : ◌≡◌ {A = ℕ} (cond (c.epoch == e) 1 0) 1 = ap {B = ℕ} (λ b. cond b 1 0) is in let n = counted in absurd (omega (arith, none, n, one))
    by false is rest =
        let no : ◌≡◌ {A = ℕ} (cond (c.epoch == e) 1 0) 0 = ap {B = ℕ} (λ b. cond b 1 0) is in
        let nothing : ◌≡◌ {A = ℕ} (cond (c.epoch == e) (cost c.entry.rows) 0) 0 = ap {B = ℕ} (λ b. cond b (cost c.entry.rows) 0) is in
        let n = counted in
        let s = summed in
        let left : count_by (λ (d : Commit). d.epoch == e) history ≡ 0 = omega (arith, none, n, no) in
        let zero_left = rest left in
        omega (arith, s, nothing, zero_left)

-- where the first one is not found, none is there
none_found : (e : ℕ) (history : List Commit) → find (λ (c : Commit). c.epoch == e) history ≡ None → count_by (λ (c : Commit). c.epoch == e) history ≡ 0
none_found e [] none = refl
none_found e (c ∷ history) none = by (c.epoch == e) refl none (none_found e history)
  where
    counted : count_by (λ (d : Commit). d.epoch == e) (c ∷ history) ≡ cond (c.epoch == e) 1 0 + count_by (λ (d : Commit). d.epoch == e) history
    counted = sum_by-cons (λ (d : Commit). cond (d.epoch == e) 1 0) c history

    by : (b : Bool) → (c.epoch == e) ≡ b → cond b (Some c) (find (λ (d : Commit). d.epoch == e) history) ≡ None
        → (find (λ (d : Commit). d.epoch == e) history ≡ None → count_by (λ (d : Commit). d.epoch == e) history ≡ 0) → count_by (λ (d : Commit). d.epoch == e) (c ∷ history) ≡ 0
    by true is found rest = absurd (let x : ◌≡◌ {A = Option Commit} (Some c) None = found in cc)
    by false is found rest =
        let no : ◌≡◌ {A = ℕ} (cond (c.epoch == e) 1 0) 0 = ap {B = ℕ} (λ b. cond b 1 0) is in
        let n = counted in
        let left = rest found in
        omega (arith, n, no, left)

-- with a commit more, an epoch has no fewer entries, and its rows take no fewer bytes
more_entries : (e : ℕ) (history : List Commit) (c : Commit) → count_by (λ (d : Commit). d.epoch == e) history ≤ count_by (λ (d : Commit). d.epoch == e) (history ++ c ∷ [])
more_entries e history c = let s = sum_by_push (λ (d : Commit). cond (d.epoch == e) 1 0) history c in omega (arith, s)

more_bytes : (e : ℕ) (history : List Commit) (c : Commit) → used_in e history ≤ used_in e (history ++ c ∷ [])
more_bytes e history c = let s = sum_by_push (λ (d : Commit). cond (d.epoch == e) (cost d.entry.rows) 0) history c in omega (arith, s)

is_same : (n m : ℕ) → n ≡ m → (n == m) ≡ true
is_same n m h = grind (arith, h)

same_is : (n m : ℕ) → (n == m) ≡ true → n ≡ m
same_is n m h = grind (arith, h)

used_more : (e : ℕ) (history : List Commit) (c : Commit) → c.epoch ≡ e → used_in e (history ++ c ∷ []) ≡ used_in e history + cost c.entry.rows
used_more e history c is =
    sum_by_push (λ (d : Commit). cond (d.epoch == e) (cost d.entry.rows) 0) history c ∙ ap (λ b. used_in e history + cond b (cost c.entry.rows) 0) (is_same c.epoch e is)

-- an epoch that was sealed in need was so with a commit more
had_more : (region_len group e : ℕ) (history : List Commit) (next c : Commit) → HadNeed region_len group history e next → HadNeed region_len group (history ++ c ∷ []) e next
had_more region_len group e history next c (inl full) = inl (let m = more_entries e history c in omega (arith, full, m))
had_more region_len group e history next c (inr long) = inr (let m = more_bytes e history c in omega (arith, long, m))

-- the first entry of an epoch is one of before, or the last one, which is the first then
first_of : (e : ℕ) (history : List Commit) (c next : Commit) → find (λ (d : Commit). d.epoch == e) (history ++ c ∷ []) ≡ Some next
    → (find (λ (d : Commit). d.epoch == e) history ≡ Some next) ⊎ ((find (λ (d : Commit). d.epoch == e) history ≡ None) × (c.epoch ≡ e) × (c ≡ next))
first_of e history c next is = by (find (λ (d : Commit). d.epoch == e) history) refl (sym (find-append (λ (d : Commit). d.epoch == e) history (c ∷ [])) ∙ is)
  where
    last : (b : Bool) → (c.epoch == e) ≡ b → cond b (Some c) None ≡ Some next → (c.epoch ≡ e) × (c ≡ next)
    last true at found = (same_is c.epoch e at, (let x : ◌≡◌ {A = Option Commit} (Some c) (Some next) = found in cc))
    last false at found = absurd (let x : ◌≡◌ {A = Option Commit} None (Some next) = found in cc)

    by : (o : Option Commit) → find (λ (d : Commit). d.epoch == e) history ≡ o → option_or o (find (λ (d : Commit). d.epoch == e) (c ∷ [])) ≡ Some next
        → (find (λ (d : Commit). d.epoch == e) history ≡ Some next) ⊎ ((find (λ (d : Commit). d.epoch == e) history ≡ None) × (c.epoch ≡ e) × (c ≡ next))
    by (Some d) at found = inl (at ∙ found)
    by None at found = let l = last (c.epoch == e) refl found in inr (at, l.0, l.1)

-- ---- the room

appended_used : (value : RoomValue) (c : Commit) → (appended value c.entry.rows).room.used ≡ value.room.used + cost c.entry.rows
unfolding appended
appended_used value c = refl

appended_sealed : (value : RoomValue) (c : Commit) → (appended value c.entry.rows).room.sealed ≡ value.room.sealed
unfolding appended
appended_sealed value c = refl

-- ---- the steps

pub need_stays : NeedStays
need_stays group entry old new full full' history n u keeps = record {
  each = n.each;
  used = u.used ∙ n.used ∙ ap (λ e. used_in (e + 1) history) (sym u.sealed);
  no_region = keeps;
}

pub need_sealed : NeedSealed
need_sealed group entry old new full full' history n s g keeps = record {
  each = n.each;
  used = (g.whole.epoch.none s.waiting).2 ∙ sym (used_none (new.room.sealed + 1) history (sym g.waiting ∙ s.waiting));
  no_region = keeps;
}

pub need_still : NeedStill
need_still group entry old new full full' history ends u keeps none above =
    ⊎_elim (λ enough. inl (subst (λ e. group ≤ count_by (λ (d : Commit). d.epoch == e) history) (sym u.sealed) enough)) (⊎_elim (λ was. inr (inl (keeps was))) (λ last. inr (inr (u.sealed ∙ last))))
    (ends (sym u.waiting ∙ none) (subst (λ e. entry.room.sealed < e) u.sealed above))

pub need_commits : NeedCommits
need_commits group entry old new full history c n g is at not behind = record {
  each = each;
  used = ap (λ (r : RoomValue). r.room.used) is ∙ appended_used old c ∙ ap (λ k. k + cost c.entry.rows) n.used ∙ sym (used_more (old.room.sealed + 1) history c at)
      ∙ ap (λ e. used_in (e + 1) (history ++ c ∷ [])) (sym (ap (λ (r : RoomValue). r.room.sealed) is ∙ appended_sealed old c));
  no_region = λ full_now. absurd (true≢false (sym full_now ∙ not));
}
  where
    each : AreSealedInNeed entry.room.region_len group entry.room.sealed (history ++ c ∷ [])
    each e next above found = by (first_of (e + 1) history c next found)
      where
        by : (find (λ (d : Commit). d.epoch == e + 1) history ≡ Some next) ⊎ ((find (λ (d : Commit). d.epoch == e + 1) history ≡ None) × (c.epoch ≡ e + 1) × (c ≡ next)) → HadNeed entry.room.region_len group (history ++ c ∷ []) e next
        by (inl before) = had_more entry.room.region_len group e history next c (n.each e next above before)
        by (inr (none, of_next, last)) =
            let here : e ≡ old.room.sealed = (let x = of_next in let y = at in omega (arith, x, y)) in
            let waits : old.room.waiting ≡ 0 = g.waiting ∙ ap (λ k. count_by (λ (d : Commit). d.epoch == k + 1) history) (sym here) ∙ none_found (e + 1) history none in
            had_more entry.room.region_len group e history next c
            (subst (λ (d : Commit). HadNeed entry.room.region_len group history e d) last
            (subst (λ k. HadNeed entry.room.region_len group history k c) (sym here) (behind waits (subst (λ k. entry.room.sealed < k) here above))))

pub need_ends : NeedEnds
need_ends group entry old new full history g enough s none above =
    inl (subst (λ e. group ≤ count_by (λ (d : Commit). d.epoch == e) history) (sym s.sealed) (subst (λ k. group ≤ k) g.waiting enough))
