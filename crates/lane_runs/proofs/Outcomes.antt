-- The outcomes of a lane whose pass goes on, and one outcome more.
use Rattle.std.proofs.Common.{◌≡◌, ◌≢◌, ◌⊎◌, inl, inr, ℕ, zero, suc, ◌+◌, ◌<◌, ◌≤◌, List, [], ◌∷◌, ◌++◌, length, map, Option, Some, None, refl, sym, ap, subst, ◌∙◌, ⊎_elim, arith, append-nil, length-append}
use Rattle.std.specs.Prelude.{Contains, slice_get, take}
use Rattle.std.specs.List.{AllByRecursion}
use Rattle.std.proofs.lemmas.List.{take-append-le}
use Rattle.std.proofs.lemmas.List.Elements.{Contains-append_cases, Contains-append_left, Contains-append_right, filter_map-append}
use Rattle.std.proofs.lemmas.Option.{none-some, same_Some, slice_get_within}
use Rattle.fine_model.specs.declared.Call.{Call}
use Rattle.fine_model.specs.declared.Outcome.{Outcome}
use Rattle.fine_model.specs.declared.Outcome.TheVariants as outcome
use Rattle.fine_model.specs.declared.Row.{Row}
use Rattle.fine_model.specs.declared.ScriptTxn.{ScriptTxn}
use Rattle.fine_model.specs.declared.Why.{Why}
use Rattle.fine_model.specs.declared.Why.TheVariants as why
use Rattle.fine_model.specs.declared.RunFault.{RunFault}
use Rattle.fine_model.specs.History.{Commit, all_rows}
use Rattle.fine_model.specs.Outcomes.{HasRun, IsCommittedAt, IsOutcomeOf}
use Rattle.fine_places.specs.declared.model.Placed.{Placed}
use Rattle.fine_hall.specs.declared.law.Beginning.{Beginning}
use Rattle.fine_hall.specs.declared.turn.Turn.{Turn}
use Rattle.fine_hall.specs.Passes.{turns, seen, mine}
use Rattle.hall_rooms.specs.Rooms.{RoomPass}
use Rattle.run_laws.specs.Runs.{IsReplied}
use Rattle.lane_laws.specs.Lanes.{CauseAt, HasOutcomes, LaneValue, OfBegan, RefusedAt}
use Rattle.lane_laws.specs.Placing.{placed_by}
use Rattle.lane_laws.specs.Quiet.{QuietBut}
use Rattle.lane_laws.specs.Works.{HasDone, placed_in, placed_of}
use Rattle.lane_laws.proofs.Placing.{placed_at}
use Rattle.lane_laws.proofs.Works.{in_placed}
use Rattle.lane_runs.proofs.Lists.{all_append, at_append, take_front}
use Rattle.lane_runs.proofs.Going.{Goes, beyond, mine_then, placed_then, seen_least, took}
use Rattle.lane_runs.proofs.Quiet.{own_length, quiet_before}

-- ---- causes

-- a cause stays with more turns
cause_more : (region_len : ℕ) (rows : List Row) (ts ts' : List (Placed Turn)) (calls : List Call) (word : Why) → ((t : Placed Turn) → Contains ts t → Contains ts' t) → CauseAt region_len rows ts calls word → CauseAt region_len rows ts' calls word
cause_more region_len rows ts ts' calls why.Large sub c = c
cause_more region_len rows ts ts' calls why.Bucket sub c = c
cause_more region_len rows ts ts' calls why.Number sub c = ⊎_elim (λ h. inl h) (λ h. inr (h.0, sub h.0 h.1, h.2)) c
cause_more region_len rows ts ts' calls why.Full sub c = (c.0, sub c.0 c.1, c.2)

-- It was refused after k commits of those that the pass then saw, none of which is after those that it saw before.
pub record CausedNow (x : Beginning) (first : List (Placed Turn)) (p p' : RoomPass) (calls : List Call) (word : Why) : Type 0 where
  pub k : ℕ
  pub low : length (seen p) ≤ k
  pub within : k ≤ length (seen p')
  pub holds : OfBegan x (λ rows. CauseAt x.room.region_len (rows ++ all_rows (take k (seen p'))) (turns p' ++ first) calls word)

-- a cause by the turns of the pass alone
pub with_first : (region_len : ℕ) (rows : List Row) (ts first : List (Placed Turn)) (calls : List Call) (word : Why) → CauseAt region_len rows ts calls word → CauseAt region_len rows (ts ++ first) calls word
with_first region_len rows ts first calls word = cause_more region_len rows ts (ts ++ first) calls word (λ t h. Contains-append_left ts first t h)

module _ (x : Beginning) (p p' : RoomPass) (os : List Outcome) (g : Goes x p p' os) (first more : List (Placed Turn)) where
  among : (t : Placed Turn) → Contains (turns p ++ first) t → Contains (turns p' ++ (first ++ more)) t
  among t at = ⊎_elim
      (λ h. Contains-append_left (turns p') (first ++ more) t (subst (λ (l : List (Placed Turn)). Contains l t) (sym g.turns_more) (Contains-append_left (turns p) g.more t h)))
      (λ h. Contains-append_right (turns p') (first ++ more) t (Contains-append_left first more t h))
      (Contains-append_cases (turns p) first t at)

  ahead_of : (done : List Outcome) (j k : ℕ) (calls : List Call) (word : Why) (r : RefusedAt x first p done j calls word) (m place : ℕ) (c : Commit) → j < m → IsCommittedAt (done ++ os) m place c → r.k < place
  ahead_of done j k calls word r m place c before at = ⊎_elim
      (λ old. r.ahead m place c before old)
      (λ new.
      let b = beyond p.number (length (seen p)) place c g.more (subst (λ (l : List (ℕ × Commit)). Contains l (place, c)) (sym g.placed_is) (in_placed os new.0 place c new.2)) in
      let w = r.within in
      omega (arith, b, w))
      (at_append done os m (outcome.Committed place c.epoch c.entry) at)

  -- what refused a transaction before stays its cause
  pub refused_stays : (done : List Outcome) (j : ℕ) (calls : List Call) (word : Why) → j < length done → RefusedAt x first p done j calls word → RefusedAt x (first ++ more) p' (done ++ os) j calls word
  refused_stays done j calls word short r = record {
    k = r.k;
    within = let w = r.within in let l = seen_least x p p' os g in omega (arith, w, l);
    behind = λ m place c before at. ⊎_elim
        (λ old. r.behind m place c before old)
        (λ new. let e = new.1 in absurd (omega (arith, e, short, before)))
        (at_append done os m (outcome.Committed place c.epoch c.entry) at);
    ahead = ahead_of done j r.k calls word r;
    exact = λ q. r.exact (quiet_before x p p' os g q) ∙ ap (λ l. length (placed_of l)) (sym (take-append-le j done os (omega (arith, short))));
    holds = λ e rows began.
        subst (λ (l : List Commit). CauseAt x.room.region_len (rows ++ all_rows l) (turns p' ++ (first ++ more)) calls word) (sym (took x p p' os g r.k r.within))
        (cause_more x.room.region_len (rows ++ all_rows (take r.k (seen p))) (turns p ++ first) (turns p' ++ (first ++ more)) calls word among (r.holds e rows began));
  }

  -- the commits of the lane so far have places among what the pass saw
  pub places_low : (done : List Outcome) → placed_by p.number 0 (turns p) ≡ placed_of done → (m place : ℕ) (c : Commit) → IsCommittedAt done m place c → place ≤ length (seen p)
  places_low done places m place c at =
      let a = placed_at p.number place c (turns p) (subst (λ (l : List (ℕ × Commit)). Contains l (place, c)) (sym places) (in_placed done m place c at)) in
      let w = slice_get_within (seen p) a.0 c a.2 in
      let e = a.1 in
      omega (arith, w, e)

  -- where all others are quiet, the pass saw what the lane committed
  pub seen_own : (done : List Outcome) → placed_by p.number 0 (turns p) ≡ placed_of done → QuietBut p.number x.room (turns p) → length (seen p) ≡ length (placed_of done)
  seen_own done places q = own_length p.number x.room (turns p) q ∙ ap length places

-- ---- one outcome more

module _ (x : Beginning) (p p' : RoomPass) (o : Outcome) (g : Goes x p p' (o ∷ [])) (first : List (Placed Turn)) where
  -- a refusal that comes now
  refused_now : (done : List Outcome) (calls : List Call) (word : Why) → o ≡ outcome.Refused word → placed_by p.number 0 (turns p) ≡ placed_of done → CausedNow x first p p' calls word
      → RefusedAt x first p' (done ++ o ∷ []) (length done) calls word
  refused_now done calls word is places c = record {
    k = c.k;
    within = c.within;
    behind = λ m place d before at. ⊎_elim
        (λ old. let h = places_low x p p' (o ∷ []) g first [] done places m place d old in let l = c.low in omega (arith, h, l))
        (λ new. let e = new.1 in absurd (omega (arith, e, before)))
        (at_append done (o ∷ []) m (outcome.Committed place d.epoch d.entry) at);
    ahead = λ m place d before at. let w = slice_get_within (done ++ o ∷ []) m (outcome.Committed place d.epoch d.entry) at in let l = length-append done (o ∷ []) in absurd (omega (arith, w, l, before));
    exact = λ q.
        let none : placed_of (o ∷ []) ≡ [] = ap (λ r. placed_of (r ∷ [])) is in
        let then = own_length p'.number x.room (turns p') q ∙ (ap length (placed_then x p p' (o ∷ []) g) ∙ ap length (ap2 places none)) in
        let now = seen_own x p p' (o ∷ []) g first [] done places (quiet_before x p p' (o ∷ []) g q) in
        let l = c.low in let w = c.within in
        let taken = ap (λ r. length (placed_of r)) (take_front done (o ∷ [])) in
        let same = ap length (append-nil (placed_of done)) in
        omega (arith, then, now, l, w, taken, same);
    holds = c.holds;
  }
    where
      ap2 : {a b c : List (ℕ × Commit)} → a ≡ b → c ≡ [] → a ++ c ≡ b ++ []
      ap2 {a} {b} {c} e f = ap (λ l. l ++ c) e ∙ ap (λ l. b ++ l) f

-- ---- all outcomes of a lane

module _ (x : Beginning) (first more : List (Placed Turn)) (script : List ScriptTxn) (p p' : RoomPass) (w : LaneValue) (left : List RunFault) where
  -- where nothing is committed, they are the same
  pub has_stays : Goes x p p' [] → HasOutcomes x first script p w → HasOutcomes x (first ++ more) script p' (record { lane = w.lane; work = record { at = w.work.at; done = w.work.done; left = left } })
  has_stays g h = record {
    at = h.at;
    done = record {
      count = h.done.count;
      within = h.done.within;
      each = h.done.each;
      places = placed_then x p p' [] g ∙ (append-nil (placed_by p.number 0 (turns p)) ∙ h.done.places);
      numbered = h.done.numbered;
    };
    replied = subst (AllByRecursion IsReplied) (sym (mine_then x p p' [] g ∙ append-nil (mine p))) h.replied;
    refused = λ j i txn word at is out.
        let short = slice_get_within w.work.done j (outcome.Refused word) out in
        subst (λ (d : List Outcome). RefusedAt x (first ++ more) p' d j txn.calls word) (append-nil w.work.done) (refused_stays x p p' [] g first more w.work.done j txn.calls word short (h.refused j i txn word at is out));
    full_last = h.full_last;
  }

-- ---- with one more

replied_one : (o : Outcome) → ((place : ℕ) (c : Commit) → o ≡ outcome.Committed place c.epoch c.entry → IsReplied c) → AllByRecursion IsReplied (map (λ (e : ℕ × Commit). e.1) (placed_of (o ∷ [])))
replied_one (outcome.Committed place epoch entry) of = (of place (record { entry = entry; epoch = epoch }) refl, tt)
replied_one outcome.Aborted of = tt
replied_one (outcome.Refused word) of = tt
replied_one outcome.NotRun of = tt

-- What the outcome of the next transaction is, which the pass has come to.
pub record ComesTo (x : Beginning) (first : List (Placed Turn)) (script : List ScriptTxn) (p p' : RoomPass) (w : LaneValue) (o : Outcome) : Type 0 where
  pub i : ℕ
  pub txn : ScriptTxn
  pub next_at : slice_get w.work.at (length w.work.done) ≡ Some i
  pub is_next : slice_get script i ≡ Some txn
  pub of : IsOutcomeOf txn o × HasRun o
  pub numbered : (place : ℕ) (c : Commit) → o ≡ outcome.Committed place c.epoch c.entry → c.entry.turn ≡ i + 1
  pub replied : (place : ℕ) (c : Commit) → o ≡ outcome.Committed place c.epoch c.entry → IsReplied c
  pub caused : (word : Why) → o ≡ outcome.Refused word → CausedNow x first p p' txn.calls word
  pub none_full : (j place : ℕ) (c : Commit) → slice_get w.work.done j ≡ Some (outcome.Refused why.Full) → o ≡ outcome.Committed place c.epoch c.entry → ⊥

module _ (x : Beginning) (first : List (Placed Turn)) (script : List ScriptTxn) (p p' : RoomPass) (w : LaneValue) (o : Outcome) (left : List RunFault) (g : Goes x p p' (o ∷ [])) (h : HasOutcomes x first script p w) (t : ComesTo x first script p p' w o) where
  -- an outcome with its transaction: one of before, or this one
  old_or : {P : Type 0} (j i : ℕ) (txn : ScriptTxn) (next : Outcome) → slice_get w.work.at j ≡ Some i → slice_get script i ≡ Some txn → slice_get (w.work.done ++ o ∷ []) j ≡ Some next → (slice_get w.work.done j ≡ Some next → P)
      → (j ≡ length w.work.done → i ≡ t.i → txn ≡ t.txn → o ≡ next → P) → P
  old_or j i txn next at is out old new = ⊎_elim old
      (λ n.
      let last = only n.0 n.2 in
      let e = n.1 in
      let there : j ≡ length w.work.done = omega (arith, e, last.0) in
      let same : i ≡ t.i = same_Some i t.i (sym at ∙ (ap (slice_get w.work.at) there ∙ t.next_at)) in
      new there same (same_Some txn t.txn (sym is ∙ (ap (slice_get script) same ∙ t.is_next))) last.1)
      (at_append w.work.done (o ∷ []) j next out)
    where
      only : (k : ℕ) → slice_get (o ∷ []) k ≡ Some next → (k ≡ 0) × (o ≡ next)
      only zero e = (refl, same_Some o next e)
      only (suc k) e = absurd (none-some next e)

  place_of_next : length w.work.done < length w.work.at
  place_of_next = slice_get_within w.work.at (length w.work.done) t.i t.next_at

  has_done : HasDone script (placed_by p'.number 0 (turns p')) (record { at = w.work.at; done = w.work.done ++ o ∷ []; left = left })
  has_done = record {
    count = let l = length-append w.work.done (o ∷ []) in let s = place_of_next in omega (arith, l, s);
    within = h.done.within;
    each = λ j i txn next at is out. old_or j i txn next at is out (λ old. h.done.each j i txn next at is old)
        (λ there same of_txn of_next. subst (λ (n : Outcome). IsOutcomeOf txn n × HasRun n) of_next (subst (λ (s : ScriptTxn). IsOutcomeOf s o × HasRun o) (sym of_txn) t.of));
    places = placed_then x p p' (o ∷ []) g ∙ (ap (λ l. l ++ placed_of (o ∷ [])) h.done.places ∙ sym (filter_map-append placed_in w.work.done (o ∷ [])));
    numbered = λ j i place c at out. ⊎_elim
        (λ old. h.done.numbered j i place c at old)
        (λ n. numbered_last j i place c n.0 n.1 at n.2)
        (at_append w.work.done (o ∷ []) j (outcome.Committed place c.epoch c.entry) out);
  }
    where
      numbered_last : (j i place : ℕ) (c : Commit) (k : ℕ) → length w.work.done + k ≡ j → slice_get w.work.at j ≡ Some i → slice_get (o ∷ []) k ≡ Some (outcome.Committed place c.epoch c.entry) → c.entry.turn ≡ i + 1
      numbered_last j i place c zero e at is =
          let there : j ≡ length w.work.done = omega (arith, e) in
          let same : i ≡ t.i = same_Some i t.i (sym at ∙ (ap (slice_get w.work.at) there ∙ t.next_at)) in
          t.numbered place c (same_Some o (outcome.Committed place c.epoch c.entry) is) ∙ ap (λ n. n + 1) (sym same)
      numbered_last j i place c (suc k) e at is = absurd (none-some (outcome.Committed place c.epoch c.entry) is)

  full_or : (j m place : ℕ) (c : Commit) → slice_get (w.work.done ++ o ∷ []) j ≡ Some (outcome.Refused why.Full) → IsCommittedAt (w.work.done ++ o ∷ []) m place c → m < j
  full_or j m place c full at = by (at_append w.work.done (o ∷ []) j (outcome.Refused why.Full) full) (at_append w.work.done (o ∷ []) m (outcome.Committed place c.epoch c.entry) at)
    where
      is_o : (k : ℕ) (q : Outcome) → slice_get (o ∷ []) k ≡ Some q → (k ≡ 0) × (o ≡ q)
      is_o zero q e = (refl, same_Some o q e)
      is_o (suc k) q e = absurd (none-some q e)

      by : (slice_get w.work.done j ≡ Some (outcome.Refused why.Full)) ⊎ ((k : ℕ) × (length w.work.done + k ≡ j) × (slice_get (o ∷ []) k ≡ Some (outcome.Refused why.Full)))
          → (slice_get w.work.done m ≡ Some (outcome.Committed place c.epoch c.entry)) ⊎ ((k : ℕ) × (length w.work.done + k ≡ m) × (slice_get (o ∷ []) k ≡ Some (outcome.Committed place c.epoch c.entry))) → m < j
      by (inl a) (inl b) = h.full_last j m place c a b
      by (inl a) (inr b) = absurd (t.none_full j place c a (is_o b.0 (outcome.Committed place c.epoch c.entry) b.2).1)
      by (inr a) (inl b) = let e = a.1 in let s = slice_get_within w.work.done m (outcome.Committed place c.epoch c.entry) b in omega (arith, e, s)
      by (inr a) (inr b) = let e : outcome.Refused why.Full ≡ outcome.Committed place c.epoch c.entry = sym (is_o a.0 (outcome.Refused why.Full) a.2).1 ∙ (is_o b.0 (outcome.Committed place c.epoch c.entry) b.2).1 in absurd cc

  pub has_takes : HasOutcomes x first script p' (record { lane = w.lane; work = record { at = w.work.at; done = w.work.done ++ o ∷ []; left = left } })
  has_takes = record {
    at = h.at;
    done = has_done;
    replied = subst (AllByRecursion IsReplied) (sym (mine_then x p p' (o ∷ []) g)) (all_append IsReplied (mine p) (map (λ (e : ℕ × Commit). e.1) (placed_of (o ∷ []))) h.replied (replied_one o t.replied));
    refused = λ j i txn word at is out. old_or j i txn (outcome.Refused word) at is out
        (λ old. subst (λ (f : List (Placed Turn)). RefusedAt x f p' (w.work.done ++ o ∷ []) j txn.calls word) (append-nil first)
        (refused_stays x p p' (o ∷ []) g first [] w.work.done j txn.calls word (slice_get_within w.work.done j (outcome.Refused word) old) (h.refused j i txn word at is old)))
        (λ there same of_txn of_next.
        subst (λ n. RefusedAt x first p' (w.work.done ++ o ∷ []) n txn.calls word) (sym there)
        (subst (λ (s : ScriptTxn). RefusedAt x first p' (w.work.done ++ o ∷ []) (length w.work.done) s.calls word) (sym of_txn) (refused_now x p p' o g first w.work.done t.txn.calls word of_next h.done.places (t.caused word of_next))));
    full_last = full_or;
  }
