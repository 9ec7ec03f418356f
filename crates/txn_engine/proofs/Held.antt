-- What a transaction holds and answered goes on while others commit elsewhere.
use Rattle.std.proofs.Common.{◌≡◌, ◌≢◌, ⊎_elim, ℕ, ◌<◌, ◌≤◌, ◌==◌, ◌||◌, Bool, true, false, true≢false, cond, List, [], ◌∷◌, ◌++◌, length, slice_get, Some, refl, sym, ap, ◌∙◌, subst, arith, append_assoc, append-nil, le_trans, nat_le, ne_eqb, Result, Ok}
use Rattle.std.specs.Prelude.{filter}
use Rattle.std.specs.List.{AllByRecursion, list_any}
use Rattle.std.proofs.lemmas.Bool.Decides.{leb_tells}
use Rattle.std.proofs.lemmas.List.Elements.{filter-append}
use Rattle.fine_model.specs.declared.Call.{Call}
use Rattle.fine_model.specs.declared.Call.TheVariants as call
use Rattle.fine_model.specs.declared.Entry.{Entry}
use Rattle.fine_model.specs.declared.Row.{Row}
use Rattle.fine_model.specs.declared.law.Origin.{Origin}
use Rattle.fine_model.specs.Buckets.{Began}
use Rattle.fine_model.specs.History.{Commit, IsLegal, all_rows}
use Rattle.fine_model.specs.Laws.{AreSmall}
use Rattle.fine_model.specs.Pushed.{all_pushed, key_of}
use Rattle.fine_model.specs.Trees.{IsSound, bucket_of}
use Rattle.fine_model.proofs.Histories.Legal.{legal_map}
use Rattle.fine_model.proofs.Histories.Stated.{shown_small}
use Rattle.fine_model.proofs.Trees.CallLaw.{bucket_below}
use Rattle.fine_model.proofs.Histories.Epochs.{rows_together}
use Rattle.fine_model.specs.declared.Why.{Why}
use Rattle.node_cache.specs.Cache.{Cache, IsResting, kept_at}
use Rattle.btree_nodes.specs.Trees.{Holds, Restores}
use Rattle.txn_draft.specs.Drafts.{DraftValue, FitsDraft, IsAnswered, is_here}
use Rattle.txn_draft.specs.Laws.{AreElsewhere}
use Rattle.txn_draft.specs.Standing.{StandsFor}
use Rattle.txn_draft.proofs.Answered.{own_here}
use Rattle.txn_draft.proofs.Lasting.{holds_law, untouched_law}
use Rattle.txn_draft.proofs.Lawful.{between_law, others_law, restored_law, taken_law, used_law}
use Rattle.txn_draft.proofs.Local.{local_law}
use Rattle.fine_hall.specs.declared.law.Beginning.{Beginning}
use Rattle.fine_hall.specs.Turns.{commits, is_in, in_bucket, is_call_in}
use Rattle.fine_hall.specs.Laws.{AreTurns}
use Rattle.fine_hall.specs.Passes.{turns, seen, published, HasPlace}
use Rattle.fine_hall.specs.Halls.{SeesMore}
use Rattle.fine_hall.specs.HeldLaws.{AddsElsewhere}
use Rattle.fine_hall.proofs.Bucket.{commits_more as commits_append, or_left, same_bucket}
use Rattle.fine_hall.proofs.Turning.{nothing_more}
use Rattle.fine_hall.proofs.Holding.{adds_elsewhere}
use Rattle.key_locks.proofs.Held.{near}
use Rattle.hall_rooms.specs.Rooms.{RoomPass, bucket_number}
use Rattle.txn_engine.specs.Txns.{IsHeld}

-- ---- rows of a legal history

pub legal_rows : (log : Origin) (e : ℕ) (first : List Row) (history : List Commit) → Began log e first → IsLegal first history → IsSound (first ++ all_rows history) × AreSmall (first ++ all_rows history)
legal_rows log e first history began legal = let m = legal_map first history (shown_small log.region_len began.image e first began.shows) began.sound legal in (m.has_map.sound, m.small)

-- ---- a bucket that is held

module _ (x : Beginning) (p p' : RoomPass) (sees : SeesMore p p') (k : ℕ) (low : k < 256) (has : HasPlace p k) where
  abbrev more : List Row
  more = (adds_elsewhere p p' sees).more

  behind : all_rows (seen p') ≡ all_rows (seen p) ++ more
  behind = (adds_elsewhere p p' sees).behind

  longer : (first : List Row) → first ++ all_rows (seen p') ≡ (first ++ all_rows (seen p)) ++ more
  longer first = ap (λ l. first ++ l) behind ∙ sym (append_assoc first (all_rows (seen p)) more)

  away : (b : Cache) → b.bucket ≡ k → AreElsewhere b more
  away b number = subst (λ j. AllByRecursion (λ (row : Row). row.node.bucket ≢ j) more) (sym number) ((adds_elsewhere p p' sees).elsewhere k (near k low) has)

  pub held_on : (d : DraftValue) (b : Cache) → IsHeld x.log (published p) (seen p) d k b → IsHeld x.log (published p') (seen p') d k b
  held_on d b h =
      let other = away b (h.undoes.bucket ∙ h.stood.number) in record {
        taken = h.taken;
        low = h.low;
        reached = le_trans h.reached sees.no_earlier;
        stood = same_bucket bucket_number kept_at IsResting x k h.low h.taken (seen p) (seen p') (sees.kept k (near k low) has) h.stood;
        undoes = h.undoes;
        restores = λ e first began. subst (Restores b) (sym (longer first)) (restored_law b (first ++ all_rows (seen p)) more (h.restores e first began) other);
        used = h.used;
        holds = λ ok e first began. subst (λ rows. Holds b rows d.rows) (sym (longer first)) (between_law b (first ++ all_rows (seen p)) d.rows more (h.holds ok e first began) other);
      }

-- a bucket that was just taken, in which the draft has no call
pub held_new : (log : Origin) (number : ℕ) (history : List Commit) (d : DraftValue) (k : ℕ) (b : Cache) → StandsFor log k number b history → (d.failed ≡ false → FitsDraft d × (list_any (is_here k) d.calls ≡ false)) → IsHeld log number history d k b
held_new log number history d k b stands none = record {
  taken = b;
  low = number;
  reached = omega arith;
  stood = stands;
  undoes = (taken_law number b stands.settled).undoes;
  restores = λ e first began. (holds_law log k number e b first history began stands).restores;
  used = λ ok. used_law number b b [] d.rows (taken_law number b stands.settled) (away ok);
  holds = λ ok e first began. others_law b (first ++ all_rows history) [] d.rows (holds_law log k number e b first history began stands) (away ok);
}
  where
    away : d.failed ≡ false → AreElsewhere b d.rows
    away ok = untouched_law d b (none ok).0 (subst (λ j. list_any (is_here j) d.calls ≡ false) (sym stands.number) (none ok).1)

-- ---- what was answered

-- the hall and the draft say alike in which buckets a call is
pub same_here : (k : ℕ) (c : Call) → is_call_in k c ≡ is_here k c
same_here k (call.Get key) = refl
same_here k (call.Put key value) = refl
same_here k (call.Del key) = refl
same_here k (call.Add key by) = refl
same_here k (call.Scan low high limit) = refl

pub same_calls : (k : ℕ) (cs : List Call) → list_any (is_call_in k) cs ≡ list_any (is_here k) cs
same_calls k [] = refl
same_calls k (c ∷ cs) = λ i. same_here k c i || same_calls k cs i

or_second : (a b : Bool) → b ≡ true → a || b ≡ true
or_second true b e = refl
or_second false b e = e

first_on : (a b : Bool) → a ≡ true → a || b ≡ true
first_on true b e = refl
first_on false b e = absurd (true≢false (sym e))

-- calls that are in no bucket are none
no_calls : (cs : List Call) → ((k : ℕ) → k < 256 → list_any (is_call_in k) cs ≡ false) → cs ≡ []
no_calls [] none = refl
no_calls (c ∷ cs) none =
    let k = bucket_of (key_of c) in
    absurd (true≢false (sym (first_on (is_call_in k c) (list_any (is_call_in k) cs) (same_here k c ∙ own_here c)) ∙ none k (bucket_below (key_of c))))

item_at : {A : Type 0} (xs : List A) (y : A) (ys : List A) → slice_get (xs ++ y ∷ ys) (length xs) ≡ Some y
item_at [] y ys = refl
item_at (x ∷ xs) y ys = item_at xs y ys

ok_same : (a b : List Row) → ◌≡◌ {A = Result (List Row) Why} (Ok a) (Ok b) → a ≡ b
ok_same a b e = cc

not_nil : (c : Commit) (cs : List Commit) → c ∷ cs ≡ [] → ⊥
not_nil c cs e = let n = ap length e in absurd (omega arith)

none_first : (k : ℕ) (c : Commit) (cs : List Commit) → in_bucket k (c ∷ cs) ≡ [] → (is_in k c.entry ≡ false) × (in_bucket k cs ≡ [])
none_first k c cs none = by (is_in k c.entry) none
  where
    by : (t : Bool) → cond t (c ∷ in_bucket k cs) (in_bucket k cs) ≡ [] → (t ≡ false) × (in_bucket k cs ≡ [])
    by true e = absurd (not_nil c (in_bucket k cs) e)
    by false e = (refl, e)

call_off : (k : ℕ) (entry : Entry) → is_in k entry ≡ false → list_any (is_call_in k) entry.calls ≡ false
unfolding is_in
call_off k entry off = or_left (list_any (is_call_in k) entry.calls) _ off

rows_of_none : (rows : List Row) (calls : List Call) (new : List Row) → calls ≡ [] → all_pushed rows calls ≡ Ok new → new ≡ []
unfolding all_pushed
rows_of_none rows calls new none is = sym (ok_same [] new (ap (all_pushed rows) (sym none) ∙ is))

-- commits that are in no bucket have no rows
rows_none : (first : List Row) (before cs : List Commit) → ((k : ℕ) → k < 256 → in_bucket k cs ≡ []) → IsLegal first (before ++ cs) → all_rows cs ≡ []
rows_none first before [] none legal = refl
rows_none first before (c ∷ cs) none legal =
    let calls : c.entry.calls ≡ [] = no_calls c.entry.calls (λ k low. call_off k c.entry (none_first k c cs (none k low)).0) in
    let next = legal.each (length before) c (item_at before c cs) in
    let rest = rows_none first (before ++ c ∷ []) cs (λ k low. (none_first k c cs (none k low)).1) (subst (IsLegal first) (sym (append_assoc before (c ∷ []) cs)) legal) in
    λ i. rows_of_none _ c.entry.calls c.entry.rows calls next.rows i ++ rest i

-- a call that is in a bucket above the limit is a scan, which is in all
all_here : (k j : ℕ) (cs : List Call) → 256 ≤ k → list_any (is_here k) cs ≡ true → list_any (is_here j) cs ≡ true
all_here k j [] high on = absurd (true≢false (sym on))
all_here k j (c ∷ cs) high on = by c (all_here k j cs high) on
  where
    key : (key : List ℕ) → (list_any (is_here k) cs ≡ true → list_any (is_here j) cs ≡ true) → ((bucket_of key == k) || list_any (is_here k) cs) ≡ true → ((bucket_of key == j) || list_any (is_here j) cs) ≡ true
    key name rest there = let low = bucket_below name in let off : (bucket_of name == k) ≡ false = ne_eqb (bucket_of name) k (λ e. omega (arith, e, low, high)) in
        or_second (bucket_of name == j) (list_any (is_here j) cs) (rest (ap (λ t. t || list_any (is_here k) cs) (sym off) ∙ there))

    by : (c : Call) → (list_any (is_here k) cs ≡ true → list_any (is_here j) cs ≡ true) → (is_here k c || list_any (is_here k) cs) ≡ true → (is_here j c || list_any (is_here j) cs) ≡ true
    by (call.Get name) rest there = key name rest there
    by (call.Put name value) rest there = key name rest there
    by (call.Del name) rest there = key name rest there
    by (call.Add name amount) rest there = key name rest there
    by (call.Scan low high limit) rest there = refl

module _ (x : Beginning) (p p' : RoomPass) (sees : SeesMore p p') (lawful_before : AreTurns x (turns p)) (legal : (e : ℕ) (first : List Row) → Began x.log e first → IsLegal first (seen p')) where
  abbrev commits_more : List Commit
  commits_more = commits sees.longer.0

  seen_longer : seen p' ≡ seen p ++ commits_more
  seen_longer = ap commits sees.longer.1 ∙ commits_append (turns p) sees.longer.0

  none_in : (k : ℕ) → k < 256 → HasPlace p k → in_bucket k commits_more ≡ []
  none_in k low has = nothing_more (in_bucket k (seen p)) (in_bucket k commits_more) (sees.kept k (near k low) has ∙ (ap (in_bucket k) seen_longer ∙ filter-append (λ (c : Commit). is_in k c.entry) (seen p) commits_more))

  -- what was answered stays the answer while others commit in no bucket of the calls
  pub answered_on : (d : DraftValue) (e : ℕ) (first : List Row) → Began x.log e first → ((k : ℕ) → k < 256 → list_any (is_here k) d.calls ≡ true → HasPlace p k) → IsAnswered (first ++ all_rows (seen p)) d → IsAnswered (first ++ all_rows (seen p')) d
  answered_on d e first began held answered =
      let a = legal_rows x.log e first (seen p) began (lawful_before.legal e first began) in
      let b = legal_rows x.log e first (seen p') began (legal e first began) in
      local_law (first ++ all_rows (seen p)) (first ++ all_rows (seen p')) d a.1 b.1 a.0 b.0 (record { each = same }) answered
    where
      adds : AddsElsewhere p p'
      adds = adds_elsewhere p p' sees

      rows_are : first ++ all_rows (seen p') ≡ (first ++ all_rows (seen p)) ++ adds.more
      rows_are = ap (λ l. first ++ l) adds.behind ∙ sym (append_assoc first (all_rows (seen p)) adds.more)

      -- where all buckets are held, nobody else commits a row
      none_more : (k : ℕ) → 256 ≤ k → list_any (is_here k) d.calls ≡ true → adds.more ≡ []
      none_more k high on =
          let none : all_rows commits_more ≡ [] = rows_none first (seen p) commits_more (λ j low. none_in j low (held j low (all_here k j d.calls high on))) (subst (IsLegal first) seen_longer (legal e first began)) in
          let still : all_rows (seen p') ≡ all_rows (seen p) = ap all_rows seen_longer ∙ (rows_together (seen p) commits_more ∙ (ap (λ l. all_rows (seen p) ++ l) none ∙ append-nil (all_rows (seen p)))) in
          nothing_more (all_rows (seen p)) adds.more (sym still ∙ adds.behind)

      none_of : (k : ℕ) → list_any (is_here k) d.calls ≡ true → filter (λ (row : Row). row.node.bucket == k) adds.more ≡ []
      none_of k on = ⊎_elim
          (λ (high : (nat_le 256 k ≡ true) × (256 ≤ k)). ap (filter (λ (row : Row). row.node.bucket == k)) (none_more k high.1 on))
          (λ (low : (nat_le 256 k ≡ false) × (k < 256)). adds.none k (near k low.1) (held k low.1 on))
          (leb_tells 256 k)

      same : (k : ℕ) → list_any (is_here k) d.calls ≡ true → filter (λ (row : Row). row.node.bucket == k) (first ++ all_rows (seen p')) ≡ filter (λ (row : Row). row.node.bucket == k) (first ++ all_rows (seen p))
      same k on = ap (filter (λ (row : Row). row.node.bucket == k)) rows_are
          ∙ (filter-append (λ (row : Row). row.node.bucket == k) (first ++ all_rows (seen p)) adds.more
          ∙ (ap (λ l. filter (λ (row : Row). row.node.bucket == k) (first ++ all_rows (seen p)) ++ l) (none_of k on) ∙ append-nil _))
