-- Calls after calls, and what a refusal of one of them says of all.
use Rattle.std.proofs.Common.{◌≡◌, ◌⊎◌, ⊎_elim, ℕ, ◌+◌, ◌<◌, ◌≤◌, Bool, true, false, List, [], ◌∷◌, ◌++◌, ◌-◌, length, drop, take, get_or, Result, Ok, Err, refl, sym, ap, ◌∙◌, subst, arith, append_assoc, le_trans}
use Rattle.std.specs.List.{AllZip}
use Rattle.std.proofs.lemmas.List.{take_all}
use Rattle.fine_model.specs.declared.Call.{Call}
use Rattle.fine_model.specs.declared.Reply.{Reply}
use Rattle.fine_model.specs.declared.Row.{Row}
use Rattle.fine_model.specs.declared.Why.{Why}
use Rattle.fine_model.specs.declared.Why.TheVariants as why
use Rattle.fine_model.specs.Faults.{last_count}
use Rattle.fine_model.specs.History.{all_rows}
use Rattle.fine_model.specs.Pushed.{all_pushed, and_then, pushed}
use Rattle.fine_model.specs.Store.{IsReplyTo}
use Rattle.fine_places.specs.History as places
use Rattle.fine_places.proofs.Lists.{decide}
use Rattle.partition_hold.specs.Views.{state_of}
use Rattle.txn_draft.specs.Drafts.{DraftValue, is_scan}
use Rattle.fine_hall.specs.declared.law.Beginning.{Beginning}
use Rattle.fine_hall.specs.Passes.{HasPlace, front_of, seen, troubles}
use Rattle.fine_hall.proofs.Seeing.{sees_on}
use Rattle.key_locks.proofs.Held.{far}
use Rattle.hall_rooms.specs.Rooms.{RoomPass}
use Rattle.hall_rooms.specs.Turning.{MeetsNone}
use Rattle.txn_engine.specs.declared.txn.Txn.{Txn}
use Rattle.txn_engine.specs.declared.txn.TxnFault.{TxnFault}
use Rattle.txn_engine.specs.declared.txn.TxnFault.TheVariants as fault
use Rattle.txn_engine.specs.Txns.{CallsOr, KeepsCall, MeetsRead, SeesCall}
use Rattle.lane_laws.specs.Lanes.{OfBegan}
use Rattle.txn_tries.specs.Answering.{AddsCalls, AddsReplies, AnswersAll, RefusesCalls, StopsCalls}

-- the first of some calls and the others
pub first_and_rest : (l : List Call) (c : Call) → 1 ≤ length l → c ≡ get_or l 0 c → l ≡ c ∷ take (length l - 1) (drop 1 l)
first_and_rest [] c some is = absurd (omega (arith, some))
first_and_rest (d ∷ l) c some is = (λ i. sym is i ∷ l) ∙ ap (λ r. c ∷ r) (sym (take_all (length (d ∷ l) - 1) l (omega arith)))

-- ---- what a pass sees

pub sees_call_on : (x : Beginning) (p q r : RoomPass) → q.number ≡ p.number → SeesCall x p q → SeesCall x q r → SeesCall x p r
sees_call_on x p q r number one two = record {
  sees = sees_on p q r number still one.sees two.sees;
  held = λ k low has. two.held k low (one.held k low has);
  room = two.room ∙ one.room;
  no_fewer = le_trans one.no_fewer two.no_fewer;
}
  where
    still : (k : ℕ) → k ≤ places.room → HasPlace p k → HasPlace q k
    still k low has = ⊎_elim
        (λ (same : k ≡ places.room). subst (HasPlace q) (sym same) (one.room ∙ subst (HasPlace p) same has))
        (λ other. one.held k (far k (grind (arith, low, other))) has)
        (decide k places.room)

-- ---- the draft

zip_append : {A B : Type 0} (R : A → B → Type 0) (xs : List A) (ys : List B) (xs' : List A) (ys' : List B) → AllZip R xs ys → AllZip R xs' ys' → AllZip R (xs ++ xs') (ys ++ ys')
zip_append R [] [] xs' ys' a b = b
zip_append R [] (y ∷ ys) xs' ys' a b = absurd a
zip_append R (x ∷ xs) [] xs' ys' a b = absurd a
zip_append R (x ∷ xs) (y ∷ ys) xs' ys' a b = (a.0, zip_append R xs ys xs' ys' a.1 b)

pub adds_calls_on : (a b : List Call) (c d e : DraftValue) → AddsCalls a c d → AddsCalls b d e → AddsCalls (a ++ b) c e
adds_calls_on a b c d e one two = record {
  lane = two.lane ∙ one.lane;
  turn = two.turn ∙ one.turn;
  calls_more = two.calls_more ∙ (ap (λ l. l ++ b) one.calls_more ∙ append_assoc c.calls a b);
  replied = record {
    replies = one.replied.replies ++ two.replied.replies;
    after = two.replied.after ∙ (ap (λ l. l ++ two.replied.replies) one.replied.after ∙ append_assoc c.replies one.replied.replies two.replied.replies);
    each = zip_append IsReplyTo a one.replied.replies b two.replied.replies one.replied.each two.replied.each;
  };
  not_failed = two.not_failed;
}

-- a call that is kept stands after the others
pub call_added : (c : Call) (d d' : DraftValue) → d'.failed ≡ false → KeepsCall c d d' → AddsReplies (c ∷ []) d.replies d'.replies → AddsCalls (c ∷ []) d d'
call_added c d d' not_failed keeps replied = by (is_scan c) refl
  where
    by : (b : Bool) → is_scan c ≡ b → AddsCalls (c ∷ []) d d'
    by true scan = let k = (keeps.scan scan).1 in record { lane = ap (λ x. x.lane) k.is; turn = ap (λ x. x.turn) k.is; calls_more = ap (λ x. x.calls) k.is; replied = replied; not_failed = not_failed }
    by false none = let k = keeps.one none in record { lane = ap (λ x. x.lane) k.is; turn = ap (λ x. x.turn) k.is; calls_more = ap (λ x. x.calls) k.is; replied = replied; not_failed = not_failed }

-- ---- a refusal

err_only : {A B : Type 0} (r : Result A Why) (f : A → B) (word : Why) → and_then {A = A} {B = B} r (λ a. Ok (f a)) ≡ Err word → r ≡ Err word
err_only (Ok a) f word is = absurd cc
err_only {A} {B} (Err w) f word is = let e : ◌≡◌ {A = Result B Why} (Err w) (Err word) = is in cc

-- where some calls are refused, so they are with more after them
pub refused_more : (rows : List Row) (cs ds : List Call) (word : Why) → all_pushed rows cs ≡ Err word → all_pushed rows (cs ++ ds) ≡ Err word
unfolding all_pushed
refused_more rows [] ds word is = absurd cc
refused_more rows (c ∷ cs) ds word is = by (λ new rest. refused_more (rows ++ new) cs ds word rest) (pushed rows c) is
  where
    by : ((new : List Row) → all_pushed (rows ++ new) cs ≡ Err word → all_pushed (rows ++ new) (cs ++ ds) ≡ Err word) → (r : Result (List Row) Why) → and_then r (λ new. and_then (all_pushed (rows ++ new) cs) (λ more. Ok (new ++ more))) ≡ Err word → and_then r (λ new. and_then (all_pushed (rows ++ new) (cs ++ ds)) (λ more. Ok (new ++ more))) ≡ Err word
    by so (Ok new) is = ap (λ r. and_then r (λ more. Ok (new ++ more))) (so new (err_only (all_pushed (rows ++ new) cs) (λ more. new ++ more) word is))
    by so (Err w) is = is

module _ (x : Beginning) (c : Call) (rest : List Call) (t t' : Txn) (p p' : RoomPass) where
  some_met : MeetsRead x p p' → 0 < troubles state_of x p'
  some_met m = ⊎_elim (λ more. omega (arith, more)) (λ (top : last_count ≤ (front_of state_of p').faults). omega (arith, top)) m

  refuses_all : (word : Why) → OfBegan x (λ first. all_pushed (first ++ all_rows (seen p')) (t.draft.calls ++ c ∷ []) ≡ Err word) → RefusesCalls x (t.draft.calls ++ c ∷ rest) p' word
  refuses_all word h e first began =
      subst (λ (l : List Call). all_pushed (first ++ all_rows (seen p')) l ≡ Err word) (append_assoc t.draft.calls (c ∷ []) rest) (refused_more (first ++ all_rows (seen p')) (t.draft.calls ++ c ∷ []) rest word (h e first began))

  pub call_stops : (f : TxnFault) → CallsOr x c t t' p p' (Err f) → StopsCalls x (t.draft.calls ++ c ∷ rest) p p' f
  call_stops (fault.Conflict bucket owner) h = h.0.1
  call_stops fault.Disk h = some_met h.2
  call_stops (fault.BadRow region at) h = (h.0.1, h.2)
  call_stops (fault.BadIndex region at) h = (h.0.1, h.2)
  call_stops (fault.Unfit id) h = (h.0.1, h.2)
  call_stops (fault.BucketFull next depth) h = (h.0.1, refuses_all why.Bucket (λ e first began. (h.2 e first began).0))
  call_stops (fault.Number id) h = (h.0.1, refuses_all why.Number (λ e first began. (h.2 e first began).0))
  call_stops fault.NoMemory h = tt

-- as seen from an earlier moment
pub stops_sooner : (x : Beginning) (calls : List Call) (p q r : RoomPass) (f : TxnFault) → MeetsNone x p q → StopsCalls x calls q r f → StopsCalls x calls p r f
stops_sooner x calls p q r (fault.Conflict bucket owner) m h = h ∙ m
stops_sooner x calls p q r fault.Disk m h = h
stops_sooner x calls p q r (fault.BadRow region at) m h = (h.0 ∙ m, h.1)
stops_sooner x calls p q r (fault.BadIndex region at) m h = (h.0 ∙ m, h.1)
stops_sooner x calls p q r (fault.Unfit id) m h = (h.0 ∙ m, h.1)
stops_sooner x calls p q r (fault.BucketFull next depth) m h = (h.0 ∙ m, h.1)
stops_sooner x calls p q r (fault.Number id) m h = (h.0 ∙ m, h.1)
stops_sooner x calls p q r fault.NoMemory m h = tt

-- a call that was answered, and then the others
pub answers_on : (x : Beginning) (c : Call) (rest : List Call) (t u v : Txn) (p q r : RoomPass) (answer : Result (Unit {0}) TxnFault) → AddsCalls (c ∷ []) t.draft u.draft → MeetsNone x p q → AnswersAll x rest u v q r answer → AnswersAll x (c ∷ rest) t v p r answer
answers_on x c rest t u v p q r (Ok done) one met a = (adds_calls_on (c ∷ []) rest t.draft u.draft v.draft one a.0, a.1 ∙ met)
answers_on x c rest t u v p q r (Err f) one met a = stops_sooner x (t.draft.calls ++ c ∷ rest) p q r f met (subst (λ (l : List Call). StopsCalls x l q r f) (ap (λ l. l ++ rest) one.calls_more ∙ append_assoc t.draft.calls (c ∷ []) rest) a)
