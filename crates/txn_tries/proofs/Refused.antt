-- A refusal after so many commits stands after turns of others, and as seen from an earlier moment.
use Rattle.std.proofs.Common.{◌≡◌, ◌⊎◌, inl, inr, ⊎_elim, ℕ, ◌+◌, ◌≤◌, List, ◌++◌, length, take, refl, sym, ap, ◌∙◌, subst, arith, le_refl, length-append}
use Rattle.std.specs.Prelude.{Contains}
use Rattle.std.proofs.lemmas.List.{take-append-le, take_all}
use Rattle.std.proofs.lemmas.List.Elements.{Contains-append_left}
use Rattle.fine_model.specs.declared.Call.{Call}
use Rattle.fine_model.specs.declared.Row.{Row}
use Rattle.fine_model.specs.declared.ScriptTxn.{ScriptTxn}
use Rattle.fine_model.specs.declared.Outcome.{Outcome}
use Rattle.fine_model.specs.declared.Why.{Why}
use Rattle.fine_model.specs.declared.Why.TheVariants as why
use Rattle.fine_model.specs.Buckets.{Began}
use Rattle.fine_model.specs.History.{Commit, all_rows}
use Rattle.fine_places.specs.declared.model.Placed.{Placed}
use Rattle.fine_hall.specs.declared.law.Beginning.{Beginning}
use Rattle.fine_hall.specs.declared.turn.Turn.{Turn}
use Rattle.fine_hall.specs.Passes.{seen, turns}
use Rattle.fine_hall.specs.Turns.{commits}
use Rattle.fine_hall.proofs.Bucket.{commits_more}
use Rattle.hall_rooms.specs.Rooms.{RoomPass}
use Rattle.lane_laws.specs.Lanes.{CauseAt, OfBegan}
use Rattle.txn_tries.specs.Answering.{EndsWithout}
use Rattle.txn_tries.specs.Turns.{RefusedNow}

-- a cause in some turns is one in more
cause_more : (len : ℕ) (rows : List Row) (turns more : List (Placed Turn)) (calls : List Call) (word : Why) → CauseAt len rows turns calls word → CauseAt len rows (turns ++ more) calls word
cause_more len rows turns more calls why.Large c = c
cause_more len rows turns more calls why.Bucket c = c
cause_more len rows turns more calls why.Number (inl err) = inl err
cause_more len rows turns more calls why.Number (inr (t, there, spent)) = inr (t, Contains-append_left turns more t there, spent)
cause_more len rows turns more calls why.Full (t, there, stuck) = (t, Contains-append_left turns more t there, stuck)

pub seen_more : (p q : RoomPass) (more : List (Placed Turn)) → turns q ≡ turns p ++ more → seen q ≡ seen p ++ commits more
seen_more p q more is = ap commits is ∙ commits_more (turns p) more

pub seen_long : (p q : RoomPass) (more : List (Placed Turn)) → turns q ≡ turns p ++ more → length (seen p) ≤ length (seen q)
seen_long p q more is = let n = ap length (seen_more p q more is) ∙ length-append (seen p) (commits more) in omega (arith, n)

-- by what was pushed after all that the pass saw, or by a turn of these
pub refused_here : (x : Beginning) (p q : RoomPass) (more : List (Placed Turn)) (calls : List Call) (word : Why) → turns q ≡ turns p ++ more → OfBegan x (λ rows. CauseAt x.room.region_len (rows ++ all_rows (seen q)) (turns q) calls word)
    → RefusedNow x p q calls word
refused_here x p q more calls word is holds = record {
  k = length (seen q);
  low = seen_long p q more is;
  within = omega arith;
  holds = λ e first began. subst (λ (l : List Commit). CauseAt x.room.region_len (first ++ all_rows l) (turns q) calls word) (sym (take_all (length (seen q)) (seen q) (le_refl (length (seen q))))) (holds e first began);
}

module _ (x : Beginning) (p q r : RoomPass) (calls : List Call) (word : Why) where
  pub refused_later : (more : List (Placed Turn)) → turns r ≡ turns q ++ more → RefusedNow x p q calls word → RefusedNow x p r calls word
  refused_later more is h = record {
    k = h.k;
    low = h.low;
    within = let a = h.within in let b = seen_long q r more is in omega (arith, a, b);
    holds = λ e first began.
        subst (λ (l : List Commit). CauseAt x.room.region_len (first ++ all_rows l) (turns r) calls word) (sym (ap (take h.k) (seen_more q r more is) ∙ take-append-le h.k (seen q) (commits more) h.within))
        (subst (λ (l : List (Placed Turn)). CauseAt x.room.region_len (first ++ all_rows (take h.k (seen q))) l calls word) (sym is) (cause_more x.room.region_len (first ++ all_rows (take h.k (seen q))) (turns q) more calls word (h.holds e first began)));
  }

  pub refused_sooner : (more : List (Placed Turn)) → turns q ≡ turns p ++ more → RefusedNow x q r calls word → RefusedNow x p r calls word
  refused_sooner more is h = record { k = h.k; low = let a = h.low in let b = seen_long p q more is in omega (arith, a, b); within = h.within; holds = h.holds }

module _ (x : Beginning) (txn : ScriptTxn) (p q r : RoomPass) (o : Outcome) where
  pub without_later : (more : List (Placed Turn)) → turns r ≡ turns q ++ more → EndsWithout x txn p q o → EndsWithout x txn p r o
  without_later more is e = record { of = e.of; run = e.run; none = e.none; not_full = e.not_full; cause = λ word w. refused_later x p q r txn.calls word more is (e.cause word w) }

  pub without_sooner : (more : List (Placed Turn)) → turns q ≡ turns p ++ more → EndsWithout x txn q r o → EndsWithout x txn p r o
  without_sooner more is e = record { of = e.of; run = e.run; none = e.none; not_full = e.not_full; cause = λ word w. refused_sooner x p q r txn.calls word more is (e.cause word w) }
