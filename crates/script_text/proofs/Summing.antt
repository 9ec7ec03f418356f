-- The summary of a generated run, part by part, and the sum of its counters.
use Rattle.std.proofs.Common.{◌≡◌, ℕ, zero, suc, ◌+◌, ◌-◌, max, Bool, false, cond, List, [], ◌∷◌, ◌++◌, length, filter, replicate, count_by, sum_by, Option, Some, None, refl, sym, ap, subst, ◌∙◌, append_assoc, codes, decimal, arith}
use Rattle.std.specs.List.{range_with_len}
use Rattle.std.proofs.lemmas.List.{length-append, length-replicate}
use Rattle.std.proofs.lemmas.List.Sums.{length-filter, sum_by_push}
use Rattle.fine_model.specs.declared.Outcome.{Outcome}
use Rattle.fine_model.specs.declared.Outcome.TheVariants as outcome
use Rattle.fine_model.specs.declared.RunFault.{RunFault}
use Rattle.fine_model.specs.declared.ScriptTxn.{ScriptTxn}
use Rattle.fine_model.specs.Commands.{counters_summed, map_lines, small_number, summary}
use Rattle.fine_model.specs.Map.{Pair, get}
use Rattle.fine_model.specs.Outcomes.{is_aborted, is_committed, is_refused}
use Rattle.fine_model.specs.Report.{all_outcomes, fault_line, fault_lines, line}
use Rattle.fine_model.proofs.Ordered.Lists.{range_more}
use Rattle.script_text.specs.Pages.{Desk, Sends}
use Rattle.script_text.specs.Summaries.{counted_lines, durable_line, first_summed, gen_line}
use Rattle.script_text.proofs.Paging.{sends_none, sends_then}

-- ---- the counters

-- a counter more
pub summed_more : (m : List Pair) (i : ℕ) → first_summed m (i + 1) ≡ first_summed m i + small_number (get m (codes "c" ++ decimal i))
unfolding first_summed
summed_more m i =
    let f : ℕ → ℕ = λ n. small_number (get m (codes "c" ++ decimal n)) in
    let e : 0 + i ≡ i = omega arith in
    ap (sum_by f) (range_more 0 i) ∙ ap (λ n. sum_by f (range_with_len 0 i ++ n ∷ [])) e ∙ sum_by_push f (range_with_len 0 i) i

pub none_summed : (m : List Pair) → first_summed m 0 ≡ 0
unfolding first_summed
none_summed m = refl

pub all_summed : (m : List Pair) → counters_summed m ≡ first_summed m 64
unfolding first_summed
all_summed m = refl

-- ---- the outcomes

-- those that were not run have no other outcome
none_of : (p : Outcome → Bool) (n : ℕ) → p outcome.NotRun ≡ false → filter p (replicate n outcome.NotRun) ≡ []
none_of p zero none = refl
none_of p (suc n) none = ap (λ b. cond b (outcome.NotRun ∷ filter p (replicate n outcome.NotRun)) (filter p (replicate n outcome.NotRun))) none ∙ none_of p n none

behind : (p : Outcome → Bool) (outcomes : List Outcome) (n : ℕ) → p outcome.NotRun ≡ false → filter p (outcomes ++ replicate n outcome.NotRun) ≡ filter p outcomes
behind p [] n none = none_of p n none
behind p (x ∷ outcomes) n none = ap (λ t. cond (p x) (x ∷ t) t) (behind p outcomes n none)

counted : (p : Outcome → Bool) (outcomes : List Outcome) (n : ℕ) → p outcome.NotRun ≡ false → count_by p (outcomes ++ replicate n outcome.NotRun) ≡ count_by p outcomes
counted p outcomes n none = sym (length-filter p (outcomes ++ replicate n outcome.NotRun)) ∙ ap length (behind p outcomes n none) ∙ length-filter p outcomes

many : (script : List ScriptTxn) (outcomes : List Outcome) → length (all_outcomes script outcomes) ≡ max (length script) (length outcomes)
many script outcomes = length-append outcomes (replicate (length script - length outcomes) outcome.NotRun) ∙ ap (λ n. length outcomes + n) (length-replicate (length script - length outcomes) outcome.NotRun) ∙ omega arith

module _ (script : List ScriptTxn) (outcomes : List Outcome) where
  n : ℕ
  n = length script - length outcomes

  pub counted_all : counted_lines (all_outcomes script outcomes) (length (all_outcomes script outcomes)) ≡ counted_lines outcomes (max (length script) (length outcomes))
  unfolding n
  counted_all = λ i. lines (many script outcomes i) (counted is_committed outcomes n refl i) (counted is_aborted outcomes n refl i) (counted is_refused outcomes n refl i)
    where
      lines : ℕ → ℕ → ℕ → ℕ → List ℕ
      lines all commits aborts refused =
          line (codes "commits" ∷ decimal commits ∷ [])
          ++ line (codes "aborts" ∷ decimal aborts ∷ [])
          ++ line (codes "refused" ∷ decimal refused ∷ [])
          ++ line (codes "none" ∷ decimal (all - commits - aborts - refused) ∷ [])

-- ---- the parts

regroup : (g c a r n m d : List ℕ) → g ++ (c ++ a ++ r ++ n) ++ m ++ d ≡ g ++ c ++ a ++ r ++ n ++ m ++ d
regroup g c a r n m d = ap (λ t. t ++ m ++ d) (sym (append_assoc g (c ++ a ++ r) n) ∙ ap (λ t. t ++ n) (sym (append_assoc g (c ++ a) r) ∙ ap (λ t. t ++ r) (sym (append_assoc g c a))))

pub sends_summary : (start lanes : ℕ) (script : List ScriptTxn) (outcomes : List Outcome) (m : Option (List Pair)) (all_durable : Bool) (fault : Option RunFault) (all : ℕ) (a b c d e f : Desk)
    → all ≡ max (length script) (length outcomes) → Sends (gen_line start (length script) lanes) a b → Sends (counted_lines outcomes all) b c → Sends (map_lines m) c d → Sends (durable_line all_durable) d e
    → Sends (fault_lines fault) e f → Sends (summary start (length script) lanes (all_outcomes script outcomes) m all_durable ++ fault_lines fault) a f
sends_summary start lanes script outcomes m all_durable fault all a b c d e f is p q r s t =
    let lines = counted_lines (all_outcomes script outcomes) (length (all_outcomes script outcomes)) in
    let q' : Sends lines b c = subst (λ x. Sends x b c) (ap (counted_lines outcomes) is ∙ sym (counted_all script outcomes)) q in
    let front : Sends (gen_line start (length script) lanes ++ lines) a c = sends_then (gen_line start (length script) lanes) lines a b c p q' in
    let more : Sends (gen_line start (length script) lanes ++ lines ++ map_lines m) a d = sends_then (gen_line start (length script) lanes ++ lines) (map_lines m) a c d front r in
    let whole : Sends (gen_line start (length script) lanes ++ lines ++ map_lines m ++ durable_line all_durable) a e = sends_then (gen_line start (length script) lanes ++ lines ++ map_lines m) (durable_line all_durable) a d e more s in
    let grouped = subst (λ x. Sends x a e) (regroup (gen_line start (length script) lanes) (line (codes "commits" ∷ decimal (count_by is_committed (all_outcomes script outcomes)) ∷ []))
    (line (codes "aborts" ∷ decimal (count_by is_aborted (all_outcomes script outcomes)) ∷ [])) (line (codes "refused" ∷ decimal (count_by is_refused (all_outcomes script outcomes)) ∷ []))
    (line (codes "none" ∷ decimal (length (all_outcomes script outcomes) - count_by is_committed (all_outcomes script outcomes) - count_by is_aborted (all_outcomes script outcomes) - count_by is_refused (all_outcomes script outcomes)) ∷ [])) (map_lines m) (durable_line all_durable)) whole in
    sends_then (summary start (length script) lanes (all_outcomes script outcomes) m all_durable) (fault_lines fault) a e f grouped t

-- the line of a fault, where there is one
pub sends_end : (fault : Option RunFault) (f : RunFault) (a b : Desk) → fault ≡ Some f → Sends (fault_line f) a b → Sends (fault_lines fault) a b
unfolding fault_lines
sends_end fault f a b is p = subst (λ t. Sends t a b) (sym (ap fault_lines is)) p

pub sends_no_end : (fault : Option RunFault) (a : Desk) → fault ≡ None → Sends (fault_lines fault) a a
unfolding fault_lines
sends_no_end fault a is = subst (λ t. Sends t a a) (sym (ap fault_lines is)) (sends_none a)
