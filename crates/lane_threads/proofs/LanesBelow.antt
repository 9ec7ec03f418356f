-- The parts of all lanes below one, as a loop over the lanes makes them.
use Rattle.std.proofs.Common.{◌≡◌, ℕ, ◌+◌, ◌-◌, ◌≤◌, Bool, true, false, cond, List, [], ◌∷◌, ◌++◌, map, sym, ap, ◌∙◌, subst, inl, inr, arith}
use Rattle.std.proofs.lemmas.List.{append-nil, map-id, map-append}
use Rattle.std.proofs.lemmas.List.FromFn.{filter_of_map_range_with_len_more}
use Rattle.std.specs.Prelude.{filter, slice_get, Some}
use Rattle.std.specs.List.{range_with_len}
use Rattle.fine_model.specs.declared.ScriptTxn.{ScriptTxn}
use Rattle.fine_model.proofs.Histories.HistoryLaws.{slice_get-push}
use Rattle.lane_threads.specs.declared.worker.Part.{Part}
use Rattle.lane_threads.specs.Means.{AreNewParts, IsNewPart, lanes_of, names}

pub record HasLanesBelow (script : List ScriptTxn) (bound : ℕ) (parts : List Part) : Type 0 where
  pub lanes : map (λ (p : Part). p.lane.lane) parts ≡ filter (names script) (range_with_len 1 (bound - 1))
  pub each : (k : ℕ) (p : Part) → slice_get parts k ≡ Some p → IsNewPart script p.lane.lane p

-- a range that is longer by one
filter_more : (test : ℕ → Bool) (a n j : ℕ) → a + n ≡ j → filter test (range_with_len a (n + 1)) ≡ filter test (range_with_len a n) ++ cond (test j) (j ∷ []) []
filter_more test a n j is = ap (filter test) (sym (map-id (range_with_len a (n + 1)))) ∙ (filter_of_map_range_with_len_more test (λ k. k) a n j is ∙ ap (λ l. filter test l ++ cond (test j) (j ∷ []) []) (map-id (range_with_len a n)))

next_lane : (test : ℕ → Bool) (lane : ℕ) → 1 ≤ lane → filter test (range_with_len 1 (lane + 1 - 1)) ≡ filter test (range_with_len 1 (lane - 1)) ++ cond (test lane) (lane ∷ []) []
next_lane test lane some = let e : lane + 1 - 1 ≡ lane - 1 + 1 = omega arith in ap (λ n. filter test (range_with_len 1 n)) e ∙ filter_more test 1 (lane - 1) lane (omega arith)

-- a lane of which the script has nothing
pub lane_passed : (script : List ScriptTxn) (lane : ℕ) (parts : List Part) → 1 ≤ lane → names script lane ≡ false → HasLanesBelow script lane parts → HasLanesBelow script (lane + 1) parts
lane_passed script lane parts some not before = record {
  lanes = before.lanes ∙ (sym (append-nil _) ∙ (ap (λ b. filter (names script) (range_with_len 1 (lane - 1)) ++ cond b (lane ∷ []) []) (sym not) ∙ sym (next_lane (names script) lane some)));
  each = before.each;
}

-- and one with a part
pub lane_taken : (script : List ScriptTxn) (lane : ℕ) (parts : List Part) (p : Part) → 1 ≤ lane → names script lane ≡ true → IsNewPart script lane p → HasLanesBelow script lane parts → HasLanesBelow script (lane + 1) (parts ++ p ∷ [])
lane_taken script lane parts p some is new before =
    let number : p.lane.lane ≡ lane = ap (λ l. l.lane) new.0 in
    record {
      lanes = map-append (λ (q : Part). q.lane.lane) parts (p ∷ [])
          ∙ (ap (λ l. l ++ p.lane.lane ∷ []) before.lanes
          ∙ (ap (λ n. filter (names script) (range_with_len 1 (lane - 1)) ++ n ∷ []) number
          ∙ (ap (λ b. filter (names script) (range_with_len 1 (lane - 1)) ++ cond b (lane ∷ []) []) (sym is) ∙ sym (next_lane (names script) lane some))));
      each = λ k q at. elim (slice_get-push parts p q k at) as (λ _. IsNewPart script q.lane.lane q) [
        | inl earlier ↦ before.each k q earlier.1
        | inr last ↦ subst (λ r. IsNewPart script r.lane.lane r) (sym last.1) (subst (λ n. IsNewPart script n p) (sym number) new)
      ];
    }

-- behind the last lane there are all
pub lanes_all : (script : List ScriptTxn) (bound : ℕ) (parts : List Part) → bound ≡ 17 → HasLanesBelow script bound parts → AreNewParts script parts
unfolding lanes_of
lanes_all script bound parts is all = record { lanes = all.lanes ∙ ap (λ n. filter (names script) (range_with_len 1 (n - 1))) is; each = all.each }
