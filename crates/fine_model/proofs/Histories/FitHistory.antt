-- All rows of a legal history are within bounds.
use Rattle.std.proofs.Common.{◌≡◌, ℕ, zero, suc, ◌≤◌, IsTrue, List, [], ◌∷◌, ◌++◌, length, take, slice_get, Some, sym, ap, ◌∙◌, subst, arith, append-nil}
use Rattle.std.specs.List.{AllByRecursion}
use Rattle.std.proofs.lemmas.Grind.{flat_map-append}
use Rattle.fine_model.specs.Types.{Row}
use Rattle.fine_model.specs.Types.mark
use Rattle.fine_model.specs.RowBytes.{FitsRow}
use Rattle.fine_model.specs.Trees.{IsSound}
use Rattle.fine_model.specs.History.{Commit, IsNext, IsLegal, all_rows}
use Rattle.fine_model.specs.Bounds.{FitsCall}
use Rattle.fine_model.specs.Laws.{is_small, AreSmall}
use Rattle.fine_model.specs.BoundLaws.{LegalFits}
use Rattle.fine_model.proofs.Ordered.Order.{all_map}
use Rattle.fine_model.proofs.Ordered.Sets.{all_append}
use Rattle.fine_model.proofs.Ordered.Lists.{all_at}
use Rattle.fine_model.proofs.Histories.Legal.{taken, all_taken, legal_from}
use Rattle.fine_model.proofs.Histories.Stated.{small_law}
use Rattle.fine_model.proofs.Trees.FitPushed.{pushed_fits}

abbrev AreWithin : List Row → Type 0
AreWithin rows = AllByRecursion (FitsRow mark.Two) rows

module _ (first : List Row) (history : List Commit) (calls : AllByRecursion (λ c. AllByRecursion FitsCall c.entry.calls) history) (sound : IsSound first) (fits : AreWithin first) (legal : IsLegal first history) where
  small : AreSmall first
  small = record { each = all_map (FitsRow mark.Two) (λ row. IsTrue (is_small row.rec)) (λ row f. small_law mark.Two row f) first fits }

  fits_from : (n : ℕ) → n ≤ length history → AreWithin (all_rows (take n history))
  fits_from zero h = tt
  fits_from (suc n) h = by (taken history n (omega (arith, h))) (fits_from n (omega (arith, h)))
    where
      by : (c : Commit) × (slice_get history n ≡ Some c) × (take (suc n) history ≡ take n history ++ c ∷ []) → AreWithin (all_rows (take n history)) → AreWithin (all_rows (take (suc n) history))
      by (c, is, more) before =
          let next : IsNext first (take n history) c = legal.each n c is in
          let p = legal_from first small sound history legal n (omega (arith, h)) in let m = p.has_map in
          subst AreWithin (sym (ap all_rows more ∙ flat_map-append (λ d. d.entry.rows) (take n history) (c ∷ []) ∙ ap (λ rs. all_rows (take n history) ++ rs) (append-nil c.entry.rows)))
          (all_append (FitsRow mark.Two) (all_rows (take n history)) c.entry.rows before
          (pushed_fits (first ++ all_rows (take n history)) c.entry.rows c.entry.calls (all_at (λ d. AllByRecursion FitsCall d.entry.calls) n history c calls is) m.sound
          (all_append (FitsRow mark.Two) first (all_rows (take n history)) fits before) next.rows))

pub legal_fits : LegalFits
legal_fits first history calls sound fits legal = subst (λ h. AreWithin (all_rows h)) (all_taken history) (fits_from first history calls sound fits legal (length history) (omega arith))
