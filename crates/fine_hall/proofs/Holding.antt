-- What others commit is in no bucket that a pass holds.
use Rattle.std.proofs.Common.{◌≡◌, ◌≢◌, ℕ, ◌<◌, ◌==◌, false, true≢false, cond, List, [], ◌∷◌, ◌++◌, Option, refl, sym, ap, ◌∙◌, ⊎_elim, arith, eq-eqb, ne_eqb, append-nil}
use Rattle.std.specs.Prelude.{filter, length}
use Rattle.std.specs.List.{AllByRecursion, list_any}
use Rattle.std.proofs.lemmas.List.Elements.{filter-append}
use Rattle.fine_model.specs.declared.Row.{Row}
use Rattle.fine_model.specs.History.{Commit, all_rows}
use Rattle.fine_model.specs.Nodes.{Content}
use Rattle.fine_model.proofs.Histories.Epochs.{rows_together}
use Rattle.fine_model.proofs.Histories.Goings.{buckets_on}
use Rattle.fine_places.specs.declared.model.Placed.{Placed}
use Rattle.fine_places.specs.History as places
use Rattle.fine_places.proofs.Lists.{all_append}
use Rattle.fine_hall.specs.declared.turn.Turn.{Turn}
use Rattle.fine_hall.specs.declared.pass.Pass.{Pass}
use Rattle.fine_hall.specs.Turns.{commits, committed, in_bucket, is_in}
use Rattle.fine_hall.specs.Passes.{turns, published, seen, HasPlace}
use Rattle.fine_hall.specs.Halls.{SeesMore}
use Rattle.fine_hall.specs.HeldLaws.{RowsElsewhere, HeldStands, BesideStands}
use Rattle.fine_hall.proofs.Bucket.{bool_cases, commits_more, no_row_in, or_left, or_right, same_bucket}
use Rattle.fine_hall.proofs.Turning.{nothing_more}

not_in : (k n : ℕ) → (n == k) ≡ false → n ≢ k
not_in k n e same = absurd (true≢false (sym (eq-eqb n k same) ∙ e))

all_elsewhere : (k : ℕ) (rows : List Row) → list_any (λ row. row.node.bucket == k) rows ≡ false → AllByRecursion (λ row. row.node.bucket ≢ k) rows
all_elsewhere k [] e = tt
all_elsewhere k (row ∷ rows) e = (not_in k row.node.bucket (or_left (row.node.bucket == k) _ e), all_elsewhere k rows (or_right (row.node.bucket == k) _ e))

filtered_none : (k : ℕ) (rows : List Row) → AllByRecursion (λ row. row.node.bucket ≢ k) rows → filter (λ row. row.node.bucket == k) rows ≡ []
filtered_none k [] all = refl
filtered_none k (row ∷ rows) all = ap (λ b. cond b (row ∷ filter (λ (r : Row). r.node.bucket == k) rows) (filter (λ (r : Row). r.node.bucket == k) rows)) (ne_eqb row.node.bucket k all.0) ∙ filtered_none k rows all.1

not_nil : (c : Commit) (cs : List Commit) → c ∷ cs ≡ [] → ⊥
not_nil c cs e = let n = ap length e in absurd (omega arith)

-- commits that are not in a bucket have no row there
rows_elsewhere : (k : ℕ) (cs : List Commit) → in_bucket k cs ≡ [] → AllByRecursion (λ row. row.node.bucket ≢ k) (all_rows cs)
rows_elsewhere k [] none = tt
rows_elsewhere k (c ∷ cs) none = ⊎_elim
    (λ on. absurd (not_nil c (in_bucket k cs) (ap (λ b. cond b (c ∷ in_bucket k cs) (in_bucket k cs)) (sym on) ∙ none)))
    (λ off. all_append (λ (row : Row). row.node.bucket ≢ k) c.entry.rows (all_rows cs) (all_elsewhere k c.entry.rows (no_row_in k c.entry off)) (rows_elsewhere k cs (ap (λ b. cond b (c ∷ in_bucket k cs) (in_bucket k cs)) (sym off) ∙ none)))
    (bool_cases (is_in k c.entry))

module _ {V : Type 0} (p p' : Pass V) (sees : SeesMore p p') where
  abbrev more : List (Placed Turn)
  more = sees.longer.0

  longer : seen p' ≡ seen p ++ commits more
  longer = ap commits sees.longer.1 ∙ commits_more (turns p) more

  none_there : (k : ℕ) → k < places.room → HasPlace p k → in_bucket k (commits more) ≡ []
  none_there k low holds = nothing_more (in_bucket k (seen p)) (in_bucket k (commits more)) (sees.kept k low holds ∙ (ap (in_bucket k) longer ∙ filter-append (λ (c : Commit). is_in k c.entry) (seen p) (commits more)))

pub adds_elsewhere : {V : Type 0} → RowsElsewhere V
adds_elsewhere p p' sees = record {
  more = all_rows (commits (sees.longer.0));
  behind = ap all_rows (longer p p' sees) ∙ rows_together (seen p) (commits (sees.longer.0));
  elsewhere = λ k low holds. rows_elsewhere k (commits (sees.longer.0)) (none_there p p' sees k low holds);
  none = λ k low holds. filtered_none k (all_rows (commits (sees.longer.0))) (rows_elsewhere k (commits (sees.longer.0)) (none_there p p' sees k low holds));
}

module _ {B : Type 0} (bucket : B → ℕ) (cached : B → ℕ → Option (Content × ℕ)) (is_settled : B → Type 0) where
  pub held_stands : {V : Type 0} → HeldStands bucket cached is_settled V
  held_stands x p p' k b low holds sees s = buckets_on bucket cached is_settled x.log k (published p) (published p') b (seen p') sees.no_earlier
      (same_bucket bucket cached is_settled x k (published p) b (seen p) (seen p') (sees.kept k low holds) s)

  pub beside_stands : BesideStands bucket cached is_settled
  beside_stands x k number b history entry epoch off s = same_bucket bucket cached is_settled x k number b history (history ++ committed entry epoch ∷ [])
      (sym (filter-append (λ (c : Commit). is_in k c.entry) history (committed entry epoch ∷ []) ∙ (ap (λ v. in_bucket k history ++ cond v (committed entry epoch ∷ []) []) off ∙ append-nil (in_bucket k history)))) s
