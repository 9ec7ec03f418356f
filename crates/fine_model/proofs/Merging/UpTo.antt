-- The rows of a node behind the last epoch that has one.
use Rattle.std.proofs.Common.{◌≡◌, ℕ, suc, ◌<◌, ◌≤◌, nat_le, Bool, true, false, true≢false, ◌||◌, cond, List, [], ◌∷◌, ◌++◌, Some, refl, sym, ap, ◌∙◌, arith}
use Rattle.std.specs.Prelude.{slice_get, take, All}
use Rattle.std.specs.List.{list_any}
use Rattle.std.proofs.lemmas.List.Elements.{All-head, All-tail}
use Rattle.std.proofs.lemmas.List.Sums.{take_while-cons}
use Rattle.fine_model.specs.Types.{NodeId, Row}
use Rattle.fine_model.specs.Nodes.{content, replay, is_node, rows_of}
use Rattle.fine_model.specs.History.{Commit, IsLegal, all_rows, upto}
use Rattle.fine_model.specs.Buckets.{IsUpTo, has_row_on}
use Rattle.fine_model.proofs.Trees.NodeLaws.{content-append, rows_of-append}

-- no row of some is on the node
pub no_rows : (id : NodeId) (rows : List Row) → list_any (λ row. is_node id row.node) rows ≡ false → rows_of id rows ≡ []
no_rows id [] e = refl
no_rows id (row ∷ rows) e = go (is_node id row.node) e (no_rows id rows)
  where
    go : (b : Bool) → b || list_any (λ r. is_node id r.node) rows ≡ false → (list_any (λ r. is_node id r.node) rows ≡ false → rows_of id rows ≡ []) → cond b (row ∷ rows_of id rows) (rows_of id rows) ≡ []
    go true f rest = absurd (true≢false f)
    go false f rest = rest f

module _ (p u : ℕ) (id : NodeId) (le : p ≤ u) where
  pub none_later : (c : Commit) → u < c.epoch → (has_row_on id c ≡ true → c.epoch ≤ p) → has_row_on id c ≡ false
  none_later c later up = go (has_row_on id c) up
    where
      go : (b : Bool) → (b ≡ true → c.epoch ≤ p) → b ≡ false
      go true f = let m = f refl in absurd (omega (arith, m, le, later))
      go false f = refl

  pub rows_both : (c : Commit) (cs : List Commit) → rows_of id (all_rows (c ∷ cs)) ≡ rows_of id c.entry.rows ++ rows_of id (all_rows cs)
  rows_both c cs = rows_of-append id c.entry.rows (all_rows cs)

  -- behind a later epoch no commit has a row on the node
  pub none_behind : (e : ℕ) (history : List Commit) → u < e → ((k : ℕ) (d : Commit) → slice_get history k ≡ Some d → e ≤ d.epoch) → IsUpTo p id history → rows_of id (all_rows history) ≡ []
  none_behind e [] later each up = refl
  none_behind e (c ∷ cs) later each up =
      let at = each 0 c refl in
      rows_both c cs ∙ (ap (λ l. l ++ rows_of id (all_rows cs)) (no_rows id c.entry.rows (none_later c (omega (arith, at, later)) up.0))
      ∙ none_behind e cs later (λ k d is. each (suc k) d is) up.1)

  -- the front of a history in which no epoch falls has all rows on the node
  pub same_rows : (history : List Commit) → ((k : ℕ) (d : Commit) → slice_get history k ≡ Some d → All (λ b. b.epoch ≤ d.epoch) (take k history)) → IsUpTo p id history
      → rows_of id (all_rows (upto history u)) ≡ rows_of id (all_rows history)
  unfolding upto
  same_rows [] each up = refl
  same_rows (c ∷ cs) each up = go (nat_le c.epoch u) refl (same_rows cs (λ k d at. All-tail (λ (b : Commit). b.epoch ≤ d.epoch) c (take k cs) (each (suc k) d at)) up.1)
    where
      front : upto (c ∷ cs) u ≡ cond (nat_le c.epoch u) (c ∷ upto cs u) []
      front = take_while-cons (λ d. nat_le d.epoch u) c cs

      go : (b : Bool) → nat_le c.epoch u ≡ b → rows_of id (all_rows (upto cs u)) ≡ rows_of id (all_rows cs) → rows_of id (all_rows (upto (c ∷ cs) u)) ≡ rows_of id (all_rows (c ∷ cs))
      go true is rest = ap (λ h. rows_of id (all_rows h)) (front ∙ ap (λ b. cond b (c ∷ upto cs u) []) is)
          ∙ (rows_both c (upto cs u) ∙ (ap (λ l. rows_of id c.entry.rows ++ l) rest ∙ sym (rows_both c cs)))
      go false is rest =
          let later : u < c.epoch = grind (arith, is) in
          ap (λ h. rows_of id (all_rows h)) (front ∙ ap (λ b. cond b (c ∷ upto cs u) []) is)
          ∙ sym (rows_both c cs ∙ (ap (λ l. l ++ rows_of id (all_rows cs)) (no_rows id c.entry.rows (none_later c later up.0))
          ∙ none_behind c.epoch cs later (λ k d at. All-head (λ (b : Commit). b.epoch ≤ d.epoch) c (take k cs) (each (suc k) d at)) up.1))

-- so it leaves in the node what the whole history leaves
pub same_content : (p u : ℕ) (id : NodeId) (first : List Row) (history : List Commit) → p ≤ u → IsLegal first history → IsUpTo p id history
    → content (first ++ all_rows (upto history u)) id ≡ content (first ++ all_rows history) id
same_content p u id first history le legal up =
    content-append first (all_rows (upto history u)) id
    ∙ (ap (replay (content first id)) (same_rows p u id le history (λ k d at. (legal.each k d at).epoch) up) ∙ sym (content-append first (all_rows history) id))
