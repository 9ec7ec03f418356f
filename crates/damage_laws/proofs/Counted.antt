-- Rows of which each node's versions go up by one may be sorted for a partition.
use Rattle.std.proofs.Common.{◌≡◌, ◌∙◌, ◌⊎◌, inl, inr, ℕ, ◌+◌, Bool, true, false, cond, List, [], ◌∷◌, ◌++◌, map, refl, sym, ap, subst, true≢false}
use Rattle.fine_model.specs.declared.NodeId.{NodeId}
use Rattle.fine_model.specs.declared.Rec.TheVariants as rec
use Rattle.fine_model.specs.declared.Row.{Row}
use Rattle.fine_model.specs.Nodes.{Content, base, content, is_node, replay, rows_of, step}
use Rattle.fine_model.specs.VersionLaws.{VersionsFollow}
use Rattle.fine_model.proofs.Ordered.Arranged.{lower_law, ordered_law}
use Rattle.fine_model.proofs.Trees.LeafLaw.{content-push}
use Rattle.fine_model.proofs.Merging.NodesIn.{is_node-self, same_node}
use Rattle.fine_model.proofs.Merging.Unstable.{unstable_law}
use Rattle.damage_laws.specs.Counts.{CountFrom, CountedLaw}

-- rows whose versions count behind what others leave in each node follow on these
follow_on : (before rows : List Row) → ((id : NodeId) → CountFrom (content before id).1 (rows_of id rows)) → VersionsFollow before rows
unfolding step
follow_on before [] each = tt
follow_on before (row ∷ rows) each = (first (is_node row.node row.node) (is_node-self row.node) (each row.node), follow_on (before ++ row ∷ []) rows (λ id. rest id (is_node id row.node) refl (each id)))
  where
    first : (t : Bool) → t ≡ true → CountFrom (content before row.node).1 (cond t (row ∷ rows_of row.node rows) (rows_of row.node rows)) → row.version ≡ (content before row.node).1 + 1
    first true e up = up.0
    first false e up = absurd (true≢false (sym e))

    rest : (id : NodeId) (t : Bool) → is_node id row.node ≡ t → CountFrom (content before id).1 (cond t (row ∷ rows_of id rows) (rows_of id rows)) → CountFrom (content (before ++ row ∷ []) id).1 (rows_of id rows)
    rest id true e up = subst (λ (c : Content). CountFrom c.1 (rows_of id rows)) (sym (content-push before row id ∙ ap (λ b. cond b (step (content before id) row) (content before id)) e)) up.1
    rest id false e up = subst (λ (c : Content). CountFrom c.1 (rows_of id rows)) (sym (content-push before row id ∙ ap (λ b. cond b (step (content before id) row) (content before id)) e)) up

module _ (version : NodeId → ℕ) where
  -- an image of the node of a row, with the version behind which the node's rows count
  before_row : Row → Row
  before_row row = record { node = row.node; version = version row.node; rec = rec.LeafImage [] }

  stays : (id : NodeId) (c : Content) (rows : List Row) → c.1 ≡ version id → (replay c (rows_of id (map before_row rows))).1 ≡ version id
  unfolding replay step before_row
  stays id c [] is = is
  stays id c (row ∷ rows) is = by (is_node id row.node) refl (λ d e. stays id d rows e)
    where
      by : (t : Bool) → is_node id row.node ≡ t → ((d : Content) → d.1 ≡ version id → (replay d (rows_of id (map before_row rows))).1 ≡ version id)
          → (replay c (cond t (before_row row ∷ rows_of id (map before_row rows)) (rows_of id (map before_row rows)))).1 ≡ version id
      by true e rest = rest (step c (before_row row)) (ap version (sym (same_node id row.node e)))
      by false e rest = rest c is

  -- where some row is of the node, they leave it with that version
  begun : (id : NodeId) (c : Content) (rows : List Row) → (rows_of id rows ≡ []) ⊎ ((replay c (rows_of id (map before_row rows))).1 ≡ version id)
  unfolding replay step before_row
  begun id c [] = inl refl
  begun id c (row ∷ rows) = by (is_node id row.node) refl (begun id c rows)
    where
      by : (t : Bool) → is_node id row.node ≡ t → (rows_of id rows ≡ []) ⊎ ((replay c (rows_of id (map before_row rows))).1 ≡ version id)
          → (cond t (row ∷ rows_of id rows) (rows_of id rows) ≡ []) ⊎ ((replay c (cond t (before_row row ∷ rows_of id (map before_row rows)) (rows_of id (map before_row rows)))).1 ≡ version id)
      by true e rest = inr (stays id (step c (before_row row)) rows (ap version (sym (same_node id row.node e))))
      by false e rest = rest

  follows : (rows : List Row) → ((id : NodeId) → CountFrom (version id) (rows_of id rows)) → VersionsFollow (map before_row rows) rows
  unfolding content
  follows rows each = follow_on (map before_row rows) rows (λ id. by id (begun id (base id) rows))
    where
      by : (id : NodeId) → (rows_of id rows ≡ []) ⊎ ((replay (base id) (rows_of id (map before_row rows))).1 ≡ version id) → CountFrom (content (map before_row rows) id).1 (rows_of id rows)
      by id (inl none) = subst (CountFrom (content (map before_row rows) id).1) (sym none) tt
      by id (inr same) = subst (λ v. CountFrom v (rows_of id rows)) (sym same) (each id)

pub counted : CountedLaw
counted rows sorted each permuted up =
    let follow = follows (λ id. (each id).0) rows (λ id. (each id).1) in
    let same = unstable_law (map (before_row (λ id. (each id).0)) rows) rows sorted follow permuted up in
    (same, ordered_law (map (before_row (λ id. (each id).0)) rows) rows sorted follow same (lower_law sorted up))
