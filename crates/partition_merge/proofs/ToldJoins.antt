-- What a merger hands out over told bytes, in the grammar or not.
use Rattle.std.proofs.Common.{◌≡◌, ◌⊎◌, inl, inr, ℕ, ◌+◌, ◌<◌, ◌≤◌, true, false, List, [], ◌∷◌, ◌++◌, length, Some, None, Ok, refl, sym, ap, ◌∙◌, subst, arith, true≢false}
use Rattle.std.specs.Prelude.{Option, Result}
use Rattle.std.specs.List.{AllByRecursion}
use Rattle.fine_model.specs.declared.NodeId.{NodeId}
use Rattle.fine_model.specs.declared.Part.{Part}
use Rattle.fine_model.specs.declared.Rec.{Rec}
use Rattle.fine_model.specs.declared.Row.{Row}
use Rattle.fine_model.specs.Merge.{image_of, is_node_below, merged_into}
use Rattle.fine_model.specs.Nodes.{base, replay}
use Rattle.fine_model.specs.Regions.{Image, body_in}
use Rattle.fine_model.specs.Seek.{RowSpan, SpanHolds, entry_at, is_entry, span_at}
use Rattle.fine_model.proofs.Merging.NodeOrder.{above_or_same, below-asym}
use Rattle.fine_model.proofs.Merging.NodesIn.{is_node_below-self}
use Rattle.fine_model.proofs.Ordered.Sets.{all_append}
use Rattle.node_fetch.proofs.SpanLaws.{holds_same}
use Rattle.partition_index.specs.Entries.{row_span_of}
use Rattle.partition_merge.specs.declared.merger.Merger.{Merger}
use Rattle.partition_merge.specs.declared.merger.Source.{Source}
use Rattle.partition_merge.specs.Merging.{merged_of}
use Rattle.partition_merge.specs.Mergers.{IsPast, JoinsAll, TakesRows, newer_part, older_part}
use Rattle.partition_merge.specs.Joined.{JoinsOnce}
use Rattle.partition_merge.proofs.Joining.{merged_own}

-- no rows are merged into none
pub merged_nothing : (id : NodeId) → merged_of id [] ≡ []
unfolding merged_of merged_into
merged_nothing id = by (image_of (replay (base id) []).0)
  where
    by : (image : Option Rec) → merged_into id [] (replay (base id) []).1 image ≡ []
    by None = refl
    by (Some image) = refl

module _ (image : Image) where
  abbrev pub body_of : Part → List ℕ
  body_of p = body_in image p.region p.header

  abbrev pub node_at : Part → ℕ → NodeId
  node_at p i = (entry_at p.header (body_of p) i).node

  -- the rows of the span of an entry, which names their node
  pub record Took (p : Part) (id : NodeId) (i : ℕ) (rows : List Row) : Type 0 where
    pub there : i < p.header.nodes
    pub good : is_entry p.header (entry_at p.header (body_of p) i) ≡ true
    pub names : node_at p i ≡ id
    pub span : RowSpan
    pub is_span : span_at p.header (body_of p) i ≡ Ok span
    pub holds : SpanHolds p.header (body_of p) span id rows

  -- no rows: no entry is left, or the next one names a higher node
  pub record Passed (p : Part) (id : NodeId) (i : ℕ) (rows : List Row) : Type 0 where
    pub none : rows ≡ []
    pub past : (p.header.nodes ≤ i) ⊎ (is_node_below id (node_at p i) ≡ true)

  -- one step in a part, from the number of an entry to that of another
  abbrev pub Steps : Part → NodeId → ℕ → ℕ → List Row → Type 0
  Steps p id i k rows = (Passed p id i rows × (k ≡ i)) ⊎ (Took p id i rows × (k ≡ i + 1))

  -- the rows of one node, joined from both parts
  pub record One (p q : Part) (i j k l : ℕ) (rows : List Row) : Type 0 where
    pub node : NodeId
    pub older : List Row
    pub newer : List Row
    pub of_older : Steps p node i k older
    pub of_newer : Steps q node j l newer
    pub joined : rows ≡ merged_of node (older ++ newer)
    pub some : 1 ≤ length rows

  abbrev pub Joins : Part → Part → ℕ → ℕ → List (List Row) → Type 0
  Joins p q i j [] = (p.header.nodes ≤ i) × (q.header.nodes ≤ j)
  Joins p q i j (rows ∷ later) = (k : ℕ) × (l : ℕ) × One p q i j k l rows × Joins p q k l later

  step_own : (p : Part) (id : NodeId) (i k : ℕ) (rows : List Row) → Steps p id i k rows → AllByRecursion (λ r. r.node ≡ id) rows
  step_own p id i k rows (inl (passed, stays)) = subst (AllByRecursion (λ r. r.node ≡ id)) (sym passed.none) tt
  step_own p id i k rows (inr (took, moves)) = let h = took.holds in h.begins.of_node

  pub one_own : (p q : Part) (i j k l : ℕ) (rows : List Row) (one : One p q i j k l rows) → AllByRecursion (λ r. r.node ≡ one.node) rows
  one_own p q i j k l rows one =
      subst (AllByRecursion (λ r. r.node ≡ one.node)) (sym one.joined)
      (merged_own one.node (one.older ++ one.newer) (all_append (λ r. r.node ≡ one.node) one.older one.newer (step_own p one.node i k one.older one.of_older) (step_own q one.node j l one.newer one.of_newer)))

  -- ---- by the steps of a merger

  past_of : (source : Source) (id : NodeId) → IsPast (Some image) id source → (source.part.header.nodes ≤ source.next) ⊎ (is_node_below id (node_at source.part source.next) ≡ true)
  past_of source id (inl none) = inl (omega (arith, none))
  past_of source id (inr (entry, is, above)) = inr (ap (λ e. is_node_below id e.node) is.told ∙ above)

  steps_of : (id : NodeId) (before after : Source) (rows : List Row) → TakesRows (Some image) id before after rows → Steps before.part id before.next after.next rows
  unfolding TakesRows
  steps_of id before after rows (inl passed) = inl (record { none = passed.none; past = past_of before id passed.past }, passed.stays)
  steps_of id before after rows (inr some) =
      let e = some.is_entry in
      let s = some.is_span in
      let h = some.holds in (
      inr (
        record {
          there = some.there;
          good = ap (is_entry before.part.header) e.told ∙ e.sound;
          names = ap (λ x. x.node) e.told ∙ some.names;
          span = row_span_of some.span;
          is_span = s.told;
          holds = subst (λ b. SpanHolds before.part.header b (row_span_of some.span) id rows) h.is_body h.holds;
        },
        some.moves,
      )
      )

  pub joins_of : (m : Merger) (joins : List (List Row)) → JoinsAll (Some image) m joins → Joins (older_part m) (newer_part m) m.older.next m.newer.next joins
  joins_of m [] none = (omega (arith, none), omega (arith, none))
  joins_of m (rows ∷ later) (next, older, newer, join, all) = (
    next.older.next,
    next.newer.next,
    record {
      node = join.node;
      older = join.older;
      newer = join.newer;
      of_older = steps_of join.node m.older next.older join.older join.of_older;
      of_newer = steps_of join.node m.newer next.newer join.newer join.of_newer;
      joined = join.joined;
      some = join.some;
    },
    subst (λ p. Joins p (newer_part m) next.older.next next.newer.next later) older (subst (λ q. Joins (older_part next) q next.older.next next.newer.next later) newer (joins_of next later all)),
  )

  -- ---- one answer

  -- an entry that is left names the node or a higher one
  pub not_lower : (p : Part) (id : NodeId) (i k : ℕ) (rows : List Row) → Steps p id i k rows → i < p.header.nodes → is_node_below (node_at p i) id ≡ false
  not_lower p id i k rows (inl (passed, stays)) there = elim passed.past as (λ _. is_node_below (node_at p i) id ≡ false) [
    | inl end ↦ absurd (omega (arith, end, there))
    | inr above ↦ below-asym id (node_at p i) above
  ]
  not_lower p id i k rows (inr (took, moves)) there = subst (λ n. is_node_below (node_at p i) n ≡ false) took.names (is_node_below-self (node_at p i))

  -- one of the parts has rows
  some_took : (p q : Part) (i j k l : ℕ) (rows : List Row) (one : One p q i j k l rows) → Took p one.node i one.older ⊎ Took q one.node j one.newer
  some_took p q i j k l rows one = by one.of_older one.of_newer
    where
      by : Steps p one.node i k one.older → Steps q one.node j l one.newer → Took p one.node i one.older ⊎ Took q one.node j one.newer
      by (inr (took, moves)) other = inl took
      by (inl passed) (inr (took, moves)) = inr took
      by (inl passed) (inl passed') =
          let none : rows ≡ [] = one.joined ∙ (λ t. merged_of one.node (passed.0.none t ++ passed'.0.none t)) ∙ merged_nothing one.node in
          let some = one.some in
          absurd (omega (arith, some, ap length none))

  module _ (p q : Part) (i j : ℕ) where
    not_below : (k l k' l' : ℕ) (rows rows' : List Row) (a : One p q i j k l rows) (b : One p q i j k' l' rows') → is_node_below a.node b.node ≡ false
    not_below k l k' l' rows rows' a b = elim (some_took p q i j k l rows a) as (λ _. is_node_below a.node b.node ≡ false) [
      | inl took ↦ subst (λ n. is_node_below n b.node ≡ false) took.names (not_lower p b.node i k' b.older b.of_older took.there)
      | inr took ↦ subst (λ n. is_node_below n b.node ≡ false) took.names (not_lower q b.node j l' b.newer b.of_newer took.there)
    ]

    node_same : (k l k' l' : ℕ) (rows rows' : List Row) (a : One p q i j k l rows) (b : One p q i j k' l' rows') → a.node ≡ b.node
    node_same k l k' l' rows rows' a b = elim (above_or_same a.node b.node (not_below k' l' k l rows' rows b a)) as (λ _. a.node ≡ b.node) [
      | inl above ↦ absurd (true≢false (sym above ∙ not_below k l k' l' rows rows' a b))
      | inr same ↦ same
    ]

  -- an entry of a node is not passed over
  never_both : (p : Part) (id : NodeId) (i : ℕ) (rows rows' : List Row) → Passed p id i rows → Took p id i rows' → ⊥
  never_both p id i rows rows' passed took = elim passed.past as (λ _. ⊥) [
    | inl end ↦ let there = took.there in omega (arith, end, there)
    | inr above ↦ true≢false (sym above ∙ ap (is_node_below id) took.names ∙ is_node_below-self id)
  ]

  step_once : (p : Part) (id : NodeId) (i k k' : ℕ) (rows rows' : List Row) → Steps p id i k rows → Steps p id i k' rows' → (k ≡ k') × (rows ≡ rows')
  step_once p id i k k' rows rows' (inl (a, stays)) (inl (b, stays')) = (stays ∙ sym stays', a.none ∙ sym b.none)
  step_once p id i k k' rows rows' (inl (a, stays)) (inr (b, moves)) = absurd (never_both p id i rows rows' a b)
  step_once p id i k k' rows rows' (inr (a, moves)) (inl (b, stays)) = absurd (never_both p id i rows' rows b a)
  step_once p id i k k' rows rows' (inr (a, moves)) (inr (b, moves')) =
      let spans : ◌≡◌ {A = Result RowSpan ℕ} (Ok a.span) (Ok b.span) = sym a.is_span ∙ b.is_span in
      let span : a.span ≡ b.span = cc in (
        moves ∙ sym moves',
        holds_same p.header (body_of p) b.span id rows' b.holds rows (subst (λ s. SpanHolds p.header (body_of p) s id rows) span a.holds),
      )

  -- no rows are left behind the last entries
  ended : (p q : Part) (i j k l : ℕ) (rows : List Row) → (p.header.nodes ≤ i) × (q.header.nodes ≤ j) → One p q i j k l rows → ⊥
  ended p q i j k l rows x one = elim (some_took p q i j k l rows one) as (λ _. ⊥) [
    | inl took ↦ let there = took.there in omega (arith, there, x.0)
    | inr took ↦ let there = took.there in omega (arith, there, x.1)
  ]

  pub joins_once : (p q : Part) (i j : ℕ) (a b : List (List Row)) → Joins p q i j a → Joins p q i j b → a ≡ b
  joins_once p q i j [] [] x y = refl
  joins_once p q i j [] (rows ∷ later) x (k, l, one, all) = absurd (ended p q i j k l rows x one)
  joins_once p q i j (rows ∷ later) [] (k, l, one, all) y = absurd (ended p q i j k l rows y one)
  joins_once p q i j (rows ∷ later) (rows' ∷ later') (k, l, one, all) (k', l', one', all') =
      let node : one.node ≡ one'.node = node_same p q i j k l k' l' rows rows' one one' in
      let older = step_once p one'.node i k k' one.older one'.older (subst (λ n. Steps p n i k one.older) node one.of_older) one'.of_older in
      let newer = step_once q one'.node j l l' one.newer one'.newer (subst (λ n. Steps q n j l one.newer) node one.of_newer) one'.of_newer in
      let same : rows ≡ rows' = one.joined ∙ (λ t. merged_of (node t) (older.1 t ++ newer.1 t)) ∙ sym one'.joined in
      let rest : later ≡ later' = joins_once p q k' l' later later' (subst (λ n. Joins p q n l' later) older.0 (subst (λ n. Joins p q k n later) newer.0 all)) all' in
      λ t. same t ∷ rest t

pub once_law : JoinsOnce
once_law image m a b x y = joins_once image (older_part m) (newer_part m) m.older.next m.newer.next a b (joins_of image m a x) (joins_of image m b y)
