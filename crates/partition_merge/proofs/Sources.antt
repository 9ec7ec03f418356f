-- The rows that are left of a source.
use Rattle.std.proofs.Common.{◌≡◌, ℕ, zero, suc, ◌+◌, ◌-◌, ◌<◌, ◌≤◌, Bool, true, false, cond, IsTrue, List, [], ◌∷◌, ◌++◌, length, drop, get_or, Option, Some, None, refl, sym, ap, ◌∙◌, subst, arith, true≢false, inl, inr, length-append}
use Rattle.std.specs.Prelude.{not, ◌⊎◌, Result, Ok, Err, IfOk, IfSome, MatchResult}
use Rattle.std.specs.List.{AllByRecursion}
use Rattle.std.proofs.Math.ListN.{drop_of_length-le}
use Rattle.std.proofs.lemmas.List.{drop-drop}
use Rattle.std.proofs.lemmas.List.Elements.{filter-append}
use Rattle.log_disk.specs.Disk.{Eye}
use Rattle.fine_model.specs.declared.NodeId.{NodeId}
use Rattle.fine_model.specs.declared.Part.{Part}
use Rattle.fine_model.specs.declared.Row.{Row}
use Rattle.fine_model.specs.declared.Rec.{Rec}
use Rattle.fine_model.specs.Nodes.{is_node, rows_of, base, replay}
use Rattle.fine_model.specs.Merge.{is_node_below, is_ordered, nodes_in, image_of, merged, merged_into, merged_node}
use Rattle.fine_model.specs.RowBytes.{FitsRow, FitsRec}
use Rattle.fine_model.proofs.Merging.NodesIn.{node_cases, is_node_below-self, is_node-self, same_node}
use Rattle.fine_model.proofs.Ordered.Order.{filter_all, filter_none, all_map}
use Rattle.fine_model.proofs.Ordered.Sets.{all_filter, all_append}
use Rattle.fine_model.specs.Regions.{Image}
use Rattle.partition_index.specs.declared.entries.IndexEntry.{IndexEntry}
use Rattle.partition_index.specs.declared.entries.Span.{Span}
use Rattle.partition_index.specs.Parts.{IsSeen, SameEye}
use Rattle.partition_index.specs.Search.{TellsRows, IsEntryAt, IsSpanAt, span_for}
use Rattle.partition_index.proofs.Exact.{holds_rows, entry_exact, span_exact, there_in}
use Rattle.fine_model.specs.declared.FetchFault.{FetchFault}
use Rattle.node_fetch.specs.Fetched.{HoldsRows, NoDamage}
use Rattle.node_fetch.proofs.Parts.{fit_rows}
use Rattle.node_fetch.proofs.PartRows.{tells_same}
use Rattle.partition_merge.specs.declared.merger.Merger.{Merger}
use Rattle.partition_merge.specs.declared.merger.Source.{Source}
use Rattle.fine_model.proofs.Merging.NodeOrder.{below-other, below-asym, above_or_same}
use Rattle.partition_index.proofs.RowOrder.{AllFrom, all_above}
use Rattle.partition_merge.specs.Merging.{FitRows, node_at_head, lower, first_node, merged_of}
use Rattle.partition_merge.specs.Mergers.{IsLeft, SourceAt, StandsAt, HandsOut, IsPast, TakesRows, nodes_left, behind, node_kept}
use Rattle.partition_merge.proofs.Nodes.{rest_of, merged_all, nodes_first, nodes_over, rows_over, merged_by, lowest_first}
use Rattle.partition_merge.proofs.Steps.{starts, split_run, from_head, named_head}

pub inside : (a b : NodeId) → ◌≡◌ {A = Option NodeId} (Some a) (Some b) → a ≡ b
inside a b e = cc

-- rows begin with the lowest of their nodes
first_of : (r : Row) (rows : List Row) → IsTrue (is_ordered (r ∷ rows)) → nodes_in (r ∷ rows) ≡ r.node ∷ nodes_in (rest_of r.node (r ∷ rows))
first_of r rows up = nodes_first r.node (r ∷ rows) (from_head r.node r rows up refl) (named_head r.node r rows refl)

no_nodes : nodes_in [] ≡ []
unfolding nodes_in
no_nodes = refl

drop_here : (ids : List NodeId) (i : ℕ) (d : NodeId) → i < length ids → drop i ids ≡ get_or ids i d ∷ drop (suc i) ids
drop_here [] i d here = absurd (omega (arith, here))
drop_here (x ∷ ids) zero d here = refl
drop_here (x ∷ ids) (suc i) d here = drop_here ids i d (omega (arith, here))

same_first : (a b : NodeId) (xs ys : List NodeId) → ◌≡◌ {A = List NodeId} (a ∷ xs) (b ∷ ys) → (a ≡ b) × (xs ≡ ys)
same_first a b xs ys e = (let p : a ≡ b = cc in p, let q : xs ≡ ys = cc in q)

-- what is left begins with the node of the next entry
pub head_is : (rows : List Row) (i : ℕ) (left : List Row) (d : NodeId) → IsLeft rows i left → i < length (nodes_in rows) → node_at_head left ≡ Some (get_or (nodes_in rows) i d)
head_is rows i [] d l here = let e : ◌≡◌ {A = List NodeId} [] (get_or (nodes_in rows) i d ∷ drop (suc i) (nodes_in rows)) = sym no_nodes ∙ l.nodes ∙ drop_here (nodes_in rows) i d here in absurd (cc)
head_is rows i (r ∷ left) d l here =
    ap Some (same_first r.node (get_or (nodes_in rows) i d) (nodes_in (rest_of r.node (r ∷ left))) (drop (suc i) (nodes_in rows)) (sym (first_of r left l.ordered) ∙ l.nodes ∙ drop_here (nodes_in rows) i d here)).0

pub head_none : (rows : List Row) (i : ℕ) (left : List Row) → IsLeft rows i left → length (nodes_in rows) ≤ i → node_at_head left ≡ None
head_none rows i [] l past = refl
head_none rows i (r ∷ left) l past =
    let e : ◌≡◌ {A = List NodeId} (r.node ∷ nodes_in (rest_of r.node (r ∷ left))) [] = sym (first_of r left l.ordered) ∙ l.nodes ∙ drop_of_length-le (nodes_in rows) past in absurd (cc)

pub none_at_head : (left : List Row) → node_at_head left ≡ None → left ≡ []
none_at_head [] e = refl
none_at_head (r ∷ left) e = absurd (cc)

-- at the first, all rows are left
pub all_left : (rows : List Row) → IsTrue (is_ordered rows) → FitRows rows → IsLeft rows 0 rows
all_left rows up fit = record { nodes = refl; own = each (nodes_in rows); ordered = up; fit = fit }
  where
    each : (ids : List NodeId) → AllByRecursion (λ id. rows_of id rows ≡ rows_of id rows) ids
    each [] = tt
    each (id ∷ ids) = (refl, each ids)

-- behind the first node, the rows of the others are left
pub step_left : (rows : List Row) (i : ℕ) (left : List Row) (n : NodeId) → IsLeft rows i left → node_at_head left ≡ Some n → (rows_of n rows ≡ rows_of n left) × IsLeft rows (i + 1) (behind n left)
step_left rows i [] n l e = absurd (cc)
step_left rows i (r ∷ left) n l e =
    let same : r.node ≡ n = inside r.node n e in
    let from = from_head n r left l.ordered same in
    let nodes : nodes_in (r ∷ left) ≡ n ∷ nodes_in (rest_of n (r ∷ left)) = nodes_first n (r ∷ left) from (named_head n r left same) in
    let own : AllByRecursion (λ id. rows_of id (r ∷ left) ≡ rows_of id rows) (n ∷ nodes_in (rest_of n (r ∷ left))) = subst (AllByRecursion (λ id. rows_of id (r ∷ left) ≡ rows_of id rows)) nodes l.own in
    let split = split_run n (r ∷ left) l.ordered from in (
      sym own.0,
      record {
        nodes = ap (drop 1) (sym nodes ∙ l.nodes) ∙ drop-drop 1 i (nodes_in rows);
        own = both (nodes_in (rest_of n (r ∷ left))) (nodes_over n (r ∷ left)) own.1;
        ordered = subst (λ xs. IsTrue (is_ordered xs)) (sym split.rest) split.order;
        fit = all_filter (λ x. FitsRec x.rec) (λ x. is_node_below n x.node) (r ∷ left) l.fit;
      },
    )
  where
    both : (ids : List NodeId) → AllByRecursion (λ id. is_node_below n id ≡ true) ids → AllByRecursion (λ id. rows_of id (r ∷ left) ≡ rows_of id rows) ids → AllByRecursion (λ id. rows_of id (behind n (r ∷ left)) ≡ rows_of id rows) ids
    both [] over own = tt
    both (id ∷ ids) over own = (sym (rows_over n id (r ∷ left) over.0) ∙ own.0, both ids over.1 own.1)

-- rows none of which is below a node, and whose first is not the node's, have none of it
pub none_of_node : (n : NodeId) (left : List Row) → IsTrue (is_ordered left) → AllFrom n left → (node_at_head left ≡ Some n → ⊥) → (rows_of n left ≡ []) × (behind n left ≡ left)
none_of_node n [] up from other = (refl, refl)
none_of_node n (r ∷ left) up from other = by (is_node n r.node) refl
  where
    by : (t : Bool) → is_node n r.node ≡ t → (rows_of n (r ∷ left) ≡ []) × (behind n (r ∷ left) ≡ r ∷ left)
    by true e = absurd (other (ap Some (sym (same_node n r.node e))))
    by false e = elim (node_cases n r.node e) [
      | inl up_here ↦
          let above = all_above n r left up up_here.0 in (
            filter_none (λ x. is_node n x.node) (r ∷ left) (all_map (λ x. is_node_below n x.node ≡ true) (λ x. is_node n x.node ≡ false) (λ x h. (below-other n x.node h).0) (r ∷ left) above),
            filter_all (λ x. is_node_below n x.node) (r ∷ left) above,
          )
      | inr down ↦ absurd (true≢false (sym down.0 ∙ from.0))
    ]

-- the merged rows of the lowest node, and then those of the others
pub next_merged : (n : NodeId) (older newer : List Row) → IsTrue (is_ordered older) → IsTrue (is_ordered newer) → first_node older newer ≡ Some n
    → merged older newer ≡ merged_node (older ++ newer) n ++ merged (behind n older) (behind n newer)
unfolding merged
next_merged n older newer old_up new_up first =
    let s = starts n older newer old_up new_up first in
    lowest_first n (older ++ newer) (all_append (λ r. is_node_below r.node n ≡ false) older newer s.old_from s.new_from) s.named
    ∙ ap (λ xs. xs ++ merged_all (rest_of n (older ++ newer))) (sym (merged_by (older ++ newer) n))
    ∙ ap (λ xs. merged_node (older ++ newer) n ++ merged_all xs) (filter-append (λ r. is_node_below n r.node) older newer)

pub own_merged : (n : NodeId) (older newer : List Row) → merged_of n (rows_of n older ++ rows_of n newer) ≡ merged_node (older ++ newer) n
own_merged n older newer = ap (merged_of n) (sym (filter-append (λ r. is_node n r.node) older newer)) ∙ sym (merged_by (older ++ newer) n)

-- ---- sources, as an eye tells them

pub peeked : (eye : Eye) (p : Part) (next : ℕ) (rows left : List Row) (entry : IndexEntry) → IsSeen eye p → TellsRows eye p rows → IsLeft rows next left → next < p.header.nodes → IsEntryAt eye.told p next entry → ◌≡◌ {A = Option NodeId} (Some entry.node) (node_at_head left)
peeked eye p next rows left entry seen t l there e =
    let d : NodeId = entry.node in
    ap (λ x. Some x.node) (entry_exact eye p rows next entry d seen t there e) ∙ sym (head_is rows next left d l (there_in eye p rows next seen t there))

pub peeked_none : (eye : Eye) (p : Part) (next : ℕ) (rows left : List Row) → IsSeen eye p → TellsRows eye p rows → IsLeft rows next left → p.header.nodes ≤ next → ◌≡◌ {A = Option NodeId} None (node_at_head left)
peeked_none eye p next rows left seen t l past = sym (head_none rows next left l (omega (arith, past, (holds_rows eye p rows seen t).nodes)))

-- the span that is kept is that of its node
pub span_kept : (eye : Eye) (p : Part) (next : ℕ) (rows : List Row) (entry : IndexEntry) (span : Span) (n : NodeId) → IsSeen eye p → TellsRows eye p rows → next < p.header.nodes → IsEntryAt eye.told p next entry → IsSpanAt eye.told p next span → entry.node ≡ n → span ≡ span_for rows n
span_kept eye p next rows entry span n seen t there e s same =
    span_exact eye p rows next span n seen t there s
    ∙ ap (span_for rows) (sym (ap (λ x. x.node) (entry_exact eye p rows next entry n seen t there e)) ∙ same)

pub source_later : (old new : Eye) (before after : Source) (rows left : List Row) → SameEye old new → after.part ≡ before.part → TellsRows old before.part rows → IsLeft rows after.next left → SourceAt new after left
source_later old new before after rows left same part t l = record {
  rows = rows;
  tells = subst (λ p. TellsRows new p rows) (sym part) (tells_same old new before.part rows same t);
  is_left = l;
}

pub starts_at : (eye : Eye) (source : Source) (p : Part) (rows : List Row) → source.part ≡ p → source.next ≡ 0 → TellsRows eye p rows → SourceAt eye source rows
starts_at eye source p rows part next t = record {
  rows = rows;
  tells = subst (λ q. TellsRows eye q rows) (sym part) t;
  is_left = subst (λ i. IsLeft rows i rows) (sym next) (all_left rows t.sealed.ordered (all_map (FitsRow t.sealed.header.mark) (λ row. FitsRec row.rec) (λ row h. h.rec) rows t.sealed.rows_fit));
}

pub source_peeked : (old new : Eye) (before after : Source) (left : List Row) → SameEye old new → after.part ≡ before.part → after.next ≡ before.next → SourceAt old before left → SourceAt new after left
source_peeked old new before after left same part next at =
    source_later old new before after at.rows left same part at.tells (subst (λ i. IsLeft at.rows i left) (sym next) at.is_left)

-- the entry that is kept is not that of a node
pub other_node : (head : Option (IndexEntry × Span)) (entry : IndexEntry) (span : Span) (left : List Row) (n : NodeId) → head ≡ Some (entry, span) → node_kept head ≡ node_at_head left → (entry.node ≡ n → ⊥) → node_at_head left ≡ Some n → ⊥
other_node head entry span left n is kept other e = other (inside entry.node n (ap node_kept (sym is) ∙ kept ∙ e))

pub same_at_head : (head : Option (IndexEntry × Span)) (entry : IndexEntry) (span : Span) (left : List Row) (n : NodeId) → head ≡ Some (entry, span) → node_kept head ≡ node_at_head left → entry.node ≡ n → node_at_head left ≡ Some n
same_at_head head entry span left n is kept same = sym kept ∙ ap node_kept is ∙ ap Some same

-- the rows of a node that are read are those that are left of it
pub own_left : (r : Result (List Row) FetchFault) (rows left : List Row) (n : NodeId) → rows_of n rows ≡ rows_of n left → MatchResult r (λ own. own ≡ rows_of n rows) NoDamage → MatchResult r (λ own. own ≡ rows_of n left) NoDamage
own_left r rows left n same h = subst (λ xs. MatchResult r (λ own. own ≡ xs) NoDamage) same h

pub fit_read : (p : Part) (r : Result (List Row) FetchFault) → IfOk r (AllByRecursion (FitsRow p.header.mark)) → IfOk r FitRows
fit_read p (Ok rows) h = fit_rows p rows h
fit_read p (Err e) h = tt

pub err_clause : {A : Type 0} (r : Result A FetchFault) (f : FetchFault) (P : A → Type 0) → r ≡ Err f → NoDamage f → MatchResult r P NoDamage
err_clause r f P is h = subst (λ x. MatchResult x P NoDamage) (sym is) h

-- the rows of the next entry's span are taken
pub taken_of : (r : Result (List Row) FetchFault) (known : Option Image) (id : NodeId) (before after : Source) (entry : IndexEntry) (span : Span) → before.next < before.part.header.nodes → IsEntryAt known before.part before.next entry → entry.node ≡ id
    → IsSpanAt known before.part before.next span → IfOk r (HoldsRows known before.part id span) → after.next ≡ before.next + 1 → nodes_left after + 1 ≡ nodes_left before → IfOk r (TakesRows known id before after)
unfolding TakesRows
taken_of (Ok rows) known id before after entry span there is names is_span holds moves one = inr (record { there = there; entry = entry; is_entry = is; names = names; span = span; is_span = is_span; holds = holds; moves = moves; one_less = one })
taken_of (Err e) known id before after entry span there is names is_span holds moves one = tt

-- what was taken since an entry was kept was taken since before
module _ (known now : Option Image) (p q after : Source) (id : NodeId) (rows : List Row) (told : now ≡ known) (part : q.part ≡ p.part) (next : q.next ≡ p.next) where
  as_many : nodes_left q ≡ nodes_left p
  as_many i = (part i).header.nodes - next i

  entry_as : (entry : IndexEntry) → IsEntryAt now q.part q.next entry → IsEntryAt known p.part p.next entry
  entry_as entry is = subst (λ k. IsEntryAt k p.part p.next entry) told (subst (λ x. IsEntryAt now x p.next entry) part (subst (λ n. IsEntryAt now q.part n entry) next is))

  pub takes_as : TakesRows now id q after rows → TakesRows known id p after rows
  unfolding TakesRows
  takes_as (inl none) = inl (record {
    none = none.none;
    past = elim none.past as (λ _. IsPast known id p) [
      | inl end ↦ inl (sym as_many ∙ end)
      | inr above ↦ inr (above.0, entry_as above.0 above.1, above.2)
    ];
    stays = none.stays ∙ next;
    as_many = none.as_many ∙ as_many;
  })
  takes_as (inr some) = inr (record {
    there = (let there = some.there in let many = ap (λ (part : Part). part.header.nodes) part in omega (arith, there, many, next));
    entry = some.entry;
    is_entry = entry_as some.entry some.is_entry;
    names = some.names;
    span = some.span;
    is_span = subst (λ k. IsSpanAt k p.part p.next some.span) told (subst (λ x. IsSpanAt now x p.next some.span) part (subst (λ n. IsSpanAt now q.part n some.span) next some.is_span));
    holds = subst (λ k. HoldsRows k p.part id some.span rows) told (subst (λ x. HoldsRows now x id some.span rows) part some.holds);
    moves = some.moves ∙ ap (λ n. n + 1) next;
    one_less = some.one_less ∙ as_many;
  })

-- where no node is the lower one, nothing is left
pub none_first : (a b : Option NodeId) → lower a b ≡ None → (a ≡ None) × (b ≡ None)
none_first None None e = (refl, refl)
none_first None (Some b) e = absurd (cc)
none_first (Some a) None e = absurd (cc)
none_first (Some a) (Some b) e = by (is_node_below b a) e
  where
    by : (t : Bool) → ◌≡◌ {A = Option NodeId} (cond t (Some b) (Some a)) None → (Some a ≡ None) × (Some b ≡ None)
    by true e = absurd (cc)
    by false e = absurd (cc)

-- how nodes were compared
pub nodes_differ : (a b : NodeId) → true ≡ not (is_node a b) → a ≡ b → ⊥
nodes_differ a b h e = let same : is_node a b ≡ true = subst (λ k. is_node a k ≡ true) e (is_node-self a) in let t : true ≡ not true = h ∙ ap not same in true≢false t

pub nodes_same : (a b : NodeId) → false ≡ not (is_node a b) → a ≡ b
nodes_same a b h = by (is_node a b) refl h
  where
    by : (t : Bool) → is_node a b ≡ t → false ≡ not t → a ≡ b
    by true e h = same_node a b e
    by false e h = absurd (true≢false (sym h))

-- ---- both sources, once their next entries are kept

pub record Peeked (eye : Eye) (old new : Source) (older newer : List Row) (n : NodeId) : Type 0 where
  pub of_older : SourceAt eye old older
  pub of_newer : SourceAt eye new newer
  pub first : first_node older newer ≡ Some n
  pub old_from : AllFrom n older
  pub new_from : AllFrom n newer
  pub old_kept : node_kept old.head ≡ node_at_head older
  pub new_kept : node_kept new.head ≡ node_at_head newer

pub peeked_both : (e0 e1 e2 : Eye) (m : Merger) (old new : Source) (older newer : List Row) (n : NodeId) (a b : Option NodeId) → StandsAt e0 m older newer → SameEye e0 e1 → SameEye e1 e2
    → old.part ≡ m.older.part → old.next ≡ m.older.next → new.part ≡ m.newer.part → new.next ≡ m.newer.next
    → a ≡ node_kept old.head → b ≡ node_kept new.head → a ≡ node_at_head older → b ≡ node_at_head newer → lower a b ≡ Some n → Peeked e2 old new older newer n
peeked_both e0 e1 e2 m old new older newer n a b at s1 s2 op on np nn ak bk ah bh first =
    let is_first : first_node older newer ≡ Some n = let e : lower (node_at_head older) (node_at_head newer) ≡ lower a b = λ i. lower (sym ah i) (sym bh i) in e ∙ first in
    let s = starts n older newer at.of_older.is_left.ordered at.of_newer.is_left.ordered is_first in
    record {
      of_older = source_peeked e1 e2 old old older s2 refl refl (source_peeked e0 e1 m.older old older s1 op on at.of_older);
      of_newer = source_peeked e1 e2 m.newer new newer s2 np nn (source_peeked e0 e1 m.newer m.newer newer s1 refl refl at.of_newer);
      first = is_first;
      old_from = s.old_from;
      new_from = s.new_from;
      old_kept = sym ak ∙ ah;
      new_kept = sym bk ∙ bh;
    }

pub none_peeked : (e0 e1 e2 : Eye) (m : Merger) (older newer : List Row) (a b : Option NodeId) → StandsAt e0 m older newer → SameEye e0 e1 → SameEye e1 e2
    → a ≡ node_at_head older → b ≡ node_at_head newer → lower a b ≡ None → (older ≡ []) × (newer ≡ []) × StandsAt e2 m older newer
none_peeked e0 e1 e2 m older newer a b at s1 s2 ah bh none =
    let both = none_first a b none in (
      none_at_head older (sym ah ∙ both.0),
      none_at_head newer (sym bh ∙ both.1),
      record {
        of_older = source_peeked e1 e2 m.older m.older older s2 refl refl (source_peeked e0 e1 m.older m.older older s1 refl refl at.of_older);
        of_newer = source_peeked e1 e2 m.newer m.newer newer s2 refl refl (source_peeked e0 e1 m.newer m.newer newer s1 refl refl at.of_newer);
      },
    )

-- the rows of the lowest node are handed out
pub handed_out : (eye : Eye) (m : Merger) (older newer rows old_own new_own : List Row) (n : NodeId) → IsTrue (is_ordered older) → IsTrue (is_ordered newer) → first_node older newer ≡ Some n
    → old_own ≡ rows_of n older → new_own ≡ rows_of n newer → rows ≡ merged_of n (old_own ++ new_own) → SourceAt eye m.older (behind n older) → SourceAt eye m.newer (behind n newer) → HandsOut eye m older newer rows
handed_out eye m older newer rows old_own new_own n old_up new_up first a b joined of_older of_newer =
    let is : rows ≡ merged_node (older ++ newer) n = joined ∙ (λ i. merged_of n (a i ++ b i)) ∙ own_merged n older newer in
    record {
      node = n;
      first = first;
      is_merged = is;
      left = record { of_older = of_older; of_newer = of_newer };
      together = next_merged n older newer old_up new_up first ∙ ap (λ xs. xs ++ merged (behind n older) (behind n newer)) (sym is);
    }

-- ---- what is passed over

-- the next entry of a part names a node that is above the one that is not its own and not above it
pub past_entry : (known : Option Image) (source : Source) (entry : IndexEntry) (id : NodeId) → IsEntryAt known source.part source.next entry → is_node_below entry.node id ≡ false → (entry.node ≡ id → ⊥) → IsPast known id source
past_entry known source entry id is not_below other = elim (above_or_same id entry.node not_below) as (λ _. IsPast known id source) [
  | inl above ↦ inr (entry, is, above)
  | inr same ↦ absurd (other (sym same))
]

abbrev pub Lowest : NodeId → Option (IndexEntry × Span) → Type 0
Lowest id head = IfSome head (λ h. is_node_below h.0.node id ≡ false)

-- the lower one of two nodes is above neither, and one of them
pub record IsLower (a b : Option NodeId) (id : NodeId) : Type 0 where
  pub first : IfSome a (λ i. is_node_below i id ≡ false)
  pub second : IfSome b (λ i. is_node_below i id ≡ false)
  pub one : (a ≡ Some id) ⊎ (b ≡ Some id)

is_lower : (a b : Option NodeId) (id : NodeId) → lower a b ≡ Some id → IsLower a b id
is_lower None None id e = absurd (cc)
is_lower None (Some b) id e = record { first = tt; second = subst (λ k. is_node_below k id ≡ false) (sym (inside b id e)) (is_node_below-self id); one = inr e }
is_lower (Some a) None id e = record { first = subst (λ k. is_node_below k id ≡ false) (sym (inside a id e)) (is_node_below-self id); second = tt; one = inl e }
is_lower (Some a) (Some b) id e = by (is_node_below b a) refl e
  where
    by : (t : Bool) → is_node_below b a ≡ t → ◌≡◌ {A = Option NodeId} (cond t (Some b) (Some a)) (Some id) → IsLower (Some a) (Some b) id
    by true h e =
        let same : b ≡ id = inside b id e in
        record {
          first = subst (λ k. is_node_below a k ≡ false) same (below-asym b a h);
          second = subst (λ k. is_node_below b k ≡ false) same (is_node_below-self b);
          one = inr e;
        }
    by false h e =
        let same : a ≡ id = inside a id e in
        record {
          first = subst (λ k. is_node_below a k ≡ false) same (is_node_below-self a);
          second = subst (λ k. is_node_below b k ≡ false) same h;
          one = inl e;
        }

pub first_lowest : (head : Option (IndexEntry × Span)) (a b : Option NodeId) (id : NodeId) → a ≡ node_kept head → lower a b ≡ Some id → Lowest id head
first_lowest None a b id kept e = tt
first_lowest (Some head) a b id kept e = subst (λ o. IfSome o (λ i. is_node_below i id ≡ false)) kept (is_lower a b id e).first

pub second_lowest : (head : Option (IndexEntry × Span)) (a b : Option NodeId) (id : NodeId) → b ≡ node_kept head → lower a b ≡ Some id → Lowest id head
second_lowest None a b id kept e = tt
second_lowest (Some head) a b id kept e = subst (λ o. IfSome o (λ i. is_node_below i id ≡ false)) kept (is_lower a b id e).second

-- ---- that there are rows

pub some_read : (r : Result (List Row) FetchFault) (known : Option Image) (p : Part) (id : NodeId) (span : Span) (A : Type 0) → 1 ≤ span.rows → IfOk r (HoldsRows known p id span) → IfOk r (λ rows. A → 1 ≤ length rows)
some_read (Ok rows) known p id span A some holds = λ a. let all = holds.holds.all in omega (arith, some, all)
some_read (Err e) known p id span A some holds = tt

merged_some : (id : NodeId) (own : List Row) → 1 ≤ length own → 1 ≤ length (merged_of id own)
unfolding merged_of merged_into
merged_some id own some = by (image_of (replay (base id) own).0)
  where
    choice : (row : Row) (t : Bool) → 1 ≤ length (cond t (row ∷ []) own)
    choice row true = omega arith
    choice row false = some

    by : (image : Option Rec) → 1 ≤ length (merged_into id own (replay (base id) own).1 image)
    by None = some
    by (Some image) = choice (record { node = id; version = (replay (base id) own).1; rec = image }) _

-- one of two lists has rows
pub some_both : (id : NodeId) (a b : Option NodeId) (old new : Option (IndexEntry × Span)) (older newer : List Row) → lower a b ≡ Some id → a ≡ node_kept old → b ≡ node_kept new → (node_kept old ≡ Some id → 1 ≤ length older) → (node_kept new ≡ Some id → 1 ≤ length newer)
    → 1 ≤ length (older ++ newer)
some_both id a b old new older newer e ak bk os ns = elim (is_lower a b id e).one as (λ _. 1 ≤ length (older ++ newer)) [
  | inl first ↦ let s = os (sym ak ∙ first) in omega (arith, s, length-append older newer)
  | inr second ↦ let s = ns (sym bk ∙ second) in omega (arith, s, length-append older newer)
]

-- one part has a node less
pub fewer_both : (id : NodeId) (a b : Option NodeId) (old new : Option (IndexEntry × Span)) (m n k l : ℕ) → lower a b ≡ Some id → a ≡ node_kept old → b ≡ node_kept new → (node_kept old ≡ Some id → k < m) → (node_kept new ≡ Some id → l < n)
    → k ≤ m → l ≤ n → k + l < m + n
fewer_both id a b old new m n k l e ak bk os ns km ln = elim (is_lower a b id e).one as (λ _. k + l < m + n) [
  | inl first ↦ let s = os (sym ak ∙ first) in omega (arith, s, ln)
  | inr second ↦ let s = ns (sym bk ∙ second) in omega (arith, s, km)
]

-- rows of which one list has some are merged into some
pub some_joined : (id : NodeId) (a b : Option NodeId) (old new : Option (IndexEntry × Span)) (older newer rows : List Row) → lower a b ≡ Some id → a ≡ node_kept old → b ≡ node_kept new → (node_kept old ≡ Some id → 1 ≤ length older) → (node_kept new ≡ Some id → 1 ≤ length newer)
    → rows ≡ merged_of id (older ++ newer) → 1 ≤ length rows
some_joined id a b old new older newer rows e ak bk os ns joined =
    subst (λ xs. 1 ≤ length xs) (sym joined) (merged_some id (older ++ newer) (some_both id a b old new older newer e ak bk os ns))
