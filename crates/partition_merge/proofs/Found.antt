-- What is taken of a part, and found in two, and what is counted and indexed of it.
use Rattle.std.proofs.Common.{◌≡◌, ℕ, ◌+◌, min, ◌&&◌, List, [], ◌∷◌, ◌++◌, length, Option, Some, None, Ok, Err, refl, sym, ap, ◌∙◌, inl, inr, arith, false, true≢false}
use Rattle.std.specs.Prelude.{IfOk, OnOk, Result}
use Rattle.std.specs.Result.{is_err}
use Rattle.std.specs.List.{AllByRecursion}
use Rattle.log_disk.specs.Disk.{Eye}
use Rattle.fine_model.specs.declared.FetchFault.{FetchFault}
use Rattle.fine_model.specs.declared.NodeId.{NodeId}
use Rattle.fine_model.specs.declared.Row.{Row}
use Rattle.fine_model.specs.Merge.{is_ordered}
use Rattle.fine_model.specs.Nodes.{rows_of}
use Rattle.fine_model.specs.RowBytes.{rows_len}
use Rattle.partition_index.specs.declared.entries.IndexEntry.{IndexEntry}
use Rattle.partition_index.specs.declared.entries.Span.{Span}
use Rattle.partition_index.specs.Entries.{bytes_of}
use Rattle.partition_index.specs.Parts.{IsSeen}
use Rattle.node_fetch.proofs.Told.{read_own}
use Rattle.partition_merge.specs.declared.merger.Measure.{Measure}
use Rattle.partition_merge.specs.declared.merger.Source.{Source}
use Rattle.partition_merge.specs.declared.piece.Piece.{Piece}
use Rattle.partition_merge.specs.declared.piece.Tally.{Tally}
use Rattle.partition_merge.specs.Merging.{follows, last_node}
use Rattle.partition_merge.specs.Mergers.{IsEntryOf, TakesRows, node_kept, nodes_left}
use Rattle.partition_merge.specs.Pieces.{FindsRows, IsTaken, IsTallyOf, is_above, tallied}
use Rattle.partition_merge.specs.Windows.{WindowValue}
use Rattle.partition_merge.proofs.Ahead.{HasEntry}
use Rattle.partition_merge.proofs.Ascending.{last_own}
use Rattle.partition_merge.proofs.Sources.{Lowest, inside, none_at_head, none_of_node, other_node, past_entry, same_at_head, span_kept, step_left}

-- ---- what is taken of a part

-- a source behind its next node, with a window on the rows
abbrev pub behind_node : Source → WindowValue → Source
behind_node s rows = record { part = s.part; next = s.next + 1; head = None; ahead = record { rows = rows; index = s.ahead.index; next = s.ahead.next } }

module _ (eye : Eye) (id : NodeId) (s : Source) where
  -- no node is left
  pub none_taken : s.head ≡ None → (s.head ≡ None → nodes_left s ≡ 0) → IsTaken eye id s s None
  unfolding TakesRows
  none_taken none ready = record {
    rows = [];
    holds = refl;
    read = inl (record { none = refl; past = inl (ready none); stays = refl; as_many = refl });
    some = λ e. absurd (let other : ◌≡◌ {A = Option NodeId} None (Some id) = sym (ap node_kept none) ∙ e in cc);
    exact = λ left at from kept. sym (ap (rows_of id) (none_at_head left (sym kept ∙ ap node_kept none)));
  }

  -- the next node is another one
  pub other_taken : (entry : IndexEntry) (span : Span) → s.head ≡ Some (entry, span) → IsEntryOf eye.told s (entry, span) → Lowest id (Some (entry, span)) → (entry.node ≡ id → ⊥) → IsTaken eye id s s None
  unfolding TakesRows
  other_taken entry span head k lowest other = record {
    rows = [];
    holds = refl;
    read = inl (record { none = refl; past = past_entry eye.told s entry id k.entry lowest other; stays = refl; as_many = refl });
    some = λ e. absurd (other (inside entry.node id (sym (ap node_kept head) ∙ e)));
    exact = λ left at from kept. sym (none_of_node id left at.is_left.ordered from (other_node s.head entry span left id head kept other)).0;
  }

  -- the next node is this one, and its rows are found
  pub span_taken : (r : Result (Option Piece) FetchFault) (window : WindowValue) (entry : IndexEntry) (span : Span) → IsSeen eye s.part → s.head ≡ Some (entry, span) → IsEntryOf eye.told s (entry, span) → entry.node ≡ id
      → nodes_left (behind_node s window) + 1 ≡ nodes_left s → IfOk r (FindsRows eye.told s.part id span window) → IfOk r (IsTaken eye id s (behind_node s window))
  unfolding TakesRows
  span_taken (Err e) window entry span seen head k same one found = tt
  span_taken (Ok piece) window entry span seen head k same one found = record {
    rows = found.rows;
    holds = found.holds;
    read = inr (record { there = k.there; entry = entry; is_entry = k.entry; names = same; span = span; is_span = k.span; holds = found.is_read; moves = refl; one_less = one });
    some = λ e. (let some = k.span.counted.0 in let all = found.is_read.holds.all in omega (arith, some, all));
    exact = λ left at from kept.
        read_own eye s.part span id at.rows seen at.tells (span_kept eye s.part s.next at.rows entry span id seen at.tells k.there k.entry k.span same) found.rows found.is_read
        ∙ (step_left at.rows s.next left id at.is_left (same_at_head s.head entry span left id head kept same)).0;
  }

-- ---- what is counted and indexed

above_as : (last : Option NodeId) (tally : Tally) (rows : List Row) → IsTallyOf rows tally → is_above last tally.node ≡ follows last rows
above_as None tally rows t = refl
above_as (Some last) tally [] t = absurd (let some = t.some in omega (arith, some))
above_as (Some last) tally (row ∷ rows) t = ap (is_above (Some last)) (sym t.own.0)

-- what a tally adds to a measure is what its rows add
pub record Adds (old new : Measure) (last behind : Option NodeId) (rows : List Row) : Type 0 where
  pub rows_are : new.rows ≡ min (old.rows + length rows) 4294967295
  pub area : new.area ≡ min (old.area + rows_len rows) 4294967295
  pub ordered : new.ordered ≡ (old.ordered && (follows last rows && is_ordered rows))
  pub behind_is : behind ≡ last_node rows

pub adds : (old new : Measure) (last behind : Option NodeId) (rows : List Row) (tally : Tally) → IsTallyOf rows tally → new.rows ≡ min (old.rows + tally.rows) 4294967295 → new.area ≡ min (old.area + tally.area) 4294967295
    → new.ordered ≡ (old.ordered && (is_above last tally.node && tally.ordered)) → behind ≡ Some tally.node → Adds old new last behind rows
adds old new last behind rows tally t r a o key = record {
  rows_are = omega (arith, r, t.rows_are);
  area = omega (arith, a, t.area);
  ordered = o ∙ (λ i. old.ordered && (above_as last tally rows t i && t.ordered i));
  behind_is = key ∙ sym (last_own tally.node rows t.some t.own);
}

-- the entry of a tally is that of its rows
same_own : (id : NodeId) (tally : Tally) (rows : List Row) → IsTallyOf rows tally → AllByRecursion (λ r. r.node ≡ id) rows → tally.node ≡ id
same_own id tally [] t own = absurd (let some = t.some in omega (arith, some))
same_own id tally (row ∷ rows) t own = sym t.own.0 ∙ own.0

pub has_entry : (old new : List ℕ) (offset : ℕ) (rows : List Row) (tally : Tally) → IsTallyOf rows tally → new ≡ old ++ bytes_of (tallied tally offset) → HasEntry old new offset rows
has_entry old new offset rows tally t is id own few =
    let n : tally.node ≡ id = same_own id tally rows t own in
    let count : tally.rows ≡ length rows = omega (arith, t.rows_are, few) in
    is ∙ (λ i. old ++ bytes_of (record { node = n i; offset = offset; rows = count i }))

-- what follows where a call answers, and it did
pub ok_holds : {A E : Type 0} (r : Result A E) (P : Type 0) → is_err r ≡ false → OnOk r P → P
ok_holds (Ok a) P e p = p
ok_holds (Err x) P e p = absurd (true≢false e)
