-- The numbers of what a merger handed out, as it was read.
use Rattle.std.proofs.Common.{◌≡◌, ℕ, ◌+◌, ◌≤◌, min, true, ◌&&◌, List, [], ◌∷◌, ◌++◌, length, None, sym, ap, ◌∙◌, subst, arith, append-nil, append_assoc, length-append}
use Rattle.std.specs.Prelude.{Option, sum_by}
use Rattle.std.proofs.lemmas.List.Sums.{sum_by_push}
use Rattle.fine_model.specs.declared.NodeId.{NodeId}
use Rattle.fine_model.specs.declared.Row.{Row}
use Rattle.fine_model.specs.Regions.{Image}
use Rattle.fine_model.specs.RowBytes.{rows_len}
use Rattle.fine_model.specs.Merge.{is_ordered}
use Rattle.partition_merge.specs.declared.merger.Measure.{Measure}
use Rattle.partition_merge.specs.declared.merger.Merger.{Merger}
use Rattle.partition_merge.specs.Merging.{follows, last_node}
use Rattle.partition_merge.specs.Mergers.{all_of, both_left, older_part, newer_part, IsJoinOf, JoinsAll, IsMeasureOf, are_apart}
use Rattle.partition_merge.proofs.Ascending.{all_pushed, in_order, last_joined, last_of, last_pushed}

abbrev greatest : ℕ
greatest = 4294967295

-- what was handed out so far is counted, and goes on with what the merger hands out from where it stands
pub record Handed (known : Option Image) (start pass : Merger) (last : Option NodeId) (measure : Measure) : Type 0 where
  pub joins : List (List Row)
  pub goes_on : (later : List (List Row)) → JoinsAll known pass later → JoinsAll known start (joins ++ later)
  pub rows : measure.rows ≡ min (sum_by length joins) greatest
  pub nodes : measure.nodes ≡ min (length joins) greatest
  pub area : measure.area ≡ min (sum_by rows_len joins) greatest
  pub ordered : measure.ordered ≡ (is_ordered (all_of joins) && are_apart None joins)
  pub last_is : last ≡ last_node (all_of joins)
  pub last_each : last ≡ last_of None joins

pub none_handed : (known : Option Image) (start pass : Merger) (last : Option NodeId) (measure : Measure) → pass ≡ start → last ≡ None → measure.rows ≡ 0 → measure.nodes ≡ 0 → measure.area ≡ 0 → measure.ordered ≡ true → Handed known start pass last measure
none_handed known start pass last measure same none rows nodes area ordered = record {
  joins = [];
  goes_on = λ later all. subst (λ m. JoinsAll known m later) same all;
  rows = rows;
  nodes = nodes;
  area = area;
  ordered = ordered;
  last_is = none;
  last_each = none;
}

pub more_handed : (known now : Option Image) (start pass next : Merger) (last behind : Option NodeId) (rows : List Row) (measure after : Measure) → now ≡ known → (h : Handed known start pass last measure) → older_part next ≡ older_part pass → newer_part next ≡ newer_part pass → IsJoinOf now pass next rows
    → 1 ≤ length rows → after.rows ≡ min (measure.rows + length rows) greatest → after.nodes ≡ min (measure.nodes + 1) greatest → after.area ≡ min (measure.area + rows_len rows) greatest
    → after.ordered ≡ (measure.ordered && (follows last rows && is_ordered rows)) → behind ≡ last_node rows → Handed known start next behind after
more_handed known now start pass next last behind rows measure after told h older newer join some r n a o key = record {
  joins = h.joins ++ rows ∷ [];
  goes_on = λ later all.
      subst (JoinsAll known start) (sym (append_assoc h.joins (rows ∷ []) later))
      (h.goes_on (rows ∷ later) (next, older, newer, subst (λ k. IsJoinOf k pass next rows) told join, all));
  rows = omega (arith, r, h.rows, sum_by_push length h.joins rows);
  nodes = omega (arith, n, h.nodes, length-append h.joins (rows ∷ []));
  area = omega (arith, a, h.area, sum_by_push rows_len h.joins rows);
  ordered = o ∙ ap (λ t. t && (follows last rows && is_ordered rows)) h.ordered ∙ in_order last h.joins rows h.last_is h.last_each;
  last_is = key ∙ sym (last_joined (all_of h.joins) rows some) ∙ sym (ap last_node (all_pushed h.joins rows));
  last_each = key ∙ sym (last_pushed None h.joins rows);
}

-- behind the last node all is counted
pub all_handed : (known : Option Image) (start pass : Merger) (last : Option NodeId) (measure : Measure) → Handed known start pass last measure → both_left pass ≡ 0 → IsMeasureOf known start measure
all_handed known start pass last measure h none = record {
  joins = h.joins;
  all = subst (JoinsAll known start) (append-nil h.joins) (h.goes_on [] none);
  rows = h.rows;
  nodes = h.nodes;
  area = h.area;
  ordered = h.ordered;
}
