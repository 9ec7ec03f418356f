use Rattle.std.proofs.Common.{◌≡◌, ◌+◌, ◌<◌, ◌∷◌, [], length, take, refl, ap, ◌∙◌, arith}
use Rattle.std.specs.Prelude.{slice_index_or}
use Rattle.std.proofs.lemmas.List.{take_all}
use Rattle.fine_model.specs.declared.Mark.TheVariants as mark
use Rattle.fine_model.specs.RowBytes.{rows_len}
use Rattle.fine_model.specs.Merge.{nodes_in}
use Rattle.log_partition.proofs.Keyed.{no_key, as_many, counted_none, counted_all, counted_next, nodes_small, len_more, len_within}
use Rattle.log_partition.proofs.Sealed.{rows_most}
use Rattle.log_partition.proofs.encoding.header_for.Goals as goal

pub loop-key-init : goal.loop-key-init
loop-key-init c = record { nodes = λ bytes rows at. counted_none; area = λ bytes rows at. refl }

pub overflow_add-nodes : goal.overflow_add-nodes
overflow_add-nodes c =
    let bytes = c.requires.0 in
    let rows = c.requires.1 in
    let at = c.requires.2 in
    omega (arith, c.entries_more-nodes.ensures, nodes_small rows c.loop-key.key-index c.loop-key.nodes c.loop-key.last (slice_index_or c.args.keys.now c.loop-key.key-index no_key).node (c.loop-key.invariant.nodes bytes rows at) at.within)

pub overflow_add-area : goal.overflow_add-area
overflow_add-area c =
    let bytes = c.requires.0 in
    let rows = c.requires.1 in
    let at = c.requires.2 in
    let here : c.loop-key.key-index < length c.args.keys.now = omega arith in
    omega (arith, c.loop-key.invariant.area bytes rows at, len_more bytes rows c.args.keys.now c.loop-key.key-index no_key at.are here, len_within bytes rows c.args.keys.now c.loop-key.key-index no_key at.are here, at.within)

pub loop-key-preserved : goal.loop-key-preserved
loop-key-preserved c =
    let here : c.loop-key.key-index < length c.args.keys.now = omega arith in
    record {
      nodes = λ bytes rows at. rw (c.entries_more-nodes.ensures) (counted_next bytes rows c.args.keys.now c.loop-key.key-index no_key at.are here c.loop-key.nodes c.loop-key.last at.rising (c.loop-key.invariant.nodes bytes rows at));
      area = λ bytes rows at. ap (λ n. n + (slice_index_or c.args.keys.now c.loop-key.key-index no_key).len) (c.loop-key.invariant.area bytes rows at) ∙ len_more bytes rows c.args.keys.now c.loop-key.key-index no_key at.are here;
    }

pub overflow_cast-result : goal.overflow_cast-result
overflow_cast-result c =
    let rows = c.requires.1 in
    let at = c.requires.2 in
    omega (arith, as_many c.requires.0 rows c.args.keys.now at.are, rows_most rows, at.within)

pub returns : goal.returns
returns c bytes rows at =
    let long : length rows ≡ length c.args.keys.now = as_many bytes rows c.args.keys.now at.are in
    let all : take c.loop-key.key-index rows ≡ rows = take_all c.loop-key.key-index rows (omega (arith, long)) in
    let count : length c.args.keys.now ≡ length rows = omega (arith, long) in
    let nodes : c.loop-key.nodes ≡ length (nodes_in rows) = counted_all _ c.loop-key.nodes c.loop-key.last (c.loop-key.invariant.nodes bytes rows at) ∙ ap (λ rs. length (nodes_in rs)) all in
    let area : c.loop-key.area ≡ rows_len rows = c.loop-key.invariant.area bytes rows at ∙ ap rows_len all in
    λ i. record { mark = mark.Two; range = c.args.range; rows = count i; nodes = nodes i; area = area i; regions = 1; more = 0 ∷ 0 ∷ 0 ∷ 0 ∷ 0 ∷ 0 ∷ 0 ∷ [] }
