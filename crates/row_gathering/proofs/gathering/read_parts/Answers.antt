-- The rows of each part stand behind those of the parts before it.
use Rattle.std.proofs.Common.{ℕ, ◌+◌, ◌<◌, ◌≤◌, List, [], length, take, refl, sym, subst, ◌∙◌, arith, slice_index_or}
use Rattle.std.proofs.lemmas.List.{take_more}
use Rattle.std.proofs.lemmas.List.Sums.{sum_by-take-le}
use Rattle.fine_model.specs.declared.Part.{Part}
use Rattle.fine_model.specs.Regions.{body_len}
use Rattle.log_disk.specs.Disk.{Disk}
use Rattle.row_gathering.specs.Steps.{AddsRows, IsAlone}
use Rattle.row_gathering.proofs.Bodies.{all_at, bodies_more, no_part, read_more, read_none}
use Rattle.row_gathering.proofs.gathering.read_parts.Goals as goal

pub loop-part-init : goal.loop-part-init
loop-part-init g c = record { same = refl; long = c.requires.long; within = omega arith; read = read_none (g.D.LogDisk.state c.args.disk.now) [] c.args.keys.now.items refl c.requires.none }

pub read_part-requires-clause-alone : goal.read_part-requires-clause-alone
read_part-requires-clause-alone g c κs within =
    subst (λ (d : Disk). IsAlone d.region_len (slice_index_or c.args.parts.now c.loop-part.part-index no_part)) (sym c.loop-part.invariant.same)
    (all_at (IsAlone (g.D.LogDisk.state c.args.disk.now).region_len) c.args.parts.now c.loop-part.part-index no_part c.requires.alone (omega arith))

pub read_part-requires-clause-within : goal.read_part-requires-clause-within
read_part-requires-clause-within g c κs within =
    omega (arith, c.loop-part.invariant.within, c.loop-part.invariant.long, bodies_more c.args.parts.now c.loop-part.part-index (omega arith), sum_by-take-le (λ (p : Part). body_len p.header) c.args.parts.now (c.loop-part.part-index + 1))

pub loop-part-preserved : goal.loop-part-preserved
loop-part-preserved g c =
    let disk : Disk = g.D.LogDisk.state c.args.disk.now in
    let parts : List Part = c.args.parts.now in
    let i : ℕ = c.loop-part.part-index in
    let part : Part = slice_index_or parts i no_part in
    let here : i < length parts = omega arith in
    let low : c.loop-part.at ≤ length c.loop-part.bytes = omega (arith, c.loop-part.invariant.within, c.loop-part.invariant.long, sum_by-take-le (λ (p : Part). body_len p.header) parts i) in
    record {
      same = c.in_ok-read_part.ensures.same (λ e. cc) ∙ c.loop-part.invariant.same;
      long = c.in_ok-read_part.ensures.len ∙ c.loop-part.invariant.long;
      within = omega (arith, c.loop-part.invariant.within, bodies_more parts i here);
      read = read_more disk (take i parts) (take (i + 1) parts) part (take_more parts i no_part here) c.loop-part.bytes c.read_part.new.bytes c.loop-part.at c.loop-part.keys.items c.read_part.new.keys.items low
          c.in_ok-read_part.ensures.front c.loop-part.invariant.read
          (subst (λ (d : Disk). AddsRows d part c.loop-part.at c.read_part.new.bytes c.loop-part.keys.items c.read_part.new.keys.items) c.loop-part.invariant.same (c.in_ok-read_part.ensures.rows c.if-not-branch.false));
    }
