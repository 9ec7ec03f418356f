use Rattle.std.proofs.Common.{◌∙◌, Some, ap, arith, refl, subst, sym, true≢false}
use Rattle.node_fetch.specs.Spans.{FramesAll, ReadsAll}
use Rattle.partition_merge.specs.Pieces.{begins_with_put}
use Rattle.partition_merge.proofs.Pieces.{told_by_frames}
use Rattle.partition_merge.proofs.through.find_rows.Goals as goal

pub returns-in_err-frames-clause-exact : goal.returns-in_err-frames-clause-exact
returns-in_err-frames-clause-exact g c own t is =
    let eye = g.E.LogEye.state c.args.eye.now in
    absurd (true≢false (sym (c.in_err-frames.ensures.exact eye own c.requires.seen (c.range-bytes.ensures.range eye.told c.args.part.now c.reach.ensures.holds.range) t is).0))

pub returns-in-Some-clause-found : goal.returns-in-Some-clause-found
returns-in-Some-clause-found g c =
    let known = (g.E.LogEye.state c.args.eye.now).told in
    let p = c.args.part.now in
    let bytes = c.range-bytes.result.now in
    let found : FramesAll p.header.mark bytes c.args.node c.args.span.rows (Some c.in-Some.frames) = subst (FramesAll p.header.mark bytes c.args.node c.args.span.rows) c.in-Some.is c.in_ok-frames.ensures.found in
    let reached = c.in_ok-reach.ensures.reached in
    record {
      rows = found.rows;
      holds = record {
        lies = record { begins = reached.0; order = c.requires.order; ends = omega (arith, reached.1, c.requires.order) };
        within = c.requires.within;
        some = c.requires.some;
        reads = subst (λ xs. ReadsAll p.header.mark xs c.args.node c.args.span.rows found.rows) c.range-bytes.ensures.bytes found.read;
        tells = told_by_frames found.rows c.in-Some.frames _ refl refl refl refl found.are_frames;
        put = c.is_put.ensures ∙ ap begins_with_put c.range-bytes.ensures.bytes;
      };
      is_read = c.in_ok-frames.ensures.holds known (c.range-bytes.ensures.range known p c.reach.ensures.holds.range) found.rows found.read;
    }
