use Rattle.std.proofs.Common.{arith, ◌≡◌, ◌-◌, ◌∙◌, sym, subst, rules, length, take, length-take}
use Rattle.std.proofs.lemmas.Bool.{false≢true}
use Rattle.std.proofs.lemmas.Slice.{take-put_mid}
use Rattle.std.specs.Prelude.{IsErr}
use Rattle.partition_index.proofs.Looking.{seen_same, is_named, look_next, look_whole}
use Rattle.partition_index.proofs.places.read_body.Goals as goal

pub read-requires-clause-named : goal.read-requires-clause-named
read-requires-clause-named g c =
    let state = g.E.LogEye.state in
    is_named (state c.loop-done.eye) c.args.part.now c.place_of-region.result.0
    (seen_same (state c.args.eye.now) (state c.loop-done.eye) c.args.part.now c.loop-done.invariant.looks.same c.requires.seen) c.place_of-region.ensures.of_part

pub loop-done-preserved : goal.loop-done-preserved
loop-done-preserved g c =
    let state = g.E.LogEye.state in
    let done = c.loop-done.done in
    let piece = c.read.new.out in
    let front = take done c.loop-done.out in
    let place = c.place_of-region.ensures in
    let from = c.from-in-loop-done in
    let long : length front ≡ done = omega (arith, length-take done c.loop-done.out) in
    let pieces : length piece ≡ c.min-end.result - done = omega (arith, c.read.auto.out) in
    let look = look_next c.args.part.now c.args.at done c.args.region_len front piece c.place_of-region.result.0 from.result (IsErr c.read.result) (state c.args.eye.now) (state c.loop-done.eye) (state c.read.new.self)
    c.requires.seen c.requires.region_len long (omega (arith, pieces)) place.region (from.ensures ∙ place.place) (omega (arith, pieces)) c.loop-done.invariant.looks c.read.ensures in
    record {
      long = search rules;
      within = search rules;
      looks = look_whole c.args.part.now c.args.at _ _ _ _ _ _ look (λ f. false≢true (subst IsErr c.in_ok-read.was f)) (λ f. f) (sym (take-put_mid done (c.min-end.result - done) c.loop-done.out piece c.min-end.result (omega (arith, pieces)) (omega arith)));
    }
