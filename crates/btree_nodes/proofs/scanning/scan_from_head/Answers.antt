use Rattle.std.proofs.Common.{◌==◌, ◌&&◌, not, refl, sym, ap, subst, ◌∙◌, eq-eqb}
use Rattle.std.proofs.lemmas.Result.{err_from_is_err_and}
use Rattle.std.proofs.Math.Bool.{and-false}
use Rattle.fine_model.specs.Map.{is_below}
use Rattle.node_cache.specs.Given.{given}
use Rattle.btree_nodes.specs.Calls.{IsFirstUnfitBetween}
use Rattle.btree_nodes.proofs.Loads.{loaded_kept}
use Rattle.btree_nodes.proofs.OnWalks.{head_among, unwanted_used, under_among, under_used}
use Rattle.btree_nodes.proofs.Paths.{head_some, head_behind}
use Rattle.btree_nodes.proofs.ScanHeads.{is_wanted, no_head, found_none, found_all, fault_of_scan}
use Rattle.btree_nodes.proofs.scanning.scan_from_head.Goals as goal
use Rattle.btree_nodes.proofs.scanning.scan_from_head.Goals.{then-limit-eq0-via-then-limit-eq0, then-limit-eq0-via-else-limit-eq0+then-not-is_below}

pub returns-in_default-clause-err : goal.returns-in_default-clause-err
returns-in_default-clause-err g c =
    let b = c.reach.new.bucket in
    subst (IsFirstUnfitBetween b c.args.low.now c.args.high.now c.args.limit) (sym c.node_in-unfit.ensures)
    (record { of_bucket = refl; first = no_head b.bucket (given b) c.args.low.now c.args.high.now c.args.limit (given b 0).0 c.in_default.ensures; there = (c.in_ok-reach.ensures).there })

pub returns-then-limit-eq0-clause-ok : goal.returns-then-limit-eq0-clause-ok
returns-then-limit-eq0-clause-ok g c =
    let b = c.reach.new.bucket in
    let says = head_some (given b 0).0 (c.in-Some.root, c.in-Some.next, c.in-Some.depth) c.in-Some.ensures in
    found_none b c.args.low.now c.args.high.now c.args.limit c.in-Some.root c.in-Some.next c.in-Some.depth (c.in_ok-reach.ensures).there says c.args.out.now
    (elim c.then-limit-eq0.branch [
      | then-limit-eq0-via-then-limit-eq0 w ↦ ap (λ k. is_below c.args.low.now c.args.high.now && not k) (eq-eqb c.args.limit 0 w.if-limit-eq0.true) ∙ and-false (is_below c.args.low.now c.args.high.now)
      | then-limit-eq0-via-else-limit-eq0+then-not-is_below w ↦ ap (λ k. k && not (c.args.limit == 0)) (sym w.is_below.ensures ∙ w.if-not-is_below.true)
    ])

pub returns-in_err-scan_from-clause-err : goal.returns-in_err-scan_from-clause-err
returns-in_err-scan_from-clause-err g c =
    let b = c.scan_from.new.bucket in
    let there = loaded_kept _ _ _ c.reach.new.bucket b c.scan_from.ensures.loaded 0 (c.in_ok-reach.ensures).there in
    let says = head_behind _ _ _ c.reach.new.bucket b c.scan_from.ensures.loaded c.in-Some.root c.in-Some.next c.in-Some.depth (c.in_ok-reach.ensures).there c.in-Some.ensures in
    let some = is_wanted c.args.low.now c.args.high.now c.args.limit (sym c.is_below.ensures ∙ c.if-not-is_below.false) c.if-limit-eq0.false in
    let p = err_from_is_err_and c.from_residual-in_err-scan_from.result c.from_residual-in_err-scan_from.ensures.1 in
    rw (p.1, p.2)
    (fault_of_scan b c.args.low.now c.args.high.now c.args.limit c.in-Some.root c.in-Some.next c.in-Some.depth there says c.args.out.now c.scan_from.new.out _ _ (λ f h. g.met.S.NodeSource.fails_earlier _ _ _ f c.reach.ensures.later h) some c.in_err-scan_from.field-0.0 (c.in_err-scan_from.ensures).way)

pub returns-clause-ok : goal.returns-clause-ok
returns-clause-ok g c =
    let b = c.scan_from.new.bucket in
    let there = loaded_kept _ _ _ c.reach.new.bucket b c.scan_from.ensures.loaded 0 (c.in_ok-reach.ensures).there in
    let says = head_behind _ _ _ c.reach.new.bucket b c.scan_from.ensures.loaded c.in-Some.root c.in-Some.next c.in-Some.depth (c.in_ok-reach.ensures).there c.in-Some.ensures in
    let some = is_wanted c.args.low.now c.args.high.now c.args.limit (sym c.is_below.ensures ∙ c.if-not-is_below.false) c.if-limit-eq0.false in
    found_all b c.args.low.now c.args.high.now c.args.limit c.in-Some.root c.in-Some.next c.in-Some.depth there says c.in_ok-scan_from.field-0 c.args.out.now c.scan_from.new.out some (c.in_ok-scan_from.ensures).way

pub returns-in_err-reach-clause-on_walk : goal.returns-in_err-reach-clause-on_walk
returns-in_err-reach-clause-on_walk g c = head_among c.args.low.now c.args.high.now c.reach.new.bucket c.args.limit _ _ c.reach.ensures.among

pub returns-in_default-clause-on_walk : goal.returns-in_default-clause-on_walk
returns-in_default-clause-on_walk g c = head_among c.args.low.now c.args.high.now c.reach.new.bucket c.args.limit _ _ c.reach.ensures.among

pub returns-then-limit-eq0-clause-on_walk : goal.returns-then-limit-eq0-clause-on_walk
returns-then-limit-eq0-clause-on_walk g c = head_among c.args.low.now c.args.high.now c.reach.new.bucket c.args.limit _ _ c.reach.ensures.among

pub returns-in_err-scan_from-clause-on_walk : goal.returns-in_err-scan_from-clause-on_walk
returns-in_err-scan_from-clause-on_walk g c =
    let says = head_behind _ _ _ c.reach.new.bucket c.scan_from.new.bucket c.scan_from.ensures.loaded c.in-Some.root c.in-Some.next c.in-Some.depth (c.in_ok-reach.ensures).there c.in-Some.ensures in
    under_among c.args.low.now c.args.high.now c.scan_from.new.bucket c.args.limit c.in-Some.root c.in-Some.next c.in-Some.depth says c.args.bucket.now c.reach.new.bucket (is_wanted c.args.low.now c.args.high.now c.args.limit (sym c.is_below.ensures ∙ c.if-not-is_below.false) c.if-limit-eq0.false) c.reach.ensures.among c.scan_from.ensures.on_walk

pub returns-clause-on_walk : goal.returns-clause-on_walk
returns-clause-on_walk g c =
    let says = head_behind _ _ _ c.reach.new.bucket c.scan_from.new.bucket c.scan_from.ensures.loaded c.in-Some.root c.in-Some.next c.in-Some.depth (c.in_ok-reach.ensures).there c.in-Some.ensures in
    under_among c.args.low.now c.args.high.now c.scan_from.new.bucket c.args.limit c.in-Some.root c.in-Some.next c.in-Some.depth says c.args.bucket.now c.reach.new.bucket (is_wanted c.args.low.now c.args.high.now c.args.limit (sym c.is_below.ensures ∙ c.if-not-is_below.false) c.if-limit-eq0.false) c.reach.ensures.among c.scan_from.ensures.on_walk

pub returns-clause-used : goal.returns-clause-used
returns-clause-used g c =
    let says = head_behind _ _ _ c.reach.new.bucket c.scan_from.new.bucket c.scan_from.ensures.loaded c.in-Some.root c.in-Some.next c.in-Some.depth (c.in_ok-reach.ensures).there c.in-Some.ensures in
    under_used c.args.low.now c.args.high.now c.scan_from.new.bucket c.args.limit c.in-Some.root c.in-Some.next c.in-Some.depth says c.args.bucket.now c.reach.new.bucket (is_wanted c.args.low.now c.args.high.now c.args.limit (sym c.is_below.ensures ∙ c.if-not-is_below.false) c.if-limit-eq0.false) (c.in_ok-reach.ensures).used (c.in_ok-scan_from.ensures).used

pub returns-then-limit-eq0-clause-used : goal.returns-then-limit-eq0-clause-used
returns-then-limit-eq0-clause-used g c =
    let b = c.reach.new.bucket in
    let says = head_some (given b 0).0 (c.in-Some.root, c.in-Some.next, c.in-Some.depth) c.in-Some.ensures in
    let used = (c.in_ok-reach.ensures).used in
    unwanted_used c.args.low.now c.args.high.now b c.args.limit c.in-Some.root c.in-Some.next c.in-Some.depth says c.args.bucket.now b
    (elim c.then-limit-eq0.branch [
      | then-limit-eq0-via-then-limit-eq0 w ↦ ap (λ k. is_below c.args.low.now c.args.high.now && not k) (eq-eqb c.args.limit 0 w.if-limit-eq0.true) ∙ and-false (is_below c.args.low.now c.args.high.now)
      | then-limit-eq0-via-else-limit-eq0+then-not-is_below w ↦ ap (λ k. k && not (c.args.limit == 0)) (sym w.is_below.ensures ∙ w.if-not-is_below.true)
    ])
    used
