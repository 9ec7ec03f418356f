use Rattle.std.proofs.Common.{false, ◌≡◌, ◌∙◌, ◌<◌, Ok, Err, Some, None, sym, ap, subst, arith, rules, refl}
use Rattle.std.specs.Prelude.{IfSome}
use Rattle.fine_model.specs.declared.FetchFault.TheVariants as fault
use Rattle.partition_index.proofs.Looking.{same_then}
use Rattle.partition_merge.specs.declared.merger.Merger.{Merger}
use Rattle.partition_merge.specs.Mergers.{AreKept, StandsAt, at_front, both_left, newer_part, older_part, start_of}
use Rattle.partition_merge.specs.Pieces.{EndsAt, HandsOver, IsTallyOf}
use Rattle.partition_merge.specs.Streams.{AreInOrder, both_bytes_left}
use Rattle.partition_merge.proofs.Streams.{area_told, bytes_front, kept_front, order_front, stands_front}
use Rattle.partition_merge.proofs.Found.{adds}
use Rattle.partition_merge.proofs.Sources.{err_clause}
use Rattle.partition_merge.proofs.StillSeen.{still_seen}
use Rattle.partition_merge.proofs.Handed.{none_handed, more_handed, all_handed}
use Rattle.partition_merge.proofs.Measured.{few_more, none_measured, nothing_counted, more_measured, more_counted, all_measured, blames_row}
use Rattle.partition_merge.proofs.merger.Merger.measure.Goals as goal

pub loop-pass-init : goal.loop-pass-init
loop-pass-init g c =
    let p = c.args.self.now.older.part in
    let q = c.args.self.now.newer.part in
    let len = c.args.self.now.region_len in
    let front : c.in-Ok.pass ≡ at_front p q len = c.in-Ok.ensures in
    record {
      stays = refl;
      same = record { number = refl; regions = refl; region_len = refl; told = refl };
      steady = refl;
      older = ap older_part front;
      newer = ap newer_part front;
      region_len = ap (λ (m : Merger). m.region_len) front;
      kept = subst (AreKept (g.E.LogEye.state c.args.eye.now).told) (sym front) (kept_front (g.E.LogEye.state c.args.eye.now).told p q len);
      amounts = nothing_counted _ refl refl refl;
      few = let both = ap both_left front in omega (arith, both);
      handed = none_handed (g.E.LogEye.state c.args.eye.now).told (start_of c.args.self.now) c.in-Ok.pass None _ front refl refl refl refl refl;
      counted = λ older newer a b.
          none_measured (g.E.LogEye.state c.args.eye.now) c.in-Ok.pass older newer None _ refl refl refl refl refl
          (subst (λ (m : Merger). StandsAt (g.E.LogEye.state c.args.eye.now) m older newer) (sym front) (stands_front (g.E.LogEye.state c.args.eye.now) p q len older newer a b));
      order = λ image told. subst (AreInOrder image) (sym front) (order_front image p q len);
      bytes = λ image told. (let all = ap both_bytes_left front ∙ bytes_front p q len in omega (arith, all));
    }

pub next_node-requires-clause-older : goal.next_node-requires-clause-older
next_node-requires-clause-older g c = still_seen (g.E.LogEye.state c.args.eye.now) (g.E.LogEye.state c.loop-pass.eye) _ _ c.loop-pass.invariant.same c.loop-pass.invariant.older c.requires.older

pub next_node-requires-clause-newer : goal.next_node-requires-clause-newer
next_node-requires-clause-newer g c = still_seen (g.E.LogEye.state c.args.eye.now) (g.E.LogEye.state c.loop-pass.eye) _ _ c.loop-pass.invariant.same c.loop-pass.invariant.newer c.requires.newer

pub returns-in_err-found-clause-bad_row : goal.returns-in_err-found-clause-bad_row
returns-in_err-found-clause-bad_row g c region at e =
    let i = c.loop-pass.invariant in
    let same : c.from_residual.result ≡ Err c.in_err-found.field-0.0 = search rules in
    let is : c.in_err-found.field-0.0 ≡ fault.BadRow region at = cc in
    blames_row (g.E.LogEye.state c.args.eye.now).told (g.E.LogEye.state c.loop-pass.eye).told c.loop-pass.pass c.args.self.now (record { region = region; at = at }) i.same.told i.older i.newer i.region_len
    (c.in_err-found.ensures.bad_row region at (ap Err is))

pub returns-in_err-found-clause-exact : goal.returns-in_err-found-clause-exact
returns-in_err-found-clause-exact g c older newer a b small =
    let m = c.loop-pass.invariant.counted older newer a b in
    let same : c.from_residual.result ≡ Err c.in_err-found.field-0.0 = search rules in
    err_clause c.from_residual.result c.in_err-found.field-0.0 _ same (c.in_err-found.ensures.exact m.left_older m.left_newer m.stands)

pub loop-pass-preserved : goal.loop-pass-preserved
loop-pass-preserved g c =
    let i = c.loop-pass.invariant in
    let h : HandsOver false (g.E.LogEye.state c.loop-pass.eye) (g.E.LogEye.state c.next_node.new.eye) c.loop-pass.pass c.next_node.new.self c.in-Some.found =
    let found : IfSome (Some c.in-Some.found) (HandsOver false (g.E.LogEye.state c.loop-pass.eye) (g.E.LogEye.state c.next_node.new.eye) c.loop-pass.pass c.next_node.new.self) =
    subst (λ found. IfSome found (HandsOver false (g.E.LogEye.state c.loop-pass.eye) (g.E.LogEye.state c.next_node.new.eye) c.loop-pass.pass c.next_node.new.self)) c.in-Some.is c.in_ok-found.ensures.found in found in
    let tally : IsTallyOf h.rows c.into_tally.result = subst (IsTallyOf h.rows) (sym c.into_tally.ensures) h.tally in
    let a = adds c.loop-pass.measure c.add.new.self c.loop-pass.last c.add.new.last h.rows c.into_tally.result tally c.add.ensures.rows c.add.ensures.area c.add.ensures.ordered c.add.ensures.last in
    let some = h.tally.some in
    record {
      stays = refl;
      same = same_then (g.E.LogEye.state c.args.eye.now) (g.E.LogEye.state c.loop-pass.eye) (g.E.LogEye.state c.next_node.new.eye) i.same c.next_node.ensures.same;
      steady = search rules;
      older = c.next_node.ensures.older ∙ i.older;
      newer = c.next_node.ensures.newer ∙ i.newer;
      region_len = c.next_node.ensures.region_len ∙ i.region_len;
      kept = search rules;
      few = let fewer : IfSome (Some c.in-Some.found) (λ _. both_left c.next_node.new.self < both_left c.loop-pass.pass) = subst (λ found. IfSome found (λ _. both_left c.next_node.new.self < both_left c.loop-pass.pass)) c.in-Some.is c.in_ok-found.ensures.fewer in
          few_more _ _ _ _ _ i.few fewer c.add.ensures.nodes;
      amounts = more_counted c.loop-pass.measure c.add.new.self h.rows i.amounts some a.rows_are c.add.ensures.nodes a.area;
      handed =
          more_handed (g.E.LogEye.state c.args.eye.now).told (g.E.LogEye.state c.loop-pass.eye).told (start_of c.args.self.now) c.loop-pass.pass c.next_node.new.self c.loop-pass.last c.add.new.last h.rows c.loop-pass.measure c.add.new.self
          i.same.told i.handed c.next_node.ensures.older c.next_node.ensures.newer h.read some a.rows_are c.add.ensures.nodes a.area a.ordered a.behind_is;
      counted = λ older newer t u.
          let m = i.counted older newer t u in
          more_measured (g.E.LogEye.state c.loop-pass.eye) (g.E.LogEye.state c.next_node.new.eye) c.loop-pass.pass c.next_node.new.self older newer h.rows c.loop-pass.last c.add.new.last c.loop-pass.measure c.add.new.self m (h.exact m.left_older m.left_newer m.stands) a.rows_are c.add.ensures.nodes a.area a.ordered a.behind_is some;
      order = λ image told. c.in_ok-found.ensures.order image (i.same.told ∙ told) (i.order image told);
      bytes = λ image told.
          (let so_far = i.bytes image told in
          let more = c.in_ok-found.ensures.ahead image (i.same.told ∙ told) (i.order image told) in omega (arith, so_far, more));
    }

pub returns-clause-sums : goal.returns-clause-sums
returns-clause-sums g c =
    let none : c.in_ok-found.field-0 ≡ None = search rules in
    all_handed _ _ c.loop-pass.pass c.loop-pass.last c.loop-pass.measure c.loop-pass.invariant.handed (c.in_ok-found.ensures.end (ap Ok none))

pub returns-clause-exact : goal.returns-clause-exact
returns-clause-exact g c older newer a b small =
    let m = c.loop-pass.invariant.counted older newer a b in
    let none : c.in_ok-found.field-0 ≡ None = search rules in
    let h : EndsAt (g.E.LogEye.state c.next_node.new.eye) c.next_node.new.self m.left_older m.left_newer None = subst (EndsAt (g.E.LogEye.state c.next_node.new.eye) c.next_node.new.self m.left_older m.left_newer) none (c.in_ok-found.ensures.exact m.left_older m.left_newer m.stands) in
    all_measured (g.E.LogEye.state c.loop-pass.eye) c.loop-pass.pass older newer c.loop-pass.last c.loop-pass.measure m h.0 h.1 small

pub returns-in_err-found-clause-once : goal.returns-in_err-found-clause-once
returns-in_err-found-clause-once g c image told =
    let i = c.loop-pass.invariant in
    let so_far = i.bytes image told in
    let most = c.next_node.ensures.taken image (i.same.told ∙ told) (i.order image told) in omega (arith, so_far, most)

pub returns-in_err-found-clause-taken : goal.returns-in_err-found-clause-taken
returns-in_err-found-clause-taken g c older newer a b =
    let i = c.loop-pass.invariant in
    let so_far = i.bytes a.image a.told in
    let most = c.next_node.ensures.taken a.image (i.same.told ∙ a.told) (i.order a.image a.told) in
    omega (arith, so_far, most, area_told _ _ older a, area_told _ _ newer b)

pub returns-clause-once : goal.returns-clause-once
returns-clause-once g c image told =
    let i = c.loop-pass.invariant in
    let so_far = i.bytes image told in
    let most = c.next_node.ensures.taken image (i.same.told ∙ told) (i.order image told) in omega (arith, so_far, most)

pub returns-clause-taken : goal.returns-clause-taken
returns-clause-taken g c older newer a b =
    let i = c.loop-pass.invariant in
    let so_far = i.bytes a.image a.told in
    let most = c.next_node.ensures.taken a.image (i.same.told ∙ a.told) (i.order a.image a.told) in
    omega (arith, so_far, most, area_told _ _ older a, area_told _ _ newer b)
