use Rattle.std.proofs.Common.{◌≡◌, ◌∙◌, ◌≤◌, ◌++◌, ◌==◌, [], length, false, true, Ok, Err, sym, ap, subst, arith, rules, refl, true≢false, inl, inr}
use Rattle.std.proofs.lemmas.Result.{err_from_is_err_and}
use Rattle.fine_model.specs.declared.FetchFault.TheVariants as fault
use Rattle.partition_index.proofs.Looking.{same_then}
use Rattle.partition_merge.specs.Mergers.{AreKept}
use Rattle.partition_merge.specs.Blocks.{BlocksValue, SameBlocks}
use Rattle.partition_merge.proofs.Ahead.{cleared_ahead, filled_ahead, filled_ended, filled_few, filled_same, at_most, full_not_empty, gives, step_falls}
use Rattle.partition_merge.specs.Joined.{IsJoined}
use Rattle.partition_merge.specs.Streams.{AreInOrder, both_bytes_left}
use Rattle.partition_merge.proofs.Joining.{cleared_joined, filled_joined, gives_joined}
use Rattle.partition_merge.proofs.Measured.{blames_row}
use Rattle.partition_merge.proofs.Sources.{err_clause}
use Rattle.partition_merge.proofs.StillSeen.{still_seen}
use Rattle.partition_merge.proofs.blocks.Blocks.next.Given.{Over}
use Rattle.partition_merge.proofs.blocks.Blocks.next.Goals.{After-is_empty, then-loop-more-test+else-not-is_full, else-loop-more-test}
use Rattle.partition_merge.proofs.blocks.Blocks.next.Goals as goal

-- a block that is empty is so at the end of all
ended : (g : Over) (c : After-is_empty g) → (c.is_empty.result ≡ (length c.loop-more.self.block == 0)) × (c.is_empty.result ≡ true → (c.loop-more.self.waiting ≡ []) × (c.loop-more.self.is_whole ≡ true))
ended g c =
    let is : c.is_empty.result ≡ (length c.loop-more.self.block == 0) = search rules in (
      is,
      λ e. elim c.loop-more-test.branch [
        | then-loop-more-test+else-not-is_full w ↦ absurd (full_not_empty c.loop-more.self.most (length c.loop-more.self.block) w.is_full.result c.is_empty.result c.loop-more.invariant.some w.is_full.ensures (search rules) is e)
        | else-loop-more-test w ↦ c.loop-more.invariant.ended w.loop-more-test.false
      ],
    )

pub loop-more-init : goal.loop-more-init
loop-more-init g c = record {
  same = search rules;
  eye = record { number = refl; regions = refl; region_len = refl; told = refl };
  steady = refl;
  kept = search rules;
  most = search rules;
  some = search rules;
  ended = λ e. absurd (true≢false e);
  ahead = λ handed a b i. cleared_ahead (g.E.LogEye.state c.args.eye.now) c.args.self.now c.clear.new.self handed a b c.clear.ensures.cleared i;
  joined = λ start handed i. cleared_joined (g.E.LogEye.state c.args.eye.now).told start c.args.self.now c.clear.new.self handed c.clear.ensures.cleared i;
  order = λ image told order. subst (AreInOrder image) (sym (ap (λ (v : BlocksValue). v.merger) c.clear.ensures.cleared)) order;
  bytes = λ image told order. (let same = ap (λ (v : BlocksValue). both_bytes_left v.merger) c.clear.ensures.cleared in omega (arith, same));
}

pub supply-requires-clause-older : goal.supply-requires-clause-older
supply-requires-clause-older g c = still_seen (g.E.LogEye.state c.args.eye.now) (g.E.LogEye.state c.loop-more.eye) _ _ c.loop-more.invariant.eye c.loop-more.invariant.same.older c.requires.older

pub supply-requires-clause-newer : goal.supply-requires-clause-newer
supply-requires-clause-newer g c = still_seen (g.E.LogEye.state c.args.eye.now) (g.E.LogEye.state c.loop-more.eye) _ _ c.loop-more.invariant.eye c.loop-more.invariant.same.newer c.requires.newer

pub returns-in_err-more-clause-bad_row : goal.returns-in_err-more-clause-bad_row
returns-in_err-more-clause-bad_row g c region at e =
    let i = c.loop-more.invariant in
    let same : c.from_residual.result ≡ Err c.in_err-more.field-0.0 = search rules in
    let is : c.in_err-more.field-0.0 ≡ fault.BadRow region at = cc in
    blames_row (g.E.LogEye.state c.args.eye.now).told (g.E.LogEye.state c.loop-more.eye).told c.loop-more.self.merger c.args.self.now.merger (record { region = region; at = at }) i.eye.told i.same.older i.same.newer i.same.region_len
    (c.in_err-more.ensures.bad_row region at (ap Err is))

pub returns-in_err-more-clause-exact : goal.returns-in_err-more-clause-exact
returns-in_err-more-clause-exact g c handed a b ahead =
    let i = c.loop-more.invariant in
    let is = err_from_is_err_and c.from_residual.result c.from_residual.ensures.1 in
    let same : c.from_residual.result ≡ Err c.in_err-more.field-0.0 = is.1 ∙ ap Err is.2 in
    err_clause c.from_residual.result c.in_err-more.field-0.0 _ same (c.in_err-more.ensures.exact handed a b (i.ahead handed a b ahead))

pub loop-more-smaller : goal.loop-more-smaller
loop-more-smaller g c =
    let full : c.is_full.result ≡ false = search rules in
    step_falls c.loop-more.self c.supply.new.self c.fill.new.self c.loop-more.more c.in_ok-more.more c.is_full.result c.loop-more-test.true c.is_full.ensures full c.supply.ensures.longer c.supply.ensures.few c.supply.ensures.same.most c.supply.ensures.no_more (λ e. c.in_ok-more.ensures.moves (ap Ok e)) c.fill.ensures

pub loop-more-preserved : goal.loop-more-preserved
loop-more-preserved g c =
    let i = c.loop-more.invariant in
    let n = c.supply.new.self.most in
    let whole : SameBlocks c.args.self.now c.supply.new.self = record {
      older = c.supply.ensures.same.older ∙ i.same.older;
      newer = c.supply.ensures.same.newer ∙ i.same.newer;
      region_len = c.supply.ensures.same.region_len ∙ i.same.region_len;
      most = c.supply.ensures.same.most ∙ i.same.most;
    } in
    let room = filled_few c.supply.new.self c.fill.new.self c.loop-more.self.most c.supply.ensures.few c.supply.ensures.same.most c.fill.ensures in
    record {
      same = filled_same c.args.self.now c.supply.new.self c.fill.new.self _ whole c.fill.ensures;
      eye = same_then (g.E.LogEye.state c.args.eye.now) (g.E.LogEye.state c.loop-more.eye) (g.E.LogEye.state c.supply.new.eye) i.eye c.supply.ensures.eye;
      steady = search rules;
      kept = subst (AreKept (g.E.LogEye.state c.args.eye.now).told) (sym (ap (λ (v : BlocksValue). v.merger) c.fill.ensures)) (subst (λ k. AreKept k c.supply.new.self.merger) i.eye.told c.supply.ensures.kept);
      most = room.0;
      some = subst (λ n. 1 ≤ n) (sym room.1) i.some;
      ended = λ e. filled_ended c.supply.new.self c.fill.new.self _ c.fill.ensures (c.in_ok-more.ensures.end (ap Ok e));
      ahead = λ handed a b ahead.
          filled_ahead (g.E.LogEye.state c.supply.new.eye) c.supply.new.self c.fill.new.self c.supply.new.self.block handed a b _ c.fill.ensures refl
          (c.in_ok-more.ensures.exact handed a b (i.ahead handed a b ahead));
      joined = λ start handed joined.
          let known = (g.E.LogEye.state c.args.eye.now).told in
          let before = subst (λ k. IsJoined k start c.loop-more.self (handed ++ c.loop-more.self.block)) (sym i.eye.told) (i.joined start handed joined) in
          let supplied = subst (λ k. IsJoined k start c.supply.new.self (handed ++ c.supply.new.self.block)) i.eye.told (c.in_ok-more.ensures.joined start handed before) in
          filled_joined known start c.supply.new.self c.fill.new.self c.supply.new.self.block handed _ c.fill.ensures refl supplied;
      order = λ image told order.
          subst (AreInOrder image) (sym (ap (λ (v : BlocksValue). v.merger) c.fill.ensures)) (c.in_ok-more.ensures.order image (i.eye.told ∙ told) (i.order image told order));
      bytes = λ image told order.
          (let so_far = i.bytes image told order in
          let more = c.in_ok-more.ensures.once image (i.eye.told ∙ told) (i.order image told order) in
          let same = ap (λ (v : BlocksValue). both_bytes_left v.merger) c.fill.ensures in omega (arith, so_far, more, same));
    }

pub returns-clause-exact : goal.returns-clause-exact
returns-clause-exact g c handed a b ahead =
    let i = c.loop-more.invariant in
    let at_end = ended g (goal.at.returns-clause-exact g c).After-is_empty in
    gives (g.E.LogEye.state c.loop-more.eye) c.loop-more.self handed a b c.is_empty.result (i.ahead handed a b ahead) at_end.0 at_end.1

pub returns-clause-full : goal.returns-clause-full
returns-clause-full g c =
    let i = c.loop-more.invariant in
    elim c.loop-more-test.branch [
      | then-loop-more-test+else-not-is_full w ↦ inl (at_most c.loop-more.self.most (length c.loop-more.self.block) w.is_full.result i.most w.is_full.ensures (search rules))
      | else-loop-more-test w ↦ inr (i.ended w.loop-more-test.false)
    ]

pub returns-clause-joined : goal.returns-clause-joined
returns-clause-joined g c start handed joined =
    let i = c.loop-more.invariant in
    let at_end = ended g (goal.at.returns-clause-joined g c).After-is_empty in
    gives_joined (g.E.LogEye.state c.args.eye.now).told start c.loop-more.self handed c.is_empty.result (i.joined start handed joined) at_end.0 at_end.1

pub returns-in_err-more-clause-taken : goal.returns-in_err-more-clause-taken
returns-in_err-more-clause-taken g c image told order =
    let i = c.loop-more.invariant in
    let so_far = i.bytes image told order in
    let most = c.supply.ensures.taken image (i.eye.told ∙ told) (i.order image told order) in omega (arith, so_far, most)

pub returns-clause-taken : goal.returns-clause-taken
returns-clause-taken g c image told order = let so_far = c.loop-more.invariant.bytes image told order in omega (arith, so_far)
