use Rattle.std.proofs.Common.{◌≡◌, ◌∙◌, ◌+◌, ◌≤◌, ◌++◌, List, Some, Err, sym, ap, subst, arith, rules, refl}
use Rattle.fine_model.specs.declared.Part.{Part}
use Rattle.fine_model.specs.declared.Row.{Row}
use Rattle.fine_model.specs.Regions.{Image}
use Rattle.partition_index.specs.Parts.{IsSeen}
use Rattle.partition_index.proofs.Looking.{seen_same, same_then}
use Rattle.partition_merge.specs.declared.merger.Merger.{Merger}
use Rattle.partition_merge.specs.Merging.{merged_of}
use Rattle.partition_merge.specs.Mergers.{StandsAt, both_left, newer_part, nodes_left, older_part}
use Rattle.partition_merge.specs.Streams.{AreInOrder, both_bytes_left, bytes_left}
use Rattle.partition_merge.proofs.Sources.{Peeked, err_clause, fewer_both, source_peeked, peeked_both, none_peeked, takes_as, handed_out, first_lowest, second_lowest, some_both}
use Rattle.partition_merge.proofs.pass.Pass.next_node.Given.{Over}
use Rattle.partition_merge.proofs.pass.Pass.next_node.Goals.{After-pieces-1, After-peek, After-take}
use Rattle.partition_merge.proofs.pass.Pass.next_node.Goals as goal

-- a pass stands where its two sources do
stands : (g : Over) (c : After-peek g) (older newer : List Row) → StandsAt (g.E.LogEye.state c.args.eye.now) c.args.self.now older newer
    → StandsAt (g.E.LogEye.state c.args.eye.now) (record { older = c.self.inside.older; newer = c.self.inside.newer; region_len = c.self.inside.region_len }) older newer
stands g c older newer at = subst (λ (m : Merger). StandsAt (g.E.LogEye.state c.args.eye.now) m older newer) (sym c.self.view_is) at

-- where both sources stand once their next entries are kept
sources : (g : Over) (c : After-take g) (older newer : List Row) → StandsAt (g.E.LogEye.state c.args.eye.now) c.args.self.now older newer → Peeked (g.E.LogEye.state c.peek-2.new.eye) c.peek.new.self c.peek-2.new.self older newer c.in-Some.node
sources g c older newer at =
    let here = subst (λ (m : Merger). StandsAt (g.E.LogEye.state c.args.eye.now) m older newer) (sym c.self.view_is) at in
    let later = source_peeked (g.E.LogEye.state c.args.eye.now) (g.E.LogEye.state c.peek.new.eye) c.self.inside.newer c.self.inside.newer newer c.peek.ensures.same refl refl here.of_newer in
    peeked_both (g.E.LogEye.state c.args.eye.now) (g.E.LogEye.state c.peek.new.eye) (g.E.LogEye.state c.peek-2.new.eye) (record { older = c.self.inside.older; newer = c.self.inside.newer; region_len = c.self.inside.region_len }) c.peek.new.self c.peek-2.new.self older newer c.in-Some.node c.in_ok-older.older c.in_ok-newer.newer here
    c.peek.ensures.same c.peek-2.ensures.same c.peek.ensures.part c.peek.ensures.next c.peek-2.ensures.part c.peek-2.ensures.next c.in_ok-older.ensures.head c.in_ok-newer.ensures.head
    (c.in_ok-older.ensures.exact older here.of_older) (c.in_ok-newer.ensures.exact newer later) (sym c.lower.ensures ∙ c.in-Some.is)

-- the bytes that the four calls took are those that are no longer left
both_taken : (g : Over) (c : After-pieces-1 g) (image : Image) → (g.E.LogEye.state c.args.eye.now).told ≡ Some image → AreInOrder image c.args.self.now
    → (g.E.LogEye.state c.take-2.new.eye).taken + (bytes_left c.take.new.self + bytes_left c.take-2.new.self) ≤ (g.E.LogEye.state c.args.eye.now).taken + both_bytes_left c.args.self.now
both_taken g c image told before =
    let order = subst (AreInOrder image) (sym c.self.view_is) before in
    let bytes = ap both_bytes_left c.self.view_is in
    let seen = c.peek-2.ensures.same.told ∙ c.peek.ensures.same.told ∙ told in
    let older_peeked = c.in_ok-older.ensures.ahead image order.older in
    let newer_peeked = c.in_ok-newer.ensures.ahead image order.newer in
    let older_taken = c.in_ok-older-2.ensures.ahead image seen (c.in_ok-older.ensures.order image order.older) in
    let newer_taken = c.in_ok-newer-2.ensures.ahead image (c.take.ensures.same.told ∙ seen) (c.in_ok-newer.ensures.order image order.newer) in
    omega (arith, bytes, older_peeked, newer_peeked, older_taken, newer_taken)

pub returns-in_err-older-clause-exact : goal.returns-in_err-older-clause-exact
returns-in_err-older-clause-exact g c older newer at =
    let here = stands g (goal.at.returns-in_err-older-clause-exact g c).After-peek older newer at in
    let same : c.from_residual.result ≡ Err c.in_err-older.field-0.0 = search rules in
    err_clause c.from_residual.result c.in_err-older.field-0.0 _ same (c.in_err-older.ensures.exact older here.of_older)

pub returns-in_err-newer-clause-exact : goal.returns-in_err-newer-clause-exact
returns-in_err-newer-clause-exact g c older newer at =
    let here = stands g (goal.at.returns-in_err-newer-clause-exact g c).After-peek older newer at in
    let same : c.from_residual-in_err-newer.result ≡ Err c.in_err-newer.field-0.0 = search rules in
    err_clause c.from_residual-in_err-newer.result c.in_err-newer.field-0.0 _ same
    (c.in_err-newer.ensures.exact newer (source_peeked (g.E.LogEye.state c.args.eye.now) (g.E.LogEye.state c.peek.new.eye) c.self.inside.newer c.self.inside.newer newer c.peek.ensures.same refl refl here.of_newer))

pub returns-in_err-older-2-clause-exact : goal.returns-in_err-older-2-clause-exact
returns-in_err-older-2-clause-exact g c older newer at =
    let same : c.from_residual-in_err-older-2.result ≡ Err c.in_err-older-2.field-0.0 = search rules in
    let p = sources g (goal.at.returns-in_err-older-2-clause-exact g c).After-take older newer at in
    err_clause c.from_residual-in_err-older-2.result c.in_err-older-2.field-0.0 _ same (c.in_err-older-2.ensures.exact older p.of_older p.old_from p.old_kept)

pub returns-in_err-newer-2-clause-exact : goal.returns-in_err-newer-2-clause-exact
returns-in_err-newer-2-clause-exact g c older newer at =
    let same : c.from_residual-in_err-newer-2.result ≡ Err c.in_err-newer-2.field-0.0 = search rules in
    let p = sources g (goal.at.returns-in_err-newer-2-clause-exact g c).After-take older newer at in
    let new_at = source_peeked (g.E.LogEye.state c.peek-2.new.eye) (g.E.LogEye.state c.take.new.eye) c.peek-2.new.self c.peek-2.new.self newer c.take.ensures.same refl refl p.of_newer in
    err_clause c.from_residual-in_err-newer-2.result c.in_err-newer-2.field-0.0 _ same (c.in_err-newer-2.ensures.exact newer new_at p.new_from p.new_kept)

pub peek-requires-2-clause-seen : goal.peek-requires-2-clause-seen
peek-requires-2-clause-seen g c = seen_same (g.E.LogEye.state c.args.eye.now) (g.E.LogEye.state c.peek.new.eye) c.self.inside.newer.part c.peek.ensures.same (subst (λ (m : Merger). IsSeen (g.E.LogEye.state c.args.eye.now) (newer_part m)) (sym c.self.view_is) c.requires.newer)

pub take-requires-clause-seen : goal.take-requires-clause-seen
take-requires-clause-seen g c =
    let same = same_then (g.E.LogEye.state c.args.eye.now) (g.E.LogEye.state c.peek.new.eye) (g.E.LogEye.state c.peek-2.new.eye) c.peek.ensures.same c.peek-2.ensures.same in
    subst (IsSeen (g.E.LogEye.state c.peek-2.new.eye)) (sym c.peek.ensures.part) (seen_same (g.E.LogEye.state c.args.eye.now) (g.E.LogEye.state c.peek-2.new.eye) c.self.inside.older.part same (subst (λ (m : Merger). IsSeen (g.E.LogEye.state c.args.eye.now) (older_part m)) (sym c.self.view_is) c.requires.older))

pub take-requires-2-clause-seen : goal.take-requires-2-clause-seen
take-requires-2-clause-seen g c =
    let same = same_then (g.E.LogEye.state c.args.eye.now) (g.E.LogEye.state c.peek.new.eye) (g.E.LogEye.state c.take.new.eye) c.peek.ensures.same
    (same_then (g.E.LogEye.state c.peek.new.eye) (g.E.LogEye.state c.peek-2.new.eye) (g.E.LogEye.state c.take.new.eye) c.peek-2.ensures.same c.take.ensures.same) in
    subst (IsSeen (g.E.LogEye.state c.take.new.eye)) (sym c.peek-2.ensures.part) (seen_same (g.E.LogEye.state c.args.eye.now) (g.E.LogEye.state c.take.new.eye) c.self.inside.newer.part same (subst (λ (m : Merger). IsSeen (g.E.LogEye.state c.args.eye.now) (newer_part m)) (sym c.self.view_is) c.requires.newer))

pub take-requires-clause-lowest : goal.take-requires-clause-lowest
take-requires-clause-lowest g c = first_lowest _ _ _ _ c.in_ok-older.ensures.head (sym c.lower.ensures ∙ c.in-Some.is)

pub take-requires-2-clause-lowest : goal.take-requires-2-clause-lowest
take-requires-2-clause-lowest g c = second_lowest _ _ _ _ c.in_ok-newer.ensures.head (sym c.lower.ensures ∙ c.in-Some.is)

pub returns-in_default-clause-exact : goal.returns-in_default-clause-exact
returns-in_default-clause-exact g c older newer at =
    let here = stands g (goal.at.returns-in_default-clause-exact g c).After-peek older newer at in
    let later = source_peeked (g.E.LogEye.state c.args.eye.now) (g.E.LogEye.state c.peek.new.eye) c.self.inside.newer c.self.inside.newer newer c.peek.ensures.same refl refl here.of_newer in
    let none = none_peeked (g.E.LogEye.state c.args.eye.now) (g.E.LogEye.state c.peek.new.eye) (g.E.LogEye.state c.peek-2.new.eye) (record { older = c.self.inside.older; newer = c.self.inside.newer; region_len = c.self.inside.region_len }) older newer c.in_ok-older.older c.in_ok-newer.newer here
    c.peek.ensures.same c.peek-2.ensures.same (c.in_ok-older.ensures.exact older here.of_older) (c.in_ok-newer.ensures.exact newer later) (sym c.lower.ensures ∙ c.in_default.is) in
    let same = same_then (g.E.LogEye.state c.args.eye.now) (g.E.LogEye.state c.peek.new.eye) (g.E.LogEye.state c.peek-2.new.eye) c.peek.ensures.same c.peek-2.ensures.same in (
      none.0,
      none.1,
      record {
        of_older = source_peeked (g.E.LogEye.state c.args.eye.now) (g.E.LogEye.state c.peek-2.new.eye) c.self.inside.older c.peek.new.self older same c.peek.ensures.part c.peek.ensures.next here.of_older;
        of_newer = source_peeked (g.E.LogEye.state c.args.eye.now) (g.E.LogEye.state c.peek-2.new.eye) c.self.inside.newer c.peek-2.new.self newer same c.peek-2.ensures.part c.peek-2.ensures.next here.of_newer;
      },
    )

pub merged-requires-clause-rows : goal.merged-requires-clause-rows
merged-requires-clause-rows g c =
    let t = c.in_ok-older-2.ensures.taken_is in
    let u = c.in_ok-newer-2.ensures.taken_is in record { older = record { rows = t.rows; holds = t.holds }; newer = record { rows = u.rows; holds = u.holds } }

pub returns-clause-found : goal.returns-clause-found
returns-clause-found g c =
    let t = c.in_ok-older-2.ensures.taken_is in
    let u = c.in_ok-newer-2.ensures.taken_is in
    let first = sym c.lower.ensures ∙ c.in-Some.is in
    let both = some_both c.in-Some.node c.in_ok-older.older c.in_ok-newer.newer c.peek.new.self.head c.peek-2.new.self.head t.rows u.rows first c.in_ok-older.ensures.head c.in_ok-newer.ensures.head t.some u.some in
    let m = c.in-Ok.ensures t.rows u.rows t.holds u.holds both in
    record {
      rows = merged_of c.in-Some.node (t.rows ++ u.rows);
      tally = m.tally;
      can_spell = m.can_spell;
      spelled = m.spelled;
      read = record {
        node = c.in-Some.node;
        older = t.rows;
        newer = u.rows;
        of_older = takes_as _ _ c.args.self.now.older c.peek.new.self c.take.new.self c.in-Some.node t.rows (c.peek-2.ensures.same.told ∙ c.peek.ensures.same.told) (c.peek.ensures.part ∙ ap (λ (m : Merger). m.older.part) c.self.view_is) (c.peek.ensures.next ∙ ap (λ (m : Merger). m.older.next) c.self.view_is) t.read;
        of_newer = takes_as _ _ c.args.self.now.newer c.peek-2.new.self c.take-2.new.self c.in-Some.node u.rows (c.take.ensures.same.told ∙ c.peek-2.ensures.same.told ∙ c.peek.ensures.same.told) (c.peek-2.ensures.part ∙ ap (λ (m : Merger). m.newer.part) c.self.view_is) (c.peek-2.ensures.next ∙ ap (λ (m : Merger). m.newer.next) c.self.view_is) u.read;
        joined = refl;
        some = m.tally.some;
      };
      exact = λ older newer at.
          let p = sources g (goal.at.returns-clause-found g c).After-take older newer at in
          let new_at = source_peeked (g.E.LogEye.state c.peek-2.new.eye) (g.E.LogEye.state c.take.new.eye) c.peek-2.new.self c.peek-2.new.self newer c.take.ensures.same refl refl p.of_newer in
          let old_behind = source_peeked (g.E.LogEye.state c.take.new.eye) (g.E.LogEye.state c.take-2.new.eye) c.take.new.self c.take.new.self _ c.take-2.ensures.same refl refl (c.take.ensures.left older p.of_older p.old_from p.old_kept) in
          handed_out (g.E.LogEye.state c.take-2.new.eye) _ older newer (merged_of c.in-Some.node (t.rows ++ u.rows)) t.rows u.rows c.in-Some.node p.of_older.is_left.ordered p.of_newer.is_left.ordered p.first
          (t.exact older p.of_older p.old_from p.old_kept) (u.exact newer new_at p.new_from p.new_kept) refl
          old_behind (c.take-2.ensures.left newer new_at p.new_from p.new_kept);
    }

pub returns-clause-fewer : goal.returns-clause-fewer
returns-clause-fewer g c =
    let was = ap both_left c.self.view_is in
    let old_part = ap (λ (p : Part). p.header.nodes) c.peek.ensures.part in
    let new_part = ap (λ (p : Part). p.header.nodes) c.peek-2.ensures.part in
    let less = fewer_both c.in-Some.node c.in_ok-older.older c.in_ok-newer.newer c.peek.new.self.head c.peek-2.new.self.head (nodes_left c.peek.new.self) (nodes_left c.peek-2.new.self) (nodes_left c.take.new.self) (nodes_left c.take-2.new.self)
    (sym c.lower.ensures ∙ c.in-Some.is) c.in_ok-older.ensures.head c.in_ok-newer.ensures.head c.take.ensures.fewer c.take-2.ensures.fewer c.take.ensures.no_more c.take-2.ensures.no_more in
    omega (arith, less, was, old_part, new_part, c.peek.ensures.next, c.peek-2.ensures.next)

pub returns-in_default-clause-order : goal.returns-in_default-clause-order
returns-in_default-clause-order g c image told before =
    let order = subst (AreInOrder image) (sym c.self.view_is) before in record { older = c.in_ok-older.ensures.order image order.older; newer = c.in_ok-newer.ensures.order image order.newer }

pub returns-clause-order : goal.returns-clause-order
returns-clause-order g c image told before =
    let order = subst (AreInOrder image) (sym c.self.view_is) before in
    let seen = c.peek-2.ensures.same.told ∙ c.peek.ensures.same.told ∙ told in
    record {
      older = c.in_ok-older-2.ensures.order image seen (c.in_ok-older.ensures.order image order.older);
      newer = c.in_ok-newer-2.ensures.order image (c.take.ensures.same.told ∙ seen) (c.in_ok-newer.ensures.order image order.newer);
    }

pub returns-clause-ahead : goal.returns-clause-ahead
returns-clause-ahead g c image told before =
    let so_far = both_taken g (goal.at.returns-clause-ahead g c).After-pieces-1 image told before in
    omega (arith, so_far)

pub returns-in_default-merged-clause-taken : goal.returns-in_default-merged-clause-taken
returns-in_default-merged-clause-taken g c image told before =
    let so_far = both_taken g (goal.at.returns-in_default-merged-clause-taken g c).After-pieces-1 image told before in
    omega (arith, so_far)

pub returns-clause-taken : goal.returns-clause-taken
returns-clause-taken g c image told before =
    let so_far = both_taken g (goal.at.returns-clause-taken g c).After-pieces-1 image told before in
    omega (arith, so_far)
