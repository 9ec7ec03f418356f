use Rattle.std.proofs.Common.{◌≡◌, ℕ, ◌∙◌, ◌+◌, ◌*◌, ◌≤◌, List, Ok, Err, sym, ap, subst, arith, rules, refl}
use Rattle.log_disk.specs.Disk.{Eye}
use Rattle.partition_index.specs.Parts.{IsSeen, SameEye}
use Rattle.partition_index.proofs.Looking.{seen_same, same_then}
use Rattle.fine_model.specs.declared.Row.{Row}
use Rattle.partition_merge.specs.Mergers.{IsKept, StandsAt, both_unread, next_len, unread}
use Rattle.partition_merge.proofs.Sources.{Peeked, err_clause, source_peeked, peeked_both, none_peeked, none_first, takes_as, handed_out, first_lowest, second_lowest, some_joined}
use Rattle.partition_merge.specs.declared.merger.Source.{Source}
use Rattle.partition_merge.specs.Readable.{IsReadable}
use Rattle.partition_merge.proofs.Taken.{next_is}
use Rattle.partition_merge.proofs.merger.Merger.next_node.Given.{Over}
use Rattle.partition_merge.proofs.merger.Merger.next_node.Goals.{After-take, After-take-2}
use Rattle.partition_merge.proofs.merger.Merger.next_node.Goals as goal

-- a source of a part that was seen is read further
readable_then : (old new : Eye) (len : ℕ) (before after : Source) → SameEye old new → after.part ≡ before.part → IsSeen old before.part → len ≡ new.region_len → IsKept new.told after → IsReadable new len after
readable_then old new len before after same part seen region_len kept = record { seen = subst (IsSeen new) (sym part) (seen_same old new before.part same seen); region_len = region_len; kept = kept }

-- where both sources stand once their next entries are kept
sources : (g : Over) (c : After-take g) (older newer : List Row) → StandsAt (g.E.LogEye.state c.args.eye.now) c.args.self.now older newer → Peeked (g.E.LogEye.state c.peek-2.new.eye) c.peek.new.self c.peek-2.new.self older newer c.in-Some.node
sources g c older newer at =
    let later = source_peeked (g.E.LogEye.state c.args.eye.now) (g.E.LogEye.state c.peek.new.eye) c.args.self.now.newer c.args.self.now.newer newer c.peek.ensures.eye.same refl refl at.of_newer in
    peeked_both (g.E.LogEye.state c.args.eye.now) (g.E.LogEye.state c.peek.new.eye) (g.E.LogEye.state c.peek-2.new.eye) c.args.self.now c.peek.new.self c.peek-2.new.self older newer c.in-Some.node c.in_ok-older.older c.in_ok-newer.newer at
    c.peek.ensures.eye.same c.peek-2.ensures.eye.same c.peek.ensures.part c.peek.ensures.next c.peek-2.ensures.part c.peek-2.ensures.next c.in_ok-older.ensures.head c.in_ok-newer.ensures.head
    (c.in_ok-older.ensures.exact older at.of_older) (c.in_ok-newer.ensures.exact newer later) (sym c.lower.ensures ∙ c.in-Some.is)

-- what the four calls took, and what they left unread
taken_for : (g : Over) (c : After-take-2 g) (both : (older newer : List Row) → StandsAt (g.E.LogEye.state c.args.eye.now) c.args.self.now older newer → Peeked (g.E.LogEye.state c.peek-2.new.eye) c.peek.new.self c.peek-2.new.self older newer c.in-Some.node) (older newer : List Row) → StandsAt (g.E.LogEye.state c.args.eye.now) c.args.self.now older newer
    → (g.E.LogEye.state c.take-2.new.eye).taken + 28 * (unread c.take.new.self + unread c.take-2.new.self) ≤ (g.E.LogEye.state c.args.eye.now).taken + (28 * both_unread c.args.self.now + next_len older newer)
taken_for g c both older newer at =
    let p = both older newer at in
    let new_at = source_peeked (g.E.LogEye.state c.peek-2.new.eye) (g.E.LogEye.state c.take.new.eye) c.peek-2.new.self c.peek-2.new.self newer c.take.ensures.eye.same refl refl p.of_newer in
    omega
    (arith, c.in_ok-older.ensures.ahead, c.in_ok-newer.ensures.ahead, c.take.ensures.unread, c.take-2.ensures.unread, c.take.ensures.taken older p.of_older p.old_from p.old_kept, c.take-2.ensures.taken newer new_at p.new_from p.new_kept, next_is c.in-Some.node older newer p.first)

pub returns-in_err-older-clause-exact : goal.returns-in_err-older-clause-exact
returns-in_err-older-clause-exact g c older newer at =
    let same : c.from_residual.result ≡ Err c.in_err-older.field-0.0 = search rules in
    err_clause c.from_residual.result c.in_err-older.field-0.0 _ same (c.in_err-older.ensures.exact older at.of_older)

pub peek-requires-2 : goal.peek-requires-2
peek-requires-2 g c = record { readable = readable_then (g.E.LogEye.state c.args.eye.now) (g.E.LogEye.state c.peek.new.eye) c.args.self.now.region_len c.args.self.now.newer c.args.self.now.newer c.peek.ensures.eye.same refl c.requires.newer (search rules) (search rules) }

pub returns-in_err-newer-clause-exact : goal.returns-in_err-newer-clause-exact
returns-in_err-newer-clause-exact g c older newer at =
    let same : c.from_residual-in_err-newer.result ≡ Err c.in_err-newer.field-0.0 = search rules in
    let m = c.args.self.now in
    err_clause c.from_residual-in_err-newer.result c.in_err-newer.field-0.0 _ same
    (c.in_err-newer.ensures.exact newer (source_peeked (g.E.LogEye.state c.args.eye.now) (g.E.LogEye.state c.peek.new.eye) m.newer m.newer newer c.peek.ensures.eye.same refl refl at.of_newer))

pub returns-in_default-clause-exact : goal.returns-in_default-clause-exact
returns-in_default-clause-exact g c older newer at =
    let m = c.args.self.now in
    let later = source_peeked (g.E.LogEye.state c.args.eye.now) (g.E.LogEye.state c.peek.new.eye) m.newer m.newer newer c.peek.ensures.eye.same refl refl at.of_newer in
    none_peeked (g.E.LogEye.state c.args.eye.now) (g.E.LogEye.state c.peek.new.eye) (g.E.LogEye.state c.peek-2.new.eye) m older newer c.in_ok-older.older c.in_ok-newer.newer at
    c.peek.ensures.eye.same c.peek-2.ensures.eye.same (c.in_ok-older.ensures.exact older at.of_older) (c.in_ok-newer.ensures.exact newer later) (sym c.lower.ensures ∙ c.in_default.is)

pub take-requires-clause-readable : goal.take-requires-clause-readable
take-requires-clause-readable g c =
    readable_then (g.E.LogEye.state c.args.eye.now) (g.E.LogEye.state c.peek-2.new.eye) c.args.self.now.region_len c.args.self.now.older c.peek.new.self (same_then (g.E.LogEye.state c.args.eye.now) (g.E.LogEye.state c.peek.new.eye) (g.E.LogEye.state c.peek-2.new.eye) c.peek.ensures.eye.same c.peek-2.ensures.eye.same) c.peek.ensures.part c.requires.older (search rules) (search rules)

pub returns-in_err-older-2-clause-exact : goal.returns-in_err-older-2-clause-exact
returns-in_err-older-2-clause-exact g c older newer at =
    let same : c.from_residual-in_err-older-2.result ≡ Err c.in_err-older-2.field-0.0 = search rules in
    let p = sources g (goal.at.returns-in_err-older-2-clause-exact g c).After-take older newer at in
    err_clause c.from_residual-in_err-older-2.result c.in_err-older-2.field-0.0 _ same (c.in_err-older-2.ensures.exact older p.of_older p.old_from p.old_kept)

pub take-requires-2-clause-readable : goal.take-requires-2-clause-readable
take-requires-2-clause-readable g c =
    let later = same_then (g.E.LogEye.state c.peek.new.eye) (g.E.LogEye.state c.peek-2.new.eye) (g.E.LogEye.state c.take.new.eye) c.peek-2.ensures.eye.same c.take.ensures.eye.same in
    readable_then (g.E.LogEye.state c.args.eye.now) (g.E.LogEye.state c.take.new.eye) c.args.self.now.region_len c.args.self.now.newer c.peek-2.new.self (same_then (g.E.LogEye.state c.args.eye.now) (g.E.LogEye.state c.peek.new.eye) (g.E.LogEye.state c.take.new.eye) c.peek.ensures.eye.same later) c.peek-2.ensures.part c.requires.newer (search rules) (search rules)

pub returns-in_err-newer-2-clause-exact : goal.returns-in_err-newer-2-clause-exact
returns-in_err-newer-2-clause-exact g c older newer at =
    let same : c.from_residual-in_err-newer-2.result ≡ Err c.in_err-newer-2.field-0.0 = search rules in
    let p = sources g (goal.at.returns-in_err-newer-2-clause-exact g c).After-take older newer at in
    let new_at = source_peeked (g.E.LogEye.state c.peek-2.new.eye) (g.E.LogEye.state c.take.new.eye) c.peek-2.new.self c.peek-2.new.self newer c.take.ensures.eye.same refl refl p.of_newer in
    err_clause c.from_residual-in_err-newer-2.result c.in_err-newer-2.field-0.0 _ same (c.in_err-newer-2.ensures.exact newer new_at p.new_from p.new_kept)

pub returns-in-Ok-clause-exact : goal.returns-in-Ok-clause-exact
returns-in-Ok-clause-exact g c older newer at =
    let p = sources g (goal.at.returns-in-Ok-clause-exact g c).After-take older newer at in
    let new_at = source_peeked (g.E.LogEye.state c.peek-2.new.eye) (g.E.LogEye.state c.take.new.eye) c.peek-2.new.self c.peek-2.new.self newer c.take.ensures.eye.same refl refl p.of_newer in
    let old_behind = source_peeked (g.E.LogEye.state c.take.new.eye) (g.E.LogEye.state c.take-2.new.eye) c.take.new.self c.take.new.self _ c.take-2.ensures.eye.same refl refl (c.take.ensures.left older p.of_older p.old_from p.old_kept) in
    handed_out (g.E.LogEye.state c.take-2.new.eye) _ older newer c.in-Ok.rows c.in_ok-older-2.older c.in_ok-newer-2.newer c.in-Some.node at.of_older.is_left.ordered at.of_newer.is_left.ordered p.first
    (c.in_ok-older-2.ensures.exact older p.of_older p.old_from p.old_kept) (c.in_ok-newer-2.ensures.exact newer new_at p.new_from p.new_kept) c.in-Ok.ensures.merged
    old_behind (c.take-2.ensures.left newer new_at p.new_from p.new_kept)

pub returns-in_err-older-2-clause-taken : goal.returns-in_err-older-2-clause-taken
returns-in_err-older-2-clause-taken g c older newer at =
    let p = sources g (goal.at.returns-in_err-older-2-clause-taken g c).After-take older newer at in
    omega (arith, c.in_ok-older.ensures.ahead, c.in_ok-newer.ensures.ahead, c.take.ensures.taken older p.of_older p.old_from p.old_kept, next_is c.in-Some.node older newer p.first)

pub returns-in_err-newer-2-clause-taken : goal.returns-in_err-newer-2-clause-taken
returns-in_err-newer-2-clause-taken g c older newer at = let most = taken_for g (goal.at.returns-in_err-newer-2-clause-taken g c).After-take-2 (sources g (goal.at.returns-in_err-newer-2-clause-taken g c).After-take) older newer at in omega (arith, most)

pub returns-in-Ok-clause-ahead : goal.returns-in-Ok-clause-ahead
returns-in-Ok-clause-ahead g c older newer at = let most = taken_for g (goal.at.returns-in-Ok-clause-ahead g c).After-take-2 (sources g (goal.at.returns-in-Ok-clause-ahead g c).After-take) older newer at in omega (arith, most)

pub returns-in-Ok-clause-taken : goal.returns-in-Ok-clause-taken
returns-in-Ok-clause-taken g c older newer at = let most = taken_for g (goal.at.returns-in-Ok-clause-taken g c).After-take-2 (sources g (goal.at.returns-in-Ok-clause-taken g c).After-take) older newer at in omega (arith, most)

pub returns-in-Err-clause-taken : goal.returns-in-Err-clause-taken
returns-in-Err-clause-taken g c older newer at = let most = taken_for g (goal.at.returns-in-Err-clause-taken g c).After-take-2 (sources g (goal.at.returns-in-Err-clause-taken g c).After-take) older newer at in omega (arith, most)

pub returns-in_default-clause-end : goal.returns-in_default-clause-end
returns-in_default-clause-end g c e =
    let both = none_first c.in_ok-older.older c.in_ok-newer.newer (sym c.lower.ensures ∙ c.in_default.is) in
    let old_end = c.in_ok-older.ensures.end (ap Ok both.0) in
    let new_end = c.in_ok-newer.ensures.end (ap Ok both.1) in
    omega (arith, old_end, new_end)

pub returns-in_default-clause-ahead : goal.returns-in_default-clause-ahead
returns-in_default-clause-ahead g c older newer at =
    let both = none_first c.in_ok-older.older c.in_ok-newer.newer (sym c.lower.ensures ∙ c.in_default.is) in
    let old_end = c.in_ok-older.ensures.end (ap Ok both.0) in
    let new_end = c.in_ok-newer.ensures.end (ap Ok both.1) in
    omega (arith, old_end, new_end, c.peek.ensures.taken, c.peek-2.ensures.taken)

pub returns-in-Ok-clause-read : goal.returns-in-Ok-clause-read
returns-in-Ok-clause-read g c = record {
  node = c.in-Some.node;
  older = c.in_ok-older-2.older;
  newer = c.in_ok-newer-2.newer;
  of_older = takes_as _ _ c.args.self.now.older c.peek.new.self c.take.new.self c.in-Some.node c.in_ok-older-2.older (c.peek-2.ensures.eye.same.told ∙ c.peek.ensures.eye.same.told) c.peek.ensures.part c.peek.ensures.next c.in_ok-older-2.ensures.read;
  of_newer = takes_as _ _ c.args.self.now.newer c.peek-2.new.self c.take-2.new.self c.in-Some.node c.in_ok-newer-2.newer (c.take.ensures.eye.same.told ∙ c.peek-2.ensures.eye.same.told ∙ c.peek.ensures.eye.same.told) c.peek-2.ensures.part c.peek-2.ensures.next c.in_ok-newer-2.ensures.read;
  joined = c.in-Ok.ensures.merged;
  some = some_joined c.in-Some.node c.in_ok-older.older c.in_ok-newer.newer c.peek.new.self.head c.peek-2.new.self.head c.in_ok-older-2.older c.in_ok-newer-2.newer c.in-Ok.rows (sym c.lower.ensures ∙ c.in-Some.is)
      c.in_ok-older.ensures.head c.in_ok-newer.ensures.head c.in_ok-older-2.ensures.some c.in_ok-newer-2.ensures.some c.in-Ok.ensures.merged;
}

pub take-requires-clause-lowest : goal.take-requires-clause-lowest
take-requires-clause-lowest g c = first_lowest _ _ _ _ c.in_ok-older.ensures.head (sym c.lower.ensures ∙ c.in-Some.is)

pub take-requires-2-clause-lowest : goal.take-requires-2-clause-lowest
take-requires-2-clause-lowest g c = second_lowest _ _ _ _ c.in_ok-newer.ensures.head (sym c.lower.ensures ∙ c.in-Some.is)

pub returns-in-Ok-clause-some : goal.returns-in-Ok-clause-some
returns-in-Ok-clause-some g c =
    some_joined c.in-Some.node c.in_ok-older.older c.in_ok-newer.newer c.peek.new.self.head c.peek-2.new.self.head c.in_ok-older-2.older c.in_ok-newer-2.newer c.in-Ok.rows (sym c.lower.ensures ∙ c.in-Some.is)
    c.in_ok-older.ensures.head c.in_ok-newer.ensures.head c.in_ok-older-2.ensures.some c.in_ok-newer-2.ensures.some c.in-Ok.ensures.merged
