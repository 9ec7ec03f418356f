use Rattle.std.proofs.Common.{true, ◌≡◌, ◌∙◌, ◌+◌, ◌++◌, ℕ, List, append_assoc, length, min, Ok, Err, Some, None, sym, ap, subst, arith, rules, refl}
use Rattle.std.specs.Prelude.{IfSome}
use Rattle.std.specs.Global.{Vec}
use Rattle.std.proofs.lemmas.List.{drop_all}
use Rattle.fine_model.specs.declared.Row.{Row}
use Rattle.fine_model.specs.RowBytes.{rows_bytes, index_entry}
use Rattle.fine_model.proofs.Chain.Grammar.{rows_long}
use Rattle.partition_merge.specs.Blocks.{BlocksValue, IsAhead}
use Rattle.partition_merge.specs.Joined.{IsJoined}
use Rattle.partition_merge.specs.Pieces.{EndsAt, HandsOver, merged_bytes}
use Rattle.partition_merge.specs.Streams.{AreInOrder, both_bytes_left}
use Rattle.partition_merge.proofs.Ahead.{HasEntry, more_ahead, whole_ahead}
use Rattle.partition_merge.proofs.Found.{has_entry, ok_holds}
use Rattle.partition_merge.proofs.Joining.{more_joined, whole_joined}
use Rattle.partition_merge.proofs.Sources.{err_clause}
use Rattle.partition_merge.proofs.blocks.Blocks.supply.Given.{Over}
use Rattle.partition_merge.proofs.blocks.Blocks.supply.Goals.{After-clear-arg-1, After-put_entry}
use Rattle.partition_merge.proofs.blocks.Blocks.supply.Goals as goal

-- the rows of the next node are handed over
handed_over : (g : Over) (c : After-clear-arg-1 g) → HandsOver true (g.E.LogEye.state c.args.eye.now) (g.E.LogEye.state c.next_node.new.eye) c.self.inside.merger c.next_node.new.self c.in-Some.found
handed_over g c =
    let found : IfSome (Some c.in-Some.found) (HandsOver true (g.E.LogEye.state c.args.eye.now) (g.E.LogEye.state c.next_node.new.eye) c.self.inside.merger c.next_node.new.self) =
    subst (λ found. IfSome found (HandsOver true (g.E.LogEye.state c.args.eye.now) (g.E.LogEye.state c.next_node.new.eye) c.self.inside.merger c.next_node.new.self)) c.in-Some.is c.in_ok-found.ensures.found in found

-- they are spelled behind what there was, with their entry in the index
record SpelledOn (block waiting index block' waiting' index' : List ℕ) (offset area : ℕ) (handed : List ℕ) (rows : List Row) : Type 0 where
  spelled : (handed ++ block') ++ waiting' ≡ (handed ++ block) ++ rows_bytes rows
  entry : HasEntry index index' offset rows
  adds : area ≡ min (length (rows_bytes rows)) 4294967295

spelled_on : (g : Over) (c : After-put_entry g) (handed : List ℕ) (h : HandsOver true (g.E.LogEye.state c.args.eye.now) (g.E.LogEye.state c.next_node.new.eye) c.self.inside.merger c.next_node.new.self c.in-Some.found)
    → SpelledOn c.self.inside.block.items c.self.inside.waiting.items c.self.inside.index.items c.put_rows-put.new.block.items c.put_rows-put.new.waiting.items c.put_entry.new.index.items c.self.inside.offset c.in-Some.found.tally.area handed h.rows
spelled_on g c handed h =
    let put : c.put_rows-put.new.block.items ++ c.put_rows-put.new.waiting.items ≡ c.self.inside.block.items ++ merged_bytes c.next_node.new.self c.in-Some.found.merged =
    ok_holds c.put_rows-put.result _ (sym c.is_err.ensures.value ∙ c.if-is_err.false) c.put_rows-put.ensures.spelled in
    record {
      spelled = append_assoc handed c.put_rows-put.new.block.items c.put_rows-put.new.waiting.items ∙ ap (λ xs. handed ++ xs) put ∙ ap (λ xs. handed ++ (c.self.inside.block.items ++ xs)) (h.spelled refl)
          ∙ sym (append_assoc handed c.self.inside.block.items (rows_bytes h.rows));
      entry = has_entry c.self.inside.index.items c.put_entry.new.index.items c.self.inside.offset h.rows c.in-Some.found.tally h.tally c.put_entry.ensures.bytes;
      adds = omega (arith, h.tally.area, rows_long h.rows);
    }

pub returns-in_err-found-clause-exact : goal.returns-in_err-found-clause-exact
returns-in_err-found-clause-exact g c handed a b ahead =
    let i = subst (λ (v : BlocksValue). IsAhead (g.E.LogEye.state c.args.eye.now) v (handed ++ v.block) a b) (sym c.self.view_is) ahead in
    let same : c.from_residual.result ≡ Err c.in_err-found.field-0.0 = search rules in
    err_clause c.from_residual.result c.in_err-found.field-0.0 _ same (c.in_err-found.ensures.exact i.left_older i.left_newer i.stands)

pub returns-in_default-clause-exact : goal.returns-in_default-clause-exact
returns-in_default-clause-exact g c handed a b ahead =
    let later = g.E.LogEye.state c.next_node.new.eye in
    let i = subst (λ (v : BlocksValue). IsAhead (g.E.LogEye.state c.args.eye.now) v (handed ++ v.block) a b) (sym c.self.view_is) ahead in
    let ends : EndsAt later c.next_node.new.self i.left_older i.left_newer None = subst (EndsAt later c.next_node.new.self i.left_older i.left_newer) c.in_default.is (c.in_ok-found.ensures.exact i.left_older i.left_newer i.stands) in
    whole_ahead (g.E.LogEye.state c.args.eye.now) later _ _ (handed ++ c.self.inside.block.items) a b i (drop_all c.self.inside.at c.self.inside.waiting.items (omega (arith, c.if-self-len.false, c.len.ensures))) c.if-self.false ends (ap (λ (v : Vec ℕ). v.items) c.swap.ensures.x_after) refl refl

pub returns-clause-exact : goal.returns-clause-exact
returns-clause-exact g c handed a b ahead =
    let later = g.E.LogEye.state c.next_node.new.eye in
    let i = subst (λ (v : BlocksValue). IsAhead (g.E.LogEye.state c.args.eye.now) v (handed ++ v.block) a b) (sym c.self.view_is) ahead in
    let h = handed_over g (goal.at.returns-clause-exact g c).After-clear-arg-1 in
    let more = spelled_on g (goal.at.returns-clause-exact g c).After-put_entry handed h in
    more_ahead (g.E.LogEye.state c.args.eye.now) later _ _ (handed ++ c.self.inside.block.items) (handed ++ c.put_rows-put.new.block.items) a b h.rows i (drop_all c.self.inside.at c.self.inside.waiting.items (omega (arith, c.if-self-len.false, c.len.ensures))) c.if-self.false (h.exact i.left_older i.left_newer i.stands) h.tally.some more.spelled c.if-self.false more.entry (omega (arith, c.saturating_add-self-inside.ensures, more.adds))

pub returns-in_default-clause-joined : goal.returns-in_default-clause-joined
returns-in_default-clause-joined g c start handed joined =
    let known = (g.E.LogEye.state c.args.eye.now).told in
    let i = subst (λ (v : BlocksValue). IsJoined known start v (handed ++ v.block)) (sym c.self.view_is) joined in
    let none : c.in_ok-found.field-0 ≡ None = search rules in
    whole_joined known start _ _ (handed ++ c.self.inside.block.items) i (drop_all c.self.inside.at c.self.inside.waiting.items (omega (arith, c.if-self-len.false, c.len.ensures))) c.if-self.false
    (c.in_ok-found.ensures.ended (ap Ok none)) (c.in_ok-found.ensures.end (ap Ok none)) (ap (λ (v : Vec ℕ). v.items) c.swap.ensures.x_after) refl refl

pub returns-clause-joined : goal.returns-clause-joined
returns-clause-joined g c start handed joined =
    let known = (g.E.LogEye.state c.args.eye.now).told in
    let i = subst (λ (v : BlocksValue). IsJoined known start v (handed ++ v.block)) (sym c.self.view_is) joined in
    let h = handed_over g (goal.at.returns-clause-joined g c).After-clear-arg-1 in
    let more = spelled_on g (goal.at.returns-clause-joined g c).After-put_entry handed h in
    let longer : length c.put_entry.new.index.items ≡ length c.self.inside.index.items + index_entry = search rules in
    more_joined known start _ _ (handed ++ c.self.inside.block.items) (handed ++ c.put_rows-put.new.block.items) h.rows i (drop_all c.self.inside.at c.self.inside.waiting.items (omega (arith, c.if-self-len.false, c.len.ensures))) c.if-self.false
    c.next_node.ensures.older c.next_node.ensures.newer h.read more.spelled c.if-self.false more.entry longer (omega (arith, c.saturating_add-self-inside.ensures, more.adds))

pub returns-in_default-clause-order : goal.returns-in_default-clause-order
returns-in_default-clause-order g c image told order = c.in_ok-found.ensures.order image told (subst (λ (v : BlocksValue). AreInOrder image v.merger) (sym c.self.view_is) order)

pub returns-in_default-clause-once : goal.returns-in_default-clause-once
returns-in_default-clause-once g c image told order =
    let more = c.in_ok-found.ensures.ahead image told (subst (λ (v : BlocksValue). AreInOrder image v.merger) (sym c.self.view_is) order) in
    let same = ap (λ (v : BlocksValue). both_bytes_left v.merger) c.self.view_is in omega (arith, more, same)

pub returns-clause-order : goal.returns-clause-order
returns-clause-order g c image told order = c.in_ok-found.ensures.order image told (subst (λ (v : BlocksValue). AreInOrder image v.merger) (sym c.self.view_is) order)

pub returns-clause-once : goal.returns-clause-once
returns-clause-once g c image told order =
    let more = c.in_ok-found.ensures.ahead image told (subst (λ (v : BlocksValue). AreInOrder image v.merger) (sym c.self.view_is) order) in
    let same = ap (λ (v : BlocksValue). both_bytes_left v.merger) c.self.view_is in omega (arith, more, same)

pub returns-in_err-found-clause-taken : goal.returns-in_err-found-clause-taken
returns-in_err-found-clause-taken g c image told order =
    let most = c.next_node.ensures.taken image told (subst (λ (v : BlocksValue). AreInOrder image v.merger) (sym c.self.view_is) order) in
    let same = ap (λ (v : BlocksValue). both_bytes_left v.merger) c.self.view_is in omega (arith, most, same)

pub returns-in_default-clause-taken : goal.returns-in_default-clause-taken
returns-in_default-clause-taken g c image told order =
    let most = c.next_node.ensures.taken image told (subst (λ (v : BlocksValue). AreInOrder image v.merger) (sym c.self.view_is) order) in
    let same = ap (λ (v : BlocksValue). both_bytes_left v.merger) c.self.view_is in omega (arith, most, same)

pub returns-clause-taken : goal.returns-clause-taken
returns-clause-taken g c image told order =
    let most = c.next_node.ensures.taken image told (subst (λ (v : BlocksValue). AreInOrder image v.merger) (sym c.self.view_is) order) in
    let same = ap (λ (v : BlocksValue). both_bytes_left v.merger) c.self.view_is in omega (arith, most, same)

pub put_rows-put-requires-clause-area : goal.put_rows-put-requires-clause-area
put_rows-put-requires-clause-area g c =
    let h = handed_over g (goal.at.put_rows-put-requires-clause-area g c).After-clear-arg-1 in
    omega (arith, h.tally.area, ap length (h.spelled refl), rows_long h.rows)
