use Rattle.std.proofs.Common.{Bor, Bool, ◌≡◌, ◌∙◌, List, ℕ, true, ap, map, subst, sym}
use Rattle.fine_model.specs.Map.{set}
use Rattle.fine_model.specs.RowBytes.{FitsRec, body, pair_bytes}
use Rattle.partition_merge.specs.Leaves.{IsChanged, SpellsLeaf}
use Rattle.partition_merge.proofs.Leaves.{by_kind, cut_changes, delete_changes, ok_map, put_changes}
use Rattle.partition_merge.proofs.leaf.change.Goals as goal

pub returns-then-kind-eq-PUT : goal.returns-then-kind-eq-PUT
unfolding body
returns-then-kind-eq-PUT c old change leaf fits of_kind text =
    let show : Bor (List ℕ) → List ℕ = λ t. t.now in
    let is = (by_kind change).put (sym of_kind ∙ c.if-kind-eq-PUT.true) in
    let spelled : c.args.text.now ≡ pair_bytes is.0 = text ∙ ap body is.1 in
    ok_map (λ (whole : Bool). whole ≡ true → SpellsLeaf (map show c.put.new.pairs) (set old is.0.0 is.0.1)) (λ whole. whole ≡ true → IsChanged old change (map show c.put.new.pairs)) c.put.result
    (λ whole made asked. put_changes old change (map show c.put.new.pairs) is.0 is.1 (made asked)) (c.put.ensures old is.0.0 is.0.1 leaf (subst FitsRec is.1 fits) spelled)

pub returns-then-kind-eq-CUT : goal.returns-then-kind-eq-CUT
unfolding body
returns-then-kind-eq-CUT c old change leaf fits of_kind text whole =
    let is = (by_kind change).cuts (sym of_kind ∙ c.if-kind-eq-CUT.true) in
    cut_changes old change (map (λ t. t.now) c.cut.new.pairs) is.0 is.1 (c.cut.ensures old is.0 leaf (text ∙ ap body is.1))

pub returns-then-kind-eq-DELETE : goal.returns-then-kind-eq-DELETE
unfolding body
returns-then-kind-eq-DELETE c old change leaf fits of_kind text whole =
    let is = (by_kind change).deletes (sym of_kind ∙ c.if-kind-eq-DELETE.true) in
    delete_changes old change (map (λ t. t.now) c.remove.new.pairs) is.0 is.1 (c.remove.ensures old is.0 leaf (text ∙ ap body is.1))
