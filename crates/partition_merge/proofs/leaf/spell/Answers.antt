use Rattle.std.proofs.Common.{Bor, List, ℕ, length, refl}
use Rattle.partition_merge.proofs.Leaves.{image_spelled}
use Rattle.partition_merge.proofs.leaf.spell.Goals as goal

pub returns : goal.returns
returns c = record {
  image = λ leaf spells text asked.
      let show : Bor (List ℕ) → List ℕ = λ t. t.now in
      image_spelled show c.args.pairs.now leaf c.args.node c.args.version c.args.len (length c.args.pairs.now) c.in_ok-out.out.items c.put_front.new.out.items c.extend_from_slice.new.self.items c.put_pairs.new.out.items spells
      text refl c.in_ok-out.ensures.items c.in_ok-put_front.ensures c.in_ok-extend_from_slice.ensures.items c.in_ok-put_pairs.ensures;
}
