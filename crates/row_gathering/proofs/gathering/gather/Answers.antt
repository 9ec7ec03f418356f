-- What fits together once it was read and arranged, and why nothing is gathered else.
use Rattle.std.proofs.Common.{◌≡◌, ◌≤◌, ℕ, List, drop, length, take, sym, subst, inr, arith, IfSome, Option, Some, None}
use Rattle.std.specs.Prelude.{Any, IfNone}
use Rattle.std.specs.List.{AllByRecursion}
use Rattle.fine_model.specs.declared.Part.{Part}
use Rattle.log_disk.specs.Disk.{Disk}
use Rattle.node_record.specs.declared.key.RowAt.{RowAt}
use Rattle.partition_index.specs.Parts.{LiesIn}
use Rattle.row_gathering.specs.Gathering.{Declines, GathersRows}
use Rattle.row_gathering.specs.Steps.{AreRead, Arranges, FitTogether, LacksPart, NoneInOrder}
use Rattle.row_gathering.specs.declared.gathering.Gathered.{Gathered}
use Rattle.row_gathering.proofs.Answered.{cut_twice, gathers, none_gathered, none_of_part}
use Rattle.row_gathering.proofs.Bodies.{bodies_small}
use Rattle.row_gathering.proofs.gathering.gather.Given.{Over}
use Rattle.row_gathering.proofs.gathering.gather.Goals.{After-truncate}
use Rattle.row_gathering.proofs.gathering.gather.Goals as goal

pub bodies_len-requires : goal.bodies_len-requires
bodies_len-requires g c = subst (λ (n : ℕ). AllByRecursion (λ (p : Part). LiesIn n p.header) c.args.parts.now) (sym c.region_len.ensures.region_len) c.requires.lie

pub read_parts-requires-clause-small : goal.read_parts-requires-clause-small
read_parts-requires-clause-small g c κs within = omega (arith, bodies_small c.region_len.result c.args.parts.now c.in-Some.len c.in-Some.ensures.fit, c.in-Some.ensures.fit.sum)

pub returns-in_default-2-clause-none : goal.returns-in_default-2-clause-none
returns-in_default-2-clause-none g c =
    let disk : Disk = g.D.LogDisk.state c.args.disk.now in
    inr (inr (none_of_part disk c.args.parts.now (subst (λ (o : Option ℕ). IfNone o (Any (LacksPart disk) c.args.parts.now)) c.in_default-2.is c.in_ok-end.ensures.lacks)))

module _ (disk : Disk) (parts : List Part) (bytes : List ℕ) (keys : List RowAt) (read : AreRead disk parts bytes keys) where
  found : (region_len len : ℕ) → region_len ≡ disk.region_len → FitTogether region_len parts len → (o : Option Gathered) → IfSome o (Arranges bytes read.rows) → IfSome o (GathersRows disk parts)
  found region_len len same fit None arranged = tt
  found region_len len same fit (Some gathered) arranged = gathers disk parts len bytes keys gathered (subst (λ (n : ℕ). FitTogether n parts len) same fit) read arranged

  lost : (o : Option Gathered) → IfNone o (NoneInOrder read.rows) → IfNone o (Declines disk parts)
  lost None none = inr (inr (none_gathered disk parts bytes keys read none))
  lost (Some gathered) none = tt

-- what stands once the bytes behind all rows are cut off: the rows that were read, by their keys
all_read : (g : Over) (c : After-truncate g) → AreRead (g.D.LogDisk.state c.args.disk.now) c.args.parts.now c.truncate.new.self.items c.read_parts.new.keys.items
all_read g c =
    let disk : Disk = g.D.LogDisk.state c.args.disk.now in
    let bytes : List ℕ = c.read_parts.new.bytes in
    let len : ℕ = c.in_ok-bytes.bytes.len in
    let long : len ≡ length bytes = omega (arith, c.in_ok-end.ensures.len) in
    let low : c.in-Some-2.end ≤ len = omega (arith, long, subst (λ (o : Option ℕ). IfSome o (λ end. end ≤ length bytes)) c.in-Some-2.is c.in_ok-end.ensures.within) in
    let kept : c.truncate.new.self.items ≡ take c.in-Some-2.end bytes = cut_twice bytes (drop (length bytes) c.in_ok-bytes.bytes.items) c.truncate.new.self.items c.in-Some-2.end len c.truncate.ensures.items low long in
    subst (λ (xs : List ℕ). AreRead disk c.args.parts.now xs c.read_parts.new.keys.items) (sym kept)
    (subst (λ (o : Option ℕ). IfSome o (λ end. AreRead disk c.args.parts.now (take end c.read_parts.new.bytes) c.read_parts.new.keys.items)) c.in-Some-2.is c.in_ok-end.ensures.rows)

pub returns-clause-rows : goal.returns-clause-rows
returns-clause-rows g c =
    let disk : Disk = g.D.LogDisk.state c.args.disk.now in
    let read = all_read g (goal.at.returns-clause-rows g c).After-truncate in
    found disk c.args.parts.now c.truncate.new.self.items c.read_parts.new.keys.items read c.region_len.result c.in-Some.len c.region_len.ensures.region_len c.in-Some.ensures.fit c.in_ok-found.found
    (c.in_ok-found.ensures.rows read.rows read.are read.keyed)

pub returns-clause-none : goal.returns-clause-none
returns-clause-none g c =
    let disk : Disk = g.D.LogDisk.state c.args.disk.now in
    let read = all_read g (goal.at.returns-clause-none g c).After-truncate in
    lost disk c.args.parts.now c.truncate.new.self.items c.read_parts.new.keys.items read c.in_ok-found.found (c.in_ok-found.ensures.none read.rows read.are read.keyed)
