use Rattle.std.proofs.Common.{◌≡◌, ◌+◌, ◌-◌, ◌++◌, length, sym, subst, arith}
use borrow.Rule.Slice.PartMut.{put_mid}
use Rattle.log_partition.specs.Headers.{Holds}
use Rattle.log_partition.proofs.Fields.{put_field}
use Rattle.log_partition.proofs.write_header.put.Goals as goal

pub returns : goal.returns
returns c =
    λ text h.
    let n : c.args.at + length c.args.field.now - c.args.at ≡ length c.args.field.now = omega arith in
    subst (λ f. Holds (put_mid c.args.at (c.args.at + length c.args.field.now - c.args.at) c.args.bytes.now f) (c.args.at + length c.args.field.now) (text ++ c.args.field.now)) (sym c.copy_from_slice.ensures.after)
    (put_field c.args.bytes.now c.args.field.now c.args.at (c.args.at + length c.args.field.now - c.args.at) text c.requires c.told-bytes n h)
