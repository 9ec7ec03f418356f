use Rattle.std.proofs.Common.{◌∙◌, sym, append-nil}
use Rattle.log_partition.proofs.Fields.{whole, three, older, nothing_yet}
use Rattle.log_partition.proofs.write_header.header_bytes.Goals as goal

pub returns-in-Three : goal.returns-in-Three
returns-in-Three c =
    whole c.put_regions.new.bytes 69 _ (c.put_regions.ensures _ (c.put_front.ensures _ nothing_yet)) ∙ append-nil _ ∙ sym (three c.args.region_len c.args.header.now c.in-Three.is)

pub returns-in_default : goal.returns-in_default
returns-in_default c =
    whole c.put_front.new.bytes 40 _ (c.put_front.ensures _ nothing_yet) ∙ sym (older c.args.region_len c.args.header.now c.in_default.not-Three)
