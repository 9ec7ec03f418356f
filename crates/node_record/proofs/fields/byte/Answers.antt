use Rattle.std.proofs.Common.{refl}
use Rattle.node_record.proofs.FieldsRead.{field_is, byte_is}
use Rattle.node_record.proofs.fields.byte.Goals as goal

pub returns-in-Some : goal.returns-in-Some
returns-in-Some c = byte_is c.args.bytes.now c.args.at c.in-Some.text _ refl (field_is 1 c.args.bytes.now c.args.at c.in-Some.text c.requires c.in-Some.ensures)
