use Rattle.std.proofs.Common.{◌∙◌, rules, FitsSigned, w64, to_z, of_z, to_z-of_z}
use Rattle.node_record.proofs.FieldsRead.{field_is, signed_is}
use Rattle.node_record.proofs.fields.number_i64.Goals as goal

pub returns-in-Some : goal.returns-in-Some
returns-in-Some c =
    let fits : FitsSigned w64 c.from_be_bytes.result = search rules in
    signed_is c.args.bytes.now c.args.at c.in-Some.text (to_z w64 (of_z w64 c.from_be_bytes.result)) (to_z-of_z fits ∙ c.from_be_bytes.ensures) (field_is 8 c.args.bytes.now c.args.at c.in-Some.text c.requires c.in-Some.ensures)
