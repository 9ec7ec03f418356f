use Rattle.std.proofs.Common.{◌≡◌, ◌∙◌, sym, rules}
use Rattle.std.specs.Prelude.{Ok, Some}
use Rattle.fine_model.specs.Regions.{header_in}
use Rattle.log_partition.specs.Headers.{read}
use Rattle.log_partition.proofs.Heads.{header_same}
use Rattle.log_partition.proofs.header.read_header.Goals as goal

pub returns-in_err-test_fields-clause-whole : goal.returns-in_err-test_fields-clause-whole
unfolding header_in
returns-in_err-test_fields-clause-whole c =
    let is : read c.from_residual.result ≡ header_in c.args.region_len c.args.regions c.args.region c.args.bytes.now = search rules in
    λ rest. header_same c.args.region_len c.args.regions c.args.region c.args.bytes.now rest c.requires.long ∙ sym is

pub returns-clause-whole : goal.returns-clause-whole
unfolding header_in
returns-clause-whole c =
    let is : read (Ok (Some c.header_at-header.result)) ≡ header_in c.args.region_len c.args.regions c.args.region c.args.bytes.now = search rules in
    λ rest. header_same c.args.region_len c.args.regions c.args.region c.args.bytes.now rest c.requires.long ∙ sym is
