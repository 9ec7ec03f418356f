-- The bytes that were read stand at the front of the region.
use Rattle.std.proofs.Common.{◌++◌, sym, ◌∙◌}
use Rattle.std.proofs.lemmas.Bool.{false≢true}
use Rattle.fine_model.specs.Regions.{header_in}
use Rattle.log_partition.specs.Headers.{read}
use Rattle.reopen.proofs.Seeing.{seen_header}
use Rattle.reopen.proofs.headers.see_header.Goals as goal

pub returns-clause-sees : goal.returns-clause-sees
returns-clause-sees g c =
    seen_header (g.D.LogDisk.state c.args.disk.now) c.args.region c.read.new.out (read c.read_header.result)
    (λ rest. (λ i. header_in (sym c.region_len-region_len.ensures.region_len i) (sym c.regions-regions.ensures.regions i) c.args.region (c.read.new.out ++ rest)) ∙ c.read_header.ensures.whole rest) (c.in_ok-read.ensures.bytes false≢true)
