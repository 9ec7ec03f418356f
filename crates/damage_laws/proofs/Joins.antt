-- A part that was merged of two is made of both, whatever their bytes are.
use Rattle.std.proofs.Common.{◌∙◌}
use Rattle.node_fetch.proofs.Blames.{same_header}
use Rattle.partition_index.specs.Search.{TellsRows}
use Rattle.partition_merge.specs.Merging.{merged_of}
use Rattle.damage_laws.specs.Made.{JoinsLaw, LookedUpLaw}
use Rattle.damage_laws.proofs.LookedOnce.{looked_once}
use Rattle.damage_laws.proofs.GoodFinds.{good_finds}

pub looked_up : LookedUpLaw
looked_up eye image p id rows seen told found = record {
  found = found;
  exact = λ own has sealed.
      let t : TellsRows eye p own = record { image = image; told = told; sealed = sealed; of_part = same_header eye.region_len image p own sealed has } in
      looked_once image id p rows _ found (good_finds eye p own id seen t).found;
}

pub joins : JoinsLaw
unfolding merged_of
joins eye entry was now a b older newer p rows seen_older seen_newer told of_a of_b has sealed each = record {
  each = λ id found f.
      let m = each id in (
        m.of_older,
        m.of_newer,
        of_a.each id m.of_older (looked_up eye was older id m.of_older seen_older told m.found_older),
        of_b.each id m.of_newer (looked_up eye was newer id m.of_newer seen_newer told m.found_newer),
        f.exact rows has sealed ∙ m.joined,
      );
}
