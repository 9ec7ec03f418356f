use Rattle.fine_model.proofs.Chain.ByteKeys.{byte_keys, map_ascends, whole_map, whole_scan}
use Rattle.fine_model.proofs.laws.whole_map_law.Goals as goal

pub returns : goal.returns
returns c = record { bytes = byte_keys; ascends = map_ascends; range = whole_map; scan = whole_scan }
