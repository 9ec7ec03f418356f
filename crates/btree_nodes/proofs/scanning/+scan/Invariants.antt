use Rattle.std.proofs.Common.{◌+◌, ◌-◌, ◌*◌}
use Rattle.btree_nodes.proofs.scanning.+scan.Given as goal

abbrev pub decreases-scan_from : goal.decreases-scan_from
decreases-scan_from g l = l.height * 64 + 63

abbrev pub decreases-scan_kids : goal.decreases-scan_kids
decreases-scan_kids g l = l.height * 64 + (40 - l.place)
