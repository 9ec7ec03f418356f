use Rattle.node_record.proofs.items.+keys_end.Given as goal

abbrev pub decreases-keys_end : goal.decreases-keys_end
decreases-keys_end l = l.count
