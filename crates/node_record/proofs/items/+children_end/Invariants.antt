use Rattle.node_record.proofs.items.+children_end.Given as goal

abbrev pub decreases-children_end : goal.decreases-children_end
decreases-children_end l = l.count
