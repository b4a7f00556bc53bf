use Rattle.cyc_bound.proofs.function_costs.+add_in_order.Given as goal

abbrev pub decreases-add_in_order : goal.decreases-add_in_order
decreases-add_in_order l = l.left
