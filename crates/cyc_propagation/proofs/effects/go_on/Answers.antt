use Rattle.cyc_propagation.proofs.effects.go_on.Goals as goal

pub returns-in-Binary : goal.returns-in-Binary
returns-in-Binary c = rw c.in-Binary.is c.compute.ensures
