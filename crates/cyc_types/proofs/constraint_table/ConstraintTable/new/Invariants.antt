use Rattle.std.proofs.Common.{drop}
use Rattle.cyc_types.specs.inside.ConstraintPlaces.{AreFirst}
use Rattle.cyc_types.proofs.constraint_table.ConstraintTable.new.Given as goal

abbrev pub invariant-loop-i : goal.invariant-loop-i
invariant-loop-i l = AreFirst l.constraints.items (drop l.i l.constraints.items) l.places
