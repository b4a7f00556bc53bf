use Rattle.std.proofs.Common.{◌≡◌, drop}
use Rattle.cyc_types.specs.typing.Expressions.{all_paired}
use Rattle.cyc_calls.specs.inside.Instances.{noted_places}
use Rattle.cyc_calls.proofs.instance.note_all.Given as goal

abbrev pub invariant-loop-i : goal.invariant-loop-i
invariant-loop-i l =
    noted_places l.table (all_paired (drop l.i l.variables) (drop l.i l.regions)) ≡ noted_places l.fn.table (all_paired l.variables l.regions)
