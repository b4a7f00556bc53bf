use Rattle.std.proofs.Common.{◌≡◌, drop}
use Rattle.std.specs.List.{list_any}
use Rattle.cyc_types.specs.typing.Expressions.{all_paired, is_unique_for_variable}
use Rattle.cyc_calls.proofs.instance.has_unique_argument.Given as goal

abbrev pub invariant-loop-i : goal.invariant-loop-i
invariant-loop-i l =
    list_any is_unique_for_variable (all_paired (drop l.i l.variables) (drop l.i l.regions)) ≡ list_any is_unique_for_variable (all_paired l.variables l.regions)
