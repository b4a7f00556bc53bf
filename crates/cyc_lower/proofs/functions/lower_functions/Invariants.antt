use Rattle.std.specs.Prelude.{◌≡◌, map, take}
use Rattle.cyc_types.specs.TypedTreeView.{view_struct, view_function}
use Rattle.cyc_plain.specs.inside.Program.{routine_of}
use Rattle.cyc_lower_proof.specs.inside.Lowering.{lower_function}
use Rattle.cyc_lower.proofs.functions.lower_functions.Given as goal

abbrev pub invariant-loop-function : goal.invariant-loop-function
invariant-loop-function l = map routine_of l.lowered.items ≡ map (lower_function (map view_struct l.structs) l.globals l.scopes) (map view_function (take l.function-index l.functions))
