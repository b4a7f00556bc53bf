use Rattle.std.proofs.Common.{◌≡◌, ◌++◌, take}
use Rattle.cyc_types.specs.typing.DeclarationRules.{region_numbers}
use Rattle.cyc_types.specs.inside.Names.{names_of}
use Rattle.cyc_types.proofs.names.add_all.Given as goal

abbrev pub invariant-loop-binding : goal.invariant-loop-binding
invariant-loop-binding l = l.set ≡ region_numbers (names_of (take l.binding-index l.bindings)) ++ l.fn.set
