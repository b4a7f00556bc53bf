use Rattle.std.proofs.Common.{◌≡◌, map, drop}
use Rattle.cyc_syntax.specs.inside.TreeView.{view_declaration}
use Rattle.cyc_declarations.specs.inside.Declaring.{state_of, first_state, after_declarations}
use Rattle.cyc_declarations.proofs.declared.program_declared.Given as goal

abbrev pub invariant-loop-declaration : goal.invariant-loop-declaration
invariant-loop-declaration l = after_declarations (map view_declaration (drop l.declaration-index l.declarations)) (state_of l.declared) ≡ after_declarations (map view_declaration l.declarations) (first_state l.names l.fn.known)
