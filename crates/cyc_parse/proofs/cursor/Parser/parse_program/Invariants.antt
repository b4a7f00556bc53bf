use Rattle.std.proofs.Common.{◌≡◌, ◌-◌, ◌∷◌}
use Rattle.cyc_syntax.specs.inside.TreeView.{view_declaration}
use Rattle.cyc_parse.specs.inside.Declarations.{declarations_in, program_of}
use Rattle.cyc_parse.proofs.Loops.{with_front}
use Rattle.cyc_parse.proofs.cursor.Parser.parse_program.Given as goal

abbrev pub invariant-loop : goal.invariant-loop
invariant-loop l = with_front view_declaration (λ x xs. x ∷ xs) l.declarations.items (declarations_in 200 (l.most - l.counter) l.self) ≡ program_of l.fn.self
