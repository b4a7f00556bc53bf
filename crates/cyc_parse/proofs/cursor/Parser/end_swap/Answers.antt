use Rattle.std.proofs.Common.{suc, sym, subst, ◌∙◌}
use Rattle.cyc_syntax.specs.Symbols.{Place}
use Rattle.cyc_syntax.specs.inside.TreeView.{place_of_span, view_expression}
use Rattle.cyc_parse.specs.inside.Code.{Gives}
use Rattle.cyc_parse.specs.inside.Parsing.{Outcome}
use Rattle.cyc_parse.proofs.StatementLevels.{swap_ends}
use Rattle.cyc_parse.proofs.cursor.Parser.end_swap.Goals as goal

pub returns-then-sees : goal.returns-then-sees
returns-then-sees c = λ room.
    subst (λ (o : Outcome Place). Gives place_of_span c.take_sign.result o c.take_sign.new.self) (swap_ends (suc room) (view_expression c.args.right.now) c.args.self.now (sym c.sees.ensures ∙ c.if-sees.true)) (c.take_sign.ensures room)
