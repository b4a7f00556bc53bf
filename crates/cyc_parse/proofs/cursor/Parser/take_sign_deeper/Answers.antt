use Rattle.std.proofs.Common.{ℕ, subst}
use Rattle.cyc_syntax.specs.inside.TreeView.{place_of_span}
use Rattle.cyc_parse.specs.inside.Code.{Gives}
use Rattle.cyc_parse.specs.inside.Parsing.{sign}
use Rattle.cyc_parse.proofs.cursor.Parser.take_sign_deeper.Goals as goal

pub returns : goal.returns
returns c = subst (λ (n : ℕ). Gives place_of_span c.take_sign_inside.result (sign n c.args.wanted c.args.self.now) c.take_sign_inside.new.self) c.inside.ensures c.take_sign_inside.ensures
