use Rattle.std.proofs.Common.{sym, subst, ◌∙◌}
use Rattle.cyc_syntax.specs.Symbols.{Place}
use Rattle.cyc_syntax.specs.inside.TreeView.{place_of_span}
use Rattle.cyc_parse.specs.inside.Code.{Gives}
use Rattle.cyc_parse.specs.inside.Parsing.{Outcome}
use Rattle.cyc_parse.proofs.Signs.{sign_seen, sign_not_seen}
use Rattle.cyc_parse.proofs.cursor.Parser.take_sign_inside.Goals as goal

pub returns-then-not-sees : goal.returns-then-not-sees
returns-then-not-sees c = sign_not_seen c.args.room c.args.wanted c.args.self.now (sym c.sees.ensures ∙ c.if-not-sees.true)

pub returns : goal.returns
returns c =
    let same = sign_seen c.args.room c.args.wanted c.args.self.now (sym c.sees.ensures ∙ c.if-not-sees.false) in
    subst (λ (o : Outcome Place). Gives place_of_span c.accept.result o c.accept.new.self) (sym same) c.accept.ensures
