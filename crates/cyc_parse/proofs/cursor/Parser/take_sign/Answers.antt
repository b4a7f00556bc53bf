use Rattle.std.proofs.Common.{suc, sym, subst, ◌∙◌}
use Rattle.cyc_syntax.specs.Symbols.{Place}
use Rattle.cyc_syntax.specs.inside.TreeView.{place_of_span}
use Rattle.cyc_parse.specs.inside.Code.{Gives}
use Rattle.cyc_parse.specs.inside.Parsing.{Outcome}
use Rattle.cyc_parse.proofs.Signs.{sign_seen, sign_not_seen, accepted_here}
use Rattle.cyc_parse.proofs.cursor.Parser.take_sign.Goals as goal

pub returns-then-not-sees : goal.returns-then-not-sees
returns-then-not-sees c = λ room. sign_not_seen (suc room) c.args.wanted c.args.self.now (sym c.sees.ensures ∙ c.if-not-sees.true)

pub returns : goal.returns
returns c = λ room.
    let same = sign_seen (suc room) c.args.wanted c.args.self.now (sym c.sees.ensures ∙ c.if-not-sees.false) ∙ accepted_here room c.args.self.now in
    subst (λ (o : Outcome Place). Gives place_of_span c.advance.result o c.advance.new.self) (sym same) c.advance.ensures
