use Rattle.std.proofs.Common.{suc, sym, ◌∙◌}
use Rattle.cyc_parse.proofs.Signs.{seen_next, sign_seen, accepted_here}
use Rattle.cyc_parse.proofs.cursor.Parser.take_if.Goals as goal

pub take_next-requires : goal.take_next-requires
take_next-requires c = seen_next c.args.wanted c.args.self.now (sym c.sees.ensures ∙ c.if-not-sees.false)

pub returns-clause-taken : goal.returns-clause-taken
returns-clause-taken c = λ room.
    sign_seen (suc room) c.args.wanted c.args.self.now (sym c.sees.ensures ∙ c.if-not-sees.false) ∙ accepted_here room c.args.self.now ∙ c.take_next.ensures
