use Rattle.std.proofs.Common.{map, ap, ◌∙◌}
use Rattle.std.proofs.lemmas.Result.{err_from_is_err_and}
use Rattle.cyc_syntax.specs.Tokens.{token_of}
use Rattle.cyc_parse.specs.inside.Code.{view_symbol}
use Rattle.cyc_parse.proofs.Ends.{refused_of}
use Rattle.cyc_parse.proofs.tree.answer.Goals as goal

pub returns-in_err-declarations : goal.returns-in_err-declarations
returns-in_err-declarations c =
    let p = err_from_is_err_and c.from_residual-in_err-declarations.result c.from_residual-in_err-declarations.ensures.1 in
    rw (p.1, p.2) (refused_of c.args.text.now (map (token_of c.args.text.now) c.args.tokens.now) c.in_ok-names.names c.symbols_of_tokens.new.names (map view_symbol c.deref.result.now) c.in_err-declarations.field-0.0
    c.in_ok-names.ensures.empty c.in_ok-symbols.ensures.names
    (ap (map view_symbol) c.deref.ensures.value ∙ c.in_ok-symbols.ensures.symbols) c.in_err-declarations.ensures.refused)
