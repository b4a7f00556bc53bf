use Rattle.std.proofs.Common.{map}
use Rattle.cyc_words.proofs.Decisions.{decides_by_view}
use Rattle.cyc_syntax.specs.Tokens.{token_of}
use Rattle.cyc_lex.specs.Refusals.{IsAccepted, IsRefused}
use Rattle.cyc_lex.proofs.AnswerLemmas.{text_is_decided}
use Rattle.cyc_lex.proofs.lexer.lex.Goals as goal

pub returns-clause-decides : goal.returns-clause-decides
returns-clause-decides c =
    let text = c.args.text.now in
    decides_by_view (λ v. map (token_of text) v.items) (IsAccepted text) (IsRefused text) (IsRefused text) (text_is_decided text) c.read_tokens.result c.read_tokens.ensures.accepted c.read_tokens.ensures.refused
