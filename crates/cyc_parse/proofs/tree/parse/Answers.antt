use Rattle.std.proofs.Common.{length, map}
use Rattle.std.proofs.lemmas.List.{length-map}
use Rattle.cyc_syntax.specs.Tokens.{token_of}
use Rattle.cyc_parse.proofs.Accepted.{decides, names_are, weighed}
use Rattle.cyc_parse.proofs.tree.parse.Goals as goal

pub returns-clause-decides : goal.returns-clause-decides
returns-clause-decides c = decides c.args.text.now (map (token_of c.args.text.now) c.args.tokens.now) c.answer.result c.answer.ensures

pub returns-clause-names : goal.returns-clause-names
returns-clause-names c = names_are c.args.text.now (map (token_of c.args.text.now) c.args.tokens.now) c.answer.result c.answer.ensures

pub returns-clause-weight : goal.returns-clause-weight
returns-clause-weight c =
    weighed c.args.text.now (map (token_of c.args.text.now) c.args.tokens.now) (length c.args.tokens.now) c.answer.result (length-map c.args.tokens.now (token_of c.args.text.now)) c.answer.ensures
