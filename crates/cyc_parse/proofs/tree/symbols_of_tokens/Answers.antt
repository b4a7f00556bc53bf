use Rattle.cyc_syntax.specs.Tokens.{token_of}
use Rattle.cyc_parse.proofs.Naming.{names_more, symbols_more}
use Rattle.cyc_parse.proofs.tree.symbols_of_tokens.Goals as goal

pub loop-token-preserved : goal.loop-token-preserved
loop-token-preserved c = record {
  names = names_more (token_of c.args.text.now) c.args.names.now c.args.tokens.now c.loop-token.token-index _ c.loop-token-test.true c.loop-token.names c.symbol_of_token.new.names c.loop-token.invariant.names c.in_ok-symbol.ensures.names;
  symbols = rw c.in_ok-push.ensures.items (symbols_more (token_of c.args.text.now) c.args.names.now c.args.tokens.now c.loop-token.token-index _ c.loop-token-test.true c.loop-token.names c.symbol_of_token.new.names c.loop-token.symbols.items c.in_ok-symbol.symbol c.loop-token.invariant.names c.in_ok-symbol.ensures.names c.loop-token.invariant.symbols c.in_ok-symbol.ensures.symbol);
}
