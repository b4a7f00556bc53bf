use Rattle.std.proofs.Common.{◌≡◌, map, take, fold}
use Rattle.cyc_syntax.specs.Names.{with_text}
use Rattle.cyc_syntax.specs.Tokens.{token_of}
use Rattle.cyc_syntax.specs.Symbols.{texts_in, symbol_of}
use Rattle.cyc_parse.specs.inside.Code.{view_symbol}
use Rattle.cyc_parse.proofs.tree.symbols_of_tokens.Given as goal

abbrev pub invariant-loop-token : goal.invariant-loop-token
invariant-loop-token l = record {
  names : l.names ≡ fold with_text l.fn.names (texts_in (map (token_of l.text) (take l.token-index l.tokens)));
  symbols : map view_symbol l.symbols.items ≡ map (symbol_of l.names) (map (token_of l.text) (take l.token-index l.tokens));
}
