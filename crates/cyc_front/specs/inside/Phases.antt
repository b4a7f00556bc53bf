-- The results of the phases of the front end for a source text, as the code stores them. Diagnostics are made from these results. The form
-- of the phases' results is this project's own choice.
use Rattle.std.specs.Prelude.{◌≡◌, ℕ, List, map}
use Rattle.cyc_syntax.specs.declared.tokens.Token.{Token as TokenCode}
use Rattle.cyc_syntax.specs.declared.tree.Tree.{Tree}
use Rattle.cyc_syntax.specs.Tokens.{token_of}
use Rattle.cyc_syntax.specs.inside.TreeView.{declarations_of}
use Rattle.cyc_lex.specs.Refusals as lexer
use Rattle.cyc_parse.specs.Acceptance as parser
use Rattle.cyc_front.specs.Front.{names_in}

-- Says that the tokens are those of the source text.
abbrev pub HasTokens : (text : List ℕ) → List TokenCode → Type 0
HasTokens text tokens = lexer.IsAccepted text (map (token_of text) tokens)

-- Says that the syntax tree is that of the tokens, and that it contains the texts of the names among the tokens.
abbrev pub HasTree : (text : List ℕ) → List TokenCode → Tree → Type 0
HasTree text tokens tree =
    parser.IsAccepted (map (token_of text) tokens) (declarations_of tree) × (tree.names ≡ names_in (map (token_of text) tokens))
