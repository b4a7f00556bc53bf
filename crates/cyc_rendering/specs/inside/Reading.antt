-- The syntax tree of a text, as the code represents it.
use Rattle.std.specs.Prelude.{◌≡◌, ℕ, List}
use Rattle.cyc_syntax.specs.Tokens.{Token}
use Rattle.cyc_syntax.specs.declared.tree.Tree.{Tree}
use Rattle.cyc_lex.specs.Refusals as lexer
use Rattle.cyc_parse.specs.Acceptance as parser
use Rattle.cyc_syntax.specs.inside.TreeView.{declarations_of}
use Rattle.cyc_front.specs.Front.{names_in}

-- `HasTree` says that the text's tokens have this syntax tree, whose names are those of the text.
abbrev pub HasTree : List ℕ → Tree → Type 0
HasTree text tree = (tokens : List Token) × lexer.IsAccepted text tokens × parser.IsAccepted tokens (declarations_of tree) × (tree.names ≡ names_in tokens)
