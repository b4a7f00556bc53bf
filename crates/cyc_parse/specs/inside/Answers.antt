-- The parser's result for the tokens of a text: a tree, or a fault with its source position.
use Rattle.std.specs.Prelude.{◌≡◌, ◌⊎◌, ℕ, List, [], ◌∷◌, map, Result, Ok, Err}
use Rattle.cyc_words.specs.declared.fault.Fault.{Fault}
use Rattle.cyc_words.specs.Fault.{memory_fault}
use Rattle.cyc_syntax.specs.Names.{distinct_texts}
use Rattle.cyc_syntax.specs.Tokens.{Token}
use Rattle.cyc_syntax.specs.Symbols.{Place, Symbol, texts_in, symbols_of}
use Rattle.cyc_syntax.specs.Trees.{Declaration}
use Rattle.cyc_syntax.specs.declared.tree.Tree.{Tree}
use Rattle.cyc_syntax.specs.inside.TreeView.{view_declaration}
use Rattle.cyc_parse.specs.Faults.{Refusal, end_of, fault_of}
use Rattle.cyc_parse.specs.inside.Parsing.{Parser, Unexpected, refuse, ◌>>=◌}
use Rattle.cyc_parse.specs.inside.Declarations.{program_of}

-- Returns the given value if no symbol is left, and otherwise rejects the next symbol as unexpected.
abbrev pub at_end : {A : Type 0} → A → Parser A
at_end a [] = Ok (a, [])
at_end a (t ∷ ts) = refuse Unexpected (t ∷ ts)

-- Parses a program that must consume all symbols.
abbrev pub whole_program : Parser (List Declaration)
whole_program = program_of >>= at_end

-- Says that the symbols are rejected with the given fault, in a text that ends at the given position.
pub record IsRefused (end : Place) (symbols : List Symbol) (fault : Fault) : Type 0 where
  pub refusal : Refusal
  pub refused : whole_program symbols ≡ Err refusal
  pub is : fault ≡ fault_of end refusal

-- Says that the tokens have the given tree, whose names are the texts of the tokens' identifiers and region names.
pub record IsTreeOf (tokens : List Token) (tree : Tree) : Type 0 where
  pub declarations : whole_program (symbols_of tokens) ≡ Ok (map view_declaration tree.declarations.items, [])
  pub names : tree.names ≡ distinct_texts (texts_in tokens)

-- THE PARSER'S RESULT for a text with the given tokens: their tree, or their fault, unless memory runs out.
abbrev pub IsAnswer : List ℕ → List Token → Result Tree Fault → Type 0
IsAnswer text tokens (Ok tree) = IsTreeOf tokens tree
IsAnswer text tokens (Err fault) = (fault ≡ memory_fault) ⊎ IsRefused (end_of text) (symbols_of tokens) fault
