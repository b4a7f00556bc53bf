-- The accepted source texts, and the faults of rejected texts. The front end of the compiler has four phases: lexer, parser, type checker
-- and flow check. The text has tokens, the tokens have a syntax tree, the syntax tree has a typed program, and the typed program satisfies
-- the flow rules. Each phase defines separately which inputs it accepts and rejects; this file combines these definitions. (That the first
-- phase to reject a text determines the fault is this project's own choice.)
use Rattle.std.specs.Prelude.{◌⊎◌, ℕ, List}
use Rattle.cyc_words.specs.declared.fault.Fault.{Fault}
use Rattle.cyc_syntax.specs.Names.{distinct_texts}
use Rattle.cyc_syntax.specs.Tokens.{Token}
use Rattle.cyc_syntax.specs.Symbols.{texts_in}
use Rattle.cyc_syntax.specs.Trees.{Declaration}
use Rattle.cyc_lex.specs.Refusals as lexer
use Rattle.cyc_parse.specs.Acceptance as parser
use Rattle.cyc_types.specs.TypedTrees.{Program}
use Rattle.cyc_types.specs.typing.Programs.{IsTypedProgram, IsRefusedProgram}
use Rattle.cyc_types.specs.flow.Programs.{IsAllowedProgram, IsStoppedProgram}

-- The texts of the names among a list of tokens, in the order of their first occurrence.
abbrev pub names_in : List Token → List (List ℕ)
names_in tokens = distinct_texts (texts_in tokens)

-- Says that the source text is accepted and that its typed program is p.
pub record IsAcceptedText (text : List ℕ) (p : Program) : Type 0 where
  pub tokens : List Token
  pub tree : List Declaration
  pub has_tokens : lexer.IsAccepted text tokens
  pub has_tree : parser.IsAccepted tokens tree
  pub typed : IsTypedProgram (names_in tokens) tree p
  pub allowed : IsAllowedProgram p

-- Says that the first phase that rejects the text reports the fault. The phases are the lexer, the grammar (defined by `OfGrammar`),
-- the typing rules and the flow rules.
abbrev pub IsStoppedText : (OfGrammar : List ℕ → List Token → Fault → Type 0) → List ℕ → Fault → Type 0
IsStoppedText OfGrammar text f =
    lexer.IsRefused text f
    ⊎ ((tokens : List Token) × lexer.IsAccepted text tokens × OfGrammar text tokens f)
    ⊎ ((tokens : List Token) × (tree : List Declaration) × lexer.IsAccepted text tokens × parser.IsAccepted tokens tree × IsRefusedProgram (names_in tokens) tree f)
    ⊎ ((tokens : List Token) × (tree : List Declaration) × (p : Program) × lexer.IsAccepted text tokens × parser.IsAccepted tokens tree × IsTypedProgram (names_in tokens) tree p × IsStoppedProgram p f)

-- Says that a fault reported for the text is true: the condition of the fault's code holds at the fault's position.
abbrev pub IsRefusedText : List ℕ → Fault → Type 0
IsRefusedText = IsStoppedText parser.IsRefused

-- Says that the text is rejected with this fault and with no other. If the tokens of a text have no syntax tree, the definition only
-- says that the text is rejected.
abbrev pub HasFault : List ℕ → Fault → Type 0
HasFault = IsStoppedText parser.IsFaulty
