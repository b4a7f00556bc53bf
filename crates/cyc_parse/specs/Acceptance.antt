-- Defines the tokens that the parser accepts, and its faults with their source positions. (Programs are those of the Cyclone manual's
-- grammar; limits, codes and positions are this project's own choice.)
use Rattle.std.specs.Prelude.{◌≡◌, ℕ, List, ◌∷◌, ◌++◌, length}
use Rattle.cyc_words.specs.declared.fault.Fault.{Fault}
use Rattle.cyc_syntax.specs.Tokens.{Token}
use Rattle.cyc_syntax.specs.Symbols.{Symbol, symbols_of}
use Rattle.cyc_syntax.specs.Trees.{Declaration}
use Rattle.cyc_syntax.specs.Grammar.{HasTree, IsWithinLimits}
use Rattle.cyc_syntax.specs.Yields.{program}
use Rattle.cyc_parse.specs.Faults.{Refusal, end_of, fault_of}
use Rattle.cyc_parse.specs.Refusals.{BreaksFirst}
use Rattle.cyc_parse.specs.Refusals as symbols

-- Says that the tokens are accepted with the given declarations, which are their parse tree by the grammar and keep the limits.
pub record IsAccepted (tokens : List Token) (tree : List Declaration) : Type 0 where
  pub has : HasTree (symbols_of tokens) tree
  pub within : IsWithinLimits tree

-- Says that the tokens of a text are rejected with the given fault: the meaning of the fault's code holds at its source position.
pub record IsRefused (text : List ℕ) (tokens : List Token) (fault : Fault) : Type 0 where
  pub refusal : Refusal
  pub refused : symbols.IsRefused (symbols_of tokens) refusal
  pub is : fault ≡ fault_of (end_of text) refusal

-- Says that the tokens have a parse tree, and that the given token is the first one to break the given limit.
pub record BreaksLimit (tokens : List Token) (refusal : Refusal) : Type 0 where
  pub front : List Symbol
  pub symbol : Symbol
  pub following : List Symbol
  pub are : symbols_of tokens ≡ front ++ symbol ∷ following
  pub left : refusal.left ≡ symbol ∷ following
  pub tree : List Declaration
  pub has : HasTree (symbols_of tokens) tree
  pub breaks : BreaksFirst refusal.reason (program tree) (length front)

-- Says that a fault states the first limit that a program breaks, at the source position of the token that breaks it.
pub record IsFaulty (text : List ℕ) (tokens : List Token) (fault : Fault) : Type 0 where
  pub refusal : Refusal
  pub breaks : BreaksLimit tokens refusal
  pub is : fault ≡ fault_of (end_of text) refusal
