-- The meaning of the parser's faults for the symbols, in terms of the grammar. (The limits are this project's own choice.)
use Rattle.std.specs.Prelude.{◌≡◌, ℕ, ◌≤◌, ◌<◌, Bool, false, List, [], ◌∷◌, ◌++◌, length, Option, Some, None, is_some}
use Rattle.std.specs.List.{AllByRecursion}
use Rattle.cyc_syntax.specs.declared.tokens.Sign.TheVariants as signs
use Rattle.cyc_syntax.specs.Symbols.{Terminal, Identifier, RegionName, Number, Character, Word, Mark, Symbol}
use Rattle.cyc_syntax.specs.Trees.{Declaration}
use Rattle.cyc_syntax.specs.Yields.{Leaf, Yield, program}
use Rattle.cyc_syntax.specs.Grammar.{HasTree, IsWithin, max_nesting, max_items}
use Rattle.cyc_parse.specs.Faults.{Reason, Unexpected, TooDeep, TooLong, Refusal}

-- Says that a leaf breaks the limit of the given reason. If a leaf breaks both the limit of nesting and the
-- limit of list length, the nesting is reported.
abbrev pub Breaks : Reason → Leaf → Type 0
Breaks TooDeep leaf = max_nesting < leaf.nesting
-- The leaf belongs to a list element or operator beyond the maximal length of its list or chain of binary operators.
Breaks TooLong leaf = (leaf.nesting ≤ max_nesting) × (max_items < leaf.item)
Breaks Unexpected leaf = ⊥

-- Says that the leaf after the first `count` leaves breaks the limit of the given reason, and that the leaves before it keep all limits.
pub record BreaksFirst (why : Reason) (leaves : Yield) (count : ℕ) : Type 0 where
  pub before : Yield
  pub leaf : Leaf
  pub following : Yield
  pub are : leaves ≡ before ++ leaf ∷ following
  pub place : length before ≡ count
  pub within : AllByRecursion IsWithin before
  pub breaks : Breaks why leaf

-- Returns the terminal of the next symbol, if any symbol is left.
abbrev pub next : List Symbol → Option Terminal
next [] = None
next (t ∷ ts) = Some t.terminal

-- Returns true if there is a next terminal and it passes the given test.
abbrev pub starts : (Terminal → Bool) → Option Terminal → Bool
starts begins None = false
starts begins (Some t) = begins t

abbrev pub region_of_terminal : Terminal → Option ℕ
region_of_terminal (RegionName x) = Some x
region_of_terminal (Identifier x) = None
region_of_terminal (Number n) = None
region_of_terminal (Character c) = None
region_of_terminal (Word k) = None
region_of_terminal (Mark s) = None

abbrev pub begins_region : Terminal → Bool
begins_region t = is_some (region_of_terminal t)

-- Returns true if the next symbol is a region.
abbrev pub region_next : List Symbol → Bool
region_next symbols = starts begins_region (next symbols)

-- After `new` and a name, `<` opens region arguments if a region follows the `<`; otherwise the `<` is an operator. The meaning of a `<`
-- after `new` and a name depends on the symbol after the `<`. `IsAlike` says of two continuations of a text after a `<` that both begin
-- with a region or neither does.
abbrev pub IsAlike : Symbol → List Symbol → List Symbol → Type 0
IsAlike symbol back more = symbol.terminal ≡ Mark signs.Less → region_next more ≡ region_next back

-- Says that some program begins with the given symbols, followed by the given symbol.
abbrev pub IsBegun : List Symbol → Symbol → Type 0
IsBegun front symbol = (more : List Symbol) × (tree : List Declaration) × HasTree (front ++ symbol ∷ more) tree

-- Defines for each reason of a rejection what it means, given the symbols before the rejected one and the symbols left unread.
abbrev pub Holds : Reason → List Symbol → List Symbol → Type 0
-- If no symbol is left, `Unexpected` means that no program ends at the end of the text.
Holds Unexpected front [] = (tree : List Declaration) → HasTree front tree → ⊥
-- If a symbol is left, `Unexpected` means that no program begins with the symbols up to and including it.
Holds Unexpected front (symbol ∷ back) = (more : List Symbol) (tree : List Declaration) → HasTree (front ++ symbol ∷ more) tree → ⊥
-- At the end of the text no limit on nesting or list length is broken, since no symbol is left.
Holds TooDeep front [] = ⊥
-- `TooDeep` means that some programs begin with the symbols up to the rejected one. In each of these programs the rejected symbol is the
-- first to break a limit: it is nested too deep.
Holds TooDeep front (symbol ∷ back) = IsBegun front symbol × ((more : List Symbol) (tree : List Declaration) → HasTree (front ++ symbol ∷ more) tree → BreaksFirst TooDeep (program tree) (length front))
Holds TooLong front [] = ⊥
-- `TooLong` means that some programs begin with the symbols up to the rejected one. In each of these programs the rejected symbol is
-- the first to break a limit: it begins one list element or operator too many.
Holds TooLong front (symbol ∷ back) = IsBegun front symbol × ((more : List Symbol) (tree : List Declaration) → IsAlike symbol back more → HasTree (front ++ symbol ∷ more) tree → BreaksFirst TooLong (program tree) (length front))

-- Says that the symbols are rejected at the first symbol left unread, or at the end of the text, for a reason whose meaning holds.
pub record IsRefused (symbols : List Symbol) (refusal : Refusal) : Type 0 where
  pub front : List Symbol
  pub are : symbols ≡ front ++ refusal.left
  pub holds : Holds refusal.reason front refusal.left
