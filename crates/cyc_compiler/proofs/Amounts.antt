-- This file has facts about the program of a text: a bound on its weight (the number of tokens that its spelling needs), its
-- properties beyond the typing rules, and its soundness.
use Rattle.std.proofs.Common.{ℕ, ◌≤◌, List, length, arith}
use Rattle.std.proofs.lemmas.List.{length-map}
use Rattle.cyc_syntax.specs.TokenRule.{max_tokens}
use Rattle.cyc_syntax.specs.Names.{distinct_texts}
use Rattle.cyc_syntax.specs.Symbols.{texts_in, symbol_of, symbols_of}
use Rattle.cyc_syntax.proofs.WeightLemmas.{tree_weight-length}
use Rattle.cyc_types.specs.TypedTrees.{Program}
use Rattle.cyc_types.specs.Texts.{IsOfTextProgram}
use Rattle.cyc_types.specs.Weight.{program_weight}
use Rattle.cyc_types.proofs.typing.TextLemmas.{program_meets, of_text}
use Rattle.cyc_types.proofs.typing.WeightLemmas.{program_lighter}
use Rattle.cyc_lower_proof.proofs.acceptance.Accepted.{text_constants}
use Rattle.cyc_soundness.specs.Sound.{IsSound}
use Rattle.cyc_soundness.proofs.FormedLemmas.{typed_sound}
use Rattle.cyc_front.specs.Front.{names_in, IsAcceptedText}

-- The tokens of an accepted text yield at most `max_tokens` grammar symbols, where `max_tokens` is the largest number
-- of tokens that a text may have.
symbols_few : (text : List ℕ) (p : Program) (a : IsAcceptedText text p) → length (symbols_of a.tokens) ≤ max_tokens
symbols_few text p a = let tokens = length-map a.tokens (symbol_of (distinct_texts (texts_in a.tokens))) in omega (arith, tokens, a.has_tokens.within.count)

-- The weight of the typed program of a text (the tokens that its spelling needs) is at most the number of tokens of the text.
pub accepted_weight : (text : List ℕ) (p : Program) (a : IsAcceptedText text p) → program_weight p ≤ length a.tokens
accepted_weight text p a =
    let tree = program_lighter (names_in a.tokens) a.tree p a.typed in
    let symbols = tree_weight-length (symbols_of a.tokens) a.tree a.has_tree.has in
    let tokens = length-map a.tokens (symbol_of (distinct_texts (texts_in a.tokens))) in
    omega (arith, tree, symbols, tokens)

-- The typed program's weight (the tokens that its spelling needs) is at most `max_tokens`, the largest number of tokens of a text.
pub accepted_light : (text : List ℕ) (p : Program) → IsAcceptedText text p → program_weight p ≤ max_tokens
accepted_light text p a =
    omega (arith, accepted_weight text p a, a.has_tokens.within.count)

-- The program of an accepted text has structs with few fields, and the indices of its exceptions are 32-bit words.
pub accepted_of_text : (text : List ℕ) (p : Program) → IsAcceptedText text p → IsOfTextProgram p
accepted_of_text text p a =
    let words = text_constants text a.tokens a.has_tokens.rule a.has_tokens.within in
    of_text p (program_meets (names_in a.tokens) (symbols_of a.tokens) a.tree p a.has_tree.has a.has_tree.within words (symbols_few text p a) a.typed)

-- No run of an accepted program reaches a dead state (an access to a closed region or a freed object) or a wrong state (no case of the
-- semantics applies).
pub accepted_sound : (text : List ℕ) (p : Program) → IsAcceptedText text p → IsSound p
accepted_sound text p a = typed_sound (names_in a.tokens) a.tree p a.typed a.allowed
