-- An accepted program can be lowered. In the typed tree of a program text within the limits, each index (of a local, a function
-- and so on) is valid. The constants of the typed tree of a text within the limits fit in 32-bit words. The globals of the typed
-- tree have at most as many machine words as the text has tokens.
use Rattle.std.proofs.Common.{◌≡◌, ℕ, ◌+◌, ◌*◌, ◌≤◌, ◌<◌, Bool, true, false, ◌&&◌, List, [], ◌∷◌, ◌++◌, length, map, Option, Some, None, inl, inr, subst, arith}
use Rattle.std.specs.Prelude.{if◌then◌else◌, ◌==◌, nat_le, IsTrue}
use Rattle.std.specs.List.{AllByRecursion}
use Rattle.std.proofs.lemmas.Bool.{and_parts, leb-true}
use Rattle.std.proofs.lemmas.List.{length-map}
use Rattle.std.proofs.lemmas.List.Elements.{recursion_from_All}
use Rattle.cyc_syntax.specs.Spelling.{is_plain, escaped, Piece, Lexeme, Space, Comment, OpenComment, Spells, SpellsToken}
use Rattle.cyc_syntax.specs.Tokens.{Kind, Token}
use Rattle.cyc_syntax.specs.Tokens as kinds
use Rattle.cyc_syntax.specs.TokenRule.{Part, IsCut, part_tokens, tokens_of, HasTokens, IsSmall, IsWithinLimits, max_tokens}
use Rattle.cyc_syntax.specs.Symbols.{Symbol, terminal_of, symbol_of, symbols_of, texts_in}
use Rattle.cyc_syntax.specs.Names.{distinct_texts}
use Rattle.cyc_syntax.specs.Trees.{Declaration}
use Rattle.cyc_syntax.specs.Grammar.{HasTree, IsWithinLimits as IsTreeWithinLimits}
use Rattle.cyc_syntax.specs.inside.Weight.{tree_weight}
use Rattle.cyc_syntax.proofs.WeightLemmas.{tree_weight-length}
use Rattle.cyc_types.specs.TypedTrees.{Program, GlobalVariable}
use Rattle.cyc_types.specs.typing.Programs.{IsTypedProgram}
use Rattle.cyc_types.specs.Weight.{program_weight}
use Rattle.cyc_types.proofs.WeightLemmas.{declarations_counted}
use Rattle.cyc_types.specs.Demands.{FunctionsMeet}
use Rattle.cyc_types.proofs.typing.TreeConstants.{IsOfWordsTerminal, AreOfWordsSymbols, tree_constants}
use Rattle.cyc_types.proofs.typing.DemandLemmas.{functions_meet}
use Rattle.cyc_types.proofs.typing.TextLemmas.{tree_demands, program_meets}
use Rattle.cyc_types.proofs.typing.WeightLemmas.{program_lighter}
use Rattle.cyc_lower_proof.proofs.acceptance.LowerableLemmas.{all_few}
use Rattle.cyc_lower_proof.specs.inside.Lowered.{CanBeLowered}
use Rattle.cyc_lower_proof.specs.inside.Lowerable.{lowering_demands}
use Rattle.cyc_lower_proof.proofs.acceptance.GlobalConstants.{typed_globals}
use Rattle.cyc_meaning.specs.FrameCount.{words_of_all}
use Rattle.cyc_meaning.specs.Values.{kind_of}
use Rattle.cyc_lower_proof.specs.inside.Slots.{global_types}
use Rattle.cyc_lower_proof.proofs.slots.Widths.{kind_few, type_words}

-- The type of a global takes at most three words.
globals_few : (gs : List GlobalVariable) → words_of_all (global_types gs) ≤ 3 * length gs
globals_few [] = omega arith
globals_few (g ∷ gs) = omega (arith, type_words g.of_type, kind_few (kind_of g.of_type), globals_few gs)

pub can_be_lowered : (texts : List (List ℕ)) (symbols : List Symbol) (tree : List Declaration) (p : Program)
    → HasTree symbols tree → IsTreeWithinLimits tree → AreOfWordsSymbols symbols → length symbols ≤ max_tokens → IsTypedProgram texts tree p → CanBeLowered p
can_be_lowered texts symbols tree p has small words short typed =
    let met : FunctionsMeet tree_demands p.functions = program_meets texts symbols tree p has small words short typed in
    let weight : tree_weight tree ≡ length symbols = tree_weight-length symbols tree has in
    let fewer : program_weight p ≤ tree_weight tree = program_lighter texts tree p typed in
    let counted : 3 * length p.globals + 6 * length p.functions ≤ program_weight p = declarations_counted p in
    record {
      of_words = record {
        functions = functions_meet tree_demands lowering_demands (record { number = λ n w. w; fields = λ cs w. (w.0, omega (arith, w.1, all_few cs)); pointer = λ o os w. w; exception = λ n w. w }) p.functions met;
        globals = typed_globals texts tree p typed (tree_constants symbols tree has words);
      };
      few_globals = omega (arith, globals_few p.globals);
    }

-- ---- the constants of a text's tokens

-- The value of a character constant is a byte.
abbrev IsByteKind : Kind → Type 0
IsByteKind (kinds.Identifier x) = Unit {0}
IsByteKind (kinds.RegionName r) = Unit {0}
IsByteKind (kinds.Number n) = Unit {0}
IsByteKind (kinds.Character c) = c < 256
IsByteKind (kinds.Word k) = Unit {0}
IsByteKind (kinds.Mark s) = Unit {0}

abbrev IsByteOrNone : Option ℕ → Type 0
IsByteOrNone None = Unit {0}
IsByteOrNone (Some c) = c < 256

byte_either : (b : Bool) (x y : Option ℕ) → IsByteOrNone x → IsByteOrNone y → IsByteOrNone (if b then x else y)
byte_either true x y h k = h
byte_either false x y h k = k

escaped_byte : (b : ℕ) → IsByteOrNone (escaped b)
escaped_byte b =
    byte_either (b == 110) (Some 10) _ (omega arith)
    (byte_either (b == 116) (Some 9) _ (omega arith)
    (byte_either (b == 114) (Some 13) _ (omega arith)
    (byte_either (b == 48) (Some 0) _ (omega arith)
    (byte_either (b == 92) (Some 92) _ (omega arith)
    (byte_either (b == 39) (Some 39) None (omega arith) tt)))))

plain_byte : (c : ℕ) → IsTrue (is_plain c) → c < 256
plain_byte c h =
    let below : c ≤ 126 = leb-true c 126 (and_parts (nat_le 32 c) _ (and_parts (nat_le 32 c && nat_le c 126) _ (and_parts _ _ h).0).0).1 in
    omega arith

kind_byte : (k : Kind) (bytes : List ℕ) → SpellsToken k bytes → IsByteKind k
kind_byte (kinds.Identifier x) bytes h = tt
kind_byte (kinds.RegionName r) bytes h = tt
kind_byte (kinds.Number n) bytes h = tt
kind_byte (kinds.Character c) bytes (inl (e, h)) = plain_byte c h
kind_byte (kinds.Character c) bytes (inr (b, e, h)) = subst IsByteOrNone h (escaped_byte b)
kind_byte (kinds.Word k) bytes h = tt
kind_byte (kinds.Mark s) bytes h = tt

abbrev AreByteTokens : List Token → Type 0
AreByteTokens [] = Unit {0}
AreByteTokens (t ∷ ts) = IsByteKind t.kind × AreByteTokens ts

cut_bytes : (front : List ℕ) (ps : List Part) (text rest : List ℕ) → IsCut ps text rest → AreByteTokens (tokens_of front ps)
cut_bytes front [] text rest h = tt
cut_bytes front (p ∷ ps) text rest (after, e, read, closed, h) = go p.piece read.spelled (cut_bytes (front ++ p.bytes) ps after rest h)
  where
    go : (m : Piece) → Spells m p.bytes → AreByteTokens (tokens_of (front ++ p.bytes) ps) → AreByteTokens (part_tokens front m ++ tokens_of (front ++ p.bytes) ps)
    go (Lexeme k) s hs = (kind_byte k p.bytes s, hs)
    go Space s hs = hs
    go Comment s hs = hs
    go OpenComment s hs = hs

terminal_constants : (texts : List (List ℕ)) (k : Kind) → IsSmall k → IsByteKind k → IsOfWordsTerminal (terminal_of texts k)
terminal_constants texts (kinds.Identifier x) h b = tt
terminal_constants texts (kinds.RegionName r) h b = tt
terminal_constants texts (kinds.Number n) h b = omega arith
terminal_constants texts (kinds.Character c) h b = omega arith
terminal_constants texts (kinds.Word k) h b = tt
terminal_constants texts (kinds.Mark s) h b = tt

symbol_constants : (texts : List (List ℕ)) (tokens : List Token) → AllByRecursion (λ t. IsSmall t.kind) tokens → AreByteTokens tokens → AreOfWordsSymbols (map (symbol_of texts) tokens)
symbol_constants texts [] h b = tt
symbol_constants texts (t ∷ ts) (h, hs) (b, bs) = (terminal_constants texts t.kind h b, symbol_constants texts ts hs bs)

-- The constants among the tokens of a program text within the limits are 32-bit words.
pub text_constants : (text : List ℕ) (tokens : List Token) → HasTokens text tokens → IsWithinLimits tokens → AreOfWordsSymbols (symbols_of tokens)
text_constants text tokens (parts, cut, e) within =
    symbol_constants (distinct_texts (texts_in tokens)) tokens (recursion_from_All (λ t. IsSmall t.kind) tokens within.numbers) (subst AreByteTokens e (cut_bytes [] parts text [] cut))

pub accepted_can_be_lowered : (texts : List (List ℕ)) (text : List ℕ) (tokens : List Token) (tree : List Declaration) (p : Program)
    → HasTokens text tokens → IsWithinLimits tokens → HasTree (symbols_of tokens) tree → IsTreeWithinLimits tree → IsTypedProgram texts tree p → CanBeLowered p
accepted_can_be_lowered texts text tokens tree p rule within has small typed =
    let same : length (symbols_of tokens) ≡ length tokens = length-map tokens (symbol_of (distinct_texts (texts_in tokens))) in
    can_be_lowered texts (symbols_of tokens) tree p has small (text_constants text tokens rule within) (omega (arith, same, within.count)) typed
