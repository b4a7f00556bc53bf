use Rattle.std.proofs.Common.{◌≡◌, ◌⊎◌, inl, inr, ℕ, List, map, Result, Ok, Err, subst, sym}
use Rattle.std.specs.Prelude.{IfOk, IfErr}
use Rattle.std.proofs.lemmas.Result.{err_from_is_err_and}
use Rattle.cyc_words.specs.declared.fault.Fault.{Fault}
use Rattle.cyc_words.specs.Fault.{memory_fault}
use Rattle.cyc_syntax.specs.declared.tokens.Token.{Token as TokenCode}
use Rattle.cyc_syntax.specs.declared.tree.Tree.{Tree}
use Rattle.cyc_syntax.specs.Tokens.{Token, token_of}
use Rattle.cyc_syntax.specs.Trees.{Declaration}
use Rattle.cyc_lex.specs.Refusals as lexer
use Rattle.cyc_parse.specs.Acceptance as parser
use Rattle.cyc_syntax.specs.inside.TreeView.{declarations_of}
use Rattle.cyc_front.specs.Front.{names_in, IsRefusedText}
use Rattle.cyc_rendering.specs.inside.Reading.{HasTree}
use Rattle.cyc_rendering.proofs.reading.tree_of.Goals as goal

-- Two equal lists of the lexer's token codes denote the same tokens of the text.
lexed : (text : List ℕ) (ts us : List TokenCode) → us ≡ ts
    → (tokens : List Token) × lexer.IsAccepted text tokens × (map (token_of text) ts ≡ tokens) → lexer.IsAccepted text (map (token_of text) us)
lexed text ts us same (tokens, is, view) =
    subst (λ x. lexer.IsAccepted text (map (token_of text) x)) (sym same) (subst (lexer.IsAccepted text) (sym view) is)

-- The syntax tree that the parser returns for the text's tokens is the syntax tree of the text.
parsed : (text : List ℕ) (tokens : List Token) → lexer.IsAccepted text tokens → (result : Result Tree Fault)
    → IfOk result (λ t. (tree : List Declaration) × parser.IsAccepted tokens tree × (declarations_of t ≡ tree))
    → IfOk result (λ t. t.names ≡ names_in tokens) → IfOk result (HasTree text)
parsed text tokens is (Ok t) (tree, has, view) names = (tokens, is, subst (parser.IsAccepted tokens) (sym view) has, names)
parsed text tokens is (Err f) has names = tt

-- A fault that the lexer finds is a fault of the text, and so is a fault of the grammar in the text's tokens.
refused_tokens : (text : List ℕ) (f : Fault) → (f ≡ memory_fault) ⊎ lexer.IsRefused text f → (f ≡ memory_fault) ⊎ IsRefusedText text f
refused_tokens text f (inl memory) = inl memory
refused_tokens text f (inr r) = inr (inl r)

refused_tree : (text : List ℕ) (tokens : List Token) → lexer.IsAccepted text tokens → (result : Result Tree Fault)
    → IfErr result (λ f. (f ≡ memory_fault) ⊎ parser.IsRefused text tokens f) → IfErr result (λ f. (f ≡ memory_fault) ⊎ IsRefusedText text f)
refused_tree text tokens is (Ok t) r = tt
refused_tree text tokens is (Err f) (inl memory) = inl memory
refused_tree text tokens is (Err f) (inr r) = inr (inr (inl (tokens, is, r)))

pub returns-in_err-tokens-clause-refused : goal.returns-in_err-tokens-clause-refused
returns-in_err-tokens-clause-refused c =
    let p = err_from_is_err_and c.from_residual.result c.from_residual.ensures.1 in
    rw (p.1, p.2) (refused_tokens c.args.text.now _ c.in_err-tokens.ensures.decides.refused)

pub returns-clause-tree : goal.returns-clause-tree
returns-clause-tree c =
    let text = c.args.text.now in
    parsed text (map (token_of text) c.deref.result.now)
    (lexed text c.in_ok-tokens.tokens.items c.deref.result.now c.deref.ensures.value c.in_ok-tokens.ensures.decides.accepted)
    c.parse.result c.parse.ensures.decides.accepted c.parse.ensures.names

pub returns-clause-refused : goal.returns-clause-refused
returns-clause-refused c =
    let text = c.args.text.now in
    refused_tree text (map (token_of text) c.deref.result.now)
    (lexed text c.in_ok-tokens.tokens.items c.deref.result.now c.deref.ensures.value c.in_ok-tokens.ensures.decides.accepted)
    c.parse.result c.parse.ensures.decides.refused
