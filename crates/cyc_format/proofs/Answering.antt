-- If the comparison of tokens in the formatter gives a correct result, the contract of the formatter is satisfied.
use Rattle.std.proofs.Common.{◌≡◌, ◌∙◌, ℕ, List, map, Ok, sym, ap}
use Rattle.cyc_words.proofs.Decisions.{decides}
use Rattle.cyc_words.specs.Decision.{Decides}
use Rattle.cyc_syntax.specs.declared.tokens.Token.{Token as CodeToken}
use Rattle.cyc_syntax.specs.Tokens.{Token, spelling_of, token_of}
use Rattle.cyc_syntax.specs.TokenRule.{AreTokensOf}
use Rattle.cyc_lex.specs.Refusals.{IsAccepted, IsRefused}
use Rattle.cyc_lex.proofs.AnswerLemmas.{text_is_decided}
use Rattle.cyc_format.specs.Formatted.{HasSameTokens, kinds_of}
use Rattle.cyc_format.proofs.SameTokens.{same_kinds}

module _ {X : Type 0} (view : X → List ℕ) (text : List ℕ) where
  -- If a formatted text has the tokens of the original, it is a correct result.
  pub laid_out : (x : X) (tokens others : List Token) → IsAccepted text tokens → IsAccepted (view x) others → kinds_of others ≡ kinds_of tokens
      → Decides (IsAccepted text) (λ ts y. HasSameTokens ts (view y)) (IsRefused text) (IsRefused text) (Ok x)
  laid_out x tokens others accepted also same =
      decides (IsAccepted text) (λ ts y. HasSameTokens ts (view y)) (IsRefused text) (IsRefused text) (text_is_decided text) (Ok x) (tokens, accepted, (others, also, same)) tt

  -- If the tokens of the result were compared with those of the text and are equal, the result is correct.
  pub kept : (x : X) (ts us : List CodeToken) → (a : List Token) × IsAccepted text a × (map (token_of text) ts ≡ a) → AreTokensOf text ts
      → (b : List Token) × IsAccepted (view x) b × (map (token_of (view x)) us ≡ b) → AreTokensOf (view x) us
      → map (spelling_of text) ts ≡ map (spelling_of (view x)) us
      → Decides (IsAccepted text) (λ ts y. HasSameTokens ts (view y)) (IsRefused text) (IsRefused text) (Ok x)
  kept x ts us (a, accepted, is) tokens (b, also, are) others alike =
      laid_out x a b accepted also (ap kinds_of (sym are) ∙ same_kinds text (view x) ts us tokens.places others.places alike ∙ ap kinds_of is)
