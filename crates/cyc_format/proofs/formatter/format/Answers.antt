use Rattle.std.proofs.Common.{◌≡◌, ◌∙◌, ℕ, List, map, sym, ap, subst}
use Rattle.cyc_syntax.specs.Tokens.{Token, spelling_of, token_of}
use Rattle.cyc_syntax.specs.TokenRule.{AreTokensOf}
use Rattle.cyc_lex.specs.Refusals.{IsAccepted}
use Rattle.cyc_format.proofs.Answering.{kept}
use Rattle.cyc_format.proofs.formatter.format.Goals as goal

pub returns-then-same : goal.returns-then-same
returns-then-same c =
    let text = c.args.text.now in
    let read = c.as_slice-read.ensures.value in
    let written = c.as_slice-written.ensures.value in
    let found = c.as_slice-found.ensures.value in
    let laid = c.in-Some.laid.items in
    let others = c.in-Ok.others.items in
    let alike : map (spelling_of text) c.in_ok-tokens.tokens.items ≡ map (spelling_of laid) others =
    ap (map (spelling_of text)) (sym read) ∙ c.are_spelled_alike-same.ensures c.if-same.true
    ∙ ap (λ (l : List ℕ). map (spelling_of l) c.as_slice-found.result.now) written ∙ ap (map (spelling_of laid)) found in
    kept (λ v. v.items) text c.in-Some.laid c.in_ok-tokens.tokens.items others c.in_ok-tokens.ensures.decides.accepted c.in_ok-tokens.ensures.lie
    (subst (λ (l : List ℕ). (b : List Token) × IsAccepted l b × (map (token_of l) others ≡ b)) written c.in-Ok.ensures.decides.accepted)
    (subst (λ (l : List ℕ). AreTokensOf l others) written c.in-Ok.ensures.lie) alike
