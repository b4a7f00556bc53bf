use Rattle.std.proofs.Common.{◌++◌, Some, None, ◌≡◌, ◌∙◌, ◌+◌, ◌-◌, ◌≤◌, ◌<◌, true, get_or, length, take, drop, inr, refl, sym, ap, subst, arith}
use Rattle.std.proofs.lemmas.List.{take_rest, length-drop, length-take-le, get_or-drop}
use Rattle.cyc_words.specs.declared.fault.Code.TheVariants as codes
use Rattle.cyc_words.specs.declared.span.Span.{Span}
use Rattle.cyc_syntax.specs.Spelling.{is_space}
use Rattle.cyc_syntax.specs.TokenRule.{max_tokens}
use Rattle.cyc_syntax.specs.Tokens.{kind_of}
use Rattle.cyc_syntax.specs.inside.Place.{IsAfter}
use Rattle.cyc_lex.specs.inside.Found.{IsFound, IsReadAs}
use Rattle.cyc_lex.specs.Refusals.{FailsHere, IsFirstFault}
use Rattle.cyc_lex.proofs.FaultLemmas.{fails_first, too_many_first}
use Rattle.cyc_lex.proofs.LexLemmas.{IsReadUpTo, tokens_within, found_some, found_space, blank_read, token_read}
use Rattle.cyc_lex.proofs.LineLemmas.{token_stays, after_one_line}
use Rattle.cyc_lex.proofs.lexer.read_tokens.Goals as goal
use Rattle.cyc_lex.proofs.lexer.read_tokens.Goals.{In-Ok}

-- The piece (token, space or comment) that was read at `start`.
found : (c : In-Ok) → IsFound (drop c.loop-start.start c.args.text.now) c.in-Ok.found.kind c.in-Ok.found.len
found c = rw (← take_rest c.args.text.now c.loop-start.start) c.in-Ok.ensures.found

pub returns-in-Err-clause-refused : goal.returns-in-Err-clause-refused
returns-in-Err-clause-refused c =
    let text = c.args.text.now in
    let start = c.loop-start.start in
    let is : c.new.result ≡ record { code = c.in-Err.code; line = c.loop-start.place.line; column = c.loop-start.place.column } =
    (λ i. record { code = c.new.ensures.code i; line = c.new.ensures.line i; column = c.new.ensures.column i }) in
    let fails : FailsHere c.in-Err.code (drop start text) = subst (FailsHere c.in-Err.code) (take_rest text start) c.in-Err.ensures.fails in
    inr (inr (c.requires, subst (IsFirstFault text) (sym is) (fails_first text c.loop-start.tokens.items start c.loop-start.place c.loop-start.invariant c.in-Err.code fails)))

pub returns-then-len-eq-MAX_TOKENS-clause-refused : goal.returns-then-len-eq-MAX_TOKENS-clause-refused
returns-then-len-eq-MAX_TOKENS-clause-refused c =
    let text = c.args.text.now in
    let start = c.loop-start.start in
    let new = c.new-then-len-eq-MAX_TOKENS in
    let is : new.result ≡ record { code = codes.TooManyTokens; line = c.loop-start.place.line; column = c.loop-start.place.column } =
    (λ i. record { code = new.ensures.code i; line = new.ensures.line i; column = new.ensures.column i }) in
    let token : IsFound (drop start text) (Some c.in-Some.kind) c.in-Ok.found.len =
    subst (λ k. IsFound (drop start text) k c.in-Ok.found.len) c.in-Some.is (found (goal.at.returns-then-len-eq-MAX_TOKENS-clause-refused c).In-Ok) in
    let many : max_tokens ≤ length c.loop-start.tokens.items = omega (arith, c.loop-start.tokens.ok.0) in
    inr (inr (c.requires, subst (IsFirstFault text) (sym is) (too_many_first text c.loop-start.tokens.items start c.loop-start.place c.loop-start.invariant c.in-Some.kind c.in-Ok.found.len token many)))

pub loop-start-smaller-in_ok-push : goal.loop-start-smaller-in_ok-push
loop-start-smaller-in_ok-push c =
    let some = found_some _ _ _ (found (goal.at.loop-start-smaller-in_ok-push c).In-Ok) in
    omega arith

-- The lexer skips a space.
pub loop-start-preserved-then-is_space : goal.loop-start-preserved-then-is_space
loop-start-preserved-then-is_space c =
    let text = c.args.text.now in
    let start = c.loop-start.start in
    let done = c.loop-start.invariant in
    let some : 0 < length (drop start text) = omega (arith, length-drop start text, c.loop-start-test.true) in
    let zero : start + 0 ≡ start = omega arith in
    let space : is_space (get_or (drop start text) 0 0) ≡ true = ap is_space (get_or-drop start text 0 0) ∙ ap (λ n. is_space (get_or text n 0)) zero ∙ sym c.is_space.ensures ∙ c.if-is_space.true in
    let here = found_space (drop start text) some space in
    let count : start + 1 - start ≡ 1 = omega arith in
    let next : IsAfter c.place_after-place.result (take start text ++ take 1 (drop start text)) =
    subst (λ n. IsAfter c.place_after-place.result (take start text ++ take n (drop start text))) count (c.place_after-place.ensures (take start text) done.following) in
    blank_read text c.loop-start.tokens.items start 1 c.loop-start.place c.place_after-place.result done here.within next here.piece

-- A token lies completely on the line on which it begins.
pub loop-start-preserved-in_ok-push : goal.loop-start-preserved-in_ok-push
loop-start-preserved-in_ok-push c =
    let text = c.args.text.now in
    let start = c.loop-start.start in
    let len = c.in-Ok.found.len in
    let tokens = c.loop-start.tokens.items in
    let place = c.loop-start.place in
    let done = c.loop-start.invariant in
    let here = found (goal.at.loop-start-preserved-in_ok-push c).In-Ok in
    let bytes = take len (drop start text) in
    let kind = c.in-Some.kind in
    let piece : IsReadAs (Some kind) bytes (drop len (drop start text)) = subst (λ k. IsReadAs k bytes (drop len (drop start text))) c.in-Some.is here.piece in
    let following : Span = record { line = place.line; column = place.column + len } in
    let next : IsAfter following (take start text ++ bytes) =
    after_one_line place following (take start text) bytes (token_stays (kind_of bytes kind) bytes piece.0.spelled) refl (ap (λ n. place.column + n) (sym (length-take-le len (drop start text) here.within))) done.following in
    let most = tokens_within text tokens start place done in
    let room : length tokens < max_tokens = omega (arith, c.loop-start.tokens.ok.0) in
    subst (λ ts. IsReadUpTo text ts (start + len) following) (sym c.in_ok-push.ensures.items)
    (token_read text tokens start len place following done here.within next kind room (found_some _ _ _ here) piece)

-- A space or a comment may contain line feeds.
pub loop-start-preserved : goal.loop-start-preserved
loop-start-preserved c =
    let text = c.args.text.now in
    let start = c.loop-start.start in
    let len = c.in-Ok.found.len in
    let done = c.loop-start.invariant in
    let here = found (goal.at.loop-start-preserved c).In-Ok in
    let place = c.place_after-place-in_default.result in
    let count : start + len - start ≡ len = omega arith in
    let next : IsAfter place (take start text ++ take len (drop start text)) =
    subst (λ n. IsAfter place (take start text ++ take n (drop start text))) count (c.place_after-place-in_default.ensures (take start text) done.following) in
    let piece : IsReadAs None (take len (drop start text)) (drop len (drop start text)) =
    subst (λ k. IsReadAs k (take len (drop start text)) (drop len (drop start text))) c.in_default.is here.piece in
    blank_read text c.loop-start.tokens.items start len c.loop-start.place place done here.within next piece
