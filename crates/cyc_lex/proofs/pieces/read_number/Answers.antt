use Rattle.std.proofs.Common.{◌≡◌, ◌∙◌, ◌+◌, refl, sym, ap, subst, true, take, drop}
use Rattle.std.specs.Prelude.{All}
use Rattle.std.specs.List.{prefix_len}
use Rattle.std.proofs.lemmas.List.{take_rest}
use Rattle.std.proofs.lemmas.Result.{IfOk-weaker, IfErr-weaker}
use Rattle.cyc_words.specs.declared.fault.Code.{Code}
use Rattle.cyc_syntax.specs.Spelling.{is_hexadecimal, is_hex_digit, number_in}
use Rattle.cyc_lex.specs.Refusals.{FailsHere}
use Rattle.cyc_lex.proofs.NumberReading.{found_number, large_number, hexadecimal_digits, hexadecimal_inside, hexadecimal_read, decimal_all_digits, decimal_inside, decimal_read}
use Rattle.cyc_lex.proofs.pieces.read_number.Goals as goal
use Rattle.cyc_lex.proofs.pieces.read_number.Goals.{After-hex_digits_len-len}

-- The text begins with a hexadecimal number that has these digits.
hexadecimal : (c : After-hex_digits_len-len) → is_hexadecimal (take 3 c.args.text.now) ≡ true
hexadecimal c = sym c.begins_hexadecimal.ensures ∙ c.if-begins_hexadecimal.true

digits : (c : After-hex_digits_len-len) → c.hex_digits_len-len.result ≡ prefix_len is_hex_digit (drop 2 c.args.text.now)
digits c = c.hex_digits_len-len.ensures.len ∙ ap (prefix_len is_hex_digit) (take_rest c.args.text.now 2)

pub number-requires-clause-digits : goal.number-requires-clause-digits
number-requires-clause-digits c =
    let h = (goal.at.number-requires-clause-digits c).After-hex_digits_len-len in
    subst (λ l. All (λ b. is_hex_digit b ≡ true) (take c.hex_digits_len-len.result l)) (sym (take_rest c.args.text.now 2))
    (hexadecimal_digits c.args.text.now c.hex_digits_len-len.result (digits h) (hexadecimal h))

pub returns-then-begins_hexadecimal-clause-found : goal.returns-then-begins_hexadecimal-clause-found
returns-then-begins_hexadecimal-clause-found c =
    let h = (goal.at.returns-then-begins_hexadecimal-clause-found c).After-hex_digits_len-len in
    let text = c.args.text.now in
    let n = c.hex_digits_len-len.result in
    IfOk-weaker c.number.result _ _
    (λ f p. rw p.3
    (found_number text (2 + n) p.0 (hexadecimal_inside text n (digits h) (hexadecimal h))
    (hexadecimal_read text n (digits h) (hexadecimal h) p.0 (p.1 ∙ ap (λ l. number_in 16 (take n l)) (take_rest text 2))) p.2))
    c.number.ensures.found

pub returns-then-begins_hexadecimal-clause-fails : goal.returns-then-begins_hexadecimal-clause-fails
returns-then-begins_hexadecimal-clause-fails c =
    let h = (goal.at.returns-then-begins_hexadecimal-clause-fails c).After-hex_digits_len-len in
    let text = c.args.text.now in
    let n = c.hex_digits_len-len.result in
    IfErr-weaker c.number.result _ _
    (λ code p. subst (λ (k : Code). FailsHere k text) (sym p.0)
    (large_number text (2 + n) (number_in 16 (take n (drop 2 text)))
    (hexadecimal_read text n (digits h) (hexadecimal h) _ refl) (rw (← take_rest text 2) p.1)))
    c.number.ensures.fails

pub number-requires-2-clause-digits : goal.number-requires-2-clause-digits
number-requires-2-clause-digits c = decimal_all_digits c.args.text.now c.digits_len-len.result c.digits_len-len.ensures.len

pub returns-clause-found : goal.returns-clause-found
returns-clause-found c =
    let text = c.args.text.now in
    let n = c.digits_len-len.result in
    IfOk-weaker c.number-2.result _ _
    (λ f p. rw p.3
    (found_number text n p.0 (decimal_inside text n c.digits_len-len.ensures.len)
    (decimal_read text n c.digits_len-len.ensures.len p.0 c.requires.nonempty c.requires.digit c.if-text-eq48.false p.1) p.2))
    c.number-2.ensures.found

pub returns-clause-fails : goal.returns-clause-fails
returns-clause-fails c =
    let text = c.args.text.now in
    let n = c.digits_len-len.result in
    IfErr-weaker c.number-2.result _ _
    (λ code p. subst (λ (k : Code). FailsHere k text) (sym p.0)
    (large_number text n (number_in 10 (take n text))
    (decimal_read text n c.digits_len-len.ensures.len _ c.requires.nonempty c.requires.digit c.if-text-eq48.false refl) p.1))
    c.number-2.ensures.fails
