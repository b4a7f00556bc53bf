-- This file has lemmas about the number that the lexer reads at the start of a text.
use Rattle.std.proofs.Common.{◌≡◌, ◌≢◌, ℕ, suc, ◌+◌, ◌<◌, ◌≤◌, true, ◌&&◌, ◌||◌, eqb, Some, inl, inr, ⊎_elim, List, [], ◌∷◌, ◌++◌, length, get_or, take, drop, refl, sym, ap, ◌∙◌, arith}
use Rattle.std.specs.Prelude.{All}
use Rattle.std.specs.List.{list_all, prefix_len}
use Rattle.std.proofs.lemmas.Bool.{true≢false, cond-true, and_from, and_parts, or_left, eqb-true, eq-eqb}
use Rattle.std.proofs.lemmas.Bool.Decides.{nat_tests}
use Rattle.std.proofs.lemmas.List.{take-append-drop, length-drop, length-take-le}
use Rattle.std.proofs.lemmas.List.Elements.{All-weaker}
use Rattle.std.proofs.lemmas.List.Sums.{prefix_len-le-length, AllPass-from_list_all}
use Rattle.std.proofs.Math.Numerals.{one-add}
use Rattle.cyc_words.specs.declared.fault.Code.TheVariants as codes
use Rattle.cyc_words.proofs.Lists.{get_or_first}
use Rattle.cyc_words.proofs.Searches.{prefix_len-passes, prefix_len-at_least}
use Rattle.cyc_syntax.specs.declared.tokens.TokenKind.TheVariants as kinds
use Rattle.cyc_syntax.specs.Spelling.{is_between, is_digit, is_hex_digit, is_decimal, is_hexadecimal, number_in, Lexeme}
use Rattle.cyc_syntax.specs.Tokens.{Number}
use Rattle.cyc_syntax.specs.TokenRule.{IsRead, max_number}
use Rattle.cyc_syntax.proofs.PieceLemmas.{AtNumber, start_of, digit_starts, leading_digit}
use Rattle.cyc_lex.specs.inside.Found.{IsFound}
use Rattle.cyc_lex.specs.Refusals.{FailsHere}
use Rattle.cyc_lex.proofs.ShapeLemmas.{Shape, read_at}

-- A number at the start of a text is read with its value, or rejected as too large.
pub found_number : (text : List ℕ) (n v : ℕ) → n ≤ length text → IsRead (Lexeme (Number v)) (take n text) (drop n text) → v ≤ max_number
    → IsFound text (Some (kinds.Number v)) n
found_number text n v within read small = record { within = within; piece = (read, small) }

pub large_number : (text : List ℕ) (n v : ℕ) → IsRead (Lexeme (Number v)) (take n text) (drop n text) → max_number < v
    → FailsHere codes.NumberTooLarge text
large_number text n v read large = (v, (take n text, drop n text, sym (take-append-drop n text), read), large)

-- The bytes `0x` followed by at least one hexadecimal digit are a hexadecimal number.

hexadecimal_from : (b c : ℕ) (digits : List ℕ) → b ≡ 48 → (eqb c 120 || eqb c 88) ≡ true → list_all is_hex_digit digits ≡ true → 0 < length digits
    → is_hexadecimal (b ∷ c ∷ digits) ≡ true
hexadecimal_from b c [] zero_first x digits some = absurd (omega arith)
hexadecimal_from b c (d ∷ ds) zero_first x digits some = and_from _ _ (and_from _ _ (eq-eqb b 48 zero_first) x) digits

-- A hexadecimal number consists of `0`, then `x` or `X`, and then hexadecimal digits.
record IsHex (bytes : List ℕ) : Type 0 where
  first : get_or bytes 0 0 ≡ 48
  second : (eqb (get_or bytes 1 0) 120 || eqb (get_or bytes 1 0) 88) ≡ true
  digits : list_all is_hex_digit (drop 2 bytes) ≡ true
  long : 3 ≤ length bytes

hexadecimal_parts : (bytes : List ℕ) → is_hexadecimal bytes ≡ true → IsHex bytes
hexadecimal_parts [] hex = absurd (true≢false (sym hex))
hexadecimal_parts (b ∷ []) hex = absurd (true≢false (sym hex))
hexadecimal_parts (b ∷ c ∷ []) hex = absurd (true≢false (sym hex))
hexadecimal_parts (b ∷ c ∷ d ∷ ds) hex =
    let parts = and_parts (eqb b 48 && (eqb c 120 || eqb c 88)) (list_all is_hex_digit (d ∷ ds)) hex in
    let head = and_parts (eqb b 48) (eqb c 120 || eqb c 88) parts.0 in
    record { first = eqb-true b 48 head.0; second = head.1; digits = parts.1; long = omega arith }

-- A decimal number whose first digit is 0 is the number 0.
decimal_zero : (bytes : List ℕ) → is_decimal bytes ≡ true → get_or bytes 0 0 ≡ 48 → length bytes ≤ 1
decimal_zero [] decimal first = omega arith
decimal_zero (b ∷ []) decimal first = omega arith
decimal_zero (b ∷ c ∷ bs) decimal first =
    absurd (true≢false (sym (and_parts _ _ decimal).0 ∙ ap (is_between 49 57) first))

hexadecimal_bound : (text front rest : List ℕ) → text ≡ front ++ rest → get_or text 0 0 ≡ 48 → Shape AtNumber front
    → length front ≤ 2 + prefix_len is_hex_digit (drop 2 text)
hexadecimal_bound text [] rest whole first shape = omega arith
hexadecimal_bound text (b ∷ []) rest whole first shape = omega arith
hexadecimal_bound text (b ∷ c ∷ bs) rest whole first shape =
    ⊎_elim
    (λ decimal. absurd (omega (arith, decimal_zero (b ∷ c ∷ bs) decimal (get_or_first text (b ∷ c ∷ bs) rest whole (omega arith) ∙ first))))
    (λ hex. omega (arith, prefix_len-at_least is_hex_digit (drop 2 text) bs rest (ap (drop 2) whole) (hexadecimal_parts (b ∷ c ∷ bs) hex).digits))
    shape

-- Says that the text begins with `0x` or `0X` and a hexadecimal digit.
record BeginsHex (text : List ℕ) : Type 0 where
  first : get_or text 0 0 ≡ 48
  second : (eqb (get_or text 1 0) 120 || eqb (get_or text 1 0) 88) ≡ true
  some : 0 < prefix_len is_hex_digit (drop 2 text)
  cut : (n : ℕ) → take (2 + n) text ≡ 48 ∷ get_or text 1 0 ∷ take n (drop 2 text)

begins_hex : (text : List ℕ) → is_hexadecimal (take 3 text) ≡ true → BeginsHex text
begins_hex [] hex = absurd (true≢false (sym hex))
begins_hex (b ∷ []) hex = absurd (true≢false (sym hex))
begins_hex (b ∷ c ∷ []) hex = absurd (true≢false (sym hex))
begins_hex (b ∷ c ∷ d ∷ ds) hex =
    let parts = hexadecimal_parts (b ∷ c ∷ d ∷ []) hex in
    let digit : is_hex_digit d ≡ true = (and_parts (is_hex_digit d) true parts.digits).0 in
    let run : prefix_len is_hex_digit (d ∷ ds) ≡ 1 + prefix_len is_hex_digit ds = cond-true (is_hex_digit d) (1 + prefix_len is_hex_digit ds) 0 digit in
    record {
      first = parts.first;
      second = parts.second;
      some = omega (arith, run);
      cut = λ n. let two : 2 + n ≡ suc (suc n) = omega arith in ap (λ k. take k (b ∷ c ∷ d ∷ ds)) two ∙ ap (λ x. x ∷ c ∷ take n (d ∷ ds)) parts.first;
    }

module _ (text : List ℕ) (n : ℕ) (len : n ≡ prefix_len is_hex_digit (drop 2 text)) (hex : is_hexadecimal (take 3 text) ≡ true) where
  begins : BeginsHex text
  begins = begins_hex text hex

  pub hexadecimal_inside : 2 + n ≤ length text
  hexadecimal_inside =
      let run = prefix_len-le-length is_hex_digit (drop 2 text) in
      let some = begins.some in
      omega (arith, len, run, some, length-drop 2 text)

  pub hexadecimal_read : (v : ℕ) → v ≡ number_in 16 (take n (drop 2 text)) → IsRead (Lexeme (Number v)) (take (2 + n) text) (drop (2 + n) text)
  hexadecimal_read v value =
      let digits = ap (λ k. list_all is_hex_digit (take k (drop 2 text))) len ∙ prefix_len-passes is_hex_digit (drop 2 text) in
      let inside = hexadecimal_inside in
      let some = begins.some in
      let size = length-take-le n (drop 2 text) (omega (arith, length-drop 2 text, inside)) in
      read_at (Lexeme (Number v)) AtNumber text (2 + n) (ap start_of begins.first) inside
      (inr (
        ap is_hexadecimal (begins.cut n) ∙ hexadecimal_from 48 (get_or text 1 0) (take n (drop 2 text)) refl begins.second digits (omega (arith, size, some, len)),
        value ∙ ap (λ l. number_in 16 (drop 2 l)) (sym (begins.cut n)),
      ))
      (λ front rest whole shape. rw len (hexadecimal_bound text front rest whole begins.first shape))

  -- the n bytes after `0x` are hexadecimal digits
  pub hexadecimal_digits : All (λ b. is_hex_digit b ≡ true) (take n (drop 2 text))
  hexadecimal_digits = AllPass-from_list_all is_hex_digit _ (ap (λ k. list_all is_hex_digit (take k (drop 2 text))) len ∙ prefix_len-passes is_hex_digit (drop 2 text))

-- a decimal number consists of decimal digits

decimal_digits : (bytes : List ℕ) → is_decimal bytes ≡ true → list_all is_digit bytes ≡ true
decimal_digits [] decimal = absurd (true≢false (sym decimal))
decimal_digits (b ∷ []) decimal = and_from _ _ decimal refl
decimal_digits (b ∷ c ∷ bs) decimal =
    let parts = and_parts (is_between 49 57 b) (list_all is_digit (c ∷ bs)) decimal in
    and_from _ _ (leading_digit b parts.0) parts.1

decimal_from : (b : ℕ) (bs : List ℕ) → is_digit b ≡ true → b ≢ 48 → list_all is_digit bs ≡ true → is_decimal (b ∷ bs) ≡ true
decimal_from b [] digit nonzero digits = digit
decimal_from b (c ∷ bs) digit nonzero digits = and_from _ _ (leading b digit nonzero) digits
  where
    leading : (b : ℕ) → is_digit b ≡ true → b ≢ 48 → is_between 49 57 b ≡ true
    leading b digit nonzero = grind (arith, nat_tests)

digit_hex_digit : (b : ℕ) → is_digit b ≡ true → is_hex_digit b ≡ true
digit_hex_digit b digit = or_left _ _ (or_left _ _ digit)

decimal_run : (text : List ℕ) → 0 < length text → is_digit (get_or text 0 0) ≡ true → get_or text 0 0 ≢ 48
    → is_decimal (take (prefix_len is_digit text) text) ≡ true
decimal_run [] within digit nonzero = absurd (omega arith)
decimal_run (b ∷ bs) within digit nonzero =
    ap (λ n. is_decimal (take n (b ∷ bs))) (cond-true (is_digit b) (1 + prefix_len is_digit bs) 0 digit)
    ∙ rw one-add (decimal_from b (take (prefix_len is_digit bs) bs) digit nonzero (prefix_len-passes is_digit bs))

decimal_bound : (text front rest : List ℕ) → text ≡ front ++ rest → get_or text 0 0 ≢ 48 → Shape AtNumber front
    → length front ≤ prefix_len is_digit text
decimal_bound text front rest whole nonzero shape =
    ⊎_elim
    (λ decimal. prefix_len-at_least is_digit text front rest whole (decimal_digits front decimal))
    (λ hex.
    let parts = hexadecimal_parts front hex in
    absurd (nonzero (sym (get_or_first text front rest whole (omega (arith, parts.long))) ∙ parts.first)))
    shape

module _ (text : List ℕ) (n : ℕ) (len : n ≡ prefix_len is_digit text) where
  pub decimal_inside : n ≤ length text
  decimal_inside = rw len (prefix_len-le-length is_digit text)

  pub decimal_read : (v : ℕ) → 0 < length text → is_digit (get_or text 0 0) ≡ true → get_or text 0 0 ≢ 48 → v ≡ number_in 10 (take n text)
      → IsRead (Lexeme (Number v)) (take n text) (drop n text)
  decimal_read v within digit nonzero value =
      read_at (Lexeme (Number v)) AtNumber text n (digit_starts (get_or text 0 0) digit) decimal_inside
      (inl (ap (λ k. is_decimal (take k text)) len ∙ decimal_run text within digit nonzero, value))
      (λ front rest whole shape. rw len (decimal_bound text front rest whole nonzero shape))

  pub decimal_all_digits : All (λ b. is_hex_digit b ≡ true) (take n text)
  decimal_all_digits =
      All-weaker (λ b. is_digit b ≡ true) (λ b. is_hex_digit b ≡ true) digit_hex_digit _
      (AllPass-from_list_all is_digit _ (ap (λ k. list_all is_digit (take k text)) len ∙ prefix_len-passes is_digit text))
