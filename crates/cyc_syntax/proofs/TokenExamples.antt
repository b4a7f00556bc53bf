-- Examples of the definitions of names and tokens, proved by computation.
use Rattle.std.specs.Prelude.{◌≡◌, true, false, Some, List, [], ◌∷◌, ◌++◌, codes, refl}
use Rattle.cyc_syntax.specs.declared.tokens.Keyword.TheVariants as words
use Rattle.cyc_syntax.specs.declared.tokens.Sign.TheVariants as signs
use Rattle.cyc_syntax.specs.Names.{distinct_texts, number_of}
use Rattle.cyc_syntax.specs.Spelling.{is_name, is_decimal, is_hexadecimal, number_in, escaped, SpellsToken, Lexeme, Space}
use Rattle.cyc_syntax.specs.Tokens.{Token, Identifier, Word, Mark}
use Rattle.cyc_syntax.specs.TokenRule.{Part, line_after, column_after, tokens_of}

names : (is_name (codes "_x1") ≡ true) × (is_name (codes "1x") ≡ false)
names = (refl, refl)

-- Example: `0` is a decimal number, but `08` and `0x` are not numbers.
numbers : (is_decimal (codes "0") ≡ true) × (is_decimal (codes "08") ≡ false) × (is_hexadecimal (codes "0x") ≡ false)
numbers = (refl, refl, refl)

values : (number_in 10 (codes "2147483648") ≡ 2147483648) × (number_in 16 (codes "1fA") ≡ 506)
values = (refl, refl)

-- Example: the escape sequence `\n` denotes a line feed.
escapes : escaped 110 ≡ Some 10
escapes = refl

keyword : SpellsToken (Word words.RegionType) (codes "region_t")
keyword = refl

-- Example: the position after `ab`, a line feed and `c` is line 2, column 2.
places : (line_after (codes "ab" ++ (10 ∷ codes "c")) ≡ 2) × (column_after (codes "ab" ++ (10 ∷ codes "c")) ≡ 2)
places = (refl, refl)

-- Example: the tokens and spaces of which the text `int x;` consists, and the list of its tokens.
parts : List Part
parts =
    record { piece = Lexeme (Word words.Int); bytes = codes "int" }
    ∷ record { piece = Space; bytes = codes " " }
    ∷ record { piece = Lexeme (Identifier (codes "x")); bytes = codes "x" }
    ∷ record { piece = Lexeme (Mark signs.Semicolon); bytes = codes ";" }
    ∷ []

tokens : List Token
tokens =
    record { kind = Word words.Int; line = 1; column = 1 }
    ∷ record { kind = Identifier (codes "x"); line = 1; column = 5 }
    ∷ record { kind = Mark signs.Semicolon; line = 1; column = 6 }
    ∷ []

tokens_of-parts : tokens_of [] parts ≡ tokens
unfolding parts tokens
tokens_of-parts = refl

numbering : (distinct_texts (codes "a" ∷ codes "b" ∷ codes "a" ∷ []) ≡ codes "a" ∷ codes "b" ∷ []) × (number_of (codes "a" ∷ codes "b" ∷ []) (codes "b") ≡ 1)
numbering = (refl, refl)
