-- This file defines how a source position and the line around it are displayed to a user. The display is this project's own choice.
use Rattle.std.specs.Prelude.{◌≡◌, ℕ, ◌+◌, ◌-◌, ◌≤◌, ◌↔◌, ◌==◌, ◌/◌, ◌%◌, ◌&&◌, ◌||◌, Bool, nat_le, min, nat_lt, List, [], ◌∷◌, ◌++◌, length, replicate, take, slice_index_or, drop, codes, if◌then◌else◌, false}
use Rattle.std.specs.List.{flat_map, slice_split}
use Rattle.std.specs.Fmt.{digit_glyph}
use Rattle.std.specs.Char.{encode_utf8}
use Rattle.std.specs.Int.{is_in_range}
use Rattle.std.specs.Str.{chars, is_utf8}
use Rattle.cyc_cli.specs.declared.excerpt.Excerpt.{Excerpt}

-- The lines of a text, without their line feeds.
abbrev pub lines_of : List ℕ → List (List ℕ)
lines_of text = slice_split (λ b. b == 10) text

-- Line `n` of a text, counted from 1, without its line feed; the empty line if the text has fewer than `n` lines.
abbrev pub line_at : List ℕ → ℕ → List ℕ
line_at text n = slice_index_or (lines_of text) (n - 1) []

-- The number of bytes of a line before its column `k`, counted from 1; the length of the line if the column is past its end.
abbrev pub bytes_before : List ℕ → ℕ → ℕ
bytes_before line k = min (k - 1) (length line)

-- A byte as `\x` and two hexadecimal digits.
abbrev pub escaped_byte : ℕ → List ℕ
escaped_byte b = 92 ∷ 120 ∷ digit_glyph false (b / 16) ∷ digit_glyph false (b % 16) ∷ []

-- The display of a single byte: printable ASCII and the tab are unchanged, and a carriage return is a space. Any other byte is escaped, so
-- that no byte of a text controls a terminal.
abbrev pub shown_byte : ℕ → List ℕ
shown_byte b = if b == 9 then 9 ∷ []
    else (if b == 13 then 32 ∷ []
    else (if nat_le 32 b && nat_le b 126 then b ∷ []
    else escaped_byte b))

-- White space as wide as the display of a byte by `shown_byte`: a tab for a tab, otherwise as many spaces as the display has characters.
abbrev pub blank_byte : ℕ → List ℕ
blank_byte b = if b == 9 then 9 ∷ [] else replicate (length (shown_byte b)) 32

-- Holds for the characters beyond ASCII that are invisible, end a line or change the writing direction of a terminal. The hidden
-- characters are Unicode's control characters (Cc) and some format characters (Cf). The hidden format characters include the Arabic
-- letter mark; zero-width spaces and joiners and direction marks (U+200B to 200F); line separators, embeddings and overrides of
-- direction (U+2028 to 202E). The hidden characters include invisible operators and isolates of direction (U+2060 to 206F), the
-- byte-order mark, and the tags.
abbrev pub is_hidden : ℕ → Bool
is_hidden c = is_in_range 0x80 0x9f c || c == 0x61c || is_in_range 0x200b 0x200f c || is_in_range 0x2028 0x202e c
    || is_in_range 0x2060 0x206f c || c == 0xfeff || is_in_range 0xe0000 0xe007f c

-- The display of a character: an ASCII character like its byte, an invisible character by its escaped bytes, any other character unchanged.
abbrev pub shown_char : ℕ → List ℕ
shown_char c = if nat_lt c 128 then shown_byte c
    else (if is_hidden c then flat_map shown_byte (encode_utf8 c)
    else encode_utf8 c)

-- The display of a character in several lines of text; line feeds stay unchanged.
abbrev pub line_char : ℕ → List ℕ
line_char c = if c == 10 then 10 ∷ [] else shown_char c

-- White space for a character, as wide as `shown_char` if each displayed character takes one column.
abbrev pub blank_char : ℕ → List ℕ
blank_char c = if nat_lt c 128 then blank_byte c
    else (if is_hidden c then flat_map blank_byte (encode_utf8 c)
    else 32 ∷ [])

-- The display of bytes: character by character if they are UTF-8, otherwise byte by byte.
abbrev pub shown_bytes : List ℕ → List ℕ
shown_bytes bs = if is_utf8 bs then flat_map shown_char (chars bs) else flat_map shown_byte bs

abbrev pub blank_bytes : List ℕ → List ℕ
blank_bytes bs = if is_utf8 bs then flat_map blank_char (chars bs) else flat_map blank_byte bs

-- The largest number of bytes of a line that an excerpt shows.
abbrev pub most_shown : ℕ
most_shown = 72

-- The dots that stand for `n` omitted bytes.
abbrev pub dots : ℕ → List ℕ
dots n = if n == 0 then [] else codes "..."

-- The largest number of bytes of a file's name that are shown.
abbrev pub most_name : ℕ
most_name = 512

-- The display of a file's name: its last bytes, with dots before them if bytes are omitted.
abbrev pub name_text : List ℕ → List ℕ
name_text name = dots (length name - most_name) ++ shown_bytes (drop (length name - most_name) name)

-- Says that an excerpt shows a line around a source position with `place` bytes before it. The excerpt is a contiguous part of the line,
-- split at the source position; it is the complete line if the line has at most `most_shown` bytes. Dots stand for the bytes omitted at
-- either end of the line.
pub record IsExcerpt (line : List ℕ) (place : ℕ) (e : Excerpt) : Type 0 where
  pub left_out : ℕ
  pub right_out : ℕ
  pub before : e.before.now ≡ drop left_out (take place line)
  pub after : e.after.now ≡ take (length line - right_out - place) (drop place line)
  pub reaches_place : left_out + length e.before.now ≡ place
  pub from_place : place + length e.after.now + right_out ≡ length line
  pub narrow : length e.before.now + length e.after.now ≤ most_shown
  pub whole : length line ≤ most_shown → (left_out ≡ 0) × (right_out ≡ 0)
  pub lead : e.lead.now ≡ dots left_out
  pub trail : e.trail.now ≡ dots right_out

-- The two lines of an excerpt: the shown part of the line, and below it a mark under the first byte from the position on.
abbrev pub excerpt_text : Excerpt → List ℕ
excerpt_text e = codes "    " ++ (e.lead.now ++ (shown_bytes e.before.now ++ (shown_bytes e.after.now ++ (e.trail.now
    ++ (10 ∷ codes "    " ++ (blank_bytes e.lead.now ++ (blank_bytes e.before.now ++ codes "^\n")))))))
