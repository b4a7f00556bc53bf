-- The line and the column of a position after one more byte.
use Rattle.std.proofs.Common.{◌≡◌, ℕ, ◌+◌, ◌-◌, false, not, cond, eqb, List, [], ◌∷◌, ◌++◌, length, sym, ap, ◌∙◌, arith}
use Rattle.std.specs.List.{suffix_len, prefix_len, count_by}
use Rattle.std.proofs.lemmas.List.{length-drop, reverse-append}
use Rattle.std.proofs.lemmas.List.Sums.{suffix_len-le-length, sum_by_push}
use Rattle.cyc_words.specs.declared.span.Span.{Span}
use Rattle.cyc_syntax.specs.inside.Place.{IsAfter}
use Rattle.cyc_syntax.specs.Spelling.{is_line_feed}
use Rattle.cyc_syntax.specs.TokenRule.{line_after, column_after}

-- The column after some bytes is the number of bytes since the last line feed, plus one.
column_is : (front : List ℕ) → column_after front ≡ suffix_len (λ b. not (is_line_feed b)) front + 1
column_is front =
    let cut = length-drop (length front - suffix_len (λ b. not (is_line_feed b)) front) front in
    let within = suffix_len-le-length (λ b. not (is_line_feed b)) front in
    omega (arith, cut, within)

suffix_push : (front : List ℕ) (b : ℕ) → suffix_len (λ b. not (is_line_feed b)) (front ++ b ∷ []) ≡ cond (not (is_line_feed b)) (1 + suffix_len (λ b. not (is_line_feed b)) front) 0
suffix_push front b = ap (prefix_len (λ b. not (is_line_feed b))) (reverse-append front (b ∷ []))

-- A line feed increases the line number by one.
pub line_after-line_feed : (front : List ℕ) (b : ℕ) → b ≡ 10 → line_after (front ++ b ∷ []) ≡ line_after front + 1
line_after-line_feed front b is = ap (λ n. n + 1) (sum_by_push (λ x. cond (is_line_feed x) 1 0) front b ∙ ap (λ c. count_by is_line_feed front + cond (eqb c 10) 1 0) is)

pub column_after-line_feed : (front : List ℕ) (b : ℕ) → b ≡ 10 → column_after (front ++ b ∷ []) ≡ 1
column_after-line_feed front b is =
    column_is (front ++ b ∷ []) ∙ ap (λ n. n + 1) (suffix_push front b ∙ ap (λ c. cond (not (eqb c 10)) (1 + suffix_len (λ b. not (is_line_feed b)) front) 0) is)

-- A byte other than a line feed leaves the line number unchanged and increases the column by one.
pub line_after-other : (front : List ℕ) (b : ℕ) → eqb b 10 ≡ false → line_after (front ++ b ∷ []) ≡ line_after front
line_after-other front b other =
    ap (λ n. n + 1) (sum_by_push (λ x. cond (is_line_feed x) 1 0) front b ∙ ap (λ c. count_by is_line_feed front + cond c 1 0) other ∙ omega arith)

pub column_after-other : (front : List ℕ) (b : ℕ) → eqb b 10 ≡ false → column_after (front ++ b ∷ []) ≡ column_after front + 1
column_after-other front b other =
    column_is (front ++ b ∷ [])
    ∙ ap (λ n. n + 1) (suffix_push front b ∙ ap (λ c. cond (not c) (1 + suffix_len (λ b. not (is_line_feed b)) front) 0) other)
    ∙ omega (arith, column_is front)

-- If the code advances a source position by one byte, the result is the position after the bytes read so far.
pub after_line_feed : (place next : Span) (front : List ℕ) (b : ℕ) → b ≡ 10 → next.line ≡ place.line + 1 → next.column ≡ 1
    → IsAfter place front → IsAfter next (front ++ b ∷ [])
after_line_feed place next front b is line column following = record {
  line = line ∙ ap (λ n. n + 1) following.line ∙ sym (line_after-line_feed front b is);
  column = column ∙ sym (column_after-line_feed front b is);
}

pub after_other : (place next : Span) (front : List ℕ) (b : ℕ) → eqb b 10 ≡ false → next.line ≡ place.line → next.column ≡ place.column + 1
    → IsAfter place front → IsAfter next (front ++ b ∷ [])
after_other place next front b other line column following = record {
  line = line ∙ following.line ∙ sym (line_after-other front b other);
  column = column ∙ ap (λ n. n + 1) following.column ∙ sym (column_after-other front b other);
}
