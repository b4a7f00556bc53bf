-- Laws of the positions of lines in the assembled text.
use Rattle.std.proofs.Common.{◌≡◌, ℕ, zero, suc, ◌+◌, ◌-◌, ◌≤◌, ◌<◌, List, [], ◌∷◌, ◌++◌, length, get_or, take, Bool, true, false, cond, nat_le, Option, None, Some, append-nil, refl, sym, ap, subst, ◌∙◌, arith, inl, inr}
use Rattle.std.specs.Prelude.{slice_get}
use Rattle.std.specs.List.{range_with_len, flat_map}
use Rattle.std.proofs.Math.Seq.{take-suc}
use Rattle.std.proofs.lemmas.Bool.{leb-true, cases_lt}
use Rattle.std.proofs.lemmas.Grind.{flat_map-append}
use Rattle.std.proofs.lemmas.List.{take_all}
use Rattle.std.proofs.lemmas.List.Sums.{sum_by-append}
use Rattle.std.proofs.lemmas.Option.{slice_get_within, get_or_from_slice_get, slice_get-get_or}
use Rattle.cyc_words.proofs.Booleans.{and_right, and_left}
use Rattle.cyc_words.proofs.Ranges.{range_push}
use Rattle.cyc_machine_model.specs.State.{text_base}
use Rattle.cyc_isa.specs.declared.instr.Instr.{Instr}
use Rattle.cyc_select.specs.declared.code.Condition.{Condition}
use Rattle.cyc_select.specs.declared.code.Line.{Line}
use Rattle.cyc_select.specs.declared.code.Line.TheVariants as lines
use Rattle.cyc_select.specs.inside.Labelled.{Labelled, Fits, IsReturnPoint, AreAddresses, words_of, all_words}
use Rattle.cyc_asm.specs.declared.constants.TheConstants.{MAX_REACH}
use Rattle.cyc_asm.specs.inside.Slots.{is_unreached, filling}
use Rattle.cyc_asm.specs.inside.Layout.{most_before, is_near, head_width, tail_width, width_of, width_in, width_at, position, addresses_in}
use Rattle.cyc_asm.specs.inside.Text.{stretch, own}
use Rattle.cyc_asm.proofs.Fillings.{call_reached}
use Rattle.cyc_asm.proofs.Stretches.{own-stretch, stretch-append}

-- If an index is below the number of lines, a line with this index exists.
pub line_there : (code : List Line) (number : ℕ) → number < length code → (line : Line) × (slice_get code number ≡ Some line)
line_there code number below = (_, slice_get-get_or code number lines.Return below)

pub head_width-most : (o : Option Instr) → head_width o ≤ 1
head_width-most (Some i) = omega arith
head_width-most None = omega arith

tail_width-most : (near : Bool) → tail_width near ≤ 3
tail_width-most true = omega arith
tail_width-most false = omega arith

tail_width-some : (near : Bool) → 0 < tail_width near
tail_width-some true = omega arith
tail_width-some false = omega arith

-- A line takes at most as many words as `words_of` allows for it.
pub width_of-most : (code : List Line) (number : ℕ) (line : Line) → width_of code number line ≤ words_of line
width_of-most code number (lines.Ordinary i) = omega arith
width_of-most code number (lines.Branch condition label) = omega (arith, head_width-most (filling code number), tail_width-most (is_near code number label))
width_of-most code number (lines.Jump label) = omega (arith, head_width-most (filling code number))
width_of-most code number (lines.Call label) = omega (arith, head_width-most (filling code number))
width_of-most code number lines.Return = omega (arith, head_width-most (filling code number))

pub width_of-some : (code : List Line) (number : ℕ) (line : Line) → 0 < width_of code number line
width_of-some code number (lines.Ordinary i) = omega arith
width_of-some code number (lines.Branch condition label) = omega (arith, tail_width-some (is_near code number label))
width_of-some code number (lines.Jump label) = omega arith
width_of-some code number (lines.Call label) = omega arith
width_of-some code number lines.Return = omega arith

words_of-some : (line : Line) → 0 < words_of line
words_of-some (lines.Ordinary i) = omega arith
words_of-some (lines.Branch condition label) = omega arith
words_of-some (lines.Jump label) = omega arith
words_of-some (lines.Call label) = omega arith
words_of-some lines.Return = omega arith

-- The maximum number of words before the next line is the maximum number before this line plus the most words that this line can take.
pub most_before-suc : (code : List Line) (number : ℕ) (line : Line) → slice_get code number ≡ Some line → most_before code (suc number) ≡ most_before code number + words_of line
most_before-suc code number line found =
    let below = slice_get_within code number line found in
    let one_more = ap all_words (take-suc code number line below) in
    let parts = sum_by-append words_of (take number code) (get_or code number line ∷ []) in
    let same : words_of (get_or code number line) ≡ words_of line = ap words_of (get_or_from_slice_get code number line line found) in
    omega (arith, one_more, parts, same)

pub position-suc : (code : List Line) (number : ℕ) (line : Line) → slice_get code number ≡ Some line → is_unreached code number ≡ false → position code (suc number) ≡ position code number + width_of code number line
position-suc code number line found reached =
    ap (λ b. position code number + cond b 0 (width_in code number (slice_get code number))) reached ∙ ap (λ o. position code number + width_in code number o) found

-- An unreachable line takes no word.
pub position-unreached : (code : List Line) (number : ℕ) → is_unreached code number ≡ true → position code (suc number) ≡ position code number
position-unreached code number unreached =
    ap (λ b. position code number + cond b 0 (width_in code number (slice_get code number))) unreached ∙ (let e : position code number + 0 ≡ position code number = omega arith in e)

-- The position of the next line is at least that of this line. The position of the next line is at
-- most that of this line plus the number of words that this line takes if it is reachable.
pub position-next : (code : List Line) (number : ℕ) (line : Line) → slice_get code number ≡ Some line
    → (position code number ≤ position code (suc number)) × (position code (suc number) ≤ position code number + width_of code number line)
position-next code number line found = by (is_unreached code number) refl
  where
    by : (b : Bool) → is_unreached code number ≡ b
        → (position code number ≤ position code (suc number)) × (position code (suc number) ≤ position code number + width_of code number line)
    by true unreached = let none = position-unreached code number unreached in (omega (arith, none), omega (arith, none))
    by false reached = let more = position-suc code number line found reached in (omega (arith, more), omega (arith, more))

pub most_before-all : (code : List Line) → most_before code (length code) ≡ all_words code
most_before-all code = ap all_words (take_all (length code) code (omega arith))

-- `IsBetween` says that the lines from one line up to another take no more words than the sum of the most words
-- that `words_of` allows for each of them.

pub record IsBetween (code : List Line) (from to : ℕ) : Type 0 where
  pub up : position code from ≤ position code to
  pub most : position code to + most_before code from ≤ most_before code to + position code from

pub between : (code : List Line) (from more to : ℕ) → from + more ≡ to → to ≤ length code → IsBetween code from to
between code from zero to is within =
    subst (λ (n : ℕ). IsBetween code from n) (let e : from ≡ to = omega (arith, is) in e) (record { up = omega arith; most = omega arith })
between code from (suc more) to is within =
    let last : from + more < length code = omega (arith, is, within) in
    let (line, found) = line_there code (from + more) last in
    let so_far = between code from more (from + more) refl (omega (arith, last)) in
    let most = most_before-suc code (from + more) line found in
    let wide = position-next code (from + more) line found in
    let few = width_of-most code (from + more) line in
    subst (λ (n : ℕ). IsBetween code from n) (let e : suc (from + more) ≡ to = omega (arith, is) in e)
    (record { up = omega (arith, so_far.up, wide.0); most = omega (arith, so_far.most, wide.1, most, few) })

pub between_lines : (code : List Line) (from to : ℕ) → from ≤ to → to ≤ length code → IsBetween code from to
between_lines code from to up within = between code from (to - from) to (omega (arith, up)) within

-- All lines together take at most as many words as `words_of` allows for them.
pub position-most : (code : List Line) (number : ℕ) → number ≤ length code → position code number ≤ all_words code
position-most code number within =
    let front = between_lines code 0 number (omega arith) within in
    let back = between_lines code number (length code) within (omega arith) in
    let all = most_before-all code in
    let whole = between_lines code 0 (length code) (omega arith) (omega arith) in
    omega (arith, front.up, front.most, back.up, back.most, whole.most, all)

-- A line is at a lower position than a later return point (a line directly after a call), since the call takes words.
point_less : (code : Labelled) (a b : ℕ) → a < b → IsReturnPoint code b → position code.lines a < position code.lines b
point_less code a b less point =
    let call : Line = lines.Call point.label in
    let inside = point.inside in
    let is = point.following in
    let front = (between_lines code.lines a point.call (omega (arith, less, is)) (omega (arith, inside, is))).up in
    let wide = position-suc code.lines point.call call point.calls (call_reached code.lines point.call point.label point.calls) in
    let some = width_of-some code.lines point.call call in
    let there = ap (position code.lines) is in
    omega (arith, front, wide, some, there)

-- The position of each line is less than the most words that all lines may take.
position-below : (code : List Line) (number : ℕ) → number < length code → position code number < all_words code
position-below code number within =
    let (line, found) = line_there code number within in
    let front = (between_lines code 0 number (omega arith) (omega (arith, within))).most in
    let more = most_before-suc code number line found in
    let back = between_lines code (suc number) (length code) (omega (arith, within)) (omega arith) in
    omega (arith, front, more, words_of-some line, back.up, back.most, most_before-all code)

-- The addresses of return points (lines directly after calls) differ, and the addresses of all lines are in the text range.
pub addresses_fit : (code : Labelled) → Fits code.lines → AreAddresses code (addresses_in code.lines)
addresses_fit code fits = record {
  apart = λ a b point_a point_b same. elim (cases_lt a b) [
    | inl less ↦ absurd (omega (arith, same, point_less code a b less point_b))
    | inr least ↦ elim (cases_lt b a) [
      | inl more ↦ absurd (omega (arith, same, point_less code b a more point_a))
      | inr most ↦ omega (arith, least, most)
    ]
  ];
  aligned = λ line inside. omega arith;
  from = λ line inside. omega arith;
  below = λ line inside. omega (arith, fits, position-below code.lines line inside);
}

-- A label that is near a branch is within the reach of its offset. (Of the four words that a branch may
-- take, a near branch takes at most two.)
pub near_below : (code : List Line) (from to : ℕ) (condition : Condition) → is_near code from to ≡ true → slice_get code from ≡ Some (lines.Branch condition to) → to < length code → from < to → position code to ≤ position code from + 32765
near_below code from to condition near found in_to up =
    let line : Line = lines.Branch condition to in
    let most = (between_lines code (suc from) to up (omega (arith, in_to))).most in
    let first : most_before code to ≤ most_before code from + MAX_REACH = leb-true (most_before code to) (most_before code from + MAX_REACH) (and_left (nat_le (most_before code to) (most_before code from + MAX_REACH)) (nat_le (most_before code from) (most_before code to + MAX_REACH)) near) in
    let wide = most_before-suc code from line found in
    let narrow = (position-next code from line found).1 in
    let few : tail_width (is_near code from to) ≡ 1 = ap tail_width near in
    omega (arith, most, first, wide, narrow, few, head_width-most (filling code from))

pub near_above : (code : List Line) (from to : ℕ) → is_near code from to ≡ true → from < length code → to < length code → to ≤ from → position code from ≤ position code to + 32767
near_above code from to near in_from in_to up =
    let most = (between_lines code to from up (omega (arith, in_from))).most in
    let second : most_before code from ≤ most_before code to + MAX_REACH = leb-true (most_before code from) (most_before code to + MAX_REACH) (and_right (nat_le (most_before code to) (most_before code from + MAX_REACH)) (nat_le (most_before code from) (most_before code to + MAX_REACH)) near) in
    omega (arith, most, second)

-- The words of each line, taken line by line in the order of the lines, are together all words of the text.
pub own_words : (code : Labelled) (count : ℕ) → flat_map (own (addresses_in code.lines)) (range_with_len 0 count) ≡ stretch text_base (position code.lines count)
own_words code zero = refl
own_words code (suc count) =
    let p : ℕ = position code.lines count in
    let w : ℕ = width_at code.lines count in
    ap (flat_map (own (addresses_in code.lines))) (range_push 0 count)
    ∙ flat_map-append (own (addresses_in code.lines)) (range_with_len 0 count) (_ ∷ [])
    ∙ ap (λ (front : List ℕ). front ++ (own (addresses_in code.lines) (0 + count) ++ [])) (own_words code count)
    ∙ ap (λ (n : ℕ). stretch text_base p ++ (own (addresses_in code.lines) n ++ [])) (let e : 0 + count ≡ count = omega arith in e)
    ∙ ap (λ (last : List ℕ). stretch text_base p ++ last) (append-nil (own (addresses_in code.lines) count) ∙ own-stretch (addresses_in code.lines) count w (omega arith))
    ∙ sym (stretch-append text_base p w)
