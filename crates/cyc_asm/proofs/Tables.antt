-- The tables of word counts and positions of lines that the assembler computes contain the values that the definitions of layout give.
use Rattle.std.proofs.Common.{◌≡◌, ℕ, suc, ◌+◌, ◌≤◌, ◌<◌, List, [], ◌∷◌, ◌++◌, length, get_or, map, Bool, true, false, cond, ◌==◌, eq-eqb, ne_eqb, nat_le, None, Some, refl, sym, ap, subst, ◌∙◌, arith, inl, inr}
use Rattle.std.specs.Prelude.{◌&&◌, All, slice_get}
use Rattle.std.specs.List.{range_with_len}
use Rattle.std.proofs.lemmas.Bool.{cases_lt}
use Rattle.std.proofs.lemmas.List.FromFn.{length-map-range_with_len, get_or-map-range_with_len, map-range_with_len_more}
use Rattle.std.proofs.lemmas.Option.{slice_get-get_or, slice_get_within}
use Rattle.cyc_isa.specs.Encoding.{word_of}
use Rattle.cyc_isa.specs.Decoding.{jump_index_of}
use Rattle.cyc_isa.specs.declared.instr.Instr.{Instr}
use Rattle.cyc_isa.specs.declared.instr.Instr.TheVariants.{Jump}
use Rattle.cyc_isa.specs.declared.instr.JumpOp.{JumpOp}
use Rattle.cyc_machine_model.specs.declared.constants.TheConstants.{TEXT_WORDS}
use Rattle.cyc_select.specs.declared.code.Condition.{Condition}
use Rattle.cyc_select.specs.declared.code.Line.{Line}
use Rattle.cyc_select.specs.declared.code.Line.TheVariants as lines
use Rattle.cyc_select.specs.inside.Labelled.{Fits, IsFormedLine, words_of}
use Rattle.cyc_asm.specs.declared.constants.TheConstants.{MAX_REACH, FIRST_INDEX}
use Rattle.cyc_asm.specs.inside.Slots.{is_unreached, filling}
use Rattle.cyc_asm.specs.inside.Layout.{most_before, most_of_each, is_near, head_width, tail_width, width_of, width_in, width_at, position, position_of_each}
use Rattle.cyc_asm.specs.inside.Text.{branch_of}
use Rattle.cyc_asm.specs.inside.Words.{offset_of, IsHeadPosition, head_of_branch, head_of, head_in, round_words, tail_of, tail_in, words_filled, filled_in, words_ordinary, words_of_line, words_in}
use Rattle.cyc_asm.proofs.Fillings.{is_jump, filled}
use Rattle.cyc_asm.proofs.Layouts.{between_lines, most_before-suc, most_before-all, position-next, position-most}
use Rattle.cyc_asm.proofs.Standing.{are_near_at}

pub length-most_of_each : (code : List Line) (most : List ℕ) → most ≡ most_of_each code → length most ≡ length code
length-most_of_each code most is = ap length is ∙ length-map-range_with_len (most_before code) 0 (length code)

pub length-position_of_each : (code : List Line) (positions : List ℕ) → positions ≡ position_of_each code → length positions ≡ length code + 1
length-position_of_each code positions is = ap length is ∙ length-map-range_with_len (position code) 0 (length code + 1)

pub most_at : (code : List Line) (most : List ℕ) (number : ℕ) → most ≡ most_of_each code → number < length code → get_or most number 0 ≡ most_before code number
most_at code most number is below =
    ap (λ (xs : List ℕ). get_or xs number 0) is ∙ get_or-map-range_with_len (most_before code) 0 (length code) number number 0 below (omega arith)

pub position_up_to : (code : List Line) (positions : List ℕ) (number : ℕ) → positions ≡ position_of_each code → number < length code + 1 → get_or positions number 0 ≡ position code number
position_up_to code positions number is within =
    ap (λ (xs : List ℕ). get_or xs number 0) is ∙ get_or-map-range_with_len (position code) 0 (length code + 1) number number 0 within (omega arith)

pub position_at : (code : List Line) (positions : List ℕ) (number : ℕ) → positions ≡ position_of_each code → number < length code → get_or positions number 0 ≡ position code number
position_at code positions number is below = position_up_to code positions number is (omega (arith, below))

-- In the table of lines' maximum word counts and in the table of lines' positions, each entry is at most the number
-- of words in the text range.

pub most_before-low : (code : List Line) (number : ℕ) → Fits code → number ≤ length code → most_before code number ≤ TEXT_WORDS
most_before-low code number fits within =
    let b = between_lines code number (length code) within (omega arith) in
    omega (arith, fits, b.most, b.up, most_before-all code)

pub position-low : (code : List Line) (number : ℕ) → Fits code → number ≤ length code → position code number ≤ TEXT_WORDS
position-low code number fits within = omega (arith, fits, position-most code number within)

pub most_low : (code : List Line) (most : List ℕ) (number : ℕ) → Fits code → most ≡ most_of_each code → number < length code → get_or most number 0 ≤ TEXT_WORDS
most_low code most number fits is below =
    let at = most_at code most number is below in omega (arith, at, most_before-low code number fits (omega (arith, below)))

pub position_low : (code : List Line) (positions : List ℕ) (number : ℕ) → Fits code → positions ≡ position_of_each code → number < length code → get_or positions number 0 ≤ TEXT_WORDS
position_low code positions number fits is below =
    let at = position_at code positions number is below in omega (arith, at, position-low code number fits (omega (arith, below)))

-- Looking up a line by its index, with a default value, finds the line if the index is below the number of lines.
pub line_here : (code : List Line) (number : ℕ) (d line : Line) → number < length code → get_or code number d ≡ line → slice_get code number ≡ Some line
line_here code number d line below here = slice_get-get_or code number d below ∙ ap Some here

pub formed_here : (code : List Line) (number : ℕ) (d line : Line) → All (IsFormedLine (length code)) code → number < length code → get_or code number d ≡ line → IsFormedLine (length code) line
formed_here code number d line formed below here = subst (IsFormedLine (length code)) here (formed number d below)

pub width_here : (code : List Line) (number : ℕ) (d line : Line) → number < length code → get_or code number d ≡ line → width_in code number (slice_get code number) ≡ width_of code number line
width_here code number d line below here = ap (width_in code number) (line_here code number d line below here)

pub words_here : (code : List Line) (number : ℕ) (d line : Line) → number < length code → get_or code number d ≡ line → words_in code number (slice_get code number) ≡ words_of_line code number line
words_here code number d line below here = ap (words_in code number) (line_here code number d line below here)

-- Loop invariant: the table of the most words before each line stays correct when it is extended by one more line.
pub most_of_more : (code : List Line) (number : ℕ) (most : List ℕ) (before words : ℕ) (d : Line) → number < length code
    → most ≡ map (most_before code) (range_with_len 0 number) → before ≡ most_before code number → words ≡ words_of (get_or code number d)
    → (most ++ before ∷ [] ≡ map (most_before code) (range_with_len 0 (number + 1))) × (before + words ≡ most_before code (number + 1))
most_of_more code number most before words d below so_far now is = (
  ap (λ (xs : List ℕ). xs ++ before ∷ []) so_far ∙ ap (λ (n : ℕ). map (most_before code) (range_with_len 0 number) ++ n ∷ []) now
      ∙ sym (map-range_with_len_more (most_before code) 0 number number (omega arith)),
  (let more = most_before-suc code number (get_or code number d) (line_here code number d (get_or code number d) below refl) in
      let same : number + 1 ≡ suc number = omega arith in
      let at = ap (most_before code) same in
      omega (arith, more, at, now, is)),
)

pub positions_of_more : (code : List Line) (number : ℕ) (positions : List ℕ) (before width : ℕ)
    → positions ≡ map (position code) (range_with_len 0 (number + 1)) → before ≡ position code number → width ≡ width_at code number
    → (positions ++ (before + width) ∷ [] ≡ map (position code) (range_with_len 0 (number + 1 + 1))) × (before + width ≡ position code (number + 1))
positions_of_more code number positions before width so_far now is =
    let same : number + 1 ≡ suc number = omega arith in
    let at = ap (position code) same in
    let next : before + width ≡ position code (number + 1) = omega (arith, at, now, is) in (
      ap (λ (xs : List ℕ). xs ++ (before + width) ∷ []) so_far
          ∙ ap (λ (n : ℕ). map (position code) (range_with_len 0 (number + 1)) ++ n ∷ []) next
          ∙ sym (map-range_with_len_more (position code) 0 (number + 1) (number + 1) (omega arith)),
      next,
    )

-- ---- only unreachable lines take no word

width_some : (code : List Line) (number : ℕ) (line : Line) → 0 < width_of code number line
width_some code number (lines.Ordinary i) = omega arith
width_some code number (lines.Branch condition label) = omega (arith, tail_some (is_near code number label))
  where
    tail_some : (near : Bool) → 0 < tail_width near
    tail_some true = omega arith
    tail_some false = omega arith
width_some code number (lines.Jump label) = omega arith
width_some code number (lines.Call label) = omega arith
width_some code number lines.Return = omega arith

width_by : (code : List Line) (number : ℕ) (b : Bool) → is_unreached code number ≡ b → width_at code number ≡ cond b 0 (width_in code number (slice_get code number))
width_by code number b is = ap (λ (x : Bool). cond x 0 (width_in code number (slice_get code number))) is

-- The position of the next line is that of this line plus its width, or the same if this line is unreachable.
position_by : (code : List Line) (number : ℕ) (b : Bool) → is_unreached code number ≡ b
    → position code (number + 1) ≡ position code number + cond b 0 (width_in code number (slice_get code number))
position_by code number b is =
    let same : number + 1 ≡ suc number = omega arith in
    omega (arith, ap (position code) same, width_by code number b is)

pub position_left_out : (code : List Line) (positions : List ℕ) (number : ℕ) → positions ≡ position_of_each code → number < length code
    → (get_or positions number 0 == get_or positions (number + 1) 0) ≡ is_unreached code number
position_left_out code positions number is below = go (is_unreached code number) refl
  where
    here : get_or positions number 0 ≡ position code number
    here = position_up_to code positions number is (omega (arith, below))

    next : get_or positions (number + 1) 0 ≡ position code (number + 1)
    next = position_up_to code positions (number + 1) is (omega (arith, below))

    some : 0 < width_in code number (slice_get code number)
    some = omega (arith, ap (width_in code number) (slice_get-get_or code number lines.Return below), width_some code number (get_or code number lines.Return))

    go : (b : Bool) → is_unreached code number ≡ b → (get_or positions number 0 == get_or positions (number + 1) 0) ≡ is_unreached code number
    go true unreached = eq-eqb _ _ (omega (arith, here, next, position_by code number true unreached)) ∙ sym unreached
    go false reached =
        ne_eqb _ _
        (λ same. omega (arith, same, here, next, position_by code number false reached, some))
        ∙ sym reached

-- A branch is near its label if the entries for both lines in the table of maximum word counts differ by at most `MAX_REACH`.
-- If the entries for the lines of a branch and its label differ by more than `MAX_REACH`, the branch is far from its label.
pub near_here : (code : List Line) (most : List ℕ) (number label : ℕ) (near b : Bool) → most ≡ most_of_each code → number < length code → label < length code
    → near ≡ (nat_le (get_or most label 0) (get_or most number 0 + MAX_REACH) && nat_le (get_or most number 0) (get_or most label 0 + MAX_REACH)) → near ≡ b
    → is_near code number label ≡ b
near_here code most number label near b is below is_label by_table known =
    let here = most_at code most number is below in
    let there = most_at code most label is is_label in
    ap (λ (n : ℕ). nat_le (most_before code label) (n + MAX_REACH) && nat_le n (most_before code label + MAX_REACH)) (sym here)
    ∙ ap (λ (n : ℕ). nat_le n (get_or most number 0 + MAX_REACH) && nat_le (get_or most number 0) (n + MAX_REACH)) (sym there)
    ∙ sym by_table ∙ known

pub width_of_branch : (code : List Line) (number : ℕ) (d : Line) (condition : Condition) (label : ℕ) (b : Bool) → number < length code
    → get_or code number d ≡ lines.Branch condition label → is_near code number label ≡ b → width_in code number (slice_get code number) ≡ head_width (filling code number) + tail_width b
width_of_branch code number d condition label b below here near =
    width_here code number d (lines.Branch condition label) below here ∙ ap (λ b. head_width (filling code number) + tail_width b) near

-- If a branch or jump is looked up in the code by line index, the machine instruction computed for it is that of this line.

pub head_here : (code : List Line) (from number : ℕ) (d line : Line) → number < length code → get_or code number d ≡ line → head_in code from number (slice_get code number) ≡ head_of code from number line
head_here code from number d line below here = ap (head_in code from number) (line_here code number d line below here)

pub head_of_branch_here : (code : List Line) (from number : ℕ) (d : Line) (condition : Condition) (label : ℕ) (b : Bool) → number < length code
    → get_or code number d ≡ lines.Branch condition label → is_near code number label ≡ b
    → head_in code from number (slice_get code number) ≡ head_of_branch b code from condition label
head_of_branch_here code from number d condition label b below here near =
    head_here code from number d (lines.Branch condition label) below here ∙ ap (λ b. head_of_branch b code from condition label) near

pub tail_here : (code : List Line) (number : ℕ) (d line : Line) (slot : ℕ) → number < length code → get_or code number d ≡ line → tail_in code number (slice_get code number) slot ≡ tail_of code number line slot
tail_here code number d line slot below here = ap (λ o. tail_in code number o slot) (line_here code number d line below here)

pub tail_of_branch_here : (code : List Line) (number : ℕ) (d : Line) (condition : Condition) (label : ℕ) (b : Bool) (slot : ℕ) → number < length code
    → get_or code number d ≡ lines.Branch condition label → is_near code number label ≡ b
    → tail_in code number (slice_get code number) slot ≡ slot ∷ round_words b code label
tail_of_branch_here code number d condition label b slot below here near =
    tail_here code number d (lines.Branch condition label) slot below here ∙ ap (λ b. slot ∷ round_words b code label) near

-- If a branch is near, its position and the position of its label in the table of line positions are within the reach of a branch offset.
pub reach_here : (code : List Line) (positions : List ℕ) (number label from : ℕ) (d : Line) (condition : Condition) → Fits code → positions ≡ position_of_each code → number < length code → label < length code
    → get_or code number d ≡ lines.Branch condition label → is_near code number label ≡ true → IsHeadPosition code number from
    → (from ≤ get_or positions label 0 + MAX_REACH) × (get_or positions label 0 ≤ from + MAX_REACH)
reach_here code positions number label from d condition fits is below is_label here near is_head =
    let there = position_at code positions label is is_label in
    let reach = are_near_at code number label from condition fits (line_here code number d (lines.Branch condition label) below here) is_label near is_head in
    elim (cases_lt from (position code label)) [
      | inl up ↦ let r = reach.below (omega (arith, up)) in (omega (arith, there, up), omega (arith, there, r))
      | inr down ↦ let r = reach.above down in (omega (arith, there, r), omega (arith, there, down))
    ]

-- A near branch whose offset is computed from the table of line positions has the offset that its definition requires.
pub near_branch_here : (code : List Line) (positions : List ℕ) (number from : ℕ) (d : Line) (condition : Condition) (label offset : ℕ) → positions ≡ position_of_each code
    → number < length code → label < length code → get_or code number d ≡ lines.Branch condition label → is_near code number label ≡ true
    → offset ≡ offset_of from (get_or positions label 0)
    → branch_of condition offset ≡ head_in code from number (slice_get code number)
near_branch_here code positions number from d condition label offset is below is_label here near by_table =
    ap (branch_of condition) (by_table ∙ ap (offset_of from) (position_at code positions label is is_label))
    ∙ sym (head_of_branch_here code from number d condition label true below here near)

-- A jump whose target is computed from the table of line positions has the target that its definition requires.
pub jump_here : (code : List Line) (positions : List ℕ) (op : JumpOp) (label : ℕ) → positions ≡ position_of_each code → label < length code
    → word_of (Jump op (jump_index_of (FIRST_INDEX + get_or positions label 0))) ≡ word_of (Jump op (jump_index_of (FIRST_INDEX + position code label)))
jump_here code positions op label is is_label = ap (λ (n : ℕ). word_of (Jump op (jump_index_of (FIRST_INDEX + n)))) (position_at code positions label is is_label)

-- The position that the table gives for a line is a possible position of the line's branch or jump.

pub head_at_line : (code : List Line) (positions : List ℕ) (number : ℕ) → positions ≡ position_of_each code → number < length code → IsHeadPosition code number (get_or positions number 0)
head_at_line code positions number is below = let at = position_at code positions number is below in (omega (arith, at), omega (arith, at))

pub head_before_line : (code : List Line) (positions : List ℕ) (number : ℕ) (d : Line) (i : Instr) → positions ≡ position_of_each code → number < length code → get_or code number d ≡ lines.Ordinary i
    → IsHeadPosition code (number + 1) (get_or positions number 0)
head_before_line code positions number d i is below here =
    let at = position_at code positions number is below in
    let (up, wide) = position-next code number (lines.Ordinary i) (line_here code number d (lines.Ordinary i) below here) in
    let one : number + 1 ≡ suc number = omega arith in
    let next = ap (position code) one in
    (omega (arith, at, up, next), omega (arith, at, wide, next))

-- The words to which a line is translated are consecutive in the text.

-- If the next line's delay slot is not filled, an ordinary instruction is translated to its own word.

pub words_alone : (code : List Line) (number : ℕ) (i : Instr) → filling code (number + 1) ≡ None → word_of i ∷ [] ≡ words_ordinary (filling code (number + 1)) code number i
words_alone code number i none = sym (ap (λ o. words_ordinary o code number i) none)

pub words_moved : (code : List Line) (number word from : ℕ) (i slotted : Instr) → filling code (number + 1) ≡ Some slotted → from ≡ position code number
    → word ≡ word_of (head_in code from (number + 1) (slice_get code (number + 1))) → word ∷ [] ≡ words_ordinary (filling code (number + 1)) code number i
words_moved code number word from i slotted some place is =
    let one : number + 1 ≡ suc number = omega arith in
    ap (λ (w : ℕ). w ∷ [])
    (is ∙ ap (λ (n : ℕ). word_of (head_in code n (number + 1) (slice_get code (number + 1)))) place
    ∙ ap (λ (n : ℕ). word_of (head_in code (position code number) n (slice_get code n))) one)
    ∙ sym (ap (λ o. words_ordinary o code number i) some)

pub within_moved : (code : List Line) (number : ℕ) (slotted : Instr) → filling code (number + 1) ≡ Some slotted → number + 1 < length code
within_moved code number slotted some = let f = filled code (number + 1) slotted some in slice_get_within code (number + 1) f.line f.at

-- If its delay slot is filled, a branch or jump is translated to its words with the filling instruction.

pub words_after : (code : List Line) (number : ℕ) (d line : Line) (slotted : Instr) → number < length code → get_or code number d ≡ line → filling code number ≡ Some slotted
    → tail_in code number (slice_get code number) (word_of slotted) ≡ filled_in code number (slice_get code number)
words_after code number d line slotted below here some =
    tail_here code number d line (word_of slotted) below here
    ∙ sym (ap (filled_in code number) (line_here code number d line below here) ∙ ap (λ o. words_filled o code number line) some)

pub words_empty : (code : List Line) (number word from : ℕ) (d line : Line) → number < length code → get_or code number d ≡ line → filling code number ≡ None → from ≡ position code number
    → word ≡ word_of (head_in code from number (slice_get code number)) → word ∷ tail_in code number (slice_get code number) 0 ≡ filled_in code number (slice_get code number)
words_empty code number word from d line below here none place is =
    ap (λ (w : ℕ). w ∷ tail_in code number (slice_get code number) 0)
    (is ∙ ap (λ (n : ℕ). word_of (head_in code n number (slice_get code number))) place ∙ ap word_of (head_here code (position code number) number d line below here))
    ∙ ap (λ (ws : List ℕ). word_of (head_of code (position code number) number line) ∷ ws) (tail_here code number d line 0 below here)
    ∙ sym (ap (filled_in code number) (line_here code number d line below here) ∙ ap (λ o. words_filled o code number line) none)

pub words_of_jump_here : (code : List Line) (number : ℕ) (d line : Line) → number < length code → get_or code number d ≡ line → is_jump line ≡ true
    → filled_in code number (slice_get code number) ≡ words_in code number (slice_get code number)
words_of_jump_here code number d line below here jumps =
    ap (filled_in code number) (line_here code number d line below here) ∙ by line jumps ∙ sym (ap (words_in code number) (line_here code number d line below here))
  where
    by : (line : Line) → is_jump line ≡ true → words_filled (filling code number) code number line ≡ words_of_line code number line
    by (lines.Ordinary i) jumps = absurd (let e : false ≡ true = jumps in cc)
    by (lines.Branch condition label) jumps = refl
    by (lines.Jump label) jumps = refl
    by (lines.Call label) jumps = refl
    by lines.Return jumps = refl

pub words_of_ordinary_here : (code : List Line) (number : ℕ) (d : Line) (i : Instr) → number < length code → get_or code number d ≡ lines.Ordinary i
    → words_ordinary (filling code (number + 1)) code number i ≡ words_in code number (slice_get code number)
words_of_ordinary_here code number d i below here =
    let one : number + 1 ≡ suc number = omega arith in
    ap (λ (n : ℕ). words_ordinary (filling code n) code number i) one ∙ sym (words_here code number d (lines.Ordinary i) below here)
