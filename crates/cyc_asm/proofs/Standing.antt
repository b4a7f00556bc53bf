-- The words that the assembler emits represent the labelled code.
use Rattle.std.proofs.Common.{◌≡◌, ℕ, zero, suc, ◌+◌, ◌-◌, ◌*◌, ◌^◌, ◌≤◌, ◌<◌, List, [], ◌∷◌, ◌++◌, length, Bool, true, false, cond, nat_lt, Option, None, Some, refl, sym, ap, subst, ◌∙◌, arith, inl, inr, append_assoc, append-nil}
use Rattle.std.specs.Prelude.{slice_get, slice_index_or}
use Rattle.std.proofs.lemmas.Bool.{le-leb, ltb-true, ltb-false, cases_lt}
use Rattle.std.proofs.lemmas.List.{length-append}
use Rattle.std.proofs.lemmas.Option.{slice_get_within, get_or_from_slice_get}
use Rattle.cyc_words.specs.Word.{add_of, mul_of}
use Rattle.cyc_words.proofs.WordLemmas.{sign_extended_low, sign_extended_high}
use Rattle.cyc_isa.specs.Encoding.{word_of, IsEncodable}
use Rattle.cyc_isa.specs.Decoding.{jump_index_of}
use Rattle.cyc_isa.specs.Effect.{branch_target, jump_target}
use Rattle.cyc_isa.specs.declared.instr.Instr.{Instr}
use Rattle.cyc_isa.specs.declared.instr.Instr.TheVariants.{Jump}
use Rattle.cyc_isa.specs.declared.instr.JumpOp.{JumpOp}
use Rattle.cyc_isa.specs.declared.instr.JumpOp.TheVariants.{Plain, AndLink}
use Rattle.cyc_machine_model.specs.declared.constants.TheConstants.{TEXT_WORDS}
use Rattle.cyc_machine_model.specs.State.{text_base, text_end, text_at, word_number}
use Rattle.cyc_select.specs.declared.code.Condition.{Condition}
use Rattle.cyc_select.specs.declared.code.Condition.TheVariants as conditions
use Rattle.cyc_select.specs.declared.code.Line.{Line}
use Rattle.cyc_select.specs.declared.code.Line.TheVariants as lines
use Rattle.cyc_select.specs.inside.Labelled.{Labelled, Fits, IsFormed, IsFormedLine}
use Rattle.cyc_asm.specs.declared.constants.TheConstants.{ROUND_OFFSET, FIRST_INDEX}
use Rattle.cyc_asm.specs.inside.Slots.{is_unreached, filling}
use Rattle.cyc_asm.specs.inside.Layout.{is_near, head_width, tail_width, width_of, width_in, width_at, position, addresses_in}
use Rattle.cyc_asm.specs.inside.Text.{text_of, nothing, branch_of, inverse_of, IsJumpAt, StandsBranch, StandsFrom, StandsFilled, StandsOrdinary, Stands, StandsUnless, stretch, IsTextInOrder}
use Rattle.cyc_asm.specs.inside.Words.{offset_of, IsHeadPosition, head_of_branch, head_of, head_in, round_words, tail_of, words_filled, words_ordinary, words_of_line, words_in, words_at, words_before, words_in_order}
use Rattle.cyc_asm.proofs.Fillings.{is_jump, filled, filling_reached}
use Rattle.cyc_asm.proofs.Layouts.{position-suc, position-unreached, position-most, between_lines, addresses_fit, near_below, near_above, own_words}

-- ---- numbers of words

branch_encodable : (condition : Condition) (offset : ℕ) → offset < 2 ^ 16 → IsEncodable (branch_of condition offset)
branch_encodable (conditions.Registers op left right) offset fits = fits
branch_encodable (conditions.Sign op source) offset fits = fits

length-round_words : (b : Bool) (code : List Line) (label : ℕ) → length (round_words b code label) + 1 ≡ tail_width b
length-round_words true code label = refl
length-round_words false code label = refl

length-words_filled : (o : Option Instr) (code : List Line) (number : ℕ) (line : Line) → length (words_filled o code number line) ≡ head_width o + length (tail_of code number line 0)
length-words_filled (Some i) code number (lines.Ordinary other) = refl
length-words_filled (Some i) code number (lines.Branch condition label) = omega arith
length-words_filled (Some i) code number (lines.Jump label) = refl
length-words_filled (Some i) code number (lines.Call label) = refl
length-words_filled (Some i) code number lines.Return = refl
length-words_filled None code number line = omega arith

length-words_ordinary : (o : Option Instr) (code : List Line) (number : ℕ) (i : Instr) → length (words_ordinary o code number i) ≡ 1
length-words_ordinary (Some slotted) code number i = refl
length-words_ordinary None code number i = refl

pub length-words_of_line : (code : List Line) (number : ℕ) (line : Line) → length (words_of_line code number line) ≡ width_of code number line
length-words_of_line code number (lines.Ordinary i) = length-words_ordinary (filling code (suc number)) code number i
length-words_of_line code number (lines.Branch condition label) =
    let round = length-round_words (is_near code number label) code label in
    let whole = length-words_filled (filling code number) code number (lines.Branch condition label) in
    omega (arith, round, whole)
length-words_of_line code number (lines.Jump label) = length-words_filled (filling code number) code number (lines.Jump label)
length-words_of_line code number (lines.Call label) = length-words_filled (filling code number) code number (lines.Call label)
length-words_of_line code number lines.Return = length-words_filled (filling code number) code number lines.Return

length-words_in : (code : List Line) (number : ℕ) (line : Option Line) → length (words_in code number line) ≡ width_in code number line
length-words_in code number (Some line) = length-words_of_line code number line
length-words_in code number None = refl

length-words_at : (code : List Line) (number : ℕ) → length (words_at code number) ≡ width_at code number
length-words_at code number = by (is_unreached code number)
  where
    by : (b : Bool) → length (cond b [] (words_in code number (slice_get code number))) ≡ cond b 0 (width_in code number (slice_get code number))
    by true = refl
    by false = length-words_in code number (slice_get code number)

pub length-words_before : (code : List Line) (number : ℕ) → length (words_before code number) ≡ position code number
length-words_before code zero = refl
length-words_before code (suc number) =
    let both = length-append (words_before code number) (words_at code number) in
    let last = length-words_at code number in
    omega (arith, both, last, length-words_before code number)

-- ---- positions of words

-- The words of the first lines are a prefix of the words of more lines.
begins : (code : List Line) (from more to : ℕ) → from + more ≡ to → (rest : List ℕ) × (words_before code to ≡ words_before code from ++ rest)
begins code from zero to is = ([], ap (words_before code) (let e : to ≡ from = omega (arith, is) in e) ∙ sym (append-nil (words_before code from)))
begins code from (suc more) to is =
    let (rest, so_far) = begins code from more (from + more) refl in (
      rest ++ words_at code (from + more),
      ap (words_before code) (let e : to ≡ suc (from + more) = omega (arith, is) in e)
          ∙ ap (λ (front : List ℕ). front ++ words_at code (from + more)) so_far
          ∙ append_assoc (words_before code from) rest (words_at code (from + more)),
    )

-- A word in the list of assembled words is found in the text, at its index.
found_in : (ws rest : List ℕ) (j w : ℕ) → slice_get ws j ≡ Some w → slice_index_or (text_of (ws ++ rest)) j None ≡ Some w
found_in [] rest j w at = cc
found_in (x ∷ ws) rest zero w at = at
found_in (x ∷ ws) rest (suc j) w at = found_in ws rest j w at

found_after_words : (front ws rest : List ℕ) (j w : ℕ) → slice_get ws j ≡ Some w → slice_index_or (text_of ((front ++ ws) ++ rest)) (length front + j) None ≡ Some w
found_after_words [] ws rest j w at = ap (λ (n : ℕ). slice_index_or (text_of (ws ++ rest)) n None) (let e : zero + j ≡ j = omega arith in e) ∙ found_in ws rest j w at
found_after_words (x ∷ front) ws rest j w at =
    ap (λ (n : ℕ). slice_index_or (text_of (((x ∷ front) ++ ws) ++ rest)) n None) (let e : suc (length front) + j ≡ suc (length front + j) = omega arith in e)
    ∙ found_after_words front ws rest j w at

-- ---- targets

-- The offset of a forward branch yields the address of its target.
target_below : (from to offset : ℕ) → from < to → to ≤ from + 32767 → to ≤ TEXT_WORDS → offset ≡ to - (from + 1) → branch_target (text_base + 4 * from) offset ≡ text_base + 4 * to
target_below from to offset less near inside is =
    let small : offset < 2 ^ 15 = omega (arith, is, less, near) in
    let extended = sign_extended_low offset small in
    ap (λ (e : ℕ). add_of (add_of (text_base + 4 * from) 4) (mul_of 4 e)) extended ∙ (let e : add_of (add_of (text_base + 4 * from) 4) (mul_of 4 offset) ≡ text_base + 4 * to = omega (arith, is, less, inside, small) in e)

target_above : (from to offset : ℕ) → to ≤ from → from ≤ to + 32767 → from ≤ TEXT_WORDS → offset ≡ 65535 - (from - to) → branch_target (text_base + 4 * from) offset ≡ text_base + 4 * to
target_above from to offset least near inside is =
    let large : 2 ^ 15 ≤ offset = omega (arith, is, least, near) in
    let half : offset < 2 ^ 16 = omega (arith, is) in
    let extended = sign_extended_high offset large half in
    ap (λ (e : ℕ). add_of (add_of (text_base + 4 * from) 4) (mul_of 4 e)) extended ∙ (let e : add_of (add_of (text_base + 4 * from) 4) (mul_of 4 (offset + (2 ^ 32 - 2 ^ 16))) ≡ text_base + 4 * to = omega (arith, is, least, near, inside) in e)

-- `AreNear` says that two positions are within the reach of a branch offset.
pub record AreNear (from to : ℕ) : Type 0 where
  pub below : from ≤ to → to ≤ from + 32767
  pub above : to ≤ from → from ≤ to + 32767
  pub low_from : from ≤ TEXT_WORDS
  pub low_to : to ≤ TEXT_WORDS

-- The position of a near branch and that of its label are within the reach of an offset.
pub are_near_at : (code : List Line) (number label from : ℕ) (condition : Condition) → Fits code → slice_get code number ≡ Some (lines.Branch condition label) → label < length code → is_near code number label ≡ true
    → IsHeadPosition code number from → AreNear from (position code label)
are_near_at code number label from condition fits found is_label near (least, most) =
    let below = slice_get_within code number (lines.Branch condition label) found in
    let low_to : position code label ≤ TEXT_WORDS = omega (arith, fits, position-most code label (omega (arith, is_label))) in
    let low_from : from ≤ TEXT_WORDS = omega (arith, least, fits, position-most code number (omega (arith, below))) in
    elim (cases_lt number label) [
      | inl before ↦
          let up = (between_lines code number label (omega (arith, before)) (omega (arith, is_label))).up in
          let reach = near_below code number label condition near found is_label before in
          record { below = λ forward. omega (arith, reach, most); above = λ backward. omega (arith, up, least); low_from = low_from; low_to = low_to }
      | inr following ↦
          let up = (between_lines code label number following (omega (arith, below))).up in
          let reach = near_above code number label near below is_label following in
          record { below = λ forward. omega (arith, up, most); above = λ backward. omega (arith, reach, least); low_from = low_from; low_to = low_to }
    ]

pub offset_of-half : (from to : ℕ) → AreNear from to → offset_of from to < 2 ^ 16
offset_of-half from to near = elim (nat_lt from to) as (λ b. nat_lt from to ≡ b → cond b (to - (from + 1)) (65535 - (from - to)) < 2 ^ 16) [
  | true ↦ λ less. let l = ltb-true from to less in let n = near.below (omega (arith, l)) in omega (arith, l, n)
  | false ↦ λ least. omega arith
] refl

offset_of-target : (from to : ℕ) → AreNear from to → branch_target (text_base + 4 * from) (offset_of from to) ≡ text_base + 4 * to
offset_of-target from to near = elim (nat_lt from to) as (λ b. nat_lt from to ≡ b → branch_target (text_base + 4 * from) (cond b (to - (from + 1)) (65535 - (from - to))) ≡ text_base + 4 * to) [
  | true ↦ λ less. let l = ltb-true from to less in target_below from to (to - (from + 1)) l (near.below (omega (arith, l))) near.low_to refl
  | false ↦ λ least. let l = ltb-false from to least in target_above from to (65535 - (from - to)) l (near.above l) near.low_from refl
] refl

round_target : (from : ℕ) → from ≤ TEXT_WORDS → branch_target (text_base + 4 * from) ROUND_OFFSET ≡ text_base + 4 * from + 16
round_target from inside =
    ap (λ (e : ℕ). add_of (add_of (text_base + 4 * from) 4) (mul_of 4 e)) (sign_extended_low ROUND_OFFSET (omega arith))
    ∙ (let e : add_of (add_of (text_base + 4 * from) 4) (mul_of 4 3) ≡ text_base + 4 * from + 16 = omega (arith, inside) in e)

index_target : (address to : ℕ) → address < text_end → to ≤ TEXT_WORDS → jump_target address (jump_index_of (FIRST_INDEX + to)).index ≡ text_base + 4 * to
index_target address to inside low = omega (arith, inside, low)

module _ (code : Labelled) (formed : IsFormed code) (fits : Fits code.lines) where
  abbrev at : ℕ → ℕ
  at number = addresses_in code.lines number

  abbrev words : List ℕ
  words = words_in_order code.lines

  module _ (number : ℕ) (line : Line) (found : slice_get code.lines number ≡ Some line) where
    below : number < length code.lines
    below = slice_get_within code.lines number line found

    line_formed : IsFormedLine (length code.lines) line
    line_formed = subst (IsFormedLine (length code.lines)) (get_or_from_slice_get code.lines number line line found) (formed number line below)

    inside : at (suc number) ≤ text_end
    inside = let last = position-most code.lines (suc number) (let b = below in omega (arith, b)) in omega (arith, fits, last)

    next : is_unreached code.lines number ≡ false → at (suc number) ≡ at number + 4 * width_of code.lines number line
    next reached = let more = position-suc code.lines number line found reached in omega (arith, more)

    -- If a line is reachable, its words are at the line's position.
    words_there : is_unreached code.lines number ≡ false → words_at code.lines number ≡ words_of_line code.lines number line
    words_there reached = ap (λ b. cond b [] (words_in code.lines number (slice_get code.lines number))) reached ∙ ap (words_in code.lines number) found

    -- Each word of a reachable line is in the text, at the line's address plus the word's offset.
    word_there : is_unreached code.lines number ≡ false → (j w address : ℕ) → address ≡ at number + 4 * j → slice_get (words_of_line code.lines number line) j ≡ Some w → text_at (text_of words) address ≡ Some w
    word_there reached j w address is has =
        let (rest, whole) = begins code.lines (suc number) (length code.lines - suc number) (length code.lines) (let inside = below in omega arith) in
        let there : words ≡ (words_before code.lines number ++ words_of_line code.lines number line) ++ rest =
        whole ∙ ap (λ (ws : List ℕ). (words_before code.lines number ++ ws) ++ rest) (words_there reached) in
        let long = length-words_before code.lines number in
        let above : text_base ≤ address = omega (arith, is) in
        let index : word_number text_base address ≡ length (words_before code.lines number) + j = omega (arith, is, long) in
        ap (λ b. cond b (slice_index_or (text_of words) (word_number text_base address) None) None) (le-leb text_base address above)
        ∙ ap (λ (n : ℕ). slice_index_or (text_of words) n None) index
        ∙ ap (λ (ws : List ℕ). slice_index_or (text_of ws) (length (words_before code.lines number) + j) None) there
        ∙ found_after_words (words_before code.lines number) (words_of_line code.lines number line) rest j w has

    -- The address of a label is in the text range.
    low : (label : ℕ) → label ≤ length code.lines → position code.lines label ≤ TEXT_WORDS
    low label within = let most = position-most code.lines label within in omega (arith, fits, most)

  -- ---- branches and jumps

  abbrev word_at : (address word : ℕ) → Type 0
  word_at address word = text_at (text_of words) address ≡ Some word

  jump_there : (op : JumpOp) (label address : ℕ) (slotted : Instr) → label < length code.lines → address < text_end → IsEncodable slotted
      → word_at address (word_of (Jump op (jump_index_of (FIRST_INDEX + position code.lines label)))) → word_at (address + 4) (word_of slotted) → IsJumpAt words op slotted address (at label)
  jump_there op label address slotted is_label in_text encodable first second =
      let most = position-most code.lines label (omega (arith, is_label)) in
      record {
        index = jump_index_of (FIRST_INDEX + position code.lines label);
        jump = record { encodable = tt; word = first };
        target = index_target address (position code.lines label) in_text (omega (arith, fits, most));
        slot = record { encodable = encodable; word = second };
      }

  -- The lemmas of this module assume that the text contains the word of a branch or jump at an address. The text
  -- also contains, after this word, the branch's or jump's delay slot and any further words.
  module _ (number from : ℕ) (slotted : Instr) (encodable : IsEncodable slotted) (is_head : IsHeadPosition code.lines number from) where
    abbrev here : ℕ
    here = text_base + 4 * from

    abbrev Head : Line → Type 0
    Head line = word_at here (word_of (head_of code.lines from number line))

    abbrev Tail : List ℕ → Type 0
    Tail tail = (j w address : ℕ) → address ≡ here + 4 + 4 * j → slice_get tail j ≡ Some w → word_at address w

    abbrev Next : List ℕ → Type 0
    Next tail = at (suc number) ≡ here + 4 + 4 * length tail

    branch_there : (b : Bool) (condition : Condition) (label : ℕ) → slice_get code.lines number ≡ Some (lines.Branch condition label) → is_near code.lines number label ≡ b
        → word_at here (word_of (head_of_branch b code.lines from condition label)) → Tail (word_of slotted ∷ round_words b code.lines label) → Next (word_of slotted ∷ round_words b code.lines label)
        → StandsBranch b words (addresses_in code.lines) number condition label slotted here
    branch_there true condition label found near head tail next =
        let is_label = line_formed number (lines.Branch condition label) found in
        let reach = are_near_at code.lines number label from condition fits found is_label near is_head in (
          record {
            offset = offset_of from (position code.lines label);
            branch = record { encodable = branch_encodable condition _ (offset_of-half _ _ reach); word = head };
            target = offset_of-target from (position code.lines label) reach;
            slot = record { encodable = encodable; word = tail 0 (word_of slotted) (here + 4) (omega arith) refl };
          },
          (omega (arith, next)),
        )
    branch_there false condition label found far head tail next =
        let is_label = line_formed number (lines.Branch condition label) found in
        let in_text = inside number (lines.Branch condition label) found in (
          record {
            offset = ROUND_OFFSET;
            branch = record { encodable = branch_encodable (inverse_of condition) ROUND_OFFSET (omega arith); word = head };
            target = round_target from (omega (arith, next, in_text)) ∙ (let e : here + 16 ≡ at (suc number) = omega (arith, next) in e);
            slot = record { encodable = encodable; word = tail 0 (word_of slotted) (here + 4) (omega arith) refl };
          },
          jump_there Plain label (here + 8) nothing is_label (omega (arith, next, in_text)) (omega arith) (tail 1 _ (here + 8) (omega arith) refl) (tail 2 0 (here + 8 + 4) (omega arith) refl),
          (omega (arith, next)),
        )

    from_here : (line : Line) → slice_get code.lines number ≡ Some line → is_jump line ≡ true → Head line → Tail (tail_of code.lines number line (word_of slotted)) → Next (tail_of code.lines number line (word_of slotted))
        → StandsFrom code words (addresses_in code.lines) number line slotted here
    from_here (lines.Ordinary i) found jumps head tail next = absurd (let e : false ≡ true = jumps in cc)
    from_here (lines.Branch condition label) found jumps head tail next = branch_there (is_near code.lines number label) condition label found refl head tail next
    from_here (lines.Jump label) found jumps head tail next = (
      jump_there Plain label here slotted (line_formed number (lines.Jump label) found) (let i = inside number (lines.Jump label) found in omega (arith, i, next)) encodable head
          (tail 0 (word_of slotted) (here + 4) (omega arith) refl),
      (omega (arith, next)),
    )
    from_here (lines.Call label) found jumps head tail next = (
      jump_there AndLink label here slotted (line_formed number (lines.Call label) found) (let i = inside number (lines.Call label) found in omega (arith, i, next)) encodable head
          (tail 0 (word_of slotted) (here + 4) (omega arith) refl),
      (omega (arith, next)),
    )
    from_here lines.Return found jumps head tail next = (
      record { encodable = tt; word = head },
      record { encodable = encodable; word = tail 0 (word_of slotted) (here + 4) (omega arith) refl },
      (omega (arith, next)),
    )

  -- ---- words of a line

  words_of_jump : (number : ℕ) (line : Line) → is_jump line ≡ true → words_of_line code.lines number line ≡ words_filled (filling code.lines number) code.lines number line
  words_of_jump number (lines.Ordinary i) jumps = absurd (let e : false ≡ true = jumps in cc)
  words_of_jump number (lines.Branch condition label) jumps = refl
  words_of_jump number (lines.Jump label) jumps = refl
  words_of_jump number (lines.Call label) jumps = refl
  words_of_jump number lines.Return jumps = refl

  filled_there : (number : ℕ) (line : Line) → slice_get code.lines number ≡ Some line → is_unreached code.lines number ≡ false → is_jump line ≡ true → (o : Option Instr) → filling code.lines number ≡ o
      → StandsFilled o code words (addresses_in code.lines) number line
  filled_there number line found reached jumps None none =
      let mine : words_of_line code.lines number line ≡ word_of (head_of code.lines (position code.lines number) number line) ∷ tail_of code.lines number line 0 =
      words_of_jump number line jumps ∙ ap (λ o. words_filled o code.lines number line) none in
      let long = length-words_of_line code.lines number line in
      let wide = next number line found reached in
      from_here number (position code.lines number) nothing (omega arith) ((omega arith), (omega arith)) line found jumps
      (word_there number line found reached 0 _ (at number) (omega arith) (ap (λ (ws : List ℕ). slice_get ws 0) mine))
      (λ j w address is has. word_there number line found reached (suc j) w address (omega (arith, is)) (ap (λ (ws : List ℕ). slice_get ws (suc j)) mine ∙ has))
      (omega (arith, wide, long, ap length mine))
  filled_there number line found reached jumps (Some i) some =
      let f = filled code.lines number i some in
      let mine : words_of_line code.lines number line ≡ tail_of code.lines number line (word_of i) =
      words_of_jump number line jumps ∙ ap (λ o. words_filled o code.lines number line) some in
      let one : filling code.lines (suc f.before) ≡ Some i = ap (filling code.lines) (sym f.is) ∙ some in
      let its : words_of_line code.lines f.before (lines.Ordinary i) ≡ word_of (head_of code.lines (position code.lines f.before) number line) ∷ [] =
      ap (λ o. words_ordinary o code.lines f.before i) one
      ∙ ap (λ (n : ℕ). word_of (head_in code.lines (position code.lines f.before) n (slice_get code.lines n)) ∷ []) (sym f.is)
      ∙ ap (λ o. word_of (head_in code.lines (position code.lines f.before) number o) ∷ []) found in
      let long = length-words_of_line code.lines number line in
      let wide = next number line found reached in
      let before_reached = filling_reached code.lines number i f reached in
      let following : at number ≡ at f.before + 4 = ap at f.is ∙ (let w = next f.before (lines.Ordinary i) f.from before_reached in omega (arith, w)) in
      let encodable : IsEncodable i = (line_formed f.before (lines.Ordinary i) f.from).1 in (
        at f.before,
        following,
        from_here number (position code.lines f.before) i encodable ((omega (arith, following)), (omega (arith, following))) line found jumps
            (word_there f.before (lines.Ordinary i) f.from before_reached 0 _ (at f.before) (omega arith) (ap (λ (ws : List ℕ). slice_get ws 0) its))
            (λ j w address is has. word_there number line found reached j w address (omega (arith, is, following)) (ap (λ (ws : List ℕ). slice_get ws j) mine ∙ has))
            (omega (arith, wide, long, ap length mine, following)),
      )

  ordinary_there : (number : ℕ) (i : Instr) → slice_get code.lines number ≡ Some (lines.Ordinary i) → is_unreached code.lines number ≡ false → (o : Option Instr) → filling code.lines (suc number) ≡ o
      → StandsOrdinary o words (addresses_in code.lines) number i
  ordinary_there number i found reached None none = (
    record {
      encodable = (line_formed number (lines.Ordinary i) found).1;
      word = word_there number (lines.Ordinary i) found reached 0 (word_of i) (at number) (omega arith) (ap (λ o. slice_get (words_ordinary o code.lines number i) 0) none);
    },
    (let n = next number (lines.Ordinary i) found reached in omega (arith, n)),
  )
  ordinary_there number i found reached (Some slotted) some = (let n = next number (lines.Ordinary i) found reached in omega (arith, n))

  reached_stands : (number : ℕ) (line : Line) → slice_get code.lines number ≡ Some line → is_unreached code.lines number ≡ false → Stands code words (addresses_in code.lines) number line
  reached_stands number (lines.Ordinary i) found reached = ordinary_there number i found reached (filling code.lines (suc number)) refl
  reached_stands number (lines.Branch condition label) found reached = filled_there number (lines.Branch condition label) found reached refl (filling code.lines number) refl
  reached_stands number (lines.Jump label) found reached = filled_there number (lines.Jump label) found reached refl (filling code.lines number) refl
  reached_stands number (lines.Call label) found reached = filled_there number (lines.Call label) found reached refl (filling code.lines number) refl
  reached_stands number lines.Return found reached = filled_there number lines.Return found reached refl (filling code.lines number) refl

  stands : (number : ℕ) (line : Line) → slice_get code.lines number ≡ Some line → StandsUnless (is_unreached code.lines number) code words (addresses_in code.lines) number line
  stands number line found = by (is_unreached code.lines number) refl
    where
      by : (b : Bool) → is_unreached code.lines number ≡ b → StandsUnless b code words (addresses_in code.lines) number line
      by true unreached = let same = position-unreached code.lines number unreached in omega (arith, same)
      by false reached = reached_stands number line found reached

  pub in_order_means : IsTextInOrder code code (addresses_in code.lines) (words_in_order code.lines)
  in_order_means = record {
    places = addresses_fit code fits;
    first = refl;
    stands = stands;
    all = own_words code (length code.lines) ∙ ap (stretch text_base) (sym (length-words_before code.lines (length code.lines)));
    few = (let long = length-words_before code.lines (length code.lines) in let most = position-most code.lines (length code.lines) (omega arith) in omega (arith, long, most));
    inside = (let long = length-words_before code.lines (length code.lines) in let most = position-most code.lines (length code.lines) (omega arith) in omega (arith, long, most, fits));
  }
