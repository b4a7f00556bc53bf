-- Invariants of the emitting loops: the code emitted so far, followed by the code still to emit, is the complete code.
use Rattle.std.proofs.Common.{◌≡◌, ℕ, zero, suc, ◌+◌, ◌-◌, ◌<◌, Bool, List, [], ◌∷◌, ◌++◌, drop, length, replicate, refl, sym, ap, ◌∙◌, arith}
use Rattle.std.specs.Prelude.{Result, Ok, Err, OnOk}
use Rattle.std.specs.declared.alloc.AllocError.{AllocError}
use Rattle.cyc_words.proofs.Lists.{drop_found, append_goes_on}
use Rattle.cyc_plain.specs.declared.instruction.Instruction.{Instruction}
use Rattle.cyc_plain.specs.declared.instruction.Instruction.TheVariants as instructions
use Rattle.cyc_plain.specs.declared.instruction.Operand.TheVariants as operands
use Rattle.cyc_inline.specs.declared.origin.Origin.{Origin}
use Rattle.cyc_plain.specs.inside.Program.{Program}
use Rattle.cyc_plain.specs.inside.Straight.{At}
use Rattle.cyc_inline.specs.inside.Opened.{passing}
use Rattle.cyc_inline.specs.inside.Sites.{chosen_call, place_in}
use Rattle.cyc_inline.specs.inside.Emission.{part, part_origins, part_count, opened_code, opened_origins, opened_places, opened_end}

-- If the move of one more machine word is emitted, the emitted moves are those of one word more.
pub passed_next : (destination source count word : ℕ) (all old new : List Instruction) → word < count
    → new ≡ old ++ instructions.Move (destination + word) (operands.Slot (source + word)) ∷ []
    → old ++ passing (destination + word) (source + word) (count - word) ≡ all
    → new ++ passing (destination + (word + 1)) (source + (word + 1)) (count - (word + 1)) ≡ all
passed_next destination source count word all old new below is before =
    let left : count - word ≡ suc (count - (word + 1)) = omega (arith, below) in
    let to : destination + word + 1 ≡ destination + (word + 1) = omega arith in
    let from : source + word + 1 ≡ source + (word + 1) = omega arith in
    let one : List Instruction = instructions.Move (destination + word) (operands.Slot (source + word)) ∷ [] in
    append_goes_on all old new one (passing (destination + (word + 1)) (source + (word + 1)) (count - (word + 1)))
    (passing (destination + word) (source + word) (count - word)) is
    (ap (passing (destination + word) (source + word)) left
    ∙ ap (λ (n : ℕ). one ++ passing n (source + word + 1) (count - (word + 1))) to
    ∙ ap (λ (n : ℕ). one ++ passing (destination + (word + 1)) n (count - (word + 1))) from)
    before

-- If a code position is assigned to one more instruction, the table of code positions is that of one instruction more.
pub placed_next : (program : Program) (chosen : List ℕ) (front_at : ℕ → Instruction → List Instruction) (in_line : Bool) (code : List Instruction) (index here count : ℕ) (i : Instruction) (all old new : List ℕ) → At code index i
    → new ≡ old ++ here ∷ [] → count ≡ part_count program in_line (chosen_call i (place_in chosen index)) (length (front_at index i))
    → old ++ opened_places program chosen front_at in_line index here (drop index code) ≡ all
    → new ++ opened_places program chosen front_at in_line (index + 1) (here + count) (drop (index + 1) code) ≡ all
placed_next program chosen front_at in_line code index here count i all old new at is many before =
    let next : suc index ≡ index + 1 = omega arith in
    append_goes_on all old new (here ∷ []) (opened_places program chosen front_at in_line (index + 1) (here + count) (drop (index + 1) code))
    (opened_places program chosen front_at in_line index here (drop index code)) is
    (ap (opened_places program chosen front_at in_line index here) (drop_found code index i at)
    ∙ ap (λ (n : ℕ). here ∷ opened_places program chosen front_at in_line n (here + part_count program in_line (chosen_call i (place_in chosen index)) (length (front_at index i))) (drop (index + 1) code)) next
    ∙ ap (λ (n : ℕ). here ∷ opened_places program chosen front_at in_line (index + 1) (here + n) (drop (index + 1) code)) (sym many))
    before

-- Assigning a code position to one more instruction does not change the end position of the code.
pub ended_next : (program : Program) (chosen : List ℕ) (front_at : ℕ → Instruction → List Instruction) (in_line : Bool) (code : List Instruction) (index here count all : ℕ) (i : Instruction) → At code index i
    → count ≡ part_count program in_line (chosen_call i (place_in chosen index)) (length (front_at index i)) → opened_end program chosen front_at in_line index here (drop index code) ≡ all
    → opened_end program chosen front_at in_line (index + 1) (here + count) (drop (index + 1) code) ≡ all
ended_next program chosen front_at in_line code index here count all i at many before =
    let next : suc index ≡ index + 1 = omega arith in
    sym (ap (opened_end program chosen front_at in_line index here) (drop_found code index i at)
    ∙ ap (λ (n : ℕ). opened_end program chosen front_at in_line n (here + part_count program in_line (chosen_call i (place_in chosen index)) (length (front_at index i))) (drop (index + 1) code)) next
    ∙ ap (λ (n : ℕ). opened_end program chosen front_at in_line (index + 1) (here + n) (drop (index + 1) code)) (sym many))
    ∙ before

-- If the replacement of one more instruction is emitted, the code emitted so far is extended by exactly this replacement.
pub opened_next : (program : Program) (number : ℕ) (chosen : List ℕ) (front_at : ℕ → Instruction → List Instruction) (place rest : ℕ → ℕ) (in_line : Bool) (code : List Instruction) (index : ℕ) (i : Instruction) (all old new : List Instruction)
    → At code index i → new ≡ old ++ part program number place rest in_line index i (chosen_call i (place_in chosen index)) (front_at index i)
    → old ++ opened_code program number chosen front_at place rest in_line index (drop index code) ≡ all
    → new ++ opened_code program number chosen front_at place rest in_line (index + 1) (drop (index + 1) code) ≡ all
opened_next program number chosen front_at place rest in_line code index i all old new at is before =
    let next : suc index ≡ index + 1 = omega arith in
    let here = part program number place rest in_line index i (chosen_call i (place_in chosen index)) (front_at index i) in
    append_goes_on all old new here (opened_code program number chosen front_at place rest in_line (index + 1) (drop (index + 1) code))
    (opened_code program number chosen front_at place rest in_line index (drop index code)) is
    (ap (opened_code program number chosen front_at place rest in_line index) (drop_found code index i at)
    ∙ ap (λ (n : ℕ). here ++ opened_code program number chosen front_at place rest in_line n (drop (index + 1) code)) next)
    before

-- If the replacement of one more instruction is emitted, the list that records the source instruction of each emitted
-- instruction is extended accordingly.
pub opened_origins_next : (program : Program) (number : ℕ) (chosen : List ℕ) (front_at : ℕ → Instruction → List Instruction) (in_line : Bool) (code : List Instruction) (index : ℕ) (i : Instruction) (all old new : List Origin)
    → At code index i → new ≡ old ++ part_origins program number in_line index (chosen_call i (place_in chosen index)) (length (front_at index i))
    → old ++ opened_origins program number chosen front_at in_line index (drop index code) ≡ all
    → new ++ opened_origins program number chosen front_at in_line (index + 1) (drop (index + 1) code) ≡ all
opened_origins_next program number chosen front_at in_line code index i all old new at is before =
    let next : suc index ≡ index + 1 = omega arith in
    let here = part_origins program number in_line index (chosen_call i (place_in chosen index)) (length (front_at index i)) in
    append_goes_on all old new here (opened_origins program number chosen front_at in_line (index + 1) (drop (index + 1) code))
    (opened_origins program number chosen front_at in_line index (drop index code)) is
    (ap (opened_origins program number chosen front_at in_line index) (drop_found code index i at)
    ∙ ap (λ (n : ℕ). here ++ opened_origins program number chosen front_at in_line n (drop (index + 1) code)) next)
    before

-- ---- an instruction and those before it

replicate_last : (origin : Origin) (count : ℕ) → replicate count origin ++ origin ∷ [] ≡ replicate (suc count) origin
replicate_last origin zero = refl
replicate_last origin (suc count) = ap (λ (os : List Origin). origin ∷ os) (replicate_last origin count)

pub front_origins : (origin : Origin) (all_hoisted duplicate : List Instruction)
    → replicate (length all_hoisted) origin ++ (replicate (length duplicate) origin ++ origin ∷ []) ≡ replicate (suc (length (all_hoisted ++ duplicate))) origin
front_origins origin [] duplicate = replicate_last origin (length duplicate)
front_origins origin (x ∷ all_hoisted) duplicate = ap (λ (os : List Origin). origin ∷ os) (front_origins origin all_hoisted duplicate)

-- If a function's successful result satisfies a condition `P`, and `P` implies a condition `Q`, then the successful result satisfies `Q`.
pub then_ok : {T : Type 0} {P Q : Type 0} (result : Result T AllocError) → OnOk result P → (P → Q) → OnOk result Q
then_ok (Ok value) holds next = next holds
then_ok (Err e) holds next = tt
