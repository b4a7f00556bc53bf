-- Examples: the number of MIPS lines selected for some pieces of plain (three-address) code, proved by computation.
use Rattle.std.proofs.Common.{◌≡◌, ℕ, false, List, [], ◌∷◌, refl}
use Rattle.std.specs.Prelude.{sum_by, length}
use Rattle.cyc_plain.specs.declared.instruction.Instruction.{Instruction}
use Rattle.cyc_plain.specs.declared.instruction.Instruction.TheVariants.{AddressOf, Ask, Binary, Branch, Load, MoveWords, Store}
use Rattle.cyc_plain.specs.declared.instruction.Operand.TheVariants.{Slot, Word}
use Rattle.cyc_plain.specs.declared.instruction.Request.TheVariants.{OpenLexical, CloseTo, Allocate}
use Rattle.cyc_plain.specs.declared.instruction.Comparison.TheVariants.{Equal, GreaterOrEqualUnsigned}
use Rattle.cyc_plain.specs.declared.instruction.BinaryOperator.TheVariants.{Add, ShiftLeft}
use Rattle.cyc_plain.specs.inside.Program.{Program}
use Rattle.cyc_frame.specs.inside.Frame.{Frame}
use Rattle.cyc_isa.specs.declared.instr.MemoryOp.TheVariants.{LoadWord, LoadByte, StoreByte}
use Rattle.cyc_select.specs.inside.Counts.{body_count}
use Rattle.cyc_select.specs.inside.Selection.{load_at, store_at}

abbrev nothing : Program
nothing = record { functions = []; globals = []; main = 0 }

abbrev frame : Frame
frame = record { first_slot = 0; parameters = 0; return_address = 11; saves = false; first_saved = 0; saved = 0; homes = []; idle = []; fills = [] }

abbrev lines_of : List Instruction → ℕ
lines_of code = sum_by (body_count nothing (frame ∷ []) 0) code

-- Example: the lines that load element `i` of a fat pointer into slot 5. Slots 0 to 2 hold the pointer's address, length and index, slot 3
-- holds `i`; a null pointer and an index out of range are tested.
element_of_a_fat_pointer :
    lines_of (
    Branch Equal (Slot 0) (Word 0) 9
    ∷ Binary Add 4 (Slot 2) (Slot 3)
    ∷ Branch GreaterOrEqualUnsigned (Slot 4) (Slot 1) 9
    ∷ Binary ShiftLeft 4 (Slot 4) (Word 2)
    ∷ Binary Add 4 (Slot 0) (Slot 4)
    ∷ Load 5 (Slot 4) 0
    ∷ [])
    ≡ 20
element_of_a_fat_pointer = refl

-- A load from a slot at a small frame offset takes no extra MIPS line to compute the address.
near_load : length (load_at frame LoadWord 0 (Slot 1) 32767) ≡ 3
near_load = refl

far_load : length (load_at frame LoadByte 0 (Slot 1) 32768) ≡ 5
far_load = refl

far_store : length (store_at frame StoreByte (Slot 1) 32768 (Slot 2)) ≡ 5
far_store = refl

three_words_moved : lines_of (MoveWords 0 3 3 ∷ []) ≡ 6
three_words_moved = refl

-- Example: the lines that open a lexical region, allocate a block of two words in it and close it. Slot 0 holds
-- the region's handle, and slot 1 holds the number of lexical regions that stay open when the region is closed.
block_in_a_region : lines_of (Ask (OpenLexical 0) ∷ Ask (Allocate 2 (Slot 0) (Word 2)) ∷ Ask (CloseTo (Slot 1)) ∷ []) ≡ 14
block_in_a_region = refl

-- Example: the lines that take a slot's address and store a word through this address.
stored_by_its_address : lines_of (AddressOf 0 3 1 ∷ Store (Slot 0) 0 (Word 7) ∷ []) ≡ 5
stored_by_its_address = refl
