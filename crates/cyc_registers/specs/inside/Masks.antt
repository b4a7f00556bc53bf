-- Sets of candidate slots (those that may get registers) as bit masks: bit j stands for candidate number j. `masks` maps each slot to its
-- bit, or to 0 if the slot is no candidate for a register. One pass over the code thus handles all candidates for registers at once.
use Rattle.std.specs.Prelude.{◌≡◌, ℕ, zero, suc, ◌+◌, ◌<◌, if◌then◌else◌, List, Some, bit_or, slice_get, slice_index_or}
use Rattle.std.specs.Int.{bit_at}
use Rattle.cyc_plain.specs.declared.instruction.Instruction.{Instruction}
use Rattle.cyc_plain.specs.declared.instruction.Instruction.TheVariants as instructions
use Rattle.cyc_plain.specs.declared.instruction.Operand.{Operand}
use Rattle.cyc_plain.specs.declared.instruction.Operand.TheVariants as operands
use Rattle.cyc_plain.specs.declared.instruction.Request.{Request}
use Rattle.cyc_plain.specs.declared.instruction.Request.TheVariants as requests
use Rattle.cyc_plain.specs.declared.limits.TheConstants.{RECORD_WORDS}
use Rattle.cyc_plain.specs.inside.Program.{Program, Routine, routine_at}
use Rattle.cyc_plain.specs.inside.Uses.{At}
use Rattle.cyc_registers.specs.declared.uses.Uses.{Uses}
use Rattle.cyc_registers.specs.inside.Bars.{is_crossing}

-- Returns the bit mask that a list of masks has for a slot or a code position, or 0 if the list has no mask for it.
abbrev pub mask_at : List ℕ → (place : ℕ) → ℕ
mask_at masks place = slice_index_or masks place 0

-- Says that the slot is number j of the candidates for registers.
abbrev pub HasBit : List ℕ → (slot j : ℕ) → Type 0
HasBit masks slot j = bit_at (mask_at masks slot) j ≡ 1

-- Says that each bit in `masks` (a list with one bit mask for each slot) has a number below `next` and identifies one
-- slot. The slots with a nonzero mask are the candidates for registers.
pub record AreMasks (masks : List ℕ) (next : ℕ) : Type 0 where
  pub below : (slot j : ℕ) → HasBit masks slot j → j < next
  pub one : (a c j : ℕ) → HasBit masks a j → HasBit masks c j → a ≡ c
  pub some : (slot : ℕ) → 0 < mask_at masks slot → (j : ℕ) × HasBit masks slot j

abbrev pub operand_mask : List ℕ → Operand → ℕ
operand_mask masks (operands.Slot number) = mask_at masks number
operand_mask masks (operands.Word word) = 0

-- Returns the mask of the `count` slots from `first` on.
abbrev pub range_mask : List ℕ → (first count : ℕ) → ℕ
range_mask masks first zero = 0
range_mask masks first (suc count) = bit_or (range_mask masks first count) (mask_at masks (first + count))

abbrev pub request_read_mask : List ℕ → Request → ℕ
request_read_mask masks (requests.CloseTo mark) = operand_mask masks mark
request_read_mask masks (requests.CloseDynamic handle) = operand_mask masks handle
request_read_mask masks (requests.Allocate destination handle words) =
    bit_or (operand_mask masks handle) (operand_mask masks words)
request_read_mask masks (requests.Free address) = operand_mask masks address
request_read_mask masks request = 0

-- Returns the mask of the slots that an instruction reads.
abbrev pub read_mask : List ℕ → (results : ℕ) → Instruction → ℕ
read_mask masks results (instructions.Move destination source) = operand_mask masks source
read_mask masks results (instructions.MoveWords destination source count) = range_mask masks source count
read_mask masks results (instructions.Unary operator destination operand) = operand_mask masks operand
read_mask masks results (instructions.Binary operator destination left right) =
    bit_or (operand_mask masks left) (operand_mask masks right)
read_mask masks results (instructions.Branch comparison left right target) =
    bit_or (operand_mask masks left) (operand_mask masks right)
read_mask masks results (instructions.Call function arguments count result) = range_mask masks arguments count
read_mask masks results (instructions.Return value) = range_mask masks value results
read_mask masks results (instructions.WriteByte source) = operand_mask masks source
read_mask masks results (instructions.StoreGlobal global source) = operand_mask masks source
read_mask masks results (instructions.Load destination address offset) = operand_mask masks address
read_mask masks results (instructions.Store address offset source) =
    bit_or (operand_mask masks address) (operand_mask masks source)
read_mask masks results (instructions.LoadByte destination address offset) = operand_mask masks address
read_mask masks results (instructions.StoreByte address offset source) =
    bit_or (operand_mask masks address) (operand_mask masks source)
read_mask masks results (instructions.Ask request) = request_read_mask masks request
read_mask masks results (instructions.Leave first) = range_mask masks first RECORD_WORDS
read_mask masks results (instructions.Throw tag value) = bit_or (operand_mask masks tag) (operand_mask masks value)
read_mask masks results (instructions.Finish value) = range_mask masks value results
read_mask masks results (instructions.Uncaught tag value) = operand_mask masks value
read_mask masks results instruction = 0

abbrev pub request_write_mask : List ℕ → Request → ℕ
request_write_mask masks (requests.OpenLexical destination) = range_mask masks destination 2
request_write_mask masks (requests.OpenDynamic destination) = mask_at masks destination
request_write_mask masks (requests.Allocate destination handle words) = mask_at masks destination
request_write_mask masks request = 0

-- Returns the mask of the slots that an instruction writes and does not exclude from registers.
abbrev pub write_mask : List ℕ → Program → Instruction → ℕ
write_mask masks program (instructions.Move destination source) = mask_at masks destination
write_mask masks program (instructions.MoveWords destination source count) = range_mask masks destination count
write_mask masks program (instructions.Unary operator destination operand) = mask_at masks destination
write_mask masks program (instructions.Binary operator destination left right) = mask_at masks destination
write_mask masks program (instructions.Call function arguments count result) =
    range_mask masks result (routine_at program function).results
write_mask masks program (instructions.ReadByte destination) = mask_at masks destination
write_mask masks program (instructions.AddressOf destination taken count) = mask_at masks destination
write_mask masks program (instructions.LoadGlobal destination global) = mask_at masks destination
write_mask masks program (instructions.Load destination address offset) = mask_at masks destination
write_mask masks program (instructions.LoadByte destination address offset) = mask_at masks destination
write_mask masks program (instructions.Ask request) = request_write_mask masks request
write_mask masks program (instructions.CountLexical destination) = mask_at masks destination
write_mask masks program instruction = 0

-- Returns the mask of the slots that an instruction excludes from registers.
abbrev pub bar_mask : List ℕ → Instruction → ℕ
bar_mask masks (instructions.MoveWords destination source count) =
    if is_crossing destination source count
    then bit_or (range_mask masks destination count) (range_mask masks source count)
    else 0
bar_mask masks (instructions.AddressOf destination taken count) = range_mask masks taken count
bar_mask masks (instructions.Try first handler) = range_mask masks first RECORD_WORDS
bar_mask masks (instructions.Leave first) = range_mask masks first RECORD_WORDS
bar_mask masks instruction = 0

-- Returns the slots that an instruction reads, those that it writes, and those that it excludes from registers, among the
-- candidates for registers.
abbrev pub uses_of : Program → (results : ℕ) → (masks : List ℕ) → Instruction → Uses
uses_of program results masks i =
    record { reads = read_mask masks results i; writes = write_mask masks program i; bars = bar_mask masks i }

-- Says that a table contains the slots that each instruction of a function reads, writes and excludes from registers, among
-- the candidates for registers.
abbrev pub AreUses : Program → Routine → (masks : List ℕ) → List Uses → Type 0
AreUses program r masks table =
    (index : ℕ) (i : Instruction) → At r index i → slice_get table index ≡ Some (uses_of program r.results masks i)
