-- The effect of an instruction on its function's slots: those that it reads (uses) and writes (defines). The successors of an
-- instruction, where control may continue, are also defined in this file.
use Rattle.std.specs.Prelude.{◌≡◌, ℕ, suc, ◌+◌, Bool, false, ◌==◌, ◌||◌, ◌&&◌, nat_le, nat_lt, Some, slice_get}
use Rattle.cyc_plain.specs.declared.instruction.Instruction.{Instruction}
use Rattle.cyc_plain.specs.declared.instruction.Instruction.TheVariants as instructions
use Rattle.cyc_plain.specs.declared.instruction.Operand.{Operand}
use Rattle.cyc_plain.specs.declared.instruction.Operand.TheVariants as operands
use Rattle.cyc_plain.specs.declared.instruction.Request.{Request}
use Rattle.cyc_plain.specs.declared.instruction.Request.TheVariants as requests
use Rattle.cyc_plain.specs.declared.limits.TheConstants.{RECORD_WORDS}
use Rattle.cyc_plain.specs.inside.Program.{Routine, Program, routine_at}

-- `At` says that a function's code contains this instruction at this index.
abbrev pub At : Routine → (index : ℕ) → Instruction → Type 0
At r index i = slice_get r.code index ≡ Some i

abbrev pub is_slot : Operand → (slot : ℕ) → Bool
is_slot (operands.Slot number) slot = number == slot
is_slot (operands.Word word) slot = false

-- Returns true if a slot is one of the `count` slots from `first` on.
abbrev pub is_among : (first count slot : ℕ) → Bool
is_among first count slot = nat_le first slot && nat_lt slot (first + count)

abbrev pub request_reads : Request → (slot : ℕ) → Bool
request_reads (requests.OpenLexical destination) slot = false
request_reads (requests.CloseTo mark) slot = is_slot mark slot
request_reads (requests.OpenDynamic destination) slot = false
request_reads (requests.CloseDynamic handle) slot = is_slot handle slot
request_reads (requests.Allocate destination handle words) slot = is_slot handle slot || is_slot words slot
request_reads (requests.Free address) slot = is_slot address slot

abbrev pub request_writes : Request → (slot : ℕ) → Bool
request_writes (requests.OpenLexical destination) slot = is_among destination 2 slot
request_writes (requests.CloseTo mark) slot = false
request_writes (requests.OpenDynamic destination) slot = destination == slot
request_writes (requests.CloseDynamic handle) slot = false
request_writes (requests.Allocate destination handle words) slot = destination == slot
request_writes (requests.Free address) slot = false

-- Returns true if an instruction reads the slot, in a function with `results` result words.
abbrev pub reads : (results : ℕ) → Instruction → (slot : ℕ) → Bool
reads results (instructions.Move destination source) slot = is_slot source slot
reads results (instructions.MoveWords destination source count) slot = is_among source count slot
reads results (instructions.Unary operator destination operand) slot = is_slot operand slot
reads results (instructions.Binary operator destination left right) slot = is_slot left slot || is_slot right slot
reads results (instructions.Branch comparison left right target) slot = is_slot left slot || is_slot right slot
reads results (instructions.Call function arguments count result) slot = is_among arguments count slot
reads results (instructions.Return value) slot = is_among value results slot
reads results (instructions.WriteByte source) slot = is_slot source slot
reads results (instructions.StoreGlobal global source) slot = is_slot source slot
reads results (instructions.Load destination address offset) slot = is_slot address slot
reads results (instructions.Store address offset source) slot = is_slot address slot || is_slot source slot
reads results (instructions.LoadByte destination address offset) slot = is_slot address slot
reads results (instructions.StoreByte address offset source) slot = is_slot address slot || is_slot source slot
reads results (instructions.Ask request) slot = request_reads request slot
reads results (instructions.Leave first) slot = is_among first RECORD_WORDS slot
reads results (instructions.Throw tag value) slot = is_slot tag slot || is_slot value slot
reads results (instructions.Finish value) slot = is_among value results slot
reads results (instructions.Uncaught tag value) slot = is_slot value slot
reads results instruction slot = false

-- Returns true if an instruction writes the slot before the next instruction of its call is executed.
abbrev pub writes : Program → Instruction → (slot : ℕ) → Bool
writes program (instructions.Move destination source) slot = destination == slot
writes program (instructions.MoveWords destination source count) slot = is_among destination count slot
writes program (instructions.Unary operator destination operand) slot = destination == slot
writes program (instructions.Binary operator destination left right) slot = destination == slot
writes program (instructions.Call function arguments count result) slot =
    is_among result (routine_at program function).results slot
writes program (instructions.ReadByte destination) slot = destination == slot
writes program (instructions.AddressOf destination taken count) slot = destination == slot
writes program (instructions.LoadGlobal destination global) slot = destination == slot
writes program (instructions.Load destination address offset) slot = destination == slot
writes program (instructions.LoadByte destination address offset) slot = destination == slot
writes program (instructions.Ask request) slot = request_writes request slot
writes program (instructions.CountLexical destination) slot = destination == slot
writes program (instructions.Try first handler) slot = is_among first RECORD_WORDS slot
writes program instruction slot = false

-- Returns true if control may pass from the instruction at `index` to the one at `next` within one call.
abbrev pub leads : Instruction → (index next : ℕ) → Bool
leads (instructions.Jump target) index next = target == next
leads (instructions.Branch comparison left right target) index next = suc index == next || target == next
leads (instructions.Return value) index next = false
leads (instructions.Try first handler) index next = suc index == next || handler == next
leads (instructions.Throw tag value) index next = false
leads (instructions.Finish value) index next = false
leads (instructions.Uncaught tag value) index next = false
leads instruction index next = suc index == next
