-- The layout of a function's stack frame. The stack grows downward, as in the System V ABI. The use of the frame's words and its size
-- limit are this project's own choice.
use Rattle.std.specs.Prelude.{◌≡◌, ◌≢◌, ℕ, ◌+◌, ◌<◌, ◌≤◌, Bool, true, false, ◌||◌, nat_lt, if◌then◌else◌, List, [], ◌∷◌, length, Option, Some, None, slice_index_or}
use Rattle.cyc_words.specs.declared.fault.Code.TheVariants as faults
use Rattle.cyc_words.specs.declared.fault.Fault.{Fault}
use Rattle.cyc_words.specs.declared.span.Span.{Span}
use Rattle.cyc_plain.specs.declared.instruction.Instruction.{Instruction}
use Rattle.cyc_plain.specs.declared.instruction.Instruction.TheVariants as instructions
use Rattle.cyc_plain.specs.inside.Program.{Routine, Program, routine_at}
use Rattle.cyc_plain.specs.declared.limits.TheConstants.{MOST_FRAME_WORDS}
use Rattle.cyc_frame.specs.inside.Frame.{Frame}
use Rattle.cyc_registers.specs.declared.home.TheConstants.{MOST_SAVED}
use Rattle.cyc_registers.specs.inside.Interference.{AreHomes}
use Rattle.cyc_registers.specs.inside.Idle.{AreIdle}
use Rattle.cyc_registers.specs.inside.Fills.{AreFillable}

-- Returns the index of the word of a frame that holds a slot.
abbrev pub slot_word : Frame → ℕ → ℕ
slot_word frame slot = frame.first_slot + slot

-- Returns true if an instruction overwrites the return address register: a call, or the opening of an exception handler.
abbrev pub loses : Instruction → Bool
loses (instructions.Call function arguments count result) = true
loses (instructions.Try first handler) = true
loses instruction = false

abbrev pub loses_any : List Instruction → Bool
loses_any [] = false
loses_any (i ∷ code) = loses i || loses_any code

-- Returns true for a return instruction. The size of its code includes machine words to restore the saved registers, and
-- machine words for the function's entry to save them.
abbrev pub returns : Instruction → Bool
returns (instructions.Return value) = true
returns (instructions.Finish value) = true
returns instruction = false

abbrev pub returns_any : List Instruction → Bool
returns_any [] = false
returns_any (i ∷ code) = returns i || returns_any code

-- Returns true if an instruction opens an exception handler.
abbrev pub opens : Instruction → Bool
opens (instructions.Try first handler) = true
opens instruction = false

abbrev pub opens_any : List Instruction → Bool
opens_any [] = false
opens_any (i ∷ code) = opens i || opens_any code

-- `IsFrame` says that a frame is correct for a function: each slot has its own word, apart from those of the return address and the saved
-- registers. All words are within the first `frame_count` words of the frame, and `frame_count` is within the limit.
pub record IsFrame (r : Routine) (frame : Frame) : Type 0 where
  pub apart : (a b : ℕ) → a < r.slots → b < r.slots → slot_word frame a ≡ slot_word frame b → a ≡ b
  pub inside : (slot : ℕ) → slot < r.slots → slot_word frame slot < r.frame_count
  -- The first slot's index in the frame is within the frame also for a function without slots, about which the property
  -- `inside` says nothing.
  pub first_inside : frame.first_slot ≤ r.frame_count
  pub beside : (slot : ℕ) → slot < r.slots → slot_word frame slot ≢ frame.return_address
  pub return_inside : frame.return_address < r.frame_count
  pub small : r.frame_count ≤ MOST_FRAME_WORDS
  pub saved : frame.saves ≡ loses_any r.code
  pub saved_inside : (j : ℕ) → j < MOST_SAVED → frame.first_saved + j < r.frame_count
  pub saved_beside : (slot j : ℕ) → slot < r.slots → j < MOST_SAVED → slot_word frame slot ≢ frame.first_saved + j
  pub saved_apart : (j : ℕ) → j < MOST_SAVED → frame.first_saved + j ≢ frame.return_address
  pub most_saved : frame.saved ≤ MOST_SAVED
  pub parameters : frame.parameters ≡ r.parameters
  pub returning : 0 < frame.saved → returns_any r.code ≡ true

-- Returns the frame of the function with this index, or an empty frame if there is none.
abbrev pub frame_at : List Frame → ℕ → Frame
frame_at frames function =
    slice_index_or frames function
    (record { return_address = 0; saves = false; first_saved = 0; saved = 0; first_slot = 0; parameters = 0; homes = []; idle = []; fills = [] })

-- `AllReturn` says that each function of the program contains a return.
abbrev pub AllReturn : Program → Type 0
AllReturn program = (k : ℕ) → k < length program.functions → returns_any (routine_at program k).code ≡ true

-- `AreFirstFrames` says that the frames of the first `count` functions are correct. In these functions, the homes (registers or memory) of
-- slots, the instructions marked as needing no machine code, and the filled delay slots are correct too. No frame of these functions saves
-- more than `most` registers.
pub record AreFirstFrames (program : Program) (count most : ℕ) (frames : List Frame) : Type 0 where
  pub as_many : length frames ≡ count
  pub each : (k : ℕ) → k < count → IsFrame (routine_at program k) (frame_at frames k)
  pub homes : (k : ℕ) → k < count → AreHomes program (routine_at program k) (frame_at frames k).saved (frame_at frames k).homes
  pub within : (k : ℕ) → k < count → (frame_at frames k).saved ≤ most
  pub idle : (k : ℕ) → k < count → AreIdle program (routine_at program k) (frame_at frames k).homes (frame_at frames k).idle
  pub fills : (k : ℕ) → k < count
      → AreFillable program (routine_at program k) (frame_at frames k).homes (frame_at frames k).fills

-- `AreRaised` says that among the first `count` functions, each one that opens an exception handler saves at least `most` registers.
abbrev pub AreRaised : Program → (count most : ℕ) → List Frame → Type 0
AreRaised program count most frames =
    (k : ℕ) → k < count → opens_any (routine_at program k).code ≡ true → most ≤ (frame_at frames k).saved

-- `AreFrames` says that a program has a correct frame for each function.
pub record AreFrames (program : Program) (frames : List Frame) : Type 0 where
  pub as_many : length frames ≡ length program.functions
  pub each : (k : ℕ) → k < length program.functions → IsFrame (routine_at program k) (frame_at frames k)
  pub homes : (k : ℕ) → k < length program.functions
      → AreHomes program (routine_at program k) (frame_at frames k).saved (frame_at frames k).homes
  -- An exception leaves calls without restoring registers. Since an exception restores no registers, a function with a handler saves all
  -- registers that any function may change.
  pub opening : (k g : ℕ) → k < length program.functions → g < length program.functions
      → opens_any (routine_at program k).code ≡ true → (frame_at frames g).saved ≤ (frame_at frames k).saved
  pub idle : (k : ℕ) → k < length program.functions
      → AreIdle program (routine_at program k) (frame_at frames k).homes (frame_at frames k).idle
  pub fills : (k : ℕ) → k < length program.functions
      → AreFillable program (routine_at program k) (frame_at frames k).homes (frame_at frames k).fills

-- Returns true if a function's stack frame has more than `MOST_FRAME_WORDS` words.
abbrev pub is_too_large : Routine → Bool
is_too_large r = nat_lt MOST_FRAME_WORDS r.frame_count

abbrev pub first_too_large : List Routine → Option Span
first_too_large [] = None
first_too_large (r ∷ routines) = if is_too_large r then Some r.name else first_too_large routines

-- `HasSmallFrames` says that each function's frame is within the size limit.
abbrev pub HasSmallFrames : Program → Type 0
HasSmallFrames program = (k : ℕ) → k < length program.functions → (routine_at program k).frame_count ≤ MOST_FRAME_WORDS

-- `IsTooLarge` says that a fault reports the first function whose stack frame has more than `MOST_FRAME_WORDS` words.
pub record IsTooLarge (program : Program) (fault : Fault) : Type 0 where
  pub function : ℕ
  pub is_function : function < length program.functions
  pub large : MOST_FRAME_WORDS < (routine_at program function).frame_count
  pub first : (k : ℕ) → k < function → (routine_at program k).frame_count ≤ MOST_FRAME_WORDS
  pub code : fault.code ≡ faults.FrameTooLarge
  pub line : fault.line ≡ (routine_at program function).name.line
  pub column : fault.column ≡ (routine_at program function).name.column

-- `IsAccepted` says that the program is unchanged and that all its frames are within the size limit.
abbrev pub IsAccepted : (given program : Program) → Type 0
IsAccepted given program = (program ≡ given) × HasSmallFrames program
