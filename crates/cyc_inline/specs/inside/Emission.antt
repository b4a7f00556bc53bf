-- The code that the crate emits for a function in which some calls are inlined, and the conditions on these calls.
use Rattle.std.specs.Prelude.{◌≡◌, All, ℕ, suc, ◌+◌, ◌<◌, ◌≤◌, ◌^◌, ◌⊎◌, nat_lt, nat_le, Bool, true, false, not, ◌&&◌, List, [], ◌∷◌, ◌++◌, filter, length, replicate, Result, OnOk, Option, Some, None, slice_get, slice_index_or, if◌then◌else◌}
use Rattle.std.specs.List.{AllByRecursion}
use Rattle.std.specs.declared.vec.Vec.{Vec}
use Rattle.std.specs.declared.alloc.Global.{Global}
use Rattle.std.specs.declared.alloc.AllocError.{AllocError}
use Rattle.cyc_plain.specs.declared.instruction.Instruction.{Instruction}
use Rattle.cyc_plain.specs.declared.instruction.Instruction.TheVariants as instructions
use Rattle.cyc_plain.specs.declared.instruction.Operand.{Operand}
use Rattle.cyc_plain.specs.declared.instruction.Operand.TheVariants as operands
use Rattle.cyc_plain.specs.declared.limits.TheConstants.{GREATEST_VALUE, LAYOUT_WORDS, MOST_FRAME_WORDS}
use Rattle.cyc_plain.specs.inside.Program.{Routine, Program, no_routine, routine_at}
use Rattle.cyc_plain.specs.inside.Straight.{At}
use Rattle.cyc_plain.specs.inside.WellFormed.{leaves, IsRoutine, IsPlain, HasWord}
use Rattle.cyc_inline.specs.declared.caller.Caller.{Caller}
use Rattle.cyc_inline.specs.declared.choice.Choice.{Choice}
use Rattle.cyc_inline.specs.declared.choice.Need.{Need}
use Rattle.cyc_inline.specs.declared.emission.Emission.{Emission}
use Rattle.cyc_inline.specs.declared.limits.TheConstants.{MOST_LEAF_CODE, MOST_GROWTH, MOST_HOISTED}
use Rattle.cyc_inline.specs.declared.origin.Origin.{Origin}
use Rattle.cyc_inline.specs.declared.site.Call.{Call}
use Rattle.cyc_inline.specs.declared.site.Site.{Site}
use Rattle.cyc_inline.specs.inside.Opened.{moved, is_division, may_have_duplicate, duplicate, may_follow_hoisted, IsDuplicate, is_of_leaf, is_end, origin_at, origins_of, IsOpened}
use Rattle.cyc_inline.specs.inside.Sites.{chosen_call, place_in, site_code, site_origins, site_size}

-- ---- the code that the emitting methods append

abbrev pub AddsCode : {T : Type 0} → Result T AllocError → (old new : Emission) → List Instruction → Type 0
AddsCode result old new code = OnOk result (new.code.items ≡ old.code.items ++ code)

abbrev pub AddsOrigins : {T : Type 0} → Result T AllocError → (old new : Emission) → List Origin → Type 0
AddsOrigins result old new origins = OnOk result (new.origins.items ≡ old.origins.items ++ origins)

-- ---- numbers that fit a machine word

abbrev pub IsFitOperand : (shift : ℕ) → Operand → Type 0
IsFitOperand shift (operands.Slot number) = shift + number < 2 ^ 64
IsFitOperand shift (operands.Word word) = Unit {0}

-- Says that the slot indices of an instruction fit a machine word after they are shifted.
abbrev pub IsFit : (shift : ℕ) → Instruction → Type 0
IsFit shift (instructions.Move destination source) = (shift + destination < 2 ^ 64) × IsFitOperand shift source
IsFit shift (instructions.MoveWords destination source count) = (shift + destination < 2 ^ 64) × (shift + source < 2 ^ 64)
IsFit shift (instructions.Unary operator destination operand) = (shift + destination < 2 ^ 64) × IsFitOperand shift operand
IsFit shift (instructions.Binary operator destination left right) =
    (shift + destination < 2 ^ 64) × IsFitOperand shift left × IsFitOperand shift right
IsFit shift (instructions.Branch comparison left right target) = IsFitOperand shift left × IsFitOperand shift right
IsFit shift (instructions.ReadByte destination) = shift + destination < 2 ^ 64
IsFit shift (instructions.WriteByte source) = IsFitOperand shift source
IsFit shift (instructions.LoadGlobal destination global) = shift + destination < 2 ^ 64
IsFit shift (instructions.StoreGlobal global source) = IsFitOperand shift source
IsFit shift (instructions.Load destination address offset) = (shift + destination < 2 ^ 64) × IsFitOperand shift address
IsFit shift (instructions.Store address offset source) = IsFitOperand shift address × IsFitOperand shift source
IsFit shift (instructions.LoadByte destination address offset) = (shift + destination < 2 ^ 64) × IsFitOperand shift address
IsFit shift (instructions.StoreByte address offset source) = IsFitOperand shift address × IsFitOperand shift source
IsFit shift (instructions.CountLexical destination) = shift + destination < 2 ^ 64
IsFit shift (instructions.Throw tag value) = IsFitOperand shift tag × IsFitOperand shift value
IsFit shift instruction = Unit {0}

-- Says that the indices of the slots that a return reads fit a machine word after they are shifted.
abbrev pub IsFitEnd : (shift results : ℕ) → Option ℕ → Type 0
IsFitEnd shift results (Some value) = shift + value + results < 2 ^ 64
IsFitEnd shift results None = Unit {0}

-- Says that the numbers in an instruction of the callee's code fit a machine word.
abbrev pub IsFitInside : Site → Instruction → Type 0
IsFitInside site i = IsFit site.shift i × IsFitEnd site.shift site.results (is_end i)

-- Says that the numbers in an inlined call and in its callee's code fit a machine word.
pub record IsFitSite (site : Site) (code : List Instruction) : Type 0 where
  pub each : AllByRecursion (IsFitInside site) code
  pub results : site.results ≤ GREATEST_VALUE
  pub result : site.call.result + site.results < 2 ^ 64
  pub arguments : site.call.arguments + site.call.count < 2 ^ 64
  pub shift : site.shift + site.call.count < 2 ^ 64

-- ---- which calls may be inlined

-- Says that a function is a leaf: its code may replace calls of it. The last of a leaf function's instructions that are placed at
-- the call does not fall through.
pub record IsLeaf (r : Routine) (line : ℕ) : Type 0 where
  pub few : length r.code ≤ MOST_LEAF_CODE
  pub all : AllByRecursion (λ (i : Instruction). is_of_leaf i ≡ true) r.code
  pub within : line ≤ length r.code
  pub last : (k : ℕ) (i : Instruction) → At r.code k i → k + 1 ≡ line → leaves i ≡ true

-- Says that each function with a positive number in `lines` is a leaf function; the number counts its instructions that are placed
-- at the call.
abbrev pub AreLeafs : Program → (lines : List ℕ) → Type 0
AreLeafs program lines = (k : ℕ) → 0 < place_in lines k → IsLeaf (routine_at program k) (place_in lines k)

-- The number of instructions that replace a call: in the place of the call (`in_line`), or after the caller's code.
abbrev pub call_size : Program → (in_line : Bool) → Call → ℕ
call_size program in_line call = site_size call (routine_at program call.callee).results in_line (routine_at program call.callee).code

-- Says that the callee of a call exists and has at most `MOST_LEAF_CODE` instructions, and that at
-- most `MOST_GROWTH` words of arguments are passed.
pub record IsSmallCall (program : Program) (call : Call) : Type 0 where
  pub is_function : call.callee < length program.functions
  pub few : length (routine_at program call.callee).code ≤ MOST_LEAF_CODE
  pub small : call.count ≤ MOST_GROWTH

-- Says that a call may be inlined in a function that has `slots` slots after the inlining.
pub record IsOpenable (program : Program) (r : Routine) (slots : ℕ) (call : Call) : Type 0 where
  pub leaf : IsLeaf (routine_at program call.callee) call.line
  pub some : 0 < call.line
  pub room : r.slots + (routine_at program call.callee).slots ≤ slots
  pub small : call.count ≤ MOST_GROWTH

-- Says that `need` states correctly, for inlining a call, the number of slots, the code size, and the number of the callee's instructions
-- placed at the call.
pub record IsNeed (program : Program) (r : Routine) (i : Instruction) (need : Need) : Type 0 where
  pub openable : (call : Call) → chosen_call i need.line ≡ Some call → IsOpenable program r need.slots call
  pub least : r.slots ≤ need.slots
  pub frame : need.slots + LAYOUT_WORDS ≤ MOST_FRAME_WORDS

-- Says that the list of decisions on inlining `new` extends `old` by the decision on one instruction: it is a call to be
-- inlined, or it is not inlined.
pub record IsChosenBy (old new : Choice) (need : Option Need) : Type 0 where
  pub line : ℕ
  pub chosen : new.chosen.items ≡ old.chosen.items ++ line ∷ []
  pub needed : 0 < line → (it : Need) × (need ≡ Some it) × (line ≡ it.line) × (it.slots ≤ new.slots)
  pub slots : (new.slots ≡ old.slots) ⊎ ((it : Need) × (need ≡ Some it) × (new.slots ≡ it.slots))
  pub least : old.slots ≤ new.slots
  pub growth : new.growth ≤ MOST_GROWTH

-- Says that the chosen calls of a function may be inlined, and that the function then has `slots` slots.
pub record AreChosen (program : Program) (r : Routine) (chosen : List ℕ) (slots : ℕ) : Type 0 where
  pub each : (index : ℕ) (i : Instruction) (call : Call) → At r.code index i → chosen_call i (place_in chosen index) ≡ Some call → IsOpenable program r slots call
  pub least : r.slots ≤ slots
  pub frame : (slots ≡ r.slots) ⊎ ((r.frame_count ≤ MOST_FRAME_WORDS) × (slots + LAYOUT_WORDS ≤ MOST_FRAME_WORDS))

-- ---- which instructions have a duplicate

-- The slot to which an instruction's duplicate writes: `wanted`, if the source function lacks this slot and the instruction may have
-- a duplicate.
abbrev pub duplicate_slot : (given slots : ℕ) → Instruction → (wanted : ℕ) → Option ℕ
duplicate_slot given slots i wanted = if may_have_duplicate i then (if nat_le given wanted then (if nat_lt wanted slots then Some wanted else None) else None) else None

-- The slot to which an instruction's duplicate writes, taken from the table of the slots that the
-- search for repeated expressions requested.
abbrev pub duplicate_by : Program → (number : ℕ) → Choice → (index : ℕ) → Instruction → Option ℕ
duplicate_by program number choice index i = duplicate_slot (routine_at program number).slots choice.slots i (place_in choice.duplicates.items index)

abbrev pub duplicate_in : Instruction → Option ℕ → List Instruction
duplicate_in i (Some slot) = duplicate slot i ∷ []
duplicate_in i None = []

-- ---- hoisted instructions

abbrev pub is_further : (given slots slot : ℕ) → Bool
is_further given slots slot = nat_le given slot && nat_lt slot slots

abbrev pub fits_in : (slots : ℕ) → Operand → Bool
fits_in slots (operands.Slot number) = nat_lt number slots
fits_in slots (operands.Word word) = nat_lt word (2 ^ 32)

-- Returns true if an instruction may be hoisted in a function with `slots` slots: every global and slot that it names exists.
abbrev pub may_hoisted : (globals given slots : ℕ) → Instruction → Bool
may_hoisted globals given slots (instructions.Move destination source) = is_further given slots destination && fits_in slots source
may_hoisted globals given slots (instructions.Binary operator destination left right) =
    not (is_division operator) && (is_further given slots destination && (fits_in slots left && fits_in slots right))
may_hoisted globals given slots (instructions.LoadGlobal destination global) = is_further given slots destination && nat_lt global globals
may_hoisted globals given slots instruction = false

-- The instructions requested for hoisting that may be hoisted before an instruction. The list of these instructions is empty if
-- more than `MOST_HOISTED` are requested.
abbrev pub all_hoisted_of : (globals given slots : ℕ) → Instruction → (wanted : List Instruction) → List Instruction
all_hoisted_of globals given slots i wanted = if may_follow_hoisted i && nat_le (length wanted) MOST_HOISTED then filter (may_hoisted globals given slots) wanted else []

abbrev pub all_hoisted_if : (globals given slots : ℕ) → Instruction → (wanted : Option (Vec Instruction Global)) → List Instruction
all_hoisted_if globals given slots i (Some wanted) = all_hoisted_of globals given slots i wanted.items
all_hoisted_if globals given slots i None = []

-- The instructions that are hoisted before an instruction, taken from the table of the instructions that the search
-- for loop invariants requested.
abbrev pub all_hoisted_by : Program → (number : ℕ) → Choice → (index : ℕ) → Instruction → List Instruction
all_hoisted_by program number choice index i =
    all_hoisted_if (length program.globals) (routine_at program number).slots choice.slots i (slice_get choice.all_hoisted.items index)

-- The instructions put before an instruction: the hoisted instructions, then the instruction's duplicate.
abbrev pub front_by : Program → (number : ℕ) → Choice → (index : ℕ) → Instruction → List Instruction
front_by program number choice index i = all_hoisted_by program number choice index i ++ duplicate_in i (duplicate_by program number choice index i)

-- ---- the code of a function: in line, and out of line after it

abbrev pub site_of : Program → Routine → Call → (following rest : ℕ) → Site
site_of program r call following rest = record {
  call = call;
  shift = r.slots;
  results = (routine_at program call.callee).results;
  following = following;
  rest = rest;
}

-- The replacement of an instruction that is not an inlined call: the instructions put before it, then the instruction with moved jump
-- targets.
abbrev pub own_part : (place : ℕ → ℕ) → Instruction → (front : List Instruction) → List Instruction
own_part place i front = front ++ moved 0 place i ∷ []

abbrev pub own_count : (front : ℕ) → ℕ
own_count front = suc front

-- The replacement of an instruction: the code of an inlined call, or the instruction itself.
abbrev pub part : Program → (number : ℕ) → (place rest : ℕ → ℕ) → (in_line : Bool) → (index : ℕ) → Instruction → Option Call → (front : List Instruction) → List Instruction
part program number place rest in_line index i (Some call) front =
    site_code (site_of program (routine_at program number) call (place (index + 1)) (rest index)) in_line (place index) (routine_at program call.callee).code
part program number place rest in_line index i None front = if in_line then own_part place i front else []

abbrev pub part_origins : Program → (number : ℕ) → (in_line : Bool) → (index : ℕ) → Option Call → (front : ℕ) → List Origin
part_origins program number in_line index (Some call) front =
    site_origins call (routine_at program call.callee).results in_line (origin_at number index) (routine_at program call.callee).code
part_origins program number in_line index None front = if in_line then replicate (own_count front) (origin_at number index) else []

abbrev pub part_count : Program → (in_line : Bool) → Option Call → (front : ℕ) → ℕ
part_count program in_line (Some call) front = call_size program in_line call
part_count program in_line None front = if in_line then own_count front else 0

-- The concatenated replacements of all instructions from `index` on, each with the instructions put before it.
abbrev pub opened_code : Program → (number : ℕ) → List ℕ → (front_at : ℕ → Instruction → List Instruction) → (place rest : ℕ → ℕ) → (in_line : Bool) → (index : ℕ) → List Instruction → List Instruction
opened_code program number chosen front_at place rest in_line index [] = []
opened_code program number chosen front_at place rest in_line index (i ∷ code) =
    part program number place rest in_line index i (chosen_call i (place_in chosen index)) (front_at index i)
    ++ opened_code program number chosen front_at place rest in_line (suc index) code

abbrev pub opened_origins : Program → (number : ℕ) → List ℕ → (front_at : ℕ → Instruction → List Instruction) → (in_line : Bool) → (index : ℕ) → List Instruction → List Origin
opened_origins program number chosen front_at in_line index [] = []
opened_origins program number chosen front_at in_line index (i ∷ code) =
    part_origins program number in_line index (chosen_call i (place_in chosen index)) (length (front_at index i))
    ++ opened_origins program number chosen front_at in_line (suc index) code

-- The code positions of the replacements of all instructions, if the first begins at `here`, and the position after the last.
abbrev pub opened_places : Program → List ℕ → (front_at : ℕ → Instruction → List Instruction) → (in_line : Bool) → (index here : ℕ) → List Instruction → List ℕ
opened_places program chosen front_at in_line index here [] = here ∷ []
opened_places program chosen front_at in_line index here (i ∷ code) =
    here ∷ opened_places program chosen front_at in_line (suc index) (here + part_count program in_line (chosen_call i (place_in chosen index)) (length (front_at index i))) code

abbrev pub opened_end : Program → List ℕ → (front_at : ℕ → Instruction → List Instruction) → (in_line : Bool) → (index here : ℕ) → List Instruction → ℕ
opened_end program chosen front_at in_line index here [] = here
opened_end program chosen front_at in_line index here (i ∷ code) =
    opened_end program chosen front_at in_line (suc index) (here + part_count program in_line (chosen_call i (place_in chosen index)) (length (front_at index i))) code

-- Says that the instructions put before an instruction are hoisted ones or its duplicate, and that the slots
-- and globals that they name exist.
pub record IsFront (program : Program) (r : Routine) (slots : ℕ) (i : Instruction) (front : List Instruction) : Type 0 where
  pub each : AllByRecursion (λ (x : Instruction). (may_hoisted (length program.globals) r.slots slots x ≡ true) ⊎ IsDuplicate r.slots slots i x) front
  pub some : 0 < length front → may_follow_hoisted i ≡ true

-- The parts that make up a function's code. The parts of a function's code are the chosen calls, the instructions put before each
-- instruction, and two tables. The tables give, for each instruction, the code position of its replacement, and of the part placed
-- after the caller's code.
pub record AreParts (program : Program) (number : ℕ) (chosen : List ℕ) (front_at : ℕ → Instruction → List Instruction) (places rests : List ℕ) (slots : ℕ) : Type 0 where
  pub plain : IsPlain program
  pub is_function : number < length program.functions
  pub calls : AreChosen program (routine_at program number) chosen slots
  pub fronts : (k : ℕ) (i : Instruction) → IsFront program (routine_at program number) slots i (front_at k i)
  pub few : slots < 2 ^ 64
  pub standing : places ≡ opened_places program chosen front_at true 0 0 (routine_at program number).code
  pub resting : rests ≡ opened_places program chosen front_at false 0 (opened_end program chosen front_at true 0 0 (routine_at program number).code) (routine_at program number).code
  pub fit : (k : ℕ) → place_in rests k < 2 ^ 64

abbrev pub IsKnown : Caller → Type 0
IsKnown caller =
    AreParts caller.plain.now caller.number caller.choice.now.chosen.items (front_by caller.plain.now caller.number caller.choice.now) caller.places.now caller.rests.now
    caller.choice.now.slots

-- ---- replaced functions

-- Says that a function is a correct replacement of a program's function: the function with some of its calls inlined.
pub record IsMade (program : Program) (number : ℕ) (s : Routine) (origins : List Origin) : Type 0 where
  pub opened : IsOpened program number (routine_at program number) s origins
  pub routine : IsRoutine program s
  pub words : All HasWord s.code

-- Says that the list records, for `count` instructions that are left unchanged, that each is made from itself.
pub record AreOwn (number count : ℕ) (origins : List Origin) : Type 0 where
  pub as_many : length origins ≡ count
  pub each : (k : ℕ) → k < count → slice_get origins k ≡ Some (origin_at number k)

-- Says that the functions are correct replacements of the first `count` functions of a program, and that the
-- recorded source instructions are correct.
pub record AreFirstMade (program : Program) (count : ℕ) (routines : List Routine) (origins : List (List Origin)) : Type 0 where
  pub as_many : length routines ≡ count
  pub as_many_origins : length origins ≡ count
  pub each : (k : ℕ) → k < count → IsMade program k (slice_index_or routines k no_routine) (origins_of origins k)
