-- If everything that an instruction names exists, so does everything that it names after its slots
-- are shifted and its jump targets are moved.
use Rattle.std.proofs.Common.{◌≡◌, ℕ, ◌+◌, ◌^◌, ◌<◌, ◌≤◌, true, false, length, Option, Some, None, refl, sym, ap, ◌∙◌, arith}
use Rattle.std.specs.Prelude.{not, ◌&&◌, nat_lt}
use Rattle.std.proofs.lemmas.Bool.{false≢true}
use Rattle.cyc_words.proofs.Booleans.{and_left, and_right}
use Rattle.cyc_words.proofs.Numbers.{nat_lt-true}
use Rattle.cyc_plain.specs.declared.instruction.Instruction.{Instruction}
use Rattle.cyc_plain.specs.declared.instruction.Instruction.TheVariants as instructions
use Rattle.cyc_plain.specs.declared.instruction.Operand.{Operand}
use Rattle.cyc_plain.specs.declared.instruction.Operand.TheVariants as operands
use Rattle.cyc_plain.specs.declared.limits.TheConstants.{RECORD_WORDS}
use Rattle.cyc_plain.specs.inside.Memory.{pins}
use Rattle.cyc_plain.specs.inside.Requests.{first_operand, second_operand, answer_count, destination_of}
use Rattle.cyc_plain.specs.inside.Program.{Routine, Program, routine_at}
use Rattle.cyc_plain.specs.inside.WellFormed.{HasSlots, IsOperand, IsArgument, IsInRange, IsOfWord, HasWord, is_return, leaves}
use Rattle.cyc_inline.specs.inside.Opened.{shifted_operand, moved, is_division, may_have_duplicate, duplicate, may_follow_hoisted, is_end, is_of_leaf}
use Rattle.cyc_inline.specs.inside.Emission.{is_further, fits_in, may_hoisted}
use Rattle.cyc_inline.proofs.ChoosingCalls.{further_below}

-- ---- the named slots, globals, functions and places

module _ (program : Program) (t s : Routine) (shift : ℕ) (place : ℕ → ℕ) (room : shift + t.slots ≤ s.slots)
    (placed : (target : ℕ) → target < length t.code → place target < length s.code) where
  slot_in : (slot : ℕ) → slot < t.slots → shift + slot < s.slots
  slot_in slot is = omega (arith, is, room)

  slot_still : (slot : ℕ) → slot < t.slots → slot < s.slots
  slot_still slot is = omega (arith, is, room)

  slots_in : (first count : ℕ) → HasSlots t first count → HasSlots s (shift + first) count
  slots_in first count is = omega (arith, is, room)

  slots_still : (first count : ℕ) → HasSlots t first count → HasSlots s first count
  slots_still first count is = omega (arith, is, room)

  operand_in : (operand : Operand) → IsOperand t operand → IsOperand s (shifted_operand shift operand)
  operand_in (operands.Slot number) is = slot_in number is
  operand_in (operands.Word word) is = tt

  operand_still : (operand : Operand) → IsOperand t operand → IsOperand s operand
  operand_still (operands.Slot number) is = slot_still number is
  operand_still (operands.Word word) is = tt

  argument_still : (argument : Option Operand) → IsArgument t argument → IsArgument s argument
  argument_still (Some operand) is = operand_still operand is
  argument_still None is = tt

  -- An instruction with shifted slots and moved jump targets names only existing slots, globals and functions,
  -- unless it is a return or opens a handler.
  pub moved_in : (i : Instruction) → IsInRange program t i → ((value : ℕ) → is_end i ≡ Some value → HasSlots s value s.results)
      → ((first handler : ℕ) → i ≡ instructions.Try first handler → IsInRange program s (instructions.Try first (place handler))) → IsInRange program s (moved shift place i)
  moved_in (instructions.Move destination source) (first, second) ends tries = (slot_in destination first, operand_in source second)
  moved_in (instructions.MoveWords destination source count) is ends tries = record {
    some = is.some;
    few = is.few;
    destination_in_range = slots_in destination count is.destination_in_range;
    source_in_range = slots_in source count is.source_in_range;
  }
  moved_in (instructions.Unary operator destination operand) (first, second) ends tries = (slot_in destination first, operand_in operand second)
  moved_in (instructions.Binary operator destination left right) (first, second, third) ends tries =
      (slot_in destination first, operand_in left second, operand_in right third)
  moved_in (instructions.Jump target) is ends tries = placed target is
  moved_in (instructions.Branch comparison left right target) (first, second, third) ends tries = (operand_in left first, operand_in right second, placed target third)
  moved_in (instructions.Call function arguments count result) is ends tries = record {
    function_in_range = is.function_in_range;
    takes = is.takes;
    arguments_in_range = slots_still arguments count is.arguments_in_range;
    result_in_range = slots_still result (routine_at program function).results is.result_in_range;
  }
  moved_in (instructions.Enter function) is ends tries = is
  moved_in (instructions.Return value) is ends tries = ends value refl
  moved_in (instructions.ReadByte destination) is ends tries = slot_in destination is
  moved_in (instructions.WriteByte source) is ends tries = operand_in source is
  moved_in (instructions.AddressOf destination slot count) (first, second, third) ends tries = (slot_still destination first, second, slots_still slot count third)
  moved_in (instructions.LoadGlobal destination global) (first, second) ends tries = (slot_in destination first, second)
  moved_in (instructions.StoreGlobal global source) (first, second) ends tries = (first, operand_in source second)
  moved_in (instructions.Load destination address offset) (first, second) ends tries = (slot_in destination first, operand_in address second)
  moved_in (instructions.Store address offset source) (first, second) ends tries = (operand_in address first, operand_in source second)
  moved_in (instructions.LoadByte destination address offset) (first, second) ends tries = (slot_in destination first, operand_in address second)
  moved_in (instructions.StoreByte address offset source) (first, second) ends tries = (operand_in address first, operand_in source second)
  moved_in (instructions.Ask request) is ends tries = record {
    answer_in_range = slots_still (destination_of request) (answer_count request) is.answer_in_range;
    first_in_range = argument_still (first_operand request) is.first_in_range;
    second_in_range = argument_still (second_operand request) is.second_in_range;
  }
  moved_in (instructions.CountLexical destination) is ends tries = slot_in destination is
  moved_in (instructions.Try first handler) is ends tries = tries first handler refl
  moved_in (instructions.Leave first) is ends tries = slots_still first RECORD_WORDS is
  moved_in (instructions.Throw tag value) (first, second) ends tries = (operand_in tag first, operand_in value second)
  moved_in (instructions.Finish value) is ends tries = ends value refl
  moved_in (instructions.Uncaught tag value) is ends tries = operand_still value is

-- ---- words and pinned slots of a moved instruction

word_moved : (shift : ℕ) (operand : Operand) → IsOfWord operand → IsOfWord (shifted_operand shift operand)
word_moved shift (operands.Slot number) is = tt
word_moved shift (operands.Word word) is = is

-- The numbers in an instruction still fit machine words after its slots are shifted and its jump targets are moved.
pub has_word : (shift : ℕ) (place : ℕ → ℕ) (i : Instruction) → HasWord i → HasWord (moved shift place i)
has_word shift place (instructions.Move destination source) has = word_moved shift source has
has_word shift place (instructions.Unary operator destination operand) has = word_moved shift operand has
has_word shift place (instructions.Binary operator destination left right) (first, second) = (word_moved shift left first, word_moved shift right second)
has_word shift place (instructions.Branch comparison left right target) (first, second) = (word_moved shift left first, word_moved shift right second)
has_word shift place (instructions.WriteByte source) has = word_moved shift source has
has_word shift place (instructions.StoreGlobal global source) has = word_moved shift source has
has_word shift place (instructions.Load destination address offset) (first, second) = (word_moved shift address first, second)
has_word shift place (instructions.Store address offset source) (first, second, third) = (word_moved shift address first, second, word_moved shift source third)
has_word shift place (instructions.LoadByte destination address offset) (first, second) = (word_moved shift address first, second)
has_word shift place (instructions.StoreByte address offset source) (first, second, third) = (word_moved shift address first, second, word_moved shift source third)
has_word shift place (instructions.Throw tag value) (first, second) = (word_moved shift tag first, word_moved shift value second)
has_word shift place i has = has

pub same_return_moved : (shift : ℕ) (place : ℕ → ℕ) (i : Instruction) → is_return (moved shift place i) ≡ is_return i
same_return_moved shift place (instructions.Jump target) = refl
same_return_moved shift place i = refl

pub same_leaving : (shift : ℕ) (place : ℕ → ℕ) (i : Instruction) → leaves (moved shift place i) ≡ leaves i
same_leaving shift place (instructions.Jump target) = refl
same_leaving shift place i = refl

-- An instruction takes the addresses of the same slots after its slots are shifted and its jump targets are moved.
pub same_pins : (shift : ℕ) (place : ℕ → ℕ) (i : Instruction) (slot : ℕ) → pins (moved shift place i) slot ≡ pins i slot
same_pins shift place (instructions.Jump target) slot = refl
same_pins shift place i slot = refl

-- ---- a duplicate

-- A slot that exists in a function also exists in one with more slots.
operand_in_more : (r s : Routine) (operand : Operand) → r.slots ≤ s.slots → IsOperand r operand → IsOperand s operand
operand_in_more r s (operands.Slot number) least is = omega (arith, is, least)
operand_in_more r s (operands.Word word) least is = tt

pub duplicate_in : (program : Program) (r s : Routine) (slot : ℕ) (i : Instruction) → r.slots ≤ s.slots → slot < s.slots → may_have_duplicate i ≡ true → IsInRange program r i
    → IsInRange program s (duplicate slot i)
duplicate_in program r s slot (instructions.Binary operator destination left right) least room may (first, second, third) =
    (room, operand_in_more r s left least second, operand_in_more r s right least third)
duplicate_in program r s slot (instructions.LoadGlobal destination global) least room may (first, second) = (room, second)
duplicate_in program r s slot (instructions.Load destination address offset) least room may (first, second) = (room, operand_in_more r s address least second)
duplicate_in program r s slot i least room may is = absurd (false≢true may)

pub duplicate_word : (slot : ℕ) (i : Instruction) → HasWord i → HasWord (duplicate slot i)
duplicate_word slot (instructions.Load destination address offset) has = has
duplicate_word slot i has = has

pub same_return_duplicate : (slot : ℕ) (i : Instruction) → is_return (duplicate slot i) ≡ is_return i
same_return_duplicate slot (instructions.Load destination address offset) = refl
same_return_duplicate slot i = refl

pub same_pins_duplicate : (further : ℕ) (i : Instruction) (slot : ℕ) → pins (duplicate further i) slot ≡ pins i slot
same_pins_duplicate further (instructions.Load destination address offset) slot = refl
same_pins_duplicate further i slot = refl

-- ---- a hoisted instruction

-- Each operand of a hoisted instruction names an existing slot.
operand_fits : (s : Routine) (operand : Operand) → fits_in s.slots operand ≡ true → IsOperand s operand
operand_fits s (operands.Slot number) fits = nat_lt-true number s.slots fits
operand_fits s (operands.Word word) fits = tt

pub hoisted_in : (program : Program) (s : Routine) (given : ℕ) (x : Instruction) → may_hoisted (length program.globals) given s.slots x ≡ true → IsInRange program s x
hoisted_in program s given (instructions.Move destination source) may =
    let further = is_further given s.slots destination in
    let fits = fits_in s.slots source in
    (further_below given s.slots destination (and_left further fits may), operand_fits s source (and_right further fits may))
hoisted_in program s given (instructions.Binary operator destination left right) may =
    let further = is_further given s.slots destination in
    let first = fits_in s.slots left in
    let second = fits_in s.slots right in
    let more : (further && (first && second)) ≡ true = and_right (not (is_division operator)) (further && (first && second)) may in
    let both : (first && second) ≡ true = and_right further (first && second) more in (
      further_below given s.slots destination (and_left further (first && second) more),
      operand_fits s left (and_left first second both),
      operand_fits s right (and_right first second both),
    )
hoisted_in program s given (instructions.LoadGlobal destination global) may =
    let further = is_further given s.slots destination in
    let there = nat_lt global (length program.globals) in
    (further_below given s.slots destination (and_left further there may), nat_lt-true global (length program.globals) (and_right further there may))
hoisted_in program s given x may = absurd (false≢true may)

word_fits : (slots : ℕ) (operand : Operand) → fits_in slots operand ≡ true → IsOfWord operand
word_fits slots (operands.Slot number) fits = tt
word_fits slots (operands.Word word) fits = nat_lt-true word (2 ^ 32) fits

pub hoisted_word : (globals given slots : ℕ) (x : Instruction) → may_hoisted globals given slots x ≡ true → HasWord x
hoisted_word globals given slots (instructions.Move destination source) may =
    word_fits slots source (and_right (is_further given slots destination) (fits_in slots source) may)
hoisted_word globals given slots (instructions.Binary operator destination left right) may =
    let further = is_further given slots destination in
    let first = fits_in slots left in
    let second = fits_in slots right in
    let more : (further && (first && second)) ≡ true = and_right (not (is_division operator)) (further && (first && second)) may in
    let both : (first && second) ≡ true = and_right further (first && second) more in
    (word_fits slots left (and_left first second both), word_fits slots right (and_right first second both))
hoisted_word globals given slots (instructions.LoadGlobal destination global) may = tt
hoisted_word globals given slots x may = absurd (false≢true may)

pub no_return_hoisted : (globals given slots : ℕ) (x : Instruction) → may_hoisted globals given slots x ≡ true → is_return x ≡ false
no_return_hoisted globals given slots (instructions.Return value) may = absurd (false≢true may)
no_return_hoisted globals given slots x may = refl

pub hoisted_pins_none : (globals given slots : ℕ) (x : Instruction) → may_hoisted globals given slots x ≡ true → (slot : ℕ) → pins x slot ≡ false
hoisted_pins_none globals given slots (instructions.AddressOf destination first count) may slot = absurd (false≢true may)
hoisted_pins_none globals given slots x may slot = refl

-- An instruction through which control never falls has no hoisted instructions before it.
pub leaves_alone : (i : Instruction) → leaves i ≡ true → may_follow_hoisted i ≡ false
leaves_alone (instructions.Move destination source) leaving = absurd (false≢true leaving)
leaves_alone (instructions.MoveWords destination source count) leaving = absurd (false≢true leaving)
leaves_alone (instructions.Unary operator destination operand) leaving = absurd (false≢true leaving)
leaves_alone (instructions.Binary operator destination left right) leaving = absurd (false≢true leaving)
leaves_alone (instructions.Branch comparison left right target) leaving = absurd (false≢true leaving)
leaves_alone (instructions.ReadByte destination) leaving = absurd (false≢true leaving)
leaves_alone (instructions.WriteByte source) leaving = absurd (false≢true leaving)
leaves_alone (instructions.LoadGlobal destination global) leaving = absurd (false≢true leaving)
leaves_alone (instructions.StoreGlobal global source) leaving = absurd (false≢true leaving)
leaves_alone (instructions.Load destination address offset) leaving = absurd (false≢true leaving)
leaves_alone (instructions.Store address offset source) leaving = absurd (false≢true leaving)
leaves_alone (instructions.LoadByte destination address offset) leaving = absurd (false≢true leaving)
leaves_alone (instructions.StoreByte address offset source) leaving = absurd (false≢true leaving)
leaves_alone i leaving = refl

-- ---- an instruction of a leaf

pub leaf_pins_none : (i : Instruction) → is_of_leaf i ≡ true → (slot : ℕ) → pins i slot ≡ false
leaf_pins_none (instructions.AddressOf destination first count) leaf slot = absurd (false≢true leaf)
leaf_pins_none i leaf slot = refl

pub no_try : (first handler : ℕ) (i : Instruction) → is_of_leaf i ≡ true → i ≡ instructions.Try first handler → ⊥
no_try first handler i leaf is = false≢true (sym (ap is_of_leaf is) ∙ leaf)

pub no_return : (i : Instruction) → is_end i ≡ None → is_return i ≡ false
no_return (instructions.Return value) is = absurd (let e : Some value ≡ None = is in cc)
no_return i is = refl
