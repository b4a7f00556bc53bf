-- Worked examples of runs of the plain machine, each proved by computation.
use Rattle.std.proofs.Common.{◌≡◌, ℕ, List, [], ◌∷◌, pos, negsuc, refl}
use Rattle.cyc_words.specs.Word.{slt_of, sar_of, div_of, rem_of}
use Rattle.cyc_words.specs.Ending.{Returned, Uncaught, Full}
use Rattle.cyc_store.specs.State.{StoreState}
use Rattle.cyc_store.specs.State as stores
use Rattle.cyc_plain.specs.declared.instruction.Instruction.{Instruction}
use Rattle.cyc_plain.specs.declared.instruction.Instruction.TheVariants.{Move, Unary, Binary, Jump, Branch, Call, Return, ReadByte, WriteByte, LoadGlobal, StoreGlobal}
use Rattle.cyc_plain.specs.declared.instruction.Instruction.TheVariants as instructions
use Rattle.cyc_plain.specs.declared.instruction.Operand.{Operand}
use Rattle.cyc_plain.specs.declared.instruction.Operand.TheVariants.{Slot, Word}
use Rattle.cyc_plain.specs.declared.instruction.Request.TheVariants as requests
use Rattle.cyc_plain.specs.declared.instruction.Comparison.{Comparison}
use Rattle.cyc_plain.specs.declared.instruction.Comparison.TheVariants as comparisons
use Rattle.cyc_plain.specs.declared.instruction.UnaryOperator.{UnaryOperator}
use Rattle.cyc_plain.specs.declared.instruction.UnaryOperator.TheVariants as unary
use Rattle.cyc_plain.specs.declared.instruction.BinaryOperator.{BinaryOperator}
use Rattle.cyc_plain.specs.declared.instruction.BinaryOperator.TheVariants as binary
use Rattle.cyc_words.specs.Simulation.{Status, Ended, Failed}
use Rattle.cyc_words.specs.Simulation as simulation
use Rattle.cyc_plain.specs.inside.Program.{Routine, Program, size, places_of}
use Rattle.cyc_plain.specs.inside.State.{State, output_of, input_of, status_of, depth}
use Rattle.cyc_plain.specs.inside.Step.{run, start}
use Rattle.cyc_plain.proofs.RunLaws.{zeros}

-- Returns an example function with four slots, the given number of parameters and one result word.
abbrev function : ℕ → List Instruction → Routine
function parameters code = record {
  name = record { line = 1; column = 1 };
  parameters = parameters;
  results = 1;
  slots = 4;
  frame_count = 12;
  code = code;
}

abbrev program : List Instruction → Program
program code = record { functions = function 0 code ∷ []; globals = 3 ∷ []; main = 0 }

abbrev empty_store : StoreState
empty_store = stores.start 3 (λ (address : ℕ). 0)

-- Returns the state of a program after `steps` steps, with at most `calls` active calls.
abbrev after : ℕ → ℕ → Program → List ℕ → State
after steps calls p input = run p 3 calls zeros steps (start p 0x7ffff000 empty_store input)

-- A store (heap of regions) with a single block of two words, in which the following examples start.
abbrev two_words : StoreState
two_words = stores.made_in empty_store 1 (record { address = 0x20000000; size = 2 })

abbrev after_with_block : ℕ → Program → State
after_with_block steps p = run p 3 1 zeros steps (start p 0x7ffff000 two_words [])

-- ---- constants and operators

abbrev of_one : UnaryOperator → ℕ → Status
of_one operator a = status_of (after 3 1 (program (Move 0 (Word a) ∷ Unary operator 1 (Slot 0) ∷ Return 1 ∷ [])) [])

abbrev of_two : BinaryOperator → ℕ → ℕ → Status
of_two operator a b = status_of (after 4 1 (program (Move 0 (Word a) ∷ Move 1 (Word b) ∷ Binary operator 2 (Slot 0) (Slot 1) ∷ Return 2 ∷ [])) [])

constant : status_of (after 2 1 (program (Move 0 (Word 7) ∷ Return 0 ∷ [])) []) ≡ Ended (Returned (pos 7))
constant = refl

not_ended_before : status_of (after 1 1 (program (Move 0 (Word 7) ∷ Return 0 ∷ [])) []) ≡ simulation.Running
not_ended_before = refl

negative : status_of (after 3 1 (program (Move 0 (Word 0xffffffff) ∷ Move 1 (Slot 0) ∷ Return 1 ∷ [])) []) ≡ Ended (Returned (negsuc 0))
negative = refl

plain_negate_wraps : of_one unary.Negate 0x80000000 ≡ Ended (Returned (negsuc 2147483647))
plain_negate_wraps = refl

plain_complement : of_one unary.Complement 0 ≡ Ended (Returned (negsuc 0))
plain_complement = refl

plain_not_of_zero : of_one unary.Not 0 ≡ Ended (Returned (pos 1))
plain_not_of_zero = refl

plain_not_of_five : of_one unary.Not 5 ≡ Ended (Returned (pos 0))
plain_not_of_five = refl

plain_sum_wraps : of_two binary.Add 2147483647 1 ≡ Ended (Returned (negsuc 2147483647))
plain_sum_wraps = refl

plain_difference_wraps : of_two binary.Subtract 0x80000000 1 ≡ Ended (Returned (pos 2147483647))
plain_difference_wraps = refl

plain_product_wraps : of_two binary.Multiply 65536 65537 ≡ Ended (Returned (pos 65536))
plain_product_wraps = refl

quotient_toward_zero : of_two binary.Divide 0xfffffff9 2 ≡ Ended (Returned (negsuc 2))
unfolding div_of
quotient_toward_zero = refl

plain_quotient_wraps : of_two binary.Divide 0x80000000 0xffffffff ≡ Ended (Returned (negsuc 2147483647))
unfolding div_of
plain_quotient_wraps = refl

plain_remainder_of_negative : of_two binary.Remainder 0xfffffff9 2 ≡ Ended (Returned (negsuc 0))
unfolding rem_of
plain_remainder_of_negative = refl

division_by_zero_is_stuck : of_two binary.Divide 1 0 ≡ Failed
division_by_zero_is_stuck = refl

bits : of_two binary.Xor 12 10 ≡ Ended (Returned (pos 6))
bits = refl

plain_shift_left_by_33 : of_two binary.ShiftLeft 3 33 ≡ Ended (Returned (pos 6))
plain_shift_left_by_33 = refl

plain_shift_right_of_negative : of_two binary.ShiftRight 0xfffffff8 1 ≡ Ended (Returned (negsuc 3))
unfolding sar_of
plain_shift_right_of_negative = refl

plain_equal : of_two binary.Equal 5 5 ≡ Ended (Returned (pos 1))
plain_equal = refl

plain_not_equal : of_two binary.NotEqual 5 5 ≡ Ended (Returned (pos 0))
plain_not_equal = refl

less_is_signed : of_two binary.Less 0xffffffff 0 ≡ Ended (Returned (pos 1))
unfolding slt_of
less_is_signed = refl

plain_less_or_equal : of_two binary.LessOrEqual 7 7 ≡ Ended (Returned (pos 1))
plain_less_or_equal = refl

greater_is_signed : of_two binary.Greater 0xffffffff 0 ≡ Ended (Returned (pos 0))
unfolding slt_of
greater_is_signed = refl

plain_greater_or_equal : of_two binary.GreaterOrEqual 0x80000000 0x7fffffff ≡ Ended (Returned (pos 0))
plain_greater_or_equal = refl

-- ---- branches

-- An example program that computes the sum 5 + 4 + .. + 1 in a loop.
abbrev sum_down : Program
sum_down = program (
    Move 0 (Word 0) ∷ Move 1 (Word 5) ∷ Move 2 (Word 1)
    ∷ Branch comparisons.Equal (Slot 1) (Word 0) 7
    ∷ Binary binary.Add 0 (Slot 0) (Slot 1) ∷ Binary binary.Subtract 1 (Slot 1) (Slot 2) ∷ Jump 3
    ∷ Return 0 ∷ [])

sums_up : status_of (after 25 1 sum_down []) ≡ Ended (Returned (pos 15))
sums_up = refl

plain_loops_for_ever : status_of (after 100 1 (program (Jump 0 ∷ [])) []) ≡ simulation.Running
plain_loops_for_ever = refl

jumps_if_nonzero : status_of (after 3 1 (program (Move 0 (Word 2) ∷ Branch comparisons.NotEqual (Slot 0) (Word 0) 3 ∷ Return 1 ∷ Return 0 ∷ [])) []) ≡ Ended (Returned (pos 2))
jumps_if_nonzero = refl

runs_off_the_end : status_of (after 2 1 (program (Move 0 (Word 1) ∷ [])) []) ≡ Failed
runs_off_the_end = refl

-- ---- calls

-- An example program whose function `f` prints `A` and calls itself with its argument minus 1, down to 0; `main` calls `f(3)`.
abbrev recursion : Program
recursion = record {
  functions =
      function 0 (Move 0 (Word 3) ∷ Call 1 0 1 0 ∷ Return 0 ∷ [])
      ∷ function 1 (
      Move 1 (Word 65) ∷ WriteByte (Slot 1) ∷ Branch comparisons.Equal (Slot 0) (Word 0) 6
      ∷ Move 1 (Word 1) ∷ Binary binary.Subtract 1 (Slot 0) (Slot 1) ∷ Call 1 1 1 0
      ∷ Return 0 ∷ [])
      ∷ [];
  globals = [];
  main = 0;
}

recursion_ends : status_of (after 40 5 recursion []) ≡ Ended (Returned (pos 0))
recursion_ends = refl

recursion_prints : output_of (after 40 5 recursion []) ≡ 65 ∷ 65 ∷ 65 ∷ 65 ∷ []
recursion_prints = refl

-- If at most four calls may be active, the fifth call ends the run, and the output is as before this call.
recursion_is_full : status_of (after 40 4 recursion []) ≡ Ended Full
recursion_is_full = refl

full_prints : output_of (after 40 4 recursion []) ≡ 65 ∷ 65 ∷ 65 ∷ []
full_prints = refl

recursion_depth : depth (after 9 5 recursion []) ≡ 3
recursion_depth = refl

call_counts_its_argument : size (function 0 (Move 0 (Word 3) ∷ Call 1 0 1 0 ∷ Return 0 ∷ [])) ≡ 68
call_counts_its_argument = refl

-- ---- checks of stack room

-- An example program whose `main` checks that the stack has space for a recursive call, and returns.
abbrev asking : Program
asking = program (instructions.Enter 0 ∷ Move 0 (Word 7) ∷ Return 0 ∷ [])

room_for_one_more : status_of (after 3 2 asking []) ≡ Ended (Returned (pos 7))
room_for_one_more = refl

no_room_for_one_more : status_of (after 1 1 asking []) ≡ Ended Full
no_room_for_one_more = refl

enter_is_no_call : depth (after 1 2 asking []) ≡ 1
enter_is_no_call = refl

-- ---- services, globals and exceptions

abbrev echo : Program
echo = program (
    ReadByte 0 ∷ Move 1 (Word 0) ∷ Binary binary.Less 2 (Slot 0) (Slot 1) ∷ Branch comparisons.NotEqual (Slot 2) (Word 0) 6 ∷ WriteByte (Slot 0) ∷ Jump 0 ∷ Return 1 ∷ [])

plain_echo_prints : output_of (after 20 1 echo (104 ∷ 105 ∷ [])) ≡ 104 ∷ 105 ∷ []
unfolding slt_of
plain_echo_prints = refl

plain_echo_ends : status_of (after 20 1 echo (104 ∷ 105 ∷ [])) ≡ Ended (Returned (pos 0))
unfolding slt_of
plain_echo_ends = refl

end_of_input : status_of (after 2 1 (program (ReadByte 0 ∷ Return 0 ∷ [])) []) ≡ Ended (Returned (negsuc 0))
end_of_input = refl

plain_one_byte_is_read : input_of (after 1 1 (program (ReadByte 0 ∷ Return 0 ∷ [])) (7 ∷ 8 ∷ [])) ≡ 8 ∷ []
plain_one_byte_is_read = refl

plain_low_byte_is_printed : output_of (after 2 1 (program (Move 0 (Word 321) ∷ WriteByte (Slot 0) ∷ Return 0 ∷ [])) []) ≡ 65 ∷ []
plain_low_byte_is_printed = refl

global_is_counted_up : status_of (after 6 1 (program (LoadGlobal 0 0 ∷ Move 1 (Word 1) ∷ Binary binary.Add 0 (Slot 0) (Slot 1) ∷ StoreGlobal 0 (Slot 0) ∷ LoadGlobal 2 0 ∷ Return 2 ∷ [])) []) ≡ Ended (Returned (pos 4))
global_is_counted_up = refl

plain_uncaught : status_of (after 2 1 (program (Move 0 (Word 0) ∷ instructions.Uncaught 4 (Slot 0) ∷ [])) []) ≡ Ended (Uncaught 4 (pos 0))
plain_uncaught = refl

plain_places : places_of (program (Move 0 (Word 0) ∷ Return 0 ∷ [])) ≡ record { function = 0; index = 0 } ∷ record { function = 0; index = 1 } ∷ []
plain_places = refl

-- ---- comparisons of a branch, and constant operands

-- Returns the exit status of a program that returns 1 if a branch is taken that compares the two given words, otherwise 0.
abbrev of_branch : Comparison → ℕ → ℕ → Status
of_branch comparison a b =
    status_of (after 4 1 (program (Branch comparison (Word a) (Word b) 3 ∷ Move 0 (Word 0) ∷ Return 0 ∷ Move 0 (Word 1) ∷ Return 0 ∷ [])) [])

minus_one_is_less : of_branch comparisons.Less 0xffffffff 0 ≡ Ended (Returned (pos 1))
minus_one_is_less = refl

minus_one_is_not_less_unsigned : of_branch comparisons.LessUnsigned 0xffffffff 0 ≡ Ended (Returned (pos 0))
minus_one_is_not_less_unsigned = refl

not_less_unsigned : of_branch comparisons.GreaterOrEqualUnsigned 0xffffffff 0 ≡ Ended (Returned (pos 1))
not_less_unsigned = refl

equal_is_at_most : of_branch comparisons.LessOrEqual 5 5 ≡ Ended (Returned (pos 1))
equal_is_at_most = refl

equal_is_at_least : of_branch comparisons.GreaterOrEqual 5 5 ≡ Ended (Returned (pos 1))
equal_is_at_least = refl

equal_is_not_greater : of_branch comparisons.Greater 5 5 ≡ Ended (Returned (pos 0))
equal_is_not_greater = refl

equal_is_not_less_unsigned : of_branch comparisons.LessUnsigned 5 5 ≡ Ended (Returned (pos 0))
equal_is_not_less_unsigned = refl

words_are_operands : status_of (after 2 1 (program (Binary binary.Subtract 0 (Word 7) (Word 9) ∷ Return 0 ∷ [])) []) ≡ Ended (Returned (negsuc 1))
words_are_operands = refl

-- ---- memory

stored_is_loaded : status_of (after_with_block 3 (program (instructions.Store (Word 0x20000000) 4 (Word 7) ∷ instructions.Load 0 (Word 0x20000004) 0 ∷ Return 0 ∷ []))) ≡ Ended (Returned (pos 7))
stored_is_loaded = refl

other_words_stay : status_of (after_with_block 3 (program (instructions.Store (Word 0x20000000) 4 (Word 7) ∷ instructions.Load 0 (Word 0x20000000) 0 ∷ Return 0 ∷ []))) ≡ Ended (Returned (pos 0))
other_words_stay = refl

load_after_the_block_is_stuck : status_of (after_with_block 1 (program (instructions.Load 0 (Word 0x20000000) 8 ∷ Return 0 ∷ []))) ≡ Failed
load_after_the_block_is_stuck = refl

store_before_the_block_is_stuck : status_of (after_with_block 1 (program (instructions.Store (Word 0x20000000) 0xfffffffc (Word 7) ∷ Return 0 ∷ []))) ≡ Failed
store_before_the_block_is_stuck = refl

load_at_no_multiple_of_4_is_stuck : status_of (after_with_block 1 (program (instructions.Load 0 (Word 0x20000000) 2 ∷ Return 0 ∷ []))) ≡ Failed
load_at_no_multiple_of_4_is_stuck = refl

byte_at_the_lowest_address_is_the_high_one : status_of (after_with_block 3 (program (instructions.Store (Word 0x20000000) 4 (Word 0x41424344) ∷ instructions.LoadByte 0 (Word 0x20000004) 0 ∷ Return 0 ∷ []))) ≡ Ended (Returned (pos 0x41))
byte_at_the_lowest_address_is_the_high_one = refl

byte_at_the_highest_address_is_the_low_one : status_of (after_with_block 3 (program (instructions.Store (Word 0x20000000) 4 (Word 0x41424344) ∷ instructions.LoadByte 0 (Word 0x20000004) 3 ∷ Return 0 ∷ []))) ≡ Ended (Returned (pos 0x44))
byte_at_the_highest_address_is_the_low_one = refl

low_byte_is_stored_and_the_others_stay : status_of (after_with_block 4 (program (instructions.Store (Word 0x20000000) 4 (Word 0x12345678) ∷ instructions.StoreByte (Word 0x20000006) 0 (Word 0x341) ∷ instructions.Load 0 (Word 0x20000000) 4 ∷ Return 0 ∷ []))) ≡ Ended (Returned (pos 0x12344178))
low_byte_is_stored_and_the_others_stay = refl

byte_after_the_block_is_stuck : status_of (after_with_block 1 (program (instructions.LoadByte 0 (Word 0x20000000) 8 ∷ Return 0 ∷ []))) ≡ Failed
byte_after_the_block_is_stuck = refl

byte_stored_before_the_block_is_stuck : status_of (after_with_block 1 (program (instructions.StoreByte (Word 0x20000000) 0xffffffff (Word 7) ∷ Return 0 ∷ []))) ≡ Failed
byte_stored_before_the_block_is_stuck = refl

words_may_overlap : status_of (after 5 1 (program (Move 0 (Word 5) ∷ Move 1 (Word 6) ∷ instructions.MoveWords 1 0 2 ∷ Binary binary.Subtract 0 (Slot 1) (Slot 2) ∷ Return 0 ∷ [])) []) ≡ Ended (Returned (negsuc 0))
words_may_overlap = refl

words_are_moved : status_of (after 4 1 (program (Move 1 (Word 5) ∷ Move 2 (Word 6) ∷ instructions.MoveWords 0 1 2 ∷ Return 1 ∷ [])) []) ≡ Ended (Returned (pos 6))
words_are_moved = refl

-- ---- addresses of slots and globals

address_of_a_slot : status_of (after 2 1 (program (instructions.AddressOf 0 2 1 ∷ Return 0 ∷ [])) []) ≡ Ended (Returned (pos 0x7ffff008))
address_of_a_slot = refl

slot_is_stored_by_its_address : status_of (after 4 1 (program (Move 2 (Word 5) ∷ instructions.AddressOf 0 2 1 ∷ instructions.Store (Slot 0) 0 (Word 7) ∷ Return 2 ∷ [])) []) ≡ Ended (Returned (pos 7))
slot_is_stored_by_its_address = refl

slot_is_loaded_by_its_address : status_of (after 4 1 (program (Move 3 (Word 5) ∷ instructions.AddressOf 0 2 2 ∷ instructions.Load 1 (Slot 0) 4 ∷ Return 1 ∷ [])) []) ≡ Ended (Returned (pos 5))
slot_is_loaded_by_its_address = refl

slot_that_is_not_named_has_no_address : status_of (after 2 1 (program (instructions.AddressOf 0 2 1 ∷ instructions.Load 1 (Slot 0) 4 ∷ Return 1 ∷ [])) []) ≡ Failed
slot_that_is_not_named_has_no_address = refl

-- An example program whose `main` passes the address of its slot 2 to a function that stores a word there.
abbrev passes_an_address : Program
passes_an_address = record {
  functions =
      function 0 (instructions.AddressOf 0 2 1 ∷ Call 1 0 1 3 ∷ Return 2 ∷ [])
      ∷ function 1 (instructions.Store (Slot 0) 0 (Word 9) ∷ Return 0 ∷ [])
      ∷ [];
  globals = [];
  main = 0;
}

slot_of_the_caller_is_stored : status_of (after 5 2 passes_an_address []) ≡ Ended (Returned (pos 9))
slot_of_the_caller_is_stored = refl

global_is_stored_by_its_address : status_of (after 3 1 (program (instructions.Store (Word 0x10000000) 0 (Word 8) ∷ LoadGlobal 0 0 ∷ Return 0 ∷ [])) []) ≡ Ended (Returned (pos 8))
global_is_stored_by_its_address = refl

no_global_after_the_last : status_of (after 1 1 (program (instructions.Load 0 (Word 0x10000000) 4 ∷ Return 0 ∷ [])) []) ≡ Failed
no_global_after_the_last = refl

-- ---- requests to the store

-- Returns the status of a run whose code makes requests to a new store of three pages. This store chooses the same
-- address for each block and the same handle for each region.
abbrev after_calls : (steps : ℕ) → List Instruction → Status
after_calls steps code =
    status_of (run (program code) 3 1 (record { contents = λ (slot : ℕ). 0; base = 0; serving = record { handle = 7; address = 0x20000000; memory = λ (address : ℕ). 0 } }) steps (start (program code) 0x7ffff000 empty_store []))

abbrev allocate : (handle words : Operand) → Instruction
allocate handle words = instructions.Ask (requests.Allocate 2 handle words)

abbrev open_lexical : (destination : ℕ) → Instruction
open_lexical destination = instructions.Ask (requests.OpenLexical destination)

abbrev open_dynamic : (destination : ℕ) → Instruction
open_dynamic destination = instructions.Ask (requests.OpenDynamic destination)

abbrev close_to : Operand → Instruction
close_to mark = instructions.Ask (requests.CloseTo mark)

abbrev close_dynamic : Operand → Instruction
close_dynamic handle = instructions.Ask (requests.CloseDynamic handle)

abbrev free : Operand → Instruction
free address = instructions.Ask (requests.Free address)

block_is_made : after_calls 4 (allocate (Word 1) (Word 2) ∷ instructions.Store (Slot 2) 4 (Word 7) ∷ instructions.Load 0 (Slot 2) 4 ∷ Return 0 ∷ []) ≡ Ended (Returned (pos 7))
block_is_made = refl

block_past_the_pages_is_full : after_calls 4 (allocate (Word 1) (Word 1000) ∷ allocate (Word 1) (Word 1000) ∷ allocate (Word 1) (Word 1000) ∷ allocate (Word 1) (Word 25) ∷ Return 0 ∷ []) ≡ Ended Full
block_past_the_pages_is_full = refl

block_of_no_region_is_stuck : after_calls 1 (allocate (Word 3) (Word 2) ∷ Return 0 ∷ []) ≡ Failed
block_of_no_region_is_stuck = refl

block_of_no_words_is_stuck : after_calls 1 (allocate (Word 1) (Word 0) ∷ Return 0 ∷ []) ≡ Failed
block_of_no_words_is_stuck = refl

handle_comes_to_a_slot : after_calls 2 (open_lexical 0 ∷ Return 0 ∷ []) ≡ Ended (Returned (pos 7))
handle_comes_to_a_slot = refl

mark_comes_after_it : after_calls 3 (open_lexical 0 ∷ open_lexical 2 ∷ Return 3 ∷ []) ≡ Ended (Returned (pos 1))
mark_comes_after_it = refl

region_past_the_pages_is_full : after_calls 3 (open_lexical 0 ∷ open_dynamic 0 ∷ open_lexical 0 ∷ Return 0 ∷ []) ≡ Ended Full
region_past_the_pages_is_full = refl

words_of_a_region_are_there : after_calls 3 (open_lexical 0 ∷ allocate (Slot 0) (Word 2) ∷ instructions.Load 3 (Slot 2) 0 ∷ Return 3 ∷ []) ≡ simulation.Running
words_of_a_region_are_there = refl

words_of_a_closed_region_are_not : after_calls 4 (open_lexical 0 ∷ allocate (Slot 0) (Word 2) ∷ close_to (Slot 1) ∷ instructions.Load 3 (Slot 2) 0 ∷ Return 3 ∷ []) ≡ Failed
words_of_a_closed_region_are_not = refl

close_past_what_is_open_is_stuck : after_calls 1 (close_to (Word 1) ∷ Return 0 ∷ []) ≡ Failed
close_past_what_is_open_is_stuck = refl

dynamic_region_is_closed_once : after_calls 3 (open_dynamic 0 ∷ close_dynamic (Slot 0) ∷ close_dynamic (Slot 0) ∷ Return 0 ∷ []) ≡ Failed
dynamic_region_is_closed_once = refl

close_to_leaves_dynamic_regions : after_calls 4 (open_dynamic 0 ∷ close_to (Word 0) ∷ close_dynamic (Slot 0) ∷ Return 0 ∷ []) ≡ Ended (Returned (pos 7))
close_to_leaves_dynamic_regions = refl

open_regions_are_counted : after_calls 4 (open_lexical 0 ∷ open_lexical 0 ∷ instructions.CountLexical 2 ∷ Return 2 ∷ []) ≡ Ended (Returned (pos 2))
open_regions_are_counted = refl

closed_regions_are_not_counted : after_calls 5 (open_lexical 0 ∷ open_lexical 2 ∷ close_to (Slot 3) ∷ instructions.CountLexical 2 ∷ Return 2 ∷ []) ≡ Ended (Returned (pos 1))
closed_regions_are_not_counted = refl

dynamic_regions_are_not_counted : after_calls 3 (open_dynamic 0 ∷ instructions.CountLexical 2 ∷ Return 2 ∷ []) ≡ Ended (Returned (pos 0))
dynamic_regions_are_not_counted = refl

block_is_freed_once : after_calls 3 (allocate (Word 2) (Word 3) ∷ free (Slot 2) ∷ free (Slot 2) ∷ Return 0 ∷ []) ≡ Failed
block_is_freed_once = refl

-- ---- handlers

-- Returns the status, after `steps` steps, of a program with exception handlers, if at most two calls may be active.
abbrev after_throws : (steps : ℕ) → List Instruction → List Instruction → Status
after_throws steps code callee =
    status_of (run (record { functions = function 0 code ∷ function 0 callee ∷ []; globals = []; main = 0 }) 3 2 zeros steps
    (start (record { functions = function 0 code ∷ function 0 callee ∷ []; globals = []; main = 0 }) 0x7ffff000 empty_store []))

exception_is_caught : after_throws 4 (instructions.Try 0 3 ∷ instructions.Throw (Word 5) (Word 9) ∷ Return 0 ∷ instructions.Finish 1 ∷ []) [] ≡ Ended (Returned (pos 9))
exception_is_caught = refl

caller_catches : after_throws 5 (instructions.Try 0 2 ∷ Call 1 0 0 0 ∷ instructions.Finish 0 ∷ []) (instructions.Throw (Word 5) (Word 9) ∷ []) ≡ Ended (Returned (pos 5))
caller_catches = refl

nobody_catches : after_throws 3 (instructions.Try 0 3 ∷ instructions.Leave 0 ∷ instructions.Throw (Word 5) (Word 9) ∷ instructions.Finish 1 ∷ []) [] ≡ Ended (Uncaught 5 (pos 9))
nobody_catches = refl

handler_is_closed_when_it_catches : after_throws 4 (instructions.Try 0 2 ∷ instructions.Throw (Word 5) (Word 9) ∷ instructions.Throw (Word 6) (Slot 1) ∷ []) [] ≡ Ended (Uncaught 6 (pos 9))
handler_is_closed_when_it_catches = refl

record_that_was_written_over_is_lost : after_throws 3 (instructions.Try 0 3 ∷ Move 2 (Word 1) ∷ instructions.Throw (Word 5) (Word 9) ∷ instructions.Finish 1 ∷ []) [] ≡ Failed
record_that_was_written_over_is_lost = refl

no_return_from_an_open_handler : after_throws 2 (instructions.Try 0 1 ∷ instructions.Finish 1 ∷ []) [] ≡ Failed
no_return_from_an_open_handler = refl
