-- This file has lemmas for the bounds of instructions: on the number of temporaries, and on instructions whose operands exist in the
-- function.
use Rattle.std.proofs.Common.{◌≡◌, ℕ, zero, suc, ◌+◌, ◌-◌, ◌≤◌, ◌<◌, true, false, List, [], ◌∷◌, length, take, min, Option, None, Some, All, IsSomeAnd, slice_get, refl, sym, subst, arith, length-take, inl, inr}
use Rattle.std.specs.List.{AllByRecursion}
use Rattle.cyc_types.specs.Types.{Ty, words_of, ValueType, Void, Null, Value}
use Rattle.cyc_types.specs.TypedTrees.{Initial, Plain, Fields, Array, Converted, Convert, Arguments, NoArguments, MoreArguments, Signature}
use Rattle.cyc_plain.specs.declared.instruction.Instruction.{Instruction}
use Rattle.cyc_plain.specs.declared.instruction.Instruction.TheVariants as instructions
use Rattle.cyc_plain.specs.inside.Program.{Routine, Program as PlainProgram, routine_at}
use Rattle.cyc_plain.specs.declared.instruction.Operand.{Operand}
use Rattle.cyc_plain.specs.declared.instruction.Operand.TheVariants as operands
use Rattle.cyc_plain.specs.inside.Requests.{first_operand, second_operand}
use Rattle.cyc_plain.specs.inside.WellFormed.{IsInRange, IsOperand, IsArgument, is_return, leaves}
use Rattle.std.specs.Prelude.{max}
use Rattle.cyc_words.proofs.Items.{slice_get_last_after, slice_get_last_cases}
use Rattle.cyc_meaning.specs.Values.{kind_of, words_of_kind}
use Rattle.cyc_meaning.specs.FrameCount.{operand_words, converted_words, argument_words, words_of_all, initial_value_need}
use Rattle.cyc_lower_proof.specs.inside.Slots.{counted, Types, slot_in}
use Rattle.cyc_lower_proof.specs.inside.ValueCode.{all_passed, kind_passed, raising, blocks}
use Rattle.cyc_lower_proof.specs.inside.Lowering.{spare_slots, results_of, target_of, farthest, blocks_kept, with_blocks}
use Rattle.cyc_lower_proof.proofs.slots.Widths.{kind_few, type_words, kind_of_result, passed_is}
use Rattle.cyc_lower_proof.proofs.slots.Slots.{words_positive}
use Rattle.cyc_meaning.specs.Operators.{null_exception, array_bounds, array_size, division_by_zero}

-- ---- words

pub operand_positive : (t : ValueType) → 1 ≤ operand_words t
operand_positive Void = omega arith
operand_positive Null = omega arith
operand_positive (Value t) = words_positive t

pub converted_least : (c : Converted) → words_of_kind (kind_passed c) ≤ converted_words c
converted_least (Convert from to a) = omega arith

pub arguments_words : (cs : Arguments) → all_passed cs ≤ argument_words cs
arguments_words NoArguments = omega arith
arguments_words (MoreArguments c cs) = omega (arith, passed_is c, converted_least c, arguments_words cs)

pub converted_few : (c : Converted) → converted_words c ≤ spare_slots
converted_few (Convert from to a) = let f = kind_few from in let t = kind_few to in omega (arith, f, t)

pub results_few : (t : Option Ty) → results_of t ≤ spare_slots
results_few None = omega arith
results_few (Some t) = omega (arith, type_words t, kind_few (kind_of t))

-- The number of frame words that a new object needs is at least the number of words that earlier intermediate values already occupy.
pub made_needs : (i : Initial) (before own : ℕ) → before ≤ initial_value_need i before own
made_needs (Plain kind a) before own = omega arith
made_needs (Fields cs) before own = omega arith
made_needs (Array p level n kind a) before own = omega arith

-- A function's result has at most as many words as the returned value. This value has at most as many words as the result, or one word.
pub result_least : (t : Option Ty) → (results_of t ≤ words_of_kind (kind_of_result t)) × (words_of_kind (kind_of_result t) ≤ max 1 (results_of t))
result_least None = (omega arith, omega arith)
result_least (Some t) = (omega (arith, type_words t), omega (arith, type_words t))

-- If one more loop counter of an array is added, then all of these counters are still in slots of the function.
pub levels_inside : (r : Routine) (types : Types) → ((l slot : ℕ) → slice_get types.counters l ≡ Some slot → slot < r.slots) → (slot : ℕ) → slot < r.slots
    → (l other : ℕ) → slice_get (counted types slot).counters l ≡ Some other → other < r.slots
levels_inside r types levels slot inside l other found = elim (slice_get_last_cases types.counters slot l other found) [
  | inl before ↦ levels l other before
  | inr (last, is) ↦ omega (arith, is, inside)
]

-- ---- instructions

-- Holds if all blocks that raise exceptions come after the body of the function, and if the function has a slot after its locals.
abbrev pub HasEnd : Routine → Types → Type 0
HasEnd r types = (types.raises + 6 < length r.code) × (words_of_all types.locals < r.slots)

-- The properties of a plain program's function that the bounds of the corresponding source function state.
pub record IsKnown (program : PlainProgram) (n : ℕ) (s : Signature) : Type 0 where
  pub there : n < length program.functions
  pub parameters : (routine_at program n).parameters ≡ words_of_all s.parameters
  pub results : (routine_at program n).results ≡ results_of s.result

-- The plain program has a word for each word of the source program's globals.
pub record AreGlobals (program : PlainProgram) (globals : List Ty) : Type 0 where
  pub room : words_of_all globals ≤ length program.globals

-- Says that an instruction takes the address of a local only at the local's first slot and with all of the local's slots.
abbrev pub TakesLocal : (locals : List Ty) → Instruction → Type 0
TakesLocal locals (instructions.AddressOf d first count) = (n : ℕ) × (t : Ty) × (slice_get locals n ≡ Some t) × (first ≡ slot_in locals n) × (count ≡ words_of t)
TakesLocal locals i = Unit {0}

-- Holds if each slot, function, global and code position that an instruction names exists. If the instruction
-- takes an address, then it takes that of a complete local.
abbrev pub IsIn : PlainProgram → Routine → (locals : List Ty) → Instruction → Type 0
IsIn program r locals (instructions.AddressOf d first count) = (d < r.slots) × (first + count ≤ r.slots) × TakesLocal locals (instructions.AddressOf d first count)
IsIn program r locals i = IsInRange program r i

pub code_in_range : (program : PlainProgram) (r : Routine) (locals : List Ty) (code : List Instruction) → AllByRecursion (IsIn program r locals) code → AllByRecursion (IsInRange program r) code
code_in_range program r locals [] inside = tt
code_in_range program r locals (i ∷ code) (first, rest) = (by i first, code_in_range program r locals code rest)
  where
    by : (i : Instruction) → IsIn program r locals i → IsInRange program r i
    by (instructions.AddressOf d slot count) (there, few, (n, t, at, first, count_is)) = (there, omega (arith, count_is, words_positive t), few)
    by i inside = inside

pub takes_locals : (program : PlainProgram) (r : Routine) (locals : List Ty) (code : List Instruction) → AllByRecursion (IsIn program r locals) code → AllByRecursion (TakesLocal locals) code
takes_locals program r locals [] inside = tt
takes_locals program r locals (i ∷ code) (first, rest) = (by i first, takes_locals program r locals code rest)
  where
    by : (i : Instruction) → IsIn program r locals i → TakesLocal locals i
    by (instructions.AddressOf d slot count) (there, few, takes) = takes
    by i inside = tt

-- If no jump goes past the end of a shortened code of a function, then every slot, function, global and position
-- that its instructions name still exists.
module _ (program : PlainProgram) (r : Routine) (longer : List Instruction) (locals : List Ty) (far : ℕ) (reaches : (t : ℕ) → t ≤ far → t < length longer → t < length r.code) (no_return : All (λ i. is_return i ≡ false) r.code) where
  abbrev full : Routine
  full = record r { code = longer }

  operand_cut : (o : Operand) → IsOperand full o → IsOperand r o
  operand_cut (operands.Slot n) inside = inside
  operand_cut (operands.Word w) inside = tt

  argument_cut : (o : Option Operand) → IsArgument full o → IsArgument r o
  argument_cut (Some o) inside = operand_cut o inside
  argument_cut None inside = tt

  one_cut : (i : Instruction) → target_of i ≤ far → IsIn program full locals i → IsIn program r locals i
  one_cut (instructions.Move d s) least (there, source) = (there, operand_cut s source)
  one_cut (instructions.MoveWords d s count) least inside = record { some = inside.some; few = inside.few; destination_in_range = inside.destination_in_range; source_in_range = inside.source_in_range }
  one_cut (instructions.Unary operator d o) least (there, operand) = (there, operand_cut o operand)
  one_cut (instructions.Binary operator d left right) least (there, first, second) = (there, operand_cut left first, operand_cut right second)
  one_cut (instructions.Jump target) least inside = reaches target least inside
  one_cut (instructions.Branch comparison left right target) least (first, second, inside) = (operand_cut left first, operand_cut right second, reaches target least inside)
  one_cut (instructions.Call function arguments count result) least inside =
      record { function_in_range = inside.function_in_range; takes = inside.takes; arguments_in_range = inside.arguments_in_range; result_in_range = inside.result_in_range }
  one_cut (instructions.Return value) least inside = inside
  one_cut (instructions.ReadByte d) least inside = inside
  one_cut (instructions.WriteByte s) least inside = operand_cut s inside
  one_cut (instructions.AddressOf d slot count) least inside = inside
  one_cut (instructions.LoadGlobal d global) least inside = inside
  one_cut (instructions.StoreGlobal global s) least (there, source) = (there, operand_cut s source)
  one_cut (instructions.Load d address offset) least (there, from) = (there, operand_cut address from)
  one_cut (instructions.Store address offset s) least (to, source) = (operand_cut address to, operand_cut s source)
  one_cut (instructions.LoadByte d address offset) least (there, from) = (there, operand_cut address from)
  one_cut (instructions.StoreByte address offset s) least (to, source) = (operand_cut address to, operand_cut s source)
  one_cut (instructions.Ask request) least inside = record {
    answer_in_range = inside.answer_in_range;
    first_in_range = argument_cut (first_operand request) inside.first_in_range;
    second_in_range = argument_cut (second_operand request) inside.second_in_range;
  }
  one_cut (instructions.CountLexical d) least inside = inside
  one_cut (instructions.Try first handler) least inside = record { record_in_range = inside.record_in_range; handler_in_range = reaches handler least inside.handler_in_range; no_return = no_return }
  one_cut (instructions.Leave first) least inside = inside
  one_cut (instructions.Throw tag value) least (first, second) = (operand_cut tag first, operand_cut value second)
  one_cut (instructions.Finish value) least inside = inside
  one_cut (instructions.Uncaught tag value) least inside = operand_cut value inside
  one_cut (instructions.Enter function) least inside = inside

  pub all_cut : (code : List Instruction) → farthest code ≤ far → AllByRecursion (IsIn program full locals) code → AllByRecursion (IsIn program r locals) code
  all_cut [] least inside = tt
  all_cut (i ∷ code) least (first, rest) = (one_cut i (omega (arith, least)) first, all_cut code (omega (arith, least)) rest)

-- The blocks that raise exceptions name no function, global or code position that could be missing; they name only one slot.
pub blocks_in : (program : PlainProgram) (r : Routine) (locals : List Ty) (slot n : ℕ) → slot < r.slots → AllByRecursion (IsIn program r locals) (take n (blocks slot))
blocks_in program r locals slot zero room = tt
blocks_in program r locals slot (suc zero) room = ((room, room, tt), tt)
blocks_in program r locals slot (suc (suc zero)) room = ((room, room, tt), ((room, tt), tt))
blocks_in program r locals slot (suc (suc (suc n))) room = ((room, room, tt), ((room, tt), by n))
  where
    by : (n : ℕ) → AllByRecursion (IsIn program r locals) (take (suc n) (raising null_exception ∷ raising array_bounds ∷ raising array_size ∷ raising division_by_zero ∷ []))
    by zero = ((tt, tt), tt)
    by (suc zero) = ((tt, tt), ((tt, tt), tt))
    by (suc (suc zero)) = ((tt, tt), ((tt, tt), ((tt, tt), tt)))
    by (suc (suc (suc zero))) = ((tt, tt), ((tt, tt), ((tt, tt), ((tt, tt), tt))))
    by (suc (suc (suc (suc n)))) = ((tt, tt), ((tt, tt), ((tt, tt), ((tt, tt), tt))))

-- At least `n` instructions of the blocks that raise exceptions remain in the code, or all six instructions of these
-- blocks if `n` is greater than six.
pub blocks_many : (slot n : ℕ) → min n 6 ≤ length (take (blocks_kept n) (blocks slot))
blocks_many slot zero = omega arith
blocks_many slot (suc zero) = omega arith
blocks_many slot (suc (suc n)) = omega (arith, length-take (suc (suc n)) (blocks slot))

-- The code of a function ends in an instruction that leaves the function.
pub end_leaves : (body : List Instruction) (slot n : ℕ) → IsSomeAnd (slice_get (with_blocks body slot (blocks_kept n)) (length (with_blocks body slot (blocks_kept n)) - 1)) (λ i. leaves i ≡ true)
end_leaves body slot n =
    let end = instructions.Finish slot ∷ take (blocks_kept n) (blocks slot) in
    subst (λ (o : Option Instruction). IsSomeAnd o (λ i. leaves i ≡ true)) (sym (slice_get_last_after body end (omega arith))) (by n)
  where
    by : (n : ℕ) → IsSomeAnd (slice_get (instructions.Finish slot ∷ take (blocks_kept n) (blocks slot)) (length (instructions.Finish slot ∷ take (blocks_kept n) (blocks slot)) - 1)) (λ i. leaves i ≡ true)
    by zero = refl
    by (suc zero) = refl
    by (suc (suc zero)) = refl
    by (suc (suc (suc zero))) = refl
    by (suc (suc (suc (suc zero)))) = refl
    by (suc (suc (suc (suc (suc zero))))) = refl
    by (suc (suc (suc (suc (suc (suc zero)))))) = refl
    by (suc (suc (suc (suc (suc (suc (suc n))))))) = refl
