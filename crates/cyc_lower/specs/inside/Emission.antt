-- The contracts of the code emitter state how its functions extend the code emitted so far.
use Rattle.std.specs.Prelude.{◌≡◌, ℕ, suc, ◌+◌, ◌^◌, ◌≤◌, ◌<◌, Bool, false, if◌then◌else◌, Option, IfOk, List, [], ◌∷◌, ◌++◌, length, map, set, Some, None, option_map, Result, OnOk, slice_get}
use Rattle.std.specs.declared.alloc.AllocError.{AllocError}
use Rattle.cyc_types.specs.declared.typed.Operation.{Operation}
use Rattle.cyc_types.specs.declared.typed.Operation.TheVariants as operation
use Rattle.cyc_types.specs.declared.typed.LogicalOperator.{LogicalOperator}
use Rattle.cyc_types.specs.declared.typed.LogicalOperator.TheVariants as logical
use Rattle.cyc_types.specs.declared.typed.PointerOperator.{PointerOperator}
use Rattle.cyc_types.specs.declared.typed.Item.{Item}
use Rattle.cyc_types.specs.declared.typed.Clause.{Clause}
use Rattle.cyc_types.specs.declared.typed.Item.TheVariants as item
use Rattle.cyc_types.specs.Types.{Ty, words_of}
use Rattle.cyc_types.specs.TypeView.{view_ty}
use Rattle.cyc_types.specs.TypedTrees.{StructType, Expression, Converted, Convert, Arguments, Operations, ThenCompute, Statement, Clauses, Items, Function, Binary, If, Empty}
use Rattle.cyc_types.specs.TypedTreeView.{view_struct, view_expression, view_converted, view_statement, clauses_of, operations_of}
use Rattle.cyc_plain.specs.declared.instruction.Operand.{Operand}
use Rattle.cyc_plain.specs.declared.instruction.Operand.TheVariants.{Slot, Word}
use Rattle.cyc_plain.specs.declared.instruction.Instruction.{Instruction}
use Rattle.cyc_plain.specs.declared.instruction.Instruction.TheVariants.{WriteByte, Throw, Jump}
use Rattle.cyc_sizes.specs.inside.Needs.{most_frame_count}
use Rattle.cyc_lower_proof.specs.inside.Slots.{Starts, slot_of}
use Rattle.cyc_lower_proof.specs.inside.ValueCode.{code_unless, slot_or, code_unless_slot, conversion_code, compute_code, test_code, after_left, pointer_code, span_of, failing_comparison}
use Rattle.cyc_lower_proof.specs.inside.ControlCode.{is_same, deciding_condition, deciding_jump, failing_jump, holding_jump, inside_loop, tag_operand, clause_code, opened_code}
use Rattle.cyc_lower_proof.specs.inside.ControlCode.{named_code, dynamic_code, inside_region, entry_code, looped_code, body_target, null_compared, pointers_failing, through_code}
use Rattle.cyc_lower_proof.specs.inside.ControlCode.{breaks}
use Rattle.cyc_lower_proof.specs.inside.ExpressionCode.{operand_of, source_of, source_slot, printed_operand, printed_code, left_of, value_slot, left_slot, value_operand, expression_code, brought_code, are_simple, is_simple}
use Rattle.cyc_lower_proof.specs.inside.Lowering.{is_guard, first_operand, condition_code, choice_code, choice_of, tests_code, last_condition, branch_code, branch_of, statement_code, declaration_code, condition_of}
use Rattle.cyc_lower_proof.specs.inside.Lowering.{thrown_operand, thrown_code, caught_code, items_code, clauses_code, farthest, body_code, starts_with, raises_of}
use Rattle.cyc_meaning.specs.FrameCount.{frame_count}
use Rattle.cyc_plain.specs.declared.instruction.Comparison.{Comparison}
use Rattle.cyc_plain.specs.declared.instruction.Comparison.TheVariants as comparisons
use Rattle.cyc_lower.specs.declared.emitter.Emitter.{Emitter}
use Rattle.cyc_lower.specs.declared.starts.Starts.{Starts as StartsCode}
use Rattle.cyc_lower_proof.specs.declared.condition.Condition.{Condition}
use Rattle.cyc_lower.specs.declared.conditions.Pending.{Pending}
use Rattle.cyc_lower.specs.declared.conditions.Tested.{Tested}
use Rattle.cyc_lower_proof.specs.declared.exits.Exits.{Exits}

-- `Appends` says that a function appends this code to the old code, unless memory runs out.
abbrev pub Appends : {T : Type 0} → Result T AllocError → (old new : Emitter) → List Instruction → Type 0
Appends result old new code = OnOk result (new.code.items ≡ old.code.items ++ code)

-- `Gives` says that a function appends this code to the old code and returns this value, unless memory runs out.
abbrev pub Gives : {T : Type 0} → T → Result T AllocError → (old new : Emitter) → List Instruction → Type 0
Gives answer result old new code = IfOk result (λ given. (given ≡ answer) × (new.code.items ≡ old.code.items ++ code))

-- Returns the mathematical form of the record `Starts`: the first slots of locals, words of globals and code positions.
abbrev pub view_starts : StartsCode → Starts
view_starts starts = record { locals = starts.locals.now; tag_slot = starts.tag_slot; structs = map view_struct starts.structs.now; raises = starts.raises; counters = starts.counters.now; globals = starts.globals.now; scopes = starts.scopes }

-- The limit of slot indices, chosen so that the indices fit a machine word. A function has fewer locals than this limit, and at most as
-- many temporaries at a time as instructions before them.
abbrev pub most_locals : ℕ
most_locals = 2 ^ 32

-- Returns true if a declaration or statement of a block may leave the enclosing loop by a `break`.
abbrev pub item_breaks : Item → Bool
item_breaks (item.Execute s) = breaks (view_statement s)
item_breaks i = false

-- `IsChain` says that an expression consists of a first operand followed by these operators with their right operands.
abbrev pub IsChain : (whole first : Expression) → Operations → Type 0
IsChain whole first os = (ty : Ty) × (whole ≡ Binary first os ty)

-- Returns true if an operator of a chain, with its right operand, is the given logical operator (`&&` or `||`).
abbrev pub is_test : LogicalOperator → Operation → Bool
is_test u (operation.Test o e) = is_same u o
is_test u o = false

-- Returns, for an operator that compares with null, the comparison with 0 that holds if the operator's comparison fails.
abbrev pub null_operation : Operation → Option Comparison
null_operation (operation.Pointer o e) = null_compared o (view_expression e)
null_operation (operation.PointerPeek n o e) = null_compared o (view_expression e)
null_operation o = None

-- Returns, for an operator that compares its two operands, the comparison that holds if the operator's comparison fails.
abbrev pub pair_operation : Operation → Option Comparison
pair_operation (operation.Compute w o e) = failing_comparison o
pair_operation (operation.Pointer o e) = pointers_failing o
pair_operation (operation.PointerPeek n o e) = pointers_failing o
pair_operation (operation.Test o e) = None

-- Returns the right operand of an operator in a chain.
abbrev pub right_of : Operation → Expression
right_of (operation.Compute w o e) = view_expression e
right_of (operation.Test o e) = view_expression e
right_of (operation.Pointer o e) = view_expression e
right_of (operation.PointerPeek n o e) = view_expression e

-- Returns the code in which the given jumps, taken if their conditions fail and so far without a target, get this target.
abbrev pub failed : List Pending → (target : ℕ) → List Instruction → List Instruction
failed [] target code = code
failed (j ∷ js) target code = failed js target (set code j.place (failing_jump j.condition target))

-- `AreBefore` says that all jumps whose targets are not yet known are before a code position.
abbrev pub AreBefore : List Pending → (place : ℕ) → Type 0
AreBefore [] place = Unit {0}
AreBefore (j ∷ js) place = (j.place < place) × AreBefore js place

-- `Aims` concerns the code of a condition that begins at this position and was emitted with jump target 0. `Aims` says that setting the
-- targets of the condition's recorded jumps to any position yields the code that is emitted with this position as target.
abbrev pub Aims : List Pending → (code : ℕ → List Instruction) → (place : ℕ) → Type 0
Aims early code place =
    (old rest : List Instruction) (target : ℕ) → length old ≡ place → failed early target (old ++ (code 0 ++ rest)) ≡ old ++ (code target ++ rest)

-- `IsTested` says that the condition of a branch is emitted, with the provisional target 0 for its inner jumps, and that its inner
-- jumps are returned.
abbrev pub IsTested : Condition → (code : ℕ → List Instruction) → (old new : List Instruction) → Tested → Type 0
IsTested last code old new tested =
    (tested.last ≡ last) × Aims tested.early.items code (length old) × AreBefore tested.early.items (length new) × (new ≡ old ++ code 0)

module _ (starts : Starts) where
  -- Returns the code of an expression that is used as an operand.
  abbrev pub value_code : Expression → (p t : ℕ) → List Instruction
  value_code a p t = code_unless (operand_of starts a) (expression_code starts a p (value_slot starts a t) t)

  -- Returns the condition that compares an operand, which is not a comparison itself, with 0.
  abbrev pub zero_condition : Expression → (t : ℕ) → Condition
  zero_condition a t = record { failing = comparisons.Equal; left = value_operand starts a t; right = Word 0 }

  -- Returns the condition that compares an operand with 0 by the comparison `failing`.
  abbrev pub null_condition : Comparison → Expression → (t : ℕ) → Condition
  null_condition failing a t = record { failing = failing; left = value_operand starts a t; right = Word 0 }

  -- Returns the condition that compares two operands.
  abbrev pub pair_condition : Comparison → (a b : Expression) → (t : ℕ) → Condition
  pair_condition failing a b t = record { failing = failing; left = first_operand starts a b t; right = value_operand starts b (suc t) }

  -- Returns the code of `putchar` with its argument.
  abbrev pub print_code : Arguments → (p t : ℕ) → List Instruction
  print_code cs p t = printed_code starts cs p t ++ WriteByte (printed_operand starts cs (Slot t) t) ∷ []

  -- Returns the code of a value before its conversion.
  abbrev pub source_code : Converted → (p t : ℕ) → List Instruction
  source_code (Convert from to a) p t =
      code_unless (source_of starts (Convert from to a)) (brought_code starts (Convert from to a) p (source_slot starts (Convert from to a) t) t)

  -- Returns the code of a value that must be in a slot.
  abbrev pub slot_code : Converted → (p t : ℕ) → List Instruction
  slot_code (Convert from to a) p t = code_unless_slot (source_of starts (Convert from to a)) (brought_code starts (Convert from to a) p t t)

  -- Returns the slot of a returned value after its conversion.
  abbrev pub converted_slot : Converted → (t : ℕ) → ℕ
  converted_slot c t = slot_or (source_of starts c) t

  abbrev pub converted_slot_code : Converted → (p t : ℕ) → List Instruction
  converted_slot_code (Convert from to a) p t =
      code_unless_slot (source_of starts (Convert from to a)) (brought_code starts (Convert from to a) p t t)
      ++ conversion_code starts from to (span_of a) (Slot (slot_or (source_of starts (Convert from to a)) t)) (p + length (code_unless_slot (source_of starts (Convert from to a)) (brought_code starts (Convert from to a) p t t)))

  -- Returns the code that moves the left operand of a chain of operators to its slot.
  abbrev pub left_code : Expression → Operations → (p d t : ℕ) → List Instruction
  left_code a os p d t = code_unless (left_of starts a os) (expression_code starts a p (left_slot starts a os d t) t)

  -- Returns true if a chain of these operators is simple (evaluated without side effects), provided that its first operand is.
  abbrev pub is_simple_chain : Operations → Bool
  is_simple_chain (ThenCompute o b os) = are_simple starts (ThenCompute o b os)
  is_simple_chain os = false

  -- Returns true if the first of these operators has a simple right operand, whose evaluation has no side effect.
  abbrev pub takes_operand : Operations → Bool
  takes_operand (ThenCompute o b os) = is_simple starts b
  takes_operand os = false

  -- Returns the code of an operator on pointers and of its right operand.
  abbrev pub pointer_operation_code : PointerOperator → Expression → (p : ℕ) → (l : Operand) → (d t : ℕ) → List Instruction
  pointer_operation_code o b p l d t = pointer_code o l (value_operand starts b (after_left o t)) (value_code b p (after_left o t)) d

  -- Returns the code of one operator of a chain and of its right operand; `l` is its left operand.
  abbrev pub operation_code : Operation → (p : ℕ) → (l : Operand) → (d t : ℕ) → List Instruction
  operation_code (operation.Compute w o e) p l d t =
      compute_code starts o l (value_operand starts (view_expression e) (suc t)) (value_code (view_expression e) p (suc t)) d
  operation_code (operation.Test o e) p l d t = test_code o (expression_code starts (view_expression e) (p + 1) t t) p d t
  operation_code (operation.Pointer o e) p l d t = pointer_operation_code o (view_expression e) p l d t
  operation_code (operation.PointerPeek n o e) p l d t = pointer_operation_code o (view_expression e) p l d t

  -- Returns the code of the right operand of a logical operator, after a jump that is taken if the left operand decides the result.
  abbrev pub other_code : LogicalOperator → Operation → Condition → (following p t : ℕ) → List Instruction
  other_code u (operation.Test o e) c following p t = deciding_jump u c following ∷ condition_code starts (view_expression e) (p + 1) t
  other_code u o c following p t = []

  abbrev pub other_condition : Operation → Condition → (t : ℕ) → Condition
  other_condition (operation.Test o e) c t = condition_of starts (view_expression e) t
  other_condition o c t = c

  -- Returns the jumps of a chain of only `&&` or only `||`. Each jump is at the position after the operand that it tests.
  abbrev pub early_jumps : LogicalOperator → List Operation → Condition → (p t : ℕ) → List Pending
  early_jumps u [] c p t = []
  early_jumps u (o ∷ os) c p t =
      record { place = p; condition = deciding_condition u c }
      ∷ early_jumps u os (other_condition o c t) (p + length (other_code u o c 0 p t)) t

  -- `IsEarly` concerns the code of a chain of `&&` or `||`. `IsEarly` says that a chain of `&&` or `||` is emitted while the
  -- target of its jumps, taken when an operand decides the result, is unknown.
  abbrev pub IsEarly : LogicalOperator → Expression → List Operation → (t : ℕ) → (old new : List Instruction) → Tested → Type 0
  IsEarly u a os t old new tested =
      (tested.last ≡ last_condition starts (operations_of os) (condition_of starts a t) t)
      × (tested.early.items ≡ early_jumps u os (condition_of starts a t) (length old + length (condition_code starts a (length old) t)) t)
      × (new ≡ old ++ tests_code starts u a (operations_of os) 0 (length old) t)

  -- `IsBranch` says that the condition of a branch is emitted and that its jumps without a target are returned.
  abbrev pub IsBranch : LogicalOperator → Expression → (t : ℕ) → (old new : List Instruction) → Tested → Type 0
  IsBranch u a t old new tested = IsTested (branch_of starts u a t) (λ other. branch_code starts u a other (length old) t) old new tested

  abbrev pub IsSettled : LogicalOperator → Expression → (t : ℕ) → (old new : List Instruction) → Tested → Type 0
  IsSettled u a t old new tested = IsTested (choice_of starts u a t) (λ other. choice_code starts u a (length old) t) old new tested

  -- Returns the code that throws an exception.
  abbrev pub throw_code : (tag : ℕ) → Option Expression → (p t : ℕ) → List Instruction
  throw_code tag v p t = thrown_code starts v p t ++ Throw (tag_operand tag) (thrown_operand starts v t) ∷ []

  -- Returns the code of a catch clause after the jump over the clause.
  abbrev pub caught_items_code : (number : Option ℕ) → Items → (p : ℕ) → Exits → (t : ℕ) → List Instruction
  caught_items_code x js p exits t = caught_code starts x t ++ items_code starts js (p + length (caught_code starts x t)) exits t

  -- Returns the code of one declaration or statement of a block.
  abbrev pub item_code : Item → (p : ℕ) → Exits → (t : ℕ) → List Instruction
  item_code (item.Execute s) p exits t = statement_code starts (view_statement s) p exits t
  item_code (item.Local w n ty v) p exits t = declaration_code starts n (view_ty ty) (option_map view_converted v) p t
  item_code (item.Region w r n) p exits t = opened_code starts n t
  item_code (item.Open r n w k) p exits t = named_code starts 1 n (Slot (slot_of starts k))
  item_code (item.Alias r n ty w s) p exits t = named_code starts (words_of (view_ty ty)) n (Slot (slot_of starts s))
  item_code (item.DynamicRegion w r n) p exits t = dynamic_code starts n t

  -- Returns the code of a catch clause of a `try`.
  abbrev pub case_code : (tag : ℕ) → (number : Option ℕ) → Items → (p out : ℕ) → Exits → (t : ℕ) → List Instruction
  case_code tag x js p out exits t = clause_code tag t (caught_items_code x js (p + 1) exits t) p out

  -- `BeginClauses` says that the code of catch clauses was appended to the old code, whatever default clause comes after them.
  abbrev pub BeginClauses : List Clause → (out : ℕ) → Exits → (t : ℕ) → (old new : List Instruction) → Type 0
  BeginClauses cs out exits t old new =
      (default : Clauses)
      → new ++ clauses_code starts default (length new) out exits t ≡ old ++ clauses_code starts (clauses_of cs default) (length old) out exits t

  -- Returns the code at the beginning of a loop, emitted while the position of the condition after the loop's body is unknown.
  abbrev pub begun_loop : Expression → (p t : ℕ) → List Instruction
  begun_loop a p t = entry_code (is_guard starts a) (choice_code starts logical.AndThen a p t) (holding_jump (choice_of starts logical.AndThen a t)) 0 p

  -- Returns the code in which the entry of the loop at `head` jumps to the next instruction, where its condition begins.
  abbrev pub entered_loop : Expression → (code : List Instruction) → (head : ℕ) → List Instruction
  entered_loop a code head = if is_guard starts a then code else set code head (Jump (length code))

  -- Returns the code of an `if` without an `else` part.
  abbrev pub then_code : Expression → Statement → (p : ℕ) → Exits → (t : ℕ) → List Instruction
  then_code a s p exits t = statement_code starts (If a s Empty) p exits t

  -- Returns the code of a loop without a `break` whose condition is light (simple enough to be emitted twice).
  abbrev pub through_loop : Expression → Statement → (p : ℕ) → Exits → (t : ℕ) → List Instruction
  through_loop a s p exits t =
      through_code (choice_code starts logical.OrElse a p t) (failing_jump (choice_of starts logical.OrElse a t)) (λ q. statement_code starts s q (inside_loop p p exits) t) (λ q. choice_code starts logical.AndThen a q t) (holding_jump (choice_of starts logical.AndThen a t)) p

  -- Returns the code of a loop that has a `break`, or whose condition is not light (simple enough to be emitted twice).
  abbrev pub loop_code : Expression → Statement → (p : ℕ) → Exits → (t : ℕ) → List Instruction
  loop_code a s p exits t =
      looped_code (is_guard starts a) (λ q. choice_code starts logical.AndThen a q t) (λ leaving. statement_code starts s (body_target leaving) (inside_loop p leaving exits) t) (holding_jump (choice_of starts logical.AndThen a t)) p

-- Returns the exits (the handlers and regions to close) after a declaration or statement of a block.
abbrev pub exits_after : Item → Exits → (t : ℕ) → Exits
exits_after (item.Region w r n) exits t = inside_region exits t
exits_after i exits t = exits

abbrev pub free_after : Item → (t : ℕ) → ℕ
free_after (item.Region w r n) t = t + 1
free_after i t = t
