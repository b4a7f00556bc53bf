-- This file defines the functions of the program with their slots and data, and the code positions that correspond to the control
-- stack's continuation frames.
use Rattle.std.proofs.Common.{reverse, ◌≡◌, ◌⊎◌, ℕ, suc, ◌+◌, ◌*◌, ◌≤◌, ◌<◌, true, List, [], ◌∷◌, ◌++◌, length, Option, None, Some, slice_get, ◌^◌, false, Bool}
use Rattle.cyc_words.specs.Word.{IsWord as IsNumber}
use Rattle.std.specs.Prelude.{if◌then◌else◌, option_map, not}
use Rattle.cyc_types.specs.declared.typed.Kind.{Kind}
use Rattle.cyc_types.specs.declared.typed.Kind.TheVariants as kinds
use Rattle.cyc_types.specs.declared.typed.Callee.{Callee}
use Rattle.cyc_types.specs.declared.typed.UnaryOperator.TheVariants as unary
use Rattle.cyc_types.specs.declared.typed.Operator.{Operator}
use Rattle.cyc_types.specs.declared.typed.Callee.TheVariants as callees
use Rattle.cyc_types.specs.Types.{Ty}
use Rattle.cyc_types.specs.TypedTrees.{Lvalue, Local, Global, Expression, NoArguments, NoOperations, Statement, Function, Program, Convert, Dereference, Side, VariableSide, CellSide}
use Rattle.cyc_types.specs.Numbered.{Numbering, numbering_of, signatures_of}
use Rattle.cyc_store.specs.declared.range.TheConstants.{MOST_BLOCK_WORDS}
use Rattle.cyc_memory_relation.specs.inside.Tables.{Tables}
use Rattle.cyc_memory_relation.specs.inside.Words.{Is, Points, before}
use Rattle.cyc_plain.specs.declared.instruction.BinaryOperator.TheVariants as plain_binary
use Rattle.cyc_plain.specs.declared.instruction.Comparison.{Comparison}
use Rattle.cyc_plain.specs.declared.instruction.Comparison.TheVariants as comparisons
use Rattle.cyc_plain.specs.declared.instruction.Operand.{Operand}
use Rattle.cyc_plain.specs.declared.instruction.Operand.TheVariants as operands
use Rattle.cyc_plain.specs.declared.instruction.Request.TheVariants as requests
use Rattle.cyc_plain.specs.declared.instruction.Instruction.{Instruction}
use Rattle.cyc_plain.specs.declared.instruction.Instruction.TheVariants as instructions
use Rattle.cyc_plain.specs.inside.Program.{routine_at}
use Rattle.cyc_plain.specs.inside.State.{Words, Frame}
use Rattle.cyc_plain.specs.inside.Straight.{At}
use Rattle.cyc_meaning.specs.Values.{Value, Thin, kinds_of, words_of_kind, bytes_of_kind, is_thin, words_for}
use Rattle.cyc_meaning.specs.Allocation.{blanks_of}
use Rattle.cyc_meaning.specs.State.{Object, ConvertTo, Operate, Chain, Apply, ApplyPointer, Follow, LoadFrom, Decide, Store, Pass, PlaceBy, BesideHandle, MakePlain, MakeFields, MakeArray}
use Rattle.cyc_meaning.specs.State.{FillElement, Initialise, Choose, Test, Return, Entry, Needs, NeedsPlace, Discard, Rest, Join, Loop, CloseRegion, CloseLexical, EndLoan, Handler, Caller, Main, FollowMember}
use Rattle.cyc_meaning.specs.State.{TakeAddress, StoreTo, StoreCell, FreeObject, CloseByKey, SwapLeft, SwapRight, Write, ThrowWith, CountElements, Index, Advance, OpenBy, AliasOf}
use Rattle.cyc_meaning.specs.Step.{object_of}
use Rattle.cyc_meaning.specs.Operators.{null_exception, unary_kind}
use Rattle.cyc_meaning.specs.FrameCount.{words_of_all}
use Rattle.cyc_lower_proof.specs.declared.exits.Exits.{Exits}
use Rattle.cyc_lower_proof.specs.declared.exits.Opened.{Opened}
use Rattle.cyc_meaning.specs.Pointers.{takes_kind, result_kind as operator_kind}
use Rattle.cyc_lower_proof.specs.inside.Slots.{Types, Starts, starts_of, slot_of, global_of, global_types}
use Rattle.cyc_lower_proof.specs.inside.ValueCode.{failing_comparison, move_of, low_byte, masks, converts_there, all_passed, kinds_passed, slot_types, followed_operand, reached_operand, unary_instruction}
use Rattle.cyc_lower_proof.specs.inside.ObjectCode.{right_slot}
use Rattle.cyc_lower_proof.specs.inside.ControlCode.{break_target, tag_operand, nothing_opened, with_handler, with_mark, inside_try, inside_region, pointers_failing}
use Rattle.cyc_lower_proof.specs.inside.ExpressionCode.{is_simple}
use Rattle.cyc_lower_proof.specs.inside.Lowering.{results_of, lower_program, raises_of, globals_of, scopes_of}
use Rattle.cyc_lower_proof.proofs.slots.Widths.{kind_of_result, given, called_kind, HasRoom, chain_kind, HasGlobal, made_kind, kind_in}
use Rattle.cyc_lower_proof.proofs.relation.code.Stands.{BegunAt, ElementsAt, CheckAt, ConversionAt, OperatorAt, TruthAt, CopyAt, ArgumentsAt, OperationsAt, ValueAt, ComparesAt, Forks, BranchesAt, TestsAt, PointerAt, ObjectAt, AddressAt}
use Rattle.cyc_lower_proof.proofs.relation.code.Stands.{ConvertedOperandAt, FreedAt, CountAt, SavedAt, LoadedAt, FollowedAt, ReachedAt, GlobalAt, MadeAt, EntryAt}
use Rattle.cyc_lower_proof.proofs.relation.code.Statements.{StatementAt, ItemsAt, HasSide, SideAt, WriteAt, ExchangeAt, LeaveAt, ClosedAt, NamedAt}
use Rattle.cyc_lower_proof.proofs.relation.contents.HeldValues.{IsLow, words_held, height, Holds, held, kept, counters_of, IsHandleOf, CallSlots, LocalsHold, GlobalsHold, after_records, Waiting}

module _ (source : Program) where
  -- ---- functions of the program

  abbrev pub code_of : ℕ → List Instruction
  code_of g = (routine_at (lower_program source) g).code

  abbrev pub bounds_in : Option Function → Numbering
  bounds_in None = record { globals = length source.globals; functions = signatures_of source.functions; locals = 0; regions = 0; result = None }
  bounds_in (Some h) = numbering_of (length source.globals) (signatures_of source.functions) h

  abbrev pub bounds_at : ℕ → Numbering
  bounds_at g = bounds_in (slice_get source.functions g)

  -- The types of a function's locals, and other data that the code of the function needs: the structs, the position of the blocks that
  -- raise exceptions, and the first slots of the locals.
  abbrev pub local_types : Option Function → List Ty
  local_types None = []
  local_types (Some h) = slot_types h

  abbrev pub raises_in : Option Function → ℕ
  raises_in None = 0
  raises_in (Some h) = raises_of source.structs (globals_of source) (scopes_of source) h

  abbrev pub types_in : Option Function → Types
  types_in h = record { locals = local_types h; structs = source.structs; raises = raises_in h; counters = []; globals = global_types source.globals; scopes = scopes_of source }

  abbrev pub types_at : ℕ → Types
  types_at g = types_in (slice_get source.functions g)

  abbrev pub starts_at : ℕ → Starts
  starts_at g = starts_of (types_at g)

  -- The types of a function's locals and the other data that determine the layout of its slots. The loop counters in
  -- these data are those of the arrays that the given continuation frames are filling.
  abbrev pub types_on : ℕ → List Entry → Types
  types_on g k = record { locals = local_types (slice_get source.functions g); structs = source.structs; raises = raises_in (slice_get source.functions g); counters = counters_of (after_records k (scopes_of source) (words_of_all (local_types (slice_get source.functions g)))) k; globals = global_types source.globals; scopes = scopes_of source }

  abbrev pub starts_on : ℕ → List Entry → Starts
  starts_on g k = starts_of (types_on g k)

  abbrev pub parameters_in : Option Function → List Ty
  parameters_in None = []
  parameters_in (Some h) = h.parameters

  abbrev pub parameters_at : ℕ → List Ty
  parameters_at g = parameters_in (slice_get source.functions g)

  -- The first slot after the locals of function g.
  abbrev pub base_of : ℕ → ℕ
  base_of g = words_of_all (types_at g).locals

  -- The representation kind (int, char, pointer, ..) of the result of an expression in function g.
  abbrev pub given_at : ℕ → Expression → Kind
  given_at g a = given (bounds_at g).functions a

  abbrev pub called_at : ℕ → Callee → Kind
  called_at g f = called_kind (bounds_at g).functions f

  abbrev pub returned_at : ℕ → Kind
  returned_at g = kind_of_result (bounds_at g).result

  -- The first slot after the handler records and the saved counts of lexical regions.
  abbrev pub floor : ℕ → List Entry → ℕ
  floor g k = after_records k (scopes_of source) (base_of g)

  -- The exception handlers and regions that were opened inside the enclosing loop or, without `loop`, inside the function.
  abbrev pub opened_by : (loop : Bool) → ℕ → List Entry → Opened
  opened_by loop g [] = nothing_opened
  opened_by loop g (Loop condition body ∷ k) = if loop then nothing_opened else opened_by loop g k
  opened_by loop g (Handler handler ∷ k) = with_handler (opened_by loop g k) (floor g k)
  opened_by loop g (CloseLexical region ∷ k) = with_mark (opened_by loop g k) (floor g k)
  opened_by loop g (Caller e ∷ k) = nothing_opened
  opened_by loop g (Main ∷ k) = nothing_opened
  opened_by loop g (entry ∷ k) = opened_by loop g k

  -- The slot of the next value to compute.
  abbrev pub top : ℕ → List Entry → ℕ
  top g k = height (floor g k) (held k)

  -- The slot of the next value to compute while a value is passed to the newest continuation frame.
  abbrev pub ground : ℕ → List Entry → ℕ
  ground g k = height (floor g k) (kept k)

  -- ---- data

  abbrev pub call_slots : (g base : ℕ) → CallSlots
  call_slots g base = record { code = code_of g; base = base }

  -- Says that the facts about the data of the waiting calls hold, and that an older call has objects with smaller indices.
  abbrev pub FramesHold : Tables → List Object → (high : ℕ) → List Frame → List Waiting → Type 0
  FramesHold t objects high [] [] = length (global_types source.globals) ≤ high
  FramesHold t objects high (f ∷ frames) (x ∷ outer) =
      (low : ℕ) × (low ≤ high) × (LocalsHold t (types_at f.caller.function) (call_slots f.caller.function f.caller.base) objects x.locals low high f.caller.slots × Holds t f.caller.slots (x.temporaries (scopes_of source) (base_of f.caller.function)) x.values)
      × FramesHold t objects low frames outer
  FramesHold t objects high [] (x ∷ outer) = ⊥
  FramesHold t objects high (f ∷ frames) [] = ⊥

  abbrev pub DataAt : Tables → (g base : ℕ) → List Object → (ℕ → Option ℕ) → List Waiting → Words → Words → List Frame → Type 0
  DataAt t g base objects locals outer slots globals frames = (low : ℕ) × (low ≤ length objects)
      × LocalsHold t (types_at g) (call_slots g base) objects locals low (length objects) slots
      × FramesHold t objects low frames outer
      × GlobalsHold t (types_at g) objects globals

  -- ---- the control stack and the code

  -- Says that the code goes from p to q: directly, by one jump, or by a jump to a jump.
  pub data Arrives (code : List Instruction) (p q : ℕ) : Type 0 where
    in_place : p ≡ q → Arrives code p q
    by_jump : At code p (instructions.Jump q) → Arrives code p q
    by_jumps : (m : ℕ) → m < p → At code p (instructions.Jump m) → At code m (instructions.Jump q) → Arrives code p q

  -- Holds if no exception handler or region that the function opened is open.
  abbrev pub IsOutside : Exits → Type 0
  IsOutside exits = (exits.in_loop ≡ nothing_opened) × (exits.in_function ≡ nothing_opened)

  -- Says that the code moves a value to slot d. Slot d is a temporary, from `free` on, or it is a slot of a local that is about to
  -- be assigned.
  pub data Lands (base free d words : ℕ) (temporary ahead : Type 0) : Type 0 where
    in_temporary : free ≤ d → temporary → Lands base free d words temporary ahead
    in_local : d + words ≤ base → ahead → Lands base free d words temporary ahead

  -- Says that the value of an assignment is in a slot or constant. The value of the assignment is then dropped, remains in
  -- this slot or constant, or is moved to another slot.
  pub data HandsOn (code : List Instruction) (words : ℕ) (o : Operand) (p : ℕ) (dropped stays : Type 0) (comes : (d q : ℕ) → Type 0) : Type 0 where
    drops : dropped → HandsOn code words o p dropped stays comes
    leaves : stays → HandsOn code words o p dropped stays comes
    copies : (d q : ℕ) → CopyAt code words o d p q → comes d q → HandsOn code words o p dropped stays comes

  -- Says that a byte is printed, and that its value is dropped or moved to a slot.
  pub data Prints (code : List Instruction) (o : Operand) (p : ℕ) (dropped : Type 0) (comes : (d : ℕ) → Type 0) : Type 0 where
    prints_only : dropped → Prints code o p dropped comes
    gives_byte : (d : ℕ) → At code p (low_byte o d) → comes d → Prints code o p dropped comes

  -- Says that the result of an operator is moved to a slot, or is a condition that the next jump tests.
  pub data Yields (value tested : Type 0) : Type 0 where
    to_slot : value → Yields value tested
    to_jump : tested → Yields value tested

  -- Says that a loop, whose condition comes after its body, is at position p.
  abbrev pub LoopAt : (g t : ℕ) → Expression → Statement → (exits outer : Exits) → (p q : ℕ) → Type 0
  LoopAt g t condition body exits outer p q = (b : ℕ) × (exits.in_loop ≡ nothing_opened) × (exits.in_function ≡ outer.in_function)
      × EntryAt (code_of g) (bounds_at g) (types_at g) condition exits b t p × At (code_of g) (break_target exits) (instructions.Jump q)
      × StatementAt (code_of g) (bounds_at g) (types_at g) body exits t b p
      × ((f : ℕ) × BranchesAt (code_of g) (bounds_at g) (types_at g) condition f b t p × ((f ≡ q) ⊎ At (code_of g) f (instructions.Jump q))) × (break_target exits < q)

  -- Says that the code at p is the branch of an `if` statement that its condition selects, followed by the code for the
  -- continuation frames.
  abbrev pub ChosenAt : (g t : ℕ) → (first second : Statement) → (waits : Exits → (q : ℕ) → Type 0) → (fails : Bool) → (p : ℕ) → Type 0
  ChosenAt g t first second waits true p =
      (exits : Exits) × (q : ℕ) × StatementAt (code_of g) (bounds_at g) (types_at g) second exits t p q × waits exits q
  ChosenAt g t first second waits false p =
      (exits : Exits) × (m : ℕ) × (q : ℕ) × StatementAt (code_of g) (bounds_at g) (types_at g) first exits t p m × Arrives (code_of g) m q × waits exits q

  -- Says that the code at p is the body of a loop if the loop's condition holds. If the condition fails, the code at
  -- p is the code for the continuation frames, or a jump to this code.
  abbrev pub RepeatedAt : (g t : ℕ) → Expression → Statement → (waits : Exits → (q : ℕ) → Type 0) → (fails : Bool) → (p : ℕ) → Type 0
  RepeatedAt g t condition body waits true p = (outer : Exits) × (q : ℕ) × ((p ≡ q) ⊎ At (code_of g) p (instructions.Jump q)) × waits outer q
  RepeatedAt g t condition body waits false p =
      (exits : Exits) × (outer : Exits) × (m : ℕ) × (q : ℕ) × (loop : LoopAt g t condition body exits outer m q) × (loop.0 ≡ p) × waits outer q

  abbrev pub Below : List Frame → (Frame → List Frame → Type 0) → Type 0
  Below [] P = ⊥
  Below (f ∷ frames) P = P f frames

  abbrev pub IsLast : List Frame → List Entry → Type 0
  IsLast [] [] = Unit {0}
  IsLast (f ∷ frames) k = ⊥
  IsLast [] (entry ∷ k) = ⊥

  -- Holds if the value is the address of the variable that is assigned.
  abbrev pub IsPlaceOf : (ℕ → Option ℕ) → Lvalue → Value → Type 0
  IsPlaceOf locals l place = (object : ℕ) × (place ≡ Thin object 0) × (object_of (record { locals = locals; home = 0; counters = λ level. None }) l ≡ Some object)

  -- Says that the code stores an operand (a slot or constant) in a variable of representation kind `kind` (int, char,
  -- pointer, ..). Afterwards the stored value is available in another operand.
  abbrev pub StoreAt : (g : ℕ) → Kind → Lvalue → (from to : Operand) → (p q : ℕ) → Type 0
  StoreAt g kind (Local w n) from to p q =
      At (code_of g) p (move_of (words_of_kind kind) (slot_of (starts_at g) n) from) × (p + 1 ≡ q) × (to ≡ operands.Slot (slot_of (starts_at g) n))
      × HasRoom (types_at g) n kind
  StoreAt g kind (Global n) from to p q =
      GlobalAt (code_of g) (words_of_kind kind) (global_of (starts_at g) n) from p q × (to ≡ from) × HasGlobal (types_at g) n kind

  -- ---- swaps

  -- Says where one operand of a swap is: a variable is an object, and a cell has its address in a slot.
  abbrev pub IsSideAt : Tables → (ℕ → Option ℕ) → Words → Side → (s object offset : ℕ) → Type 0
  IsSideAt t locals slots (VariableSide l ty) s object offset =
      (offset ≡ 0) × (object_of (record { locals = locals; home = 0; counters = λ level. None }) l ≡ Some object)
  IsSideAt t locals slots (CellSide x) s object offset = Points t object offset (slots s)

  -- Says that the left operand of a swap is a variable or a cell, while the right operand is evaluated.
  abbrev pub IsLeft : (ℕ → Option ℕ) → (is_cell : Bool) → Side → (place : Value) → Type 0
  IsLeft locals false (VariableSide l ty) (Thin object offset) =
      (offset ≡ 0) × (object_of (record { locals = locals; home = 0; counters = λ level. None }) l ≡ Some object)
  IsLeft locals true (CellSide x) (Thin object offset) = Unit {0}
  IsLeft locals is_cell a place = ⊥

  -- Says that words in slots are moved to the operands of a swap, and that the code then continues at q.
  abbrev pub WritesAt : Tables → (ℕ → Option ℕ) → (g : ℕ) → Words → List Write → (p q : ℕ) → Type 0
  WritesAt t locals g slots [] p q = p ≡ q
  WritesAt t locals g slots (x ∷ writes) p q =
      (a : Side) × (object : ℕ) × (offset : ℕ) × (s : ℕ) × (v : ℕ) × (r : ℕ) × WriteAt (code_of g) (bounds_at g) (types_at g) a x.operand.kind s v p r
      × HasSide (code_of g) (bounds_at g) (types_at g) a x.operand.kind × (base_of g ≤ s) × (base_of g ≤ v)
      × (x.place ≡ Thin object offset) × IsSideAt t locals slots a s object offset × Is t x.operand.kind x.operand.value slots v
      × WritesAt t locals g slots writes r q

  -- Holds if function g returns a value of representation kind `kind` (int, char, pointer, ..).
  abbrev pub IsReturned : (g : ℕ) → Kind → Type 0
  IsReturned g kind = (results_of (bounds_at g).result ≡ words_of_kind kind) × (kind ≡ returned_at g)

  -- Says that the code calls a function with its arguments in the slots from t on, and moves the result to slot d.
  abbrev pub CallAt : (g : ℕ) → Callee → (arguments t d p q : ℕ) → Type 0
  CallAt g callees.Putchar arguments t d p q = ⊥
  CallAt g callees.Getchar arguments t d p q = At (code_of g) p (instructions.ReadByte d) × (p + 1 ≡ q)
  CallAt g (callees.Function n) arguments t d p q = At (code_of g) p (instructions.Call n t arguments d) × (p + 1 ≡ q)

  -- Says that the code from position p on uses a value and then executes the continuation frames of the running call and of its
  -- callers. The running function is g. The value has the given kind and is in operand o.
  abbrev mutual
    pub ValueStack : (g : ℕ) → (ℕ → Option ℕ) → Kind → Operand → (p : ℕ) → List Frame → List Entry → Type 0
    ValueStack g locals kind o p frames [] = ⊥
    -- An int that becomes a char is moved to another slot, and any other value stays in its slot or constant.
    ValueStack g locals kind o p frames (Needs (ConvertTo from to target) ∷ k) =
        ((d : ℕ) × (to ≡ kinds.Char) × At (code_of g) p (low_byte o d)
        × Lands (base_of g) (top g k) d 1 (ValueStack g locals kinds.Char (operands.Slot d) (p + 1) frames k) (AheadStack g locals kinds.Char d (p + 1) frames k))
        ⊎ ((q : ℕ) × (masks from to ≡ false) × ConversionAt (code_of g) (bounds_at g) (types_on g k) from to (option_map bytes_of_kind target) o (top g k) p q × ValueStack g locals to o q frames k)
    -- A char that is used as an int needs no instruction: its value stays in the same slot or constant.
    ValueStack g locals kind o p frames (Needs (Operate unary.Widen) ∷ k) = ValueStack g locals kinds.Int o p frames k
    ValueStack g locals kind o p frames (Needs (Operate operator) ∷ k) =
        Yields ((d : ℕ) × At (code_of g) p (unary_instruction operator d o)
        × Lands (base_of g) (top g k) d 1 (ValueStack g locals (unary_kind operator) (operands.Slot d) (p + 1) frames k) (AheadStack g locals (unary_kind operator) d (p + 1) frames k))
        ((operator ≡ unary.Not) × Forks (code_of g) (bounds_at g) (types_on g k) comparisons.Equal o (operands.Word 0) p (λ fails q. DecidedStack g (not fails) q frames k))
    ValueStack g locals kind o p frames (Needs (Chain NoOperations) ∷ k) = ValueStack g locals kind o p frames k
    ValueStack g locals kind o p frames (Needs (Chain operations) ∷ k) =
        IsLow o (top g k)
        × Yields ((d : ℕ) × (q : ℕ) × OperationsAt (code_of g) (bounds_at g) (types_on g k) operations o d (top g k) p q
        × Lands (base_of g) (top g k) d (words_of_kind (chain_kind kind operations)) (ValueStack g locals (chain_kind kind operations) (operands.Slot d) q frames k) (AheadStack g locals (chain_kind kind operations) d q frames k))
        (((failing : Comparison) × (r : Operand) × (q : ℕ) × ComparesAt (code_of g) (bounds_at g) (types_on g k) operations failing o r (top g k) p q
        × Forks (code_of g) (bounds_at g) (types_on g k) failing o r q (λ fails s. DecidedStack g fails s frames k))
        ⊎ Forks (code_of g) (bounds_at g) (types_on g k) comparisons.Equal o (operands.Word 0) p
        (λ fails q. TestsAt (code_of g) (bounds_at g) (types_on g k) operations fails (top g k) q (λ fails s. DecidedStack g fails s frames k)))
    ValueStack g locals kind o p frames (Needs (Apply operator left) ∷ k) =
        Yields ((d : ℕ) × (q : ℕ) × OperatorAt (code_of g) (bounds_at g) (types_on g k) operator d (operands.Slot (top g k)) o p q
        × Lands (base_of g) (top g k) d 1 (ValueStack g locals kinds.Int (operands.Slot d) q frames k) (AheadStack g locals kinds.Int d q frames k))
        ((failing : Comparison) × (failing_comparison operator ≡ Some failing)
        × Forks (code_of g) (bounds_at g) (types_on g k) failing (operands.Slot (top g k)) o p (λ fails q. DecidedStack g fails q frames k))
    ValueStack g locals kind o p frames (Needs (ApplyPointer peek operator left) ∷ k) =
        Yields ((d : ℕ) × (q : ℕ) × ((takes_kind operator left.kind ≡ true) × PointerAt (code_of g) (bounds_at g) (types_on g k) operator o (top g k) d p q)
        × Lands (base_of g) (top g k) d (words_of_kind (operator_kind operator)) (ValueStack g locals (operator_kind operator) (operands.Slot d) q frames k)
        (AheadStack g locals (operator_kind operator) d q frames k))
        ((failing : Comparison) × (pointers_failing operator ≡ Some failing)
        × Forks (code_of g) (bounds_at g) (types_on g k) failing (operands.Slot (top g k)) o p (λ fails q. DecidedStack g fails q frames k))
    ValueStack g locals kind o p frames (Needs CountElements ∷ k) =
        (kind ≡ kinds.Fat) × (d : ℕ) × (q : ℕ) × CountAt (code_of g) (bounds_at g) (types_on g k) o d p q
        × Lands (base_of g) (top g k) d 1 (ValueStack g locals kinds.Int (operands.Slot d) q frames k) (AheadStack g locals kinds.Int d q frames k)
    ValueStack g locals kind o p frames (Needs Decide ∷ k) =
        Yields ((d : ℕ) × (q : ℕ) × (o ≡ operands.Slot (top g k)) × TruthAt (code_of g) (bounds_at g) (types_on g k) (top g k) d p q
        × Lands (base_of g) (top g k) d 1 (ValueStack g locals kinds.Int (operands.Slot d) q frames k) (AheadStack g locals kinds.Int d q frames k))
        (Forks (code_of g) (bounds_at g) (types_on g k) comparisons.Equal o (operands.Word 0) p (λ fails q. DecidedStack g fails q frames k))
    ValueStack g locals kind o p frames (Needs (Store place) ∷ k) =
        (l : Lvalue) × (to : Operand) × (q : ℕ) × StoreAt g kind l o to p q × IsPlaceOf locals l place
        × HandsOn (code_of g) (words_of_kind kind) to q (DroppedStack g q frames k) (ValueStack g locals kind to q frames k)
        (λ d r. Lands (base_of g) (top g k) d (words_of_kind kind) (ValueStack g locals kind (operands.Slot d) r frames k) (AheadStack g locals kind d r frames k))
    ValueStack g locals kind o p frames (Needs (StoreCell peek place) ∷ k) =
        (q : ℕ) × SavedAt (code_of g) (bounds_at g) (types_on g k) kind (top g k) o p q
        × HandsOn (code_of g) (words_of_kind kind) o q (DroppedStack g q frames k) (ValueStack g locals kind o q frames k)
        (λ d r. Lands (base_of g) (top g k) d (words_of_kind kind) (ValueStack g locals kind (operands.Slot d) r frames k) (AheadStack g locals kind d r frames k))
    ValueStack g locals kind o p frames (Needs (Pass callees.Putchar before arguments) ∷ k) =
        (before ≡ []) × (arguments ≡ NoArguments) × At (code_of g) p (instructions.WriteByte o)
        × Prints (code_of g) o (p + 1) (DroppedStack g (p + 1) frames k)
        (λ d. Lands (base_of g) (top g k) d 1 (ValueStack g locals kinds.Int (operands.Slot d) (p + 1 + 1) frames k) (AheadStack g locals kinds.Int d (p + 1 + 1) frames k))
    ValueStack g locals kind o p frames (Needs (Pass callee before arguments) ∷ k) =
        (d : ℕ) × (m : ℕ) × (q : ℕ) × (all : ℕ) × (o ≡ operands.Slot (height (floor g k) (before ++ held k)))
        × ArgumentsAt (code_of g) (bounds_at g) (types_on g k) arguments (height (floor g k) (before ++ held k) + words_of_kind kind) p m
        × CallAt g callee all (top g k) d m q × (words_held before + (words_of_kind kind + all_passed arguments) ≡ all)
        × Lands (base_of g) (top g k) d (words_of_kind (called_at g callee)) (ValueStack g locals (called_at g callee) (operands.Slot d) q frames k) (AheadStack g locals (called_at g callee) d q frames k)
    ValueStack g locals kind o p frames (Needs (PlaceBy initial) ∷ k) =
        (d : ℕ) × (q : ℕ) × (o ≡ operands.Slot (top g k)) × MadeAt (code_of g) (bounds_at g) (types_on g k) initial o d (suc (top g k)) p q
        × Lands (base_of g) (top g k) d (words_of_kind (made_kind initial)) (ValueStack g locals (made_kind initial) (operands.Slot d) q frames k) (AheadStack g locals (made_kind initial) d q frames k)
    ValueStack g locals kind o p frames (Needs (BesideHandle region) ∷ k) = ValueStack g locals kind o p frames k
    ValueStack g locals kind o p frames (Needs (MakePlain owner wanted) ∷ k) =
        (handle : Operand) × (d : ℕ) × (q : ℕ) × IsHandleOf owner handle (top g k) k × (o ≡ operands.Slot (top g k)) × ObjectAt (code_of g) (bounds_at g) (types_on g k) handle (kind ∷ []) (top g k) d p q
        × Lands (base_of g) (ground g k) d 1 (ValueStack g locals kinds.NonNull (operands.Slot d) q frames k) (AheadStack g locals kinds.NonNull d q frames k)
    ValueStack g locals kind o p frames (Needs (MakeFields owner before fields) ∷ k) =
        (handle : Operand) × (d : ℕ) × (m : ℕ) × (q : ℕ) × (all : List Kind) × IsHandleOf owner handle (top g k) k × (o ≡ operands.Slot (height (floor g k) (before ++ held k)))
        × ArgumentsAt (code_of g) (bounds_at g) (types_on g k) fields (height (floor g k) (before ++ held k) + words_of_kind kind) p m
        × ObjectAt (code_of g) (bounds_at g) (types_on g k) handle all (top g k) d m q
        × (kinds_of (blanks_of (reverse before)) ++ kind ∷ kinds_passed fields ≡ all)
        × Lands (base_of g) (ground g k) d 1 (ValueStack g locals kinds.NonNull (operands.Slot d) q frames k) (AheadStack g locals kinds.NonNull d q frames k)
    ValueStack g locals kind o p frames (Needs (MakeArray owner level wanted element) ∷ k) =
        (handle : Operand) × (d : ℕ) × (h : ℕ) × (r : ℕ) × (s : ℕ) × (q : ℕ) × IsHandleOf owner handle (top g k) k × (o ≡ operands.Slot (top g k))
        × BegunAt (code_of g) (bounds_at g) (types_on g k) handle wanted (top g k) p h
        × (level ≡ length (counters_of (floor g k) k)) × ElementsAt (code_of g) (bounds_at g) (types_on g k) element wanted (top g k) d h r s q
        × Lands (base_of g) (ground g k) d 3 (ValueStack g locals kinds.Fat (operands.Slot d) q frames k) (AheadStack g locals kinds.Fat d q frames k)
    ValueStack g locals kind o p frames (Needs (FillElement object count index level wanted element) ∷ k) =
        (d : ℕ) × (h : ℕ) × (s : ℕ) × (q : ℕ) × (o ≡ operands.Slot (top g k + 3)) × (index < count) × (words_for (count * bytes_of_kind wanted) ≤ MOST_BLOCK_WORDS)
        × (level ≡ length (counters_of (floor g k) k)) × ElementsAt (code_of g) (bounds_at g) (types_on g k) element wanted (top g k) d h p s q
        × Lands (base_of g) (ground g k) d 3 (ValueStack g locals kinds.Fat (operands.Slot d) q frames k) (AheadStack g locals kinds.Fat d q frames k)
    ValueStack g locals kind o p frames (Needs (Initialise number wanted items) ∷ k) =
        (exits : Exits) × (q : ℕ) × At (code_of g) p (move_of (words_of_kind kind) (slot_of (starts_at g) number) o) × HasRoom (types_at g) number kind × (kind_in (types_at g).locals number ≡ wanted)
        × ItemsAt (code_of g) (bounds_at g) (types_at g) items exits (floor g k) (p + 1) q × StatementStack g exits q frames k
    ValueStack g locals kind o p frames (Needs (Choose first second) ∷ k) =
        Forks (code_of g) (bounds_at g) (types_on g k) comparisons.Equal o (operands.Word 0) p (ChosenAt g (floor g k) first second (λ exits q. StatementStack g exits q frames k))
    ValueStack g locals kind o p frames (Needs (Test condition body) ∷ k) =
        Forks (code_of g) (bounds_at g) (types_on g k) comparisons.Equal o (operands.Word 0) p (RepeatedAt g (floor g k) condition body (λ exits q. StatementStack g exits q frames k))
    ValueStack g locals kind o p frames (Needs Return ∷ k) =
        (exits : Exits) × (q : ℕ) × (s : ℕ) × (r : ℕ) × (o ≡ operands.Slot s) × LeaveAt (code_of g) (bounds_at g) (types_at g) exits.in_function p r
        × At (code_of g) r (instructions.Finish s) × IsReturned g kind
        × StatementStack g exits q frames k
    ValueStack g locals kind o p frames (Needs FreeObject ∷ k) =
        (d : ℕ) × (q : ℕ) × FreedAt (code_of g) (bounds_at g) (types_on g k) o p q
        × Lands (base_of g) (top g k) d 1 (ValueStack g locals kinds.Int (operands.Slot d) q frames k) (AheadStack g locals kinds.Int d q frames k)
    ValueStack g locals kind o p frames (Needs CloseByKey ∷ k) =
        (d : ℕ) × (q : ℕ) × At (code_of g) p (instructions.Ask (requests.CloseDynamic o)) × (p + 1 ≡ q)
        × Lands (base_of g) (top g k) d 1 (ValueStack g locals kinds.Int (operands.Slot d) q frames k) (AheadStack g locals kinds.Int d q frames k)
    ValueStack g locals kind o p frames (Needs (ThrowWith tag) ∷ k) =
        (exits : Exits) × (q : ℕ) × IsNumber tag × At (code_of g) p (instructions.Throw (tag_operand tag) o) × StatementStack g exits q frames k
    ValueStack g locals kind o p frames (Needs (Follow pointer target) ∷ k) =
        (q : ℕ) × IsLow o (top g k) × FollowedAt (code_of g) (bounds_at g) (types_on g k) (is_thin pointer) (option_map bytes_of_kind target) o (top g k) p q
        × PlaceStack g locals (followed_operand (is_thin pointer) (option_map bytes_of_kind target) o (top g k)) 0 q frames k
    ValueStack g locals kind o p frames (Needs (FollowMember pointer fields field) ∷ k) =
        (c : ℕ) × (q : ℕ) × (is_thin pointer ≡ true) × CheckAt (code_of g) (bounds_at g) (types_on g k) null_exception o p q × (field < length fields)
        × (before field fields < 2 ^ 32 → c ≡ before field fields) × PlaceStack g locals o c q frames k
    ValueStack g locals kind o p frames (Needs (Index peek target index) ∷ k) =
        ((x : Operand) × (m : ℕ) × (q : ℕ) × (o ≡ operands.Slot (top g k)) × ValueAt (code_of g) (bounds_at g) (types_on g k) index (top g k + 3) x p m
        × At (code_of g) m (instructions.Binary plain_binary.Add (top g k + 2) (operands.Slot (top g k + 2)) x)
        × ReachedAt (code_of g) (bounds_at g) (types_on g k) (option_map bytes_of_kind target) (top g k) (top g k + 2) (top g k) (m + 1) q
        × PlaceStack g locals (reached_operand (option_map bytes_of_kind target) (top g k) (top g k)) 0 q frames k)
        ⊎ ((n : ℕ) × (x : Operand) × (m : ℕ) × (q : ℕ) × (o ≡ operands.Slot n) × (n ≤ top g k) × (is_simple (starts_on g k) index ≡ true)
        × ValueAt (code_of g) (bounds_at g) (types_on g k) index (top g k + 3) x p m
        × At (code_of g) m (instructions.Binary plain_binary.Add (top g k + 2) (operands.Slot (n + 2)) x)
        × ReachedAt (code_of g) (bounds_at g) (types_on g k) (option_map bytes_of_kind target) n (top g k + 2) (top g k) (m + 1) q
        × PlaceStack g locals (reached_operand (option_map bytes_of_kind target) n (top g k)) 0 q frames k)
    ValueStack g locals kind o p frames (Needs (Advance peek target base) ∷ k) =
        (q : ℕ) × ((base.kind ≡ kinds.Fat) × At (code_of g) p (instructions.Binary plain_binary.Add (top g k + 2) (operands.Slot (top g k + 2)) o))
        × ReachedAt (code_of g) (bounds_at g) (types_on g k) (option_map bytes_of_kind target) (top g k) (top g k + 2) (top g k) (p + 1) q
        × PlaceStack g locals (reached_operand (option_map bytes_of_kind target) (top g k) (top g k)) 0 q frames k
    ValueStack g locals kind o p frames (Needs (OpenBy number lent items) ∷ k) =
        (exits : Exits) × (m : ℕ) × (q : ℕ) × NamedAt (code_of g) (bounds_at g) (types_at g) number kinds.Handle o p m
        × ItemsAt (code_of g) (bounds_at g) (types_at g) items exits (floor g k) m q × StatementStack g exits q frames k
    ValueStack g locals kind o p frames (Needs (AliasOf number lent items) ∷ k) =
        (exits : Exits) × (m : ℕ) × (q : ℕ) × NamedAt (code_of g) (bounds_at g) (types_at g) number kind o p m
        × ItemsAt (code_of g) (bounds_at g) (types_at g) items exits (floor g k) m q × StatementStack g exits q frames k
    ValueStack g locals kind o p frames (Discard ∷ k) = (exits : Exits) × StatementStack g exits p frames k
    ValueStack g locals kind o p frames (entry ∷ k) = ⊥

    -- Says that the code from position p on uses the address of a memory access and then executes the continuation frames. This
    -- address is the word of a slot or constant plus a number of bytes.
    pub PlaceStack : (g : ℕ) → (ℕ → Option ℕ) → Operand → (c p : ℕ) → List Frame → List Entry → Type 0
    PlaceStack g locals o c p frames (NeedsPlace (LoadFrom cell) ∷ k) =
        (d : ℕ) × (q : ℕ) × LoadedAt (code_of g) cell o c d (top g k) p q
        × Lands (base_of g) (top g k) d (words_of_kind cell) (ValueStack g locals cell (operands.Slot d) q frames k) (AheadStack g locals cell d q frames k)
    PlaceStack g locals o c p frames (NeedsPlace TakeAddress ∷ k) =
        (d : ℕ) × (q : ℕ) × AddressAt (code_of g) o c d p q
        × Lands (base_of g) (top g k) d 1 (ValueStack g locals kinds.NonNull (operands.Slot d) q frames k) (AheadStack g locals kinds.NonNull d q frames k)
    PlaceStack g locals o c p frames (NeedsPlace (StoreTo peek (Convert from to a)) ∷ k) =
        (x : Operand) × (s : ℕ) × (u : ℕ) × (q : ℕ) × AddressAt (code_of g) o c (top g k) p s
        × ConvertedOperandAt (code_of g) (bounds_at g) (types_on g k) (Convert from to a) (top g k + 1) x s u
        × SavedAt (code_of g) (bounds_at g) (types_on g k) to (top g k) x u q
        × HandsOn (code_of g) (words_of_kind to) x q (DroppedStack g q frames k) (ValueStack g locals to x q frames k)
        (λ d r. Lands (base_of g) (top g k) d (words_of_kind to) (ValueStack g locals to (operands.Slot d) r frames k) (AheadStack g locals to d r frames k))
    PlaceStack g locals o c p frames (NeedsPlace (SwapLeft kind peek right) ∷ k) =
        (exits : Exits) × (x : Dereference) × (m : ℕ) × (r : ℕ) × (q : ℕ) × HasSide (code_of g) (bounds_at g) (types_at g) right kind
        × AddressAt (code_of g) o c (floor g k) p m × SideAt (code_of g) (bounds_at g) (types_at g) right (floor g k + 1) m r
        × ExchangeAt (code_of g) (bounds_at g) (types_at g) kind (CellSide x) right (floor g k) r q × StatementStack g exits q frames k
    PlaceStack g locals o c p frames (NeedsPlace (SwapRight kind peek is_cell left) ∷ k) =
        (exits : Exits) × (a : Side) × (y : Dereference) × (m : ℕ) × (q : ℕ) × HasSide (code_of g) (bounds_at g) (types_at g) a kind
        × IsLeft locals is_cell a left × AddressAt (code_of g) o c (right_slot a (floor g k)) p m
        × ExchangeAt (code_of g) (bounds_at g) (types_at g) kind a (CellSide y) (floor g k) m q × StatementStack g exits q frames k
    PlaceStack g locals o c p frames k = ⊥

    -- Says that the code from position p on executes the continuation frames after a condition whose outcome, failing or
    -- holding, is decided.
    pub DecidedStack : (g : ℕ) → (fails : Bool) → (p : ℕ) → List Frame → List Entry → Type 0
    DecidedStack g fails p frames (Needs (Chain operations) ∷ k) =
        TestsAt (code_of g) (bounds_at g) (types_on g k) operations fails (top g k) p (λ fails q. DecidedStack g fails q frames k)
    DecidedStack g fails p frames (Needs Decide ∷ k) = DecidedStack g fails p frames k
    DecidedStack g fails p frames (Needs (Operate unary.Not) ∷ k) = DecidedStack g (not fails) p frames k
    DecidedStack g fails p frames (Needs (Choose first second) ∷ k) = ChosenAt g (floor g k) first second (λ exits q. StatementStack g exits q frames k) fails p
    DecidedStack g fails p frames (Needs (Test condition body) ∷ k) = RepeatedAt g (floor g k) condition body (λ exits q. StatementStack g exits q frames k) fails p
    DecidedStack g fails p frames k = ⊥

    -- Says that the code from position p on executes the continuation frames after a value that is dropped, so that no slot holds it.
    pub DroppedStack : (g p : ℕ) → List Frame → List Entry → Type 0
    DroppedStack g p frames (Discard ∷ k) = (exits : Exits) × StatementStack g exits p frames k
    DroppedStack g p frames k = ⊥

    -- Says that the code from position p on executes the continuation frames after a value that is already in slot n of its local.
    pub AheadStack : (g : ℕ) → (ℕ → Option ℕ) → Kind → (n p : ℕ) → List Frame → List Entry → Type 0
    AheadStack g locals kind n p frames (Needs (ConvertTo from to target) ∷ k) =
        (converts_there from to ≡ true) × (masks from to ≡ false) × (words_of_kind kind ≡ words_of_kind to) × AheadStack g locals to n p frames k
    AheadStack g locals kind n p frames (Needs (Operate unary.Widen) ∷ k) = (words_of_kind kind ≡ 1) × AheadStack g locals kinds.Int n p frames k
    AheadStack g locals kind n p frames (Needs (Chain NoOperations) ∷ k) = AheadStack g locals kind n p frames k
    AheadStack g locals kind n p frames (Needs (BesideHandle region) ∷ k) = AheadStack g locals kind n p frames k
    AheadStack g locals kind n p frames (Needs (Store place) ∷ k) =
        (number : ℕ) × (object : ℕ) × (place ≡ Thin object 0) × (locals number ≡ Some object) × (slot_of (starts_at g) number ≡ n)
        × HasRoom (types_at g) number kind
        × HandsOn (code_of g) (words_of_kind kind) (operands.Slot n) p (DroppedStack g p frames k) (ValueStack g locals kind (operands.Slot n) p frames k)
        (λ d r. Lands (base_of g) (top g k) d (words_of_kind kind) (ValueStack g locals kind (operands.Slot d) r frames k) (AheadStack g locals kind d r frames k))
    AheadStack g locals kind n p frames (Needs (Initialise number wanted items) ∷ k) =
        (exits : Exits) × (q : ℕ) × (slot_of (starts_at g) number ≡ n) × HasRoom (types_at g) number kind × (kind_in (types_at g).locals number ≡ wanted) × ItemsAt (code_of g) (bounds_at g) (types_at g) items exits (floor g k) p q × StatementStack g exits q frames k
    AheadStack g locals kind n p frames k = ⊥

    -- Says that the code from position p on executes the continuation frames, none of which needs a value from what was executed before.
    pub StatementStack : (g : ℕ) → Exits → (p : ℕ) → List Frame → List Entry → Type 0
    StatementStack g exits p frames (Rest items ∷ k) =
        (q : ℕ) × ItemsAt (code_of g) (bounds_at g) (types_at g) items exits (floor g k) p q × StatementStack g exits q frames k
    StatementStack g exits p frames (Join ∷ k) = (q : ℕ) × Arrives (code_of g) p q × StatementStack g exits q frames k
    StatementStack g exits p frames (Loop condition body ∷ k) =
        (outer : Exits) × (q : ℕ) × LoopAt g (floor g k) condition body exits outer p q × StatementStack g outer q frames k
    StatementStack g exits p frames (CloseRegion region home ∷ k) = (q : ℕ) × Arrives (code_of g) p q × StatementStack g exits q frames k
    StatementStack g exits p frames (Handler handler ∷ k) =
        (outer : Exits) × (q : ℕ) × (exits ≡ inside_try outer (floor g k)) × At (code_of g) p (instructions.Leave (floor g k)) × At (code_of g) (p + 1) (instructions.Jump q)
        × StatementStack g outer q frames k
    StatementStack g exits p frames (CloseLexical region ∷ k) =
        (outer : Exits) × (q : ℕ) × (exits ≡ inside_region outer (floor g k)) × ClosedAt (code_of g) (bounds_at g) (types_at g) (floor g k) p q × StatementStack g outer q frames k
    StatementStack g exits p frames (EndLoan lent ∷ k) = StatementStack g exits p frames k
    StatementStack g exits p frames (Caller e ∷ k) =
        (s : ℕ) × At (code_of g) p (instructions.Finish s) × IsOutside exits
        × Below frames (λ f rest. Lands (base_of f.caller.function) (top f.caller.function k) f.result (words_of_kind (returned_at g))
        (ValueStack f.caller.function e.locals (returned_at g) (operands.Slot f.result) f.caller.next rest k)
        (AheadStack f.caller.function e.locals (returned_at g) f.result f.caller.next rest k))
    StatementStack g exits p frames (Main ∷ k) = (s : ℕ) × At (code_of g) p (instructions.Finish s) × IsOutside exits × IsLast frames k
    StatementStack g exits p frames k = ⊥

  -- Says that the code from position p on executes the continuation frames after a condition, which fails if the comparison
  -- `failing` of two operands holds.
  abbrev pub ConditionStack : (g : ℕ) → Comparison → (l r : Operand) → (p : ℕ) → List Frame → List Entry → Type 0
  ConditionStack g failing l r p frames k = Forks (code_of g) (bounds_at g) (types_on g k) failing l r p (λ fails q. DecidedStack g fails q frames k)

  -- Says that a value of a kind is moved to slot d, and that the code from position p on uses it.
  abbrev pub LandsStack : (g : ℕ) → (ℕ → Option ℕ) → Kind → (d p : ℕ) → List Frame → List Entry → Type 0
  LandsStack g locals kind d p frames k =
      Lands (base_of g) (top g k) d (words_of_kind kind) (ValueStack g locals kind (operands.Slot d) p frames k) (AheadStack g locals kind d p frames k)

  -- Says that the pointer to a new object is moved to slot d, and that the code from position p on uses it. Slot d may be the
  -- slot of the region handle.
  abbrev pub LandsMade : (g : ℕ) → (ℕ → Option ℕ) → Kind → (d p : ℕ) → List Frame → List Entry → Type 0
  LandsMade g locals kind d p frames k =
      Lands (base_of g) (ground g k) d (words_of_kind kind) (ValueStack g locals kind (operands.Slot d) p frames k) (AheadStack g locals kind d p frames k)

  abbrev pub HandsOnStack : (g : ℕ) → (ℕ → Option ℕ) → Kind → Operand → (p : ℕ) → List Frame → List Entry → Type 0
  HandsOnStack g locals kind o p frames k =
      HandsOn (code_of g) (words_of_kind kind) o p (DroppedStack g p frames k) (ValueStack g locals kind o p frames k) (λ d q. LandsStack g locals kind d q frames k)

  abbrev pub PrintsStack : (g : ℕ) → (ℕ → Option ℕ) → Operand → (p : ℕ) → List Frame → List Entry → Type 0
  PrintsStack g locals o p frames k =
      At (code_of g) p (instructions.WriteByte o)
      × Prints (code_of g) o (p + 1) (DroppedStack g (p + 1) frames k) (λ d. LandsStack g locals kinds.Int d (p + 1 + 1) frames k)

  -- Says that the result of a binary operator is moved to a slot, or is tested by the next jump.
  abbrev pub AppliedStack : (g : ℕ) → (ℕ → Option ℕ) → Operator → (l r : Operand) → (p : ℕ) → List Frame → List Entry → Type 0
  AppliedStack g locals operator l r p frames k =
      Yields ((d : ℕ) × (q : ℕ) × OperatorAt (code_of g) (bounds_at g) (types_on g k) operator d l r p q × LandsStack g locals kinds.Int d q frames k)
      ((failing : Comparison) × (failing_comparison operator ≡ Some failing) × ConditionStack g failing l r p frames k)

  -- Says that the code adds an index to a fat pointer in slot n and accesses memory through the pointer.
  abbrev pub AdvancesAt : (g : ℕ) → (ℕ → Option ℕ) → Kind → (span : Option ℕ) → (n : ℕ) → Operand → (p q : ℕ) → List Frame → List Entry → Type 0
  AdvancesAt g locals kind span n x p q frames k =
      ((kind ≡ kinds.Fat) × At (code_of g) p (instructions.Binary plain_binary.Add (top g k + 2) (operands.Slot (n + 2)) x))
      × ReachedAt (code_of g) (bounds_at g) (types_on g k) span n (top g k + 2) (top g k) (p + 1) q × PlaceStack g locals (reached_operand span n (top g k)) 0 q frames k
