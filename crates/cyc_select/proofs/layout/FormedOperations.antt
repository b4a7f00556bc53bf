-- The MIPS lines that read slots, compute and write slots are well-formed. The MIPS lines of moves, loads and stores are well-formed too.
use Rattle.std.proofs.Common.{◌≡◌, ℕ, zero, suc, ◌+◌, ◌-◌, ◌/◌, ◌%◌, ◌^◌, ◌<◌, ◌≤◌, Bool, true, false, List, [], ◌∷◌, ◌++◌, length, Option, None, Some, refl, arith}
use Rattle.std.specs.Prelude.{◌==◌, ◌&&◌, nat_lt, if◌then◌else◌}
use Rattle.std.specs.List.{AllByRecursion}
use Rattle.std.proofs.lemmas.Bool.{ltb-true}
use Rattle.cyc_words.specs.Word.{IsWord}
use Rattle.cyc_words.proofs.Lists.{all_append}
use Rattle.cyc_plain.specs.declared.limits.TheConstants.{MOST_FRAME_WORDS}
use Rattle.cyc_isa.specs.declared.instr.Instr.{Instr}
use Rattle.cyc_plain.specs.declared.instruction.BinaryOperator.{BinaryOperator}
use Rattle.cyc_plain.specs.declared.instruction.UnaryOperator.{UnaryOperator}
use Rattle.cyc_plain.specs.declared.instruction.Comparison.{Comparison}
use Rattle.cyc_plain.specs.declared.instruction.Operand.{Operand}
use Rattle.cyc_plain.specs.declared.instruction.Operand.TheVariants as operands
use Rattle.cyc_isa.specs.Decoding.{register_of}
use Rattle.cyc_isa.specs.declared.instr.BranchOp.TheVariants as branch
use Rattle.cyc_isa.specs.declared.instr.MemoryOp.{MemoryOp}
use Rattle.cyc_isa.specs.declared.instr.MoveFromOp.{MoveFromOp}
use Rattle.cyc_isa.specs.declared.instr.MoveFromOp.TheVariants.{High, Low}
use Rattle.cyc_machine_model.specs.declared.constants.TheConstants.{ARGUMENT, GET_BYTE, PUT_BYTE, SERVICE}
use Rattle.cyc_plain.specs.inside.Program.{Routine}
use Rattle.cyc_plain.specs.declared.instruction.Request.{Request}
use Rattle.cyc_plain.specs.declared.instruction.Request.TheVariants as requests
use Rattle.cyc_plain.specs.inside.WellFormed.{IsOperand, IsArgument, IsOfWord, IsArgumentOfWord}
use Rattle.cyc_frame.specs.inside.Layout.{slot_word}
use Rattle.cyc_frame.specs.inside.Frame.{Frame}
use Rattle.cyc_registers.specs.declared.home.Home.{Home}
use Rattle.cyc_registers.specs.declared.home.Home.TheVariants as homes
use Rattle.cyc_select.specs.declared.constants.TheConstants.{FIRST, SECOND, THIRD, ZERO}
use Rattle.cyc_select.specs.declared.code.Line.{Line}
use Rattle.cyc_select.specs.declared.code.Condition.TheVariants as conditions
use Rattle.cyc_select.specs.declared.code.Line.TheVariants as lines
use Rattle.cyc_select.specs.declared.plan.Operation.{Operation}
use Rattle.cyc_select.specs.declared.plan.Operation.TheVariants as operations
use Rattle.cyc_select.specs.declared.plan.Outcome.{Outcome}
use Rattle.cyc_select.specs.declared.plan.Outcome.TheVariants as outcomes
use Rattle.cyc_select.specs.declared.plan.Plan.{Plan}
use Rattle.cyc_select.specs.declared.plan.Test.{Test}
use Rattle.cyc_select.specs.declared.plan.Test.TheVariants as tests
use Rattle.cyc_select.specs.inside.Plans.{unary_plan, binary_plan, test_of}
use Rattle.cyc_select.specs.inside.Labelled.{IsFormedLine}
use Rattle.cyc_select.specs.inside.Numbers.{fits_signed, is_zero_word}
use Rattle.cyc_select.specs.inside.Instructions.{slot_offset, store_slot, load_upper, constant, small, syscall, add_immediate, minus}
use Rattle.cyc_select.specs.inside.Slots.{value_register, is_kept, load_from, keep_code, give_to, give_code, bring_code, bring_all, load_words, reloads_from, made_in, load_all}
use Rattle.cyc_select.specs.inside.Slots.{store_all, is_own}
use Rattle.cyc_select.specs.inside.Operands.{fetch_from, far_plan, address_code, near_half, at_address, or_immediate, is_tested, plan_count, word_code, load_code, operand_code, operand_register, operands_code, operation_code, outcome_code, operation_of, computed_code, plan_code}
use Rattle.cyc_select.specs.inside.Operands.{test_code, divide_count, operator_count, operand_count}
use Rattle.cyc_select.specs.inside.Passing.{passed_from, spill_from, pass_from, pass, copies, spill, spills}
use Rattle.cyc_select.specs.inside.Selection.{product_code, quotient_code, move_to, ordinary, argument_code, moves, part_of, divided_code, divide_code, operator_code}
use Rattle.cyc_select.specs.inside.Selection.{regions_code, load_at, store_at, write_code}
use Rattle.cyc_select.proofs.values.Plans.{AllOfTest, all_unary, all_binary, all_test}

-- `Formed` says that all lines are well-formed in code of `line_count` lines.
module _ (line_count : ℕ) where
  abbrev Formed : List Line → Type 0
  Formed ls = AllByRecursion (IsFormedLine line_count) ls

  pub formed_append : (xs ys : List Instr) → Formed (ordinary xs) → Formed (ordinary ys) → Formed (ordinary (xs ++ ys))
  formed_append [] ys first second = second
  formed_append (x ∷ xs) ys (one, rest) second = (one, formed_append xs ys rest second)

  either_formed : (b : Bool) (is : List Instr) → Formed (ordinary is) → Formed (ordinary (if b then [] else is))
  either_formed true is all = tt
  either_formed false is all = all

  pub regions_formed : (request : Request) → Formed (ordinary (regions_code request))
  regions_formed (requests.OpenLexical destination) = ((refl, (omega arith)), tt)
  regions_formed (requests.CloseTo mark) = ((refl, (omega arith)), tt)
  regions_formed (requests.OpenDynamic destination) = tt
  regions_formed (requests.CloseDynamic handle) = tt
  regions_formed (requests.Allocate destination handle words) = tt
  regions_formed (requests.Free address) = tt

  high_fits : (word : ℕ) → IsWord word → word / 2 ^ 16 < 2 ^ 16
  high_fits word is_word = omega (arith, is_word)

  pub low_fits : (word : ℕ) → word % 2 ^ 16 < 2 ^ 16
  low_fits word = omega arith

  pub word_formed : (target word : ℕ) → IsWord word → Formed (ordinary (word_code target word))
  word_formed target word fits = go (fits_signed word) (nat_lt word (2 ^ 16)) (word % 2 ^ 16 == 0) refl
    where
      go : (a b c : Bool) → nat_lt word (2 ^ 16) ≡ b
          → Formed (ordinary (if a then small target (word % 2 ^ 16) ∷ [] else (if b then or_immediate target word ∷ [] else (if c then load_upper target word ∷ [] else constant target word))))
      go true b c low = ((refl, low_fits word), tt)
      go false true c low = ((refl, ltb-true word (2 ^ 16) low), tt)
      go false false true low = ((refl, high_fits word fits), tt)
      go false false false low = ((refl, high_fits word fits), ((refl, low_fits word), tt))

  abbrev HalfFits : Operation → Type 0
  HalfFits (operations.Immediate op half) = half < 2 ^ 16
  HalfFits operation = Unit {0}

  operation_formed : (o : Operation) (target left right : ℕ) → HalfFits o → Formed (ordinary (operation_code o target left right))
  operation_formed (operations.Arithmetic op) target left right fits = ((refl, tt), tt)
  operation_formed (operations.Immediate op half) target left right fits = ((refl, fits), tt)
  operation_formed (operations.Shift op) target left right fits = ((refl, tt), tt)
  operation_formed (operations.ShiftBy op amount) target left right fits = ((refl, tt), tt)
  operation_formed (operations.MultiplyDivide op from) target left right fits = ((refl, tt), ((refl, tt), tt))

  outcome_formed : (o : Outcome) (target : ℕ) → Formed (ordinary (outcome_code o target))
  outcome_formed outcomes.AsItIs target = tt
  outcome_formed outcomes.WhetherZero target = ((refl, (omega arith)), tt)
  outcome_formed outcomes.WhetherNotZero target = ((refl, tt), tt)

  -- The module's lemmas concern a function's frame in which every slot's offset from the frame pointer fits 16 bits.
  module _ (frame : Frame) (routine : Routine) (within : (slot : ℕ) → slot < routine.slots → slot_word frame slot < MOST_FRAME_WORDS) where
    pub slot_fits : (slot : ℕ) → slot < routine.slots → slot_offset frame slot < 2 ^ 16
    slot_fits slot below = omega (arith, within slot below)

    pub loaded_formed : (o : Option ℕ) (target slot : ℕ) → slot < routine.slots → Formed (ordinary (load_from o frame target slot ∷ []))
    loaded_formed None target slot below = ((refl, slot_fits slot below), tt)
    loaded_formed (Some register) target slot below = ((refl, tt), tt)

    pub loads_formed : (slot : ℕ) (targets : List ℕ) → slot + length targets ≤ routine.slots → Formed (ordinary (load_all frame slot targets))
    loads_formed slot [] fits = tt
    loads_formed slot (target ∷ targets) fits = ((loaded_formed (value_register frame slot) target slot (omega (arith, fits))).0, loads_formed (suc slot) targets (omega (arith, fits)))

    pub words_formed : (slot : ℕ) (targets : List ℕ) → slot + length targets ≤ routine.slots → Formed (ordinary (load_words frame slot targets))
    words_formed slot [] fits = tt
    words_formed slot (target ∷ targets) fits = ((refl, slot_fits slot (omega (arith, fits))), words_formed (suc slot) targets (omega (arith, fits)))

    pub reload_formed : (slot : ℕ) (hs : List Home) → slot + length hs ≤ routine.slots → Formed (ordinary (reloads_from frame slot hs))
    reload_formed slot [] fits = tt
    reload_formed slot (homes.Memory ∷ hs) fits = reload_formed (suc slot) hs (omega (arith, fits))
    reload_formed slot (homes.Both register ∷ hs) fits = ((refl, slot_fits slot (omega (arith, fits))), reload_formed (suc slot) hs (omega (arith, fits)))
    reload_formed slot (homes.Register register ∷ hs) fits = reload_formed (suc slot) hs (omega (arith, fits))

    pub keep_formed : (slot : ℕ) → slot < routine.slots → Formed (ordinary (keep_code frame slot))
    keep_formed slot below = go (is_kept frame slot)
      where
        go : (b : Bool) → Formed (ordinary (if b then store_slot frame (made_in frame slot) slot ∷ [] else []))
        go true = ((refl, slot_fits slot below), tt)
        go false = tt

    pub give_formed : (source slot : ℕ) → slot < routine.slots → Formed (ordinary (give_code frame source slot))
    give_formed source slot below = go (value_register frame slot)
      where
        go : (o : Option ℕ) → Formed (ordinary (give_to o frame source slot))
        go None = ((refl, slot_fits slot below), tt)
        go (Some register) = ((refl, tt), keep_formed slot below)

    pub stores_formed : (slot : ℕ) (sources : List ℕ) → slot + length sources ≤ routine.slots → Formed (ordinary (store_all frame slot sources))
    stores_formed slot [] fits = tt
    stores_formed slot (source ∷ sources) fits = ((refl, slot_fits slot (omega (arith, fits))), stores_formed (suc slot) sources (omega (arith, fits)))

    pub brought_formed : (again : Bool) (slot : ℕ) (sources : List ℕ) → slot + length sources ≤ routine.slots → Formed (ordinary (bring_all again frame slot sources))
    brought_formed again slot [] fits = tt
    brought_formed again slot (source ∷ sources) fits =
        formed_append (bring_code again frame source slot) (bring_all again frame (suc slot) sources) (one (again && is_kept frame slot)) (brought_formed again (suc slot) sources (omega (arith, fits)))
      where
        one : (b : Bool) → Formed (ordinary (if b then store_slot frame source slot ∷ [] else give_code frame source slot))
        one true = ((refl, slot_fits slot (omega (arith, fits))), tt)
        one false = give_formed source slot (omega (arith, fits))

    pub spills_formed : (callee : Frame) (source slot count : ℕ) → source + count ≤ routine.slots → Formed (ordinary (spills frame callee source slot count))
    spills_formed callee source slot zero fits = tt
    spills_formed callee source slot (suc count) fits =
        formed_append (spill frame callee source slot) (spills frame callee (suc source) (suc slot) count) (one (passed_from frame callee source slot)) (spills_formed callee (suc source) (suc slot) count (omega (arith, fits)))
      where
        unkept : (b : Bool) → Formed (ordinary (if b then [] else store_slot frame (made_in frame source) source ∷ []))
        unkept true = tt
        unkept false = ((refl, slot_fits source (omega (arith, fits))), tt)

        one : (o : Option ℕ) → Formed (ordinary (spill_from o frame source))
        one None = unkept (is_kept frame source)
        one (Some register) = tt

    pub copies_formed : (callee : Frame) (callee_slots : ℕ) → ((slot : ℕ) → slot < callee_slots → slot_word callee slot < MOST_FRAME_WORDS)
        → (source slot count : ℕ) → source + count ≤ routine.slots → slot + count ≤ callee_slots → Formed (ordinary (copies frame callee source slot count))
    copies_formed callee callee_slots inside source slot zero source_fits place_fits = tt
    copies_formed callee callee_slots inside source slot (suc count) source_fits place_fits =
        formed_append (pass frame callee source slot) (copies frame callee (suc source) (suc slot) count) (one (passed_from frame callee source slot))
        (copies_formed callee callee_slots inside (suc source) (suc slot) count (omega (arith, source_fits)) (omega (arith, place_fits)))
      where
        its_fit : slot_offset callee slot < 2 ^ 16
        its_fit = omega (arith, inside slot (omega (arith, place_fits)))

        kept : (b : Bool) → Formed (ordinary (if b then store_slot callee (made_in callee slot) slot ∷ [] else []))
        kept true = ((refl, its_fit), tt)
        kept false = tt

        given : (o : Option ℕ) (register : ℕ) → Formed (ordinary (give_to o callee register slot))
        given None register = ((refl, its_fit), tt)
        given (Some own) register = ((refl, tt), kept (is_kept callee slot))

        one : (o : Option ℕ) → Formed (ordinary (pass_from o frame callee source slot))
        one None = ((refl, omega (arith, within source (omega (arith, source_fits)))), kept (is_kept callee slot))
        one (Some register) = handed (is_own (value_register callee slot) register)
          where
            handed : (b : Bool) → Formed (ordinary (if b then keep_code callee slot else give_code callee register slot))
            handed true = kept (is_kept callee slot)
            handed false = given (value_register callee slot) register

    -- ---- operands, plans and tests

    -- `IsThere` says that an operand is a slot of the function or a constant that fits a machine word.
    abbrev pub IsThere : Operand → Type 0
    IsThere o = IsOperand routine o × IsOfWord o

    pub load_formed : (target : ℕ) (o : Operand) → IsThere o → Formed (ordinary (load_code frame target o))
    load_formed target (operands.Slot number) (below, fits) = loaded_formed (value_register frame number) target number below
    load_formed target (operands.Word word) (below, fits) = word_formed target word fits

    pub argument_formed : (register : ℕ) (o : Option Operand) → IsArgument routine o → IsArgumentOfWord o → Formed (ordinary (argument_code frame register o))
    argument_formed register None there fits = tt
    argument_formed register (Some operand) there fits = load_formed register operand (there, fits)

    pub operand_formed : (register : ℕ) (o : Operand) → IsThere o → Formed (ordinary (operand_code frame register o))
    operand_formed register (operands.Slot number) (below, fits) = fetch_formed (value_register frame number)
      where
        fetch_formed : (o : Option ℕ) → Formed (ordinary (fetch_from o frame register number))
        fetch_formed None = ((refl, slot_fits number below), tt)
        fetch_formed (Some own) = tt
    operand_formed register (operands.Word word) (there, fits) = either_formed (is_zero_word (operands.Word word)) (word_code register word) (word_formed register word fits)

    operands_formed : (left right : Operand) → IsThere left → IsThere right → Formed (ordinary (operands_code frame left right))
    operands_formed left right l r =
        formed_append (operand_code frame FIRST left) (operand_code frame SECOND right) (operand_formed FIRST left l) (operand_formed SECOND right r)

    -- `IsPlanThere` says that each operand of a plan (how MIPS performs an operation) is a slot of the function or a
    -- constant. The plan's immediate must fit 16 bits.
    abbrev IsPlanThere : Plan → Type 0
    IsPlanThere plan = IsThere plan.left × IsThere plan.right × HalfFits plan.operation

    operation_of_formed : (target : ℕ) (plan : Plan) → IsPlanThere plan → Formed (ordinary (operation_of frame target plan))
    operation_of_formed target plan (l, r, fits) =
        let last : List Instr = operation_code plan.operation target (operand_register frame FIRST plan.left) (operand_register frame SECOND plan.right) in
        formed_append (operands_code frame plan.left plan.right) last (operands_formed plan.left plan.right l r) (operation_formed plan.operation target _ _ fits)

    pub plan_formed : (plan : Plan) (destination : ℕ) → IsPlanThere plan → destination < routine.slots → Formed (ordinary (plan_code frame plan destination))
    plan_formed plan destination there below =
        let target : ℕ = made_in frame destination in
        formed_append (computed_code frame target plan) (keep_code frame destination)
        (formed_append (operation_of frame target plan) (outcome_code plan.outcome target) (operation_of_formed target plan there) (outcome_formed plan.outcome target))
        (keep_formed destination below)

    address_formed : (address : Operand) (offset : ℕ) → IsThere address → IsWord offset → Formed (ordinary (address_code frame address offset))
    address_formed address offset there fits = go (fits_signed offset)
      where
        go : (b : Bool) → Formed (ordinary (if b then operand_code frame FIRST address else operation_of frame FIRST (far_plan address offset)))
        go true = operand_formed FIRST address there
        go false = operation_of_formed FIRST (far_plan address offset) (there, (tt, fits), tt)

    near_fits : (offset : ℕ) → near_half offset < 2 ^ 16
    near_fits offset = go (fits_signed offset)
      where
        go : (b : Bool) → (if b then offset % 2 ^ 16 else 0) < 2 ^ 16
        go true = omega arith
        go false = omega arith

    zero_there : IsThere (operands.Word 0)
    zero_there = (tt, omega arith)

    pub unary_there : (operator : UnaryOperator) (operand : Operand) → IsThere operand → IsPlanThere (unary_plan operator operand)
    unary_there = all_unary IsThere zero_there IsPlanThere (λ op left right outcome l r. (l, r, tt)) (λ op left half outcome fits l. (l, zero_there, fits))

    binary_there : (operator : BinaryOperator) (left right : Operand) → is_tested operator right ≡ false → IsThere left → IsThere right → IsPlanThere (binary_plan operator left right)
    binary_there =
        all_binary IsThere zero_there IsPlanThere (λ op left right outcome l r. (l, r, tt)) (λ op left half outcome fits l. (l, zero_there, fits))
        (λ op left right l r. (l, r, tt)) (λ op left right amount l. (l, zero_there, tt)) (λ left right l r. (l, r, tt)) (λ from left right plain l r. (l, r, tt))

    test_formed : (test : Test) → AllOfTest IsThere zero_there IsPlanThere (λ op left right outcome l r. (l, r, tt)) (λ op left half outcome fits l. (l, zero_there, fits)) test → Formed (ordinary (test_code frame test))
    test_formed (tests.Operands op left right) (l, r) = operands_formed left right l r
    test_formed (tests.Sign op operand) o = operand_formed FIRST operand o
    test_formed (tests.Computed plan) there = operation_of_formed FIRST plan there

    divide_formed : (which : MoveFromOp) (destination : ℕ) (left right : Operand) (n : ℕ) → destination < routine.slots → IsThere left → IsThere right → n + (divide_count frame destination left right) ≤ line_count
        → Formed (divide_code frame n which destination left right)
    divide_formed which destination left right n below l r long =
        all_append (IsFormedLine line_count) (ordinary (divided_code frame left right))
        (lines.Branch (conditions.Registers branch.NotEqual (register_of (operand_register frame SECOND right)) (register_of THIRD)) (n + (operand_count frame left + operand_count frame right) + 4) ∷ lines.Ordinary (product_code which (operand_register frame FIRST left)) ∷ lines.Jump (n + (operand_count frame left + operand_count frame right) + 5) ∷ ordinary (quotient_code frame which destination (operand_register frame FIRST left) (operand_register frame SECOND right)))
        (formed_append (operands_code frame left right) (add_immediate THIRD ZERO (minus 1) ∷ []) (operands_formed left right l r) ((refl, (omega arith)), tt))
        ((omega (arith, long)), (product_formed which, ((omega (arith, long)), ((refl, tt), ((refl, tt), keep_formed destination below)))))
      where
        product_formed : (from : MoveFromOp) → IsFormedLine line_count (lines.Ordinary (product_code from (operand_register frame FIRST left)))
        product_formed High = (refl, tt)
        product_formed Low = (refl, tt)

    pub operator_formed : (operator : BinaryOperator) (destination : ℕ) (left right : Operand) (n : ℕ) → destination < routine.slots → IsThere left → IsThere right → n + operator_count frame operator destination left right ≤ line_count
        → Formed (operator_code frame n operator destination left right)
    operator_formed operator destination left right n below l r long = go (is_tested operator right) refl long
      where
        go : (b : Bool) → is_tested operator right ≡ b → n + (if b then divide_count frame destination left right else plan_count frame (binary_plan operator left right) destination) ≤ line_count
            → Formed (if b then divide_code frame n (part_of operator) destination left right else ordinary (plan_code frame (binary_plan operator left right) destination))
        go true tested fits = divide_formed (part_of operator) destination left right n below l r fits
        go false plain fits = plan_formed (binary_plan operator left right) destination (binary_there operator left right plain l r) below

    pub move_formed : (destination : ℕ) (source : Operand) → destination < routine.slots → IsOperand routine source × IsOfWord source
        → Formed (ordinary (move_to (value_register frame destination) frame destination source))
    move_formed destination source below there = go (value_register frame destination)
      where
        go : (o : Option ℕ) → Formed (ordinary (move_to o frame destination source))
        go None =
            formed_append (operand_code frame FIRST source) (store_slot frame (operand_register frame FIRST source) destination ∷ []) (operand_formed FIRST source there) ((refl, slot_fits destination below), tt)
        go (Some register) = formed_append (load_code frame register source) (keep_code frame destination) (load_formed register source there) (keep_formed destination below)

    pub moves_formed : (destination source count : ℕ) → destination + count ≤ routine.slots → source + count ≤ routine.slots → Formed (ordinary (moves frame destination source count))
    moves_formed destination source zero to from = tt
    moves_formed destination source (suc count) to from =
        formed_append (move_to (value_register frame destination) frame destination (operands.Slot source)) (moves frame (suc destination) (suc source) count)
        (move_formed destination (operands.Slot source) (omega (arith, to)) ((omega (arith, from)), tt))
        (moves_formed (suc destination) (suc source) count (omega (arith, to)) (omega (arith, from)))

    pub load_formed_at : (op : MemoryOp) (destination : ℕ) (address : Operand) (offset : ℕ) → destination < routine.slots → IsThere address → IsWord offset → Formed (load_at frame op destination address offset)
    load_formed_at op destination address offset below there near =
        formed_append (address_code frame address offset) (at_address frame op (made_in frame destination) address offset ∷ keep_code frame destination) (address_formed address offset there near)
        ((refl, near_fits offset), keep_formed destination below)

    pub store_formed_at : (op : MemoryOp) (address : Operand) (offset : ℕ) (source : Operand) → IsThere address → IsWord offset → IsThere source → Formed (store_at frame op address offset source)
    store_formed_at op address offset source there near also =
        let js : List Instr = operand_code frame SECOND source in
        let last : List Instr = at_address frame op (operand_register frame SECOND source) address offset ∷ [] in
        formed_append (address_code frame address offset) (js ++ last) (address_formed address offset there near)
        (formed_append js last (operand_formed SECOND source also) ((refl, near_fits offset), tt))

    pub branch_test_formed : (comparison : Comparison) (left right : Operand) → IsThere left → IsThere right → Formed (ordinary (test_code frame (test_of comparison left right)))
    branch_test_formed comparison left right l r =
        test_formed (test_of comparison left right) (all_test IsThere zero_there IsPlanThere (λ op a b outcome x y. (x, y, tt)) (λ op a half outcome small x. (x, zero_there, small)) comparison left right l r)

    pub read_formed : (destination : ℕ) → destination < routine.slots → Formed (ordinary (small SERVICE GET_BYTE ∷ syscall ∷ give_code frame SERVICE destination))
    read_formed destination below = ((refl, (omega arith)), ((refl, tt), give_formed SERVICE destination below))

    pub write_formed : (source : Operand) → IsThere source → Formed (write_code frame source)
    write_formed source there =
        formed_append (load_code frame ARGUMENT source) (small SERVICE PUT_BYTE ∷ syscall ∷ []) (load_formed ARGUMENT source there) ((refl, (omega arith)), ((refl, tt), tt))
