-- A MIPS line can be hoisted before a branch: it is a copy of the first line of the branch target, and has the same effect
-- before the branch as at the target.
use Rattle.std.proofs.Common.{◌≡◌, ◌≢◌, ℕ, ◌+◌, ◌%◌, ◌^◌, ◌<◌, ◌≤◌, Bool, true, false, not, List, [], ◌∷◌, ◌++◌, Option, Some, None, slice_get, length, append_assoc, append-nil, refl, sym, ap, subst, ◌∙◌, arith, inl, inr}
use Rattle.std.specs.Prelude.{◌⊎◌, ◌==◌, ◌&&◌, ◌||◌, nat_lt, nat_le, if◌then◌else◌}
use Rattle.std.proofs.lemmas.Bool.{and_parts, or_cases, or_parts, eqb-true, eqb-false, ltb-true, leb-true, ne_eqb, false≢true, not-true}
use Rattle.std.proofs.lemmas.Option.{same_Some, none-some}
use Rattle.cyc_words.specs.Ending.{Ending}
use Rattle.cyc_words.proofs.Numbers.{eqb_itself}
use Rattle.cyc_isa.specs.Effect.{branch_taken, branch_zero_taken}
use Rattle.cyc_isa.specs.declared.instr.Instr.{Instr}
use Rattle.cyc_isa.specs.declared.instr.Instr.TheVariants.{Immediate, LoadUpper, Shift, ShiftVariable, Arithmetic}
use Rattle.cyc_isa.specs.declared.instr.MemoryOp.TheVariants.{StoreWord}
use Rattle.cyc_machine_model.specs.declared.constants.TheConstants.{ARGUMENT, GET_BYTE, PUT_BYTE, SERVICE}
use Rattle.cyc_machine_model.specs.Run.{World, reported, ending_of}
use Rattle.cyc_machine_model.specs.Step.{after}
use Rattle.cyc_machine_model.specs.declared.event.Event.TheVariants.{Ran}
use Rattle.cyc_machine_model.specs.declared.phase.Phase.{Phase}
use Rattle.cyc_machine_model.specs.declared.phase.Phase.TheVariants as phases
use Rattle.cyc_plain.specs.declared.instruction.Instruction.{Instruction}
use Rattle.cyc_plain.specs.declared.instruction.Instruction.TheVariants as plain
use Rattle.cyc_plain.specs.declared.instruction.Operand.{Operand}
use Rattle.cyc_plain.specs.declared.instruction.Operand.TheVariants as operands
use Rattle.cyc_plain.specs.inside.Program.{Program, routine_at}
use Rattle.cyc_plain.specs.inside.State.{Words}
use Rattle.cyc_plain.specs.inside.Uses.{writes}
use Rattle.cyc_plain.proofs.SlotLaws.{put-other}
use Rattle.cyc_registers.specs.inside.Fills.{fills_at}
use Rattle.cyc_frame.specs.inside.Frame.{Frame}
use Rattle.cyc_frame.specs.inside.Layout.{frame_at}
use Rattle.cyc_select.specs.declared.code.Condition.{Condition}
use Rattle.cyc_select.specs.declared.code.Condition.TheVariants as conditions
use Rattle.cyc_select.specs.declared.code.Line.{Line}
use Rattle.cyc_select.specs.declared.code.Line.TheVariants as lines
use Rattle.cyc_select.specs.declared.constants.TheConstants.{ZERO, FIRST, SECOND, THIRD, THIRD_RESULT}
use Rattle.cyc_select.specs.declared.plan.Operation.{Operation}
use Rattle.cyc_select.specs.declared.plan.Operation.TheVariants as operations
use Rattle.cyc_select.specs.declared.plan.Plan.{Plan}
use Rattle.cyc_select.specs.declared.plan.Test.{Test}
use Rattle.cyc_select.specs.declared.plan.Test.TheVariants as tests
use Rattle.cyc_select.specs.inside.Labelled.{Labelled, is_ordinary}
use Rattle.cyc_select.specs.inside.Machine.{Configuration, State, Running, Ended, Stopped, Step, ExecutesAt, Performs, PerformsOrdinary, settled, closed, from_world, machine_of, world_of, at, holds_of}
use Rattle.cyc_select.specs.inside.Numbers.{fits_signed, is_zero_word}
use Rattle.cyc_select.specs.inside.Plans.{unary_plan, binary_plan, test_of}
use Rattle.cyc_select.specs.inside.Instructions.{add_immediate, minus, syscall, small, load_upper, constant, copy}
use Rattle.cyc_select.specs.inside.Slots.{value_register, made_in, keep_code, give_code, is_own, load_from, global_code}
use Rattle.cyc_select.specs.inside.Operands.{or_immediate, word_code, load_code, fetch_from, operand_code, operand_register, operands_code, operation_code, outcome_code, operation_of, computed_code, plan_code, test_code, is_tested, condition_of}
use Rattle.cyc_select.specs.inside.Hoisting.{is_idle, with_hoisted, word_first, slot_first, operand_first, operands_first, operation_first, plan_first, divided_first, test_first, copy_first, load_first, move_first, first_line, given_register, own_register, target_of, tests_register, is_spare}
use Rattle.cyc_select.specs.inside.Hoisting.{may_write, copied_if, hoisted_at, hoisted}
use Rattle.cyc_select.specs.inside.Selection.{move_to, divided_code, divide_code, part_of, ordinary, body}
use Rattle.cyc_select.proofs.emission.Counts.{length_test}
use Rattle.cyc_select.proofs.values.Blocks.{IsScratch}
use Rattle.cyc_select.proofs.effects.Views.{Contents, does_r, does_w, IsSafe, IsWritable, moved}
use Rattle.cyc_select.proofs.effects.Sequences.{Stands}
use Rattle.cyc_select.proofs.relation.Matches.{HasMore}

-- ---- a line that computes a register from registers

module _ (globals stack : ℕ) where
  pub pure_safe : (x : Instr) (k : ℕ) (r : Words) → target_of x ≡ Some k → (k == 0) ≡ false → IsSafe globals stack x r
  pure_safe (Immediate op target source half) k r is writable = subst IsWritable (sym (same_Some target.number k is)) writable
  pure_safe (LoadUpper target half) k r is writable = subst IsWritable (sym (same_Some target.number k is)) writable
  pure_safe (Shift op destination source amount) k r is writable = subst IsWritable (sym (same_Some destination.number k is)) writable
  pure_safe (ShiftVariable op destination source by) k r is writable = subst IsWritable (sym (same_Some destination.number k is)) writable
  pure_safe (Arithmetic op destination left right) k r is writable = subst IsWritable (sym (same_Some destination.number k is)) writable
  pure_safe x k r is writable = absurd (none-some k is)

pub pure_others : (x : Instr) (k : ℕ) (r : Words) (w : Contents) → target_of x ≡ Some k → (n : ℕ) → n ≢ k → does_r x r w n ≡ r n
pure_others (Immediate op target source half) k r w is n other = put-other r target.number n _ (λ e. other (e ∙ same_Some target.number k is))
pure_others (LoadUpper target half) k r w is n other = put-other r target.number n _ (λ e. other (e ∙ same_Some target.number k is))
pure_others (Shift op destination source amount) k r w is n other = put-other r destination.number n _ (λ e. other (e ∙ same_Some destination.number k is))
pure_others (ShiftVariable op destination source by) k r w is n other = put-other r destination.number n _ (λ e. other (e ∙ same_Some destination.number k is))
pure_others (Arithmetic op destination left right) k r w is n other = put-other r destination.number n _ (λ e. other (e ∙ same_Some destination.number k is))
pure_others x k r w is n other = absurd (none-some k is)

pub pure_memory : (x : Instr) (k : ℕ) (r : Words) (w : Contents) → target_of x ≡ Some k → does_w x r w ≡ w
pure_memory (Immediate op target source half) k r w is = refl
pure_memory (LoadUpper target half) k r w is = refl
pure_memory (Shift op destination source amount) k r w is = refl
pure_memory (ShiftVariable op destination source by) k r w is = refl
pure_memory (Arithmetic op destination left right) k r w is = refl
pure_memory x k r w is = absurd (none-some k is)

pub pure_ordinary : (x : Instr) (k : ℕ) → target_of x ≡ Some k → is_ordinary x ≡ true
pure_ordinary (Immediate op target source half) k is = refl
pure_ordinary (LoadUpper target half) k is = refl
pure_ordinary (Shift op destination source amount) k is = refl
pure_ordinary (ShiftVariable op destination source by) k is = refl
pure_ordinary (Arithmetic op destination left right) k is = refl
pure_ordinary x k is = absurd (none-some k is)

pub pure_performs : (x : Instr) (k : ℕ) (c : Configuration) → target_of x ≡ Some k → Performs c x (Running (moved c x))
pure_performs (Immediate op target source half) k c is = (Ran, after (machine_of c) (Immediate op target source half), (refl, refl), refl)
pure_performs (LoadUpper target half) k c is = (Ran, after (machine_of c) (LoadUpper target half), (refl, refl), refl)
pure_performs (Shift op destination source amount) k c is = (Ran, after (machine_of c) (Shift op destination source amount), (refl, refl), refl)
pure_performs (ShiftVariable op destination source by) k c is = (Ran, after (machine_of c) (ShiftVariable op destination source by), (refl, refl), refl)
pure_performs (Arithmetic op destination left right) k c is = (Ran, after (machine_of c) (Arithmetic op destination left right), (refl, refl), refl)
pure_performs x k c is = absurd (none-some k is)

-- If a branch condition does not test the register that the hoisted line writes, the line does not change the condition.
pub holds_beside : (condition : Condition) (k : ℕ) (q p : Words) → tests_register condition k ≡ false → ((n : ℕ) → n ≢ k → q n ≡ p n) → holds_of q condition ≡ holds_of p condition
holds_beside (conditions.Registers op left right) k q p untested others =
    let parts = or_parts (left.number == k) (right.number == k) untested in
    ap (λ (a : ℕ). branch_taken op a (q right.number)) (others left.number (eqb-false left.number k parts.0))
    ∙ ap (branch_taken op (p left.number)) (others right.number (eqb-false right.number k parts.1))
holds_beside (conditions.Sign op source) k q p untested others = ap (branch_zero_taken op) (others source.number (eqb-false source.number k untested))

-- ---- the effect of a hoisted line is equal at either place

-- Returns the configuration of a running state, otherwise the default configuration `d`.
abbrev running_or : Configuration → State → Configuration
running_or d (Running c) = c
running_or d s = d

settled_there : (w : World) (line other : ℕ) (phase : Phase) (d : Configuration) → Running d ≡ settled w line phase → Running (at d other) ≡ settled w other phase
settled_there w line other phases.Running d is = let same : d ≡ from_world w line = ap (running_or d) is in ap (λ (c : Configuration). Running (at c other)) same
settled_there w line other phases.Waiting d is = absurd (let e : Running d ≡ Stopped w.output w.input = is in cc)
settled_there w line other (phases.Over end) d is = by (ending_of end) is
  where
    by : (ending : Option Ending) → Running d ≡ closed w ending → Running (at d other) ≡ closed w ending
    by (Some ending) e = absurd (let f : Running d ≡ Ended ending w.output w.input = e in cc)
    by None e = absurd (let f : Running d ≡ Stopped w.output w.input = e in cc)

performs_there : (i : Instr) (c d : Configuration) (label : ℕ) → Performs c i (Running d) → Performs (at c label) i (Running (at d (label + 1)))
performs_there i c d label (event, after, acts, is) =
    (event, after, acts, settled_there (reported (world_of c) event after) (c.line + 1) (label + 1) _ d is)

-- A hoisted line executed before the branch has the effect of a step from the branch target.
pub copy_steps : (code : Labelled) (addresses : ℕ → ℕ) (x : Instr) (k : ℕ) (c : Configuration) (label : ℕ) → target_of x ≡ Some k → slice_get code.lines label ≡ Some (lines.Ordinary x)
    → Step code addresses (Running (at c label)) (Running (at (moved c x) (label + 1)))
copy_steps code addresses x k c label is stands =
    subst (λ (o : Option Line). ExecutesAt code addresses (at c label) o (Running (at (moved c x) (label + 1)))) (sym stands)
    (subst (λ (b : Bool). PerformsOrdinary b (at c label) x (Running (at (moved c x) (label + 1)))) (sym (pure_ordinary x k is)) (performs_there x c (moved c x) label (pure_performs x k c is)))

-- ---- the first line of an instruction

-- `Starts` says that the instructions `is` begin with `x`.
abbrev pub Starts : List Instr → Instr → Type 0
Starts is x = (rest : List Instr) × (is ≡ x ∷ rest)

starts_append : (is js : List Instr) (x : Instr) → Starts is x → Starts (is ++ js) x
starts_append is js x (rest, same) = (rest ++ js, ap (λ (l : List Instr). l ++ js) same)

starts_one : (y x : Instr) (js : List Instr) → Some y ≡ Some x → Starts (y ∷ js) x
starts_one y x js same = (js, ap (λ (z : Instr). z ∷ js) (same_Some y x same))

no_line : (x : Instr) → None ≡ Some x → ⊥
no_line x is = let e : None ≡ Some x = is in cc

word_starts : (target word : ℕ) → Starts (word_code target word) (word_first target word)
word_starts target word = go (fits_signed word) (nat_lt word (2 ^ 16)) (word % 2 ^ 16 == 0)
  where
    go : (a b c : Bool)
        → Starts (if a then small target (word % 2 ^ 16) ∷ [] else (if b then or_immediate target word ∷ [] else (if c then load_upper target word ∷ [] else constant target word)))
        (if a then small target (word % 2 ^ 16) else (if b then or_immediate target word else load_upper target word))
    go true b c = ([], refl)
    go false true c = ([], refl)
    go false false true = ([], refl)
    go false false false = (_, refl)

word_code_starts : (target word : ℕ) (x : Instr) (js : List Instr) → Some (word_first target word) ≡ Some x → Starts (word_code target word ++ js) x
word_code_starts target word x js same =
    starts_append (word_code target word) js x (subst (Starts (word_code target word)) (same_Some (word_first target word) x same) (word_starts target word))

module _ (frame : Frame) where
  operand_starts : (register : ℕ) (o : Operand) (following : Option Instr) (js : List Instr) (x : Instr) → operand_first frame register o following ≡ Some x → (following ≡ Some x → Starts js x)
      → Starts (operand_code frame register o ++ js) x
  operand_starts register (operands.Slot number) following js x is following_is = go (value_register frame number) is
    where
      go : (v : Option ℕ) → slot_first v following ≡ Some x → Starts (fetch_from v frame register number ++ js) x
      go None none = absurd (no_line x none)
      go (Some own) rest = following_is rest
  operand_starts register (operands.Word word) following js x is following_is = go (is_zero_word (operands.Word word)) is
    where
      go : (b : Bool) → (if b then following else Some (word_first register word)) ≡ Some x → Starts ((if b then [] else word_code register word) ++ js) x
      go true rest = following_is rest
      go false same = word_code_starts register word x js same

  -- If a list of instructions with an empty list appended begins with `x`, then the list itself begins with `x`.
  starts_plain : (is : List Instr) (x : Instr) → Starts (is ++ []) x → Starts is x
  starts_plain is x starts = subst (λ (l : List Instr). Starts l x) (append-nil is) starts

  operands_starts : (left right : Operand) (following : Option Instr) (js : List Instr) (x : Instr) → operands_first frame left right following ≡ Some x → (following ≡ Some x → Starts js x)
      → Starts (operands_code frame left right ++ js) x
  operands_starts left right following js x is following_is =
      let front : List Instr = operand_code frame FIRST left in
      let second : List Instr = operand_code frame SECOND right in
      subst (λ (l : List Instr). Starts l x) (sym (append_assoc front second js))
      (operand_starts FIRST left _ (second ++ js) x is (λ more. operand_starts SECOND right following js x more following_is))

  operation_starts : (operation : Operation) (target left right : ℕ) (x : Instr) → operation_first operation target left right ≡ Some x → Starts (operation_code operation target left right) x
  operation_starts (operations.Arithmetic op) target left right x is = starts_one _ x [] is
  operation_starts (operations.Immediate op half) target left right x is = starts_one _ x [] is
  operation_starts (operations.Shift op) target left right x is = starts_one _ x [] is
  operation_starts (operations.ShiftBy op amount) target left right x is = starts_one _ x [] is
  operation_starts (operations.MultiplyDivide op from) target left right x is = absurd (no_line x is)

  planned_starts : (target : ℕ) (plan : Plan) (x : Instr) → plan_first frame target plan ≡ Some x → Starts (operation_of frame target plan) x
  planned_starts target plan x is =
      let computes : List Instr = operation_code plan.operation target (operand_register frame FIRST plan.left) (operand_register frame SECOND plan.right) in
      operands_starts plan.left plan.right _ computes x is (λ last. operation_starts plan.operation target (operand_register frame FIRST plan.left) (operand_register frame SECOND plan.right) x last)

  plan_starts : (plan : Plan) (destination : ℕ) (x : Instr) → plan_first frame (made_in frame destination) plan ≡ Some x → Starts (plan_code frame plan destination) x
  plan_starts plan destination x is =
      let target : ℕ = made_in frame destination in
      starts_append (computed_code frame target plan) (keep_code frame destination) x
      (starts_append (operation_of frame target plan) (outcome_code plan.outcome target) x (planned_starts target plan x is))

  divided_starts : (left right : Operand) (x : Instr) → divided_first frame left right ≡ Some x → Starts (divided_code frame left right) x
  divided_starts left right x is = operands_starts left right _ (add_immediate THIRD ZERO (minus 1) ∷ []) x is (λ same. starts_one _ x [] same)

  pub test_starts : (test : Test) (x : Instr) → test_first frame test ≡ Some x → Starts (test_code frame test) x
  test_starts (tests.Operands op left right) x is =
      starts_plain (operands_code frame left right) x (operands_starts left right None [] x is (λ none. absurd (no_line x none)))
  test_starts (tests.Sign op operand) x is = starts_plain (operand_code frame FIRST operand) x (operand_starts FIRST operand None [] x is (λ none. absurd (no_line x none)))
  test_starts (tests.Computed plan) x is = planned_starts FIRST plan x is

  load_starts : (register : ℕ) (o : Operand) (js : List Instr) (x : Instr) → load_first frame register o ≡ Some x → Starts (load_code frame register o ++ js) x
  load_starts register (operands.Slot number) js x is = go (value_register frame number) is
    where
      go : (v : Option ℕ) → copy_first v register ≡ Some x → Starts (load_from v frame register number ∷ js) x
      go None none = absurd (no_line x none)
      go (Some own) same = starts_one (copy register own) x js same
  load_starts register (operands.Word word) js x is = word_code_starts register word x js is

  move_starts : (v : Option ℕ) (destination : ℕ) (o : Operand) (x : Instr) → move_first v frame o ≡ Some x → Starts (move_to v frame destination o) x
  move_starts None destination o x is = operand_starts FIRST o None _ x is (λ none. absurd (no_line x none))
  move_starts (Some register) destination o x is = load_starts register o (keep_code frame destination) x is

-- The lines of a branch begin with the first line of its test, even if the first line of the branch target is hoisted into them.
starts_hoisted : (is : List Instr) (first : Option Instr) (x : Instr) → Starts is x → Starts (with_hoisted is first) x
starts_hoisted is None x starts = starts
starts_hoisted is (Some y) x starts = starts_append is (y ∷ []) x starts

-- `Begins` says that the lines of an instruction begin with the line `x`.
abbrev pub Begins : Program → List Frame → (function : ℕ) → Instruction → Instr → Type 0
Begins program frames function i x = (line : ℕ) → (rest : List Line) × (body program frames function line i ≡ lines.Ordinary x ∷ rest)

begins_as : (is : List Instr) (ls : List Line) (x : Instr) → Starts is x → (rest : List Line) × (ordinary is ++ ls ≡ lines.Ordinary x ∷ rest)
begins_as is ls x (rest, same) = (ordinary rest ++ ls, ap (λ (l : List Instr). ordinary l ++ ls) same)

begins_so : (is : List Instr) (x : Instr) → Starts is x → (rest : List Line) × (ordinary is ≡ lines.Ordinary x ∷ rest)
begins_so is x (rest, same) = (ordinary rest, ap ordinary same)

pub first_begins : (program : Program) (frames : List Frame) (function : ℕ) (i : Instruction) (x : Instr) → first_line (frame_at frames function) i ≡ Some x → Begins program frames function i x
first_begins program frames function (plain.Move destination source) x is line =
    let frame : Frame = frame_at frames function in
    begins_so (move_to (value_register frame destination) frame destination source) x (move_starts frame (value_register frame destination) destination source x is)
first_begins program frames function (plain.Unary operator destination operand) x is line =
    begins_so (plan_code (frame_at frames function) (unary_plan operator operand) destination) x (plan_starts (frame_at frames function) (unary_plan operator operand) destination x is)
first_begins program frames function (plain.Binary operator destination left right) x is line = go (is_tested operator right) is
  where
    go : (b : Bool) → (if b then divided_first (frame_at frames function) left right else plan_first (frame_at frames function) (made_in (frame_at frames function) destination) (binary_plan operator left right)) ≡ Some x
        → (rest : List Line)
        × ((if b then divide_code (frame_at frames function) line (part_of operator) destination left right else ordinary (plan_code (frame_at frames function) (binary_plan operator left right) destination)) ≡ lines.Ordinary x ∷ rest)
    go true first = begins_as (divided_code (frame_at frames function) left right) _ x (divided_starts (frame_at frames function) left right x first)
    go false first =
        begins_so (plan_code (frame_at frames function) (binary_plan operator left right) destination) x (plan_starts (frame_at frames function) (binary_plan operator left right) destination x first)
first_begins program frames function (plain.Branch comparison left right target) x is line =
    let frame : Frame = frame_at frames function in
    let test : Test = test_of comparison left right in
    let first : Option Instr = hoisted frame (routine_at program function).code test target in
    begins_as (with_hoisted (test_code frame test) first) _ x (starts_hoisted (test_code frame test) first x (test_starts frame test x is))
first_begins program frames function (plain.ReadByte destination) x is line = begins_so (small SERVICE GET_BYTE ∷ syscall ∷ give_code (frame_at frames function) SERVICE destination) x (starts_one (small SERVICE GET_BYTE) x _ is)
first_begins program frames function (plain.WriteByte source) x is line =
    begins_so (load_code (frame_at frames function) ARGUMENT source ++ small SERVICE PUT_BYTE ∷ syscall ∷ []) x (load_starts (frame_at frames function) ARGUMENT source (small SERVICE PUT_BYTE ∷ syscall ∷ []) x is)
first_begins program frames function (plain.StoreGlobal global source) x is line =
    let frame : Frame = frame_at frames function in
    let js : List Instr = global_code StoreWord (operand_register frame FIRST source) global in
    begins_so (operand_code frame FIRST source ++ js) x (operand_starts frame FIRST source None js x is (λ none. absurd (no_line x none)))
first_begins program frames function i x is line = absurd (no_line x is)

-- ---- the lines after the first one

-- A list of instructions that begins with `x` is not empty.
starts_some : (is : List Instr) (x : Instr) → Starts is x → 0 < length is
starts_some is x (rest, same) = omega (arith, ap (λ (l : List Instr). length l) same)

leaves_more : (frame : Frame) (i : Instruction) (x : Instr) → first_line frame i ≡ Some x → HasMore frame i
leaves_more frame (plain.Move destination source) x is = refl
leaves_more frame (plain.Unary operator destination operand) x is = refl
leaves_more frame (plain.Binary operator destination left right) x is = refl
leaves_more frame (plain.Branch comparison left right target) x is =
    let test : Test = test_of comparison left right in
    omega (arith, starts_some (test_code frame test) x (test_starts frame test x is), length_test frame test)
leaves_more frame (plain.ReadByte destination) x is = refl
leaves_more frame (plain.WriteByte source) x is = refl
leaves_more frame (plain.StoreGlobal global source) x is = refl
leaves_more frame i x is = absurd (no_line x is)

-- ---- the register of the slot that an instruction computes

pub record Gives (program : Program) (frames : List Frame) (function target : ℕ) (i : Instruction) (n : ℕ) : Type 0 where
  pub destination : ℕ
  pub written : writes program i destination ≡ true
  pub has : value_register (frame_at frames function) destination ≡ Some n
  pub fills : fills_at (frame_at frames function).fills target ≡ true

gives_own : (program : Program) (frames : List Frame) (function target : ℕ) (i : Instruction) (n : ℕ) → own_register (frame_at frames function) target i ≡ Some n → Gives program frames function target i n
gives_own program frames function target i n is = go (fills_at (frame_at frames function).fills target) refl is
  where
    of : (j : Instruction) → fills_at (frame_at frames function).fills target ≡ true → given_register (frame_at frames function) j ≡ Some n → Gives program frames function target j n
    of (plain.Move destination source) fills given = record { destination = destination; written = eqb_itself destination; has = given; fills = fills }
    of (plain.Unary operator destination operand) fills given = record { destination = destination; written = eqb_itself destination; has = given; fills = fills }
    of (plain.Binary operator destination left right) fills given = record { destination = destination; written = eqb_itself destination; has = given; fills = fills }
    of j fills given = absurd (none-some n given)

    go : (b : Bool) → fills_at (frame_at frames function).fills target ≡ b → (if b then given_register (frame_at frames function) i else None) ≡ Some n → Gives program frames function target i n
    go true fills given = of i fills given
    go false not_there given = absurd (none-some n given)

-- `Hoists` states the properties of a line `x` that is hoisted before a branch with this condition to the instruction at `target`.
pub record Hoists (program : Program) (frames : List Frame) (function target : ℕ) (condition : Condition) (x : Instr) : Type 0 where
  pub i : Instruction
  pub at : slice_get (routine_at program function).code target ≡ Some i
  pub busy : is_idle (frame_at frames function) target i ≡ false
  pub line : first_line (frame_at frames function) i ≡ Some x
  pub more : HasMore (frame_at frames function) i
  pub own : Option ℕ
  pub gives : (n : ℕ) → own ≡ Some n → Gives program frames function target i n
  pub register : ℕ
  pub computes : target_of x ≡ Some register
  pub may : may_write condition own (Some register) ≡ true

-- `Passes` says that the hoisted line writes a register that may be written before the branch.
abbrev Passes : Condition → (own : Option ℕ) → Instr → Type 0
Passes condition own x = (register : ℕ) × (target_of x ≡ Some register) × (may_write condition own (Some register) ≡ true)

passes_if : (condition : Condition) (own : Option ℕ) (o : Option Instr) (x : Instr) → copied_if condition own o ≡ Some x → (o ≡ Some x) × Passes condition own x
passes_if condition own None x is = absurd (no_line x is)
passes_if condition own (Some y) x is = go (may_write condition own (target_of y)) refl is
  where
    register_of : (z : Instr) (t : Option ℕ) → target_of z ≡ t → may_write condition own t ≡ true → Passes condition own z
    register_of z None none may = absurd (false≢true may)
    register_of z (Some register) computes may = (register, computes, may)

    go : (b : Bool) → may_write condition own (target_of y) ≡ b → (if b then Some y else None) ≡ Some x → (Some y ≡ Some x) × Passes condition own x
    go true may same = (same, subst (Passes condition own) (same_Some y x same) (register_of y (target_of y) refl may))
    go false may none = absurd (no_line x none)

module _ (program : Program) (frames : List Frame) (function target : ℕ) (condition : Condition) (x : Instr) where
  abbrev Its : Type 0
  Its = Hoists program frames function target condition x

  of_place : (o : Option Instruction) → slice_get (routine_at program function).code target ≡ o → hoisted_at (frame_at frames function) condition target o ≡ Some x → Its
  of_place None at is = absurd (no_line x is)
  of_place (Some i) at is = go (is_idle (frame_at frames function) target i) refl is
    where
      go : (b : Bool) → is_idle (frame_at frames function) target i ≡ b
          → (if b then None else copied_if condition (own_register (frame_at frames function) target i) (first_line (frame_at frames function) i)) ≡ Some x → Its
      go true idle none = absurd (no_line x none)
      go false busy given =
          let (line, (register, computes, may)) = passes_if condition (own_register (frame_at frames function) target i) (first_line (frame_at frames function) i) x given in
          record {
            i = i;
            at = at;
            busy = busy;
            line = line;
            more = leaves_more (frame_at frames function) i x line;
            own = own_register (frame_at frames function) target i;
            gives = gives_own program frames function target i;
            register = register;
            computes = computes;
            may = may;
          }

pub hoists : (program : Program) (frames : List Frame) (function target : ℕ) (test : Test) (x : Instr) → hoisted (frame_at frames function) (routine_at program function).code test target ≡ Some x
    → Hoists program frames function target (condition_of (frame_at frames function) test) x
hoists program frames function target test x is =
    of_place program frames function target (condition_of (frame_at frames function) test) x (slice_get (routine_at program function).code target) refl is

-- If a nonempty piece of code stands at a line number, its first line is the line with this number.
pub stands_at_head : (code : Labelled) (k : ℕ) (ls rest : List Line) (l : Line) → ls ≡ l ∷ rest → Stands code k ls → slice_get code.lines k ≡ Some l
stands_at_head code k ls rest l same stands = (subst (Stands code k) same stands).0

-- ---- the register that the line writes

module _ (condition : Condition) (own : Option ℕ) (register : ℕ) (may : may_write condition own (Some register) ≡ true) where
  parts : ((is_spare register || is_own own register) ≡ true) × (not (tests_register condition register) ≡ true)
  parts = and_parts (is_spare register || is_own own register) (not (tests_register condition register)) may

  pub untested : tests_register condition register ≡ false
  untested = not-true (tests_register condition register) parts.1

  own_is : (o : Option ℕ) → is_own o register ≡ true → o ≡ Some register
  own_is None none = absurd (false≢true none)
  own_is (Some n) same = ap Some (eqb-true n register same)

  spare_is : is_spare register ≡ true → (register ≡ FIRST) ⊎ ((0 < register) × (register ≤ 5))
  spare_is spare = elim (or_cases (register == FIRST) (nat_lt ZERO register && nat_le register THIRD_RESULT) spare) [
    | inl first ↦ inl (eqb-true register FIRST first)
    | inr between ↦
        let ends = and_parts (nat_lt ZERO register) (nat_le register THIRD_RESULT) between in
        inr (ltb-true ZERO register ends.0, leb-true register THIRD_RESULT ends.1)
  ]

  which : ((register ≡ FIRST) ⊎ ((0 < register) × (register ≤ 5))) ⊎ (own ≡ Some register)
  which = elim (or_cases (is_spare register) (is_own own register) parts.0) [
    | inl spare ↦ inl (spare_is spare)
    | inr is ↦ inr (own_is own is)
  ]

  -- If the hoisted line writes a register that slots can have, this register is that of the slot that the target instruction computes.
  pub of_value : (n : ℕ) → 6 ≤ n → n < 24 → n ≡ register → own ≡ Some n
  of_value n low high same = elim which [
    | inl (inl first) ↦ absurd (omega (arith, first, same, high))
    | inl (inr between) ↦ absurd (omega (arith, between.1, same, low))
    | inr is ↦ is ∙ ap Some (sym same)
  ]

  module _ (value : (n : ℕ) → own ≡ Some n → (6 ≤ n) × (n < 24)) where
    bounds : (0 < register) × (register ≤ 24)
    bounds = elim which [
      | inl (inl first) ↦ ((omega (arith, first)), (omega (arith, first)))
      | inl (inr between) ↦ (between.0, (omega (arith, between.1)))
      | inr is ↦ ((omega (arith, (value register is).0)), (omega (arith, (value register is).1)))
    ]

    pub writable : (register == 0) ≡ false
    writable = ne_eqb register 0 (λ e. absurd (omega (arith, e, bounds.0)))

    pub scratch : (globals stack : ℕ) → IsScratch globals stack register
    scratch globals stack = record {
      not_zero = λ e. absurd (omega (arith, e, bounds.0));
      not_base = λ e. absurd (omega (arith, e, bounds.1));
      not_lowest = λ e. absurd (omega (arith, e, bounds.1));
      not_back = λ e. absurd (omega (arith, e, bounds.1));
      not_newest = λ e. absurd (omega (arith, e, bounds.1));
      not_counted = λ e. absurd (omega (arith, e, bounds.1));
      not_middle = λ e. absurd (omega (arith, e, bounds.1));
    }
