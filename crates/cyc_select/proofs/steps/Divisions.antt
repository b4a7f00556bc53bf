-- The simulation of divisions whose divisor may be -1.
use Rattle.std.proofs.Common.{◌≡◌, ◌≢◌, ℕ, suc, ◌+◌, ◌-◌, ◌*◌, ◌%◌, ◌^◌, ◌<◌, ◌≤◌, Bool, not, List, [], ◌∷◌, ◌++◌, length, Some, refl, sym, ap, subst, ◌∙◌, arith, inl, inr}
use Rattle.std.specs.Prelude.{◌==◌, if◌then◌else◌}
use Rattle.std.proofs.lemmas.Bool.{cases_eq, eq-eqb, ne_eqb}
use Rattle.cyc_words.specs.Word.{IsWord}
use Rattle.cyc_isa.specs.declared.instr.Instr.{Instr}
use Rattle.cyc_isa.specs.declared.instr.BranchOp.TheVariants as branch
use Rattle.cyc_isa.specs.declared.instr.MoveFromOp.{MoveFromOp}
use Rattle.cyc_isa.specs.declared.instr.MoveFromOp.TheVariants.{High, Low}
use Rattle.cyc_isa.specs.declared.instr.MultiplyDivideOp.TheVariants.{Divide, Multiply}
use Rattle.cyc_isa.specs.declared.instr.MultiplyDivideOp.{MultiplyDivideOp}
use Rattle.cyc_isa.specs.Decoding.{register_of}
use Rattle.cyc_machine_model.specs.State.{globals_length, words_per_call}
use Rattle.cyc_plain.specs.declared.instruction.Instruction.{Instruction}
use Rattle.cyc_plain.specs.declared.instruction.Instruction.TheVariants as plain
use Rattle.cyc_plain.specs.declared.instruction.BinaryOperator.{BinaryOperator}
use Rattle.cyc_plain.specs.declared.instruction.Operand.{Operand}
use Rattle.cyc_plain.specs.inside.Program.{Program, routine_at}
use Rattle.cyc_plain.specs.inside.State as states
use Rattle.cyc_plain.specs.inside.State.{Words, put, Configuration}
use Rattle.cyc_plain.specs.inside.Step.{instruction_at, operand_word, performed, gives}
use Rattle.cyc_plain.specs.inside.WellFormed.{IsOperand, IsOfWord, IsWellFormed}
use Rattle.cyc_plain.proofs.SlotLaws.{put-same, put-other}
use Rattle.cyc_plain.proofs.RunLaws.{zeros}
use Rattle.cyc_frame.specs.inside.Layout.{AreFrames, frame_at}
use Rattle.cyc_frame.specs.inside.Frame.{Frame}
use Rattle.cyc_select.specs.declared.code.Line.{Line}
use Rattle.cyc_select.specs.declared.code.Condition.TheVariants as conditions
use Rattle.cyc_select.specs.declared.code.Line.TheVariants as lines
use Rattle.cyc_select.specs.declared.constants.TheConstants.{FIRST, SECOND, THIRD, ZERO, FRAME}
use Rattle.cyc_select.specs.inside.Labelled.{Labelled, IsFormed}
use Rattle.cyc_select.specs.inside.Machine as labelled
use Rattle.cyc_select.specs.inside.Machine.{State, Running}
use Rattle.cyc_select.specs.inside.Instructions.{multiply_divide_of, move_from_of}
use Rattle.cyc_select.specs.inside.Slots.{keep_code, made_in}
use Rattle.cyc_select.specs.inside.Operands.{keep_count, divide_count, operand_register, operand_count}
use Rattle.cyc_select.specs.inside.Counts.{count_of, instruction_line}
use Rattle.cyc_select.specs.inside.Selection.{product_code, quotient_code, ordinary, divided_code, divide_code}
use Rattle.cyc_select.proofs.values.Blocks.{Puts, puts_keeps}
use Rattle.cyc_select.proofs.steps.Calls.{length_ordinary}
use Rattle.cyc_select.proofs.values.Computing.{IsHeld, divided_put, scratch_writable}
use Rattle.cyc_select.proofs.emission.Counts.{length_divided}
use Rattle.cyc_select.proofs.values.Plans.{multiply_divide_result, if_low}
use Rattle.cyc_select.proofs.relation.Values.{Caches}
use Rattle.cyc_select.proofs.effects.Views.{Contents}
use Rattle.cyc_select.proofs.effects.Sequences.{Stands, stands_front, stands_back, after_r, after_w, AreSafe}
use Rattle.cyc_select.proofs.effects.Walks.{Walk, now_at, now_is, walk_few, walk_from, walk_block, walk_branch, walk_jump}
use Rattle.cyc_select.proofs.relation.Standing.{Standing, stage_of}
use Rattle.cyc_select.proofs.relation.Matches.{After, At, Reached}
use Rattle.cyc_select.proofs.steps.Simple.{made_in_scratch, held, is_word, left_used, right_used, gets, Agrees, kept_agrees, but_any, gives_made}

module _ (program : Program) (well : IsWellFormed program) (frames : List Frame) (fit : AreFrames program frames) (code : Labelled) (formed : IsFormed code) (addresses : ℕ → ℕ) (pages calls : ℕ) (few : calls ≤ 4096)
    (c : Configuration)
    (run : labelled.Configuration) (r : Words) (w : Contents) (base back : ℕ)
    (now : At program well frames fit code formed addresses pages calls few (instruction_line program frames c.active.function c.active.next) c.output c.input r w run)
    (s : Standing program frames addresses pages calls c r w base back (stage_of frames c) c.active.slots)
    (caches : Caches program frames c.active.function c.active.next r c.active.slots) where
  abbrev here : ℕ
  here = instruction_line program frames c.active.function c.active.next

  abbrev frame : Frame
  frame = frame_at frames c.active.function

  abbrev slots : ℕ
  slots = (routine_at program c.active.function).slots

  abbrev Goes : (least lo hi : ℕ) → State → Type 0
  Goes least lo hi t = Walk code formed addresses globals_length (words_per_call * calls) least lo hi c.output (After program pages calls c) (Reached program well frames fit code formed addresses pages calls few c) t

  abbrev word_of : Operand → ℕ
  word_of o = operand_word c.active.slots o

  abbrev IsAt : Instruction → Type 0
  IsAt i = instruction_at program (states.place_of (states.Running c)) ≡ Some i

  abbrev IsThere : Operand → Type 0
  IsThere o = IsOperand (routine_at program c.active.function) o × IsOfWord o

  abbrev Held : Operand → Type 0
  Held o = IsHeld globals_length (words_per_call * calls) frame (r FRAME) w r c.active.slots o

  -- Returns the quotient or the remainder of a division.
  abbrev result_of : MoveFromOp → ℕ → ℕ → ℕ
  result_of which a b = multiply_divide_result Divide which a b

  -- Returns the number of the register with the result of a division: HI or LO.
  abbrev part : MoveFromOp → ℕ
  part High = 32
  part Low = 33

  -- The instruction that moves the result of a division from HI or LO to the destination's register.
  abbrev reads_part : MoveFromOp → (destination : ℕ) → List Instr
  reads_part which destination = move_from_of which (made_in frame destination) ∷ []

  part_read : (which : MoveFromOp) (destination : ℕ) (q : Words) → Puts globals_length (words_per_call * calls) (reads_part which destination) q w (made_in frame destination % 32) (made_in frame destination % 32) (q (part which))
  part_read High destination q = record {
    safe = (scratch_writable globals_length (words_per_call * calls) (made_in frame destination % 32) (made_in_scratch program well frames fit code formed addresses pages calls few c run r w base back now s caches destination), tt);
    memory = refl;
    result = put-same q (made_in frame destination % 32) (q 32);
    others = λ n below other. put-other q (made_in frame destination % 32) n (q 32) other;
  }
  part_read Low destination q = record {
    safe = (scratch_writable globals_length (words_per_call * calls) (made_in frame destination % 32) (made_in_scratch program well frames fit code formed addresses pages calls few c run r w base back now s caches destination), tt);
    memory = refl;
    result = put-same q (made_in frame destination % 32) (q 33);
    others = λ n below other. put-other q (made_in frame destination % 32) n (q 33) other;
  }

  -- A multiplication or division writes only the registers HI and LO.
  parts_agree : (op : MultiplyDivideOp) (a b : ℕ) (q : Words) → Agrees program well frames fit code formed addresses pages calls few c run r w base back now s caches FIRST q → Agrees program well frames fit code formed addresses pages calls few c run r w base back now s caches FIRST (after_r (multiply_divide_of op a b ∷ []) q w)
  parts_agree op a b q agrees = record {
    zero_same = agrees.zero_same;
    base_same = agrees.base_same;
    lowest_same = agrees.lowest_same;
    back_same = agrees.back_same;
    lasts_same = agrees.lasts_same;
    values_same = λ n low high other. put-other (put q 32 _) 33 n _ (λ e. absurd (omega (arith, e, high))) ∙ (put-other q 32 n _ (λ e. absurd (omega (arith, e, high))) ∙ agrees.values_same n low high other);
  }

  part_is : (op : MultiplyDivideOp) (which : MoveFromOp) (a b : ℕ) (q : Words) → after_r (multiply_divide_of op a b ∷ []) q w (part which) ≡ multiply_divide_result op which (q (a % 32)) (q (b % 32))
  part_is op High a b q = refl
  part_is op Low a b q = refl

  module _ (operator : BinaryOperator) (which : MoveFromOp) (destination : ℕ) (left right : Operand) (at_i : IsAt (plain.Binary operator destination left right)) (below : destination < slots) (left_there : IsThere left) (right_there : IsThere right)
      (does : performed program zeros c (plain.Binary operator destination left right) ≡ gives c destination (result_of which (word_of left) (word_of right)))
      (nonzero : word_of right ≢ 0) (counted : count_of program frames c.active.function c.active.next (plain.Binary operator destination left right) ≡ divide_count frame destination left right)
      (by_minus : (a : ℕ) → IsWord a → multiply_divide_result Multiply which (if_low which a 0) (if_low which (2 ^ 32 - 1) 0) ≡ result_of which a (2 ^ 32 - 1)) where
    -- Returns the number of MIPS lines that load the two operands of a division.
    abbrev loads : ℕ
    loads = operand_count frame left + operand_count frame right

    -- Returns the register of the first operand of a division.
    abbrev first : ℕ
    first = operand_register frame FIRST left

    abbrev second : ℕ
    second = operand_register frame SECOND right

    left_held : Held left
    left_held = held program well frames fit code formed addresses pages calls few c run r w base back now s caches (plain.Binary operator destination left right) at_i left (left_used program well frames fit code formed addresses pages calls few c run r w base back now s caches left right) left_there

    right_held : Held right
    right_held = held program well frames fit code formed addresses pages calls few c run r w base back now s caches (plain.Binary operator destination left right) at_i right (right_used program well frames fit code formed addresses pages calls few c run r w base back now s caches left right) right_there

    abbrev hi : ℕ
    hi = here + divide_count frame destination left right

    -- After the division instruction, the MIPS lines that move its result from HI or LO to the destination simulate the plain machine's
    -- step.
    finished : (q : Words) (d : labelled.Configuration) → At program well frames fit code formed addresses pages calls few (here + loads + 5) c.output c.input q w d → Stands code (here + loads + 5) (ordinary (reads_part which destination ++ keep_code frame destination))
        → Agrees program well frames fit code formed addresses pages calls few c run r w base back now s caches FIRST q → q (part which) ≡ result_of which (word_of left) (word_of right)
        → Goes 0 (here + loads + 5) (here + divide_count frame destination left right) (Running d)
    finished q d now_d stands agrees result =
        let puts = part_read which destination q in
        walk_few code formed addresses globals_length (words_per_call * calls) 0 (1 + keep_count frame destination) (here + loads + 5) hi c.output _ (Running d) (omega arith)
        (gives_made program well frames fit code formed addresses pages calls few c run r w base back now s caches (plain.Binary operator destination left right) at_i refl destination (result_of which (word_of left) (word_of right)) c.input (gets program well frames fit code formed addresses pages calls few c run r w base back now s caches destination) below does s.input (here + loads + 5) (divide_count frame destination left right) q d now_d
        (reads_part which destination) (but_any program well frames fit code formed addresses pages calls few c run r w base back now s caches (made_in frame destination % 32) q agrees)
        (puts_keeps globals_length (words_per_call * calls) (reads_part which destination) q w (made_in frame destination % 32) _ _ (made_in frame destination % 32) (made_in_scratch program well frames fit code formed addresses pages calls few c run r w base back now s caches destination) (λ n low high other. other) puts)
        (puts.result ∙ result) (omega arith) counted stands)

    abbrev tested : List Instr
    tested = divided_code frame left right

    abbrev last : List Line
    last =
        lines.Ordinary (product_code which (operand_register frame FIRST left))
        ∷ lines.Jump (here + loads + 5)
        ∷ ordinary (quotient_code frame which destination (operand_register frame FIRST left) (operand_register frame SECOND right))

    -- The module concerns the lines of a division that follow after the operands are loaded into their registers.
    module _ (q : Words) (d : labelled.Configuration) (later : At program well frames fit code formed addresses pages calls few (here + loads + 1) c.output c.input q w d)
        (stands : Stands code (here + loads + 1) (lines.Branch (conditions.Registers branch.NotEqual (register_of (operand_register frame SECOND right)) (register_of THIRD)) (here + loads + 4) ∷ last))
        (agrees : Agrees program well frames fit code formed addresses pages calls few c run r w base back now s caches FIRST q)
        (dividend : q (operand_register frame FIRST left % 32) ≡ word_of left) (divisor : q (operand_register frame SECOND right % 32) ≡ word_of right) (third : q THIRD ≡ 2 ^ 32 - 1) where
      four : here + loads + 1 + 1 + 2 ≡ here + loads + 4
      four = omega arith

      five : here + loads + 4 + 1 ≡ here + loads + 5
      five = omega arith

      quotient_stands : Stands code (here + loads + 4) (ordinary (quotient_code frame which destination (operand_register frame FIRST left) (operand_register frame SECOND right)))
      quotient_stands =
          subst (λ (n : ℕ). Stands code n (ordinary (quotient_code frame which destination (operand_register frame FIRST left) (operand_register frame SECOND right)))) four
          (stands_back code (here + loads + 1 + 1) (lines.Ordinary (product_code which (operand_register frame FIRST left)) ∷ lines.Jump (here + loads + 5) ∷ [])
          (ordinary (quotient_code frame which destination (operand_register frame FIRST left) (operand_register frame SECOND right))) stands.1)

      part_stands : Stands code (here + loads + 5) (ordinary (reads_part which destination ++ keep_code frame destination))
      part_stands = subst (λ (n : ℕ). Stands code n (ordinary (reads_part which destination ++ keep_code frame destination))) five quotient_stands.1

      -- If the divisor is -1, the code that multiplies leaves the same quotient and remainder in its result registers as the division.
      multiplied : word_of right ≡ 2 ^ 32 - 1 → (from : MoveFromOp) → ((a : ℕ) → IsWord a → multiply_divide_result Multiply from (if_low from a 0) (if_low from (2 ^ 32 - 1) 0) ≡ result_of from a (2 ^ 32 - 1))
          → after_r (product_code from (operand_register frame FIRST left) ∷ []) q w (part from) ≡ result_of from (word_of left) (word_of right)
      multiplied same High law =
          ap (λ (x : ℕ). multiply_divide_result Multiply High x x) (agrees.zero_same ∙ s.zero_is)
          ∙ (law (word_of left) (is_word program well frames fit code formed addresses pages calls few c run r w base back now s caches left left_held) ∙ ap (result_of High (word_of left)) (sym same))
      multiplied same Low law =
          ap (λ (x : ℕ). multiply_divide_result Multiply Low x (q THIRD)) dividend
          ∙ (ap (multiply_divide_result Multiply Low (word_of left)) third
          ∙ (law (word_of left) (is_word program well frames fit code formed addresses pages calls few c run r w base back now s caches left left_held) ∙ ap (result_of Low (word_of left)) (sym same)))

      product_agrees : (from : MoveFromOp) → Agrees program well frames fit code formed addresses pages calls few c run r w base back now s caches FIRST (after_r (product_code from (operand_register frame FIRST left) ∷ []) q w)
      product_agrees High = parts_agree Multiply ZERO ZERO q agrees
      product_agrees Low = parts_agree Multiply (operand_register frame FIRST left) THIRD q agrees

      product_safe : (from : MoveFromOp) → AreSafe globals_length (words_per_call * calls) (product_code from (operand_register frame FIRST left) ∷ []) q w
      product_safe High = (tt, tt)
      product_safe Low = (tt, tt)

      product_memory : (from : MoveFromOp) → after_w (product_code from (operand_register frame FIRST left) ∷ []) q w ≡ w
      product_memory High = refl
      product_memory Low = refl

      by_minus_one : word_of right ≡ 2 ^ 32 - 1 → Goes 1 (here + loads + 1) hi (Running d)
      by_minus_one same =
          let stays : (if not (q (operand_register frame SECOND right % 32) == q THIRD) then here + loads + 4 else here + loads + 1 + 1) ≡ here + loads + 1 + 1 =
          ap (λ (b : Bool). if not b then here + loads + 4 else here + loads + 1 + 1) (eq-eqb (q (operand_register frame SECOND right % 32)) (q THIRD) (divisor ∙ (same ∙ sym third))) in
          let product : List Instr = product_code which (operand_register frame FIRST left) ∷ [] in
          walk_branch code formed addresses globals_length (words_per_call * calls) 0 (here + loads + 1) (here + loads + 1) hi c.output c.input _ q w d (conditions.Registers branch.NotEqual (register_of (operand_register frame SECOND right)) (register_of THIRD)) (here + loads + 4) (here + loads + 1 + 1) later stands.0 (omega arith) stays
          (λ e after.
          walk_few code formed addresses globals_length (words_per_call * calls) 0 (1 + (1 + 0)) (suc (here + loads + 1)) hi c.output _ (Running e) (omega arith)
          (walk_block code formed addresses globals_length (words_per_call * calls) product (1 + 0) (here + loads + 1 + 1) (suc (here + loads + 1)) hi c.output c.input _ q w e after
          (stands.1.0, tt) (product_safe which) (omega arith)
          (λ f there.
          walk_jump code formed addresses globals_length (words_per_call * calls) 0 (here + loads + 1 + 1 + 1) (here + loads + 1 + 1 + 1) hi c.output c.input _ (after_r product q w) (after_w product q w) f (here + loads + 5) there stands.1.1.0 (omega arith)
          (λ g following.
          walk_from code formed addresses globals_length (words_per_call * calls) 0 (suc (here + loads + 1 + 1 + 1)) (here + loads + 5) hi c.output _ (Running g) (omega arith)
          (finished (after_r product q w) g
          (now_is code formed addresses globals_length (words_per_call * calls) (here + loads + 5) c.output c.input (after_r product q w) (after_w product q w) (after_r product q w) w g refl (product_memory which) following)
          part_stands (product_agrees which) (multiplied same which by_minus))))))

      by_other : word_of right ≢ 2 ^ 32 - 1 → Goes 1 (here + loads + 1) hi (Running d)
      by_other other =
          let leaps : (if not (q (operand_register frame SECOND right % 32) == q THIRD) then here + loads + 4 else here + loads + 1 + 1) ≡ here + loads + 4 =
          ap (λ (b : Bool). if not b then here + loads + 4 else here + loads + 1 + 1) (ne_eqb (q (operand_register frame SECOND right % 32)) (q THIRD) (λ e. other (sym divisor ∙ (e ∙ third)))) in
          let division : List Instr = multiply_divide_of Divide (operand_register frame FIRST left) (operand_register frame SECOND right) ∷ [] in
          walk_branch code formed addresses globals_length (words_per_call * calls) 0 (here + loads + 1) (here + loads + 1) hi c.output c.input _ q w d (conditions.Registers branch.NotEqual (register_of (operand_register frame SECOND right)) (register_of THIRD)) (here + loads + 4) (here + loads + 4) later stands.0 (omega arith) leaps
          (λ e after.
          walk_from code formed addresses globals_length (words_per_call * calls) 0 (suc (here + loads + 1)) (here + loads + 4) hi c.output _ (Running e) (omega arith)
          (walk_few code formed addresses globals_length (words_per_call * calls) 0 (1 + 0) (here + loads + 4) hi c.output _ (Running e) (omega arith)
          (walk_block code formed addresses globals_length (words_per_call * calls) division 0 (here + loads + 4) (here + loads + 4) hi c.output c.input _ q w e after
          (quotient_stands.0, tt) (((λ e1. nonzero (sym divisor ∙ e1)), (λ e1 e2. other (sym divisor ∙ e2))), tt) (omega arith)
          (λ f there.
          walk_from code formed addresses globals_length (words_per_call * calls) 0 (here + loads + 4 + 1) (here + loads + 5) hi c.output _ (Running f) (omega arith)
          (finished (after_r division q w) f (now_at code formed addresses globals_length (words_per_call * calls) (here + loads + 4 + 1) (here + loads + 5) c.output c.input _ _ f five there) part_stands
          (parts_agree Divide (operand_register frame FIRST left) (operand_register frame SECOND right) q agrees)
          (part_is Divide which (operand_register frame FIRST left) (operand_register frame SECOND right) q
          ∙ (ap (λ (x : ℕ). result_of which x (q (operand_register frame SECOND right % 32))) dividend ∙ ap (result_of which (word_of left)) divisor)))))))

      either_goes : Goes 1 (here + loads + 1) hi (Running d)
      either_goes = elim (cases_eq (word_of right) (2 ^ 32 - 1)) [
        | inl same ↦ by_minus_one same
        | inr other ↦ by_other other
      ]

    pub divide_goes : Stands code here (divide_code frame here which destination left right) → Goes 1 here (here + divide_count frame destination left right) (Running run)
    divide_goes stands =
        let put_all = divided_put globals_length (words_per_call * calls) frame (r FRAME) w r c.active.slots r w s.zero_is refl refl (λ n low high. refl) left right left_held right_held in
        let long : length tested ≡ loads + 1 = length_divided frame left right in
        let there : here + length tested ≡ here + loads + 1 = omega (arith, long) in
        let test : Line = lines.Branch (conditions.Registers branch.NotEqual (register_of (operand_register frame SECOND right)) (register_of THIRD)) (here + loads + 4) in
        let following = stands_back code here (ordinary tested) (test ∷ last) stands in
        let after_here : Stands code (here + loads + 1) (test ∷ last) =
        subst (λ (n : ℕ). Stands code n (test ∷ last)) (ap (λ (n : ℕ). here + n) (length_ordinary tested) ∙ there) following in
        walk_few code formed addresses globals_length (words_per_call * calls) 1 (length tested + 1) here hi c.output _ (Running run) (omega arith)
        (walk_block code formed addresses globals_length (words_per_call * calls) tested 1 here here hi c.output c.input _ r w run now
        (stands_front code here (ordinary tested) (test ∷ last) stands)
        put_all.keeps.safe (omega arith)
        (λ d later.
        walk_from code formed addresses globals_length (words_per_call * calls) 1 (here + length tested) (here + loads + 1) hi c.output _ (Running d) (omega (arith, there))
        (either_goes (after_r tested r w) d
        (now_at code formed addresses globals_length (words_per_call * calls) (here + length tested) (here + loads + 1) c.output c.input _ _ d there
        (now_is code formed addresses globals_length (words_per_call * calls) (here + length tested) c.output c.input _ _ _ _ d refl put_all.keeps.memory later))
        after_here (kept_agrees program well frames fit code formed addresses pages calls few c run r w base back now s caches tested put_all.keeps) put_all.dividend put_all.divisor put_all.minus_one)))
