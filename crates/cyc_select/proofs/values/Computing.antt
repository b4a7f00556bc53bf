-- The values in registers after the code that computes operands, plans (sequences of machine operations) and tests.
use Rattle.std.proofs.Common.{◌≡◌, ◌≢◌, ℕ, ◌-◌, ◌/◌, ◌%◌, ◌^◌, ◌<◌, ◌≤◌, Bool, true, false, List, [], ◌∷◌, Option, None, Some, refl, sym, ap, subst, ◌∙◌, arith}
use Rattle.std.specs.Prelude.{◌==◌, nat_lt, if◌then◌else◌, bit_or}
use Rattle.std.proofs.lemmas.Bool.{eqb-true, ne_eqb}
use Rattle.cyc_words.specs.Word.{IsWord, add_of, sltu_of, sign_extended}
use Rattle.cyc_words.proofs.WordLemmas.{sign_extended_high}
use Rattle.cyc_words.proofs.Numbers.{other_beyond_32, remainder_below_32, remainder_of_register_number}
use Rattle.cyc_isa.specs.declared.instr.Instr.{Instr}
use Rattle.cyc_isa.specs.declared.instr.MoveFromOp.TheVariants.{High, Low}
use Rattle.cyc_isa.specs.declared.instr.MultiplyDivideOp.TheVariants.{Multiply, Divide}
use Rattle.cyc_isa.specs.Effect.{memory_address, load_upper_result}
use Rattle.cyc_machine_model.specs.declared.constants.TheConstants.{ARGUMENT}
use Rattle.cyc_plain.specs.declared.instruction.Operand.{Operand}
use Rattle.cyc_plain.specs.declared.instruction.Operand.TheVariants as operands
use Rattle.cyc_plain.specs.inside.State.{Words, put}
use Rattle.cyc_plain.specs.inside.Step.{operand_word}
use Rattle.cyc_plain.proofs.SlotLaws.{put-same, put-other}
use Rattle.cyc_plain.specs.inside.Program.{Routine, Program}
use Rattle.cyc_frame.specs.inside.Frame.{Frame}
use Rattle.cyc_registers.specs.inside.Interference.{AreHomes}
use Rattle.cyc_select.specs.declared.constants.TheConstants.{FIRST, SECOND, THIRD, FRAME, ZERO}
use Rattle.cyc_select.specs.declared.plan.Operation.{Operation}
use Rattle.cyc_select.specs.declared.plan.Operation.TheVariants as operations
use Rattle.cyc_select.specs.declared.plan.Outcome.{Outcome}
use Rattle.cyc_select.specs.declared.plan.Outcome.TheVariants as outcomes
use Rattle.cyc_select.specs.declared.plan.Plan.{Plan}
use Rattle.cyc_select.specs.inside.Numbers.{fits_signed, is_zero_word}
use Rattle.cyc_select.specs.inside.Instructions.{slot_offset, load, small, load_upper, constant, multiply_divide_of, add_immediate, minus}
use Rattle.cyc_select.specs.inside.Slots.{load_from, value_register, or_else, made_in}
use Rattle.cyc_select.specs.inside.Operands.{fetch_from, or_immediate, word_code, load_code, operand_code, operand_register, operands_code, operation_code, outcome_code, operation_of, computed_code}
use Rattle.cyc_select.specs.inside.Selection.{divided_code}
use Rattle.cyc_select.proofs.values.Blocks.{ValuesSame, IsAside, all_same, Puts, Keeps, IsScratch, puts_keeps, keeps_append, after_both}
use Rattle.cyc_select.proofs.relation.Cells.{IsCell}
use Rattle.cyc_select.proofs.values.Halves.{fits_is, zero_is}
use Rattle.cyc_select.proofs.values.Operations.{two_halves, zero_test, not_zero_test}
use Rattle.cyc_select.proofs.values.Plans.{operation_result, outcome_result, operation_word, plan_word}
use Rattle.cyc_select.proofs.effects.Views.{Contents, IsWritable, does_r}
use Rattle.cyc_select.proofs.effects.Sequences.{after_r, after_w}

module _ (globals stack : ℕ) where
  -- ---- words

  add_nothing : (n : ℕ) → IsWord n → add_of n 0 ≡ n
  add_nothing n fits = let e : add_of n 0 ≡ n = omega (arith, fits) in e

  pub word_puts : (q : Words) (m : Contents) (target word : ℕ) → q ZERO ≡ 0 → IsWritable (target % 32) → IsWord word → Puts globals stack (word_code target word) q m (target % 32) (target % 32) word
  word_puts q m target word zero writable fits = go (fits_signed word) (nat_lt word (2 ^ 16)) (word % 2 ^ 16 == 0) refl refl
    where
      upper : ℕ
      upper = load_upper_result (word / 2 ^ 16)

      go : (a b c : Bool) → fits_signed word ≡ a → (word % 2 ^ 16 == 0) ≡ c
          → Puts globals stack (if a then small target (word % 2 ^ 16) ∷ [] else (if b then or_immediate target word ∷ [] else (if c then load_upper target word ∷ [] else constant target word))) q m (target % 32) (target % 32) word
      go true b c extended whole = record {
        safe = (writable, tt);
        memory = refl;
        result =
            put-same q (target % 32) (add_of (q ZERO) (sign_extended (word % 2 ^ 16)))
            ∙ (ap (λ (x : ℕ). add_of x (sign_extended (word % 2 ^ 16))) zero ∙ (ap (add_of 0) (fits_is word fits extended) ∙ (let e : add_of 0 word ≡ word = omega arith in e)));
        others = λ n below other. put-other q (target % 32) n (add_of (q ZERO) (sign_extended (word % 2 ^ 16))) other;
      }
      go false true c extended whole = record {
        safe = (writable, tt);
        memory = refl;
        result = put-same q (target % 32) (bit_or (q ZERO) word) ∙ (ap (λ (x : ℕ). bit_or x word) zero ∙ refl);
        others = λ n below other. put-other q (target % 32) n (bit_or (q ZERO) word) other;
      }
      go false false true extended whole = record {
        safe = (writable, tt);
        memory = refl;
        result = put-same q (target % 32) (load_upper_result (word / 2 ^ 16)) ∙ (let e : load_upper_result (word / 2 ^ 16) ≡ word = omega (arith, eqb-true (word % 2 ^ 16) 0 whole) in e);
        others = λ n below other. put-other q (target % 32) n (load_upper_result (word / 2 ^ 16)) other;
      }
      go false false false extended whole = record {
        safe = (writable, (writable, tt));
        memory = refl;
        result =
            put-same (put q (target % 32) upper) (target % 32) (bit_or (put q (target % 32) upper (target % 32)) (word % 2 ^ 16))
            ∙ (ap (λ (x : ℕ). bit_or x (word % 2 ^ 16)) (put-same q (target % 32) upper) ∙ two_halves word fits);
        others = λ n below other.
            put-other (put q (target % 32) upper) (target % 32) n (bit_or (put q (target % 32) upper (target % 32)) (word % 2 ^ 16)) other
            ∙ put-other q (target % 32) n upper other;
      }

  -- ---- operands

  -- `HeldIn` says that a slot's word is in its register, or at an address from which it can be loaded.
  abbrev pub HeldIn : Option ℕ → Frame → (base : ℕ) → (w : Contents) (r slots : Words) → (slot : ℕ) → Type 0
  HeldIn None frame base w r slots slot =
      IsCell globals stack (memory_address base (slot_offset frame slot)) × (w.words (memory_address base (slot_offset frame slot)) ≡ slots slot)
  HeldIn (Some register) frame base w r slots slot =
      (6 ≤ register) × (register < 24) × (r register ≡ slots slot) × IsWord (slots slot)

  -- `IsHeld` says that an operand is a constant, or that its slot's word is in a register or in memory.
  abbrev pub IsHeld : Frame → (base : ℕ) → (w : Contents) (r slots : Words) → Operand → Type 0
  IsHeld frame base w r slots (operands.Slot number) = HeldIn (value_register frame number) frame base w r slots number
  IsHeld frame base w r slots (operands.Word word) = IsWord word

  -- The registers `q` and the memory `m` are assumed to have the same frame and the same registers of slots as the registers `r` and
  -- the memory `w`.
  module _ (frame : Frame) (base : ℕ) (w : Contents) (r slots : Words) (q : Words) (m : Contents) (zero : q ZERO ≡ 0) (same : q FRAME ≡ base) (memory : m ≡ w) (values : ValuesSame q r) where
    memory_puts : (target number : ℕ) → IsWritable (target % 32) → IsCell globals stack (memory_address base (slot_offset frame number)) → w.words (memory_address base (slot_offset frame number)) ≡ slots number
        → Puts globals stack (load target (slot_offset frame number) ∷ []) q m (target % 32) (target % 32) (slots number)
    memory_puts target number writable cell is = record {
      safe = ((writable, subst (λ (b : ℕ). IsCell globals stack (memory_address b (slot_offset frame number))) (sym same) cell), tt);
      memory = refl;
      result =
          put-same q (target % 32) (m.words (memory_address (q FRAME) (slot_offset frame number)))
          ∙ (ap (λ (x : Contents). x.words (memory_address (q FRAME) (slot_offset frame number))) memory
          ∙ (ap (λ (b : ℕ). w.words (memory_address b (slot_offset frame number))) same ∙ is));
      others = λ n below other. put-other q (target % 32) n (m.words (memory_address (q FRAME) (slot_offset frame number))) other;
    }

    register_is : (register number : ℕ) → HeldIn (Some register) frame base w r slots number → q (register % 32) ≡ slots number
    register_is register number (low, high, is, fits) = ap q (remainder_of_register_number register high) ∙ (values register low high ∙ is)

    pub slot_puts : (o : Option ℕ) (target number : ℕ) → IsWritable (target % 32) → HeldIn o frame base w r slots number
        → Puts globals stack (load_from o frame target number ∷ []) q m (target % 32) (target % 32) (slots number)
    slot_puts None target number writable (cell, is) = memory_puts target number writable cell is
    slot_puts (Some register) target number writable held = record {
      safe = (writable, tt);
      memory = refl;
      result =
          put-same q (target % 32) (add_of (q (register % 32)) (q ZERO))
          ∙ (ap (add_of (q (register % 32))) zero
          ∙ (ap (λ (x : ℕ). add_of x 0) (register_is register number held) ∙ add_nothing (slots number) held.3));
      others = λ n below other. put-other q (target % 32) n (add_of (q (register % 32)) (q ZERO)) other;
    }

    pub load_puts : (target : ℕ) → IsWritable (target % 32) → (o : Operand) → IsHeld frame base w r slots o
        → Puts globals stack (load_code frame target o) q m (target % 32) (target % 32) (operand_word slots o)
    load_puts target writable (operands.Slot number) held = slot_puts (value_register frame number) target number writable held
    load_puts target writable (operands.Word word) held = word_puts q m target word zero writable held

    fetch_puts : (o : Option ℕ) (target number : ℕ) → IsWritable (target % 32) → HeldIn o frame base w r slots number
        → Puts globals stack (fetch_from o frame target number) q m (target % 32) (or_else o target % 32) (slots number)
    fetch_puts None target number writable (cell, is) = memory_puts target number writable cell is
    fetch_puts (Some register) target number writable held =
        record { safe = tt; memory = refl; result = register_is register number held; others = λ n below other. refl }

    word_either : (target word : ℕ) → IsWritable (target % 32) → IsWord word → (b : Bool) → is_zero_word (operands.Word word) ≡ b
        → Puts globals stack (if b then [] else word_code target word) q m (target % 32) ((if b then ZERO else target) % 32) word
    word_either target word writable fits true is =
        record { safe = tt; memory = refl; result = zero ∙ sym (zero_is slots (operands.Word word) is); others = λ n below other. refl }
    word_either target word writable fits false is = word_puts q m target word zero writable fits

    pub operand_puts : (target : ℕ) → IsWritable (target % 32) → (o : Operand) → IsHeld frame base w r slots o
        → Puts globals stack (operand_code frame target o) q m (target % 32) (operand_register frame target o % 32) (operand_word slots o)
    operand_puts target writable (operands.Slot number) held = fetch_puts (value_register frame number) target number writable held
    operand_puts target writable (operands.Word word) held = word_either target word writable held (is_zero_word (operands.Word word)) refl

    fetched_not_second : (o : Option ℕ) (number : ℕ) → HeldIn o frame base w r slots number → or_else o FIRST % 32 ≢ SECOND
    fetched_not_second None number held e = absurd (omega (arith, e))
    fetched_not_second (Some register) number (low, high, is, fits) e = absurd (omega (arith, e, low, high))

    word_not_second : (b : Bool) → (if b then ZERO else FIRST) % 32 ≢ SECOND
    word_not_second true e = absurd (omega (arith, e))
    word_not_second false e = absurd (omega (arith, e))

    -- The register that holds the left operand is not the temporary for the right operand.
    pub not_second : (o : Operand) → IsHeld frame base w r slots o → operand_register frame FIRST o % 32 ≢ SECOND
    not_second (operands.Slot number) held = fetched_not_second (value_register frame number) number held
    not_second (operands.Word word) held = word_not_second (is_zero_word (operands.Word word))

  -- ---- two operands

  -- `AreLoaded` says that after the instructions, both operands of an operator are in registers.
  pub record AreLoaded (is : List Instr) (q : Words) (m : Contents) (but left right a b : ℕ) : Type 0 where
    pub keeps : Keeps globals stack is q m but
    pub left_is : after_r is q m (left % 32) ≡ a
    pub right_is : after_r is q m (right % 32) ≡ b

  pub first_scratch : IsScratch globals stack FIRST
  first_scratch = record {
    not_zero = λ e. absurd (omega (arith, e));
    not_base = λ e. absurd (omega (arith, e));
    not_lowest = λ e. absurd (omega (arith, e));
    not_back = λ e. absurd (omega (arith, e));
    not_newest = λ e. absurd (omega (arith, e));
    not_counted = λ e. absurd (omega (arith, e));
    not_middle = λ e. absurd (omega (arith, e));
  }

  pub argument_scratch : IsScratch globals stack ARGUMENT
  argument_scratch = record {
    not_zero = λ e. absurd (omega (arith, e));
    not_base = λ e. absurd (omega (arith, e));
    not_lowest = λ e. absurd (omega (arith, e));
    not_back = λ e. absurd (omega (arith, e));
    not_newest = λ e. absurd (omega (arith, e));
    not_counted = λ e. absurd (omega (arith, e));
    not_middle = λ e. absurd (omega (arith, e));
  }

  pub second_scratch : IsScratch globals stack SECOND
  second_scratch = record {
    not_zero = λ e. absurd (omega (arith, e));
    not_base = λ e. absurd (omega (arith, e));
    not_lowest = λ e. absurd (omega (arith, e));
    not_back = λ e. absurd (omega (arith, e));
    not_newest = λ e. absurd (omega (arith, e));
    not_counted = λ e. absurd (omega (arith, e));
    not_middle = λ e. absurd (omega (arith, e));
  }

  pub first_aside : (but : ℕ) → IsAside but FIRST
  first_aside but n low high other e = absurd (omega (arith, e, high))

  pub second_aside : (but : ℕ) → IsAside but SECOND
  second_aside but n low high other e = absurd (omega (arith, e, low))

  pub argument_aside : (but : ℕ) → IsAside but ARGUMENT
  argument_aside but n low high other e = absurd (omega (arith, e, low))

  pub scratch_writable : (n : ℕ) → IsScratch globals stack n → IsWritable n
  scratch_writable n scratch = ne_eqb n 0 (λ same. scratch.not_zero (sym same))

  -- ---- computed words

  -- `IsComputable` says that the machine can compute an operation on two words: a division has no zero divisor and does not overflow.
  abbrev pub IsComputable : Operation → (a b : ℕ) → Type 0
  IsComputable (operations.MultiplyDivide Divide from) a b = (b ≢ 0) × (a ≡ 2 ^ 31 → b ≡ 2 ^ 32 - 1 → ⊥)
  IsComputable operation a b = Unit {0}

  -- Writing a target register, HI and LO leaves every other general register unchanged.
  kept : (q : Words) (at n high low word : ℕ) → n < 32 → n ≢ at → put (put (put q 32 high) 33 low) at word n ≡ q n
  kept q at n high low word below other =
      put-other (put (put q 32 high) 33 low) at n word other
      ∙ (put-other (put q 32 high) 33 n low (other_beyond_32 n 33 below (omega arith)) ∙ put-other q 32 n high (other_beyond_32 n 32 below (omega arith)))

  pub operation_puts : (o : Operation) (q : Words) (m : Contents) (target left right : ℕ) → IsWritable (target % 32) → IsComputable o (q (left % 32)) (q (right % 32))
      → Puts globals stack (operation_code o target left right) q m (target % 32) (target % 32) (operation_result o (q (left % 32)) (q (right % 32)))
  operation_puts (operations.Arithmetic op) q m target left right writable fine =
      record { safe = (writable, tt); memory = refl; result = put-same q (target % 32) _; others = λ n below other. put-other q (target % 32) n _ other }
  operation_puts (operations.Immediate op half) q m target left right writable fine =
      record { safe = (writable, tt); memory = refl; result = put-same q (target % 32) _; others = λ n below other. put-other q (target % 32) n _ other }
  operation_puts (operations.Shift op) q m target left right writable fine =
      record { safe = (writable, tt); memory = refl; result = put-same q (target % 32) _; others = λ n below other. put-other q (target % 32) n _ other }
  operation_puts (operations.ShiftBy op amount) q m target left right writable fine =
      record { safe = (writable, tt); memory = refl; result = put-same q (target % 32) _; others = λ n below other. put-other q (target % 32) n _ other }
  operation_puts (operations.MultiplyDivide Multiply High) q m target left right writable fine = record {
    safe = (tt, (writable, tt));
    memory = refl;
    result = put-same (does_r (multiply_divide_of Multiply left right) q m) (target % 32) _;
    others = λ n below other. kept q (target % 32) n _ _ _ below other;
  }
  operation_puts (operations.MultiplyDivide Multiply Low) q m target left right writable fine = record {
    safe = (tt, (writable, tt));
    memory = refl;
    result = put-same (does_r (multiply_divide_of Multiply left right) q m) (target % 32) _;
    others = λ n below other. kept q (target % 32) n _ _ _ below other;
  }
  operation_puts (operations.MultiplyDivide Divide High) q m target left right writable fine = record {
    safe = (fine, (writable, tt));
    memory = refl;
    result = put-same (does_r (multiply_divide_of Divide left right) q m) (target % 32) _;
    others = λ n below other. kept q (target % 32) n _ _ _ below other;
  }
  operation_puts (operations.MultiplyDivide Divide Low) q m target left right writable fine = record {
    safe = (fine, (writable, tt));
    memory = refl;
    result = put-same (does_r (multiply_divide_of Divide left right) q m) (target % 32) _;
    others = λ n below other. kept q (target % 32) n _ _ _ below other;
  }

  outcome_puts : (o : Outcome) (q : Words) (m : Contents) (target : ℕ) → IsWritable (target % 32) → q ZERO ≡ 0
      → Puts globals stack (outcome_code o target) q m (target % 32) (target % 32) (outcome_result o (q (target % 32)))
  outcome_puts outcomes.AsItIs q m target writable zero = record { safe = tt; memory = refl; result = refl; others = λ n below other. refl }
  outcome_puts outcomes.WhetherZero q m target writable zero = record {
    safe = (writable, tt);
    memory = refl;
    result = put-same q (target % 32) _ ∙ zero_test (q (target % 32));
    others = λ n below other. put-other q (target % 32) n _ other;
  }
  outcome_puts outcomes.WhetherNotZero q m target writable zero = record {
    safe = (writable, tt);
    memory = refl;
    result = put-same q (target % 32) _ ∙ (ap (λ (x : ℕ). sltu_of x (q (target % 32))) zero ∙ not_zero_test (q (target % 32)));
    others = λ n below other. put-other q (target % 32) n _ other;
  }

  minus_one_is : (n : ℕ) → n ≡ 0 → add_of n (sign_extended 65535) ≡ 2 ^ 32 - 1
  minus_one_is n zero =
      ap (λ (x : ℕ). add_of x (sign_extended 65535)) zero ∙ (ap (add_of 0) (sign_extended_high 65535 (omega arith) (omega arith)) ∙ refl)

  -- `Leaves` says that the instructions leave this word in the target register, and change no reserved
  -- register and no register that another slot may have.
  pub record Leaves (is : List Instr) (q : Words) (m : Contents) (target word : ℕ) : Type 0 where
    pub keeps : Keeps globals stack is q m (target % 32)
    pub result : after_r is q m (target % 32) ≡ word

  -- The registers `q` and the memory `m` are assumed to have the same frame and the same registers of slots as the registers `r` and
  -- the memory `w`.
  module _ (frame : Frame) (base : ℕ) (w : Contents) (r slots : Words) (q : Words) (m : Contents) (zero : q ZERO ≡ 0) (same : q FRAME ≡ base) (memory : m ≡ w) (values : ValuesSame q r) where
    pub operands_put : (but : ℕ) (left right : Operand) → IsHeld frame base w r slots left → IsHeld frame base w r slots right
        → AreLoaded (operands_code frame left right) q m but (operand_register frame FIRST left) (operand_register frame SECOND right) (operand_word slots left) (operand_word slots right)
    operands_put but left right left_held right_held =
        let c : List Instr = operand_code frame FIRST left in
        let d : List Instr = operand_code frame SECOND right in
        let first = operand_puts frame base w r slots q m zero same memory values FIRST refl left left_held in
        let kept = puts_keeps globals stack c q m FIRST _ _ but first_scratch (first_aside but) first in
        let still = puts_keeps globals stack c q m FIRST _ _ FIRST first_scratch (first_aside FIRST) first in
        let second = operand_puts frame base w r slots (after_r c q m) (after_w c q m) (kept.zero ∙ zero) (kept.base ∙ same) (kept.memory ∙ memory)
        (λ n low high. all_same (after_r c q m) q still.values n low high ∙ values n low high) SECOND refl right right_held in
        record {
          keeps = keeps_append globals stack c d q m but kept (puts_keeps globals stack d (after_r c q m) (after_w c q m) SECOND _ _ but second_scratch (second_aside but) second);
          left_is =
              after_both globals stack c d q m (operand_register frame FIRST left % 32)
              ∙ (second.others (operand_register frame FIRST left % 32) (remainder_below_32 (operand_register frame FIRST left)) (not_second frame base w r slots q m zero same memory values left left_held) ∙ first.result);
          right_is = after_both globals stack c d q m (operand_register frame SECOND right % 32) ∙ second.result;
        }

    pub operation_leaves : (target : ℕ) → IsScratch globals stack (target % 32) → (plan : Plan) → IsHeld frame base w r slots plan.left → IsHeld frame base w r slots plan.right → IsComputable plan.operation (operand_word slots plan.left) (operand_word slots plan.right)
        → Leaves (operation_of frame target plan) q m target (operation_word slots plan)
    operation_leaves target scratch plan left_held right_held fine =
        let c : List Instr = operands_code frame plan.left plan.right in
        let left : ℕ = operand_register frame FIRST plan.left in
        let right : ℕ = operand_register frame SECOND plan.right in
        let d : List Instr = operation_code plan.operation target (operand_register frame FIRST plan.left) (operand_register frame SECOND plan.right) in
        let loaded = operands_put (target % 32) plan.left plan.right left_held right_held in
        let computable = subst (λ (x : ℕ). IsComputable plan.operation x (after_r c q m (right % 32))) (sym loaded.left_is)
        (subst (λ (x : ℕ). IsComputable plan.operation (operand_word slots plan.left) x) (sym loaded.right_is) fine) in
        let puts = operation_puts plan.operation (after_r c q m) (after_w c q m) target left right (scratch_writable (target % 32) scratch) computable in
        record {
          keeps = keeps_append globals stack c d q m (target % 32) loaded.keeps (puts_keeps globals stack d (after_r c q m) (after_w c q m) (target % 32) _ _ (target % 32) scratch (λ n low high other. other) puts);
          result =
              after_both globals stack c d q m (target % 32)
              ∙ (puts.result
              ∙ (ap (λ (x : ℕ). operation_result plan.operation x (after_r c q m (right % 32))) loaded.left_is
              ∙ ap (operation_result plan.operation (operand_word slots plan.left)) loaded.right_is));
        }

    pub plan_leaves : (target : ℕ) → IsScratch globals stack (target % 32) → (plan : Plan) → IsHeld frame base w r slots plan.left → IsHeld frame base w r slots plan.right → IsComputable plan.operation (operand_word slots plan.left) (operand_word slots plan.right)
        → Leaves (computed_code frame target plan) q m target (plan_word slots plan)
    plan_leaves target scratch plan left_held right_held fine =
        let c : List Instr = operation_of frame target plan in
        let d : List Instr = outcome_code plan.outcome target in
        let leaves = operation_leaves target scratch plan left_held right_held fine in
        let puts = outcome_puts plan.outcome (after_r c q m) (after_w c q m) target (scratch_writable (target % 32) scratch) (leaves.keeps.zero ∙ zero) in
        record {
          keeps = keeps_append globals stack c d q m (target % 32) leaves.keeps (puts_keeps globals stack d (after_r c q m) (after_w c q m) (target % 32) _ _ (target % 32) scratch (λ n low high other. other) puts);
          result = after_both globals stack c d q m (target % 32) ∙ (puts.result ∙ ap (outcome_result plan.outcome) leaves.result);
        }

    -- ---- division

    fetched_not_third : (o : Option ℕ) (target number : ℕ) → target % 32 ≢ THIRD → HeldIn o frame base w r slots number → or_else o target % 32 ≢ THIRD
    fetched_not_third None target number apart held e = apart e
    fetched_not_third (Some register) target number apart (low, high, is, fits) e = omega (arith, e, low, high)

    word_not_third : (b : Bool) (target : ℕ) → target % 32 ≢ THIRD → (if b then ZERO else target) % 32 ≢ THIRD
    word_not_third true target apart e = absurd (omega (arith, e))
    word_not_third false target apart e = apart e

    -- The temporary register that receives -1 in a division holds neither operand.
    not_third : (target : ℕ) → target % 32 ≢ THIRD → (o : Operand) → IsHeld frame base w r slots o → operand_register frame target o % 32 ≢ THIRD
    not_third target apart (operands.Slot number) held = fetched_not_third (value_register frame number) target number apart held
    not_third target apart (operands.Word word) held = word_not_third (is_zero_word (operands.Word word)) target apart

    -- `AreDivided` says that after the instructions, the dividend, the divisor and -1 are in registers.
    pub record AreDivided (is : List Instr) (left right : Operand) : Type 0 where
      pub keeps : Keeps globals stack is q m FIRST
      pub dividend : after_r is q m (operand_register frame FIRST left % 32) ≡ operand_word slots left
      pub divisor : after_r is q m (operand_register frame SECOND right % 32) ≡ operand_word slots right
      pub minus_one : after_r is q m THIRD ≡ 2 ^ 32 - 1

    pub divided_put : (left right : Operand) → IsHeld frame base w r slots left → IsHeld frame base w r slots right → AreDivided (divided_code frame left right) left right
    divided_put left right left_held right_held =
        let c : List Instr = operands_code frame left right in
        let e : List Instr = add_immediate THIRD ZERO (minus 1) ∷ [] in
        let loaded = operands_put FIRST left right left_held right_held in
        let third : Keeps globals stack e (after_r c q m) (after_w c q m) FIRST = record {
          safe = (refl, tt);
          memory = refl;
          zero = refl;
          base = refl;
          lowest = refl;
          back = refl;
          lasts = refl;
          values = λ n low high other. put-other (after_r c q m) THIRD n _ (λ x. absurd (omega (arith, x, low)));
        } in
        record {
          keeps = keeps_append globals stack c e q m FIRST loaded.keeps third;
          dividend =
              after_both globals stack c e q m (operand_register frame FIRST left % 32)
              ∙ (put-other (after_r c q m) THIRD (operand_register frame FIRST left % 32) _ (not_third FIRST (λ x. absurd (omega (arith, x))) left left_held) ∙ loaded.left_is);
          divisor =
              after_both globals stack c e q m (operand_register frame SECOND right % 32)
              ∙ (put-other (after_r c q m) THIRD (operand_register frame SECOND right % 32) _ (not_third SECOND (λ x. absurd (omega (arith, x))) right right_held) ∙ loaded.right_is);
          minus_one = after_both globals stack c e q m THIRD ∙ minus_one_is (after_r c q m ZERO) (loaded.keeps.zero ∙ zero);
        }

-- ---- the register in which a slot's word is computed

-- The register in which a slot's word is computed is a temporary or the slot's own register.
pub made_scratch : (globals stack : ℕ) (program : Program) (r : Routine) (frame : Frame) → AreHomes program r frame.saved frame.homes → (slot : ℕ) → IsScratch globals stack (made_in frame slot % 32)
made_scratch globals stack program r frame right slot = go (value_register frame slot) refl
  where
    go : (o : Option ℕ) → value_register frame slot ≡ o → IsScratch globals stack (or_else o FIRST % 32)
    go None none = first_scratch globals stack
    go (Some k) some =
        let low : 6 ≤ k = right.low slot k some in
        let high : k < 24 = right.high slot k some in
        record {
          not_zero = λ e. absurd (omega (arith, e, low, high));
          not_base = λ e. absurd (omega (arith, e, low, high));
          not_lowest = λ e. absurd (omega (arith, e, low, high));
          not_back = λ e. absurd (omega (arith, e, low, high));
          not_newest = λ e. absurd (omega (arith, e, low, high));
          not_counted = λ e. absurd (omega (arith, e, low, high));
          not_middle = λ e. absurd (omega (arith, e, low, high));
        }
