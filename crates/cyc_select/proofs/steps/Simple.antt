-- The simulation of instructions that neither call nor return: writes of slots, copies and operators.
use Rattle.std.proofs.Common.{◌≡◌, ◌≢◌, ℕ, suc, length-append, ◌+◌, ◌-◌, ◌*◌, ◌%◌, ◌<◌, ◌≤◌, Bool, true, false, List, [], ◌∷◌, ◌++◌, length, Option, Some, None, refl, sym, ap, subst, ◌∙◌, arith}
use Rattle.std.specs.Prelude.{◌==◌, ◌||◌, if◌then◌else◌}
use Rattle.std.specs.List.{AllByRecursion}
use Rattle.std.proofs.lemmas.Bool.{ne_eqb, or_left, or_right}
use Rattle.cyc_words.specs.Word.{IsWord, add_of}
use Rattle.cyc_words.proofs.Numbers.{eqb_other, eqb_itself, eqb_next}
use Rattle.cyc_plain.specs.inside.Uses.{is_slot, reads, writes, leads}
use Rattle.cyc_isa.specs.Effect.{memory_address}
use Rattle.cyc_isa.specs.declared.instr.Instr.{Instr}
use Rattle.cyc_machine_model.specs.State.{globals_length, words_per_call}
use Rattle.cyc_plain.specs.declared.instruction.Instruction.{Instruction}
use Rattle.cyc_plain.specs.declared.instruction.Instruction.TheVariants as plain
use Rattle.cyc_plain.specs.declared.instruction.UnaryOperator.{UnaryOperator}
use Rattle.cyc_plain.specs.declared.instruction.BinaryOperator.{BinaryOperator}
use Rattle.cyc_plain.specs.declared.instruction.Operand.{Operand}
use Rattle.cyc_plain.specs.declared.instruction.Operand.TheVariants as operands
use Rattle.cyc_plain.specs.inside.Operators.{unary_result, binary_result}
use Rattle.cyc_plain.specs.inside.Program.{Program, routine_at}
use Rattle.cyc_plain.specs.inside.State as states
use Rattle.cyc_plain.specs.inside.State.{Words, Configuration}
use Rattle.cyc_plain.specs.inside.Step.{instruction_at, operand_word, performed, gives}
use Rattle.cyc_plain.specs.inside.WellFormed.{IsOperand, IsOfWord, IsWellFormed}
use Rattle.cyc_plain.proofs.SlotLaws.{put-same, put-other}
use Rattle.cyc_plain.proofs.RunLaws.{zeros, calls_nothing}
use Rattle.cyc_registers.specs.inside.Interference.{AreHomes}
use Rattle.cyc_frame.specs.inside.Layout.{AreFrames, frame_at}
use Rattle.cyc_frame.specs.inside.Frame.{Frame}
use Rattle.cyc_machine_model.specs.declared.constants.TheConstants.{RETURN_ADDRESS}
use Rattle.cyc_select.specs.declared.constants.TheConstants.{FIRST, ZERO, LOWEST, FRAME}
use Rattle.cyc_select.specs.declared.plan.Plan.{Plan}
use Rattle.cyc_select.specs.inside.Plans.{unary_plan, binary_plan}
use Rattle.cyc_select.specs.inside.Labelled.{Labelled, IsFormed}
use Rattle.cyc_select.specs.inside.Machine as labelled
use Rattle.cyc_select.specs.inside.Machine.{State, Running}
use Rattle.cyc_select.specs.inside.Instructions.{copy, store_slot, slot_offset}
use Rattle.cyc_select.specs.inside.Slots.{value_register, or_else, is_kept, keep_code, give_to, give_code, made_in}
use Rattle.cyc_select.specs.inside.Operands.{keep_count, give_count_to, give_count, move_count_to, move_count, load_code, operand_code, operand_register, computed_code, plan_code, load_count, operand_count, plan_count, is_tested}
use Rattle.cyc_select.specs.inside.Counts.{body_count, count_of, instruction_line}
use Rattle.cyc_select.specs.inside.Selection.{move_to, ordinary, body}
use Rattle.cyc_select.proofs.values.Blocks.{AreSame, all_same, lasting, Puts, Keeps, IsScratch, puts_keeps, safe_append}
use Rattle.cyc_select.proofs.relation.Cells.{IsCell}
use Rattle.cyc_select.proofs.values.Computing.{IsHeld, IsComputable, load_puts, operand_puts, plan_leaves, first_scratch, first_aside, made_scratch}
use Rattle.cyc_select.proofs.emission.Counts.{load_some, operation_some, length_load, length_operand, length_computed}
use Rattle.cyc_select.proofs.relation.Held.{operand_held, operand_is_word}
use Rattle.cyc_select.proofs.values.Halves.{divisor_is}
use Rattle.cyc_select.proofs.values.Plans.{plan_word, unary_word, binary_word, all_unary, all_binary}
use Rattle.cyc_select.proofs.relation.Values.{Caches, memory_kept, made_in_is}
use Rattle.cyc_select.proofs.effects.Views.{Contents, written}
use Rattle.cyc_select.proofs.effects.Sequences.{Stands, after_r, after_w, after_r-append, after_w-append, AreSafe}
use Rattle.cyc_select.proofs.effects.Walks.{Walk, walk_end, walk_few, walk_block}
use Rattle.cyc_select.proofs.relation.Standing.{Standing, slot_cell, stage_of}
use Rattle.cyc_select.proofs.relation.Matches.{After, At, Reached, reached_gives}

module _ (program : Program) (well : IsWellFormed program) (frames : List Frame) (fit : AreFrames program frames) (code : Labelled) (formed : IsFormed code) (addresses : ℕ → ℕ) (pages calls : ℕ) (few : calls ≤ 4096)
    (c : Configuration)
    (run : labelled.Configuration) (r : Words) (w : Contents) (base back : ℕ)
    (now : At program well frames fit code formed addresses pages calls few (instruction_line program frames c.active.function c.active.next) c.output c.input r w run)
    (s : Standing program frames addresses pages calls c r w base back (stage_of frames c) c.active.slots)
    (caches : Caches program frames c.active.function c.active.next r c.active.slots) where
  abbrev here : ℕ
  here = instruction_line program frames c.active.function c.active.next

  abbrev frame : Frame
  frame = frame_at frames c.active.function

  abbrev slots : ℕ
  slots = (routine_at program c.active.function).slots

  abbrev Safe : List Instr → (r : Words) (w : Contents) → Type 0
  Safe is r w = AreSafe globals_length (words_per_call * calls) is r w

  abbrev Goes : (least lo hi : ℕ) → State → Type 0
  Goes least lo hi t = Walk code formed addresses globals_length (words_per_call * calls) least lo hi c.output (After program pages calls c) (Reached program well frames fit code formed addresses pages calls few c) t

  cell : (slot : ℕ) → slot < slots → IsCell globals_length (words_per_call * calls) (memory_address (r FRAME) (slot_offset frame slot))
  cell slot below = slot_cell program well frames fit addresses pages calls few c r w base back (stage_of frames c) c.active.slots s slot below

  pub homes_right : AreHomes program (routine_at program c.active.function) (frame_at frames c.active.function).saved (frame_at frames c.active.function).homes
  homes_right = fit.homes c.active.function s.known

  pub made_in_scratch : (slot : ℕ) → IsScratch globals_length (words_per_call * calls) (made_in (frame_at frames c.active.function) slot % 32)
  made_in_scratch slot = made_scratch globals_length (words_per_call * calls) program (routine_at program c.active.function) frame homes_right slot

  -- ---- operands

  abbrev word_of : Operand → ℕ
  word_of o = operand_word c.active.slots o

  abbrev IsAt : Instruction → Type 0
  IsAt i = instruction_at program (states.place_of (states.Running c)) ≡ Some i

  abbrev IsThere : Operand → Type 0
  IsThere o = IsOperand (routine_at program c.active.function) o × IsOfWord o

  abbrev Held : Operand → Type 0
  Held o = IsHeld globals_length (words_per_call * calls) frame (r FRAME) w r c.active.slots o

  -- `Uses` says that an instruction reads the slot that an operand names, if the operand is a slot.
  abbrev Uses : Instruction → Operand → Type 0
  Uses i o = (slot : ℕ) → is_slot o slot ≡ true → reads (routine_at program c.active.function).results i slot ≡ true

  pub held : (i : Instruction) → IsAt i → (o : Operand) → Uses i o → IsThere o → Held o
  held i at_i o used there = operand_held program well frames fit code formed addresses pages calls few c run r w base back now s caches i at_i o used there

  pub is_word : (o : Operand) → Held o → IsWord (word_of o)
  is_word o there = operand_is_word program well frames fit code formed addresses pages calls few c run r w base back now s caches o there

  -- If an operand of a two-operand instruction is a slot, the instruction reads this slot.
  pub left_used : (left right : Operand) (slot : ℕ) → is_slot left slot ≡ true → (is_slot left slot || is_slot right slot) ≡ true
  left_used left right slot is = or_left (is_slot left slot) (is_slot right slot) is

  pub right_used : (left right : Operand) (slot : ℕ) → is_slot right slot ≡ true → (is_slot left slot || is_slot right slot) ≡ true
  right_used left right slot is = or_right (is_slot left slot) (is_slot right slot) is

  abbrev KeepsHere : List Instr → Type 0
  KeepsHere is = Keeps globals_length (words_per_call * calls) is r w FIRST

  -- `IsFree` says that an instruction makes no call of the store (the heap of regions).
  abbrev IsFree : Instruction → Type 0
  IsFree i = calls_nothing i ≡ true

  -- `IsCounted` says that the MIPS lines counted for an instruction are all lines of its code, not 0 as for an
  -- instruction without machine code.
  abbrev pub IsCounted : Instruction → Type 0
  IsCounted i = count_of program frames c.active.function c.active.next i ≡ body_count program frames c.active.function i

  -- `Gets` says that an instruction writes exactly the slot `destination` and passes control to the next instruction.
  abbrev Gets : Instruction → (destination : ℕ) → Type 0
  Gets i destination =
      ((slot : ℕ) → slot ≢ destination → writes program i slot ≡ false) × (writes program i destination ≡ true) × (leads i c.active.next (c.active.next + 1) ≡ true)

  pub gets : (destination : ℕ) → ((slot : ℕ) → slot ≢ destination → (destination == slot) ≡ false) × ((destination == destination) ≡ true) × ((suc c.active.next == c.active.next + 1) ≡ true)
  gets destination = (λ slot other. eqb_other destination slot other, eqb_itself destination, eqb_next c.active.next)

  -- `Agrees` says that registers are as before the instruction, except temporaries and at most one slot's register.
  pub record Agrees (but : ℕ) (q : Words) : Type 0 where
    pub zero_same : q 0 ≡ r 0
    pub base_same : q FRAME ≡ r FRAME
    pub lowest_same : q LOWEST ≡ r LOWEST
    pub back_same : q RETURN_ADDRESS ≡ r RETURN_ADDRESS
    pub lasts_same : lasting q ≡ lasting r
    pub values_same : AreSame but q r

  pub agrees_itself : (but : ℕ) → Agrees but r
  agrees_itself but = record { zero_same = refl; base_same = refl; lowest_same = refl; back_same = refl; lasts_same = refl; values_same = λ n low high other. refl }

  pub kept_agrees : (is : List Instr) → KeepsHere is → Agrees FIRST (after_r is r w)
  kept_agrees is keeps =
      record { zero_same = keeps.zero; base_same = keeps.base; lowest_same = keeps.lowest; back_same = keeps.back; lasts_same = keeps.lasts; values_same = keeps.values }

  pub but_any : (but : ℕ) (q : Words) → Agrees FIRST q → Agrees but q
  but_any but q agrees = record {
    zero_same = agrees.zero_same;
    base_same = agrees.base_same;
    lowest_same = agrees.lowest_same;
    back_same = agrees.back_same;
    lasts_same = agrees.lasts_same;
    values_same = λ n low high other. all_same q r agrees.values_same n low high;
  }

  -- Stores a register in the slot's word of the frame, if the slot's home includes memory.
  abbrev stored : Bool → (register destination : ℕ) → List Instr
  stored b register destination = if b then store_slot frame register destination ∷ [] else []

  abbrev held_there : Bool → (destination word : ℕ) → Contents
  held_there b destination word = if b then written w (memory_address (r FRAME) (slot_offset frame destination)) word else w

  stored_registers : (b : Bool) (register destination : ℕ) (q : Words) (m : Contents) → after_r (stored b register destination) q m ≡ q
  stored_registers true register destination q m = refl
  stored_registers false register destination q m = refl

  stored_memory : (b : Bool) (register destination word : ℕ) (q : Words) (m : Contents) → m ≡ w → q FRAME ≡ r FRAME → q (register % 32) ≡ word
      → after_w (stored b register destination) q m ≡ held_there b destination word
  stored_memory true register destination word q m memory base_same result =
      ap (λ (x : Contents). written x (memory_address (q FRAME) (slot_offset frame destination)) (q (register % 32))) memory
      ∙ (ap (λ (x : ℕ). written w (memory_address x (slot_offset frame destination)) (q (register % 32))) base_same
      ∙ ap (written w (memory_address (r FRAME) (slot_offset frame destination))) result)
  stored_memory false register destination word q m memory base_same result = memory

  stored_safe : (b : Bool) (register destination : ℕ) (q : Words) (m : Contents) → q FRAME ≡ r FRAME → destination < slots → Safe (stored b register destination) q m
  stored_safe true register destination q m base_same below =
      (subst (λ (x : ℕ). IsCell globals_length (words_per_call * calls) (memory_address x (slot_offset frame destination))) (sym base_same) (cell destination below), tt)
  stored_safe false register destination q m base_same below = tt

  stored_length : (b : Bool) (register destination : ℕ) → length (stored b register destination) ≡ (if b then 1 else 0)
  stored_length true register destination = refl
  stored_length false register destination = refl

  -- A block that computes a word in a register, and stores it if the slot's home includes memory, simulates a plain instruction
  -- that writes the word. If the slot has a register, the block computes the word in this register.
  gives_from : (i : Instruction) → IsAt i → IsFree i → (destination word : ℕ) (input : List ℕ) → Gets i destination → destination < slots → performed program zeros c i ≡ gives (record c { input = input }) destination word
      → AllByRecursion IsWord input → (line count : ℕ) (q : Words) (d : labelled.Configuration) → At program well frames fit code formed addresses pages calls few line c.output input q w d
      → (is : List Instr) (register but : ℕ) → Agrees but q → Keeps globals_length (words_per_call * calls) is q w but → after_r is q w (register % 32) ≡ word
      → ((k : ℕ) → value_register frame destination ≡ Some k → after_r is q w k ≡ word)
      → ((n : ℕ) → 6 ≤ n → n < 24 → (value_register frame destination ≡ Some n → ⊥) → n ≢ but)
      → line + (length is + keep_count frame destination) ≡ here + count → count_of program frames c.active.function c.active.next i ≡ count
      → Stands code line (ordinary (is ++ stored (is_kept frame destination) register destination))
      → Goes (length is + keep_count frame destination) line (here + count) (Running d)
  gives_from i at_i free destination word input (unwritten, written_there, led) below does fine line count q d now_d is register but agrees keeps result cached aside long counted stands =
      let b : Bool = is_kept frame destination in
      let store : List Instr = stored (is_kept frame destination) register destination in
      let all : List Instr = is ++ store in
      let enough : length (is ++ store) ≡ length is + keep_count frame destination = omega (arith, length-append is store, stored_length b register destination) in
      let registers : after_r (is ++ store) q w ≡ after_r is q w = after_r-append is store q w ∙ stored_registers b register destination (after_r is q w) (after_w is q w) in
      let same : (n : ℕ) → after_r (is ++ store) q w n ≡ after_r is q w n = λ n. ap (λ (p : Words). p n) registers in
      let puts : after_w (is ++ store) q w ≡ held_there (is_kept frame destination) destination word =
      after_w-append is store q w ∙ stored_memory b register destination word (after_r is q w) (after_w is q w) keeps.memory (keeps.base ∙ agrees.base_same) result in
      let safe = safe_append globals_length (words_per_call * calls) is store q w keeps.safe (stored_safe b register destination (after_r is q w) (after_w is q w) (keeps.base ∙ agrees.base_same) below) in
      walk_few code formed addresses globals_length (words_per_call * calls) (length is + keep_count frame destination) (length all + 0) line (here + count) c.output _ (Running d) (omega (arith, enough))
      (walk_block code formed addresses globals_length (words_per_call * calls) all 0 line line (here + count) c.output input _ q w d now_d stands safe (omega arith)
      (λ e later.
      walk_end code formed addresses globals_length (words_per_call * calls) (line + length all) (here + count) c.output _ (Running e) (omega (arith, enough, long))
      (reached_gives program well frames fit code formed addresses pages calls few c i at_i free r w base back s caches destination word input (line + length all) e (after_r all q w) (after_w all q w)
      below unwritten written_there led does fine (omega (arith, enough, counted, long)) (same 0 ∙ (keeps.zero ∙ agrees.zero_same)) (same FRAME ∙ (keeps.base ∙ agrees.base_same)) (same LOWEST ∙ (keeps.lowest ∙ agrees.lowest_same))
      (same RETURN_ADDRESS ∙ (keeps.back ∙ agrees.back_same)) (ap lasting registers ∙ (keeps.lasts ∙ agrees.lasts_same))
      (λ k has. same k ∙ cached k has)
      (λ n low high other. same n ∙ (keeps.values n low high (aside n low high other) ∙ agrees.values_same n low high (aside n low high other)))
      puts later)))

  -- If a slot has a register, its word is computed in this register.
  made_here : (destination k : ℕ) → value_register frame destination ≡ Some k → k ≡ made_in frame destination % 32
  made_here destination k has =
      let high = homes_right.high destination k has in
      omega (arith, made_in_is frame destination k has, high)

  made_aside : (destination n : ℕ) → 6 ≤ n → n < 24 → (value_register frame destination ≡ Some n → ⊥) → n ≢ made_in frame destination % 32
  made_aside destination n low high other = go (value_register frame destination) refl
    where
      go : (o : Option ℕ) → value_register frame destination ≡ o → n ≢ or_else o FIRST % 32
      go None none e = absurd (omega (arith, e, high))
      go (Some k) has e = other (has ∙ ap Some (let f : k ≡ n = omega (arith, e, homes_right.high destination k has) in f))

  pub gives_made : (i : Instruction) → IsAt i → IsFree i → (destination word : ℕ) (input : List ℕ) → Gets i destination → destination < slots → performed program zeros c i ≡ gives (record c { input = input }) destination word
      → AllByRecursion IsWord input → (line count : ℕ) (q : Words) (d : labelled.Configuration) → At program well frames fit code formed addresses pages calls few line c.output input q w d
      → (is : List Instr) → Agrees (made_in frame destination % 32) q → Keeps globals_length (words_per_call * calls) is q w (made_in frame destination % 32) → after_r is q w (made_in frame destination % 32) ≡ word
      → line + (length is + keep_count frame destination) ≡ here + count → count_of program frames c.active.function c.active.next i ≡ count
      → Stands code line (ordinary (is ++ keep_code frame destination))
      → Goes (length is + keep_count frame destination) line (here + count) (Running d)
  gives_made i at_i free destination word input given below does fine line count q d now_d is agrees keeps result long counted stands =
      gives_from i at_i free destination word input given below does fine line count q d now_d is (made_in frame destination) (made_in frame destination % 32) agrees keeps result
      (λ k has. ap (after_r is q w) (made_here destination k has) ∙ result) (made_aside destination) long counted stands

  -- The labelled machine (MIPS lines) simulates an instruction that writes a computed word, from the instruction's first line on.
  pub gives_by : (i : Instruction) → IsAt i → IsFree i → (is : List Instr) (destination word count : ℕ) → 0 < length is → Keeps globals_length (words_per_call * calls) is r w (made_in frame destination % 32) → after_r is r w (made_in frame destination % 32) ≡ word
      → Gets i destination → destination < slots → performed program zeros c i ≡ gives c destination word → length is + keep_count frame destination ≡ count → count_of program frames c.active.function c.active.next i ≡ count
      → Stands code here (ordinary (is ++ keep_code frame destination)) → Goes 1 here (here + count) (Running run)
  gives_by i at_i free is destination word count some keeps result given below does long counted stands =
      walk_few code formed addresses globals_length (words_per_call * calls) 1 (length is + keep_count frame destination) here (here + count) c.output _ (Running run) (omega (arith, some))
      (gives_made i at_i free destination word c.input given below does s.input here count r run now is (agrees_itself (made_in frame destination % 32)) keeps result (omega (arith, long)) counted stands)

  -- The labelled machine (MIPS lines) simulates an instruction that writes a register's word to a slot.
  pub gives_register : (i : Instruction) → IsAt i → IsFree i → (destination word : ℕ) (input : List ℕ) → Gets i destination → destination < slots → performed program zeros c i ≡ gives (record c { input = input }) destination word
      → AllByRecursion IsWord input → (line count source : ℕ) (q : Words) (d : labelled.Configuration) → At program well frames fit code formed addresses pages calls few line c.output input q w d → Agrees FIRST q
      → q (source % 32) ≡ word → IsWord word
      → line + give_count frame destination ≡ here + count → count_of program frames c.active.function c.active.next i ≡ count
      → Stands code line (ordinary (give_code frame source destination))
      → Goes 1 line (here + count) (Running d)
  gives_register i at_i free destination word input given below does fine line count source q d now_d agrees is fits long counted stands = go (value_register frame destination) refl long stands
    where
      nothing : Keeps globals_length (words_per_call * calls) [] q w FIRST
      nothing = record { safe = tt; memory = refl; zero = refl; base = refl; lowest = refl; back = refl; lasts = refl; values = λ n low high other. refl }

      zero_is : q 0 ≡ 0
      zero_is = agrees.zero_same ∙ s.zero_is

      go : (o : Option ℕ) → value_register frame destination ≡ o → line + give_count_to o frame destination ≡ here + count → Stands code line (ordinary (give_to o frame source destination)) → Goes 1 line (here + count) (Running d)
      go None none far stands_here =
          let kept : is_kept frame destination ≡ true = memory_kept frame destination none in
          let one : keep_count frame destination ≡ 1 = ap (λ (b : Bool). if b then 1 else 0) kept in
          walk_few code formed addresses globals_length (words_per_call * calls) 1 (0 + keep_count frame destination) line (here + count) c.output _ (Running d) (omega (arith, one))
          (gives_from i at_i free destination word input given below does fine line count q d now_d [] source FIRST agrees nothing is
          (λ k has. absurd (let e : None ≡ Some k = sym none ∙ has in cc)) (λ n low high other e. absurd (omega (arith, e, high))) (omega (arith, far, one)) counted
          (subst (λ (b : Bool). Stands code line (ordinary (stored b source destination))) (sym kept) stands_here))
      go (Some k) has far stands_here =
          let low = homes_right.low destination k has in
          let high = homes_right.high destination k has in
          let here_is : k % 32 ≡ made_in frame destination % 32 = ap (λ (n : ℕ). n % 32) (sym (made_in_is frame destination k has)) in
          let puts : Puts globals_length (words_per_call * calls) (copy k source ∷ []) q w (made_in frame destination % 32) (made_in frame destination % 32) word =
          subst (λ (n : ℕ). Puts globals_length (words_per_call * calls) (copy k source ∷ []) q w n n word) here_is (record {
            safe = (ne_eqb (k % 32) 0 (λ e. absurd (omega (arith, e, low, high))), tt);
            memory = refl;
            result =
                put-same q (k % 32) (add_of (q (source % 32)) (q ZERO))
                ∙ (ap (add_of (q (source % 32))) zero_is ∙ (ap (λ (x : ℕ). add_of x 0) is ∙ (let e : add_of word 0 ≡ word = omega (arith, fits) in e)));
            others = λ n n_below other. put-other q (k % 32) n (add_of (q (source % 32)) (q ZERO)) other;
          }) in
          walk_few code formed addresses globals_length (words_per_call * calls) 1 (1 + keep_count frame destination) line (here + count) c.output _ (Running d) (omega arith)
          (gives_made i at_i free destination word input given below does fine line count q d now_d (copy k source ∷ []) (but_any (made_in frame destination % 32) q agrees)
          (puts_keeps globals_length (words_per_call * calls) (copy k source ∷ []) q w (made_in frame destination % 32) _ _ (made_in frame destination % 32) (made_in_scratch destination) (λ n n_low n_high other. other) puts) puts.result
          (omega (arith, far)) counted stands_here)

  -- ---- copies and operators

  pub move_goes : (destination : ℕ) (source : Operand) → IsAt (plain.Move destination source) → destination < slots → IsThere source → IsCounted (plain.Move destination source)
      → Stands code here (body program frames c.active.function here (plain.Move destination source)) → Goes 1 here (here + body_count program frames c.active.function (plain.Move destination source)) (Running run)
  move_goes destination source at_i below there all_counted stands = go (value_register frame destination) refl stands
    where
      source_held : Held source
      source_held = held (plain.Move destination source) at_i source (λ slot is. is) there

      go : (o : Option ℕ) → value_register frame destination ≡ o → Stands code here (ordinary (move_to o frame destination source)) → Goes 1 here (here + move_count frame destination source) (Running run)
      go None none stands_here =
          let is : List Instr = operand_code frame FIRST source in
          let puts = operand_puts globals_length (words_per_call * calls) frame (r FRAME) w r c.active.slots r w s.zero_is refl refl (λ n low high. refl) FIRST refl source source_held in
          let kept : is_kept frame destination ≡ true = memory_kept frame destination none in
          let one : keep_count frame destination ≡ 1 = ap (λ (b : Bool). if b then 1 else 0) kept in
          let counted : move_count frame destination source ≡ operand_count frame source + 1 = ap (λ (o : Option ℕ). move_count_to o frame destination source) none in
          walk_few code formed addresses globals_length (words_per_call * calls) 1 (length is + keep_count frame destination) here (here + move_count frame destination source) c.output _ (Running run) (omega (arith, one))
          (gives_from (plain.Move destination source) at_i refl destination (word_of source) c.input (gets destination) below refl s.input here (move_count frame destination source) r run now
          is (operand_register frame FIRST source) FIRST (agrees_itself FIRST)
          (puts_keeps globals_length (words_per_call * calls) is r w FIRST _ _ FIRST (first_scratch globals_length (words_per_call * calls)) (first_aside globals_length (words_per_call * calls) FIRST) puts) puts.result
          (λ k has. absurd (let e : None ≡ Some k = sym none ∙ has in cc)) (λ n low high other e. absurd (omega (arith, e, high)))
          (omega (arith, length_operand frame FIRST source, one, counted)) all_counted
          (subst (λ (b : Bool). Stands code here (ordinary (operand_code frame FIRST source ++ stored b (operand_register frame FIRST source) destination))) (sym kept) stands_here))
      go (Some k) has stands_here =
          let is : List Instr = load_code frame k source in
          let low = homes_right.low destination k has in
          let high = homes_right.high destination k has in
          let here_is : k % 32 ≡ made_in frame destination % 32 = ap (λ (n : ℕ). n % 32) (sym (made_in_is frame destination k has)) in
          let puts = subst (λ (n : ℕ). Puts globals_length (words_per_call * calls) (load_code frame k source) r w n n (word_of source)) here_is
          (load_puts globals_length (words_per_call * calls) frame (r FRAME) w r c.active.slots r w s.zero_is refl refl (λ n low high. refl) k (ne_eqb (k % 32) 0 (λ e. absurd (omega (arith, e, low, high)))) source source_held) in
          let counted : move_count frame destination source ≡ load_count source + keep_count frame destination = ap (λ (o : Option ℕ). move_count_to o frame destination source) has in
          gives_by (plain.Move destination source) at_i refl is destination (word_of source) (move_count frame destination source) (omega (arith, length_load frame k source, load_some source))
          (puts_keeps globals_length (words_per_call * calls) is r w (made_in frame destination % 32) _ _ (made_in frame destination % 32) (made_in_scratch destination) (λ n n_low n_high other. other) puts) puts.result
          (gets destination) below refl (omega (arith, length_load frame k source, counted)) all_counted stands_here

  -- The labelled machine (MIPS lines) simulates an instruction that writes the result of a plan (a sequence of machine
  -- operations) to a slot.
  plan_goes : (i : Instruction) → IsAt i → IsFree i → (plan : Plan) (destination word : ℕ) → Held plan.left × Held plan.right × IsComputable globals_length (words_per_call * calls) plan.operation (word_of plan.left) (word_of plan.right)
      → plan_word c.active.slots plan ≡ word → Gets i destination → destination < slots → performed program zeros c i ≡ gives c destination word → count_of program frames c.active.function c.active.next i ≡ plan_count frame plan destination
      → Stands code here (ordinary (plan_code frame plan destination)) → Goes 1 here (here + plan_count frame plan destination) (Running run)
  plan_goes i at_i free plan destination word (l, t, fine) is given below does counted stands =
      let target : ℕ = made_in frame destination in
      let leaves = plan_leaves globals_length (words_per_call * calls) frame (r FRAME) w r c.active.slots r w s.zero_is refl refl (λ n low high. refl) target (made_in_scratch destination) plan l t fine in
      gives_by i at_i free (computed_code frame target plan) destination word (plan_count frame plan destination) (omega (arith, length_computed frame target plan, operation_some plan.operation)) leaves.keeps (leaves.result ∙ is)
      given below does (omega (arith, length_computed frame target plan)) counted stands

  -- `IsPlanThere` says that registers or memory hold the operands of a plan (a sequence of machine operations), and the machine can
  -- compute its operation.
  abbrev IsPlanThere : Plan → Type 0
  IsPlanThere plan =
      Held plan.left × Held plan.right × IsComputable globals_length (words_per_call * calls) plan.operation (word_of plan.left) (word_of plan.right)

  pub zero_held : Held (operands.Word 0)
  zero_held = omega arith

  unary_there : (operator : UnaryOperator) (operand : Operand) → Held operand → IsPlanThere (unary_plan operator operand)
  unary_there = all_unary Held zero_held IsPlanThere (λ op left right outcome l t. (l, t, tt)) (λ op left half outcome fits l. (l, zero_held, tt))

  binary_there : (operator : BinaryOperator) (left right : Operand) → is_tested operator right ≡ false → Held left → Held right → IsPlanThere (binary_plan operator left right)
  binary_there =
      all_binary Held zero_held IsPlanThere (λ op left right outcome l t. (l, t, tt)) (λ op left half outcome fits l. (l, zero_held, tt))
      (λ op left right l t. (l, t, tt)) (λ op left right amount l. (l, zero_held, tt)) (λ left right l t. (l, t, tt))
      (λ from left right plain_divisor l t.
      let is = divisor_is c.active.slots right plain_divisor in
      (l, t, (is.0, λ least minus_one. is.1 minus_one)))

  pub unary_goes : (operator : UnaryOperator) (destination : ℕ) (operand : Operand) → IsAt (plain.Unary operator destination operand) → destination < slots → IsThere operand → IsCounted (plain.Unary operator destination operand)
      → Stands code here (body program frames c.active.function here (plain.Unary operator destination operand)) → Goes 1 here (here + body_count program frames c.active.function (plain.Unary operator destination operand)) (Running run)
  unary_goes operator destination operand at_i below there counted stands =
      let operand_there = held (plain.Unary operator destination operand) at_i operand (λ slot is. is) there in
      plan_goes (plain.Unary operator destination operand) at_i refl (unary_plan operator operand) destination (unary_result operator (word_of operand))
      (unary_there operator operand operand_there) (unary_word c.active.slots operand (is_word operand operand_there) operator) (gets destination) below refl counted stands

  -- The labelled machine (MIPS lines) simulates an operator computed by a plan (a sequence of machine operations), without a test
  -- of the divisor.
  pub binary_goes : (operator : BinaryOperator) (destination : ℕ) (left right : Operand) → IsAt (plain.Binary operator destination left right) → destination < slots → IsThere left → IsThere right
      → is_tested operator right ≡ false
      → performed program zeros c (plain.Binary operator destination left right) ≡ gives c destination (binary_result operator (word_of left) (word_of right))
      → count_of program frames c.active.function c.active.next (plain.Binary operator destination left right) ≡ plan_count frame (binary_plan operator left right) destination
      → Stands code here (ordinary (plan_code frame (binary_plan operator left right) destination)) → Goes 1 here (here + plan_count frame (binary_plan operator left right) destination) (Running run)
  binary_goes operator destination left right at_i below l t has_plan does counted stands =
      let left_held = held (plain.Binary operator destination left right) at_i left (left_used left right) l in
      let right_held = held (plain.Binary operator destination left right) at_i right (right_used left right) t in
      plan_goes (plain.Binary operator destination left right) at_i refl (binary_plan operator left right) destination (binary_result operator (word_of left) (word_of right))
      (binary_there operator left right has_plan left_held right_held) (binary_word c.active.slots left right (is_word left left_held) (is_word right right_held) operator) (gets destination) below does counted stands
