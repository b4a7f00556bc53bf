-- An idle instruction (one that needs no machine code) has no lines: the labelled machine does not step, and
-- its state already matches the plain state after the instruction.
use Rattle.std.proofs.Common.{◌≡◌, ◌≢◌, ℕ, zero, suc, ◌+◌, ◌-◌, ◌*◌, ◌<◌, ◌≤◌, Bool, true, false, List, length, Some, refl, sym, ap, subst, ◌∙◌, arith, inl, inr}
use Rattle.std.specs.Prelude.{◌⊎◌, ◌==◌, if◌then◌else◌}
use Rattle.std.proofs.lemmas.Bool.{cases_Bool, cases_eq, cond-false, eq-eqb, false≢true, or_left}
use Rattle.cyc_words.proofs.Items.{below_from_slice_get}
use Rattle.cyc_words.proofs.Lists.{slice_get_below}
use Rattle.cyc_words.proofs.Members.{All_at}
use Rattle.cyc_words.proofs.Numbers.{eqb_other, eqb_itself, eqb_next}
use Rattle.cyc_plain.specs.inside.Uses.{is_among, writes, leads}
use Rattle.cyc_machine_model.specs.State.{globals_length, words_per_call}
use Rattle.cyc_plain.specs.declared.instruction.Instruction.{Instruction}
use Rattle.cyc_plain.specs.declared.instruction.Instruction.TheVariants as plain
use Rattle.cyc_plain.specs.declared.instruction.BinaryOperator.{BinaryOperator}
use Rattle.cyc_plain.specs.declared.instruction.BinaryOperator.TheVariants as binary
use Rattle.cyc_plain.specs.declared.instruction.Comparison.{Comparison}
use Rattle.cyc_plain.specs.declared.instruction.Operand.{Operand}
use Rattle.cyc_plain.specs.declared.instruction.Operand.TheVariants as operands
use Rattle.cyc_plain.specs.inside.Operators.{unary_result, binary_result, has_no_result, compares}
use Rattle.cyc_plain.specs.inside.Program.{Program, routine_at}
use Rattle.cyc_plain.specs.inside.State as states
use Rattle.cyc_plain.specs.inside.State.{Words, put, copied, Configuration}
use Rattle.cyc_plain.specs.inside.Step.{at, with_slots, gives, instruction_at, operand_word, performed, is_within}
use Rattle.cyc_plain.specs.inside.WellFormed.{IsInRange, IsWellFormed}
use Rattle.cyc_plain.proofs.Placed.{routine_in}
use Rattle.cyc_plain.proofs.RunLaws.{zeros, calls_nothing, zeros_at, limit_free}
use Rattle.cyc_plain.proofs.SlotLaws.{put-same, put-other}
use Rattle.cyc_frame.specs.inside.Frame.{Frame}
use Rattle.cyc_registers.specs.declared.home.Home.TheVariants as homes
use Rattle.cyc_registers.specs.inside.Interference as homing
use Rattle.cyc_registers.specs.inside.Interference.{AreHomes}
use Rattle.cyc_registers.specs.inside.Idle.{AreIdleFrom, IsIdle, IsThere, IsUnused, NeverHolds, always_has_result, idle_at}
use Rattle.cyc_frame.specs.inside.Layout.{AreFrames, frame_at}
use Rattle.cyc_select.specs.inside.Labelled.{Labelled, IsFormed}
use Rattle.cyc_select.specs.inside.Machine.{State}
use Rattle.cyc_select.specs.inside.Slots.{value_register}
use Rattle.cyc_select.specs.inside.Hoisting.{is_idle}
use Rattle.cyc_select.specs.inside.Counts.{instruction_line, after_count, body_count}
use Rattle.cyc_select.proofs.effects.Walks.{now_at}
use Rattle.cyc_select.proofs.layout.Lines.{line_next}
use Rattle.cyc_select.proofs.relation.Matches.{Ready, Passed, steps_to, within}
use Rattle.cyc_select.proofs.relation.Standing.{Standing, stage_of, standing_at, standing_unkept, standing_unkept_words}
use Rattle.cyc_select.proofs.relation.Values.{Caches, caches_past, live_earlier}
use Rattle.cyc_registers.specs.inside.Liveness.{IsLiveAt}

module _ (program : Program) (well : IsWellFormed program) (frames : List Frame) (fit : AreFrames program frames) (code : Labelled) (formed : IsFormed code) (addresses : ℕ → ℕ) (pages calls : ℕ) (few : calls ≤ 4096)
    (c : Configuration) (t : State) (ready : Ready program well frames fit code formed addresses pages calls few c t) where
  abbrev IsAt : Instruction → Type 0
  IsAt i = instruction_at program (states.place_of (states.Running c)) ≡ Some i

  abbrev Passes : Type 0
  Passes = Passed program well frames fit code formed addresses pages calls few c t

  right : AreHomes program (routine_at program c.active.function) (frame_at frames c.active.function).saved (frame_at frames c.active.function).homes
  right = fit.homes c.active.function ready.standing.known

  -- An idle instruction (one that needs no machine code) has no line of its own, so the next instruction has the same line number.
  no_line : (index : ℕ) (i : Instruction) → instruction_at program (record { function = c.active.function; index = index }) ≡ Some i → is_idle (frame_at frames c.active.function) index i ≡ true
      → after_count program frames c.active.function i ≡ 0 → instruction_line program frames c.active.function index ≡ instruction_line program frames c.active.function (index + 1)
  no_line index i at_i idle none =
      let counted = ap (λ (b : Bool). (if b then 0 else body_count program frames c.active.function i) + after_count program frames c.active.function i) idle in
      omega (arith, line_next program frames c.active.function index i at_i, counted, none)

  -- Returns the plain configuration in which the active call is at instruction `to` and has the slots `slots'`.
  abbrev after_it : (to : ℕ) → Words → Configuration
  after_it to slots' = at (with_slots c slots') to

  passes_to : (to : ℕ) → c.active.next < to → (i : Instruction) → IsAt i → calls_nothing i ≡ true
      → instruction_line program frames c.active.function c.active.next ≡ instruction_line program frames c.active.function to
      → (slots' : Words) → performed program zeros c i ≡ states.Running (after_it to slots')
      → Standing program frames addresses pages calls c ready.r ready.w ready.base ready.back (stage_of frames c) slots'
      → Caches program frames c.active.function to ready.r slots'
      → Passes
  passes_to to further i at_i free line slots' does standing caches =
      let d : Configuration = after_it to slots' in
      let there = standing_at program well frames fit addresses pages calls few c ready.r ready.w ready.base ready.back (stage_of frames c) slots' standing d refl refl refl refl refl refl ready.standing.input in (
        states.Running d,
        steps_to program well frames fit code formed addresses pages calls few c zeros i (states.Running d) (zeros_at program c i at_i free) at_i does
            (ap (λ (n : ℕ). is_within pages n (states.Running d)) (limit_free i calls free) ∙ within program well frames fit code formed addresses pages calls few d ready.standing.laid.paged ready.standing.deep),
        inl (record {
          run = ready.run;
          r = ready.r;
          w = ready.w;
          base = ready.base;
          back = ready.back;
          is = ready.is;
          now = now_at code formed addresses globals_length (words_per_call * calls) (instruction_line program frames c.active.function c.active.next) (instruction_line program frames c.active.function to) c.output c.input ready.r ready.w ready.run line ready.now;
          standing = there;
          caches = caches;
        }),
        omega (arith, further, below_from_slice_get (routine_at program c.active.function).code c.active.next i at_i),
      )

  passes_with : (i : Instruction) → IsAt i → calls_nothing i ≡ true → is_idle (frame_at frames c.active.function) c.active.next i ≡ true → after_count program frames c.active.function i ≡ 0
      → (slots' : Words) → performed program zeros c i ≡ states.Running (after_it (c.active.next + 1) slots')
      → Standing program frames addresses pages calls c ready.r ready.w ready.base ready.back (stage_of frames c) slots'
      → Caches program frames c.active.function (c.active.next + 1) ready.r slots'
      → Passes
  passes_with i at_i free idle none = passes_to (c.active.next + 1) (omega arith) i at_i free (no_line c.active.next i at_i idle none)

  -- If an instruction without machine code writes only a slot that is not live, then the machine's state, which does
  -- not change, also matches the plain program's state after the instruction.
  passes_unused : (i : Instruction) → IsAt i → calls_nothing i ≡ true → is_idle (frame_at frames c.active.function) c.active.next i ≡ true → after_count program frames c.active.function i ≡ 0
      → (destination word : ℕ) → IsUnused program (routine_at program c.active.function) (frame_at frames c.active.function).homes c.active.next destination
      → ((slot : ℕ) → slot ≢ destination → writes program i slot ≡ false) → leads i c.active.next (c.active.next + 1) ≡ true
      → performed program zeros c i ≡ gives c destination word
      → Passes
  passes_unused i at_i free idle none destination word (unkept, unwanted) unwritten led does =
      passes_with i at_i free idle none (put c.active.slots destination word) does
      (standing_unkept program well frames fit addresses pages calls few c ready.r ready.w ready.base ready.back (stage_of frames c) c.active.slots ready.standing destination word unkept)
      (λ slot k has wanted. elim (cases_eq slot destination) [
        | inl same ↦
            absurd (unwanted (subst (λ (n : ℕ). IsLiveAt program (routine_at program c.active.function) n (suc c.active.next)) same
            (subst (IsLiveAt program (routine_at program c.active.function) slot) (let e : c.active.next + 1 ≡ suc c.active.next = omega arith in e) wanted)))
        | inr other ↦
            ready.caches slot k has (live_earlier program frames c.active.function right c.active.next (c.active.next + 1) slot i at_i led (unwritten slot other) wanted)
            ∙ sym (put-other c.active.slots destination slot word other)
      ])

  -- If a move of several words has no machine code and writes only slots that are not live, the machine's state stays
  -- unchanged. The unchanged state of the machine then also matches the plain program's state after the move.
  passes_unused_words : (destination source count : ℕ) → IsAt (plain.MoveWords destination source count) → is_idle (frame_at frames c.active.function) c.active.next (plain.MoveWords destination source count) ≡ true
      → ((slot : ℕ) → is_among destination count slot ≡ true → IsUnused program (routine_at program c.active.function) (frame_at frames c.active.function).homes c.active.next slot)
      → Passes
  passes_unused_words destination source count at_i idle unused =
      passes_with (plain.MoveWords destination source count) at_i refl idle refl (copied c.active.slots source count c.active.slots destination) refl
      (standing_unkept_words program well frames fit addresses pages calls few c ready.r ready.w ready.base ready.back (stage_of frames c) c.active.slots ready.standing
      (copied c.active.slots source count c.active.slots destination)
      (λ slot kept. elim (cases_Bool (is_among destination count slot)) [
        | inl among ↦ absurd (let e : true ≡ false = sym kept ∙ (unused slot among).0 in cc)
        | inr other ↦ unmoved slot other
      ]))
      (λ slot k has wanted. elim (cases_Bool (is_among destination count slot)) [
        | inl among ↦
            absurd ((unused slot among).1
            (subst (IsLiveAt program (routine_at program c.active.function) slot) (let e : c.active.next + 1 ≡ suc c.active.next = omega arith in e) wanted))
        | inr other ↦
            ready.caches slot k has
            (live_earlier program frames c.active.function right c.active.next (c.active.next + 1) slot (plain.MoveWords destination source count) at_i (eqb_next c.active.next) other wanted)
            ∙ sym (unmoved slot other)
      ])
    where
      unmoved : (slot : ℕ) → is_among destination count slot ≡ false → copied c.active.slots source count c.active.slots destination slot ≡ c.active.slots slot
      unmoved slot other =
          cond-false (is_among destination count slot) (c.active.slots (source + (slot - destination))) (c.active.slots slot) other

  -- If an instruction without machine code changes no slot, then the machine's state, which does not change, also matches the plain
  -- program's state after the instruction.
  passes_same : (i : Instruction) → IsAt i → calls_nothing i ≡ true → is_idle (frame_at frames c.active.function) c.active.next i ≡ true → after_count program frames c.active.function i ≡ 0
      → ((slot : ℕ) → writes program i slot ≡ false) → leads i c.active.next (c.active.next + 1) ≡ true
      → performed program zeros c i ≡ states.Running (at c (c.active.next + 1))
      → Passes
  passes_same i at_i free idle none unwritten led does =
      passes_with i at_i free idle none c.active.slots does ready.standing
      (caches_past program frames c.active.function right c.active.next (c.active.next + 1) ready.r ready.r c.active.slots c.active.slots i at_i led
      (λ slot k has. unwritten slot) (λ slot k has. refl) (λ n low high. refl) ready.caches)

  -- Writing to a slot the word that it already contains changes no slot.
  own_word : (destination slot : ℕ) → put c.active.slots destination (c.active.slots destination) slot ≡ c.active.slots slot
  own_word destination slot = elim (cases_eq slot destination) [
    | inl same ↦ ap (put c.active.slots destination (c.active.slots destination)) same ∙ (put-same c.active.slots destination (c.active.slots destination) ∙ ap c.active.slots (sym same))
    | inr other ↦ put-other c.active.slots destination slot (c.active.slots destination) other
  ]

  own_words : (destination : ℕ) → put c.active.slots destination (c.active.slots destination) ≡ c.active.slots
  own_words destination = λ i slot. own_word destination slot i

  passes_itself : (destination : ℕ) → IsAt (plain.Move destination (operands.Slot destination)) → is_idle (frame_at frames c.active.function) c.active.next (plain.Move destination (operands.Slot destination)) ≡ true → Passes
  passes_itself destination at_i idle =
      passes_with (plain.Move destination (operands.Slot destination)) at_i refl idle refl c.active.slots
      (ap (λ (x : Words). states.Running (after_it (c.active.next + 1) x)) (own_words destination)) ready.standing
      (λ slot k has wanted. elim (cases_eq slot destination) [
        | inl same ↦ ready.caches slot k has (0, (plain.Move destination (operands.Slot destination), at_i, eq-eqb destination slot (sym same)))
        | inr other ↦
            ready.caches slot k has
            (live_earlier program frames c.active.function right c.active.next (c.active.next + 1) slot (plain.Move destination (operands.Slot destination)) at_i (eqb_next c.active.next) (eqb_other destination slot other) wanted)
      ])

  -- If a move copies a word to a slot whose register already holds this word, then the machine's state, which does not change, also
  -- matches the plain program's state after the move.
  passes_there : (destination number register : ℕ) → IsAt (plain.Move destination (operands.Slot number)) → is_idle (frame_at frames c.active.function) c.active.next (plain.Move destination (operands.Slot number)) ≡ true
      → homing.home_of (frame_at frames c.active.function).homes destination ≡ homes.Register register → value_register (frame_at frames c.active.function) number ≡ Some register → Passes
  passes_there destination number register at_i idle home has =
      passes_with (plain.Move destination (operands.Slot number)) at_i refl idle refl (put c.active.slots destination (c.active.slots number)) refl
      (standing_unkept program well frames fit addresses pages calls few c ready.r ready.w ready.base ready.back (stage_of frames c) c.active.slots ready.standing destination (c.active.slots number) (ap homing.is_kept home))
      (λ slot k slot_has wanted. elim (cases_eq slot destination) [
        | inl same ↦
            let own : Some register ≡ Some k = sym (ap homing.register_of home) ∙ (ap (value_register (frame_at frames c.active.function)) (sym same) ∙ slot_has) in
            ready.caches number k (has ∙ own) (0, (plain.Move destination (operands.Slot number), at_i, eqb_itself number))
            ∙ sym (ap (put c.active.slots destination (c.active.slots number)) same ∙ put-same c.active.slots destination (c.active.slots number))
        | inr other ↦
            ready.caches slot k slot_has
            (live_earlier program frames c.active.function right c.active.next (c.active.next + 1) slot (plain.Move destination (operands.Slot number)) at_i (eqb_next c.active.next) (eqb_other destination slot other) wanted)
            ∙ sym (put-other c.active.slots destination slot (c.active.slots number) other)
      ])

  has_result : (operator : BinaryOperator) (b : ℕ) → always_has_result operator ≡ true → has_no_result operator b ≡ false
  has_result binary.Divide b always = absurd (false≢true always)
  has_result binary.Remainder b always = absurd (false≢true always)
  has_result operator b always = refl

  never_holds : (comparison : Comparison) (left right_operand : Operand) → NeverHolds comparison left right_operand → compares comparison (operand_word c.active.slots left) (operand_word c.active.slots right_operand) ≡ false
  never_holds comparison (operands.Word left) (operands.Word other) never = never
  never_holds comparison (operands.Slot left) other never = absurd never
  never_holds comparison (operands.Word left) (operands.Slot other) never = absurd never

  -- If the frame marks an instruction as needing no machine code, the instruction's form permits this. An instruction so marked has
  -- no MIPS lines that are executed after a call returns.
  idle_kind : (index : ℕ) (i : Instruction) → instruction_at program (record { function = c.active.function; index = index }) ≡ Some i → idle_at (frame_at frames c.active.function).idle index ≡ true
      → (is_idle (frame_at frames c.active.function) index i ≡ true) × (after_count program frames c.active.function i ≡ 0)
  idle_kind index i at_i is = go i (fit.idle c.active.function ready.standing.known index i at_i is)
    where
      go : (j : Instruction) → IsIdle program (routine_at program c.active.function) (frame_at frames c.active.function).homes (frame_at frames c.active.function).idle index j
          → (is_idle (frame_at frames c.active.function) index j ≡ true) × (after_count program frames c.active.function j ≡ 0)
      go (plain.Move destination source) idle = (is, refl)
      go (plain.MoveWords destination source count) idle = (is, refl)
      go (plain.Unary operator destination operand) idle = (is, refl)
      go (plain.Binary operator destination left right_operand) idle = (is, refl)
      go (plain.Jump target) idle = (is, refl)
      go (plain.Branch comparison left right_operand target) idle = (is, refl)
      go j idle = absurd idle

  -- Consecutive idle instructions (ones that need no machine code) have no lines, so the instruction after them has
  -- the first one's line number.
  no_lines : (first count : ℕ) → first + count ≤ length (routine_at program c.active.function).code → AreIdleFrom (frame_at frames c.active.function).idle first (first + count)
      → instruction_line program frames c.active.function first ≡ instruction_line program frames c.active.function (first + count)
  no_lines first zero inside idle = let e : first ≡ first + 0 = omega arith in ap (instruction_line program frames c.active.function) e
  no_lines first (suc count) inside idle =
      let (i, at_i) = slice_get_below (routine_at program c.active.function).code (first + count) (omega (arith, inside)) in
      let (flagged, none) = idle_kind (first + count) i at_i (idle (first + count) (omega arith) (omega arith)) in
      let next : first + count + 1 ≡ first + suc count = omega arith in
      no_lines first count (omega (arith, inside)) (λ k low high. idle k low (omega (arith, high)))
      ∙ (no_line (first + count) i at_i flagged none ∙ ap (instruction_line program frames c.active.function) next)

  jumps_over : (target : ℕ) → IsAt (plain.Jump target) → suc c.active.next ≤ target → AreIdleFrom (frame_at frames c.active.function).idle (suc c.active.next) target
      → is_idle (frame_at frames c.active.function) c.active.next (plain.Jump target) ≡ true → Passes
  jumps_over target there further over is =
      let inside : target < length (routine_at program c.active.function).code = target_inside in
      let count : ℕ = target - suc c.active.next in
      let first : c.active.next + 1 ≡ suc c.active.next = omega arith in
      let last : suc c.active.next + (target - suc c.active.next) ≡ target = omega (arith, further) in
      let line =
      no_line c.active.next (plain.Jump target) there is refl
      ∙ (ap (instruction_line program frames c.active.function) first
      ∙ (no_lines (suc c.active.next) count (omega (arith, inside, last)) (subst (AreIdleFrom (frame_at frames c.active.function).idle (suc c.active.next)) (sym last) over)
      ∙ ap (instruction_line program frames c.active.function) last)) in
      passes_to target further (plain.Jump target) there refl line c.active.slots refl ready.standing
      (caches_past program frames c.active.function right c.active.next target ready.r ready.r c.active.slots c.active.slots (plain.Jump target) there (eqb_itself target)
      (λ slot k has. refl) (λ slot k has. refl) (λ n low high. refl) ready.caches)
    where
      target_inside : target < length (routine_at program c.active.function).code
      target_inside = All_at (IsInRange program (routine_at program c.active.function)) (routine_at program c.active.function).code c.active.next (plain.Jump target)
          (routine_in program c.active.function well ready.standing.known).instructions there

  either_next : (b : Bool) (target : ℕ) → target ≡ suc c.active.next → (if b then target else c.active.next + 1) ≡ c.active.next + 1
  either_next true target is = omega (arith, is)
  either_next false target is = refl

  pub passes : (i : Instruction) → IsAt i → is_idle (frame_at frames c.active.function) c.active.next i ≡ true → Passes
  passes i at_i idle = go i at_i idle
    where
      idle_is : (j : Instruction) → IsAt j → idle_at (frame_at frames c.active.function).idle c.active.next ≡ true → IsIdle program (routine_at program c.active.function) (frame_at frames c.active.function).homes (frame_at frames c.active.function).idle c.active.next j
      idle_is j there is = fit.idle c.active.function ready.standing.known c.active.next j there is

      moves : (destination : ℕ) (source : Operand) → IsAt (plain.Move destination source) → is_idle (frame_at frames c.active.function) c.active.next (plain.Move destination source) ≡ true
          → (source ≡ operands.Slot destination) ⊎ (IsUnused program (routine_at program c.active.function) (frame_at frames c.active.function).homes c.active.next destination ⊎ IsThere (frame_at frames c.active.function).homes destination source) → Passes
      moves destination source there is (inl itself_moved) =
          passes_itself destination (subst (λ (o : Operand). IsAt (plain.Move destination o)) itself_moved there) is
      moves destination (operands.Slot number) there is (inr (inr (register, home, has))) = passes_there destination number register there is home has
      moves destination (operands.Word word) there is (inr (inr found)) = absurd found
      moves destination source there is (inr (inl unused)) =
          passes_unused (plain.Move destination source) there refl is refl destination (operand_word c.active.slots source) unused (λ slot other. eqb_other destination slot other) (eqb_next c.active.next) refl

      branches : (comparison : Comparison) (left other : Operand) (target : ℕ) → IsAt (plain.Branch comparison left other target) → is_idle (frame_at frames c.active.function) c.active.next (plain.Branch comparison left other target) ≡ true
          → (target ≡ suc c.active.next) ⊎ NeverHolds comparison left other → Passes
      branches comparison left other target there is (inl next) =
          passes_same (plain.Branch comparison left other target) there refl is refl (λ slot. refl) (or_left (suc c.active.next == c.active.next + 1) (target == c.active.next + 1) (eqb_next c.active.next))
          (ap (λ (n : ℕ). states.Running (at c n)) (either_next (compares comparison (operand_word c.active.slots left) (operand_word c.active.slots other)) target next))
      branches comparison left other target there is (inr never) =
          passes_same (plain.Branch comparison left other target) there refl is refl (λ slot. refl) (or_left (suc c.active.next == c.active.next + 1) (target == c.active.next + 1) (eqb_next c.active.next))
          (ap (λ (b : Bool). states.Running (at c (if b then target else c.active.next + 1))) (never_holds comparison left other never))

      go : (j : Instruction) → IsAt j → is_idle (frame_at frames c.active.function) c.active.next j ≡ true → Passes
      go (plain.Move destination source) there is = moves destination source there is (idle_is (plain.Move destination source) there is)
      go (plain.MoveWords destination source count) there is =
          passes_unused_words destination source count there is (idle_is (plain.MoveWords destination source count) there is)
      go (plain.Unary operator destination operand) there is =
          passes_unused (plain.Unary operator destination operand) there refl is refl destination (unary_result operator (operand_word c.active.slots operand)) (idle_is (plain.Unary operator destination operand) there is)
          (λ slot other. eqb_other destination slot other) (eqb_next c.active.next) refl
      go (plain.Binary operator destination left other) there is =
          let (always, unused) = idle_is (plain.Binary operator destination left other) there is in
          passes_unused (plain.Binary operator destination left other) there refl is refl destination (binary_result operator (operand_word c.active.slots left) (operand_word c.active.slots other)) unused
          (λ slot apart. eqb_other destination slot apart) (eqb_next c.active.next)
          (ap (λ (b : Bool). if b then states.Stuck c.output c.input else gives c destination (binary_result operator (operand_word c.active.slots left) (operand_word c.active.slots other)))
          (has_result operator (operand_word c.active.slots other) always))
      go (plain.Jump target) there is =
          let (further, over) = idle_is (plain.Jump target) there is in
          jumps_over target there further over is
      go (plain.Branch comparison left other target) there is = branches comparison left other target there is (idle_is (plain.Branch comparison left other target) there is)
      go j there is = absurd (false≢true is)
