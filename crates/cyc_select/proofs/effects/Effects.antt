-- An instruction that is no branch or jump and satisfies `IsSafe` does not trap, and changes registers and memory as its definition says.
use Rattle.std.proofs.Common.{◌≡◌, ◌≢◌, ℕ, ◌+◌, ◌-◌, ◌%◌, ◌^◌, Bool, true, false, not, ◌&&◌, ◌||◌, List, [], ◌∷◌, drop, Option, None, Some, refl, sym, ap, subst, ◌∙◌, arith, inl, inr, ◌++◌}
use Rattle.std.specs.Prelude.{◌==◌, if◌then◌else◌, slice_get, unwrap_or, is_none}
use Rattle.std.proofs.lemmas.Bool.{cases_eq, eq-eqb, ne_eqb, or_from, and_left, and_right, not_from_true}
use Rattle.cyc_words.specs.Ending as ending
use Rattle.cyc_words.specs.Word.{signed}
use Rattle.cyc_words.specs.Bytes.{byte_in, with_byte, word_of}
use Rattle.cyc_isa.specs.declared.instr.Instr.{Instr}
use Rattle.cyc_isa.specs.declared.instr.Instr.TheVariants.{Immediate, LoadUpper, Memory, Branch, BranchZero, Jump, Shift, ShiftVariable, JumpRegister, JumpRegisterLink, Exception, MoveFrom, MultiplyDivide, Arithmetic}
use Rattle.cyc_isa.specs.declared.instr.MemoryOp.TheVariants.{LoadWord, StoreWord, LoadByte, StoreByte}
use Rattle.cyc_isa.specs.declared.instr.MoveFromOp.TheVariants.{High, Low}
use Rattle.cyc_isa.specs.declared.instr.MultiplyDivideOp.TheVariants.{Multiply, Divide}
use Rattle.cyc_isa.specs.declared.instr.ExceptionOp.TheVariants.{Syscall}
use Rattle.cyc_isa.specs.declared.operand.Register.{Register}
use Rattle.cyc_isa.specs.declared.operand.TrapCode.{TrapCode}
use Rattle.cyc_isa.specs.Effect.{immediate_result, load_upper_result, arithmetic_result, shift_result, high_result, low_result, memory_address}
use Rattle.cyc_store.specs.State.{StoreState, word_at}
use Rattle.cyc_store.specs.Services as services
use Rattle.cyc_store.specs.Services.{Call, Answer, refusal}
use Rattle.cyc_machine_model.specs.declared.event.Cause.TheVariants as causes
use Rattle.cyc_machine_model.specs.declared.event.End.TheVariants as ends
use Rattle.cyc_machine_model.specs.declared.event.Event.{Event}
use Rattle.cyc_machine_model.specs.declared.event.Event.TheVariants.{Ran, WantsByte, Puts, Ended}
use Rattle.cyc_machine_model.specs.declared.phase.Phase.TheVariants as phases
use Rattle.cyc_machine_model.specs.State as machines
use Rattle.cyc_machine_model.specs.State.{Place, with_register, place_of, is_dead, loaded, over}
use Rattle.cyc_machine_model.specs.Step.{Action, Does, Calls, Acts, Service, GetByte, PutByte, EndReturned, EndUncaught, EndFull, Asks, reported_by, answered, with_store, Serves, service_of, asked, calls, executes, after, cause_of, first_of, is_nowhere, is_text, is_aligned}
use Rattle.cyc_machine_model.specs.Run.{reported}
use Rattle.cyc_machine_model.proofs.StepLaws.{executes-performs}
use Rattle.cyc_plain.specs.inside.State.{Words, put}
use Rattle.cyc_plain.specs.declared.instruction.Request.{Request}
use Rattle.cyc_plain.specs.declared.instruction.Request.TheVariants as requests
use Rattle.cyc_select.specs.inside.Selection.{service_number}
use Rattle.cyc_select.specs.inside.Machine.{Configuration, State, Running, core_of, memory_of, machine_of, world_of, from_world, settled, Performs, word_in}
use Rattle.cyc_select.specs.inside.Machine as labelled
use Rattle.cyc_select.proofs.relation.Cells.{IsCell, IsLive, cell, place_of-data, place_of-stack}
use Rattle.cyc_select.proofs.effects.Views.{Contents, saved_in, View, Width, OneWord, OneByte, load_op, store_op, word_place, loaded_part, stored_word, answered_registers, does_r, does_w, IsSafe, IsWritable, moved, live_place, view_put, view_product, view_store, view_saved}

-- If the machine performs an instruction that neither reads input, prints nor ends the run, the machine is then in a
-- running state, at the next line.
performs_to : (c : Configuration) (i : Instr) (left : machines.State) (next : State) → executes (machine_of c) i ≡ Does Ran left → left.phase ≡ phases.Running
    → Performs c i next → next ≡ Running (from_world (record { machine = left; output = c.output; input = c.input }) (c.line + 1))
performs_to c i left next does running (event, s, acts, is) =
    let acted : Acts (Does Ran left) (machine_of c) event s = subst (λ (a : Action). Acts a (machine_of c) event s) does acts in
    is
    ∙ (ap (λ (e : Event). settled (reported (world_of c) e s) (c.line + 1) (reported (world_of c) e s).machine.phase) acted.0
    ∙ (ap (λ (t : machines.State). settled (reported (world_of c) Ran t) (c.line + 1) t.phase) acted.1
    ∙ ap (settled (reported (world_of c) Ran left) (c.line + 1)) running))

-- ---- division and memory, which may trap

no_cause : (a b c d f : Bool) → a ≡ false → b ≡ false → c ≡ false → d ≡ false → f ≡ false
    → first_of ((a, causes.Unpredictable) ∷ (b, causes.Misaligned) ∷ (c, causes.NoSuchAddress) ∷ (d, causes.DeadCell) ∷ (f, causes.WriteToText) ∷ (false, causes.Break) ∷ (false, causes.BadService) ∷ []) ≡ None
no_cause false false false false false ea eb ec ed ef = refl
no_cause true b c d f ea eb ec ed ef = absurd (let e : true ≡ false = ea in cc)
no_cause false true c d f ea eb ec ed ef = absurd (let e : true ≡ false = eb in cc)
no_cause false false true d f ea eb ec ed ef = absurd (let e : true ≡ false = ec in cc)
no_cause false false false true f ea eb ec ed ef = absurd (let e : true ≡ false = ed in cc)
no_cause false false false false true ea eb ec ed ef = absurd (let e : true ≡ false = ef in cc)

division_has_result : (a b : ℕ) → b ≢ 0 → (a ≡ 2 ^ 31 → b ≡ 2 ^ 32 - 1 → ⊥) → (b == 0 || (a == 2 ^ 31 && b == 2 ^ 32 - 1)) ≡ false
division_has_result a b nonzero least = or_from (b == 0) (a == 2 ^ 31 && b == 2 ^ 32 - 1) (ne_eqb b 0 nonzero) (elim (cases_eq a (2 ^ 31)) [
  | inl same ↦ and_right (a == 2 ^ 31) (b == 2 ^ 32 - 1) (ne_eqb b (2 ^ 32 - 1) (least same))
  | inr other ↦ and_left (a == 2 ^ 31) (b == 2 ^ 32 - 1) (ne_eqb a (2 ^ 31) other)
])

-- A load does not trap if its address is mapped. A store does not trap if its address is mapped and outside the text range.
module _ (c : Configuration) (base : Register) (offset : ℕ) where
  abbrev goes_to : Width → Place
  goes_to width = place_of (memory_of c) (word_place width (memory_address (word_in c base.number) offset))

  load_performs : (width : Width) (target : Register) (next : State) → not (is_aligned (word_place width (memory_address (word_in c base.number) offset))) ≡ false → is_nowhere (goes_to width) ≡ false → is_dead (memory_of c) (goes_to width) ≡ false
      → Performs c (Memory (load_op width) target base offset) next → next ≡ Running (moved c (Memory (load_op width) target base offset))
  load_performs OneWord target next aligned there live goes =
      let i : Instr = Memory LoadWord target base offset in
      performs_to c i (after (machine_of c) i) next (executes-performs (machine_of c) i (no_cause false _ _ _ false refl aligned there live refl)) refl goes
  load_performs OneByte target next aligned there live goes =
      let i : Instr = Memory LoadByte target base offset in
      performs_to c i (after (machine_of c) i) next (executes-performs (machine_of c) i (no_cause false _ _ _ false refl aligned there live refl)) refl goes

  store_performs : (width : Width) (source : Register) (next : State) → not (is_aligned (word_place width (memory_address (word_in c base.number) offset))) ≡ false → is_nowhere (goes_to width) ≡ false → is_dead (memory_of c) (goes_to width) ≡ false → is_text (goes_to width) ≡ false
      → Performs c (Memory (store_op width) source base offset) next → next ≡ Running (moved c (Memory (store_op width) source base offset))
  store_performs OneWord source next aligned there live apart goes =
      let i : Instr = Memory StoreWord source base offset in
      performs_to c i (after (machine_of c) i) next (executes-performs (machine_of c) i (no_cause false _ _ _ _ refl aligned there live apart)) refl goes
  store_performs OneByte source next aligned there live apart goes =
      let i : Instr = Memory StoreByte source base offset in
      performs_to c i (after (machine_of c) i) next (executes-performs (machine_of c) i (no_cause false _ _ _ _ refl aligned there live apart)) refl goes

-- The address of each word of the data range or the stack is mapped, not in freed memory and not in the text range.
module _ (globals stack : ℕ) (c : Configuration) (r : Words) (w : Contents) (view : View globals stack c r w) where
  stands : (a : ℕ) → IsCell globals stack a → (is_nowhere (place_of (memory_of c) a) ≡ false) × (is_dead (memory_of c) (place_of (memory_of c) a) ≡ false) × (is_text (place_of (memory_of c) a) ≡ false)
  stands a (inl (aligned, from, below)) =
      let there = place_of-data c.globals c.stack c.store a (aligned, from, omega (arith, below, view.data_words)) in
      (ap is_nowhere there, ap (is_dead (memory_of c)) there, ap is_text there)
  stands a (inr (aligned, from, below)) =
      let there = place_of-stack c.globals c.stack c.store a (omega (arith, view.data_words, view.few_globals)) (omega (arith, view.stack_words, view.few_stack)) (aligned, omega (arith, from, view.stack_words), below) in
      (ap is_nowhere there, ap (is_dead (memory_of c)) there, ap is_text there)

  aligned : (a : ℕ) → IsCell globals stack a → not (is_aligned a) ≡ false
  aligned a (inl (fine, from, below)) = not_from_true (is_aligned a) (eq-eqb (a % 4) 0 fine)
  aligned a (inr (fine, from, below)) = not_from_true (is_aligned a) (eq-eqb (a % 4) 0 fine)

  at_cell : (width : Width) (base : Register) (offset : ℕ) → IsCell globals stack (word_place width (memory_address (r base.number) offset)) → IsCell globals stack (word_place width (memory_address (word_in c base.number) offset))
  at_cell width base offset at = subst (λ (n : ℕ). IsCell globals stack (word_place width (memory_address n offset))) (sym (view.reg base.number base.in_range)) at

  same_address : (base : Register) (offset : ℕ) → memory_address (word_in c base.number) offset ≡ memory_address (r base.number) offset
  same_address base offset = ap (λ (n : ℕ). memory_address n offset) (view.reg base.number base.in_range)

  both : (a b : Register) (f : ℕ → ℕ → ℕ) → f (word_in c a.number) (word_in c b.number) ≡ f (r a.number) (r b.number)
  both a b f = ap (λ (n : ℕ). f n (word_in c b.number)) (view.reg a.number a.in_range) ∙ ap (f (r a.number)) (view.reg b.number b.in_range)

  load_performed : (width : Width) (target base : Register) (offset : ℕ) (next : State) → IsCell globals stack (word_place width (memory_address (r base.number) offset)) → Performs c (Memory (load_op width) target base offset) next
      → next ≡ Running (moved c (Memory (load_op width) target base offset))
  load_performed width target base offset next at goes =
      let a : ℕ = word_place width (memory_address (word_in c base.number) offset) in
      let there = stands a (at_cell width base offset at) in
      load_performs c base offset width target next (aligned a (at_cell width base offset at)) there.0 there.1 goes

  store_performed : (width : Width) (source base : Register) (offset : ℕ) (next : State) → IsCell globals stack (word_place width (memory_address (r base.number) offset)) → Performs c (Memory (store_op width) source base offset) next
      → next ≡ Running (moved c (Memory (store_op width) source base offset))
  store_performed width source base offset next at goes =
      let a : ℕ = word_place width (memory_address (word_in c base.number) offset) in
      let there = stands a (at_cell width base offset at) in
      store_performs c base offset width source next (aligned a (at_cell width base offset at)) there.0 there.1 there.2 goes

  -- After an instruction that satisfies `IsSafe` (it does not trap), the machine continues with the next line.
  pub performed : (i : Instr) (next : State) → IsSafe globals stack i r → Performs c i next → next ≡ Running (moved c i)
  performed (Immediate op target source half) next safe goes = performs_to c (Immediate op target source half) (after (machine_of c) (Immediate op target source half)) next refl refl goes
  performed (LoadUpper target half) next safe goes = performs_to c (LoadUpper target half) (after (machine_of c) (LoadUpper target half)) next refl refl goes
  performed (Memory LoadWord target base offset) next (writable, at) goes = load_performed OneWord target base offset next at goes
  performed (Memory StoreWord source base offset) next at goes = store_performed OneWord source base offset next at goes
  performed (Memory LoadByte target base offset) next (writable, at) goes = load_performed OneByte target base offset next at goes
  performed (Memory StoreByte source base offset) next at goes = store_performed OneByte source base offset next at goes
  performed (ShiftVariable op destination source by) next safe goes = performs_to c (ShiftVariable op destination source by) (after (machine_of c) (ShiftVariable op destination source by)) next refl refl goes
  performed (MoveFrom High destination) next safe goes = performs_to c (MoveFrom High destination) (after (machine_of c) (MoveFrom High destination)) next refl refl goes
  performed (MoveFrom Low destination) next safe goes = performs_to c (MoveFrom Low destination) (after (machine_of c) (MoveFrom Low destination)) next refl refl goes
  performed (MultiplyDivide Multiply left right) next safe goes = performs_to c (MultiplyDivide Multiply left right) (after (machine_of c) (MultiplyDivide Multiply left right)) next refl refl goes
  performed (MultiplyDivide Divide left right) next (nonzero, least) goes =
      let a = view.reg left.number left.in_range in
      let b = view.reg right.number right.in_range in
      let fine = executes-performs (machine_of c) (MultiplyDivide Divide left right)
      (no_cause _ false false false false (division_has_result (word_in c left.number) (word_in c right.number) (λ e. nonzero (sym b ∙ e)) (λ e f. least (sym a ∙ e) (sym b ∙ f))) refl refl refl refl) in
      performs_to c (MultiplyDivide Divide left right) (after (machine_of c) (MultiplyDivide Divide left right)) next fine refl goes
  performed (Arithmetic op destination left right) next safe goes = performs_to c (Arithmetic op destination left right) (after (machine_of c) (Arithmetic op destination left right)) next refl refl goes
  performed (Branch op left right offset) next safe goes = absurd safe
  performed (BranchZero op source offset) next safe goes = absurd safe
  performed (Jump op index) next safe goes = absurd safe
  performed (Shift op destination source amount) next safe goes = performs_to c (Shift op destination source amount) (after (machine_of c) (Shift op destination source amount)) next refl refl goes
  performed (JumpRegister source) next safe goes = absurd safe
  performed (JumpRegisterLink destination source) next safe goes = absurd safe
  performed (Exception op code) next safe goes = absurd safe

  -- After an instruction that satisfies `IsSafe` (it does not trap), the configuration has the registers and the memory that
  -- the instruction's definition computes.
  pub moved_view : (i : Instr) → IsSafe globals stack i r → View globals stack (moved c i) (does_r i r w) (does_w i r w)
  moved_view (Immediate op target source half) safe =
      view_put globals stack c r w view target.number (immediate_result op (word_in c source.number) half) (immediate_result op (r source.number) half) (c.line + 1) target.in_range safe
      (ap (λ (n : ℕ). immediate_result op n half) (view.reg source.number source.in_range))
  moved_view (LoadUpper target half) safe =
      view_put globals stack c r w view target.number (load_upper_result half) (load_upper_result half) (c.line + 1) target.in_range safe refl
  moved_view (Memory LoadWord target base offset) (writable, at) =
      view_put globals stack c r w view target.number (cell (memory_of c) (memory_address (word_in c base.number) offset)) (w.words (memory_address (r base.number) offset)) (c.line + 1) target.in_range writable
      (ap (cell (memory_of c)) (same_address base offset) ∙ view.mem (memory_address (r base.number) offset) at)
  moved_view (Memory StoreWord source base offset) at =
      view_store globals stack c r w view (memory_address (r base.number) offset) (memory_address (word_in c base.number) offset) (word_in c source.number) (r source.number) (c.line + 1) at (same_address base offset) (view.reg source.number source.in_range)
  moved_view (Memory LoadByte target base offset) (writable, at) =
      let here : ℕ = memory_address (word_in c base.number) offset in
      let a : ℕ = memory_address (r base.number) offset in
      view_put globals stack c r w view target.number (byte_in (cell (memory_of c) (word_of here)) (here % 4)) (byte_in (w.words (word_of a)) (a % 4)) (c.line + 1) target.in_range writable
      (ap (λ (x : ℕ). byte_in (cell (memory_of c) (word_of x)) (x % 4)) (same_address base offset) ∙ ap (λ (v : ℕ). byte_in v (a % 4)) (view.mem (word_of a) at))
  moved_view (Memory StoreByte source base offset) at =
      let here : ℕ = memory_address (word_in c base.number) offset in
      let a : ℕ = memory_address (r base.number) offset in
      view_store globals stack c r w view (word_of a) (word_of here) (with_byte (cell (memory_of c) (word_of here)) (here % 4) (word_in c source.number % 256)) (with_byte (w.words (word_of a)) (a % 4) (r source.number % 256)) (c.line + 1) at
      (ap (λ (x : ℕ). word_of x) (same_address base offset))
      (ap (λ (x : ℕ). with_byte (cell (memory_of c) (word_of x)) (x % 4) (word_in c source.number % 256)) (same_address base offset)
      ∙ (ap (λ (v : ℕ). with_byte v (a % 4) (word_in c source.number % 256)) (view.mem (word_of a) at)
      ∙ ap (λ (n : ℕ). with_byte (w.words (word_of a)) (a % 4) (n % 256)) (view.reg source.number source.in_range)))
  moved_view (ShiftVariable op destination source by) safe =
      view_put globals stack c r w view destination.number (shift_result op (word_in c source.number) (word_in c by.number)) (shift_result op (r source.number) (r by.number)) (c.line + 1) destination.in_range safe
      (both source by (shift_result op))
  moved_view (MoveFrom High destination) safe = view_put globals stack c r w view destination.number c.high (r 32) (c.line + 1) destination.in_range safe view.high
  moved_view (MoveFrom Low destination) safe = view_put globals stack c r w view destination.number c.low (r 33) (c.line + 1) destination.in_range safe view.low
  moved_view (MultiplyDivide Multiply left right) safe =
      view_product globals stack c r w view _ _ _ _ (c.line + 1) (both left right (high_result Multiply)) (both left right (low_result Multiply))
  moved_view (MultiplyDivide Divide left right) safe =
      view_product globals stack c r w view _ _ _ _ (c.line + 1) (both left right (high_result Divide)) (both left right (low_result Divide))
  moved_view (Arithmetic op destination left right) safe =
      view_put globals stack c r w view destination.number (arithmetic_result op (word_in c left.number) (word_in c right.number)) (arithmetic_result op (r left.number) (r right.number)) (c.line + 1) destination.in_range safe
      (both left right (arithmetic_result op))
  moved_view (Branch op left right offset) safe = absurd safe
  moved_view (BranchZero op source offset) safe = absurd safe
  moved_view (Jump op index) safe = absurd safe
  moved_view (Shift op destination source amount) safe =
      view_put globals stack c r w view destination.number (shift_result op (word_in c source.number) amount.bits) (shift_result op (r source.number) amount.bits) (c.line + 1) destination.in_range safe
      (ap (λ (n : ℕ). shift_result op n amount.bits) (view.reg source.number source.in_range))
  moved_view (JumpRegister source) safe = absurd safe
  moved_view (JumpRegisterLink destination source) safe = absurd safe
  moved_view (Exception op code) safe = absurd safe

-- ---- words of live blocks

module _ (globals stack : ℕ) (c : Configuration) (r : Words) (w : Contents) (view : View globals stack c r w) where
  -- A load or a store at a word of a live block does not trap.
  lives : (a word : ℕ) → IsLive w.store a word → (is_nowhere (place_of (memory_of c) a) ≡ false) × (is_dead (memory_of c) (place_of (memory_of c) a) ≡ false) × (is_text (place_of (memory_of c) a) ≡ false)
  lives a word live =
      let there = live_place globals stack c r w view a word live in
      let found : word_at c.store a ≡ Some word = ap (λ (s : StoreState). word_at s a) view.store ∙ live.there in
      (ap is_nowhere there, ap (is_dead (memory_of c)) there ∙ ap (λ (o : Option ℕ). is_none o) found, ap is_text there)

  lies_aligned : (a word : ℕ) → IsLive w.store a word → not (is_aligned a) ≡ false
  lies_aligned a word live = not_from_true (is_aligned a) (eq-eqb (a % 4) 0 live.aligned)

  at_live : (width : Width) (base : Register) (offset word : ℕ) → IsLive w.store (word_place width (memory_address (r base.number) offset)) word → IsLive w.store (word_place width (memory_address (word_in c base.number) offset)) word
  at_live width base offset word live = subst (λ (n : ℕ). IsLive w.store (word_place width (memory_address n offset)) word) (sym (view.reg base.number base.in_range)) live

  -- A load from the address of a word in a live block reads this word.
  live_cell : (a word : ℕ) → IsLive w.store a word → cell (memory_of c) a ≡ word
  live_cell a word live =
      let found : word_at c.store a ≡ Some word = ap (λ (s : StoreState). word_at s a) view.store ∙ live.there in
      ap (loaded (memory_of c)) (live_place globals stack c r w view a word live) ∙ ap (λ (o : Option ℕ). unwrap_or o 0) found

  pub loads_live : (width : Width) (target base : Register) (offset word : ℕ) (next : State) → IsLive w.store (word_place width (memory_address (r base.number) offset)) word → Performs c (Memory (load_op width) target base offset) next
      → next ≡ Running (moved c (Memory (load_op width) target base offset))
  loads_live width target base offset word next at goes =
      let a : ℕ = word_place width (memory_address (word_in c base.number) offset) in
      let live = at_live width base offset word at in
      let there = lives a word live in
      load_performs c base offset width target next (lies_aligned a word live) there.0 there.1 goes

  pub stores_live : (width : Width) (source base : Register) (offset word : ℕ) (next : State) → IsLive w.store (word_place width (memory_address (r base.number) offset)) word → Performs c (Memory (store_op width) source base offset) next
      → next ≡ Running (moved c (Memory (store_op width) source base offset))
  stores_live width source base offset word next at goes =
      let a : ℕ = word_place width (memory_address (word_in c base.number) offset) in
      let live = at_live width base offset word at in
      let there = lives a word live in
      store_performs c base offset width source next (lies_aligned a word live) there.0 there.1 there.2 goes

  pub loaded_view : (width : Width) (target base : Register) (offset word : ℕ) → IsWritable target.number → IsLive w.store (word_place width (memory_address (r base.number) offset)) word
      → View globals stack (moved c (Memory (load_op width) target base offset)) (put r target.number (loaded_part width (memory_address (r base.number) offset) word)) w
  loaded_view OneWord target base offset word writable at =
      let a : ℕ = memory_address (word_in c base.number) offset in
      view_put globals stack c r w view target.number (cell (memory_of c) a) word (c.line + 1) target.in_range writable (live_cell a word (at_live OneWord base offset word at))
  loaded_view OneByte target base offset word writable at =
      let here : ℕ = memory_address (word_in c base.number) offset in
      let a : ℕ = memory_address (r base.number) offset in
      view_put globals stack c r w view target.number (byte_in (cell (memory_of c) (word_of here)) (here % 4)) (byte_in word (a % 4)) (c.line + 1) target.in_range writable
      (ap (λ (v : ℕ). byte_in v (here % 4)) (live_cell (word_of here) word (at_live OneByte base offset word at))
      ∙ ap (λ (n : ℕ). byte_in word (memory_address n offset % 4)) (view.reg base.number base.in_range))

  pub saved_view : (width : Width) (source base : Register) (offset old : ℕ) → IsLive w.store (word_place width (memory_address (r base.number) offset)) old
      → View globals stack (moved c (Memory (store_op width) source base offset)) r (saved_in w (word_place width (memory_address (r base.number) offset)) (stored_word width (memory_address (r base.number) offset) old (r source.number)))
  saved_view OneWord source base offset old at =
      view_saved globals stack c r w view (memory_address (r base.number) offset) old (memory_address (word_in c base.number) offset) (word_in c source.number) (r source.number) (c.line + 1) at
      (ap (λ (n : ℕ). memory_address n offset) (view.reg base.number base.in_range)) (view.reg source.number source.in_range)
  saved_view OneByte source base offset old at =
      let here : ℕ = memory_address (word_in c base.number) offset in
      let a : ℕ = memory_address (r base.number) offset in
      view_saved globals stack c r w view (word_of a) old (word_of here) (with_byte (cell (memory_of c) (word_of here)) (here % 4) (word_in c source.number % 256)) (with_byte old (a % 4) (r source.number % 256)) (c.line + 1) at
      (ap (λ (n : ℕ). word_of (memory_address n offset)) (view.reg base.number base.in_range))
      (ap (λ (v : ℕ). with_byte v (here % 4) (word_in c source.number % 256)) (live_cell (word_of here) old (at_live OneByte base offset old at))
      ∙ (ap (λ (n : ℕ). with_byte old (memory_address n offset % 4) (word_in c source.number % 256)) (view.reg base.number base.in_range)
      ∙ ap (λ (n : ℕ). with_byte old (a % 4) (n % 256)) (view.reg source.number source.in_range)))

-- ---- services

-- If the registers request a system call, a `syscall` instruction performs this system call.
called : (c : Configuration) (code : TrapCode) (service : Service) → asked (core_of c) ≡ Some service → executes (machine_of c) (Exception Syscall code) ≡ Calls service
called c code service asks =
    let fine : cause_of (machine_of c) (Exception Syscall code) ≡ None = ap (λ (o : Option Service). if is_none o then Some causes.BadService else None) asks in
    executes-performs (machine_of c) (Exception Syscall code) fine ∙ ap (λ (o : Option Service). calls o (machine_of c)) asks

-- `Served` says that performing the requested system call in a configuration causes an event (input, output or end of the
-- run) and leads to the state `next`.
abbrev Served : Configuration → Service → State → Type 0
Served c service next =
    (event : Event) × (s : machines.State) × Serves service (machine_of c) event s
    × (next ≡ settled (reported (world_of c) event s) (c.line + 1) (reported (world_of c) event s).machine.phase)

service_serves : (c : Configuration) (code : TrapCode) (service : Service) (number : ℕ) (next : State) → word_in c 2 ≡ number → service_of (core_of c) number ≡ Some service → Performs c (Exception Syscall code) next → Served c service next
service_serves c code service number next is_number asks (event, s, acts, is) =
    (event, s, subst (λ (a : Action). Acts a (machine_of c) event s) (called c code service (ap (service_of (core_of c)) is_number ∙ asks)) acts, is)

-- If a system call reports an event and leaves a state of the MIPS machine, the event and this state determine the labelled
-- machine's next state.
seen : (c : Configuration) (next : State) (event reported_event : Event) (s left : machines.State) → event ≡ reported_event → s ≡ left
    → next ≡ settled (reported (world_of c) event s) (c.line + 1) (reported (world_of c) event s).machine.phase
    → next ≡ settled (reported (world_of c) reported_event left) (c.line + 1) (reported (world_of c) reported_event left).machine.phase
seen c next event reported_event s left same_event same is =
    is
    ∙ (ap (λ (e : Event). settled (reported (world_of c) e s) (c.line + 1) (reported (world_of c) e s).machine.phase) same_event
    ∙ ap (λ (t : machines.State). settled (reported (world_of c) reported_event t) (c.line + 1) (reported (world_of c) reported_event t).machine.phase) same)

-- Returns the byte that a program reads next, or -1 at the end of the input.
abbrev pub byte_of : List ℕ → ℕ
byte_of input = unwrap_or (slice_get input 0) (2 ^ 32 - 1)

abbrev pub given_byte : Configuration → Configuration
given_byte c = record c {
  registers = (with_register (core_of c) 2 (byte_of c.input)).registers;
  input = drop 1 c.input;
  line = c.line + 1;
}

pub gets_byte : (c : Configuration) (code : TrapCode) (next : State) → word_in c 2 ≡ 1 → Performs c (Exception Syscall code) next → next ≡ Running (given_byte c)
gets_byte c code next number goes =
    let (event, s, (same_event, same), is) = service_serves c code GetByte 1 next number refl goes in
    seen c next event WantsByte s (record (machine_of c) { phase = phases.Waiting }) same_event same is

abbrev pub printed_byte : Configuration → Configuration
printed_byte c = record c { output = c.output ++ word_in c 4 % 256 ∷ []; line = c.line + 1 }

pub puts_byte : (c : Configuration) (code : TrapCode) (next : State) → word_in c 2 ≡ 2 → Performs c (Exception Syscall code) next → next ≡ Running (printed_byte c)
puts_byte c code next number goes =
    let (event, s, (same_event, same), is) = service_serves c code PutByte 2 next number refl goes in
    seen c next event (Puts (word_in c 4 % 256)) s (record (machine_of c) { core = machines.advanced (core_of c) }) same_event same is

pub ends_returned : (c : Configuration) (code : TrapCode) (next : State) → word_in c 2 ≡ 3 → Performs c (Exception Syscall code) next
    → next ≡ labelled.Ended (ending.Returned (signed (word_in c 4))) c.output c.input
ends_returned c code next number goes =
    let (event, s, (same_event, same), is) = service_serves c code EndReturned 3 next number refl goes in
    let end = ends.Returned (signed (word_in c 4)) in
    seen c next event (Ended end) s (over (machine_of c) end) same_event same is

pub ends_uncaught : (c : Configuration) (code : TrapCode) (next : State) → word_in c 2 ≡ 4 → Performs c (Exception Syscall code) next
    → next ≡ labelled.Ended (ending.Uncaught (word_in c 4) (signed (word_in c 5))) c.output c.input
ends_uncaught c code next number goes =
    let (event, s, (same_event, same), is) = service_serves c code EndUncaught 4 next number refl goes in
    let end = ends.Uncaught (word_in c 4) (signed (word_in c 5)) in
    seen c next event (Ended end) s (over (machine_of c) end) same_event same is

pub ends_full : (c : Configuration) (code : TrapCode) (next : State) → word_in c 2 ≡ 11 → Performs c (Exception Syscall code) next
    → next ≡ labelled.Ended ending.Full c.output c.input
ends_full c code next number goes =
    let (event, s, (same_event, same), is) = service_serves c code EndFull 11 next number refl goes in
    seen c next event (Ended ends.Full) s (over (machine_of c) ends.Full) same_event same is

-- ---- requests to the store

-- Returns the call of the store (the heap of regions) that a requested system call and its argument registers describe.
abbrev pub call_by : Request → (first second : ℕ) → Call
call_by (requests.OpenLexical destination) first second = services.OpenLexical
call_by (requests.CloseTo mark) first second = services.CloseTo first
call_by (requests.OpenDynamic destination) first second = services.OpenDynamic
call_by (requests.CloseDynamic handle) first second = services.CloseDynamic first
call_by (requests.Allocate destination handle words) first second = services.Allocate first second
call_by (requests.Free address) first second = services.Free first

abbrev pub asked_call : Request → Configuration → Call
asked_call request c = call_by request (word_in c 4) (word_in c 5)

service_is : (c : Configuration) (request : Request) → service_of (core_of c) (service_number request) ≡ Some (Asks (asked_call request c))
service_is c (requests.OpenLexical destination) = refl
service_is c (requests.CloseTo mark) = refl
service_is c (requests.OpenDynamic destination) = refl
service_is c (requests.CloseDynamic handle) = refl
service_is c (requests.Allocate destination handle words) = refl
service_is c (requests.Free address) = refl

-- Returns the configuration after the store (the heap of regions) has answered a call and its result was written to the result registers.
abbrev pub given_answer : Configuration → Answer → StoreState → Configuration
given_answer c a store = record c { registers = answered_registers c a; store = store; line = c.line + 1 }

-- Returns the labelled machine's state after the store (the heap of regions) has answered a system call.
abbrev after_answer : Configuration → Answer → StoreState → State
after_answer c a store =
    settled (reported (world_of c) (reported_by a) (answered (with_store (machine_of c) store) a)) (c.line + 1)
    (reported (world_of c) (reported_by a) (answered (with_store (machine_of c) store) a)).machine.phase

asked_goes_on : (c : Configuration) (old : StoreState) (call : Call) (choice : services.Choice) (store : StoreState)
    → after_answer c (services.answer old call choice) store ≡ Running (given_answer c (services.answer old call choice) store)
asked_goes_on c old services.OpenLexical choice store = refl
asked_goes_on c old (services.CloseTo mark) choice store = refl
asked_goes_on c old services.OpenDynamic choice store = refl
asked_goes_on c old (services.CloseDynamic handle) choice store = refl
asked_goes_on c old (services.Allocate handle words) choice store = refl
asked_goes_on c old (services.Free address) choice store = refl

pub store_serves : (c : Configuration) (code : TrapCode) (next : State) (request : Request) → word_in c 2 ≡ service_number request → refusal c.store (asked_call request c) ≡ None → Performs c (Exception Syscall code) next
    → (choice : services.Choice) × services.IsAllowed c.store (asked_call request c) choice
    × (next ≡ Running (given_answer c (services.answer c.store (asked_call request c) choice) (services.served c.store (asked_call request c) choice)))
store_serves c code next request number free goes =
    let call : Call = asked_call request c in
    let (event, s, (answer, store, serving, same_event, same), is) = service_serves c code (Asks (asked_call request c)) (service_number request) next number (service_is c request) goes in
    let (choice, allowed, answer_is, store_is) = subst (λ (o : Option services.Refusal). services.ServesBy c.store (asked_call request c) o answer store) free serving in
    let given : Answer = services.answer c.store (asked_call request c) choice in
    let left : machines.State = answered (with_store (machine_of c) (services.served c.store (asked_call request c) choice)) (services.answer c.store (asked_call request c) choice) in
    let left_is : s ≡ left =
    same
    ∙ (ap (λ (a : Answer). answered (with_store (machine_of c) store) a) answer_is
    ∙ ap (λ (t : StoreState). answered (with_store (machine_of c) t) (services.answer c.store (asked_call request c) choice)) store_is) in (
      choice,
      allowed,
      seen c next event (reported_by (services.answer c.store (asked_call request c) choice)) s left (same_event ∙ ap reported_by answer_is) left_is is
          ∙ asked_goes_on c c.store (asked_call request c) choice (services.served c.store (asked_call request c) choice),
    )

pub store_is_full : (c : Configuration) (code : TrapCode) (next : State) (request : Request) → word_in c 2 ≡ service_number request → refusal c.store (asked_call request c) ≡ Some services.Full → Performs c (Exception Syscall code) next
    → next ≡ labelled.Ended ending.Full c.output c.input
store_is_full c code next request number full goes =
    let (event, s, (answer, store, serving, same_event, same), is) = service_serves c code (Asks (asked_call request c)) (service_number request) next number (service_is c request) goes in
    let (answer_is, store_is) = subst (λ (o : Option services.Refusal). services.ServesBy c.store (asked_call request c) o answer store) full serving in
    seen c next event (Ended ends.Full) s (over (with_store (machine_of c) store) ends.Full) (same_event ∙ ap reported_by answer_is) (same ∙ ap (λ (a : Answer). answered (with_store (machine_of c) store) a) answer_is) is
