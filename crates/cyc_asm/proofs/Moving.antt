-- An instruction has the same effect in the delay slot of a branch or jump as before it, and does not change the effect of the branch or
-- jump. An instruction does not change registers that it does not write, and does not depend on those that it does not read.
use Rattle.std.proofs.Common.{◌≡◌, ◌≢◌, ℕ, ◌+◌, ◌-◌, ◌%◌, ◌^◌, Bool, true, false, not, ◌==◌, ◌||◌, ◌&&◌, List, [], ◌∷◌, length, Option, None, Some, refl, sym, ap, subst, ◌∙◌}
use Rattle.std.specs.Prelude.{if◌then◌else◌, slice_index, slice_set}
use Rattle.std.proofs.lemmas.Bool.{not-true}
use Rattle.std.proofs.lemmas.List.{get_or-set_other, set_comm}
use Rattle.cyc_words.specs.Bytes.{byte_in, with_byte, word_of}
use Rattle.cyc_words.proofs.Booleans.{and_right, and_left, or_left_false, or_right_false}
use Rattle.cyc_words.proofs.Numbers.{other_from_eqb}
use Rattle.cyc_isa.specs.Effect.{immediate_result, load_upper_result, arithmetic_result, shift_result, high_result, low_result, memory_address, branch_taken, branch_zero_taken}
use Rattle.cyc_isa.specs.Uses.{reads, names_result, writes}
use Rattle.cyc_isa.specs.declared.operand.Register.{Register}
use Rattle.cyc_isa.specs.declared.instr.Instr.{Instr}
use Rattle.cyc_isa.specs.declared.instr.Instr.TheVariants.{Immediate, LoadUpper, Memory, Branch, BranchZero, Jump, Shift, ShiftVariable, JumpRegister, JumpRegisterLink, Exception, MoveFrom, MultiplyDivide, Arithmetic}
use Rattle.cyc_isa.specs.declared.instr.MemoryOp.TheVariants.{LoadWord, StoreWord, LoadByte, StoreByte}
use Rattle.cyc_isa.specs.declared.instr.MoveFromOp.TheVariants.{High, Low}
use Rattle.cyc_isa.specs.declared.instr.MultiplyDivideOp.TheVariants.{Multiply, Divide}
use Rattle.cyc_machine_model.specs.declared.event.Cause.{Cause}
use Rattle.cyc_machine_model.specs.declared.event.Cause.TheVariants as causes
use Rattle.cyc_machine_model.specs.declared.event.End.TheVariants.{Trap}
use Rattle.cyc_machine_model.specs.declared.event.Event.{Event}
use Rattle.cyc_machine_model.specs.declared.event.Event.TheVariants.{Ran, Ended}
use Rattle.cyc_machine_model.specs.declared.phase.Phase.TheVariants as phases
use Rattle.cyc_machine_model.specs.State as machines
use Rattle.cyc_machine_model.specs.State.{Core, Place, register, with_register, place_of, is_dead, loaded, stored}
use Rattle.cyc_machine_model.specs.Step.{Action, Acts, Does, after, performs, refuses_or_performs, cause_of, first_of, is_aligned, is_nowhere, is_text}
use Rattle.cyc_machine_model.specs.Run.{reported}
use Rattle.cyc_machine_model.proofs.MemoryLaws.{length-stack-stored}
use Rattle.cyc_machine_model.proofs.StepLaws.{executes-performs}
use Rattle.cyc_select.specs.declared.code.Condition.{Condition}
use Rattle.cyc_select.specs.declared.code.Condition.TheVariants as conditions
use Rattle.cyc_select.specs.inside.Labelled.{is_ordinary}
use Rattle.cyc_select.specs.inside.Machine.{Configuration, State, Running, Stopped, Performs, settled, core_of, memory_of, machine_of, world_of, from_world, word_in, holds_of}
use Rattle.cyc_asm.specs.inside.Slots.{is_movable, leaves}

-- ---- the effect of the instruction

-- Returns the configuration after an instruction that makes no system call.
abbrev pub did : Configuration → Instr → Configuration
did c i = from_world (reported (world_of c) Ran (after (machine_of c) i)) (c.line + 1)

-- Returns the configuration with a register set, as a call sets the register of the return address.
abbrev pub with_word : Configuration → (number word : ℕ) → Configuration
with_word c number word = record c { registers = (with_register (core_of c) number word).registers }

pub movable_ordinary : (i : Instr) → is_movable i ≡ true → is_ordinary i ≡ true
movable_ordinary (Immediate op t b h) movable = refl
movable_ordinary (LoadUpper t h) movable = refl
movable_ordinary (Memory op t b h) movable = refl
movable_ordinary (Branch op l r h) movable = cc
movable_ordinary (BranchZero op b h) movable = cc
movable_ordinary (Jump op x) movable = cc
movable_ordinary (Shift op d b a) movable = refl
movable_ordinary (ShiftVariable op d b k) movable = refl
movable_ordinary (JumpRegister b) movable = cc
movable_ordinary (JumpRegisterLink d b) movable = cc
movable_ordinary (Exception op x) movable = cc
movable_ordinary (MoveFrom op d) movable = refl
movable_ordinary (MultiplyDivide op l r) movable = refl
movable_ordinary (Arithmetic op d l r) movable = refl

pub movable_does : (s : machines.State) (i : Instr) → is_movable i ≡ true → performs s i ≡ Does Ran (after s i)
movable_does s (Immediate op t b h) movable = refl
movable_does s (LoadUpper t h) movable = refl
movable_does s (Memory op t b h) movable = refl
movable_does s (Branch op l r h) movable = cc
movable_does s (BranchZero op b h) movable = cc
movable_does s (Jump op x) movable = cc
movable_does s (Shift op d b a) movable = refl
movable_does s (ShiftVariable op d b k) movable = refl
movable_does s (JumpRegister b) movable = cc
movable_does s (JumpRegisterLink d b) movable = cc
movable_does s (Exception op x) movable = cc
movable_does s (MoveFrom op d) movable = refl
movable_does s (MultiplyDivide op l r) movable = refl
movable_does s (Arithmetic op d l r) movable = refl

pub after_runs : (c : Configuration) (i : Instr) → is_movable i ≡ true → (after (machine_of c) i).phase ≡ phases.Running
after_runs c (Immediate op t b h) movable = refl
after_runs c (LoadUpper t h) movable = refl
after_runs c (Memory LoadWord t b h) movable = refl
after_runs c (Memory StoreWord t b h) movable = refl
after_runs c (Memory LoadByte t b h) movable = refl
after_runs c (Memory StoreByte t b h) movable = refl
after_runs c (Branch op l r h) movable = cc
after_runs c (BranchZero op b h) movable = cc
after_runs c (Jump op x) movable = cc
after_runs c (Shift op d b a) movable = refl
after_runs c (ShiftVariable op d b k) movable = refl
after_runs c (JumpRegister b) movable = cc
after_runs c (JumpRegisterLink d b) movable = cc
after_runs c (Exception op x) movable = cc
after_runs c (MoveFrom High d) movable = refl
after_runs c (MoveFrom Low d) movable = refl
after_runs c (MultiplyDivide op l r) movable = refl
after_runs c (Arithmetic op d l r) movable = refl

-- The machine of labelled code performs an instruction that may be moved into a delay slot, unless it has a reason to refuse
-- it, such as a misaligned address.
pub performs_did : (c : Configuration) (i : Instr) → is_movable i ≡ true → cause_of (machine_of c) i ≡ None → Performs c i (Running (did c i))
performs_did c i movable allowed = (
  Ran,
  after (machine_of c) i,
  subst (λ (a : Action). Acts a (machine_of c) Ran (after (machine_of c) i)) (sym (executes-performs (machine_of c) i allowed ∙ movable_does (machine_of c) i movable)) (refl, refl),
  sym (ap (settled (reported (world_of c) Ran (after (machine_of c) i)) (c.line + 1)) (after_runs c i movable)),
)

-- An instruction that the machine refuses stops the labelled machine.
pub performs_refused : (c : Configuration) (i : Instr) (cause : Cause) → cause_of (machine_of c) i ≡ Some cause → Performs c i (Stopped c.output c.input)
performs_refused c i cause is = (
  Ended (Trap cause),
  machines.over (machine_of c) (Trap cause),
  subst (λ (a : Action). Acts a (machine_of c) (Ended (Trap cause)) (machines.over (machine_of c) (Trap cause))) (sym (ap (λ o. refuses_or_performs o (machine_of c) i) is)) (refl, refl),
  refl,
)

-- An instruction that may be moved into a delay slot, and that the machine does not refuse, leads to exactly one next state.
pub only_did : (c : Configuration) (i : Instr) → is_movable i ≡ true → cause_of (machine_of c) i ≡ None → (next : State) → Performs c i next → next ≡ Running (did c i)
only_did c i movable allowed next (event, left, acts, is) =
    let ran : (event ≡ Ran) × (left ≡ after (machine_of c) i) =
    subst (λ (a : Action). Acts a (machine_of c) event left) (executes-performs (machine_of c) i allowed ∙ movable_does (machine_of c) i movable) acts in
    is
    ∙ ap (λ (e : Event). settled (reported (world_of c) e left) (c.line + 1) (reported (world_of c) e left).machine.phase) ran.0
    ∙ ap (λ (s : machines.State). settled (reported (world_of c) Ran s) (c.line + 1) s.phase) ran.1
    ∙ ap (settled (reported (world_of c) Ran (after (machine_of c) i)) (c.line + 1)) (after_runs c i movable)

-- An instruction that may be moved into a delay slot leaves the length of the call stack unchanged.
pub same_stack : (c : Configuration) (i : Instr) → is_movable i ≡ true → length (did c i).stack ≡ length c.stack
same_stack c (Immediate op t b h) movable = refl
same_stack c (LoadUpper t h) movable = refl
same_stack c (Memory LoadWord t b h) movable = refl
same_stack c (Memory StoreWord t b h) movable =
    length-stack-stored (memory_of c) (place_of (memory_of c) (memory_address (word_in c b.number) h)) (word_in c t.number)
same_stack c (Memory LoadByte t b h) movable = refl
same_stack c (Memory StoreByte t b h) movable =
    let address : ℕ = memory_address (word_in c b.number) h in
    let place : Place = place_of (memory_of c) (word_of address) in
    length-stack-stored (memory_of c) place (with_byte (loaded (memory_of c) place) (address % 4) (word_in c t.number % 256))
same_stack c (Branch op l r h) movable = cc
same_stack c (BranchZero op b h) movable = cc
same_stack c (Jump op x) movable = cc
same_stack c (Shift op d b a) movable = refl
same_stack c (ShiftVariable op d b k) movable = refl
same_stack c (JumpRegister b) movable = cc
same_stack c (JumpRegisterLink d b) movable = cc
same_stack c (Exception op x) movable = cc
same_stack c (MoveFrom High d) movable = refl
same_stack c (MoveFrom Low d) movable = refl
same_stack c (MultiplyDivide op l r) movable = refl
same_stack c (Arithmetic op d l r) movable = refl

-- ---- registers

register-other : (core : Core) (number value other : ℕ) → number ≢ other → register (with_register core number value) other ≡ register core other
register-other core number value other differ = go (number == 0) refl
  where
    go : (b : Bool) → (number == 0) ≡ b → (if other == 0 then 0 else slice_index (if number == 0 then core.registers else slice_set core.registers number value) other) ≡ register core other
    go true is = ap (λ (x : Bool). if other == 0 then 0 else slice_index (if x then core.registers else slice_set core.registers number value) other) is
    go false is =
        ap (λ (x : Bool). if other == 0 then 0 else slice_index (if x then core.registers else slice_set core.registers number value) other) is
        ∙ ap (λ (x : ℕ). if other == 0 then 0 else x) (get_or-set_other core.registers number other value 0 (λ same. differ (sym same)))

registers-either : (b c : Bool) (xs : List ℕ) (i j v w : ℕ) → i ≢ j
    → (if b then (if c then xs else slice_set xs j w) else slice_set (if c then xs else slice_set xs j w) i v)
    ≡ (if c then (if b then xs else slice_set xs i v) else slice_set (if b then xs else slice_set xs i v) j w)
registers-either true true xs i j v w differ = refl
registers-either true false xs i j v w differ = refl
registers-either false true xs i j v w differ = refl
registers-either false false xs i j v w differ = set_comm xs j i w v (λ same. differ (sym same))

-- Writes of two different registers commute.
both_set : (core : Core) (target number word value value' : ℕ) → value' ≡ value → target ≢ number
    → (with_register (with_register core number word) target value').registers ≡ (with_register (with_register core target value) number word).registers
both_set core target number word value value' same differ =
    ap (λ (v : ℕ). (with_register (with_register core number word) target v).registers) same
    ∙ registers-either (target == 0) (number == 0) core.registers target number value word differ

-- ---- registers that the instruction does not write

sets-stays : (c : Configuration) (i : Instr) (n : ℕ) → is_movable i ≡ true → names_result i n ≡ false → word_in (did c i) n ≡ word_in c n
sets-stays c (Immediate op t b h) n movable none = register-other (core_of c) t.number _ n (other_from_eqb t.number n none)
sets-stays c (LoadUpper t h) n movable none = register-other (core_of c) t.number _ n (other_from_eqb t.number n none)
sets-stays c (Memory LoadWord t b h) n movable none = register-other (core_of c) t.number _ n (other_from_eqb t.number n none)
sets-stays c (Memory StoreWord t b h) n movable none = refl
sets-stays c (Memory LoadByte t b h) n movable none = register-other (core_of c) t.number _ n (other_from_eqb t.number n none)
sets-stays c (Memory StoreByte t b h) n movable none = refl
sets-stays c (Branch op l r h) n movable none = cc
sets-stays c (BranchZero op b h) n movable none = cc
sets-stays c (Jump op x) n movable none = cc
sets-stays c (Shift op d b a) n movable none = register-other (core_of c) d.number _ n (other_from_eqb d.number n none)
sets-stays c (ShiftVariable op d b k) n movable none = register-other (core_of c) d.number _ n (other_from_eqb d.number n none)
sets-stays c (JumpRegister b) n movable none = cc
sets-stays c (JumpRegisterLink d b) n movable none = cc
sets-stays c (Exception op x) n movable none = cc
sets-stays c (MoveFrom High d) n movable none = register-other (core_of c) d.number _ n (other_from_eqb d.number n none)
sets-stays c (MoveFrom Low d) n movable none = register-other (core_of c) d.number _ n (other_from_eqb d.number n none)
sets-stays c (MultiplyDivide op l r) n movable none = refl
sets-stays c (Arithmetic op d l r) n movable none = register-other (core_of c) d.number _ n (other_from_eqb d.number n none)

pub unwritten_stays : (c : Configuration) (i : Instr) (n : ℕ) → is_movable i ≡ true → writes i n ≡ false → word_in (did c i) n ≡ word_in c n
unwritten_stays c i n movable none = go (n == 0) refl
  where
    go : (b : Bool) → (n == 0) ≡ b → word_in (did c i) n ≡ word_in c n
    go true zero =
        ap (λ (x : Bool). if x then 0 else slice_index (did c i).registers n) zero
        ∙ sym (ap (λ (x : Bool). if x then 0 else slice_index c.registers n) zero)
    go false some = sets-stays c i n movable (sym (ap (λ (x : Bool). not x && names_result i n) some) ∙ none)

-- A branch is taken after an instruction that may be moved into its delay slot exactly if it is taken before this instruction.
pub holds_stays : (c : Configuration) (i : Instr) (condition : Condition) → is_movable i ≡ true → leaves i condition ≡ true → holds_of (word_in (did c i)) condition ≡ holds_of (word_in c) condition
holds_stays c i (conditions.Registers op left right) movable free =
    ap (λ (x : ℕ). branch_taken op x (word_in (did c i) right.number)) (unwritten_stays c i left.number movable (not-true (writes i left.number) (and_left _ _ free)))
    ∙ ap (branch_taken op (word_in c left.number)) (unwritten_stays c i right.number movable (not-true (writes i right.number) (and_right (not (writes i left.number)) _ free)))
holds_stays c i (conditions.Sign op source) movable free =
    ap (branch_zero_taken op) (unwritten_stays c i source.number movable (not-true (writes i source.number) free))

-- ---- registers that the instruction does not read

unread_register : (c : Configuration) (number word other : ℕ) → (other == number) ≡ false → word_in (with_word c number word) other ≡ word_in c other
unread_register c number word other none = register-other (core_of c) number word other (λ same. other_from_eqb other number none (sym same))

-- If neither register of a store instruction is the one that another instruction sets, the store has the same effect on memory
-- before and after it.
store_commutes : (c : Configuration) (t b : Register) (n w : ℕ) (left : (base word : ℕ) → machines.Memory) → (t.number == n || b.number == n) ≡ false
    → (let m : machines.Memory = left (word_in (with_word c n w) b.number) (word_in (with_word c n w) t.number) in let d : Configuration = record (with_word c n w) { globals = m.globals; stack = m.stack; store = m.store; line = c.line + 1 } in d)
    ≡ (let m : machines.Memory = left (word_in c b.number) (word_in c t.number) in let d : Configuration = record (with_word c n w) { globals = m.globals; stack = m.stack; store = m.store; line = c.line + 1 } in d)
store_commutes c t b n w left free =
    ap (λ (m : machines.Memory). let d : Configuration = record (with_word c n w) { globals = m.globals; stack = m.stack; store = m.store; line = c.line + 1 } in d)
    (ap (λ (x : ℕ). left x (word_in (with_word c n w) t.number)) (unread_register c n w b.number (or_right_false (t.number == n) (b.number == n) free))
    ∙ ap (left (word_in c b.number)) (unread_register c n w t.number (or_left_false (t.number == n) (b.number == n) free)))

-- Setting a register commutes with an instruction that neither reads nor writes this register. A call may store its return address
-- before an instruction that neither reads nor writes the return address register.
pub commutes : (c : Configuration) (i : Instr) (n w : ℕ) → is_movable i ≡ true → reads i n ≡ false → names_result i n ≡ false → did (with_word c n w) i ≡ with_word (did c i) n w
commutes c (Immediate op t b h) n w movable free none =
    ap (λ (rs : List ℕ). record (did c (Immediate op t b h)) { registers = rs })
    (both_set (core_of c) t.number n w _ _ (ap (λ (x : ℕ). immediate_result op x h) (unread_register c n w b.number free)) (other_from_eqb t.number n none))
commutes c (LoadUpper t h) n w movable free none =
    ap (λ (rs : List ℕ). record (did c (LoadUpper t h)) { registers = rs })
    (both_set (core_of c) t.number n w (load_upper_result h) (load_upper_result h) refl (other_from_eqb t.number n none))
commutes c (Memory LoadWord t b h) n w movable free none =
    ap (λ (rs : List ℕ). record (did c (Memory LoadWord t b h)) { registers = rs })
    (both_set (core_of c) t.number n w _ _ (ap (λ (x : ℕ). loaded (memory_of c) (place_of (memory_of c) (memory_address x h))) (unread_register c n w b.number free)) (other_from_eqb t.number n none))
commutes c (Memory StoreWord t b h) n w movable free none =
    store_commutes c t b n w (λ base word. stored (memory_of c) (place_of (memory_of c) (memory_address base h)) word) free
commutes c (Memory LoadByte t b h) n w movable free none =
    ap (λ (rs : List ℕ). record (did c (Memory LoadByte t b h)) { registers = rs })
    (both_set (core_of c) t.number n w _ _
    (ap (λ (x : ℕ). byte_in (loaded (memory_of c) (place_of (memory_of c) (word_of (memory_address x h)))) (memory_address x h % 4)) (unread_register c n w b.number free)) (other_from_eqb t.number n none))
commutes c (Memory StoreByte t b h) n w movable free none =
    store_commutes c t b n w
    (λ base word. let place : Place = place_of (memory_of c) (word_of (memory_address base h)) in stored (memory_of c) place (with_byte (loaded (memory_of c) place) (memory_address base h % 4) (word % 256))) free
commutes c (Branch op l r h) n w movable free none = cc
commutes c (BranchZero op b h) n w movable free none = cc
commutes c (Jump op x) n w movable free none = cc
commutes c (Shift op d b a) n w movable free none =
    ap (λ (rs : List ℕ). record (did c (Shift op d b a)) { registers = rs })
    (both_set (core_of c) d.number n w _ _ (ap (λ (x : ℕ). shift_result op x a.bits) (unread_register c n w b.number free)) (other_from_eqb d.number n none))
commutes c (ShiftVariable op d b k) n w movable free none =
    ap (λ (rs : List ℕ). record (did c (ShiftVariable op d b k)) { registers = rs })
    (both_set (core_of c) d.number n w _ _
    (ap (λ (x : ℕ). shift_result op x (word_in (with_word c n w) k.number)) (unread_register c n w b.number (or_left_false (b.number == n) (k.number == n) free))
    ∙ ap (shift_result op (word_in c b.number)) (unread_register c n w k.number (or_right_false (b.number == n) (k.number == n) free))) (other_from_eqb d.number n none))
commutes c (JumpRegister b) n w movable free none = cc
commutes c (JumpRegisterLink d b) n w movable free none = cc
commutes c (Exception op x) n w movable free none = cc
commutes c (MoveFrom High d) n w movable free none =
    ap (λ (rs : List ℕ). record (did c (MoveFrom High d)) { registers = rs }) (both_set (core_of c) d.number n w c.high c.high refl (other_from_eqb d.number n none))
commutes c (MoveFrom Low d) n w movable free none =
    ap (λ (rs : List ℕ). record (did c (MoveFrom Low d)) { registers = rs }) (both_set (core_of c) d.number n w c.low c.low refl (other_from_eqb d.number n none))
commutes c (MultiplyDivide op l r) n w movable free none =
    let left : word_in (with_word c n w) l.number ≡ word_in c l.number = unread_register c n w l.number (or_left_false (l.number == n) (r.number == n) free) in
    let right : word_in (with_word c n w) r.number ≡ word_in c r.number = unread_register c n w r.number (or_right_false (l.number == n) (r.number == n) free) in
    ap (λ (x : ℕ). record (with_word c n w) { high = high_result op x (word_in (with_word c n w) r.number); low = low_result op x (word_in (with_word c n w) r.number); line = c.line + 1 }) left
    ∙ ap (λ (y : ℕ). record (with_word c n w) { high = high_result op (word_in c l.number) y; low = low_result op (word_in c l.number) y; line = c.line + 1 }) right
commutes c (Arithmetic op d l r) n w movable free none =
    ap (λ (rs : List ℕ). record (did c (Arithmetic op d l r)) { registers = rs })
    (both_set (core_of c) d.number n w _ _
    (ap (λ (x : ℕ). arithmetic_result op x (word_in (with_word c n w) r.number)) (unread_register c n w l.number (or_left_false (l.number == n) (r.number == n) free))
    ∙ ap (arithmetic_result op (word_in c l.number)) (unread_register c n w r.number (or_right_false (l.number == n) (r.number == n) free))) (other_from_eqb d.number n none))

-- Returns the reason why the machine refuses a load or a store at an address, or `None` if it performs the access.
abbrev memory_cause : Configuration → (stores : Bool) → (address : ℕ) → Option Cause
memory_cause c stores address = let place = place_of (memory_of c) address in first_of (
    (false, causes.Unpredictable)
    ∷ (not (is_aligned address), causes.Misaligned)
    ∷ (is_nowhere place, causes.NoSuchAddress)
    ∷ (is_dead (memory_of c) place, causes.DeadCell)
    ∷ ((if stores then is_text place else false), causes.WriteToText)
    ∷ (false, causes.Break)
    ∷ (false, causes.BadService)
    ∷ [])

abbrev division_cause : (left right : ℕ) → Option Cause
division_cause left right = first_of (
    (right == 0 || (left == 2 ^ 31 && right == 2 ^ 32 - 1), causes.Unpredictable)
    ∷ (false, causes.Misaligned)
    ∷ (false, causes.NoSuchAddress)
    ∷ (false, causes.DeadCell)
    ∷ (false, causes.WriteToText)
    ∷ (false, causes.Break)
    ∷ (false, causes.BadService)
    ∷ [])

-- If an instruction does not read a register, the machine refuses it after this register is set exactly if it refuses it before.
pub same_refusal : (c : Configuration) (i : Instr) (n w : ℕ) → is_movable i ≡ true → reads i n ≡ false → cause_of (machine_of (with_word c n w)) i ≡ cause_of (machine_of c) i
same_refusal c (Memory LoadWord t b h) n w movable free = ap (λ (x : ℕ). memory_cause c false (memory_address x h)) (unread_register c n w b.number free)
same_refusal c (Memory StoreWord t b h) n w movable free =
    ap (λ (x : ℕ). memory_cause c true (memory_address x h)) (unread_register c n w b.number (or_right_false (t.number == n) (b.number == n) free))
same_refusal c (Memory LoadByte t b h) n w movable free = ap (λ (x : ℕ). memory_cause c false (word_of (memory_address x h))) (unread_register c n w b.number free)
same_refusal c (Memory StoreByte t b h) n w movable free =
    ap (λ (x : ℕ). memory_cause c true (word_of (memory_address x h))) (unread_register c n w b.number (or_right_false (t.number == n) (b.number == n) free))
same_refusal c (MultiplyDivide Divide l r) n w movable free =
    ap (λ (y : ℕ). division_cause (word_in (with_word c n w) l.number) y) (unread_register c n w r.number (or_right_false (l.number == n) (r.number == n) free))
    ∙ ap (λ (x : ℕ). division_cause x (word_in c r.number)) (unread_register c n w l.number (or_left_false (l.number == n) (r.number == n) free))
same_refusal c (MultiplyDivide Multiply l r) n w movable free = refl
same_refusal c (Immediate op t b h) n w movable free = refl
same_refusal c (LoadUpper t h) n w movable free = refl
same_refusal c (Branch op l r h) n w movable free = cc
same_refusal c (BranchZero op b h) n w movable free = cc
same_refusal c (Jump op x) n w movable free = cc
same_refusal c (Shift op d b a) n w movable free = refl
same_refusal c (ShiftVariable op d b k) n w movable free = refl
same_refusal c (JumpRegister b) n w movable free = cc
same_refusal c (JumpRegisterLink d b) n w movable free = cc
same_refusal c (Exception op x) n w movable free = cc
same_refusal c (MoveFrom op d) n w movable free = refl
same_refusal c (Arithmetic op d l r) n w movable free = refl
