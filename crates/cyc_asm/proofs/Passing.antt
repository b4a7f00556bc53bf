-- Two instructions that may be exchanged have the same effects in either order.
use Rattle.std.proofs.Common.{◌≡◌, ℕ, ◌+◌, Bool, true, false, not, ◌==◌, ◌&&◌, None, refl, sym, ap, ◌∙◌}
use Rattle.std.specs.Prelude.{if◌then◌else◌, slice_set}
use Rattle.std.proofs.lemmas.Bool.{not-true}
use Rattle.cyc_words.proofs.Booleans.{and_right, and_left}
use Rattle.cyc_isa.specs.Effect.{immediate_result, load_upper_result, arithmetic_result, shift_result}
use Rattle.cyc_isa.specs.Uses.{reads, names_result, writes}
use Rattle.cyc_isa.specs.declared.operand.Register.{Register}
use Rattle.cyc_isa.specs.declared.instr.Instr.{Instr}
use Rattle.cyc_isa.specs.declared.instr.Instr.TheVariants.{Immediate, LoadUpper, Memory, Branch, BranchZero, Jump, Shift, ShiftVariable, JumpRegister, JumpRegisterLink, Exception, MoveFrom, MultiplyDivide, Arithmetic}
use Rattle.cyc_machine_model.specs.Step.{cause_of}
use Rattle.cyc_select.specs.inside.Machine.{Configuration, machine_of, word_in}
use Rattle.cyc_asm.specs.inside.Slots.{is_movable}
use Rattle.cyc_asm.specs.inside.Order.{is_apart, passes}
use Rattle.cyc_asm.proofs.Moving.{did, with_word, unwritten_stays, commutes, same_refusal}

-- If an instruction may be moved past another one, the other one may itself be moved, and the machine never refuses it.
pub passed_movable : (i j : Instr) → passes i j ≡ true → is_movable j ≡ true
passed_movable i (Immediate op t b h) may = refl
passed_movable i (LoadUpper t h) may = refl
passed_movable i (Shift op d b a) may = refl
passed_movable i (ShiftVariable op d b k) may = refl
passed_movable i (Arithmetic op d l r) may = refl
passed_movable i (Memory op t b h) may = cc
passed_movable i (Branch op l r h) may = cc
passed_movable i (BranchZero op b h) may = cc
passed_movable i (Jump op x) may = cc
passed_movable i (JumpRegister b) may = cc
passed_movable i (JumpRegisterLink d b) may = cc
passed_movable i (Exception op x) may = cc
passed_movable i (MoveFrom op d) may = cc
passed_movable i (MultiplyDivide op l r) may = cc

pub passed_allowed : (c : Configuration) (i j : Instr) → passes i j ≡ true → cause_of (machine_of c) j ≡ None
passed_allowed c i (Immediate op t b h) may = refl
passed_allowed c i (LoadUpper t h) may = refl
passed_allowed c i (Shift op d b a) may = refl
passed_allowed c i (ShiftVariable op d b k) may = refl
passed_allowed c i (Arithmetic op d l r) may = refl
passed_allowed c i (Memory op t b h) may = cc
passed_allowed c i (Branch op l r h) may = cc
passed_allowed c i (BranchZero op b h) may = cc
passed_allowed c i (Jump op x) may = cc
passed_allowed c i (JumpRegister b) may = cc
passed_allowed c i (JumpRegisterLink d b) may = cc
passed_allowed c i (Exception op x) may = cc
passed_allowed c i (MoveFrom op d) may = cc
passed_allowed c i (MultiplyDivide op l r) may = cc

-- ---- the register that the second instruction writes

apart_reads : (i : Instr) (r : Register) → is_apart i r ≡ true → reads i r.number ≡ false
apart_reads i r apart = not-true (reads i r.number) (and_left (not (reads i r.number)) (not (writes i r.number)) apart)

apart_writes : (i : Instr) (r : Register) → is_apart i r ≡ true → writes i r.number ≡ false
apart_writes i r apart = not-true (writes i r.number) (and_right (not (reads i r.number)) (not (writes i r.number)) apart)

-- A write to register 0 changes nothing.
unset : (c : Configuration) (n w : ℕ) → (n == 0) ≡ true → with_word c n w ≡ c
unset c n w zero = ap (λ (x : Bool). record c { registers = if x then c.registers else slice_set c.registers n w }) zero

apart_commutes : (c : Configuration) (i : Instr) (r : Register) (w : ℕ) → is_movable i ≡ true → is_apart i r ≡ true → did (with_word c r.number w) i ≡ with_word (did c i) r.number w
apart_commutes c i r w movable apart = go (r.number == 0) refl
  where
    go : (b : Bool) → (r.number == 0) ≡ b → did (with_word c r.number w) i ≡ with_word (did c i) r.number w
    go true zero = ap (λ (d : Configuration). did d i) (unset c r.number w zero) ∙ sym (unset (did c i) r.number w zero)
    go false some =
        commutes c i r.number w movable (apart_reads i r apart)
        (sym (ap (λ (x : Bool). not x && names_result i r.number) some) ∙ apart_writes i r apart)

-- Returns the configuration with a register set, at the next line.
abbrev set_next : Configuration → (number word : ℕ) → Configuration
set_next c number word = record (with_word c number word) { line = c.line + 1 }

-- An instruction commutes with setting a register that it neither reads nor writes.
set_before : (c : Configuration) (i : Instr) (r : Register) (w w' : ℕ) → is_movable i ≡ true → is_apart i r ≡ true → w' ≡ w → set_next (did c i) r.number w' ≡ did (set_next c r.number w) i
set_before c i r w w' movable apart same =
    ap (set_next (did c i) r.number) same
    ∙ sym (ap (λ (d : Configuration). let next : Configuration = record d { line = d.line + 1 } in next) (apart_commutes c i r w movable apart))

-- ---- both orders of the two instructions

-- A register that an instruction does not write holds the same word before and after it.
same_word : (c : Configuration) (i : Instr) (r : Register) → is_movable i ≡ true → not (writes i r.number) ≡ true → word_in (did c i) r.number ≡ word_in c r.number
same_word c i r movable free = unwritten_stays c i r.number movable (not-true (writes i r.number) free)

pub either_order : (c : Configuration) (i j : Instr) → is_movable i ≡ true → passes i j ≡ true → did (did c i) j ≡ did (did c j) i
either_order c i (Immediate op t b h) movable may =
    set_before c i t _ _ movable (and_left (is_apart i t) (not (writes i b.number)) may)
    (ap (λ (x : ℕ). immediate_result op x h) (same_word c i b movable (and_right (is_apart i t) (not (writes i b.number)) may)))
either_order c i (LoadUpper t h) movable may = set_before c i t (load_upper_result h) (load_upper_result h) movable may refl
either_order c i (Shift op d b a) movable may =
    set_before c i d _ _ movable (and_left (is_apart i d) (not (writes i b.number)) may)
    (ap (λ (x : ℕ). shift_result op x a.bits) (same_word c i b movable (and_right (is_apart i d) (not (writes i b.number)) may)))
either_order c i (ShiftVariable op d b k) movable may =
    let free = and_right (is_apart i d) (not (writes i b.number) && not (writes i k.number)) may in
    set_before c i d _ _ movable (and_left (is_apart i d) (not (writes i b.number) && not (writes i k.number)) may)
    (ap (λ (x : ℕ). shift_result op x (word_in (did c i) k.number)) (same_word c i b movable (and_left (not (writes i b.number)) (not (writes i k.number)) free))
    ∙ ap (shift_result op (word_in c b.number)) (same_word c i k movable (and_right (not (writes i b.number)) (not (writes i k.number)) free)))
either_order c i (Arithmetic op d l r) movable may =
    let free = and_right (is_apart i d) (not (writes i l.number) && not (writes i r.number)) may in
    set_before c i d _ _ movable (and_left (is_apart i d) (not (writes i l.number) && not (writes i r.number)) may)
    (ap (λ (x : ℕ). arithmetic_result op x (word_in (did c i) r.number)) (same_word c i l movable (and_left (not (writes i l.number)) (not (writes i r.number)) free))
    ∙ ap (arithmetic_result op (word_in c l.number)) (same_word c i r movable (and_right (not (writes i l.number)) (not (writes i r.number)) free)))
either_order c i (Memory op t b h) movable may = cc
either_order c i (Branch op l r h) movable may = cc
either_order c i (BranchZero op b h) movable may = cc
either_order c i (Jump op x) movable may = cc
either_order c i (JumpRegister b) movable may = cc
either_order c i (JumpRegisterLink d b) movable may = cc
either_order c i (Exception op x) movable may = cc
either_order c i (MoveFrom op d) movable may = cc
either_order c i (MultiplyDivide op l r) movable may = cc

-- The machine refuses an instruction after another one exactly if it refuses it before, if the instruction may be moved past the other.
pub passing_refusal : (c : Configuration) (i j : Instr) → is_movable i ≡ true → passes i j ≡ true → cause_of (machine_of (did c j)) i ≡ cause_of (machine_of c) i
passing_refusal c i (Immediate op t b h) movable may =
    same_refusal c i t.number _ movable (apart_reads i t (and_left (is_apart i t) (not (writes i b.number)) may))
passing_refusal c i (LoadUpper t h) movable may = same_refusal c i t.number _ movable (apart_reads i t may)
passing_refusal c i (Shift op d b a) movable may =
    same_refusal c i d.number _ movable (apart_reads i d (and_left (is_apart i d) (not (writes i b.number)) may))
passing_refusal c i (ShiftVariable op d b k) movable may =
    same_refusal c i d.number _ movable (apart_reads i d (and_left (is_apart i d) (not (writes i b.number) && not (writes i k.number)) may))
passing_refusal c i (Arithmetic op d l r) movable may =
    same_refusal c i d.number _ movable (apart_reads i d (and_left (is_apart i d) (not (writes i l.number) && not (writes i r.number)) may))
passing_refusal c i (Memory op t b h) movable may = cc
passing_refusal c i (Branch op l r h) movable may = cc
passing_refusal c i (BranchZero op b h) movable may = cc
passing_refusal c i (Jump op x) movable may = cc
passing_refusal c i (JumpRegister b) movable may = cc
passing_refusal c i (JumpRegisterLink d b) movable may = cc
passing_refusal c i (Exception op x) movable may = cc
passing_refusal c i (MoveFrom op d) movable may = cc
passing_refusal c i (MultiplyDivide op l r) movable may = cc
