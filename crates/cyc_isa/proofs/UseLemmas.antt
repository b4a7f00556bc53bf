-- Lemmas for the laws about the registers that an instruction may write.
use Rattle.std.proofs.Common.{◌≡◌, ◌≢◌, ℕ, Bool, true, false, not, ◌==◌, ◌&&◌, refl, sym, ◌∙◌}
use Rattle.std.proofs.lemmas.Bool.{eqb-true}
use Rattle.cyc_words.proofs.Booleans.{and_right}
use Rattle.cyc_words.proofs.Numbers.{same_from_eqb}
use Rattle.cyc_isa.specs.Uses.{names_result, writes}
use Rattle.cyc_isa.specs.declared.instr.Instr.{Instr}
use Rattle.cyc_isa.specs.declared.instr.Instr.TheVariants.{Immediate, LoadUpper, Memory, Branch, BranchZero, Jump, Shift, ShiftVariable, JumpRegister, JumpRegisterLink, Exception, MoveFrom, MultiplyDivide, Arithmetic}
use Rattle.cyc_isa.specs.declared.instr.MemoryOp.TheVariants.{LoadWord, StoreWord, LoadByte, StoreByte}
use Rattle.cyc_isa.specs.declared.instr.JumpOp.TheVariants.{Plain, AndLink}
use Rattle.cyc_isa.specs.declared.instr.ExceptionOp.{ExceptionOp}
use Rattle.cyc_isa.specs.declared.operand.TrapCode.{TrapCode}

one_result : (i : Instr) (m n : ℕ) → ((op : ExceptionOp) (code : TrapCode) → i ≢ Exception op code) → names_result i m ≡ true → names_result i n ≡ true → m ≡ n
one_result (Immediate op t s h) m n free first other = same_from_eqb t.number m n first other
one_result (LoadUpper t h) m n free first other = same_from_eqb t.number m n first other
one_result (Memory LoadWord t b h) m n free first other = same_from_eqb t.number m n first other
one_result (Memory StoreWord t b h) m n free first other = cc
one_result (Memory LoadByte t b h) m n free first other = same_from_eqb t.number m n first other
one_result (Memory StoreByte t b h) m n free first other = cc
one_result (Branch op l r h) m n free first other = cc
one_result (BranchZero op s h) m n free first other = cc
one_result (Jump Plain x) m n free first other = cc
one_result (Jump AndLink x) m n free first other = eqb-true m 31 first ∙ sym (eqb-true n 31 other)
one_result (Shift op d s a) m n free first other = same_from_eqb d.number m n first other
one_result (ShiftVariable op d s b) m n free first other = same_from_eqb d.number m n first other
one_result (JumpRegister s) m n free first other = cc
one_result (JumpRegisterLink d s) m n free first other = same_from_eqb d.number m n first other
one_result (Exception op x) m n free first other = absurd (free op x refl)
one_result (MoveFrom op d) m n free first other = same_from_eqb d.number m n first other
one_result (MultiplyDivide op l r) m n free first other = cc
one_result (Arithmetic op d l r) m n free first other = same_from_eqb d.number m n first other

pub set_alone : (i : Instr) (m n : ℕ) → ((op : ExceptionOp) (code : TrapCode) → i ≢ Exception op code) → writes i m ≡ true → writes i n ≡ true → m ≡ n
set_alone i m n free first other = one_result i m n free (and_right (not (m == 0)) (names_result i m) first) (and_right (not (n == 0)) (names_result i n) other)
