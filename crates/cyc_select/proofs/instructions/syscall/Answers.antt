use Rattle.std.proofs.Common.{refl, sym, ap}
use Rattle.cyc_isa.proofs.Operands.{trap_code_of-code}
use Rattle.cyc_isa.specs.declared.operand.TrapCode.{TrapCode}
use Rattle.cyc_isa.specs.declared.instr.Instr.TheVariants.{Exception}
use Rattle.cyc_isa.specs.declared.instr.ExceptionOp.TheVariants.{Syscall}
use Rattle.cyc_select.proofs.instructions.syscall.Goals as goal

pub returns : goal.returns
returns c = ap (λ (t : TrapCode). Exception Syscall t) (sym (trap_code_of-code _ 0 refl))
