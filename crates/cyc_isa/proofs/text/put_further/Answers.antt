use Rattle.std.proofs.Common.{codes, refl}
use Rattle.cyc_isa.specs.inside.Operand.{operand_text}
use Rattle.cyc_isa.proofs.TextLemmas.{TakesText-parts, TakesText-stopped}
use Rattle.cyc_isa.proofs.text.put_further.Goals as goal

pub returns-in_err-put_all-clause-bytes : goal.returns-in_err-put_all-clause-bytes
returns-in_err-put_all-clause-bytes g c =
    TakesText-stopped (g.W.ByteOut.written c.args.out.now) (g.W.ByteOut.written c.put_all.new.self) (codes ", ") (operand_text c.args.operand) _
    c.from_residual.result refl c.from_residual.ensures.0 c.in_err-put_all.ensures.bytes

pub returns-clause-bytes : goal.returns-clause-bytes
returns-clause-bytes g c =
    TakesText-parts (g.W.ByteOut.written c.args.out.now) (g.W.ByteOut.written c.put_all.new.self) (g.W.ByteOut.written c.put_operand.new.out)
    (codes ", ") (operand_text c.args.operand) _ c.put_operand.result refl c.in_ok-put_all.ensures.bytes c.put_operand.ensures.bytes
