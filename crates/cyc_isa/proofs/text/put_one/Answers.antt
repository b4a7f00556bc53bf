use Rattle.std.proofs.Common.{◌++◌, codes, refl}
use Rattle.cyc_isa.specs.inside.Operand.{operand_text}
use Rattle.cyc_isa.proofs.TextLemmas.{TakesText-parts}
use Rattle.cyc_isa.proofs.text.put_one.Goals as goal

pub returns-clause-bytes : goal.returns-clause-bytes
returns-clause-bytes g c =
    TakesText-parts (g.W.ByteOut.written c.args.out.now) (g.W.ByteOut.written c.put_name.new.out) (g.W.ByteOut.written c.put_operand.new.out)
    (c.args.name.now ++ codes " ") (operand_text c.args.operand) _ c.put_operand.result refl c.in_ok-put_name.ensures.bytes c.put_operand.ensures.bytes
