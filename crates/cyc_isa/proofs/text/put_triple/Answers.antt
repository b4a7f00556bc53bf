use Rattle.std.proofs.Common.{◌++◌, [], ◌∷◌, codes, append_assoc}
use Rattle.cyc_isa.specs.Text.{line}
use Rattle.cyc_isa.specs.inside.Operand.{operand_text}
use Rattle.cyc_isa.proofs.TextLemmas.{TakesText-parts, TakesText-stopped}
use Rattle.cyc_isa.proofs.text.put_triple.Goals as goal

pub returns-in_err-put_pair-clause-bytes : goal.returns-in_err-put_pair-clause-bytes
returns-in_err-put_pair-clause-bytes g c =
    TakesText-stopped (g.W.ByteOut.written c.args.out.now) (g.W.ByteOut.written c.put_pair.new.out)
    (line c.args.name.now (operand_text c.args.first ∷ operand_text c.args.second ∷ [])) (codes ", " ++ operand_text c.args.third) _
    c.from_residual.result (simp append_assoc) c.from_residual.ensures.0 c.in_err-put_pair.ensures.bytes

pub returns-clause-bytes : goal.returns-clause-bytes
returns-clause-bytes g c =
    TakesText-parts (g.W.ByteOut.written c.args.out.now) (g.W.ByteOut.written c.put_pair.new.out) (g.W.ByteOut.written c.put_further.new.out)
    (line c.args.name.now (operand_text c.args.first ∷ operand_text c.args.second ∷ [])) (codes ", " ++ operand_text c.args.third) _
    c.put_further.result (simp append_assoc) c.in_ok-put_pair.ensures.bytes c.put_further.ensures.bytes
