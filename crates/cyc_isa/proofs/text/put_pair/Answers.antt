use Rattle.std.proofs.Common.{◌++◌, [], ◌∷◌, codes, append_assoc}
use Rattle.cyc_isa.specs.Text.{line}
use Rattle.cyc_isa.specs.inside.Operand.{operand_text}
use Rattle.cyc_isa.proofs.TextLemmas.{TakesText-parts, TakesText-stopped}
use Rattle.cyc_isa.proofs.text.put_pair.Goals as goal

pub returns-in_err-put_one-clause-bytes : goal.returns-in_err-put_one-clause-bytes
returns-in_err-put_one-clause-bytes g c =
    TakesText-stopped (g.W.ByteOut.written c.args.out.now) (g.W.ByteOut.written c.put_one.new.out)
    (line c.args.name.now (operand_text c.args.first ∷ [])) (codes ", " ++ operand_text c.args.second) _
    c.from_residual.result (simp append_assoc) c.from_residual.ensures.0 c.in_err-put_one.ensures.bytes

pub returns-clause-bytes : goal.returns-clause-bytes
returns-clause-bytes g c =
    TakesText-parts (g.W.ByteOut.written c.args.out.now) (g.W.ByteOut.written c.put_one.new.out) (g.W.ByteOut.written c.put_further.new.out)
    (line c.args.name.now (operand_text c.args.first ∷ [])) (codes ", " ++ operand_text c.args.second) _
    c.put_further.result (simp append_assoc) c.in_ok-put_one.ensures.bytes c.put_further.ensures.bytes
