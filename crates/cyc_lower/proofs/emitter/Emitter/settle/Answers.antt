use Rattle.std.proofs.Common.{arith}
use Rattle.cyc_lower_proof.proofs.emission.Alike.{turned-more}
use Rattle.cyc_lower.proofs.emission.Turned.{turned-ends}
use Rattle.cyc_lower.proofs.emitter.Emitter.settle.Goals as goal

pub loop-instruction-preserved : goal.loop-instruction-preserved
loop-instruction-preserved c =
    turned-more c.args.far c.args.near c.loop-instruction.instruction-index c.args.self.now.code.items c.loop-instruction.instruction-items _ c.turn.new.instruction
    (omega (arith, c.loop-instruction-test.true, c.loop-instruction.auto.instruction-items)) c.loop-instruction.invariant c.turn.ensures

pub returns : goal.returns
returns c =
    turned-ends c.args.far c.args.near c.loop-instruction.instruction-index c.args.self.now.code.len c.args.self.now.code.items c.loop-instruction.instruction-items
    (omega (arith, c.loop-instruction-test.false, c.loop-instruction.auto.instruction-items)) c.args.self.now.code.ok.0 c.loop-instruction.invariant
