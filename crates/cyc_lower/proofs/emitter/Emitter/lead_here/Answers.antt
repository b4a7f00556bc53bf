use Rattle.std.proofs.Common.{length, refl}
use Rattle.cyc_lower.proofs.emission.Conditions.{failed_place, failed_next, failed_done}
use Rattle.cyc_lower.proofs.emitter.Emitter.lead_here.Goals as goal

pub jump_here_if_failing-requires : goal.jump_here_if_failing-requires
jump_here_if_failing-requires c =
    failed_place c.args.jumps.now (length c.args.self.now.code.items) c.args.self.now.code.items c.loop-jump.jump-index c.loop-jump.self.code.items _ c.loop-jump-test.true c.loop-jump.invariant

pub loop-jump-init : goal.loop-jump-init
loop-jump-init c = (refl, refl, c.requires)

pub loop-jump-preserved : goal.loop-jump-preserved
loop-jump-preserved c =
    failed_next c.args.jumps.now (length c.args.self.now.code.items) c.args.self.now.code.items c.loop-jump.jump-index c.loop-jump.self.code.items c.jump_here_if_failing.new.self.code.items _ c.loop-jump-test.true c.jump_here_if_failing.ensures
    c.loop-jump.invariant

pub returns : goal.returns
returns c =
    failed_done c.args.jumps.now (length c.args.self.now.code.items) c.args.self.now.code.items c.loop-jump.jump-index c.loop-jump.self.code.items c.loop-jump-test.false c.loop-jump.invariant
