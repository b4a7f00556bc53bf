use Rattle.cyc_lower.specs.inside.Emission.{view_starts}
use Rattle.cyc_lower.proofs.emission.ExpressionEmitting.{made_element}
use Rattle.cyc_lower.proofs.emitter.Emitter.reach_element.Goals as goal

pub returns : goal.returns
returns c = (
  c.reached_operand.ensures,
  made_element (view_starts c.args.starts.now) c.args.span c.args.self.now.code.items c.emit.new.self.code.items c.reach.new.self.code.items c.args.index c.args.first c.in_ok-past.past c.in_ok-following.following c.args.free
      c.in_ok-past.ensures.0 c.in_ok-following.ensures.0 c.in_ok-emit.ensures c.in_ok-reach.ensures,
)
