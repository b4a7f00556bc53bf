use Rattle.std.proofs.lemmas.Result.{on_ok_weaker}
use Rattle.cyc_lower.specs.inside.Emission.{view_starts}
use Rattle.cyc_lower.proofs.emission.ExpressionEmitting.{made_reached}
use Rattle.cyc_lower.proofs.emitter.Emitter.reach.Goals as goal

pub returns : goal.returns
returns c =
    on_ok_weaker c.add_distance.result
    (made_reached (view_starts c.args.starts.now) c.args.span c.args.self.now.code.items c.scale.new.self.code.items c.stay_inside.new.self.code.items c.add_distance.new.self.code.items c.args.first c.args.index c.args.slot
    c.in_ok-distance.distance c.in_ok-distance.ensures.0 c.in_ok-scale.ensures c.in_ok-stay_inside.ensures)
    c.add_distance.ensures
