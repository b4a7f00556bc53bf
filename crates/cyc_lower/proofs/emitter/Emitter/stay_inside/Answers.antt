use Rattle.std.proofs.lemmas.Result.{on_ok_weaker}
use Rattle.cyc_lower.specs.inside.Emission.{view_starts}
use Rattle.cyc_lower.proofs.emission.ExpressionEmitting.{made_inside}
use Rattle.cyc_lower.proofs.emitter.Emitter.stay_inside.Goals as goal

pub returns : goal.returns
returns c =
    on_ok_weaker c.emit_three.result
    (made_inside (view_starts c.args.starts.now) c.args.self.now.code.items c.emit_three.new.self.code.items c.args.first c.args.index c.in_ok-following.following c.place-inside.result c.in_ok-following.ensures.0 c.place-inside.ensures)
    c.emit_three.ensures
