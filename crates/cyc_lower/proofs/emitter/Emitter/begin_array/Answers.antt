use Rattle.std.proofs.lemmas.Result.{on_ok_weaker}
use Rattle.cyc_lower.specs.inside.Emission.{view_starts}
use Rattle.cyc_lower.proofs.emission.Emitting.{made_begun}
use Rattle.cyc_lower.proofs.emitter.Emitter.begin_array.Goals as goal

pub returns : goal.returns
returns c =
    on_ok_weaker c.ask_for_array.result
    (made_begun (view_starts c.args.starts.now) c.args.self.now.code.items c.measure_array.new.self.code.items c.ask_for_array.new.self.code.items c.args.handle c.args.kind c.in_ok-following.following c.args.free c.in_ok-following.ensures.0 c.in_ok-measure_array.ensures)
    c.ask_for_array.ensures
