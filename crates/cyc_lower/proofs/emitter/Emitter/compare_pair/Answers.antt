use Rattle.cyc_types.specs.TypedTreeView.{view_expression}
use Rattle.cyc_lower.specs.inside.Emission.{view_starts}
use Rattle.cyc_lower.proofs.emission.Conditions.{pair_made}
use Rattle.cyc_lower.proofs.emitter.Emitter.compare_pair.Goals as goal

pub returns : goal.returns
returns c =
    pair_made (view_starts c.args.starts.now) (view_expression c.args.first.now) (view_expression c.args.second.now) c.args.failing c.in_ok-left.left c.in_ok-right.right
    c.args.self.now.code.items c.lower_first.new.self.code.items c.lower_operand.new.self.code.items c.args.free c.in_ok-following.following
    c.in_ok-following.ensures.0 c.in_ok-left.ensures.0 c.in_ok-left.ensures.1 c.in_ok-right.ensures.0 c.in_ok-right.ensures.1
