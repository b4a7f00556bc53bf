use Rattle.std.proofs.Common.{sym, arith}
use Rattle.cyc_types.specs.TypedTreeView.{view_expression}
use Rattle.cyc_lower.specs.inside.Emission.{view_starts}
use Rattle.cyc_lower.proofs.emission.Conditions.{compares_alone}
use Rattle.cyc_lower.proofs.operands.compares_light.Goals as goal

pub returns-then-rest-ne1 : goal.returns-then-rest-ne1
returns-then-rest-ne1 c = sym (compares_alone (view_starts c.args.starts.now) (view_expression c.args.first.now) c.args.rest.now (λ one. omega (arith, one, c.if-rest-ne1.true)))
