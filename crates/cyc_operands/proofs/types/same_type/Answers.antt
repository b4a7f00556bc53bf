use Rattle.cyc_types.specs.TypeView.{view_ty}
use Rattle.cyc_operands.proofs.TypeTests.{same_types}
use Rattle.cyc_operands.proofs.types.same_type.Goals as goal

pub returns : goal.returns
returns c = same_types (view_ty c.args.a.now) (view_ty c.args.b.now) c.equals.result c.equals.ensures
