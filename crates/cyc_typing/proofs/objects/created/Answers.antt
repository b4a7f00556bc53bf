use Rattle.std.proofs.Common.{subst}
use Rattle.cyc_scope.specs.inside.Code.{Gives}
use Rattle.cyc_operands.specs.inside.Operands.{view_boxed}
use Rattle.cyc_typing.proofs.Handed.{created_is}
use Rattle.cyc_typing.proofs.objects.created.Goals as goal

pub returns : goal.returns
returns c = λ w m h k. subst (λ o. Gives view_boxed c.create.result o) (created_is c.args.placed c.args.made w m h k) c.create.ensures
