use Rattle.std.proofs.Common.{Ok, ap, subst}
use Rattle.cyc_types.proofs.TypedTreeViewLemmas.{view_typed_binary}
use Rattle.cyc_scope.specs.inside.Code.{Gives}
use Rattle.cyc_operands.specs.inside.Operands.{view_boxed}
use Rattle.cyc_typing.proofs.operators.binary.Goals as goal

pub returns : goal.returns
returns c = subst (λ o. Gives view_boxed c.boxed.result o) (ap Ok (view_typed_binary c.args.first c.args.rest c.args.of_type)) c.boxed.ensures
