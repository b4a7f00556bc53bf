use Rattle.std.proofs.Common.{Ok, ap, subst, ◌∙◌}
use Rattle.cyc_types.specs.TypedTrees.{Call}
use Rattle.cyc_types.specs.TypedTreeView.{arguments_of}
use Rattle.cyc_types.proofs.TypedTreeViewLemmas.{view_typed_call}
use Rattle.cyc_scope.specs.inside.Code.{Gives}
use Rattle.cyc_operands.specs.inside.Operands.{view_boxed}
use Rattle.cyc_calls.proofs.calls.call.Goals as goal

pub returns : goal.returns
returns c =
    subst (λ o. Gives view_boxed c.boxed.result o)
    (ap Ok (view_typed_call c.args.span c.args.callee c.args.arguments c.result_type-given.result ∙ ap (Call c.args.callee (arguments_of c.args.arguments.items)) c.result_type-given.ensures))
    c.boxed.ensures
