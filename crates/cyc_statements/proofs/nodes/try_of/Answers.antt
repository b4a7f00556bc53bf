use Rattle.std.proofs.Common.{Ok, ap, subst}
use Rattle.cyc_types.proofs.TypedTreeViewLemmas.{view_typed_try}
use Rattle.cyc_scope.specs.inside.Code.{Gives}
use Rattle.cyc_statements.specs.inside.Nodes.{view_boxed_statement}
use Rattle.cyc_statements.proofs.nodes.try_of.Goals as goal

pub returns : goal.returns
returns c = subst (λ o. Gives view_boxed_statement c.boxed.result o) (ap Ok (view_typed_try c.args.span c.args.body c.args.clauses c.args.default)) c.boxed.ensures
