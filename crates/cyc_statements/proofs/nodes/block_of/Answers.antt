use Rattle.std.proofs.Common.{Ok, ap, subst}
use Rattle.cyc_types.proofs.TypedTreeViewLemmas.{view_block}
use Rattle.cyc_scope.specs.inside.Code.{Gives}
use Rattle.cyc_statements.specs.inside.Nodes.{view_boxed_statement}
use Rattle.cyc_statements.proofs.nodes.block_of.Goals as goal

pub returns : goal.returns
returns c = subst (λ o. Gives view_boxed_statement c.boxed.result o) (ap Ok (view_block c.args.region c.args.items)) c.boxed.ensures
