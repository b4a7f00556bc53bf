use Rattle.cyc_types.specs.TypedTreeView.{view_program}
use Rattle.cyc_bound.proofs.PageSums.{gives_by}
use Rattle.cyc_bound.proofs.pages.gives_back.Goals as goal

pub returns-in-Some : goal.returns-in-Some
returns-in-Some c = gives_by (view_program c.args.tree.now) c.in-Some.cost _ c.in-Some.is c.in_ok-cost.ensures
