use Rattle.cyc_syntax.proofs.TreeViewLemmas.{view_try}
use Rattle.cyc_parse.proofs.handlers.guarded.Goals as goal

pub returns : goal.returns
returns c = view_try c.args.span c.args.body c.args.handlers.clauses c.args.handlers.default
