use Rattle.cyc_syntax.proofs.TreeViewLemmas.{view_labelled}
use Rattle.cyc_parse.proofs.statements.labelled.Goals as goal

pub returns : goal.returns
returns c = view_labelled c.args.label c.args.block
