use Rattle.cyc_syntax.proofs.TreeViewLemmas.{view_fields}
use Rattle.cyc_parse.proofs.initials.struct_fields.Goals as goal

pub returns : goal.returns
returns c = view_fields c.args.name c.args.regions c.args.values
