use Rattle.cyc_types.specs.TypedTreeView.{view_program}
use Rattle.cyc_lower_proof.proofs.sizes.NeedBounds.{small_frames}
use Rattle.cyc_lower.proofs.marks.marks_of.Goals as goal

pub marks_of_tree-requires-clause-few : goal.marks_of_tree-requires-clause-few
marks_of_tree-requires-clause-few c = small_frames (view_program c.args.program.now.tree) c.requires.well_typed c.requires.small
