use Rattle.std.proofs.Common.{◌<◌, ◌≤◌, inr, length, arith}
use Rattle.std.proofs.lemmas.List.{length-map}
use Rattle.cyc_types.specs.TypedTreeView.{view_function, view_program}
use Rattle.cyc_meaning.specs.Sizes.{max_functions}
use Rattle.cyc_lower.proofs.LoweringAnswers.{lowered, lowering_refused}
use Rattle.cyc_lower_proof.proofs.sizes.NeedBounds.{small_frames}
use Rattle.cyc_lower.proofs.Routines.{too_many_reported}
use Rattle.cyc_lower.proofs.program.lower.Goals as goal

pub returns-then-len-gt-MOST_FUNCTIONS : goal.returns-then-len-gt-MOST_FUNCTIONS
returns-then-len-gt-MOST_FUNCTIONS c =
    let t = c.args.program.now.tree in
    let more : max_functions < length t.functions.items = omega (arith, c.if-len-gt-MOST_FUNCTIONS.true, c.len.ensures, t.functions.ok.0) in
    lowering_refused (view_program t) c.new.result (inr (too_many_reported t c.index.result.now c.new.result more c.index.ensures c.new.ensures.code c.new.ensures.line c.new.ensures.column))

pub lower_tree-requires-clause-few : goal.lower_tree-requires-clause-few
lower_tree-requires-clause-few c = small_frames (view_program c.args.program.now.tree) c.requires.well_typed c.requires.small

pub returns : goal.returns
returns c =
    let t = c.args.program.now.tree in
    let few : length (view_program t).functions ≤ max_functions
    = omega (arith, c.if-len-gt-MOST_FUNCTIONS.false, c.len.ensures, t.functions.ok.0, length-map t.functions.items view_function) in
    lowered (view_program t) c.in_ok-plain.plain c.requires.well_typed c.requires.can_be few c.in_ok-plain.ensures
