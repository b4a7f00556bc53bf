use Rattle.std.specs.Prelude.{map}
use Rattle.cyc_words.proofs.Items.{slice_get-map_read}
use Rattle.cyc_types.specs.TypedTreeView.{view_struct, view_function}
use Rattle.cyc_plain.specs.inside.Program.{routine_of}
use Rattle.cyc_lower_proof.specs.inside.Lowering.{lower_function}
use Rattle.cyc_lower.proofs.Routines.{one_more_mapped}
use Rattle.cyc_lower.proofs.functions.lower_functions.Goals as goal

pub lower_function-requires-clause-few : goal.lower_function-requires-clause-few
lower_function-requires-clause-few c =
    let x = c.function-item.result in
    c.requires.few c.loop-function.function-index (view_function x) (slice_get-map_read view_function c.args.functions.now c.loop-function.function-index x c.loop-function-test.true c.function-item.is)

pub lower_function-requires-clause-close : goal.lower_function-requires-clause-close
lower_function-requires-clause-close c =
    let x = c.function-item.result in
    c.requires.close c.loop-function.function-index (view_function x) (slice_get-map_read view_function c.args.functions.now c.loop-function.function-index x c.loop-function-test.true c.function-item.is)

pub loop-function-preserved : goal.loop-function-preserved
loop-function-preserved c =
    one_more_mapped routine_of (lower_function (map view_struct c.args.structs.now) c.args.globals.now c.args.scopes) view_function c.loop-function.lowered.items c.push.new.self.items c.args.functions.now c.loop-function.function-index c.in_ok-lower_function.field-0 c.function-item.result
    c.loop-function-test.true c.function-item.is c.in_ok-push.ensures.items c.in_ok-lower_function.ensures c.loop-function.invariant
