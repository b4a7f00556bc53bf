use Rattle.std.proofs.Common.{◌+◌, ◌<◌, length, map, drop, sym, ap, ◌∙◌, arith}
use Rattle.cyc_types.specs.TypeView.{view_ty}
use Rattle.cyc_types.specs.TypedTrees.{type_of}
use Rattle.cyc_types.specs.typing.Expressions.{paired_argument, paired_arguments}
use Rattle.cyc_operands.specs.inside.Operands.{value_in}
use Rattle.cyc_calls.specs.inside.Instances.{noted_places}
use Rattle.cyc_calls.proofs.Instances.{given_next}
use Rattle.cyc_calls.proofs.instance.note_arguments.Goals as goal

pub loop-i-preserved : goal.loop-i-preserved
loop-i-preserved c =
    let i = c.loop-i.i in
    let ts = c.args.parameters.now in
    let cs = c.args.values.now in
    let table = c.loop-i.table in
    let t = c.index-parameters-i.result in
    let v = c.index-values-i.result in
    let in_types : i < length ts = omega arith in
    let in_values : i < length cs = omega arith in
    let rest = paired_arguments (map view_ty (drop (i + 1) ts)) (map value_in (drop (i + 1) cs)) in
    ap (λ xs. noted_places xs rest) (c.note_given.ensures ∙ ap (λ g. noted_places table (paired_argument (view_ty t) g)) (c.by.ensures ∙ ap (λ x. type_of (value_in x)) (sym c.index-values-i.is)))
    ∙ sym (given_next ts cs i table t v in_types c.index-parameters-i.is in_values c.index-values-i.is) ∙ c.loop-i.invariant
