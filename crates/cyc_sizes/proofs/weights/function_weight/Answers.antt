use Rattle.std.proofs.Common.{List, ap, arith}
use Rattle.cyc_types.specs.declared.typed.Item.{Item}
use Rattle.cyc_types.specs.TypedTreeView.{items_of}
use Rattle.cyc_types.specs.Weight.{items_weight}
use Rattle.cyc_sizes.proofs.TokensCounted.{parameters_weigh}
use Rattle.cyc_sizes.proofs.weights.function_weight.Goals as goal

pub overflow_mul-len : goal.overflow_mul-len
overflow_mul-len c = omega (arith, parameters_weigh c.args.function.now.parameters.items, c.requires)

pub overflow_add-result : goal.overflow_add-result
overflow_add-result c = omega (arith, parameters_weigh c.args.function.now.parameters.items, c.requires, c.len.ensures, c.saturating_sub-parameters.ensures)

pub overflow_add-result-2 : goal.overflow_add-result-2
overflow_add-result-2 c =
    let body = ap (λ (js : List Item). items_weight (items_of js)) c.deref.ensures.value in
    omega (arith, parameters_weigh c.args.function.now.parameters.items, body, c.requires, c.len.ensures, c.saturating_sub-parameters.ensures, c.items_weight.ensures)

pub returns : goal.returns
returns c =
    let body = ap (λ (js : List Item). items_weight (items_of js)) c.deref.ensures.value in
    omega (arith, parameters_weigh c.args.function.now.parameters.items, body, c.len.ensures, c.saturating_sub-parameters.ensures, c.items_weight.ensures)
