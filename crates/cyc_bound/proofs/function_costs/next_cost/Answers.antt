use Rattle.std.proofs.Common.{List, length, get_or, min, sym, ap, ◌∙◌}
use Rattle.std.specs.Prelude.{map}
use Rattle.std.proofs.lemmas.Bool.{ltb-true}
use Rattle.cyc_types.specs.declared.typed.Function.{Function as FunctionCode}
use Rattle.cyc_types.specs.TypedTrees.{Function}
use Rattle.cyc_types.specs.TypedTreeView.{view_function}
use Rattle.cyc_bound.specs.Costs.{too_many, function_cost}
use Rattle.cyc_bound.proofs.CostsFound.{function_at}
use Rattle.cyc_bound.proofs.function_costs.next_cost.Goals as goal

pub returns-in-Some : goal.returns-in-Some
returns-in-Some c =
    let cost = λ (h : Function). min too_many (function_cost c.args.measure c.args.costs.now h) in
    let there = c.in-Some.ensures.lookup in
    c.function_cost.ensures
    ∙ sym (function_at cost c.deref.result.now c.args.function c.in-Some.function.now (ltb-true c.args.function (length c.deref.result.now) (sym there.0)) there.1)
    ∙ ap (λ (fs : List FunctionCode). get_or (map cost (map view_function fs)) c.args.function 0) c.deref.ensures.value
