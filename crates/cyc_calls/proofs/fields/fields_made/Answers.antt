use Rattle.std.proofs.Common.{rules, ◌≡◌, map, None, sym, ◌∙◌}
use Rattle.cyc_syntax.specs.inside.TreeView.{view_name, expressions_of}
use Rattle.cyc_types.specs.TypeView.{view_ty}
use Rattle.cyc_types.specs.TypedTrees.{Fields}
use Rattle.cyc_types.specs.TypedTreeView.{view_initial, arguments_of}
use Rattle.cyc_types.specs.Rules.{settled}
use Rattle.cyc_types.specs.typing.Expressions.{field_types, arguments_written, fields_known}
use Rattle.cyc_operands.specs.inside.Operands.{value_in}
use Rattle.cyc_calls.specs.inside.Passing.{all_with_kinds, fields_asked}
use Rattle.cyc_calls.proofs.NewStructs.{asked_is, initial_is}
use Rattle.cyc_calls.proofs.fields.fields_made.Goals as goal

pub returns : goal.returns
returns c =
    let g = c.args.scope.now in
    let s = view_name c.args.name in
    let rs = map view_name c.args.regions.now in
    let es = expressions_of c.args.expressions.now in
    let cs = c.args.values.items in
    let us = c.in_ok-types.types.items in
    let known = c.demand_fields.new.so_far.known in
    let types : map view_ty us ≡ field_types (arguments_written g s rs) (fields_known g s) = search rules in
    let asked : known ≡ settled None (fields_asked g s rs es (map value_in cs) (map view_ty us)) = search rules in
    let same : c.in_ok-new.field-0.value.settled.known ≡ known = search rules in
    let content : view_initial c.in_ok-new.field-0.value.initial.value ≡ Fields (arguments_of (all_with_kinds cs us)) = search rules in
    record {
      asked = same ∙ asked ∙ asked_is g s rs es cs us types;
      initial = λ n. content ∙ initial_is g s rs es cs us known asked types (sym same ∙ n);
      target = search rules;
      mark = search rules;
    }
