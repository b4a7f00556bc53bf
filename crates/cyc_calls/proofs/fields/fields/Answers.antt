use Rattle.std.proofs.Common.{Ok, ap, subst, ◌∙◌}
use Rattle.cyc_types.specs.TypedTrees.{Fields}
use Rattle.cyc_types.specs.TypedTreeView.{view_initial, arguments_of}
use Rattle.cyc_types.proofs.TypedTreeViewLemmas.{view_typed_fields}
use Rattle.cyc_scope.specs.inside.Code.{Gives}
use Rattle.cyc_calls.proofs.fields.fields.Goals as goal

pub returns : goal.returns
returns c =
    subst (λ o. Gives (λ b. view_initial b.value) c.boxed_initial.result o)
    (ap Ok (view_typed_fields c.set_all_kinds.new.values ∙ ap (λ cs. Fields (arguments_of cs)) c.set_all_kinds.ensures)) c.boxed_initial.ensures
