use Rattle.std.proofs.Common.{◌≡◌, ◌++◌, List, length, sym, subst}
use Rattle.cyc_types.specs.declared.typed.LogicalOperator.{LogicalOperator}
use Rattle.cyc_types.specs.TypedTreeView.{view_expression}
use Rattle.cyc_lower.specs.declared.conditions.Pending.{Pending}
use Rattle.cyc_lower_proof.specs.inside.ControlCode.{turned_test}
use Rattle.cyc_lower_proof.specs.inside.Lowering.{choice_code, choice_of}
use Rattle.cyc_lower.specs.inside.Emission.{view_starts, AreBefore}
use Rattle.cyc_lower.proofs.emission.Conditions.{none_wait}
use Rattle.cyc_lower.proofs.emitter.Emitter.lower_settled.Goals as goal

pub returns : goal.returns
returns c =
    let place = length c.args.self.now.code.items in
    let (answers, made) =
    subst (λ (u : LogicalOperator). (c.in_ok-last.last ≡ choice_of (view_starts c.args.starts.now) u (view_expression c.args.value.now) c.args.free)
    × (c.lower_choice.new.self.code.items ≡ c.args.self.now.code.items ++ choice_code (view_starts c.args.starts.now) u (view_expression c.args.value.now) place c.args.free))
    c.turned_test-turned.ensures c.in_ok-last.ensures in (
      answers,
      none_wait (choice_code (view_starts c.args.starts.now) (turned_test c.args.operator) (view_expression c.args.value.now) place c.args.free) c.new.result.items place c.new.ensures.items,
      subst (λ (l : List Pending). AreBefore l (length c.lower_choice.new.self.code.items)) (sym c.new.ensures.items) tt,
      made,
    )
