use Rattle.std.proofs.Common.{◌≡◌, false, ap, sym, ◌∙◌}
use Rattle.std.specs.Prelude.{◌||◌}
use Rattle.cyc_types.specs.Types.{Ty}
use Rattle.cyc_types.specs.TypeView.{view_ty}
use Rattle.cyc_types.specs.TypedTrees.{Expression, Operations, Binary}
use Rattle.cyc_types.specs.TypedTreeView.{view_expression, operations_of}
use Rattle.cyc_lower_proof.specs.inside.Slots.{Starts}
use Rattle.cyc_lower_proof.specs.inside.ExpressionCode.{is_simple}
use Rattle.cyc_lower_proof.specs.inside.Lowering.{compares_light, is_guard}
use Rattle.cyc_lower.specs.inside.Emission.{view_starts}
use Rattle.cyc_lower.proofs.emission.Emitting.{binary_viewed}
use Rattle.cyc_lower.proofs.operands.+is_guard.Goals as goal

of_comparison : (starts : Starts) (a : Expression) (os : Operations) (ty : Ty) → is_simple starts (Binary a os ty) ≡ false → compares_light starts a os ≡ is_guard starts (Binary a os ty)
of_comparison starts a os ty simple = sym (ap (λ s. s || compares_light starts a os) simple)

pub returns-else-is_simple : goal.returns-else-is_simple
returns-else-is_simple t c =
    let starts = view_starts c.args.starts.now in
    let first = c.deref-else-is_simple.result.now in
    let items = c.deref-else-is_simple-2.result.now in
    let tree = binary_viewed c.args.condition.now c.in-Binary.first c.in-Binary.rest c.in-Binary.of_type c.in-Binary.is first c.deref-else-is_simple.ensures items c.deref-else-is_simple-2.ensures.value in
    c.compares_light.ensures
    ∙ of_comparison starts (view_expression first) (operations_of items) (view_ty c.in-Binary.of_type) (ap (is_simple starts) (sym tree) ∙ sym c.is_simple.ensures ∙ c.if-is_simple.false)
    ∙ ap (is_guard starts) (sym tree)
