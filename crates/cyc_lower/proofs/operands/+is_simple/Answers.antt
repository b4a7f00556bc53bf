use Rattle.std.proofs.Common.{◌≡◌, true, refl, ap, sym, ◌∙◌}
use Rattle.std.specs.Prelude.{◌&&◌}
use Rattle.cyc_types.specs.Types.{Ty}
use Rattle.cyc_types.specs.TypeView.{view_ty}
use Rattle.cyc_types.specs.TypedTrees.{Expression, Operations, ThenCompute, Binary}
use Rattle.cyc_types.specs.TypedTreeView.{view_expression, operations_of}
use Rattle.cyc_lower_proof.specs.inside.Slots.{Starts}
use Rattle.cyc_lower_proof.specs.inside.ExpressionCode.{are_simple, is_simple}
use Rattle.cyc_lower.specs.inside.Emission.{is_simple_chain, view_starts}
use Rattle.cyc_lower.proofs.emission.Emitting.{binary_viewed}
use Rattle.cyc_lower.proofs.operands.+is_simple.Goals as goal

of_chain : (starts : Starts) (a : Expression) (os : Operations) (ty : Ty) → is_simple starts a ≡ true → is_simple_chain starts os ≡ is_simple starts (Binary a os ty)
of_chain starts a (ThenCompute o b os) ty simple = sym (ap (λ s. s && are_simple starts (ThenCompute o b os)) simple)
of_chain starts a os ty simple = refl

pub returns-then-is_simple : goal.returns-then-is_simple
returns-then-is_simple t c =
    let starts = view_starts c.args.starts.now in
    let first = c.deref-in-Binary.result.now in
    let items = c.deref-then-is_simple.result.now in
    c.is_simple_chain.ensures ∙ of_chain starts (view_expression first) (operations_of items) (view_ty c.in-Binary.of_type) (sym c.is_simple.ensures ∙ c.if-is_simple.true)
    ∙ ap (is_simple starts) (sym (binary_viewed c.args.value.now c.in-Binary.first c.in-Binary.rest c.in-Binary.of_type c.in-Binary.is first c.deref-in-Binary.ensures items c.deref-then-is_simple.ensures.value))
