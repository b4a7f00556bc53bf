use Rattle.std.proofs.Common.{ap, sym, ◌∙◌}
use Rattle.cyc_types.specs.Types.{ValueType}
use Rattle.cyc_meaning.specs.Parts.{target_of_value}
use Rattle.cyc_interpret.proofs.Nodes.{call_type, binary_type, unary_target}
use Rattle.cyc_interpret.proofs.places.target_by.Goals as goal

pub returns-in-Call : goal.returns-in-Call
returns-in-Call c = c.target_of_result.ensures ∙ sym (ap (λ (t : ValueType). target_of_value t) (call_type c.args.value.now c.in-Call.span c.in-Call.callee c.in-Call.arguments c.in-Call.result c.in-Call.is))

pub returns-in-Binary : goal.returns-in-Binary
returns-in-Binary c = c.target_of_type-in-Binary.ensures ∙ sym (ap (λ (t : ValueType). target_of_value t) (binary_type c.args.value.now c.in-Binary.first c.in-Binary.rest c.in-Binary.of_type c.in-Binary.is))

pub returns-in-Unary : goal.returns-in-Unary
returns-in-Unary c = unary_target c.args.value.now c.in-Unary.operator c.in-Unary.operand c.in-Unary.is
