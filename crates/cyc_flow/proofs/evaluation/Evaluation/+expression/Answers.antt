use Rattle.cyc_flow.specs.inside.Code.{view_state, begun}
use Rattle.cyc_flow.proofs.KeptNodes.{kept_call, kept_binary, kept_fields}
use Rattle.cyc_flow.proofs.evaluation.Evaluation.+expression.Goals as goal

pub evaluate-returns-in-Call : goal.evaluate-returns-in-Call
evaluate-returns-in-Call t c =
    kept_call c.args.value.now c.in-Call.callee c.in-Call.arguments c.in-Call.result c.in-Call.is c.deref-in-Call.result.now c.deref-in-Call.ensures.value c.pass.result c.pass.new.self c.args.waiting.now (view_state c.args.self.now.state) c.args.self.now.touched.numbers.list (begun c.args.self.now) c.pass.ensures

pub evaluate-returns-in_ok-evaluate-in-Binary : goal.evaluate-returns-in_ok-evaluate-in-Binary
evaluate-returns-in_ok-evaluate-in-Binary t c =
    let h = c.in_ok-evaluate-in-Binary.ensures in
    kept_binary c.args.value.now c.in-Binary.first c.in-Binary.rest c.in-Binary.of_type c.in-Binary.is c.deref-in-Binary.result.now c.deref-in-Binary.ensures c.deref-in-Binary-2.result.now c.deref-in-Binary-2.ensures.value c.apply_operations.result c.apply_operations.new.self c.args.waiting.now (view_state c.args.self.now.state) (view_state c.evaluate-in-Binary.new.self.state) c.args.self.now.touched.numbers.list c.evaluate-in-Binary.new.self.touched.numbers.list (begun c.args.self.now) (begun c.evaluate-in-Binary.new.self) h.0 h.1 h.2 c.apply_operations.ensures

pub initialise-returns-in-Fields : goal.initialise-returns-in-Fields
initialise-returns-in-Fields t c =
    kept_fields c.args.initial.now c.in-Fields.values c.in-Fields.is c.deref.result.now c.deref.ensures.value c.pass.result c.pass.new.self c.args.waiting.now (view_state c.args.self.now.state) c.args.self.now.touched.numbers.list (begun c.args.self.now) c.pass.ensures
