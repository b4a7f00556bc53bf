use Rattle.std.proofs.Common.{◌≡◌, map, drop}
use Rattle.cyc_syntax.specs.inside.TreeView.{place_of_span, expressions_of, postfixes_of, operations_of}
use Rattle.cyc_types.specs.Rules.{gives, run}
use Rattle.cyc_types.specs.typing.Expressions.{Reached, rule_all, rule_chain, rule_postfixed, rule_further}
use Rattle.cyc_operands.specs.inside.Operands.{view_given, view_boxed, value_in}
use Rattle.cyc_typing.specs.inside.Forms.{IsReached}
use Rattle.cyc_expressions.specs.inside.Walks.{left_of, peeked_after}
use Rattle.cyc_expressions.proofs.Chains.{after_values, after_operations}
use Rattle.cyc_expressions.proofs.walk.+expression.Given as goal

abbrev pub invariant-check_values-loop-expression : goal.invariant-check_values-loop-expression
invariant-check_values-loop-expression l = record {
  same : l.scope ≡ l.fn.scope;
  gives : after_values (map value_in l.values.items) (run (rule_all l.fn.scope (expressions_of (drop l.expression-index l.expressions)))) ≡ run (rule_all l.fn.scope (expressions_of l.expressions));
}

abbrev pub invariant-check_operations-loop-operation : goal.invariant-check_operations-loop-operation
invariant-check_operations-loop-operation l = record {
  same : l.scope ≡ l.fn.scope;
  gives :
      after_operations l.rest.items (run (rule_chain l.fn.scope (place_of_span l.first.span) (peeked_after l.first.peeked l.of_type) (left_of (view_given l.first.given) l.of_type) (operations_of (drop l.operation-index l.operations))))
      ≡ run (rule_chain l.fn.scope (place_of_span l.first.span) l.first.peeked (view_given l.first.given) (operations_of l.operations));
}

abbrev pub invariant-check_postfixes-loop-i : goal.invariant-check_postfixes-loop-i
invariant-check_postfixes-loop-i l = record {
  same : l.scope ≡ l.fn.scope;
  reached : Reached;
  is : IsReached l.cell reached;
  gives : run (rule_further l.fn.scope (place_of_span l.span) reached (postfixes_of (drop l.i l.postfixes))) ≡ run (rule_postfixed l.fn.scope (place_of_span l.span) (gives (view_boxed l.fn.value)) (postfixes_of l.postfixes));
}
