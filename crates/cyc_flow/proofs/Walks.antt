-- A chain of operators in an expression, which the flow check traverses in a loop, one operator after the other.
use Rattle.std.proofs.Common.{◌≡◌, ℕ, List, ◌∷◌, Ok, Err, refl}
use Rattle.cyc_types.specs.declared.typed.Operation.{Operation}
use Rattle.cyc_types.specs.declared.typed.Operation.TheVariants as operation
use Rattle.cyc_types.specs.TypedTreeView.{view_expression, operations_of}
use Rattle.cyc_types.specs.Rules.{Checked, and_then, run}
use Rattle.cyc_types.specs.flow.States.{State, meet}
use Rattle.cyc_types.specs.flow.Touched.{touched_operations}
use Rattle.cyc_types.specs.flow.Expressions.{rule, rule_operations}
use Rattle.cyc_flow.specs.inside.Steps.{rule_operation, touched_operation}

met_before_next : {X : Type 0} (r : Checked State) (f : State) (next : State → Checked X) → and_then r (λ g. next (meet f g)) ≡ and_then (and_then r (λ g. Ok (meet f g))) next
met_before_next (Ok g) f next = refl
met_before_next (Err x) f next = refl

pub operation_run : (q : List ℕ) (o : Operation) (os : List Operation) (f : State)
    → run (rule_operations q (operations_of (o ∷ os)) f) ≡ and_then (run (rule_operation q o f)) (λ g. run (rule_operations q (operations_of os) g))
operation_run q (operation.Compute w o e) os f = refl
operation_run q (operation.Test o e) os f = met_before_next (run (rule q (view_expression e) f)) f (λ g. run (rule_operations q (operations_of os) g))
operation_run q (operation.Pointer o e) os f = refl
operation_run q (operation.PointerPeek n o e) os f = refl

pub operation_touched : (o : Operation) (os : List Operation) (ns : List ℕ) → touched_operations (operations_of (o ∷ os)) ns ≡ touched_operations (operations_of os) (touched_operation o ns)
operation_touched (operation.Compute w o e) os ns = refl
operation_touched (operation.Test o e) os ns = refl
operation_touched (operation.Pointer o e) os ns = refl
operation_touched (operation.PointerPeek n o e) os ns = refl
