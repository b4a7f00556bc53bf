-- This file defines one step in the traversal of each chain of operators, and the context of a statement. The context consists of
-- the enclosing loop and the locked locals (lent until a block ends).
use Rattle.std.specs.Prelude.{ℕ, List, Option, Some}
use Rattle.cyc_syntax.specs.inside.TreeView.{place_of_span}
use Rattle.cyc_types.specs.declared.typed.Operation.{Operation}
use Rattle.cyc_types.specs.declared.typed.Operation.TheVariants as operation
use Rattle.cyc_types.specs.TypedTreeView.{view_expression}
use Rattle.cyc_types.specs.Rules.{Rule, Part, gives}
use Rattle.cyc_types.specs.flow.States.{State, meet}
use Rattle.cyc_types.specs.flow.Touched.{touched}
use Rattle.cyc_types.specs.flow.Expressions.{and_peeked, rule}
use Rattle.cyc_types.specs.flow.Statements.{Loop, Around}
use Rattle.cyc_flow.specs.declared.statements.Loop.{Loop as LoopCode}
use Rattle.cyc_flow.specs.inside.Code.{view_state}

abbrev pub rule_operation : (waiting : List ℕ) → Operation → State → Rule State
rule_operation q (operation.Compute w o e) f = rule q (view_expression e) f
rule_operation q (operation.Test o e) f = Part (rule q (view_expression e) f) (λ g. gives (meet f g))
rule_operation q (operation.Pointer o e) f = rule q (view_expression e) f
rule_operation q (operation.PointerPeek n o e) f = rule (and_peeked (Some n) q) (view_expression e) f

abbrev pub touched_operation : Operation → List ℕ → List ℕ
touched_operation (operation.Compute w o e) ns = touched (view_expression e) ns
touched_operation (operation.Test o e) ns = touched (view_expression e) ns
touched_operation (operation.Pointer o e) ns = touched (view_expression e) ns
touched_operation (operation.PointerPeek n o e) ns = touched (view_expression e) ns

abbrev pub view_loop : LoopCode → Loop
view_loop l = record { place = place_of_span l.span; head = view_state l.head }

-- Returns the context of a statement: the enclosing loop, if any, and the locals that earlier declarations and statements have locked
-- (lent until the end of a block).
abbrev pub stands : Option Loop → List ℕ → Around
stands l ns = record { loop = l; locks = ns }
