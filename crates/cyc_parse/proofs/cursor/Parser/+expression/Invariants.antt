use Rattle.std.proofs.Common.{◌≡◌, suc, ◌+◌, ◌-◌, ◌*◌}
use Rattle.cyc_syntax.specs.Trees.{MoreExpressions}
use Rattle.cyc_syntax.specs.inside.TreeView.{view_expression, then_postfix}
use Rattle.cyc_parse.specs.inside.Parsing.{separated}
use Rattle.cyc_parse.specs.inside.Expressions.{nested, begins_expression, more_values, values, postfixes, operations}
use Rattle.cyc_parse.specs.inside.Steps.{operand, then_operation}
use Rattle.cyc_parse.proofs.Loops.{with_front}
use Rattle.cyc_parse.proofs.Rounds.{with_items, next_item}
use Rattle.cyc_parse.proofs.cursor.Parser.+expression.Given as goal

abbrev pub decreases-parse_unary : goal.decreases-parse_unary
decreases-parse_unary l = 256 * l.room

abbrev pub decreases-parse_binary : goal.decreases-parse_binary
decreases-parse_binary l = 256 * l.room

abbrev pub decreases-parse_expression : goal.decreases-parse_expression
decreases-parse_expression l = 256 * l.room

abbrev pub decreases-parse_group : goal.decreases-parse_group
decreases-parse_group l = 256 * l.room

abbrev pub decreases-parse_initial : goal.decreases-parse_initial
decreases-parse_initial l = 256 * l.room

abbrev pub decreases-parse_group_here : goal.decreases-parse_group_here
decreases-parse_group_here l = 256 * l.room + 1

abbrev pub decreases-parse_argument_list : goal.decreases-parse_argument_list
decreases-parse_argument_list l = 256 * l.room + 2

abbrev pub decreases-parse_arguments : goal.decreases-parse_arguments
decreases-parse_arguments l = 256 * l.room + 3

abbrev pub decreases-parse_from_name : goal.decreases-parse_from_name
decreases-parse_from_name l = 256 * l.room + 4

abbrev pub decreases-parse_bracketed : goal.decreases-parse_bracketed
decreases-parse_bracketed l = 256 * l.room + 1

abbrev pub decreases-parse_primary : goal.decreases-parse_primary
decreases-parse_primary l = 256 * l.room + 5

abbrev pub decreases-parse_postfix : goal.decreases-parse_postfix
decreases-parse_postfix l = 256 * l.room + 1

abbrev pub decreases-parse_postfixes : goal.decreases-parse_postfixes
decreases-parse_postfixes l = 256 * l.room + 2

abbrev pub decreases-parse_rest_of_operand : goal.decreases-parse_rest_of_operand
decreases-parse_rest_of_operand l = 256 * l.room + 3

abbrev pub decreases-parse_with_postfixes : goal.decreases-parse_with_postfixes
decreases-parse_with_postfixes l = 256 * l.room + 6

abbrev pub decreases-parse_prefixed_by : goal.decreases-parse_prefixed_by
decreases-parse_prefixed_by l = 256 * l.room + 7

abbrev pub decreases-parse_prefixed : goal.decreases-parse_prefixed
decreases-parse_prefixed l = 256 * l.room + 1

abbrev pub decreases-parse_new : goal.decreases-parse_new
decreases-parse_new l = 256 * l.room + 1

abbrev pub decreases-parse_region_new : goal.decreases-parse_region_new
decreases-parse_region_new l = 256 * l.room + 1

abbrev pub decreases-parse_unary_here : goal.decreases-parse_unary_here
decreases-parse_unary_here l = 256 * l.room + 9

abbrev pub decreases-parse_long_operand : goal.decreases-parse_long_operand
decreases-parse_long_operand l = 256 * l.room + 8

abbrev pub decreases-parse_binary_here : goal.decreases-parse_binary_here
decreases-parse_binary_here l = 256 * l.room + 250

abbrev pub decreases-parse_assignment : goal.decreases-parse_assignment
decreases-parse_assignment l = 256 * l.room + 1

abbrev pub decreases-parse_expression_here : goal.decreases-parse_expression_here
decreases-parse_expression_here l = 256 * l.room + 251

abbrev pub decreases-parse_values : goal.decreases-parse_values
decreases-parse_values l = 256 * l.room + 2

abbrev pub decreases-parse_fields : goal.decreases-parse_fields
decreases-parse_fields l = 256 * l.room + 3

abbrev pub decreases-parse_array : goal.decreases-parse_array
decreases-parse_array l = 256 * l.room + 1

abbrev pub decreases-parse_initial_from_name : goal.decreases-parse_initial_from_name
decreases-parse_initial_from_name l = 256 * l.room + 5

abbrev pub decreases-parse_initial_here : goal.decreases-parse_initial_here
decreases-parse_initial_here l = 256 * l.room + 10

abbrev pub decreases-climb : goal.decreases-climb
decreases-climb l = 256 * l.room + 24 * l.level + 9

abbrev pub decreases-climb_above : goal.decreases-climb_above
decreases-climb_above l = 256 * l.room + 22 * l.most + 2 * (l.most - l.below) + 8

abbrev pub decreases-climb_level : goal.decreases-climb_level
decreases-climb_level l = 256 * l.room + 22 * l.most + 2 * (l.most - l.below) + 7

abbrev pub decreases-parse_operations : goal.decreases-parse_operations
decreases-parse_operations l = 256 * l.room + 24 * l.below + 12

abbrev pub decreases-parse_operand : goal.decreases-parse_operand
decreases-parse_operand l = 256 * l.room + 24 * l.below + 10

abbrev pub invariant-parse_argument_list-loop : goal.invariant-parse_argument_list-loop
invariant-parse_argument_list-loop l = with_items view_expression l.arguments.items (next_item l.room begins_expression (nested l.room).expression (64 - l.counter) l.self) ≡ separated l.room begins_expression (nested l.room).expression l.fn.self

abbrev pub invariant-parse_postfixes-loop : goal.invariant-parse_postfixes-loop
invariant-parse_postfixes-loop l = with_front then_postfix (λ f ps. f ps) l.postfixes.items (postfixes l.room (nested l.room) (64 - l.counter) l.self) ≡ postfixes l.room (nested l.room) 64 l.fn.self

abbrev pub invariant-parse_operations-loop : goal.invariant-parse_operations-loop
invariant-parse_operations-loop l = with_front then_operation (λ f os. f os) l.operations.items (operations (operand l.room (nested l.room) l.below) (suc l.below) (64 - l.counter) l.self) ≡ operations (operand l.room (nested l.room) l.below) (suc l.below) 64 l.fn.self

abbrev pub invariant-parse_values-loop : goal.invariant-parse_values-loop
invariant-parse_values-loop l = with_front view_expression MoreExpressions l.values.items (more_values l.room (nested l.room) (l.most - l.counter) l.self) ≡ values l.room (nested l.room) l.fn.self
