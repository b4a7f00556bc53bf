use Rattle.std.proofs.Common.{◌≡◌, ◌+◌, ◌-◌, ◌*◌, length}
use Rattle.cyc_syntax.specs.Trees.{MoreItems}
use Rattle.cyc_syntax.specs.inside.TreeView.{view_item}
use Rattle.cyc_parse.specs.inside.Statements.{nested_statements, clauses_in, items_in, items}
use Rattle.cyc_parse.specs.inside.StatementSteps.{then_clause}
use Rattle.cyc_parse.proofs.Loops.{with_front}
use Rattle.cyc_parse.proofs.cursor.Parser.+statement.Given as goal

abbrev pub decreases-parse_statement : goal.decreases-parse_statement
decreases-parse_statement l = 16 * l.room

abbrev pub decreases-parse_items : goal.decreases-parse_items
decreases-parse_items l = 16 * l.room

abbrev pub decreases-parse_block : goal.decreases-parse_block
decreases-parse_block l = 16 * l.room + 1

abbrev pub decreases-parse_named_statement : goal.decreases-parse_named_statement
decreases-parse_named_statement l = 16 * l.room + 2

abbrev pub decreases-parse_block_statement : goal.decreases-parse_block_statement
decreases-parse_block_statement l = 16 * l.room + 2

abbrev pub decreases-parse_else_part : goal.decreases-parse_else_part
decreases-parse_else_part l = 16 * l.room + 1

abbrev pub decreases-parse_if : goal.decreases-parse_if
decreases-parse_if l = 16 * l.room + 2

abbrev pub decreases-parse_while : goal.decreases-parse_while
decreases-parse_while l = 16 * l.room + 1

abbrev pub decreases-parse_clause : goal.decreases-parse_clause
decreases-parse_clause l = 16 * l.room + 1

abbrev pub decreases-parse_default_clause : goal.decreases-parse_default_clause
decreases-parse_default_clause l = 16 * l.room + 1

abbrev pub decreases-parse_handlers : goal.decreases-parse_handlers
decreases-parse_handlers l = 16 * l.room + 2

abbrev pub decreases-parse_clauses : goal.decreases-parse_clauses
decreases-parse_clauses l = 16 * l.room + 3

abbrev pub decreases-parse_try : goal.decreases-parse_try
decreases-parse_try l = 16 * l.room + 4

abbrev pub decreases-parse_statement_here : goal.decreases-parse_statement_here
decreases-parse_statement_here l = 16 * l.room + 5

abbrev pub decreases-parse_item : goal.decreases-parse_item
decreases-parse_item l = 16 * l.room + 6

abbrev pub decreases-parse_items_here : goal.decreases-parse_items_here
decreases-parse_items_here l = 16 * l.room + 8

abbrev pub invariant-parse_handlers-loop : goal.invariant-parse_handlers-loop
invariant-parse_handlers-loop l = with_front then_clause (λ f cs. f cs) l.clauses.items (clauses_in l.room (nested_statements l.room) (l.most - l.counter) l.self) ≡ clauses_in l.room (nested_statements l.room) (length l.fn.self) l.fn.self

abbrev pub invariant-parse_items_here-loop : goal.invariant-parse_items_here-loop
invariant-parse_items_here-loop l = with_front view_item MoreItems l.items.items (items_in l.room (nested_statements l.room) (l.most - l.counter) l.self) ≡ items l.room (nested_statements l.room) l.fn.self
