use Rattle.std.proofs.Common.{◌≡◌, ◌++◌, drop, option_map}
use Rattle.cyc_types.specs.Rules.{run}
use Rattle.cyc_types.specs.TypedTrees.{Clauses}
use Rattle.cyc_types.specs.TypedTreeView.{items_of, clauses_of}
use Rattle.cyc_types.specs.flow.Touched.{touched_items, touched_clauses}
use Rattle.cyc_types.specs.flow.Statements.{locks_of, rule_items, rule_clauses}
use Rattle.cyc_flow.specs.inside.Code.{view_state, known}
use Rattle.cyc_flow.specs.inside.Steps.{stands, view_loop}
use Rattle.cyc_flow.proofs.statements.Walk.+statement.Given as goal

abbrev pub invariant-check_clauses-loop-clause : goal.invariant-check_clauses-loop-clause
invariant-check_clauses-loop-clause l =
    ((rest : Clauses)
    → (run (rule_clauses (stands (option_map (λ a. view_loop a.now) l.around) l.self.locks.items) (view_state l.start) (clauses_of (drop l.clause-index l.clauses) rest) (known (view_state l.following.state) (view_state l.self.breaks)))
    ≡ run (rule_clauses (stands (option_map (λ a. view_loop a.now) l.around) l.fn.self.locks.items) (view_state l.start) (clauses_of l.clauses rest) (known (view_state l.fn.tracked.state) (view_state l.fn.self.breaks))))
    × (touched_clauses (clauses_of (drop l.clause-index l.clauses) rest) l.following.touched.numbers.list ≡ touched_clauses (clauses_of l.clauses rest) l.fn.tracked.touched.numbers.list))
    × (l.self.locks.items ≡ l.fn.self.locks.items)

abbrev pub invariant-check_items-loop-item : goal.invariant-check_items-loop-item
invariant-check_items-loop-item l =
    (run (rule_items (stands (option_map (λ a. view_loop a.now) l.around) l.self.locks.items) (items_of (drop l.item-index l.items)) (known (view_state l.following.state) (view_state l.self.breaks)))
    ≡ run (rule_items (stands (option_map (λ a. view_loop a.now) l.around) l.fn.self.locks.items) (items_of l.items) (known (view_state l.fn.tracked.state) (view_state l.fn.self.breaks))))
    × (touched_items (items_of (drop l.item-index l.items)) l.following.touched.numbers.list ≡ touched_items (items_of l.items) l.fn.tracked.touched.numbers.list)
    × (l.self.locks.items ++ locks_of (items_of (drop l.item-index l.items)) ≡ l.fn.self.locks.items ++ locks_of (items_of l.items))
