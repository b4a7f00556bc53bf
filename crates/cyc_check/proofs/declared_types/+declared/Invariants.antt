use Rattle.std.proofs.Common.{◌≡◌, ◌++◌, map, drop}
use Rattle.cyc_types.specs.TypeView.{view_ty}
use Rattle.cyc_types.specs.TypedTrees.{NoClauses}
use Rattle.cyc_types.specs.TypedTreeView.{items_of, clauses_of}
use Rattle.cyc_types.specs.Declarations.{item_types, clause_types}
use Rattle.cyc_check.proofs.declared_types.+declared.Given as goal

abbrev pub invariant-add_item_types-loop-item : goal.invariant-add_item_types-loop-item
invariant-add_item_types-loop-item l =
    map view_ty l.types.items ++ item_types (items_of (drop l.item-index l.items)) ≡ map view_ty l.fn.types.items ++ item_types (items_of l.items)

abbrev pub invariant-add_clause_types-loop-clause : goal.invariant-add_clause_types-loop-clause
invariant-add_clause_types-loop-clause l =
    map view_ty l.types.items ++ clause_types (clauses_of (drop l.clause-index l.clauses) NoClauses) ≡ map view_ty l.fn.types.items ++ clause_types (clauses_of l.clauses NoClauses)
