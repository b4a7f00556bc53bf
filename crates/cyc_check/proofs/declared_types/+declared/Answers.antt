use Rattle.std.proofs.Common.{◌≡◌, ◌++◌, map, OnOk, sym, ap, subst, ◌∙◌}
use Rattle.cyc_types.specs.TypeView.{view_ty}
use Rattle.cyc_types.specs.TypedTreeView.{view_statement, items_of}
use Rattle.cyc_types.specs.Declarations.{declared_types, item_types}
use Rattle.cyc_types.proofs.TypedTreeViewLemmas.{view_block}
use Rattle.cyc_check.proofs.DeclaredTypes.{try_viewed, try_types, default_types}
use Rattle.cyc_check.proofs.declared_types.+declared.Goals as goal

pub add_statement_types-returns-in-Block : goal.add_statement_types-returns-in-Block
add_statement_types-returns-in-Block t c =
    subst (λ s. OnOk c.add_item_types.result (map view_ty c.add_item_types.new.types.items ≡ map view_ty c.args.types.now.items ++ declared_types s)) (sym (ap view_statement c.in-Block.is ∙ view_block c.in-Block.region c.in-Block.items))
    (subst (λ is. OnOk c.add_item_types.result (map view_ty c.add_item_types.new.types.items ≡ map view_ty c.args.types.now.items ++ item_types (items_of is))) c.deref.ensures.value c.add_item_types.ensures)

pub add_statement_types-returns-in-None : goal.add_statement_types-returns-in-None
add_statement_types-returns-in-None t c =
    try_types (map view_ty c.args.types.now.items) (map view_ty c.add_statement_types-in-Try.new.types.items) (map view_ty c.add_clause_types.new.types.items) (view_statement c.args.statement.now) c.in-Try.body.value c.deref-in-Try.result.now
    c.in-Try.clauses.items c.deref-in-Try-2.result.now c.in-Try.default (try_viewed c.args.statement.now c.in-Try.body c.in-Try.clauses c.in-Try.default c.in-Try.is) c.deref-in-Try.ensures c.deref-in-Try-2.ensures.value c.in-None.is
    c.in_ok-add_statement_types-in-Try.ensures c.in_ok-add_clause_types-in-Try.ensures

pub add_statement_types-returns-in-Some : goal.add_statement_types-returns-in-Some
add_statement_types-returns-in-Some t c =
    subst (λ ts. OnOk c.add_item_types-in-Some.result (map view_ty c.add_item_types-in-Some.new.types.items ≡ ts))
    (default_types (map view_ty c.args.types.now.items) (map view_ty c.add_statement_types-in-Try.new.types.items) (map view_ty c.add_clause_types.new.types.items) (view_statement c.args.statement.now) c.in-Try.body.value c.deref-in-Try.result.now
    c.in-Try.clauses.items c.deref-in-Try-2.result.now c.in-Try.default c.in-Some.body c.deref-in-Some.result.now (try_viewed c.args.statement.now c.in-Try.body c.in-Try.clauses c.in-Try.default c.in-Try.is) c.deref-in-Try.ensures c.deref-in-Try-2.ensures.value
    c.in-Some.is c.deref-in-Some.ensures.value c.in_ok-add_statement_types-in-Try.ensures c.in_ok-add_clause_types-in-Try.ensures)
    c.add_item_types-in-Some.ensures
