use Rattle.std.proofs.lemmas.Result.{err_from_is_err_and}
use Rattle.cyc_syntax.specs.inside.TreeView.{view_name, view_type}
use Rattle.cyc_statements.proofs.Aliases.{alias_stops}
use Rattle.cyc_statements.proofs.items.declare_alias.Goals as goal

pub returns-in_err-item-clause-gives : goal.returns-in_err-item-clause-gives
returns-in_err-item-clause-gives c =
    let e = c.in_err-item.field-0.0 in
    let p = err_from_is_err_and (c.from_residual-in_err-item).result (c.from_residual-in_err-item).ensures.1 in
    rw (p.1, p.2)
    (alias_stops c.args.scope.now c.open_region.new.self c.next_region-own.result (view_name c.args.region) (view_name c.args.name) (view_type c.args.written.now) (view_name c.args.source) e
    c.in_ok-open_region.ensures.opened c.next_region-own.ensures c.in_ok-is_region_new.ensures c.in_ok-is_type.ensures c.in_err-item.ensures)
