use Rattle.std.proofs.Common.{min, sym, ap, ◌∙◌}
use Rattle.cyc_bound.specs.Costs.{too_many}
use Rattle.cyc_bound.proofs.AtOnceFound.{block_at_once, try_at_once}
use Rattle.cyc_bound.proofs.at_once.+at_once.Goals as goal

pub statement_at_once-returns-in-Block : goal.statement_at_once-returns-in-Block
statement_at_once-returns-in-Block t c =
    c.items_at_once.ensures
    ∙ ap (λ n. min too_many n) (sym (block_at_once c.args.measure c.args.costs.now c.args.statement.now c.in-Block.region c.in-Block.items c.in-Block.is c.deref.result.now c.deref.ensures.value))

pub statement_at_once-returns-in-Try : goal.statement_at_once-returns-in-Try
statement_at_once-returns-in-Try t c =
    try_at_once c.args.measure c.args.costs.now c.args.statement.now c.in-Try.body c.in-Try.clauses c.in-Try.default c.in-Try.is c.deref-in-Try.result.now c.deref-in-Try.ensures c.deref-in-Try-2.result.now c.deref-in-Try-2.ensures.value
    c.statement_at_once-tried.result c.clauses_at_once-caught.result c.default_at_once-last.result c.greater-in-Try.result c.greater-in-Try-2.result
    c.statement_at_once-tried.ensures c.clauses_at_once-caught.ensures c.default_at_once-last.ensures c.greater-in-Try.ensures c.greater-in-Try-2.ensures
