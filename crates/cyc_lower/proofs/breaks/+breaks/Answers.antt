use Rattle.std.proofs.Common.{sym, ◌∙◌}
use Rattle.cyc_lower.proofs.emission.Breaks.{block_breaks, body_leaves, clauses_leave, default_leaves}
use Rattle.cyc_lower.proofs.breaks.+breaks.Goals as goal

pub breaks-returns-in-Block : goal.breaks-returns-in-Block
breaks-returns-in-Block t c =
    c.items_break.ensures ∙ sym (block_breaks c.args.statement.now c.in-Block.region c.in-Block.items c.in-Block.is c.deref.result.now c.deref.ensures.value)

pub breaks-returns-then-breaks-2 : goal.breaks-returns-then-breaks-2
breaks-returns-then-breaks-2 t c =
    body_leaves c.args.statement.now c.in-Try.body c.in-Try.clauses c.in-Try.default c.in-Try.is c.deref-in-Try.result.now c.deref-in-Try.ensures (sym c.breaks-in-Try.ensures ∙ c.if-breaks-2.true)

pub breaks-returns-then-clauses_break : goal.breaks-returns-then-clauses_break
breaks-returns-then-clauses_break t c =
    clauses_leave c.args.statement.now c.in-Try.body c.in-Try.clauses c.in-Try.default c.in-Try.is c.deref-in-Try.result.now c.deref-in-Try.ensures c.deref-in-Try-2.result.now c.deref-in-Try-2.ensures.value
    (sym c.breaks-in-Try.ensures ∙ c.if-breaks-2.false) (sym c.clauses_break.ensures ∙ c.if-clauses_break.true)

pub breaks-returns-else-clauses_break : goal.breaks-returns-else-clauses_break
breaks-returns-else-clauses_break t c =
    c.default_breaks.ensures
    ∙ default_leaves c.args.statement.now c.in-Try.body c.in-Try.clauses c.in-Try.default c.in-Try.is c.deref-in-Try.result.now c.deref-in-Try.ensures c.deref-in-Try-2.result.now c.deref-in-Try-2.ensures.value
    (sym c.breaks-in-Try.ensures ∙ c.if-breaks-2.false) (sym c.clauses_break.ensures ∙ c.if-clauses_break.false)
