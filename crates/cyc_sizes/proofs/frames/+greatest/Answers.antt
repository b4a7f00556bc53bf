use Rattle.std.proofs.Common.{refl, sym, ◌∙◌, arith}
use borrow.Author.Rules.{rules, get_or_read}
use Rattle.cyc_types.specs.declared.ty.Ty.TheFolds as types
use Rattle.cyc_types.specs.declared.typed.Item.TheFolds as statements
use Rattle.cyc_sizes.proofs.NeedsFound.{block_needs, try_needs}
use Rattle.cyc_sizes.proofs.frames.+greatest.Goals as goal

pub statement_need-items_need-requires : goal.statement_need-items_need-requires
statement_need-items_need-requires t c =
    let e = block_needs c.args.statement.now c.in-Block.region c.in-Block.items c.in-Block.is c.deref.result.now c.deref.ensures.value in
    (search (rules, types.the_lemmas, statements.the_lemmas, get_or_read), omega (arith, e, c.requires))

pub statement_need-returns-in-Block : goal.statement_need-returns-in-Block
statement_need-returns-in-Block t c =
    c.items_need.ensures ∙ sym (block_needs c.args.statement.now c.in-Block.region c.in-Block.items c.in-Block.is c.deref.result.now c.deref.ensures.value)

pub statement_need-clauses_need-requires : goal.statement_need-clauses_need-requires
statement_need-clauses_need-requires t c =
    let e = try_needs c.args.statement.now c.in-Try.body c.in-Try.clauses c.in-Try.default c.in-Try.is c.in-Try.body.value refl c.deref-in-Try.result.now c.deref-in-Try.ensures.value in
    (search (rules, types.the_lemmas, statements.the_lemmas, get_or_read), omega (arith, e, c.requires))

pub statement_need-default_need-requires : goal.statement_need-default_need-requires
statement_need-default_need-requires t c =
    let e = try_needs c.args.statement.now c.in-Try.body c.in-Try.clauses c.in-Try.default c.in-Try.is c.in-Try.body.value refl c.deref-in-Try.result.now c.deref-in-Try.ensures.value in
    (search (rules, types.the_lemmas, statements.the_lemmas, get_or_read), omega (arith, e, c.requires))

pub statement_need-returns-in-Try : goal.statement_need-returns-in-Try
statement_need-returns-in-Try t c =
    let e = try_needs c.args.statement.now c.in-Try.body c.in-Try.clauses c.in-Try.default c.in-Try.is c.deref-in-Try-2.result.now c.deref-in-Try-2.ensures c.deref-in-Try.result.now c.deref-in-Try.ensures.value in
    omega (arith, e, c.clauses_need.ensures, c.default_need.ensures, c.max-caught.ensures, c.statement_need-in-Try.ensures, c.max-in-Try.ensures)
