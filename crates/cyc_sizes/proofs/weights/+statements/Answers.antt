use Rattle.std.proofs.Common.{refl, ap, arith}
use borrow.Author.Rules.{rules, get_or_read}
use Rattle.cyc_types.specs.declared.ty.Ty.TheFolds as types
use Rattle.cyc_types.specs.declared.typed.Stmt.{Stmt}
use Rattle.cyc_types.specs.declared.typed.Item.TheFolds as statements
use Rattle.cyc_types.specs.TypedTreeView.{view_statement}
use Rattle.cyc_types.specs.Weight.{statement_weight}
use Rattle.cyc_types.proofs.WeightLemmas.{else_written}
use Rattle.cyc_sizes.proofs.TokensCounted.{block_weighs, try_weighs}
use Rattle.cyc_sizes.proofs.weights.+statements.Goals as goal

pub statement_weight-items_weight-requires : goal.statement_weight-items_weight-requires
statement_weight-items_weight-requires t c =
    let e = block_weighs c.args.statement.now c.in-Block.region c.in-Block.items c.in-Block.is c.deref.result.now c.deref.ensures.value in
    (search (rules, types.the_lemmas, statements.the_lemmas, get_or_read), omega (arith, e, c.requires))

pub statement_weight-overflow_add-result : goal.statement_weight-overflow_add-result
statement_weight-overflow_add-result t c =
    let e = block_weighs c.args.statement.now c.in-Block.region c.in-Block.items c.in-Block.is c.deref.result.now c.deref.ensures.value in
    omega (arith, e, c.requires, c.items_weight.ensures)

pub statement_weight-returns-in-Block : goal.statement_weight-returns-in-Block
statement_weight-returns-in-Block t c =
    let e = block_weighs c.args.statement.now c.in-Block.region c.in-Block.items c.in-Block.is c.deref.result.now c.deref.ensures.value in
    omega (arith, e, c.items_weight.ensures)

pub statement_weight-statement_weight-requires-in-If : goal.statement_weight-statement_weight-requires-in-If
statement_weight-statement_weight-requires-in-If t c =
    let e = ap (λ (x : Stmt). statement_weight (view_statement x)) c.in-If.is in
    let same = ap (λ (x : Stmt). statement_weight (view_statement x)) c.deref-in-If-3.ensures in
    (search (rules, types.the_lemmas, statements.the_lemmas, get_or_read), omega (arith, e, same, else_written (view_statement c.in-If.otherwise.value), c.requires))

pub statement_weight-else_weight-requires : goal.statement_weight-else_weight-requires
statement_weight-else_weight-requires t c =
    let e = ap (λ (x : Stmt). statement_weight (view_statement x)) c.in-If.is in
    let same = ap (λ (x : Stmt). statement_weight (view_statement x)) c.deref-in-If-3.ensures in
    omega (arith, e, same, else_written (view_statement c.in-If.otherwise.value), c.requires, c.statement_weight-in-If.ensures)

pub statement_weight-clauses_weight-requires : goal.statement_weight-clauses_weight-requires
statement_weight-clauses_weight-requires t c =
    let e = try_weighs c.args.statement.now c.in-Try.body c.in-Try.clauses c.in-Try.default c.in-Try.is c.in-Try.body.value refl c.deref-in-Try.result.now c.deref-in-Try.ensures.value in
    (search (rules, types.the_lemmas, statements.the_lemmas, get_or_read), omega (arith, e, c.requires))

pub statement_weight-default_weight-requires : goal.statement_weight-default_weight-requires
statement_weight-default_weight-requires t c =
    let e = try_weighs c.args.statement.now c.in-Try.body c.in-Try.clauses c.in-Try.default c.in-Try.is c.in-Try.body.value refl c.deref-in-Try.result.now c.deref-in-Try.ensures.value in
    (search (rules, types.the_lemmas, statements.the_lemmas, get_or_read), omega (arith, e, c.requires))

pub statement_weight-overflow_add-caught : goal.statement_weight-overflow_add-caught
statement_weight-overflow_add-caught t c =
    let e = try_weighs c.args.statement.now c.in-Try.body c.in-Try.clauses c.in-Try.default c.in-Try.is c.in-Try.body.value refl c.deref-in-Try.result.now c.deref-in-Try.ensures.value in
    omega (arith, e, c.requires, c.clauses_weight.ensures, c.default_weight.ensures)

pub statement_weight-overflow_add-result-in-Try-2 : goal.statement_weight-overflow_add-result-in-Try-2
statement_weight-overflow_add-result-in-Try-2 t c =
    let e = try_weighs c.args.statement.now c.in-Try.body c.in-Try.clauses c.in-Try.default c.in-Try.is c.deref-in-Try-2.result.now c.deref-in-Try-2.ensures c.deref-in-Try.result.now c.deref-in-Try.ensures.value in
    omega (arith, e, c.requires, c.clauses_weight.ensures, c.default_weight.ensures, c.statement_weight-in-Try.ensures)

pub statement_weight-returns-in-Try : goal.statement_weight-returns-in-Try
statement_weight-returns-in-Try t c =
    let e = try_weighs c.args.statement.now c.in-Try.body c.in-Try.clauses c.in-Try.default c.in-Try.is c.deref-in-Try-2.result.now c.deref-in-Try-2.ensures c.deref-in-Try.result.now c.deref-in-Try.ensures.value in
    omega (arith, e, c.clauses_weight.ensures, c.default_weight.ensures, c.statement_weight-in-Try.ensures)
