use Rattle.std.proofs.Common.{refl, sym, ◌∙◌, arith}
use borrow.Author.Rules.{rules, get_or_read}
use Rattle.cyc_types.specs.declared.ty.Ty.TheFolds as types
use Rattle.cyc_types.specs.declared.typed.Item.TheFolds as statements
use Rattle.cyc_sizes.proofs.NeedsFound.{block_keeps, try_keeps}
use Rattle.cyc_sizes.proofs.frames.+kept.Goals as goal

pub kept_by-kept_by_items-requires : goal.kept_by-kept_by_items-requires
kept_by-kept_by_items-requires t c =
    let e = block_keeps c.args.statement.now c.in-Block.region c.in-Block.items c.in-Block.is c.deref.result.now c.deref.ensures.value in
    (search (rules, types.the_lemmas, statements.the_lemmas, get_or_read), omega (arith, e, c.requires))

pub kept_by-returns-in-Block : goal.kept_by-returns-in-Block
kept_by-returns-in-Block t c =
    c.kept_by_items.ensures ∙ sym (block_keeps c.args.statement.now c.in-Block.region c.in-Block.items c.in-Block.is c.deref.result.now c.deref.ensures.value)

pub kept_by-kept_by_clauses-requires : goal.kept_by-kept_by_clauses-requires
kept_by-kept_by_clauses-requires t c =
    let e = try_keeps c.args.statement.now c.in-Try.body c.in-Try.clauses c.in-Try.default c.in-Try.is c.in-Try.body.value refl c.deref-in-Try.result.now c.deref-in-Try.ensures.value in
    (search (rules, types.the_lemmas, statements.the_lemmas, get_or_read), omega (arith, e, c.requires))

pub kept_by-kept_by_default-requires : goal.kept_by-kept_by_default-requires
kept_by-kept_by_default-requires t c =
    let e = try_keeps c.args.statement.now c.in-Try.body c.in-Try.clauses c.in-Try.default c.in-Try.is c.in-Try.body.value refl c.deref-in-Try.result.now c.deref-in-Try.ensures.value in
    (search (rules, types.the_lemmas, statements.the_lemmas, get_or_read), omega (arith, e, c.requires))

pub kept_by-overflow_add-caught : goal.kept_by-overflow_add-caught
kept_by-overflow_add-caught t c =
    let e = try_keeps c.args.statement.now c.in-Try.body c.in-Try.clauses c.in-Try.default c.in-Try.is c.in-Try.body.value refl c.deref-in-Try.result.now c.deref-in-Try.ensures.value in
    omega (arith, e, c.requires, c.kept_by_clauses.ensures, c.kept_by_default.ensures)

pub kept_by-overflow_add-result-in-Try-2 : goal.kept_by-overflow_add-result-in-Try-2
kept_by-overflow_add-result-in-Try-2 t c =
    let e = try_keeps c.args.statement.now c.in-Try.body c.in-Try.clauses c.in-Try.default c.in-Try.is c.deref-in-Try-2.result.now c.deref-in-Try-2.ensures c.deref-in-Try.result.now c.deref-in-Try.ensures.value in
    omega (arith, e, c.requires, c.kept_by_clauses.ensures, c.kept_by_default.ensures, c.kept_by-in-Try.ensures)

pub kept_by-returns-in-Try : goal.kept_by-returns-in-Try
kept_by-returns-in-Try t c =
    let e = try_keeps c.args.statement.now c.in-Try.body c.in-Try.clauses c.in-Try.default c.in-Try.is c.deref-in-Try-2.result.now c.deref-in-Try-2.ensures c.deref-in-Try.result.now c.deref-in-Try.ensures.value in
    omega (arith, e, c.kept_by_clauses.ensures, c.kept_by_default.ensures, c.kept_by-in-Try.ensures)
