use Rattle.std.proofs.Common.{◌++◌, refl}
use Rattle.std.proofs.lemmas.Result.{on_ok_weaker}
use Rattle.cyc_words.proofs.Lists.{append_one_part, append_two_parts}
use Rattle.cyc_types.specs.TypedTrees.{NoClauses}
use Rattle.cyc_types.specs.TypedTreeView.{view_statement, items_of, clauses_of, default_of}
use Rattle.cyc_bound.specs.Callees.{statement_callees, items_callees, clauses_callees}
use Rattle.cyc_bound.proofs.CalleesFound.{block_calls, try_calls}
use Rattle.cyc_bound.proofs.callees.+statements.Goals as goal

pub add_statement-returns-in-Block : goal.add_statement-returns-in-Block
add_statement-returns-in-Block t c =
    let items = c.deref.result.now in
    let e = block_calls c.args.statement.now c.in-Block.region c.in-Block.items c.in-Block.is items c.deref.ensures.value in
    on_ok_weaker c.add_items.result (append_one_part c.add_items.new.found.items c.args.found.now.items (items_callees (items_of items)) _ e) c.add_items.ensures

pub add_statement-returns-in_ok-add_clauses-in-Try : goal.add_statement-returns-in_ok-add_clauses-in-Try
add_statement-returns-in_ok-add_clauses-in-Try t c =
    let body = c.deref-in-Try.result.now in
    let clauses = c.deref-in-Try-2.result.now in
    let old = c.args.found.now.items in
    let middle = c.add_clauses.new.found.items in
    let first = statement_callees (view_statement body) in
    let second = clauses_callees (clauses_of clauses NoClauses) in
    let e = try_calls c.args.statement.now c.in-Try.body c.in-Try.clauses c.in-Try.default c.in-Try.is body c.deref-in-Try.ensures clauses c.deref-in-Try-2.ensures.value in
    let before = append_two_parts middle c.add_statement-in-Try.new.found.items old first second (first ++ second) refl c.in_ok-add_statement-in-Try.ensures c.in_ok-add_clauses-in-Try.ensures in
    on_ok_weaker c.add_default.result
    (append_two_parts c.add_default.new.found.items middle old (first ++ second) (clauses_callees (default_of c.in-Try.default)) (statement_callees (view_statement c.args.statement.now)) e before)
    c.add_default.ensures
