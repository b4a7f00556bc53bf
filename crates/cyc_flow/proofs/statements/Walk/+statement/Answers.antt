use Rattle.std.proofs.Common.{option_map, sym, subst, ◌∙◌}
use Rattle.std.proofs.lemmas.Result.{err_from_is_err_and}
use Rattle.cyc_types.specs.TypedTreeView.{default_of}
use Rattle.cyc_flow.specs.inside.Code.{view_state, Stops, known}
use Rattle.cyc_flow.specs.inside.Steps.{stands, view_loop}
use Rattle.cyc_flow.proofs.KeptNodes.{kept_block, kept_swap, kept_loop, tried, tried_touched, no_default, with_default}
use Rattle.cyc_flow.proofs.statements.Walk.+statement.Goals as goal

pub check_statement-returns-in-Block-clause-known : goal.check_statement-returns-in-Block-clause-known
check_statement-returns-in-Block-clause-known t c =
    kept_block c.args.statement.now c.in-Block.region c.in-Block.items c.in-Block.is c.deref.result.now c.deref.ensures.value c.check_block.result (stands (option_map (λ a. view_loop a.now) c.args.around) c.args.self.now.locks.items) (known (view_state c.args.tracked.state) (view_state c.args.self.now.breaks)) c.args.tracked.touched.numbers.list (view_state c.check_block.new.self.breaks) c.check_block.ensures.known

pub check_statement-returns-in-Swap-clause-known : goal.check_statement-returns-in-Swap-clause-known
check_statement-returns-in-Swap-clause-known t c =
    kept_swap c.args.statement.now c.in-Swap.left c.in-Swap.right c.in-Swap.is c.swap.result (stands (option_map (λ a. view_loop a.now) c.args.around) c.args.self.now.locks.items) (view_state c.args.tracked.state) c.args.tracked.touched.numbers.list (view_state c.args.self.now.breaks) c.swap.ensures

pub check_statement-returns-in-While-clause-known : goal.check_statement-returns-in-While-clause-known
check_statement-returns-in-While-clause-known t c =
    kept_loop c.args.statement.now c.in-While.span c.in-While.condition c.in-While.body c.in-While.is c.deref-in-While.result.now c.deref-in-While.ensures c.check_loop.result (stands (option_map (λ a. view_loop a.now) c.args.around) c.args.self.now.locks.items) (known (view_state c.args.tracked.state) (view_state c.args.self.now.breaks)) c.args.tracked.touched.numbers.list (view_state c.check_loop.new.self.breaks) c.check_loop.ensures.known

pub check_statement-returns-in_err-following-in-Try-clause-known : goal.check_statement-returns-in_err-following-in-Try-clause-known
check_statement-returns-in_err-following-in-Try-clause-known t c =
    let e = c.in_err-following-in-Try.field-0.0 in
    let p = err_from_is_err_and c.from_residual-in_err-following-in-Try.result c.from_residual-in_err-following-in-Try.ensures.1 in
    let so = tried c.args.statement.now c.in-Try.body c.in-Try.clauses c.in-Try.default c.in-Try.is c.deref-in-Try.result.now c.deref-in-Try.ensures c.deref-in-Try-2.result.now c.deref-in-Try-2.ensures.value (option_map (λ a. view_loop a.now) c.args.around) c.args.self.now.locks.items c.check_statement-in-Try.new.self.locks.items c.in_ok-end-in-Try.ensures.locks (view_state c.args.tracked.state) (view_state c.args.self.now.breaks) (view_state c.in_ok-before-in-Try.before) (view_state c.in_ok-end-in-Try.end.state) (view_state c.check_statement-in-Try.new.self.breaks) (view_state c.emptied-start.result) (view_state c.after_body-following.result.state) c.in_ok-before-in-Try.ensures c.after_body-following.ensures.state c.in_ok-end-in-Try.ensures.known.0 c.args.tracked.touched.numbers.list c.none.result.numbers.list c.in_ok-end-in-Try.end.touched.numbers.list c.after_body-following.result.touched.numbers.list c.none.ensures c.in_ok-end-in-Try.ensures.known.1 c.emptied-start.ensures c.after_body-following.ensures.touched in
    rw (p.1, p.2) (subst (Stops e) (sym so) (c.in_err-following-in-Try.ensures.known (default_of c.in-Try.default)))

pub check_statement-returns-in-None-clause-known : goal.check_statement-returns-in-None-clause-known
check_statement-returns-in-None-clause-known t c =
    let so = tried c.args.statement.now c.in-Try.body c.in-Try.clauses c.in-Try.default c.in-Try.is c.deref-in-Try.result.now c.deref-in-Try.ensures c.deref-in-Try-2.result.now c.deref-in-Try-2.ensures.value (option_map (λ a. view_loop a.now) c.args.around) c.args.self.now.locks.items c.check_statement-in-Try.new.self.locks.items c.in_ok-end-in-Try.ensures.locks (view_state c.args.tracked.state) (view_state c.args.self.now.breaks) (view_state c.in_ok-before-in-Try.before) (view_state c.in_ok-end-in-Try.end.state) (view_state c.check_statement-in-Try.new.self.breaks) (view_state c.emptied-start.result) (view_state c.after_body-following.result.state) c.in_ok-before-in-Try.ensures c.after_body-following.ensures.state c.in_ok-end-in-Try.ensures.known.0 c.args.tracked.touched.numbers.list c.none.result.numbers.list c.in_ok-end-in-Try.end.touched.numbers.list c.after_body-following.result.touched.numbers.list c.none.ensures c.in_ok-end-in-Try.ensures.known.1 c.emptied-start.ensures c.after_body-following.ensures.touched in
    let touches = tried_touched c.args.statement.now c.in-Try.body c.in-Try.clauses c.in-Try.default c.in-Try.is c.deref-in-Try.result.now c.deref-in-Try.ensures c.deref-in-Try-2.result.now c.deref-in-Try-2.ensures.value (option_map (λ a. view_loop a.now) c.args.around) c.args.self.now.locks.items c.check_statement-in-Try.new.self.locks.items c.in_ok-end-in-Try.ensures.locks (view_state c.args.tracked.state) (view_state c.args.self.now.breaks) (view_state c.in_ok-before-in-Try.before) (view_state c.in_ok-end-in-Try.end.state) (view_state c.check_statement-in-Try.new.self.breaks) (view_state c.emptied-start.result) (view_state c.after_body-following.result.state) c.in_ok-before-in-Try.ensures c.after_body-following.ensures.state c.in_ok-end-in-Try.ensures.known.0 c.args.tracked.touched.numbers.list c.none.result.numbers.list c.in_ok-end-in-Try.end.touched.numbers.list c.after_body-following.result.touched.numbers.list c.none.ensures c.in_ok-end-in-Try.ensures.known.1 c.emptied-start.ensures c.after_body-following.ensures.touched in
    let rest = c.in_ok-following-in-Try.ensures.known (default_of c.in-Try.default) in
    no_default c.in-Try.default (option_map (λ a. view_loop a.now) c.args.around) c.check_statement-in-Try.new.self.locks.items (view_state c.emptied-start.result) (view_state c.in_ok-following-in-Try.following.state) (view_state c.check_clauses.new.self.breaks) _ _ c.in_ok-following-in-Try.following.touched.numbers.list (so ∙ rest.0) (touches ∙ rest.1) c.in-None.is

pub check_statement-returns-clause-known : goal.check_statement-returns-clause-known
check_statement-returns-clause-known t c =
    let so = tried c.args.statement.now c.in-Try.body c.in-Try.clauses c.in-Try.default c.in-Try.is c.deref-in-Try.result.now c.deref-in-Try.ensures c.deref-in-Try-2.result.now c.deref-in-Try-2.ensures.value (option_map (λ a. view_loop a.now) c.args.around) c.args.self.now.locks.items c.check_statement-in-Try.new.self.locks.items c.in_ok-end-in-Try.ensures.locks (view_state c.args.tracked.state) (view_state c.args.self.now.breaks) (view_state c.in_ok-before-in-Try.before) (view_state c.in_ok-end-in-Try.end.state) (view_state c.check_statement-in-Try.new.self.breaks) (view_state c.emptied-start.result) (view_state c.after_body-following.result.state) c.in_ok-before-in-Try.ensures c.after_body-following.ensures.state c.in_ok-end-in-Try.ensures.known.0 c.args.tracked.touched.numbers.list c.none.result.numbers.list c.in_ok-end-in-Try.end.touched.numbers.list c.after_body-following.result.touched.numbers.list c.none.ensures c.in_ok-end-in-Try.ensures.known.1 c.emptied-start.ensures c.after_body-following.ensures.touched in
    let touches = tried_touched c.args.statement.now c.in-Try.body c.in-Try.clauses c.in-Try.default c.in-Try.is c.deref-in-Try.result.now c.deref-in-Try.ensures c.deref-in-Try-2.result.now c.deref-in-Try-2.ensures.value (option_map (λ a. view_loop a.now) c.args.around) c.args.self.now.locks.items c.check_statement-in-Try.new.self.locks.items c.in_ok-end-in-Try.ensures.locks (view_state c.args.tracked.state) (view_state c.args.self.now.breaks) (view_state c.in_ok-before-in-Try.before) (view_state c.in_ok-end-in-Try.end.state) (view_state c.check_statement-in-Try.new.self.breaks) (view_state c.emptied-start.result) (view_state c.after_body-following.result.state) c.in_ok-before-in-Try.ensures c.after_body-following.ensures.state c.in_ok-end-in-Try.ensures.known.0 c.args.tracked.touched.numbers.list c.none.result.numbers.list c.in_ok-end-in-Try.end.touched.numbers.list c.after_body-following.result.touched.numbers.list c.none.ensures c.in_ok-end-in-Try.ensures.known.1 c.emptied-start.ensures c.after_body-following.ensures.touched in
    let rest = c.in_ok-following-in-Try.ensures.known (default_of c.in-Try.default) in
    with_default c.in-Try.default (option_map (λ a. view_loop a.now) c.args.around) c.check_statement-in-Try.new.self.locks.items (view_state c.emptied-start.result) (view_state c.in_ok-following-in-Try.following.state) (view_state c.check_clauses.new.self.breaks) _ _ c.in_ok-following-in-Try.following.touched.numbers.list (so ∙ rest.0) (touches ∙ rest.1) c.in-Some.body c.in-Some.is c.deref-in-Some.result.now c.deref-in-Some.ensures.value c.check_clauses.new.self.locks.items c.in_ok-following-in-Try.ensures.locks c.check_clause.result (view_state c.check_clause.new.self.breaks) c.check_clause.ensures.known
