use borrow.Author.Rules.{rules, get_or_read}
use Rattle.std.proofs.Common.{ℕ, ◌+◌, true, List, [], ◌∷◌, ◌++◌, length, set, Option, ◌∙◌, refl, sym, ap, arith}
use Rattle.std.proofs.lemmas.Result.{on_ok_weaker}
use Rattle.std.proofs.lemmas.List.{length-append}
use Rattle.cyc_types.specs.declared.ty.Ty.TheFolds as types
use Rattle.cyc_types.specs.declared.typed.Stmt.{Stmt}
use Rattle.cyc_types.specs.declared.typed.Item.{Item}
use Rattle.cyc_types.specs.declared.typed.Item.TheFolds as statements
use Rattle.cyc_types.specs.declared.typed.Body.{Body}
use Rattle.cyc_types.specs.TypedTreeView.{view_expression, view_statement, items_of, default_of}
use Rattle.cyc_meaning.specs.FrameCount.{kept_by, kept_by_items, kept_by_clauses}
use Rattle.cyc_plain.specs.declared.instruction.Instruction.{Instruction}
use Rattle.cyc_plain.specs.declared.instruction.Instruction.TheVariants.{Jump, Leave}
use Rattle.cyc_lower_proof.specs.inside.ControlCode.{other_jump, inside_try, is_nothing}
use Rattle.cyc_lower_proof.specs.inside.Lowering.{items_code, statement_code, goes_through}
use Rattle.cyc_lower_proof.specs.declared.exits.Exits.{Exits}
use Rattle.cyc_lower_proof.specs.declared.exits.Opened.{Opened}
use Rattle.cyc_lower.specs.inside.Emission.{view_starts}
use Rattle.cyc_lower.proofs.emission.Branching.{made_block, made_if, made_then, made_alone, if_viewed, item_room, more_items, closes_begin, closes_next, closes_end}
use Rattle.cyc_lower.proofs.emission.Conditions.{before_more}
use Rattle.cyc_lower.proofs.emission.Loops.{made_loop, entering_keeps, made_through, made_while}
use Rattle.cyc_lower.proofs.emission.Handlers.{kept_of_clause, made_clause, made_clauses, more_clauses, made_handler, record_room, clauses_longer, body_longer}
use Rattle.cyc_lower.proofs.emission.Emitting.{no_shorter_than}
use Rattle.cyc_sizes.proofs.NeedsFound.{block_keeps, try_keeps}
use Rattle.cyc_lower.proofs.emitter.Emitter.+statement.Goals as goal

pub lower_loop-returns : goal.lower_loop-returns
lower_loop-returns t c =
    let code = c.reserve.new.self.code.items in
    made_loop (view_starts c.args.starts.now) (view_expression c.args.condition.now) (view_statement c.args.body.now) c.args.exits c.args.free c.in_ok-condition.condition c.in_ok-condition.ensures.0 c.args.self.now.code.items (Jump 0)
    c.begin_loop.new.self.code.items code c.lower_statement.new.self.code.items c.enter_loop.new.self.code.items c.lower_choice.new.self.code.items c.emit.new.self.code.items c.jump_here.new.self.code.items
    c.place-head.result c.in_ok-leaving.leaving c.place-again.result c.place-head.ensures
    c.in_ok-begin_loop.ensures c.in_ok-leaving.ensures.0 c.in_ok-leaving.ensures.1 c.place-again.ensures
    (c.in_ok-lower_statement.ensures ∙ ap (λ (o : Opened). code ++ statement_code (view_starts c.args.starts.now) (view_statement c.args.body.now) (length code) (record { head = c.place-head.result; leaving = c.in_ok-leaving.leaving; in_loop = o; in_function = c.args.exits.in_function }) c.args.free) c.nothing_opened.ensures)
    c.enter_loop.ensures c.in_ok-condition.ensures.1 (c.in_ok-emit.ensures ∙ ap (λ (i : Instruction). c.lower_choice.new.self.code.items ++ i ∷ []) c.holding_jump.ensures)
    c.jump_here.ensures

pub lower_loop-jump_here-requires : goal.lower_loop-jump_here-requires
lower_loop-jump_here-requires t c =
    let zero = ap length c.in_ok-leaving.ensures.1 ∙ length-append c.begin_loop.new.self.code.items (Jump 0 ∷ []) in
    let one = no_shorter_than c.reserve.new.self.code.items _ c.lower_statement.new.self.code.items c.in_ok-lower_statement.ensures in
    let same = entering_keeps (view_starts c.args.starts.now) (view_expression c.args.condition.now) c.lower_statement.new.self.code.items c.place-head.result c.enter_loop.new.self.code.items c.enter_loop.ensures in
    let two = no_shorter_than c.enter_loop.new.self.code.items _ c.lower_choice.new.self.code.items c.in_ok-condition.ensures.1 in
    let three = no_shorter_than c.lower_choice.new.self.code.items _ c.emit.new.self.code.items c.in_ok-emit.ensures in
    omega (arith, zero, one, same, two, three, c.in_ok-leaving.ensures.0)

pub lower_form-returns-in-Block : goal.lower_form-returns-in-Block
lower_form-returns-in-Block t c =
    on_ok_weaker c.lower_items.result
    (made_block (view_starts c.args.starts.now) c.args.statement.now c.in-Block.region c.in-Block.items c.in-Block.is c.deref.result.now c.deref.ensures.value c.args.self.now.code.items c.lower_items.new.self.code.items c.args.exits c.args.free)
    c.lower_items.ensures

pub lower_then-returns : goal.lower_then-returns
lower_then-returns t c =
    made_then (view_starts c.args.starts.now) (view_expression c.args.condition.now) (view_statement c.args.then.now) c.args.exits c.args.free c.in_ok-tested.tested.last c.in_ok-tested.tested.early.items c.in_ok-tested.ensures.0 c.args.self.now.code.items c.in_ok-tested.ensures.1 (Jump 0)
    c.lower_branch.new.self.code.items c.reserve.new.self.code.items c.lower_statement.new.self.code.items c.fail_here.new.self.code.items c.in_ok-over.over
    c.in_ok-tested.ensures.3 c.in_ok-over.ensures.0 c.in_ok-over.ensures.1 c.in_ok-lower_statement.ensures c.fail_here.ensures.code

pub lower_then-fail_here-requires : goal.lower_then-fail_here-requires
lower_then-fail_here-requires t c =
    let one = ap length c.in_ok-over.ensures.1 ∙ length-append c.lower_branch.new.self.code.items (Jump 0 ∷ []) in
    let two = no_shorter_than c.reserve.new.self.code.items _ c.lower_statement.new.self.code.items c.in_ok-lower_statement.ensures in (
      omega (arith, one, two, c.in_ok-over.ensures.0),
      before_more c.in_ok-tested.tested.early.items (length c.lower_branch.new.self.code.items) (length c.lower_statement.new.self.code.items) c.in_ok-tested.ensures.2 (omega (arith, one, two)),
    )

pub lower_then-lower_statement-requires : goal.lower_then-lower_statement-requires
lower_then-lower_statement-requires t c =
    let zero = no_shorter_than c.args.self.now.code.items _ c.lower_branch.new.self.code.items c.in_ok-tested.ensures.3 in
    let one = no_shorter_than c.lower_branch.new.self.code.items _ c.reserve.new.self.code.items c.in_ok-over.ensures.1 in
    (search (rules, types.the_lemmas, statements.the_lemmas, get_or_read), (omega (arith, c.requires.slots), omega (arith, zero, one, c.requires.begun)))

pub lower_form-lower_then-requires : goal.lower_form-lower_then-requires
lower_form-lower_then-requires t c =
    let tree = if_viewed (view_starts c.args.starts.now) c.args.statement.now c.in-If.condition c.in-If.then c.in-If.otherwise c.in-If.is c.deref-then-is_nothing.result.now c.deref-in-If.result.now c.deref-then-is_nothing.ensures c.deref-in-If.ensures in
    let kept = ap kept_by tree in
    (search (rules, types.the_lemmas, statements.the_lemmas, get_or_read), (omega (arith, kept, c.requires.slots), omega (arith, c.requires.begun)))

pub lower_form-returns-then-is_nothing : goal.lower_form-returns-then-is_nothing
lower_form-returns-then-is_nothing t c =
    on_ok_weaker c.lower_then.result
    (made_alone (view_starts c.args.starts.now) c.args.statement.now c.in-If.condition c.in-If.then c.in-If.otherwise c.in-If.is c.deref-then-is_nothing.result.now c.deref-in-If.result.now c.deref-then-is_nothing.ensures c.deref-in-If.ensures
    (sym c.is_nothing.ensures ∙ c.if-is_nothing.true) c.args.exits c.args.free c.args.self.now.code.items c.lower_then.new.self.code.items)
    c.lower_then.ensures

pub lower_form-fail_here-requires : goal.lower_form-fail_here-requires
lower_form-fail_here-requires t c =
    let one = ap length c.in_ok-over_then-in-If.ensures.1 ∙ length-append c.lower_branch.new.self.code.items (Jump 0 ∷ []) in
    let two = no_shorter_than c.reserve.new.self.code.items _ c.lower_statement.new.self.code.items c.in_ok-lower_statement-in-If.ensures in
    let three = no_shorter_than c.lower_statement.new.self.code.items _ c.reserve-in-If.new.self.code.items c.in_ok-over_otherwise-in-If.ensures.1 in (
      omega (arith, one, two, three, c.in_ok-over_then-in-If.ensures.0),
      before_more c.in_ok-tested-in-If.tested.early.items (length c.lower_branch.new.self.code.items) (length c.reserve-in-If.new.self.code.items) c.in_ok-tested-in-If.ensures.2 (omega (arith, one, two, three)),
    )

pub lower_form-returns-in_ok-lower_statement-in-If-2 : goal.lower_form-returns-in_ok-lower_statement-in-If-2
lower_form-returns-in_ok-lower_statement-in-If-2 t c =
    made_if (view_starts c.args.starts.now) c.args.statement.now c.in-If.condition c.in-If.then c.in-If.otherwise c.in-If.is c.deref-in-If-2.result.now c.deref-in-If-3.result.now c.deref-in-If-2.ensures c.deref-in-If-3.ensures c.args.exits c.args.free c.in_ok-tested-in-If.tested.last c.in_ok-tested-in-If.tested.early.items c.in_ok-tested-in-If.ensures.0 c.args.self.now.code.items c.in_ok-tested-in-If.ensures.1 (Jump 0) (Jump 0)
    c.lower_branch.new.self.code.items c.reserve.new.self.code.items c.lower_statement.new.self.code.items c.reserve-in-If.new.self.code.items c.fail_here.new.self.code.items c.lower_statement-in-If.new.self.code.items c.jump_here.new.self.code.items
    c.in_ok-over_then-in-If.over_then c.in_ok-over_otherwise-in-If.over_otherwise
    (ap (λ (z : Stmt). is_nothing (view_statement z)) (c.deref-in-If-3.ensures ∙ sym c.deref-in-If.ensures) ∙ sym c.is_nothing.ensures ∙ c.if-is_nothing.false) c.in_ok-tested-in-If.ensures.3 c.in_ok-over_then-in-If.ensures.0 c.in_ok-over_then-in-If.ensures.1 c.in_ok-lower_statement-in-If.ensures c.in_ok-over_otherwise-in-If.ensures.0 c.in_ok-over_otherwise-in-If.ensures.1 c.fail_here.ensures.code c.in_ok-lower_statement-in-If-2.ensures c.jump_here.ensures

pub lower_clause-returns : goal.lower_clause-returns
lower_clause-returns t c =
    made_clause (view_starts c.args.starts.now) c.args.clause.now.tag c.args.clause.now.number (items_of c.args.clause.now.items.items) c.args.out c.args.exits c.args.free c.args.self.now.code.items (Jump 0)
    c.reserve.new.self.code.items c.lower_caught.new.self.code.items c.lower_items.new.self.code.items c.emit.new.self.code.items c.patch.new.self.code.items c.in_ok-over.over
    c.in_ok-over.ensures.0 c.in_ok-over.ensures.1 c.in_ok-lower_caught.ensures
    (c.in_ok-lower_items.ensures ∙ ap (λ (js : List Item). c.lower_caught.new.self.code.items ++ items_code (view_starts c.args.starts.now) (items_of js) (length c.lower_caught.new.self.code.items) c.args.exits c.args.free) c.deref.ensures.value)
    c.in_ok-emit.ensures
    (c.patch.ensures ∙ ap (λ (i : Instruction). set c.emit.new.self.code.items c.in_ok-over.over i) (c.other_jump.ensures ∙ ap (other_jump c.args.clause.now.tag c.args.free) c.place-target.ensures))

pub lower_clauses-lower_clause-requires : goal.lower_clauses-lower_clause-requires
lower_clauses-lower_clause-requires t c =
    let few = kept_of_clause c.args.clauses.now c.loop-clause.clause-index c.clause-item.result c.loop-clause-test.true c.clause-item.is in
    (search (rules, types.the_lemmas, statements.the_lemmas, get_or_read), (omega (arith, few, c.requires.slots), c.loop-clause.invariant.1))

pub lower_clauses-loop-clause-preserved : goal.lower_clauses-loop-clause-preserved
lower_clauses-loop-clause-preserved t c = (
  more_clauses (view_starts c.args.starts.now) c.args.out c.args.exits c.args.self.now.code.items c.args.clauses.now c.loop-clause.clause-index c.loop-clause.self.code.items c.lower_clause.new.self.code.items c.args.free c.clause-item.result c.loop-clause-test.true c.clause-item.is
      c.in_ok-lower_clause.ensures c.loop-clause.invariant.0,
  let longer = no_shorter_than c.loop-clause.self.code.items _ c.lower_clause.new.self.code.items c.in_ok-lower_clause.ensures in
      omega (arith, longer, c.loop-clause.invariant.1),
  c.requires.slots,
)

pub lower_clauses-returns : goal.lower_clauses-returns
lower_clauses-returns t c =
    made_clauses (view_starts c.args.starts.now) c.args.out c.args.exits c.args.self.now.code.items c.args.clauses.now c.loop-clause.clause-index c.loop-clause.self.code.items c.args.free c.loop-clause-test.false c.loop-clause.invariant.0

pub lower_default-lower_items-requires : goal.lower_default-lower_items-requires
lower_default-lower_items-requires t c =
    let few = ap (λ (d : Option Body). kept_by_clauses (default_of d)) c.in-Some.is in
    let same = ap (λ (js : List Item). kept_by_items (items_of js)) c.deref.ensures.value in
    (search (rules, types.the_lemmas, statements.the_lemmas, get_or_read), (omega (arith, few, same, c.requires.slots), c.requires.begun))

pub lower_form-lower_items-requires : goal.lower_form-lower_items-requires
lower_form-lower_items-requires t c =
    let e = block_keeps c.args.statement.now c.in-Block.region c.in-Block.items c.in-Block.is c.deref.result.now c.deref.ensures.value in
    (search (rules, types.the_lemmas, statements.the_lemmas, get_or_read), (omega (arith, e, c.requires.slots), c.requires.begun))

pub lower_items-lower_item-requires : goal.lower_items-lower_item-requires
lower_items-lower_item-requires t c = (
  search (rules, types.the_lemmas, statements.the_lemmas, get_or_read),
  (
    item_room (view_starts c.args.starts.now) c.args.self.now.code.items c.args.items.now c.args.exits c.args.free c.loop-item.item-index c.loop-item.self.code.items c.loop-item.inside c.loop-item.following c.item-item.result c.loop-item-test.true c.item-item.is c.loop-item.invariant,
    c.loop-item.invariant.3,
  ),
)

pub lower_items-free_after-following-requires : goal.lower_items-free_after-following-requires
lower_items-free_after-following-requires t c =
    item_room (view_starts c.args.starts.now) c.args.self.now.code.items c.args.items.now c.args.exits c.args.free c.loop-item.item-index c.loop-item.self.code.items c.loop-item.inside c.loop-item.following c.item-item.result c.loop-item-test.true c.item-item.is c.loop-item.invariant

pub lower_items-loop-item-preserved : goal.lower_items-loop-item-preserved
lower_items-loop-item-preserved t c =
    more_items (view_starts c.args.starts.now) c.args.self.now.code.items c.args.items.now c.args.exits c.args.free c.loop-item.item-index c.loop-item.self.code.items c.loop-item.inside c.loop-item.following c.item-item.result
    c.lower_item.new.self.code.items c.exits_after-inside.result c.free_after-following.result c.loop-item-test.true c.item-item.is c.in_ok-lower_item.ensures c.exits_after-inside.ensures c.free_after-following.ensures c.loop-item.invariant

pub lower_items-loop-following-init : goal.lower_items-loop-following-init
lower_items-loop-following-init t c =
    closes_begin (view_starts c.args.starts.now) c.args.self.now.code.items c.args.items.now c.args.exits c.args.free c.loop-item.item-index c.loop-item.self.code.items c.loop-item.inside c.loop-item.following c.loop-item-test.false c.loop-item.invariant

pub lower_items-loop-following-preserved : goal.lower_items-loop-following-preserved
lower_items-loop-following-preserved t c =
    closes_next _ c.loop-following.self.code.items c.close_lexical.new.self.code.items c.args.free c.loop-following.following _ c.loop-following-test.true refl c.in_ok-close_lexical.ensures c.loop-following.invariant

pub lower_items-returns : goal.lower_items-returns
lower_items-returns t c = closes_end _ c.loop-following.self.code.items c.args.free c.loop-following.following c.loop-following-test.false c.loop-following.invariant

pub lower_form-lower_statement-requires-in-Try : goal.lower_form-lower_statement-requires-in-Try
lower_form-lower_statement-requires-in-Try t c =
    let e = try_keeps c.args.statement.now c.in-Try.body c.in-Try.clauses c.in-Try.default c.in-Try.is c.deref-in-Try.result.now c.deref-in-Try.ensures c.in-Try.clauses.items refl in
    let room = record_room c.args.starts.now.scopes c.args.free in
    let zero = no_shorter_than c.args.self.now.code.items _ c.begin_try.new.self.code.items c.in_ok-following-in-Try.ensures.1 in
    let one = no_shorter_than c.begin_try.new.self.code.items _ c.reserve-in-Try.new.self.code.items c.in_ok-opening-in-Try.ensures.1 in
    let head = ap (λ (exits : Exits). exits.head) c.inside_try.ensures in
    (search (rules, types.the_lemmas, statements.the_lemmas, get_or_read), (omega (arith, e, room, c.in_ok-following-in-Try.ensures.0, c.requires.slots), omega (arith, zero, one, head, c.requires.begun)))

pub lower_form-lower_clauses-requires : goal.lower_form-lower_clauses-requires
lower_form-lower_clauses-requires t c =
    let e = try_keeps c.args.statement.now c.in-Try.body c.in-Try.clauses c.in-Try.default c.in-Try.is c.deref-in-Try.result.now c.deref-in-Try.ensures c.deref-in-Try-2.result.now c.deref-in-Try-2.ensures.value in
    let zero = no_shorter_than c.args.self.now.code.items _ c.begin_try.new.self.code.items c.in_ok-following-in-Try.ensures.1 in
    let one = no_shorter_than c.begin_try.new.self.code.items _ c.reserve-in-Try.new.self.code.items c.in_ok-opening-in-Try.ensures.1 in
    let two = no_shorter_than c.reserve-in-Try.new.self.code.items _ c.lower_statement-in-Try.new.self.code.items c.in_ok-lower_statement-in-Try.ensures in
    let three = body_longer c.lower_statement-in-Try.new.self.code.items c.end_body.new.self.code.items (Leave c.args.free) (Jump 0) _ c.in_ok-opening-in-Try.opening c.in_ok-out-in-Try.ensures.1 in
    let four = no_shorter_than c.end_body.new.self.code.items _ c.restore_scopes.new.self.code.items c.in_ok-restore_scopes-in-Try.ensures in
    (search (rules, types.the_lemmas, statements.the_lemmas, get_or_read), (omega (arith, e, c.requires.slots), omega (arith, zero, one, two, three, four, c.requires.begun)))

pub lower_form-lower_default-requires : goal.lower_form-lower_default-requires
lower_form-lower_default-requires t c =
    let e = try_keeps c.args.statement.now c.in-Try.body c.in-Try.clauses c.in-Try.default c.in-Try.is c.deref-in-Try.result.now c.deref-in-Try.ensures c.deref-in-Try-2.result.now c.deref-in-Try-2.ensures.value in
    let zero = no_shorter_than c.args.self.now.code.items _ c.begin_try.new.self.code.items c.in_ok-following-in-Try.ensures.1 in
    let one = no_shorter_than c.begin_try.new.self.code.items _ c.reserve-in-Try.new.self.code.items c.in_ok-opening-in-Try.ensures.1 in
    let two = no_shorter_than c.reserve-in-Try.new.self.code.items _ c.lower_statement-in-Try.new.self.code.items c.in_ok-lower_statement-in-Try.ensures in
    let three = body_longer c.lower_statement-in-Try.new.self.code.items c.end_body.new.self.code.items (Leave c.args.free) (Jump 0) _ c.in_ok-opening-in-Try.opening c.in_ok-out-in-Try.ensures.1 in
    let four = no_shorter_than c.end_body.new.self.code.items _ c.restore_scopes.new.self.code.items c.in_ok-restore_scopes-in-Try.ensures in
    let five = clauses_longer (view_starts c.args.starts.now) c.deref-in-Try-2.result.now c.in_ok-out-in-Try.out c.args.exits c.args.free c.restore_scopes.new.self.code.items c.lower_clauses.new.self.code.items c.in_ok-lower_clauses-in-Try.ensures in
    (search (rules, types.the_lemmas, statements.the_lemmas, get_or_read), (omega (arith, e, c.requires.slots), omega (arith, zero, one, two, three, four, five, c.requires.begun)))

pub lower_form-jump_here-requires-in-Try : goal.lower_form-jump_here-requires-in-Try
lower_form-jump_here-requires-in-Try t c =
    let three = body_longer c.lower_statement-in-Try.new.self.code.items c.end_body.new.self.code.items (Leave c.args.free) (Jump 0) _ c.in_ok-opening-in-Try.opening c.in_ok-out-in-Try.ensures.1 in
    let four = no_shorter_than c.end_body.new.self.code.items _ c.restore_scopes.new.self.code.items c.in_ok-restore_scopes-in-Try.ensures in
    let five = clauses_longer (view_starts c.args.starts.now) c.deref-in-Try-2.result.now c.in_ok-out-in-Try.out c.args.exits c.args.free c.restore_scopes.new.self.code.items c.lower_clauses.new.self.code.items c.in_ok-lower_clauses-in-Try.ensures in
    let six = no_shorter_than c.lower_clauses.new.self.code.items _ c.lower_default.new.self.code.items c.in_ok-lower_default-in-Try.ensures in
    omega (arith, three, four, five, six, c.in_ok-out-in-Try.ensures.0)

pub lower_form-returns-in_ok-lower_default-in-Try : goal.lower_form-returns-in_ok-lower_default-in-Try
lower_form-returns-in_ok-lower_default-in-Try t c =
    let begun = c.reserve-in-Try.new.self.code.items in
    let body = view_statement c.deref-in-Try.result.now in
    made_handler (view_starts c.args.starts.now) c.args.statement.now c.in-Try.body c.in-Try.clauses c.in-Try.default c.in-Try.is c.deref-in-Try.result.now c.deref-in-Try.ensures c.deref-in-Try-2.result.now c.deref-in-Try-2.ensures.value c.args.exits c.args.free c.args.self.now.code.items (Jump 0)
    c.begin_try.new.self.code.items begun c.lower_statement-in-Try.new.self.code.items c.end_body.new.self.code.items c.restore_scopes.new.self.code.items c.lower_clauses.new.self.code.items c.lower_default.new.self.code.items c.jump_here-in-Try.new.self.code.items
    c.in_ok-opening-in-Try.opening c.in_ok-out-in-Try.out
    c.in_ok-following-in-Try.ensures.1 c.in_ok-opening-in-Try.ensures.0 c.in_ok-opening-in-Try.ensures.1
    (c.in_ok-lower_statement-in-Try.ensures ∙ ap (λ (exits : Exits). begun ++ statement_code (view_starts c.args.starts.now) body (length begun) exits c.in_ok-following-in-Try.following) c.inside_try.ensures
    ∙ ap (λ (n : ℕ). begun ++ statement_code (view_starts c.args.starts.now) body (length begun) (inside_try c.args.exits c.args.free) n) c.in_ok-following-in-Try.ensures.0)
    c.in_ok-out-in-Try.ensures.0 c.in_ok-out-in-Try.ensures.1 c.in_ok-restore_scopes-in-Try.ensures c.in_ok-lower_clauses-in-Try.ensures c.in_ok-lower_default-in-Try.ensures c.jump_here-in-Try.ensures

pub lower_through-returns : goal.lower_through-returns
lower_through-returns t c =
    let code = c.reserve.new.self.code.items in
    on_ok_weaker c.emit-2.result
    (made_through (view_starts c.args.starts.now) (view_expression c.args.condition.now) (view_statement c.args.body.now) c.args.exits c.args.free c.in_ok-first.first c.in_ok-last.last c.in_ok-first.ensures.0 c.in_ok-last.ensures.0 c.args.self.now.code.items (Jump 0)
    c.lower_choice.new.self.code.items code c.lower_statement.new.self.code.items c.lower_choice-2.new.self.code.items c.emit.new.self.code.items c.jump_here_if_failing.new.self.code.items c.emit-2.new.self.code.items
    c.place-head.result c.in_ok-over.over c.place-again.result (c.place-end.result + 1) c.place-head.ensures
    c.in_ok-first.ensures.1 c.in_ok-over.ensures.0 c.in_ok-over.ensures.1 c.place-again.ensures
    (c.in_ok-lower_statement.ensures ∙ ap (λ (o : Opened). code ++ statement_code (view_starts c.args.starts.now) (view_statement c.args.body.now) (length code) (record { head = c.place-head.result; leaving = c.place-head.result; in_loop = o; in_function = c.args.exits.in_function }) c.args.free) c.nothing_opened.ensures)
    c.in_ok-last.ensures.1 (c.in_ok-emit.ensures ∙ ap (λ (i : Instruction). c.lower_choice-2.new.self.code.items ++ i ∷ []) c.holding_jump.ensures)
    c.jump_here_if_failing.ensures (ap (λ (n : ℕ). n + 1) c.place-end.ensures))
    c.emit-2.ensures

pub lower_through-jump_here_if_failing-requires : goal.lower_through-jump_here_if_failing-requires
lower_through-jump_here_if_failing-requires t c =
    let one = ap length c.in_ok-over.ensures.1 ∙ length-append c.lower_choice.new.self.code.items (Jump 0 ∷ []) in
    let two = no_shorter_than c.reserve.new.self.code.items _ c.lower_statement.new.self.code.items c.in_ok-lower_statement.ensures in
    let three = no_shorter_than c.lower_statement.new.self.code.items _ c.lower_choice-2.new.self.code.items c.in_ok-last.ensures.1 in
    let four = no_shorter_than c.lower_choice-2.new.self.code.items _ c.emit.new.self.code.items c.in_ok-emit.ensures in
    omega (arith, one, two, three, four, c.in_ok-over.ensures.0)

pub lower_form-returns-then-goes_through : goal.lower_form-returns-then-goes_through
lower_form-returns-then-goes_through t c =
    on_ok_weaker c.lower_through.result
    (made_while (view_starts c.args.starts.now) c.args.statement.now c.in-While.condition c.in-While.body c.in-While.is c.deref-then-goes_through.result.now c.deref-then-goes_through.ensures c.args.exits c.args.free c.args.self.now.code.items c.lower_through.new.self.code.items
    true (sym c.if-goes_through.true ∙ c.goes_through.ensures ∙ ap (λ (z : Stmt). goes_through (view_starts c.args.starts.now) (view_expression c.in-While.condition) (view_statement z)) (c.deref-in-While.ensures ∙ sym c.deref-then-goes_through.ensures)))
    c.lower_through.ensures
