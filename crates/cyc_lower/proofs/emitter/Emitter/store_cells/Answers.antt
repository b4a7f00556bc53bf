use Rattle.std.proofs.Common.{ℕ, ◌+◌, get_or, ap, sym, subst, arith}
use Rattle.cyc_types.specs.declared.typed.Kind.{Kind}
use Rattle.cyc_types.specs.declared.typed.Kind.TheVariants as kinds
use Rattle.cyc_lower.proofs.emission.CellCode.{CellsLeft, SlotsLeft, same_item, bytes_next, bytes_low, slots_next, cells_next}
use Rattle.cyc_lower.proofs.emitter.Emitter.store_cells.Goals as goal

pub store_cell-requires-clause-few : goal.store_cell-requires-clause-few
store_cell-requires-clause-few c =
    let i = c.loop-kind.kind-index in
    let inside = c.loop-kind-test.true in
    let ks = c.args.kinds.now in
    let kind : Kind = get_or ks i kinds.Int in
    let low = bytes_low ks i c.loop-kind.bytes kind inside (same_item ks i kinds.Int inside) c.requires.few c.loop-kind.invariant.1 in
    omega (arith, low, c.begins_word-begin.ensures)

pub overflow_add-bytes : goal.overflow_add-bytes
overflow_add-bytes c =
    let i = c.loop-kind.kind-index in
    let inside = c.loop-kind-test.true in
    let ks = c.args.kinds.now in
    let kind : Kind = get_or ks i kinds.Int in
    let low = bytes_low ks i c.loop-kind.bytes kind inside (same_item ks i kinds.Int inside) c.requires.few c.loop-kind.invariant.1 in
    omega (arith, low, c.begins_word-begin.ensures, c.bytes_of_kind.ensures.bytes)

pub loop-kind-preserved : goal.loop-kind-preserved
loop-kind-preserved c =
    let i = c.loop-kind.kind-index in
    let inside = c.loop-kind-test.true in
    let ks = c.args.kinds.now in
    let kind : Kind = get_or ks i kinds.Int in
    let at = same_item ks i kinds.Int inside in
    let begin = c.begins_word-begin.result in
    let next = begin + c.bytes_of_kind.result in
    let old = c.args.self.now.code.items in
    let code = c.loop-kind.self.code.items in
    let bytes = bytes_next ks i c.loop-kind.bytes begin next kind inside at c.requires.few c.begins_word-begin.ensures (ap (λ (n : ℕ). begin + n) c.bytes_of_kind.ensures.bytes) c.loop-kind.invariant.1 in
    let slots = slots_next ks c.args.first i c.loop-kind.slot kind inside at c.loop-kind.invariant.2 in
    let words = c.words_of_kind-slot.ensures.words in
    let cells = cells_next old ks c.args.address c.args.first i code c.store_cell.new.self.code.items c.loop-kind.bytes begin next c.loop-kind.slot kind inside at bytes.0 bytes.1
    c.in_ok-store_cell.ensures c.loop-kind.invariant.0 in (
      subst (λ (n : ℕ). CellsLeft old ks c.args.address c.args.first (i + 1) c.store_cell.new.self.code.items next (c.loop-kind.slot + n)) (sym words) cells,
      bytes.2,
      subst (λ (n : ℕ). SlotsLeft ks c.args.first (i + 1) (c.loop-kind.slot + n)) (sym words) slots.1,
    )
