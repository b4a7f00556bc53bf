use Rattle.std.proofs.Common.{ℕ, ◌+◌, get_or, ap, arith}
use Rattle.cyc_types.specs.declared.typed.Kind.{Kind}
use Rattle.cyc_types.specs.declared.typed.Kind.TheVariants as kinds
use Rattle.cyc_lower.proofs.emission.CellCode.{same_item, bytes_next, bytes_low}
use Rattle.cyc_lower.proofs.objects.bytes_of_kinds.Goals as goal

pub overflow_add-bytes : goal.overflow_add-bytes
overflow_add-bytes c =
    let i = c.loop-kind.kind-index in
    let inside = c.loop-kind-test.true in
    let kind : Kind = get_or c.args.kinds.now i kinds.Int in
    let low = bytes_low c.args.kinds.now i c.loop-kind.bytes kind inside (same_item c.args.kinds.now i kinds.Int inside) c.requires c.loop-kind.invariant in
    omega (arith, low, c.begins_word.ensures, c.bytes_of_kind.ensures.bytes)

pub loop-kind-preserved : goal.loop-kind-preserved
loop-kind-preserved c =
    let i = c.loop-kind.kind-index in
    let inside = c.loop-kind-test.true in
    let kind : Kind = get_or c.args.kinds.now i kinds.Int in
    (bytes_next c.args.kinds.now i c.loop-kind.bytes c.begins_word.result (c.begins_word.result + c.bytes_of_kind.result) kind inside (same_item c.args.kinds.now i kinds.Int inside)
    c.requires c.begins_word.ensures (ap (λ (n : ℕ). c.begins_word.result + n) c.bytes_of_kind.ensures.bytes) c.loop-kind.invariant).2
