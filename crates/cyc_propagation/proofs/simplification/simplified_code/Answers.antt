use Rattle.std.proofs.Common.{Bool, true, refl, sym, subst, replicate}
use Rattle.std.proofs.lemmas.Result.{IfOk-weaker}
use lib.ListN.{length-replicate}
use Rattle.cyc_plain.specs.inside.Program.{routine_of}
use Rattle.cyc_propagation.specs.inside.Entries.{with_code, IsWalkedBySome}
use Rattle.cyc_propagation.specs.inside.Table.{ArePins, IsReplaced}
use Rattle.cyc_propagation.specs.inside.Tail.{IsTailless}
use Rattle.cyc_propagation.proofs.Ranges.{all_pinned}
use Rattle.cyc_propagation.proofs.Tails.{tailless_replaced}
use Rattle.cyc_propagation.proofs.Walks.{walked_replaced}
use Rattle.cyc_propagation.proofs.simplification.simplified_code.Goals as goal

pub returns-in-Some : goal.returns-in-Some
returns-in-Some c =
    let r = routine_of c.args.function.now in
    let pinned = c.deref-then-is_candidate.result.now in
    let by : IsWalkedBySome c.args.plain.now r pinned c.in-Some.code.items = rw c.in-Some.is at c.in_ok-code.ensures in
    walked_replaced c.args.plain.now r pinned by.0 c.in-Some.code.items (subst (ArePins r) (sym c.deref-then-is_candidate.ensures.value) c.in_ok-pinned.ensures) by.1

pub returns : goal.returns
returns c =
    let r = routine_of c.args.function.now in
    let pins = all_pinned r (replicate r.slots true) refl (length-replicate {A = Bool} r.slots true) in
    IfOk-weaker c.without_tail.result (λ code. IsTailless r.code code.items) (λ code. IsReplaced c.args.plain.now r (with_code r code.items))
    (λ code is. tailless_replaced c.args.plain.now r (replicate r.slots true) code.items pins is) (rw c.deref-2.ensures.value at c.without_tail.ensures)
