use Rattle.std.proofs.Common.{◌≡◌, ◌∷◌, ap, length, arith}
use Rattle.std.specs.Vec.Iter.{into_iter_items}
use Rattle.cyc_inline.proofs.EmptiedFunctions.{functions_more, opened_more}
use Rattle.cyc_inline.proofs.emptying.keep_all.Goals as goal

pub loop-function-preserved : goal.loop-function-preserved
loop-function-preserved c =
    let at = c.loop-function in
    let f = c.in-Some.function in
    let (functions, opened, long, many, flags) = at.invariant in
    let steps : into_iter_items at.function-iterator ≡ f ∷ into_iter_items c.next.new.self = c.in-Some.ensures.steps.0 in
    let one = c.in-Some.ensures.steps.1 in
    let taken = c.next_opened-before.ensures in
    let flag = c.next_flag-is_called.ensures in (
      functions_more at.functions.items _ _ _ _ _ _ _ f _ functions steps flag.rest flag.value c.in_ok-placed.ensures.function c.in_ok-push.ensures.items,
      opened_more at.kept.items _ _ _ _ _ _ _ _ _ f _ _ opened steps taken.rest flag.rest flag.value taken.value c.in_ok-placed.ensures.opened c.in_ok-push-2.ensures.items,
      (let short = ap (λ xs. length xs) steps in omega (arith, long, one, short)),
      taken.count,
      flag.count,
    )
