use Rattle.std.proofs.Common.{suc, ◌+◌, ◌≡◌, ◌∙◌, ap, arith}
use Rattle.cyc_asm.specs.inside.Slots.{is_unreached_before}
use Rattle.cyc_asm.proofs.Fillings.{unreached_in_turn}
use Rattle.cyc_asm.proofs.Tables.{positions_of_more, position-low}
use Rattle.cyc_asm.proofs.layout.position_of_each.Goals as goal

pub width_at-before-requires-clause-unreached : goal.width_at-before-requires-clause-unreached
width_at-before-requires-clause-unreached c =
    c.is_unreached_after-unreached.ensures ∙ unreached_in_turn c.args.lines.now c.loop-number.unreached c.loop-number.number c.loop-number.invariant.2

pub overflow_add-before : goal.overflow_add-before
overflow_add-before c =
    let more = positions_of_more c.args.lines.now c.loop-number.number c.loop-number.positions.items c.loop-number.before c.width_at-before.result c.loop-number.invariant.0 c.loop-number.invariant.1 c.width_at-before.ensures in
    let low = position-low c.args.lines.now (c.loop-number.number + 1) c.requires.fits (omega (arith, c.loop-number-test.true)) in
    omega (arith, more.1, low)

pub loop-number-preserved : goal.loop-number-preserved
loop-number-preserved c =
    let code = c.args.lines.now in
    let more = positions_of_more code c.loop-number.number c.loop-number.positions.items c.loop-number.before c.width_at-before.result c.loop-number.invariant.0 c.loop-number.invariant.1 c.width_at-before.ensures in (
      c.push_reserved-in-loop-number.ensures.items ∙ more.0,
      more.1,
      c.is_unreached_after-unreached.ensures
          ∙ unreached_in_turn code c.loop-number.unreached c.loop-number.number c.loop-number.invariant.2
          ∙ ap (is_unreached_before code) (let e : suc c.loop-number.number ≡ c.loop-number.number + 1 = omega arith in e),
      omega (arith, c.push_reserved-in-loop-number.ensures.len, c.loop-number.invariant.3),
      omega (arith, c.push_reserved-in-loop-number.ensures.capacity, c.loop-number.invariant.4),
    )
