use Rattle.std.proofs.Common.{arith}
use Rattle.cyc_select.proofs.emission.Numbering.{body_fits}
use Rattle.cyc_select.proofs.counting.count_of.Goals as goal

pub overflow_add-result : goal.overflow_add-result
overflow_add-result c =
    omega (
      arith,
      c.body_count.ensures,
      c.after_count-following.ensures,
      c.requires.small,
      body_fits c.args.plain.now c.args.frames.now c.args.function c.requires.fit c.requires.few c.args.instruction,
    )

pub returns-else-is_idle-clause-few : goal.returns-else-is_idle-clause-few
returns-else-is_idle-clause-few c =
    omega (
      arith,
      c.body_count.ensures,
      c.after_count-following.ensures,
      body_fits c.args.plain.now c.args.frames.now c.args.function c.requires.fit c.requires.few c.args.instruction,
    )
