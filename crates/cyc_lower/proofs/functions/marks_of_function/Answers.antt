use Rattle.std.proofs.Common.{arith}
use Rattle.cyc_lower.proofs.Routines.{few_locals}
use Rattle.cyc_lower.proofs.functions.marks_of_function.Goals as goal

pub lower_body-requires : goal.lower_body-requires
lower_body-requires c = omega (arith, (few_locals c.args.function.now c.requires).1, c.in_ok-locals.ensures.2)
