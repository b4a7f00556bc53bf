use Rattle.std.proofs.Common.{◌≤◌, max, sym, subst, arith}
use Rattle.std.specs.Prelude.{sum_by}
use Rattle.cyc_plain.specs.inside.Program.{Program, size}
use Rattle.cyc_inline.specs.inside.Inlined.{IsInlined}
use Rattle.cyc_inline.proofs.EmptiedProgram.{emptied_small, still_inlined}
use Rattle.cyc_inline.proofs.inlining.inline.Goals as goal

pub returns-clause-inlined : goal.returns-clause-inlined
returns-clause-inlined c =
    let by = c.in_ok-inlined.ensures.inlined in
    let is = c.in_ok-emptied.ensures in
    subst (IsInlined c.args.plain) (sym is.is) (still_inlined c.in_ok-inlined.inlined.plain is.reached by.plain is.are c.args.plain by)

pub returns-clause-size : goal.returns-clause-size
returns-clause-size c =
    let by = c.in_ok-inlined.ensures.inlined in
    let is = c.in_ok-emptied.ensures in
    let less = emptied_small c.in_ok-inlined.inlined.plain is.reached by.plain is.are in
    let small = c.in_ok-inlined.ensures.size in
    subst (λ (made : Program). sum_by size made.functions ≤ max (sum_by size c.args.plain.functions) c.args.room) (sym is.is) (omega (arith, less, small))

pub returns-clause-reported : goal.returns-clause-reported
returns-clause-reported c = c.in_ok-emptied.ensures.reported c.args.plain c.in_ok-inlined.ensures.inlined.as_many c.in_ok-inlined.ensures.reported
