use Rattle.std.proofs.Common.{◌+◌, ◌∙◌, map, sym, subst}
use Rattle.std.specs.Prelude.{List}
use Rattle.cyc_plain.specs.declared.program.Function.{Function}
use Rattle.cyc_plain.specs.inside.Program.{routine_of}
use Rattle.cyc_propagation.specs.inside.Room.{AreMadeFirst}
use Rattle.cyc_propagation.specs.inside.Simplified.{IsSimplified}
use Rattle.cyc_propagation.proofs.Sparing.{more_made, made_plain, made_simplified}
use Rattle.cyc_propagation.proofs.simplification.simplify.Goals as goal

pub loop-number-preserved : goal.loop-number-preserved
loop-number-preserved c =
    subst (λ (functions : List Function). AreMadeFirst c.args.plain.now (c.loop-number.number + 1) (map routine_of functions)) (sym c.in_ok-push.ensures.items)
    (more_made c.args.plain.now c.loop-number.number c.loop-number.functions.items c.in_ok-function.function (routine_of c.function.result.now) c.loop-number.invariant
    c.function.ensures c.in_ok-function.ensures)

pub new-requires : goal.new-requires
new-requires c =
    let globals = rw c.in_ok-globals.ensures.items at c.in_ok-extend_from_slice.ensures.items in
    made_plain c.args.plain.now c.functions-given.result.now c.loop-number.functions.items c.loop-number.number c.extend_from_slice.new.self.items c.main.result
    c.functions-given.ensures.value c.loop-number.auto.number-end c.loop-number-test.false c.loop-number.invariant (globals ∙ c.globals-2.ensures) c.main.ensures.value
    c.functions-given.ensures.plain

pub returns : goal.returns
returns c =
    let globals = rw c.in_ok-globals.ensures.items at c.in_ok-extend_from_slice.ensures.items in
    subst (IsSimplified c.args.plain.now) (sym c.new.ensures)
    (made_simplified c.args.plain.now c.functions-given.result.now c.loop-number.functions.items c.loop-number.number c.extend_from_slice.new.self.items c.main.result
    c.functions-given.ensures.value c.loop-number.auto.number-end c.loop-number-test.false c.loop-number.invariant (globals ∙ c.globals-2.ensures) c.main.ensures.value
    c.functions-given.ensures.plain)
