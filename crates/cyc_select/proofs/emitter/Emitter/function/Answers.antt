use Rattle.std.proofs.Common.{◌<◌, length, arith, rules, ◌∙◌}
use Rattle.cyc_select.proofs.emission.Numbering.{ready_many, numbered_at}
use Rattle.cyc_select.proofs.emitter.Emitter.function.Goals as goal

pub offset_bounds-program-function : goal.offset_bounds-program-function
offset_bounds-program-function c =
    let inside : c.args.function < length c.args.program.now.functions.now = omega (arith, c.requires.function, ready_many c.requires.ready) in
    search rules

pub bounds-program-function : goal.bounds-program-function
bounds-program-function c = omega (arith, c.requires.function, ready_many c.requires.ready)

pub code-requires-clause-known : goal.code-requires-clause-known
code-requires-clause-known c =
    record {
      ready = c.requires.ready;
      function_in_range = c.requires.function;
      lines_are = c.deref.ensures.value ∙ (numbered_at c.requires.ready.numbered c.args.function _ c.requires.function).lines_are;
    }
