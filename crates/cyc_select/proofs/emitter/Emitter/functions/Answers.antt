use Rattle.std.proofs.Common.{◌+◌, ◌<◌, ◌++◌, length, drop, ap, arith}
use Rattle.std.proofs.lemmas.List.{length-map}
use Rattle.cyc_words.proofs.Lists.{append_goes_on}
use Rattle.cyc_plain.specs.inside.Program.{routine_of, routine_at}
use Rattle.cyc_select.specs.declared.constants.TheConstants.{START_LINES}
use Rattle.cyc_select.specs.inside.Counts.{function_line}
use Rattle.cyc_select.specs.inside.Selection.{routine_lines, function_lines}
use Rattle.cyc_select.proofs.emission.Numbering.{functions_next}
use Rattle.cyc_select.proofs.emitter.Emitter.functions.Goals as goal

pub loop-function-preserved : goal.loop-function-preserved
loop-function-preserved c =
    let program = c.args.program.now.plain.now in
    let frames = c.args.program.now.frames.now in
    let k = c.loop-function.function in
    let below : k < length program.functions = omega (arith, length-map c.functions-count.result.now routine_of, ap length c.functions-count.ensures.value, c.loop-function-test.true) in
    append_goes_on (c.args.self.now.lines.items ++ function_lines program frames 0 START_LINES program.functions)
    c.loop-function.self.lines.items c.function.new.self.lines.items
    (routine_lines program frames k (function_line program frames k) (routine_at program k))
    (function_lines program frames (k + 1) (function_line program frames (k + 1)) (drop (k + 1) program.functions))
    (function_lines program frames k (function_line program frames k) (drop k program.functions))
    c.in_ok-function.ensures (functions_next program frames k below) c.loop-function.invariant
