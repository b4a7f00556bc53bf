use Rattle.std.proofs.Common.{◌≡◌, ◌++◌, drop}
use Rattle.cyc_select.specs.declared.constants.TheConstants.{START_LINES}
use Rattle.cyc_select.specs.inside.Counts.{function_line}
use Rattle.cyc_select.specs.inside.Selection.{function_lines}
use Rattle.cyc_select.proofs.emitter.Emitter.functions.Given as goal

-- Loop invariant: the MIPS lines emitted so far, followed by those of the remaining functions, are all lines of the program.
abbrev pub invariant-loop-function : goal.invariant-loop-function
invariant-loop-function l =
    l.self.lines.items
    ++ function_lines l.program.plain.now l.program.frames.now l.function (function_line l.program.plain.now l.program.frames.now l.function) (drop l.function l.program.plain.now.functions)
    ≡ l.fn.self.lines.items
    ++ function_lines l.program.plain.now l.program.frames.now 0 START_LINES l.program.plain.now.functions
