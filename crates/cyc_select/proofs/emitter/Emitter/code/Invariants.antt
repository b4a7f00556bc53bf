use Rattle.std.proofs.Common.{◌≡◌, ◌+◌, ◌++◌, drop}
use Rattle.cyc_frame.specs.inside.Layout.{frame_at}
use Rattle.cyc_select.specs.inside.Slots.{saving_count}
use Rattle.cyc_select.specs.inside.Counts.{function_line, instruction_line}
use Rattle.cyc_select.specs.inside.Selection.{code_lines}
use Rattle.cyc_select.proofs.emitter.Emitter.code.Given as goal

-- Loop invariant: the MIPS lines emitted so far, followed by those of the remaining instructions, are all lines of the function.
abbrev pub invariant-loop-index : goal.invariant-loop-index
invariant-loop-index l =
    l.self.lines.items
    ++ code_lines l.tables.plain.now l.tables.frames.now l.tables.function l.index (instruction_line l.tables.plain.now l.tables.frames.now l.tables.function l.index) (drop l.index l.code)
    ≡ l.fn.self.lines.items
    ++ code_lines l.tables.plain.now l.tables.frames.now l.tables.function 0 (function_line l.tables.plain.now l.tables.frames.now l.tables.function + saving_count (frame_at l.tables.frames.now l.tables.function)) l.code
