use Rattle.std.proofs.Common.{◌≡◌, ◌+◌, ◌*◌, ◌≤◌, ◌++◌, drop}
use Rattle.std.specs.Prelude.{sum_by}
use Rattle.cyc_plain.specs.inside.Program.{instruction_size}
use Rattle.cyc_registers.specs.declared.home.TheConstants.{MOST_SAVED}
use Rattle.cyc_select.specs.inside.Counts.{code_count}
use Rattle.cyc_select.specs.inside.Emission.{instruction_lines, most_lines}
use Rattle.cyc_select.proofs.counting.instruction_lines.Given as goal

-- Loop invariant: the line numbers computed so far, followed by those of the remaining instructions, are the line numbers of all
-- instructions of the function.
abbrev pub invariant-loop-index : goal.invariant-loop-index
invariant-loop-index l =
    (l.lines.items ++ instruction_lines l.plain l.frames l.function l.index l.here (drop l.index l.code)
    ≡ instruction_lines l.plain l.frames l.function 0 l.first l.code)
    × (l.here + sum_by instruction_size (drop l.index l.code) ≤ most_lines + 2 * MOST_SAVED + 1)
    × (l.here + code_count l.plain l.frames l.function l.index (drop l.index l.code) ≡ l.first + code_count l.plain l.frames l.function 0 l.code)
