use Rattle.std.proofs.Common.{◌≡◌, ℕ, suc, ◌+◌, ◌≤◌, List, ap, sym, subst, ◌∙◌, arith}
use Rattle.std.specs.Prelude.{sum_by, IfOk}
use Rattle.cyc_plain.specs.declared.instruction.Instruction.{Instruction}
use Rattle.cyc_plain.specs.declared.limits.TheConstants.{MOST_SIZE}
use Rattle.cyc_plain.specs.inside.Program.{routine_at, instruction_size}
use Rattle.cyc_frame.specs.inside.Layout.{frame_at}
use Rattle.cyc_select.specs.inside.Slots.{saving_count}
use Rattle.cyc_select.specs.inside.Counts.{code_count, function_line}
use Rattle.cyc_select.specs.inside.Emission.{instruction_lines}
use Rattle.cyc_select.proofs.emission.Numbering.{routine_is_small, function_fits, start_next}
use Rattle.cyc_select.proofs.counting.function_lines.Goals as goal

pub instruction_lines-requires-clause-small : goal.instruction_lines-requires-clause-small
instruction_lines-requires-clause-small c =
    subst (λ (code : List Instruction). sum_by instruction_size code ≤ MOST_SIZE) (sym c.code_of.ensures) (routine_is_small c.args.plain.now c.requires.plain c.args.function c.requires.function)

pub overflow_add-first : goal.overflow_add-first
overflow_add-first c =
    omega (arith, c.requires.here, function_fits c.args.plain.now c.args.frames.now c.requires.plain c.requires.fit c.args.function c.requires.function, c.saving_count.ensures.few)

pub instruction_lines-requires-clause-fits : goal.instruction_lines-requires-clause-fits
instruction_lines-requires-clause-fits c =
    omega (
      arith,
      ap (sum_by instruction_size) c.code_of.ensures,
      c.requires.here,
      function_fits c.args.plain.now c.args.frames.now c.requires.plain c.requires.fit c.args.function c.requires.function,
      c.saving_count.ensures.few,
    )

pub returns-clause-lines : goal.returns-clause-lines
returns-clause-lines c =
    let program = c.args.plain.now in
    let frames = c.args.frames.now in
    let function = c.args.function in
    let saving : c.saving_count.result ≡ saving_count (frame_at frames function) = c.saving_count.ensures.value ∙ ap saving_count c.frame_in.ensures.value in
    subst (λ (lines : List ℕ). IfOk c.instruction_lines.result (λ counted. counted.lines.items ≡ lines))
    (ap (λ (n : ℕ). instruction_lines program frames function 0 (n + c.saving_count.result) c.code_of.result.now) c.requires.here
    ∙ ap (λ (n : ℕ). instruction_lines program frames function 0 (function_line program frames function + n) c.code_of.result.now) saving
    ∙ ap (λ (code : List Instruction). instruction_lines program frames function 0 (function_line program frames function + saving_count (frame_at frames function)) code) c.code_of.ensures)
    c.instruction_lines.ensures.lines

pub returns-clause-following : goal.returns-clause-following
returns-clause-following c =
    let program = c.args.plain.now in
    let frames = c.args.frames.now in
    let function = c.args.function in
    let saving : c.saving_count.result ≡ saving_count (frame_at frames function) = c.saving_count.ensures.value ∙ ap saving_count c.frame_in.ensures.value in
    let next : suc function ≡ function + 1 = omega arith in
    let same : c.args.here + c.saving_count.result + code_count program frames function 0 c.code_of.result.now ≡ function_line program frames (function + 1)
    = omega (
      arith,
      c.requires.here,
      saving,
      ap (code_count program frames function 0) c.code_of.ensures,
      start_next program frames function c.requires.function,
      ap (function_line program frames) next,
    ) in
    subst (λ (n : ℕ). IfOk c.instruction_lines.result (λ counted. counted.following ≡ n)) same c.instruction_lines.ensures.following
