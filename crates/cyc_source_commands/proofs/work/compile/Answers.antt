use Rattle.std.proofs.Common.{ℕ, List, Option, Ok, Err, Result, subst}
use Rattle.std.specs.Prelude.{IfOk}
use Rattle.cyc_words.specs.declared.fault.Fault.{Fault}
use Rattle.cyc_words.specs.Decision.{Decides}
use Rattle.cyc_compiler.specs.Compiled.{IsCompiledText, IsRefusedAtLast, HasFaultAtLast}
use Rattle.cyc_front.specs.inside.Phases.{HasTokens}
use Rattle.cyc_compiler.specs.FullPreservation.{IsImageOf}
use Rattle.cyc_image.specs.Notes.{Carries}
use Rattle.cyc_compiler.specs.declared.compiler.Compilation.{Compilation}
use Rattle.cyc_cli.specs.inside.Limits.{Given, carried_by}
use Rattle.cyc_source_commands.specs.inside.Work.{AnswersCompile}
use Rattle.cyc_source_commands.proofs.work.compile.Goals as goal

-- If the compiler accepts or rejects a text, its result is the command's answer; an image contains the limits on pages and
-- calls with which it was compiled.
answered : (text : List ℕ) (given : Given) (result : Result Compilation Fault)
    → Decides (IsCompiledText text) (λ p made. IsImageOf p made.image.items) (IsRefusedAtLast text) (HasFaultAtLast text) result
    → IfOk result (λ made. Carries made.image.items (carried_by given.pages given.calls)) → IfOk result (λ made. HasTokens text made.tokens.items)
    → AnswersCompile text given result
answered text given (Ok made) d carries tokens = (d.accepted, carries, tokens)
answered text given (Err fault) d carries tokens = d.refused

pub returns-clause-answer : goal.returns-clause-answer
returns-clause-answer c =
    let note = c.carried.ensures.value in
    answered c.args.text.now c.args.limits c.compile_with_tokens.result c.compile_with_tokens.ensures.decides
    (subst (λ (limits : Option (ℕ × ℕ)). IfOk c.compile_with_tokens.result (λ made. Carries made.image.items limits)) note c.compile_with_tokens.ensures.note)
    c.compile_with_tokens.ensures.tokens

pub returns-clause-refuses : goal.returns-clause-refuses
returns-clause-refuses c = c.compile_with_tokens.ensures.decides.refuses
