use Rattle.std.proofs.Common.{ℕ, List, Option, Ok, Err, Result, subst}
use Rattle.std.specs.Prelude.{IfOk}
use Rattle.cyc_words.specs.declared.fault.Fault.{Fault}
use Rattle.cyc_words.specs.Decision.{Decides}
use Rattle.cyc_compiler.specs.Compiled.{IsCompiledText, IsRefusedAtLast, HasFaultAtLast}
use Rattle.cyc_front.specs.inside.Phases.{HasTokens}
use Rattle.cyc_compiler.specs.FullPreservation.{IsImageOf}
use Rattle.cyc_image.specs.Notes.{Carries}
use Rattle.cyc_compiler.specs.declared.places.Placed.{Placed}
use Rattle.cyc_cli.specs.inside.Limits.{Given, carried_by}
use Rattle.cyc_source_commands.specs.inside.Work.{AnswersPlaced}
use Rattle.cyc_source_commands.proofs.work.compile_placed.Goals as goal

answered : (text : List ℕ) (given : Given) (result : Result Placed Fault)
    → Decides (IsCompiledText text) (λ p made. IsImageOf p made.compilation.image.items) (IsRefusedAtLast text) (HasFaultAtLast text) result
    → IfOk result (λ made. Carries made.compilation.image.items (carried_by given.pages given.calls)) → IfOk result (λ made. HasTokens text made.compilation.tokens.items)
    → AnswersPlaced text given result
answered text given (Ok made) d carries tokens = (d.accepted, carries, tokens)
answered text given (Err fault) d carries tokens = d.refused

pub returns-clause-answer : goal.returns-clause-answer
returns-clause-answer c =
    let note = c.carried.ensures.value in
    answered c.args.text.now c.args.limits c.compile_with_places.result c.compile_with_places.ensures.decides
    (subst (λ (limits : Option (ℕ × ℕ)). IfOk c.compile_with_places.result (λ made. Carries made.compilation.image.items limits)) note c.compile_with_places.ensures.note)
    c.compile_with_places.ensures.tokens

pub returns-clause-refuses : goal.returns-clause-refuses
returns-clause-refuses c = c.compile_with_places.ensures.decides.refuses
