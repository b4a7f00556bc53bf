use Rattle.std.proofs.Common.{◌≤◌, length, Result, Ok, Err, subst}
use Rattle.std.specs.Prelude.{IfOk}
use Rattle.std.proofs.lemmas.Result.{err_from_is_err_and}
use Rattle.cyc_types.specs.TypedTrees.{Program}
use Rattle.cyc_types.specs.TypedTreeView.{view_program}
use Rattle.cyc_plain.specs.inside.Program.{Program as PlainProgram}
use Rattle.cyc_meaning.specs.Sizes.{max_functions}
use Rattle.cyc_soundness.specs.Sound.{IsSound}
use Rattle.cyc_frame.specs.inside.Layout.{AreFrames, HasSmallFrames}
use Rattle.cyc_compiler.specs.FullPreservation.{IsImageOf}
use Rattle.cyc_compiler.specs.inside.Chain.{IsProgramOf}
use Rattle.cyc_compiler.proofs.Refusals.{lowering_refuses, layout_refuses, image_answers}
use Rattle.cyc_compiler.proofs.compiler.build.Goals as goal

pub returns-in_err-plain-clause-decides : goal.returns-in_err-plain-clause-decides
returns-in_err-plain-clause-decides c =
    let e = err_from_is_err_and c.from_residual.result c.from_residual.ensures.1 in
    rw (e.1, e.2) (lowering_refuses (λ p file. IsImageOf p file.items) (view_program c.args.program.now.tree) _ c.in_err-plain.field-0.0 c.in_err-plain.ensures)

pub returns-in_err-frames-clause-decides : goal.returns-in_err-frames-clause-decides
returns-in_err-frames-clause-decides c =
    let p = view_program c.args.program.now.tree in
    let (a, (same, few), is) = c.in_ok-plain.ensures.accepted in
    let e = err_from_is_err_and c.from_residual-in_err-frames.result c.from_residual-in_err-frames.ensures.1 in
    rw (e.1, e.2) (layout_refuses (λ q file. IsImageOf q file.items) p c.in_ok-plain.plain
    (subst (λ (q : Program). IsProgramOf q c.in_ok-plain.plain) same is) (subst (λ (q : Program). length q.functions ≤ max_functions) same few)
    c.in_ok-plain.ensures.refuses _ c.in_err-frames.field-0.0 c.in_err-frames.ensures)

-- The image of a plain program is an image of the source program that was lowered to it.
image_there : {X F : Type 0} (Image : Program → X → Type 0) (p : Program) (lowered : PlainProgram) (result : Result X F) → IsSound p → IsProgramOf p lowered
    → IfOk result (λ x. (q : Program) → IsSound q → IsProgramOf q lowered → Image q x) → IfOk result (Image p)
image_there Image p lowered (Ok x) sound is image = image p sound is
image_there Image p lowered (Err f) sound is image = tt

pub returns-clause-decides : goal.returns-clause-decides
returns-clause-decides c =
    let p = view_program c.args.program.now.tree in
    let (a, (one, few), is) = c.in_ok-plain.ensures.accepted in
    let (l, (same, small), are) = c.in_ok-frames.ensures.accepted in
    let lowered = subst (λ (q : Program). IsProgramOf q c.in_ok-plain.plain) one is in
    image_answers (λ q file. IsImageOf q file.items) p c.in_ok-plain.plain lowered (subst (λ (q : Program). length q.functions ≤ max_functions) one few)
    c.in_ok-plain.ensures.refuses (subst HasSmallFrames same small) c.in_ok-frames.ensures.refuses
    c.compile_plain.result
    (image_there (λ q file. IsImageOf q file.items) p c.in_ok-plain.plain c.compile_plain.result c.requires.sound lowered c.compile_plain.ensures.image) c.compile_plain.ensures.refused

pub compile_plain-requires-clause-frames : goal.compile_plain-requires-clause-frames
compile_plain-requires-clause-frames c =
    let (l, (same, small), are) = c.in_ok-frames.ensures.accepted in
    subst (λ (program : PlainProgram). AreFrames program c.in_ok-frames.frames) same are
