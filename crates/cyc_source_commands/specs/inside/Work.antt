-- The program's answers to the commands that check or compile a program, stated in terms of the results of the crates that this crate uses.
use Rattle.std.specs.Prelude.{◌≡◌, ◌⊎◌, ℕ, List, Option, Some, None, IfSome, Result, Ok, Err}
use Rattle.cyc_words.specs.declared.fault.Fault.{Fault}
use Rattle.cyc_words.specs.Fault.{memory_fault}
use Rattle.cyc_types.specs.TypedTrees.{Program}
use Rattle.cyc_front.specs.Front.{IsAcceptedText, IsRefusedText}
use Rattle.cyc_front.specs.inside.Phases.{HasTokens}
use Rattle.cyc_machine_model.specs.Bounds.{AreAllowed}
use Rattle.cyc_image.specs.Notes.{Carries}
use Rattle.cyc_bound.specs.declared.bound.CallBound.{CallBound}
use Rattle.cyc_bound.specs.declared.bound.CallBound.TheVariants as call_bounds
use Rattle.cyc_bound.specs.declared.pages.PageBound.{PageBound}
use Rattle.cyc_bound.specs.declared.pages.PageBound.TheVariants as page_bounds
use Rattle.cyc_compiler.specs.Compiled.{IsCompiledText, IsRefusedAtLast}
use Rattle.cyc_compiler.specs.FullPreservation.{IsImageOf}
use Rattle.cyc_compiler.specs.Needs.{AreBounds}
use Rattle.cyc_compiler.specs.BoundedRuns.{Covers}
use Rattle.cyc_compiler.specs.declared.bounded.Bounds as needs
use Rattle.cyc_compiler.specs.declared.compiler.Compilation.{Compilation}
use Rattle.cyc_compiler.specs.declared.places.Placed.{Placed}
use Rattle.cyc_cli.specs.inside.Limits.{Given, carried_by, limits_for}

-- Says that the answer to a check is correct: the text is accepted, or the fault is that of the first phase that rejects the
-- text, unless memory ran out.
abbrev pub AnswersCheck : {X : Type 0} → List ℕ → Result X Fault → Type 0
AnswersCheck text (Ok done) = (p : Program) × IsAcceptedText text p
AnswersCheck text (Err fault) = (fault ≡ memory_fault) ⊎ IsRefusedText text fault

-- Says that the answer to a compilation is correct. An accepted text is answered by an image of its program and the text's tokens. The
-- image has the limits on pages and calls that follow from the given limits. If the text is rejected, the answer is the text's fault,
-- unless memory ran out.
abbrev pub AnswersCompile : List ℕ → Given → Result Compilation Fault → Type 0
AnswersCompile text given (Ok made) =
    ((p : Program) × IsCompiledText text p × IsImageOf p made.image.items)
    × Carries made.image.items (carried_by given.pages given.calls) × HasTokens text made.tokens.items
AnswersCompile text given (Err fault) = (fault ≡ memory_fault) ⊎ IsRefusedAtLast text fault

-- Says that the answer to a compilation with source positions is correct: its image and tokens are a correct answer to the compilation,
-- and a returned fault is one that the compilation may return.
abbrev pub AnswersPlaced : List ℕ → Given → Result Placed Fault → Type 0
AnswersPlaced text given (Ok made) = AnswersCompile text given (Ok made.compilation)
AnswersPlaced text given (Err fault) = AnswersCompile text given (Err fault)

-- ---- limits that follow from a program's bounds

-- Returns the limits for a run that needs as many pages and calls as two bounds state, or nothing if a bound is missing.
abbrev pub limits_from : CallBound → PageBound → Option Given
limits_from (call_bounds.Calls calls) (page_bounds.Pages pages) = limits_for pages calls
limits_from (call_bounds.Calls calls) page_bounds.TooMany = None
limits_from (call_bounds.Calls calls) page_bounds.Cycle = None
limits_from (call_bounds.Cycle functions) pages = None
limits_from call_bounds.Deep pages = None

-- Says that an image compiled with the given limits carries limits that are allowed, and that are at least the bounds.
abbrev pub CarriesEnough : needs.Bounds → Given → Type 0
CarriesEnough bounds given =
    (limits : ℕ × ℕ) × (carried_by given.pages given.calls ≡ Some limits) × AreAllowed limits.0 limits.1
    × Covers bounds (record { pages = limits.0; calls = limits.1 })

-- Says that limits follow from the bounds of an accepted text's program. A text that is rejected is answered by its fault, unless memory
-- ran out.
abbrev pub AnswersLimits : List ℕ → Result (Option Given) Fault → Type 0
AnswersLimits text (Ok found) =
    (p : Program) × (bounds : needs.Bounds) × IsAcceptedText text p × AreBounds p bounds
    × (found ≡ limits_from bounds.calls bounds.pages) × IfSome found (CarriesEnough bounds)
AnswersLimits text (Err fault) = (fault ≡ memory_fault) ⊎ IsRefusedText text fault
