-- The function `lower` rejects a program with too many functions, and lowers any other program.
use Rattle.std.proofs.Common.{◌≡◌, ◌⊎◌, ℕ, ◌<◌, ◌≤◌, List, Option, Result, Ok, Err, refl, sym, ap, subst, ◌∙◌, arith, length}
use Rattle.std.proofs.lemmas.Option.{slice_get_within}
use Rattle.cyc_words.specs.declared.fault.Fault.{Fault}
use Rattle.cyc_words.specs.Decision.{Decides}
use Rattle.cyc_words.specs.Fault.{memory_fault}
use Rattle.cyc_words.proofs.Decisions.{IsDecided, decides}
use Rattle.cyc_types.specs.TypedTrees.{Program}
use Rattle.cyc_types.specs.typing.WellTyped.{IsWellTypedProgram}
use Rattle.cyc_plain.specs.inside.Program.{Program as PlainProgram}
use Rattle.cyc_meaning.specs.Sizes.{max_functions, HasTooMany}
use Rattle.cyc_lower_proof.specs.inside.Lowering.{lower_program}
use Rattle.cyc_lower_proof.specs.inside.Lowered.{CanBeLowered, IsAccepted, IsLowered}
use Rattle.cyc_lower_proof.proofs.sizes.Lowerings.{is_lowered}
use Rattle.cyc_lower.proofs.Routines.{one_too_many}

-- If `lower` rejects a program with `TooManyFunctions`, the program has more than `max_functions` functions.
pub too_many_functions : (source : Program) (fault : Fault) → HasTooMany source fault → max_functions < length source.functions
too_many_functions source fault (h, there, is) = slice_get_within source.functions max_functions h there

-- ---- results

lowering_is_decided : (source : Program) → IsDecided (IsAccepted source) (HasTooMany source) (HasTooMany source)
lowering_is_decided source =
    record {
      one = λ a b first second. first.0 ∙ sym second.0;
      same = one_too_many source;
      never_refused = never;
      never_faulty = never;
    }
  where
    never : (a : Program) (f : Fault) → IsAccepted source a → HasTooMany source f → ⊥
    never a f (same, few) many = absurd (omega (arith, ap (λ (p : Program). length p.functions) same, few, too_many_functions source f many))

abbrev Answers : Program → Result PlainProgram Fault → Type 0
Answers source result = Decides (IsAccepted source) IsLowered (HasTooMany source) (HasTooMany source) result

pub lowering_refused : (source : Program) (fault : Fault) → (fault ≡ memory_fault) ⊎ HasTooMany source fault → Answers source (Err fault)
lowering_refused source fault why =
    decides (IsAccepted source) IsLowered (HasTooMany source) (HasTooMany source) (lowering_is_decided source) (Err fault) tt why

pub lowered : (source : Program) (plain : PlainProgram) → IsWellTypedProgram source → CanBeLowered source → length source.functions ≤ max_functions
    → plain ≡ lower_program source → Answers source (Ok plain)
lowered source plain well fit few is =
    decides (IsAccepted source) IsLowered (HasTooMany source) (HasTooMany source) (lowering_is_decided source) (Ok plain)
    (source, (refl, few), subst (IsLowered source) (sym is) (is_lowered source well fit))
    tt
