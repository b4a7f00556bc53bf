-- This file proves that the lowered program has the properties that the contract of lowering states.
use Rattle.std.proofs.Common.{ℕ, ◌≤◌, ◌*◌, List, [], ◌∷◌, map, Option, refl, sym, arith}
use Rattle.std.specs.Prelude.{sum_by}
use Rattle.std.proofs.lemmas.List.Sums.{sum_by-cons}
use Rattle.cyc_syntax.specs.inside.Weight.{sum_of}
use Rattle.cyc_types.specs.TypedTrees.{StructType, Function, Program}
use Rattle.cyc_types.specs.typing.WellTyped.{IsWellTypedProgram}
use Rattle.cyc_types.specs.Weight.{function_weight, program_weight}
use Rattle.cyc_plain.specs.inside.Program.{size}
use Rattle.cyc_plain.specs.inside.WellFormed.{IsPlain}
use Rattle.cyc_syntax.specs.TokenRule.{max_tokens}
use Rattle.cyc_lower_proof.specs.inside.Lowering.{lower_function, lower_program, globals_of, scopes_of}
use Rattle.cyc_meaning.specs.Sizes.{size_per_weight}
use Rattle.cyc_lower_proof.specs.inside.Lowered.{AreLoweredFunctions, CanBeLowered, IsLowered}
use Rattle.cyc_lower_proof.proofs.relation.code.Fitted.{is_fitting_program}
use Rattle.cyc_lower_proof.proofs.sizes.Sizes.{function_size}
use Rattle.cyc_lower_proof.proofs.sizes.WellFormed.{well_formed, code_close}
use Rattle.cyc_lower_proof.specs.inside.Bounds.{AreClose}
use Rattle.cyc_lower_proof.proofs.slots.Slots.{global_words_counted}
use Rattle.cyc_lower_proof.proofs.sizes.WordLemmas.{has_words}
use Rattle.cyc_lower_proof.proofs.relation.simulation.Whole.{follows}
use Rattle.cyc_meaning.proofs.Rising.{functions_rise}

functions_lowered : (structs : List StructType) (globals : List ℕ) (scopes : Option ℕ) (hs : List Function) → AreLoweredFunctions hs (map (lower_function structs globals scopes) hs)
functions_lowered structs globals scopes [] = tt
functions_lowered structs globals scopes (h ∷ hs) = (record { name = refl; frame = refl; small = function_size structs globals scopes h }, functions_lowered structs globals scopes hs)

pub is_lowered : (source : Program) → IsWellTypedProgram source → CanBeLowered source → IsLowered source (lower_program source)
is_lowered source well fit = record {
  well_formed = well_formed source (is_fitting_program source fit.of_words.functions well) fit.of_words fit.few_globals;
  words = has_words source fit.of_words;
  functions = functions_lowered source.structs (globals_of source) (scopes_of source) source.functions;
  globals = sym (global_words_counted source.globals);
  follows = λ pages calls base store input new some_page few_pages some_call bytes below.
      follows source (is_fitting_program source fit.of_words.functions well) fit.of_words (functions_rise source well) fit.few_globals (has_words source fit.of_words) pages calls base store input new some_page few_pages some_call bytes below;
}

functions_small : (structs : List StructType) (globals : List ℕ) (scopes : Option ℕ) (hs : List Function) → sum_by size (map (lower_function structs globals scopes) hs) ≤ size_per_weight * sum_of function_weight hs
functions_small structs globals scopes [] = omega arith
functions_small structs globals scopes (h ∷ hs) =
    omega (arith, sum_by-cons size (lower_function structs globals scopes h) (map (lower_function structs globals scopes) hs), function_size structs globals scopes h, functions_small structs globals scopes hs)

-- The lowered program has the properties that every plain program must have.
pub is_plain : (source : Program) → IsWellTypedProgram source → CanBeLowered source → program_weight source ≤ max_tokens → IsPlain (lower_program source)
is_plain source well fit light = record {
  well_formed = well_formed source (is_fitting_program source fit.of_words.functions well) fit.of_words fit.few_globals;
  words = has_words source fit.of_words;
  small = omega (arith, functions_small source.structs (globals_of source) (scopes_of source) source.functions, light);
}

-- The jumps in the body of each function go at most to the blocks that raise exceptions, which come after the body.
pub closely_lowered : (source : Program) → IsWellTypedProgram source → CanBeLowered source → AreClose source.structs (globals_of source) (scopes_of source) source.functions
closely_lowered source well fit = code_close source (is_fitting_program source fit.of_words.functions well) fit.of_words
