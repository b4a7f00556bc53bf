-- A simplified program is a plain program: it is well-formed, the numbers in its instructions fit machine words,
-- and its size does not grow.
use Rattle.std.proofs.Common.{◌≡◌, ℕ, ◌<◌, ◌≤◌, List, length, Some, slice_get, sym, ap, subst, ◌∙◌, arith}
use Rattle.std.specs.Prelude.{All, sum_by, slice_index_or}
use Rattle.std.proofs.lemmas.Option.{slice_get-get_or, get_or_from_slice_get}
use Rattle.cyc_words.specs.Word.{IsWord}
use Rattle.cyc_words.proofs.Members.{All_by_number}
use Rattle.cyc_words.proofs.Sums.{sum_by-at_most_each}
use Rattle.cyc_words.proofs.Items.{below_from_slice_get}
use Rattle.cyc_plain.specs.declared.limits.TheConstants.{MOST_GLOBALS}
use Rattle.cyc_plain.specs.inside.Program.{Routine, Program, no_routine, routine_at, size}
use Rattle.cyc_plain.specs.inside.WellFormed.{IsRoutine, IsWellFormed, HasWord, HasWords, IsPlain}
use Rattle.cyc_propagation.specs.inside.Simplified.{IsSimplified}
use Rattle.cyc_propagation.specs.inside.Table.{IsReplaced, AreReplaced}
use Rattle.cyc_propagation.proofs.Runs.{each_replaced, follows}
use Rattle.cyc_propagation.proofs.Routines.{is_routine, words_of, is_like}

module _ (program simplified : Program) (are : AreReplaced program simplified) where
  here_at : (functions : List Routine) (k : ℕ) (r : Routine) → slice_get functions k ≡ Some r → slice_index_or functions k no_routine ≡ r
  here_at functions k r at = get_or_from_slice_get functions k r no_routine at

  -- If each replaced function has a property, all functions of the simplified program have it.
  all_functions : (P Q : Routine → Type 0) → ((r s : Routine) → IsReplaced program r s → P r → Q s) → All P program.functions → All Q simplified.functions
  all_functions P Q each all = All_by_number Q simplified.functions (λ k s at.
      let within : k < length program.functions = (let b = below_from_slice_get simplified.functions k s at in let l = are.as_many in omega (arith, b, l)) in
      subst Q (here_at simplified.functions k s at) (each (routine_at program k) (routine_at simplified k) (are.each k within) (all k no_routine within)))

  well_formed : IsWellFormed program → IsWellFormed simplified
  well_formed well =
      let main = each_replaced program simplified are program.main in
      record {
        functions = all_functions (IsRoutine program) (IsRoutine simplified) (λ r s replaced is. is_routine program simplified are r s replaced is) well.functions;
        main = (let m = well.main in let e = are.main in let l = are.as_many in omega (arith, m, e, l));
        main_parameters = ap (λ (k : ℕ). (routine_at simplified k).parameters) are.main ∙ main.parameters ∙ well.main_parameters;
        main_results = ap (λ (k : ℕ). (routine_at simplified k).results) are.main ∙ main.results ∙ well.main_results;
        globals = subst (λ (l : List ℕ). length l ≤ MOST_GLOBALS) (sym are.globals) well.globals;
      }

  has_words : HasWords program → HasWords simplified
  has_words words = record {
    functions = all_functions (λ r. All HasWord r.code) (λ s. All HasWord s.code) (λ r s replaced is. words_of program simplified are r s replaced is) words.functions;
    globals = subst (All IsWord) (sym are.globals) words.globals;
  }

  all_smaller : sum_by size simplified.functions ≤ sum_by size program.functions
  all_smaller = sum_by-at_most_each size program.functions simplified.functions are.as_many (λ k r at.
      let within = below_from_slice_get program.functions k r at in
      let below_other : k < length simplified.functions = (let l = are.as_many in omega (arith, within, l)) in (
        routine_at simplified k,
        slice_get-get_or simplified.functions k no_routine below_other,
        subst (λ (x : Routine). size (routine_at simplified k) ≤ size x) (here_at program.functions k r at)
            (are.each k within).small,
      ))

  -- If a program is a plain program (well-formed, with numbers that fit machine words), so is the simplified program.
  pub is_plain : IsPlain program → IsPlain simplified
  is_plain plain = record {
    well_formed = well_formed plain.well_formed;
    words = has_words plain.words;
    small = (let a = plain.small in omega (arith, a, all_smaller));
  }

  -- A simplified program satisfies `IsSimplified`, the contract of value propagation.
  pub is_simplified : IsPlain program → IsSimplified program simplified
  is_simplified plain = record {
    plain = is_plain plain;
    as_many = are.as_many;
    each = λ k below. is_like program simplified are (routine_at program k) (routine_at simplified k) (are.each k below);
    globals = are.globals;
    main = are.main;
    follows = follows program simplified are plain.well_formed;
  }
