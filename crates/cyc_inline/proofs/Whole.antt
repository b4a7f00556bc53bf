-- If each function of a program is made from one of a plain program (in three-address code), then the new program is plain. The
-- new program then also behaves as the plain program from which it is made.
use Rattle.std.proofs.Common.{◌≡◌, ℕ, ◌<◌, ◌≤◌, List, length, Some, slice_get, refl, sym, subst, ◌∙◌, arith}
use Rattle.std.specs.Prelude.{All, sum_by}
use Rattle.std.proofs.lemmas.Option.{get_or_from_slice_get}
use Rattle.cyc_words.proofs.Members.{All_by_number, All_at}
use Rattle.cyc_words.proofs.Items.{below_from_slice_get}
use Rattle.cyc_plain.specs.declared.instruction.Instruction.{Instruction}
use Rattle.cyc_plain.specs.declared.instruction.Instruction.TheVariants as instructions
use Rattle.cyc_plain.specs.declared.limits.TheConstants.{MOST_SIZE}
use Rattle.cyc_plain.specs.inside.Program.{Routine, Program, no_routine, routine_at, size}
use Rattle.cyc_plain.specs.inside.WellFormed.{HasSlots, IsInRange, IsRoutine, HasWord, IsPlain}
use Rattle.cyc_inline.specs.declared.origin.Origin.{Origin}
use Rattle.cyc_inline.specs.inside.Inlined.{IsLike, IsInlined}
use Rattle.cyc_inline.specs.inside.Opened.{AreOpened}
use Rattle.cyc_inline.specs.inside.Emission.{IsMade, AreFirstMade}
use Rattle.cyc_inline.proofs.Runs.{is_inlined}

module _ (program : Program) (routines : List Routine) (origins : List (List Origin)) (plain : IsPlain program) (made : AreFirstMade program (length program.functions) routines origins) where
  abbrev inlined : Program
  inlined = record program { functions = routines }

  are_opened : AreOpened program inlined origins
  are_opened = record {
    as_many = made.as_many;
    all_reported = made.as_many_origins;
    each = λ k below. (made.each k below).opened;
    globals = refl;
    main = refl;
  }

  like : (k : ℕ) → k < length program.functions → IsLike (routine_at program k) (routine_at inlined k)
  like k below = (made.each k below).opened.like

  -- If the slots, globals, functions and jump targets that an instruction names exist in the source program,
  -- then they also exist in the new program.
  in_range : (s : Routine) (i : Instruction) → IsInRange program s i → IsInRange inlined s i
  in_range s (instructions.Call function arguments count result) range =
      let same = like function range.function_in_range in
      record {
        function_in_range = (let many = made.as_many in let there = range.function_in_range in omega (arith, many, there));
        takes = range.takes ∙ sym same.parameters;
        arguments_in_range = range.arguments_in_range;
        result_in_range = subst (HasSlots s result) (sym same.results) range.result_in_range;
      }
  in_range s (instructions.Enter function) known = (let many = made.as_many in omega (arith, many, known))
  in_range s i range = range

  routine : (s : Routine) → IsRoutine program s → IsRoutine inlined s
  routine s is = record {
    parameters = is.parameters;
    results = is.results;
    frame = is.frame;
    instructions = All_by_number (IsInRange inlined s) s.code (λ k i at. in_range s i (All_at (IsInRange program s) s.code k i is.instructions at));
    last = is.last;
  }

  -- Each function of the new program is made from that function of the source program that has the same index.
  each_made : (k : ℕ) (s : Routine) → slice_get routines k ≡ Some s → IsRoutine program s × All HasWord s.code
  each_made k s at =
      let is : IsMade program k (routine_at inlined k) _ = made.each k (let below = below_from_slice_get routines k s at in let many = made.as_many in omega (arith, below, many)) in
      let same : routine_at inlined k ≡ s = get_or_from_slice_get routines k s no_routine at in
      subst (λ (r : Routine). IsRoutine program r × All HasWord r.code) same (is.routine, is.words)

  pub is_plain : sum_by size routines ≤ MOST_SIZE → IsPlain (record program { functions = routines })
  is_plain small =
      let well = plain.well_formed in
      let same = like program.main well.main in
      record {
        well_formed = record {
          functions = All_by_number (IsRoutine inlined) routines (λ k s at. routine s (each_made k s at).0);
          main = (let many = made.as_many in let known = well.main in omega (arith, many, known));
          main_parameters = same.parameters ∙ well.main_parameters;
          main_results = same.results ∙ well.main_results;
          globals = well.globals;
        };
        words = record {
          functions = All_by_number (λ (s : Routine). All HasWord s.code) routines (λ k s at. (each_made k s at).1);
          globals = plain.words.globals;
        };
        small = small;
      }

  -- The new program satisfies the contract of inlining, `IsInlined`.
  pub are_inlined : sum_by size routines ≤ MOST_SIZE → IsInlined program (record program { functions = routines })
  are_inlined small = is_inlined program inlined origins plain (is_plain small) are_opened
