-- The lowered program is well-formed: its instructions refer only to slots, functions, globals and code positions that exist, and its
-- frames have enough words for all slots.
use Rattle.std.proofs.Common.{◌≡◌, ℕ, zero, suc, ◌≤◌, ◌<◌, ◌-◌, true, false, List, [], ◌∷◌, length, map, take, Option, Some, slice_get, slice_index_or, refl, ap, arith, length-append}
use Rattle.std.specs.List.{AllByRecursion}
use Rattle.std.proofs.lemmas.Option.{same_Some, none-some}
use Rattle.cyc_types.specs.TypedTrees.{Signature, StructType, Function, Program}
use Rattle.cyc_types.specs.typing.WellTyped.{signature_of}
use Rattle.cyc_types.specs.Numbered.{signatures_of, numbering_of}
use Rattle.cyc_plain.specs.declared.instruction.Instruction.TheVariants as instructions
use Rattle.cyc_plain.specs.inside.Program.{Routine, no_routine}
use Rattle.cyc_plain.specs.declared.limits.TheConstants.{MOST_GLOBALS}
use Rattle.cyc_plain.specs.inside.WellFormed.{IsInRange, IsRoutine, IsWellFormed}
use Rattle.std.proofs.lemmas.List.Elements.{All-from_recursion}
use Rattle.cyc_words.proofs.Lists.{all_append}
use Rattle.cyc_meaning.specs.FrameCount.{words_of_all}
use Rattle.cyc_lower_proof.specs.inside.Slots.{starts_of, global_types}
use Rattle.cyc_lower_proof.specs.inside.ValueCode.{tag_slot, first_temporary, blocks, slot_types}
use Rattle.cyc_lower_proof.specs.inside.ControlCode.{outside_loops}
use Rattle.cyc_lower_proof.specs.inside.Lowering.{types_of, items_code, results_of, lower_function, lower_program, globals_of, scopes_of, function_code, farthest, with_blocks, blocks_kept}
use Rattle.cyc_lower_proof.specs.inside.Bounds.{AreClose}
use Rattle.cyc_lower_proof.proofs.relation.code.Fitting.{FitItems, AreFitting, IsFitting}
use Rattle.cyc_lower_proof.specs.inside.Words.{AreOfWordsItems, AreOfWordsFunctions, IsOfWordsProgram}
use Rattle.cyc_lower_proof.proofs.sizes.WordLemmas.{body_has_no_return}
use Rattle.cyc_lower_proof.proofs.emission.Lengths.{body_long}
use Rattle.cyc_lower_proof.proofs.slots.Slots.{slot-room, slot_types-many, slots-few, global_words_counted}
use Rattle.cyc_lower_proof.proofs.sizes.RangeLemmas.{results_few, IsKnown, AreGlobals, TakesLocal, IsIn, code_in_range, takes_locals, all_cut, blocks_in, blocks_many, end_leaves}
use Rattle.cyc_lower_proof.proofs.sizes.StatementRanges.{items_in}
use Rattle.cyc_lower_proof.proofs.sizes.Targets.{functions_close}

-- ---- functions

signatures_known : (structs : List StructType) (globals : List ℕ) (scopes : Option ℕ) (hs : List Function) (n : ℕ) (s : Signature) → slice_get (signatures_of hs) n ≡ Some s
    → (n < length (map (lower_function structs globals scopes) hs))
    × ((slice_index_or (map (lower_function structs globals scopes) hs) n no_routine).parameters ≡ words_of_all s.parameters)
    × ((slice_index_or (map (lower_function structs globals scopes) hs) n no_routine).results ≡ results_of s.result)
signatures_known structs globals scopes [] n s there = absurd (none-some s there)
signatures_known structs globals scopes (h ∷ hs) zero s there =
    let same : signature_of h ≡ s = same_Some (signature_of h) s there in
    (omega arith, ap (λ (x : Signature). words_of_all x.parameters) same, ap (λ (x : Signature). results_of x.result) same)
signatures_known structs globals scopes (h ∷ hs) (suc n) s there =
    let (few, parameters, results) = signatures_known structs globals scopes hs n s there in (omega (arith, few), parameters, results)

module _ (source : Program) (is_fitting : IsFitting source) where
  known_functions : (n : ℕ) (s : Signature) → slice_get (signatures_of source.functions) n ≡ Some s → IsKnown (lower_program source) n s
  known_functions n s there =
      let (few, parameters, results) = signatures_known source.structs (globals_of source) (scopes_of source) source.functions n s there in
      record { there = few; parameters = parameters; results = results }

  known_globals : AreGlobals (lower_program source) (global_types source.globals)
  known_globals = record {
    room = omega (arith, global_words_counted source.globals);
  }

  -- All instructions of the code of a function are in range: they refer only to slots, functions, globals and code positions that exist.
  code_in : (h : Function) → AreOfWordsItems h.body → FitItems (numbering_of (length source.globals) (signatures_of source.functions) h) (types_of source.structs (global_types source.globals) (scopes_of source) h) false h.body
      → AllByRecursion (IsIn (lower_program source) (lower_function source.structs (globals_of source) (scopes_of source) h) (slot_types h)) (function_code source.structs (globals_of source) (scopes_of source) h)
  code_in h words numbered_body =
      let d = tag_slot h in
      let scopes = scopes_of source in
      let r = lower_function source.structs (globals_of source) scopes h in
      let b = numbering_of (length source.globals) (signatures_of source.functions) h in
      let types = types_of source.structs (global_types source.globals) scopes h in
      let body = items_code (starts_of types) h.body 0 outside_loops (first_temporary h) in
      let count = farthest body - types.raises in
      let kept = blocks_kept count in
      let end = instructions.Finish d ∷ take kept (blocks d) in
      let all = with_blocks body d 6 in
      let whole : Routine = record r { code = all } in
      let placed = body_long source.structs (globals_of source) scopes h in
      let long = length-append body (instructions.Finish d ∷ blocks d) in
      let short = length-append body end in
      let inside = items_in (lower_program source) whole b types (λ n within. omega (arith, slot-room types n (omega (arith, within, slot_types-many h)))) (λ l slot there. absurd (none-some slot there)) known_globals known_functions refl (omega (arith, long, placed), omega arith) (body_has_no_return source.structs (globals_of source) scopes h 6 words)
      h.body false 0 outside_loops (first_temporary h) numbered_body (λ inside. absurd (let f : false ≡ true = inside in cc)) ((tt, tt), (tt, tt)) (omega arith) (omega (arith, long)) in
      let reaches : (t : ℕ) → t ≤ farthest body → t < length all → t < length r.code = λ t least within. omega (arith, least, within, long, short, placed, blocks_many d count) in
      all_append (IsIn (lower_program source) r (slot_types h)) body end
      (all_cut (lower_program source) r all (slot_types h) (farthest body) reaches (body_has_no_return source.structs (globals_of source) scopes h kept words) body (omega arith) inside)
      (omega (arith, results_few h.result), blocks_in (lower_program source) r (slot_types h) d kept (omega arith))

  function_well : (h : Function) → AreOfWordsItems h.body → FitItems (numbering_of (length source.globals) (signatures_of source.functions) h) (types_of source.structs (global_types source.globals) (scopes_of source) h) false h.body → IsRoutine (lower_program source) (lower_function source.structs (globals_of source) (scopes_of source) h)
  function_well h words numbered_body =
      let r = lower_function source.structs (globals_of source) (scopes_of source) h in
      let types = types_of source.structs (global_types source.globals) (scopes_of source) h in
      let body = items_code (starts_of types) h.body 0 outside_loops (first_temporary h) in
      let code = function_code source.structs (globals_of source) (scopes_of source) h in
      record {
        parameters = omega (arith, slots-few h);
        results = omega (arith, results_few h.result);
        frame = omega (arith, slots-few h);
        instructions = All-from_recursion (IsInRange (lower_program source) r) code (code_in_range (lower_program source) r (slot_types h) code (code_in h words numbered_body));
        last = end_leaves body (tag_slot h) (farthest body - types.raises);
      }

  -- The code of a function takes the addresses of complete locals only, never of a part of a local.
  pub function_takes : (h : Function) → AreOfWordsItems h.body → FitItems (numbering_of (length source.globals) (signatures_of source.functions) h) (types_of source.structs (global_types source.globals) (scopes_of source) h) false h.body
      → AllByRecursion (TakesLocal (slot_types h)) (function_code source.structs (globals_of source) (scopes_of source) h)
  function_takes h words numbered_body =
      takes_locals (lower_program source) (lower_function source.structs (globals_of source) (scopes_of source) h) (slot_types h) (function_code source.structs (globals_of source) (scopes_of source) h) (code_in h words numbered_body)

  functions_well : (hs : List Function) → AreOfWordsFunctions hs → AreFitting source.structs source.globals (scopes_of source) (signatures_of source.functions) hs → AllByRecursion (IsRoutine (lower_program source)) (map (lower_function source.structs (globals_of source) (scopes_of source)) hs)
  functions_well [] words numbered_all = tt
  functions_well (h ∷ hs) (own, others) (first, rest) = (function_well h own first, functions_well hs others rest)

  -- The jumps in the body of each function go at most to the blocks that raise exceptions, which come after the body.
  pub code_close : IsOfWordsProgram source → AreClose source.structs (globals_of source) (scopes_of source) source.functions
  code_close words = functions_close (lower_program source) source.structs (globals_of source) (scopes_of source) source.functions (functions_well source.functions words.functions is_fitting.functions)

  pub well_formed : IsOfWordsProgram source → words_of_all (global_types source.globals) ≤ MOST_GLOBALS → IsWellFormed (lower_program source)
  well_formed words few =
      let main = known_functions source.main _ is_fitting.main in
      record {
        functions = All-from_recursion (IsRoutine (lower_program source)) (map (lower_function source.structs (globals_of source) (scopes_of source)) source.functions) (functions_well source.functions words.functions is_fitting.functions);
        main = main.there;
        main_parameters = main.parameters;
        main_results = main.results;
        globals = omega (arith, few, global_words_counted source.globals);
      }
