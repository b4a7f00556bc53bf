-- The code of a construct is found at the position where its list of instructions was emitted.
use Rattle.std.proofs.Common.{◌≡◌, ℕ, zero, suc, ◌+◌, false, List, [], ◌∷◌, ◌++◌, length, map, take, ◌-◌, Option, Some, slice_get, refl, sym, ap, subst, ◌∙◌}
use Rattle.std.proofs.lemmas.Option.{same_Some, none-some, get_or_from_slice_get, slice_get-map}
use Rattle.std.specs.Prelude.{option_map}
use Rattle.cyc_types.specs.TypedTrees.{Signature, StructType, Function, Program, GlobalVariable}
use Rattle.cyc_types.specs.Numbered.{numbering_of, signatures_of}
use Rattle.cyc_plain.specs.declared.instruction.Instruction.{Instruction}
use Rattle.cyc_plain.specs.declared.instruction.Instruction.TheVariants as instructions
use Rattle.cyc_plain.specs.inside.Program.{Routine, no_routine, routine_at}
use Rattle.cyc_plain.specs.inside.Straight.{At}
use Rattle.cyc_plain.proofs.Straight.{has_front, has_back, has_whole}
use Rattle.cyc_meaning.specs.FrameCount.{words_of_all}
use Rattle.cyc_lower_proof.specs.inside.Slots.{starts_of, global_types}
use Rattle.cyc_lower_proof.specs.inside.ValueCode.{tag_slot, first_temporary, blocks}
use Rattle.cyc_lower_proof.specs.inside.ControlCode.{outside_loops}
use Rattle.cyc_lower_proof.specs.inside.Lowering.{types_of, farthest, blocks_kept, function_code, lower_function, lower_program, body_code, globals_of, scopes_of}
use Rattle.cyc_lower_proof.proofs.relation.code.Statements.{ItemsAt}
use Rattle.cyc_lower_proof.proofs.emission.Lengths.{body_long}
use Rattle.cyc_lower_proof.proofs.relation.code.Fitting.{FitItems, AreFitting, IsFitting}
use Rattle.cyc_lower_proof.proofs.relation.simulation.Stacks.{bounds_in, types_in}
use Rattle.cyc_lower_proof.proofs.call_steps.Calls.{FunctionsStand}
use Rattle.cyc_lower_proof.proofs.emission.Blocks.{blocks_stand}
use Rattle.cyc_lower_proof.proofs.emission.StatementBridge.{items_stand}

-- ---- functions

fitting_function : (structs : List StructType) (globals : List GlobalVariable) (scopes : Option ℕ) (signatures : List Signature) (hs : List Function) (n : ℕ) (h : Function) → AreFitting structs globals scopes signatures hs → slice_get hs n ≡ Some h
    → FitItems (numbering_of (length globals) signatures h) (types_of structs (global_types globals) scopes h) false h.body
fitting_function structs globals scopes signatures [] n h numbered there = absurd (none-some h there)
fitting_function structs globals scopes signatures (g ∷ hs) zero h (first, rest) there =
    subst (λ (f : Function). FitItems (numbering_of (length globals) signatures f) (types_of structs (global_types globals) scopes f) false f.body) (same_Some g h there) first
fitting_function structs globals scopes signatures (g ∷ hs) (suc n) h (first, rest) there = fitting_function structs globals scopes signatures hs n h rest there

module _ (source : Program) where
  -- each function is lowered independently of the others
  pub routine_there : (n : ℕ) (h : Function) → slice_get source.functions n ≡ Some h → routine_at (lower_program source) n ≡ lower_function source.structs (globals_of source) (scopes_of source) h
  routine_there n h there = get_or_from_slice_get (map (lower_function source.structs (globals_of source) (scopes_of source)) source.functions) n (lower_function source.structs (globals_of source) (scopes_of source) h) no_routine (slice_get-map (lower_function source.structs (globals_of source) (scopes_of source)) source.functions n ∙ ap (option_map (lower_function source.structs (globals_of source) (scopes_of source))) there)

  -- Says that the code of a function begins with its body, followed by a return.
  abbrev BodyStands : Function → List Instruction → Option Function → Type 0
  BodyStands h code o =
      (m : ℕ) × ItemsAt code (bounds_in source o) (types_in source o) h.body outside_loops (words_of_all (types_in source o).locals + 1) 0 m
      × At code m (instructions.Finish (words_of_all (types_in source o).locals))

  body_stands : (h : Function) → FitItems (bounds_in source (Some h)) (types_of source.structs (global_types source.globals) (scopes_of source) h) false h.body → BodyStands h (function_code source.structs (globals_of source) (scopes_of source) h) (Some h)
  body_stands h numbered =
      let d = tag_slot h in
      let types = types_of source.structs (global_types source.globals) (scopes_of source) h in
      let body = body_code (starts_of types) h in
      let end = instructions.Finish d ∷ take (blocks_kept (farthest body - types.raises)) (blocks d) in
      let code = body ++ end in
      let has = has_whole code in
      let (here, following) = has_back code 0 body end has in
      let raised = blocks_stand body types.raises d (body_long source.structs (globals_of source) (scopes_of source) h) in
      (0 + length body, items_stand code (bounds_in source (Some h)) types raised h.body false outside_loops (first_temporary h) 0 (0 + length body) numbered refl (has_front code 0 body end has), here)

  pub functions_stand : (pages calls : ℕ) → IsFitting source → FunctionsStand source pages calls
  functions_stand pages calls numbered n h there =
      subst (λ (code : List Instruction). BodyStands h code (slice_get source.functions n)) (sym (ap (λ (r : Routine). r.code) (routine_there n h there)))
      (subst (λ (o : Option Function). BodyStands h (function_code source.structs (globals_of source) (scopes_of source) h) o) (sym there)
      (body_stands h (fitting_function source.structs source.globals (scopes_of source) (signatures_of source.functions) source.functions n h numbered.functions there)))
