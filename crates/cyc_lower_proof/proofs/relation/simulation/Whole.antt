-- Each run of the plain program is a run of the source program.
use Rattle.std.proofs.Common.{◌≡◌, ℕ, zero, suc, ◌≤◌, ◌<◌, Bool, true, false, List, [], ◌∷◌, ◌++◌, length, map, Option, None, Some, slice_get, slice_index, refl, sym, ap, subst, ◌∙◌, arith, inl, inr, ◌+◌, ◌-◌, ◌*◌}
use Rattle.std.specs.Prelude.{◌==◌, if◌then◌else◌, replicate}
use Rattle.std.proofs.lemmas.Bool.{le-leb, and_from}
use Rattle.std.proofs.lemmas.Option.{same_Some, none-some}
use Rattle.cyc_words.specs.Ending.{Full}
use Rattle.cyc_types.specs.TypedTrees.{Constant, GlobalVariable, Function, Program}
use Rattle.cyc_syntax.specs.declared.tree.PointerKind.TheVariants as marks
use Rattle.cyc_types.specs.declared.typed.Kind.{Kind}
use Rattle.cyc_types.specs.declared.typed.Kind.TheVariants as kinds
use Rattle.cyc_types.specs.Types.{Ty, words_of}
use Rattle.cyc_types.specs.Types as types
use Rattle.cyc_types.specs.typing.WellTyped.{IsWellTypedGlobal, AreWellTypedGlobals}
use Rattle.cyc_words.specs.Simulation as simulation
use Rattle.cyc_words.specs.Simulation.{Failed}
use Rattle.cyc_words.specs.inside.Following.{Matching, Steps}
use Rattle.cyc_store.specs.State.{StoreState, IsNew}
use Rattle.cyc_store.specs.declared.range.TheConstants.{MOST_PAGES}
use Rattle.cyc_store.proofs.NewStores.{new_demand}
use Rattle.cyc_plain.specs.inside.State as plain
use Rattle.cyc_plain.specs.inside.State.{Words, Configuration}
use Rattle.cyc_plain.specs.inside.Step as plain_step
use Rattle.cyc_plain.specs.inside.Uniform.{UniformStep}
use Rattle.cyc_plain.proofs.Uniform.{uniform_lawful, of_uniform, follows_uniform}
use Rattle.cyc_lower_proof.proofs.sizes.WordLemmas.{no_enter}
use Rattle.cyc_plain.specs.inside.Program.{places_of}
use Rattle.cyc_plain.proofs.WordLaws.{words_stay, words_at_start}
use Rattle.cyc_plain.specs.inside.WellFormed.{HasWords}
use Rattle.cyc_plain.specs.inside.Memory.{LieBelow, IsBelow, slots_end}
use Rattle.cyc_plain.proofs.CallLaws.{below_step, below_start}
use Rattle.cyc_store.specs.State as stores
use Rattle.std.specs.List.{AllByRecursion, list_any}
use Rattle.cyc_words.proofs.Simulation.{simulates}
use Rattle.cyc_meaning.specs.Values.{Int, Null, Operand as Kinded, kind_of, words_of_kind}
use Rattle.cyc_meaning.specs.State.{World, Environment, no_locals, constant_value, global_object, first_world, Entry, Main, Focus, Evaluating, Locating, Given, GivenPlace, Executing, Proceeding, Calling, Entering}
use Rattle.cyc_meaning.specs.State.{Binding, Writing, Beginning, Repeating, Breaking, Continuing, Returning, Throwing, State, Running, Ended, Dead, Wrong, output_of, input_of, status_of, Swapping, Naming, Catching}
use Rattle.cyc_meaning.specs.Step.{wrong, called, step}
use Rattle.cyc_meaning.specs.Run.{start, is_within, limited_step}
use Rattle.cyc_lower_proof.specs.inside.Lowering.{initial_word, lower_global, lower_program, lower_globals, scopes_of, scopes_if, may_open}
use Rattle.cyc_lower_proof.specs.inside.Lowered.{FollowsSource}
use Rattle.cyc_lower_proof.specs.inside.Words.{IsOfWordsProgram}
use Rattle.cyc_meaning.specs.SourceMachine.{status_in}
use Rattle.cyc_meaning.specs.inside.Nesting.{IsNested}
use Rattle.cyc_meaning.proofs.Nested.{nests_start}
use Rattle.cyc_meaning.specs.inside.Variables.{FunctionsRise}
use Rattle.cyc_meaning.proofs.VariableRuns.{NestsAndNames, both_kept, names_start}
use Rattle.cyc_memory_relation.specs.inside.Tables.{Tables, first_tables, Placed}
use Rattle.cyc_memory_relation.specs.inside.Words.{Is}
use Rattle.cyc_memory_relation.specs.inside.Related as objects
use Rattle.cyc_memory_relation.proofs.Start.{start-related}
use Rattle.cyc_lower_proof.proofs.relation.contents.HeldValues.{callers, contents, MayBeOpen, IsCharAt}
use Rattle.cyc_lower_proof.proofs.relation.simulation.Relation.{Related, Matches}
use Rattle.cyc_lower_proof.proofs.relation.simulation.Stacks.{call_slots, types_at, starts_at}
use Rattle.cyc_lower_proof.proofs.relation.simulation.Shared.{silent}
use Rattle.cyc_lower_proof.proofs.relation.code.Fitting.{IsFitting}
use Rattle.cyc_lower_proof.proofs.relation.contents.Data.{no_locals_hold, Is-same}
use Rattle.cyc_lower_proof.proofs.relation.simulation.Accesses.{IsWell}
use Rattle.cyc_lower_proof.proofs.relation.simulation.Matched.{IsMatched, above, below, matching}
use Rattle.cyc_lower_proof.proofs.value_steps.Evaluations.{evaluating, locating}
use Rattle.cyc_lower_proof.proofs.relation.simulation.Keeping.{keeping, stepped_keeping, keeping_above, stepped_above}
use Rattle.cyc_lower_proof.proofs.object_steps.Allocations.{writing}
use Rattle.cyc_lower_proof.proofs.object_steps.ArrayBlocks.{beginning}
use Rattle.cyc_lower_proof.proofs.object_steps.Arrays.{repeating}
use Rattle.cyc_lower_proof.proofs.value_steps.Values.{given}
use Rattle.cyc_lower_proof.proofs.place_steps.SwapSteps.{swapping, writing_sides}
use Rattle.cyc_lower_proof.proofs.place_steps.PlaceSteps.{given_place}
use Rattle.cyc_lower_proof.proofs.call_steps.StatementSteps.{executing, proceeding, breaking, continuing}
use Rattle.cyc_lower_proof.proofs.call_steps.Returns.{returning}
use Rattle.cyc_lower_proof.proofs.handler_steps.ExceptionSteps.{naming, throwing, catching}
use Rattle.cyc_lower_proof.proofs.call_steps.Calls.{FunctionsStand, calling, entering, binding, entered}
use Rattle.cyc_lower_proof.proofs.emission.Bridge.{functions_stand}
use Rattle.cyc_lower_proof.specs.inside.Slots.{slot_in, global_of, global_types}
use Rattle.cyc_lower_proof.proofs.slots.Widths.{words_in, type_words, kind_in}
use Rattle.cyc_lower_proof.proofs.slots.Slots.{words_positive, globals-are}
use Rattle.std.proofs.lemmas.List.{length-replicate, get_or-append_right}
use Rattle.cyc_words.proofs.Options.{same_from_some}
use Rattle.cyc_meaning.specs.FrameCount.{words_of_all}
use Rattle.cyc_lower_proof.proofs.relation.places.GlobalRows.{global_rows, are_globals, start-rows}
use Rattle.cyc_lower_proof.proofs.relation.places.Leads.{AreNamed}
use Rattle.cyc_lower_proof.proofs.relation.places.Named.{names_there}
use Rattle.cyc_plain.specs.declared.limits.TheConstants.{MOST_GLOBALS, GLOBALS_BASE}
use Rattle.cyc_lower_proof.proofs.relation.places.Known.{IsGlobalRow, first_word}
use Rattle.cyc_lower_proof.specs.inside.ValueCode.{variable_bytes}
use Rattle.cyc_memory_relation.proofs.Chars.{char-small}

-- ---- the initial globals

-- The initial words of a global represent the initial value of the global.
abbrev begun : (constant : Constant) → Ty → (rest : List ℕ) → Words
begun constant u rest = slice_index (initial_word constant ∷ replicate (words_of u - 1) 0 ++ rest)

initial_is : (t : Tables) (g : GlobalVariable) (rest : List ℕ) (v : Kinded) (constant : Constant) (u : Ty) → IsWellTypedGlobal (record { name = g.name; of_type = u; value = constant }) → Some (record { kind = kind_of u; value = constant_value constant }) ≡ Some v
    → Is t v.kind v.value (begun constant u rest) 0
initial_is t g rest v constant u (inl (int, (n, word))) e =
    let v_is : record { kind = kinds.Int; value = Int n } ≡ v
    = sym (ap (λ (z : Ty). let x : Kinded = record { kind = kind_of z; value = Int n } in x) int) ∙ sym (ap (λ (c : Constant). let x : Kinded = record { kind = kind_of u; value = constant_value c } in x) word)
    ∙ same_Some (record { kind = kind_of u; value = constant_value constant }) v e in
    subst (λ (x : Kinded). Is t x.kind x.value (begun constant u rest) 0) v_is (ap initial_word word)
initial_is t g rest v constant u (inr (inl (char, (n, word, small)))) e =
    let v_is : record { kind = kinds.Char; value = Int n } ≡ v
    = sym (ap (λ (z : Ty). let x : Kinded = record { kind = kind_of z; value = Int n } in x) char) ∙ sym (ap (λ (c : Constant). let x : Kinded = record { kind = kind_of u; value = constant_value c } in x) word)
    ∙ same_Some (record { kind = kind_of u; value = constant_value constant }) v e in
    subst (λ (x : Kinded). Is t x.kind x.value (begun constant u rest) 0) v_is (ap initial_word word, small)
initial_is t g rest v constant (types.Pointer marks.Nullable y r) (inr (inr (k, u, s, is, non_null, null))) e =
    let v_is : record { kind = kinds.Nullable; value = Null } ≡ v
    = sym (ap (λ (c : Constant). let x : Kinded = record { kind = kinds.Nullable; value = constant_value c } in x) null) ∙ same_Some (record { kind = kinds.Nullable; value = constant_value constant }) v e in
    subst (λ (x : Kinded). Is t x.kind x.value (begun constant (types.Pointer marks.Nullable y r) rest) 0) v_is (ap initial_word null)
initial_is t g rest v constant (types.Pointer marks.Fat y r) (inr (inr (k, u, s, is, non_null, null))) e =
    let v_is : record { kind = kinds.Fat; value = Null } ≡ v
    = sym (ap (λ (c : Constant). let x : Kinded = record { kind = kinds.Fat; value = constant_value c } in x) null) ∙ same_Some (record { kind = kinds.Fat; value = constant_value constant }) v e in
    subst (λ (x : Kinded). Is t x.kind x.value (begun constant (types.Pointer marks.Fat y r) rest) 0) v_is (ap initial_word null, refl)
initial_is t g rest v constant (types.Pointer marks.NonNull y r) (inr (inr (k, u, s, is, non_null, null))) e = absurd (let f : true ≡ false = non_null in cc)
initial_is t g rest v constant types.Int (inr (inr (k, u, s, is, non_null, null))) e = absurd (let f : types.Int ≡ types.Pointer k u s = is in cc)
initial_is t g rest v constant types.Char (inr (inr (k, u, s, is, non_null, null))) e = absurd (let f : types.Char ≡ types.Pointer k u s = is in cc)
initial_is t g rest v constant (types.Handle r) (inr (inr (k, u, s, is, non_null, null))) e = absurd (let f : types.Handle r ≡ types.Pointer k u s = is in cc)
initial_is t g rest v constant (types.Key r) (inr (inr (k, u, s, is, non_null, null))) e = absurd (let f : types.Key r ≡ types.Pointer k u s = is in cc)
initial_is t g rest v constant (types.Struct n rs) (inr (inr (k, u, s, is, non_null, null))) e = absurd (let f : types.Struct n rs ≡ types.Pointer k u s = is in cc)

-- The words of each global come after those of the earlier globals, and they are the initial words of this global.
globals_start : (t : Tables) (gs : List GlobalVariable) (number : ℕ) (v : Kinded) → AreWellTypedGlobals gs → contents (map global_object gs) number ≡ Some v
    → Is t v.kind v.value (slice_index (lower_globals gs)) (slot_in (global_types gs) number) × (words_of_kind v.kind ≤ words_in (global_types gs) number)
globals_start t [] number v well has = absurd (none-some v has)
globals_start t (g ∷ gs) zero v (well, rest) has = (
  initial_is t g (lower_globals gs) v g.value g.of_type well has,
  omega (arith, type_words g.of_type, ap (λ (x : Kinded). words_of_kind x.kind) (same_Some (record { kind = kind_of g.of_type; value = constant_value g.value }) v has)),
)
globals_start t (g ∷ gs) (suc number) v (well, rest) has =
    let (is, room) = globals_start t gs number v rest has in
    let following = slot_in (global_types gs) number in
    let long : length (lower_global g) ≡ words_of g.of_type = omega (arith, length-replicate {A = ℕ} (words_of g.of_type - 1) 0, words_positive g.of_type) in
    let next = λ (j : ℕ).
    get_or-append_right (lower_global g) (lower_globals gs) (words_of g.of_type) (words_of g.of_type + following + j) 0 long (omega arith)
    ∙ ap (λ (n : ℕ). slice_index (lower_globals gs) n) (let e : words_of g.of_type + following + j - words_of g.of_type ≡ following + j = omega arith in e) in
    (Is-same t v.kind v.value (slice_index (lower_globals gs)) (slice_index (lower_globals (g ∷ gs))) following (words_of g.of_type + following) (λ j below. next j) is, room)

-- Each global has an initial value.
global_has : (gs : List GlobalVariable) (number : ℕ) → number < length (global_types gs)
    → (v : Kinded) × (contents (map global_object gs) number ≡ Some v) × (v.kind ≡ kind_in (global_types gs) number)
global_has [] number few = absurd (omega (arith, few))
global_has (g ∷ gs) zero few = (record { kind = kind_of g.of_type; value = constant_value g.value }, refl, refl)
global_has (g ∷ gs) (suc number) few = global_has gs number (omega (arith, few))

-- A global whose row in the table of objects is that of a char has the kind `Char`.
char_global : (t : Tables) (globals : List Ty) (number : ℕ) (r : IsGlobalRow t globals number) → IsCharAt t number → r.kind ≡ kinds.Char
char_global t globals number r (address, is) =
    let start : ℕ = GLOBALS_BASE + 4 * first_word globals number + variable_bytes r.kind in
    let same : Placed start (r.kind ∷ []) ≡ Placed address (kinds.Char ∷ []) = same_from_some (sym r.row ∙ is) in
    cc

none_open : (source : Program) → MayBeOpen (scopes_of source) 0
none_open source = by (list_any may_open source.functions)
  where
    by : (may : Bool) → MayBeOpen (scopes_if may) 0
    by true = tt
    by false = refl

globals_many : (gs : List GlobalVariable) → length (global_types gs) ≤ length (map global_object gs)
globals_many [] = omega arith
globals_many (g ∷ gs) = omega (arith, globals_many gs)

module _ (source : Program) (pages calls : ℕ) (well_typed : AreWellTypedGlobals source.globals) (few_globals : words_of_all (global_types source.globals) ≤ MOST_GLOBALS) (stand : FunctionsStand source pages calls) (of_words : HasWords (lower_program source))
    (fitting : IsFitting source) (typed_words : IsOfWordsProgram source) (rise : FunctionsRise source) where
  -- ---- all steps

  stepping : (focus : Focus) (k : List Entry) (e : Environment) (w : World) (c : Configuration) → IsWell (step source (Running focus k e w)) → IsNested k e w → plain.HoldsWords (plain.Running c) → AreNamed source e.locals (callers k) w c.active.function c.active.base c.frames c.store → Related source pages calls focus k e w c
      → IsMatched source pages calls (Running focus k e w) (plain.Running c)
  stepping (Evaluating a) k e w c well nested words names related = evaluating source pages calls a k e w c names well related
  stepping (Locating x) k e w c well nested words names related = locating source pages calls x k e w c well related
  stepping (Given v) k e w c well nested words names related = given source pages calls v k e w c of_words words names well related
  stepping (Executing s) k e w c well nested words names related = executing source pages calls s k e w c nested well related
  stepping Proceeding k e w c well nested words names related = proceeding source pages calls k e w c nested well related
  stepping (Calling f before) k e w c well nested words names related = calling source pages calls stand f before k e w c well related
  stepping (Entering h arguments) k e w c well nested words names related = entering source pages calls h arguments k e w c well related
  stepping (Binding n types arguments body) k e w c well nested words names related = binding source pages calls n types arguments body k e w c well related
  stepping Breaking k e w c well nested words names related = breaking source pages calls k e w c nested well related
  stepping Continuing k e w c well nested words names related = continuing source pages calls k e w c nested well related
  stepping (Returning v) k e w c well nested words names related = returning source pages calls v k e w c nested well related
  stepping (Throwing tag value) k e w c well nested words names related = throwing source pages calls tag value k e w c nested well related
  stepping (Catching tag value handler) k e w c well nested words names related = catching source pages calls tag value handler k e w c well related
  stepping (Naming n v js) k e w c well nested words names related = naming source pages calls n v js k e w c well related
  stepping (GivenPlace place) k e w c well nested words names related = given_place source pages calls place k e w c names well related
  stepping (Writing writes (Some pointer)) k e w c well nested words names related = writing source pages calls writes pointer k e w c words names well related
  stepping (Writing writes None) k e w c well nested words names related = writing_sides source pages calls writes k e w c words names well related
  stepping (Beginning owner count level wanted element) k e w c well nested words names related = beginning source pages calls owner count level wanted element k e w c well related
  stepping (Repeating object count index level wanted element) k e w c well nested words names related = repeating source pages calls object count index level wanted element k e w c well related
  stepping (Swapping kind left right before) k e w c well nested words names related = swapping source pages calls kind left right before k e w c names well related

  -- A source state that ends in a failure counts as within the limits of pages and calls.
  failed_within : (s : State) → status_in (status_of s) ≡ Failed → is_within pages calls s ≡ true
  failed_within (Running focus k e w) failed = absurd (let f : simulation.Running ≡ Failed = failed in cc)
  failed_within (Ended ending output input) failed = absurd (let f : simulation.Ended ending ≡ Failed = failed in cc)
  failed_within (Dead output input) failed = and_from _ _ (le-leb 0 pages (omega arith)) (le-leb 0 calls (omega arith))
  failed_within (Wrong output input) failed = and_from _ _ (le-leb 0 pages (omega arith)) (le-leb 0 calls (omega arith))

  goes_well : (s : State) → ((next : State) → next ≡ limited_step source pages calls s → status_in (status_of next) ≡ Failed → ⊥) → IsWell (step source s)
  goes_well s never failed =
      never (step source s) (sym (ap (λ (b : Bool). if b then step source s else Ended Full (output_of s) (input_of s)) (failed_within (step source s) failed))) failed

  -- Values in the plain machine remain 32-bit words, and the slots of calls do not overlap.
  abbrev Lies : plain.State → Type 0
  Lies t = plain.HoldsWords t × LieBelow (lower_program source) t

  lies_kept : (old new : plain.State) → Lies old → UniformStep (lower_program source) pages calls old new → Lies new
  lies_kept old new (words, lie) uniform =
      let stepped = of_uniform (lower_program source) (no_enter source typed_words) pages calls old new uniform in
      (words_stay (lower_program source) pages calls 1 old new of_words words (new, stepped, refl), below_step (lower_program source) pages calls old new lie stepped)

  -- Says that regions are nested and that every live variable is a global or a local of an active call.
  abbrev Named : State → Type 0
  Named s = NestsAndNames (length source.globals) s

  named_kept : (old new : State) → Named old → new ≡ limited_step source pages calls old → Named new
  named_kept old new both is = both_kept (length source.globals) source rise pages calls old new both is

  -- The matching of source states and plain states that also satisfy the invariants of both machines.
  abbrev matching_lies : Matching (above source pages calls) (below source pages calls)
  matching_lies = keeping (above source pages calls) (below source pages calls) (matching source pages calls) Lies lies_kept

  abbrev matching_named : Matching (above source pages calls) (below source pages calls)
  matching_named = keeping_above (above source pages calls) (below source pages calls) matching_lies Named named_kept

  steps : Steps (above source pages calls) (below source pages calls) matching_named
  steps (Running focus k e w) (plain.Running c) ((related, (words, lie)), (nested, names)) running never =
      stepped_above (above source pages calls) (below source pages calls) matching_lies Named named_kept (Running focus k e w) (plain.Running c) (nested, names)
      (stepped_keeping (above source pages calls) (below source pages calls) (matching source pages calls) Lies lies_kept (Running focus k e w) (plain.Running c) (words, lie)
      (stepping focus k e w c (goes_well (Running focus k e w) never) nested words
      (names_there source fitting typed_words few_globals k e.locals w c.active.function c.active.base c.frames c.store names.1.3 lie) related))
  steps (Running focus k e w) (plain.Ended ending output input) ((related, lies), named) running never = absurd related
  steps (Running focus k e w) (plain.Stuck output input) ((related, lies), named) running never = absurd related
  steps (Ended ending output input) t related running never = absurd (let f : simulation.Ended ending ≡ simulation.Running = running in cc)
  steps (Dead output input) t ((related, lies), named) running never = absurd related
  steps (Wrong output input) t ((related, lies), named) running never = absurd related

  -- ---- the start

  start_related : (h : Function) (base : ℕ) (store : StoreState) (input : List ℕ) → slice_get source.functions source.main ≡ Some h → IsNew pages store → 1 ≤ pages → pages ≤ MOST_PAGES → 1 ≤ calls
      → Matches source pages calls (Running (Entering h []) (Main ∷ []) no_locals (first_world source input)) (plain_step.start (lower_program source) base store input)
  start_related h base store input there new some_page few_pages some_call =
      let t = first_tables (global_rows source few_globals) in
      let w = first_world source input in
      let words : ℕ → ℕ = λ global. slice_index (lower_program source).globals global in
      let slots : ℕ → ℕ = λ slot. 0 in
      entered source pages calls stand source.main base h [] (Main ∷ []) w slots words [] [] store [] input there
      (record {
        tables = t;
        same_output = refl;
        same_input = refl;
        same_pages = ap (λ (s : StoreState). s.pages) new.2;
        related = subst (objects.Related t (silent w)) (sym new.2) (start-related source (global_rows source few_globals) (are_globals source few_globals) [] pages new.0 new.1 some_page few_pages);
        globals = refl;
        variables = (refl, tt);
        few_pages = omega (arith, new_demand pages store new, some_page);
        fits = omega (arith, some_call);
        counters = (tt, none_open source);
      }) (
        (
          length w.objects,
          omega arith,
          no_locals_hold t _ (call_slots source source.main base) w.objects (length w.objects) (length w.objects) slots,
          globals_many source.globals,
          λ number few. (
            start-rows source few_globals number few,
            λ v has.
                let (is, room) = globals_start t source.globals number v well_typed has in
                let first = global_of (starts_at source source.main) number in
                let first_is = globals-are (types_at source source.main) number few in
                (subst (Is t v.kind v.value words) (sym first_is) is, room),
            λ is_char.
                let (v, has, kind) = global_has source.globals number few in
                let (is, room) = globals_start t source.globals number v well_typed has in
                let row = start-rows source few_globals number few in
                let char : v.kind ≡ kinds.Char = kind ∙ (row.of_type ∙ char_global t (global_types source.globals) number row is_char) in
                let first_is = globals-are (types_at source source.main) number few in
                subst (λ (n : ℕ). n < 256) (sym (ap (slice_index (lower_globals source.globals)) first_is))
                (char-small t v.value (slice_index (lower_globals source.globals)) (slot_in (global_types source.globals) number) (subst (λ (kind : Kind). Is t kind v.value (slice_index (lower_globals source.globals)) (slot_in (global_types source.globals) number)) char is)),
          ),
        ),
        (refl, tt),
      )
      refl tt (λ m end. (_, end, (refl, refl), tt))

  from_start : (h : Option Function) (input : List ℕ) → slice_get source.functions source.main ≡ h → 1 ≤ calls
      → (status_in (status_of (called h [] (Main ∷ []) (first_world source input))) ≡ Failed → ⊥)
      → (f : Function) × (start source input ≡ Running (Entering f []) (Main ∷ []) no_locals (first_world source input)) × (slice_get source.functions source.main ≡ Some f)
  from_start None input is some_call well = absurd (well refl)
  from_start (Some h) input is some_call well = fits (0 == length h.parameters) refl
    where
      fits : (b : Bool) → (0 == length h.parameters) ≡ b → (f : Function) × (start source input ≡ Running (Entering f []) (Main ∷ []) no_locals (first_world source input)) × (slice_get source.functions source.main ≡ Some f)
      fits false e = absurd (well (ap (λ (b : Bool). status_in (status_of (if b then Running (Entering h []) (Main ∷ []) no_locals (first_world source input) else wrong (first_world source input)))) e))
      fits true e = (
        h,
        ap (λ o. called o [] (Main ∷ []) (first_world source input)) is
            ∙ ap (λ (b : Bool). if b then Running (Entering h []) (Main ∷ []) no_locals (first_world source input) else wrong (first_world source input)) e,
        is,
      )

  follows_source : (base : ℕ) (store : StoreState) (input : List ℕ) → IsNew pages store → 1 ≤ pages → pages ≤ MOST_PAGES → 1 ≤ calls → AllByRecursion (λ b. b < 256) input
      → IsBelow (lower_program source) (lower_program source).main base slots_end → FollowsSource source (lower_program source) pages calls base store input
  -- The proof uses a plain machine that checks the same page and call limits at every instruction. This is justified since
  -- the lowered code has no `Enter` instruction.
  follows_source base store input new some_page few_pages some_call bytes lies never =
      let (h, starts, there) = from_start (slice_get source.functions source.main) input refl some_call (never 0 (start source input) refl) in
      follows_uniform (lower_program source) (no_enter source typed_words) pages calls (above source pages calls) [] (λ state. places_of (lower_program source)) (start source input) (plain_step.start (lower_program source) base store input)
      (simulates (above source pages calls) (below source pages calls) matching_named steps (uniform_lawful (lower_program source) (no_enter source typed_words) pages calls) [] (start source input) never
      (plain_step.start (lower_program source) base store input)
      (ap (λ s. status_in (status_of s)) starts) (
        (
          subst (λ s. Matches source pages calls s (plain_step.start (lower_program source) base store input)) (sym starts) (start_related h base store input there new some_page few_pages some_call),
          (
            words_at_start (lower_program source) base store input of_words (subst (λ (s : StoreState). stores.AreWords s.memory) (sym new.2) new.1) bytes,
            below_start (lower_program source) base store input lies,
          ),
        ),
        (nests_start source input, names_start source input rise),
      ))

-- The lowered program has the behaviors of the source program, if the source program meets the requirements of lowering.
pub follows : (source : Program) → IsFitting source → IsOfWordsProgram source → FunctionsRise source → words_of_all (global_types source.globals) ≤ MOST_GLOBALS → HasWords (lower_program source) → (pages calls base : ℕ) (store : StoreState) (input : List ℕ)
    → IsNew pages store → 1 ≤ pages → pages ≤ MOST_PAGES → 1 ≤ calls → AllByRecursion (λ b. b < 256) input → IsBelow (lower_program source) (lower_program source).main base slots_end → FollowsSource source (lower_program source) pages calls base store input
follows source fitting typed_words rise few_globals of_words pages calls base store input new some_page few_pages some_call bytes lies =
    follows_source source pages calls fitting.globals few_globals (functions_stand source pages calls fitting) of_words fitting typed_words rise base store input new some_page few_pages some_call bytes lies
