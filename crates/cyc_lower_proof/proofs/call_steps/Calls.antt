-- This file proves that the lowered code follows the source steps of calls.
use Rattle.std.proofs.Common.{◌≡◌, ℕ, zero, suc, ◌+◌, ◌-◌, ◌<◌, ◌^◌, ◌%◌, Bool, true, false, List, [], ◌∷◌, ◌++◌, length, reverse, drop, Option, None, Some, slice_get, unwrap_or, bit_and, refl, sym, ap, subst, ◌∙◌, arith, inl, inr, length-append, append_assoc}
use Rattle.std.specs.Prelude.{◌==◌, nat_le, if◌then◌else◌}
use Rattle.std.proofs.lemmas.Bool.{cases_lt, false_from_ne_true, leb-true, and_right}
use Rattle.std.proofs.lemmas.Option.{same_Some, none-some}
use Rattle.cyc_words.specs.Ending.{Full}
use Rattle.cyc_words.proofs.PrefixLemmas.{IsPrefix-append}
use Rattle.cyc_types.specs.declared.typed.Kind.{Kind}
use Rattle.cyc_types.specs.declared.typed.Kind.TheVariants as kinds
use Rattle.cyc_types.specs.declared.typed.Callee.{Callee}
use Rattle.cyc_types.specs.declared.typed.Callee.TheVariants as callees
use Rattle.cyc_types.specs.Types.{Ty, words_of}
use Rattle.cyc_types.specs.TypedTrees.{Items, Signature, Function, Program}
use Rattle.cyc_types.specs.Numbered.{signatures_of}
use Rattle.cyc_plain.specs.declared.instruction.Operand.{Operand}
use Rattle.cyc_plain.specs.declared.instruction.Instruction.TheVariants as instructions
use Rattle.cyc_store.specs.State.{StoreState}
use Rattle.cyc_plain.specs.inside.State as plain
use Rattle.cyc_plain.specs.inside.State.{Words, put, copied, Handler, Frame, Configuration}
use Rattle.cyc_plain.specs.inside.Step.{Choice, operand_word, with_slots, advanced, performed, executed}
use Rattle.cyc_plain.specs.inside.Step as plain_step
use Rattle.cyc_plain.proofs.RunLaws.{limited-full}
use Rattle.cyc_plain.specs.inside.Straight.{At}
use Rattle.cyc_words.proofs.Matching.{way_after}
use Rattle.cyc_words.proofs.Numbers.{bit_and_255}
use Rattle.cyc_meaning.specs.Values.{Value, Int, Operand as Kinded, kind_of, is_kind, words_of_kind}
use Rattle.cyc_meaning.specs.FrameCount.{words_of_all}
use Rattle.cyc_meaning.specs.State.{World, Environment, no_locals, with_local, variable, made, opened, region_at, Entry, Rest, Caller, calls_in, demand, status_of, Focus, Given, Proceeding, Calling, Entering, Binding, State, Running, Ended}
use Rattle.cyc_meaning.specs.Step.{wrong, declared, inside, region_end, called, step}
use Rattle.cyc_meaning.specs.SourceMachine.{status_in}
use Rattle.cyc_meaning.specs.Run.{is_within, limited_step}
use Rattle.cyc_lower_proof.specs.inside.ControlCode.{outside_loops}
use Rattle.cyc_lower_proof.specs.inside.Lowering.{lower_program, raises_of, globals_of, scopes_of}
use Rattle.cyc_lower_proof.proofs.relation.code.Statements.{ItemsAt}
use Rattle.cyc_lower_proof.specs.inside.Slots.{starts_of, slot_of, global_types}
use Rattle.cyc_lower_proof.proofs.slots.Slots.{slot-parameter, words-parameter, slot_types-many, words-append, kind-parameter}
use Rattle.cyc_lower_proof.proofs.slots.Widths.{kind_of_result, result_kind, same_kind, type_words, words_in, HasRoom, kind_in}
use Rattle.cyc_lower_proof.proofs.value_steps.ValueWords.{of_kind, int_is}
use Rattle.cyc_memory_relation.specs.inside.Tables.{with_row, with_handle}
use Rattle.cyc_memory_relation.specs.inside.Words.{Is}
use Rattle.cyc_memory_relation.specs.inside.Related.{scopes}
use Rattle.cyc_memory_relation.proofs.Values.{Grows-row, Grows-handle, Is-grows}
use Rattle.cyc_lower_proof.proofs.relation.contents.HeldValues.{IsIn, words_held, Holds, HoldsFrom, held, callers, homes, after_records, row_of}
use Rattle.cyc_lower_proof.proofs.relation.simulation.Relation.{DataIn, SharedAt, nowhere, following_statement, Related, Matches, HandlersStand, CountsBy}
use Rattle.cyc_lower_proof.proofs.relation.simulation.Stacks.{DataAt, prints_only, gives_byte, StatementStack, LandsStack, PrintsStack, code_of, types_in, types_at, starts_at, parameters_in, parameters_at, bounds_in, bounds_at, called_at, returned_at, base_of, top, in_place, floor}
use Rattle.cyc_lower_proof.proofs.relation.simulation.Stacks.{call_slots}
use Rattle.cyc_lower_proof.proofs.relation.simulation.Shared.{shared_seen, Shared}
use Rattle.cyc_lower_proof.proofs.relation.contents.Data.{words-reverse, Holds-rest, in_order, arguments_copied, data_declared, data_called}
use Rattle.cyc_lower_proof.proofs.relation.contents.HandlerData.{calls_counted}
use Rattle.cyc_lower_proof.proofs.relation.contents.GrowingData.{data_grows, HoldsFrom-grows}
use Rattle.cyc_lower_proof.proofs.relation.simulation.Accesses.{IsWell, is_fitting, is_declared, home_there}
use Rattle.cyc_lower_proof.proofs.relation.simulation.Matched.{IsMatched, above, below, matching, silently, by_one, by_two_known, shared_within, shared_way, steps_to, place_in, known}
use Rattle.cyc_lower_proof.proofs.value_steps.Landings.{IsStep, landed_word, lands_at}
use Rattle.cyc_lower_proof.proofs.relation.contents.Sharing.{shared_declared, row_declared, shared_opened}
use Rattle.cyc_lower_proof.proofs.relation.places.Rows.{row-fits, row-variable, declared_low}

module _ (source : Program) (pages calls : ℕ) where
  -- ---- built-in functions

  -- In a call of `getchar`, the source machine and the plain machine read the same input byte.
  reads : (k : List Entry) (e : Environment) (w : World) (c : Configuration) → IsStep source pages calls (Calling callees.Getchar []) k e w c
  reads k e w c well (shared, facts, (d, q, (here, end), holds, lands)) =
      let next : World = record w { input = drop 1 w.input } in
      let read : Configuration = record c { input = drop 1 c.input } in
      let word = unwrap_or (slice_get c.input 0) (2 ^ 32 - 1) in
      let byte = unwrap_or (slice_get w.input 0) (2 ^ 32 - 1) in
      let shared_read : SharedAt source pages calls k e next read = record {
        same_output = shared.same_output;
        same_input = ap (drop 1) shared.same_input;
        same_pages = shared.same_pages;
        few_pages = shared.few_pages;
        tables = shared.tables;
        related = shared.related;
        globals = shared.globals;
        variables = shared.variables;
        fits = shared.fits;
        counters = shared.counters;
      } in
      by_one source pages calls refl shared here
      (λ choice. landed_word source pages calls byte word d k e next read q (ap (λ (l : List ℕ). unwrap_or (slice_get l 0) (2 ^ 32 - 1)) shared.same_input) shared_read facts holds end lands)

  abbrev shared_printed : (a x : ℕ) (k : List Entry) (e : Environment) (w : World) (c : Configuration) → (shared : SharedAt source pages calls k e w c) → x ≡ a
      → SharedAt source pages calls k e (record w { output = w.output ++ a % 256 ∷ [] }) (advanced (record c { output = c.output ++ x % 256 ∷ [] }))
  shared_printed a x k e w c shared is = record {
    same_output = ap (λ (l : List ℕ). l ++ x % 256 ∷ []) shared.same_output ∙ ap (λ y. w.output ++ y % 256 ∷ []) is;
    same_input = shared.same_input;
    same_pages = shared.same_pages;
    few_pages = shared.few_pages;
    tables = shared.tables;
    related = shared.related;
    globals = shared.globals;
    variables = shared.variables;
    fits = shared.fits;
    counters = shared.counters;
  }

  -- In a call of `putchar`, the byte is printed, and then its value is dropped or moved to a slot.
  prints : (i : Kind) (a : ℕ) (o : Operand) (k : List Entry) (e : Environment) (w : World) (c : Configuration)
      → (shared : SharedAt source pages calls k e w c) → DataIn source shared.tables c.active.slots k e w c → operand_word c.active.slots o ≡ a → Holds shared.tables c.active.slots (floor source c.active.function k) (held k)
      → PrintsStack source c.active.function e.locals o c.active.next c.frames k
      → IsMatched source pages calls (Running (Calling callees.Putchar (record { kind = i; value = Int a } ∷ [])) k e w) (plain.Running c)
  prints i a o k e w c shared facts is holds (write, prints_only stack) =
      by_one source pages calls refl shared write
      (λ choice. (shared_printed a (operand_word c.active.slots o) k e w c shared is, nowhere facts stack))
  prints i a o k e w c shared facts is holds (write, gives_byte d low lands) =
      let x = operand_word c.active.slots o in
      let s = Running (Calling callees.Putchar (record { kind = i; value = Int a } ∷ [])) k e w in
      let next : World = record w { output = w.output ++ a % 256 ∷ [] } in
      let after = Running (Given (record { kind = kinds.Int; value = Int (a % 256) })) k e next in
      let first : Configuration = advanced (record c { output = c.output ++ x % 256 ∷ [] }) in
      let last : Configuration = advanced (with_slots first (put c.active.slots d (bit_and x 255))) in
      let shared_next : SharedAt source pages calls k e next first = shared_printed a x k e w c shared is in
      let done : Related source pages calls (Given (record { kind = kinds.Int; value = Int (a % 256) })) k e next last =
      landed_word source pages calls (a % 256) (bit_and x 255) d k e next first (c.active.next + 1 + 1) (bit_and_255 x ∙ ap (λ y. y % 256) is) shared_next facts holds refl lands in
      by_two_known source pages calls first refl shared (shared_within source pages calls k e next first shared_next)
      (way_after (above source pages calls) (below source pages calls) (matching source pages calls) s after (plain.Running first)
      (steps_to source pages calls s after (plain.Running last) refl done) (IsPrefix-append w.output (a % 256 ∷ []), ([], refl)) refl (shared_seen shared_next))
      write (λ choice. refl) low (λ same. omega (arith, same)) (λ choice. done)

  prints_value : (i : Kind) (v : Value) (k : List Entry) (e : Environment) (w : World) (c : Configuration) → IsStep source pages calls (Calling callees.Putchar (record { kind = i; value = v } ∷ [])) k e w c
  prints_value i (Int a) k e w c well (shared, facts, (u, o, single, is, holds, stack)) =
      let v : Kinded = record { kind = i; value = Int a } in
      let same : v ≡ u = let f : v ∷ [] ≡ u ∷ [] = single in cc in
      prints i a o k e w c shared facts (int_is shared.tables i a c.active.slots o (subst (λ (x : Kinded). IsIn shared.tables x c.active.slots o) (sym same) is)) holds stack
  prints_value i v k e w c well related = absurd (well refl)

  -- ---- the parameters of a call

  pub entering : (h : Function) (arguments : List Kinded) (k : List Entry) (e : Environment) (w : World) (c : Configuration) → IsStep source pages calls (Entering h arguments) k e w c
  entering h arguments k e w c well (shared, facts, (m, items, stack, holds, own)) =
      silently source pages calls (Running (Entering h arguments) k e w) (Running (Binding 0 h.parameters arguments h.body) (region_end e w ∷ k) (inside e w) (opened w)) (plain.Running c) refl (
        shared_opened source pages calls k e w c shared,
        (data_grows shared.tables (with_handle shared.tables None) (Grows-handle shared.tables None) source c.active.function c.active.base w.objects e.locals (callers k) c.active.slots c.globals c.frames facts.0, facts.1),
        (m, [], items, (m, in_place refl, stack), HoldsFrom-grows shared.tables (with_handle shared.tables None) (Grows-handle shared.tables None) c.active.slots 0 arguments holds, own, refl),
      )
      (omega arith)

  -- A parameter is a local, and its slots come after the slots of the earlier parameters.
  parameter_in : (h : Option Function) (first rest : List Ty) (t : Ty) → parameters_in source h ≡ first ++ t ∷ rest
      → (length first < length (types_in source h).locals) × (slot_of (starts_of (types_in source h)) (length first) ≡ words_of_all first) × (words_in (types_in source h).locals (length first) ≡ words_of t)
      × (kind_in (types_in source h).locals (length first) ≡ kind_of t)
  parameter_in None first rest t own = absurd (omega (arith, ap length own, length-append first (t ∷ rest)))
  parameter_in (Some h) first rest t own = (
    omega (arith, slot_types-many h, ap length own, length-append first (t ∷ rest)),
    ap (λ (ts : List Ty). slot_of (starts_of (record { locals = ts ++ h.locals; structs = source.structs; raises = raises_of source.structs (globals_of source) (scopes_of source) h; counters = []; globals = global_types source.globals; scopes = scopes_of source })) (length first)) own ∙ slot-parameter source.structs (raises_of source.structs (globals_of source) (scopes_of source) h) (global_types source.globals) (scopes_of source) first rest t h.locals,
    ap (λ (ts : List Ty). words_in (ts ++ h.locals) (length first)) own ∙ words-parameter first rest t h.locals,
    ap (λ (ts : List Ty). kind_in (ts ++ h.locals) (length first)) own ∙ kind-parameter first rest t h.locals,
  )

  pub binding : (n : ℕ) (types : List Ty) (arguments : List Kinded) (body : Items) (k : List Entry) (e : Environment) (w : World) (c : Configuration) → IsStep source pages calls (Binding n types arguments body) k e w c
  binding n [] [] body k e w c well (shared, facts, (m, first, items, stack, holds, own, count)) =
      silently source pages calls (Running (Binding n [] [] body) k e w) (Running Proceeding (Rest body ∷ k) e w) (plain.Running c) refl
      (shared, following_statement outside_loops facts (m, items, stack))
      (omega arith)
  binding n [] (v ∷ arguments) body k e w c well related = absurd (well refl)
  binding n (t ∷ types) [] body k e w c well related = absurd (well refl)
  binding n (t ∷ types) (v ∷ arguments) body k e w c well (shared, facts, (m, first, items, stack, (is, holds), own, count)) =
      let g = c.active.function in
      let (local, slot, words, of_type) = parameter_in (slice_get source.functions g) first types t own in
      let x = variable e.home (kind_of t) (Some v.value) in
      let made_it = declared (region_at w e.home) (Binding (suc n) types arguments body) n (kind_of t) (Some v.value) k e w in
      let fits = is_fitting (is_kind v.kind (kind_of t)) made_it w well in
      let does : step source (Running (Binding n (t ∷ types) (v ∷ arguments) body) k e w) ≡ made_it = ap (λ (b : Bool). if b then made_it else wrong w) fits in
      let (r, home) = home_there (Binding (suc n) types arguments body) n (kind_of t) (Some v.value) k e w (subst IsWell does well) in
      let row = row_of (call_slots source g c.active.base) (slot_of (starts_at source g) n) (kind_of t) in
      let grown = with_row shared.tables row in
      let grows = Grows-row shared.tables row in
      let more = data_grows shared.tables grown grows source g c.active.base w.objects e.locals (callers k) c.active.slots c.globals c.frames facts.0 in
      let is_now = Is-grows grows v.kind v.value c.active.slots (words_of_all first) is in
      let kind_is : v.kind ≡ kind_of t = same_kind v.kind (kind_of t) fits in
      let wide : words_of_kind v.kind ≡ words_of t = ap words_of_kind kind_is ∙ type_words t in
      let there : slot_of (starts_at source g) n ≡ words_of_all first = ap (slot_of (starts_at source g)) (sym count) ∙ slot in
      let room : HasRoom (types_at source g) n v.kind = omega (arith, wide, words, ap (words_in (types_at source g).locals) count) in
      let next : words_of_all (first ++ t ∷ []) ≡ words_of_all first + words_of_kind v.kind = omega (arith, words-append first (t ∷ []), wide) in
      silently source pages calls (Running (Binding n (t ∷ types) (v ∷ arguments) body) k e w)
      (Running (Binding (suc n) types arguments body) k (with_local e n (length w.objects)) (made w x)) (plain.Running c)
      (does ∙ is_declared (region_at w e.home) (Binding (suc n) types arguments body) n (kind_of t) (Some v.value) k e w (subst IsWell does well)) (
        shared_declared source pages calls k e w c shared n r (kind_of t) (Some v.value) row home (row-fits (call_slots source g c.active.base) (slot_of (starts_at source g) n) (kind_of t) e.home (Some v.value)) (row-variable (call_slots source g c.active.base) (slot_of (starts_at source g) n) (kind_of t)),
        (
          data_declared grown source g c.active.base w.objects e (callers k) c.active.slots c.active.slots c.globals c.frames n 0 x (omega (arith, local, count)) (omega arith) (record { kind = kind_of t; room = subst (HasRoom (types_at source g) n) kind_is room; of_type = ap (kind_in (types_at source g).locals) (sym count) ∙ of_type; row = row_declared source pages calls k e w c shared row }) (λ i out. refl)
              (λ u has.
              let u_is : v ≡ u = ap (λ i. of_kind i v.value) kind_is ∙ same_Some (of_kind (kind_of t) v.value) u has in
              subst (λ (y : Kinded). Is grown y.kind y.value c.active.slots (slot_of (starts_at source g) n) × HasRoom (types_at source g) n y.kind) u_is (subst (Is grown v.kind v.value c.active.slots) (sym there) is_now, room))
              (λ is_char. declared_low grown (call_slots source g c.active.base) (slot_of (starts_at source g) n) (kind_of t) (length w.objects) v c.active.slots (row_declared source pages calls k e w c shared row) kind_is (subst (Is grown v.kind v.value c.active.slots) (sym there) is_now) is_char) more,
          facts.1,
        ),
        (
          m,
          first ++ t ∷ [],
          items,
          stack,
          subst (λ i. HoldsFrom grown c.active.slots i arguments) (sym next) (HoldsFrom-grows shared.tables grown grows c.active.slots (words_of_all first + words_of_kind v.kind) arguments holds),
          own ∙ sym (append_assoc first (t ∷ []) types),
          let long : length (first ++ t ∷ []) ≡ length first + 1 = length-append first (t ∷ []) in omega (arith, long, count),
        ),
      )
      (omega arith)

  -- ---- functions

  -- Says that the code of each function contains the lowered instructions of the function's body.
  abbrev pub FunctionsStand : Type 0
  FunctionsStand = (n : ℕ) (h : Function) → slice_get source.functions n ≡ Some h
      → (m : ℕ) × ItemsAt (code_of source n) (bounds_at source n) (types_at source n) h.body outside_loops (base_of source n + 1) 0 m
      × At (code_of source n) m (instructions.Finish (base_of source n))

  parameters_fit : (n : ℕ) (h : Function) → slice_get source.functions n ≡ Some h → parameters_at source n ≡ h.parameters
  parameters_fit n h there = ap (parameters_in source) there

  -- A caller expects from each function the number of words that the function returns.
  functions_in : (h : Option Function) → (bounds_in source h).functions ≡ signatures_of source.functions
  functions_in None = refl
  functions_in (Some h) = refl

  signature_at : (hs : List Function) (n : ℕ) (h : Function) → slice_get hs n ≡ Some h → result_kind (slice_get (signatures_of hs) n) ≡ kind_of_result h.result
  signature_at [] n h there = absurd (none-some h there)
  signature_at (x ∷ hs) zero h there = ap (λ (y : Function). kind_of_result y.result) (same_Some x h there)
  signature_at (x ∷ hs) (suc n) h there = signature_at hs n h there

  kinds_agree : (g n : ℕ) (h : Function) → slice_get source.functions n ≡ Some h → called_at source g (callees.Function n) ≡ returned_at source n
  kinds_agree g n h there =
      ap (λ (ss : List Signature). result_kind (slice_get ss n)) (functions_in (slice_get source.functions g))
      ∙ signature_at source.functions n h there
      ∙ sym (ap (λ (f : Option Function). kind_of_result (bounds_in source f).result) there)

  -- The state after a function has been called, with its arguments in the first slots of the new frame.
  pub entered : FunctionsStand → (n base : ℕ) (h : Function) (arguments : List Kinded) (k : List Entry) (w : World) (slots globals : Words) (handlers : List Handler) (frames : List Frame) (store : StoreState) (output input : List ℕ)
      → slice_get source.functions n ≡ Some h
      → (shared : Shared pages calls w (no_locals.home ∷ homes k) (CountsBy source None no_locals k store (scopes w.regions)) output input store (length frames))
      → DataAt source shared.tables n base w.objects (λ (number : ℕ). None) (callers k) slots globals frames × HandlersStand source n slots handlers frames k → floor source n k ≡ base_of source n + 1
      → HoldsFrom shared.tables slots 0 arguments → ((m : ℕ) → At (code_of source n) m (instructions.Finish (base_of source n)) → StatementStack source n outside_loops m frames k)
      → Related source pages calls (Entering h arguments) k no_locals w
      (record { active = record { function = n; next = 0; base = base; slots = slots; handlers = handlers }; frames = frames; globals = globals; store = store; output = output; input = input })
  entered stand n base h arguments k w slots globals handlers frames store output input there shared facts least holds stack =
      let (m, items, end) = stand n h there in
      let g = code_of source n in (
        shared,
        facts,
        (m, subst (λ t. ItemsAt g (bounds_at source n) (types_at source n) h.body outside_loops t 0 m) (sym least) items, stack m end, holds, parameters_fit n h there),
      )

  -- If the call stack has no space for one more call, then the source run and the plain run both end for lack of space.
  full : (k : List Entry) (e : Environment) (w : World) (c : Configuration) (focus : Focus) (next : State) (n first many into : ℕ)
      → step source (Running focus k e w) ≡ next → is_within pages calls next ≡ false
      → (shared : SharedAt source pages calls k e w c) → At (code_of source c.active.function) c.active.next (instructions.Call n first many into)
      → calls < suc (suc (length c.frames))
      → IsMatched source pages calls (Running focus k e w) (plain.Running c)
  full k e w c focus next n first many into does over shared here past =
      let i = instructions.Call n first many into in
      let lowered = lower_program source in
      let over_below : (choice : Choice) → plain_step.is_within pages calls (performed lowered choice c i) ≡ false = λ choice.
      and_right (nat_le (plain.demand (plain.Running c)) pages) _ (false_from_ne_true (nat_le (suc (suc (length c.frames))) calls) (λ h. absurd (omega (arith, leb-true (suc (suc (length c.frames))) calls h, past)))) in
      let source_full : limited_step source pages calls (Running focus k e w) ≡ Ended Full w.output w.input =
      ap (λ (b : Bool). if b then step source (Running focus k e w) else Ended Full w.output w.input) (ap (is_within pages calls) does ∙ over) in
      record {
        places = place_in source pages calls c ∷ [];
        distinct = (tt, tt);
        inside = (known source pages calls c i here, tt);
        comes = (
          refl,
          shared_way source pages calls focus k e w c shared,
          λ u stepped.
              let (choice, allowed, is) = stepped in
              let performs : plain_step.step lowered choice (plain.Running c) ≡ performed lowered choice c i = ap (executed lowered choice c) here in
              let u_is : u ≡ plain.Ended Full c.output c.input =
              is ∙ limited-full pages calls (plain.Running c) (plain_step.step lowered choice (plain.Running c)) (ap (plain_step.is_within pages calls) performs ∙ over_below choice) in
              record {
                next = Ended Full w.output w.input;
                step = sym source_full;
                matches = subst (Matches source pages calls (Ended Full w.output w.input)) (sym u_is) (refl, shared_seen shared);
                lighter = λ none. absurd (omega (arith, none));
              },
        );
      }

  calls_function : FunctionsStand → (n : ℕ) (before : List Kinded) (found : Option Function) (k : List Entry) (e : Environment) (w : World) (c : Configuration)
      → slice_get source.functions n ≡ found → IsWell (called found (reverse before) (Caller e ∷ k) w)
      → Related source pages calls (Calling (callees.Function n) before) k e w c
      → IsMatched source pages calls (Running (Calling (callees.Function n) before) k e w) (plain.Running c)
  calls_function stand n before None k e w c there well related = absurd (well refl)
  calls_function stand n before (Some h) k e w c there well related = taken (length (reverse before) == length h.parameters) refl
    where
      taken : (b : Bool) → (length (reverse before) == length h.parameters) ≡ b → IsMatched source pages calls (Running (Calling (callees.Function n) before) k e w) (plain.Running c)
      taken false fits = absurd (well (ap (λ (b : Bool). status_in (status_of (if b then Running (Entering h (reverse before)) (Caller e ∷ k) no_locals w else wrong w))) fits))
      taken true fits =
          let (shared, facts, (into, q, (here, end), holds, lands)) = related in
          let g = c.active.function in
          let base = floor source g k in
          let d = top source g k in
          let next = Running (Entering h (reverse before)) (Caller e ∷ k) no_locals w in
          let does : step source (Running (Calling (callees.Function n) before) k e w) ≡ next =
          ap (λ (f : Option Function). called f (reverse before) (Caller e ∷ k) w) there
          ∙ ap (λ (b : Bool). if b then Running (Entering h (reverse before)) (Caller e ∷ k) no_locals w else wrong w) fits in
          let waiting = calls_counted source g c.active.slots c.active.handlers c.frames k facts.1 in
          elim (cases_lt calls (suc (suc (length c.frames)))) [
            | inl past ↦
                full k e w c (Calling (callees.Function n) before) next n d (words_held before) into does
                (and_right (nat_le (demand next) pages) _ (false_from_ne_true (nat_le (suc (calls_in k)) calls) (λ z. absurd (omega (arith, leb-true (suc (calls_in k)) calls z, past, waiting)))))
                shared here past
            | inr fine ↦
                let frame : Frame = record { caller = (advanced c).active; result = into } in
                let back : LandsStack source g e.locals (returned_at source n) into (c.active.next + 1) c.frames k =
                subst (λ i. LandsStack source g e.locals i into (c.active.next + 1) c.frames k) (kinds_agree g n h there)
                (lands_at source pages calls g e.locals (called_at source g (callees.Function n)) into (c.active.next + 1) q c.frames k end lands) in
                by_one source pages calls does shared here
                (λ choice.
                let slots = copied c.active.slots d (words_held before) choice.contents 0 in
                entered stand n choice.base h (reverse before) (Caller e ∷ k) w slots c.globals [] (frame ∷ c.frames) c.store c.output c.input there
                (record {
                  same_output = shared.same_output;
                  same_input = shared.same_input;
                  same_pages = shared.same_pages;
                  few_pages = shared.few_pages;
                  tables = shared.tables;
                  related = shared.related;
                  globals = shared.globals;
                  variables = (shared.globals, shared.variables);
                  fits = fine;
                  counters = shared.counters;
                }) (
                  data_called shared.tables source g c.active.base n choice.base w.objects e (after_records k) (held k) (callers k) c.active.slots slots c.globals frame c.frames refl refl refl (Holds-rest shared.tables c.active.slots base before (held k) holds) facts.0,
                  (refl, facts.1),
                )
                refl
                (arguments_copied shared.tables c.active.slots choice.contents d 0 (words_held before) (reverse before) (omega (arith, words-reverse before))
                (subst (λ (i : ℕ). HoldsFrom shared.tables c.active.slots i (reverse before)) (let z : d ≡ d + 0 = omega arith in z) (in_order shared.tables c.active.slots base before (held k) holds)))
                (λ m at_end. (base_of source n, at_end, (refl, refl), back)))
          ]

  -- If `putchar` is called with more than one argument, the source semantics rejects the step that performs the call.
  prints_more : (i : Kind) (v : Value) (u : Kinded) (before : List Kinded) (k : List Entry) (e : Environment) (w : World) (c : Configuration) → IsStep source pages calls (Calling callees.Putchar (record { kind = i; value = v } ∷ u ∷ before)) k e w c
  prints_more i (Int a) u before k e w c well related = absurd (well refl)
  prints_more i v u before k e w c well related = absurd (well refl)

  pub calling : FunctionsStand → (f : Callee) (before : List Kinded) (k : List Entry) (e : Environment) (w : World) (c : Configuration) → IsStep source pages calls (Calling f before) k e w c
  calling stand callees.Putchar [] k e w c well related = absurd (well refl)
  calling stand callees.Putchar (v ∷ []) k e w c well related = prints_value v.kind v.value k e w c well related
  calling stand callees.Putchar (v ∷ u ∷ before) k e w c well related = prints_more v.kind v.value u before k e w c well related
  calling stand callees.Getchar [] k e w c well related = reads k e w c well related
  calling stand callees.Getchar (v ∷ before) k e w c well related = absurd (well refl)
  calling stand (callees.Function n) before k e w c well related = calls_function stand n before (slice_get source.functions n) k e w c refl well related
