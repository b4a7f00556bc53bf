-- This file proves the steps that pass a value to the newest continuation frame.
use Rattle.std.proofs.Common.{◌≡◌, ℕ, suc, ◌+◌, Bool, true, false, List, [], ◌∷◌, Option, Some, slice_get, refl, sym, ap, subst, ◌∙◌, arith, inl, inr, length}
use Rattle.std.specs.Prelude.{◌==◌, ◌&&◌, if◌then◌else◌, ◌%◌, ◌^◌, option_map, is_some}
use Rattle.std.proofs.lemmas.Option.{same_Some}
use Rattle.cyc_words.proofs.Booleans.{and_left, and_right}
use Rattle.cyc_types.specs.declared.typed.Kind.{Kind}
use Rattle.cyc_types.specs.declared.typed.Kind.TheVariants as kinds
use Rattle.cyc_types.specs.declared.typed.Callee.{Callee}
use Rattle.cyc_types.specs.declared.typed.UnaryOperator.TheVariants as unary
use Rattle.cyc_types.specs.declared.typed.Operator.{Operator}
use Rattle.cyc_types.specs.declared.typed.Callee.TheVariants as callees
use Rattle.cyc_types.specs.TypedTrees.{Expression, Initial, Arguments, NoArguments, MoreArguments, Operations, NoOperations, ThenCompute, Items, Program}
use Rattle.cyc_plain.specs.declared.instruction.Comparison.TheVariants as comparisons
use Rattle.cyc_plain.specs.declared.instruction.Operand.{Operand}
use Rattle.cyc_plain.specs.declared.instruction.Operand.TheVariants as operands
use Rattle.cyc_plain.specs.inside.State as plain
use Rattle.cyc_plain.specs.inside.State.{Words, Configuration}
use Rattle.cyc_plain.specs.inside.Step.{operand_word, with_slots, at, advanced}
use Rattle.cyc_plain.specs.inside.WellFormed.{HasWords}
use Rattle.cyc_meaning.specs.Values.{Value, Int, Null, Thin, Fat, Handle, Key, Operand as Kinded, is_kind, is_thin, words_of_kind, bytes_of_kind}
use Rattle.cyc_meaning.specs.Operators.{null_exception, unary_kind}
use Rattle.cyc_meaning.specs.Pointers.{followed}
use Rattle.cyc_meaning.specs.Places.{arrives, member_of}
use Rattle.cyc_meaning.specs.Allocation.{makes_by}
use Rattle.cyc_meaning.specs.State.{Region, World, Environment, with_local, made, variable, region_at, ConvertTo, Operate, Chain, Apply, ApplyPointer, Follow, Decide, Store, Pass, MakePlain, MakeFields}
use Rattle.cyc_meaning.specs.State.{MakeArray, FillElement, Initialise, Choose, Test, Return, Entry, Needs, Discard, Rest, Evaluating, Given, GivenPlace, Proceeding, Calling, Returning, Throwing}
use Rattle.cyc_meaning.specs.State.{Running, FollowMember, StoreCell, FreeObject, ThrowWith, CountElements, Index, Advance, InRegion, PlaceBy, BesideHandle, CloseByKey, OpenBy, AliasOf, status_of}
use Rattle.cyc_meaning.specs.Step.{leads_to, wrong, stored_at, declared, passes, chosen, looped, step}
use Rattle.cyc_meaning.specs.SourceMachine.{status_in}
use Rattle.cyc_lower_proof.specs.declared.exits.Exits.{Exits}
use Rattle.cyc_lower_proof.specs.inside.Slots.{slot_of, Types}
use Rattle.cyc_lower_proof.proofs.slots.Slots.{slot-room, room-inside}
use Rattle.cyc_lower_proof.proofs.slots.Widths.{kind_positive, same_kind, HasRoom, Outside, made_kind, kind_in}
use Rattle.cyc_lower_proof.proofs.relation.contents.Moves.{moved_slots, moves, moved_elsewhere, moved_is}
use Rattle.cyc_lower_proof.specs.inside.ValueCode.{next_slot, followed_operand}
use Rattle.cyc_lower_proof.specs.inside.ControlCode.{tag_operand}
use Rattle.cyc_lower_proof.specs.inside.ExpressionCode.{operand_of, value_slot, are_simple}
use Rattle.cyc_lower_proof.specs.inside.Lowering.{lower_program}
use Rattle.cyc_lower_proof.proofs.relation.code.Stands.{OperandBy, CheckAt, OperatorAt, ExpressionAt, OperationsAt, FollowedAt, MadeAt, ValueAt}
use Rattle.cyc_memory_relation.specs.inside.Tables.{Tables, with_row}
use Rattle.cyc_memory_relation.specs.inside.Words.{Points, Is}
use Rattle.cyc_memory_relation.proofs.Pointers.{pointer-word}
use Rattle.cyc_memory_relation.proofs.Values.{Grows-row, Is-grows}
use Rattle.cyc_lower_proof.proofs.relation.contents.Sharing.{shared_declared, row_declared}
use Rattle.cyc_lower_proof.proofs.relation.contents.HeldValues.{IsIn, with_kind, Holds, kept, callers, row_of, IsLow}
use Rattle.cyc_lower_proof.proofs.relation.simulation.Relation.{DataIn, SharedAt, ReadyAt, as_right, in_operand, nowhere, ahead, decided, with_left, following_statement, Matches, BesideAt, PartsAt, in_parts}
use Rattle.cyc_lower_proof.proofs.relation.simulation.Stacks.{types_on, starts_on, types_at, starts_at, to_slot, to_jump, ValueStack, DroppedStack, AheadStack, HandsOnStack, code_of, bounds_at, top, floor, PlaceStack, call_slots, StatementStack}
use Rattle.cyc_lower_proof.proofs.object_steps.Handles.{kept_holds}
use Rattle.cyc_lower_proof.proofs.relation.contents.Data.{in_words, data_declared, null_is, points_in}
use Rattle.cyc_lower_proof.proofs.relation.contents.HandlerData.{handlers_beside}
use Rattle.cyc_lower_proof.proofs.relation.contents.GrowingData.{data_grows}
use Rattle.cyc_lower_proof.proofs.relation.simulation.Accesses.{IsWell, is_fitting, is_declared, home_there, is_member}
use Rattle.cyc_lower_proof.proofs.place_steps.PlaceWords.{stays, member_there}
use Rattle.cyc_lower_proof.proofs.relation.simulation.Matched.{silently, by_one}
use Rattle.cyc_lower_proof.proofs.handler_steps.Handling.{leaving, shared_leaving, record_left, raised}
use Rattle.cyc_lower_proof.proofs.pointer_steps.PointerSteps.{applies_pointers, tests_null, tests_pointers}
use Rattle.cyc_lower_proof.proofs.object_steps.UniqueBlocks.{frees_value}
use Rattle.cyc_lower_proof.proofs.region_steps.Keys.{closes_by_key}
use Rattle.cyc_lower_proof.proofs.pointer_steps.FatSteps.{counts}
use Rattle.cyc_lower_proof.proofs.pointer_steps.Elements.{follows_parts, follows_fat, indexes_pointer, advances_pointer}
use Rattle.cyc_lower_proof.proofs.object_steps.Allocations.{plain_made, fields_made}
use Rattle.cyc_lower_proof.proofs.object_steps.ArrayBlocks.{array_sized}
use Rattle.cyc_lower_proof.proofs.object_steps.Arrays.{array_filled}
use Rattle.cyc_lower_proof.proofs.value_steps.Evaluations.{known_simple, known_operand_is}
use Rattle.cyc_lower_proof.proofs.value_steps.Beginnings.{made_of}
use Rattle.cyc_lower_proof.proofs.value_steps.Landings.{IsStep, passes_related, passes_weight, lands_made}
use Rattle.cyc_lower_proof.proofs.region_steps.RegionSteps.{opened_given, aliased_given}
use Rattle.cyc_lower_proof.proofs.relation.places.Rows.{row-fits, row-variable, declared_low}
use Rattle.cyc_lower_proof.proofs.relation.places.Leads.{AreNamed}
use Rattle.cyc_lower_proof.proofs.value_steps.Decided.{decided_given, tested_given}
use Rattle.cyc_lower_proof.proofs.value_steps.ValueWords.{of_kind, int_of, goes_wrong, int_is, not_zero, not_fat, int_at, int_in}
use Rattle.cyc_lower_proof.proofs.value_steps.Conversions.{guard_fails, guard_passes, Stands, GoesAfter, converts, converts_ahead}
use Rattle.cyc_lower_proof.proofs.value_steps.Operators.{operates_value, operates, stays_beside, applies, decides_truth, awaited, chains}
use Rattle.cyc_lower_proof.proofs.value_steps.Assignments.{stores_at, stores_cell, catches_up}

module _ (source : Program) (pages calls : ℕ) where
  -- ---- arguments

  hands_on : (f : Callee) (before : List Kinded) (cs : Arguments) (v : Kinded) (o : Operand) (k : List Entry) (e : Environment) (w : World) (c : Configuration) → Stands source pages calls v o (Needs (Pass f before cs) ∷ k) e w c
      → ValueStack source c.active.function e.locals v.kind o c.active.next c.frames (Needs (Pass f before cs) ∷ k) → GoesAfter source pages calls v (Needs (Pass f before cs) ∷ k) e w c
  hands_on callees.Putchar [] NoArguments v o k e w c (shared, facts, is, holds) (none, single, write, prints) =
      silently source pages calls (Running (Given v) (Needs (Pass callees.Putchar [] NoArguments) ∷ k) e w) (Running (Calling callees.Putchar (v ∷ [])) k e w) (plain.Running c) refl
      (shared, facts, (v, o, refl, is, holds, (write, prints)))
      (omega arith)
  hands_on callees.Putchar [] (MoreArguments c' cs) v o k e w c stands (none, single, write, prints) = absurd (let f : MoreArguments c' cs ≡ NoArguments = single in cc)
  hands_on callees.Putchar (u ∷ before) cs v o k e w c stands (none, single, write, prints) = absurd (let f : u ∷ before ≡ [] = none in cc)
  hands_on callees.Getchar before cs v o k e w c (shared, facts, is, holds) (d, m, q, all, there, here, call, long, lands) =
      silently source pages calls (Running (Given v) (Needs (Pass callees.Getchar before cs) ∷ k) e w) (passes callees.Getchar (v ∷ before) cs k e w) (plain.Running c) refl
      (passes_related source pages calls callees.Getchar (v ∷ before) cs k e w c d m q all shared facts here call (omega (arith, long))
      (subst (IsIn shared.tables v c.active.slots) there is, holds) lands)
      (omega (arith, passes_weight source pages calls callees.Getchar (v ∷ before) cs k e w))
  hands_on (callees.Function n) before cs v o k e w c (shared, facts, is, holds) (d, m, q, all, there, here, call, long, lands) =
      silently source pages calls (Running (Given v) (Needs (Pass (callees.Function n) before cs) ∷ k) e w) (passes (callees.Function n) (v ∷ before) cs k e w) (plain.Running c) refl
      (passes_related source pages calls (callees.Function n) (v ∷ before) cs k e w c d m q all shared facts here call (omega (arith, long))
      (subst (IsIn shared.tables v c.active.slots) there is, holds) lands)
      (omega (arith, passes_weight source pages calls (callees.Function n) (v ∷ before) cs k e w))

  -- ---- the use of the value of a whole expression

  -- a local is declared with its initial value
  makes_local : (n : ℕ) (kind : Kind) (js : Items) (v : Kinded) (k : List Entry) (e : Environment) (w : World) → IsWell (step source (Running (Given v) (Needs (Initialise n kind js) ∷ k) e w))
      → step source (Running (Given v) (Needs (Initialise n kind js) ∷ k) e w) ≡ Running Proceeding (Rest js ∷ k) (with_local e n (length w.objects)) (made w (variable e.home kind (Some v.value)))
  makes_local n kind js v k e w well =
      let made_it = declared (region_at w e.home) Proceeding n kind (Some v.value) (Rest js ∷ k) e w in
      let does : step source (Running (Given v) (Needs (Initialise n kind js) ∷ k) e w) ≡ made_it =
      ap (λ (b : Bool). if b then made_it else wrong w) (is_fitting (is_kind v.kind kind) made_it w well) in
      does ∙ is_declared (region_at w e.home) Proceeding n kind (Some v.value) (Rest js ∷ k) e w (subst IsWell does well)

  -- A local that is declared has the representation kind (int, char, pointer, ..) of its initial value.
  local_kind : (n : ℕ) (kind : Kind) (js : Items) (v : Kinded) (k : List Entry) (e : Environment) (w : World) → IsWell (step source (Running (Given v) (Needs (Initialise n kind js) ∷ k) e w)) → v.kind ≡ kind
  local_kind n kind js v k e w well =
      same_kind v.kind kind (is_fitting (is_kind v.kind kind) (declared (region_at w e.home) Proceeding n kind (Some v.value) (Rest js ∷ k) e w) w well)

  -- A local is declared in an existing region.
  makes_home : (n : ℕ) (kind : Kind) (js : Items) (v : Kinded) (k : List Entry) (e : Environment) (w : World) → IsWell (step source (Running (Given v) (Needs (Initialise n kind js) ∷ k) e w))
      → (r : Region) × (slice_get w.regions e.home ≡ Some r)
  makes_home n kind js v k e w well =
      let made_it = declared (region_at w e.home) Proceeding n kind (Some v.value) (Rest js ∷ k) e w in
      let does : step source (Running (Given v) (Needs (Initialise n kind js) ∷ k) e w) ≡ made_it =
      ap (λ (b : Bool). if b then made_it else wrong w) (is_fitting (is_kind v.kind kind) made_it w well) in
      home_there Proceeding n kind (Some v.value) (Rest js ∷ k) e w (subst IsWell does well)

  -- After its declaration, the local holds the initial value.
  made_value : (t : Tables) (n : ℕ) (kind : Kind) (js : Items) (v : Kinded) (k : List Entry) (e : Environment) (w : World) (slots : Words) (slot : ℕ) (types : Types)
      → IsWell (step source (Running (Given v) (Needs (Initialise n kind js) ∷ k) e w)) → HasRoom types n v.kind → Is t v.kind v.value slots slot
      → (u : Kinded) → with_kind kind (Some v.value) ≡ Some u → Is t u.kind u.value slots slot × HasRoom types n u.kind
  made_value t n kind js v k e w slots slot types well room is u has =
      let made_it = declared (region_at w e.home) Proceeding n kind (Some v.value) (Rest js ∷ k) e w in
      let fits = is_fitting (is_kind v.kind kind) made_it w well in
      let u_is : v ≡ u = ap (λ i. of_kind i v.value) (same_kind v.kind kind fits) ∙ same_Some (of_kind kind v.value) u has in
      subst (λ (x : Kinded). Is t x.kind x.value slots slot × HasRoom types n x.kind) u_is (is, room)

  initialises : (n : ℕ) (kind : Kind) (js : Items) (v : Kinded) (o : Operand) (k : List Entry) (e : Environment) (w : World) (c : Configuration)
      → IsWell (step source (Running (Given v) (Needs (Initialise n kind js) ∷ k) e w)) → Stands source pages calls v o (Needs (Initialise n kind js) ∷ k) e w c
      → ValueStack source c.active.function e.locals v.kind o c.active.next c.frames (Needs (Initialise n kind js) ∷ k) → GoesAfter source pages calls v (Needs (Initialise n kind js) ∷ k) e w c
  initialises n kind js v o k e w c well (shared, facts, is, holds) (exits, q, here, room, of_type, items, stack) =
      let g = c.active.function in
      let words = words_of_kind v.kind in
      let slot = slot_of (starts_on source g k) n in
      let (r, home) = makes_home n kind js v k e w well in
      let row = row_of (call_slots source g c.active.base) (slot_of (starts_at source g) n) kind in
      let grown = with_row shared.tables row in
      let grows = Grows-row shared.tables row in
      let slots = moved_slots c.active.slots words slot o in
      let local = room-inside (types_at source g) n v.kind room in
      let elsewhere : (m : ℕ) → Outside slot words m → slots m ≡ c.active.slots m = λ m out. moved_elsewhere c.active.slots words slot o m (kind_positive v.kind) out in
      by_one source pages calls (makes_local n kind js v k e w well) shared here
      (λ choice. subst (Matches source pages calls (Running Proceeding (Rest js ∷ k) (with_local e n (length w.objects)) (made w (variable e.home kind (Some v.value))))) (sym (moves (lower_program source) choice c words slot o)) (
        shared_declared source pages calls k e w (advanced (with_slots c slots)) shared n r kind (Some v.value) row home (row-fits (call_slots source g c.active.base) (slot_of (starts_at source g) n) kind e.home (Some v.value)) (row-variable (call_slots source g c.active.base) (slot_of (starts_at source g) n) kind),
        following_statement exits (
          data_declared grown source g c.active.base w.objects e (callers k) c.active.slots slots c.globals c.frames n words (variable e.home kind (Some v.value)) local room (record { kind = kind; room = subst (HasRoom (types_at source g) n) (local_kind n kind js v k e w well) room; of_type = of_type; row = row_declared source pages calls k e w c shared row }) elsewhere
              (made_value grown n kind js v k e w slots slot (types_at source g) well room (Is-grows grows v.kind v.value slots slot (moved_is shared.tables v c.active.slots slot o is)))
              (λ is_char. declared_low grown (call_slots source g c.active.base) slot kind (length w.objects) v slots (row_declared source pages calls k e w c shared row) (local_kind n kind js v k e w well) (Is-grows grows v.kind v.value slots slot (moved_is shared.tables v c.active.slots slot o is)) is_char)
              (data_grows shared.tables grown grows source g c.active.base w.objects e.locals (callers k) c.active.slots c.globals c.frames facts.0),
          handlers_beside source g c.active.slots slots c.active.handlers c.frames k slot words (omega (arith, slot-room (types_on source g k) n local, room)) elsewhere facts.1,
        )
            (q, items, stack),
      ))

  initialises_ahead : (n : ℕ) (old : Words) (kind : Kind) (js : Items) (v : Kinded) (k : List Entry) (e : Environment) (w : World) (c : Configuration) (exits : Exits) (shared : SharedAt source pages calls k e w c)
      → IsWell (step source (Running (Given v) (Needs (Initialise n kind js) ∷ k) e w))
      → ((m : ℕ) → Outside (slot_of (starts_on source c.active.function k) n) (words_of_kind v.kind) m → old m ≡ c.active.slots m)
      → DataIn source shared.tables old (Needs (Initialise n kind js) ∷ k) e w c
      → HasRoom (types_at source c.active.function) n v.kind → kind_in (types_at source c.active.function).locals n ≡ kind → Is shared.tables v.kind v.value c.active.slots (slot_of (starts_at source c.active.function) n)
      → StatementStack source c.active.function exits c.active.next c.frames (Rest js ∷ k) → GoesAfter source pages calls v (Needs (Initialise n kind js) ∷ k) e w c
  initialises_ahead n old kind js v k e w c exits shared well same facts room of_type is stack =
      let g = c.active.function in
      let (r, home) = makes_home n kind js v k e w well in
      let row = row_of (call_slots source g c.active.base) (slot_of (starts_at source g) n) kind in
      let grown = with_row shared.tables row in
      let grows = Grows-row shared.tables row in
      let slot = slot_of (starts_on source g k) n in
      let local = room-inside (types_at source g) n v.kind room in
      silently source pages calls (Running (Given v) (Needs (Initialise n kind js) ∷ k) e w)
      (Running Proceeding (Rest js ∷ k) (with_local e n (length w.objects)) (made w (variable e.home kind (Some v.value)))) (plain.Running c)
      (makes_local n kind js v k e w well) (
        shared_declared source pages calls k e w c shared n r kind (Some v.value) row home (row-fits (call_slots source g c.active.base) (slot_of (starts_at source g) n) kind e.home (Some v.value)) (row-variable (call_slots source g c.active.base) (slot_of (starts_at source g) n) kind),
        following_statement exits (
          data_declared grown source g c.active.base w.objects e (callers k) old c.active.slots c.globals c.frames n (words_of_kind v.kind) (variable e.home kind (Some v.value)) local room (record { kind = kind; room = subst (HasRoom (types_at source g) n) (local_kind n kind js v k e w well) room; of_type = of_type; row = row_declared source pages calls k e w c shared row })
              (λ m out. sym (same m out)) (made_value grown n kind js v k e w c.active.slots slot (types_at source g) well room (Is-grows grows v.kind v.value c.active.slots slot is))
              (λ is_char. declared_low grown (call_slots source g c.active.base) slot kind (length w.objects) v c.active.slots (row_declared source pages calls k e w c shared row) (local_kind n kind js v k e w well) (Is-grows grows v.kind v.value c.active.slots slot is) is_char)
              (data_grows shared.tables grown grows source g c.active.base w.objects e.locals (callers k) old c.globals c.frames facts.0),
          handlers_beside source g old c.active.slots c.active.handlers c.frames k slot (words_of_kind v.kind) (omega (arith, slot-room (types_on source g k) n local, room)) (λ m out. sym (same m out)) facts.1,
        )
            stack,
      )
      (omega arith)

  -- ---- exceptions

  throws_with : (tag : ℕ) (i : Kind) (v : Value) (o : Operand) (k : List Entry) (e : Environment) (w : World) (c : Configuration) → IsWell (step source (Running (Given (of_kind i v)) (Needs (ThrowWith tag) ∷ k) e w))
      → Stands source pages calls (of_kind i v) o (Needs (ThrowWith tag) ∷ k) e w c → ValueStack source c.active.function e.locals i o c.active.next c.frames (Needs (ThrowWith tag) ∷ k) → GoesAfter source pages calls (of_kind i v) (Needs (ThrowWith tag) ∷ k) e w c
  throws_with tag i (Int a) o k e w c well (shared, facts, is, holds) (exits, q, word, here, stack) =
      silently source pages calls (Running (Given (of_kind i (Int a))) (Needs (ThrowWith tag) ∷ k) e w) (Running (Throwing tag a) k e w) (plain.Running c) refl
      (raised source pages calls tag a k e w c (tag_operand tag) o word shared facts here (let z : tag % 2 ^ 32 ≡ tag = omega (arith, word) in z) (int_is shared.tables i a c.active.slots o is))
      (omega arith)
  throws_with tag i v o k e w c well stands stack = absurd (well refl)

  -- ---- all entries that await a value

  -- An access through null raises an exception; an access through any other thin pointer finds the cell.
  follows_thin : (pointer : Kind) (target : Option Kind) (i : Kind) (v : Value) (o : Operand) (k : List Entry) (e : Environment) (w : World) (c : Configuration)
      → IsWell (step source (Running (Given (of_kind i v)) (Needs (Follow pointer target) ∷ k) e w)) → Stands source pages calls (of_kind i v) o k e w c
      → (q : ℕ) × (is_thin pointer ≡ true) × CheckAt (code_of source c.active.function) (bounds_at source c.active.function) (types_on source c.active.function k) null_exception o c.active.next q × PlaceStack source c.active.function e.locals o 0 q c.frames k → GoesAfter source pages calls (of_kind i v) (Needs (Follow pointer target) ∷ k) e w c
  follows_thin pointer target i Null o k e w c well (shared, facts, is, holds) (q, thin, check, place) =
      let does : step source (Running (Given (of_kind i Null)) (Needs (Follow pointer target) ∷ k) e w) ≡ Running (Throwing 1 0) k e w
      = ap (λ (b : Bool). if b then Running (Throwing 1 0) k e w else wrong w) (is_fitting (is_kind i pointer && leads_to w target (followed Null)) (Running (Throwing 1 0) k e w) w well) in
      guard_fails source pages calls null_exception comparisons.Equal o (operands.Word 0) k e w c q does shared shared
      (omega arith) facts check (ap (λ x. x == 0) (null_is shared.tables i c.active.slots o is))
  follows_thin pointer target i (Thin object offset) o k e w c well (shared, facts, is, holds) (q, thin, check, place) =
      let there = Running (GivenPlace (Thin object offset)) k e w in
      let does : step source (Running (Given (of_kind i (Thin object offset))) (Needs (Follow pointer target) ∷ k) e w) ≡ there
      = ap (λ (b : Bool). if b then there else wrong w) (is_fitting (is_kind i pointer && leads_to w target (followed (Thin object offset))) there w well) in
      guard_passes source pages calls there null_exception comparisons.Equal o (operands.Word 0) e w c q does shared check (not_zero shared.tables i object offset c.active.slots o is)
      (shared, facts, (o, 0, pointer-word (points_in shared.tables i object offset c.active.slots o is), stays (points_in shared.tables i object offset c.active.slots o is), holds, place))
  follows_thin pointer target i (Fat object start many index) o k e w c well (shared, facts, is, holds) (q, thin, check, place) =
      let reach = followed (Fat object start many index) in
      let fits = is_fitting (is_kind i pointer && leads_to w target reach) (arrives reach k e w) w well in
      let kind : i ≡ pointer = same_kind i pointer (and_left (is_kind i pointer) (leads_to w target reach) fits) in
      let (words, p, same, is_it) = in_words shared.tables (of_kind i (Fat object start many index)) c.active.slots o is in
      absurd (not_fat shared.tables i object start many index words p (ap is_thin kind ∙ thin) is_it)
  follows_thin pointer target i (Int a) o k e w c well stands stack = absurd (goes_wrong (is_kind i pointer && leads_to w target (followed (Int a))) w well)
  follows_thin pointer target i (Handle region) o k e w c well stands stack = absurd (goes_wrong (is_kind i pointer && leads_to w target (followed (Handle region))) w well)
  follows_thin pointer target i (Key region) o k e w c well stands stack = absurd (goes_wrong (is_kind i pointer && leads_to w target (followed (Key region))) w well)

  -- An access through a thin pointer or through a fat pointer is evaluated.
  follows : (pointer : Kind) (target : Option Kind) (v : Kinded) (o : Operand) (k : List Entry) (e : Environment) (w : World) (c : Configuration)
      → IsWell (step source (Running (Given v) (Needs (Follow pointer target) ∷ k) e w)) → Stands source pages calls v o k e w c
      → ValueStack source c.active.function e.locals v.kind o c.active.next c.frames (Needs (Follow pointer target) ∷ k) → GoesAfter source pages calls v (Needs (Follow pointer target) ∷ k) e w c
  follows pointer target v o k e w c well (shared, facts, is, holds) (q, low, access, place) = by (is_thin pointer) refl access place
    where
      kind : v.kind ≡ pointer
      kind = same_kind v.kind pointer (and_left (is_kind v.kind pointer) (leads_to w target (followed v.value)) (is_fitting (is_kind v.kind pointer && leads_to w target (followed v.value)) (arrives (followed v.value) k e w) w well))

      by : (thin : Bool) → is_thin pointer ≡ thin
          → FollowedAt (code_of source c.active.function) (bounds_at source c.active.function) (types_on source c.active.function k) thin (option_map bytes_of_kind target) o (top source c.active.function k) c.active.next q
          → PlaceStack source c.active.function e.locals (followed_operand thin (option_map bytes_of_kind target) o (top source c.active.function k)) 0 q c.frames k
          → GoesAfter source pages calls v (Needs (Follow pointer target) ∷ k) e w c
      by true thin check place = follows_thin pointer target v.kind v.value o k e w c well (shared, facts, is, holds) (q, thin, check, place)
      by false thin access place = follows_fat source pages calls pointer target v o q k e w c thin kind well shared facts is holds low access place

  -- An access to a field is evaluated; the address of the field is some bytes after the address of its struct.
  follows_member : (pointer : Kind) (fields : List Kind) (field : ℕ) (i : Kind) (v : Value) (o : Operand) (k : List Entry) (e : Environment) (w : World) (c : Configuration)
      → IsWell (step source (Running (Given (of_kind i v)) (Needs (FollowMember pointer fields field) ∷ k) e w)) → Stands source pages calls (of_kind i v) o k e w c
      → ValueStack source c.active.function e.locals i o c.active.next c.frames (Needs (FollowMember pointer fields field) ∷ k)
      → GoesAfter source pages calls (of_kind i v) (Needs (FollowMember pointer fields field) ∷ k) e w c
  follows_member pointer fields field i Null o k e w c well (shared, facts, is, holds) (offset, q, thin, check, inside, same, place) =
      let does : step source (Running (Given (of_kind i Null)) (Needs (FollowMember pointer fields field) ∷ k) e w) ≡ Running (Throwing 1 0) k e w
      = ap (λ (b : Bool). if b then Running (Throwing 1 0) k e w else wrong w) (is_fitting (is_kind i pointer) (Running (Throwing 1 0) k e w) w well) in
      guard_fails source pages calls null_exception comparisons.Equal o (operands.Word 0) k e w c q does shared shared
      (omega arith) facts check (ap (λ x. x == 0) (null_is shared.tables i c.active.slots o is))
  follows_member pointer fields field i (Thin object start) o k e w c well (shared, facts, is, holds) (offset, q, thin, check, inside, same, place) =
      let there = Running (GivenPlace (Thin object field)) k e w in
      let arrived = arrives (member_of w (followed (Thin object start)) fields field) k e w in
      let fits = is_fitting (is_kind i pointer) arrived w well in
      let found = is_member object start fields field k e w (subst (λ (b : Bool). IsWell (if b then arrived else wrong w)) fits well) in
      let does : step source (Running (Given (of_kind i (Thin object start))) (Needs (FollowMember pointer fields field) ∷ k) e w) ≡ there = ap (λ (b : Bool). if b then arrived else wrong w) fits ∙ found.gives in
      let points = points_in shared.tables i object start c.active.slots o is in
      let first : Points shared.tables object 0 (operand_word c.active.slots o) = subst (λ n. Points shared.tables object n (operand_word c.active.slots o)) found.first points in
      guard_passes source pages calls there null_exception comparisons.Equal o (operands.Word 0) e w c q does shared check (not_zero shared.tables i object start c.active.slots o is)
      (shared, facts, (o, offset, pointer-word points, member_there shared.related first found.of_object fields field offset found.there found.same inside same, holds, place))
  follows_member pointer fields field i (Fat object start many index) o k e w c well (shared, facts, is, holds) (offset, q, thin, check, inside, same, place) =
      let reach = arrives (member_of w (followed (Fat object start many index)) fields field) k e w in
      let kind : i ≡ pointer = same_kind i pointer (is_fitting (is_kind i pointer) reach w well) in
      let (words, p, equal, is_it) = in_words shared.tables (of_kind i (Fat object start many index)) c.active.slots o is in
      absurd (not_fat shared.tables i object start many index words p (ap is_thin kind ∙ thin) is_it)
  follows_member pointer fields field i (Int a) o k e w c well stands stack = absurd (goes_wrong (is_kind i pointer) w well)
  follows_member pointer fields field i (Handle region) o k e w c well stands stack = absurd (goes_wrong (is_kind i pointer) w well)
  follows_member pointer fields field i (Key region) o k e w c well stands stack = absurd (goes_wrong (is_kind i pointer) w well)

  -- The region handle of `rnew` is evaluated before an object is allocated in the region of this handle.
  places : (initial : Initial) (v : Kinded) (o : Operand) (k : List Entry) (e : Environment) (w : World) (c : Configuration) → IsWell (step source (Running (Given v) (Needs (PlaceBy initial) ∷ k) e w)) → Stands source pages calls v o k e w c
      → ValueStack source c.active.function e.locals v.kind o c.active.next c.frames (Needs (PlaceBy initial) ∷ k) → GoesAfter source pages calls v (Needs (PlaceBy initial) ∷ k) e w c
  places initial v o k e w c well (shared, facts, is, holds) (d, q, there, at, lands) = by v.kind v.value well (subst (IsIn shared.tables v c.active.slots) there is)
    where
      g : ℕ
      g = c.active.function

      by : (i : Kind) (u : Value) → IsWell (makes_by initial u k e w) → Is shared.tables i u c.active.slots (top source g k) → GoesAfter source pages calls (of_kind i u) (Needs (PlaceBy initial) ∷ k) e w c
      by kinds.Handle (Handle region) well is =
          made_of source pages calls (Given (of_kind kinds.Handle (Handle region))) (Needs (PlaceBy initial) ∷ k) (InRegion region) (operands.Slot (top source g k)) initial (Needs (BesideHandle region) ∷ k) e w c d q refl (omega arith)
          (refl, omega arith) shared facts (is, holds)
          (subst (λ n. MadeAt (code_of source g) (bounds_at source g) (types_on source g k) initial (operands.Slot (top source g k)) d n c.active.next q) (let e : suc (top source g k) ≡ top source g k + 1 = omega arith in e)
          (subst (λ x. MadeAt (code_of source g) (bounds_at source g) (types_on source g k) initial x d (suc (top source g k)) c.active.next q) there at))
          (lands_made source pages calls g e.locals (made_kind initial) d q c.frames k lands)
      by i (Handle region) well is = absurd is
      by i u well is = absurd (well refl)

  -- States the facts of the simulation relation that hold when a value in an operand is passed to the newest continuation frame.
  abbrev IsGiven : Kinded → Operand → List Entry → Environment → World → Configuration → Type 0
  IsGiven v o k e w c = (shared : SharedAt source pages calls k e w c) × DataIn source shared.tables c.active.slots k e w c × IsIn shared.tables v c.active.slots o
      × Holds shared.tables c.active.slots (floor source c.active.function k) (kept k)

  -- A value in an operand is passed to the newest continuation frame.
  stands_given : (v : Kinded) (o : Operand) (k : List Entry) (e : Environment) (w : World) (c : Configuration) → HasWords (lower_program source) → plain.HoldsWords (plain.Running c) → AreNamed source e.locals (callers k) w c.active.function c.active.base c.frames c.store → IsWell (step source (Running (Given v) k e w)) → IsGiven v o k e w c
      → ValueStack source c.active.function e.locals v.kind o c.active.next c.frames k → GoesAfter source pages calls v k e w c
  stands_given v o [] e w c of_words words names well stands stack = absurd stack
  stands_given v o (Needs (ConvertTo from to target) ∷ k) e w c of_words words names well stands stack = converts source pages calls from to target v o k e w c well stands stack
  stands_given v o (Needs (Operate u) ∷ k) e w c of_words words names well stands stack = operates source pages calls u v o k e w c well stands stack
  stands_given v o (Needs (Chain os) ∷ k) e w c of_words words names well stands stack = chains source pages calls os v o k e w c well stands stack
  stands_given v o (Needs (Apply u left) ∷ k) e w c of_words words names well (shared, facts, is, (is_left, holds)) applied =
      applies source pages calls u left v k e w c well shared facts (o, is, (operands.Slot (top source c.active.function k), is_left, omega arith, inl (holds, applied)))
  stands_given v o (Needs (ApplyPointer peek u left) ∷ k) e w c of_words words names well (shared, facts, is, (is_left, holds)) (to_slot (d, q, here, lands)) =
      applies_pointers source pages calls u peek left v o d q k e w c names well shared facts is is_left holds here lands
  stands_given v o (Needs (ApplyPointer peek u left) ∷ k) e w c of_words words names well (shared, facts, is, (is_left, holds)) (to_jump (failing, fails, stack)) =
      tests_pointers source pages calls peek u left v failing (operands.Slot (top source c.active.function k)) o k e w c names fails well shared facts is_left is holds stack
  stands_given v o (Needs CountElements ∷ k) e w c of_words words names well (shared, facts, is, holds) (fat, d, q, here, lands) = counts source pages calls v o d q k e w c words well shared facts is holds here lands fat
  stands_given v o (Needs Decide ∷ k) e w c of_words words names well stands stack = decides_truth source pages calls v o k e w c well stands stack
  stands_given v o (Needs (Store place) ∷ k) e w c of_words words names well stands stack = stores_at source pages calls place v o k e w c well stands stack
  stands_given v o (Needs (StoreCell peek place) ∷ k) e w c of_words words names well stands stack = stores_cell source pages calls peek place v o k e w c of_words words names well stands stack
  stands_given v o (Needs (Pass f before cs) ∷ k) e w c of_words words names well stands stack = hands_on f before cs v o k e w c stands stack
  stands_given v o (Needs (PlaceBy initial) ∷ k) e w c of_words words names well stands stack = places initial v o k e w c well stands stack
  stands_given v o (Needs (BesideHandle region) ∷ k) e w c of_words words names well (shared, facts, is, holds) stack =
      silently source pages calls (Running (Given v) (Needs (BesideHandle region) ∷ k) e w) (Running (Given v) k e w) (plain.Running c) refl
      (shared, in_operand o facts is holds stack)
      (omega arith)
  stands_given v o (Needs (MakePlain owner kind) ∷ k) e w c of_words words names well (shared, facts, is, holds) stack = plain_made source pages calls owner kind v o k e w c well shared facts is holds stack
  stands_given v o (Needs (MakeArray owner level wanted element) ∷ k) e w c of_words words names well (shared, facts, is, holds) stack = array_sized source pages calls owner level wanted element v o k e w c well shared facts is holds stack
  stands_given v o (Needs (FillElement object count index level wanted element) ∷ k) e w c of_words words names well (shared, facts, is, holds) stack = array_filled source pages calls object count index level wanted element v o k e w c words names well shared facts is holds stack
  stands_given v o (Needs (MakeFields owner before cs) ∷ k) e w c of_words words names well (shared, facts, is, holds) stack = fields_made source pages calls owner before cs v o k e w c well shared facts is holds stack
  stands_given v o (Needs (Initialise n kind js) ∷ k) e w c of_words words names well stands stack = initialises n kind js v o k e w c well stands stack
  stands_given v o (Needs (Choose s t) ∷ k) e w c of_words words names well (shared, facts, is, holds) stack =
      tested_given source pages calls v o (Needs (Choose s t) ∷ k) e w c (λ none. well (ap (λ x. status_in (status_of (chosen x s t k e w))) none)) shared facts is tt stack
  stands_given v o (Needs (Test a s) ∷ k) e w c of_words words names well (shared, facts, is, holds) stack =
      tested_given source pages calls v o (Needs (Test a s) ∷ k) e w c (λ none. well (ap (λ x. status_in (status_of (looped x a s k e w))) none)) shared facts is tt stack
  stands_given v o (Needs Return ∷ k) e w c of_words words names well (shared, facts, is, holds) (exits, q, s, r, there, (u, closing, marks), here, single, stack) =
      leaving source pages calls false (Given v) (Returning (Some v)) (Needs Return ∷ k) k e w c exits.in_function u r refl shared (omega arith) (record_left source c.active.function exits q c.frames k stack).1 closing marks facts.1
      (λ handlers stand marks_there marked. (shared_leaving source pages calls false k e w c shared, (facts.0, stand), r, marks_there, marked, (exits, q, s, here, subst (IsIn shared.tables v c.active.slots) there is, single, stack)))
  stands_given v o (Needs (ThrowWith tag) ∷ k) e w c of_words words names well stands stack = throws_with tag v.kind v.value o k e w c well stands stack
  stands_given v o (Needs FreeObject ∷ k) e w c of_words words names well (shared, facts, is, holds) stack = frees_value source pages calls v.kind v.value o k e w c well shared facts is stack
  stands_given v o (Needs CloseByKey ∷ k) e w c of_words words names well (shared, facts, is, holds) stack = closes_by_key source pages calls v.kind v.value o k e w c well shared facts is stack
  stands_given v o (Needs (Follow pointer target) ∷ k) e w c of_words words names well stands stack = follows pointer target v o k e w c well stands stack
  stands_given v o (Needs (Index peek target i) ∷ k) e w c of_words words names well (shared, facts, is, holds) stack = indexes_pointer source pages calls peek target i v o k e w c well shared facts is holds stack
  stands_given v o (Needs (Advance peek target base) ∷ k) e w c of_words words names well (shared, facts, is, (is_base, holds)) (q, sum, reached, place) =
      advances_pointer source pages calls peek target base v.kind v.value k e w c well shared facts (o, is, (top source c.active.function k, q, is_base, omega arith, holds, (sum, reached, place)))
  stands_given v o (Needs (FollowMember pointer fields field) ∷ k) e w c of_words words names well stands stack = follows_member pointer fields field v.kind v.value o k e w c well stands stack
  stands_given v o (Needs (OpenBy number lent js) ∷ k) e w c of_words words names well (shared, facts, is, holds) stack = opened_given source pages calls v.kind v.value o number lent js k e w c well shared facts is stack
  stands_given v o (Needs (AliasOf number lent js) ∷ k) e w c of_words words names well (shared, facts, is, holds) stack = aliased_given source pages calls v o number lent js k e w c shared facts is stack
  stands_given v o (Discard ∷ k) e w c of_words words names well (shared, facts, is, holds) (exits, stack) =
      silently source pages calls (Running (Given v) (Discard ∷ k) e w) (Running Proceeding k e w) (plain.Running c) refl
      (shared, following_statement exits facts stack)
      (omega arith)
  stands_given v o (entry ∷ k) e w c of_words words names well stands stack = absurd (well refl)

  dropped_given : (v : Kinded) (k : List Entry) (e : Environment) (w : World) (c : Configuration) → (shared : SharedAt source pages calls k e w c) → DataIn source shared.tables c.active.slots k e w c
      → DroppedStack source c.active.function c.active.next c.frames k → GoesAfter source pages calls v k e w c
  dropped_given v (Discard ∷ k) e w c shared facts (exits, stack) =
      silently source pages calls (Running (Given v) (Discard ∷ k) e w) (Running Proceeding k e w) (plain.Running c) refl
      (shared, following_statement exits facts stack)
      (omega arith)
  dropped_given v k e w c shared facts stack = absurd stack

  ahead_given : (v : Kinded) (n : ℕ) (old : Words) (k : List Entry) (e : Environment) (w : World) (c : Configuration) → IsWell (step source (Running (Given v) k e w)) → (shared : SharedAt source pages calls k e w c)
      → ((m : ℕ) → Outside n (words_of_kind v.kind) m → old m ≡ c.active.slots m) → DataIn source shared.tables old k e w c
      → Is shared.tables v.kind v.value c.active.slots n → Holds shared.tables c.active.slots (floor source c.active.function k) (kept k)
      → AheadStack source c.active.function e.locals v.kind n c.active.next c.frames k → GoesAfter source pages calls v k e w c
  ahead_given v n old (Needs (ConvertTo from to target) ∷ k) e w c well shared same facts is holds (quiet, whole, wide, stack) =
      let (does, now, wide) = converts_ahead source pages calls shared.tables from to target v n k e w c well quiet whole is in
      silently source pages calls (Running (Given v) (Needs (ConvertTo from to target) ∷ k) e w) (Running (Given (of_kind to v.value)) k e w) (plain.Running c) does
      (shared, ahead n (old, subst (λ many. (m : ℕ) → Outside n many m → old m ≡ c.active.slots m) wide same, facts) now (kept_holds _ _ _ k holds) stack)
      (omega arith)
  ahead_given v n old (Needs (Operate unary.Widen) ∷ k) e w c well shared same facts is holds (one, stack) = by v.kind v.value well same is one
    where
      by : (i : Kind) (u : Value) → IsWell (step source (Running (Given (of_kind i u)) (Needs (Operate unary.Widen) ∷ k) e w)) → ((m : ℕ) → Outside n (words_of_kind i) m → old m ≡ c.active.slots m)
          → Is shared.tables i u c.active.slots n → words_of_kind i ≡ 1 → GoesAfter source pages calls (of_kind i u) (Needs (Operate unary.Widen) ∷ k) e w c
      by i (Int a) well same is one =
          silently source pages calls (Running (Given (of_kind i (Int a))) (Needs (Operate unary.Widen) ∷ k) e w) (Running (Given (int_of a)) k e w) (plain.Running c) refl
          (shared, ahead n (old, subst (λ many. (m : ℕ) → Outside n many m → old m ≡ c.active.slots m) one same, facts) (int_at shared.tables i a c.active.slots n is) (kept_holds _ _ _ k holds) stack)
          (omega arith)
      by i u well same is one = absurd (well refl)
  ahead_given v n old (Needs (Chain NoOperations) ∷ k) e w c well shared same facts is holds stack =
      silently source pages calls (Running (Given v) (Needs (Chain NoOperations) ∷ k) e w) (Running (Given v) k e w) (plain.Running c) refl
      (shared, ahead n (old, same, facts) is (kept_holds _ _ _ k holds) stack)
      (omega arith)
  ahead_given v n old (Needs (BesideHandle region) ∷ k) e w c well shared same facts is holds stack =
      silently source pages calls (Running (Given v) (Needs (BesideHandle region) ∷ k) e w) (Running (Given v) k e w) (plain.Running c) refl
      (shared, ahead n (old, same, facts) is holds stack)
      (omega arith)
  ahead_given v n old (Needs (Store place) ∷ k) e w c well shared same facts is holds (number, object, place_is, found, there, room, hands) =
      subst (λ p. GoesAfter source pages calls v (Needs (Store p) ∷ k) e w c) (sym place_is)
      (catches_up source pages calls object number old v k e w c shared found (subst (λ p. IsWell (stored_at p v (Given v) k e w)) place_is well)
      (subst (λ x. (m : ℕ) → Outside x (words_of_kind v.kind) m → old m ≡ c.active.slots m) (sym there) same) facts room
      (subst (Is shared.tables v.kind v.value c.active.slots) (sym there) is) holds
      (subst (λ x. HandsOnStack source c.active.function e.locals v.kind (operands.Slot x) c.active.next c.frames k) (sym there) hands))
  ahead_given v n old (Needs (Initialise number kind js) ∷ k) e w c well shared same facts is holds (exits, q, there, room, of_type, items, stack) =
      initialises_ahead number old kind js v k e w c exits shared well
      (subst (λ x. (m : ℕ) → Outside x (words_of_kind v.kind) m → old m ≡ c.active.slots m) (sym there) same) facts
      room of_type (subst (Is shared.tables v.kind v.value c.active.slots) (sym there) is) (q, items, stack)
  ahead_given v n old k e w c well shared same facts is holds stack = absurd stack

  -- An operator chain is a right operand whose evaluation has no effect, and its next operator has a right operand that needs no code.
  simple_goes_on : (u : Operator) (b : Expression) (os : Operations) (v : Kinded) (o : Operand) (q : ℕ) (k : List Entry) (e : Environment) (w : World) (c : Configuration) → IsWell (step source (Running (Given v) (Needs (Chain (ThenCompute u b os)) ∷ k) e w))
      → (shared : SharedAt source pages calls k e w c) → DataIn source shared.tables c.active.slots k e w c → IsIn shared.tables v c.active.slots o → IsLow o (top source c.active.function k)
      → are_simple (starts_on source c.active.function k) (ThenCompute u b os) ≡ true
      → OperationsAt (code_of source c.active.function) (bounds_at source c.active.function) (types_on source c.active.function k) (ThenCompute u b os) o (top source c.active.function k) (top source c.active.function k) c.active.next q
      → BesideAt source shared.tables e.locals c.active.function (operands.Slot (top source c.active.function k)) q c.active.slots c.frames k → GoesAfter source pages calls v (Needs (Chain (ThenCompute u b os)) ∷ k) e w c
  simple_goes_on u b os v o q k e w c well shared facts is low simple (r, m, s, at_b, at, ops) beside =
      let g = c.active.function in
      let t = top source g k in
      let starts = starts_on source g k in
      let some = and_left (is_some (operand_of starts b)) (are_simple starts os) simple in
      let rest = and_right (is_some (operand_of starts b)) (are_simple starts os) simple in
      let (known, end) = known_operand_is source pages calls (code_of source g) (bounds_at source g) (types_on source g k) (operand_of starts b) _ _ r c.active.next m some at_b in
      let free = top source g (Needs (Apply u v) ∷ Needs (Chain os) ∷ k) in
      let at_right : ValueAt (code_of source g) (bounds_at source g) (types_on source g k) b free r c.active.next m =
      subst (λ (x : Option Operand). OperandBy (code_of source g) (bounds_at source g) (types_on source g k) x (ExpressionAt (code_of source g) (bounds_at source g) (types_on source g k) b (value_slot starts b free) free c.active.next m) (value_slot starts b free) r c.active.next m)
      (sym known) (refl, end) in
      let there : next_slot os t t ≡ t = next_same os t in
      silently source pages calls (Running (Given v) (Needs (Chain (ThenCompute u b os)) ∷ k) e w) (Running (Evaluating b) (Needs (Apply u v) ∷ Needs (Chain os) ∷ k) e w) (plain.Running c) (awaited source pages calls (is_kind v.kind kinds.Int) (Apply u v) b os k e w well) (
        shared,
        facts,
        as_right (
          r,
          m,
          known_simple source pages calls starts b some,
          at_right,
          (
            o,
            is,
            low,
            inr (
              s,
              subst (λ n. OperatorAt (code_of source g) (bounds_at source g) (types_on source g k) u n o r m s) there at,
              (q, omega arith, rest, subst (λ n. OperationsAt (code_of source g) (bounds_at source g) (types_on source g k) os (operands.Slot n) t t s q) there ops, beside),
            ),
          ),
        ),
      )
      (omega arith)
    where
      next_same : (os : Operations) (t : ℕ) → next_slot os t t ≡ t
      next_same NoOperations t = refl
      next_same os t = refl

  left_given : (v : Kinded) (k : List Entry) (e : Environment) (w : World) (c : Configuration) → AreNamed source e.locals (callers k) w c.active.function c.active.base c.frames c.store → IsWell (step source (Running (Given v) k e w)) → (shared : SharedAt source pages calls k e w c) → DataIn source shared.tables c.active.slots k e w c
      → ReadyAt source shared.tables v e.locals c.active.function c.active.next c.active.slots c.frames k → GoesAfter source pages calls v k e w c
  left_given v (Needs (Apply u left) ∷ k) e w c names well shared facts ready = applies source pages calls u left v k e w c well shared facts ready
  left_given v (Needs (ApplyPointer peek u left) ∷ k) e w c names well shared facts (o, is, (l, failing, is_left, low, holds, inl (fails, stack))) =
      tests_null source pages calls peek u left v failing l k e w c fails well shared facts is_left holds stack
  left_given v (Needs (ApplyPointer peek u left) ∷ k) e w c names well shared facts (o, is, (l, failing, is_left, low, holds, inr (fails, stack))) =
      tests_pointers source pages calls peek u left v failing l o k e w c names fails well shared facts is_left is holds stack
  left_given v (Needs (Advance peek target base) ∷ k) e w c names well shared facts ready = advances_pointer source pages calls peek target base v.kind v.value k e w c well shared facts ready
  left_given v (Needs (Chain NoOperations) ∷ k) e w c names well shared facts (o, is, (q, low, simple, (there, end), beside)) =
      let g = c.active.function in
      silently source pages calls (Running (Given v) (Needs (Chain NoOperations) ∷ k) e w) (Running (Given v) k e w) (plain.Running c) refl (
        shared,
        with_left facts (
          operands.Slot (top source g k),
          subst (IsIn shared.tables v c.active.slots) there is,
          subst (λ p. BesideAt source shared.tables e.locals g (operands.Slot (top source g k)) p c.active.slots c.frames k) (sym end) beside,
        ),
      )
      (omega arith)
  left_given v (Needs (Chain (ThenCompute u b os)) ∷ k) e w c names well shared facts (o, is, (q, low, simple, at, beside)) = simple_goes_on u b os v o q k e w c well shared facts is low simple at beside
  left_given v (Needs (Chain os) ∷ k) e w c names well shared facts (o, is, (q, low, simple, at, beside)) = absurd (let f : false ≡ true = simple in cc)
  left_given v (Needs (Operate unary.Widen) ∷ k) e w c names well shared facts (o, is, beside) = by v.kind v.value well is
    where
      by : (i : Kind) (u : Value) → IsWell (step source (Running (Given (of_kind i u)) (Needs (Operate unary.Widen) ∷ k) e w)) → IsIn shared.tables (of_kind i u) c.active.slots o → GoesAfter source pages calls (of_kind i u) (Needs (Operate unary.Widen) ∷ k) e w c
      by i (Int a) well is =
          silently source pages calls (Running (Given (of_kind i (Int a))) (Needs (Operate unary.Widen) ∷ k) e w) (Running (Given (int_of a)) k e w) (plain.Running c) refl
          (shared, with_left facts (o, int_in shared.tables i a c.active.slots o is, beside))
          (omega arith)
      by i u well is = absurd (well refl)
  left_given v (Needs (Operate u) ∷ k) e w c names well shared facts (o, is, (at, beside)) =
      operates_value source pages calls u v.kind v.value o (top source c.active.function k) k e w c well shared is at
      (λ value x x_is. stays_beside source pages calls (of_kind (unary_kind u) value) x k e w c (c.active.next + 1) (c.active.next + 1) shared facts refl x_is beside)
  left_given v k e w c names well shared facts (o, is, beside) = absurd beside

  -- A fat pointer whose index has changed is passed to the newest continuation frame.
  parts_given : (v : Kinded) (k : List Entry) (e : Environment) (w : World) (c : Configuration) → IsWell (step source (Running (Given v) k e w)) → (shared : SharedAt source pages calls k e w c) → DataIn source shared.tables c.active.slots k e w c
      → PartsAt source shared.tables v e.locals c.active.function c.active.next c.active.slots c.frames k → GoesAfter source pages calls v k e w c
  parts_given v (Needs (Follow pointer target) ∷ k) e w c well shared facts (n, m, q, fat, is, low, holds, here, place) =
      subst (λ (j : Kind). IsWell (step source (Running (Given v) (Needs (Follow j target) ∷ k) e w)) → GoesAfter source pages calls v (Needs (Follow j target) ∷ k) e w c) (sym fat)
      (λ wells. follows_parts source pages calls v.kind target n m q k e w c v.value wells shared facts is holds low here place) well
  parts_given v k e w c well shared facts parts = absurd parts

  pub given : (v : Kinded) (k : List Entry) (e : Environment) (w : World) (c : Configuration) → HasWords (lower_program source) → plain.HoldsWords (plain.Running c) → AreNamed source e.locals (callers k) w c.active.function c.active.base c.frames c.store → IsStep source pages calls (Given v) k e w c
  given v k e w c of_words words names well (shared, in_operand o facts is holds stack) = stands_given v o k e w c of_words words names well (shared, facts, is, holds) stack
  given v k e w c of_words words names well (shared, nowhere facts stack) = dropped_given v k e w c shared facts stack
  given v k e w c of_words words names well (shared, ahead n (old, same, facts) is holds stack) = ahead_given v n old k e w c well shared same facts is holds stack
  given v k e w c of_words words names well (shared, decided fails p facts zero holds leads stack) = decided_given source pages calls v fails p k e w c shared facts zero holds leads stack
  given v k e w c of_words words names well (shared, with_left facts ready) = left_given v k e w c names well shared facts ready
  given v k e w c of_words words names well (shared, in_parts facts parts) = parts_given v k e w c well shared facts parts
