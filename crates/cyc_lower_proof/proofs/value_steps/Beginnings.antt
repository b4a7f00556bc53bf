-- This file proves the steps that begin an expression whose value is moved to a slot or to an operand, or is dropped.
use Rattle.std.proofs.Common.{◌≡◌, ℕ, ◌+◌, ◌≤◌, ◌<◌, Bool, true, false, List, [], ◌∷◌, Option, None, Some, slice_get, refl, sym, ap, subst, ◌∙◌, arith, inr, zero, suc, ◌-◌, ◌*◌, add-zero}
use Rattle.std.specs.Prelude.{if◌then◌else◌}
use Rattle.std.proofs.lemmas.Bool.{eq-eqb}
use Rattle.std.proofs.lemmas.Option.{same_Some}
use Rattle.cyc_types.specs.declared.typed.Callee.{Callee}
use Rattle.cyc_types.specs.declared.typed.Callee.TheVariants as callees
use Rattle.cyc_types.specs.declared.typed.Kind.{Kind}
use Rattle.cyc_types.specs.declared.typed.Kind.TheVariants as kinds
use Rattle.cyc_types.specs.declared.typed.UnaryOperator.TheVariants as unary
use Rattle.cyc_types.specs.Types.{Ty, ValueType, words_of}
use Rattle.cyc_types.specs.TypedTrees.{type_of_place, Dereference, Initial, Lvalue, Local, Global, Expression, Number, Copy, Call, Unary, Binary, Assign, Convert, Arguments}
use Rattle.cyc_types.specs.TypedTrees.{NoArguments, MoreArguments, Operations, NoOperations, ThenCompute, ThenTest, ThenPointer, Function, Program, ThenPointerPeek, peeked}
use Rattle.cyc_types.specs.TypedTrees as typed
use Rattle.cyc_plain.specs.declared.instruction.Operand.{Operand}
use Rattle.cyc_plain.specs.declared.instruction.Operand.TheVariants as operands
use Rattle.cyc_plain.specs.declared.instruction.Instruction.{Instruction}
use Rattle.cyc_plain.specs.declared.instruction.Instruction.TheVariants as instructions
use Rattle.cyc_plain.specs.inside.State as plain
use Rattle.cyc_plain.specs.inside.State.{put, Frame, Configuration}
use Rattle.cyc_plain.specs.inside.Straight.{At as CodeAt}
use Rattle.cyc_plain.specs.inside.Step.{Choice, with_slots, advanced, performed, at}
use Rattle.cyc_plain.proofs.SlotLaws.{put-same}
use Rattle.cyc_meaning.specs.Values.{Null, Thin, Handle, Operand as Kinded, kind_of, words_of_kind}
use Rattle.cyc_store.specs.declared.range.TheConstants.{HEAP, UNIQUE}
use Rattle.cyc_meaning.specs.SourceMachine.{status_in}
use Rattle.cyc_meaning.specs.State.{status_of, InRegion, World, heap_number, Environment, ConvertTo, Operate, Chain, Store, Pass, PlaceBy, MakePlain, MakeFields, MakeArray, LoadFrom}
use Rattle.cyc_meaning.specs.State.{Entry, Needs, NeedsPlace, Focus, Evaluating, Locating, Given, Running, TakeAddress, StoreTo, Owner, Unique, FreeObject, CloseByKey, CountElements}
use Rattle.cyc_lower_proof.proofs.relation.contents.Counters.{counters_hold, counters_low}
use Rattle.cyc_meaning.specs.Step.{counts, target_by, object_of, assigned, passes, step, loaded_from, addressed}
use Rattle.cyc_meaning.specs.Allocation.{makes}
use Rattle.cyc_lower_proof.specs.inside.Slots.{slot_of, global_of, Types, starts_of, global_types}
use Rattle.cyc_lower_proof.proofs.place_steps.PlaceWords.{add_is}
use Rattle.cyc_lower_proof.proofs.slots.Slots.{slot-room, slot-low, words-there, words_positive, kind-there}
use Rattle.cyc_lower_proof.proofs.slots.Widths.{keeps_whole, kind_positive, type_words, made_kind, HasRoom, Outside}
use Rattle.cyc_lower_proof.proofs.relation.contents.Moves.{put_elsewhere}
use Rattle.cyc_lower_proof.specs.inside.ValueCode.{converts_there, masks, span_of, all_passed, kinds_passed, move_of, left_with, operand_or, load_word, address_of_global, keeps_words, variable_bytes}
use Rattle.cyc_lower_proof.specs.inside.ControlCode.{counter_operand}
use Rattle.cyc_lower_proof.specs.inside.ExpressionCode.{operand_of, value_slot, source_of, source_slot, slot_with, is_simple}
use Rattle.cyc_lower_proof.specs.inside.Lowering.{lower_program}
use Rattle.cyc_lower_proof.proofs.relation.simulation.Weights.{weight, stack_weight, object_weight}
use Rattle.cyc_lower_proof.proofs.relation.code.Stands.{CopyBy, CopyAt, OperandBy, InitialBy, BroughtAt, ConversionAt, ExpressionAt, ArgumentsAt, ObjectAt, MadeAt, ValueAt, AssignmentAt, PrintedAt, StoredAt, EachAt, LastByteAt}
use Rattle.cyc_lower_proof.proofs.relation.code.Statements.{DiscardedAt}
use Rattle.cyc_memory_relation.specs.inside.Tables.{Tables}
use Rattle.cyc_memory_relation.specs.inside.Words.{Is, Points}
use Rattle.cyc_lower_proof.proofs.relation.contents.HeldValues.{counters_of, Holds, held, contents, IsHandleOf, IsLow, callers}
use Rattle.cyc_lower_proof.proofs.relation.simulation.Relation.{DataIn, SharedAt, EvaluatingAt, as_operand, into_slot, in_operand, Related, Matches}
use Rattle.cyc_lower_proof.proofs.relation.simulation.Stacks.{types_on, starts_on, types_at, starts_at, given_at, called_at, in_temporary, in_local, drops, leaves, copies, prints_only, gives_byte, CallAt, to_slot, ValueStack, DroppedStack, LandsStack, LandsMade, HandsOnStack}
use Rattle.cyc_lower_proof.proofs.relation.simulation.Stacks.{PrintsStack, code_of, bounds_at, top, floor}
use Rattle.cyc_lower_proof.proofs.object_steps.Handles.{kept_holds}
use Rattle.cyc_lower_proof.proofs.relation.contents.Data.{height-least}
use Rattle.cyc_lower_proof.proofs.relation.contents.HandlerData.{floor-least}
use Rattle.cyc_types.specs.Numbered.{Numbering}
use Rattle.cyc_meaning.specs.FrameCount.{words_of_all}
use Rattle.cyc_lower_proof.proofs.relation.simulation.Accesses.{IsWell, is_loaded}
use Rattle.cyc_lower_proof.proofs.relation.simulation.Matched.{IsMatched, silently, by_one, by_two}
use Rattle.cyc_lower_proof.proofs.value_steps.GlobalSteps.{each_put, each-outside, each_is, load_links, load_end, load_path, by_links}
use Rattle.cyc_lower_proof.proofs.relation.places.Known.{global_points, global_address, first_word}
use Rattle.cyc_plain.specs.declared.instruction.Instruction.{Instruction}
use Rattle.cyc_lower_proof.proofs.relation.places.Leads.{AreNamed}
use Rattle.cyc_lower_proof.proofs.relation.places.Rows.{local-points}
use Rattle.cyc_plain.proofs.MemoryLaws.{pinned-at, pinned-inside, below-low, below-end}
use Rattle.cyc_words.specs.Word.{add_of}
use Rattle.cyc_words.proofs.Items.{below_from_slice_get}
use Rattle.cyc_meaning.specs.Operators.{unary_kind}
use Rattle.cyc_memory_relation.proofs.Pointers.{pointer-word}
use Rattle.cyc_types.specs.declared.typed.UnaryOperator.{UnaryOperator}
use Rattle.cyc_lower_proof.proofs.value_steps.Landings.{lands_made, landed, landed_word, landed_moved, lands_at, dropped_value, IsPlain, reads, brings, brings_ahead, passes_related, passes_weight}

module _ (source : Program) (pages calls : ℕ) where
  -- ---- expressions, by the destination of the value

  -- The facts of the simulation relation that are known at each source step that begins the evaluation of an expression.
  abbrev pub At_step : Expression → List Entry → Environment → World → Configuration → Type 0
  At_step a k e w c = IsWell (step source (Running (Evaluating a) k e w)) × (shared : SharedAt source pages calls k e w c) × DataIn source shared.tables c.active.slots k e w c
      × Holds shared.tables c.active.slots (floor source c.active.function k) (held k)
      × AreNamed source e.locals (callers k) w c.active.function c.active.base c.frames c.store

  abbrev pub IsBegun : Expression → List Entry → Environment → World → Configuration → Type 0
  IsBegun a k e w c = IsMatched source pages calls (Running (Evaluating a) k e w) (plain.Running c)

  known_operand : (a : Expression) (o : Operand) (k : List Entry) (e : Environment) (w : World) (c : Configuration) (q : ℕ) → operand_of (starts_on source c.active.function k) a ≡ Some o → IsPlain source pages calls a → c.active.next ≡ q → At_step a k e w c
      → ValueStack source c.active.function e.locals (given_at source c.active.function a) o q c.frames k → IsBegun a k e w c
  known_operand a o k e w c q known simple end (well, shared, facts, holds, names) stack =
      let found = reads source pages calls shared.tables a o k e w c known simple well (counters_hold shared.tables e.counters c.active.slots (floor source c.active.function k) k shared.counters.0 holds) facts shared.related.heap in
      silently source pages calls (Running (Evaluating a) k e w) (Running (Given found.value) k e w) (plain.Running c) found.gives (
        shared,
        in_operand o facts found.is (kept_holds _ _ _ k holds)
            (subst (λ i. ValueStack source c.active.function e.locals i o c.active.next c.frames k) (sym found.same)
            (subst (λ r. ValueStack source c.active.function e.locals (given_at source c.active.function a) o r c.frames k) (sym end) stack)),
      )
      (omega (arith, found.some))

  -- If a conversion does not mask a value, then its code begins with the code of the expression.
  plain_operand : (from to : Kind) (a : Expression) (k : List Entry) (c : Configuration) (slot : ℕ) (o : Operand) (m : ℕ) → masks from to ≡ false
      → OperandBy (code_of source c.active.function) (bounds_at source c.active.function) (types_on source c.active.function k) (operand_of (starts_on source c.active.function k) a)
      (BroughtAt (code_of source c.active.function) (bounds_at source c.active.function) (types_on source c.active.function k) (Convert from to a) slot (top source c.active.function k) c.active.next m) slot o c.active.next m
      → OperandBy (code_of source c.active.function) (bounds_at source c.active.function) (types_on source c.active.function k) (operand_of (starts_on source c.active.function k) a)
      (ExpressionAt (code_of source c.active.function) (bounds_at source c.active.function) (types_on source c.active.function k) a slot (top source c.active.function k) c.active.next m) slot o c.active.next m
  plain_operand kinds.Int kinds.Char a k c slot o m whole at = absurd (let f : true ≡ false = whole in cc)
  plain_operand from to a k c slot o m whole at = at

  -- A value that will be converted is in a slot or constant without code, or is in a temporary if the conversion changes its words.
  pub sources : (t : Tables) (from to : Kind) (a : Expression) (k : List Entry) (e : Environment) (w : World) (c : Configuration) (o : Operand) (m q : ℕ)
      → OperandBy (code_of source c.active.function) (bounds_at source c.active.function) (types_on source c.active.function k) (source_of (starts_on source c.active.function k) (Convert from to a))
      (BroughtAt (code_of source c.active.function) (bounds_at source c.active.function) (types_on source c.active.function k) (Convert from to a) (source_slot (starts_on source c.active.function k) (Convert from to a) (top source c.active.function k)) (top source c.active.function k) c.active.next m)
      (source_slot (starts_on source c.active.function k) (Convert from to a) (top source c.active.function k)) o c.active.next m
      → ConversionAt (code_of source c.active.function) (bounds_at source c.active.function) (types_on source c.active.function k) from to (span_of a) o (top source c.active.function k) m q
      → Holds t c.active.slots (floor source c.active.function k) (held k) → ValueStack source c.active.function e.locals to o q c.frames k
      → EvaluatingAt source t a e.locals c.active.function c.active.next c.active.slots c.frames (Needs (ConvertTo from to (target_by a)) ∷ k)
  sources t from to a k e w c o m q at at_to holds stack = by (keeps_words from to) refl at
    where
      computed : (slot : ℕ) → Type 0
      computed slot = BroughtAt (code_of source c.active.function) (bounds_at source c.active.function) (types_on source c.active.function k) (Convert from to a) slot (top source c.active.function k) c.active.next m

      by : (same : Bool) → keeps_words from to ≡ same
          → OperandBy (code_of source c.active.function) (bounds_at source c.active.function) (types_on source c.active.function k) (if same then operand_of (starts_on source c.active.function k) a else None)
          (computed (if same then value_slot (starts_on source c.active.function k) a (top source c.active.function k) else top source c.active.function k))
          (if same then value_slot (starts_on source c.active.function k) a (top source c.active.function k) else top source c.active.function k) o c.active.next m
          → EvaluatingAt source t a e.locals c.active.function c.active.next c.active.slots c.frames (Needs (ConvertTo from to (target_by a)) ∷ k)
      by true keeps at =
          let slot = value_slot (starts_on source c.active.function k) a (top source c.active.function k) in
          let whole = keeps_whole from to keeps in
          as_operand o m (plain_operand from to a k c slot o m whole at) holds (inr (q, whole, at_to, stack))
      by false changes (is, at) =
          brings source pages calls t from to a k e.locals c.active.function c.active.next c.active.slots c.frames m q at
          (subst (λ x. ConversionAt (code_of source c.active.function) (bounds_at source c.active.function) (types_on source c.active.function k) from to (span_of a) x (top source c.active.function k) m q) is at_to) holds
          (subst (λ x. ValueStack source c.active.function e.locals to x q c.frames k) is stack)

  -- An assigned value is moved to the slots of the local before its conversion or after it.
  assigns_local : (there : Bool) (n : ℕ) (from to : Kind) (a : Expression) (k : List Entry) (e : Environment) (w : World) (c : Configuration) (object : ℕ) (o : Operand) (m : ℕ)
      → converts_there from to ≡ there → e.locals n ≡ Some object → (shared : SharedAt source pages calls k e w c) → DataIn source shared.tables c.active.slots k e w c
      → Holds shared.tables c.active.slots (floor source c.active.function k) (held k)
      → o ≡ operands.Slot (slot_of (starts_at source c.active.function) n) → HasRoom (types_at source c.active.function) n to
      → InitialBy (code_of source c.active.function) (bounds_at source c.active.function) (types_on source c.active.function k) there from to a (slot_of (starts_on source c.active.function k) n) (top source c.active.function k) c.active.next m
      → HandsOnStack source c.active.function e.locals to o m c.frames k
      → Related source pages calls (Evaluating a) (Needs (ConvertTo from to (target_by a)) ∷ Needs (Store (Thin object 0)) ∷ k) e w c
  assigns_local true n from to a k e w c object o m lands found shared facts holds there room (wide, at_a) hands =
      let g = c.active.function in
      let inside = slot-room (types_on source g k) n (facts.0.2.within n object found).0 in (
        shared,
        facts,
        brings_ahead source pages calls shared.tables from to a (Needs (Store (Thin object 0)) ∷ k) e.locals g c.active.next c.active.slots c.frames (slot_of (starts_on source g k) n) m lands wide (omega (arith, inside, room)) at_a holds
            (n, object, refl, found, refl, room, subst (λ x. HandsOnStack source g e.locals to x m c.frames k) there hands),
      )
  assigns_local false n from to a k e w c object o m lands found shared facts holds there room (x, r, s, at_a, at_to, move, end) hands =
      let place : Lvalue = Local (record { line = 0; column = 0 }) n in
      (shared, facts, sources shared.tables from to a (Needs (Store (Thin object 0)) ∷ k) e w c x r s at_a at_to holds (place, o, m, (move, end, there, room), (object, refl, found), hands))

  -- A variable is assigned, and then the value of the assignment is passed to the next continuation frame.
  assigns : (l : Lvalue) (from to : Kind) (a : Expression) (t : ValueType) (k : List Entry) (e : Environment) (w : World) (c : Configuration) (object : Option ℕ) (o : Operand) (m : ℕ)
      → object_of e l ≡ object → At_step (Assign l (Convert from to a) t) k e w c
      → AssignmentAt (code_of source c.active.function) (bounds_at source c.active.function) (types_on source c.active.function k) l (Convert from to a) o (top source c.active.function k) c.active.next m
      → HandsOnStack source c.active.function e.locals to o m c.frames k → IsBegun (Assign l (Convert from to a) t) k e w c
  assigns l from to a t k e w c None o m found (well, shared, facts, holds, names) at hands =
      absurd (well (ap (λ x. status_in (status_of (assigned x (Convert from to a) k e w))) found))
  assigns (Local p n) from to a t k e w c (Some object) o m found (well, shared, facts, holds, names) (there, room, at) hands =
      silently source pages calls (Running (Evaluating (Assign (Local p n) (Convert from to a) t)) k e w)
      (Running (Evaluating a) (Needs (ConvertTo from to (target_by a)) ∷ Needs (Store (Thin object 0)) ∷ k) e w) (plain.Running c)
      (ap (λ x. assigned x (Convert from to a) k e w) found)
      (assigns_local (converts_there from to) n from to a k e w c object o m refl found shared facts holds there room at hands)
      (omega arith)
  assigns (Global n) from to a t k e w c (Some object) o m found (well, shared, facts, holds, names) (s, (r, at_a, at_to), room, store) hands =
      silently source pages calls (Running (Evaluating (Assign (Global n) (Convert from to a) t)) k e w)
      (Running (Evaluating a) (Needs (ConvertTo from to (target_by a)) ∷ Needs (Store (Thin object 0)) ∷ k) e w) (plain.Running c)
      (ap (λ x. assigned x (Convert from to a) k e w) found)
      (shared, facts, sources shared.tables from to a (Needs (Store (Thin object 0)) ∷ k) e w c o r s at_a at_to holds (Global n, o, m, (store, refl, room), (object, refl, found), hands))
      (omega arith)

  -- Storing in a cell begins with the evaluation of the cell's address.
  cell_begins : (x : Dereference) (from to : Kind) (a : Expression) (t : ValueType) (k : List Entry) (e : Environment) (w : World) (c : Configuration) (o : Operand) (m : ℕ)
      → At_step (typed.Store x (Convert from to a) t) k e w c
      → StoredAt (code_of source c.active.function) (bounds_at source c.active.function) (types_on source c.active.function k) x (Convert from to a) (top source c.active.function k) o c.active.next m
      → HandsOnStack source c.active.function e.locals to o m c.frames k → IsBegun (typed.Store x (Convert from to a) t) k e w c
  cell_begins x from to a t k e w c o m (well, shared, facts, holds, names) (b, offset, r, s, u, at, address, at_a, store) hands =
      silently source pages calls (Running (Evaluating (typed.Store x (Convert from to a) t)) k e w) (Running (Locating x) (NeedsPlace (StoreTo (peeked x) (Convert from to a)) ∷ k) e w) (plain.Running c) refl
      (shared, facts, (b, offset, r, at, holds, (o, s, u, m, address, at_a, store, hands)))
      (omega arith)

  -- A call of `putchar` prints a byte.
  prints : (cs : Arguments) (t : ValueType) (k : List Entry) (e : Environment) (w : World) (c : Configuration) (o : Operand) (m : ℕ) → At_step (Call callees.Putchar cs t) k e w c
      → PrintedAt (code_of source c.active.function) (bounds_at source c.active.function) (types_on source c.active.function k) cs (top source c.active.function k) o c.active.next m
      → PrintsStack source c.active.function e.locals o m c.frames k → IsBegun (Call callees.Putchar cs t) k e w c
  prints NoArguments t k e w c o m known at stack = absurd at
  prints (MoreArguments (Convert from to a) NoArguments) t k e w c o m (well, shared, facts, holds, names) (s, at_a, at_to) (write, stack) =
      silently source pages calls (Running (Evaluating (Call callees.Putchar (MoreArguments (Convert from to a) NoArguments) t)) k e w)
      (Running (Evaluating a) (Needs (ConvertTo from to (target_by a)) ∷ Needs (Pass callees.Putchar [] NoArguments) ∷ k) e w) (plain.Running c) refl
      (shared, facts, sources shared.tables from to a (Needs (Pass callees.Putchar [] NoArguments) ∷ k) e w c o s m at_a at_to holds (refl, refl, write, stack))
      (omega arith)
  prints (MoreArguments c' (MoreArguments c'' cs)) t k e w c o m known at stack = absurd at

  calls_out : (f : Callee) (cs : Arguments) (t : ValueType) (k : List Entry) (e : Environment) (w : World) (c : Configuration) (d m q : ℕ) → At_step (Call f cs t) k e w c
      → ArgumentsAt (code_of source c.active.function) (bounds_at source c.active.function) (types_on source c.active.function k) cs (top source c.active.function k) c.active.next m
      → CallAt source c.active.function f (all_passed cs) (top source c.active.function k) d m q
      → LandsStack source c.active.function e.locals (called_at source c.active.function f) d q c.frames k → IsBegun (Call f cs t) k e w c
  calls_out f cs t k e w c d m q (well, shared, facts, holds, names) at call lands =
      silently source pages calls (Running (Evaluating (Call f cs t)) k e w) (passes f [] cs k e w) (plain.Running c) refl
      (passes_related source pages calls f [] cs k e w c d m q (all_passed cs) shared facts at call (omega arith) holds lands)
      (omega (arith, passes_weight source pages calls f [] cs k e w))

  -- The operand of an expression is a local, a constant, or the next temporary.
  operand_is : (code : List Instruction) (b : Numbering) (types : Types) (a : Expression) (t p q : ℕ) (o : Operand) → ValueAt code b types a t o p q → o ≡ operand_or (operand_of (starts_of types) a) (value_slot (starts_of types) a t)
  operand_is code b types a t p q o at = by (operand_of (starts_of types) a) at
    where
      by : (known : Option Operand) → OperandBy code b types known (ExpressionAt code b types a (value_slot (starts_of types) a t) t p q) (value_slot (starts_of types) a t) o p q → o ≡ operand_or known (value_slot (starts_of types) a t)
      by (Some x) (is, end) = is
      by None (is, computed) = is

  operand_low : (types : Types) (a : Expression) (t : ℕ) (o : Operand) → words_of_all types.locals ≤ t → ((l slot : ℕ) → slice_get types.counters l ≡ Some slot → slot ≤ t) → o ≡ operand_or (operand_of (starts_of types) a) (value_slot (starts_of types) a t) → IsLow o t
  operand_low types a t o few counters is = subst (λ x. IsLow x t) (sym is) (by a)
    where
      local_low : (n : ℕ) → slot_of (starts_of types) n ≤ t
      local_low n = omega (arith, few, slot-low types n)

      counter_low : (found : Option ℕ) → ((slot : ℕ) → found ≡ Some slot → slot ≤ t) → IsLow (operand_or (counter_operand found) t) t
      counter_low None below = omega arith
      counter_low (Some slot) below = below slot refl

      by : (x : Expression) → IsLow (operand_or (operand_of (starts_of types) x) (value_slot (starts_of types) x t)) t
      by (Number n) = tt
      by typed.NullPointer = tt
      by typed.HeapRegion = tt
      by (Copy (Local p n) ty) = local_low n
      by (typed.Move p n ty) = local_low n
      by (typed.Peek p n ty) = local_low n
      by (typed.Counter l) = counter_low (slice_get types.counters l) (counters l)
      by (Assign (Local p n) c ty) = local_low n
      by (Unary unary.Widen x) = by x
      by x = omega arith

  -- The operand of an expression is a constant or is in a slot up to the next temporary.
  pub low_here : (a : Expression) (k : List Entry) (c : Configuration) (o : Operand) (q : ℕ)
      → ValueAt (code_of source c.active.function) (bounds_at source c.active.function) (types_on source c.active.function k) a (top source c.active.function k) o c.active.next q → IsLow o (top source c.active.function k)
  low_here a k c o q at =
      let g = c.active.function in
      operand_low (types_on source g k) a (top source g k) o (omega (arith, height-least (floor source g k) (held k), floor-least source g k)) (counters_low (floor source g k) k)
      (operand_is (code_of source g) (bounds_at source g) (types_on source g k) a (top source g k) c.active.next q o at)

  -- The first operand of an operator chain may have no code if the evaluation of the second operand has no effect.
  pub chain_begins : (simple : Bool) (a : Expression) (os : Operations) (t : Ty) (k : List Entry) (e : Environment) (w : World) (c : Configuration) (l : Operand) (m : ℕ) → At_step (Binary a os t) k e w c
      → OperandBy (code_of source c.active.function) (bounds_at source c.active.function) (types_on source c.active.function k) (left_with simple (operand_of (starts_on source c.active.function k) a))
      (ExpressionAt (code_of source c.active.function) (bounds_at source c.active.function) (types_on source c.active.function k) a (slot_with (starts_on source c.active.function k) simple a (top source c.active.function k)) (top source c.active.function k) c.active.next m)
      (slot_with (starts_on source c.active.function k) simple a (top source c.active.function k)) l c.active.next m
      → (IsLow l (top source c.active.function k) → ValueStack source c.active.function e.locals (given_at source c.active.function a) l m c.frames (Needs (Chain os) ∷ k)) → IsBegun (Binary a os t) k e w c
  chain_begins true a os t k e w c l m (well, shared, facts, holds, names) at stack =
      silently source pages calls (Running (Evaluating (Binary a os t)) k e w) (Running (Evaluating a) (Needs (Chain os) ∷ k) e w) (plain.Running c) refl
      (shared, facts, as_operand l m at holds (stack (low_here a k c l m at)))
      (omega arith)
  chain_begins false a os t k e w c l m (well, shared, facts, holds, names) (is, at) stack =
      let g = c.active.function in
      let low : IsLow l (top source g k) = subst (λ x. IsLow x (top source g k)) (sym is) (omega arith) in
      silently source pages calls (Running (Evaluating (Binary a os t)) k e w) (Running (Evaluating a) (Needs (Chain os) ∷ k) e w) (plain.Running c) refl
      (shared, facts, into_slot (top source g k) m at holds (in_temporary (omega arith) (subst (λ x. ValueStack source g e.locals (given_at source g a) x m c.frames (Needs (Chain os) ∷ k)) is (stack low))))
      (omega arith)

  -- The value of a local is moved to slot d.
  comes_from : (a : Expression) (n : ℕ) (t : Ty) (k : List Entry) (e : Environment) (w : World) (c : Configuration) (d q : ℕ)
      → step source (Running (Evaluating a) k e w) ≡ loaded_from (kind_of t) (e.locals n) k e w → IsWell (loaded_from (kind_of t) (e.locals n) k e w)
      → (shared : SharedAt source pages calls k e w c) → DataIn source shared.tables c.active.slots k e w c → Holds shared.tables c.active.slots (floor source c.active.function k) (held k)
      → CodeAt (code_of source c.active.function) c.active.next (move_of (words_of t) d (operands.Slot (slot_of (starts_on source c.active.function k) n))) → c.active.next + 1 ≡ q
      → LandsStack source c.active.function e.locals (kind_of t) d q c.frames k → IsBegun a k e w c
  comes_from a n t k e w c d q does well shared facts holds at end lands =
      let g = c.active.function in
      let found = is_loaded (kind_of t) (e.locals n) k e w well in
      let v : Kinded = record { kind = kind_of t; value = found.value } in
      let o = operands.Slot (slot_of (starts_on source g k) n) in
      by_one source pages calls (does ∙ found.gives) shared (subst (λ x. CodeAt (code_of source g) c.active.next (move_of x d o)) (sym (type_words t)) at)
      (λ choice. landed_moved source pages calls v o d k e w c q choice shared (facts.0.2.holds n found.number v found.there found.has).0 facts holds end lands)

  -- The values of a new object are moved to slots; the object is allocated in the region of this handle. The weight of the
  -- step, a measure for source steps without plain instructions, exceeds the weight of the object's initial values.
  pub made_of : (focus : Focus) (k₀ : List Entry) (owner : Owner) (handle : Operand) (i : Initial) (k : List Entry) (e : Environment) (w : World) (c : Configuration) (d q : ℕ)
      → step source (Running focus k₀ e w) ≡ makes owner i k e w → suc (object_weight i + stack_weight k) < weight (Running focus k₀ e w)
      → IsHandleOf owner handle (top source c.active.function k) k → (shared : SharedAt source pages calls k e w c) → DataIn source shared.tables c.active.slots k e w c
      → Holds shared.tables c.active.slots (floor source c.active.function k) (held k)
      → MadeAt (code_of source c.active.function) (bounds_at source c.active.function) (types_on source c.active.function k) i handle d (top source c.active.function k) c.active.next q
      → LandsMade source c.active.function e.locals (made_kind i) d q c.frames k → IsMatched source pages calls (Running focus k₀ e w) (plain.Running c)
  made_of focus k₀ owner handle (typed.Plain kind a) k e w c d q does lighter owned shared facts holds (m, at_a, same, object) lands =
      let g = c.active.function in
      silently source pages calls (Running focus k₀ e w) (Running (Evaluating a) (Needs (MakePlain owner kind) ∷ k) e w) (plain.Running c) does (
        shared,
        facts,
        into_slot (top source g k) m at_a holds
            (in_temporary (omega arith) (handle, d, q, owned, refl, subst (λ i. ObjectAt (code_of source g) (bounds_at source g) (types_on source g k) handle (i ∷ []) (top source g k) d m q) (sym same) object, lands)),
      )
      (omega (arith, lighter))
  made_of focus k₀ owner handle (typed.Fields NoArguments) k e w c d q does lighter owned shared facts holds (p, at_cs, (m, some, few, ask, stores, move, there)) lands = absurd (omega (arith, some))
  made_of focus k₀ owner handle (typed.Fields (MoreArguments (Convert from to a) cs)) k e w c d q does lighter owned shared facts holds (p, (r, (s, at_a, at_to), at_cs), object) lands =
      silently source pages calls (Running focus k₀ e w) (Running (Evaluating a) (Needs (ConvertTo from to (target_by a)) ∷ Needs (MakeFields owner [] cs) ∷ k) e w) (plain.Running c) does (
        shared,
        facts,
        brings source pages calls shared.tables from to a (Needs (MakeFields owner [] cs) ∷ k) e.locals c.active.function c.active.next c.active.slots c.frames s r at_a at_to holds
            (handle, d, p, q, to ∷ kinds_passed cs, owned, refl, at_cs, object, refl, lands),
      )
      (omega (arith, lighter))
  made_of focus k₀ owner handle (typed.Array p level n kind a) k e w c d q does lighter owned shared facts holds (m, h, r, s, at_n, begun, level_is, at_a) lands =
      let g = c.active.function in
      silently source pages calls (Running focus k₀ e w) (Running (Evaluating n) (Needs (MakeArray owner level kind a) ∷ k) e w) (plain.Running c) does
      (shared, facts, into_slot (top source g k) m at_n holds (in_temporary (omega arith) (handle, d, h, r, s, q, owned, refl, begun, level_is, at_a, lands)))
      (omega (arith, lighter))

  -- A value is loaded from a global into slots.
  global_comes : {focus : Focus} (v : Kinded) (words first d : ℕ) (k : List Entry) (e : Environment) (w : World) (c : Configuration) (q : ℕ) → words_of_kind v.kind ≡ words
      → step source (Running focus k e w) ≡ Running (Given v) k e w → (shared : SharedAt source pages calls k e w c) → Is shared.tables v.kind v.value c.globals first
      → DataIn source shared.tables c.active.slots k e w c → Holds shared.tables c.active.slots (floor source c.active.function k) (held k)
      → EachAt (code_of source c.active.function) load_word words first d c.active.next q → LandsStack source c.active.function e.locals v.kind d q c.frames k
      → IsMatched source pages calls (Running focus k e w) (plain.Running c)
  global_comes {focus} v zero first d k e w c q wide does shared is facts holds at_c lands = absurd (omega (arith, wide, kind_positive v.kind))
  global_comes {focus} v (suc words) first d k e w c q wide does shared is facts holds at_c lands =
      let (path, end) = load_path source c (suc words) first d q at_c in
      let after = each_put c.globals c.active.slots (suc words) first d in
      by_links source pages calls focus k e w c (Running (Given v) k e w) (load_links c (suc words) first d) (omega arith) does shared path
      (subst (λ x. Matches source pages calls (Running (Given v) k e w) (plain.Running x)) (sym (load_end c words first d))
      (landed source pages calls v after d k e w (at c (c.active.next + words)) q shared (each_is shared.tables v c.globals c.active.slots (suc words) first d wide is)
      (λ m out. each-outside c.globals c.active.slots (suc words) first d m (subst (λ many. Outside d many m) wide out)) facts holds (omega (arith, end)) lands))

  -- the address of a variable is moved to a slot
  addresses : (object word d : ℕ) (a : Expression) (i : Instruction) (k : List Entry) (e : Environment) (w : World) (c : Configuration) (q : ℕ)
      → step source (Running (Evaluating a) k e w) ≡ Running (Given (record { kind = kinds.NonNull; value = Thin object 0 })) k e w → CodeAt (code_of source c.active.function) c.active.next i
      → ((choice : Choice) → performed (lower_program source) choice c i ≡ plain.Running (advanced (with_slots c (put c.active.slots d word))))
      → (shared : SharedAt source pages calls k e w c) → DataIn source shared.tables c.active.slots k e w c → Holds shared.tables c.active.slots (floor source c.active.function k) (held k)
      → Points shared.tables object 0 word → c.active.next + 1 ≡ q → LandsStack source c.active.function e.locals kinds.NonNull d q c.frames k
      → IsMatched source pages calls (Running (Evaluating a) k e w) (plain.Running c)
  addresses object word d a i k e w c q does here goes shared facts holds points end lands =
      let v : Kinded = record { kind = kinds.NonNull; value = Thin object 0 } in
      by_one source pages calls does shared here
      (λ choice. subst (Matches source pages calls (Running (Given v) k e w)) (sym (goes choice))
      (landed source pages calls v (put c.active.slots d word) d k e w c q shared (subst (Points shared.tables object 0) (sym (put-same c.active.slots d word)) points)
      (λ m out. put_elsewhere c.active.slots d word 1 m (omega arith) out) facts holds end lands))

  -- The address of a variable of type char is the address of the last byte of its word, and this address is moved to a slot.
  addresses_last : (kind : Kind) (object x d : ℕ) (a : Expression) (i : Instruction) (k : List Entry) (e : Environment) (w : World) (c : Configuration) (q : ℕ)
      → step source (Running (Evaluating a) k e w) ≡ Running (Given (record { kind = kinds.NonNull; value = Thin object 0 })) k e w → CodeAt (code_of source c.active.function) c.active.next i
      → ((choice : Choice) → performed (lower_program source) choice c i ≡ plain.Running (advanced (with_slots c (put c.active.slots d x))))
      → (shared : SharedAt source pages calls k e w c) → DataIn source shared.tables c.active.slots k e w c → Holds shared.tables c.active.slots (floor source c.active.function k) (held k)
      → Points shared.tables object 0 (x + variable_bytes kind) → LastByteAt (code_of source c.active.function) kind d (c.active.next + 1) q → LandsStack source c.active.function e.locals kinds.NonNull d q c.frames k
      → IsMatched source pages calls (Running (Evaluating a) k e w) (plain.Running c)
  addresses_last kinds.Char object x d a i k e w c q does here goes shared facts holds points (sum, end) lands =
      let v : Kinded = record { kind = kinds.NonNull; value = Thin object 0 } in
      let first = put c.active.slots d x in
      let after = put first d (add_of (first d) 3) in
      let word : after d ≡ x + 3 = put-same first d (add_of (first d) 3) ∙ ap (λ y. add_of y 3) (put-same c.active.slots d x) ∙ add_is x 3 (pointer-word points) in
      by_two source pages calls (advanced (with_slots c first)) does shared shared here goes sum (λ same. omega (arith, same))
      (λ choice. landed source pages calls v after d k e w (at c (c.active.next + 1)) q shared (subst (Points shared.tables object 0) (sym word) points)
      (λ m out. put_elsewhere first d (add_of (first d) 3) 1 m (omega arith) out ∙ put_elsewhere c.active.slots d x 1 m (omega arith) out) facts holds end lands)
  addresses_last kind object x d a i k e w c q does here goes shared facts holds points end lands =
      addresses object x d a i k e w c q does here goes shared facts holds (subst (Points shared.tables object 0) (add-zero x) points) end lands

  -- the value of a char that is used as an int is moved to the slot of the int
  widened_lands : (g : ℕ) (locals : ℕ → Option ℕ) (kind : Kind) (d q : ℕ) (frames : List Frame) (k : List Entry) → words_of_kind kind ≡ 1 → LandsStack source g locals kinds.Int d q frames k
      → LandsStack source g locals kind d q frames (Needs (Operate unary.Widen) ∷ k)
  widened_lands g locals kind d q frames k one (in_temporary least stack) = in_temporary least stack
  widened_lands g locals kind d q frames k one (in_local below stack) = in_local (omega (arith, below, one)) (one, stack)

  -- The operand of a unary operator is evaluated.
  computes : (u : UnaryOperator) (a : Expression) (k : List Entry) (e : Environment) (w : World) (c : Configuration) (o : Operand) (m : ℕ) → At_step (Unary u a) k e w c
      → ValueAt (code_of source c.active.function) (bounds_at source c.active.function) (types_on source c.active.function k) a (top source c.active.function k) o c.active.next m
      → ValueStack source c.active.function e.locals (given_at source c.active.function a) o m c.frames (Needs (Operate u) ∷ k) → IsBegun (Unary u a) k e w c
  computes u a k e w c o m (well, shared, facts, holds, names) at_a stack =
      silently source pages calls (Running (Evaluating (Unary u a)) k e w) (Running (Evaluating a) (Needs (Operate u) ∷ k) e w) (plain.Running c) refl
      (shared, facts, as_operand o m at_a holds stack)
      (omega arith)

  pub comes : (a : Expression) (k : List Entry) (e : Environment) (w : World) (c : Configuration) (d q : ℕ) → At_step a k e w c
      → ExpressionAt (code_of source c.active.function) (bounds_at source c.active.function) (types_on source c.active.function k) a d (top source c.active.function k) c.active.next q
      → LandsStack source c.active.function e.locals (given_at source c.active.function a) d q c.frames k → IsBegun a k e w c
  comes (Number n) k e w c d q (well, shared, facts, holds, names) (at, end) lands =
      by_one source pages calls refl shared at (λ choice. landed_word source pages calls n n d k e w c q refl shared facts holds end lands)
  comes typed.NullPointer k e w c d q (well, shared, facts, holds, names) (at, end) lands =
      let v : Kinded = record { kind = kinds.Nullable; value = Null } in
      by_one source pages calls refl shared at (λ choice. landed_moved source pages calls v (operands.Word 0) d k e w c q choice shared refl facts holds end lands)
  comes typed.HeapRegion k e w c d q (well, shared, facts, holds, names) (at, end) lands =
      let v : Kinded = record { kind = kinds.Handle; value = Handle heap_number } in
      by_one source pages calls refl shared at (λ choice. landed_moved source pages calls v (operands.Word HEAP) d k e w c q choice shared shared.related.heap facts holds end lands)
  comes (typed.Counter l) k e w c d q (well, shared, facts, holds, names) (slot, there, at, end) lands =
      let (index, now, is) = counters_hold shared.tables e.counters c.active.slots (floor source c.active.function k) k shared.counters.0 holds l slot there in
      by_one source pages calls (ap (λ (i : Option ℕ). counts i k e w) now) shared at
      (λ choice. landed_word source pages calls index (c.active.slots slot) d k e w c q is shared facts holds end lands)
  comes (Copy (Local p n) t) k e w c d q (well, shared, facts, holds, names) (at, end) lands = comes_from (Copy (Local p n) t) n t k e w c d q refl well shared facts holds at end lands
  comes (typed.Move p n t) k e w c d q (well, shared, facts, holds, names) (at, end) lands = comes_from (typed.Move p n t) n t k e w c d q refl well shared facts holds at end lands
  comes (typed.Peek p n t) k e w c d q (well, shared, facts, holds, names) (at, end) lands = comes_from (typed.Peek p n t) n t k e w c d q refl well shared facts holds at end lands
  comes (Copy (Global n) t) k e w c d q (well, shared, facts, holds, names) (few, at_c) lands =
      let found = is_loaded (kind_of t) (Some n) k e w well in
      let v : Kinded = record { kind = kind_of t; value = found.value } in
      let same : n ≡ found.number = same_Some n found.number found.there in
      let (is, room) = (facts.0.4 n few).1 v (ap (contents w.objects) same ∙ found.has) in
      global_comes v (words_of t) (global_of (starts_at source c.active.function) n) d k e w c q (type_words t) found.gives shared is facts holds at_c lands
  comes (Call callees.Putchar cs t) k e w c d q known (o, m, at, write, low, end) lands =
      prints cs t k e w c o m known at (write, gives_byte d low (lands_at source pages calls c.active.function e.locals kinds.Int d (m + 1 + 1) q c.frames k end lands))
  comes (Call callees.Getchar cs t) k e w c d q known (m, at, here, end) lands = calls_out callees.Getchar cs t k e w c d m q known at (here, end) lands
  comes (Call (callees.Function n) cs t) k e w c d q known (m, at, here, end) lands = calls_out (callees.Function n) cs t k e w c d m q known at (here, end) lands
  comes (typed.NumberOfElements a) k e w c d q (well, shared, facts, holds, names) (fat, r, m, at_a, at) lands =
      silently source pages calls (Running (Evaluating (typed.NumberOfElements a)) k e w) (Running (Evaluating a) (Needs CountElements ∷ k) e w) (plain.Running c) refl
      (shared, facts, as_operand r m at_a holds (fat, d, q, at, lands))
      (omega arith)
  comes (Unary unary.Widen a) k e w c d q (well, shared, facts, holds, names) (one, at_a) lands =
      silently source pages calls (Running (Evaluating (Unary unary.Widen a)) k e w) (Running (Evaluating a) (Needs (Operate unary.Widen) ∷ k) e w) (plain.Running c) refl
      (shared, facts, into_slot d q at_a holds (widened_lands c.active.function e.locals (given_at source c.active.function a) d q c.frames k one lands))
      (omega arith)
  comes (Unary unary.Negate a) k e w c d q known (r, m, at_a, at, end) lands =
      computes unary.Negate a k e w c r m known at_a (to_slot (d, at, lands_at source pages calls c.active.function e.locals (unary_kind unary.Negate) d (m + 1) q c.frames k end lands))
  comes (Unary unary.Not a) k e w c d q known (r, m, at_a, at, end) lands =
      computes unary.Not a k e w c r m known at_a (to_slot (d, at, lands_at source pages calls c.active.function e.locals (unary_kind unary.Not) d (m + 1) q c.frames k end lands))
  comes (Unary unary.Complement a) k e w c d q known (r, m, at_a, at, end) lands =
      computes unary.Complement a k e w c r m known at_a (to_slot (d, at, lands_at source pages calls c.active.function e.locals (unary_kind unary.Complement) d (m + 1) q c.frames k end lands))
  comes (Unary unary.LowByte a) k e w c d q known (r, m, at_a, at, end) lands =
      computes unary.LowByte a k e w c r m known at_a (to_slot (d, at, lands_at source pages calls c.active.function e.locals (unary_kind unary.LowByte) d (m + 1) q c.frames k end lands))
  comes (Binary a NoOperations t) k e w c d q (well, shared, facts, holds, names) (l, m, (is, at_a), (is_there, end)) lands =
      silently source pages calls (Running (Evaluating (Binary a NoOperations t)) k e w) (Running (Evaluating a) (Needs (Chain NoOperations) ∷ k) e w) (plain.Running c) refl
      (shared, facts, into_slot d m at_a holds (lands_at source pages calls c.active.function e.locals (given_at source c.active.function a) d m q c.frames k end lands))
      (omega arith)
  comes (Binary a (ThenCompute o b os) t) k e w c d q known (l, m, at_a, at) lands =
      chain_begins (is_simple (starts_on source c.active.function k) b) a (ThenCompute o b os) t k e w c l m known at_a (λ low. (low, to_slot (d, q, at, lands)))
  comes (Binary a (ThenTest o b os) t) k e w c d q known (l, m, at_a, at) lands =
      chain_begins false a (ThenTest o b os) t k e w c l m known at_a (λ low. (low, to_slot (d, q, at, lands)))
  comes (Binary a (ThenPointer o b os) t) k e w c d q known (l, m, at_a, at) lands = chain_begins false a (ThenPointer o b os) t k e w c l m known at_a (λ low. (low, to_slot (d, q, at, lands)))
  comes (Binary a (ThenPointerPeek n o b os) t) k e w c d q known (l, m, at_a, at) lands =
      chain_begins false a (ThenPointerPeek n o b os) t k e w c l m known at_a (λ low. (low, to_slot (d, q, at, lands)))
  comes (Assign (Local p n) (Convert from to a) t) k e w c d q known (o, m, at, copy) lands = assigns (Local p n) from to a t k e w c (object_of e (Local p n)) o m refl known at (copies d q copy lands)
  comes (Assign (Global n) (Convert from to a) t) k e w c d q known (o, m, at, copy) lands = assigns (Global n) from to a t k e w c (object_of e (Global n)) o m refl known at (copies d q copy lands)
  comes (typed.Load x) k e w c d q (well, shared, facts, holds, names) (o, offset, r, at, load) lands =
      let kind = kind_of (type_of_place x) in
      silently source pages calls (Running (Evaluating (typed.Load x)) k e w) (Running (Locating x) (NeedsPlace (LoadFrom kind) ∷ k) e w) (plain.Running c) refl
      (shared, facts, (o, offset, r, at, holds, (d, q, load, lands)))
      (omega arith)
  comes (typed.AddressOf (Local p n) t) k e w c d q (well, shared, facts, holds, names) (v, there, at, last) lands = local_there (e.locals n) refl
    where
      g : ℕ
      g = c.active.function

      slot : ℕ
      slot = slot_of (starts_at source g) n

      local_there : (x : Option ℕ) → e.locals n ≡ x → IsBegun (typed.AddressOf (Local p n) t) k e w c
      local_there None none = absurd (well (ap (λ (o : Option ℕ). status_in (status_of (addressed o k e w))) none))
      local_there (Some object) here =
          let r = facts.0.2.rows n object here in
          let inside = below_from_slice_get (types_at source g).locals n v there in
          let wide = words-there (types_at source g).locals n v there in
          let some = words_positive v in
          let pinned = pinned-at (code_of source g) c.active.next d slot (words_of v) slot at (omega arith) (omega (arith, some)) in
          let far = pinned-at (code_of source g) c.active.next d slot (words_of v) (slot + (words_of v - 1)) at (omega arith) (omega (arith, some)) in
          let low = below-low (lower_program source) g c.active.base c.frames names.lie in
          let end_of_slots = below-end (lower_program source) g c.active.base c.frames names.lie in
          let bound = pinned-inside (lower_program source) names.well g (slot + (words_of v - 1)) far in
          let points = local-points r pinned low (omega (arith, end_of_slots, bound, r.room, wide, some)) in
          let word = add_of c.active.base (4 * slot) in
          let word_is : word ≡ c.active.base + 4 * slot = add_is c.active.base (4 * slot) (omega (arith, end_of_slots, bound)) in
          let kind : r.kind ≡ kind_of v = sym r.of_type ∙ kind-there (types_at source g).locals n v there in
          addresses_last (kind_of v) object word d (typed.AddressOf (Local p n) t) (instructions.AddressOf d slot (words_of v)) k e w c q (ap (λ (o : Option ℕ). addressed o k e w) here) at (λ choice. refl) shared facts holds
          (subst (λ x. Points shared.tables object 0 (x + variable_bytes (kind_of v))) (sym word_is) (subst (λ (i : Kind). Points shared.tables object 0 (c.active.base + 4 * slot + variable_bytes i)) kind points)) last lands
  comes (typed.AddressOf (Global n) t) k e w c d q (well, shared, facts, holds, names) (v, there, at, end) lands =
      let row = (facts.0.4 n (below_from_slice_get (global_types source.globals) n v there)).0 in
      let first = first_word (global_types source.globals) n in
      let kind : row.kind ≡ kind_of v = sym row.of_type ∙ kind-there (global_types source.globals) n v there in
      let word = address_of_global (kind_of v) first in
      addresses n word d (typed.AddressOf (Global n) t) (instructions.Move d (operands.Word word)) k e w c q refl at (λ choice. refl) shared facts holds
      (subst (λ (i : Kind). Points shared.tables n 0 (address_of_global i first)) kind (subst (Points shared.tables n 0) (sym (global_address (global_types source.globals) n row)) (global_points (global_types source.globals) n row))) end lands
  comes (typed.AddressOfCell x t) k e w c d q (well, shared, facts, holds, names) (o, offset, r, at, address) lands =
      silently source pages calls (Running (Evaluating (typed.AddressOfCell x t)) k e w) (Running (Locating x) (NeedsPlace TakeAddress ∷ k) e w) (plain.Running c) refl
      (shared, facts, (o, offset, r, at, holds, (d, q, address, lands)))
      (omega arith)
  comes (typed.Store x (Convert from to a) t) k e w c d q known (o, m, at, copy) lands = cell_begins x from to a t k e w c o m known at (copies d q copy lands)
  comes (typed.FreeUnique a) k e w c d q (well, shared, facts, holds, names) (o, m, at_a, (jump, ask, end)) lands =
      silently source pages calls (Running (Evaluating (typed.FreeUnique a)) k e w) (Running (Evaluating a) (Needs FreeObject ∷ k) e w) (plain.Running c) refl
      (shared, facts, as_operand o m at_a holds (d, q, (jump, ask, end), lands))
      (omega arith)
  comes (typed.FreeKey a) k e w c d q (well, shared, facts, holds, names) (o, m, at_a, here, end) lands =
      silently source pages calls (Running (Evaluating (typed.FreeKey a)) k e w) (Running (Evaluating a) (Needs CloseByKey ∷ k) e w) (plain.Running c) refl
      (shared, facts, as_operand o m at_a holds (d, q, here, end, lands))
      (omega arith)
  comes (typed.New typed.OnHeap i t) k e w c d q (well, shared, facts, holds, names) at lands =
      made_of (Evaluating (typed.New typed.OnHeap i t)) k (InRegion heap_number) (operands.Word HEAP) i k e w c d q refl (omega arith) (refl, refl) shared facts holds at (lands_made source pages calls c.active.function e.locals (made_kind i) d q c.frames k lands)
  comes (typed.New typed.AsUnique i t) k e w c d q (well, shared, facts, holds, names) at lands =
      made_of (Evaluating (typed.New typed.AsUnique i t)) k (Unique true) (operands.Word UNIQUE) i k e w c d q refl (omega arith) refl shared facts holds at (lands_made source pages calls c.active.function e.locals (made_kind i) d q c.frames k lands)
  comes (typed.New (typed.ByHandle a) i t) k e w c d q (well, shared, facts, holds, names) (m, at_a, at) lands =
      silently source pages calls (Running (Evaluating (typed.New (typed.ByHandle a) i t)) k e w) (Running (Evaluating a) (Needs (PlaceBy i) ∷ k) e w) (plain.Running c) refl
      (shared, facts, into_slot (top source c.active.function k) m at_a holds (in_temporary (omega arith) (d, q, refl, at, lands)))
      (omega arith)

  -- a value that is already in its slot is not copied
  copy_none : (code : List Instruction) (words n p q : ℕ) → CopyAt code words (operands.Slot n) n p q → p ≡ q
  copy_none code words n p q copy = subst (λ (b : Bool). CopyBy code b words (operands.Slot n) n p q) (eq-eqb n n refl) copy

  in_top : (a : Expression) (k : List Entry) (e : Environment) (w : World) (c : Configuration) (o : Operand) (q : ℕ) → At_step a k e w c
      → (o ≡ operands.Slot (top source c.active.function k))
      × ExpressionAt (code_of source c.active.function) (bounds_at source c.active.function) (types_on source c.active.function k) a (top source c.active.function k) (top source c.active.function k) c.active.next q
      → ValueStack source c.active.function e.locals (given_at source c.active.function a) o q c.frames k → IsBegun a k e w c
  in_top a k e w c o q known (is, at) stack =
      comes a k e w c (top source c.active.function k) q known at (in_temporary (omega arith) (subst (λ x. ValueStack source c.active.function e.locals (given_at source c.active.function a) x q c.frames k) is stack))

  -- The code of an operand, without the other facts that the simulation relation states about the operand.
  pub only_computed : (code : List Instruction) (b : Numbering) (types : Types) (known : Option Operand) (one computed : Type 0) (slot : ℕ) (o : Operand) (p q : ℕ)
      → OperandBy code b types known (one × computed) slot o p q → OperandBy code b types known computed slot o p q
  only_computed code b types (Some x) one computed slot o p q at = at
  only_computed code b types None one computed slot o p q (is, (it, at)) = (is, at)

  pub operand : (a : Expression) (k : List Entry) (e : Environment) (w : World) (c : Configuration) (o : Operand) (q : ℕ) → At_step a k e w c
      → ValueAt (code_of source c.active.function) (bounds_at source c.active.function) (types_on source c.active.function k) a (top source c.active.function k) o c.active.next q
      → ValueStack source c.active.function e.locals (given_at source c.active.function a) o q c.frames k → IsBegun a k e w c
  operand (Number n) k e w c o q known (is, end) stack = known_operand (Number n) o k e w c q (ap Some (sym is)) tt end known stack
  operand (typed.Counter l) k e w c o q known at stack = in_counter (slice_get (counters_of (floor source c.active.function k) k) l) refl at
    where
      in_counter : (slot : Option ℕ) → slice_get (counters_of (floor source c.active.function k) k) l ≡ slot
          → OperandBy (code_of source c.active.function) (bounds_at source c.active.function) (types_on source c.active.function k) (counter_operand slot)
          (ExpressionAt (code_of source c.active.function) (bounds_at source c.active.function) (types_on source c.active.function k) (typed.Counter l) (top source c.active.function k) (top source c.active.function k) c.active.next q)
          (top source c.active.function k) o c.active.next q
          → IsBegun (typed.Counter l) k e w c
      in_counter None none at = in_top (typed.Counter l) k e w c o q known at stack
      in_counter (Some slot) there (is, end) = known_operand (typed.Counter l) o k e w c q (ap counter_operand there ∙ ap Some (sym is)) tt end known stack
  operand typed.NullPointer k e w c o q known (is, end) stack = known_operand typed.NullPointer o k e w c q (ap Some (sym is)) tt end known stack
  operand typed.HeapRegion k e w c o q known (is, end) stack = known_operand typed.HeapRegion o k e w c q (ap Some (sym is)) tt end known stack
  operand (Copy (Local p n) t) k e w c o q known (is, end) stack = known_operand (Copy (Local p n) t) o k e w c q (ap Some (sym is)) tt end known stack
  operand (typed.Move p n t) k e w c o q known (is, end) stack = known_operand (typed.Move p n t) o k e w c q (ap Some (sym is)) tt end known stack
  operand (typed.Peek p n t) k e w c o q known (is, end) stack = known_operand (typed.Peek p n t) o k e w c q (ap Some (sym is)) tt end known stack
  operand (Copy (Global n) t) k e w c o q known at stack = in_top (Copy (Global n) t) k e w c o q known at stack
  operand (Call f cs t) k e w c o q known at stack = in_top (Call f cs t) k e w c o q known at stack
  operand (typed.NumberOfElements a) k e w c o q known at stack = in_top (typed.NumberOfElements a) k e w c o q known at stack
  operand (Unary unary.Widen a) k e w c o q (well, shared, facts, holds, names) at stack =
      silently source pages calls (Running (Evaluating (Unary unary.Widen a)) k e w) (Running (Evaluating a) (Needs (Operate unary.Widen) ∷ k) e w) (plain.Running c) refl
      (shared, facts, as_operand o q (only_computed (code_of source c.active.function) (bounds_at source c.active.function) (types_on source c.active.function k) (operand_of (starts_on source c.active.function k) a) _ _ _ o c.active.next q at) holds stack)
      (omega arith)
  operand (Unary u a) k e w c o q known at stack = in_top (Unary u a) k e w c o q known at stack
  operand (Binary a os t) k e w c o q known at stack = in_top (Binary a os t) k e w c o q known at stack
  operand (Assign (Local p n) (Convert from to a) t) k e w c o q known (is, (there, m, (is_there, room, at), copy)) stack =
      let g = c.active.function in
      let slot = slot_of (starts_on source g k) n in
      let end : m ≡ q = copy_none (code_of source g) (words_of_kind to) slot m q (subst (λ x. CopyAt (code_of source g) (words_of_kind to) x slot m q) is_there copy) in
      assigns (Local p n) from to a t k e w c (object_of e (Local p n)) there m refl known (is_there, room, at)
      (leaves (subst (λ x. ValueStack source g e.locals to x m c.frames k) (is ∙ sym is_there) (subst (λ r. ValueStack source g e.locals to o r c.frames k) (sym end) stack)))
  operand (Assign (Global n) c' t) k e w c o q known at stack = in_top (Assign (Global n) c' t) k e w c o q known at stack
  operand (typed.Load x) k e w c o q known at stack = in_top (typed.Load x) k e w c o q known at stack
  operand (typed.FreeUnique a) k e w c o q known at stack = in_top (typed.FreeUnique a) k e w c o q known at stack
  operand (typed.FreeKey a) k e w c o q known at stack = in_top (typed.FreeKey a) k e w c o q known at stack
  operand (typed.New x i t) k e w c o q known at stack = in_top (typed.New x i t) k e w c o q known at stack
  operand (typed.AddressOf l t) k e w c o q known at stack = in_top (typed.AddressOf l t) k e w c o q known at stack
  operand (typed.AddressOfCell x t) k e w c o q known at stack = in_top (typed.AddressOfCell x t) k e w c o q known at stack
  operand (typed.Store x v t) k e w c o q known at stack = in_top (typed.Store x v t) k e w c o q known at stack

  widened_effect : (t : Tables) (a : Expression) (k : List Entry) (e : Environment) (w : World) (c : Configuration) (o : Operand) (q : ℕ) (known : Option Operand) → operand_of (starts_on source c.active.function k) a ≡ known
      → Holds t c.active.slots (floor source c.active.function k) (held k)
      → OperandBy (code_of source c.active.function) (bounds_at source c.active.function) (types_on source c.active.function k) known
      ((words_of_kind (given_at source c.active.function a) ≡ 1)
      × ExpressionAt (code_of source c.active.function) (bounds_at source c.active.function) (types_on source c.active.function k) a (top source c.active.function k) (top source c.active.function k) c.active.next q)
      (top source c.active.function k) o c.active.next q
      → ValueStack source c.active.function e.locals kinds.Int o q c.frames k → EvaluatingAt source t a e.locals c.active.function c.active.next c.active.slots c.frames (Needs (Operate unary.Widen) ∷ k)
  widened_effect t a k e w c o q (Some x) known holds at stack =
      let g = c.active.function in
      as_operand o q (subst (λ (y : Option Operand). OperandBy (code_of source g) (bounds_at source g) (types_on source g k) y (ExpressionAt (code_of source g) (bounds_at source g) (types_on source g k) a (value_slot (starts_on source g k) a (top source g k)) (top source g k) c.active.next q) (value_slot (starts_on source g k) a (top source g k)) o c.active.next q) (sym known) at) holds stack
  widened_effect t a k e w c o q None known holds (is, (one, at)) stack =
      into_slot (top source c.active.function k) q at holds (in_temporary (omega arith) (subst (λ (x : Operand). ValueStack source c.active.function e.locals kinds.Int x q c.frames k) is stack))

  pub for_its_effect : (a : Expression) (k : List Entry) (e : Environment) (w : World) (c : Configuration) (q : ℕ) → At_step a k e w c
      → DiscardedAt (code_of source c.active.function) (bounds_at source c.active.function) (types_on source c.active.function k) a (top source c.active.function k) c.active.next q
      → DroppedStack source c.active.function q c.frames k → IsBegun a k e w c
  for_its_effect (Call callees.Putchar cs t) k e w c q known (o, m, at, write, end) stack =
      prints cs t k e w c o m known at (write, prints_only (subst (λ r. DroppedStack source c.active.function r c.frames k) (sym end) stack))
  for_its_effect (Assign l (Convert from to a) t) k e w c q known (o, at) stack = assigns l from to a t k e w c (object_of e l) o q refl known at (drops stack)
  for_its_effect (Number n) k e w c q known (o, at) stack = operand (Number n) k e w c o q known at (dropped_value source pages calls c.active.function e.locals (given_at source c.active.function (Number n)) o q c.frames k stack)
  for_its_effect (Copy (Local p n) t) k e w c q known (o, at) stack = operand (Copy (Local p n) t) k e w c o q known at (dropped_value source pages calls c.active.function e.locals (given_at source c.active.function (Copy (Local p n) t)) o q c.frames k stack)
  for_its_effect (Copy (Global n) t) k e w c q known (o, at) stack = in_top (Copy (Global n) t) k e w c o q known at (dropped_value source pages calls c.active.function e.locals (given_at source c.active.function (Copy (Global n) t)) o q c.frames k stack)
  for_its_effect (Call callees.Getchar cs t) k e w c q known (o, at) stack = in_top (Call callees.Getchar cs t) k e w c o q known at (dropped_value source pages calls c.active.function e.locals (given_at source c.active.function (Call callees.Getchar cs t)) o q c.frames k stack)
  for_its_effect (Call (callees.Function n) cs t) k e w c q known (o, at) stack = in_top (Call (callees.Function n) cs t) k e w c o q known at (dropped_value source pages calls c.active.function e.locals (given_at source c.active.function (Call (callees.Function n) cs t)) o q c.frames k stack)
  for_its_effect (Unary unary.Widen a) k e w c q (well, shared, facts, holds, names) (o, at) stack =
      let g = c.active.function in
      silently source pages calls (Running (Evaluating (Unary unary.Widen a)) k e w) (Running (Evaluating a) (Needs (Operate unary.Widen) ∷ k) e w) (plain.Running c) refl
      (shared, facts, widened_effect shared.tables a k e w c o q (operand_of (starts_on source g k) a) refl holds at (dropped_value source pages calls g e.locals kinds.Int o q c.frames k stack))
      (omega arith)
  for_its_effect (Unary u a) k e w c q known (o, at) stack = in_top (Unary u a) k e w c o q known at (dropped_value source pages calls c.active.function e.locals (given_at source c.active.function (Unary u a)) o q c.frames k stack)
  for_its_effect (Binary a os t) k e w c q known (o, at) stack = in_top (Binary a os t) k e w c o q known at (dropped_value source pages calls c.active.function e.locals (given_at source c.active.function (Binary a os t)) o q c.frames k stack)
  for_its_effect typed.NullPointer k e w c q known (o, at) stack = operand typed.NullPointer k e w c o q known at (dropped_value source pages calls c.active.function e.locals (given_at source c.active.function typed.NullPointer) o q c.frames k stack)
  for_its_effect typed.HeapRegion k e w c q known (o, at) stack = operand typed.HeapRegion k e w c o q known at (dropped_value source pages calls c.active.function e.locals (given_at source c.active.function typed.HeapRegion) o q c.frames k stack)
  for_its_effect (typed.Counter l) k e w c q known (o, at) stack = operand (typed.Counter l) k e w c o q known at (dropped_value source pages calls c.active.function e.locals (given_at source c.active.function (typed.Counter l)) o q c.frames k stack)
  for_its_effect (typed.Move p n t) k e w c q known (o, at) stack = operand (typed.Move p n t) k e w c o q known at (dropped_value source pages calls c.active.function e.locals (given_at source c.active.function (typed.Move p n t)) o q c.frames k stack)
  for_its_effect (typed.Peek p n t) k e w c q known (o, at) stack = operand (typed.Peek p n t) k e w c o q known at (dropped_value source pages calls c.active.function e.locals (given_at source c.active.function (typed.Peek p n t)) o q c.frames k stack)
  for_its_effect (typed.Load x) k e w c q known (o, at) stack = in_top (typed.Load x) k e w c o q known at (dropped_value source pages calls c.active.function e.locals (given_at source c.active.function (typed.Load x)) o q c.frames k stack)
  for_its_effect (typed.AddressOf l t) k e w c q known (o, at) stack = in_top (typed.AddressOf l t) k e w c o q known at (dropped_value source pages calls c.active.function e.locals (given_at source c.active.function (typed.AddressOf l t)) o q c.frames k stack)
  for_its_effect (typed.AddressOfCell x t) k e w c q known (o, at) stack = in_top (typed.AddressOfCell x t) k e w c o q known at (dropped_value source pages calls c.active.function e.locals (given_at source c.active.function (typed.AddressOfCell x t)) o q c.frames k stack)
  for_its_effect (typed.NumberOfElements a) k e w c q known (o, at) stack = in_top (typed.NumberOfElements a) k e w c o q known at (dropped_value source pages calls c.active.function e.locals (given_at source c.active.function (typed.NumberOfElements a)) o q c.frames k stack)
  for_its_effect (typed.FreeUnique a) k e w c q known (o, at) stack = in_top (typed.FreeUnique a) k e w c o q known at (dropped_value source pages calls c.active.function e.locals (given_at source c.active.function (typed.FreeUnique a)) o q c.frames k stack)
  for_its_effect (typed.FreeKey a) k e w c q known (o, at) stack = in_top (typed.FreeKey a) k e w c o q known at (dropped_value source pages calls c.active.function e.locals (given_at source c.active.function (typed.FreeKey a)) o q c.frames k stack)
  for_its_effect (typed.Store x (Convert from to a) t) k e w c q known (o, at) stack = cell_begins x from to a t k e w c o q known at (drops stack)
  for_its_effect (typed.New x i t) k e w c q known (o, at) stack = in_top (typed.New x i t) k e w c o q known at (dropped_value source pages calls c.active.function e.locals (given_at source c.active.function (typed.New x i t)) o q c.frames k stack)
