-- This file proves the steps of statements and of exits from loops.
use Rattle.std.proofs.Common.{◌≡◌, ◌≢◌, ℕ, ◌<◌, Bool, true, false, List, [], ◌∷◌, length, Option, None, Some, slice_get, refl, sym, ap, subst, ◌∙◌, arith, inl, inr}
use Rattle.std.specs.Prelude.{if◌then◌else◌}
use Rattle.std.proofs.lemmas.Option.{same_Some, none-some}
use Rattle.cyc_types.specs.declared.typed.Kind.{Kind}
use Rattle.cyc_types.specs.Types.{Ty}
use Rattle.cyc_types.specs.TypedTrees.{Expression, Convert, Statement, Block, Empty, Evaluate, If, While, Break, Continue, Items, NoItems, MoreItems, Execute, Declare, Program, Swap, DeclareRegion, OpenRegion, DeclareAlias, DeclareKey}
use Rattle.cyc_types.specs.TypedTrees as typed
use Rattle.cyc_plain.specs.declared.instruction.Operand.{Operand}
use Rattle.cyc_plain.specs.declared.instruction.Operand.TheVariants as operands
use Rattle.cyc_plain.specs.declared.instruction.Instruction.{Instruction}
use Rattle.cyc_plain.specs.declared.instruction.Instruction.TheVariants as instructions
use Rattle.cyc_plain.specs.inside.State as plain
use Rattle.cyc_plain.specs.inside.State.{Words, Frame, Configuration, put}
use Rattle.cyc_plain.specs.inside.Step.{at, with_slots, advanced}
use Rattle.cyc_plain.proofs.SlotLaws.{put-same}
use Rattle.cyc_plain.specs.inside.Straight.{At}
use Rattle.cyc_meaning.specs.Values.{kind_of}
use Rattle.cyc_meaning.specs.State.{Access, Region, World, Environment, variable, made, opened, closed, with_local, region_at, ConvertTo, Initialise, Choose, Test, Return, Entry, Needs, NeedsPlace, Discard, Rest, Join}
use Rattle.cyc_meaning.specs.State.{Loop, CloseRegion, CloseLexical, EndLoan, Handler, Caller, Main, Evaluating, Executing, Proceeding, Breaking, Continuing, Returning, Running, Object}
use Rattle.cyc_meaning.specs.inside.Nesting.{IsNested}
use Rattle.cyc_meaning.specs.Regions.{closing_lexical}
use Rattle.cyc_meaning.specs.Step.{target_by, inside, region_end, step}
use Rattle.cyc_lower_proof.specs.declared.exits.Exits.{Exits}
use Rattle.cyc_lower_proof.specs.inside.Slots.{slot_of}
use Rattle.cyc_lower_proof.proofs.slots.Slots.{slot-room, room-inside}
use Rattle.cyc_lower_proof.proofs.slots.Widths.{HasRoom, Outside, HasLocal, kind_in, kind_positive, keeps_whole}
use Rattle.cyc_lower_proof.proofs.relation.contents.Moves.{put_elsewhere}
use Rattle.cyc_lower_proof.specs.inside.ValueCode.{converts_there, keeps_words, span_of}
use Rattle.cyc_lower_proof.specs.inside.ControlCode.{break_target, continue_target, inside_loop}
use Rattle.cyc_lower_proof.specs.inside.ExpressionCode.{operand_of, value_slot, source_of}
use Rattle.cyc_lower_proof.proofs.relation.code.Stands.{OverAt, BranchesAt, OperandBy, ExpressionAt, InitialAt, InitialBy, ReturnedAt, BlankAt, BroughtAt, ConversionAt}
use Rattle.cyc_lower_proof.proofs.relation.code.Statements.{ItemsAt}
use Rattle.cyc_memory_relation.specs.inside.Tables.{Tables, with_row, with_handle, Row}
use Rattle.cyc_memory_relation.proofs.Values.{Grows-row, Grows-handle}
use Rattle.cyc_lower_proof.proofs.relation.contents.Sharing.{shared_declared, row_declared, shared_opened, shared_closed}
use Rattle.cyc_lower_proof.proofs.relation.contents.HeldValues.{Holds, held, callers, row_of, IsLocalRow}
use Rattle.cyc_lower_proof.proofs.relation.simulation.Relation.{SharedAt, Related, EvaluatingAt, as_operand, for_effect, as_condition, following_statement, following_call, following_wrong, DataIn}
use Rattle.cyc_lower_proof.proofs.relation.simulation.Stacks.{opened_by, types_on, starts_on, types_at, starts_at, DataAt, ValueStack, AheadStack, StatementStack, LoopAt, Arrives, in_place, by_jump, code_of, bounds_at, top, by_jumps, floor, call_slots}
use Rattle.cyc_lower_proof.proofs.relation.contents.Data.{data_declared}
use Rattle.cyc_lower_proof.proofs.relation.contents.HandlerData.{handlers_beside}
use Rattle.cyc_lower_proof.proofs.relation.contents.GrowingData.{data_grows}
use Rattle.cyc_lower_proof.proofs.relation.simulation.Accesses.{IsWell, is_declared, is_closed, home_there}
use Rattle.cyc_lower_proof.proofs.place_steps.SwapSteps.{begins_swap}
use Rattle.cyc_lower_proof.proofs.relation.simulation.Weights.{weight}
use Rattle.cyc_lower_proof.proofs.handler_steps.Handling.{leaving, shared_leaving, record_left}
use Rattle.cyc_lower_proof.proofs.region_steps.WaysOut.{leaves_region}
use Rattle.cyc_lower_proof.proofs.relation.simulation.Matched.{IsMatched, silently, by_one, by_two}
use Rattle.cyc_lower_proof.proofs.handler_steps.ExceptionSteps.{begins, ends, throws_none, throws_some}
use Rattle.cyc_lower_proof.proofs.value_steps.Landings.{IsStep, brings, brings_ahead}
use Rattle.cyc_lower_proof.proofs.value_steps.Beginnings.{sources}
use Rattle.cyc_lower_proof.proofs.region_steps.RegionSteps.{local_there, opens_region, opens_by, aliases_local, declares_key, closes_region, ends_loan}
use Rattle.cyc_lower_proof.proofs.relation.places.Rows.{row-fits, row-variable, char_row}
use Rattle.cyc_types.specs.declared.typed.Kind.TheVariants as kinds
use Rattle.cyc_lower_proof.proofs.call_steps.Returns.{leaves_call}

module _ (source : Program) (pages calls : ℕ) where
  -- ---- statements

  -- A returned value is moved to a slot, or it is already in the slot of a local.
  returned : (tables : Tables) (from to : Kind) (a : Expression) (locals : ℕ → Option ℕ) (g p : ℕ) (slots : Words) (frames : List Frame) (k : List Entry) (s m q : ℕ)
      → ReturnedAt (code_of source g) (bounds_at source g) (types_on source g k) (source_of (starts_on source g k) (Convert from to a))
      (BroughtAt (code_of source g) (bounds_at source g) (types_on source g k) (Convert from to a) (top source g k) (top source g k) p m) (top source g k) s p m
      → ConversionAt (code_of source g) (bounds_at source g) (types_on source g k) from to (span_of a) (operands.Slot s) (top source g k) m q
      → Holds tables slots (floor source g k) (held k) → ValueStack source g locals to (operands.Slot s) q frames k
      → EvaluatingAt source tables a locals g p slots frames (Needs (ConvertTo from to (target_by a)) ∷ k)
  returned tables from to a locals g p slots frames k s m q at at_to holds stack = by (keeps_words from to) refl at
    where
      computed : Type 0
      computed = BroughtAt (code_of source g) (bounds_at source g) (types_on source g k) (Convert from to a) (top source g k) (top source g k) p m

      evaluated : Type 0
      evaluated = EvaluatingAt source tables a locals g p slots frames (Needs (ConvertTo from to (target_by a)) ∷ k)

      brought : s ≡ top source g k → computed → evaluated
      brought is at =
          brings source pages calls tables from to a k locals g p slots frames m q at
          (subst (λ x. ConversionAt (code_of source g) (bounds_at source g) (types_on source g k) from to (span_of a) (operands.Slot x) (top source g k) m q) is at_to) holds
          (subst (λ x. ValueStack source g locals to (operands.Slot x) q frames k) is stack)

      by_operand : (known : Option Operand) → operand_of (starts_on source g k) a ≡ known → keeps_words from to ≡ true
          → ReturnedAt (code_of source g) (bounds_at source g) (types_on source g k) known computed (top source g k) s p m → evaluated
      by_operand None none keeps (is, at) = brought is at
      by_operand (Some (operands.Word n)) known keeps (is, at) = brought is at
      by_operand (Some (operands.Slot n)) known keeps (is, end) =
          as_operand (operands.Slot s) m
          (subst (λ x. OperandBy (code_of source g) (bounds_at source g) (types_on source g k) x
          (ExpressionAt (code_of source g) (bounds_at source g) (types_on source g k) a (value_slot (starts_on source g k) a (top source g k)) (top source g k) p m)
          (value_slot (starts_on source g k) a (top source g k)) (operands.Slot s) p m) (sym known) (ap operands.Slot is, end)) holds (inr (q, keeps_whole from to keeps, at_to, stack))

      by : (same : Bool) → keeps_words from to ≡ same
          → ReturnedAt (code_of source g) (bounds_at source g) (types_on source g k) (if same then operand_of (starts_on source g k) a else None) computed (top source g k) s p m → evaluated
      by true keeps at = by_operand (operand_of (starts_on source g k) a) refl keeps at
      by false changes (is, at) = brought is at

  -- The code evaluates the condition of a loop before the body or after it.
  tries : (a : Expression) (s : Statement) (k : List Entry) (g : ℕ) (exits outer : Exits) (p q : ℕ) (frames : List Frame) (t : Tables) (slots : Words) (locals : ℕ → Option ℕ)
      → LoopAt source g (floor source g k) a s exits outer p q → StatementStack source g outer q frames k → EvaluatingAt source t a locals g p slots frames (Needs (Test a s) ∷ k)
  tries a s k g exits outer p q frames t slots locals (b, loop_is, function_is, entry, leave, at_s, (f, again, over), after) stack =
      as_condition f b again tt (outer, q, over, stack) (exits, outer, p, q, (b, loop_is, function_is, entry, leave, at_s, (f, again, over), after), refl, stack)

  tries_first : (a : Expression) (s : Statement) (k : List Entry) (g : ℕ) (exits outer : Exits) (p q : ℕ) (frames : List Frame) (t : Tables) (slots : Words) (locals : ℕ → Option ℕ)
      → (loop : LoopAt source g (floor source g k) a s exits outer p q)
      → BranchesAt (code_of source g) (bounds_at source g) (types_at source g) a exits.leaving loop.0 (floor source g k) (continue_target exits) → At (code_of source g) (break_target exits) (instructions.Jump q)
      → StatementStack source g outer q frames k → EvaluatingAt source t a locals g (continue_target exits) slots frames (Needs (Test a s) ∷ k)
  tries_first a s k g exits outer p q frames t slots locals loop first leave stack =
      as_condition exits.leaving loop.0 first tt (outer, q, inr leave, stack) (exits, outer, p, q, loop, refl, stack)

  comes_over : (code : List Instruction) (p q : ℕ) → OverAt code p q → Arrives source code p q
  comes_over code p q (inl here) = in_place here
  comes_over code p q (inr jump) = by_jump jump

  pub executing : (s : Statement) (k : List Entry) (e : Environment) (w : World) (c : Configuration) → IsNested k e w → IsStep source pages calls (Executing s) k e w c
  executing (Block r js) k e w c nested well (shared, facts, (exits, q, items, stack)) =
      silently source pages calls (Running (Executing (Block r js)) k e w) (Running Proceeding (Rest js ∷ region_end e w ∷ k) (inside e w) (opened w)) (plain.Running c) refl (
        shared_opened source pages calls k e w c shared,
        following_statement exits
            (data_grows shared.tables (with_handle shared.tables None) (Grows-handle shared.tables None) source c.active.function c.active.base w.objects e.locals (callers k) c.active.slots c.globals c.frames facts.0, facts.1)
            (q, items, (q, in_place refl, stack)),
      )
      (omega arith)
  executing Empty k e w c nested well (shared, facts, (exits, q, end, stack)) =
      silently source pages calls (Running (Executing Empty) k e w) (Running Proceeding k e w) (plain.Running c) refl
      (shared, following_statement exits facts (subst (λ r. StatementStack source c.active.function exits r c.frames k) (sym end) stack))
      (omega arith)
  executing (Evaluate a) k e w c nested well (shared, facts, (exits, q, here, stack)) =
      silently source pages calls (Running (Executing (Evaluate a)) k e w) (Running (Evaluating a) (Discard ∷ k) e w) (plain.Running c) refl
      (shared, facts, for_effect q here tt (exits, stack))
      (omega arith)
  executing (Swap a b) k e w c nested well related = begins_swap source pages calls a b k e w c well related
  executing (If a s t) k e w c nested well (shared, facts, (exits, q, (f, h, r, at_a, at_s, over, at_t), stack)) =
      silently source pages calls (Running (Executing (If a s t)) k e w) (Running (Evaluating a) (Needs (Choose s t) ∷ k) e w) (plain.Running c) refl
      (shared, facts, as_condition f h at_a tt (exits, q, at_t, stack) (exits, r, q, at_s, comes_over (code_of source c.active.function) r q over, stack))
      (omega arith)
  executing (While p a s) k e w c nested well (shared, facts, (exits, q, (l, b, r, inl first, leave, at_s, again, after), stack)) =
      silently source pages calls (Running (Executing (While p a s)) k e w) (Running (Evaluating a) (Needs (Test a s) ∷ k) e w) (plain.Running c) refl
      (shared, facts, tries_first a s k c.active.function (inside_loop c.active.next l exits) exits r q c.frames shared.tables c.active.slots e.locals (b, refl, refl, inl first, leave, at_s, again, after) first leave stack)
      (omega arith)
  executing (While p a s) k e w c nested well (shared, facts, (exits, q, (l, b, r, inr (enter, on), leave, at_s, again, after), stack)) =
      by_one source pages calls refl shared enter
      (λ choice. (shared, facts, tries a s k c.active.function (inside_loop c.active.next l exits) exits r q c.frames shared.tables c.active.slots e.locals (b, refl, refl, inr (enter, on), leave, at_s, again, after) stack))
  executing (typed.Return None) k e w c nested well (shared, facts, (exits, q, (s, m, (r, closing, marks), here), stack)) =
      leaving source pages calls false (Executing (typed.Return None)) (Returning None) k k e w c exits.in_function r m refl shared (omega arith) (record_left source c.active.function exits q c.frames k stack).1 closing marks facts.1
      (λ handlers stand marks_there marked. (shared_leaving source pages calls false k e w c shared, (facts.0, stand), m, marks_there, marked, (exits, q, s, here, stack)))
  executing (typed.Return (Some (Convert from to a))) k e w c nested well (shared, facts, (exits, q, (s, m, r, u, at_a, at_to, leave, here, wide, kind_is), stack)) =
      silently source pages calls (Running (Executing (typed.Return (Some (Convert from to a)))) k e w) (Running (Evaluating a) (Needs (ConvertTo from to (target_by a)) ∷ Needs Return ∷ k) e w) (plain.Running c) refl
      (shared, facts, returned shared.tables from to a e.locals c.active.function c.active.next c.active.slots c.frames (Needs Return ∷ k) s m r at_a at_to tt (exits, q, s, u, refl, leave, here, (wide, kind_is), stack))
      (omega arith)
  executing Break k e w c nested well (shared, facts, (exits, q, (m, (r, closing, marks), here), stack)) =
      leaving source pages calls true (Executing Break) Breaking k k e w c exits.in_loop r m refl shared (omega arith) (record_left source c.active.function exits q c.frames k stack).0 closing marks facts.1
      (λ handlers stand marks_there marked. (shared_leaving source pages calls true k e w c shared, (facts.0, stand), m, marks_there, marked, (exits, q, here, stack)))
  executing Continue k e w c nested well (shared, facts, (exits, q, (m, (r, closing, marks), here), stack)) =
      leaving source pages calls true (Executing Continue) Continuing k k e w c exits.in_loop r m refl shared (omega arith) (record_left source c.active.function exits q c.frames k stack).0 closing marks facts.1
      (λ handlers stand marks_there marked. (shared_leaving source pages calls true k e w c shared, (facts.0, stand), m, marks_there, marked, (exits, q, here, stack)))
  executing (typed.Throw tag None) k e w c nested well related = throws_none source pages calls tag k e w c well related
  executing (typed.Throw tag (Some a)) k e w c nested well related = throws_some source pages calls tag a k e w c well related
  executing (typed.Try s handler) k e w c nested well related = begins source pages calls s handler k e w c nested well related

  -- ---- continuing after a completed part

  declares : (n : ℕ) (t : Ty) (js : Items) (k : List Entry) (e : Environment) (w : World) (c : Configuration) (exits : Exits) (m q : ℕ)
      → IsWell (step source (Running Proceeding (Rest (MoreItems (Declare n t None) js) ∷ k) e w))
      → (shared : SharedAt source pages calls k e w c) → DataIn source shared.tables c.active.slots k e w c
      → n < length (types_at source c.active.function).locals → HasLocal (types_at source c.active.function) n (kind_of t)
      → BlankAt (code_of source c.active.function) (kind_of t) (slot_of (starts_at source c.active.function) n) c.active.next m
      → ItemsAt (code_of source c.active.function) (bounds_at source c.active.function) (types_at source c.active.function) js exits (floor source c.active.function k) m q
      → StatementStack source c.active.function exits q c.frames k
      → IsMatched source pages calls (Running Proceeding (Rest (MoreItems (Declare n t None) js) ∷ k) e w) (plain.Running c)
  declares n t js k e w c exits m q well shared facts few (room, of_type) blank items stack = by (kind_of t) refl blank
    where
      g : ℕ
      g = c.active.function

      slot : ℕ
      slot = slot_of (starts_at source g) n

      x : Object
      x = variable e.home (kind_of t) None

      row : Row
      row = row_of (call_slots source g c.active.base) slot (kind_of t)

      grown : Tables
      grown = with_row shared.tables row

      local : IsLocalRow grown (types_at source g) (call_slots source g c.active.base) n (length w.objects)
      local = record { kind = kind_of t; room = room; of_type = of_type; row = row_declared source pages calls k e w c shared row }

      more : DataAt source grown g c.active.base w.objects e.locals (callers k) c.active.slots c.globals c.frames
      more = data_grows shared.tables grown (Grows-row shared.tables row) source g c.active.base w.objects e.locals (callers k) c.active.slots c.globals c.frames facts.0

      does : step source (Running Proceeding (Rest (MoreItems (Declare n t None) js) ∷ k) e w) ≡ Running Proceeding (Rest js ∷ k) (with_local e n (length w.objects)) (made w x)
      does = is_declared (region_at w e.home) Proceeding n (kind_of t) None (Rest js ∷ k) e w well

      declared_by : (d : Configuration) → SharedAt source pages calls k e w d → SharedAt source pages calls (Rest js ∷ k) (with_local e n (length w.objects)) (made w x) d
      declared_by d there =
          let (r, home) = home_there Proceeding n (kind_of t) None (Rest js ∷ k) e w well in
          shared_declared source pages calls k e w d there n r (kind_of t) None row home (row-fits (call_slots source g c.active.base) slot (kind_of t) e.home None) (row-variable (call_slots source g c.active.base) slot (kind_of t))

      by : (kind : Kind) → kind_of t ≡ kind → BlankAt (code_of source g) kind slot c.active.next m
          → IsMatched source pages calls (Running Proceeding (Rest (MoreItems (Declare n t None) js) ∷ k) e w) (plain.Running c)
      by kinds.Char is (here, end) =
          let slots = put c.active.slots slot 0 in
          let elsewhere : (i : ℕ) → Outside slot 1 i → slots i ≡ c.active.slots i = λ i out. put_elsewhere c.active.slots slot 0 1 i (omega arith) out in
          by_one source pages calls does shared here
          (λ choice. (
            declared_by (advanced (with_slots c slots)) shared,
            following_statement exits (
              data_declared grown source g c.active.base w.objects e (callers k) c.active.slots slots c.globals c.frames n 1 x few (omega (arith, room, kind_positive (kind_of t))) local elsewhere (λ v has. absurd (none-some v has))
                  (λ is_char. subst (λ (word : ℕ). word < 256) (sym (put-same c.active.slots slot 0)) (omega arith)) more,
              handlers_beside source g c.active.slots slots c.active.handlers c.frames k slot 1 (omega (arith, slot-room (types_at source g) n few, room, kind_positive (kind_of t))) elsewhere facts.1,
            )
                (q, subst (λ p. ItemsAt (code_of source g) (bounds_at source g) (types_at source g) js exits (floor source g k) p q) (sym end) items, stack),
          ))
      by kind is end =
          silently source pages calls (Running Proceeding (Rest (MoreItems (Declare n t None) js) ∷ k) e w)
          (Running Proceeding (Rest js ∷ k) (with_local e n (length w.objects)) (made w x)) (plain.Running c) does (
            declared_by c shared,
            following_statement exits (
              data_declared grown source g c.active.base w.objects e (callers k) c.active.slots c.active.slots c.globals c.frames n 0 x few (omega arith) local (λ i out. refl) (λ v has. absurd (none-some v has))
                  (λ is_char. absurd (let f : kind ≡ kinds.Char = sym is ∙ char_row grown (call_slots source g c.active.base) slot (kind_of t) (length w.objects) (row_declared source pages calls k e w c shared row) is_char in cc)) more,
              facts.1,
            )
                (q, subst (λ p. ItemsAt (code_of source g) (bounds_at source g) (types_at source g) js exits (floor source g k) p q) (sym end) items, stack),
          )
          (omega arith)

  -- The lowered code reaches the instruction at which the next source statement begins.
  arrives : (old k : List Entry) (e e0 : Environment) (w w0 : World) (c : Configuration) (exits : Exits) (q : ℕ)
      → step source (Running Proceeding old e0 w0) ≡ Running Proceeding k e w → SharedAt source pages calls old e0 w0 c → weight (Running Proceeding k e w) < weight (Running Proceeding old e0 w0)
      → (shared : SharedAt source pages calls k e w c) → DataIn source shared.tables c.active.slots k e w c
      → Arrives source (code_of source c.active.function) c.active.next q → StatementStack source c.active.function exits q c.frames k
      → IsMatched source pages calls (Running Proceeding old e0 w0) (plain.Running c)
  arrives old k e e0 w w0 c exits q does before lighter shared facts (in_place end) stack =
      silently source pages calls (Running Proceeding old e0 w0) (Running Proceeding k e w) (plain.Running c) does
      (shared, following_statement exits facts (subst (λ r. StatementStack source c.active.function exits r c.frames k) (sym end) stack))
      lighter
  arrives old k e e0 w w0 c exits q does before lighter shared facts (by_jump jump) stack =
      by_one source pages calls does before jump (λ choice. (shared, following_statement exits facts stack))
  arrives old k e e0 w w0 c exits q does before lighter shared facts (by_jumps m less first second) stack =
      by_two source pages calls (at c m) does before before first (λ choice. refl) second (λ same. omega (arith, less, same)) (λ choice. (shared, following_statement exits facts stack))

  -- A local receives its initial value directly in its slots, or the value is converted first and then moved to these slots.
  initial_by : (there : Bool) (n : ℕ) (ty : Ty) (from to : Kind) (a : Expression) (js : Items) (k : List Entry) (e : Environment) (w : World) (c : Configuration) (exits : Exits) (m q : ℕ)
      → converts_there from to ≡ there
      → (shared : SharedAt source pages calls k e w c) → DataIn source shared.tables c.active.slots k e w c
      → HasRoom (types_at source c.active.function) n to → kind_in (types_at source c.active.function).locals n ≡ kind_of ty
      → InitialBy (code_of source c.active.function) (bounds_at source c.active.function) (types_at source c.active.function) there from to a (slot_of (starts_at source c.active.function) n) (floor source c.active.function k) c.active.next m
      → ItemsAt (code_of source c.active.function) (bounds_at source c.active.function) (types_at source c.active.function) js exits (floor source c.active.function k) m q
      → StatementStack source c.active.function exits q c.frames k
      → Related source pages calls (Evaluating a) (Needs (ConvertTo from to (target_by a)) ∷ Needs (Initialise n (kind_of ty) js) ∷ k) e w c
  initial_by true n ty from to a js k e w c exits m q lands shared facts room of_type (wide, at_a) items stack =
      let g = c.active.function in
      let inside = slot-room (types_at source g) n (room-inside (types_at source g) n to room) in
      (shared, facts, brings_ahead source pages calls shared.tables from to a (Needs (Initialise n (kind_of ty) js) ∷ k) e.locals g c.active.next c.active.slots c.frames (slot_of (starts_at source g) n) m lands wide (omega (arith, inside, room)) at_a tt (exits, q, refl, room, of_type, items, stack))
  initial_by false n ty from to a js k e w c exits m q lands shared facts room of_type (o, s, r, at_a, at_to, move, end) items stack =
      let g = c.active.function in
      let rest = subst (λ p. ItemsAt (code_of source g) (bounds_at source g) (types_at source g) js exits (floor source g k) p q) (sym end) items in
      (shared, facts, sources source pages calls shared.tables from to a (Needs (Initialise n (kind_of ty) js) ∷ k) e w c o s r at_a at_to tt (exits, q, move, room, of_type, rest, stack))

  initial : (n : ℕ) (ty : Ty) (from to : Kind) (a : Expression) (js : Items) (k : List Entry) (e : Environment) (w : World) (c : Configuration) (exits : Exits) (m q : ℕ)
      → (shared : SharedAt source pages calls k e w c) → DataIn source shared.tables c.active.slots k e w c
      → HasRoom (types_at source c.active.function) n to → kind_in (types_at source c.active.function).locals n ≡ kind_of ty
      → InitialAt (code_of source c.active.function) (bounds_at source c.active.function) (types_at source c.active.function) (Convert from to a) (slot_of (starts_at source c.active.function) n) (floor source c.active.function k) c.active.next m
      → ItemsAt (code_of source c.active.function) (bounds_at source c.active.function) (types_at source c.active.function) js exits (floor source c.active.function k) m q
      → StatementStack source c.active.function exits q c.frames k
      → IsMatched source pages calls (Running Proceeding (Rest (MoreItems (Declare n ty (Some (Convert from to a))) js) ∷ k) e w) (plain.Running c)
  initial n ty from to a js k e w c exits m q shared facts room of_type at items stack =
      silently source pages calls (Running Proceeding (Rest (MoreItems (Declare n ty (Some (Convert from to a))) js) ∷ k) e w)
      (Running (Evaluating a) (Needs (ConvertTo from to (target_by a)) ∷ Needs (Initialise n (kind_of ty) js) ∷ k) e w) (plain.Running c) refl
      (initial_by (converts_there from to) n ty from to a js k e w c exits m q refl shared facts room of_type at items stack)
      (omega arith)

  after_statement : (k : List Entry) (e : Environment) (w : World) (c : Configuration) (exits : Exits) → IsNested k e w → IsWell (step source (Running Proceeding k e w))
      → (shared : SharedAt source pages calls k e w c) → DataIn source shared.tables c.active.slots k e w c
      → StatementStack source c.active.function exits c.active.next c.frames k → IsMatched source pages calls (Running Proceeding k e w) (plain.Running c)
  after_statement (Rest NoItems ∷ k) e w c exits nested well shared facts (q, end, stack) =
      silently source pages calls (Running Proceeding (Rest NoItems ∷ k) e w) (Running Proceeding k e w) (plain.Running c) refl
      (shared, following_statement exits facts (subst (λ r. StatementStack source c.active.function exits r c.frames k) (sym end) stack))
      (omega arith)
  after_statement (Rest (MoreItems (Execute s) js) ∷ k) e w c exits nested well shared facts (q, (m, at_s, items), stack) =
      silently source pages calls (Running Proceeding (Rest (MoreItems (Execute s) js) ∷ k) e w) (Running (Executing s) (Rest js ∷ k) e w) (plain.Running c) refl
      (shared, facts, (exits, m, at_s, (q, items, stack)))
      (omega arith)
  after_statement (Rest (MoreItems (Declare n t None) js) ∷ k) e w c exits nested well shared facts (q, (m, room, (few, end), items), stack) =
      declares n t js k e w c exits m q well shared facts (local_there source pages calls c.active.function n few) room end items stack
  after_statement (Rest (MoreItems (Declare n t (Some (Convert from to a))) js) ∷ k) e w c exits nested well shared facts (q, (m, (declared, of_type), (few, room, at), items), stack) =
      initial n t from to a js k e w c exits m q shared facts room of_type at items stack
  after_statement (Rest (MoreItems (DeclareRegion r n) js) ∷ k) e w c exits nested well shared facts (q, items, stack) =
      opens_region source pages calls r n js k e w c exits q shared facts nested items stack
  after_statement (Rest (MoreItems (OpenRegion r n p key) js) ∷ k) e w c exits nested well shared facts (q, items, stack) =
      opens_by source pages calls r n key p js k e w c exits q well shared facts items stack
  after_statement (Rest (MoreItems (DeclareAlias r n t p lent) js) ∷ k) e w c exits nested well shared facts (q, items, stack) =
      aliases_local source pages calls r n lent t p js k e w c exits q well shared facts items stack
  after_statement (Rest (MoreItems (DeclareKey r n) js) ∷ k) e w c exits nested well shared facts (q, items, stack) =
      declares_key source pages calls r n js k e w c exits q shared facts items stack
  after_statement (Join ∷ k) e w c exits nested well shared facts (q, comes, stack) = arrives (Join ∷ k) k e e w w c exits q refl shared (omega arith) shared facts comes stack
  after_statement (Loop a s ∷ k) e w c exits nested well shared facts (outer, q, loop, stack) =
      silently source pages calls (Running Proceeding (Loop a s ∷ k) e w) (Running (Evaluating a) (Needs (Test a s) ∷ k) e w) (plain.Running c) refl
      (shared, facts, tries a s k c.active.function exits outer c.active.next q c.frames shared.tables c.active.slots e.locals loop stack)
      (omega arith)
  after_statement (CloseRegion region home ∷ k) e w c exits nested well shared facts (q, comes, stack) =
      let found = is_closed Proceeding region home k e w well in
      arrives (CloseRegion region home ∷ k) k (record e { home = home }) e (closed w region found.region) w c exits q found.gives shared (omega arith)
      (shared_closed source None pages calls k e w c region home found.region found.there shared) facts comes stack
  after_statement (Handler handler ∷ k) e w c exits nested well shared facts stack = ends source pages calls handler k e w c exits shared facts stack
  after_statement (Caller outer ∷ k) e w c exits nested well shared facts (s, here, outside, below) =
      leaves_call source pages calls Proceeding c.active c.frames c.globals c.store c.output c.input k e outer w s refl shared facts here below
  after_statement (CloseLexical region ∷ k) e w c exits nested well shared facts stack = closes_region source pages calls region k e w c exits shared facts nested stack
  after_statement (EndLoan lent ∷ k) e w c exits nested well shared facts stack = ends_loan source pages calls lent k e w c exits shared facts stack
  after_statement (Main ∷ k) e w c exits nested well shared facts stack = absurd (well refl)
  after_statement k e w c exits nested well shared facts stack = absurd stack

  after_call : (k : List Entry) (e : Environment) (w : World) (c : Configuration) (kind : Kind) (o : Operand) → IsWell (step source (Running Proceeding k e w))
      → (shared : SharedAt source pages calls k e w c) → DataIn source shared.tables c.active.slots k e w c
      → ValueStack source c.active.function e.locals kind o c.active.next c.frames k → IsMatched source pages calls (Running Proceeding k e w) (plain.Running c)
  after_call (Needs a ∷ k) e w c kind o well shared facts stack = absurd (well refl)
  after_call (Discard ∷ k) e w c kind o well shared facts (exits, stack) =
      silently source pages calls (Running Proceeding (Discard ∷ k) e w) (Running Proceeding k e w) (plain.Running c) refl
      (shared, following_statement exits facts stack)
      (omega arith)
  after_call k e w c kind o well shared facts stack = absurd stack

  after_wrong : (k : List Entry) (e : Environment) (w : World) (c : Configuration) (kind : Kind) (n : ℕ) → IsWell (step source (Running Proceeding k e w))
      → AheadStack source c.active.function e.locals kind n c.active.next c.frames k → IsMatched source pages calls (Running Proceeding k e w) (plain.Running c)
  after_wrong (Needs a ∷ k) e w c kind n well stack = absurd (well refl)
  after_wrong k e w c kind n well stack = absurd stack

  pub proceeding : (k : List Entry) (e : Environment) (w : World) (c : Configuration) → IsNested k e w → IsStep source pages calls Proceeding k e w c
  proceeding k e w c nested well (shared, following_statement exits facts stack) = after_statement k e w c exits nested well shared facts stack
  proceeding k e w c nested well (shared, following_call kind o facts stack) = after_call k e w c kind o well shared facts stack
  proceeding k e w c nested well (shared, following_wrong kind n counted stack) = after_wrong k e w c kind n well stack

  -- ---- breaks

  -- If a jump goes to a second jump, then control continues at the target of the second jump.
  jumps_apart : (code : List Instruction) (p q r : ℕ) → At code p (instructions.Jump q) → At code q (instructions.Jump r) → q < r → p ≢ q
  jumps_apart code p q r first second on same =
      let jumps : r ≡ q = ap (λ (i : Instruction). target_of i) (same_Some (instructions.Jump r) (instructions.Jump q) (sym second ∙ ap (slice_get code) (sym same) ∙ first)) in
      absurd (omega (arith, jumps, on))
    where
      target_of : Instruction → ℕ
      target_of (instructions.Jump t) = t
      target_of i = 0

  pub breaking : (k : List Entry) (e : Environment) (w : World) (c : Configuration) → IsNested k e w → IsStep source pages calls Breaking k e w c
  breaking [] e w c nested well related = absurd (well refl)
  breaking (Needs a ∷ k) e w c nested well (shared, facts, r, marks, marked, (exits, q, here, stack)) = absurd stack
  breaking (Discard ∷ k) e w c nested well (shared, facts, r, marks, marked, (exits, q, here, stack)) = absurd stack
  breaking (Rest js ∷ k) e w c nested well (shared, facts, r, marks, marked, (exits, q, here, (u, items, stack))) =
      silently source pages calls (Running Breaking (Rest js ∷ k) e w) (Running Breaking k e w) (plain.Running c) refl (shared, facts, r, marks, marked, (exits, u, here, stack)) (omega arith)
  breaking (Join ∷ k) e w c nested well (shared, facts, r, marks, marked, (exits, q, here, (u, arrives, stack))) =
      silently source pages calls (Running Breaking (Join ∷ k) e w) (Running Breaking k e w) (plain.Running c) refl (shared, facts, r, marks, marked, (exits, u, here, stack)) (omega arith)
  breaking (Loop a s ∷ k) e w c nested well (shared, facts, r, end, marked, (exits, q, jumps, (outer, u, (b, loop_is, function_is, entry, leave, at_s, again, after), stack))) =
      let here : At (code_of source c.active.function) c.active.next (instructions.Jump (break_target exits)) = subst (λ n. At (code_of source c.active.function) n (instructions.Jump (break_target exits))) (sym end) jumps in
      by_two source pages calls (at c (break_target exits)) refl shared shared here (λ choice. refl) leave
      (jumps_apart (code_of source c.active.function) c.active.next (break_target exits) u here leave after)
      (λ choice. (shared, following_statement outer facts stack))
  breaking (CloseRegion region home ∷ k) e w c nested well (shared, facts, r, marks, marked, (exits, q, here, (u, comes, stack))) =
      let found = is_closed Breaking region home k e w well in
      silently source pages calls (Running Breaking (CloseRegion region home ∷ k) e w) (Running Breaking k (record e { home = home }) (closed w region found.region)) (plain.Running c) found.gives
      (shared_closed source (opened_by source true c.active.function k).mark pages calls k e w c region home found.region found.there shared, facts, r, marks, marked, (exits, u, here, stack))
      (omega arith)
  breaking (Caller outer ∷ k) e w c nested well related = absurd (well refl)
  breaking (NeedsPlace a ∷ k) e w c nested well (shared, facts, r, marks, marked, (exits, q, here, stack)) = absurd stack
  breaking (CloseLexical region ∷ k) e w c nested well (shared, facts, r, marks, marked, (exits, q, here, (outer, u, is, closing, stack))) =
      leaves_region source pages calls true Breaking region k e w c (λ r found. ap (λ (a : Access Region). closing_lexical a Breaking region k e w) found) (λ v. omega arith) (λ v d leaves. leaves) nested shared facts r marks marked
      (outer, u, subst (λ n. At (code_of source c.active.function) r (instructions.Jump n)) (ap break_target is) here, stack)
  breaking (EndLoan lent ∷ k) e w c nested well (shared, facts, r, marks, marked, (exits, q, here, stack)) =
      silently source pages calls (Running Breaking (EndLoan lent ∷ k) e w) (Running Breaking k e w) (plain.Running c) refl (shared, facts, r, marks, marked, (exits, q, here, stack)) (omega arith)
  breaking (Handler handler ∷ k) e w c nested well (shared, facts, r, marks, marked, (exits, q, here, (outer, u, is, leave, over, stack))) =
      silently source pages calls (Running Breaking (Handler handler ∷ k) e w) (Running Breaking k e w) (plain.Running c) refl
      (shared, facts, r, marks, marked, (outer, u, subst (λ n. At (code_of source c.active.function) r (instructions.Jump n)) (ap break_target is) here, stack))
      (omega arith)
  breaking (Main ∷ k) e w c nested well related = absurd (well refl)

  pub continuing : (k : List Entry) (e : Environment) (w : World) (c : Configuration) → IsNested k e w → IsStep source pages calls Continuing k e w c
  continuing [] e w c nested well related = absurd (well refl)
  continuing (Needs a ∷ k) e w c nested well (shared, facts, r, marks, marked, (exits, q, here, stack)) = absurd stack
  continuing (Discard ∷ k) e w c nested well (shared, facts, r, marks, marked, (exits, q, here, stack)) = absurd stack
  continuing (Rest js ∷ k) e w c nested well (shared, facts, r, marks, marked, (exits, q, here, (u, items, stack))) =
      silently source pages calls (Running Continuing (Rest js ∷ k) e w) (Running Continuing k e w) (plain.Running c) refl (shared, facts, r, marks, marked, (exits, u, here, stack)) (omega arith)
  continuing (Join ∷ k) e w c nested well (shared, facts, r, marks, marked, (exits, q, here, (u, arrives, stack))) =
      silently source pages calls (Running Continuing (Join ∷ k) e w) (Running Continuing k e w) (plain.Running c) refl (shared, facts, r, marks, marked, (exits, u, here, stack)) (omega arith)
  continuing (Loop a s ∷ k) e w c nested well (shared, facts, r, end, marked, (exits, q, jumps, (outer, u, (b, loop_is, function_is, inl first, leave, at_s, again, after), stack))) =
      let here : At (code_of source c.active.function) c.active.next (instructions.Jump (continue_target exits)) = subst (λ n. At (code_of source c.active.function) n (instructions.Jump (continue_target exits))) (sym end) jumps in
      by_one source pages calls refl shared here
      (λ choice. (shared, facts, tries_first a s k c.active.function exits outer q u c.frames shared.tables c.active.slots e.locals (b, loop_is, function_is, inl first, leave, at_s, again, after) first leave stack))
  continuing (Loop a s ∷ k) e w c nested well (shared, facts, r, end, marked, (exits, q, jumps, (outer, u, (b, loop_is, function_is, inr (enter, on), leave, at_s, again, after), stack))) =
      let here : At (code_of source c.active.function) c.active.next (instructions.Jump (continue_target exits)) = subst (λ n. At (code_of source c.active.function) n (instructions.Jump (continue_target exits))) (sym end) jumps in
      by_two source pages calls (at c (continue_target exits)) refl shared shared here (λ choice. refl) enter
      (jumps_apart (code_of source c.active.function) c.active.next (continue_target exits) q here enter on)
      (λ choice. (shared, facts, tries a s k c.active.function exits outer q u c.frames shared.tables c.active.slots e.locals (b, loop_is, function_is, inr (enter, on), leave, at_s, again, after) stack))
  continuing (CloseRegion region home ∷ k) e w c nested well (shared, facts, r, marks, marked, (exits, q, here, (u, comes, stack))) =
      let found = is_closed Continuing region home k e w well in
      silently source pages calls (Running Continuing (CloseRegion region home ∷ k) e w) (Running Continuing k (record e { home = home }) (closed w region found.region)) (plain.Running c) found.gives
      (shared_closed source (opened_by source true c.active.function k).mark pages calls k e w c region home found.region found.there shared, facts, r, marks, marked, (exits, u, here, stack))
      (omega arith)
  continuing (Caller outer ∷ k) e w c nested well related = absurd (well refl)
  continuing (NeedsPlace a ∷ k) e w c nested well (shared, facts, r, marks, marked, (exits, q, here, stack)) = absurd stack
  continuing (CloseLexical region ∷ k) e w c nested well (shared, facts, r, marks, marked, (exits, q, here, (outer, u, is, closing, stack))) =
      leaves_region source pages calls true Continuing region k e w c (λ r found. ap (λ (a : Access Region). closing_lexical a Continuing region k e w) found) (λ v. omega arith) (λ v d leaves. leaves) nested shared facts r marks marked
      (outer, u, subst (λ n. At (code_of source c.active.function) r (instructions.Jump n)) (ap continue_target is) here, stack)
  continuing (EndLoan lent ∷ k) e w c nested well (shared, facts, r, marks, marked, (exits, q, here, stack)) =
      silently source pages calls (Running Continuing (EndLoan lent ∷ k) e w) (Running Continuing k e w) (plain.Running c) refl (shared, facts, r, marks, marked, (exits, q, here, stack)) (omega arith)
  continuing (Handler handler ∷ k) e w c nested well (shared, facts, r, marks, marked, (exits, q, here, (outer, u, is, leave, over, stack))) =
      silently source pages calls (Running Continuing (Handler handler ∷ k) e w) (Running Continuing k e w) (plain.Running c) refl
      (shared, facts, r, marks, marked, (outer, u, subst (λ n. At (code_of source c.active.function) r (instructions.Jump n)) (ap continue_target is) here, stack))
      (omega arith)
  continuing (Main ∷ k) e w c nested well related = absurd (well refl)
