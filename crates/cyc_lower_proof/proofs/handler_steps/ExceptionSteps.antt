-- This file proves the steps of exceptions: entering a `try`, throwing, and reaching the clauses of a handler.
use Rattle.std.proofs.Common.{◌≡◌, ◌≢◌, ℕ, suc, ◌+◌, ◌≤◌, ◌<◌, Bool, true, false, List, [], ◌∷◌, length, Option, None, Some, refl, sym, ap, subst, ◌∙◌, arith, inl, inr}
use Rattle.std.specs.List.{AllByRecursion}
use Rattle.cyc_words.specs.Distinct.{IsDistinct}
use Rattle.std.specs.Prelude.{Contains, ◌==◌, ◌%◌, ◌^◌, not, if◌then◌else◌}
use Rattle.std.proofs.lemmas.Option.{same_Some}
use Rattle.cyc_words.specs.Word.{IsWord as IsNumber, signed}
use Rattle.cyc_words.specs.Ending.{Uncaught}
use Rattle.cyc_words.proofs.Numbers.{eqb_turned}
use Rattle.cyc_types.specs.declared.typed.Kind.TheVariants as kinds
use Rattle.cyc_types.specs.TypedTrees.{Expression, Statement, Items, Clauses, NoClauses, Default, Case, Program}
use Rattle.cyc_types.specs.TypedTrees as typed
use Rattle.cyc_plain.specs.declared.instruction.Comparison.TheVariants as comparisons
use Rattle.cyc_plain.specs.declared.instruction.Operand.{Operand}
use Rattle.cyc_plain.specs.declared.instruction.Operand.TheVariants as operands
use Rattle.cyc_plain.specs.declared.instruction.Instruction.TheVariants as instructions
use Rattle.cyc_plain.specs.declared.limits.TheConstants.{RECORD_WORDS}
use Rattle.cyc_plain.specs.inside.Program.{CodePlace, places_of}
use Rattle.cyc_plain.specs.declared.instruction.Request.TheVariants as requests
use Rattle.cyc_plain.specs.inside.Straight.{At}
use Rattle.cyc_plain.specs.inside.State as plain
use Rattle.cyc_plain.specs.inside.State.{Words, put, copied, Activation, Frame, Configuration}
use Rattle.cyc_plain.specs.inside.Step.{Choice, at, with_slots, advanced, operand_word, lands, throws, tries, opens, performed}
use Rattle.cyc_plain.specs.inside.Step as plain_step
use Rattle.cyc_plain.proofs.SlotLaws.{put-same, put-other, copied-inside, copied-below, copied-above}
use Rattle.cyc_plain.specs.inside.Operators.{compares}
use Rattle.cyc_meaning.specs.Values.{Operand as Kinded, words_of_kind}
use Rattle.cyc_meaning.specs.State.{World, Environment, variable, made, closed, with_local, region_at, ThrowWith, Entry, Needs, NeedsPlace, Discard, Rest, Join, Loop, CloseRegion}
use Rattle.cyc_meaning.specs.State.{CloseLexical, EndLoan, Handler, Caller, Main, Evaluating, Executing, Proceeding, Naming, Throwing, Catching, Running, Ended, State, Region, Access}
use Rattle.cyc_meaning.specs.inside.Nesting.{IsNested}
use Rattle.cyc_store.specs.State.{lexical_count}
use Rattle.cyc_meaning.specs.Regions.{closing_lexical}
use Rattle.cyc_meaning.specs.Step.{inside}
use Rattle.cyc_meaning.specs.Exceptions.{catches}
use Rattle.cyc_lower_proof.specs.declared.exits.Exits.{Exits}
use Rattle.cyc_lower_proof.specs.inside.Slots.{slot_of}
use Rattle.cyc_lower_proof.specs.inside.ControlCode.{tag_operand, inside_try}
use Rattle.cyc_lower_proof.specs.inside.Lowering.{lower_program, scopes_of}
use Rattle.cyc_memory_relation.specs.inside.Tables.{Tables, with_row, with_handle}
use Rattle.cyc_memory_relation.specs.inside.Related as objects
use Rattle.cyc_memory_relation.proofs.Scopes.{scopes-counted, ends-newest}
use Rattle.cyc_memory_relation.specs.inside.Words.{Is}
use Rattle.cyc_memory_relation.proofs.Values.{Is-grows, Grows-row, Grows-handle}
use Rattle.cyc_lower_proof.proofs.slots.Slots.{slot-room, room-inside}
use Rattle.cyc_lower_proof.proofs.slots.Widths.{kind_positive, HasRoom, Outside}
use Rattle.cyc_lower_proof.proofs.relation.contents.Moves.{moved_slots, put_elsewhere, moves, moved_is, moved_elsewhere}
use Rattle.cyc_lower_proof.proofs.relation.code.Statements.{CaughtAt, ItemsAt, ClausesAt, KeptAt, RestoredAt}
use Rattle.cyc_lower_proof.proofs.relation.contents.Sharing.{shared_less, shared_declared, row_declared, shared_opened, shared_closed, shared_left}
use Rattle.cyc_lower_proof.proofs.relation.contents.HeldValues.{after_records, scopes_in, MayBeOpen, IsKept, IsIntact, held, callers, row_of}
use Rattle.cyc_lower_proof.proofs.relation.simulation.Relation.{SharedBy, HandlersStand, DataIn, SharedAt, Matches, as_operand, following_statement}
use Rattle.cyc_lower_proof.proofs.relation.simulation.Stacks.{types_at, starts_at, StatementStack, in_place, by_jumps, code_of, bounds_at, floor, Arrives, DataAt, call_slots}
use Rattle.cyc_lower_proof.proofs.relation.simulation.Shared.{seen_in, shared_seen, HasScopes}
use Rattle.cyc_lower_proof.proofs.relation.contents.HandlerData.{handlers_beside, data_written}
use Rattle.cyc_lower_proof.proofs.relation.contents.Data.{data_declared, data_returned}
use Rattle.cyc_lower_proof.proofs.relation.contents.GrowingData.{data_grows}
use Rattle.cyc_lower_proof.proofs.relation.simulation.Accesses.{is_declared, is_closed, home_there}
use Rattle.cyc_lower_proof.proofs.relation.simulation.Matched.{Inside, inside_by, inside_within, IsMatched, Executes, executes, by_places, known, elsewhere, seen_way, silently, by_one, by_one_seen, by_two, place_in}
use Rattle.cyc_lower_proof.proofs.region_steps.Closings.{closing_apart, closing_executes, shared_after, settled}
use Rattle.cyc_lower_proof.proofs.region_steps.Scoped.{scopes_word}
use Rattle.cyc_lower_proof.proofs.handler_steps.Handling.{intact, closes_here, newest_open, caught_by, raised}
use Rattle.cyc_lower_proof.proofs.value_steps.Landings.{IsStep}
use Rattle.cyc_lower_proof.proofs.value_steps.Conversions.{taken, not_taken}
use Rattle.cyc_lower_proof.proofs.relation.places.Rows.{row-fits, row-variable, declared_low}

module _ (source : Program) (pages calls : ℕ) where
  -- ---- entering and leaving a `try`

  never_caught : (g : ℕ) (slots : Words) (handlers : List plain.Handler) (frames : List Frame) (k : List Entry) → HandlersStand source g slots (plain.Caught ∷ handlers) frames k → ⊥
  never_caught g slots handlers frames [] stand = stand
  never_caught g slots handlers frames (Handler handler ∷ k) stand = stand
  never_caught g slots handlers frames (Caller e ∷ k) (none, below) = let f : plain.Caught ∷ handlers ≡ [] = none in cc
  never_caught g slots handlers frames (Main ∷ k) (none, last) = let f : plain.Caught ∷ handlers ≡ [] = none in cc
  never_caught g slots handlers frames (CloseLexical region ∷ k) (marked, stand) = never_caught g slots handlers frames k stand
  never_caught g slots handlers frames (entry ∷ k) stand = never_caught g slots handlers frames k stand

  opens_one : (choice : Choice) (c : Configuration) (first p : ℕ) (handlers : List plain.Handler) (g : ℕ) (slots : Words) (frames : List Frame) (k : List Entry) → HandlersStand source g slots handlers frames k
      → tries choice c first p handlers ≡ opens choice c first
  opens_one choice c first p [] g slots frames k stand = refl
  opens_one choice c first p (plain.Open index other contents ∷ handlers) g slots frames k stand = refl
  opens_one choice c first p (plain.Caught ∷ handlers) g slots frames k stand = absurd (never_caught g slots handlers frames k stand)

  -- The slots after entering a `try`: the number of open lexical regions is stored after the handler's record.
  abbrev kept_slots : (scopes : Option ℕ) → Configuration → (slot : ℕ) → Words
  kept_slots None c slot = c.active.slots
  kept_slots (Some place) c slot = put c.active.slots slot (lexical_count c.store.regions % 2 ^ 32)

  kept_there : (scopes : Option ℕ) (c : Configuration) (slot many : ℕ) → lexical_count c.store.regions % 2 ^ 32 ≡ many → IsKept scopes (kept_slots scopes c slot) slot many
  kept_there None c slot many counted = tt
  kept_there (Some place) c slot many counted = put-same c.active.slots slot (lexical_count c.store.regions % 2 ^ 32) ∙ counted

  kept_elsewhere : (scopes : Option ℕ) (c : Configuration) (slot n : ℕ) → Outside slot 1 n → kept_slots scopes c slot n ≡ c.active.slots n
  kept_elsewhere None c slot n out = refl
  kept_elsewhere (Some place) c slot n out = put_elsewhere c.active.slots slot (lexical_count c.store.regions % 2 ^ 32) 1 n (omega arith) out

  kept_same : (scopes : Option ℕ) (slots after : Words) (slot many : ℕ) → after slot ≡ slots slot → IsKept scopes slots slot many → IsKept scopes after slot many
  kept_same None slots after slot many same kept = tt
  kept_same (Some place) slots after slot many same kept = same ∙ kept

  -- Entering a `try` opens its handler; the words of the handler's record are arbitrary.
  pub begins : (s : Statement) (handler : Clauses) (k : List Entry) (e : Environment) (w : World) (c : Configuration) → IsNested k e w → IsStep source pages calls (Executing (typed.Try s handler)) k e w c
  begins s handler k e w c nested well (shared, facts, (exits, q, (r, m, u, keeping, opening, body, leave, over, restoring, clauses), stack)) =
      by_keeping (scopes_of source) refl keeping
    where
      t : ℕ
      t = floor source c.active.function k

      slot : ℕ
      slot = t + RECORD_WORDS

      kept : Words
      kept = kept_slots (scopes_of source) c slot

      recorded : Choice → Words
      recorded choice = copied choice.contents 0 RECORD_WORDS kept t

      beside : (choice : Choice) (n : ℕ) → Outside t RECORD_WORDS n → recorded choice n ≡ kept n
      beside choice n (inl below) = copied-below choice.contents kept 0 RECORD_WORDS t n below
      beside choice n (inr above) = copied-above choice.contents kept 0 RECORD_WORDS t n above

      elsewhere : (choice : Choice) (n : ℕ) → Outside t (suc RECORD_WORDS) n → recorded choice n ≡ c.active.slots n
      elsewhere choice n (inl below) = beside choice n (inl below) ∙ kept_elsewhere (scopes_of source) c slot n (inl (omega (arith, below)))
      elsewhere choice n (inr above) = beside choice n (inr (omega (arith, above))) ∙ kept_elsewhere (scopes_of source) c slot n (inr (omega (arith, above)))

      recorded_at : (choice : Choice) (i : ℕ) → i < RECORD_WORDS → recorded choice (t + i) ≡ choice.contents i
      recorded_at choice i few = copied-inside choice.contents kept 0 RECORD_WORDS t i few ∙ ap choice.contents (let z : 0 + i ≡ i = omega arith in z)

      whole : (choice : Choice) → IsIntact (recorded choice) t choice.contents
      whole choice = (
        ap (recorded choice) (let z : t ≡ t + 0 = omega arith in z) ∙ recorded_at choice 0 (omega arith),
        recorded_at choice 1 (omega arith),
        recorded_at choice 2 (omega arith),
        recorded_at choice 3 (omega arith),
      )

      -- The configuration of the plain machine after the instruction that begins a `try` has opened the handler of the `try`.
      begun : Configuration
      begun = with_slots (at c r) kept

      inside_one : (choice : Choice) → Matches source pages calls (Running (Executing s) (Handler handler ∷ k) e w) (opens choice begun t)
      inside_one choice =
          let (written, others) = data_written source shared.tables c.active.function c.active.base w.objects e.locals k c.active.slots (recorded choice) c.active.handlers c.globals c.frames t (suc RECORD_WORDS) (omega arith) (elsewhere choice) facts in
          let is_kept = kept_same (scopes_of source) kept (recorded choice) slot (scopes_in k) (beside choice slot (inr (omega arith))) (kept_there (scopes_of source) c slot (scopes_in k) (scopes_word shared.tables w c.store shared.related k e nested)) in (
            shared,
            (written, (refl, whole choice, is_kept, (exits, m + 1 + 1, u, m + 1, q, opening, restoring, clauses, over, stack), others)),
            (inside_try exits t, m, body, (exits, q, refl, leave, over, stack)),
          )

      opens_here : (choice : Choice) → Matches source pages calls (Running (Executing s) (Handler handler ∷ k) e w) (tries choice begun t (m + 1 + 1) c.active.handlers)
      opens_here choice =
          subst (Matches source pages calls (Running (Executing s) (Handler handler ∷ k) e w)) (sym (opens_one choice begun t (m + 1 + 1) c.active.handlers c.active.function c.active.slots c.frames k facts.1)) (inside_one choice)

      by_keeping : (scopes : Option ℕ) → scopes_of source ≡ scopes → KeptAt (code_of source c.active.function) (bounds_at source c.active.function) (types_at source c.active.function) scopes slot c.active.next r
          → IsMatched source pages calls (Running (Executing (typed.Try s handler)) k e w) (plain.Running c)
      by_keeping None none end =
          let begun_is : begun ≡ c = ap (λ (o : Option ℕ). with_slots (at c r) (kept_slots o c slot)) none ∙ ap (λ n. at c n) (sym end) in
          by_one source pages calls refl shared (subst (λ n. At (code_of source c.active.function) n (instructions.Try t (m + 1 + 1))) (sym end) opening)
          (λ choice. subst (λ (d : Configuration). Matches source pages calls (Running (Executing s) (Handler handler ∷ k) e w) (tries choice d t (m + 1 + 1) c.active.handlers)) begun_is (opens_here choice))
      by_keeping (Some place) some (here, following) =
          by_two source pages calls begun refl shared shared here
          (λ choice. ap plain.Running (
          ap (λ n. with_slots (at c n) (put c.active.slots slot (lexical_count c.store.regions % 2 ^ 32))) following
          ∙ ap (λ (o : Option ℕ). with_slots (at c r) (kept_slots o c slot)) (sym some)))
          opening (λ equal. omega (arith, equal, following)) (λ choice. opens_here choice)

  -- When the body of a `try` is complete, its handler is closed, and the `catch` clauses are skipped.
  pub ends : (handler : Clauses) (k : List Entry) (e : Environment) (w : World) (c : Configuration) (exits : Exits) → (shared : SharedAt source pages calls k e w c)
      → DataIn source shared.tables c.active.slots (Handler handler ∷ k) e w c → StatementStack source c.active.function exits c.active.next c.frames (Handler handler ∷ k)
      → IsMatched source pages calls (Running Proceeding (Handler handler ∷ k) e w) (plain.Running c)
  ends handler k e w c exits shared (facts, stand) (outer, q, is, leave, over, stack) =
      let t = floor source c.active.function k in
      let (index, first, contents, later, are, (first_is, same, kept, catches_at, others)) = newest_open c.active.handlers _ stand in
      let d : Configuration = advanced (record c { active = record c.active { handlers = later } }) in
      by_two source pages calls d refl shared shared leave
      (λ choice. ap (λ (handlers : List plain.Handler). plain_step.closes c t handlers) are ∙ closes_here c t index first contents later first_is same)
      over (λ equal. omega (arith, equal))
      (λ choice. (shared, following_statement outer (facts, others) stack))

  -- ---- a throw

  pub throws_none : (tag : ℕ) (k : List Entry) (e : Environment) (w : World) (c : Configuration) → IsStep source pages calls (Executing (typed.Throw tag None)) k e w c
  throws_none tag k e w c well (shared, facts, (exits, q, (word, o, m, (o_is, end), here), stack)) =
      silently source pages calls (Running (Executing (typed.Throw tag None)) k e w) (Running (Throwing tag 0) k e w) (plain.Running c) refl
      (raised source pages calls tag 0 k e w c (tag_operand tag) o word shared facts (subst (λ n. At (code_of source c.active.function) n (instructions.Throw (tag_operand tag) o)) (sym end) here)
      (let z : tag % 2 ^ 32 ≡ tag = omega (arith, word) in z) (ap (operand_word c.active.slots) o_is))
      (omega arith)

  pub throws_some : (tag : ℕ) (a : Expression) (k : List Entry) (e : Environment) (w : World) (c : Configuration) → IsStep source pages calls (Executing (typed.Throw tag (Some a))) k e w c
  throws_some tag a k e w c well (shared, facts, (exits, q, (word, o, m, at_a, here), stack)) =
      silently source pages calls (Running (Executing (typed.Throw tag (Some a))) k e w) (Running (Evaluating a) (Needs (ThrowWith tag) ∷ k) e w) (plain.Running c) refl
      (shared, facts, as_operand o m at_a tt (exits, q, word, here, stack))
      (omega arith)

  -- ---- the clauses of a handler

  -- A local is declared, and its value is the value of an operand.
  pub naming : (n : ℕ) (v : Kinded) (js : Items) (k : List Entry) (e : Environment) (w : World) (c : Configuration) → IsStep source pages calls (Naming n v js) k e w c
  naming n v js k e w c well (shared, facts, (exits, q, o, here, is, local, (room, of_type), items, stack)) =
      let g = c.active.function in
      let words = words_of_kind v.kind in
      let slot = slot_of (starts_at source g) n in
      let (r, home) = home_there Proceeding n v.kind (Some v.value) (Rest js ∷ k) e w well in
      let row = row_of (call_slots source g c.active.base) (slot_of (starts_at source g) n) v.kind in
      let grown = with_row shared.tables row in
      let grows = Grows-row shared.tables row in
      let slots = moved_slots c.active.slots words slot o in
      let elsewhere : (m : ℕ) → Outside slot words m → slots m ≡ c.active.slots m = λ m out. moved_elsewhere c.active.slots words slot o m (kind_positive v.kind) out in
      by_one source pages calls (is_declared (region_at w e.home) Proceeding n v.kind (Some v.value) (Rest js ∷ k) e w well) shared here
      (λ choice. subst (Matches source pages calls (Running Proceeding (Rest js ∷ k) (with_local e n (length w.objects)) (made w (variable e.home v.kind (Some v.value))))) (sym (moves (lower_program source) choice c words slot o)) (
        shared_declared source pages calls k e w (advanced (with_slots c slots)) shared n r v.kind (Some v.value) row home (row-fits (call_slots source g c.active.base) slot v.kind e.home (Some v.value)) (row-variable (call_slots source g c.active.base) slot v.kind),
        following_statement exits (
          data_declared grown source g c.active.base w.objects e (callers k) c.active.slots slots c.globals c.frames n words (variable e.home v.kind (Some v.value)) local room (record { kind = v.kind; room = room; of_type = of_type; row = row_declared source pages calls k e w c shared row }) elsewhere
              (λ u has. subst (λ (x : Kinded). Is grown x.kind x.value slots slot × HasRoom (types_at source g) n x.kind) (same_Some v u has) (Is-grows grows v.kind v.value slots slot (moved_is shared.tables v c.active.slots slot o is), room))
              (λ is_char. declared_low grown (call_slots source g c.active.base) slot v.kind (length w.objects) v slots (row_declared source pages calls k e w c shared row) refl (Is-grows grows v.kind v.value slots slot (moved_is shared.tables v c.active.slots slot o is)) is_char)
              (data_grows shared.tables grown grows source g c.active.base w.objects e.locals (callers k) c.active.slots c.globals c.frames facts.0),
          handlers_beside source g c.active.slots slots c.active.handlers c.frames k slot words (omega (arith, slot-room (types_at source g) n local, room)) elsewhere facts.1,
        )
            (q, items, stack),
      ))

  -- ---- unwinding by an exception

  -- The state that results from the instruction that throws an exception.
  thrown : (tag value : ℕ) (c : Configuration) (x o : Operand) (choice : Choice) → operand_word c.active.slots x ≡ tag → operand_word c.active.slots o ≡ value
      → performed (lower_program source) choice c (instructions.Throw x o) ≡ throws c tag value c.active c.frames
  thrown tag value c x o choice x_is o_is = ap (λ n. throws c n (operand_word c.active.slots o) c.active c.frames) x_is ∙ ap (λ n. throws c tag n c.active c.frames) o_is

  beyond_all : (tag value : ℕ) (c : Configuration) (a : Activation) (rest : List Frame) → a.handlers ≡ [] → rest ≡ [] → throws c tag value a rest ≡ plain.Ended (Uncaught tag (signed value)) c.output c.input
  beyond_all tag value c a rest none last =
      ap (throws c tag value a) last ∙ ap (λ (handlers : List plain.Handler). lands c tag value a [] (plain.Ended (Uncaught tag (signed value)) c.output c.input) handlers) none

  -- The exception reaches the newest handler; the record of this handler then contains the exception's index and int.
  abbrev catching_in : (tag value index first : ℕ) → List plain.Handler → Configuration → Activation → List Frame → Configuration
  catching_in tag value index first later c a rest = record c {
    active = record a { next = index; slots = put (put a.slots first tag) (suc first) value; handlers = plain.Caught ∷ later };
    frames = rest;
  }

  lands_on : (tag value index first : ℕ) (contents : Words) (later : List plain.Handler) (c : Configuration) (a : Activation) (rest : List Frame) → a.handlers ≡ plain.Open index first contents ∷ later → IsIntact a.slots first contents
      → throws c tag value a rest ≡ plain.Running (catching_in tag value index first later c a rest)
  lands_on tag value index first contents later c a [] are same =
      ap (λ (handlers : List plain.Handler). lands c tag value a [] (plain.Ended (Uncaught tag (signed value)) c.output c.input) handlers) are
      ∙ ap (λ (b : Bool). if b then plain.Running (catching_in tag value index first later c a []) else plain.Stuck c.output c.input) (intact a.slots first contents same)
  lands_on tag value index first contents later c a (f ∷ rest) are same =
      ap (λ (handlers : List plain.Handler). lands c tag value a (f ∷ rest) (throws c tag value f.caller rest) handlers) are
      ∙ ap (λ (b : Bool). if b then plain.Running (catching_in tag value index first later c a (f ∷ rest)) else plain.Stuck c.output c.input) (intact a.slots first contents same)

  both_elsewhere : (slots : Words) (first tag value m : ℕ) → Outside first 2 m → put (put slots first tag) (suc first) value m ≡ slots m
  both_elsewhere slots first tag value m (inl below) =
      put-other (put slots first tag) (suc first) m value (λ equal. omega (arith, equal, below)) ∙ put-other slots first m tag (λ equal. omega (arith, equal, below))
  both_elsewhere slots first tag value m (inr above) =
      put-other (put slots first tag) (suc first) m value (λ equal. omega (arith, equal, above)) ∙ put-other slots first m tag (λ equal. omega (arith, equal, above))

  -- An exception reaches the newest handler of a call: first by the instruction that throws the exception, then by the handler's own
  -- instructions.
  module _ (tag value : ℕ) (handler : Clauses) (k : List Entry) (e : Environment) (w : World) (c : Configuration) (x o : Operand) (a : Activation) (rest : List Frame)
      (index first : ℕ) (contents : Words) (later : List plain.Handler) (exits : Exits) (m p out q : ℕ) (word : IsNumber tag)
      (here : At (code_of source c.active.function) c.active.next (instructions.Throw x o)) (x_is : operand_word c.active.slots x ≡ tag) (o_is : operand_word c.active.slots o ≡ value)
      (less : length rest ≤ length c.frames) (same : throws c tag value c.active c.frames ≡ throws c tag value a rest)
      (are : a.handlers ≡ plain.Open index first contents ∷ later) (first_is : first ≡ floor source a.function k) (whole : IsIntact a.slots first contents)
      (opening : At (code_of source a.function) index (instructions.Try (floor source a.function k) m))
      (clauses : ClausesAt (code_of source a.function) (bounds_at source a.function) (types_at source a.function) handler out exits (floor source a.function k) p q)
      (over : At (code_of source a.function) out (instructions.Jump q)) (stack : StatementStack source a.function exits q rest k) where
    abbrev thrown_to : Configuration
    thrown_to = catching_in tag value index first later c a rest

    abbrev reported_slots : Words
    reported_slots = put (put a.slots first tag) (suc first) value

    -- The configuration after the handler is closed and the record of the handler is read.
    abbrev resumed : Configuration
    resumed = record c { active = record a { next = m; slots = reported_slots; handlers = later }; frames = rest }

    abbrev old_state : State
    old_state = Running (Throwing tag value) (Handler handler ∷ k) e w

    abbrev new_state : State
    new_state = Running (Catching tag value handler) k e w

    tag_is : reported_slots (floor source a.function k) ≡ tag
    tag_is = ap reported_slots (sym first_is) ∙ put-other (put a.slots first tag) (suc first) first value (λ equal. omega (arith, equal)) ∙ put-same a.slots first tag

    value_is : reported_slots (floor source a.function k + 1) ≡ value
    value_is = ap reported_slots (let z : floor source a.function k + 1 ≡ suc first = omega (arith, first_is) in z) ∙ put-same (put a.slots first tag) (suc first) value

    -- The invariant that the source run and the lowered run share still holds with one open exception handler fewer.
    abbrev shared_fewer : (closing : Option ℕ) → SharedBy source closing pages calls (Handler handler ∷ k) e w c → SharedBy source closing pages calls k e w resumed
    shared_fewer closing s = record {
      tables = s.tables;
      same_output = s.same_output;
      same_input = s.same_input;
      same_pages = s.same_pages;
      related = s.related;
      globals = s.globals;
      variables = s.variables;
      few_pages = s.few_pages;
      fits = omega (arith, less, s.fits);
      counters = s.counters;
    }

    written : (t : Tables) → DataAt source t a.function a.base w.objects e.locals (callers k) a.slots c.globals rest → HandlersStand source a.function a.slots later rest k
        → DataAt source t a.function a.base w.objects e.locals (callers k) reported_slots c.globals rest × HandlersStand source a.function reported_slots later rest k
    written t facts others =
        data_written source t a.function a.base w.objects e.locals k a.slots reported_slots later c.globals rest first 2 (omega (arith, first_is)) (λ n away. both_elsewhere a.slots first tag value n away) (facts, others)

    -- A source step is matched by two instructions of the lowered code, followed by the instructions at the code positions `places`.
    by_handler : (places : List CodePlace) → Inside source pages calls w resumed → plain.seen_of (plain.Running c) ≡ seen_in w
        → AllByRecursion (λ r. place_in source pages calls c ≢ r) places → AllByRecursion (λ r. place_in source pages calls thrown_to ≢ r) places → IsDistinct places
        → AllByRecursion (Contains (places_of (lower_program source))) places
        → Executes source pages calls old_state new_state places (plain.Running resumed) → IsMatched source pages calls old_state (plain.Running c)
    by_handler places inside seen apart_first apart_second distinct inside_all goes =
        let apart_two : place_in source pages calls c ≢ place_in source pages calls thrown_to =
        elsewhere source pages calls (place_in source pages calls c) (place_in source pages calls thrown_to) _ _ here opening (λ equal. let f : instructions.Throw x o ≡ instructions.Try (floor source a.function k) m = equal in cc) in
        let leads : (choice : Choice) → performed (lower_program source) choice c (instructions.Throw x o) ≡ plain.Running thrown_to =
        λ choice. thrown tag value c x o choice x_is o_is ∙ same ∙ lands_on tag value index first contents later c a rest are whole in
        by_places source pages calls old_state new_state (place_in source pages calls c) (place_in source pages calls thrown_to ∷ places) (plain.Running c) refl
        ((apart_two, apart_first), (apart_second, distinct)) (known source pages calls c _ here, (known source pages calls thrown_to _ opening, inside_all))
        (executes source pages calls old_state new_state c (instructions.Throw x o) (place_in source pages calls thrown_to ∷ places) here
        (λ choice. ap (plain_step.is_within pages calls) (leads choice) ∙ inside_within source pages calls w thrown_to inside)
        (seen_way source pages calls (Throwing tag value) (Handler handler ∷ k) e w c seen)
        (λ choice. subst (Executes source pages calls old_state new_state (place_in source pages calls thrown_to ∷ places)) (sym (leads choice))
        (executes source pages calls old_state new_state thrown_to (instructions.Try (floor source a.function k) m) places opening
        (λ other. inside_within source pages calls w resumed inside)
        (seen_way source pages calls (Throwing tag value) (Handler handler ∷ k) e w thrown_to seen)
        (λ other. goes))))

    inside_resumed : Inside source pages calls w c → Inside source pages calls w resumed
    inside_resumed (seen, few, fits, asked) = (seen, few, omega (arith, fits, less), asked)

    -- The lexical regions that were opened inside the `try` are closed.
    by_restoring : (scopes : Option ℕ) → scopes_of source ≡ scopes → objects.scopes w.regions ≡ scopes_in k → (shared : SharedBy source scopes pages calls (Handler handler ∷ k) e w c)
        → DataAt source shared.tables a.function a.base w.objects e.locals (callers k) a.slots c.globals rest → HandlersStand source a.function a.slots later rest k
        → RestoredAt (code_of source a.function) (bounds_at source a.function) (types_at source a.function) scopes (floor source a.function k + RECORD_WORDS) m p
        → IsKept scopes a.slots (floor source a.function k + RECORD_WORDS) (scopes_in k) → IsMatched source pages calls old_state (plain.Running c)
    by_restoring None is counted shared facts others end kept =
        by_handler [] (inside_resumed (inside_by source None pages calls (Handler handler ∷ k) e w c shared)) (shared_seen shared) tt tt tt tt
        (subst (λ n. Matches source pages calls new_state (plain.Running (at resumed n))) (sym end)
        (shared_fewer None shared, written shared.tables facts others, (exits, out, q, clauses, over, stack, word, tag_is, value_is)))
    by_restoring (Some place) is counted shared facts others (ask, close) kept =
        let slot = floor source a.function k + RECORD_WORDS in
        let inside = inside_resumed (inside_by source (Some place) pages calls (Handler handler ∷ k) e w c shared) in
        by_handler (place_in source pages calls resumed ∷ []) inside (shared_seen shared)
        (closing_apart source pages calls resumed slot ask (place_in source pages calls c) _ here
        (λ equal. let f : instructions.Throw x o ≡ instructions.Ask (requests.CloseTo (operands.Slot slot)) = equal in cc))
        (closing_apart source pages calls resumed slot ask (place_in source pages calls thrown_to) _ opening
        (λ equal. let f : instructions.Try (floor source a.function k) m ≡ instructions.Ask (requests.CloseTo (operands.Slot slot)) = equal in cc))
        (tt, tt) (known source pages calls resumed _ ask, tt)
        (closing_executes source pages calls (Throwing tag value) (Handler handler ∷ k) e w new_state resumed slot (scopes_in k) p (ask, close) inside
        (both_elsewhere a.slots first tag value slot (inr (omega (arith, first_is))) ∙ kept) (omega (arith, counted, shared.counters.1.2))
        (λ choice allowed. (
          settled source pages calls place k e w resumed (scopes_in k) p choice counted refl allowed (shared_fewer (Some place) shared),
          written shared.tables facts others,
          (exits, out, q, clauses, over, stack, word, tag_is, value_is),
        )))

  comes_to : (tag value : ℕ) (handler : Clauses) (k : List Entry) (e : Environment) (w : World) (c : Configuration) (x o : Operand) (a : Activation) (rest : List Frame)
      → objects.scopes w.regions ≡ scopes_in k → (shared : SharedBy source (scopes_of source) pages calls k e w c) → IsNumber tag → At (code_of source c.active.function) c.active.next (instructions.Throw x o)
      → operand_word c.active.slots x ≡ tag → operand_word c.active.slots o ≡ value → length rest ≤ length c.frames → throws c tag value c.active c.frames ≡ throws c tag value a rest
      → DataAt source shared.tables a.function a.base w.objects e.locals (callers k) a.slots c.globals rest → HandlersStand source a.function a.slots a.handlers rest (Handler handler ∷ k)
      → IsMatched source pages calls (Running (Throwing tag value) (Handler handler ∷ k) e w) (plain.Running c)
  comes_to tag value handler k e w c x o a rest counted shared word here x_is o_is less same facts stand =
      let (index, first, contents, later, are, (first_is, whole, kept, (exits, m, p, out, q, opening, restoring, clauses, over, stack), others)) = newest_open a.handlers _ stand in
      by_restoring tag value handler k e w c x o a rest index first contents later exits m p out q word here x_is o_is less same are first_is whole opening clauses over stack
      (scopes_of source) refl counted shared facts others restoring kept

  may_have : (scopes : Option ℕ) → (scopes ≡ None → ⊥) → HasScopes scopes
  may_have None never = never refl
  may_have (Some place) never = tt

  pub throwing : (tag value : ℕ) (k : List Entry) (e : Environment) (w : World) (c : Configuration) → IsNested k e w → IsStep source pages calls (Throwing tag value) k e w c
  throwing tag value [] e w c nested well (shared, fits, word, x, o, here, x_is, o_is, a, rest, less, same, facts, (none, last)) =
      by_one_seen source pages calls refl (shared_seen shared) here
      (λ choice. subst (Matches source pages calls (Ended (Uncaught tag (signed value)) w.output w.input)) (sym (thrown tag value c x o choice x_is o_is ∙ same ∙ beyond_all tag value c a rest none last)) (refl, shared_seen shared))
  throwing tag value (Needs awaiting ∷ k) e w c nested well (shared, fits, word, x, o, here, x_is, o_is, a, rest, less, same, facts, stand) =
      silently source pages calls (Running (Throwing tag value) (Needs awaiting ∷ k) e w) (Running (Throwing tag value) k e w) (plain.Running c) refl
      (shared_less source (scopes_of source) pages calls awaiting k e w c shared, fits, word, x, o, here, x_is, o_is, a, rest, less, same, facts, caught_by source a rest k stand)
      (omega arith)
  throwing tag value (Discard ∷ k) e w c nested well (shared, fits, word, x, o, here, x_is, o_is, a, rest, less, same, facts, stand) =
      silently source pages calls (Running (Throwing tag value) (Discard ∷ k) e w) (Running (Throwing tag value) k e w) (plain.Running c) refl
      (shared, fits, word, x, o, here, x_is, o_is, a, rest, less, same, facts, caught_by source a rest k stand)
      (omega arith)
  throwing tag value (Rest js ∷ k) e w c nested well (shared, fits, word, x, o, here, x_is, o_is, a, rest, less, same, facts, stand) =
      silently source pages calls (Running (Throwing tag value) (Rest js ∷ k) e w) (Running (Throwing tag value) k e w) (plain.Running c) refl
      (shared, fits, word, x, o, here, x_is, o_is, a, rest, less, same, facts, caught_by source a rest k stand)
      (omega arith)
  throwing tag value (Join ∷ k) e w c nested well (shared, fits, word, x, o, here, x_is, o_is, a, rest, less, same, facts, stand) =
      silently source pages calls (Running (Throwing tag value) (Join ∷ k) e w) (Running (Throwing tag value) k e w) (plain.Running c) refl
      (shared, fits, word, x, o, here, x_is, o_is, a, rest, less, same, facts, caught_by source a rest k stand)
      (omega arith)
  throwing tag value (Loop condition body ∷ k) e w c nested well (shared, fits, word, x, o, here, x_is, o_is, a, rest, less, same, facts, stand) =
      silently source pages calls (Running (Throwing tag value) (Loop condition body ∷ k) e w) (Running (Throwing tag value) k e w) (plain.Running c) refl
      (shared, fits, word, x, o, here, x_is, o_is, a, rest, less, same, facts, caught_by source a rest k stand)
      (omega arith)
  throwing tag value (CloseRegion region home ∷ k) e w c nested well (shared, fits, word, x, o, here, x_is, o_is, a, rest, less, same, facts, stand) =
      let found = is_closed (Throwing tag value) region home k e w well in
      silently source pages calls (Running (Throwing tag value) (CloseRegion region home ∷ k) e w) (Running (Throwing tag value) k (record e { home = home }) (closed w region found.region)) (plain.Running c) found.gives
      (shared_closed source (scopes_of source) pages calls k e w c region home found.region found.there shared, fits, word, x, o, here, x_is, o_is, a, rest, less, same, facts, caught_by source a rest k stand)
      (omega arith)
  throwing tag value (Caller outer ∷ k) e w c nested well (shared, fits, word, x, o, here, x_is, o_is, a, [], less, same, facts, (none, stand)) = absurd stand
  throwing tag value (Caller outer ∷ k) e w c nested well (shared, fits, word, x, o, here, x_is, o_is, a, f ∷ rest, less, same, facts, (none, stand)) =
      silently source pages calls (Running (Throwing tag value) (Caller outer ∷ k) e w) (Running (Throwing tag value) k outer w) (plain.Running c) refl (
        shared_left source (scopes_of source) pages calls k e outer w c shared,
        omega (arith, fits),
        word,
        x,
        o,
        here,
        x_is,
        o_is,
        f.caller,
        rest,
        omega (arith, less),
        same ∙ ap (λ (handlers : List plain.Handler). lands c tag value a (f ∷ rest) (throws c tag value f.caller rest) handlers) none,
        data_returned shared.tables source a.function a.base w.objects e.locals (record { locals = outer.locals; temporaries = after_records k; values = held k }) (callers k) a.slots f.caller.slots c.globals f rest (λ n short. refl) facts,
        caught_by source f.caller rest k stand,
      )
      (omega arith)
  throwing tag value (NeedsPlace awaiting ∷ k) e w c nested well (shared, fits, word, x, o, here, x_is, o_is, a, rest, less, same, facts, stand) =
      silently source pages calls (Running (Throwing tag value) (NeedsPlace awaiting ∷ k) e w) (Running (Throwing tag value) k e w) (plain.Running c) refl
      (shared, fits, word, x, o, here, x_is, o_is, a, rest, less, same, facts, caught_by source a rest k stand)
      (omega arith)
  throwing tag value (CloseLexical region ∷ k) e w c nested well (shared, fits, word, x, o, here, x_is, o_is, a, rest, less, same, facts, (marked, stand)) =
      let ends = ends-newest region k e w nested in
      let has = may_have (scopes_of source) (λ none. by_none none shared) in
      silently source pages calls (Running (Throwing tag value) (CloseLexical region ∷ k) e w) (Running (Throwing tag value) k e (closed w region ends.region)) (plain.Running c)
      (ap (λ (found : Access Region). closing_lexical found (Throwing tag value) region k e w) ends.found)
      (shared_after source pages calls (scopes_of source) region k e w c ends has has shared, fits, word, x, o, here, x_is, o_is, a, rest, less, same, facts, caught_by source a rest k stand)
      (omega arith)
    where
      by_none : scopes_of source ≡ None → SharedBy source (scopes_of source) pages calls (CloseLexical region ∷ k) e w c → ⊥
      by_none none s =
          let may : MayBeOpen (scopes_of source) (suc (scopes_in k)) =
          (subst (λ (closing : Option ℕ). SharedBy source closing pages calls (CloseLexical region ∷ k) e w c) none s).counters.1 in
          let many : suc (scopes_in k) ≡ 0 = subst (λ (scopes : Option ℕ). MayBeOpen scopes (suc (scopes_in k))) none may in
          omega (arith, many)
  throwing tag value (EndLoan lent ∷ k) e w c nested well (shared, fits, word, x, o, here, x_is, o_is, a, rest, less, same, facts, stand) =
      silently source pages calls (Running (Throwing tag value) (EndLoan lent ∷ k) e w) (Running (Throwing tag value) k e w) (plain.Running c) refl
      (shared, fits, word, x, o, here, x_is, o_is, a, rest, less, same, facts, caught_by source a rest k stand)
      (omega arith)
  throwing tag value (Handler handler ∷ k) e w c nested well (shared, fits, word, x, o, here, x_is, o_is, a, rest, less, same, facts, stand) =
      comes_to tag value handler k e w c x o a rest (scopes-counted (Handler handler ∷ k) e w nested) shared word here x_is o_is less same facts stand
  throwing tag value (Main ∷ []) e w c nested well (shared, fits, word, x, o, here, x_is, o_is, a, [], less, same, facts, (none, last)) =
      silently source pages calls (Running (Throwing tag value) (Main ∷ []) e w) (Running (Throwing tag value) [] e w) (plain.Running c) refl
      (shared, omega (arith, fits), word, x, o, here, x_is, o_is, a, [], less, same, facts, (none, refl))
      (omega arith)
  throwing tag value (Main ∷ entry ∷ k) e w c nested well (shared, fits, word, x, o, here, x_is, o_is, a, [], less, same, facts, (none, last)) = absurd last
  throwing tag value (Main ∷ k) e w c nested well (shared, fits, word, x, o, here, x_is, o_is, a, f ∷ rest, less, same, facts, (none, last)) = absurd last

  -- ---- the clauses of a handler

  -- A `catch` clause catches the exception, and its local receives the exception's int.
  caught_at : (value : ℕ) (x : Option ℕ) (js : Items) (k : List Entry) (e : Environment) (w : World) (c : Configuration) (exits : Exits) (m u q : ℕ)
      → (shared : SharedAt source pages calls k e w c) → DataIn source shared.tables c.active.slots k e w c
      → CaughtAt (code_of source c.active.function) (bounds_at source c.active.function) (types_at source c.active.function) x (floor source c.active.function k) c.active.next m
      → c.active.slots (floor source c.active.function k + 1) ≡ value
      → ItemsAt (code_of source c.active.function) (bounds_at source c.active.function) (types_at source c.active.function) js exits (floor source c.active.function k) m u
      → Arrives source (code_of source c.active.function) u q → StatementStack source c.active.function exits q c.frames k
      → Matches source pages calls (catches value x js k e w) (plain.Running c)
  caught_at value None js k e w c exits m u q shared facts end value_is items comes stack = (
    shared_opened source pages calls k e w c shared,
    following_statement exits
        (data_grows shared.tables (with_handle shared.tables None) (Grows-handle shared.tables None) source c.active.function c.active.base w.objects e.locals (callers k) c.active.slots c.globals c.frames facts.0, facts.1)
        (u, subst (λ p. ItemsAt (code_of source c.active.function) (bounds_at source c.active.function) (types_at source c.active.function) js exits (floor source c.active.function k) p u) (sym end) items, (q, comes, stack)),
  )
  caught_at value (Some n) js k e w c exits m u q shared facts (few, room, move, end) value_is items comes stack =
      let g = c.active.function in (
        shared_opened source pages calls k e w c shared,
        (data_grows shared.tables (with_handle shared.tables None) (Grows-handle shared.tables None) source g c.active.base w.objects e.locals (callers k) c.active.slots c.globals c.frames facts.0, facts.1),
        (
          exits,
          u,
          operands.Slot (floor source g k + 1),
          move,
          value_is,
          room-inside (types_at source g) n kinds.Int room.0,
          room,
          subst (λ p. ItemsAt (code_of source g) (bounds_at source g) (types_at source g) js exits (floor source g k) p u) (sym end) items,
          (q, comes, stack),
        ),
      )

  reported : (slots : Words) (t tag caught : ℕ) → IsNumber caught → slots t ≡ tag → compares comparisons.NotEqual (slots t) (caught % 2 ^ 32) ≡ not (caught == tag)
  reported slots t tag caught small tag_is =
      let own : caught % 2 ^ 32 ≡ caught = omega (arith, small) in
      ap (λ n. not (n == (caught % 2 ^ 32))) tag_is ∙ ap (λ n. not (tag == n)) own ∙ ap not (eqb_turned caught tag)

  pub catching : (tag value : ℕ) (handler : Clauses) (k : List Entry) (e : Environment) (w : World) (c : Configuration) → IsStep source pages calls (Catching tag value handler) k e w c
  catching tag value NoClauses k e w c well (shared, facts, (exits, out, q, here, over, stack, word, tag_is, value_is)) =
      let t = floor source c.active.function k in
      silently source pages calls (Running (Catching tag value NoClauses) k e w) (Running (Throwing tag value) k e w) (plain.Running c) refl
      (raised source pages calls tag value k e w c (operands.Slot t) (operands.Slot (t + 1)) word shared facts here tag_is value_is)
      (omega arith)
  catching tag value (Default r js) k e w c well (shared, facts, (exits, out, q, items, over, stack, word, tag_is, value_is)) =
      silently source pages calls (Running (Catching tag value (Default r js)) k e w) (catches value None js k e w) (plain.Running c) refl
      (caught_at value None js k e w c exits c.active.next q q shared facts refl value_is items (in_place refl) stack)
      (omega arith)
  catching tag value (Case caught x r js later) k e w c well (shared, facts, (exits, out, q, (m, u, small, jump, at_x, items, leave, following, rest), over, stack, word, tag_is, value_is)) =
      by (caught == tag) refl
    where
      by : (b : Bool) → (caught == tag) ≡ b → IsMatched source pages calls (Running (Catching tag value (Case caught x r js later)) k e w) (plain.Running c)
      by true equal =
          by_one source pages calls (ap (λ (b : Bool). if b then catches value x js k e w else Running (Catching tag value later) k e w) equal) shared jump
          (λ choice. not_taken source pages calls (catches value x js k e w) c _ (u + 1) (reported c.active.slots (floor source c.active.function k) tag caught small tag_is ∙ ap not equal)
          (caught_at value x js k e w (at c (c.active.next + 1)) exits m u q shared facts at_x value_is items (by_jumps out following leave over) stack))
      by false other =
          by_one source pages calls (ap (λ (b : Bool). if b then catches value x js k e w else Running (Catching tag value later) k e w) other) shared jump
          (λ choice. taken source pages calls (Running (Catching tag value later) k e w) c _ (u + 1) (reported c.active.slots (floor source c.active.function k) tag caught small tag_is ∙ ap not other)
          (shared, facts, (exits, out, q, rest, over, stack, word, tag_is, value_is)))
