-- This file proves the steps of returns and of the end of a call.
use Rattle.std.proofs.Common.{◌≡◌, ℕ, zero, suc, ◌≤◌, false, List, [], ◌∷◌, length, map, slice_index_or, Option, None, Some, slice_get, refl, sym, ap, subst, ◌∙◌, arith, inr}
use Rattle.cyc_words.specs.Word.{signed}
use Rattle.cyc_words.specs.Ending.{Returned}
use Rattle.cyc_types.specs.declared.typed.Kind.{Kind}
use Rattle.cyc_types.specs.TypedTrees.{Function, Program}
use Rattle.cyc_plain.specs.declared.instruction.Operand.TheVariants as operands
use Rattle.cyc_plain.specs.declared.instruction.Instruction.TheVariants as instructions
use Rattle.cyc_plain.specs.inside.Program.{no_routine, routine_at}
use Rattle.cyc_store.specs.State.{StoreState}
use Rattle.cyc_plain.specs.inside.State as plain
use Rattle.cyc_plain.specs.inside.State.{Words, copied, Activation, Frame, Configuration}
use Rattle.cyc_plain.specs.inside.Step.{Choice, performed}
use Rattle.cyc_plain.specs.inside.Step as plain_step
use Rattle.cyc_plain.proofs.SlotLaws.{copied-below}
use Rattle.cyc_plain.specs.inside.Straight.{At}
use Rattle.cyc_meaning.specs.Values.{Value, Int, Operand as Kinded, words_of_kind}
use Rattle.cyc_meaning.specs.State.{Access, Region, World, Environment, closed, Entry, Needs, NeedsPlace, Discard, Rest, Join, Loop, CloseRegion, CloseLexical, EndLoan, Handler, Caller, Main, Focus, Given, Proceeding, Returning, Running, Ended, State}
use Rattle.cyc_meaning.specs.inside.Nesting.{IsNested}
use Rattle.cyc_meaning.specs.Regions.{closing_lexical}
use Rattle.cyc_meaning.specs.Step.{step}
use Rattle.cyc_lower_proof.proofs.slots.Widths.{Outside}
use Rattle.cyc_lower_proof.proofs.relation.contents.Moves.{copied_is, copied_elsewhere}
use Rattle.cyc_lower_proof.specs.inside.Lowering.{scopes_of, results_of, lower_function, lower_program, globals_of}
use Rattle.cyc_memory_relation.specs.inside.Tables.{Tables}
use Rattle.cyc_memory_relation.specs.inside.Related.{scopes}
use Rattle.cyc_memory_relation.specs.inside.Words.{Is}
use Rattle.cyc_lower_proof.proofs.relation.contents.Sharing.{shared_closed}
use Rattle.cyc_lower_proof.proofs.relation.contents.HeldValues.{kept, Holds, held, callers, homes, after_records}
use Rattle.cyc_lower_proof.proofs.relation.simulation.Relation.{CountsBy, SharedAt, in_operand, ahead, following_call, following_wrong, HandlersStand, Matches}
use Rattle.cyc_lower_proof.proofs.relation.simulation.Stacks.{opened_by, returned_at, DataAt, in_temporary, in_local, LandsStack, Below, IsLast, code_of, bounds_in, bounds_at, top, floor}
use Rattle.cyc_lower_proof.proofs.relation.simulation.Shared.{shared_seen, Shared}
use Rattle.cyc_lower_proof.proofs.relation.contents.Data.{height-least, Holds-same, Holds-above, data_returned, held_by_caller}
use Rattle.cyc_lower_proof.proofs.relation.contents.HandlerData.{floor-least, handlers_same, calls_counted}
use Rattle.cyc_lower_proof.proofs.value_steps.ValueWords.{int_at}
use Rattle.cyc_lower_proof.proofs.relation.simulation.Accesses.{IsWell, is_closed}
use Rattle.cyc_lower_proof.proofs.object_steps.Handles.{kept_holds}
use Rattle.cyc_lower_proof.proofs.region_steps.WaysOut.{leaves_region}
use Rattle.cyc_lower_proof.proofs.relation.simulation.Matched.{IsMatched, silently, by_one}
use Rattle.cyc_lower_proof.proofs.value_steps.Landings.{IsStep}

module _ (source : Program) (pages calls : ℕ) where
  -- The invariant that the source run and the lowered run share still holds after a return, when one call fewer waits for its callee.
  abbrev pub shared_returned : (w : World) (regions : List ℕ) (counting : Type 0) (output input : List ℕ) (store : StoreState) (home waiting : ℕ) → Shared pages calls w (home ∷ regions) counting output input store (suc waiting)
      → Shared pages calls w regions counting output input store waiting
  shared_returned w regions counting output input store home waiting s = record {
    tables = s.tables;
    same_output = s.same_output;
    same_input = s.same_input;
    same_pages = s.same_pages;
    related = s.related;
    globals = s.globals;
    variables = s.variables.1;
    few_pages = s.few_pages;
    fits = omega (arith, s.fits);
    counters = s.counters;
  }

  -- The invariant of a caller that waits for the return of its callee.
  abbrev pub Waits : Kind → Environment → List Entry → Frame → List Frame → Type 0
  Waits kind outer k f rest = LandsStack source f.caller.function outer.locals kind f.result f.caller.next rest k

  -- After a call returns, the caller continues, with the returned words written to a temporary.
  comes_back : (t : Tables) (g from value results : ℕ) (slots globals : Words) (f : Frame) (frames : List Frame) (k : List Entry) (locals : ℕ → Option ℕ) (outer : Environment) (w : World)
      → DataAt source t g from w.objects locals (callers (Caller outer ∷ k)) slots globals (f ∷ frames)
      → HandlersStand source f.caller.function f.caller.slots f.caller.handlers frames k
      → top source f.caller.function k ≤ f.result
      → (DataAt source t f.caller.function f.caller.base w.objects outer.locals (callers k) (copied slots value results f.caller.slots f.result) globals frames
      × HandlersStand source f.caller.function (copied slots value results f.caller.slots f.result) f.caller.handlers frames k)
      × Holds t (copied slots value results f.caller.slots f.result) (floor source f.caller.function k) (held k)
  comes_back t g from value results slots globals f frames k locals outer w facts stand least =
      let now = copied slots value results f.caller.slots f.result in
      let base = floor source f.caller.function k in
      let holds = held_by_caller t source g from w.objects locals (record { locals = outer.locals; temporaries = after_records k; values = held k }) (callers k) slots globals f frames facts in (
        (
          data_returned t source g from w.objects locals (record { locals = outer.locals; temporaries = after_records k; values = held k }) (callers k) slots now globals f frames
              (λ n less. copied-below slots f.caller.slots value results f.result n (omega (arith, less, least, height-least base (held k), floor-least source f.caller.function k))) facts,
          handlers_same source f.caller.function f.caller.slots now f.caller.handlers frames k
              (λ n from less. copied-below slots f.caller.slots value results f.result n (omega (arith, less, least, height-least base (held k)))) stand,
        ),
        Holds-same t f.caller.slots (copied slots value results f.caller.slots f.result) base (held k)
            (λ n less. copied-below slots f.caller.slots value results f.result n (omega (arith, less, least))) holds,
      )

  -- When a call returns, no exception handler of this call is open.
  finished : (next : State) (c : Configuration) (s : ℕ) (choice : Choice) → c.active.handlers ≡ []
      → Matches source pages calls next (plain_step.returns c s (routine_at (lower_program source) c.active.function).results c.frames)
      → Matches source pages calls next (performed (lower_program source) choice c (instructions.Finish s))
  finished next c s choice none m =
      subst (λ (handlers : List plain.Handler). Matches source pages calls next (plain_step.finishes c s (routine_at (lower_program source) c.active.function).results handlers)) (sym none) m

  -- The step of a return without a value.
  pub leaves_call : (focus : Focus) (active : Activation) (frames : List Frame) (globals : Words) (store : StoreState) (output input : List ℕ) (k : List Entry) (e outer : Environment) (w : World) (s : ℕ)
      → step source (Running focus (Caller outer ∷ k) e w) ≡ Running Proceeding k outer w
      → (shared : SharedAt source pages calls (Caller outer ∷ k) e w (record { active = active; frames = frames; globals = globals; store = store; output = output; input = input }))
      → DataAt source shared.tables active.function active.base w.objects e.locals (callers (Caller outer ∷ k)) active.slots globals frames × HandlersStand source active.function active.slots active.handlers frames (Caller outer ∷ k)
      → At (code_of source active.function) active.next (instructions.Finish s)
      → Below source frames (Waits (returned_at source active.function) outer k)
      → IsMatched source pages calls (Running focus (Caller outer ∷ k) e w) (plain.Running (record { active = active; frames = frames; globals = globals; store = store; output = output; input = input }))
  leaves_call focus active [] globals store output input k e outer w s does shared facts here below = absurd below
  leaves_call focus active (f ∷ frames) globals store output input k e outer w s does shared (facts, (none, stand)) here (in_temporary least stack) =
      let c : Configuration = record { active = active; frames = f ∷ frames; globals = globals; store = store; output = output; input = input } in
      let results = (routine_at (lower_program source) active.function).results in
      let back = comes_back shared.tables active.function active.base s results active.slots globals f frames k e.locals outer w facts stand least in
      by_one source pages calls does shared here
      (λ choice. finished (Running Proceeding k outer w) c s choice none
      (shared_returned w (outer.home ∷ homes k) (CountsBy source None outer k store (scopes w.regions)) output input store e.home (length frames) shared, following_call (returned_at source active.function) (operands.Slot f.result) back.0 stack))
  leaves_call focus active (f ∷ frames) globals store output input k e outer w s does shared (facts, (none, stand)) here (in_local below stack) =
      let c : Configuration = record { active = active; frames = f ∷ frames; globals = globals; store = store; output = output; input = input } in
      by_one source pages calls does shared here
      (λ choice. finished (Running Proceeding k outer w) c s choice none
      (shared_returned w (outer.home ∷ homes k) (CountsBy source None outer k store (scopes w.regions)) output input store e.home (length frames) shared, following_wrong (returned_at source active.function) f.result (calls_counted source f.caller.function f.caller.slots f.caller.handlers frames k stand) stack))

  -- The step of a return with a value.
  hands_back : (v : Kinded) (active : Activation) (frames : List Frame) (globals : Words) (store : StoreState) (output input : List ℕ) (k : List Entry) (e outer : Environment) (w : World) (s : ℕ)
      → (shared : SharedAt source pages calls (Caller outer ∷ k) e w (record { active = active; frames = frames; globals = globals; store = store; output = output; input = input }))
      → DataAt source shared.tables active.function active.base w.objects e.locals (callers (Caller outer ∷ k)) active.slots globals frames × HandlersStand source active.function active.slots active.handlers frames (Caller outer ∷ k)
      → At (code_of source active.function) active.next (instructions.Finish s) → Is shared.tables v.kind v.value active.slots s → (routine_at (lower_program source) active.function).results ≡ words_of_kind v.kind
      → Below source frames (Waits v.kind outer k)
      → IsMatched source pages calls (Running (Returning (Some v)) (Caller outer ∷ k) e w) (plain.Running (record { active = active; frames = frames; globals = globals; store = store; output = output; input = input }))
  hands_back v active [] globals store output input k e outer w s shared facts here is wide below = absurd below
  hands_back v active (f ∷ frames) globals store output input k e outer w s shared (facts, (none, stand)) here is wide (in_temporary least stack) =
      let c : Configuration = record { active = active; frames = f ∷ frames; globals = globals; store = store; output = output; input = input } in
      let results = (routine_at (lower_program source) active.function).results in
      let back = comes_back shared.tables active.function active.base s results active.slots globals f frames k e.locals outer w facts stand least in
      by_one source pages calls refl shared here
      (λ choice. finished (Running (Given v) k outer w) c s choice none (
        shared_returned w (outer.home ∷ homes k) (CountsBy source None outer k store (scopes w.regions)) output input store e.home (length frames) shared,
        in_operand (operands.Slot f.result) back.0 (copied_is shared.tables v active.slots f.caller.slots s results f.result (omega (arith, wide)) is) (kept_holds _ _ _ k back.1) stack,
      ))
  hands_back v active (f ∷ frames) globals store output input k e outer w s shared (facts, (none, stand)) here is wide (in_local below stack) =
      let c : Configuration = record { active = active; frames = f ∷ frames; globals = globals; store = store; output = output; input = input } in
      let results = (routine_at (lower_program source) active.function).results in
      let base = floor source f.caller.function k in
      let d = f.result in
      let holds = held_by_caller shared.tables source active.function active.base w.objects e.locals (record { locals = outer.locals; temporaries = after_records k; values = held k }) (callers k) active.slots globals f frames facts in
      let now = copied active.slots s results f.caller.slots d in
      let elsewhere : (n : ℕ) → Outside d (words_of_kind v.kind) n → now n ≡ f.caller.slots n =
      λ n out. copied_elsewhere active.slots f.caller.slots s results d n (subst (λ many. Outside d many n) (sym wide) out) in
      by_one source pages calls refl shared here
      (λ choice. finished (Running (Given v) k outer w) c s choice none (
        shared_returned w (outer.home ∷ homes k) (CountsBy source None outer k store (scopes w.regions)) output input store e.home (length frames) shared,
        ahead d (
          f.caller.slots,
          λ n out. sym (elsewhere n out),
          (
            data_returned shared.tables source active.function active.base w.objects e.locals (record { locals = outer.locals; temporaries = after_records k; values = held k }) (callers k) active.slots f.caller.slots globals f frames (λ n less. refl) facts,
            stand,
          ),
        )
            (copied_is shared.tables v active.slots f.caller.slots s results d (omega (arith, wide)) is)
            (Holds-above shared.tables f.caller.slots now base (kept k) (λ n from. elsewhere n (inr (omega (arith, from, below, floor-least source f.caller.function k)))) (kept_holds _ _ _ k holds))
            stack,
      ))

  -- The code of a function returns as many words as the function's signature says.
  results_in : (hs : List Function) (g : ℕ) → (slice_index_or (map (lower_function source.structs (globals_of source) (scopes_of source)) hs) g no_routine).results ≡ results_of (bounds_in source (slice_get hs g)).result
  results_in [] g = refl
  results_in (h ∷ hs) zero = refl
  results_in (h ∷ hs) (suc g) = results_in hs g

  results_at : (g : ℕ) → (routine_at (lower_program source) g).results ≡ results_of (bounds_at source g).result
  results_at g = results_in source.functions g

  -- The run ends when `main` returns while no other call waits.
  ends_main : (i : Kind) (v : Value) (active : Activation) (frames : List Frame) (globals : Words) (store : StoreState) (output input : List ℕ) (k : List Entry) (e : Environment) (w : World) (s : ℕ)
      → IsWell (step source (Running (Returning (Some (record { kind = i; value = v }))) (Main ∷ k) e w))
      → (shared : SharedAt source pages calls (Main ∷ k) e w (record { active = active; frames = frames; globals = globals; store = store; output = output; input = input }))
      → active.handlers ≡ [] → At (code_of source active.function) active.next (instructions.Finish s) → Is shared.tables i v active.slots s → IsLast source frames k
      → IsMatched source pages calls (Running (Returning (Some (record { kind = i; value = v }))) (Main ∷ k) e w) (plain.Running (record { active = active; frames = frames; globals = globals; store = store; output = output; input = input }))
  ends_main i (Int a) active [] globals store output input [] e w s well shared closed here is last =
      by_one source pages calls refl shared here
      (λ choice. finished (Ended (Returned (signed a)) w.output w.input) (record { active = active; frames = []; globals = globals; store = store; output = output; input = input }) s choice closed
      (ap (λ x. Returned (signed x)) (int_at shared.tables i a active.slots s is), shared_seen shared))
  ends_main i (Int a) active [] globals store output input (entry ∷ k) e w s well shared closed here is last = absurd last
  ends_main i (Int a) active (f ∷ frames) globals store output input k e w s well shared closed here is last = absurd last
  ends_main i v active frames globals store output input k e w s well shared closed here is last = absurd (well refl)

  returning_none : (k : List Entry) (e : Environment) (w : World) (c : Configuration) → IsNested k e w → IsStep source pages calls (Returning None) k e w c
  returning_none [] e w c nested well related = absurd (well refl)
  returning_none (Needs a ∷ k) e w c nested well (shared, facts, r, marks, marked, (exits, q, s, here, stack)) = absurd stack
  returning_none (Discard ∷ k) e w c nested well (shared, facts, r, marks, marked, (exits, q, s, here, stack)) = absurd stack
  returning_none (Rest js ∷ k) e w c nested well (shared, facts, r, marks, marked, (exits, q, s, here, (u, items, stack))) =
      silently source pages calls (Running (Returning None) (Rest js ∷ k) e w) (Running (Returning None) k e w) (plain.Running c) refl (shared, facts, r, marks, marked, (exits, u, s, here, stack)) (omega arith)
  returning_none (Join ∷ k) e w c nested well (shared, facts, r, marks, marked, (exits, q, s, here, (u, arrives, stack))) =
      silently source pages calls (Running (Returning None) (Join ∷ k) e w) (Running (Returning None) k e w) (plain.Running c) refl (shared, facts, r, marks, marked, (exits, u, s, here, stack)) (omega arith)
  returning_none (Loop a b ∷ k) e w c nested well (shared, facts, r, marks, marked, (exits, q, s, here, (outer, u, around, stack))) =
      silently source pages calls (Running (Returning None) (Loop a b ∷ k) e w) (Running (Returning None) k e w) (plain.Running c) refl (shared, facts, r, marks, marked, (outer, u, s, here, stack)) (omega arith)
  returning_none (CloseRegion region home ∷ k) e w c nested well (shared, facts, r, marks, marked, (exits, q, s, here, (u, comes, stack))) =
      let found = is_closed (Returning None) region home k e w well in
      silently source pages calls (Running (Returning None) (CloseRegion region home ∷ k) e w) (Running (Returning None) k (record e { home = home }) (closed w region found.region)) (plain.Running c) found.gives
      (shared_closed source (opened_by source false c.active.function k).mark pages calls k e w c region home found.region found.there shared, facts, r, marks, marked, (exits, u, s, here, stack))
      (omega arith)
  returning_none (Caller outer ∷ k) e w c nested well (shared, facts, r, end, marked, (exits, q, s, here, (u, last, outside, below))) =
      leaves_call (Returning None) c.active c.frames c.globals c.store c.output c.input k e outer w s refl shared facts
      (subst (λ n. At (code_of source c.active.function) n (instructions.Finish s)) (sym end) here) below
  returning_none (NeedsPlace a ∷ k) e w c nested well (shared, facts, r, marks, marked, (exits, q, s, here, stack)) = absurd stack
  returning_none (CloseLexical region ∷ k) e w c nested well (shared, facts, r, marks, marked, (exits, q, s, here, (outer, u, is_inside, closing, stack))) =
      leaves_region source pages calls false (Returning None) region k e w c (λ r found. ap (λ (a : Access Region). closing_lexical a (Returning None) region k e w) found) (λ v. omega arith) (λ v d leaves. leaves) nested shared facts r marks marked
      (outer, u, s, here, stack)
  returning_none (EndLoan lent ∷ k) e w c nested well (shared, facts, r, marks, marked, (exits, q, s, here, stack)) =
      silently source pages calls (Running (Returning None) (EndLoan lent ∷ k) e w) (Running (Returning None) k e w) (plain.Running c) refl (shared, facts, r, marks, marked, (exits, q, s, here, stack)) (omega arith)
  returning_none (Handler handler ∷ k) e w c nested well (shared, facts, r, marks, marked, (exits, q, s, here, (outer, u, is_inside, leave, over, stack))) =
      silently source pages calls (Running (Returning None) (Handler handler ∷ k) e w) (Running (Returning None) k e w) (plain.Running c) refl (shared, facts, r, marks, marked, (outer, u, s, here, stack)) (omega arith)
  returning_none (Main ∷ k) e w c nested well related = absurd (well refl)

  returning_some : (v : Kinded) (k : List Entry) (e : Environment) (w : World) (c : Configuration) → IsNested k e w → IsStep source pages calls (Returning (Some v)) k e w c
  returning_some v [] e w c nested well related = absurd (well refl)
  returning_some v (Needs a ∷ k) e w c nested well (shared, facts, r, marks, marked, (exits, q, s, here, is, single, stack)) = absurd stack
  returning_some v (Discard ∷ k) e w c nested well (shared, facts, r, marks, marked, (exits, q, s, here, is, single, stack)) = absurd stack
  returning_some v (Rest js ∷ k) e w c nested well (shared, facts, r, marks, marked, (exits, q, s, here, is, single, (u, items, stack))) =
      silently source pages calls (Running (Returning (Some v)) (Rest js ∷ k) e w) (Running (Returning (Some v)) k e w) (plain.Running c) refl (shared, facts, r, marks, marked, (exits, u, s, here, is, single, stack)) (omega arith)
  returning_some v (Join ∷ k) e w c nested well (shared, facts, r, marks, marked, (exits, q, s, here, is, single, (u, arrives, stack))) =
      silently source pages calls (Running (Returning (Some v)) (Join ∷ k) e w) (Running (Returning (Some v)) k e w) (plain.Running c) refl (shared, facts, r, marks, marked, (exits, u, s, here, is, single, stack)) (omega arith)
  returning_some v (Loop a b ∷ k) e w c nested well (shared, facts, r, marks, marked, (exits, q, s, here, is, single, (outer, u, around, stack))) =
      silently source pages calls (Running (Returning (Some v)) (Loop a b ∷ k) e w) (Running (Returning (Some v)) k e w) (plain.Running c) refl (shared, facts, r, marks, marked, (outer, u, s, here, is, single, stack)) (omega arith)
  returning_some v (CloseRegion region home ∷ k) e w c nested well (shared, facts, r, marks, marked, (exits, q, s, here, is, single, (u, comes, stack))) =
      let found = is_closed (Returning (Some v)) region home k e w well in
      silently source pages calls (Running (Returning (Some v)) (CloseRegion region home ∷ k) e w) (Running (Returning (Some v)) k (record e { home = home }) (closed w region found.region)) (plain.Running c) found.gives
      (shared_closed source (opened_by source false c.active.function k).mark pages calls k e w c region home found.region found.there shared, facts, r, marks, marked, (exits, u, s, here, is, single, stack))
      (omega arith)
  returning_some v (Caller outer ∷ k) e w c nested well (shared, facts, r, end, marked, (exits, q, s, here, is, single, (u, last, outside, below))) =
      hands_back v c.active c.frames c.globals c.store c.output c.input k e outer w s shared facts (subst (λ n. At (code_of source c.active.function) n (instructions.Finish s)) (sym end) here) is
      (results_at c.active.function ∙ single.0) (subst (λ i. Below source c.frames (Waits i outer k)) (sym single.1) below)
  returning_some v (NeedsPlace a ∷ k) e w c nested well (shared, facts, r, marks, marked, (exits, q, s, here, is, single, stack)) = absurd stack
  returning_some v (CloseLexical region ∷ k) e w c nested well (shared, facts, r, marks, marked, (exits, q, s, here, is, single, (outer, u, is_inside, closing, stack))) =
      leaves_region source pages calls false (Returning (Some v)) region k e w c (λ r found. ap (λ (a : Access Region). closing_lexical a (Returning (Some v)) region k e w) found) (λ v. omega arith) (λ v d leaves. leaves) nested shared facts r marks marked
      (outer, u, s, here, is, single, stack)
  returning_some v (EndLoan lent ∷ k) e w c nested well (shared, facts, r, marks, marked, (exits, q, s, here, is, single, stack)) =
      silently source pages calls (Running (Returning (Some v)) (EndLoan lent ∷ k) e w) (Running (Returning (Some v)) k e w) (plain.Running c) refl (shared, facts, r, marks, marked, (exits, q, s, here, is, single, stack)) (omega arith)
  returning_some v (Handler handler ∷ k) e w c nested well (shared, facts, r, marks, marked, (exits, q, s, here, is, single, (outer, u, is_inside, leave, over, stack))) =
      silently source pages calls (Running (Returning (Some v)) (Handler handler ∷ k) e w) (Running (Returning (Some v)) k e w) (plain.Running c) refl (shared, facts, r, marks, marked, (outer, u, s, here, is, single, stack)) (omega arith)
  returning_some v (Main ∷ k) e w c nested well (shared, facts, r, end, marked, (exits, q, s, here, is, single, (u, last, outside, none))) =
      ends_main v.kind v.value c.active c.frames c.globals c.store c.output c.input k e w s well shared facts.1.0
      (subst (λ n. At (code_of source c.active.function) n (instructions.Finish s)) (sym end) here) is none

  pub returning : (v : Option Kinded) (k : List Entry) (e : Environment) (w : World) (c : Configuration) → IsNested k e w → IsStep source pages calls (Returning v) k e w c
  returning None k e w c nested well related = returning_none k e w c nested well related
  returning (Some v) k e w c nested well related = returning_some v k e w c nested well related
