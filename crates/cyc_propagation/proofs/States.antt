-- States of a run in which the facts of the tables are true, for the active call and for the waiting calls.
use Rattle.std.proofs.Common.{◌≡◌, ℕ, suc, ◌<◌, Bool, true, false, List, [], ◌∷◌, length, Option, Some, None, refl, sym, ap, subst, ◌∙◌}
use Rattle.std.specs.Prelude.{slice_index}
use Rattle.cyc_words.proofs.Items.{below_from_slice_get}
use Rattle.cyc_store.specs.State.{StoreState}
use Rattle.cyc_plain.specs.declared.instruction.Instruction.{Instruction}
use Rattle.cyc_plain.specs.declared.instruction.Instruction.TheVariants as instructions
use Rattle.cyc_plain.specs.inside.Program.{Program, routine_at}
use Rattle.cyc_plain.specs.inside.State.{Words, put, Handler, Open, Caught, Activation, Frame, Configuration, State, Running, Ended, Stuck}
use Rattle.cyc_plain.specs.inside.Memory.{is_pinned, slot_at, put_or, with_waiting}
use Rattle.cyc_plain.specs.inside.Step.{start}
use Rattle.cyc_plain.proofs.MemoryLaws.{numbered-from}
use Rattle.cyc_plain.proofs.SlotLaws.{put-other}
use Rattle.cyc_plain.specs.inside.Uses.{At}
use Rattle.cyc_propagation.specs.declared.fact.Fact.{Fact}
use Rattle.cyc_propagation.specs.declared.fact.Touched.TheVariants as touches
use Rattle.cyc_propagation.specs.inside.Facts.{scene_of, AreTrueIn, is_free, are_suited, kept}
use Rattle.cyc_propagation.specs.inside.Table.{IsReplaced}
use Rattle.cyc_propagation.proofs.Truth.{suited_true, kept_suited, AreTrueAlone}

-- `HasGlobal` says that the global that an instruction loads or stores exists.
abbrev pub HasGlobal : Program → Instruction → Type 0
HasGlobal program (instructions.LoadGlobal destination global) = global < length program.globals
HasGlobal program (instructions.StoreGlobal global source) = global < length program.globals
HasGlobal program i = Unit {0}

module _ (program simplified : Program) (replaced : (function : ℕ) → IsReplaced program (routine_at program function) (routine_at simplified function)) where
  -- Returns the facts known at a position of a function's code.
  abbrev pub facts_in : (function index : ℕ) → List Fact
  facts_in function index = (replaced function).table index

  abbrev pub pins_in : (function : ℕ) → List Bool
  pins_in function = (replaced function).pinned

  -- `AreOpen` says that no fact is required where exceptions reach the open handlers.
  abbrev pub AreOpen : (function : ℕ) → List Handler → Type 0
  AreOpen function [] = Unit {0}
  AreOpen function (Open index first contents ∷ handlers) = (facts_in function index ≡ []) × AreOpen function handlers
  AreOpen function (Caught ∷ handlers) = AreOpen function handlers

  -- `Stands` describes a call that waits for this callee: the facts known at its call instruction are true in its slots.
  pub record Stands (callee : ℕ) (f : Frame) : Type 0 where
    pub index : ℕ
    pub arguments : ℕ
    pub count : ℕ
    pub following : f.caller.next ≡ suc index
    pub at : At (routine_at simplified f.caller.function) index (instructions.Call callee arguments count f.result)
    pub holds : AreTrueAlone f.caller.slots (facts_in f.caller.function index)
    pub open_handlers : AreOpen f.caller.function f.caller.handlers

  abbrev pub AreWaiting : (callee : ℕ) → List Frame → Type 0
  AreWaiting callee [] = Unit {0}
  AreWaiting callee (f ∷ frames) = Stands callee f × AreWaiting f.caller.function frames

  abbrev pub IsKnown : State → Type 0
  IsKnown (Running c) =
      AreTrueIn (scene_of program c) (facts_in c.active.function c.active.next)
      × AreOpen c.active.function c.active.handlers
      × AreWaiting c.active.function c.frames
  IsKnown (Ended ending output input) = Unit {0}
  IsKnown (Stuck output input) = Unit {0}

  pub suited_at : (function index : ℕ) (i : Instruction) → At (routine_at simplified function) index i → are_suited (pins_in function) (facts_in function index) ≡ true
  suited_at function index i at = (replaced function).is_table.suited index (below_from_slice_get (routine_at simplified function).code index i at)

  pub free_unnamed : (function slot : ℕ) → is_free (pins_in function) slot ≡ true → is_pinned (routine_at program function).code slot ≡ false
  free_unnamed function slot free = (replaced function).pins.right slot free

  -- A store to a slot whose address is taken preserves the facts known in the function.
  pinned_put : (function : ℕ) (slots : Words) (slot word : ℕ) → is_pinned (routine_at program function).code slot ≡ true → (index : ℕ) (i : Instruction)
      → At (routine_at simplified function) index i → AreTrueAlone slots (facts_in function index) → AreTrueAlone (put slots slot word) (facts_in function index)
  pinned_put function slots slot word pinned index i at holds = λ memory.
      suited_true (record { slots = slots; memory = memory }) (record { slots = put slots slot word; memory = memory }) (pins_in function)
      (λ number free. put-other slots slot number word (λ same. both number free same)) (λ address. refl)
      (kept (record { first = 0; count = 0 }) touches.All (facts_in function index))
      (kept_suited (pins_in function) (record { first = 0; count = 0 }) touches.All (facts_in function index) (suited_at function index i at)) (holds memory)
    where
      both : (number : ℕ) → is_free (pins_in function) number ≡ true → number ≡ slot → ⊥
      both number free same =
          let e : false ≡ true =
          sym (free_unnamed function number free) ∙ ap (is_pinned (routine_at program function).code) same ∙ pinned in cc

  slot_pinned : (a : Activation) (address slot : ℕ) → slot_at program a address ≡ Some slot → is_pinned (routine_at program a.function).code slot ≡ true
  slot_pinned a address slot at = (numbered-from (is_pinned (routine_at program a.function).code) a.base address slot at).1

  pub waiting_written : (callee : ℕ) (frames : List Frame) (address word : ℕ) → AreWaiting callee frames → AreWaiting callee (with_waiting program frames address word)
  waiting_written callee [] address word waiting = tt
  waiting_written callee (f ∷ frames) address word (first, rest) =
      go (slot_at program f.caller address) refl (waiting_written f.caller.function frames address word rest)
    where
      go : (slot : Option ℕ) → slot_at program f.caller address ≡ slot → AreWaiting f.caller.function (with_waiting program frames address word)
          → AreWaiting callee (put_or slot word f frames (with_waiting program frames address word))
      go (Some slot) at others = (
        record {
          index = first.index;
          arguments = first.arguments;
          count = first.count;
          following = first.following;
          at = first.at;
          holds = pinned_put f.caller.function f.caller.slots slot word (slot_pinned f.caller address slot at) first.index _ first.at first.holds;
          open_handlers = first.open_handlers;
        },
        rest,
      )
      go None at others = (first, others)

  -- Returns the initial configuration of a run.
  abbrev beginning : (base : ℕ) → StoreState → List ℕ → Configuration
  beginning base store input = record {
    active = record { function = program.main; next = 0; base = base; slots = λ (slot : ℕ). 0; handlers = [] };
    frames = [];
    globals = λ (global : ℕ). slice_index program.globals global;
    store = store;
    output = [];
    input = input;
  }

  -- The facts known at the entry of `main` are true in the initial state.
  pub known_start : (base : ℕ) (store : StoreState) (input : List ℕ) → IsKnown (start program base store input)
  known_start base store input = (
    subst (AreTrueIn (scene_of program (beginning base store input))) (sym (replaced program.main).is_table.first) tt,
    tt,
    tt,
  )
