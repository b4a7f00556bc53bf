-- Simulation of an instruction that is replaced by itself, outside inlined calls.
use Rattle.std.proofs.Common.{◌≡◌, ℕ, ◌+◌, false, List, Option, Some, None, refl, sym, ap, subst, ◌∙◌, arith, inl, inr}
use Rattle.std.specs.Prelude.{◌⊎◌}
use Rattle.cyc_store.specs.Services.{Call}
use Rattle.cyc_words.specs.inside.Following.{IsStepped}
use Rattle.cyc_words.proofs.Matching.{by_one}
use Rattle.cyc_plain.specs.declared.instruction.Instruction.{Instruction}
use Rattle.cyc_plain.specs.declared.instruction.Instruction.TheVariants as instructions
use Rattle.cyc_plain.specs.inside.Program.{Program, routine_at}
use Rattle.cyc_plain.specs.inside.State.{Activation, Frame, Configuration, State, Running, place_of}
use Rattle.cyc_plain.specs.inside.Step.{Choice, IsAllowed, MayLie, MayServe, call_of, callee_of, called, performed, instruction_at, limit_of, limited, limited_step, Step, machine}
use Rattle.cyc_plain.specs.inside.Straight.{At}
use Rattle.cyc_plain.specs.inside.WellFormed.{IsInRange, IsPlain, leaves}
use Rattle.cyc_inline.specs.declared.origin.Origin.{Origin}
use Rattle.cyc_inline.specs.inside.Opened.{moved, origin_at, origins_of, AreMadeOf, IsSite, IsPreceded, StandsFor, AreOpened}
use Rattle.cyc_inline.proofs.Waiting.{each_opened, place_in, slots_of, AreCalls, AreWaiting, beside}
use Rattle.cyc_inline.proofs.Outside.{call_same, performs_outside}
use Rattle.cyc_inline.proofs.Matched.{step_is, made_first, Alike, limited_outside, finds, owns, Matches, matching, kept, words_kept}

-- Shifting an instruction's slots and moving its jump targets changes neither the function that it calls nor the limit on active calls.
callee_same_moved : (shift : ℕ) (place : ℕ → ℕ) (i : Instruction) → callee_of (Some (moved shift place i)) ≡ callee_of (Some i)
callee_same_moved shift place (instructions.Call function arguments count result) = refl
callee_same_moved shift place (instructions.Enter function) = refl
callee_same_moved shift place i = refl

limit_same_moved : (shift : ℕ) (place : ℕ → ℕ) (calls : ℕ) (i : Instruction) → limit_of (Some (moved shift place i)) calls ≡ limit_of (Some i) calls
limit_same_moved shift place calls (instructions.Enter function) = refl
limit_same_moved shift place calls i = refl

module _ (program inlined : Program) (origins : List (List Origin)) (are : AreOpened program inlined origins) where
  -- Says that an instruction is replaced by itself, with or without instructions put before it.
  pub record IsItself (function index : ℕ) (i : Instruction) : Type 0 where
    pub at : At (routine_at inlined function).code (place_in program inlined origins are function index) (moved 0 (place_in program inlined origins are function) i)
    pub made : AreMadeOf (origins_of origins function) (place_in program inlined origins are function index) 1 (origin_at function index)
    pub falls : leaves i ≡ false → place_in program inlined origins are function (index + 1) ≡ place_in program inlined origins are function index + 1

  pub record IsOpenedCall (function index : ℕ) (i : Instruction) : Type 0 where
    pub callee : ℕ
    pub arguments : ℕ
    pub count : ℕ
    pub result : ℕ
    pub is : i ≡ instructions.Call callee arguments count result
    pub site : IsSite program (routine_at inlined function) (origins_of origins function) (slots_of program inlined origins are function) function index
        (place_in program inlined origins are function index) (place_in program inlined origins are function (index + 1)) callee arguments count result

  abbrev pub IsPrecededHere : (function index : ℕ) → Instruction → Type 0
  IsPrecededHere function index i =
      IsPreceded (routine_at program function) (routine_at inlined function) (origins_of origins function) function (place_in program inlined origins are function) index i

  itself_or_not : (function index : ℕ) (i : Instruction) → StandsFor program (routine_at program function) (routine_at inlined function) (origins_of origins function) function (place_in program inlined origins are function) index i
      → IsItself function index i ⊎ (IsOpenedCall function index i ⊎ IsPrecededHere function index i)
  itself_or_not function index (instructions.Call callee arguments count result) stands = elim stands [
    | inl itself ↦ inl (record { at = itself.0; made = itself.1; falls = λ stays. itself.2 })
    | inr site ↦ inr (inl (record { callee = callee; arguments = arguments; count = count; result = result; is = refl; site = site }))
  ]
  itself_or_not function index i stands = elim stands [
    | inl itself ↦ inl (record { at = itself.0; made = itself.1; falls = itself.2 })
    | inr preceded ↦ inr (inr preceded)
  ]

  pub either_stands : (function index : ℕ) (i : Instruction) → At (routine_at program function).code index i
      → IsItself function index i ⊎ (IsOpenedCall function index i ⊎ IsPrecededHere function index i)
  either_stands function index i at = itself_or_not function index i ((each_opened program inlined origins are function).stands index i at)

  module _ (plain : IsPlain program) (fine : IsPlain inlined) (pages calls : ℕ) (c : Configuration) (b : Activation) (gs : List Frame)
      (same : AreCalls program inlined origins are c.active b) (waiting : AreWaiting program inlined origins are c.active.function c.frames gs)
      (matches : Matches program inlined origins are plain fine pages calls (Running c) (Running (beside program inlined origins are c b gs)))
      (i : Instruction) (at : At (routine_at program c.active.function).code c.active.next i) (range : IsInRange program (routine_at program c.active.function) i) (itself : IsItself c.active.function c.active.next i) where
    abbrev d : Configuration
    d = beside program inlined origins are c b gs

    abbrev place : ℕ → ℕ
    place = place_in program inlined origins are c.active.function

    -- The inlined program is about to execute the instruction that replaces the source instruction.
    below_at : instruction_at inlined (place_of (Running d)) ≡ Some (moved 0 place i)
    below_at = finds program inlined origins are c.active b (place c.active.next) (moved 0 place i) same.slotted same.next itself.at

    -- A stack address that is allowed in the inlined program is allowed in the source program.
    lies : (base : ℕ) (o : Option ℕ) → MayLie inlined base o (Running d) → MayLie program base o (Running c)
    lies base None may = may
    lies base (Some function) may = record {
      aligned = may.aligned;
      low = may.low;
      high = (let high = may.high in let slots = (each_opened program inlined origins are function).like.slots in let there = same.slotted.base in omega (arith, high, slots, there));
    }

    serves : (choice : Choice) (o : Option Call) → MayServe choice.serving o (Running d) → MayServe choice.serving o (Running c)
    serves choice None may = tt
    serves choice (Some call) may = may

    asked : (j : Instruction) → IsInRange program (routine_at program c.active.function) j → call_of b.slots (Some (moved 0 place j)) ≡ call_of c.active.slots (Some j)
    asked (instructions.Ask request) inside = ap (λ (call : Call). Some call) (call_same program inlined origins are plain.well_formed c b gs same.slotted waiting request inside)
    asked j inside = refl

    allowed_same : (choice : Choice) → IsAllowed inlined (Running d) choice → IsAllowed program (Running c) choice
    allowed_same choice allowed = record {
      contents = allowed.contents;
      lies = lies choice.base (called program (Running c))
          (subst (λ (o : Option ℕ). MayLie inlined choice.base o (Running d)) (ap callee_of below_at ∙ (callee_same_moved 0 place i ∙ sym (ap callee_of at))) allowed.lies);
      serves = serves choice (call_of c.active.slots (instruction_at program (place_of (Running c))))
          (subst (λ (o : Option Call). MayServe choice.serving o (Running d)) (ap (call_of b.slots) below_at ∙ (asked i range ∙ sym (ap (call_of c.active.slots) at))) allowed.serves);
    }

    goes : (u : State) → Step inlined pages calls (Running d) u
        → (next : State) × Step program pages calls (Running c) next × Matches program inlined origins are plain fine pages calls next u
    goes u (choice, allowed, is) =
        let next : State = limited_step program pages calls choice (Running c) in
        let step : Step program pages calls (Running c) next = (choice, allowed_same choice allowed, refl) in (
          next,
          step,
          kept program inlined origins are plain fine pages calls (Running c) (Running d) next u matches step alike (words_kept program inlined origins are plain fine pages calls (Running d) u matches.words (choice, allowed, is)),
        )
      where
        above_is : limited_step program pages calls choice (Running c) ≡ limited pages (limit_of (Some i) calls) (Running c) (performed program choice c i)
        above_is = step_is program pages calls choice c i at

        below_is : u ≡ limited pages (limit_of (Some i) calls) (Running d) (performed inlined choice d (moved 0 place i))
        below_is =
            is ∙ (step_is inlined pages calls choice d (moved 0 place i) below_at
            ∙ ap (λ (n : ℕ). limited pages n (Running d) (performed inlined choice d (moved 0 place i))) (limit_same_moved 0 place calls i))

        alike : Alike program inlined origins are (limited_step program pages calls choice (Running c)) u
        alike =
            subst (λ (t : State). Alike program inlined origins are t u) (sym above_is)
            (subst (Alike program inlined origins are (limited pages (limit_of (Some i) calls) (Running c) (performed program choice c i))) (sym below_is)
            (limited_outside program inlined origins are pages (limit_of (Some i) calls) c b gs (performed program choice c i) (performed inlined choice d (moved 0 place i))
            (performs_outside program inlined origins are plain.well_formed c b gs same.slotted waiting choice i range same.next (λ stays. ap (λ (n : ℕ). n + 1) same.next ∙ sym (itself.falls stays)))))

    pub steps_itself : IsStepped (machine program pages calls) (machine inlined pages calls) (matching program inlined origins are plain fine pages calls) (Running c) (Running (beside program inlined origins are c b gs))
    steps_itself =
        by_one (machine program pages calls) (machine inlined pages calls) (matching program inlined origins are plain fine pages calls) (Running c) (Running d) matches refl
        (owns program inlined origins are c.active b (place c.active.next) c.active.function c.active.next (moved 0 place i) same.slotted same.next itself.at
        (made_first (origins_of origins c.active.function) (place c.active.next) 1 (origin_at c.active.function c.active.next) (omega arith) itself.made))
        goes
