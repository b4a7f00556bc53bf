-- Lemmas about active and waiting calls of the source and the inlined program, and about exceptions that reach these calls.
use Rattle.std.proofs.Common.{◌≡◌, ℕ, suc, ◌+◌, ◌≤◌, Bool, true, false, List, [], ◌∷◌, length, map, refl, sym, ap, subst, arith, inl, inr}
use Rattle.std.specs.Prelude.{if◌then◌else◌}
use Rattle.std.specs.List.{AllByRecursion}
use Rattle.std.proofs.lemmas.Bool.{cases_lt}
use Rattle.std.proofs.lemmas.List.{get_or_past}
use Rattle.cyc_words.specs.Ending.{Uncaught}
use Rattle.cyc_words.specs.Word.{signed}
use Rattle.cyc_plain.specs.declared.limits.TheConstants.{RECORD_WORDS}
use Rattle.cyc_plain.specs.inside.Program.{Routine, Program, no_routine, routine_at}
use Rattle.cyc_plain.specs.inside.State.{put, Handler, Open, Caught, Activation, Frame, Configuration, State, Running, Ended, Stuck}
use Rattle.cyc_plain.specs.inside.Step.{is_intact, lands, throws}
use Rattle.cyc_inline.specs.declared.origin.Origin.{Origin}
use Rattle.cyc_inline.specs.inside.Opened.{IsOpened, AreOpened, origins_of}
use Rattle.cyc_inline.proofs.Agreeing.{Agree, put_agree, intact_agree}

-- The code after inlining satisfies `IsOpened` (a function with some of its calls inlined) for every function index, even
-- for an index at which the program has no function.
nothing_opened : (program : Program) (function : ℕ) (origins : List Origin) → length origins ≡ 0 → IsOpened program function no_routine no_routine origins
nothing_opened program function origins none = record {
  like = record { name = refl; parameters = refl; results = refl; slots = omega arith; frame = inl refl };
  as_many = none;
  place = λ (k : ℕ). k;
  first = refl;
  stands = λ index i at. cc;
  pinned = λ p i at slot pins. cc;
}

-- An exception handler whose jump target is moved to the position that the target's instruction has in the inlined program.
abbrev pub moved_handler : (place : ℕ → ℕ) → Handler → Handler
moved_handler place (Open index first contents) = Open (place index) first contents
moved_handler place Caught = Caught

module _ (program inlined : Program) (origins : List (List Origin)) (are : AreOpened program inlined origins) where
  pub each_opened : (k : ℕ) → IsOpened program k (routine_at program k) (routine_at inlined k) (origins_of origins k)
  each_opened k = elim (cases_lt k (length program.functions)) [
    | inl below ↦ are.each k below
    | inr past ↦
        let none : no_routine ≡ routine_at program k = sym (get_or_past program.functions k no_routine past) in
        let no_other : no_routine ≡ routine_at inlined k = sym (get_or_past inlined.functions k no_routine (let l = are.as_many in omega (arith, past, l))) in
        let untold : origins_of origins k ≡ [] = get_or_past origins k [] (let l = are.all_reported in omega (arith, past, l)) in
        subst (λ (s : Routine). IsOpened program k (routine_at program k) s (origins_of origins k)) no_other
        (subst (λ (r : Routine). IsOpened program k r no_routine (origins_of origins k)) none
        (nothing_opened program k (origins_of origins k) (ap length untold)))
  ]

  -- The code position of a source instruction in the inlined program, by function and index.
  abbrev pub place_in : (function : ℕ) → ℕ → ℕ
  place_in function = (each_opened function).place

  abbrev pub slots_of : ℕ → ℕ
  slots_of function = (routine_at program function).slots

  -- Says that the record of an exception handler lies within the slots of its function.
  abbrev pub HasRecord : (function : ℕ) → Handler → Type 0
  HasRecord function (Open index first contents) = first + RECORD_WORDS ≤ slots_of function
  HasRecord function Caught = Unit {0}

  -- Says that a call of the source program and a call of the inlined program correspond, at any code positions.
  pub record AreSlotted (a b : Activation) : Type 0 where
    pub function : b.function ≡ a.function
    pub base : b.base ≡ a.base
    pub handlers : b.handlers ≡ map (moved_handler (place_in a.function)) a.handlers
    pub records : AllByRecursion (HasRecord a.function) a.handlers
    pub slots : Agree (slots_of a.function) a.slots b.slots

  -- Says that a call of the source program and a call of the inlined program correspond and are at corresponding code positions.
  pub record AreCalls (a b : Activation) : Type 0 where
    pub slotted : AreSlotted a b
    pub next : b.next ≡ place_in a.function a.next

  -- Says that the calls waiting for a function's call correspond in the source and the inlined program; the outermost call is a
  -- call of `main`.
  abbrev pub AreWaiting : (function : ℕ) → List Frame → List Frame → Type 0
  AreWaiting function [] [] = function ≡ program.main
  AreWaiting function (f ∷ fs) (g ∷ gs) = AreCalls f.caller g.caller × (g.result ≡ f.result) × AreWaiting f.caller.function fs gs
  AreWaiting function (f ∷ fs) [] = ⊥
  AreWaiting function [] (g ∷ gs) = ⊥

  pub as_deep : (function : ℕ) (fs gs : List Frame) → AreWaiting function fs gs → length gs ≡ length fs
  as_deep function [] [] waiting = refl
  as_deep function [] (g ∷ gs) waiting = absurd waiting
  as_deep function (f ∷ fs) [] waiting = absurd waiting
  as_deep function (f ∷ fs) (g ∷ gs) (calls, result, rest) = ap suc (as_deep f.caller.function fs gs rest)

  -- The source configuration with the active call and the waiting calls replaced by those of the inlined program.
  abbrev pub beside : Configuration → Activation → List Frame → Configuration
  beside c b gs = record c { active = b; frames = gs }

  -- Says that a running source configuration and a state of the inlined program correspond outside inlined calls.
  pub record IsOutside (c : Configuration) (t : State) : Type 0 where
    pub active : Activation
    pub frames : List Frame
    pub is : t ≡ Running (beside c active frames)
    pub calls : AreCalls c.active active
    pub waiting : AreWaiting c.active.function c.frames frames

  -- Says that two states correspond outside inlined calls; the states of ended runs are equal.
  abbrev pub Outside : State → State → Type 0
  Outside (Running c) t = IsOutside c t
  Outside (Ended ending output input) t = t ≡ Ended ending output input
  Outside (Stuck output input) t = t ≡ Stuck output input

  pub outside_if : (b e : Bool) (s t u v : State) → e ≡ b → Outside s u → Outside t v → Outside (if b then s else t) (if e then u else v)
  outside_if true e s t u v same first second = subst (λ (x : Bool). Outside s (if x then u else v)) (sym same) first
  outside_if false e s t u v same first second = subst (λ (x : Bool). Outside t (if x then u else v)) (sym same) second

  -- ---- exceptions

  module _ (c : Configuration) (active : Activation) (frames : List Frame) (tag value : ℕ) where
    abbrev d : Configuration
    d = beside c active frames

    landed : (a b : Activation) (fs gs : List Frame) (beyond other : State) → AreSlotted a b → AreWaiting a.function fs gs → Outside beyond other
        → (hs : List Handler) → AllByRecursion (HasRecord a.function) hs
        → Outside (lands c tag value a fs beyond hs) (lands d tag value b gs other (map (moved_handler (place_in a.function)) hs))
    landed a b fs gs beyond other slotted waiting further [] records = further
    landed a b fs gs beyond other slotted waiting further (Caught ∷ hs) records = refl
    landed a b fs gs beyond other slotted waiting further (Open index first contents ∷ hs) (room, records) =
        outside_if (is_intact a.slots first contents) (is_intact b.slots first contents)
        (Running (record c { active = record a { next = index; slots = put (put a.slots first tag) (suc first) value; handlers = Caught ∷ hs }; frames = fs }))
        (Stuck c.output c.input)
        (Running (record d { active = record b { next = place_in a.function index; slots = put (put b.slots first tag) (suc first) value; handlers = Caught ∷ map (moved_handler (place_in a.function)) hs }; frames = gs }))
        (Stuck d.output d.input)
        (intact_agree (slots_of a.function) first contents a.slots b.slots slotted.slots room)
        (record {
          active = record b { next = place_in a.function index; slots = put (put b.slots first tag) (suc first) value; handlers = Caught ∷ map (moved_handler (place_in a.function)) hs };
          frames = gs;
          is = refl;
          calls = record {
            slotted = record {
              function = slotted.function;
              base = slotted.base;
              handlers = refl;
              records = (tt, records);
              slots = put_agree (slots_of a.function) (suc first) value (put a.slots first tag) (put b.slots first tag) (put_agree (slots_of a.function) first tag a.slots b.slots slotted.slots);
            };
            next = refl;
          };
          waiting = waiting;
        })
        refl

    -- An exception reaches corresponding handlers in the source and the inlined program, or ends both runs.
    pub thrown : (a b : Activation) (fs gs : List Frame) → AreSlotted a b → AreWaiting a.function fs gs → Outside (throws c tag value a fs) (throws d tag value b gs)
    thrown a b [] [] slotted waiting =
        subst (λ (hs : List Handler). Outside (throws c tag value a []) (lands d tag value b [] (Ended (Uncaught tag (signed value)) d.output d.input) hs)) (sym slotted.handlers)
        (landed a b [] [] (Ended (Uncaught tag (signed value)) c.output c.input) (Ended (Uncaught tag (signed value)) d.output d.input) slotted waiting refl a.handlers slotted.records)
    thrown a b [] (g ∷ gs) slotted waiting = absurd waiting
    thrown a b (f ∷ fs) [] slotted waiting = absurd waiting
    thrown a b (f ∷ fs) (g ∷ gs) slotted (calls, result, rest) =
        subst (λ (hs : List Handler). Outside (throws c tag value a (f ∷ fs)) (lands d tag value b (g ∷ gs) (throws d tag value g.caller gs) hs)) (sym slotted.handlers)
        (landed a b (f ∷ fs) (g ∷ gs) (throws c tag value f.caller fs) (throws d tag value g.caller gs) slotted (calls, result, rest)
        (thrown f.caller g.caller fs gs calls.slotted rest) a.handlers slotted.records)

    -- An exception raised in an inlined call reaches corresponding handlers in both programs. The inlined call has no handler in the
    -- source program, so the exception passes to its caller, the active call of the inlined program.
    pub thrown_inside : (leaf b : Activation) (f : Frame) (fs gs : List Frame) → leaf.handlers ≡ [] → AreSlotted f.caller b → AreWaiting f.caller.function fs gs
        → Outside (throws c tag value leaf (f ∷ fs)) (throws d tag value b gs)
    thrown_inside leaf b f fs gs none slotted waiting =
        subst (λ (hs : List Handler). Outside (lands c tag value leaf (f ∷ fs) (throws c tag value f.caller fs) hs) (throws d tag value b gs)) (sym none)
        (thrown f.caller b fs gs slotted waiting)
