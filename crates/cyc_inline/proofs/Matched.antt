-- The simulation relation between the states of a program and of its inlined version, and lemmas that restore the relation after a step.
use Rattle.std.proofs.Common.{◌≡◌, ℕ, suc, ◌+◌, ◌<◌, Bool, true, false, ◌&&◌, List, Option, Some, slice_get, refl, sym, ap, subst, ◌∙◌, arith, inl, inr}
use Rattle.std.specs.Prelude.{◌⊎◌, nat_le, Contains, if◌then◌else◌}
use Rattle.cyc_words.specs.Ending.{Full}
use Rattle.cyc_words.specs.Simulation as simulation
use Rattle.cyc_words.specs.inside.Following.{Matching}
use Rattle.cyc_store.specs.State as stores
use Rattle.cyc_plain.specs.declared.instruction.Instruction.{Instruction}
use Rattle.cyc_plain.specs.inside.Program.{Program, routine_at}
use Rattle.cyc_plain.specs.inside.State.{Activation, Frame, Configuration, State, Running, Ended, Stuck, seen_of, status_of, place_of, depth, HoldsWords}
use Rattle.cyc_plain.specs.inside.Step.{Choice, performed, executed, instruction_at, is_within, limit_of, limited, limited_step, Step, machine}
use Rattle.cyc_plain.specs.inside.Straight.{At}
use Rattle.cyc_plain.specs.inside.WellFormed.{IsPlain}
use Rattle.cyc_plain.proofs.RunLaws.{stays_within}
use Rattle.cyc_plain.proofs.Placed.{IsPlaced, placed_run}
use Rattle.cyc_plain.proofs.WordLaws.{words_stay}
use Rattle.cyc_inline.specs.declared.origin.Origin.{Origin}
use Rattle.cyc_inline.specs.inside.Opened.{AreMadeOf, AreOpened, origin_at, origins_of}
use Rattle.cyc_inline.proofs.Costs.{place_at, own, own_has}
use Rattle.cyc_inline.proofs.Waiting.{AreSlotted, as_deep, beside, IsOutside, Outside}
use Rattle.cyc_inline.proofs.Lodged.{IsLodged}

-- If a configuration has the given next instruction, its step executes this instruction within the limits on heap pages and active calls.
pub step_is : (program : Program) (pages calls : ℕ) (choice : Choice) (c : Configuration) (i : Instruction) → instruction_at program (place_of (Running c)) ≡ Some i
    → limited_step program pages calls choice (Running c) ≡ limited pages (limit_of (Some i) calls) (Running c) (performed program choice c i)
step_is program pages calls choice c i at = ap (λ (o : Option Instruction). limited pages (limit_of o calls) (Running c) (executed program choice c o)) at

-- If consecutive instructions are made from one source instruction, the first of them is made from it too.
pub made_first : (origins : List Origin) (from count : ℕ) (origin : Origin) → 0 < count → AreMadeOf origins from count origin → slice_get origins from ≡ Some origin
made_first origins from count origin some made = ap (slice_get origins) (let e : from ≡ from + 0 = omega arith in e) ∙ made 0 some

module _ (program inlined : Program) (origins : List (List Origin)) (are : AreOpened program inlined origins) where
  -- Says that the states of the source and the inlined program match inside an inlined call.
  pub record IsInside (c : Configuration) (t : State) : Type 0 where
    pub active : Activation
    pub frames : List Frame
    pub is : t ≡ Running (beside program inlined origins are c active frames)
    pub lodged : IsLodged program inlined origins are c active frames
    pub next : active.next ≡ lodged.site.place c.active.next

  abbrev pub Alike : State → State → Type 0
  Alike (Running c) t = IsOutside program inlined origins are c t ⊎ IsInside c t
  Alike (Ended ending output input) t = t ≡ Ended ending output input
  Alike (Stuck output input) t = t ≡ Stuck output input

  pub outside_alike : (s t : State) → Outside program inlined origins are s t → Alike s t
  outside_alike (Running c) t outside = inl outside
  outside_alike (Ended ending output input) t is = is
  outside_alike (Stuck output input) t is = is

  pub alike_seen : (s t : State) → Alike s t → seen_of t ≡ seen_of s
  alike_seen (Running c) t (inl outside) = ap seen_of outside.is
  alike_seen (Running c) t (inr inside) = ap seen_of inside.is
  alike_seen (Ended ending output input) t is = ap seen_of is
  alike_seen (Stuck output input) t is = ap seen_of is

  pub alike_if : (b e : Bool) (s t u v : State) → e ≡ b → Alike s u → Alike t v → Alike (if b then s else t) (if e then u else v)
  alike_if true e s t u v same first second = subst (λ (x : Bool). Alike s (if x then u else v)) (sym same) first
  alike_if false e s t u v same first second = subst (λ (x : Bool). Alike t (if x then u else v)) (sym same) second

  -- If the states of both programs match outside inlined calls, both are within the limits of heap pages and active calls, or neither is.
  within_same : (pages calls : ℕ) (s u : State) → Outside program inlined origins are s u → is_within pages calls u ≡ is_within pages calls s
  within_same pages calls (Running c) u outside =
      ap (is_within pages calls) outside.is
      ∙ ap (λ (n : ℕ). nat_le (stores.demand c.store) pages && nat_le (suc n) calls) (as_deep program inlined origins are c.active.function c.frames outside.frames outside.waiting)
  within_same pages calls (Ended ending output input) u is = ap (is_within pages calls) is
  within_same pages calls (Stuck output input) u is = ap (is_within pages calls) is

  pub limited_outside : (pages calls : ℕ) (c : Configuration) (b : Activation) (gs : List Frame) (s u : State) → Outside program inlined origins are s u
      → Alike (limited pages calls (Running c) s) (limited pages calls (Running (beside program inlined origins are c b gs)) u)
  limited_outside pages calls c b gs s u outside =
      alike_if (is_within pages calls s) (is_within pages calls u) s (Ended Full c.output c.input) u (Ended Full c.output c.input) (within_same pages calls s u outside) (outside_alike s u outside) refl

  -- ---- places

  -- The code position of the active call in the inlined program.
  pub stands : (a b : Activation) (next : ℕ) → AreSlotted program inlined origins are a b → b.next ≡ next
      → place_at b.function b.next ≡ place_at a.function next
  stands a b next slotted at = λ i. place_at (slotted.function i) (at i)

  pub finds : (a b : Activation) (next : ℕ) (i : Instruction) → AreSlotted program inlined origins are a b → b.next ≡ next → At (routine_at inlined a.function).code next i
      → instruction_at inlined (place_at b.function b.next) ≡ Some i
  finds a b next i slotted at there = ap (instruction_at inlined) (stands a b next slotted at) ∙ there

  -- If an instruction of the inlined program has a recorded source instruction, its code position is among the
  -- positions made from this source instruction.
  pub owns : (a b : Activation) (next function index : ℕ) (i : Instruction) → AreSlotted program inlined origins are a b → b.next ≡ next → At (routine_at inlined a.function).code next i
      → slice_get (origins_of origins a.function) next ≡ Some (origin_at function index)
      → Contains (own inlined origins (place_at function index)) (place_at b.function b.next)
  owns a b next function index i slotted at there made =
      subst (Contains (own inlined origins (place_at function index))) (sym (stands a b next slotted at)) (own_has inlined origins a.function next function index i there made)

  -- ---- the simulation relation

  module _ (plain : IsPlain program) (fine : IsPlain inlined) (pages calls : ℕ) where
    pub record Matches (s t : State) : Type 0 where
      pub alike : Alike s t
      pub placed : IsPlaced program s
      pub words : HoldsWords t
      pub within : is_within pages calls s ≡ true

    pub ended : (s t : State) (ending : _) → Alike s t → status_of s ≡ simulation.Ended ending → status_of t ≡ simulation.Ended ending
    ended (Running c) t ending alike over = absurd (let e : simulation.Running ≡ simulation.Ended ending = over in cc)
    ended (Ended other output input) t ending alike over = ap status_of alike ∙ over
    ended (Stuck output input) t ending alike over = absurd (let e : simulation.Failed ≡ simulation.Ended ending = over in cc)

    abbrev pub matching : Matching (machine program pages calls) (machine inlined pages calls)
    matching = record {
      Matches = Matches;
      weight = depth;
      own = own inlined origins;
      alike = λ s t matches. alike_seen s t matches.alike;
      endings = λ s t ending matches over. ended s t ending matches.alike over;
    }

    -- After a step of the source program, the simulation relation between the source program and the inlined
    -- program holds again if their resulting states correspond.
    pub kept : (s t next u : State) → Matches s t → Step program pages calls s next → Alike next u → HoldsWords u → Matches next u
    kept s t next u matches step alike words = record {
      alike = alike;
      placed = placed_run program pages calls 1 s next plain.well_formed matches.placed (next, step, refl);
      words = words;
      within = stays_within program pages calls 1 s next matches.within (next, step, refl);
    }

    pub words_kept : (t u : State) → HoldsWords t → Step inlined pages calls t u → HoldsWords u
    words_kept t u words step = words_stay inlined pages calls 1 t u fine.words words (u, step, refl)
