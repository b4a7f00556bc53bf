-- Simulation of the steps inside an inlined call, except its return.
use Rattle.std.proofs.Common.{◌≡◌, ℕ, zero, suc, ◌+◌, ◌≤◌, true, false, List, [], ◌∷◌, length, Some, refl, sym, ap, subst, ◌∙◌, arith, inl, inr}
use Rattle.std.specs.Prelude.{◌⊎◌, nat_le, Contains}
use Rattle.std.proofs.lemmas.Bool.{and_from, and_parts, le-leb, leb-true}
use Rattle.cyc_words.specs.Simulation as simulation
use Rattle.cyc_words.specs.inside.Following.{IsOnTheWay, IsMatchedStep, IsStepped}
use Rattle.cyc_words.proofs.Matching.{by_one, way_before, way_after}
use Rattle.cyc_store.specs.State as stores
use Rattle.cyc_plain.specs.declared.instruction.Instruction.{Instruction}
use Rattle.cyc_plain.specs.declared.instruction.Instruction.TheVariants as instructions
use Rattle.cyc_plain.specs.inside.Program.{Program, CodePlace, routine_at}
use Rattle.cyc_plain.specs.inside.State.{Activation, Frame, Configuration, State, Running, Ended, Stuck, status_of, place_of, HoldsWords}
use Rattle.cyc_plain.specs.inside.Step.{Choice, performed, instruction_at, is_within, limit_of, limited, Step, machine}
use Rattle.cyc_plain.specs.inside.Straight.{At}
use Rattle.cyc_plain.specs.inside.WellFormed.{IsInRange, IsPlain, leaves}
use Rattle.cyc_plain.proofs.RunLaws.{zeros, zeros_at, calls_nothing, limit_free, limited-within, stuck_within, lawful}
use Rattle.cyc_plain.proofs.Steps.{step_performs}
use Rattle.cyc_plain.proofs.Straight.{following-distinct}
use Rattle.cyc_inline.specs.declared.origin.Origin.{Origin}
use Rattle.cyc_inline.specs.inside.Opened.{moved, origin_at, origins_of, AreMadeOf, GoesTo, AreOpened}
use Rattle.cyc_inline.proofs.Costs.{place_at, own, own_has}
use Rattle.cyc_inline.proofs.Waiting.{slots_of, as_deep, beside}
use Rattle.cyc_inline.proofs.Performing.{is_ordinary}
use Rattle.cyc_inline.proofs.Lodged.{IsLodged, IsGoing, Going, Falls, performs_inside}
use Rattle.cyc_inline.proofs.Matched.{step_is, made_first, finds, owns, Matches, matching, kept, words_kept}

pub ordinary_calls : (i : Instruction) → is_ordinary i ≡ true → calls_nothing i ≡ true
ordinary_calls (instructions.Call function arguments count result) ordinary = ordinary
ordinary_calls (instructions.Ask request) ordinary = ordinary
ordinary_calls (instructions.Enter function) ordinary = ordinary
ordinary_calls i ordinary = refl

-- An instruction that calls no function, opens or closes no exception handler, and takes no slot's
-- address makes the same step whichever stack address is chosen.
ordinary_moved : (program : Program) (d : Configuration) (shift : ℕ) (place : ℕ → ℕ) (choice other : Choice) (i : Instruction) → is_ordinary i ≡ true
    → performed program choice d (moved shift place i) ≡ performed program other d (moved shift place i)
ordinary_moved program d shift place choice other (instructions.Call function arguments count result) ordinary = absurd (let e : false ≡ true = ordinary in cc)
ordinary_moved program d shift place choice other (instructions.Ask request) ordinary = absurd (let e : false ≡ true = ordinary in cc)
ordinary_moved program d shift place choice other (instructions.Try first handler) ordinary = absurd (let e : false ≡ true = ordinary in cc)
ordinary_moved program d shift place choice other i ordinary = refl

pub ordinary_limit : (shift : ℕ) (place : ℕ → ℕ) (calls : ℕ) (i : Instruction) → is_ordinary i ≡ true → limit_of (Some (moved shift place i)) calls ≡ calls
ordinary_limit shift place calls (instructions.Enter function) ordinary = absurd (let e : false ≡ true = ordinary in cc)
ordinary_limit shift place calls i ordinary = refl

-- Returns the step of an instruction that calls no function, if the resulting state is within the limits on heap pages and active calls.
pub step_so : (program : Program) (pages calls : ℕ) (c : Configuration) (i : Instruction) (s : State) → instruction_at program (place_of (Running c)) ≡ Some i → calls_nothing i ≡ true
    → performed program zeros c i ≡ s → is_within pages calls s ≡ true → Step program pages calls (Running c) s
step_so program pages calls c i s at free does within = (
  zeros,
  zeros_at program c i at free,
  sym (step_is program pages calls zeros c i at
      ∙ (ap (λ (n : ℕ). limited pages n (Running c) (performed program zeros c i)) (limit_free i calls free)
      ∙ (ap (limited pages calls (Running c)) does
      ∙ limited-within pages calls (Running c) s within))),
)

-- A state is within the limits on heap pages and active calls if another state within them has equally many
-- pages and at least as many calls.
pub fewer_within : (pages calls : ℕ) (c d : Configuration) → stores.demand d.store ≡ stores.demand c.store → length d.frames ≤ length c.frames → is_within pages calls (Running c) ≡ true → is_within pages calls (Running d) ≡ true
fewer_within pages calls c d as_much fewer within =
    let (paged, some) = and_parts (nat_le (stores.demand c.store) pages) (nat_le (suc (length c.frames)) calls) within in
    and_from (nat_le (stores.demand d.store) pages) (nat_le (suc (length d.frames)) calls)
    (ap (λ (n : ℕ). nat_le n pages) as_much ∙ paged)
    (le-leb (suc (length d.frames)) calls (let l = leb-true (suc (length c.frames)) calls some in omega (arith, l, fewer)))

module _ (program inlined : Program) (origins : List (List Origin)) (are : AreOpened program inlined origins) where
  -- The relation between source and inlined states during an inlined call does not depend on the next code position.
  abbrev pub lodged_at : (c : Configuration) (b : Activation) (gs : List Frame) (next : ℕ) → IsLodged program inlined origins are c b gs → IsLodged program inlined origins are c (record b { next = next }) gs
  lodged_at c b gs next l = record {
    waits = l.waits;
    rest = l.rest;
    frames = l.frames;
    slotted = record { function = l.slotted.function; base = l.slotted.base; handlers = l.slotted.handlers; records = l.slotted.records; slots = l.slotted.slots };
    waiting = l.waiting;
    index = l.index;
    arguments = l.arguments;
    count = l.count;
    following = l.following;
    calls = l.calls;
    site = l.site;
    slots = l.slots;
    handlers = l.handlers;
  }

  -- In an inlined call, the inlined program has one active call less than the source program, so it is within the same limits
  -- on heap pages and active calls.
  pub lodged_within : (pages calls : ℕ) (c : Configuration) (b : Activation) (gs : List Frame) → IsLodged program inlined origins are c b gs → is_within pages calls (Running c) ≡ true
      → is_within pages calls (Running (beside program inlined origins are c b gs)) ≡ true
  lodged_within pages calls c b gs l within =
      let deep = as_deep program inlined origins are l.waits.caller.function l.rest gs l.waiting in
      let long = ap length l.frames in
      fewer_within pages calls c (beside program inlined origins are c b gs) refl (omega (arith, deep, long)) within

  module _ (plain : IsPlain program) (fine : IsPlain inlined) (pages calls : ℕ) (c : Configuration) (b : Activation) (gs : List Frame)
      (lodged : IsLodged program inlined origins are c b gs) (next : b.next ≡ lodged.site.place c.active.next)
      (matches : Matches program inlined origins are plain fine pages calls (Running c) (Running (beside program inlined origins are c b gs)))
      (never : (next : State) → Step program pages calls (Running c) next → status_of next ≡ simulation.Failed → ⊥)
      (i : Instruction) (at : At (routine_at program c.active.function).code c.active.next i) (range : IsInRange program (routine_at program c.active.function) i) where
    abbrev d : Configuration
    d = beside program inlined origins are c b gs

    abbrev shift : ℕ
    shift = slots_of program inlined origins are lodged.waits.caller.function

    abbrev place : ℕ → ℕ
    place = lodged.site.place

    abbrev code : List Instruction
    code = (routine_at inlined lodged.waits.caller.function).code

    abbrev others : List Origin
    others = origins_of origins lodged.waits.caller.function

    abbrev IsStep : Type 0
    IsStep = IsStepped (machine program pages calls) (machine inlined pages calls) (matching program inlined origins are plain fine pages calls) (Running c) (Running d)

    abbrev own_places : List CodePlace
    own_places = own inlined origins (place_at c.active.function c.active.next)

    -- ---- a moved instruction

    module _ (there : At (routine_at inlined lodged.waits.caller.function).code (lodged.site.place c.active.next) (moved (slots_of program inlined origins are lodged.waits.caller.function) lodged.site.place i))
        (made : AreMadeOf (origins_of origins lodged.waits.caller.function) (lodged.site.place c.active.next) 1 (origin_at c.active.function c.active.next)) where
      abbrev j : Instruction
      j = moved shift place i

      below_at : instruction_at inlined (place_of (Running d)) ≡ Some j
      below_at = finds program inlined origins are lodged.waits.caller b (place c.active.next) j lodged.slotted next there

      owned : Contains own_places (place_of (Running d))
      owned =
          owns program inlined origins are lodged.waits.caller b (place c.active.next) c.active.function c.active.next j lodged.slotted next there
          (made_first others (place c.active.next) 1 (origin_at c.active.function c.active.next) (omega arith) made)

      module _ (ordinary : is_ordinary i ≡ true) (falls : leaves i ≡ false → GoesTo (routine_at inlined lodged.waits.caller.function).code (origins_of origins lodged.waits.caller.function) (lodged.site.place c.active.next + 1) (lodged.site.place (c.active.next + 1)) (origin_at c.active.function c.active.next)) where
        module _ (e : Configuration) (does : performed program zeros c i ≡ Running e) (g : IsGoing program inlined origins are plain.well_formed c b gs lodged e (performed inlined zeros d (moved shift place i))) where
          abbrev below : Configuration
          below = beside program inlined origins are e g.active g.frames

          within : is_within pages calls (Running e) ≡ true
          within = fewer_within pages calls c e g.as_much (let deep = g.as_deep in omega (arith, deep)) matches.within

          below_within : is_within pages calls (Running below) ≡ true
          below_within = lodged_within pages calls e g.active g.frames g.lodges within

          performs_so : (choice : Choice) → performed inlined choice d j ≡ Running below
          performs_so choice = ordinary_moved inlined d shift place choice zeros i ordinary ∙ g.is

          comes_to : (u : State) → Step inlined pages calls (Running d) u → u ≡ Running below
          comes_to u step =
              let (choice, allowed, is) =
              step_performs inlined pages calls d j u below_at
              (λ choice. ap (λ (n : ℕ). is_within pages n (performed inlined choice d j)) (ordinary_limit shift place calls i ordinary) ∙ (ap (is_within pages calls) (performs_so choice) ∙ below_within)) step in
              is ∙ performs_so choice

          above : Step program pages calls (Running c) (Running e)
          above = step_so program pages calls c i (Running e) at (ordinary_calls i ordinary) does within

          -- After the steps that replace one instruction of an inlined callee, the source program and the inlined program are again at
          -- corresponding code positions.
          arrives : (u : State) (other : ℕ) → u ≡ Running (beside program inlined origins are e (record g.active { next = other }) g.frames) → other ≡ place e.active.next → HoldsWords u
              → (s : State) × Step program pages calls (Running c) s × Matches program inlined origins are plain fine pages calls s u
          arrives u other is to words = (
            Running e,
            above,
            kept program inlined origins are plain fine pages calls (Running c) (Running d) (Running e) u matches above
                (inr (record {
                  active = record g.active { next = other };
                  frames = g.frames;
                  is = is;
                  lodged = lodged_at e g.active g.frames other g.lodges;
                  next = to ∙ sym (g.same_site e.active.next);
                }))
                words,
          )

          at_once : g.active.next ≡ place e.active.next → IsStep
          at_once to =
              by_one (machine program pages calls) (machine inlined pages calls) (matching program inlined origins are plain fine pages calls) (Running c) (Running d) matches refl owned
              (λ u step. arrives u g.active.next (comes_to u step) to (words_kept program inlined origins are plain fine pages calls (Running d) u matches.words step))

          -- The case in which a jump lies between an instruction's replacement and the replacement of its successor.
          module _ (following : e.active.next ≡ c.active.next + 1) (beyond : g.active.next ≡ b.next + 1)
              (jump_at : At (routine_at inlined lodged.waits.caller.function).code (b.next + 1) (instructions.Jump (lodged.site.place (c.active.next + 1))))
              (jump_made : AreMadeOf (origins_of origins lodged.waits.caller.function) (b.next + 1) 1 (origin_at c.active.function c.active.next)) where
            abbrev target : ℕ
            target = place (c.active.next + 1)

            -- The code position at which the active call of the inlined program continues after the step of an instruction of the inlined
            -- callee.
            stands_after : place_of (Running below) ≡ place_at b.function (b.next + 1)
            stands_after = λ k. place_at ((g.lodges.slotted.function ∙ (g.caller ∙ sym lodged.slotted.function)) k) (beyond k)

            stands_caller : place_at b.function (b.next + 1) ≡ place_at lodged.waits.caller.function (b.next + 1)
            stands_caller = λ k. place_at (lodged.slotted.function k) (b.next + 1)

            jumps : instruction_at inlined (place_of (Running below)) ≡ Some (instructions.Jump target)
            jumps = ap (instruction_at inlined) (stands_after ∙ stands_caller) ∙ jump_at

            jump_owned : Contains own_places (place_at b.function (b.next + 1))
            jump_owned =
                subst (Contains own_places) (sym stands_caller)
                (own_has inlined origins lodged.waits.caller.function (b.next + 1) c.active.function c.active.next (instructions.Jump target) jump_at
                (made_first others (b.next + 1) 1 (origin_at c.active.function c.active.next) (omega arith) jump_made))

            abbrev both : List CodePlace
            both = place_at b.function b.next ∷ place_at b.function (b.next + 1) ∷ []

            goal : (v : State) → HoldsWords (Running below) → Step inlined pages calls (Running below) v
                → IsMatchedStep (machine program pages calls) (machine inlined pages calls) (matching program inlined origins are plain fine pages calls) (Running c) both v
            goal v words step =
                let (state, made_above, matched) =
                arrives v target (step_performs inlined pages calls below (instructions.Jump target) v jumps (λ choice. below_within) step).2 (ap place (sym following))
                (words_kept program inlined origins are plain fine pages calls (Running below) v words step) in
                record { next = state; step = made_above; matches = matched; lighter = λ none. absurd (omega (arith, none)) }

            jumped : IsStep
            jumped = record {
              places = both;
              distinct = following-distinct b.function b.next (suc (suc zero));
              inside = (owned, (jump_owned, tt));
              comes = (
                refl,
                way_before (machine program pages calls) (machine inlined pages calls) (matching program inlined origins are plain fine pages calls) (Running c) (Running d) refl refl,
                λ u step.
                    subst (λ (s : State). (place_of s ≡ place_at b.function (b.next + 1)) × IsOnTheWay (machine program pages calls) (machine inlined pages calls) (Running c) s
                    × ((v : State) → Step inlined pages calls s v → IsMatchedStep (machine program pages calls) (machine inlined pages calls) (matching program inlined origins are plain fine pages calls) (Running c) both v))
                    (sym (comes_to u step)) (
                      stands_after,
                      way_after (machine program pages calls) (machine inlined pages calls) (matching program inlined origins are plain fine pages calls) (Running c) (Running e) (Running below) above
                          ((lawful program pages calls).grows (Running c) (Running e) above) refl refl,
                      λ v more. goal v (subst HoldsWords (comes_to u step) (words_kept program inlined origins are plain fine pages calls (Running d) u matches.words step)) more,
                    ),
              );
            }

          steps_on : IsStep
          steps_on = go g.next
            where
              go : (g.active.next ≡ place e.active.next) ⊎ ((e.active.next ≡ c.active.next + 1) × (g.active.next ≡ b.next + 1) × Falls program inlined origins are plain.well_formed c b gs lodged) → IsStep
              go (inl to) = at_once to
              go (inr (following, beyond, inl to)) = at_once (beyond ∙ (to ∙ ap place (sym following)))
              go (inr (following, beyond, inr (jump, made_so))) = jumped following beyond jump made_so

        by_state : (s : State) → performed program zeros c i ≡ s → Going program inlined origins are plain.well_formed c b gs lodged s (performed inlined zeros d j) → IsStep
        by_state (Running e) does going = steps_on e does going
        by_state (Ended ending output input) does going = absurd going
        by_state (Stuck output input) does going = absurd (never (Stuck output input) (step_so program pages calls c i (Stuck output input) at (ordinary_calls i ordinary) does (stuck_within pages calls output input)) refl)

        -- After an instruction that falls through, control continues at the code position of its successor.
        falls_here : leaves i ≡ false → Falls program inlined origins are plain.well_formed c b gs lodged
        falls_here stays =
            subst (λ (n : ℕ). GoesTo code others (n + 1) (place (c.active.next + 1)) (origin_at c.active.function c.active.next)) (sym next) (falls stays)

        pub steps_ordinary : IsStepped (machine program pages calls) (machine inlined pages calls) (matching program inlined origins are plain fine pages calls) (Running c) (Running (beside program inlined origins are c b gs))
        steps_ordinary =
            by_state (performed program zeros c i) refl (performs_inside program inlined origins are plain.well_formed c b gs lodged zeros zeros i ordinary range falls_here)
