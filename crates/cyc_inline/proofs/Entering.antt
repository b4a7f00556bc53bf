-- Simulation of the steps that enter an inlined call: the arguments are moved, stack space is checked, and the call becomes active.
use Rattle.std.proofs.Common.{◌≡◌, ℕ, suc, ◌+◌, ◌-◌, ◌<◌, Bool, true, ◌&&◌, List, [], ◌∷◌, ◌++◌, length, Option, Some, refl, sym, ap, subst, ◌∙◌, arith, inl, inr, length-append}
use Rattle.std.specs.Prelude.{nat_le, Contains}
use Rattle.std.specs.List.{AllByRecursion}
use Rattle.std.proofs.lemmas.Bool.{cases_lt}
use Rattle.cyc_words.specs.Distinct.{IsDistinct}
use Rattle.cyc_words.specs.Ending.{Full}
use Rattle.cyc_words.specs.inside.Following.{IsOnTheWay, IsMatchedStep, IsStepped}
use Rattle.cyc_words.proofs.Matching.{way_before}
use Rattle.cyc_words.proofs.Numbers.{nat_le-one_less}
use Rattle.cyc_store.specs.State as stores
use Rattle.cyc_plain.specs.declared.instruction.Instruction.{Instruction}
use Rattle.cyc_plain.specs.declared.instruction.Instruction.TheVariants as instructions
use Rattle.cyc_plain.specs.inside.Memory.{IsBelow}
use Rattle.cyc_plain.specs.inside.Program.{Program, CodePlace, routine_at}
use Rattle.cyc_plain.specs.inside.State.{Words, copied, Activation, Frame, Configuration, State, Running, Ended, place_of, HoldsWords}
use Rattle.cyc_plain.specs.inside.Step.{Choice, IsAllowed, MayLie, callee_of, advanced, instruction_at, is_within, limited, limited_step, Step, machine}
use Rattle.cyc_plain.specs.inside.Straight.{At, HasAt, places_after}
use Rattle.cyc_plain.specs.inside.WellFormed.{IsCallInRange, IsPlain}
use Rattle.cyc_plain.proofs.RunLaws.{called_at}
use Rattle.cyc_plain.proofs.SlotLaws.{copied-inside, copied-above}
use Rattle.cyc_plain.proofs.Straight.{has_front, has_back, following-distinct}
use Rattle.cyc_inline.specs.declared.origin.Origin.{Origin}
use Rattle.cyc_inline.specs.inside.Opened.{passing, origins_of, IsSite, AreOpened}
use Rattle.cyc_inline.proofs.Costs.{place_at, own, own_has}
use Rattle.cyc_inline.proofs.Moves.{passed, passed_other, passed_inside}
use Rattle.cyc_inline.proofs.Waiting.{each_opened, place_in, slots_of, AreCalls, AreWaiting, as_deep, beside}
use Rattle.cyc_inline.proofs.Matched.{step_is, IsInside, Alike, alike_if, stands, Matches, matching, kept, words_kept}
use Rattle.cyc_inline.proofs.Passing.{passing_length, passed_words, following_last, after_inside, has_each, passes}

module _ (program inlined : Program) (origins : List (List Origin)) (are : AreOpened program inlined origins) (plain : IsPlain program) (fine : IsPlain inlined) (pages calls : ℕ)
    (c : Configuration) (b : Activation) (gs : List Frame)
    (same : AreCalls program inlined origins are c.active b) (waiting : AreWaiting program inlined origins are c.active.function c.frames gs)
    (matches : Matches program inlined origins are plain fine pages calls (Running c) (Running (beside program inlined origins are c b gs)))
    (callee arguments count result : ℕ) (at : At (routine_at program c.active.function).code c.active.next (instructions.Call callee arguments count result))
    (range : IsCallInRange program (routine_at program c.active.function) callee arguments count result)
    (site : IsSite program (routine_at inlined c.active.function) (origins_of origins c.active.function) (slots_of program inlined origins are c.active.function) c.active.function c.active.next
    (place_in program inlined origins are c.active.function c.active.next) (place_in program inlined origins are c.active.function (c.active.next + 1)) callee arguments count result) where
  abbrev d : Configuration
  d = beside program inlined origins are c b gs

  abbrev shift : ℕ
  shift = slots_of program inlined origins are c.active.function

  abbrev here : ℕ
  here = place_in program inlined origins are c.active.function c.active.next

  abbrev entry : List Instruction
  entry = passing shift arguments count ++ instructions.Enter callee ∷ []

  -- The caller's activation after the arguments are moved.
  abbrev passer : Activation
  passer = record b { slots = passed shift arguments count b.slots; next = b.next + count }

  abbrev e : Configuration
  e = beside program inlined origins are c passer gs

  -- ---- places

  has : HasAt (routine_at inlined b.function).code b.next entry
  has = subst (λ (q : CodePlace). HasAt (routine_at inlined q.function).code q.index entry) (sym (stands program inlined origins are c.active b here same.slotted same.next)) site.entry

  enter_at : instruction_at inlined (place_of (Running e)) ≡ Some (instructions.Enter callee)
  enter_at =
      ap (λ (n : ℕ). instruction_at inlined (place_at b.function (b.next + n))) (sym (passing_length shift arguments count))
      ∙ (has_back (routine_at inlined b.function).code b.next (passing shift arguments count) (instructions.Enter callee ∷ []) has).0

  abbrev places : List CodePlace
  places = places_after b.function b.next count ++ place_at b.function (b.next + count) ∷ []

  own_at : (k : ℕ) → k < suc count → Contains (own inlined origins (place_at c.active.function c.active.next)) (place_at b.function (b.next + k))
  own_at k below =
      let long = length-append (passing shift arguments count) (instructions.Enter callee ∷ []) in
      let (i, there) = has_each (routine_at inlined c.active.function).code here entry k site.entry (let l = passing_length shift arguments count in omega (arith, below, long, l)) in
      subst (Contains (own inlined origins (place_at c.active.function c.active.next))) (λ j. place_at (sym same.slotted.function j) (sym same.next j + k))
      (own_has inlined origins c.active.function (here + k) c.active.function c.active.next i there (site.made k (omega (arith, below))))

  inside : AllByRecursion (Contains (own inlined origins (place_at c.active.function c.active.next))) places
  inside =
      subst (AllByRecursion (Contains (own inlined origins (place_at c.active.function c.active.next)))) (sym (following_last b.function b.next count))
      (after_inside (own inlined origins (place_at c.active.function c.active.next)) b.function b.next (suc count) own_at)

  distinct : IsDistinct places
  distinct = subst IsDistinct (sym (following_last b.function b.next count)) (following-distinct b.function b.next (suc count))

  -- ---- the source call

  words : HoldsWords (Running e)
  words = (passed_words shift arguments count b.slots matches.words.0, matches.words.1, matches.words.2, matches.words.3, matches.words.4)

  -- The slots of the call in the source program correspond to the extra slots that its caller has in the inlined program.
  abbrev found : Words
  found = λ (k : ℕ). passer.slots (shift + k)

  abbrev chosen : Choice → Choice
  chosen choice = record { contents = found; base = choice.base; serving = choice.serving }

  abbrev entered : Choice → Configuration
  entered choice = record c {
    active = record { function = callee; next = 0; base = choice.base; slots = copied c.active.slots arguments count found 0; handlers = [] };
    frames = record { caller = (advanced c).active; result = result } ∷ c.frames;
  }

  -- The address chosen in the inlined program is allowed for the stack frame of the source call.
  allowed_above : (choice : Choice) → IsAllowed inlined (Running e) choice → IsAllowed program (Running c) (chosen choice)
  allowed_above choice allowed =
      let lies : IsBelow inlined callee choice.base b.base = subst (λ (o : Option ℕ). MayLie inlined choice.base o (Running e)) (ap callee_of enter_at) allowed.lies in
      called_at program c callee (chosen choice) (ap callee_of at) (λ k. words.0 (shift + k))
      (record {
        aligned = lies.aligned;
        low = lies.low;
        high = (let high = lies.high in let slots = (each_opened program inlined origins are callee).like.slots in let there = same.slotted.base in omega (arith, high, slots, there));
      })

  -- Each slot of the call in the source program equals the corresponding extra slot of the caller in the inlined program.
  slots_same : (k : ℕ) → passer.slots (shift + k) ≡ copied c.active.slots arguments count found 0 k
  slots_same k = elim (cases_lt k count) [
    | inl argument ↦
        passed_inside shift arguments count b.slots k (inr (let r = range.arguments_in_range in omega (arith, r))) argument
        ∙ (same.slotted.slots (arguments + k) (let r = range.arguments_in_range in omega (arith, argument, r))
        ∙ (sym (copied-inside c.active.slots found arguments count 0 k argument)
        ∙ ap (copied c.active.slots arguments count found 0) (let n : 0 + k ≡ k = omega arith in n)))
    | inr further ↦ sym (copied-above c.active.slots found arguments count 0 k (omega (arith, further)))
  ]

  lodged : (choice : Choice) → IsInside program inlined origins are (entered choice) (Running (advanced e))
  lodged choice = record {
    active = record passer { next = b.next + count + 1 };
    frames = gs;
    is = refl;
    lodged = record {
      waits = record { caller = (advanced c).active; result = result };
      rest = c.frames;
      frames = refl;
      slotted = record {
        function = same.slotted.function;
        base = same.slotted.base;
        handlers = same.slotted.handlers;
        records = same.slotted.records;
        slots = λ k below. passed_other shift arguments count b.slots k (inl below) ∙ same.slotted.slots k below;
      };
      waiting = waiting;
      index = c.active.next;
      arguments = arguments;
      count = count;
      following = refl;
      calls = at;
      site = site;
      slots = λ k below. slots_same k;
      handlers = refl;
    };
    next = ap (λ (n : ℕ). n + count + 1) same.next ∙ sym site.first;
  }

  within_same : (choice : Choice) → is_within pages (calls - 1) (Running (advanced e)) ≡ is_within pages calls (Running (entered choice))
  within_same choice =
      ap (λ (n : ℕ). nat_le (stores.demand c.store) pages && nat_le (suc n) (calls - 1)) (as_deep program inlined origins are c.active.function c.frames gs waiting)
      ∙ ap (λ (t : Bool). nat_le (stores.demand c.store) pages && t) (nat_le-one_less (length c.frames) calls)

  -- ---- the step

  arrives : (u : State) → Step inlined pages calls (Running e) u
      → IsMatchedStep (machine program pages calls) (machine inlined pages calls) (matching program inlined origins are plain fine pages calls) (Running c) places u
  arrives u (choice, allowed, is) =
      let next : State = limited_step program pages calls (chosen choice) (Running c) in
      let step : Step program pages calls (Running c) next = (chosen choice, allowed_above choice allowed, refl) in
      record {
        next = next;
        step = step;
        matches = kept program inlined origins are plain fine pages calls (Running c) (Running d) next u matches step alike
            (words_kept program inlined origins are plain fine pages calls (Running e) u words (choice, allowed, is));
        lighter = λ none. let long = length-append (places_after b.function b.next count) (place_at b.function (b.next + count) ∷ []) in absurd (omega (arith, none, long));
      }
    where
      below_is : u ≡ limited pages (calls - 1) (Running e) (Running (advanced e))
      below_is = is ∙ step_is inlined pages calls choice e (instructions.Enter callee) enter_at

      alike : Alike program inlined origins are (limited_step program pages calls (chosen choice) (Running c)) u
      alike =
          subst (λ (t : State). Alike program inlined origins are t u) (sym (step_is program pages calls (chosen choice) c (instructions.Call callee arguments count result) at))
          (subst (Alike program inlined origins are (limited pages calls (Running c) (Running (entered choice)))) (sym below_is)
          (alike_if program inlined origins are (is_within pages calls (Running (entered choice))) (is_within pages (calls - 1) (Running (advanced e)))
          (Running (entered choice)) (Ended Full c.output c.input) (Running (advanced e)) (Ended Full c.output c.input)
          (within_same choice) (inr (lodged choice)) refl))

  -- The moves that copy the arguments of an inlined call to the callee's slots have no observable effect.
  way : (slots : Words) (next : ℕ) → IsOnTheWay (machine program pages calls) (machine inlined pages calls) (Running c) (Running (beside program inlined origins are c (record b { slots = slots; next = next }) gs))
  way slots next =
      way_before (machine program pages calls) (machine inlined pages calls) (matching program inlined origins are plain fine pages calls) (Running c)
      (Running (beside program inlined origins are c (record b { slots = slots; next = next }) gs)) refl refl

  below_within : is_within pages calls (Running d) ≡ true
  below_within =
      ap (λ (n : ℕ). nat_le (stores.demand c.store) pages && nat_le (suc n) calls) (as_deep program inlined origins are c.active.function c.frames gs waiting)
      ∙ matches.within

  pub steps_opened : IsStepped (machine program pages calls) (machine inlined pages calls) (matching program inlined origins are plain fine pages calls) (Running c) (Running (beside program inlined origins are c b gs))
  steps_opened = record {
    places = places;
    distinct = distinct;
    inside = inside;
    comes = passes inlined pages calls
        (IsOnTheWay (machine program pages calls) (machine inlined pages calls) (Running c))
        (IsMatchedStep (machine program pages calls) (machine inlined pages calls) (matching program inlined origins are plain fine pages calls) (Running c) places)
        (place_at b.function (b.next + count) ∷ []) shift arguments count d (has_front (routine_at inlined b.function).code b.next (passing shift arguments count) (instructions.Enter callee ∷ []) has) below_within way
        (refl, way passer.slots passer.next, arrives);
  }
