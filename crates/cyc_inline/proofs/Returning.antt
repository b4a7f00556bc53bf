-- Simulation of the last step of an inlined call: a return or an exception.
use Rattle.std.proofs.Common.{◌≡◌, ℕ, suc, ◌+◌, ◌-◌, ◌<◌, ◌≤◌, true, List, [], ◌∷◌, ◌++◌, length, refl, sym, ap, subst, ◌∙◌, arith, inl, inr, append-nil}
use Rattle.std.specs.Prelude.{Some, Contains}
use Rattle.std.specs.List.{AllByRecursion}
use Rattle.std.proofs.lemmas.Bool.{cases_lt}
use Rattle.cyc_words.specs.Distinct.{IsDistinct}
use Rattle.cyc_words.specs.inside.Following.{Comes, IsOnTheWay, IsMatchedStep, IsStepped}
use Rattle.cyc_words.proofs.Matching.{by_one, way_before}
use Rattle.cyc_words.proofs.Members.{All_at}
use Rattle.cyc_plain.specs.declared.instruction.Instruction.{Instruction}
use Rattle.cyc_plain.specs.declared.instruction.Instruction.TheVariants as instructions
use Rattle.cyc_plain.specs.declared.instruction.Operand.{Operand}
use Rattle.cyc_plain.specs.inside.Program.{Program, CodePlace, routine_at}
use Rattle.cyc_plain.specs.inside.State.{Words, copied, Activation, Frame, Configuration, State, Running, place_of, HoldsWords}
use Rattle.cyc_plain.specs.inside.Step.{Choice, operand_word, returns, throws, performed, instruction_at, limited, limited_step, Step, machine}
use Rattle.cyc_plain.specs.inside.Straight.{At, HasAt, places_after}
use Rattle.cyc_plain.specs.inside.WellFormed.{IsCallInRange, IsInRange, IsOperand, IsPlain}
use Rattle.cyc_plain.proofs.Placed.{routine_in}
use Rattle.cyc_plain.proofs.RunLaws.{zeros, zeros_at, calls_nothing}
use Rattle.cyc_plain.proofs.SlotLaws.{copied-inside, copied-below, copied-above}
use Rattle.cyc_plain.proofs.Steps.{step_performs, function_known}
use Rattle.cyc_plain.proofs.Straight.{following-distinct}
use Rattle.cyc_inline.specs.declared.origin.Origin.{Origin}
use Rattle.cyc_inline.specs.inside.Opened.{passing, shifted_operand, origin_at, origins_of, AreMadeOf, GoesTo, AreOpened}
use Rattle.cyc_inline.proofs.Agreeing.{operand_agree}
use Rattle.cyc_inline.proofs.Costs.{place_at, own, own_has}
use Rattle.cyc_inline.proofs.Moves.{passed, passed_other, passed_inside}
use Rattle.cyc_inline.proofs.Waiting.{place_in, slots_of, AreCalls, beside, Outside, thrown_inside}
use Rattle.cyc_inline.proofs.Lodged.{IsLodged}
use Rattle.cyc_inline.proofs.Matched.{step_is, made_first, Alike, limited_outside, stands, finds, owns, Matches, matching, kept, words_kept}
use Rattle.cyc_inline.proofs.Passing.{passing_length, passed_words, following_last, after_inside, has_each, passes}
use Rattle.cyc_inline.proofs.Inside.{step_so, fewer_within, lodged_within}

module _ (program inlined : Program) (origins : List (List Origin)) (are : AreOpened program inlined origins) (plain : IsPlain program) (fine : IsPlain inlined) (pages calls : ℕ)
    (c : Configuration) (b : Activation) (gs : List Frame) (lodged : IsLodged program inlined origins are c b gs) (next : b.next ≡ lodged.site.place c.active.next)
    (matches : Matches program inlined origins are plain fine pages calls (Running c) (Running (beside program inlined origins are c b gs)))
    (i : Instruction) (at : At (routine_at program c.active.function).code c.active.next i) where
  abbrev d : Configuration
  d = beside program inlined origins are c b gs

  abbrev f : Frame
  f = lodged.waits

  abbrev shift : ℕ
  shift = slots_of program inlined origins are lodged.waits.caller.function

  abbrev here : ℕ
  here = lodged.site.place c.active.next

  abbrev code : List Instruction
  code = (routine_at inlined lodged.waits.caller.function).code

  abbrev others : List Origin
  others = origins_of origins lodged.waits.caller.function

  abbrev from : Origin
  from = origin_at c.active.function c.active.next

  abbrev own_places : List CodePlace
  own_places = own inlined origins (place_at c.active.function c.active.next)

  -- ---- a return

  module _ (value : ℕ) (does : performed program zeros c i ≡ returns c value (routine_at program c.active.function).results c.frames) (free : calls_nothing i ≡ true)
      (inside : value + (routine_at program c.active.function).results ≤ (routine_at program c.active.function).slots)
      (moves : HasAt (routine_at inlined lodged.waits.caller.function).code (lodged.site.place c.active.next)
      (passing lodged.waits.result (slots_of program inlined origins are lodged.waits.caller.function + value) (routine_at program c.active.function).results))
      (made : AreMadeOf (origins_of origins lodged.waits.caller.function) (lodged.site.place c.active.next) (routine_at program c.active.function).results (origin_at c.active.function c.active.next)) where
    abbrev results : ℕ
    results = (routine_at program c.active.function).results

    abbrev returning : List Instruction
    returning = passing f.result (shift + value) results

    -- The slots that receive the results of the inlined call are the caller's own slots.
    apart : f.result + results ≤ shift
    apart =
        let known = function_known program (place_at f.caller.function lodged.index) (instructions.Call c.active.function lodged.arguments lodged.count f.result) lodged.calls in
        let r = routine_in program f.caller.function plain.well_formed known in
        let range : IsCallInRange program (routine_at program f.caller.function) c.active.function lodged.arguments lodged.count f.result =
        All_at (IsInRange program (routine_at program f.caller.function)) (routine_at program f.caller.function).code lodged.index (instructions.Call c.active.function lodged.arguments lodged.count f.result) r.instructions lodged.calls in
        range.result_in_range

    -- The configuration of the source program after the call's return, in which the caller continues.
    abbrev e : Configuration
    e = record c { active = record f.caller { slots = copied c.active.slots value results f.caller.slots f.result }; frames = lodged.rest }

    above : Step program pages calls (Running c) (Running e)
    above =
        step_so program pages calls c i (Running e) at free (does ∙ ap (returns c value results) lodged.frames)
        (fewer_within pages calls c e refl (let long = ap length lodged.frames in omega (arith, long)) matches.within)

    -- The caller's activation in the inlined program after the results of the inlined call are moved to the caller's slots.
    abbrev passer : ℕ → Activation
    passer to = record b { slots = passed f.result (shift + value) results b.slots; next = to }

    abbrev below : ℕ → Configuration
    below to = beside program inlined origins are c (passer to) gs

    -- The code position at which the caller continues in the inlined program after the call.
    abbrev target : ℕ
    target = place_in program inlined origins are f.caller.function (lodged.index + 1)

    words : (to : ℕ) → HoldsWords (Running (below to))
    words to = (passed_words f.result (shift + value) results b.slots matches.words.0, matches.words.1, matches.words.2, matches.words.3, matches.words.4)

    -- Moving the results one by one equals copying the results at once.
    slots_same : (k : ℕ) → k < shift → passed f.result (shift + value) results b.slots k ≡ copied c.active.slots value results f.caller.slots f.result k
    slots_same k below = elim (cases_lt k f.result) [
      | inl before ↦
          passed_other f.result (shift + value) results b.slots k (inl before)
          ∙ (lodged.slotted.slots k below ∙ sym (copied-below c.active.slots f.caller.slots value results f.result k before))
      | inr since ↦ elim (cases_lt k (f.result + results)) [
        | inl within ↦
            let j : ℕ = k - f.result in
            let less : k - f.result < results = omega (arith, since, within) in
            let is : k ≡ f.result + (k - f.result) = omega (arith, since) in
            ap (passed f.result (shift + value) results b.slots) is
            ∙ (passed_inside f.result (shift + value) results b.slots j (inl (let a = apart in omega (arith, a))) less
            ∙ (ap b.slots (let n : shift + value + (k - f.result) ≡ shift + (value + (k - f.result)) = omega arith in n)
            ∙ (lodged.slots (value + j) (omega (arith, less, inside))
            ∙ (sym (copied-inside c.active.slots f.caller.slots value results f.result j less) ∙ ap (copied c.active.slots value results f.caller.slots f.result) (sym is)))))
        | inr past ↦
            passed_other f.result (shift + value) results b.slots k (inr past)
            ∙ (lodged.slotted.slots k below ∙ sym (copied-above c.active.slots f.caller.slots value results f.result k past))
      ]
    ]

    calls_same : AreCalls program inlined origins are e.active (passer target)
    calls_same = record {
      slotted = record {
        function = lodged.slotted.function;
        base = lodged.slotted.base;
        handlers = lodged.slotted.handlers;
        records = lodged.slotted.records;
        slots = slots_same;
      };
      next = ap (place_in program inlined origins are f.caller.function) (sym lodged.following);
    }

    -- After the steps that replace the return of an inlined callee, the inlined call is over in both programs.
    arrives : (places : List CodePlace) (u : State) → u ≡ Running (below target) → IsMatchedStep (machine program pages calls) (machine inlined pages calls) (matching program inlined origins are plain fine pages calls) (Running c) places u
    arrives places u is = record {
      next = Running e;
      step = above;
      matches = kept program inlined origins are plain fine pages calls (Running c) (Running d) (Running e) u matches above
          (inl (record { active = passer target; frames = gs; is = is; calls = calls_same; waiting = lodged.waiting }))
          (subst HoldsWords (sym is) (words target));
      lighter = λ none. let long = ap length lodged.frames in omega (arith, long);
    }

    -- ---- the places of the moves

    stands_here : (k : ℕ) → place_at b.function (b.next + k) ≡ place_at f.caller.function (here + k)
    stands_here k = λ n. place_at (lodged.slotted.function n) (next n + k)

    has : HasAt (routine_at inlined b.function).code b.next returning
    has = subst (λ (q : CodePlace). HasAt (routine_at inlined q.function).code q.index returning) (sym (stands program inlined origins are f.caller b here lodged.slotted next)) moves

    own_at : (k : ℕ) → k < results → Contains own_places (place_at b.function (b.next + k))
    own_at k less =
        let (j, there) = has_each code here returning k moves (let l = passing_length f.result (shift + value) results in omega (arith, less, l)) in
        subst (Contains own_places) (sym (stands_here k)) (own_has inlined origins f.caller.function (here + k) c.active.function c.active.next j there (made k less))

    way : (slots : Words) (to : ℕ) → IsOnTheWay (machine program pages calls) (machine inlined pages calls) (Running c) (Running (beside program inlined origins are c (record b { slots = slots; next = to }) gs))
    way slots to =
        way_before (machine program pages calls) (machine inlined pages calls) (matching program inlined origins are plain fine pages calls) (Running c)
        (Running (beside program inlined origins are c (record b { slots = slots; next = to }) gs)) refl refl

    abbrev IsStep : Type 0
    IsStep = IsStepped (machine program pages calls) (machine inlined pages calls) (matching program inlined origins are plain fine pages calls) (Running c) (Running d)

    through : (others places : List CodePlace) → Comes (machine inlined pages calls) (IsOnTheWay (machine program pages calls) (machine inlined pages calls) (Running c)) (IsMatchedStep (machine program pages calls) (machine inlined pages calls) (matching program inlined origins are plain fine pages calls) (Running c) places) others (Running (below (b.next + results)))
        → Comes (machine inlined pages calls) (IsOnTheWay (machine program pages calls) (machine inlined pages calls) (Running c)) (IsMatchedStep (machine program pages calls) (machine inlined pages calls) (matching program inlined origins are plain fine pages calls) (Running c) places) (places_after b.function b.next results ++ others) (Running d)
    through others places goal =
        passes inlined pages calls (IsOnTheWay (machine program pages calls) (machine inlined pages calls) (Running c))
        (IsMatchedStep (machine program pages calls) (machine inlined pages calls) (matching program inlined origins are plain fine pages calls) (Running c) places)
        others f.result (shift + value) results d has (lodged_within program inlined origins are pages calls c b gs lodged matches.within) way goal

    -- After the moves of the results, control falls through to the code position after the call.
    falls : here + results ≡ target → IsStep
    falls to =
        let places : List CodePlace = places_after b.function b.next results ++ [] in
        record {
          places = places;
          distinct = subst IsDistinct (sym (append-nil (places_after b.function b.next results))) (following-distinct b.function b.next results);
          inside = subst (AllByRecursion (Contains own_places)) (sym (append-nil (places_after b.function b.next results))) (after_inside own_places b.function b.next results own_at);
          comes = through [] places (arrives places (Running (below (b.next + results))) (ap (λ (n : ℕ). Running (below n)) (ap (λ (n : ℕ). n + results) next ∙ to)));
        }

    -- The case in which a jump after the moves of the results leads to the position where the caller continues.
    module _ (jump_at : At (routine_at inlined lodged.waits.caller.function).code (lodged.site.place c.active.next + (routine_at program c.active.function).results) (instructions.Jump (place_in program inlined origins are lodged.waits.caller.function (lodged.index + 1))))
        (jump_made : AreMadeOf (origins_of origins lodged.waits.caller.function) (lodged.site.place c.active.next + (routine_at program c.active.function).results) 1 (origin_at c.active.function c.active.next)) where
      abbrev last : CodePlace
      last = place_at b.function (b.next + results)

      jumps : instruction_at inlined (place_of (Running (below (b.next + results)))) ≡ Some (instructions.Jump target)
      jumps = ap (instruction_at inlined) (stands_here results) ∙ jump_at

      own_each : (k : ℕ) → k < suc results → Contains own_places (place_at b.function (b.next + k))
      own_each k less = elim (cases_lt k results) [
        | inl before ↦ own_at k before
        | inr since ↦
            let is : results ≡ k = omega (arith, less, since) in
            subst (λ (n : ℕ). Contains own_places (place_at b.function (b.next + n))) is
            (subst (Contains own_places) (sym (stands_here results))
            (own_has inlined origins f.caller.function (here + results) c.active.function c.active.next (instructions.Jump target) jump_at
            (made_first others (here + results) 1 from (omega arith) jump_made)))
      ]

      abbrev all : List CodePlace
      all = places_after b.function b.next results ++ last ∷ []

      jumped : IsStep
      jumped = record {
        places = all;
        distinct = subst IsDistinct (sym (following_last b.function b.next results)) (following-distinct b.function b.next (suc results));
        inside = subst (AllByRecursion (Contains own_places)) (sym (following_last b.function b.next results)) (after_inside own_places b.function b.next (suc results) own_each);
        comes = through (last ∷ []) all (
          refl,
          way (passer 0).slots (b.next + results),
          λ u step.
              arrives all u
              (step_performs inlined pages calls (below (b.next + results)) (instructions.Jump target) u jumps
              (λ choice. fewer_within pages calls d (below target) refl (omega arith) (lodged_within program inlined origins are pages calls c b gs lodged matches.within)) step).2,
        );
      }

    pub steps_returned : GoesTo (routine_at inlined lodged.waits.caller.function).code (origins_of origins lodged.waits.caller.function) (lodged.site.place c.active.next + (routine_at program c.active.function).results)
        (place_in program inlined origins are lodged.waits.caller.function (lodged.index + 1)) (origin_at c.active.function c.active.next)
        → IsStepped (machine program pages calls) (machine inlined pages calls) (matching program inlined origins are plain fine pages calls) (Running c) (Running (beside program inlined origins are c b gs))
    steps_returned (inl to) = falls to
    steps_returned (inr (jump_at, jump_made)) = jumped jump_at jump_made

  -- ---- an exception

  module _ (tag value : Operand) (is : i ≡ instructions.Throw tag value) (range : IsOperand (routine_at program c.active.function) tag × IsOperand (routine_at program c.active.function) value)
      (there : At (routine_at inlined lodged.waits.caller.function).code (lodged.site.place c.active.next) (instructions.Throw (shifted_operand (slots_of program inlined origins are lodged.waits.caller.function) tag) (shifted_operand (slots_of program inlined origins are lodged.waits.caller.function) value)))
      (made : AreMadeOf (origins_of origins lodged.waits.caller.function) (lodged.site.place c.active.next) 1 (origin_at c.active.function c.active.next)) where
    abbrev above_throw : Instruction
    above_throw = instructions.Throw tag value

    abbrev below_throw : Instruction
    below_throw = instructions.Throw (shifted_operand shift tag) (shifted_operand shift value)

    throw_at : instruction_at program (place_of (Running c)) ≡ Some (instructions.Throw tag value)
    throw_at = at ∙ ap (λ (x : Instruction). Some x) is

    below_at : instruction_at inlined (place_of (Running d)) ≡ Some (instructions.Throw (shifted_operand shift tag) (shifted_operand shift value))
    below_at = finds program inlined origins are f.caller b here below_throw lodged.slotted next there

    word_same : (operand : Operand) → IsOperand (routine_at program c.active.function) operand → operand_word b.slots (shifted_operand shift operand) ≡ operand_word c.active.slots operand
    word_same operand known = operand_agree (routine_at program c.active.function) shift c.active.slots b.slots operand lodged.slots known

    thrown : (choice other : Choice) → Outside program inlined origins are (performed program choice c above_throw) (performed inlined other d below_throw)
    thrown choice other =
        subst (λ (x : ℕ). Outside program inlined origins are (performed program choice c above_throw) (throws d x (operand_word b.slots (shifted_operand shift value)) b gs)) (sym (word_same tag range.0))
        (subst (λ (x : ℕ). Outside program inlined origins are (performed program choice c above_throw) (throws d (operand_word c.active.slots tag) x b gs)) (sym (word_same value range.1))
        (subst (λ (frames : List Frame). Outside program inlined origins are (throws c (operand_word c.active.slots tag) (operand_word c.active.slots value) c.active frames) (throws d (operand_word c.active.slots tag) (operand_word c.active.slots value) b gs)) (sym lodged.frames)
        (thrown_inside program inlined origins are c b gs (operand_word c.active.slots tag) (operand_word c.active.slots value) c.active b f lodged.rest gs lodged.handlers lodged.slotted lodged.waiting)))

    goes : (u : State) → Step inlined pages calls (Running d) u
        → (s : State) × Step program pages calls (Running c) s × Matches program inlined origins are plain fine pages calls s u
    goes u (choice, allowed, below_is) =
        let s : State = limited_step program pages calls zeros (Running c) in
        let step : Step program pages calls (Running c) s = (zeros, zeros_at program c above_throw throw_at refl, refl) in (
          s,
          step,
          kept program inlined origins are plain fine pages calls (Running c) (Running d) s u matches step alike (words_kept program inlined origins are plain fine pages calls (Running d) u matches.words (choice, allowed, below_is)),
        )
      where
        alike : Alike program inlined origins are (limited_step program pages calls zeros (Running c)) u
        alike =
            subst (λ (t : State). Alike program inlined origins are t u) (sym (step_is program pages calls zeros c above_throw throw_at))
            (subst (Alike program inlined origins are (limited pages calls (Running c) (performed program zeros c above_throw))) (sym (below_is ∙ step_is inlined pages calls choice d below_throw below_at))
            (limited_outside program inlined origins are pages calls c b gs (performed program zeros c above_throw) (performed inlined choice d below_throw) (thrown zeros choice)))

    pub steps_thrown : IsStepped (machine program pages calls) (machine inlined pages calls) (matching program inlined origins are plain fine pages calls) (Running c) (Running (beside program inlined origins are c b gs))
    steps_thrown =
        by_one (machine program pages calls) (machine inlined pages calls) (matching program inlined origins are plain fine pages calls) (Running c) (Running d) matches refl
        (owns program inlined origins are f.caller b here c.active.function c.active.next below_throw lodged.slotted next there (made_first others here 1 from (omega arith) made))
        goes
