-- Simulation of an instruction outside inlined calls, before which hoisted instructions and a duplicate of the instruction are put.
-- Several steps of the inlined program match one step of the source program. The steps of hoisted instructions and duplicates write slots
-- that the source program's call does not have. After the steps of the instructions put before it, the instruction itself has the same
-- effect in both programs.
use Rattle.std.proofs.Common.{◌≡◌, ℕ, suc, ◌+◌, ◌<◌, ◌≤◌, Bool, true, false, ◌&&◌, List, [], ◌∷◌, ◌++◌, length, Option, Some, None, refl, sym, ap, subst, ◌∙◌, arith, inl, inr, length-append}
use Rattle.std.specs.Prelude.{nat_le, Contains, if◌then◌else◌}
use Rattle.std.specs.List.{AllByRecursion}
use Rattle.cyc_words.specs.Simulation as simulation
use Rattle.cyc_words.specs.Word.{add_of}
use Rattle.cyc_words.specs.inside.Following.{Comes, IsOnTheWay, IsMatchedStep, IsStepped}
use Rattle.cyc_words.proofs.Booleans.{false_from_not}
use Rattle.cyc_words.proofs.Matching.{way_before}
use Rattle.cyc_store.specs.State as stores
use Rattle.cyc_plain.specs.declared.instruction.BinaryOperator.{BinaryOperator}
use Rattle.cyc_plain.specs.declared.instruction.BinaryOperator.TheVariants as binary
use Rattle.cyc_plain.specs.declared.instruction.Instruction.{Instruction}
use Rattle.cyc_plain.specs.declared.instruction.Instruction.TheVariants as instructions
use Rattle.cyc_plain.specs.declared.instruction.Operand.{Operand}
use Rattle.cyc_plain.specs.inside.Memory.{memory_at}
use Rattle.cyc_plain.specs.inside.Operators.{binary_result, has_no_result}
use Rattle.cyc_plain.specs.inside.Program.{Routine, Program, CodePlace, routine_at}
use Rattle.cyc_plain.specs.inside.State.{put, Activation, Frame, Configuration, State, Running, Stuck, status_of, place_of, HoldsWords}
use Rattle.cyc_plain.specs.inside.Step.{Choice, gives, operand_word, loads, performed, instruction_at, is_within, limit_of, limited, limited_step, Step, machine}
use Rattle.cyc_plain.specs.inside.Straight.{At, HasAt, places_after}
use Rattle.cyc_plain.specs.inside.WellFormed.{IsInRange, IsPlain}
use Rattle.cyc_plain.proofs.RunLaws.{zeros, zeros_at, limit_free, stuck_within}
use Rattle.cyc_plain.proofs.SlotLaws.{put-other}
use Rattle.cyc_plain.proofs.Steps.{step_performs}
use Rattle.cyc_plain.proofs.Straight.{following-distinct}
use Rattle.cyc_inline.specs.declared.origin.Origin.{Origin}
use Rattle.cyc_inline.specs.inside.Opened.{moved, is_division, may_have_duplicate, duplicate, may_follow_hoisted, IsHoisted, MayPrecede, AreOpened}
use Rattle.cyc_inline.proofs.Costs.{place_at, own, own_has}
use Rattle.cyc_inline.proofs.Agreeing.{agree_from}
use Rattle.cyc_inline.proofs.Waiting.{place_in, AreSlotted, AreCalls, AreWaiting, as_deep, beside, Outside}
use Rattle.cyc_inline.proofs.Memory.{memory_outside}
use Rattle.cyc_inline.proofs.Performing.{is_ordinary, performs}
use Rattle.cyc_inline.proofs.Outside.{bears, operand_same}
use Rattle.cyc_inline.proofs.Matched.{step_is, Alike, limited_outside, finds, Matches, matching, kept, words_kept}
use Rattle.cyc_inline.proofs.Steps.{IsPrecededHere}
use Rattle.cyc_inline.proofs.Passing.{after_inside, has_each}
use Rattle.cyc_inline.proofs.Inside.{ordinary_calls, ordinary_limit, step_so}

-- An instruction that hoisted instructions may precede is ordinary: control falls through to the next instruction.
preceded_ordinary : (i : Instruction) → may_follow_hoisted i ≡ true → is_ordinary i ≡ true
preceded_ordinary (instructions.Move destination source) may = refl
preceded_ordinary (instructions.MoveWords destination source count) may = refl
preceded_ordinary (instructions.Unary operator destination operand) may = refl
preceded_ordinary (instructions.Binary operator destination left right) may = refl
preceded_ordinary (instructions.Branch comparison left right target) may = refl
preceded_ordinary (instructions.ReadByte destination) may = refl
preceded_ordinary (instructions.WriteByte source) may = refl
preceded_ordinary (instructions.LoadGlobal destination global) may = refl
preceded_ordinary (instructions.StoreGlobal global source) may = refl
preceded_ordinary (instructions.Load destination address offset) may = refl
preceded_ordinary (instructions.Store address offset source) may = refl
preceded_ordinary (instructions.LoadByte destination address offset) may = refl
preceded_ordinary (instructions.StoreByte address offset source) may = refl
preceded_ordinary i may = absurd (let e : false ≡ true = may in cc)

-- Every operator except division has a result for all operands.
has_result : (operator : BinaryOperator) (b : ℕ) → is_division operator ≡ false → has_no_result operator b ≡ false
has_result binary.Divide b none = absurd (let e : true ≡ false = none in cc)
has_result binary.Remainder b none = absurd (let e : true ≡ false = none in cc)
has_result operator b none = refl

preceded_no_division : (t : Bool) (destination slot : ℕ) → (if t then None else Some destination) ≡ Some slot → (t ≡ false) × (destination ≡ slot)
preceded_no_division true destination slot is = absurd (let e : None ≡ Some slot = is in cc)
preceded_no_division false destination slot is = (refl, let e : Some destination ≡ Some slot = is in cc)

module _ (program inlined : Program) (origins : List (List Origin)) (are : AreOpened program inlined origins) (plain : IsPlain program) (fine : IsPlain inlined) (pages calls : ℕ)
    (c : Configuration) (b : Activation) (gs : List Frame)
    (same : AreCalls program inlined origins are c.active b) (waiting : AreWaiting program inlined origins are c.active.function c.frames gs)
    (matches : Matches program inlined origins are plain fine pages calls (Running c) (Running (beside program inlined origins are c b gs)))
    (never : (next : State) → Step program pages calls (Running c) next → status_of next ≡ simulation.Failed → ⊥)
    (i : Instruction) (at : At (routine_at program c.active.function).code c.active.next i) (range : IsInRange program (routine_at program c.active.function) i)
    (preceded : IsPrecededHere program inlined origins are c.active.function c.active.next i) where
  abbrev d : Configuration
  d = beside program inlined origins are c b gs

  abbrev r : Routine
  r = routine_at program c.active.function

  abbrev s : Routine
  s = routine_at inlined c.active.function

  abbrev place : ℕ → ℕ
  place = place_in program inlined origins are c.active.function

  -- The instruction itself as it occurs in the inlined program, with moved jump targets, after the instructions put before it.
  abbrev j : Instruction
  j = moved 0 place i

  abbrev Precedes : Instruction → Type 0
  Precedes = MayPrecede r.slots s.slots i

  ordinary : is_ordinary i ≡ true
  ordinary = preceded_ordinary i preceded.may

  abbrev count : ℕ
  count = suc (length preceded.front)

  abbrev places : List CodePlace
  places = places_after b.function b.next count

  abbrev Way : State → Type 0
  Way = IsOnTheWay (machine program pages calls) (machine inlined pages calls) (Running c)

  abbrev Goal : State → Type 0
  Goal = IsMatchedStep (machine program pages calls) (machine inlined pages calls) (matching program inlined origins are plain fine pages calls) (Running c) places

  -- ---- each preceding instruction computes a word

  module _ (knower : Activation) (slotted : AreSlotted program inlined origins are c.active knower) where
    abbrev here : Configuration
    here = beside program inlined origins are c knower gs

    pub record FindsWord (x : Instruction) : Type 0 where
      pub slot : ℕ
      pub word : ℕ
      pub further : r.slots ≤ slot
      pub limit : limit_of (Some x) calls ≡ calls
      pub does : (choice : Choice) → performed inlined choice (beside program inlined origins are c knower gs) x ≡ gives (beside program inlined origins are c knower gs) slot word

    divides_not : (operator : BinaryOperator) (destination : ℕ) (left right : Operand) (choice : Choice) → is_division operator ≡ false
        → performed inlined choice here (instructions.Binary operator destination left right) ≡ gives here destination (binary_result operator (operand_word knower.slots left) (operand_word knower.slots right))
    divides_not operator destination left right choice none =
        ap (λ (fails : Bool). if fails then Stuck c.output c.input else gives here destination (binary_result operator (operand_word knower.slots left) (operand_word knower.slots right)))
        (has_result operator (operand_word knower.slots right) none)

    -- A hoisted instruction writes a word to its slot and has no other effect.
    by_hoisted : (x : Instruction) → IsHoisted r.slots s.slots x → FindsWord x
    by_hoisted (instructions.Move destination source) hoisted = record {
      slot = destination;
      word = operand_word knower.slots source;
      further = (let e : Some destination ≡ Some hoisted.slot = hoisted.is in let is : destination ≡ hoisted.slot = cc in let further = hoisted.further in omega (arith, is, further));
      limit = refl;
      does = λ choice. refl;
    }
    by_hoisted (instructions.Binary operator destination left right) hoisted =
        let (none, is) = preceded_no_division (is_division operator) destination hoisted.slot hoisted.is in
        record {
          slot = destination;
          word = binary_result operator (operand_word knower.slots left) (operand_word knower.slots right);
          further = (let further = hoisted.further in omega (arith, is, further));
          limit = refl;
          does = λ choice. divides_not operator destination left right choice none;
        }
    by_hoisted (instructions.LoadGlobal destination global) hoisted = record {
      slot = destination;
      word = c.globals global;
      further = (let e : Some destination ≡ Some hoisted.slot = hoisted.is in let is : destination ≡ hoisted.slot = cc in let further = hoisted.further in omega (arith, is, further));
      limit = refl;
      does = λ choice. refl;
    }
    by_hoisted x hoisted = absurd (let e : None ≡ Some hoisted.slot = hoisted.is in cc)

    -- The duplicate of an instruction computes a word, unless the source program gets stuck.
    loaded : (destination offset slot : ℕ) (address : Operand) (o : Option ℕ) → r.slots ≤ slot → i ≡ instructions.Load destination address offset
        → memory_at program c (add_of (operand_word c.active.slots address) offset) ≡ o
        → memory_at inlined here (add_of (operand_word knower.slots address) offset) ≡ o → FindsWord (instructions.Load slot address offset)
    loaded destination offset slot address (Some word) further is above below =
        record { slot = slot; word = word; further = further; limit = refl; does = λ choice. ap (loads here slot) below }
    loaded destination offset slot address None further is above below =
        absurd (never (Stuck c.output c.input)
        (step_so program pages calls c i (Stuck c.output c.input) at (ordinary_calls i ordinary) (ap (performed program zeros c) is ∙ ap (loads c destination) above) (stuck_within pages calls c.output c.input))
        refl)

    by_duplicate : (y : Instruction) (slot : ℕ) → r.slots ≤ slot → may_have_duplicate y ≡ true → i ≡ y → IsInRange program r y → FindsWord (duplicate slot y)
    by_duplicate (instructions.Binary operator destination left right) slot further may is inside = record {
      slot = slot;
      word = binary_result operator (operand_word knower.slots left) (operand_word knower.slots right);
      further = further;
      limit = refl;
      does = λ choice. divides_not operator slot left right choice (false_from_not (is_division operator) may);
    }
    by_duplicate (instructions.LoadGlobal destination global) slot further may is inside =
        record { slot = slot; word = c.globals global; further = further; limit = refl; does = λ choice. refl }
    by_duplicate (instructions.Load destination address offset) slot further may is (inside, first) =
        loaded destination offset slot address (memory_at program c (add_of (operand_word c.active.slots address) offset)) further is refl
        (ap (λ (a : ℕ). memory_at inlined here (add_of a offset)) (operand_same program inlined origins are plain.well_formed c knower gs slotted waiting address first)
        ∙ memory_outside program inlined origins are plain.well_formed c knower gs slotted waiting (add_of (operand_word c.active.slots address) offset))
    by_duplicate y slot further may is inside = absurd (let e : false ≡ true = may in cc)

    pub finds_word : (x : Instruction) → Precedes x → FindsWord x
    finds_word x (inl hoisted) = by_hoisted x hoisted
    finds_word x (inr it) = subst FindsWord (sym it.is) (by_duplicate i it.slot it.further it.may refl range)

    -- ---- the duplicated instruction has the effect of the source's instruction

    module _ (itself : At s.code knower.next j) (falls : knower.next + 1 ≡ place (c.active.next + 1)) where
      itself_at : instruction_at inlined (place_of (Running here)) ≡ Some j
      itself_at = finds program inlined origins are c.active knower knower.next j slotted refl itself

      pub goes : (v : State) → HoldsWords (Running (beside program inlined origins are c knower gs)) → Step inlined pages calls (Running (beside program inlined origins are c knower gs)) v
          → IsMatchedStep (machine program pages calls) (machine inlined pages calls) (matching program inlined origins are plain fine pages calls) (Running c)
          (places_after b.function b.next (suc (length preceded.front))) v
      goes v words (choice, allowed, is) =
          let next : State = limited_step program pages calls zeros (Running c) in
          let step : Step program pages calls (Running c) next = (zeros, zeros_at program c i at (ordinary_calls i ordinary), refl) in
          record {
            next = next;
            step = step;
            matches = kept program inlined origins are plain fine pages calls (Running c) (Running d) next v matches step alike
                (words_kept program inlined origins are plain fine pages calls (Running here) v words (choice, allowed, is));
            lighter = λ none. absurd (omega (arith, none));
          }
        where
          above_is : limited_step program pages calls zeros (Running c) ≡ limited pages calls (Running c) (performed program zeros c i)
          above_is =
              step_is program pages calls zeros c i at
              ∙ ap (λ (n : ℕ). limited pages n (Running c) (performed program zeros c i)) (limit_free i calls (ordinary_calls i ordinary))

          below_is : v ≡ limited pages calls (Running here) (performed inlined choice here j)
          below_is =
              is ∙ (step_is inlined pages calls choice here j itself_at
              ∙ ap (λ (n : ℕ). limited pages n (Running here) (performed inlined choice here j)) (ordinary_limit 0 place calls i ordinary))

          alike : Alike program inlined origins are (limited_step program pages calls zeros (Running c)) v
          alike =
              subst (λ (t : State). Alike program inlined origins are t v) (sym above_is)
              (subst (Alike program inlined origins are (limited pages calls (Running c) (performed program zeros c i))) (sym below_is)
              (limited_outside program inlined origins are pages calls c knower gs (performed program zeros c i) (performed inlined choice here j)
              (performs program inlined r 0 place c knower gs (knower.next + 1 ≡ place (c.active.next + 1)) zeros choice
              (agree_from r.slots c.active.slots knower.slots slotted.slots) (Outside program inlined origins are)
              (bears program inlined origins are plain.well_formed c knower gs slotted waiting) i ordinary range (λ stays. falls))))

  -- ---- the steps of the preceding instructions

  -- The steps of the instructions put before an instruction have no observable effect.
  way : (knower : Activation) → Way (Running (beside program inlined origins are c knower gs))
  way knower =
      way_before (machine program pages calls) (machine inlined pages calls) (matching program inlined origins are plain fine pages calls) (Running c)
      (Running (beside program inlined origins are c knower gs)) refl refl

  within : is_within pages calls (Running d) ≡ true
  within =
      ap (λ (n : ℕ). nat_le (stores.demand c.store) pages && nat_le (suc n) calls) (as_deep program inlined origins are c.active.function c.frames gs waiting)
      ∙ matches.within

  -- The active call after one of the instructions put before an instruction has written its slot.
  abbrev knowing : Activation → (slot word : ℕ) → Activation
  knowing knower slot word = record knower { slots = put knower.slots slot word; next = knower.next + 1 }

  still : (knower : Activation) (slot word : ℕ) → r.slots ≤ slot → AreSlotted program inlined origins are c.active knower → AreSlotted program inlined origins are c.active (knowing knower slot word)
  still knower slot word further slotted = record {
    function = slotted.function;
    base = slotted.base;
    handlers = slotted.handlers;
    records = slotted.records;
    slots = λ k below. put-other knower.slots slot k word (λ equal. omega (arith, equal, below, further)) ∙ slotted.slots k below;
  }

  through : (front : List Instruction) (knower : Activation) → AreSlotted program inlined origins are c.active knower → HoldsWords (Running (beside program inlined origins are c knower gs))
      → HasAt s.code knower.next (front ++ j ∷ []) → AllByRecursion Precedes front → knower.next + suc (length front) ≡ place (c.active.next + 1)
      → Comes (machine inlined pages calls) Way Goal (places_after knower.function knower.next (suc (length front))) (Running (beside program inlined origins are c knower gs))
  through [] knower slotted words (itself, nothing) each falls = (refl, way knower, λ v step. goes knower slotted itself falls v words step)
  through (x ∷ front) knower slotted words (first, rest) (may, each) falls =
      let found : FindsWord knower slotted x = finds_word knower slotted x may in
      let following : Activation = knowing knower found.slot found.word in (
        refl,
        way knower,
        λ u step.
            let comes_to : u ≡ Running (beside program inlined origins are c following gs) = arrives knower slotted x found first u step in
            subst (Comes (machine inlined pages calls) Way Goal (places_after knower.function (knower.next + 1) (suc (length front)))) (sym comes_to)
            (through front following (still knower found.slot found.word found.further slotted)
            (subst HoldsWords comes_to (words_kept program inlined origins are plain fine pages calls (Running (beside program inlined origins are c knower gs)) u words step))
            rest each (omega (arith, falls))),
      )
    where
      arrives : (knower : Activation) (slotted : AreSlotted program inlined origins are c.active knower) (x : Instruction) (found : FindsWord knower slotted x) → At s.code knower.next x
          → (u : State) → Step inlined pages calls (Running (beside program inlined origins are c knower gs)) u
          → u ≡ Running (beside program inlined origins are c (knowing knower found.slot found.word) gs)
      arrives knower slotted x found first u step =
          let (choice, allowed, is) =
          step_performs inlined pages calls (beside program inlined origins are c knower gs) x u (finds program inlined origins are c.active knower knower.next x slotted refl first)
          (λ choice. ap (λ (n : ℕ). is_within pages n (performed inlined choice (beside program inlined origins are c knower gs) x)) found.limit ∙ (ap (is_within pages calls) (found.does choice) ∙ within)) step in
          is ∙ found.does choice

  own_at : (k : ℕ) → k < count → Contains (own inlined origins (place_at c.active.function c.active.next)) (place_at b.function (b.next + k))
  own_at k below =
      let long = length-append preceded.front (j ∷ []) in
      let (x, there) = has_each s.code (place c.active.next) (preceded.front ++ j ∷ []) k preceded.at (omega (arith, below, long)) in
      subst (Contains (own inlined origins (place_at c.active.function c.active.next))) (λ n. place_at (sym same.slotted.function n) (sym same.next n + k))
      (own_has inlined origins c.active.function (place c.active.next + k) c.active.function c.active.next x there (preceded.made k below))

  pub steps_preceded : IsStepped (machine program pages calls) (machine inlined pages calls) (matching program inlined origins are plain fine pages calls) (Running c) (Running (beside program inlined origins are c b gs))
  steps_preceded = record {
    places = places;
    distinct = following-distinct b.function b.next count;
    inside = after_inside (own inlined origins (place_at c.active.function c.active.next)) b.function b.next count own_at;
    comes = through preceded.front b same.slotted matches.words (subst (λ (n : ℕ). HasAt s.code n (preceded.front ++ j ∷ [])) (sym same.next) preceded.at) preceded.each
        (let here = same.next in let next = preceded.next in omega (arith, here, next));
  }
