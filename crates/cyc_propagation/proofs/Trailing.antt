-- The facts about a call's slots that an instruction preserves, and those that it establishes.
use Rattle.std.proofs.Common.{◌≡◌, ◌≢◌, ℕ, suc, ◌+◌, ◌-◌, ◌≤◌, ◌<◌, Bool, true, false, ◌&&◌, ◌||◌, List, Option, Some, None, refl, sym, ap, subst, ◌∙◌, arith, inl, inr}
use Rattle.std.specs.Prelude.{◌==◌, not, nat_le, nat_lt, int_le, int_lt, if◌then◌else◌}
use Rattle.std.proofs.lemmas.Bool.{or_parts, or_cases, and_parts, and_from, and_left, and_right, eqb-true, eq-eqb, eqb-false, cond-true, cond-false, cond_both, not-true, le-leb, leb-true, lt-leb, lt-ltb, le-ltb, false≢true, not_from_false}
use Rattle.cyc_words.specs.Word.{signed, add_of, slt_of}
use Rattle.cyc_store.specs.State.{StoreState}
use Rattle.cyc_store.specs.Services as services
use Rattle.cyc_store.specs.Services.{answer}
use Rattle.cyc_plain.specs.declared.instruction.Instruction.TheVariants as instructions
use Rattle.cyc_plain.specs.declared.instruction.Operand.{Operand}
use Rattle.cyc_plain.specs.declared.instruction.Operand.TheVariants as operands
use Rattle.cyc_plain.specs.declared.instruction.Request.{Request}
use Rattle.cyc_plain.specs.declared.instruction.Request.TheVariants as requests
use Rattle.cyc_plain.specs.declared.instruction.UnaryOperator.{UnaryOperator}
use Rattle.cyc_plain.specs.declared.instruction.UnaryOperator.TheVariants as unary
use Rattle.cyc_plain.specs.declared.instruction.BinaryOperator.{BinaryOperator}
use Rattle.cyc_plain.specs.declared.instruction.BinaryOperator.TheVariants as binary
use Rattle.cyc_plain.specs.declared.instruction.Comparison.{Comparison}
use Rattle.cyc_plain.specs.inside.Requests.{destination_of, answer_count}
use Rattle.cyc_plain.specs.inside.Operators.{truth, unary_result, binary_result, has_no_result, compares}
use Rattle.cyc_plain.specs.inside.State.{Words, put, copied}
use Rattle.cyc_plain.specs.inside.Step.{operand_word, call_in, reported}
use Rattle.cyc_plain.proofs.SlotLaws.{put-same, put-other}
use Rattle.cyc_plain.specs.inside.Uses.{is_slot, is_among}
use Rattle.cyc_propagation.specs.declared.fact.Fact.{Fact}
use Rattle.cyc_propagation.specs.declared.fact.Fact.TheVariants as facts_are
use Rattle.cyc_propagation.specs.declared.fact.Written.{Written}
use Rattle.cyc_propagation.specs.inside.Facts.{Scene, IsTrueIn, IsTrueIfAny, is_free, are_free, lie_apart, are_copied, suits_operand, leaves_slot, negated, is_any_slot, suited, is_test, is_not, truth_in, tested, loaded, shown}
use Rattle.cyc_propagation.proofs.Truth.{IsLeft, suited_any, suited_if}
use Rattle.cyc_propagation.proofs.Same.{negated_compares}

abbrev range : (first count : ℕ) → Written
range first count = record { first = first; count = count }

-- ---- written slots

left_is_not_among : (first count slot : ℕ) → leaves_slot (range first count) slot ≡ true → is_among first count slot ≡ false
left_is_not_among first count slot leaves = not-true (is_among first count slot) leaves

pub nothing_left : (old : Words) (w : Written) → IsLeft old old w
nothing_left old w = λ slot leaves. refl

left_slot_differs : (destination slot : ℕ) → leaves_slot (range destination 1) slot ≡ true → slot ≢ destination
left_slot_differs destination slot leaves same =
    let inside : is_among destination 1 slot ≡ true =
    and_from _ _ (le-leb destination slot (omega (arith, same))) (lt-ltb slot (destination + 1) (omega (arith, same))) in
    false≢true (sym (left_is_not_among destination 1 slot leaves) ∙ inside)

pub put_left : (old : Words) (destination word : ℕ) → IsLeft old (put old destination word) (range destination 1)
put_left old destination word = λ slot leaves. put-other old destination slot word (left_slot_differs destination slot leaves)

-- Writing to a slot the word that it already contains changes no slot.
pub put_itself : (old : Words) (destination word : ℕ) → word ≡ old destination → (w : Written) → IsLeft old (put old destination word) w
put_itself old destination word is w = λ slot leaves. go slot
  where
    go : (slot : ℕ) → put old destination word slot ≡ old slot
    go slot = cond_both (slot == destination) word (old slot) (λ x. x ≡ old slot) (λ same. is ∙ ap old (sym (eqb-true slot destination same))) (λ other. refl)

pub copied_left : (from old : Words) (source count destination : ℕ) → IsLeft old (copied from source count old destination) (range destination count)
copied_left from old source count destination = λ slot leaves.
    cond-false (is_among destination count slot) (from (source + (slot - destination))) (old slot) (left_is_not_among destination count slot leaves)

-- Writes to two adjacent slots change only these two slots.
two_left : (old : Words) (destination one other : ℕ) → IsLeft old (put (put old destination one) (suc destination) other) (range destination 2)
two_left old destination one other = λ slot leaves.
    put-other (put old destination one) (suc destination) slot other (outside slot leaves (suc destination) (omega arith) (omega arith))
    ∙ put-other old destination slot one (outside slot leaves destination (omega arith) (omega arith))
  where
    outside : (slot : ℕ) → leaves_slot (range destination 2) slot ≡ true → (number : ℕ) → destination ≤ number → number < destination + 2 → slot ≢ number
    outside slot leaves number low high same =
        let inside : is_among destination 2 slot ≡ true =
        and_from _ _ (le-leb destination slot (omega (arith, same, low))) (lt-ltb slot (destination + 2) (omega (arith, same, high))) in
        false≢true (sym (left_is_not_among destination 2 slot leaves) ∙ inside)

-- The result of a request to the store (the heap of regions) changes only the request's destination slots.
pub reported_left : (store : StoreState) (old read : Words) (request : Request) (choice : services.Choice)
    → IsLeft old (reported (answer store (call_in read request) choice) (destination_of request) old) (range (destination_of request) (answer_count request))
reported_left store old read (requests.OpenLexical destination) choice = two_left old destination _ _
reported_left store old read (requests.CloseTo mark) choice = nothing_left old (range 0 0)
reported_left store old read (requests.OpenDynamic destination) choice = put_left old destination _
reported_left store old read (requests.CloseDynamic handle) choice = nothing_left old (range 0 0)
reported_left store old read (requests.Allocate destination handle words) choice = put_left old destination _
reported_left store old read (requests.Free address) choice = nothing_left old (range 0 0)

-- ---- facts made true

-- If a write goes to a slot other than an operand's, the operand still denotes the same word.
other_word : (old : Words) (destination word : ℕ) (operand : Operand) → is_slot operand destination ≡ false
    → operand_word (put old destination word) operand ≡ operand_word old operand
other_word old destination word (operands.Word number) other = refl
other_word old destination word (operands.Slot number) other = put-other old destination number word (eqb-false number destination other)

pub moved_made : (old : Words) (memory : ℕ → Option ℕ) (pinned : List Bool) (destination : ℕ) (source : Operand) → is_slot source destination ≡ false
    → IsTrueIfAny (record { slots = put old destination (operand_word old source); memory = memory })
    (suited pinned (facts_are.Equal destination source))
moved_made old memory pinned destination source other =
    suited_any (record { slots = put old destination (operand_word old source); memory = memory }) pinned (facts_are.Equal destination source)
    (put-same old destination (operand_word old source) ∙ sym (other_word old destination (operand_word old source) source other))

-- If the destination slots of a move are not source slots, each of them equals its source slot after the move.
pub copied_made : (old : Words) (pinned : List Bool) (source count destination : ℕ) → are_copied pinned destination source count ≡ true → (k : ℕ) → k < count
    → copied old source count old destination (destination + k) ≡ copied old source count old destination (source + k)
copied_made old pinned source count destination copies k below =
    let apart = (and_parts (lie_apart destination source count) (are_free pinned destination count && are_free pinned source count) copies).0 in
    let among : is_among destination count (destination + k) ≡ true =
    and_from _ _ (le-leb destination (destination + k) (omega arith)) (lt-ltb (destination + k) (destination + count) (omega (arith, below))) in
    let same : source + (destination + k - destination) ≡ source + k = omega arith in
    cond-true (is_among destination count (destination + k)) (old (source + (destination + k - destination))) (old (destination + k)) among
    ∙ ap old same
    ∙ sym (cond-false (is_among destination count (source + k)) (old (source + (source + k - destination))) (old (source + k)) (outside apart))
  where
    outside : lie_apart destination source count ≡ true → is_among destination count (source + k) ≡ false
    outside apart = elim (or_cases (nat_le (destination + count) source) (nat_le (source + count) destination) apart) [
      | inl following ↦ and_right (nat_le destination (source + k)) (nat_lt (source + k) (destination + count)) (le-ltb (source + k) (destination + count) (omega (arith, leb-true (destination + count) source following)))
      | inr before ↦ and_left (nat_le destination (source + k)) (nat_lt (source + k) (destination + count)) (lt-leb destination (source + k) (omega (arith, below, leb-true (source + count) destination before)))
    ]

pub itself_word : (old : Words) (destination : ℕ) (source : Operand) → is_slot source destination ≡ true → operand_word old source ≡ old destination
itself_word old destination (operands.Word number) is = absurd (false≢true is)
itself_word old destination (operands.Slot number) is = ap old (eqb-true number destination is)

pub computed_made : (old : Words) (memory : ℕ → Option ℕ) (pinned : List Bool) (operator : BinaryOperator) (destination : ℕ) (left right : Operand)
    → has_no_result operator (operand_word old right) ≡ false
    → IsTrueIfAny (record { slots = put old destination (binary_result operator (operand_word old left) (operand_word old right)); memory = memory })
    (if is_slot left destination || is_slot right destination then None else suited pinned (facts_are.Computed destination operator left right))
computed_made old memory pinned operator destination left right some =
    let word : ℕ = binary_result operator (operand_word old left) (operand_word old right) in
    let new : Scene = record { slots = put old destination word; memory = memory } in
    cond_both (is_slot left destination || is_slot right destination) None (suited pinned (facts_are.Computed destination operator left right)) (IsTrueIfAny new)
    (λ among. tt)
    (λ none.
    let (l, r) = or_parts (is_slot left destination) (is_slot right destination) none in
    let by_left = other_word old destination word left l in
    let by_right = other_word old destination word right r in
    suited_any new pinned (facts_are.Computed destination operator left right) (
      put-same old destination word ∙ ap (λ (a : ℕ). binary_result operator a (operand_word old right)) (sym by_left)
          ∙ ap (λ (b : ℕ). binary_result operator (operand_word new.slots left) b) (sym by_right),
      ap (has_no_result operator) by_right ∙ some,
    ))

-- A truth value (1 or 0) is less than 2.
truth_below : (holds : Bool) → nat_lt (truth holds) 2 ≡ true
truth_below true = refl
truth_below false = refl

test_below : (operator : BinaryOperator) (a b : ℕ) → is_test operator ≡ true → nat_lt (binary_result operator a b) 2 ≡ true
unfolding slt_of
test_below binary.Equal a b is = truth_below (a == b)
test_below binary.NotEqual a b is = truth_below (not (a == b))
test_below binary.Less a b is = truth_below (int_lt (signed a) (signed b))
test_below binary.LessOrEqual a b is = truth_below (int_le (signed a) (signed b))
test_below binary.Greater a b is = truth_below (int_lt (signed b) (signed a))
test_below binary.GreaterOrEqual a b is = truth_below (int_le (signed b) (signed a))
test_below operator a b is = absurd (false≢true is)

not_below : (operator : UnaryOperator) (a : ℕ) → is_not operator ≡ true → nat_lt (unary_result operator a) 2 ≡ true
not_below unary.Not a is = truth_below (a == 0)
not_below operator a is = absurd (false≢true is)

module _ (old : Words) (memory : ℕ → Option ℕ) (pinned : List Bool) (destination : ℕ) where
  -- If a fact states that a slot contains a truth value, the slot contains 0 or 1.
  truth_there : (is_said : Bool) (word : ℕ) → (is_said ≡ true → nat_lt word 2 ≡ true)
      → IsTrueIfAny (record { slots = put old destination word; memory = memory }) (if is_said then suited pinned (truth_in destination) else None)
  truth_there true word below =
      suited_any (record { slots = put old destination word; memory = memory }) pinned (truth_in destination)
      (ap (λ (w : ℕ). nat_lt w 2) (put-same old destination word) ∙ below refl)
  truth_there false word below = tt

  pub test_made : (operator : BinaryOperator) (left right : Operand)
      → IsTrueIfAny (record { slots = put old destination (binary_result operator (operand_word old left) (operand_word old right)); memory = memory })
      (tested pinned (instructions.Binary operator destination left right))
  test_made operator left right =
      truth_there (is_test operator) (binary_result operator (operand_word old left) (operand_word old right)) (test_below operator (operand_word old left) (operand_word old right))

  pub not_made : (operator : UnaryOperator) (operand : Operand)
      → IsTrueIfAny (record { slots = put old destination (unary_result operator (operand_word old operand)); memory = memory })
      (tested pinned (instructions.Unary operator destination operand))
  not_made operator operand = truth_there (is_not operator) (unary_result operator (operand_word old operand)) (not_below operator (operand_word old operand))

-- After a load, memory has the word of the destination slot at the loaded address.
pub loaded_made : (old : Words) (memory : ℕ → Option ℕ) (pinned : List Bool) (address : Operand) (offset destination word : ℕ)
    → (is_free pinned destination ≡ true → memory (add_of (operand_word old address) offset) ≡ Some word)
    → IsTrueIfAny (record { slots = put old destination word; memory = memory }) (loaded pinned address offset destination)
loaded_made old memory pinned address offset destination word there =
    let new : Scene = record { slots = put old destination word; memory = memory } in
    let fact : Fact = facts_are.Held address offset (operands.Slot destination) in
    cond_both (is_slot address destination) None (suited pinned fact) (IsTrueIfAny new)
    (λ among. tt)
    (λ none.
    suited_if new pinned fact
    (λ suits.
    ap (λ (w : ℕ). memory (add_of w offset)) (other_word old destination word address none)
    ∙ there (and_parts (suits_operand pinned address) (is_free pinned destination) suits).1
    ∙ ap Some (sym (put-same old destination word))))

-- The fact that a branch establishes is true, both when the branch is taken and when it is not.
pub shown_true : (scene : Scene) (pinned : List Bool) (comparison : Comparison) (left right : Operand) (target index : ℕ) (taken : Bool)
    → compares comparison (operand_word scene.slots left) (operand_word scene.slots right) ≡ taken
    → IsTrueIfAny scene (shown pinned comparison left right target index (if taken then target else index + 1))
shown_true scene pinned comparison left right target index taken is =
    let next : ℕ = if taken then target else index + 1 in
    cond_both (target == index + 1 || not (is_any_slot left || is_any_slot right)) None
    (suited pinned (facts_are.Holds (if next == target then comparison else negated comparison) left right)) (IsTrueIfAny scene)
    (λ nothing. tt)
    (λ some. suited_any scene pinned (facts_are.Holds (if next == target then comparison else negated comparison) left right) (go taken is (eqb-false target (index + 1) (or_parts (target == index + 1) (not (is_any_slot left || is_any_slot right)) some).0)))
  where
    go : (taken : Bool) → compares comparison (operand_word scene.slots left) (operand_word scene.slots right) ≡ taken → target ≢ index + 1
        → IsTrueIn scene (facts_are.Holds (if (if taken then target else index + 1) == target then comparison else negated comparison) left right)
    go true is apart =
        subst (λ (b : Bool). compares (if b then comparison else negated comparison) (operand_word scene.slots left) (operand_word scene.slots right) ≡ true)
        (sym (eq-eqb target target refl)) is
    go false is apart =
        subst (λ (b : Bool). compares (if b then comparison else negated comparison) (operand_word scene.slots left) (operand_word scene.slots right) ≡ true)
        (sym (not_there apart))
        (negated_compares comparison (operand_word scene.slots left) (operand_word scene.slots right) ∙ not_from_false (compares comparison (operand_word scene.slots left) (operand_word scene.slots right)) is)
      where
        not_there : target ≢ index + 1 → (index + 1 == target) ≡ false
        not_there apart = grind (arith, apart)
