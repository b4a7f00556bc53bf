-- The facts of a checked table are true at each code position, whatever path the run took.
use Rattle.std.proofs.Common.{◌≡◌, ℕ, zero, suc, ◌+◌, ◌<◌, ◌≤◌, Bool, true, ◌&&◌, ◌||◌, List, [], ◌∷◌, ◌++◌, length, drop, Option, Some, None, slice_get, refl, sym, ap, subst, ◌∙◌, arith, inl, inr}
use Rattle.std.specs.Prelude.{◌==◌, not, nat_lt, if◌then◌else◌}
use Rattle.std.proofs.lemmas.Bool.{and_parts, and_from, or_cases, eqb-true, ltb-true, false≢true, cond_both, cond-true}
use Rattle.cyc_words.proofs.Lists.{slice_get_below}
use Rattle.cyc_words.proofs.Numbers.{suc_plus_one}
use Rattle.cyc_words.proofs.Items.{below_from_slice_get}
use Rattle.cyc_plain.specs.declared.instruction.Instruction.{Instruction}
use Rattle.cyc_plain.specs.declared.instruction.Instruction.TheVariants as instructions
use Rattle.cyc_plain.specs.declared.instruction.Operand.{Operand}
use Rattle.cyc_plain.specs.declared.instruction.Operand.TheVariants as operands
use Rattle.cyc_plain.specs.declared.instruction.BinaryOperator.{BinaryOperator}
use Rattle.cyc_plain.specs.declared.instruction.Comparison.{Comparison}
use Rattle.cyc_plain.specs.declared.instruction.Comparison.TheVariants as comparisons
use Rattle.cyc_plain.specs.declared.instruction.Request.{Request}
use Rattle.cyc_plain.specs.declared.instruction.Request.TheVariants as requests
use Rattle.cyc_plain.specs.inside.Operators.{compares}
use Rattle.cyc_plain.specs.inside.Program.{Routine, Program, size}
use Rattle.cyc_plain.specs.inside.Step.{operand_word}
use Rattle.cyc_plain.specs.inside.Uses.{At, is_slot, leads}
use Rattle.cyc_propagation.specs.declared.fact.Fact.{Fact}
use Rattle.cyc_propagation.specs.declared.fact.Fact.TheVariants as facts_are
use Rattle.cyc_propagation.specs.declared.fact.Touched.{Touched}
use Rattle.cyc_propagation.specs.declared.fact.Touched.TheVariants as touches
use Rattle.cyc_propagation.specs.declared.fact.Written.{Written}
use Rattle.cyc_propagation.specs.declared.fact.TheConstants.{MOST_FACTS}
use Rattle.cyc_propagation.specs.inside.Facts.{Scene, IsTrueIn, AreTrueIn, IsTrueIfAny, IsMade, is_known, are_free, lie_apart, first_global, global_offset, suits, are_suited, written, touched, keeps, kept, suited, held_global, made, negated, is_any_slot, remembered, facts_after}
use Rattle.cyc_propagation.specs.inside.Facts.{is_same_comparison, never, is_unreached, are_free, lie_apart, are_copied, copied, with_copies, is_test, is_not, truth_in, tested}
use Rattle.cyc_propagation.specs.inside.Replacement.{simplified_operand, own_word, word_in, takes_word, small_or, right_operand, may_fold, simplified_binary, global_value, simplified_global, simplified_request, simplified_instruction}
use Rattle.cyc_propagation.specs.inside.Replacement.{may_vanish, vanishes, place_after, put_at}
use Rattle.cyc_propagation.specs.inside.Table.{goes_on, after_put}
use Rattle.cyc_propagation.specs.inside.Table.{ArePins, IsTable, IsReplaced, entered_or, facts_after_place, facts_at, is_more, is_known_with, resolved_fact, are_below, is_below, follows, are_known, may_jump, may_go_on, is_entry_suited, is_empty, leads_well, is_checked_at, IsChecked}
use Rattle.cyc_propagation.proofs.Truth.{each_free, same_comparison, same_fact, known_true, all_true, leaves_any, leaves_any_operand, kept_suited}
use Rattle.cyc_propagation.proofs.Same.{operand_same, IsItsWord, word_in_true}

-- ---- nothing replaced

unaltered_request : (request : Request) → simplified_request [] request ≡ request
unaltered_request (requests.OpenLexical destination) = refl
unaltered_request (requests.CloseTo mark) = refl
unaltered_request (requests.OpenDynamic destination) = refl
unaltered_request (requests.CloseDynamic handle) = refl
unaltered_request (requests.Allocate destination handle words) = refl
unaltered_request (requests.Free address) = refl

unaltered_second : (operator : BinaryOperator) (operand : Operand) → right_operand [] operator operand ≡ operand
unaltered_second operator operand =
    cond_both (takes_word operator) (small_or (own_word operand) operand) operand (λ o. o ≡ operand) (λ takes. go operand) (λ not_taken. refl)
  where
    go : (operand : Operand) → small_or (own_word operand) operand ≡ operand
    go (operands.Slot number) = refl
    go (operands.Word word) = cond_both (nat_lt word 32768) (operands.Word word) (operands.Word word) (λ o. o ≡ operands.Word word) (λ small. refl) (λ large. refl)

-- If no fact is known, an instruction is its own replacement.
unaltered : (i : Instruction) → simplified_instruction [] i ≡ i
unaltered (instructions.Binary operator destination left right) =
    let second : Operand = right_operand [] operator right in
    cond_both (may_fold destination left second) None None
    (λ f. simplified_binary f None operator destination left second ≡ instructions.Binary operator destination left second) (λ may. refl) (λ stays. refl)
    ∙ ap (instructions.Binary operator destination left) (unaltered_second operator right)
unaltered (instructions.LoadGlobal destination global) = go (global_offset global)
  where
    go : (o : Option ℕ) → simplified_global (global_value [] o) destination global ≡ instructions.LoadGlobal destination global
    go (Some offset) = refl
    go None = refl
unaltered (instructions.Ask request) = ap instructions.Ask (unaltered_request request)
unaltered i = refl

pub unaltered_without : (facts : List Fact) (i : Instruction) → (length facts == 0) ≡ true → i ≡ simplified_instruction facts i
unaltered_without [] i none = sym (unaltered i)
unaltered_without (fact ∷ facts) i none = absurd (omega (arith, eqb-true (length (fact ∷ facts)) 0 none))

-- An unchanged function is a valid replacement of itself.
pub unchanged : (program : Program) (r : Routine) (pinned : List Bool) → ArePins r pinned → IsReplaced program r r
unchanged program r pinned pins = record {
  name = refl;
  parameters = refl;
  results = refl;
  slots = refl;
  frame_count = refl;
  as_many = refl;
  small = omega arith;
  pinned = pinned;
  pins = pins;
  table = λ index. [];
  is_table = record {
    first = refl;
    tries = λ index first handler at. refl;
    suited = λ index below. refl;
    edges = λ index next i at led scene keeps more. tt;
  };
  each = λ index i at. at ∙ ap Some (sym (unaltered i));
}

-- ---- unreachable places

-- The fact `never` is in no list of true facts.
pub reached : (scene : Scene) (facts : List Fact) → AreTrueIn scene facts → is_unreached facts ≡ true → ⊥
reached scene [] holds is = false≢true is
reached scene (fact ∷ facts) (first, rest) is = false≢true (same_fact scene fact never is first)

-- The replacement of a reachable instruction is its simplified instruction.
pub put_reached : (scene : Scene) (facts : List Fact) (index count : ℕ) (i : Instruction) → AreTrueIn scene facts → put_at facts index count i ≡ simplified_instruction facts i
put_reached scene facts index count i holds =
    cond_both (vanishes facts i) (instructions.Jump (place_after index count)) (simplified_instruction facts i) (λ j. j ≡ simplified_instruction facts i)
    (λ is. absurd (reached scene facts holds (and_parts (is_unreached facts) (may_vanish i) is).0)) (λ stays. refl)

-- ---- facts that follow from known ones

module _ (scene : Scene) (facts : List Fact) (more : Option Fact) (holds : AreTrueIn scene facts) (one : IsTrueIfAny scene more) where
  more_true : (fact : Fact) → is_more more fact ≡ true → IsTrueIn scene fact
  more_true fact is = go more one is
    where
      go : (o : Option Fact) → IsTrueIfAny scene o → is_more o fact ≡ true → IsTrueIn scene fact
      go (Some other) first same = same_fact scene other fact same first
      go None first same = absurd (false≢true same)

  with_true : (fact : Fact) → is_known_with facts more fact ≡ true → IsTrueIn scene fact
  with_true fact known = elim (or_cases (is_known facts fact) (is_more more fact) known) [
    | inl among ↦ known_true scene facts fact holds among
    | inr last ↦ more_true fact last
  ]

  -- If a comparison holds after its operands are replaced by equal ones, the original comparison holds.
  resolved_true : (fact : Fact) → IsTrueIn scene (resolved_fact facts fact) → IsTrueIn scene fact
  resolved_true (facts_are.Equal slot operand) is = is
  resolved_true (facts_are.Computed slot operator left right) is = is
  resolved_true (facts_are.Held address offset value) is = is
  resolved_true (facts_are.Holds comparison left right) is =
      ap (λ (a : ℕ). compares comparison a (operand_word scene.slots right)) (sym (operand_same scene facts left holds))
      ∙ ap (compares comparison (operand_word scene.slots (simplified_operand facts left))) (sym (operand_same scene facts right holds)) ∙ is

  -- If a comparison of two known words is computed to hold, it holds.
  below_true : (fact : Fact) → is_below facts fact ≡ true → IsTrueIn scene fact
  below_true (facts_are.Equal slot operand) is = absurd (false≢true is)
  below_true (facts_are.Computed slot operator left right) is = absurd (false≢true is)
  below_true (facts_are.Held address offset value) is = absurd (false≢true is)
  below_true (facts_are.Holds comparison left right) is =
      let (same, below) = and_parts (is_same_comparison comparison comparisons.LessUnsigned) (are_below (word_in facts left) (word_in facts right)) is in
      subst (λ (c : Comparison). compares c (operand_word scene.slots left) (operand_word scene.slots right) ≡ true) (sym (same_comparison comparison comparisons.LessUnsigned same))
      (go (word_in facts left) (word_in facts right) (word_in_true scene facts left holds) (word_in_true scene facts right holds) below)
    where
      go : (a b : Option ℕ) → IsItsWord scene left a → IsItsWord scene right b → are_below a b ≡ true
          → nat_lt (operand_word scene.slots left) (operand_word scene.slots right) ≡ true
      go (Some a) (Some b) l r below =
          ap (λ (x : ℕ). nat_lt x (operand_word scene.slots right)) l ∙ ap (nat_lt a) r ∙ below
      go (Some a) None l r below = absurd (false≢true below)
      go None b l r below = absurd (false≢true below)

  follows_true : (fact : Fact) → follows facts more fact ≡ true → IsTrueIn scene fact
  follows_true fact is = elim (or_cases (is_unreached facts) (is_known_with facts more fact || (is_known_with facts more (resolved_fact facts fact) || is_below facts fact)) is) [
    | inl unreached ↦ absurd (reached scene facts holds unreached)
    | inr here ↦ elim (or_cases (is_known_with facts more fact) (is_known_with facts more (resolved_fact facts fact) || is_below facts fact) here) [
      | inl known ↦ with_true fact known
      | inr otherwise ↦ elim (or_cases (is_known_with facts more (resolved_fact facts fact)) (is_below facts fact) otherwise) [
        | inl resolved ↦ resolved_true fact (with_true (resolved_fact facts fact) resolved)
        | inr below ↦ below_true fact below
      ]
    ]
  ]

  asked_true : (asked : List Fact) → are_known asked facts more ≡ true → AreTrueIn scene asked
  asked_true [] known = tt
  asked_true (fact ∷ asked) known =
      let (first, rest) = and_parts (follows facts more fact) (are_known asked facts more) known in (follows_true fact first, asked_true asked rest)

-- ---- an instruction that writes nothing preserves all facts

abbrev nothing : Written
nothing = record { first = 0; count = 0 }

keeps_any : (fact : Fact) → keeps nothing touches.Nothing fact ≡ true
keeps_any (facts_are.Equal slot operand) = and_from _ _ (leaves_any slot) (leaves_any_operand operand)
keeps_any (facts_are.Computed slot operator left right) = and_from _ _ (leaves_any slot) (and_from _ _ (leaves_any_operand left) (leaves_any_operand right))
keeps_any (facts_are.Holds comparison left right) = and_from _ _ (leaves_any_operand left) (leaves_any_operand right)
keeps_any (facts_are.Held address offset value) = and_from _ _ (leaves_any_operand address) (and_from _ _ (leaves_any_operand value) refl)

nothing_lost : (facts : List Fact) → kept nothing touches.Nothing facts ≡ facts
nothing_lost [] = refl
nothing_lost (fact ∷ facts) =
    let t : Touched = touches.Nothing in
    cond-true (keeps nothing t fact) (fact ∷ kept nothing t facts) (kept nothing t facts) (keeps_any fact) ∙ ap (λ (others : List Fact). fact ∷ others) (nothing_lost facts)

-- ---- facts about free slots

module _ (pinned : List Bool) where
  abbrev IsSuited : Option Fact → Type 0
  IsSuited (Some fact) = suits pinned fact ≡ true
  IsSuited None = Unit {0}

  suited_so : (fact : Fact) → IsSuited (suited pinned fact)
  suited_so fact = cond_both (suits pinned fact) (Some fact) None IsSuited (λ is. is) (λ is. tt)

  global_suited : (offset : Option ℕ) (value : Operand) → IsSuited (held_global pinned offset value)
  global_suited (Some offset) value = suited_so (facts_are.Held first_global offset value)
  global_suited None value = tt

  made_suited : (i : Instruction) (index next : ℕ) → IsSuited (made pinned i index next)
  made_suited (instructions.Move destination source) index next =
      cond_both (is_slot source destination) None (suited pinned (facts_are.Equal destination source)) IsSuited (λ is. tt) (λ is. suited_so (facts_are.Equal destination source))
  made_suited (instructions.Binary operator destination left right) index next =
      cond_both (is_slot left destination || is_slot right destination) None (suited pinned (facts_are.Computed destination operator left right)) IsSuited
      (λ is. tt) (λ is. suited_so (facts_are.Computed destination operator left right))
  made_suited (instructions.Branch comparison left right target) index next =
      let shown_here : Fact = facts_are.Holds (if next == target then comparison else negated comparison) left right in
      cond_both (target == index + 1 || not (is_any_slot left || is_any_slot right)) None (suited pinned shown_here) IsSuited (λ is. tt) (λ is. suited_so shown_here)
  made_suited (instructions.LoadGlobal destination global) index next = global_suited (global_offset global) (operands.Slot destination)
  made_suited (instructions.StoreGlobal global source) index next = global_suited (global_offset global) source
  made_suited (instructions.Load destination address offset) index next =
      let fact : Fact = facts_are.Held address offset (operands.Slot destination) in
      cond_both (is_slot address destination) None (suited pinned fact) IsSuited (λ is. tt) (λ is. suited_so fact)
  made_suited (instructions.Store address offset source) index next = suited_so (facts_are.Held address offset source)
  made_suited i index next = tt

  tested_suited : (i : Instruction) → IsSuited (tested pinned i)
  tested_suited (instructions.Unary operator destination operand) =
      cond_both (is_not operator) (suited pinned (truth_in destination)) None IsSuited (λ is. suited_so (truth_in destination)) (λ is. tt)
  tested_suited (instructions.Binary operator destination left right) =
      cond_both (is_test operator) (suited pinned (truth_in destination)) None IsSuited (λ is. suited_so (truth_in destination)) (λ is. tt)
  tested_suited i = tt

  joined_suited : (facts others : List Fact) → are_suited pinned facts ≡ true → are_suited pinned others ≡ true → are_suited pinned (facts ++ others) ≡ true
  joined_suited [] others all more = more
  joined_suited (fact ∷ facts) others all more =
      let (first, rest) = and_parts (suits pinned fact) (are_suited pinned facts) all in and_from _ _ first (joined_suited facts others rest more)

  after_first_suited : (facts : List Fact) → are_suited pinned facts ≡ true → are_suited pinned (drop 1 facts) ≡ true
  after_first_suited [] all = refl
  after_first_suited (fact ∷ facts) all = (and_parts (suits pinned fact) (are_suited pinned facts) all).1

  remembered_suited : (facts : List Fact) (more : Option Fact) → are_suited pinned facts ≡ true → IsSuited more → are_suited pinned (remembered facts more) ≡ true
  remembered_suited facts None all one = all
  remembered_suited facts (Some fact) all one =
      joined_suited (if nat_lt (length facts) MOST_FACTS then facts else drop 1 facts) (fact ∷ [])
      (cond_both (nat_lt (length facts) MOST_FACTS) facts (drop 1 facts) (λ l. are_suited pinned l ≡ true) (λ few. all) (λ many. after_first_suited facts all))
      (and_from (suits pinned fact) true one refl)

  copied_suited : (i : Instruction) (k : ℕ) → IsSuited (copied pinned i k)
  copied_suited (instructions.MoveWords destination source count) k =
      cond_both (nat_lt k count && are_copied pinned destination source count) (Some (facts_are.Equal (destination + k) (operands.Slot (source + k)))) None IsSuited
      (λ copies.
      let (below, are) = and_parts (nat_lt k count) (are_copied pinned destination source count) copies in
      let (apart, both) = and_parts (lie_apart destination source count) (are_free pinned destination count && are_free pinned source count) are in
      let (free, others_free) = and_parts (are_free pinned destination count) (are_free pinned source count) both in
      and_from _ _ (each_free pinned destination count k free (ltb-true k count below)) (each_free pinned source count k others_free (ltb-true k count below)))
      (λ none. tt)
  copied_suited i k = tt

  copies_suited : (i : Instruction) (facts : List Fact) → are_suited pinned facts ≡ true → are_suited pinned (with_copies pinned i facts) ≡ true
  copies_suited i facts all = with_one 2 _ (with_one 1 _ (with_one 0 facts all))
    where
      with_one : (k : ℕ) (others : List Fact) → are_suited pinned others ≡ true → are_suited pinned (remembered others (copied pinned i k)) ≡ true
      with_one k others are = remembered_suited others (copied pinned i k) are (copied_suited i k)

  pub after_suited : (program : Program) (facts : List Fact) (i : Instruction) (index next : ℕ) → are_suited pinned facts ≡ true → are_suited pinned (facts_after program pinned facts i index next) ≡ true
  after_suited program facts i index next all =
      let keeps : List Fact = kept (written program i) (touched pinned i) facts in
      let copies : List Fact = with_copies pinned i keeps in
      remembered_suited (remembered copies (tested pinned i)) (made pinned i index next)
      (remembered_suited copies (tested pinned i) (copies_suited i keeps (kept_suited pinned (written program i) (touched pinned i) facts all)) (tested_suited i))
      (made_suited i index next)

  pub put_suited : (program : Program) (facts : List Fact) (i : Instruction) (index : ℕ) → are_suited pinned facts ≡ true → are_suited pinned (after_put program pinned facts i index) ≡ true
  put_suited program facts i index all =
      cond_both (goes_on i) (facts_after program pinned facts i index (index + 1)) (never ∷ []) (λ l. are_suited pinned l ≡ true)
      (λ on. after_suited program facts i index (index + 1) all) (λ ends. refl)

-- ---- a checked table

module _ (program : Program) (r s : Routine) (pinned : List Bool) (entry : ℕ → Option (List Fact)) (checked : IsChecked program r pinned entry) (as_many : length s.code ≡ length r.code)
    (each : (index : ℕ) (i : Instruction) → At r index i → At s index (put_at (facts_at program pinned entry r.code index) index (length r.code) i)) where
  abbrev table : ℕ → List Fact
  table index = facts_at program pinned entry r.code index

  -- `StandsFor` says that the instruction `j` is the replacement of the original function's instruction at `index`.
  record StandsFor (index : ℕ) (j : Instruction) : Type 0 where
    pub instruction : Instruction
    pub at : At r index instruction
    pub is : j ≡ put_at (table index) index (length r.code) instruction
    pub well : is_checked_at program pinned entry (table index) j index ≡ true

  stands_for : (index : ℕ) (j : Instruction) → At s index j → StandsFor index j
  stands_for index j at =
      let below : index < length r.code = omega (arith, below_from_slice_get s.code index j at, as_many) in
      let (i, there) = slice_get_below r.code index below in
      let same : j ≡ put_at (table index) index (length r.code) i =
      let e : Some j ≡ Some (put_at (table index) index (length r.code) i) = sym at ∙ each index i there in cc in
      record {
        instruction = i;
        at = there;
        is = same;
        well = subst (λ (x : Instruction). is_checked_at program pinned entry (table index) x index ≡ true) (sym same) (checked index i there);
      }

  -- If the next position is a jump target, the table's facts at the next position are those required at the jump target. Otherwise the
  -- table's facts at the next position are those known after the instruction that replaces the current one.
  next_table : (index : ℕ) (j : Instruction) → StandsFor index j → table (suc index) ≡ entered_or (entry (suc index)) (after_put program pinned (table index) j index)
  next_table index j stands =
      ap (λ (o : Option Instruction). entered_or (entry (suc index)) (facts_after_place program pinned (table index) o index (length r.code))) stands.at
      ∙ ap (λ (x : Instruction). entered_or (entry (suc index)) (after_put program pinned (table index) x index)) (sym stands.is)

  table_suited : (index : ℕ) → index < length s.code → are_suited pinned (table index) ≡ true
  table_suited zero below = refl
  table_suited (suc index) below =
      let (j, at) = slice_get_below s.code index (omega (arith, below)) in
      let stands = stands_for index j at in
      let well = and_parts (is_entry_suited pinned (entry (index + 1))) (leads_well program pinned entry (table index) j index) stands.well in
      let suited_entry : is_entry_suited pinned (entry (suc index)) ≡ true =
      subst (λ (n : ℕ). is_entry_suited pinned (entry n) ≡ true) (sym (suc_plus_one index)) well.0 in
      subst (λ (l : List Fact). are_suited pinned l ≡ true) (sym (next_table index j stands))
      (go (entry (suc index)) (after_put program pinned (table index) j index) suited_entry
      (put_suited pinned program (table index) j index (table_suited index (omega (arith, below)))))
    where
      go : (o : Option (List Fact)) (others : List Fact) → is_entry_suited pinned o ≡ true → are_suited pinned others ≡ true → are_suited pinned (entered_or o others) ≡ true
      go (Some facts) others entry_is others_are = entry_is
      go None others entry_is others_are = others_are

  -- After a jump, the facts required at the jump target are true.
  jumped : (scene : Scene) (target : ℕ) (facts : List Fact) (more : Option Fact) → may_jump (entry target) facts more ≡ true → AreTrueIn scene facts → IsTrueIfAny scene more
      → AreTrueIn scene (table target)
  jumped scene zero facts more may holds one = tt
  jumped scene (suc before) facts more may holds one =
      go (entry (suc before)) (facts_after_place program pinned (table before) (slice_get r.code before) before (length r.code)) may
    where
      go : (o : Option (List Fact)) (others : List Fact) → may_jump o facts more ≡ true → AreTrueIn scene (entered_or o others)
      go (Some asked) others may = asked_true scene facts more holds one asked may
      go None others may = absurd (false≢true may)

  -- The facts in the table of the next instruction are true, even if that instruction is a jump target.
  went_on : (scene : Scene) (index : ℕ) (j : Instruction) → StandsFor index j → (facts : List Fact) → may_go_on (entry (index + 1)) facts None ≡ true → AreTrueIn scene facts
      → AreTrueIn scene (after_put program pinned (table index) j index) → AreTrueIn scene (table (suc index))
  went_on scene index j stands facts may holds following =
      subst (AreTrueIn scene) (sym (next_table index j stands))
      (go (entry (suc index)) (after_put program pinned (table index) j index)
      (subst (λ (n : ℕ). may_go_on (entry n) facts None ≡ true) (sym (suc_plus_one index)) may) following)
    where
      go : (o : Option (List Fact)) (others : List Fact) → may_go_on o facts None ≡ true → AreTrueIn scene others → AreTrueIn scene (entered_or o others)
      go (Some asked) others may following = asked_true scene facts None holds tt asked may
      go None others may following = following

  module _ (index next : ℕ) (scene : Scene) where
    -- The facts in the table of the next instruction are true if control falls through.
    falls : (j : Instruction) → StandsFor index j → (facts : List Fact) → may_go_on (entry (index + 1)) facts None ≡ true → AreTrueIn scene facts
        → AreTrueIn scene (after_put program pinned (table index) j index) → (suc index == next) ≡ true → AreTrueIn scene (table next)
    falls j stands facts may holds following led =
        subst (λ (n : ℕ). AreTrueIn scene (table n)) (eqb-true (suc index) next led) (went_on scene index j stands facts may holds following)

    after_true : (j : Instruction) → AreTrueIn scene (kept (written program j) (touched pinned j) (table index)) → IsMade scene pinned j index next → (suc index == next) ≡ true
        → AreTrueIn scene (facts_after program pinned (table index) j index (index + 1))
    after_true j keeps makes led =
        let same : next ≡ index + 1 = sym (eqb-true (suc index) next led) ∙ suc_plus_one index in
        all_true scene pinned (kept (written program j) (touched pinned j) (table index)) j index (index + 1) keeps
        (subst (λ (n : ℕ). IsMade scene pinned j index n) same makes)

    to_next : (j : Instruction) → StandsFor index j → goes_on j ≡ true → may_go_on (entry (index + 1)) (facts_after program pinned (table index) j index (index + 1)) None ≡ true
        → (suc index == next) ≡ true → AreTrueIn scene (kept (written program j) (touched pinned j) (table index)) → IsMade scene pinned j index next → AreTrueIn scene (table next)
    to_next j stands on may led keeps makes =
        let known : List Fact = facts_after program pinned (table index) j index (index + 1) in
        let following = after_true j keeps makes led in
        falls j stands known may following (subst (AreTrueIn scene) (sym (cond-true (goes_on j) known (never ∷ []) on)) following) led

    to_target : (target : ℕ) (facts : List Fact) (more : Option Fact) → may_jump (entry target) facts more ≡ true → (target == next) ≡ true → AreTrueIn scene facts → IsTrueIfAny scene more
        → AreTrueIn scene (table next)
    to_target target facts more may led holds one =
        subst (λ (n : ℕ). AreTrueIn scene (table n)) (eqb-true target next led) (jumped scene target facts more may holds one)

    by_branch : (comparison : Comparison) (left right : Operand) (target : ℕ) → StandsFor index (instructions.Branch comparison left right target)
        → leads_well program pinned entry (table index) (instructions.Branch comparison left right target) index ≡ true → leads (instructions.Branch comparison left right target) index next ≡ true
        → AreTrueIn scene (kept (written program (instructions.Branch comparison left right target)) (touched pinned (instructions.Branch comparison left right target)) (table index))
        → IsTrueIfAny scene (made pinned (instructions.Branch comparison left right target) index next) → AreTrueIn scene (table next)
    by_branch comparison left right target stands well led keeps makes =
        let j : Instruction = instructions.Branch comparison left right target in
        let (may, on) = and_parts (may_jump (entry target) (table index) (made pinned j index target)) (may_go_on (entry (index + 1)) (facts_after program pinned (table index) j index (index + 1)) None) well in
        elim (or_cases (suc index == next) (target == next) led) [
          | inl following ↦ to_next j stands refl on following keeps makes
          | inr there ↦
              to_target target (table index) (made pinned j index target) may there (subst (AreTrueIn scene) (nothing_lost (table index)) keeps)
              (subst (λ (n : ℕ). IsTrueIfAny scene (made pinned j index n)) (sym (eqb-true target next there)) makes)
        ]

    by_try : (first handler : ℕ) → StandsFor index (instructions.Try first handler) → leads_well program pinned entry (table index) (instructions.Try first handler) index ≡ true
        → leads (instructions.Try first handler) index next ≡ true → AreTrueIn scene (kept (written program (instructions.Try first handler)) (touched pinned (instructions.Try first handler)) (table index)) → AreTrueIn scene (table next)
    by_try first handler stands well led keeps =
        let j : Instruction = instructions.Try first handler in
        let (empty, both) = and_parts (is_empty (table index)) (may_jump (entry handler) [] None && may_go_on (entry (index + 1)) [] None) well in
        let (may, on) = and_parts (may_jump (entry handler) [] None) (may_go_on (entry (index + 1)) [] None) both in
        elim (or_cases (suc index == next) (handler == next) led) [
          | inl following ↦ falls j stands [] on tt (after_true j keeps tt following) following
          | inr there ↦ to_target handler [] None may there tt tt
        ]

    edge : (j : Instruction) → StandsFor index j → leads_well program pinned entry (table index) j index ≡ true → leads j index next ≡ true
        → AreTrueIn scene (kept (written program j) (touched pinned j) (table index)) → IsMade scene pinned j index next → AreTrueIn scene (table next)
    edge (instructions.Jump target) stands well led keeps makes =
        let here = subst (AreTrueIn scene) (nothing_lost (table index)) keeps in
        elim (or_cases (is_unreached (table index)) (may_jump (entry target) (table index) None) well) [
          | inl unreached ↦ absurd (reached scene (table index) here unreached)
          | inr may ↦ to_target target (table index) None may led here tt
        ]
    edge (instructions.Branch comparison left right target) stands well led keeps makes = by_branch comparison left right target stands well led keeps makes
    edge (instructions.Try first handler) stands well led keeps makes = by_try first handler stands well led keeps
    edge (instructions.Return value) stands well led keeps makes = absurd (false≢true led)
    edge (instructions.Throw tag value) stands well led keeps makes = absurd (false≢true led)
    edge (instructions.Finish value) stands well led keeps makes = absurd (false≢true led)
    edge (instructions.Uncaught tag value) stands well led keeps makes = absurd (false≢true led)
    edge j stands well led keeps makes = to_next j stands refl well led keeps makes

  empty_list : (facts : List Fact) → is_empty facts ≡ true → facts ≡ []
  empty_list [] empty = refl
  empty_list (fact ∷ facts) empty = absurd (false≢true empty)

  well_led : (index : ℕ) (j : Instruction) → StandsFor index j → leads_well program pinned entry (table index) j index ≡ true
  well_led index j stands = (and_parts (is_entry_suited pinned (entry (index + 1))) (leads_well program pinned entry (table index) j index) stands.well).1

  pub table_right : IsTable program s pinned (λ index. facts_at program pinned entry r.code index)
  table_right = record {
    first = refl;
    tries = λ index first handler at.
        empty_list (table index)
        (and_parts (is_empty (table index)) (may_jump (entry handler) [] None && may_go_on (entry (index + 1)) [] None)
        (well_led index (instructions.Try first handler) (stands_for index (instructions.Try first handler) at))).0;
    suited = table_suited;
    edges = λ index next i at led scene keeps makes.
        edge index next scene i (stands_for index i at) (well_led index i (stands_for index i at)) led keeps makes;
  }

  -- If each instruction of a function is replaced under the facts of a checked table, the result satisfies `IsReplaced`.
  pub replaced : ArePins r pinned → s.name ≡ r.name → s.parameters ≡ r.parameters → s.results ≡ r.results → s.slots ≡ r.slots → s.frame_count ≡ r.frame_count → size s ≤ size r → IsReplaced program r s
  replaced pins name parameters results slots frame_count small = record {
    name = name;
    parameters = parameters;
    results = results;
    slots = slots;
    frame_count = frame_count;
    as_many = as_many;
    small = small;
    pinned = pinned;
    pins = pins;
    table = table;
    is_table = table_right;
    each = each;
  }
