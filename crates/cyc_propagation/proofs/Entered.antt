-- The facts recorded as required at a jump target are only facts that are known on every path to this target.
use Rattle.std.proofs.Common.{◌≡◌, ℕ, zero, suc, ◌+◌, ◌<◌, Bool, true, List, [], ◌∷◌, ◌++◌, length, drop, Option, Some, None, slice_get, refl, sym, subst, arith, inl, inr}
use Rattle.std.specs.Prelude.{◌||◌, remove, set, take, if◌then◌else◌}
use Rattle.std.proofs.lemmas.Bool.{and_from, and_parts, eq-eqb, false≢true, or_cases, or_left, or_right}
use Rattle.cyc_plain.specs.declared.instruction.Instruction.{Instruction}
use Rattle.cyc_plain.specs.declared.instruction.Instruction.TheVariants as instructions
use Rattle.cyc_plain.specs.declared.instruction.Operand.{Operand}
use Rattle.cyc_plain.specs.declared.instruction.Operand.TheVariants as operands
use Rattle.cyc_propagation.specs.declared.entry.Entry.{Entry}
use Rattle.cyc_propagation.specs.declared.fact.Fact.{Fact}
use Rattle.cyc_propagation.specs.declared.fact.Fact.TheVariants as facts_are
use Rattle.cyc_propagation.specs.inside.Facts.{operator_number, comparison_number, is_same_operand, is_same_fact, is_known, is_unreached}
use Rattle.cyc_propagation.specs.inside.Table.{is_more, is_known_with, resolved_fact, is_below, follows, are_known, may_jump, may_go_on}
use Rattle.cyc_propagation.specs.inside.Entries.{entry_of, entry_in, jumps_well, goes_well}

-- ---- known facts follow

operand_itself : (operand : Operand) → is_same_operand operand operand ≡ true
operand_itself (operands.Slot number) = eq-eqb number number refl
operand_itself (operands.Word word) = eq-eqb word word refl

fact_itself : (fact : Fact) → is_same_fact fact fact ≡ true
fact_itself (facts_are.Equal slot operand) = and_from _ _ (eq-eqb slot slot refl) (operand_itself operand)
fact_itself (facts_are.Computed slot operator left right) =
    and_from _ _ (eq-eqb slot slot refl)
    (and_from _ _ (eq-eqb (operator_number operator) (operator_number operator) refl) (and_from _ _ (operand_itself left) (operand_itself right)))
fact_itself (facts_are.Holds comparison left right) =
    and_from _ _ (eq-eqb (comparison_number comparison) (comparison_number comparison) refl) (and_from _ _ (operand_itself left) (operand_itself right))
fact_itself (facts_are.Held address offset value) =
    and_from _ _ (and_from _ _ (operand_itself address) (eq-eqb offset offset refl)) (operand_itself value)

all_asked_known : (asked facts : List Fact) (more : Option Fact) → ((fact : Fact) → is_known asked fact ≡ true → is_known_with facts more fact ≡ true)
    → are_known asked facts more ≡ true
all_asked_known [] facts more each = refl
all_asked_known (fact ∷ asked) facts more each =
    and_from _ _
    (or_right (is_unreached facts) (is_known_with facts more fact || (is_known_with facts more (resolved_fact facts fact) || is_below facts fact))
    (or_left (is_known_with facts more fact) (is_known_with facts more (resolved_fact facts fact) || is_below facts fact)
    (each fact (or_left (is_same_fact fact fact) (is_known asked fact) (fact_itself fact)))))
    (all_asked_known asked facts more (λ other known. each other (or_right (is_same_fact fact other) (is_known asked other) known)))

with_first : (facts : List Fact) (first one fact : Fact) → is_known_with facts (Some one) fact ≡ true → is_known_with (first ∷ facts) (Some one) fact ≡ true
with_first facts first one fact known = elim (or_cases (is_known facts fact) (is_same_fact one fact) known) [
  | inl among ↦ or_left (is_known (first ∷ facts) fact) (is_same_fact one fact) (or_right (is_same_fact first fact) (is_known facts fact) among)
  | inr same ↦ or_right (is_known (first ∷ facts) fact) (is_same_fact one fact) same
]

known_at_end : (facts : List Fact) (one fact : Fact) → is_known (facts ++ one ∷ []) fact ≡ true → is_known_with facts (Some one) fact ≡ true
known_at_end [] one fact known = elim (or_cases (is_same_fact one fact) (is_known [] fact) known) [
  | inl same ↦ or_right (is_known [] fact) (is_same_fact one fact) same
  | inr none ↦ absurd (false≢true none)
]
known_at_end (first ∷ facts) one fact known = elim (or_cases (is_same_fact first fact) (is_known (facts ++ one ∷ []) fact) known) [
  | inl same ↦ or_left (is_known (first ∷ facts) fact) (is_same_fact one fact) (or_left (is_same_fact first fact) (is_known facts fact) same)
  | inr following ↦ with_first facts first one fact (known_at_end facts one fact following)
]

pub known_of_itself : (facts : List Fact) → are_known facts facts None ≡ true
known_of_itself facts = all_asked_known facts facts None (λ fact known. or_left (is_known facts fact) (is_more None fact) known)

pub known_with_one : (facts : List Fact) (one : Fact) → are_known (facts ++ one ∷ []) facts (Some one) ≡ true
known_with_one facts one = all_asked_known (facts ++ one ∷ []) facts (Some one) (λ fact known. known_at_end facts one fact known)

pub known_without_first : (facts : List Fact) (one : Fact) → are_known (drop 1 facts ++ one ∷ []) facts (Some one) ≡ true
known_without_first [] one = known_with_one [] one
known_without_first (first ∷ facts) one =
    all_asked_known (facts ++ one ∷ []) (first ∷ facts) (Some one) (λ fact known. with_first facts first one fact (known_at_end facts one fact known))

pub known_up_to : (facts : List Fact) (more : Option Fact) (asked : List Fact) (k : ℕ) (fact : Fact) → slice_get asked k ≡ Some fact
    → are_known (take k asked) facts more ≡ true → follows facts more fact ≡ true → are_known (take (suc k) asked) facts more ≡ true
known_up_to facts more [] k fact at are known = absurd (let e : None ≡ Some fact = at in cc)
known_up_to facts more (first ∷ asked) zero fact at are known =
    let here : first ≡ fact = (let e : Some first ≡ Some fact = at in cc) in
    and_from _ _ (subst (λ (x : Fact). follows facts more x ≡ true) (sym here) known) refl
known_up_to facts more (first ∷ asked) (suc k) fact at are known =
    let (one, rest) = and_parts (follows facts more first) (are_known (take k asked) facts more) are in
    and_from _ _ one (known_up_to facts more asked k fact at rest known)

pub known_without : (facts : List Fact) (more : Option Fact) (asked : List Fact) (k : ℕ) → are_known (take k asked) facts more ≡ true
    → are_known (take k (remove asked k)) facts more ≡ true
known_without facts more [] zero are = refl
known_without facts more [] (suc k) are = refl
known_without facts more (first ∷ asked) zero are = refl
known_without facts more (first ∷ asked) (suc k) are =
    let (one, rest) = and_parts (follows facts more first) (are_known (take k asked) facts more) are in
    and_from _ _ one (known_without facts more asked k rest)

-- ---- the check then succeeds

get_same : (entries : List Entry) (place : ℕ) (x : Entry) → place < length entries → slice_get (set entries place x) place ≡ Some x
get_same [] place x below = absurd (omega arith)
get_same (entry ∷ entries) zero x below = refl
get_same (entry ∷ entries) (suc place) x below = get_same entries place x (omega arith)

pub known_where_set : (entries : List Entry) (place : ℕ) (x : Entry) (facts : List Fact) (more : Option Fact) → place < length entries → x.is_target ≡ true
    → are_known x.facts.items facts more ≡ true → may_jump (entry_in (set entries place x) place) facts more ≡ true
known_where_set entries place x facts more inside target known =
    subst (λ (o : Option Entry). may_jump (entry_of o) facts more ≡ true) (sym (get_same entries place x inside))
    (subst (λ (is : Bool). may_jump (if is then Some x.facts.items else None) facts more ≡ true) (sym target) known)

pub jumped_well : (pinned : List Bool) (entry : ℕ → Option (List Fact)) (facts : List Fact) (target index : ℕ) → may_jump (entry target) facts None ≡ true
    → jumps_well pinned entry facts (instructions.Jump target) index ≡ true
jumped_well pinned entry facts target index may = or_right (is_unreached facts) (may_jump (entry target) facts None) may

pub jumped_on : (asked : Option (List Fact)) (facts : List Fact) → may_jump asked facts None ≡ true → may_go_on asked facts None ≡ true
jumped_on (Some asked) facts may = may
jumped_on None facts may = refl

pub gone_well : (entry : ℕ → Option (List Fact)) (following : List Fact) (i : Instruction) (index : ℕ) → may_go_on (entry (index + 1)) following None ≡ true
    → goes_well entry following i index ≡ true
gone_well entry following (instructions.Jump target) index may = refl
gone_well entry following (instructions.Return value) index may = refl
gone_well entry following (instructions.Throw tag value) index may = refl
gone_well entry following (instructions.Finish value) index may = refl
gone_well entry following (instructions.Uncaught tag value) index may = refl
gone_well entry following i index may = may
