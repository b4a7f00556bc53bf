-- If all instructions of a function were checked and simplified, the resulting code is a valid replacement of the function's code.
use Rattle.std.proofs.Common.{◌≡◌, ℕ, zero, suc, ◌+◌, ◌<◌, Bool, true, List, [], ◌∷◌, ◌++◌, length, map, Option, Some, None, slice_get, refl, sym, ap, subst, ◌∙◌, arith, inl, inr}
use Rattle.std.specs.Prelude.{◌==◌, slice_index_or}
use Rattle.std.proofs.lemmas.Bool.{cases_lt, and_parts, and_from, eqb-true}
use Rattle.std.proofs.lemmas.List.{length-append}
use Rattle.cyc_words.proofs.Items.{below_from_slice_get}
use Rattle.cyc_words.proofs.Sums.{sum_by-at_most_each}
use Rattle.cyc_plain.specs.declared.instruction.Instruction.{Instruction}
use Rattle.cyc_plain.specs.declared.instruction.Instruction.TheVariants as instructions
use Rattle.cyc_plain.specs.declared.program.Function.{Function}
use Rattle.cyc_plain.specs.inside.Program.{Routine, Program, no_routine, routine_of, routine_at, instruction_size}
use Rattle.cyc_plain.specs.inside.Uses.{At}
use Rattle.cyc_propagation.specs.declared.entry.Entry.{Entry}
use Rattle.cyc_propagation.specs.declared.fact.Fact.{Fact}
use Rattle.cyc_propagation.specs.inside.Replacement.{put_at}
use Rattle.cyc_propagation.specs.inside.Table.{ArePins, IsReplaced, after_put, entered_or, facts_after_place, facts_at, may_jump, is_entry_suited, leads_well, is_checked_at}
use Rattle.cyc_propagation.specs.inside.Entries.{entry_in, jumps_well, goes_well, AreWalked, IsWalked, with_code, AreFirstReplaced}
use Rattle.cyc_propagation.proofs.Sizes.{put_not_larger}
use Rattle.cyc_propagation.proofs.Tables.{replaced}

-- ---- the two halves of the check

module _ (program : Program) (pinned : List Bool) (entry : ℕ → Option (List Fact)) where
  opened : (facts : List Fact) (first handler index : ℕ) → jumps_well pinned entry facts (instructions.Try first handler) index ≡ true
      → goes_well entry (after_put program pinned facts (instructions.Try first handler) index) (instructions.Try first handler) index ≡ true
      → leads_well program pinned entry facts (instructions.Try first handler) index ≡ true
  opened [] first handler index jumps goes = and_from _ _ jumps goes
  opened (fact ∷ facts) first handler index jumps goes =
      let (none, there) = and_parts (length (fact ∷ facts) == 0) (may_jump (entry handler) (fact ∷ facts) None) jumps in
      absurd (omega (arith, eqb-true (length (fact ∷ facts)) 0 none))

  halves : (facts : List Fact) (i : Instruction) (index : ℕ) → jumps_well pinned entry facts i index ≡ true
      → goes_well entry (after_put program pinned facts i index) i index ≡ true → leads_well program pinned entry facts i index ≡ true
  halves facts (instructions.Jump target) index jumps goes = jumps
  halves facts (instructions.Branch comparison left right target) index jumps goes = and_from _ _ jumps goes
  halves facts (instructions.Try first handler) index jumps goes = opened facts first handler index jumps goes
  halves facts (instructions.Return value) index jumps goes = refl
  halves facts (instructions.Throw tag value) index jumps goes = refl
  halves facts (instructions.Finish value) index jumps goes = refl
  halves facts (instructions.Uncaught tag value) index jumps goes = refl
  halves facts i index jumps goes = goes

  pub is_checked : (facts : List Fact) (i : Instruction) (index : ℕ) → jumps_well pinned entry facts i index ≡ true → is_entry_suited pinned (entry (index + 1)) ≡ true
      → goes_well entry (after_put program pinned facts i index) i index ≡ true → is_checked_at program pinned entry facts i index ≡ true
  is_checked facts i index jumps suited goes = and_from _ _ suited (halves facts i index jumps goes)

-- ---- one instruction at a time

pub get_before : (code : List Instruction) (x : Instruction) (k : ℕ) → k < length code → slice_get (code ++ x ∷ []) k ≡ slice_get code k
get_before [] x k below = absurd (omega arith)
get_before (i ∷ code) x zero below = refl
get_before (i ∷ code) x (suc k) below = get_before code x k (omega arith)

pub get_last : (code : List Instruction) (x : Instruction) → slice_get (code ++ x ∷ []) (length code) ≡ Some x
get_last [] x = refl
get_last (i ∷ code) x = get_last code x

module _ (program : Program) (r : Routine) (pinned : List Bool) (entries : List Entry) where
  abbrev known_at : ℕ → List Fact
  known_at index = facts_at program pinned (entry_in entries) r.code index

  pub none_walked : AreWalked program r pinned entries 0 [] []
  none_walked = record {
    as_many = refl;
    known = refl;
    each = λ k i at below. absurd (omega arith);
    checked = λ k i at below. absurd (omega arith);
  }

  module _ (count : ℕ) (code : List Instruction) (facts next : List Fact) (i : Instruction) (are : AreWalked program r pinned entries count code facts) (at : At r count i)
      (right : is_checked_at program pinned (entry_in entries) facts (put_at facts count (length r.code) i) count ≡ true)
      (becomes : next ≡ entered_or (entry_in entries (count + 1)) (after_put program pinned facts (put_at facts count (length r.code) i) count)) where
    after : suc count ≡ count + 1
    after = omega arith

    known_next : next ≡ known_at (count + 1)
    known_next =
        let following : List Fact → List Fact = λ (known : List Fact). after_put program pinned known (put_at known count (length r.code) i) count in
        let there : known_at (suc count) ≡ entered_or (entry_in entries (suc count)) (following (known_at count)) =
        ap (λ (o : Option Instruction). entered_or (entry_in entries (suc count)) (facts_after_place program pinned (known_at count) o count (length r.code))) at in
        let here : next ≡ entered_or (entry_in entries (count + 1)) (following (known_at count)) =
        becomes ∙ ap (λ (known : List Fact). entered_or (entry_in entries (count + 1)) (following known)) are.known in
        let same : next ≡ known_at (suc count) =
        here ∙ ap (λ (n : ℕ). entered_or (entry_in entries n) (following (known_at count))) (sym after) ∙ sym there in
        subst (λ (n : ℕ). next ≡ known_at n) after same

    same_instruction : (k : ℕ) (j : Instruction) → At r k j → k ≡ count → i ≡ j
    same_instruction k j there same = let e : Some i ≡ Some j = sym at ∙ ap (slice_get r.code) (sym same) ∙ there in cc

    abbrev Stands : ℕ → Instruction → Type 0
    Stands k j = slice_get (code ++ put_at facts count (length r.code) i ∷ []) k ≡ Some (put_at (known_at k) k (length r.code) j)

    abbrev Checked : ℕ → Instruction → Type 0
    Checked k j = is_checked_at program pinned (entry_in entries) (known_at k) (put_at (known_at k) k (length r.code) j) k ≡ true

    pub one_more : AreWalked program r pinned entries (count + 1) (code ++ put_at facts count (length r.code) i ∷ []) next
    one_more = record {
      as_many = omega (arith, length-append code (put_at facts count (length r.code) i ∷ []), are.as_many);
      known = known_next;
      each = λ k j there below. elim (cases_lt k count) [
        | inl before ↦ get_before code (put_at facts count (length r.code) i) k (omega (arith, before, are.as_many)) ∙ are.each k j there before
        | inr not_before ↦ last_each k j there (omega (arith, below, not_before))
      ];
      checked = λ k j there below. elim (cases_lt k count) [
        | inl before ↦ are.checked k j there before
        | inr not_before ↦ last_checked k j there (omega (arith, below, not_before))
      ];
    }
      where
        last_each : (k : ℕ) (j : Instruction) → At r k j → k ≡ count → Stands k j
        last_each k j there same =
            let e : slice_get (code ++ put_at facts count (length r.code) i ∷ []) count ≡ Some (put_at facts count (length r.code) i) =
            subst (λ (n : ℕ). slice_get (code ++ put_at facts count (length r.code) i ∷ []) n ≡ Some (put_at facts count (length r.code) i)) are.as_many (get_last code (put_at facts count (length r.code) i)) in
            let here : Stands count i = e ∙ ap (λ (known : List Fact). Some (put_at known count (length r.code) i)) are.known in
            subst (λ (n : ℕ). Stands n j) (sym same) (subst (Stands count) (same_instruction k j there same) here)

        last_checked : (k : ℕ) (j : Instruction) → At r k j → k ≡ count → Checked k j
        last_checked k j there same =
            let here : Checked count i =
            subst (λ (known : List Fact). is_checked_at program pinned (entry_in entries) known (put_at known count (length r.code) i) count ≡ true) are.known right in
            subst (λ (n : ℕ). Checked n j) (sym same) (subst (Checked count) (same_instruction k j there same) here)

  pub walked_replaced : (code : List Instruction) → ArePins r pinned → IsWalked program r pinned entries code → IsReplaced program r (with_code r code)
  walked_replaced code pins (facts, are) =
      replaced program r (with_code r code) pinned (entry_in entries) (λ index i at. are.checked index i at (below_from_slice_get r.code index i at)) are.as_many
      (λ index i at. are.each index i at (below_from_slice_get r.code index i at)) pins refl refl refl refl refl
      (sum_by-at_most_each instruction_size r.code code are.as_many (λ index i at.
      let known = known_at index in
      (put_at known index (length r.code) i, are.each index i at (below_from_slice_get r.code index i at), put_not_larger known index (length r.code) i)))

-- If the optimizer checks and simplifies one more instruction, `AreWalked` (the first instructions of a
-- function are checked and simplified) holds for one more instruction.
pub stepped : (program : Program) (r : Routine) (pinned : List Bool) (entries : List Entry) (count : ℕ) (code : List Instruction) (facts next : List Fact) (i : Instruction)
    → AreWalked program r pinned entries count code facts → At r count i → (made : Instruction) (all : List Instruction) → made ≡ put_at facts count (length r.code) i
    → all ≡ code ++ made ∷ [] → is_checked_at program pinned (entry_in entries) facts made count ≡ true
    → next ≡ entered_or (entry_in entries (count + 1)) (after_put program pinned facts made count) → AreWalked program r pinned entries (count + 1) all next
stepped program r pinned entries count code facts next i are at made all is all_is right becomes =
    subst (λ (is : List Instruction). AreWalked program r pinned entries (count + 1) is next) (sym (all_is ∙ ap (λ (j : Instruction). code ++ j ∷ []) is))
    (one_more program r pinned entries count code facts next i are at
    (subst (λ (j : Instruction). is_checked_at program pinned (entry_in entries) facts j count ≡ true) is right)
    (becomes ∙ ap (λ (j : Instruction). entered_or (entry_in entries (count + 1)) (after_put program pinned facts j count)) is))

-- ---- one function at a time

pub routine_before : (routines : List Routine) (r : Routine) (k : ℕ) → k < length routines → slice_index_or (routines ++ r ∷ []) k no_routine ≡ slice_index_or routines k no_routine
routine_before [] r k below = absurd (omega arith)
routine_before (s ∷ routines) r zero below = refl
routine_before (s ∷ routines) r (suc k) below = routine_before routines r k (omega arith)

pub routine_last : (routines : List Routine) (r : Routine) → slice_index_or (routines ++ r ∷ []) (length routines) no_routine ≡ r
routine_last [] r = refl
routine_last (s ∷ routines) r = routine_last routines r

pub routines_last : (functions : List Function) (f : Function) → map routine_of (functions ++ f ∷ []) ≡ map routine_of functions ++ routine_of f ∷ []
routines_last [] f = refl
routines_last (g ∷ functions) f = ap (λ (rs : List Routine). routine_of g ∷ rs) (routines_last functions f)

pub next_replaced : (program : Program) (count : ℕ) (routines : List Routine) (r : Routine) → AreFirstReplaced program count routines → IsReplaced program (routine_at program count) r
    → AreFirstReplaced program (count + 1) (routines ++ r ∷ [])
next_replaced program count routines r are is = record {
  as_many = omega (arith, length-append routines (r ∷ []), are.as_many);
  each = λ k below. elim (cases_lt k count) [
    | inl before ↦ subst (IsReplaced program (routine_at program k)) (sym (routine_before routines r k (omega (arith, before, are.as_many)))) (are.each k before)
    | inr not_before ↦
        let same : k ≡ count = omega (arith, below, not_before) in
        let last : slice_index_or (routines ++ r ∷ []) count no_routine ≡ r =
        subst (λ (n : ℕ). slice_index_or (routines ++ r ∷ []) n no_routine ≡ r) are.as_many (routine_last routines r) in
        subst (λ (n : ℕ). IsReplaced program (routine_at program n) (slice_index_or (routines ++ r ∷ []) n no_routine)) (sym same)
        (subst (IsReplaced program (routine_at program count)) (sym last) is)
  ];
}
