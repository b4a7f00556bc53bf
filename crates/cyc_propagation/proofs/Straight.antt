-- For an instruction that does not jump, the check of the facts required at its successors succeeds if the next instruction is no
-- jump target. For an unreachable jump, the check of the facts required at its successors also succeeds.
use Rattle.std.proofs.Common.{◌≡◌, ℕ, ◌+◌, Bool, true, List, [], ◌∷◌, length, Option, Some, None, refl, ap, ◌∙◌, sym, subst, arith}
use Rattle.std.specs.Prelude.{not, ◌&&◌}
use Rattle.std.proofs.lemmas.Bool.{and_from, and_parts, or_left, false≢true}
use Rattle.cyc_plain.specs.declared.instruction.Instruction.{Instruction}
use Rattle.cyc_plain.specs.declared.instruction.Instruction.TheVariants as instructions
use Rattle.cyc_plain.specs.declared.instruction.Comparison.{Comparison}
use Rattle.cyc_plain.specs.declared.instruction.Comparison.TheVariants as comparisons
use Rattle.cyc_plain.specs.declared.instruction.Operand.{Operand}
use Rattle.cyc_plain.specs.declared.instruction.Operand.TheVariants as operands
use Rattle.cyc_plain.specs.inside.Program.{Program}
use Rattle.cyc_propagation.specs.declared.fact.Fact.{Fact}
use Rattle.cyc_propagation.specs.declared.fact.Fact.TheVariants as facts_are
use Rattle.cyc_propagation.specs.inside.Facts.{facts_after, is_same_comparison, is_same_operand, is_same_fact, never, is_unreached}
use Rattle.cyc_propagation.specs.inside.Table.{entered_or, may_jump, may_go_on, is_entry_suited, leads_well, is_checked_at}
use Rattle.cyc_propagation.specs.inside.Entries.{is_entered, is_straight}
use Rattle.cyc_propagation.proofs.Truth.{same_comparison, same_operand}

-- ---- unreachable places

only_never : (fact : Fact) → is_same_fact fact never ≡ true → fact ≡ never
only_never (facts_are.Equal slot operand) is = absurd (false≢true is)
only_never (facts_are.Computed slot operator left right) is = absurd (false≢true is)
only_never (facts_are.Holds comparison left right) is =
    let (c, both) = and_parts (is_same_comparison comparison comparisons.NotEqual) (is_same_operand left (operands.Word 0) && is_same_operand right (operands.Word 0)) is in
    let (l, r) = and_parts (is_same_operand left (operands.Word 0)) (is_same_operand right (operands.Word 0)) both in
    ap (λ (x : Comparison). facts_are.Holds x left right) (same_comparison comparison comparisons.NotEqual c)
    ∙ ap (λ (x : Operand). facts_are.Holds comparisons.NotEqual x right) (same_operand left (operands.Word 0) l)
    ∙ ap (λ (x : Operand). facts_are.Holds comparisons.NotEqual (operands.Word 0) x) (same_operand right (operands.Word 0) r)
only_never (facts_are.Held address offset value) is = absurd (false≢true is)

pub never_alone : (facts : List Fact) → length facts ≡ 1 → is_unreached facts ≡ true → facts ≡ never ∷ []
never_alone [] one is = absurd (omega (arith, one))
never_alone (fact ∷ []) one is = ap (λ (x : Fact). x ∷ []) (only_never fact is)
never_alone (fact ∷ other ∷ facts) one is = absurd (omega (arith, one))

-- ---- straight-line code

not_entered : (asked : Option (List Fact)) → not (is_entered asked) ≡ true → asked ≡ None
not_entered (Some asked) is = absurd (false≢true is)
not_entered None is = refl

module _ (entry : ℕ → Option (List Fact)) (facts : List Fact) (index : ℕ) where
  pub none_after : (i : Instruction) → is_straight entry facts i index ≡ true → entry (index + 1) ≡ None
  none_after (instructions.Jump target) is =
      not_entered (entry (index + 1)) (and_parts (is_unreached facts) (not (is_entered (entry (index + 1)))) is).1
  none_after (instructions.Branch comparison left right target) is = absurd (false≢true is)
  none_after (instructions.Try first handler) is = absurd (false≢true is)
  none_after i is = not_entered (entry (index + 1)) is

  pub straight_on : (i : Instruction) → is_straight entry facts i index ≡ true → (following : List Fact) → following ≡ entered_or (entry (index + 1)) following
  straight_on i is following = subst (λ (asked : Option (List Fact)). following ≡ entered_or asked following) (sym (none_after i is)) refl

  module _ (program : Program) (pinned : List Bool) where
    leads_straight : (i : Instruction) → entry (index + 1) ≡ None → is_straight entry facts i index ≡ true → leads_well program pinned entry facts i index ≡ true
    leads_straight (instructions.Jump target) none is =
        or_left (is_unreached facts) (may_jump (entry target) facts None) (and_parts (is_unreached facts) (not (is_entered (entry (index + 1)))) is).0
    leads_straight (instructions.Branch comparison left right target) none is = absurd (false≢true is)
    leads_straight (instructions.Try first handler) none is = absurd (false≢true is)
    leads_straight (instructions.Return value) none is = refl
    leads_straight (instructions.Throw tag value) none is = refl
    leads_straight (instructions.Finish value) none is = refl
    leads_straight (instructions.Uncaught tag value) none is = refl
    leads_straight i none is =
        subst (λ (asked : Option (List Fact)). may_go_on asked (facts_after program pinned facts i index (index + 1)) None ≡ true) (sym none) refl

    pub straight_checked : (i : Instruction) → is_straight entry facts i index ≡ true → is_checked_at program pinned entry facts i index ≡ true
    straight_checked i is =
        and_from _ _ (subst (λ (asked : Option (List Fact)). is_entry_suited pinned asked ≡ true) (sym (none_after i is)) refl)
        (leads_straight i (none_after i is) is)
