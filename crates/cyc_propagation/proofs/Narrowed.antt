-- If the check of a function's known facts succeeds with some facts required at later jump targets, it also succeeds with fewer
-- facts required there.
use Rattle.std.proofs.Common.{◌≡◌, ℕ, zero, suc, ◌+◌, ◌<◌, ◌≤◌, Bool, true, List, [], ◌∷◌, length, Option, Some, None, slice_get, refl, sym, ap, subst, ◌∙◌, arith, inl, inr}
use Rattle.std.specs.Prelude.{◌&&◌, ◌==◌, remove}
use Rattle.std.proofs.lemmas.Bool.{and_from, and_parts, or_cases, or_left, or_right}
use Rattle.cyc_plain.specs.declared.instruction.Instruction.{Instruction}
use Rattle.cyc_plain.specs.declared.instruction.Instruction.TheVariants as instructions
use Rattle.cyc_plain.specs.inside.Program.{Routine, Program}
use Rattle.cyc_propagation.specs.declared.entry.Entry.{Entry}
use Rattle.cyc_propagation.specs.declared.fact.Fact.{Fact}
use Rattle.cyc_propagation.specs.inside.Facts.{is_unreached, facts_after, made}
use Rattle.cyc_propagation.specs.inside.Replacement.{put_at}
use Rattle.cyc_propagation.specs.inside.Table.{entered_or, facts_after_place, facts_at, follows, are_known, may_jump, may_go_on, is_entry_suited, is_empty, leads_well, is_checked_at}
use Rattle.cyc_propagation.specs.inside.Entries.{IsLess, AreNarrowed, entry_in, jumps_well, AreWalked}

-- ---- fewer required facts

pub less_without : (asked : List Fact) (k : ℕ) → IsLess asked (remove asked k)
less_without [] zero facts more are = refl
less_without [] (suc k) facts more are = refl
less_without (fact ∷ asked) zero facts more are = (and_parts (follows facts more fact) (are_known asked facts more) are).1
less_without (fact ∷ asked) (suc k) facts more are =
    let (first, rest) = and_parts (follows facts more fact) (are_known asked facts more) are in
    and_from _ _ first (less_without asked k facts more rest)

pub none_narrowed : (index : ℕ) (entry : ℕ → Option (List Fact)) → AreNarrowed index entry entry
none_narrowed index entry = record {
  same = λ k below. refl;
  less = λ k facts more may. may;
}

pub narrowed_again : (index : ℕ) (a b c : ℕ → Option (List Fact)) → AreNarrowed index a b → AreNarrowed index b c → AreNarrowed index a c
narrowed_again index a b c first second = record {
  same = λ k below. second.same k below ∙ first.same k below;
  less = λ k facts more may. second.less k facts more (first.less k facts more may);
}

-- ---- the check with fewer required facts

module _ (program : Program) (pinned : List Bool) (a b : ℕ → Option (List Fact)) (index : ℕ) (narrowed : AreNarrowed index a b) where
  pub jumps_narrowed : (facts : List Fact) (i : Instruction) (place : ℕ) → jumps_well pinned a facts i place ≡ true → jumps_well pinned b facts i place ≡ true
  jumps_narrowed facts (instructions.Jump target) place well =
      elim (or_cases (is_unreached facts) (may_jump (a target) facts None) well) [
        | inl unreached ↦ or_left (is_unreached facts) (may_jump (b target) facts None) unreached
        | inr may ↦ or_right (is_unreached facts) (may_jump (b target) facts None) (narrowed.less target facts None may)
      ]
  jumps_narrowed facts (instructions.Branch comparison left right target) place well =
      narrowed.less target facts (made pinned (instructions.Branch comparison left right target) place target) well
  jumps_narrowed facts (instructions.Try first handler) place well =
      let (none, may) = and_parts (length facts == 0) (may_jump (a handler) facts None) well in
      and_from _ _ none (narrowed.less handler facts None may)
  jumps_narrowed facts i place well = refl

  next_same : (place : ℕ) → place < index → b (place + 1) ≡ a (place + 1)
  next_same place before = narrowed.same (place + 1) (omega (arith, before))

  goes_narrowed : (place : ℕ) → place < index → (facts : List Fact) → may_go_on (a (place + 1)) facts None ≡ true → may_go_on (b (place + 1)) facts None ≡ true
  goes_narrowed place before facts may = subst (λ (o : Option (List Fact)). may_go_on o facts None ≡ true) (sym (next_same place before)) may

  leads_narrowed : (facts : List Fact) (i : Instruction) (place : ℕ) → place < index → leads_well program pinned a facts i place ≡ true
      → leads_well program pinned b facts i place ≡ true
  leads_narrowed facts (instructions.Jump target) place before well =
      elim (or_cases (is_unreached facts) (may_jump (a target) facts None) well) [
        | inl unreached ↦ or_left (is_unreached facts) (may_jump (b target) facts None) unreached
        | inr may ↦ or_right (is_unreached facts) (may_jump (b target) facts None) (narrowed.less target facts None may)
      ]
  leads_narrowed facts (instructions.Branch comparison left right target) place before well =
      let j : Instruction = instructions.Branch comparison left right target in
      let following : List Fact = facts_after program pinned facts j place (place + 1) in
      let (may, on) = and_parts (may_jump (a target) facts (made pinned j place target)) (may_go_on (a (place + 1)) following None) well in
      and_from _ _ (narrowed.less target facts (made pinned j place target) may) (goes_narrowed place before following on)
  leads_narrowed facts (instructions.Try first handler) place before well =
      let (empty, both) = and_parts (is_empty facts) (may_jump (a handler) [] None && may_go_on (a (place + 1)) [] None) well in
      let (may, on) = and_parts (may_jump (a handler) [] None) (may_go_on (a (place + 1)) [] None) both in
      and_from _ _ empty (and_from _ _ (narrowed.less handler [] None may) (goes_narrowed place before [] on))
  leads_narrowed facts (instructions.Return value) place before well = refl
  leads_narrowed facts (instructions.Throw tag value) place before well = refl
  leads_narrowed facts (instructions.Finish value) place before well = refl
  leads_narrowed facts (instructions.Uncaught tag value) place before well = refl
  leads_narrowed facts i place before well = goes_narrowed place before (facts_after program pinned facts i place (place + 1)) well

  checked_narrowed : (facts : List Fact) (i : Instruction) (place : ℕ) → place < index → is_checked_at program pinned a facts i place ≡ true
      → is_checked_at program pinned b facts i place ≡ true
  checked_narrowed facts i place before checked =
      let (suited, leads) = and_parts (is_entry_suited pinned (a (place + 1))) (leads_well program pinned a facts i place) checked in
      and_from _ _ (subst (λ (o : Option (List Fact)). is_entry_suited pinned o ≡ true) (sym (next_same place before)) suited)
      (leads_narrowed facts i place before leads)

  facts_narrowed : (code : List Instruction) (k : ℕ) → k ≤ index → facts_at program pinned b code k ≡ facts_at program pinned a code k
  facts_narrowed code zero below = refl
  facts_narrowed code (suc k) below =
      let following : List Fact → List Fact = λ (facts : List Fact). facts_after_place program pinned facts (slice_get code k) k (length code) in
      ap (λ (o : Option (List Fact)). entered_or o (following (facts_at program pinned b code k))) (narrowed.same (suc k) below)
      ∙ ap (λ (facts : List Fact). entered_or (a (suc k)) (following facts)) (facts_narrowed code k (omega (arith, below)))

-- If the check of known facts succeeded for some instructions, it still succeeds for them when jump targets after them require fewer facts.
pub walked_narrowed : (program : Program) (r : Routine) (pinned : List Bool) (old new : List Entry) (count : ℕ) (code : List Instruction) (facts : List Fact)
    → AreNarrowed count (entry_in old) (entry_in new) → AreWalked program r pinned old count code facts → AreWalked program r pinned new count code facts
walked_narrowed program r pinned old new count code facts narrowed are = record {
  as_many = are.as_many;
  known = are.known ∙ sym (same count (omega arith));
  each = λ k i at below.
      subst (λ (known : List Fact). slice_get code k ≡ Some (put_at known k (length r.code) i)) (sym (same k (omega (arith, below)))) (are.each k i at below);
  checked = λ k i at below.
      subst (λ (known : List Fact). is_checked_at program pinned (entry_in new) known (put_at known k (length r.code) i) k ≡ true) (sym (same k (omega (arith, below))))
      (checked_narrowed program pinned (entry_in old) (entry_in new) count narrowed (known_at k) (put_at (known_at k) k (length r.code) i) k below (are.checked k i at below));
}
  where
    known_at : ℕ → List Fact
    known_at k = facts_at program pinned (entry_in old) r.code k

    same : (k : ℕ) → k ≤ count → facts_at program pinned (entry_in new) r.code k ≡ facts_at program pinned (entry_in old) r.code k
    same k below = facts_narrowed program pinned (entry_in old) (entry_in new) count narrowed r.code k below
