-- This file is about the use of a value that is only tested: the plain program is before the branch on the value. The plain program takes
-- this branch when the next operand is evaluated or a statement is chosen.
use Rattle.std.proofs.Common.{◌≡◌, ℕ, ◌+◌, Bool, true, false, not, List, ◌∷◌, Option, None, Some, refl, sym, ap, subst, ◌∙◌, arith, inl, inr}
use Rattle.std.specs.Prelude.{◌==◌, if◌then◌else◌}
use Rattle.cyc_words.proofs.Booleans.{not_not}
use Rattle.cyc_types.specs.declared.typed.Kind.TheVariants as kinds
use Rattle.cyc_types.specs.declared.typed.UnaryOperator.TheVariants as unary
use Rattle.cyc_types.specs.declared.typed.LogicalOperator.TheVariants as logical
use Rattle.cyc_types.specs.TypedTrees.{NoOperations, ThenTest, Program}
use Rattle.cyc_plain.specs.declared.instruction.Comparison.{Comparison}
use Rattle.cyc_plain.specs.declared.instruction.Comparison.TheVariants as comparisons
use Rattle.cyc_plain.specs.declared.instruction.Operand.{Operand}
use Rattle.cyc_plain.specs.declared.instruction.Operand.TheVariants as operands
use Rattle.cyc_plain.specs.declared.instruction.Instruction.TheVariants as instructions
use Rattle.cyc_plain.specs.inside.Operators.{compares}
use Rattle.cyc_plain.specs.inside.State as plain
use Rattle.cyc_plain.specs.inside.State.{Configuration}
use Rattle.cyc_plain.specs.inside.Step.{operand_word, at}
use Rattle.cyc_meaning.specs.Values.{Operand as Kinded}
use Rattle.cyc_meaning.specs.Operators.{is_zero, truth, truth_result, truth_of}
use Rattle.cyc_meaning.specs.State.{World, Environment, Operate, Chain, Decide, Choose, Test, Entry, Needs, Join, Loop, Focus, Evaluating, Given, Executing, Proceeding, State, Running}
use Rattle.cyc_meaning.specs.Step.{computed, tested, chosen, looped, step}
use Rattle.cyc_lower_proof.specs.inside.ControlCode.{opposite}
use Rattle.cyc_memory_relation.specs.inside.Tables.{Tables}
use Rattle.cyc_lower_proof.proofs.relation.code.Stands.{ForkAt}
use Rattle.cyc_lower_proof.proofs.relation.code.Statements.{StatementAt}
use Rattle.cyc_lower_proof.proofs.relation.contents.HeldValues.{IsIn, Holds, held}
use Rattle.cyc_lower_proof.proofs.relation.simulation.Relation.{DataIn, SharedAt, GivenAt, decided, LeadsTo, as_condition, following_statement, Matches}
use Rattle.cyc_lower_proof.proofs.relation.simulation.Stacks.{types_on, types_at, ConditionStack, DecidedStack, StatementStack, in_place, code_of, bounds_at, floor}
use Rattle.cyc_lower_proof.proofs.relation.simulation.Matched.{IsMatched, silently, by_one, by_two}
use Rattle.cyc_lower_proof.proofs.value_steps.ValueWords.{int_of, untrue, opposed, other_place, zero_is}

module _ (source : Program) (pages calls : ℕ) where
  -- The two targets of a comparing jump, for a failing and for a holding condition.
  forked : (c : Configuration) (failing : Comparison) (l r : Operand) (k : List Entry) (f h : ℕ) (fails : Bool)
      → ForkAt (code_of source c.active.function) (bounds_at source c.active.function) (types_on source c.active.function k) failing l r c.active.next f h
      → compares failing (operand_word c.active.slots l) (operand_word c.active.slots r) ≡ fails → LeadsTo source c (if fails then f else h)
  forked c failing l r k f h true (inl (here, following)) reported = (failing, l, r, f, here, ap (λ (b : Bool). if b then f else c.active.next + 1) reported)
  forked c failing l r k f h false (inl (here, following)) reported = (failing, l, r, f, here, ap (λ (b : Bool). if b then f else c.active.next + 1) reported ∙ following)
  forked c failing l r k f h true (inr (here, following)) reported = (opposite failing, l, r, h, here, ap (λ (b : Bool). if b then h else c.active.next + 1) (opposed failing _ _ ∙ ap not reported) ∙ following)
  forked c failing l r k f h false (inr (here, following)) reported = (opposite failing, l, r, h, here, ap (λ (b : Bool). if b then h else c.active.next + 1) (opposed failing _ _ ∙ ap not reported))

  -- If it is decided whether a comparison fails or holds, then its value, 0 or 1, is passed to the next continuation frame.
  pub given_compared : (t : Tables) (v : Kinded) (failing : Comparison) (l r : Operand) (k : List Entry) (e : Environment) (w : World) (c : Configuration) (fails : Bool)
      → is_zero v.value ≡ Some fails → compares failing (operand_word c.active.slots l) (operand_word c.active.slots r) ≡ fails
      → DataIn source t c.active.slots k e w c → Holds t c.active.slots (floor source c.active.function k) (held k)
      → ConditionStack source c.active.function failing l r c.active.next c.frames k → GivenAt source t v k e w c
  given_compared t v failing l r k e w c true zero reported facts holds (f, h, fork, first, second) = decided true f facts zero holds (forked c failing l r k f h true fork reported) first
  given_compared t v failing l r k e w c false zero reported facts holds (f, h, fork, first, second) = decided false h facts zero holds (forked c failing l r k f h false fork reported) second

  -- The plain program takes the branch on a tested value.
  goes_on : {focus : Focus} {l : List Entry} {e : Environment} {w : World} (next : State) (c : Configuration) (p : ℕ) → step source (Running focus l e w) ≡ next → SharedAt source pages calls l e w c → LeadsTo source c p
      → Matches source pages calls next (plain.Running (at c p)) → IsMatched source pages calls (Running focus l e w) (plain.Running c)
  goes_on next c p does shared (comparison, l, r, target, here, is) m =
      by_one source pages calls does shared here (λ choice. subst (λ q. Matches source pages calls next (plain.Running (at c q))) (sym is) m)

  pub decided_given : (v : Kinded) (fails : Bool) (p : ℕ) (k : List Entry) (e : Environment) (w : World) (c : Configuration) → (shared : SharedAt source pages calls k e w c) → DataIn source shared.tables c.active.slots k e w c
      → is_zero v.value ≡ Some fails → Holds shared.tables c.active.slots (floor source c.active.function k) (held k) → LeadsTo source c p → DecidedStack source c.active.function fails p c.frames k
      → IsMatched source pages calls (Running (Given v) k e w) (plain.Running c)
  decided_given v fails p (Needs (Chain NoOperations) ∷ k) e w c shared facts zero holds leads stack =
      silently source pages calls (Running (Given v) (Needs (Chain NoOperations) ∷ k) e w) (Running (Given v) k e w) (plain.Running c) refl
      (shared, decided fails p facts zero holds leads stack)
      (omega arith)
  decided_given v true p (Needs (Chain (ThenTest logical.AndThen b os)) ∷ k) e w c shared facts zero holds leads stack =
      silently source pages calls (Running (Given v) (Needs (Chain (ThenTest logical.AndThen b os)) ∷ k) e w) (Running (Given (int_of 0)) (Needs (Chain os) ∷ k) e w) (plain.Running c)
      (ap (λ (z : Option Bool). tested z logical.AndThen b os k e w) zero)
      (shared, decided true p facts refl holds leads stack)
      (omega arith)
  decided_given v false p (Needs (Chain (ThenTest logical.OrElse b os)) ∷ k) e w c shared facts zero holds leads stack =
      silently source pages calls (Running (Given v) (Needs (Chain (ThenTest logical.OrElse b os)) ∷ k) e w) (Running (Given (int_of 1)) (Needs (Chain os) ∷ k) e w) (plain.Running c)
      (ap (λ (z : Option Bool). tested z logical.OrElse b os k e w) zero)
      (shared, decided false p facts refl holds leads stack)
      (omega arith)
  decided_given v false p (Needs (Chain (ThenTest logical.AndThen b os)) ∷ k) e w c shared facts zero holds leads (f, h, at_b, first, second) =
      goes_on (Running (Evaluating b) (Needs Decide ∷ Needs (Chain os) ∷ k) e w) c p (ap (λ (z : Option Bool). tested z logical.AndThen b os k e w) zero) shared leads
      (shared, facts, as_condition f h at_b holds first second)
  decided_given v true p (Needs (Chain (ThenTest logical.OrElse b os)) ∷ k) e w c shared facts zero holds leads (f, h, at_b, first, second) =
      goes_on (Running (Evaluating b) (Needs Decide ∷ Needs (Chain os) ∷ k) e w) c p (ap (λ (z : Option Bool). tested z logical.OrElse b os k e w) zero) shared leads
      (shared, facts, as_condition f h at_b holds first second)
  decided_given v fails p (Needs Decide ∷ k) e w c shared facts zero holds leads stack =
      silently source pages calls (Running (Given v) (Needs Decide ∷ k) e w) (Running (Given (int_of (truth (not fails)))) k e w) (plain.Running c)
      (ap (λ (z : Option Bool). computed kinds.Int (truth_of z) k e w) zero)
      (shared, decided fails p facts (ap Some (untrue (not fails) ∙ not_not fails)) holds leads stack)
      (omega arith)
  decided_given v fails p (Needs (Operate unary.Not) ∷ k) e w c shared facts zero holds leads stack =
      silently source pages calls (Running (Given v) (Needs (Operate unary.Not) ∷ k) e w) (Running (Given (int_of (truth fails))) k e w) (plain.Running c)
      (ap (λ (z : Option Bool). computed kinds.Int (truth_result z) k e w) zero)
      (shared, decided (not fails) p facts (ap Some (untrue fails)) holds leads stack)
      (omega arith)
  decided_given v true p (Needs (Choose s t) ∷ k) e w c shared facts zero holds leads (exits, q, at_t, stack) =
      goes_on (Running (Executing t) (Join ∷ k) e w) c p (ap (λ (z : Option Bool). chosen z s t k e w) zero) shared leads
      (shared, facts, (exits, q, at_t, (q, in_place refl, stack)))
  decided_given v false p (Needs (Choose s t) ∷ k) e w c shared facts zero holds leads (exits, m, q, at_s, comes, stack) =
      goes_on (Running (Executing s) (Join ∷ k) e w) c p (ap (λ (z : Option Bool). chosen z s t k e w) zero) shared leads
      (shared, facts, (exits, m, at_s, (q, comes, stack)))
  decided_given v true p (Needs (Test a s) ∷ k) e w c shared facts zero holds leads (outer, q, inl same, stack) =
      goes_on (Running Proceeding k e w) c p (ap (λ (z : Option Bool). looped z a s k e w) zero) shared leads
      (shared, following_statement outer facts (subst (λ n. StatementStack source c.active.function outer n c.frames k) (sym same) stack))
  decided_given v true p (Needs (Test a s) ∷ k) e w c shared facts zero holds (comparison, l, r, target, here, is) (outer, q, inr jump, stack) =
      by_two source pages calls (at c p) (ap (λ (z : Option Bool). looped z a s k e w) zero) shared shared here (λ choice. ap (λ (n : ℕ). plain.Running (at c n)) is) jump
      (other_place (code_of source c.active.function) c.active.next p (instructions.Branch comparison l r target) (instructions.Jump q) here jump (λ same. let f : instructions.Branch comparison l r target ≡ instructions.Jump q = same in cc))
      (λ choice. (shared, following_statement outer facts stack))
  decided_given v false p (Needs (Test a s) ∷ k) e w c shared facts zero holds leads (exits, outer, m, q, (b, loop_is, function_is, entry, leave, at_s, again, after), is, stack) =
      goes_on (Running (Executing s) (Loop a s ∷ k) e w) c p (ap (λ (z : Option Bool). looped z a s k e w) zero) shared leads (
        shared,
        facts,
        (
          exits,
          m,
          subst (λ i. StatementAt (code_of source c.active.function) (bounds_at source c.active.function) (types_at source c.active.function) s exits (floor source c.active.function k) i m) is at_s,
          (outer, q, (b, loop_is, function_is, entry, leave, at_s, again, after), stack),
        ),
      )
  decided_given v fails p k e w c shared facts zero holds leads stack = absurd stack

  -- A value in a slot or constant is only tested by a jump, and is not moved to another slot.
  pub tested_given : (v : Kinded) (o : Operand) (k : List Entry) (e : Environment) (w : World) (c : Configuration) → (is_zero v.value ≡ None → ⊥) → (shared : SharedAt source pages calls k e w c)
      → DataIn source shared.tables c.active.slots k e w c → IsIn shared.tables v c.active.slots o → Holds shared.tables c.active.slots (floor source c.active.function k) (held k)
      → ConditionStack source c.active.function comparisons.Equal o (operands.Word 0) c.active.next c.frames k → IsMatched source pages calls (Running (Given v) k e w) (plain.Running c)
  tested_given v o k e w c some shared facts is holds (f, h, fork, first, second) = by (operand_word c.active.slots o == 0) refl
    where
      zero : is_zero v.value ≡ Some (operand_word c.active.slots o == 0)
      zero = zero_is shared.tables v c.active.slots o some is

      by : (fails : Bool) → (operand_word c.active.slots o == 0) ≡ fails → IsMatched source pages calls (Running (Given v) k e w) (plain.Running c)
      by true reported = decided_given v true f k e w c shared facts (zero ∙ ap Some reported) holds (forked c comparisons.Equal o (operands.Word 0) k f h true fork reported) first
      by false reported = decided_given v false h k e w c shared facts (zero ∙ ap Some reported) holds (forked c comparisons.Equal o (operands.Word 0) k f h false fork reported) second
