-- This file proves that the code after a chain of tests is reached from each of the tests.
use Rattle.std.proofs.Common.{ℕ, Bool, true, false, List, inl}
use Rattle.cyc_types.specs.declared.typed.LogicalOperator.TheVariants as logical
use Rattle.cyc_types.specs.declared.typed.UnaryOperator.TheVariants as unary
use Rattle.cyc_types.specs.TypedTrees.{Expression, Unary, Binary, Operations, NoOperations, ThenTest}
use Rattle.cyc_types.specs.Numbered.{Numbering}
use Rattle.cyc_plain.specs.declared.instruction.Comparison.{Comparison}
use Rattle.cyc_plain.specs.declared.instruction.Operand.{Operand}
use Rattle.cyc_plain.specs.declared.instruction.Instruction.{Instruction}
use Rattle.cyc_lower_proof.specs.inside.Slots.{Types}
use Rattle.cyc_lower_proof.proofs.relation.code.Stands.{Forks, ComparedAt, BranchesAt, TestsAt}

module _ (code : List Instruction) (bounds : Numbering) (types : Types) where
  -- A condition that is a single comparison has the code of a condition.
  pub compared_whole : (a : Expression) (f h t p : ℕ) → ComparedAt code bounds types a f h t p → BranchesAt code bounds types a f h t p
  compared_whole (Unary unary.Not a) f h t p at = inl at
  compared_whole (Binary a (ThenTest u b os) ty) f h t p at = inl at
  compared_whole a f h t p at = at

  pub tests_reach : {X : Type 0} {goes : (fails : Bool) → (p : ℕ) → Type 0} → ((fails : Bool) (p : ℕ) → goes fails p → X)
      → (os : Operations) (fails : Bool) (t p : ℕ) → TestsAt code bounds types os fails t p goes → X
  tests_reach reach NoOperations fails t p at = reach fails p at
  tests_reach reach (ThenTest logical.AndThen b os) true t p at = tests_reach reach os true t p at
  tests_reach reach (ThenTest logical.OrElse b os) false t p at = tests_reach reach os false t p at
  tests_reach reach (ThenTest logical.AndThen b os) false t p (f, h, at_b, first, second) = tests_reach reach os true t f first
  tests_reach reach (ThenTest logical.OrElse b os) true t p (f, h, at_b, first, second) = tests_reach reach os true t f first
  tests_reach reach os fails t p at = absurd at

  -- `TestsAt` states a property of the code that comes after a chain of `&&` or `||` tests. This property may be replaced by one
  -- that it implies.
  pub tests_go : {goes others : (fails : Bool) → (p : ℕ) → Type 0} → ((fails : Bool) (p : ℕ) → goes fails p → others fails p)
      → (os : Operations) (fails : Bool) (t p : ℕ) → TestsAt code bounds types os fails t p goes → TestsAt code bounds types os fails t p others
  tests_go leads NoOperations fails t p at = leads fails p at
  tests_go leads (ThenTest logical.AndThen b os) true t p at = tests_go leads os true t p at
  tests_go leads (ThenTest logical.OrElse b os) false t p at = tests_go leads os false t p at
  tests_go leads (ThenTest logical.AndThen b os) false t p (f, h, at_b, first, second) = (f, h, at_b, tests_go leads os true t f first, tests_go leads os false t h second)
  tests_go leads (ThenTest logical.OrElse b os) true t p (f, h, at_b, first, second) = (f, h, at_b, tests_go leads os true t f first, tests_go leads os false t h second)
  tests_go leads os fails t p at = absurd at

  pub forks_go : {goes others : (fails : Bool) → (p : ℕ) → Type 0} → ((fails : Bool) (p : ℕ) → goes fails p → others fails p)
      → (failing : Comparison) (l r : Operand) (p : ℕ) → Forks code bounds types failing l r p goes → Forks code bounds types failing l r p others
  forks_go leads failing l r p (f, h, fork, first, second) = (f, h, fork, leads true f first, leads false h second)
