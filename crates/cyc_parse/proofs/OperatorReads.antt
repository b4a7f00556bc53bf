-- Chains of binary operators are parsed back from their yields, level by level.
use Rattle.std.proofs.Common.{◌≡◌, ℕ, zero, suc, ◌+◌, ◌≤◌, ◌<◌, Bool, true, false, cond, ◌&&◌, is_some, List, ◌∷◌, ◌++◌, Some, Ok, Err, refl, sym, ap, subst, ◌∙◌, arith}
use Rattle.std.proofs.lemmas.Bool.{eq-eqb}
use Rattle.cyc_words.proofs.Booleans.{and_false}
use Rattle.cyc_syntax.specs.declared.tokens.Sign.TheVariants as signs
use Rattle.cyc_syntax.specs.declared.tree.BinaryOperator.{BinaryOperator}
use Rattle.cyc_syntax.specs.Symbols.{Place, Terminal, Mark, RegionName, Symbol}
use Rattle.cyc_syntax.specs.Trees.{Expression, Binary, Operations, NoOperations, ThenOperation}
use Rattle.cyc_syntax.specs.Yields.{Yield, operator_sign}
use Rattle.cyc_syntax.specs.Yields as yields
use Rattle.cyc_syntax.specs.Grammar.{max_nesting, max_items, level, IsSomeOperation}
use Rattle.cyc_parse.specs.inside.Parsing.{Parser, Outcome, and_then, pure, next, starts, begins_region, opens_regions, is_sign, bind}
use Rattle.cyc_parse.specs.inside.Expressions.{begins_expression, of_level, operator_at, operations, climb, binary_of}
use Rattle.cyc_parse.proofs.Rules.{Front, Reads, starts-next, then_reads, last_reads, nothing_reads, pure_reads, reads_instead, is_reads, isnt_reads, advance_reads_item, long_leaf_reads}
use Rattle.cyc_parse.proofs.Stops.{Stops, stops-less, binds_terminal, no_operator}
use Rattle.cyc_parse.proofs.Starts.{expression_starts}
use Rattle.cyc_parse.proofs.OperatorSigns.{at_operator_sign, operator_binds}

at_its_level : (o : BinaryOperator) (k : ℕ) → level o ≡ k → operator_at k (Some (Mark (operator_sign o))) ≡ Some o
at_its_level o k same = ap (of_level k) (at_operator_sign o) ∙ rw (eq-eqb (level o) k same) refl

-- ---- an operator ends its left operand, which is of a tighter level

begins_no_region : (t : Terminal) → begins_expression t ≡ true → begins_region t ≡ false
begins_no_region (RegionName r) h = absurd (cc)
begins_no_region _ h = refl

pub stops_operator : (k d i : ℕ) (o : BinaryOperator) (p : Place) (e : Expression) (ys : Yield) (mid rest : List Symbol) → level o ≡ suc k
    → Front (record { terminal = Mark (operator_sign o); place = Some p; nesting = d; item = i } ∷ (yields.expression d e ++ ys)) mid rest → Stops k mid
stops_operator k d i o p e ys mid rest same (t, more, is, is_leaf, front) =
    subst (λ (ts : List Symbol). Stops k ts) (sym is) (record {
      loose =
          subst (λ (n : ℕ). k < n) (sym (ap (λ (b : Bool). cond b 0 (binds_terminal t.terminal)) closed ∙ ap binds_terminal (is_leaf.terminal) ∙ operator_binds o ∙ same)) (omega arith);
    })
  where
    closed : opens_regions (t ∷ more) ≡ false
    closed = ap (λ (b : Bool). is_some (is_sign signs.Less t.terminal) && b) (ap (starts begins_region) (starts-next (expression_starts d e) ys more rest front) ∙ begins_no_region ((expression_starts d e).first.terminal) ((expression_starts d e).begin)) ∙ and_false _

-- ---- the operators of one level

-- Says that the operands of a chain of binary operators are parsed back from their yields.
abbrev pub OperationParts : Parser Expression → ℕ → ℕ → Operations → Type 0
OperationParts operand k d NoOperations = Unit {0}
OperationParts operand k d (ThenOperation o p e os) = (level o ≡ suc k) × Reads operand e (yields.expression d e) (Stops k) × OperationParts operand k d os

module _ (operand : Parser Expression) (k d : ℕ) (shallow : d ≤ max_nesting) where
  between : (i : ℕ) (os : Operations) (mid rest : List Symbol) → OperationParts operand k d os → Front (yields.operations d i os) mid rest → Stops (suc k) rest → Stops k mid
  between i NoOperations mid rest parts front ends = subst (λ (ts : List Symbol). Stops k ts) (sym front) (stops-less k (suc k) rest (omega arith) ends)
  between i (ThenOperation o p e os) mid rest (same, one, parts) front ends = stops_operator k d i o p e (yields.operations d (suc i) os) mid rest same front

  pub operations_reads : (left i : ℕ) (os : Operations) → left + i ≡ suc max_items → OperationParts operand k d os → Reads (operations operand (suc k) left) os (yields.operations d i os) (Stops (suc k))
  unfolding operations
  operations_reads zero i NoOperations count parts = isnt_reads (operator_at (suc k)) _ _ (λ ts rest front ends. ap (λ (s : List Symbol). operator_at (suc k) (next s)) front ∙ no_operator (suc k) (suc k) rest (omega arith) ends) (pure_reads NoOperations (Stops (suc k)))
  operations_reads zero i (ThenOperation o p e os) count (same, one, parts) = is_reads (operator_at (suc k)) _ _ o (record { terminal = Mark (operator_sign o); place = Some p; nesting = d; item = i }) _ (at_its_level o (suc k) same) (long_leaf_reads _ _ shallow (omega arith))
  operations_reads (suc left) i NoOperations count parts = isnt_reads (operator_at (suc k)) _ _ (λ ts rest front ends. ap (λ (s : List Symbol). operator_at (suc k) (next s)) front ∙ no_operator (suc k) (suc k) rest (omega arith) ends) (pure_reads NoOperations (Stops (suc k)))
  operations_reads (suc left) i (ThenOperation o p e os) count (same, one, parts) = is_reads (operator_at (suc k)) _ _ o (record { terminal = Mark (operator_sign o); place = Some p; nesting = d; item = i }) _ (at_its_level o (suc k) same)
      (advance_reads_item d i (Mark (operator_sign o)) p _ shallow (omega arith)
      (then_reads _ one (last_reads (λ (v : Operations). pure (ThenOperation o p e v)) (λ ts. refl) (operations_reads left (suc i) os (omega arith) parts)) (λ mid rest front ends. between (suc i) os mid rest parts front ends)))

-- ---- induction on the levels

module _ (unary : Parser Expression) where
  -- Extends a first operand by the operators of one precedence level, with their right operands.
  abbrev pub at_level : ℕ → Expression → Parser Expression
  at_level k first = bind (operations (bind unary (climb unary k)) (suc k) max_items) (λ os. pure (binary_of first os))

  pub climb-suc : (k : ℕ) (ts : List Symbol) → bind unary (climb unary (suc k)) ts ≡ bind (bind unary (climb unary k)) (at_level k) ts
  unfolding climb bind
  climb-suc k ts = grouped (unary ts)
    where
      grouped : (o : Outcome Expression) → and_then o (λ e. (λ us. and_then (climb unary k e us) (at_level k))) ≡ and_then (and_then o (climb unary k)) (at_level k)
      grouped (Ok p) = refl
      grouped (Err e) = refl

  pub climb_zero : {e : Expression} {xs : Yield} → Reads unary e xs (Stops 0) → Reads (bind unary (climb unary zero)) e xs (Stops 0)
  unfolding climb
  climb_zero {e = e} h = last_reads (climb unary zero) (λ ts. refl) h

  -- If no operator of a precedence level follows an operand of that level, then the operand is also an operand of the next looser level.
  pub climb_more : {e : Expression} {xs : Yield} (k : ℕ) → Reads (bind unary (climb unary k)) e xs (Stops k) → Reads (bind unary (climb unary (suc k))) e xs (Stops (suc k))
  climb_more {e = e} k h = reads_instead (bind (bind unary (climb unary k)) (at_level k)) (λ ts rest front ends. climb-suc k ts)
      (nothing_reads (at_level k) h (last_reads (λ (v : Operations). pure (binary_of e v)) (λ ts. refl) (operations_reads (bind unary (climb unary k)) k 0 (omega arith) 64 1 NoOperations refl tt))
      (λ rest ends. stops-less k (suc k) rest (omega arith) ends))

  pub climb_all : {e : Expression} {xs : Yield} (k : ℕ) → Reads unary e xs (Stops 0) → Reads (bind unary (climb unary k)) e xs (Stops k)
  climb_all zero h = climb_zero h
  climb_all (suc k) h = climb_more k (climb_all k h)

  some-binary : (e : Expression) (os : Operations) → IsSomeOperation os → binary_of e os ≡ Binary e os
  some-binary e NoOperations some = absurd some
  some-binary e (ThenOperation o p r os) some = refl

  -- A chain of binary operators of a given level is parsed back from its yield.
  pub chain_reads : (k d : ℕ) → d ≤ max_nesting → (e : Expression) (os : Operations) → IsSomeOperation os → Reads (bind unary (climb unary k)) e (yields.expression d e) (Stops k)
      → OperationParts (bind unary (climb unary k)) k d os → Reads (bind unary (climb unary (suc k))) (Binary e os) (yields.expression d e ++ yields.operations d 1 os) (Stops (suc k))
  chain_reads k d shallow e os some first parts = reads_instead (bind (bind unary (climb unary k)) (at_level k)) (λ ts rest front ends. climb-suc k ts)
      (then_reads (at_level k) first (last_reads (λ (v : Operations). pure (binary_of e v)) (λ ts. ap (λ (b : Expression). Ok (b, ts)) (some-binary e os some)) (operations_reads (bind unary (climb unary k)) k d shallow 64 1 os refl parts))
      (λ mid rest front ends. between (bind unary (climb unary k)) k d shallow 1 os mid rest parts front ends))
