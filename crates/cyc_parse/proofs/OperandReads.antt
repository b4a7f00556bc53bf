-- Expressions are parsed back from their yields.
use Rattle.std.proofs.Common.{◌≡◌, ℕ, zero, suc, ◌≤◌, true, List, [], ◌∷◌, ◌++◌, Option, Some, is_some, refl, ap, subst, ◌∙◌, arith, append-nil, zero-le}
use Rattle.cyc_syntax.specs.declared.tokens.Keyword.TheVariants as words
use Rattle.cyc_syntax.specs.declared.tokens.Sign.TheVariants as signs
use Rattle.cyc_syntax.specs.declared.tree.PrefixOperator.{PrefixOperator}
use Rattle.cyc_syntax.specs.Symbols.{Place, Terminal, Identifier, RegionName, Word, Mark, Symbol}
use Rattle.cyc_syntax.specs.Symbols as terminals
use Rattle.cyc_syntax.specs.Trees.{Expression, Prefixed, New, Initial, Postfixes, NoPostfixes}
use Rattle.cyc_syntax.specs.Yields.{Yield, prefix_sign}
use Rattle.cyc_syntax.specs.Yields as yields
use Rattle.cyc_syntax.specs.Grammar.{is_primary, IsExpression, IsInitial}
use Rattle.cyc_parse.specs.inside.Parsing.{Parser, pure, sees, is_sign, bind, choose}
use Rattle.cyc_parse.specs.inside.Expressions.{begins_expression, Nested, nested, primary, chained, with_postfixes, unary, unary_by, climb, assignment}
use Rattle.cyc_parse.proofs.Rules.{Reads, Fits, starts-next, leaf_of, leaf_at, last_reads, nothing_reads, pure_reads, reads_instead, choose_reads, advance_reads_at, unseen_reads, deep_reads, deep_then_reads}
use Rattle.cyc_parse.proofs.Stops.{Stops, stops-less, no_assign}
use Rattle.cyc_parse.proofs.Starts.{expression_starts, begins_primary, primary_starts}
use Rattle.cyc_parse.proofs.OperatorSigns.{at_prefix_sign}
use Rattle.cyc_parse.proofs.OperatorReads.{climb_all}
use Rattle.cyc_parse.proofs.ExpressionReads.{deeper, shallow, Parts, PostfixParts, group_reads, primary_reads, with_postfixes_reads}

-- Says that an expression of each precedence level is parsed back from its yield, at each nesting depth.
pub record IsReadAll (e : Expression) : Type 0 where
  pub unary : (room d : ℕ) → Fits room d → IsExpression 0 e → Reads (nested room).unary e (yields.expression d e) (Stops 0)
  pub operand : (k room d : ℕ) → Fits room d → k ≤ 10 → IsExpression k e → Reads (bind (nested room).unary (climb (nested room).unary k)) e (yields.expression d e) (Stops k)
  pub expression : (room d : ℕ) → Fits room d → IsExpression 11 e → Reads (nested room).expression e (yields.expression d e) (Stops 11)
  pub parts : (room d : ℕ) → Fits (suc room) d → IsExpression 0 e → Parts room d e

pub record IsInitialRead (i : Initial) : Type 0 where
  pub reads : (room d : ℕ) → Fits room d → IsInitial i → Reads (nested room).initial i (yields.initial d i) (Stops 0)

-- ---- without room

pub deep_unary : (d : ℕ) → Fits zero d → (e : Expression) → Reads (nested zero).unary e (yields.expression d e) (Stops 0)
unfolding nested
deep_unary d fits e = deep_reads begins_expression d (omega arith) (expression_starts d e)

pub deep_operand : (k d : ℕ) → Fits zero d → (e : Expression) → Reads (bind (nested zero).unary (climb (nested zero).unary k)) e (yields.expression d e) (Stops k)
unfolding nested
deep_operand k d fits e = deep_then_reads begins_expression d _ (omega arith) (expression_starts d e)

pub deep_expression : (d : ℕ) → Fits zero d → (e : Expression) → Reads (nested zero).expression e (yields.expression d e) (Stops 11)
unfolding nested
deep_expression d fits e = deep_reads begins_expression d (omega arith) (expression_starts d e)

-- ---- operator levels, from operands upward

-- If no assignment operator follows a chain of binary operators, then the chain is parsed back as an expression.
pub unassigned : (room d : ℕ) {e : Expression} → Reads (bind (nested (suc room)).unary (climb (nested (suc room)).unary 10)) e (yields.expression d e) (Stops 10) → Reads (nested (suc room)).expression e (yields.expression d e) (Stops 11)
unfolding nested
unassigned room d {e = e} h = nothing_reads (assignment room (nested room)) h
    (unseen_reads signs.Assign _ _ (λ ts rest front ends. ap (sees signs.Assign) front ∙ no_assign rest ends) (pure_reads e (Stops 11)))
    (λ rest ends. stops-less 10 11 rest (omega arith) ends)

-- An expression that is an operand is also parsed back as an expression of each looser precedence level.
pub from_unary : (e : Expression) → ((k : ℕ) → IsExpression k e → IsExpression 0 e) → ((room d : ℕ) → Fits (suc room) d → IsExpression 0 e → Reads (unary room (nested room)) e (yields.expression d e) (Stops 0))
    → ((room d : ℕ) → Fits (suc room) d → IsExpression 0 e → Parts room d e) → IsReadAll e
unfolding nested
from_unary e tightest h parts = record { unary = at_unary; operand = at_operand; expression = at_expression; parts = parts }
  where
    at_unary : (room d : ℕ) → Fits room d → IsExpression 0 e → Reads (nested room).unary e (yields.expression d e) (Stops 0)
    at_unary zero d fits is = deep_unary d fits e
    at_unary (suc room) d fits is = h room d fits is

    at_operand : (k room d : ℕ) → Fits room d → k ≤ 10 → IsExpression k e → Reads (bind (nested room).unary (climb (nested room).unary k)) e (yields.expression d e) (Stops k)
    at_operand k zero d fits few is = deep_operand k d fits e
    at_operand k (suc room) d fits few is = climb_all (nested (suc room)).unary k (h room d fits (tightest k is))

    at_expression : (room d : ℕ) → Fits room d → IsExpression 11 e → Reads (nested room).expression e (yields.expression d e) (Stops 11)
    at_expression zero d fits is = deep_expression d fits e
    at_expression (suc room) d fits is = unassigned room d (climb_all (nested (suc room)).unary 10 (h room d fits (tightest 11 is)))

-- ---- operands with postfixes

unary-primary : (room : ℕ) (inner : Nested) (t : Terminal) → begins_primary t ≡ true → unary_by room inner (Some t) ≡ with_postfixes room inner (primary room inner)
unary-primary room inner (Identifier x) h = refl
unary-primary room inner (RegionName x) h = absurd (cc)
unary-primary room inner (terminals.Number x) h = refl
unary-primary room inner (terminals.Character x) h = refl
unary-primary room inner (Word words.New) h = absurd (cc)
unary-primary room inner (Word words.RegionNew) h = absurd (cc)
unary-primary room inner (Word _) h = refl
unary-primary room inner (Mark signs.LeftParen) h = refl
unary-primary room inner (Mark _) h = absurd (cc)

module _ (room d : ℕ) (fits : Fits (suc room) d) where
  -- A primary expression with its postfixes, possibly none, is parsed back from its yield.
  pub chained_reads : (e : Expression) (ps : Postfixes) → is_primary e ≡ true → Parts room d e → PostfixParts room d ps
      → Reads (unary room (nested room)) (chained e ps) (yields.expression d e ++ yields.postfixes d 1 ps) (Stops 0)
  unfolding unary choose
  chained_reads e ps is parts more = reads_instead (with_postfixes room (nested room) (primary room (nested room)))
      (λ ts rest front ends. ap (λ (o : Option Terminal). unary_by room (nested room) o ts) (starts-next (primary_starts d e is) (yields.postfixes d 1 ps) ts rest front)
      ∙ ap (λ (p : Parser Expression). p ts) (unary-primary room (nested room) ((primary_starts d e is).first.terminal) ((primary_starts d e is).begin)))
      (with_postfixes_reads room d fits (primary room (nested room)) e (yields.expression d e) ps (primary_reads room d fits e is parts) more)

  pub alone_reads : (e : Expression) → is_primary e ≡ true → Parts room d e → Reads (unary room (nested room)) e (yields.expression d e) (Stops 0)
  alone_reads e is parts = subst (λ (ys : Yield). Reads (unary room (nested room)) e ys (Stops 0)) (append-nil (yields.expression d e)) (chained_reads e NoPostfixes is parts tt)

  pub prefixed_reads : (p : Place) (o : PrefixOperator) (e : Expression) → Reads (nested room).unary e (yields.expression (suc d) e) (Stops 0) → Reads (unary room (nested room)) (Prefixed p o e) (yields.expression d (Prefixed p o e)) (Stops 0)
  unfolding unary
  prefixed_reads p o e h = choose_reads (unary_by room (nested room)) (leaf_at d (Mark (prefix_sign o)) p) _
      (rw (at_prefix_sign o) (advance_reads_at d (Mark (prefix_sign o)) p _ (shallow room d fits) (last_reads (λ (v : Expression). pure (Prefixed p o v)) (λ ts. refl) h)))

  pub new_reads : (p : Place) (i : Initial) → Reads (nested room).initial i (yields.initial (suc d) i) (Stops 0) → Reads (unary room (nested room)) (New p i) (yields.expression d (New p i)) (Stops 0)
  unfolding unary
  new_reads p i h = choose_reads (unary_by room (nested room)) (leaf_at d (Word words.New) p) _ (advance_reads_at d (Word words.New) p _ (shallow room d fits) (last_reads (λ (v : Initial). pure (New p v)) (λ ts. refl) h))

-- An expression in parentheses is parsed back from its yield, even at the deepest permitted nesting.
pub nested_group_reads : (room d : ℕ) → Fits room d → (e : Expression) (Ends : List Symbol → Type 0) → IsReadAll e → IsExpression 11 e
    → Reads (nested room).group e (leaf_of d (Mark signs.LeftParen) ∷ (yields.expression (suc d) e ++ leaf_of (suc d) (Mark signs.RightParen) ∷ [])) Ends
unfolding nested
nested_group_reads zero d fits e Ends h is = deep_reads (λ t. is_some (is_sign signs.LeftParen t)) d (omega arith) (record { first = leaf_of d (Mark signs.LeftParen); others = _; are = refl; begin = refl; nesting = refl; item = zero-le })
nested_group_reads (suc room) d fits e Ends h is = group_reads room d fits e Ends (h.expression room (suc d) (deeper room d fits) is)
