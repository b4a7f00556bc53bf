-- The contracts between the functions that check expressions; each contract states a part of a typing rule.
use Rattle.std.specs.Prelude.{ℕ, Option, Some, None, Ok}
use Rattle.cyc_words.specs.declared.fault.Code.TheVariants as codes
use Rattle.cyc_syntax.specs.declared.tree.BinaryOperator.{BinaryOperator}
use Rattle.cyc_syntax.specs.declared.tree.Postfix.{Postfix}
use Rattle.cyc_syntax.specs.declared.tree.Postfix.TheVariants as postfix
use Rattle.cyc_syntax.specs.Symbols.{Place}
use Rattle.cyc_syntax.specs.Trees.{Named, Expression, Variable, Bracketed, Operations, place_of}
use Rattle.cyc_syntax.specs.inside.TreeView.{view_name, view_expression}
use Rattle.cyc_types.specs.declared.ty.Ty.{Ty as TyCode}
use Rattle.cyc_types.specs.Types.{Ty, ValueType, Value}
use Rattle.cyc_types.specs.TypeView.{view_ty}
use Rattle.cyc_types.specs.TypedTrees.{type_of}
use Rattle.cyc_types.specs.TypedTrees as typed
use Rattle.cyc_types.specs.TypedTreeView as view
use Rattle.cyc_types.specs.Rules.{Checked, and_then, fault_at, Rule, Refused, Part, gives, run}
use Rattle.cyc_types.specs.typing.Scopes.{Scope}
use Rattle.cyc_types.specs.typing.Expressions.{as_int, rule_looked, is_looking, operand, peeked_local, Joined, joined, Found, Reached, Placed, by_handle, indexed, selected, rule, rule_chain}
use Rattle.cyc_expressions.specs.declared.walk.Chain.{Chain}

-- the variable name that an expression consists of, ignoring parentheses; `None` for any other expression
abbrev pub name_in : Expression → Option Named
name_in (Variable x) = Some x
name_in (Bracketed p e) = name_in e
name_in e = None

-- the rule for an expression that is used as an lvalue but is not one; the expression begins at position p
abbrev pub rule_no_place : Scope → Place → Expression → Rule Found
rule_no_place g p e = Part (rule g e) (λ a. Refused (fault_at codes.NotAPlace p))

-- the rule for the region handle of a new object; the handle is at position p
abbrev pub rule_by_handle : Scope → Place → Expression → Rule Placed
rule_by_handle g p e = Part (rule g e) (λ a. gives (by_handle g p a))

-- the result of checking one postfix (such as `[i]` or `->f`) after an operand that begins at position p
abbrev pub one_postfix : Scope → Place → typed.Expression → Postfix → Checked Reached
one_postfix g p a (postfix.Index i) = and_then (run (rule g (view_expression i))) (λ b. Ok (indexed g p a (place_of (view_expression i)) (as_int b)))
one_postfix g p a (postfix.Field f) = Ok (selected g p a (view_name f))

-- the result of one operation of a chain that begins at position p; its left operand has the given type, and may be read without being
-- moved
abbrev pub one_operation : Scope → Place → Option ℕ → ValueType → BinaryOperator → Expression → Checked Joined
one_operation g p k left o e = run (Part (operand (is_looking o) (rule g e) (rule_looked g e (rule g e))) (λ a. joined g p k left o (place_of e) (as_int a)))

-- the type of an operation's left operand in a chain (as in `a + b - c`): that of the first operand, or of the previous operations
abbrev pub left_of : ValueType → Option TyCode → ValueType
left_of first None = first
left_of first (Some t) = Value (view_ty t)

abbrev pub peeked_after : Option ℕ → Option TyCode → Option ℕ
peeked_after k None = k
peeked_after k (Some t) = None

abbrev pub view_chain : Chain → typed.Operations × Ty
view_chain c = (view.operations_of c.operations.items, view_ty c.of_type)

-- the rule for the operations of a chain (such as `a + b - c`) after its first operand; the chain begins at position p
abbrev pub rule_rest : Scope → Place → typed.Expression → Operations → Rule typed.Expression
rule_rest g p a os = Part (rule_chain g p (peeked_local (as_int a)) (type_of (as_int a)) os) (λ bs. gives (typed.Binary (as_int a) bs.0 bs.1))
