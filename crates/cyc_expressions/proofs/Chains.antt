-- Lemmas about the code that checks the values of a list, the operations of a chain (as in `a + b - c`), and postfixes.
use Rattle.std.proofs.Common.{◌≡◌, ℕ, List, [], ◌∷◌, ◌++◌, Option, Some, None, Ok, Err, refl, sym, ap, ◌∙◌}
use Rattle.std.proofs.lemmas.List.{append_assoc}
use Rattle.std.proofs.lemmas.Option.{same_Some}
use Rattle.cyc_syntax.specs.declared.tree.Expr.{Expr}
use Rattle.cyc_syntax.specs.declared.tree.Operation.{Operation as OperationCode}
use Rattle.cyc_syntax.specs.declared.tree.Postfix.{Postfix}
use Rattle.cyc_syntax.specs.declared.tree.Postfix.TheVariants as postfix
use Rattle.cyc_syntax.specs.Symbols.{Place}
use Rattle.cyc_syntax.specs.Trees.{Named, Expression, Variable, Bracketed}
use Rattle.cyc_syntax.specs.inside.TreeView.{view_expression, expressions_of, operations_of, postfixes_of}
use Rattle.cyc_types.specs.declared.typed.Operation.{Operation}
use Rattle.cyc_types.specs.declared.typed.Operation.TheVariants as operation
use Rattle.cyc_types.specs.Types.{Ty, ValueType, Value}
use Rattle.cyc_types.specs.TypedTrees as typed
use Rattle.cyc_types.specs.TypedTreeView as view
use Rattle.cyc_words.specs.declared.fault.Fault.{Fault}
use Rattle.cyc_types.specs.Rules.{Checked, and_then, Rule, gives, unless, run}
use Rattle.cyc_types.specs.typing.Scopes.{Scope, meaning_of}
use Rattle.cyc_types.specs.typing.Expressions.{looked, Reached, loaded, rule, rule_looked, rule_all, rule_chain, rule_postfixed, rule_further}
use Rattle.cyc_types.proofs.RuleLaws.{from_ok}
use Rattle.cyc_operands.specs.inside.Operands.{GivesOne}
use Rattle.cyc_typing.specs.inside.Forms.{put_operation}
use Rattle.cyc_expressions.specs.inside.Walks.{name_in, one_operation, one_postfix}
use Rattle.cyc_expressions.proofs.Loops.{onto, onto-append}

and_then_twice : {A B C : Type 0} (o : Checked A) (f : A → B) (next : B → Checked C) → and_then o (λ a. next (f a)) ≡ and_then (and_then o (λ a. Ok (f a))) next
and_then_twice (Ok a) f next = refl
and_then_twice (Err e) f next = refl

under : {A B : Type 0} (o : Checked A) (f h : A → Checked B) → ((a : A) → f a ≡ h a) → and_then o f ≡ and_then o h
under (Ok a) f h same = same a
under (Err e) f h same = refl

-- ---- operands that are peeked at

pub looked_named : (g : Scope) (e : Expression) (walked : Rule typed.Expression) (x : Named) → name_in e ≡ Some x → run (rule_looked g e walked) ≡ run (looked (meaning_of g x) x.place)
looked_named g (Variable y) walked x h = ap (λ (z : Named). run (looked (meaning_of g z) z.place)) (same_Some y x h)
looked_named g (Bracketed q e) walked x h = looked_named g e walked x h
looked_named g e walked x h = absurd (cc)

pub looked_unnamed : (g : Scope) (e : Expression) (walked : Rule typed.Expression) → name_in e ≡ None → rule_looked g e walked ≡ walked
looked_unnamed g (Variable y) walked h = absurd (cc)
looked_unnamed g (Bracketed q e) walked h = looked_unnamed g e walked h
looked_unnamed g e walked h = refl

-- ---- values

-- the result of adding the values checked so far in front of the remaining values
abbrev pub after_values : List typed.Expression → Checked (List typed.Expression) → Checked (List typed.Expression)
after_values xs checked = and_then checked (λ as'. Ok (xs ++ as'))

regrouped_values : (xs : List typed.Expression) (a : typed.Expression) (checked : Checked (List typed.Expression)) → after_values xs (and_then checked (λ as'. Ok (a ∷ as'))) ≡ after_values (xs ++ a ∷ []) checked
regrouped_values xs a (Ok as') = ap Ok (sym (append_assoc xs (a ∷ []) as'))
regrouped_values xs a (Err f) = refl

pub values_go_on : (g : Scope) (xs ys : List typed.Expression) (zs us : List Expr) (z : Expr) (a : typed.Expression) (whole : Checked (List typed.Expression)) → zs ≡ z ∷ us
    → run (rule g (view_expression z)) ≡ Ok a → ys ≡ xs ++ a ∷ [] → after_values xs (run (rule_all g (expressions_of zs))) ≡ whole → after_values ys (run (rule_all g (expressions_of us))) ≡ whole
values_go_on g xs ys zs us z a whole is h more so_far =
    let step : run (rule_all g (expressions_of zs)) ≡ and_then (run (rule_all g (expressions_of us))) (λ as'. Ok (a ∷ as')) =
    ap (λ vs. run (rule_all g (expressions_of vs))) is ∙ ap (λ o. and_then o (λ b. and_then (run (rule_all g (expressions_of us))) (λ as'. Ok (b ∷ as')))) h in
    ap (λ vs. after_values vs (run (rule_all g (expressions_of us)))) more ∙ sym (regrouped_values xs a (run (rule_all g (expressions_of us)))) ∙ sym (ap (after_values xs) step) ∙ so_far

-- ---- chains

abbrev pub then_all : List Operation → typed.Operations → typed.Operations
then_all xs os = onto put_operation (λ f rest. f rest) xs os

-- the result when the already checked operations of a chain (as in `a + b - c`) are added in front of the remaining ones
abbrev pub after_operations : List Operation → Checked (typed.Operations × Ty) → Checked (typed.Operations × Ty)
after_operations xs checked = and_then checked (λ bs. Ok (then_all xs bs.0, bs.1))

chained_after : (xs : List Operation) (o : Operation) (checked : Checked (typed.Operations × Ty)) → after_operations xs (and_then checked (λ bs. Ok (put_operation o bs.0, bs.1))) ≡ after_operations (xs ++ o ∷ []) checked
chained_after xs o (Ok bs) = ap (λ os. Ok (os, bs.1)) (sym (onto-append put_operation (λ f rest. f rest) xs o bs.0))
chained_after xs o (Err f) = refl

pub chain_goes_on : (g : Scope) (p : Place) (k : Option ℕ) (left : ValueType) (xs ys : List Operation) (zs us : List OperationCode) (z : OperationCode) (o : Operation) (t : Ty) (whole : Checked (typed.Operations × Ty)) → zs ≡ z ∷ us
    → one_operation g p k left z.operator (view_expression z.operand) ≡ Ok (put_operation o, t) → ys ≡ xs ++ o ∷ []
    → after_operations xs (run (rule_chain g p k left (operations_of zs))) ≡ whole → after_operations ys (run (rule_chain g p None (Value t) (operations_of us))) ≡ whole
chain_goes_on g p k left xs ys zs us z o t whole is h more so_far =
    let step : run (rule_chain g p k left (operations_of zs)) ≡ and_then (run (rule_chain g p None (Value t) (operations_of us))) (λ bs. Ok (put_operation o bs.0, bs.1)) =
    ap (λ vs. run (rule_chain g p k left (operations_of vs))) is
    ∙ ap (λ c. and_then c (λ put. and_then (run (rule_chain g p None (Value put.1) (operations_of us))) (λ bs. Ok (put.0 bs.0, bs.1)))) h in
    ap (λ vs. after_operations vs (run (rule_chain g p None (Value t) (operations_of us)))) more ∙ sym (chained_after xs o (run (rule_chain g p None (Value t) (operations_of us)))) ∙ sym (ap (after_operations xs) step) ∙ so_far

pub then_all_view : (xs : List Operation) → then_all xs typed.NoOperations ≡ view.operations_of xs
then_all_view [] = refl
then_all_view (operation.Compute s o e ∷ os) = ap (typed.ThenCompute o (view.view_expression e)) (then_all_view os)
then_all_view (operation.Test o e ∷ os) = ap (typed.ThenTest o (view.view_expression e)) (then_all_view os)
then_all_view (operation.Pointer o e ∷ os) = ap (typed.ThenPointer o (view.view_expression e)) (then_all_view os)
then_all_view (operation.PointerPeek n o e ∷ os) = ap (typed.ThenPointerPeek n o (view.view_expression e)) (then_all_view os)

-- at the end of a chain such as `a + b - c`, the result is that of the typing rule for a chain with no operations left
pub chain_ends : (g : Scope) (p : Place) (k : Option ℕ) (left : ValueType) (xs : List Operation) (zs : List OperationCode) (whole : Checked (typed.Operations × Ty)) → zs ≡ []
    → after_operations xs (run (rule_chain g p k left (operations_of zs))) ≡ whole → whole ≡ after_operations xs (run (rule_chain g p k left (operations_of [])))
chain_ends g p k left xs zs whole is so_far = sym so_far ∙ ap (λ vs. after_operations xs (run (rule_chain g p k left (operations_of vs)))) is

-- at the end of a chain such as `a + b - c`, the chain's type is the type found by checking its operations so far
pub chain_whole : (xs : List Operation) (known : Option Fault) (t u : Ty) → unless known t ≡ Ok u → after_operations xs (unless known (typed.NoOperations, t)) ≡ Ok (view.operations_of xs, u)
chain_whole xs None t u h = ap (λ os. Ok (os, t)) (then_all_view xs) ∙ ap (λ v. Ok (view.operations_of xs, v)) (from_ok t u h)
chain_whole xs (Some f) t u h = absurd (cc)

-- ---- the results that represent those of the rule

pub one_of : {X Y : Type 0} (meets : X → Y → Type 0) (x : X) (checked : Checked Y) → GivesOne meets (Ok x) checked → (y : Y) × (checked ≡ Ok y) × meets x y
one_of meets x (Ok y) h = (y, refl, h)
one_of meets x (Err f) h = absurd h

-- ---- postfixes

-- checking several postfixes (such as `[i]` and `->f`) equals checking the first postfix and then the remaining ones
pub further : (g : Scope) (p : Place) (a : typed.Expression) (z : Postfix) (us : List Postfix) → run (rule_postfixed g p (gives a) (postfixes_of (z ∷ us))) ≡ and_then (one_postfix g p a z) (λ w. run (rule_further g p w (postfixes_of us)))
further g p a (postfix.Index i) us = and_then_twice (run (rule g (view_expression i))) _ _
further g p a (postfix.Field f) us = refl

pub next_further : (g : Scope) (p : Place) (w : Reached) (z : Postfix) (us : List Postfix)
    → run (rule_further g p w (postfixes_of (z ∷ us))) ≡ and_then (run (loaded p w)) (λ a. and_then (one_postfix g p a z) (λ v. run (rule_further g p v (postfixes_of us))))
next_further g p w (postfix.Index i) us = under (run (loaded p w)) _ _ (λ a. and_then_twice (run (rule g (view_expression i))) _ _)
next_further g p w (postfix.Field f) us = refl
