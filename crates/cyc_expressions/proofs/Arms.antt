-- Lemmas: the result of checking an expression follows from the results of checking its subexpressions.
use Rattle.std.proofs.Common.{◌≡◌, ◌≢◌, ℕ, Bool, List, [], ◌∷◌, Option, Ok, Err, refl, sym, ap, ◌∙◌}
use Rattle.cyc_words.specs.declared.fault.Code.TheVariants as codes
use Rattle.cyc_syntax.specs.declared.tree.Postfix.{Postfix}
use Rattle.cyc_syntax.specs.declared.tree.Postfix.TheVariants as postfix
use Rattle.cyc_syntax.specs.declared.tree.BinaryOperator.{BinaryOperator}
use Rattle.cyc_syntax.specs.declared.tree.Operation.{Operation as OperationCode}
use Rattle.cyc_syntax.specs.Symbols.{Place}
use Rattle.cyc_syntax.specs.Trees.{Expression, Binary, RegionNew, Initial, place_of}
use Rattle.cyc_syntax.specs.inside.TreeView.{view_name, view_expression, postfixes_of, operations_of}
use Rattle.cyc_types.specs.Types.{ValueType}
use Rattle.cyc_types.specs.TypedTrees as typed
use Rattle.cyc_types.specs.Rules.{Checked, Rule, Part, and_then, fault_at, gives, run}
use Rattle.cyc_types.specs.typing.Scopes.{Scope}
use Rattle.cyc_types.specs.typing.Expressions.{as_int, Reached, Placed, Made, Joined, loaded, indexed, selected, created, operand, is_looking_first, rule, rule_looked, rule_postfixed, rule_further, rule_made, rule_placement}
use Rattle.cyc_scope.specs.declared.stop.Stop.{Stop}
use Rattle.cyc_scope.specs.declared.stop.Stop.TheVariants as stops
use Rattle.cyc_scope.specs.inside.Code.{Stops}
use Rattle.cyc_expressions.specs.inside.Walks.{one_operation, one_postfix, rule_rest}
use Rattle.cyc_expressions.proofs.Chains.{further, next_further}

-- ---- postfixes, and the use of the cell that they lead to

module _ {A : Type 0} (next : Place → Reached → Rule A) where
  -- the result of checking the postfixes (such as `[i]` and `->f`) that follow a base expression
  abbrev pub following_base : Scope → Expression → List Postfix → Checked A
  following_base g e ps = run (Part (rule_postfixed g (place_of e) (rule_looked g e (rule g e)) (postfixes_of ps)) (next (place_of e)))

  walked : (g : Scope) (e : Expression) (q : Place) (ps : List Postfix) (a : typed.Expression) → ps ≢ [] → run (rule_looked g e (rule g e)) ≡ Ok a
      → run (Part (rule_postfixed g q (gives a) (postfixes_of ps)) (next q)) ≡ run (Part (rule_postfixed g q (rule_looked g e (rule g e)) (postfixes_of ps)) (next q))
  walked g e q [] a never h = absurd (never refl)
  walked g e q (postfix.Index i ∷ us) a never h =
      sym (ap (λ o. and_then (and_then o (λ b. and_then (run (rule g (view_expression i))) (λ j. run (rule_further g q (indexed g q b (place_of (view_expression i)) (as_int j)) (postfixes_of us))))) (λ w. run (next q w))) h)
  walked g e q (postfix.Field f ∷ us) a never h = sym (ap (λ o. and_then (and_then o (λ b. run (rule_further g q (selected g q b (view_name f)) (postfixes_of us)))) (λ w. run (next q w))) h)

  pub after_gives : (g k : Scope) (e d : Expression) (ps us : List Postfix) (p : Place) (a : typed.Expression) → k ≡ g → d ≡ e → us ≡ ps → p ≡ place_of e → ps ≢ []
      → run (rule_looked g d (rule g d)) ≡ Ok a → run (Part (rule_postfixed k p (gives a) (postfixes_of us)) (next p)) ≡ following_base g e ps
  after_gives g k e d ps us p a same base list place never h =
      ap (λ (s : Scope). run (Part (rule_postfixed s p (gives a) (postfixes_of us)) (next p))) same
      ∙ ap (λ vs. run (Part (rule_postfixed g p (gives a) (postfixes_of vs)) (next p))) list
      ∙ ap (λ (q : Place). run (Part (rule_postfixed g q (gives a) (postfixes_of ps)) (next q))) place
      ∙ walked g e (place_of e) ps a never (sym (ap (λ x. run (rule_looked g x (rule g x))) base) ∙ h)

  failed : (g : Scope) (e : Expression) (q : Place) (ps : List Postfix) (f : _) → ps ≢ [] → run (rule_looked g e (rule g e)) ≡ Err f → run (Part (rule_postfixed g q (rule_looked g e (rule g e)) (postfixes_of ps)) (next q)) ≡ Err f
  failed g e q [] f never h = absurd (never refl)
  failed g e q (postfix.Index i ∷ us) f never h =
      ap (λ o. and_then (and_then o (λ b. and_then (run (rule g (view_expression i))) (λ j. run (rule_further g q (indexed g q b (place_of (view_expression i)) (as_int j)) (postfixes_of us))))) (λ w. run (next q w))) h
  failed g e q (postfix.Field x ∷ us) f never h = ap (λ o. and_then (and_then o (λ b. run (rule_further g q (selected g q b (view_name x)) (postfixes_of us)))) (λ w. run (next q w))) h

  pub after_stops : (s : Stop) (g : Scope) (e d : Expression) (ps : List Postfix) → d ≡ e → ps ≢ [] → Stops s (run (rule_looked g d (rule g d))) → Stops s (following_base g e ps)
  after_stops stops.Memory g e d ps base never h = tt
  after_stops (stops.Refused f) g e d ps base never h = failed g e (place_of e) ps f never (sym (ap (λ x. run (rule_looked g x (rule g x))) base) ∙ h)

  pub after_nothing : (g : Scope) (e : Expression) (ps : List Postfix) → ps ≡ [] → following_base g e ps ≡ Err (fault_at codes.NotAPlace (place_of e))
  after_nothing g e ps none = ap (following_base g e) none

-- ---- chains

pub chain_gives : (g k : Scope) (e d : Expression) (os us : List OperationCode) (b : Bool) (p : Place) (a : typed.Expression) → k ≡ g → d ≡ e → us ≡ os → p ≡ place_of e → b ≡ is_looking_first (operations_of os)
    → run (operand b (rule g d) (rule_looked g d (rule g d))) ≡ Ok a → run (rule_rest k p a (operations_of us)) ≡ run (rule g (Binary e (operations_of os)))
chain_gives g k e d os us b p a same first list place looking h =
    ap (λ (s : Scope). run (rule_rest s p a (operations_of us))) same ∙ ap (λ vs. run (rule_rest g p a (operations_of vs))) list ∙ ap (λ (q : Place). run (rule_rest g q a (operations_of os))) place
    ∙ sym (ap (λ o. and_then o (λ x. run (rule_rest g (place_of e) x (operations_of os)))) (sym (ap (λ x. run (operand b (rule g x) (rule_looked g x (rule g x)))) first ∙ ap (λ c. run (operand c (rule g e) (rule_looked g e (rule g e)))) looking) ∙ h))

pub chain_fails : (s : Stop) (g : Scope) (e d : Expression) (os : List OperationCode) (b : Bool) → d ≡ e → b ≡ is_looking_first (operations_of os)
    → Stops s (run (operand b (rule g d) (rule_looked g d (rule g d)))) → Stops s (run (rule g (Binary e (operations_of os))))
chain_fails stops.Memory g e d os b first looking h = tt
chain_fails (stops.Refused f) g e d os b first looking h =
    ap (λ o. and_then o (λ x. run (rule_rest g (place_of e) x (operations_of os)))) (sym (ap (λ x. run (operand b (rule g x) (rule_looked g x (rule g x)))) first ∙ ap (λ c. run (operand c (rule g e) (rule_looked g e (rule g e)))) looking) ∙ h)

pub operation_at : (g h : Scope) (p q : Place) (k m : Option ℕ) (left right : ValueType) (o : BinaryOperator) (e : Expression) (r : Checked Joined) → h ≡ g → q ≡ p → m ≡ k → right ≡ left → one_operation h q m right o e ≡ r → one_operation g p k left o e ≡ r
operation_at g h p q k m left right o e r s1 s2 s3 s4 is =
    sym (ap (λ (x : Scope). one_operation x q m right o e) s1 ∙ ap (λ (x : Place). one_operation g x m right o e) s2 ∙ ap (λ x. one_operation g p x right o e) s3 ∙ ap (λ x. one_operation g p k x o e) s4) ∙ is

-- ---- new objects

pub region_new_gives : (g k : Scope) (h d : Expression) (i j : Initial) (p q : Place) (w : Placed) (m : Made) → k ≡ g → d ≡ h → j ≡ i → p ≡ place_of h
    → run (rule_placement g p d (rule g d)) ≡ Ok w → run (rule_made k j) ≡ Ok m → run (created w m) ≡ run (rule g (RegionNew q h i))
region_new_gives g k h d i j p q w m same base initial place placed made =
    sym (ap (λ o. and_then o (λ v. and_then (run (rule_made g i)) (λ n. run (created v n)))) (sym (ap (λ x. run (rule_placement g p x (rule g x))) base ∙ ap (λ (x : Place). run (rule_placement g x h (rule g h))) place) ∙ placed)
    ∙ ap (λ o. and_then o (λ n. run (created w n))) (sym (ap (λ (s : Scope). run (rule_made s j)) same ∙ ap (λ x. run (rule_made g x)) initial) ∙ made))

-- ---- loops over postfixes

pub further_starts : (g : Scope) (p : Place) (a : typed.Expression) (zs us : List Postfix) (z : Postfix) (v : Reached) → zs ≡ z ∷ us → one_postfix g p a z ≡ Ok v
    → run (rule_further g p v (postfixes_of us)) ≡ run (rule_postfixed g p (gives a) (postfixes_of zs))
further_starts g p a zs us z v is h =
    sym (ap (λ vs. run (rule_postfixed g p (gives a) (postfixes_of vs))) is ∙ further g p a z us ∙ ap (λ o. and_then o (λ w. run (rule_further g p w (postfixes_of us)))) h)

pub further_goes_on : (g : Scope) (p : Place) (w v : Reached) (a : typed.Expression) (zs us : List Postfix) (z : Postfix) (whole : Checked Reached) → zs ≡ z ∷ us → run (loaded p w) ≡ Ok a → one_postfix g p a z ≡ Ok v
    → run (rule_further g p w (postfixes_of zs)) ≡ whole → run (rule_further g p v (postfixes_of us)) ≡ whole
further_goes_on g p w v a zs us z whole is load h so_far =
    sym (ap (λ vs. run (rule_further g p w (postfixes_of vs))) is ∙ next_further g p w z us
    ∙ ap (λ o. and_then o (λ b. and_then (one_postfix g p b z) (λ x. run (rule_further g p x (postfixes_of us))))) load
    ∙ ap (λ o. and_then o (λ x. run (rule_further g p x (postfixes_of us)))) h)
    ∙ so_far

pub load_stops : (e : Stop) (g : Scope) (p : Place) (w : Reached) (zs us : List Postfix) (z : Postfix) (whole : Checked Reached) → zs ≡ z ∷ us → Stops e (run (loaded p w))
    → run (rule_further g p w (postfixes_of zs)) ≡ whole → Stops e whole
load_stops stops.Memory g p w zs us z whole is h so_far = tt
load_stops (stops.Refused f) g p w zs us z whole is h so_far =
    sym so_far ∙ ap (λ vs. run (rule_further g p w (postfixes_of vs))) is ∙ next_further g p w z us ∙ ap (λ o. and_then o (λ b. and_then (one_postfix g p b z) (λ x. run (rule_further g p x (postfixes_of us))))) h
