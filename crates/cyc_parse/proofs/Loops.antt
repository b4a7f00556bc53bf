-- A list that the parser's code reads in a loop equals the list that the specified parser returns.
use Rattle.std.proofs.Common.{◌≡◌, ℕ, suc, ◌+◌, ◌-◌, ◌<◌, ◌≤◌, Bool, true, false, cond, List, [], ◌∷◌, ◌++◌, map, Option, Some, None, option_map, Ok, Err, refl, sym, ap, ◌∙◌, arith}
use Rattle.cyc_syntax.specs.declared.tokens.Sign.TheVariants as signs
use Rattle.cyc_syntax.specs.Symbols.{Terminal, Symbol}
use Rattle.cyc_parse.specs.declared.stop.Stop.{Stop}
use Rattle.cyc_parse.specs.declared.stop.Stop.TheVariants as stops
use Rattle.cyc_parse.specs.inside.Code.{Stops, view_reason}
use Rattle.cyc_syntax.specs.declared.tree.PointerKind.{PointerKind}
use Rattle.cyc_syntax.specs.Trees.{Pointer}
use Rattle.cyc_parse.specs.inside.Types.{mark_at, optional_region, pointers_of}
use Rattle.cyc_syntax.specs.declared.tree.Expr.{Expr}
use Rattle.cyc_syntax.specs.declared.tree.Postfix.{Postfix}
use Rattle.cyc_syntax.specs.declared.tree.Operation.{Operation}
use Rattle.cyc_syntax.specs.declared.tree.BinaryOperator.{BinaryOperator}
use Rattle.cyc_syntax.specs.Trees.{Declaration, Expression, NoExpressions, MoreExpressions, NoPostfixes, Operations, NoOperations, ThenOperation}
use Rattle.cyc_syntax.specs.inside.TreeView.{view_expression, expressions_of, postfixes_of, operations_of, then_postfix}
use Rattle.cyc_parse.specs.inside.Expressions.{Nested, operator_at, operations, postfixes, more_values}
use Rattle.cyc_parse.specs.inside.Steps.{after_comma, one_pointer, one_postfix, one_operation, then_operation, one_declaration}
use Rattle.cyc_parse.specs.inside.Parsing.{Parser, Outcome, and_then, bind, pure, choose, next, advance, if_sees, sees, sign, identifier, if_is, on_some}
use Rattle.cyc_parse.specs.inside.Declarations.{declaration, declarations_in}

-- Parses what follows one iteration of the loop that parses a list. If the iteration parsed an element, this element is added to the result
-- of `rest`; otherwise `last` parses the following symbols.
abbrev pub following : {Y B : Type 0} → (Y → B → B) → Parser B → Parser B → Option Y → Parser B
following add last rest None ts = last ts
following add last rest (Some y) ts = and_then (rest ts) (λ b us. Ok (add y b, us))

-- Says that `many` reads a list element by element; its number argument is the number of steps left.
pub record Steps {Y B : Type 0} (add : Y → B → B) (last : Parser B) (one : Parser (Option Y)) (many : ℕ → Parser B) : Type 0 where
  pub step : (n : ℕ) (ts : List Symbol) → many (suc n) ts ≡ and_then (one ts) (following add last (many n))

module _ {X Y B : Type 0} (view : X → Y) (add : Y → B → B) where
  -- Prepends the elements that were read so far to a list.
  abbrev pub onto : List X → B → B
  onto [] b = b
  onto (x ∷ xs) b = add (view x) (onto xs b)

  -- Returns the outcome for the rest of a list, with the elements read so far prepended to the result.
  abbrev pub with_front : List X → Outcome B → Outcome B
  with_front front outcome = and_then outcome (λ b ts. Ok (onto front b, ts))

  onto-append : (front : List X) (x : X) (b : B) → onto (front ++ x ∷ []) b ≡ onto front (add (view x) b)
  onto-append [] x b = refl
  onto-append (y ∷ ys) x b = ap (add (view y)) (onto-append ys x b)

  pub regroup : (front : List X) (x : X) (outcome : Outcome B) → with_front front (and_then outcome (λ b us. Ok (add (view x) b, us))) ≡ with_front (front ++ x ∷ []) outcome
  regroup front x (Ok p) = ap (λ (b : B). Ok (b, p.1)) (sym (onto-append front x p.0))
  regroup front x (Err e) = refl

  module _ (last : Parser B) (one : Parser (Option Y)) (many : ℕ → Parser B) (steps : Steps add last one many) where
    pub goes_on : (front : List X) (count i : ℕ) (ts us : List Symbol) (read : Option X) (x : X) (whole : Outcome B) → i < count → one ts ≡ Ok (option_map view read, us) → read ≡ Some x
        → with_front front (many (count - i) ts) ≡ whole → with_front (front ++ x ∷ []) (many (count - (i + 1)) us) ≡ whole
    goes_on front count i ts us read x whole lt h is so_far =
        let k : count - i ≡ suc (count - (i + 1)) = omega arith in
        let found : one ts ≡ Ok (Some (view x), us) = h ∙ ap (λ (o : Option X). Ok (option_map view o, us)) is in
        let step : many (count - i) ts ≡ and_then (many (count - (i + 1)) us) (λ b vs. Ok (add (view x) b, vs)) = ap (λ (n : ℕ). many n ts) k ∙ steps.step _ ts ∙ ap (λ (o : Outcome (Option Y)). and_then o (following add last (many (count - (i + 1))))) found in
        sym (ap (with_front front) step ∙ regroup front x (many (count - (i + 1)) us)) ∙ so_far

    pub ends : (front : List X) (count i : ℕ) (ts us : List Symbol) (read : Option X) (whole : Outcome B) → i < count → one ts ≡ Ok (option_map view read, us) → read ≡ None → (b : B) (vs : List Symbol) → last us ≡ Ok (b, vs)
        → with_front front (many (count - i) ts) ≡ whole → whole ≡ Ok (onto front b, vs)
    ends front count i ts us read whole lt h is b vs rest so_far =
        let k : count - i ≡ suc (count - (i + 1)) = omega arith in
        let found : one ts ≡ Ok (None, us) = h ∙ ap (λ (o : Option X). Ok (option_map view o, us)) is in
        let step : many (count - i) ts ≡ Ok (b, vs) = ap (λ (n : ℕ). many n ts) k ∙ steps.step _ ts ∙ ap (λ (o : Outcome (Option Y)). and_then o (following add last (many (count - (i + 1))))) found ∙ rest in
        sym so_far ∙ ap (with_front front) step

    pub fails : (e : Stop) (front : List X) (count i : ℕ) (ts us : List Symbol) (whole : Outcome B) → i < count → Stops e (one ts) us
        → with_front front (many (count - i) ts) ≡ whole → Stops e whole us
    fails stops.Memory front count i ts us whole lt h so_far = tt
    fails (stops.Refused why) front count i ts us whole lt h so_far =
        let k : count - i ≡ suc (count - (i + 1)) = omega arith in
        let step : many (count - i) ts ≡ Err (record { reason = view_reason why; left = us }) = ap (λ (n : ℕ). many n ts) k ∙ steps.step _ ts ∙ ap (λ (o : Outcome (Option Y)). and_then o (following add last (many (count - (i + 1))))) h in
        sym so_far ∙ ap (with_front front) step

    pub fails_full : (e : Stop) (front : List X) (count i : ℕ) (ts us : List Symbol) (whole : Outcome B) → count ≤ i → Stops e (many 0 ts) us
        → with_front front (many (count - i) ts) ≡ whole → Stops e whole us
    fails_full stops.Memory front count i ts us whole le h so_far = tt
    fails_full (stops.Refused why) front count i ts us whole le h so_far =
        let k : count - i ≡ 0 = omega arith in
        sym so_far ∙ ap (with_front front) (ap (λ (n : ℕ). many n ts) k ∙ h)

    pub is_full : (front : List X) (count i : ℕ) (ts us : List Symbol) (whole : Outcome B) → count ≤ i → (b : B) → many 0 ts ≡ Ok (b, us)
        → with_front front (many (count - i) ts) ≡ whole → whole ≡ Ok (onto front b, us)
    is_full front count i ts us whole le b h so_far =
        let k : count - i ≡ 0 = omega arith in
        let step : many (count - i) ts ≡ Ok (b, us) = ap (λ (n : ℕ). many n ts) k ∙ h in
        sym so_far ∙ ap (with_front front) step

-- Says that the list that the parser's code builds in its loop equals the list that the specified parser returns.
module _ {X Y B : Type 0} (view : X → Y) (add : Y → B → B) (nothing : B) (show : List X → B) (shows : (xs : List X) → onto view add xs nothing ≡ show xs)
    (one : Parser (Option Y)) (many : ℕ → Parser B) (steps : Steps add (pure nothing) one many) where
  pub ends_as : (front : List X) (count i : ℕ) (ts us : List Symbol) (read : Option X) (whole : Outcome B) → i < count → one ts ≡ Ok (option_map view read, us) → read ≡ None
      → with_front view add front (many (count - i) ts) ≡ whole → whole ≡ Ok (show front, us)
  ends_as front count i ts us read whole lt h is so_far = ends view add (pure nothing) one many steps front count i ts us read whole lt h is nothing us refl so_far ∙ ap (λ (b : B). Ok (b, us)) (shows front)

  pub is_full_as : (front : List X) (count i : ℕ) (ts us : List Symbol) (whole : Outcome B) → count ≤ i → many 0 ts ≡ Ok (nothing, us)
      → with_front view add front (many (count - i) ts) ≡ whole → whole ≡ Ok (show front, us)
  is_full_as front count i ts us whole le h so_far = is_full view add (pure nothing) one many steps front count i ts us whole le nothing h so_far ∙ ap (λ (b : B). Ok (b, us)) (shows front)

pub onto-map : {X Y : Type 0} (view : X → Y) (xs : List X) → onto view (λ y ys. y ∷ ys) xs [] ≡ map view xs
onto-map view [] = refl
onto-map view (x ∷ xs) = ap (λ ys. view x ∷ ys) (onto-map view xs)

pub onto-expressions : (xs : List Expr) → onto view_expression MoreExpressions xs NoExpressions ≡ expressions_of xs
onto-expressions [] = refl
onto-expressions (x ∷ xs) = ap (MoreExpressions (view_expression x)) (onto-expressions xs)

pub onto-postfixes : (xs : List Postfix) → onto then_postfix (λ f ps. f ps) xs NoPostfixes ≡ postfixes_of xs
onto-postfixes [] = refl
onto-postfixes (x ∷ xs) = ap (then_postfix x) (onto-postfixes xs)

pub onto-operations : (xs : List Operation) → onto then_operation (λ f os. f os) xs NoOperations ≡ operations_of xs
onto-operations [] = refl
onto-operations (x ∷ xs) = ap (then_operation x) (onto-operations xs)

-- ---- the steps of each list

-- Reading an element and then the rest of a list gives the element prepended to the rest.
after_item : {A Y B : Type 0} (make : A → Y) (add : Y → B → B) (last rest : Parser B) (o : Outcome A)
    → and_then o (λ a. bind rest (λ b. pure (add (make a) b))) ≡ and_then (and_then o (λ a. pure (Some (make a)))) (following add last rest)
unfolding bind
after_item make add last rest (Ok p) = refl
after_item make add last rest (Err e) = refl

after_sign : {A Y B P : Type 0} (make : A → Y) (add : Y → B → B) (last rest : Parser B) (item : Parser A) (o : Outcome P)
    → and_then o (λ _. bind item (λ a. bind rest (λ b. pure (add (make a) b)))) ≡ and_then (and_then o (λ _. bind item (λ a. pure (Some (make a))))) (following add last rest)
unfolding bind
after_sign make add last rest item (Ok p) = after_item make add last rest (item p.1)
after_sign make add last rest item (Err e) = refl

by_comma : {A B : Type 0} (add : A → B → B) (nothing : B) (room : ℕ) (item : Parser A) (rest : Parser B) (ts : List Symbol) (b : Bool)
    → cond b (bind (sign room signs.Comma) (λ _. bind item (λ x. bind rest (λ xs. pure (add x xs))))) (pure nothing) ts
    ≡ and_then (cond b (bind (sign room signs.Comma) (λ _. bind item (λ x. pure (Some x)))) (pure None) ts) (following add (pure nothing) rest)
unfolding bind
by_comma add nothing room item rest ts false = refl
by_comma add nothing room item rest ts true = after_sign (λ x. x) add (pure nothing) rest item (sign room signs.Comma ts)

by_mark : (room : ℕ) (rest : Parser (List Pointer)) (kind : Option PointerKind) (ts : List Symbol)
    → on_some kind (λ k. bind advance (λ _. bind (optional_region room) (λ r. bind rest (λ ms. pure (record { kind = k; region = r } ∷ ms))))) (pure []) ts
    ≡ and_then ((elim kind as (λ _. Parser (Option Pointer)) [ None ↦ pure None | Some k ↦ bind advance (λ _. bind (optional_region room) (λ r. pure (Some (record { kind = k; region = r })))) ]) ts) (following (λ m ms. m ∷ ms) (pure []) rest)
unfolding bind
by_mark room rest None ts = refl
by_mark room rest (Some k) ts = after_sign (λ r. record { kind = k; region = r }) (λ m ms. m ∷ ms) (pure []) rest (optional_region room) (advance ts)

pub pointers_of_steps : (room : ℕ) → Steps (λ m ms. m ∷ ms) (pure []) (one_pointer room) (pointers_of room)
unfolding pointers_of choose if_is
pointers_of_steps room = record { step = λ n ts. by_mark room (pointers_of room n) (mark_at (next ts)) ts }

-- A first parsing step followed by `g` equals this step followed by `f` and then `k`, if `g` equals
-- `f` and then `k` for each result of the step.
pub lift : {A B C : Type 0} (k : C → Parser B) (o : Outcome A) (f : A → Parser C) (g : A → Parser B) → ((a : A) (us : List Symbol) → g a us ≡ and_then (f a us) k) → and_then o g ≡ and_then (and_then o f) k
lift k (Ok p) f g h = h p.0 p.1
lift k (Err e) f g h = refl

pub then_by_test : {B C : Type 0} (k : C → Parser B) (b : Bool) (p q : Parser B) (p' q' : Parser C) (ts : List Symbol) → p ts ≡ and_then (p' ts) k → q ts ≡ and_then (q' ts) k → cond b p q ts ≡ and_then (cond b p' q' ts) k
then_by_test k true p q p' q' ts a b = a
then_by_test k false p q p' q' ts a b = b

pub postfixes_steps : (room : ℕ) (inner : Nested) → Steps (λ f ps. f ps) (pure NoPostfixes) (one_postfix room inner) (postfixes room inner)
unfolding postfixes if_sees bind
postfixes_steps room inner = record {
  step = λ n ts. then_by_test _ (sees signs.LeftBracket ts) _ _ _ _ ts
      (lift _ (sign (suc room) signs.LeftBracket ts) _ _ (λ _ us. lift _ (inner.expression us) _ _ (λ e vs. lift _ (sign room signs.RightBracket vs) _ _ (λ _ ws. refl))))
      (then_by_test _ (sees signs.Arrow ts) _ _ _ _ ts (lift _ (sign (suc room) signs.Arrow ts) _ _ (λ _ us. lift _ (identifier (suc room) us) _ _ (λ x vs. refl))) refl);
}

by_operator : (operand : Parser Expression) (rest : Parser Operations) (operator : Option BinaryOperator) (ts : List Symbol)
    → on_some operator (λ o. bind advance (λ p. bind operand (λ e. bind rest (λ os. pure (ThenOperation o p e os))))) (pure NoOperations) ts
    ≡ and_then ((elim operator as (λ _. Parser (Option (Operations → Operations))) [ None ↦ pure None | Some o ↦ bind advance (λ p. bind operand (λ e. pure (Some (ThenOperation o p e)))) ]) ts) (following (λ f os. f os) (pure NoOperations) rest)
unfolding bind
by_operator operand rest None ts = refl
by_operator operand rest (Some o) ts = lift _ (advance ts) _ _ (λ p us. lift _ (operand us) _ _ (λ e vs. refl))

pub operations_steps : (operand : Parser Expression) (k : ℕ) → Steps (λ f os. f os) (pure NoOperations) (one_operation operand k) (operations operand k)
unfolding operations choose if_is
operations_steps operand k = record { step = λ n ts. by_operator operand (operations operand k n) (operator_at k (next ts)) ts }

pub more_values_steps : (room : ℕ) (inner : Nested) → Steps MoreExpressions (pure NoExpressions) (after_comma room inner.expression) (more_values room inner)
unfolding more_values if_sees
more_values_steps room inner = record { step = λ n ts. by_comma MoreExpressions NoExpressions room inner.expression (more_values room inner n) ts (sees signs.Comma ts) }

by_symbol : (room : ℕ) (rest : Parser (List Declaration)) (next : Option Terminal) (ts : List Symbol)
    → (elim next as (λ _. Parser (List Declaration)) [ None ↦ pure [] | Some t ↦ bind (declaration room) (λ d. bind rest (λ ds. pure (d ∷ ds))) ]) ts
    ≡ and_then ((elim next as (λ _. Parser (Option Declaration)) [ None ↦ pure None | Some t ↦ bind (declaration room) (λ d. pure (Some d)) ]) ts) (following (λ d ds. d ∷ ds) (pure []) rest)
unfolding bind
by_symbol room rest None ts = refl
by_symbol room rest (Some t) ts = lift _ (declaration room ts) _ _ (λ d us. refl)

pub declarations_steps : (room : ℕ) → Steps (λ d ds. d ∷ ds) (pure []) (one_declaration room) (declarations_in room)
unfolding declarations_in choose
declarations_steps room = record { step = λ n ts. by_symbol room (declarations_in room n) (next ts) ts }

-- If no symbol is left, then no further declaration is read.
pub no_declaration : (room : ℕ) (ts : List Symbol) → next ts ≡ None → one_declaration room ts ≡ Ok (None, ts)
unfolding choose
no_declaration room ts none = ap (λ (o : Option Terminal). (elim o as (λ _. Parser (Option Declaration)) [ None ↦ pure None | Some t ↦ bind (declaration room) (λ d. pure (Some d)) ]) ts) none

pub a_declaration : (room : ℕ) (t : Terminal) (ts us : List Symbol) (d : Declaration) → next ts ≡ Some t → declaration room ts ≡ Ok (d, us) → one_declaration room ts ≡ Ok (Some d, us)
unfolding choose bind
a_declaration room t ts us d some h = ap (λ (o : Option Terminal). (elim o as (λ _. Parser (Option Declaration)) [ None ↦ pure None | Some t ↦ bind (declaration room) (λ d. pure (Some d)) ]) ts) some ∙ ap (λ (o : Outcome Declaration). and_then o (λ e. pure (Some e))) h

pub no_more_of_declaration : (room : ℕ) (t : Terminal) (ts us : List Symbol) (e : Stop) → next ts ≡ Some t → Stops e (declaration room ts) us → Stops e (one_declaration room ts) us
unfolding choose bind
no_more_of_declaration room t ts us stops.Memory some h = tt
no_more_of_declaration room t ts us (stops.Refused why) some h = ap (λ (o : Option Terminal). (elim o as (λ _. Parser (Option Declaration)) [ None ↦ pure None | Some t ↦ bind (declaration room) (λ d. pure (Some d)) ]) ts) some ∙ ap (λ (o : Outcome Declaration). and_then o (λ e. pure (Some e))) h
