-- The parser's code reads the lists of block items and of catch clauses in a loop; the lists equal the
-- results of the specified parsers of these lists.
use Rattle.std.proofs.Common.{◌≡◌, ℕ, suc, ◌+◌, ◌-◌, ◌<◌, true, false, List, [], ◌∷◌, Option, Some, None, option_map, Ok, Err, refl, sym, ap, ◌∙◌, arith}
use Rattle.cyc_syntax.specs.declared.tokens.Keyword.TheVariants as words
use Rattle.cyc_syntax.specs.declared.tokens.Sign.TheVariants as signs
use Rattle.cyc_syntax.specs.declared.tree.Item.{Item as ItemCode}
use Rattle.cyc_syntax.specs.declared.tree.Clause.{Clause}
use Rattle.cyc_syntax.specs.Symbols.{Symbol}
use Rattle.cyc_syntax.specs.Trees.{Item, NoItems, MoreItems, Clauses}
use Rattle.cyc_syntax.specs.inside.TreeView.{view_item, items_of, clauses_of}
use Rattle.cyc_parse.specs.declared.stop.Stop.{Stop}
use Rattle.cyc_parse.specs.declared.stop.Stop.TheVariants as stops
use Rattle.cyc_parse.specs.inside.Code.{Stops, view_reason}
use Rattle.cyc_parse.specs.inside.Parsing.{Parser, Outcome, and_then, bind, pure, next, starts, if_starts, sign, word, identifier}
use Rattle.cyc_parse.specs.inside.Statements.{Nested, begins_item, is_case, caught, clauses_in, item, items_in}
use Rattle.cyc_parse.specs.inside.StatementSteps.{one_item, clause_head, with_items, one_clause, then_clause, default_clause}
use Rattle.cyc_parse.proofs.Loops.{Steps, following, onto, with_front, lift, then_by_test}

pub onto-items : (xs : List ItemCode) → onto view_item MoreItems xs NoItems ≡ items_of xs
onto-items [] = refl
onto-items (x ∷ xs) = ap (MoreItems (view_item x)) (onto-items xs)

pub onto-clauses : (xs : List Clause) (default : Clauses) → onto then_clause (λ f cs. f cs) xs default ≡ clauses_of xs default
onto-clauses [] default = refl
onto-clauses (x ∷ xs) default = ap (then_clause x) (onto-clauses xs default)

pub items_in_steps : (room : ℕ) (inner : Nested) → Steps MoreItems (pure NoItems) (one_item room inner) (items_in room inner)
unfolding items_in if_starts bind
items_in_steps room inner = record {
  step = λ n ts. then_by_test _ (starts begins_item (next ts)) _ _ _ _ ts (lift _ (item room inner ts) _ _ (λ i us. refl)) refl;
}

module _ (room : ℕ) (inner : Nested) (ts : List Symbol) where
  -- If no declaration or statement begins at the next symbol, then the list of a block's declarations and statements ends.
  pub no_item : starts begins_item (next ts) ≡ false → one_item room inner ts ≡ Ok (None, ts)
  unfolding if_starts
  no_item ends = rw ends refl

  -- If a declaration or statement begins at the next symbol, then the step of the loop over a block's declarations and statements reads it.
  pub an_item : starts begins_item (next ts) ≡ true → (i : Item) (us : List Symbol) → item room inner ts ≡ Ok (i, us) → one_item room inner ts ≡ Ok (Some i, us)
  unfolding if_starts bind
  an_item begins i us is = rw begins (rw is refl)

  pub no_more_of_item : (e : Stop) → starts begins_item (next ts) ≡ true → (us : List Symbol) → Stops e (item room inner ts) us → Stops e (one_item room inner ts) us
  unfolding if_starts bind
  no_more_of_item stops.Memory begins us stopped = tt
  no_more_of_item (stops.Refused why) begins us stopped = rw begins (rw stopped refl)

-- composing two parsers is associative
then_regrouped : {A B C : Type 0} (o : Outcome A) (f : A → Parser B) (k : B → Parser C) → and_then o (λ a us. and_then (f a us) k) ≡ and_then (and_then o f) k
then_regrouped (Ok p) f k = refl
then_regrouped (Err e) f k = refl

pub clauses_in_steps : (room : ℕ) (inner : Nested) → Steps (λ f cs. f cs) (default_clause room inner) (one_clause room inner) (clauses_in room inner)
unfolding clauses_in if_starts bind
clauses_in_steps room inner = record {
  step = λ n ts. then_by_test (λ head us. and_then (with_items room inner head us) (following (λ f cs. f cs) (default_clause room inner) (clauses_in room inner n))) (starts is_case (next ts)) _ _ _ _ ts
      (lift _ (word room words.Case ts) _ _ (λ _ us. lift _ (sign room signs.And us) _ _ (λ _ vs. lift _ (identifier room vs) _ _ (λ x ws.
      lift _ (caught room inner ws) _ _ (λ v xs. lift _ (sign room signs.Colon xs) _ _ (λ _ ys. lift _ (inner.items ys) _ _ (λ is zs. refl)))))))
      refl
      ∙ then_regrouped (clause_head room inner ts) (with_items room inner) (following (λ f cs. f cs) (default_clause room inner) (clauses_in room inner n));
}

module _ {X Y B : Type 0} (view : X → Y) (add : Y → B → B) (last : Parser B) (one : Parser (Option Y)) (many : ℕ → Parser B) (steps : Steps add last one many) where
  -- If the parser that follows the last step of a loop rejects its input, then so does the parser of the whole list.
  pub ends_badly : (e : Stop) (front : List X) (count i : ℕ) (ts us vs : List Symbol) (read : Option X) (whole : Outcome B) → i < count → one ts ≡ Ok (option_map view read, us) → read ≡ None → Stops e (last us) vs
      → with_front view add front (many (count - i) ts) ≡ whole → Stops e whole vs
  ends_badly stops.Memory front count i ts us vs read whole lt h is rest so_far = tt
  ends_badly (stops.Refused why) front count i ts us vs read whole lt h is rest so_far =
      let k : count - i ≡ suc (count - (i + 1)) = omega arith in
      let found : one ts ≡ Ok (None, us) = h ∙ ap (λ (o : Option X). Ok (option_map view o, us)) is in
      let step : many (count - i) ts ≡ Err (record { reason = view_reason why; left = vs }) = ap (λ (n : ℕ). many n ts) k ∙ steps.step _ ts ∙ ap (λ (o : Outcome (Option Y)). and_then o (following add last (many (count - (i + 1))))) found ∙ rest in
      sym so_far ∙ ap (with_front view add front) step
