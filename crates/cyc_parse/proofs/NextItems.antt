-- Facts about the steps in which a list is read; in each step the next symbol decides if another element is read.
use Rattle.std.proofs.Common.{◌≡◌, ℕ, true, false, List, Option, Some, None, Ok, refl, ap, ◌∙◌}
use Rattle.cyc_syntax.specs.declared.tokens.Sign.TheVariants as signs
use Rattle.cyc_syntax.specs.declared.tree.BinaryOperator.{BinaryOperator}
use Rattle.cyc_syntax.specs.Symbols.{Symbol, Place}
use Rattle.cyc_syntax.specs.Trees.{Expression, Operations, ThenOperation}
use Rattle.cyc_parse.specs.declared.stop.Stop.{Stop}
use Rattle.cyc_parse.specs.declared.stop.Stop.TheVariants as stops
use Rattle.cyc_parse.specs.inside.Code.{Stops}
use Rattle.cyc_parse.specs.inside.Parsing.{Parser, Outcome, and_then, bind, pure, choose, next, advance, sees, if_sees, sign}
use Rattle.cyc_parse.specs.inside.Expressions.{operator_at}
use Rattle.cyc_parse.specs.inside.Steps.{after_comma, one_operation}

-- ---- the item after a comma

module _ {A : Type 0} (room : ℕ) (item : Parser A) (ts : List Symbol) where
  pub no_item_after : sees signs.Comma ts ≡ false → after_comma room item ts ≡ Ok (None, ts)
  unfolding if_sees
  no_item_after h = rw h refl

  pub comma_stops : (e : Stop) (us : List Symbol) → sees signs.Comma ts ≡ true → Stops e (sign room signs.Comma ts) us → Stops e (after_comma room item ts) us
  unfolding if_sees bind
  comma_stops stops.Memory us h stopped = tt
  comma_stops (stops.Refused why) us h stopped = rw h (rw stopped refl)

  module _ (p : Place) (us vs : List Symbol) (comes : sees signs.Comma ts ≡ true) (taken : sign room signs.Comma ts ≡ Ok (p, us)) where
    pub item_after : (x : A) → item us ≡ Ok (x, vs) → after_comma room item ts ≡ Ok (Some x, vs)
    unfolding if_sees bind
    item_after x is = rw comes (rw taken (rw is refl))

    pub item_stops : (e : Stop) → Stops e (item us) vs → Stops e (after_comma room item ts) vs
    unfolding if_sees bind
    item_stops stops.Memory stopped = tt
    item_stops (stops.Refused why) stopped = rw comes (rw taken (rw stopped refl))

-- ---- the operand after an operator

module _ (operand : Parser Expression) (k : ℕ) (ts : List Symbol) where
  pub no_operation : operator_at k (next ts) ≡ None → one_operation operand k ts ≡ Ok (None, ts)
  unfolding choose
  no_operation h = ap (λ (r : Option BinaryOperator). (elim r as (λ _. Parser (Option (Operations → Operations))) [ None ↦ pure None | Some o ↦ bind advance (λ p. bind operand (λ e. pure (Some (ThenOperation o p e)))) ]) ts) h

  module _ (o : BinaryOperator) (p : Place) (us vs : List Symbol) (comes : operator_at k (next ts) ≡ Some o) (taken : advance ts ≡ Ok (p, us)) where
    pub an_operation : (e : Expression) → operand us ≡ Ok (e, vs) → one_operation operand k ts ≡ Ok (Some (ThenOperation o p e), vs)
    unfolding choose bind
    an_operation e is =
        ap (λ (r : Option BinaryOperator). (elim r as (λ _. Parser (Option (Operations → Operations))) [ None ↦ pure None | Some o ↦ bind advance (λ p. bind operand (λ e. pure (Some (ThenOperation o p e)))) ]) ts) comes
        ∙ ap (λ (r : Outcome Place). and_then r (λ p. bind operand (λ e. pure (Some (ThenOperation o p e))))) taken
        ∙ ap (λ (r : Outcome Expression). and_then r (λ e. pure (Some (ThenOperation o p e)))) is

    pub operand_stops : (e : Stop) → Stops e (operand us) vs → Stops e (one_operation operand k ts) vs
    unfolding choose bind
    operand_stops stops.Memory stopped = tt
    operand_stops (stops.Refused why) stopped =
        ap (λ (r : Option BinaryOperator). (elim r as (λ _. Parser (Option (Operations → Operations))) [ None ↦ pure None | Some o ↦ bind advance (λ p. bind operand (λ e. pure (Some (ThenOperation o p e)))) ]) ts) comes
        ∙ ap (λ (r : Outcome Place). and_then r (λ p. bind operand (λ e. pure (Some (ThenOperation o p e))))) taken
        ∙ ap (λ (r : Outcome Expression). and_then r (λ e. pure (Some (ThenOperation o p e)))) stopped
