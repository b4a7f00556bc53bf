-- The parsers of declarations and of programs have bounded lookahead.
use Rattle.std.proofs.Common.{◌≡◌, ℕ, zero, suc, ◌≤◌, Bool, true, false, List, [], ◌∷◌, length, Option, Some, None, refl, arith}
use Rattle.cyc_syntax.specs.declared.tokens.Keyword.TheVariants as words
use Rattle.cyc_syntax.specs.declared.tokens.Sign.TheVariants as signs
use Rattle.cyc_syntax.specs.Symbols.{Place, Terminal, Word, Mark, Symbol}
use Rattle.cyc_syntax.specs.Symbols as terminals
use Rattle.cyc_syntax.specs.Trees.{Named, WrittenType, Declaration}
use Rattle.cyc_parse.specs.inside.Parsing.{Parser, TooLong, bind, pure, inside, choose, begins_region}
use Rattle.cyc_parse.specs.inside.Types.{begins_type}
use Rattle.cyc_parse.specs.inside.Statements.{nested_statements}
use Rattle.cyc_parse.specs.inside.Declarations.{begins_void, begins_constructor, number_value, member, field, has_int, constructor, more_of, some_of, parameter_list, effect_regions, effect, constraint, constraints}
use Rattle.cyc_parse.specs.inside.Declarations.{parameters, value_by, value, global_value, function, typed, struct_fields, struct_or_typed, exceptions, declaration_by, declaration, declarations_in, program}
use Rattle.cyc_parse.proofs.Locality.{Local, then_runs, pure_runs, unexpected_runs, weaker_runs, take_runs, sign_runs, word_runs, identifier_runs, region_name_runs, advance_runs, choose_runs, sees_runs, starts_runs, starts_limit_runs, same_after_read, same_first, turns_run}
use Rattle.cyc_parse.proofs.LocalTypes.{separated_runs, regions_run, written_type_runs, with_pointers_run, optional_regions_run}
use Rattle.cyc_parse.proofs.LocalStatements.{body_runs, nested_statements_run}

module _ (room : ℕ) where
  member_runs : Local true (member room)
  member_runs = then_runs (written_type_runs room) (λ t. then_runs (identifier_runs _) (λ x. pure_runs _))

  field_runs : Local true (field room)
  field_runs = then_runs member_runs (λ m. then_runs (sign_runs _ signs.Semicolon) (λ _. pure_runs _))

  has_int_runs : Local false (has_int room)
  has_int_runs = sees_runs signs.LeftParen (then_runs (sign_runs _ signs.LeftParen) (λ _. then_runs (word_runs _ words.Int) (λ _. then_runs (sign_runs _ signs.RightParen) (λ _. pure_runs _)))) (pure_runs _)

  constructor_runs : Local true (constructor room)
  constructor_runs = then_runs (identifier_runs _) (λ c. then_runs has_int_runs (λ b. then_runs (sign_runs _ signs.Semicolon) (λ _. pure_runs _)))

  effect_regions_run : Local false (effect_regions room)
  effect_regions_run = starts_runs begins_region (regions_run room) (pure_runs _)

more_of_run : {A : Type 0} (begins : Terminal → Bool) {item : Parser A} → Local true item → (left : ℕ) → Local false (more_of begins item left)
unfolding more_of
more_of_run begins h zero = starts_limit_runs begins TooLong (pure_runs _)
more_of_run begins h (suc left) = starts_runs begins (then_runs h (λ x. then_runs (more_of_run begins h left) (λ xs. pure_runs _))) (pure_runs _)

some_of_runs : {A : Type 0} (begins : Terminal → Bool) {item : Parser A} → Local true item → Local true (some_of begins item)
some_of_runs begins h = then_runs h (λ x. then_runs (more_of_run begins h 63) (λ xs. pure_runs _))

module _ (room : ℕ) where
  parameter_list_runs : Local false (parameter_list room)
  parameter_list_runs = starts_runs begins_void (then_runs advance_runs (λ _. pure_runs _))
      (starts_runs begins_type (then_runs (separated_runs room begins_type (member_runs room)) (λ ms. pure_runs _)) (pure_runs _))

  effect_runs : Local false (effect room)
  effect_runs = sees_runs signs.Semicolon (then_runs (sign_runs _ signs.Semicolon) (λ _. then_runs (sign_runs _ signs.LeftBrace) (λ _. then_runs (effect_regions_run (inside room)) (λ rs. then_runs (sign_runs _ signs.RightBrace) (λ _. pure_runs _))))) (pure_runs _)

  constraint_runs : Local true (constraint room)
  constraint_runs = then_runs (region_name_runs _) (λ a. then_runs (sign_runs _ signs.Greater) (λ _. then_runs (region_name_runs _) (λ b. pure_runs _)))

  constraints_run : Local false (constraints room)
  constraints_run = sees_runs signs.Colon (then_runs (sign_runs _ signs.Colon) (λ _. separated_runs room begins_region constraint_runs)) (pure_runs _)

  parameters_run : Local false (parameters room)
  parameters_run = then_runs parameter_list_runs (λ ps. then_runs effect_runs (λ e. then_runs constraints_run (λ cs. pure_runs _)))

  value_by_runs : (t : Option Terminal) → Local true (value_by room t)
  value_by_runs (Some (terminals.Number n)) = then_runs advance_runs (λ p. pure_runs _)
  value_by_runs (Some (terminals.Character c)) = then_runs advance_runs (λ p. pure_runs _)
  value_by_runs (Some (Word words.Null)) = then_runs advance_runs (λ p. pure_runs _)
  value_by_runs (Some (Mark signs.Minus)) = then_runs advance_runs (λ p. then_runs (take_runs (inside room) number_value (λ n q. n)) (λ n. pure_runs _))
  value_by_runs _ = unexpected_runs

  value_runs : Local true (value room)
  value_runs = choose_runs value_by_runs

  global_value_runs : Local false (global_value room)
  global_value_runs = sees_runs signs.Assign (then_runs (sign_runs _ signs.Assign) (λ _. then_runs value_runs (λ v. pure_runs _))) (pure_runs _)

  function_runs : (t : Option WrittenType) (f : Named) → Local true (function room t f)
  function_runs t f = then_runs (sign_runs _ signs.LeftParen) (λ _. then_runs parameters_run (λ ps. then_runs (sign_runs _ signs.RightParen) (λ _. then_runs (body_runs room (nested_statements room) (nested_statements_run room)) (λ b. pure_runs _))))

  typed_runs : (t : WrittenType) → Local true (typed room t)
  typed_runs t = then_runs (identifier_runs _) (λ x. sees_runs signs.LeftParen (function_runs (Some t) x) (then_runs global_value_runs (λ v. then_runs (sign_runs _ signs.Semicolon) (λ _. pure_runs _))))

  struct_fields_run : (s : Named) (rs : List Named) → Local true (struct_fields room s rs)
  struct_fields_run s rs = then_runs (sign_runs _ signs.LeftBrace) (λ _. then_runs (some_of_runs begins_type (field_runs room)) (λ fs. then_runs (sign_runs _ signs.RightBrace) (λ _. then_runs (sign_runs _ signs.Semicolon) (λ _. pure_runs _))))

  struct_or_typed_runs : (p : Place) → Local true (struct_or_typed room p)
  struct_or_typed_runs p = then_runs (identifier_runs _) (λ s. then_runs (optional_regions_run _) (λ rs. sees_runs signs.LeftBrace (struct_fields_run s rs) (then_runs (with_pointers_run _ _ _) (λ t. typed_runs t))))

  exceptions_run : Local true (exceptions room)
  exceptions_run = then_runs (word_runs _ words.Datatype) (λ _. then_runs (word_runs _ words.Exn) (λ _. then_runs (sign_runs _ signs.LeftBrace) (λ _. then_runs (some_of_runs begins_constructor (constructor_runs room)) (λ cs. then_runs (sign_runs _ signs.RightBrace) (λ _. then_runs (sign_runs _ signs.Semicolon) (λ _. pure_runs _))))))

  declaration_by_runs : (t : Option Terminal) → Local true (declaration_by room t)
  declaration_by_runs (Some (Word words.Struct)) = then_runs advance_runs (λ p. struct_or_typed_runs p)
  declaration_by_runs (Some (Word words.Datatype)) = exceptions_run
  declaration_by_runs (Some (Word words.Void)) = then_runs advance_runs (λ _. then_runs (identifier_runs _) (λ f. function_runs None f))
  declaration_by_runs _ = then_runs (written_type_runs _) (λ t. typed_runs t)

  pub declaration_runs : Local true (declaration room)
  unfolding declaration
  declaration_runs = choose_runs declaration_by_runs

  declarations_in_run : (turns : ℕ) → Local false (declarations_in room turns)
  unfolding declarations_in
  declarations_in_run zero = pure_runs _
  declarations_in_run (suc turns) = choose_runs (λ t. one t (declarations_in_run turns))
    where
      one : (t : Option Terminal) → Local false (declarations_in room turns)
          → Local {A = List Declaration} false (elim t [
            | None ↦ pure []
            | Some t ↦ bind (declaration room) (λ d. bind (declarations_in room turns) (λ ds. pure (d ∷ ds)))
          ])
      one None h = pure_runs _
      one (Some t) h = weaker_runs (then_runs declaration_runs (λ d. then_runs h (λ ds. pure_runs _)))

  declarations_enough : (n m : ℕ) (ts : List Symbol) → length ts ≤ n → length ts ≤ m → declarations_in room n ts ≡ declarations_in room m ts
  unfolding declarations_in choose
  declarations_enough zero zero ts few few' = refl
  declarations_enough zero (suc m) [] few few' = refl
  declarations_enough zero (suc m) (t ∷ ts) few few' = absurd (omega arith)
  declarations_enough (suc n) zero [] few few' = refl
  declarations_enough (suc n) zero (t ∷ ts) few few' = absurd (omega arith)
  declarations_enough (suc n) (suc m) [] few few' = refl
  declarations_enough (suc n) (suc m) (t ∷ ts) few few' = same_after_read _ _ (t ∷ ts) declaration_runs
      (λ d rest less. same_first (declarations_in room n) (declarations_in room m) _ rest (declarations_enough n m rest (omega arith) (omega arith)))

  pub program_runs : Local true (program room)
  program_runs = then_runs declaration_runs (λ d. then_runs (turns_run (declarations_in room) declarations_in_run declarations_enough) (λ ds. pure_runs _))
