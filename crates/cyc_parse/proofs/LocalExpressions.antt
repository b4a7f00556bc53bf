-- The parsers of expressions have bounded lookahead.
use Rattle.std.proofs.Common.{◌≡◌, ℕ, zero, suc, ◌≤◌, Bool, true, false, cond, List, [], ◌∷◌, ◌++◌, length, ◌&&◌, ◌||◌, Option, Some, None, is_some, Ok, Err, refl, sym, ap, subst, ◌∙◌, arith, true≢false}
use Rattle.cyc_syntax.specs.declared.tokens.Keyword.TheVariants as words
use Rattle.cyc_syntax.specs.declared.tokens.Sign.TheVariants as signs
use Rattle.cyc_syntax.specs.declared.tree.PrefixOperator.{PrefixOperator}
use Rattle.cyc_syntax.specs.declared.tree.BinaryOperator.{BinaryOperator}
use Rattle.cyc_syntax.specs.declared.tree.BinaryOperator.TheVariants as operators
use Rattle.cyc_syntax.specs.Symbols.{Place, Terminal, Identifier, Word, Mark, Symbol}
use Rattle.cyc_syntax.specs.Symbols as terminals
use Rattle.cyc_syntax.specs.Trees.{Named, Expression, Initial, Plain, Variable, Operations, NoOperations, ThenOperation, LowByteOf}
use Rattle.cyc_syntax.specs.Grammar.{max_items}
use Rattle.cyc_parse.specs.inside.Parsing.{Parser, Outcome, Refusal, Unexpected, TooDeep, TooLong, and_then, bind, pure, refuse, next, is_sign, opens_regions, regions, region_list, sign, take, advance, on_some, if_sees, if_is}
use Rattle.cyc_parse.specs.inside.Expressions.{begins_expression, begins_initial, prefix_operator, operator_at, binary_of, operations, climb, Nested, group, arguments, from_name, primary_by, primary, postfixes}
use Rattle.cyc_parse.specs.inside.Expressions.{with_postfixes, prefixed_by, unary_by, unary, assignment, binary, expression, more_values, values, fields, initial_from_name, array, initial_by, initial, nested}
use Rattle.cyc_parse.specs.inside.Statements.{ends_in_new, ends_in_name, is_variable}
use Rattle.cyc_parse.specs.Refusals.{region_next}
use Rattle.cyc_parse.proofs.Locality.{IsSuffix, left_of, IsLess, Differ, Beyond, reads_on, refuses_on, opens, overflows, Agrees, both_read, both_refuse, goes_on, Runs, Local, Never, Tolerates, beyond_suffix}
use Rattle.cyc_parse.proofs.Locality.{beyond_as, open_then_runs, then_runs, tolerates_pure, tolerates_then, pure_runs, unexpected_runs, opens_as, runs_open, sign_runs, word_runs, identifier_runs}
use Rattle.cyc_parse.proofs.Locality.{advance_runs, choose_runs, sees_runs, is_runs, is_limit_runs, sees_limit_runs, item_refusal_runs, same_after, same_after_read, same_first, sees_same, turns_run}
use Rattle.cyc_parse.proofs.LocalTypes.{separated_runs, regions_run, region_list_runs}

abbrev pub Anything : {A : Type 0} → A → Type 0
Anything x = Unit {0}

abbrev pub IsOpen : Expression → Type 0
IsOpen e = ends_in_new e ≡ true

abbrev pub IsOpenInitial : Initial → Type 0
IsOpenInitial i = ends_in_name i ≡ true

-- ---- chains of binary operators

module _ {c : Bool} (operand : Parser Expression) (h : Runs c Anything operand) (k : ℕ) where
  -- After a binary operator, the parser of its right operand and of the further operators of its level has bounded lookahead.
  operand_runs : (left : ℕ) → Runs false Anything (operations operand k left) → Tolerates Anything (operations operand k left) → (o : BinaryOperator) (p : Place)
      → Runs c Anything (bind operand (λ e. bind (operations operand k left) (λ os. pure (ThenOperation o p e os))))
  operand_runs left more tolerates o p = open_then_runs h (λ e. open_then_runs more (λ os. pure_runs _) (λ os _. tolerates_pure _ tt)) (λ e _. tolerates_then _ _ tolerates (λ os. pure_runs _) (λ os _. tolerates_pure _ tt))

  none_more : (o : Option BinaryOperator) (t : Symbol) (a b : List Symbol) → IsLess t → Differ a b → Beyond Anything a b (on_some o (λ _. refuse TooLong) (pure NoOperations) (t ∷ a))
  none_more None t a b less differ = opens NoOperations t refl tt less differ
  none_more (Some o) t a b less differ = overflows t refl less differ

  one_more : (left : ℕ) → Runs false Anything (operations operand k left) → Tolerates Anything (operations operand k left) → (o : Option BinaryOperator) (t : Symbol) (a b : List Symbol) → IsLess t → Differ a b
      → Beyond Anything a b (on_some o (λ o. bind advance (λ p. bind operand (λ e. bind (operations operand k left) (λ os. pure (ThenOperation o p e os))))) (pure NoOperations) (t ∷ a))
  unfolding bind
  one_more left more tolerates None t a b less differ = opens NoOperations t refl tt less differ
  one_more left more tolerates (Some o) t a b less differ = beyond_suffix _ ((operand_runs left more tolerates o t.place).suffix a)

  -- Says that the parser of a chain of binary operators (such as `+ b + c`) with the given number of operators has bounded lookahead. The
  -- chain may also follow an operand after which `<` may open region arguments.
  record Chains (left : ℕ) : Type 0 where
    runs : Runs false Anything (operations operand k left)
    tolerates : Tolerates Anything (operations operand k left)

  chains : (left : ℕ) → Chains left
  unfolding operations if_is
  chains zero = record {
    runs = is_limit_runs (operator_at k) TooLong refl (pure_runs _);
    tolerates = λ t a b less differ. none_more (operator_at k (Some t.terminal)) t a b less differ;
  }
  chains (suc left) = record {
    runs = is_runs (operator_at k) (λ o. then_runs advance_runs (λ p. operand_runs left (chains left).runs (chains left).tolerates o p)) (pure_runs _);
    tolerates = λ t a b less differ. one_more left (chains left).runs (chains left).tolerates (operator_at k (Some t.terminal)) t a b less differ;
  }

  pub operations_run : (left : ℕ) → Runs false Anything (operations operand k left)
  operations_run left = (chains left).runs

  pub operations_tolerate : (left : ℕ) → Tolerates Anything (operations operand k left)
  operations_tolerate left = (chains left).tolerates

module _ {c : Bool} (unary : Parser Expression) (h : Runs c Anything unary) where
  pub record Climbs (k : ℕ) : Type 0 where
    pub runs : (e : Expression) → Runs false Anything (climb unary k e)
    pub tolerates : (e : Expression) → Tolerates Anything (climb unary k e)

  -- The parser of an operand of the next precedence level has bounded lookahead.
  operand_climbs : (k : ℕ) → Climbs k → Runs c Anything (bind unary (climb unary k))
  operand_climbs k below = open_then_runs h (λ e. below.runs e) (λ e _. below.tolerates e)

  one_climb : (k : ℕ) → Climbs k → Climbs (suc k)
  unfolding climb
  one_climb k below = record {
    runs = λ e. open_then_runs (below.runs e) (λ first. level_runs first) (λ first _. level_tolerates first);
    tolerates = λ e. tolerates_then _ _ (below.tolerates e) (λ first. level_runs first) (λ first _. level_tolerates first);
  }
    where
      level_runs : (first : Expression) → Runs false Anything (bind (operations (bind unary (climb unary k)) (suc k) max_items) (λ os. pure (binary_of first os)))
      level_runs first = open_then_runs (operations_run _ (operand_climbs k below) (suc k) max_items) (λ os. pure_runs _) (λ os _. tolerates_pure _ tt)

      level_tolerates : (first : Expression) → Tolerates Anything (bind (operations (bind unary (climb unary k)) (suc k) max_items) (λ os. pure (binary_of first os)))
      level_tolerates first = tolerates_then _ _ (operations_tolerate _ (operand_climbs k below) (suc k) max_items) (λ os. pure_runs _) (λ os _. tolerates_pure _ tt)

  pub climbs : (k : ℕ) → Climbs k
  unfolding climb
  climbs zero = record { runs = λ e. pure_runs e; tolerates = λ e. tolerates_pure e tt }
  climbs (suc k) = one_climb k (climbs k)

-- ---- a complete chain is never followed by `<`

abbrev pub NoLess : List Symbol → Type 0
NoLess ts = next ts ≡ Some (Mark signs.Less) → ⊥

abbrev pub Halts : {A : Type 0} → Parser A → Type 0
Halts {A} p = (ts rest : List Symbol) (x : A) → p ts ≡ Ok (x, rest) → NoLess rest

-- Says that a sequence of two parsers read its symbols in two successive portions: the first parser's symbols, then the second's.
pub record WasRead {A B : Type 0} (p : Parser A) (f : A → Parser B) (ts rest : List Symbol) (y : B) : Type 0 where
  pub value : A
  pub mid : List Symbol
  pub first : p ts ≡ Ok (value, mid)
  pub second : f value mid ≡ Ok (y, rest)

pub was_read : {A B : Type 0} (p : Parser A) (f : A → Parser B) (ts rest : List Symbol) (y : B) → bind p f ts ≡ Ok (y, rest) → WasRead p f ts rest y
unfolding bind
was_read {A} {B} p f ts rest y h = go (p ts) refl h
  where
    go : (o : Outcome A) → p ts ≡ o → and_then o f ≡ Ok (y, rest) → WasRead p f ts rest y
    go (Ok q) e h = record { value = q.0; mid = q.1; first = e; second = h }
    go (Err r) e h = absurd (cc)

-- If the last parser of a sequence never stops before `<`, then the sequence never stops before `<`.
halts_then : {A B : Type 0} (p : Parser A) (f : A → Parser B) → ((x : A) → Halts (f x)) → Halts (bind p f)
halts_then p f h ts rest y e = let w = was_read p f ts rest y e in h w.value w.mid rest y w.second

halts_made : {A B : Type 0} (p : Parser A) (make : A → B) (ts rest : List Symbol) (y : B) → ((x : A) → p ts ≡ Ok (x, rest) → NoLess rest) → bind p (λ x. pure (make x)) ts ≡ Ok (y, rest) → NoLess rest
halts_made p make ts rest y h e =
    let w = was_read p (λ x. pure (make x)) ts rest y e in
    let same : w.mid ≡ rest = ap left_of w.second in
    h w.value (subst (λ (s : List Symbol). p ts ≡ Ok (w.value, s)) same w.first)

-- The condition `Ready` on the symbols left after an operand implies that they do not begin with `<`, except where `<` is an
-- operator of the current precedence level.
module _ (operand : Parser Expression) (k : ℕ) (Ready : List Symbol → Type 0) (stops : (ts : List Symbol) → Ready ts → operator_at k (next ts) ≡ None → NoLess ts)
    (ready : (ts rest : List Symbol) (e : Expression) → operand ts ≡ Ok (e, rest) → Ready rest) where
  stopped : (ts rest : List Symbol) (os : Operations) → Ready ts → operator_at k (next ts) ≡ None → pure NoOperations ts ≡ Ok (os, rest) → NoLess rest
  stopped ts rest os is none e = subst NoLess (ap left_of e) (stops ts is none)

  operations_halt : (left : ℕ) (ts rest : List Symbol) (os : Operations) → Ready ts → operations operand k left ts ≡ Ok (os, rest) → NoLess rest
  unfolding operations if_is
  operations_halt zero ts rest os is h = at_end (operator_at k (next ts)) refl h
    where
      at_end : (o : Option BinaryOperator) → operator_at k (next ts) ≡ o → on_some o (λ _. refuse TooLong) (pure NoOperations) ts ≡ Ok (os, rest) → NoLess rest
      at_end None e h = stopped ts rest os is e h
      at_end (Some o) e h = absurd (cc)
  operations_halt (suc left) ts rest os is h = at_end (operator_at k (next ts)) refl h (operations_halt left)
    where
      at_end : (o : Option BinaryOperator) → operator_at k (next ts) ≡ o
          → on_some o (λ o. bind advance (λ p. bind operand (λ e. bind (operations operand k left) (λ os. pure (ThenOperation o p e os))))) (pure NoOperations) ts ≡ Ok (os, rest)
          → ((ts rest : List Symbol) (os : Operations) → Ready ts → operations operand k left ts ≡ Ok (os, rest) → NoLess rest) → NoLess rest
      at_end None e h more = stopped ts rest os is e h
      at_end (Some o) e h more =
          let w = was_read advance _ ts rest os h in
          let v = was_read operand _ w.mid rest os w.second in
          halts_made (operations operand k left) (ThenOperation o w.value v.value) v.mid rest os (λ os' e'. more v.mid rest os' (ready w.mid v.mid v.value v.first) e') v.second

less_operator : (ts : List Symbol) → operator_at 4 (next ts) ≡ None → NoLess ts
less_operator ts none less = absurd (is_none (ap (operator_at 4) (sym less) ∙ none))
  where
    is_none : Some operators.Less ≡ None → ⊥
    is_none e = cc

module _ (unary : Parser Expression) where
  -- A parser that extends an operand by the operators of the level of `<`, and possibly of looser levels, never stops before a `<`.
  climb_halts : (j : ℕ) (e : Expression) → Halts (climb unary (suc (suc (suc (suc j)))) e)
  unfolding climb
  climb_halts zero e ts rest y h =
      let w = was_read (climb unary 3 e) _ ts rest y h in
      halts_made (operations (bind unary (climb unary 3)) 4 max_items) (binary_of w.value) w.mid rest y
      (λ os e'. operations_halt (bind unary (climb unary 3)) 4 (λ _. Unit {0}) (λ ts _ none. less_operator ts none) (λ ts rest e _. tt) max_items w.mid rest os tt e') w.second
  climb_halts (suc j) e ts rest y h =
      let w = was_read (climb unary (suc (suc (suc (suc j)))) e) _ ts rest y h in
      halts_made (operations (bind unary (climb unary (suc (suc (suc (suc j)))))) (suc (suc (suc (suc (suc j))))) max_items) (binary_of w.value) w.mid rest y
      (λ os e'. operations_halt (bind unary (climb unary (suc (suc (suc (suc j)))))) (suc (suc (suc (suc (suc j))))) NoLess (λ ts no _. no)
      (halts_then unary (climb unary (suc (suc (suc (suc j))))) (λ x. climb_halts j x)) max_items w.mid rest os (climb_halts j e ts w.mid w.value w.first) e') w.second

-- If a parser with bounded lookahead never stops before `<`, then the exception for `<` is not needed: it looks at no symbol after the one
-- at which it stops.
local_if_halts : {A : Type 0} {c : Bool} {Open : A → Type 0} {p : Parser A} → Runs c Open p → Halts p → Local c p
local_if_halts {A} {Open = Open} {p = p} h halts = record { suffix = h.suffix; shorter = h.shorter; ends = h.ends; agrees = λ front a b. agree (front ++ a) a b (h.agrees front a b) }
  where
    agree : {u : Outcome A} (ts a b : List Symbol) → Agrees Open a b (p ts) u → Agrees Never a b (p ts) u
    agree ts a b (both_read x t f e e') = both_read x t f e e'
    agree ts a b (both_refuse why t f e e') = both_refuse why t f e e'
    agree ts a b (goes_on (reads_on x rest e s)) = goes_on (reads_on x rest e s)
    agree ts a b (goes_on (refuses_on r e s)) = goes_on (refuses_on r e s)
    agree ts a b (goes_on (opens x t e ready less differ)) = absurd (halts ts (t ∷ a) x e (ap Some less))
    agree ts a b (goes_on (overflows t e less differ)) = goes_on (overflows t e less differ)

pub climb_all_runs : {c : Bool} (operand : Parser Expression) → Runs c Anything operand → (e : Expression) → Local false (climb operand 10 e)
climb_all_runs operand h e = local_if_halts ((climbs operand h 10).runs e) (climb_halts operand 6 e)

-- ---- the parsers at one depth

pub record NestedRuns (inner : Nested) : Type 0 where
  pub unary : Runs true IsOpen inner.unary
  pub binary : Local true inner.binary
  pub expression : Local true inner.expression
  pub group : Local true inner.group
  pub initial : Runs true IsOpenInitial inner.initial

module _ (room : ℕ) (inner : Nested) (h : NestedRuns inner) where
  pub group_runs : Local true (group room inner)
  group_runs = then_runs (sign_runs _ signs.LeftParen) (λ _. then_runs h.expression (λ e. then_runs (sign_runs _ signs.RightParen) (λ _. pure_runs _)))

  arguments_run : Local false (arguments room inner)
  arguments_run = sees_runs signs.RightParen (pure_runs _) (then_runs (separated_runs room begins_expression h.expression) (λ es. pure_runs _))

  from_name_run : (x : Named) → Local false (from_name room inner x)
  from_name_run x = sees_runs signs.LeftParen (then_runs (sign_runs _ signs.LeftParen) (λ _. then_runs arguments_run (λ es. then_runs (sign_runs _ signs.RightParen) (λ _. pure_runs _)))) (pure_runs _)

  primary_by_runs : (t : Option Terminal) → Local true (primary_by room inner t)
  primary_by_runs (Some (terminals.Number n)) = then_runs advance_runs (λ p. pure_runs _)
  primary_by_runs (Some (terminals.Character c)) = then_runs advance_runs (λ p. pure_runs _)
  primary_by_runs (Some (Identifier x)) = then_runs advance_runs (λ p. from_name_run _)
  primary_by_runs (Some (Word words.Null)) = then_runs advance_runs (λ p. pure_runs _)
  primary_by_runs (Some (Word words.HeapRegion)) = then_runs advance_runs (λ p. pure_runs _)
  primary_by_runs (Some (Word words.UniqueRegion)) = then_runs advance_runs (λ p. pure_runs _)
  primary_by_runs (Some (Word words.NumberOfElements)) = then_runs advance_runs (λ p. then_runs group_runs (λ e. pure_runs _))
  primary_by_runs (Some (Word words.Char)) = then_runs advance_runs (λ p. then_runs group_runs (λ e. pure_runs _))
  primary_by_runs (Some (Word words.FreeUnique)) = then_runs advance_runs (λ p. then_runs group_runs (λ e. pure_runs _))
  primary_by_runs (Some (Word words.FreeKey)) = then_runs advance_runs (λ p. then_runs (sign_runs _ signs.LeftParen) (λ _. then_runs (identifier_runs room) (λ k. then_runs (sign_runs _ signs.RightParen) (λ _. pure_runs _))))
  primary_by_runs (Some (Mark signs.LeftParen)) = then_runs advance_runs (λ p. then_runs h.expression (λ e. then_runs (sign_runs _ signs.RightParen) (λ _. pure_runs _)))
  primary_by_runs _ = unexpected_runs

  primary_runs : Local true (primary room inner)
  unfolding primary
  primary_runs = choose_runs primary_by_runs

  postfixes_run : (left : ℕ) → Local false (postfixes room inner left)
  unfolding postfixes
  postfixes_run zero = sees_limit_runs signs.LeftBracket TooLong (sees_limit_runs signs.Arrow TooLong (pure_runs _))
  postfixes_run (suc left) =
      sees_runs signs.LeftBracket (then_runs (sign_runs _ signs.LeftBracket) (λ _. then_runs h.expression (λ e. then_runs (sign_runs _ signs.RightBracket) (λ _. then_runs (postfixes_run left) (λ ps. pure_runs _)))))
      (sees_runs signs.Arrow (then_runs (sign_runs _ signs.Arrow) (λ _. then_runs (identifier_runs _) (λ x. then_runs (postfixes_run left) (λ ps. pure_runs _)))) (pure_runs _))

  with_postfixes_run : {c : Bool} {first : Parser Expression} → Local c first → Local c (with_postfixes room inner first)
  with_postfixes_run k = then_runs k (λ e. then_runs (postfixes_run max_items) (λ ps. pure_runs _))

  prefixed_by_runs : (o : Option PrefixOperator) → Runs true IsOpen (prefixed_by room inner o)
  prefixed_by_runs (Some o) = then_runs advance_runs (λ p. open_then_runs h.unary (λ e. pure_runs _) (λ e ready. tolerates_pure _ ready))
  prefixed_by_runs None = runs_open (with_postfixes_run primary_runs)

  unary_by_runs : (t : Option Terminal) → Runs true IsOpen (unary_by room inner t)
  unary_by_runs (Some (Mark s)) = prefixed_by_runs (prefix_operator s)
  unary_by_runs (Some (Word words.New)) = then_runs advance_runs (λ p. open_then_runs h.initial (λ i. pure_runs _) (λ i ready. tolerates_pure _ ready))
  unary_by_runs (Some (Word words.RegionNew)) = then_runs advance_runs (λ p. then_runs h.group (λ g. open_then_runs h.initial (λ i. pure_runs _) (λ i ready. tolerates_pure _ ready)))
  unary_by_runs _ = runs_open (with_postfixes_run primary_runs)

  pub unary_runs : Runs true IsOpen (unary room inner)
  unfolding unary
  unary_runs = choose_runs unary_by_runs

  pub assignment_runs : (e : Expression) → Local false (assignment room inner e)
  assignment_runs e = sees_runs signs.Assign (then_runs (sign_runs _ signs.Assign) (λ _. then_runs h.expression (λ v. pure_runs _))) (pure_runs _)

  pub binary_runs : Local true (binary room inner)
  binary_runs = local_if_halts (open_then_runs unary_runs (λ e. (climbs (unary room inner) any 10).runs e) (λ e _. (climbs (unary room inner) any 10).tolerates e)) (halts_then (unary room inner) (climb (unary room inner) 10) (λ e. climb_halts (unary room inner) 6 e))
    where
      any : Runs true Anything (unary room inner)
      any = opens_as (λ e _. tt) unary_runs

  pub expression_runs : Local true (expression room inner)
  expression_runs = then_runs binary_runs (λ e. assignment_runs e)

  -- ---- the initial contents of a new object

  more_values_run : (turns : ℕ) → Local false (more_values room inner turns)
  unfolding more_values
  more_values_run zero = pure_runs _
  more_values_run (suc turns) = sees_runs signs.Comma (then_runs (sign_runs _ signs.Comma) (λ _. then_runs h.expression (λ e. then_runs (more_values_run turns) (λ es. pure_runs _)))) (pure_runs _)

  values_enough : (n m : ℕ) (ts : List Symbol) → length ts ≤ n → length ts ≤ m → more_values room inner n ts ≡ more_values room inner m ts
  unfolding more_values if_sees
  values_enough zero zero ts few few' = refl
  values_enough zero (suc m) [] few few' = refl
  values_enough zero (suc m) (t ∷ ts) few few' = absurd (omega arith)
  values_enough (suc n) zero [] few few' = refl
  values_enough (suc n) zero (t ∷ ts) few few' = absurd (omega arith)
  values_enough (suc n) (suc m) ts few few' = sees_same signs.Comma _ _ _ ts (same_after_read _ _ ts (sign_runs {Open = Never} room signs.Comma)
      (λ _ rest less. same_after _ _ rest h.expression (λ e left le. same_first (more_values room inner n) (more_values room inner m) _ left (values_enough n m left (omega arith) (omega arith)))))

  values_run : Local true (values room inner)
  values_run = then_runs h.expression (λ e. then_runs (turns_run (more_values room inner) more_values_run values_enough) (λ es. pure_runs _))

  fields_run : (s : Named) (rs : List Named) → Local true (fields room inner s rs)
  fields_run s rs = then_runs (sign_runs _ signs.LeftBrace) (λ _. then_runs values_run (λ es. then_runs (sign_runs _ signs.RightBrace) (λ _. pure_runs _)))

  -- ---- a name that opens a struct, or begins an expression

  abbrev with_regions : Named → Parser Initial
  with_regions s = bind (region_list (suc room)) (λ rs. fields room inner s rs)

  abbrev from_name_alone : Named → Parser Initial
  from_name_alone s = bind (with_postfixes room inner (from_name room inner s)) (λ e. pure (Plain e))

  regions_taken : (s : Named) (t : Symbol) (a : List Symbol) → IsLess t
      → with_regions s (t ∷ a) ≡ bind (bind (regions (suc room)) (λ rs. bind (sign (suc room) signs.Greater) (λ _. pure rs))) (λ rs. fields room inner s rs) a
  unfolding bind take
  regions_taken s t a less = rw less refl

  name_taken : (s : Named) (t : Symbol) (a : List Symbol) → IsLess t → from_name_alone s (t ∷ a) ≡ Ok (Plain (Variable s), t ∷ a)
  unfolding bind postfixes if_sees
  name_taken s t a less = rw less refl

  with_regions_run : (s : Named) → Runs true IsOpenInitial (with_regions s)
  with_regions_run s = then_runs (region_list_runs (suc room)) (λ rs. runs_open (fields_run s rs))

  from_name_alone_runs : (s : Named) → Runs false IsOpenInitial (from_name_alone s)
  from_name_alone_runs s = then_runs (with_postfixes_run (from_name_run s)) (λ e. pure_runs _)

  -- After `new` and a name, the parser decides by the symbol after `<`. Two inputs that agree up to this `<` may
  -- differ in the symbol after it.
  by_region : (s : Named) (t : Symbol) (a b : List Symbol) (x y : Bool) → IsLess t → region_next a ≡ x → region_next b ≡ y
      → Agrees IsOpenInitial a b (cond x (with_regions s) (from_name_alone s) (t ∷ a)) (cond y (with_regions s) (from_name_alone s) (t ∷ b))
  by_region s t a b true true less e e' = (with_regions_run s).agrees (t ∷ []) a b
  by_region s t a b false false less e e' = (from_name_alone_runs s).agrees (t ∷ []) a b
  by_region s t a b true false less e e' = goes_on (beyond_as (regions_taken s t a less) (beyond_suffix _ (following.suffix a)))
    where
      following : Local true (bind (bind (regions (suc room)) (λ rs. bind (sign (suc room) signs.Greater) (λ _. pure rs))) (λ rs. fields room inner s rs))
      following = then_runs (then_runs (regions_run (suc room)) (λ rs. then_runs (sign_runs _ signs.Greater) (λ _. pure_runs _))) (λ rs. fields_run s rs)
  by_region s t a b false true less e e' = goes_on (opens (Plain (Variable s)) t (name_taken s t a less) refl less (λ same. absurd (true≢false (sym e' ∙ sym same ∙ e))))

  is_less : (u : Terminal) → is_some (is_sign signs.Less u) ≡ true → u ≡ Mark signs.Less
  is_less (Mark signs.Less) h = refl
  is_less (Mark _) h = absurd (cc)
  is_less _ h = absurd (cc)

  by_less : (s : Named) (t : Symbol) (a b : List Symbol) (x : Bool) → is_some (is_sign signs.Less t.terminal) ≡ x
      → Agrees IsOpenInitial a b (cond (x && region_next a) (with_regions s) (from_name_alone s) (t ∷ a)) (cond (x && region_next b) (with_regions s) (from_name_alone s) (t ∷ b))
  by_less s t a b false e = (from_name_alone_runs s).agrees (t ∷ []) a b
  by_less s t a b true e = by_region s t a b (region_next a) (region_next b) (is_less t.terminal e) refl refl

  abbrev by_regions : Named → Parser Initial
  by_regions s = λ ts. cond (opens_regions ts) (with_regions s) (from_name_alone s) ts

  by_regions_run : (s : Named) → Runs false IsOpenInitial (by_regions s)
  by_regions_run s = record {
    suffix = λ ts. suffix (opens_regions ts) ts;
    shorter = λ is. absurd (cc);
    ends = λ ts. ends (opens_regions ts) ts;
    agrees = agree;
  }
    where
      suffix : (b : Bool) (ts : List Symbol) → IsSuffix (left_of (cond b (with_regions s) (from_name_alone s) ts)) ts
      suffix true ts = (with_regions_run s).suffix ts
      suffix false ts = (from_name_alone_runs s).suffix ts

      ends : (b : Bool) (ts : List Symbol) (e : Refusal) → cond b (with_regions s) (from_name_alone s) ts ≡ Err e → e.left ≡ [] → e.reason ≡ Unexpected
      ends true = (with_regions_run s).ends
      ends false = (from_name_alone_runs s).ends

      within : (x : Bool) (t u : Symbol) (front a b : List Symbol) → Agrees IsOpenInitial a b (cond x (with_regions s) (from_name_alone s) (t ∷ (u ∷ (front ++ a)))) (cond x (with_regions s) (from_name_alone s) (t ∷ (u ∷ (front ++ b))))
      within true t u front a b = (with_regions_run s).agrees (t ∷ (u ∷ front)) a b
      within false t u front a b = (from_name_alone_runs s).agrees (t ∷ (u ∷ front)) a b

      agree : (front a b : List Symbol) → Agrees IsOpenInitial a b (by_regions s (front ++ a)) (by_regions s (front ++ b))
      agree [] a b = goes_on (beyond_suffix (by_regions s a) (suffix (opens_regions a) a))
      agree (t ∷ []) a b = by_less s t a b (is_some (is_sign signs.Less t.terminal)) refl
      agree (t ∷ (u ∷ front)) a b = within (opens_regions (t ∷ (u ∷ []))) t u front a b

  initial_from_name_run : (s : Named) → Runs false IsOpenInitial (initial_from_name room inner s)
  initial_from_name_run s = sees_runs signs.LeftBrace (runs_open (fields_run s [])) (by_regions_run s)

  array_runs : Local true (array room inner)
  array_runs = then_runs (sign_runs _ signs.LeftBrace) (λ _. then_runs (word_runs _ words.For) (λ p. then_runs (identifier_runs room) (λ x. then_runs (sign_runs _ signs.Less) (λ _. then_runs h.binary (λ n. then_runs (sign_runs _ signs.Colon) (λ _. then_runs h.expression (λ e. then_runs (sign_runs _ signs.RightBrace) (λ _. pure_runs _))))))))

  initial_by_runs : (t : Option Terminal) → Runs true IsOpenInitial (initial_by room inner t)
  initial_by_runs (Some (Identifier x)) = then_runs advance_runs (λ p. initial_from_name_run _)
  initial_by_runs (Some (Mark signs.LeftBrace)) = runs_open array_runs
  initial_by_runs _ = open_then_runs unary_runs (λ e. pure_runs _) (λ e ready. tolerates_pure _ (plain e ready))
    where
      plain : (e : Expression) → IsOpen e → IsOpenInitial (Plain e)
      plain e ready = rw ready (or_true (is_variable e))
        where
          or_true : (b : Bool) → (b || true) ≡ true
          or_true true = refl
          or_true false = refl

  pub initial_runs : Runs true IsOpenInitial (initial room inner)
  unfolding initial
  initial_runs = choose_runs initial_by_runs

  -- The parser of an expression that begins with a given name has bounded lookahead.
  pub named_run : (x : Named) → Local false (bind (with_postfixes room inner (from_name room inner x)) (climb (unary room inner) 10))
  named_run x = then_runs (with_postfixes_run (from_name_run x)) (λ e. climb_all_runs (unary room inner) (opens_as (λ e _. tt) unary_runs) e)

  -- After its keyword, the parser of a conversion to a low byte has bounded lookahead.
  pub low_byte_run : (p : Place) → Local true (bind (with_postfixes room inner (bind (group room inner) (λ e. pure (LowByteOf p e)))) (climb (unary room inner) 10))
  low_byte_run p = then_runs (with_postfixes_run (then_runs group_runs (λ e. pure_runs _))) (λ e. climb_all_runs (unary room inner) (opens_as (λ e _. tt) unary_runs) e)

pub nested_runs : (room : ℕ) → NestedRuns (nested room)
unfolding nested
nested_runs zero = record {
  unary = item_refusal_runs begins_expression TooDeep;
  binary = item_refusal_runs begins_expression TooDeep;
  expression = item_refusal_runs begins_expression TooDeep;
  group = item_refusal_runs (λ t. is_some (is_sign signs.LeftParen t)) TooDeep;
  initial = item_refusal_runs begins_initial TooDeep;
}
nested_runs (suc room) = record {
  unary = unary_runs room (nested room) (nested_runs room);
  binary = binary_runs room (nested room) (nested_runs room);
  expression = expression_runs room (nested room) (nested_runs room);
  group = group_runs room (nested room) (nested_runs room);
  initial = initial_runs room (nested room) (nested_runs room);
}
