-- The parsers of declarations return a tree that the symbols spell and that is well-formed by the grammar.
use Rattle.std.proofs.Common.{◌≡◌, ℕ, zero, suc, ◌+◌, ◌≤◌, Bool, true, List, [], ◌∷◌, ◌++◌, ◌⊎◌, inl, inr, Option, Some, None, Ok, Err, refl, sym, ap, ◌∙◌, arith, append-nil, append_assoc}
use Rattle.std.specs.List.{AllByRecursion}
use Rattle.cyc_syntax.specs.declared.tokens.Keyword.TheVariants as words
use Rattle.cyc_syntax.specs.declared.tokens.Sign.TheVariants as signs
use Rattle.cyc_syntax.specs.Symbols.{Place, Terminal, Identifier, Word, Mark, Symbol}
use Rattle.cyc_syntax.specs.Symbols as terminals
use Rattle.cyc_syntax.specs.Trees.{Named, WrittenType, Struct, Positive, Negative, Constraint, Listed, Function}
use Rattle.cyc_syntax.specs.Yields.{Yield}
use Rattle.cyc_syntax.specs.Yields as yields
use Rattle.cyc_syntax.specs.Grammar.{IsNonempty, IsDeclaration, IsWithin, max_nesting, max_items}
use Rattle.cyc_parse.specs.inside.Parsing.{Parser, Refusal, TooLong, next, bind, pure, advance, inside, starts, sign, word, take, begins_region}
use Rattle.cyc_parse.specs.inside.Types.{begins_type}
use Rattle.cyc_parse.specs.inside.Statements.{nested_statements}
use Rattle.cyc_parse.specs.inside.Declarations.{begins_void, begins_constructor, number_value, member, field, has_int, constructor, more_of, some_of, parameter_list, effect_regions, effect, constraint}
use Rattle.cyc_parse.specs.inside.Declarations.{constraints, parameters, value_by, value, global_value, function, typed, struct_fields, struct_or_typed, exceptions, declaration_by, declaration}
use Rattle.cyc_parse.proofs.Rules.{Front, Fits, leaf_of, leaf_at}
use Rattle.cyc_parse.proofs.Gives.{Derived, Gives, Follows, Spells, Any, part_then, spelled_then, last_then, pure_gives, Begins, Completed, IsLimit, Opened, possibly, unexpected_gives, begun_gives, leaf_begins, gives_as, item_gives, numbered, opened_then}
use Rattle.cyc_parse.proofs.GivesSymbols.{take_then, sign_then, word_then, identifier_then, region_then, advance_then, advance_bare_then, choose_gives, sees_gives, starts_gives, stuck_sign, some_place}
use Rattle.cyc_parse.proofs.Openings.{member_opened, field_opened, constructor_opened, constraint_opened}
use Rattle.cyc_parse.proofs.GivesTypes.{separated_gives, regions_give, optional_regions_give, with_pointers_give, written_type_gives}
use Rattle.cyc_parse.proofs.GivesStatements.{body_gives, nested_statements_give}

-- ---- lists without commas

module _ {A : Type 0} (begins : Terminal → Bool) (item : Parser A) (yield : A → Yield) (h : (ts : List Symbol) → Gives item (Spells yield Any) ts)
    (opened : (u : Terminal) (p : Place) → begins u ≡ true → Opened (Spells yield Any) u p) where
  more_of_give : (left i : ℕ) → left + i ≡ suc max_items → (ts : List Symbol) → Gives (more_of begins item left) (Spells (yields.each yield i) Any) ts
  unfolding more_of
  more_of_give zero i count ts = starts_gives begins (λ comes. begun_gives begins TooLong comes (λ u p b. opened_then (numbered i (opened u p b)) (λ x _. possibly (x ∷ []) [] (refl, tt)))) (λ _. pure_gives (refl, tt))
  more_of_give (suc left) i count ts = starts_gives begins (λ _. spelled_then (item_gives i (omega arith) (h ts)) (λ x mid _. last_then (λ xs. x ∷ xs) (more_of_give left (suc i) (omega arith) mid) (λ xs rest _. (refl, tt)))) (λ _. pure_gives (refl, tt))

  some_of_gives : (ts : List Symbol) → Gives (some_of begins item) (Spells (yields.each yield 1) (λ xs _. IsNonempty xs)) ts
  some_of_gives ts = spelled_then (item_gives 1 (omega arith) (h ts)) (λ x mid _. last_then (λ xs. x ∷ xs) (more_of_give 63 2 refl mid) (λ xs rest _. (refl, tt)))

-- ---- parts with their own brackets, with possibly one level of room left

int_rest : (room d : ℕ) → Fits room d → (ts : List Symbol) → Gives (bind (sign room signs.LeftParen) (λ _. bind (word (inside room) words.Int) (λ _. bind (sign (inside room) signs.RightParen) (λ _. pure true)))) (Spells (yields.has_int d) Any) ts
int_rest zero d fits ts = stuck_sign d signs.LeftParen _ (possibly true _ (refl, tt))
int_rest (suc room) d fits ts = sign_then (suc room) d signs.LeftParen fits (λ _ mid. word_then room (suc d) words.Int (omega arith) (λ _ mid. sign_then room (suc d) signs.RightParen (omega arith) (λ _ mid. pure_gives (refl, tt))))

has_int_gives : (room d : ℕ) → Fits room d → (ts : List Symbol) → Gives (has_int room) (Spells (yields.has_int d) Any) ts
has_int_gives room d fits ts = sees_gives signs.LeftParen (int_rest room d fits ts) (pure_gives (refl, tt))

effect_regions_give : (room d : ℕ) → Fits room d → (ts : List Symbol) → Gives (effect_regions room) (Spells (yields.regions d) Any) ts
effect_regions_give room d fits ts = starts_gives begins_region (λ _. gives_as (λ rs ls rest (e, _). (e, tt)) (regions_give room d fits ts)) (λ _. pure_gives (refl, tt))

effect_rest : (room d : ℕ) → Fits room d → (ts : List Symbol)
    → Gives (bind (sign room signs.Semicolon) (λ _. bind (sign room signs.LeftBrace) (λ _. bind (effect_regions (inside room)) (λ rs. bind (sign (inside room) signs.RightBrace) (λ _. pure (Some rs))))))
    (Spells (yields.optional (yields.effect d)) Any) ts
effect_rest zero d fits ts = stuck_sign d signs.Semicolon _ (possibly (Some []) _ (refl, tt))
effect_rest (suc room) d fits ts = sign_then (suc room) d signs.Semicolon fits (λ _ mid. sign_then (suc room) d signs.LeftBrace fits (λ _ mid. spelled_then (effect_regions_give room (suc d) (omega arith) mid) (λ rs mid _.
    sign_then room (suc d) signs.RightBrace (omega arith) (λ _ mid. pure_gives (refl, tt)))))

module _ (room d : ℕ) (fits : Fits room d) (shallow : d ≤ max_nesting) where
  member_gives : (ts : List Symbol) → Gives (member room) (Spells (yields.member d) Any) ts
  member_gives ts = spelled_then (written_type_gives room d fits shallow ts) (λ t mid _. identifier_then room d fits (λ x mid. pure_gives (refl, tt)))

  field_gives : (ts : List Symbol) → Gives (field room) (Spells (yields.field d) Any) ts
  field_gives ts = spelled_then (member_gives ts) (λ m mid _. sign_then room d signs.Semicolon fits (λ _ mid. pure_gives (refl, tt)))

  constructor_gives : (ts : List Symbol) → Gives (constructor room) (Spells (yields.constructor d) Any) ts
  constructor_gives ts = identifier_then room d fits (λ c mid. spelled_then (has_int_gives room d fits mid) (λ b mid _. sign_then room d signs.Semicolon fits (λ _ mid. pure_gives (refl, tt))))

  -- ---- parameters

  parameter_list_gives : (ts : List Symbol) → Gives (parameter_list room) (Spells (yields.parameter_list d) Any) ts
  parameter_list_gives ts = starts_gives begins_void (λ comes. advance_bare_then d (Word words.Void) (is_void (next ts) comes) shallow (λ _ mid. pure_gives (refl, tt)))
      (λ _. starts_gives begins_type (λ _. last_then Listed (separated_gives room d fits begins_type (member room) (yields.member d) (λ _. Unit {0}) member_gives (member_opened d) ts) (λ ms rest _. (refl, tt))) (λ _. pure_gives (refl, tt)))
    where
      is_void : (o : Option Terminal) → starts begins_void o ≡ true → o ≡ Some (Word words.Void)
      is_void (Some (Word words.Void)) h = refl
      is_void (Some (Word _)) h = absurd (cc)
      is_void _ h = absurd (cc)

  effect_gives : (ts : List Symbol) → Gives (effect room) (Spells (yields.optional (yields.effect d)) Any) ts
  effect_gives ts = sees_gives signs.Semicolon (effect_rest room d fits ts) (pure_gives (refl, tt))

  constraint_gives : (ts : List Symbol) → Gives (constraint room) (Spells (yields.constraint d) Any) ts
  constraint_gives ts = region_then room d fits (λ a mid. sign_then room d signs.Greater fits (λ _ mid. region_then room d fits (λ b mid. pure_gives (refl, tt))))

  constraints_give : (ts : List Symbol) → Gives (constraints room) (Spells (yields.constraints d) Any) ts
  constraints_give ts = sees_gives signs.Colon (sign_then room d signs.Colon fits (λ _ mid. gives_as (λ cs ls rest (e, (some, _)). (ap (λ (ys : Yield). leaf_of d (Mark signs.Colon) ∷ ys) e ∙ with_colon cs some, tt))
      (separated_gives room d fits begins_region (constraint room) (yields.constraint d) (λ _. Unit {0}) constraint_gives (constraint_opened d) mid))) (pure_gives (refl, tt))
    where
      with_colon : (cs : List Constraint) → IsNonempty cs → leaf_of d (Mark signs.Colon) ∷ yields.separated (yields.constraint d) d cs ≡ yields.constraints d cs
      with_colon [] some = absurd some
      with_colon (c ∷ cs) some = refl

  parameters_give : (ts : List Symbol) → Gives (parameters room) (Spells (yields.parameters d) Any) ts
  parameters_give ts = spelled_then (parameter_list_gives ts) (λ ps mid _. spelled_then (effect_gives mid) (λ e mid _. last_then (λ cs. record { list = ps; effect = e; constraints = cs }) (constraints_give mid) (λ cs rest _. (refl, tt))))

-- ---- declarations

number_is : (u : Terminal) (n : ℕ) → number_value u ≡ Some n → u ≡ terminals.Number n
number_is (terminals.Number m) n h = cc
number_is _ n h = absurd (cc)

-- The initial value of a global variable is parsed after its `=`, at the nesting depth of that `=`.
value_gives : (room d : ℕ) → Fits (suc room) d → suc d ≤ max_nesting → (o : Option Terminal) (ts : List Symbol) → next ts ≡ o
    → Gives (value_by room o) (Follows (leaf_of d (Mark signs.Assign) ∷ []) (yields.global_value d) Any) ts
value_gives room d fits shallow (Some (terminals.Number n)) ts e = advance_then (suc d) (terminals.Number n) e shallow (λ p mid. pure_gives (refl, tt))
value_gives room d fits shallow (Some (terminals.Character c)) ts e = advance_then (suc d) (terminals.Character c) e shallow (λ p mid. pure_gives (refl, tt))
value_gives room d fits shallow (Some (Word words.Null)) ts e = advance_then (suc d) (Word words.Null) e shallow (λ p mid. pure_gives (refl, tt))
value_gives room d fits shallow (Some (Mark signs.Minus)) ts e = advance_then (suc d) (Mark signs.Minus) e shallow (λ p mid. number_then room fits p mid)
  where
    number_then : (room : ℕ) → Fits (suc room) d → (p : Place) (mid : List Symbol) → Gives (bind (take (inside room) number_value (λ n q. n)) (λ n. pure (Negative p n)))
        (λ y ys rest. Follows (leaf_of d (Mark signs.Assign) ∷ []) (yields.global_value d) Any y (leaf_at (suc d) (Mark signs.Minus) p ∷ ys) rest) mid
    number_then zero fits p mid = absurd (omega (arith, shallow))
    number_then (suc r) fits p mid = take_then r number_value (λ n q. n) _ 0 (λ n q. leaf_of (suc (suc d)) (terminals.Number n)) (λ _ _. omega arith) (λ _ _. omega arith) (λ n u _ e. number_is u n e) (λ _ _. tt) (λ n q mid. pure_gives (refl, tt))
value_gives room d fits shallow _ ts e = unexpected_gives (possibly (Positive some_place 0) _ (refl, tt))

any_value_gives : (room d : ℕ) → Fits (suc room) d → suc d ≤ max_nesting → (ts : List Symbol) → Gives (value room) (Follows (leaf_of d (Mark signs.Assign) ∷ []) (yields.global_value d) Any) ts
any_value_gives room d fits shallow ts = choose_gives (λ o e. value_gives room d fits shallow o ts e)

-- ---- with at least one level of room left inside brackets
module _ (room d : ℕ) (fits : Fits (suc room) d) (shallow : suc d ≤ max_nesting) where
  deeper : Fits room (suc d)
  deeper = omega arith

  here_shallow : d ≤ max_nesting
  here_shallow = omega (arith, shallow)

  global_value_gives : (ts : List Symbol) → Gives (global_value room) (Spells (yields.optional (yields.global_value d)) Any) ts
  global_value_gives ts = sees_gives signs.Assign (sign_then (suc room) d signs.Assign fits (λ _ mid. part_then (any_value_gives room d fits shallow mid) (λ v xs mid (eq, _). pure_gives (ap (λ (zs : Yield). leaf_of d (Mark signs.Assign) ∷ zs) (append-nil xs) ∙ eq, tt))))
      (pure_gives (refl, tt))

  function_gives : (t : Option WrittenType) (f : Named) (ts : List Symbol) → Gives (function room t f) (Follows (yields.result_type d t ++ leaf_at d (Identifier f.name) f.place ∷ []) (yields.declaration d) (λ x _. IsDeclaration x)) ts
  function_gives t f ts = sign_then (suc room) d signs.LeftParen fits (λ _ mid. spelled_then (parameters_give room (suc d) deeper shallow mid) (λ ps mid _. sign_then room (suc d) signs.RightParen deeper (λ _ mid.
      last_then (Function t f ps) (body_gives room d (nested_statements room) fits (nested_statements_give room (suc d) deeper) mid) (λ b rest is. (append_assoc (yields.result_type d t) (leaf_at d (Identifier f.name) f.place ∷ []) _, is)))))

  typed_gives : (t : WrittenType) (ts : List Symbol) → Gives (typed room t) (Follows (yields.written_type d t) (yields.declaration d) (λ x _. IsDeclaration x)) ts
  typed_gives t ts = identifier_then (suc room) d fits (λ x mid. sees_gives signs.LeftParen
      (gives_as (λ y ys rest (e, is). (sym (append_assoc (yields.written_type d t) (leaf_at d (Identifier x.name) x.place ∷ []) ys) ∙ e, is)) (function_gives (Some t) x mid))
      (spelled_then (global_value_gives mid) (λ v mid _. sign_then (suc room) d signs.Semicolon fits (λ _ mid. pure_gives (refl, tt)))))

  struct_fields_give : (s : Named) (rs : List Named) (ts : List Symbol) → Gives (struct_fields room s rs)
      (λ y ys rest. (leaf_of d (Word words.Struct) ∷ leaf_at d (Identifier s.name) s.place ∷ (yields.region_list d rs ++ ys) ≡ yields.declaration d y) × IsDeclaration y) ts
  struct_fields_give s rs ts = sign_then (suc room) d signs.LeftBrace fits (λ _ mid. spelled_then (some_of_gives begins_type (field room) (yields.field (suc d)) (field_gives room (suc d) deeper shallow) (field_opened (suc d)) mid) (λ fs mid some.
      sign_then room (suc d) signs.RightBrace deeper (λ _ mid. sign_then (suc room) d signs.Semicolon fits (λ _ mid. pure_gives (refl, some)))))

  -- The soundness statement `Gives` holds for a parser that begins with `struct`; a type stores the source position of `struct`, and a
  -- struct declaration does not.
  struct_then : {C : Type 0} {f : Place → Parser C} {Q : C → Yield → List Symbol → Type 0} {ts : List Symbol} → next ts ≡ Some (Word words.Struct)
      → ((q : Place) (mid : List Symbol) → Gives (f q) (λ y ys rest. Q y (leaf_at d (Word words.Struct) q ∷ ys) rest ⊎ Q y (leaf_of d (Word words.Struct) ∷ ys) rest) mid) → Gives (bind advance f) Q ts
  unfolding bind
  struct_then {C} {f = f} {Q = Q} {ts = ts} comes second = record {
    gives = λ rest y h. start ts rest y comes h;
    goes = λ e h limit. refused ts e comes h limit;
    ending = λ none. absurd (nothing (ap next (sym none) ∙ comes));
  }
    where
      nothing : ◌≡◌ {A = Option Terminal} None (Some (Word words.Struct)) → ⊥
      nothing e = cc

      completed : (t : Symbol) (more left : List Symbol) (y : C) → t.terminal ≡ Word words.Struct → (ls : Yield) → Begins ls more left
          → (Q y (leaf_at d (Word words.Struct) t.place ∷ ls) [] ⊎ Q y (leaf_of d (Word words.Struct) ∷ ls) []) → Completed Q (t ∷ more) left
      completed t more left y same ls begins (inl post) = record {
        value = y;
        leaves = leaf_at d (Word words.Struct) t.place ∷ ls;
        begins = leaf_begins (leaf_at d (Word words.Struct) t.place) t same refl refl begins;
        post = post;
      }
      completed t more left y same ls begins (inr post) = record {
        value = y;
        leaves = leaf_of d (Word words.Struct) ∷ ls;
        begins = leaf_begins (leaf_of d (Word words.Struct)) t same tt refl begins;
        post = post;
      }

      refused : (ts : List Symbol) (e : Refusal) → next ts ≡ Some (Word words.Struct) → bind advance f ts ≡ Err e → IsLimit e.reason → Completed Q ts e.left
      refused [] e comes h limit = absurd (nothing comes)
      refused (t ∷ more) e comes h limit =
          let same : t.terminal ≡ Word words.Struct = cc in
          let a = (second t.place more).goes e h limit in
          completed t more e.left a.value same a.leaves a.begins a.post

      kept : (t : Symbol) (more rest : List Symbol) (y : C) → t.terminal ≡ Word words.Struct → (ls : Yield) → Front ls more rest → AllByRecursion IsWithin ls
          → (Q y (leaf_at d (Word words.Struct) t.place ∷ ls) rest ⊎ Q y (leaf_of d (Word words.Struct) ∷ ls) rest) → Derived (t ∷ more) rest (λ ls. Q y ls rest)
      kept t more rest y same ls front within (inl post) = record {
        leaves = leaf_at d (Word words.Struct) t.place ∷ ls;
        front = (t, more, refl, record { terminal = same; place = refl }, front);
        within = (record { nesting = here_shallow; item = omega arith }, within);
        post = post;
      }
      kept t more rest y same ls front within (inr post) = record {
        leaves = leaf_of d (Word words.Struct) ∷ ls;
        front = (t, more, refl, record { terminal = same; place = tt }, front);
        within = (record { nesting = here_shallow; item = omega arith }, within);
        post = post;
      }

      start : (ts rest : List Symbol) (y : C) → next ts ≡ Some (Word words.Struct) → bind advance f ts ≡ Ok (y, rest) → Derived ts rest (λ ls. Q y ls rest)
      start [] rest y e h = absurd (cc)
      start (t ∷ more) rest y e h =
          let same : t.terminal ≡ Word words.Struct = cc in
          let a = (second t.place more).gives rest y h in
          kept t more rest y same a.leaves a.front a.within a.post

  struct_or_typed_gives : (p : Place) (ts : List Symbol) → Gives (struct_or_typed room p)
      (λ y ys rest. Spells (yields.declaration d) (λ x _. IsDeclaration x) y (leaf_at d (Word words.Struct) p ∷ ys) rest ⊎ Spells (yields.declaration d) (λ x _. IsDeclaration x) y (leaf_of d (Word words.Struct) ∷ ys) rest) ts
  struct_or_typed_gives p ts = identifier_then (suc room) d fits (λ s mid. spelled_then (optional_regions_give (suc room) d fits mid) (λ rs mid _. sees_gives signs.LeftBrace
      (gives_as (λ y ys rest h. inr h) (struct_fields_give s rs mid))
      (part_then (with_pointers_give (suc room) d fits here_shallow p (Struct s rs) mid) (λ t xs mid (eq, _).
      gives_as (λ y ys rest (e, is). inl (sym (append_assoc (yields.base_type d p (Struct s rs)) xs ys) ∙ ap (λ (zs : Yield). zs ++ ys) eq ∙ e, is)) (typed_gives t mid)))))

  exceptions_give : (ts : List Symbol) → Gives (exceptions room) (Spells (yields.declaration d) (λ x _. IsDeclaration x)) ts
  exceptions_give ts = word_then (suc room) d words.Datatype fits (λ _ mid. word_then (suc room) d words.Exn fits (λ _ mid. sign_then (suc room) d signs.LeftBrace fits (λ _ mid.
      spelled_then (some_of_gives begins_constructor (constructor room) (yields.constructor (suc d)) (constructor_gives room (suc d) deeper shallow) (constructor_opened (suc d)) mid) (λ cs mid some.
      sign_then room (suc d) signs.RightBrace deeper (λ _ mid. sign_then (suc room) d signs.Semicolon fits (λ _ mid. pure_gives (refl, some)))))))

  declaration_by_gives : (o : Option Terminal) (ts : List Symbol) → next ts ≡ o → Gives (declaration_by room o) (Spells (yields.declaration d) (λ x _. IsDeclaration x)) ts
  declaration_by_gives (Some (Word words.Struct)) ts e = struct_then e (λ p mid. struct_or_typed_gives p mid)
  declaration_by_gives (Some (Word words.Datatype)) ts e = exceptions_give ts
  declaration_by_gives (Some (Word words.Void)) ts e = advance_bare_then d (Word words.Void) e here_shallow (λ _ mid. identifier_then (suc room) d fits (λ f mid. function_gives None f mid))
  declaration_by_gives _ ts e = spelled_then (written_type_gives (suc room) d fits here_shallow ts) (λ t mid _. typed_gives t mid)

  pub declaration_gives : (ts : List Symbol) → Gives (declaration room) (Spells (yields.declaration d) (λ x _. IsDeclaration x)) ts
  unfolding declaration
  declaration_gives ts = choose_gives (λ o e. declaration_by_gives o ts e)
