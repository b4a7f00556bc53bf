-- The number of leaves that spell a syntax tree (its yield) equals the tree's weight, which counts the tree's tokens by recursion.
use Rattle.std.proofs.Common.{◌≡◌, ℕ, suc, ◌+◌, Bool, true, false, List, [], ◌∷◌, length, Option, Some, None, refl, arith, length-append}
use Rattle.cyc_syntax.specs.Symbols.{Place, Symbol}
use Rattle.cyc_syntax.specs.Grammar.{IsSpelled, HasTree}
use Rattle.cyc_syntax.specs.Trees.{Named, Pointer, BaseType, Int, Char, Struct, Handle, Key, WrittenType, Expression, Number, Character, Null, HeapRegion, UniqueRegion, Variable, Call, Bracketed, NumberOfElements, LowByteOf, FreeUnique, FreeKey}
use Rattle.cyc_syntax.specs.Trees.{Chained, Prefixed, New, RegionNew, Binary, Assign, Initial, Plain, Fields, Array, Expressions, NoExpressions, MoreExpressions, Postfixes, NoPostfixes, ThenIndex, ThenField, Operations, NoOperations, ThenOperation}
use Rattle.cyc_syntax.specs.Trees.{Statement, Block, Labelled, Empty, Evaluate, Swap, If, IfElse, While, Return, Break, Continue, Throw, Try, Body, Braces, Items, NoItems, MoreItems, Item, Execute, Local, Region, Alias, DynamicRegion, Clauses}
use Rattle.cyc_syntax.specs.Trees.{NoClauses, Default, Case, Member, Constructor, GlobalValue, Positive, Negative, Byte, NullPointer, Constraint, ParameterList, Void, Listed, Declaration, StructType, Exceptions, Global, Function}
use Rattle.cyc_syntax.specs.Yields as yields
use Rattle.cyc_syntax.specs.Yields.{Yield}
use Rattle.cyc_syntax.specs.inside.Weight.{sum_of, separated_weight, regions_weight, region_list_weight, optional_weight, mark_weight, base_weight, type_weight, expression_weight, initial_weight}
use Rattle.cyc_syntax.specs.inside.Weight.{expressions_weight, more_expressions_weight, postfixes_weight, operations_weight, statement_weight, body_weight, items_weight, item_weight, clauses_weight}
use Rattle.cyc_syntax.specs.inside.Weight.{member_weight, int_weight, constructor_weight, value_weight, parameter_list_weight, constraints_weight, result_weight, declaration_weight, tree_weight}

pub item_number-length : (i : ℕ) (leaves : Yield) → length (yields.item_number i leaves) ≡ length leaves
item_number-length i [] = refl
item_number-length i (leaf ∷ leaves) = refl

module _ {A : Type 0} (yield : A → Yield) (weight : A → ℕ) (same : (x : A) → length (yield x) ≡ weight x) where
  pub each-length : (i : ℕ) (xs : List A) → length (yields.each yield i xs) ≡ sum_of weight xs
  each-length i [] = refl
  each-length i (x ∷ xs) = simp (length-append, item_number-length) (omega (arith, same x, each-length (suc i) xs))

  pub more-length : (d i : ℕ) (xs : List A) → length (yields.more yield d i xs) ≡ sum_of (λ y. 1 + weight y) xs
  more-length d i [] = refl
  more-length d i (x ∷ xs) = simp (length-append, item_number-length) (omega (arith, same x, more-length d (suc i) xs))

  pub separated-length : (d : ℕ) (xs : List A) → length (yields.separated yield d xs) ≡ separated_weight weight xs
  separated-length d [] = refl
  separated-length d (x ∷ xs) = simp (length-append, item_number-length) (omega (arith, same x, more-length d 2 xs))

  pub optional-length : (o : Option A) → length (yields.optional yield o) ≡ optional_weight weight o
  optional-length None = refl
  optional-length (Some x) = same x

pub regions-length : (d : ℕ) (rs : List Named) → length (yields.regions d rs) ≡ regions_weight rs
regions-length d rs = separated-length (yields.region_name d) (λ _. 1) (λ r. refl) d rs

pub region_list-length : (d : ℕ) (rs : List Named) → length (yields.region_list d rs) ≡ region_list_weight rs
region_list-length d [] = refl
region_list-length d (r ∷ rs) = simp length-append (omega (arith, more-length (yields.region_name d) (λ _. 1) (λ x. refl) d 2 rs))

pub mark-length : (d : ℕ) (m : Pointer) → length (yields.mark d m) ≡ mark_weight m
mark-length d m = omega (arith, optional-length (yields.region_name d) (λ _. 1) (λ r. refl) m.region)

pub marks-length : (d : ℕ) (ms : List Pointer) → length (yields.marks d ms) ≡ sum_of mark_weight ms
marks-length d ms = each-length (yields.mark d) mark_weight (mark-length d) 1 ms

mutual
  pub expression-length : (d : ℕ) (e : Expression) → length (yields.expression d e) ≡ expression_weight e
  expression-length d (Number p n) = refl
  expression-length d (Character p c) = refl
  expression-length d (Null p) = refl
  expression-length d (HeapRegion p) = refl
  expression-length d (UniqueRegion p) = refl
  expression-length d (Variable x) = refl
  expression-length d (Call f es) = simp length-append (omega (arith, arguments-length (suc d) es))
  expression-length d (Bracketed p e) = simp length-append (omega (arith, expression-length (suc d) e))
  expression-length d (NumberOfElements p e) = simp length-append (omega (arith, expression-length (suc d) e))
  expression-length d (LowByteOf p e) = simp length-append (omega (arith, expression-length (suc d) e))
  expression-length d (FreeUnique p e) = simp length-append (omega (arith, expression-length (suc d) e))
  expression-length d (FreeKey p k) = refl
  expression-length d (Chained e ps) = simp length-append (omega (arith, expression-length d e, postfixes-length d 1 ps))
  expression-length d (Prefixed p o e) = omega (arith, expression-length (suc d) e)
  expression-length d (New p i) = omega (arith, initial-length (suc d) i)
  expression-length d (RegionNew p h i) = simp length-append (omega (arith, expression-length (suc (suc d)) h, initial-length (suc d) i))
  expression-length d (Binary e os) = simp length-append (omega (arith, expression-length d e, operations-length d 1 os))
  expression-length d (Assign a b) = simp length-append (omega (arith, expression-length d a, expression-length (suc d) b))

  pub initial-length : (d : ℕ) (i : Initial) → length (yields.initial d i) ≡ initial_weight i
  initial-length d (Plain e) = expression-length d e
  initial-length d (Fields s rs es) = simp length-append (omega (arith, region_list-length d rs, values-length (suc d) es))
  initial-length d (Array p x n e) = simp length-append (omega (arith, expression-length (suc d) n, expression-length (suc d) e))

  pub values-length : (d : ℕ) (es : Expressions) → length (yields.values d es) ≡ expressions_weight es
  values-length d NoExpressions = refl
  values-length d (MoreExpressions e es) = simp length-append (omega (arith, expression-length d e, more_values-length d es))

  pub more_values-length : (d : ℕ) (es : Expressions) → length (yields.more_values d es) ≡ more_expressions_weight es
  more_values-length d NoExpressions = refl
  more_values-length d (MoreExpressions e es) = simp length-append (omega (arith, expression-length d e, more_values-length d es))

  pub arguments-length : (d : ℕ) (es : Expressions) → length (yields.arguments d es) ≡ expressions_weight es
  arguments-length d NoExpressions = refl
  arguments-length d (MoreExpressions e es) = simp (length-append, item_number-length) (omega (arith, expression-length d e, more_arguments-length d 2 es))

  pub more_arguments-length : (d i : ℕ) (es : Expressions) → length (yields.more_arguments d i es) ≡ more_expressions_weight es
  more_arguments-length d i NoExpressions = refl
  more_arguments-length d i (MoreExpressions e es) = simp (length-append, item_number-length) (omega (arith, expression-length d e, more_arguments-length d (suc i) es))

  pub postfixes-length : (d i : ℕ) (ps : Postfixes) → length (yields.postfixes d i ps) ≡ postfixes_weight ps
  postfixes-length d i NoPostfixes = refl
  postfixes-length d i (ThenIndex e ps) = simp length-append (omega (arith, expression-length (suc d) e, postfixes-length d (suc i) ps))
  postfixes-length d i (ThenField x ps) = omega (arith, postfixes-length d (suc i) ps)

  pub operations-length : (d i : ℕ) (os : Operations) → length (yields.operations d i os) ≡ operations_weight os
  operations-length d i NoOperations = refl
  operations-length d i (ThenOperation o p e os) = simp length-append (omega (arith, expression-length d e, operations-length d (suc i) os))

pub base-length : (d : ℕ) (p : Place) (b : BaseType) → length (yields.base_type d p b) ≡ base_weight b
base-length d p Int = refl
base-length d p Char = refl
base-length d p (Struct s rs) = omega (arith, region_list-length d rs)
base-length d p (Handle r) = refl
base-length d p (Key r) = refl

-- The weight (number of tokens) of a type is the sum of the weights of its base type and its pointer signs.
pub parts-length : (d : ℕ) (t : WrittenType) → length (yields.base_type d t.place t.base) + length (yields.marks d t.marks) ≡ type_weight t
parts-length d t = omega (arith, base-length d t.place t.base, marks-length d t.marks)

pub type-length : (d : ℕ) (t : WrittenType) → length (yields.written_type d t) ≡ type_weight t
type-length d t = simp length-append (parts-length d t)

pub value-length : (d : ℕ) (v : Option Expression) → length (yields.optional (yields.expression d) v) ≡ optional_weight expression_weight v
value-length d v = optional-length (yields.expression d) expression_weight (expression-length d) v

pub thrown-length : (d : ℕ) (v : Option Expression) → length (yields.optional (yields.thrown d) v) ≡ optional_weight (λ e. 2 + expression_weight e) v
thrown-length d v = optional-length (yields.thrown d) (λ e. 2 + expression_weight e) (λ e. simp length-append (omega (arith, expression-length (suc d) e))) v

pub given-length : (d : ℕ) (v : Option Expression) → length (yields.optional (yields.given d) v) ≡ optional_weight (λ e. 1 + expression_weight e) v
given-length d v = optional-length (yields.given d) (λ e. 1 + expression_weight e) (λ e. omega (arith, expression-length (suc d) e)) v

pub caught-length : (d : ℕ) (v : Option Named) → length (yields.optional (yields.caught d) v) ≡ optional_weight (λ _. 3) v
caught-length d v = optional-length (yields.caught d) (λ _. 3) (λ x. refl) v

pub opened-length : (d : ℕ) (k : Option Named) → length (yields.optional (yields.opened d) k) ≡ optional_weight (λ _. 5) k
opened-length d k = optional-length (yields.opened d) (λ _. 5) (λ x. refl) k

mutual
  pub statement-length : (d : ℕ) (s : Statement) → length (yields.statement d s) ≡ statement_weight s
  statement-length d (Block b) = body-length d b
  statement-length d (Labelled l b) = omega (arith, body-length d b)
  statement-length d (Empty p) = refl
  statement-length d (Evaluate e) = simp length-append (omega (arith, expression-length d e))
  statement-length d (Swap a b) = simp length-append (omega (arith, expression-length d a, expression-length d b))
  statement-length d (If p c s) = simp length-append (omega (arith, expression-length (suc d) c, statement-length (suc d) s))
  statement-length d (IfElse p c s t) = simp length-append (omega (arith, expression-length (suc d) c, statement-length (suc d) s, statement-length (suc d) t))
  statement-length d (While p c s) = simp length-append (omega (arith, expression-length (suc d) c, statement-length (suc d) s))
  statement-length d (Return p v) = simp length-append (omega (arith, value-length d v))
  statement-length d (Break p) = refl
  statement-length d (Continue p) = refl
  statement-length d (Throw p x v) = simp length-append (omega (arith, thrown-length (suc d) v))
  statement-length d (Try p s cs) = simp length-append (omega (arith, statement-length (suc d) s, clauses-length (suc d) cs))

  pub body-length : (d : ℕ) (b : Body) → length (yields.body d b) ≡ body_weight b
  body-length d (Braces p is q) = simp length-append (omega (arith, items-length (suc d) is))

  pub items-length : (d : ℕ) (is : Items) → length (yields.items d is) ≡ items_weight is
  items-length d NoItems = refl
  items-length d (MoreItems i is) = simp length-append (omega (arith, item-length d i, items-length d is))

  pub item-length : (d : ℕ) (i : Item) → length (yields.item d i) ≡ item_weight i
  item-length d (Execute s) = statement-length d s
  item-length d (Local t x v) = simp length-append (omega (arith, parts-length d t, given-length d v))
  item-length d (Region r h k) = simp length-append (omega (arith, opened-length d k))
  item-length d (Alias r t x y) = simp length-append (omega (arith, parts-length d t))
  item-length d (DynamicRegion r k) = refl

  pub clauses-length : (d : ℕ) (cs : Clauses) → length (yields.clauses d cs) ≡ clauses_weight cs
  clauses-length d NoClauses = refl
  clauses-length d (Default is) = omega (arith, items-length d is)
  clauses-length d (Case x v is cs) = simp length-append (omega (arith, caught-length d v, items-length d is, clauses-length d cs))

pub member-length : (d : ℕ) (m : Member) → length (yields.member d m) ≡ member_weight m
member-length d m = simp length-append (omega (arith, parts-length d m.of_type))

pub field-length : (d : ℕ) (m : Member) → length (yields.field d m) ≡ 1 + member_weight m
field-length d m = simp length-append (omega (arith, parts-length d m.of_type))

pub constructor-length : (d : ℕ) (c : Constructor) → length (yields.constructor d c) ≡ constructor_weight c
constructor-length d c = simp length-append (omega (arith, has_int-length c.has_int))
  where
    has_int-length : (b : Bool) → length (yields.has_int d b) ≡ int_weight b
    has_int-length false = refl
    has_int-length true = refl

pub global_value-length : (d : ℕ) (v : GlobalValue) → length (yields.global_value d v) ≡ value_weight v
global_value-length d (Positive p n) = refl
global_value-length d (Negative p n) = refl
global_value-length d (Byte p c) = refl
global_value-length d (NullPointer p) = refl

pub parameter_list-length : (d : ℕ) (ps : ParameterList) → length (yields.parameter_list d ps) ≡ parameter_list_weight ps
parameter_list-length d Void = refl
parameter_list-length d (Listed ms) = separated-length (yields.member d) member_weight (member-length d) d ms

pub constraints-length : (d : ℕ) (cs : List Constraint) → length (yields.constraints d cs) ≡ constraints_weight cs
constraints-length d [] = refl
constraints-length d (c ∷ cs) = omega (arith, separated-length (yields.constraint d) (λ _. 3) (λ x. refl) d (c ∷ cs))

pub effect-length : (d : ℕ) (e : Option (List Named)) → length (yields.optional (yields.effect d) e) ≡ optional_weight (λ rs. 3 + regions_weight rs) e
effect-length d e = optional-length (yields.effect d) (λ rs. 3 + regions_weight rs) (λ rs. simp length-append (omega (arith, regions-length (suc d) rs))) e

pub result-length : (d : ℕ) (t : Option WrittenType) → length (yields.result_type d t) ≡ result_weight t
result-length d None = refl
result-length d (Some t) = type-length d t

pub declaration-length : (d : ℕ) (x : Declaration) → length (yields.declaration d x) ≡ declaration_weight x
declaration-length d (StructType s rs fs) = simp length-append (omega (arith, region_list-length d rs, each-length (yields.field (suc d)) (λ m. 1 + member_weight m) (field-length (suc d)) 1 fs))
declaration-length d (Exceptions cs) = simp length-append (omega (arith, each-length (yields.constructor (suc d)) constructor_weight (constructor-length (suc d)) 1 cs))
declaration-length d (Global t x v) = simp length-append (omega (arith, parts-length d t, value-length' v))
  where
    value-length' : (w : Option GlobalValue) → length (yields.optional (yields.global_value d) w) ≡ optional_weight value_weight w
    value-length' w = optional-length (yields.global_value d) value_weight (global_value-length d) w
declaration-length d (Function t f ps b) = simp length-append (omega (arith, result-length d t, parameter_list-length (suc d) ps.list, effect-length (suc d) ps.effect, constraints-length (suc d) ps.constraints, body-length d b))

pub program-length : (tree : List Declaration) → length (yields.program tree) ≡ tree_weight tree
program-length [] = refl
program-length (x ∷ xs) = simp length-append (omega (arith, declaration-length 0 x, program-length xs))

pub spelled-length : (leaves : Yield) (symbols : List Symbol) → IsSpelled leaves symbols → length symbols ≡ length leaves
spelled-length [] [] h = refl
spelled-length [] (s ∷ ss) h = absurd h
spelled-length (l ∷ ls) [] h = absurd h
spelled-length (l ∷ ls) (s ∷ ss) h = omega (arith, spelled-length ls ss h.1)

pub tree_weight-length : (symbols : List Symbol) (tree : List Declaration) → HasTree symbols tree → tree_weight tree ≡ length symbols
tree_weight-length symbols tree h = omega (arith, spelled-length (yields.program tree) symbols h.spelled, program-length tree)
