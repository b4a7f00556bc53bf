-- The grammar relates a list of symbols to its syntax trees. `Yields` contains the productions of the grammar. The conditions on the
-- subtrees of a tree, and the definition of when a yield spells a tree, are in this file. (The grammar is the Cyclone manual's; its
-- operator levels and the binding of `else` are C's; the limits are this project's own choice.)
use Rattle.std.specs.Prelude.{◌≡◌, ℕ, suc, ◌≤◌, ◌<◌, Bool, true, false, List, [], ◌∷◌, Option}
use Rattle.std.specs.List.{AllByRecursion}
use Rattle.std.specs.Option.{IfSome}
use Rattle.cyc_syntax.specs.declared.tree.BinaryOperator.{BinaryOperator}
use Rattle.cyc_syntax.specs.declared.tree.BinaryOperator.TheVariants as operators
use Rattle.cyc_syntax.specs.Symbols.{Symbol}
use Rattle.cyc_syntax.specs.Trees.{Expression, Number, Character, Null, HeapRegion, UniqueRegion, Variable, Call, Bracketed, NumberOfElements, LowByteOf, FreeUnique, FreeKey, Chained, Prefixed, New, RegionNew, Binary, Assign, Initial, Plain, Fields}
use Rattle.cyc_syntax.specs.Trees.{Array, Expressions, NoExpressions, MoreExpressions, Postfixes, NoPostfixes, ThenIndex, ThenField, Operations, NoOperations, ThenOperation, Statement, Block, Labelled, Empty, Evaluate, Swap, If, IfElse, While, Return}
use Rattle.cyc_syntax.specs.Trees.{Break, Continue, Throw, Try, Body, Braces, Items, NoItems, MoreItems, Item, Execute, Local, Region, Alias, DynamicRegion, Clauses, NoClauses, Default, Case, Declaration, StructType, Exceptions, Global, Function}
use Rattle.cyc_syntax.specs.Yields.{Leaf, Yield, program}

-- ---- levels of expressions, tightest first: 0 for an operand with its prefixes and postfixes, 1 to 10 for binary operators, 11 for
-- assignment

abbrev pub level : BinaryOperator → ℕ
level operators.Multiply = 1
level operators.Divide = 1
level operators.Remainder = 1
level operators.Add = 2
level operators.Subtract = 2
level operators.ShiftLeft = 3
level operators.ShiftRight = 3
level operators.Less = 4
level operators.LessOrEqual = 4
level operators.Greater = 4
level operators.GreaterOrEqual = 4
level operators.Equal = 5
level operators.NotEqual = 5
level operators.And = 6
level operators.Xor = 7
level operators.Or = 8
level operators.AndThen = 9
level operators.OrElse = 10

abbrev pub unary_level : ℕ
unary_level = 0

abbrev pub binary_level : ℕ
binary_level = 10

abbrev pub assignment_level : ℕ
assignment_level = 11

-- Returns true if a postfix operator may follow an expression of this form.
abbrev pub is_primary : Expression → Bool
is_primary (Number p n) = true
is_primary (Character p c) = true
is_primary (Null p) = true
is_primary (HeapRegion p) = true
is_primary (UniqueRegion p) = true
is_primary (Variable x) = true
is_primary (Call f es) = true
is_primary (Bracketed p e) = true
is_primary (NumberOfElements p e) = true
is_primary (LowByteOf p e) = true
is_primary (FreeUnique p e) = true
is_primary (FreeKey p k) = true
is_primary (Chained e ps) = false
is_primary (Prefixed p o e) = false
is_primary (New p i) = false
is_primary (RegionNew p h i) = false
is_primary (Binary e os) = false
is_primary (Assign a b) = false

abbrev mutual
  -- `IsExpression` says that an expression has at most this precedence level, and that each of its subtrees satisfies the condition of its
  -- production.
  pub IsExpression : ℕ → Expression → Type 0
  IsExpression most (Number p n) = Unit {0}
  IsExpression most (Character p c) = Unit {0}
  IsExpression most (Null p) = Unit {0}
  IsExpression most (HeapRegion p) = Unit {0}
  IsExpression most (UniqueRegion p) = Unit {0}
  IsExpression most (Variable x) = Unit {0}
  IsExpression most (Call f es) = AreExpressions es
  IsExpression most (Bracketed p e) = IsExpression assignment_level e
  IsExpression most (NumberOfElements p e) = IsExpression assignment_level e
  IsExpression most (LowByteOf p e) = IsExpression assignment_level e
  IsExpression most (FreeUnique p e) = IsExpression assignment_level e
  IsExpression most (FreeKey p k) = Unit {0}
  IsExpression most (Chained e ps) = (is_primary e ≡ true) × IsExpression unary_level e × IsSomePostfix ps × ArePostfixes ps
  IsExpression most (Prefixed p o e) = IsExpression unary_level e
  IsExpression most (New p i) = IsInitial i
  IsExpression most (RegionNew p h i) = IsExpression assignment_level h × IsInitial i
  -- The operators in one `Binary` expression all have one precedence level, and its operands have lower levels, which bind tighter.
  IsExpression most (Binary e os) = (below : ℕ) × (below < most) × (below < binary_level) × IsExpression below e × IsSomeOperation os × AreOperations below os
  IsExpression most (Assign a b) = (assignment_level ≤ most) × IsExpression binary_level a × IsExpression assignment_level b

  pub IsInitial : Initial → Type 0
  IsInitial (Plain e) = IsExpression unary_level e
  IsInitial (Fields s rs es) = IsSomeExpression es × AreExpressions es
  IsInitial (Array p x n e) = IsExpression binary_level n × IsExpression assignment_level e

  pub AreExpressions : Expressions → Type 0
  AreExpressions NoExpressions = Unit {0}
  AreExpressions (MoreExpressions e es) = IsExpression assignment_level e × AreExpressions es

  pub ArePostfixes : Postfixes → Type 0
  ArePostfixes NoPostfixes = Unit {0}
  ArePostfixes (ThenIndex e ps) = IsExpression assignment_level e × ArePostfixes ps
  ArePostfixes (ThenField x ps) = ArePostfixes ps

  pub AreOperations : ℕ → Operations → Type 0
  AreOperations below NoOperations = Unit {0}
  AreOperations below (ThenOperation o p e os) = (level o ≡ suc below) × IsExpression below e × AreOperations below os

  -- `IsSomeExpression` says that a list has at least one expression, and that each is well-formed.
  pub IsSomeExpression : Expressions → Type 0
  IsSomeExpression NoExpressions = ⊥
  IsSomeExpression (MoreExpressions e es) = Unit {0}

  pub IsSomePostfix : Postfixes → Type 0
  IsSomePostfix NoPostfixes = ⊥
  IsSomePostfix (ThenIndex e ps) = Unit {0}
  IsSomePostfix (ThenField x ps) = Unit {0}

  pub IsSomeOperation : Operations → Type 0
  IsSomeOperation NoOperations = ⊥
  IsSomeOperation (ThenOperation o p e os) = Unit {0}

-- ---- statements

abbrev pub IsExpressionOrNone : Option Expression → Type 0
IsExpressionOrNone v = IfSome v (λ e. IsExpression assignment_level e)

-- Returns true if a statement ends in an `if` without an `else`. An `else` after a statement that ends in an `if` without an
-- `else` would be read as the `else` of this inner `if`.
abbrev pub wants_else : Statement → Bool
wants_else (Block b) = false
wants_else (Labelled l b) = false
wants_else (Empty p) = false
wants_else (Evaluate e) = false
wants_else (Swap a b) = false
wants_else (If p c s) = true
wants_else (IfElse p c s t) = wants_else t
wants_else (While p c s) = wants_else s
wants_else (Return p v) = false
wants_else (Break p) = false
wants_else (Continue p) = false
wants_else (Throw p x v) = false
wants_else (Try p s cs) = false

abbrev mutual
  pub IsStatement : Statement → Type 0
  IsStatement (Block b) = IsBody b
  IsStatement (Labelled l b) = IsBody b
  IsStatement (Empty p) = Unit {0}
  IsStatement (Evaluate e) = IsExpression assignment_level e
  IsStatement (Swap a b) = IsExpression unary_level a × IsExpression unary_level b
  IsStatement (If p c s) = IsExpression assignment_level c × IsStatement s
  -- An `else` belongs to the nearest `if`, so the first branch of an `if` with `else` must not end in an `if` without `else`.
  IsStatement (IfElse p c s t) = IsExpression assignment_level c × IsStatement s × (wants_else s ≡ false) × IsStatement t
  IsStatement (While p c s) = IsExpression assignment_level c × IsStatement s
  IsStatement (Return p v) = IsExpressionOrNone v
  IsStatement (Break p) = Unit {0}
  IsStatement (Continue p) = Unit {0}
  IsStatement (Throw p x v) = IsExpressionOrNone v
  IsStatement (Try p s cs) = IsStatement s × IsSomeClause cs × AreClauses cs

  pub IsBody : Body → Type 0
  IsBody (Braces p is q) = AreItems is

  pub AreItems : Items → Type 0
  AreItems NoItems = Unit {0}
  AreItems (MoreItems i is) = IsItem i × AreItems is

  pub IsItem : Item → Type 0
  IsItem (Execute s) = IsStatement s
  IsItem (Local t x v) = IsExpressionOrNone v
  IsItem (Region r h k) = Unit {0}
  IsItem (Alias r t x y) = Unit {0}
  IsItem (DynamicRegion r k) = Unit {0}

  pub AreClauses : Clauses → Type 0
  AreClauses NoClauses = Unit {0}
  AreClauses (Default is) = AreItems is
  AreClauses (Case x v is cs) = AreItems is × AreClauses cs

  pub IsSomeClause : Clauses → Type 0
  IsSomeClause NoClauses = ⊥
  IsSomeClause (Default is) = Unit {0}
  IsSomeClause (Case x v is cs) = Unit {0}

-- ---- declarations

-- `IsNonempty` says that a list has at least one element.
abbrev pub IsNonempty : {A : Type 0} → List A → Type 0
IsNonempty [] = ⊥
IsNonempty (x ∷ xs) = Unit {0}

abbrev pub IsDeclaration : Declaration → Type 0
IsDeclaration (StructType s rs fs) = IsNonempty fs
IsDeclaration (Exceptions cs) = IsNonempty cs
IsDeclaration (Global t x v) = Unit {0}
IsDeclaration (Function t f ps b) = IsBody b

abbrev pub AreDeclarations : List Declaration → Type 0
AreDeclarations [] = Unit {0}
AreDeclarations (d ∷ ds) = IsDeclaration d × AreDeclarations ds

-- ---- when symbols spell a tree

-- `IsLeaf` says that a symbol is the token of a leaf, at the leaf's source position if the leaf has one.
pub record IsLeaf (leaf : Leaf) (symbol : Symbol) : Type 0 where
  pub terminal : symbol.terminal ≡ leaf.terminal
  pub place : IfSome leaf.place (λ p. symbol.place ≡ p)

abbrev pub IsSpelled : Yield → List Symbol → Type 0
IsSpelled [] [] = Unit {0}
IsSpelled [] (symbol ∷ symbols) = ⊥
IsSpelled (leaf ∷ leaves) [] = ⊥
IsSpelled (leaf ∷ leaves) (symbol ∷ symbols) = IsLeaf leaf symbol × IsSpelled leaves symbols

-- THE GRAMMAR: `HasTree` says that this tree, a program of at least one declaration, is a parse of these symbols.
pub record HasTree (symbols : List Symbol) (tree : List Declaration) : Type 0 where
  pub nonempty : IsNonempty tree
  pub formed : AreDeclarations tree
  pub spelled : IsSpelled (program tree) symbols

-- ---- the limits of this project on trees

abbrev pub max_nesting : ℕ
max_nesting = 200

abbrev pub max_items : ℕ
max_items = 64

pub record IsWithin (leaf : Leaf) : Type 0 where
  pub nesting : leaf.nesting ≤ max_nesting
  pub item : leaf.item ≤ max_items

abbrev pub IsWithinLimits : List Declaration → Type 0
IsWithinLimits tree = AllByRecursion IsWithin (program tree)
