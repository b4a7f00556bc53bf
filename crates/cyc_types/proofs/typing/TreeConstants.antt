-- The constants of an abstract syntax tree are 32-bit words if the constants of the symbols that spell the tree are 32-bit words.
use Rattle.std.proofs.Common.{ℕ, suc, List, [], ◌∷◌, ◌++◌, Option, Some, None, subst}
use Rattle.cyc_words.specs.Word.{IsWord}
use Rattle.cyc_syntax.specs.declared.tokens.Keyword.TheVariants as words
use Rattle.cyc_syntax.specs.Symbols.{Terminal, Symbol}
use Rattle.cyc_syntax.specs.Symbols as terminals
use Rattle.cyc_syntax.specs.Trees.{Expression, Number, Character, Call, Bracketed, NumberOfElements, LowByteOf, FreeUnique, Chained, Prefixed, New, RegionNew, Binary, Assign, Initial, Plain, Fields, Array, Expressions, NoExpressions}
use Rattle.cyc_syntax.specs.Trees.{MoreExpressions, Postfixes, NoPostfixes, ThenIndex, ThenField, Operations, NoOperations, ThenOperation, Statement, Block, Labelled, Evaluate, Swap, If, IfElse, While, Return, Body, Braces, Items, NoItems}
use Rattle.cyc_syntax.specs.Trees.{MoreItems, Item, Execute, Local, Region, Alias, DynamicRegion, GlobalValue, Positive, Negative, Byte, NullPointer, Declaration, StructType, Exceptions, Global, Function, Throw, Try, Clauses, NoClauses, Default, Case}
use Rattle.cyc_syntax.specs.Yields.{Yield, item_number}
use Rattle.cyc_syntax.specs.Yields as yields
use Rattle.cyc_syntax.specs.Grammar.{IsSpelled, HasTree}

-- ---- the constants of a tree

abbrev mutual
  pub IsOfWordsWritten : Expression → Type 0
  IsOfWordsWritten (Number p n) = IsWord n
  IsOfWordsWritten (Character p c) = IsWord c
  IsOfWordsWritten (Call f es) = AreOfWordsWritten es
  IsOfWordsWritten (Bracketed p e) = IsOfWordsWritten e
  IsOfWordsWritten (NumberOfElements p e) = IsOfWordsWritten e
  IsOfWordsWritten (LowByteOf p e) = IsOfWordsWritten e
  IsOfWordsWritten (FreeUnique p e) = IsOfWordsWritten e
  IsOfWordsWritten (Prefixed p o e) = IsOfWordsWritten e
  IsOfWordsWritten (Binary e os) = IsOfWordsWritten e × AreOfWordsChain os
  IsOfWordsWritten (Chained e ps) = IsOfWordsWritten e × AreOfWordsPostfixes ps
  IsOfWordsWritten (New p i) = IsOfWordsMadeOf i
  IsOfWordsWritten (RegionNew p h i) = IsOfWordsWritten h × IsOfWordsMadeOf i
  IsOfWordsWritten (Assign a b) = IsOfWordsWritten a × IsOfWordsWritten b
  IsOfWordsWritten e = Unit {0}

  pub IsOfWordsMadeOf : Initial → Type 0
  IsOfWordsMadeOf (Plain e) = IsOfWordsWritten e
  IsOfWordsMadeOf (Fields s rs es) = AreOfWordsWritten es
  IsOfWordsMadeOf (Array p x n e) = IsOfWordsWritten n × IsOfWordsWritten e

  pub AreOfWordsWritten : Expressions → Type 0
  AreOfWordsWritten NoExpressions = Unit {0}
  AreOfWordsWritten (MoreExpressions e es) = IsOfWordsWritten e × AreOfWordsWritten es

  pub AreOfWordsPostfixes : Postfixes → Type 0
  AreOfWordsPostfixes NoPostfixes = Unit {0}
  AreOfWordsPostfixes (ThenIndex e ps) = IsOfWordsWritten e × AreOfWordsPostfixes ps
  AreOfWordsPostfixes (ThenField x ps) = AreOfWordsPostfixes ps

  pub AreOfWordsChain : Operations → Type 0
  AreOfWordsChain NoOperations = Unit {0}
  AreOfWordsChain (ThenOperation o p e os) = IsOfWordsWritten e × AreOfWordsChain os

abbrev pub IsOfWordsValue : Option Expression → Type 0
IsOfWordsValue None = Unit {0}
IsOfWordsValue (Some e) = IsOfWordsWritten e

abbrev mutual
  pub IsOfWordsWrittenStatement : Statement → Type 0
  IsOfWordsWrittenStatement (Block b) = IsOfWordsBody b
  IsOfWordsWrittenStatement (Labelled l b) = IsOfWordsBody b
  IsOfWordsWrittenStatement (Evaluate e) = IsOfWordsWritten e
  IsOfWordsWrittenStatement (Swap a b) = IsOfWordsWritten a × IsOfWordsWritten b
  IsOfWordsWrittenStatement (If p c s) = IsOfWordsWritten c × IsOfWordsWrittenStatement s
  IsOfWordsWrittenStatement (IfElse p c s t) = IsOfWordsWritten c × IsOfWordsWrittenStatement s × IsOfWordsWrittenStatement t
  IsOfWordsWrittenStatement (While p c s) = IsOfWordsWritten c × IsOfWordsWrittenStatement s
  IsOfWordsWrittenStatement (Return p v) = IsOfWordsValue v
  IsOfWordsWrittenStatement (Throw p x v) = IsOfWordsValue v
  IsOfWordsWrittenStatement (Try p s cs) = IsOfWordsWrittenStatement s × AreOfWordsWrittenClauses cs
  IsOfWordsWrittenStatement s = Unit {0}

  pub AreOfWordsWrittenClauses : Clauses → Type 0
  AreOfWordsWrittenClauses NoClauses = Unit {0}
  AreOfWordsWrittenClauses (Default is) = AreOfWordsWrittenItems is
  AreOfWordsWrittenClauses (Case x v is cs) = AreOfWordsWrittenItems is × AreOfWordsWrittenClauses cs

  pub IsOfWordsBody : Body → Type 0
  IsOfWordsBody (Braces p is q) = AreOfWordsWrittenItems is

  pub AreOfWordsWrittenItems : Items → Type 0
  AreOfWordsWrittenItems NoItems = Unit {0}
  AreOfWordsWrittenItems (MoreItems i is) = IsOfWordsItem i × AreOfWordsWrittenItems is

  pub IsOfWordsItem : Item → Type 0
  IsOfWordsItem (Execute s) = IsOfWordsWrittenStatement s
  IsOfWordsItem (Local t x v) = IsOfWordsValue v
  IsOfWordsItem (Region r h k) = Unit {0}
  IsOfWordsItem (Alias r t x y) = Unit {0}
  IsOfWordsItem (DynamicRegion r k) = Unit {0}

abbrev pub IsOfWordsGlobalValue : Option GlobalValue → Type 0
IsOfWordsGlobalValue None = Unit {0}
IsOfWordsGlobalValue (Some (Positive p n)) = IsWord n
IsOfWordsGlobalValue (Some (Negative p n)) = IsWord n
IsOfWordsGlobalValue (Some (Byte p c)) = IsWord c
IsOfWordsGlobalValue (Some (NullPointer p)) = Unit {0}

abbrev pub IsOfWordsDeclaration : Declaration → Type 0
IsOfWordsDeclaration (StructType s rs fs) = Unit {0}
IsOfWordsDeclaration (Exceptions cs) = Unit {0}
IsOfWordsDeclaration (Global t x v) = IsOfWordsGlobalValue v
IsOfWordsDeclaration (Function t f ps b) = IsOfWordsBody b

abbrev pub IsOfWordsTree : List Declaration → Type 0
IsOfWordsTree [] = Unit {0}
IsOfWordsTree (d ∷ ds) = IsOfWordsDeclaration d × IsOfWordsTree ds

-- ---- the constants of leaves and symbols

abbrev pub IsOfWordsTerminal : Terminal → Type 0
IsOfWordsTerminal (terminals.Identifier x) = Unit {0}
IsOfWordsTerminal (terminals.RegionName r) = Unit {0}
IsOfWordsTerminal (terminals.Number n) = IsWord n
IsOfWordsTerminal (terminals.Character c) = IsWord c
IsOfWordsTerminal (terminals.Word k) = Unit {0}
IsOfWordsTerminal (terminals.Mark s) = Unit {0}

abbrev pub AreOfWordsSymbols : List Symbol → Type 0
AreOfWordsSymbols [] = Unit {0}
AreOfWordsSymbols (s ∷ ss) = IsOfWordsTerminal s.terminal × AreOfWordsSymbols ss

abbrev AreOfWordsLeaves : Yield → Type 0
AreOfWordsLeaves [] = Unit {0}
AreOfWordsLeaves (l ∷ ls) = IsOfWordsTerminal l.terminal × AreOfWordsLeaves ls

spelled_constants : (leaves : Yield) (symbols : List Symbol) → IsSpelled leaves symbols → AreOfWordsSymbols symbols → AreOfWordsLeaves leaves
spelled_constants [] [] h k = tt
spelled_constants [] (s ∷ ss) h k = absurd h
spelled_constants (l ∷ ls) [] h k = absurd h
spelled_constants (l ∷ ls) (s ∷ ss) (h, hs) (k, ks) = (subst IsOfWordsTerminal h.terminal k, spelled_constants ls ss hs ks)

front_part : (a b : Yield) → AreOfWordsLeaves (a ++ b) → AreOfWordsLeaves a
front_part [] b h = tt
front_part (l ∷ ls) b (h, hs) = (h, front_part ls b hs)

rest_part : (a b : Yield) → AreOfWordsLeaves (a ++ b) → AreOfWordsLeaves b
rest_part [] b h = h
rest_part (l ∷ ls) b (h, hs) = rest_part ls b hs

unnumbered : (i : ℕ) (a : Yield) → AreOfWordsLeaves (item_number i a) → AreOfWordsLeaves a
unnumbered i [] h = tt
unnumbered i (l ∷ ls) h = h

-- ---- from the leaves to the tree

mutual
  expression_constants : (d : ℕ) (e : Expression) → AreOfWordsLeaves (yields.expression d e) → IsOfWordsWritten e
  expression_constants d (Number p n) (h, hs) = h
  expression_constants d (Character p c) (h, hs) = h
  expression_constants d (Call f es) h = arguments_constants (suc d) es (front_part (yields.arguments (suc d) es) _ h.1.1)
  expression_constants d (Bracketed p e) (l, h) = expression_constants (suc d) e (front_part (yields.expression (suc d) e) _ h)
  expression_constants d (NumberOfElements p e) (w, (l, h)) = expression_constants (suc d) e (front_part (yields.expression (suc d) e) _ h)
  expression_constants d (LowByteOf p e) (w, (l, h)) = expression_constants (suc d) e (front_part (yields.expression (suc d) e) _ h)
  expression_constants d (FreeUnique p e) (w, (l, h)) = expression_constants (suc d) e (front_part (yields.expression (suc d) e) _ h)
  expression_constants d (Prefixed p o e) (l, h) = expression_constants (suc d) e h
  expression_constants d (Binary e os) h = (expression_constants d e (front_part (yields.expression d e) _ h), chain_constants d 1 os (rest_part (yields.expression d e) _ h))
  expression_constants d (Chained e ps) h = (expression_constants d e (front_part (yields.expression d e) _ h), postfixes_constants d 1 ps (rest_part (yields.expression d e) _ h))
  expression_constants d (New p i) (l, h) = initial_constants (suc d) i h
  expression_constants d (RegionNew p e i) (l, (m, h)) =
      (expression_constants (suc (suc d)) e (front_part (yields.expression (suc (suc d)) e) _ h), initial_constants (suc d) i ((rest_part (yields.expression (suc (suc d)) e) _ h).1))
  expression_constants d (Assign a b) h = (expression_constants d a (front_part (yields.expression d a) _ h), expression_constants (suc d) b ((rest_part (yields.expression d a) _ h).1))
  expression_constants d e h = tt

  initial_constants : (d : ℕ) (i : Initial) → AreOfWordsLeaves (yields.initial d i) → IsOfWordsMadeOf i
  initial_constants d (Plain e) h = expression_constants d e h
  initial_constants d (Fields s rs es) (l, h) = values_constants (suc d) es (front_part (yields.values (suc d) es) _ ((rest_part (yields.region_list d rs) _ h).1))
  initial_constants d (Array p x n e) (l, (w, (i, (s, h)))) = (
    expression_constants (suc d) n (front_part (yields.expression (suc d) n) _ h),
    expression_constants (suc d) e (front_part (yields.expression (suc d) e) _ (rest_part (yields.expression (suc d) n) _ h).1),
  )

  values_constants : (d : ℕ) (es : Expressions) → AreOfWordsLeaves (yields.values d es) → AreOfWordsWritten es
  values_constants d NoExpressions h = tt
  values_constants d (MoreExpressions e es) h = (expression_constants d e (front_part (yields.expression d e) _ h), more_values_constants d es (rest_part (yields.expression d e) _ h))

  more_values_constants : (d : ℕ) (es : Expressions) → AreOfWordsLeaves (yields.more_values d es) → AreOfWordsWritten es
  more_values_constants d NoExpressions h = tt
  more_values_constants d (MoreExpressions e es) (c, h) = (expression_constants d e (front_part (yields.expression d e) _ h), more_values_constants d es (rest_part (yields.expression d e) _ h))

  arguments_constants : (d : ℕ) (es : Expressions) → AreOfWordsLeaves (yields.arguments d es) → AreOfWordsWritten es
  arguments_constants d NoExpressions h = tt
  arguments_constants d (MoreExpressions e es) h = (
    expression_constants d e (unnumbered 1 (yields.expression d e) (front_part (item_number 1 (yields.expression d e)) _ h)),
    more_constants d 2 es (rest_part (item_number 1 (yields.expression d e)) _ h),
  )

  more_constants : (d i : ℕ) (es : Expressions) → AreOfWordsLeaves (yields.more_arguments d i es) → AreOfWordsWritten es
  more_constants d i NoExpressions h = tt
  more_constants d i (MoreExpressions e es) (c, h) = (
    expression_constants d e (unnumbered i (yields.expression d e) (front_part (item_number i (yields.expression d e)) _ h)),
    more_constants d (suc i) es (rest_part (item_number i (yields.expression d e)) _ h),
  )

  postfixes_constants : (d i : ℕ) (ps : Postfixes) → AreOfWordsLeaves (yields.postfixes d i ps) → AreOfWordsPostfixes ps
  postfixes_constants d i NoPostfixes h = tt
  postfixes_constants d i (ThenIndex e ps) (l, h) =
      (expression_constants (suc d) e (front_part (yields.expression (suc d) e) _ h), postfixes_constants d (suc i) ps ((rest_part (yields.expression (suc d) e) _ h).1))
  postfixes_constants d i (ThenField x ps) (l, (n, h)) = postfixes_constants d (suc i) ps h

  chain_constants : (d i : ℕ) (os : Operations) → AreOfWordsLeaves (yields.operations d i os) → AreOfWordsChain os
  chain_constants d i NoOperations h = tt
  chain_constants d i (ThenOperation o p e os) (l, h) =
      (expression_constants d e (front_part (yields.expression d e) _ h), chain_constants d (suc i) os (rest_part (yields.expression d e) _ h))

returned_constants : (d : ℕ) (v : Option Expression) (after : Yield) → AreOfWordsLeaves (yields.optional (yields.expression d) v ++ after) → IsOfWordsValue v
returned_constants d None after h = tt
returned_constants d (Some e) after h = expression_constants d e (front_part (yields.expression d e) after h)

thrown_constants : (d : ℕ) (v : Option Expression) (after : Yield) → AreOfWordsLeaves (yields.optional (yields.thrown d) v ++ after) → IsOfWordsValue v
thrown_constants d None after h = tt
thrown_constants d (Some e) after (l, h) = expression_constants (suc d) e (front_part (yields.expression (suc d) e) _ (front_part (yields.expression (suc d) e ++ _) after h))

given_constants : (d : ℕ) (v : Option Expression) (after : Yield) → AreOfWordsLeaves (yields.optional (yields.given d) v ++ after) → IsOfWordsValue v
given_constants d None after h = tt
given_constants d (Some e) after (l, h) = expression_constants (suc d) e (front_part (yields.expression (suc d) e) after h)

mutual
  statement_constants : (d : ℕ) (s : Statement) → AreOfWordsLeaves (yields.statement d s) → IsOfWordsWrittenStatement s
  statement_constants d (Block b) h = body_constants d b h
  statement_constants d (Labelled l b) (x, (c, h)) = body_constants d b h
  statement_constants d (Evaluate e) h = expression_constants d e (front_part (yields.expression d e) _ h)
  statement_constants d (Swap a b) h =
      (expression_constants d a (front_part (yields.expression d a) _ h), expression_constants d b (front_part (yields.expression d b) _ (rest_part (yields.expression d a) _ h).1))
  statement_constants d (If p c s) h =
      (expression_constants (suc d) c (front_part (yields.expression (suc d) c) _ h.1.1), statement_constants (suc d) s (rest_part (yields.expression (suc d) c) _ h.1.1).1)
  statement_constants d (IfElse p c s t) h =
      let k : AreOfWordsLeaves (yields.statement (suc d) s ++ (yields.word d words.Else ++ yields.statement (suc d) t)) = (rest_part (yields.expression (suc d) c) _ h.1.1).1 in (
        expression_constants (suc d) c (front_part (yields.expression (suc d) c) _ h.1.1),
        statement_constants (suc d) s (front_part (yields.statement (suc d) s) _ k),
        statement_constants (suc d) t (rest_part (yields.statement (suc d) s) _ k).1,
      )
  statement_constants d (While p c s) h =
      (expression_constants (suc d) c (front_part (yields.expression (suc d) c) _ h.1.1), statement_constants (suc d) s (rest_part (yields.expression (suc d) c) _ h.1.1).1)
  statement_constants d (Return p v) (r, h) = returned_constants d v _ h
  statement_constants d (Throw p x v) (r, (n, (l, h))) = thrown_constants (suc d) v _ h
  statement_constants d (Try p s cs) (r, h) = (
    statement_constants (suc d) s (front_part (yields.statement (suc d) s) _ h),
    clauses_constants (suc d) cs (front_part (yields.clauses (suc d) cs) _ (rest_part (yields.statement (suc d) s) _ h).1.1),
  )
  statement_constants d s h = tt

  clauses_constants : (d : ℕ) (cs : Clauses) → AreOfWordsLeaves (yields.clauses d cs) → AreOfWordsWrittenClauses cs
  clauses_constants d NoClauses h = tt
  clauses_constants d (Default is) (w, (s, h)) = items_constants d is h
  clauses_constants d (Case x v is cs) (w, (s, (n, h))) =
      let k = (rest_part (yields.optional (yields.caught d) v) _ h).1 in
      (items_constants d is (front_part (yields.items d is) _ k), clauses_constants d cs (rest_part (yields.items d is) _ k))

  body_constants : (d : ℕ) (b : Body) → AreOfWordsLeaves (yields.body d b) → IsOfWordsBody b
  body_constants d (Braces p is q) (l, h) = items_constants (suc d) is (front_part (yields.items (suc d) is) _ h)

  items_constants : (d : ℕ) (is : Items) → AreOfWordsLeaves (yields.items d is) → AreOfWordsWrittenItems is
  items_constants d NoItems h = tt
  items_constants d (MoreItems i is) h = (item_constants d i (front_part (yields.item d i) _ h), items_constants d is (rest_part (yields.item d i) _ h))

  item_constants : (d : ℕ) (i : Item) → AreOfWordsLeaves (yields.item d i) → IsOfWordsItem i
  item_constants d (Execute s) h = statement_constants d s h
  item_constants d (Local t x v) h = given_constants d v _ ((rest_part (yields.written_type d t) _ h).1)
  item_constants d (Region r n k) h = tt
  item_constants d (Alias r t x y) h = tt
  item_constants d (DynamicRegion r k) h = tt

value_constants : (d : ℕ) (v : Option GlobalValue) (after : Yield) → AreOfWordsLeaves (yields.optional (yields.global_value d) v ++ after) → IsOfWordsGlobalValue v
value_constants d None after h = tt
value_constants d (Some (Positive p n)) after h = h.1.0
value_constants d (Some (Negative p n)) after h = h.1.1.0
value_constants d (Some (Byte p c)) after h = h.1.0
value_constants d (Some (NullPointer p)) after h = tt

declaration_constants : (d : ℕ) (x : Declaration) → AreOfWordsLeaves (yields.declaration d x) → IsOfWordsDeclaration x
declaration_constants d (StructType s rs fs) h = tt
declaration_constants d (Exceptions cs) h = tt
declaration_constants d (Global t x v) h = value_constants d v _ ((rest_part (yields.written_type d t) _ h).1)
declaration_constants d (Function t f ps b) h =
    body_constants d b ((rest_part (yields.parameters (suc d) ps) _ ((rest_part (yields.result_type d t) _ h).1.1)).1)

program_constants : (tree : List Declaration) → AreOfWordsLeaves (yields.program tree) → IsOfWordsTree tree
program_constants [] h = tt
program_constants (d ∷ ds) h = (declaration_constants 0 d (front_part (yields.declaration 0 d) _ h), program_constants ds (rest_part (yields.declaration 0 d) _ h))

pub tree_constants : (symbols : List Symbol) (tree : List Declaration) → HasTree symbols tree → AreOfWordsSymbols symbols → IsOfWordsTree tree
tree_constants symbols tree h k = program_constants tree (spelled_constants (yields.program tree) symbols h.spelled k)
