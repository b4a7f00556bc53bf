-- Abstract syntax trees as mathematical values, for the grammar and all later definitions. A name in a tree is a number. Lists of nodes are
-- linked lists with constructors of their own. (The form of trees is this project's own choice; their meaning is that of the Cyclone
-- manual's grammar.)
use Rattle.std.specs.Prelude.{ℕ, Bool, List, Option}
use Rattle.cyc_syntax.specs.declared.tree.PointerKind.{PointerKind}
use Rattle.cyc_syntax.specs.declared.tree.PrefixOperator.{PrefixOperator}
use Rattle.cyc_syntax.specs.declared.tree.BinaryOperator.{BinaryOperator}
use Rattle.cyc_syntax.specs.Symbols.{Place}

-- An identifier or a region name, with its source position.
pub record Named : Type 0 where
  pub name : ℕ
  pub place : Place

-- ---- types

-- A pointer sign, and the region written after it.
pub record Pointer : Type 0 where
  pub kind : PointerKind
  pub region : Option Named

pub data BaseType : Type 0 where
  Int : BaseType
  Char : BaseType
  -- A struct type with its region arguments; if they are omitted, the list is empty.
  Struct : Named → List Named → BaseType
  Handle : Named → BaseType
  Key : Named → BaseType

pub record WrittenType : Type 0 where
  pub place : Place
  pub base : BaseType
  -- The pointer signs of a type from left to right; the last sign is that of the outermost pointer.
  pub marks : List Pointer

-- ---- expressions

mutual
  pub data Expression : Type 0 where
    Number : Place → ℕ → Expression
    Character : Place → ℕ → Expression
    Null : Place → Expression
    HeapRegion : Place → Expression
    UniqueRegion : Place → Expression
    Variable : Named → Expression
    Call : Named → Expressions → Expression
    Bracketed : Place → Expression → Expression
    -- the operator `numelts`
    NumberOfElements : Place → Expression → Expression
    -- the conversion `char`
    LowByteOf : Place → Expression → Expression
    -- the call `ufree`
    FreeUnique : Place → Expression → Expression
    -- the call `free_ukey`
    FreeKey : Place → Named → Expression
    -- An operand followed by postfix operators.
    Chained : Expression → Postfixes → Expression
    Prefixed : Place → PrefixOperator → Expression → Expression
    New : Place → Initial → Expression
    -- the allocation `rnew`
    RegionNew : Place → Expression → Initial → Expression
    -- Operands joined by operators of one precedence level, which associate to the left.
    Binary : Expression → Operations → Expression
    Assign : Expression → Expression → Expression

  -- The initial value or values of the object that `new` or `rnew` allocates.
  pub data Initial : Type 0 where
    Plain : Expression → Initial
    -- A struct initializer: the struct, its region arguments, and the values of its fields.
    Fields : Named → List Named → Expressions → Initial
    -- The array initializer `{for variable < length : element}`.
    Array : Place → (variable : Named) → (length : Expression) → (element : Expression) → Initial

  pub data Expressions : Type 0 where
    NoExpressions : Expressions
    MoreExpressions : Expression → Expressions → Expressions

  pub data Postfixes : Type 0 where
    NoPostfixes : Postfixes
    ThenIndex : Expression → Postfixes → Postfixes
    ThenField : Named → Postfixes → Postfixes

  -- The operators that follow the first operand of a `Binary` expression, each with its source position and its right operand.
  pub data Operations : Type 0 where
    NoOperations : Operations
    ThenOperation : BinaryOperator → Place → Expression → Operations → Operations

-- ---- statements

mutual
  pub data Statement : Type 0 where
    Block : Body → Statement
    Labelled : (label : Named) → Body → Statement
    Empty : Place → Statement
    Evaluate : Expression → Statement
    Swap : (left : Expression) → (right : Expression) → Statement
    If : Place → Expression → Statement → Statement
    IfElse : Place → Expression → Statement → Statement → Statement
    While : Place → Expression → Statement → Statement
    Return : Place → Option Expression → Statement
    Break : Place → Statement
    Continue : Place → Statement
    Throw : Place → (exception : Named) → Option Expression → Statement
    Try : Place → Statement → Clauses → Statement

  -- A block: its statements and declarations, and the source positions of its braces.
  pub data Body : Type 0 where
    Braces : (start : Place) → Items → (end : Place) → Body

  pub data Items : Type 0 where
    NoItems : Items
    MoreItems : Item → Items → Items

  pub data Item : Type 0 where
    Execute : Statement → Item
    Local : WrittenType → Named → Option Expression → Item
    -- A lexical region with its handle, or an opened dynamic region with the key that opens it.
    Region : (region : Named) → (handle : Named) → (key : Option Named) → Item
    Alias : (region : Named) → WrittenType → (variable : Named) → (source : Named) → Item
    DynamicRegion : (region : Named) → (key : Named) → Item

  -- The clauses of a `catch`; only the last one may be the default clause.
  pub data Clauses : Type 0 where
    NoClauses : Clauses
    Default : Items → Clauses
    Case : (exception : Named) → (variable : Option Named) → Items → Clauses → Clauses

-- ---- declarations

-- A field of a struct, or a parameter of a function.
pub record Member : Type 0 where
  pub of_type : WrittenType
  pub name : Named

pub record Constructor : Type 0 where
  pub name : Named
  pub has_int : Bool

-- The initial value of a global variable, with the source position of its first token.
pub data GlobalValue : Type 0 where
  Positive : Place → ℕ → GlobalValue
  Negative : Place → ℕ → GlobalValue
  Byte : Place → ℕ → GlobalValue
  NullPointer : Place → GlobalValue

-- An outlives constraint: the first region outlives the second one.
pub record Constraint : Type 0 where
  pub longer : Named
  pub shorter : Named

pub data ParameterList : Type 0 where
  Void : ParameterList
  Listed : List Member → ParameterList

pub record Parameters : Type 0 where
  pub list : ParameterList
  -- The effect of a function (the regions that must be live at a call); `None` if it is omitted, which differs from an empty effect.
  pub effect : Option (List Named)
  pub constraints : List Constraint

pub data Declaration : Type 0 where
  StructType : Named → (regions : List Named) → (fields : List Member) → Declaration
  Exceptions : List Constructor → Declaration
  Global : WrittenType → Named → Option GlobalValue → Declaration
  -- A function definition; a `void` function has no result.
  Function : (result : Option WrittenType) → Named → Parameters → Body → Declaration

-- A program is the list of its declarations.

-- ---- the place of an expression: that of its first token

abbrev pub place_of : Expression → Place
place_of (Number p n) = p
place_of (Character p c) = p
place_of (Null p) = p
place_of (HeapRegion p) = p
place_of (UniqueRegion p) = p
place_of (Variable x) = x.place
place_of (Call f es) = f.place
place_of (Bracketed p e) = p
place_of (NumberOfElements p e) = p
place_of (LowByteOf p e) = p
place_of (FreeUnique p e) = p
place_of (FreeKey p k) = p
place_of (Chained e ps) = place_of e
place_of (Prefixed p o e) = p
place_of (New p i) = p
place_of (RegionNew p h i) = p
place_of (Binary e os) = place_of e
place_of (Assign a b) = place_of a
