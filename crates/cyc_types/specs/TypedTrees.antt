-- Typed trees as mathematical values, for the rules and all later definitions. In a typed tree, names are resolved to numbers, each
-- conversion is an explicit node, and parentheses are removed. A node stores its source position if a later pass may report a fault there.
--
-- The meaning of a typed tree depends neither on an environment of names nor on the types of operands. A typed tree has distinct nodes
-- for copying a variable, moving it, and reading a unique pointer that stays in its local (peek). A typed tree also has distinct nodes
-- for the kinds of an operator's operands. (The form of typed trees is this project's own choice.)
use Rattle.std.specs.Prelude.{ℕ, Bool, List, Option, None, Some}
use Rattle.cyc_syntax.specs.Symbols.{Place}
use Rattle.cyc_types.specs.declared.region.Region.{Region}
use Rattle.cyc_types.specs.declared.region.Region.TheVariants.{Heap}
use Rattle.cyc_types.specs.declared.typed.Kind.{Kind}
use Rattle.cyc_types.specs.declared.typed.Callee.{Callee}
use Rattle.cyc_types.specs.declared.typed.UnaryOperator.{UnaryOperator}
use Rattle.cyc_types.specs.declared.typed.UnaryOperator.TheVariants as unary
use Rattle.cyc_types.specs.declared.typed.Operator.{Operator}
use Rattle.cyc_types.specs.declared.typed.LogicalOperator.{LogicalOperator}
use Rattle.cyc_types.specs.declared.typed.PointerOperator.{PointerOperator}
use Rattle.cyc_types.specs.Types.{Ty, Int, Char, Handle, ValueType, Void, Value}
use Rattle.cyc_types.specs.Types as types

-- ---- expressions

-- a variable of a typed tree: a local or a global
pub data Lvalue : Type 0 where
  -- a local variable, with the source position of its name
  Local : Place → (number : ℕ) → Lvalue
  Global : (number : ℕ) → Lvalue

mutual
  pub data Expression : Type 0 where
    -- an integer or character constant
    Number : ℕ → Expression
    -- the constant `NULL`
    NullPointer : Expression
    -- the constant `heap_region`
    HeapRegion : Expression
    -- the counter variable of an array `for`, numbered by the number of enclosing `for`s; a counter is not assignable
    Counter : (level : ℕ) → Expression
    -- reads a variable and leaves its value in place
    Copy : Lvalue → Ty → Expression
    -- reads a local that is a unique pointer or a key; the read leaves the local empty
    Move : Place → (number : ℕ) → Ty → Expression
    -- reads a unique pointer in a local only to dereference or compare it; the local keeps the pointer
    Peek : Place → (number : ℕ) → Ty → Expression
    -- reads the memory cell that a pointer expression denotes
    Load : Dereference → Expression
    -- the address of a variable or of a memory cell, with the type of the resulting pointer
    AddressOf : Lvalue → Ty → Expression
    AddressOfCell : Dereference → Ty → Expression
    -- the operator `numelts`
    NumberOfElements : Expression → Expression
    -- the call `ufree`
    FreeUnique : Expression → Expression
    -- the call `free_ukey`
    FreeKey : Expression → Expression
    -- a function call, with the type of its result if the function returns one
    Call : Callee → Arguments → ValueType → Expression
    Unary : UnaryOperator → Expression → Expression
    -- an expression of several operands joined by left-associative operators (a chain), with the type of each intermediate result
    Binary : Expression → Operations → Ty → Expression
    -- An assignment to a variable or to a memory cell, with the type of the assignment's value. An assignment of a unique pointer or
    -- a key has no value.
    Assign : Lvalue → Converted → ValueType → Expression
    Store : Dereference → Converted → ValueType → Expression
    -- `new` or `rnew`: allocates a new object; the node stores the type of the pointer to the object
    New : Placement → Initial → Ty → Expression

  -- A memory cell reached through a pointer, with the type of the value stored in the cell.
  pub data Dereference : Type 0 where
    -- `*e`, where e is a pointer with the given representation kind
    Target : (pointer : Kind) → Expression → Ty → Dereference
    -- the struct field `e->f`, with the index of the struct and the index of the field
    Member : (pointer : Kind) → Expression → (struct field : ℕ) → Ty → Dereference
    -- the element `e[i]`
    Element : Expression → (index : Expression) → Ty → Dereference

  -- the region in which a new object is allocated
  pub data Placement : Type 0 where
    -- the heap region, chosen by `new`
    OnHeap : Placement
    -- the unique region, chosen by `rnew(unique_region)`
    AsUnique : Placement
    -- the region of a handle, chosen by `rnew(e)`
    ByHandle : Expression → Placement

  -- the initial values in a new object
  pub data Initial : Type 0 where
    -- an initial value that is a single value of the given representation kind (int, char, pointer, ..)
    Plain : Kind → Expression → Initial
    -- the initial values of all fields of a new struct, in order
    Fields : Arguments → Initial
    -- `{for i < length : element}`: the loop counter of the given nesting level, the elements' representation kind, and the source
    -- position of `for`
    Array : Place → (level : ℕ) → (length : Expression) → Kind → (element : Expression) → Initial

  -- an expression whose value is converted from one representation kind (int, char, pointer, ..) to another after its evaluation
  pub data Converted : Type 0 where
    Convert : (from : Kind) → (to : Kind) → Expression → Converted

  pub data Arguments : Type 0 where
    NoArguments : Arguments
    MoreArguments : Converted → Arguments → Arguments

  -- the left-associative operators after the first operand of an expression, each with its right operand
  pub data Operations : Type 0 where
    NoOperations : Operations
    -- an operation that computes with two ints
    ThenCompute : Operator → Expression → Operations → Operations
    -- `&&` or `||`; the left operand may decide the result without the right operand
    ThenTest : LogicalOperator → Expression → Operations → Operations
    -- an operation whose left operand is a pointer or `NULL`
    ThenPointer : PointerOperator → Expression → Operations → Operations
    -- an operation whose left operand is a unique pointer that stays in its local; the local must not change while the
    -- right operand is evaluated
    ThenPointerPeek : (number : ℕ) → PointerOperator → Expression → Operations → Operations

abbrev pub type_of_place : Dereference → Ty
type_of_place (Target k a t) = t
type_of_place (Member k a s f t) = t
type_of_place (Element a i t) = t

-- returns the result type of a unary operator
abbrev pub unary_type : UnaryOperator → Ty
unary_type unary.LowByte = Char
unary_type o = Int

abbrev pub type_of : Expression → ValueType
type_of (Number n) = Value Int
type_of NullPointer = types.Null
type_of HeapRegion = Value (Handle Heap)
type_of (Counter l) = Value Int
type_of (Copy l t) = Value t
type_of (Move p n t) = Value t
type_of (Peek p n t) = Value t
type_of (Load d) = Value (type_of_place d)
type_of (AddressOf l t) = Value t
type_of (AddressOfCell d t) = Value t
type_of (NumberOfElements a) = Value Int
type_of (FreeUnique a) = Void
type_of (FreeKey a) = Void
type_of (Call f cs t) = t
type_of (Unary o a) = Value (unary_type o)
type_of (Binary a os t) = Value t
type_of (Assign l c t) = t
type_of (Store d c t) = t
type_of (New w i t) = Value t

-- the local from which an access to a memory cell reads its unique pointer without emptying the local, or `None`
abbrev pub peeked : Dereference → Option ℕ
peeked (Target k (Peek p n u) t) = Some n
peeked (Member k (Peek p n u) s f t) = Some n
peeked (Element (Peek p n u) i t) = Some n
peeked d = None

-- ---- statements

-- the left or right operand of a swap: a variable with its type, or a memory cell reached through a pointer
pub data Side : Type 0 where
  VariableSide : Lvalue → Ty → Side
  CellSide : Dereference → Side

mutual
  pub data Statement : Type 0 where
    -- a block, with the index of its region among the function's regions; a label is not stored
    Block : (region : ℕ) → Items → Statement
    Empty : Statement
    Evaluate : Expression → Statement
    Swap : (left right : Side) → Statement
    -- an `if`; if no `else` is written, the second statement is empty
    If : Expression → Statement → Statement → Statement
    -- a loop, with the source position of `while`
    While : Place → Expression → Statement → Statement
    Return : Option Converted → Statement
    Break : Statement
    Continue : Statement
    -- throws the exception with this number, and an int if the exception has one
    Throw : (tag : ℕ) → Option Expression → Statement
    Try : Statement → Clauses → Statement

  pub data Items : Type 0 where
    NoItems : Items
    MoreItems : Item → Items → Items

  pub data Item : Type 0 where
    Execute : Statement → Item
    -- declares the local with this number
    Declare : (number : ℕ) → Ty → Option Converted → Item
    -- Declares a lexical region, or opens the dynamic region whose key a local holds. The opened region is live to the end of the
    -- block; the local with index `number` is its handle.
    DeclareRegion : (region number : ℕ) → Item
    OpenRegion : (region number : ℕ) → Place → (key : ℕ) → Item
    -- declares an alias: a local that shares another local's unique object to the end of the block
    DeclareAlias : (region number : ℕ) → Ty → Place → (source : ℕ) → Item
    -- declares a dynamic region, and the local that holds its key
    DeclareKey : (region number : ℕ) → Item

  -- The catch clauses of a `try`, each with the region of its declarations and statements. A default clause is always the last.
  pub data Clauses : Type 0 where
    NoClauses : Clauses
    Default : (region : ℕ) → Items → Clauses
    -- a `catch` clause for the exception with this number, with the local that receives the exception's int, if any
    Case : (tag : ℕ) → (number : Option ℕ) → (region : ℕ) → Items → Clauses → Clauses

-- ---- programs

-- the initial value of a global: a word of 32 bits, or the null pointer
pub data Constant : Type 0 where
  Word : ℕ → Constant
  Null : Constant

pub record GlobalVariable : Type 0 where
  pub name : ℕ
  pub of_type : Ty
  pub value : Constant

pub record StructType : Type 0 where
  -- the number of region parameters of a struct
  pub parameters : ℕ
  -- the types of the struct's fields, in order; in these types, region parameter n is region variable n
  pub fields : List Ty

-- the type of a function and its requirements on callers, as its callers know them
pub record Signature : Type 0 where
  -- The number of regions in the types of a function's parameters: named ones, and one for each omitted region. In a signature's
  -- types, these regions are the region variables from 1 on.
  pub variables : ℕ
  pub parameters : List Ty
  -- the result type of a function; `None` for `void`
  pub result : Option Ty
  -- the regions that must be live at a call, and the pairs of regions of which the first must outlive the second
  pub effect : List Region
  pub constraints : List (Region × Region)

-- The locals of a function are numbered from 0: first its parameters, then the declarations of its body, in order. The regions of a
-- function are numbered in three groups. The first region of a function is its own region, which contains its parameters and the outermost
-- variables of the body. The next region numbers of a function are those of the regions that its parameters name. The last region numbers
-- of a function are those of the regions that its body declares, in order. The regions that a body declares are those of blocks and
-- clauses, lexical regions, alias regions and dynamic regions. Opening a dynamic region declares no further region.
pub record Function : Type 0 where
  pub name : ℕ
  -- the source position of the function's name
  pub place : Place
  pub parameters : List Ty
  -- the result type of the function; `None` for `void`
  pub result : Option Ty
  -- the number of regions that the function's parameters name
  pub variables : ℕ
  -- the regions that must be live at a call, and the pairs of regions of which the first must outlive the second
  pub effect : List Region
  pub constraints : List (Region × Region)
  -- the types of the locals that the function's body declares
  pub locals : List Ty
  -- the number that identifies the function's own region
  pub region : ℕ
  -- the total number of regions of the function
  pub regions : ℕ
  pub body : Items
  -- the source position of the function's closing brace
  pub end : Place

-- the number that identifies the first exception that a program declares; lower numbers denote built-in exceptions
abbrev pub first_exception : ℕ
first_exception = 5

-- a typed program; a struct, global or function is identified by its index in the program's list of structs, globals or functions
pub record Program : Type 0 where
  pub structs : List StructType
  -- for each exception that the program declares, true if it carries an int; the first has the number `first_exception`
  pub exceptions : List Bool
  pub globals : List GlobalVariable
  pub functions : List Function
  -- the number that identifies the function named `main`
  pub main : ℕ
