-- This file defines types at run time. Regions in trees have a meaning only in their function. States of runs use lifetimes instead:
-- that of a region, identified by its number, or that of a unique object. A type of a tree becomes a run-time type when each of its
-- regions is replaced by the lifetime that it denotes. (One language of types for trees and for runs is this project's own choice.)
use Rattle.std.specs.Prelude.{◌≢◌, ℕ, Bool, false, List, [], map, Option, Some, None}
use Rattle.cyc_syntax.specs.declared.tree.PointerKind.{PointerKind}
use Rattle.cyc_types.specs.declared.region.Region.{Region}
use Rattle.cyc_types.specs.declared.region.Region.TheVariants as regions
use Rattle.cyc_types.specs.declared.typed.Kind.{Kind}
use Rattle.cyc_types.specs.declared.typed.Kind.TheVariants as kinds
use Rattle.cyc_types.specs.Types.{Ty, ValueType}
use Rattle.cyc_types.specs.Types as types
pub use Rattle.cyc_types.specs.inside.typing.Formed.{AllOf, AllIn, IsKnown}
use Rattle.cyc_meaning.specs.Values.{kind_of_mark}

-- a linear resource: the key of a dynamic region, or the pointer to a unique object
pub data Thing : Type 0 where
  KeyOf : (region : ℕ) → Thing
  PointerTo : (object : ℕ) → Thing

-- The lifetime of an object: it lasts to the end of a region, or until the object is freed. The lifetime of a scoped region lists the
-- regions that were open around its scope, innermost first, and the resources that were lent when the scope began. All regions and lent
-- resources that a scoped region's lifetime lists last at least as long as the scoped region.
pub data Life : Type 0 where
  OfRegion : (region : ℕ) → (around : List ℕ) → (lent : Thing → Bool) → Life
  -- The lifetime of a unique object: it lasts until the object is freed through its unique pointer.
  Owned : Life
  -- A lifetime that the end of no scope ends: that of a dynamic region, or of a unique object while it is lent.
  Kept : Thing → Life

pub data RunTy : Type 0 where
  Int : RunTy
  Char : RunTy
  Pointer : PointerKind → RunTy → Life → RunTy
  Handle : Life → RunTy
  Key : Life → RunTy
  Struct : ℕ → List Life → RunTy

-- the run-time type of an expression's value
pub data RunValue : Type 0 where
  -- no usable value
  Void : RunValue
  Null : RunValue
  Value : RunTy → RunValue
  -- A value of this type that a peek (a read that does not move) reads from the variable with this object; the variable keeps the value.
  Seen : (object : ℕ) → RunTy → RunValue
  -- A pointer into the object to which a peeked local points or, without a peek, into the object of an operand on the stack.
  Into : (peek : Option ℕ) → RunTy → RunValue

-- the lifetimes that the regions of a function denote
abbrev pub Lives : Type 0
Lives = Region → Life

abbrev pub at : Lives → Ty → RunTy
at m types.Int = Int
at m types.Char = Char
at m (types.Pointer k t r) = Pointer k (at m t) (m r)
at m (types.Handle r) = Handle (m r)
at m (types.Key r) = Key (m r)
at m (types.Struct n rs) = Struct n (map m rs)

abbrev pub value_at : Lives → ValueType → RunValue
value_at m types.Void = Void
value_at m types.Null = Null
value_at m (types.Value t) = Value (at m t)

-- The run-time type of a value; if a local is given, the value was reached through a peek of this local (a read without a move).
abbrev pub looked : Option ℕ → RunValue → RunValue
looked None r = r
looked (Some n) (Value t) = Into (Some n) t
looked (Some n) r = r

-- The representation kind (int, char, pointer, ..) of a cell whose run-time type is given.
abbrev pub kind_at : RunTy → Kind
kind_at Int = kinds.Int
kind_at Char = kinds.Char
kind_at (Pointer k t l) = kind_of_mark k
kind_at (Handle l) = kinds.Handle
kind_at (Key l) = kinds.Key
kind_at (Struct n ls) = kinds.Int

-- ---- regions

-- the lifetime of the heap, which never ends
abbrev pub heap_life : Life
heap_life = OfRegion 0 [] (λ a. false)

-- The lifetimes of all regions, given the lifetimes of the region variables.
abbrev pub lives_of : (ℕ → Life) → Lives
lives_of m regions.Heap = heap_life
lives_of m regions.Unique = Owned
lives_of m (regions.Variable n) = m n

-- The map from regions to lifetimes that turns the type of a global into a run-time type. The map sends each
-- region variable to the heap's lifetime; a global's type contains no region variable.
abbrev pub as_heap : Lives
as_heap r = lives_of (λ n. heap_life) r

-- ---- the regions that a type mentions

-- Says that a predicate holds of all regions in the type of a value.
abbrev pub AllInValue : (Region → Type 0) → ValueType → Type 0
AllInValue P types.Void = Unit {0}
AllInValue P types.Null = Unit {0}
AllInValue P (types.Value t) = AllIn P t

-- Says that a region is not the region variable with index n.
abbrev pub IsOther : ℕ → Region → Type 0
IsOther n regions.Heap = Unit {0}
IsOther n regions.Unique = Unit {0}
IsOther n (regions.Variable m) = m ≢ n
