-- This file defines the result of checking, without a fault, the values of a call of a plain signature. In a plain signature, each
-- region of a parameter is a region variable that occurs only once. The regions of the values that are passed to a plain signature only
-- have to be live.
use Rattle.std.specs.Prelude.{◌≡◌, true, false, not, ◌&&◌, nat_eq, List, [], ◌∷◌, length}
use Rattle.cyc_types.specs.declared.region.Region.{Region}
use Rattle.cyc_types.specs.declared.region.Region.TheVariants.{Heap, Unique}
use Rattle.cyc_types.specs.Types.{region_eq, Ty, Int, Char, Pointer, Handle, Key, Struct, ValueType, Void, Null, Value}
use Rattle.cyc_types.specs.TypedTrees.{Signature, type_of}
use Rattle.cyc_types.specs.TypedTrees as typed
use Rattle.cyc_types.specs.typing.Scopes.{Scope, is_live}
use Rattle.cyc_types.specs.typing.Tests.{mark_eq, is_pointer, is_non_null}
use Rattle.cyc_scope.specs.inside.Plain.{IsPlain}

-- Says that a region variable may have a given region: it is live and not the region of unique pointers.
pub record IsUsual (g : Scope) (s : Region) : Type 0 where
  pub other : region_eq s Unique ≡ false
  pub live : is_live g s ≡ true

abbrev pub AreUsual : Scope → List Region → Type 0
AreUsual g [] = Unit {0}
AreUsual g (s ∷ ss) = IsUsual g s × AreUsual g ss

-- Says that the second type equals the first, except for its regions.
abbrev pub IsAlike : Scope → Ty → Ty → Type 0
IsAlike g Int Int = Unit {0}
IsAlike g Char Char = Unit {0}
IsAlike g (Pointer k t r) (Pointer l u s) = (mark_eq l k ≡ true) × IsUsual g s × IsAlike g t u
IsAlike g (Handle r) (Handle s) = IsUsual g s
IsAlike g (Key r) (Key s) = IsUsual g s
IsAlike g (Struct n rs) (Struct m ss) = (nat_eq m n ≡ true) × (length ss ≡ length rs) × AreUsual g ss
IsAlike g t u = ⊥

-- Says that a value of the second type can be converted to the first, with any regions.
abbrev pub TakesType : Scope → Ty → Ty → Type 0
TakesType g Int Int = Unit {0}
TakesType g Int Char = Unit {0}
TakesType g Char Int = Unit {0}
TakesType g Char Char = Unit {0}
TakesType g (Pointer k t r) (Pointer l u s) = IsUsual g s × IsAlike g t u
TakesType g (Handle r) (Handle s) = IsUsual g s
TakesType g (Key r) (Key s) = IsUsual g s
TakesType g t u = ⊥

abbrev pub TakesValue : Scope → Ty → ValueType → Type 0
TakesValue g t Void = ⊥
TakesValue g t Null = (is_pointer t && not (is_non_null t)) ≡ true
TakesValue g t (Value u) = TakesType g t u

-- Says that there are as many values as parameters, and that each value can be converted to its parameter's type.
abbrev pub TakesAll : Scope → List Ty → List typed.Expression → Type 0
TakesAll g [] [] = Unit {0}
TakesAll g (t ∷ ts) (a ∷ as') = TakesValue g t (type_of a) × TakesAll g ts as'
TakesAll g ts as' = ⊥

-- Says that a call, with the given values, of a plain signature (each region of its parameters occurs only once) has no fault.
pub record IsTakenPlainly (g : Scope) (s : Signature) (as' : List typed.Expression) : Type 0 where
  pub plain : IsPlain s
  pub heap : is_live g Heap ≡ true
  pub taken : TakesAll g s.parameters as'
