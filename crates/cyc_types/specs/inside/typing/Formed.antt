-- The regions in the declared types of a program. The type of a local contains only regions declared before the local. The type of a global
-- contains no region variable. The type of a field contains only the region parameters of its struct. No type of a field contains a region
-- that is declared later. No field of a struct is a key. The choice of these conditions on declared types is this project's own choice.
use Rattle.std.specs.Prelude.{◌≡◌, ℕ, suc, ◌+◌, ◌<◌, false, List, [], ◌∷◌}
use Rattle.cyc_types.specs.declared.region.Region.{Region}
use Rattle.cyc_types.specs.declared.region.Region.TheVariants as regions
use Rattle.cyc_types.specs.Types.{Ty, Int, Char, Pointer, Handle, Key, Struct}
use Rattle.cyc_types.specs.Declarations.{declared_regions, item_regions}
use Rattle.cyc_types.specs.TypedTrees.{Statement, Block, If, While, Try, Items, NoItems, MoreItems, Execute, Declare, DeclareRegion, OpenRegion, DeclareAlias, DeclareKey, Clauses, NoClauses, Default, Case, StructType, GlobalVariable, Function, Program}
use Rattle.cyc_types.specs.typing.Tests.{is_key}

-- ---- types

abbrev pub AllOf : (Region → Type 0) → List Region → Type 0
AllOf P [] = Unit {0}
AllOf P (r ∷ rs) = P r × AllOf P rs

-- says that a predicate holds of all regions in a type
abbrev pub AllIn : (Region → Type 0) → Ty → Type 0
AllIn P Int = Unit {0}
AllIn P Char = Unit {0}
AllIn P (Pointer k t r) = AllIn P t × P r
AllIn P (Handle r) = P r
AllIn P (Key r) = P r
AllIn P (Struct n rs) = AllOf P rs

-- says that a region is not a variable, or is a variable with a number below n
abbrev pub IsKnown : ℕ → Region → Type 0
IsKnown n regions.Heap = Unit {0}
IsKnown n regions.Unique = Unit {0}
IsKnown n (regions.Variable m) = m < n

-- ---- statements; the number is that of the next region

abbrev mutual
  pub IsFormedStatement : ℕ → Statement → Type 0
  IsFormedStatement n (Block r js) = AreFormedItems (suc n) js
  IsFormedStatement n (If a s t) = IsFormedStatement n s × IsFormedStatement (n + declared_regions s) t
  IsFormedStatement n (While p a s) = IsFormedStatement n s
  IsFormedStatement n (Try s cs) = IsFormedStatement n s × AreFormedClauses (n + declared_regions s) cs
  IsFormedStatement n s = Unit {0}

  -- an alias has the type of the unique pointer that it shares, except for the alias's own region
  pub AreFormedItems : ℕ → Items → Type 0
  AreFormedItems n NoItems = Unit {0}
  AreFormedItems n (MoreItems (Execute s) js) = IsFormedStatement n s × AreFormedItems (n + declared_regions s) js
  AreFormedItems n (MoreItems (Declare l t v) js) = AllIn (IsKnown n) t × AreFormedItems n js
  AreFormedItems n (MoreItems (DeclareRegion r l) js) = AreFormedItems (suc n) js
  AreFormedItems n (MoreItems (OpenRegion r l p k) js) = AreFormedItems n js
  AreFormedItems n (MoreItems (DeclareAlias r l t p s) js) = AreFormedItems (suc n) js
  AreFormedItems n (MoreItems (DeclareKey r l) js) = AreFormedItems (suc n) js

  pub AreFormedClauses : ℕ → Clauses → Type 0
  AreFormedClauses n NoClauses = Unit {0}
  AreFormedClauses n (Default r js) = AreFormedItems (suc n) js
  AreFormedClauses n (Case e v r js cs) = AreFormedItems (suc n) js × AreFormedClauses (n + suc (item_regions js)) cs

-- ---- programs

abbrev pub AreFormedFunctions : List Function → Type 0
AreFormedFunctions [] = Unit {0}
AreFormedFunctions (h ∷ hs) = AreFormedItems (suc h.variables) h.body × AreFormedFunctions hs

abbrev pub AreFormedGlobals : List GlobalVariable → Type 0
AreFormedGlobals [] = Unit {0}
AreFormedGlobals (v ∷ vs) = AllIn (IsKnown 0) v.of_type × AreFormedGlobals vs

-- says that the field types of a struct contain no region variables except the struct's region parameters, and are not keys
abbrev pub AreFormedFields : (parameters : ℕ) → List Ty → Type 0
AreFormedFields n [] = Unit {0}
AreFormedFields n (t ∷ ts) = AllIn (IsKnown n) t × (is_key t ≡ false) × AreFormedFields n ts

abbrev pub AreFormedStructs : List StructType → Type 0
AreFormedStructs [] = Unit {0}
AreFormedStructs (s ∷ ss) = AreFormedFields s.parameters s.fields × AreFormedStructs ss

pub record IsFormedProgram (p : Program) : Type 0 where
  pub functions : AreFormedFunctions p.functions
  pub globals : AreFormedGlobals p.globals
  pub structs : AreFormedStructs p.structs
