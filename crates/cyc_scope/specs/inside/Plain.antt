-- Plain function signatures: a call of a function with a plain signature must satisfy the fewest requirements, since it may pass
-- arguments with any regions.
use Rattle.std.specs.Prelude.{◌≡◌, ◌≤◌, ℕ, suc, List, [], ◌∷◌, ◌++◌, option_map}
use Rattle.cyc_types.specs.declared.region.Region.{Region}
use Rattle.cyc_types.specs.declared.region.Region.TheVariants.{Heap, Unique, Variable}
use Rattle.cyc_types.specs.Types.{Ty, Pointer, Handle, Key, Struct, substituted_ty}
use Rattle.cyc_types.specs.TypedTrees.{Signature}
use Rattle.cyc_types.specs.typing.Scopes.{Meaning, Routine}

-- lists the regions of a type; for a pointer, the regions of its target come before its own
abbrev pub regions_in : Ty → List Region
regions_in (Pointer k t r) = regions_in t ++ r ∷ []
regions_in (Handle r) = r ∷ []
regions_in (Key r) = r ∷ []
regions_in (Struct n rs) = rs
regions_in t = []

abbrev pub all_regions : List Ty → List Region
all_regions [] = []
all_regions (t ∷ ts) = regions_in t ++ all_regions ts

-- says that the regions of a list are variables with increasing numbers, from `low` on and below `high`
abbrev pub Ascend : ℕ → List Region → ℕ → Type 0
Ascend low [] high = low ≤ high
Ascend low (Variable n ∷ rs) high = (low ≤ n) × Ascend (suc n) rs high
Ascend low (Heap ∷ rs) high = ⊥
Ascend low (Unique ∷ rs) high = ⊥

-- says that each region of a list is a variable with a number of at most `count`
abbrev pub AreVariables : ℕ → List Region → Type 0
AreVariables count [] = Unit {0}
AreVariables count (Variable n ∷ rs) = (n ≤ count) × AreVariables count rs
AreVariables count (Heap ∷ rs) = ⊥
AreVariables count (Unique ∷ rs) = ⊥

-- Says that a function signature is plain. Each region of a parameter is a variable that occurs only once. The effect of a plain
-- signature consists of region variables. A plain signature has no outlives constraints, and its result type mentions no region
-- that a call could replace.
pub record IsPlain (s : Signature) : Type 0 where
  pub ascend : Ascend 1 (all_regions s.parameters) (suc s.variables)
  pub effect : AreVariables s.variables s.effect
  pub constraints : s.constraints ≡ []
  pub result : (m : List Region) → option_map (substituted_ty m) s.result ≡ s.result

-- says that a name denotes a function with a plain signature (each region of its parameters occurs only once)
abbrev pub IsPlainRoutine : Meaning → Type 0
IsPlainRoutine (Routine f s) = IsPlain s
IsPlainRoutine m = ⊥
