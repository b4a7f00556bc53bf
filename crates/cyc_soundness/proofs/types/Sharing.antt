-- This file is about linear and shared values: it determines for which types the values are linear resources (keys or unique pointers).
use Rattle.std.proofs.Common.{◌≡◌, ◌≢◌, ℕ, true, false, List, refl, subst}
use Rattle.cyc_syntax.specs.declared.tree.PointerKind.{PointerKind}
use Rattle.cyc_types.specs.declared.region.Region.{Region}
use Rattle.cyc_types.specs.declared.region.Region.TheVariants as regions
use Rattle.cyc_types.specs.Outlives.{RegionContext, OutlivesIn, itself, given, through, IsGiven}
use Rattle.cyc_types.specs.Types.{Ty}
use Rattle.cyc_types.specs.Types as types
use Rattle.cyc_types.specs.typing.Tests.{is_key, is_moved, is_unique}
use Rattle.cyc_soundness.specs.inside.Lives.{Life, OfRegion, Owned, Kept, heap_life, RunTy, Pointer, Lives, at}
use Rattle.cyc_soundness.specs.inside.Worlds.{Typing, IsKnownLife, IsKeyless, IsPlain, AtStart}
use Rattle.cyc_soundness.specs.inside.Frames.{InScope, AreVariables, lives_in, life_named, read, Stand}
use Rattle.cyc_soundness.specs.inside.Awaited.{KeepsUnique, IsCommonLife, IsByType}
use Rattle.cyc_soundness.proofs.types.RegionLemmas.{name_known}

-- ---- lifetimes

pub known_common : (g : Typing) (l : Life) → IsKnownLife g l → IsCommonLife l
known_common g (OfRegion number ns us) known = tt
known_common g (Kept region) known = tt
known_common g Owned known = absurd known

pub never_owned : {A : Type 0} (l : Life) → IsCommonLife l → l ≡ Owned → A
never_owned l common same = absurd (subst (λ z. IsCommonLife z) same common)

-- A pointer to the first cell of an object points to the object's start.
pub at_start : (l : Life) → AtStart l 0 0
at_start (OfRegion number ns us) = tt
at_start (Kept region) = tt
at_start Owned = (refl, refl)

module _ (g : Typing) (bs : List InScope) (variables : AreVariables g bs) where
  name_common : (n : ℕ) → IsCommonLife (life_named bs n)
  name_common n = known_common g (life_named bs n) (name_known g bs n variables)

  pub region_common : (r : Region) → r ≢ regions.Unique → IsCommonLife (lives_in bs r)
  region_common regions.Heap plain = tt
  region_common regions.Unique plain = absurd (plain refl)
  region_common (regions.Variable n) plain = name_common n

  -- Only the unique region denotes the lifetime of a unique object.
  unique_given : (c : RegionContext) → ((a : Region) → IsGiven c a regions.Unique → ⊥) → (a b : Region) → OutlivesIn c a b → lives_in bs b ≡ Owned → lives_in bs a ≡ Owned
  unique_given c plain a b (itself _) same = same
  unique_given c plain a regions.Heap (given _ _ is) same = let k : heap_life ≡ Owned = same in absurd (cc)
  unique_given c plain a regions.Unique (given _ _ is) same = absurd (plain a is)
  unique_given c plain a (regions.Variable n) (given _ _ is) same = never_owned (life_named bs n) (name_common n) same
  unique_given c plain a d (through _ b _ one two) same = unique_given c plain a b one (unique_given c plain b d two same)

  pub keeps_by : (c : RegionContext) → Stand c bs → KeepsUnique c (lives_in bs)
  keeps_by c stand a b outlives same = unique_given c stand.plain a b outlives same

  -- ---- types

  common_plain : (k : PointerKind) (t : RunTy) (l : Life) → IsCommonLife l → IsPlain (Pointer k t l)
  common_plain k t (OfRegion number ns us) common = tt
  common_plain k t (Kept region) common = tt
  common_plain k t Owned common = absurd common

  -- A value that is copied is not a linear resource.
  pub plain_read : (t : Ty) → is_moved t ≡ false → IsPlain (read bs t)
  plain_read types.Int plain = tt
  plain_read types.Char plain = tt
  plain_read (types.Pointer k t regions.Heap) plain = tt
  plain_read (types.Pointer k t regions.Unique) plain = absurd (let z : true ≡ false = plain in cc)
  plain_read (types.Pointer k t (regions.Variable n)) plain = common_plain k (read bs t) (life_named bs n) (name_common n)
  plain_read (types.Handle r) plain = tt
  plain_read (types.Key r) plain = absurd (let z : true ≡ false = plain in cc)
  plain_read (types.Struct n rs) plain = tt

  -- A type that is not a unique pointer type determines alone which resources (keys or unique pointers) its values represent.
  pub unique_by_type : (t : Ty) → is_unique t ≡ false → IsByType (read bs t)
  unique_by_type types.Int plain = tt
  unique_by_type types.Char plain = tt
  unique_by_type (types.Pointer k t regions.Heap) plain = tt
  unique_by_type (types.Pointer k t regions.Unique) plain = absurd (let z : true ≡ false = plain in cc)
  unique_by_type (types.Pointer k t (regions.Variable n)) plain = name_common n
  unique_by_type (types.Handle r) plain = tt
  unique_by_type (types.Key r) plain = tt
  unique_by_type (types.Struct n rs) plain = tt

-- A type of a tree that is not a key type becomes a run-time type that is not a key type.
pub plain_keyless : (n : Lives) (t : Ty) → is_key t ≡ false → IsKeyless (at n t)
plain_keyless n types.Int plain = tt
plain_keyless n types.Char plain = tt
plain_keyless n (types.Pointer k t r) plain = tt
plain_keyless n (types.Handle r) plain = tt
plain_keyless n (types.Key r) plain = absurd (let k : true ≡ false = plain in cc)
plain_keyless n (types.Struct s rs) plain = tt
