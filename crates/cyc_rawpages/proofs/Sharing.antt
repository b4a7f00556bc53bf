-- A shared reference to a list of memory cells exists if there is a shared reference to the word in each cell that contains one.
-- The proof assumes the program logic `Logic`.
use Rattle.std.specs.Prelude.{ℕ, ◌+◌, List, [], ◌∷◌, Option, Some, None}
use seplogic.Ra.Ura.{Ura}
use base.Fml.{Lft, ftrue, ffalse}
use types.Logic.{Logic}
use contract.BorrowLft.{⊑_static}
use denote.Builtin.{u32}
use denote.RawPtr.{Ptr, block_ptr, null_ptr}
use denote.Sharing.{ShrLaws, said}
use denote.SharingLaws.{beside_shr_laws, nothing_shr_laws, said_shr_laws}
use denote.Plain.{uint_row_laws}
use denote.Shares.{Shares-less}
use denote.Param.Shared.{copy_shared}
use denote.Struct.Field.{u32-field}
use denote.Struct.Laws.{u32-copy}
use denote.Struct.Lending.{Lends, Lends-both, Lends-nothing, Lends-false}
use mir.Syntax.{w32}
use Rattle.cyc_rawpages.specs.inside.Ownership.{place, places, places_at, place_lent, places_lent, lent_at}

place_lent_laws : (b o : ℕ) (c : Option ℕ) → ShrLaws (place_lent b o c)
place_lent_laws b o (Some w) = uint_row_laws w32 w b o
place_lent_laws b o None = nothing_shr_laws

places_lent_laws : (b o : ℕ) (cs : List (Option ℕ)) → ShrLaws (places_lent b o cs)
places_lent_laws b o [] = nothing_shr_laws
places_lent_laws b o (c ∷ cs) = beside_shr_laws _ _ (place_lent_laws b o c) (places_lent_laws b (o + 4) cs)

pub lent_at_laws : (p : Ptr) (cs : List (Option ℕ)) → ShrLaws (lent_at p cs)
lent_at_laws (block_ptr b o) cs = places_lent_laws b o cs
lent_at_laws null_ptr cs = said_shr_laws ffalse tt

module _ {M : Type 1} {𝓤 : Ura M} (𝓛 : Logic 𝓤) (l : Lft) where
  Lends-place : (b o : ℕ) (c : Option ℕ) → Lends 𝓛 (place b o c) (place_lent b o c) l
  Lends-place b o (Some w) = λ κ ts. Shares-less 𝓛 u32 [] l (⊑_static l) ((copy_shared u32-field u32-copy).shares M 𝓤 𝓛) w κ ts b o
  Lends-place b o None = Lends-nothing 𝓛 (place b o None) l

  Lends-places : (b o : ℕ) (cs : List (Option ℕ)) → Lends 𝓛 (places b o cs) (places_lent b o cs) l
  Lends-places b o [] = Lends-nothing 𝓛 ftrue l
  Lends-places b o (c ∷ cs) = Lends-both 𝓛 (place b o c) (places b (o + 4) cs) (place_lent b o c) (places_lent b (o + 4) cs) l (Lends-place b o c) (Lends-places b (o + 4) cs)

  pub Lends-at : (p : Ptr) (cs : List (Option ℕ)) → Lends 𝓛 (places_at p cs) (lent_at p cs) l
  Lends-at (block_ptr b o) cs = Lends-places b o cs
  Lends-at null_ptr cs = Lends-false 𝓛 (said ffalse) l
