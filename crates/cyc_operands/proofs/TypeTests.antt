-- The equality of types that the specification defines as a Boolean test agrees with the equality that the checker's code computes.
use Rattle.std.proofs.Common.{◌≡◌, Bool, true, ◌&&◌, nat_eq, IsTrue, ◌↔◌, List, [], ◌∷◌, refl, subst}
use Rattle.std.proofs.lemmas.Bool.{eq-eqb, and_from}
use Rattle.cyc_words.proofs.Booleans.{same_tests}
use Rattle.cyc_syntax.specs.declared.tree.PointerKind.{PointerKind}
use Rattle.cyc_syntax.specs.declared.tree.PointerKind.TheVariants.{Nullable, NonNull, Fat}
use Rattle.cyc_types.specs.declared.region.Region.{Region}
use Rattle.cyc_types.specs.Types.{region_eq, Ty, Int, Char, Pointer, Handle, Key, Struct}
use Rattle.cyc_types.specs.typing.Tests.{mark_eq, regions_eq, ty_eq}
use Rattle.cyc_types.proofs.RegionLemmas.{region_eq-refl}
use Rattle.cyc_types.proofs.typing.TestLemmas.{ty_eq-true}

mark_eq-refl : (k : PointerKind) → mark_eq k k ≡ true
mark_eq-refl Nullable = refl
mark_eq-refl NonNull = refl
mark_eq-refl Fat = refl

regions_eq-refl : (rs : List Region) → regions_eq rs rs ≡ true
regions_eq-refl [] = refl
regions_eq-refl (r ∷ rs) = and_from (region_eq r r) (regions_eq rs rs) (region_eq-refl r) (regions_eq-refl rs)

ty_eq-refl : (t : Ty) → ty_eq t t ≡ true
ty_eq-refl Int = refl
ty_eq-refl Char = refl
ty_eq-refl (Pointer k t r) = and_from (mark_eq k k) (ty_eq t t && region_eq r r) (mark_eq-refl k) (and_from (ty_eq t t) (region_eq r r) (ty_eq-refl t) (region_eq-refl r))
ty_eq-refl (Handle r) = region_eq-refl r
ty_eq-refl (Key r) = region_eq-refl r
ty_eq-refl (Struct n rs) = and_from (nat_eq n n) (regions_eq rs rs) (eq-eqb n n refl) (regions_eq-refl rs)

-- If the checker's code decides the equality of two types correctly, its result equals that of the specified test.
pub same_types : (t u : Ty) (b : Bool) → IsTrue b ↔ (t ≡ u) → b ≡ ty_eq t u
same_types t u b d = same_tests b (ty_eq t u) (λ h. subst (λ z. ty_eq t z ≡ true) (d.0 h) (ty_eq-refl t)) (λ h. d.1 (ty_eq-true t u h))
