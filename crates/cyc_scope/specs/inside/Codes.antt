-- An encoding of types as numbers that lets a proof distinguish scopes. The encoding stores the base type, which precedes the pointer signs
-- (`*`, `@` or `?`), and the pointer signs.
use Rattle.std.specs.Prelude.{◌≡◌, ◌⊎◌, ℕ, zero, suc, List, [], ◌∷◌, refl}
use Rattle.std.proofs.Common.{ap}
use Rattle.std.specs.Coded.{Coded, code_by, coded_ℕ, coded_list, coded×, coded⊎}
use mathlib.Core.Logic.{inl, inr}
use Rattle.cyc_syntax.specs.declared.tree.PointerKind.{PointerKind}
use Rattle.cyc_syntax.specs.contracts.tree.PointerKind as mark
use Rattle.cyc_types.specs.declared.region.Region.{Region}
use Rattle.cyc_types.specs.contracts.region.Region as region
use Rattle.cyc_types.specs.Types.{Ty, Int, Char, Pointer, Handle, Key, Struct}

abbrev pub Base : Type 0
Base = ℕ ⊎ (Region ⊎ (Region ⊎ (ℕ × List Region)))

abbrev base_of : Ty → Base
base_of Int = inl 0
base_of Char = inl 1
base_of (Pointer k t r) = base_of t
base_of (Handle r) = inr (inl r)
base_of (Key r) = inr (inr (inl r))
base_of (Struct n rs) = inr (inr (inr (n, rs)))

abbrev marks_of : Ty → List (PointerKind × Region)
marks_of (Pointer k t r) = (k, r) ∷ marks_of t
marks_of t = []

abbrev of_base : Base → Ty
of_base (inl zero) = Int
of_base (inl (suc n)) = Char
of_base (inr (inl r)) = Handle r
of_base (inr (inr (inl r))) = Key r
of_base (inr (inr (inr s))) = Struct s.0 s.1

abbrev with_marks : List (PointerKind × Region) → Base → Ty
with_marks [] b = of_base b
with_marks (m ∷ ms) b = Pointer m.0 (with_marks ms b) m.1

pub marked : (t : Ty) → with_marks (marks_of t) (base_of t) ≡ t
marked Int = refl
marked Char = refl
marked (Pointer k t r) = ap (λ u. Pointer k u r) (marked t)
marked (Handle r) = refl
marked (Key r) = refl
marked (Struct n rs) = refl

abbrev base_code : Coded Base
base_code = coded⊎ coded_ℕ (coded⊎ region.the_row.coded (coded⊎ region.the_row.coded (coded× coded_ℕ (coded_list region.the_row.coded))))

abbrev pub ty_code : Coded Ty
ty_code =
    code_by (List (PointerKind × Region) × Base) (coded× (coded_list (coded× mark.the_row.coded region.the_row.coded)) base_code)
    (λ t. (marks_of t, base_of t)) (λ p. with_marks p.0 p.1) marked
