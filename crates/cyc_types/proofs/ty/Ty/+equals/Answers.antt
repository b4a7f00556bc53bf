use Rattle.std.proofs.Common.{◌≡◌, ℕ, Bool, true, List, ap, ◌∙◌}
use Rattle.std.specs.Bool.{Decides}
use Rattle.std.proofs.lemmas.Slice.Eq.{slice_eq-Decides}
use Rattle.cyc_types.specs.declared.region.Region.{Region}
use Rattle.cyc_types.specs.Types.{Ty, Struct}
use Rattle.cyc_types.specs.TypeView.{view_ty}
use Rattle.cyc_types.proofs.RegionLemmas.{derived-Decides}
use Rattle.cyc_types.proofs.ty.Ty.+equals.Goals as goal

-- two struct types with the same struct number are equal exactly if their region arguments are equal
structs_equal : (a b : Ty) (n m : ℕ) (xs ys us vs : List Region) (r : Bool) → a ≡ Struct n xs → b ≡ Struct m ys → us ≡ xs → vs ≡ ys → n ≡ m →
    Decides r (us ≡ vs) → (r ≡ true → a ≡ b) × (a ≡ b → r ≡ true)
structs_equal a b n m xs ys us vs r p q u v e d = (λ h. let k = d.0 h in cc, λ h. d.1 (cc))

pub returns-then-number-other_number : goal.returns-then-number-other_number
returns-then-number-other_number t c =
    let x = c.as_slice.result.now in
    let y = c.as_slice-then-number-other_number.result.now in
    structs_equal (view_ty c.args.self.now) (view_ty c.args.other.now) c.in-Struct-Struct.number c.in-Struct-Struct.other_number
    c.in-Struct-Struct.regions.value.items c.in-Struct-Struct.other_regions.value.items x y c.eq-then-number-other_number.result
    (ap view_ty c.in-Struct-Struct.is-0) (ap view_ty c.in-Struct-Struct.is-1)
    (c.as_slice.ensures ∙ ap (λ v. v.items) c.deref-then-number-other_number.ensures)
    (c.as_slice-then-number-other_number.ensures ∙ ap (λ v. v.items) c.deref-then-number-other_number-2.ensures)
    c.if-number-other_number.true (slice_eq-Decides derived-Decides x y c.eq-then-number-other_number.result c.eq-then-number-other_number.ensures)
