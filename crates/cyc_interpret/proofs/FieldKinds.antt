-- Cells and the kinds of a struct's fields.
use Rattle.std.proofs.Common.{◌≡◌, ℕ, zero, suc, ◌<◌, ◌≤◌, Bool, false, List, [], ◌∷◌, map, length, drop, Option, Some, None, option_map, refl, ap, sym, ◌∙◌, arith}
use Rattle.cyc_types.specs.declared.typed.Kind.{Kind}
use Rattle.cyc_types.specs.declared.ty.Ty.{Ty as TyCode}
use Rattle.cyc_types.specs.TypeView.{view_ty}
use Rattle.cyc_meaning.specs.Parts.{is_target}
use Rattle.cyc_meaning.specs.Values.{Cell, kind_of, kinds_of, is_kind, are_kinds}
use Rattle.cyc_interpret.specs.declared.objects.Cell.{Cell as CellCode}
use Rattle.cyc_interpret.specs.WorldView.{view_cell}

abbrev pub fit : List CellCode → List TyCode → Bool
fit cells types = are_kinds (kinds_of (map view_cell cells)) (map kind_of (map view_ty types))

-- nothing is left past the end
drop_past : {A : Type 0} (xs : List A) (i : ℕ) → length xs ≤ i → drop i xs ≡ []
drop_past [] zero past = refl
drop_past [] (suc i) past = refl
drop_past (x ∷ xs) zero past = absurd (omega (arith, past))
drop_past (x ∷ xs) (suc i) past = drop_past xs i (omega (arith, past))

-- a cell that no field is left for
pub short_kinds : (cells : List CellCode) (types : List TyCode) (i : ℕ) → i < length cells → length types ≤ i → fit (drop i cells) (drop i types) ≡ false
short_kinds [] types i within past = absurd (omega (arith, within))
short_kinds (c ∷ cells) [] zero within past = refl
short_kinds (c ∷ cells) [] (suc i) within past = ap (λ (ts : List TyCode). fit (drop i cells) ts) (sym (drop_past [] i (omega arith))) ∙ short_kinds cells [] i (omega (arith, within)) (omega arith)
short_kinds (c ∷ cells) (t ∷ types) zero within past = absurd (omega (arith, past))
short_kinds (c ∷ cells) (t ∷ types) (suc i) within past = short_kinds cells types i (omega (arith, within)) (omega (arith, past))

-- a cell that is a target, by its kind alone
pub target_none : (kind : Kind) (offset : ℕ) (found : Option Cell) → None ≡ option_map (λ (c : Cell). c.kind) found → false ≡ is_target (Some kind) offset found
target_none kind offset None is = refl
target_none kind offset (Some c) is = absurd (let e : None ≡ Some c.kind = is in cc)

pub target_some : (kind other : Kind) (offset : ℕ) (found : Option Cell) → Some other ≡ option_map (λ (c : Cell). c.kind) found → is_kind other kind ≡ is_target (Some kind) offset found
target_some kind other offset None is = absurd (let e : Some other ≡ None = is in cc)
target_some kind other offset (Some c) is =
    let e : Some other ≡ Some c.kind = is in
    let same : other ≡ c.kind = cc in
    ap (λ (k : Kind). is_kind k kind) same
