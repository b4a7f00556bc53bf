-- Lemmas about the loops over the pointer signs (`*`, `@`, `?`) of a type as written in the source.
use Rattle.std.proofs.Common.{◌≡◌, ℕ, ◌+◌, ◌-◌, ◌<◌, List, [], ◌∷◌, length, map, drop, refl, sym, ap, ◌∙◌, arith}
use Rattle.std.proofs.lemmas.List.{length-drop}
use Rattle.cyc_syntax.specs.declared.tree.Pointer.{Pointer as PointerCode}
use Rattle.cyc_syntax.specs.inside.TreeView.{view_pointer}
use Rattle.cyc_types.specs.declared.region.Region.{Region}
use Rattle.cyc_types.specs.Types.{Ty}
use Rattle.cyc_types.specs.Types as types
use Rattle.cyc_types.specs.typing.Scopes.{RegionName}
use Rattle.cyc_types.specs.typing.Formation.{region_or, left_out_at, pointers_written}
use Rattle.cyc_types.specs.inside.WrittenMarks.{left_out_by}

-- says that wrapping the type `t` in the pointer signs (`*`, `@`, `?`) from index i of the list on gives the type `whole`
abbrev pub MarksLeft : List RegionName → Region → List PointerCode → (i : ℕ) → Ty → Ty → Type 0
MarksLeft names outermost ms i t whole = pointers_written names outermost t (map view_pointer (drop i ms)) ≡ whole

-- the default region for an omitted region annotation depends only on the number of pointer signs (`*`, `@`, `?`) after it
left_out : (outermost : Region) (ms : List PointerCode) → left_out_at outermost (map view_pointer ms) ≡ left_out_by outermost (length ms)
left_out outermost [] = refl
left_out outermost (m ∷ ms) = refl

pub marked : (names : List RegionName) (outermost : Region) (ms : List PointerCode) (i before following : ℕ) (m : PointerCode) (t u whole : Ty) → i < length ms → drop i ms ≡ m ∷ drop (i + 1) ms → before + i ≡ length ms → following ≡ before - 1
    → u ≡ types.Pointer m.kind t (region_or names (left_out_by outermost following) (view_pointer m).region) → MarksLeft names outermost ms i t whole → MarksLeft names outermost ms (i + 1) u whole
marked names outermost ms i before following m t u whole inside here counted next made left =
    let rest : length (drop (i + 1) ms) ≡ following = omega (arith, length-drop (i + 1) ms, counted, next, inside) in
    let same : left_out_at outermost (map view_pointer (drop (i + 1) ms)) ≡ left_out_by outermost following = left_out outermost (drop (i + 1) ms) ∙ ap (left_out_by outermost) rest in
    ap (λ (v : Ty). pointers_written names outermost v (map view_pointer (drop (i + 1) ms))) made
    ∙ sym (ap (λ (s : Region). pointers_written names outermost (types.Pointer m.kind t (region_or names s (view_pointer m).region)) (map view_pointer (drop (i + 1) ms))) same)
    ∙ sym (ap (λ (ns : List PointerCode). pointers_written names outermost t (map view_pointer ns)) here)
    ∙ left
