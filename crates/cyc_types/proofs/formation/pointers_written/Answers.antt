use Rattle.std.proofs.Common.{◌-◌, ◌∙◌, get_or, None, refl, ap, arith}
use Rattle.std.proofs.lemmas.List.{drop_more}
use Rattle.cyc_syntax.specs.declared.tree.Pointer.{Pointer as PointerCode}
use Rattle.cyc_syntax.specs.declared.tree.PointerKind.TheVariants.{Nullable}
use Rattle.cyc_syntax.specs.inside.TreeView.{view_pointer}
use Rattle.cyc_types.specs.declared.region.Region.{Region}
use Rattle.cyc_types.specs.Types.{Pointer}
use Rattle.cyc_types.specs.TypeView.{view_ty}
use Rattle.cyc_types.specs.typing.Formation.{region_or}
use Rattle.cyc_types.proofs.FormationLemmas.{marked}
use Rattle.cyc_types.proofs.formation.pointers_written.Goals as goal

pub loop-mark-preserved : goal.loop-mark-preserved
loop-mark-preserved c =
    let ms = c.args.marks.now in
    let i = c.loop-mark.mark-index in
    let none : PointerCode = record { kind = Nullable; region = None } in
    let inside = c.loop-mark-test.true in
    let left = c.loop-mark.invariant in
    let m = get_or ms i none in
    let made = c.in_ok-of_type.ensures ∙ ap (λ (r : Region). Pointer m.kind (view_ty c.loop-mark.of_type) (region_or c.args.names.now r (view_pointer m).region)) c.left_out_by.ensures in (
      marked c.args.names.now c.args.outermost ms i c.loop-mark.following (c.loop-mark.following - 1) m (view_ty c.loop-mark.of_type) (view_ty c.in_ok-of_type.of_type) _ inside (drop_more ms i none inside) left.1 refl made left.0,
      omega (arith, left.1, inside),
    )
