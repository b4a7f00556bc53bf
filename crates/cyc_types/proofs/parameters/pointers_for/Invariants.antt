use Rattle.std.proofs.Common.{◌≡◌, map, drop}
use Rattle.cyc_syntax.specs.inside.TreeView.{view_pointer}
use Rattle.cyc_types.specs.TypeView.{view_ty}
use Rattle.cyc_types.specs.typing.Formation.{pointers_for, after_marks}
use Rattle.cyc_types.specs.inside.Namings.{naming}
use Rattle.cyc_types.proofs.parameters.pointers_for.Given as goal

abbrev pub invariant-loop-mark : goal.invariant-loop-mark
invariant-loop-mark l =
    (pointers_for (naming l.names l.next) (view_ty l.of_type) (map view_pointer (drop l.mark-index l.marks)) ≡ pointers_for (naming l.fn.names l.fn.next) (view_ty l.fn.base) (map view_pointer l.marks))
    × (after_marks (naming l.names l.next) (map view_pointer (drop l.mark-index l.marks)) ≡ after_marks (naming l.fn.names l.fn.next) (map view_pointer l.marks))
