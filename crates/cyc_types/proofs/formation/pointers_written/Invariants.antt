use Rattle.std.proofs.Common.{◌≡◌, ◌+◌, length, map}
use Rattle.cyc_syntax.specs.inside.TreeView.{view_pointer}
use Rattle.cyc_types.specs.TypeView.{view_ty}
use Rattle.cyc_types.specs.typing.Formation.{pointers_written}
use Rattle.cyc_types.proofs.FormationLemmas.{MarksLeft}
use Rattle.cyc_types.proofs.formation.pointers_written.Given as goal

abbrev pub invariant-loop-mark : goal.invariant-loop-mark
invariant-loop-mark l =
    MarksLeft l.names l.outermost l.marks l.mark-index (view_ty l.of_type) (pointers_written l.names l.outermost (view_ty l.fn.base) (map view_pointer l.marks))
    × (l.following + l.mark-index ≡ length l.marks)
