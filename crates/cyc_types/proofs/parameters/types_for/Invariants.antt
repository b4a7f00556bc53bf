use Rattle.std.proofs.Common.{◌≡◌, ◌++◌, map, drop}
use Rattle.cyc_syntax.specs.inside.TreeView.{view_member}
use Rattle.cyc_types.specs.TypeView.{view_ty}
use Rattle.cyc_types.specs.typing.Formation.{types_for, after_members}
use Rattle.cyc_types.specs.inside.Namings.{naming}
use Rattle.cyc_types.proofs.parameters.types_for.Given as goal

abbrev pub invariant-loop-member : goal.invariant-loop-member
invariant-loop-member l =
    (map view_ty l.all.items ++ types_for l.structs (naming l.names l.next) (map view_member (drop l.member-index l.members)) ≡ types_for l.structs (naming l.fn.names l.fn.next) (map view_member l.members))
    × (after_members (naming l.names l.next) (map view_member (drop l.member-index l.members)) ≡ after_members (naming l.fn.names l.fn.next) (map view_member l.members))
