use Rattle.std.proofs.Common.{◌≡◌, map, drop}
use Rattle.cyc_syntax.specs.inside.TreeView.{view_member}
use Rattle.cyc_types.specs.TypeView.{view_ty}
use Rattle.cyc_types.specs.typing.Programs.{parameter_locals}
use Rattle.cyc_scope.specs.inside.Marks.{Descends}
use Rattle.cyc_scope.proofs.body.declare_parameters.Given as goal

abbrev pub invariant-loop-number : goal.invariant-loop-number
invariant-loop-number l = record {
  left : parameter_locals (map view_member (drop l.number l.members)) (map view_ty (drop l.number l.types)) l.number l.locals ≡ parameter_locals (map view_member l.members) (map view_ty l.types) 0 l.fn.locals;
  ordered : Descends 0 l.locals;
}
