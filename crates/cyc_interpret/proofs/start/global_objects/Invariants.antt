use Rattle.std.proofs.Common.{◌≡◌, map, take}
use Rattle.cyc_types.specs.TypedTreeView.{view_global}
use Rattle.cyc_meaning.specs.State.{global_object}
use Rattle.cyc_interpret.specs.WorldView.{view_object}
use Rattle.cyc_interpret.proofs.start.global_objects.Given as goal

abbrev pub invariant-loop-global : goal.invariant-loop-global
invariant-loop-global l = map view_object l.objects.items ≡ map global_object (map view_global (take l.global-index l.globals.items))
