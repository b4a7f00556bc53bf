use Rattle.std.specs.Prelude.{◌-◌}
use Rattle.cyc_types.specs.TypedTreeView.{view_global}
use Rattle.cyc_lower_proof.proofs.slots.GlobalWords.{ZerosLeft}
use Rattle.cyc_lower.proofs.globals.add_global.Given as goal

abbrev pub decreases-loop-left : goal.decreases-loop-left
decreases-loop-left l = l.left - 1

abbrev pub invariant-loop-left : goal.invariant-loop-left
invariant-loop-left l = ZerosLeft l.fn.words.items l.words.items (view_global l.global) l.left
