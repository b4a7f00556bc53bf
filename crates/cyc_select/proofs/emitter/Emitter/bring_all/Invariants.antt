use Rattle.std.proofs.Common.{◌≡◌, ◌+◌, ◌++◌, drop}
use Rattle.cyc_select.specs.inside.Slots.{bring_all}
use Rattle.cyc_select.specs.inside.Selection.{ordinary}
use Rattle.cyc_select.proofs.emitter.Emitter.bring_all.Given as goal

-- Loop invariant: the MIPS lines emitted so far, followed by those of the remaining registers, are all lines that copy registers to slots.
abbrev pub invariant-loop-source : goal.invariant-loop-source
invariant-loop-source l =
    (l.next ≡ l.slot + l.source-index)
    × (l.self.lines.items ++ ordinary (bring_all l.again l.frame l.next (drop l.source-index l.sources))
    ≡ l.fn.self.lines.items ++ ordinary (bring_all l.again l.frame l.slot l.sources))
