use Rattle.std.proofs.Common.{◌≡◌, ◌+◌, ◌++◌, drop}
use Rattle.cyc_select.specs.inside.Slots.{store_all}
use Rattle.cyc_select.specs.inside.Selection.{ordinary}
use Rattle.cyc_select.proofs.emitter.Emitter.store_all.Given as goal

-- Loop invariant: the MIPS lines emitted so far, followed by those of the remaining registers, are all lines that store registers in slots.
abbrev pub invariant-loop-source : goal.invariant-loop-source
invariant-loop-source l =
    (l.next ≡ l.slot + l.source-index)
    × (l.self.lines.items ++ ordinary (store_all l.frame l.next (drop l.source-index l.sources))
    ≡ l.fn.self.lines.items ++ ordinary (store_all l.frame l.slot l.sources))
