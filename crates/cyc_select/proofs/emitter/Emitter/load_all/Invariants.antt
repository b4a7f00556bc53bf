use Rattle.std.proofs.Common.{◌≡◌, ◌+◌, ◌++◌, drop}
use Rattle.cyc_select.specs.inside.Slots.{load_all}
use Rattle.cyc_select.specs.inside.Selection.{ordinary}
use Rattle.cyc_select.proofs.emitter.Emitter.load_all.Given as goal

-- Loop invariant: the MIPS lines emitted so far, followed by those of the remaining registers, are all lines that load registers from
-- slots.
abbrev pub invariant-loop-target : goal.invariant-loop-target
invariant-loop-target l =
    (l.next ≡ l.slot + l.target-index)
    × (l.self.lines.items ++ ordinary (load_all l.frame l.next (drop l.target-index l.targets))
    ≡ l.fn.self.lines.items ++ ordinary (load_all l.frame l.slot l.targets))
