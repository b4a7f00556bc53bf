use Rattle.std.proofs.Common.{◌≡◌, ◌++◌, ◌+◌, ◌-◌}
use Rattle.cyc_declarations.specs.inside.KeyTables.{without}
use Rattle.cyc_declarations.proofs.signatures.without_keys.Given as goal

abbrev pub invariant-loop-i : goal.invariant-loop-i
invariant-loop-i l = l.all.items ++ without l.keys (l.variables - l.i) (l.i + 1) ≡ without l.keys l.variables 1
