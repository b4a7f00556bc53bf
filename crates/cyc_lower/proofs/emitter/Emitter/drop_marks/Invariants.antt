use Rattle.std.proofs.Common.{◌≡◌}
use Rattle.cyc_lower.proofs.emitter.Emitter.drop_marks.Given as goal

-- Loop invariant: removing source positions leaves the code unchanged.
abbrev pub invariant-loop : goal.invariant-loop
invariant-loop l = l.self.code.items ≡ l.fn.self.code.items
