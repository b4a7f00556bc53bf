use Rattle.std.proofs.Common.{◌≡◌, ◌-◌, ◌≤◌, drop, length}
use Rattle.cyc_scope.proofs.locals.Locals.close.Given as goal

abbrev pub invariant-loop : goal.invariant-loop
invariant-loop l = (l.self ≡ drop (l.counter - l.count) l.fn.self) × (l.counter - l.count ≤ length l.fn.self - l.count)
