use Rattle.std.proofs.Common.{sym}
use Rattle.cyc_scope.specs.inside.Entries.{view_binding}
use Rattle.cyc_scope.proofs.LocalLemmas.{declared_found}
use Rattle.cyc_scope.proofs.locals.Locals.is_declared_in.Goals as goal

pub returns-in-Some : goal.returns-in-Some
returns-in-Some c = sym (declared_found c.args.region c.args.name c.args.self.now (view_binding c.in-Some.binding.now) c.requires (sym c.in-Some.ensures))
