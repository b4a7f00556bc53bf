use Rattle.std.proofs.Common.{◌≡◌, Some, sym, ap, ◌∙◌}
use Rattle.cyc_scope.specs.inside.Tables.{newest_place}
use Rattle.cyc_scope.specs.inside.Entries.{locals_of, local_names, newest}
use Rattle.cyc_scope.proofs.LocalLemmas.{newest_lent, newest_lost}
use Rattle.cyc_scope.proofs.locals.Locals.find.Goals as goal

pub returns-in-Some : goal.returns-in-Some
returns-in-Some c =
    let place : newest_place (local_names (locals_of c.self.inside.bindings.items)) c.args.name ≡ Some c.in-Some.place =
    ap (λ vs. newest_place (local_names vs) c.args.name) c.self.view_is ∙ sym c.place.ensures ∙ c.in-Some.is in
    newest_lent c.self.inside.bindings.items c.args.name c.in-Some.place c.get.result place (rw c.deref.ensures.value at c.get.ensures.lookup)
    ∙ ap (λ vs. newest vs c.args.name) c.self.view_is

pub returns-in-None : goal.returns-in-None
returns-in-None c = sym (newest_lost c.args.self.now c.args.name (sym c.place.ensures ∙ c.in-None.is))
