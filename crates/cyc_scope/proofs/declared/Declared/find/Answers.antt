use Rattle.std.proofs.Common.{◌≡◌, map, Some, sym, ap, ◌∙◌}
use Rattle.cyc_types.specs.typing.Scopes.{Declared}
use Rattle.cyc_scope.specs.inside.Tables.{first_place, declared_names, first_declared}
use Rattle.cyc_scope.specs.inside.Entries.{view_entry}
use Rattle.cyc_scope.proofs.TableLemmas.{first_lost}
use Rattle.cyc_scope.proofs.EntryLemmas.{declared_lent}
use Rattle.cyc_scope.proofs.declared.Declared.find.Goals as goal

pub returns-in-Some : goal.returns-in-Some
returns-in-Some c =
    let place : first_place (declared_names (map view_entry c.self.inside.entries.items)) c.args.name ≡ Some c.in-Some.place =
    ap (λ ds. first_place (declared_names ds) c.args.name) c.self.view_is ∙ sym c.place.ensures ∙ c.in-Some.is in
    declared_lent c.self.inside.entries.items c.args.name c.in-Some.place c.get.result place (rw c.deref.ensures.value at c.get.ensures.lookup)
    ∙ ap (λ ds. first_declared ds c.args.name) c.self.view_is

pub returns-in-None : goal.returns-in-None
returns-in-None c = sym (first_lost (λ (d : Declared). d.name) c.args.self.now c.args.name (sym c.place.ensures ∙ c.in-None.is))
