use Rattle.std.proofs.Common.{◌≡◌, ◌<◌, map, length, Some, option_map, sym, ap, ◌∙◌, arith}
use Rattle.cyc_types.specs.typing.Scopes.{Exception}
use Rattle.cyc_types.specs.typing.Statements.{exception_among}
use Rattle.cyc_scope.specs.inside.Tables.{first_place, exception_names}
use Rattle.cyc_scope.specs.inside.Entries.{view_exception}
use Rattle.cyc_scope.proofs.TableLemmas.{first_within, first_lost, among_first, number_first}
use Rattle.cyc_scope.proofs.EntryLemmas.{exception_count, exception_at}
use Rattle.cyc_scope.proofs.exceptions.Exceptions.find.Goals as goal

pub index-entry-requires : goal.index-entry-requires
index-entry-requires c =
    let es = c.self.inside.entries in
    let place : first_place (exception_names (map view_exception c.self.inside.entries.items)) c.args.name ≡ Some c.in-Some.place =
    ap (λ ds. first_place (exception_names ds) c.args.name) c.self.view_is ∙ sym c.place.ensures ∙ c.in-Some.is in
    omega (arith, first_within (exception_names (map view_exception es.items)) c.args.name c.in-Some.place place, exception_count es.items, es.ok.0)

pub overflow_add-result : goal.overflow_add-result
overflow_add-result c =
    let es = c.self.inside.entries in
    let place : first_place (exception_names (map view_exception c.self.inside.entries.items)) c.args.name ≡ Some c.in-Some.place =
    ap (λ ds. first_place (exception_names ds) c.args.name) c.self.view_is ∙ sym c.place.ensures ∙ c.in-Some.is in
    record { fits = omega (arith, first_within (exception_names (map view_exception es.items)) c.args.name c.in-Some.place place, exception_count es.items, es.ok.0, es.ok.1, es.small) }

pub returns-in-Some-clause-has_int : goal.returns-in-Some-clause-has_int
returns-in-Some-clause-has_int c =
    let es = c.self.inside.entries in
    let place : first_place (exception_names (map view_exception c.self.inside.entries.items)) c.args.name ≡ Some c.in-Some.place =
    ap (λ ds. first_place (exception_names ds) c.args.name) c.self.view_is ∙ sym c.place.ensures ∙ c.in-Some.is in
    let within : c.in-Some.place < length c.self.inside.entries.items = omega (arith, first_within (exception_names (map view_exception es.items)) c.args.name c.in-Some.place place, exception_count es.items) in
    sym (ap (λ ds. exception_among ds c.args.name) c.self.view_is) ∙ exception_at es.items c.args.name c.in-Some.place c.index-entry.result.now place within c.index-entry.ensures

pub returns-in-Some-clause-number : goal.returns-in-Some-clause-number
returns-in-Some-clause-number c =
    let number = number_first c.args.self.now c.args.name c.in-Some.place (sym c.place.ensures ∙ c.in-Some.is) in
    omega (arith, number)

pub returns-in-None-clause-has_int : goal.returns-in-None-clause-has_int
returns-in-None-clause-has_int c =
    among_first c.args.self.now c.args.name
    ∙ ap (option_map (λ (d : Exception). d.has_int)) (first_lost (λ (d : Exception). d.name) c.args.self.now c.args.name (sym c.place.ensures ∙ c.in-None.is))
