use Rattle.std.proofs.Common.{◌≡◌, Some, Bor, option_map, sym, ap, subst, ◌∙◌}
use Rattle.cyc_types.specs.typing.Scopes.{Meaning, meaning_in}
use Rattle.cyc_scope.specs.declared.declared.Entry.{Entry}
use Rattle.cyc_scope.specs.inside.Tables.{first_declared, meaning_by}
use Rattle.cyc_scope.specs.inside.Entries.{view_entity, view_entry}
use Rattle.cyc_scope.specs.inside.Plain.{IsPlainRoutine}
use Rattle.cyc_scope.proofs.TableLemmas.{meaning_first}
use Rattle.cyc_scope.proofs.declared.Declared.is_plain.Goals as goal

pub returns-in-Some : goal.returns-in-Some
returns-in-Some c plain =
    let ds = c.args.self.now in
    let entry = c.in-Some.entry.now in
    let found : Some (view_entry entry) ≡ first_declared ds c.args.name = ap (option_map (λ (e : Bor Entry). view_entry e.now)) (sym c.in-Some.is) ∙ c.find.ensures in
    let means : view_entity entry.entity ≡ meaning_in ds c.args.name = ap meaning_by found ∙ sym (meaning_first ds c.args.name) in
    subst (λ (m : Meaning). IsPlainRoutine m) means (c.is_plain.ensures plain)
