use Rattle.std.proofs.Common.{[], unwrap_or, map, Some, None, ap, ◌∙◌}
use Rattle.std.specs.List.{slice_get}
use Rattle.cyc_types.specs.typing.Programs.{Program}
use Rattle.cyc_scope.specs.inside.Entries.{view_field}
use Rattle.cyc_scope.proofs.EntryLemmas.{fields_lent}
use Rattle.cyc_scope.proofs.program.Program.fields.Goals as goal

pub returns-in-Some : goal.returns-in-Some
returns-in-Some c =
    ap (map view_field) c.deref-in-Some.ensures.value
    ∙ fields_lent c.self.inside.fields.items c.args.number (Some c.in-Some.fields) (rw c.deref.ensures.value at c.in-Some.ensures.lookup)
    ∙ ap (λ (p : Program). unwrap_or (slice_get p.fields c.args.number) []) c.self.view_is

pub returns-in-None : goal.returns-in-None
returns-in-None c =
    fields_lent c.self.inside.fields.items c.args.number None (rw c.deref.ensures.value at c.in-None.ensures.lookup)
    ∙ ap (λ (p : Program). unwrap_or (slice_get p.fields c.args.number) []) c.self.view_is
