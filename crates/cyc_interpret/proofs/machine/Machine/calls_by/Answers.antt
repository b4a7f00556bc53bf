use Rattle.std.proofs.Common.{arith, ◌≡◌, ◌∙◌, length, map}
use Rattle.std.proofs.lemmas.List.{length-reverse, length-map}
use Rattle.cyc_interpret.specs.View.{view_entry, view_stack}
use Rattle.cyc_interpret.proofs.LimitLaws.{calls_few}
use Rattle.cyc_interpret.proofs.machine.Machine.calls_by.Goals as goal

pub overflow_add-result : goal.overflow_add-result
overflow_add-result c =
    let entries = c.args.self.now.stack in
    let same : length (view_stack entries.items) ≡ length entries.items = length-reverse (map view_entry entries.items) ∙ length-map entries.items view_entry in
    record { fits = omega (arith, c.requires, calls_few (view_stack entries.items), same, entries.ok.0, entries.ok.1, entries.small) }
