use Rattle.std.proofs.Common.{rules, ◌<◌, ◌≤◌, ◌∙◌, List, length, sym, subst}
use Rattle.cyc_types.specs.declared.ty.Ty.{Ty}
use Rattle.cyc_interpret.proofs.FieldKinds.{short_kinds}
use Rattle.cyc_interpret.proofs.found.have_kinds.Goals as goal

pub returns-in-None : goal.returns-in-None
returns-in-None c =
    let cells = c.args.cells.now.items in
    let types = c.args.types.now.items in
    let past : length types ≤ c.loop-at.at = subst (λ (ts : List Ty). length ts ≤ c.loop-at.at) c.deref.ensures.value c.in-None.ensures.lookup.3 in
    let within : c.loop-at.at < length cells = search rules in
    sym (c.loop-at.invariant ∙ short_kinds cells types c.loop-at.at within past)
