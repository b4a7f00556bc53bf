use Rattle.std.proofs.Common.{sym, subst}
use Rattle.std.proofs.lemmas.Bool.{false_from_ne_true}
use Rattle.cyc_elf.specs.Outline.{outlined}
use Rattle.cyc_machine_model.specs.Start.{has_outside}
use Rattle.cyc_machine.specs.Held.{state_of}
use Rattle.cyc_emulator.specs.inside.Loading.{Loads}
use Rattle.cyc_emulator.proofs.engine.load_over.Goals as goal

pub returns : goal.returns
returns g c =
    subst (λ r. Loads r c.args.limits (g.S.Store.held c.args.store) (state_of g.S.Store.held c.in_ok-machine.machine)) (sym c.in_ok-outline.ensures.exact)
    (false_from_ne_true (has_outside (outlined c.args.image.now c.in_ok-outline.outline)) (λ outside. let refused = c.in_ok-machine.ensures.outside.1 outside in cc), c.in_ok-machine.ensures.loaded)
