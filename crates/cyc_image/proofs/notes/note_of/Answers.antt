use Rattle.std.proofs.Common.{refl}
use Rattle.cyc_elf.specs.Outline.{outlined}
use Rattle.cyc_image.proofs.Limits.{allowed_if_any}
use Rattle.cyc_image.proofs.notes.note_of.Goals as goal

pub returns-clause-exact : goal.returns-clause-exact
returns-clause-exact c = (outlined c.args.image.now c.in_ok-outline.outline, c.in_ok-outline.ensures.exact, refl)

pub returns-clause-allowed : goal.returns-clause-allowed
returns-clause-allowed c = allowed_if_any c.in_ok-outline.outline.note c.in_ok-outline.ensures.well_formed.note
