use Rattle.cyc_front.specs.Front.{names_in}
use Rattle.cyc_front.proofs.laws.accepted_programs_are_sound.Goals as goal

pub returns : goal.returns
returns c = λ text p a. c.typed_programs_are_sound.ensures (names_in a.tokens) a.tree p a.typed a.allowed
