-- The proof of the law that the list `places_of` of a program contains the code position of each instruction.
use Rattle.cyc_plain.proofs.Steps.{place_known}
use Rattle.cyc_plain.proofs.laws.places_are_listed.Goals as goal

pub returns : goal.returns
returns c = place_known
