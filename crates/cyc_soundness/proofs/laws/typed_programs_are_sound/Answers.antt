-- This file proves the law that no run of a program derived from a source text accesses freed memory or goes wrong.
use Rattle.cyc_soundness.proofs.FormedLemmas.{typed_sound}
use Rattle.cyc_soundness.proofs.laws.typed_programs_are_sound.Goals as goal

pub returns : goal.returns
returns c = typed_sound
