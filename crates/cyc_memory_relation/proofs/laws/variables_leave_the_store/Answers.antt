-- This file proves the law that declaring and assigning variables leaves the heap store unchanged.
use Rattle.std.proofs.Common.{refl}
use Rattle.cyc_meaning.specs.State.{Stack}
use Rattle.cyc_meaning.proofs.WorldLaws.{cell_found}
use Rattle.cyc_memory_relation.proofs.Variables.{declared, assigned-variable, opened-variables, closed-variables}
use Rattle.cyc_memory_relation.proofs.laws.variables_leave_the_store.Goals as goal

pub returns-clause-declared : goal.returns-clause-declared
returns-clause-declared c = λ t w s number r kind content row related there entry fits outside. declared related number r kind content row there entry fits outside

pub returns-clause-assigned : goal.returns-clause-assigned
returns-clause-assigned c = λ t w s object offset region at v related found owner entry.
    let (there, cell) = cell_found w object offset at found in assigned-variable related object offset region at.object at.cell v there cell owner entry

pub returns-clause-opened : goal.returns-clause-opened
returns-clause-opened c = λ t w s related. opened-variables related Stack refl

pub returns-clause-closed : goal.returns-clause-closed
returns-clause-closed c = λ t w s number r related there entry. closed-variables related number r there entry
