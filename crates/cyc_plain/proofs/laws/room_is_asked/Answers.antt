-- The proof of the law that `Enter` ends the run exactly if the stack has no space for a call of its function.
use Rattle.cyc_plain.proofs.Rooms.{as_called, enters, enters_full}
use Rattle.cyc_plain.proofs.laws.room_is_asked.Goals as goal

pub returns-clause-room : goal.returns-clause-room
returns-clause-room c = λ program pages calls c' function new at within room stepped. enters program pages calls c' function new at stepped within room

pub returns-clause-full : goal.returns-clause-full
returns-clause-full c = λ program pages calls c' function new at none stepped. enters_full program pages calls c' function new at stepped none

pub returns-clause-called : goal.returns-clause-called
returns-clause-called c = as_called
