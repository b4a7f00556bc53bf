use Rattle.std.proofs.Common.{◌<◌, length, arith, rules}
use Rattle.cyc_select.proofs.emission.Numbering.{ready_many, numbered_at}
use Rattle.cyc_select.proofs.tables.Tables.start.Goals as goal

pub offset_bounds-self-function : goal.offset_bounds-self-function
offset_bounds-self-function c =
    let inside : c.args.function < length c.args.self.now.functions.now = omega (arith, c.requires.function, ready_many c.requires.known.ready) in
    search rules

pub bounds-self-function : goal.bounds-self-function
bounds-self-function c = omega (arith, c.requires.function, ready_many c.requires.known.ready)

pub returns : goal.returns
returns c = (numbered_at c.requires.known.ready.numbered c.args.function _ c.requires.function).first_is
