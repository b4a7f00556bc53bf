use Rattle.std.proofs.Common.{◌<◌, length, arith, rules}
use Rattle.cyc_select.proofs.emission.Numbering.{known_line, known_lines}
use Rattle.cyc_select.proofs.tables.Tables.line.Goals as goal

pub offset_bounds-self-index : goal.offset_bounds-self-index
offset_bounds-self-index c =
    let inside : c.args.index < length c.args.self.now.lines.now = omega (arith, known_lines c.requires.known) in
    search rules

pub bounds-self-index : goal.bounds-self-index
bounds-self-index c = omega (arith, known_lines c.requires.known)

pub returns : goal.returns
returns c = known_line c.requires.known c.args.index c.requires.index
