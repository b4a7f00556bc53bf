use Rattle.cyc_lex.proofs.SlashReading.{found_sign}
use Rattle.cyc_lex.proofs.pieces.read_piece.Goals as goal

pub returns-in-Some-clause-found : goal.returns-in-Some-clause-found
returns-in-Some-clause-found c =
    rw c.token.ensures (found_sign c.args.text.now c.in-Some.sign c.in-Some.len c.if-first-eq47.false c.in-Some.ensures.len c.in-Some.ensures.begins c.in-Some.ensures.longest)
