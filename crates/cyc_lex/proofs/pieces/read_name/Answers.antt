use Rattle.cyc_lex.proofs.NameReading.{found_identifier, found_keyword}
use Rattle.cyc_lex.proofs.pieces.read_name.Goals as goal

pub returns-in-Some : goal.returns-in-Some
returns-in-Some c = rw c.token.ensures (found_keyword c.args.text.now c.name_len-len.result c.name_len-len.ensures.len c.requires.nonempty c.requires.letter c.in-Some.keyword c.in-Some.ensures.spelled)

pub returns-in-None : goal.returns-in-None
returns-in-None c = rw c.token-in-None.ensures (found_identifier c.args.text.now c.name_len-len.result c.name_len-len.ensures.len c.requires.nonempty c.requires.letter c.in-None.ensures.none)
