use Rattle.std.proofs.Common.{subst}
use Rattle.std.proofs.lemmas.List.{take_rest}
use Rattle.cyc_syntax.specs.Spelling.{HasNoClose}
use Rattle.cyc_lex.proofs.SlashReading.{found_line_comment, found_block_comment, open_comment}
use Rattle.cyc_lex.proofs.pieces.read_slash.Goals as goal

pub returns-in-47-clause-found : goal.returns-in-47-clause-found
returns-in-47-clause-found c =
    let text = c.args.text.now in
    rw c.blank.ensures
    (found_line_comment text c.line_len.result c.if-text-lt2.false c.requires.slash c.in-47.is (rw (← take_rest text 2) c.line_len.ensures.len))

pub returns-in-Some-clause-found : goal.returns-in-Some-clause-found
returns-in-Some-clause-found c =
    let text = c.args.text.now in
    let body = take_rest text 2 in
    rw c.blank-in-Some.ensures
    (found_block_comment text c.in-Some.len c.if-text-lt2.false c.requires.slash c.in-42.is c.in-Some.ensures.within.0
    (rw (← body) c.in-Some.ensures.within.1)
    (rw (← body) c.in-Some.ensures.closed)
    (rw (← body) c.in-Some.ensures.first))

pub returns-in-None-clause-fails : goal.returns-in-None-clause-fails
returns-in-None-clause-fails c =
    let text = c.args.text.now in
    open_comment text c.if-text-lt2.false c.requires.slash c.in-42.is (subst HasNoClose (take_rest text 2) c.in-None.ensures.open)
