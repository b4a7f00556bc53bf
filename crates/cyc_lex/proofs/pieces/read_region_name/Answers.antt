use Rattle.std.proofs.Common.{◌≡◌, true, get_or, arith, rules}
use Rattle.std.proofs.lemmas.List.{take_rest}
use Rattle.cyc_syntax.specs.Spelling.{is_letter}
use Rattle.cyc_lex.proofs.NameReading.{found_region}
use Rattle.cyc_lex.proofs.pieces.read_region_name.Goals as goal

pub returns-clause-found : goal.returns-clause-found
returns-clause-found c =
    let text = c.args.text.now in
    let rest = take_rest text 1 in
    let letter : is_letter (get_or text 1 0) ≡ true = search rules in
    rw c.token.ensures
    (found_region text c.name_len.result (rw (← rest) c.name_len.ensures.len) c.requires.backquote (omega arith) letter)
