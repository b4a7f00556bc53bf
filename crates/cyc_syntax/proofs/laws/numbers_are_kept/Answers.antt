use Rattle.cyc_syntax.proofs.NameLemmas.{number_of-with_text, slice_get-number_of}
use Rattle.cyc_syntax.proofs.laws.numbers_are_kept.Goals as goal

pub returns-clause-kept : goal.returns-clause-kept
returns-clause-kept c = number_of-with_text

pub returns-clause-gives_back : goal.returns-clause-gives_back
returns-clause-gives_back c = slice_get-number_of
