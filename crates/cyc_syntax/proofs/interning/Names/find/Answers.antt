use Rattle.std.specs.Str.{bytes_eq}
use Rattle.cyc_words.proofs.Searches.{position-none}
use Rattle.cyc_syntax.proofs.NameIndexLemmas.{has_no_number}
use Rattle.cyc_syntax.proofs.interning.Names.find.Goals as goal

pub returns-in-None-clause-missing : goal.returns-in-None-clause-missing
returns-in-None-clause-missing c = position-none (bytes_eq c.args.text.now) c.args.self.now (has_no_number c.args.self.now c.args.text.now c.in-None.ensures)
