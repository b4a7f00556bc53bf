-- The proof of the law that all values in a run are machine words.
use Rattle.cyc_plain.specs.inside.Step.{start}
use Rattle.cyc_plain.proofs.WordLaws.{words_stay, words_at_start}
use Rattle.cyc_plain.proofs.laws.values_are_words.Goals as goal

pub returns : goal.returns
returns c = λ program pages calls count base store input new words memory bytes run. words_stay program pages calls count (start program base store input) new words (words_at_start program base store input words memory bytes) run
