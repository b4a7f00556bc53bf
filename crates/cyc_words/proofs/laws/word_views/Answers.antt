-- The signed and the unsigned view of a word agree modulo 2 ^ 32.
use Rattle.cyc_words.proofs.WordLemmas.{views_agree, unsigned-signed, signed-unsigned, FitsSigned-signed, IsWord-unsigned}
use Rattle.cyc_words.proofs.laws.word_views.Goals as goal

pub returns-clause-agree : goal.returns-clause-agree
returns-clause-agree c = views_agree

pub returns-clause-back : goal.returns-clause-back
returns-clause-back c = unsigned-signed

pub returns-clause-forth : goal.returns-clause-forth
returns-clause-forth c = signed-unsigned

pub returns-clause-signed_fits : goal.returns-clause-signed_fits
returns-clause-signed_fits c = FitsSigned-signed

pub returns-clause-unsigned_fits : goal.returns-clause-unsigned_fits
returns-clause-unsigned_fits c = IsWord-unsigned
