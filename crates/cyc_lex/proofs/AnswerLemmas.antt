-- The lexer's result is unique: a text is accepted with one list of tokens, or rejected with one fault.
use Rattle.std.proofs.Common.{ℕ, List}
use Rattle.cyc_words.proofs.Decisions.{IsDecided}
use Rattle.cyc_lex.specs.Refusals.{IsAccepted, IsRefused}
use Rattle.cyc_lex.proofs.FaultLemmas.{accepted_once, refused_once, not_accepted_and_refused}

pub text_is_decided : (text : List ℕ) → IsDecided (IsAccepted text) (IsRefused text) (IsRefused text)
text_is_decided text =
    record {
      one = accepted_once text;
      same = refused_once text;
      never_refused = not_accepted_and_refused text;
      never_faulty = not_accepted_and_refused text;
    }
