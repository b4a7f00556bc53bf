-- The display of bytes goes character by character exactly if the bytes are UTF-8.
use Rattle.std.proofs.lemmas.Bool.{false_from_ne_true}
use Rattle.std.proofs.lemmas.Str.{IsUtf8-from_is_utf8, is_utf8-from_IsUtf8}
use Rattle.cyc_cli.proofs.excerpt.BlankDisplay.fmt.Goals as goal

pub returns-in-Ok-clause-writes : goal.returns-in-Ok-clause-writes
returns-in-Ok-clause-writes g c =
    let text = c.in-Ok.ensures.cases in
    rw (is_utf8-from_IsUtf8 _ text.1, ← text.0) c.write_blank_text.ensures

pub returns-in-Err-clause-writes : goal.returns-in-Err-clause-writes
returns-in-Err-clause-writes g c =
    rw (false_from_ne_true _ (λ e. c.in-Err.ensures.cases.0 (IsUtf8-from_is_utf8 _ e))) c.write_blank_bytes.ensures
