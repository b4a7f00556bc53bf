use Rattle.std.proofs.Common.{◌∙◌, ap, [], List, ℕ, ◌-◌}
use Rattle.std.specs.Prelude.{Option, unwrap_or}
use Rattle.std.proofs.lemmas.Option.{unwrap_or-slice_get}
use Rattle.cyc_cli.specs.inside.Excerpt.{lines_of}
use Rattle.cyc_cli.proofs.excerpt.line_at.Goals as goal

-- If a text is split at its line feeds, nothing follows the last line; a line number past the last line denotes an empty line.
pub returns-in-None : goal.returns-in-None
returns-in-None c =
    let none = rw (c.saturating_sub.ensures) at c.in-None.ensures in
    ap (λ (found : Option (List ℕ)). unwrap_or found []) none ∙ unwrap_or-slice_get (lines_of c.args.text.now) (c.args.line - 1) []
