use Rattle.std.proofs.Common.{List, length, sym, subst}
use Rattle.std.specs.Prelude.{All}
use Rattle.cyc_select.specs.inside.Labelled.{Fits, IsFormedLine}
use Rattle.cyc_select.specs.declared.code.Line.{Line}
use Rattle.cyc_asm.proofs.origin.sources.Goals as goal

pub sources_of-requires-clause-formed : goal.sources_of-requires-clause-formed
sources_of-requires-clause-formed c =
    subst (λ (lines : List Line). All (IsFormedLine (length lines)) lines) (sym c.lines.ensures.value) c.lines.ensures.code.formed

pub sources_of-requires-clause-fits : goal.sources_of-requires-clause-fits
sources_of-requires-clause-fits c = subst Fits (sym c.lines.ensures.value) c.lines.ensures.code.fits
