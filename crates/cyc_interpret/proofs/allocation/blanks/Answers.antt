use Rattle.std.proofs.Common.{◌+◌, ◌++◌, ◌∷◌, [], ◌∙◌, List, None, map, ap, sym, refl}
use Rattle.std.proofs.lemmas.List.{map-append}
use Rattle.cyc_meaning.specs.Values.{Cell, blank}
use Rattle.cyc_interpret.specs.declared.objects.Cell.{Cell as CellCode}
use Rattle.cyc_interpret.specs.WorldView.{view_cell}
use Rattle.cyc_interpret.proofs.Changed.{blanks_more}
use Rattle.cyc_interpret.proofs.allocation.blanks.Goals as goal

pub loop-preserved : goal.loop-preserved
loop-preserved c =
    ap (λ (cells : List CellCode). map view_cell cells) c.in_ok-push.ensures.items
    ∙ (map-append view_cell c.loop.cells.items (record { kind = c.args.kind; content = None } ∷ [])
    ∙ (ap (λ (cells : List Cell). cells ++ blank c.args.kind ∷ []) c.loop.invariant ∙ sym (blanks_more c.loop.counter (c.loop.counter + 1) c.args.kind refl)))
