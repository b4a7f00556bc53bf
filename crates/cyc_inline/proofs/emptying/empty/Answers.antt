use Rattle.std.proofs.Common.{◌≡◌, ap, sym, subst, ◌∙◌}
use Rattle.cyc_plain.specs.inside.Program.{Program}
use Rattle.cyc_plain.specs.inside.WellFormed.{IsPlain}
use Rattle.cyc_inline.specs.inside.Changes.{notes_of}
use Rattle.cyc_inline.specs.inside.Emptied.{emptied}
use Rattle.cyc_inline.proofs.EmptiedProgram.{emptied_plain}
use Rattle.cyc_inline.proofs.EmptiedFunctions.{kept_program, reported_whole}
use Rattle.cyc_inline.proofs.emptying.empty.Goals as goal

pub new-requires : goal.new-requires
new-requires c =
    let given = c.args.inlined.plain in
    let parts = c.into_parts-parts.result in
    let reached = c.in_ok-reached.reached.items in
    subst IsPlain
    (sym (kept_program given parts.functions.items c.in_ok-kept.kept.functions.items parts.globals.items parts.main reached c.into_parts-parts.ensures.value c.in_ok-kept.ensures.functions))
    (emptied_plain given reached c.into_parts-parts.ensures.plain c.in_ok-reached.ensures)

pub returns : goal.returns
returns c =
    let given = c.args.inlined.plain in
    let parts = c.into_parts-parts.result in
    let reached = c.in_ok-reached.reached.items in
    let is : c.new.result ≡ emptied given reached =
    c.new.ensures
    ∙ kept_program given parts.functions.items c.in_ok-kept.kept.functions.items parts.globals.items parts.main reached c.into_parts-parts.ensures.value c.in_ok-kept.ensures.functions in
    record {
      reached = reached;
      are = c.in_ok-reached.ensures;
      is = is;
      reported = λ program many reported.
          reported_whole program given parts.functions.items (notes_of c.args.inlined.opened.items) (notes_of c.in_ok-kept.kept.opened.items) reached c.new.result
          (ap (λ (p : Program). p.functions) c.into_parts-parts.ensures.value) c.in_ok-kept.ensures.opened is many reported;
    }
