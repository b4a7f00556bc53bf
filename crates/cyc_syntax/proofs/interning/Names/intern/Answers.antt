use Rattle.std.proofs.Common.{◌≡◌, ◌++◌, ◌∷◌, [], false, slice_get, sym, ap, ◌∙◌}
use Rattle.cyc_syntax.specs.Names.{is_among, number_of}
use Rattle.cyc_syntax.proofs.NameLemmas.{slice_get-number_of}
use Rattle.cyc_syntax.proofs.NameIndexLemmas.{has_number, has_no_number, number_of-new, slice_get-new}
use Rattle.cyc_syntax.proofs.interning.Names.intern.Goals as goal
use Rattle.cyc_syntax.proofs.interning.Names.intern.Goals.{In_default}

pub returns-in-Some-clause-given : goal.returns-in-Some-clause-given
returns-in-Some-clause-given c =
    let has = has_number c.args.self.now c.args.text.now c.in-Some.number c.in-Some.ensures in
    rw has.1 (slice_get-number_of c.args.self.now c.args.text.now has.0)

-- If a text is interned as new, it had no number before.
new : (c : In_default) → is_among c.args.text.now c.args.self.now ≡ false
new c = has_no_number c.args.self.now c.args.text.now c.in_default.ensures

pub returns-clause-number : goal.returns-clause-number
returns-clause-number c =
    c.in_ok-number.ensures.number
    ∙ sym (number_of-new c.args.self.now c.args.text.now (new (goal.at.returns-clause-number c).In_default))
    ∙ ap (λ t. number_of t c.args.text.now) (sym c.in_ok-number.ensures.texts)

pub returns-clause-given : goal.returns-clause-given
returns-clause-given c =
    ap (λ t. slice_get t c.in_ok-number.number) c.in_ok-number.ensures.texts
    ∙ ap (slice_get (c.args.self.now ++ c.args.text.now ∷ [])) c.in_ok-number.ensures.number
    ∙ slice_get-new c.args.self.now c.args.text.now (new (goal.at.returns-clause-given c).In_default)
