use Rattle.std.proofs.Common.{rules, ◌≡◌, false, length, slice_get, slice_set, Some, None, refl, sym, ap, subst, ◌∙◌}
use Rattle.std.proofs.lemmas.Bool.{ltb-true}
use Rattle.std.proofs.lemmas.Option.{slice_get_read}
use Rattle.cyc_types.specs.declared.region.Region.TheVariants.{Unique, Variable}
use Rattle.cyc_types.specs.Types.{region_eq}
use Rattle.cyc_calls.specs.inside.Fitting.{Stands}
use Rattle.cyc_calls.proofs.FittedValues.{stands_known, first_stands}
use Rattle.cyc_calls.proofs.fitting.region_for.Goals as goal

pub returns-in-Some-Some : goal.returns-in-Some-Some
returns-in-Some-Some c =
    let table = c.args.table.now in
    let n = c.in-Variable.number in
    let s = c.args.region in
    let o = c.in-Some-Some.field-0.now in
    let known = c.in-Some-Some.known in
    let there = c.in-Some-Some.ensures.lookup in
    let is : c.args.wanted ≡ Variable n = search rules in
    let is_known : o ≡ Some known = search rules in
    let noted : slice_get table n ≡ Some o = slice_get_read table (length table) n o refl (ltb-true n (length table) (sym there.0)) there.1 in
    let other : region_eq s Unique ≡ false = search rules in
    subst (λ w. Stands table table w s known) (sym is) (stands_known table n s known (noted ∙ ap Some is_known) other)

pub returns-in-Some-None : goal.returns-in-Some-None
returns-in-Some-None c =
    let table = c.args.table.now in
    let n = c.in-Variable.number in
    let s = c.args.region in
    let o = c.in-Some-None.field-0.now in
    let there = c.in-Some-None.ensures.lookup in
    let is : c.args.wanted ≡ Variable n = search rules in
    let is_none : o ≡ None = search rules in
    let noted : slice_get table n ≡ Some o = slice_get_read table (length table) n o refl (ltb-true n (length table) (sym there.0)) there.1 in
    let other : region_eq s Unique ≡ false = search rules in
    subst (λ w. Stands table (slice_set table n (Some s)) w s s) (sym is) (first_stands table n s (noted ∙ ap Some is_none) other)
