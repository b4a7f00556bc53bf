use Rattle.std.proofs.Common.{ap, ◌∙◌, arith}
use Rattle.std.specs.Prelude.{bit_or}
use Rattle.cyc_flow.specs.inside.Numbers.{has_number, with_words}
use Rattle.cyc_flow.proofs.Sets.{has_either, or_swapped}
use Rattle.cyc_flow.proofs.touched.united.Goals as goal

pub returns-then-len : goal.returns-then-len
returns-then-len c = λ n.
    has_either c.either_each.result.items c.args.other.items c.args.one.items (omega (arith, c.if-len.true, c.len.ensures, c.len-2.ensures)) (c.either_each.ensures ∙ ap (with_words bit_or c.args.other.items) c.deref.ensures.value) n
    ∙ or_swapped (has_number c.args.other.items n) (has_number c.args.one.items n)

pub returns-else-len : goal.returns-else-len
returns-else-len c = λ n.
    has_either c.either_each-else-len.result.items c.args.one.items c.args.other.items (omega (arith, c.if-len.false, c.len.ensures, c.len-2.ensures)) (c.either_each-else-len.ensures ∙ ap (with_words bit_or c.args.one.items) c.deref-else-len.ensures.value) n
