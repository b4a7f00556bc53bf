use Rattle.std.proofs.Common.{ap, ◌∙◌, map}
use Rattle.cyc_elf.specs.Outline.{fields_of}
use Rattle.cyc_elf.specs.inside.Parts.{in_order}
use Rattle.cyc_elf.proofs.Apart.{in_order-are_apart}
use Rattle.cyc_elf.proofs.table.are_apart.Goals as goal

pub returns : goal.returns
returns c =
    c.in_order.ensures ∙ ap (λ xs. in_order 0 (map fields_of xs)) c.deref.ensures.value
    ∙ in_order-are_apart c.args.loads.now c.in_ok-sorted.sorted.items c.in_ok-sorted.ensures.permutation c.in_ok-sorted.ensures.sorted
