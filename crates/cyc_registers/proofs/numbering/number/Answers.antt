use Rattle.std.proofs.Common.{ℕ, ◌+◌, List, [], ◌∷◌, ◌++◌, subst, sym, ap, ◌∙◌, arith}
use Rattle.cyc_registers.specs.inside.Masks.{AreMasks}
use Rattle.cyc_registers.proofs.Bits.{one_bit, one_mask_more}
use Rattle.cyc_registers.proofs.numbering.number.Goals as goal

pub returns-clause-numbered : goal.returns-clause-numbered
returns-clause-numbered c =
    let next = c.args.next in
    let masks = c.args.masks.now.items in
    subst (λ (after : List ℕ). AreMasks after (next + 1))
    (sym (c.in_ok-push-2.ensures.items ∙ ap (λ (mask : ℕ). masks ++ mask ∷ []) (one_bit next (omega (arith, c.if-next-ge-MOST_CHOSEN.false)))))
    (one_mask_more masks next c.requires.numbered)
