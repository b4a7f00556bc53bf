use Rattle.std.proofs.Common.{◌+◌, ap, sym, subst, ◌∙◌}
use Rattle.cyc_registers.specs.inside.Sharing.{AreGroups, with_group}
use Rattle.cyc_registers.proofs.CheckedHomes.{more_groups}
use Rattle.cyc_registers.proofs.sharing.groups_of.Goals as goal

pub loop-register-preserved : goal.loop-register-preserved
loop-register-preserved c =
    let loop = c.loop-register in
    let holders = c.args.holders.now in
    subst (AreGroups holders (loop.register + 1)) (sym (c.in_ok-add_group.ensures ∙ ap (with_group loop.groups.items) c.mask_at.ensures))
    (more_groups holders loop.groups.items loop.register loop.invariant)
