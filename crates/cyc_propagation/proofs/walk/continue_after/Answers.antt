-- cyc_propagation/proofs/walk/continue_after/Answers.antt
use Rattle.cyc_propagation.specs.inside.Entries.{entry_in}
use Rattle.cyc_propagation.proofs.Entered.{gone_well}
use Rattle.cyc_propagation.proofs.walk.continue_after.Goals as goal

pub returns-then-branch-clause-right : goal.returns-then-branch-clause-right
returns-then-branch-clause-right c is_right =
    let a = c.args in
    gone_well (entry_in c.come_next.new.entries.items) a.following.now a.instruction a.index (c.in_ok-come_next.ensures.known c.if-branch.true)
