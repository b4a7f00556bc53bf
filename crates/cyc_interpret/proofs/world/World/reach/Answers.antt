use Rattle.std.proofs.Common.{sym, ◌∙◌, slice_get}
use Rattle.cyc_interpret.specs.WorldView.{view_owner}
use Rattle.cyc_interpret.specs.View.{view_world}
use Rattle.cyc_interpret.proofs.Kept.{there, ended, never}
use Rattle.cyc_interpret.proofs.world.World.reach.Goals as goal

pub returns-in-None : goal.returns-in-None
returns-in-None c = never (view_world c.args.self.now) (slice_get (view_world c.args.self.now).objects c.args.object) c.in-None.ensures

pub returns-then-is_live : goal.returns-then-is_live
returns-then-is_live c =
    there (view_world c.args.self.now) (slice_get (view_world c.args.self.now).objects c.args.object) (view_owner c.in-Some.owner) c.in-Some.ensures (sym c.is_live.ensures ∙ c.if-is_live.true)

pub returns-else-is_live : goal.returns-else-is_live
returns-else-is_live c =
    ended (view_world c.args.self.now) (slice_get (view_world c.args.self.now).objects c.args.object) (view_owner c.in-Some.owner) c.in-Some.ensures (sym c.is_live.ensures ∙ c.if-is_live.false)
