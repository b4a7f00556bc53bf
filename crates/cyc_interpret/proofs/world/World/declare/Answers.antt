use Rattle.std.proofs.Common.{refl}
use Rattle.cyc_interpret.specs.declared.objects.Owner.TheVariants as owner
use Rattle.cyc_interpret.proofs.Changed.{region_counts}
use Rattle.cyc_interpret.proofs.world.World.declare.Goals as goal

pub invariant_of-self-2 : goal.invariant_of-self-2
invariant_of-self-2 c =
    let w = c.args.self.now in record {
      demand = w.demand;
      counts = region_counts w.objects.items c.push-2.new.self.items (record { owner = owner.InRegion c.args.region; cells = c.push.new.self }) c.args.region refl c.in_ok-push-2.ensures.items w.live w.counts;
    }
