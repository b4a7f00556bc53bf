use Rattle.cyc_interpret.proofs.Pages.{opened_pages}
use Rattle.cyc_interpret.proofs.world.World.open.Goals as goal

pub invariant_of-self-2 : goal.invariant_of-self-2
invariant_of-self-2 c =
    let w = c.args.self.now in record {
      demand = opened_pages w.regions.items c.push.new.self.items c.new-region.result w.classes w.pages c.held.result c.in_ok-pages.pages c.in_ok-push.ensures.items w.demand c.held.ensures c.in_ok-pages.ensures;
      counts = w.counts;
    }
