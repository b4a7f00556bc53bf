use Rattle.std.proofs.Common.{ap, false, List}
use Rattle.cyc_meaning.specs.State.{Region}
use Rattle.cyc_interpret.specs.View.{view_world}
use Rattle.cyc_interpret.proofs.Pages.{open_within, closed_below, closed_pages}
use Rattle.cyc_interpret.proofs.Changed.{region_set}
use Rattle.cyc_interpret.proofs.world.World.close.Goals as goal

pub overflow_sub-self : goal.overflow_sub-self
overflow_sub-self c =
    let w = c.args.self.now in
    closed_below w.regions.items c.args.number c.index_mut.result.now c.close-freed.new.self w.classes (open_within w.regions.items c.args.number c.requires) c.index_mut.ensures.value w.pages c.close-freed.result w.demand c.close-freed.ensures.pages

pub invariant_of-self : goal.invariant_of-self
invariant_of-self c =
    let w = c.args.self.now in record {
      demand = closed_pages w.regions.items c.args.number c.index_mut.result.now c.close-freed.new.self w.classes (open_within w.regions.items c.args.number c.requires) c.index_mut.ensures.value w.pages c.close-freed.result w.demand c.close-freed.ensures.pages;
      counts = w.counts;
    }

pub returns : goal.returns
returns c = λ r at.
    let w = c.args.self.now in
    ap (λ (rs : List Region). record (view_world w) { regions = rs })
    (region_set w.regions.items c.args.number c.index_mut.result.now r at c.index_mut.ensures.value c.close-freed.new.self (λ (x : Region). record x { is_open = false }) c.close-freed.ensures.closed)
