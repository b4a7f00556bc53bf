use Rattle.std.proofs.Common.{ap, ◌∙◌, List}
use Rattle.cyc_meaning.specs.State.{Object}
use Rattle.cyc_meaning.proofs.WorldLaws.{cell_found}
use Rattle.cyc_interpret.specs.View.{view_world}
use Rattle.cyc_interpret.proofs.Changed.{writes, writes_counts}
use Rattle.cyc_interpret.proofs.world.World.write.Goals as goal

pub invariant_of-self : goal.invariant_of-self
invariant_of-self c =
    let w = c.args.self.now in
    let at = cell_found (view_world w) c.args.object c.args.offset c.requires.0 c.requires.1 in record {
      demand = w.demand;
      counts = λ class less. writes_counts w.objects.items c.args.object c.args.offset c.index_mut.result.now c.index_mut-2.result.now c.args.value c.requires.0 at.0 at.1 c.index_mut.ensures.value c.index_mut-2.ensures.value class ∙ w.counts class less;
    }

pub returns : goal.returns
returns c = λ at found.
    let w = c.args.self.now in
    let there = cell_found (view_world w) c.args.object c.args.offset at found in
    ap (λ (xs : List Object). record (view_world w) { objects = xs }) (writes w.objects.items c.args.object c.args.offset c.index_mut.result.now c.index_mut-2.result.now c.args.value at there.0 there.1 c.index_mut.ensures.value c.index_mut-2.ensures.value)
