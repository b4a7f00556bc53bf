use Rattle.std.proofs.Common.{rules, ◌≡◌, ℕ, refl, ap, ◌∙◌, true, false, List, map, length, arith}
use Rattle.cyc_words.specs.Demand.{class_of}
use Rattle.cyc_meaning.specs.Values.{block_size}
use Rattle.cyc_meaning.specs.State.{Object, Unique}
use Rattle.cyc_interpret.specs.declared.objects.Owner.TheVariants as owner
use Rattle.cyc_interpret.specs.WorldView.{view_cell}
use Rattle.cyc_interpret.specs.View.{view_world}
use Rattle.cyc_interpret.proofs.Changed.{object_within, seen_unique, freed_some, freed_all_counts, frees_viewed}
use Rattle.cyc_interpret.proofs.world.World.free.Goals as goal

pub overflow_sub-self : goal.overflow_sub-self
overflow_sub-self c =
    let w = c.args.self.now in
    let o = c.index_mut-object.result.now in
    let eleven : length w.live ≡ 11 = search rules in
    let named : c.class_of-class.result ≡ class_of (block_size (map view_cell o.cells.items)) = c.class_of-class.ensures.is ∙ ap (λ (n : ℕ). class_of n) c.block_size.ensures in
    let there = seen_unique w.objects.items c.args.number o (object_within w.objects.items c.args.number (Unique true) c.requires) c.index_mut-object.ensures.value c.requires in
    freed_some w.live eleven w.objects.items w.counts (map view_cell o.cells.items) c.class_of-class.result named (omega (arith, c.class_of-class.ensures.bound)) c.args.number there

pub invariant_of-self : goal.invariant_of-self
invariant_of-self c =
    let w = c.args.self.now in
    let o = c.index_mut-object.result.now in
    let eleven : length w.live ≡ 11 = search rules in
    let named : c.class_of-class.result ≡ class_of (block_size (map view_cell o.cells.items)) = c.class_of-class.ensures.is ∙ ap (λ (n : ℕ). class_of n) c.block_size.ensures in
    let there = seen_unique w.objects.items c.args.number o (object_within w.objects.items c.args.number (Unique true) c.requires) c.index_mut-object.ensures.value c.requires in record {
      demand = w.demand;
      counts = freed_all_counts w.live eleven w.objects.items w.counts (map view_cell o.cells.items) c.class_of-class.result named (omega (arith, c.class_of-class.ensures.bound)) c.args.number o (record { owner = owner.Unique false; cells = o.cells }) there refl;
    }

pub returns : goal.returns
returns c = λ x at.
    let w = c.args.self.now in
    let o = c.index_mut-object.result.now in
    ap (λ (xs : List Object). record (view_world w) { objects = xs }) (frees_viewed w.objects.items c.args.number o x at c.index_mut-object.ensures.value (record { owner = owner.Unique false; cells = o.cells }) refl)
