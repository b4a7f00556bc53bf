use Rattle.std.proofs.Common.{rules, ◌≡◌, ℕ, ◌+◌, refl, ap, sym, ◌∙◌, true, List, [], ◌∷◌, ◌++◌, map, length, set, get_or, max, arith}
use Rattle.cyc_words.specs.Demand.{class_of}
use Rattle.cyc_meaning.specs.Values.{block_size}
use Rattle.cyc_meaning.specs.State.{Unique, Object, counted}
use Rattle.cyc_meaning.specs.Objects.{live_in}
use Rattle.cyc_interpret.specs.declared.objects.Owner.TheVariants as owner
use Rattle.cyc_interpret.specs.declared.objects.Object.{Object as ObjectCode}
use Rattle.cyc_interpret.specs.WorldView.{view_region, view_object, view_cell}
use Rattle.cyc_interpret.specs.View.{view_world}
use Rattle.cyc_interpret.proofs.Pages.{raised_pages, class_within}
use Rattle.cyc_interpret.proofs.Changed.{made_counts, made_classes, live_small, objects_more}
use Rattle.cyc_interpret.proofs.world.World.create_unique.Goals as goal

pub overflow_add-live : goal.overflow_add-live
overflow_add-live c =
    let w = c.args.self.now in
    let few = live_small w.live w.objects.items c.class_of-class.result (w.counts c.class_of-class.result (omega (arith, c.class_of-class.ensures.bound))) in
    record { fits = omega (arith, few, w.objects.ok.0, w.objects.ok.1, w.objects.small) }

pub pages_for-wanted-requires-clause-live : goal.pages_for-wanted-requires-clause-live
pages_for-wanted-requires-clause-live c =
    let w = c.args.self.now in
    let few = live_small w.live w.objects.items c.class_of-class.result (w.counts c.class_of-class.result (omega (arith, c.class_of-class.ensures.bound))) in
    omega (arith, few, w.objects.ok.0, w.objects.ok.1, w.objects.small)

pub overflow_sub-self : goal.overflow_sub-self
overflow_sub-self c =
    let w = c.args.self.now in
    let eleven : length w.classes ≡ 11 = search rules in
    let within = class_within (counted (map view_region w.regions.items)) w.classes c.class_of-class.result (omega (arith, eleven, c.class_of-class.ensures.bound)) in
    omega (arith, within, w.demand)

pub invariant_of-self-2 : goal.invariant_of-self-2
invariant_of-self-2 c =
    let w = c.args.self.now in
    let eleven : length w.live ≡ 11 = search rules in
    let classes : length w.classes ≡ 11 = search rules in
    let named : c.class_of-class.result ≡ class_of (block_size (map view_cell c.args.cells.items)) = c.class_of-class.ensures.is ∙ ap (λ (n : ℕ). class_of n) c.block_size.ensures in record {
      demand = raised_pages (counted (map view_region w.regions.items)) w.classes c.class_of-class.result c.max-raised.result w.pages c.in_ok-pages.pages (omega (arith, classes, c.class_of-class.ensures.bound)) w.demand c.in_ok-pages.ensures;
      counts = λ class less. ap (λ (xs : List ObjectCode). live_in class (map view_object xs)) c.in_ok-push.ensures.items
          ∙ made_counts w.live eleven w.objects.items w.counts (map view_cell c.args.cells.items) c.class_of-class.result named (omega (arith, c.class_of-class.ensures.bound)) (record { owner = owner.Unique true; cells = c.args.cells }) refl class less;
    }

pub returns : goal.returns
returns c =
    let w = c.args.self.now in
    let named : c.class_of-class.result ≡ class_of (block_size (map view_cell c.args.cells.items)) = c.class_of-class.ensures.is ∙ ap (λ (n : ℕ). class_of n) c.block_size.ensures in
    let counts = w.counts c.class_of-class.result (omega (arith, c.class_of-class.ensures.bound)) in
    let raised = c.max-raised.ensures ∙ ap (λ (n : ℕ). max (get_or w.classes c.class_of-class.result 0) n) c.pages_for-wanted.ensures in
    let classes = made_classes w.classes (map view_object w.objects.items) (map view_cell c.args.cells.items) c.class_of-class.result (get_or w.live c.class_of-class.result 0) c.max-raised.result named (sym counts) raised in
    let objects = objects_more w.objects.items c.push.new.self.items (record { owner = owner.Unique true; cells = c.args.cells }) c.in_ok-push.ensures.items in
    ap (λ (xs : List Object). record (view_world w) { objects = xs; classes = set w.classes c.class_of-class.result c.max-raised.result }) objects
    ∙ ap (λ (l : List ℕ). record (view_world w) { objects = map view_object w.objects.items ++ record { owner = Unique true; cells = map view_cell c.args.cells.items } ∷ []; classes = l }) classes
