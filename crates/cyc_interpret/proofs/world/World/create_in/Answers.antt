use Rattle.std.proofs.Common.{◌≡◌, ℕ, ◌+◌, refl, ap, sym, subst, ◌∙◌, List, [], ◌∷◌, ◌++◌, map, set}
use Rattle.std.proofs.lemmas.List.{get_or_default}
use Rattle.cyc_meaning.specs.Values.{block_size}
use Rattle.cyc_meaning.specs.State.{Region, Object}
use Rattle.cyc_meaning.specs.inside.Effects.{pages_in}
use Rattle.cyc_interpret.specs.declared.objects.Owner.TheVariants as owner
use Rattle.cyc_interpret.specs.declared.objects.Region.{Region as RegionCode}
use Rattle.cyc_interpret.specs.WorldView.{view_region, view_object, view_cell}
use Rattle.cyc_interpret.specs.View.{view_world}
use Rattle.cyc_interpret.proofs.Pages.{open_within, same_pages, grown_pages}
use Rattle.cyc_interpret.proofs.Changed.{region_set, objects_more, region_counts}
use Rattle.cyc_interpret.proofs.world.World.create_in.Goals as goal

pub invariant_of-self-in-Break-branch-3 : goal.invariant_of-self-in-Break-branch-3
invariant_of-self-in-Break-branch-3 c =
    let w = c.args.self.now in record {
      demand = same_pages w.regions.items c.args.region c.index_mut.result.now c.add.new.self w.classes (open_within w.regions.items c.args.region c.requires) c.index_mut.ensures.value w.pages w.demand c.in_err-add.ensures.same;
      counts = region_counts w.objects.items c.push.new.self.items (record { owner = owner.InRegion c.args.region; cells = c.args.cells }) c.args.region refl c.in_ok-push.ensures.items w.live w.counts;
    }

pub invariant_of-self-2 : goal.invariant_of-self-2
invariant_of-self-2 c =
    let w = c.args.self.now in
    let within = open_within w.regions.items c.args.region c.requires in
    let same : c.index.result.now ≡ c.index_mut.result.now =
    c.index.ensures ∙ (get_or_default w.regions.items c.args.region c.index.result.now c.index_mut.result.now within ∙ sym c.index_mut.ensures.value) in
    let grown = subst (λ (x : RegionCode). pages_in (record (view_region x) { blocks = x.blocks.items ++ c.block_size-size.result ∷ [] }) ≡ pages_in (view_region x) + c.growth.result) same c.growth.ensures in record {
      demand = grown_pages w.regions.items c.args.region c.index_mut.result.now c.add.new.self w.classes within c.index_mut.ensures.value w.pages w.demand c.growth.result c.in_ok-pages.pages (c.index_mut.result.now.blocks.items ++ c.block_size-size.result ∷ []) c.in_ok-add.ensures.added grown c.in_ok-pages.ensures;
      counts = region_counts w.objects.items c.push.new.self.items (record { owner = owner.InRegion c.args.region; cells = c.args.cells }) c.args.region refl c.in_ok-push.ensures.items w.live w.counts;
    }

pub returns : goal.returns
returns c = λ r at.
    let w = c.args.self.now in
    let size : c.block_size-size.result ≡ block_size (map view_cell c.args.cells.items) = c.block_size-size.ensures in
    let regions = region_set w.regions.items c.args.region c.index_mut.result.now r at c.index_mut.ensures.value c.add.new.self (λ (x : Region). record x { blocks = x.blocks ++ c.block_size-size.result ∷ [] }) c.in_ok-add.ensures.added in
    let objects = objects_more w.objects.items c.push.new.self.items (record { owner = owner.InRegion c.args.region; cells = c.args.cells }) c.in_ok-push.ensures.items in
    ap (λ (rs : List Region). record (view_world w) { regions = rs; objects = map view_object c.push.new.self.items }) (regions ∙ ap (λ (n : ℕ). set (map view_region w.regions.items) c.args.region (record r { blocks = r.blocks ++ n ∷ [] })) size)
    ∙ ap (λ (xs : List Object). record (view_world w) { regions = set (map view_region w.regions.items) c.args.region (record r { blocks = r.blocks ++ block_size (map view_cell c.args.cells.items) ∷ [] }); objects = xs }) objects
