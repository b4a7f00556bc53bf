use Rattle.std.proofs.Common.{◌≡◌, ℕ, false, List, [], ◌∷◌, set, sym, ap, subst, ◌∙◌}
use Rattle.cyc_store.specs.declared.row.Role.TheVariants.{Heap}
use Rattle.cyc_rawpages.specs.inside.Pool.{PoolState, IsFree, new_pool}
use Rattle.cyc_pagestore.specs.declared.step.Step.TheVariants.{Made, Taken, Began}
use Rattle.cyc_pagestore.specs.declared.table.Spot.{Spot}
use Rattle.cyc_pagestore.specs.inside.Links.{Links, no_links, after}
use Rattle.cyc_pagestore.specs.inside.Table.{AreAlone, IsBacked}
use Rattle.cyc_pagestore.proofs.Beginning.{first-free, first-alone, new-keeps, new-opens}
use Rattle.cyc_pagestore.proofs.table.PoolTable.new.Goals as goal

pub take_first-requires-clause-first : goal.take_first-requires-clause-first
take_first-requires-clause-first c = subst (λ (p : PoolState). IsFree p.free 0) (sym c.in_ok-pool.ensures) (first-free c.args.pages c.requires.least c.requires.most)

pub take_first-requires-clause-alone : goal.take_first-requires-clause-alone
take_first-requires-clause-alone c = subst AreAlone (sym c.in_ok-pool.ensures) (first-alone c.args.pages c.requires.least c.requires.most)

-- The state of the pool after its first page is taken and each field of that page is written, given the state after each of these calls.
pool-is : (pool taken owned filled last : PoolState) (n : ℕ) → pool ≡ new_pool n → taken ≡ record pool { free = set pool.free 0 false; chains = set pool.chains 0 (0 ∷ []) }
    → owned ≡ record taken { owners = set taken.owners 0 0 } → filled ≡ record owned { fills = set owned.fills 0 0 } → last ≡ record filled { serials = set filled.serials 0 1 }
    → last ≡ record (new_pool n) {
      free = set (new_pool n).free 0 false;
      chains = set (new_pool n).chains 0 (0 ∷ []);
      owners = set (new_pool n).owners 0 0;
      fills = set (new_pool n).fills 0 0;
      serials = set (new_pool n).serials 0 1;
    }
pool-is pool taken owned filled last n first second third fourth fifth =
    fifth
    ∙ ap (λ (p : PoolState). record p { serials = set p.serials 0 1 })
    (fourth ∙ ap (λ (p : PoolState). record p { fills = set p.fills 0 0 })
    (third ∙ ap (λ (p : PoolState). record p { owners = set p.owners 0 0 })
    (second ∙ ap (λ (p : PoolState). record p { free = set p.free 0 false; chains = set p.chains 0 (0 ∷ []) }) first)))

-- The rows of the page table (each the data of one page) after the steps that create the table: all
-- pages are made, page 0 is taken, and the heap begins in it.
links-are : (new made taken last : Links) (n : ℕ) → new ≡ no_links → made ≡ after new (Made n) → taken ≡ after made (Taken 0) → last ≡ after taken (Began 0 Heap)
    → last ≡ after (after (after no_links (Made n)) (Taken 0)) (Began 0 Heap)
links-are new made taken last n first second third fourth =
    fourth ∙ ap (λ (l : Links). after l (Began 0 Heap)) (third ∙ ap (λ (l : Links). after l (Taken 0)) (second ∙ ap (λ (l : Links). after l (Made n)) first))

pub invariant_of-result : goal.invariant_of-result
invariant_of-result c =
    let n = c.args.pages in
    subst (λ (spots : List Spot). IsBacked c.set_serial.new.self n (set spots 0 (record { role = Heap; newest = 0 })) 2 c.with.result.links) (sym (c.in_ok-spots.ensures.items_if_clones_equal (λ y e. e)))
    (new-keeps n c.requires.least c.requires.most c.set_serial.new.self
    (pool-is c.in_ok-pool.pool c.take_first.new.pool c.set_owner.new.self c.set_fill.new.self c.set_serial.new.self n c.in_ok-pool.ensures c.take_first.ensures c.set_owner.ensures c.set_fill.ensures c.set_serial.ensures)
    c.with.result.links (links-are c.new-2.result.links c.with-made.result.links c.with-taken.result.links c.with.result.links n c.new-2.ensures c.with-made.ensures c.with-taken.ensures c.with.ensures))

pub returns : goal.returns
returns c =
    let n = c.args.pages in
    new-opens n c.requires.least c.requires.most c.set_serial.new.self
    (pool-is c.in_ok-pool.pool c.take_first.new.pool c.set_owner.new.self c.set_fill.new.self c.set_serial.new.self n c.in_ok-pool.ensures c.take_first.ensures c.set_owner.ensures c.set_fill.ensures c.set_serial.ensures)
    c.with.result.links (links-are c.new-2.result.links c.with-made.result.links c.with-taken.result.links c.with.result.links n c.new-2.ensures c.with-made.ensures c.with-taken.ensures c.with.ensures)
