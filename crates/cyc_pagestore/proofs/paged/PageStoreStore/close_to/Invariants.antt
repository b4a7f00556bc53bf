use Rattle.std.proofs.Common.{◌≡◌}
use Rattle.cyc_store.specs.State.{lexical_count, down_to}
use Rattle.cyc_pagestore.proofs.paged.PageStoreStore.close_to.Given as goal

-- Invariant: only the store's regions have changed so far, and closing the remaining regions gives the result that the contract requires.
abbrev pub invariant-loop-self : goal.invariant-loop-self
invariant-loop-self l = record {
  same : l.self ≡ record l.fn.self { blocks = record l.fn.self.blocks { regions = l.self.blocks.regions } };
  down : down_to l.mark l.self.blocks.regions ≡ down_to l.mark l.fn.self.blocks.regions;
}

abbrev pub decreases-loop-self : goal.decreases-loop-self
decreases-loop-self l = lexical_count l.self.blocks.regions
