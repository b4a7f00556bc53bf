use Rattle.std.proofs.Common.{◌≡◌}
use Rattle.cyc_store.specs.State.{lexical_count, down_to}
use Rattle.cyc_plainstore.proofs.plain.PlainStoreStore.close_to.Given as goal

-- Loop invariant: of all data of the store, only the list of open regions has changed so far. Closing the remaining regions down
-- to the mark, a number of open regions, gives the required result.
abbrev pub invariant-loop-self : goal.invariant-loop-self
invariant-loop-self l = record {
  same : l.self ≡ record l.fn.self { blocks = record l.fn.self.blocks { regions = l.self.blocks.regions } };
  down : down_to l.mark l.self.blocks.regions ≡ down_to l.mark l.fn.self.blocks.regions;
}

abbrev pub decreases-loop-self : goal.decreases-loop-self
decreases-loop-self l = lexical_count l.self.blocks.regions
