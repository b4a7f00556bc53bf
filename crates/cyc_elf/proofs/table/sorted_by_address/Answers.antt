use Rattle.std.proofs.lemmas.List.Sorted.{IsNonDecreasingBy-from_sort_by_key}
use Rattle.std.proofs.Common.{rules}
use Rattle.cyc_elf.proofs.table.sorted_by_address.Goals as goal

pub returns-clause-sorted : goal.returns-clause-sorted
returns-clause-sorted c = IsNonDecreasingBy-from_sort_by_key (λ h. h.vaddr) _ c.sort_unstable_by_key.ensures.sorted (λ a r q k. search rules)
