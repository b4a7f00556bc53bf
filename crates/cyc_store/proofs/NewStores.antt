-- A new store satisfies the invariant: it contains 32-bit words, and it needs only the heap's first page.
use Rattle.std.proofs.Common.{◌≡◌, ℕ, sym, ap, subst}
use Rattle.cyc_store.specs.State.{AreWords, StoreState, demand, IsNew}

pub new_words : (pages : ℕ) (s : StoreState) → IsNew pages s → AreWords s.memory
new_words pages s (memory, words, is) = subst (λ (t : StoreState). AreWords t.memory) (sym is) words

pub new_demand : (pages : ℕ) (s : StoreState) → IsNew pages s → demand s ≡ 1
new_demand pages s (memory, words, is) = ap demand is
