use Rattle.std.proofs.Common.{◌≡◌, subst, ◌∙◌}
use Rattle.cyc_store.specs.Ledger.{Stored, held_of}
use Rattle.cyc_store.specs.State.{demand}
use Rattle.cyc_pagestore.proofs.paged.PageStore.pages_in_use.Goals as goal

pub returns : goal.returns
returns c = subst (λ (v : Stored). c.pages.result ≡ demand (held_of v)) c.self.view_is (c.pages.ensures ∙ c.self.invariant.usage.pages)
