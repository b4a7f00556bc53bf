use Rattle.std.proofs.Common.{subst}
use Rattle.cyc_store.specs.Ledger.{Stored, held_of}
use Rattle.cyc_store.specs.Ordered.{IsOrdered}
use Rattle.cyc_pagestore.proofs.Finding.{stored-ordered}
use Rattle.cyc_pagestore.proofs.paged.PageStore.lies_in_pages.Goals as goal

pub returns : goal.returns
returns c =
    let f = c.self.inside in
    subst (λ (v : Stored). IsOrdered (held_of v)) c.self.view_is (stored-ordered f.table f.lexicals.items f.classes f.ledger.blocks c.self.invariant.stored)
