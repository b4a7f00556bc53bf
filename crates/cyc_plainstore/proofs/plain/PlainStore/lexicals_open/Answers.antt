use Rattle.std.proofs.Common.{◌≡◌, ◌≤◌, length, subst, ◌∙◌, arith}
use Rattle.cyc_store.specs.Ledger.{Stored}
use Rattle.cyc_store.specs.State.{lexical_count}
use Rattle.cyc_store.proofs.KeptServices.{kept-lexicals, kept-lexicals_few}
use Rattle.cyc_plainstore.proofs.plain.PlainStore.lexicals_open.Goals as goal

pub overflow_cast-result : goal.overflow_cast-result
overflow_cast-result c =
    let f = c.self.inside in
    let few : length f.lexicals.items ≤ 65536 = kept-lexicals_few f.table f.lexicals.items f.classes f.ledger.blocks c.self.invariant in
    record { fits = omega (arith, few, c.len.ensures) }

pub returns : goal.returns
returns c =
    let f = c.self.inside in
    let counted : c.len.result ≡ length f.lexicals.items = omega (arith, c.len.ensures) in
    subst (λ (v : Stored). c.len.result ≡ lexical_count v.blocks.regions) c.self.view_is (counted ∙ kept-lexicals f.table f.lexicals.items f.classes f.ledger.blocks c.self.invariant)
