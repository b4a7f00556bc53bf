use Rattle.std.proofs.Common.{◌≡◌, ◌+◌, ◌*◌, ◌/◌, true, None, subst, ◌∙◌, arith}
use Rattle.std.specs.Prelude.{is_some}
use Rattle.cyc_store.specs.Ledger.{Stored}
use Rattle.cyc_store.specs.State.{lookup, handle_of}
use Rattle.cyc_pagestore.specs.inside.Table.{IsRoot}
use Rattle.cyc_pagestore.proofs.Finding.{even-unnamed, past-unnamed, rest-unnamed, root-known}
use Rattle.cyc_pagestore.proofs.paged.PageStore.root_of.Goals as goal

pub returns-then-handle-eq0 : goal.returns-then-handle-eq0
returns-then-handle-eq0 c =
    let f = c.self.inside in
    subst (λ (v : Stored). lookup handle_of v.blocks.regions c.args.handle ≡ None) c.self.view_is
    (even-unnamed f.table f.lexicals.items f.classes f.ledger.blocks c.self.invariant.stored c.args.handle c.if-handle-eq0.true)

pub returns-then-count-page : goal.returns-then-count-page
returns-then-count-page c =
    let f = c.self.inside in
    subst (λ (v : Stored). lookup handle_of v.blocks.regions c.args.handle ≡ None) c.self.view_is
    (past-unnamed f.table f.lexicals.items f.classes f.ledger.blocks c.self.invariant.stored c.args.handle (omega (arith, c.if-count-page.true, c.most-count.ensures)))

pub returns-in_default : goal.returns-in_default
returns-in_default c =
    let f = c.self.inside in
    subst (λ (v : Stored). lookup handle_of v.blocks.regions c.args.handle ≡ None) c.self.view_is
    (rest-unnamed f.table f.lexicals.items f.classes f.ledger.blocks c.self.invariant.stored c.args.handle c.if-handle-eq0.false (omega (arith, c.if-count-page.false, c.most-count.ensures))
    (λ e. c.in_default.not-Heap (c.role.ensures ∙ e)) (λ e. c.in_default.not-Lexical (c.role.ensures ∙ e)) (λ e. c.in_default.not-Dynamic (c.role.ensures ∙ e)))

pub returns-in-Heap : goal.returns-in-Heap
returns-in-Heap c =
    let f = c.self.inside in
    subst (λ (v : Stored). (c.args.handle ≡ 2 * (c.args.handle / 2) + 1) × (is_some (lookup handle_of v.blocks.regions c.args.handle) ≡ true)) c.self.view_is
    (root-known f.table f.lexicals.items f.classes f.ledger.blocks c.self.invariant.stored c.args.handle c.if-handle-eq0.false (omega (arith, c.if-count-page.false, c.most-count.ensures))
    (subst IsRoot c.role.ensures c.in-Heap.is))
