use Rattle.std.proofs.Common.{◌≡◌, ◌+◌, ◌*◌, ◌/◌, ◌<◌, true, None, length, sym, subst, arith}
use Rattle.std.specs.Prelude.{is_some}
use Rattle.cyc_words.proofs.Numbers.{odd_is_twice_and_one}
use Rattle.cyc_store.specs.Ledger.{Stored}
use Rattle.cyc_store.specs.State.{lookup, handle_of}
use Rattle.cyc_store.proofs.KeptClosing.{even-none, past-none, other-none, root-named}
use Rattle.cyc_plainstore.proofs.plain.PlainStore.root_of.Goals as goal

pub returns-then-handle-eq0 : goal.returns-then-handle-eq0
returns-then-handle-eq0 c =
    let f = c.self.inside in
    subst (λ (v : Stored). lookup handle_of v.blocks.regions c.args.handle ≡ None) c.self.view_is
    (even-none f.table f.lexicals.items f.classes f.ledger.blocks c.self.invariant c.args.handle c.if-handle-eq0.true)

pub returns-then-count-page : goal.returns-then-count-page
returns-then-count-page c =
    let f = c.self.inside in
    subst (λ (v : Stored). lookup handle_of v.blocks.regions c.args.handle ≡ None) c.self.view_is
    (past-none f.table f.lexicals.items f.classes f.ledger.blocks c.self.invariant c.args.handle (omega (arith, c.if-count-page.true, c.len-count.ensures)))

pub returns-in_default : goal.returns-in_default
returns-in_default c =
    let f = c.self.inside in
    let there : c.args.handle / 2 < length f.table.rows.items = omega (arith, c.if-count-page.false, c.len-count.ensures) in
    subst (λ (v : Stored). lookup handle_of v.blocks.regions c.args.handle ≡ None) c.self.view_is
    (subst (λ h. lookup handle_of f.ledger.blocks.regions h ≡ None) (sym (odd_is_twice_and_one c.args.handle c.if-handle-eq0.false))
    (other-none f.table f.lexicals.items f.classes f.ledger.blocks c.self.invariant (c.args.handle / 2) c.index-first.result.now there c.index-first.ensures c.in_default.not-Heap c.in_default.not-Lexical c.in_default.not-Dynamic))

pub returns-in-Heap : goal.returns-in-Heap
returns-in-Heap c =
    let f = c.self.inside in
    let there : c.args.handle / 2 < length f.table.rows.items = omega (arith, c.if-count-page.false, c.len-count.ensures) in
    let odd = odd_is_twice_and_one c.args.handle c.if-handle-eq0.false in
    subst (λ (v : Stored). (c.args.handle ≡ 2 * (c.args.handle / 2) + 1) × (is_some (lookup handle_of v.blocks.regions c.args.handle) ≡ true)) c.self.view_is (
      odd,
      subst (λ h. is_some (lookup handle_of f.ledger.blocks.regions h) ≡ true) (sym odd)
          (root-named f.table f.lexicals.items f.classes f.ledger.blocks c.self.invariant (c.args.handle / 2) c.index-first.result.now there c.index-first.ensures c.in-Heap.is),
    )
