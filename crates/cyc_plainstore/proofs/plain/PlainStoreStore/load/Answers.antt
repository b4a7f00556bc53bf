use Rattle.std.proofs.Common.{◌≡◌, ◌+◌, ◌*◌, ◌<◌, ◌≤◌, Some, true, length, sym, subst, arith}
use Rattle.std.specs.Prelude.{is_some}
use Rattle.cyc_store.specs.Ledger.{Stored, held_of}
use Rattle.cyc_store.specs.State.{word_at}
use Rattle.cyc_store.specs.declared.range.TheConstants.{STORE_BASE, PAGE_WORDS}
use Rattle.cyc_store.proofs.KeptLoads.{load-inside, load-word}
use Rattle.cyc_plainstore.proofs.plain.PlainStoreStore.load.Goals as goal

pub index-requires : goal.index-requires
index-requires c =
    let f = c.self.inside in
    let inside : c.in-Some.word < length f.table.words.items = subst (λ (v : Stored). c.in-Some.word < length v.words) (sym c.self.view_is) c.in-Some.ensures.0 in
    omega (arith, inside)

pub returns-clause-word : goal.returns-clause-word
returns-clause-word c =
    let f = c.self.inside in
    let inside : c.in-Some.word < length f.table.words.items = subst (λ (v : Stored). c.in-Some.word < length v.words) (sym c.self.view_is) c.in-Some.ensures.0 in
    subst (λ (v : Stored). Some c.index.result.now ≡ word_at (held_of v) c.args.address) c.self.view_is
    (load-word f.table.most f.table.words.items f.ledger.blocks c.args.address c.in-Some.word c.index.result.now c.in-Some.ensures.1 inside
    (subst (λ (v : Stored). is_some (word_at (held_of v) c.args.address) ≡ true) (sym c.self.view_is) c.in-Some.ensures.2) c.index.ensures)

pub returns-clause-inside : goal.returns-clause-inside
returns-clause-inside c some =
    let f = c.self.inside in
    let inside : c.in-Some.word < length f.table.words.items = subst (λ (v : Stored). c.in-Some.word < length v.words) (sym c.self.view_is) c.in-Some.ensures.0 in
    subst (λ (v : Stored). (STORE_BASE ≤ c.args.address) × (c.args.address < STORE_BASE + 4 * (PAGE_WORDS * (held_of v).pages))) c.self.view_is
    (load-inside f.table f.lexicals.items f.classes f.ledger.blocks c.self.invariant c.args.address c.in-Some.word c.in-Some.ensures.1 inside)
