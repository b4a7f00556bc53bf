use Rattle.std.proofs.Common.{◌≡◌, ◌+◌, ◌*◌, ◌<◌, ◌≤◌, Some, true, length, sym, subst, arith}
use Rattle.std.specs.Prelude.{is_some}
use Rattle.cyc_store.specs.Ledger.{Stored, held_of}
use Rattle.cyc_store.specs.State.{word_at}
use Rattle.cyc_store.specs.declared.range.TheConstants.{STORE_BASE, PAGE_WORDS}
use Rattle.cyc_pagestore.proofs.Cutting.{words-all}
use Rattle.cyc_pagestore.proofs.Finding.{word-inside, word-read}
use Rattle.cyc_pagestore.proofs.paged.PageStoreStore.load.Goals as goal

pub word-requires : goal.word-requires
word-requires c =
    let f = c.self.inside in let s = c.self.invariant.stored in
    let inside = subst (λ (v : Stored). c.in-Some.word < length v.words) (sym c.self.view_is) c.in-Some.ensures.0 in
    let all = words-all f.table f.lexicals.items f.classes f.ledger.blocks s in
    omega (arith, inside, all)

pub returns-clause-word : goal.returns-clause-word
returns-clause-word c =
    let f = c.self.inside in let s = c.self.invariant.stored in
    let inside = subst (λ (v : Stored). c.in-Some.word < length v.words) (sym c.self.view_is) c.in-Some.ensures.0 in
    let live = subst (λ (v : Stored). is_some (word_at (held_of v) c.args.address) ≡ true) (sym c.self.view_is) c.in-Some.ensures.2 in
    subst (λ (v : Stored). Some c.word.result ≡ word_at (held_of v) c.args.address) c.self.view_is
    (word-read f.table f.lexicals.items f.classes f.ledger.blocks s c.args.address c.in-Some.word c.in-Some.ensures.1 inside live c.word.result c.word.ensures)

pub returns-clause-inside : goal.returns-clause-inside
returns-clause-inside c some =
    let f = c.self.inside in let s = c.self.invariant.stored in
    let inside = subst (λ (v : Stored). c.in-Some.word < length v.words) (sym c.self.view_is) c.in-Some.ensures.0 in
    subst (λ (v : Stored). (STORE_BASE ≤ c.args.address) × (c.args.address < STORE_BASE + 4 * (PAGE_WORDS * (held_of v).pages))) c.self.view_is
    (word-inside f.table f.lexicals.items f.classes f.ledger.blocks s c.args.address c.in-Some.word c.in-Some.ensures.1 inside)
