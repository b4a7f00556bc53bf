use Rattle.std.proofs.Common.{◌≡◌, ◌+◌, ◌*◌, ◌^◌, ◌<◌, ◌≤◌, length, Some, sym, subst, arith}
use Rattle.cyc_store.specs.Ledger.{Stored, held_of, store_of}
use Rattle.cyc_store.specs.State.{lookup, address_of}
use Rattle.cyc_store.specs.Services.{Free, Done, Serves}
use Rattle.cyc_store.proofs.KeptFreeing.{empty-class, empty-word, empty-small, empty-live, empty-serves, empty-kept}
use Rattle.cyc_plainstore.proofs.plain.PlainStore.empty.Goals as goal

pub bounds-self-inside-class : goal.bounds-self-inside-class
bounds-self-inside-class c =
    let f = c.self.inside in let k = c.self.invariant in
    let there : lookup address_of f.ledger.blocks.unique (536870912 + 4 * c.args.word) ≡ Some (record { address = 536870912 + 4 * c.args.word; size = 2 ^ c.args.class }) =
    subst (λ (v : Stored). lookup address_of v.blocks.unique (536870912 + 4 * c.args.word) ≡ Some (record { address = 536870912 + 4 * c.args.word; size = 2 ^ c.args.class })) (sym c.self.view_is) c.requires in
    let few : c.args.class ≤ 10 = empty-class f.table f.lexicals.items f.classes f.ledger.blocks k c.args.word c.args.class there in
    omega (arith, few)

pub bounds-self-inside-class-2 : goal.bounds-self-inside-class-2
bounds-self-inside-class-2 c =
    let f = c.self.inside in let k = c.self.invariant in
    let there : lookup address_of f.ledger.blocks.unique (536870912 + 4 * c.args.word) ≡ Some (record { address = 536870912 + 4 * c.args.word; size = 2 ^ c.args.class }) =
    subst (λ (v : Stored). lookup address_of v.blocks.unique (536870912 + 4 * c.args.word) ≡ Some (record { address = 536870912 + 4 * c.args.word; size = 2 ^ c.args.class })) (sym c.self.view_is) c.requires in
    let few : c.args.class ≤ 10 = empty-class f.table f.lexicals.items f.classes f.ledger.blocks k c.args.word c.args.class there in
    omega (arith, few)

pub size_of-requires : goal.size_of-requires
size_of-requires c =
    let f = c.self.inside in let k = c.self.invariant in
    let there : lookup address_of f.ledger.blocks.unique (536870912 + 4 * c.args.word) ≡ Some (record { address = 536870912 + 4 * c.args.word; size = 2 ^ c.args.class }) =
    subst (λ (v : Stored). lookup address_of v.blocks.unique (536870912 + 4 * c.args.word) ≡ Some (record { address = 536870912 + 4 * c.args.word; size = 2 ^ c.args.class })) (sym c.self.view_is) c.requires in
    let few : c.args.class ≤ 10 = empty-class f.table f.lexicals.items f.classes f.ledger.blocks k c.args.word c.args.class there in
    omega (arith, few)

pub index_mut-requires : goal.index_mut-requires
index_mut-requires c =
    let f = c.self.inside in let k = c.self.invariant in
    let there : lookup address_of f.ledger.blocks.unique (536870912 + 4 * c.args.word) ≡ Some (record { address = 536870912 + 4 * c.args.word; size = 2 ^ c.args.class }) =
    subst (λ (v : Stored). lookup address_of v.blocks.unique (536870912 + 4 * c.args.word) ≡ Some (record { address = 536870912 + 4 * c.args.word; size = 2 ^ c.args.class })) (sym c.self.view_is) c.requires in
    let inside : c.args.word < length f.table.words.items = empty-word f.table f.lexicals.items f.classes f.ledger.blocks k c.args.word c.args.class there in
    omega (arith, inside)

pub mark-requires : goal.mark-requires
mark-requires c =
    let f = c.self.inside in let k = c.self.invariant in
    let there : lookup address_of f.ledger.blocks.unique (536870912 + 4 * c.args.word) ≡ Some (record { address = 536870912 + 4 * c.args.word; size = 2 ^ c.args.class }) =
    subst (λ (v : Stored). lookup address_of v.blocks.unique (536870912 + 4 * c.args.word) ≡ Some (record { address = 536870912 + 4 * c.args.word; size = 2 ^ c.args.class })) (sym c.self.view_is) c.requires in
    let inside : c.args.word + 2 ^ c.args.class ≤ length f.table.live.items = empty-live f.table f.lexicals.items f.classes f.ledger.blocks k c.args.word c.args.class there in
    subst (λ n. c.args.word + n ≤ length f.table.live.items) (sym c.size_of.ensures) inside

pub address_at-requires : goal.address_at-requires
address_at-requires c =
    let f = c.self.inside in let k = c.self.invariant in
    let there : lookup address_of f.ledger.blocks.unique (536870912 + 4 * c.args.word) ≡ Some (record { address = 536870912 + 4 * c.args.word; size = 2 ^ c.args.class }) =
    subst (λ (v : Stored). lookup address_of v.blocks.unique (536870912 + 4 * c.args.word) ≡ Some (record { address = 536870912 + 4 * c.args.word; size = 2 ^ c.args.class })) (sym c.self.view_is) c.requires in
    empty-small f.table f.lexicals.items f.classes f.ledger.blocks k c.args.word c.args.class there

pub invariant_of-self : goal.invariant_of-self
invariant_of-self c =
    let f = c.self.inside in let k = c.self.invariant in
    let there : lookup address_of f.ledger.blocks.unique (536870912 + 4 * c.args.word) ≡ Some (record { address = 536870912 + 4 * c.args.word; size = 2 ^ c.args.class }) =
    subst (λ (v : Stored). lookup address_of v.blocks.unique (536870912 + 4 * c.args.word) ≡ Some (record { address = 536870912 + 4 * c.args.word; size = 2 ^ c.args.class })) (sym c.self.view_is) c.requires in
    empty-kept f.table f.lexicals.items f.classes f.ledger.blocks k c.args.word c.args.class there c.address_at.result c.address_at.ensures c.with-self-inside.result.blocks c.with-self-inside.ensures
    _ c.mark.ensures.most c.mark.ensures.words c.size_of.result c.size_of.ensures c.mark.ensures.live c.mark.ensures.whole c.mark.ensures.free c.mark.ensures.rows

pub returns : goal.returns
returns c =
    let f = c.self.inside in let k = c.self.invariant in
    let there : lookup address_of f.ledger.blocks.unique (536870912 + 4 * c.args.word) ≡ Some (record { address = 536870912 + 4 * c.args.word; size = 2 ^ c.args.class }) =
    subst (λ (v : Stored). lookup address_of v.blocks.unique (536870912 + 4 * c.args.word) ≡ Some (record { address = 536870912 + 4 * c.args.word; size = 2 ^ c.args.class })) (sym c.self.view_is) c.requires in
    let table = c.mark.new.self in
    subst (λ (v : Stored). Serves (held_of v) (Free (536870912 + 4 * c.args.word)) Done (store_of table.most table.words.items c.with-self-inside.result.blocks)) c.self.view_is
    (empty-serves f.table f.lexicals.items f.classes f.ledger.blocks k c.args.word c.args.class there c.address_at.result c.address_at.ensures c.with-self-inside.result.blocks c.with-self-inside.ensures
    table c.mark.ensures.most c.mark.ensures.words c.size_of.result c.size_of.ensures c.mark.ensures.live c.mark.ensures.whole c.mark.ensures.free c.mark.ensures.rows)
