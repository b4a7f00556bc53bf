use Rattle.std.proofs.Common.{ℕ, ◌+◌, ◌≤◌, List, length, sym, subst}
use Rattle.cyc_store.specs.Ledger.{Stored, held_of, store_of}
use Rattle.cyc_store.specs.Slots.{HasSlot, Fills}
use Rattle.cyc_store.proofs.KeptSlots.{dead-there, fresh-there, fill-small, fill-there, fill-fills, fill-kept}
use Rattle.cyc_plainstore.proofs.plain.PlainStore.fill.Goals as goal

pub next_slot-word-requires-clause-dead : goal.next_slot-word-requires-clause-dead
next_slot-word-requires-clause-dead c =
    let f = c.self.inside in
    dead-there f.table f.lexicals.items f.classes f.ledger.blocks c.self.invariant c.args.class c.requires.class

pub next_slot-word-requires-clause-fresh : goal.next_slot-word-requires-clause-fresh
next_slot-word-requires-clause-fresh c =
    let f = c.self.inside in
    fresh-there f.table f.lexicals.items f.classes f.ledger.blocks c.self.invariant c.args.class c.requires.class
    (subst (λ (v : Stored). HasSlot (held_of v) c.args.class) (sym c.self.view_is) c.requires.some)

pub mark-requires : goal.mark-requires
mark-requires c =
    let f = c.self.inside in
    subst (λ n. c.next_slot-word.result.0 + n ≤ length f.table.live.items) (sym c.size_of-size.ensures)
    (fill-there f.table f.lexicals.items f.classes f.ledger.blocks c.self.invariant c.args.class c.requires.class
    (subst (λ (v : Stored). HasSlot (held_of v) c.args.class) (sym c.self.view_is) c.requires.some) c.next_slot-word.result c.next_slot-word.ensures)

pub address_at-address-requires : goal.address_at-address-requires
address_at-address-requires c =
    let f = c.self.inside in
    fill-small f.table f.lexicals.items f.classes f.ledger.blocks c.self.invariant c.args.class c.requires.class
    (subst (λ (v : Stored). HasSlot (held_of v) c.args.class) (sym c.self.view_is) c.requires.some) c.next_slot-word.result c.next_slot-word.ensures

pub invariant_of-self : goal.invariant_of-self
invariant_of-self c =
    let f = c.self.inside in
    fill-kept f.table f.lexicals.items f.classes f.ledger.blocks c.self.invariant c.args.class c.requires.class
    (subst (λ (v : Stored). HasSlot (held_of v) c.args.class) (sym c.self.view_is) c.requires.some) c.next_slot-word.result c.next_slot-word.ensures
    c.address_at-address.result c.size_of-size.result c.address_at-address.ensures c.size_of-size.ensures c.with-self-inside.result.blocks c.with-self-inside.ensures
    _ c.mark.ensures.most c.mark.ensures.words c.mark.ensures.live c.mark.ensures.whole c.mark.ensures.free c.mark.ensures.rows

pub returns : goal.returns
returns c =
    let f = c.self.inside in
    let table = c.mark.new.self in
    let blocks = c.with-self-inside.result.blocks in
    let fills : Fills (held_of c.args.self.now) c.args.class c.address_at-address.result (store_of f.table.most f.table.words.items blocks) =
    subst (λ (v : Stored). Fills (held_of v) c.args.class c.address_at-address.result (store_of f.table.most f.table.words.items blocks)) c.self.view_is
    (fill-fills f.table f.lexicals.items f.classes f.ledger.blocks c.self.invariant c.args.class c.requires.class
    (subst (λ (v : Stored). HasSlot (held_of v) c.args.class) (sym c.self.view_is) c.requires.some) c.next_slot-word.result c.next_slot-word.ensures
    c.address_at-address.result c.size_of-size.result c.address_at-address.ensures c.size_of-size.ensures blocks c.with-self-inside.ensures) in
    subst (λ (most : ℕ). Fills (held_of c.args.self.now) c.args.class c.address_at-address.result (store_of most table.words.items blocks)) (sym c.mark.ensures.most)
    (subst (λ (words : List ℕ). Fills (held_of c.args.self.now) c.args.class c.address_at-address.result (store_of f.table.most words blocks)) (sym c.mark.ensures.words) fills)
