use Rattle.std.proofs.Common.{◌+◌, ◌*◌, ◌≤◌, sym, ap, subst, ◌∙◌}
use Rattle.std.specs.Vec.{vec_capacity}
use Rattle.cyc_store.specs.Ledger.{Blocks, Stored, held_of, store_of}
use Rattle.cyc_store.specs.State.{StoreState}
use Rattle.cyc_store.specs.Slots.{HasSlot, Fills}
use Rattle.cyc_pagestore.specs.inside.Table.{TableState}
use Rattle.cyc_pagestore.proofs.Cutting.{next-dead, next-fresh, next-small, next-there, next-stored, next-fills}
use Rattle.cyc_pagestore.proofs.Counting.{usage-same}
use Rattle.cyc_pagestore.proofs.paged.PageStore.fill.Goals as goal

pub next_slot-word-requires-clause-dead : goal.next_slot-word-requires-clause-dead
next_slot-word-requires-clause-dead c =
    let f = c.self.inside in let s = c.self.invariant.stored in
    next-dead f.table f.lexicals.items f.classes f.ledger.blocks s c.args.class c.requires.class

pub next_slot-word-requires-clause-fresh : goal.next_slot-word-requires-clause-fresh
next_slot-word-requires-clause-fresh c =
    let f = c.self.inside in let s = c.self.invariant.stored in
    next-fresh f.table f.lexicals.items f.classes f.ledger.blocks s c.args.class c.requires.class
    (subst (λ (v : Stored). HasSlot (held_of v) c.args.class) (sym c.self.view_is) c.requires.some)

pub mark-requires : goal.mark-requires
mark-requires c =
    let f = c.self.inside in let s = c.self.invariant.stored in
    subst (λ n. c.next_slot-word.result.0 + n ≤ 1024 * f.table.most) (sym c.size_of-size.ensures)
    (next-there f.table f.lexicals.items f.classes f.ledger.blocks s c.args.class c.requires.class
    (subst (λ (v : Stored). HasSlot (held_of v) c.args.class) (sym c.self.view_is) c.requires.some) c.next_slot-word.result c.next_slot-word.ensures)

pub address_at-address-requires : goal.address_at-address-requires
address_at-address-requires c =
    let f = c.self.inside in let s = c.self.invariant.stored in
    next-small f.table f.lexicals.items f.classes f.ledger.blocks s c.args.class c.requires.class
    (subst (λ (v : Stored). HasSlot (held_of v) c.args.class) (sym c.self.view_is) c.requires.some) c.next_slot-word.result c.next_slot-word.ensures

pub invariant_of-self : goal.invariant_of-self
invariant_of-self c =
    let f = c.self.inside in let s = c.self.invariant.stored in
    record {
      room = subst (λ n. n ≤ vec_capacity f.lexicals) (sym (ap (λ (z : TableState). z.most) c.mark.ensures.same)) c.self.invariant.room;
      stored = next-stored f.table f.lexicals.items f.classes f.ledger.blocks s c.args.class c.requires.class
          (subst (λ (v : Stored). HasSlot (held_of v) c.args.class) (sym c.self.view_is) c.requires.some) c.next_slot-word.result c.next_slot-word.ensures
          c.address_at-address.result c.size_of-size.result c.address_at-address.ensures c.size_of-size.ensures c.with-self-inside.result.blocks c.with-self-inside.ensures c.mark.new.self c.mark.ensures;
      usage =
          let fills = next-fills f.table f.lexicals.items f.classes f.ledger.blocks s c.args.class c.requires.class (subst (λ (v : Stored). HasSlot (held_of v) c.args.class) (sym c.self.view_is) c.requires.some) c.next_slot-word.result c.next_slot-word.ensures
          c.address_at-address.result c.size_of-size.result c.address_at-address.ensures c.size_of-size.ensures c.with-self-inside.result.blocks c.with-self-inside.ensures c.mark.new.self c.mark.ensures in
          usage-same f.table f.lexicals.items f.classes f.ledger.blocks s f.usage c.self.invariant.usage c.mark.new.self.most (ap (λ (z : TableState). z.most) c.mark.ensures.same) c.with-self-inside.result.blocks
          (ap (λ (k : Blocks). k.regions) c.with-self-inside.ensures) (ap (λ (k : StoreState). k.classes) fills.held ∙ fills.classes);
    }

pub returns : goal.returns
returns c =
    let f = c.self.inside in let s = c.self.invariant.stored in
    subst (λ (v : Stored). Fills (held_of v) c.args.class c.address_at-address.result (store_of c.mark.new.self.most c.mark.new.self.words c.with-self-inside.result.blocks)) c.self.view_is
    (next-fills f.table f.lexicals.items f.classes f.ledger.blocks s c.args.class c.requires.class
    (subst (λ (v : Stored). HasSlot (held_of v) c.args.class) (sym c.self.view_is) c.requires.some) c.next_slot-word.result c.next_slot-word.ensures
    c.address_at-address.result c.size_of-size.result c.address_at-address.ensures c.size_of-size.ensures c.with-self-inside.result.blocks c.with-self-inside.ensures c.mark.new.self c.mark.ensures)
