use Rattle.std.proofs.Common.{◌≡◌, ◌+◌, ◌*◌, ◌^◌, ◌≤◌, Some, sym, ap, subst, ◌∙◌, arith}
use Rattle.std.specs.Vec.{vec_capacity}
use Rattle.cyc_store.specs.Ledger.{Blocks, Stored, held_of, store_of}
use Rattle.cyc_store.specs.State.{lookup, address_of}
use Rattle.cyc_store.specs.Services.{Free, Done, Serves}
use Rattle.cyc_pagestore.specs.inside.Table.{TableState}
use Rattle.cyc_pagestore.proofs.Cutting.{freed-class, freed-word, freed-small, freed-marks, freed-stored, freed-served}
use Rattle.cyc_pagestore.proofs.Counting.{usage-same}
use Rattle.cyc_pagestore.proofs.paged.PageStore.empty.Goals as goal

pub bounds-self-inside-class : goal.bounds-self-inside-class
bounds-self-inside-class c =
    let f = c.self.inside in let s = c.self.invariant.stored in
    let there = subst (λ (v : Stored). lookup address_of v.blocks.unique (536870912 + 4 * c.args.word) ≡ Some (record { address = 536870912 + 4 * c.args.word; size = 2 ^ c.args.class })) (sym c.self.view_is) c.requires in
    let few : c.args.class ≤ 10 = freed-class f.table f.lexicals.items f.classes f.ledger.blocks s c.args.word c.args.class there in
    omega (arith, few)

pub set_word-requires : goal.set_word-requires
set_word-requires c =
    let f = c.self.inside in let s = c.self.invariant.stored in
    let there = subst (λ (v : Stored). lookup address_of v.blocks.unique (536870912 + 4 * c.args.word) ≡ Some (record { address = 536870912 + 4 * c.args.word; size = 2 ^ c.args.class })) (sym c.self.view_is) c.requires in
    freed-word f.table f.lexicals.items f.classes f.ledger.blocks s c.args.word c.args.class there

pub bounds-self-inside-class-2 : goal.bounds-self-inside-class-2
bounds-self-inside-class-2 c =
    let f = c.self.inside in let s = c.self.invariant.stored in
    let there = subst (λ (v : Stored). lookup address_of v.blocks.unique (536870912 + 4 * c.args.word) ≡ Some (record { address = 536870912 + 4 * c.args.word; size = 2 ^ c.args.class })) (sym c.self.view_is) c.requires in
    let few : c.args.class ≤ 10 = freed-class f.table f.lexicals.items f.classes f.ledger.blocks s c.args.word c.args.class there in
    omega (arith, few)

pub size_of-requires : goal.size_of-requires
size_of-requires c =
    let f = c.self.inside in let s = c.self.invariant.stored in
    let there = subst (λ (v : Stored). lookup address_of v.blocks.unique (536870912 + 4 * c.args.word) ≡ Some (record { address = 536870912 + 4 * c.args.word; size = 2 ^ c.args.class })) (sym c.self.view_is) c.requires in
    freed-class f.table f.lexicals.items f.classes f.ledger.blocks s c.args.word c.args.class there

pub mark-requires : goal.mark-requires
mark-requires c =
    let f = c.self.inside in let s = c.self.invariant.stored in
    let there = subst (λ (v : Stored). lookup address_of v.blocks.unique (536870912 + 4 * c.args.word) ≡ Some (record { address = 536870912 + 4 * c.args.word; size = 2 ^ c.args.class })) (sym c.self.view_is) c.requires in
    let most = ap (λ (z : TableState). z.most) c.set_word.ensures in
    subst (λ n. c.args.word + n ≤ 1024 * c.set_word.new.self.most) (sym c.size_of.ensures) (subst (λ n. c.args.word + 2 ^ c.args.class ≤ 1024 * n) (sym most) (freed-marks f.table f.lexicals.items f.classes f.ledger.blocks s c.args.word c.args.class there))

pub address_at-requires : goal.address_at-requires
address_at-requires c =
    let f = c.self.inside in let s = c.self.invariant.stored in
    let there = subst (λ (v : Stored). lookup address_of v.blocks.unique (536870912 + 4 * c.args.word) ≡ Some (record { address = 536870912 + 4 * c.args.word; size = 2 ^ c.args.class })) (sym c.self.view_is) c.requires in
    freed-small f.table f.lexicals.items f.classes f.ledger.blocks s c.args.word c.args.class there

pub invariant_of-self : goal.invariant_of-self
invariant_of-self c =
    let f = c.self.inside in let s = c.self.invariant.stored in
    let there = subst (λ (v : Stored). lookup address_of v.blocks.unique (536870912 + 4 * c.args.word) ≡ Some (record { address = 536870912 + 4 * c.args.word; size = 2 ^ c.args.class })) (sym c.self.view_is) c.requires in
    record {
      room = subst (λ n. n ≤ vec_capacity f.lexicals) (sym (ap (λ (z : TableState). z.most) c.mark.ensures.same ∙ ap (λ (z : TableState). z.most) c.set_word.ensures)) c.self.invariant.room;
      stored = freed-stored f.table f.lexicals.items f.classes f.ledger.blocks s c.args.word c.args.class there c.address_at.result c.address_at.ensures c.with-self-inside.result.blocks c.with-self-inside.ensures
          c.set_word.new.self c.set_word.ensures c.mark.new.self c.size_of.result c.size_of.ensures c.mark.ensures;
      usage = usage-same f.table f.lexicals.items f.classes f.ledger.blocks s f.usage c.self.invariant.usage c.mark.new.self.most
          (ap (λ (z : TableState). z.most) c.mark.ensures.same ∙ ap (λ (z : TableState). z.most) c.set_word.ensures) c.with-self-inside.result.blocks
          (ap (λ (k : Blocks). k.regions) c.with-self-inside.ensures) (ap (λ (k : Blocks). k.classes) c.with-self-inside.ensures);
    }

pub returns : goal.returns
returns c =
    let f = c.self.inside in let s = c.self.invariant.stored in
    let there = subst (λ (v : Stored). lookup address_of v.blocks.unique (536870912 + 4 * c.args.word) ≡ Some (record { address = 536870912 + 4 * c.args.word; size = 2 ^ c.args.class })) (sym c.self.view_is) c.requires in
    subst (λ (v : Stored). Serves (held_of v) (Free (536870912 + 4 * c.args.word)) Done (store_of c.mark.new.self.most c.mark.new.self.words c.with-self-inside.result.blocks)) c.self.view_is
    (freed-served f.table f.lexicals.items f.classes f.ledger.blocks s c.args.word c.args.class there c.address_at.result c.address_at.ensures c.with-self-inside.result.blocks c.with-self-inside.ensures
    c.set_word.new.self c.set_word.ensures c.mark.new.self c.size_of.result c.size_of.ensures c.mark.ensures)
