use Rattle.std.proofs.Common.{◌≤◌, refl, sym, subst, arith}
use Rattle.std.specs.Vec.{vec_capacity}
use Rattle.cyc_store.specs.Ledger.{Stored, held_of, store_of, plain_store, blocks_of}
use Rattle.cyc_store.specs.Services.{OpenDynamic, Opened, Refused, Full, Serves}
use Rattle.cyc_store.specs.State.{StoreState, opened}
use Rattle.cyc_store.specs.State as sorts
use Rattle.cyc_store.specs.inside.Kept.{handle_of_page}
use Rattle.cyc_store.specs.declared.row.Role.TheVariants.{Dynamic}
use Rattle.cyc_store.proofs.Responses.{dynamic-full}
use Rattle.cyc_pagestore.specs.inside.Table.{TableState}
use Rattle.cyc_pagestore.proofs.Storing.{stored-held, stored-full, taken-small, opened-most, dynamic-stored, dynamic-served}
use Rattle.cyc_pagestore.specs.inside.Usage.{Counts, IsUsage}
use Rattle.cyc_pagestore.proofs.Counting.{taken-there, opened-few, usage-opened}
use Rattle.cyc_pagestore.proofs.paged.PageStoreStore.open_dynamic.Goals as goal

pub returns-in_default : goal.returns-in_default
returns-in_default c =
    let f = c.self.inside in let s = c.self.invariant.stored in
    subst (λ (y : TableState). Serves (held_of c.args.self.now) OpenDynamic (Refused Full) (store_of y.most y.words f.ledger.blocks)) (sym c.in_default.ensures.1)
    (subst (λ (v : Stored). Serves (held_of v) OpenDynamic (Refused Full) (store_of f.table.most f.table.words f.ledger.blocks)) c.self.view_is
    (subst (λ (h : StoreState). Serves h OpenDynamic (Refused Full) h) (stored-held f.table f.lexicals.items f.classes f.ledger.blocks s)
    (dynamic-full (store_of s.table.most s.table.words.items f.ledger.blocks) s.kept.layout s.kept.laid (stored-full f.table f.lexicals.items f.classes f.ledger.blocks s c.in_default.ensures.0))))

pub returns : goal.returns
returns c =
    let f = c.self.inside in let s = c.self.invariant.stored in
    subst (λ (v : Stored). Serves (held_of v) OpenDynamic (Opened (handle_of_page c.in-Some.page)) (store_of c.open.new.self.most c.open.new.self.words c.with-self-inside.result.blocks)) c.self.view_is
    (dynamic-served f.table f.lexicals.items f.classes f.ledger.blocks s c.open.new.self c.in-Some.page c.in-Some.ensures c.with-self-inside.result.blocks c.with-self-inside.ensures)

pub overflow_mul-handle : goal.overflow_mul-handle
overflow_mul-handle c =
    let f = c.self.inside in let small = taken-small f.table f.lexicals.items f.classes f.ledger.blocks c.self.invariant.stored c.in-Some.ensures.middle c.in-Some.page c.in-Some.ensures.takes in
    record { fits = omega (arith, small) }

pub overflow_add-handle : goal.overflow_add-handle
overflow_add-handle c =
    let f = c.self.inside in let small = taken-small f.table f.lexicals.items f.classes f.ledger.blocks c.self.invariant.stored c.in-Some.ensures.middle c.in-Some.page c.in-Some.ensures.takes in
    record { fits = omega (arith, small) }

pub note_opened-requires-clause-there : goal.note_opened-requires-clause-there
note_opened-requires-clause-there c =
    let f = c.self.inside in let s = c.self.invariant.stored in
    taken-there f.table f.lexicals.items f.classes f.ledger.blocks s f.usage c.self.invariant.usage c.in-Some.ensures.middle c.in-Some.page c.in-Some.ensures.takes

pub note_opened-requires-clause-few : goal.note_opened-requires-clause-few
note_opened-requires-clause-few c =
    let f = c.self.inside in let s = c.self.invariant.stored in
    opened-few f.table f.lexicals.items f.classes f.ledger.blocks s f.usage c.self.invariant.usage c.open.new.self f.lexicals.items (blocks_of (opened (plain_store f.ledger.blocks) (handle_of_page c.in-Some.page) sorts.Dynamic))
    (dynamic-stored f.table f.lexicals.items f.classes f.ledger.blocks s c.open.new.self c.in-Some.page c.in-Some.ensures (blocks_of (opened (plain_store f.ledger.blocks) (handle_of_page c.in-Some.page) sorts.Dynamic)) refl)
    c.in-Some.page sorts.Dynamic (opened-most f.table f.lexicals.items f.classes f.ledger.blocks s c.open.new.self c.in-Some.page Dynamic c.in-Some.ensures) (taken-there f.table f.lexicals.items f.classes f.ledger.blocks s f.usage c.self.invariant.usage c.in-Some.ensures.middle c.in-Some.page c.in-Some.ensures.takes) refl

pub invariant_of-self-2 : goal.invariant_of-self-2
invariant_of-self-2 c =
    let f = c.self.inside in let s = c.self.invariant.stored in
    record {
      room = subst (λ n. n ≤ vec_capacity f.lexicals) (sym (opened-most f.table f.lexicals.items f.classes f.ledger.blocks s c.open.new.self c.in-Some.page Dynamic c.in-Some.ensures)) c.self.invariant.room;
      stored = dynamic-stored f.table f.lexicals.items f.classes f.ledger.blocks s c.open.new.self c.in-Some.page c.in-Some.ensures c.with-self-inside.result.blocks c.with-self-inside.ensures;
      usage = subst (λ (k : Counts). IsUsage k c.open.new.self.most c.with-self-inside.result.blocks) (sym c.note_opened.ensures)
          (usage-opened f.table f.lexicals.items f.classes f.ledger.blocks s f.usage c.self.invariant.usage c.open.new.self f.lexicals.items c.with-self-inside.result.blocks
          (dynamic-stored f.table f.lexicals.items f.classes f.ledger.blocks s c.open.new.self c.in-Some.page c.in-Some.ensures c.with-self-inside.result.blocks c.with-self-inside.ensures)
          c.in-Some.page sorts.Dynamic (opened-most f.table f.lexicals.items f.classes f.ledger.blocks s c.open.new.self c.in-Some.page Dynamic c.in-Some.ensures) (taken-there f.table f.lexicals.items f.classes f.ledger.blocks s f.usage c.self.invariant.usage c.in-Some.ensures.middle c.in-Some.page c.in-Some.ensures.takes) c.with-self-inside.ensures);
    }
