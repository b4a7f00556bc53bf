use Rattle.std.proofs.Common.{◌≤◌, [], ◌∷◌, ◌++◌, length, refl, sym, subst, arith}
use Rattle.cyc_store.specs.Ledger.{Stored, held_of, store_of, plain_store, blocks_of}
use Rattle.cyc_store.specs.Services.{OpenLexical, OpenedLexical, Refused, Full, Serves}
use Rattle.cyc_store.specs.State.{StoreState, opened}
use Rattle.cyc_store.specs.State as sorts
use Rattle.cyc_store.specs.inside.Kept.{handle_of_page}
use Rattle.cyc_store.specs.declared.row.Role.TheVariants.{Lexical}
use Rattle.cyc_store.proofs.Responses.{lexical-full}
use Rattle.cyc_store.proofs.KeptServices.{kept-lexicals_few}
use Rattle.cyc_pagestore.specs.inside.Table.{TableState}
use Rattle.cyc_pagestore.proofs.Storing.{stored-held, stored-full, taken-small, opened-most, lexical-stored, lexical-served, lexical-room}
use Rattle.cyc_pagestore.specs.inside.Usage.{Counts, IsUsage}
use Rattle.cyc_pagestore.proofs.Counting.{taken-there, opened-few, usage-opened}
use Rattle.cyc_pagestore.proofs.paged.PageStoreStore.open_lexical.Goals as goal

pub returns-in_default : goal.returns-in_default
returns-in_default c =
    let f = c.self.inside in let s = c.self.invariant.stored in
    subst (λ (y : TableState). Serves (held_of c.args.self.now) OpenLexical (Refused Full) (store_of y.most y.words f.ledger.blocks)) (sym c.in_default.ensures.1)
    (subst (λ (v : Stored). Serves (held_of v) OpenLexical (Refused Full) (store_of f.table.most f.table.words f.ledger.blocks)) c.self.view_is
    (subst (λ (h : StoreState). Serves h OpenLexical (Refused Full) h) (stored-held f.table f.lexicals.items f.classes f.ledger.blocks s)
    (lexical-full (store_of s.table.most s.table.words.items f.ledger.blocks) s.kept.layout s.kept.laid (stored-full f.table f.lexicals.items f.classes f.ledger.blocks s c.in_default.ensures.0))))

pub overflow_mul-handle : goal.overflow_mul-handle
overflow_mul-handle c =
    let f = c.self.inside in let s = c.self.invariant.stored in
    let small = taken-small f.table f.lexicals.items f.classes f.ledger.blocks s c.in-Some.ensures.middle c.in-Some.page c.in-Some.ensures.takes in
    record { fits = omega (arith, small) }

pub overflow_add-handle : goal.overflow_add-handle
overflow_add-handle c =
    let f = c.self.inside in let s = c.self.invariant.stored in
    let small = taken-small f.table f.lexicals.items f.classes f.ledger.blocks s c.in-Some.ensures.middle c.in-Some.page c.in-Some.ensures.takes in
    record { fits = omega (arith, small) }

pub overflow_cast-mark : goal.overflow_cast-mark
overflow_cast-mark c =
    let f = c.self.inside in let s = c.self.invariant.stored in
    let few : length f.lexicals.items ≤ 65536 = kept-lexicals_few s.table f.lexicals.items f.classes f.ledger.blocks s.kept in
    record { fits = omega (arith, few, c.len-mark.ensures) }

pub push_reserved-requires : goal.push_reserved-requires
push_reserved-requires c =
    let f = c.self.inside in let s = c.self.invariant.stored in
    let less = lexical-room f.table f.lexicals.items f.classes f.ledger.blocks s c.open.new.self c.in-Some.page c.in-Some.ensures _ refl in
    let room = c.self.invariant.room in let counted = f.lexicals.ok.0 in
    omega (arith, less, room, counted)

pub note_opened-requires-clause-there : goal.note_opened-requires-clause-there
note_opened-requires-clause-there c =
    let f = c.self.inside in let s = c.self.invariant.stored in
    taken-there f.table f.lexicals.items f.classes f.ledger.blocks s f.usage c.self.invariant.usage c.in-Some.ensures.middle c.in-Some.page c.in-Some.ensures.takes

pub note_opened-requires-clause-few : goal.note_opened-requires-clause-few
note_opened-requires-clause-few c =
    let f = c.self.inside in let s = c.self.invariant.stored in
    opened-few f.table f.lexicals.items f.classes f.ledger.blocks s f.usage c.self.invariant.usage c.open.new.self (f.lexicals.items ++ handle_of_page c.in-Some.page ∷ []) (blocks_of (opened (plain_store f.ledger.blocks) (handle_of_page c.in-Some.page) sorts.Lexical))
    (lexical-stored f.table f.lexicals.items f.classes f.ledger.blocks s c.open.new.self c.in-Some.page c.in-Some.ensures (blocks_of (opened (plain_store f.ledger.blocks) (handle_of_page c.in-Some.page) sorts.Lexical)) refl (f.lexicals.items ++ handle_of_page c.in-Some.page ∷ []) refl)
    c.in-Some.page sorts.Lexical (opened-most f.table f.lexicals.items f.classes f.ledger.blocks s c.open.new.self c.in-Some.page Lexical c.in-Some.ensures) (taken-there f.table f.lexicals.items f.classes f.ledger.blocks s f.usage c.self.invariant.usage c.in-Some.ensures.middle c.in-Some.page c.in-Some.ensures.takes) refl

pub invariant_of-self-2 : goal.invariant_of-self-2
invariant_of-self-2 c =
    let f = c.self.inside in let s = c.self.invariant.stored in
    record {
      room = let room = c.self.invariant.room in let most = opened-most f.table f.lexicals.items f.classes f.ledger.blocks s c.open.new.self c.in-Some.page Lexical c.in-Some.ensures in let same = c.push_reserved.ensures.capacity in
          omega (arith, room, most, same);
      stored = lexical-stored f.table f.lexicals.items f.classes f.ledger.blocks s c.open.new.self c.in-Some.page c.in-Some.ensures c.with-self-inside.result.blocks c.with-self-inside.ensures c.push_reserved.new.self.items c.push_reserved.ensures.items;
      usage = subst (λ (k : Counts). IsUsage k c.open.new.self.most c.with-self-inside.result.blocks) (sym c.note_opened.ensures)
          (usage-opened f.table f.lexicals.items f.classes f.ledger.blocks s f.usage c.self.invariant.usage c.open.new.self c.push_reserved.new.self.items c.with-self-inside.result.blocks
          (lexical-stored f.table f.lexicals.items f.classes f.ledger.blocks s c.open.new.self c.in-Some.page c.in-Some.ensures c.with-self-inside.result.blocks c.with-self-inside.ensures c.push_reserved.new.self.items c.push_reserved.ensures.items)
          c.in-Some.page sorts.Lexical (opened-most f.table f.lexicals.items f.classes f.ledger.blocks s c.open.new.self c.in-Some.page Lexical c.in-Some.ensures) (taken-there f.table f.lexicals.items f.classes f.ledger.blocks s f.usage c.self.invariant.usage c.in-Some.ensures.middle c.in-Some.page c.in-Some.ensures.takes) c.with-self-inside.ensures);
    }

pub returns : goal.returns
returns c =
    let f = c.self.inside in let s = c.self.invariant.stored in
    let counted = f.lexicals.ok.0 in
    subst (λ (v : Stored). Serves (held_of v) OpenLexical (OpenedLexical (handle_of_page c.in-Some.page) c.len-mark.result) (store_of c.open.new.self.most c.open.new.self.words c.with-self-inside.result.blocks)) c.self.view_is
    (lexical-served f.table f.lexicals.items f.classes f.ledger.blocks s c.open.new.self c.in-Some.page c.in-Some.ensures c.with-self-inside.result.blocks c.with-self-inside.ensures c.len-mark.result (omega (arith, counted, c.len-mark.ensures)))
