use Rattle.std.proofs.Common.{◌≡◌, ◌+◌, ◌*◌, ◌<◌, ◌≤◌, refl, sym, ap, subst, ◌∙◌, arith}
use Rattle.std.specs.Vec.{vec_capacity}
use Rattle.cyc_store.specs.Ledger.{Blocks, Stored, held_of, store_of, plain_store, blocks_of}
use Rattle.cyc_store.specs.State.{Block, made_in}
use Rattle.cyc_store.specs.inside.Kept.{handle_of_page}
use Rattle.cyc_store.specs.Services.{Allocate, Allocated, Refused, Full, Serves}
use Rattle.cyc_pagestore.specs.inside.Table.{TableState, row_of, Fills}
use Rattle.cyc_pagestore.proofs.Storing.{root-inside, root-few, root-role, taken-small}
use Rattle.cyc_pagestore.proofs.Making.{newest-inside, newest-few, last-filled, following-most, following-stored, following-served, after-spent, after-most, after-stored, after-served}
use Rattle.cyc_pagestore.proofs.Finding.{region-of}
use Rattle.cyc_pagestore.specs.inside.Usage.{Counts, IsUsage}
use Rattle.cyc_pagestore.proofs.Counting.{counted-there, counted-some, added-few, usage-following, usage-added}
use Rattle.cyc_pagestore.proofs.paged.PageStore.alloc_in.Goals as goal

pub newest-last-requires : goal.newest-last-requires
newest-last-requires c =
    let f = c.self.inside in let s = c.self.invariant.stored in let (r, named) = region-of _ _ (2 * c.args.root + 1) c.self.view_is c.requires.named in
    root-inside f.table f.lexicals.items f.classes f.ledger.blocks s c.args.root r named

pub filled-used-requires : goal.filled-used-requires
filled-used-requires c =
    let f = c.self.inside in let s = c.self.invariant.stored in let (r, named) = region-of _ _ (2 * c.args.root + 1) c.self.view_is c.requires.named in
    subst (λ p. p < f.table.most) (sym c.newest-last.ensures) (newest-inside f.table f.lexicals.items f.classes f.ledger.blocks s c.args.root r named)

pub overflow_add-used : goal.overflow_add-used
overflow_add-used c =
    let f = c.self.inside in let s = c.self.invariant.stored in let (r, named) = region-of _ _ (2 * c.args.root + 1) c.self.view_is c.requires.named in
    let at : c.newest-last.result ≡ (row_of f.table c.args.root).newest = c.newest-last.ensures in
    let used : c.filled-used.result ≡ (row_of f.table (row_of f.table c.args.root).newest).filled = c.filled-used.ensures ∙ ap (λ p. (row_of f.table p).filled) at in
    let few = last-filled f.table f.lexicals.items f.classes f.ledger.blocks s c.args.root r named in
    let most : c.args.words ≤ 1000 = c.requires.most in
    record { fits = omega (arith, few, used, most) }

pub overflow_add-used-then-used-words-le-PAGE_WORDS : goal.overflow_add-used-then-used-words-le-PAGE_WORDS
overflow_add-used-then-used-words-le-PAGE_WORDS c =
    let f = c.self.inside in let s = c.self.invariant.stored in let (r, named) = region-of _ _ (2 * c.args.root + 1) c.self.view_is c.requires.named in
    let at : c.newest-last.result ≡ (row_of f.table c.args.root).newest = c.newest-last.ensures in
    let used : c.filled-used.result ≡ (row_of f.table (row_of f.table c.args.root).newest).filled = c.filled-used.ensures ∙ ap (λ p. (row_of f.table p).filled) at in
    let few = last-filled f.table f.lexicals.items f.classes f.ledger.blocks s c.args.root r named in
    let most : c.args.words ≤ 1000 = c.requires.most in
    record { fits = omega (arith, few, used, most) }

pub fill-requires-clause-there : goal.fill-requires-clause-there
fill-requires-clause-there c =
    let f = c.self.inside in let s = c.self.invariant.stored in let (r, named) = region-of _ _ (2 * c.args.root + 1) c.self.view_is c.requires.named in
    root-inside f.table f.lexicals.items f.classes f.ledger.blocks s c.args.root r named

pub fill-requires-clause-root : goal.fill-requires-clause-root
fill-requires-clause-root c =
    let f = c.self.inside in let s = c.self.invariant.stored in let (r, named) = region-of _ _ (2 * c.args.root + 1) c.self.view_is c.requires.named in
    root-role f.table f.lexicals.items f.classes f.ledger.blocks s c.args.root r named

pub overflow_mul-last : goal.overflow_mul-last
overflow_mul-last c =
    let f = c.self.inside in let s = c.self.invariant.stored in let (r, named) = region-of _ _ (2 * c.args.root + 1) c.self.view_is c.requires.named in
    let at : c.newest-last.result ≡ (row_of f.table c.args.root).newest = c.newest-last.ensures in
    let used : c.filled-used.result ≡ (row_of f.table (row_of f.table c.args.root).newest).filled = c.filled-used.ensures ∙ ap (λ p. (row_of f.table p).filled) at in
    let small = newest-few f.table f.lexicals.items f.classes f.ledger.blocks s c.args.root r named in
    record { fits = omega (arith, small, at) }

pub overflow_add-last : goal.overflow_add-last
overflow_add-last c =
    let f = c.self.inside in let s = c.self.invariant.stored in let (r, named) = region-of _ _ (2 * c.args.root + 1) c.self.view_is c.requires.named in
    let at : c.newest-last.result ≡ (row_of f.table c.args.root).newest = c.newest-last.ensures in
    let used : c.filled-used.result ≡ (row_of f.table (row_of f.table c.args.root).newest).filled = c.filled-used.ensures ∙ ap (λ p. (row_of f.table p).filled) at in
    let small = newest-few f.table f.lexicals.items f.classes f.ledger.blocks s c.args.root r named in
    let few = last-filled f.table f.lexicals.items f.classes f.ledger.blocks s c.args.root r named in
    record { fits = omega (arith, small, at, few, used) }

pub address_at-address-requires : goal.address_at-address-requires
address_at-address-requires c =
    let f = c.self.inside in let s = c.self.invariant.stored in let (r, named) = region-of _ _ (2 * c.args.root + 1) c.self.view_is c.requires.named in
    let at : c.newest-last.result ≡ (row_of f.table c.args.root).newest = c.newest-last.ensures in
    let used : c.filled-used.result ≡ (row_of f.table (row_of f.table c.args.root).newest).filled = c.filled-used.ensures ∙ ap (λ p. (row_of f.table p).filled) at in
    let small = newest-few f.table f.lexicals.items f.classes f.ledger.blocks s c.args.root r named in
    let few = last-filled f.table f.lexicals.items f.classes f.ledger.blocks s c.args.root r named in
    let fits = c.if-used-words-le-PAGE_WORDS.true in let least = c.requires.least in
    omega (arith, small, at, fits, least)

pub overflow_mul-root : goal.overflow_mul-root
overflow_mul-root c =
    let f = c.self.inside in let s = c.self.invariant.stored in let (r, named) = region-of _ _ (2 * c.args.root + 1) c.self.view_is c.requires.named in
    let below = root-few f.table f.lexicals.items f.classes f.ledger.blocks s c.args.root r named in
    record { fits = omega (arith, below) }

pub overflow_add-root : goal.overflow_add-root
overflow_add-root c =
    let f = c.self.inside in let s = c.self.invariant.stored in let (r, named) = region-of _ _ (2 * c.args.root + 1) c.self.view_is c.requires.named in
    let below = root-few f.table f.lexicals.items f.classes f.ledger.blocks s c.args.root r named in
    record { fits = omega (arith, below) }

pub invariant_of-self : goal.invariant_of-self
invariant_of-self c =
    let f = c.self.inside in let s = c.self.invariant.stored in let (r, named) = region-of _ _ (2 * c.args.root + 1) c.self.view_is c.requires.named in
    let at : c.newest-last.result ≡ (row_of f.table c.args.root).newest = c.newest-last.ensures in
    let used : c.filled-used.result ≡ (row_of f.table (row_of f.table c.args.root).newest).filled = c.filled-used.ensures ∙ ap (λ p. (row_of f.table p).filled) at in
    let fits = subst (λ k. k + c.args.words ≤ 1024) used c.if-used-words-le-PAGE_WORDS.true in
    let place : c.address_at-address.result ≡ 536870912 + 4 * (1024 * c.newest-last.result + c.filled-used.result) = c.address_at-address.ensures in
    let fills = subst (λ k. Fills f.table c.fill.new.self (row_of f.table c.args.root).newest (k + c.args.words)) used c.fill.ensures in
    record {
      room = subst (λ n. n ≤ vec_capacity f.lexicals) (sym (following-most f.table f.lexicals.items f.classes f.ledger.blocks s c.args.root r named c.args.words c.requires.least c.requires.most fits c.fill.new.self fills c.address_at-address.result (omega (arith, place, at, used))
          c.with-self-inside.result.blocks c.with-self-inside.ensures)) c.self.invariant.room;
      stored = following-stored f.table f.lexicals.items f.classes f.ledger.blocks s c.args.root r named c.args.words c.requires.least c.requires.most fits c.fill.new.self fills c.address_at-address.result (omega (arith, place, at, used))
          c.with-self-inside.result.blocks c.with-self-inside.ensures;
      usage = usage-following f.table f.lexicals.items f.classes f.ledger.blocks s f.usage c.self.invariant.usage c.args.root r named (record { address = c.address_at-address.result; size = c.args.words }) c.with-self-inside.result.blocks c.with-self-inside.ensures c.fill.new.self.most
          (following-most f.table f.lexicals.items f.classes f.ledger.blocks s c.args.root r named c.args.words c.requires.least c.requires.most fits c.fill.new.self fills c.address_at-address.result (omega (arith, place, at, used)) c.with-self-inside.result.blocks c.with-self-inside.ensures) fits;
    }

pub returns-then-used-words-le-PAGE_WORDS : goal.returns-then-used-words-le-PAGE_WORDS
returns-then-used-words-le-PAGE_WORDS c =
    let f = c.self.inside in let s = c.self.invariant.stored in let (r, named) = region-of _ _ (2 * c.args.root + 1) c.self.view_is c.requires.named in
    let at : c.newest-last.result ≡ (row_of f.table c.args.root).newest = c.newest-last.ensures in
    let used : c.filled-used.result ≡ (row_of f.table (row_of f.table c.args.root).newest).filled = c.filled-used.ensures ∙ ap (λ p. (row_of f.table p).filled) at in
    let fits = subst (λ k. k + c.args.words ≤ 1024) used c.if-used-words-le-PAGE_WORDS.true in
    let place : c.address_at-address.result ≡ 536870912 + 4 * (1024 * c.newest-last.result + c.filled-used.result) = c.address_at-address.ensures in
    let fills = subst (λ k. Fills f.table c.fill.new.self (row_of f.table c.args.root).newest (k + c.args.words)) used c.fill.ensures in
    subst (λ (v : Stored). Serves (held_of v) (Allocate (2 * c.args.root + 1) c.args.words) (Allocated c.address_at-address.result) (store_of c.fill.new.self.most c.fill.new.self.words c.with-self-inside.result.blocks)) c.self.view_is
    (following-served f.table f.lexicals.items f.classes f.ledger.blocks s c.args.root r named c.args.words c.requires.least c.requires.most fits c.fill.new.self fills c.address_at-address.result (omega (arith, place, at, used))
    c.with-self-inside.result.blocks c.with-self-inside.ensures)

pub add-requires-clause-there : goal.add-requires-clause-there
add-requires-clause-there c =
    let f = c.self.inside in let s = c.self.invariant.stored in let (r, named) = region-of _ _ (2 * c.args.root + 1) c.self.view_is c.requires.named in
    root-inside f.table f.lexicals.items f.classes f.ledger.blocks s c.args.root r named

pub add-requires-clause-root : goal.add-requires-clause-root
add-requires-clause-root c =
    let f = c.self.inside in let s = c.self.invariant.stored in let (r, named) = region-of _ _ (2 * c.args.root + 1) c.self.view_is c.requires.named in
    root-role f.table f.lexicals.items f.classes f.ledger.blocks s c.args.root r named

pub add-requires-clause-few : goal.add-requires-clause-few
add-requires-clause-few c =
    let most : c.args.words ≤ 1000 = c.requires.most in
    omega (arith, most)

pub returns-in_default : goal.returns-in_default
returns-in_default c =
    let f = c.self.inside in let s = c.self.invariant.stored in let (r, named) = region-of _ _ (2 * c.args.root + 1) c.self.view_is c.requires.named in
    let at : c.newest-last.result ≡ (row_of f.table c.args.root).newest = c.newest-last.ensures in
    let used : c.filled-used.result ≡ (row_of f.table (row_of f.table c.args.root).newest).filled = c.filled-used.ensures ∙ ap (λ p. (row_of f.table p).filled) at in
    let past = subst (λ k. 1024 < k + c.args.words) used c.if-used-words-le-PAGE_WORDS.false in
    subst (λ (y : TableState). Serves (held_of c.args.self.now) (Allocate (2 * c.args.root + 1) c.args.words) (Refused Full) (store_of y.most y.words f.ledger.blocks)) (sym c.in_default.ensures.1)
    (subst (λ (v : Stored). Serves (held_of v) (Allocate (2 * c.args.root + 1) c.args.words) (Refused Full) (store_of f.table.most f.table.words f.ledger.blocks)) c.self.view_is
    (after-spent f.table f.lexicals.items f.classes f.ledger.blocks s c.args.root r named c.args.words c.requires.least c.requires.most past c.in_default.ensures.0))

pub note_added-requires-clause-there : goal.note_added-requires-clause-there
note_added-requires-clause-there c =
    let f = c.self.inside in let s = c.self.invariant.stored in let (r, named) = region-of _ _ (2 * c.args.root + 1) c.self.view_is c.requires.named in
    counted-there f.table f.lexicals.items f.classes f.ledger.blocks s f.usage c.self.invariant.usage c.args.root r named

pub note_added-requires-clause-few : goal.note_added-requires-clause-few
note_added-requires-clause-few c =
    let f = c.self.inside in let s = c.self.invariant.stored in let (r, named) = region-of _ _ (2 * c.args.root + 1) c.self.view_is c.requires.named in
    let at : c.newest-last.result ≡ (row_of f.table c.args.root).newest = c.newest-last.ensures in
    let used : c.filled-used.result ≡ (row_of f.table (row_of f.table c.args.root).newest).filled = c.filled-used.ensures ∙ ap (λ p. (row_of f.table p).filled) at in
    let past = subst (λ k. 1024 < k + c.args.words) used c.if-used-words-le-PAGE_WORDS.false in
    let made : Block = record { address = 536870912 + 4 * (1024 * c.in-Some.page); size = c.args.words } in
    let now : Blocks = blocks_of (made_in (plain_store f.ledger.blocks) (handle_of_page c.args.root) made) in
    added-few f.table f.lexicals.items f.classes f.ledger.blocks s f.usage c.self.invariant.usage c.args.root r named made now refl past c.add.new.self f.lexicals.items
    (after-stored f.table f.lexicals.items f.classes f.ledger.blocks s c.args.root r named c.args.words c.requires.least c.requires.most past c.add.new.self c.in-Some.page c.in-Some.ensures made.address refl now refl)

pub note_added-requires-clause-some : goal.note_added-requires-clause-some
note_added-requires-clause-some c =
    let f = c.self.inside in let s = c.self.invariant.stored in let (r, named) = region-of _ _ (2 * c.args.root + 1) c.self.view_is c.requires.named in
    counted-some f.table f.lexicals.items f.classes f.ledger.blocks s f.usage c.self.invariant.usage c.args.root r named

pub overflow_mul-page : goal.overflow_mul-page
overflow_mul-page c =
    let f = c.self.inside in let s = c.self.invariant.stored in let small = taken-small f.table f.lexicals.items f.classes f.ledger.blocks s c.in-Some.ensures.middle c.in-Some.page c.in-Some.ensures.takes in
    record { fits = omega (arith, small) }

pub address_at-address-requires-2 : goal.address_at-address-requires-2
address_at-address-requires-2 c =
    let f = c.self.inside in let s = c.self.invariant.stored in let small = taken-small f.table f.lexicals.items f.classes f.ledger.blocks s c.in-Some.ensures.middle c.in-Some.page c.in-Some.ensures.takes in
    omega (arith, small)

pub overflow_mul-root-2 : goal.overflow_mul-root-2
overflow_mul-root-2 c =
    let f = c.self.inside in let s = c.self.invariant.stored in let (r, named) = region-of _ _ (2 * c.args.root + 1) c.self.view_is c.requires.named in
    let below = root-few f.table f.lexicals.items f.classes f.ledger.blocks s c.args.root r named in
    record { fits = omega (arith, below) }

pub overflow_add-root-2 : goal.overflow_add-root-2
overflow_add-root-2 c =
    let f = c.self.inside in let s = c.self.invariant.stored in let (r, named) = region-of _ _ (2 * c.args.root + 1) c.self.view_is c.requires.named in
    let below = root-few f.table f.lexicals.items f.classes f.ledger.blocks s c.args.root r named in
    record { fits = omega (arith, below) }

pub invariant_of-self-2 : goal.invariant_of-self-2
invariant_of-self-2 c =
    let f = c.self.inside in let s = c.self.invariant.stored in let (r, named) = region-of _ _ (2 * c.args.root + 1) c.self.view_is c.requires.named in
    let at : c.newest-last.result ≡ (row_of f.table c.args.root).newest = c.newest-last.ensures in
    let used : c.filled-used.result ≡ (row_of f.table (row_of f.table c.args.root).newest).filled = c.filled-used.ensures ∙ ap (λ p. (row_of f.table p).filled) at in
    let past = subst (λ k. 1024 < k + c.args.words) used c.if-used-words-le-PAGE_WORDS.false in
    record {
      room = subst (λ n. n ≤ vec_capacity f.lexicals) (sym (after-most f.table f.lexicals.items f.classes f.ledger.blocks s c.args.root r named c.args.words c.requires.least c.requires.most past c.add.new.self c.in-Some.page c.in-Some.ensures c.address_at-address-2.result c.address_at-address-2.ensures
          c.with-self-inside-2.result.blocks c.with-self-inside-2.ensures)) c.self.invariant.room;
      stored = after-stored f.table f.lexicals.items f.classes f.ledger.blocks s c.args.root r named c.args.words c.requires.least c.requires.most past c.add.new.self c.in-Some.page c.in-Some.ensures c.address_at-address-2.result c.address_at-address-2.ensures
          c.with-self-inside-2.result.blocks c.with-self-inside-2.ensures;
      usage = subst (λ (k : Counts). IsUsage k c.add.new.self.most c.with-self-inside-2.result.blocks) (sym c.note_added.ensures)
          (usage-added f.table f.lexicals.items f.classes f.ledger.blocks s f.usage c.self.invariant.usage c.args.root r named (record { address = c.address_at-address-2.result; size = c.args.words }) c.with-self-inside-2.result.blocks c.with-self-inside-2.ensures past c.add.new.self.most
          (after-most f.table f.lexicals.items f.classes f.ledger.blocks s c.args.root r named c.args.words c.requires.least c.requires.most past c.add.new.self c.in-Some.page c.in-Some.ensures c.address_at-address-2.result c.address_at-address-2.ensures c.with-self-inside-2.result.blocks c.with-self-inside-2.ensures));
    }

pub returns : goal.returns
returns c =
    let f = c.self.inside in let s = c.self.invariant.stored in let (r, named) = region-of _ _ (2 * c.args.root + 1) c.self.view_is c.requires.named in
    let at : c.newest-last.result ≡ (row_of f.table c.args.root).newest = c.newest-last.ensures in
    let used : c.filled-used.result ≡ (row_of f.table (row_of f.table c.args.root).newest).filled = c.filled-used.ensures ∙ ap (λ p. (row_of f.table p).filled) at in
    let past = subst (λ k. 1024 < k + c.args.words) used c.if-used-words-le-PAGE_WORDS.false in
    subst (λ (v : Stored). Serves (held_of v) (Allocate (2 * c.args.root + 1) c.args.words) (Allocated c.address_at-address-2.result) (store_of c.add.new.self.most c.add.new.self.words c.with-self-inside-2.result.blocks)) c.self.view_is
    (after-served f.table f.lexicals.items f.classes f.ledger.blocks s c.args.root r named c.args.words c.requires.least c.requires.most past c.add.new.self c.in-Some.page c.in-Some.ensures c.address_at-address-2.result c.address_at-address-2.ensures
    c.with-self-inside-2.result.blocks c.with-self-inside-2.ensures)
