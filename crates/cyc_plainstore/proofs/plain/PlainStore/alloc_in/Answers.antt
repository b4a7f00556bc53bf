use Rattle.std.proofs.Common.{◌≡◌, ◌+◌, ◌*◌, ◌<◌, ◌≤◌, true, None, length, refl, sym, subst, arith}
use Rattle.std.specs.Prelude.{is_some}
use Rattle.cyc_words.proofs.Booleans.{some_there, false_is_not_true}
use Rattle.cyc_store.specs.Ledger.{Stored, IsUsedUp, held_of, store_of}
use Rattle.cyc_store.specs.State.{lookup, handle_of}
use Rattle.cyc_store.specs.Services.{Allocate, Allocated, Refused, Full, refusal, Serves}
use Rattle.cyc_store.proofs.KeptServices.{kept-full, kept-unchanged, held-unchanged, kept-some, kept-used}
use Rattle.cyc_store.proofs.KeptMaking.{root-there, root-small, first-there, first-small, first-count, last-few, following-serves, following-kept, after-full, after-none, after-serves, after-kept}
use Rattle.cyc_plainstore.proofs.plain.PlainStore.alloc_in.Goals as goal

pub index-first-requires : goal.index-first-requires
index-first-requires c =
    let f = c.self.inside in let k = c.self.invariant in
    let (r, named) = some_there (lookup handle_of f.ledger.blocks.regions (2 * c.args.root + 1))
    (subst (λ (v : Stored). is_some (lookup handle_of v.blocks.regions (2 * c.args.root + 1)) ≡ true) (sym c.self.view_is) c.requires.named) in
    let there : c.args.root < length f.table.rows.items = root-there f.table f.lexicals.items f.classes f.ledger.blocks k c.args.root r named in
    omega (arith, there)

pub index-last-requires : goal.index-last-requires
index-last-requires c =
    let f = c.self.inside in let k = c.self.invariant in
    let (r, named) = some_there (lookup handle_of f.ledger.blocks.regions (2 * c.args.root + 1))
    (subst (λ (v : Stored). is_some (lookup handle_of v.blocks.regions (2 * c.args.root + 1)) ≡ true) (sym c.self.view_is) c.requires.named) in
    let there : c.index-first.result.now.newest < length f.table.rows.items = first-there f.table f.lexicals.items f.classes f.ledger.blocks k c.args.root r named c.index-first.result.now c.index-first.ensures in
    omega (arith, there)

pub overflow_add-last : goal.overflow_add-last
overflow_add-last c =
    let f = c.self.inside in let k = c.self.invariant in
    let (r, named) = some_there (lookup handle_of f.ledger.blocks.regions (2 * c.args.root + 1))
    (subst (λ (v : Stored). is_some (lookup handle_of v.blocks.regions (2 * c.args.root + 1)) ≡ true) (sym c.self.view_is) c.requires.named) in
    let few : c.index-last.result.now.filled ≤ 1024 = last-few f.table f.lexicals.items f.classes f.ledger.blocks k c.args.root r named c.index-first.result.now c.index-first.ensures c.index-last.result.now c.index-last.ensures in
    let most : c.args.words ≤ 1000 = c.requires.most in
    record { fits = omega (arith, few, most) }

pub index_mut-requires : goal.index_mut-requires
index_mut-requires c =
    let f = c.self.inside in let k = c.self.invariant in
    let (r, named) = some_there (lookup handle_of f.ledger.blocks.regions (2 * c.args.root + 1))
    (subst (λ (v : Stored). is_some (lookup handle_of v.blocks.regions (2 * c.args.root + 1)) ≡ true) (sym c.self.view_is) c.requires.named) in
    let there : c.index-first.result.now.newest < length f.table.rows.items = first-there f.table f.lexicals.items f.classes f.ledger.blocks k c.args.root r named c.index-first.result.now c.index-first.ensures in
    omega (arith, there)

pub overflow_mul-first : goal.overflow_mul-first
overflow_mul-first c =
    let f = c.self.inside in let k = c.self.invariant in
    let (r, named) = some_there (lookup handle_of f.ledger.blocks.regions (2 * c.args.root + 1))
    (subst (λ (v : Stored). is_some (lookup handle_of v.blocks.regions (2 * c.args.root + 1)) ≡ true) (sym c.self.view_is) c.requires.named) in
    let small : c.index-first.result.now.newest < 65536 = first-small f.table f.lexicals.items f.classes f.ledger.blocks k c.args.root r named c.index-first.result.now c.index-first.ensures in
    record { fits = omega (arith, small) }

pub overflow_add-first : goal.overflow_add-first
overflow_add-first c =
    let f = c.self.inside in let k = c.self.invariant in
    let (r, named) = some_there (lookup handle_of f.ledger.blocks.regions (2 * c.args.root + 1))
    (subst (λ (v : Stored). is_some (lookup handle_of v.blocks.regions (2 * c.args.root + 1)) ≡ true) (sym c.self.view_is) c.requires.named) in
    let few : c.index-last.result.now.filled ≤ 1024 = last-few f.table f.lexicals.items f.classes f.ledger.blocks k c.args.root r named c.index-first.result.now c.index-first.ensures c.index-last.result.now c.index-last.ensures in
    let most : c.args.words ≤ 1000 = c.requires.most in
    let small : c.index-first.result.now.newest < 65536 = first-small f.table f.lexicals.items f.classes f.ledger.blocks k c.args.root r named c.index-first.result.now c.index-first.ensures in
    record { fits = omega (arith, few, small) }

pub address_at-address-requires : goal.address_at-address-requires
address_at-address-requires c =
    let f = c.self.inside in let k = c.self.invariant in
    let (r, named) = some_there (lookup handle_of f.ledger.blocks.regions (2 * c.args.root + 1))
    (subst (λ (v : Stored). is_some (lookup handle_of v.blocks.regions (2 * c.args.root + 1)) ≡ true) (sym c.self.view_is) c.requires.named) in
    let few : c.index-last.result.now.filled ≤ 1024 = last-few f.table f.lexicals.items f.classes f.ledger.blocks k c.args.root r named c.index-first.result.now c.index-first.ensures c.index-last.result.now c.index-last.ensures in
    let most : c.args.words ≤ 1000 = c.requires.most in
    let small : c.index-first.result.now.newest < 65536 = first-small f.table f.lexicals.items f.classes f.ledger.blocks k c.args.root r named c.index-first.result.now c.index-first.ensures in
    omega (arith, few, small)

pub overflow_mul-root : goal.overflow_mul-root
overflow_mul-root c =
    let f = c.self.inside in let k = c.self.invariant in
    let (r, named) = some_there (lookup handle_of f.ledger.blocks.regions (2 * c.args.root + 1))
    (subst (λ (v : Stored). is_some (lookup handle_of v.blocks.regions (2 * c.args.root + 1)) ≡ true) (sym c.self.view_is) c.requires.named) in
    let small : c.args.root < 65536 = root-small f.table f.lexicals.items f.classes f.ledger.blocks k c.args.root r named in
    record { fits = omega (arith, small) }

pub overflow_add-root : goal.overflow_add-root
overflow_add-root c =
    let f = c.self.inside in let k = c.self.invariant in
    let (r, named) = some_there (lookup handle_of f.ledger.blocks.regions (2 * c.args.root + 1))
    (subst (λ (v : Stored). is_some (lookup handle_of v.blocks.regions (2 * c.args.root + 1)) ≡ true) (sym c.self.view_is) c.requires.named) in
    let small : c.args.root < 65536 = root-small f.table f.lexicals.items f.classes f.ledger.blocks k c.args.root r named in
    record { fits = omega (arith, small) }

pub invariant_of-self : goal.invariant_of-self
invariant_of-self c =
    let f = c.self.inside in let k = c.self.invariant in
    let (r, named) = some_there (lookup handle_of f.ledger.blocks.regions (2 * c.args.root + 1))
    (subst (λ (v : Stored). is_some (lookup handle_of v.blocks.regions (2 * c.args.root + 1)) ≡ true) (sym c.self.view_is) c.requires.named) in
    following-kept f.table f.lexicals.items f.classes f.ledger.blocks k c.args.root r named c.index-first.result.now c.index-first.ensures c.index-last.result.now c.index-last.ensures c.args.words c.requires.least c.requires.most c.if-last-words-le-PAGE_WORDS.true c.address_at-address.result c.address_at-address.ensures
    c.with-self-inside.result.blocks c.with-self-inside.ensures _ (record { most = refl; words = refl; live = refl; free = refl; rows = refl })

pub returns-then-last-words-le-PAGE_WORDS-clause-answer : goal.returns-then-last-words-le-PAGE_WORDS-clause-answer
returns-then-last-words-le-PAGE_WORDS-clause-answer c =
    let f = c.self.inside in let k = c.self.invariant in
    let (r, named) = some_there (lookup handle_of f.ledger.blocks.regions (2 * c.args.root + 1))
    (subst (λ (v : Stored). is_some (lookup handle_of v.blocks.regions (2 * c.args.root + 1)) ≡ true) (sym c.self.view_is) c.requires.named) in
    subst (λ (v : Stored). Serves (held_of v) (Allocate (2 * c.args.root + 1) c.args.words) (Allocated c.address_at-address.result) (store_of f.table.most f.table.words.items c.with-self-inside.result.blocks)) c.self.view_is
    (following-serves f.table f.lexicals.items f.classes f.ledger.blocks k c.args.root r named c.index-first.result.now c.index-first.ensures c.index-last.result.now c.index-last.ensures c.args.words c.requires.least c.requires.most c.if-last-words-le-PAGE_WORDS.true c.address_at-address.result c.address_at-address.ensures
    c.with-self-inside.result.blocks c.with-self-inside.ensures)

pub returns-then-is_full-clause-answer : goal.returns-then-is_full-clause-answer
returns-then-is_full-clause-answer c =
    let f = c.self.inside in let k = c.self.invariant in
    let (r, named) = some_there (lookup handle_of f.ledger.blocks.regions (2 * c.args.root + 1))
    (subst (λ (v : Stored). is_some (lookup handle_of v.blocks.regions (2 * c.args.root + 1)) ≡ true) (sym c.self.view_is) c.requires.named) in
    let full = c.if-is_full.ensures.0 refl in
    subst (λ (v : Stored). Serves (held_of v) (Allocate (2 * c.args.root + 1) c.args.words) (Refused Full) (held_of v)) c.self.view_is
    (after-full f.table f.lexicals.items f.classes f.ledger.blocks k c.args.root r named c.index-first.result.now c.index-first.ensures c.index-last.result.now c.index-last.ensures c.args.words c.requires.least c.requires.most c.if-last-words-le-PAGE_WORDS.false (kept-full f.table f.lexicals.items f.classes f.ledger.blocks k full.0 full.1))

pub invariant_of-self-in_default : goal.invariant_of-self-in_default
invariant_of-self-in_default c =
    let f = c.self.inside in let k = c.self.invariant in
    let (r, named) = some_there (lookup handle_of f.ledger.blocks.regions (2 * c.args.root + 1))
    (subst (λ (v : Stored). is_some (lookup handle_of v.blocks.regions (2 * c.args.root + 1)) ≡ true) (sym c.self.view_is) c.requires.named) in
    kept-unchanged f.table c.draw.new.self f.lexicals.items f.classes f.ledger.blocks c.in_default.ensures.same k

pub returns-in_default-clause-answer : goal.returns-in_default-clause-answer
returns-in_default-clause-answer c =
    let f = c.self.inside in let k = c.self.invariant in
    let (r, named) = some_there (lookup handle_of f.ledger.blocks.regions (2 * c.args.root + 1))
    (subst (λ (v : Stored). is_some (lookup handle_of v.blocks.regions (2 * c.args.root + 1)) ≡ true) (sym c.self.view_is) c.requires.named) in
    let some = kept-some f.table f.lexicals.items f.classes f.ledger.blocks k (λ full. false_is_not_true (c.if-is_full.ensures.1 full)) in
    subst (λ (v : Stored). (true ≡ true) × (refusal (held_of v) (Allocate (2 * c.args.root + 1) c.args.words) ≡ None) × (store_of c.draw.new.self.most c.draw.new.self.words.items f.ledger.blocks ≡ held_of v)) c.self.view_is
    (refl, after-none f.table f.lexicals.items f.classes f.ledger.blocks k c.args.root r named c.index-first.result.now c.index-first.ensures c.index-last.result.now c.index-last.ensures c.args.words c.requires.least c.requires.most c.if-last-words-le-PAGE_WORDS.false some.0 some.1 some.2, held-unchanged f.table c.draw.new.self f.ledger.blocks c.in_default.ensures.same)

pub returns-in_default-clause-grew : goal.returns-in_default-clause-grew
returns-in_default-clause-grew c =
    let f = c.self.inside in
    λ e. subst (λ (v : Stored). IsUsedUp v) c.self.view_is (kept-used f.table f.lexicals.items f.classes f.ledger.blocks c.self.invariant c.in_default.ensures.grew)

pub overflow_add-first-2 : goal.overflow_add-first-2
overflow_add-first-2 c =
    let f = c.self.inside in let k = c.self.invariant in
    let (r, named) = some_there (lookup handle_of f.ledger.blocks.regions (2 * c.args.root + 1))
    (subst (λ (v : Stored). is_some (lookup handle_of v.blocks.regions (2 * c.args.root + 1)) ≡ true) (sym c.self.view_is) c.requires.named) in
    let few : c.index-first.result.now.count ≤ 65536 = first-count f.table f.lexicals.items f.classes f.ledger.blocks k c.args.root r named c.index-first.result.now c.index-first.ensures in
    record { fits = omega (arith, few) }

pub index_mut-requires-3 : goal.index_mut-requires-3
index_mut-requires-3 c =
    let f = c.self.inside in let k = c.self.invariant in
    let (r, named) = some_there (lookup handle_of f.ledger.blocks.regions (2 * c.args.root + 1))
    (subst (λ (v : Stored). is_some (lookup handle_of v.blocks.regions (2 * c.args.root + 1)) ≡ true) (sym c.self.view_is) c.requires.named) in
    let there : c.args.root < length f.table.rows.items = root-there f.table f.lexicals.items f.classes f.ledger.blocks k c.args.root r named in
    let more : length f.table.rows.items ≤ length c.draw.new.self.rows.items = c.in-Ok.ensures.draws.count in
    omega (arith, there, more)

pub overflow_mul-root-2 : goal.overflow_mul-root-2
overflow_mul-root-2 c =
    let f = c.self.inside in let k = c.self.invariant in
    let (r, named) = some_there (lookup handle_of f.ledger.blocks.regions (2 * c.args.root + 1))
    (subst (λ (v : Stored). is_some (lookup handle_of v.blocks.regions (2 * c.args.root + 1)) ≡ true) (sym c.self.view_is) c.requires.named) in
    let small : c.args.root < 65536 = root-small f.table f.lexicals.items f.classes f.ledger.blocks k c.args.root r named in
    record { fits = omega (arith, small) }

pub overflow_add-root-2 : goal.overflow_add-root-2
overflow_add-root-2 c =
    let f = c.self.inside in let k = c.self.invariant in
    let (r, named) = some_there (lookup handle_of f.ledger.blocks.regions (2 * c.args.root + 1))
    (subst (λ (v : Stored). is_some (lookup handle_of v.blocks.regions (2 * c.args.root + 1)) ≡ true) (sym c.self.view_is) c.requires.named) in
    let small : c.args.root < 65536 = root-small f.table f.lexicals.items f.classes f.ledger.blocks k c.args.root r named in
    record { fits = omega (arith, small) }

pub invariant_of-self-2 : goal.invariant_of-self-2
invariant_of-self-2 c =
    let f = c.self.inside in let k = c.self.invariant in
    let (r, named) = some_there (lookup handle_of f.ledger.blocks.regions (2 * c.args.root + 1))
    (subst (λ (v : Stored). is_some (lookup handle_of v.blocks.regions (2 * c.args.root + 1)) ≡ true) (sym c.self.view_is) c.requires.named) in
    after-kept f.table f.lexicals.items f.classes f.ledger.blocks k c.args.root r named c.index-first.result.now c.index-first.ensures c.index-last.result.now c.index-last.ensures c.args.words c.requires.least c.requires.most c.if-last-words-le-PAGE_WORDS.false c.draw.new.self c.in-Ok.page c.in-Ok.ensures.draws (λ full. false_is_not_true (c.if-is_full.ensures.1 full)) c.address_at-address-2.result c.address_at-address-2.ensures
    c.with-self-inside-2.result.blocks c.with-self-inside-2.ensures _ refl refl refl refl refl

pub returns-clause-answer : goal.returns-clause-answer
returns-clause-answer c =
    let f = c.self.inside in let k = c.self.invariant in
    let (r, named) = some_there (lookup handle_of f.ledger.blocks.regions (2 * c.args.root + 1))
    (subst (λ (v : Stored). is_some (lookup handle_of v.blocks.regions (2 * c.args.root + 1)) ≡ true) (sym c.self.view_is) c.requires.named) in
    subst (λ (v : Stored). Serves (held_of v) (Allocate (2 * c.args.root + 1) c.args.words) (Allocated c.address_at-address-2.result) (store_of c.draw.new.self.most c.draw.new.self.words.items c.with-self-inside-2.result.blocks)) c.self.view_is
    (after-serves f.table f.lexicals.items f.classes f.ledger.blocks k c.args.root r named c.index-first.result.now c.index-first.ensures c.index-last.result.now c.index-last.ensures c.args.words c.requires.least c.requires.most c.if-last-words-le-PAGE_WORDS.false c.draw.new.self c.in-Ok.page c.in-Ok.ensures.draws (λ full. false_is_not_true (c.if-is_full.ensures.1 full)) c.address_at-address-2.result c.address_at-address-2.ensures
    c.with-self-inside-2.result.blocks c.with-self-inside-2.ensures)
