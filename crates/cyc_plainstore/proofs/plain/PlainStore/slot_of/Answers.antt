use Rattle.std.proofs.Common.{◌≡◌, ◌*◌, ◌/◌, ◌%◌, ◌^◌, ◌<◌, ◌≤◌, None, Some, length, sym, subst, arith}
use Rattle.cyc_store.specs.Ledger.{Stored}
use Rattle.cyc_store.specs.State.{lookup, address_of}
use Rattle.cyc_store.proofs.KeptBlocks.{block-unplaced, block-past, block-other, block-class, block-inner, block-live}
use Rattle.cyc_plainstore.proofs.plain.PlainStore.slot_of.Goals as goal

pub returns-in_default : goal.returns-in_default
returns-in_default c =
    let f = c.self.inside in let k = c.self.invariant in
    subst (λ (v : Stored). lookup address_of v.blocks.unique c.args.address ≡ None) c.self.view_is (block-unplaced f.table f.lexicals.items f.classes f.ledger.blocks k c.args.address c.in_default.ensures)

pub returns-then-count-word : goal.returns-then-count-word
returns-then-count-word c =
    let f = c.self.inside in let k = c.self.invariant in
    let past : length f.table.rows.items ≤ c.in-Some.word / 1024 = omega (arith, c.if-count-word.true, c.len-count.ensures) in
    subst (λ (v : Stored). lookup address_of v.blocks.unique c.args.address ≡ None) c.self.view_is (block-past f.table f.lexicals.items f.classes f.ledger.blocks k c.args.address c.in-Some.word c.in-Some.ensures past)

pub returns-in_default-role : goal.returns-in_default-role
returns-in_default-role c =
    let f = c.self.inside in let k = c.self.invariant in
    let there : c.in-Some.word / 1024 < length f.table.rows.items = omega (arith, c.if-count-word.false, c.len-count.ensures) in
    subst (λ (v : Stored). lookup address_of v.blocks.unique c.args.address ≡ None) c.self.view_is
    (block-other f.table f.lexicals.items f.classes f.ledger.blocks k c.args.address c.in-Some.word c.in-Some.ensures c.index-row.result.now there c.index-row.ensures c.in_default-role.not-Slots)

pub overflow_shr-number : goal.overflow_shr-number
overflow_shr-number c =
    let f = c.self.inside in let k = c.self.invariant in
    let there : c.in-Some.word / 1024 < length f.table.rows.items = omega (arith, c.if-count-word.false, c.len-count.ensures) in
    let few : c.in-Slots.class ≤ 10 = block-class f.table f.lexicals.items f.classes f.ledger.blocks k c.args.address c.in-Some.word c.in-Some.ensures c.index-row.result.now there c.index-row.ensures c.in-Slots.class c.in-Slots.is in
    omega (arith, few)

pub returns-then-number-size_of : goal.returns-then-number-size_of
returns-then-number-size_of c =
    let f = c.self.inside in let k = c.self.invariant in
    let there : c.in-Some.word / 1024 < length f.table.rows.items = omega (arith, c.if-count-word.false, c.len-count.ensures) in
    subst (λ (v : Stored). lookup address_of v.blocks.unique c.args.address ≡ None) c.self.view_is
    (block-inner f.table f.lexicals.items f.classes f.ledger.blocks k c.args.address c.in-Some.word c.in-Some.ensures c.index-row.result.now there c.index-row.ensures c.in-Slots.class c.in-Slots.is
    (λ e. c.if-number-size_of.true (subst (λ n. c.in-Some.word % 1024 / 2 ^ c.in-Slots.class * n ≡ c.in-Some.word % 1024) (sym c.size_of.ensures) e)))

pub returns-then-index : goal.returns-then-index
returns-then-index c =
    let f = c.self.inside in let k = c.self.invariant in
    let there : c.in-Some.word / 1024 < length f.table.rows.items = omega (arith, c.if-count-word.false, c.len-count.ensures) in (
      c.in-Some.ensures,
      subst (λ (v : Stored). lookup address_of v.blocks.unique c.args.address ≡ Some (record { address = c.args.address; size = 2 ^ c.in-Slots.class })) c.self.view_is
          (block-live f.table f.lexicals.items f.classes f.ledger.blocks k c.args.address c.in-Some.word c.in-Some.ensures c.index-row.result.now there c.index-row.ensures c.in-Slots.class c.in-Slots.is
          (subst (λ n. c.in-Some.word % 1024 / 2 ^ c.in-Slots.class * n ≡ c.in-Some.word % 1024) c.size_of.ensures c.if-number-size_of.false) c.index.result.now c.index.ensures c.if-index.true),
    )
