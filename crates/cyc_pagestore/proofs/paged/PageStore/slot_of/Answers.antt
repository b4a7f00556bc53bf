use Rattle.std.proofs.Common.{◌≡◌, ◌*◌, ◌/◌, ◌%◌, ◌^◌, ◌≤◌, None, Some, sym, subst, ◌∙◌, arith}
use Rattle.cyc_store.specs.Ledger.{Stored}
use Rattle.cyc_store.specs.State.{lookup, address_of}
use Rattle.cyc_pagestore.proofs.Finding.{nowhere-none, beyond-none, region-none, slots-class, inner-none, dead-none, live-some}
use Rattle.cyc_pagestore.proofs.paged.PageStore.slot_of.Goals as goal

pub returns-in_default : goal.returns-in_default
returns-in_default c =
    let f = c.self.inside in let s = c.self.invariant.stored in
    subst (λ (v : Stored). lookup address_of v.blocks.unique c.args.address ≡ None) c.self.view_is
    (nowhere-none f.table f.lexicals.items f.classes f.ledger.blocks s c.args.address c.in_default.ensures)

pub returns-then-count-word : goal.returns-then-count-word
returns-then-count-word c =
    let f = c.self.inside in let s = c.self.invariant.stored in
    subst (λ (v : Stored). lookup address_of v.blocks.unique c.args.address ≡ None) c.self.view_is
    (beyond-none f.table f.lexicals.items f.classes f.ledger.blocks s c.args.address c.in-Some.word c.in-Some.ensures (omega (arith, c.if-count-word.true, c.most-count.ensures)))

pub returns-in_default-role : goal.returns-in_default-role
returns-in_default-role c =
    let f = c.self.inside in let s = c.self.invariant.stored in
    subst (λ (v : Stored). lookup address_of v.blocks.unique c.args.address ≡ None) c.self.view_is
    (region-none f.table f.lexicals.items f.classes f.ledger.blocks s c.args.address c.in-Some.word c.in-Some.ensures (omega (arith, c.if-count-word.false, c.most-count.ensures))
    (λ class e. c.in_default-role.not-Slots class (c.role.ensures ∙ e)))

pub overflow_shr-number : goal.overflow_shr-number
overflow_shr-number c =
    let f = c.self.inside in let s = c.self.invariant.stored in
    let few : c.in-Slots.class ≤ 10 = slots-class f.table f.lexicals.items f.classes f.ledger.blocks s c.args.address c.in-Some.word c.in-Some.ensures (omega (arith, c.if-count-word.false, c.most-count.ensures))
    c.in-Slots.class (sym c.role.ensures ∙ c.in-Slots.is) in
    omega (arith, few)

pub size_of-requires : goal.size_of-requires
size_of-requires c =
    let f = c.self.inside in let s = c.self.invariant.stored in
    slots-class f.table f.lexicals.items f.classes f.ledger.blocks s c.args.address c.in-Some.word c.in-Some.ensures (omega (arith, c.if-count-word.false, c.most-count.ensures))
    c.in-Slots.class (sym c.role.ensures ∙ c.in-Slots.is)

pub returns-then-number-size_of : goal.returns-then-number-size_of
returns-then-number-size_of c =
    let f = c.self.inside in let s = c.self.invariant.stored in
    subst (λ (v : Stored). lookup address_of v.blocks.unique c.args.address ≡ None) c.self.view_is
    (inner-none f.table f.lexicals.items f.classes f.ledger.blocks s c.args.address c.in-Some.word c.in-Some.ensures (omega (arith, c.if-count-word.false, c.most-count.ensures))
    c.in-Slots.class (sym c.role.ensures ∙ c.in-Slots.is)
    (λ e. c.if-number-size_of.true (subst (λ n. c.in-Some.word % 1024 / 2 ^ c.in-Slots.class * n ≡ c.in-Some.word % 1024) (sym c.size_of.ensures) e)))

pub returns-then-is_marked : goal.returns-then-is_marked
returns-then-is_marked c =
    let f = c.self.inside in let s = c.self.invariant.stored in (
      c.in-Some.ensures,
      subst (λ (v : Stored). lookup address_of v.blocks.unique c.args.address ≡ Some (record { address = c.args.address; size = 2 ^ c.in-Slots.class })) c.self.view_is
          (live-some f.table f.lexicals.items f.classes f.ledger.blocks s c.args.address c.in-Some.word c.in-Some.ensures (omega (arith, c.if-count-word.false, c.most-count.ensures))
          c.in-Slots.class (sym c.role.ensures ∙ c.in-Slots.is)
          (subst (λ n. c.in-Some.word % 1024 / 2 ^ c.in-Slots.class * n ≡ c.in-Some.word % 1024) c.size_of.ensures c.if-number-size_of.false) c.is_marked.result c.is_marked.ensures c.if-is_marked.true),
    )

pub returns-else-is_marked : goal.returns-else-is_marked
returns-else-is_marked c =
    let f = c.self.inside in let s = c.self.invariant.stored in
    subst (λ (v : Stored). lookup address_of v.blocks.unique c.args.address ≡ None) c.self.view_is
    (dead-none f.table f.lexicals.items f.classes f.ledger.blocks s c.args.address c.in-Some.word c.in-Some.ensures (omega (arith, c.if-count-word.false, c.most-count.ensures))
    c.in-Slots.class (sym c.role.ensures ∙ c.in-Slots.is)
    (subst (λ n. c.in-Some.word % 1024 / 2 ^ c.in-Slots.class * n ≡ c.in-Some.word % 1024) c.size_of.ensures c.if-number-size_of.false) c.is_marked.result c.is_marked.ensures c.if-is_marked.false)
