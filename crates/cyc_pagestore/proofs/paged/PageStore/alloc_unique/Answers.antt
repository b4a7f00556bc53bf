use Rattle.std.proofs.Common.{Err, sym, ap, subst, ◌∙◌}
use Rattle.std.proofs.lemmas.Result.{err_from_is_err_and}
use Rattle.std.specs.Prelude.{false}
use Rattle.cyc_store.specs.Answers.{refused, Responds}
use Rattle.cyc_store.specs.Ledger.{Stored, held_of}
use Rattle.cyc_store.specs.Services.{Allocate, Allocated, Refused, Full, Serves}
use Rattle.cyc_store.specs.Slots.{HasSlot, IsSpent, Stocks, Fills}
use Rattle.cyc_store.specs.declared.range.TheConstants.{UNIQUE}
use Rattle.cyc_pagestore.proofs.Cutting.{has-dead, has-left, has-none, asked-bound, asked-filled, asked-has, asked-stocked, asked-full}
use Rattle.cyc_pagestore.proofs.paged.PageStore.alloc_unique.Goals as goal
use Rattle.cyc_pagestore.proofs.paged.PageStore.alloc_unique.Goals.{then-slots+then-slots-eq0+in_ok-stock, else-slots, else-slots-via-then-slots+else-slots-eq0, else-slots-via-else-slots}

pub stock-requires-clause-none : goal.stock-requires-clause-none
stock-requires-clause-none c =
    let f = c.self.inside in let s = c.self.invariant.stored in
    let bound = asked-bound f.table f.lexicals.items f.classes f.ledger.blocks s c.args.words c.requires.least c.requires.most c.slot_class-class.result c.slot_class-class.ensures in
    subst (λ (v : Stored). HasSlot (held_of v) c.slot_class-class.result → ⊥) c.self.view_is
    (has-none f.table f.lexicals.items f.classes f.ledger.blocks s c.slot_class-class.result bound c.if-slots.true c.if-slots-eq0.true)

pub returns-in_err-stock : goal.returns-in_err-stock
returns-in_err-stock c =
    let f = c.self.inside in let s = c.self.invariant.stored in
    let bound = asked-bound f.table f.lexicals.items f.classes f.ledger.blocks s c.args.words c.requires.least c.requires.most c.slot_class-class.result c.slot_class-class.ensures in
    let p = err_from_is_err_and c.from_residual.result c.from_residual.ensures.1 in
    let refusal = c.in_err-stock.ensures in
    rw (p.1, p.2)
    (subst (λ why. Responds false (held_of c.args.self.now) (Allocate UNIQUE c.args.words) (refused why) (held_of c.stock.new.self)) (sym refusal.few)
    (subst (Serves (held_of c.args.self.now) (Allocate UNIQUE c.args.words) (Refused Full)) (sym refusal.same)
    (subst (λ (v : Stored). Serves (held_of v) (Allocate UNIQUE c.args.words) (Refused Full) (held_of v)) c.self.view_is
    (asked-full f.table f.lexicals.items f.classes f.ledger.blocks s c.args.words c.requires.least c.requires.most c.slot_class-class.result c.slot_class-class.ensures
    (has-none f.table f.lexicals.items f.classes f.ledger.blocks s c.slot_class-class.result bound c.if-slots.true c.if-slots-eq0.true)
    (subst (λ (v : Stored). IsSpent (held_of v)) (sym c.self.view_is) (refusal.full (ap (λ why. Err why) refusal.few)))))))

pub fill-requires-clause-some : goal.fill-requires-clause-some
fill-requires-clause-some c =
    let f = c.self.inside in let s = c.self.invariant.stored in
    let bound = asked-bound f.table f.lexicals.items f.classes f.ledger.blocks s c.args.words c.requires.least c.requires.most c.slot_class-class.result c.slot_class-class.ensures in
    elim c.if-slots.branch [
      | then-slots+then-slots-eq0+in_ok-stock w ↦ subst (λ (v : Stored). HasSlot (held_of v) c.slot_class-class.result) (sym w.self-is)
          (asked-has f.table f.lexicals.items f.classes f.ledger.blocks s c.args.words c.requires.least c.requires.most c.slot_class-class.result c.slot_class-class.ensures
          (has-none f.table f.lexicals.items f.classes f.ledger.blocks s c.slot_class-class.result bound w.if-slots.true w.if-slots-eq0.true) (held_of w.stock.new.self)
          (subst (λ (v : Stored). Stocks (held_of v) c.slot_class-class.result (held_of w.stock.new.self)) (sym c.self.view_is) w.in_ok-stock.ensures.ok))
      | else-slots w ↦ subst (λ (v : Stored). HasSlot (held_of v) c.slot_class-class.result) (c.self.view_is ∙ sym w.self-is)
          (elim w.else-slots.branch [
            | else-slots-via-then-slots+else-slots-eq0 z ↦ has-left f.table f.lexicals.items f.classes f.ledger.blocks s c.slot_class-class.result bound z.if-slots-eq0.false
            | else-slots-via-else-slots z ↦ has-dead f.table f.lexicals.items f.classes f.ledger.blocks s c.slot_class-class.result bound z.if-slots.false
          ])
    ]

pub returns : goal.returns
returns c =
    let f = c.self.inside in let s = c.self.invariant.stored in
    let bound = asked-bound f.table f.lexicals.items f.classes f.ledger.blocks s c.args.words c.requires.least c.requires.most c.slot_class-class.result c.slot_class-class.ensures in
    subst (λ (v : Stored). Serves (held_of v) (Allocate UNIQUE c.args.words) (Allocated c.fill.result) (held_of c.fill.new.self)) c.self.view_is
    (elim c.if-slots.branch [
      | then-slots+then-slots-eq0+in_ok-stock w ↦
          asked-stocked f.table f.lexicals.items f.classes f.ledger.blocks s c.args.words c.requires.least c.requires.most c.slot_class-class.result c.slot_class-class.ensures
          (has-none f.table f.lexicals.items f.classes f.ledger.blocks s c.slot_class-class.result bound w.if-slots.true w.if-slots-eq0.true) (held_of w.stock.new.self) (held_of c.fill.new.self) c.fill.result
          (subst (λ (v : Stored). Stocks (held_of v) c.slot_class-class.result (held_of w.stock.new.self)) (sym c.self.view_is) w.in_ok-stock.ensures.ok)
          (subst (λ (v : Stored). Fills (held_of v) c.slot_class-class.result c.fill.result (held_of c.fill.new.self)) w.self-is c.fill.ensures)
      | else-slots w ↦
          asked-filled f.table f.lexicals.items f.classes f.ledger.blocks s c.args.words c.requires.least c.requires.most c.slot_class-class.result c.slot_class-class.ensures c.fill.result (held_of c.fill.new.self)
          (subst (λ (v : Stored). Fills (held_of v) c.slot_class-class.result c.fill.result (held_of c.fill.new.self)) (w.self-is ∙ sym c.self.view_is) c.fill.ensures)
    ])
