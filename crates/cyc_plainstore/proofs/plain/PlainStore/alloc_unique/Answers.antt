use Rattle.std.proofs.Common.{ℕ, ◌<◌, Ok, Err, true, sym, ap, subst, ◌∙◌}
use Rattle.std.proofs.lemmas.Result.{err_from_is_err_and}
use Rattle.cyc_store.specs.Answers.{refused, Responds}
use Rattle.cyc_store.specs.Ledger.{Stored, held_of}
use Rattle.cyc_store.specs.Services.{Allocate, Allocated, Serves}
use Rattle.cyc_store.specs.Slots.{HasSlot, IsSpent, Stocks, Fills}
use Rattle.cyc_store.specs.State.{demand}
use Rattle.std.specs.Prelude.{Result}
use Rattle.cyc_store.specs.declared.answer.No.{No}
use Rattle.cyc_store.specs.declared.answer.No.TheVariants as No
use Rattle.cyc_store.specs.declared.range.TheConstants.{UNIQUE}
use Rattle.cyc_store.proofs.KeptSlots.{slot-dead, slot-left, slot-none}
use Rattle.cyc_store.proofs.KeptUnique.{unique-bound, unique-has, unique-filled, unique-stocked, unique-refused}
use Rattle.cyc_plainstore.proofs.plain.PlainStore.alloc_unique.Goals as goal
use Rattle.cyc_plainstore.proofs.plain.PlainStore.alloc_unique.Goals.{then-slots+then-slots-eq0+in_ok-stock, else-slots, else-slots-via-then-slots+else-slots-eq0, else-slots-via-else-slots}

pub stock-requires-clause-none : goal.stock-requires-clause-none
stock-requires-clause-none c =
    let f = c.self.inside in let k = c.self.invariant in
    let bound = unique-bound f.table f.lexicals.items f.classes f.ledger.blocks k c.args.words c.requires.least c.requires.most c.class_of-class.result c.class_of-class.ensures in
    subst (λ (v : Stored). HasSlot (held_of v) c.class_of-class.result → ⊥) c.self.view_is
    (slot-none f.table f.lexicals.items f.classes f.ledger.blocks k c.class_of-class.result bound c.if-slots.true c.if-slots-eq0.true)

pub returns-in_err-stock-clause-answer : goal.returns-in_err-stock-clause-answer
returns-in_err-stock-clause-answer c =
    let f = c.self.inside in let k = c.self.invariant in
    let bound = unique-bound f.table f.lexicals.items f.classes f.ledger.blocks k c.args.words c.requires.least c.requires.most c.class_of-class.result c.class_of-class.ensures in
    let p = err_from_is_err_and c.from_residual.result c.from_residual.ensures.1 in
    let refusal = c.in_err-stock.ensures in
    rw (p.1, p.2)
    (subst (λ (v : Stored). Responds true (held_of v) (Allocate UNIQUE c.args.words) (refused c.in_err-stock.field-0.0) (held_of c.stock.new.self)) c.self.view_is
    (unique-refused f.table f.lexicals.items f.classes f.ledger.blocks k c.args.words c.requires.least c.requires.most c.class_of-class.result c.class_of-class.ensures
    (slot-none f.table f.lexicals.items f.classes f.ledger.blocks k c.class_of-class.result bound c.if-slots.true c.if-slots-eq0.true) c.in_err-stock.field-0.0 (held_of c.stock.new.self) refusal.few
    (λ e. subst (λ (v : Stored). IsSpent (held_of v)) (sym c.self.view_is) (refusal.full (ap (λ w. Err w) e)))
    (λ e. subst (λ (v : Stored). demand (held_of v) < v.pages) (sym c.self.view_is) (refusal.memory (ap (λ w. Err w) e)))
    (refusal.same ∙ sym (ap held_of c.self.view_is))))

-- The reason for which the heap store refuses to allocate a block, given the result of the attempt.
abbrev reason : Result ℕ No → No
reason (Ok address) = No.Memory
reason (Err why) = why

pub returns-in_err-stock-clause-grew : goal.returns-in_err-stock-clause-grew
returns-in_err-stock-clause-grew c =
    let p = err_from_is_err_and c.from_residual.result c.from_residual.ensures.1 in
    rw (p.1, p.2) (λ e. c.in_err-stock.ensures.grew (ap (λ w. Err w) (ap reason e)))

pub fill-requires-clause-some : goal.fill-requires-clause-some
fill-requires-clause-some c =
    let f = c.self.inside in let k = c.self.invariant in
    let bound = unique-bound f.table f.lexicals.items f.classes f.ledger.blocks k c.args.words c.requires.least c.requires.most c.class_of-class.result c.class_of-class.ensures in
    elim c.if-slots.branch [
      | then-slots+then-slots-eq0+in_ok-stock w ↦ subst (λ (v : Stored). HasSlot (held_of v) c.class_of-class.result) (sym w.self-is)
          (unique-has f.table f.lexicals.items f.classes f.ledger.blocks k c.args.words c.requires.least c.requires.most c.class_of-class.result c.class_of-class.ensures
          (slot-none f.table f.lexicals.items f.classes f.ledger.blocks k c.class_of-class.result bound w.if-slots.true w.if-slots-eq0.true) (held_of w.stock.new.self)
          (subst (λ (v : Stored). Stocks (held_of v) c.class_of-class.result (held_of w.stock.new.self)) (sym c.self.view_is) w.in_ok-stock.ensures.ok))
      | else-slots w ↦ subst (λ (v : Stored). HasSlot (held_of v) c.class_of-class.result) (c.self.view_is ∙ sym w.self-is)
          (elim w.else-slots.branch [
            | else-slots-via-then-slots+else-slots-eq0 z ↦ slot-left f.table f.lexicals.items f.classes f.ledger.blocks k c.class_of-class.result bound z.if-slots-eq0.false
            | else-slots-via-else-slots z ↦ slot-dead f.table f.lexicals.items f.classes f.ledger.blocks k c.class_of-class.result bound z.if-slots.false
          ])
    ]

pub returns-clause-answer : goal.returns-clause-answer
returns-clause-answer c =
    let f = c.self.inside in let k = c.self.invariant in
    let bound = unique-bound f.table f.lexicals.items f.classes f.ledger.blocks k c.args.words c.requires.least c.requires.most c.class_of-class.result c.class_of-class.ensures in
    subst (λ (v : Stored). Serves (held_of v) (Allocate UNIQUE c.args.words) (Allocated c.fill.result) (held_of c.fill.new.self)) c.self.view_is
    (elim c.if-slots.branch [
      | then-slots+then-slots-eq0+in_ok-stock w ↦
          unique-stocked f.table f.lexicals.items f.classes f.ledger.blocks k c.args.words c.requires.least c.requires.most c.class_of-class.result c.class_of-class.ensures
          (slot-none f.table f.lexicals.items f.classes f.ledger.blocks k c.class_of-class.result bound w.if-slots.true w.if-slots-eq0.true) (held_of w.stock.new.self) (held_of c.fill.new.self) c.fill.result
          (subst (λ (v : Stored). Stocks (held_of v) c.class_of-class.result (held_of w.stock.new.self)) (sym c.self.view_is) w.in_ok-stock.ensures.ok)
          (subst (λ (v : Stored). Fills (held_of v) c.class_of-class.result c.fill.result (held_of c.fill.new.self)) w.self-is c.fill.ensures)
      | else-slots w ↦
          unique-filled f.table f.lexicals.items f.classes f.ledger.blocks k c.args.words c.requires.least c.requires.most c.class_of-class.result c.class_of-class.ensures c.fill.result (held_of c.fill.new.self)
          (subst (λ (v : Stored). Fills (held_of v) c.class_of-class.result c.fill.result (held_of c.fill.new.self)) (w.self-is ∙ sym c.self.view_is) c.fill.ensures)
    ])
