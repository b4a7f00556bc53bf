use Rattle.std.proofs.Common.{◌≤◌, refl, sym, ap, subst, ◌∙◌, arith}
use Rattle.std.specs.Vec.{vec_capacity}
use Rattle.cyc_store.specs.Ledger.{Stored, held_of, store_of, after}
use Rattle.cyc_store.specs.declared.change.Change.TheVariants.{Stocked}
use Rattle.cyc_store.specs.Slots.{HasSlot, IsSpent, Stocks}
use Rattle.cyc_pagestore.specs.inside.Table.{TableState}
use Rattle.cyc_pagestore.proofs.Storing.{taken-small}
use Rattle.cyc_pagestore.proofs.Cutting.{cut-spent, cut-stored, cut-stocks}
use Rattle.cyc_pagestore.specs.inside.Usage.{Counts, IsUsage}
use Rattle.cyc_pagestore.proofs.Counting.{cut-few, usage-cut}
use Rattle.cyc_pagestore.proofs.paged.PageStore.stock.Goals as goal

pub returns-in_default-clause-full : goal.returns-in_default-clause-full
returns-in_default-clause-full c =
    let f = c.self.inside in let s = c.self.invariant.stored in
    λ e. subst (λ (v : Stored). IsSpent (held_of v)) c.self.view_is
    (cut-spent f.table f.lexicals.items f.classes f.ledger.blocks s c.args.class c.requires.class (subst (λ (v : Stored). HasSlot (held_of v) c.args.class → ⊥) (sym c.self.view_is) c.requires.none) c.in_default.ensures.0)

pub returns-in_default-clause-same : goal.returns-in_default-clause-same
returns-in_default-clause-same c =
    let f = c.self.inside in let s = c.self.invariant.stored in
    ap (λ (y : TableState). store_of y.most y.words f.ledger.blocks) c.in_default.ensures.1 ∙ ap held_of c.self.view_is

pub overflow_mul-self : goal.overflow_mul-self
overflow_mul-self c =
    let f = c.self.inside in let s = c.self.invariant.stored in
    let small = taken-small f.table f.lexicals.items f.classes f.ledger.blocks s c.in-Some.ensures.middle c.in-Some.page c.in-Some.ensures.takes in
    record { fits = omega (arith, small) }

pub note_cut-requires : goal.note_cut-requires
note_cut-requires c =
    let f = c.self.inside in let s = c.self.invariant.stored in
    cut-few f.table f.lexicals.items f.classes f.ledger.blocks s f.usage c.self.invariant.usage c.cut.new.self f.lexicals.items _ (after f.ledger.blocks (Stocked c.args.class))
    (cut-stored f.table f.lexicals.items f.classes f.ledger.blocks s c.args.class c.requires.class (subst (λ (v : Stored). HasSlot (held_of v) c.args.class → ⊥) (sym c.self.view_is) c.requires.none) c.cut.new.self c.in-Some.page c.in-Some.ensures (after f.ledger.blocks (Stocked c.args.class)) refl)
    c.args.class c.requires.class (ap (λ (z : TableState). z.most) c.in-Some.ensures.is ∙ ap (λ (z : TableState). z.most) c.in-Some.ensures.takes.is) refl

pub invariant_of-self-2 : goal.invariant_of-self-2
invariant_of-self-2 c =
    let f = c.self.inside in let s = c.self.invariant.stored in
    record {
      room = subst (λ n. n ≤ vec_capacity f.lexicals) (sym (ap (λ (z : TableState). z.most) c.in-Some.ensures.is ∙ ap (λ (z : TableState). z.most) c.in-Some.ensures.takes.is)) c.self.invariant.room;
      stored = cut-stored f.table f.lexicals.items f.classes f.ledger.blocks s c.args.class c.requires.class (subst (λ (v : Stored). HasSlot (held_of v) c.args.class → ⊥) (sym c.self.view_is) c.requires.none)
          c.cut.new.self c.in-Some.page c.in-Some.ensures c.with-self-inside.result.blocks c.with-self-inside.ensures;
      usage = subst (λ (k : Counts). IsUsage k c.cut.new.self.most c.with-self-inside.result.blocks) (sym c.note_cut.ensures)
          (usage-cut f.table f.lexicals.items f.classes f.ledger.blocks s f.usage c.self.invariant.usage c.cut.new.self f.lexicals.items _ c.with-self-inside.result.blocks
          (cut-stored f.table f.lexicals.items f.classes f.ledger.blocks s c.args.class c.requires.class (subst (λ (v : Stored). HasSlot (held_of v) c.args.class → ⊥) (sym c.self.view_is) c.requires.none) c.cut.new.self c.in-Some.page c.in-Some.ensures c.with-self-inside.result.blocks c.with-self-inside.ensures)
          c.args.class c.requires.class (ap (λ (z : TableState). z.most) c.in-Some.ensures.is ∙ ap (λ (z : TableState). z.most) c.in-Some.ensures.takes.is) c.with-self-inside.ensures);
    }

pub returns-clause-ok : goal.returns-clause-ok
returns-clause-ok c =
    let f = c.self.inside in let s = c.self.invariant.stored in
    subst (λ (v : Stored). Stocks (held_of v) c.args.class (store_of c.cut.new.self.most c.cut.new.self.words c.with-self-inside.result.blocks)) c.self.view_is
    (cut-stocks f.table f.lexicals.items f.classes f.ledger.blocks s c.args.class c.requires.class (subst (λ (v : Stored). HasSlot (held_of v) c.args.class → ⊥) (sym c.self.view_is) c.requires.none)
    c.cut.new.self c.in-Some.page c.in-Some.ensures c.with-self-inside.result.blocks c.with-self-inside.ensures)
