use Rattle.std.proofs.Common.{◌<◌, refl, sym, subst}
use Rattle.cyc_words.proofs.Booleans.{false_is_not_true}
use Rattle.cyc_store.specs.Ledger.{Stored, IsUsedUp, held_of, store_of}
use Rattle.cyc_store.specs.Slots.{HasSlot, IsSpent, Stocks}
use Rattle.cyc_store.specs.State.{demand}
use Rattle.cyc_store.proofs.KeptServices.{kept-unchanged, kept-used}
use Rattle.cyc_store.proofs.KeptSlots.{stock-full, stock-room, stock-kept, stock-stocks}
use Rattle.cyc_plainstore.proofs.plain.PlainStore.stock.Goals as goal

pub returns-then-is_full-clause-full : goal.returns-then-is_full-clause-full
returns-then-is_full-clause-full c =
    let f = c.self.inside in let k = c.self.invariant in let full = c.if-is_full.ensures.0 refl in
    λ e. subst (λ (v : Stored). IsSpent (held_of v)) c.self.view_is
    (stock-full f.table f.lexicals.items f.classes f.ledger.blocks k c.args.class c.requires.class
    (subst (λ (v : Stored). HasSlot (held_of v) c.args.class → ⊥) (sym c.self.view_is) c.requires.none) full.0 full.1)

pub invariant_of-self : goal.invariant_of-self
invariant_of-self c =
    let f = c.self.inside in
    kept-unchanged f.table c.draw.new.self f.lexicals.items f.classes f.ledger.blocks c.in_default.ensures.same c.self.invariant

pub returns-in_default-clause-memory : goal.returns-in_default-clause-memory
returns-in_default-clause-memory c =
    let f = c.self.inside in let k = c.self.invariant in
    λ e. subst (λ (v : Stored). demand (held_of v) < v.pages) c.self.view_is
    (stock-room f.table f.lexicals.items f.classes f.ledger.blocks k c.args.class c.requires.class
    (subst (λ (v : Stored). HasSlot (held_of v) c.args.class → ⊥) (sym c.self.view_is) c.requires.none) (λ full. false_is_not_true (c.if-is_full.ensures.1 full)))

pub returns-in_default-clause-grew : goal.returns-in_default-clause-grew
returns-in_default-clause-grew c =
    let f = c.self.inside in
    λ e. subst (λ (v : Stored). IsUsedUp v) c.self.view_is (kept-used f.table f.lexicals.items f.classes f.ledger.blocks c.self.invariant c.in_default.ensures.grew)

pub invariant_of-self-2 : goal.invariant_of-self-2
invariant_of-self-2 c =
    let f = c.self.inside in let k = c.self.invariant in
    stock-kept f.table f.lexicals.items f.classes f.ledger.blocks k c.args.class c.requires.class
    (subst (λ (v : Stored). HasSlot (held_of v) c.args.class → ⊥) (sym c.self.view_is) c.requires.none)
    c.draw.new.self c.in-Ok.page c.in-Ok.ensures.draws (λ full. false_is_not_true (c.if-is_full.ensures.1 full)) c.with-self-inside.result.blocks c.with-self-inside.ensures _
    (record { most = refl; words = refl; live = refl; free = refl; rows = refl })

pub returns-clause-ok : goal.returns-clause-ok
returns-clause-ok c =
    let f = c.self.inside in let k = c.self.invariant in
    subst (λ (v : Stored). Stocks (held_of v) c.args.class (store_of c.draw.new.self.most c.draw.new.self.words.items c.with-self-inside.result.blocks)) c.self.view_is
    (stock-stocks f.table f.lexicals.items f.classes f.ledger.blocks k c.args.class c.requires.class
    (subst (λ (v : Stored). HasSlot (held_of v) c.args.class → ⊥) (sym c.self.view_is) c.requires.none)
    c.draw.new.self c.in-Ok.page c.in-Ok.ensures.draws (λ full. false_is_not_true (c.if-is_full.ensures.1 full)) c.with-self-inside.result.blocks c.with-self-inside.ensures)
