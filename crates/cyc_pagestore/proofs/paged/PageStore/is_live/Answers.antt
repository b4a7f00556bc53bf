use Rattle.std.proofs.Common.{◌≡◌, ◌+◌, ◌*◌, ◌/◌, ◌%◌, ◌<◌, true, length, sym, subst, ◌∙◌}
use Rattle.std.proofs.lemmas.Bool.{ltb-false}
use Rattle.std.specs.Prelude.{is_some}
use Rattle.cyc_words.proofs.Numbers.{nat_lt-true}
use Rattle.cyc_store.specs.Ledger.{Stored, held_of}
use Rattle.cyc_store.specs.State.{homes, holder}
use Rattle.cyc_store.specs.declared.range.TheConstants.{STORE_BASE}
use Rattle.cyc_pagestore.specs.inside.Table.{row_of}
use Rattle.cyc_pagestore.proofs.Storing.{live-below, live-marked}
use Rattle.cyc_pagestore.proofs.paged.PageStore.is_live.Goals as goal

pub returns-then-is_filled : goal.returns-then-is_filled
returns-then-is_filled c =
    let f = c.self.inside in let inside = subst (λ (v : Stored). c.args.word < length v.words) (sym c.self.view_is) c.requires in
    subst (λ (v : Stored). true ≡ is_some (holder (homes (held_of v)) (STORE_BASE + 4 * c.args.word))) c.self.view_is
    (live-below f.table f.lexicals.items f.classes f.ledger.blocks c.self.invariant.stored c.args.word inside
    (nat_lt-true (c.args.word % 1024) (row_of f.table (c.args.word / 1024)).filled (sym c.is_filled.ensures ∙ c.if-is_filled.true)))

pub returns : goal.returns
returns c =
    let f = c.self.inside in let inside = subst (λ (v : Stored). c.args.word < length v.words) (sym c.self.view_is) c.requires in
    subst (λ (v : Stored). c.is_marked.result ≡ is_some (holder (homes (held_of v)) (STORE_BASE + 4 * c.args.word))) c.self.view_is
    (live-marked f.table f.lexicals.items f.classes f.ledger.blocks c.self.invariant.stored c.args.word inside c.is_marked.result
    (ltb-false (c.args.word % 1024) (row_of f.table (c.args.word / 1024)).filled (sym c.is_filled.ensures ∙ c.if-is_filled.false)) c.is_marked.ensures)
