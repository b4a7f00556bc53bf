use Rattle.std.proofs.Common.{◌≡◌, ◌+◌, ◌*◌, ◌<◌, true, length, sym, subst, arith}
use Rattle.std.specs.Prelude.{is_some}
use Rattle.cyc_store.specs.Ledger.{Stored, held_of}
use Rattle.cyc_store.specs.State.{homes, holder}
use Rattle.cyc_store.specs.declared.range.TheConstants.{STORE_BASE}
use Rattle.cyc_store.proofs.KeptWords.{kept-below, kept-marks, mark-there}
use Rattle.cyc_plainstore.proofs.plain.PlainStore.is_live.Goals as goal

pub returns-then-offset-row : goal.returns-then-offset-row
returns-then-offset-row c =
    let f = c.self.inside in
    subst (λ (v : Stored). true ≡ is_some (holder (homes (held_of v)) (STORE_BASE + 4 * c.args.word))) c.self.view_is
    (kept-below f.table f.lexicals.items f.classes f.ledger.blocks c.self.invariant c.args.word
    (subst (λ (v : Stored). c.args.word < length v.words) (sym c.self.view_is) c.requires) c.index-row.result.now c.index-row.ensures c.if-offset-row.true)

pub index-requires : goal.index-requires
index-requires c =
    let f = c.self.inside in
    let there : c.args.word < length f.table.live.items = mark-there f.table f.lexicals.items f.classes f.ledger.blocks c.self.invariant c.args.word
    (subst (λ (v : Stored). c.args.word < length v.words) (sym c.self.view_is) c.requires) c.index-row.result.now c.index-row.ensures in
    omega (arith, there)

pub returns : goal.returns
returns c =
    let f = c.self.inside in
    subst (λ (v : Stored). c.index.result.now ≡ is_some (holder (homes (held_of v)) (STORE_BASE + 4 * c.args.word))) c.self.view_is
    (kept-marks f.table f.lexicals.items f.classes f.ledger.blocks c.self.invariant c.args.word
    (subst (λ (v : Stored). c.args.word < length v.words) (sym c.self.view_is) c.requires) c.index-row.result.now c.index-row.ensures c.index.result.now c.if-offset-row.false c.index.ensures)
