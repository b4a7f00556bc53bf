use Rattle.std.proofs.Common.{◌≡◌, ◌+◌, ◌*◌, ◌<◌, ◌≤◌, true, length, refl, sym, subst}
use Rattle.std.specs.Prelude.{is_some, set}
use Rattle.std.specs.Vec.{with_item}
use Rattle.cyc_store.specs.Ledger.{Stored, held_of, store_of}
use Rattle.cyc_store.specs.State.{saved, word_at}
use Rattle.cyc_store.specs.declared.range.TheConstants.{STORE_BASE, PAGE_WORDS}
use Rattle.cyc_store.proofs.KeptLoads.{load-inside}
use Rattle.cyc_store.proofs.KeptSaving.{save-kept, save-saved}
use Rattle.cyc_plainstore.proofs.plain.PlainStoreStore.save.Goals as goal

pub invariant_of-self : goal.invariant_of-self
invariant_of-self c =
    let f = c.self.inside in let k = c.self.invariant in
    let inside : c.in-Some.at < length f.table.words.items = subst (λ (v : Stored). c.in-Some.at < length v.words) (sym c.self.view_is) c.in-Some.ensures.0 in
    let live : is_some (word_at (store_of f.table.most f.table.words.items f.ledger.blocks) c.args.address) ≡ true =
    subst (λ (v : Stored). is_some (word_at (held_of v) c.args.address) ≡ true) (sym c.self.view_is) c.in-Some.ensures.2 in
    save-kept f.table f.lexicals.items f.classes f.ledger.blocks k c.in-Some.at inside c.args.address c.in-Some.ensures.1 live c.args.word c.ranges.word.fits _ refl refl refl refl refl

pub returns-clause-saved : goal.returns-clause-saved
returns-clause-saved c =
    let f = c.self.inside in let k = c.self.invariant in
    let inside : c.in-Some.at < length f.table.words.items = subst (λ (v : Stored). c.in-Some.at < length v.words) (sym c.self.view_is) c.in-Some.ensures.0 in
    let live : is_some (word_at (store_of f.table.most f.table.words.items f.ledger.blocks) c.args.address) ≡ true =
    subst (λ (v : Stored). is_some (word_at (held_of v) c.args.address) ≡ true) (sym c.self.view_is) c.in-Some.ensures.2 in
    subst (λ (v : Stored). store_of f.table.most (set f.table.words.items c.in-Some.at c.args.word) f.ledger.blocks ≡ saved (held_of v) c.args.address c.args.word) c.self.view_is
    (save-saved f.table f.lexicals.items f.classes f.ledger.blocks k c.in-Some.at inside c.args.address c.in-Some.ensures.1 live c.args.word c.ranges.word.fits
    (record f.table { words = with_item f.table.words c.in-Some.at c.args.word }) refl refl refl refl refl)

pub returns-clause-inside : goal.returns-clause-inside
returns-clause-inside c done =
    let f = c.self.inside in
    let inside : c.in-Some.at < length f.table.words.items = subst (λ (v : Stored). c.in-Some.at < length v.words) (sym c.self.view_is) c.in-Some.ensures.0 in
    subst (λ (v : Stored). (STORE_BASE ≤ c.args.address) × (c.args.address < STORE_BASE + 4 * (PAGE_WORDS * (held_of v).pages))) c.self.view_is
    (load-inside f.table f.lexicals.items f.classes f.ledger.blocks c.self.invariant c.args.address c.in-Some.at c.in-Some.ensures.1 inside)
