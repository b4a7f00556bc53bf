use Rattle.std.proofs.Common.{◌≡◌, ◌+◌, ◌*◌, ◌<◌, ◌≤◌, true, length, refl, sym, ap, subst, arith}
use Rattle.std.specs.Prelude.{is_some}
use Rattle.std.specs.Vec.{vec_capacity}
use Rattle.cyc_store.specs.Ledger.{Stored, held_of, store_of}
use Rattle.cyc_store.specs.State.{saved, word_at}
use Rattle.cyc_store.specs.declared.range.TheConstants.{STORE_BASE, PAGE_WORDS}
use Rattle.cyc_pagestore.specs.inside.Table.{TableState}
use Rattle.cyc_pagestore.proofs.Cutting.{words-all}
use Rattle.cyc_pagestore.proofs.Finding.{word-inside, save-stored, save-held}
use Rattle.cyc_pagestore.proofs.Counting.{usage-same}
use Rattle.cyc_pagestore.proofs.paged.PageStoreStore.save.Goals as goal

pub set_word-requires : goal.set_word-requires
set_word-requires c =
    let f = c.self.inside in let s = c.self.invariant.stored in
    let inside = subst (λ (v : Stored). c.in-Some.at < length v.words) (sym c.self.view_is) c.in-Some.ensures.0 in
    let all = words-all f.table f.lexicals.items f.classes f.ledger.blocks s in
    omega (arith, inside, all)

pub invariant_of-self : goal.invariant_of-self
invariant_of-self c =
    let f = c.self.inside in let s = c.self.invariant.stored in
    let inside = subst (λ (v : Stored). c.in-Some.at < length v.words) (sym c.self.view_is) c.in-Some.ensures.0 in
    let live = subst (λ (v : Stored). is_some (word_at (held_of v) c.args.address) ≡ true) (sym c.self.view_is) c.in-Some.ensures.2 in
    record {
      room = subst (λ n. n ≤ vec_capacity f.lexicals) (sym (ap (λ (z : TableState). z.most) c.set_word.ensures)) c.self.invariant.room;
      stored = save-stored f.table f.lexicals.items f.classes f.ledger.blocks s c.args.address c.in-Some.at c.in-Some.ensures.1 inside live c.args.word c.ranges.word.fits c.set_word.new.self c.set_word.ensures;
      usage = usage-same f.table f.lexicals.items f.classes f.ledger.blocks s f.usage c.self.invariant.usage c.set_word.new.self.most (ap (λ (z : TableState). z.most) c.set_word.ensures) f.ledger.blocks refl refl;
    }

pub returns-clause-saved : goal.returns-clause-saved
returns-clause-saved c =
    let f = c.self.inside in let s = c.self.invariant.stored in
    let inside = subst (λ (v : Stored). c.in-Some.at < length v.words) (sym c.self.view_is) c.in-Some.ensures.0 in
    let live = subst (λ (v : Stored). is_some (word_at (held_of v) c.args.address) ≡ true) (sym c.self.view_is) c.in-Some.ensures.2 in
    subst (λ (v : Stored). store_of c.set_word.new.self.most c.set_word.new.self.words f.ledger.blocks ≡ saved (held_of v) c.args.address c.args.word) c.self.view_is
    (save-held f.table f.lexicals.items f.classes f.ledger.blocks s c.args.address c.in-Some.at c.in-Some.ensures.1 inside live c.args.word c.ranges.word.fits c.set_word.new.self c.set_word.ensures)

pub returns-clause-inside : goal.returns-clause-inside
returns-clause-inside c done =
    let f = c.self.inside in let s = c.self.invariant.stored in
    let inside = subst (λ (v : Stored). c.in-Some.at < length v.words) (sym c.self.view_is) c.in-Some.ensures.0 in
    subst (λ (v : Stored). (STORE_BASE ≤ c.args.address) × (c.args.address < STORE_BASE + 4 * (PAGE_WORDS * (held_of v).pages))) c.self.view_is
    (word-inside f.table f.lexicals.items f.classes f.ledger.blocks s c.args.address c.in-Some.at c.in-Some.ensures.1 inside)
