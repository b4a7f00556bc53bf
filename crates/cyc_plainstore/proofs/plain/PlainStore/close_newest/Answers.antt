use Rattle.std.proofs.Common.{◌≡◌, ℕ, ◌/◌, ◌<◌, length, sym, subst, arith}
use Rattle.std.specs.Prelude.{vec_capacity}
use Rattle.cyc_store.specs.Ledger.{Stored, Unwinds}
use Rattle.cyc_store.specs.State.{lexical_count}
use Rattle.cyc_store.proofs.KeptServices.{kept-lexicals}
use Rattle.cyc_store.proofs.KeptMaking.{root-there, first-counted}
use Rattle.cyc_store.proofs.KeptClosing.{close-there, close-kept}
use Rattle.cyc_store.proofs.KeptUnwinding.{newest-named, newest-left, newest-blocks, newest-unwinds}
use Rattle.cyc_plainstore.proofs.plain.PlainStore.close_newest.Goals as goal

-- If the number of open lexical regions is positive, it is not zero.
never : (count some : ℕ) → count ≡ some → 0 < some → count ≡ 0 → ⊥
never count some is more none = omega (arith, is, more, none)

pub invariant_of-self : goal.invariant_of-self
invariant_of-self c =
    let f = c.self.inside in
    let none : length f.lexicals.items ≡ 0 = omega (arith, c.in_default.ensures.cases.0) in
    absurd (never (length f.lexicals.items) (lexical_count f.ledger.blocks.regions) (kept-lexicals f.table f.lexicals.items f.classes f.ledger.blocks c.self.invariant)
    (subst (λ (v : Stored). 0 < lexical_count v.blocks.regions) (sym c.self.view_is) c.requires) none)

pub returns-in_default : goal.returns-in_default
returns-in_default c =
    let f = c.self.inside in
    let none : length f.lexicals.items ≡ 0 = omega (arith, c.in_default.ensures.cases.0) in
    absurd (never (length f.lexicals.items) (lexical_count f.ledger.blocks.regions) (kept-lexicals f.table f.lexicals.items f.classes f.ledger.blocks c.self.invariant)
    (subst (λ (v : Stored). 0 < lexical_count v.blocks.regions) (sym c.self.view_is) c.requires) none)

pub index-first-requires : goal.index-first-requires
index-first-requires c =
    let f = c.self.inside in let k = c.self.invariant in
    let (r, named) = newest-named f.table f.lexicals.items f.classes f.ledger.blocks k c.pop.new.self.items c.in-Some.handle c.in-Some.ensures.items in
    let there : c.in-Some.handle / 2 < length f.table.rows.items = root-there f.table f.lexicals.items f.classes f.ledger.blocks k (c.in-Some.handle / 2) r named in
    omega (arith, there)

pub give_back-requires : goal.give_back-requires
give_back-requires c =
    let f = c.self.inside in let k = c.self.invariant in
    let (r, named) = newest-named f.table f.lexicals.items f.classes f.ledger.blocks k c.pop.new.self.items c.in-Some.handle c.in-Some.ensures.items in
    close-there f.table f.lexicals.items f.classes f.ledger.blocks k (c.in-Some.handle / 2) r named c.index-first.result.now c.index-first.ensures
    (first-counted f.table f.lexicals.items f.classes f.ledger.blocks k (c.in-Some.handle / 2) r named c.index-first.result.now c.index-first.ensures)

pub invariant_of-self-2 : goal.invariant_of-self-2
invariant_of-self-2 c =
    let f = c.self.inside in let k = c.self.invariant in
    let (r, named) = newest-named f.table f.lexicals.items f.classes f.ledger.blocks k c.pop.new.self.items c.in-Some.handle c.in-Some.ensures.items in
    close-kept f.table f.lexicals.items f.classes f.ledger.blocks k (c.in-Some.handle / 2) r named c.index-first.result.now c.index-first.ensures
    (first-counted f.table f.lexicals.items f.classes f.ledger.blocks k (c.in-Some.handle / 2) r named c.index-first.result.now c.index-first.ensures)
    c.with-self-inside.result.blocks (newest-blocks f.table f.lexicals.items f.classes f.ledger.blocks k c.pop.new.self.items c.in-Some.handle c.in-Some.ensures.items c.with-self-inside.result.blocks c.with-self-inside.ensures)
    c.pop.new.self.items (newest-left f.table f.lexicals.items f.classes f.ledger.blocks k c.pop.new.self.items c.in-Some.handle c.in-Some.ensures.items)
    c.give_back.new.self c.give_back.ensures.most c.give_back.ensures.words c.give_back.ensures.live c.give_back.ensures.rows c.give_back.ensures.free

pub returns : goal.returns
returns c =
    let f = c.self.inside in
    subst (λ (v : Stored). Unwinds v (record { pages = c.give_back.new.self.most; words = c.give_back.new.self.words.items; blocks = c.with-self-inside.result.blocks; room = vec_capacity c.pop.new.self })) c.self.view_is
    (newest-unwinds f.table f.lexicals.items f.classes f.ledger.blocks c.self.invariant c.pop.new.self.items c.in-Some.handle c.in-Some.ensures.items c.with-self-inside.result.blocks c.with-self-inside.ensures
    c.give_back.new.self (vec_capacity f.lexicals) (vec_capacity c.pop.new.self) c.give_back.ensures.most c.give_back.ensures.words c.in-Some.ensures.capacity)
