use Rattle.std.proofs.Common.{◌≡◌, ℕ, ◌/◌, ◌<◌, length, refl, sym, subst, arith}
use Rattle.cyc_store.specs.Ledger.{Stored, Unwinds}
use Rattle.cyc_store.specs.State.{lexical_count}
use Rattle.cyc_store.proofs.KeptServices.{kept-lexicals}
use Rattle.cyc_store.proofs.KeptUnwinding.{newest-named, newest-left, newest-blocks, newest-unwinds}
use Rattle.cyc_pagestore.proofs.Storing.{root-inside, root-role, closes-most, closed-stored, closed-unwinds}
use Rattle.cyc_pagestore.specs.inside.Usage.{Counts, IsUsage}
use Rattle.cyc_pagestore.proofs.Counting.{counted-there, counted-some, usage-closed}
use Rattle.cyc_pagestore.proofs.paged.PageStore.close_newest.Goals as goal

-- The newest lexical region can be closed because some lexical region is open.
never : (count some : ℕ) → count ≡ some → 0 < some → count ≡ 0 → ⊥
never count some is more none = omega (arith, is, more, none)

pub invariant_of-self : goal.invariant_of-self
invariant_of-self c =
    let f = c.self.inside in let s = c.self.invariant.stored in
    let none : length f.lexicals.items ≡ 0 = omega (arith, c.in_default.ensures.cases.0) in
    absurd (never (length f.lexicals.items) (lexical_count f.ledger.blocks.regions) (kept-lexicals s.table f.lexicals.items f.classes f.ledger.blocks s.kept)
    (subst (λ (v : Stored). 0 < lexical_count v.blocks.regions) (sym c.self.view_is) c.requires) none)

pub returns-in_default : goal.returns-in_default
returns-in_default c =
    let f = c.self.inside in let s = c.self.invariant.stored in
    let none : length f.lexicals.items ≡ 0 = omega (arith, c.in_default.ensures.cases.0) in
    absurd (never (length f.lexicals.items) (lexical_count f.ledger.blocks.regions) (kept-lexicals s.table f.lexicals.items f.classes f.ledger.blocks s.kept)
    (subst (λ (v : Stored). 0 < lexical_count v.blocks.regions) (sym c.self.view_is) c.requires) none)

pub close-requires-clause-there : goal.close-requires-clause-there
close-requires-clause-there c =
    let f = c.self.inside in let s = c.self.invariant.stored in
    let (r, named) = newest-named s.table f.lexicals.items f.classes f.ledger.blocks s.kept c.pop.new.self.items c.in-Some.handle c.in-Some.ensures.items in
    root-inside f.table f.lexicals.items f.classes f.ledger.blocks s (c.in-Some.handle / 2) r named

pub close-requires-clause-root : goal.close-requires-clause-root
close-requires-clause-root c =
    let f = c.self.inside in let s = c.self.invariant.stored in
    let (r, named) = newest-named s.table f.lexicals.items f.classes f.ledger.blocks s.kept c.pop.new.self.items c.in-Some.handle c.in-Some.ensures.items in
    root-role f.table f.lexicals.items f.classes f.ledger.blocks s (c.in-Some.handle / 2) r named

pub note_closed-requires-clause-there : goal.note_closed-requires-clause-there
note_closed-requires-clause-there c =
    let f = c.self.inside in let s = c.self.invariant.stored in
    let (r, named) = newest-named s.table f.lexicals.items f.classes f.ledger.blocks s.kept c.pop.new.self.items c.in-Some.handle c.in-Some.ensures.items in
    counted-there f.table f.lexicals.items f.classes f.ledger.blocks s f.usage c.self.invariant.usage (c.in-Some.handle / 2) r named

pub note_closed-requires-clause-some : goal.note_closed-requires-clause-some
note_closed-requires-clause-some c =
    let f = c.self.inside in let s = c.self.invariant.stored in
    let (r, named) = newest-named s.table f.lexicals.items f.classes f.ledger.blocks s.kept c.pop.new.self.items c.in-Some.handle c.in-Some.ensures.items in
    counted-some f.table f.lexicals.items f.classes f.ledger.blocks s f.usage c.self.invariant.usage (c.in-Some.handle / 2) r named

pub invariant_of-self-2 : goal.invariant_of-self-2
invariant_of-self-2 c =
    let f = c.self.inside in let s = c.self.invariant.stored in
    let (r, named) = newest-named s.table f.lexicals.items f.classes f.ledger.blocks s.kept c.pop.new.self.items c.in-Some.handle c.in-Some.ensures.items in
    record {
      room = let room = c.self.invariant.room in let most = closes-most f.table f.lexicals.items f.classes f.ledger.blocks s c.close.new.self (c.in-Some.handle / 2) c.close.ensures r named in let cap = c.pop.ensures.capacity in omega (arith, room, most, cap);
      stored = closed-stored f.table f.lexicals.items f.classes f.ledger.blocks s c.close.new.self (c.in-Some.handle / 2) c.close.ensures r named c.with-self-inside.result.blocks
          (newest-blocks s.table f.lexicals.items f.classes f.ledger.blocks s.kept c.pop.new.self.items c.in-Some.handle c.in-Some.ensures.items c.with-self-inside.result.blocks c.with-self-inside.ensures)
          c.pop.new.self.items (newest-left s.table f.lexicals.items f.classes f.ledger.blocks s.kept c.pop.new.self.items c.in-Some.handle c.in-Some.ensures.items);
      usage = subst (λ (k : Counts). IsUsage k c.close.new.self.most c.with-self-inside.result.blocks) (sym c.note_closed.ensures)
          (usage-closed f.table f.lexicals.items f.classes f.ledger.blocks s f.usage c.self.invariant.usage (c.in-Some.handle / 2) r named c.close.new.self.most
          (closes-most f.table f.lexicals.items f.classes f.ledger.blocks s c.close.new.self (c.in-Some.handle / 2) c.close.ensures r named) c.with-self-inside.result.blocks
          (newest-blocks s.table f.lexicals.items f.classes f.ledger.blocks s.kept c.pop.new.self.items c.in-Some.handle c.in-Some.ensures.items c.with-self-inside.result.blocks c.with-self-inside.ensures));
    }

pub returns : goal.returns
returns c =
    let f = c.self.inside in let s = c.self.invariant.stored in
    let (r, named) = newest-named s.table f.lexicals.items f.classes f.ledger.blocks s.kept c.pop.new.self.items c.in-Some.handle c.in-Some.ensures.items in
    subst (λ (v : Stored). Unwinds v (record { pages = c.close.new.self.most; words = c.close.new.self.words; blocks = c.with-self-inside.result.blocks; room = c.close.new.self.most })) c.self.view_is
    (closed-unwinds f.table f.lexicals.items f.classes f.ledger.blocks s c.close.new.self (c.in-Some.handle / 2) c.close.ensures r named c.with-self-inside.result.blocks
    (newest-unwinds s.table f.lexicals.items f.classes f.ledger.blocks s.kept c.pop.new.self.items c.in-Some.handle c.in-Some.ensures.items c.with-self-inside.result.blocks c.with-self-inside.ensures
    s.table s.table.most s.table.most refl refl refl))
