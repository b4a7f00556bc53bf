use Rattle.std.proofs.Common.{◌≡◌, ◌+◌, ◌*◌, ◌≤◌, true, false, Some, refl, sym, ap, subst, ◌∙◌}
use Rattle.std.specs.Prelude.{is_some}
use Rattle.std.specs.Vec.{vec_capacity}
use Rattle.cyc_store.specs.Ledger.{Stored, held_of, store_of}
use Rattle.cyc_store.specs.State.{lookup, without, handle_of}
use Rattle.cyc_store.specs.Services.{CloseDynamic, Done, Serves, names_dynamic}
use Rattle.cyc_store.proofs.Responses.{refuses-close}
use Rattle.cyc_store.proofs.KeptClosing.{dynamic-named, dynamic-left, dynamic-closes}
use Rattle.cyc_pagestore.specs.inside.Table.{row_of}
use Rattle.cyc_pagestore.proofs.Storing.{row-read, root-inside, root-role, closes-most, closed-stored, closed-served}
use Rattle.cyc_pagestore.proofs.Finding.{in-rows, others-unnamed, region-of}
use Rattle.cyc_pagestore.specs.inside.Usage.{Counts, IsUsage}
use Rattle.cyc_pagestore.proofs.Counting.{counted-there, counted-some, usage-closed}
use Rattle.cyc_pagestore.proofs.paged.PageStoreStore.close_dynamic.Goals as goal

pub returns-in_default : goal.returns-in_default
returns-in_default c =
    refuses-close (held_of c.args.self.now) c.args.handle (ap names_dynamic c.in_default.ensures)

pub role-requires : goal.role-requires
role-requires c =
    let f = c.self.inside in let s = c.self.invariant.stored in
    let (q, found) = region-of _ _ (2 * c.in-Some.root + 1) c.self.view_is (subst (λ h. is_some (lookup handle_of c.args.self.now.blocks.regions h) ≡ true) c.in-Some.ensures.0 c.in-Some.ensures.1) in
    let there = root-inside f.table f.lexicals.items f.classes f.ledger.blocks s c.in-Some.root q found in
    there

pub returns-in_default-role : goal.returns-in_default-role
returns-in_default-role c =
    let f = c.self.inside in let s = c.self.invariant.stored in
    let (q, found) = region-of _ _ (2 * c.in-Some.root + 1) c.self.view_is (subst (λ h. is_some (lookup handle_of c.args.self.now.blocks.regions h) ≡ true) c.in-Some.ensures.0 c.in-Some.ensures.1) in
    let there = root-inside f.table f.lexicals.items f.classes f.ledger.blocks s c.in-Some.root q found in
    refuses-close (held_of c.args.self.now) c.args.handle
    (subst (λ h. names_dynamic (lookup handle_of c.args.self.now.blocks.regions h) ≡ false) (sym c.in-Some.ensures.0)
    (subst (λ (v : Stored). names_dynamic (lookup handle_of v.blocks.regions (2 * c.in-Some.root + 1)) ≡ false) c.self.view_is
    (others-unnamed f.table f.lexicals.items f.classes f.ledger.blocks s c.in-Some.root there (λ e. c.in_default-role.not-Dynamic (c.role.ensures ∙ e)))))

pub close-requires-clause-there : goal.close-requires-clause-there
close-requires-clause-there c =
    let f = c.self.inside in let s = c.self.invariant.stored in
    let (q, found) = region-of _ _ (2 * c.in-Some.root + 1) c.self.view_is (subst (λ h. is_some (lookup handle_of c.args.self.now.blocks.regions h) ≡ true) c.in-Some.ensures.0 c.in-Some.ensures.1) in
    let there = root-inside f.table f.lexicals.items f.classes f.ledger.blocks s c.in-Some.root q found in
    there

pub close-requires-clause-root : goal.close-requires-clause-root
close-requires-clause-root c =
    let f = c.self.inside in let s = c.self.invariant.stored in
    let (q, found) = region-of _ _ (2 * c.in-Some.root + 1) c.self.view_is (subst (λ h. is_some (lookup handle_of c.args.self.now.blocks.regions h) ≡ true) c.in-Some.ensures.0 c.in-Some.ensures.1) in
    let there = root-inside f.table f.lexicals.items f.classes f.ledger.blocks s c.in-Some.root q found in
    root-role f.table f.lexicals.items f.classes f.ledger.blocks s c.in-Some.root q found

pub note_closed-requires-clause-there : goal.note_closed-requires-clause-there
note_closed-requires-clause-there c =
    let f = c.self.inside in let s = c.self.invariant.stored in
    let (q, found) = region-of _ _ (2 * c.in-Some.root + 1) c.self.view_is (subst (λ h. is_some (lookup handle_of c.args.self.now.blocks.regions h) ≡ true) c.in-Some.ensures.0 c.in-Some.ensures.1) in
    counted-there f.table f.lexicals.items f.classes f.ledger.blocks s f.usage c.self.invariant.usage c.in-Some.root q found

pub note_closed-requires-clause-some : goal.note_closed-requires-clause-some
note_closed-requires-clause-some c =
    let f = c.self.inside in let s = c.self.invariant.stored in
    let (q, found) = region-of _ _ (2 * c.in-Some.root + 1) c.self.view_is (subst (λ h. is_some (lookup handle_of c.args.self.now.blocks.regions h) ≡ true) c.in-Some.ensures.0 c.in-Some.ensures.1) in
    counted-some f.table f.lexicals.items f.classes f.ledger.blocks s f.usage c.self.invariant.usage c.in-Some.root q found

pub invariant_of-self : goal.invariant_of-self
invariant_of-self c =
    let f = c.self.inside in let s = c.self.invariant.stored in
    let (q, found) = region-of _ _ (2 * c.in-Some.root + 1) c.self.view_is (subst (λ h. is_some (lookup handle_of c.args.self.now.blocks.regions h) ≡ true) c.in-Some.ensures.0 c.in-Some.ensures.1) in
    let there = root-inside f.table f.lexicals.items f.classes f.ledger.blocks s c.in-Some.root q found in
    let (r, named, sort) = dynamic-named s.table f.lexicals.items f.classes f.ledger.blocks s.kept c.in-Some.root (row_of f.table c.in-Some.root) (in-rows f.table f.lexicals.items f.classes f.ledger.blocks s c.in-Some.root there)
    (row-read f.table f.lexicals.items f.classes f.ledger.blocks s c.in-Some.root there) (sym c.role.ensures ∙ c.in-Dynamic.is) in
    record {
      room = subst (λ n. n ≤ vec_capacity f.lexicals) (sym (closes-most f.table f.lexicals.items f.classes f.ledger.blocks s c.close.new.self c.in-Some.root c.close.ensures r named)) c.self.invariant.room;
      stored = closed-stored f.table f.lexicals.items f.classes f.ledger.blocks s c.close.new.self c.in-Some.root c.close.ensures r named c.with-self-inside.result.blocks
          (subst (λ h. c.with-self-inside.result.blocks ≡ record f.ledger.blocks { regions = without handle_of f.ledger.blocks.regions h }) c.in-Some.ensures.0 c.with-self-inside.ensures)
          f.lexicals.items (dynamic-left s.table f.lexicals.items f.classes f.ledger.blocks s.kept (2 * c.in-Some.root + 1) r named sort);
      usage = subst (λ (k : Counts). IsUsage k c.close.new.self.most c.with-self-inside.result.blocks) (sym c.note_closed.ensures)
          (usage-closed f.table f.lexicals.items f.classes f.ledger.blocks s f.usage c.self.invariant.usage c.in-Some.root r named c.close.new.self.most
          (closes-most f.table f.lexicals.items f.classes f.ledger.blocks s c.close.new.self c.in-Some.root c.close.ensures r named) c.with-self-inside.result.blocks
          (subst (λ h. c.with-self-inside.result.blocks ≡ record f.ledger.blocks { regions = without handle_of f.ledger.blocks.regions h }) c.in-Some.ensures.0 c.with-self-inside.ensures));
    }

pub returns : goal.returns
returns c =
    let f = c.self.inside in let s = c.self.invariant.stored in
    let (q, found) = region-of _ _ (2 * c.in-Some.root + 1) c.self.view_is (subst (λ h. is_some (lookup handle_of c.args.self.now.blocks.regions h) ≡ true) c.in-Some.ensures.0 c.in-Some.ensures.1) in
    let there = root-inside f.table f.lexicals.items f.classes f.ledger.blocks s c.in-Some.root q found in
    let (r, named, sort) = dynamic-named s.table f.lexicals.items f.classes f.ledger.blocks s.kept c.in-Some.root (row_of f.table c.in-Some.root) (in-rows f.table f.lexicals.items f.classes f.ledger.blocks s c.in-Some.root there)
    (row-read f.table f.lexicals.items f.classes f.ledger.blocks s c.in-Some.root there) (sym c.role.ensures ∙ c.in-Dynamic.is) in
    subst (λ (v : Stored). Serves (held_of v) (CloseDynamic c.args.handle) Done (store_of c.close.new.self.most c.close.new.self.words c.with-self-inside.result.blocks)) c.self.view_is
    (closed-served f.table f.lexicals.items f.classes f.ledger.blocks s c.close.new.self c.in-Some.root c.close.ensures r named (CloseDynamic c.args.handle) c.with-self-inside.result.blocks
    (dynamic-closes s.table f.lexicals.items f.classes f.ledger.blocks s.kept c.args.handle r (subst (λ h. lookup handle_of f.ledger.blocks.regions h ≡ Some r) (sym c.in-Some.ensures.0) named) sort
    c.with-self-inside.result.blocks c.with-self-inside.ensures s.table refl refl))
