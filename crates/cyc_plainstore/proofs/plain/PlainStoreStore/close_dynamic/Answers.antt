use Rattle.std.proofs.Common.{◌≡◌, ◌+◌, ◌*◌, ◌<◌, true, length, Some, sym, ap, subst}
use Rattle.std.specs.Prelude.{is_some}
use Rattle.cyc_words.proofs.Booleans.{some_there}
use Rattle.cyc_store.specs.Ledger.{Stored, held_of, store_of}
use Rattle.cyc_store.specs.State.{lookup, without, handle_of}
use Rattle.cyc_store.specs.Services.{CloseDynamic, Done, Serves, names_dynamic}
use Rattle.cyc_store.proofs.Responses.{refuses-close}
use Rattle.cyc_store.proofs.KeptMaking.{root-there, first-counted}
use Rattle.cyc_store.proofs.KeptClosing.{dynamic-named, dynamic-left, dynamic-closes, close-there, close-kept}
use Rattle.cyc_plainstore.proofs.plain.PlainStoreStore.close_dynamic.Goals as goal

pub returns-in_default : goal.returns-in_default
returns-in_default c = refuses-close (held_of c.args.self.now) c.args.handle (ap names_dynamic c.in_default.ensures)

pub give_back-requires : goal.give_back-requires
give_back-requires c =
    let f = c.self.inside in let k = c.self.invariant in
    let (q, found) = some_there (lookup handle_of f.ledger.blocks.regions (2 * c.in-Some.root + 1))
    (subst (λ h. is_some (lookup handle_of f.ledger.blocks.regions h) ≡ true) c.in-Some.ensures.0
    (subst (λ (v : Stored). is_some (lookup handle_of v.blocks.regions c.args.handle) ≡ true) (sym c.self.view_is) c.in-Some.ensures.1)) in
    close-there f.table f.lexicals.items f.classes f.ledger.blocks k c.in-Some.root q found c.index-first.result.now c.index-first.ensures
    (first-counted f.table f.lexicals.items f.classes f.ledger.blocks k c.in-Some.root q found c.index-first.result.now c.index-first.ensures)

pub invariant_of-self : goal.invariant_of-self
invariant_of-self c =
    let f = c.self.inside in let k = c.self.invariant in
    let (q, found) = some_there (lookup handle_of f.ledger.blocks.regions (2 * c.in-Some.root + 1))
    (subst (λ h. is_some (lookup handle_of f.ledger.blocks.regions h) ≡ true) c.in-Some.ensures.0
    (subst (λ (v : Stored). is_some (lookup handle_of v.blocks.regions c.args.handle) ≡ true) (sym c.self.view_is) c.in-Some.ensures.1)) in
    let there : c.in-Some.root < length f.table.rows.items = root-there f.table f.lexicals.items f.classes f.ledger.blocks k c.in-Some.root q found in
    let (r, named, sort) = dynamic-named f.table f.lexicals.items f.classes f.ledger.blocks k c.in-Some.root c.index-first.result.now there c.index-first.ensures c.in-Dynamic.is in
    close-kept f.table f.lexicals.items f.classes f.ledger.blocks k c.in-Some.root r named c.index-first.result.now c.index-first.ensures
    (first-counted f.table f.lexicals.items f.classes f.ledger.blocks k c.in-Some.root r named c.index-first.result.now c.index-first.ensures)
    c.with-self-inside.result.blocks
    (subst (λ h. c.with-self-inside.result.blocks ≡ record f.ledger.blocks { regions = without handle_of f.ledger.blocks.regions h }) c.in-Some.ensures.0 c.with-self-inside.ensures)
    f.lexicals.items (dynamic-left f.table f.lexicals.items f.classes f.ledger.blocks k (2 * c.in-Some.root + 1) r named sort)
    c.give_back.new.self c.give_back.ensures.most c.give_back.ensures.words c.give_back.ensures.live c.give_back.ensures.rows c.give_back.ensures.free

pub returns : goal.returns
returns c =
    let f = c.self.inside in let k = c.self.invariant in
    let (q, found) = some_there (lookup handle_of f.ledger.blocks.regions (2 * c.in-Some.root + 1))
    (subst (λ h. is_some (lookup handle_of f.ledger.blocks.regions h) ≡ true) c.in-Some.ensures.0
    (subst (λ (v : Stored). is_some (lookup handle_of v.blocks.regions c.args.handle) ≡ true) (sym c.self.view_is) c.in-Some.ensures.1)) in
    let there : c.in-Some.root < length f.table.rows.items = root-there f.table f.lexicals.items f.classes f.ledger.blocks k c.in-Some.root q found in
    let (r, named, sort) = dynamic-named f.table f.lexicals.items f.classes f.ledger.blocks k c.in-Some.root c.index-first.result.now there c.index-first.ensures c.in-Dynamic.is in
    subst (λ (v : Stored). Serves (held_of v) (CloseDynamic c.args.handle) Done (store_of c.give_back.new.self.most c.give_back.new.self.words.items c.with-self-inside.result.blocks)) c.self.view_is
    (dynamic-closes f.table f.lexicals.items f.classes f.ledger.blocks k c.args.handle r (subst (λ h. lookup handle_of f.ledger.blocks.regions h ≡ Some r) (sym c.in-Some.ensures.0) named) sort
    c.with-self-inside.result.blocks c.with-self-inside.ensures c.give_back.new.self c.give_back.ensures.most c.give_back.ensures.words)
