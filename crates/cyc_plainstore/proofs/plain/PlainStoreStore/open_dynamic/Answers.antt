use Rattle.std.proofs.Common.{◌≡◌, true, None, refl, subst}
use Rattle.cyc_words.proofs.Booleans.{false_is_not_true}
use Rattle.cyc_store.specs.Ledger.{Stored, IsUsedUp, held_of, store_of}
use Rattle.cyc_store.specs.Services.{OpenDynamic, Opened, Refused, Full, refusal, Serves}
use Rattle.cyc_store.specs.inside.Kept.{handle_of_page}
use Rattle.cyc_store.proofs.Responses.{dynamic-full, dynamic-none}
use Rattle.cyc_store.proofs.KeptServices.{kept-full, kept-unchanged, held-unchanged, kept-some, kept-used, dynamic-kept, dynamic-serves}
use Rattle.cyc_plainstore.proofs.plain.PlainStoreStore.open_dynamic.Goals as goal

pub returns-then-is_full-clause-answer : goal.returns-then-is_full-clause-answer
returns-then-is_full-clause-answer c =
    let f = c.self.inside in let k = c.self.invariant in let full = c.if-is_full.ensures.0 refl in
    subst (λ (v : Stored). Serves (held_of v) OpenDynamic (Refused Full) (held_of v)) c.self.view_is
    (dynamic-full (store_of f.table.most f.table.words.items f.ledger.blocks) k.layout k.laid (kept-full f.table f.lexicals.items f.classes f.ledger.blocks k full.0 full.1))

pub invariant_of-self : goal.invariant_of-self
invariant_of-self c =
    let f = c.self.inside in
    kept-unchanged f.table c.draw.new.self f.lexicals.items f.classes f.ledger.blocks c.in_default.ensures.same c.self.invariant

pub returns-in_default-clause-answer : goal.returns-in_default-clause-answer
returns-in_default-clause-answer c =
    let f = c.self.inside in let k = c.self.invariant in
    let some = kept-some f.table f.lexicals.items f.classes f.ledger.blocks k (λ full. false_is_not_true (c.if-is_full.ensures.1 full)) in
    subst (λ (v : Stored). (true ≡ true) × (refusal (held_of v) OpenDynamic ≡ None) × (store_of c.draw.new.self.most c.draw.new.self.words.items f.ledger.blocks ≡ held_of v)) c.self.view_is (
      refl,
      dynamic-none (store_of f.table.most f.table.words.items f.ledger.blocks) k.layout k.laid some.0 some.1 some.2,
      held-unchanged f.table c.draw.new.self f.ledger.blocks c.in_default.ensures.same,
    )

pub returns-in_default-clause-grew : goal.returns-in_default-clause-grew
returns-in_default-clause-grew c =
    let f = c.self.inside in
    λ e. subst (λ (v : Stored). IsUsedUp v) c.self.view_is (kept-used f.table f.lexicals.items f.classes f.ledger.blocks c.self.invariant c.in_default.ensures.grew)

pub invariant_of-self-2 : goal.invariant_of-self-2
invariant_of-self-2 c =
    let f = c.self.inside in
    dynamic-kept f.table f.lexicals.items f.classes f.ledger.blocks c.self.invariant c.draw.new.self c.in-Ok.page c.in-Ok.ensures.draws (λ full. false_is_not_true (c.if-is_full.ensures.1 full))
    c.with-self-inside.result.blocks c.with-self-inside.ensures _ (record { most = refl; words = refl; live = refl; free = refl; rows = refl })

pub returns-clause-answer : goal.returns-clause-answer
returns-clause-answer c =
    let f = c.self.inside in
    subst (λ (v : Stored). Serves (held_of v) OpenDynamic (Opened (handle_of_page c.in-Ok.page)) (store_of c.draw.new.self.most c.draw.new.self.words.items c.with-self-inside.result.blocks)) c.self.view_is
    (dynamic-serves f.table f.lexicals.items f.classes f.ledger.blocks c.self.invariant c.draw.new.self c.in-Ok.page c.in-Ok.ensures.draws
    (λ full. false_is_not_true (c.if-is_full.ensures.1 full)) c.with-self-inside.result.blocks c.with-self-inside.ensures)
