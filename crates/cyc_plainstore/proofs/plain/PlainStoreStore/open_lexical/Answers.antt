use Rattle.std.proofs.Common.{◌≡◌, ◌≤◌, true, None, [], ◌∷◌, ◌++◌, length, refl, sym, ap, subst, ◌∙◌, inl, inr, arith}
use Rattle.cyc_words.proofs.Booleans.{false_is_not_true}
use Rattle.cyc_store.specs.Ledger.{Stored, HasNoRoom, IsUsedUp, held_of, store_of}
use Rattle.cyc_store.specs.State.{lexical_count}
use Rattle.cyc_store.specs.Services.{OpenLexical, OpenedLexical, Refused, Full, refusal, Serves}
use Rattle.cyc_store.specs.inside.Kept.{handle_of_page, IsKept}
use Rattle.cyc_store.proofs.Responses.{lexical-full, lexical-none}
use Rattle.cyc_store.proofs.KeptServices.{kept-full, kept-unchanged, held-unchanged, kept-some, kept-used, kept-lexicals, kept-lexicals_few, lexical-kept, lexical-serves}
use Rattle.cyc_plainstore.proofs.plain.PlainStoreStore.open_lexical.Goals as goal

pub returns-then-is_full-clause-answer : goal.returns-then-is_full-clause-answer
returns-then-is_full-clause-answer c =
    let f = c.self.inside in let k = c.self.invariant in let full = c.if-is_full.ensures.0 refl in
    subst (λ (v : Stored). Serves (held_of v) OpenLexical (Refused Full) (held_of v)) c.self.view_is
    (lexical-full (store_of f.table.most f.table.words.items f.ledger.blocks) k.layout k.laid (kept-full f.table f.lexicals.items f.classes f.ledger.blocks k full.0 full.1))

pub returns-in_default-clause-answer : goal.returns-in_default-clause-answer
returns-in_default-clause-answer c =
    let f = c.self.inside in let k = c.self.invariant in
    let some = kept-some f.table f.lexicals.items f.classes f.ledger.blocks k (λ full. false_is_not_true (c.if-is_full.ensures.1 full)) in
    subst (λ (v : Stored). (true ≡ true) × (refusal (held_of v) OpenLexical ≡ None) × (store_of f.table.most f.table.words.items f.ledger.blocks ≡ held_of v)) c.self.view_is
    (refl, lexical-none (store_of f.table.most f.table.words.items f.ledger.blocks) k.layout k.laid some.0 some.1 some.2, refl)

pub invariant_of-self-in_default-draw : goal.invariant_of-self-in_default-draw
invariant_of-self-in_default-draw c =
    let f = c.self.inside in
    subst (λ xs. IsKept c.draw.new.self xs f.classes f.ledger.blocks) (sym c.reserve.ensures.items)
    (kept-unchanged f.table c.draw.new.self f.lexicals.items f.classes f.ledger.blocks c.in_default-draw.ensures.same c.self.invariant)

pub returns-in_default-draw-clause-answer : goal.returns-in_default-draw-clause-answer
returns-in_default-draw-clause-answer c =
    let f = c.self.inside in let k = c.self.invariant in
    let some = kept-some f.table f.lexicals.items f.classes f.ledger.blocks k (λ full. false_is_not_true (c.if-is_full.ensures.1 full)) in
    subst (λ (v : Stored). (true ≡ true) × (refusal (held_of v) OpenLexical ≡ None) × (store_of c.draw.new.self.most c.draw.new.self.words.items f.ledger.blocks ≡ held_of v)) c.self.view_is (
      refl,
      lexical-none (store_of f.table.most f.table.words.items f.ledger.blocks) k.layout k.laid some.0 some.1 some.2,
      held-unchanged f.table c.draw.new.self f.ledger.blocks c.in_default-draw.ensures.same,
    )

pub returns-in_default-clause-grew : goal.returns-in_default-clause-grew
returns-in_default-clause-grew c =
    let f = c.self.inside in
    let counted : length f.lexicals.items ≡ lexical_count f.ledger.blocks.regions = kept-lexicals f.table f.lexicals.items f.classes f.ledger.blocks c.self.invariant in
    λ e. inr (subst (λ (v : Stored). HasNoRoom v) c.self.view_is (omega (arith, counted, c.in_default.ensures.full)))

pub returns-in_default-draw-clause-grew : goal.returns-in_default-draw-clause-grew
returns-in_default-draw-clause-grew c =
    let f = c.self.inside in
    λ e. inl (subst (λ (v : Stored). IsUsedUp v) c.self.view_is (kept-used f.table f.lexicals.items f.classes f.ledger.blocks c.self.invariant c.in_default-draw.ensures.grew))

pub overflow_cast-mark : goal.overflow_cast-mark
overflow_cast-mark c =
    let f = c.self.inside in
    let few : length f.lexicals.items ≤ 65536 = kept-lexicals_few f.table f.lexicals.items f.classes f.ledger.blocks c.self.invariant in
    let same : length c.reserve.new.self.items ≡ length f.lexicals.items = ap length c.reserve.ensures.items in
    record { fits = omega (arith, few, same, c.len-mark.ensures) }

pub invariant_of-self-2 : goal.invariant_of-self-2
invariant_of-self-2 c =
    let f = c.self.inside in
    lexical-kept f.table f.lexicals.items f.classes f.ledger.blocks c.self.invariant c.draw.new.self c.in-Ok-draw.page c.in-Ok-draw.ensures.draws (λ full. false_is_not_true (c.if-is_full.ensures.1 full))
    c.with-self-inside.result.blocks c.with-self-inside.ensures _ (record { most = refl; words = refl; live = refl; free = refl; rows = refl })
    c.push.new.self.items (c.in-Ok-push.ensures.items ∙ ap (λ xs. xs ++ handle_of_page c.in-Ok-draw.page ∷ []) c.reserve.ensures.items)

pub returns-clause-answer : goal.returns-clause-answer
returns-clause-answer c =
    let f = c.self.inside in
    let same : length c.reserve.new.self.items ≡ length f.lexicals.items = ap length c.reserve.ensures.items in
    let mark : c.len-mark.result ≡ length f.lexicals.items = omega (arith, same, c.len-mark.ensures) in
    subst (λ (v : Stored). Serves (held_of v) OpenLexical (OpenedLexical (handle_of_page c.in-Ok-draw.page) c.len-mark.result) (store_of c.draw.new.self.most c.draw.new.self.words.items c.with-self-inside.result.blocks))
    c.self.view_is
    (lexical-serves f.table f.lexicals.items f.classes f.ledger.blocks c.self.invariant c.draw.new.self c.in-Ok-draw.page c.in-Ok-draw.ensures.draws
    (λ full. false_is_not_true (c.if-is_full.ensures.1 full)) c.with-self-inside.result.blocks c.with-self-inside.ensures c.len-mark.result mark)
