use Rattle.std.proofs.Common.{◌≡◌, ℕ, List, [], ◌∷◌, ◌++◌, ◌∙◌, get_or, sym, ap, subst, refl, arith, append_assoc}
use Rattle.std.specs.Prelude.{OnOk, slice_get}
use Rattle.cyc_select.specs.declared.code.Line.TheVariants as lines
use Rattle.cyc_asm.specs.inside.Words.{tail_in}
use Rattle.cyc_asm.proofs.Tables.{length-position_of_each, position_at, head_at_line, words_after, words_empty}
use Rattle.cyc_asm.proofs.emission.push_jump.Goals as goal

pub bounds-positions-number : goal.bounds-positions-number
bounds-positions-number c = let long = length-position_of_each c.args.lines.now c.args.positions.now c.requires.positions in omega (arith, long, c.requires.within)

pub head-first-requires-clause-from : goal.head-first-requires-clause-from
head-first-requires-clause-from c = head_at_line c.args.lines.now c.args.positions.now c.args.number c.requires.positions c.requires.within

pub returns-in-Some : goal.returns-in-Some
returns-in-Some c =
    let code = c.args.lines.now in
    subst (λ (ws : List ℕ). OnOk c.push_tail.result (c.push_tail.new.words.items ≡ c.args.words.now.items ++ ws))
    (ap (tail_in code c.args.number (slice_get code c.args.number)) c.encode.ensures.word
    ∙ words_after code c.args.number lines.Return (get_or code c.args.number lines.Return) _ c.requires.within refl (sym c.filling.ensures ∙ c.in-Some.is))
    c.push_tail.ensures

pub returns-in_ok-push-in-None : goal.returns-in_ok-push-in-None
returns-in_ok-push-in-None c =
    let code = c.args.lines.now in
    let rest : List ℕ = tail_in code c.args.number (slice_get code c.args.number) 0 in
    subst (λ (ws : List ℕ). OnOk c.push_tail-in-None.result (c.push_tail-in-None.new.words.items ≡ ws))
    (ap (λ (ws : List ℕ). ws ++ rest) c.in_ok-push-in-None.ensures.items ∙ append_assoc c.args.words.now.items (c.encode-in-None.result ∷ []) rest
    ∙ ap (λ (w : ℕ). c.args.words.now.items ++ w ∷ rest) c.encode-in-None.ensures.word
    ∙ ap (λ (ws : List ℕ). c.args.words.now.items ++ ws)
    (words_empty code c.args.number _ _ lines.Return (get_or code c.args.number lines.Return) c.requires.within refl (sym c.filling.ensures ∙ c.in-None.is)
    (position_at code c.args.positions.now c.args.number c.requires.positions c.requires.within) c.head-first.ensures))
    c.push_tail-in-None.ensures
