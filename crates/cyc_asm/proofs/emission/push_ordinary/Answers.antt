use Rattle.std.proofs.Common.{ℕ, List, [], ◌∷◌, ◌++◌, ◌∙◌, sym, ap, arith}
use Rattle.std.proofs.lemmas.Option.{slice_get_within, get_or_from_slice_get}
use Rattle.cyc_select.specs.declared.code.Line.TheVariants as lines
use Rattle.cyc_asm.proofs.Tables.{length-position_of_each, position_at, head_before_line, within_moved, words_alone, words_moved}
use Rattle.cyc_asm.proofs.emission.push_ordinary.Goals as goal

pub bounds-positions-number : goal.bounds-positions-number
bounds-positions-number c =
    let long = length-position_of_each c.args.lines.now c.args.positions.now c.requires.positions in
    let below = slice_get_within c.args.lines.now c.args.number (lines.Ordinary c.args.instruction) c.requires.here in
    omega (arith, long, below)

pub head-following-requires-clause-within : goal.head-following-requires-clause-within
head-following-requires-clause-within c = within_moved c.args.lines.now c.args.number _ (sym c.filling.ensures ∙ c.in-Some.is)

pub head-following-requires-clause-from : goal.head-following-requires-clause-from
head-following-requires-clause-from c =
    head_before_line c.args.lines.now c.args.positions.now c.args.number lines.Return c.args.instruction c.requires.positions
    (slice_get_within c.args.lines.now c.args.number (lines.Ordinary c.args.instruction) c.requires.here)
    (get_or_from_slice_get c.args.lines.now c.args.number (lines.Ordinary c.args.instruction) lines.Return c.requires.here)

pub returns-in_ok-push-in-Some : goal.returns-in_ok-push-in-Some
returns-in_ok-push-in-Some c =
    let below = slice_get_within c.args.lines.now c.args.number (lines.Ordinary c.args.instruction) c.requires.here in
    c.in_ok-push-in-Some.ensures.items ∙ ap (λ (w : ℕ). c.args.words.now.items ++ w ∷ []) c.encode.ensures.word
    ∙ ap (λ (ws : List ℕ). c.args.words.now.items ++ ws)
    (words_moved c.args.lines.now c.args.number _ _ c.args.instruction _ (sym c.filling.ensures ∙ c.in-Some.is) (position_at c.args.lines.now c.args.positions.now c.args.number c.requires.positions below) c.head-following.ensures)

pub returns-in_ok-push-in-None : goal.returns-in_ok-push-in-None
returns-in_ok-push-in-None c =
    c.in_ok-push-in-None.ensures.items ∙ ap (λ (w : ℕ). c.args.words.now.items ++ w ∷ []) c.encode-in-None.ensures.word
    ∙ ap (λ (ws : List ℕ). c.args.words.now.items ++ ws) (words_alone c.args.lines.now c.args.number c.args.instruction (sym c.filling.ensures ∙ c.in-None.is))
