use Rattle.std.proofs.Common.{inl, inr, refl, arith}
use Rattle.cyc_types.specs.TypedTreeView.{view_program}
use Rattle.cyc_bound.specs.declared.costs.Measure.TheVariants as measures
use Rattle.cyc_bound.proofs.UniqueLemmas.{not_found, too_many_cost}
use Rattle.cyc_bound.proofs.PageSums.{found, kept_all}
use Rattle.cyc_bound.proofs.pages.pages_of_all.Goals as goal

pub returns-in_default : goal.returns-in_default
returns-in_default c = (measures.Openings, tt, not_found (view_program c.args.tree.now) measures.Openings _ c.in_default.not-Some c.in_ok-openings.ensures)

pub returns-in_default-2 : goal.returns-in_default-2
returns-in_default-2 c = (measures.Blocks, tt, not_found (view_program c.args.tree.now) measures.Blocks _ c.in_default-2.not-Some c.in_ok-blocks.ensures)

pub returns-in_default-3 : goal.returns-in_default-3
returns-in_default-3 c = (measures.Words, tt, not_found (view_program c.args.tree.now) measures.Words _ c.in_default-3.not-Some c.in_ok-words.ensures)

pub returns-then-openings-ge-TOO_MANY : goal.returns-then-openings-ge-TOO_MANY
returns-then-openings-ge-TOO_MANY c =
    let p = view_program c.args.tree.now in
    elim c.then-openings-ge-TOO_MANY.either [
      | inl openings ↦ (measures.Openings, tt, too_many_cost p measures.Openings c.in-Some.openings (found p measures.Openings _ c.in-Some.openings c.in-Some.is c.in_ok-openings.ensures) openings)
      | inr (inl blocks) ↦ (measures.Blocks, tt, too_many_cost p measures.Blocks c.in-Some-2.blocks (found p measures.Blocks _ c.in-Some-2.blocks c.in-Some-2.is c.in_ok-blocks.ensures) (omega (arith, blocks)))
      | inr (inr words) ↦ (measures.Words, tt, too_many_cost p measures.Words c.in-Some-3.words (found p measures.Words _ c.in-Some-3.words c.in-Some-3.is c.in_ok-words.ensures) (omega (arith, words)))
    ]

pub returns : goal.returns
returns c =
    let p = view_program c.args.tree.now in
    kept_all p c.in-Some.openings c.in-Some-2.blocks c.in-Some-3.words c.further_pages.result _
    (found p measures.Openings _ c.in-Some.openings c.in-Some.is c.in_ok-openings.ensures)
    (found p measures.Blocks _ c.in-Some-2.blocks c.in-Some-2.is c.in_ok-blocks.ensures)
    (found p measures.Words _ c.in-Some-3.words c.in-Some-3.is c.in_ok-words.ensures)
    (omega (arith, c.if-openings-ge-TOO_MANY.false)) (omega (arith, c.if-blocks-ge-TOO_MANY.false)) (omega (arith, c.if-words-ge-TOO_MANY.false))
    c.further_pages.ensures refl
