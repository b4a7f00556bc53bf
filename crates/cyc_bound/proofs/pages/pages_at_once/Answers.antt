use Rattle.std.proofs.Common.{inl, inr, refl, arith}
use Rattle.cyc_types.specs.TypedTreeView.{view_program}
use Rattle.cyc_bound.specs.declared.costs.Measure.TheVariants as measures
use Rattle.cyc_bound.proofs.UniqueLemmas.{not_found, too_many_cost}
use Rattle.cyc_bound.proofs.PageSums.{found, found_at_once, not_found_at_once, too_many_at_once, open_all}
use Rattle.cyc_bound.proofs.pages.pages_at_once.Goals as goal

pub returns-in_default : goal.returns-in_default
returns-in_default c = (measures.Openings, tt, not_found_at_once (view_program c.args.tree.now) measures.Openings _ c.in_default.not-Some c.in_ok-openings.ensures)

pub returns-in_default-2 : goal.returns-in_default-2
returns-in_default-2 c = (measures.RegionBlocks, tt, not_found_at_once (view_program c.args.tree.now) measures.RegionBlocks _ c.in_default-2.not-Some c.in_ok-blocks.ensures)

pub returns-in_default-3 : goal.returns-in_default-3
returns-in_default-3 c = (measures.RegionWords, tt, not_found_at_once (view_program c.args.tree.now) measures.RegionWords _ c.in_default-3.not-Some c.in_ok-words.ensures)

pub returns-in_default-4 : goal.returns-in_default-4
returns-in_default-4 c = (measures.HeapBlocks, tt, not_found (view_program c.args.tree.now) measures.HeapBlocks _ c.in_default-4.not-Some c.in_ok-heap_blocks.ensures)

pub returns-in_default-5 : goal.returns-in_default-5
returns-in_default-5 c = (measures.HeapWords, tt, not_found (view_program c.args.tree.now) measures.HeapWords _ c.in_default-5.not-Some c.in_ok-heap_words.ensures)

pub returns-then-openings-ge-TOO_MANY : goal.returns-then-openings-ge-TOO_MANY
returns-then-openings-ge-TOO_MANY c =
    let p = view_program c.args.tree.now in
    elim c.then-openings-ge-TOO_MANY.either [
      | inl openings ↦ (measures.Openings, tt, too_many_at_once p measures.Openings c.in-Some.openings (found_at_once p measures.Openings _ c.in-Some.openings c.in-Some.is c.in_ok-openings.ensures) openings)
      | inr (inl blocks) ↦ (measures.RegionBlocks, tt, too_many_at_once p measures.RegionBlocks c.in-Some-2.blocks (found_at_once p measures.RegionBlocks _ c.in-Some-2.blocks c.in-Some-2.is c.in_ok-blocks.ensures) (omega (arith, blocks)))
      | inr (inr (inl words)) ↦ (measures.RegionWords, tt, too_many_at_once p measures.RegionWords c.in-Some-3.words (found_at_once p measures.RegionWords _ c.in-Some-3.words c.in-Some-3.is c.in_ok-words.ensures) (omega (arith, words)))
      | inr (inr (inr (inl heap_blocks))) ↦
          (measures.HeapBlocks, tt, too_many_cost p measures.HeapBlocks c.in-Some-4.heap_blocks (found p measures.HeapBlocks _ c.in-Some-4.heap_blocks c.in-Some-4.is c.in_ok-heap_blocks.ensures) (omega (arith, heap_blocks)))
      | inr (inr (inr (inr heap_words))) ↦
          (measures.HeapWords, tt, too_many_cost p measures.HeapWords c.in-Some-5.heap_words (found p measures.HeapWords _ c.in-Some-5.heap_words c.in-Some-5.is c.in_ok-heap_words.ensures) (omega (arith, heap_words)))
    ]

pub returns : goal.returns
returns c =
    let p = view_program c.args.tree.now in
    open_all p c.in-Some.openings c.in-Some-2.blocks c.in-Some-3.words c.in-Some-4.heap_blocks c.in-Some-5.heap_words c.further_pages.result c.further_pages-heap.result _
    (found_at_once p measures.Openings _ c.in-Some.openings c.in-Some.is c.in_ok-openings.ensures)
    (found_at_once p measures.RegionBlocks _ c.in-Some-2.blocks c.in-Some-2.is c.in_ok-blocks.ensures)
    (found_at_once p measures.RegionWords _ c.in-Some-3.words c.in-Some-3.is c.in_ok-words.ensures)
    (found p measures.HeapBlocks _ c.in-Some-4.heap_blocks c.in-Some-4.is c.in_ok-heap_blocks.ensures)
    (found p measures.HeapWords _ c.in-Some-5.heap_words c.in-Some-5.is c.in_ok-heap_words.ensures)
    (omega (arith, c.if-openings-ge-TOO_MANY.false)) (omega (arith, c.if-blocks-ge-TOO_MANY.false)) (omega (arith, c.if-words-ge-TOO_MANY.false))
    (omega (arith, c.if-heap_blocks-ge-TOO_MANY.false)) (omega (arith, c.if-heap_words-ge-TOO_MANY.false))
    c.further_pages.ensures c.further_pages-heap.ensures refl
