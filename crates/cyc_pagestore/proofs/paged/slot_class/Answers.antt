use Rattle.std.proofs.Common.{◌≡◌, ◌∙◌, ℕ, ◌<◌, refl, sym, arith}
use Rattle.cyc_words.specs.Demand.{class_from, class_of}
use Rattle.cyc_store.proofs.CountLemmas.{class_from-here, class_from-next}
use Rattle.cyc_pagestore.proofs.paged.slot_class.Goals as goal

-- A block of more than 256 words does not fit into a slot of a size class below 9.
past_eighth : (words : ℕ) → 256 < words → class_of words ≡ class_from 1 9 words
past_eighth words past =
    class_from-next 10 0 9 1 words refl refl (omega (arith, past))
    ∙ (class_from-next 9 1 8 2 words refl refl (omega (arith, past))
    ∙ (class_from-next 8 2 7 3 words refl refl (omega (arith, past))
    ∙ (class_from-next 7 3 6 4 words refl refl (omega (arith, past))
    ∙ (class_from-next 6 4 5 5 words refl refl (omega (arith, past))
    ∙ (class_from-next 5 5 4 6 words refl refl (omega (arith, past))
    ∙ (class_from-next 4 6 3 7 words refl refl (omega (arith, past))
    ∙ (class_from-next 3 7 2 8 words refl refl (omega (arith, past))
    ∙ class_from-next 2 8 1 9 words refl refl (omega (arith, past)))))))))

pub returns-then-words-gt512 : goal.returns-then-words-gt512
returns-then-words-gt512 c = sym (past_eighth c.args.words (omega (arith, c.if-words-gt512.true)) ∙ class_from-next 1 9 0 10 c.args.words refl refl (omega (arith, c.if-words-gt512.true)))

pub returns-then-words-gt256 : goal.returns-then-words-gt256
returns-then-words-gt256 c =
    sym (past_eighth c.args.words (omega (arith, c.if-words-gt256.true)) ∙ class_from-here 1 9 c.args.words (omega arith) (omega (arith, c.if-words-gt512.false)))
