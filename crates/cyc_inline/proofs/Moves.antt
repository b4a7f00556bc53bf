-- Lemmas: moving words one by one to disjoint slots has the same effect as copying the words at once.
use Rattle.std.proofs.Common.{◌≡◌, ℕ, zero, suc, ◌+◌, ◌<◌, ◌≤◌, inl, inr, refl, ap, ◌∙◌, arith}
use Rattle.std.specs.Prelude.{◌⊎◌}
use Rattle.cyc_plain.specs.inside.State.{Words, put}
use Rattle.cyc_plain.proofs.SlotLaws.{put-same, put-other}

-- The slot map after the moves of `count` words.
abbrev pub passed : (destination source count : ℕ) → Words → Words
passed destination source zero slots = slots
passed destination source (suc count) slots = passed (destination + 1) (source + 1) count (put slots destination (slots source))

-- If source and destination slots are disjoint, each destination slot receives its word, and all other slots are unchanged.
pub passed_other : (destination source count : ℕ) (slots : Words) (k : ℕ) → (k < destination) ⊎ (destination + count ≤ k) → passed destination source count slots k ≡ slots k
passed_other destination source zero slots k apart = refl
passed_other destination source (suc count) slots k apart =
    passed_other (destination + 1) (source + 1) count (put slots destination (slots source)) k (further apart)
    ∙ put-other slots destination k (slots source) (λ e. elsewhere apart e)
  where
    further : (k < destination) ⊎ (destination + suc count ≤ k) → (k < destination + 1) ⊎ (destination + 1 + count ≤ k)
    further (inl below) = inl (omega (arith, below))
    further (inr above) = inr (omega (arith, above))

    elsewhere : (k < destination) ⊎ (destination + suc count ≤ k) → k ≡ destination → ⊥
    elsewhere (inl below) e = omega (arith, below, e)
    elsewhere (inr above) e = omega (arith, above, e)

pub passed_inside : (destination source count : ℕ) (slots : Words) (k : ℕ) → (destination + count ≤ source) ⊎ (source + count ≤ destination) → k < count
    → passed destination source count slots (destination + k) ≡ slots (source + k)
passed_inside destination source zero slots k apart below = absurd (omega (arith, below))
passed_inside destination source (suc count) slots zero apart below =
    passed_other (destination + 1) (source + 1) count (put slots destination (slots source)) (destination + 0) (inl (omega arith))
    ∙ ap (put slots destination (slots source)) (let e : destination + 0 ≡ destination = omega arith in e)
    ∙ put-same slots destination (slots source)
    ∙ ap slots (let e : source ≡ source + 0 = omega arith in e)
passed_inside destination source (suc count) slots (suc k) apart below =
    ap (passed (destination + 1) (source + 1) count (put slots destination (slots source))) (let e : destination + suc k ≡ destination + 1 + k = omega arith in e)
    ∙ passed_inside (destination + 1) (source + 1) count (put slots destination (slots source)) k (further apart) (omega (arith, below))
    ∙ put-other slots destination (source + 1 + k) (slots source) (elsewhere apart)
    ∙ ap slots (let e : source + 1 + k ≡ source + suc k = omega arith in e)
  where
    further : (destination + suc count ≤ source) ⊎ (source + suc count ≤ destination) → (destination + 1 + count ≤ source + 1) ⊎ (source + 1 + count ≤ destination + 1)
    further (inl before) = inl (omega (arith, before))
    further (inr following) = inr (omega (arith, following))

    elsewhere : (destination + suc count ≤ source) ⊎ (source + suc count ≤ destination) → source + 1 + k ≡ destination → ⊥
    elsewhere (inl before) e = omega (arith, before, e)
    elsewhere (inr following) e = omega (arith, following, e, below)
