-- Lemmas about lists of cells that are read as lists of words.
use Rattle.std.proofs.Common.{◌≡◌, ℕ, zero, suc, ◌+◌, ◌<◌, ◌≤◌, List, [], ◌∷◌, length, replicate, set, take, drop, get_or, refl, ap, sym, subst, ◌∙◌, arith, inl, inr, get_or-set_same, get_or-set_other}
use Rattle.std.specs.Prelude.{Option, Some, None, slice_index}
use Rattle.std.proofs.lemmas.Bool.{cases_eq, cases_lt}
use Rattle.std.proofs.lemmas.List.{length-take, length-drop, take-set-le, drop-set-lt, drop-set-add, get_or-take, get_or-drop}
use lib.Seq.{take-set-lt}
use Rattle.cyc_rawpages.specs.inside.Words.{Parts, headed, value_of, words_of, parts_of, AreWritten}

length-words : (cs : List (Option ℕ)) → length (words_of cs) ≡ length cs
length-words [] = refl
length-words (c ∷ cs) = ap suc (length-words cs)

words-at : (cs : List (Option ℕ)) (i : ℕ) → slice_index (words_of cs) i ≡ value_of (get_or cs i None)
words-at [] i = refl
words-at (c ∷ cs) zero = refl
words-at (c ∷ cs) (suc i) = words-at cs i

words-set : (cs : List (Option ℕ)) (i w : ℕ) → words_of (set cs i (Some w)) ≡ set (words_of cs) i w
words-set [] i w = refl
words-set (c ∷ cs) zero w = refl
words-set (c ∷ cs) (suc i) w = ap (λ ws. value_of c ∷ ws) (words-set cs i w)

words-same : (cs ds : List (Option ℕ)) → length cs ≡ length ds → ((i : ℕ) → value_of (get_or cs i None) ≡ value_of (get_or ds i None)) → words_of cs ≡ words_of ds
words-same [] [] e at = refl
words-same [] (d ∷ ds) e at = absurd (omega (arith, e))
words-same (c ∷ cs) [] e at = absurd (omega (arith, e))
words-same (c ∷ cs) (d ∷ ds) e at = λ j. at 0 j ∷ words-same cs ds (omega (arith, e)) (λ i. at (suc i)) j

-- A list of `n` cells that were never written.
abbrev empty : ℕ → List (Option ℕ)
empty n = replicate n None

abbrev zeros : ℕ → List ℕ
zeros n = replicate n 0

words-none : (n : ℕ) → words_of (empty n) ≡ zeros n
words-none zero = refl
words-none (suc n) = ap (λ ws. 0 ∷ ws) (words-none n)

none-at : (n i : ℕ) → get_or (empty n) i None ≡ None
none-at zero i = refl
none-at (suc n) zero = refl
none-at (suc n) (suc i) = none-at n i

-- ---- written cells
pub written-set : (cs : List (Option ℕ)) (end i w : ℕ) → i < end → i < length cs → AreWritten cs end → AreWritten (set cs i (Some w)) end
written-set cs end i w low there is = record {
  filled = λ k below. elim (cases_eq k i) [
    | inl same ↦ (w, ap (λ n. get_or (set cs i (Some w)) n None) same ∙ get_or-set_same cs i (Some w) None there)
    | inr other ↦ (let had = is.filled k below in (had.0, get_or-set_other cs i k (Some w) None other ∙ had.1))
  ];
  blank = λ k past. get_or-set_other cs i k (Some w) None (λ e. omega (arith, e, low, past)) ∙ is.blank k past;
}

-- If 0 is written to each cell before index `end` of a list of empty cells, the cells before `end` contain words and the
-- other cells stay empty.
pub written-first : (n end : ℕ) (cs : List (Option ℕ)) → ((i : ℕ) → 0 ≤ i → i < end → get_or cs i None ≡ Some 0) → ((i : ℕ) → end ≤ i → get_or cs i None ≡ get_or (empty n) i None) → AreWritten cs end
written-first n end cs cleared above = record {
  filled = λ i below. (0, cleared i (omega arith) below);
  blank = λ i past. above i past ∙ none-at n i;
}

module _ (old new : List (Option ℕ)) (from to : ℕ) (is : AreWritten old from)
    (cleared : (i : ℕ) → from ≤ i → i < to → get_or new i None ≡ Some 0)
    (below : (i : ℕ) → i < from → get_or new i None ≡ get_or old i None)
    (above : (i : ℕ) → to ≤ i → get_or new i None ≡ get_or old i None) where
  pub written-cleared : from ≤ to → AreWritten new to
  written-cleared up = record {
    filled = λ i lt. elim (cases_lt i from) [
      | inl early ↦ (let had = is.filled i early in (had.0, below i early ∙ had.1))
      | inr late ↦ (0, cleared i late lt)
    ];
    blank = λ i past. above i past ∙ is.blank i (omega (arith, past, up));
  }

  -- Clearing cells that were not written yet leaves the words that can be read unchanged.
  pub words-cleared : length new ≡ length old → words_of new ≡ words_of old
  words-cleared long = words-same new old long (λ i. elim (cases_lt i from) [
    | inl early ↦ ap value_of (below i early)
    | inr late ↦ elim (cases_lt i to) [
      | inl mid ↦ ap value_of (cleared i late mid) ∙ sym (ap value_of (is.blank i late))
      | inr high ↦ ap value_of (above i high)
    ]
  ])

-- ---- reads of a block, and the effect of writes
pub parts-first : (heads words : ℕ) (cs : List (Option ℕ)) → length cs ≡ length (empty (heads + words))
    → ((i : ℕ) → 0 ≤ i → i < heads → get_or cs i None ≡ Some 0) → ((i : ℕ) → heads ≤ i → get_or cs i None ≡ get_or (empty (heads + words)) i None)
    → parts_of heads 0 cs ≡ record { heads = replicate heads 0; words = replicate words 0; made = 0 }
parts-first heads words cs long cleared above =
    ap (λ ws. record { heads = take heads ws; words = drop heads ws; made = 0 })
    (words-cleared (empty (heads + words)) cs 0 heads (record { filled = λ i lt. absurd (omega (arith, lt)); blank = λ i past. none-at (heads + words) i })
    cleared (λ i lt. absurd (omega (arith, lt))) above long ∙ words-none (heads + words))
    ∙ (λ j. record { heads = take-zeros heads words j; words = drop-zeros heads words j; made = 0 })
  where
    take-zeros : (n m : ℕ) → take n (zeros (n + m)) ≡ zeros n
    take-zeros zero m = refl
    take-zeros (suc n) m = subst (λ k. take (suc n) (zeros k) ≡ zeros (suc n)) {x = suc (n + m)} (omega arith) (ap (λ ws. 0 ∷ ws) (take-zeros n m))

    drop-zeros : (n m : ℕ) → drop n (zeros (n + m)) ≡ zeros m
    drop-zeros zero m = ap zeros {x = 0 + m} (omega arith)
    drop-zeros (suc n) m = subst (λ k. drop (suc n) (zeros k) ≡ zeros m) {x = suc (n + m)} (omega arith) (drop-zeros n m)

pub head-within : (heads made : ℕ) (cs : List (Option ℕ)) (now : Parts) (i : ℕ) → parts_of heads made cs ≡ now → i < length now.heads → (i < heads) × (i < length cs)
head-within heads made cs now i is there =
    let long = length-take heads (words_of cs) in let same = ap (λ (p : Parts). length p.heads) is in
    (omega (arith, there, same, long), omega (arith, there, same, long, length-words cs))

pub word-within : (heads made : ℕ) (cs : List (Option ℕ)) (now : Parts) (i : ℕ) → parts_of heads made cs ≡ now → i < length now.words → heads + i < length cs
word-within heads made cs now i is there =
    let long = length-drop heads (words_of cs) in let same = ap (λ (p : Parts). length p.words) is in omega (arith, there, same, long, length-words cs)

pub words-within : (heads made : ℕ) (cs : List (Option ℕ)) (now : Parts) (count : ℕ) → parts_of heads made cs ≡ now → count ≤ length now.words → heads ≤ length cs → heads + count ≤ length cs
words-within heads made cs now count is there few =
    let long = length-drop heads (words_of cs) in let same = ap (λ (p : Parts). length p.words) is in omega (arith, there, few, same, long, length-words cs)

pub made-within : (heads made : ℕ) (cs : List (Option ℕ)) (now : Parts) → parts_of heads made cs ≡ now → heads + made ≤ length cs → made ≤ length now.words
made-within heads made cs now is there =
    let long = length-drop heads (words_of cs) in let same = ap (λ (p : Parts). length p.words) is in omega (arith, there, same, long, length-words cs)

pub head-is : (heads made : ℕ) (cs : List (Option ℕ)) (now : Parts) (i w : ℕ) → parts_of heads made cs ≡ now → i < heads → get_or cs i None ≡ Some w → w ≡ slice_index now.heads i
head-is heads made cs now i w is low e = ap value_of (sym e) ∙ sym (words-at cs i) ∙ sym (get_or-take heads (words_of cs) i 0 low) ∙ ap (λ (p : Parts). slice_index p.heads i) is

pub word-is : (heads made : ℕ) (cs : List (Option ℕ)) (now : Parts) (i : ℕ) (c : Option ℕ) → parts_of heads made cs ≡ now → get_or cs (heads + i) None ≡ c → value_of c ≡ slice_index now.words i
word-is heads made cs now i c is e = ap value_of (sym e) ∙ sym (words-at cs (heads + i)) ∙ sym (get_or-drop heads (words_of cs) i 0) ∙ ap (λ (p : Parts). slice_index p.words i) is

pub head-set : (heads made : ℕ) (cs : List (Option ℕ)) (i w : ℕ) → i < heads → parts_of heads made (set cs i (Some w)) ≡ headed (parts_of heads made cs) i w
head-set heads made cs i w low =
    let ws = words_of cs in
    ap (λ us. record { heads = take heads us; words = drop heads us; made = made }) (words-set cs i w) ∙ (λ j. record { heads = take-set-lt heads ws i w low j; words = drop-set-lt heads ws i w low j; made = made })

pub word-set : (heads made : ℕ) (cs : List (Option ℕ)) (i w : ℕ)
    → parts_of heads made (set cs (heads + i) (Some w)) ≡ record (parts_of heads made cs) { words = set (parts_of heads made cs).words i w }
word-set heads made cs i w =
    let ws = words_of cs in
    ap (λ us. record { heads = take heads us; words = drop heads us; made = made }) (words-set cs (heads + i) w) ∙ (λ j. record { heads = take-set-le heads ws (heads + i) w (omega arith) j; words = drop-set-add heads ws i w j; made = made })
