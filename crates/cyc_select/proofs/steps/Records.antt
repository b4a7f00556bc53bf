-- The slots of an exception handler's record, word by word.
use Rattle.std.proofs.Common.{◌≡◌, ◌≢◌, ℕ, ◌+◌, ◌≤◌, Bool, true, ◌&&◌, sym, ap, ◌∙◌, arith, inl, inr}
use Rattle.std.specs.Prelude.{◌==◌, if◌then◌else◌}
use Rattle.std.proofs.lemmas.Bool.{cases_eq, cases_lt, eqb-true}
use Rattle.cyc_words.proofs.Booleans.{and_right, and_left}
use Rattle.cyc_plain.specs.inside.State.{Words, put, copied}
use Rattle.cyc_plain.specs.inside.Step.{is_intact}
use Rattle.cyc_plain.proofs.SlotLaws.{put-same, put-other, copied-inside, copied-below, copied-above}

-- Returns the four words of a new handler record: the previous handler, the frame, the line, and the unchanged last word.
abbrev pub record_words : (previous frame line last : ℕ) → Words
record_words previous frame line last = λ (k : ℕ). if k == 0 then previous else (if k == 1 then frame else (if k == 2 then line else last))

-- Returns the slots after the first three words of a handler record are written to them.
abbrev pub recorded : (slots : Words) (first previous frame line : ℕ) → Words
recorded slots first previous frame line = put (put (put slots first previous) (first + 1) frame) (first + 2) line

pub recorded_is : (slots : Words) (first previous frame line n : ℕ) → recorded slots first previous frame line n ≡ copied (record_words previous frame line (slots (first + 3))) 0 4 slots first n
recorded_is slots first previous frame line n = elim (cases_eq n (first + 2)) [
  | inl two ↦
      ap (put a2 (first + 2) line) two ∙ (put-same a2 (first + 2) line ∙ sym (ap (copied words 0 4 slots first) two ∙ copied-inside words slots 0 4 first 2 (omega arith)))
  | inr not_two ↦ put-other a2 (first + 2) n line not_two ∙ elim (cases_eq n (first + 1)) [
    | inl one ↦
        ap (put a1 (first + 1) frame) one ∙ (put-same a1 (first + 1) frame ∙ sym (ap (copied words 0 4 slots first) one ∙ copied-inside words slots 0 4 first 1 (omega arith)))
    | inr not_one ↦ put-other a1 (first + 1) n frame not_one ∙ elim (cases_eq n first) [
      | inl here ↦
          let there : n ≡ first + 0 = omega (arith, here) in
          ap (put slots first previous) here ∙ (put-same slots first previous ∙ sym (ap (copied words 0 4 slots first) there ∙ copied-inside words slots 0 4 first 0 (omega arith)))
      | inr not_here ↦ put-other slots first n previous not_here ∙ elim (cases_eq n (first + 3)) [
        | inl three ↦ ap slots three ∙ sym (ap (copied words 0 4 slots first) three ∙ copied-inside words slots 0 4 first 3 (omega arith))
        | inr not_three ↦ elim (cases_lt n first) [
          | inl below ↦ sym (copied-below words slots 0 4 first n below)
          | inr from ↦ sym (copied-above words slots 0 4 first n (past from not_here not_one not_two not_three))
        ]
      ]
    ]
  ]
]
  where
    words : Words
    words = record_words previous frame line (slots (first + 3))

    a1 : Words
    a1 = put slots first previous

    a2 : Words
    a2 = put (put slots first previous) (first + 1) frame

    past : first ≤ n → n ≢ first → n ≢ first + 1 → n ≢ first + 2 → n ≢ first + 3 → first + 4 ≤ n
    past from zeroth one two three = omega (arith, from, zeroth, one, two, three)

-- `Holds4` says that the four slots from `first` on hold the given contents of a handler record.
pub record Holds4 (slots : Words) (first : ℕ) (contents : Words) : Type 0 where
  pub zeroth : slots first ≡ contents 0
  pub one : slots (first + 1) ≡ contents 1
  pub two : slots (first + 2) ≡ contents 2
  pub three : slots (first + 3) ≡ contents 3

pub holds_four : (slots : Words) (first : ℕ) (contents : Words) → is_intact slots first contents ≡ true → Holds4 slots first contents
holds_four slots first contents intact =
    let a : Bool = slots first == contents 0 in
    let b : Bool = slots (first + 1) == contents 1 in
    let d : Bool = slots (first + 2) == contents 2 in
    let f : Bool = slots (first + 3) == contents 3 in
    let later = and_right (slots first == contents 0) (slots (first + 1) == contents 1 && (slots (first + 2) == contents 2 && slots (first + 3) == contents 3)) intact in
    let last = and_right (slots (first + 1) == contents 1) (slots (first + 2) == contents 2 && slots (first + 3) == contents 3) later in
    record {
      zeroth = eqb-true (slots first) (contents 0) (and_left a (b && (d && f)) intact);
      one = eqb-true (slots (first + 1)) (contents 1) (and_left b (d && f) later);
      two = eqb-true (slots (first + 2)) (contents 2) (and_left d f last);
      three = eqb-true (slots (first + 3)) (contents 3) (and_right d f last);
    }
