-- Lemmas about runs that execute a sequence of move instructions, each of which copies one machine word.
use Rattle.std.proofs.Common.{◌≡◌, ℕ, zero, suc, ◌+◌, ◌<◌, true, List, [], ◌∷◌, ◌++◌, length, slice_get, refl, sym, ap, subst, ◌∙◌, arith}
use Rattle.std.specs.Prelude.{Contains}
use Rattle.std.specs.List.{AllByRecursion}
use Rattle.cyc_words.specs.inside.Following.{Comes}
use Rattle.cyc_plain.specs.declared.instruction.Instruction.{Instruction}
use Rattle.cyc_plain.specs.declared.instruction.Instruction.TheVariants as instructions
use Rattle.cyc_plain.specs.declared.instruction.Operand.TheVariants as operands
use Rattle.cyc_plain.specs.inside.Program.{Program, CodePlace, routine_at}
use Rattle.cyc_plain.specs.inside.State.{Words, AreWords, put, Configuration, State, Running}
use Rattle.cyc_plain.specs.inside.Step.{is_within, machine}
use Rattle.cyc_plain.specs.inside.Straight.{At, HasAt, places_after}
use Rattle.cyc_plain.proofs.Steps.{step_performs}
use Rattle.cyc_plain.proofs.WordLaws.{put_words}
use Rattle.cyc_inline.specs.inside.Opened.{passing}
use Rattle.cyc_inline.proofs.Costs.{place_at}
use Rattle.cyc_inline.proofs.Moves.{passed}

pub passing_length : (destination source count : ℕ) → length (passing destination source count) ≡ count
passing_length destination source zero = refl
passing_length destination source (suc count) = ap (λ (n : ℕ). suc n) (passing_length (destination + 1) (source + 1) count)

pub passed_words : (destination source count : ℕ) (slots : Words) → AreWords slots → AreWords (passed destination source count slots)
passed_words destination source zero slots words = words
passed_words destination source (suc count) slots words =
    passed_words (destination + 1) (source + 1) count (put slots destination (slots source)) (put_words slots destination (slots source) words (words source))

-- ---- consecutive places

pub following_last : (function index count : ℕ) → places_after function index count ++ place_at function (index + count) ∷ [] ≡ places_after function index (suc count)
following_last function index zero = ap (λ (n : ℕ). place_at function n ∷ []) (let e : index + 0 ≡ index = omega arith in e)
following_last function index (suc count) =
    ap (λ (n : ℕ). place_at function index ∷ (places_after function (index + 1) count ++ place_at function n ∷ [])) (let e : index + suc count ≡ index + 1 + count = omega arith in e)
    ∙ ap (λ (places : List CodePlace). place_at function index ∷ places) (following_last function (index + 1) count)

pub after_inside : (own : List CodePlace) (function index count : ℕ) → ((k : ℕ) → k < count → Contains own (place_at function (index + k))) → AllByRecursion (Contains own) (places_after function index count)
after_inside own function index zero each = tt
after_inside own function index (suc count) each = (
  subst (λ (n : ℕ). Contains own (place_at function n)) (let e : index + 0 ≡ index = omega arith in e) (each 0 (omega arith)),
  after_inside own function (index + 1) count
      (λ k below. subst (λ (n : ℕ). Contains own (place_at function n)) (let e : index + suc k ≡ index + 1 + k = omega arith in e) (each (suc k) (omega (arith, below)))),
)

-- If a piece of code occurs in a function's code, there is an instruction at each code position within the piece.
pub has_each : (code : List Instruction) (p : ℕ) (is : List Instruction) (k : ℕ) → HasAt code p is → k < length is → (i : Instruction) × At code (p + k) i
has_each code p [] k has below = absurd (omega (arith, below))
has_each code p (i ∷ is) zero (at, rest) below = (i, ap (slice_get code) (let e : p + 0 ≡ p = omega arith in e) ∙ at)
has_each code p (i ∷ is) (suc k) (at, rest) below =
    let (j, there) = has_each code (p + 1) is k rest (omega (arith, below)) in
    (j, ap (slice_get code) (let e : p + suc k ≡ p + 1 + k = omega arith in e) ∙ there)

-- ---- runs through the moves

module _ (program : Program) (pages calls : ℕ) (Way Goal : State → Type 0) (others : List CodePlace) where
  -- The configuration after the moves of `count` words, with the code position advanced by `count`.
  abbrev pub passed_on : (destination source count : ℕ) → Configuration → Configuration
  passed_on destination source count d = record d { active = record d.active { slots = passed destination source count d.active.slots; next = d.active.next + count } }

  pub passes : (destination source count : ℕ) (d : Configuration) → HasAt (routine_at program d.active.function).code d.active.next (passing destination source count) → is_within pages calls (Running d) ≡ true
      → ((slots : Words) (next : ℕ) → Way (Running (record d { active = record d.active { slots = slots; next = next } })))
      → Comes (machine program pages calls) Way Goal others (Running (passed_on destination source count d))
      → Comes (machine program pages calls) Way Goal (places_after d.active.function d.active.next count ++ others) (Running d)
  passes destination source zero d has within way goal =
      subst (λ (n : ℕ). Comes (machine program pages calls) Way Goal others (Running (record d { active = record d.active { next = n } }))) (let e : d.active.next + 0 ≡ d.active.next = omega arith in e) goal
  passes destination source (suc count) d (at, has) within way goal =
      let slots : Words = put d.active.slots destination (d.active.slots source) in
      let following : Configuration = record d { active = record d.active { slots = slots; next = d.active.next + 1 } } in (
        refl,
        way d.active.slots d.active.next,
        λ next step.
            subst (λ (s : State). Comes (machine program pages calls) Way Goal (places_after d.active.function (d.active.next + 1) count ++ others) s)
            (sym (step_performs program pages calls d (instructions.Move destination (operands.Slot source)) next at (λ choice. within) step).2)
            (passes (destination + 1) (source + 1) count following has within way
            (subst (λ (n : ℕ). Comes (machine program pages calls) Way Goal others (Running (record d { active = record d.active { slots = passed (destination + 1) (source + 1) count slots; next = n } })))
            (let e : d.active.next + suc count ≡ d.active.next + 1 + count = omega arith in e) goal)),
      )
