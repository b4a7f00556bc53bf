-- The tail of code is unreachable, so a function whose tail is replaced by jumps has the same runs.
use Rattle.std.proofs.Common.{◌≡◌, ℕ, suc, ◌+◌, ◌<◌, ◌≤◌, Bool, true, false, ◌&&◌, ◌||◌, List, [], ◌∷◌, ◌++◌, length, Option, Some, None, slice_get, refl, sym, ap, subst, ◌∙◌, arith, inl, inr}
use Rattle.std.specs.Prelude.{◌==◌, nat_lt, if◌then◌else◌}
use Rattle.std.proofs.lemmas.Bool.{cases_lt, and_cases, cond_both, cond-true, cond-false, eqb-true, ltb-false, ltb-true, lt-ltb, le-ltb, or_cases, false≢true}
use Rattle.std.proofs.lemmas.List.{length-append}
use Rattle.cyc_words.proofs.Items.{below_from_slice_get}
use Rattle.cyc_words.proofs.Lists.{slice_get_below}
use Rattle.cyc_words.proofs.Sums.{sum_by-at_most_each}
use Rattle.cyc_plain.specs.declared.instruction.Instruction.{Instruction}
use Rattle.cyc_plain.specs.declared.instruction.Instruction.TheVariants as instructions
use Rattle.cyc_plain.specs.inside.Program.{Routine, Program, instruction_size}
use Rattle.cyc_plain.specs.inside.Uses.{At, leads}
use Rattle.cyc_propagation.specs.declared.fact.Fact.{Fact}
use Rattle.cyc_propagation.specs.inside.Entries.{with_code}
use Rattle.cyc_propagation.specs.inside.Facts.{Scene, AreTrueIn, are_suited, written, touched, kept, never}
use Rattle.cyc_propagation.specs.inside.Replacement.{simplified_instruction, may_vanish, place_after, put_at}
use Rattle.cyc_propagation.specs.inside.Room.{greater}
use Rattle.cyc_propagation.specs.inside.Table.{ArePins, IsReplaced, goes_on}
use Rattle.cyc_propagation.specs.inside.Tail.{target_of, greater_if_any, last_after, IsLastOf, IsLast, tailless_instruction, AreTailless, IsTailless}
use Rattle.cyc_propagation.proofs.Sizes.{put_not_larger}
use Rattle.cyc_propagation.proofs.Tables.{unaltered_without, reached}
use Rattle.cyc_propagation.proofs.Walks.{get_before, get_last}

-- ---- the last reachable place

one_at_most : (one other : ℕ) → one ≤ greater one other
one_at_most one other = cond_both (nat_lt one other) other one (λ (n : ℕ). one ≤ n) (λ less. (let l = ltb-true one other less in omega (arith, l))) (λ more. omega arith)

other_at_most : (one other : ℕ) → other ≤ greater one other
other_at_most one other = cond_both (nat_lt one other) other one (λ (n : ℕ). other ≤ n) (λ less. omega arith) (λ more. ltb-false one other more)

module _ (last index : ℕ) where
  abbrev last_on : Instruction → ℕ
  last_on i = if goes_on i then greater last (index + 1) else last

  pub last_grows : (i : Instruction) → last ≤ last_after last i index
  last_grows i = go (target_of i)
    where
      here : last ≤ last_on i
      here = cond_both (goes_on i) (greater last (index + 1)) last (λ (n : ℕ). last ≤ n) (λ on. one_at_most last (index + 1)) (λ ends. omega arith)

      go : (o : Option ℕ) → last ≤ greater_if_any (last_on i) o
      go (Some target) = omega (arith, here, one_at_most (last_on i) target)
      go None = here

  led_after : (next : ℕ) → (suc index == next) ≡ true → next ≤ greater last (index + 1)
  led_after next led = omega (arith, eqb-true (suc index) next led, other_at_most last (index + 1))

  led_either : (target next : ℕ) → (suc index == next || target == next) ≡ true → next ≤ greater (greater last (index + 1)) target
  led_either target next led = elim (or_cases (suc index == next) (target == next) led) [
    | inl on ↦ omega (arith, led_after next on, one_at_most (greater last (index + 1)) target)
    | inr off ↦ omega (arith, eqb-true target next off, other_at_most (greater last (index + 1)) target)
  ]

  pub led_within : (i : Instruction) (next : ℕ) → leads i index next ≡ true → next ≤ last_after last i index
  led_within (instructions.Jump target) next led = omega (arith, eqb-true target next led, other_at_most last target)
  led_within (instructions.Branch comparison left right target) next led = led_either target next led
  led_within (instructions.Try first handler) next led = led_either handler next led
  led_within (instructions.Return value) next led = absurd (false≢true led)
  led_within (instructions.Throw tag value) next led = absurd (false≢true led)
  led_within (instructions.Finish value) next led = absurd (false≢true led)
  led_within (instructions.Uncaught tag value) next led = absurd (false≢true led)
  led_within i next led = led_after next led

pub no_last : (code : List Instruction) → IsLastOf code 0 0
no_last code index next i at below led = absurd (omega (arith, below))

pub next_last : (code : List Instruction) (count last : ℕ) (i : Instruction) → slice_get code count ≡ Some i → IsLastOf code count last → IsLastOf code (count + 1) (last_after last i count)
next_last code count last i at is index next j there below led = elim (cases_lt index count) [
  | inl before ↦ omega (arith, is index next j there before led, last_grows last count i)
  | inr not_before ↦
      let same : index ≡ count = omega (arith, below, not_before) in
      let alike : j ≡ i = (let e : Some j ≡ Some i = sym there ∙ ap (slice_get code) same ∙ at in cc) in
      led_within last count i next (subst (λ (x : Instruction). leads x count next ≡ true) alike (subst (λ (k : ℕ). leads j k next ≡ true) same led))
]

-- If none of the first `count` instructions jumps or falls through past a position below `count`, then no
-- instruction up to this position does.
pub last_found : (code : List Instruction) (count last : ℕ) → IsLastOf code count last → last < count → IsLast code last
last_found code count last is beyond index next i at below led = is index next i at (omega (arith, below, beyond)) led

pub last_of_all : (code : List Instruction) (count last : ℕ) → IsLastOf code count last → length code ≤ count → IsLast code last
last_of_all code count last is all index next i at below led = is index next i at (omega (arith, below_from_slice_get code index i at, all)) led

-- ---- one instruction at a time

pub none_tailless : (code : List Instruction) (last : ℕ) → AreTailless code last 0 []
none_tailless code last = record { as_many = refl; each = λ index i at below. absurd (omega (arith, below)) }

pub next_tailless : (code : List Instruction) (last count : ℕ) (made all : List Instruction) (i j : Instruction) → AreTailless code last count made → slice_get code count ≡ Some i
    → j ≡ tailless_instruction last count (length code) i → all ≡ made ++ j ∷ [] → AreTailless code last (count + 1) all
next_tailless code last count made all i j are at is all_is = subst (AreTailless code last (count + 1)) (sym all_is) (record {
  as_many = omega (arith, length-append made (j ∷ []), are.as_many);
  each = λ index x there below. elim (cases_lt index count) [
    | inl before ↦ get_before made j index (omega (arith, before, are.as_many)) ∙ are.each index x there before
    | inr not_before ↦ last_each index x there (omega (arith, below, not_before))
  ];
})
  where
    last_each : (index : ℕ) (x : Instruction) → slice_get code index ≡ Some x → index ≡ count → slice_get (made ++ j ∷ []) index ≡ Some (tailless_instruction last index (length code) x)
    last_each index x there same =
        let alike : i ≡ x = (let e : Some i ≡ Some x = sym at ∙ ap (slice_get code) (sym same) ∙ there in cc) in
        let here : slice_get (made ++ j ∷ []) count ≡ Some (tailless_instruction last count (length code) i) =
        subst (λ (n : ℕ). slice_get (made ++ j ∷ []) n ≡ Some j) are.as_many (get_last made j) ∙ ap Some is in
        subst (λ (n : ℕ). slice_get (made ++ j ∷ []) n ≡ Some (tailless_instruction last n (length code) x)) (sym same)
        (subst (λ (y : Instruction). slice_get (made ++ j ∷ []) count ≡ Some (tailless_instruction last count (length code) y)) alike here)

pub all_tailless : (code : List Instruction) (last count : ℕ) (made : List Instruction) → IsLast code last → AreTailless code last count made → count ≡ length code → IsTailless code made
all_tailless code last count made is are all = record { last = last; is_last = is; all = subst (λ (n : ℕ). AreTailless code last n made) all are }

-- ---- one function

-- Returns the facts at a code position: the fact `never` (the position is unreachable) if the position is after the
-- last reachable one, otherwise no fact.
abbrev known_beyond : (last index : ℕ) → List Fact
known_beyond last index = if nat_lt last index then never ∷ [] else []

-- Replacing the tail of code by jumps has the same result as the replacement under `known_beyond`, the facts
-- that mark the tail as unreachable.
tailless_put : (last index count : ℕ) (i : Instruction) → tailless_instruction last index count i ≡ put_at (known_beyond last index) index count i
tailless_put last index count i = go (nat_lt last index)
  where
    unreached : (j i : Instruction) → (if may_vanish i then j else i) ≡ (if may_vanish i then j else simplified_instruction (never ∷ []) i)
    unreached j (instructions.AddressOf destination slot number) = refl
    unreached j i = refl

    go : (b : Bool) → (if b && may_vanish i then instructions.Jump (place_after index count) else i) ≡ put_at (if b then never ∷ [] else []) index count i
    go true = unreached (instructions.Jump (place_after index count)) i
    go false = unaltered_without [] i refl

module _ (program : Program) (r : Routine) (pinned : List Bool) (code : List Instruction) (pins : ArePins r pinned) (is : IsTailless r.code code) where
  abbrev table : ℕ → List Fact
  table index = known_beyond is.last index

  within : (index : ℕ) → index ≤ is.last → table index ≡ []
  within index up = cond-false (nat_lt is.last index) (never ∷ []) [] (le-ltb is.last index up)

  put_each : (index : ℕ) (i : Instruction) → At r index i → slice_get code index ≡ Some (put_at (table index) index (length r.code) i)
  put_each index i at = is.all.each index i at (below_from_slice_get r.code index i at) ∙ ap Some (tailless_put is.last index (length r.code) i)

  -- `IsTaillessOf` says that the instruction `j` is the replacement of the original function's instruction at `index`.
  record IsTaillessOf (index : ℕ) (j : Instruction) : Type 0 where
    pub instruction : Instruction
    pub at : At r index instruction
    pub stands : j ≡ tailless_instruction is.last index (length r.code) instruction

  tailless_of : (index : ℕ) (j : Instruction) → slice_get code index ≡ Some j → IsTaillessOf index j
  tailless_of index j at =
      let (i, there) = slice_get_below r.code index (omega (arith, below_from_slice_get code index j at, is.all.as_many)) in
      record {
        instruction = i;
        at = there;
        stands = (let e : Some j ≡ Some (tailless_instruction is.last index (length r.code) i) = sym at ∙ is.all.each index i there (below_from_slice_get r.code index i there) in cc);
      }

  no_try : (index first handler : ℕ) → slice_get code index ≡ Some (instructions.Try first handler) → table index ≡ []
  no_try index first handler at =
      let one = tailless_of index (instructions.Try first handler) at in
      cond_both (nat_lt is.last index && may_vanish one.instruction) (instructions.Jump (place_after index (length r.code))) one.instruction
      (λ j. instructions.Try first handler ≡ j → table index ≡ []) (λ gone same. absurd (let e : instructions.Try first handler ≡ instructions.Jump (place_after index (length r.code)) = same in cc))
      (λ stays same. elim (and_cases (nat_lt is.last index) (may_vanish one.instruction) stays) [
        | inl up ↦ cond-false (nat_lt is.last index) (never ∷ []) [] up
        | inr stuck ↦ absurd (false≢true (sym stuck ∙ ap may_vanish (sym same)))
      ])
      one.stands

  all_led : (index next : ℕ) (j : Instruction) → slice_get code index ≡ Some j → leads j index next ≡ true → (scene : Scene)
      → AreTrueIn scene (kept (written program j) (touched pinned j) (table index)) → AreTrueIn scene (table next)
  all_led index next j at led scene keeps = elim (cases_lt is.last index) [
    | inl beyond ↦
        absurd (reached scene (never ∷ [])
        (subst (λ (l : List Fact). AreTrueIn scene (kept (written program j) (touched pinned j) l)) (cond-true (nat_lt is.last index) (never ∷ []) [] (lt-ltb is.last index beyond)) keeps) refl)
    | inr up ↦
        let one = tailless_of index j at in
        let stays : j ≡ one.instruction =
        one.stands ∙ cond-false (nat_lt is.last index && may_vanish one.instruction) (instructions.Jump (place_after index (length r.code))) one.instruction
        (ap (λ (b : Bool). b && may_vanish one.instruction) (le-ltb is.last index up)) in
        subst (AreTrueIn scene)
        (sym (within next (is.is_last index next one.instruction one.at (omega (arith, up)) (subst (λ (x : Instruction). leads x index next ≡ true) stays led)))) tt
  ]

  pub tailless_replaced : IsReplaced program r (with_code r code)
  tailless_replaced = record {
    name = refl;
    parameters = refl;
    results = refl;
    slots = refl;
    frame_count = refl;
    as_many = is.all.as_many;
    small = sum_by-at_most_each instruction_size r.code code is.all.as_many (λ index i at. (
      put_at (table index) index (length r.code) i,
      put_each index i at,
      put_not_larger (table index) index (length r.code) i,
    ));
    pinned = pinned;
    pins = pins;
    table = table;
    is_table = record {
      first = within 0 (omega arith);
      tries = no_try;
      suited = λ index below. cond_both (nat_lt is.last index) (never ∷ []) [] (λ (l : List Fact). are_suited pinned l ≡ true) (λ beyond. refl) (λ up. refl);
      edges = λ index next j at led scene keeps more. all_led index next j at led scene keeps;
    };
    each = put_each;
  }
