-- Straight-line code runs to the configuration that the code determines, and executes no instruction twice.
use Rattle.std.proofs.Common.{◌≡◌, ◌≢◌, ℕ, zero, suc, ◌+◌, ◌<◌, true, false, List, [], ◌∷◌, ◌++◌, length, Some, slice_get, refl, sym, ap, subst, ◌∙◌, arith, length-append, append_assoc}
use Rattle.std.specs.List.{AllByRecursion}
use Rattle.cyc_words.specs.Distinct.{IsDistinct}
use Rattle.cyc_words.specs.inside.Following.{Path}
use Rattle.cyc_store.specs.State.{StoreState}
use Rattle.cyc_plain.specs.declared.instruction.Instruction.{Instruction}
use Rattle.cyc_plain.specs.declared.instruction.Instruction.TheVariants as instructions
use Rattle.cyc_plain.specs.declared.instruction.BinaryOperator.{BinaryOperator}
use Rattle.cyc_plain.specs.declared.instruction.BinaryOperator.TheVariants as binary
use Rattle.cyc_plain.specs.declared.instruction.Operand.{Operand}
use Rattle.cyc_plain.specs.inside.Program.{Program, CodePlace, routine_at}
use Rattle.cyc_plain.specs.inside.State.{Frame, Configuration, State, Running}
use Rattle.cyc_plain.specs.inside.Step.{Choice, performed, is_within, limit_of, Step, machine}
use Rattle.cyc_plain.specs.inside.Straight.{At, HasAt, is_total, is_straight, AreStraight, configuration_or, executed_in, places_after}
use Rattle.cyc_plain.proofs.Steps.{step_performs}

-- ---- code at a place

pub has_front : (code : List Instruction) (p : ℕ) (a b : List Instruction) → HasAt code p (a ++ b) → HasAt code p a
has_front code p [] b has = tt
has_front code p (i ∷ a) b (at, rest) = (at, has_front code (p + 1) a b rest)

pub has_back : (code : List Instruction) (p : ℕ) (a b : List Instruction) → HasAt code p (a ++ b) → HasAt code (p + length a) b
has_back code p [] b has = subst (λ q. HasAt code q b) (let e : p ≡ p + 0 = omega arith in e) has
has_back code p (i ∷ a) b (at, rest) =
    subst (λ q. HasAt code q b) (let e : p + 1 + length a ≡ p + suc (length a) = omega arith in e) (has_back code (p + 1) a b rest)

get_here : (front : List Instruction) (i : Instruction) (back : List Instruction) → slice_get (front ++ i ∷ back) (length front) ≡ Some i
get_here [] i back = refl
get_here (j ∷ front) i back = get_here front i back

has_from : (front code : List Instruction) → HasAt (front ++ code) (length front) code
has_from front [] = tt
has_from front (i ∷ code) =
    let longer : length (front ++ i ∷ []) ≡ length front + 1 = length-append front (i ∷ []) in (
      get_here front i code,
      subst (λ q. HasAt (front ++ i ∷ code) q code) longer
          (subst (λ l. HasAt l (length (front ++ i ∷ [])) code) (append_assoc front (i ∷ []) code) (has_from (front ++ i ∷ []) code)),
    )

-- Every code contains all of its own instructions from index 0 on.
pub has_whole : (code : List Instruction) → HasAt code 0 code
has_whole code = has_from [] code

-- ---- one instruction

-- `Keeps` says that a straight-line instruction leaves everything unchanged except slots, globals
-- and memory, and advances to the next instruction.
record Keeps (c d : Configuration) : Type 0 where
  pub function : d.active.function ≡ c.active.function
  pub next : d.active.next ≡ c.active.next + 1
  pub frames : d.frames ≡ c.frames
  pub store : d.store ≡ c.store

-- `IsOne` says that a straight-line instruction leads to the same configuration whatever values the step chooses for what it leaves open.
record IsOne (program : Program) (choice : Choice) (c : Configuration) (i : Instruction) : Type 0 where
  pub gives : (other : Choice) → performed program other c i ≡ Running (configuration_or (performed program choice c i) c)
  pub keeps : Keeps c (configuration_or (performed program choice c i) c)

binary_one : (program : Program) (choice : Choice) (c : Configuration) (operator : BinaryOperator) (destination : ℕ) (left right : Operand) → is_total operator ≡ true → IsOne program choice c (instructions.Binary operator destination left right)
binary_one program choice c binary.Divide destination left right total = absurd (let e : false ≡ true = total in cc)
binary_one program choice c binary.Remainder destination left right total = absurd (let e : false ≡ true = total in cc)
binary_one program choice c operator destination left right total = record { gives = λ other. refl; keeps = record { function = refl; next = refl; frames = refl; store = refl } }

is_one : (program : Program) (choice : Choice) (c : Configuration) (i : Instruction) → is_straight i ≡ true → IsOne program choice c i
is_one program choice c (instructions.Binary operator destination left right) straight = binary_one program choice c operator destination left right straight
is_one program choice c (instructions.Move destination source) straight = record { gives = λ other. refl; keeps = record { function = refl; next = refl; frames = refl; store = refl } }
is_one program choice c (instructions.MoveWords destination source count) straight = record { gives = λ other. refl; keeps = record { function = refl; next = refl; frames = refl; store = refl } }
is_one program choice c (instructions.Unary operator destination operand) straight = record { gives = λ other. refl; keeps = record { function = refl; next = refl; frames = refl; store = refl } }
is_one program choice c (instructions.ReadByte destination) straight = record { gives = λ other. refl; keeps = record { function = refl; next = refl; frames = refl; store = refl } }
is_one program choice c (instructions.WriteByte source) straight = record { gives = λ other. refl; keeps = record { function = refl; next = refl; frames = refl; store = refl } }
is_one program choice c (instructions.AddressOf destination slot count) straight = record { gives = λ other. refl; keeps = record { function = refl; next = refl; frames = refl; store = refl } }
is_one program choice c (instructions.LoadGlobal destination global) straight = record { gives = λ other. refl; keeps = record { function = refl; next = refl; frames = refl; store = refl } }
is_one program choice c (instructions.StoreGlobal global source) straight = record { gives = λ other. refl; keeps = record { function = refl; next = refl; frames = refl; store = refl } }
is_one program choice c (instructions.CountLexical destination) straight = record { gives = λ other. refl; keeps = record { function = refl; next = refl; frames = refl; store = refl } }
is_one program choice c i straight = absurd (let e : false ≡ true = straight in cc)

-- ---- places

abbrev place_at : (function index : ℕ) → CodePlace
place_at function index = record { function = function; index = index }

-- A code position before a range of positions differs from each position in the range.
greater : (function index first count : ℕ) → index < first → AllByRecursion (λ p. place_at function index ≢ p) (places_after function first count)
greater function index first zero less = tt
greater function index first (suc count) less =
    ((λ same. let e : index ≡ first = ap (λ (p : CodePlace). p.index) same in omega (arith, e, less)), greater function index (first + 1) count (omega (arith, less)))

pub following-distinct : (function index count : ℕ) → IsDistinct (places_after function index count)
following-distinct function index zero = tt
following-distinct function index (suc count) = (greater function index (index + 1) count (omega arith), following-distinct function (index + 1) count)

-- ---- runs through straight-line code

module _ (program : Program) (pages calls : ℕ) (choice : Choice) where
  abbrev after : Configuration → Instruction → Configuration
  after c i = configuration_or (performed program choice c i) c

  abbrev IsWithin : Configuration → Type 0
  IsWithin c = is_within pages calls (Running c) ≡ true

  abbrev Stands : Configuration → List Instruction → Type 0
  Stands c is = HasAt (routine_at program c.active.function).code c.active.next is

  same_limits : (c d : Configuration) → Keeps c d → is_within pages calls (Running d) ≡ is_within pages calls (Running c)
  same_limits c d k =
      ap (λ (s : StoreState). is_within pages calls (Running (record d { store = s }))) k.store
      ∙ ap (λ (fs : List Frame). is_within pages calls (Running (record d { frames = fs; store = c.store }))) k.frames

  stands_after : (c d : Configuration) (is : List Instruction) → Keeps c d → HasAt (routine_at program c.active.function).code (c.active.next + 1) is → Stands d is
  stands_after c d is k has =
      subst (λ n. HasAt (routine_at program d.active.function).code n is) (sym k.next)
      (subst (λ f. HasAt (routine_at program f).code (c.active.next + 1) is) (sym k.function) has)

  places_same : (c d : Configuration) (count : ℕ) → Keeps c d → places_after d.active.function d.active.next count ≡ places_after c.active.function (c.active.next + 1) count
  places_same c d count k =
      ap (λ f. places_after f d.active.next count) k.function ∙ ap (λ n. places_after c.active.function n count) k.next

  -- A straight-line instruction does not check for stack space, so it leaves the limit of calls unchanged.
  no_more : (i : Instruction) → is_straight i ≡ true → limit_of (Some i) calls ≡ calls
  no_more (instructions.Enter function) straight = absurd (let e : false ≡ true = straight in cc)
  no_more i straight = refl

  -- A step with a straight-line instruction leads to the configuration that the instruction determines.
  goes : (c : Configuration) (i : Instruction) (new : State) → is_straight i ≡ true → At (routine_at program c.active.function).code c.active.next i → IsWithin c
      → Step program pages calls (Running c) new → new ≡ Running (after c i)
  goes c i new straight at within step =
      let one = is_one program choice c i straight in
      let (other, allowed, is) = step_performs program pages calls c i new at (λ x. ap (λ (n : ℕ). is_within pages n (performed program x c i)) (no_more i straight) ∙ ap (is_within pages calls) (one.gives x) ∙ same_limits c (after c i) one.keeps ∙ within) step in
      is ∙ one.gives other

  -- Each run through straight-line code reaches the configuration that the code determines.
  pub runs : (is : List Instruction) (c : Configuration) (new : State) → AreStraight is → Stands c is → IsWithin c
      → Path (machine program pages calls) (places_after c.active.function c.active.next (length is)) (Running c) new → new ≡ Running (executed_in program choice c is)
  runs [] c new straight has within path = path
  runs (i ∷ is) c new (first, rest) (at, has) within (mid, here, step, path) =
      let one = is_one program choice c i first in
      let d = after c i in
      let to : mid ≡ Running d = goes c i mid first at within step in
      runs is d new rest (stands_after c d is one.keeps has) (same_limits c d one.keeps ∙ within)
      (subst (λ (places : List CodePlace). Path (machine program pages calls) places (Running d) new) (sym (places_same c d (length is) one.keeps))
      (subst (λ (s : State). Path (machine program pages calls) (places_after c.active.function (c.active.next + 1) (length is)) s new) to path))
