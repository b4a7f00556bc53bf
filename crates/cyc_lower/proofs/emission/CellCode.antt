-- This file describes the loop that emits stores of values to the cells of an object, at a moment before the loop has finished.
use Rattle.std.proofs.Common.{◌≡◌, ℕ, zero, suc, ◌+◌, ◌*◌, ◌<◌, ◌≤◌, List, [], ◌∷◌, ◌++◌, length, get_or, drop, refl, sym, ap, ◌∙◌, arith, append_assoc, append-nil}
use Rattle.std.proofs.lemmas.List.{drop_more}
use Rattle.cyc_types.specs.declared.typed.Kind.{Kind}
use Rattle.cyc_types.specs.declared.typed.Converted.{Converted as ConvertedCode}
use Rattle.cyc_types.specs.TypedTreeView.{arguments_of}
use Rattle.cyc_meaning.specs.Values.{words_of_kind, bytes_of_kind, begins, following, bytes_from}
use Rattle.cyc_memory_relation.proofs.Places.{bytes-least}
use Rattle.cyc_plain.specs.declared.instruction.Operand.TheVariants as operands
use Rattle.cyc_plain.specs.declared.instruction.Instruction.{Instruction}
use Rattle.cyc_lower_proof.specs.inside.Slots.{begins_word}
use Rattle.cyc_lower_proof.specs.inside.ValueCode.{store_of, kinds_passed}
use Rattle.cyc_lower_proof.specs.inside.ObjectCode.{stores_code, cells_code, slots_of_kinds}
use Rattle.cyc_lower_proof.proofs.slots.CellBytes.{begins_is}
use Rattle.cyc_lower.proofs.emission.Emitting.{Remains, goes_on_by}

-- ---- one cell

-- `StoresLeft` says that the code so far, extended by the stores of the words from index `i` on, is the whole code.
abbrev pub StoresLeft : (old code : List Instruction) → Kind → (many address offset first i : ℕ) → Type 0
StoresLeft old code kind many address offset first i =
    (left : ℕ) × (i + left ≡ many) × (code ++ stores_code kind left address (offset + 4 * i) (first + i) ≡ old ++ stores_code kind many address offset first)

pub stores_begin : (old : List Instruction) (kind : Kind) (many address offset first : ℕ) → StoresLeft old old kind many address offset first 0
stores_begin old kind many address offset first = (
  many,
  omega arith,
  ap (λ (n : ℕ). old ++ stores_code kind many address n (first + 0)) (let e : offset + 4 * 0 ≡ offset = omega arith in e)
      ∙ ap (λ (n : ℕ). old ++ stores_code kind many address offset n) (let e : first + 0 ≡ first = omega arith in e),
)

pub stores_next : (old code new : List Instruction) (kind : Kind) (many address offset first i : ℕ) → i < many
    → new ≡ code ++ store_of kind (operands.Slot address) (offset + 4 * i) (operands.Slot (first + i)) ∷ []
    → StoresLeft old code kind many address offset first i → StoresLeft old new kind many address offset first (i + 1)
stores_next old code new kind many address offset first i below added (zero, count, made) = absurd (omega (arith, count, below))
stores_next old code new kind many address offset first i below added (suc left, count, made) =
    let store = store_of kind (operands.Slot address) (offset + 4 * i) (operands.Slot (first + i)) in
    let place : offset + 4 * (i + 1) ≡ offset + 4 * i + 4 = omega arith in
    let slot : first + (i + 1) ≡ suc (first + i) = omega arith in (
      left,
      omega (arith, count),
      ap (λ (n : ℕ). new ++ stores_code kind left address n (first + (i + 1))) place
          ∙ ap (λ (n : ℕ). new ++ stores_code kind left address (offset + 4 * i + 4) n) slot
          ∙ ap (λ (l : List Instruction). l ++ stores_code kind left address (offset + 4 * i + 4) (suc (first + i))) added
          ∙ append_assoc code (store ∷ []) (stores_code kind left address (offset + 4 * i + 4) (suc (first + i)))
          ∙ made,
    )

pub stores_end : (old code : List Instruction) (kind : Kind) (many address offset first i : ℕ) → many ≤ i → StoresLeft old code kind many address offset first i
    → code ≡ old ++ stores_code kind many address offset first
stores_end old code kind many address offset first i done (zero, count, made) = sym (append-nil code) ∙ made
stores_end old code kind many address offset first i done (suc left, count, made) = absurd (omega (arith, count, done))

-- ---- the kinds of cells

next_kind : (ks : List Kind) (i : ℕ) (kind : Kind) → i < length ks → kind ≡ get_or ks i kind → drop i ks ≡ kind ∷ drop (i + 1) ks
next_kind ks i kind inside at = drop_more ks i kind inside ∙ ap (λ (k : Kind). k ∷ drop (i + 1) ks) (sym at)

-- Looking up an existing element of a list of representation kinds does not depend on the default for a missing element.
pub same_item : (ks : List Kind) (i : ℕ) (other : Kind) → i < length ks → get_or ks i other ≡ get_or ks i (get_or ks i other)
same_item ks i other inside =
    let kind : Kind = get_or ks i other in
    let e : get_or ks i other ∷ drop (i + 1) ks ≡ get_or ks i kind ∷ drop (i + 1) ks = sym (drop_more ks i other inside) ∙ drop_more ks i kind inside in
    cc

-- `KindsLeft` says that the representation kinds collected so far, extended by those of the remaining fields, are the kinds of all fields.
abbrev pub KindsLeft : List ConvertedCode → (i : ℕ) → List Kind → Type 0
KindsLeft cs i ks = ks ++ kinds_passed (arguments_of (drop i cs)) ≡ kinds_passed (arguments_of cs)

-- `BytesLeft` says that the bytes of an object's cells counted so far, plus the bytes of its remaining cells,
-- are the bytes of the whole object.
abbrev pub BytesLeft : List Kind → (i bytes : ℕ) → Type 0
BytesLeft ks i bytes = bytes_from bytes (drop i ks) ≡ bytes_from 0 ks

pub bytes_next : (ks : List Kind) (i bytes begin new : ℕ) (kind : Kind) → i < length ks → kind ≡ get_or ks i kind → bytes_from 0 ks ≤ 4000
    → begin ≡ begins_word kind bytes → new ≡ begin + bytes_of_kind kind → BytesLeft ks i bytes
    → (begin ≡ begins kind bytes) × (new ≡ following kind bytes) × BytesLeft ks (i + 1) new
bytes_next ks i bytes begin new kind inside at few begin_is new_is left =
    let rest = drop (i + 1) ks in
    let all : bytes_from (following kind bytes) rest ≡ bytes_from 0 ks = ap (bytes_from bytes) (sym (next_kind ks i kind inside at)) ∙ left in
    let least : following kind bytes ≤ bytes_from (following kind bytes) rest = bytes-least (following kind bytes) rest in
    let there : begin ≡ begins kind bytes = begin_is ∙ begins_is kind bytes (omega (arith, all, least, few)) in
    let next : new ≡ following kind bytes = omega (arith, new_is, there) in
    (there, next, ap (λ (n : ℕ). bytes_from n rest) next ∙ all)

-- The sums of the numbers of bytes of an object's cells do not overflow, since an object has at most 4000 bytes.
pub bytes_low : (ks : List Kind) (i bytes : ℕ) (kind : Kind) → i < length ks → kind ≡ get_or ks i kind → bytes_from 0 ks ≤ 4000 → BytesLeft ks i bytes
    → begins_word kind bytes + bytes_of_kind kind ≤ 4000
bytes_low ks i bytes kind inside at few left =
    let rest = drop (i + 1) ks in
    let all : bytes_from (following kind bytes) rest ≡ bytes_from 0 ks = ap (bytes_from bytes) (sym (next_kind ks i kind inside at)) ∙ left in
    let least : following kind bytes ≤ bytes_from (following kind bytes) rest = bytes-least (following kind bytes) rest in
    omega (arith, all, least, few, begins_is kind bytes (omega (arith, all, least, few)))

-- `SlotsLeft` says that the slots of the values counted so far, plus the slots of the remaining values, are the slots of all values.
abbrev pub SlotsLeft : List Kind → (first i slot : ℕ) → Type 0
SlotsLeft ks first i slot = slot + slots_of_kinds (drop i ks) ≡ first + slots_of_kinds ks

pub slots_next : (ks : List Kind) (first i slot : ℕ) (kind : Kind) → i < length ks → kind ≡ get_or ks i kind → SlotsLeft ks first i slot
    → (slot + words_of_kind kind ≤ first + slots_of_kinds ks) × SlotsLeft ks first (i + 1) (slot + words_of_kind kind)
slots_next ks first i slot kind inside at left =
    let all : slots_of_kinds (drop i ks) ≡ words_of_kind kind + slots_of_kinds (drop (i + 1) ks) = ap slots_of_kinds (next_kind ks i kind inside at) in
    (omega (arith, all, left), omega (arith, all, left))

-- ---- several cells

-- Returns the code that fills all cells of an object. The state passed from one cell to the next is the next cell's byte
-- offset and the slot of its value.
abbrev pub all_cells : (address : ℕ) → List Kind → ℕ → ℕ × ℕ → List Instruction
all_cells address ks p s = cells_code ks address s.0 s.1

abbrev pub one_cell : (address : ℕ) → Kind → List Kind → ℕ → ℕ × ℕ → List Instruction
one_cell address kind ks p s = stores_code kind (words_of_kind kind) address (begins kind s.0) s.1

abbrev pub next_cell : Kind → List Kind → ℕ × ℕ → ℕ × ℕ
next_cell kind ks s = (following kind s.0, s.1 + words_of_kind kind)

abbrev pub CellsLeft : (old : List Instruction) → List Kind → (address first i : ℕ) → (code : List Instruction) → (bytes slot : ℕ) → Type 0
CellsLeft old ks address first i code bytes slot = Remains (all_cells address) old ks (0, first) i code (bytes, slot)

pub cells_next : (old : List Instruction) (ks : List Kind) (address first i : ℕ) (code new : List Instruction) (bytes begin next slot : ℕ) (kind : Kind)
    → i < length ks → kind ≡ get_or ks i kind → begin ≡ begins kind bytes → next ≡ following kind bytes
    → new ≡ code ++ stores_code kind (words_of_kind kind) address begin slot → CellsLeft old ks address first i code bytes slot
    → CellsLeft old ks address first (i + 1) new next (slot + words_of_kind kind)
cells_next old ks address first i code new bytes begin next slot kind inside at begin_is next_is added left =
    ap (λ (n : ℕ). new ++ cells_code (drop (i + 1) ks) address n (slot + words_of_kind kind)) next_is
    ∙ goes_on_by (all_cells address) (one_cell address) next_cell (λ k rest p s. refl) old ks (0, first) i code new (bytes, slot) kind inside at
    (added ∙ ap (λ (n : ℕ). code ++ stores_code kind (words_of_kind kind) address n slot) begin_is) left
