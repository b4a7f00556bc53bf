-- This file is about accesses through fat pointers. It treats the index in bytes, the address of the cell, and the exception of an
-- access out of bounds.
use Rattle.std.proofs.Common.{◌≡◌, ◌≢◌, ℕ, zero, suc, ◌+◌, ◌*◌, ◌<◌, Bool, true, false, Option, None, Some, slice_get, refl, sym, ap, subst, ◌∙◌, arith, inl, inr}
use Rattle.std.specs.Prelude.{◌==◌, if◌then◌else◌, not}
use Rattle.std.proofs.lemmas.Bool.{eq-eqb, ne_eqb, eqb-true}
use Rattle.cyc_words.specs.Word.{add_of, mul_of, shl_of}
use Rattle.cyc_words.proofs.Items.{slice_get-map}
use Rattle.cyc_types.specs.declared.typed.Kind.{Kind}
use Rattle.cyc_types.specs.declared.typed.Kind.TheVariants as kinds
use Rattle.cyc_types.specs.TypedTrees.{Program}
use Rattle.cyc_store.specs.State.{StoreState}
use Rattle.cyc_plain.specs.declared.instruction.BinaryOperator.TheVariants as plain_binary
use Rattle.cyc_plain.specs.declared.instruction.Operand.TheVariants as operands
use Rattle.cyc_plain.specs.declared.instruction.Instruction.TheVariants as instructions
use Rattle.cyc_plain.specs.inside.State as plain
use Rattle.cyc_plain.specs.inside.State.{Words, put, Configuration}
use Rattle.cyc_plain.specs.inside.Step.{Choice, with_slots, at, performed}
use Rattle.cyc_plain.proofs.SlotLaws.{put-other}
use Rattle.cyc_meaning.specs.Values.{Value, Cell, kinds_of, bytes_of_kind}
use Rattle.cyc_meaning.specs.Operators.{null_exception, array_bounds}
use Rattle.cyc_meaning.specs.State.{Object, World}
use Rattle.cyc_meaning.specs.Parts.{is_target, cell_of}
use Rattle.cyc_memory_relation.specs.inside.Tables.{Tables}
use Rattle.cyc_memory_relation.specs.inside.Words.{IsPartOf, Points, Is}
use Rattle.cyc_memory_relation.specs.inside.Related as objects
use Rattle.cyc_memory_relation.proofs.Pointers.{thinned}
use Rattle.cyc_lower_proof.specs.inside.ValueCode.{scale_of}
use Rattle.cyc_lower_proof.specs.inside.Lowering.{lower_program}
use Rattle.cyc_lower_proof.proofs.slots.Widths.{same_kind, Outside}
use Rattle.cyc_lower_proof.proofs.slots.CellBytes.{wide_cell}
use Rattle.cyc_lower_proof.proofs.relation.contents.Moves.{put_elsewhere}
use Rattle.cyc_lower_proof.proofs.relation.contents.HeldValues.{IsParts}
use Rattle.cyc_lower_proof.proofs.relation.contents.Data.{Is-same}
use Rattle.cyc_lower_proof.proofs.place_steps.PlaceWords.{narrow_element, byte_element, wide_element}
use Rattle.cyc_plain.specs.inside.Operators.{truth}

-- The number of bytes from the first cell to the cell at an index, for cells of one, four or twelve bytes.
abbrev pub scaled : (bytes index : ℕ) → ℕ
scaled bytes index = if bytes == 4 then shl_of index 2 else if bytes == 1 then index else mul_of index 12

-- The words of a fat pointer are in three consecutive slots.
pub parts_of : (t : Tables) (v : Value) (slots : Words) (n : ℕ) → Is t kinds.Fat v slots n → IsParts t v slots n (n + 2)
parts_of t v slots n is = Is-same t kinds.Fat v slots (λ j. if j == 0 then slots n else if j == 1 then slots (n + 1) else slots (n + 2)) n 0 each is
  where
    each : (j : ℕ) → j < 3 → (if 0 + j == 0 then slots n else if 0 + j == 1 then slots (n + 1) else slots (n + 2)) ≡ slots (n + j)
    each zero below = ap slots (let same : n ≡ n + 0 = omega arith in same)
    each (suc zero) below = refl
    each (suc (suc zero)) below = refl
    each (suc (suc (suc j))) below = absurd (omega (arith, below))

-- The address that the code computes is the address of the cell at the index.
module _ {t : Tables} where
  pub element_is : {o start count w : ℕ} (i : ℕ) (part : IsPartOf t o start count w) → i < count → Points t o (start + i) (add_of w (scaled (bytes_of_kind part.kind) i))
  element_is {o} {start} {count} {w} i part below = by (bytes_of_kind part.kind == 4) (bytes_of_kind part.kind == 1) refl refl
    where
      by : (narrow one : Bool) → (bytes_of_kind part.kind == 4) ≡ narrow → (bytes_of_kind part.kind == 1) ≡ one
          → Points t o (start + i) (add_of w (if narrow then shl_of i 2 else if one then i else mul_of i 12))
      by true one narrow is = narrow_element i part below (eqb-true (bytes_of_kind part.kind) 4 narrow)
      by false true other is = byte_element i part below (eqb-true (bytes_of_kind part.kind) 1 is)
      by false false other wide = wide_element i part below (ap bytes_of_kind (wide_cell part.kind other wide))

  -- A pointer to a struct is followed to the first cell of the struct.
  pub first_is : {o start count a : ℕ} (i : ℕ) → IsPartOf t o start count a → start + i ≡ 0 → i < count → Points t o (start + i) a
  first_is {o} {start} {count} {a} i part first below =
      let none : i ≡ 0 = omega (arith, first) in
      subst (λ (j : ℕ). Points t o (start + j) a) (sym none) (subst (Points t o (start + 0)) (let same : a + 0 * bytes_of_kind part.kind ≡ a = omega arith in same) (thinned 0 part (omega (arith, below))))

-- ---- the accessed cell

abbrev some_or : (kind : Kind) → Option Kind → Kind
some_or kind None = kind
some_or kind (Some other) = other

-- Each cell of the part of an object to which a fat pointer points has the size of a value of the representation kind
-- (int, char, pointer, ..) that the typed tree names.
module _ {t : Tables} {w : World} {s : StoreState} (related : objects.Related t w s) where
  cell_of_kind : (kind : Kind) (offset : ℕ) (x : Option Object) → is_target (Some kind) offset (cell_of x offset) ≡ true → (y : Object) × (cell : Cell) × (x ≡ Some y) × (slice_get y.cells offset ≡ Some cell) × (cell.kind ≡ kind)
  cell_of_kind kind offset None leads = absurd (let f : false ≡ true = leads in cc)
  cell_of_kind kind offset (Some y) leads = by (slice_get y.cells offset) refl leads
    where
      by : (found : Option Cell) → slice_get y.cells offset ≡ found → is_target (Some kind) offset found ≡ true → (z : Object) × (cell : Cell) × (Some y ≡ Some z) × (slice_get z.cells offset ≡ Some cell) × (cell.kind ≡ kind)
      by None at leads = absurd (let f : false ≡ true = leads in cc)
      by (Some cell) at leads = (y, cell, refl, at, same_kind cell.kind kind leads)

  pub part_bytes : {o start count a : ℕ} (i : ℕ) (part : IsPartOf t o start count a) (kind : Kind) → i < count → is_target (Some kind) (start + i) (cell_of (slice_get w.objects o) (start + i)) ≡ true
      → bytes_of_kind part.kind ≡ bytes_of_kind kind
  part_bytes {o} {start} {count} {a} i part kind below leads =
      let (x, cell, there, at_cell, kind_is) = cell_of_kind kind (start + i) (slice_get w.objects o) leads in
      let shape : part.kinds ≡ kinds_of x.cells = related.shapes o part.address part.kinds x there part.row in
      let same : Some part.kind ≡ Some cell.kind = sym (part.even i below) ∙ (ap (λ ks. slice_get ks (start + i)) shape ∙ slice_get-map (λ (z : Cell). z.kind) x.cells (start + i) cell at_cell) in
      ap bytes_of_kind (ap (some_or part.kind) same ∙ kind_is)

  -- The code computes the address of the cell at an index.
  pub cell_is : {o start count a : ℕ} (i m : ℕ) (part : IsPartOf t o start count a) (kind : Kind) → m ≡ i → i < count → is_target (Some kind) (start + i) (cell_of (slice_get w.objects o) (start + i)) ≡ true
      → Points t o (start + i) (add_of a (scaled (bytes_of_kind kind) m))
  cell_is {o} {start} {count} {a} i m part kind index_is below leads =
      subst (λ (j : ℕ). Points t o (start + i) (add_of a (scaled (bytes_of_kind kind) j))) (sym index_is)
      (subst (λ (j : ℕ). Points t o (start + i) (add_of a (scaled j i))) (part_bytes i part kind below leads) (element_is i part below))

-- An access through a fat pointer changes only the first temporary of the access and one later slot.
pub elsewhere : (slots : Words) (t far x y m : ℕ) → Outside t (far + 1) m → put (put slots (t + far) x) t y m ≡ slots m
elsewhere slots t far x y m out =
    put_elsewhere (put slots (t + far) x) t y (far + 1) m (omega arith) out ∙ put-other slots (t + far) m x (λ same. beside out same)
  where
    beside : Outside t (far + 1) m → m ≡ t + far → ⊥
    beside (inl short) same = absurd (omega (arith, same, short))
    beside (inr long) same = absurd (omega (arith, same, long))

-- Scaling an index changes only the slot that receives the scaled index.
pub scaled_elsewhere : (slots : Words) (t x m : ℕ) → Outside t 4 m → put slots (t + 3) x m ≡ slots m
scaled_elsewhere slots t x m (inl short) = put-other slots (t + 3) m x (λ same. absurd (omega (arith, same, short)))
scaled_elsewhere slots t x m (inr long) = put-other slots (t + 3) m x (λ same. absurd (omega (arith, same, long)))

-- The tag of the exception that an access out of bounds raises, computed from the first word of the pointer.
abbrev pub failing_tag : (word : ℕ) → ℕ
failing_tag word = add_of (truth (not (word == 0))) null_exception

pub null_tag : (word : ℕ) → word ≡ 0 → failing_tag word ≡ null_exception
null_tag word is_zero = ap (λ (b : Bool). add_of (truth (not b)) null_exception) (eq-eqb word 0 is_zero)

pub other_tag : (word : ℕ) → word ≢ 0 → failing_tag word ≡ array_bounds
other_tag word some = ap (λ (b : Bool). add_of (truth (not b)) null_exception) (ne_eqb word 0 some)

module _ (source : Program) where
  -- An instruction scales the index to a number of bytes in a slot.
  pub scales : (bytes x m : ℕ) (c : Configuration) (choice : Choice)
      → performed (lower_program source) choice c (scale_of bytes x m) ≡ plain.Running (at (with_slots c (put c.active.slots x (scaled bytes (c.active.slots m)))) (c.active.next + 1))
  scales bytes x m c choice = by (bytes == 4) (bytes == 1)
    where
      by : (narrow one : Bool)
          → performed (lower_program source) choice c
          (if narrow then instructions.Binary plain_binary.ShiftLeft x (operands.Slot m) (operands.Word 2) else if one then instructions.Move x (operands.Slot m) else instructions.Binary plain_binary.Multiply x (operands.Slot m) (operands.Word 12))
          ≡ plain.Running
          (at (with_slots c (put c.active.slots x (if narrow then shl_of (c.active.slots m) 2 else if one then c.active.slots m else mul_of (c.active.slots m) 12))) (c.active.next + 1))
      by true one = refl
      by false true = refl
      by false false = refl
