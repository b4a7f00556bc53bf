-- This file defines the code that allocates objects and arrays, frees them, and swaps the values stored in them.
use Rattle.std.specs.Prelude.{ℕ, zero, suc, ◌+◌, max, ◌==◌, if◌then◌else◌, List, [], ◌∷◌, ◌++◌, length, ◌*◌}
use Rattle.cyc_types.specs.declared.typed.Kind.{Kind}
use Rattle.cyc_types.specs.declared.typed.Kind.TheVariants as kinds
use Rattle.cyc_types.specs.TypedTrees.{Side, VariableSide, CellSide}
use Rattle.cyc_plain.specs.declared.instruction.UnaryOperator.TheVariants as plain_unary
use Rattle.cyc_plain.specs.declared.instruction.BinaryOperator.TheVariants as plain_binary
use Rattle.cyc_plain.specs.declared.instruction.Comparison.TheVariants as comparisons
use Rattle.cyc_plain.specs.declared.instruction.Operand.{Operand}
use Rattle.cyc_plain.specs.declared.instruction.Operand.TheVariants as operands
use Rattle.cyc_plain.specs.declared.instruction.Request.TheVariants as requests
use Rattle.cyc_plain.specs.declared.instruction.Instruction.{Instruction}
use Rattle.cyc_plain.specs.declared.instruction.Instruction.TheVariants as instructions
use Rattle.cyc_meaning.specs.Values.{words_of_kind, bytes_of_kind, begins, following, bytes_from, words_for}
use Rattle.cyc_meaning.specs.Operators.{array_size}
use Rattle.cyc_lower_proof.specs.inside.Slots.{Starts}
use Rattle.cyc_lower_proof.specs.declared.condition.Condition.{Condition}
use Rattle.cyc_lower_proof.specs.inside.ValueCode.{jump_if_zero, guard_code, scale_of, store_of, load_of, copy_code}

-- ---- new objects

-- Stores the words of a value from consecutive slots to memory, at an address plus an offset.
abbrev pub stores_code : Kind → (many address offset slot : ℕ) → List Instruction
stores_code kind zero address offset slot = []
stores_code kind (suc many) address offset slot =
    store_of kind (operands.Slot address) offset (operands.Slot slot) ∷ stores_code kind many address (offset + 4) (suc slot)

-- Stores a value of a kind in the cell whose address is in a slot. An operand that is a constant has one word.
abbrev pub saved_code : Kind → (address : ℕ) → Operand → List Instruction
saved_code kind address (operands.Slot n) = stores_code kind (words_of_kind kind) address 0 n
saved_code kind address (operands.Word n) = store_of kind (operands.Slot address) 0 (operands.Word n) ∷ []

-- Stores a value in a cell. The address of the cell is computed first and stays in a slot while the value is evaluated.
abbrev pub stored_by : (address value : List Instruction) → Kind → (slot : ℕ) → Operand → List Instruction
stored_by address value kind slot o = address ++ (value ++ saved_code kind slot o)

-- the number of slots of values of these kinds
abbrev pub slots_of_kinds : List Kind → ℕ
slots_of_kinds [] = 0
slots_of_kinds (kind ∷ ks) = words_of_kind kind + slots_of_kinds ks

-- Stores values, whose representation kinds (int, char, pointer, ..) are listed in `ks`, from consecutive slots to the cells of the
-- object whose address is in a slot. Each cell begins at the first offset from `at` on that is aligned for its kind.
abbrev pub cells_code : List Kind → (address at slot : ℕ) → List Instruction
cells_code [] address at slot = []
cells_code (kind ∷ ks) address at slot =
    stores_code kind (words_of_kind kind) address (begins kind at) slot ++ cells_code ks address (following kind at) (slot + words_of_kind kind)

-- Allocates a block in the region of a handle, with a cell for each representation kind (int, char, pointer, ..) in the list `ks`. The
-- code then stores the values in the slots from t on into the block. The address of the block is in the slot after these values, and is
-- then moved to slot d.
abbrev pub object_code : (handle : Operand) → List Kind → (d t : ℕ) → List Instruction
object_code handle ks d t =
    instructions.Ask (requests.Allocate (t + slots_of_kinds ks) handle (operands.Word (max 1 (words_for (bytes_from 0 ks)))))
    ∷ cells_code ks (t + slots_of_kinds ks) 0 t
    ++ instructions.Move d (operands.Slot (t + slots_of_kinds ks))
    ∷ []

-- ---- arrays

-- The largest number of elements of an array, for elements of 4, 1 or 12 bytes: as many as fit into 1000 words.
abbrev pub most_elements : (bytes : ℕ) → ℕ
most_elements bytes = if bytes == 4 then 1000 else if bytes == 1 then 4000 else 333

-- Checks the length of a new array, which is in slot t, and moves it to slot x. The limit of the length depends on the size
-- of the elements. Sets the index in slot y to 0.
abbrev pub measured_code : Starts → Kind → (x y t : ℕ) → List Instruction
measured_code starts kind x y t =
    guard_code starts array_size comparisons.GreaterOrEqualUnsigned (operands.Slot t) (operands.Word (most_elements (bytes_of_kind kind) + 1))
    ++ instructions.Move x (operands.Slot t)
    ∷ instructions.Move y (operands.Word 0)
    ∷ []

-- Replaces a number of elements in slot t by the number of machine words that these elements take. A word of the block contains four chars.
abbrev pub sized_code : Kind → (t : ℕ) → List Instruction
sized_code kinds.Char t =
    instructions.Binary plain_binary.Add t (operands.Slot t) (operands.Word 3)
    ∷ instructions.Binary plain_binary.ShiftRight t (operands.Slot t) (operands.Word 2)
    ∷ []
sized_code kind t = instructions.Binary plain_binary.Multiply t (operands.Slot t) (operands.Word (words_of_kind kind)) ∷ []

-- Allocates a block for as many elements as slot t counts, of at least one word. The number of words of the block is in slot s, and the
-- address of the block in slot t.
abbrev pub asked_code : (handle : Operand) → Kind → (s t : ℕ) → List Instruction
asked_code handle kind s t =
    sized_code kind t
    ++ instructions.Unary plain_unary.Not s (operands.Slot t)
    ∷ instructions.Binary plain_binary.Add s (operands.Slot s) (operands.Slot t)
    ∷ instructions.Ask (requests.Allocate t handle (operands.Slot s))
    ∷ []

-- Begins a new array whose length is in slot t: afterwards slot t contains the array's address, and the next two slots contain its
-- length and its index.
abbrev pub begun_code : Starts → (handle : Operand) → Kind → (t : ℕ) → List Instruction
begun_code starts handle kind t = measured_code starts kind (t + 1) (t + 2) t ++ asked_code handle kind (t + 3) t

-- Stores the element in slot s and the following slots in its cell of the array whose address is in slot t. The index in slot y
-- is incremented; slot z receives the address of the cell.
abbrev pub written_code : Kind → (head y s z t : ℕ) → List Instruction
written_code kind head y s z t =
    scale_of (bytes_of_kind kind) z y
    ∷ instructions.Binary plain_binary.Add z (operands.Slot t) (operands.Slot z)
    ∷ stores_code kind (words_of_kind kind) z 0 s
    ++ instructions.Binary plain_binary.Add y (operands.Slot y) (operands.Word 1)
    ∷ instructions.Jump head
    ∷ []

abbrev pub filled_code : Kind → (head t : ℕ) → List Instruction
filled_code kind head t = written_code kind head (t + 2) (t + 3) (t + 3 + words_of_kind kind) t

-- Resets the index in slot y to 0 after the last element, and moves the pointer from slot t to slot d.
abbrev pub restarted_code : (d y t : ℕ) → List Instruction
restarted_code d y t = instructions.Move y (operands.Word 0) ∷ copy_code 3 (operands.Slot t) d

abbrev pub ended_code : (d t : ℕ) → List Instruction
ended_code d t = restarted_code d (t + 2) t

-- The condition that the index in slot y is past the last element, given the length in slot x.
abbrev pub last_element : (x y : ℕ) → Condition
last_element x y = record { failing = comparisons.Equal; left = operands.Slot y; right = operands.Slot x }

-- The code that fills the elements of an array; the code of each element comes after the loop head.
abbrev pub elements_code : Kind → (element : List Instruction) → (head d t : ℕ) → List Instruction
elements_code kind element head d t =
    instructions.Branch comparisons.Equal (operands.Slot (t + 2)) (operands.Slot (t + 1)) (head + 1 + length (element ++ filled_code kind head t))
    ∷ ((element ++ filled_code kind head t) ++ ended_code d t)

-- The code of a new array; the code of the length is at position p, and the code of an element is emitted for its own position.
abbrev pub array_code : Starts → Kind → (count : List Instruction) → (element : ℕ → List Instruction) → (handle : Operand) → (p d t : ℕ) → List Instruction
array_code starts kind count element handle p d t =
    count
    ++ (begun_code starts handle kind t
    ++ elements_code kind (element (p + length count + length (begun_code starts handle kind t) + 1)) (p + length count + length (begun_code starts handle kind t)) d t)

-- frees the unique block at an address, unless the address is 0
abbrev pub free_code : Operand → (p : ℕ) → List Instruction
free_code o p = jump_if_zero o (p + 2) ∷ instructions.Ask (requests.Free o) ∷ []

-- ---- swaps

-- Loads one word of a cell (or the byte of a char) from memory into a slot, given the word's index in
-- the cell and the slot with the cell's address.
abbrev pub load_at : Kind → (address : ℕ) → (index slot : ℕ) → Instruction
load_at kind address index slot = load_of kind slot (operands.Slot address) (4 * index)

-- The slot for the address of a swap's right operand, after the slot for the address of the left operand.
abbrev pub right_slot : (left : Side) → (t : ℕ) → ℕ
right_slot (VariableSide l ty) t = t
right_slot (CellSide x) t = t + 1
