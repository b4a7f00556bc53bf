-- This file is about the words of cells, by the kind of their values. A char in a cell is a byte with its own load and store
-- instructions. Values of other kinds are whole words. A char in a variable is the last byte of a word below 256. Hence a load of this
-- byte yields the word, and a store of the byte replaces the word.
use Rattle.std.proofs.Common.{◌≡◌, ℕ, ◌+◌, ◌*◌, ◌%◌, ◌<◌, true, false, List, [], ◌∷◌, Option, Some, None, slice_get, refl, sym, ap, subst, ◌∙◌, arith}
use Rattle.std.specs.Prelude.{option_map}
use Rattle.cyc_words.specs.Word.{add_of}
use Rattle.cyc_words.specs.Bytes.{byte_in, with_byte, word_of}
use Rattle.cyc_words.proofs.Numbers.{plus_zero, plus_zero_plus, last_byte_of_word, remainder_of_byte}
use Rattle.cyc_types.specs.declared.typed.Kind.{Kind}
use Rattle.cyc_types.specs.declared.typed.Kind.TheVariants as kinds
use Rattle.cyc_plain.specs.declared.instruction.Operand.{Operand}
use Rattle.cyc_plain.specs.inside.Program.{Program}
use Rattle.cyc_plain.specs.inside.State as plain
use Rattle.cyc_plain.specs.inside.State.{Configuration, State, Frame}
use Rattle.cyc_plain.specs.inside.Step.{Choice, operand_word, advanced, loads, loads_byte, saves, saves_byte, performed}
use Rattle.cyc_plain.specs.inside.Memory.{memory_at, with_memory, AreBelow}
use Rattle.cyc_plain.proofs.MemoryLaws.{below-there}
use Rattle.cyc_meaning.specs.Values.{Value, is_kind, words_of_kind}
use Rattle.cyc_memory_relation.specs.inside.Tables.{Tables}
use Rattle.cyc_memory_relation.proofs.Chars.{char-small, last-word, last-loaded, last-stored}
use Rattle.cyc_lower_proof.specs.inside.ValueCode.{load_of, store_of, variable_bytes}
use Rattle.cyc_lower_proof.proofs.relation.contents.HeldValues.{IsWord}

-- The word that a load yields if the address is valid: one byte for a value of type char, and a machine word for any other value.
abbrev pub loaded_at : Program → Kind → Configuration → (address : ℕ) → Option ℕ
loaded_at program kinds.Char c address = option_map (λ (word : ℕ). byte_in word (address % 4)) (memory_at program c (word_of address))
loaded_at program kind c address = memory_at program c address

-- The state after a store instruction, which stores one byte for a value of type char and a machine word for any other value.
abbrev pub saved_at : Program → Kind → Configuration → (address word : ℕ) → State
saved_at program kinds.Char c address word = saves_byte program c address (word % 256) (memory_at program c (word_of address))
saved_at program kind c address word = saves program c address word (memory_at program c address)

pub loads_by : (program : Program) (choice : Choice) (c : Configuration) (kind : Kind) (d : ℕ) (o : Operand) (bytes : ℕ)
    → performed program choice c (load_of kind d o bytes) ≡ loads c d (loaded_at program kind c (add_of (operand_word c.active.slots o) bytes))
loads_by program choice c kinds.Char d o bytes = go (memory_at program c (word_of address))
  where
    address : ℕ
    address = add_of (operand_word c.active.slots o) bytes

    go : (found : Option ℕ) → loads_byte c d address found ≡ loads c d (option_map (λ (word : ℕ). byte_in word (address % 4)) found)
    go None = refl
    go (Some word) = refl
loads_by program choice c kind d o bytes = refl

pub saves_by : (program : Program) (choice : Choice) (c : Configuration) (kind : Kind) (address : Operand) (bytes : ℕ) (o : Operand)
    → performed program choice c (store_of kind address bytes o) ≡ saved_at program kind c (add_of (operand_word c.active.slots address) bytes) (operand_word c.active.slots o)
saves_by program choice c kinds.Char address bytes o = refl
saves_by program choice c kind address bytes o = refl

-- ---- cells of whole words

pub loaded_wide : (program : Program) (kind : Kind) (c : Configuration) (address : ℕ) → is_kind kind kinds.Char ≡ false → loaded_at program kind c address ≡ memory_at program c address
loaded_wide program kinds.Char c address wide = absurd (let f : true ≡ false = wide in cc)
loaded_wide program kind c address wide = refl

pub saved_wide : (program : Program) (kind : Kind) (c : Configuration) (address word : ℕ) → is_kind kind kinds.Char ≡ false
    → saved_at program kind c address word ≡ saves program c address word (memory_at program c address)
saved_wide program kinds.Char c address word wide = absurd (let f : true ≡ false = wide in cc)
saved_wide program kind c address word wide = refl

-- ---- variables

-- A load through the address of a variable (for a char, the address of the last byte) yields the same word as a load through
-- the address of the variable's first word.
pub loaded_variable : (program : Program) (kind : Kind) (c : Configuration) (start j word : ℕ) → start % 4 ≡ 0 → j < words_of_kind kind → (kind ≡ kinds.Char → word < 256)
    → memory_at program c (start + 4 * j) ≡ Some word → loaded_at program kind c (start + variable_bytes kind + 4 * j) ≡ Some word
loaded_variable program kinds.Char c start j word even below small there =
    let at : start + 3 + 4 * j ≡ start + 3 = omega (arith, below) in
    let first : start + 4 * j ≡ start = omega (arith, below) in
    ap (loaded_at program kinds.Char c) at
    ∙ ap (λ (n : ℕ). option_map (λ (w : ℕ). byte_in w ((start + 3) % 4)) (memory_at program c n)) (last-word start even ∙ sym first)
    ∙ ap (option_map (λ (w : ℕ). byte_in w ((start + 3) % 4))) there
    ∙ ap (λ (n : ℕ). Some (byte_in word n)) (last_byte_of_word start even)
    ∙ ap (λ (n : ℕ). Some n) (last-loaded word (small refl))
loaded_variable program kinds.Int c start j word even below small there = ap (memory_at program c) (plus_zero_plus start (4 * j)) ∙ there
loaded_variable program kinds.Nullable c start j word even below small there = ap (memory_at program c) (plus_zero_plus start (4 * j)) ∙ there
loaded_variable program kinds.NonNull c start j word even below small there = ap (memory_at program c) (plus_zero_plus start (4 * j)) ∙ there
loaded_variable program kinds.Fat c start j word even below small there = ap (memory_at program c) (plus_zero_plus start (4 * j)) ∙ there
loaded_variable program kinds.Handle c start j word even below small there = ap (memory_at program c) (plus_zero_plus start (4 * j)) ∙ there
loaded_variable program kinds.Key c start j word even below small there = ap (memory_at program c) (plus_zero_plus start (4 * j)) ∙ there

-- A store through the address of a variable (for a char, the address of the last byte) has the same effect as a store
-- through the address of the variable's first word.
pub saved_variable : (program : Program) (kind : Kind) (c : Configuration) (start word old : ℕ) → start % 4 ≡ 0 → (kind ≡ kinds.Char → (old < 256) × (word < 256))
    → memory_at program c start ≡ Some old → saved_at program kind c (start + variable_bytes kind) word ≡ saves program c start word (memory_at program c start)
saved_variable program kinds.Char c start word old even small there =
    let (low, byte) = small refl in
    ap (saves_byte program c (start + 3) (word % 256)) (ap (memory_at program c) (last-word start even) ∙ there)
    ∙ ap (λ (n : ℕ). plain.Running (advanced (with_memory program c n (with_byte old ((start + 3) % 4) (word % 256))))) (last-word start even)
    ∙ ap (λ (n : ℕ). plain.Running (advanced (with_memory program c start (with_byte old n (word % 256))))) (last_byte_of_word start even)
    ∙ ap (λ (n : ℕ). plain.Running (advanced (with_memory program c start n))) (last-stored old (word % 256) low ∙ remainder_of_byte word byte)
    ∙ sym (ap (saves program c start word) there)
saved_variable program kinds.Int c start word old even small there = ap (λ (n : ℕ). saves program c n word (memory_at program c n)) (plus_zero start)
saved_variable program kinds.Nullable c start word old even small there = ap (λ (n : ℕ). saves program c n word (memory_at program c n)) (plus_zero start)
saved_variable program kinds.NonNull c start word old even small there = ap (λ (n : ℕ). saves program c n word (memory_at program c n)) (plus_zero start)
saved_variable program kinds.Fat c start word old even small there = ap (λ (n : ℕ). saves program c n word (memory_at program c n)) (plus_zero start)
saved_variable program kinds.Handle c start word old even small there = ap (λ (n : ℕ). saves program c n word (memory_at program c n)) (plus_zero start)
saved_variable program kinds.Key c start word old even small there = ap (λ (n : ℕ). saves program c n word (memory_at program c n)) (plus_zero start)

-- A char is represented by one word below 256.
pub small_word : (t : Tables) (kind : Kind) (v : Value) (word : ℕ) → IsWord t kind v word → kind ≡ kinds.Char → word < 256
small_word t kind v word is same = char-small t v (λ (i : ℕ). word) 0 (subst (λ (k : Kind). IsWord t k v word) same is)

-- The slots of each call begin at an address that is a multiple of four bytes.
pub base_even : (program : Program) (function base : ℕ) (frames : List Frame) → AreBelow program function base frames → base % 4 ≡ 0
base_even program function base [] below = below.aligned
base_even program function base (f ∷ frames) (first, rest) = first.aligned

pub slot_even : (program : Program) (function base : ℕ) (frames : List Frame) (slot : ℕ) → AreBelow program function base frames → (base + 4 * slot) % 4 ≡ 0
slot_even program function base frames slot below = omega (arith, base_even program function base frames below)

pub waiting_even : (program : Program) (function base : ℕ) (frames : List Frame) (i : ℕ) (f : Frame) (slot : ℕ) → AreBelow program function base frames → slice_get frames i ≡ Some f
    → (f.caller.base + 4 * slot) % 4 ≡ 0
waiting_even program function base frames i f slot below at =
    let (others, there) = below-there program function base frames i f below at in
    slot_even program f.caller.function f.caller.base others slot there
