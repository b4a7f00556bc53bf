-- This file accesses words by their addresses: the words of cells of objects are in the address range of the heap store, and other words
-- are words of globals. Load and store instructions through these addresses access the heap store and the globals.
use Rattle.std.proofs.Common.{◌≡◌, ℕ, ◌+◌, ◌*◌, ◌/◌, ◌<◌, length, Option, None, Some, ap, subst, ◌∙◌, arith, false, ◌%◌}
use Rattle.std.specs.Prelude.{slice_get, nat_lt}
use Rattle.std.proofs.lemmas.Bool.{lt-ltb}
use Rattle.cyc_types.specs.TypedTrees.{Program}
use Rattle.cyc_store.specs.State.{StoreState, word_at, saved}
use Rattle.cyc_store.specs.declared.range.TheConstants.{STORE_BASE}
use Rattle.cyc_plain.specs.declared.limits.TheConstants.{GLOBALS_BASE}
use Rattle.cyc_plain.specs.inside.State as plain
use Rattle.cyc_plain.specs.inside.State.{put, Configuration}
use Rattle.cyc_plain.specs.inside.Step.{advanced, saves, saves_byte}
use Rattle.cyc_plain.specs.inside.Memory.{global_at, word_or, word_in, with_global, with_word, memory_at, with_memory}
use Rattle.cyc_plain.proofs.MemoryLaws.{store_word, stored-there, memory-stored, written-stored, numbered-there, range-globals, stored-word}
use Rattle.cyc_meaning.specs.Values.{words_of_kind, bytes_of_kind, Cell, is_kind}
use Rattle.cyc_meaning.specs.State.{Object, World}
use Rattle.cyc_memory_relation.specs.inside.Tables.{Tables}
use Rattle.cyc_memory_relation.specs.inside.Words.{Points}
use Rattle.cyc_memory_relation.specs.inside.Related.{Alive, Related}
use Rattle.cyc_memory_relation.proofs.Cells.{cell-aligned, cell-inside, cell-live, saved-is}
use Rattle.cyc_lower_proof.specs.inside.Lowering.{lower_program}
use Rattle.cyc_lower_proof.proofs.place_steps.KindWords.{saved_at}
use Rattle.cyc_words.specs.Bytes.{word_of, with_byte}
use Rattle.cyc_words.proofs.Numbers.{remainder_of_byte}
use Rattle.cyc_memory_relation.proofs.Chars.{wide-aligned, wide-bytes}
use Rattle.cyc_memory_relation.proofs.Bytes.{put_byte}
use Rattle.cyc_memory_relation.proofs.Places.{bytes-some}
use Rattle.cyc_types.specs.declared.typed.Kind.TheVariants as kinds

-- The words of a live cell of the heap store exist at the addresses that the code computes.
module _ {t : Tables} {w : World} {s : StoreState} (related : Related t w s) {o h k p : ℕ} {x : Object} {c : Cell}
    (alive : Alive t w o h x) (points : Points t o k p) (at : slice_get x.cells k ≡ Some c) where
  pub cell-stored : is_kind c.kind kinds.Char ≡ false → (j : ℕ) → j < words_of_kind c.kind → store_word s (p + 4 * j) ≡ Some (s.memory (p + 4 * j))
  cell-stored wide j below =
      let byte : 4 * j < bytes_of_kind c.kind = omega (arith, below, wide-bytes c.kind wide) in
      let (low, high) = cell-inside related alive points at (4 * j) byte in
      let word : 4 * ((p + 4 * j) / 4) ≡ p + 4 * j = omega (arith, wide-aligned c.kind p wide (cell-aligned related alive points at)) in
      stored-there s (p + 4 * j) low high ∙ subst (λ n. word_at s n ≡ Some (s.memory n)) word (cell-live related alive points at (4 * j) byte)

  -- The heap store has the word that contains the byte of a char.
  pub byte-stored : store_word s (word_of p) ≡ Some (s.memory (word_of p))
  byte-stored =
      let first : p + 0 ≡ p = omega arith in
      let (low, high) = cell-inside related alive points at 0 (bytes-some c.kind) in
      stored-there s (word_of p) (omega (arith, low)) (omega (arith, high))
      ∙ subst (λ n. word_at s (word_of n) ≡ Some (s.memory (word_of n))) first (cell-live related alive points at 0 (bytes-some c.kind))

-- The configuration after a word of the heap store is written.
abbrev pub with_saved : Configuration → (address word : ℕ) → Configuration
with_saved c address word = record c { store = saved c.store address word }

pub saves-stored : (source : Program) (c : Configuration) (address word old : ℕ) → store_word c.store address ≡ Some old
    → saves (lower_program source) c address word (memory_at (lower_program source) c address) ≡ plain.Running (advanced (with_saved c address word))
saves-stored source c address word old there =
    ap (saves (lower_program source) c address word) (memory-stored (lower_program source) c address old there)
    ∙ ap (λ (d : Configuration). plain.Running (advanced d)) (written-stored (lower_program source) c address old there word)

-- The state after a byte of the heap store is written.
pub saves-stored_byte : (source : Program) (c : Configuration) (address byte : ℕ) → byte < 256 → store_word c.store (word_of address) ≡ Some (c.store.memory (word_of address))
    → saved_at (lower_program source) kinds.Char c address byte ≡ plain.Running (advanced (record c { store = record c.store { memory = put_byte c.store.memory address byte } }))
saves-stored_byte source c address byte small there =
    let old : ℕ = c.store.memory (word_of address) in
    let new : ℕ = with_byte old (address % 4) byte in
    ap (λ (n : ℕ). saves_byte (lower_program source) c address n (memory_at (lower_program source) c (word_of address))) (remainder_of_byte byte small)
    ∙ ap (saves_byte (lower_program source) c address byte) (memory-stored (lower_program source) c (word_of address) old there)
    ∙ ap (λ (d : Configuration). plain.Running (advanced d)) (written-stored (lower_program source) c (word_of address) old there new)
    ∙ ap (λ (s : StoreState). plain.Running (advanced (record c { store = s }))) (saved-is c.store (word_of address) new old (stored-word c.store (word_of address) old there))

-- The address of a word of the globals, and the loads and stores through this address.
module _ (source : Program) (c : Configuration) (number : ℕ) (few : number < length (lower_program source).globals) (low : GLOBALS_BASE + 4 * number < STORE_BASE) where
  global-there : global_at (lower_program source) (GLOBALS_BASE + 4 * number) ≡ Some number
  global-there = numbered-there (λ (n : ℕ). nat_lt n (length (lower_program source).globals)) GLOBALS_BASE number (lt-ltb number (length (lower_program source).globals) few)

  pub global-found : memory_at (lower_program source) c (GLOBALS_BASE + 4 * number) ≡ Some (c.globals number)
  global-found =
      ap (word_in (lower_program source) c (GLOBALS_BASE + 4 * number)) (range-globals (GLOBALS_BASE + 4 * number) low)
      ∙ ap (λ (o : Option ℕ). word_or o c.globals None) global-there

  global-written : (word : ℕ) → with_memory (lower_program source) c (GLOBALS_BASE + 4 * number) word ≡ record c { globals = put c.globals number word }
  global-written word =
      ap (with_word (lower_program source) c (GLOBALS_BASE + 4 * number) word) (range-globals (GLOBALS_BASE + 4 * number) low)
      ∙ ap (λ (o : Option ℕ). with_global c o word) global-there

  pub saves-global : (word : ℕ) → saves (lower_program source) c (GLOBALS_BASE + 4 * number) word (memory_at (lower_program source) c (GLOBALS_BASE + 4 * number))
      ≡ plain.Running (advanced (record c { globals = put c.globals number word }))
  saves-global word =
      ap (saves (lower_program source) c (GLOBALS_BASE + 4 * number) word) global-found
      ∙ ap (λ (d : Configuration). plain.Running (advanced d)) (global-written word)
