-- An instruction has the same effect in two programs whose functions return equal numbers of results and take the addresses of
-- the same slots.
use Rattle.std.proofs.Common.{◌≡◌, ℕ, suc, ◌+◌, ◌*◌, ◌-◌, ◌/◌, ◌%◌, Bool, ◌&&◌, ◌||◌, List, [], ◌∷◌, length, Option, Some, None, slice_get, refl, ap, ◌∙◌, arith}
use Rattle.std.specs.Prelude.{◌==◌, if◌then◌else◌}
use Rattle.cyc_words.specs.Word.{add_of}
use Rattle.cyc_words.specs.Bytes.{with_byte, word_of}
use Rattle.cyc_plain.specs.declared.instruction.Instruction.{Instruction}
use Rattle.cyc_plain.specs.declared.instruction.Instruction.TheVariants as instructions
use Rattle.cyc_plain.specs.inside.Program.{Program, routine_at}
use Rattle.cyc_plain.specs.inside.State.{Activation, Frame, Configuration, Running}
use Rattle.cyc_plain.specs.inside.Memory.{pins, is_pinned, global_at, slot_at, word_or, word_waiting, put_or, with_waiting, Range, OfGlobals, OfStore, OfSlots, range_of, word_in, memory_at, with_global, with_slot, with_word, with_memory}
use Rattle.cyc_plain.specs.inside.Step.{Choice, operand_word, returns, finishes, loads, saves, loads_byte, saves_byte, advanced, performed}

-- Two instruction sequences take the addresses of the same slots, if each two corresponding instructions of them do.
pub pinned_alike : (slot : ℕ) (code others : List Instruction) → length others ≡ length code
    → ((index : ℕ) (i : Instruction) → slice_get code index ≡ Some i → (j : Instruction) × (slice_get others index ≡ Some j) × (pins j slot ≡ pins i slot))
    → is_pinned others slot ≡ is_pinned code slot
pinned_alike slot [] [] long each = refl
pinned_alike slot [] (j ∷ others) long each = absurd (omega (arith, long))
pinned_alike slot (i ∷ code) [] long each = absurd (omega (arith, long))
pinned_alike slot (i ∷ code) (j ∷ others) long each =
    let (other, at, same) = each 0 i refl in
    let is : j ≡ other = let e : Some j ≡ Some other = at in cc in
    ap (λ (b : Bool). b || is_pinned others slot) (ap (λ (x : Instruction). pins x slot) is ∙ same)
    ∙ ap (λ (b : Bool). pins i slot || b) (pinned_alike slot code others (omega (arith, long)) (λ index x found. each (suc index) x found))

pub record DoAlike (program other : Program) : Type 0 where
  pub results : (function : ℕ) → (routine_at other function).results ≡ (routine_at program function).results
  pub pinned : (function slot : ℕ) → is_pinned (routine_at other function).code slot ≡ is_pinned (routine_at program function).code slot
  pub globals : other.globals ≡ program.globals

module _ (program other : Program) (alike : DoAlike program other) where
  -- ---- memory

  slot_same : (a : Activation) (address : ℕ) → slot_at other a address ≡ slot_at program a address
  slot_same a address =
      ap (λ (b : Bool). if a.base + 4 * ((address - a.base) / 4) == address && b then Some ((address - a.base) / 4) else None) (alike.pinned a.function ((address - a.base) / 4))

  global_same : (address : ℕ) → global_at other address ≡ global_at program address
  global_same address = ap (λ (globals : List ℕ). global_at (record program { globals = globals }) address) alike.globals

  waiting_same : (frames : List Frame) (address : ℕ) → word_waiting other frames address ≡ word_waiting program frames address
  waiting_same [] address = refl
  waiting_same (f ∷ frames) address =
      ap (λ (o : Option ℕ). word_or o f.caller.slots (word_waiting other frames address)) (slot_same f.caller address)
      ∙ ap (word_or (slot_at program f.caller address) f.caller.slots) (waiting_same frames address)

  with_waiting_same : (frames : List Frame) (address word : ℕ) → with_waiting other frames address word ≡ with_waiting program frames address word
  with_waiting_same [] address word = refl
  with_waiting_same (f ∷ frames) address word =
      ap (λ (o : Option ℕ). put_or o word f frames (with_waiting other frames address word)) (slot_same f.caller address)
      ∙ ap (put_or (slot_at program f.caller address) word f frames) (with_waiting_same frames address word)

  memory_same : (c : Configuration) (address : ℕ) → memory_at other c address ≡ memory_at program c address
  memory_same c address = go (range_of address)
    where
      go : (range : Range) → word_in other c address range ≡ word_in program c address range
      go OfGlobals = ap (λ (o : Option ℕ). word_or o c.globals None) (global_same address)
      go OfStore = refl
      go OfSlots =
          ap (λ (o : Option ℕ). word_or o c.active.slots (word_waiting other c.frames address)) (slot_same c.active address)
          ∙ ap (word_or (slot_at program c.active address) c.active.slots) (waiting_same c.frames address)

  written_same : (c : Configuration) (address word : ℕ) → with_memory other c address word ≡ with_memory program c address word
  written_same c address word = go (range_of address)
    where
      by_slot : (o : Option ℕ) → with_slot other c o address word ≡ with_slot program c o address word
      by_slot (Some number) = refl
      by_slot None = ap (λ (frames : List Frame). record c { frames = frames }) (with_waiting_same c.frames address word)

      go : (range : Range) → with_word other c address word range ≡ with_word program c address word range
      go OfGlobals = ap (λ (o : Option ℕ). with_global c o word) (global_same address)
      go OfStore = refl
      go OfSlots = ap (λ (o : Option ℕ). with_slot other c o address word) (slot_same c.active address) ∙ by_slot (slot_at program c.active address)

  -- ---- an instruction in the two programs

  saves_same : (c : Configuration) (address word : ℕ) (o : Option ℕ) → saves other c address word o ≡ saves program c address word o
  saves_same c address word None = refl
  saves_same c address word (Some old) = ap (λ (d : Configuration). Running (advanced d)) (written_same c address word)

  saves_byte_same : (c : Configuration) (address byte : ℕ) (o : Option ℕ) → saves_byte other c address byte o ≡ saves_byte program c address byte o
  saves_byte_same c address byte None = refl
  saves_byte_same c address byte (Some old) = ap (λ (d : Configuration). Running (advanced d)) (written_same c (word_of address) (with_byte old (address % 4) byte))

  pub either_performs : (choice : Choice) (c : Configuration) (i : Instruction) → performed other choice c i ≡ performed program choice c i
  either_performs choice c (instructions.Return value) = ap (λ (n : ℕ). returns c value n c.frames) (alike.results c.active.function)
  either_performs choice c (instructions.Finish value) = ap (λ (n : ℕ). finishes c value n c.active.handlers) (alike.results c.active.function)
  either_performs choice c (instructions.Load destination address offset) = ap (loads c destination) (memory_same c (add_of (operand_word c.active.slots address) offset))
  either_performs choice c (instructions.LoadByte destination address offset) =
      let a : ℕ = add_of (operand_word c.active.slots address) offset in ap (loads_byte c destination a) (memory_same c (word_of a))
  either_performs choice c (instructions.Store address offset source) =
      let a : ℕ = add_of (operand_word c.active.slots address) offset in
      let word : ℕ = operand_word c.active.slots source in
      ap (saves other c a word) (memory_same c a) ∙ saves_same c a word (memory_at program c a)
  either_performs choice c (instructions.StoreByte address offset source) =
      let a : ℕ = add_of (operand_word c.active.slots address) offset in
      let byte : ℕ = operand_word c.active.slots source % 256 in
      ap (saves_byte other c a byte) (memory_same c (word_of a)) ∙ saves_byte_same c a byte (memory_at program c (word_of a))
  either_performs choice c i = refl
