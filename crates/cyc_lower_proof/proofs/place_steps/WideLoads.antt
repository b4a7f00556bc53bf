-- This file reads a cell of three words, which holds a fat pointer, by three loads. If the slot of the address is also a
-- destination, the load into this slot is the last one.
use Rattle.std.proofs.Common.{◌≡◌, ◌≢◌, ◌⊎◌, ℕ, ◌+◌, ◌*◌, ◌<◌, ◌≤◌, List, [], ◌∷◌, length, Some, refl, sym, ap, ◌∙◌, arith, inl, inr, Option}
use Rattle.cyc_words.specs.Word.{add_of}
use Rattle.cyc_types.specs.declared.typed.Kind.TheVariants as kinds
use Rattle.cyc_types.specs.TypedTrees.{Program}
use Rattle.cyc_plain.specs.declared.instruction.Operand.TheVariants as operands
use Rattle.cyc_plain.specs.declared.instruction.Instruction.TheVariants as instructions
use Rattle.cyc_plain.specs.inside.State as plain
use Rattle.cyc_plain.specs.inside.State.{Words, Configuration}
use Rattle.cyc_plain.specs.inside.Step.{Choice, at, with_slots, loads, performed}
use Rattle.cyc_plain.proofs.SlotLaws.{put-other, put-same}
use Rattle.cyc_plain.specs.inside.Straight.{At}
use Rattle.cyc_meaning.specs.Values.{Value}
use Rattle.cyc_memory_relation.specs.inside.Tables.{Tables}
use Rattle.cyc_memory_relation.specs.inside.Words.{Is}
use Rattle.cyc_memory_relation.proofs.Pointers.{Is-put_three}
use Rattle.cyc_lower_proof.specs.inside.Slots.{slot_of}
use Rattle.cyc_lower_proof.specs.inside.Lowering.{lower_program}
use Rattle.cyc_lower_proof.proofs.slots.Widths.{Outside, HasRoom}
use Rattle.cyc_lower_proof.proofs.slots.Slots.{slot-room, slot-apart}
use Rattle.cyc_lower_proof.proofs.relation.contents.Moves.{put_elsewhere}
use Rattle.cyc_lower_proof.proofs.place_steps.PlaceWords.{three_words_of}
use Rattle.cyc_lower_proof.proofs.relation.simulation.Stacks.{code_of, types_at, base_of, starts_at}
use Rattle.cyc_lower_proof.proofs.place_steps.CellReads.{IsOwn, AreSame}
use Rattle.cyc_lower_proof.proofs.relation.simulation.Paths.{Link, is_quiet, IsPath}
use Rattle.cyc_plain.specs.inside.Memory.{memory_at}
use Rattle.std.proofs.lemmas.Bool.{cases_eq}

-- Holds if a value of three words is moved to temporaries or to a local.
abbrev pub ComesTo : Program → (g d : ℕ) → Type 0
ComesTo source g d = (base_of source g ≤ d) ⊎ ((number : ℕ) × (number < length (types_at source g).locals) × (slot_of (starts_at source g) number ≡ d) × HasRoom (types_at source g) number kinds.Fat)

-- Holds if the slots `new` are the slots `old` after some of the three words have been loaded.
abbrev pub AreMixed : (d : ℕ) → (word : ℕ → ℕ) → (old new : Words) → Type 0
AreMixed d word old new = (m : ℕ) → (new m ≡ old m) ⊎ ((j : ℕ) × (j < 3) × (m ≡ d + j) × (new m ≡ word j))

-- Loading words into slots changes no word that is yet to be loaded. The slots of a local are loaded into other slots, or each slot is
-- loaded into itself.
pub mixed_same : (source : Program) (g d : ℕ) (word : ℕ → ℕ) (here : Option ℕ) (old new : Words) → IsOwn source g kinds.Fat here → ((slot j : ℕ) → here ≡ Some slot → word j ≡ old (slot + j)) → ComesTo source g d
    → AreMixed d word old new → AreSame here 3 old new
mixed_same source g d word here old new own stays comes mixed slot j is below = elim (mixed (slot + j)) [
  | inl same ↦ same
  | inr (i, few, there, new_is) ↦
      let (number, first, inside, room) = own slot is in
      elim comes [
        | inl high ↦ absurd (omega (arith, high, there, below, first, slot-room (types_at source g) number inside, room))
        | inr (other, around, start, wide) ↦ elim (cases_eq other number) [
          | inl same ↦
              let begins : d ≡ slot = sym start ∙ (ap (slot_of (starts_at source g)) same ∙ first) in
              let at : i ≡ j = omega (arith, there, begins) in
              new_is ∙ (ap word at ∙ stays slot j is)
          | inr apart ↦ absurd (elim (slot-apart (types_at source g) other number around inside apart) [
            | inl before ↦ omega (arith, before, start, wide, there, first, few)
            | inr following ↦ omega (arith, following, start, room, there, first, below)
          ])
        ]
      ]
]

-- Three words are loaded into the slots from d on, through the address in slot s, which may be the first destination slot.
module _ (source : Program) (t : Tables) (c : Configuration) (d s : ℕ) (apart : (s ≤ d) ⊎ (d + 3 ≤ s)) (v : Value) (word : ℕ → ℕ)
    (there : (slots : Words) (next j : ℕ) → AreMixed d word c.active.slots slots → j < 3 → memory_at (lower_program source) (at (with_slots c slots) next) (add_of (c.active.slots s) (4 * j)) ≡ Some (word j))
    (is : Is t kinds.Fat v word 0) where
  abbrev address : ℕ
  address = c.active.slots s

  abbrev third_in : Words
  third_in = plain.put c.active.slots (d + 2) (word 2)

  abbrev two_in : Words
  two_in = plain.put third_in (d + 1) (word 1)

  abbrev pub all_in : Words
  all_in = plain.put two_in d (word 0)

  abbrev with_words : Words → (next : ℕ) → Configuration
  with_words slots next = at (with_slots c slots) next

  loads_word : (slots : Words) (i x more j : ℕ) (choice : Choice) → AreMixed d word c.active.slots slots → j < 3 → slots s ≡ address → more ≡ 4 * j
      → performed (lower_program source) choice (with_words slots i) (instructions.Load x (operands.Slot s) more) ≡ plain.Running (with_words (plain.put slots x (word j)) (i + 1))
  loads_word slots i x more j choice mixed below same offset_is =
      ap (λ (y : ℕ). loads (with_words slots i) x (memory_at (lower_program source) (with_words slots i) (add_of y more))) same
      ∙ (ap (λ (y : ℕ). loads (with_words slots i) x (memory_at (lower_program source) (with_words slots i) (add_of address y))) offset_is
      ∙ ap (loads (with_words slots i) x) (there slots i j mixed below))

  abbrev pub load_links : List Link
  load_links =
      record { instruction = instructions.Load (d + 2) (operands.Slot s) 8; following = with_words third_in (c.active.next + 1) }
      ∷ record { instruction = instructions.Load (d + 1) (operands.Slot s) 4; following = with_words two_in (c.active.next + 1 + 1) }
      ∷ []

  none_mixed : AreMixed d word c.active.slots c.active.slots
  none_mixed m = inl refl

  mixed_more : (slots : Words) (j : ℕ) → j < 3 → AreMixed d word c.active.slots slots → AreMixed d word c.active.slots (plain.put slots (d + j) (word j))
  mixed_more slots j below mixed m = elim (cases_eq m (d + j)) [
    | inl same ↦ inr (j, below, same, ap (plain.put slots (d + j) (word j)) same ∙ put-same slots (d + j) (word j))
    | inr apart ↦ elim (mixed m) [
      | inl old ↦ inl (put-other slots (d + j) m (word j) apart ∙ old)
      | inr (i, few, there, is) ↦ inr (i, few, there, put-other slots (d + j) m (word j) apart ∙ is)
    ]
  ]

  third_mixed : AreMixed d word c.active.slots third_in
  third_mixed = mixed_more c.active.slots 2 (omega arith) none_mixed

  two_mixed : AreMixed d word c.active.slots two_in
  two_mixed = mixed_more third_in 1 (omega arith) third_mixed

  -- The slot of the address is not one of the last two destination slots.
  other : (i : ℕ) → 0 < i → i < 3 → s ≢ d + i
  other i some few same = elim apart [
    | inl before ↦ omega (arith, before, same, some)
    | inr following ↦ omega (arith, following, same, few)
  ]

  third_stays : third_in s ≡ address
  third_stays = put-other c.active.slots (d + 2) s (word 2) (other 2 (omega arith) (omega arith))

  two_stay : two_in s ≡ address
  two_stay = put-other third_in (d + 1) s (word 1) (other 1 (omega arith) (omega arith)) ∙ third_stays

  pub load_path : At (code_of source c.active.function) c.active.next (instructions.Load (d + 2) (operands.Slot s) 8)
      → At (code_of source c.active.function) (c.active.next + 1) (instructions.Load (d + 1) (operands.Slot s) 4) → IsPath source c load_links
  load_path at_first at_second = (
    at_first,
    (λ choice. loads_word c.active.slots c.active.next (d + 2) 8 2 choice none_mixed (omega arith) refl refl),
    omega arith,
    is_quiet c (with_words third_in (c.active.next + 1)).active,
    (at_second, (λ choice. loads_word third_in (c.active.next + 1) (d + 1) 4 1 choice third_mixed (omega arith) third_stays refl), omega arith, is_quiet (with_words third_in (c.active.next + 1)) (with_words two_in (c.active.next + 1 + 1)).active, tt),
  )

  pub load_last : (choice : Choice) → performed (lower_program source) choice (with_words two_in (c.active.next + 1 + 1)) (instructions.Load d (operands.Slot s) 0) ≡ plain.Running (at (with_slots c all_in) (c.active.next + 1 + 1 + 1))
  load_last choice = loads_word two_in (c.active.next + 1 + 1) d 0 0 choice two_mixed (omega arith) two_stay refl

  pub loaded_is : Is t kinds.Fat v all_in d
  loaded_is = Is-put_three t v c.active.slots d (word 0) (word 1) (word 2) (three_words_of t v word 0 is)

  pub loaded_elsewhere : (m : ℕ) → Outside d 3 m → all_in m ≡ c.active.slots m
  loaded_elsewhere m out =
      put_elsewhere two_in d (word 0) 3 m (omega arith) out
      ∙ (put-other third_in (d + 1) m (word 1) (λ same. beside 1 (omega arith) out same) ∙ put-other c.active.slots (d + 2) m (word 2) (λ same. beside 2 (omega arith) out same))
    where
      beside : (i : ℕ) → i < 3 → Outside d 3 m → m ≡ d + i → ⊥
      beside i below (inl short) same = absurd (omega (arith, same, short))
      beside i below (inr long) same = absurd (omega (arith, same, long, below))
