-- The effect of moving words from slots to slots one by one.
use Rattle.std.proofs.Common.{◌≡◌, ◌≢◌, ℕ, zero, suc, ◌+◌, ◌-◌, ◌*◌, ◌%◌, ◌<◌, ◌≤◌, Bool, true, false, List, [], ◌∷◌, ◌++◌, Option, Some, None, refl, sym, ap, subst, ◌∙◌, arith, inl, inr}
use Rattle.std.specs.Prelude.{if◌then◌else◌, nat_lt}
use Rattle.std.proofs.lemmas.Bool.{cases_lt, ne_eqb, and_cases, ltb-false}
use Rattle.cyc_registers.specs.inside.Bars.{is_crossing}
use Rattle.cyc_select.specs.declared.constants.TheConstants.{FIRST, FRAME}
use Rattle.cyc_machine_model.specs.declared.constants.TheConstants.{RETURN_ADDRESS}
use Rattle.cyc_machine_model.specs.State.{globals_length, words_per_call}
use Rattle.cyc_words.specs.Word.{IsWord}
use Rattle.cyc_isa.specs.declared.instr.Instr.{Instr}
use Rattle.cyc_isa.specs.Effect.{memory_address}
use Rattle.cyc_plain.specs.declared.instruction.Operand.TheVariants as operands
use Rattle.cyc_plain.specs.inside.Program.{Program, routine_at}
use Rattle.cyc_plain.specs.inside.State.{Words, put, copied, Configuration}
use Rattle.cyc_plain.specs.inside.WellFormed.{IsWellFormed}
use Rattle.cyc_plain.proofs.SlotLaws.{put-same, put-other, copied-inside, copied-below, copied-above}
use Rattle.cyc_frame.specs.inside.Frame.{Frame}
use Rattle.cyc_registers.specs.inside.Interference.{AreHomes}
use Rattle.cyc_frame.specs.inside.Layout.{AreFrames, frame_at}
use Rattle.cyc_select.specs.inside.Instructions.{slot_offset, store_slot}
use Rattle.cyc_select.specs.inside.Slots.{value_register, is_kept, made_in}
use Rattle.cyc_select.specs.inside.Operands.{load_code, operand_code, operand_register}
use Rattle.cyc_select.specs.inside.Selection.{move_to, moves}
use Rattle.cyc_select.proofs.values.Blocks.{lasting, Puts, Keeps, puts_keeps, safe_append}
use Rattle.cyc_select.proofs.values.Computing.{HeldIn, load_puts, operand_puts, first_scratch, first_aside, made_scratch}
use Rattle.cyc_select.proofs.relation.Standing.{under_way, Standing, slot_address, slot_cell, slot_word_is, standing_registers, standing_slot, standing_unkept}
use Rattle.cyc_select.proofs.relation.Values.{memory_kept, made_in_is}
use Rattle.cyc_select.proofs.effects.Views.{Contents, written}
use Rattle.cyc_select.proofs.effects.Sequences.{after_r, after_w, after_r-append, after_w-append, AreSafe}

-- ---- slots

-- Returns the slots after `count` words are moved one by one.
abbrev pub moved : Words → (destination source count : ℕ) → Words
moved x destination source zero = x
moved x destination source (suc count) = moved (put x destination (x source)) (suc destination) (suc source) count

-- `IsAhead` says that no move of a word overwrites a source slot that is still to be moved.
abbrev pub IsAhead : (destination source count : ℕ) → Type 0
IsAhead destination source count = (i j : ℕ) → i < j → j < count → source + j ≢ destination + i

pub is_ahead : (destination source count : ℕ) → is_crossing destination source count ≡ false → IsAhead destination source count
is_ahead destination source count apart i j before below same = elim (and_cases (nat_lt source destination) (nat_lt (destination - source) count) apart) [
  | inl not_after ↦ absurd (omega (arith, ltb-false source destination not_after, same, before))
  | inr far ↦ absurd (omega (arith, ltb-false (destination - source) count far, same, before, below))
]

ahead_after : (destination source count : ℕ) → IsAhead destination source (suc count) → IsAhead (suc destination) (suc source) count
ahead_after destination source count ahead i j before below same = ahead (suc i) (suc j) (omega (arith, before)) (omega (arith, below)) (omega (arith, same))

-- Moving one word leaves the words still to be moved unchanged.
next_same : (x : Words) (destination source count : ℕ) → IsAhead destination source (suc count) → (j : ℕ) → j < count
    → put x destination (x source) (suc source + j) ≡ x (source + suc j)
next_same x destination source count ahead j below =
    let there : suc source + j ≡ source + suc j = omega arith in
    ap (put x destination (x source)) there
    ∙ put-other x destination (source + suc j) (x source) (λ e. ahead 0 (suc j) (omega arith) (omega (arith, below)) (omega (arith, e)))

moved_aside : (x : Words) (destination source count number : ℕ) → number < destination → moved x destination source count number ≡ x number
moved_aside x destination source zero number below = refl
moved_aside x destination source (suc count) number below =
    moved_aside (put x destination (x source)) (suc destination) (suc source) count number (omega (arith, below))
    ∙ put-other x destination number (x source) (λ e. absurd (omega (arith, e, below)))

moved_above : (x : Words) (destination source count number : ℕ) → destination + count ≤ number → moved x destination source count number ≡ x number
moved_above x destination source zero number above = refl
moved_above x destination source (suc count) number above =
    moved_above (put x destination (x source)) (suc destination) (suc source) count number (omega (arith, above))
    ∙ put-other x destination number (x source) (λ e. absurd (omega (arith, e, above)))

moved_inside : (x : Words) (destination source count k : ℕ) → IsAhead destination source count → k < count → moved x destination source count (destination + k) ≡ x (source + k)
moved_inside x destination source zero k ahead below = absurd (omega (arith, below))
moved_inside x destination source (suc count) zero ahead below =
    let to : destination + 0 ≡ destination = omega arith in
    let from : source ≡ source + 0 = omega arith in
    ap (moved (put x destination (x source)) (suc destination) (suc source) count) to
    ∙ (moved_aside (put x destination (x source)) (suc destination) (suc source) count destination (omega arith)
    ∙ (put-same x destination (x source) ∙ ap x from))
moved_inside x destination source (suc count) (suc k) ahead below =
    let to : destination + suc k ≡ suc destination + k = omega arith in
    ap (moved (put x destination (x source)) (suc destination) (suc source) count) to
    ∙ (moved_inside (put x destination (x source)) (suc destination) (suc source) count k (ahead_after destination source count ahead) (omega (arith, below))
    ∙ next_same x destination source count ahead k (omega (arith, below)))

-- If no move overwrites a source still to be moved, moving the words one by one has the same result as copying them all at once.
pub moved_copied : (x : Words) (destination source count : ℕ) → IsAhead destination source count → (number : ℕ)
    → moved x destination source count number ≡ copied x source count x destination number
moved_copied x destination source count ahead number = elim (cases_lt number destination) [
  | inl below ↦ moved_aside x destination source count number below ∙ sym (copied-below x x source count destination number below)
  | inr from ↦ elim (cases_lt number (destination + count)) [
    | inl inside ↦
        let is : number ≡ destination + (number - destination) = omega (arith, from) in
        let within : number - destination < count = omega (arith, from, inside) in
        ap (moved x destination source count) is
        ∙ (moved_inside x destination source count (number - destination) ahead within
        ∙ (sym (copied-inside x x source count destination (number - destination) within) ∙ ap (copied x source count x destination) (sym is)))
    | inr above ↦
        moved_above x destination source count number (omega (arith, above)) ∙ sym (copied-above x x source count destination number (omega (arith, above)))
  ]
]

-- ---- lines of the moves

module _ (program : Program) (well : IsWellFormed program) (frames : List Frame) (fit : AreFrames program frames) (addresses : ℕ → ℕ) (pages calls : ℕ) (few : calls ≤ 4096)
    (c : Configuration) (base back : ℕ) (in_frame : Bool) (right : AreHomes program (routine_at program c.active.function) (frame_at frames c.active.function).saved (frame_at frames c.active.function).homes) where
  abbrev frame : Frame
  frame = frame_at frames c.active.function

  abbrev slots : ℕ
  slots = (routine_at program c.active.function).slots

  abbrev Safe : List Instr → (q : Words) (m : Contents) → Type 0
  Safe is q m = AreSafe globals_length (words_per_call * calls) is q m

  abbrev pub StandsWith : (q : Words) (m : Contents) (x : Words) → Type 0
  StandsWith q m x = Standing program frames addresses pages calls c q m base back (under_way in_frame) x

  -- `HasGiven` describes the effect of a block of instructions that writes a word to a slot.
  record HasGiven (is : List Instr) (destination word : ℕ) (q : Words) (m : Contents) (x : Words) : Type 0 where
    pub safe : AreSafe globals_length (words_per_call * calls) is q m
    pub standing : StandsWith (after_r is q m) (after_w is q m) (put x destination word)
    pub back_same : after_r is q m RETURN_ADDRESS ≡ q RETURN_ADDRESS
    pub lasts_same : lasting (after_r is q m) ≡ lasting q
    pub given : (k : ℕ) → value_register (frame_at frames c.active.function) destination ≡ Some k → after_r is q m k ≡ word
    pub others : (n : ℕ) → 6 ≤ n → n < 24 → (value_register (frame_at frames c.active.function) destination ≡ Some n → ⊥) → after_r is q m n ≡ q n

  -- Stores a register in the slot's word of the frame, if the slot's home includes memory.
  abbrev stored : Bool → (register destination : ℕ) → List Instr
  stored b register destination = if b then store_slot (frame_at frames c.active.function) register destination ∷ [] else []

  stored_registers : (b : Bool) (register destination : ℕ) (q : Words) (m : Contents) → after_r (stored b register destination) q m ≡ q
  stored_registers true register destination q m = refl
  stored_registers false register destination q m = refl

  module _ (q : Words) (m : Contents) (x : Words) (s : StandsWith q m x) (destination : ℕ) (below : destination < (routine_at program c.active.function).slots) where
    stored_safe : (b : Bool) (register : ℕ) → Safe (stored b register destination) q m
    stored_safe true register = (slot_cell program well frames fit addresses pages calls few c q m base back (under_way in_frame) x s destination below, tt)
    stored_safe false register = tt

    stored_stands : (b : Bool) (register word : ℕ) → is_kept (frame_at frames c.active.function) destination ≡ b → q (register % 32) ≡ word
        → StandsWith q (after_w (stored b register destination) q m) (put x destination word)
    stored_stands true register word kept result =
        let there = slot_address program well frames fit addresses pages calls few c q m base back (under_way in_frame) x s destination below in
        let puts : written m (memory_address (q FRAME) (slot_offset (frame_at frames c.active.function) destination)) (q (register % 32))
        ≡ written m (base + slot_offset (frame_at frames c.active.function) destination) word =
        ap (λ (a : ℕ). written m a (q (register % 32))) there ∙ ap (written m (base + slot_offset (frame_at frames c.active.function) destination)) result in
        subst (λ (y : Contents). StandsWith q y (put x destination word)) (sym puts)
        (standing_slot program well frames fit addresses pages calls few c q m base back (under_way in_frame) x s destination word below)
    stored_stands false register word kept result = standing_unkept program well frames fit addresses pages calls few c q m base back (under_way in_frame) x s destination word kept

  -- A block that computes a word in a register, followed by the store of this register if needed, writes the word to the slot.
  block_gives : (q : Words) (m : Contents) (x : Words) → StandsWith q m x → (destination : ℕ) → destination < (routine_at program c.active.function).slots
      → (is : List Instr) (register but word : ℕ) → Keeps globals_length (words_per_call * calls) is q m but → after_r is q m (register % 32) ≡ word
      → (b : Bool) → is_kept (frame_at frames c.active.function) destination ≡ b
      → ((k : ℕ) → value_register (frame_at frames c.active.function) destination ≡ Some k → after_r is q m k ≡ word)
      → ((n : ℕ) → 6 ≤ n → n < 24 → (value_register (frame_at frames c.active.function) destination ≡ Some n → ⊥) → n ≢ but)
      → HasGiven (is ++ stored b register destination) destination word q m x
  block_gives q m x s destination below is register but word keeps result b kept cached aside =
      let q1 : Words = after_r is q m in
      let m1 : Contents = after_w is q m in
      let in_q = standing_registers program well frames fit addresses pages calls few c q m base back (under_way in_frame) x s q1 keeps.zero keeps.base keeps.lowest (λ outside. keeps.back) keeps.lasts
      (λ j past high.
      keeps.values (17 + j) (omega arith) (omega (arith, high))
      (aside (17 + j) (omega arith) (omega (arith, high)) (λ has. absurd (let saved = right.saved_registers destination (17 + j) has (omega arith) in omega (arith, saved, past))))) in
      let in_m : StandsWith q1 m1 x = subst (λ (y : Contents). StandsWith (after_r is q m) y x) (sym keeps.memory) in_q in
      let registers : after_r (is ++ stored b register destination) q m ≡ after_r is q m =
      after_r-append is (stored b register destination) q m ∙ stored_registers b register destination (after_r is q m) (after_w is q m) in
      let same : (n : ℕ) → after_r (is ++ stored b register destination) q m n ≡ after_r is q m n = λ n. ap (λ (p : Words). p n) registers in
      let stands = stored_stands (after_r is q m) (after_w is q m) x in_m destination below b register word kept result in
      let with_memory : StandsWith (after_r is q m) (after_w (is ++ stored b register destination) q m) (put x destination word) =
      subst (λ (y : Contents). StandsWith (after_r is q m) y (put x destination word)) (sym (after_w-append is (stored b register destination) q m)) stands in
      record {
        safe = safe_append globals_length (words_per_call * calls) is (stored b register destination) q m keeps.safe (stored_safe (after_r is q m) (after_w is q m) x in_m destination below b register);
        standing = subst (λ (p : Words). StandsWith p (after_w (is ++ stored b register destination) q m) (put x destination word)) (sym registers) with_memory;
        back_same = same RETURN_ADDRESS ∙ keeps.back;
        lasts_same = ap lasting registers ∙ keeps.lasts;
        given = λ k has. same k ∙ cached k has;
        others = λ n low high other. same n ∙ keeps.values n low high (aside n low high other);
      }

  made_here : (destination k : ℕ) → value_register (frame_at frames c.active.function) destination ≡ Some k → k ≡ made_in (frame_at frames c.active.function) destination % 32
  made_here destination k has = omega (arith, made_in_is (frame_at frames c.active.function) destination k has, right.high destination k has)

  made_aside : (destination k n : ℕ) → value_register (frame_at frames c.active.function) destination ≡ Some k
      → (value_register (frame_at frames c.active.function) destination ≡ Some n → ⊥) → n ≢ made_in (frame_at frames c.active.function) destination % 32
  made_aside destination k n has other e = other (has ∙ ap Some (let f : k ≡ n = omega (arith, e, made_here destination k has) in f))

  -- The MIPS code that moves one word between slots writes the source slot's word to the destination slot.
  one_moved : (q : Words) (m : Contents) (x : Words) → StandsWith q m x → (destination source : ℕ) → destination < (routine_at program c.active.function).slots → source < (routine_at program c.active.function).slots
      → ((k : ℕ) → value_register (frame_at frames c.active.function) source ≡ Some k → q k ≡ x source) → IsWord (x source)
      → HasGiven (move_to (value_register (frame_at frames c.active.function) destination) (frame_at frames c.active.function) destination (operands.Slot source)) destination (x source) q m x
  one_moved q m x s destination source below source_below cached fits = go (value_register (frame_at frames c.active.function) destination) refl
    where
      held_in : (o : Option ℕ) → value_register (frame_at frames c.active.function) source ≡ o
          → HeldIn globals_length (words_per_call * calls) o (frame_at frames c.active.function) (q FRAME) m q x source
      held_in None none = (
        slot_cell program well frames fit addresses pages calls few c q m base back (under_way in_frame) x s source source_below,
        slot_word_is program well frames fit addresses pages calls few c q m base back (under_way in_frame) x s source source_below (memory_kept (frame_at frames c.active.function) source none),
      )
      held_in (Some k) has = (right.low source k has, right.high source k has, cached k has, fits)

      held : HeldIn globals_length (words_per_call * calls) (value_register (frame_at frames c.active.function) source) (frame_at frames c.active.function) (q FRAME) m q x source
      held = held_in (value_register (frame_at frames c.active.function) source) refl

      go : (o : Option ℕ) → value_register (frame_at frames c.active.function) destination ≡ o
          → HasGiven (move_to o (frame_at frames c.active.function) destination (operands.Slot source)) destination (x source) q m x
      go None none =
          let is : List Instr = operand_code (frame_at frames c.active.function) FIRST (operands.Slot source) in
          let puts = operand_puts globals_length (words_per_call * calls) (frame_at frames c.active.function) (q FRAME) m q x q m s.zero_is refl refl (λ n low high. refl) FIRST refl (operands.Slot source) held in
          block_gives q m x s destination below is (operand_register (frame_at frames c.active.function) FIRST (operands.Slot source)) FIRST (x source)
          (puts_keeps globals_length (words_per_call * calls) is q m FIRST _ _ FIRST (first_scratch globals_length (words_per_call * calls)) (first_aside globals_length (words_per_call * calls) FIRST) puts) puts.result
          true (memory_kept (frame_at frames c.active.function) destination none)
          (λ k has. absurd (let e : None ≡ Some k = sym none ∙ has in cc)) (λ n low high other e. absurd (omega (arith, e, high)))
      go (Some k) has =
          let is : List Instr = load_code (frame_at frames c.active.function) k (operands.Slot source) in
          let low = right.low destination k has in
          let high = right.high destination k has in
          let here_is : k % 32 ≡ made_in (frame_at frames c.active.function) destination % 32 = omega (arith, made_here destination k has, high) in
          let puts = subst (λ (n : ℕ). Puts globals_length (words_per_call * calls) (load_code (frame_at frames c.active.function) k (operands.Slot source)) q m n n (x source)) here_is
          (load_puts globals_length (words_per_call * calls) (frame_at frames c.active.function) (q FRAME) m q x q m s.zero_is refl refl (λ n low high. refl) k (ne_eqb (k % 32) 0 (λ e. absurd (omega (arith, e, low, high)))) (operands.Slot source) held) in
          block_gives q m x s destination below is (made_in (frame_at frames c.active.function) destination) (made_in (frame_at frames c.active.function) destination % 32) (x source)
          (puts_keeps globals_length (words_per_call * calls) is q m (made_in (frame_at frames c.active.function) destination % 32) _ _ (made_in (frame_at frames c.active.function) destination % 32)
          (made_scratch globals_length (words_per_call * calls) program (routine_at program c.active.function) (frame_at frames c.active.function) right destination) (λ n n_low n_high other. other) puts) puts.result
          (is_kept (frame_at frames c.active.function) destination) refl
          (λ j there. ap (after_r is q m) (made_here destination j there) ∙ puts.result) (λ n n_low n_high other. made_aside destination k n has other)

  -- `AreMoved` describes the effect of the code that moves several words.
  pub record AreMoved (destination source count : ℕ) (q : Words) (m : Contents) (x : Words) : Type 0 where
    pub safe : AreSafe globals_length (words_per_call * calls) (moves (frame_at frames c.active.function) destination source count) q m
    pub standing : StandsWith (after_r (moves (frame_at frames c.active.function) destination source count) q m) (after_w (moves (frame_at frames c.active.function) destination source count) q m) (moved x destination source count)
    pub back_same : after_r (moves (frame_at frames c.active.function) destination source count) q m RETURN_ADDRESS ≡ q RETURN_ADDRESS
    -- After the moves, a register of exactly one destination slot contains that slot's word; a register of no destination
    -- slot is unchanged.
    pub given : (i k : ℕ) → i < count → value_register (frame_at frames c.active.function) (destination + i) ≡ Some k
        → ((j : ℕ) → j < count → value_register (frame_at frames c.active.function) (destination + j) ≡ Some k → i ≡ j)
        → after_r (moves (frame_at frames c.active.function) destination source count) q m k ≡ x (source + i)
    pub others : (n : ℕ) → 6 ≤ n → n < 24 → ((i : ℕ) → i < count → value_register (frame_at frames c.active.function) (destination + i) ≡ Some n → ⊥)
        → after_r (moves (frame_at frames c.active.function) destination source count) q m n ≡ q n

  -- `AreApart` says that no move writes a register that holds a word still to be moved.
  abbrev pub AreApart : (destination source count : ℕ) → Type 0
  AreApart destination source count =
      (i j k : ℕ) → i < j → j < count → value_register (frame_at frames c.active.function) (destination + i) ≡ Some k
      → value_register (frame_at frames c.active.function) (source + j) ≡ Some k → ⊥

  -- `AreCached` says that each register of a source slot holds the word to be moved from this slot.
  abbrev pub AreCached : (source count : ℕ) (q x : Words) → Type 0
  AreCached source count q x =
      (j k : ℕ) → j < count → value_register (frame_at frames c.active.function) (source + j) ≡ Some k → q k ≡ x (source + j)

  abbrev register_at : ℕ → Option ℕ
  register_at slot = value_register (frame_at frames c.active.function) slot

  pub are_moved : (destination source count : ℕ) (q : Words) (m : Contents) (x : Words) → StandsWith q m x
      → destination + count ≤ (routine_at program c.active.function).slots → source + count ≤ (routine_at program c.active.function).slots
      → IsAhead destination source count → AreApart destination source count → AreCached source count q x → ((j : ℕ) → j < count → IsWord (x (source + j)))
      → AreMoved destination source count q m x
  are_moved destination source zero q m x s to from ahead apart cached fits = record {
    safe = tt;
    standing = s;
    back_same = refl;
    given = λ i k below has alone. absurd (omega (arith, below));
    others = λ n low high none. refl;
  }
  are_moved destination source (suc count) q m x s to from ahead apart cached fits =
      let here : source + 0 ≡ source = omega arith in
      let one = one_moved q m x s destination source (omega (arith, to)) (omega (arith, from))
      (λ k has. cached 0 k (omega arith) (ap register_at here ∙ has) ∙ ap x here)
      (subst (λ (n : ℕ). IsWord (x n)) here (fits 0 (omega arith))) in
      let is : List Instr = move_to (value_register (frame_at frames c.active.function) destination) (frame_at frames c.active.function) destination (operands.Slot source) in
      let js : List Instr = moves (frame_at frames c.active.function) (suc destination) (suc source) count in
      let q1 : Words = after_r is q m in
      let m1 : Contents = after_w is q m in
      let x1 : Words = put x destination (x source) in
      let rest = are_moved (suc destination) (suc source) count q1 m1 x1 one.standing (omega (arith, to)) (omega (arith, from)) (ahead_after destination source count ahead)
      (λ i j k before below has there. apart (suc i) (suc j) k (omega (arith, before)) (omega (arith, below)) (following_is destination i k has) (following_is source j k there))
      (λ j k below has.
      one.others k (right.low (suc source + j) k has) (right.high (suc source + j) k has)
      (λ there. apart 0 (suc j) k (omega arith) (omega (arith, below)) (ap register_at (let e : destination + 0 ≡ destination = omega arith in e) ∙ there) (following_is source j k has))
      ∙ (cached (suc j) k (omega (arith, below)) (following_is source j k has) ∙ sym (next_same x destination source count ahead j below)))
      (λ j below. subst IsWord (sym (next_same x destination source count ahead j below)) (fits (suc j) (omega (arith, below)))) in
      let registers : after_r (is ++ js) q m ≡ after_r js q1 m1 = after_r-append is js q m in
      let same : (n : ℕ) → after_r (is ++ js) q m n ≡ after_r js q1 m1 n = λ n. ap (λ (p : Words). p n) registers in
      let with_memory : StandsWith (after_r js (after_r is q m) (after_w is q m)) (after_w (is ++ js) q m) (moved x destination source (suc count)) =
      subst (λ (y : Contents). StandsWith (after_r js (after_r is q m) (after_w is q m)) y (moved x destination source (suc count))) (sym (after_w-append is js q m)) rest.standing in
      record {
        safe = safe_append globals_length (words_per_call * calls) is js q m one.safe rest.safe;
        standing = subst (λ (p : Words). StandsWith p (after_w (is ++ js) q m) (moved x destination source (suc count))) (sym registers) with_memory;
        back_same = same RETURN_ADDRESS ∙ (rest.back_same ∙ one.back_same);
        given = given_at destination source count q1 m1 x1 x rest (after_r (is ++ js) q m) same one.given (λ j below. next_same x destination source count ahead j below);
        others = λ n low high none.
            same n
            ∙ (rest.others n low high (λ i below there. none (suc i) (omega (arith, below)) (following_is destination i n there))
            ∙ one.others n low high (λ there. none 0 (omega arith) (ap register_at (let e : destination + 0 ≡ destination = omega arith in e) ∙ there)));
      }
    where
      following_is : (first i k : ℕ) → register_at (suc first + i) ≡ Some k → register_at (first + suc i) ≡ Some k
      following_is first i k has = ap register_at (let e : first + suc i ≡ suc first + i = omega arith in e) ∙ has

      given_at : (destination source count : ℕ) (q1 : Words) (m1 : Contents) (x1 x : Words) → AreMoved (suc destination) (suc source) count q1 m1 x1
          → (p : Words) → ((n : ℕ) → p n ≡ after_r (moves (frame_at frames c.active.function) (suc destination) (suc source) count) q1 m1 n)
          → ((k : ℕ) → register_at destination ≡ Some k → q1 k ≡ x source) → ((j : ℕ) → j < count → x1 (suc source + j) ≡ x (source + suc j))
          → (i k : ℕ) → i < suc count → register_at (destination + i) ≡ Some k → ((j : ℕ) → j < suc count → register_at (destination + j) ≡ Some k → i ≡ j) → p k ≡ x (source + i)
      given_at destination source count q1 m1 x1 x rest p same first next zero k below has alone =
          let here : destination ≡ destination + 0 = omega arith in
          let own : register_at destination ≡ Some k = ap register_at here ∙ has in
          same k
          ∙ (rest.others k (right.low destination k own) (right.high destination k own)
          (λ i i_below there. absurd (let e = alone (suc i) (omega (arith, i_below)) (following_is destination i k there) in omega (arith, e)))
          ∙ (first k own ∙ ap x (let e : source ≡ source + 0 = omega arith in e)))
      given_at destination source count q1 m1 x1 x rest p same first next (suc i) k below has alone =
          same k
          ∙ (rest.given i k (omega (arith, below)) (ap register_at (let e : suc destination + i ≡ destination + suc i = omega arith in e) ∙ has)
          (λ j j_below there. let e = alone (suc j) (omega (arith, j_below)) (following_is destination j k there) in omega (arith, e))
          ∙ next i (omega (arith, below)))
