-- Registers that hold the results of a call of the store (the heap of regions) or of a function are written to consecutive slots.
use Rattle.std.proofs.Common.{◌≡◌, ◌≢◌, ℕ, zero, suc, ◌+◌, ◌*◌, ◌%◌, ◌<◌, ◌≤◌, Bool, true, false, List, [], ◌∷◌, ◌++◌, length, Option, Some, None, refl, sym, ap, subst, ◌∙◌, arith, inl, inr}
use Rattle.std.specs.Prelude.{◌⊎◌, ◌&&◌, if◌then◌else◌}
use Rattle.std.proofs.lemmas.Bool.{cases_eq, cases_lt, ne_eqb, false≢true}
use Rattle.cyc_words.specs.Word.{IsWord, add_of}
use Rattle.cyc_isa.specs.declared.instr.Instr.{Instr}
use Rattle.cyc_isa.specs.Effect.{memory_address}
use Rattle.cyc_machine_model.specs.State.{globals_length, words_per_call}
use Rattle.cyc_plain.specs.inside.Program.{Program, routine_at}
use Rattle.cyc_plain.specs.inside.State.{Words, put, Configuration}
use Rattle.cyc_plain.specs.inside.WellFormed.{IsWellFormed}
use Rattle.cyc_plain.proofs.SlotLaws.{put-same, put-other}
use Rattle.cyc_registers.specs.inside.Interference.{AreHomes}
use Rattle.cyc_frame.specs.inside.Layout.{AreFrames, frame_at}
use Rattle.cyc_frame.specs.inside.Frame.{Frame}
use Rattle.cyc_select.specs.declared.constants.TheConstants.{ZERO, FRAME, LOWEST, HANDLERS, REGIONS, GLOBALS}
use Rattle.cyc_select.specs.inside.Instructions.{slot_offset, store_slot, copy}
use Rattle.cyc_select.specs.inside.Slots.{value_register, is_kept, made_in, give_to, give_code, bring_code, bring_all, result_registers}
use Rattle.cyc_select.proofs.values.Blocks.{lasting_same, safe_append}
use Rattle.cyc_select.proofs.effects.Views.{Contents, written}
use Rattle.cyc_select.proofs.effects.Sequences.{after_r, after_w, after_r-append, after_w-append, AreSafe}
use Rattle.cyc_select.proofs.relation.Standing.{under_way, Standing, slot_address, slot_cell, standing_registers, standing_slot, standing_unkept}
use Rattle.cyc_select.proofs.relation.Values.{made_in_is}
use Rattle.cyc_machine_model.specs.declared.constants.TheConstants.{RETURN_ADDRESS}
use Rattle.cyc_registers.specs.inside.Liveness.{IsLiveAt}

-- Returns the slots after the words of the given registers are written to the consecutive slots from `slot` on.
abbrev pub put_all : (slot : ℕ) → List ℕ → (q slots : Words) → Words
put_all slot [] q slots = slots
put_all slot (source ∷ sources) q slots = put_all (suc slot) sources q (put slots slot (q (source % 32)))

-- `AreLow` says that all registers in the list have a number below 6, so that no slot has any of them.
abbrev pub AreLow : List ℕ → Type 0
AreLow [] = Unit {0}
AreLow (source ∷ sources) = (source % 32 < 6) × AreLow sources

pub results_low : (count : ℕ) → count ≤ 3 → AreLow (result_registers count)
results_low zero few = tt
results_low (suc zero) few = ((omega arith), tt)
results_low (suc (suc zero)) few = ((omega arith), ((omega arith), tt))
results_low (suc (suc (suc zero))) few = ((omega arith), ((omega arith), ((omega arith), tt)))
results_low (suc (suc (suc (suc count)))) few = absurd (omega (arith, few))

-- The module assumes registers with the words that are to be written to the slots `from` to `past`. No slot that is live at the
-- next instruction shares a register with one of the slots to be written.
module _ (program : Program) (well : IsWellFormed program) (frames : List Frame) (fit : AreFrames program frames) (addresses : ℕ → ℕ) (pages calls : ℕ) (few : calls ≤ 4096)
    (again : Bool) (c : Configuration) (base back : ℕ) (in_frame : Bool) (next from past : ℕ) (p : Words) (words : (n : ℕ) → n < 6 → IsWord (p n)) (inside : past ≤ (routine_at program c.active.function).slots)
    (shares : (d slot k : ℕ) → from ≤ d → d < past → value_register (frame_at frames c.active.function) d ≡ Some k → value_register (frame_at frames c.active.function) slot ≡ Some k
    → IsLiveAt program (routine_at program c.active.function) slot next → slot ≡ d) where
  abbrev frame : Frame
  frame = frame_at frames c.active.function

  abbrev StandsWith : (q : Words) (m : Contents) (slots : Words) → Type 0
  StandsWith q m slots = Standing program frames addresses pages calls c q m base back (under_way in_frame) slots

  -- `IsLast` says that the register of a slot is not reloaded from memory after the slot's word is written.
  abbrev IsLast : (slot : ℕ) → Type 0
  IsLast slot = (again && is_kept (frame_at frames c.active.function) slot) ≡ false

  right : (q : Words) (m : Contents) (slots : Words) → StandsWith q m slots → AreHomes program (routine_at program c.active.function) (frame_at frames c.active.function).saved (frame_at frames c.active.function).homes
  right q m slots s = fit.homes c.active.function s.known

  -- ---- one word

  record IsBrought (is : List Instr) (q : Words) (m : Contents) (slot : ℕ) (slots : Words) (word : ℕ) : Type 0 where
    pub safe : AreSafe globals_length (words_per_call * calls) is q m
    pub standing : StandsWith (after_r is q m) (after_w is q m) (put slots slot word)
    pub aside : (n : ℕ) → n < 6 ⊎ 24 ≤ n → after_r is q m n ≡ q n
    pub result : (k : ℕ) → value_register (frame_at frames c.active.function) slot ≡ Some k → IsLast slot → after_r is q m k ≡ word
    pub others : (n : ℕ) → 6 ≤ n → n < 24 → (value_register (frame_at frames c.active.function) slot ≡ Some n → ⊥) → after_r is q m n ≡ q n

  -- Storing a register's word in the frame writes the slot and keeps the relation between the labelled and the plain machine.
  stored_there : (q : Words) (m : Contents) (slots : Words) (register slot word : ℕ) → StandsWith q m slots → slot < (routine_at program c.active.function).slots → q (register % 32) ≡ word
      → StandsWith q (written m (memory_address (q FRAME) (slot_offset (frame_at frames c.active.function) slot)) (q (register % 32))) (put slots slot word)
  stored_there q m slots register slot word s below is =
      let there = slot_address program well frames fit addresses pages calls few c q m base back (under_way in_frame) slots s slot below in
      subst (λ (a : ℕ). StandsWith q (written m a (q (register % 32))) (put slots slot word)) (sym there)
      (subst (λ (x : ℕ). StandsWith q (written m (base + slot_offset (frame_at frames c.active.function) slot) x) (put slots slot word)) (sym is)
      (standing_slot program well frames fit addresses pages calls few c q m base back (under_way in_frame) slots s slot word below))

  -- A result word is brought to its slot by one store, if no register of the slot must be written.
  stored_one : (q : Words) (m : Contents) (slots : Words) (source slot : ℕ) → StandsWith q m slots → slot < (routine_at program c.active.function).slots → q (source % 32) ≡ p (source % 32)
      → ((k : ℕ) → value_register (frame_at frames c.active.function) slot ≡ Some k → IsLast slot → ⊥)
      → IsBrought (store_slot (frame_at frames c.active.function) source slot ∷ []) q m slot slots (p (source % 32))
  stored_one q m slots source slot s below same none = record {
    safe = (slot_cell program well frames fit addresses pages calls few c q m base back (under_way in_frame) slots s slot below, tt);
    standing = stored_there q m slots source slot (p (source % 32)) s below same;
    aside = λ n aside. refl;
    result = λ k has last. absurd (none k has last);
    others = λ n low high other. refl;
  }

  -- A result word is copied to the slot's register, and also stored in memory if the slot's home includes memory.
  copied_one : (q : Words) (m : Contents) (slots : Words) (source slot k : ℕ) → StandsWith q m slots → slot < (routine_at program c.active.function).slots → source % 32 < 6 → q (source % 32) ≡ p (source % 32)
      → value_register (frame_at frames c.active.function) slot ≡ Some k → (kept : Bool) → is_kept (frame_at frames c.active.function) slot ≡ kept
      → IsBrought (copy k source ∷ (if kept then store_slot (frame_at frames c.active.function) (made_in (frame_at frames c.active.function) slot) slot ∷ [] else [])) q m slot slots (p (source % 32))
  copied_one q m slots source slot k s below source_low same has kept is_it = go kept is_it
    where
      low : 6 ≤ k
      low = (right q m slots s).low slot k has

      high : k < 24
      high = (right q m slots s).high slot k has

      whole : k % 32 ≡ k
      whole = omega (arith, high)

      word : ℕ
      word = p (source % 32)

      q1 : Words
      q1 = after_r (copy k source ∷ []) q m

      sum_is : (n : ℕ) → IsWord n → add_of n 0 ≡ n
      sum_is n fits = let e : add_of n 0 ≡ n = omega (arith, fits) in e

      made : add_of (q (source % 32)) (q ZERO) ≡ p (source % 32)
      made = ap (add_of (q (source % 32))) s.zero_is ∙ (ap (λ (x : ℕ). add_of x 0) same ∙ sum_is (p (source % 32)) (words (source % 32) source_low))

      result_is : after_r (copy k source ∷ []) q m (k % 32) ≡ p (source % 32)
      result_is = put-same q (k % 32) (add_of (q (source % 32)) (q ZERO)) ∙ made

      other_is : (n : ℕ) → n ≢ k → after_r (copy k source ∷ []) q m n ≡ q n
      other_is n other = put-other q (k % 32) n (add_of (q (source % 32)) (q ZERO)) (λ e. other (e ∙ whole))

      aside_is : (n : ℕ) → n < 6 ⊎ 24 ≤ n → after_r (copy k source ∷ []) q m n ≡ q n
      aside_is n (inl small) = other_is n (λ e. absurd (omega (arith, e, small, low)))
      aside_is n (inr large) = other_is n (λ e. absurd (omega (arith, e, large, high)))

      its : (j : ℕ) → value_register (frame_at frames c.active.function) slot ≡ Some j → k ≡ j
      its j there = let e : Some k ≡ Some j = sym has ∙ there in cc

      there_is : (j : ℕ) → value_register (frame_at frames c.active.function) slot ≡ Some j → after_r (copy k source ∷ []) q m j ≡ p (source % 32)
      there_is j there = ap (after_r (copy k source ∷ []) q m) (sym (whole ∙ its j there)) ∙ result_is

      apart_is : (n : ℕ) → (value_register (frame_at frames c.active.function) slot ≡ Some n → ⊥) → after_r (copy k source ∷ []) q m n ≡ q n
      apart_is n other = other_is n (λ e. other (has ∙ ap Some (sym e)))

      s1 : StandsWith (after_r (copy k source ∷ []) q m) m slots
      s1 =
          standing_registers program well frames fit addresses pages calls few c q m base back (under_way in_frame) slots s (after_r (copy k source ∷ []) q m)
          (aside_is 0 (inl (omega arith))) (aside_is FRAME (inr (omega arith))) (aside_is LOWEST (inr (omega arith))) (λ outside. aside_is RETURN_ADDRESS (inr (omega arith)))
          (lasting_same (after_r (copy k source ∷ []) q m) q (aside_is HANDLERS (inr (omega arith))) (aside_is REGIONS (inr (omega arith))) (aside_is GLOBALS (inr (omega arith))))
          (λ j past j_high. apart_is (17 + j) (λ there. absurd (let saved = (right q m slots s).saved_registers slot (17 + j) there (omega arith) in omega (arith, saved, past))))

      made_there : after_r (copy k source ∷ []) q m (made_in (frame_at frames c.active.function) slot % 32) ≡ p (source % 32)
      made_there = ap (λ (n : ℕ). after_r (copy k source ∷ []) q m (n % 32)) (made_in_is (frame_at frames c.active.function) slot k has) ∙ result_is

      go : (b : Bool) → is_kept (frame_at frames c.active.function) slot ≡ b
          → IsBrought (copy k source ∷ (if b then store_slot (frame_at frames c.active.function) (made_in (frame_at frames c.active.function) slot) slot ∷ [] else [])) q m slot slots (p (source % 32))
      go true is_kept_there = record {
        safe = (
          ne_eqb (k % 32) 0 (λ e. absurd (omega (arith, e, low, high))),
          (slot_cell program well frames fit addresses pages calls few c (after_r (copy k source ∷ []) q m) m base back (under_way in_frame) slots s1 slot below, tt),
        );
        standing = stored_there (after_r (copy k source ∷ []) q m) m slots (made_in (frame_at frames c.active.function) slot) slot (p (source % 32)) s1 below made_there;
        aside = aside_is;
        result = λ j there last. there_is j there;
        others = λ n n_low n_high other. apart_is n other;
      }
      go false unkept = record {
        safe = (ne_eqb (k % 32) 0 (λ e. absurd (omega (arith, e, low, high))), tt);
        standing = standing_unkept program well frames fit addresses pages calls few c (after_r (copy k source ∷ []) q m) m base back (under_way in_frame) slots s1 slot (p (source % 32)) unkept;
        aside = aside_is;
        result = λ j there last. there_is j there;
        others = λ n n_low n_high other. apart_is n other;
      }

  one_brought : (q : Words) (m : Contents) (slots : Words) (source slot : ℕ) → StandsWith q m slots → slot < (routine_at program c.active.function).slots → source % 32 < 6 → q (source % 32) ≡ p (source % 32)
      → IsBrought (bring_code again (frame_at frames c.active.function) source slot) q m slot slots (p (source % 32))
  one_brought q m slots source slot s below source_low same = go (again && is_kept (frame_at frames c.active.function) slot) refl
    where
      given : (o : Option ℕ) → value_register (frame_at frames c.active.function) slot ≡ o → IsBrought (give_to o (frame_at frames c.active.function) source slot) q m slot slots (p (source % 32))
      given None none = stored_one q m slots source slot s below same (λ k has last. absurd (let e : None ≡ Some k = sym none ∙ has in cc))
      given (Some k) has = copied_one q m slots source slot k s below source_low same has (is_kept (frame_at frames c.active.function) slot) refl

      go : (b : Bool) → (again && is_kept (frame_at frames c.active.function) slot) ≡ b
          → IsBrought (if b then store_slot (frame_at frames c.active.function) source slot ∷ [] else give_code (frame_at frames c.active.function) source slot) q m slot slots (p (source % 32))
      go true is_again = stored_one q m slots source slot s below same (λ k has last. false≢true (sym last ∙ is_again))
      go false last = given (value_register (frame_at frames c.active.function) slot) refl

  -- ---- all words

  -- `CachesBut` says that registers that are not reloaded hold the words of their slots live at the next
  -- instruction, except for `count` slots from `slot` on.
  abbrev pub CachesBut : (slot count : ℕ) (q slots : Words) → Type 0
  CachesBut slot count q slots =
      (a k : ℕ) → value_register (frame_at frames c.active.function) a ≡ Some k → IsLiveAt program (routine_at program c.active.function) a next → IsLast a → a < slot ⊎ slot + count ≤ a → q k ≡ slots a

  abbrev pub CachesLast : (q slots : Words) → Type 0
  CachesLast q slots =
      (a k : ℕ) → value_register (frame_at frames c.active.function) a ≡ Some k → IsLiveAt program (routine_at program c.active.function) a next → IsLast a → q k ≡ slots a

  pub record AreBrought (slot : ℕ) (sources : List ℕ) (q : Words) (m : Contents) (slots : Words) : Type 0 where
    pub safe : AreSafe globals_length (words_per_call * calls) (bring_all again (frame_at frames c.active.function) slot sources) q m
    pub standing : StandsWith (after_r (bring_all again (frame_at frames c.active.function) slot sources) q m) (after_w (bring_all again (frame_at frames c.active.function) slot sources) q m) (put_all slot sources p slots)
    pub aside : (n : ℕ) → n < 6 ⊎ 24 ≤ n → after_r (bring_all again (frame_at frames c.active.function) slot sources) q m n ≡ q n
    pub caches : CachesBut slot (length sources) q slots → CachesLast (after_r (bring_all again (frame_at frames c.active.function) slot sources) q m) (put_all slot sources p slots)

  pub are_brought : (slot : ℕ) (sources : List ℕ) (q : Words) (m : Contents) (slots : Words) → from ≤ slot → slot + length sources ≤ past → AreLow sources → ((n : ℕ) → n < 6 → q n ≡ p n)
      → StandsWith q m slots → AreBrought slot sources q m slots
  are_brought slot [] q m slots begun fits small same s = record {
    safe = tt;
    standing = s;
    aside = λ n aside. refl;
    caches = λ before a k has wanted last. before a k has wanted last (either a);
  }
    where
      either : (a : ℕ) → a < slot ⊎ slot + 0 ≤ a
      either a = elim (cases_lt a slot) [
        | inl below ↦ inl below
        | inr above ↦ inr (omega (arith, above))
      ]
  are_brought slot (source ∷ sources) q m slots begun fits (source_low, small) same s =
      let F : Frame = frame_at frames c.active.function in
      let is : List Instr = bring_code again F source slot in
      let js : List Instr = bring_all again F (suc slot) sources in
      let one = one_brought q m slots source slot s (omega (arith, fits, inside)) source_low (same (source % 32) source_low) in
      let q1 : Words = after_r is q m in
      let m1 : Contents = after_w is q m in
      let slots1 : Words = put slots slot (p (source % 32)) in
      let rest = are_brought (suc slot) sources q1 m1 slots1 (omega (arith, begun)) (omega (arith, fits)) small (λ n below. one.aside n (inl below) ∙ same n below) one.standing in
      let registers : after_r (is ++ js) q m ≡ after_r js q1 m1 = after_r-append is js q m in
      let memory : after_w (is ++ js) q m ≡ after_w js q1 m1 = after_w-append is js q m in
      record {
        safe = safe_append globals_length (words_per_call * calls) is js q m one.safe rest.safe;
        standing =
            subst (λ (x : Words). StandsWith x (after_w (is ++ js) q m) (put_all (suc slot) sources p slots1)) (sym registers)
            (subst (λ (x : Contents). StandsWith (after_r js q1 m1) x (put_all (suc slot) sources p slots1)) (sym memory) rest.standing);
        aside = λ n aside. ap (λ (x : Words). x n) registers ∙ (rest.aside n aside ∙ one.aside n aside);
        caches = λ before a k has wanted last.
            ap (λ (x : Words). x k) registers
            ∙ rest.caches (past_one slot source sources q m slots begun fits s one before) a k has wanted last;
      }
    where
      past_one : (slot source : ℕ) (sources : List ℕ) (q : Words) (m : Contents) (slots : Words) → from ≤ slot → slot + suc (length sources) ≤ past → StandsWith q m slots
          → IsBrought (bring_code again (frame_at frames c.active.function) source slot) q m slot slots (p (source % 32))
          → CachesBut slot (suc (length sources)) q slots
          → CachesBut (suc slot) (length sources) (after_r (bring_code again (frame_at frames c.active.function) source slot) q m) (put slots slot (p (source % 32)))
      past_one slot source sources q m slots begun fits s one before a k has wanted last outside = elim (cases_eq a slot) [
        | inl same ↦
            one.result k (ap (value_register (frame_at frames c.active.function)) (sym same) ∙ has) (subst IsLast same last)
            ∙ sym (ap (put slots slot (p (source % 32))) same ∙ put-same slots slot (p (source % 32)))
        | inr apart ↦
            one.others k ((right q m slots s).low a k has) ((right q m slots s).high a k has)
            (λ shared. apart (shares slot a k begun (omega (arith, fits)) shared has wanted))
            ∙ (before a k has wanted last (wider a apart outside) ∙ sym (put-other slots slot a (p (source % 32)) apart))
      ]
        where
          wider : (a : ℕ) → a ≢ slot → a < suc slot ⊎ suc slot + length sources ≤ a → a < slot ⊎ slot + suc (length sources) ≤ a
          wider a apart (inl below) = inl (omega (arith, below, apart))
          wider a apart (inr above) = inr (omega (arith, above))
