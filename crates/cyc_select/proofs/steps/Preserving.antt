-- The effect of the MIPS lines that save and restore callee-saved registers.
use Rattle.std.proofs.Common.{◌≡◌, ◌≢◌, ℕ, zero, suc, ◌+◌, ◌*◌, ◌%◌, ◌^◌, ◌<◌, ◌≤◌, length, refl, sym, ap, subst, ◌∙◌, arith, inl, inr}
use Rattle.std.specs.Prelude.{◌⊎◌}
use Rattle.std.proofs.lemmas.Bool.{cases_lt, ne_eqb}
use Rattle.cyc_isa.specs.Effect.{memory_address}
use Rattle.cyc_plain.specs.declared.limits.TheConstants.{MOST_FRAME_WORDS}
use Rattle.cyc_plain.specs.inside.State.{Words, put}
use Rattle.cyc_plain.proofs.SlotLaws.{put-same, put-other}
use Rattle.cyc_select.specs.declared.constants.TheConstants.{FRAME}
use Rattle.cyc_select.specs.inside.Slots.{saves_from, restores_from}
use Rattle.cyc_select.proofs.effects.Views.{Contents, written}
use Rattle.cyc_select.proofs.effects.Sequences.{after_r, after_w, AreSafe}
use Rattle.cyc_select.proofs.relation.Cells.{IsCell}
use Rattle.cyc_select.proofs.relation.Waiting.{frame_size, preserved_of, Left, left_past, left_inside}
use Rattle.cyc_select.proofs.values.Operations.{address_at}

pub length_saves : (first j count : ℕ) → length (saves_from first j count) ≡ count
length_saves first j zero = refl
length_saves first j (suc count) = ap suc (length_saves first (suc j) count)

pub length_restores : (first j count : ℕ) → length (restores_from first j count) ≡ count
length_restores first j zero = refl
length_restores first j (suc count) = ap suc (length_restores first (suc j) count)

module _ (globals stack base first : ℕ) (top : base + frame_size < 2 ^ 32) (room : first + 7 ≤ MOST_FRAME_WORDS) (cells : (j : ℕ) → j < 7 → IsCell globals stack (base + 4 * (first + j))) where
  there : (q : Words) (j : ℕ) → q FRAME ≡ base → j < 7 → memory_address (q FRAME) (4 * (first + j)) ≡ base + 4 * (first + j)
  there q j is below = ap (λ (x : ℕ). memory_address x (4 * (first + j))) is ∙ address_at base (4 * (first + j)) (omega (arith, below, room)) (omega (arith, below, room, top))

  pub record AreRestored (j count : ℕ) (q : Words) (w : Contents) : Type 0 where
    pub safe : AreSafe globals stack (restores_from first j count) q w
    pub memory : after_w (restores_from first j count) q w ≡ w
    pub others : (n : ℕ) → n < 17 + j ⊎ 17 + j + count ≤ n → after_r (restores_from first j count) q w n ≡ q n
    pub result : (i : ℕ) → i < count → after_r (restores_from first j count) q w (17 + (j + i)) ≡ w.words (base + 4 * (first + (j + i)))

  further : (j count n : ℕ) → n < 17 + j ⊎ 17 + j + suc count ≤ n → n < 17 + suc j ⊎ 17 + suc j + count ≤ n
  further j count n (inl below) = inl (omega (arith, below))
  further j count n (inr above) = inr (omega (arith, above))

  beside : (j count n : ℕ) → n < 17 + j ⊎ 17 + j + suc count ≤ n → n ≢ 17 + j
  beside j count n (inl below) same = omega (arith, below, same)
  beside j count n (inr above) same = omega (arith, above, same)

  -- Returns the registers after one callee-saved register is restored from the frame.
  abbrev loaded : (j : ℕ) (q : Words) (w : Contents) → Words
  loaded j q w = put q ((17 + j) % 32) (w.words (memory_address (q FRAME) (4 * (first + j))))

  restored_result : (j count : ℕ) (q : Words) (w : Contents) → q FRAME ≡ base → j + suc count ≤ 7 → AreRestored (suc j) count (loaded j q w) w
      → (i : ℕ) → i < suc count → after_r (restores_from first (suc j) count) (loaded j q w) w (17 + (j + i)) ≡ w.words (base + 4 * (first + (j + i)))
  restored_result j count q w is few rest zero below =
      let word : ℕ = w.words (memory_address (q FRAME) (4 * (first + j))) in
      let whole : 17 + (j + 0) ≡ (17 + j) % 32 = omega (arith, few) in
      rest.others (17 + (j + 0)) (inl (omega arith))
      ∙ (ap (put q ((17 + j) % 32) word) whole
      ∙ (put-same q ((17 + j) % 32) word
      ∙ (ap w.words (there q j is (omega (arith, few)))
      ∙ ap (λ (n : ℕ). w.words (base + 4 * (first + n))) (let e : j ≡ j + 0 = omega arith in e))))
  restored_result j count q w is few rest (suc i) below =
      ap (λ (n : ℕ). after_r (restores_from first (suc j) count) (loaded j q w) w n) (let e : 17 + (j + suc i) ≡ 17 + (suc j + i) = omega arith in e)
      ∙ (rest.result i (omega (arith, below)) ∙ ap (λ (n : ℕ). w.words (base + 4 * (first + n))) (let e : suc j + i ≡ j + suc i = omega arith in e))

  pub are_restored : (j count : ℕ) (q : Words) (w : Contents) → q FRAME ≡ base → j + count ≤ 7 → AreRestored j count q w
  are_restored j zero q w is few = record { safe = tt; memory = refl; others = λ n aside. refl; result = λ i below. absurd (omega (arith, below)) }
  are_restored j (suc count) q w is few =
      let word : ℕ = w.words (memory_address (q FRAME) (4 * (first + j))) in
      let whole : (17 + j) % 32 ≡ 17 + j = omega (arith, few) in
      let base_is : loaded j q w FRAME ≡ base = put-other q ((17 + j) % 32) FRAME word (λ e. absurd (omega (arith, e, few))) ∙ is in
      let rest = are_restored (suc j) count (loaded j q w) w base_is (omega (arith, few)) in
      record {
        safe = (
          (
            ne_eqb ((17 + j) % 32) 0 (λ e. absurd (omega (arith, e, few))),
            subst (IsCell globals stack) (sym (there q j is (omega (arith, few)))) (cells j (omega (arith, few))),
          ),
          rest.safe,
        );
        memory = rest.memory;
        others = λ n aside. rest.others n (further j count n aside) ∙ put-other q ((17 + j) % 32) n word (λ same. beside j count n aside (same ∙ whole));
        result = restored_result j count q w is few rest;
      }

  pub record AreSaved (j count : ℕ) (q : Words) (m : Contents) : Type 0 where
    pub safe : AreSafe globals stack (saves_from first j count) q m
    pub registers : after_r (saves_from first j count) q m ≡ q
    pub outside : (a : ℕ) → a < base + 4 * (first + j) ⊎ base + 4 * (first + j + count) ≤ a → (after_w (saves_from first j count) q m).words a ≡ m.words a
    pub inside : (i : ℕ) → i < count → (after_w (saves_from first j count) q m).words (base + 4 * (first + (j + i))) ≡ q (17 + (j + i))
    pub untouched : (a : ℕ) → ((i : ℕ) → i < j + count → a ≢ base + 4 * (first + i)) → (after_w (saves_from first j count) q m).words a ≡ m.words a
    pub store_same : (after_w (saves_from first j count) q m).store ≡ m.store

  abbrev stored : (j : ℕ) (q : Words) (m : Contents) → Contents
  stored j q m = written m (memory_address (q FRAME) (4 * (first + j))) (q ((17 + j) % 32))

  saved_inside : (j count : ℕ) (q : Words) (m : Contents) → q FRAME ≡ base → j + suc count ≤ 7 → AreSaved (suc j) count q (stored j q m)
      → (i : ℕ) → i < suc count → (after_w (saves_from first (suc j) count) q (stored j q m)).words (base + 4 * (first + (j + i))) ≡ q (17 + (j + i))
  saved_inside j count q m is few rest zero below =
      let at : base + 4 * (first + (j + 0)) ≡ memory_address (q FRAME) (4 * (first + j)) = (let e : base + 4 * (first + (j + 0)) ≡ base + 4 * (first + j) = omega arith in e) ∙ sym (there q j is (omega (arith, few))) in
      rest.outside (base + 4 * (first + (j + 0))) (inl (omega arith))
      ∙ (ap (stored j q m).words at
      ∙ (put-same m.words (memory_address (q FRAME) (4 * (first + j))) (q ((17 + j) % 32))
      ∙ ap q (let e : (17 + j) % 32 ≡ 17 + (j + 0) = omega (arith, few) in e)))
  saved_inside j count q m is few rest (suc i) below =
      ap (after_w (saves_from first (suc j) count) q (stored j q m)).words (let e : base + 4 * (first + (j + suc i)) ≡ base + 4 * (first + (suc j + i)) = omega arith in e)
      ∙ (rest.inside i (omega (arith, below)) ∙ ap q (let e : 17 + (suc j + i) ≡ 17 + (j + suc i) = omega arith in e))

  further_word : (j count a : ℕ) → a < base + 4 * (first + j) ⊎ base + 4 * (first + j + suc count) ≤ a → a < base + 4 * (first + suc j) ⊎ base + 4 * (first + suc j + count) ≤ a
  further_word j count a (inl below) = inl (omega (arith, below))
  further_word j count a (inr above) = inr (omega (arith, above))

  beside_word : (j count a : ℕ) → a < base + 4 * (first + j) ⊎ base + 4 * (first + j + suc count) ≤ a → a ≢ base + 4 * (first + j)
  beside_word j count a (inl below) same = omega (arith, below, same)
  beside_word j count a (inr above) same = omega (arith, above, same)

  pub are_saved : (j count : ℕ) (q : Words) (m : Contents) → q FRAME ≡ base → j + count ≤ 7 → AreSaved j count q m
  are_saved j zero q m is few = record { safe = tt; registers = refl; outside = λ a aside. refl; inside = λ i below. absurd (omega (arith, below)); untouched = λ a apart. refl; store_same = refl }
  are_saved j (suc count) q m is few =
      let at = there q j is (omega (arith, few)) in
      let rest = are_saved (suc j) count q (stored j q m) is (omega (arith, few)) in
      record {
        safe = (subst (IsCell globals stack) (sym at) (cells j (omega (arith, few))), rest.safe);
        registers = rest.registers;
        outside = λ a aside.
            rest.outside a (further_word j count a aside)
            ∙ put-other m.words (memory_address (q FRAME) (4 * (first + j))) a (q ((17 + j) % 32)) (λ same. beside_word j count a aside (same ∙ at));
        inside = saved_inside j count q m is few rest;
        untouched = λ a apart.
            rest.untouched a (λ i below. apart i (omega (arith, below)))
            ∙ put-other m.words (memory_address (q FRAME) (4 * (first + j))) a (q ((17 + j) % 32)) (λ same. apart j (omega arith) (same ∙ at));
        store_same = rest.store_same;
      }

  -- After the saves at a function's entry, the words that the function leaves to its caller are those in the callee-saved registers.
  pub entered_left : (saved : ℕ) (q : Words) (m : Contents) → q FRAME ≡ base → saved ≤ 7
      → (j : ℕ) → Left first saved base (preserved_of q) (after_w (saves_from first 0 saved) q m) j ≡ preserved_of q j
  entered_left saved q m is few j = elim (cases_lt j saved) [
    | inl below ↦
        left_inside first saved base (preserved_of q) (after_w (saves_from first 0 saved) q m) j below
        ∙ (ap (λ (n : ℕ). (after_w (saves_from first 0 saved) q m).words (base + 4 * (first + n))) (let e : j ≡ 0 + j = omega arith in e)
        ∙ ((are_saved 0 saved q m is (omega (arith, few))).inside j below ∙ ap q (let e : 17 + (0 + j) ≡ 17 + j = omega arith in e)))
    | inr past ↦ left_past first saved base (preserved_of q) (after_w (saves_from first 0 saved) q m) j past
  ]

  -- After the restores at a function's return, the callee-saved registers hold the words left to the caller.
  pub returned_left : (saved : ℕ) (q : Words) (w : Contents) → q FRAME ≡ base → saved ≤ 7
      → (j : ℕ) → preserved_of (after_r (restores_from first 0 saved) q w) j ≡ Left first saved base (preserved_of q) w j
  returned_left saved q w is few j = elim (cases_lt j saved) [
    | inl below ↦
        ap (after_r (restores_from first 0 saved) q w) (let e : 17 + j ≡ 17 + (0 + j) = omega arith in e)
        ∙ ((are_restored 0 saved q w is (omega (arith, few))).result j below
        ∙ (ap (λ (n : ℕ). w.words (base + 4 * (first + n))) (let e : 0 + j ≡ j = omega arith in e)
        ∙ sym (left_inside first saved base (preserved_of q) w j below)))
    | inr past ↦
        (are_restored 0 saved q w is (omega (arith, few))).others (17 + j) (inr (omega (arith, past)))
        ∙ sym (left_past first saved base (preserved_of q) w j past)
  ]
