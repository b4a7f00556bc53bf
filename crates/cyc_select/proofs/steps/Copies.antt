-- Arguments are passed from a caller, in registers or from its frame, to the slots of the callee's frame below.
use Rattle.std.proofs.Common.{◌≡◌, ◌≢◌, ℕ, zero, suc, ◌+◌, ◌%◌, ◌^◌, ◌<◌, ◌≤◌, Bool, true, false, List, [], ◌∷◌, ◌++◌, Option, Some, None, refl, sym, ap, subst, ◌∙◌, arith, inl, inr}
use Rattle.std.specs.Prelude.{◌⊎◌, ◌==◌, if◌then◌else◌}
use Rattle.std.proofs.lemmas.Bool.{cases_eq, eqb-false, eqb-true, ne_eqb, false≢true, or_parts}
use Rattle.cyc_words.specs.Word.{IsWord, add_of}
use Rattle.cyc_plain.specs.declared.limits.TheConstants.{MOST_FRAME_WORDS}
use Rattle.cyc_isa.specs.declared.instr.Instr.{Instr}
use Rattle.cyc_select.specs.declared.constants.TheConstants.{FIRST, FRAME}
use Rattle.cyc_isa.specs.Effect.{memory_address}
use Rattle.cyc_plain.specs.inside.State.{Words, put}
use Rattle.cyc_plain.proofs.SlotLaws.{put-same, put-other}
use Rattle.cyc_frame.specs.inside.Layout.{slot_word}
use Rattle.cyc_frame.specs.inside.Frame.{Frame}
use Rattle.cyc_select.specs.inside.Instructions.{slot_offset, load, store_slot, copy}
use Rattle.cyc_select.specs.inside.Slots.{value_register, or_else, is_kept, made_in, keep_code, give_to, is_own, give_code}
use Rattle.cyc_select.specs.inside.Passing.{is_taken, free_register, passed_from, pass_from, pass, copies}
use Rattle.cyc_select.proofs.values.Blocks.{safe_append}
use Rattle.cyc_select.proofs.relation.Cells.{IsCell}
use Rattle.cyc_select.proofs.values.Operations.{address_at}
use Rattle.cyc_select.proofs.effects.Views.{Contents}
use Rattle.cyc_select.proofs.relation.Waiting.{frame_size}
use Rattle.cyc_select.proofs.relation.Values.{made_in_is}
use Rattle.cyc_select.proofs.effects.Sequences.{after_r, after_w, after_r-append, after_w-append, AreSafe}

not_taken : (callee : Frame) (slot j k : ℕ) → j < slot → is_taken callee slot k ≡ false → made_in callee j ≢ k
not_taken callee zero j k below free same = omega (arith, below)
not_taken callee (suc slot) j k below free same =
    let (before, last) = or_parts (is_taken callee slot k) (made_in callee slot == k) free in
    elim (cases_eq j slot) [
      | inl here ↦ eqb-false (made_in callee slot) k last (ap (made_in callee) (sym here) ∙ same)
      | inr apart ↦ not_taken callee slot j k (omega (arith, below, apart)) before same
    ]

pub is_free : (o : Option ℕ) (callee : Frame) (slot k : ℕ) → free_register o callee slot ≡ Some k → (o ≡ Some k) × (is_taken callee slot k ≡ false)
is_free None callee slot k from = absurd (let e : None ≡ Some k = from in cc)
is_free (Some register) callee slot k from = go (is_taken callee slot register) refl from
  where
    go : (b : Bool) → is_taken callee slot register ≡ b → (if b then None else Some register) ≡ Some k → (Some register ≡ Some k) × (is_taken callee slot k ≡ false)
    go true taken there = absurd (let e : None ≡ Some k = there in cc)
    go false free there = (there, ap (is_taken callee slot) (let e : k ≡ register = (let f : Some register ≡ Some k = there in cc) in e) ∙ free)

-- `Copied` describes the effect of passing arguments with the values `v` on registers and memory.
pub record Copied (globals stack : ℕ) (caller callee : Frame) (low base : ℕ) (v : ℕ → ℕ) (source slot count : ℕ) (q : Words) (m : Contents) : Type 0 where
  pub safe : AreSafe globals stack (copies caller callee source slot count) q m
  pub kept : (n : ℕ) → n < 6 ⊎ 24 < n → after_r (copies caller callee source slot count) q m n ≡ q n
  pub outside : (a : ℕ) → a < low ⊎ base ≤ a → (after_w (copies caller callee source slot count) q m).words a ≡ m.words a
  pub before : (j : ℕ) → j < slot → (after_w (copies caller callee source slot count) q m).words (low + slot_offset callee j) ≡ m.words (low + slot_offset callee j)
  pub inside : (j : ℕ) → j < count → is_kept callee (slot + j) ≡ true → (after_w (copies caller callee source slot count) q m).words (low + slot_offset callee (slot + j)) ≡ v (source + j)
  pub store : (after_w (copies caller callee source slot count) q m).store ≡ m.store
  -- After the arguments are copied, a register of exactly one callee slot contains that slot's argument; a register of no
  -- copied slot is unchanged.
  pub values : (j k : ℕ) → j < count → value_register callee (slot + j) ≡ Some k → ((i : ℕ) → i < count → value_register callee (slot + i) ≡ Some k → j ≡ i)
      → after_r (copies caller callee source slot count) q m k ≡ v (source + j)
  pub spares : (k : ℕ) → 6 ≤ k → k < 24 → ((i : ℕ) → i < count → value_register callee (slot + i) ≡ Some k → ⊥) → after_r (copies caller callee source slot count) q m k ≡ q k

-- The module assumes the frames of a caller and its callee, adjacent in the stack.
module _ (globals stack : ℕ) (caller callee : Frame) (caller_slots callee_slots : ℕ) (low base : ℕ) (above : low + frame_size ≡ base) (word : base + frame_size < 2 ^ 32)
    (caller_inside : (slot : ℕ) → slot < caller_slots → slot_word caller slot < MOST_FRAME_WORDS)
    (callee_inside : (slot : ℕ) → slot < callee_slots → slot_word callee slot < MOST_FRAME_WORDS)
    (apart : (a b : ℕ) → a < callee_slots → b < callee_slots → slot_word callee a ≡ slot_word callee b → a ≡ b)
    (caller_cell : (slot : ℕ) → slot < caller_slots → IsCell globals stack (base + slot_offset caller slot))
    (callee_cell : (slot : ℕ) → slot < callee_slots → IsCell globals stack (low + slot_offset callee slot))
    (from_low : (slot k : ℕ) → value_register callee slot ≡ Some k → 6 ≤ k) (below_high : (slot k : ℕ) → value_register callee slot ≡ Some k → k < 24) where
  -- Each argument passes through the register of its slot or through the first temporary register.
  made_range : (slot : ℕ) → (6 ≤ made_in callee slot % 32) × (made_in callee slot % 32 ≤ 24)
  made_range slot = go (value_register callee slot) refl
    where
      go : (o : Option ℕ) → value_register callee slot ≡ o → (6 ≤ or_else o FIRST % 32) × (or_else o FIRST % 32 ≤ 24)
      go None none = ((omega arith), (omega arith))
      go (Some k) has = ((omega (arith, from_low slot k has, below_high slot k has)), (omega (arith, from_low slot k has, below_high slot k has)))

  not_made : (slot n : ℕ) → n < 6 ⊎ 24 < n → n ≢ made_in callee slot % 32
  not_made slot n (inl below) same = omega (arith, below, same, (made_range slot).0)
  not_made slot n (inr above) same = omega (arith, above, same, (made_range slot).1)

  made_there : (slot k : ℕ) → value_register callee slot ≡ Some k → k ≡ made_in callee slot % 32
  made_there slot k has = omega (arith, made_in_is callee slot k has, below_high slot k has)

  made_otherwise : (slot k : ℕ) → k < 24 → (value_register callee slot ≡ Some k → ⊥) → k ≢ made_in callee slot % 32
  made_otherwise slot k high other = go (value_register callee slot) refl
    where
      go : (o : Option ℕ) → value_register callee slot ≡ o → k ≢ or_else o FIRST % 32
      go None none same = absurd (omega (arith, same, high))
      go (Some j) has same = other (has ∙ ap Some (let e : j ≡ k = omega (arith, same, below_high slot j has) in e))

  from_caller : (q : Words) (slot : ℕ) → q FRAME ≡ low → slot < caller_slots → memory_address (q FRAME) (frame_size + slot_offset caller slot) ≡ base + slot_offset caller slot
  from_caller q slot is_low below =
      ap (λ (x : ℕ). memory_address x (frame_size + slot_offset caller slot)) is_low
      ∙ (address_at low (frame_size + slot_offset caller slot) (omega (arith, caller_inside slot below)) (omega (arith, above, word, caller_inside slot below))
      ∙ (let e : low + (frame_size + slot_offset caller slot) ≡ base + slot_offset caller slot = omega (arith, above) in e))

  to_callee : (q : Words) (slot : ℕ) → q FRAME ≡ low → slot < callee_slots → memory_address (q FRAME) (slot_offset callee slot) ≡ low + slot_offset callee slot
  to_callee q slot is_low below =
      ap (λ (x : ℕ). memory_address x (slot_offset callee slot)) is_low
      ∙ address_at low (slot_offset callee slot) (omega (arith, callee_inside slot below)) (omega (arith, above, word, callee_inside slot below))

  -- ---- a word stored in the callee's slot, if its home includes memory

  abbrev stored : Bool → (register slot : ℕ) → List Instr
  stored b register slot = if b then store_slot callee register slot ∷ [] else []

  record IsStored (b : Bool) (register slot : ℕ) (q : Words) (m : Contents) (value : ℕ) : Type 0 where
    pub safe : AreSafe globals stack (stored b register slot) q m
    pub registers : after_r (stored b register slot) q m ≡ q
    pub outside : (a : ℕ) → a ≢ low + slot_offset callee slot → (after_w (stored b register slot) q m).words a ≡ m.words a
    pub inside : b ≡ true → (after_w (stored b register slot) q m).words (low + slot_offset callee slot) ≡ value
    pub store : (after_w (stored b register slot) q m).store ≡ m.store

  is_stored : (b : Bool) (register slot : ℕ) (q : Words) (m : Contents) (value : ℕ) → q FRAME ≡ low → slot < callee_slots → q (register % 32) ≡ value → IsStored b register slot q m value
  is_stored true register slot q m value is_low below is =
      let to = to_callee q slot is_low below in
      record {
        safe = (subst (IsCell globals stack) (sym to) (callee_cell slot below), tt);
        registers = refl;
        outside = λ a other. ap (λ (x : ℕ). put m.words x (q (register % 32)) a) to ∙ put-other m.words (low + slot_offset callee slot) a (q (register % 32)) other;
        inside = λ kept. ap (λ (x : ℕ). put m.words x (q (register % 32)) (low + slot_offset callee slot)) to ∙ (put-same m.words (low + slot_offset callee slot) (q (register % 32)) ∙ is);
        store = refl;
      }
  is_stored false register slot q m value is_low below is =
      record { safe = tt; registers = refl; outside = λ a other. refl; inside = λ kept. absurd (false≢true kept); store = refl }

  -- ---- one argument

  record Passes (is : List Instr) (slot : ℕ) (q : Words) (m : Contents) (value : ℕ) : Type 0 where
    pub safe : AreSafe globals stack is q m
    pub kept : (n : ℕ) → n < 6 ⊎ 24 < n → after_r is q m n ≡ q n
    pub made : (k : ℕ) → value_register callee slot ≡ Some k → after_r is q m k ≡ value
    pub others : (n : ℕ) → n < 24 → (value_register callee slot ≡ Some n → ⊥) → after_r is q m n ≡ q n
    pub outside : (a : ℕ) → a ≢ low + slot_offset callee slot → (after_w is q m).words a ≡ m.words a
    pub inside : is_kept callee slot ≡ true → (after_w is q m).words (low + slot_offset callee slot) ≡ value
    pub store : (after_w is q m).store ≡ m.store

  -- An instruction that puts the argument into the callee slot's register, followed by a store of it in memory if needed, passes the
  -- argument.
  through : (i : Instr) (slot : ℕ) (q : Words) (m : Contents) (value got : ℕ) → q FRAME ≡ low → slot < callee_slots → AreSafe globals stack (i ∷ []) q m
      → after_r (i ∷ []) q m ≡ put q (made_in callee slot % 32) got → after_w (i ∷ []) q m ≡ m → got ≡ value → Passes (i ∷ keep_code callee slot) slot q m value
  through i slot q m value got is_low below safe_here registers memory is =
      let q1 : Words = after_r (i ∷ []) q m in
      let m1 : Contents = after_w (i ∷ []) q m in
      let at : (n : ℕ) → after_r (i ∷ []) q m n ≡ put q (made_in callee slot % 32) got n = λ n. ap (λ (x : Words). x n) registers in
      let made_there_is : after_r (i ∷ []) q m (made_in callee slot % 32) ≡ value = at (made_in callee slot % 32) ∙ (put-same q (made_in callee slot % 32) got ∙ is) in
      let other : (n : ℕ) → n ≢ made_in callee slot % 32 → after_r (i ∷ []) q m n ≡ q n = λ n apart_from. at n ∙ put-other q (made_in callee slot % 32) n got apart_from in
      let st = is_stored (is_kept callee slot) (made_in callee slot) slot q1 m1 value (other FRAME (not_made slot FRAME (inr (omega arith))) ∙ is_low) below made_there_is in
      let same : (n : ℕ) → after_r (i ∷ keep_code callee slot) q m n ≡ after_r (i ∷ []) q m n = λ n. ap (λ (x : Words). x n) st.registers in
      record {
        safe = (safe_here.0, st.safe);
        kept = λ n aside. same n ∙ other n (not_made slot n aside);
        made = λ k has. same k ∙ (ap (after_r (i ∷ []) q m) (made_there slot k has) ∙ made_there_is);
        others = λ n high none. same n ∙ other n (made_otherwise slot n high none);
        outside = λ a elsewhere. st.outside a elsewhere ∙ ap (λ (x : Contents). x.words a) memory;
        inside = λ is_kept_there. st.inside is_kept_there;
        store = st.store ∙ ap (λ (x : Contents). x.store) memory;
      }

  one_passed : (source slot : ℕ) (q : Words) (m : Contents) (value : ℕ) → q 0 ≡ 0 → q FRAME ≡ low → source < caller_slots → slot < callee_slots
      → (passed_from caller callee source slot ≡ None → m.words (base + slot_offset caller source) ≡ value)
      → ((k : ℕ) → passed_from caller callee source slot ≡ Some k → (6 ≤ k) × (k < 24) × (q k ≡ value) × IsWord value)
      → Passes (pass caller callee source slot) slot q m value
  one_passed source slot q m value zero_is is_low source_below slot_below there held = go (passed_from caller callee source slot) refl
    where
      sum_is : (n : ℕ) → IsWord n → add_of n 0 ≡ n
      sum_is n fits = let e : add_of n 0 ≡ n = omega (arith, fits) in e

      -- An argument that is in a register of the caller is passed from this register.
      given : (o : Option ℕ) (k : ℕ) → value_register callee slot ≡ o → (k < 24) × (q k ≡ value) × IsWord value → Passes (give_to o callee k slot) slot q m value
      given None k none (high, is, fits) =
          let whole : k % 32 ≡ k = omega (arith, high) in
          let st = is_stored true k slot q m value is_low slot_below (ap q whole ∙ is) in
          record {
            safe = st.safe;
            kept = λ n aside. refl;
            made = λ j has. absurd (let e : None ≡ Some j = sym none ∙ has in cc);
            others = λ n n_high other. refl;
            outside = st.outside;
            inside = λ kept. st.inside refl;
            store = st.store;
          }
      given (Some own) k has (high, is, fits) =
          let whole : k % 32 ≡ k = omega (arith, high) in
          let made : made_in callee slot ≡ own = made_in_is callee slot own has in
          through (copy own k) slot q m value (add_of (q (k % 32)) (q 0)) is_low slot_below
          (ne_eqb (own % 32) 0 (λ e. absurd (omega (arith, e, from_low slot own has, below_high slot own has))), tt)
          (ap (λ (n : ℕ). put q (n % 32) (add_of (q (k % 32)) (q 0))) (sym made)) refl
          (ap (add_of (q (k % 32))) zero_is ∙ (ap (λ (x : ℕ). add_of x 0) (ap q whole ∙ is) ∙ sum_is value fits))

      -- If `is_own` holds, the argument is already in the register of its slot.
      is_there : (o : Option ℕ) (k : ℕ) → is_own o k ≡ true → o ≡ Some k
      is_there None k own = absurd (false≢true own)
      is_there (Some register) k own = ap Some (eqb-true register k own)

      handed : (b : Bool) (k : ℕ) → is_own (value_register callee slot) k ≡ b → (k < 24) × (q k ≡ value) × IsWord value
          → Passes (if b then keep_code callee slot else give_code callee k slot) slot q m value
      handed true k own (high, is, fits) =
          let has : value_register callee slot ≡ Some k = is_there (value_register callee slot) k own in
          let made : made_in callee slot ≡ k = made_in_is callee slot k has in
          let whole : k % 32 ≡ k = omega (arith, high) in
          let st = is_stored (is_kept callee slot) (made_in callee slot) slot q m value is_low slot_below (ap (λ (n : ℕ). q (n % 32)) made ∙ (ap q whole ∙ is)) in
          record {
            safe = st.safe;
            kept = λ n aside. ap (λ (x : Words). x n) st.registers;
            made = λ j also. ap (λ (x : Words). x j) st.registers ∙ (ap q (let e : j ≡ k = (let f : Some j ≡ Some k = sym also ∙ has in cc) in e) ∙ is);
            others = λ n n_high other. ap (λ (x : Words). x n) st.registers;
            outside = st.outside;
            inside = st.inside;
            store = st.store;
          }
      handed false k own held_there = given (value_register callee slot) k refl held_there

      go : (o : Option ℕ) → passed_from caller callee source slot ≡ o → Passes (pass_from o caller callee source slot) slot q m value
      go None none =
          let from = from_caller q source is_low source_below in
          through (load (made_in callee slot) (frame_size + slot_offset caller source)) slot q m value (m.words (memory_address (q FRAME) (frame_size + slot_offset caller source))) is_low slot_below
          ((ne_eqb (made_in callee slot % 32) 0 (λ e. absurd (omega (arith, e, (made_range slot).0))), subst (IsCell globals stack) (sym from) (caller_cell source source_below)), tt)
          refl refl (ap m.words from ∙ there none)
      go (Some k) some = let (k_low, high, is, fits) = held k some in handed (is_own (value_register callee slot) k) k refl (high, is, fits)

  -- ---- all arguments

  abbrev pub AreThere : (v : ℕ → ℕ) (source slot count : ℕ) (m : Contents) → Type 0
  AreThere v source slot count m =
      (j : ℕ) → j < count → passed_from caller callee (source + j) (slot + j) ≡ None → m.words (base + slot_offset caller (source + j)) ≡ v (source + j)

  abbrev pub AreHeld : (v : ℕ → ℕ) (source slot count : ℕ) (q : Words) → Type 0
  AreHeld v source slot count q =
      (j k : ℕ) → j < count → passed_from caller callee (source + j) (slot + j) ≡ Some k → (6 ≤ k) × (k < 24) × (q k ≡ v (source + j)) × IsWord (v (source + j))

  pub copied_all : (v : ℕ → ℕ) (source slot count : ℕ) (q : Words) (m : Contents) → q 0 ≡ 0 → q FRAME ≡ low → source + count ≤ caller_slots → slot + count ≤ callee_slots
      → AreThere v source slot count m → AreHeld v source slot count q → Copied globals stack caller callee low base v source slot count q m
  copied_all v source slot zero q m zero_is is_low source_fits slot_fits there held = record {
    safe = tt;
    kept = λ n other. refl;
    outside = λ a where_to. refl;
    before = λ j below. refl;
    inside = λ j below is_kept_there. absurd (omega (arith, below));
    store = refl;
    values = λ j k below has alone. absurd (omega (arith, below));
    spares = λ k from high none. refl;
  }
  copied_all v source slot (suc count) q m zero_is is_low source_fits slot_fits there held =
      let source_below : source < caller_slots = omega (arith, source_fits) in
      let slot_below : slot < callee_slots = omega (arith, slot_fits) in
      let is : List Instr = pass caller callee source slot in
      let js : List Instr = copies caller callee (suc source) (suc slot) count in
      let one = one_passed source slot q m (v source) zero_is is_low source_below slot_below (first_there v source slot count m there) (first_held v source slot count q held) in
      let q1 : Words = after_r is q m in
      let m1 : Contents = after_w is q m in
      let rest = copied_all v (suc source) (suc slot) count q1 m1 (one.kept 0 (inl (omega arith)) ∙ zero_is) (one.kept FRAME (inr (omega arith)) ∙ is_low) (omega (arith, source_fits)) (omega (arith, slot_fits))
      (λ j below none. one.outside (base + slot_offset caller (suc source + j)) (out_of slot (callee_inside slot slot_below) (base + slot_offset caller (suc source + j)) (inr (omega arith))) ∙ next_there v source slot count m there j below none)
      (λ j k below some. next_held v source slot count q held q1 (λ n high none. one.others n high none) j k below some) in
      let registers : (n : ℕ) → after_r (is ++ js) q m n ≡ after_r js q1 m1 n = λ n. ap (λ (x : Words). x n) (after_r-append is js q m) in
      let memory : (a : ℕ) → (after_w (is ++ js) q m).words a ≡ (after_w js q1 m1).words a = λ a. ap (λ (x : Contents). x.words a) (after_w-append is js q m) in
      record {
        safe = safe_append globals stack is js q m one.safe rest.safe;
        kept = λ n aside. registers n ∙ (rest.kept n aside ∙ one.kept n aside);
        outside = λ a where_to. memory a ∙ (rest.outside a where_to ∙ one.outside a (out_of slot (callee_inside slot slot_below) a where_to));
        before = λ j below.
            memory (low + slot_offset callee j)
            ∙ (rest.before j (omega (arith, below))
            ∙ one.outside (low + slot_offset callee j) (λ e. absurd (omega (arith, below, apart j slot (omega (arith, below, slot_below)) slot_below (omega (arith, e))))));
        inside = inside_at v source slot count q1 m1 rest (after_w (is ++ js) q m) memory one.inside;
        store = ap (λ (x : Contents). x.store) (after_w-append is js q m) ∙ (rest.store ∙ one.store);
        values = values_at v source slot count q1 m1 rest (after_r (is ++ js) q m) registers one.made;
        spares = λ k from_eight high none.
            registers k
            ∙ (rest.spares k from_eight high (λ i below taken. none (suc i) (omega (arith, below)) (ap (value_register callee) (let e : slot + suc i ≡ suc slot + i = omega arith in e) ∙ taken))
            ∙ one.others k high (λ taken. none 0 (omega arith) (ap (value_register callee) (let e : slot + 0 ≡ slot = omega arith in e) ∙ taken)));
      }
    where
      out_of : (slot : ℕ) → slot_word callee slot < MOST_FRAME_WORDS → (a : ℕ) → a < low ⊎ base ≤ a → a ≢ low + slot_offset callee slot
      out_of slot fits a (inl below) same = omega (arith, below, same)
      out_of slot fits a (inr over) same = omega (arith, over, same, above, fits)

      -- The register from which an argument is passed depends only on the argument's position in the call.
      from_at : (source slot j : ℕ) (s t : ℕ) → s ≡ source + j → t ≡ slot + j → passed_from caller callee (source + j) (slot + j) ≡ passed_from caller callee s t
      from_at source slot j s t is_s is_t = ap (λ (n : ℕ). passed_from caller callee n (slot + j)) (sym is_s) ∙ ap (passed_from caller callee s) (sym is_t)

      first_there : (v : ℕ → ℕ) (source slot count : ℕ) (m : Contents) → AreThere v source slot (suc count) m → passed_from caller callee source slot ≡ None → m.words (base + slot_offset caller source) ≡ v source
      first_there v source slot count m there none =
          let here : source + 0 ≡ source = omega arith in
          ap (λ (n : ℕ). m.words (base + slot_offset caller n)) (sym here)
          ∙ (there 0 (omega arith) (from_at source slot 0 source slot (omega arith) (omega arith) ∙ none) ∙ ap v here)

      first_held : (v : ℕ → ℕ) (source slot count : ℕ) (q : Words) → AreHeld v source slot (suc count) q → (k : ℕ) → passed_from caller callee source slot ≡ Some k → (6 ≤ k) × (k < 24) × (q k ≡ v source) × IsWord (v source)
      first_held v source slot count q held k some =
          let here : source + 0 ≡ source = omega arith in
          let (k_low, high, is, fits) = held 0 k (omega arith) (from_at source slot 0 source slot (omega arith) (omega arith) ∙ some) in
          (k_low, high, is ∙ ap v here, subst (λ (n : ℕ). IsWord (v n)) here fits)

      next_there : (v : ℕ → ℕ) (source slot count : ℕ) (m : Contents) → AreThere v source slot (suc count) m
          → (j : ℕ) → j < count → passed_from caller callee (suc source + j) (suc slot + j) ≡ None → m.words (base + slot_offset caller (suc source + j)) ≡ v (suc source + j)
      next_there v source slot count m there j below none =
          let next : source + suc j ≡ suc source + j = omega arith in
          ap (λ (n : ℕ). m.words (base + slot_offset caller n)) (sym next)
          ∙ (there (suc j) (omega (arith, below)) (from_at source slot (suc j) (suc source + j) (suc slot + j) (omega arith) (omega arith) ∙ none) ∙ ap v next)

      -- Passing one argument leaves the registers that hold the remaining arguments unchanged.
      next_held : (v : ℕ → ℕ) (source slot count : ℕ) (q : Words) → AreHeld v source slot (suc count) q → (q1 : Words) → ((n : ℕ) → n < 24 → (value_register callee slot ≡ Some n → ⊥) → q1 n ≡ q n)
          → (j k : ℕ) → j < count → passed_from caller callee (suc source + j) (suc slot + j) ≡ Some k → (6 ≤ k) × (k < 24) × (q1 k ≡ v (suc source + j)) × IsWord (v (suc source + j))
      next_held v source slot count q held q1 others j k below some =
          let next : source + suc j ≡ suc source + j = omega arith in
          let (k_low, high, is, fits) = held (suc j) k (omega (arith, below)) (from_at source slot (suc j) (suc source + j) (suc slot + j) (omega arith) (omega arith) ∙ some) in
          let free = (is_free (value_register caller (suc source + j)) callee (suc slot + j) k some).1 in
          (k_low, high, others k high (λ has. not_taken callee (suc slot + j) slot k (omega arith) free (made_in_is callee slot k has)) ∙ (is ∙ ap v next), subst (λ (n : ℕ). IsWord (v n)) next fits)

      inside_at : (v : ℕ → ℕ) (source slot count : ℕ) (q1 : Words) (m1 : Contents) → Copied globals stack caller callee low base v (suc source) (suc slot) count q1 m1
          → (all : Contents) → ((a : ℕ) → all.words a ≡ (after_w (copies caller callee (suc source) (suc slot) count) q1 m1).words a)
          → (is_kept callee slot ≡ true → m1.words (low + slot_offset callee slot) ≡ v source)
          → (j : ℕ) → j < suc count → is_kept callee (slot + j) ≡ true → all.words (low + slot_offset callee (slot + j)) ≡ v (source + j)
      inside_at v source slot count q1 m1 rest all memory first zero below kept_there =
          let here : slot + 0 ≡ slot = omega arith in
          ap (λ (x : ℕ). all.words (low + slot_offset callee x)) here
          ∙ (memory (low + slot_offset callee slot)
          ∙ (rest.before slot (omega arith)
          ∙ (first (ap (is_kept callee) (sym here) ∙ kept_there) ∙ ap v (let e : source ≡ source + 0 = omega arith in e))))
      inside_at v source slot count q1 m1 rest all memory first (suc j) below kept_there =
          let here : slot + suc j ≡ suc slot + j = omega arith in
          ap (λ (x : ℕ). all.words (low + slot_offset callee x)) here
          ∙ (memory (low + slot_offset callee (suc slot + j))
          ∙ (rest.inside j (omega (arith, below)) (ap (is_kept callee) (sym here) ∙ kept_there) ∙ ap v (let e : suc source + j ≡ source + suc j = omega arith in e)))

      values_at : (v : ℕ → ℕ) (source slot count : ℕ) (q1 : Words) (m1 : Contents) → Copied globals stack caller callee low base v (suc source) (suc slot) count q1 m1
          → (all : Words) → ((n : ℕ) → all n ≡ after_r (copies caller callee (suc source) (suc slot) count) q1 m1 n)
          → ((k : ℕ) → value_register callee slot ≡ Some k → q1 k ≡ v source)
          → (j k : ℕ) → j < suc count → value_register callee (slot + j) ≡ Some k → ((i : ℕ) → i < suc count → value_register callee (slot + i) ≡ Some k → j ≡ i)
          → all k ≡ v (source + j)
      values_at v source slot count q1 m1 rest all registers first zero k below has alone =
          let own : value_register callee slot ≡ Some k = ap (value_register callee) (let e : slot ≡ slot + 0 = omega arith in e) ∙ has in
          registers k
          ∙ (rest.spares k (from_low slot k own) (below_high slot k own)
          (λ i i_below taken. absurd (let e = alone (suc i) (omega (arith, i_below)) (ap (value_register callee) (let f : slot + suc i ≡ suc slot + i = omega arith in f) ∙ taken) in omega (arith, e)))
          ∙ (first k own ∙ ap v (let e : source ≡ source + 0 = omega arith in e)))
      values_at v source slot count q1 m1 rest all registers first (suc j) k below has alone =
          registers k
          ∙ (rest.values j k (omega (arith, below)) (ap (value_register callee) (let e : suc slot + j ≡ slot + suc j = omega arith in e) ∙ has)
          (λ i i_below its. let e = alone (suc i) (omega (arith, i_below)) (ap (value_register callee) (let f : slot + suc i ≡ suc slot + i = omega arith in f) ∙ its) in omega (arith, e))
          ∙ ap v (let e : suc source + j ≡ source + suc j = omega arith in e))
