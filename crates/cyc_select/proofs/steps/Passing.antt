-- The simulation of calls from their first line on: each argument that is passed from memory is first stored in memory.
use Rattle.std.proofs.Common.{◌≡◌, ℕ, zero, suc, ◌+◌, ◌*◌, ◌%◌, ◌<◌, ◌≤◌, Bool, true, false, List, [], ◌∷◌, ◌++◌, length, Option, Some, None, refl, sym, ap, subst, ◌∙◌, arith, inl, inr}
use Rattle.std.specs.Prelude.{if◌then◌else◌}
use Rattle.std.proofs.lemmas.Bool.{eq-eqb, cases_eq}
use Rattle.cyc_select.specs.declared.constants.TheConstants.{FRAME}
use Rattle.cyc_words.specs.Word.{IsWord}
use Rattle.cyc_isa.specs.declared.instr.Instr.{Instr}
use Rattle.cyc_isa.specs.Effect.{memory_address}
use Rattle.cyc_machine_model.specs.State.{globals_length, words_per_call}
use Rattle.cyc_plain.specs.declared.instruction.Instruction.TheVariants as plain
use Rattle.cyc_plain.specs.inside.Program.{Program, routine_at}
use Rattle.cyc_plain.specs.inside.State as states
use Rattle.cyc_plain.specs.inside.State.{Words, put, Configuration}
use Rattle.cyc_plain.specs.inside.Step.{instruction_at}
use Rattle.cyc_plain.specs.inside.WellFormed.{IsWellFormed, IsCallInRange}
use Rattle.cyc_plain.proofs.SlotLaws.{put-same, put-other}
use Rattle.cyc_registers.specs.inside.Interference.{AreHomes}
use Rattle.cyc_frame.specs.inside.Layout.{AreFrames, frame_at}
use Rattle.cyc_frame.specs.inside.Frame.{Frame}
use Rattle.cyc_select.specs.inside.Labelled.{Labelled, IsFormed, AreAddresses}
use Rattle.cyc_select.specs.inside.Machine as labelled
use Rattle.cyc_select.specs.inside.Machine.{Running}
use Rattle.cyc_select.specs.inside.Instructions.{slot_offset, store_slot}
use Rattle.cyc_select.specs.inside.Slots.{coming, value_register, is_kept, made_in}
use Rattle.cyc_select.specs.inside.Passing.{passed_from, spill_from, spill, spills, spills_count, copies_count}
use Rattle.cyc_select.specs.inside.Counts.{function_line, instruction_line, body_count}
use Rattle.cyc_select.specs.inside.Selection.{ordinary, calling_code, body}
use Rattle.cyc_select.proofs.values.Blocks.{safe_append}
use Rattle.cyc_select.proofs.steps.Calls.{length_ordinary, calling_goes}
use Rattle.cyc_select.proofs.steps.Copies.{is_free}
use Rattle.cyc_select.proofs.emission.Counts.{length_spills}
use Rattle.cyc_select.proofs.steps.Trailing.{same_slots}
use Rattle.cyc_select.proofs.relation.Waiting.{preserved_of, Finds, after_line}
use Rattle.cyc_select.proofs.relation.Standing.{Stage, Standing, slot_address, slot_cell, standing_slot, stage_of}
use Rattle.cyc_select.proofs.relation.Matches.{After, At, Reached}
use Rattle.cyc_select.proofs.relation.Values.{Caches, memory_kept, made_in_is, among}
use Rattle.cyc_select.proofs.effects.Views.{Contents, written}
use Rattle.cyc_select.proofs.effects.Sequences.{Stands, stands_front, stands_back, after_r, after_w, after_r-append, after_w-append, AreSafe}
use Rattle.cyc_select.proofs.effects.Walks.{Walk, now_at, now_is, walk_few, walk_from, walk_block}

module _ (program : Program) (well : IsWellFormed program) (frames : List Frame) (fit : AreFrames program frames) (addresses : ℕ → ℕ) (pages calls : ℕ) (few : calls ≤ 4096)
    (c : Configuration) (r : Words) (base back : ℕ) (stage : Stage) (callee : ℕ) (known : c.active.function < length program.functions) where
  abbrev frame : Frame
  frame = frame_at frames c.active.function

  abbrev slots : ℕ
  slots = (routine_at program c.active.function).slots

  abbrev StandsIn : (m : Contents) → Type 0
  StandsIn m = Standing program frames addresses pages calls c r m base back stage c.active.slots

  -- `IsThere` says that the slot's word in the frame is the slot's value.
  abbrev IsThere : (m : Contents) (slot : ℕ) → Type 0
  IsThere m slot = m.words (base + slot_offset (frame_at frames c.active.function) slot) ≡ c.active.slots slot

  -- Returns the register from which an argument is passed, or `None` if it is passed from memory.
  abbrev from : (source slot : ℕ) → Option ℕ
  from source slot = passed_from (frame_at frames c.active.function) (coming (frame_at frames callee)) source slot

  record AreSpilled (is : List Instr) (m : Contents) (source slot count : ℕ) : Type 0 where
    pub safe : AreSafe globals_length (words_per_call * calls) is r m
    pub same : after_r is r m ≡ r
    pub standing : StandsIn (after_w is r m)
    pub stay : (a : ℕ) → a < (routine_at program c.active.function).slots → IsThere m a → IsThere (after_w is r m) a
    pub there : (k : ℕ) → k < count → from (source + k) (slot + k) ≡ None → IsThere (after_w is r m) (source + k)

  -- `HasCached` says that the register of a slot, if it has one, holds the slot's value.
  abbrev HasCached : (slot : ℕ) → Type 0
  HasCached slot = (k : ℕ) → value_register (frame_at frames c.active.function) slot ≡ Some k → r k ≡ c.active.slots slot

  right : AreHomes program (routine_at program c.active.function) (frame_at frames c.active.function).saved (frame_at frames c.active.function).homes
  right = fit.homes c.active.function known

  made_has : (slot : ℕ) → is_kept (frame_at frames c.active.function) slot ≡ false → HasCached slot → r (made_in (frame_at frames c.active.function) slot % 32) ≡ c.active.slots slot
  made_has slot unkept cached = go (value_register (frame_at frames c.active.function) slot) refl
    where
      go : (o : Option ℕ) → value_register (frame_at frames c.active.function) slot ≡ o → r (made_in (frame_at frames c.active.function) slot % 32) ≡ c.active.slots slot
      go None none = absurd (let e : false ≡ true = sym unkept ∙ memory_kept (frame_at frames c.active.function) slot none in cc)
      go (Some k) has =
          ap r (let e : made_in (frame_at frames c.active.function) slot % 32 ≡ k = omega (arith, made_in_is (frame_at frames c.active.function) slot k has, right.high slot k has) in e)
          ∙ cached k has

  -- `IsSpilled` describes the effect of storing a slot's word in memory, if memory does not contain it yet.
  record IsSpilled (is : List Instr) (m : Contents) (slot : ℕ) : Type 0 where
    pub safe : AreSafe globals_length (words_per_call * calls) is r m
    pub same : after_r is r m ≡ r
    pub standing : StandsIn (after_w is r m)
    pub stay : (a : ℕ) → a < (routine_at program c.active.function).slots → IsThere m a → IsThere (after_w is r m) a
    pub there : IsThere (after_w is r m) slot

  one_spilled : (m : Contents) (slot : ℕ) → slot < (routine_at program c.active.function).slots → StandsIn m → HasCached slot
      → (b : Bool) → is_kept (frame_at frames c.active.function) slot ≡ b
      → IsSpilled (if b then [] else store_slot (frame_at frames c.active.function) (made_in (frame_at frames c.active.function) slot) slot ∷ []) m slot
  one_spilled m slot below s cached true kept = record {
    safe = tt;
    same = refl;
    standing = s;
    stay = λ a a_below is. is;
    there = s.holds slot below kept;
  }
  one_spilled m slot below s cached false unkept =
      let at : ℕ = base + slot_offset (frame_at frames c.active.function) slot in
      let word : ℕ = c.active.slots slot in
      let puts : written m (memory_address (r FRAME) (slot_offset (frame_at frames c.active.function) slot)) (r (made_in (frame_at frames c.active.function) slot % 32)) ≡ written m at word =
      ap (λ (a : ℕ). written m a (r (made_in (frame_at frames c.active.function) slot % 32))) (slot_address program well frames fit addresses pages calls few c r m base back stage c.active.slots s slot below)
      ∙ ap (written m at) (made_has slot unkept cached) in
      let put_it = standing_slot program well frames fit addresses pages calls few c r m base back stage c.active.slots s slot word below in
      let in_place = same_slots program well frames fit addresses pages calls few c r base back stage slot slot c.active.slots c.active.slots (written m at word) (put c.active.slots slot word) c.active.slots same_put put_it in
      record {
        safe = (slot_cell program well frames fit addresses pages calls few c r m base back stage c.active.slots s slot below, tt);
        same = refl;
        standing = subst (λ (x : Contents). StandsIn x) (sym puts) in_place;
        stay = λ a a_below is. subst (λ (x : Contents). IsThere x a) (sym puts) (stays a a_below is);
        there = subst (λ (x : Contents). IsThere x slot) (sym puts) (put-same m.words at word);
      }
    where
      same_put : (number : ℕ) → put c.active.slots slot (c.active.slots slot) number ≡ c.active.slots number
      same_put number = elim (cases_eq number slot) [
        | inl same ↦ ap (put c.active.slots slot (c.active.slots slot)) same ∙ (put-same c.active.slots slot (c.active.slots slot) ∙ ap c.active.slots (sym same))
        | inr apart ↦ put-other c.active.slots slot number (c.active.slots slot) apart
      ]

      stays : (a : ℕ) → a < (routine_at program c.active.function).slots → IsThere m a → IsThere (written m (base + slot_offset (frame_at frames c.active.function) slot) (c.active.slots slot)) a
      stays a a_below is = elim (cases_eq a slot) [
        | inl same ↦
            ap (λ (n : ℕ). put m.words (base + slot_offset (frame_at frames c.active.function) slot) (c.active.slots slot) (base + slot_offset (frame_at frames c.active.function) n)) same
            ∙ (put-same m.words (base + slot_offset (frame_at frames c.active.function) slot) (c.active.slots slot) ∙ ap c.active.slots (sym same))
        | inr apart ↦
            put-other m.words (base + slot_offset (frame_at frames c.active.function) slot) (base + slot_offset (frame_at frames c.active.function) a) (c.active.slots slot)
            (λ e. apart ((fit.each c.active.function known).apart a slot a_below below (omega (arith, e))))
            ∙ is
      ]

  -- A slot is stored in memory before a call only if it is an argument that is passed from memory.
  spilled_from : (m : Contents) (source slot : ℕ) → source < (routine_at program c.active.function).slots → StandsIn m → HasCached source
      → (o : Option ℕ) → from source slot ≡ o → AreSpilled (spill_from o (frame_at frames c.active.function) source) m source slot 1
  spilled_from m source slot below s cached None none =
      let one = one_spilled m source below s cached (is_kept (frame_at frames c.active.function) source) refl in
      record {
        safe = one.safe;
        same = one.same;
        standing = one.standing;
        stay = one.stay;
        there = λ k k_below from_memory. subst (IsThere (after_w (spill_from None (frame_at frames c.active.function) source) r m)) (let e : source ≡ source + k = omega (arith, k_below) in e) one.there;
      }
  spilled_from m source slot below s cached (Some register) some = record {
    safe = tt;
    same = refl;
    standing = s;
    stay = λ a a_below is. is;
    there = λ k k_below none. absurd (let e : None ≡ Some register = sym none ∙ (here k k_below ∙ some) in cc);
  }
    where
      here : (k : ℕ) → k < 1 → from (source + k) (slot + k) ≡ from source slot
      here zero below = ap (λ (n : ℕ). from n (slot + 0)) (let e : source + 0 ≡ source = omega arith in e) ∙ ap (from source) (let e : slot + 0 ≡ slot = omega arith in e)
      here (suc k) below = absurd (omega (arith, below))

  are_spilled : (m : Contents) (source slot count : ℕ) → source + count ≤ (routine_at program c.active.function).slots → StandsIn m → ((k : ℕ) → k < count → HasCached (source + k))
      → AreSpilled (spills (frame_at frames c.active.function) (coming (frame_at frames callee)) source slot count) m source slot count
  are_spilled m source slot zero fits s cached = record { safe = tt; same = refl; standing = s; stay = λ a a_below is. is; there = λ k below none. absurd (omega (arith, below)) }
  are_spilled m source slot (suc count) fits s cached =
      let here : source + 0 ≡ source = omega arith in
      let is : List Instr = spill (frame_at frames c.active.function) (coming (frame_at frames callee)) source slot in
      let js : List Instr = spills (frame_at frames c.active.function) (coming (frame_at frames callee)) (suc source) (suc slot) count in
      let one = spilled_from m source slot (omega (arith, fits)) s (subst HasCached here (cached 0 (omega arith))) (from source slot) refl in
      let m1 : Contents = after_w is r m in
      let rest = are_spilled m1 (suc source) (suc slot) count (omega (arith, fits)) one.standing
      (λ k below. subst HasCached (let e : source + suc k ≡ suc source + k = omega arith in e) (cached (suc k) (omega (arith, below)))) in
      let memory : after_w (is ++ js) r m ≡ after_w js r m1 = after_w-append is js r m ∙ ap (λ (q : Words). after_w js q m1) one.same in
      let at : (a : ℕ) → IsThere (after_w js r m1) a → IsThere (after_w (is ++ js) r m) a = λ a there. subst (λ (x : Contents). IsThere x a) (sym memory) there in
      record {
        safe = safe_append globals_length (words_per_call * calls) is js r m one.safe (subst (λ (q : Words). AreSafe globals_length (words_per_call * calls) js q m1) (sym one.same) rest.safe);
        same = after_r-append is js r m ∙ (ap (λ (q : Words). after_r js q m1) one.same ∙ rest.same);
        standing = subst (λ (x : Contents). StandsIn x) (sym memory) rest.standing;
        stay = λ a a_below there. at a (rest.stay a a_below (one.stay a a_below there));
        there = there_at source slot count m1 (after_w (is ++ js) r m) (omega (arith, fits)) rest at (λ none. one.there 0 (omega arith) none);
      }
    where
      there_at : (source slot count : ℕ) (m1 all : Contents) → source + suc count ≤ (routine_at program c.active.function).slots
          → (rest : AreSpilled (spills (frame_at frames c.active.function) (coming (frame_at frames callee)) (suc source) (suc slot) count) m1 (suc source) (suc slot) count)
          → ((a : ℕ) → IsThere (after_w (spills (frame_at frames c.active.function) (coming (frame_at frames callee)) (suc source) (suc slot) count) r m1) a → IsThere all a)
          → (from (source + 0) (slot + 0) ≡ None → IsThere m1 (source + 0)) → (k : ℕ) → k < suc count → from (source + k) (slot + k) ≡ None → IsThere all (source + k)
      there_at source slot count m1 all fits rest at first zero below none = at (source + 0) (rest.stay (source + 0) (omega (arith, fits)) (first none))
      there_at source slot count m1 all fits rest at first (suc k) below none =
          let next : suc source + k ≡ source + suc k = omega arith in
          at (source + suc k)
          (subst (IsThere (after_w (spills (frame_at frames c.active.function) (coming (frame_at frames callee)) (suc source) (suc slot) count) r m1)) next
          (rest.there k (omega (arith, below)) (ap (λ (n : ℕ). from n (suc slot + k)) next ∙ (ap (from (source + suc k)) (let e : suc slot + k ≡ slot + suc k = omega arith in e) ∙ none))))

module _ (program : Program) (well : IsWellFormed program) (frames : List Frame) (fit : AreFrames program frames) (code : Labelled) (formed : IsFormed code) (addresses : ℕ → ℕ) (pages calls : ℕ) (few : calls ≤ 4096)
    (lie : AreAddresses code addresses) (c : Configuration) (run : labelled.Configuration) (r : Words) (w : Contents) (base back : ℕ)
    (now : At program well frames fit code formed addresses pages calls few (instruction_line program frames c.active.function c.active.next) c.output c.input r w run)
    (s : Standing program frames addresses pages calls c r w base back (stage_of frames c) c.active.slots)
    (caches : Caches program frames c.active.function c.active.next r c.active.slots)
    (callee arguments count result : ℕ) (at_i : instruction_at program (states.place_of (states.Running c)) ≡ Some (plain.Call callee arguments count result))
    (in_range : IsCallInRange program (routine_at program c.active.function) callee arguments count result)
    (inside : after_line program frames c.active.function c.active.next callee arguments count result < length code.lines)
    (stands : Stands code (instruction_line program frames c.active.function c.active.next) (body program frames c.active.function (instruction_line program frames c.active.function c.active.next) (plain.Call callee arguments count result))) where
  abbrev here : ℕ
  here = instruction_line program frames c.active.function c.active.next

  abbrev mine : Frame
  mine = frame_at frames c.active.function

  abbrev before : List Instr
  before = spills (frame_at frames c.active.function) (coming (frame_at frames callee)) arguments 0 count

  abbrev spilled : ℕ
  spilled = here + spills_count mine (coming (frame_at frames callee)) arguments 0 count

  long : length before ≡ spills_count mine (coming (frame_at frames callee)) arguments 0 count
  long = length_spills mine (coming (frame_at frames callee)) arguments 0 count

  at_slot : (slot : ℕ) → passed_from mine (coming (frame_at frames callee)) (arguments + slot) (0 + slot) ≡ passed_from mine (coming (frame_at frames callee)) (arguments + slot) slot
  at_slot slot = ap (passed_from mine (coming (frame_at frames callee)) (arguments + slot)) (let e : 0 + slot ≡ slot = omega arith in e)

  -- If an argument is passed from a register, this register holds the word of the argument's slot.
  held_there : (slot k : ℕ) → slot < count → passed_from mine (coming (frame_at frames callee)) (arguments + slot) slot ≡ Some k
      → (6 ≤ k) × (k < 24) × (r k ≡ c.active.slots (arguments + slot)) × IsWord (c.active.slots (arguments + slot))
  held_there slot k below some =
      let right = fit.homes c.active.function s.known in
      let has = (is_free (value_register mine (arguments + slot)) (coming (frame_at frames callee)) slot k some).0 in
      let is = caches (arguments + slot) k has (0, (plain.Call callee arguments count result, at_i, among arguments count (arguments + slot) (omega arith) (omega (arith, below)))) in
      (right.low (arguments + slot) k has, right.high (arguments + slot) k has, is, subst IsWord is (now.r_words k))

  -- A callee-saved register holds the word of its slot before a call if the slot is live after the call and is not a result.
  finds_there : Finds program frames c.active.function c.active.next callee arguments count result (preserved_of r) c.active.slots
  finds_there slot j high has unwritten (steps, live) =
      caches slot (17 + j) has (suc steps, (plain.Call callee arguments count result, at_i, unwritten, suc c.active.next, eq-eqb (suc c.active.next) (suc c.active.next) refl, live))

  pub call_goes : Walk code formed addresses globals_length (words_per_call * calls) 1 here (here + body_count program frames c.active.function (plain.Call callee arguments count result)) c.output (After program pages calls c) (Reached program well frames fit code formed addresses pages calls few c) (Running run)
  call_goes =
      let hi : ℕ = here + body_count program frames c.active.function (plain.Call callee arguments count result) in
      let all = are_spilled program well frames fit addresses pages calls few c r base back (stage_of frames c) callee s.known w arguments 0 count in_range.arguments_in_range s
      (λ k below n has. caches (arguments + k) n has (0, (plain.Call callee arguments count result, at_i, among arguments count (arguments + k) (omega arith) (omega (arith, below))))) in
      let m : Contents = after_w before r w in
      let next = calling_code mine (coming (frame_at frames callee)) spilled (function_line program frames callee) arguments count in
      let long_lines : here + length (ordinary before) ≡ spilled = omega (arith, length_ordinary before, long) in
      let stands_next = subst (λ (n : ℕ). Stands code n next) long_lines (stands_back code here (ordinary before) next stands) in
      walk_few code formed addresses globals_length (words_per_call * calls) 1 (length before + 1) here hi c.output _ (Running run) (omega arith)
      (walk_block code formed addresses globals_length (words_per_call * calls) before 1 here here hi c.output c.input _ r w run now (stands_front code here (ordinary before) next stands) all.safe (omega arith)
      (λ d later.
      let at_next = now_at code formed addresses globals_length (words_per_call * calls) (here + length before) spilled c.output c.input r m d (omega (arith, long))
      (now_is code formed addresses globals_length (words_per_call * calls) (here + length before) c.output c.input (after_r before r w) m r m d all.same refl later) in
      walk_from code formed addresses globals_length (words_per_call * calls) 1 (here + length before) spilled hi c.output _ (Running d) (omega (arith, long))
      (subst (λ (n : ℕ). Walk code formed addresses globals_length (words_per_call * calls) 1 spilled n c.output (After program pages calls c) (Reached program well frames fit code formed addresses pages calls few c) (Running d)) (let e : spilled + (5 + copies_count mine (coming (frame_at frames callee)) arguments 0 count) ≡ hi = omega arith in e)
      (calling_goes program well frames fit code formed addresses pages calls few lie c d r m base back spilled at_next all.standing callee arguments count result at_i in_range inside stands_next (omega arith)
      (λ slot below none. all.there slot below (at_slot slot ∙ none)) held_there finds_there))))
