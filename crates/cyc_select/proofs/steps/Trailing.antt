-- The simulation of the MIPS lines after a call: results are written to the caller's slots, and registers of slots with a
-- copy in memory are reloaded.
use Rattle.std.proofs.Common.{◌≡◌, ◌≢◌, ℕ, zero, suc, ◌+◌, ◌-◌, ◌*◌, ◌%◌, ◌<◌, ◌≤◌, true, false, List, [], ◌∷◌, ◌++◌, length, length-append, Some, refl, sym, ap, subst, ◌∙◌, arith, inl, inr}
use Rattle.std.specs.Prelude.{◌⊎◌}
use Rattle.std.proofs.lemmas.Bool.{cases_eq, cases_lt, eq-eqb, leb-true, false≢true}
use Rattle.cyc_plain.specs.inside.Uses.{writes}
use Rattle.cyc_select.specs.declared.constants.TheConstants.{FRAME, LOWEST, HANDLERS, REGIONS, GLOBALS}
use Rattle.cyc_machine_model.specs.declared.constants.TheConstants.{RETURN_ADDRESS}
use Rattle.cyc_words.specs.Word.{IsWord}
use Rattle.cyc_isa.specs.Effect.{memory_address}
use Rattle.cyc_isa.specs.declared.instr.Instr.{Instr}
use Rattle.cyc_machine_model.specs.State.{globals_length, words_per_call}
use Rattle.cyc_plain.specs.declared.instruction.Instruction.TheVariants as plain
use Rattle.cyc_plain.specs.inside.Program.{Program, routine_at}
use Rattle.cyc_plain.specs.inside.State.{Words, put, copied, Configuration}
use Rattle.cyc_plain.specs.inside.WellFormed.{IsWellFormed}
use Rattle.cyc_plain.proofs.SlotLaws.{put-same, put-other, copied-inside, copied-above, copied-below}
use Rattle.cyc_registers.specs.declared.home.Home.{Home}
use Rattle.cyc_registers.specs.declared.home.Home.TheVariants as homes
use Rattle.cyc_registers.specs.inside.Interference as homing
use Rattle.cyc_registers.specs.inside.Interference.{AreHomes}
use Rattle.cyc_frame.specs.inside.Layout.{AreFrames, frame_at}
use Rattle.cyc_frame.specs.inside.Frame.{Frame}
use Rattle.cyc_select.specs.inside.Labelled.{Labelled, IsFormed}
use Rattle.cyc_select.specs.inside.Machine.{State, Running}
use Rattle.cyc_select.specs.inside.Instructions.{slot_offset}
use Rattle.cyc_select.specs.inside.Slots.{value_register, reloads, store_all, bring_all, is_kept, result_registers}
use Rattle.cyc_select.specs.inside.Operands.{reload_count}
use Rattle.cyc_select.specs.inside.Counts.{instruction_line}
use Rattle.cyc_select.specs.inside.Selection.{following}
use Rattle.cyc_select.proofs.values.Blocks.{lasting_same, safe_append}
use Rattle.cyc_select.proofs.steps.Answers.{put_all, results_low, CachesBut, AreBrought, are_brought}
use Rattle.cyc_select.proofs.layout.Lines.{line_next}
use Rattle.cyc_select.proofs.relation.Values.{among, outside_among, length_reloads, reloaded}
use Rattle.cyc_select.proofs.effects.Views.{Contents, written}
use Rattle.cyc_select.proofs.effects.Sequences.{Stands, after_r, after_w, after_r-append, after_w-append, AreSafe}
use Rattle.cyc_select.proofs.effects.Walks.{Walk, now_at, now_is, walk_few, walk_from, walk_block}
use Rattle.cyc_select.proofs.emission.Counts.{length_results, length_registers}
use Rattle.cyc_select.proofs.relation.Waiting.{saves_at, after_line}
use Rattle.cyc_select.proofs.relation.Standing.{under_way, Stage, stage_of, Standing, slot_address, slot_cell, slot_word_is, standing_registers, standing_slot}
use Rattle.cyc_select.proofs.relation.Matches.{After, Ready, Back, result_register}
use Rattle.cyc_registers.specs.inside.Liveness.{IsLiveAt}

-- Copying one more word to the next slot extends the range of copied words by one.
copied_slots_next : (from to : Words) (source count destination slot number word : ℕ) → slot ≡ destination + count → word ≡ from (source + count)
    → put (copied from source count to destination) slot word number ≡ copied from source (suc count) to destination number
copied_slots_next from to source count destination slot number word is_slot is_word = elim (cases_eq number slot) [
  | inl same ↦
      let there : number ≡ destination + count = same ∙ is_slot in
      ap (put (copied from source count to destination) slot word) same
      ∙ (put-same (copied from source count to destination) slot word
      ∙ (is_word ∙ sym (ap (copied from source (suc count) to destination) there ∙ copied-inside from to source (suc count) destination count (omega arith))))
  | inr other ↦
      put-other (copied from source count to destination) slot number word other
      ∙ elim (cases_lt number destination) [
        | inl below ↦ copied-below from to source count destination number below ∙ sym (copied-below from to source (suc count) destination number below)
        | inr from_first ↦ elim (cases_lt number (destination + count)) [
          | inl before ↦
              let there : number ≡ destination + (number - destination) = omega (arith, from_first) in
              ap (copied from source count to destination) there
              ∙ (copied-inside from to source count destination (number - destination) (omega (arith, before, from_first))
              ∙ sym (ap (copied from source (suc count) to destination) there ∙ copied-inside from to source (suc count) destination (number - destination) (omega (arith, before, from_first))))
          | inr past ↦
              copied-above from to source count destination number past
              ∙ sym (copied-above from to source (suc count) destination number (beyond past other))
        ]
      ]
]
  where
    beyond : destination + count ≤ number → number ≢ slot → destination + suc count ≤ number
    beyond past other = omega (arith, past, other, is_slot)

no_slots : (from to : Words) (source destination number : ℕ) → to number ≡ copied from source 0 to destination number
no_slots from to source destination number = elim (cases_lt number destination) [
  | inl below ↦ sym (copied-below from to source 0 destination number below)
  | inr above ↦ sym (copied-above from to source 0 destination number (omega (arith, above)))
]

module _ (program : Program) (well : IsWellFormed program) (frames : List Frame) (fit : AreFrames program frames) (addresses : ℕ → ℕ) (pages calls : ℕ) (few : calls ≤ 4096)
    (c : Configuration) (q : Words) (base back : ℕ) (stage : Stage) (result first : ℕ) (values waiting : Words) where
  abbrev StandsWith : (m : Contents) (slots : Words) → Type 0
  StandsWith m slots = Standing program frames addresses pages calls c q m base back stage slots

  pub same_slots : (m : Contents) (slots slots' : Words) → ((slot : ℕ) → slots slot ≡ slots' slot) → StandsWith m slots → StandsWith m slots'
  same_slots m slots slots' same s = record {
    known = s.known;
    base_is = s.base_is;
    zero_is = s.zero_is;
    lowest = s.lowest;
    deep = s.deep;
    holds = λ slot below slot_kept. s.holds slot below slot_kept ∙ same slot;
    left = s.left;
    chain = s.chain;
    leaves = s.leaves;
    globals = s.globals;
    newest = s.newest;
    way = s.way;
    input = s.input;
    based = s.based;
    store = s.store;
    laid = s.laid;
    counted = s.counted;
    middle = s.middle;
  }

  -- `Given` says that the result registers hold the results from the `k`-th one on.
  abbrev Given : ℕ → List ℕ → Type 0
  Given k [] = Unit {0}
  Given k (source ∷ sources) = (q (source % 32) ≡ values (first + k)) × Given (suc k) sources

  record AreStored (slot k : ℕ) (sources : List ℕ) (m : Contents) : Type 0 where
    pub safe : AreSafe globals_length (words_per_call * calls) (store_all (frame_at frames c.active.function) slot sources) q m
    pub same : after_r (store_all (frame_at frames c.active.function) slot sources) q m ≡ q
    pub standing : StandsWith (after_w (store_all (frame_at frames c.active.function) slot sources) q m) (copied values first (k + length sources) waiting result)

  are_stored : (slot k : ℕ) (sources : List ℕ) (m : Contents) → slot ≡ result + k → result + (k + length sources) ≤ (routine_at program c.active.function).slots → Given k sources
      → StandsWith m (copied values first k waiting result) → AreStored slot k sources m
  are_stored slot k [] m is_slot fits given s = record {
    safe = tt;
    same = refl;
    standing = subst (λ (n : ℕ). StandsWith m (copied values first n waiting result)) (let e : k ≡ k + 0 = omega arith in e) s;
  }
  are_stored slot k (source ∷ sources) m is_slot fits (one, others) s =
      let below : slot < (routine_at program c.active.function).slots = omega (arith, is_slot, fits) in
      let there = slot_address program well frames fit addresses pages calls few c q m base back stage (copied values first k waiting result) s slot below in
      let m1 : Contents = written m (memory_address (q FRAME) (slot_offset (frame_at frames c.active.function) slot)) (q (source % 32)) in
      let put_one = standing_slot program well frames fit addresses pages calls few c q m base back stage (copied values first k waiting result) s slot (q (source % 32)) below in
      let in_m1 : StandsWith m1 (put (copied values first k waiting result) slot (q (source % 32))) =
      subst (λ (a : ℕ). StandsWith (written m a (q (source % 32))) (put (copied values first k waiting result) slot (q (source % 32)))) (sym there) put_one in
      let next = same_slots m1 (put (copied values first k waiting result) slot (q (source % 32))) (copied values first (suc k) waiting result)
      (λ number. copied_slots_next values waiting first k result slot number (q (source % 32)) is_slot one) in_m1 in
      let rest = are_stored (suc slot) (suc k) sources m1 (omega (arith, is_slot)) (omega (arith, fits)) others next in
      record {
        safe = (slot_cell program well frames fit addresses pages calls few c q m base back stage (copied values first k waiting result) s slot below, rest.safe);
        same = rest.same;
        standing = subst (λ (n : ℕ). StandsWith (after_w (store_all (frame_at frames c.active.function) (suc slot) sources) q m1) (copied values first n waiting result)) (let e : suc k + length sources ≡ k + suc (length sources) = omega arith in e) rest.standing;
      }

  given : (count : ℕ) → count ≤ 3 → ((k : ℕ) → k < count → q (result_register k) ≡ values (first + k)) → Given 0 (result_registers count)
  given zero few_results holds = tt
  given (suc zero) few_results holds = (holds 0 (omega arith), tt)
  given (suc (suc zero)) few_results holds = (holds 0 (omega arith), (holds 1 (omega arith), tt))
  given (suc (suc (suc zero))) few_results holds = (holds 0 (omega arith), (holds 1 (omega arith), (holds 2 (omega arith), tt)))
  given (suc (suc (suc (suc count)))) few_results holds = absurd (omega (arith, few_results))

  put_pointwise : (one other : Words) (slot word : ℕ) → ((number : ℕ) → one number ≡ other number) → (number : ℕ) → put one slot word number ≡ put other slot word number
  put_pointwise one other slot word same number = elim (cases_eq number slot) [
    | inl here ↦ ap (put one slot word) here ∙ (put-same one slot word ∙ sym (ap (put other slot word) here ∙ put-same other slot word))
    | inr apart ↦ put-other one slot number word apart ∙ (same number ∙ sym (put-other other slot number word apart))
  ]

  puts_copied : (slot k : ℕ) (sources : List ℕ) (slots : Words) → slot ≡ result + k → Given k sources → ((number : ℕ) → slots number ≡ copied values first k waiting result number)
      → (number : ℕ) → put_all slot sources q slots number ≡ copied values first (k + length sources) waiting result number
  puts_copied slot k [] slots is_slot given same number =
      same number ∙ ap (λ (n : ℕ). copied values first n waiting result number) (let e : k ≡ k + 0 = omega arith in e)
  puts_copied slot k (source ∷ sources) slots is_slot (one, others) same number =
      puts_copied (suc slot) (suc k) sources (put slots slot (q (source % 32))) (omega (arith, is_slot)) others
      (λ n. put_pointwise slots (copied values first k waiting result) slot (q (source % 32)) same n ∙ copied_slots_next values waiting first k result slot n (q (source % 32)) is_slot one)
      number
      ∙ ap (λ (n : ℕ). copied values first n waiting result number) (let e : suc k + length sources ≡ k + suc (length sources) = omega arith in e)

  -- Writing the result registers to the result slots writes the words that the function returned.
  pub results_copied : (count : ℕ) → count ≤ 3 → ((k : ℕ) → k < count → q (result_register k) ≡ values (first + k))
      → (number : ℕ) → put_all result (result_registers count) q waiting number ≡ copied values first count waiting result number
  results_copied count few_results holds number =
      puts_copied result 0 (result_registers count) waiting (omega arith) (given count few_results holds) (λ n. no_slots values waiting first result n) number
      ∙ ap (λ (n : ℕ). copied values first n waiting result number) (let e : 0 + length (result_registers count) ≡ count = omega (arith, length_registers count few_results) in e)

  pub stored : (count : ℕ) (m : Contents) → count ≤ 3 → result + count ≤ (routine_at program c.active.function).slots → ((k : ℕ) → k < count → q (result_register k) ≡ values (first + k)) → StandsWith m waiting
      → (AreSafe globals_length (words_per_call * calls) (store_all (frame_at frames c.active.function) result (result_registers count)) q m)
      × (after_r (store_all (frame_at frames c.active.function) result (result_registers count)) q m ≡ q)
      × StandsWith (after_w (store_all (frame_at frames c.active.function) result (result_registers count)) q m) (copied values first count waiting result)
  stored count m few_results fits holds s =
      let long = length_registers count few_results in
      let all = are_stored result 0 (result_registers count) m (omega arith) (omega (arith, long, fits)) (given count few_results holds)
      (same_slots m waiting (copied values first 0 waiting result) (λ number. no_slots values waiting first result number) s) in
      (all.safe, all.same, subst (λ (n : ℕ). StandsWith (after_w (store_all (frame_at frames c.active.function) result (result_registers count)) q m) (copied values first n waiting result)) (let e : 0 + length (result_registers count) ≡ count = omega (arith, long) in e) all.standing)

-- After a call returns, the lines that follow the call bring the caller to its next instruction.
module _ (program : Program) (well : IsWellFormed program) (frames : List Frame) (fit : AreFrames program frames) (code : Labelled) (formed : IsFormed code) (addresses : ℕ → ℕ) (pages calls : ℕ) (few : calls ≤ 4096)
    (c : Configuration) (t : State) (b : Back program well frames fit code formed addresses pages calls few c t)
    (stands : Stands code (after_line program frames c.active.function b.index b.callee b.arguments b.count b.result) (following program frames c.active.function (plain.Call b.callee b.arguments b.count b.result)))
    (room : b.result + (routine_at program b.callee).results ≤ (routine_at program c.active.function).slots) (few_results : (routine_at program b.callee).results ≤ 3) where
  abbrev own_frame : Frame
  own_frame = frame_at frames c.active.function

  abbrev kept_words : List Instr
  kept_words = bring_all true own_frame b.result (result_registers (routine_at program b.callee).results)

  abbrev saved : ℕ
  saved = b.w.words (b.base + 4 * own_frame.return_address)

  abbrev read_again : List Instr
  read_again = reloads own_frame

  length_kept : length (kept_words ++ read_again) ≡ (routine_at program b.callee).results + reload_count own_frame
  length_kept =
      let long = length-append kept_words read_again in
      let stores = length_results own_frame b.result (result_registers (routine_at program b.callee).results) in
      let registers = length_registers (routine_at program b.callee).results few_results in
      omega (arith, long, stores, registers, length_reloads own_frame)

  line_is : after_line program frames c.active.function b.index b.callee b.arguments b.count b.result + length (kept_words ++ read_again) ≡ instruction_line program frames c.active.function c.active.next
  line_is =
      let e = line_next program frames c.active.function b.index (plain.Call b.callee b.arguments b.count b.result) b.call in
      ap (λ (n : ℕ). after_line program frames c.active.function b.index b.callee b.arguments b.count b.result + n) length_kept
      ∙ ((let f : after_line program frames c.active.function b.index b.callee b.arguments b.count b.result + ((routine_at program b.callee).results + reload_count own_frame) ≡ instruction_line program frames c.active.function (b.index + 1) = omega (arith, e) in f)
      ∙ ap (instruction_line program frames c.active.function) (sym b.next))

  saves_is : stage_of frames c ≡ under_way true
  saves_is = ap under_way (saves_at program frames fit c.active.function b.index (plain.Call b.callee b.arguments b.count b.result) b.standing.known b.call refl)

  -- ---- results are written to slots

  right : AreHomes program (routine_at program c.active.function) (frame_at frames c.active.function).saved (frame_at frames c.active.function).homes
  right = fit.homes c.active.function b.standing.known

  abbrev registers_of : List ℕ
  registers_of = result_registers (routine_at program b.callee).results

  abbrev past : ℕ
  past = b.result + length (result_registers (routine_at program b.callee).results)

  room_is : b.result + length (result_registers (routine_at program b.callee).results) ≤ (routine_at program c.active.function).slots
  room_is = omega (arith, room, length_registers (routine_at program b.callee).results few_results)

  many : length (result_registers (routine_at program b.callee).results) ≡ (routine_at program b.callee).results
  many = length_registers (routine_at program b.callee).results few_results

  next_is : c.active.next ≡ suc b.index
  next_is = omega (arith, b.next)

  -- The call instruction writes each of its result slots.
  written_by : (slot : ℕ) → b.result ≤ slot → slot < past → writes program (plain.Call b.callee b.arguments b.count b.result) slot ≡ true
  written_by slot begun below = among b.result (routine_at program b.callee).results slot begun (omega (arith, below, many))

  apart_from_all : (slot : ℕ) → slot < b.result ⊎ past ≤ slot → writes program (plain.Call b.callee b.arguments b.count b.result) slot ≡ false
  apart_from_all slot (inl below) = outside_among b.result (routine_at program b.callee).results slot (inl below)
  apart_from_all slot (inr above) = outside_among b.result (routine_at program b.callee).results slot (inr (omega (arith, above, many)))

  after_next : (slot : ℕ) → IsLiveAt program (routine_at program c.active.function) slot c.active.next → IsLiveAt program (routine_at program c.active.function) slot (suc b.index)
  after_next slot wanted = subst (IsLiveAt program (routine_at program c.active.function) slot) next_is wanted

  shares_none : (d slot k : ℕ) → b.result ≤ d → d < past → value_register (frame_at frames c.active.function) d ≡ Some k → value_register (frame_at frames c.active.function) slot ≡ Some k
      → IsLiveAt program (routine_at program c.active.function) slot c.active.next → slot ≡ d
  shares_none d slot k begun below has_d has wanted =
      right.made b.index (suc b.index) slot d k (plain.Call b.callee b.arguments b.count b.result) b.call (written_by d begun below) (eq-eqb (suc b.index) (suc b.index) refl) has_d has (after_next slot wanted)

  low_words : (n : ℕ) → n < 6 → IsWord (b.r n)
  low_words n low = b.now.r_words n

  brought : AreBrought program well frames fit addresses pages calls few true c b.base saved true c.active.next b.result past b.r low_words room_is shares_none b.result registers_of b.r b.w b.waiting
  brought =
      are_brought program well frames fit addresses pages calls few true c b.base saved true c.active.next b.result past b.r low_words room_is shares_none b.result registers_of b.r b.w b.waiting
      (omega arith) (omega arith) (results_low (routine_at program b.callee).results few_results) (λ n low. refl) b.standing

  abbrev given_r : Words
  given_r = after_r kept_words b.r b.w

  abbrev given_w : Contents
  given_w = after_w kept_words b.r b.w

  -- After the results are written and registers reloaded, the slots are those of the plain configuration.
  slots_are : (number : ℕ) → put_all b.result registers_of b.r b.waiting number ≡ c.active.slots number
  slots_are number =
      results_copied program well frames fit addresses pages calls few c b.r b.base saved (under_way true) b.result b.first b.values b.waiting (routine_at program b.callee).results few_results
      (λ j below. b.returned j below) number
      ∙ sym (ap (λ (x : Words). x number) b.slots)

  given_stands : Standing program frames addresses pages calls c given_r given_w b.base saved (under_way true) c.active.slots
  given_stands =
      same_slots program well frames fit addresses pages calls few c given_r b.base saved (under_way true) b.result b.first b.values b.waiting given_w
      (put_all b.result registers_of b.r b.waiting) c.active.slots slots_are brought.standing

  own_home : (h : Home) (k : ℕ) → homing.register_of h ≡ Some k → homing.is_kept h ≡ false → homing.outlives h ≡ true → 17 ≤ k
  own_home homes.Memory k has unkept lives = absurd (false≢true (sym unkept))
  own_home (homes.Both register) k has unkept lives = absurd (false≢true (sym unkept))
  own_home (homes.Register register) k has unkept lives =
      let same : register ≡ k = (let e : Some register ≡ Some k = has in cc) in
      omega (arith, same, leb-true 17 register lives)

  -- A slot that is live after a call and has no word in memory is a result, or its word is in a callee-saved register.
  alone_returned : CachesBut program well frames fit addresses pages calls few true c b.base saved true c.active.next b.result past b.r low_words room_is shares_none b.result (length registers_of) b.r b.waiting
  alone_returned a k has wanted last outside =
      let unwritten = apart_from_all a outside in
      let live = after_next a wanted in
      let lives = right.following b.index b.callee b.arguments b.count b.result a b.call unwritten live in
      let low = own_home (homing.home_of own_frame.homes a) k has last lives in
      let high = right.high a k has in
      let is : k ≡ 17 + (k - 17) = omega (arith, low) in
      ap b.r is ∙ b.finds a (k - 17) (omega (arith, low, high)) (has ∙ ap Some is) unwritten live

  returned_alone : (slot k : ℕ) → value_register (frame_at frames c.active.function) slot ≡ Some k → IsLiveAt program (routine_at program c.active.function) slot c.active.next → is_kept (frame_at frames c.active.function) slot ≡ false
      → given_r k ≡ c.active.slots slot
  returned_alone slot k has wanted unkept = brought.caches alone_returned slot k has wanted unkept ∙ slots_are slot

  pub after_goes : (n hi : ℕ) (Goal : State → Type 0)
      → ((u : State) → Ready program well frames fit code formed addresses pages calls few c u → Walk code formed addresses globals_length (words_per_call * calls) n (instruction_line program frames c.active.function c.active.next) hi c.output (After program pages calls c) Goal u)
      → Walk code formed addresses globals_length (words_per_call * calls) n (after_line program frames c.active.function b.index b.callee b.arguments b.count b.result) hi c.output (After program pages calls c) Goal (Running b.run)
  after_goes n hi Goal rest =
      let k : ℕ = after_line program frames c.active.function b.index b.callee b.arguments b.count b.result in
      let again = reloaded globals_length (words_per_call * calls) program frames c.active.function right c.active.next given_r given_w c.active.slots
      (λ slot below. slot_cell program well frames fit addresses pages calls few c given_r given_w b.base saved (under_way true) c.active.slots given_stands slot below)
      (λ slot below slot_kept. slot_word_is program well frames fit addresses pages calls few c given_r given_w b.base saved (under_way true) c.active.slots given_stands slot below slot_kept)
      returned_alone in
      let final : Words = after_r read_again given_r given_w in
      let registers : after_r (kept_words ++ read_again) b.r b.w ≡ after_r read_again given_r given_w = after_r-append kept_words read_again b.r b.w in
      let memory : after_w (kept_words ++ read_again) b.r b.w ≡ given_w = after_w-append kept_words read_again b.r b.w ∙ again.memory in
      let in_final = standing_registers program well frames fit addresses pages calls few c given_r given_w b.base saved (under_way true) c.active.slots given_stands final
      (again.others 0 (inl (omega arith))) (again.others FRAME (inr (omega arith))) (again.others LOWEST (inr (omega arith))) (λ outside. again.others RETURN_ADDRESS (inr (omega arith)))
      (lasting_same final given_r (again.others HANDLERS (inr (omega arith))) (again.others REGIONS (inr (omega arith))) (again.others GLOBALS (inr (omega arith))))
      (λ j past high. again.aside (17 + j) (λ slot has. absurd (let own = right.saved_registers slot (17 + j) has (omega arith) in omega (arith, own, past)))) in
      walk_few code formed addresses globals_length (words_per_call * calls) n (length (kept_words ++ read_again) + n) k hi c.output Goal (Running b.run) (omega arith)
      (walk_block code formed addresses globals_length (words_per_call * calls) (kept_words ++ read_again) n k k hi c.output c.input Goal b.r b.w b.run b.now stands (safe_append globals_length (words_per_call * calls) kept_words read_again b.r b.w brought.safe again.safe) (omega arith)
      (λ d later.
      walk_from code formed addresses globals_length (words_per_call * calls) n (k + length (kept_words ++ read_again)) (instruction_line program frames c.active.function c.active.next) hi c.output Goal (Running d) (omega (arith, line_is))
      (rest (Running d) (record {
        run = d;
        r = final;
        w = given_w;
        base = b.base;
        back = saved;
        is = refl;
        now = now_at code formed addresses globals_length (words_per_call * calls) (k + length (kept_words ++ read_again)) (instruction_line program frames c.active.function c.active.next) c.output c.input final given_w d line_is
            (now_is code formed addresses globals_length (words_per_call * calls) (k + length (kept_words ++ read_again)) c.output c.input (after_r (kept_words ++ read_again) b.r b.w) (after_w (kept_words ++ read_again) b.r b.w) final given_w d registers memory later);
        standing = subst (λ (x : Stage). Standing program frames addresses pages calls c final given_w b.base saved x c.active.slots) (sym saves_is) in_final;
        caches = again.caches;
      }))))
