-- If the check of the liveness table succeeds, the table contains every code position at which a candidate for a register is live.
use Rattle.std.proofs.Common.{◌≡◌, ℕ, zero, suc, ◌+◌, true, false, ◌||◌, ◌&&◌, List, sym, subst, arith, inl, inr}
use Rattle.std.specs.Prelude.{◌==◌, Bool, if◌then◌else◌, bit_and, bit_or}
use Rattle.std.specs.Int.{bit_at}
use Rattle.std.proofs.lemmas.Nat.Bits.{bit_at-zero}
use Rattle.std.proofs.lemmas.Bool.{and_parts, or_cases, eqb-true, eqb-false, false≢true}
use Rattle.cyc_plain.specs.declared.instruction.Instruction.{Instruction}
use Rattle.cyc_plain.specs.declared.instruction.Instruction.TheVariants as instructions
use Rattle.cyc_plain.specs.declared.instruction.Operand.{Operand}
use Rattle.cyc_plain.specs.declared.instruction.Operand.TheVariants as operands
use Rattle.cyc_plain.specs.declared.instruction.Request.{Request}
use Rattle.cyc_plain.specs.declared.instruction.Request.TheVariants as requests
use Rattle.cyc_plain.specs.declared.limits.TheConstants.{RECORD_WORDS}
use Rattle.cyc_plain.specs.inside.Program.{Routine, Program, routine_at}
use Rattle.cyc_plain.specs.inside.Uses.{At, is_slot, is_among, request_reads, request_writes, reads, writes, leads}
use Rattle.cyc_registers.specs.declared.liveness.TheConstants.{MOST_CHOSEN}
use Rattle.cyc_registers.specs.declared.uses.Uses.{Uses}
use Rattle.cyc_registers.specs.inside.Masks.{mask_at, HasBit, AreMasks, operand_mask, range_mask, request_read_mask, read_mask, request_write_mask, write_mask, bar_mask, uses_of}
use Rattle.cyc_registers.specs.inside.LivenessTable.{after_mask, unwritten_mask, needed_mask, call_mask, clause_mask, is_within, is_sound_at, IsSound}
use Rattle.cyc_words.proofs.Bits.{bit_left, bit_right, bit_both, bit_within}
use Rattle.cyc_registers.proofs.Bits.{bit_turned, among_bit, other_bit, not_among_bit}
use Rattle.cyc_registers.specs.inside.Bars.{is_crossing, bars}
use Rattle.cyc_registers.specs.inside.Liveness.{IsLiveWithin, IsLiveAt}

-- ---- successors of an instruction

next_bit : (live : List ℕ) (index next j : ℕ) → (suc index == next) ≡ true → bit_at (mask_at live next) j ≡ 1 → bit_at (mask_at live (index + 1)) j ≡ 1
next_bit live index next j same is =
    let e : next ≡ index + 1 = omega (arith, eqb-true (suc index) next same) in
    subst (λ (n : ℕ). bit_at (mask_at live n) j ≡ 1) e is

to_bit : (live : List ℕ) (to next j : ℕ) → (to == next) ≡ true → bit_at (mask_at live next) j ≡ 1 → bit_at (mask_at live to) j ≡ 1
to_bit live to next j same is = subst (λ (n : ℕ). bit_at (mask_at live n) j ≡ 1) (sym (eqb-true to next same)) is

either_bit : (live : List ℕ) (index to next j : ℕ) → (suc index == next || to == next) ≡ true → bit_at (mask_at live next) j ≡ 1
    → bit_at (bit_or (mask_at live (index + 1)) (mask_at live to)) j ≡ 1
either_bit live index to next j led is = elim (or_cases (suc index == next) (to == next) led) [
  | inl same ↦ bit_left (mask_at live (index + 1)) (mask_at live to) j (next_bit live index next j same is)
  | inr same ↦ bit_right (mask_at live (index + 1)) (mask_at live to) j (to_bit live to next j same is)
]

pub led_bit : (i : Instruction) (index next j : ℕ) (live : List ℕ) → leads i index next ≡ true → bit_at (mask_at live next) j ≡ 1
    → bit_at (after_mask i index live) j ≡ 1
led_bit (instructions.Jump target) index next j live led is = to_bit live target next j led is
led_bit (instructions.Branch comparison left right target) index next j live led is = either_bit live index target next j led is
led_bit (instructions.Return value) index next j live led is = absurd (false≢true led)
led_bit (instructions.Try first handler) index next j live led is = either_bit live index handler next j led is
led_bit (instructions.Throw tag value) index next j live led is = absurd (false≢true led)
led_bit (instructions.Finish value) index next j live led is = absurd (false≢true led)
led_bit (instructions.Uncaught tag value) index next j live led is = absurd (false≢true led)
led_bit i index next j live led is = next_bit live index next j led is

-- ---- the masks of an instruction contain the slots that it reads or excludes

module _ (masks : List ℕ) (slot j : ℕ) (has : HasBit masks slot j) where
  slot_bit : (number : ℕ) → (number == slot) ≡ true → bit_at (mask_at masks number) j ≡ 1
  slot_bit number same = subst (λ (n : ℕ). HasBit masks n j) (sym (eqb-true number slot same)) has

  operand_bit : (operand : Operand) → is_slot operand slot ≡ true → bit_at (operand_mask masks operand) j ≡ 1
  operand_bit (operands.Slot number) is = slot_bit number is
  operand_bit (operands.Word word) is = absurd (false≢true is)

  operands_bit : (a b : Operand) → (is_slot a slot || is_slot b slot) ≡ true → bit_at (bit_or (operand_mask masks a) (operand_mask masks b)) j ≡ 1
  operands_bit a b is = elim (or_cases (is_slot a slot) (is_slot b slot) is) [
    | inl first ↦ bit_left (operand_mask masks a) (operand_mask masks b) j (operand_bit a first)
    | inr second ↦ bit_right (operand_mask masks a) (operand_mask masks b) j (operand_bit b second)
  ]

  ranges_bit : (a m b n : ℕ) → (is_among a m slot || is_among b n slot) ≡ true → bit_at (bit_or (range_mask masks a m) (range_mask masks b n)) j ≡ 1
  ranges_bit a m b n is = elim (or_cases (is_among a m slot) (is_among b n slot) is) [
    | inl first ↦ bit_left (range_mask masks a m) (range_mask masks b n) j (among_bit masks a m slot j first has)
    | inr second ↦ bit_right (range_mask masks a m) (range_mask masks b n) j (among_bit masks b n slot j second has)
  ]

  request_read_bit : (request : Request) → request_reads request slot ≡ true → bit_at (request_read_mask masks request) j ≡ 1
  request_read_bit (requests.OpenLexical destination) is = absurd (false≢true is)
  request_read_bit (requests.CloseTo mark) is = operand_bit mark is
  request_read_bit (requests.OpenDynamic destination) is = absurd (false≢true is)
  request_read_bit (requests.CloseDynamic handle) is = operand_bit handle is
  request_read_bit (requests.Allocate destination handle words) is = operands_bit handle words is
  request_read_bit (requests.Free address) is = operand_bit address is

  pub read_bit : (results : ℕ) (i : Instruction) → reads results i slot ≡ true → bit_at (read_mask masks results i) j ≡ 1
  read_bit results (instructions.Move destination source) is = operand_bit source is
  read_bit results (instructions.MoveWords destination source count) is = among_bit masks source count slot j is has
  read_bit results (instructions.Unary operator destination operand) is = operand_bit operand is
  read_bit results (instructions.Binary operator destination left right) is = operands_bit left right is
  read_bit results (instructions.Branch comparison left right target) is = operands_bit left right is
  read_bit results (instructions.Call function arguments count result) is = among_bit masks arguments count slot j is has
  read_bit results (instructions.Return value) is = among_bit masks value results slot j is has
  read_bit results (instructions.WriteByte source) is = operand_bit source is
  read_bit results (instructions.StoreGlobal global source) is = operand_bit source is
  read_bit results (instructions.Load destination address offset) is = operand_bit address is
  read_bit results (instructions.Store address offset source) is = operands_bit address source is
  read_bit results (instructions.LoadByte destination address offset) is = operand_bit address is
  read_bit results (instructions.StoreByte address offset source) is = operands_bit address source is
  read_bit results (instructions.Ask request) is = request_read_bit request is
  read_bit results (instructions.Leave first) is = among_bit masks first RECORD_WORDS slot j is has
  read_bit results (instructions.Throw tag value) is = operands_bit tag value is
  read_bit results (instructions.Finish value) is = among_bit masks value results slot j is has
  read_bit results (instructions.Uncaught tag value) is = operand_bit value is
  read_bit results i is = absurd (false≢true is)

  pub bar_bit : (i : Instruction) → bars i slot ≡ true → bit_at (bar_mask masks i) j ≡ 1
  bar_bit (instructions.MoveWords destination source count) is =
      let parts = and_parts (is_crossing destination source count) (is_among destination count slot || is_among source count slot) is in
      subst (λ (b : Bool). bit_at (if b then bit_or (range_mask masks destination count) (range_mask masks source count) else 0) j ≡ 1) (sym parts.0)
      (ranges_bit destination count source count parts.1)
  bar_bit (instructions.AddressOf destination taken count) is = among_bit masks taken count slot j is has
  bar_bit (instructions.Try first handler) is = among_bit masks first RECORD_WORDS slot j is has
  bar_bit (instructions.Leave first) is = among_bit masks first RECORD_WORDS slot j is has
  bar_bit i is = absurd (false≢true is)

  request_written_bit : (request : Request) → request_writes request slot ≡ true → bit_at (request_write_mask masks request) j ≡ 1
  request_written_bit (requests.OpenLexical destination) is = among_bit masks destination 2 slot j is has
  request_written_bit (requests.CloseTo mark) is = absurd (false≢true is)
  request_written_bit (requests.OpenDynamic destination) is = slot_bit destination is
  request_written_bit (requests.CloseDynamic handle) is = absurd (false≢true is)
  request_written_bit (requests.Allocate destination handle words) is = slot_bit destination is
  request_written_bit (requests.Free address) is = absurd (false≢true is)

  -- The mask of written slots contains each slot that the instruction writes, unless the instruction excludes the slot from registers.
  pub written_bit : (program : Program) (i : Instruction) → (bars i slot ≡ true → ⊥) → writes program i slot ≡ true → bit_at (write_mask masks program i) j ≡ 1
  written_bit program (instructions.Move destination source) free is = slot_bit destination is
  written_bit program (instructions.MoveWords destination source count) free is = among_bit masks destination count slot j is has
  written_bit program (instructions.Unary operator destination operand) free is = slot_bit destination is
  written_bit program (instructions.Binary operator destination left right) free is = slot_bit destination is
  written_bit program (instructions.Call function arguments count result) free is =
      among_bit masks result (routine_at program function).results slot j is has
  written_bit program (instructions.ReadByte destination) free is = slot_bit destination is
  written_bit program (instructions.AddressOf destination taken count) free is = slot_bit destination is
  written_bit program (instructions.LoadGlobal destination global) free is = slot_bit destination is
  written_bit program (instructions.Load destination address offset) free is = slot_bit destination is
  written_bit program (instructions.LoadByte destination address offset) free is = slot_bit destination is
  written_bit program (instructions.Ask request) free is = request_written_bit request is
  written_bit program (instructions.CountLexical destination) free is = slot_bit destination is
  written_bit program (instructions.Try first handler) free is = absurd (free is)
  written_bit program i free is = absurd (false≢true is)

  -- The mask of written slots contains no slot that the instruction does not write.
  module _ (program : Program) (next : ℕ) (are : AreMasks masks next) where
    other_slot : (number : ℕ) → (number == slot) ≡ false → bit_at (mask_at masks number) j ≡ 0
    other_slot number apart = other_bit masks next are slot j has number (eqb-false number slot apart)

    unwritten_request : (request : Request) → request_writes request slot ≡ false → bit_at (request_write_mask masks request) j ≡ 0
    unwritten_request (requests.OpenLexical destination) apart = not_among_bit masks next are slot j has destination 2 apart
    unwritten_request (requests.CloseTo mark) apart = bit_at-zero j
    unwritten_request (requests.OpenDynamic destination) apart = other_slot destination apart
    unwritten_request (requests.CloseDynamic handle) apart = bit_at-zero j
    unwritten_request (requests.Allocate destination handle words) apart = other_slot destination apart
    unwritten_request (requests.Free address) apart = bit_at-zero j

    pub unwritten_bit : (i : Instruction) → writes program i slot ≡ false → bit_at (write_mask masks program i) j ≡ 0
    unwritten_bit (instructions.Move destination source) apart = other_slot destination apart
    unwritten_bit (instructions.MoveWords destination source count) apart = not_among_bit masks next are slot j has destination count apart
    unwritten_bit (instructions.Unary operator destination operand) apart = other_slot destination apart
    unwritten_bit (instructions.Binary operator destination left right) apart = other_slot destination apart
    unwritten_bit (instructions.Call function arguments count result) apart =
        not_among_bit masks next are slot j has result (routine_at program function).results apart
    unwritten_bit (instructions.ReadByte destination) apart = other_slot destination apart
    unwritten_bit (instructions.AddressOf destination taken count) apart = other_slot destination apart
    unwritten_bit (instructions.LoadGlobal destination global) apart = other_slot destination apart
    unwritten_bit (instructions.Load destination address offset) apart = other_slot destination apart
    unwritten_bit (instructions.LoadByte destination address offset) apart = other_slot destination apart
    unwritten_bit (instructions.Ask request) apart = unwritten_request request apart
    unwritten_bit (instructions.CountLexical destination) apart = other_slot destination apart
    unwritten_bit i apart = bit_at-zero j

-- ---- a checked table

module _ (program : Program) (r : Routine) (masks live : List ℕ) (calls clauses barred : ℕ) (sound : IsSound program r masks live calls clauses barred) where
  -- The slots that an instruction reads and writes, as stored in the table of all instructions' reads and writes.
  abbrev used : Instruction → Uses
  used i = uses_of program r.results masks i

  -- The properties that the check of the liveness table ensures for one instruction.
  checked : (index : ℕ) (i : Instruction) → At r index i
      → (bit_or (needed_mask (used i) i index live) (mask_at live index) ≡ mask_at live index)
      × (bit_or (call_mask (used i) i index live) calls ≡ calls) × (bit_or (clause_mask i live) clauses ≡ clauses) × (bit_or (bar_mask masks i) barred ≡ barred)
  unfolding is_sound_at
  checked index i at =
      let needed = needed_mask (used i) i index live in
      let following = call_mask (used i) i index live in
      let in_clause = clause_mask i live in
      let last : Bool = is_within in_clause clauses && is_within (bar_mask masks i) barred in
      let first = and_parts (is_within needed (mask_at live index)) (is_within following calls && last) (sound index i at) in
      let second = and_parts (is_within following calls) last first.1 in
      let third = and_parts (is_within in_clause clauses) (is_within (bar_mask masks i) barred) second.1 in (
        eqb-true (bit_or needed (mask_at live index)) (mask_at live index) first.0,
        eqb-true (bit_or following calls) calls second.0,
        eqb-true (bit_or in_clause clauses) clauses third.0,
        eqb-true (bit_or (bar_mask masks i) barred) barred third.1,
      )

  module _ (slot j : ℕ) (are : AreMasks masks MOST_CHOSEN) (has : HasBit masks slot j) where
    others_bit : (i : Instruction) → writes program i slot ≡ false → bit_at (unwritten_mask (used i)) j ≡ 1
    others_bit i other = bit_turned (write_mask masks program i) j (are.below slot j has) (unwritten_bit masks slot j has program MOST_CHOSEN are i other)

    live_within : (steps index : ℕ) → IsLiveWithin program r slot steps index → bit_at (mask_at live index) j ≡ 1
    live_within zero index (i, at, is) =
        bit_within (needed_mask (used i) i index live) (mask_at live index) j (checked index i at).0
        (bit_left (read_mask masks r.results i) (bit_and (after_mask i index live) (unwritten_mask (used i))) j
        (read_bit masks slot j has r.results i is))
    live_within (suc steps) index (i, at, other, next, led, wanted) =
        let others = unwritten_mask (used i) in
        bit_within (needed_mask (used i) i index live) (mask_at live index) j (checked index i at).0
        (bit_right (read_mask masks r.results i) (bit_and (after_mask i index live) others) j
        (bit_both (after_mask i index live) others j
        (led_bit i index next j live led (live_within steps next wanted))
        (others_bit i other)))

    -- The liveness table contains a slot at each code position where the slot is live.
    pub live_bit : (index : ℕ) → IsLiveAt program r slot index → bit_at (mask_at live index) j ≡ 1
    live_bit index (steps, wanted) = live_within steps index wanted

    pub after_bit : (index function arguments count result : ℕ) → At r index (instructions.Call function arguments count result)
        → writes program (instructions.Call function arguments count result) slot ≡ false → IsLiveAt program r slot (suc index) → bit_at calls j ≡ 1
    after_bit index function arguments count result at other wanted =
        let i : Instruction = instructions.Call function arguments count result in
        bit_within (call_mask (used i) i index live) calls j (checked index i at).1
        (bit_both (mask_at live (index + 1)) (unwritten_mask (used i)) j
        (subst (λ (n : ℕ). bit_at (mask_at live n) j ≡ 1) (let e : suc index ≡ index + 1 = omega arith in e) (live_bit (suc index) wanted))
        (others_bit i other))

    pub clause_bit : (index first handler : ℕ) → At r index (instructions.Try first handler) → IsLiveAt program r slot handler → bit_at clauses j ≡ 1
    clause_bit index first handler at wanted =
        bit_within (clause_mask (instructions.Try first handler) live) clauses j (checked index (instructions.Try first handler) at).2 (live_bit handler wanted)

    pub barred_bit : (index : ℕ) (i : Instruction) → At r index i → bars i slot ≡ true → bit_at barred j ≡ 1
    barred_bit index i at is = bit_within (bar_mask masks i) barred j (checked index i at).3 (bar_bit masks slot j has i is)
