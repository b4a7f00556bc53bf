-- Each register that a frame assigns to a slot holds the slot's word wherever the slot is live.
use Rattle.std.proofs.Common.{◌≡◌, ◌≢◌, ℕ, zero, suc, ◌+◌, ◌-◌, ◌%◌, ◌<◌, ◌≤◌, Bool, true, false, List, [], ◌∷◌, length, Option, Some, None, refl, sym, ap, subst, ◌∙◌, arith, inl, inr}
use Rattle.std.specs.Prelude.{◌⊎◌, nat_le, nat_lt, sum_by}
use Rattle.std.proofs.lemmas.Bool.{cases_eq, cases_lt, cases_Bool, ne_eqb, le-leb, lt-ltb, leb-true, leb-false, ltb-true, ltb-false, and_parts, and_from, and_cases, false≢true}
use Rattle.std.proofs.lemmas.List.{get_or_past}
use Rattle.std.proofs.lemmas.List.Sums.{sum_by-cons}
use Rattle.cyc_words.proofs.Numbers.{eqb_next}
use Rattle.cyc_plain.specs.inside.Uses.{is_among, writes, leads}
use Rattle.cyc_registers.specs.inside.Bars.{bars}
use Rattle.cyc_isa.specs.Effect.{memory_address}
use Rattle.cyc_plain.specs.declared.instruction.Instruction.{Instruction}
use Rattle.cyc_plain.specs.declared.instruction.Instruction.TheVariants as plain
use Rattle.cyc_plain.specs.inside.Program.{Program, routine_at}
use Rattle.cyc_plain.specs.inside.State.{Words, put, copied}
use Rattle.cyc_plain.specs.inside.Step.{instruction_at}
use Rattle.cyc_plain.proofs.SlotLaws.{put-same, put-other, copied-inside, copied-below, copied-above}
use Rattle.cyc_frame.specs.inside.Frame.{Frame}
use Rattle.cyc_registers.specs.inside.Interference as homing
use Rattle.cyc_registers.specs.inside.Interference.{AreHomes}
use Rattle.cyc_frame.specs.inside.Layout.{frame_at}
use Rattle.cyc_registers.specs.declared.home.Home.{Home}
use Rattle.cyc_registers.specs.declared.home.Home.TheVariants as homes
use Rattle.cyc_select.specs.declared.constants.TheConstants.{FIRST, FRAME}
use Rattle.cyc_select.specs.inside.Instructions.{slot_offset}
use Rattle.cyc_select.specs.inside.Slots.{value_register, or_else, is_kept, made_in, reloads_from, reloads}
use Rattle.cyc_select.specs.inside.Operands.{reload_count}
use Rattle.cyc_select.proofs.values.Blocks.{ValuesSame}
use Rattle.cyc_select.proofs.relation.Cells.{IsCell}
use Rattle.cyc_select.proofs.effects.Views.{Contents}
use Rattle.cyc_select.proofs.effects.Sequences.{after_r, after_w, AreSafe}
use Rattle.cyc_registers.specs.inside.Liveness.{IsLiveAt}

-- ---- homes of slots

home_kept : (h : Home) → homing.register_of h ≡ None → homing.is_kept h ≡ true
home_kept homes.Memory none = refl
home_kept (homes.Both k) none = absurd (let e : Some k ≡ None = none in cc)
home_kept (homes.Register k) none = absurd (let e : Some k ≡ None = none in cc)

-- If a slot has no register, its home is memory.
pub memory_kept : (frame : Frame) (slot : ℕ) → value_register frame slot ≡ None → is_kept frame slot ≡ true
memory_kept frame slot none = home_kept (homing.home_of frame.homes slot) none

pub made_in_is : (frame : Frame) (slot k : ℕ) → value_register frame slot ≡ Some k → made_in frame slot ≡ k
made_in_is frame slot k has = ap (λ (o : Option ℕ). or_else o FIRST) has

both_of : (h : Home) (k : ℕ) → homing.register_of h ≡ Some k → homing.is_kept h ≡ true → h ≡ homes.Both k
both_of homes.Memory k is kept = absurd (let e : None ≡ Some k = is in cc)
both_of (homes.Both j) k is kept = let e : Some j ≡ Some k = is in cc
both_of (homes.Register j) k is kept = absurd (let e : false ≡ true = kept in cc)

-- A slot number at least `first` and less than `first + count` is among the `count` slots from `first` on.
pub among : (first count slot : ℕ) → first ≤ slot → slot < first + count → is_among first count slot ≡ true
among first count slot from below = and_from _ _ (le-leb first slot from) (lt-ltb slot (first + count) below)

pub not_among : (first count slot : ℕ) → is_among first count slot ≡ false → slot < first ⊎ first + count ≤ slot
not_among first count slot other = elim (and_cases (nat_le first slot) (nat_lt slot (first + count)) other) [
  | inl before ↦ inl (leb-false first slot before)
  | inr following ↦ inr (ltb-false slot (first + count) following)
]

pub outside_among : (first count slot : ℕ) → slot < first ⊎ first + count ≤ slot → is_among first count slot ≡ false
outside_among first count slot outside = go (is_among first count slot) refl
  where
    go : (b : Bool) → is_among first count slot ≡ b → is_among first count slot ≡ false
    go false is = is
    go true is =
        let parts = and_parts (nat_le first slot) (nat_lt slot (first + count)) is in
        elim outside [
          | inl below ↦ absurd (omega (arith, below, leb-true first slot parts.0))
          | inr above ↦ absurd (omega (arith, above, ltb-true slot (first + count) parts.1))
        ]

-- ---- live slots

-- `Caches` says that each register assigned to a slot holds the slot's word if the slot is live.
abbrev pub Caches : Program → List Frame → (function index : ℕ) → (r slots : Words) → Type 0
Caches program frames function index r slots =
    (slot k : ℕ) → value_register (frame_at frames function) slot ≡ Some k → IsLiveAt program (routine_at program function) slot index → r k ≡ slots slot

module _ (program : Program) (frames : List Frame) (function : ℕ) (right : AreHomes program (routine_at program function) (frame_at frames function).saved (frame_at frames function).homes) where
  abbrev frame : Frame
  frame = frame_at frames function

  abbrev IsAt : (index : ℕ) → Instruction → Type 0
  IsAt index i = instruction_at program (record { function = function; index = index }) ≡ Some i

  -- If a slot is live after an instruction that does not write it, the slot is live before this instruction.
  pub live_earlier : (index next slot : ℕ) (i : Instruction) → IsAt index i → leads i index next ≡ true → writes program i slot ≡ false
      → IsLiveAt program (routine_at program function) slot next → IsLiveAt program (routine_at program function) slot index
  live_earlier index next slot i at led unwritten (steps, wanted) = (suc steps, (i, at, unwritten, next, led, wanted))

  -- If an instruction changes no slot that has a register, registers hold the words of their live slots after it as before.
  pub caches_past : (index next : ℕ) (r r' slots slots' : Words) (i : Instruction) → IsAt index i → leads i index next ≡ true
      → ((slot k : ℕ) → value_register (frame_at frames function) slot ≡ Some k → writes program i slot ≡ false)
      → ((slot k : ℕ) → value_register (frame_at frames function) slot ≡ Some k → slots' slot ≡ slots slot)
      → ValuesSame r' r → Caches program frames function index r slots → Caches program frames function next r' slots'
  caches_past index next r r' slots slots' i at led unwritten same values caches slot k has wanted =
      values k (right.low slot k has) (right.high slot k has)
      ∙ (caches slot k has (live_earlier index next slot i at led (unwritten slot k has) wanted) ∙ sym (same slot k has))

  -- If an instruction writes a slot and the slot's register, registers hold the words of their live slots after it as before.
  pub made_caches : (index destination word : ℕ) (r r' slots : Words) (i : Instruction) → IsAt index i
      → ((slot : ℕ) → slot ≢ destination → writes program i slot ≡ false) → writes program i destination ≡ true → leads i index (index + 1) ≡ true
      → ((k : ℕ) → value_register (frame_at frames function) destination ≡ Some k → r' k ≡ word)
      → ((n : ℕ) → 6 ≤ n → n < 24 → (value_register (frame_at frames function) destination ≡ Some n → ⊥) → r' n ≡ r n)
      → Caches program frames function index r slots → Caches program frames function (index + 1) r' (put slots destination word)
  made_caches index destination word r r' slots i at unwritten gets led result others caches slot k has wanted = elim (cases_eq slot destination) [
    | inl same ↦
        result k (ap (value_register (frame_at frames function)) (sym same) ∙ has) ∙ sym (ap (put slots destination word) same ∙ put-same slots destination word)
    | inr other ↦
        others k (right.low slot k has) (right.high slot k has) (λ shared. other (right.made index (index + 1) slot destination k i at gets led shared has wanted))
        ∙ (caches slot k has (live_earlier index (index + 1) slot i at led (unwritten slot other) wanted) ∙ sym (put-other slots destination slot word other))
  ]

  -- If a move copies several words one by one, registers hold the words of their live slots after the move as before.
  pub moved_caches : (index destination source count : ℕ) (r r' slots : Words) → IsAt index (plain.MoveWords destination source count)
      → ((i k : ℕ) → i < count → value_register (frame_at frames function) (destination + i) ≡ Some k
      → ((j : ℕ) → j < count → value_register (frame_at frames function) (destination + j) ≡ Some k → i ≡ j) → r' k ≡ slots (source + i))
      → ((n : ℕ) → 6 ≤ n → n < 24 → ((i : ℕ) → i < count → value_register (frame_at frames function) (destination + i) ≡ Some n → ⊥) → r' n ≡ r n)
      → Caches program frames function index r slots → Caches program frames function (index + 1) r' (copied slots source count slots destination)
  moved_caches index destination source count r r' slots at given others caches slot k has wanted = go (is_among destination count slot) refl
    where
      -- If a move writes several slots and one of them has a register, no other slot that the move writes has the same register.
      only : (j : ℕ) → j < count → value_register (frame_at frames function) (destination + j) ≡ Some k → slot ≡ destination + j
      only j below there =
          right.made index (index + 1) slot (destination + j) k (plain.MoveWords destination source count) at
          (among destination count (destination + j) (omega arith) (omega (arith, below))) (eqb_next index) there has wanted

      go : (b : Bool) → is_among destination count slot ≡ b → r' k ≡ copied slots source count slots destination slot
      go true inside =
          let parts = and_parts (nat_le destination slot) (nat_lt slot (destination + count)) inside in
          let from = leb-true destination slot parts.0 in
          let below = ltb-true slot (destination + count) parts.1 in
          let is : slot ≡ destination + (slot - destination) = omega (arith, from) in
          given (slot - destination) k (omega (arith, from, below)) (ap (value_register (frame_at frames function)) (sym is) ∙ has)
          (λ j j_below there. let e = only j j_below there in omega (arith, e))
          ∙ (sym (copied-inside slots slots source count destination (slot - destination) (omega (arith, from, below))) ∙ ap (copied slots source count slots destination) (sym is))
      go false outside =
          others k (right.low slot k has) (right.high slot k has)
          (λ i below there. absurd (false≢true (sym outside ∙ ap (is_among destination count) (only i below there) ∙ among destination count (destination + i) (omega arith) (omega (arith, below)))))
          ∙ (caches slot k has (live_earlier index (index + 1) slot (plain.MoveWords destination source count) at (eqb_next index) outside wanted)
          ∙ sym (elim (not_among destination count slot outside) [
            | inl below ↦ copied-below slots slots source count destination slot below
            | inr above ↦ copied-above slots slots source count destination slot above
          ]))

  -- If a slot has a register, no instruction of the function forbids that this slot is kept in a register.
  pub unbarred : (index slot k : ℕ) (i : Instruction) → IsAt index i → value_register (frame_at frames function) slot ≡ Some k → bars i slot ≡ false
  unbarred index slot k i at has = go (bars i slot) refl
    where
      go : (b : Bool) → bars i slot ≡ b → bars i slot ≡ false
      go false is = is
      go true is = absurd (let e : None ≡ Some k = sym (right.barred index slot i at is) ∙ has in cc)

  pub barred_kept : (index slot : ℕ) (i : Instruction) → IsAt index i → bars i slot ≡ true → is_kept (frame_at frames function) slot ≡ true
  barred_kept index slot i at is = memory_kept (frame_at frames function) slot (right.barred index slot i at is)

-- ---- reloaded registers

pub length_reload : (frame : Frame) (slot : ℕ) (hs : List Home) → length (reloads_from frame slot hs) ≡ sum_by homing.both_count hs
length_reload frame slot [] = refl
length_reload frame slot (homes.Memory ∷ hs) = length_reload frame (suc slot) hs ∙ (let e = sum_by-cons homing.both_count homes.Memory hs in let f : sum_by homing.both_count hs ≡ sum_by homing.both_count (homes.Memory ∷ hs) = omega (arith, e) in f)
length_reload frame slot (homes.Both k ∷ hs) =
    let e = sum_by-cons homing.both_count (homes.Both k) hs in
    let f : suc (length (reloads_from frame (suc slot) hs)) ≡ sum_by homing.both_count (homes.Both k ∷ hs) = omega (arith, e, length_reload frame (suc slot) hs) in
    f
length_reload frame slot (homes.Register k ∷ hs) = length_reload frame (suc slot) hs ∙ (let e = sum_by-cons homing.both_count (homes.Register k) hs in let f : sum_by homing.both_count hs ≡ sum_by homing.both_count (homes.Register k ∷ hs) = omega (arith, e) in f)

pub length_reloads : (frame : Frame) → length (reloads frame) ≡ reload_count frame
length_reloads frame = length_reload frame 0 frame.homes

abbrev pub AreAlone : List Home → Type 0
AreAlone hs = (a c k : ℕ) → homing.home_of hs a ≡ homes.Both k → homing.home_of hs c ≡ homes.Both k → a ≡ c

abbrev pub AreValues : List Home → Type 0
AreValues hs = (a k : ℕ) → homing.home_of hs a ≡ homes.Both k → (6 ≤ k) × (k < 24)

module _ (globals stack : ℕ) (frame : Frame) (base : ℕ) (w : Contents) where
  abbrev word_there : ℕ → ℕ
  word_there slot = w.words (memory_address base (slot_offset frame slot))

  -- `AreReloaded` describes the effect of the MIPS lines that reload registers from memory.
  pub record AreReloaded (slot : ℕ) (hs : List Home) (q : Words) : Type 0 where
    pub safe : AreSafe globals stack (reloads_from frame slot hs) q w
    pub memory : after_w (reloads_from frame slot hs) q w ≡ w
    pub others : (n : ℕ) → ((j : ℕ) → homing.home_of hs j ≡ homes.Both n → ⊥) → after_r (reloads_from frame slot hs) q w n ≡ q n
    pub result : (j k : ℕ) → homing.home_of hs j ≡ homes.Both k → after_r (reloads_from frame slot hs) q w k ≡ w.words (memory_address base (slot_offset frame (slot + j)))

  abbrev pub AreCells : (slot : ℕ) → List Home → Type 0
  AreCells slot hs = (j : ℕ) → j < length hs → IsCell globals stack (memory_address base (slot_offset frame (slot + j)))

  cells_after : (slot : ℕ) (h : Home) (hs : List Home) → AreCells slot (h ∷ hs) → AreCells (suc slot) hs
  cells_after slot h hs cells j below =
      subst (λ (n : ℕ). IsCell globals stack (memory_address base (slot_offset frame n))) (let e : slot + suc j ≡ suc slot + j = omega arith in e) (cells (suc j) (omega (arith, below)))

  there_after : (slot j : ℕ) → w.words (memory_address base (slot_offset frame (suc slot + j))) ≡ w.words (memory_address base (slot_offset frame (slot + suc j)))
  there_after slot j = ap (λ (n : ℕ). w.words (memory_address base (slot_offset frame n))) (let e : suc slot + j ≡ slot + suc j = omega arith in e)

  alone_after : (h : Home) (hs : List Home) → AreAlone (h ∷ hs) → AreAlone hs
  alone_after h hs alone a c k here there = let e = alone (suc a) (suc c) k here there in omega (arith, e)

  pub are_reloaded : (slot : ℕ) (hs : List Home) (q : Words) → q FRAME ≡ base → AreValues hs → AreAlone hs → AreCells slot hs → AreReloaded slot hs q
  are_reloaded slot [] q is values alone cells = record {
    safe = tt;
    memory = refl;
    others = λ n apart. refl;
    result = λ j k both. absurd (let e : homes.Memory ≡ homes.Both k = both in cc);
  }
  are_reloaded slot (homes.Memory ∷ hs) q is values alone cells =
      let rest = are_reloaded (suc slot) hs q is (λ a k both. values (suc a) k both) (alone_after homes.Memory hs alone) (cells_after slot homes.Memory hs cells) in
      record {
        safe = rest.safe;
        memory = rest.memory;
        others = λ n apart. rest.others n (λ j both. apart (suc j) both);
        result = in_rest rest;
      }
    where
      in_rest : AreReloaded (suc slot) hs q → (j k : ℕ) → homing.home_of (homes.Memory ∷ hs) j ≡ homes.Both k → after_r (reloads_from frame (suc slot) hs) q w k ≡ w.words (memory_address base (slot_offset frame (slot + j)))
      in_rest rest zero k both = absurd (let e : homes.Memory ≡ homes.Both k = both in cc)
      in_rest rest (suc j) k both = rest.result j k both ∙ there_after slot j
  are_reloaded slot (homes.Register own ∷ hs) q is values alone cells =
      let rest = are_reloaded (suc slot) hs q is (λ a k both. values (suc a) k both) (alone_after (homes.Register own) hs alone) (cells_after slot (homes.Register own) hs cells) in
      record {
        safe = rest.safe;
        memory = rest.memory;
        others = λ n apart. rest.others n (λ j both. apart (suc j) both);
        result = in_rest rest;
      }
    where
      in_rest : AreReloaded (suc slot) hs q → (j k : ℕ) → homing.home_of (homes.Register own ∷ hs) j ≡ homes.Both k → after_r (reloads_from frame (suc slot) hs) q w k ≡ w.words (memory_address base (slot_offset frame (slot + j)))
      in_rest rest zero k both = absurd (let e : homes.Register own ≡ homes.Both k = both in cc)
      in_rest rest (suc j) k both = rest.result j k both ∙ there_after slot j
  are_reloaded slot (homes.Both own ∷ hs) q is values alone cells =
      let q1 : Words = put q (own % 32) (w.words (memory_address (q FRAME) (slot_offset frame slot))) in
      let high = (values 0 own refl).1 in
      let whole : own % 32 ≡ own = omega (arith, high) in
      let base_is : q1 FRAME ≡ base = put-other q (own % 32) FRAME _ (λ e. absurd (omega (arith, e, high))) ∙ is in
      let rest = are_reloaded (suc slot) hs q1 base_is (λ a k both. values (suc a) k both) (alone_after (homes.Both own) hs alone) (cells_after slot (homes.Both own) hs cells) in
      record {
        safe = (
          (
            ne_eqb (own % 32) 0 (λ e. absurd (omega (arith, e, (values 0 own refl).0, high))),
            subst (λ (b : ℕ). IsCell globals stack (memory_address b (slot_offset frame slot))) (sym is)
                (subst (λ (n : ℕ). IsCell globals stack (memory_address base (slot_offset frame n))) (let e : slot + 0 ≡ slot = omega arith in e) (cells 0 (omega arith))),
          ),
          rest.safe,
        );
        memory = rest.memory;
        others = λ n apart. rest.others n (λ j both. apart (suc j) both) ∙ put-other q (own % 32) n _ (λ same. apart 0 (ap homes.Both (sym (same ∙ whole))));
        result = in_rest rest;
      }
    where
      in_rest : AreReloaded (suc slot) hs (put q (own % 32) (w.words (memory_address (q FRAME) (slot_offset frame slot)))) → (j k : ℕ) → homing.home_of (homes.Both own ∷ hs) j ≡ homes.Both k
          → after_r (reloads_from frame (suc slot) hs) (put q (own % 32) (w.words (memory_address (q FRAME) (slot_offset frame slot)))) w k ≡ w.words (memory_address base (slot_offset frame (slot + j)))
      in_rest rest zero k both =
          let same : own ≡ k = (let e : homes.Both own ≡ homes.Both k = both in cc) in
          let here : k ≡ own % 32 = omega (arith, same, (values 0 own refl).1) in
          rest.others k (λ j there. absurd (let e = alone 0 (suc j) k both there in omega (arith, e)))
          ∙ (ap (put q (own % 32) (w.words (memory_address (q FRAME) (slot_offset frame slot)))) here
          ∙ (put-same q (own % 32) (w.words (memory_address (q FRAME) (slot_offset frame slot)))
          ∙ (ap (λ (b : ℕ). w.words (memory_address b (slot_offset frame slot))) is
          ∙ ap (λ (n : ℕ). w.words (memory_address base (slot_offset frame n))) (let e : slot ≡ slot + 0 = omega arith in e))))
      in_rest rest (suc j) k both = rest.result j k both ∙ there_after slot j

-- `Reloaded` says that after the reloads, registers hold all live slots, if each live slot was in memory or in a register only.
-- The reloads change only registers that are assigned to slots.
pub record Reloaded (globals stack : ℕ) (program : Program) (frames : List Frame) (function index : ℕ) (q : Words) (w : Contents) (slots : Words) : Type 0 where
  pub safe : AreSafe globals stack (reloads (frame_at frames function)) q w
  pub memory : after_w (reloads (frame_at frames function)) q w ≡ w
  pub others : (n : ℕ) → n < 6 ⊎ 24 ≤ n → after_r (reloads (frame_at frames function)) q w n ≡ q n
  -- The MIPS lines that reload registers from the frame leave unchanged each register that is assigned to no slot.
  pub aside : (n : ℕ) → ((slot : ℕ) → value_register (frame_at frames function) slot ≡ Some n → ⊥) → after_r (reloads (frame_at frames function)) q w n ≡ q n
  pub caches : Caches program frames function index (after_r (reloads (frame_at frames function)) q w) slots

pub reloaded : (globals stack : ℕ) (program : Program) (frames : List Frame) (function : ℕ) (right : AreHomes program (routine_at program function) (frame_at frames function).saved (frame_at frames function).homes) (index : ℕ) (q : Words) (w : Contents) (slots : Words)
    → ((slot : ℕ) → slot < (routine_at program function).slots → IsCell globals stack (memory_address (q FRAME) (slot_offset (frame_at frames function) slot)))
    → ((slot : ℕ) → slot < (routine_at program function).slots → is_kept (frame_at frames function) slot ≡ true → w.words (memory_address (q FRAME) (slot_offset (frame_at frames function) slot)) ≡ slots slot)
    → ((slot k : ℕ) → value_register (frame_at frames function) slot ≡ Some k → IsLiveAt program (routine_at program function) slot index → is_kept (frame_at frames function) slot ≡ false → q k ≡ slots slot)
    → Reloaded globals stack program frames function index q w slots
reloaded globals stack program frames function right index q w slots cells holds own =
    let frame : Frame = frame_at frames function in
    let values : AreValues frame.homes = λ a k both. (right.low a k (ap homing.register_of both), right.high a k (ap homing.register_of both)) in
    let alone : AreAlone frame.homes = λ a c k here there. right.alone a c k here (ap homing.register_of there) in
    let all = are_reloaded globals stack frame (q FRAME) w 0 frame.homes q refl values alone (λ j below. cells (0 + j) (omega (arith, below, right.as_many))) in
    record {
      safe = all.safe;
      memory = all.memory;
      others = λ n aside. all.others n (λ j both. out_of n aside (values j n both));
      aside = λ n none. all.others n (λ j both. none j (ap homing.register_of both));
      caches = λ slot k has wanted. elim (cases_Bool (is_kept (frame_at frames function) slot)) [
        | inl kept ↦
            all.result slot k (both_of (homing.home_of frame.homes slot) k has kept)
            ∙ (ap (λ (n : ℕ). w.words (memory_address (q FRAME) (slot_offset frame n))) (let e : 0 + slot ≡ slot = omega arith in e)
            ∙ holds slot (listed slot k has) kept)
        | inr unkept ↦
            all.others k (λ j both. no_both slot k has unkept j both)
            ∙ own slot k has wanted unkept
      ];
    }
  where
    -- A register that is the only home of a slot is not reloaded.
    no_both : (slot k : ℕ) → value_register (frame_at frames function) slot ≡ Some k → is_kept (frame_at frames function) slot ≡ false
        → (j : ℕ) → homing.home_of (frame_at frames function).homes j ≡ homes.Both k → ⊥
    no_both slot k has unkept j both =
        let same : j ≡ slot = right.alone j slot k both has in
        false≢true (sym unkept ∙ ap homing.is_kept (ap (homing.home_of (frame_at frames function).homes) (sym same) ∙ both))

    out_of : (n : ℕ) → n < 6 ⊎ 24 ≤ n → (6 ≤ n) × (n < 24) → ⊥
    out_of n (inl below) (low, high) = omega (arith, below, low)
    out_of n (inr above) (low, high) = omega (arith, above, high)

    listed : (slot k : ℕ) → value_register (frame_at frames function) slot ≡ Some k → slot < (routine_at program function).slots
    listed slot k has = elim (cases_lt slot (length (frame_at frames function).homes)) [
      | inl below ↦ omega (arith, below, right.as_many)
      | inr past ↦ absurd (let e : None ≡ Some k = sym (ap homing.register_of (get_or_past (frame_at frames function).homes slot homes.Memory past)) ∙ has in cc)
    ]
