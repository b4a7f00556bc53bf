-- Arguments arrive in the registers or memory words where callers put them. An argument that arrives in memory, but whose slot has a
-- register, is loaded at the function's entry.
use Rattle.std.proofs.Common.{◌≡◌, ℕ, zero, suc, ◌+◌, ◌<◌, ◌≤◌, Bool, true, false, List, [], ◌∷◌, ◌++◌, length, map, take, drop, Some, None, refl, sym, ap, ◌∙◌, arith, inl, inr}
use Rattle.std.specs.Prelude.{◌⊎◌, if◌then◌else◌, sum_by}
use Rattle.std.proofs.lemmas.Bool.{cases_lt, leb-true, leb-false, lt-leb, le-leb, cond-true, cond-false}
use Rattle.std.proofs.lemmas.List.Sums.{sum_by-cons}
use Rattle.cyc_isa.specs.Effect.{memory_address}
use Rattle.cyc_plain.specs.inside.Program.{Program, routine_at}
use Rattle.cyc_plain.specs.inside.State.{Words}
use Rattle.cyc_frame.specs.inside.Frame.{Frame}
use Rattle.cyc_frame.specs.inside.Layout.{frame_at}
use Rattle.cyc_registers.specs.declared.home.Home.{Home}
use Rattle.cyc_registers.specs.declared.home.Home.TheVariants as homes
use Rattle.cyc_registers.specs.inside.Interference.{AreHomes, register_of, home_of, is_preserved, both_count, saved_count}
use Rattle.cyc_registers.specs.inside.Interference as homing
use Rattle.cyc_registers.specs.inside.Liveness.{IsLiveAt}
use Rattle.cyc_select.specs.declared.constants.TheConstants.{FRAME}
use Rattle.cyc_select.specs.inside.Instructions.{slot_offset}
use Rattle.cyc_select.specs.inside.Slots.{reload, reloads_from, value_register, is_kept, coming_home, coming, arriving_home, arriving, arrivals, arrival_count}
use Rattle.cyc_select.proofs.relation.Cells.{IsCell}
use Rattle.cyc_select.proofs.relation.Values.{Caches, AreAlone, AreValues, are_reloaded, length_reload}
use Rattle.cyc_select.proofs.effects.Views.{Contents}
use Rattle.cyc_select.proofs.effects.Sequences.{after_r, after_w, AreSafe}

-- ---- homes, slot by slot

home_mapped : (f : Home → Home) → f homes.Memory ≡ homes.Memory → (hs : List Home) (slot : ℕ) → home_of (map f hs) slot ≡ f (home_of hs slot)
home_mapped f none [] slot = sym none
home_mapped f none (h ∷ hs) zero = refl
home_mapped f none (h ∷ hs) (suc slot) = home_mapped f none hs slot

home_taken : (n : ℕ) (hs : List Home) (slot : ℕ) → slot < n → home_of (take n hs) slot ≡ home_of hs slot
home_taken zero hs slot below = absurd (omega (arith, below))
home_taken (suc n) [] slot below = refl
home_taken (suc n) (h ∷ hs) zero below = refl
home_taken (suc n) (h ∷ hs) (suc slot) below = home_taken n hs slot (omega (arith, below))

home_untaken : (n : ℕ) (hs : List Home) (slot : ℕ) → n ≤ slot → home_of (take n hs) slot ≡ homes.Memory
home_untaken zero [] slot past = refl
home_untaken zero (h ∷ hs) slot past = refl
home_untaken (suc n) [] slot past = refl
home_untaken (suc n) (h ∷ hs) zero past = absurd (omega (arith, past))
home_untaken (suc n) (h ∷ hs) (suc slot) past = home_untaken n hs slot (omega (arith, past))

pub length_arriving : (n : ℕ) (hs : List Home) → n ≤ length hs → length (map arriving_home (take n hs)) ≡ n
length_arriving zero [] fits = refl
length_arriving zero (h ∷ hs) fits = refl
length_arriving (suc n) [] fits = absurd (omega (arith, fits))
length_arriving (suc n) (h ∷ hs) fits = ap suc (length_arriving n hs (omega (arith, fits)))

pub coming_is : (frame : Frame) (slot : ℕ) → home_of (coming frame).homes slot ≡ coming_home (home_of frame.homes slot)
coming_is frame slot = home_mapped coming_home refl frame.homes slot

pub arriving_is : (frame : Frame) (slot : ℕ) → slot < frame.parameters → home_of (arriving frame) slot ≡ arriving_home (home_of frame.homes slot)
arriving_is frame slot below = home_mapped arriving_home refl (take frame.parameters frame.homes) slot ∙ ap arriving_home (home_taken frame.parameters frame.homes slot below)

pub arriving_past : (frame : Frame) (slot : ℕ) → frame.parameters ≤ slot → home_of (arriving frame) slot ≡ homes.Memory
arriving_past frame slot past =
    home_mapped arriving_home refl (take frame.parameters frame.homes) slot ∙ ap arriving_home (home_untaken frame.parameters frame.homes slot past)

-- If an argument arrives in a register, this register is caller-saved and is the register of its slot.
came_low : (h : Home) (k : ℕ) → register_of (coming_home h) ≡ Some k → (register_of h ≡ Some k) × (k < 17)
came_low homes.Memory k has = absurd (let e : None ≡ Some k = has in cc)
came_low (homes.Both register) k has = go (is_preserved register) refl has
  where
    go : (b : Bool) → is_preserved register ≡ b → register_of (if b then homes.Memory else homes.Both register) ≡ Some k → (Some register ≡ Some k) × (k < 17)
    go true is there = absurd (let e : None ≡ Some k = there in cc)
    go false is there =
        let same : register ≡ k = (let e : Some register ≡ Some k = there in cc) in
        (there, omega (arith, same, leb-false 17 register is))
came_low (homes.Register register) k has = go (is_preserved register) refl has
  where
    go : (b : Bool) → is_preserved register ≡ b → register_of (if b then homes.Memory else homes.Register register) ≡ Some k → (Some register ≡ Some k) × (k < 17)
    go true is there = absurd (let e : None ≡ Some k = there in cc)
    go false is there =
        let same : register ≡ k = (let e : Some register ≡ Some k = there in cc) in
        (there, omega (arith, same, leb-false 17 register is))

comes_low : (h : Home) (k : ℕ) → register_of h ≡ Some k → k < 17 → register_of (coming_home h) ≡ Some k
comes_low homes.Memory k has low = has
comes_low (homes.Both register) k has low =
    let same : register ≡ k = (let e : Some register ≡ Some k = has in cc) in
    ap register_of (cond-false (is_preserved register) homes.Memory (homes.Both register) (lt-leb 17 register (omega (arith, same, low)))) ∙ has
comes_low (homes.Register register) k has low =
    let same : register ≡ k = (let e : Some register ≡ Some k = has in cc) in
    ap register_of (cond-false (is_preserved register) homes.Memory (homes.Register register) (lt-leb 17 register (omega (arith, same, low)))) ∙ has

-- A parameter arrives in memory if its home includes memory, or if its home is a callee-saved register.
comes_kept : (h : Home) → homing.is_kept h ≡ true → homing.is_kept (coming_home h) ≡ true
comes_kept homes.Memory kept = refl
comes_kept (homes.Both register) kept = go (is_preserved register)
  where
    go : (b : Bool) → homing.is_kept (if b then homes.Memory else homes.Both register) ≡ true
    go true = refl
    go false = refl
comes_kept (homes.Register register) kept = absurd (let e : false ≡ true = kept in cc)

comes_high : (h : Home) (k : ℕ) → register_of h ≡ Some k → 17 ≤ k → homing.is_kept (coming_home h) ≡ true
comes_high homes.Memory k has high = refl
comes_high (homes.Both register) k has high = comes_kept (homes.Both register) refl
comes_high (homes.Register register) k has high =
    let same : register ≡ k = (let e : Some register ≡ Some k = has in cc) in
    ap homing.is_kept (cond-true (is_preserved register) homes.Memory (homes.Register register) (le-leb 17 register (omega (arith, same, high))))

arrives : (h : Home) (k : ℕ) → register_of h ≡ Some k → 17 ≤ k → arriving_home h ≡ homes.Both k
arrives homes.Memory k has high = absurd (let e : None ≡ Some k = has in cc)
arrives (homes.Both register) k has high =
    let same : register ≡ k = (let e : Some register ≡ Some k = has in cc) in
    cond-true (is_preserved register) (homes.Both register) homes.Memory (le-leb 17 register (omega (arith, same, high))) ∙ ap homes.Both same
arrives (homes.Register register) k has high =
    let same : register ≡ k = (let e : Some register ≡ Some k = has in cc) in
    cond-true (is_preserved register) (homes.Both register) homes.Memory (le-leb 17 register (omega (arith, same, high))) ∙ ap homes.Both same

abbrev IsArrived : Home → ℕ → Type 0
IsArrived h k = (register_of h ≡ Some k) × (17 ≤ k)

arrived_by : (register k : ℕ) (b : Bool) → is_preserved register ≡ b → (if b then homes.Both register else homes.Memory) ≡ homes.Both k → (Some register ≡ Some k) × (17 ≤ k)
arrived_by register k true is both =
    let same : register ≡ k = (let e : homes.Both register ≡ homes.Both k = both in cc) in
    (ap Some same, omega (arith, same, leb-true 17 register is))
arrived_by register k false is both = absurd (let e : homes.Memory ≡ homes.Both k = both in cc)

arrived_home : (h : Home) (k : ℕ) → arriving_home h ≡ homes.Both k → IsArrived h k
arrived_home homes.Memory k both = absurd (let e : homes.Memory ≡ homes.Both k = both in cc)
arrived_home (homes.Both register) k both = arrived_by register k (is_preserved register) refl both
arrived_home (homes.Register register) k both = arrived_by register k (is_preserved register) refl both

counted_by : (register : ℕ) (b : Bool) → both_count (if b then homes.Both register else homes.Memory) ≡ (if b then 1 else 0)
counted_by register true = refl
counted_by register false = refl

counted_home : (h : Home) → both_count (arriving_home h) ≡ saved_count h
counted_home homes.Memory = refl
counted_home (homes.Both register) = counted_by register (is_preserved register)
counted_home (homes.Register register) = counted_by register (is_preserved register)

saved_counted : (hs : List Home) → sum_by both_count (map arriving_home hs) ≡ sum_by saved_count hs
saved_counted [] = refl
saved_counted (h ∷ hs) =
    sum_by-cons both_count (arriving_home h) (map arriving_home hs)
    ∙ (ap (λ (n : ℕ). n + sum_by both_count (map arriving_home hs)) (counted_home h)
    ∙ (ap (λ (n : ℕ). saved_count h + n) (saved_counted hs) ∙ sym (sum_by-cons saved_count h hs)))

pub length_arrivals : (frame : Frame) → length (arrivals frame) ≡ arrival_count frame
length_arrivals frame = length_reload frame 0 (arriving frame) ∙ saved_counted (take frame.parameters frame.homes)

-- ---- one more parameter

pub reloads_next : (frame : Frame) (hs : List Home) (slot at : ℕ) → reloads_from frame at (drop slot hs) ≡ reload frame (home_of hs slot) at ++ reloads_from frame (suc at) (drop (suc slot) hs)
reloads_next frame [] zero at = refl
reloads_next frame [] (suc slot) at = refl
reloads_next frame (h ∷ hs) zero at = refl
reloads_next frame (h ∷ hs) (suc slot) at = reloads_next frame hs slot at

-- ---- the frame as callers see it

pub came_in : (frame : Frame) (slot k : ℕ) → value_register (coming frame) slot ≡ Some k → (value_register frame slot ≡ Some k) × (k < 17)
came_in frame slot k has = came_low (home_of frame.homes slot) k (ap register_of (sym (coming_is frame slot)) ∙ has)

pub comes_in : (frame : Frame) (slot k : ℕ) → value_register frame slot ≡ Some k → k < 17 → value_register (coming frame) slot ≡ Some k
comes_in frame slot k has low = ap register_of (coming_is frame slot) ∙ comes_low (home_of frame.homes slot) k has low

pub comes_to_memory : (frame : Frame) (slot : ℕ) → is_kept frame slot ≡ true → is_kept (coming frame) slot ≡ true
comes_to_memory frame slot kept = ap homing.is_kept (coming_is frame slot) ∙ comes_kept (home_of frame.homes slot) kept

pub comes_by_memory : (frame : Frame) (slot k : ℕ) → value_register frame slot ≡ Some k → 17 ≤ k → is_kept (coming frame) slot ≡ true
comes_by_memory frame slot k has high = ap homing.is_kept (coming_is frame slot) ∙ comes_high (home_of frame.homes slot) k has high

-- A slot that is loaded into a register at the function's entry is a parameter, and the register is the slot's own.
arrived_at : (frame : Frame) (slot k : ℕ) → home_of (arriving frame) slot ≡ homes.Both k → (slot < frame.parameters) × (value_register frame slot ≡ Some k) × (17 ≤ k)
arrived_at frame slot k both = elim (cases_lt slot frame.parameters) [
  | inl below ↦
      let its = arrived_home (home_of frame.homes slot) k (sym (arriving_is frame slot below) ∙ both) in
      (below, its.0, its.1)
  | inr past ↦
      absurd (let e : homes.Memory ≡ homes.Both k = sym (arriving_past frame slot past) ∙ both in cc)
]

-- ---- the lines that load parameters

-- `Arrived` says that after the loads of a function's parameters, each live slot with a register has its word in that register, and
-- that no register without a slot has changed.
pub record Arrived (globals stack : ℕ) (program : Program) (frames : List Frame) (function index : ℕ) (q : Words) (w : Contents) (slots : Words) : Type 0 where
  pub safe : AreSafe globals stack (arrivals (frame_at frames function)) q w
  pub memory : after_w (arrivals (frame_at frames function)) q w ≡ w
  pub others : (n : ℕ) → n < 6 ⊎ 24 ≤ n → after_r (arrivals (frame_at frames function)) q w n ≡ q n
  pub aside : (n : ℕ) → ((slot : ℕ) → value_register (frame_at frames function) slot ≡ Some n → ⊥) → after_r (arrivals (frame_at frames function)) q w n ≡ q n
  pub caches : Caches program frames function index (after_r (arrivals (frame_at frames function)) q w) slots

pub arrived : (globals stack : ℕ) (program : Program) (frames : List Frame) (function : ℕ) (right : AreHomes program (routine_at program function) (frame_at frames function).saved (frame_at frames function).homes)
    → (frame_at frames function).parameters ≡ (routine_at program function).parameters → (routine_at program function).parameters ≤ (routine_at program function).slots → (index : ℕ) (q : Words) (w : Contents) (slots : Words)
    → ((slot : ℕ) → slot < (routine_at program function).slots → IsCell globals stack (memory_address (q FRAME) (slot_offset (frame_at frames function) slot)))
    → ((slot : ℕ) → slot < (routine_at program function).parameters → is_kept (coming (frame_at frames function)) slot ≡ true → w.words (memory_address (q FRAME) (slot_offset (frame_at frames function) slot)) ≡ slots slot)
    → ((slot k : ℕ) → value_register (coming (frame_at frames function)) slot ≡ Some k → IsLiveAt program (routine_at program function) slot index → q k ≡ slots slot)
    → ((slot k : ℕ) → value_register (frame_at frames function) slot ≡ Some k → IsLiveAt program (routine_at program function) slot index → slot < (routine_at program function).parameters)
    → Arrived globals stack program frames function index q w slots
arrived globals stack program frames function right same fits index q w slots cells there own entry =
    let frame : Frame = frame_at frames function in
    let values : AreValues (arriving frame) = λ a k both. (right.low a k (arrived_at frame a k both).1, right.high a k (arrived_at frame a k both).1) in
    let alone : AreAlone (arriving frame) = λ a c k here its.
    (let first = arrived_at frame a k here in let second = arrived_at frame c k its in
    right.arriving a c k first.1 second.1 first.2 (omega (arith, first.0, same)) (omega (arith, second.0, same))) in
    let long : length (arriving frame) ≡ frame.parameters = length_arriving frame.parameters frame.homes (omega (arith, same, fits, right.as_many)) in
    let all = are_reloaded globals stack frame (q FRAME) w 0 (arriving frame) q refl values alone (λ j below. cells (0 + j) (omega (arith, below, long, same, fits))) in
    record {
      safe = all.safe;
      memory = all.memory;
      others = λ n aside. all.others n (λ j both. out_of n aside (values j n both));
      aside = λ n none. all.others n (λ j both. none j (arrived_at frame j n both).1);
      caches = λ slot k has wanted. elim (cases_lt k 17) [
        | inl low ↦
            all.others k (λ j both. (let high = (arrived_at frame j k both).2 in omega (arith, low, high)))
            ∙ own slot k (comes_in frame slot k has low) wanted
        | inr high ↦
            let below = entry slot k has wanted in
            let from : 17 ≤ k = omega (arith, high) in
            all.result slot k (arriving_is frame slot (omega (arith, below, same)) ∙ arrives (home_of frame.homes slot) k has from)
            ∙ (ap (λ (n : ℕ). w.words (memory_address (q FRAME) (slot_offset frame n))) (let e : 0 + slot ≡ slot = omega arith in e)
            ∙ there slot below (comes_by_memory frame slot k has from))
      ];
    }
  where
    out_of : (n : ℕ) → n < 6 ⊎ 24 ≤ n → (6 ≤ n) × (n < 24) → ⊥
    out_of n (inl below) (low, high) = omega (arith, below, low)
    out_of n (inr above) (low, high) = omega (arith, above, high)
