-- Each instruction that is marked as one whose first machine word may fill the delay slots of branches to it may indeed fill them.
use Rattle.std.proofs.Common.{◌≡◌, ℕ, suc, ◌+◌, ◌<◌, Bool, false, true, List, length, Option, None, Some, sym, ap, subst, ◌∙◌, arith, inl, inr}
use Rattle.std.specs.Prelude.{◌==◌, ◌&&◌, not, nat_lt, if◌then◌else◌, bit_and, bit_or, slice_get, slice_set}
use Rattle.std.specs.Int.{bit_at}
use Rattle.std.proofs.lemmas.Bool.{cases_eq, cases_lt, cases_Bool, lt-ltb, eqb-true, false≢true}
use Rattle.std.proofs.lemmas.List.{get_or-set_same, get_or-set_other, set_past, length-set}
use Rattle.cyc_words.proofs.Items.{below_from_slice_get}
use Rattle.cyc_plain.specs.declared.instruction.Comparison.{Comparison}
use Rattle.cyc_plain.specs.declared.instruction.Instruction.{Instruction}
use Rattle.cyc_plain.specs.declared.instruction.Instruction.TheVariants as instructions
use Rattle.cyc_plain.specs.declared.instruction.Operand.{Operand}
use Rattle.cyc_plain.specs.inside.Program.{Routine, Program}
use Rattle.cyc_plain.specs.inside.Uses.{writes}
use Rattle.cyc_registers.specs.declared.home.Home.{Home}
use Rattle.cyc_registers.specs.declared.home.Home.TheVariants as homes
use Rattle.cyc_registers.specs.declared.liveness.TheConstants.{MOST_CHOSEN}
use Rattle.cyc_registers.specs.inside.Fills.{AreFillable, fills_at}
use Rattle.cyc_registers.specs.inside.FillPlaces.{AreLeft, barring, holders_of, is_free, may_fill}
use Rattle.cyc_registers.specs.inside.Interference.{HasRegister, register_of, home_of}
use Rattle.cyc_registers.specs.inside.Liveness.{IsLiveAt}
use Rattle.cyc_registers.specs.inside.LivenessTable.{IsSound}
use Rattle.cyc_registers.specs.inside.Masks.{AreMasks, mask_at}
use Rattle.cyc_registers.specs.inside.Sharing.{AreHolders}
use Rattle.cyc_words.proofs.Bits.{apart_bits, bit_within}
use Rattle.cyc_registers.proofs.CheckedLiveness.{live_bit}

-- ---- one branch at a time

module _ (holders live : List ℕ) (hs : List Home) (code : List Instruction) (count : ℕ) (fills : List Bool) (left_so_far : AreLeft holders live hs code count fills) where
  -- Excluding branch targets does not change the length of the list of flags that mark the code positions that may fill delay slots.
  length-barring : (last : Instruction) → length (barring holders live hs code count last fills) ≡ length code
  length-barring (instructions.Branch comparison left right target) = go (nat_lt target (length fills) && not (may_fill holders live hs count (slice_get code target)))
    where
      go : (b : Bool) → length (if b then slice_set fills target false else fills) ≡ length code
      go true = length-set fills target false ∙ left_so_far.as_many
      go false = left_so_far.as_many
  length-barring i = left_so_far.as_many

  -- A code position that may fill delay slots after one more branch was examined could already fill them before this branch was examined.
  fills_before : (target at : ℕ) (b : Bool) → fills_at (if b then slice_set fills at false else fills) target ≡ true → fills_at fills target ≡ true
  fills_before target at false is = is
  fills_before target at true is = elim (cases_eq target at) [
    | inl same ↦ elim (cases_lt at (length fills)) [
      | inl inside ↦ absurd (false≢true (sym (get_or-set_same fills at false false inside) ∙ (ap (fills_at (slice_set fills at false)) (sym same) ∙ is)))
      | inr outside ↦ sym (ap (λ (flags : List Bool). fills_at flags target) (set_past fills at false outside)) ∙ is
    ]
    | inr other ↦ sym (get_or-set_other fills at target false false other) ∙ is
  ]

  -- The target of a branch is unmarked as a position that fills delay slots if its instruction may not fill this branch's delay slot.
  barred_here : (index target : ℕ) (comparison : Comparison) (left right : Operand) (i : Instruction) → slice_get code target ≡ Some i
      → fills_at (barring holders live hs code count (instructions.Branch comparison left right target) fills) target ≡ true → may_fill holders live hs count (Some i) ≡ true
  barred_here index target comparison left right i there is = elim (cases_Bool (may_fill holders live hs count (Some i))) [
    | inl fine ↦ fine
    | inr refused ↦
        let inside : target < length fills = omega (arith, below_from_slice_get code target i there, left_so_far.as_many) in
        let barred : (nat_lt target (length fills) && not (may_fill holders live hs count (slice_get code target))) ≡ true =
        ap (λ (b : Bool). b && not (may_fill holders live hs count (slice_get code target))) (lt-ltb target (length fills) inside)
        ∙ (ap (λ (o : Option Instruction). not (may_fill holders live hs count o)) there ∙ ap not refused) in
        absurd (false≢true (sym (get_or-set_same fills target false false inside)
        ∙ (sym (ap (λ (b : Bool). fills_at (if b then slice_set fills target false else fills) target) barred) ∙ is)))
  ]

  -- Examining one more instruction keeps the invariant on the code positions that may fill delay slots.
  pub more_barred : (last : Instruction) → slice_get code count ≡ Some last → AreLeft holders live hs code (count + 1) (barring holders live hs code count last fills)
  more_barred last at_last = record {
    as_many = length-barring last;
    each = λ index target comparison left right i below at there is. elim (cases_eq index count) [
      | inl same ↦
          let its : last ≡ instructions.Branch comparison left right target = (let e : Some last ≡ Some (instructions.Branch comparison left right target) = sym at_last ∙ (ap (slice_get code) (sym same) ∙ at) in cc) in
          subst (λ (n : ℕ). may_fill holders live hs n (Some i) ≡ true) (sym same)
          (barred_here index target comparison left right i there (subst (λ (j : Instruction). fills_at (barring holders live hs code count j fills) target ≡ true) its is))
      | inr other ↦ left_so_far.each index target comparison left right i (omega (arith, below, other)) at there (earlier last target is)
    ];
  }
    where
      earlier : (j : Instruction) (target : ℕ) → fills_at (barring holders live hs code count j fills) target ≡ true → fills_at fills target ≡ true
      earlier (instructions.Branch comparison left right to) target is = fills_before target to _ is
      earlier j target is = is

-- ---- correctness of the check by the table of holders

by_register : (holders : List ℕ) (home : Home) (k : ℕ) → register_of home ≡ Some k → holders_of holders home ≡ mask_at holders k
by_register holders homes.Memory k has = absurd (let e : None ≡ Some k = has in cc)
by_register holders (homes.Both register) k has = ap (mask_at holders) (let e : Some register ≡ Some k = has in cc)
by_register holders (homes.Register register) k has = ap (mask_at holders) (let e : Some register ≡ Some k = has in cc)

module _ (program : Program) (r : Routine) (masks live holders : List ℕ) (calls clauses barred : ℕ) (sound : IsSound program r masks live calls clauses barred)
    (are : AreMasks masks MOST_CHOSEN) (hs : List Home) (right : AreHolders masks holders hs) where
  -- For each register, `holders` has a bit mask of the slots assigned to it. If no slot in the mask of a given slot's register is
  -- live after a code position, no slot with that register is live there.
  free : (index slot a k : ℕ) → is_free holders live hs index slot ≡ true → HasRegister hs slot k → HasRegister hs a k → IsLiveAt program r a (suc index) → ⊥
  free index slot a k is has has_a wanted =
      let (j, bit) = are.some a (right a k has_a).0 in
      let held : bit_at (mask_at holders k) j ≡ 1 =
      bit_within (mask_at masks a) (mask_at holders k) j (eqb-true (bit_or (mask_at masks a) (mask_at holders k)) (mask_at holders k) (right a k has_a).1) bit in
      let none : bit_and (mask_at live (index + 1)) (mask_at holders k) ≡ 0 =
      ap (bit_and (mask_at live (index + 1))) (sym (by_register holders (home_of hs slot) k has))
      ∙ eqb-true (bit_and (mask_at live (index + 1)) (holders_of holders (home_of hs slot))) 0 is in
      let live_a : IsLiveAt program r a (index + 1) = subst (IsLiveAt program r a) (let e : suc index ≡ index + 1 = omega arith in e) wanted in
      apart_bits (mask_at live (index + 1)) (mask_at holders k) j none held
      (live_bit program r masks live calls clauses barred sound a j are bit (index + 1) live_a)

  free_at : (destination index d a k : ℕ) → is_free holders live hs index destination ≡ true → (destination == d) ≡ true → HasRegister hs d k → HasRegister hs a k → IsLiveAt program r a (suc index) → ⊥
  free_at destination index d a k is written has has_a wanted =
      free index destination a k is (subst (λ (n : ℕ). HasRegister hs n k) (sym (eqb-true destination d written)) has) has_a wanted

  -- If an instruction may fill the delay slot of a branch, no slot live after the branch has the register that the instruction writes.
  free_of : (i : Instruction) (index d a k : ℕ) → may_fill holders live hs index (Some i) ≡ true → writes program i d ≡ true → HasRegister hs d k → HasRegister hs a k → IsLiveAt program r a (suc index) → ⊥
  free_of (instructions.Move destination source) index d a k is written has has_a wanted = free_at destination index d a k is written has has_a wanted
  free_of (instructions.Unary operator destination operand) index d a k is written has has_a wanted = free_at destination index d a k is written has has_a wanted
  free_of (instructions.Binary operator destination left right) index d a k is written has has_a wanted = free_at destination index d a k is written has has_a wanted
  free_of i index d a k is written has has_a wanted = absurd (false≢true is)

  pub fillable : (fills : List Bool) → AreLeft holders live hs r.code (length r.code) fills → AreFillable program r hs fills
  fillable fills left_at_end index target d a k comparison left right i at there written is has has_a wanted =
      free_of i index d a k (left_at_end.each index target comparison left right i (below_from_slice_get r.code index (instructions.Branch comparison left right target) at) at there is) written has has_a wanted
