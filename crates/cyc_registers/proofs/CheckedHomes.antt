-- If the check of the slots' homes (each is a register, memory or both) succeeds, then the homes are correct.
use Rattle.std.proofs.Common.{◌≡◌, ℕ, zero, suc, ◌+◌, ◌<◌, ◌≤◌, true, false, List, [], ◌∷◌, ◌++◌, length, Some, None, refl, sym, ap, subst, ◌∙◌, arith, inl, inr}
use Rattle.std.specs.Prelude.{◌⊎◌, ◌==◌, ◌||◌, ◌&&◌, Bool, nat_le, nat_lt, bit_and, bit_or, if◌then◌else◌, sum_by, take, slice_get}
use Rattle.std.specs.Int.{bit_at}
use Rattle.std.proofs.lemmas.Option.{same_Some, slice_get_within}
use Rattle.std.specs.Int.Bits.{or_self}
use Rattle.std.proofs.lemmas.Nat.Bits.{bit_at-zero}
use Rattle.std.proofs.lemmas.Bool.{cases_lt, cases_eq, cases_Bool, and_parts, or_cases, leb-true, ltb-true, eqb-true, eq-eqb, both_ways}
use Rattle.cyc_plain.specs.declared.instruction.Instruction.{Instruction}
use Rattle.cyc_plain.specs.declared.instruction.Instruction.TheVariants as instructions
use Rattle.cyc_plain.specs.inside.Program.{Routine, Program}
use Rattle.cyc_plain.specs.inside.Uses.{At, is_among, writes, leads}
use Rattle.cyc_registers.specs.declared.home.Home.{Home}
use Rattle.cyc_registers.specs.declared.home.Home.TheVariants as homes
use Rattle.cyc_registers.specs.declared.home.TheConstants.{FIRST_REGISTER, FIRST_PRESERVED, MOST_BOTH, MOST_SAVED}
use Rattle.cyc_registers.specs.declared.liveness.TheConstants.{MOST_CHOSEN}
use Rattle.cyc_registers.specs.declared.uses.Uses.{Uses}
use Rattle.cyc_registers.specs.inside.Interference.{AreHomes, HasRegister, register_of, is_preserved, is_kept, home_of, both_count, saved_count}
use Rattle.cyc_registers.specs.inside.Liveness.{IsLiveAt, IsLiveLater}
use Rattle.cyc_registers.specs.inside.LivenessTable.{IsSound, after_mask, is_within, may_have}
use Rattle.cyc_registers.specs.inside.Masks.{mask_at, HasBit, AreMasks, range_mask, uses_of, write_mask}
use Rattle.cyc_registers.specs.inside.Sharing.{AllSuit, AreAlone, AreApartAt, AreGroups, AreHolders, NeverMeet, AreSingle, Suits, is_given, is_single, standing_mask, suits, with_group}
use Rattle.cyc_words.proofs.Lists.{slice_get_last}
use Rattle.cyc_words.proofs.Items.{slice_get_front}
use Rattle.cyc_words.proofs.Bits.{apart_bits, bit_left, bit_right, bit_both, bit_within}
use Rattle.cyc_registers.proofs.Bits.{no_mask, one_alone, range_bit, among_bit}
use Rattle.cyc_registers.proofs.Meeting.{alone_single}
use Rattle.cyc_registers.proofs.CheckedLiveness.{live_bit, led_bit, after_bit, clause_bit, barred_bit, written_bit}

no_number : (k : ℕ) → None ≡ Some k → ⊥
no_number k is = let e : None ≡ Some k = is in cc

-- A slot past the end of the list of slots' homes (registers or memory) has its home in memory.
past_homes : (hs : List Home) (slot : ℕ) → length hs ≤ slot → home_of hs slot ≡ homes.Memory
past_homes [] slot past = refl
past_homes (h ∷ hs) zero past = absurd (omega (arith, past))
past_homes (h ∷ hs) (suc slot) past = past_homes hs slot (omega (arith, past))

-- ---- one register at a time

pub more_groups : (holders groups : List ℕ) (count : ℕ) → AreGroups holders count groups → AreGroups holders (count + 1) (with_group groups (mask_at holders count))
more_groups holders groups count so_far = elim (cases_Bool (is_single (mask_at holders count))) [
  | inl single ↦ subst (AreGroups holders (count + 1)) (sym (ap (λ (b : Bool). if b then groups else groups ++ mask_at holders count ∷ []) single))
      (λ register below. elim (cases_eq register count) [
        | inl same ↦ inl (subst (λ (n : ℕ). is_single (mask_at holders n) ≡ true) (sym same) single)
        | inr other ↦ so_far register (omega (arith, below, other))
      ])
  | inr several ↦ subst (AreGroups holders (count + 1)) (sym (ap (λ (b : Bool). if b then groups else groups ++ mask_at holders count ∷ []) several))
      (λ register below. elim (cases_eq register count) [
        | inl same ↦ inr (length groups, slice_get_last groups (mask_at holders count) ∙ ap (λ (n : ℕ). Some (mask_at holders n)) (sym same))
        | inr other ↦ elim (so_far register (omega (arith, below, other))) [
          | inl single ↦ inl single
          | inr (number, is) ↦ inr (number, slice_get_front groups (mask_at holders count ∷ []) number (mask_at holders register) is)
        ]
      ])
]

pub more_meet : (program : Program) (r : Routine) (masks live groups : List ℕ) (count : ℕ) (last : Instruction) → At r count last
    → AreApartAt (uses_of program r.results masks last) live groups last count → NeverMeet program r masks live groups count
    → NeverMeet program r masks live groups (count + 1)
more_meet program r masks live groups count last at_last here so_far index i at below = elim (cases_eq index count) [
  | inl same ↦
      let its : last ≡ i = (let e : Some last ≡ Some i = sym at_last ∙ (ap (slice_get r.code) (sym same) ∙ at) in cc) in
      subst (λ (n : ℕ). AreApartAt (uses_of program r.results masks i) live groups i n) (sym same)
      (subst (λ (j : Instruction). AreApartAt (uses_of program r.results masks j) live groups j count) its here)
  | inr other ↦ so_far index i at (omega (arith, below, other))
]

module _ (program : Program) (r : Routine) (masks live holders : List ℕ) (calls clauses barred saved : ℕ)
    (sound : IsSound program r masks live calls clauses barred) (are : AreMasks masks MOST_CHOSEN) where
  -- ---- the home of one slot

  -- Says that a slot is in a register only and is not live in an exception handler, or that no other slot has its register.
  abbrev IsAloneAt : (slot k : ℕ) → Home → Type 0
  IsAloneAt slot k home = ((is_kept home ≡ false) × (bit_and clauses (mask_at masks slot) ≡ 0)) ⊎ (mask_at holders k ≡ mask_at masks slot)

  -- The properties of a slot's register that are ensured by the check of the slots' homes (registers or memory).
  record Has (slot k : ℕ) (home : Home) : Type 0 where
    low : FIRST_REGISTER ≤ k
    high : k < FIRST_PRESERVED + saved
    some : 0 < mask_at masks slot
    held : is_within (mask_at masks slot) (mask_at holders k) ≡ true
    alone : IsAloneAt slot k home

  module _ (slot : ℕ) where
    abbrev IsEntered : Type 0
    IsEntered = (slot < r.parameters) ⊎ (bit_and (mask_at live 0) (mask_at masks slot) ≡ 0)

    may_facts : may_have masks live barred r.parameters slot ≡ true → (0 < mask_at masks slot) × (bit_and barred (mask_at masks slot) ≡ 0) × IsEntered
    may_facts may =
        let last : Bool = nat_lt slot r.parameters || bit_and (mask_at live 0) (mask_at masks slot) == 0 in
        let free : Bool = bit_and barred (mask_at masks slot) == 0 in
        let first = and_parts (nat_lt 0 (mask_at masks slot)) (free && last) may in
        let second = and_parts free last first.1 in (
          ltb-true 0 (mask_at masks slot) first.0,
          eqb-true (bit_and barred (mask_at masks slot)) 0 second.0,
          entered second.1,
        )
      where
        entered : (nat_lt slot r.parameters || bit_and (mask_at live 0) (mask_at masks slot) == 0) ≡ true → IsEntered
        entered is = elim (or_cases (nat_lt slot r.parameters) (bit_and (mask_at live 0) (mask_at masks slot) == 0) is) [
          | inl below ↦ inl (ltb-true slot r.parameters below)
          | inr none ↦ inr (eqb-true (bit_and (mask_at live 0) (mask_at masks slot)) 0 none)
        ]

    given_facts : (k : ℕ) → is_given saved k ≡ true → (FIRST_REGISTER ≤ k) × (k < FIRST_PRESERVED + saved)
    given_facts k is =
        let parts = and_parts (nat_le FIRST_REGISTER k) (nat_lt k (FIRST_PRESERVED + saved)) is in
        (leb-true FIRST_REGISTER k parts.0, ltb-true k (FIRST_PRESERVED + saved) parts.1)

    -- A slot that the liveness table does not contain at the function's entry is not live at the entry. If a slot that may be in a register
    -- is live at the function's entry, the slot is a parameter.
    only_parameters : (j : ℕ) → HasBit masks slot j → IsEntered → IsLiveAt program r slot 0 → slot < r.parameters
    only_parameters j has (inl below) wanted = below
    only_parameters j has (inr none) wanted =
        absurd (apart_bits (mask_at live 0) (mask_at masks slot) j none has (live_bit program r masks live calls clauses barred sound slot j are has 0 wanted))

    abbrev Passes : Home → Type 0
    Passes home = suits masks live holders calls clauses barred r.parameters saved slot home ≡ true

    both_parts : (register : ℕ) → Passes (homes.Both register)
        → (may_have masks live barred r.parameters slot ≡ true) × (is_given saved register ≡ true) × (mask_at holders register ≡ mask_at masks slot)
    both_parts register is =
        let same : Bool = mask_at holders register == mask_at masks slot in
        let first = and_parts (may_have masks live barred r.parameters slot) (is_given saved register && same) is in
        let second = and_parts (is_given saved register) same first.1 in
        (first.0, second.0, eqb-true (mask_at holders register) (mask_at masks slot) second.1)

    register_parts : (register : ℕ) → Passes (homes.Register register)
        → (may_have masks live barred r.parameters slot ≡ true) × (is_given saved register ≡ true) × (is_within (mask_at masks slot) (mask_at holders register) ≡ true)
        × (bit_and clauses (mask_at masks slot) ≡ 0) × ((is_preserved register ≡ true) ⊎ (bit_and calls (mask_at masks slot) ≡ 0))
    register_parts register is =
        let last : Bool = is_preserved register || bit_and calls (mask_at masks slot) == 0 in
        let outside : Bool = bit_and clauses (mask_at masks slot) == 0 in
        let held : Bool = is_within (mask_at masks slot) (mask_at holders register) in
        let first = and_parts (may_have masks live barred r.parameters slot) (is_given saved register && (held && (outside && last))) is in
        let second = and_parts (is_given saved register) (held && (outside && last)) first.1 in
        let third = and_parts held (outside && last) second.1 in
        let fourth = and_parts outside last third.1 in
        (first.0, second.0, third.0, eqb-true (bit_and clauses (mask_at masks slot)) 0 fourth.0, there fourth.1)
      where
        there : (is_preserved register || bit_and calls (mask_at masks slot) == 0) ≡ true → (is_preserved register ≡ true) ⊎ (bit_and calls (mask_at masks slot) ≡ 0)
        there is = elim (or_cases (is_preserved register) (bit_and calls (mask_at masks slot) == 0) is) [
          | inl preserved ↦ inl preserved
          | inr none ↦ inr (eqb-true (bit_and calls (mask_at masks slot)) 0 none)
        ]

    within_same : (a b : ℕ) → a ≡ b → is_within b a ≡ true
    within_same a b same = subst (λ (n : ℕ). is_within b n ≡ true) (sym same) (eq-eqb (bit_or b b) b (or_self b))

    has_of : (home : Home) (k : ℕ) → Passes home → register_of home ≡ Some k → Has slot k home
    has_of homes.Memory k is its = absurd (no_number k its)
    has_of (homes.Both register) k is its = subst (λ (n : ℕ). Has slot n (homes.Both register)) (same_Some register k its) (
        let (may, given, same) = both_parts register is in
        record {
          low = (given_facts register given).0;
          high = (given_facts register given).1;
          some = (may_facts may).0;
          held = within_same (mask_at holders register) (mask_at masks slot) same;
          alone = inr same;
        }
        )
    has_of (homes.Register register) k is its = subst (λ (n : ℕ). Has slot n (homes.Register register)) (same_Some register k its) (
        let (may, given, held, outside, there) = register_parts register is in
        record {
          low = (given_facts register given).0;
          high = (given_facts register given).1;
          some = (may_facts may).0;
          held = held;
          alone = inl (refl, outside);
        }
        )

    suits_of : (home : Home) → Passes home → Suits program r slot home
    suits_of homes.Memory is = record {
      entry = λ k its wanted. absurd (no_number k its);
      following = λ index function arguments count result at other wanted. refl;
      clause = λ index first handler at wanted. refl;
      barred = λ index i at is. refl;
    }
    suits_of (homes.Both register) is =
        let (may, given, same) = both_parts register is in
        let (some, free, entered) = may_facts may in
        let (j, has) = are.some slot some in
        record {
          entry = λ k its wanted. only_parameters j has entered wanted;
          following = λ index function arguments count result at other wanted. refl;
          clause = λ index first handler at wanted. refl;
          barred = λ index i at is. absurd (apart_bits barred (mask_at masks slot) j free has (barred_bit program r masks live calls clauses barred sound slot j are has index i at is));
        }
    suits_of (homes.Register register) is =
        let (may, given, held, outside, there) = register_parts register is in
        let (some, free, entered) = may_facts may in
        let (j, has) = are.some slot some in
        record {
          entry = λ k its wanted. only_parameters j has entered wanted;
          following = λ index function arguments count result at other wanted. elim there [
            | inl preserved ↦ preserved
            | inr none ↦
                absurd (apart_bits calls (mask_at masks slot) j none has (after_bit program r masks live calls clauses barred sound slot j are has index function arguments count result at other wanted))
          ];
          clause = λ index first handler at wanted.
              absurd (apart_bits clauses (mask_at masks slot) j outside has (clause_bit program r masks live calls clauses barred sound slot j are has index first handler at wanted));
          barred = λ index i at is. absurd (apart_bits barred (mask_at masks slot) j free has (barred_bit program r masks live calls clauses barred sound slot j are has index i at is));
        }

  -- ---- the homes of all slots

  module _ (hs : List Home) (all : AllSuit masks live holders calls clauses barred r.parameters saved hs) where
    passes : (slot : ℕ) → Passes slot (home_of hs slot)
    passes slot = elim (cases_lt slot (length hs)) [
      | inl inside ↦ all slot inside
      | inr past ↦ subst (Passes slot) (sym (past_homes hs slot (omega (arith, past)))) refl
    ]

    has : (slot k : ℕ) → HasRegister hs slot k → Has slot k (home_of hs slot)
    has slot k its = has_of slot (home_of hs slot) k (passes slot) its

    each : (slot : ℕ) → Suits program r slot (home_of hs slot)
    each slot = suits_of slot (home_of hs slot) (passes slot)

    pub are_holders : AreHolders masks holders hs
    are_holders slot k its = ((has slot k its).some, (has slot k its).held)

    -- For each register, the set of slots that the table `holders` stores for it contains all slots that have the register.
    held_bit : (slot k j : ℕ) → HasRegister hs slot k → HasBit masks slot j → bit_at (mask_at holders k) j ≡ 1
    held_bit slot k j its bit =
        bit_within (mask_at masks slot) (mask_at holders k) j (eqb-true (bit_or (mask_at masks slot) (mask_at holders k)) (mask_at holders k) (has slot k its).held) bit

    -- If the set of the slots that have a register contains only one slot, then no other slot has that register.
    only_holder : (a c k : ℕ) → mask_at holders k ≡ mask_at masks a → HasRegister hs c k → a ≡ c
    only_holder a c k same its =
        let (j, bit) = are.some c (has c k its).some in
        are.one a c j (subst (λ (n : ℕ). bit_at n j ≡ 1) same (held_bit c k j its bit)) bit

    -- If a slot has a register, then the table `holders` contains a set of slots for this register.
    inside : (k j : ℕ) → bit_at (mask_at holders k) j ≡ 1 → k < length holders
    inside k j is = elim (cases_lt k (length holders)) [
      | inl below ↦ below
      | inr past ↦ absurd (let e : 0 ≡ 1 = sym (bit_at-zero j) ∙ (ap (λ (n : ℕ). bit_at n j) (sym (no_mask holders k (omega (arith, past)))) ∙ is) in omega (arith, e))
    ]

    module _ (groups : List ℕ) (grouped : AreGroups holders (length holders) groups) where
      -- If two slots have the same register and are in a set with at most one slot for each register, they are the same slot.
      one_in : (set a c k j l : ℕ) → AreAlone groups set
          → HasRegister hs a k → HasRegister hs c k → HasBit masks a j → HasBit masks c l → bit_at set j ≡ 1 → bit_at set l ≡ 1 → a ≡ c
      one_in set a c k j l alone its_a its_c bit_a bit_c in_a in_c =
          are.one a c j bit_a (subst (λ (n : ℕ). HasBit masks c n) (sym same) bit_c)
        where
          held_a : bit_at (mask_at holders k) j ≡ 1
          held_a = held_bit a k j its_a bit_a

          held_c : bit_at (mask_at holders k) l ≡ 1
          held_c = held_bit c k l its_c bit_c

          same : j ≡ l
          same = elim (grouped k (inside k j held_a)) [
            | inl single ↦ one_alone (mask_at holders k) j l single held_a held_c
            | inr (number, is) ↦
                alone number (mask_at holders k) j l is
                (bit_both set (mask_at holders k) j in_a held_a) (bit_both set (mask_at holders k) l in_c held_c)
          ]

      module _ (meet : NeverMeet program r masks live groups (length r.code)) where
        -- The slots that an instruction reads and writes, as bit masks of candidates for registers.
        abbrev used : Instruction → Uses
        used i = uses_of program r.results masks i

        -- If a slot is live at a position in the code, then there is an instruction at the position.
        live_there : (slot index : ℕ) → IsLiveAt program r slot index → (i : Instruction) × At r index i
        live_there slot index (zero, (i, at, is)) = (i, at)
        live_there slot index (suc steps, (i, at, other, next, led, later)) = (i, at)

        standing : (index : ℕ) (i : Instruction) → At r index i → AreAlone groups (standing_mask (used i) i index live)
        standing index i at = (meet index i at (slice_get_within r.code index i at)).0

        live_stands : (i : Instruction) (index j : ℕ) → bit_at (mask_at live index) j ≡ 1 → bit_at (standing_mask (used i) i index live) j ≡ 1
        live_stands (instructions.MoveWords destination source count) index j is =
            bit_left (mask_at live index) (write_mask masks program (instructions.MoveWords destination source count)) j is
        live_stands i index j is = is

        -- If two slots have the same register and both are live at the same code position, then they are the same slot.
        both_live : (index a c k : ℕ) → HasRegister hs a k → HasRegister hs c k → IsLiveAt program r a index → IsLiveAt program r c index → a ≡ c
        both_live index a c k its_a its_c live_a live_c =
            let (i, at) = live_there a index live_a in
            let (j, bit_a) = are.some a (has a k its_a).some in
            let (l, bit_c) = are.some c (has c k its_c).some in
            one_in (standing_mask (used i) i index live) a c k j l (standing index i at) its_a its_c bit_a bit_c
            (live_stands i index j (live_bit program r masks live calls clauses barred sound a j are bit_a index live_a))
            (live_stands i index l (live_bit program r masks live calls clauses barred sound c l are bit_c index live_c))

        apart : (index a c k : ℕ) → HasRegister hs a k → HasRegister hs c k → IsLiveLater program r a index → IsLiveLater program r c index → a ≡ c
        apart index a c k its_a its_c later_a later_c = elim (has a k its_a).alone [
          | inr only_a ↦ only_holder a c k only_a its_c
          | inl kept_a ↦ elim (has c k its_c).alone [
            | inr only_c ↦ sym (only_holder c a k only_c its_a)
            | inl kept_c ↦ both_live index a c k its_a its_c (now a k its_a kept_a.0 later_a) (now c k its_c kept_c.0 later_c)
          ]
        ]
          where
            -- A slot that is in a register and not in memory is not live in an exception handler. If the slot is
            -- live at a code position or in a handler opened there, it is live at the position.
            now : (slot k : ℕ) → HasRegister hs slot k → is_kept (home_of hs slot) ≡ false → IsLiveLater program r slot index → IsLiveAt program r slot index
            now slot k its unkept (inl here) = here
            now slot k its unkept (inr (at_try, first, handler, at, wanted)) = absurd (both_ways (is_kept (home_of hs slot)) unkept ((each slot).clause at_try first handler at wanted))

        made : (index next a d k : ℕ) (i : Instruction) → At r index i → writes program i d ≡ true → leads i index next ≡ true
            → HasRegister hs d k → HasRegister hs a k → IsLiveAt program r a next → a ≡ d
        made index next a d k i at written led its_d its_a wanted =
            let (j, bit_a) = are.some a (has a k its_a).some in
            let (l, bit_d) = are.some d (has d k its_d).some in
            let writing = write_mask masks program i in
            let following = after_mask i index live in
            let in_written : bit_at writing l ≡ 1 = written_bit masks d l bit_d program i (λ is. no_number k (sym ((each d).barred index i at is) ∙ its_d)) written in
            let in_after : bit_at following j ≡ 1 = led_bit i index next j live led (live_bit program r masks live calls clauses barred sound a j are bit_a next wanted) in
            one_in_written index i at a d k j l its_a its_d bit_a bit_d in_written in_after
          where
            -- If two slots have the same register and an instruction writes one and writes the other or leaves it live, they are the same
            -- slot.
            one_in_written : (index : ℕ) (i : Instruction) → At r index i → (a d k j l : ℕ) → HasRegister hs a k → HasRegister hs d k → HasBit masks a j → HasBit masks d l
                → bit_at (write_mask masks program i) l ≡ 1 → bit_at (after_mask i index live) j ≡ 1 → a ≡ d
            one_in_written index i at a d k j l its_a its_d bit_a bit_d in_written in_after = are.one a d j bit_a (subst (λ (n : ℕ). HasBit masks d n) (sym same) bit_d)
              where
                writing : ℕ
                writing = write_mask masks program i

                either : ℕ
                either = bit_or writing (after_mask i index live)

                held_a : bit_at (mask_at holders k) j ≡ 1
                held_a = held_bit a k j its_a bit_a

                held_d : bit_at (mask_at holders k) l ≡ 1
                held_d = held_bit d k l its_d bit_d

                same : j ≡ l
                same = elim (grouped k (inside k j held_a)) [
                  | inl alone ↦ one_alone (mask_at holders k) j l alone held_a held_d
                  | inr (number, is) ↦
                      let checked = (meet index i at (slice_get_within r.code index i at)).1 number (mask_at holders k) is in
                      elim (or_cases (bit_and writing (mask_at holders k) == 0) (is_single (bit_and either (mask_at holders k))) checked) [
                        | inl none ↦ absurd (apart_bits writing (mask_at holders k) l (eqb-true (bit_and writing (mask_at holders k)) 0 none) held_d in_written)
                        | inr single ↦
                            one_alone (bit_and either (mask_at holders k)) j l single
                            (bit_both either (mask_at holders k) j (bit_right writing (after_mask i index live) j in_after) held_a)
                            (bit_both either (mask_at holders k) l (bit_left writing (after_mask i index live) l in_written) held_d)
                      ]
                ]

        moved : (index destination source count a d k : ℕ) → At r index (instructions.MoveWords destination source count)
            → is_among source count a ≡ true → is_among destination count d ≡ true → HasRegister hs a k → HasRegister hs d k → a ≡ d
        moved index destination source count a d k at from to its_a its_d =
            let i : Instruction = instructions.MoveWords destination source count in
            let (j, bit_a) = are.some a (has a k its_a).some in
            let (l, bit_d) = are.some d (has d k its_d).some in
            one_in (standing_mask (used i) i index live) a d k j l (standing index i at) its_a its_d bit_a bit_d
            (bit_left (mask_at live index) (write_mask masks program i) j
            (live_bit program r masks live calls clauses barred sound a j are bit_a index (zero, (i, at, from))))
            (bit_right (mask_at live index) (write_mask masks program i) l (among_bit masks destination count d l to bit_d))

        module _ (arrive : AreSingle groups (range_mask masks 0 r.parameters)) where
          -- If two parameters have the same register and one of them is live at the function's entry, then they are the same parameter.
          two_parameters : (a c k : ℕ) → HasRegister hs a k → HasRegister hs c k → a < r.parameters → c < r.parameters → a ≡ c
          two_parameters a c k its_a its_c below_a below_c =
              let (j, bit_a) = are.some a (has a k its_a).some in
              let (l, bit_c) = are.some c (has c k its_c).some in
              one_in (range_mask masks 0 r.parameters) a c k j l (alone_single groups (range_mask masks 0 r.parameters) arrive) its_a its_c bit_a bit_c
              (range_bit masks 0 r.parameters a j (omega arith) (omega (arith, below_a)) bit_a)
              (range_bit masks 0 r.parameters c l (omega arith) (omega (arith, below_c)) bit_c)

          pub are_homes : length hs ≡ r.slots → saved ≤ MOST_SAVED → sum_by both_count hs ≤ MOST_BOTH → sum_by saved_count (take r.parameters hs) ≤ saved
              → AreHomes program r saved hs
          are_homes as_many few both arriving = record {
            as_many = as_many;
            low = λ slot k its. (has slot k its).low;
            high = λ slot k its. (let e = (has slot k its).high in omega (arith, e, few));
            saved_registers = λ slot k its from. (has slot k its).high;
            arrivals = arriving;
            arriving = λ a c k its_a its_c high a_below c_below. two_parameters a c k its_a its_c a_below c_below;
            few = both;
            apart = apart;
            made = made;
            moved = moved;
            alone = λ a c k both_a its_c. alone_of a c k both_a its_c (has a k (ap register_of both_a)).alone;
            entry = λ a k its wanted. (each a).entry k its wanted;
            parameters = λ a c k its_a its_c below wanted. two_parameters a c k its_a its_c ((each a).entry k its_a wanted) below;
            following = λ index function arguments count result a at other wanted. (each a).following index function arguments count result at other wanted;
            clause = λ index first handler a at wanted. (each a).clause index first handler at wanted;
            barred = λ index a i at is. (each a).barred index i at is;
          }
            where
              -- A slot that is both in a register and in memory shares its register with no other slot.
              alone_of : (a c k : ℕ) → home_of hs a ≡ homes.Both k → HasRegister hs c k → IsAloneAt a k (home_of hs a) → a ≡ c
              alone_of a c k both_a its_c (inl (unkept, none)) = absurd (both_ways (is_kept (home_of hs a)) unkept (ap is_kept both_a))
              alone_of a c k both_a its_c (inr only) = only_holder a c k only its_c
