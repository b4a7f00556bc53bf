-- The slots whose addresses are taken are those of complete locals. No temporary, handler record, saved region count or loop
-- counter of an array has an address.
use Rattle.std.proofs.Common.{◌≡◌, ℕ, zero, suc, ◌+◌, ◌<◌, ◌≤◌, true, false, List, [], ◌∷◌, map, Some, slice_get, sym, ap, ◌∙◌, arith, inl, inr}
use Rattle.std.specs.Prelude.{◌&&◌, nat_le, nat_lt, slice_index_or}
use Rattle.std.specs.List.{AllByRecursion}
use Rattle.std.proofs.lemmas.Bool.{and_from, and_parts, cases_lt, leb-true, ltb-true, le-leb, lt-ltb, or_left, or_right, or_cases}
use Rattle.std.proofs.lemmas.Option.{same_Some}
use Rattle.cyc_types.specs.Types.{Ty, words_of}
use Rattle.cyc_types.specs.TypedTrees.{Function, Program}
use Rattle.cyc_types.specs.Numbered.{signatures_of}
use Rattle.cyc_plain.specs.declared.instruction.Instruction.{Instruction}
use Rattle.cyc_plain.specs.declared.instruction.Instruction.TheVariants as instructions
use Rattle.cyc_plain.specs.inside.Memory.{pins, is_pinned}
use Rattle.cyc_plain.specs.inside.Program.{no_routine}
use Rattle.cyc_lower_proof.specs.inside.Slots.{slot_in}
use Rattle.cyc_lower_proof.specs.inside.Words.{AreOfWordsFunctions, IsOfWordsProgram}
use Rattle.cyc_lower_proof.specs.inside.Lowering.{globals_of, lower_function, scopes_of}
use Rattle.cyc_lower_proof.proofs.relation.code.Fitting.{AreFitting, IsFitting}
use Rattle.cyc_lower_proof.proofs.relation.simulation.Stacks.{code_of, local_types, types_at}
use Rattle.cyc_lower_proof.proofs.slots.Slots.{locals-apart}
use Rattle.cyc_lower_proof.proofs.sizes.RangeLemmas.{TakesLocal}
use Rattle.cyc_lower_proof.proofs.sizes.WellFormed.{function_takes}

-- ---- the code of a function

-- Says that a slot is one of the slots of a local, and that all slots of this local have addresses.
pub record IsOfPinned (locals : List Ty) (code : List Instruction) (slot : ℕ) : Type 0 where
  pub number : ℕ
  pub of_type : Ty
  pub there : slice_get locals number ≡ Some of_type
  pub from : slot_in locals number ≤ slot
  pub below : slot < slot_in locals number + words_of of_type
  pub whole : (other : ℕ) → slot_in locals number ≤ other → other < slot_in locals number + words_of of_type → is_pinned code other ≡ true

module _ (locals : List Ty) where
  pinned_here : (i : Instruction) (code : List Instruction) (slot : ℕ) → TakesLocal locals i → pins i slot ≡ true → IsOfPinned locals (i ∷ code) slot
  pinned_here (instructions.AddressOf d first count) code slot (n, t, there, first_is, count_is) is =
      let (low, high) = and_parts (nat_le first slot) (nat_lt slot (first + count)) is in
      record {
        number = n;
        of_type = t;
        there = there;
        from = omega (arith, first_is, leb-true first slot low);
        below = omega (arith, first_is, count_is, ltb-true slot (first + count) high);
        whole = λ other from below. or_left (nat_le first other && nat_lt other (first + count)) (is_pinned code other)
            (and_from (nat_le first other) (nat_lt other (first + count)) (le-leb first other (omega (arith, from, first_is))) (lt-ltb other (first + count) (omega (arith, below, first_is, count_is))));
      }
  pinned_here i code slot takes is = absurd (let e : false ≡ true = is in cc)

  pub pinned_local : (code : List Instruction) (slot : ℕ) → AllByRecursion (TakesLocal locals) code → is_pinned code slot ≡ true → IsOfPinned locals code slot
  pinned_local [] slot takes pinned = absurd (let e : false ≡ true = pinned in cc)
  pinned_local (i ∷ code) slot (first, rest) pinned = elim (or_cases (pins i slot) (is_pinned code slot) pinned) [
    | inl here ↦ pinned_here i code slot first here
    | inr following ↦
        let p = pinned_local code slot rest following in
        record { number = p.number; of_type = p.of_type; there = p.there; from = p.from; below = p.below; whole = λ other from below. or_right (pins i other) (is_pinned code other) (p.whole other from below) }
  ]

  -- no slot is a slot of two different locals
  same_local : (n m : ℕ) (t u : Ty) (slot : ℕ) → slice_get locals n ≡ Some t → slice_get locals m ≡ Some u → slot_in locals n ≤ slot → slot < slot_in locals n + words_of t
      → slot_in locals m ≤ slot → slot < slot_in locals m + words_of u → m ≡ n
  same_local n m t u slot at there from below from_other below_other = elim (cases_lt n m) [
    | inl less ↦ absurd (omega (arith, locals-apart locals n m t u less at there, below, from_other))
    | inr most ↦ elim (cases_lt m n) [
      | inl less ↦ absurd (omega (arith, locals-apart locals m n u t less there at, below_other, from))
      | inr least ↦ omega (arith, most, least)
    ]
  ]

  -- If one slot of a local has an address, then each slot of the local has an address.
  pub pinned-whole : (code : List Instruction) (n : ℕ) (t : Ty) (slot other : ℕ) → AllByRecursion (TakesLocal locals) code → slice_get locals n ≡ Some t → slot_in locals n ≤ slot → slot < slot_in locals n + words_of t
      → is_pinned code slot ≡ true → slot_in locals n ≤ other → other < slot_in locals n + words_of t → is_pinned code other ≡ true
  pinned-whole code n t slot other takes at from below pinned from_other below_other =
      let p = pinned_local code slot takes pinned in
      let same : p.number ≡ n = same_local n p.number t p.of_type slot at p.there from below p.from p.below in
      let begins : slot_in locals p.number ≡ slot_in locals n = ap (slot_in locals) same in
      let type_is : p.of_type ≡ t = same_Some p.of_type t (sym p.there ∙ ap (slice_get locals) same ∙ at) in
      p.whole other (omega (arith, from_other, begins)) (omega (arith, below_other, begins, ap words_of type_is))

-- ---- the functions of a program

module _ (source : Program) (is_fitting : IsFitting source) where
  functions_take : (hs : List Function) → AreOfWordsFunctions hs → AreFitting source.structs source.globals (scopes_of source) (signatures_of source.functions) hs → (g : ℕ)
      → AllByRecursion (TakesLocal (local_types source (slice_get hs g))) (slice_index_or (map (lower_function source.structs (globals_of source) (scopes_of source)) hs) g no_routine).code
  functions_take [] words fits g = tt
  functions_take (h ∷ hs) (own, others) (first, rest) zero = function_takes source is_fitting h own first
  functions_take (h ∷ hs) (own, others) (first, rest) (suc g) = functions_take hs others rest g

  pub takes_locals : IsOfWordsProgram source → (g : ℕ) → AllByRecursion (TakesLocal (types_at source g).locals) (code_of source g)
  takes_locals words g = functions_take source.functions words.functions is_fitting.functions g
