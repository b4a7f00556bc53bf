-- Lemmas: an unchanged copy of a function is a correct replacement of the function.
use Rattle.std.proofs.Common.{◌≡◌, ℕ, zero, suc, ◌+◌, ◌<◌, List, length, Some, slice_get, refl, sym, ap, ◌∙◌, arith, inl}
use Rattle.cyc_words.proofs.Numbers.{zero_plus}
use Rattle.cyc_words.proofs.Items.{below_from_slice_get}
use Rattle.cyc_plain.specs.declared.instruction.Instruction.{Instruction}
use Rattle.cyc_plain.specs.declared.instruction.Instruction.TheVariants as instructions
use Rattle.cyc_plain.specs.declared.instruction.Operand.{Operand}
use Rattle.cyc_plain.specs.declared.instruction.Operand.TheVariants as operands
use Rattle.cyc_plain.specs.inside.Program.{Program, routine_at}
use Rattle.cyc_plain.specs.inside.Straight.{At}
use Rattle.cyc_plain.specs.inside.WellFormed.{IsPlain}
use Rattle.cyc_plain.proofs.Placed.{routine_in}
use Rattle.cyc_inline.specs.declared.origin.Origin.{Origin}
use Rattle.cyc_inline.specs.inside.Opened.{shifted_operand, moved, origin_at, AreMadeOf, StandsFor}
use Rattle.cyc_inline.specs.inside.Emission.{AreOwn, IsMade}
use Rattle.cyc_inline.proofs.RangesCode.{pinned_at}
use Rattle.cyc_inline.proofs.RangesFunction.{function_words}

-- ---- shift 0 moves nothing

operand_stays : (operand : Operand) → shifted_operand 0 operand ≡ operand
operand_stays (operands.Slot number) = ap operands.Slot (zero_plus number)
operand_stays (operands.Word word) = refl

stays : (i : Instruction) → moved 0 (λ (index : ℕ). index) i ≡ i
stays (instructions.Move destination source) = λ k. instructions.Move (zero_plus destination k) (operand_stays source k)
stays (instructions.MoveWords destination source count) = λ k. instructions.MoveWords (zero_plus destination k) (zero_plus source k) count
stays (instructions.Unary operator destination operand) = λ k. instructions.Unary operator (zero_plus destination k) (operand_stays operand k)
stays (instructions.Binary operator destination left right) = λ k. instructions.Binary operator (zero_plus destination k) (operand_stays left k) (operand_stays right k)
stays (instructions.Branch comparison left right target) = λ k. instructions.Branch comparison (operand_stays left k) (operand_stays right k) target
stays (instructions.ReadByte destination) = λ k. instructions.ReadByte (zero_plus destination k)
stays (instructions.WriteByte source) = λ k. instructions.WriteByte (operand_stays source k)
stays (instructions.LoadGlobal destination global) = λ k. instructions.LoadGlobal (zero_plus destination k) global
stays (instructions.StoreGlobal global source) = λ k. instructions.StoreGlobal global (operand_stays source k)
stays (instructions.Load destination address offset) = λ k. instructions.Load (zero_plus destination k) (operand_stays address k) offset
stays (instructions.Store address offset source) = λ k. instructions.Store (operand_stays address k) offset (operand_stays source k)
stays (instructions.LoadByte destination address offset) = λ k. instructions.LoadByte (zero_plus destination k) (operand_stays address k) offset
stays (instructions.StoreByte address offset source) = λ k. instructions.StoreByte (operand_stays address k) offset (operand_stays source k)
stays (instructions.CountLexical destination) = λ k. instructions.CountLexical (zero_plus destination k)
stays (instructions.Throw tag value) = λ k. instructions.Throw (operand_stays tag k) (operand_stays value k)
stays i = refl

abbrev own_place : ℕ → ℕ
own_place index = index

made_of_own : (number : ℕ) (origins : List Origin) (count k : ℕ) → AreOwn number count origins → k < count → AreMadeOf origins k 1 (origin_at number k)
made_of_own number origins count k are below zero one =
    let same : k + 0 ≡ k = omega arith in
    ap (slice_get origins) same ∙ are.each k below
made_of_own number origins count k are below (suc n) one = absurd (omega (arith, one))

-- An unchanged copy of a function is a correct replacement of the function.
pub copied_is_made : (program : Program) (number : ℕ) (origins : List Origin) → IsPlain program → number < length program.functions → AreOwn number (length (routine_at program number).code) origins
    → IsMade program number (routine_at program number) origins
copied_is_made program number origins plain is_function are = record {
  opened = record {
    like = record { name = refl; parameters = refl; results = refl; slots = omega arith; frame = inl refl };
    as_many = are.as_many;
    place = own_place;
    first = refl;
    stands = stands;
    pinned = λ p i at slot pinned. pinned_at (routine_at program number).code p i slot at pinned;
  };
  routine = routine_in program number plain.well_formed is_function;
  words = function_words program number plain is_function;
}
  where
    stands : (index : ℕ) (i : Instruction) → At (routine_at program number).code index i → StandsFor program (routine_at program number) (routine_at program number) origins number own_place index i
    stands index (instructions.Call callee arguments count result) at =
        inl (at, made_of_own number origins (length (routine_at program number).code) index are (below_from_slice_get (routine_at program number).code index _ at), refl)
    stands index i at =
        inl (at ∙ ap Some (sym (stays i)), made_of_own number origins (length (routine_at program number).code) index are (below_from_slice_get (routine_at program number).code index i at), λ further. refl)
