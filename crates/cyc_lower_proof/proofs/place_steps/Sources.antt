-- This file says where a value is that is stored through an address. The value is in temporaries after the address, or in
-- a local, or it is one word.
use Rattle.std.proofs.Common.{◌≡◌, ◌⊎◌, ℕ, ◌+◌, ◌<◌, ◌≤◌, Bool, true, false, length, Option, None, Some, slice_get, refl, sym, ap, ◌∙◌, arith, inl, inr}
use Rattle.std.specs.Prelude.{if◌then◌else◌}
use Rattle.cyc_types.specs.declared.typed.Kind.{Kind}
use Rattle.cyc_types.specs.TypedTrees.{Local, Global, Expression, Number, NullPointer, HeapRegion, Counter, Copy, Move, Peek, Assign, Converted, Convert, Unary}
use Rattle.cyc_types.specs.Numbered.{Numbering}
use Rattle.cyc_plain.specs.declared.instruction.Operand.{Operand}
use Rattle.cyc_plain.specs.declared.instruction.Operand.TheVariants as operands
use Rattle.cyc_meaning.specs.Values.{words_of_kind, kind_of}
use Rattle.cyc_lower_proof.specs.inside.Slots.{Types, starts_of, slot_of}
use Rattle.cyc_lower_proof.specs.inside.ValueCode.{operand_or, keeps_words, kind_passed}
use Rattle.cyc_lower_proof.specs.inside.ControlCode.{counter_operand}
use Rattle.cyc_lower_proof.specs.inside.ExpressionCode.{operand_of, value_slot, converted_operand}
use Rattle.cyc_lower_proof.proofs.slots.Widths.{given, words_in, keeps_wide}
use Rattle.cyc_lower_proof.proofs.slots.Slots.{room-inside}
use Rattle.cyc_lower_proof.proofs.relation.code.Fitting.{Fits, FitsConverted}
use Rattle.cyc_types.specs.declared.typed.UnaryOperator.TheVariants as unary

module _ (types : Types) where
  -- Says that the stored operand is one word, lies in slots after the slot of the address, or is a local.
  abbrev pub IsApart : (words address : ℕ) → Operand → Type 0
  IsApart words address (operands.Slot n) = (words ≡ 1) ⊎ ((address < n) ⊎ ((number : ℕ) × (number < length types.locals) × (slot_of (starts_of types) number ≡ n) × (words ≤ words_in types.locals number)))
  IsApart words address (operands.Word w) = Unit {0}

  module _ (b : Numbering) where
    -- The slots of a local's value do not overlap the slot of the address.
    in_local : (n words t : ℕ) (kind : Kind) → words_of_kind kind ≤ words_in types.locals n → words ≡ words_of_kind kind → IsApart words t (operands.Slot (slot_of (starts_of types) n))
    in_local n words t kind room wide = inr (inr (n, room-inside types n kind room, refl, omega (arith, wide, room)))

    operand_apart : (words t : ℕ) (a : Expression) → words ≡ words_of_kind (given b.functions a) → Fits b types a → IsApart words t (operand_or (operand_of (starts_of types) a) (value_slot (starts_of types) a (t + 1)))
    operand_apart words t (Number n) wide fits = tt
    operand_apart words t NullPointer wide fits = tt
    operand_apart words t HeapRegion wide fits = tt
    operand_apart words t (Copy (Local p n) u) wide (few, room) = in_local n words t (kind_of u) room wide
    operand_apart words t (Copy (Global n) u) wide fits = inr (inl (omega arith))
    operand_apart words t (Move p n u) wide (few, room) = in_local n words t (kind_of u) room wide
    operand_apart words t (Peek p n u) wide (few, room) = in_local n words t (kind_of u) room wide
    operand_apart words t (Counter l) wide fits = by (slice_get (starts_of types).counters l)
      where
        by : (o : Option ℕ) → IsApart words t (operand_or (counter_operand o) (t + 1))
        by None = inr (inl (omega arith))
        by (Some slot) = inl wide
    operand_apart words t (Assign (Local w n) (Convert from to a) ty) wide ((few, room), fits) = in_local n words t to room wide
    operand_apart words t (Assign (Global n) c ty) wide fits = inr (inl (omega arith))
    operand_apart words t (Unary unary.Widen a) wide (one, fits) = operand_apart words t a (wide ∙ sym one) fits
    operand_apart words t a wide fits = inr (inl (omega arith))

    pub stored_apart : (c : Converted) (t : ℕ) → FitsConverted b types c → IsApart (words_of_kind (kind_passed c)) t (converted_operand (starts_of types) c (t + 1))
    stored_apart (Convert from to a) t (is, converted, fits) = by (keeps_words from to) refl
      where
        by : (wide : Bool) → keeps_words from to ≡ wide → IsApart (words_of_kind to) t (operand_or (if wide then operand_of (starts_of types) a else None) (if wide then value_slot (starts_of types) a (t + 1) else t + 1))
        by true wide = operand_apart (words_of_kind to) t a (sym (keeps_wide from to wide) ∙ ap words_of_kind is) fits
        by false wide = inr (inl (omega arith))
