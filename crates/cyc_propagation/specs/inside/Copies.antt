-- Bit masks of slots: one for the slots known to equal another slot (copies), and one for the slots that occur in some fact.
use Rattle.std.specs.Prelude.{◌≡◌, ℕ, ◌%◌, List}
use Rattle.std.specs.List.{AllByRecursion}
use Rattle.std.specs.Int.{bit_at}
use Rattle.cyc_plain.specs.declared.instruction.Operand.{Operand}
use Rattle.cyc_plain.specs.declared.instruction.Operand.TheVariants as operands
use Rattle.cyc_propagation.specs.declared.fact.Fact.{Fact}
use Rattle.cyc_propagation.specs.declared.fact.Fact.TheVariants as facts_are

abbrev pub IsMarked : (copies : ℕ) → Fact → Type 0
IsMarked copies (facts_are.Equal slot (operands.Slot other)) = bit_at copies (slot % 64) ≡ 1
IsMarked copies fact = Unit {0}

abbrev pub AreMarked : (copies : ℕ) → List Fact → Type 0
AreMarked copies facts = AllByRecursion (IsMarked copies) facts

abbrev pub IsAboutOperand : (slots : ℕ) → Operand → Type 0
IsAboutOperand slots (operands.Slot number) = bit_at slots (number % 64) ≡ 1
IsAboutOperand slots (operands.Word word) = Unit {0}

abbrev pub IsAbout : (slots : ℕ) → Fact → Type 0
IsAbout slots (facts_are.Equal slot operand) = (bit_at slots (slot % 64) ≡ 1) × IsAboutOperand slots operand
IsAbout slots (facts_are.Computed slot operator left right) =
    (bit_at slots (slot % 64) ≡ 1) × (IsAboutOperand slots left × IsAboutOperand slots right)
IsAbout slots (facts_are.Holds comparison left right) = IsAboutOperand slots left × IsAboutOperand slots right
IsAbout slots (facts_are.Held address offset value) = IsAboutOperand slots address × IsAboutOperand slots value

abbrev pub AreAbout : (slots : ℕ) → List Fact → Type 0
AreAbout slots facts = AllByRecursion (IsAbout slots) facts
