-- The slots whose address is taken, represented by a list of ranges.
use Rattle.std.specs.Prelude.{◌≡◌, ℕ, ◌<◌, Bool, true, false, ◌||◌, not, List, [], ◌∷◌, length, Option, Some, None, slice_index_or}
use Rattle.cyc_plain.specs.declared.instruction.Instruction.{Instruction}
use Rattle.cyc_plain.specs.declared.instruction.Instruction.TheVariants as instructions
use Rattle.cyc_plain.specs.declared.limits.TheConstants.{RECORD_WORDS}
use Rattle.cyc_plain.specs.inside.Memory.{is_pinned}
use Rattle.cyc_propagation.specs.declared.fact.Written.{Written}
use Rattle.cyc_propagation.specs.inside.Facts.{leaves_slot}

-- Returns true if a slot lies in one of these ranges.
abbrev pub is_within : List Written → (slot : ℕ) → Bool
is_within [] slot = false
is_within (range ∷ ranges) slot = not (leaves_slot range slot) || is_within ranges slot

-- Returns the range of slots whose address an instruction takes, if there is one.
abbrev pub range_of : Instruction → Option Written
range_of (instructions.AddressOf destination slot count) = Some (record { first = slot; count = count })
range_of (instructions.Try first handler) = Some (record { first = first; count = RECORD_WORDS })
range_of instruction = None

-- `AreRanges` says that each slot whose address the code takes lies in one of the ranges.
abbrev pub AreRanges : List Instruction → List Written → Type 0
AreRanges code ranges = (slot : ℕ) → is_pinned code slot ≡ true → is_within ranges slot ≡ true

-- `AreFirstPins` says that the first `count` elements of `pinned` are true exactly for the slots that lie in a range.
pub record AreFirstPins (ranges : List Written) (count : ℕ) (pinned : List Bool) : Type 0 where
  pub as_many : length pinned ≡ count
  pub each : (slot : ℕ) → slot < count → slice_index_or pinned slot true ≡ is_within ranges slot
