-- This file defines the texts that are compiled, and the faults of all other texts. A text has a fault if the front end of the compiler
-- rejects it, or if its program is too large for the later passes. The limits on functions and on frames are this project's own choice.
use Rattle.std.specs.Prelude.{◌≡◌, ◌⊎◌, ℕ, ◌≤◌, ◌<◌, List, Some, length, slice_get}
use Rattle.cyc_words.specs.declared.fault.Fault.{Fault}
use Rattle.cyc_words.specs.declared.fault.Code.TheVariants.{FrameTooLarge}
use Rattle.cyc_types.specs.TypedTrees.{Function, Program}
use Rattle.cyc_meaning.specs.FrameCount.{frame_count}
use Rattle.cyc_meaning.specs.Sizes.{max_functions, max_frame_words, HasTooMany}
use Rattle.cyc_front.specs.Front.{IsAcceptedText, IsRefusedText, HasFault}

-- Says that a fault is `FrameTooLarge` at the first function whose frame may need more words than the maximum.
pub record HasLargeFrame (p : Program) (f : Fault) : Type 0 where
  pub number : ℕ
  pub function : Function
  pub is : slice_get p.functions number ≡ Some function
  pub large : max_frame_words < frame_count function
  pub first : (k : ℕ) (g : Function) → k < number → slice_get p.functions k ≡ Some g → frame_count g ≤ max_frame_words
  pub fault : f ≡ record { code = FrameTooLarge; line = function.place.line; column = function.place.column }

-- Says that a program is rejected with this fault because it is too large. If a program has too many functions and
-- also a large frame, then the fault is `TooManyFunctions`.
abbrev pub IsTooLarge : Program → Fault → Type 0
IsTooLarge p f = HasTooMany p f ⊎ ((length p.functions ≤ max_functions) × HasLargeFrame p f)

-- Says that a program has at most the maximal number of functions and no frame that is too large.
pub record IsSmallEnough (p : Program) : Type 0 where
  pub functions : length p.functions ≤ max_functions
  pub frames : (k : ℕ) (g : Function) → slice_get p.functions k ≡ Some g → frame_count g ≤ max_frame_words

-- Says that the program `p` is the program `given`, and that it is not too large.
abbrev pub IsSmall : (given p : Program) → Type 0
IsSmall given p = (p ≡ given) × IsSmallEnough p

-- Says that the front end accepts the text, and that the program of the text is rejected with this fault because it is too large.
abbrev pub IsTooLargeText : List ℕ → Fault → Type 0
IsTooLargeText text f = (p : Program) × IsAcceptedText text p × IsTooLarge p f

-- Says that the text is compiled, with this typed program.
abbrev pub IsCompiledText : List ℕ → Program → Type 0
IsCompiledText text p = IsAcceptedText text p × IsSmallEnough p

-- Says that the condition of a fault holds for the text or for its program.
abbrev pub IsRefusedAtLast : List ℕ → Fault → Type 0
IsRefusedAtLast text f = IsRefusedText text f ⊎ IsTooLargeText text f

-- Says that the text is rejected with this fault and with no other.
abbrev pub HasFaultAtLast : List ℕ → Fault → Type 0
HasFaultAtLast text f = HasFault text f ⊎ IsTooLargeText text f
