-- This file defines the limits on pages and calls that an image contains for its runs. The ranges of these limits are those of
-- every run's limits, which is this project's own choice.
use Rattle.std.specs.Prelude.{◌≡◌, ℕ, List, Option, Result, Ok, Err, IfSome}
use Rattle.cyc_elf.specs.declared.fault.ElfFault.{ElfFault}
use Rattle.cyc_elf.specs.declared.fault.ElfFault.TheVariants as elf
use Rattle.cyc_elf.specs.Image.{ImageContents}
use Rattle.cyc_elf.specs.Reading.{reading}
use Rattle.cyc_machine_model.specs.Bounds.{AreAllowed}

-- Says that the note of an image, if there is one, states valid limits on the pages and the calls of a run.
abbrev pub AreAllowedIfAny : Option (ℕ × ℕ) → Type 0
AreAllowedIfAny note = IfSome note (λ limits. AreAllowed limits.0 limits.1)

-- Says that a file is an image that contains these limits on pages and calls, or no limits for `None`.
abbrev pub Carries : List ℕ → Option (ℕ × ℕ) → Type 0
Carries file note = (image : ImageContents) × (reading file ≡ Ok image) × (image.note ≡ note)

-- Says that the result of reading an image's limits agrees with `read`, the meaning of the image file. The result of reading an image's
-- limits is the limits, or the fault of the image file, unless memory ran out.
abbrev pub Notes : Result (Option (ℕ × ℕ)) ElfFault → Result ImageContents ElfFault → Type 0
Notes (Ok note) read = (image : ImageContents) × (read ≡ Ok image) × (image.note ≡ note)
Notes (Err elf.Memory) read = Unit {0}
Notes (Err f) read = read ≡ Err f
