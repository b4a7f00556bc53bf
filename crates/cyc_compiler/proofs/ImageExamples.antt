-- This file checks the computable parts of `IsImageOf` for an image of two words of code and one word of data. These parts are the image's
-- form, its number of code words, the machine's memory for it, its file, and the reading of this file. The remaining part of `IsImageOf`,
-- that the image has its program's meaning, concerns all runs.
use Rattle.std.proofs.Common.{◌≡◌, ℕ, List, [], ◌∷◌, None, Ok, refl}
use Rattle.cyc_elf.specs.Header.{field, program_header_at, headers_from}
use Rattle.cyc_elf.specs.Note.{is_note, is_named, limits_at}
use Rattle.cyc_elf.specs.Image.{ImageContents}
use Rattle.cyc_elf.specs.Layout.{layout, file_header, program_header}
use Rattle.cyc_elf.specs.Reading.{file_rules, own_rules, entry_rules, reading}
use Rattle.cyc_compiler.specs.ProgramImage.{program_image, HasForm}
use Rattle.cyc_compiler.specs.FullPreservation.{text_words, IsLoadable}

-- The instructions `addiu $2, $0, 3` and `syscall`, and a global with the value 7.
abbrev image : ImageContents
image = program_image (0x24020003 ∷ 0x0000000c ∷ []) (7 ∷ []) None

its_form : HasForm 1 image
its_form = record {
  entry = refl;
  segments = (record { address = refl; flags = refl; stored = refl }, record { address = refl; flags = refl; stored = refl; size = refl });
}

-- By this example, n steps of the example image's program never take more than (n + 1) * 2 instructions.
its_text : text_words image ≡ 2
its_text = refl

it_is_loadable : IsLoadable image
it_is_loadable = refl

-- The bytes of the image's file: the file header, a program header for the code and one for data, 8 bytes of
-- code from offset 116, and 4 bytes of data.
abbrev file : List ℕ
file =
    127 ∷ 69 ∷ 76 ∷ 70 ∷ 1 ∷ 2 ∷ 1 ∷ 0 ∷ 0 ∷ 0 ∷ 0 ∷ 0 ∷ 0 ∷ 0 ∷ 0 ∷ 0 ∷ 0 ∷ 2 ∷ 0 ∷ 8 ∷ 0 ∷ 0 ∷ 0 ∷ 1 ∷ 0 ∷ 64 ∷ 0 ∷ 0
    ∷ 0 ∷ 0 ∷ 0 ∷ 52 ∷ 0 ∷ 0 ∷ 0 ∷ 0 ∷ 0 ∷ 0 ∷ 0 ∷ 0 ∷ 0 ∷ 52 ∷ 0 ∷ 32 ∷ 0 ∷ 2 ∷ 0 ∷ 0 ∷ 0 ∷ 0 ∷ 0 ∷ 0
    ∷ 0 ∷ 0 ∷ 0 ∷ 1 ∷ 0 ∷ 0 ∷ 0 ∷ 116 ∷ 0 ∷ 64 ∷ 0 ∷ 0 ∷ 0 ∷ 64 ∷ 0 ∷ 0 ∷ 0 ∷ 0 ∷ 0 ∷ 8 ∷ 0 ∷ 0 ∷ 0 ∷ 8 ∷ 0 ∷ 0 ∷ 0 ∷ 5 ∷ 0 ∷ 0 ∷ 0 ∷ 4
    ∷ 0 ∷ 0 ∷ 0 ∷ 1 ∷ 0 ∷ 0 ∷ 0 ∷ 124 ∷ 16 ∷ 0 ∷ 0 ∷ 0 ∷ 16 ∷ 0 ∷ 0 ∷ 0 ∷ 0 ∷ 0 ∷ 0 ∷ 4 ∷ 0 ∷ 0 ∷ 0 ∷ 4 ∷ 0 ∷ 0 ∷ 0 ∷ 6 ∷ 0 ∷ 0 ∷ 0 ∷ 4
    ∷ 36 ∷ 2 ∷ 0 ∷ 3 ∷ 0 ∷ 0 ∷ 0 ∷ 12 ∷ 0 ∷ 0 ∷ 0 ∷ 7 ∷ []

it_is_written : file ≡ layout image
unfolding layout file_header program_header
it_is_written = refl

image_is_read : reading file ≡ Ok image
unfolding reading file_rules own_rules entry_rules headers_from program_header_at field is_note is_named limits_at
image_is_read = refl
