-- This file defines the image of a compiled program. The code segment is readable (4) and executable (1). The data segment is readable (4)
-- and writable (2), as in the System V ABI, chapter 5, "Program Header". The choice of segments and of their addresses is this project's
-- own.
use Rattle.std.specs.Prelude.{◌≡◌, ℕ, zero, suc, ◌*◌, Option, List, [], ◌∷◌, length}
use Rattle.std.specs.List.{flat_map}
use Rattle.cyc_words.specs.Bytes.{bytes_of_word}
use Rattle.cyc_elf.specs.Image.{SegmentContents, ImageContents}
use Rattle.cyc_machine_model.specs.State.{text_base, data_base}
use Rattle.cyc_machine_model.specs.declared.constants.TheConstants.{TEXT_BASE, DATA_BASE}
use Rattle.cyc_compiler.specs.declared.image.TheConstants.{READ_AND_EXECUTE, READ_AND_WRITE}

-- The bytes of words in memory, one word after another.
abbrev pub bytes_of_words : List ℕ → List ℕ
bytes_of_words words = flat_map bytes_of_word words

abbrev pub segment_of : (vaddr flags : ℕ) → (words : List ℕ) → SegmentContents
segment_of vaddr flags words = record {
  vaddr = vaddr;
  flags = flags;
  bytes = bytes_of_words words;
  size = length (bytes_of_words words);
}

abbrev pub text_segment : (words : List ℕ) → SegmentContents
text_segment words = segment_of text_base READ_AND_EXECUTE words

abbrev pub data_segment : (globals : List ℕ) → SegmentContents
data_segment globals = segment_of data_base READ_AND_WRITE globals

-- An image without globals has no data segment.
abbrev pub data_segments : (globals : List ℕ) → List SegmentContents
data_segments [] = []
data_segments (word ∷ globals) = data_segment (word ∷ globals) ∷ []

-- The image with these machine words of code, the initial values of the globals, and the limits; its entry is the first word of code.
abbrev pub program_image : (words globals : List ℕ) (note : Option (ℕ × ℕ)) → ImageContents
program_image words globals note = record {
  entry = text_base;
  segments = text_segment words ∷ data_segments globals;
  note = note;
}

-- ---- the form of the image

-- Says that a code segment begins at the start of the machine's code range and is readable and executable. The file contains all bytes
-- of the code segment.
pub record IsText (s : SegmentContents) : Type 0 where
  pub address : s.vaddr ≡ TEXT_BASE
  pub flags : s.flags ≡ READ_AND_EXECUTE
  pub stored : length s.bytes ≡ s.size

-- Says that a data segment begins at the start of the data range, is readable and writable, and has as many words as the globals.
pub record IsData (globals : ℕ) (s : SegmentContents) : Type 0 where
  pub address : s.vaddr ≡ DATA_BASE
  pub flags : s.flags ≡ READ_AND_WRITE
  pub stored : length s.bytes ≡ s.size
  pub size : s.size ≡ 4 * globals

-- Says that the segments are those of a program with this many machine words of globals: one code segment, one data
-- segment if there are globals, and no third segment.
abbrev pub AreOfProgram : (globals : ℕ) → List SegmentContents → Type 0
AreOfProgram zero (text ∷ []) = IsText text
AreOfProgram (suc globals) (text ∷ variables ∷ []) = IsText text × IsData (suc globals) variables
AreOfProgram globals segments = ⊥

-- Says that an image has the form for a program with this many machine words of data: the entry of the image is the start of its code.
pub record HasForm (globals : ℕ) (image : ImageContents) : Type 0 where
  pub entry : image.entry ≡ TEXT_BASE
  pub segments : AreOfProgram globals image.segments
