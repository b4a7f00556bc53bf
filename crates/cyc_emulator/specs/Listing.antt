-- The listing of an image has a line for each word of machine code. The form of the listing is this project's own choice.
use Rattle.std.specs.Prelude.{◌≡◌, ℕ, ◌+◌, ◌*◌, ◌/◌, List, [], ◌∷◌, ◌++◌, Bool, ◌&&◌, nat_le, nat_lt, Option, None, Some, Result, Ok, Err, ◌⊎◌, if◌then◌else◌, codes}
use Rattle.std.specs.List.{flat_map, range_with_len}
use Rattle.std.specs.Io.KnownBytes.{Keeps, Appends}
use Rattle.cyc_words.specs.Device.{AppendsPrefix}
use Rattle.cyc_isa.specs.declared.instr.Instr.{Instr}
use Rattle.cyc_isa.specs.Decoding.{decode_of}
use Rattle.cyc_isa.specs.Text.{hex_digits_of, text_of}
use Rattle.cyc_elf.specs.declared.fault.ElfFault.{ElfFault}
use Rattle.cyc_elf.specs.Image.{SegmentContents, ImageContents, padded}
use Rattle.cyc_machine_model.specs.State.{text_base, text_end}
use Rattle.cyc_machine_model.specs.Start.{word_in}
use Rattle.cyc_emulator.specs.declared.report.RunFault.{RunFault}
use Rattle.cyc_emulator.specs.declared.report.RunFault.TheVariants.{Elf, Write, Memory}

-- Returns the text of the machine word at an address: its instruction, or `.word` if the word encodes none.
abbrev pub text_or_word : Option Instr → ℕ → List ℕ
text_or_word (Some i) address = text_of i address
text_or_word None address = codes ".word"

unfoldable pub word_text : (address word : ℕ) → List ℕ
word_text address word = text_or_word (decode_of word) address

-- Returns the beginning of a listing line: the address and the word in hexadecimal digits.
abbrev pub head_of : (address word : ℕ) → List ℕ
head_of address word = hex_digits_of address ++ codes ": " ++ hex_digits_of word ++ codes " "

unfoldable pub line_of : (address word : ℕ) → List ℕ
line_of address word = head_of address word ++ word_text address word ++ 10 ∷ []

-- Returns the lines of a segment, one for each of its words in memory.
unfoldable pub segment_lines : SegmentContents → List ℕ
segment_lines s = flat_map (λ k. line_of (s.vaddr + 4 * k) (word_in s (s.vaddr + 4 * k))) (range_with_len 0 (padded s.size / 4))

-- Returns true if a segment begins in the address range for machine code (text).
abbrev pub begins_in_text : SegmentContents → Bool
begins_in_text s = nat_le text_base s.vaddr && nat_lt s.vaddr text_end

abbrev pub listed_lines : SegmentContents → List ℕ
listed_lines s = if begins_in_text s then segment_lines s else []

abbrev pub listing : ImageContents → List ℕ
listing image = flat_map listed_lines image.segments

-- `Silent` says that the listing fails with this fault before any byte is written.
abbrev pub Silent : RunFault → (old new : Option (List ℕ)) → Result (Unit {0}) RunFault → Type 0
Silent fault old new result = (result ≡ Err fault) × Keeps old new

-- `Lists` says that the whole listing is written, or a prefix of it if the writer failed.
abbrev pub Lists : ImageContents → (old new : Option (List ℕ)) → Result (Unit {0}) RunFault → Type 0
Lists image old new (Ok done) = Appends old new (listing image)
Lists image old new (Err Write) = AppendsPrefix old new (listing image)
Lists image old new (Err e) = ⊥

-- `Shows` describes the result of listing an image, where `read` is the meaning of the image's bytes: the fault of reading, the listing,
-- or lack of memory. If memory is lacking, nothing is written.
abbrev pub Shows : Result ImageContents ElfFault → (old new : Option (List ℕ)) → Result (Unit {0}) RunFault → Type 0
Shows (Err f) old new result = Silent (Elf f) old new result ⊎ Silent Memory old new result
Shows (Ok image) old new result = Lists image old new result ⊎ Silent Memory old new result
