-- The text that the command `info` writes about an image. The text of `info` is this project's own choice.
use Rattle.std.specs.Prelude.{◌≡◌, ℕ, ◌+◌, ◌/◌, ◌%◌, ◌^◌, ◌==◌, ◌&&◌, nat_le, nat_lt, Bool, false, List, [], ◌∷◌, ◌++◌, map, length, Option, Some, None, if◌then◌else◌, codes}
use Rattle.std.specs.List.{flat_map}
use Rattle.std.specs.Fmt.{decimal, digit_glyph}
use Rattle.cyc_elf.specs.declared.outline.Outline.{Outline}
use Rattle.cyc_elf.specs.declared.program_header.ProgramHeader.{ProgramHeader}
use Rattle.cyc_elf.specs.Image.{SegmentContents, ImageContents}
use Rattle.cyc_machine_model.specs.State.{text_base, text_end, data_base, data_end}

-- The facts about a segment that `info` prints: its first address, its flags, and its sizes in the file and in memory.
pub record Extent : Type 0 where
  pub vaddr : ℕ
  pub flags : ℕ
  pub stored : ℕ
  pub size : ℕ

abbrev pub extent_of : SegmentContents → Extent
extent_of s = record { vaddr = s.vaddr; flags = s.flags; stored = length s.bytes; size = s.size }

-- The facts about a segment that `info` prints, computed from the segment's program header.
abbrev pub extent_in : ProgramHeader → Extent
extent_in h = record { vaddr = h.vaddr; flags = h.flags; stored = h.file_size; size = h.memory_size }

-- The two hexadecimal digits of a byte; an address consists of four bytes.
abbrev pub hex_of : ℕ → List ℕ
hex_of b = digit_glyph false (b / 16) ∷ digit_glyph false (b % 16) ∷ []

abbrev pub address_text : ℕ → List ℕ
address_text a = hex_of (a / 2 ^ 24) ++ (hex_of (a / 2 ^ 16 % 256) ++ (hex_of (a / 2 ^ 8 % 256) ++ hex_of (a % 256)))

-- The name of the machine's memory range that contains the first address of a segment.
abbrev pub range_of : Extent → List ℕ
range_of s =
    if nat_le text_base s.vaddr && nat_lt s.vaddr text_end then codes "text"
    else if nat_le data_base s.vaddr && nat_lt s.vaddr data_end then codes "data"
    else codes "elsewhere"

-- The text line about a segment: its range, its first address, its words in memory, its bytes in the file, and its flags.
abbrev pub segment_line : Extent → List ℕ
segment_line s = range_of s ++ (codes " at " ++ (address_text s.vaddr ++ (codes ", " ++ (decimal ((s.size + 3) / 4)
    ++ (codes " words, " ++ (decimal s.stored ++ (codes " bytes in the file, flags " ++ (decimal s.flags ++ codes "\n"))))))))

abbrev pub limits_line : Option (ℕ × ℕ) → List ℕ
limits_line None = codes "limits none\n"
limits_line (Some limits) = codes "limits " ++ (decimal limits.0 ++ (codes " pages, " ++ (decimal limits.1 ++ codes " calls\n")))

-- ---- a test for the form of images made by this compiler

abbrev pub is_text : Extent → Bool
is_text s = s.vaddr == text_base && (s.flags == 5 && s.stored == s.size)

abbrev pub is_data : Extent → Bool
is_data s = s.vaddr == data_base && (s.flags == 6 && (s.stored == s.size && (s.size % 4 == 0 && nat_lt 0 s.size)))

abbrev pub are_of_program : List Extent → Bool
are_of_program (text ∷ []) = is_text text
are_of_program (text ∷ variables ∷ []) = is_text text && is_data variables
are_of_program segments = false

abbrev pub has_form : (entry : ℕ) → List Extent → Bool
has_form entry segments = if entry == text_base then are_of_program segments else false

abbrev pub form_line : Bool → List ℕ
form_line form = if form then codes "form of this compiler\n" else codes "form another\n"

-- The complete text that the command `info` prints about an image, made from its entry address, its segments, and
-- the note that states its limits.
abbrev pub reported_of : (entry : ℕ) → List Extent → Option (ℕ × ℕ) → List ℕ
reported_of entry segments note = codes "entry at " ++ (address_text entry ++ (codes "\n" ++ (flat_map segment_line segments
    ++ (limits_line note ++ form_line (has_form entry segments)))))

abbrev pub info_text : ImageContents → List ℕ
info_text image = reported_of image.entry (map extent_of image.segments) image.note

-- The complete text of `info`, computed from an image's outline (its entry address, program headers and limits).
abbrev pub outline_text : Outline → List ℕ
outline_text o = reported_of o.entry (map extent_in o.loads.items) o.note
