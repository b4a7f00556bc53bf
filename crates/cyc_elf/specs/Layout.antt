-- The file that the writer makes of an image: the file header, the program headers, the segments' bytes, and the note if the image has
-- limits. The bytes of each segment are padded with zeros to whole words. The file contains no sections, so all fields for section tables
-- are 0. (The headers are those of the System V ABI; the file layout is this project's own choice.)
use Rattle.std.specs.Prelude.{ℕ, ◌+◌, ◌-◌, ◌*◌, ◌^◌, ◌<◌, Option, Some, None, List, [], ◌∷◌, ◌++◌, length, replicate, All}
use Rattle.std.specs.List.{flat_map}
use Rattle.byteorder.specs.Endian.{big_bytes}
use Rattle.cyc_elf.specs.Header.{ident, file_header_size, program_header_size, ProgramHeader}
use Rattle.cyc_elf.specs.Note.{note_name, name_size, description_size, note_type, note_size}
use Rattle.cyc_elf.specs.Image.{SegmentContents, ImageContents, padded}

-- Writes numbers as two bytes each (`halves`) or four bytes each (`words`), most significant byte first.
abbrev pub halves : List ℕ → List ℕ
halves = flat_map (big_bytes 2)

abbrev pub words : List ℕ → List ℕ
words = flat_map (big_bytes 4)

-- The file header: the identification; an executable (2) for MIPS (8); the version, the entry and the offset of the program headers; no
-- section headers and no flags. The second half of the file header: the sizes of the two kinds of header, the number of program headers,
-- and zeros for the section headers.
unfoldable pub file_header : (entry count : ℕ) → List ℕ
file_header entry count =
    ident ++ replicate 9 0
    ++ halves (2 ∷ 8 ∷ [])
    ++ words (1 ∷ entry ∷ file_header_size ∷ 0 ∷ 0 ∷ [])
    ++ halves (file_header_size ∷ program_header_size ∷ count ∷ 0 ∷ 0 ∷ 0 ∷ [])

-- A program header: its kind; the offset of its bytes; its address, twice, since the physical address is the same; its size in the file
-- and in memory; its flags; and its alignment, to words.
unfoldable pub program_header : ProgramHeader → List ℕ
program_header h = words (h.kind ∷ h.offset ∷ h.vaddr ∷ h.vaddr ∷ h.file_size ∷ h.memory_size ∷ h.flags ∷ 4 ∷ [])

-- Returns the loadable (1) program header of a segment whose bytes begin at the given offset.
abbrev pub header_of : ℕ → SegmentContents → ProgramHeader
header_of offset s = record {
  kind = 1;
  offset = offset;
  vaddr = s.vaddr;
  file_size = length s.bytes;
  memory_size = s.size;
  flags = s.flags;
}

-- Returns the program headers of segments whose bytes follow each other from the given offset on.
abbrev pub headers_of : ℕ → List SegmentContents → List ProgramHeader
headers_of offset [] = []
headers_of offset (s ∷ rest) = header_of offset s ∷ headers_of (offset + padded (length s.bytes)) rest

-- Returns a segment's bytes, padded with zeros to whole words.
abbrev pub stored : SegmentContents → List ℕ
stored s = s.bytes ++ replicate (padded (length s.bytes) - length s.bytes) 0

-- Returns the end of the bytes of segments that follow each other from the given offset on.
abbrev pub bytes_end : ℕ → List SegmentContents → ℕ
bytes_end offset [] = offset
bytes_end offset (s ∷ rest) = bytes_end (offset + padded (length s.bytes)) rest

-- ---- the note, if there is one

-- Returns the program header of a note at the given file offset. The header's type is 4 (a note), it has no address
-- in memory, and its flags are 4 (readable).
abbrev pub note_header : ℕ → ProgramHeader
note_header offset = record {
  kind = 4;
  offset = offset;
  vaddr = 0;
  file_size = note_size;
  memory_size = note_size;
  flags = 4;
}

abbrev pub note_headers : ℕ → (note : Option (ℕ × ℕ)) → List ProgramHeader
note_headers offset None = []
note_headers offset (Some limits) = note_header offset ∷ []

-- The bytes of a note: the sizes of its name and of its description, its type, its name, and the limits on pages and calls.
unfoldable pub note_bytes : (limits : ℕ × ℕ) → List ℕ
note_bytes limits = words (name_size ∷ description_size ∷ note_type ∷ []) ++ note_name ++ words (limits.0 ∷ limits.1 ∷ [])

abbrev pub notes : (note : Option (ℕ × ℕ)) → List ℕ
notes None = []
notes (Some limits) = note_bytes limits

-- ---- the whole file

-- The number of program headers that an image's limits need (0 or 1), and the number that the whole image needs.
abbrev pub note_count : (note : Option (ℕ × ℕ)) → ℕ
note_count None = 0
note_count (Some limits) = 1

abbrev pub headers_count : ImageContents → ℕ
headers_count i = length i.segments + note_count i.note

-- The file offset of the first segment's bytes, and the end of the last segment's bytes.
abbrev pub bytes_start : ImageContents → ℕ
bytes_start i = file_header_size + program_header_size * headers_count i

abbrev pub note_start : ImageContents → ℕ
note_start i = bytes_end (bytes_start i) i.segments

-- Returns the program headers of an image in the written file.
abbrev pub laid_headers : ImageContents → List ProgramHeader
laid_headers i = headers_of (bytes_start i) i.segments ++ note_headers (note_start i) i.note

unfoldable pub layout : ImageContents → List ℕ
layout i =
    file_header i.entry (headers_count i)
    ++ flat_map program_header (laid_headers i)
    ++ flat_map stored i.segments
    ++ notes i.note

-- Says that the numbers that the writer computes fit their fields: the number of program headers, and the file offset of
-- each segment's bytes.
pub record FitsFields (i : ImageContents) : Type 0 where
  pub count : headers_count i < 2 ^ 16
  pub offsets : All (λ h. h.offset < 2 ^ 32) (laid_headers i)
