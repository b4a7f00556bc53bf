-- The fields of the file header and of a program header, each given by offset and width. (System V ABI, chapter 4, "ELF Header", and
-- chapter 5, "Program Header", for 32-bit objects. The ABI's names are given in comments.)
use Rattle.std.specs.Prelude.{ℕ, zero, suc, ◌+◌, List, [], ◌∷◌, drop}
use Rattle.byteorder.specs.Endian.{big_number}

-- The number in the `width` bytes at an offset from the start of the file, most significant byte first.
unfoldable pub field : (width offset : ℕ) → List ℕ → ℕ
field width offset file = big_number width (drop offset file)

-- ---- the file header

-- `e_ident`: the magic number, the class (1: 32-bit), the data encoding (2: most significant byte first) and the version of the header.
abbrev pub ident : List ℕ
ident = 127 ∷ 69 ∷ 76 ∷ 70 ∷ 1 ∷ 2 ∷ 1 ∷ []

abbrev pub file_header_size : ℕ
file_header_size = 52

-- The fields `e_type`, `e_machine` and `e_version` of the file header.
abbrev pub object_type : List ℕ → ℕ
object_type = field 2 16

abbrev pub machine : List ℕ → ℕ
machine = field 2 18

abbrev pub version : List ℕ → ℕ
version = field 4 20

-- The field `e_entry` of the file header: the address of the first instruction.
abbrev pub entry : List ℕ → ℕ
entry = field 4 24

-- `e_phoff`, `e_phentsize` and `e_phnum`: the offset of the table of program headers, the size of one header, and their number.
abbrev pub table_offset : List ℕ → ℕ
table_offset = field 4 28

abbrev pub header_size : List ℕ → ℕ
header_size = field 2 42

abbrev pub header_count : List ℕ → ℕ
header_count = field 2 44

-- ---- a program header

abbrev pub program_header_size : ℕ
program_header_size = 32

-- The program header's fields that the reader uses: `p_type`, `p_offset`, `p_vaddr`, `p_filesz`, `p_memsz` and `p_flags`. (`p_paddr` and
-- `p_align` are at the offsets 12 and 28.)
pub record ProgramHeader : Type 0 where
  pub kind : ℕ
  pub offset : ℕ
  pub vaddr : ℕ
  pub file_size : ℕ
  pub memory_size : ℕ
  pub flags : ℕ

-- Returns the program header at an offset in the file.
unfoldable pub program_header_at : List ℕ → ℕ → ProgramHeader
program_header_at file place = record {
  kind = field 4 place file;
  offset = field 4 (place + 4) file;
  vaddr = field 4 (place + 8) file;
  file_size = field 4 (place + 16) file;
  memory_size = field 4 (place + 20) file;
  flags = field 4 (place + 24) file;
}

-- Returns the `count` consecutive program headers from an offset on.
unfoldable pub headers_from : List ℕ → (place count : ℕ) → List ProgramHeader
headers_from file place zero = []
headers_from file place (suc count) = program_header_at file place ∷ headers_from file (place + program_header_size) count

-- Returns the file's table of program headers.
abbrev pub program_headers : List ℕ → List ProgramHeader
program_headers file = headers_from file (table_offset file) (header_count file)
