-- The image of a file, or its fault: the rules of the format in the order in which violations are reported, each with its fault. Sums are
-- of natural numbers and do not wrap. (The meaning of the fields is in the System V ABI; the rejected images and the order of the rules are
-- this project's own choice.)
use Rattle.std.specs.Prelude.{◌≡◌, ℕ, ◌+◌, ◌*◌, ◌%◌, ◌^◌, Bool, true, not, ◌&&◌, nat_lt, nat_le, nat_eq, ◌==◌, if◌then◌else◌, min, max, Option, Some, None, Result, Ok, Err, List, [], ◌∷◌, ◌++◌, length, map, filter, take, drop}
use Rattle.std.specs.List.{list_any, starts_with}
use Rattle.cyc_elf.specs.declared.fault.ElfFault.{ElfFault}
use Rattle.cyc_elf.specs.declared.fault.ElfFault.TheVariants as faults
use Rattle.cyc_elf.specs.Header.{ident, field, file_header_size, object_type, machine, version, entry, table_offset, header_size, header_count, program_header_size, ProgramHeader, program_headers}
use Rattle.cyc_elf.specs.Note.{description_size, note_type, note_size, limits_at, is_note, are_limits}
use Rattle.cyc_elf.specs.declared.image.Image.{Image}
use Rattle.cyc_elf.specs.Image.{SegmentContents, ImageContents, contents_of}

-- A rule of the format: `is_broken` says whether the file violates the rule, and the fault is the one to report.
pub record Rule : Type 0 where
  pub is_broken : Bool
  pub fault : ElfFault

abbrev pub broken : Bool → ElfFault → Rule
broken b f = record { is_broken = b; fault = f }

-- Returns the fault of the first rule in a list that the file violates, or none if the file satisfies all rules.
abbrev pub first_fault : List Rule → Option ElfFault
first_fault [] = None
first_fault (r ∷ rest) = if r.is_broken then Some r.fault else first_fault rest

-- The rules of the file header: the file has one, it is that of a 32-bit, big-endian executable for MIPS, and the table of program
-- headers lies in the file. The fields of the file header that no rule names may have any value.
unfoldable pub file_rules : List ℕ → List Rule
file_rules file =
    broken (nat_lt (length file) file_header_size) faults.Truncated
    ∷ broken (not (starts_with nat_eq file ident)) faults.NotElf32Big
    ∷ broken (not (object_type file == 2)) faults.NotMipsExec
    ∷ broken (not (machine file == 8)) faults.NotMipsExec
    ∷ broken (not (version file == 1)) faults.NotMipsExec
    ∷ broken (not (header_size file == program_header_size)) faults.BadSegment
    ∷ broken (nat_lt (length file) (table_offset file + program_header_size * header_count file)) faults.Truncated
    ∷ []

-- Recognizes the types of program headers, other than notes, that the reader does not ignore: `PT_LOAD` and `PT_INTERP`.
abbrev pub is_load : ProgramHeader → Bool
is_load h = h.kind == 1

abbrev pub is_interpreter : ProgramHeader → Bool
is_interpreter h = h.kind == 3

-- Returns the loadable headers, which describe segments.
abbrev pub loads : List ProgramHeader → List ProgramHeader
loads = filter is_load

-- Returns true if the segment of a program header contains an address.
abbrev pub covers : ProgramHeader → ℕ → Bool
covers h address = nat_le h.vaddr address && nat_lt address (h.vaddr + h.memory_size)

-- Returns true if two segments share an address: the later of their starts is before the earlier of their ends.
abbrev pub overlap : ProgramHeader → ProgramHeader → Bool
overlap g h = nat_lt (max g.vaddr h.vaddr) (min (g.vaddr + g.memory_size) (h.vaddr + h.memory_size))

-- The rules of a loadable program header in a file of `len` bytes: it has no more bytes in the file than in memory. It ends within the
-- address space, begins at a multiple of 4, and its bytes are in the file.
abbrev pub load_rules : ℕ → ProgramHeader → List Rule
load_rules len h =
    broken (nat_lt h.memory_size h.file_size) faults.BadSegment
    ∷ broken (nat_lt (2 ^ 32) (h.vaddr + h.memory_size)) faults.BadSegment
    ∷ broken (not (h.vaddr % 4 == 0)) faults.BadSegment
    ∷ broken (nat_lt len (h.offset + h.file_size)) faults.Truncated
    ∷ []

-- The rules of a note with limits: the note is complete, its description has eight bytes, its type is 1, its limits are in range, and
-- no earlier note has limits.
abbrev pub note_rules : List ℕ → (noted : Bool) → ProgramHeader → List Rule
note_rules file noted h =
    broken (nat_lt h.file_size note_size) faults.BadSegment
    ∷ broken (not (field 4 (h.offset + 4) file == description_size)) faults.BadSegment
    ∷ broken (not (field 4 (h.offset + 8) file == note_type)) faults.BadSegment
    ∷ broken (not (are_limits (limits_at file h.offset))) faults.BadSegment
    ∷ broken noted faults.BadSegment
    ∷ []

-- The rules of a single program header, given whether a note with limits came before it. One rule is that the header requests no
-- interpreter. A header that is neither loadable, nor an interpreter request, nor a note with limits has no rules.
unfoldable pub own_rules : List ℕ → (noted : Bool) → ProgramHeader → List Rule
own_rules file noted h =
    if is_interpreter h
    then broken true faults.Interp ∷ []
    else (if is_load h
    then load_rules (length file) h
    else (if is_note file h
    then note_rules file noted h
    else []))

-- The rule between a program header and the headers before it: the memory of two loadable headers must not overlap.
abbrev pub overlap_rule : List ProgramHeader → ProgramHeader → Rule
overlap_rule earlier h = broken (is_load h && list_any (overlap h) (loads earlier)) faults.BadSegment

-- The rules of a list of program headers, in order; one rule of each header is about its overlap with the headers before it.
abbrev pub table_rules : List ℕ → (earlier headers : List ProgramHeader) → List Rule
table_rules file earlier [] = []
table_rules file earlier (h ∷ rest) =
    own_rules file (list_any (is_note file) earlier) h ++ overlap_rule earlier h ∷ table_rules file (earlier ++ h ∷ []) rest

-- The rule of the entry address, at which a run starts: it is the address of a word in one of the segments.
unfoldable pub entry_rules : List ProgramHeader → ℕ → List Rule
entry_rules headers address =
    broken (not (list_any (λ h. covers h address) (loads headers))) faults.BadEntry
    ∷ broken (not (address % 4 == 0)) faults.BadEntry
    ∷ []

-- All rules that a file must satisfy to be read as an image.
abbrev pub rules : List ℕ → List Rule
rules file =
    file_rules file
    ++ table_rules file [] (program_headers file)
    ++ entry_rules (program_headers file) (entry file)

-- Returns the segment that a program header describes, with its bytes from the file.
abbrev pub segment_of : List ℕ → ProgramHeader → SegmentContents
segment_of file h = record {
  vaddr = h.vaddr;
  flags = h.flags;
  bytes = take h.file_size (drop h.offset file);
  size = h.memory_size;
}

-- Returns the limits on pages and calls that the first note with limits among program headers states.
abbrev pub note_among : List ℕ → List ProgramHeader → Option (ℕ × ℕ)
note_among file [] = None
note_among file (h ∷ rest) = if is_note file h then Some (limits_at file h.offset) else note_among file rest

-- Returns the image that the file's fields describe.
abbrev pub named_image : List ℕ → ImageContents
named_image file = record {
  entry = entry file;
  segments = map (segment_of file) (loads (program_headers file));
  note = note_among file (program_headers file);
}

abbrev pub unless : Option ElfFault → ImageContents → Result ImageContents ElfFault
unless (Some f) image = Err f
unless None image = Ok image

-- Returns the image that a file denotes, or the fault of the first violated rule.
unfoldable pub reading : List ℕ → Result ImageContents ElfFault
reading file = unless (first_fault (rules file)) (named_image file)

-- Says that the result of the reader agrees with the image or fault that the file denotes (`read`), unless memory ran out.
abbrev pub Answers : Result Image ElfFault → Result ImageContents ElfFault → Type 0
Answers (Ok image) read = read ≡ Ok (contents_of image)
Answers (Err faults.Memory) read = Unit {0}
Answers (Err f) read = read ≡ Err f
