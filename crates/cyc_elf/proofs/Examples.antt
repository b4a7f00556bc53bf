-- A file of 88 bytes, read by computation: the file header, one program header, and one word of machine code. The bytes follow the
-- System V ABI's tables, field by field.
use Rattle.std.proofs.Common.{◌≡◌, ℕ, List, [], ◌∷◌, ◌++◌, None, Ok, Err, refl}
use Rattle.cyc_elf.specs.declared.fault.ElfFault.TheVariants as faults
use Rattle.cyc_elf.specs.Header.{field, program_header_at, headers_from}
use Rattle.cyc_elf.specs.Note.{is_note, is_named, limits_at}
use Rattle.cyc_elf.specs.Image.{ImageContents}
use Rattle.cyc_elf.specs.Reading.{file_rules, own_rules, entry_rules, reading}

-- The first bytes of the example file: `e_ident`, then an executable (2) for MIPS (8) of version 1.
abbrev kind : List ℕ
kind = 127 ∷ 69 ∷ 76 ∷ 70 ∷ 1 ∷ 2 ∷ 1 ∷ 0 ∷ 0 ∷ 0 ∷ 0 ∷ 0 ∷ 0 ∷ 0 ∷ 0 ∷ 0 ∷ 0 ∷ 2 ∷ 0 ∷ 8 ∷ 0 ∷ 0 ∷ 0 ∷ 1 ∷ []

-- The example file's header states that the program headers begin at file offset 52, and that the file has no sections
-- and no flags. The file header has 52 bytes, a program header has 32 bytes, and there is one program header.
abbrev table : List ℕ
table = 0 ∷ 0 ∷ 0 ∷ 52 ∷ 0 ∷ 0 ∷ 0 ∷ 0 ∷ 0 ∷ 0 ∷ 0 ∷ 0 ∷ 0 ∷ 52 ∷ 0 ∷ 32 ∷ 0 ∷ 1 ∷ 0 ∷ 0 ∷ 0 ∷ 0 ∷ 0 ∷ 0 ∷ []

-- The example's program header: `PT_LOAD` (1): 4 bytes from offset 84 are loaded at 0x400000, where the segment has 8
-- bytes, readable and executable (5).
abbrev load : List ℕ
load =
    0 ∷ 0 ∷ 0 ∷ 1 ∷ 0 ∷ 0 ∷ 0 ∷ 84 ∷ 0 ∷ 64 ∷ 0 ∷ 0 ∷ 0 ∷ 0 ∷ 0 ∷ 0
    ∷ 0 ∷ 0 ∷ 0 ∷ 4 ∷ 0 ∷ 0 ∷ 0 ∷ 8 ∷ 0 ∷ 0 ∷ 0 ∷ 5 ∷ 0 ∷ 0 ∷ 0 ∷ 0 ∷ []

-- The text (machine code) of the example file: the word 12, which encodes a `syscall`.
abbrev text : List ℕ
text = 0 ∷ 0 ∷ 0 ∷ 12 ∷ []

-- The example file with one of three entry addresses: 0x400000, or the address 4 or 8 bytes later.
abbrev file : (last_of_entry : ℕ) → List ℕ
file n = kind ++ (0 ∷ 64 ∷ 0 ∷ n ∷ []) ++ table ++ load ++ text

abbrev image : (entry : ℕ) → ImageContents
image entry = record {
  entry = entry;
  segments = record { vaddr = 0x400000; flags = 5; bytes = text; size = 8 } ∷ [];
  note = None;
}

it_is_read : reading (file 0) ≡ Ok (image 0x400000)
unfolding reading file_rules own_rules entry_rules headers_from program_header_at field is_note is_named limits_at
it_is_read = refl

-- The entry address may be that of the second word of the segment, although the file stores no bytes for that word.
entered_at_its_second_word : reading (file 4) ≡ Ok (image 0x400004)
unfolding reading file_rules own_rules entry_rules headers_from program_header_at field is_note is_named limits_at
entered_at_its_second_word = refl

entered_after_its_end : reading (file 8) ≡ Err faults.BadEntry
unfolding reading file_rules own_rules entry_rules headers_from program_header_at field is_note is_named limits_at
entered_after_its_end = refl

-- Without its last word the file lacks bytes of the segment, and without the program header it lacks the header table.
text_is_missing : reading (kind ++ (0 ∷ 64 ∷ 0 ∷ 0 ∷ []) ++ table ++ load) ≡ Err faults.Truncated
unfolding reading file_rules own_rules entry_rules headers_from program_header_at field is_note is_named limits_at
text_is_missing = refl

table_is_missing : reading (kind ++ (0 ∷ 64 ∷ 0 ∷ 0 ∷ []) ++ table) ≡ Err faults.Truncated
unfolding reading file_rules own_rules entry_rules headers_from program_header_at field is_note is_named limits_at
table_is_missing = refl

-- A file that does not begin with the bytes 127, E, L, F is rejected, no matter what follows them.
other_bytes : reading (0 ∷ file 0) ≡ Err faults.NotElf32Big
unfolding reading file_rules own_rules entry_rules headers_from program_header_at field is_note is_named limits_at
other_bytes = refl
