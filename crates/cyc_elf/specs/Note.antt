-- The note that stores the limits of an image's runs: the bytes to which a program header of type 4 (`PT_NOTE`) refers, in the form of the
-- System V ABI, chapter 5, "Note Section". The owner's name, the note's type and its description are this project's own choice.
use Rattle.std.specs.Prelude.{ℕ, ◌+◌, ◌≤◌, Bool, ◌&&◌, nat_le, nat_eq, ◌==◌, List, [], ◌∷◌, length, drop}
use Rattle.std.specs.List.{starts_with}
use Rattle.cyc_elf.specs.declared.note.TheConstants.{MIN_PAGES, MAX_PAGES, MIN_CALLS, MAX_CALLS}
use Rattle.cyc_elf.specs.Header.{field, ProgramHeader}

-- The bytes of a note. A note begins with the size of the owner's name, the size of the description, and the note's type, of four
-- bytes each. The size fields and the type are followed by the owner's name, "Cyclone" and a zero byte. The owner's name is followed
-- by the description: the maximal number of the store's pages and the maximal number of a run's active calls, of four bytes each.
abbrev pub note_name : List ℕ
note_name = 67 ∷ 121 ∷ 99 ∷ 108 ∷ 111 ∷ 110 ∷ 101 ∷ 0 ∷ []

abbrev pub name_size : ℕ
name_size = 8

abbrev pub description_size : ℕ
description_size = 8

abbrev pub note_type : ℕ
note_type = 1

-- The number of bytes of a note up to the end of the owner's name, and the number of bytes of the whole note.
abbrev pub named_size : ℕ
named_size = 20

abbrev pub note_size : ℕ
note_size = 28

-- Returns true if the bytes at an offset begin like a note whose owner has the name "Cyclone".
unfoldable pub is_named : List ℕ → (offset : ℕ) → Bool
is_named file offset = field 4 offset file == name_size && starts_with nat_eq (drop (offset + 12) file) note_name

-- Returns the numbers of pages and calls that the note at an offset states.
unfoldable pub limits_at : List ℕ → (offset : ℕ) → ℕ × ℕ
limits_at file offset = (field 4 (offset + 20) file, field 4 (offset + 24) file)

-- Returns true if a program header describes a note with limits: its bytes lie in the file, reach at least to the end of the name, and
-- begin like a note of the owner "Cyclone". A note of another owner is not a note with limits.
unfoldable pub is_note : List ℕ → ProgramHeader → Bool
is_note file h = h.kind == 4 && nat_le named_size h.file_size && nat_le (h.offset + h.file_size) (length file) && is_named file h.offset

-- Says that the number of pages and the number of calls are in their allowed ranges, once as a test and once as a proposition.
abbrev pub are_limits : ℕ × ℕ → Bool
are_limits limits = nat_le MIN_PAGES limits.0 && nat_le limits.0 MAX_PAGES && nat_le MIN_CALLS limits.1 && nat_le limits.1 MAX_CALLS

pub record AreLimits (limits : ℕ × ℕ) : Type 0 where
  pub enough_pages : MIN_PAGES ≤ limits.0
  pub few_pages : limits.0 ≤ MAX_PAGES
  pub enough_calls : MIN_CALLS ≤ limits.1
  pub few_calls : limits.1 ≤ MAX_CALLS
