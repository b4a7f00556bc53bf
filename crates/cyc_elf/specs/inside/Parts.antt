-- The results of the separate functions of the file reader, such as the traversal of the program headers. The reader's own contract
-- does not cite these definitions: `proofs/` shows that the functions together implement the rules. The division of the reader into
-- parts is this project's own choice.
use Rattle.std.specs.Prelude.{ℕ, ◌+◌, ◌^◌, ◌<◌, Bool, true, not, ◌&&◌, nat_le, ◌==◌, if◌then◌else◌, Option, Some, None, is_some, List, [], ◌∷◌, ◌++◌, map}
use Rattle.std.specs.List.{list_any}
use Rattle.cyc_elf.specs.declared.fault.ElfFault.{ElfFault}
use Rattle.cyc_elf.specs.declared.table.Walk as table
use Rattle.cyc_elf.specs.Header.{ProgramHeader}
use Rattle.cyc_elf.specs.Note.{is_note, limits_at}
use Rattle.cyc_elf.specs.Outline.{fields_of}
use Rattle.cyc_elf.specs.Reading.{first_fault, own_rules, is_load, overlap}

-- The result of traversing the program headers up to the first header that violates a rule by itself. The result has the loadable headers
-- and the limits of the first note with limits before that header, and the fault of that header.
pub record Walk : Type 0 where
  pub loads : List ProgramHeader
  pub note : Option (ℕ × ℕ)
  pub fault : Option ElfFault

abbrev pub walk_of : table.Walk → Walk
walk_of w = record { loads = map fields_of w.loads.items; note = w.note; fault = w.fault }

abbrev pub step : (known : Option (ℕ × ℕ)) → ProgramHeader → Option ElfFault → Walk → Walk
step known h (Some f) rest = record { loads = []; note = known; fault = Some f }
step known h None rest = record { loads = if is_load h then h ∷ rest.loads else rest.loads; note = rest.note; fault = rest.fault }

-- Returns the limits on pages and calls that a program header states if it is a note with limits,
-- otherwise the limits that earlier headers stated.
abbrev pub noted : List ℕ → (known : Option (ℕ × ℕ)) → ProgramHeader → Option (ℕ × ℕ)
noted file known h = if is_note file h then Some (limits_at file h.offset) else known

-- Traverses program headers, starting with the limits on pages and calls that earlier headers state, if any.
abbrev pub walk : List ℕ → (known : Option (ℕ × ℕ)) → List ProgramHeader → Walk
walk file known [] = record { loads = []; note = known; fault = None }
walk file known (h ∷ rest) = step known h (first_fault (own_rules file (is_some known) h)) (walk file (noted file known h) rest)

-- Returns true if no header overlaps a header before it, including the headers in `earlier`.
abbrev pub are_apart : (earlier headers : List ProgramHeader) → Bool
are_apart earlier [] = true
are_apart earlier (h ∷ rest) = not (list_any (overlap h) earlier) && are_apart (earlier ++ h ∷ []) rest

-- Returns true if each header with memory begins at or after the end of the previous one.
abbrev pub in_order : ℕ → List ProgramHeader → Bool
in_order high [] = true
in_order high (h ∷ rest) =
    if h.memory_size == 0
    then in_order high rest
    else (nat_le high h.vaddr && in_order (h.vaddr + h.memory_size) rest)

-- Says that the value of each field of a program header fits in four bytes.
pub record IsInWords (h : ProgramHeader) : Type 0 where
  pub kind : h.kind < 2 ^ 32
  pub offset : h.offset < 2 ^ 32
  pub vaddr : h.vaddr < 2 ^ 32
  pub file_size : h.file_size < 2 ^ 32
  pub memory_size : h.memory_size < 2 ^ 32
  pub flags : h.flags < 2 ^ 32
