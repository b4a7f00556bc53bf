-- The image that the headers of a file describe, with the segments' bytes still in the file. The form of an outline is this project's own
-- choice.
use Rattle.std.specs.Prelude.{◌≡◌, ℕ, List, map, Result, Ok, Err}
use Rattle.cyc_elf.specs.declared.fault.ElfFault.{ElfFault}
use Rattle.cyc_elf.specs.declared.fault.ElfFault.TheVariants as faults
use Rattle.cyc_elf.specs.declared.outline.Outline.{Outline}
use Rattle.cyc_elf.specs.declared.program_header.ProgramHeader as raw
use Rattle.cyc_elf.specs.Header.{ProgramHeader}
use Rattle.cyc_elf.specs.Image.{ImageContents}
use Rattle.cyc_elf.specs.Reading.{segment_of}

-- Converts a program header as the reader's code stores it to a program header of the specification.
abbrev pub fields_of : raw.ProgramHeader → ProgramHeader
fields_of h = record {
  kind = h.kind;
  offset = h.offset;
  vaddr = h.vaddr;
  file_size = h.file_size;
  memory_size = h.memory_size;
  flags = h.flags;
}

-- Returns the image that an outline (an image without its segments' bytes) denotes, with the bytes taken from the file.
abbrev pub outlined : List ℕ → Outline → ImageContents
outlined file o = record { entry = o.entry; segments = map (segment_of file) (map fields_of o.loads.items); note = o.note }

-- Says that the result of reading a file's headers agrees with the image or fault that the file denotes (`read`), unless memory ran out.
abbrev pub Outlines : List ℕ → Result Outline ElfFault → Result ImageContents ElfFault → Type 0
Outlines file (Ok outline) read = read ≡ Ok (outlined file outline)
Outlines file (Err faults.Memory) read = Unit {0}
Outlines file (Err f) read = read ≡ Err f
