-- The result of the file reader is derived from three results: that of reading the file header, that of traversing the
-- program headers, and that of the test of the entry address.
use Rattle.std.proofs.Common.{◌≡◌, ℕ, ◌+◌, ◌≤◌, ◌%◌, Bool, true, false, ◌&&◌, ◌||◌, eqb, List, [], ◌∷◌, length, map, Option, Some, None, Result, Ok, Err, All, refl, sym, ap, subst, ◌∙◌, arith}
use Rattle.std.specs.List.{list_any}
use Rattle.std.proofs.lemmas.List.{get_or-map, length-map}
use Rattle.cyc_elf.specs.declared.fault.ElfFault.{ElfFault}
use Rattle.cyc_elf.specs.declared.fault.ElfFault.TheVariants as faults
use Rattle.cyc_elf.specs.declared.file_header.FileHeader.{FileHeader}
use Rattle.cyc_elf.specs.declared.program_header.ProgramHeader as raw
use Rattle.cyc_elf.specs.declared.table.Walk as table
use Rattle.cyc_elf.specs.Header.{ProgramHeader, headers_from, entry, table_offset, header_count}
use Rattle.cyc_elf.specs.Image.{ImageContents, IsWellFormed}
use Rattle.cyc_elf.specs.Reading.{first_fault, file_rules, covers, segment_of, reading, Answers}
use Rattle.cyc_elf.specs.Outline.{fields_of, Outlines}
use Rattle.cyc_elf.specs.inside.Parts.{Walk, walk_of, walk, are_apart}
use Rattle.cyc_elf.proofs.Rules.{table_of, is_entry, reading-shared, reading-table_fault, reading-entry, reading-image}
use Rattle.cyc_elf.proofs.Sound.{stored_all, is_well_formed}

-- If the specified reader returns a fault, then returning the same fault is a correct result, and so is running out of memory.
pub Outlines-fault : (file : List ℕ) (f : ElfFault) (read : Result ImageContents ElfFault) → read ≡ Err f → Outlines file (Err f) read
Outlines-fault file faults.Truncated read e = e
Outlines-fault file faults.NotElf32Big read e = e
Outlines-fault file faults.NotMipsExec read e = e
Outlines-fault file faults.BadSegment read e = e
Outlines-fault file faults.Interp read e = e
Outlines-fault file faults.BadEntry read e = e
Outlines-fault file faults.Memory read e = tt

-- A fault that occurs while the outline (the headers of a file) is read is also the fault of the whole reader.
pub Answers-outlined : (file : List ℕ) (f : ElfFault) (read : Result ImageContents ElfFault) → Outlines file (Err f) read → Answers (Err f) read
Answers-outlined file faults.Truncated read e = e
Answers-outlined file faults.NotElf32Big read e = e
Answers-outlined file faults.NotMipsExec read e = e
Answers-outlined file faults.BadSegment read e = e
Answers-outlined file faults.Interp read e = e
Answers-outlined file faults.BadEntry read e = e
Answers-outlined file faults.Memory read e = tt

-- The results of reading the file header and of the traversal of the table of program headers.
pub record Found (file : List ℕ) (h : FileHeader) (w : table.Walk) : Type 0 where
  pub fine : first_fault (file_rules file) ≡ None
  pub fields : record { entry = entry file; table = table_offset file; count = header_count file } ≡ h
  pub walked : walk_of w ≡ walk file None (headers_from file h.table h.count)

table_found : {file : List ℕ} {h : FileHeader} {w : table.Walk} → Found file h w → walk_of w ≡ table_of file
table_found {file} f = f.walked ∙ ap (λ (g : FileHeader). walk file None (headers_from file g.table g.count)) (sym f.fields)

loads_found : {file : List ℕ} {h : FileHeader} {w : table.Walk} → Found file h w → map fields_of w.loads.items ≡ (table_of file).loads
loads_found f = ap (λ (v : Walk). v.loads) (table_found f)

fault_found : {file : List ℕ} {h : FileHeader} {w : table.Walk} → Found file h w → w.fault ≡ (table_of file).fault
fault_found f = ap (λ (v : Walk). v.fault) (table_found f)

note_found : {file : List ℕ} {h : FileHeader} {w : table.Walk} → Found file h w → w.note ≡ (table_of file).note
note_found f = ap (λ (v : Walk). v.note) (table_found f)

pub apart_found : {file : List ℕ} {h : FileHeader} {w : table.Walk} (apart : Bool) (ls : List raw.ProgramHeader) → Found file h w → apart ≡ are_apart [] (map fields_of ls) → ls ≡ w.loads.items → are_apart [] (table_of file).loads ≡ apart
apart_found apart ls f e same = sym (e ∙ ap (λ (xs : List raw.ProgramHeader). are_apart [] (map fields_of xs)) same ∙ ap (are_apart []) (loads_found f))

covered-map : (a : ℕ) (xs : List raw.ProgramHeader) → list_any (λ h. covers (fields_of h) a) xs ≡ list_any (λ h. covers h a) (map fields_of xs)
covered-map a [] = refl
covered-map a (x ∷ xs) = ap (λ b. covers (fields_of x) a || b) (covered-map a xs)

pub entry_found : {file : List ℕ} {h : FileHeader} {w : table.Walk} (right : Bool) (ls : List raw.ProgramHeader) → Found file h w
    → right ≡ (list_any (λ g. covers (fields_of g) h.entry) ls && eqb (h.entry % 4) 0) → ls ≡ w.loads.items → is_entry (table_of file).loads (entry file) ≡ right
entry_found {file} {h} right ls f e same =
    sym (e
    ∙ ap (λ (b : Bool). b && eqb (h.entry % 4) 0) (covered-map h.entry ls ∙ ap (λ (xs : List raw.ProgramHeader). list_any (λ g. covers g h.entry) (map fields_of xs)) same)
    ∙ ap (λ (hs : List ProgramHeader). is_entry hs h.entry) (loads_found f)
    ∙ ap (λ (g : FileHeader). is_entry (table_of file).loads g.entry) (sym f.fields))

-- ---- the results of the reader

pub shared : {file : List ℕ} {h : FileHeader} {w : table.Walk} → Found file h w → are_apart [] (table_of file).loads ≡ false → reading file ≡ Err faults.BadSegment
shared {file} f e = reading-shared file f.fine e

pub faulty : {file : List ℕ} {h : FileHeader} {w : table.Walk} (x : ElfFault) → Found file h w → are_apart [] (table_of file).loads ≡ true → w.fault ≡ Some x → reading file ≡ Err x
faulty {file} x f apart e = reading-table_fault file x f.fine apart (sym (fault_found f) ∙ e)

pub astray : {file : List ℕ} {h : FileHeader} {w : table.Walk} → Found file h w → are_apart [] (table_of file).loads ≡ true → w.fault ≡ None → is_entry (table_of file).loads (entry file) ≡ false → reading file ≡ Err faults.BadEntry
astray {file} f apart none e = reading-entry file f.fine apart (sym (fault_found f) ∙ none) e

pub stored : {file : List ℕ} {h : FileHeader} {w : table.Walk} → Found file h w → All (λ g. g.offset + g.file_size ≤ length file) w.loads.items
stored {file} {h} {w} f =
    let ls = w.loads.items in
    let kept : All (λ g. g.offset + g.file_size ≤ length file) (map fields_of ls)
    = subst (All (λ g. g.offset + g.file_size ≤ length file)) (sym (loads_found f)) (stored_all file) in
    λ k d lt.
    subst (λ (g : ProgramHeader). g.offset + g.file_size ≤ length file) (get_or-map fields_of ls k d (fields_of d) lt) (kept k (fields_of d) (omega (arith, length-map ls fields_of)))

-- Returns the image that the program headers describe, with the headers as the reader's code stores them.
abbrev described : List ℕ → FileHeader → table.Walk → ImageContents
described file h w = record { entry = h.entry; segments = map (segment_of file) (map fields_of w.loads.items); note = w.note }

described_is : {file : List ℕ} {h : FileHeader} {w : table.Walk} → Found file h w
    → described file h w ≡ record { entry = entry file; segments = map (segment_of file) (table_of file).loads; note = (table_of file).note }
described_is {file} {h} {w} f =
    ap (λ (hs : List ProgramHeader). record { entry = h.entry; segments = map (segment_of file) hs; note = w.note }) (loads_found f)
    ∙ ap (λ (g : FileHeader). record { entry = g.entry; segments = map (segment_of file) (table_of file).loads; note = w.note }) (sym f.fields)
    ∙ ap (λ (n : Option (ℕ × ℕ)). record { entry = entry file; segments = map (segment_of file) (table_of file).loads; note = n }) (note_found f)

pub outline : {file : List ℕ} {h : FileHeader} {w : table.Walk} → Found file h w → are_apart [] (table_of file).loads ≡ true → w.fault ≡ None → is_entry (table_of file).loads (entry file) ≡ true
    → reading file ≡ Ok (described file h w)
outline {file} f apart none right =
    reading-image file f.fine apart (sym (fault_found f) ∙ none) right ∙ ap (λ (i : ImageContents). Ok i) (sym (described_is f))

pub well_formed : {file : List ℕ} {h : FileHeader} {w : table.Walk} → Found file h w → are_apart [] (table_of file).loads ≡ true → is_entry (table_of file).loads (entry file) ≡ true
    → IsWellFormed (described file h w)
well_formed {file} f apart right = subst IsWellFormed (sym (described_is f)) (is_well_formed file apart right)
