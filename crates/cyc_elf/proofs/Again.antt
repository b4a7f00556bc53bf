-- If the reader reads a file that the writer wrote, it returns the image that was written.
use Rattle.std.proofs.Common.{◌≡◌, ℕ, suc, ◌+◌, ◌-◌, ◌*◌, ◌^◌, ◌<◌, ◌≤◌, true, false, List, [], ◌∷◌, ◌++◌, length, map, take, drop, replicate, Option, Some, None, is_some, IfSome, Ok, All, refl, sym, ap, subst, ◌∙◌, append_assoc, arith}
use Rattle.std.specs.Prelude.{nat_eq}
use Rattle.std.specs.List.{flat_map, list_any, starts_with, AllByRecursion}
use Rattle.std.proofs.Math.Seq.{drop-append-add}
use Rattle.std.proofs.lemmas.Bool.{le-ltb, le-leb, eqb-true, eq-eqb, and_from}
use Rattle.std.proofs.lemmas.List.{drop_at, take_at, get_or-map, length-append, length-map, length-replicate, append-nil}
use Rattle.std.proofs.lemmas.List.Concat.{flat_map-cons}
use Rattle.std.proofs.lemmas.Grind.{flat_map-append}
use Rattle.std.proofs.lemmas.List.Elements.{recursion_from_All}
use Rattle.byteorder.specs.Endian.{big_number}
use Rattle.byteorder.specs.Numbers.{big_number-reads_back}
use Rattle.cyc_elf.specs.declared.image.Image.{Image}
use Rattle.cyc_elf.specs.declared.image.Segment.{Segment}
use Rattle.cyc_elf.specs.Header.{ProgramHeader, ident, field, program_header_at, headers_from, program_headers, object_type, machine, version, entry, table_offset, header_size, header_count}
use Rattle.cyc_elf.specs.Image.{SegmentContents, ImageContents, segment_contents, contents_of, padded, IsSegment, IsWellFormed}
use Rattle.cyc_elf.specs.Note.{note_name, is_named, limits_at, is_note, AreLimits}
use Rattle.cyc_elf.specs.Layout.{file_header, program_header, header_of, headers_of, stored, bytes_end, note_header, note_headers, note_bytes, notes, note_count, headers_count, bytes_start, note_start, laid_headers, layout, FitsFields}
use Rattle.cyc_elf.specs.Reading.{first_fault, file_rules, own_rules, covers, segment_of, reading}
use Rattle.cyc_elf.specs.inside.Parts.{Walk, IsInWords, walk, are_apart}
use Rattle.cyc_elf.proofs.Rules.{Keeps, own_rules-load, own_rules-note, is_note-load, table_of, is_entry, reading-image}
use Rattle.cyc_elf.proofs.Walks.{with_front}
use Rattle.cyc_elf.proofs.Sound.{keeps_from_kept, are_limits-from, are_apart_from_pairs, covered_from_held}

-- ---- fields

-- If a file begins with `place` other bytes, a header field after them has the same value as at the start of a file without these bytes.
field-following : (width offset place : ℕ) (front rest : List ℕ) → length front ≡ place → field width (place + offset) (front ++ rest) ≡ field width offset rest
unfolding field
field-following width offset place front rest len =
    ap (big_number width) (ap (λ (p : ℕ). drop (p + offset) (front ++ rest)) (sym len) ∙ drop-append-add front rest offset)

-- If a header field comes directly after other bytes, it has the same value as at the start of a file without these bytes.
field-right_after : (width place : ℕ) (front rest : List ℕ) → length front ≡ place → field width place (front ++ rest) ≡ field width 0 rest
unfolding field
field-right_after width place front rest len = ap (big_number width) (drop_at front rest place len)

-- ---- a program header

length-program_header : (h : ProgramHeader) → length (program_header h) ≡ 32
unfolding program_header
length-program_header h = refl

kind_again : (h : ProgramHeader) (rest : List ℕ) → IsInWords h → field 4 0 (program_header h ++ rest) ≡ h.kind
unfolding field program_header
kind_again h rest fits = big_number-reads_back 4 h.kind (drop 4 (program_header h ++ rest)) fits.kind

offset_again : (h : ProgramHeader) (rest : List ℕ) → IsInWords h → field 4 4 (program_header h ++ rest) ≡ h.offset
unfolding field program_header
offset_again h rest fits = big_number-reads_back 4 h.offset (drop 8 (program_header h ++ rest)) fits.offset

vaddr_again : (h : ProgramHeader) (rest : List ℕ) → IsInWords h → field 4 8 (program_header h ++ rest) ≡ h.vaddr
unfolding field program_header
vaddr_again h rest fits = big_number-reads_back 4 h.vaddr (drop 12 (program_header h ++ rest)) fits.vaddr

file_size_again : (h : ProgramHeader) (rest : List ℕ) → IsInWords h → field 4 16 (program_header h ++ rest) ≡ h.file_size
unfolding field program_header
file_size_again h rest fits = big_number-reads_back 4 h.file_size (drop 20 (program_header h ++ rest)) fits.file_size

memory_size_again : (h : ProgramHeader) (rest : List ℕ) → IsInWords h → field 4 20 (program_header h ++ rest) ≡ h.memory_size
unfolding field program_header
memory_size_again h rest fits = big_number-reads_back 4 h.memory_size (drop 24 (program_header h ++ rest)) fits.memory_size

flags_again : (h : ProgramHeader) (rest : List ℕ) → IsInWords h → field 4 24 (program_header h ++ rest) ≡ h.flags
unfolding field program_header
flags_again h rest fits = big_number-reads_back 4 h.flags (drop 28 (program_header h ++ rest)) fits.flags

header_again : (h : ProgramHeader) (place : ℕ) (front rest : List ℕ) → IsInWords h → length front ≡ place → program_header_at (front ++ (program_header h ++ rest)) place ≡ h
unfolding program_header_at
header_again h place front rest fits len =
    let ys = program_header h ++ rest in
    rw (
      field-right_after 4 place front ys len,
      kind_again h rest fits,
      field-following 4 4 place front ys len,
      offset_again h rest fits,
      field-following 4 8 place front ys len,
      vaddr_again h rest fits,
      field-following 4 16 place front ys len,
      file_size_again h rest fits,
      field-following 4 20 place front ys len,
      memory_size_again h rest fits,
      field-following 4 24 place front ys len,
      flags_again h rest fits,
    ) refl

-- ---- the table of program headers

table_again : (file : List ℕ) (hs : List ProgramHeader) (place : ℕ) (front rest : List ℕ) → length front ≡ place → AllByRecursion IsInWords hs → file ≡ front ++ (flat_map program_header hs ++ rest) → headers_from file place (length hs) ≡ hs
unfolding headers_from
table_again file [] place front rest len fits is = refl
table_again file (h ∷ hs) place front rest len fits is =
    let later = flat_map program_header hs ++ rest in
    let here : file ≡ front ++ (program_header h ++ later)
    = is ∙ ap (λ (ys : List ℕ). front ++ (ys ++ rest)) (flat_map-cons program_header h hs) ∙ ap (λ (ys : List ℕ). front ++ ys) (append_assoc (program_header h) (flat_map program_header hs) rest) in
    let following : file ≡ (front ++ program_header h) ++ later = here ∙ sym (append_assoc front (program_header h) later) in
    let len' : length (front ++ program_header h) ≡ place + 32 = omega (arith, length-append front (program_header h), length-program_header h) in
    let first : program_header_at file place ≡ h = ap (λ (ys : List ℕ). program_header_at ys place) here ∙ header_again h place front later fits.0 len in
    let others = table_again file hs (place + 32) (front ++ program_header h) rest len' fits.1 following in
    rw (first, others) refl

-- ---- the bytes of segments

length-stored : (s : SegmentContents) → length (stored s) ≡ padded (length s.bytes)
length-stored s = omega (arith, length-append s.bytes (replicate (padded (length s.bytes) - length s.bytes) 0), length-replicate {A = ℕ} (padded (length s.bytes) - length s.bytes) 0)

-- In the written file, the bytes of each segment begin at the offset that its header gives.
stands_at : (file : List ℕ) (s : SegmentContents) (rest : List SegmentContents) (front following : List ℕ) → file ≡ front ++ (flat_map stored (s ∷ rest) ++ following)
    → file ≡ front ++ (s.bytes ++ (replicate (padded (length s.bytes) - length s.bytes) 0 ++ (flat_map stored rest ++ following)))
stands_at file s rest front following is =
    is
    ∙ ap (λ (ys : List ℕ). front ++ (ys ++ following)) (flat_map-cons stored s rest)
    ∙ ap (λ (ys : List ℕ). front ++ ys) (append_assoc (stored s) (flat_map stored rest) following ∙ append_assoc s.bytes (replicate (padded (length s.bytes) - length s.bytes) 0) (flat_map stored rest ++ following))

next_stands : (file : List ℕ) (s : SegmentContents) (rest : List SegmentContents) (front following : List ℕ) → file ≡ front ++ (flat_map stored (s ∷ rest) ++ following) → file ≡ (front ++ stored s) ++ (flat_map stored rest ++ following)
next_stands file s rest front following is =
    is
    ∙ ap (λ (ys : List ℕ). front ++ (ys ++ following)) (flat_map-cons stored s rest)
    ∙ ap (λ (ys : List ℕ). front ++ ys) (append_assoc (stored s) (flat_map stored rest) following)
    ∙ sym (append_assoc front (stored s) (flat_map stored rest ++ following))

next_length : (offset : ℕ) (s : SegmentContents) (front : List ℕ) → length front ≡ offset → length (front ++ stored s) ≡ offset + padded (length s.bytes)
next_length offset s front len = omega (arith, length-append front (stored s), length-stored s)

segments_again : (file : List ℕ) (ss : List SegmentContents) (offset : ℕ) (front following : List ℕ) → length front ≡ offset → file ≡ front ++ (flat_map stored ss ++ following) → map (segment_of file) (headers_of offset ss) ≡ ss
segments_again file [] offset front following len is = refl
segments_again file (s ∷ ss) offset front following len is =
    let later = replicate (padded (length s.bytes) - length s.bytes) 0 ++ (flat_map stored ss ++ following) in
    let bytes : take (length s.bytes) (drop offset file) ≡ s.bytes
    = ap (λ (ys : List ℕ). take (length s.bytes) (drop offset ys)) (stands_at file s ss front following is)
    ∙ ap (take (length s.bytes)) (drop_at front (s.bytes ++ later) offset len)
    ∙ take_at s.bytes later (length s.bytes) refl in
    let others = segments_again file ss (offset + padded (length s.bytes)) (front ++ stored s) following (next_length offset s front len) (next_stands file s ss front following is) in
    ap (λ (b : List ℕ). record { vaddr = s.vaddr; flags = s.flags; bytes = b; size = s.size } ∷ map (segment_of file) (headers_of (offset + padded (length s.bytes)) ss)) bytes
    ∙ ap (λ (r : List SegmentContents). s ∷ r) others

keeps_again : (file : List ℕ) (ss : List SegmentContents) (offset : ℕ) (front following : List ℕ) → length front ≡ offset → file ≡ front ++ (flat_map stored ss ++ following) → AllByRecursion IsSegment ss → AllByRecursion (Keeps (length file)) (headers_of offset ss)
keeps_again file [] offset front following len is each = tt
keeps_again file (s ∷ ss) offset front following len is each =
    let later = replicate (padded (length s.bytes) - length s.bytes) 0 ++ (flat_map stored ss ++ following) in
    let inside : offset + length s.bytes ≤ length file = omega (arith, ap length (stands_at file s ss front following is), length-append front (s.bytes ++ later), length-append s.bytes later, len) in (
      keeps_from_kept (length file) (header_of offset s) (record { load = refl; fits = each.0.stored; ends = each.0.in_memory; word = each.0.aligned; stored = inside }),
      keeps_again file ss (offset + padded (length s.bytes)) (front ++ stored s) following (next_length offset s front len) (next_stands file s ss front following is) each.1,
    )

-- The file offset just past the segments' bytes is the start offset plus the length of the padded bytes.
bytes_end-length : (offset : ℕ) (ss : List SegmentContents) → bytes_end offset ss ≡ offset + length (flat_map stored ss)
bytes_end-length offset [] = omega arith
bytes_end-length offset (s ∷ ss) =
    omega (arith, bytes_end-length (offset + padded (length s.bytes)) ss, ap length (flat_map-cons stored s ss), length-append (stored s) (flat_map stored ss), length-stored s)

-- If loadable headers satisfy the rules of the format, the traversal of the header table finds all of them and continues after them.
walk_loads : (file : List ℕ) (known : Option (ℕ × ℕ)) (hs rest : List ProgramHeader) → AllByRecursion (Keeps (length file)) hs → walk file known (hs ++ rest) ≡ with_front hs (walk file known rest)
walk_loads file known [] rest keeps = refl
walk_loads file known (h ∷ hs) rest keeps =
    let own : first_fault (own_rules file (is_some known) h) ≡ None
    = ap first_fault (own_rules-load file (is_some known) h (eqb-true _ _ keeps.0.load)) ∙ keeps.0.own in
    rw (own, is_note-load file h keeps.0.load, keeps.0.load, walk_loads file known hs rest keeps.1) refl

-- ---- the note

length-note_bytes : (limits : ℕ × ℕ) → length (note_bytes limits) ≡ 28
unfolding note_bytes
length-note_bytes limits = refl

pages_again : (limits : ℕ × ℕ) → limits.0 < 2 ^ 32 → field 4 20 (note_bytes limits) ≡ limits.0
unfolding field note_bytes
pages_again limits fits = big_number-reads_back 4 limits.0 (drop 24 (note_bytes limits)) fits

calls_again : (limits : ℕ × ℕ) → limits.1 < 2 ^ 32 → field 4 24 (note_bytes limits) ≡ limits.1
unfolding field note_bytes
calls_again limits fits = big_number-reads_back 4 limits.1 (drop 28 (note_bytes limits)) fits

-- The constant fields of a written note have the required values.
fixed_again : (limits : ℕ × ℕ) → (field 4 0 (note_bytes limits) ≡ 8) × (field 4 4 (note_bytes limits) ≡ 8) × (field 4 8 (note_bytes limits) ≡ 1) × (starts_with nat_eq (drop 12 (note_bytes limits)) note_name ≡ true)
unfolding field note_bytes
fixed_again limits = (refl, refl, refl, refl)

-- A written note is recognized by the reader, no matter what bytes come before the note.
record NoteAgain (limits : ℕ × ℕ) (place : ℕ) (file : List ℕ) : Type 0 where
  named : is_named file place ≡ true
  description : field 4 (place + 4) file ≡ 8
  kind : field 4 (place + 8) file ≡ 1
  limits_are : limits_at file place ≡ limits
  stored : place + 28 ≤ length file

note_again : (limits : ℕ × ℕ) (place : ℕ) (front : List ℕ) → length front ≡ place → AreLimits limits → NoteAgain limits place (front ++ note_bytes limits)
unfolding is_named limits_at
note_again limits place front len fit =
    let xs = note_bytes limits in
    let fixed = fixed_again limits in
    let name : drop (place + 12) (front ++ xs) ≡ drop 12 xs = ap (λ (p : ℕ). drop (p + 12) (front ++ xs)) (sym len) ∙ drop-append-add front xs 12 in
    record {
      named = rw (field-right_after 4 place front xs len, fixed.0, name, fixed.3) refl;
      description = field-following 4 4 place front xs len ∙ fixed.1;
      kind = field-following 4 8 place front xs len ∙ fixed.2;
      limits_are = rw (
        field-following 4 20 place front xs len,
        pages_again limits (omega (arith, fit.few_pages)),
        field-following 4 24 place front xs len,
        calls_again limits (omega (arith, fit.few_calls)),
      ) refl;
      stored = omega (arith, length-append front xs, length-note_bytes limits, len);
    }

is_note_again : (limits : ℕ × ℕ) (place : ℕ) (file : List ℕ) → NoteAgain limits place file → is_note file (note_header place) ≡ true
unfolding is_note
is_note_again limits place file n = rw (le-leb (place + 28) (length file) n.stored, n.named) refl

note_rules_again : (limits : ℕ × ℕ) (place : ℕ) (file : List ℕ) → NoteAgain limits place file → AreLimits limits → first_fault (own_rules file false (note_header place)) ≡ None
note_rules_again limits place file n fit =
    ap first_fault (own_rules-note file false (note_header place) (is_note_again limits place file n))
    ∙ rw (n.description, n.kind, n.limits_are, are_limits-from limits fit) refl

-- The traversal of the header table finds the limits on pages and calls that a note states when it reaches the note's header.
walk_notes : (file : List ℕ) (known : Option (ℕ × ℕ)) (place : ℕ) (front : List ℕ) → length front ≡ place → file ≡ front ++ notes known → IfSome known AreLimits
    → walk file None (note_headers place known) ≡ record { loads = []; note = known; fault = None }
walk_notes file None place front len is fit = refl
walk_notes file (Some limits) place front len is fit =
    let n : NoteAgain limits place file = subst (NoteAgain limits place) (sym is) (note_again limits place front len fit) in
    rw (note_rules_again limits place file n fit, is_note_again limits place file n, n.limits_are) refl

-- ---- the file header

length-file_header : (address count : ℕ) → length (file_header address count) ≡ 52
unfolding file_header
length-file_header address count = refl

-- Says that the reader recognizes a written file header, no matter what bytes follow the header.
record HeaderAgain (address count : ℕ) (file : List ℕ) : Type 0 where
  start : starts_with nat_eq file ident ≡ true
  kind : object_type file ≡ 2
  mips : machine file ≡ 8
  one : version file ≡ 1
  address_is : entry file ≡ address
  table_is : table_offset file ≡ 52
  size_is : header_size file ≡ 32
  count_is : header_count file ≡ count

file_header_again : (address count : ℕ) (rest : List ℕ) → address < 2 ^ 32 → count < 2 ^ 16 → HeaderAgain address count (file_header address count ++ rest)
unfolding field file_header
file_header_again address count rest fits few = record {
  start = refl;
  kind = refl;
  mips = refl;
  one = refl;
  address_is = big_number-reads_back 4 address (drop 28 (file_header address count ++ rest)) fits;
  table_is = refl;
  size_is = refl;
  count_is = big_number-reads_back 2 count (drop 46 (file_header address count ++ rest)) few;
}

file_rules_again : (address count : ℕ) (file : List ℕ) → HeaderAgain address count file → 52 + 32 * count ≤ length file → first_fault (file_rules file) ≡ None
unfolding file_rules
file_rules_again address count file h room =
    rw (
      le-ltb (length file) 52 (omega arith),
      h.start,
      h.kind,
      h.mips,
      h.one,
      h.size_is,
      h.table_is,
      h.count_is,
      le-ltb (length file) (52 + 32 * count) room,
    ) refl

-- ---- the whole file

-- The bytes of the table of program headers, and the other portions of the file layout of an image after its file header.
abbrev table : ImageContents → List ℕ
table i = flat_map program_header (laid_headers i)

abbrev bytes : ImageContents → List ℕ
bytes i = flat_map stored i.segments

layout-front : (i : ImageContents) → layout i ≡ (file_header i.entry (headers_count i) ++ table i) ++ (bytes i ++ notes i.note)
unfolding layout
layout-front i = append_assoc (file_header i.entry (headers_count i) ++ table i) (bytes i) (notes i.note)

layout-parts : (i : ImageContents) → layout i ≡ file_header i.entry (headers_count i) ++ (table i ++ (bytes i ++ notes i.note))
layout-parts i = layout-front i ∙ append_assoc (file_header i.entry (headers_count i)) (table i) (bytes i ++ notes i.note)

layout-note : (i : ImageContents) → layout i ≡ ((file_header i.entry (headers_count i) ++ table i) ++ bytes i) ++ notes i.note
unfolding layout
layout-note i = refl

length-headers_of : (offset : ℕ) (ss : List SegmentContents) → length (headers_of offset ss) ≡ length ss
length-headers_of offset [] = refl
length-headers_of offset (s ∷ ss) = ap suc (length-headers_of (offset + padded (length s.bytes)) ss)

length-table : (hs : List ProgramHeader) → length (flat_map program_header hs) ≡ 32 * length hs
length-table [] = refl
length-table (h ∷ hs) =
    ap length (flat_map-cons program_header h hs)
    ∙ omega (arith, length-append (program_header h) (flat_map program_header hs), length-program_header h, length-table hs)

length-note_headers : (place : ℕ) (known : Option (ℕ × ℕ)) → length (note_headers place known) ≡ note_count known
length-note_headers place None = refl
length-note_headers place (Some limits) = refl

-- Says that reading the written file yields the values of the file header's fields, and the program
-- headers, segments and limits that they describe.
record Laid (i : ImageContents) : Type 0 where
  fine : first_fault (file_rules (layout i)) ≡ None
  entry_is : entry (layout i) ≡ i.entry
  walked : table_of (layout i) ≡ record { loads = headers_of (bytes_start i) i.segments; note = i.note; fault = None }
  segments_are : map (segment_of (layout i)) (headers_of (bytes_start i) i.segments) ≡ i.segments

laid : (i : ImageContents) → IsWellFormed i → FitsFields i → i.entry < 2 ^ 32 → All IsInWords (laid_headers i) → Laid i
laid i good fits address words =
    let count = headers_count i in
    let hs = headers_of (bytes_start i) i.segments in
    let ns = note_headers (note_start i) i.note in
    let front = file_header i.entry count in
    let many : length (hs ++ ns) ≡ count = omega (arith, length-append hs ns, length-headers_of (bytes_start i) i.segments, length-note_headers (note_start i) i.note) in
    let h : HeaderAgain i.entry count (layout i)
    = subst (HeaderAgain i.entry count) (sym (layout-parts i)) (file_header_again i.entry count (table i ++ (bytes i ++ notes i.note)) address fits.count) in
    let start : length (front ++ table i) ≡ bytes_start i
    = omega (arith, length-append front (table i), length-file_header i.entry count, length-table (hs ++ ns), many) in
    let end : length ((front ++ table i) ++ bytes i) ≡ note_start i
    = omega (arith, length-append (front ++ table i) (bytes i), start, bytes_end-length (bytes_start i) i.segments) in
    let room : 52 + 32 * count ≤ length (layout i)
    = omega (arith, ap length (layout-front i), length-append (front ++ table i) (bytes i ++ notes i.note), start) in
    let headers : program_headers (layout i) ≡ hs ++ ns
    = ap (λ (place : ℕ). headers_from (layout i) place (header_count (layout i))) h.table_is
    ∙ ap (headers_from (layout i) 52) (h.count_is ∙ sym many)
    ∙ table_again (layout i) (hs ++ ns) 52 front (bytes i ++ notes i.note) (length-file_header i.entry count) (recursion_from_All IsInWords (hs ++ ns) words) (layout-parts i) in
    let keeps = keeps_again (layout i) i.segments (bytes_start i) (front ++ table i) (notes i.note) start (layout-front i) (recursion_from_All IsSegment i.segments good.each) in
    record {
      fine = file_rules_again i.entry count (layout i) h room;
      entry_is = h.address_is;
      walked = ap (walk (layout i) None) headers
          ∙ walk_loads (layout i) None hs ns keeps
          ∙ ap (with_front hs) (walk_notes (layout i) i.note (note_start i) ((front ++ table i) ++ bytes i) end (layout-note i) good.note)
          ∙ ap (λ (gs : List ProgramHeader). record { loads = gs; note = i.note; fault = None }) (append-nil hs);
      segments_are = segments_again (layout i) i.segments (bytes_start i) (front ++ table i) (notes i.note) start (layout-front i);
    }

pub reading-layout : (i : ImageContents) → IsWellFormed i → FitsFields i → i.entry < 2 ^ 32 → All IsInWords (laid_headers i) → reading (layout i) ≡ Ok i
reading-layout i good fits address words =
    let l = laid i good fits address words in
    let hs = headers_of (bytes_start i) i.segments in
    let found : (table_of (layout i)).loads ≡ hs = ap (λ (w : Walk). w.loads) l.walked in
    let apart : are_apart [] (table_of (layout i)).loads ≡ true
    = ap (are_apart []) found ∙ are_apart_from_pairs (layout i) hs (rw l.segments_are good.apart) in
    let covered : list_any (λ h. covers h i.entry) hs ≡ true
    = covered_from_held (layout i) hs i.entry (rw l.segments_are good.entry_held) in
    let right : is_entry (table_of (layout i)).loads (entry (layout i)) ≡ true
    = ap (λ (gs : List ProgramHeader). is_entry gs (entry (layout i))) found ∙ ap (is_entry hs) l.entry_is ∙ and_from _ _ covered (eq-eqb _ _ good.entry_aligned) in
    reading-image (layout i) l.fine apart (ap (λ (w : Walk). w.fault) l.walked) right
    ∙ ap (λ (w : Walk). Ok (record { entry = entry (layout i); segments = map (segment_of (layout i)) w.loads; note = w.note })) l.walked
    ∙ ap (λ (a : ℕ). Ok (record { entry = a; segments = map (segment_of (layout i)) hs; note = i.note })) l.entry_is
    ∙ ap (λ (ss : List SegmentContents). Ok (record { entry = i.entry; segments = ss; note = i.note })) l.segments_are

-- ---- an image as the code stores it

pub each_stored : (i : Image) (segments : List Segment) → IsWellFormed (contents_of i) → segments ≡ i.segments.items → All (λ s. length s.bytes.items ≤ s.size) segments
each_stored i segments good same =
    subst (All (λ s. length s.bytes.items ≤ s.size)) (sym same)
    (λ k d lt. subst (λ (s : SegmentContents). length s.bytes ≤ s.size) (get_or-map segment_contents i.segments.items k d (segment_contents d) lt)
    (good.each k (segment_contents d) (omega (arith, length-map i.segments.items segment_contents))).stored)

-- The number of program headers that the writer's code computes is the specified one.
pub headers_counted : (i : Image) (len more : ℕ) (segments : List Segment) → len ≡ length segments → more ≡ note_count i.note → segments ≡ i.segments.items → len + more ≡ headers_count (contents_of i)
headers_counted i len more segments many one same = omega (arith, many, one, ap length same, length-map i.segments.items segment_contents)

-- The written file consists of five parts in sequence: the file header, the segments' program headers, the note's program header, the
-- segments' bytes, and the note.
pub written : (i : ImageContents) (a b c d e : List ℕ) → a ≡ file_header i.entry (headers_count i)
    → b ≡ a ++ flat_map program_header (headers_of (bytes_start i) i.segments)
    → c ≡ b ++ flat_map program_header (note_headers (note_start i) i.note)
    → d ≡ c ++ flat_map stored i.segments
    → e ≡ d ++ notes i.note
    → e ≡ layout i
unfolding layout
written i a b c d e first second third fourth fifth =
    let hs = headers_of (bytes_start i) i.segments in
    let ns = note_headers (note_start i) i.note in
    let headers : c ≡ file_header i.entry (headers_count i) ++ table i
    = third
    ∙ ap (λ (ys : List ℕ). ys ++ flat_map program_header ns) (second ∙ ap (λ (ys : List ℕ). ys ++ flat_map program_header hs) first)
    ∙ append_assoc (file_header i.entry (headers_count i)) (flat_map program_header hs) (flat_map program_header ns)
    ∙ ap (λ (ys : List ℕ). file_header i.entry (headers_count i) ++ ys) (sym (flat_map-append program_header hs ns)) in
    fifth ∙ ap (λ (ys : List ℕ). ys ++ notes i.note) (fourth ∙ ap (λ (ys : List ℕ). ys ++ bytes i) headers)
