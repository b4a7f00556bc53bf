-- The functions that read the file header, traverse the program headers and test the entry address
-- together implement the rules of the format.
use Rattle.std.proofs.Common.{◌≡◌, ℕ, ◌+◌, ◌≤◌, ◌%◌, Bool, true, false, cond, not, ◌&&◌, ◌||◌, eqb, ltb, leb, List, [], ◌∷◌, ◌++◌, length, map, Option, Some, None, is_some, Ok, Err, refl, sym, ap, ◌∙◌, inl, inr, append_assoc}
use Rattle.std.specs.List.{list_any, AllByRecursion}
use Rattle.std.proofs.lemmas.Bool.{leb-true, eqb-true, and_parts, cases_Bool}
use Rattle.std.proofs.lemmas.List.Elements.{filter-append}
use Rattle.std.proofs.lemmas.List.Folds.{list_any-append}
use Rattle.std.proofs.lemmas.List.{append-nil}
use Rattle.cyc_elf.specs.declared.fault.ElfFault.{ElfFault}
use Rattle.cyc_elf.specs.declared.fault.ElfFault.TheVariants.{BadSegment, BadEntry, Interp}
use Rattle.cyc_elf.specs.Header.{field, ProgramHeader, program_headers, entry}
use Rattle.cyc_elf.specs.Note.{description_size, note_type, note_size, is_named, limits_at, is_note, are_limits}
use Rattle.cyc_elf.specs.Reading.{Rule, broken, first_fault, file_rules, own_rules, is_load, loads, load_rules, note_rules, covers, overlap, overlap_rule, table_rules, entry_rules, rules, segment_of, note_among, named_image, unless, reading}
use Rattle.cyc_elf.specs.inside.Parts.{Walk, step, noted, walk, are_apart}

-- ---- the first fault of a list of rules

abbrev pub or_else : Option ElfFault → Option ElfFault → Option ElfFault
or_else (Some f) later = Some f
or_else None later = later

first_fault-cons : (b : Bool) (f : ElfFault) (o p : Option ElfFault) → cond b (Some f) (or_else o p) ≡ or_else (cond b (Some f) o) p
first_fault-cons true f o p = refl
first_fault-cons false f o p = refl

pub first_fault-append : (xs ys : List Rule) → first_fault (xs ++ ys) ≡ or_else (first_fault xs) (first_fault ys)
first_fault-append [] ys = refl
first_fault-append (r ∷ xs) ys = ap (cond r.is_broken (Some r.fault)) (first_fault-append xs ys) ∙ first_fault-cons r.is_broken r.fault (first_fault xs) (first_fault ys)

-- ---- the rules of a single header

pub own_rules-load : (file : List ℕ) (before : Bool) (h : ProgramHeader) → h.kind ≡ 1 → own_rules file before h ≡ load_rules (length file) h
unfolding own_rules
own_rules-load file before h load =
    ap (λ (k : ℕ). cond (eqb k 3) (broken true Interp ∷ []) (cond (eqb k 1) (load_rules (length file) h) (cond (is_note file h) (note_rules file before h) []))) load

-- Says that a program header is the header of a note with limits on pages and calls.
pub record Described (file : List ℕ) (h : ProgramHeader) : Type 0 where
  pub kind : h.kind ≡ 4
  pub long : 20 ≤ h.file_size
  pub stored : h.offset + h.file_size ≤ length file

pub described : (file : List ℕ) (h : ProgramHeader) → is_note file h ≡ true → Described file h
unfolding is_note
described file h is =
    let all = and_parts (eqb h.kind 4 && leb 20 h.file_size && leb (h.offset + h.file_size) (length file)) (is_named file h.offset) is in
    let three = and_parts (eqb h.kind 4 && leb 20 h.file_size) (leb (h.offset + h.file_size) (length file)) all.0 in
    let two = and_parts (eqb h.kind 4) (leb 20 h.file_size) three.0 in
    record { kind = eqb-true _ _ two.0; long = leb-true _ _ two.1; stored = leb-true _ _ three.1 }

pub own_rules-note : (file : List ℕ) (before : Bool) (h : ProgramHeader) → is_note file h ≡ true → own_rules file before h ≡ note_rules file before h
unfolding own_rules
own_rules-note file before h is =
    ap (λ (k : ℕ). cond (eqb k 3) (broken true Interp ∷ []) (cond (eqb k 1) (load_rules (length file) h) (cond (is_note file h) (note_rules file before h) []))) (described file h is).kind
    ∙ ap (λ b. cond b (note_rules file before h) []) is

-- A program header of a loadable segment is not the header of a note.
pub is_note-load : (file : List ℕ) (h : ProgramHeader) → is_load h ≡ true → is_note file h ≡ false
unfolding is_note
is_note-load file h load = ap (λ (k : ℕ). eqb k 4 && leb 20 h.file_size && leb (h.offset + h.file_size) (length file) && is_named file h.offset) (eqb-true _ _ load)

-- If a file has a second note with limits on pages and calls, this note violates a rule of the format.
breaks : (a b c d : Bool) → first_fault (broken a BadSegment ∷ broken b BadSegment ∷ broken c BadSegment ∷ broken d BadSegment ∷ broken true BadSegment ∷ []) ≡ Some BadSegment
breaks true b c d = refl
breaks false true c d = refl
breaks false false true d = refl
breaks false false false true = refl
breaks false false false false = refl

second_note : (file : List ℕ) (h : ProgramHeader) → is_note file h ≡ true → first_fault (own_rules file true h) ≡ Some BadSegment
second_note file h is =
    ap first_fault (own_rules-note file true h is)
    ∙ breaks (ltb h.file_size note_size) (not (eqb (field 4 (h.offset + 4) file) description_size)) (not (eqb (field 4 (h.offset + 8) file) note_type)) (not (are_limits (limits_at file h.offset)))

-- ---- the table of program headers

-- Returns the fault with which the traversal of the headers ended or, if it ended without one, `BadSegment` if two of the segments overlap.
abbrev pub outcome : Bool → Option ElfFault → Option ElfFault
outcome apart found = cond apart found (Some BadSegment)

loads_push : (earlier : List ProgramHeader) (h : ProgramHeader) → loads (earlier ++ h ∷ []) ≡ cond (is_load h) (loads earlier ++ h ∷ []) (loads earlier)
loads_push earlier h = filter-append is_load earlier (h ∷ []) ∙ taken (is_load h)
  where
    taken : (b : Bool) → loads earlier ++ cond b (h ∷ []) [] ≡ cond b (loads earlier ++ h ∷ []) (loads earlier)
    taken true = refl
    taken false = append-nil (loads earlier)

-- If a header is put in front of a list of headers, the fault of the longer list depends on whether this header overlaps a header of the
-- list.
with_overlap : (any : Bool) (later : Bool) (found : Option ElfFault) → cond any (Some BadSegment) (outcome later found) ≡ outcome (not any && later) found
with_overlap true later found = refl
with_overlap false later found = refl

with_load : (load : Bool) (before : List ProgramHeader) (h : ProgramHeader) (w : Walk)
    → cond (load && list_any (overlap h) before) (Some BadSegment) (outcome (are_apart (cond load (before ++ h ∷ []) before) w.loads) w.fault)
    ≡ outcome (are_apart before (cond load (h ∷ w.loads) w.loads)) w.fault
with_load true before h w = with_overlap (list_any (overlap h) before) (are_apart (before ++ h ∷ []) w.loads) w.fault
with_load false before h w = refl

with_own : (known : Option (ℕ × ℕ)) (o : Option ElfFault) (before : List ProgramHeader) (h : ProgramHeader) (w : Walk)
    → or_else o (cond (is_load h && list_any (overlap h) before) (Some BadSegment) (outcome (are_apart (cond (is_load h) (before ++ h ∷ []) before) w.loads) w.fault))
    ≡ outcome (are_apart before (step known h o w).loads) (step known h o w).fault
with_own known (Some f) before h w = refl
with_own known None before h w = with_load (is_load h) before h w

-- Limits on pages and calls have been found after a program header exactly if that header or an earlier one is a note with limits.
noted_again : (b any : Bool) (known : Option (ℕ × ℕ)) (limits : ℕ × ℕ) → is_some known ≡ any → is_some (cond b (Some limits) known) ≡ (any || (b || false))
noted_again true true known limits same = refl
noted_again true false known limits same = refl
noted_again false true known limits same = same
noted_again false false known limits same = same

still_noted : (file : List ℕ) (known : Option (ℕ × ℕ)) (earlier : List ProgramHeader) (h : ProgramHeader) → is_some known ≡ list_any (is_note file) earlier → is_some (noted file known h) ≡ list_any (is_note file) (earlier ++ h ∷ [])
still_noted file known earlier h same =
    noted_again (is_note file h) (list_any (is_note file) earlier) known (limits_at file h.offset) same ∙ sym (list_any-append (is_note file) earlier (h ∷ []))

pub first_fault-table_rules : (file : List ℕ) (known : Option (ℕ × ℕ)) (earlier headers : List ProgramHeader) → is_some known ≡ list_any (is_note file) earlier
    → first_fault (table_rules file earlier headers) ≡ outcome (are_apart (loads earlier) (walk file known headers).loads) (walk file known headers).fault
first_fault-table_rules file known earlier [] same = refl
first_fault-table_rules file known earlier (h ∷ rest) same =
    let before = loads earlier in
    let w = walk file (noted file known h) rest in
    let later : first_fault (table_rules file (earlier ++ h ∷ []) rest) ≡ outcome (are_apart (cond (is_load h) (before ++ h ∷ []) before) w.loads) w.fault
    = first_fault-table_rules file (noted file known h) (earlier ++ h ∷ []) rest (still_noted file known earlier h same)
    ∙ ap (λ (es : List ProgramHeader). outcome (are_apart es w.loads) w.fault) (loads_push earlier h) in
    first_fault-append (own_rules file (list_any (is_note file) earlier) h) (overlap_rule earlier h ∷ table_rules file (earlier ++ h ∷ []) rest)
    ∙ ap (λ (o : Option ElfFault). or_else (first_fault (own_rules file (list_any (is_note file) earlier) h)) (cond (is_load h && list_any (overlap h) before) (Some BadSegment) o)) later
    ∙ ap (λ b. or_else (first_fault (own_rules file b h)) (cond (is_load h && list_any (overlap h) before) (Some BadSegment) (outcome (are_apart (cond (is_load h) (before ++ h ∷ []) before) w.loads) w.fault))) (sym same)
    ∙ with_own known (first_fault (own_rules file (is_some known) h)) before h w

-- ---- the headers that the walk collects

pub record Keeps (len : ℕ) (h : ProgramHeader) : Type 0 where
  pub load : is_load h ≡ true
  pub own : first_fault (load_rules len h) ≡ None

step_keeps : (file : List ℕ) (known : Option (ℕ × ℕ)) (h : ProgramHeader) (w : Walk) (o : Option ElfFault) (b : Bool) → first_fault (own_rules file (is_some known) h) ≡ o → is_load h ≡ b → AllByRecursion (Keeps (length file)) w.loads → AllByRecursion (Keeps (length file)) (step known h o w).loads
step_keeps file known h w (Some f) b own load rest = tt
step_keeps file known h w None true own load rest =
    let kept : first_fault (load_rules (length file) h) ≡ None = sym (ap first_fault (own_rules-load file (is_some known) h (eqb-true _ _ load))) ∙ own in
    rw load (record { load = load; own = kept }, rest)
step_keeps file known h w None false own load rest = rw load rest

pub walk_keeps : (file : List ℕ) (known : Option (ℕ × ℕ)) (headers : List ProgramHeader) → AllByRecursion (Keeps (length file)) (walk file known headers).loads
walk_keeps file known [] = tt
walk_keeps file known (h ∷ rest) =
    step_keeps file known h (walk file (noted file known h) rest) (first_fault (own_rules file (is_some known) h)) (is_load h) refl refl (walk_keeps file (noted file known h) rest)

step_whole : (known : Option (ℕ × ℕ)) (h : ProgramHeader) (rest : List ProgramHeader) (w : Walk) (o : Option ElfFault) → (w.fault ≡ None → w.loads ≡ loads rest) → (step known h o w).fault ≡ None → (step known h o w).loads ≡ loads (h ∷ rest)
step_whole known h rest w (Some f) later none = absurd cc
step_whole known h rest w None later none = ap (λ (hs : List ProgramHeader). cond (is_load h) (h ∷ hs) hs) (later none)

-- If the traversal of the headers ends without a fault, it has collected all loadable headers.
pub walk_whole : (file : List ℕ) (known : Option (ℕ × ℕ)) (headers : List ProgramHeader) → (walk file known headers).fault ≡ None → (walk file known headers).loads ≡ loads headers
walk_whole file known [] none = refl
walk_whole file known (h ∷ rest) none =
    step_whole known h rest (walk file (noted file known h) rest) (first_fault (own_rules file (is_some known) h)) (walk_whole file (noted file known h) rest) none

-- ---- the note that the walk finds

-- A header with a fault ends the traversal of the header table. After a header without a fault, the traversal
-- continues with the next header.
step_fault : (known : Option (ℕ × ℕ)) (h : ProgramHeader) (w : Walk) (o : Option ElfFault) → (step known h o w).fault ≡ None → (o ≡ None) × (w.fault ≡ None) × ((step known h o w).note ≡ w.note)
step_fault known h w (Some f) none = absurd cc
step_fault known h w None none = (refl, none, refl)

-- If the reader finds no fault, the file has no second note with limits on pages and calls.
only_note : (file : List ℕ) (limits : ℕ × ℕ) (headers : List ProgramHeader) → (walk file (Some limits) headers).fault ≡ None → (walk file (Some limits) headers).note ≡ Some limits
only_note file limits [] none = refl
only_note file limits (h ∷ rest) none =
    let parts = step_fault (Some limits) h (walk file (noted file (Some limits) h) rest) (first_fault (own_rules file true h)) none in
    elim (cases_Bool (is_note file h)) [
      | inl is ↦ let two : Some BadSegment ≡ None = sym (second_note file h is) ∙ parts.0 in absurd cc
      | inr other ↦
          let same : noted file (Some limits) h ≡ Some limits = ap (λ b. cond b (Some (limits_at file h.offset)) (Some limits)) other in
          parts.2 ∙ ap (λ (n : Option (ℕ × ℕ)). (walk file n rest).note) same
          ∙ only_note file limits rest (sym (ap (λ (n : Option (ℕ × ℕ)). (walk file n rest).fault) same) ∙ parts.1)
    ]

-- If the traversal of the headers ends without a fault, the limits that it found are those of the first note with limits.
pub walk_note : (file : List ℕ) (headers : List ProgramHeader) → (walk file None headers).fault ≡ None → (walk file None headers).note ≡ note_among file headers
walk_note file [] none = refl
walk_note file (h ∷ rest) none =
    let parts = step_fault None h (walk file (noted file None h) rest) (first_fault (own_rules file false h)) none in
    elim (cases_Bool (is_note file h)) [
      | inl is ↦
          let here : noted file None h ≡ Some (limits_at file h.offset) = ap (λ b. cond b (Some (limits_at file h.offset)) None) is in
          parts.2 ∙ ap (λ (n : Option (ℕ × ℕ)). (walk file n rest).note) here
          ∙ only_note file (limits_at file h.offset) rest (sym (ap (λ (n : Option (ℕ × ℕ)). (walk file n rest).fault) here) ∙ parts.1)
          ∙ sym (ap (λ b. cond b (Some (limits_at file h.offset)) (note_among file rest)) is)
      | inr other ↦
          let same : noted file None h ≡ None = ap (λ b. cond b (Some (limits_at file h.offset)) None) other in
          parts.2 ∙ ap (λ (n : Option (ℕ × ℕ)). (walk file n rest).note) same
          ∙ walk_note file rest (sym (ap (λ (n : Option (ℕ × ℕ)). (walk file n rest).fault) same) ∙ parts.1)
          ∙ sym (ap (λ b. cond b (Some (limits_at file h.offset)) (note_among file rest)) other)
    ]

-- ---- the whole file

abbrev pub table_of : List ℕ → Walk
table_of file = walk file None (program_headers file)

-- The first fault of a file is the first fault of its file header, if there is one. If the file header has no fault, the file's
-- first fault is that of the program header table or, if there is none, of the entry address.
by_parts : (file : List ℕ) → first_fault (rules file) ≡ or_else (first_fault (file_rules file)) (or_else (outcome (are_apart [] (table_of file).loads) (table_of file).fault) (first_fault (entry_rules (program_headers file) (entry file))))
by_parts file =
    ap first_fault (append_assoc (file_rules file) (table_rules file [] (program_headers file)) (entry_rules (program_headers file) (entry file)))
    ∙ first_fault-append (file_rules file) (table_rules file [] (program_headers file) ++ entry_rules (program_headers file) (entry file))
    ∙ ap (or_else (first_fault (file_rules file)))
    (first_fault-append (table_rules file [] (program_headers file)) (entry_rules (program_headers file) (entry file))
    ∙ ap (λ (o : Option ElfFault). or_else o (first_fault (entry_rules (program_headers file) (entry file)))) (first_fault-table_rules file None [] (program_headers file) refl))

pub reading-file_fault : (file : List ℕ) (f : ElfFault) → first_fault (file_rules file) ≡ Some f → reading file ≡ Err f
unfolding reading
reading-file_fault file f e = rw (by_parts file, e) refl

pub reading-shared : (file : List ℕ) → first_fault (file_rules file) ≡ None → are_apart [] (table_of file).loads ≡ false → reading file ≡ Err BadSegment
unfolding reading
reading-shared file fine shared = rw (by_parts file, fine, shared) refl

pub reading-table_fault : (file : List ℕ) (f : ElfFault) → first_fault (file_rules file) ≡ None → are_apart [] (table_of file).loads ≡ true → (table_of file).fault ≡ Some f → reading file ≡ Err f
unfolding reading
reading-table_fault file f fine apart found = rw (by_parts file, fine, apart, found) refl

-- Returns true if the entry address is a multiple of 4 and lies in the segment of a loadable header.
abbrev pub is_entry : List ProgramHeader → ℕ → Bool
is_entry headers address = list_any (λ h. covers h address) headers && eqb (address % 4) 0

entry_fault : (covered word : Bool) → first_fault (broken (not covered) BadEntry ∷ broken (not word) BadEntry ∷ []) ≡ cond (covered && word) None (Some BadEntry)
entry_fault true true = refl
entry_fault true false = refl
entry_fault false word = refl

first_fault-entry_rules : (headers : List ProgramHeader) (address : ℕ) → first_fault (entry_rules headers address) ≡ cond (is_entry (loads headers) address) None (Some BadEntry)
unfolding entry_rules
first_fault-entry_rules headers address = entry_fault (list_any (λ h. covers h address) (loads headers)) (eqb (address % 4) 0)

pub reading-entry : (file : List ℕ) → first_fault (file_rules file) ≡ None → are_apart [] (table_of file).loads ≡ true → (table_of file).fault ≡ None → is_entry (table_of file).loads (entry file) ≡ false → reading file ≡ Err BadEntry
unfolding reading
reading-entry file fine apart found wrong =
    let here : is_entry (loads (program_headers file)) (entry file) ≡ false = ap (λ (hs : List ProgramHeader). is_entry hs (entry file)) (sym (walk_whole file None (program_headers file) found)) ∙ wrong in
    rw (by_parts file, fine, apart, found, first_fault-entry_rules (program_headers file) (entry file), here) refl

pub reading-image : (file : List ℕ) → first_fault (file_rules file) ≡ None → are_apart [] (table_of file).loads ≡ true → (table_of file).fault ≡ None → is_entry (table_of file).loads (entry file) ≡ true
    → reading file ≡ Ok (record { entry = entry file; segments = map (segment_of file) (table_of file).loads; note = (table_of file).note })
unfolding reading
reading-image file fine apart found right =
    let same = walk_whole file None (program_headers file) found in
    let here : is_entry (loads (program_headers file)) (entry file) ≡ true = ap (λ (hs : List ProgramHeader). is_entry hs (entry file)) (sym same) ∙ right in
    let none : first_fault (rules file) ≡ None = rw (by_parts file, fine, apart, found, first_fault-entry_rules (program_headers file) (entry file), here) refl in
    ap (λ (o : Option ElfFault). unless o (named_image file)) none
    ∙ ap (λ (hs : List ProgramHeader). Ok (record { entry = entry file; segments = map (segment_of file) hs; note = note_among file (program_headers file) })) (sym same)
    ∙ ap (λ (n : Option (ℕ × ℕ)). Ok (record { entry = entry file; segments = map (segment_of file) (table_of file).loads; note = n })) (sym (walk_note file (program_headers file) found))
