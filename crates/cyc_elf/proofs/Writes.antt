-- The writer's loop over the segments, and the program headers of segments and of the note.
use Rattle.std.proofs.Common.{◌≡◌, ℕ, ◌+◌, ◌^◌, ◌<◌, List, [], ◌∷◌, ◌++◌, length, map, get_or, drop, All, refl, sym, ap, subst, ◌∙◌, append_assoc, add-one, drop-cons}
use Rattle.std.specs.List.{flat_map}
use Rattle.std.proofs.lemmas.List.Concat.{flat_map-cons}
use Rattle.std.proofs.lemmas.List.Elements.{All-nil, All-cons, All-head, All-tail}
use Rattle.cyc_elf.specs.declared.image.Segment.{Segment}
use Rattle.cyc_elf.specs.Header.{ProgramHeader}
use Rattle.cyc_elf.specs.Image.{segment_contents, padded}
use Rattle.cyc_elf.specs.Layout.{program_header, header_of, headers_of, bytes_end}
use Rattle.cyc_elf.specs.inside.Parts.{IsInWords}

-- Returns the program headers still to be written, from the segment at an index on.
abbrev pub headers_left : (offset i : ℕ) → List Segment → List ProgramHeader
headers_left offset i xs = headers_of offset (map segment_contents (drop i xs))

pub headers_left-at : (xs : List Segment) (i offset : ℕ) (x : Segment) → i < length xs → x ≡ get_or xs i x
    → headers_left offset i xs ≡ header_of offset (segment_contents x) ∷ headers_left (offset + padded (length x.bytes.items)) (i + 1) xs
headers_left-at xs i offset x lt here =
    let split : drop i xs ≡ x ∷ drop (i + 1) xs = rw add-one (drop-cons xs i x lt ∙ rw (← here) refl) in
    ap (λ (ys : List Segment). headers_of offset (map segment_contents ys)) split

-- The segments' bytes, from the segment at an index on, end at the same file offset if this segment's padded length is
-- first added to the offset.
pub bytes_end-at : (xs : List Segment) (i offset : ℕ) (x : Segment) → i < length xs → x ≡ get_or xs i x
    → bytes_end offset (map segment_contents (drop i xs)) ≡ bytes_end (offset + padded (length x.bytes.items)) (map segment_contents (drop (i + 1) xs))
bytes_end-at xs i offset x lt here =
    let split : drop i xs ≡ x ∷ drop (i + 1) xs = rw add-one (drop-cons xs i x lt ∙ rw (← here) refl) in
    ap (λ (ys : List Segment). bytes_end offset (map segment_contents ys)) split

-- Loop invariant of writing program headers: `rest` are the headers still to be written, and their offsets fit in 32 bits. The
-- bytes written so far, followed by the bytes of `rest`, are `start` followed by the bytes of all headers. If the fields of the
-- headers in `rest` fit in four bytes each, so do the fields of all headers.
pub record IsAt (out start : List ℕ) (rest whole : List ProgramHeader) : Type 0 where
  pub fit : All (λ h. h.offset < 2 ^ 32) rest
  pub bytes : out ++ flat_map program_header rest ≡ start ++ flat_map program_header whole
  pub words : All IsInWords rest → All IsInWords whole

-- After one more program header is written, the invariant of the loop that writes program headers still holds.
pub is_at_next : (out after start : List ℕ) (h : ProgramHeader) (rest rest' whole : List ProgramHeader) → rest ≡ h ∷ rest' → after ≡ out ++ program_header h → IsInWords h → IsAt out start rest whole → IsAt after start rest' whole
is_at_next out after start h rest rest' whole split put fits at =
    let fit : All (λ g. g.offset < 2 ^ 32) (h ∷ rest') = subst (All (λ g. g.offset < 2 ^ 32)) split at.fit in
    record {
      fit = All-tail (λ g. g.offset < 2 ^ 32) h rest' fit;
      bytes = ap (λ (ys : List ℕ). ys ++ flat_map program_header rest') put
          ∙ append_assoc out (program_header h) (flat_map program_header rest')
          ∙ ap (λ (ys : List ℕ). out ++ ys) (sym (flat_map-cons program_header h rest'))
          ∙ ap (λ (hs : List ProgramHeader). out ++ flat_map program_header hs) (sym split)
          ∙ at.bytes;
      words = λ all. at.words (subst (All IsInWords) (sym split) (All-cons IsInWords h rest' fits all));
    }

-- The file offset of the next segment's bytes fits its header field.
pub offset_fits : (out start : List ℕ) (h : ProgramHeader) (rest rest' whole : List ProgramHeader) → rest ≡ h ∷ rest' → IsAt out start rest whole → h.offset < 2 ^ 32
offset_fits out start h rest rest' whole split at =
    All-head (λ g. g.offset < 2 ^ 32) h rest' (subst (All (λ g. g.offset < 2 ^ 32)) split at.fit)

-- ---- properties of all headers, of segments and of a note

pub All-left : {X : Type 0} (P : X → Type 0) (xs ys : List X) → All P (xs ++ ys) → All P xs
All-left P [] ys all = All-nil P
All-left P (x ∷ xs) ys all = All-cons P x xs (All-head P x (xs ++ ys) all) (All-left P xs ys (All-tail P x (xs ++ ys) all))

pub All-right : {X : Type 0} (P : X → Type 0) (xs ys : List X) → All P (xs ++ ys) → All P ys
All-right P [] ys all = all
All-right P (x ∷ xs) ys all = All-right P xs ys (All-tail P x (xs ++ ys) all)
