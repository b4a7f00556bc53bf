-- If the tests of the program headers find no violated rule of the format, then the image is well-formed.
use Rattle.std.proofs.Common.{◌≡◌, ℕ, zero, suc, ◌+◌, ◌%◌, ◌^◌, ◌<◌, ◌≤◌, Bool, true, false, cond, not, ◌&&◌, ◌||◌, eqb, ltb, leb, List, [], ◌∷◌, length, map, get_or, drop, Option, Some, None, is_some, IfSome, All, refl, sym, ap, ◌∙◌, inl, inr, arith}
use Rattle.std.specs.Prelude.{Any, AllPairs}
use Rattle.std.specs.List.{list_any, AllByRecursion}
use Rattle.std.proofs.lemmas.Bool.{ltb-false, leb-true, le-leb, le-ltb, eqb-true, eq-eqb, not-false, and_parts, cases_Bool, false≢true}
use Rattle.std.proofs.lemmas.List.{length-take}
use Rattle.std.proofs.lemmas.List.Elements.{All-from_recursion, All-map, All-head, All-tail}
use Rattle.std.proofs.lemmas.List.Kept.{AllPairs-cons}
use Rattle.cyc_elf.specs.declared.fault.ElfFault.{ElfFault}
use Rattle.cyc_elf.specs.declared.fault.ElfFault.TheVariants.{Truncated, BadSegment}
use Rattle.cyc_elf.specs.Header.{field, ProgramHeader, program_headers, entry}
use Rattle.cyc_elf.specs.Note.{limits_at, is_note, are_limits, AreLimits}
use Rattle.cyc_elf.specs.Image.{SegmentContents, Holds, AreApart, IsSegment, IsWellFormed}
use Rattle.cyc_elf.specs.Reading.{first_fault, own_rules, covers, segment_of}
use Rattle.cyc_elf.specs.inside.Parts.{Walk, step, noted, walk, are_apart}
use Rattle.cyc_elf.proofs.Apart.{one, covering, covers-from, covers-true, are_apart-true, are_apart-false}
use Rattle.cyc_elf.proofs.Rules.{Keeps, own_rules-note, walk_keeps, table_of, is_entry}

-- ---- a single loadable header

-- States the rules that a loadable header satisfies, as propositions.
pub record Kept (len : ℕ) (h : ProgramHeader) : Type 0 where
  pub load : h.kind ≡ 1
  pub fits : h.file_size ≤ h.memory_size
  pub ends : h.vaddr + h.memory_size ≤ 2 ^ 32
  pub word : h.vaddr % 4 ≡ 0
  pub stored : h.offset + h.file_size ≤ len

-- If checking a list of rules yields no fault, then the first rule is satisfied, and checking the later rules yields no fault.
unbroken : (b : Bool) (f : ElfFault) (later : Option ElfFault) → cond b (Some f) later ≡ None → (b ≡ false) × (later ≡ None)
unbroken true f later e = absurd cc
unbroken false f later e = (refl, e)

pub kept_from_keeps : (len : ℕ) (h : ProgramHeader) → Keeps len h → Kept len h
kept_from_keeps len h keeps =
    let load : h.kind ≡ 1 = eqb-true _ _ keeps.load in
    let fits = unbroken (ltb h.memory_size h.file_size) BadSegment _ keeps.own in
    let ends = unbroken (ltb (2 ^ 32) (h.vaddr + h.memory_size)) BadSegment _ fits.1 in
    let word = unbroken (not (eqb (h.vaddr % 4) 0)) BadSegment _ ends.1 in
    let stored = unbroken (ltb len (h.offset + h.file_size)) Truncated _ word.1 in
    record {
      load = load;
      fits = ltb-false _ _ fits.0;
      ends = ltb-false _ _ ends.0;
      word = eqb-true _ _ (not-false _ word.0);
      stored = ltb-false _ _ stored.0;
    }

pub keeps_from_kept : (len : ℕ) (h : ProgramHeader) → Kept len h → Keeps len h
keeps_from_kept len h kept = record {
  load = eq-eqb _ _ kept.load;
  own = rw (le-ltb h.memory_size h.file_size kept.fits, le-ltb (2 ^ 32) (h.vaddr + h.memory_size) kept.ends, eq-eqb (h.vaddr % 4) 0 kept.word, le-ltb len (h.offset + h.file_size) kept.stored) refl;
}

pub segment_from_kept : (file : List ℕ) (h : ProgramHeader) → Kept (length file) h → IsSegment (segment_of file h)
segment_from_kept file h kept = record {
  stored = omega (arith, length-take h.file_size (drop h.offset file), kept.fits);
  in_memory = kept.ends;
  aligned = kept.word;
}

-- ---- a single note

-- If the test of the limits of a note succeeds, then the number of pages and the number of calls are in their allowed ranges.
pub are_limits-true : (limits : ℕ × ℕ) → are_limits limits ≡ true → AreLimits limits
are_limits-true limits e =
    let three = and_parts (leb 3 limits.0 && leb limits.0 65536 && leb 1 limits.1) (leb limits.1 4096) e in
    let two = and_parts (leb 3 limits.0 && leb limits.0 65536) (leb 1 limits.1) three.0 in
    let one = and_parts (leb 3 limits.0) (leb limits.0 65536) two.0 in
    record {
      enough_pages = leb-true _ _ one.0;
      few_pages = leb-true _ _ one.1;
      enough_calls = leb-true _ _ two.1;
      few_calls = leb-true _ _ three.1;
    }

pub are_limits-from : (limits : ℕ × ℕ) → AreLimits limits → are_limits limits ≡ true
are_limits-from limits fit =
    rw (le-leb 3 limits.0 fit.enough_pages, le-leb limits.0 65536 fit.few_pages, le-leb 1 limits.1 fit.enough_calls, le-leb limits.1 4096 fit.few_calls) refl

-- States, as propositions, the rules that a note with limits on pages and calls satisfies.
pub record KeptNote (file : List ℕ) (h : ProgramHeader) : Type 0 where
  pub whole : 28 ≤ h.file_size
  pub description : field 4 (h.offset + 4) file ≡ 8
  pub kind : field 4 (h.offset + 8) file ≡ 1
  pub limits : AreLimits (limits_at file h.offset)

pub kept_note : (file : List ℕ) (before : Bool) (h : ProgramHeader) → is_note file h ≡ true → first_fault (own_rules file before h) ≡ None → KeptNote file h
kept_note file before h is keeps =
    let e = sym (ap first_fault (own_rules-note file before h is)) ∙ keeps in
    let whole = unbroken (ltb h.file_size 28) BadSegment _ e in
    let description = unbroken (not (eqb (field 4 (h.offset + 4) file) 8)) BadSegment _ whole.1 in
    let kind = unbroken (not (eqb (field 4 (h.offset + 8) file) 1)) BadSegment _ description.1 in
    let limits = unbroken (not (are_limits (limits_at file h.offset))) BadSegment _ kind.1 in
    record {
      whole = ltb-false _ _ whole.0;
      description = eqb-true _ _ (not-false _ description.0);
      kind = eqb-true _ _ (not-false _ kind.0);
      limits = are_limits-true _ (not-false _ limits.0);
    }

-- If a program header has no fault, then the limits on pages and calls that it or an earlier header states are in their allowed ranges.
noted_fit : (file : List ℕ) (known : Option (ℕ × ℕ)) (h : ProgramHeader) → first_fault (own_rules file (is_some known) h) ≡ None → IfSome known AreLimits → IfSome (noted file known h) AreLimits
noted_fit file known h keeps fit =
    elim (cases_Bool (is_note file h)) [
      | inl is ↦ rw is (kept_note file (is_some known) h is keeps).limits
      | inr other ↦ rw other fit
    ]

step_fit : (known : Option (ℕ × ℕ)) (h : ProgramHeader) (w : Walk) (o : Option ElfFault) → IfSome known AreLimits → (o ≡ None → IfSome w.note AreLimits) → IfSome (step known h o w).note AreLimits
step_fit known h w (Some f) fit later = fit
step_fit known h w None fit later = later refl

walk_fit : (file : List ℕ) (known : Option (ℕ × ℕ)) (headers : List ProgramHeader) → IfSome known AreLimits → IfSome (walk file known headers).note AreLimits
walk_fit file known [] fit = fit
walk_fit file known (h ∷ rest) fit =
    step_fit known h (walk file (noted file known h) rest) (first_fault (own_rules file (is_some known) h)) fit
    (λ keeps. walk_fit file (noted file known h) rest (noted_fit file known h keeps fit))

-- ---- disjoint headers

apart_from_once : (file : List ℕ) (h : ProgramHeader) (hs : List ProgramHeader) → ((a : ℕ) → one (covers h a) + covering a hs ≤ 1) → AllByRecursion (λ g. AreApart (segment_of file h) (segment_of file g)) hs
apart_from_once file h [] once = tt
apart_from_once file h (g ∷ hs) once = (
  λ a p q.
      let in_h : one (covers h a) ≡ 1 = ap one (covers-from h a p.0 p.1) in
      let in_g : one (covers g a) ≡ 1 = ap one (covers-from g a q.0 q.1) in
      omega (arith, in_h, in_g, once a),
  apart_from_once file h hs (λ a. omega (arith, once a)),
)

pairs_from_once : (file : List ℕ) (hs : List ProgramHeader) → ((a : ℕ) → covering a hs ≤ 1) → AllPairs AreApart (map (segment_of file) hs)
pairs_from_once file [] once = λ i j d lt high. absurd (omega arith)
pairs_from_once file (h ∷ hs) once =
    AllPairs-cons AreApart (segment_of file h) (map (segment_of file) hs)
    (All-map (AreApart (segment_of file h)) (segment_of file) hs (All-from_recursion (λ g. AreApart (segment_of file h) (segment_of file g)) hs (apart_from_once file h hs once)))
    (pairs_from_once file hs (λ a. omega (arith, once a)))

pub pairs_from_are_apart : (file : List ℕ) (hs : List ProgramHeader) → are_apart [] hs ≡ true → AllPairs AreApart (map (segment_of file) hs)
pairs_from_are_apart file hs apart = pairs_from_once file hs (λ a. omega (arith, are_apart-true [] hs apart (λ b. omega arith) a))

none_from_apart : (file : List ℕ) (h : ProgramHeader) (hs : List ProgramHeader) (a : ℕ) → All (AreApart (segment_of file h)) (map (segment_of file) hs) → covers h a ≡ true → covering a hs ≡ 0
none_from_apart file h [] a apart in_h = refl
none_from_apart file h (g ∷ hs) a apart in_h =
    let rest = none_from_apart file h hs a (All-tail (AreApart (segment_of file h)) (segment_of file g) (map (segment_of file) hs) apart) in_h in
    elim (cases_Bool (covers g a)) [
      | inl in_g ↦
          let p = covers-true h a in_h in
          let q = covers-true g a in_g in
          absurd (All-head (AreApart (segment_of file h)) (segment_of file g) (map (segment_of file) hs) apart a (p.low, p.high) (q.low, q.high))
      | inr out ↦ let here : one (covers g a) ≡ 0 = ap one out in omega (arith, here, rest)
    ]

-- If a relation holds for all pairs of elements of a list (`AllPairs`), it holds between the first element and each later
-- element. Such a relation also holds for all pairs of elements after the first.
AllPairs-first : {X : Type 0} (R : X → X → Type 0) (x : X) (xs : List X) → AllPairs R (x ∷ xs) → All (R x) xs
AllPairs-first R x xs pairs = λ k d lt. pairs 0 (suc k) d (omega arith) (omega arith)

AllPairs-rest : {X : Type 0} (R : X → X → Type 0) (x : X) (xs : List X) → AllPairs R (x ∷ xs) → AllPairs R xs
AllPairs-rest R x xs pairs = λ i j d lt high. pairs (suc i) (suc j) d (omega arith) (omega arith)

once_from_pairs : (file : List ℕ) (hs : List ProgramHeader) (a : ℕ) → AllPairs AreApart (map (segment_of file) hs) → covering a hs ≤ 1
once_from_pairs file [] a pairs = omega arith
once_from_pairs file (h ∷ hs) a pairs =
    let rest = once_from_pairs file hs a (AllPairs-rest AreApart (segment_of file h) (map (segment_of file) hs) pairs) in
    elim (cases_Bool (covers h a)) [
      | inl in_h ↦
          let here : one (covers h a) ≡ 1 = ap one in_h in
          let none = none_from_apart file h hs a (AllPairs-first AreApart (segment_of file h) (map (segment_of file) hs) pairs) in_h in
          omega (arith, here, none)
      | inr out ↦ let here : one (covers h a) ≡ 0 = ap one out in omega (arith, here, rest)
    ]

pub are_apart_from_pairs : (file : List ℕ) (hs : List ProgramHeader) → AllPairs AreApart (map (segment_of file) hs) → are_apart [] hs ≡ true
are_apart_from_pairs file hs pairs =
    elim (cases_Bool (are_apart [] hs)) [
      | inl apart ↦ apart
      | inr shared ↦
          let s = are_apart-false [] hs shared in
          absurd (omega (arith, s.1, once_from_pairs file hs s.0 pairs))
    ]

-- ---- the entry

pub held_from_covered : (file : List ℕ) (hs : List ProgramHeader) (a : ℕ) → list_any (λ h. covers h a) hs ≡ true → Any (λ s. Holds s a) (map (segment_of file) hs)
held_from_covered file [] a some = absurd (false≢true some)
held_from_covered file (h ∷ hs) a some =
    elim (cases_Bool (covers h a)) [
      | inl in_h ↦ let p = covers-true h a in_h in (0, segment_of file h, omega arith, refl, (p.low, p.high))
      | inr out ↦
          let s = held_from_covered file hs a (sym (ap (λ b. b || list_any (λ g. covers g a) hs) out) ∙ some) in
          (suc s.0, s.1, omega (arith, s.2), s.3, s.4)
    ]

covered_at : (file : List ℕ) (hs : List ProgramHeader) (a k : ℕ) (s : SegmentContents) → k < length (map (segment_of file) hs) → get_or (map (segment_of file) hs) k s ≡ s → Holds s a → list_any (λ h. covers h a) hs ≡ true
covered_at file [] a k s lt here held = absurd (omega arith)
covered_at file (h ∷ hs) a zero s lt here held =
    let in_h : covers h a ≡ true = covers-from h a (omega (arith, held.0, ap (λ (t : SegmentContents). t.vaddr) here)) (omega (arith, held.1, ap (λ (t : SegmentContents). t.vaddr) here, ap (λ (t : SegmentContents). t.size) here)) in
    ap (λ b. b || list_any (λ g. covers g a) hs) in_h
covered_at file (h ∷ hs) a (suc k) s lt here held = or_later (covers h a) (covered_at file hs a k s (omega arith) here held)
  where
    or_later : {later : Bool} (b : Bool) → later ≡ true → (b || later) ≡ true
    or_later true e = refl
    or_later false e = e

pub covered_from_held : (file : List ℕ) (hs : List ProgramHeader) (a : ℕ) → Any (λ s. Holds s a) (map (segment_of file) hs) → list_any (λ h. covers h a) hs ≡ true
covered_from_held file hs a held = covered_at file hs a held.0 held.1 held.2 held.3 held.4

-- ---- the image that the reader returns

kept_all : (len : ℕ) (hs : List ProgramHeader) → AllByRecursion (Keeps len) hs → AllByRecursion (Kept len) hs
kept_all len [] keeps = tt
kept_all len (h ∷ hs) keeps = (kept_from_keeps len h keeps.0, kept_all len hs keeps.1)

segments_all : (file : List ℕ) (hs : List ProgramHeader) → AllByRecursion (Kept (length file)) hs → AllByRecursion (λ h. IsSegment (segment_of file h)) hs
segments_all file [] kept = tt
segments_all file (h ∷ hs) kept = (segment_from_kept file h kept.0, segments_all file hs kept.1)

-- The bytes of each header that the traversal collects lie in the file.
pub stored_all : (file : List ℕ) → All (λ h. h.offset + h.file_size ≤ length file) (table_of file).loads
stored_all file =
    let kept = All-from_recursion (Kept (length file)) _ (kept_all (length file) _ (walk_keeps file None (program_headers file))) in
    λ k d lt. (kept k d lt).stored

pub is_well_formed : (file : List ℕ) → are_apart [] (table_of file).loads ≡ true → is_entry (table_of file).loads (entry file) ≡ true
    → IsWellFormed (record { entry = entry file; segments = map (segment_of file) (table_of file).loads; note = (table_of file).note })
is_well_formed file apart right =
    let hs = (table_of file).loads in
    let both = and_parts (list_any (λ h. covers h (entry file)) hs) (eqb (entry file % 4) 0) right in
    record {
      each = All-map IsSegment (segment_of file) hs (All-from_recursion (λ h. IsSegment (segment_of file h)) hs (segments_all file hs (kept_all (length file) hs (walk_keeps file None (program_headers file)))));
      apart = pairs_from_are_apart file hs apart;
      entry_held = held_from_covered file hs (entry file) both.0;
      entry_aligned = eqb-true _ _ both.1;
      note = walk_fit file None (program_headers file) tt;
    }
