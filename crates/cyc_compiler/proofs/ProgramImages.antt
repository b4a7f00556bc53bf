-- This file is about the image of a compiled program after it is loaded. The words of the loaded image are
-- in the memory's code and data ranges, as they are in the machine for labelled code.
use Rattle.std.proofs.Common.{◌≡◌, ℕ, zero, suc, ◌+◌, ◌-◌, ◌*◌, ◌/◌, ◌^◌, ◌≤◌, ◌<◌, List, [], ◌∷◌, ◌++◌, length, true, false, cond, ◌&&◌, nat_le, nat_lt, max, Option, None, Some, refl, sym, ap, ◌∙◌, arith, inl, inr, length-append, get_or, map}
use Rattle.std.specs.Prelude.{slice_index, replicate, unwrap_or, All, AllPairs, sum_by}
use Rattle.std.specs.List.{range_with_len, AllByRecursion, list_any}
use Rattle.std.specs.Option.{option_or}
use Rattle.std.proofs.lemmas.Bool.{le-leb, lt-ltb, lt-leb, le-ltb, cases_lt}
use Rattle.std.proofs.lemmas.List.{get_or-append_right, get_or_past, length-map, length-replicate}
use Rattle.std.proofs.lemmas.List.FromFn.{fill_by_all}
use Rattle.std.proofs.lemmas.List.Elements.{All-cons, All-nil, All-append}
use Rattle.std.proofs.lemmas.List.Kept.{AllPairs-cons}
use Rattle.std.proofs.lemmas.List.Sums.{sum_by-cons}
use Rattle.std.proofs.lemmas.Simd.{map-map}
use Rattle.cyc_words.specs.Word.{IsWord}
use Rattle.cyc_words.specs.Bytes.{bytes_of_word, word_of_bytes}
use Rattle.cyc_words.proofs.BytesLemmas.{word_of_bytes-bytes_of_word}
use Rattle.cyc_words.proofs.Items.{slice_index_zeros_after}
use Rattle.cyc_elf.specs.Image.{SegmentContents, padded, AreApart, IsSegment, IsWellFormed}
use Rattle.cyc_elf.specs.Layout.{header_of, headers_of, note_header, note_headers, note_count, bytes_end, bytes_start, note_start, FitsFields}
use Rattle.cyc_machine_model.specs.Bounds.{Bounds}
use Rattle.cyc_machine_model.specs.State.{text_base, text_end, data_base, data_end, globals_length, word_number, words_per_call}
use Rattle.cyc_machine_model.specs.Run.{World}
use Rattle.cyc_store.specs.State.{StoreState}
use Rattle.cyc_machine_model.specs.Start.{lies_in_text, lies_in_data, is_outside, segment_end, segment_word, word_in, image_word, image_words, text_length, start_core, start_world}
use Rattle.cyc_machine_model.specs.declared.phase.Phase.TheVariants.{Running}
use Rattle.cyc_select.specs.inside.Labelled.{Labelled}
use Rattle.cyc_select.specs.inside.Machine.{globals_of}
use Rattle.cyc_asm.specs.inside.Text.{text_of}
use Rattle.cyc_asm.specs.inside.Machine as assembled
use Rattle.cyc_compiler.specs.FullPreservation.{text_words, IsLoadable}
use Rattle.cyc_image.specs.Notes.{AreAllowedIfAny}
use Rattle.cyc_image.proofs.Limits.{limits_if_any}
use Rattle.cyc_compiler.specs.declared.image.TheConstants.{READ_AND_EXECUTE, READ_AND_WRITE}
use Rattle.cyc_compiler.specs.ProgramImage.{bytes_of_words, segment_of, text_segment, data_segment, data_segments, program_image, HasForm}

-- ---- words and their bytes

pub length-bytes_of_words : (words : List ℕ) → length (bytes_of_words words) ≡ 4 * length words
length-bytes_of_words [] = refl
length-bytes_of_words (w ∷ words) = omega (arith, length-bytes_of_words words)

-- The word that begins at a byte offset of a list of bytes.
abbrev word_at : List ℕ → ℕ → ℕ
word_at bytes at = word_of_bytes (slice_index bytes at ∷ slice_index bytes (at + 1) ∷ slice_index bytes (at + 2) ∷ slice_index bytes (at + 3) ∷ [])

after_word : (w : ℕ) (bytes : List ℕ) (at k : ℕ) → slice_index (bytes_of_word w ++ bytes) (4 * suc at + k) ≡ slice_index bytes (4 * at + k)
after_word w bytes at k =
    get_or-append_right (bytes_of_word w) bytes 4 (4 * suc at + k) 0 refl (omega arith)
    ∙ ap (slice_index bytes) (let e : 4 * suc at + k - 4 ≡ 4 * at + k = omega arith in e)

word_at-following : (w : ℕ) (bytes : List ℕ) (at : ℕ) → word_at (bytes_of_word w ++ bytes) (4 * suc at) ≡ word_at bytes (4 * at)
word_at-following w bytes at =
    let first : slice_index (bytes_of_word w ++ bytes) (4 * suc at) ≡ slice_index bytes (4 * at) =
    ap (slice_index (bytes_of_word w ++ bytes)) (let e : 4 * suc at ≡ 4 * suc at + 0 = omega arith in e) ∙ after_word w bytes at 0
    ∙ ap (slice_index bytes) (let e : 4 * at + 0 ≡ 4 * at = omega arith in e) in
    rw (first, after_word w bytes at 1, after_word w bytes at 2, after_word w bytes at 3) refl

word_at-words : (words : List ℕ) (k : ℕ) → AllByRecursion IsWord words → k < length words → word_at (bytes_of_words words) (4 * k) ≡ slice_index words k
word_at-words [] k fit below = absurd (omega arith)
word_at-words (w ∷ words) zero (fits, fit) below = word_of_bytes-bytes_of_word w fits
word_at-words (w ∷ words) (suc k) (fits, fit) below =
    word_at-following w (bytes_of_words words) k ∙ word_at-words words k fit (omega arith)

-- ---- one segment of words

-- The machine finds a word of the segment at the word's address.
word_inside : (vaddr flags : ℕ) (words : List ℕ) (k : ℕ) → AllByRecursion IsWord words → k < length words
    → segment_word (segment_of vaddr flags words) (padded (length (bytes_of_words words))) (vaddr + 4 * k) ≡ Some (slice_index words k)
word_inside vaddr flags words k fit below =
    let bytes = bytes_of_words words in
    let size = length-bytes_of_words words in
    let offset : vaddr + 4 * k - vaddr ≡ 4 * k = omega arith in
    let from : nat_le vaddr (vaddr + 4 * k) ≡ true = le-leb vaddr (vaddr + 4 * k) (omega arith) in
    let to : nat_lt (vaddr + 4 * k) (vaddr + padded (length bytes)) ≡ true = lt-ltb (vaddr + 4 * k) (vaddr + padded (length bytes)) (omega (arith, size, below)) in
    ap (λ b. cond (b && nat_lt (vaddr + 4 * k) (vaddr + padded (length bytes))) (Some (word_in (segment_of vaddr flags words) (vaddr + 4 * k))) None) from
    ∙ ap (λ b. cond b (Some (word_in (segment_of vaddr flags words) (vaddr + 4 * k))) None) to
    ∙ ap (λ at. Some (word_at bytes at)) offset
    ∙ ap (λ (w : ℕ). Some w) (word_at-words words k fit below)

-- The machine finds no word of the segment at an address past the segment.
word_past : (vaddr flags : ℕ) (words : List ℕ) (address : ℕ) → vaddr + 4 * length words ≤ address
    → segment_word (segment_of vaddr flags words) (padded (length (bytes_of_words words))) address ≡ None
word_past vaddr flags words address past =
    let bytes = bytes_of_words words in
    let size = length-bytes_of_words words in
    let from : nat_le vaddr address ≡ true = le-leb vaddr address (omega (arith, past)) in
    let to : nat_lt address (vaddr + padded (length bytes)) ≡ false = le-ltb address (vaddr + padded (length bytes)) (omega (arith, size, past)) in
    ap (λ b. cond (b && nat_lt address (vaddr + padded (length bytes))) (Some (word_in (segment_of vaddr flags words) address)) None) from
    ∙ ap (λ b. cond b (Some (word_in (segment_of vaddr flags words) address)) None) to

-- ---- positions of the segments

module _ (words : List ℕ) (some : 0 < length words) (inside : text_base + 4 * length words ≤ text_end) where
  pub text_lies_in : lies_in_text (text_segment words) ≡ true
  text_lies_in =
      let size = length-bytes_of_words words in
      rw (
        lt-ltb 0 (length (bytes_of_words words)) (omega (arith, size, some)),
        le-leb text_base text_base (omega arith),
        le-leb (text_base + padded (length (bytes_of_words words))) text_end (omega (arith, size, inside)),
      ) refl

  text_not_outside : is_outside (text_segment words) ≡ false
  text_not_outside =
      rw (text_lies_in, lt-ltb 0 (length (bytes_of_words words)) (omega (arith, length-bytes_of_words words, some))) refl

  text_ends : word_number text_base (segment_end (text_segment words)) ≡ length words
  text_ends = omega (arith, length-bytes_of_words words)

  text_counts : padded (length (bytes_of_words words)) / 4 ≡ length words
  text_counts = omega (arith, length-bytes_of_words words)

module _ (globals : List ℕ) (some : 0 < length globals) where
  data_not_in_text : lies_in_text (data_segment globals) ≡ false
  data_not_in_text =
      let size = length-bytes_of_words globals in
      rw (
        lt-ltb 0 (length (bytes_of_words globals)) (omega (arith, size, some)),
        lt-leb (data_base + padded (length (bytes_of_words globals))) text_end (omega arith),
      ) refl

  data_lies_in : length globals ≤ globals_length → lies_in_data (data_segment globals) ≡ true
  data_lies_in few =
      let size = length-bytes_of_words globals in
      rw (
        lt-ltb 0 (length (bytes_of_words globals)) (omega (arith, size, some)),
        le-leb data_base data_base (omega arith),
        le-leb (data_base + padded (length (bytes_of_words globals))) data_end (omega (arith, size, few)),
      ) refl

  data_not_outside : length globals ≤ globals_length → is_outside (data_segment globals) ≡ false
  data_not_outside few =
      rw (data_not_in_text, data_lies_in few, lt-ltb 0 (length (bytes_of_words globals)) (omega (arith, length-bytes_of_words globals, some))) refl

no_data_in_text : (globals : List ℕ) → text_length (data_segments globals) ≡ 0
no_data_in_text [] = refl
no_data_in_text (g ∷ globals) =
    ap (λ b. max (cond b (word_number text_base (segment_end (data_segment (g ∷ globals)))) 0) 0) (data_not_in_text (g ∷ globals) (omega arith))

no_data_counted : (globals : List ℕ) → sum_by (λ s. cond (lies_in_text s) (padded s.size / 4) 0) (data_segments globals) ≡ 0
no_data_counted [] = refl
no_data_counted (g ∷ globals) =
    ap (λ b. 0 + cond b (padded (length (bytes_of_words (g ∷ globals))) / 4) 0) (data_not_in_text (g ∷ globals) (omega arith))

no_data_outside : (globals : List ℕ) → length globals ≤ globals_length → list_any is_outside (data_segments globals) ≡ false
no_data_outside [] few = refl
no_data_outside (g ∷ globals) few = rw (data_not_outside (g ∷ globals) (omega arith) few) refl

-- ---- words of the data range

data_word : (globals : List ℕ) (k : ℕ) → AllByRecursion IsWord globals → unwrap_or (image_word (data_segments globals) (data_base + 4 * k)) 0 ≡ slice_index globals k
data_word [] k fit = sym (get_or_past [] k 0 (omega arith))
data_word (g ∷ globals) k fit =
    let whole = g ∷ globals in
    elim (cases_lt k (length whole)) [
      | inl below ↦ ap (λ (w : Option ℕ). unwrap_or (option_or w None) 0) (word_inside data_base READ_AND_WRITE whole k fit below)
      | inr past ↦ ap (λ (w : Option ℕ). unwrap_or (option_or w None) 0) (word_past data_base READ_AND_WRITE whole (data_base + 4 * k) (omega (arith, past))) ∙ sym (get_or_past whole k 0 past)
    ]

-- ---- the image

pub image_form : (words globals : List ℕ) (note : Option (ℕ × ℕ)) → HasForm (length globals) (program_image words globals note)
image_form words [] limits = record { entry = refl; segments = record { address = refl; flags = refl; stored = refl } }
image_form words (g ∷ globals) limits = record {
  entry = refl;
  segments = (
    record { address = refl; flags = refl; stored = refl },
    record { address = refl; flags = refl; stored = refl; size = length-bytes_of_words (g ∷ globals) },
  );
}

some_at : (words : List ℕ) (k : ℕ) → k < length words → get_or (text_of words) k None ≡ Some (slice_index words k)
some_at [] k below = absurd (omega arith)
some_at (w ∷ words) zero below = refl
some_at (w ∷ words) (suc k) below = some_at words k (omega arith)

-- The machine in its initial state, whose code and data ranges hold the words of the image.
abbrev started : Bounds → StoreState → (input : List ℕ) → (text : List (Option ℕ)) → (globals : List ℕ) → World
started limits store input text globals = record {
  machine = record {
    core = start_core text_base limits.calls;
    memory = record { text = text; globals = globals; stack = replicate (words_per_call * limits.calls) 0; store = store };
    phase = Running;
  };
  output = [];
  input = input;
}

module _ (words globals : List ℕ) (note : Option (ℕ × ℕ)) (some : 0 < length words) (inside : text_base + 4 * length words ≤ text_end) (few : length globals ≤ globals_length)
    (fit : AllByRecursion IsWord words) (fit_globals : AllByRecursion IsWord globals) where
  abbrev segments : List SegmentContents
  segments = text_segment words ∷ data_segments globals

  -- The number of machine words in the code segment of a program's image is the number of words of the program's machine code.
  pub text_words-image : text_words (program_image words globals note) ≡ length words
  text_words-image =
      sum_by-cons (λ s. cond (lies_in_text s) (padded s.size / 4) 0) (text_segment words) (data_segments globals)
      ∙ ap (λ b. cond b (padded (length (bytes_of_words words)) / 4) 0 + sum_by (λ s. cond (lies_in_text s) (padded s.size / 4) 0) (data_segments globals)) (text_lies_in words some inside)
      ∙ (let all : padded (length (bytes_of_words words)) / 4 + sum_by (λ s. cond (lies_in_text s) (padded s.size / 4) 0) (data_segments globals) ≡ length words =
      omega (arith, text_counts words some inside, no_data_counted globals) in all)

  pub image_loads : IsLoadable (program_image words globals note)
  image_loads = rw (text_not_outside words some inside, no_data_outside globals few) refl

  text_long : text_length segments ≡ length words
  text_long =
      ap (λ b. max (cond b (word_number text_base (segment_end (text_segment words))) 0) (text_length (data_segments globals))) (text_lies_in words some inside)
      ∙ (let all : max (word_number text_base (segment_end (text_segment words))) (text_length (data_segments globals)) ≡ length words =
      omega (arith, text_ends words some inside, no_data_in_text globals) in all)

  text_at_start : image_words segments text_base (text_length segments) ≡ text_of words
  unfolding image_words
  text_at_start =
      ap (λ count. map (λ k. image_word segments (text_base + 4 * k)) (range_with_len 0 count)) text_long
      ∙ sym (fill_by_all (λ k. image_word segments (text_base + 4 * k)) (text_of words) (length words) None (length-map words (λ (w : ℕ). Some w))
      (λ k below. some_at words k below ∙ sym (ap (λ (w : Option ℕ). option_or w (image_word (data_segments globals) (text_base + 4 * k))) (word_inside text_base READ_AND_EXECUTE words k fit below))))

  data_laid : (count : ℕ) → length globals ≤ count → map (λ (word : Option ℕ). unwrap_or word 0) (image_words segments data_base count) ≡ globals ++ replicate (count - length globals) 0
  unfolding image_words
  data_laid count enough =
      map-map (λ (word : Option ℕ). unwrap_or word 0) (λ k. image_word segments (data_base + 4 * k)) (range_with_len 0 count)
      ∙ sym (fill_by_all (λ k. unwrap_or (image_word segments (data_base + 4 * k)) 0) (globals ++ replicate (count - length globals) 0) count 0
      (length-append globals (replicate (count - length globals) 0) ∙ (let e : length globals + length (replicate (count - length globals) 0) ≡ count = omega (arith, length-replicate {A = ℕ} (count - length globals) 0, enough) in e))
      (λ k below.
      slice_index_zeros_after globals (count - length globals) k (omega (arith, below, enough))
      ∙ sym (ap (λ (w : Option ℕ). unwrap_or (option_or w (image_word (data_segments globals) (data_base + 4 * k))) 0) (word_past text_base READ_AND_EXECUTE words (data_base + 4 * k) (omega (arith, inside)))
      ∙ data_word globals k fit_globals)))

  data_at_start : map (λ (word : Option ℕ). unwrap_or word 0) (image_words segments data_base globals_length) ≡ globals_of globals
  unfolding globals_of
  data_at_start = data_laid globals_length few

  -- The machine starts with these words in its code range and with the globals in its data range.
  pub image_starts : (code : Labelled) (limits : Bounds) (store : StoreState) (input : List ℕ) → code.globals ≡ globals
      → start_world (program_image words globals note) limits store input ≡ assembled.start code words store limits.calls input
  image_starts code limits store input same =
      ap (λ text. started limits store input text (map (λ (word : Option ℕ). unwrap_or word 0) (image_words segments data_base globals_length))) text_at_start
      ∙ ap (started limits store input (text_of words)) (data_at_start ∙ ap globals_of (sym same))

  -- ---- the image can be written

  text_is_segment : IsSegment (text_segment words)
  text_is_segment = record {
    stored = omega arith;
    in_memory = omega (arith, length-bytes_of_words words, inside);
    aligned = refl;
  }

  data_are_segments : (held : List ℕ) → length held ≤ globals_length → All IsSegment (data_segments held)
  data_are_segments [] small = All-nil IsSegment
  data_are_segments (g ∷ held) small =
      All-cons IsSegment (data_segment (g ∷ held)) []
      (record { stored = omega arith; in_memory = omega (arith, length-bytes_of_words (g ∷ held), small); aligned = refl })
      (All-nil IsSegment)

  text_apart : (held : List ℕ) → All (AreApart (text_segment words)) (data_segments held)
  text_apart [] = All-nil (AreApart (text_segment words))
  text_apart (g ∷ held) =
      All-cons (AreApart (text_segment words)) (data_segment (g ∷ held)) []
      (λ address. λ (from, to) (later, before). absurd (omega (arith, length-bytes_of_words words, inside, to, later)))
      (All-nil (AreApart (text_segment words)))

  data_apart : (held : List ℕ) → AllPairs AreApart (data_segments held)
  data_apart [] = λ i j d before within. absurd (omega arith)
  data_apart (g ∷ held) = λ i j d before within. absurd (omega arith)

  pub image_well_formed : AreAllowedIfAny note → IsWellFormed (program_image words globals note)
  image_well_formed allowed = record {
    each = All-cons IsSegment (text_segment words) (data_segments globals) text_is_segment (data_are_segments globals few);
    apart = AllPairs-cons AreApart (text_segment words) (data_segments globals) (text_apart globals) (data_apart globals);
    entry_held = (0, text_segment words, (omega arith), refl, ((omega arith), (omega (arith, length-bytes_of_words words, some))));
    entry_aligned = refl;
    note = limits_if_any note allowed;
  }

  data_count : (held : List ℕ) → length (data_segments held) ≤ 1
  data_count [] = omega arith
  data_count (g ∷ held) = omega arith

  data_offsets : (held : List ℕ) (from : ℕ) → from < 2 ^ 32 → All (λ h. h.offset < 2 ^ 32) (headers_of from (data_segments held))
  data_offsets [] from small = All-nil (λ h. h.offset < 2 ^ 32)
  data_offsets (g ∷ held) from small =
      All-cons (λ h. h.offset < 2 ^ 32) (header_of from (data_segment (g ∷ held))) [] small (All-nil (λ h. h.offset < 2 ^ 32))

  data_end_small : (held : List ℕ) (from : ℕ) → length held ≤ globals_length → from < 2 ^ 31 → bytes_end from (data_segments held) < 2 ^ 32
  data_end_small [] from small below = omega (arith, below)
  data_end_small (g ∷ held) from small below = omega (arith, below, length-bytes_of_words (g ∷ held), small)

  note_offsets : (known : Option (ℕ × ℕ)) (from : ℕ) → from < 2 ^ 32 → All (λ h. h.offset < 2 ^ 32) (note_headers from known)
  note_offsets None from small = All-nil (λ h. h.offset < 2 ^ 32)
  note_offsets (Some limits) from small = All-cons (λ h. h.offset < 2 ^ 32) (note_header from) [] small (All-nil (λ h. h.offset < 2 ^ 32))

  counted : (known : Option (ℕ × ℕ)) → note_count known ≤ 1
  counted None = omega arith
  counted (Some limits) = omega arith

  pub image_fits : FitsFields (program_image words globals note)
  image_fits =
      let i = program_image words globals note in
      let from = bytes_start i in
      let next = from + padded (length (bytes_of_words words)) in
      let small : next < 2 ^ 31 = omega (arith, data_count globals, counted note, length-bytes_of_words words, inside) in
      record {
        count = omega (arith, data_count globals, counted note);
        offsets = All-append (λ h. h.offset < 2 ^ 32) (headers_of from segments) (note_headers (note_start i) note)
            (All-cons (λ h. h.offset < 2 ^ 32) (header_of from (text_segment words)) (headers_of next (data_segments globals)) (omega (arith, small)) (data_offsets globals next (omega (arith, small))))
            (note_offsets note (note_start i) (data_end_small globals next few small));
      }
