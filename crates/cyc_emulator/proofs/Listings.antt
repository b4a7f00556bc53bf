-- The lines of a listing are written one after the other.
use Rattle.std.proofs.Common.{◌≡◌, ℕ, ◌+◌, ◌-◌, ◌*◌, ◌/◌, ◌<◌, List, Option, Result, IsErr, sym, ap, subst, ◌∙◌, arith}
use Rattle.std.specs.List.{flat_map, range_with_len}
use Rattle.std.specs.Io.KnownBytes.{Appends}
use Rattle.cyc_words.specs.Device.{AppendsPrefix, TakesText}
use Rattle.cyc_words.proofs.DeviceLemmas.{TakesText_exit}
use Rattle.cyc_words.proofs.Ranges.{flat_map-range_in_three}
use Rattle.cyc_elf.specs.Image.{SegmentContents, padded}
use Rattle.cyc_machine_model.specs.Start.{word_in}
use Rattle.cyc_emulator.specs.Listing.{line_of, segment_lines}

-- Returns the listing line of a segment's word.
abbrev pub segment_line : SegmentContents → ℕ → List ℕ
segment_line s k = line_of (s.vaddr + 4 * k) (word_in s (s.vaddr + 4 * k))

-- The listing of a segment consists of the lines of all its words.
pub segment_lines-all : (s : SegmentContents) (count : ℕ) → count ≡ (s.size + 3) / 4 → segment_lines s ≡ flat_map (segment_line s) (range_with_len 0 count)
unfolding segment_lines
segment_lines-all s count is = ap (λ k. flat_map (segment_line s) (range_with_len 0 k)) (let same : padded s.size / 4 ≡ count = omega arith in same)

-- If writing fails within a line of the listing, a prefix of the listing was written.
pub segment_exit : {A E : Type 0} (s : SegmentContents) (count n : ℕ) (a b c : Option (List ℕ)) (r : Result A E) → count ≡ (s.size + 3) / 4 → n < count → IsErr r
    → Appends a b (flat_map (segment_line s) (range_with_len 0 n)) → AppendsPrefix b c (segment_line s n) → TakesText a (segment_lines s) r c
segment_exit s count n a b c r is below err taken then =
    subst (λ t. TakesText a t r c) (flat_map-range_in_three (segment_line s) count n below ∙ sym (segment_lines-all s count is))
    (TakesText_exit a b c (flat_map (segment_line s) (range_with_len 0 n)) (segment_line s n) (flat_map (segment_line s) (range_with_len (n + 1) (count - (n + 1)))) r err taken then)
