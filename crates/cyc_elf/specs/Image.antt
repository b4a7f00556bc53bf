-- Images: an entry, segments of memory and the limits of runs, without their positions in the file. (Segments are those of the System V
-- ABI, chapter 5, "Program Header"; which segments an image has is this project's own choice.)
use Rattle.std.specs.Prelude.{◌≡◌, ℕ, ◌+◌, ◌*◌, ◌/◌, ◌%◌, ◌^◌, ◌<◌, ◌≤◌, Option, List, length, map, All, Any, AllPairs, IfSome}
use Rattle.cyc_elf.specs.declared.image.Segment.{Segment}
use Rattle.cyc_elf.specs.declared.image.Image.{Image}
use Rattle.cyc_elf.specs.Note.{AreLimits}

-- A segment of memory: its first address, the header's flags, the bytes stored in the file, and its size in memory. A segment's bytes past
-- those stored in the file are 0.
pub record SegmentContents : Type 0 where
  pub vaddr : ℕ
  pub flags : ℕ
  pub bytes : List ℕ
  pub size : ℕ

-- An image: the address of the first instruction, the segments in the order of their headers, and the limits of pages and calls, if the
-- image states limits.
pub record ImageContents : Type 0 where
  pub entry : ℕ
  pub segments : List SegmentContents
  pub note : Option (ℕ × ℕ)

abbrev pub segment_contents : Segment → SegmentContents
segment_contents s = record { vaddr = s.vaddr; flags = s.flags; bytes = s.bytes.items; size = s.size }

abbrev pub contents_of : Image → ImageContents
contents_of i = record { entry = i.entry; segments = map segment_contents i.segments.items; note = i.note }

-- Returns `n` rounded up to a multiple of 4.
abbrev pub padded : ℕ → ℕ
padded n = (n + 3) / 4 * 4

-- Says that an address is in the segment. The first address of a segment is a multiple of 4. Rounding a segment's size up to whole
-- words changes nothing for addresses that are multiples of 4, nor for whether two segments overlap.
abbrev pub Holds : SegmentContents → ℕ → Type 0
Holds s address = (s.vaddr ≤ address) × (address < s.vaddr + s.size)

-- Says that no address is in both segments. An empty segment contains no address, so it is disjoint from every segment.
abbrev pub AreApart : SegmentContents → SegmentContents → Type 0
AreApart s t = (address : ℕ) → Holds s address → Holds t address → ⊥

-- Says that a segment is valid: the file stores no more bytes than the segment has, the segment ends within the 32-bit address space, and
-- it begins at a word. (System V ABI, chapter 5, "Program Header"; that a segment begins at a word is this project's own choice.)
pub record IsSegment (s : SegmentContents) : Type 0 where
  pub stored : length s.bytes ≤ s.size
  pub in_memory : s.vaddr + s.size ≤ 2 ^ 32
  pub aligned : s.vaddr % 4 ≡ 0

-- Says that an image is well-formed: its segments are valid and disjoint, the entry is the address of a word in a segment, and the
-- limits on runs are in range.
pub record IsWellFormed (i : ImageContents) : Type 0 where
  pub each : All IsSegment i.segments
  pub apart : AllPairs AreApart i.segments
  pub entry_held : Any (λ s. Holds s i.entry) i.segments
  pub entry_aligned : i.entry % 4 ≡ 0
  pub note : IfSome i.note AreLimits
