use Rattle.std.proofs.Common.{◌≡◌, ℕ, ◌<◌, List, ap, subst, sym, ◌∙◌, length, take, get_or, arith}
use Rattle.std.specs.Prelude.{map}
use Rattle.std.specs.List.{flat_map}
use Rattle.std.specs.Io.KnownBytes.{Appends}
use Rattle.std.proofs.lemmas.List.{get_or-map, length-map}
use Rattle.cyc_words.specs.Device.{AppendsPrefix}
use Rattle.cyc_words.proofs.DeviceLemmas.{Appends-append, TakesText_part_exit}
use Rattle.cyc_words.proofs.Lists.{flat_map-take_next}
use Rattle.cyc_elf.specs.declared.program_header.ProgramHeader.{ProgramHeader}
use Rattle.cyc_elf.specs.Image.{IsSegment, SegmentContents}
use Rattle.cyc_elf.specs.Outline.{fields_of}
use Rattle.cyc_elf.specs.Reading.{segment_of}
use Rattle.cyc_emulator.specs.Listing.{listed_lines}
use Rattle.cyc_emulator.proofs.listing.put_all_listed.Goals as goal

-- Returns the segments that the program headers of a file describe.
abbrev described : List ℕ → List ProgramHeader → List SegmentContents
described file loads = map (segment_of file) (map fields_of loads)

described-all : (file : List ℕ) (loads : List ProgramHeader) → length (described file loads) ≡ length loads
described-all file loads = length-map (map fields_of loads) (segment_of file) ∙ length-map loads fields_of

-- The default program header for a lookup after the last one.
abbrev blank : ProgramHeader
blank = record { kind = 0; offset = 0; vaddr = 0; file_size = 0; memory_size = 0; flags = 0 }

abbrev header_at : List ProgramHeader → (i : ℕ) → ProgramHeader
header_at loads i = get_or loads i blank

described-seen : (file : List ℕ) (loads : List ProgramHeader) (i : ℕ) → i < length loads
    → get_or (described file loads) i (segment_of file (fields_of (header_at loads i))) ≡ segment_of file (fields_of (header_at loads i))
described-seen file loads i below =
    let all : i < length (map fields_of loads) = omega (arith, below, length-map loads fields_of) in
    get_or-map (segment_of file) (map fields_of loads) i (fields_of blank) (segment_of file (fields_of (header_at loads i))) all
    ∙ ap (segment_of file) (get_or-map fields_of loads i blank (fields_of blank) below)

pub put_listed-requires-clause-stored : goal.put_listed-requires-clause-stored
put_listed-requires-clause-stored g c =
    let loads = c.args.loads.now in
    let below : c.loop-number.number < length loads = omega arith in
    c.requires.stored c.loop-number.number blank below

pub put_listed-requires-clause-segment : goal.put_listed-requires-clause-segment
put_listed-requires-clause-segment g c =
    let file = c.args.file.now in let loads = c.args.loads.now in let h = header_at loads c.loop-number.number in
    let low : c.loop-number.number < length loads = omega arith in
    let below : c.loop-number.number < length (described file loads) = omega (arith, low, described-all file loads) in
    subst IsSegment (described-seen file loads c.loop-number.number low)
    (c.requires.segments c.loop-number.number (segment_of file (fields_of h)) below)

pub returns-in_err-put_listed-clause-bytes : goal.returns-in_err-put_listed-clause-bytes
returns-in_err-put_listed-clause-bytes g c =
    let file = c.args.file.now in let loads = c.args.loads.now in let h = header_at loads c.loop-number.number in
    let item = segment_of file (fields_of h) in
    let low : c.loop-number.number < length loads = omega arith in
    let below : c.loop-number.number < length (described file loads) = omega (arith, low, described-all file loads) in
    TakesText_part_exit listed_lines (g.W.ByteOut.written c.args.out.now) (g.W.ByteOut.written c.loop-number.out) (g.W.ByteOut.written c.put_listed.new.out)
    (described file loads) c.loop-number.number item c.from_residual.result below c.from_residual.ensures.0 c.loop-number.invariant.written
    (subst (λ s. AppendsPrefix (g.W.ByteOut.written c.loop-number.out) (g.W.ByteOut.written c.put_listed.new.out) (listed_lines s))
    (sym (described-seen file loads c.loop-number.number low)) c.in_err-put_listed.ensures.bytes)

pub loop-number-preserved : goal.loop-number-preserved
loop-number-preserved g c =
    let file = c.args.file.now in let loads = c.args.loads.now in let h = header_at loads c.loop-number.number in
    let item = segment_of file (fields_of h) in
    let low : c.loop-number.number < length loads = omega arith in
    let below : c.loop-number.number < length (described file loads) = omega (arith, low, described-all file loads) in
    record {
      written = subst (Appends (g.W.ByteOut.written c.args.out.now) (g.W.ByteOut.written c.put_listed.new.out))
          (flat_map-take_next listed_lines (described file loads) c.loop-number.number item below (described-seen file loads c.loop-number.number low))
          (Appends-append (g.W.ByteOut.written c.args.out.now) (g.W.ByteOut.written c.loop-number.out) (g.W.ByteOut.written c.put_listed.new.out)
          (flat_map listed_lines (take c.loop-number.number (described file loads))) (listed_lines item) c.loop-number.invariant.written c.in_ok-put_listed.ensures.bytes);
      works = c.in_ok-put_listed.ensures.works ∙ c.loop-number.invariant.works;
    }
