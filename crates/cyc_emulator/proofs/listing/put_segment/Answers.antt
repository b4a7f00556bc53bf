use Rattle.std.proofs.Common.{subst, sym, ◌∙◌, ◌≡◌, ◌+◌, ◌*◌, ◌/◌, arith}
use Rattle.std.specs.List.{flat_map, range_with_len}
use Rattle.std.specs.Io.KnownBytes.{Appends}
use Rattle.cyc_words.specs.Device.{AppendsPrefix}
use Rattle.cyc_words.proofs.DeviceLemmas.{Appends-append}
use Rattle.cyc_words.proofs.Ranges.{flat_map-range_push}
use Rattle.cyc_emulator.specs.Listing.{line_of}
use Rattle.cyc_elf.specs.Outline.{fields_of}
use Rattle.cyc_elf.specs.Reading.{segment_of}
use Rattle.cyc_emulator.proofs.Listings.{segment_line, segment_lines-all, segment_exit}
use Rattle.cyc_emulator.proofs.listing.put_segment.Goals as goal

pub returns-in_err-put_line-clause-bytes : goal.returns-in_err-put_line-clause-bytes
returns-in_err-put_line-clause-bytes g c =
    let count : c.div_ceil-number-end.result ≡ (c.args.header.now.memory_size + 3) / 4 = omega arith in
    segment_exit (segment_of c.args.file.now (fields_of c.args.header.now)) c.div_ceil-number-end.result c.loop-number.number
    (g.W.ByteOut.written c.args.out.now) (g.W.ByteOut.written c.loop-number.out) (g.W.ByteOut.written c.put_line.new.out)
    c.from_residual.result count c.loop-number-test.true c.from_residual.ensures.0 c.loop-number.invariant.written
    (subst (λ w. AppendsPrefix (g.W.ByteOut.written c.loop-number.out) (g.W.ByteOut.written c.put_line.new.out) (line_of (c.args.header.now.vaddr + 4 * c.loop-number.number) w))
    c.segment_word_at.ensures c.in_err-put_line.ensures.bytes)

pub loop-number-preserved : goal.loop-number-preserved
loop-number-preserved g c = record {
  written = subst (Appends (g.W.ByteOut.written c.args.out.now) (g.W.ByteOut.written c.put_line.new.out)) (flat_map-range_push (segment_line (segment_of c.args.file.now (fields_of c.args.header.now))) c.loop-number.number)
      (Appends-append (g.W.ByteOut.written c.args.out.now) (g.W.ByteOut.written c.loop-number.out) (g.W.ByteOut.written c.put_line.new.out)
      (flat_map (segment_line (segment_of c.args.file.now (fields_of c.args.header.now))) (range_with_len 0 c.loop-number.number)) (segment_line (segment_of c.args.file.now (fields_of c.args.header.now)) c.loop-number.number)
      c.loop-number.invariant.written
      (subst (λ w. Appends (g.W.ByteOut.written c.loop-number.out) (g.W.ByteOut.written c.put_line.new.out) (line_of (c.args.header.now.vaddr + 4 * c.loop-number.number) w))
      c.segment_word_at.ensures c.in_ok-put_line.ensures.bytes));
  works = c.in_ok-put_line.ensures.works ∙ c.loop-number.invariant.works;
}

pub returns-clause-bytes : goal.returns-clause-bytes
returns-clause-bytes g c =
    let count : c.loop-number.number ≡ (c.args.header.now.memory_size + 3) / 4 = omega arith in
    subst (Appends (g.W.ByteOut.written c.args.out.now) (g.W.ByteOut.written c.loop-number.out)) (sym (segment_lines-all (segment_of c.args.file.now (fields_of c.args.header.now)) c.loop-number.number count)) c.loop-number.invariant.written
