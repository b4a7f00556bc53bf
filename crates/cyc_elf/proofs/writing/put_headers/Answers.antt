use Rattle.std.proofs.Common.{◌≡◌, ◌+◌, ◌<◌, ◌^◌, ◌∷◌, length, map, drop, rules, sym, ap, subst, ◌∙◌, arith}
use Rattle.cyc_elf.specs.Image.{segment_contents, padded}
use Rattle.cyc_elf.specs.Layout.{bytes_end}
use Rattle.cyc_elf.specs.Outline.{fields_of}
use Rattle.cyc_elf.proofs.Writes.{IsAt, headers_left, headers_left-at, bytes_end-at, is_at_next, offset_fits}
use Rattle.cyc_elf.proofs.writing.put_headers.Goals as goal

pub overflow_cast-offset : goal.overflow_cast-offset
overflow_cast-offset c =
    let xs = c.args.segments.now in
    let split = headers_left-at xs c.loop-s.s-index c.loop-s.offset c.s-item.result c.loop-s-test.true c.s-item.is in
    let fits : c.loop-s.offset < 2 ^ 32 = offset_fits c.loop-s.out.items c.args.out.now.items _ _ _ (headers_left c.args.start 0 xs) split c.loop-s.invariant.0 in
    search rules

pub loop-s-preserved : goal.loop-s-preserved
loop-s-preserved c =
    let xs = c.args.segments.now in
    let i = c.loop-s.s-index in
    let offset = c.loop-s.offset in
    let bytes = c.s-item.result.bytes.items in
    let next : offset + (c.len.result + c.padding.result) ≡ offset + padded (length bytes) = grind arith in
    let split = headers_left-at xs i offset c.s-item.result c.loop-s-test.true c.s-item.is ∙ ap (λ h. h ∷ headers_left (offset + padded (length bytes)) (i + 1) xs) (sym c.of.ensures) in
    let at = is_at_next c.loop-s.out.items c.put_program_header.new.out.items c.args.out.now.items (fields_of c.of.result) _ _ (headers_left c.args.start 0 xs) split c.in_ok-put_program_header.ensures.bytes c.in_ok-put_program_header.ensures.words c.loop-s.invariant.0 in
    let end = sym (bytes_end-at xs i offset c.s-item.result c.loop-s-test.true c.s-item.is) ∙ c.loop-s.invariant.1 in (
      subst (λ o. IsAt c.put_program_header.new.out.items c.args.out.now.items (headers_left o (i + 1) xs) (headers_left c.args.start 0 xs)) (sym next) at,
      subst (λ o. bytes_end o (map segment_contents (drop (i + 1) xs)) ≡ bytes_end c.args.start (map segment_contents xs)) (sym next) end,
    )
