use Rattle.std.proofs.Common.{◌≡◌, ℕ, ◌+◌, ◌*◌, ◌^◌, ◌<◌, ◌++◌, All, map, sym, ap, subst, ◌∙◌}
use Rattle.std.specs.List.{flat_map}
use Rattle.std.proofs.lemmas.List.Elements.{All-append}
use Rattle.cyc_elf.specs.Image.{contents_of, segment_contents}
use Rattle.cyc_elf.specs.Layout.{file_header, program_header, headers_of, stored, bytes_end, note_headers, bytes_start, note_start}
use Rattle.cyc_elf.specs.Reading.{reading}
use Rattle.cyc_elf.specs.inside.Parts.{IsInWords}
use Rattle.cyc_elf.proofs.Writes.{All-left, All-right}
use Rattle.cyc_elf.proofs.Again.{each_stored, headers_counted, written, reading-layout}
use Rattle.cyc_elf.proofs.writing.write_image.Goals as goal

pub put_headers-requires-clause-each : goal.put_headers-requires-clause-each
put_headers-requires-clause-each c = each_stored c.args.image.now c.deref.result.now c.requires.well_formed c.deref.ensures.value

pub put_headers-requires-clause-offsets : goal.put_headers-requires-clause-offsets
put_headers-requires-clause-offsets c =
    let i = contents_of c.args.image.now in
    let many = headers_counted c.args.image.now c.len.result c.note_count.result c.deref.result.now (c.len.ensures ∙ sym c.deref.ensures.len) c.note_count.ensures c.deref.ensures.value in
    let fit = All-left (λ h. h.offset < 2 ^ 32) (headers_of (bytes_start i) i.segments) (note_headers (note_start i) i.note) c.requires.fits.offsets in
    subst (λ ss. All (λ h. h.offset < 2 ^ 32) (headers_of (52 + 32 * (c.len.result + c.note_count.result)) (map segment_contents ss))) (sym c.deref.ensures.value)
    (subst (λ (n : ℕ). All (λ h. h.offset < 2 ^ 32) (headers_of (52 + 32 * n) i.segments)) (sym many) fit)

pub put_note_header-requires : goal.put_note_header-requires
put_note_header-requires c =
    let i = contents_of c.args.image.now in
    let many = headers_counted c.args.image.now c.len.result c.note_count.result c.deref.result.now (c.len.ensures ∙ sym c.deref.ensures.len) c.note_count.ensures c.deref.ensures.value in
    let fit = All-right (λ h. h.offset < 2 ^ 32) (headers_of (bytes_start i) i.segments) (note_headers (note_start i) i.note) c.requires.fits.offsets in
    let end : c.in_ok-end.end ≡ note_start i
    = c.in_ok-end.ensures.end
    ∙ ap (λ ss. bytes_end (52 + 32 * (c.len.result + c.note_count.result)) (map segment_contents ss)) c.deref.ensures.value
    ∙ ap (λ (n : ℕ). bytes_end (52 + 32 * n) i.segments) many in
    subst (λ (at : ℕ). All (λ h. h.offset < 2 ^ 32) (note_headers at i.note)) (sym end) fit

pub returns-clause-exact : goal.returns-clause-exact
returns-clause-exact c =
    let i = contents_of c.args.image.now in
    let many = headers_counted c.args.image.now c.len.result c.note_count.result c.deref.result.now (c.len.ensures ∙ sym c.deref.ensures.len) c.note_count.ensures c.deref.ensures.value in
    let end : c.in_ok-end.end ≡ note_start i
    = c.in_ok-end.ensures.end
    ∙ ap (λ ss. bytes_end (52 + 32 * (c.len.result + c.note_count.result)) (map segment_contents ss)) c.deref.ensures.value
    ∙ ap (λ (n : ℕ). bytes_end (52 + 32 * n) i.segments) many in
    let first = c.in_ok-put_file_header.ensures.bytes ∙ ap (λ xs. xs ++ file_header i.entry (c.len.result + c.note_count.result)) c.new-file.ensures.items ∙ ap (λ (n : ℕ). file_header i.entry n) many in
    let second = c.in_ok-end.ensures.bytes
    ∙ ap (λ ss. c.put_file_header.new.out.items ++ flat_map program_header (headers_of (52 + 32 * (c.len.result + c.note_count.result)) (map segment_contents ss))) c.deref.ensures.value
    ∙ ap (λ (n : ℕ). c.put_file_header.new.out.items ++ flat_map program_header (headers_of (52 + 32 * n) i.segments)) many in
    let third = c.in_ok-put_note_header.ensures.bytes ∙ ap (λ (at : ℕ). c.put_headers.new.out.items ++ flat_map program_header (note_headers at i.note)) end in
    let fourth = c.in_ok-put_all_bytes.ensures ∙ ap (λ ss. c.put_note_header.new.out.items ++ flat_map stored (map segment_contents ss)) c.deref-2.ensures.value in
    written i _ _ _ _ _ first second third fourth c.in_ok-put_note.ensures.bytes

pub returns-clause-read_again : goal.returns-clause-read_again
returns-clause-read_again c =
    let i = contents_of c.args.image.now in
    let many = headers_counted c.args.image.now c.len.result c.note_count.result c.deref.result.now (c.len.ensures ∙ sym c.deref.ensures.len) c.note_count.ensures c.deref.ensures.value in
    let end : c.in_ok-end.end ≡ note_start i
    = c.in_ok-end.ensures.end
    ∙ ap (λ ss. bytes_end (52 + 32 * (c.len.result + c.note_count.result)) (map segment_contents ss)) c.deref.ensures.value
    ∙ ap (λ (n : ℕ). bytes_end (52 + 32 * n) i.segments) many in
    let words = subst (λ ss. All IsInWords (headers_of (52 + 32 * (c.len.result + c.note_count.result)) (map segment_contents ss))) c.deref.ensures.value c.in_ok-end.ensures.words in
    let words' = subst (λ (n : ℕ). All IsInWords (headers_of (52 + 32 * n) i.segments)) many words in
    let more = subst (λ (at : ℕ). All IsInWords (note_headers at i.note)) end c.in_ok-put_note_header.ensures.words in
    ap reading (returns-clause-exact c) ∙ reading-layout i c.requires.well_formed c.requires.fits c.in_ok-put_file_header.ensures.word (All-append IsInWords (headers_of (bytes_start i) i.segments) (note_headers (note_start i) i.note) words' more)
