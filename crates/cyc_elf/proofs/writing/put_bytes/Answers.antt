use Rattle.std.proofs.Common.{◌≡◌, ◌++◌, ◌-◌, length, replicate, sym, ap, ◌∙◌}
use Rattle.cyc_elf.specs.Image.{padded}
use Rattle.cyc_elf.proofs.Appends.{appends_both, padding_zeros}
use Rattle.cyc_elf.proofs.writing.put_bytes.Goals as goal

pub returns : goal.returns
returns c =
    let start = c.args.out.now.items in
    let bytes = c.args.s.now.bytes.items in
    let first = c.in_ok-extend_from_slice.ensures.items ∙ ap (λ xs. start ++ xs) c.deref.ensures.value in
    let len : c.len.result ≡ length bytes = c.len.ensures ∙ sym c.deref.ensures.len ∙ ap length c.deref.ensures.value in
    let zeros = padding_zeros c.padding.result (length bytes) (c.padding.ensures ∙ ap (λ n. padded n - n) len) in
    let second = c.in_ok-extend_from_slice-2.ensures.items ∙ ap (λ xs. c.extend_from_slice.new.self.items ++ xs) zeros in
    appends_both start _ c.extend_from_slice-2.new.self.items bytes (replicate (padded (length bytes) - length bytes) 0) first second
