use Rattle.std.proofs.Common.{rules, ◌≡◌, ◌∙◌, ◌++◌, [], ◌∷◌, decimal, append_assoc}
use Rattle.cyc_isa.specs.Text.{signed_text}
use Rattle.cyc_isa.proofs.TextLemmas.{TakesText-parts, TakesText-stopped}
use Rattle.cyc_isa.proofs.text.put_based.Goals as goal

pub returns-in_err-put_two-clause-bytes : goal.returns-in_err-put_two-clause-bytes
returns-in_err-put_two-clause-bytes g c =
    let offset : c.as_bytes.result.now ≡ signed_text c.args.offset = search rules in
    TakesText-stopped (g.W.ByteOut.written c.args.out.now) (g.W.ByteOut.written c.put_two.new.out)
    (c.as_bytes.result.now ++ 40 ∷ 36 ∷ []) (decimal c.args.base.number ++ 41 ∷ []) _
    c.from_residual.result (rw offset (simp append_assoc)) c.from_residual.ensures.0 c.in_err-put_two.ensures.bytes

pub returns-clause-bytes : goal.returns-clause-bytes
returns-clause-bytes g c =
    let offset : c.as_bytes.result.now ≡ signed_text c.args.offset = search rules in
    let base : c.as_bytes-2.result.now ≡ decimal c.args.base.number = c.as_bytes-2.ensures.value ∙ c.format-2.ensures.text in
    TakesText-parts (g.W.ByteOut.written c.args.out.now) (g.W.ByteOut.written c.put_two.new.out) (g.W.ByteOut.written c.put_two-2.new.out)
    (c.as_bytes.result.now ++ 40 ∷ 36 ∷ []) (c.as_bytes-2.result.now ++ 41 ∷ []) _
    c.put_two-2.result (rw (offset, base) (simp append_assoc)) c.in_ok-put_two.ensures.bytes c.put_two-2.ensures.bytes
