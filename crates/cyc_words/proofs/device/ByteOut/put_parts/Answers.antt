-- If writing one of several parts fails, then the device has taken the parts before it and a prefix of this part's own bytes.
use Rattle.std.specs.Borrow.{Bor}
use Rattle.std.proofs.Common.{ℕ, List, []}
use Rattle.cyc_words.proofs.DeviceLemmas.{TakesText_part_exit}
use Rattle.cyc_words.proofs.device.ByteOut.put_parts.Goals as goal

pub returns-in_err-put_all-clause-bytes : goal.returns-in_err-put_all-clause-bytes
returns-in_err-put_all-clause-bytes g c =
    TakesText_part_exit (λ (part : Bor (List ℕ)). part.now)
    (g.Self.ByteOut.written c.args.self.now) (g.Self.ByteOut.written c.loop-part.self)
    (g.Self.ByteOut.written c.put_all.new.self) c.args.parts.now c.loop-part.part-index
    (record { ref_ptr = (0, 0); now = [] }) c.from_residual.result c.loop-part-test.true
    c.from_residual.ensures.0 c.loop-part.invariant.taken c.in_err-put_all.ensures.bytes
