use Rattle.std.proofs.Common.{[], ◌∷◌}
use Rattle.std.specs.Io.KnownBytes.{Consumes, Keeps, IsAtEnd}
use Rattle.std.proofs.KnownBytes.{Consumes-trans}
use Rattle.cyc_interpret.proofs.Starts.{end_seen}
use Rattle.cyc_interpret.proofs.run.read_all.Goals as goal

pub returns-in-Ok-None-clause-ends : goal.returns-in-Ok-None-clause-ends
returns-in-Ok-None-clause-ends g c =
    let remaining = g.R.ByteIn.remaining in
    let told : IsAtEnd (remaining c.loop.reader) × Keeps (remaining c.loop.reader) (remaining c.next.new.self) = rw c.in-Ok-None.field-0-is at c.in-Ok-None.ensures.bytes in
    end_seen (remaining c.args.reader.now) (remaining c.loop.reader) (remaining c.next.new.self) c.loop.input.items c.loop.invariant told.0 told.1

pub returns-then-is_err-clause-some : goal.returns-then-is_err-clause-some
returns-then-is_err-clause-some g c =
    let remaining = g.R.ByteIn.remaining in
    let told : Consumes (remaining c.loop.reader) (remaining c.next.new.self) (c.in-Ok-Some.byte ∷ []) = rw c.in-Ok-Some.field-0-is at c.in-Ok-Some.ensures.bytes in
    (_, Consumes-trans _ _ _ _ _ c.loop.invariant told)
