use Rattle.std.proofs.Common.{ℕ, List, inr, refl, subst}
use Rattle.cyc_words.specs.Device.{AppendsPrefix}
use Rattle.cyc_source_commands.proofs.formatting.format_to.Goals as goal

pub returns : goal.returns
returns g c = (
  c.in_ok-laid.laid.items,
  c.in_ok-laid.ensures.accepted,
  inr (
    refl,
    subst (λ (l : List ℕ). AppendsPrefix (g.W.ByteOut.written c.args.writer.now) (g.W.ByteOut.written c.put_all.new.self) l) c.as_slice.ensures.value c.in-Err.ensures.bytes,
  ),
)
