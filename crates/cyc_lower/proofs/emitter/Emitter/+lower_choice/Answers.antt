use Rattle.cyc_types.specs.TypeView.{view_ty}
use Rattle.cyc_lower.proofs.emission.Emitting.{binary_viewed}
use Rattle.cyc_lower.proofs.emitter.Emitter.+lower_choice.Goals as goal

pub choose_chain-requires-clause-chain : goal.choose_chain-requires-clause-chain
choose_chain-requires-clause-chain t c = (
  view_ty c.in-Binary.of_type,
  binary_viewed c.args.value.now c.in-Binary.first c.in-Binary.rest c.in-Binary.of_type c.in-Binary.is c.deref.result.now c.deref.ensures c.deref-in-Binary.result.now c.deref-in-Binary.ensures.value,
)
