use Rattle.std.proofs.Common.{◌≡◌, ◌*◌, ◌≤◌, ap, arith}
use Rattle.cyc_types.specs.TypedTrees.{Program}
use Rattle.cyc_types.specs.TypedTreeView.{view_program}
use Rattle.cyc_types.specs.Weight.{program_weight}
use Rattle.cyc_meaning.specs.Sizes.{size_per_weight}
use Rattle.cyc_lower_proof.specs.inside.Lowered.{IsLowered}
use Rattle.cyc_compiler.specs.inside.Chain.{IsProgramOf}
use Rattle.cyc_compiler.proofs.Passes.{lowered_is, inlined_is, simplified_is}
use Rattle.cyc_compiler.proofs.compiler.lower_improved.Goals as goal

pub returns : goal.returns
returns c =
    let d = c.in_ok-plain.ensures in
    let (p, (same, few), is) = d.accepted in
    record {
      accepted = (p, (same, few), through p same is);
      refused = tt;
      accepts = λ q accepted. through q accepted.0 (d.accepts q accepted);
      refuses = d.refuses;
    }
  where
    through : (q : Program) → q ≡ view_program c.args.program.now.tree → IsLowered q c.in_ok-plain.plain → IsProgramOf q c.in_ok-simplified.simplified
    through q same is =
        let made = c.in_ok-inlined.ensures in
        let named = c.in_ok-named.ensures in
        let room : c.room_for-room.result ≤ size_per_weight * program_weight q = omega (arith, c.room_for-room.ensures, ap (λ (r : Program). size_per_weight * program_weight r) same) in
        simplified_is q c.in_ok-named.named.plain c.in_ok-simplified.simplified named.inlined.plain.well_formed.main
        (inlined_is q c.in_ok-inlined.inlined.plain c.in_ok-named.named.plain c.room_for-room.result made.inlined.plain.well_formed.main
        (inlined_is q c.in_ok-plain.plain c.in_ok-inlined.inlined.plain c.room_for-room.result is.well_formed.main (lowered_is q c.in_ok-plain.plain is) made.inlined made.size room)
        named.inlined named.size room)
        c.in_ok-simplified.ensures
