use Rattle.std.proofs.Common.{◌+◌, vec_len, arith}
use Rattle.cyc_types.specs.TypedTreeView.{view_program}
use Rattle.cyc_bound.specs.Bound.{Alone}
use Rattle.cyc_bound.proofs.WalkLemmas.{row_counts}
use Rattle.cyc_bound.proofs.bound.bound_of_calls.Goals as goal

pub bound_from-requires-clause-row : goal.bound_from-requires-clause-row
bound_from-requires-clause-row c =
    let main = c.args.tree.now.main in
    row_counts (view_program c.args.tree.now) main main 1 (vec_len c.new-path.result + 1) (omega (arith, c.new-path.ensures.len)) (Alone main)
