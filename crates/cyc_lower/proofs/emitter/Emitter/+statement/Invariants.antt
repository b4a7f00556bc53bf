use Rattle.std.specs.Prelude.{◌+◌, ◌++◌, ◌≤◌, length}
use Rattle.cyc_types.specs.TypedTreeView.{items_of, clauses_of}
use Rattle.cyc_types.specs.TypedTrees.{Clauses, NoClauses}
use Rattle.cyc_meaning.specs.FrameCount.{kept_by_clauses}
use Rattle.cyc_lower_proof.specs.inside.Lowering.{items_code}
use Rattle.cyc_lower.specs.inside.Emission.{most_locals, view_starts}
use Rattle.cyc_lower.proofs.emission.Emitting.{Remains}
use Rattle.cyc_lower.proofs.emission.Branching.{ItemsRemain, ClosesLeft}
use Rattle.cyc_lower.proofs.emission.Handlers.{all_clauses}
use Rattle.cyc_lower.proofs.emitter.Emitter.+statement.Given as goal

abbrev pub invariant-lower_items-loop-item : goal.invariant-lower_items-loop-item
invariant-lower_items-loop-item l = ItemsRemain (view_starts l.starts) l.fn.self.code.items l.items l.fn.exits l.free l.item-index l.self.code.items l.inside l.following

abbrev pub decreases-lower_items-loop-following : goal.decreases-lower_items-loop-following
decreases-lower_items-loop-following l = l.following

abbrev pub invariant-lower_items-loop-following : goal.invariant-lower_items-loop-following
invariant-lower_items-loop-following l =
    ClosesLeft (l.fn.self.code.items ++ items_code (view_starts l.starts) (items_of l.items) (length l.fn.self.code.items) l.fn.exits l.free) l.self.code.items l.free l.following

abbrev pub invariant-lower_clauses-loop-clause : goal.invariant-lower_clauses-loop-clause
invariant-lower_clauses-loop-clause l =
    ((default : Clauses) → Remains (all_clauses (view_starts l.starts) default l.out l.exits) l.fn.self.code.items l.clauses l.fn.free l.clause-index l.self.code.items l.free)
    × (l.exits.head ≤ length l.self.code.items) × (l.free + kept_by_clauses (clauses_of l.clauses NoClauses) ≤ most_locals)
