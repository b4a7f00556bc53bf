use Rattle.std.proofs.Common.{◌≡◌, ◌++◌, length, map}
use Rattle.std.specs.Vec.Iter.{into_iter_items, into_iter_len}
use Rattle.cyc_plain.specs.inside.Program.{routine_of}
use Rattle.cyc_inline.specs.inside.Changes.{notes_of}
use Rattle.cyc_inline.specs.inside.Emptied.{routines_kept, notes_kept}
use Rattle.cyc_inline.proofs.emptying.keep_all.Given as goal

-- Invariant: the functions of the new program built so far, followed by those that the loop will still
-- build, are the complete list of functions.
abbrev pub invariant-loop-function : goal.invariant-loop-function
invariant-loop-function l =
    (map routine_of l.functions.items ++ routines_kept (map routine_of (into_iter_items l.function-iterator)) (into_iter_items l.reached)
    ≡ routines_kept (map routine_of l.fn.given.items) l.fn.reached.items)
    × (notes_of l.kept.items ++ notes_kept (map routine_of (into_iter_items l.function-iterator)) (notes_of (into_iter_items l.opened)) (into_iter_items l.reached)
    ≡ notes_kept (map routine_of l.fn.given.items) (notes_of l.fn.opened.items) l.fn.reached.items)
    × (into_iter_len l.function-iterator ≡ length (into_iter_items l.function-iterator))
    × (into_iter_len l.opened ≡ length (into_iter_items l.opened))
    × (into_iter_len l.reached ≡ length (into_iter_items l.reached))
