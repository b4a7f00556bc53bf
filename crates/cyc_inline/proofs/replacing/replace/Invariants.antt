use Rattle.std.proofs.Common.{◌≡◌, ◌++◌, length}
use Rattle.std.specs.Vec.Iter.{into_iter_items, into_iter_len}
use Rattle.cyc_inline.specs.inside.Changes.{replaced, noted}
use Rattle.cyc_inline.proofs.replacing.replace.Given as goal

-- Invariant: the new functions built so far, followed by those still to be built from the remaining functions, are the complete list.
abbrev pub invariant-loop-function : goal.invariant-loop-function
invariant-loop-function l =
    (l.functions.items ++ replaced (into_iter_items l.function-iterator) (into_iter_items l.changes) ≡ replaced l.fn.given.items l.fn.changes.items)
    × (l.opened.items ++ noted (into_iter_items l.function-iterator) (into_iter_items l.changes) ≡ noted l.fn.given.items l.fn.changes.items)
    × (into_iter_len l.function-iterator ≡ length (into_iter_items l.function-iterator))
    × (into_iter_len l.changes ≡ length (into_iter_items l.changes))
