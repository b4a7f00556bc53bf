use Rattle.std.proofs.Common.{◌≡◌, ◌+◌, ◌-◌, ◌++◌, replicate}
use Rattle.cyc_inline.specs.inside.Opened.{passing}
use Rattle.cyc_inline.proofs.emission.Emission.push_passing.Given as goal

-- Invariant: the moves emitted so far, followed by the moves of the remaining words, are all moves.
abbrev pub invariant-loop-word : goal.invariant-loop-word
invariant-loop-word l = record {
  code : l.self.code.items ++ passing (l.destination + l.word) (l.source + l.word) (l.count - l.word)
      ≡ l.fn.self.code.items ++ passing l.destination l.source l.count;
  origins : l.self.origins.items ++ replicate (l.count - l.word) l.origin ≡ l.fn.self.origins.items ++ replicate l.count l.origin;
}
