-- This file proves the bounds of a program's needs, which are returned with the program's tokens.
use Rattle.cyc_types.specs.TypedTrees.{Program}
use Rattle.cyc_compiler.specs.Needs.{AreBounds}
use Rattle.cyc_compiler.specs.declared.bounded.Bounded.{Bounded}

abbrev pub HasBoundsBeside : Program → Bounded → Type 0
HasBoundsBeside p bounded = AreBounds p bounded.bounds
