-- This file proves the law that the typing of the heap state (regions and objects) only grows.
use Rattle.cyc_soundness.proofs.states.WorldLemmas.{type_grown}
use Rattle.cyc_soundness.proofs.states.StackClaims.{stack_grown}
use Rattle.cyc_soundness.proofs.laws.typings_stay.Goals as goal

pub returns-clause-values : goal.returns-clause-values
returns-clause-values c = type_grown

pub returns-clause-stacks : goal.returns-clause-stacks
returns-clause-stacks c = stack_grown
