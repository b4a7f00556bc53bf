-- lemmas: the costs of code positions, each of which is made from one instruction of the source program
pub mod Costs
-- lemmas: moving words one by one equals copying them at once
pub mod Moves
-- lemmas: agreement of slots, calls and memory in the source and the inlined program
pub mod Agreeing
pub mod Waiting
pub mod Memory
-- lemmas: the effects of instructions in the source and the inlined program
pub mod Performing
pub mod Outside
pub mod Lodged
-- the simulation relation
pub mod Matched
pub mod Steps
pub mod Passing
pub mod Entering
pub mod Inside
pub mod Duplicates
pub mod Returning
-- lemmas: each run of an inlined program is a run of the source program
pub mod Runs
-- lemmas: the chosen calls may be inlined, and the numbers in their instructions fit machine words
pub mod ChoosingCalls
-- lemmas: the code positions of the pieces of code emitted for single instructions, and hence the code emitted for a function
pub mod EmissionPieces
pub mod EmissionSites
pub mod EmissionPlaces
-- lemmas on the loops that emit code: each iteration keeps the loop's invariant
pub mod EmissionLoops
-- lemmas: everything that the emitted code names exists, so an emitted function correctly replaces its source function
pub mod RangesMoved
pub mod RangesCode
pub mod RangesEnds
pub mod RangesFunction
pub mod RangesCopied
-- lemmas: the result of inlining is a plain program, that is, a well-formed program in three-address code
pub mod Whole
pub mod EmissionPrograms
-- lemmas about programs in which each unreachable function keeps only a return
pub mod EmptiedSteps
pub mod EmptiedProgram
pub mod EmptiedFunctions
