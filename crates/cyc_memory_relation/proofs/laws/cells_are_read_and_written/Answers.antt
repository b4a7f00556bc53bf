-- This file proves the law about reading and writing cells.
use Rattle.cyc_memory_relation.proofs.Cells.{found-either, element-found, cell-live, cell-read, related-written}
use Rattle.cyc_memory_relation.proofs.laws.cells_are_read_and_written.Goals as goal

pub returns-clause-either : goal.returns-clause-either
returns-clause-either c = λ t w s object offset at related found. (found-either related object offset at found).0

pub returns-clause-live : goal.returns-clause-live
returns-clause-live c = λ t w s object offset word handle at related found alive points j below.
    cell-live related alive points (found-either related object offset at found).1 j below

pub returns-clause-read : goal.returns-clause-read
returns-clause-read c = λ t w s object offset word handle at related found alive points.
    cell-read related alive points (found-either related object offset at found).1

pub returns-clause-element : goal.returns-clause-element
returns-clause-element c = λ t w s object start count word index at related part below found. element-found related index at part below found

pub returns-clause-written : goal.returns-clause-written
returns-clause-written c = λ t w s object offset word handle at m v related found alive points words others value.
    related-written related alive points (found-either related object offset at found).1 m v words others value
