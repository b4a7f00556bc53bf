-- This file proves the law about pointer arithmetic and tests for null.
use Rattle.cyc_memory_relation.proofs.Pointers.{fat-moved, thin-null_test, fat-null_test}
use Rattle.cyc_memory_relation.proofs.laws.pointers_compute.Goals as goal

pub returns-clause-moved : goal.returns-clause-moved
returns-clause-moved c = fat-moved

pub returns-clause-thin_null : goal.returns-clause-thin_null
returns-clause-thin_null c = thin-null_test

pub returns-clause-fat_null : goal.returns-clause-fat_null
returns-clause-fat_null c = fat-null_test
