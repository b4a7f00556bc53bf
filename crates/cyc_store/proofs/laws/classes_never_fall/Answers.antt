-- This file proves the law that the number of pages of each size class never decreases.
use Rattle.cyc_store.proofs.ServiceLemmas.{serves-classes, serves-greatest}
use Rattle.cyc_store.proofs.laws.classes_never_fall.Goals as goal

pub returns-clause-never : goal.returns-clause-never
returns-clause-never c = serves-classes

pub returns-clause-greatest : goal.returns-clause-greatest
returns-clause-greatest c = serves-greatest
