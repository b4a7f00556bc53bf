-- The proof of the law that each word of memory is found at its address.
use Rattle.cyc_plain.proofs.MemoryLaws.{memory-store, memory-global, memory-active, memory-waiting}
use Rattle.cyc_plain.proofs.laws.words_have_addresses.Goals as goal

pub returns-clause-global : goal.returns-clause-global
returns-clause-global c = λ program c' number well below. memory-global program well c' number below

pub returns-clause-store : goal.returns-clause-store
returns-clause-store c = memory-store

pub returns-clause-active : goal.returns-clause-active
returns-clause-active c = λ program c' slot well lie pinned. memory-active program well c' lie slot pinned

pub returns-clause-waiting : goal.returns-clause-waiting
returns-clause-waiting c = λ program c' k slot f well lie at pinned. memory-waiting program well c' lie k f at slot pinned
