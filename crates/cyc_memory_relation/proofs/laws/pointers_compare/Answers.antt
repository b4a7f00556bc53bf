-- Comparison of pointers.
use Rattle.cyc_memory_relation.proofs.Pointers.{thin-is}
use Rattle.cyc_memory_relation.proofs.Comparing.{thin-compared}
use Rattle.cyc_memory_relation.proofs.laws.pointers_compare.Goals as goal

pub returns : goal.returns
returns c = λ t w s from to u v words others place other equal related apart thin also is beside found.
    thin-compared related apart from to u v (words place) (others other) equal (thin-is t from u words place thin is) (thin-is t to v others other also beside) found
