-- New objects.
use Rattle.cyc_memory_relation.proofs.Making.{open-home, allocated, allocated-unique, points-made, part-made}
use Rattle.cyc_memory_relation.proofs.laws.objects_are_made.Goals as goal

pub returns-clause-home : goal.returns-clause-home
returns-clause-home c = λ t w s number handle r related found entry. open-home related number handle r found entry

pub returns-clause-region : goal.returns-clause-region
returns-clause-region c = λ t w s number handle r cells choice related there kept entry blank none allowed.
    allocated related number handle r cells there kept entry choice blank none allowed

pub returns-clause-unique : goal.returns-clause-unique
returns-clause-unique c = λ t w s cells choice related blank short none allowed. allocated-unique related cells choice blank short none allowed

pub returns-clause-points : goal.returns-clause-points
returns-clause-points c = λ t w s handle first cells choice related short allowed. points-made related handle first cells choice short allowed

pub returns-clause-array : goal.returns-clause-array
returns-clause-array c = λ t w s handle count kind choice related short allowed. part-made related handle count kind choice short allowed
