use Rattle.std.proofs.Common.{◌≡◌, take}
use Rattle.cyc_calls.specs.inside.Instances.{instance_in}
use Rattle.cyc_calls.proofs.at_call.regions_in.Given as goal

abbrev pub invariant-loop-region : goal.invariant-loop-region
invariant-loop-region l =
    l.all.items ≡ instance_in (take l.region-index l.table)
