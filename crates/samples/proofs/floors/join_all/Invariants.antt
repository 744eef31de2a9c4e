use Rattle.std.proofs.Common.{◌≡◌, drop}
use Rattle.maps.specs.ListMaps.{network_of}
use Rattle.samples.specs.Floors.{connections_of, joining_all}
use Rattle.samples.proofs.floors.join_all.Given as goal

abbrev pub invariant-loop-p : goal.invariant-loop-p
invariant-loop-p l = joining_all (network_of l.fn.map) (connections_of l.pairs) ≡ joining_all (network_of l.map) (connections_of (drop l.p-index l.pairs))
