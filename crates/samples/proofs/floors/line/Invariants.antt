use Rattle.std.proofs.Common.{◌≡◌, ◌-◌, ◌++◌}
use Rattle.maps.specs.ListMaps.{network_of}
use Rattle.samples.specs.Floors.{connections_of, joining_all, lining, links}
use Rattle.samples.proofs.floors.line.Given as goal

abbrev pub invariant-loop-p : goal.invariant-loop-p
invariant-loop-p l =
    lining l.places (connections_of l.more) ≡ joining_all (network_of l.map) (links l.p (l.places - l.p) ++ connections_of l.more)
