use Rattle.std.proofs.Common.{◌≡◌, length}
use Rattle.maps.specs.ListMaps.{network_of}
use Rattle.mapfile.specs.ListFiles.{connecting, list_reading}
use Rattle.mapfile.proofs.list.fill_list.Given as goal

-- what is left decides
abbrev pub invariant-loop-rest : goal.invariant-loop-rest
invariant-loop-rest l = list_reading l.bytes ≡ connecting (network_of l.map) 0 l.rest.at l.rest.bytes.now

abbrev pub decreases-loop-rest : goal.decreases-loop-rest
decreases-loop-rest l = length l.rest.bytes.now
