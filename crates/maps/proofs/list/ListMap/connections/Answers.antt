use Rattle.maps.specs.ListMaps.{network_of}
use Rattle.maps.specs.ListMapsLemmas.{proper_map}
use Rattle.maps.specs.NetworksLemmas.{neighbours_are_linked}
use Rattle.maps.proofs.list.ListMap.connections.Goals as goal

pub returns-clause-proper : goal.returns-clause-proper
returns-clause-proper c = proper_map c.args.self.now

pub returns-clause-linked : goal.returns-clause-linked
returns-clause-linked c = neighbours_are_linked (network_of c.args.self.now)
