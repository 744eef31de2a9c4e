-- What a list map means.
use Rattle.std.specs.Prelude.{vec_items, vec_len}
use Rattle.maps.specs.Networks.{Network}
use Rattle.maps.specs.declared.list.ListMap.{ListMap}

abbrev pub network_of : ListMap → Network
network_of m = record { places = vec_len m.rows; connections = vec_items m.connections }
