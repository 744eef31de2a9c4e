-- A new connection is taken exactly where it passes each of the tests.
use Rattle.std.specs.Prelude.{◌≡◌, ◌<◌, false, ◌≢◌, length, Ok}
use Rattle.std.proofs.Common.{arith}
use Rattle.std.proofs.lemmas.Bool.Decides.{nat_tests}
use Rattle.maps.specs.Members.{has}
use Rattle.maps.specs.Networks.{Network, partners, with_connection, joining}
use Rattle.maps.specs.declared.connection.Connection.{Connection}

pub record Passed (n : Network) (c : Connection) : Type 0 where
  pub few : length n.connections < 4096
  pub first_on : c.first.0 < n.places
  pub second_on : c.second.0 < n.places
  pub apart : c.first.0 ≢ c.second.0
  pub new : has c.second.0 (partners c.first.0 n.connections) ≡ false
  pub first_room : length (partners c.first.0 n.connections) < 8
  pub second_room : length (partners c.second.0 n.connections) < 8

module _ (n : Network) (c : Connection) where
  pub joining_ok : Passed n c → joining n c ≡ Ok (with_connection n c)
  unfolding joining
  joining_ok passed = grind (arith, nat_tests)

  pub passed_from_ok : (m : Network) → joining n c ≡ Ok m → Passed n c × (m ≡ with_connection n c)
  unfolding joining
  passed_from_ok m h = (
    record {
      few = grind (arith, nat_tests);
      first_on = grind (arith, nat_tests);
      second_on = grind (arith, nat_tests);
      apart = grind (arith, nat_tests);
      new = grind (arith, nat_tests);
      first_room = grind (arith, nat_tests);
      second_room = grind (arith, nat_tests);
    },
    grind (arith, nat_tests),
  )
