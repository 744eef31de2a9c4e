-- What every list map is, and is still with one connection more.
use Rattle.std.specs.Prelude.{◌≡◌, ℕ, ◌+◌, ◌<◌, ◌≤◌, [], ◌∷◌, ◌++◌, length, Ok, vec_items, vec_len, slice_index_or, slice_set}
use Rattle.std.proofs.Common.{ap, ◌∙◌, arith}
use Rattle.std.proofs.lemmas.List.{get_or-set_other}
use Rattle.arrayvec.specs.ArrayVec.{ArrayVec, array_vec_len}
use Rattle.floor.specs.Floor.{Lawful}
use Rattle.floor.specs.declared.Place.{Place}
use Rattle.maps.specs.ListMaps.{network_of}
use Rattle.maps.specs.Networks.{Proper, partners, network_floor, with_connection, joining}
use Rattle.maps.specs.Tables.{numbers_in, row_of}
use Rattle.maps.specs.declared.connection.Connection.{Connection}
use Rattle.maps.specs.declared.list.ListMap.{ListMap}
use Rattle.maps.specs.JoiningLemmas.{fits_from_joining, fit_first, fit_second, joining_is_proper}
use Rattle.maps.specs.NetworksLemmas.{lawful_out}
use Rattle.maps.specs.TablesLemmas.{length_numbers_in, row_read, row_push, tied_push}

pub proper_map : (m : ListMap) → Proper (network_of m)
proper_map m = record { lawful = lawful_out (network_of m) m.lawful; few = omega arith }

module _ (m : ListMap) (c : Connection) (ok : joining (network_of m) c ≡ Ok (with_connection (network_of m) c)) where
  pub lawful_more : Lawful (network_floor (with_connection (network_of m) c))
  lawful_more = ((joining_is_proper (network_of m) c (proper_map m)).0 ok).lawful

  pub few_more : vec_len m.connections + 1 ≤ 4096
  few_more = let fits = fits_from_joining (network_of m) c ok in omega arith

  pub ends_on_floor : (c.first.0 < vec_len m.rows) × (c.second.0 < vec_len m.rows)
  ends_on_floor = ((fit_first (network_of m) c ok).on, (fit_second (network_of m) c ok).on)

  -- the row of the first end
  module _ (near : ArrayVec Place) (at_first : near ≡ slice_index_or (vec_items m.rows) c.first.0 near) where
    near_is : numbers_in near ≡ partners c.first.0 (vec_items m.connections)
    near_is = let fit = fit_first (network_of m) c ok in row_read (vec_items m.rows) c.first.0 near (omega arith) at_first ∙ m.tied c.first.0

    pub near_room : array_vec_len near < 8
    near_room = let fit = fit_first (network_of m) c ok in let long = ap length near_is in omega (arith, length_numbers_in near)

    -- then the row of the second
    module _ (more far : ArrayVec Place) (at_second : far ≡ slice_index_or (slice_set (vec_items m.rows) c.first.0 more) c.second.0 far) where
      far_is : numbers_in far ≡ partners c.second.0 (vec_items m.connections)
      far_is =
          let fit = fit_second (network_of m) c ok in
          row_read (vec_items m.rows) c.second.0 far (omega arith) (at_second ∙ get_or-set_other (vec_items m.rows) c.first.0 c.second.0 more far fit.apart) ∙ m.tied c.second.0

      pub far_room : array_vec_len far < 8
      far_room = let fit = fit_second (network_of m) c ok in let long = ap length far_is in omega (arith, length_numbers_in far)

      pub tied_more : (last : ArrayVec Place) → more.items ≡ near.items ++ c.second ∷ [] → last.items ≡ far.items ++ c.first ∷ [] →
          (p : ℕ) → row_of (slice_set (slice_set (vec_items m.rows) c.first.0 more) c.second.0 last) p ≡ partners p (vec_items m.connections ++ c ∷ [])
      tied_more last one_more another =
          let first = fit_first (network_of m) c ok in let second = fit_second (network_of m) c ok in
          tied_push (vec_items m.rows) (vec_items m.connections) c more last m.tied (omega arith) (omega arith) first.apart
          (row_push near more c.second one_more ∙ ap (λ xs. xs ++ c.second.0 ∷ []) near_is) (row_push far last c.first another ∙ ap (λ xs. xs ++ c.first.0 ∷ []) far_is)
