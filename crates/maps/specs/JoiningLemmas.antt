-- The tests of a new connection refuse exactly what is not proper.
use Rattle.std.specs.Prelude.{◌≡◌, ℕ, ◌<◌, ◌⊎◌, List, [], ◌∷◌, ◌++◌, length, Ok, refl}
use Rattle.std.proofs.Common.{inl, inr, ⊎_elim, sym, arith}
use Rattle.std.proofs.lemmas.List.{length_push}
use Rattle.std.proofs.lemmas.Bool.Decides.{not_from_Decides}
use Rattle.floor.proofs.Deciding.{false_from_decides}
use Rattle.floor.specs.Floor.{Joined, Lawful}
use Rattle.maps.specs.Networks.{Network, Links, Linked, Proper, JoiningIsProper, partners, network_floor, with_connection, joining}
use Rattle.maps.specs.declared.connection.Connection.{Connection}
use Rattle.maps.specs.NetworksLemmas.{linked_from_joined, joined_from_linked, joined_back}
use Rattle.maps.specs.OnceLemmas.{once_push, once_new}
use Rattle.maps.specs.PartnersLemmas.{cases_end, leads_from_links, decides_partner, linked_from_has, has_from_linked, linked_back, linked_behind, linked_cases, partners_push, partners_past}
use Rattle.maps.specs.PassingLemmas.{joining_ok, passed_from_ok}

-- what a new connection asks of its end p, with q at the other end
pub record Fit (n : Network) (p q : ℕ) : Type 0 where
  pub on : p < n.places
  pub apart : p ≡ q → ⊥
  pub new : Linked p q n.connections → ⊥
  pub room : length (partners p n.connections) < 8

pub record Fits (n : Network) (c : Connection) : Type 0 where
  pub few : length n.connections < 4096
  pub ends : (p q : ℕ) → Links p q c → Fit n p q

module _ (n : Network) (c : Connection) where
  abbrev cs : List Connection
  cs = n.connections

  abbrev one : ℕ
  one = c.first.0

  abbrev other : ℕ
  other = c.second.0

  pub fit_first : joining n c ≡ Ok (with_connection n c) → Fit n one other
  fit_first h =
      let tests = (passed_from_ok n c _ h).0 in
      record { on = tests.first_on; apart = tests.apart; new = not_from_Decides _ (decides_partner one other cs) tests.new; room = tests.first_room }

  pub fit_second : joining n c ≡ Ok (with_connection n c) → Fit n other one
  fit_second h =
      let tests = (passed_from_ok n c _ h).0 in
      record { on = tests.second_on; apart = λ e. tests.apart (sym e); new = λ l. (fit_first h).new (linked_back other one cs l); room = tests.second_room }

  pub fits_from_joining : joining n c ≡ Ok (with_connection n c) → Fits n c
  fits_from_joining h = record {
    few = (passed_from_ok n c _ h).0.few;
    ends = λ p q. ⊎_elim (λ l. rw (l.0, l.1) at (fit_first h)) (λ l. rw (l.0, l.1) at (fit_second h));
  }

  pub joining_from_fits : Fits n c → joining n c ≡ Ok (with_connection n c)
  joining_from_fits fits =
      let first = fits.ends one other (inl (refl, refl)) in let second = fits.ends other one (inr (refl, refl)) in
      joining_ok n c
      (record {
        few = fits.few;
        first_on = first.on;
        second_on = second.on;
        apart = first.apart;
        new = false_from_decides _ (decides_partner one other cs) first.new;
        first_room = first.room;
        second_room = second.room;
      })

  pub proper_from_fits : Proper n → Fits n c → Proper (with_connection n c)
  proper_from_fits proper fits = record {
    lawful = record {
      has_a_place = law.has_a_place;
      at_most_1024 = law.at_most_1024;
      at_most_8_neighbours = λ p. ⊎_elim
          (λ l. let long = length_push (partners p cs) l.0 in let room = (fits.ends p l.0 l.1.links).room in rw (partners_push p cs c l.0 l.1) (omega arith))
          (λ past. rw (partners_past p cs c past) (law.at_most_8_neighbours p)) (cases_end p c);
      on_floor = λ p q j. ⊎_elim (λ l. law.on_floor p q (joined_from_linked n p q l))
          (⊎_elim (λ l. ((fits.ends p q l).on, (fits.ends q p (⊎_elim inr inl l)).on)) (λ h. absurd h)) (cases p q j);
      not_its_own = λ p j. ⊎_elim (λ l. law.not_its_own p (joined_from_linked n p p l)) (⊎_elim (λ l. (fits.ends p p l).apart refl) (λ h. h)) (cases p p j);
      once = λ p. ⊎_elim
          (λ l. rw (partners_push p cs c l.0 l.1) (once_push (partners p cs) l.0 (law.once p) (λ h. (fits.ends p l.0 l.1.links).new (linked_from_has p l.0 cs h))))
          (λ past. rw (partners_past p cs c past) (law.once p)) (cases_end p c);
      both_ways = joined_back (with_connection n c);
    };
    few = let long = length_push cs c in let lt = fits.few in omega arith;
  }
    where
      law : Lawful (network_floor n)
      law = proper.lawful

      cases : (p q : ℕ) → Joined (network_floor (with_connection n c)) p q → Linked p q cs ⊎ Linked p q (c ∷ [])
      cases p q j = linked_cases p q cs (c ∷ []) (linked_from_joined (with_connection n c) p q j)

  pub fits_from_proper : Proper (with_connection n c) → Fits n c
  fits_from_proper proper = record {
    few = let long = length_push cs c in let le = proper.few in omega arith;
    ends = λ p q h. record {
      on = (law.on_floor p q (joined p q h)).0;
      apart = λ e. law.not_its_own p (rw (sym e) at (joined p q h));
      new = λ l. once_new (partners p cs) q (rw (more p q h) at (law.once p)) (has_from_linked p q cs l);
      room = let long = length_push (partners p cs) q in let le = rw (more p q h) at (law.at_most_8_neighbours p) in omega arith;
    };
  }
    where
      law : Lawful (network_floor (with_connection n c))
      law = proper.lawful

      joined : (p q : ℕ) → Links p q c → Joined (network_floor (with_connection n c)) p q
      joined p q h = joined_from_linked (with_connection n c) p q (linked_behind p q cs (c ∷ []) (inl h))

      more : (p q : ℕ) → Links p q c → partners p (cs ++ c ∷ []) ≡ partners p cs ++ q ∷ []
      more p q h = partners_push p cs c q (leads_from_links p q c h)

pub joining_is_proper : JoiningIsProper
joining_is_proper n c proper = (
  λ h. proper_from_fits n c proper (fits_from_joining n c h),
  λ more. joining_from_fits n c (fits_from_proper n c more),
)
