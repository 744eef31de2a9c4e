-- When a connection is joined, and when it is refused.
use Rattle.std.proofs.Common.{◌≡◌, ◌≤◌, Bool, true, false, eqb, leb, ◌||◌, ◌⊎◌, ◌↔◌, Decides, length, Err, inl, inr, ⊎_elim, refl, sym, subst, ◌∙◌, arith}
use Rattle.std.proofs.lemmas.Bool.Decides.{Decides-eqb, Decides-or, not_from_Decides}
use Rattle.floor.proofs.Chains.{err_same, ok_no_err, passes, refused}
use Rattle.floor.proofs.Deciding.{decides_leb, false_from_decides}
use Rattle.maps.specs.JoiningLemmas.{joining_is_proper}
use Rattle.maps.specs.Members.{has}
use Rattle.maps.specs.Networks.{Network, AlreadyJoined, Full, HasEight, JoiningTells, NotJoined, OffFloor, already_joined, crowded, full, joining, off_floor, partners}
use Rattle.maps.specs.PartnersLemmas.{decides_partner}
use Rattle.maps.specs.PassingLemmas.{Passed, joining_ok}
use Rattle.maps.specs.declared.connection.Connection.{Connection}
use Rattle.maps.specs.declared.refusal.MapRefusal.{MapRefusal}
use Rattle.maps.specs.declared.refusal.MapRefusal.TheVariants.{Count, NoPlace, Twice, Crowded}

holds_or_not : {C : Type 0} (test : Bool) → Decides test C → C ⊎ (C → ⊥)
holds_or_not true decides = inl (decides.0 refl)
holds_or_not false decides = inr (not_from_Decides false decides refl)

module _ (n : Network) (c : Connection) where
  decides_full : Decides (leb 4096 (length n.connections)) (Full n)
  decides_full = decides_leb 4096 (length n.connections)

  decides_off_floor : Decides (leb n.places c.first.0 || leb n.places c.second.0) (OffFloor n c)
  decides_off_floor = Decides-or _ _ (decides_leb n.places c.first.0) (decides_leb n.places c.second.0)

  decides_joined : Decides (eqb c.first.0 c.second.0 || has c.second.0 (partners c.first.0 n.connections)) (AlreadyJoined n c)
  decides_joined = Decides-or _ _ (Decides-eqb c.first.0 c.second.0) (decides_partner c.first.0 c.second.0 n.connections)

  decides_crowded : Decides (leb 8 (length (partners c.first.0 n.connections)) || leb 8 (length (partners c.second.0 n.connections))) (HasEight n c.first.0 ⊎ HasEight n c.second.0)
  decides_crowded = Decides-or _ _ (decides_leb 8 _) (decides_leb 8 _)

  refused_from : (e : MapRefusal) → NotJoined n c e → joining n c ≡ Err e
  unfolding joining
  refused_from e (full h) = refused _ Count _ (decides_full.1 h)
  refused_from e (off_floor few h) =
      passes _ Count _ _ (false_from_decides _ decides_full few) (refused _ NoPlace _ (decides_off_floor.1 h))
  refused_from e (already_joined few on h) =
      passes _ Count _ _ (false_from_decides _ decides_full few)
      (passes _ NoPlace _ _ (false_from_decides _ decides_off_floor on) (refused _ Twice _ (decides_joined.1 h)))
  refused_from e (crowded few on new h) =
      passes _ Count _ _ (false_from_decides _ decides_full few)
      (passes _ NoPlace _ _ (false_from_decides _ decides_off_floor on)
      (passes _ Twice _ _ (false_from_decides _ decides_joined new) (refused _ Crowded _ (decides_crowded.1 h))))

  passed_from_none : (Full n → ⊥) → (OffFloor n c → ⊥) → (AlreadyJoined n c → ⊥) → (HasEight n c.first.0 ⊎ HasEight n c.second.0 → ⊥) → Passed n c
  passed_from_none few on new room =
      let first_on : n.places ≤ c.first.0 → ⊥ = λ off. on (inl off) in
      let second_on : n.places ≤ c.second.0 → ⊥ = λ off. on (inr off) in
      let first_room : HasEight n c.first.0 → ⊥ = λ eight. room (inl eight) in
      let second_room : HasEight n c.second.0 → ⊥ = λ eight. room (inr eight) in
      record {
        few = omega arith;
        first_on = omega arith;
        second_on = omega arith;
        apart = λ same. new (inl same);
        new = false_from_decides _ (decides_partner c.first.0 c.second.0 n.connections) (λ linked. new (inr linked));
        first_room = omega arith;
        second_room = omega arith;
      }

  passed_or_not : Passed n c ⊎ ((e : MapRefusal) × NotJoined n c e)
  passed_or_not =
      ⊎_elim (λ h. inr (Count, full h))
      (λ few. ⊎_elim (λ h. inr (NoPlace, off_floor few h))
      (λ on. ⊎_elim (λ h. inr (Twice, already_joined few on h))
      (λ new. ⊎_elim (λ h. inr (Crowded, crowded few on new h)) (λ room. inl (passed_from_none few on new room))
      (holds_or_not _ decides_crowded))
      (holds_or_not _ decides_joined))
      (holds_or_not _ decides_off_floor))
      (holds_or_not _ decides_full)

  refused_exactly : (e : MapRefusal) → (joining n c ≡ Err e) ↔ NotJoined n c e
  refused_exactly e = (
    λ h. ⊎_elim (λ passed. absurd (ok_no_err (sym (joining_ok n c passed) ∙ h))) (λ no. subst (NotJoined n c) (err_same (sym (refused_from no.0 no.1) ∙ h)) no.1) passed_or_not,
    refused_from e,
  )

pub joining_tells : JoiningTells
joining_tells = record { taken = joining_is_proper; refused = refused_exactly }
