-- Who has whom for a partner in a list of connections.
use Rattle.std.specs.Prelude.{◌≡◌, ℕ, ◌⊎◌, List, [], ◌∷◌, ◌++◌, Decides, Contains, ◌≢◌, nat_eq, refl}
use Rattle.std.proofs.Common.{inl, inr, ⊎_elim, sym, ap, subst, ◌∙◌}
use Rattle.std.proofs.lemmas.List.{append-nil}
use Rattle.std.proofs.lemmas.List.Elements.{Decides-contains}
use Rattle.std.proofs.lemmas.Bool.{cases_eq, cond-true, cond-false, eq-eqb, ne_eqb, true≢false}
use Rattle.std.proofs.lemmas.Bool.Decides.{Decides-at, Decides-eqb, Decides-or, Decides-like, Decides-by_or}
use Rattle.maps.specs.Members.{has}
use Rattle.maps.specs.Networks.{Links, Linked, partners}
use Rattle.maps.specs.declared.connection.Connection.{Connection}

pub decides_has : (q : ℕ) (xs : List ℕ) → Decides (has q xs) (Contains xs q)
decides_has q xs =
    Decides-contains xs q _ (Decides-by_or (λ x. nat_eq x q) (λ x. x ≡ q) (has q) (λ x. Decides-eqb x q) refl (λ _ _. refl) xs)

-- ---- what one connection is to p

-- it goes from p to q
pub record Leads (p : ℕ) (c : Connection) (q : ℕ) : Type 0 where
  pub links : Links p q c
  pub only : (r : ℕ) → Links p r c → q ≡ r
  pub adds : (cs : List Connection) → partners p (c ∷ cs) ≡ q ∷ partners p cs

-- it has no end at p
pub record Passes (p : ℕ) (c : Connection) : Type 0 where
  pub none : (r : ℕ) → Links p r c → ⊥
  pub skips : (cs : List Connection) → partners p (c ∷ cs) ≡ partners p cs

leads_from_first : (p : ℕ) (c : Connection) → c.first.0 ≡ p → Leads p c c.second.0
leads_from_first p c at = record {
  links = inl (at, refl);
  only = λ r. ⊎_elim (λ h. h.1) (λ h. h.1 ∙ sym at ∙ h.0);
  adds = λ cs. cond-true _ _ _ (eq-eqb _ _ at);
}

leads_from_second : (p : ℕ) (c : Connection) → (c.first.0 ≢ p) → c.second.0 ≡ p → Leads p c c.first.0
leads_from_second p c off at = record {
  links = inr (refl, at);
  only = λ r. ⊎_elim (λ h. absurd (off h.0)) (λ h. h.0);
  adds = λ cs. cond-false _ _ _ (ne_eqb _ _ off) ∙ cond-true _ _ _ (eq-eqb _ _ at);
}

pub passes_from_apart : (p : ℕ) (c : Connection) → (c.first.0 ≢ p) → (c.second.0 ≢ p) → Passes p c
passes_from_apart p c off off' = record {
  none = λ r. ⊎_elim (λ h. off h.0) (λ h. off' h.1);
  skips = λ cs. cond-false _ _ _ (ne_eqb _ _ off) ∙ cond-false _ _ _ (ne_eqb _ _ off');
}

pub cases_end : (p : ℕ) (c : Connection) → ((q : ℕ) × Leads p c q) ⊎ Passes p c
cases_end p c =
    ⊎_elim (λ at. inl (c.second.0, leads_from_first p c at))
    (λ off. ⊎_elim (λ at. inl (c.first.0, leads_from_second p c off at)) (λ off'. inr (passes_from_apart p c off off')) (cases_eq c.second.0 p))
    (cases_eq c.first.0 p)

pub leads_from_links : (p q : ℕ) (c : Connection) → Links p q c → Leads p c q
leads_from_links p q c h = ⊎_elim (λ l. subst (Leads p c) (l.1.only q h) l.1) (λ n. absurd (n.none q h)) (cases_end p c)

-- ---- a partner is who a connection joins

pub decides_partner : (p q : ℕ) (cs : List Connection) → Decides (has q (partners p cs)) (Linked p q cs)
decides_partner p q [] = (λ e. true≢false (sym e), λ h. absurd h)
decides_partner p q (c ∷ cs) =
    let rest = decides_partner p q cs in
    ⊎_elim
    (λ l. Decides-at _ _ (ap (has q) (l.1.adds cs))
    (Decides-or _ _ (Decides-like _ (λ e. subst (λ r. Links p r c) e l.1.links) (l.1.only q) (Decides-eqb l.0 q)) rest))
    (λ n. Decides-at _ _ (ap (has q) (n.skips cs)) (Decides-like _ inr (⊎_elim (λ h. absurd (n.none q h)) (λ h. h)) rest))
    (cases_end p c)

pub linked_from_has : (p q : ℕ) (cs : List Connection) → Contains (partners p cs) q → Linked p q cs
linked_from_has p q cs h = (decides_partner p q cs).0 ((decides_has q (partners p cs)).1 h)

pub has_from_linked : (p q : ℕ) (cs : List Connection) → Linked p q cs → Contains (partners p cs) q
has_from_linked p q cs l = (decides_has q (partners p cs)).0 ((decides_partner p q cs).1 l)

pub linked_back : (p q : ℕ) (cs : List Connection) → Linked p q cs → Linked q p cs
linked_back p q [] h = h
linked_back p q (c ∷ cs) (inl h) = inl (⊎_elim inr inl h)
linked_back p q (c ∷ cs) (inr h) = inr (linked_back p q cs h)

-- ---- one list of connections behind another

pub linked_behind : (p q : ℕ) (cs ds : List Connection) → Linked p q ds → Linked p q (cs ++ ds)
linked_behind p q [] ds h = h
linked_behind p q (c ∷ cs) ds h = inr (linked_behind p q cs ds h)

pub linked_cases : (p q : ℕ) (cs ds : List Connection) → Linked p q (cs ++ ds) → Linked p q cs ⊎ Linked p q ds
linked_cases p q [] ds h = inr h
linked_cases p q (c ∷ cs) ds (inl h) = inl (inl h)
linked_cases p q (c ∷ cs) ds (inr h) = ⊎_elim (λ l. inl (inr l)) inr (linked_cases p q cs ds h)

pub partners_append : (p : ℕ) (cs ds : List Connection) → partners p (cs ++ ds) ≡ partners p cs ++ partners p ds
partners_append p [] ds = refl
partners_append p (c ∷ cs) ds =
    let rest = partners_append p cs ds in
    ⊎_elim
    (λ l. l.1.adds (cs ++ ds) ∙ ap (λ xs. l.0 ∷ xs) rest ∙ sym (ap (λ xs. xs ++ partners p ds) (l.1.adds cs)))
    (λ n. n.skips (cs ++ ds) ∙ rest ∙ sym (ap (λ xs. xs ++ partners p ds) (n.skips cs)))
    (cases_end p c)

pub partners_push : (p : ℕ) (cs : List Connection) (c : Connection) (q : ℕ) → Leads p c q → partners p (cs ++ c ∷ []) ≡ partners p cs ++ q ∷ []
partners_push p cs c q l = partners_append p cs (c ∷ []) ∙ ap (λ xs. partners p cs ++ xs) (l.adds [])

pub partners_past : (p : ℕ) (cs : List Connection) (c : Connection) → Passes p c → partners p (cs ++ c ∷ []) ≡ partners p cs
partners_past p cs c n = partners_append p cs (c ∷ []) ∙ ap (λ xs. partners p cs ++ xs) (n.skips []) ∙ append-nil (partners p cs)
