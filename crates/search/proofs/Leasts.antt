-- The first possible length is the least length.
use Rattle.std.proofs.Common.{◌≡◌, ℕ, ◌<◌, ◌≤◌, false, ltb, ◌⊎◌, ◌↔◌, List, length, Some, None, Option, sym, subst, inl, inr, ⊎_elim, arith, MatchOption}
use Rattle.std.proofs.lemmas.Bool.{cases_lt, ltb-true, ltb-false, cond_both}
use Rattle.std.proofs.lemmas.Bool.Decides.{not_from_Decides}
use Rattle.floor.specs.Floor.{Floor, Lawful}
use Rattle.motion.specs.Stands.{Keeping, LeastLength}
use Rattle.motion.specs.declared.trip.Trip.{Trip}
use Rattle.motion.specs.declared.ban.Ban.{Ban}
use Rattle.search.specs.Least.{possible, least_below, least_length}
use Rattle.search.specs.Meaning.{NoneBelow, LeastBelow, IsLeast}
use Rattle.search.proofs.Exactly.{cases_map, exactly}
use Rattle.search.proofs.Firsts.{first_is}
use Rattle.search.proofs.Possible.{possible_keeping}

module _ (f : Floor) (trips : List Trip) (bans : List Ban) (a : ℕ) where
  pub least_once : (m n : ℕ) → LeastLength f trips bans a m → LeastLength f trips bans a n → m ≡ n
  least_once m n l k = let low = l.least n k.some in let high = k.least m l.some in omega arith

module _ (f : Floor) (law : Lawful f) (trips : List Trip) (bans : List Ban) (a limit : ℕ) where
  abbrev Least : ℕ → Type 0
  Least n = LeastLength f trips bans a n × (n < limit)

  abbrev Lacks : Type 0
  Lacks = (length trips ≤ a) ⊎ NoneBelow f trips bans a limit

  least_cases : MatchOption (least_below f trips bans a limit) (NoneBelow f trips bans a limit) Least
  least_cases =
      cases_map (least_below f trips bans a limit) (λ none n lt. impossible n (none n lt))
      (λ n first. (record { some = (possible_keeping f law trips bans a n).0 first.1; least = λ m k. ⊎_elim (λ lt. absurd (impossible m (first.2 m lt) k)) (λ le. le) (cases_lt m n) }, first.0))
      (first_is (possible f trips bans a) limit)
    where
      impossible : (n : ℕ) → possible f trips bans a n ≡ false → Keeping f trips bans a n → ⊥
      impossible n = not_from_Decides (possible f trips bans a n) (possible_keeping f law trips bans a n)

  pub least_below_is : ((n : ℕ) → (least_below f trips bans a limit ≡ Some n) ↔ Least n) × ((least_below f trips bans a limit ≡ None) ↔ NoneBelow f trips bans a limit)
  least_below_is = exactly _ _ (λ n none l. none n l.1 l.0.some) (λ m n l k. least_once f trips bans a m n l.0 k.0) _ least_cases

  there_cases : MatchOption (least_length f trips bans a limit) Lacks (LeastBelow f trips bans a limit)
  there_cases =
      cond_both (ltb a (length trips)) (least_below f trips bans a limit) None (λ o. MatchOption o Lacks (LeastBelow f trips bans a limit))
      (λ e. cases_map (least_below f trips bans a limit) inr (λ n l. (ltb-true a (length trips) e, l.0, l.1)) least_cases)
      (λ e. inl (ltb-false a (length trips) e))

  pub least_length_is : (o : Option ℕ) → o ≡ least_length f trips bans a limit → IsLeast f trips bans a limit o
  least_length_is o e = subst (IsLeast f trips bans a limit) (sym e) (exactly _ _ apart (λ m n l k. least_once f trips bans a m n l.1 k.1) _ there_cases)
    where
      apart : (n : ℕ) → Lacks → LeastBelow f trips bans a limit n → ⊥
      apart n lacks l = ⊎_elim (λ gone. let there = l.0 in omega arith) (λ none. none n l.2 l.1.some) lacks
