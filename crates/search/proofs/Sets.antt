-- The least lengths sum below a claim exactly where a cheaper set exists.
use Rattle.std.proofs.Common.{◌≡◌, ℕ, ◌<◌, ◌≤◌, true, List, length, Some, None, Decides, All, Option, sym, ⊎_elim, arith, MatchOption}
use Rattle.std.proofs.lemmas.Bool.{cases_lt, ltb-true, lt-ltb, true≢false}
use Rattle.floor.specs.Floor.{Floor, Lawful}
use Rattle.motion.specs.Routes.{Route, RouteSet, start_of, target_of}
use Rattle.motion.specs.Bans.{Bears, KeepsAll}
use Rattle.motion.specs.Stands.{Keeping, Cheaper}
use Rattle.motion.specs.declared.trip.Trip.{Trip}
use Rattle.motion.specs.declared.ban.Ban.{Ban}
use Rattle.search.specs.Least.{least_below, cheaper}
use Rattle.search.specs.Sums.{sum_below, is_below}
use Rattle.search.proofs.Leasts.{least_below_is}
use Rattle.search.proofs.Sums.{sum_is, given, Lacks, Sums, total_mono, total_part}

module _ (f : Floor) (law : Lawful f) (trips : List Trip) (bans : List Ban) (claim : ℕ) where
  abbrev leasts : ℕ → Option ℕ
  leasts a = least_below f trips bans a claim

  -- the set of the least routes
  module _ (all : (a : ℕ) → a < length trips → leasts a ≡ Some (given leasts a)) where
    keeping : (a : ℕ) → a < length trips → Keeping f trips bans a (given leasts a)
    keeping a h = (((least_below_is f law trips bans a claim).0 (given leasts a)).0 (all a h)).0.some

    kept : (a : ℕ) → (r : ℕ → ℕ) × (a < length trips → Route f (start_of trips a) (target_of trips a) r (given leasts a) × All (Bears trips a r (given leasts a)) bans)
    kept a =
        ⊎_elim (λ lt. let k = keeping a lt in (k.at, λ _. (k.route, k.keeps))) (λ ge. (λ _. 0, λ lt. absurd (omega arith))) (cases_lt a (length trips))

    least_set : RouteSet f trips
    least_set = record { at = λ a. (kept a).0; len = given leasts; route = λ a h. ((kept a).1 h).0 }

    least_set_keeps : KeepsAll least_set bans
    unfolding least_set
    least_set_keeps = λ k d lt a h. ((kept a).1 h).1 k d lt

  cheaper_from : Cheaper f trips bans claim → is_below claim (sum_below leasts (length trips)) ≡ true
  cheaper_from c = by_sum (sum_below leasts (length trips)) (sum_is leasts (length trips))
    where
      keeping_of : (a : ℕ) → a < length trips → Keeping f trips bans a (c.set.len a)
      keeping_of a h = record { at = c.set.at a; route = c.set.route a h; keeps = λ k d lt. c.keeps k d lt a h }

      below : (a : ℕ) → a < length trips → c.set.len a < claim
      below a h = let part = total_part c.set.len (length trips) a h in let sum = c.below in omega arith

      by_sum : (o : Option ℕ) → MatchOption o (Lacks leasts (length trips)) (Sums leasts (length trips)) → is_below claim o ≡ true
      by_sum None lacks =
          absurd ((least_below_is f law trips bans lacks.0 claim).1.0 lacks.2 (c.set.len lacks.0) (below lacks.0 lacks.1) (keeping_of lacks.0 lacks.1))
      by_sum (Some s) sums =
          let least : (a : ℕ) → a < length trips → given leasts a ≤ c.set.len a =
          λ a h. (((least_below_is f law trips bans a claim).0 (given leasts a)).0 (sums.0 a h)).0.least (c.set.len a) (keeping_of a h) in
          let le = total_mono (given leasts) c.set.len (length trips) least in
          let sum = c.below in let is = sums.1 in lt-ltb s claim (omega arith)

  cheaper_to : is_below claim (sum_below leasts (length trips)) ≡ true → Cheaper f trips bans claim
  unfolding least_set
  cheaper_to = by_sum (sum_below leasts (length trips)) (sum_is leasts (length trips))
    where
      by_sum : (o : Option ℕ) → MatchOption o (Lacks leasts (length trips)) (Sums leasts (length trips)) → is_below claim o ≡ true → Cheaper f trips bans claim
      by_sum None lacks e = absurd (true≢false (sym e))
      by_sum (Some s) sums e =
          record { set = least_set sums.0; keeps = least_set_keeps sums.0; below = let lt = ltb-true s claim e in let is = sums.1 in omega arith }

  pub decides_cheaper : Decides (cheaper f trips bans claim) (Cheaper f trips bans claim)
  decides_cheaper = (cheaper_to, cheaper_from)
