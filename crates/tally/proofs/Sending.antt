-- Calls that are due at the open branches, merged with shows that fit, are all taken.
use Rattle.std.proofs.Common.{◌≡◌, ℕ, suc, ◌+◌, ◌<◌, ◌≤◌, List, [], ◌∷◌, ◌++◌, length, Ok, All, refl, arith}
use mathlib.Core.Path.{subst⁻¹}
use Rattle.motion.specs.declared.ban.Ban.{Ban}
use Rattle.std.proofs.lemmas.List.Elements.{All-cons, All-nil, All-push}
use Rattle.tally.specs.CallAnswers.{after_all, answer_of, answers, called, tally_of}
use Rattle.tally.specs.Calls.{Call, Closable, Gives, Showable, Takes, by_close, by_show, by_split, close, show, split}
use Rattle.tally.specs.Openings.{Opening, Openable, LawfulOpening}
use Rattle.tally.specs.Tallies.{Branch, Shown, Tally, under}
use Rattle.tally.specs.Plans.{Merged, none, from_left, from_right}
use Rattle.tally.proofs.Taking.{call_exactly}
use Rattle.tally.proofs.Telling.{Filled}

-- the calls, of which this many are splits, close all the branches, the first one first
pub data Due (o : Opening) : List Branch → ℕ → List Call → Type 0 where
  none_due : Due o [] 0 []
  close_due : {b : Branch} {rest : List Branch} {n : ℕ} {cs : List Call} → Closable o b.bans → Due o rest n cs → Due o (b ∷ rest) n (close ∷ cs)
  split_due : {b : Branch} {rest : List Branch} {n letter : ℕ} {bytes : List ℕ} {cs : List Call} {left right : Ban} → b.depth < 64 → Gives o b.bans letter bytes left right
      → Due o (under b left ∷ under b right ∷ rest) n cs → Due o (b ∷ rest) (suc n) (split letter bytes ∷ cs)

-- the calls show one route after the other, from what is shown to what is shown in the end
pub data ToShow (o : Opening) : List Shown → List Call → List Shown → Type 0 where
  none_left : {shown : List Shown} → ToShow o shown [] shown
  show_next : {shown end : List Shown} {a : ℕ} {ps : List ℕ} {cs : List Call} → Showable o shown a ps → ToShow o (shown ++ (record { cart = a; places = ps } ∷ [])) cs end
      → ToShow o shown (show a ps ∷ cs) end

module _ (o : Opening) (sound : LawfulOpening o) (openable : Openable o) where
  -- all calls are taken, and lead to no open branch and these shown routes
  pub record Leads (t : Tally) (cs : List Call) (end : List Shown) : Type 0 where
    pub all_taken : All (λ r. r ≡ Ok tt) (answers o t cs)
    pub none_open : (after_all o t cs).branches ≡ []
    pub shown : (after_all o t cs).shown ≡ end

  leads_more : (t : Tally) (c : Call) (u : Tally) (cs : List Call) (end : List Shown) → Filled t.shown → Takes o t c u → Leads u cs end → Leads t (c ∷ cs) end
  leads_more t c u cs end filled taken leads =
      let is : called o t c ≡ Ok u = (call_exactly o sound t filled c u).1 (openable, taken) in
      record {
        all_taken = subst⁻¹ (λ r. All (λ x. x ≡ Ok tt) (answer_of r ∷ answers o (tally_of t r) cs)) is (All-cons (λ x. x ≡ Ok tt) (Ok tt) (answers o u cs) refl leads.all_taken);
        none_open = subst⁻¹ (λ r. (after_all o (tally_of t r) cs).branches ≡ []) is leads.none_open;
        shown = subst⁻¹ (λ r. (after_all o (tally_of t r) cs).shown ≡ end) is leads.shown;
      }

  pub sent : (splits closings : ℕ) (bs : List Branch) (n : ℕ) (shown end : List Shown) {xs ys zs : List Call} → Merged xs ys zs → Due o bs n xs → ToShow o shown ys end → Filled shown → splits + n ≤ 1000000
      → Leads (record { branches = bs; shown = shown; splits = splits; closings = closings }) zs end
  sent splits closings bs n shown end none none_due none_left filled few = record { all_taken = All-nil (λ r. r ≡ Ok tt); none_open = refl; shown = refl }
  sent splits closings bs n shown end (from_left m) (close_due {rest = rest} closable due) shows filled few =
      leads_more _ close _ _ end filled (by_close refl closable) (sent splits (suc closings) rest n shown end m due shows filled few)
  sent splits closings bs n shown end (from_left m) (split_due deep gives due) shows filled few =
      leads_more _ (split _ _) _ _ end filled (by_split refl deep (omega arith) gives) (sent (suc splits) closings _ _ shown end m due shows filled (omega arith))
  sent splits closings bs n shown end (from_right m) due (show_next showable shows) filled few =
      leads_more _ (show _ _) _ _ end filled (by_show showable) (sent splits closings bs n _ end m due shows (All-push (λ s. 1 ≤ length s.places) shown _ filled showable.route.some) few)
