-- What the calls of a plan are found to come to, case by case.
use Rattle.std.proofs.Common.{◌≡◌, ℕ, zero, suc, ◌+◌, ◌-◌, ◌*◌, ◌<◌, ◌≤◌, List, [], ◌∷◌, ◌++◌, length, take, drop, Some, None, Ok, Err, Result, All, refl, ap, ap₂, ◌∙◌, sym, subst, length-drop, arith}
use Rattle.std.proofs.lemmas.List.{take-append-drop, length-take-le}
use Rattle.std.proofs.lemmas.List.Elements.{All-cons, All-drop, All-nil, All-take}
use Rattle.floor.specs.Checks.{◌>>=◌}
use Rattle.floor.specs.Floor.{Lawful}
use Rattle.cursor.specs.Words.{Bytes}
use Rattle.splits.specs.Rules.{Rules, LawfulRules}
use Rattle.plan.specs.Commands.{Found, before_others, commands, found, words}
use Rattle.plan.specs.FirstFault.{file_ends, NoGoingOn, no_call, call_refused}
use Rattle.plan.specs.Layout.{CallsText, none, route, splitting, closing}
use Rattle.plan.specs.Reading.{blame, made}
use Rattle.plan.specs.declared.fault.Fault.{Fault}
use Rattle.plan.specs.declared.fault.PlanRefusal.{PlanRefusal}
use Rattle.plan.proofs.Found.{Finds, a_route, a_closing, a_split, the_end, nothing, finds, fits}
use Rattle.plan.proofs.Pairs.{length_words, written_words}
use Rattle.tally.specs.CallAnswers.{Reached, after, after_all, answer_of, answers, called, tally_of}
use Rattle.tally.specs.Calls.{Call, show, split}
use Rattle.tally.specs.Openings.{Opening}
use Rattle.tally.specs.Tallies.{Tally}
use Rattle.tally.specs.declared.refusal.Refusal.{Refusal}
use Rattle.tally.proofs.Reaching.{filled, reached_more}
use Rattle.tally.proofs.Taking.{refusal_exactly}

-- ---- a command's text

module _ (r : Rules) (law : LawfulRules r) (at : ℕ) where
  -- a call that was found, and its text before those behind
  call_text : (left : List ℕ) (calls : List Call) (letter : ℕ) (bytes : List ℕ) (call : Call) (n : ℕ) → Bytes (letter ∷ bytes)
      → Finds r at letter bytes (Ok (Some (call, n))) → CallsText r left calls (drop n bytes) → CallsText r left (call ∷ calls) (letter ∷ bytes)
  call_text left calls letter bytes call n low (a_route {a = a} {steps = steps} {rest = rest} enough) behind =
      let size = 2 * (steps + 1) in
      let part = take size rest in
      let ps = words part in
      let long = length-take-le size rest enough in
      let count = length_words (steps + 1) part long in
      let text = written_words (steps + 1) part (All-take (λ b. b < 256) size rest (All-drop (λ b. b < 256) 3 (82 ∷ a ∷ steps ∷ rest) low)) long in
      let few = low 2 0 (omega arith) in
      let two : 2 + size ≡ suc (suc size) = omega arith in
      let last : length ps - 1 ≡ steps = omega (arith, count) in
      subst (CallsText r left (show a ps ∷ calls)) (ap₂ (λ s b. 82 ∷ a ∷ s ∷ b) last (ap (λ b. b ++ drop size rest) text ∙ take-append-drop size rest))
      (route ps (omega (arith, count)) (omega (arith, count, few)) (subst (CallsText r left calls) (ap (λ k. drop k (a ∷ steps ∷ rest)) two) behind))
  call_text left calls letter bytes call n low a_closing behind = closing behind
  call_text left calls letter bytes call n low (a_split other known is) behind =
      let whole = take-append-drop n bytes in
      let long = length-take-le n bytes (law.fits letter bytes n is) in
      subst (λ bs. CallsText r left (split letter bytes ∷ calls) (letter ∷ bs)) whole
      (splitting (take n bytes) bytes known (ap (r.width letter) whole ∙ is ∙ ap Some (sym long)) (is ∙ ap Some (sym long)) (ap (λ k. take k bytes) long) behind)

-- ---- the calls

-- each call is taken
abbrev pub Taken : Opening → Tally → List Call → Type 0
Taken o t calls = All (λ answer. answer ≡ Ok tt) (answers o t calls)

-- what making the calls that the bytes hold comes to
pub data MadeFinds (o : Opening) (t : Tally) (at : ℕ) (bytes : List ℕ) : Result Tally Fault → Type 0 where
  all_made : (calls : List Call) → CallsText o.rules (90 ∷ []) calls bytes → Taken o t calls → MadeFinds o t at bytes (Ok (after_all o t calls))
  stopped : {e : PlanRefusal} {k offset : ℕ} (calls : List Call) (rest : List ℕ) → CallsText o.rules rest calls bytes → Taken o t calls
      → NoGoingOn o (after_all o t calls) rest e k → length rest ≤ length bytes → offset ≡ at + (length bytes - length rest) + k
      → MadeFinds o t at bytes (Err (record { refusal = e; offset = offset }))

module _ (o : Opening) (floor : Lawful o.floor) (law : LawfulRules o.rules) (at : ℕ) where
  taken_more : (t u : Tally) (call : Call) (calls : List Call) → called o t call ≡ Ok u → Taken o u calls → Taken o t (call ∷ calls)
  taken_more t u call calls is taken =
      All-cons (λ answer. answer ≡ Ok tt) _ _ (ap answer_of is) (subst (λ v. Taken o v calls) (sym (ap (tally_of t) is)) taken)

  -- a call that is taken, before those behind
  made_more : (t u : Tally) (letter : ℕ) (bytes : List ℕ) (call : Call) (n : ℕ) (x : Result Tally Fault) → Bytes (letter ∷ bytes)
      → Finds o.rules at letter bytes (Ok (Some (call, n))) → called o t call ≡ Ok u → MadeFinds o u (at + 1 + n) (drop n bytes) x → MadeFinds o t at (letter ∷ bytes) x
  made_more t u letter bytes call n x low finding is (all_made calls text taken) =
      let next : after o t call ≡ u = ap (tally_of t) is in
      subst (λ v. MadeFinds o t at (letter ∷ bytes) (Ok (after_all o v calls))) next
      (all_made (call ∷ calls) (call_text o.rules law at (90 ∷ []) calls letter bytes call n low finding text)
      (taken_more t u call calls is taken))
  made_more t u letter bytes call n x low finding is (stopped {e = e} {k = k} calls rest text taken wrong within place) =
      let next : after o t call ≡ u = ap (tally_of t) is in
      let there = fits o.rules law at letter bytes call n finding in
      let left = length-drop n bytes in
      stopped (call ∷ calls) rest (call_text o.rules law at rest calls letter bytes call n low finding text) (taken_more t u call calls is taken)
      (subst (λ v. NoGoingOn o (after_all o v calls) rest e k) (sym next) wrong) (omega (arith, within, left)) (omega (arith, within, left, there, place))

  -- one call, where it is known what is found and what comes of those behind
  made_step : (t : Tally) → Reached o t → (letter : ℕ) (bytes : List ℕ) → Bytes (letter ∷ bytes)
      → ((u : Tally) → Reached o u → (n : ℕ) → n ≤ length bytes → MadeFinds o u (at + 1 + n) (drop n bytes) (made o u (commands o.rules n (at + 1) bytes)))
      → (x : Found) → Finds o.rules at letter bytes x → MadeFinds o t at (letter ∷ bytes) (made o t (before_others at x (λ n. commands o.rules n (at + 1) bytes)))
  made_step t reached letter bytes low later (Err f) (nothing wrong is) = stopped [] (letter ∷ bytes) none (All-nil (λ answer. answer ≡ Ok tt)) (no_call wrong) (omega arith) (omega (arith, is))
  made_step t reached letter bytes low later (Ok None) the_end = all_made [] none (All-nil (λ answer. answer ≡ Ok tt))
  made_step t reached letter bytes low later (Ok (Some (call, n))) finding = by (called o t call) refl
    where
      by : (y : Result Tally Refusal) → called o t call ≡ y → MadeFinds o t at (letter ∷ bytes) (blame at y >>= λ u. made o u (commands o.rules n (at + 1) bytes))
      by (Ok u) is = made_more t u letter bytes call n _ low finding is (later u (subst (Reached o) (ap (tally_of t) is) (reached_more o t call reached)) n (fits o.rules law at letter bytes call n finding))
      by (Err e) is =
          stopped [] (letter ∷ bytes) none (All-nil (λ answer. answer ≡ Ok tt))
          (call_refused (call_text o.rules law at (drop n bytes) [] letter bytes call n low finding none) ((refusal_exactly o (record { floor = floor; rules = law }) t (filled o (record { floor = floor; rules = law }) t reached) call e).0 is)) (omega arith) (omega arith)

module _ (o : Opening) (floor : Lawful o.floor) (law : LawfulRules o.rules) where
  pub made_find : (t : Tally) → Reached o t → (due at : ℕ) (bytes : List ℕ) → due ≤ length bytes → Bytes bytes
      → MadeFinds o t (at + due) (drop due bytes) (made o t (commands o.rules due at bytes))
  unfolding commands
  made_find t reached zero at [] enough low = stopped [] [] none (All-nil (λ answer. answer ≡ Ok tt)) (no_call file_ends) (omega arith) (omega arith)
  made_find t reached (suc due) at [] enough low = absurd (omega (arith, enough))
  made_find t reached (suc due) at (b ∷ bytes) enough low =
      let same : at + 1 + due ≡ at + suc due = omega arith in
      subst (λ k. MadeFinds o t k (drop due bytes) (made o t (commands o.rules due (at + 1) bytes))) same
      (made_find t reached due (at + 1) bytes (omega (arith, enough)) (All-drop (λ x. x < 256) 1 (b ∷ bytes) low))
  made_find t reached zero at (b ∷ bytes) enough low =
      let same : at ≡ at + 0 = omega arith in
      subst (λ k. MadeFinds o t k (b ∷ bytes) (made o t (before_others at (found o.rules at b bytes) (λ n. commands o.rules n (at + 1) bytes)))) same
      (made_step o floor law at t reached b bytes low (λ u reaches n there. made_find u reaches n (at + 1) bytes there (All-drop (λ x. x < 256) 1 (b ∷ bytes) low)) _ (finds o.rules at b bytes))
