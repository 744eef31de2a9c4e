-- Calls that are written out are read as they were, up to the plan's end or to what is wrong.
use Rattle.std.proofs.Common.{◌≡◌, ℕ, suc, ◌+◌, ◌-◌, ◌*◌, ◌≤◌, List, [], ◌∷◌, ◌++◌, length, take, drop, true, not, ◌||◌, nat_le, Some, Ok, Err, Result, inl, inr, refl, ap, ap₂, ◌∙◌, sym, subst, length-append, length-drop, arith}
use Rattle.std.specs.List.{flat_map}
use Rattle.std.specs.Result.{result_map_both}
use Rattle.std.proofs.Math.Seq.{drop-append_seam, take-append_seam}
use Rattle.std.proofs.lemmas.Bool.{ne_eqb}
use Rattle.std.proofs.lemmas.Bool.Decides.{nat_tests}
use Rattle.std.proofs.lemmas.List.Elements.{All-head, All-tail}
use Rattle.floor.specs.Checks.{refuse, ◌>>=◌, ◌>>◌}
use Rattle.cursor.specs.Words.{two_bytes}
use Rattle.splits.specs.Rules.{Rules, LawfulRules}
use Rattle.plan.specs.Commands.{Item, commands, found, words}
use Rattle.plan.specs.Cursors.{found_at}
use Rattle.plan.specs.Faults.{call_fault, file_fault}
use Rattle.plan.specs.FirstFault.{NoCall, NoGoingOn, Other, RouteCut, call_refused, file_ends, no_call, no_cart, no_places, no_steps, operands_cut, route_cut, trailing, unknown}
use Rattle.plan.specs.Layout.{CallsText, none, route, splitting, closing}
use Rattle.plan.specs.Reading.{blame, made}
use Rattle.plan.specs.declared.fault.FileRefusal.{FileRefusal}
use Rattle.plan.specs.declared.fault.FileRefusal.TheVariants.{CutShort}
use Rattle.plan.specs.declared.fault.PlanRefusal.{PlanRefusal}
use Rattle.plan.proofs.CallsFind.{Taken}
use Rattle.plan.proofs.Pairs.{length_written, words_written}
use Rattle.plan.proofs.Passing.{read_fault, read_on}
use Rattle.tally.specs.CallAnswers.{after, after_all, answer, answer_of, called, current, operand_bytes, splitting as by_split, tally_of}
use Rattle.tally.specs.CallRefusals.{RefusedBy}
use Rattle.tally.specs.Calls.{Call, show, split, close}
use Rattle.tally.specs.Openings.{Opening, opened}
use Rattle.tally.specs.Refusals.{from_rule}
use Rattle.tally.specs.Tallies.{Tally, with_split}
use Rattle.tally.specs.declared.refusal.Refusal.{Refusal}
use Rattle.tally.specs.declared.refusal.Refusal.TheVariants.{Full, Letter as UnknownLetter}

-- what is left behind calls is a part of the bytes
pub left_within : (r : Rules) (left : List ℕ) (calls : List Call) (bytes : List ℕ) → CallsText r left calls bytes → length left ≤ length bytes
left_within r left calls bytes none = omega arith
left_within r left calls bytes (route ps {calls = others} {bytes = behind} some few text) =
    let there = left_within r left others behind text in simp length-append (omega (arith, there))
left_within r left calls bytes (splitting ops said {calls = others} {bytes = behind} known is same part text) =
    let there = left_within r left others behind text in simp length-append (omega (arith, there))
left_within r left calls bytes (closing {calls = others} {bytes = behind} text) =
    let there = left_within r left others behind text in omega (arith, there)

-- ---- one call

module _ (r : Rules) (at : ℕ) where
  route_written : (a : ℕ) (ps bytes : List ℕ) → 1 ≤ length ps
      → found r at 82 (a ∷ (length ps - 1) ∷ (flat_map two_bytes ps ++ bytes)) ≡ Ok (Some (show a ps, 2 + 2 * length ps))
  route_written a ps bytes some =
      let text = flat_map two_bytes ps in
      let all = text ++ bytes in
      let long = length-append text bytes in
      let size = length_written ps in
      let same : 2 * ((length ps - 1) + 1) ≡ length text = omega (arith, size, some) in
      let enough : nat_le (2 * ((length ps - 1) + 1)) (length all) ≡ true = grind (arith, nat_tests, same, long) in
      let there : take (2 * ((length ps - 1) + 1)) all ≡ text = ap (λ n. take n all) same ∙ take-append_seam text bytes in
      let places : words (take (2 * ((length ps - 1) + 1)) all) ≡ ps = ap words there ∙ words_written ps in
      let width : 2 + 2 * ((length ps - 1) + 1) ≡ 2 + 2 * length ps = omega (arith, some) in
      rw (enough, places, width) refl

  split_written : (letter n : ℕ) (bytes : List ℕ) → Other letter → r.knows letter ≡ true → r.width letter bytes ≡ Some n
      → found r at letter bytes ≡ Ok (Some (split letter bytes, n))
  split_written letter n bytes other known is =
      let route = ne_eqb letter 82 other.no_route in
      let closing = ne_eqb letter 88 other.no_closing in
      let end = ne_eqb letter 90 other.no_end in
      grind (arith, route, closing, end, known, is)

module _ (r : Rules) (law : LawfulRules r) where
  -- the letter of a rule is none of a plan's own
  own_letter : (letter : ℕ) → r.knows letter ≡ true → Other letter
  own_letter letter known = record {
    no_route = λ e. law.fresh letter known (inr (inr (inl e)));
    no_closing = λ e. law.fresh letter known (inr (inr (inr (inl e))));
    no_end = λ e. law.fresh letter known (inr (inr (inr (inr e))));
  }

module _ (o : Opening) (t : Tally) (at : ℕ) (call : Call) (items : List Item) where
  -- a call that is taken leads to the tally after it
  goes_on : answer o t call ≡ Ok tt → made o t (Ok (at, call) ∷ items) ≡ made o (after o t call) items
  goes_on = on (called o t call)
    where
      on : (r : Result Tally Refusal) → answer_of r ≡ Ok tt → (blame at r >>= λ u. made o u items) ≡ made o (tally_of t r) items
      on (Ok u) e = refl
      on (Err e) wrong = grind (arith, wrong)

-- a split is answered by its operands, whatever stands behind them
module _ (o : Opening) (t : Tally) (letter : ℕ) where
  split_by : Result (List ℕ) Refusal → Result Tally Refusal
  split_by found = do
    first ← current t.branches
    refuse (nat_le 64 first.0.depth || nat_le 1000000 t.splits) Full
    refuse (not (o.rules.knows letter)) UnknownLetter
    ops ← found
    sides ← result_map_both (λ x. x) from_rule (o.rules.sides o.floor o.trips first.0.bans letter ops)
    Ok (with_split t first.0 first.1 sides.0 sides.1)

  called_same : (said ops left : List ℕ) → o.rules.width letter said ≡ Some (length ops) → take (length ops) said ≡ ops → o.rules.width letter (ops ++ left) ≡ Some (length ops)
      → called o t (split letter said) ≡ called o t (split letter (ops ++ left))
  unfolding split_by by_split
  called_same said ops left own whole is =
      let here : operand_bytes said (o.rules.width letter said) ≡ Ok ops = ap (operand_bytes said) own ∙ ap Ok whole in
      let there : operand_bytes (ops ++ left) (o.rules.width letter (ops ++ left)) ≡ Ok ops = ap (operand_bytes (ops ++ left)) is ∙ ap Ok (take-append_seam ops left) in
      ap (λ x. opened o >> split_by x) (here ∙ sym there)

-- ---- the first of some calls, as it stands in the bytes

module _ (o : Opening) (law : LawfulRules o.rules) (left : List ℕ) where
  -- what is found in front says the call, or one that is answered as it is; the others stand behind
  record Begins (call : Call) (calls : List Call) (bytes : List ℕ) : Type 0 where
    letter : ℕ
    behind : List ℕ
    said : Call
    width : ℕ
    text : bytes ≡ letter ∷ behind
    is : (at : ℕ) → found o.rules at letter behind ≡ Ok (Some (said, width))
    fits : width ≤ length behind
    others : CallsText o.rules left calls (drop width behind)
    same : (t : Tally) → called o t said ≡ called o t call

  begins : (call : Call) (calls : List Call) (bytes : List ℕ) → CallsText o.rules left (call ∷ calls) bytes → Begins call calls bytes
  begins call calls bytes (route {a = a} ps {bytes = rest} some most text) =
      let written = flat_map two_bytes ps in
      let size = length_written ps in
      let long = length-append written rest in
      let two : suc (suc (length written)) ≡ 2 + 2 * length ps = omega (arith, size) in
      record {
        letter = 82;
        behind = a ∷ (length ps - 1) ∷ (written ++ rest);
        said = call;
        width = 2 + 2 * length ps;
        text = refl;
        is = λ at. route_written o.rules at a ps rest some;
        fits = omega (arith, size, long);
        others = subst (CallsText o.rules left calls) (sym (drop-append_seam written rest) ∙ ap (λ k. drop k (a ∷ (length ps - 1) ∷ (written ++ rest))) two) text;
        same = λ t. refl;
      }
  begins call calls bytes (splitting {letter = letter} ops said {bytes = rest} known is own whole text) =
      let long = length-append ops rest in
      record {
        letter = letter;
        behind = ops ++ rest;
        said = split letter (ops ++ rest);
        width = length ops;
        text = refl;
        is = λ at. split_written o.rules at letter (length ops) (ops ++ rest) (own_letter o.rules law letter known) known is;
        fits = omega (arith, long);
        others = subst (CallsText o.rules left calls) (sym (drop-append_seam ops rest)) text;
        same = λ t. sym (called_same o t letter said ops rest own whole is);
      }
  begins call calls bytes (closing {bytes = rest} text) =
      record { letter = 88; behind = rest; said = close; width = 0; text = refl; is = λ at. refl; fits = omega arith; others = text; same = λ t. refl }

module _ (o : Opening) (law : LawfulRules o.rules) where
  -- calls that are taken lead to what is left behind them
  pub calls_lead : (t : Tally) (at : ℕ) (left : List ℕ) (calls : List Call) (bytes : List ℕ) → CallsText o.rules left calls bytes → Taken o t calls
      → made o t (commands o.rules 0 at bytes) ≡ made o (after_all o t calls) (commands o.rules 0 (at + (length bytes - length left)) left)
  calls_lead t at left [] bytes none taken = let same : at ≡ at + (length left - length left) = omega arith in ap (λ k. made o t (commands o.rules 0 k left)) same
  calls_lead t at left (call ∷ calls) bytes text taken =
      let b = begins o law left call calls bytes text in
      let rest = drop b.width b.behind in
      let there = left_within o.rules left calls rest b.others in
      let long = length-drop b.width b.behind in
      let whole = ap length b.text in
      let place : at + (1 + b.width) + (length rest - length left) ≡ at + (length bytes - length left) = omega (arith, there, long, whole, b.fits) in
      let one : suc b.width ≡ 1 + b.width = omega arith in
      let next : drop (1 + b.width) (b.letter ∷ b.behind) ≡ rest = ap (λ k. drop k (b.letter ∷ b.behind)) (sym one) in
      ap (λ bs. made o t (commands o.rules 0 at bs)) b.text
      ∙ ap (made o t) (read_on o.rules law at (b.letter ∷ b.behind) b.said b.width (b.is at))
      ∙ goes_on o t at b.said _ (ap answer_of (b.same t) ∙ All-head (λ x. x ≡ Ok tt) _ _ taken)
      ∙ ap₂ (λ x bs. made o (tally_of t x) (commands o.rules 0 (at + (1 + b.width)) bs)) (b.same t) next
      ∙ calls_lead (after o t call) _ left calls rest b.others (All-tail (λ x. x ≡ Ok tt) _ _ taken)
      ∙ ap (λ k. made o (after_all o t (call ∷ calls)) (commands o.rules 0 k left)) place

  pub calls_written : (t : Tally) (at : ℕ) (calls : List Call) (bytes : List ℕ) → CallsText o.rules (90 ∷ []) calls bytes → Taken o t calls
      → made o t (commands o.rules 0 at bytes) ≡ Ok (after_all o t calls)
  unfolding commands
  calls_written t at calls bytes text taken = calls_lead t at (90 ∷ []) calls bytes text taken

  -- ---- where the bytes do not go on

  route_cut_found : (at : ℕ) (bytes : List ℕ) → RouteCut bytes → found o.rules at 82 bytes ≡ Err (file_fault CutShort (at + length (82 ∷ bytes)))
  route_cut_found at bytes no_cart = refl
  route_cut_found at bytes no_steps = refl
  route_cut_found at bytes (no_places {steps = steps} {bytes = behind} few) =
      let place : at + 3 + length behind ≡ at + suc (suc (suc (length behind))) = omega arith in
      grind (arith, nat_tests, few, place)

  no_call_found : (at : ℕ) (bytes : List ℕ) (e : FileRefusal) (k : ℕ) → NoCall o.rules bytes e k → found_at o.rules at bytes ≡ Err (file_fault e (at + k))
  no_call_found at bytes e k file_ends = let same : at ≡ at + 0 = omega arith in ap (λ j. Err (file_fault CutShort j)) same
  no_call_found at bytes e k (unknown {letter = letter} other is) =
      let place : at ≡ at + 0 = omega arith in
      let route = ne_eqb letter 82 other.no_route in
      let closing = ne_eqb letter 88 other.no_closing in
      let end = ne_eqb letter 90 other.no_end in
      grind (arith, route, closing, end, is, place)
  no_call_found at bytes e k (route_cut {bytes = behind} cut) = route_cut_found at behind cut
  no_call_found at bytes e k (operands_cut {letter = letter} {bytes = behind} other known cut) =
      let place : at + 1 + length behind ≡ at + suc (length behind) = omega arith in
      let route = ne_eqb letter 82 other.no_route in
      let closing = ne_eqb letter 88 other.no_closing in
      let end = ne_eqb letter 90 other.no_end in
      grind (arith, route, closing, end, known, cut, place)
  no_call_found at bytes e k trailing = refl

  refused_made : (t : Tally) (at : ℕ) (items : List Item) (call : Call) (e : Refusal) → called o t call ≡ Err e → made o t (Ok (at, call) ∷ items) ≡ Err (call_fault e at)
  refused_made t at items call e is = ap (λ x. blame at x >>= λ u. made o u items) is

  pub stopped_made : (t : Tally) → ((call : Call) (e : Refusal) → RefusedBy o t call e → called o t call ≡ Err e) → (at : ℕ) (bytes : List ℕ) (e : PlanRefusal) (k : ℕ) → NoGoingOn o t bytes e k
      → made o t (commands o.rules 0 at bytes) ≡ Err (record { refusal = e; offset = at + k })
  stopped_made t refuses at bytes e k (no_call {e = d} wrong) = ap (made o t) (read_fault o.rules at bytes (file_fault d (at + k)) (no_call_found at bytes d k wrong))
  stopped_made t refuses at bytes e k (call_refused {call = call} {rest = left} {e = d} text refused) =
      let b = begins o law left call [] bytes text in
      let place : at ≡ at + 0 = omega arith in
      ap (λ bs. made o t (commands o.rules 0 at bs)) b.text
      ∙ ap (made o t) (read_on o.rules law at (b.letter ∷ b.behind) b.said b.width (b.is at))
      ∙ refused_made t at _ b.said d (b.same t ∙ refuses call d refused)
      ∙ ap (λ j. Err (call_fault d j)) place
