-- The `W` commands of a list file, and the connections that they come to.
use Rattle.std.proofs.Common.{◌≡◌, ℕ, zero, suc, ◌+◌, ◌<◌, ◌≤◌, List, [], ◌∷◌, ◌++◌, length, drop, Ok, Err, Result, MatchResult, sym, refl, ap, ap₂, ◌∙◌, subst, add-zero, zero-add, arith}
use Rattle.std.specs.List.{flat_map}
use Rattle.std.proofs.Math.Seq.{drop-append_seam}
use Rattle.std.proofs.lemmas.List.{append-nil, append_assoc}
use Rattle.std.proofs.lemmas.List.Elements.{All-drop}
use Rattle.std.proofs.lemmas.Result.{MatchResult-weaker}
use Rattle.cursor.proofs.Commands.{bytes_behind, operands_missed, operands_read, operands_tell}
use Rattle.cursor.proofs.Words.{word_back, words_back}
use Rattle.cursor.specs.Commands.{missing, operands, told}
use Rattle.cursor.specs.Exactly.{Misses, Stands}
use Rattle.cursor.specs.Rests.{Rest, rest}
use Rattle.cursor.specs.Words.{Bytes, two_bytes}
use Rattle.cursor.specs.declared.missing.Missing.{Missing}
use Rattle.floor.specs.Checks.{◌>>=◌}
use Rattle.maps.specs.Networks.{Network, Proper, joining, with_connection}
use Rattle.maps.specs.declared.connection.Connection.{Connection}
use Rattle.maps.specs.JoiningLemmas.{joining_is_proper}
use Rattle.maps.specs.NetworksLemmas.{proper_front, proper_prefix}
use Rattle.maps.proofs.Joining.{joining_tells}
use Rattle.maps.specs.PassingLemmas.{passed_from_ok}
use Rattle.maps.specs.declared.refusal.MapRefusal.{MapRefusal}
use Rattle.mapfile.specs.Faults.{fault, missing_fault}
use Rattle.mapfile.specs.ListFiles.{connection, connected, connecting, blame}
use Rattle.mapfile.specs.ListLayout.{connection_text, NoContinuing, no_connection, connection_refused}
use Rattle.mapfile.specs.declared.fault.Fault.{Fault}

-- the network with more connections
abbrev pub extended : Network → List Connection → Network
extended n cs = record { places = n.places; connections = n.connections ++ cs }

abbrev pub texts : List Connection → List ℕ
texts = flat_map connection_text

extended_none : (n : Network) → extended n [] ≡ n
extended_none n = ap (λ cs. record { places = n.places; connections = cs }) (append-nil n.connections)

extended_more : (n : Network) (c : Connection) (cs : List Connection) → extended (with_connection n c) cs ≡ extended n (c ∷ cs)
extended_more n c cs = ap (λ cs. record { places = n.places; connections = cs }) (append_assoc n.connections (c ∷ []) cs)

-- ---- one command

-- what comes of the operands that were read: the connection, and the network that it is joined to
abbrev named : Result (List ℕ × Rest) Missing → Result (Connection × Rest) Missing
named read = read >>= λ r. Ok (connection r.0, r.1)

abbrev with_rest : ℕ → Rest → Result Network MapRefusal → Result (Network × Rest) Fault
with_rest at left x = blame at x >>= λ j. Ok (j, left)

abbrev joined : Network → ℕ → Result (List ℕ × Rest) Missing → Result (Network × Rest) Fault
joined n at read = told missing_fault (named read) >>= λ c. with_rest at c.1 (joining n c.0)

-- a connection's text stands there, and leads from n to a network that is a list map
pub record Joins (n : Network) (at : ℕ) (bytes : List ℕ) (m : Network) (left : Rest) : Type 0 where
  pub new : Connection
  pub text : bytes ≡ connection_text new ++ left.bytes
  pub place : left.at ≡ at + 5
  pub longer : m ≡ with_connection n new
  pub proper : Proper m

-- the file does not go on from here
pub record Halts (n : Network) (at : ℕ) (bytes : List ℕ) (f : Fault) : Type 0 where
  pub into : ℕ
  pub place : f.offset ≡ at + into
  pub wrong : NoContinuing n bytes f.refusal into

module _ (n : Network) (proper : Proper n) (at : ℕ) where
  abbrev Tells : List ℕ → Result (Network × Rest) Fault → Type 0
  Tells bytes told = MatchResult told (λ next. Joins n at bytes next.0 next.1) (Halts n at bytes)

  joining_told : (c : Connection) (left : Rest) → left.at ≡ at + 5 → (x : Result Network MapRefusal) → joining n c ≡ x
      → Tells (connection_text c ++ left.bytes) (with_rest at left x)
  joining_told c left place (Ok j) is =
      let longer = (passed_from_ok n c j is).1 in
      let taken = subst (λ m. joining n c ≡ Ok m) longer is in
      record { new = c; text = refl; place = place; longer = longer; proper = subst Proper (sym longer) ((joining_is_proper n c proper).0 taken) }
  joining_told c left place (Err e) is = record { into = 0; place = sym (add-zero at); wrong = connection_refused c ((joining_tells.refused n c e).0 is) }

  connection_tells : (b : ℕ) (bytes : List ℕ) → Bytes (b ∷ bytes) → Tells (b ∷ bytes) (connected n (rest at (b ∷ bytes)))
  connection_tells b bytes low = by (operands 87 4 (rest at (b ∷ bytes))) (operands_tell 87 4 (rest at (b ∷ bytes)))
    where
      by : (x : Result (List ℕ × Rest) Missing) → MatchResult x (λ r. Stands 87 4 (rest at (b ∷ bytes)) r.0 r.1) (Misses 87 4 (rest at (b ∷ bytes))) → Tells (b ∷ bytes) (joined n at x)
      by (Err m) misses = record { into = misses.into; place = misses.place; wrong = no_connection misses.wrong }
      by (Ok read) stands =
          let ops = bytes_behind 87 4 (rest at (b ∷ bytes)) read.0 read.1 stands low in
          let place = stands.place in
          subst (λ bs. Tells bs (joined n at (Ok read))) (sym (stands.text ∙ ap (λ ops. 87 ∷ (ops ++ read.1.bytes)) (sym (words_back read.0 ops.0 stands.whole))))
          (joining_told (connection read.0) read.1 (omega arith) (joining n (connection read.0)) refl)

-- a connection's text is read as it was, and it is joined or refused
connection_due : (n : Network) (c : Connection) (at : ℕ) (more : List ℕ) → connected n (rest at (connection_text c ++ more)) ≡ with_rest at (rest (at + 1 + 4) more) (joining n c)
connection_due n c at more =
    let ops = two_bytes c.first.0 ++ two_bytes c.second.0 in
    let back : connection ops ≡ c = ap₂ (λ x y. record { first = record { 0 = x }; second = record { 0 = y } }) (word_back c.first.0) (word_back c.second.0) in
    ap (joined n at) (operands_read 87 4 (rest at (87 ∷ (ops ++ more))) ops (rest (at + 1 + 4) more) (record { text = refl; whole = refl; place = refl }))
    ∙ ap (λ d. with_rest at (rest (at + 1 + 4) more) (joining n d)) back

-- ---- one after the other

-- the bytes that are still due to a command are passed over
passed : (n : Network) (due at : ℕ) (bytes : List ℕ) → connecting n due at bytes ≡ connecting n 0 (at + due) (drop due bytes)
passed n zero at bytes = ap (λ k. connecting n 0 k bytes) (sym (add-zero at))
passed n (suc due) at [] = refl
passed n (suc due) at (b ∷ bytes) = passed n due (at + 1) bytes ∙ ap (λ k. connecting n 0 k (drop due bytes)) (omega arith)

behind_connection : (n : Network) (at b : ℕ) (bytes ops : List ℕ) (left : Rest) → Stands 87 4 (rest at (b ∷ bytes)) ops left → connecting n 4 (at + 1) bytes ≡ connecting n 0 left.at left.bytes
behind_connection n at b bytes ops left stands =
    let place = stands.place in
    let behind : drop 4 bytes ≡ left.bytes = ap (λ bs. drop 5 bs) stands.text ∙ ap (λ k. drop k (ops ++ left.bytes)) (sym stands.whole) ∙ drop-append_seam ops left.bytes in
    passed n 4 (at + 1) bytes ∙ ap₂ (λ k bs. connecting n 0 k bs) (omega arith) behind

-- the bytes are the texts of connections that lead from n to m
pub record Reads (n : Network) (bytes : List ℕ) (m : Network) : Type 0 where
  pub more : List Connection
  pub text : bytes ≡ texts more
  pub whole : m ≡ extended n more
  pub proper : Proper m

-- connections' texts, and then what does not go on
pub record Stops (n : Network) (at : ℕ) (bytes : List ℕ) (f : Fault) : Type 0 where
  pub more : List Connection
  pub behind : List ℕ
  pub into : ℕ
  pub proper : Proper (extended n more)
  pub text : bytes ≡ texts more ++ behind
  pub place : f.offset ≡ at + (length (texts more) + into)
  pub wrong : NoContinuing (extended n more) behind f.refusal into

module _ (n : Network) (proper : Proper n) (at : ℕ) (bytes : List ℕ) where
  stops_here : (f : Fault) → Halts n at bytes f → Stops n at bytes f
  stops_here f halts =
      record {
        more = [];
        behind = bytes;
        into = halts.into;
        proper = subst Proper (sym (extended_none n)) proper;
        text = refl;
        place = halts.place ∙ ap (λ k. at + k) (sym (zero-add halts.into));
        wrong = subst (λ m. NoContinuing m bytes f.refusal halts.into) (sym (extended_none n)) halts.wrong;
      }

  module _ (m : Network) (left : Rest) (j : Joins n at bytes m left) where
    longer : (cs : List Connection) → extended m cs ≡ extended n (j.new ∷ cs)
    longer cs = ap (λ m. extended m cs) j.longer ∙ extended_more n j.new cs

    reads_later : (whole : Network) → Reads m left.bytes whole → Reads n bytes whole
    reads_later whole r =
        record { more = j.new ∷ r.more; text = j.text ∙ ap (λ bs. connection_text j.new ++ bs) r.text; whole = r.whole ∙ longer r.more; proper = r.proper }

    stops_later : (f : Fault) → Stops m left.at left.bytes f → Stops n at bytes f
    stops_later f s =
        let place = s.place in
        let there = j.place in
        record {
          more = j.new ∷ s.more;
          behind = s.behind;
          into = s.into;
          proper = subst Proper (longer s.more) s.proper;
          text = j.text ∙ ap (λ bs. connection_text j.new ++ bs) s.text;
          place = omega arith;
          wrong = subst (λ m. NoContinuing m s.behind f.refusal s.into) (longer s.more) s.wrong;
        }

pub connecting_tells : (most : ℕ) (n : Network) (at : ℕ) (bytes : List ℕ) → length bytes ≤ most → Bytes bytes → Proper n → MatchResult (connecting n 0 at bytes) (Reads n bytes) (Stops n at bytes)
connecting_tells most n at [] fits low proper = record { more = []; text = refl; whole = sym (extended_none n); proper = proper }
connecting_tells zero n at (b ∷ bytes) fits low proper = absurd (omega arith)
connecting_tells (suc most) n at (b ∷ bytes) fits low proper =
    by (connecting_tells most) (connected n (rest at (b ∷ bytes))) (connection_tells n proper at b bytes low)
  where
    by : ((m : Network) (k : ℕ) (bs : List ℕ) → length bs ≤ most → Bytes bs → Proper m → MatchResult (connecting m 0 k bs) (Reads m bs) (Stops m k bs)) → (x : Result (Network × Rest) Fault)
        → MatchResult x (λ next. Joins n at (b ∷ bytes) next.0 next.1) (Halts n at (b ∷ bytes))
        → MatchResult (x >>= λ next. connecting next.0 4 (at + 1) bytes) (Reads n (b ∷ bytes)) (Stops n at (b ∷ bytes))
    by later (Err f) halts = stops_here n proper at (b ∷ bytes) f halts
    by later (Ok next) joins =
        let left = next.1 in
        let shorter : length left.bytes ≤ most = let long = ap length joins.text in omega (arith, long) in
        let fewer = subst Bytes (ap (λ bs. drop 5 bs) joins.text) (All-drop (λ x. x < 256) 5 (b ∷ bytes) low) in
        let stands : Stands 87 4 (rest at (b ∷ bytes)) (two_bytes joins.new.first.0 ++ two_bytes joins.new.second.0) left = let place = joins.place in record { text = joins.text; whole = refl; place = omega arith } in
        subst (λ r. MatchResult r (Reads n (b ∷ bytes)) (Stops n at (b ∷ bytes))) (sym (behind_connection next.0 at b bytes _ left stands))
        (MatchResult-weaker (connecting next.0 0 left.at left.bytes) (later next.0 left.at left.bytes shorter fewer joins.proper)
        (reads_later n proper at (b ∷ bytes) next.0 left joins) (stops_later n proper at (b ∷ bytes) next.0 left joins))

-- ---- and back

-- connections' texts are read, and then what stands behind them
pub connecting_on : (cs : List Connection) (n : Network) (at : ℕ) (behind : List ℕ) → Proper (extended n cs) → connecting n 0 at (texts cs ++ behind) ≡ connecting (extended n cs) 0 (at + length (texts cs)) behind
connecting_on [] n at behind proper = ap₂ (λ m k. connecting m 0 k behind) (sym (extended_none n)) (sym (add-zero at))
connecting_on (c ∷ cs) n at behind proper =
    let longer = subst Proper (sym (extended_more n c cs)) proper in
    let front = proper_prefix n.places (n.connections ++ c ∷ []) cs longer in
    let taken = (joining_is_proper n c (proper_front n c front)).1 front in
    ap (λ x. x >>= λ next. connecting next.0 4 (at + 1) (drop 1 (connection_text c ++ (texts cs ++ behind)))) (connection_due n c at (texts cs ++ behind) ∙ ap (with_rest at (rest (at + 1 + 4) (texts cs ++ behind))) taken)
    ∙ connecting_on cs (with_connection n c) (at + 1 + 1 + 1 + 1 + 1) behind longer ∙ ap₂ (λ m k. connecting m 0 k behind) (extended_more n c cs) (omega arith)

-- what cannot go on is refused
pub connecting_halts : (n : Network) (at : ℕ) (bytes : List ℕ) (e : MapRefusal) (k : ℕ) → NoContinuing n bytes e k → connecting n 0 at bytes ≡ Err (fault e (at + k))
connecting_halts n at bytes e k (no_connection {b = b} {bytes = behind} {lack = lack} wrong) =
    ap (λ x. joined n at x >>= λ next. connecting next.0 4 (at + 1) behind) (operands_missed 87 4 (rest at (b ∷ behind)) (missing lack (at + k)) (record { into = k; place = refl; wrong = wrong }))
connecting_halts n at bytes e k (connection_refused {bytes = behind} c why) =
    rw add-zero (ap (λ x. x >>= λ next. connecting next.0 4 (at + 1) (drop 1 (connection_text c ++ behind))) (connection_due n c at behind ∙ ap (with_rest at (rest (at + 1 + 4) behind)) ((joining_tells.refused n c e).1 why)))
