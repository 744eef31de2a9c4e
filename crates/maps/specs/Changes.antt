-- What it is to change a thing as it is defined.
use Rattle.std.specs.Prelude.{◌≡◌, Ok, Err, Result}

-- a thing becomes the one that is defined; or it is refused as that is, and stays as it was
abbrev pub Changed : {Thing Meaning Refusal : Type 0} → (Thing → Meaning) → Result Meaning Refusal → Thing → Thing → Result (Unit {0}) Refusal → Type 0
Changed means defined before after (Ok _) = defined ≡ Ok (means after)
Changed means defined before after (Err e) = (defined ≡ Err e) × (after ≡ before)
