-- The number and the word of each refusal.
use Rattle.std.specs.Prelude.{ℕ, List, codes}
use Rattle.maps.specs.declared.refusal.MapRefusal.{MapRefusal}
use Rattle.maps.specs.declared.refusal.MapRefusal.TheVariants.{Headless, Gauge, Ragged, StrangeSign, Count, NoPlace, Twice, Crowded, Letter, CutShort}

abbrev pub number_of : MapRefusal → ℕ
number_of Headless = 1
number_of Gauge = 2
number_of Ragged = 3
number_of StrangeSign = 4
number_of Count = 5
number_of NoPlace = 6
number_of Twice = 7
number_of Crowded = 8
number_of Letter = 21
number_of CutShort = 22

abbrev pub word_of : MapRefusal → List ℕ
word_of Headless = codes "headless"
word_of Gauge = codes "gauge"
word_of Ragged = codes "ragged"
word_of StrangeSign = codes "strange sign"
word_of Count = codes "count"
word_of NoPlace = codes "no place"
word_of Twice = codes "twice"
word_of Crowded = codes "crowded"
word_of Letter = codes "letter"
word_of CutShort = codes "cut short"
