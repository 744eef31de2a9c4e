-- Two rules side by side: a letter is answered by the first to know it.
use Rattle.std.specs.Prelude.{cond, ◌||◌}
use Rattle.splits.specs.Rules.{Rules}

-- the first of two rules where it knows the letter, else the second
abbrev pub beside : Rules → Rules → Rules
beside a b = record {
  knows = λ l. a.knows l || b.knows l;
  width = λ l bytes. cond (a.knows l) (a.width l bytes) (b.width l bytes);
  sides = λ f trips bans l ops. cond (a.knows l) (a.sides f trips bans l ops) (b.sides f trips bans l ops);
}
