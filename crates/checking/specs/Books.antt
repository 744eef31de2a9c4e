-- The tally that a book holds.
use Rattle.tally.specs.Tallies.{Tally}
use Rattle.checking.specs.OpenBranches.{branches_of}
use Rattle.checking.specs.ShownRoutes.{shown_in}
use Rattle.checking.specs.declared.book.Book.{Book}

abbrev pub tally_in : Book → Tally
tally_in b = record { branches = branches_of b.branches; shown = shown_in b.routes; splits = b.splits; closings = b.closings }
