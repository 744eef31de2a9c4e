use Rattle.std.proofs.Common.{[], ap, ◌∙◌, arith}
use Rattle.cases.specs.Worked.{line_of, meeting}
use Rattle.std.specs.Prelude.{false}
use Rattle.cases.proofs.Cases.{worked_cases}
use Rattle.cases.proofs.worked.settle_small_floor.Goals as goal

-- it is the case of number 14
pub returns : goal.returns
returns c = record { least_6 = ap line_of c.check_files.ensures.is_the_reading ∙ worked_cases 14 (meeting [] [] false) (omega arith) }
