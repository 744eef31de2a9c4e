-- The worked cases, by computing.
use Rattle.std.proofs.Common.{refl}
use Rattle.cases.specs.Worked.{ComesOut, worked, WorkedCases}
use Rattle.std.specs.Fmt.{digits}
use Rattle.std.proofs.lemmas.List.Elements.{All-from_recursion}
use Rattle.maps.specs.Networks.{founding, joining}
use Rattle.mapfile.specs.GridFiles.{grid_reading}
use Rattle.mapfile.specs.ListFiles.{list_reading}
use Rattle.mapfile.specs.MapFiles.{map_reading}
use Rattle.motion.specs.Listed.{in_conflict, route_check}
use Rattle.plan.specs.Commands.{commands}
use Rattle.plan.specs.Headings.{heading}
use Rattle.plan.specs.Reading.{plan_reading}
use Rattle.report.specs.Files.{files_reading}
use Rattle.tally.specs.CallAnswers.{closing, showing, splitting}
use Rattle.tally.specs.Openings.{opened}

pub worked_cases : WorkedCases
unfolding digits map_reading list_reading grid_reading founding joining in_conflict route_check files_reading plan_reading heading commands opened showing splitting closing
worked_cases = All-from_recursion ComesOut worked (refl, (refl, (refl, (refl, (refl, (refl, (refl, (refl, (refl, (refl, (refl, (refl, (refl, (refl, (refl, (refl, (refl, (refl, (refl, (refl, (refl, (refl, (refl, (refl, tt))))))))))))))))))))))))
