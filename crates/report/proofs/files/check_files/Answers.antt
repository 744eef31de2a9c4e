use Rattle.cursor.proofs.Words.{bytes_fit}
use Rattle.report.proofs.FilesReading.{files_sound_and_complete}
use Rattle.report.proofs.files.check_files.Goals as goal

pub returns-in_err-map-clause-sound_and_complete : goal.returns-in_err-map-clause-sound_and_complete
returns-in_err-map-clause-sound_and_complete c = files_sound_and_complete _ _ (bytes_fit _ c.type_inv.map) (bytes_fit _ c.type_inv.plan)

pub returns-in_err-standing-clause-sound_and_complete : goal.returns-in_err-standing-clause-sound_and_complete
returns-in_err-standing-clause-sound_and_complete c = files_sound_and_complete _ _ (bytes_fit _ c.type_inv.map) (bytes_fit _ c.type_inv.plan)

pub returns-clause-sound_and_complete : goal.returns-clause-sound_and_complete
returns-clause-sound_and_complete c = files_sound_and_complete _ _ (bytes_fit _ c.type_inv.map) (bytes_fit _ c.type_inv.plan)
