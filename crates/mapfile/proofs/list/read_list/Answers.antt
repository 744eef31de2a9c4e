use Rattle.cursor.proofs.Words.{bytes_fit}
use Rattle.maps.specs.ListMaps.{network_of}
use Rattle.mapfile.proofs.FaultAnswers.{passed_on}
use Rattle.mapfile.proofs.ListLayout.{list_read_exactly, list_faults_exactly}
use Rattle.mapfile.proofs.list.read_list.Goals as goal

pub returns-in_err-fill_list : goal.returns-in_err-fill_list
returns-in_err-fill_list c = record {
  is_the_reading = passed_on (λ map. network_of map.now) _ c.from_residual.result c.in_err-fill_list.field-0.0 c.in_err-fill_list.ensures c.from_residual.ensures.1;
  read_exactly = list_read_exactly _ (bytes_fit _ c.type_inv.bytes);
  refused_exactly = list_faults_exactly _ (bytes_fit _ c.type_inv.bytes);
}

pub returns : goal.returns
returns c = record {
  is_the_reading = c.in_ok-fill_list.ensures;
  read_exactly = list_read_exactly _ (bytes_fit _ c.type_inv.bytes);
  refused_exactly = list_faults_exactly _ (bytes_fit _ c.type_inv.bytes);
}
