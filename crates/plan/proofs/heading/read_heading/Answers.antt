use Rattle.cursor.proofs.Words.{bytes_fit}
use Rattle.plan.proofs.HeadingTells.{heading_faults_exactly, heading_read_exactly}
use Rattle.plan.proofs.heading.read_heading.Goals as goal

pub returns-in_err-high-clause-refused_exactly : goal.returns-in_err-high-clause-refused_exactly
returns-in_err-high-clause-refused_exactly c = heading_faults_exactly _ (bytes_fit _ c.type_inv.bytes)

pub returns-then-not-contains-clause-refused_exactly : goal.returns-then-not-contains-clause-refused_exactly
returns-then-not-contains-clause-refused_exactly c = heading_faults_exactly _ (bytes_fit _ c.type_inv.bytes)

pub returns-in_err-trips-clause-read_exactly : goal.returns-in_err-trips-clause-read_exactly
returns-in_err-trips-clause-read_exactly c = heading_read_exactly _ (bytes_fit _ c.type_inv.bytes)

pub returns-in_err-trips-clause-refused_exactly : goal.returns-in_err-trips-clause-refused_exactly
returns-in_err-trips-clause-refused_exactly c = heading_faults_exactly _ (bytes_fit _ c.type_inv.bytes)

pub returns-clause-read_exactly : goal.returns-clause-read_exactly
returns-clause-read_exactly c = heading_read_exactly _ (bytes_fit _ c.type_inv.bytes)

pub returns-clause-refused_exactly : goal.returns-clause-refused_exactly
returns-clause-refused_exactly c = heading_faults_exactly _ (bytes_fit _ c.type_inv.bytes)
