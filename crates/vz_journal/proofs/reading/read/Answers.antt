use Rattle.vz_journal.proofs.Found.{is_reading, finds}
use Rattle.vz_journal.proofs.reading.read.Goals as goal

pub returns-clause-exact : goal.returns-clause-exact
returns-clause-exact c = is_reading c.args.bytes.now c.read_log.result c.read_log.ensures

pub returns-clause-only : goal.returns-clause-only
returns-clause-only c = finds c.args.bytes.now c.read_log.result c.read_log.ensures
