-- A row within the limits.
use Rattle.wrp_street.proofs.RowSteps.{still_growing}
use Rattle.wrp_street.proofs.reader.TableReader.add_record.Goals as goal

pub returns-clause-growing : goal.returns-clause-growing
returns-clause-growing c = still_growing c.add.new.self _ c.keep_limits.result c.in_ok-add.ensures.counted c.keep_limits.ensures
