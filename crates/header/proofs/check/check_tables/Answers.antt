-- `check::check_tables` meets its contract: exports and hashes are there. Assumes nothing.
use Rattle.header.proofs.Stages.{exports-short, hashes-short, tabled}
use Rattle.header.proofs.check.check_tables.Goals as goal

pub returns-then-n-end : goal.returns-then-n-end
returns-then-n-end c = search exports-short

pub returns-then-n-hashes : goal.returns-then-n-hashes
returns-then-n-hashes c = search hashes-short

pub check_imported-requires : goal.check_imported-requires
check_imported-requires c = search tabled
