-- `conlist_c::conlist_list_connections_ignoring_case_with_records` meets its contract: the listings over the numbers, and then the diagnostics of each in
-- the caller's records. Assumes nothing.
use Rattle.name.specs.Reading.{comparison}
use Rattle.conlist_c.proofs.Laid.{both-records}
use Rattle.conlist_c.proofs.ignoring_case.conlist_list_connections_ignoring_case_with_records.Goals as goal

pub returns : goal.returns
unfolding comparison
returns c = both-records _ _ _ _ _ _ _ _ _ _ c.list_for.ensures c.fill_records.ensures c.fill_records-2.ensures
