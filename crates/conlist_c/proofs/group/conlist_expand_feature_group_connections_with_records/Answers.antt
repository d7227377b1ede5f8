-- `conlist_c::conlist_expand_feature_group_connections_with_records` meets its contract: the listing over the numbers, and then its diagnostics in the
-- caller's records. Assumes nothing.
use Rattle.conlist_c.proofs.Laid.{group-records}
use Rattle.conlist_c.proofs.group.conlist_expand_feature_group_connections_with_records.Goals as goal

pub returns : goal.returns
returns c = group-records _ _ _ _ _ _ _ _ _ _ _ _ c.expand_for.ensures c.fill_records.ensures
