-- `conlist_c::conlist_compute_semantic_connections_with_records` meets its contract: the listing over the numbers, and then its diagnostics in the caller's
-- records. Assumes nothing.
use Rattle.conlist_c.proofs.Laid.{traced-records}
use Rattle.conlist_c.proofs.traced.conlist_compute_semantic_connections_with_records.Goals as goal

pub returns : goal.returns
returns c = traced-records _ _ _ _ _ _ _ _ _ _ _ c.trace_for.ensures c.fill_records.ensures
