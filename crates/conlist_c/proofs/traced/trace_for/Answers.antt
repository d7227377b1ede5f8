-- `conlist_c::trace_for` meets its contract: the call over numbers in the front of the numbers. Assumes nothing.
use Rattle.std.proofs.Common.{rules}
use Rattle.conlist_c.proofs.Laid.{front, traced-laid}
use Rattle.conlist_c.proofs.traced.trace_for.Goals as goal

pub returns : goal.returns
returns c =
    traced-laid _ _ _ _ _ _ _ _ _ _ _ _ _ (front _ _ _ _ _ c.numbers_for-end.ensures (c.fill.ensures.after (search rules)) c.trace.auto.diagnostics) c.trace.ensures
