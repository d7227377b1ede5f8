-- `conlist_c::expand_for` meets its contract: the call over numbers in the front of the numbers. Assumes nothing.
use Rattle.std.proofs.Common.{rules}
use Rattle.conlist_c.proofs.Laid.{front, group-laid}
use Rattle.conlist_c.proofs.group.expand_for.Goals as goal

pub returns : goal.returns
returns c =
    group-laid _ _ _ _ _ _ _ _ _ _ _ _ _ _ (front _ _ _ _ _ c.numbers_for-end.ensures (c.fill.ensures.after (search rules)) c.expand.auto.diagnostics) c.expand.ensures
