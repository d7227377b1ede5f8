-- `conlist_c::list_for` meets its contract: the call over numbers in the front of the numbers of each listing. Assumes nothing.
use Rattle.std.proofs.Common.{rules}
use Rattle.conlist_c.proofs.Laid.{front, both-laid}
use Rattle.conlist_c.proofs.both.list_for.Goals as goal

pub returns : goal.returns
returns c =
    both-laid _ _ _ _ _ _ _ _ _ _ _ _ _ _ _ _ _ _ _ _ _ _ _ _
    (front _ _ _ _ _ c.numbers_for-end.ensures (c.fill.ensures.after (search rules)) c.list.auto.diagnostics)
    (front _ _ _ _ _ c.numbers_for-group_end.ensures (c.fill-2.ensures.after (search rules)) c.list.auto.group_diagnostics) c.list.ensures
