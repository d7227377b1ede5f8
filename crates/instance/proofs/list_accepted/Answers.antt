-- `instance::list_accepted` meets its contract. Each way out is a law of proofs/Answers.antt. Assumes nothing.
use Rattle.instance.proofs.Answers.{lists-11, lists-12, lists-both}
use Rattle.instance.proofs.list_accepted.Goals as goal

pub returns-in_err-rows : goal.returns-in_err-rows
returns-in_err-rows c = lists-11 _ _ _ _ _ _ _ c.list_connections-counts.ensures.rows _ c.from.ensures _ c.ok_or.ensures.value _ c.in_err-rows.was _ c.from_residual.ensures.1 _ _

pub returns-in_err-diagnostics : goal.returns-in_err-diagnostics
returns-in_err-diagnostics c =
    lists-12 _ _ _ _ _ _ _ c.list_connections-counts.ensures.rows _ c.from.ensures _ c.ok_or.ensures.value
    _ c.in_ok-rows.was _ _ c.list_connections-counts.ensures.diagnostics _ c.from-2.ensures _ c.ok_or-2.ensures.value
    _ c.in_err-diagnostics.was _ c.from_residual-in_err-diagnostics.ensures.1 _ _

pub returns : goal.returns
returns c =
    lists-both _ _ _ _ _ _ _ c.list_connections-counts.ensures.rows _ c.from.ensures _ c.ok_or.ensures.value
    _ c.in_ok-rows.was _ _ c.list_connections-counts.ensures.diagnostics _ c.from-2.ensures _ c.ok_or-2.ensures.value _ c.in_ok-diagnostics.was
