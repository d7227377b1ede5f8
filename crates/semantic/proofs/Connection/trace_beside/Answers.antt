-- `semantic::Connection::trace_beside` meets its contract. Assumes nothing.
use mathlib.Core.Path.{◌∙◌}
use Rattle.output.proofs.Writing.{each_turn, each_full, each_end}
use Rattle.semantic.proofs.Connection.trace_beside.Goals as goal

pub returns-in_err-trace_on : goal.returns-in_err-trace_on
returns-in_err-trace_on c = each_full _ c.loop-i.invariant.rows c.in-Some.ensures.steps.0 c.trace_on.ensures c.in_err-trace_on.was c.from_residual.ensures

pub loop-i-preserved : goal.loop-i-preserved
loop-i-preserved c = record {
  tables = c.in-Some.ensures.steps.2 ∙ c.loop-i.invariant.tables;
  rows = each_turn _ c.loop-i.invariant.rows c.in-Some.ensures.steps.0 c.trace_on.ensures c.in_ok-trace_on.was;
}

pub returns : goal.returns
returns c = each_end _ c.loop-i.invariant.rows c.in-None.ensures.steps.0.0
