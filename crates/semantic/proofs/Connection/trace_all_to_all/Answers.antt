-- `semantic::Connection::trace_all_to_all` meets its contract. Assumes nothing.
use mathlib.Core.Path.{◌∙◌}
use Rattle.children.specs.Found.{children_left}
use Rattle.output.proofs.Writing.{wrote_none, each_turn, each_full, each_end}
use Rattle.semantic.proofs.PairLaws.{all_barren}
use Rattle.semantic.proofs.Connection.trace_all_to_all.Goals as goal

pub returns-then-is_none : goal.returns-then-is_none
returns-then-is_none c = wrote_none _ (all_barren _ _ _ _ (children_left c.args.sources) (children_left c.args.destinations) c.first.ensures c.if-is_none.ensures)

pub returns-in_err-trace_beside : goal.returns-in_err-trace_beside
returns-in_err-trace_beside c = each_full _ c.loop-i.invariant.rows c.in-Some.ensures.steps.0 c.trace_beside.ensures c.in_err-trace_beside.was c.from_residual.ensures

pub loop-i-preserved : goal.loop-i-preserved
loop-i-preserved c = record {
  tables = c.in-Some.ensures.steps.2 ∙ c.loop-i.invariant.tables;
  rows = each_turn _ c.loop-i.invariant.rows c.in-Some.ensures.steps.0 c.trace_beside.ensures c.in_ok-trace_beside.was;
}

pub returns : goal.returns
returns c = each_end _ c.loop-i.invariant.rows c.in-None.ensures.steps.0.0
