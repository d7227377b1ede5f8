-- `semantic::Connection::trace_pair` meets its contract. The tracer's rows are the pair's. Assumes nothing.
use Rattle.semantic.proofs.PairLaws.{pair_written}
use Rattle.semantic.proofs.Connection.trace_pair.Goals as goal

pub returns : goal.returns
returns c =
    pair_written _ _ _ _ _ _ c.trace.ensures c.component.ensures c.feature_of.ensures c.of.ensures c.steps_under.ensures.value
    c.component-2.ensures c.feature_of-2.ensures c.new.ensures c.steps_under-2.ensures.value
