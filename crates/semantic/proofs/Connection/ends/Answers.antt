-- `semantic::Connection::ends` meets its contract. Assumes nothing.
use Rattle.std.proofs.Common.{rules}
use Rattle.as5506.specs.Tracing.{shape}
use Rattle.semantic.proofs.EndLaws.{ends_faulty, ends_across, ends_neither}
use Rattle.semantic.proofs.Connection.ends.Goals as goal

pub returns-then-not-has_features : goal.returns-then-not-has_features
unfolding shape
returns-then-not-has_features c = ends_faulty _ (search rules)

pub returns-in-false-false : goal.returns-in-false-false
unfolding shape
returns-in-false-false c = ends_neither _ (search rules)

pub returns-in-true-true : goal.returns-in-true-true
unfolding shape
returns-in-true-true c = ends_across _ (search rules) _ c.pattern.ensures _ _ c.named.ensures c.named-in-true-true.ensures
