-- `feature_group::write_features` meets its contract: too many visits, too many features, or all of them written. Assumes nothing.
use mathlib.Core.Path.{sym, ap, ◌∙◌}
use Rattle.std.proofs.Common.{rules}
use Rattle.sink.specs.Take.{Ready}
use Rattle.group_walk.proofs.Calm.{calm-zeros}
use Rattle.feature_group.proofs.Answers.{writes_13, writes_11, writes_all}
use Rattle.feature_group.proofs.write_features.Goals as goal

pub visit-requires : goal.visit-requires
unfolding Ready
visit-requires c =
    record { ready = tt; known = calm-zeros _ _ _ 45056 }

pub returns-in_err-visits : goal.returns-in_err-visits
returns-in_err-visits c =
    writes_13 _ _ _ _ _ _ _ _ c.new-2.ensures c.visit.ensures.notes_after
    _ c.from.ensures _ (sym c.ok_or.ensures.value ∙ c.in_err-visits.was) _ c.from_residual.ensures.1 _

pub returns-in_err-used : goal.returns-in_err-used
returns-in_err-used c =
    writes_11 _ _ _ _ _ _ _ _ c.new-2.ensures c.visit.ensures.notes_after
    _ _ (sym c.ok_or.ensures.value ∙ c.in_ok-visits.was) (ap (λ t. t.used) c.new.ensures) _ c.from-2.ensures _ (sym c.ok_or-2.ensures.value ∙ c.in_err-used.was) _ c.from_residual-in_err-used.ensures.1 _

pub returns : goal.returns
returns c =
    writes_all _ _ _ _ _ _ _ _ c.new-2.ensures c.visit.ensures.notes_after
    _ _ (sym c.ok_or.ensures.value ∙ c.in_ok-visits.was) (ap (λ t. t.used) c.new.ensures) _ _ (sym c.ok_or-2.ensures.value ∙ c.in_ok-used.was) _ (search rules)
