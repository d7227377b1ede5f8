-- The cycle `visit`, `expand_type` and `walk_features` meets its contracts. Assumes nothing.
use mathlib.Core.Path.{sym, ◌∙◌}
use Rattle.std.proofs.Common.{arith}
use Rattle.group_walk.proofs.Parts.{part_ready, part_behind, expanded_more, expanded_calm, all_behind, listed, nested}
use Rattle.group_walk.proofs.Walk.+expand_type_visit_walk_features.Goals as goal

-- ---- `expand_type`

pub expand_type-walk_features-requires-2 : goal.expand_type-walk_features-requires-2
expand_type-walk_features-requires-2 t c = (
  omega (arith, c.decreases),
  part_ready _ _ _ _ _ _ c.visit-2.ensures.notes_after _ c.in_ok-seen.was _ _ _ c.requires c.visit-2.ensures.calm_after,
)

pub expand_type-returns-clause-behind : goal.expand_type-returns-clause-behind
expand_type-returns-clause-behind t c = part_behind c.args.self.now.purpose _ _ _ _ _ _ c.visit-2.ensures.notes_after _ c.in_ok-seen.was _ c.walk_features-2.ensures.behind

-- ---- `visit`

pub visit-overflow_sub-seen : goal.visit-overflow_sub-seen
visit-overflow_sub-seen t c =
    expanded_more c.requires c.args.at.now c.args.to c.args.visits (omega (arith, c.if-visits-ge-VISITS.false)) c.if-at-eq0.false
    (omega (arith, c.if-to-ge-UNFOUND.false)) _ _ c.expand_type.ensures.notes_after _ c.in_ok-seen.was

pub visit-returns-then-eq-clause-calm_after : goal.visit-returns-then-eq-clause-calm_after
visit-returns-then-eq-clause-calm_after t c =
    expanded_calm c.requires c.args.at.now c.args.to c.args.visits (omega (arith, c.if-visits-ge-VISITS.false)) c.if-at-eq0.false
    (omega (arith, c.if-to-ge-UNFOUND.false)) _ _ c.expand_type.ensures.notes_after _ c.in_ok-seen.was _ c.expand_type.ensures.calm_after (sym c.eq.ensures ∙ c.if-eq.true) _ c.put.ensures

-- ---- `walk_features`

pub walk_features-loop-i-preserved-then-to : goal.walk_features-loop-i-preserved-then-to
walk_features-loop-i-preserved-then-to t c =
    listed _ _ _ _ _ _ _ _ _ c.loop-i.invariant c.loop-i-test.true (sym c.belongs.ensures ∙ c.if-not-belongs.false) (sym c.get_or-to.ensures ∙ c.if-to.true) _ c.take_feature.ensures.same
    (rw (c.name_of-name.ensures, c.kind_of.ensures, c.turn.ensures, c.direction_of.ensures) at c.take_feature.ensures.taken)

pub walk_features-returns-in_err-seen-clause-behind : goal.walk_features-returns-in_err-seen-clause-behind
walk_features-returns-in_err-seen-clause-behind t c = all_behind _ _ _ _ _ _ _ _ _ c.loop-i.invariant _ c.visit.ensures.behind

pub walk_features-loop-i-preserved : goal.walk_features-loop-i-preserved
walk_features-loop-i-preserved t c =
    nested _ _ _ _ _ _ _ _ _ c.loop-i.invariant c.loop-i-test.true (sym c.belongs.ensures ∙ c.if-not-belongs.false) (λ z. c.if-to.false (c.get_or-to.ensures ∙ z)) _ _
    (rw (c.get_or-to.ensures, c.with.ensures, c.name_of-name.ensures) at c.visit.ensures.notes_after) c.visit.ensures.same _ c.visit.ensures.calm_after _ c.in_ok-seen.was
