-- `group_match::match_groups` meets its contract: the destination has no group, or too many visits, or both are walked. Assumes nothing.
use mathlib.Core.Path.{refl}
use Rattle.lent.specs.Model.{model}
use Rattle.links.specs.Walk.{groups_of}
use Rattle.sink.specs.Take.{held}
use Rattle.group_match.proofs.Walks.{matched_none, matched_over, matching_ready, matched_both}
use Rattle.group_match.proofs.match_groups.Goals as goal

pub returns-in_default-clause-matched : goal.returns-in_default-clause-matched
returns-in_default-clause-matched c =
    matched_none (model c.args.m.now) (groups_of (model c.args.m.now) c.args.links.now) refl c.args.pair (held c.args.sink.now) _ c.in_default.is _ c.walk_source.ensures.walked

pub returns-in_err-used-clause-matched : goal.returns-in_err-used-clause-matched
returns-in_err-used-clause-matched c =
    matched_over (model c.args.m.now) (groups_of (model c.args.m.now) c.args.links.now) refl c.args.pair (held c.args.sink.now) _ _ c.in-Some.is c.args.sink.now.memo.now c.args.kept.now c.requires
    c.keep_firsts.new.kept _ _ refl c.from_residual.ensures c.in_err-used.ensures

pub walk_source-requires-2 : goal.walk_source-requires-2
walk_source-requires-2 c =
    matching_ready (model c.args.m.now) (groups_of (model c.args.m.now) c.args.links.now) refl c.args.pair (held c.args.sink.now) (held c.args.sink.now) _ c.in-Some.is c.args.sink.now.memo.now c.args.kept.now c.requires
    c.keep_firsts.new.kept _ c.in_ok-used.ensures _ refl _

pub returns-clause-matched : goal.returns-clause-matched
returns-clause-matched c =
    matched_both (model c.args.m.now) (groups_of (model c.args.m.now) c.args.links.now) refl c.args.pair _ _ _ c.in-Some.is c.args.sink.now.memo.now c.args.kept.now c.requires
    c.keep_firsts.new.kept _ c.in_ok-used.ensures _ refl refl refl refl _ c.walk_source-2.ensures.walked
