-- `group_match::keep_firsts` meets its contract: the walk has too many visits, or leaves the blocks of first appearances. Assumes nothing.
use mathlib.Core.Path.{refl}
use Rattle.std.proofs.Common.{rules}
use Rattle.lent.specs.Model.{model}
use Rattle.links.specs.Walk.{groups_of}
use Rattle.sink.specs.Take.{held}
use Rattle.group_match.proofs.Walks.{firsts_over, firsts_kept}
use Rattle.group_match.proofs.keep_firsts.Goals as goal

pub returns-in_err-walk_group : goal.returns-in_err-walk_group
returns-in_err-walk_group c = rw c.from_residual.ensures (firsts_over (model c.args.m.now) (groups_of (model c.args.m.now) c.args.links.now) refl c.args.to c.args.memo.now c.args.kept.now c.requires (held c.walk_group.new.sink) _ c.new.ensures c.in_err-walk_group.ensures.walked)

pub returns : goal.returns
returns c =
    firsts_kept (model c.args.m.now) (groups_of (model c.args.m.now) c.args.links.now) refl c.args.to c.args.memo.now c.args.kept.now c.requires (held c.walk_group.new.sink) _ c.new.ensures _ c.in_ok-walk_group.ensures.walked
    _ refl _ (search rules)
