-- `group_match::walk_group` meets its contract: what a walk starts with is zeros. Assumes nothing.
use Rattle.sink.specs.Take.{held}
use Rattle.group_match.proofs.Walks.{visit_ready}
use Rattle.group_match.proofs.walk_group.Goals as goal

pub visit-requires : goal.visit-requires
visit-requires c = visit_ready c.args.walk.now (held c.args.sink.now) _ (c.fill.ensures.after (λ y e. e)) c.requires _ _ (c.fill-2.ensures.after (λ y e. e))
