-- `endpoint::end_component` meets its contract: the owner whose children are looked for is a component. Assumes nothing.
use Rattle.as5506.proofs.Accepted.{sound}
use Rattle.endpoint.proofs.end_component.Goals as goal

pub named-requires : goal.named-requires
named-requires c = rw c.owner_of-owner.ensures ((sound _ c.args.tree.now.linked.ok).owners c.args.i c.requires)
